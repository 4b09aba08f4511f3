use Rattle.std.proofs.Common.{◌≡◌, ◌++◌, map, take}
use Rattle.fort_terms.specs.PatternView.{as_pair}
use Rattle.fort_synth.specs.TextLines.{pair_lines}
use Rattle.fort_synth.proofs.text.write_rules.Given as goal

-- the rules before this one are written
abbrev pub invariant-loop-rule : goal.invariant-loop-rule
invariant-loop-rule l =
    l.text.items ≡ l.initial.text.items ++ pair_lines l.system.signature (map as_pair (take l.rule-index l.rule-items))
