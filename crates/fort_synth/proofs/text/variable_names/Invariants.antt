use Rattle.std.proofs.Common.{◌≡◌, map, vec_items}
use Rattle.std.specs.Prelude.{filter}
use Rattle.std.specs.List.{range_with_len}
use Rattle.fort_answers.specs.RuleText.{v_name, is_undeclared}
use Rattle.fort_synth.proofs.text.variable_names.Given as goal

-- those before v with this number that aren't declared
abbrev pub invariant-loop-k : goal.invariant-loop-k
invariant-loop-k l =
    map vec_items l.names.items ≡ filter (is_undeclared l.signature) (map v_name (range_with_len 0 l.k))
