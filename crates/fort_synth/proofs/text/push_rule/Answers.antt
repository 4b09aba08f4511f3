use Rattle.std.proofs.Common.{arith}
use Rattle.fort_synth.proofs.TextNames.{names_enough, names_right}
use Rattle.fort_synth.proofs.text.push_rule.Goals as goal

pub push_pattern-requires-clause-named : goal.push_pattern-requires-clause-named
push_pattern-requires-clause-named c =
    omega (arith, names_enough c.args.signature.now c.place_count.result c.in_ok-names.names.items c.deref.result.now c.in_ok-names.ensures.lawful (omega (arith, c.requires.few.left)) c.in_ok-names.ensures.names c.deref.ensures.value)

pub push_pattern-requires-clause-names : goal.push_pattern-requires-clause-names
push_pattern-requires-clause-names c =
    names_right c.args.signature.now c.place_count.result c.in_ok-names.names.items c.deref.result.now c.in_ok-names.ensures.lawful (omega (arith, c.requires.few.left)) c.in_ok-names.ensures.names c.deref.ensures.value

pub push_pattern-requires-2-clause-names : goal.push_pattern-requires-2-clause-names
push_pattern-requires-2-clause-names c =
    names_right c.args.signature.now c.place_count.result c.in_ok-names.names.items c.deref-2.result.now c.in_ok-names.ensures.lawful (omega (arith, c.requires.few.left)) c.in_ok-names.ensures.names c.deref-2.ensures.value
