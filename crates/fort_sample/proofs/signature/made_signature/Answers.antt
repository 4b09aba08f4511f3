use Rattle.std.proofs.Common.{◌∙◌, arith}
use Rattle.fort_sample.proofs.MadeNames.{constant_is_name, constant_is_new, f_is_new, count_constants, next_constant}
use Rattle.fort_sample.proofs.signature.made_signature.Goals as goal

pub add_symbol-requires-clause-few : goal.add_symbol-requires-clause-few
add_symbol-requires-clause-few c = omega (arith, count_constants c.loop-i.i c.loop-i.signature c.loop-i.invariant)

pub add_symbol-requires-clause-named : goal.add_symbol-requires-clause-named
add_symbol-requires-clause-named c = rw (c.deref.ensures.value, c.in_ok-name.ensures) (constant_is_name c.loop-i.i (omega arith))

pub add_symbol-requires-clause-other : goal.add_symbol-requires-clause-other
add_symbol-requires-clause-other c =
    rw (c.loop-i.invariant, c.deref.ensures.value, c.in_ok-name.ensures) (constant_is_new c.loop-i.i (omega arith))

pub loop-i-preserved : goal.loop-i-preserved
loop-i-preserved c =
    next_constant c.loop-i.i c.deref.result.now c.loop-i.signature c.add_symbol.new.signature c.loop-i.invariant
    (c.deref.ensures.value ∙ c.in_ok-name.ensures) c.in_ok-add_symbol.ensures

pub add_symbol-requires-2-clause-few : goal.add_symbol-requires-2-clause-few
add_symbol-requires-2-clause-few c = omega (arith, count_constants c.loop-i.i c.loop-i.signature c.loop-i.invariant)

pub add_symbol-requires-2-clause-other : goal.add_symbol-requires-2-clause-other
add_symbol-requires-2-clause-other c = rw c.loop-i.invariant (f_is_new c.loop-i.i)
