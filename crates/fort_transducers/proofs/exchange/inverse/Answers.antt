use Rattle.fort_transducers.specs.declared.agtt.Agtt.{Agtt}
use Rattle.fort_transducers.proofs.InverseLaws.{NamesItsStates-inverse, Transduces-inverse}
use Rattle.fort_transducers.proofs.exchange.inverse.Goals as goal

pub returns-clause-related : goal.returns-clause-related
returns-clause-related c =
    let inverse : Agtt = record { left = c.in_ok-copy.field-0; right = c.in_ok-copy-2.field-0; pairs = c.in_ok-exchanged.field-0 } in
    Transduces-inverse c.args.agtt.now inverse c.in_ok-copy.ensures c.in_ok-copy-2.ensures (rw c.deref.ensures.value at c.in_ok-exchanged.ensures)

pub returns-clause-named : goal.returns-clause-named
returns-clause-named c =
    let inverse : Agtt = record { left = c.in_ok-copy.field-0; right = c.in_ok-copy-2.field-0; pairs = c.in_ok-exchanged.field-0 } in
    NamesItsStates-inverse c.args.agtt.now inverse c.in_ok-copy.ensures c.in_ok-copy-2.ensures (rw c.deref.ensures.value at c.in_ok-exchanged.ensures)
