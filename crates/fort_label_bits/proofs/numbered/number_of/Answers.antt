use Rattle.fort_label_bits.proofs.numbered.number_of.Goals as goal

pub places_of-requires-clause-among : goal.places_of-requires-clause-among
places_of-requires-clause-among c =
    rw c.as_slice.ensures (c.requires.closed.closed c.in-App.sym.0 c.in-App.args (rw c.in-App.is at c.requires.listed))
