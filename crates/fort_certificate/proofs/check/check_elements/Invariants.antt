use Rattle.std.proofs.Common.{◌≡◌, map, drop}
use Rattle.fort_certificate.specs.ReadView.{as_slot, as_last}
use Rattle.fort_certificate.proofs.SlotLaws.{IsPassed}
use Rattle.fort_certificate.proofs.check.check_elements.Given as goal

abbrev pub invariant-places : goal.invariant-places
invariant-places l =
    IsPassed l.list.bytes (map as_slot l.first) (as_last l.last) (drop 1 l.list.forms) l.rest.forms l.place × (l.rest.bytes ≡ l.list.bytes)
