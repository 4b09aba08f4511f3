-- Inside: which slots, heads and kinds of faults those of the program are.
use Rattle.std.specs.Prelude.{ℕ, zero, suc, List, [], ◌∷◌, Option, None, Some}
use Rattle.fort_certificate_theory.specs.CertificateFaults as grammar
use Rattle.fort_certificate.specs.declared.value.Wrong.{Wrong}
use Rattle.fort_certificate.specs.declared.value.Wrong.TheVariants.{Form}
use Rattle.fort_certificate.specs.declared.value.Wrong.TheVariants as wrongs
use Rattle.fort_certificate.specs.declared.build.Unread.{Unread}
use Rattle.fort_certificate.specs.declared.build.Unread.TheVariants as unread
use Rattle.fort_certificate.specs.declared.slot.Slot.{Slot}
use Rattle.fort_certificate.specs.declared.slot.Slot.TheVariants.{Which, Number, Verdict, Entry, Count}
use Rattle.fort_certificate.specs.declared.slot.Head.{Head}
use Rattle.fort_certificate.specs.declared.slot.Head.TheVariants.{Closure, Part, Merge, Counts, Value}

abbrev pub as_kind : Wrong → grammar.FaultKind
as_kind Form = grammar.AsForm
as_kind wrongs.Number = grammar.AsNumber

-- want of memory is nothing wrong with a form
abbrev pub as_wrong : Unread → Option grammar.FaultKind
as_wrong (unread.Wrong wrong) = Some (as_kind wrong)
as_wrong unread.Memory = None

abbrev pub as_slot : Slot → grammar.Slot
as_slot Which = grammar.WhichSlot
as_slot Number = grammar.NumberSlot
as_slot Verdict = grammar.VerdictSlot
as_slot Entry = grammar.PairSlot
as_slot Count = grammar.CountSlot

abbrev pub as_last : Option Slot → Option grammar.Slot
as_last None = None
as_last (Some slot) = Some (as_slot slot)

abbrev pub as_head : Head → grammar.StepHead
as_head Closure = grammar.ClosureHead
as_head Part = grammar.PartHead
as_head Merge = grammar.MergeHead
as_head Counts = grammar.CountsHead
as_head Value = grammar.ValueHead

-- what may stand at a place
abbrev pub slot_at : ℕ → List grammar.Slot → Option grammar.Slot → Option grammar.Slot
slot_at i [] last = last
slot_at zero (s ∷ ss) last = Some s
slot_at (suc i) (s ∷ ss) last = slot_at i ss last
