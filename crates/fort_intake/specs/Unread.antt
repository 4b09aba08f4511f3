-- To believe: when a text that a source gave is told to be at fault.
use Rattle.std.specs.Prelude.{ℕ, ◌≤◌, List, length, Option}
use Rattle.std.specs.Io.KnownBytes.{Consumes, IsAtEnd}
use Rattle.fort_sexpr.specs.declared.fault.SFault.{SFault}
use Rattle.fort_sexpr.specs.declared.fault.SFault.TheVariants as faults
use Rattle.fort_sexpr.specs.Faults.{IsFirstFaultOf}
use Rattle.fort_intake.specs.declared.unread.Unread.{Unread}
use Rattle.fort_intake.specs.declared.unread.Unread.TheVariants as unread

-- the source gave all its bytes, no more than the limit, and this is their first fault
pub record IsTextAtFault (limit : ℕ) (old new : Option (List ℕ)) (fault : SFault) : Type 0 where
  pub bytes : List ℕ
  pub given : Consumes old new bytes
  pub end : IsAtEnd new
  pub within : length bytes ≤ limit
  pub first : IsFirstFaultOf bytes fault

-- the source gave all its bytes, no more than so many
pub record IsPassed (left : ℕ) (old new : Option (List ℕ)) : Type 0 where
  pub bytes : List ℕ
  pub given : Consumes old new bytes
  pub end : IsAtEnd new
  pub within : length bytes ≤ left

-- why a text is unread that the reader of texts refuses
abbrev pub unread_for : SFault → Unread
unread_for faults.Memory = unread.Memory
unread_for fault = unread.Text fault
