-- Inside: what a reader keeps of a text that isn't whole yet.
use Rattle.std.specs.Prelude.{◌≡◌, ◌^◌, ◌<◌, [], length, IfSome}
use Rattle.fort_sexpr.specs.declared.fault.SFault.{SFault}
use Rattle.fort_sexpr.specs.declared.fault.SFault.TheVariants.{Memory}
use Rattle.fort_sexpr.specs.declared.front.Front.{Front}
use Rattle.fort_sexpr.specs.declared.reader.Reader.TheInside.{Inside}
use Rattle.fort_sexpr.specs.Progress.{GoesOn}
use Rattle.fort_sexpr.specs.Reading.{HasReadFront, IsSameWalk}

-- all that has come is read, up to what goes on at its end
pub record IsRead (f : Front) : Type 0 where
  pub few : length f.bytes.items < 2 ^ 32
  pub read : HasReadFront f.bytes.items f.walk f.at
  pub seen : GoesOn f.bytes.items f.at (length f.bytes.items)

-- nothing changes but the room
pub record IsSameFront (old new : Front) : Type 0 where
  pub bytes_same : new.bytes.items ≡ old.bytes.items
  pub walk_same : IsSameWalk old.walk new.walk
  pub at_same : new.at ≡ old.at

-- nothing is kept in front of a fault, which a byte brought
pub record IsStopped (r : Inside) (fault : SFault) : Type 0 where
  pub nothing : r.front.bytes.items ≡ []
  pub not_memory : fault ≡ Memory → ⊥

-- what has come is read, and nothing is once the text is at fault
pub record IsReader (r : Inside) : Type 0 where
  pub read : IsRead r.front
  pub stopped : IfSome r.fault (IsStopped r)
