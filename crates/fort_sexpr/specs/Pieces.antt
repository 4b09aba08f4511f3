-- To believe: what contracts see of a reader that is fed a text in pieces.
use Rattle.std.specs.Prelude.{ℕ, List, Option}
use Rattle.fort_sexpr.specs.declared.fault.SFault.{SFault}

-- the bytes that were fed, or, once one of them was at fault, this fault and no bytes
pub record Fed : Type 0 where
  pub bytes : List ℕ
  pub fault : Option SFault
