use Rattle.fort_sexpr.proofs.ReadingLaws.{reading_begun}
use Rattle.fort_sexpr.proofs.walk.TextWalk.new.Goals as goal

pub returns : goal.returns
returns c = λ bytes. reading_begun bytes _ _ c.new.ensures.items c.new-2.ensures.items
