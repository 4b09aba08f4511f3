use Rattle.fort_formulas.specs.CoreView.{as_core}
use Rattle.fort_engine.proofs.decide.decide_with.Goals as goal

pub decide_outlined-requires : goal.decide_outlined-requires
decide_outlined-requires c = (as_core c.args.core.now, record { decided = c.requires; laid = c.in_ok-outline.ensures })
