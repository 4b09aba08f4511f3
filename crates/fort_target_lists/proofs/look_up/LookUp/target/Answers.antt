use Rattle.std.proofs.Common.{◌∙◌}
use Rattle.fort_target_lists.proofs.LookUpLaws.{dense_look_up}
use Rattle.fort_target_lists.proofs.look_up.LookUp.target.Goals as goal

pub target-requires-in-None-clause-states : goal.target-requires-in-None-clause-states
target-requires-in-None-clause-states c =
    let r = c.requires in
    (dense_look_up r.0 r.1 c.args.states.now c.args.self.now r.2 r.3 (c.in-None.ensures.none)).states

pub target-requires-in-None-clause-within : goal.target-requires-in-None-clause-within
target-requires-in-None-clause-within c =
    let r = c.requires in
    (dense_look_up r.0 r.1 c.args.states.now c.args.self.now r.2 r.3 (c.in-None.ensures.none)).within

pub returns-in-None : goal.returns-in-None
returns-in-None c = λ body f finds whole.
    c.target-in-None.ensures ∙ (dense_look_up body f c.args.states.now c.args.self.now finds whole (c.in-None.ensures.none)).is
