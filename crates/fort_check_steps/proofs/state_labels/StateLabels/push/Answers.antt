use Rattle.fort_check_steps.proofs.WideKidLaws.{kids_more}
use Rattle.fort_check_steps.proofs.state_labels.StateLabels.push.Goals as goal

pub invariant_of-self : goal.invariant_of-self
invariant_of-self c =
    let a = c.self.inside in
    let i = c.self.invariant in
    record {
      kids = kids_more a.sparse c.push.new.self a.kids c.args.label.now c.push.ensures.labels c.push.ensures.width i.kids;
      label_room = i.label_room;
      kids_space = i.kids_space;
    }
