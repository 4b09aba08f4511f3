use Rattle.std.proofs.Common.{◌≡◌, refl}
use Rattle.std.specs.Vec.{with_item}
use Rattle.fort_witness.specs.declared.node_lists.NodeLists.{NodeLists}
use Rattle.fort_witness.proofs.NodeListLaws.{pushed, one_more}
use Rattle.fort_witness.proofs.node_lists.NodeLists.push.Goals as goal

pub returns-clause-listed : goal.returns-clause-listed
returns-clause-listed c = λ n qs h e.
    let new : NodeLists = record { lists = with_item c.args.self.now.lists c.args.state c.push.new.self } in
    let items : new.lists.items ≡ new.lists.items = refl in
    pushed n qs c.args.self.now new c.args.state c.args.node c.index_mut.result.now c.push.new.self h c.requires c.index_mut.ensures.value c.in_ok-push.ensures.items items e

pub returns-clause-counts : goal.returns-clause-counts
returns-clause-counts c =
    let new : NodeLists = record { lists = with_item c.args.self.now.lists c.args.state c.push.new.self } in
    let items : new.lists.items ≡ new.lists.items = refl in
    one_more c.args.self.now new c.args.state c.args.node c.index_mut.result.now c.push.new.self c.requires c.index_mut.ensures.value c.in_ok-push.ensures.items items
