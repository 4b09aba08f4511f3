use Rattle.std.proofs.Common.{rules, ◌≡◌, sym, ◌∙◌, arith}
use Rattle.std.proofs.Math.Dec.{ltb}
use Rattle.std.proofs.lemmas.List.Sorted.{IsPartitionPoint-from_clause, IsPartitionedBy-ltb}
use Rattle.fort_witness.specs.Choices.{lists_of, numbers_from}
use Rattle.fort_witness.proofs.NodeListLaws.{numbers_rise, first_in, none_in, list_at}
use Rattle.fort_witness.proofs.node_lists.NodeLists.first_from.Goals as goal

pub returns-then-node-end : goal.returns-then-node-end
returns-then-node-end c = λ n qs h.
    let lists = lists_of c.args.self.now in
    let list = c.as_slice-list.result.now in
    let e : list ≡ numbers_from lists c.args.state = c.as_slice-list.ensures.value ∙ list_at c.args.self.now c.args.state c.index.result.now c.requires c.index.ensures in
    let point = IsPartitionPoint-from_clause (λ y. ltb y c.args.start) list c.partition_point-place.result c.partition_point-place.ensures.partitioned (IsPartitionedBy-ltb (λ y. y) list c.args.start (numbers_rise n qs lists c.args.state list h e)) (λ a r q k. search rules) in
    let at = c.in-Some.ensures.lookup.3 in
    first_in n qs lists c.args.state c.args.start c.args.end c.partition_point-place.result list c.in-Some.node.now h c.requires e point at.0 (sym (at.1 0)) (omega (arith, c.if-node-end.true))

pub returns-else-node-end : goal.returns-else-node-end
returns-else-node-end c = λ n qs h.
    let lists = lists_of c.args.self.now in
    let list = c.as_slice-list.result.now in
    let e : list ≡ numbers_from lists c.args.state = c.as_slice-list.ensures.value ∙ list_at c.args.self.now c.args.state c.index.result.now c.requires c.index.ensures in
    let point = IsPartitionPoint-from_clause (λ y. ltb y c.args.start) list c.partition_point-place.result c.partition_point-place.ensures.partitioned (IsPartitionedBy-ltb (λ y. y) list c.args.start (numbers_rise n qs lists c.args.state list h e)) (λ a r q k. search rules) in
    let at = c.in-Some.ensures.lookup.3 in
    none_in n qs lists c.args.state c.args.start c.args.end c.partition_point-place.result list h c.requires e point (λ l. omega (arith, c.if-node-end.false, at.1 0))

pub returns-in-None : goal.returns-in-None
returns-in-None c = λ n qs h.
    let lists = lists_of c.args.self.now in
    let list = c.as_slice-list.result.now in
    let e : list ≡ numbers_from lists c.args.state = c.as_slice-list.ensures.value ∙ list_at c.args.self.now c.args.state c.index.result.now c.requires c.index.ensures in
    let point = IsPartitionPoint-from_clause (λ y. ltb y c.args.start) list c.partition_point-place.result c.partition_point-place.ensures.partitioned (IsPartitionedBy-ltb (λ y. y) list c.args.start (numbers_rise n qs lists c.args.state list h e)) (λ a r q k. search rules) in
    none_in n qs lists c.args.state c.args.start c.args.end c.partition_point-place.result list h c.requires e point (λ l. absurd (omega (arith, c.in-None.ensures.lookup.3)))
