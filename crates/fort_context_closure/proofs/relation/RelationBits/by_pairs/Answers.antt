use Rattle.std.proofs.Common.{◌∙◌}
use Rattle.std.proofs.lemmas.Result.{IfOk-weaker}
use Rattle.fort_relations.specs.RelView.{as_rel}
use Rattle.fort_context_closure.proofs.MakerLaws.{ListsRules-own, relation-by_pairs}
use Rattle.fort_context_closure.proofs.relation.RelationBits.by_pairs.Goals as goal

pub of_rules-requires : goal.of_rules-requires
of_rules-requires c = ListsRules-own _ c.in_ok-list.list c.in_ok-list.ensures

pub returns : goal.returns
returns c =
    IfOk-weaker c.of_rules.result _ _
    (λ cl made.
    relation-by_pairs c.args.system.now (as_rel c.args.rel) c.args.index c.args.x c.args.y c.in_ok-list.list c.args.pairs.now cl c.in_ok-list.ensures made.0 (made.1 ∙ c.in_ok-entries.ensures.items))
    c.of_rules.ensures
