use Rattle.std.proofs.Common.{◌≡◌, ℕ, IfSome, sym, ap, ◌∙◌, subst, arith}
use Rattle.fort_tables.specs.Products.{Operand, AreOperands, signature_of, product_rule, product_accepts}
use Rattle.fort_parts.specs.PartSteps as parts
use Rattle.fort_connectives.specs.declared.connective.Op.{Op}
use Rattle.fort_connectives.specs.ConnectiveView.{connective_of}
use Rattle.fort_products.specs.Operands.{operand_of}
use Rattle.fort_check_steps.specs.Turned.{turned_table}
use Rattle.fort_cert_checker.specs.Pasts.{steps_of, IsPartStep}
use Rattle.fort_cert_checker.specs.OperandLists.{IsLaidListOf}
use Rattle.fort_cert_checker.proofs.ListLaws.{fits_on, laid_operand}
use Rattle.fort_cert_checker.proofs.part_tables.check_product.Goals as goal

pub lay-requires : goal.lay-requires
lay-requires c =
    let a = c.requires.answers in
    c.answer-one.ensures.room a.0 a.2 c.args.scratch.now.lists.first c.args.scratch.now.lists.lay c.requires.first

pub lay-requires-2 : goal.lay-requires-2
lay-requires-2 c =
    let a = c.requires.answers in
    let list = c.args.scratch.now.lists.second in
    c.answer-other.ensures.room a.1 a.3 list c.lay.new.room
    (fits_on (steps_of c.args.past.now) c.args.second.now.source list list c.args.scratch.now.lists.lay c.lay.new.room (λ n k h. h) c.lay.ensures.room c.requires.second)

pub new-plain-requires-clause-operands : goal.new-plain-requires-clause-operands
new-plain-requires-clause-operands c =
    let r = c.requires.answers in
    let first : operand_of turned_table c.factor-left.result ≡ parts.operand_of r.0 c.args.first.now.places.items =
    c.factor-left.ensures ∙ (λ i. parts.operand_of (c.answer-one.ensures.is r.0 r.2 i) (c.deref.ensures.value i)) in
    let second : operand_of turned_table c.factor-right.result ≡ parts.operand_of r.1 c.args.second.now.places.items =
    c.factor-right.ensures ∙ (λ i. parts.operand_of (c.answer-other.ensures.is r.1 r.3 i) (c.deref-2.ensures.value i)) in
    let F : Operand → Operand → Type 0 = λ u v. AreOperands (signature_of u v) c.args.columns u v in
    subst (λ (u : Operand). F u (operand_of turned_table c.factor-right.result)) (sym first)
    (subst (λ (v : Operand). F (parts.operand_of r.0 c.args.first.now.places.items) v) (sym second) r.4.operands)

pub listed-rule-requires-clause-first : goal.listed-rule-requires-clause-first
listed-rule-requires-clause-first c =
    laid_operand (operand_of turned_table c.new-plain.result.first) c.laid_list-first_list.result (λ l. l.now)
    (subst (λ (o : Operand). IfSome c.laid_list-first_list.result (λ l. IsLaidListOf o l.now))
    (sym (ap (λ o. operand_of turned_table o) c.new-plain.ensures.first ∙ c.factor-left.ensures)) (c.laid_list-first_list.ensures.list c.deref.result.now))

pub listed-rule-requires-clause-second : goal.listed-rule-requires-clause-second
listed-rule-requires-clause-second c =
    laid_operand (operand_of turned_table c.new-plain.result.second) c.laid_list-second_list.result (λ l. l.now)
    (subst (λ (o : Operand). IfSome c.laid_list-second_list.result (λ l. IsLaidListOf o l.now))
    (sym (ap (λ o. operand_of turned_table o) c.new-plain.ensures.second ∙ c.factor-right.ensures)) (c.laid_list-second_list.ensures.list c.deref-2.result.now))

pub check_part-requires-clause-lay : goal.check_part-requires-clause-lay
check_part-requires-clause-lay c = c.lay-2.ensures.room _ (c.lay.ensures.room _ c.requires.scratch.lay)

pub returns-clause-scratch : goal.returns-clause-scratch
returns-clause-scratch c = record {
  rows = c.check_part.ensures.space;
  out = c.check_part.ensures.out;
  lists = record {
    first = c.lay.ensures.list_room;
    second = c.lay-2.ensures.list_room;
    lay = λ n h. c.check_part.ensures.lay n (c.lay-2.ensures.room n (c.lay.ensures.room n h));
  };
  leaders = omega arith;
}

pub returns-clause-step : goal.returns-clause-step
returns-clause-step c a b at bt =
    let rule = c.listed-rule.result in
    let first : operand_of turned_table rule.first ≡ parts.operand_of a c.args.first.now.places.items =
    ap (λ o. operand_of turned_table o) (c.listed-rule.ensures.first ∙ c.new-plain.ensures.first)
    ∙ (c.factor-left.ensures ∙ (λ i. parts.operand_of (c.answer-one.ensures.is a at i) (c.deref.ensures.value i))) in
    let second : operand_of turned_table rule.second ≡ parts.operand_of b c.args.second.now.places.items =
    ap (λ o. operand_of turned_table o) (c.listed-rule.ensures.second ∙ c.new-plain.ensures.second)
    ∙ (c.factor-right.ensures ∙ (λ i. parts.operand_of (c.answer-other.ensures.is b bt i) (c.deref-2.ensures.value i))) in
    let Step : Op → ℕ → Operand → Operand → Type 0 =
    λ op n u v. IsPartStep (record { rule = product_rule n u v; accepting = product_accepts (connective_of op) u v }) c.args.targets.now c.check_part.new.room c.check_part.result in
    subst (λ (op : Op). Step op c.args.columns (parts.operand_of a c.args.first.now.places.items) (parts.operand_of b c.args.second.now.places.items)) (c.listed-rule.ensures.op ∙ c.new-plain.ensures.op)
    (subst (λ (n : ℕ). Step rule.op n (parts.operand_of a c.args.first.now.places.items) (parts.operand_of b c.args.second.now.places.items)) (c.listed-rule.ensures.columns ∙ c.new-plain.ensures.columns)
    (subst (λ (u : Operand). Step rule.op rule.columns u (parts.operand_of b c.args.second.now.places.items)) first
    (subst (λ (v : Operand). Step rule.op rule.columns (operand_of turned_table rule.first) v) second
    (record { outcome = c.check_part.ensures.outcome; plain = c.check_part.ensures.not_merged; held = c.check_part.ensures.held }))))
