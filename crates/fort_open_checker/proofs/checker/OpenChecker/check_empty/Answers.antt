use Rattle.std.proofs.Common.{◌≡◌, ◌<◌, map, length, sym, ◌∙◌, arith}
use Rattle.std.proofs.lemmas.Bool.Decides.{nat_tests}
use Rattle.fort_steps.specs.StepView.{as_step}
use Rattle.fort_certificate_theory.specs.OpenCertificates.{Empty}
use Rattle.fort_open_checker.proofs.OpenLaws.{owned, at_own, own_forms, no_nodes, node_of_empty, other_there, empty_there}
use Rattle.fort_open_checker.proofs.checker.OpenChecker.check_empty.Goals as goal

pub node_form-requires : goal.node_form-requires
node_form-requires c =
    let r = c.requires in
    let h = owned r.0 r.1 r.2 c.args.self.now r.3 r.4 in
    let forms = own_forms r.0 r.1 c.args.self.now r.3 h in
    omega (arith, forms)

pub whole-table-requires : goal.whole-table-requires
whole-table-requires c = let r = c.requires in (r.0, r.1, r.2.first, r.2.steps, r.3, r.4.done, r.4.checker.columns)

pub returns-then-not-is_empty : goal.returns-then-not-is_empty
returns-then-not-is_empty c = λ system f own made h none.
    let nodes = c.args.self.now.certificate.now.nodes in
    let some : 0 < length nodes.items = grind (arith, nat_tests, c.if-not-is_empty.ensures, c.is_empty.ensures, c.if-not-is_empty.true, nodes.ok.0) in
    at_own system f own c.args.self.now made Empty _ h none (λ d claim. node_of_empty system f c.args.self.now made d claim some c.node_form.result c.node_form.ensures)

pub returns-then-some : goal.returns-then-some
returns-then-some c = λ system f own made h none.
    let a = c.args.self.now in
    let nodes = a.certificate.now.nodes in
    let count : length nodes.items ≡ 0 = grind (arith, nat_tests, c.if-not-is_empty.ensures, c.is_empty.ensures, c.if-not-is_empty.false, nodes.ok.0) in
    at_own system f own a made Empty _ h none (λ d claim.
    other_there system f a made d _ (c.whole-table.ensures.table system f a.certificate.now.first (map as_step a.certificate.now.steps.items) made d.done d.checker.columns) claim
    (no_nodes nodes.items count) (sym c.accepts_some-some.ensures ∙ c.if-some.true) _ c.other_claim.ensures)

pub returns-else-some : goal.returns-else-some
returns-else-some c = λ system f own made h none.
    let a = c.args.self.now in
    let nodes = a.certificate.now.nodes in
    let count : length nodes.items ≡ 0 = grind (arith, nat_tests, c.if-not-is_empty.ensures, c.is_empty.ensures, c.if-not-is_empty.false, nodes.ok.0) in
    at_own system f own a made Empty _ h none (λ d claim.
    empty_there system f a made d _ (c.whole-table.ensures.table system f a.certificate.now.first (map as_step a.certificate.now.steps.items) made d.done d.checker.columns) claim
    (no_nodes nodes.items count) (sym c.accepts_some-some.ensures ∙ c.if-some.false))
