use Rattle.std.proofs.Common.{[], refl, map, ap, subst, ◌∙◌}
use Rattle.std.specs.Prelude.{IfSome, IfNone}
use Rattle.std.specs.List.{AllByRecursion}
use Rattle.std.proofs.lemmas.Result.{IfOk-weaker}
use Rattle.fort_tables.specs.Tables.{listed_table}
use Rattle.fort_steps.specs.StepView.{as_step}
use Rattle.fort_certificate.specs.Again.{HasSmallNumbers}
use Rattle.fort_tables.specs.LeastTuple.{AcceptsNone}
use Rattle.fort_witness.specs.Answers.{last_tuple, IsWitness}
use Rattle.fort_certificate_theory.specs.OpenCertificates.{Found, Empty}
use Rattle.fort_certificate_theory.specs.OpenText.{open_text}
use Rattle.fort_certificate_theory.specs.OpenWritten.{LeastFound, NoneFound}
use Rattle.fort_run.proofs.verdict.terms_text.Goals as goal

pub needed_nodes-requires-clause-nodes : goal.needed_nodes-requires-clause-nodes
needed_nodes-requires-clause-nodes c =
    let t = listed_table c.args.recorded.now.table in
    let w = subst (λ o. IfSome o (λ nodes. IsWitness t nodes)) c.in-Some.is c.in_ok-dag.ensures.some in
    (t.signature, t.columns, w.are)

pub returns-in_ok-nodes-in-Some : goal.returns-in_ok-nodes-in-Some
returns-in_ok-nodes-in-Some c =
    let t = listed_table c.args.recorded.now.table in
    let w = subst (λ o. IfSome o (λ nodes. IsWitness t nodes)) c.in-Some.is c.in_ok-dag.ensures.some in
    let nodes = c.in_ok-nodes-in-Some.nodes in
    let steps_are = c.deref.ensures.value in
    IfOk-weaker c.open_text.result _ _ (λ text h. record {
      claim = Found;
      nodes = nodes;
      written = LeastFound (last_tuple c.in-Some.dag) w.least (c.in_ok-nodes-in-Some.ensures.nodes t.signature t.columns w.are);
      small_steps = subst (λ xs. AllByRecursion HasSmallNumbers (map as_step xs)) steps_are h.small_steps;
      small_nodes = h.small_nodes;
      is = h.is ∙ ap (λ xs. open_text Found (map as_step xs) nodes) steps_are;
    })
    c.open_text.ensures.found

pub returns-in-None : goal.returns-in-None
returns-in-None c =
    let t = listed_table c.args.recorded.now.table in
    let none = subst (λ o. IfNone o (AcceptsNone t)) c.in-None.is c.in_ok-dag.ensures.none in
    let steps_are = c.deref-in-None.ensures.value in
    IfOk-weaker c.open_text-in-None.result _ _ (λ text h. record {
      claim = Empty;
      nodes = [];
      written = NoneFound none refl;
      small_steps = subst (λ xs. AllByRecursion HasSmallNumbers (map as_step xs)) steps_are h.small_steps;
      small_nodes = h.small_nodes;
      is = h.is ∙ ap (λ xs. open_text Empty (map as_step xs) []) steps_are;
    })
    c.open_text-in-None.ensures.empty
