use Rattle.std.proofs.Common.{◌≡◌, ◌∷◌, ◌++◌, ◌-◌, [], List, replicate, ap, sym, ◌∙◌, subst, arith}
use Rattle.std.proofs.lemmas.List.{nil_from_length}
use Rattle.fort_witness.specs.declared.needed.Visit.{Visit}
use Rattle.fort_witness.specs.declared.needed.Visit.TheVariants.{Whole}
use Rattle.fort_witness.specs.Visiting.{untaken, work_ahead, IsVisiting}
use Rattle.fort_witness.proofs.VisitLaws.{visit_start, visit_end}
use Rattle.fort_witness.proofs.needed.needed_nodes.Goals as goal

pub visits-init : goal.visits-init
visits-init c =
    let nodes = c.args.dag.now in
    let items : c.push.new.self.items ≡ Whole (c.len-2.result - 1) ∷ [] =
    c.in_ok-push.ensures.items ∙ ap (λ (vs : List Visit). vs ++ Whole (c.len-2.result - 1) ∷ []) c.new-visits.ensures.items in
    subst (IsVisiting nodes c.in_ok-taken.taken) (sym items)
    (visit_start nodes c.in_ok-taken.taken (c.len-2.result - 1) c.requires.some c.in_ok-taken.ensures.dag
    (c.in_ok-taken.ensures.numbers ∙ ap (λ n. replicate n untaken) c.len.ensures) (ap (λ n. n - 1) c.len-2.ensures))

pub make-requires-clause-visiting : goal.make-requires-clause-visiting
make-requires-clause-visiting c = subst (IsVisiting c.args.dag.now c.visits.taken) c.in-Some.ensures.items c.visits.invariant

pub visits-smaller : goal.visits-smaller
visits-smaller c = omega (arith, c.in_ok-make.ensures.smaller, ap (work_ahead c.args.dag.now) c.in-Some.ensures.items)

pub visits-preserved : goal.visits-preserved
visits-preserved c = c.in_ok-make.ensures.visiting

pub returns : goal.returns
returns c =
    let nodes = c.args.dag.now in
    let none : c.visits.visits.items ≡ [] = nil_from_length c.visits.visits.items (omega (arith, c.visits.visits.ok.0, c.in_default.ensures.cases.0)) in
    record {
      nodes = λ sig columns are. visit_end sig columns nodes c.visits.taken are (subst (IsVisiting nodes c.visits.taken) none c.visits.invariant);
      few = omega (arith, c.visits.invariant.taking.left);
    }
