use Rattle.std.proofs.Common.{◌≡◌, ◌∷◌, ◌++◌, [], ℕ, List, get_or, ap, sym, ◌∙◌, subst, arith}
use Rattle.std.proofs.lemmas.List.{get_or_default}
use Rattle.fort_tables.specs.Entries.{Entry}
use Rattle.fort_witness.specs.declared.needed.Visit.{Visit}
use Rattle.fort_witness.specs.declared.needed.Visit.TheVariants.{Whole, Itself}
use Rattle.fort_witness.specs.Visiting.{work_ahead, wholes_of, IsVisiting}
use Rattle.fort_witness.proofs.TextLaws.{at_get}
use Rattle.fort_witness.proofs.VisitLaws.{top_within, visit_taken, visit_opened, opened_smaller, top_smaller}
use Rattle.fort_witness.proofs.needed.make.Goals as goal

pub returns-then-index-clause-visiting : goal.returns-then-index-clause-visiting
returns-then-index-clause-visiting c =
    let nodes = c.args.dag.now in
    let t = c.args.taken.now in
    let vs = c.args.visits.now.items in
    let k = c.in-Whole.node in
    let h : IsVisiting nodes t (vs ++ Whole k ∷ []) = subst (λ (v : Visit). IsVisiting nodes t (vs ++ v ∷ [])) c.in-Whole.is c.requires.visiting in
    let low = top_within nodes t vs (Whole k) h in
    let value : c.index.result.now ≡ get_or t.numbers.items k 0 = c.index.ensures ∙ get_or_default t.numbers.items k c.index.result.now 0 (omega (arith, low, h.taking.count)) in
    visit_taken c.requires.nodes.0 c.requires.nodes.1 nodes t vs (Whole k) c.requires.nodes.2 h (λ e. c.if-index.true (value ∙ e))

pub returns-then-index-clause-smaller : goal.returns-then-index-clause-smaller
returns-then-index-clause-smaller c = top_smaller c.args.dag.now c.args.visits.now.items c.args.visit

pub node-row-requires : goal.node-row-requires
node-row-requires c =
    let vs = c.args.visits.now.items in
    top_within c.args.dag.now c.args.taken.now vs (Whole c.in-Whole.node) (subst (λ (v : Visit). IsVisiting c.args.dag.now c.args.taken.now (vs ++ v ∷ [])) c.in-Whole.is c.requires.visiting)

pub returns-in_ok-take-in-Itself-clause-smaller : goal.returns-in_ok-take-in-Itself-clause-smaller
returns-in_ok-take-in-Itself-clause-smaller c = top_smaller c.args.dag.now c.args.visits.now.items c.args.visit

pub returns-in_ok-push_wholes-in-Whole-clause-visiting : goal.returns-in_ok-push_wholes-in-Whole-clause-visiting
returns-in_ok-push_wholes-in-Whole-clause-visiting c =
    let nodes = c.args.dag.now in
    let t = c.args.taken.now in
    let vs = c.args.visits.now.items in
    let k = c.in-Whole.node in
    let e = c.node-row.result in
    let h : IsVisiting nodes t (vs ++ Whole k ∷ []) = subst (λ (v : Visit). IsVisiting nodes t (vs ++ v ∷ [])) c.in-Whole.is c.requires.visiting in
    let items : c.push_wholes.new.visits.items ≡ (vs ++ Itself k ∷ []) ++ wholes_of (get_or nodes k e).kids =
    c.in_ok-push_wholes-in-Whole.ensures
    ∙ (ap (λ (ws : List Visit). ws ++ wholes_of c.kids.result.now) c.in_ok-push-in-Whole.ensures.items
    ∙ ap (λ (ks : List ℕ). (vs ++ Itself k ∷ []) ++ wholes_of ks) (c.kids.ensures.states ∙ ap (λ (x : Entry). x.kids) (sym (at_get nodes k e e c.node-row.ensures)))) in
    subst (IsVisiting nodes t) (sym items) (visit_opened c.requires.nodes.0 c.requires.nodes.1 nodes t vs k e c.requires.nodes.2 h)

pub returns-in_ok-push_wholes-in-Whole-clause-smaller : goal.returns-in_ok-push_wholes-in-Whole-clause-smaller
returns-in_ok-push_wholes-in-Whole-clause-smaller c =
    let nodes = c.args.dag.now in
    let t = c.args.taken.now in
    let vs = c.args.visits.now.items in
    let k = c.in-Whole.node in
    let e = c.node-row.result in
    let h : IsVisiting nodes t (vs ++ Whole k ∷ []) = subst (λ (v : Visit). IsVisiting nodes t (vs ++ v ∷ [])) c.in-Whole.is c.requires.visiting in
    let items : c.push_wholes.new.visits.items ≡ (vs ++ Itself k ∷ []) ++ wholes_of (get_or nodes k e).kids =
    c.in_ok-push_wholes-in-Whole.ensures
    ∙ (ap (λ (ws : List Visit). ws ++ wholes_of c.kids.result.now) c.in_ok-push-in-Whole.ensures.items
    ∙ ap (λ (ks : List ℕ). (vs ++ Itself k ∷ []) ++ wholes_of ks) (c.kids.ensures.states ∙ ap (λ (x : Entry). x.kids) (sym (at_get nodes k e e c.node-row.ensures)))) in
    omega (arith, opened_smaller c.requires.nodes.0 c.requires.nodes.1 nodes vs k e c.requires.nodes.2 (top_within nodes t vs (Whole k) h), ap (work_ahead nodes) items, ap (λ (v : Visit). work_ahead nodes (vs ++ v ∷ [])) c.in-Whole.is)
