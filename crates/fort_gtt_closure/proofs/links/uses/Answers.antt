use Rattle.std.proofs.Common.{ℕ, ◌<◌, ◌∙◌, ap, sym, subst, length, List}
use Rattle.std.specs.Prelude.{Contains}
use Rattle.fort_theory.proofs.IndexLaws.{length-empty_lists}
use Rattle.fort_theory.proofs.Members.{Contains-none}
use Rattle.fort_tree_automata.specs.declared.nta.Move.{Move}
use Rattle.fort_gtt_closure.specs.Groups.{group}
use Rattle.fort_gtt_closure.proofs.ElementLaws.{each_more}
use Rattle.fort_gtt_closure.proofs.links.uses.Goals as goal

pub loop-step-init : goal.loop-step-init
loop-step-init c = record {
  count_same = ap length c.in_ok-groups.ensures ∙ length-empty_lists (ℕ × ℕ) c.args.states;
  each = λ move state there. absurd (Contains-none {A = Move} move there);
}

pub loop-step-preserved : goal.loop-step-preserved
loop-step-preserved c =
    let g = c.loop-step.groups in
    let h = c.push_uses.new.groups in
    let i = c.loop-step.invariant in
    let item = c.step-item.result in
    let Used : Move → Type 0 = λ move. (state : ℕ) → Contains move.kids.items state → state < c.args.states → Contains (group h state) (move.sym.0, move.target) in
    let here : Used item =
    λ state kid low. c.in_ok-push_uses.ensures.added state (subst (λ (zs : List ℕ). Contains zs state) (sym c.deref.ensures.value) kid)
    (subst (λ n. state < n) (sym i.count_same) low) in
    let all = each_more Used c.args.moves.now c.loop-step.step-index item c.loop-step-test.true
    (λ move there state kid low. c.in_ok-push_uses.ensures.kept state (move.sym.0, move.target) (i.each move state there kid low)) (subst Used c.step-item.is here) in
    record {
      count_same = c.in_ok-push_uses.ensures.count ∙ i.count_same;
      each = λ move state there kid low. all move there state kid low;
    }
