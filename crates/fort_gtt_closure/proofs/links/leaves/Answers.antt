use Rattle.std.proofs.Common.{◌≡◌, ℕ, ◌∙◌, [], List, ap, sym, subst, length, take, arith, eq-eqb, vec_len}
use Rattle.std.specs.Prelude.{Contains}
use Rattle.std.proofs.lemmas.List.{take_all}
use Rattle.std.proofs.lemmas.List.Elements.{Contains-append_left, Contains-push}
use Rattle.fort_tree_automata.specs.declared.nta.Move.{Move}
use Rattle.fort_tree_automata.proofs.Truths.{not_both}
use Rattle.fort_gtt_closure.proofs.ElementLaws.{each_more}
use Rattle.fort_gtt_closure.proofs.links.leaves.Goals as goal
use Rattle.fort_gtt_closure.proofs.links.leaves.Goals.{then-is_empty+in_ok-push, else-is_empty}

pub loop-step-preserved : goal.loop-step-preserved
loop-step-preserved c =
    let item = c.step-item.result in
    let old = c.loop-step.found.items in
    let IsFound : List (ℕ × ℕ) → Move → Type 0 = λ found move. move.kids.items ≡ [] → Contains found (move.sym.0, move.target) in
    let Step : List (ℕ × ℕ) → Type 0 = λ new. ((x : ℕ × ℕ) → Contains old x → Contains new x) × IsFound new item in
    let step : Step c.if-is_empty.found.items =
    elim c.if-is_empty.branch [
      | then-is_empty+in_ok-push w ↦
          subst Step (sym (ap (λ v. v.items) w.found-is ∙ w.in_ok-push.ensures.items)) (
            (λ x there. Contains-append_left old _ x there),
            (λ e. Contains-push old (item.sym.0, item.target)),
          )
      | else-is_empty w ↦ subst Step (sym (ap (λ v. v.items) w.found-is)) ((λ x there. there), (λ e. absurd (not_both (c.is_empty.ensures ∙ eq-eqb (vec_len item.kids) 0 (omega (arith, ap length e, item.kids.ok.0))) w.if-is_empty.false)))
    ] in
    each_more (IsFound c.if-is_empty.found.items) c.args.moves.now c.loop-step.step-index item c.loop-step-test.true
    (λ move there none. step.0 (move.sym.0, move.target) (c.loop-step.invariant move there none)) (subst (IsFound c.if-is_empty.found.items) c.step-item.is step.1)

pub returns : goal.returns
returns c move there none =
    let all : take c.loop-step.step-index c.args.moves.now ≡ c.args.moves.now = take_all c.loop-step.step-index c.args.moves.now (omega arith) in
    c.loop-step.invariant move (subst (λ (zs : List Move). Contains zs move) (sym all) there) none
