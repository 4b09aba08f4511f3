use Rattle.std.proofs.Common.{◌≡◌, ℕ, ◌+◌, ◌*◌, List, [], Bool, ◌∙◌, sym, subst, refl}
use Rattle.std.specs.Prelude.{Contains}
use Rattle.fort_theory.proofs.Members.{Contains-none}
use Rattle.fort_tree_automata.specs.declared.nta.Move.{Move}
use Rattle.fort_gtt_closure.specs.declared.marks.Shape.{Shape}
use Rattle.fort_gtt_closure.specs.Marks.{IsSet, IsMarked}
use Rattle.fort_gtt_closure.proofs.ElementLaws.{IsSet-written}
use Rattle.fort_gtt_closure.proofs.StartLaws.{none-set, AreSources-none, due-marked}
use Rattle.fort_gtt_closure.proofs.agenda.Agenda.new.Goals as goal

pub invariant_of-result : goal.invariant_of-result
invariant_of-result c =
    let agtt = c.args.agtt.now in
    record {
      sized = c.in_ok-waiting.ensures.len;
      square = c.in_ok-vec.ensures.len;
      sourced = AreSources-none agtt.right.states (agtt.right.states * agtt.right.states) c.in_ok-vec.field-0.items c.in_ok-new.field-0 (c.in_ok-vec.ensures.items_if_clones_equal (λ y h. h)) c.in_ok-new.ensures;
    }

pub returns : goal.returns
returns c =
    let agtt = c.args.agtt.now in
    let shape : Shape = record { height = agtt.right.states; width = agtt.left.states } in
    let n = c.in_ok-waiting.waiting.len in
    let by_any : List Bool = c.mark_any.new.cells in
    let by_both : List Bool = c.mark_meeting.new.cells in
    let kept : (i : ℕ) → IsSet by_any i → IsSet by_both i =
    λ i h. c.mark_meeting.ensures.kept i (subst (λ (zs : List Bool). IsSet zs i) (sym c.deref_mut-2.ensures.value) (IsSet-written n by_any _ i (c.mark_any.auto.cells ∙ c.deref_mut.ensures.len) h)) in
    let in_rights : (x : ℕ × ℕ) → Contains c.in_ok-rights.rights.items x → Contains c.deref-3.result.now x =
    λ x there. subst (λ (zs : List (ℕ × ℕ)). Contains zs x) (sym c.deref-3.ensures.value) there in
    let in_lefts : (x : ℕ × ℕ) → Contains c.in_ok-lefts.lefts.items x → Contains c.deref-4.result.now x =
    λ x there. subst (λ (zs : List (ℕ × ℕ)). Contains zs x) (sym c.deref-4.ensures.value) there in
    let leaves : (right left : Move) → Contains agtt.right.moves.items right → Contains agtt.left.moves.items left → right.kids.items ≡ [] → left.kids.items ≡ []
    → right.sym.0 ≡ left.sym.0 → IsMarked shape by_both right.target left.target =
    λ right left cr cl nr nl e. c.mark_meeting.ensures.marked (right.sym.0, right.target)
    (in_rights (right.sym.0, right.target) (c.in_ok-rights.ensures right (subst (λ (zs : List Move). Contains zs right) (sym c.deref.ensures.value) cr) nr))
    (left.sym.0, left.target)
    (in_lefts (left.sym.0, left.target) (c.in_ok-lefts.ensures left (subst (λ (zs : List Move). Contains zs left) (sym c.deref-2.ensures.value) cl) nl)) e in
    record {
      height = refl;
      width = refl;
      due = λ p q due. IsSet-written n by_both _ (p * agtt.left.states + q) (c.mark_meeting.auto.cells ∙ c.deref_mut-2.ensures.len)
          (due-marked agtt shape by_both (λ p q e lp lq. kept _ (c.mark_any.ensures.right p q e lp lq)) (λ p q e lp lq. kept _ (c.mark_any.ensures.left p q e lp lq)) leaves p q due due.right due.left);
      through = λ p b lp lb. (
        λ h. absurd (none-set c.in_ok-vec.field-0.items (agtt.right.states * agtt.right.states) (p * agtt.right.states + b) (c.in_ok-vec.ensures.items_if_clones_equal (λ y e. e)) h),
        λ w. absurd (Contains-none {A = ℕ × ℕ} (p, w.0) w.2),
      );
    }
