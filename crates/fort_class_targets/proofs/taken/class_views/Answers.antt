use Rattle.std.proofs.Common.{◌≡◌, ℕ, ◌+◌, ◌<◌, List, [], ◌∷◌, ◌++◌, map, length, get_or, ap, sym, ◌∙◌, arith, subst, ⊎_elim}
use Rattle.std.proofs.lemmas.Bool.{cases_lt}
use Rattle.std.proofs.lemmas.List.{length-set, get_or-set_other, get_or-map, length_push, get_or_push, get_or_append_left}
use Rattle.fort_views.specs.SymbolViews.{sight}
use Rattle.fort_views.specs.declared.view.View.{View}
use Rattle.fort_target_lists.specs.declared.class_list.ClassView.{ClassView}
use Rattle.fort_class_targets.specs.TakenViews.{IsClassView}
use Rattle.fort_class_targets.proofs.taken.class_views.Goals as goal

-- one more of some values
each_more : (old new : List ClassView) (x : ClassView) (n : ℕ) (P : ℕ → ClassView → Type 0) → new ≡ old ++ x ∷ [] → length old ≡ n → P n x → ((q : ℕ) (v : ClassView) → q < n → v ≡ get_or old q v → P q v) → (q : ℕ) (v : ClassView) → q < n + 1 → v ≡ get_or new q v → P q v
each_more old new x n P e count here before q v l is = ⊎_elim
    (λ b. before q v b (is ∙ (ap (λ xs. get_or xs q v) e ∙ get_or_append_left old (x ∷ []) v q (omega (arith, count)))))
    (λ b.
    let at : n ≡ q = omega arith in
    let same : x ≡ v = sym (is ∙ (ap (λ xs. get_or xs q v) e ∙ get_or_push old x v q (count ∙ at))) in
    subst (λ k. P k v) at (subst (P n) same here))
    (cases_lt q n)

pub loop-number-preserved : goal.loop-number-preserved
loop-number-preserved g c =
    let first = c.args.views.now.items in
    let old = c.loop-number.views.items in
    let number = c.loop-number.number in
    let w : View = c.index_mut.result.now in
    let inv = c.loop-number.invariant in
    let low : number < length first = omega (arith, inv.size) in
    let there : w ≡ get_or first number w = c.index_mut.ensures.value ∙ inv.left number w (omega arith) in
    let seen : sight w ≡ get_or (map sight first) number [] = ap sight there ∙ sym (get_or-map sight first number w [] low) in
    let P : ℕ → ClassView → Type 0 = λ q v. IsClassView (g.K.LabelKeys.key c.args.keys.now) c.args.rows.now.labels (get_or (map sight first) q []) v in
    let made : P number c.in_ok-class_view.field-0 = subst (λ s. IsClassView (g.K.LabelKeys.key c.args.keys.now) c.args.rows.now.labels s c.in_ok-class_view.field-0) seen c.in_ok-class_view.ensures in
    record {
      size = length-set old number c.class_view.new.view ∙ inv.size;
      left = λ q d l. get_or-set_other old number q c.class_view.new.view d (λ e. absurd (omega (arith, l, e))) ∙ inv.left q d (omega (arith, l));
      count = ap length c.in_ok-push.ensures.items ∙ (length_push c.loop-number.taken.items c.in_ok-class_view.field-0 ∙ ap (λ n. n + 1) inv.count);
      made = each_more c.loop-number.taken.items c.push.new.self.items c.in_ok-class_view.field-0 number P c.in_ok-push.ensures.items inv.count made inv.made;
    }
