-- Rules by their left sides: one more rule, and the search for one that has both its bits.
use Rattle.std.specs.Prelude.{◌≡◌, ℕ, ◌+◌, ◌<◌, ◌≤◌, List, [], ◌∷◌, ◌++◌, length, take, set, get_or, Contains, Bool, true, false, ◌&&◌, refl}
use Rattle.std.specs.List.{list_any}
use Rattle.std.specs.Slice.Scan.{HoldsNowhere}
use Rattle.std.proofs.Common.{ap, sym, ◌∙◌, arith, subst, ⊎_elim, true≢false}
use Rattle.std.proofs.lemmas.Bool.{cases_eq, cases_lt}
use Rattle.std.proofs.lemmas.List.{get_or-set_same, get_or-set_other, get_or_append_left, get_or_default, get_or_push, length-append, length-take-le, take_more}
use Rattle.std.proofs.lemmas.List.Elements.{Contains-append_cases, Contains-append_left, Contains-append_right, Contains-get_or}
use Rattle.fort_theory.proofs.Members.{Contains-none, Contains-cons_cases, Contains-head}
use Rattle.fort_alike.proofs.Bits.{Decides-false, same_from_iff}
use Rattle.fort_label_bits.specs.RowBits.{bit_of}
use Rattle.fort_label_bits.specs.RootPlaces.{list_at}
use Rattle.fort_label_bits.specs.RulePlaces.{no_rule}
use Rattle.fort_label_bits.specs.RuleLefts.{AreUnderLefts, NoneBefore, both_at, has_both, some_rule}
use Rattle.fort_label_bits.specs.declared.rule_places.RulePlaces.{RulePlaces}
use Rattle.fort_label_bits.proofs.RootPlaceLaws.{any_at, any_true, Decides-any}

pub AreUnderLefts-none : (under : List (List ℕ)) → ((g : ℕ) → list_at under g ≡ []) → AreUnderLefts [] under
AreUnderLefts-none under h = record {
  there = λ k l. absurd (omega (arith, l));
  within = λ left k c. absurd (Contains-none k (subst (λ ks. Contains ks k) (h left) c));
}

module _ (rules : List RulePlaces) (r : RulePlaces) (k : ℕ) (old new : List (List ℕ)) (at : k ≡ length rules) (inside : r.left < length old)
    (is : AreUnderLefts rules old) (more : new ≡ set old r.left (list_at old r.left ++ k ∷ [])) where
  same : list_at new r.left ≡ list_at old r.left ++ k ∷ []
  same = ap (λ ls. list_at ls r.left) more ∙ get_or-set_same old r.left (list_at old r.left ++ k ∷ []) [] inside

  other : (p : ℕ) → (p ≡ r.left → ⊥) → list_at new p ≡ list_at old p
  other p n = ap (λ ls. list_at ls p) more ∙ get_or-set_other old r.left p (list_at old r.left ++ k ∷ []) [] n

  keeps : (p j : ℕ) → Contains (list_at old p) j → Contains (list_at new p) j
  keeps p j c =
      ⊎_elim
      (λ (e : p ≡ r.left).
      subst (λ q. Contains (list_at new q) j) (sym e)
      (subst (λ ks. Contains ks j) (sym same) (Contains-append_left (list_at old r.left) (k ∷ []) j (subst (λ q. Contains (list_at old q) j) e c))))
      (λ (n : p ≡ r.left → ⊥). subst (λ ks. Contains ks j) (sym (other p n)) c)
      (cases_eq p r.left)

  wide : length (rules ++ r ∷ []) ≡ length rules + 1
  wide = length-append rules (r ∷ [])

  pub AreUnderLefts-more : AreUnderLefts (rules ++ r ∷ []) new
  AreUnderLefts-more = record {
    there = λ j l.
        ⊎_elim
        (λ (m : j < length rules).
        subst (λ (x : RulePlaces). Contains (list_at new x.left) j) (sym (get_or_append_left rules (r ∷ []) no_rule j m)) (keeps _ j (is.there j m)))
        (λ (m : length rules ≤ j).
        let e : j ≡ length rules = omega (arith, l, m, wide) in
        let d : k ≡ j = omega (arith, e, at) in
        subst (λ (x : RulePlaces). Contains (list_at new x.left) j) (sym (get_or_push rules r no_rule j (sym e)))
        (subst (λ ks. Contains ks j) (sym same) (Contains-append_right (list_at old r.left) (k ∷ []) j (subst (Contains (k ∷ [])) d (Contains-head k [])))))
        (cases_lt j (length rules));
    within = λ p j c.
        ⊎_elim
        (λ (e : p ≡ r.left).
        ⊎_elim
        (λ (d : Contains (list_at old r.left) j). let m = is.within r.left j d in omega (arith, m, wide))
        (λ (d : Contains (k ∷ []) j).
        ⊎_elim (λ (h : k ≡ j). omega (arith, h, at, wide)) (λ (h : Contains [] j). absurd (Contains-none j h)) (Contains-cons_cases k [] j d))
        (Contains-append_cases (list_at old r.left) (k ∷ []) j
        (subst (λ ks. Contains ks j) same (subst (λ q. Contains (list_at new q) j) e c))))
        (λ (n : p ≡ r.left → ⊥). let m = is.within p j (subst (λ ks. Contains ks j) (other p n) c) in omega (arith, m, wide))
        (cases_eq p r.left);
  }

pub AreUnderLefts-next : (rules : List RulePlaces) (k : ℕ) (r : RulePlaces) (old new : List (List ℕ)) → k < length rules → r ≡ get_or rules k r → r.left < length old
    → AreUnderLefts (take k rules) old → new ≡ set old r.left (list_at old r.left ++ k ∷ []) → AreUnderLefts (take (k + 1) rules) new
AreUnderLefts-next rules k r old new l at inside is more =
    let size : length (take k rules) ≡ k = length-take-le k rules (omega (arith, l)) in
    let next : take (k + 1) rules ≡ take k rules ++ r ∷ [] = take_more rules k r l ∙ ap (λ (x : RulePlaces). take k rules ++ x ∷ []) (sym at) in
    subst (λ rs. AreUnderLefts rs new) (sym next) (AreUnderLefts-more (take k rules) r k old new (sym size) inside is more)

-- the search

not_any : {A : Type 0} (test : A → Bool) (xs : List A) (x : A) → Contains xs x → list_any test xs ≡ false → test x ≡ false
not_any test xs x c h =
    let F : Bool → Type 0 = λ b. test x ≡ b → b ≡ false in
    let by : (b : Bool) → F b = λ b. elim b as F [
      | true ↦ λ e. absurd (true≢false (sym (any_true test xs x c e) ∙ h))
      | false ↦ λ e. refl
    ] in
    by (test x) refl

off-and : (a b : Bool) → a ≡ false → (a && b) ≡ false
off-and true b e = absurd (true≢false e)
off-and false b e = refl

pub found_under : (base : ℕ) (w : List ℕ) (rules : List RulePlaces) (under : List (List ℕ)) (left : ℕ) → AreUnderLefts rules under
    → list_any (both_at base w rules) (list_at under left) ≡ true → some_rule base rules w ≡ true
found_under base w rules under left is h =
    let v = any_at (both_at base w rules) (list_at under left) h in
    any_true (has_both base w) rules (get_or rules v.0 no_rule) (Contains-get_or rules v.0 no_rule (is.within left v.0 v.1)) v.2

pub none_further : (base : ℕ) (w : List ℕ) (rules : List RulePlaces) (under : List (List ℕ)) (from left : ℕ) → AreUnderLefts rules under → NoneBefore base w rules from
    → HoldsNowhere (λ k. bit_of k w) from left → list_any (both_at base w rules) (list_at under left) ≡ false → NoneBefore base w rules (left + 1)
none_further base w rules under from left is before off here k l m =
    let r : RulePlaces = get_or rules k no_rule in
    ⊎_elim
    (λ (a : r.left < from). before k l a)
    (λ (a : from ≤ r.left).
    ⊎_elim
    (λ (b : r.left < left). off-and (bit_of r.left w) (bit_of (base + r.right) w) (off r.left a b))
    (λ (b : left ≤ r.left).
    let e : r.left ≡ left = omega (arith, b, m) in
    not_any (both_at base w rules) (list_at under left) k (subst (λ p. Contains (list_at under p) k) e (is.there k l)) here)
    (cases_lt r.left left))
    (cases_lt r.left from)

pub none_left : (base : ℕ) (w : List ℕ) (rules : List RulePlaces) (from : ℕ) → ((r : RulePlaces) → Contains rules r → r.left < base) → base ≤ from
    → NoneBefore base w rules from → some_rule base rules w ≡ false
none_left base w rules from inside l before =
    same_from_iff (some_rule base rules w) false (Decides-any (has_both base w) rules) (Decides-false (λ (b : ⊥). b)) (
      (λ v.
          let c : Contains rules v.0 = v.1 in
          let here : get_or rules c.0 no_rule ≡ v.0 = get_or_default rules c.0 no_rule v.0 c.1 ∙ c.2 in
          let m = inside (get_or rules c.0 no_rule) (Contains-get_or rules c.0 no_rule c.1) in
          true≢false (sym (ap (has_both base w) here ∙ v.2) ∙ before c.0 c.1 (omega (arith, m, l)))),
      (λ (b : ⊥). absurd b),
    )
