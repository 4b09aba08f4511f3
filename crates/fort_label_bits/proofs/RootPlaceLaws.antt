-- Places by the symbols at their roots: one more place, and a test of all places by those of one root.
use Rattle.std.specs.Prelude.{◌≡◌, ℕ, zero, suc, ◌+◌, ◌-◌, ◌<◌, ◌≤◌, ◌⊎◌, List, [], ◌∷◌, ◌++◌, map, take, length, get_or, Contains, Option, None, Some, Bool, true, false, Decides, ◌&&◌, ◌||◌, ◌==◌, if◌then◌else◌, refl}
use Rattle.std.specs.List.{list_any}
use Rattle.std.proofs.Math.Bool.{or_assoc}
use Rattle.std.proofs.Common.{ap, sym, ◌∙◌, arith, subst, inl, inr, ⊎_elim, true≢false}
use Rattle.std.proofs.lemmas.Bool.{cases_eq, cases_lt}
use Rattle.std.proofs.lemmas.Bool.Decides.{Decides-eqb, Decides-like, Decides-or}
use Rattle.std.proofs.lemmas.List.{get_or_append_left, get_or-append-add, get_or_past, get_or_push, length-append, length-map, length-take-le, take_more, map-append}
use Rattle.std.proofs.lemmas.List.Elements.{Contains-append_left, Contains-append_right, Contains-append_cases}
use Rattle.fort_theory.proofs.Members.{Contains-none, Contains-cons_cases, Contains-head, Contains-behind}
use Rattle.fort_tables.proofs.EqualTests.{if_equal, if_apart}
use Rattle.fort_alike.proofs.Bits.{Decides-false, same_from_iff}
use Rattle.fort_alike.specs.PatternNumbers.{PatternNumber, number_inside}
use Rattle.fort_label_bits.specs.RowBits.{bit_of, HasBits}
use Rattle.fort_label_bits.specs.RootPlaces.{IsRooted, HasMoreRoots, list_at, places_at, root_of, writes_at}
use Rattle.fort_label_bits.specs.declared.rooted.Rooted.{Rooted}

-- one more list, which is empty
pub list_at-empty : (xs : List (List ℕ)) (g : ℕ) → list_at (xs ++ [] ∷ []) g ≡ list_at xs g
list_at-empty [] zero = refl
list_at-empty [] (suc g) = refl
list_at-empty (x ∷ xs) zero = refl
list_at-empty (x ∷ xs) (suc g) = list_at-empty xs g

-- a test of the elements of a list
or-second : (a b : Bool) → b ≡ true → (a || b) ≡ true
or-second true b h = refl
or-second false b h = h

pub any_true : {A : Type 0} (test : A → Bool) (xs : List A) (x : A) → Contains xs x → test x ≡ true → list_any test xs ≡ true
any_true test [] x c h = absurd (Contains-none x c)
any_true test (y ∷ xs) x c h =
    ⊎_elim
    (λ (e : y ≡ x). ap (λ b. b || list_any test xs) (ap test e ∙ h))
    (λ (d : Contains xs x). or-second (test y) (list_any test xs) (any_true test xs x d h))
    (Contains-cons_cases y xs x c)

pub any_at : {A : Type 0} (test : A → Bool) (xs : List A) → list_any test xs ≡ true → (x : A) × Contains xs x × (test x ≡ true)
any_at test [] h = absurd (true≢false (sym h))
any_at {A} test (y ∷ xs) h =
    let rest : list_any test xs ≡ true → (x : A) × Contains xs x × (test x ≡ true) = λ k. any_at test xs k in
    let F : Bool → Type 0 = λ b. test y ≡ b → (b || list_any test xs) ≡ true → (x : A) × Contains (y ∷ xs) x × (test x ≡ true) in
    let by : (b : Bool) → F b = λ b. elim b as F [
      | true ↦ λ e k. (y, Contains-head y xs, e)
      | false ↦ λ e k. (let r = rest k in (r.0, Contains-behind y xs r.0 r.1, r.2))
    ] in
    by (test y) refl h

pub Decides-any : {A : Type 0} (test : A → Bool) (xs : List A) → Decides (list_any test xs) ((x : A) × Contains xs x × (test x ≡ true))
Decides-any test xs = (any_at test xs, λ w. any_true test xs w.0 w.1 w.2)

pub any_false : {A : Type 0} (test : A → Bool) (xs : List A) → ((x : A) → test x ≡ false) → list_any test xs ≡ false
any_false test [] h = refl
any_false test (x ∷ xs) h = ap (λ b. b || list_any test xs) (h x) ∙ any_false test xs h

or-swap : (a b c d : Bool) → ((a || b) || (c || d)) ≡ ((a || c) || (b || d))
or-swap true b c d = refl
or-swap false true true d = refl
or-swap false true false d = refl
or-swap false false c d = refl

pub any_or : {A : Type 0} (f g : A → Bool) (xs : List A) → list_any (λ x. f x || g x) xs ≡ (list_any f xs || list_any g xs)
any_or f g [] = refl
any_or f g (x ∷ xs) = ap (λ b. (f x || g x) || b) (any_or f g xs) ∙ or-swap (f x) (g x) (list_any f xs) (list_any g xs)

-- one more place
only : (x k : ℕ) → Contains (x ∷ []) k → x ≡ k
only x k c = ⊎_elim (λ (e : x ≡ k). e) (λ (d : Contains [] k). absurd (Contains-none k d)) (Contains-cons_cases x [] k c)

none-some : (g : ℕ) (x : Option ℕ) → x ≡ None → x ≡ Some g → ⊥
none-some g x a b = cc

some-none : (g : ℕ) (x : Option ℕ) → x ≡ Some g → x ≡ None → ⊥
some-none g x a b = cc

some-same : (f g : ℕ) (x : Option ℕ) → x ≡ Some f → x ≡ Some g → f ≡ g
some-same f g x a b = cc

module _ (roots : List (Option ℕ)) (old new : Rooted) (root : Option ℕ) (place : ℕ) (at : place ≡ length roots) (is : IsRooted roots old) where
  abbrev more : List (Option ℕ)
  more = roots ++ root ∷ []

  wide : length (roots ++ root ∷ []) ≡ length roots + 1
  wide = length-append roots (root ∷ [])

  -- behind a list that it stands at the end of
  last : (xs : List ℕ) (k : ℕ) → k < length (roots ++ root ∷ []) → length roots ≤ k → Contains (xs ++ place ∷ []) k
  last xs k l m =
      let here : place ≡ k = omega (arith, at, l, m, wide) in
      Contains-append_right xs (place ∷ []) k (subst (Contains (place ∷ [])) here (Contains-head place []))

  below-more : (xs : List ℕ) (k : ℕ) → ((j : ℕ) → Contains xs j → j < length roots) → Contains (xs ++ place ∷ []) k → k < length (roots ++ root ∷ [])
  below-more xs k h c =
      ⊎_elim
      (λ (d : Contains xs k). omega (arith, h k d, wide))
      (λ (d : Contains (place ∷ []) k). omega (arith, only place k d, at, wide))
      (Contains-append_cases xs (place ∷ []) k c)

  there-before : (k g : ℕ) → k < length roots → get_or (roots ++ root ∷ []) k None ≡ Some g → Contains (places_at old g) k
  there-before k g m e = is.there k g m (sym (get_or_append_left roots (root ∷ []) None k m) ∙ e)

  any-before : (k : ℕ) → k < length roots → get_or (roots ++ root ∷ []) k None ≡ None → Contains old.any.items k
  any-before k m e = is.any k m (sym (get_or_append_left roots (root ∷ []) None k m) ∙ e)

  root-last : (k : ℕ) → k < length (roots ++ root ∷ []) → length roots ≤ k → get_or (roots ++ root ∷ []) k None ≡ root
  root-last k l m = get_or_push roots root None k (omega (arith, l, m, wide))

  more-any : root ≡ None → ((g : ℕ) → places_at new g ≡ places_at old g) → new.any.items ≡ old.any.items ++ place ∷ [] → IsRooted (roots ++ root ∷ []) new
  more-any none lists any = record {
    there = λ k g l e.
        ⊎_elim
        (λ (m : k < length roots). subst (λ ks. Contains ks k) (sym (lists g)) (there-before k g m e))
        (λ (m : length roots ≤ k). absurd (none-some g _ (root-last k l m ∙ none) e))
        (cases_lt k (length roots));
    any = λ k l e.
        subst (λ ks. Contains ks k) (sym any)
        (⊎_elim
        (λ (m : k < length roots). Contains-append_left old.any.items (place ∷ []) k (any-before k m e))
        (λ (m : length roots ≤ k). last old.any.items k l m)
        (cases_lt k (length roots)));
    within = λ g k c. let m = is.within g k (subst (λ ks. Contains ks k) (lists g) c) in omega (arith, m, wide);
    within_any = λ k c. below-more old.any.items k is.within_any (subst (λ ks. Contains ks k) any c);
  }

  more-at : (f : ℕ) → root ≡ Some f → ((g : ℕ) → places_at new g ≡ (if f == g then places_at old g ++ place ∷ [] else places_at old g)) → new.any.items ≡ old.any.items → IsRooted (roots ++ root ∷ []) new
  more-at f some lists any =
      let same : (g : ℕ) → f ≡ g → places_at new g ≡ places_at old g ++ place ∷ [] = λ g e. lists g ∙ if_equal f g _ _ e in
      let other : (g : ℕ) → (f ≡ g → ⊥) → places_at new g ≡ places_at old g = λ g n. lists g ∙ if_apart f g _ _ n in
      record {
        there = λ k g l e.
            ⊎_elim
            (λ (m : k < length roots).
            ⊎_elim
            (λ (h : f ≡ g). subst (λ ks. Contains ks k) (sym (same g h)) (Contains-append_left (places_at old g) (place ∷ []) k (there-before k g m e)))
            (λ (n : f ≡ g → ⊥). subst (λ ks. Contains ks k) (sym (other g n)) (there-before k g m e))
            (cases_eq f g))
            (λ (m : length roots ≤ k).
            let h : f ≡ g = some-same f g _ (root-last k l m ∙ some) e in
            subst (λ ks. Contains ks k) (sym (same g h)) (last (places_at old g) k l m))
            (cases_lt k (length roots));
        any = λ k l e.
            ⊎_elim
            (λ (m : k < length roots). subst (λ ks. Contains ks k) (sym any) (any-before k m e))
            (λ (m : length roots ≤ k). absurd (some-none f _ (root-last k l m ∙ some) e))
            (cases_lt k (length roots));
        within = λ g k c.
            ⊎_elim
            (λ (h : f ≡ g). below-more (places_at old g) k (is.within g) (subst (λ ks. Contains ks k) (same g h) c))
            (λ (n : f ≡ g → ⊥). let m = is.within g k (subst (λ ks. Contains ks k) (other g n) c) in omega (arith, m, wide))
            (cases_eq f g);
        within_any = λ k c. let m = is.within_any k (subst (λ ks. Contains ks k) any c) in omega (arith, m, wide);
      }

pub IsRooted-more : (roots : List (Option ℕ)) (old new : Rooted) (root : Option ℕ) (place : ℕ) → place ≡ length roots → IsRooted roots old → HasMoreRoots old root place new → IsRooted (roots ++ root ∷ []) new
IsRooted-more roots old new None place at is more = more-any roots old new None place at is refl more.0 more.1
IsRooted-more roots old new (Some f) place at is more = more-at roots old new (Some f) place at is f refl more.0 more.1

pub rooted_next : {A : Type 0} (f : A → Option ℕ) (xs : List A) (k : ℕ) (a : A) (root : Option ℕ) (old new : Rooted) → k < length xs → a ≡ get_or xs k a → root ≡ f a → IsRooted (map f (take k xs)) old
    → HasMoreRoots old root k new → IsRooted (map f (take (k + 1) xs)) new
rooted_next {A} f xs k a root old new l at is before more =
    let size : length (map f (take k xs)) ≡ k = length-map (take k xs) f ∙ length-take-le k xs (omega arith) in
    let next : take (k + 1) xs ≡ take k xs ++ a ∷ [] = take_more xs k a l ∙ ap (λ (x : A). take k xs ++ x ∷ []) (sym at) in
    let roots : map f (take (k + 1) xs) ≡ map f (take k xs) ++ root ∷ [] = ap (map f) next ∙ (map-append f (take k xs) (a ∷ []) ∙ ap (λ x. map f (take k xs) ++ x ∷ []) (sym is)) in
    subst (λ rs. IsRooted rs new) (sym roots) (IsRooted-more (map f (take k xs)) old new root k (sym size) before more)

-- a test that holds only where the root is this one, or any
pub Decides-rooted : (roots : List (Option ℕ)) (r : Rooted) (f : ℕ) (test : ℕ → Bool) → IsRooted roots r
    → ((k : ℕ) → k < length roots → test k ≡ true → (get_or roots k None ≡ None) ⊎ (get_or roots k None ≡ Some f))
    → Decides (list_any test (places_at r f) || list_any test r.any.items) ((k : ℕ) × (k < length roots) × (test k ≡ true))
Decides-rooted roots r f test is fits =
    Decides-like (list_any test (places_at r f) || list_any test r.any.items)
    (λ w. elim w [
      | inl a ↦ (a.0, is.within f a.0 a.1, a.2)
      | inr b ↦ (b.0, is.within_any b.0 b.1, b.2)
    ])
    (λ w. ⊎_elim
    (λ (n : get_or roots w.0 None ≡ None). inr (w.0, is.any w.0 w.1 n, w.2))
    (λ (s : get_or roots w.0 None ≡ Some f). inl (w.0, is.there w.0 f w.1 s, w.2))
    (fits w.0 w.1 w.2))
    (Decides-or (list_any test (places_at r f)) (list_any test r.any.items) (Decides-any test (places_at r f)) (Decides-any test r.any.items))

-- the root of a pattern that is at a node
and-first : (a b : Bool) → (a && b) ≡ true → a ≡ true
and-first true b h = refl
and-first false b h = h

pub root-fits : (base f : ℕ) (p : PatternNumber) (ws : List (List ℕ)) → number_inside base p (Some f) ws ≡ true → (root_of p ≡ None) ⊎ (root_of p ≡ Some f)
root-fits base f None ws h = inl refl
root-fits base f (Some w) ws h = inr (ap Some ((Decides-eqb w.0 f).0 (and-first (w.0 == f) _ h)))

pub roots-at : (ps : List PatternNumber) (k : ℕ) → get_or (map root_of ps) k None ≡ root_of (get_or ps k None)
roots-at [] zero = refl
roots-at [] (suc k) = refl
roots-at (p ∷ ps) zero = refl
roots-at (p ∷ ps) (suc k) = roots-at ps k

mapped-Decides : {A : Type 0} (f : A → Bool) (xs : List A) (d : A) (k : ℕ) → Decides (get_or (map f xs) k false) ((k < length xs) × (f (get_or xs k d) ≡ true))
mapped-Decides f [] d k = Decides-false (λ h. absurd (omega (arith, h.0)))
mapped-Decides f (x ∷ xs) d zero = ((λ e. (omega arith, e)), (λ h. h.1))
mapped-Decides f (x ∷ xs) d (suc k) =
    let r = mapped-Decides f xs d k in
    ((λ e. let l = (r.0 e).0 in (omega (arith, l), (r.0 e).1)), (λ h. let l = h.0 in r.1 (omega (arith, l), h.1)))

-- the bits of patterns that were written for those of one root
pub HasBits-rooted : (ps : List PatternNumber) (r : Rooted) (base f : ℕ) (ws : List (List ℕ)) (bits : List Bool) (old mid new : List ℕ) → IsRooted (map root_of ps) r → length bits ≡ base → HasBits bits old
    → ((q : ℕ) → bit_of q mid ≡ (bit_of q old || list_any (writes_at base ps (Some f) ws q) (places_at r f)))
    → ((q : ℕ) → bit_of q new ≡ (bit_of q mid || list_any (writes_at base ps (Some f) ws q) r.any.items))
    → HasBits (bits ++ map (λ p. number_inside base p (Some f) ws) ps) new
HasBits-rooted ps r base f ws bits old mid new is size h one two q =
    let F : PatternNumber → Bool = λ p. number_inside base p (Some f) ws in
    let test : ℕ → Bool = writes_at base ps (Some f) ws q in
    let added : Bool = list_any test (places_at r f) || list_any test r.any.items in
    let fits : (k : ℕ) → k < length (map root_of ps) → test k ≡ true → (get_or (map root_of ps) k None ≡ None) ⊎ (get_or (map root_of ps) k None ≡ Some f) =
    λ k l t. subst (λ (x : Option ℕ). (x ≡ None) ⊎ (x ≡ Some f)) (sym (roots-at ps k)) (root-fits base f (get_or ps k None) ws (and-first (F (get_or ps k None)) (base + k == q) t)) in
    let some = Decides-rooted (map root_of ps) r f test is fits in
    let both : bit_of q new ≡ (get_or bits q false || added) =
    two q ∙ (ap (λ b. b || list_any test r.any.items) (one q ∙ ap (λ b. b || list_any test (places_at r f)) (h q))
    ∙ or_assoc (get_or bits q false) (list_any test (places_at r f)) (list_any test r.any.items)) in
    let count : length (map root_of ps) ≡ length ps = length-map ps root_of in
    both ∙ ⊎_elim
    (λ (l : q < length bits).
    let off : added ≡ false = same_from_iff added false some (Decides-false (λ (b : ⊥). b)) ((λ w. let e : base + w.0 ≡ q = at-place w.0 w.2 in omega (arith, e, l, size)), (λ (b : ⊥). absurd b)) in
    ap (λ b. get_or bits q false || b) off ∙ (or-nothing (get_or bits q false) ∙ sym (get_or_append_left bits (map F ps) false q l)))
    (λ (l : length bits ≤ q).
    let k : ℕ = q - base in
    let at : length bits + (q - base) ≡ q = omega (arith, l, size) in
    let same : added ≡ get_or (map F ps) (q - base) false = same_from_iff added (get_or (map F ps) (q - base) false) some (mapped-Decides F ps None (q - base)) (
      (λ w. let e : base + w.0 ≡ q = at-place w.0 w.2 in let m : w.0 ≡ q - base = omega (arith, e) in
          (let n = w.1 in omega (arith, n, m, count), subst (λ (j : ℕ). F (get_or ps j None) ≡ true) m (and-first (F (get_or ps w.0 None)) (base + w.0 == q) w.2))),
      (λ w. let n = w.0 in (q - base, omega (arith, n, count), and-both (F (get_or ps (q - base) None)) (base + (q - base) == q) w.1 ((Decides-eqb (base + (q - base)) q).1 (omega (arith, l, size))))),
    ) in
    ap (λ b. b || added) (get_or_past bits q false l) ∙ (same ∙ (sym (get_or-append-add bits (map F ps) (q - base) false) ∙ ap (λ j. get_or (bits ++ map F ps) j false) at)))
    (cases_lt q (length bits))
  where
    or-nothing : (b : Bool) → (b || false) ≡ b
    or-nothing true = refl
    or-nothing false = refl

    and-both : (a b : Bool) → a ≡ true → b ≡ true → (a && b) ≡ true
    and-both a b x y = (λ i. x i && y i)

    and-second : (a b : Bool) → (a && b) ≡ true → b ≡ true
    and-second true b k = k
    and-second false b k = absurd (true≢false (sym k))

    at-place : (k : ℕ) → writes_at base ps (Some f) ws q k ≡ true → base + k ≡ q
    at-place k t = (Decides-eqb (base + k) q).0 (and-second (number_inside base (get_or ps k None) (Some f) ws) (base + k == q) t)

-- where no root is, no pattern is
pub HasBits-nowhere : (ps : List PatternNumber) (base : ℕ) (ws : List (List ℕ)) (bits : List Bool) (w : List ℕ) → HasBits bits w → HasBits (bits ++ map (λ p. number_inside base p None ws) ps) w
HasBits-nowhere ps base ws bits w h q = h q ∙ sym (all-off bits ps q)
  where
    off-at : (ps : List PatternNumber) (q : ℕ) → get_or (map (λ p. number_inside base p None ws) ps) q false ≡ false
    off-at [] zero = refl
    off-at [] (suc q) = refl
    off-at (p ∷ ps) zero = refl
    off-at (p ∷ ps) (suc q) = off-at ps q

    all-off : (bits : List Bool) (ps : List PatternNumber) (q : ℕ) → get_or (bits ++ map (λ p. number_inside base p None ws) ps) q false ≡ get_or bits q false
    all-off [] ps zero = off-at ps zero
    all-off [] ps (suc q) = off-at ps (suc q)
    all-off (b ∷ bits) ps zero = refl
    all-off (b ∷ bits) ps (suc q) = all-off bits ps q
