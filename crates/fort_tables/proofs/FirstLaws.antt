-- The first elements with a property in an order: there is one list of them; it stays behind an injective function, and where two properties hold of the same elements.
use Rattle.std.proofs.Common.{◌≡◌, ℕ, zero, suc, ◌<◌, ◌⊎◌, Bool, true, Contains, List, [], ◌∷◌, length, get_or, map, refl, ap, sym, ◌∙◌, arith, subst, inl, inr, ⊎_elim}
use Rattle.std.proofs.lemmas.Bool.{cases_Bool, cases_lt}
use Rattle.std.proofs.lemmas.List.{same_lists, get_or_default, get_or-map, length-map}
use Rattle.std.proofs.lemmas.List.Elements.{All-get_or, All-contains, All-weaker}
use Rattle.fort_theory.specs.Signatures.{Signature}
use Rattle.fort_theory.proofs.Lists.{Contains-map_from}
use Rattle.fort_tables.specs.Tuples.{Tuple, IsTuple, IsFull}
use Rattle.fort_tables.specs.OperationTruth.{TupleRelation}
use Rattle.fort_tables.specs.TupleOrder.{TupleBefore}
use Rattle.fort_tables.specs.FirstInOrder.{AreFirstInOrder, ComesAfterAll}
use Rattle.fort_tables.specs.Solutions.{IsSolution, AreFirstSolutions}
use Rattle.fort_tables.proofs.TupleOrderLaws.{tuple_irrefl, tuple_trans, tuple_total}

module _ {A : Type 0} (Before : A → A → Type 0) (Kind : A → Type 0) (most : ℕ)
    (asymmetric : (x y : A) → Before x y → Before y x → ⊥) where
  abbrev Firsts : List A → Bool → Type 0
  Firsts xs m = AreFirstInOrder Before Kind most xs m

  -- what stands at one place of both lists and at a later one of the first
  repeated : (xs ys : List A) (m : Bool) (j k : ℕ) (d : A) → Firsts xs m → j < k → k < length xs
      → get_or xs j d ≡ get_or ys j d → get_or ys j d ≡ get_or xs k d → ⊥
  repeated xs ys m j k d h l n e f =
      let b : Before (get_or xs k d) (get_or xs k d) = subst (λ (z : A). Before z (get_or xs k d)) (e ∙ f) (h.rise j k d l n) in
      asymmetric (get_or xs k d) (get_or xs k d) b b

  -- lists that are the same below a place; there the first one has something that comes before what the second one has
  unseen : (xs ys : List A) (m n : Bool) (k : ℕ) (d : A) → Firsts xs m → Firsts ys n → k < length xs → k < length ys
      → ((j : ℕ) → j < k → get_or xs j d ≡ get_or ys j d) → Before (get_or xs k d) (get_or ys k d) → ⊥
  unseen xs ys m n k d h g l r same b =
      let x = get_or xs k d in
      let y = get_or ys k d in
      ⊎_elim
      (λ c. let at : get_or ys c.0 d ≡ x = get_or_default ys c.0 d x c.1 ∙ c.2 in
      ⊎_elim
      (λ low. repeated xs ys m c.0 k d h low l (same c.0 low) at)
      (λ up. ⊎_elim
      (λ high. asymmetric x y b (subst (λ (z : A). Before y z) at (g.rise k c.0 d high c.1)))
      (λ low. let e : c.0 ≡ k = omega arith in
      let f : y ≡ x = ap (λ (i : ℕ). get_or ys i d) (sym e) ∙ at in
      let s : Before x x = subst (λ (z : A). Before x z) f b in
      asymmetric x x s s)
      (cases_lt k c.0))
      (cases_lt c.0 k))
      (λ p. asymmetric x y b (All-get_or (λ z. Before z x) ys k d r p.1.after))
      (g.others x (All-get_or Kind xs k d l h.are))

  module _ (total : (x y : A) → Kind x → Kind y → (x ≡ y) ⊎ (Before x y ⊎ Before y x)) where
    same_at : (xs ys : List A) (m n : Bool) (d : A) → Firsts xs m → Firsts ys n
        → (bound k : ℕ) → k < bound → k < length xs → k < length ys → get_or xs k d ≡ get_or ys k d
    same_at xs ys m n d h g zero k b l r = absurd (omega arith)
    same_at xs ys m n d h g (suc bound) k b l r =
        let same : (j : ℕ) → j < k → get_or xs j d ≡ get_or ys j d =
        λ j low. same_at xs ys m n d h g bound j (omega arith) (omega arith) (omega arith) in
        ⊎_elim (λ e. e)
        (λ apart. ⊎_elim
        (λ before. absurd (unseen xs ys m n k d h g l r same before))
        (λ after. absurd (unseen ys xs n m k d g h r l (λ j low. sym (same j low)) after))
        apart)
        (total (get_or xs k d) (get_or ys k d) (All-get_or Kind xs k d l h.are) (All-get_or Kind ys k d r g.are))

    not_longer : (xs ys : List A) (m n : Bool) (d : A) → Firsts xs m → Firsts ys n → length xs < length ys → ⊥
    not_longer xs ys m n d h g l =
        let k = length xs in
        let y = get_or ys k d in
        ⊎_elim
        (λ c. let at : get_or xs c.0 d ≡ y = get_or_default xs c.0 d y c.1 ∙ c.2 in
        let here : get_or ys c.0 d ≡ get_or xs c.0 d = same_at ys xs n m d g h k c.0 c.1 (omega (arith, c.1)) c.1 in
        repeated ys xs n c.0 k d g c.1 l here at)
        (λ p. let full : length xs ≡ most = p.1.count in absurd (omega (arith, g.few)))
        (h.others y (All-get_or Kind ys k d l g.are))

    same_from : (xs ys : List A) (m n : Bool) (d : A) → Firsts xs m → Firsts ys n → xs ≡ ys
    same_from xs ys m n d h g =
        let count : length xs ≡ length ys =
        ⊎_elim (λ l. absurd (not_longer xs ys m n d h g l))
        (λ l. ⊎_elim (λ r. absurd (not_longer ys xs n m d g h r)) (λ r. omega arith) (cases_lt (length ys) (length xs)))
        (cases_lt (length xs) (length ys)) in
        same_lists xs ys count
        (λ k e l.
        let here : get_or xs k d ≡ get_or ys k d = same_at xs ys m n d h g (suc k) k (omega arith) l (omega arith) in
        get_or_default xs k e d l ∙ (here ∙ get_or_default ys k d e (omega arith)))

    same_first : (xs ys : List A) (m n : Bool) → Firsts xs m → Firsts ys n → xs ≡ ys
    same_first [] [] m n h g = refl
    same_first (x ∷ xs) ys m n h g = same_from (x ∷ xs) ys m n x h g
    same_first [] (y ∷ ys) m n h g = same_from [] (y ∷ ys) m n y h g

    -- what comes after a whole list isn't in it
    more_too : (xs : List A) (m n : Bool) → Firsts xs m → Firsts xs n → m ≡ true → n ≡ true
    more_too xs m n h g e =
        let next = h.more_are e in
        let y = next.0 in
        ⊎_elim
        (λ c. let b : Before y y = All-contains (λ z. Before z y) xs y next.2.after c in absurd (asymmetric y y b b))
        (λ p. p.0)
        (g.others y next.1)

    -- Result: there is one list of the first elements, and whether there are more is determined
    pub AreFirstInOrder-unique : (xs ys : List A) (m n : Bool) → AreFirstInOrder Before Kind most xs m → AreFirstInOrder Before Kind most ys n
        → (xs ≡ ys) × (m ≡ n)
    AreFirstInOrder-unique xs ys m n h g =
        let same : xs ≡ ys = same_first xs ys m n h g in
        let f : Firsts xs n = subst (λ (zs : List A). Firsts zs n) (sym same) g in
        let flag : m ≡ n =
        ⊎_elim (λ e. e ∙ sym (more_too xs m n h f e))
        (λ e. ⊎_elim (λ i. more_too xs n m f h i ∙ sym i) (λ i. e ∙ sym i) (cases_Bool n))
        (cases_Bool m) in
        (same, flag)

-- Result: the first elements with a property are those with another one that holds of the same elements
pub AreFirstInOrder-same : {A : Type 0} (Before : A → A → Type 0) (Kind Other : A → Type 0) (most : ℕ) (xs : List A) (more : Bool)
    → ((x : A) → Kind x → Other x) → ((x : A) → Other x → Kind x) → AreFirstInOrder Before Kind most xs more → AreFirstInOrder Before Other most xs more
AreFirstInOrder-same Before Kind Other most xs more to from h = record {
  are = All-weaker Kind Other to xs h.are;
  rise = h.rise;
  few = h.few;
  others = λ y k. h.others y (from y k);
  more_are = λ e. let next = h.more_are e in (next.0, to next.0 next.1, next.2);
}

-- behind an injective function that has each element with the property as a value, where one property holds exactly where the other holds of the value
module _ {A B : Type 0} (Before : A → A → Type 0) (KindA : A → Type 0) (KindB : B → Type 0) (g : B → A)
    (injective : (y z : B) → g y ≡ g z → y ≡ z)
    (to : (y : B) → KindB y → KindA (g y))
    (from : (y : B) → KindA (g y) → KindB y)
    (onto : (x : A) → KindA x → (y : B) × (x ≡ g y)) where
  abbrev Behind : B → B → Type 0
  Behind y z = Before (g y) (g z)

  past : (most : ℕ) (ys : List B) (y : B) → ComesAfterAll Before most (map g ys) (g y) → ComesAfterAll Behind most ys y
  past most ys y p =
      let long : length (map g ys) ≡ length ys = length-map ys g in
      let Earlier : A → Type 0 = λ x. Before x (g y) in
      record {
        count = sym long ∙ p.count;
        after = λ i d l. subst Earlier (get_or-map g ys i d (g d) l) (All-get_or Earlier (map g ys) i (g d) (omega (arith, long)) p.after);
      }

  -- Result: what the function makes the first elements with the one are the first ones with the other
  pub AreFirstInOrder-mapped : (most : ℕ) (ys : List B) (more : Bool) → AreFirstInOrder Before KindA most (map g ys) more
      → AreFirstInOrder (λ y z. Before (g y) (g z)) KindB most ys more
  AreFirstInOrder-mapped most ys more h =
      let long : length (map g ys) ≡ length ys = length-map ys g in
      let at : (i : ℕ) (d : B) → i < length ys → get_or (map g ys) i (g d) ≡ g (get_or ys i d) = λ i d l. get_or-map g ys i d (g d) l in
      record {
        are = λ k d l. from (get_or ys k d) (subst KindA (at k d l) (All-get_or KindA (map g ys) k (g d) (omega (arith, long)) h.are));
        rise = λ i j d l r.
            subst (λ (x : A). Before x (g (get_or ys j d))) (at i d (omega arith))
            (subst (λ (x : A). Before (get_or (map g ys) i (g d)) x) (at j d r) (h.rise i j (g d) l (omega (arith, long))));
        few = omega (arith, long, h.few);
        others = λ y k.
            ⊎_elim
            (λ c. let p = Contains-map_from g ys (g y) c in inl (subst (λ (z : B). Contains ys z) (injective p.0 y p.2) p.1))
            (λ p. inr (p.0, past most ys y p.1))
            (h.others (g y) (to y k));
        more_are = λ e.
            let next = h.more_are e in
            let back = onto next.0 next.1 in
            let after = subst (λ (x : A). ComesAfterAll Before most (map g ys) x) back.1 next.2 in
            (back.0, from back.0 (subst KindA back.1 next.1), past most ys back.0 after);
      }

tuple_asymmetric : (t u : Tuple) → TupleBefore t u → TupleBefore u t → ⊥
tuple_asymmetric t u h k = tuple_irrefl t (tuple_trans t u t h k)

-- Result: a relation has one list of first solutions
pub AreFirstSolutions-unique : (sig : Signature) (columns : ℕ) (R : TupleRelation) (height most : ℕ) (ts us : List Tuple) (m n : Bool)
    → AreFirstSolutions sig columns R height most ts m → AreFirstSolutions sig columns R height most us n → (ts ≡ us) × (m ≡ n)
AreFirstSolutions-unique sig columns R height most ts us m n h k =
    AreFirstInOrder-unique TupleBefore (IsSolution sig columns R height) most tuple_asymmetric
    (λ t u p q. tuple_total sig columns t u p.tuple q.tuple)
    ts us m n h k

-- Result: relations that hold of the same full tuples have the same first solutions
pub AreFirstSolutions-relation : (sig : Signature) (columns : ℕ) (R S : TupleRelation) (height most : ℕ) (ts : List Tuple) (more : Bool)
    → ((t : Tuple) → IsTuple sig columns t → IsFull t → R t → S t) → ((t : Tuple) → IsTuple sig columns t → IsFull t → S t → R t)
    → AreFirstSolutions sig columns R height most ts more → AreFirstSolutions sig columns S height most ts more
AreFirstSolutions-relation sig columns R S height most ts more to from h =
    AreFirstInOrder-same TupleBefore (IsSolution sig columns R height) (IsSolution sig columns S height) most ts more
    (λ t s. record { tuple = s.tuple; full = s.full; holds = to t s.tuple s.full s.holds; low = s.low })
    (λ t s. record { tuple = s.tuple; full = s.full; holds = from t s.tuple s.full s.holds; low = s.low })
    h
