-- Forms that are values one by one, up to an end that none of them may be: they are one list of values and have one end.
use Rattle.std.proofs.Common.{◌≡◌, ℕ, suc, ◌+◌, List, [], ◌∷◌, ◌++◌, length, Option, None, Some, refl, ap, sym, ◌∙◌, arith, subst, append-nil}
use Rattle.std.specs.List.{AllZip}
use Rattle.fort_grammar.specs.Forms.{Form}

pub record AreOne {A X : Type 0} (xs ys : List A) (e f : X) : Type 0 where
  pub values : xs ≡ ys
  pub ends : e ≡ f

-- the number of the next form, the forms that are left, and what is said of them
module _ {A X : Type 0} (R : Form → A → Type 0) (End : ℕ → List Form → X → Type 0)
    (one : (f : Form) (x y : A) → R f x → R f y → x ≡ y)
    (apart : (i : ℕ) (f : Form) (fs : List Form) (x : A) (e : X) → R f x → End i (f ∷ fs) e → ⊥)
    (end_one : (i : ℕ) (fs : List Form) (e f : X) → End i fs e → End i fs f → e ≡ f) where
  pub reading_one : (i : ℕ) (before rest before' rest' : List Form) (xs ys : List A) (e e' : X) → before ++ rest ≡ before' ++ rest'
      → AllZip R before xs → AllZip R before' ys → End (i + length before) rest e → End (i + length before') rest' e' → AreOne xs ys e e'
  reading_one i [] rest [] rest' [] [] e e' h x y p q = record {
    values = refl;
    ends = end_one (i + 0) rest' e e' (subst (λ (fs : List Form). End (i + 0) fs e) h p) q;
  }
  reading_one i [] rest [] rest' [] (b ∷ ys) e e' h x y p q = absurd y
  reading_one i [] rest [] rest' (a ∷ xs) ys e e' h x y p q = absurd x
  reading_one i [] rest (g ∷ before') rest' xs [] e e' h x y p q = absurd y
  reading_one i [] rest (g ∷ before') rest' xs (b ∷ ys) e e' h x y p q =
      absurd (apart (i + 0) g (before' ++ rest') b e y.0 (subst (λ (fs : List Form). End (i + 0) fs e) h p))
  reading_one i (f ∷ before) rest [] rest' [] ys e e' h x y p q = absurd x
  reading_one i (f ∷ before) rest [] rest' (a ∷ xs) ys e e' h x y p q =
      absurd (apart (i + 0) f (before ++ rest) a e' x.0 (subst (λ (fs : List Form). End (i + 0) fs e') (sym h) q))
  reading_one i (f ∷ before) rest (g ∷ before') rest' [] ys e e' h x y p q = absurd x
  reading_one i (f ∷ before) rest (g ∷ before') rest' (a ∷ xs) [] e e' h x y p q = absurd y
  reading_one i (f ∷ before) rest (g ∷ before') rest' (a ∷ xs) (b ∷ ys) e e' h x y p q =
      let head : f ≡ g = cc in
      let tail : before ++ rest ≡ before' ++ rest' = cc in
      let m : i + suc (length before) ≡ suc i + length before = omega arith in
      let n : i + suc (length before') ≡ suc i + length before' = omega arith in
      let first : a ≡ b = one g a b (subst (λ (z : Form). R z a) head x.0) y.0 in
      let later = reading_one (suc i) before rest before' rest' xs ys e e' tail x.1 y.1
      (subst (λ (z : ℕ). End z rest e) m p) (subst (λ (z : ℕ). End z rest' e') n q) in
      record { values = λ j. first j ∷ later.values j; ends = later.ends }

-- no form is left, or the next one is bad
pub data Stops {X : Type 0} (Bad : ℕ → Form → X → Type 0) (i : ℕ) : List Form → Option X → Type 0 where
  AtEnd : Stops Bad i [] None
  AtBad : (f : Form) (fs : List Form) (x : X) → Bad i f x → Stops Bad i (f ∷ fs) (Some x)

some_one : {X : Type 0} (x y : X) → Some x ≡ Some y → x ≡ y
some_one x y h = cc

none_some : {X : Type 0} (x : X) → None ≡ Some x → ⊥
none_some x h = cc

module _ {A X : Type 0} (R : Form → A → Type 0) (Bad : ℕ → Form → X → Type 0)
    (one : (f : Form) (x y : A) → R f x → R f y → x ≡ y) (apart : (i : ℕ) (f : Form) (x : A) (b : X) → R f x → Bad i f b → ⊥)
    (bad_one : (i : ℕ) (f : Form) (a b : X) → Bad i f a → Bad i f b → a ≡ b) where
  stop_apart : (i : ℕ) (f : Form) (fs : List Form) (x : A) (e : Option X) → R f x → Stops Bad i (f ∷ fs) e → ⊥
  stop_apart i f fs x e r (AtBad g gs b bad) = apart i f x b r bad

  stop_one : (i : ℕ) (fs : List Form) (e e' : Option X) → Stops Bad i fs e → Stops Bad i fs e' → e ≡ e'
  stop_one i fs e e' AtEnd AtEnd = refl
  stop_one i fs e e' (AtBad f gs a h) (AtBad g hs b k) = ap Some (bad_one i f a b h k)

  pub stops_one : (i : ℕ) (before rest before' rest' : List Form) (xs ys : List A) (e e' : Option X) → before ++ rest ≡ before' ++ rest'
      → AllZip R before xs → AllZip R before' ys → Stops Bad (i + length before) rest e → Stops Bad (i + length before') rest' e' → AreOne xs ys e e'
  stops_one i before rest before' rest' xs ys e e' h x y p q =
      reading_one R (Stops Bad) one stop_apart stop_one i before rest before' rest' xs ys e e' h x y p q

  -- the first bad form is bad in one way
  pub first_bad_one : (i : ℕ) (before after before' after' : List Form) (xs ys : List A) (f g : Form) (a b : X)
      → before ++ f ∷ after ≡ before' ++ g ∷ after' → AllZip R before xs → AllZip R before' ys → Bad (i + length before) f a
      → Bad (i + length before') g b → a ≡ b
  first_bad_one i before after before' after' xs ys f g a b h x y p q =
      some_one a b (stops_one i before (f ∷ after) before' (g ∷ after') xs ys (Some a) (Some b) h x y (AtBad f after a p) (AtBad g after' b q)).ends

  -- where all are values, none is bad
  pub all_none_bad : (i : ℕ) (before after all : List Form) (xs ys : List A) (f : Form) (a : X) → all ≡ before ++ f ∷ after
      → AllZip R all xs → AllZip R before ys → Bad (i + length before) f a → ⊥
  all_none_bad i before after all xs ys f a h x y p =
      none_some a (stops_one i all [] before (f ∷ after) xs ys None (Some a) (append-nil all ∙ h) x y AtEnd (AtBad f after a p)).ends

  -- and they are one list of values
  pub all_one : (all : List Form) (xs ys : List A) → AllZip R all xs → AllZip R all ys → xs ≡ ys
  all_one all xs ys x y = (stops_one 0 all [] all [] xs ys None None refl x y AtEnd AtEnd).values
