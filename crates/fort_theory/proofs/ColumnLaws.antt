-- The columns of a formula: from those of its operands, and that there is but one list of them. What makes a formula too wide.
use Rattle.std.specs.Prelude.{◌≡◌, ◌↔◌, ℕ, ◌<◌, ◌≤◌, ◌==◌, Bool, true, false, not, ◌||◌, ◌&&◌, List, [], ◌∷◌, ◌++◌, ◌⊎◌, length, filter, Contains, refl}
use Rattle.std.specs.List.{list_any}
use Rattle.std.specs.declared.cmp.Ordering.TheVariants.{Less}
use Rattle.std.specs.List.Sorted.{IsStrictlyIncreasing, IsStrictlySortedBy}
use Rattle.std.specs.Ordering.{nat_cmp}
use Rattle.std.proofs.Common.{ap, sym, ◌∙◌, subst, arith, inl, inr, append_assoc}
use Rattle.std.proofs.lemmas.Bool.{or_cases, or_left, or_right, and_parts, and_from}
use Rattle.std.proofs.lemmas.Bool.Decides.{nat_tests}
use Rattle.std.proofs.lemmas.List.Elements.{All-from_recursion, All-contains, Contains-append_left, Contains-append_right, Contains-append_cases, Contains-push, Contains-push_cases}
use Rattle.std.proofs.lemmas.List.Kept.{IsStrictlyIncreasing-filter}
use Rattle.std.proofs.lemmas.Map.Keys.{sorted_from_strictly_increasing, sorted_head, sorted_tail}
use Rattle.fort_theory.specs.Cores.{Rel, Atom, Related, InContext, Normal, IsTerm, Core, True, Leaf, Not, Binary, Exists, Infinite}
use Rattle.fort_theory.specs.Trees.{Tree}
use Rattle.fort_theory.specs.Expressions.{Expression}
use Rattle.fort_theory.specs.Contexts.{HoleNumber, HolePlace}
use Rattle.fort_theory.specs.Signatures.{most_columns}
use Rattle.fort_theory.specs.Parts.{postorder, stands_in, is_free, AreColumns, HasManyColumns, HasManyRootsAt, IsTooWide}
use Rattle.fort_theory.proofs.Members.{Contains-head, Contains-behind, Contains-cons_cases, Contains-none, Contains-filter, Contains-from_filter, Contains-Decides}

-- ---- from the operands

pub AreColumns-True : AreColumns True []
AreColumns-True = record { ascending = λ k l. absurd (omega arith); free = λ n. (λ c. absurd (Contains-none n c), λ e. absurd cc) }

or-false : (b : Bool) → (b || false) ≡ b
or-false true = refl
or-false false = refl

-- the numbers of an atom, each once and ascending
AreColumns-leaf : (a : Atom) (numbers columns : List ℕ) → ((n : ℕ) → list_any (λ x. x == n) numbers ≡ stands_in n a)
    → IsStrictlyIncreasing columns → ((n : ℕ) → Contains columns n ↔ Contains numbers n) → AreColumns (Leaf a) columns
AreColumns-leaf a numbers columns tells ascending same =
    record {
      ascending = ascending;
      free =
          λ n.
          let test = Contains-Decides numbers n in
          (λ c. sym (tells n) ∙ test.1 ((same n).0 c), λ e. (same n).1 (test.0 (tells n ∙ e)));
    }

pub AreColumns-Normal : (index x : ℕ) → AreColumns (Leaf (Normal index x)) (x ∷ [])
AreColumns-Normal index x =
    AreColumns-leaf (Normal index x) (x ∷ []) (x ∷ []) (λ n. or-false (x == n)) (λ k l. absurd (omega arith)) (λ n. (λ c. c, λ c. c))

pub AreColumns-IsTerm : (x : ℕ) (t : Tree) → AreColumns (Leaf (IsTerm x t)) (x ∷ [])
AreColumns-IsTerm x t =
    AreColumns-leaf (IsTerm x t) (x ∷ []) (x ∷ []) (λ n. or-false (x == n)) (λ k l. absurd (omega arith)) (λ n. (λ c. c, λ c. c))

-- an atom of two numbers
pub AreColumns-pair : (a : Atom) (x y : ℕ) → ((n : ℕ) → stands_in n a ≡ ((x == n) || (y == n))) → (columns : List ℕ) → IsStrictlyIncreasing columns
    → ((n : ℕ) → Contains columns n ↔ Contains (x ∷ y ∷ []) n) → AreColumns (Leaf a) columns
AreColumns-pair a x y of columns ascending same =
    AreColumns-leaf a (x ∷ y ∷ []) columns (λ n. ap (λ b. (x == n) || b) (or-false (y == n)) ∙ sym (of n)) ascending same

pub AreColumns-Related : (rel : Rel) (index x y : ℕ) (columns : List ℕ) → IsStrictlyIncreasing columns
    → ((n : ℕ) → Contains columns n ↔ Contains (x ∷ y ∷ []) n) → AreColumns (Leaf (Related rel index x y)) columns
AreColumns-Related rel index x y columns ascending same = AreColumns-pair (Related rel index x y) x y (λ n. refl) columns ascending same

pub AreColumns-InContext : (e : Expression) (number : HoleNumber) (place : HolePlace) (x y : ℕ) (columns : List ℕ) → IsStrictlyIncreasing columns
    → ((n : ℕ) → Contains columns n ↔ Contains (x ∷ y ∷ []) n) → AreColumns (Leaf (InContext e number place x y)) columns
AreColumns-InContext e number place x y columns ascending same = AreColumns-pair (InContext e number place x y) x y (λ n. refl) columns ascending same

-- an operand has the same columns
pub AreColumns-same : (h f : Core) (columns : List ℕ) → ((n : ℕ) → is_free n h ≡ is_free n f) → AreColumns f columns → AreColumns h columns
AreColumns-same h f columns tells are =
    record {
      ascending = are.ascending;
      free = λ n. (λ c. tells n ∙ (are.free n).0 c, λ e. (are.free n).1 (sym (tells n) ∙ e));
    }

-- two operands have them together
pub AreColumns-two : (h f g : Core) (xs ys columns : List ℕ) → ((n : ℕ) → is_free n h ≡ (is_free n f || is_free n g))
    → AreColumns f xs → AreColumns g ys → IsStrictlyIncreasing columns → ((n : ℕ) → Contains columns n ↔ Contains (xs ++ ys) n)
    → AreColumns h columns
AreColumns-two h f g xs ys columns tells first second ascending same =
    record {
      ascending = ascending;
      free =
          λ n. (
            λ c. tells n ∙ from n (Contains-append_cases xs ys n ((same n).0 c)),
            λ e. (same n).1 (to n (or_cases (is_free n f) (is_free n g) (sym (tells n) ∙ e))),
          );
    }
  where
    from : (n : ℕ) → Contains xs n ⊎ Contains ys n → (is_free n f || is_free n g) ≡ true
    from n (inl c) = or_left (is_free n f) (is_free n g) ((first.free n).0 c)
    from n (inr c) = or_right (is_free n f) (is_free n g) ((second.free n).0 c)

    to : (n : ℕ) → (is_free n f ≡ true) ⊎ (is_free n g ≡ true) → Contains (xs ++ ys) n
    to n (inl e) = Contains-append_left xs ys n ((first.free n).1 e)
    to n (inr e) = Contains-append_right xs ys n ((second.free n).1 e)

-- a binder takes its number away
pub AreColumns-bound : (h f : Core) (x : ℕ) (xs : List ℕ) → ((n : ℕ) → is_free n h ≡ (not (x == n) && is_free n f))
    → AreColumns f xs → AreColumns h (filter (λ n. not (x == n)) xs)
AreColumns-bound h f x xs tells are =
    record {
      ascending = IsStrictlyIncreasing-filter (λ n. not (x == n)) xs are.ascending;
      free =
          λ n. (
            λ c.
                let kept = Contains-from_filter (λ n. not (x == n)) xs n c in
                tells n ∙ and_from (not (x == n)) (is_free n f) kept.1 ((are.free n).0 kept.0),
            λ e.
                let both = and_parts (not (x == n)) (is_free n f) (sym (tells n) ∙ e) in
                Contains-filter (λ n. not (x == n)) xs n ((are.free n).1 both.1) both.0,
          );
    }

-- ---- there is one list of them

behind-above : (x : ℕ) (xs : List ℕ) (n : ℕ) → IsStrictlySortedBy nat_cmp (x ∷ xs) → Contains xs n → x < n
behind-above x xs n h c =
    let less = All-contains (λ y. nat_cmp x y ≡ Less) xs n (All-from_recursion (λ y. nat_cmp x y ≡ Less) xs (sorted_head nat_cmp x xs h)) c in
    grind (arith, nat_tests, less)

same_sorted : (xs ys : List ℕ) → IsStrictlySortedBy nat_cmp xs → IsStrictlySortedBy nat_cmp ys → ((n : ℕ) → Contains xs n → Contains ys n)
    → ((n : ℕ) → Contains ys n → Contains xs n) → xs ≡ ys
same_sorted [] [] h k to from = refl
same_sorted [] (y ∷ ys) h k to from = absurd (Contains-none y (from y (Contains-head y ys)))
same_sorted (x ∷ xs) [] h k to from = absurd (Contains-none x (to x (Contains-head x xs)))
same_sorted (x ∷ xs) (y ∷ ys) h k to from =
    let low : y ≤ x = bound y ys x k (to x (Contains-head x xs)) in
    let high : x ≤ y = bound x xs y h (from y (Contains-head y ys)) in
    let heads : x ≡ y = omega arith in
    let rests : xs ≡ ys =
    same_sorted xs ys (sorted_tail nat_cmp x xs h) (sorted_tail nat_cmp y ys k)
    (λ n c. behind y ys n (to n (Contains-behind x xs n c)) (λ e. let above = behind-above x xs n h c in omega arith))
    (λ n c. behind x xs n (from n (Contains-behind y ys n c)) (λ e. let above = behind-above y ys n k c in omega arith)) in
    cc
  where
    bound : (a : ℕ) (rest : List ℕ) (n : ℕ) → IsStrictlySortedBy nat_cmp (a ∷ rest) → Contains (a ∷ rest) n → a ≤ n
    bound a rest n s c =
        elim (Contains-cons_cases a rest n c) [
          | inl e ↦ omega arith
          | inr d ↦ let above = behind-above a rest n s d in omega arith
        ]

    behind : (a : ℕ) (rest : List ℕ) (n : ℕ) → Contains (a ∷ rest) n → (a ≡ n → ⊥) → Contains rest n
    behind a rest n c other = elim (Contains-cons_cases a rest n c) [ inl e ↦ absurd (other e) | inr d ↦ d ]

pub AreColumns-one : (f : Core) (xs ys : List ℕ) → AreColumns f xs → AreColumns f ys → xs ≡ ys
AreColumns-one f xs ys first second =
    same_sorted xs ys (sorted_from_strictly_increasing xs first.ascending) (sorted_from_strictly_increasing ys second.ascending)
    (λ n c. (second.free n).1 ((first.free n).0 c)) (λ n c. (first.free n).1 ((second.free n).0 c))

-- ---- too wide

-- more columns than a tuple may have
abbrev pub AreTooMany : List ℕ → Type 0
AreTooMany columns = most_columns < length columns

postorder-root : (h : Core) → Contains (postorder h) h
postorder-root True = Contains-head True []
postorder-root (Leaf a) = Contains-head (Leaf a) []
postorder-root (Not h) = Contains-push (postorder h) (Not h)
postorder-root (Binary op h k) =
    Contains-append_right (postorder h) (postorder k ++ Binary op h k ∷ []) (Binary op h k) (Contains-push (postorder k) (Binary op h k))
postorder-root (Exists n h) = Contains-push (postorder h) (Exists n h)
postorder-root (Infinite n h) = Contains-push (postorder h) (Infinite n h)

pub IsTooWide-here : (f : Core) (columns : List ℕ) → AreColumns f columns → AreTooMany columns → IsTooWide f
IsTooWide-here f columns are wide =
    record { part = f; among = postorder-root f; wide = inl (record { columns = columns; are_columns = are; many = wide }) }

pub IsTooWide-long : (f : Core) → HasManyRootsAt f → IsTooWide f
IsTooWide-long f long = record { part = f; among = postorder-root f; wide = inr long }

pub IsTooWide-first : (h f : Core) (rest : List Core) → postorder h ≡ postorder f ++ rest → IsTooWide f → IsTooWide h
IsTooWide-first h f rest is w =
    let among : Contains (postorder h) w.part = rw is (Contains-append_left (postorder f) rest w.part w.among) in
    record { part = w.part; among = among; wide = w.wide }

pub IsTooWide-second : (h f g : Core) → postorder h ≡ postorder f ++ (postorder g ++ h ∷ []) → IsTooWide g → IsTooWide h
IsTooWide-second h f g is w =
    let among : Contains (postorder h) w.part =
    rw is (Contains-append_right (postorder f) (postorder g ++ h ∷ []) w.part (Contains-append_left (postorder g) (h ∷ []) w.part w.among)) in
    record { part = w.part; among = among; wide = w.wide }

-- a formula that isn't too wide by itself is so by another part
by_others : (h : Core) (others : List Core) → (HasManyColumns h ⊎ HasManyRootsAt h → ⊥)
    → (w : IsTooWide h) → Contains (others ++ h ∷ []) w.part → Contains others w.part
by_others h others not w c =
    elim (Contains-push_cases others h w.part c) [
      | inl d ↦ d
      | inr e ↦ absurd (not (subst (λ (p : Core). HasManyColumns p ⊎ HasManyRootsAt p) (sym e) w.wide))
    ]

-- by its only list of columns
pub itself_not : (h : Core) (columns : List ℕ) → AreColumns h columns → length columns ≤ most_columns → (HasManyRootsAt h → ⊥) → HasManyColumns h ⊎ HasManyRootsAt h → ⊥
itself_not h columns are narrow short (inl many) =
    let same : columns ≡ many.columns = AreColumns-one h columns many.columns are many.are_columns in
    let wide : most_columns < length columns = rw same many.many in
    absurd (omega arith)
itself_not h columns are narrow short (inr long) = short long

again : (f h : Core) (w : IsTooWide h) → Contains (postorder f) w.part → IsTooWide f
again f h w c = record { part = w.part; among = c; wide = w.wide }

pub IsTooWide-leaf : (h : Core) → postorder h ≡ h ∷ [] → (HasManyColumns h ⊎ HasManyRootsAt h → ⊥) → IsTooWide h → ⊥
IsTooWide-leaf h is not w =
    let among : Contains ([] ++ h ∷ []) w.part = rw is at w.among in
    Contains-none w.part (by_others h [] not w among)

pub IsTooWide-one : (h f : Core) → postorder h ≡ postorder f ++ h ∷ [] → (HasManyColumns h ⊎ HasManyRootsAt h → ⊥) → IsTooWide h → IsTooWide f
IsTooWide-one h f is not w =
    let among : Contains (postorder f ++ h ∷ []) w.part = rw is at w.among in
    again f h w (by_others h (postorder f) not w among)

pub IsTooWide-two : (h f g : Core) → postorder h ≡ postorder f ++ (postorder g ++ h ∷ []) → (HasManyColumns h ⊎ HasManyRootsAt h → ⊥)
    → IsTooWide h → IsTooWide f ⊎ IsTooWide g
IsTooWide-two h f g is not w =
    let among : Contains ((postorder f ++ postorder g) ++ h ∷ []) w.part = rw (append_assoc (postorder f) (postorder g) (h ∷ []), ← is) w.among in
    elim (Contains-append_cases (postorder f) (postorder g) w.part (by_others h (postorder f ++ postorder g) not w among)) [
      | inl c ↦ inl (again f h w c)
      | inr c ↦ inr (again g h w c)
    ]
