-- Indexed rules in the lists of their indices.
use Rattle.std.proofs.Common.{◌≡◌, ℕ, zero, suc, Bool, true, false, ◌==◌, List, [], ◌∷◌, ◌++◌, length, map, refl, ap, sym, ◌∙◌, subst, inl, inr, arith, append-nil}
use Rattle.std.specs.Prelude.{filter, cond}
use Rattle.std.proofs.lemmas.Bool.Decides.{eqb_tells}
use Rattle.std.proofs.lemmas.List.{map-append, length-map}
use Rattle.std.proofs.lemmas.List.Elements.{filter-append}
use Rattle.fort_theory.specs.Sides.{Rule, at_index, pushed_at, empty_lists, count_all, IsIndexOf}
use Rattle.fort_theory.proofs.IndexLaws.{at_index-pushed_same, at_index-pushed_other}
use Rattle.fort_grammar.specs.RuleForms.{IndexedRule, rules_of}

-- one more rule, at its index and at any other
rules_of-one : (r : IndexedRule) (index : ℕ) (b : Bool) → (r.index == index) ≡ b → rules_of index (r ∷ []) ≡ cond b (r.rule ∷ []) []
rules_of-one r index true e = rw e refl
rules_of-one r index false e = rw e refl

rules_of-push : (given : List IndexedRule) (r : IndexedRule) (index : ℕ) → rules_of index (given ++ r ∷ []) ≡ rules_of index given ++ rules_of index (r ∷ [])
rules_of-push given r index =
    ap (map (λ (x : IndexedRule). x.rule)) (filter-append (λ (x : IndexedRule). x.index == index) given (r ∷ []))
    ∙ map-append (λ (x : IndexedRule). x.rule) (filter (λ (x : IndexedRule). x.index == index) given) (filter (λ (x : IndexedRule). x.index == index) (r ∷ []))

pub sorted_more : (lists : List (List Rule)) (given : List IndexedRule) (r : IndexedRule) → IsIndexOf lists r.index
    → ((index : ℕ) → at_index index lists ≡ rules_of index given) → (index : ℕ) → at_index index (pushed_at r.index r.rule lists) ≡ rules_of index (given ++ r ∷ [])
sorted_more lists given r here sorted index =
    elim (eqb_tells r.index index) [
      | inl same ↦
          subst (λ i. at_index i (pushed_at r.index r.rule lists) ≡ rules_of index given ++ r.rule ∷ []) same.1
          (at_index-pushed_same r.index r.rule lists here ∙ ap (λ xs. xs ++ r.rule ∷ []) (ap (λ i. at_index i lists) same.1 ∙ sorted index))
          ∙ ap (λ xs. rules_of index given ++ xs) (sym (rules_of-one r index true same.0)) ∙ sym (rules_of-push given r index)
      | inr other ↦
          at_index-pushed_other r.index index r.rule lists other.1 ∙ sorted index ∙ sym (append-nil (rules_of index given))
          ∙ ap (λ xs. rules_of index given ++ xs) (sym (rules_of-one r index false other.0)) ∙ sym (rules_of-push given r index)
    ]

pub at_index-empty : (A : Type 0) (number index : ℕ) → at_index index (empty_lists {A = A} number) ≡ []
at_index-empty A number zero = refl
at_index-empty A zero (suc index) = refl
at_index-empty A (suc number) (suc zero) = refl
at_index-empty A (suc number) (suc (suc index)) = at_index-empty A number (suc index)

pub map-empty : {A B : Type 0} (f : A → B) (number : ℕ) → empty_lists {A = B} number ≡ map (map f) (empty_lists {A = A} number)
map-empty f zero = refl
map-empty f (suc number) = ap (λ ls. [] ∷ ls) (map-empty f number)

pub count_all-empty : (A : Type 0) (number : ℕ) → count_all (empty_lists {A = A} number) ≡ 0
count_all-empty A zero = refl
count_all-empty A (suc number) = let rest = count_all-empty A number in omega arith

pub count_all-map : {A B : Type 0} (f : A → B) (lists : List (List A)) → count_all (map (map f) lists) ≡ count_all lists
count_all-map f [] = refl
count_all-map f (xs ∷ lists) = let rest = count_all-map f lists in omega (arith, length-map xs f)

-- lists are told by what they have at each index
pub same_lists : {A : Type 0} (lists others : List (List A)) → length lists ≡ length others
    → ((index : ℕ) → at_index index lists ≡ at_index index others) → lists ≡ others
same_lists [] [] l each = refl
same_lists [] (ys ∷ others) l each = absurd (omega arith)
same_lists (xs ∷ lists) [] l each = absurd (omega arith)
same_lists {A} (xs ∷ lists) (ys ∷ others) l each =
    let first : xs ≡ ys = each 1 in
    let later : (index : ℕ) → at_index index lists ≡ at_index index others = λ index. behind index in
    ap (λ zs. zs ∷ lists) first ∙ ap (λ ls. ys ∷ ls) (same_lists lists others (omega arith) later)
  where
    behind : (index : ℕ) → at_index index lists ≡ at_index index others
    behind zero = refl
    behind (suc index) = each (suc (suc index))
