-- Lists of lists of the program, and a list with one more.
use Rattle.std.proofs.Common.{◌≡◌, ℕ, ◌<◌, ◌==◌, ◌&&◌, ◌||◌, List, [], ◌++◌, length, map, get_or, set, Vec, Global, Bool, true, false, if◌then◌else◌, ⊎_elim, refl, ap, sym, ◌∙◌, arith, eq-eqb}
use Rattle.std.specs.Prelude.{vec_items}
use Rattle.std.proofs.lemmas.Bool.{cases_eq}
use Rattle.std.proofs.lemmas.List.{map-set, length-map, get_or-map, get_or-set_same, get_or-set_other}
use Rattle.std.proofs.lemmas.List.Folds.{list_any-append}
use Rattle.fort_tables.proofs.EqualTests.{if_equal, if_apart, test_from_apart}
use Rattle.fort_tables.specs.PureSearch.{has_number}
use Rattle.fort_infinity.specs.StateListsView.{lists_of}

-- more at the end of one list
pub appended_at : (lists : List (Vec ℕ Global)) (q k : ℕ) (v w : Vec ℕ Global) (states : List ℕ) → q < length lists → v ≡ get_or lists q v → w.items ≡ v.items ++ states
    → get_or (lists_of (set lists q w)) k [] ≡ (if k == q then get_or (lists_of lists) k [] ++ states else get_or (lists_of lists) k [])
appended_at lists q k v w states l at more =
    let f : Vec ℕ Global → List ℕ = λ list. vec_items list in
    let n : q < length (map f lists) = omega (arith, length-map lists f) in
    ap (λ xs. get_or xs k []) (map-set f lists q w)
    ∙ ⊎_elim
    (λ (e : k ≡ q).
    let here : get_or (set (map f lists) q (f w)) k [] ≡ w.items = ap (λ i. get_or (set (map f lists) q (f w)) i []) e ∙ get_or-set_same (map f lists) q (f w) [] n in
    let old : get_or (map f lists) k [] ≡ v.items = ap (λ i. get_or (map f lists) i []) e ∙ (get_or-map f lists q v [] l ∙ ap f (sym at)) in
    here ∙ (more ∙ (ap (λ xs. xs ++ states) (sym old) ∙ sym (if_equal k q (get_or (map f lists) k [] ++ states) (get_or (map f lists) k []) e))))
    (λ (ne : k ≡ q → ⊥). get_or-set_other (map f lists) q k (f w) [] ne ∙ sym (if_apart k q (get_or (map f lists) k [] ++ states) (get_or (map f lists) k []) ne))
    (cases_eq k q)

or_turned : (a b : Bool) → (a || b) ≡ (b || a)
or_turned true true = refl
or_turned true false = refl
or_turned false true = refl
or_turned false false = refl

-- whether k is there, after states were noted beside x
pub has_number-noted : (x q k : ℕ) (old ks : List ℕ) → has_number k (if q == x then old ++ ks else old) ≡ (((x == q) && has_number k ks) || has_number k old)
has_number-noted x q k old ks = ⊎_elim
    (λ (e : q ≡ x). rw (if_equal q x (old ++ ks) old e, eq-eqb x q (sym e)) (list_any-append (λ i. i == k) old ks ∙ or_turned (has_number k old) (has_number k ks)))
    (λ (n : q ≡ x → ⊥). rw (if_apart q x (old ++ ks) old n, test_from_apart x q (λ e. n (sym e))) refl)
    (cases_eq q x)
