-- Laws of signatures: their names, one more symbol.
use Rattle.std.proofs.Common.{◌≡◌, ℕ, zero, suc, ◌<◌, ◌≤◌, false, List, [], ◌∷◌, ◌++◌, length, Contains, Some, inl, inr, arith, length-append}
use Rattle.std.specs.Prelude.{bytes_eq}
use Rattle.std.specs.List.{IsDistinct, list_any}
use Rattle.std.proofs.lemmas.Bool.{false_from_ne_true, both_ways}
use Rattle.std.proofs.lemmas.Cmp.{nat_list_eq_equiv}
use Rattle.std.proofs.lemmas.List.{map-append}
use Rattle.std.proofs.lemmas.List.Elements.{All-nil, All-push, All-contains, All-from_recursion, Contains-append_right}
use Rattle.std.proofs.lemmas.Map.Keys.{IsDistinct-push}
use Rattle.std.proofs.lemmas.Map.Made.{is_member-Decides}
use Rattle.std.proofs.lemmas.Slice.Eq.{bytes_eq-Decides}
use Rattle.fort_theory.specs.Signatures.{most_functions, most_arguments, Symbol, Signature, IsName, IsSignature, name_of, names_of, symbol}
use Rattle.fort_theory.proofs.Members.{Contains-head, Contains-cons_cases, Contains-none}

-- no symbols are a signature
pub IsSignature-nil : IsSignature []
unfolding IsDistinct
IsSignature-nil = record { few = omega arith; distinct = tt; named = All-nil _; small = All-nil _ }

names_of-push : (signature : Signature) (name : List ℕ) (arity : ℕ) → names_of (signature ++ symbol name arity ∷ []) ≡ names_of signature ++ name ∷ []
names_of-push signature name arity = map-append _ signature (symbol name arity ∷ [])

-- a name that isn't there differs from each that is
pub list_any-bytes_eq_none : (names : List (List ℕ)) (name : List ℕ) → (Contains names name → ⊥) → list_any (bytes_eq name) names ≡ false
list_any-bytes_eq_none names name fresh = false_from_ne_true _ (λ found. fresh ((is_member-Decides bytes_eq-Decides names name).0 found))

-- one more symbol of a new name
pub IsSignature-push : (signature : Signature) (name : List ℕ) (arity : ℕ) → IsSignature signature → length signature < most_functions
    → IsName name → arity ≤ most_arguments → (Contains (names_of signature) name → ⊥) → IsSignature (signature ++ symbol name arity ∷ [])
IsSignature-push signature name arity is few named small fresh = record {
  few = omega (arith, length-append signature (symbol name arity ∷ []), is.few);
  distinct = rw names_of-push (IsDistinct-push nat_list_eq_equiv (names_of signature) name is.distinct (list_any-bytes_eq_none _ _ fresh));
  named = All-push (λ x. IsName x.name) signature (symbol name arity) is.named named;
  small = All-push (λ x. x.arity ≤ 8) signature (symbol name arity) is.small small;
}

-- the name at a number is among the names
pub Contains-from_name_of : (signature : Signature) (name : List ℕ) (f : ℕ) → name_of signature f ≡ Some name → Contains (names_of signature) name
Contains-from_name_of [] name f e = cc
Contains-from_name_of (s ∷ signature) name zero e = (0, omega arith, cc)
Contains-from_name_of (s ∷ signature) name (suc f) e =
    let later = Contains-from_name_of signature name f e in (suc later.0, omega arith, later.2)

-- a name isn't among those before it
pub fresh_from_distinct : (front : Signature) (s : Symbol) (back : Signature) → IsDistinct bytes_eq (names_of (front ++ s ∷ back)) → Contains (names_of front) s.name → ⊥
unfolding IsDistinct
fresh_from_distinct [] s back distinct has = Contains-none s.name has
fresh_from_distinct (t ∷ front) s back distinct has =
    elim (Contains-cons_cases t.name (names_of front) s.name has) [
      | inl here ↦
          let behind : Contains (names_of (front ++ s ∷ back)) s.name =
          rw map-append (Contains-append_right (names_of front) (s.name ∷ names_of back) s.name (Contains-head s.name (names_of back))) in
          let differ = All-contains (λ n. bytes_eq t.name n ≡ false) (names_of (front ++ s ∷ back)) s.name (All-from_recursion _ _ distinct.0) behind in
          both_ways _ differ ((bytes_eq-Decides t.name s.name).1 here)
      | inr there ↦ fresh_from_distinct front s back distinct.1 there
    ]
