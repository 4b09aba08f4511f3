-- The program's symbols: a name looked up, one more symbol, a symbol without arguments.
use Rattle.std.proofs.Common.{◌≡◌, ℕ, zero, suc, ◌+◌, ◌<◌, ◌≤◌, Bool, true, false, cond, nat_eq, List, [], ◌∷◌, ◌++◌, length, Contains, Option, None, Some, MatchOption, position, slice_get, Vec, is_some, IfSome, IfNone, ◌⊎◌, inl, inr, refl, sym, ◌∙◌, subst, ap, arith, append_assoc, append-nil}
use Rattle.std.specs.declared.alloc.Global.{Global}
use Rattle.std.specs.List.{list_any, position_from}
use Rattle.std.specs.Bool.{Decides}
use Rattle.std.specs.Map.{keys_of, values_of}
use Rattle.std.proofs.lemmas.Bool.{or_cases, or_left, or_right, eqb-true, eq-eqb, both_ways, false_from_ne_true}
use Rattle.std.proofs.lemmas.List.{map-append}
use Rattle.std.proofs.lemmas.Iterator.Adapters.{position_from-zero}
use Rattle.std.proofs.lemmas.Option.{MatchOption-at_some, MatchOption-at_none}
use lib.Pointwise.{pointwise, bytes_decides}
use Rattle.indexmap.specs.IndexMap.{insert_entry}
use Rattle.fort_theory.specs.Signatures.{most_functions, most_arguments, Signature, IsName, IsSignature, HasConstant, arity_of, name_of, names_of, symbol}
use Rattle.fort_theory.proofs.Members.{Contains-head, Contains-behind, Contains-cons_cases, Contains-none}
use Rattle.fort_terms.specs.declared.sym.Sym.{Sym}
use Rattle.fort_terms.specs.SignatureView.{as_symbol, as_signature}
use Rattle.fort_theory.proofs.SignaturesLaws.{IsSignature-push, Contains-from_name_of, fresh_from_distinct}

abbrev Entry : Type 0
Entry = Vec ℕ Global × ℕ

-- ---- a name looked up

abbrev is_named : List ℕ → Vec ℕ Global → Bool
is_named name key = pointwise nat_eq name key.items

-- the place of a name from a place on, or none
abbrev IsPlaced : List ℕ → List Entry → ℕ → Option ℕ → Type 0
IsPlaced name entries i r =
    MatchOption r (Contains (names_of (as_signature entries)) name → ⊥) (λ q. (j : ℕ) × (q ≡ i + j) × (name_of (as_signature entries) j ≡ Some name))

placed_behind : (name : List ℕ) (e : Entry) (entries : List Entry) (i : ℕ) (r : Option ℕ) → is_named name e.0 ≡ false → IsPlaced name entries (i + 1) r
    → IsPlaced name (e ∷ entries) i r
placed_behind name e entries i (Some q) other (j, at, same) = (suc j, omega arith, same)
placed_behind name e entries i None other absent = λ has.
    elim (Contains-cons_cases e.0.items (names_of (as_signature entries)) name has) [
      | inl here ↦ both_ways _ other ((bytes_decides name e.0.items).1 (sym here))
      | inr there ↦ absent there
    ]

placed : (b : Bool) (name : List ℕ) (e : Entry) (entries : List Entry) (i : ℕ) (r : Option ℕ) → is_named name e.0 ≡ b → IsPlaced name entries (i + 1) r
    → IsPlaced name (e ∷ entries) i (cond b (Some i) r)
placed true name e entries i r is rest = (0, omega arith, ap Some (sym ((bytes_decides name e.0.items).0 is)))
placed false name e entries i r is rest = placed_behind name e entries i r is rest

position_from-placed : (name : List ℕ) (entries : List Entry) (i : ℕ) → IsPlaced name entries i (position_from (is_named name) i (keys_of entries))
position_from-placed name [] i = Contains-none name
position_from-placed name (e ∷ entries) i =
    placed (is_named name e.0) name e entries i (position_from (is_named name) (i + 1) (keys_of entries)) refl (position_from-placed name entries (i + 1))

-- the symbol of a name that is there, and that there is none
pub name_of-found : (name : List ℕ) (entries : List Entry) (f : ℕ) → position (is_named name) (keys_of entries) ≡ Some f → name_of (as_signature entries) f ≡ Some name
name_of-found name entries f at =
    let here : position_from (is_named name) 0 (keys_of entries) ≡ Some f = sym (position_from-zero (is_named name) (keys_of entries)) ∙ at in
    let (j, is, same) = MatchOption-at_some _ _ f here (position_from-placed name entries 0) in
    let place : f ≡ j = omega arith in rw place same

pub absent_from_none : (name : List ℕ) (entries : List Entry) → position (is_named name) (keys_of entries) ≡ None → Contains (names_of (as_signature entries)) name → ⊥
absent_from_none name entries at =
    let here : position_from (is_named name) 0 (keys_of entries) ≡ None = sym (position_from-zero (is_named name) (keys_of entries)) ∙ at in
    MatchOption-at_none _ _ here (position_from-placed name entries 0)

-- what a search for a name found
pub Contains-from_found : (signature : Signature) (name : List ℕ) (found : Option Sym) → is_some found ≡ true
    → IfSome found (λ f. name_of signature f.0 ≡ Some name) → Contains (names_of signature) name
Contains-from_found signature name (Some f) there is = Contains-from_name_of signature name f.0 is
Contains-from_found signature name None there is = cc

pub absent_from_not_found : (signature : Signature) (name : List ℕ) (found : Option Sym) → is_some found ≡ false
    → IfNone found (Contains (names_of signature) name → ⊥) → Contains (names_of signature) name → ⊥
absent_from_not_found signature name (Some f) missing is = cc
absent_from_not_found signature name None missing is = is

-- ---- one more symbol

abbrev same_bytes : Vec ℕ Global → Vec ℕ Global → Bool
same_bytes x y = pointwise nat_eq x.items y.items

-- an entry of a new name goes last
insert_entry-fresh : (entries : List Entry) (key : Vec ℕ Global) (arity : ℕ) → (Contains (names_of (as_signature entries)) key.items → ⊥)
    → insert_entry same_bytes entries key arity ≡ entries ++ (key, arity) ∷ []
insert_entry-fresh [] key arity fresh = refl
insert_entry-fresh (e ∷ entries) key arity fresh =
    let names = names_of (as_signature entries) in
    let other : same_bytes key e.0 ≡ false =
    false_from_ne_true _ (λ same. fresh (subst (λ (n : List ℕ). Contains (e.0.items ∷ names) n) (sym ((bytes_decides key.items e.0.items).0 same)) (Contains-head e.0.items names))) in
    rw other (ap (λ es. e ∷ es) (insert_entry-fresh entries key arity (λ has. fresh (Contains-behind e.0.items names key.items has))))

pub as_signature-inserted : (entries new : List Entry) (key : Vec ℕ Global) (arity : ℕ) (signature : Signature) (name : List ℕ) → as_signature entries ≡ signature
    → key.items ≡ name → (Contains (names_of signature) name → ⊥) → new ≡ insert_entry same_bytes entries key arity
    → as_signature new ≡ signature ++ symbol name arity ∷ []
as_signature-inserted entries new key arity signature name same called fresh are =
    let last = insert_entry-fresh entries key arity (rw (same, called) fresh) in
    rw (are, last, map-append, same, called) refl

pub IsSignature-inserted : (entries new : List Entry) (key : Vec ℕ Global) (arity : ℕ) (signature : Signature) (name : List ℕ) → as_signature entries ≡ signature
    → key.items ≡ name → (Contains (names_of signature) name → ⊥) → new ≡ insert_entry same_bytes entries key arity
    → IsSignature (as_signature entries) → length signature < most_functions → IsName name → arity ≤ most_arguments → IsSignature (as_signature new)
IsSignature-inserted entries new key arity signature name same called fresh are is few named small =
    rw (as_signature-inserted entries new key arity signature name same called fresh are)
    (IsSignature-push signature name arity (rw same at is) few named small fresh)

-- ---- a copy

-- one more entry copied
pub copied_more : (entries new rest more : List Entry) (entry : Entry) (key : Vec ℕ Global) (signature : Signature) → IsSignature signature
    → as_signature entries ++ as_signature rest ≡ signature → rest ≡ entry ∷ more → key.items ≡ entry.0.items → new ≡ insert_entry same_bytes entries key entry.1
    → as_signature new ++ as_signature more ≡ signature
copied_more entries new rest more entry key signature is whole next called are =
    let parts : as_signature entries ++ as_symbol entry ∷ as_signature more ≡ signature = rw next at whole in
    let fresh = fresh_from_distinct (as_signature entries) (as_symbol entry) (as_signature more) (rw (← parts) at is.distinct) in
    rw (as_signature-inserted entries new key entry.1 (as_signature entries) entry.0.items refl called fresh are, append_assoc) parts

pub copied_all : (entries rest : List Entry) (signature : Signature) → as_signature entries ++ as_signature rest ≡ signature → rest ≡ [] → as_signature entries ≡ signature
copied_all entries rest signature whole done = sym (append-nil (as_signature entries)) ∙ (rw done at whole)

-- ---- arities

pub arity_of-values : (entries : List Entry) (f : ℕ) → arity_of (as_signature entries) f ≡ slice_get (values_of entries) f
arity_of-values [] f = refl
arity_of-values (e ∷ entries) zero = refl
arity_of-values (e ∷ entries) (suc f) = arity_of-values entries f

-- a symbol without arguments is the first or stands behind it
HasConstant-cases : (e : Entry) (entries : List Entry) (f : ℕ) → arity_of (as_signature (e ∷ entries)) f ≡ Some 0 → (e.1 ≡ 0) ⊎ HasConstant (as_signature entries)
HasConstant-cases e entries zero is = inl cc
HasConstant-cases e entries (suc f) is = inr (f, is)

-- the test for a symbol without arguments
pub HasConstant-decides : (entries : List Entry) → Decides (list_any (λ (arity : ℕ). nat_eq arity 0) (values_of entries)) (HasConstant (as_signature entries))
HasConstant-decides [] = (λ yes. cc, λ has. cc)
HasConstant-decides (e ∷ entries) =
    let later = HasConstant-decides entries in (
      λ yes. elim (or_cases _ _ yes) [ inl here ↦ (0, ap Some (eqb-true _ _ here)) | inr there ↦ let at = later.0 there in (suc at.0, at.1) ],
      λ (f, is). elim (HasConstant-cases e entries f is) [ inl here ↦ or_left _ _ (eq-eqb _ _ here) | inr there ↦ or_right _ _ (later.1 there) ],
    )
