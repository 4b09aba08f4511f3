-- The laws of entries and of look-ups in a table.
use Rattle.std.proofs.Common.{◌≡◌, ℕ, zero, suc, ◌+◌, ◌<◌, ◌≤◌, List, [], ◌∷◌, ◌++◌, map, length, None, Some, get_or, Bool, true, false, ◌&&◌, ◌==◌, refl, ap, sym, ◌∙◌, arith, subst, ⊎_elim}
use Rattle.std.proofs.lemmas.Bool.{cases_lt}
use Rattle.std.proofs.lemmas.Bool.Decides.{nat_tests}
use Rattle.std.proofs.lemmas.List.{length-map, get_or-map, length_push, get_or_push, get_or_append_left}
use Rattle.fort_theory.specs.Signatures.{Signature}
use Rattle.fort_tables.specs.Tuples.{Tuple, TupleSymbol, rebuilt, presence, IsTuple, AreKids, FitsKid, AreGroundColumns, kid_presence}
use Rattle.fort_tables.specs.Entries.{Entry, IsEntry, picked, tuples_after, AreTuples}
use Rattle.fort_tables.specs.Tables.{same_symbol, same_states, same_entry, target_in}
use Rattle.fort_tables.proofs.TupleLaws.{IsTuple-rebuilt, fits_presence}

and_true : (a b : Bool) → (a && b) ≡ true → (a ≡ true) × (b ≡ true)
and_true true b h = (refl, h)
and_true false b h = absurd cc

pub same_symbol-itself : (f : TupleSymbol) → same_symbol f f ≡ true
same_symbol-itself [] = refl
same_symbol-itself (None ∷ f) = same_symbol-itself f
same_symbol-itself (Some x ∷ f) = let r = same_symbol-itself f in grind (arith, nat_tests)

pub same_states-itself : (f : List ℕ) → same_states f f ≡ true
same_states-itself [] = refl
same_states-itself (x ∷ f) = let r = same_states-itself f in grind (arith, nat_tests)

pub symbol_from_same : (f g : TupleSymbol) → same_symbol f g ≡ true → f ≡ g
symbol_from_same [] [] h = refl
symbol_from_same [] (y ∷ g) h = absurd cc
symbol_from_same (x ∷ f) [] h = absurd cc
symbol_from_same (None ∷ f) (None ∷ g) h = ap (λ k. None ∷ k) (symbol_from_same f g h)
symbol_from_same (None ∷ f) (Some y ∷ g) h = absurd cc
symbol_from_same (Some x ∷ f) (None ∷ g) h = absurd cc
symbol_from_same (Some x ∷ f) (Some y ∷ g) h =
    let b = and_true (x == y) (same_symbol f g) h in
    let e : x ≡ y = grind (arith, nat_tests, b.0) in
    let r = symbol_from_same f g b.1 in cc

pub states_from_same : (f g : List ℕ) → same_states f g ≡ true → f ≡ g
states_from_same [] [] h = refl
states_from_same [] (y ∷ g) h = absurd cc
states_from_same (x ∷ f) [] h = absurd cc
states_from_same (x ∷ f) (y ∷ g) h =
    let b = and_true (x == y) (same_states f g) h in
    let e : x ≡ y = grind (arith, nat_tests, b.0) in
    let r = states_from_same f g b.1 in cc

pub same_entry-itself : (e : Entry) → same_entry e e ≡ true
same_entry-itself e = rw (same_symbol-itself e.symbol) (same_states-itself e.kids)

pub entry_from_same : (a b : Entry) → same_entry a b ≡ true → a ≡ b
entry_from_same a b h =
    let r = and_true (same_symbol a.symbol b.symbol) (same_states a.kids b.kids) h in
    let p : a.symbol ≡ b.symbol = symbol_from_same a.symbol b.symbol r.0 in
    let q : a.kids ≡ b.kids = states_from_same a.kids b.kids r.1 in
    λ i. record { symbol = p i; kids = q i }

-- a look-up of an entry that is there finds one
pub record Found (es : List Entry) (qs : List ℕ) (e : Entry) : Type 0 where
  pub place : ℕ
  pub within : place < length es
  pub is : get_or es place e ≡ e
  pub target : target_in es qs e ≡ get_or qs place 0

pub target_found : (es : List Entry) (qs : List ℕ) (e : Entry) (k : ℕ) → k < length es → get_or es k e ≡ e → length es ≤ length qs → Found es qs e
target_found [] qs e k l h m = absurd (omega arith)
target_found (x ∷ es) [] e k l h m = absurd (omega arith)
target_found (x ∷ es) (q ∷ qs) e zero l h m =
    let s : same_entry x e ≡ true = subst (λ (y : Entry). same_entry x y ≡ true) h (same_entry-itself x) in
    record { place = 0; within = omega arith; is = h; target = rw s refl }
target_found (x ∷ es) (q ∷ qs) e (suc k) l h m =
    let r = target_found es qs e k (omega arith) h (omega arith) in
    let F : Bool → Type 0 = λ b. same_entry x e ≡ b → Found (x ∷ es) (q ∷ qs) e in
    let both : (b : Bool) → F b = λ b. elim b as F [
      | true ↦ (λ s. record { place = 0; within = omega arith; is = entry_from_same x e s; target = rw s refl })
      | false ↦ (λ s. record { place = suc r.place; within = omega (arith, r.within); is = r.is; target = rw s r.target })
    ] in
    both (same_entry x e) refl

-- tuples one after another
pub tuples_after-push : (ts : List Tuple) (es : List Entry) (e : Entry) → tuples_after ts (es ++ e ∷ []) ≡ tuples_after ts es ++ rebuilt e.symbol (picked (tuples_after ts es) e.kids) ∷ []
tuples_after-push ts [] e = refl
tuples_after-push ts (x ∷ es) e = tuples_after-push (ts ++ rebuilt x.symbol (picked ts x.kids) ∷ []) es e

pub length-tuples_after : (ts : List Tuple) (es : List Entry) → length (tuples_after ts es) ≡ length ts + length es
length-tuples_after ts [] = omega arith
length-tuples_after ts (e ∷ es) = omega (arith, length-tuples_after (ts ++ rebuilt e.symbol (picked ts e.kids) ∷ []) es, length_push ts (rebuilt e.symbol (picked ts e.kids)))

pub get_or-picked : (ts : List Tuple) (qs : List ℕ) (j : ℕ) → j < length qs → get_or (picked ts qs) j [] ≡ get_or ts (get_or qs j 0) []
get_or-picked ts qs j l = get_or-map (λ q. get_or ts q []) qs j 0 [] l

pub entry_kids : (sig : Signature) (n : ℕ) (ts : List Tuple) (e : Entry) → AreTuples sig n ts → IsEntry sig n (map presence ts) e → AreKids sig e.symbol (picked ts e.kids)
entry_kids sig n ts e h k =
    let len : length (picked ts e.kids) ≡ length e.kids = length-map e.kids (λ q. get_or ts q []) in
    let there : (j : ℕ) → j < length e.kids → get_or e.kids j 0 < length ts = λ j l. omega (arith, k.within j l, length-map ts presence) in
    let pres : (j : ℕ) (l : j < length e.kids) → presence (get_or ts (get_or e.kids j 0) []) ≡ kid_presence sig e.symbol j =
    λ j l. sym (get_or-map presence ts (get_or e.kids j 0) [] 0 (there j l)) ∙ k.presence j l in
    record {
      count = len ∙ k.count;
      fits = λ j l. let m : j < length e.kids = omega arith in
          subst (λ (t : Tuple). FitsKid sig e.symbol j t) (sym (get_or-picked ts e.kids j m))
          (fits_presence sig e.symbol j (get_or ts (get_or e.kids j 0) []) (omega (arith, (h _ (there j m)).width, k.symbol.width)) (pres j m));
      grounded = λ j l. let m : j < length e.kids = omega arith in
          subst (AreGroundColumns sig) (sym (get_or-picked ts e.kids j m)) (h _ (there j m)).grounded;
    }

pub IsTuple-entry : (sig : Signature) (n : ℕ) (ts : List Tuple) (e : Entry) → AreTuples sig n ts → IsEntry sig n (map presence ts) e → IsTuple sig n (rebuilt e.symbol (picked ts e.kids))
IsTuple-entry sig n ts e h k = IsTuple-rebuilt sig n e.symbol (picked ts e.kids) k.symbol (entry_kids sig n ts e h k)

pub AreTuples-push : (sig : Signature) (n : ℕ) (ts : List Tuple) (t : Tuple) → AreTuples sig n ts → IsTuple sig n t → AreTuples sig n (ts ++ t ∷ [])
AreTuples-push sig n ts t h k = λ j l.
    ⊎_elim (λ m. subst (IsTuple sig n) (sym (get_or_append_left ts (t ∷ []) [] j m)) (h j m))
    (λ m. let e : length ts ≡ j = omega (arith, length_push ts t) in subst (IsTuple sig n) (sym (get_or_push ts t [] j e)) k)
    (cases_lt j (length ts))
