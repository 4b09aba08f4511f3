-- The candidates, one after another.
use Rattle.std.proofs.Common.{◌≡◌, ℕ, zero, suc, ◌+◌, ◌-◌, ◌/◌, ◌%◌, ◌<◌, ◌≤◌, max, min, List, [], ◌∷◌, ◌++◌, map, length, true, false, ◌==◌, if◌then◌else◌, refl, ap, sym, ◌∙◌, arith, eq-eqb, ⊎_elim}
use Rattle.std.specs.List.{flat_map, range_with_len}
use Rattle.std.proofs.lemmas.Bool.{le-ltb, cases_lt}
use Rattle.fort_theory.specs.Signatures.{Signature}
use Rattle.fort_tuple_symbols.specs.Columns.{column_arity}
use Rattle.fort_entry_walk.specs.Candidates.{narrowed, candidates, candidates_from, candidates_after}
use Rattle.fort_entry_walk.specs.WalkPlaces.{IsFlat}
use Rattle.fort_entry_walk.specs.declared.candidates.KidRange.{KidRange}

none_flat : (f : ℕ → List (List ℕ)) (es : List ℕ) → ((e : ℕ) → f e ≡ []) → flat_map f es ≡ []
none_flat f [] h = refl
none_flat f (e ∷ es) h = ap (λ xs. xs ++ flat_map f es) (h e) ∙ none_flat f es h

-- an empty range stays empty
narrowed_empty : (r : KidRange) (a : ℕ) → r.to ≤ r.from → (narrowed r a).to ≤ (narrowed r a).from
narrowed_empty r a h =
    let inside : KidRange = record { presence = r.presence / 2; from = r.from; to = min r.to a } in
    let outside : KidRange = record { presence = r.presence / 2; from = max r.from a; to = r.to } in
    elim (r.presence % 2 == 1) as (λ b. (if b then inside else outside).to ≤ (if b then inside else outside).from) [ true ↦ omega (arith, h) | false ↦ omega (arith, h) ]

pub none_left : (sig : Signature) (r : KidRange) (c : ℕ) → r.to ≤ r.from → candidates sig r c ≡ []
none_left sig r zero h = ap (λ b. if b then [] ∷ [] else []) (le-ltb r.from r.to h)
none_left sig r (suc c) h = none_flat (λ d. map (λ ds. d ∷ ds) (candidates sig (narrowed r (column_arity sig d)) c)) (range_with_len 0 (length sig + 1))
    (λ d. ap (map (λ ds. d ∷ ds)) (none_left sig (narrowed r (column_arity sig d)) c (narrowed_empty r (column_arity sig d) h)))

pub none_after : (sig : Signature) (r : KidRange) (ds : List ℕ) → r.to ≤ r.from → candidates_after sig r ds ≡ []
none_after sig r [] h = refl
none_after sig r (d ∷ ds) h =
    let later = range_with_len (d + 1) (length sig + 1 - (d + 1)) in
    ap (λ xs. map (λ es. d ∷ es) xs ++ candidates_from sig r (length ds) later) (none_after sig (narrowed r (column_arity sig d)) ds (narrowed_empty r (column_arity sig d) h))
    ∙ none_flat (λ e. map (λ es. e ∷ es) (candidates sig (narrowed r (column_arity sig e)) (length ds))) later
    (λ e. ap (map (λ es. e ∷ es)) (none_left sig (narrowed r (column_arity sig e)) (length ds) (narrowed_empty r (column_arity sig e) h)))

-- the first digit of those to come
digits_here : (n d : ℕ) → d < n + 1 → range_with_len d (n + 1 - d) ≡ d ∷ range_with_len (d + 1) (n + 1 - (d + 1))
digits_here n d h = let e : n + 1 - d ≡ suc (n + 1 - (d + 1)) = omega arith in ap (range_with_len d) e

pub digit_past : (sig : Signature) (r : KidRange) (c d : ℕ) (all : List (List ℕ)) → d < length sig + 1 → candidates sig (narrowed r (column_arity sig d)) c ≡ [] → candidates_from sig r c (range_with_len d (length sig + 1 - d)) ≡ all → candidates_from sig r c (range_with_len (d + 1) (length sig + 1 - (d + 1))) ≡ all
digit_past sig r c d all h none same =
    let later = range_with_len (d + 1) (length sig + 1 - (d + 1)) in
    sym (ap (candidates_from sig r c) (digits_here (length sig) d h) ∙ ap (λ xs. map (λ ds. d ∷ ds) xs ++ candidates_from sig r c later) none) ∙ same

-- digits without arguments leave no child where the presence is on in their column
flat_empty : (sig : Signature) (r : KidRange) (c d : ℕ) → r.presence % 2 ≡ 1 → column_arity sig d ≡ 0 → candidates sig (narrowed r (column_arity sig d)) c ≡ []
flat_empty sig r c d odd z =
    let a = column_arity sig d in
    let inside : KidRange = record { presence = r.presence / 2; from = r.from; to = min r.to a } in
    let outside : KidRange = record { presence = r.presence / 2; from = max r.from a; to = r.to } in
    let is : narrowed r a ≡ inside = ap (λ b. if b then inside else outside) (eq-eqb (r.presence % 2) 1 odd) in
    ap (λ s. candidates sig s c) is ∙ none_left sig inside c (omega (arith, z))

flat_skipped : (sig : Signature) (r : KidRange) (c flat d n : ℕ) → IsFlat sig flat → r.presence % 2 ≡ 1 → d + n ≤ flat
    → candidates_from sig r c (range_with_len d (length sig + 1 - d)) ≡ candidates_from sig r c (range_with_len (d + n) (length sig + 1 - (d + n)))
flat_skipped sig r c flat d zero h odd l = let e : d ≡ d + 0 = omega arith in ap (λ k. candidates_from sig r c (range_with_len k (length sig + 1 - k))) e
flat_skipped sig r c flat d (suc n) h odd l =
    let all : ℕ → List (List ℕ) = λ k. candidates_from sig r c (range_with_len k (length sig + 1 - k)) in
    let e : d + 1 + n ≡ d + suc n = omega arith in
    let one : all d ≡ all (d + 1) = ⊎_elim
    (λ (m : d < length sig + 1). sym (digit_past sig r c d (all d) m (flat_empty sig r c d odd (h d (omega (arith, l)))) refl))
    (λ (m : length sig + 1 ≤ d).
    let x : length sig + 1 - d ≡ 0 = omega (arith, m) in
    let y : length sig + 1 - (d + 1) ≡ 0 = omega (arith, m) in
    ap (λ k. candidates_from sig r c (range_with_len d k)) x ∙ sym (ap (λ k. candidates_from sig r c (range_with_len (d + 1) k)) y))
    (cases_lt d (length sig + 1)) in
    one ∙ (flat_skipped sig r c flat (d + 1) n h odd (omega (arith, l)) ∙ ap all e)

pub flat_left_out : (sig : Signature) (r : KidRange) (c flat from : ℕ) → IsFlat sig flat → r.presence % 2 ≡ 1
    → candidates_from sig r c (range_with_len from (length sig + 1 - from)) ≡ candidates_from sig r c (range_with_len (max from flat) (length sig + 1 - max from flat))
flat_left_out sig r c flat from h odd =
    let all : ℕ → List (List ℕ) = λ k. candidates_from sig r c (range_with_len k (length sig + 1 - k)) in
    let n = max from flat - from in
    ⊎_elim
    (λ (m : from < flat).
    let e : from + (max from flat - from) ≡ max from flat = omega (arith, m) in
    flat_skipped sig r c flat from (max from flat - from) h odd (omega (arith, m)) ∙ ap all e)
    (λ (m : flat ≤ from). let e : from ≡ max from flat = omega (arith, m) in ap all e)
    (cases_lt from flat)

pub digit_there : (sig : Signature) (r : KidRange) (c d : ℕ) (ds : List ℕ) (all : List (List ℕ)) → d < length sig + 1 → length ds ≡ c → candidates sig (narrowed r (column_arity sig d)) c ≡ ds ∷ candidates_after sig (narrowed r (column_arity sig d)) ds → candidates_from sig r c (range_with_len d (length sig + 1 - d)) ≡ all → all ≡ (d ∷ ds) ∷ candidates_after sig r (d ∷ ds)
digit_there sig r c d ds all h width there same =
    let later = range_with_len (d + 1) (length sig + 1 - (d + 1)) in
    sym same
    ∙ (ap (candidates_from sig r c) (digits_here (length sig) d h)
    ∙ (ap (λ xs. map (λ es. d ∷ es) xs ++ candidates_from sig r c later) there
    ∙ ap (λ k. (d ∷ ds) ∷ (map (λ es. d ∷ es) (candidates_after sig (narrowed r (column_arity sig d)) ds) ++ candidates_from sig r k later)) (sym width)))

pub all_digits : (sig : Signature) (r : KidRange) (c : ℕ) → 0 < c → candidates_from sig r (c - 1) (range_with_len 0 (length sig + 1 - 0)) ≡ candidates sig r c
all_digits sig r zero h = absurd (omega arith)
all_digits sig r (suc c) h =
    let e : suc c - 1 ≡ c = omega arith in
    let z : length sig + 1 - 0 ≡ length sig + 1 = omega arith in
    ap (λ k. candidates_from sig r k (range_with_len 0 (length sig + 1 - 0))) e ∙ ap (λ k. candidates_from sig r c (range_with_len 0 k)) z
