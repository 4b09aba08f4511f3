-- What is no candidate has no entry at its stage, so the candidates have all of them.
use Rattle.std.proofs.Common.{◌≡◌, ℕ, zero, suc, ◌+◌, ◌-◌, ◌*◌, ◌/◌, ◌%◌, ◌<◌, ◌≤◌, max, min, List, [], ◌∷◌, ◌++◌, map, length, get_or, Bool, true, false, ◌||◌, ◌==◌, nat_lt, if◌then◌else◌, None, Some, refl, ap, sym, ◌∙◌, arith, subst, ⊎_elim}
use Rattle.std.specs.List.{flat_map, range_with_len}
use Rattle.std.proofs.lemmas.Bool.{cases_lt, lt-ltb, le-ltb}
use Rattle.std.proofs.lemmas.Bool.Decides.{nat_tests}
use Rattle.std.proofs.lemmas.Grind.{flat_map-append}
use Rattle.std.proofs.lemmas.List.Folds.{flat_map-map}
use Rattle.fort_theory.specs.Signatures.{Signature}
use Rattle.fort_tables.specs.Tuples.{TupleSymbol, arity, symbol_kids, kid_presence}
use Rattle.fort_tables.specs.Entries.{Entry, entry}
use Rattle.fort_tables.proofs.EqualTests.{equal_from_test}
use Rattle.fort_tuple_symbols.specs.Columns.{symbol_of, column_arity}
use Rattle.fort_tuple_symbols.specs.DigitNumbers.{AreUpTo}
use Rattle.fort_entry_walk.specs.Walks.{is_wanted, digit_lists, digits_after, stage_kids, stage_kids_after, symbol_entries, stage_entries}
use Rattle.fort_entry_walk.specs.WalkPlaces.{wants_from, wants}
use Rattle.fort_entry_walk.specs.WalkFacts.{in_stage_after}
use Rattle.fort_entry_walk.specs.Candidates.{narrowed, left_over, candidates, candidates_from, candidates_after, LeavesOut}
use Rattle.fort_entry_walk.specs.declared.candidates.KidRange.{KidRange}
use Rattle.fort_entry_walk.proofs.KidLaws.{nothing_left}
use Rattle.fort_entry_walk.proofs.WalkLaws.{length-wants_from}

-- a child with the presence is kept
record Keeps (r : KidRange) (j : ℕ) : Type 0 where
  from : r.from ≤ j
  to : j < r.to

one_column : (r : KidRange) (a rest j : ℕ) → (if nat_lt j a then 1 else 0) + 2 * rest ≡ r.presence → Keeps r j → (rest ≡ (narrowed r a).presence) × Keeps (narrowed r a) j
one_column r a rest j p k =
    let inside : KidRange = record { presence = r.presence / 2; from = r.from; to = min r.to a } in
    let outside : KidRange = record { presence = r.presence / 2; from = max r.from a; to = r.to } in
    let P : Bool → Type 0 = λ b. (rest ≡ (if b then inside else outside).presence) × Keeps (if b then inside else outside) j in
    ⊎_elim
    (λ l.
    let e : 1 + 2 * rest ≡ r.presence = subst (λ b. (if b then 1 else 0) + 2 * rest ≡ r.presence) (lt-ltb j a l) p in
    let o : r.presence % 2 ≡ 1 = omega (arith, e) in
    let t : (r.presence % 2 == 1) ≡ true = grind (arith, nat_tests, o) in
    subst P (sym t) (omega (arith, e), record { from = k.from; to = omega (arith, l, k.to) }))
    (λ l.
    let e : 0 + 2 * rest ≡ r.presence = subst (λ b. (if b then 1 else 0) + 2 * rest ≡ r.presence) (le-ltb j a l) p in
    let o : r.presence % 2 ≡ 0 = omega (arith, e) in
    let t : (r.presence % 2 == 1) ≡ false = grind (arith, nat_tests, o) in
    subst P (sym t) (omega (arith, e), record { from = omega (arith, l, k.from); to = k.to }))
    (cases_lt j a)

kept : (sig : Signature) (r : KidRange) (ds : List ℕ) (j : ℕ) → kid_presence sig (symbol_of ds) j ≡ r.presence → Keeps r j → Keeps (left_over sig r ds) j
kept sig r [] j p k = k
kept sig r (zero ∷ ds) j p k =
    let rest = kid_presence sig (symbol_of ds) j in
    let above : 0 ≤ j = omega arith in
    let e : (if nat_lt j 0 then 1 else 0) + 2 * rest ≡ r.presence = ap (λ b. (if b then 1 else 0) + 2 * rest) (le-ltb j 0 above) ∙ (omega (arith, p)) in
    let q = one_column r 0 rest j e k in
    kept sig (narrowed r 0) ds j q.0 q.1
kept sig r (suc g ∷ ds) j p k =
    let q = one_column r (arity sig g) (kid_presence sig (symbol_of ds) j) j p k in
    kept sig (narrowed r (arity sig g)) ds j q.0 q.1

-- a wanted presence is a child's
record WantedKid (sig : Signature) (f : TupleSymbol) (p n : ℕ) : Type 0 where
  kid : ℕ
  below : kid < n
  presence : kid_presence sig f kid ≡ p

wanted_kid : (sig : Signature) (f : TupleSymbol) (p j n : ℕ) → is_wanted p (wants_from sig f j n) ≡ true → WantedKid sig f p (j + n)
wanted_kid sig f p j zero h = absurd cc
wanted_kid sig f p j (suc n) h =
    let F : Bool → Type 0 = λ b. (kid_presence sig f j == p) ≡ b → (b || is_wanted p (wants_from sig f (j + 1) n)) ≡ true → WantedKid sig f p (j + suc n) in
    let both : (b : Bool) → F b = λ b. elim b as F [
      | true ↦ (λ t w. record { kid = j; below = omega arith; presence = equal_from_test (kid_presence sig f j) p t })
      | false ↦ (λ t w. let r = wanted_kid sig f p (j + 1) n w in record { kid = r.kid; below = omega (arith, r.below); presence = r.presence })
    ] in
    both (kid_presence sig f j == p) refl h

kids_at_most : (sig : Signature) (ds : List ℕ) (n : ℕ) → AreUpTo (length sig) ds → ((g : ℕ) → g < length sig → arity sig g ≤ n) → symbol_kids sig (symbol_of ds) ≤ n
kids_at_most sig [] n u h = omega arith
kids_at_most sig (zero ∷ ds) n u h = kids_at_most sig ds n u.1 h
kids_at_most sig (suc g ∷ ds) n u h = omega (arith, h g (omega (arith, u.0)), kids_at_most sig ds n u.1 h)

-- at a later stage the newest state's presence is wanted
pub newest_left : (sig : Signature) (ps : List ℕ) (s : ℕ) (r : KidRange) → 0 < s → r.presence ≡ get_or ps (s - 1) 0 → r.from ≡ 0 → ((g : ℕ) → g < length sig → arity sig g ≤ r.to) → LeavesOut sig ps s r
newest_left sig ps zero r l p z h = absurd (omega arith)
newest_left sig ps (suc m) r l p z h = λ ds u e.
    let f = symbol_of ds in
    let same : suc m - 1 ≡ m = omega arith in
    let F : Bool → Type 0 = λ b. is_wanted (get_or ps m 0) (wants sig f) ≡ b → is_wanted (get_or ps m 0) (wants sig f) ≡ false in
    let both : (b : Bool) → F b = λ b. elim b as F [
      | true ↦ (λ t.
          let w = wanted_kid sig f (get_or ps m 0) 0 (symbol_kids sig f) t in
          let k = kept sig r ds w.kid (w.presence ∙ sym (p ∙ ap (λ i. get_or ps i 0) same)) (record { from = omega (arith, z); to = omega (arith, w.below, kids_at_most sig ds r.to u h) }) in
          absurd (omega (arith, e, k.from, k.to)))
      | false ↦ (λ t. t)
    ] in
    ap (map (entry f)) (nothing_left ps m (wants sig f) (both (is_wanted (get_or ps m 0) (wants sig f)) refl))

-- at stage 0 there is no child
no_kid : (sig : Signature) (f : TupleSymbol) → symbol_kids sig f ≡ 0 → kid_presence sig f 0 ≡ 0
no_kid sig [] h = refl
no_kid sig (None ∷ f) h = let e = no_kid sig f h in omega (arith, e)
no_kid sig (Some g ∷ f) h =
    let z : arity sig g ≤ 0 = omega (arith, h) in
    let e = no_kid sig f (omega (arith, h)) in
    ap (λ b. (if b then 1 else 0) + 2 * kid_presence sig f 0) (le-ltb 0 (arity sig g) z) ∙ omega (arith, e)

pub none_at_first : (sig : Signature) (ps : List ℕ) (r : KidRange) → r.presence ≡ 0 → r.from ≡ 0 → r.to ≡ 1 → LeavesOut sig ps 0 r
none_at_first sig ps r p z o = λ ds u e. none ds u e (wants sig (symbol_of ds)) (length-wants_from sig (symbol_of ds) 0 (symbol_kids sig (symbol_of ds)))
  where
    none : (ds : List ℕ) → AreUpTo (length sig) ds → (left_over sig r ds).to ≤ (left_over sig r ds).from → (ws : List ℕ) → length ws ≡ symbol_kids sig (symbol_of ds) → map (entry (symbol_of ds)) (stage_kids ps 0 ws) ≡ []
    none ds u e [] c =
        let k = kept sig r ds 0 (no_kid sig (symbol_of ds) (sym c) ∙ sym p) (record { from = omega (arith, z); to = omega (arith, o) }) in
        absurd (omega (arith, e, k.from, k.to))
    none ds u e (w ∷ ws) c = refl

-- the candidates have all entries
abbrev Nothing : Signature → KidRange → (List ℕ → List Entry) → Type 0
Nothing sig r entries = (ds : List ℕ) → AreUpTo (length sig) ds → (left_over sig r ds).to ≤ (left_over sig r ds).from → entries ds ≡ []

range_up_to : (n a k : ℕ) → a + k ≤ n + 1 → AreUpTo n (range_with_len a k)
range_up_to n a zero h = tt
range_up_to n a (suc k) h = (omega arith, range_up_to n (a + 1) k (omega arith))

by_first : (sig : Signature) (r : KidRange) (c : ℕ) (entries : List ℕ → List Entry) (es : List ℕ) → ((e : ℕ) → e ≤ length sig → flat_map (λ ds. entries (e ∷ ds)) (candidates sig (narrowed r (column_arity sig e)) c) ≡ flat_map (λ ds. entries (e ∷ ds)) (digit_lists (length sig) c)) → AreUpTo (length sig) es → flat_map entries (candidates_from sig r c es) ≡ flat_map entries (flat_map (λ e. map (λ ds. e ∷ ds) (digit_lists (length sig) c)) es)
by_first sig r c entries [] h u = refl
by_first sig r c entries (e ∷ es) h u =
    let own = candidates sig (narrowed r (column_arity sig e)) c in
    let all = digit_lists (length sig) c in
    let rest = flat_map (λ e. map (λ ds. e ∷ ds) all) es in
    flat_map-append entries (map (λ ds. e ∷ ds) own) (candidates_from sig r c es)
    ∙ (ap (λ xs. xs ++ flat_map entries (candidates_from sig r c es)) (flat_map-map entries (λ ds. e ∷ ds) own ∙ (h e u.0 ∙ sym (flat_map-map entries (λ ds. e ∷ ds) all)))
    ∙ (ap (λ xs. flat_map entries (map (λ ds. e ∷ ds) all) ++ xs) (by_first sig r c entries es h u.1)
    ∙ sym (flat_map-append entries (map (λ ds. e ∷ ds) all) rest)))

same_of_all : (sig : Signature) (r : KidRange) (c : ℕ) (entries : List ℕ → List Entry) → Nothing sig r entries → flat_map entries (candidates sig r c) ≡ flat_map entries (digit_lists (length sig) c)
same_of_all sig r zero entries h =
    ⊎_elim
    (λ l. ap (λ b. flat_map entries (if b then [] ∷ [] else [])) (lt-ltb r.from r.to l))
    (λ l. ap (λ b. flat_map entries (if b then [] ∷ [] else [])) (le-ltb r.from r.to l) ∙ sym (ap (λ xs. xs ++ []) (h [] tt l)))
    (cases_lt r.from r.to)
same_of_all sig r (suc c) entries h =
    by_first sig r c entries (range_with_len 0 (length sig + 1))
    (λ e l. same_of_all sig (narrowed r (column_arity sig e)) c (λ ds. entries (e ∷ ds)) (λ ds u k. h (e ∷ ds) (l, u) k))
    (range_up_to (length sig) 0 (length sig + 1) (omega arith))

same_after : (sig : Signature) (r : KidRange) (ds : List ℕ) (entries : List ℕ → List Entry) → AreUpTo (length sig) ds → Nothing sig r entries → flat_map entries (candidates_after sig r ds) ≡ flat_map entries (digits_after (length sig) ds)
same_after sig r [] entries u h = refl
same_after sig r (d ∷ ds) entries u h =
    let n = length sig in
    let c = length ds in
    let q = narrowed r (column_arity sig d) in
    let es = range_with_len (d + 1) (n + 1 - (d + 1)) in
    let k : n + 1 - (d + 1) ≡ n - d = omega arith in
    let own = map (λ xs. d ∷ xs) (candidates_after sig q ds) in
    let all = map (λ xs. d ∷ xs) (digits_after n ds) in
    let rest : ℕ → List (List ℕ) = λ k. flat_map (λ e. map (λ xs. e ∷ xs) (digit_lists n c)) (range_with_len (d + 1) k) in
    flat_map-append entries own (candidates_from sig r c es)
    ∙ (ap (λ xs. xs ++ flat_map entries (candidates_from sig r c es))
    (flat_map-map entries (λ xs. d ∷ xs) (candidates_after sig q ds)
    ∙ (same_after sig q ds (λ xs. entries (d ∷ xs)) u.1 (λ xs v l. h (d ∷ xs) (u.0, v) l)
    ∙ sym (flat_map-map entries (λ xs. d ∷ xs) (digits_after n ds))))
    ∙ (ap (λ xs. flat_map entries all ++ xs)
    (by_first sig r c entries es
    (λ e l. same_of_all sig (narrowed r (column_arity sig e)) c (λ xs. entries (e ∷ xs)) (λ xs v i. h (e ∷ xs) (l, v) i))
    (range_up_to n (d + 1) (n + 1 - (d + 1)) (omega (arith, u.0))))
    ∙ (ap (λ k. flat_map entries all ++ flat_map entries (rest k)) k
    ∙ sym (flat_map-append entries all (rest (n - d))))))

stage_same : (sig : Signature) (ps : List ℕ) (s : ℕ) (r : KidRange) (ds : List ℕ) → LeavesOut sig ps s r → AreUpTo (length sig) ds → stage_entries sig ps s (candidates_after sig r ds) ≡ stage_entries sig ps s (digits_after (length sig) ds)
stage_same sig ps s r ds h u = same_after sig r ds (symbol_entries sig ps s) u h

pub no_candidate : (sig : Signature) (ps : List ℕ) (s : ℕ) (r : KidRange) (ds : List ℕ) → LeavesOut sig ps s r → AreUpTo (length sig) ds → candidates_after sig r ds ≡ [] → stage_entries sig ps s (digits_after (length sig) ds) ≡ []
no_candidate sig ps s r ds h u none = sym (stage_same sig ps s r ds h u) ∙ ap (stage_entries sig ps s) none

-- a candidate without entries
pub none_there : (sig : Signature) (ps : List ℕ) (s : ℕ) (r : KidRange) (ds later : List ℕ) → LeavesOut sig ps s r → AreUpTo (length sig) ds → AreUpTo (length sig) later → candidates_after sig r ds ≡ later ∷ candidates_after sig r later → stage_kids ps s (wants sig (symbol_of later)) ≡ [] → stage_entries sig ps s (digits_after (length sig) later) ≡ stage_entries sig ps s (digits_after (length sig) ds)
none_there sig ps s r ds later h u v next none =
    let f = symbol_of later in
    sym (stage_same sig ps s r later h v)
    ∙ (sym (ap (λ kss. map (entry f) kss ++ stage_entries sig ps s (candidates_after sig r later)) none)
    ∙ (sym (ap (stage_entries sig ps s) next) ∙ stage_same sig ps s r ds h u))

-- a candidate with an entry
pub first_there : (sig : Signature) (ps : List ℕ) (s : ℕ) (r : KidRange) (ds later ks : List ℕ) → LeavesOut sig ps s r → AreUpTo (length sig) ds → AreUpTo (length sig) later → candidates_after sig r ds ≡ later ∷ candidates_after sig r later → stage_kids ps s (wants sig (symbol_of later)) ≡ ks ∷ stage_kids_after ps s (wants sig (symbol_of later)) ks → stage_entries sig ps s (digits_after (length sig) ds) ≡ entry (symbol_of later) ks ∷ in_stage_after sig ps s later ks
first_there sig ps s r ds later ks h u v next first =
    let f = symbol_of later in
    sym (stage_same sig ps s r ds h u)
    ∙ (ap (stage_entries sig ps s) next
    ∙ (ap (λ kss. map (entry f) kss ++ stage_entries sig ps s (candidates_after sig r later)) first
    ∙ ap (λ es. entry f ks ∷ (map (entry f) (stage_kids_after ps s (wants sig f) ks) ++ es)) (stage_same sig ps s r later h v)))
