-- Targets in a list behind first children, and what one more child does to what is known of these.
use Rattle.std.proofs.Common.{◌≡◌, ℕ, zero, suc, ◌+◌, ◌-◌, ◌*◌, ◌^◌, ◌<◌, ◌≤◌, min, List, [], ◌∷◌, ◌++◌, take, set, length, get_or, get_or-set_same, get_or-set_other, refl, ap, sym, ◌∙◌, arith, subst, ⊎_elim}
use Rattle.std.proofs.lemmas.Bool.{cases_lt}
use Rattle.std.proofs.lemmas.List.{take_more, take_all, get_or-take, length-take, length-append}
use Rattle.std.proofs.Math.Seq.{take-append_seam}
use Rattle.fort_tables.specs.Tuples.{TupleSymbol, symbol_kids}
use Rattle.fort_tables.specs.Entries.{entry}
use Rattle.fort_tables.specs.Tables.{Table, Listed, listed_table, IsTableEntry}
use Rattle.fort_target_lists.specs.Places.{number_of, place_from, IsReadable, read_at}
use Rattle.fort_target_lists.specs.declared.flat.FlatTargets.{FlatTargets}
use Rattle.fort_target_lists.proofs.PlaceLaws.{place_from-more, rank_below}
use Rattle.fort_tables.specs.Refinement.{leader_in}
use Rattle.fort_reduce.specs.Finding.{IsStartIn}
use Rattle.fort_reduce.specs.Walks.{IsWalked, AreWholeUnder}
use Rattle.fort_reduce.proofs.WholeLaws.{taken_more}

-- a list is its front with its last element
pub last_split : (ks : List ℕ) → 0 < length ks → ks ≡ take (length ks - 1) ks ++ get_or ks (length ks - 1) 0 ∷ []
last_split ks some =
    let j = length ks - 1 in
    let all : take (j + 1) ks ≡ ks = take_all (j + 1) ks (omega arith) in
    sym all ∙ take_more ks j 0 (omega arith)

times_some : (p a : ℕ) → 0 < a → p ≤ p * a
times_some p zero l = absurd (omega arith)
times_some p (suc a) l = omega arith

-- what a list has behind first children
pub record IsBehind (body : Table) (f : TupleSymbol) (flat : FlatTargets) (start place : ℕ) (ks : List ℕ) : Type 0 where
  pub readable : IsReadable flat start place (get_or ks (length ks - 1) 0)
  pub target : read_at flat start place (get_or ks (length ks - 1) 0) ≡ body.target (entry f ks)

pub behind : (body : Table) (f : TupleSymbol) (flat : FlatTargets) (start place : ℕ) (ks : List ℕ) → IsStartIn body f flat start → 0 < length ks → IsTableEntry body (entry f ks)
    → place ≡ min (place_from flat.spots.ranks.items flat.spots.alike.items 0 (take (length ks - 1) ks)) (2 ^ 64 - 1) → length flat.listing.targets.items < 2 ^ 64 → IsBehind body f flat start place ks
behind body f flat start place ks h some whole places few =
    let ps = body.presences in
    let flat_is = h.flat_is in
    let j = length ks - 1 in
    let before = take j ks in
    let k = get_or ks j 0 in
    let at = flat_is.entries (entry f ks) whole in
    let small : k < length ps = whole.within j (omega arith) in
    let p = place_from flat.spots.ranks.items flat.spots.alike.items 0 before in
    let a = get_or flat.spots.alike.items k 0 in
    let r = get_or flat.spots.ranks.items k 0 in
    let more : place_from flat.spots.ranks.items flat.spots.alike.items 0 ks ≡ p * a + r =
    ap (place_from flat.spots.ranks.items flat.spots.alike.items 0) (last_split ks some) ∙ place_from-more flat.spots.ranks.items flat.spots.alike.items 0 before k in
    let positive : 0 < a = omega (arith, flat_is.spots.alike_are.count k small, rank_below (get_or ps k 0) ps k small refl) in
    let same : place ≡ p = omega (arith, places, at.within, more, times_some p a positive, few) in
    let here : start + (place * a + r) ≡ get_or flat.listing.starts.items (number_of flat.base f) 0 + place_from flat.spots.ranks.items flat.spots.alike.items 0 ks =
    (λ i. h.start_is i + (same i * a + r)) ∙ ap (λ z. get_or flat.listing.starts.items (number_of flat.base f) 0 + z) (sym more) in
    record {
      readable = record { state = (omega (arith, small, flat_is.spots.ranks_are.size), omega (arith, small, flat_is.spots.alike_are.size)); within = omega (arith, here, at.within) };
      target = ap (λ z. get_or flat.listing.targets.items z 0) here ∙ at.is;
    }

-- the leaders of first children, and that of the last one behind them
pub front_leads : (o l ks ls : List ℕ) (lead : ℕ) → 0 < length ks → length ks ≤ length ls → ((i : ℕ) → i < length (take (length ks - 1) ks) → get_or ls i 0 ≡ leader_in o l (get_or (take (length ks - 1) ks) i 0))
    → lead ≡ leader_in o l (get_or ks (length ks - 1) 0) → (i : ℕ) → i < length ks → get_or (set ls (length ks - 1) lead) i 0 ≡ leader_in o l (get_or ks i 0)
front_leads o l ks ls lead some room are last i low =
    let j = length ks - 1 in
    ⊎_elim
    (λ (b : i < j). get_or-set_other ls j i lead 0 (λ s. omega arith) ∙ (are i (omega (arith, length-take j ks)) ∙ ap (leader_in o l) (get_or-take j ks i 0 b)))
    (λ (b : j ≤ i). let s : j ≡ i = omega arith in subst (λ n. get_or (set ls j lead) n 0 ≡ leader_in o l (get_or ks n 0)) s (get_or-set_same ls j lead 0 (omega arith) ∙ last))
    (cases_lt i j)

pub front_own : (o l ks : List ℕ) → 0 < length ks → ((i : ℕ) → i < length (take (length ks - 1) ks) → leader_in o l (get_or (take (length ks - 1) ks) i 0) ≡ get_or (take (length ks - 1) ks) i 0)
    → leader_in o l (get_or ks (length ks - 1) 0) ≡ get_or ks (length ks - 1) 0 → (i : ℕ) → i < length ks → leader_in o l (get_or ks i 0) ≡ get_or ks i 0
front_own o l ks some are last i low =
    let j = length ks - 1 in
    let P : ℕ → Type 0 = λ q. leader_in o l q ≡ q in
    ⊎_elim
    (λ (b : i < j). subst P (get_or-take j ks i 0 b) (are i (omega (arith, length-take j ks))))
    (λ (b : j ≤ i). let s : j ≡ i = omega arith in subst (λ n. P (get_or ks n 0)) s last)
    (cases_lt i j)

front_of_push : (xs : List ℕ) (q : ℕ) → take (length (xs ++ q ∷ []) - 1) (xs ++ q ∷ []) ≡ xs
front_of_push xs q =
    let size : length (xs ++ q ∷ []) - 1 ≡ length xs = omega (arith, length-append xs (q ∷ [])) in
    ap (λ n. take n (xs ++ q ∷ [])) size ∙ take-append_seam xs (q ∷ [])

-- the children in front of one more
pub front_again : (ks0 ks : List ℕ) (j q : ℕ) → take j ks ≡ take j ks0 → j < length ks → take (length (take (j + 1) (set ks j q)) - 1) (take (j + 1) (set ks j q)) ≡ take j ks0
front_again ks0 ks j q kept low =
    ap (λ (xs : List ℕ). take (length xs - 1) xs) (taken_more ks0 ks j q kept low) ∙ front_of_push (take j ks0) q

-- a walk in the words of another name for the table and the tuple symbol
pub walked_under : (t s : Listed) (f g : TupleSymbol) (o l o2 l2 : List ℕ) → t ≡ s → f ≡ g → IsWalked (AreWholeUnder (listed_table t) o l f [] (symbol_kids t.signature f)) o l o2 l2
    → IsWalked (AreWholeUnder (listed_table s) o l g [] (symbol_kids s.signature g)) o l o2 l2
walked_under t s f g o l o2 l2 e d w =
    subst (λ (x : Listed). IsWalked (AreWholeUnder (listed_table x) o l g [] (symbol_kids x.signature g)) o l o2 l2) e
    (subst (λ (x : TupleSymbol). IsWalked (AreWholeUnder (listed_table t) o l x [] (symbol_kids t.signature x)) o l o2 l2) d w)
