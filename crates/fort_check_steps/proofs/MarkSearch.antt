-- The mark beside a state by binary search, and what one entry does to those of all states.
use Rattle.std.proofs.Common.{◌≡◌, ℕ, ◌^◌, ◌<◌, ◌≤◌, ◌==◌, ◌&&◌, List, [], ◌∷◌, map, set, length, get_or, Result, Ok, Err, nat_cmp, Bool, true, false, if◌then◌else◌, eq-eqb, ⊎_elim, refl, ap, sym, subst, ◌∙◌, arith, get_or-set_same, get_or-set_other}
use Rattle.std.specs.List.Sorted.{IsBinarySearchResult}
use Rattle.std.proofs.lemmas.Bool.{cases_lt, cases_eq}
use Rattle.std.proofs.lemmas.List.{length-map, get_or-map}
use Rattle.std.proofs.lemmas.List.Sorted.{searched}
use Rattle.fort_tables.specs.Tuples.{presence}
use Rattle.fort_tables.specs.Entries.{Entry}
use Rattle.fort_tables.proofs.EqualTests.{test_from_apart}
use Rattle.fort_tables.specs.Counts as counts
use Rattle.fort_tables.specs.Counts.{count_at}
use Rattle.fort_tables.proofs.CountPlaces.{count_at-ascending, count_at-none}
use Rattle.fort_findings.specs.declared.count.Count.{Count}
use Rattle.fort_findings.specs.FindingView.{as_count}
use Rattle.fort_check_steps.specs.Marks.{starts, held_next, entry_next}

abbrev pub Ascends : List ℕ → Type 0
Ascends xs = (i j : ℕ) → i < j → j < length xs → get_or xs i 0 < get_or xs j 0

weakly : (xs : List ℕ) → Ascends xs → (i j : ℕ) → i ≤ j → j < length xs → get_or xs i 0 ≤ get_or xs j 0
weakly xs up i j l m = ⊎_elim (λ (n : i < j). omega (arith, up i j n m)) (λ (n : j ≤ i). let same : i ≡ j = omega arith in omega (arith, ap (λ k. get_or xs k 0) same)) (cases_lt i j)

pub search_found : (xs : List ℕ) (k place : ℕ) (r : Result ℕ ℕ) → IsBinarySearchResult (λ y. nat_cmp y k) xs r → r ≡ Ok place → ((i j : ℕ) → i < j → j < length xs → get_or xs i 0 < get_or xs j 0)
    → (place < length xs) × (get_or xs place 0 ≡ k)
search_found xs k place r h e up = rw e at (searched xs k r h (weakly xs up))

pub search_missed : (xs : List ℕ) (k place : ℕ) (r : Result ℕ ℕ) → IsBinarySearchResult (λ y. nat_cmp y k) xs r → r ≡ Err place → ((i j : ℕ) → i < j → j < length xs → get_or xs i 0 < get_or xs j 0)
    → (j : ℕ) → j < length xs → get_or xs j 0 ≡ k → ⊥
search_missed xs k place r h e up j l same =
    let s = rw e at (searched xs k r h (weakly xs up)) in
    ⊎_elim (λ (m : j < place). omega (arith, s.1 j m, same)) (λ (m : place ≤ j). omega (arith, s.2 j m l, same)) (cases_lt j place)

pub mark_found : (states : List ℕ) (ns : List Count) (k place : ℕ) (d m : Count) → (place < length states) × (get_or states place 0 ≡ k) → ((i j : ℕ) → i < j → j < length states → get_or states i 0 < get_or states j 0)
    → length ns ≡ length states → m ≡ get_or ns place d → as_count m ≡ count_at states (map as_count ns) k
mark_found states ns k place d m s up sizes is =
    let l : place < length ns = omega (arith, s.0, sizes) in
    ap as_count is ∙ (sym (get_or-map as_count ns place d (as_count d) l)
    ∙ (sym (count_at-ascending states (map as_count ns) place (as_count d) up s.0 (length-map ns as_count ∙ sizes)) ∙ ap (count_at states (map as_count ns)) s.1))

pub mark_missed : (states : List ℕ) (ns : List Count) (k : ℕ) → ((j : ℕ) → j < length states → get_or states j 0 ≡ k → ⊥) → counts.Finite 0 ≡ count_at states (map as_count ns) k
mark_missed states ns k none = sym (count_at-none states (map as_count ns) k none)

module _ (mark : ℕ → counts.Count) (c q : ℕ) (m : counts.Count) (e : Entry) (target : ℕ) (held : Bool) where
  -- another state
  pub entry_next-other : (target ≡ q → ⊥) → held ≡ entry_next mark c q m e target held
  entry_next-other other = by (presence e.symbol == 2 ^ c)
    where
      by : (b : Bool) → held ≡ (if b && (target == q) then held_next mark m e.kids held else held)
      by true = sym (ap (λ b. if b then held_next mark m e.kids held else held) (test_from_apart target q other))
      by false = refl

  pub entry_next-giver : presence e.symbol ≡ 2 ^ c → target ≡ q → held_next mark m e.kids held ≡ entry_next mark c q m e target held
  entry_next-giver a b =
      sym (ap (λ x. if x && (target == q) then held_next mark m e.kids held else held) (eq-eqb (presence e.symbol) (2 ^ c) a)
      ∙ ap (λ x. if x then held_next mark m e.kids held else held) (eq-eqb target q b))

-- what is held of the marks before any entry
pub starts_are : (ns : List Count) → map (λ (m : Count). starts (as_count m)) ns ≡ map starts (map as_count ns)
starts_are [] = refl
starts_are (n ∷ ns) = ap (λ bs. starts (as_count n) ∷ bs) (starts_are ns)

-- what an entry makes of all marks: one that gives a state that isn't there, and one that gives a state that is
module _ (states : List ℕ) (marks : List counts.Count) (c : ℕ) (e : Entry) (target : ℕ) (holds : List Bool) where
  abbrev pub IsNext : List Bool → Type 0
  IsNext new = (i : ℕ) → i < length states → get_or new i false
      ≡ entry_next (count_at states marks) c (get_or states i 0) (get_or marks i (counts.Finite 0)) e target (get_or holds i false)

  pub see_missed : ((j : ℕ) → j < length states → get_or states j 0 ≡ target → ⊥) → IsNext holds
  see_missed none i l = entry_next-other (count_at states marks) c (get_or states i 0) (get_or marks i (counts.Finite 0)) e target (get_or holds i false) (λ s. none i l (sym s))

  pub see_found : (place : ℕ) (held : Bool) → presence e.symbol ≡ 2 ^ c → (place < length states) × (get_or states place 0 ≡ target) → Ascends states → length holds ≡ length states
      → held ≡ held_next (count_at states marks) (get_or marks place (counts.Finite 0)) e.kids (get_or holds place false) → IsNext (set holds place held)
  see_found place held pure at up sizes is i l =
      let mark = count_at states marks in
      ⊎_elim
      (λ (s : i ≡ place).
      let P : ℕ → Type 0 = λ k. get_or (set holds place held) k false ≡ entry_next mark c (get_or states k 0) (get_or marks k (counts.Finite 0)) e target (get_or holds k false) in
      let m : place < length holds = omega (arith, at.0, sizes) in
      subst P (sym s)
      (get_or-set_same holds place held false m ∙ (is ∙ entry_next-giver mark c (get_or states place 0) (get_or marks place (counts.Finite 0)) e target (get_or holds place false) pure (sym at.1))))
      (λ (other : i ≡ place → ⊥).
      get_or-set_other holds place i held false other
      ∙ entry_next-other mark c (get_or states i 0) (get_or marks i (counts.Finite 0)) e target (get_or holds i false)
      (λ s. ⊎_elim
      (λ (m : i < place). let lower = up i place m at.0 in omega (arith, lower, at.1, s))
      (λ (m : place ≤ i). let lower = up place i (omega (arith, m, other)) l in omega (arith, lower, at.1, s))
      (cases_lt i place)))
      (cases_eq i place)
