-- The states that a scope leaves, and the symbols above one child of an entry: what they give, state by state.
use Rattle.std.proofs.Common.{◌≡◌, ℕ, ◌<◌, ◌≤◌, ◌==◌, ◌&&◌, ◌||◌, not, if◌then◌else◌, max, List, [], map, length, get_or, Some, Bool, true, false, nat_lt, refl, ap, sym, ◌∙◌, arith, subst, ⊎_elim}
use Rattle.std.proofs.lemmas.Bool.{cases_lt, eqb-true, eq-eqb, lt-ltb, le-ltb, ltb-true, or_cases}
use Rattle.std.proofs.lemmas.List.{length-map, get_or-map}
use Rattle.std.specs.List.{insert}
use Rattle.fort_tables.specs.Tuples.{TupleSymbol, arity}
use Rattle.fort_tables.specs.Entries.{Entry, entry}
use Rattle.fort_tables.specs.Tables.{Table, IsTable, IsReached}
use Rattle.fort_tables.proofs.TableLaws.{table_state}
use Rattle.fort_tables.specs.Projections.{some_below, some_choice, absent_state, has_state, may_stand, gives_under, gives}
use Rattle.fort_tables.proofs.SearchLaws.{both, left, right, either_left, either_right, same_truth, found_below, below_found, found_choice, choice_found, options_from_zero, options_at_zero}
use Rattle.fort_tables.proofs.ProjectLabels.{may_in_set, may_absent}
use Rattle.fort_tables.proofs.CompletedTuples.{IsTuple-completed}
use Rattle.fort_target_lists.specs.LabelLists.{labels_at}
use Rattle.fort_projections.specs.Choices.{IsNextChoice, AreNoChoices, IsSearched}
use Rattle.fort_projections.proofs.ProjectEntries.{label_at, kid_label}
use Rattle.fort_projections.proofs.ChoiceSearch.{one_choice}
use Rattle.fort_projections.specs.Scopes.{takes, may_in, gives_in, some_gives, IsScoped}
use Rattle.fort_projections.specs.declared.scope.Scope.{Scope}
use Rattle.fort_projections.specs.declared.scope.Scope.TheVariants.{All, Without, With}
use Rattle.fort_projections.specs.ImageFacts.{with_state}

one_state : (body : Table) (c a : ℕ) (ws : List (List ℕ)) (v s j k : ℕ) → v < a → v < length ws → has_state (get_or ws v []) s ≡ true → (b : Bool) → (j == v) ≡ b → (if b then s == k else may_stand body c a ws j k) ≡ true → may_stand body c a ws j k ≡ true
one_state body c a ws v s j k low there has true e o =
    let p : j ≡ v = eqb-true j v e in
    let r : s ≡ k = eqb-true s k o in
    subst (λ (i : ℕ). may_stand body c a ws i k ≡ true) (sym p) (subst (λ (i : ℕ). may_stand body c a ws v i ≡ true) r (may_in_set body c a ws v s low there ∙ has))
one_state body c a ws v s j k low there has false e o = o

-- Result: what may stand within the scope may stand
pub may_from_scope : (body : Table) (c a : ℕ) (ws : List (List ℕ)) (scope : Scope) (j k : ℕ) → IsScoped scope ws a → may_in scope (may_stand body c a ws) j k ≡ true → may_stand body c a ws j k ≡ true
may_from_scope body c a ws All j k h o = o
may_from_scope body c a ws (Without v) j k h o = o
may_from_scope body c a ws (With one) j k h o = one_state body c a ws one.place one.state j k (ltb-true one.place a h.taken) h.fits.0 h.fits.1 (j == one.place) refl o

-- the search by another test that says the same
pub next_along : (body : Table) (p r : ℕ → Bool) (from k : ℕ) → ((i : ℕ) → r i ≡ p i) → IsNextChoice body p from k → IsNextChoice body r from k
next_along body p r from k same n = record {
  next = record { low = n.next.low; hit = same k ∙ n.next.hit; before = λ i a b. same i ∙ n.next.before i a b };
  within = n.within;
}

pub none_along : (body : Table) (p r : ℕ → Bool) (from : ℕ) → ((i : ℕ) → r i ≡ p i) → AreNoChoices body p from → AreNoChoices body r from
none_along body p r from same n = λ i a b. same i ∙ n i a b

-- what the symbol above a child gives, by one of that child's states
from_state : (body : Table) (c : ℕ) (f : TupleSymbol) (ws : List (List ℕ)) (v s q g : ℕ) → v < length ws → has_state (get_or ws v []) s ≡ true → gives_in body c f ws (with_state v s) q g ≡ true → gives_under body c f ws q g ≡ true
from_state body c f ws v s q g there has o =
    let n = length body.presences in
    let a = arity body.signature g in
    let may = may_stand body c a ws in
    let m = max a (length ws) in
    let scope = with_state v s in
    let p : List ℕ → Bool = λ ks. body.target (entry (insert f c (Some g)) ks) == q in
    let search : Bool = some_choice n (may_in scope may) 0 m p in
    let taken : takes scope a ≡ true = left (takes scope a) search o in
    let r = found_choice n (may_in scope may) 0 m p (right (takes scope a) search o) in
    let scoped : IsScoped scope ws a = record { fits = (there, has); taken = taken } in
    choice_found n may 0 m p r.0 r.1
    (options_from_zero n may r.0 (λ i l. let x = options_at_zero n (may_in scope may) r.0 r.2 i l in (x.0, may_from_scope body c a ws scope i (get_or r.0 i 0) scoped x.1)))
    r.3

-- and the state by which it gives it
record ByState (body : Table) (c : ℕ) (f : TupleSymbol) (ws : List (List ℕ)) (v q g : ℕ) : Type 0 where
  state : ℕ
  small : state < length body.presences
  has : has_state (get_or ws v []) state ≡ true
  given : gives_in body c f ws (with_state v state) q g ≡ true

stays : (may : ℕ → ℕ → Bool) (ks : List ℕ) (v i : ℕ) → (b : Bool) → (i == v) ≡ b → may i (get_or ks i 0) ≡ true → (if b then get_or ks v 0 == get_or ks i 0 else may i (get_or ks i 0)) ≡ true
stays may ks v i true e o = eq-eqb (get_or ks v 0) (get_or ks i 0) (ap (λ x. get_or ks x 0) (sym (eqb-true i v e)))
stays may ks v i false e o = o

by_state : (body : Table) (c : ℕ) (f : TupleSymbol) (ws : List (List ℕ)) (v q g : ℕ) → v < length ws → v < arity body.signature g → gives_under body c f ws q g ≡ true → ByState body c f ws v q g
by_state body c f ws v q g there low o =
    let n = length body.presences in
    let a = arity body.signature g in
    let may = may_stand body c a ws in
    let m = max a (length ws) in
    let p : List ℕ → Bool = λ ks. body.target (entry (insert f c (Some g)) ks) == q in
    let r = found_choice n may 0 m p o in
    let all = options_at_zero n may r.0 r.2 in
    let s = get_or r.0 v 0 in
    let here = all v (omega (arith, r.1)) in
    let scope = with_state v s in
    record {
      state = s;
      small = here.0;
      has = sym (may_in_set body c a ws v s low there) ∙ here.1;
      given = both (takes scope a) (some_choice n (may_in scope may) 0 m p) (lt-ltb v a low)
          (choice_found n (may_in scope may) 0 m p r.0 r.1 (options_from_zero n (may_in scope may) r.0 (λ i l. let x = all i l in (x.0, stays may r.0 v i (i == v) refl x.1))) r.3);
    }

not_from : (b : Bool) → b ≡ false → not b ≡ true
not_from true h = absurd cc
not_from false h = refl

-- Result: what symbols in the column give is what those without a child at a place give, and those with one by the states there
pub gives_by_state : (body : Table) (c : ℕ) (f : TupleSymbol) (ws : List (List ℕ)) (v q : ℕ) → v < length ws
    → (some_below (length body.presences) (λ s. has_state (get_or ws v []) s && some_gives body c f ws (with_state v s) q) || some_gives body c f ws (Without v) q) ≡ gives body c f ws q
gives_by_state body c f ws v q there =
    let n = length body.presences in
    let m = length body.signature in
    let each : ℕ → Bool = λ s. has_state (get_or ws v []) s && some_gives body c f ws (with_state v s) q in
    let low = some_gives body c f ws (Without v) q in
    same_truth (some_below n each || low) (gives body c f ws q)
    (λ o. ⊎_elim
    (λ (x : some_below n each ≡ true).
    let r = found_below n each x in
    let s = r.0 in
    let has = left (has_state (get_or ws v []) s) (some_gives body c f ws (with_state v s) q) r.2 in
    let t = found_below m (gives_in body c f ws (with_state v s) q) (right (has_state (get_or ws v []) s) (some_gives body c f ws (with_state v s) q) r.2) in
    below_found m (gives_under body c f ws q) t.0 t.1 (from_state body c f ws v s q t.0 there has t.2))
    (λ (x : low ≡ true).
    let t = found_below m (gives_in body c f ws (Without v) q) x in
    below_found m (gives_under body c f ws q) t.0 t.1 (right (takes (Without v) (arity body.signature t.0)) (gives_under body c f ws q t.0) t.2))
    (or_cases (some_below n each) low o))
    (λ o.
    let t = found_below m (gives_under body c f ws q) o in
    let g = t.0 in
    let a = arity body.signature g in
    ⊎_elim
    (λ (l : v < a).
    let y = by_state body c f ws v q g there l t.2 in
    either_left (some_below n each) low
    (below_found n each y.state y.small
    (both (has_state (get_or ws v []) y.state) (some_gives body c f ws (with_state v y.state) q) y.has (below_found m (gives_in body c f ws (with_state v y.state) q) g t.1 y.given))))
    (λ (l : a ≤ v).
    either_right (some_below n each) low
    (below_found m (gives_in body c f ws (Without v) q) g t.1 (both (takes (Without v) a) (gives_under body c f ws q g) (not_from (nat_lt v a) (le-ltb v a l)) t.2)))
    (cases_lt v a))

-- a state of a child's set is one of the body's
pub in_set_small : (body : Table) (c : ℕ) (labels : List (List ℕ)) (e : Entry) → IsTable body → IsReached body → IsSearched body c labels e → (j k : ℕ) → j < length e.kids → has_state (get_or (labels_at labels e.kids) j []) k ≡ true → k < length body.presences
in_set_small body c labels e is reached s j k l o =
    let r = kid_label body c labels e is reached s j l in
    let y = (r.says.given k).0 (ap (λ w. has_state w k) (sym (label_at labels e.kids j l)) ∙ o) in
    subst (λ (q : ℕ). q < length body.presences) y.2 (table_state body is (insert r.tuple c (Some y.0)) (IsTuple-completed body c r.tuple y.0 s.column y.1 r.is_tuple.width r.is_tuple.grounded)).within

-- a scope that takes constants holds no child to one state
free_in_scope : (scope : Scope) (may : ℕ → ℕ → Bool) (j k : ℕ) → takes scope 0 ≡ true → may_in scope may j k ≡ may j k
free_in_scope All may j k h = refl
free_in_scope (Without v) may j k h = refl
free_in_scope (With one) may j k h = let l = ltb-true one.place 0 h in absurd (omega arith)

-- Result: a constant gives the target over the children's states with the column absent, and no other state
pub gives_over_absent : (body : Table) (c : ℕ) (f : TupleSymbol) (ws : List (List ℕ)) (scope : Scope) (q g : ℕ) → arity body.signature g ≡ 0 → takes scope 0 ≡ true → ((i : ℕ) → i < length (map absent_state ws) → get_or (map absent_state ws) i 0 < length body.presences)
    → gives_in body c f ws scope q g ≡ (body.target (entry (insert f c (Some g)) (map absent_state ws)) == q)
gives_over_absent body c f ws scope q g none taken small =
    let n = length body.presences in
    let a = arity body.signature g in
    let ks = map absent_state ws in
    let lk : length ks ≡ length ws = length-map ws absent_state in
    let may = may_in scope (may_stand body c a ws) in
    let p : List ℕ → Bool = λ xs. body.target (entry (insert f c (Some g)) xs) == q in
    let count : max a (length ws) ≡ length ks = omega arith in
    ap (λ b. b && some_choice n may 0 (max a (length ws)) p) (ap (takes scope) none ∙ taken)
    ∙ (ap (λ m. some_choice n may 0 m p) count
    ∙ one_choice n may ks p small
    (λ i k l. free_in_scope scope (may_stand body c a ws) i k taken ∙ (may_absent body c a ws i k (omega arith) ∙ ap (λ x. x == k) (sym (get_or-map absent_state ws i [] 0 (omega arith))))))
