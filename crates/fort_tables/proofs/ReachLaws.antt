-- Each state that an entry over earlier states gives has a tuple.
use Rattle.std.proofs.Common.{◌≡◌, ℕ, zero, suc, ◌<◌, List, [], ◌∷◌, map, length, get_or, refl, ap, sym, ◌∙◌, arith}
use Rattle.std.proofs.lemmas.List.{length-map, get_or-map, ext_get_or}
use Rattle.fort_tables.specs.Tuples.{Tuple, rebuilt, kids, IsTuple, AreKids}
use Rattle.fort_tables.specs.Entries.{Entry, entry}
use Rattle.fort_tables.specs.Tables.{Table, IsTableEntry, IsTable, state_of, IsReached}
use Rattle.fort_tables.proofs.TupleLaws.{fold_tuple-step, root-rebuilt, kids-rebuilt, IsTuple-rebuilt, fits_presence}
use Rattle.fort_tables.proofs.TableLaws.{table_state}

pub record HasTuple (t : Table) (q : ℕ) : Type 0 where
  pub tuple : Tuple
  pub is : IsTuple t.signature t.columns tuple
  pub state : state_of t tuple ≡ q

record Chosen (t : Table) (ks : List ℕ) : Type 0 where
  tuples : List Tuple
  count : length tuples ≡ length ks
  are : (j : ℕ) → j < length ks → IsTuple t.signature t.columns (get_or tuples j [])
  states : (j : ℕ) → j < length ks → state_of t (get_or tuples j []) ≡ get_or ks j 0

chosen : (t : Table) (ks : List ℕ) → ((j : ℕ) → j < length ks → HasTuple t (get_or ks j 0)) → Chosen t ks
chosen t [] h = record { tuples = []; count = refl; are = λ j l. absurd (omega arith); states = λ j l. absurd (omega arith) }
chosen t (k ∷ ks) h =
    let here = h 0 (omega arith) in
    let later = chosen t ks (λ j l. h (suc j) (omega arith)) in
    record {
      tuples = here.tuple ∷ later.tuples;
      count = ap suc later.count;
      are = λ j. elim j as (λ j. j < length (k ∷ ks) → IsTuple t.signature t.columns (get_or (here.tuple ∷ later.tuples) j [])) [ zero ↦ (λ l. here.is) | suc i ↦ (λ l. later.are i (omega arith)) ];
      states = λ j. elim j as (λ j. j < length (k ∷ ks) → state_of t (get_or (here.tuple ∷ later.tuples) j []) ≡ get_or (k ∷ ks) j 0) [ zero ↦ (λ l. here.state) | suc i ↦ (λ l. later.states i (omega arith)) ];
    }

chosen_kids : (t : Table) (e : Entry) → IsTable t → IsTableEntry t e → (c : Chosen t e.kids) → AreKids t.signature e.symbol c.tuples
chosen_kids t e is h c = record {
  count = c.count ∙ h.count;
  fits = λ j l.
      let m : j < length e.kids = omega (arith, c.count) in
      let has = table_state t is (get_or c.tuples j []) (c.are j m) in
      fits_presence t.signature e.symbol j (get_or c.tuples j []) ((c.are j m).width ∙ sym h.symbol.width)
      (sym has.presence_is ∙ (ap (λ q. get_or t.presences q 0) (c.states j m) ∙ h.presence j m));
  grounded = λ j l. (c.are j (omega (arith, c.count))).grounded;
}

chosen_states : (t : Table) (e : Entry) → (c : Chosen t e.kids) → map (state_of t) c.tuples ≡ e.kids
chosen_states t e c =
    ext_get_or 0 (map (state_of t) c.tuples) e.kids (length-map c.tuples (state_of t) ∙ c.count)
    (λ j l. let m : j < length c.tuples = omega (arith, length-map c.tuples (state_of t)) in
    get_or-map (state_of t) c.tuples j [] 0 m ∙ c.states j (omega (arith, c.count)))

made_tuple : (t : Table) (e : Entry) (q : ℕ) → IsTable t → IsTableEntry t e → t.target e ≡ q → Chosen t e.kids → HasTuple t q
made_tuple t e q is h target c =
    let us = c.tuples in
    let k = chosen_kids t e is h c in
    record {
      tuple = rebuilt e.symbol us;
      is = IsTuple-rebuilt t.signature t.columns e.symbol us h.symbol k;
      state =
          fold_tuple-step (λ f ks. t.target (entry f ks)) (rebuilt e.symbol us)
          ∙ (ap (λ f. t.target (entry f (map (state_of t) (kids (rebuilt e.symbol us))))) (root-rebuilt e.symbol us)
          ∙ (ap (λ vs. t.target (entry e.symbol (map (state_of t) vs))) (kids-rebuilt t.signature e.symbol us k)
          ∙ (ap (λ ks. t.target (entry e.symbol ks)) (chosen_states t e c) ∙ target)));
    }

-- an entry that gives the state, over earlier states
pub record HasFirst (t : Table) (q : ℕ) : Type 0 where
  pub first : Entry
  pub is_entry : IsTableEntry t first
  pub target : t.target first ≡ q
  pub earlier : (j : ℕ) → j < length first.kids → get_or first.kids j 0 < q

reach_to : (t : Table) → IsTable t → ((q : ℕ) → q < length t.presences → HasFirst t q) → (n q : ℕ) → q < n → q < length t.presences → HasTuple t q
reach_to t is firsts zero q l m = absurd (omega arith)
reach_to t is firsts (suc n) q l m =
    let f = firsts q m in
    made_tuple t f.first q is f.is_entry f.target (chosen t f.first.kids (λ j b. reach_to t is firsts n (get_or f.first.kids j 0) (omega (arith, f.earlier j b)) (f.is_entry.within j b)))

pub reached_from_firsts : (t : Table) → IsTable t → ((q : ℕ) → q < length t.presences → HasFirst t q) → IsReached t
reached_from_firsts t is firsts q l = let r = reach_to t is firsts (suc q) q (omega arith) l in (r.tuple, r.is, r.state)
