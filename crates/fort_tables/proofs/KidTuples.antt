-- Where there is a term, each tuple symbol has an entry: its children may be that term in each column.
use Rattle.std.proofs.Common.{◌≡◌, ℕ, suc, ◌<◌, [], ◌∷◌, length, get_or, if◌then◌else◌, nat_lt, None, Some, refl, ap, sym, ◌∙◌, arith, ⊎_elim}
use Rattle.std.proofs.lemmas.Bool.{cases_lt, lt-ltb, le-ltb}
use Rattle.fort_theory.specs.Trees.{Tree}
use Rattle.fort_theory.specs.Signatures.{Signature, IsGround}
use Rattle.fort_tables.specs.Tuples.{Tuple, TupleSymbol, tabulate, IsPresent, arity, IsTupleSymbol, AreGroundColumns, symbol_kids, FitsKid}
use Rattle.fort_tables.specs.Entries.{Entry, entry, no_entry}
use Rattle.fort_tables.specs.Tables.{Table, Listed, listed_table, IsTable, IsTableEntry, IsListed, state_of}
use Rattle.fort_tables.proofs.TupleLaws.{length-tabulate, get_or-tabulate}
use Rattle.fort_tables.proofs.TableLaws.{IsTableEntry-kid_states}
use Rattle.fort_tables.specs.Laid.{entries_under}
use Rattle.fort_tables.proofs.BySymbol.{under_has}

pub record HasTerm (sig : Signature) : Type 0 where
  pub term : Tree
  pub ground_term : IsGround sig term

pub term_in : (sig : Signature) (t : Tuple) → IsPresent t → AreGroundColumns sig t → HasTerm sig
term_in sig [] p h = absurd p
term_in sig (None ∷ t) p h = term_in sig t p h
term_in sig (Some x ∷ t) p h = record { term = x; ground_term = h.0 }

-- the term in each column whose symbol has a child j
abbrev kid_of : Signature → Tree → TupleSymbol → ℕ → Tuple
kid_of sig x [] j = []
kid_of sig x (None ∷ f) j = None ∷ kid_of sig x f j
kid_of sig x (Some g ∷ f) j = (if nat_lt j (arity sig g) then Some x else None) ∷ kid_of sig x f j

length-kid_of : (sig : Signature) (x : Tree) (f : TupleSymbol) (j : ℕ) → length (kid_of sig x f j) ≡ length f
length-kid_of sig x [] j = refl
length-kid_of sig x (None ∷ f) j = ap suc (length-kid_of sig x f j)
length-kid_of sig x (Some g ∷ f) j = ap suc (length-kid_of sig x f j)

kid_of_ground : (sig : Signature) (x : Tree) (f : TupleSymbol) (j : ℕ) → IsGround sig x → AreGroundColumns sig (kid_of sig x f j)
kid_of_ground sig x [] j h = tt
kid_of_ground sig x (None ∷ f) j h = kid_of_ground sig x f j h
kid_of_ground sig x (Some g ∷ f) j h =
    ⊎_elim
    (λ l. rw (lt-ltb j (arity sig g) l) (h, kid_of_ground sig x f j h))
    (λ l. rw (le-ltb j (arity sig g) l) (kid_of_ground sig x f j h))
    (cases_lt j (arity sig g))

kid_of_fits : (sig : Signature) (x : Tree) (f : TupleSymbol) (j : ℕ) → FitsKid sig f j (kid_of sig x f j)
kid_of_fits sig x [] j = tt
kid_of_fits sig x (None ∷ f) j = kid_of_fits sig x f j
kid_of_fits sig x (Some g ∷ f) j =
    ⊎_elim
    (λ l. rw (lt-ltb j (arity sig g) l) (l, kid_of_fits sig x f j))
    (λ l. rw (le-ltb j (arity sig g) l) (l, kid_of_fits sig x f j))
    (cases_lt j (arity sig g))

kid_of_present : (sig : Signature) (x : Tree) (f : TupleSymbol) (j : ℕ) → j < symbol_kids sig f → IsPresent (kid_of sig x f j)
kid_of_present sig x [] j l = absurd (omega arith)
kid_of_present sig x (None ∷ f) j l = kid_of_present sig x f j l
kid_of_present sig x (Some g ∷ f) j l =
    ⊎_elim
    (λ m. rw (lt-ltb j (arity sig g) m) tt)
    (λ m. rw (le-ltb j (arity sig g) m) (kid_of_present sig x f j (omega arith)))
    (cases_lt j (arity sig g))

-- the entry over the states of those children
abbrev entry_with : Table → Tree → TupleSymbol → Entry
entry_with t x f = entry f (tabulate (symbol_kids t.signature f) (λ j. state_of t (kid_of t.signature x f j)))

pub entry_there : (t : Table) (f : TupleSymbol) → (h : HasTerm t.signature) → IsTable t → IsTupleSymbol t.signature t.columns f
    → IsTableEntry t (entry_with t h.term f)
entry_there t f h is s =
    let sig = t.signature in
    let n = symbol_kids sig f in
    let state : ℕ → ℕ = λ j. state_of t (kid_of sig h.term f j) in
    let long : length (tabulate n state) ≡ n = length-tabulate n state in
    IsTableEntry-kid_states t (entry_with t h.term f) is s long
    (λ j l.
    let low : j < n = omega (arith, long) in
    record {
      tuple = kid_of sig h.term f j;
      is_tuple = record {
        width = length-kid_of sig h.term f j ∙ s.width;
        present = kid_of_present sig h.term f j low;
        grounded = kid_of_ground sig h.term f j h.ground_term;
      };
      fits = kid_of_fits sig h.term f j;
      state = sym (get_or-tabulate n state j 0 low);
    })

-- a listed table with an entry has a term
pub listed_term : (t : Listed) → IsListed t → 0 < length t.entries → HasTerm t.signature
listed_term t h l =
    let d = no_entry t.columns in
    let e = get_or t.entries 0 d in
    let r = h.reached ((listed_table t).target e) (h.table.within e (h.order.are 0 d l)) in
    term_in t.signature r.0 r.1.present r.1.grounded

pub under_some : (t : Table) (f : TupleSymbol) → HasTerm t.signature → IsTable t → IsTupleSymbol t.signature t.columns f
    → 0 < length (entries_under t.signature t.presences f)
under_some t f h is s = let r = under_has t.signature t.columns t.presences (entry_with t h.term f) (entry_there t f h is s) in omega (arith, r.1)
