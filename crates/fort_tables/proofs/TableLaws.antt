-- A table gives each tuple a state of its presence.
use Rattle.std.proofs.Common.{◌≡◌, ℕ, ◌+◌, ◌*◌, ◌<◌, List, [], ◌∷◌, map, length, get_or, None, Some, refl, ap, sym, ◌∙◌, arith, subst}
use Rattle.std.proofs.lemmas.List.{length-map, get_or-map}
use Rattle.fort_theory.specs.Trees.{Node}
use Rattle.fort_theory.specs.Signatures.{Signature}
use Rattle.fort_tables.specs.Tuples.{Tuple, TupleSymbol, root, kid, kids, kid_count, presence, IsTuple, IsTupleSymbol, symbol_kids, FitsKid}
use Rattle.fort_tables.specs.Entries.{Entry, entry, IsEntry}
use Rattle.fort_tables.proofs.TupleLaws.{tuple_induction, fold_tuple-step, IsTupleSymbol-root, IsTuple-kid, kid_count_is, kid_fits, presence_fits, length-tabulate, get_or-tabulate}
use Rattle.fort_tables.specs.Tables.{Table, IsTable, IsTableEntry, state_of}

pub presence_root : (t : Tuple) → presence (root t) ≡ presence t
presence_root [] = refl
presence_root (None ∷ t) = ap (λ n. 2 * n) (presence_root t)
presence_root (Some (Node f ts) ∷ t) = ap (λ n. 1 + 2 * n) (presence_root t)

pub record HasState (ps : List ℕ) (t : Tuple) (q : ℕ) : Type 0 where
  pub within : q < length ps
  pub presence_is : get_or ps q 0 ≡ presence t

abbrev pub entry_of : (Tuple → ℕ) → Tuple → Entry
entry_of state t = record { symbol = root t; kids = map state (kids t) }

-- the root and the children's states are an entry
pub IsEntry-states : (sig : Signature) (n : ℕ) (ps : List ℕ) (state : Tuple → ℕ) (t : Tuple) → IsTuple sig n t → ((j : ℕ) → j < kid_count t → HasState ps (kid t j) (state (kid t j))) → IsEntry sig n ps (entry_of state t)
IsEntry-states sig n ps state t h kids_have =
    let len_kids : length (kids t) ≡ kid_count t = length-tabulate (kid_count t) (kid t) in
    let len : length (map state (kids t)) ≡ kid_count t = length-map (kids t) state ∙ len_kids in
    let at : (j : ℕ) → j < kid_count t → get_or (map state (kids t)) j 0 ≡ state (kid t j) = λ j l. get_or-map state (kids t) j [] 0 (omega arith) ∙ ap state (get_or-tabulate (kid_count t) (kid t) j [] l) in
    record {
      symbol = IsTupleSymbol-root sig n t h;
      count = len ∙ kid_count_is sig t h.grounded;
      within = λ j l. omega (arith, at j (omega arith), (kids_have j (omega arith)).within);
      presence = λ j l. ap (λ q. get_or ps q 0) (at j (omega arith)) ∙ ((kids_have j (omega arith)).presence_is ∙ presence_fits sig (root t) j (kid t j) (kid_fits sig t j h.grounded));
    }

pub table_state : (table : Table) → IsTable table → (t : Tuple) → IsTuple table.signature table.columns t → HasState table.presences t (state_of table t)
table_state table is = tuple_induction (λ t. IsTuple table.signature table.columns t → HasState table.presences t (state_of table t))
    (λ t ih h.
    let e = IsEntry-states table.signature table.columns table.presences (state_of table) t h (λ j l. ih j l (IsTuple-kid table.signature table.columns t j h l)) in
    subst (HasState table.presences t) (sym (fold_tuple-step (λ f ks. table.target (entry f ks)) t))
    (record { within = is.within (entry_of (state_of table) t) e; presence_is = is.presence (entry_of (state_of table) t) e ∙ presence_root t }))

-- q is the state of some tuple that stands as child j under the symbol
pub record IsKidState (table : Table) (f : TupleSymbol) (j q : ℕ) : Type 0 where
  pub tuple : Tuple
  pub is_tuple : IsTuple table.signature table.columns tuple
  pub fits : FitsKid table.signature f j tuple
  pub state : state_of table tuple ≡ q

-- Result: a symbol over states of tuples that stand under it is an entry
pub IsTableEntry-kid_states : (table : Table) (e : Entry) → IsTable table → IsTupleSymbol table.signature table.columns e.symbol → length e.kids ≡ symbol_kids table.signature e.symbol → ((j : ℕ) → j < length e.kids → IsKidState table e.symbol j (get_or e.kids j 0)) → IsTableEntry table e
IsTableEntry-kid_states table e is s count h = record {
  symbol = s;
  count = count;
  within = λ j l. let k = h j l in subst (λ (q : ℕ). q < length table.presences) k.state (table_state table is k.tuple k.is_tuple).within;
  presence = λ j l. let k = h j l in ap (λ q. get_or table.presences q 0) (sym k.state) ∙ ((table_state table is k.tuple k.is_tuple).presence_is ∙ presence_fits table.signature e.symbol j k.tuple k.fits);
}
