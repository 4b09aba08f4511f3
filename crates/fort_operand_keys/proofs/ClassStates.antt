-- Entries of one symbol whose children have the same leaders have one target, and so tuples of one root have one state.
use Rattle.std.proofs.Common.{◌≡◌, ℕ, ◌<◌, List, [], map, length, get_or, ap, sym, ◌∙◌, arith}
use Rattle.std.proofs.lemmas.List.{length-map, get_or-map, ext_get_or}
use Rattle.fort_tables.specs.Tuples.{Tuple, TupleSymbol, root, kid, kids, kid_count, IsTuple, symbol_kids}
use Rattle.fort_tables.specs.Entries.{Entry, entry}
use Rattle.fort_tables.specs.Tables.{Table, IsTable, IsTableEntry, state_of}
use Rattle.fort_tables.proofs.TupleLaws.{fold_tuple-step, length-tabulate, get_or-tabulate, IsTuple-kid, kid_count_is}
use Rattle.fort_tables.proofs.TableLaws.{table_state, entry_of, IsEntry-states}
use Rattle.fort_classes.specs.Leaders.{Leaders, led, GoesByLeaders}
use Rattle.fort_classes.proofs.LeaderLaws.{length-led, get_or-led}

-- as many children, with the same leaders
pub led_alike : (lead : Leaders) (e d : Entry) → e.symbol ≡ d.symbol → length e.kids ≡ length d.kids
    → ((j : ℕ) → j < length e.kids → lead e.symbol j (get_or e.kids j 0) ≡ lead e.symbol j (get_or d.kids j 0)) → led lead e ≡ led lead d
led_alike lead e d same count leaders =
    let kids_are : (led lead e).kids ≡ (led lead d).kids = ext_get_or 0 (led lead e).kids (led lead d).kids (length-led lead e ∙ (count ∙ sym (length-led lead d)))
    (λ j l. let m : j < length e.kids = omega (arith, length-led lead e) in
    get_or-led lead e j m ∙ (leaders j m ∙ (ap (λ f. lead f j (get_or d.kids j 0)) same ∙ sym (get_or-led lead d j (omega arith))))) in
    (λ i. entry (same i) (kids_are i))

module _ (table : Table) (lead : Leaders) (goes : GoesByLeaders table.signature table.columns table.presences lead table.target) where
  -- Result: entries of one symbol whose children have the same leaders have one target
  pub same_target : (e d : Entry) → IsTableEntry table e → IsTableEntry table d → e.symbol ≡ d.symbol
      → ((j : ℕ) → j < length e.kids → lead e.symbol j (get_or e.kids j 0) ≡ lead e.symbol j (get_or d.kids j 0)) → table.target e ≡ table.target d
  same_target e d h k same leaders =
      let count : length e.kids ≡ length d.kids = h.count ∙ (ap (symbol_kids table.signature) same ∙ sym k.count) in
      goes e h ∙ (ap table.target (led_alike lead e d same count leaders) ∙ sym (goes d k))

  -- Result: tuples of one root whose children's states have the same leaders have one state
  pub same_state : IsTable table → (t u : Tuple) → IsTuple table.signature table.columns t → IsTuple table.signature table.columns u → root t ≡ root u
      → ((j : ℕ) → j < kid_count t → lead (root t) j (state_of table (kid t j)) ≡ lead (root t) j (state_of table (kid u j))) → state_of table t ≡ state_of table u
  same_state is t u h k same leaders =
      let state = state_of table in
      let step : TupleSymbol → List ℕ → ℕ = λ f ks. table.target (entry f ks) in
      let count : kid_count t ≡ kid_count u = kid_count_is table.signature t h.grounded ∙ (ap (symbol_kids table.signature) same ∙ sym (kid_count_is table.signature u k.grounded)) in
      let long : (x : Tuple) → length (map state (kids x)) ≡ kid_count x = λ x. length-map (kids x) state ∙ length-tabulate (kid_count x) (kid x) in
      let at : (x : Tuple) (j : ℕ) → j < kid_count x → get_or (map state (kids x)) j 0 ≡ state (kid x j) =
      λ x j l. get_or-map state (kids x) j [] 0 (omega (arith, length-tabulate (kid_count x) (kid x))) ∙ ap state (get_or-tabulate (kid_count x) (kid x) j [] l) in
      let is_entry : (x : Tuple) → IsTuple table.signature table.columns x → IsTableEntry table (entry_of state x) =
      λ x hx. IsEntry-states table.signature table.columns table.presences state x hx (λ j l. table_state table is (kid x j) (IsTuple-kid table.signature table.columns x j hx l)) in
      fold_tuple-step step t
      ∙ (same_target (entry_of state t) (entry_of state u) (is_entry t h) (is_entry u k) same
      (λ j l. let m : j < kid_count t = omega (arith, long t) in
      ap (lead (root t) j) (at t j m) ∙ (leaders j m ∙ ap (lead (root t) j) (sym (at u j (omega arith)))))
      ∙ sym (fold_tuple-step step u))
