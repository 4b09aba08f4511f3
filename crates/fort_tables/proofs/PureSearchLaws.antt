-- The search for children finds exactly the children of pure entries.
use Rattle.std.proofs.Common.{◌≡◌, ℕ, ◌-◌, ◌^◌, ◌<◌, List, length, get_or, Some, true, ◌&&◌, ◌==◌, eq-eqb, ap, sym, ◌∙◌, arith}
use Rattle.std.specs.Prelude.{◌↔◌}
use Rattle.std.proofs.lemmas.Bool.{eqb-true}
use Rattle.std.proofs.lemmas.List.{get_or_default}
use Rattle.std.proofs.lemmas.List.Edits.{length-insert}
use Rattle.fort_theory.proofs.Members.{Contains-Decides}
use Rattle.fort_tables.specs.Tuples.{arity, all_absent, IsTupleSymbol}
use Rattle.fort_tables.specs.Entries.{Entry, entry}
use Rattle.fort_tables.specs.Tables.{Table}
use Rattle.fort_tables.proofs.InsertLaws.{length-all_absent, IsPresent-insert_some, presence-alone}
use Rattle.fort_tables.proofs.InsertSymbolLaws.{symbol_kids-alone, kid_presence-alone, AreSymbols-alone}
use Rattle.fort_tables.specs.Projections.{is_pure}
use Rattle.fort_tables.proofs.SearchLaws.{found_below, below_found, found_choice, choice_found, options_from_zero, options_at_zero, both, left, right}
use Rattle.fort_tables.specs.PureSearch.{lone_symbol, has_number, is_child_under, is_child}
use Rattle.fort_tables.specs.PureStates.{IsPureState, IsPureEntry, IsPureChild}
use Rattle.fort_tables.proofs.PureStateLaws.{pure_symbol, pure_count, pure_within, pure_kid}

pub pure_from_test : (body : Table) (c q : ℕ) → q < length body.presences → is_pure body c q ≡ true → IsPureState body c q
pure_from_test body c q l h = record { within = l; alone = eqb-true (get_or body.presences q 0) (2 ^ c) h }

pub test_from_pure : (body : Table) (c q : ℕ) → IsPureState body c q → is_pure body c q ≡ true
test_from_pure body c q h = eq-eqb (get_or body.presences q 0) (2 ^ c) h.alone

pub IsTupleSymbol-lone : (body : Table) (c g : ℕ) → c < body.columns → g < length body.signature → IsTupleSymbol body.signature body.columns (lone_symbol body c g)
IsTupleSymbol-lone body c g low h = record {
  width = omega (arith, length-insert (all_absent (body.columns - 1)) c (Some g) (omega (arith, length-all_absent ℕ (body.columns - 1))), length-all_absent ℕ (body.columns - 1));
  present = IsPresent-insert_some (all_absent (body.columns - 1)) c g;
  symbols = AreSymbols-alone body.signature c (body.columns - 1) g h;
}

pub pure_entry_made : (body : Table) (c g q : ℕ) (ks : List ℕ) → c < body.columns → g < length body.signature → length ks ≡ arity body.signature g → ((j : ℕ) → j < length ks → IsPureState body c (get_or ks j 0)) → body.target (entry (lone_symbol body c g) ks) ≡ q → IsPureEntry body c q (entry (lone_symbol body c g) ks)
pure_entry_made body c g q ks low h count pure gives = record {
  is_entry = record {
    symbol = IsTupleSymbol-lone body c g low h;
    count = count ∙ sym (symbol_kids-alone body.signature c (body.columns - 1) g);
    within = λ j l. (pure j l).within;
    presence = λ j l. (pure j l).alone ∙ sym (kid_presence-alone body.signature c (body.columns - 1) g j (omega arith) (omega (arith, count)));
  };
  alone = presence-alone c (body.columns - 1) g (omega arith);
  gives = gives;
}

pub pure_kid_at : (body : Table) (c q : ℕ) (e : Entry) → c < body.columns → IsPureEntry body c q e → (j : ℕ) → j < length e.kids → IsPureState body c (get_or e.kids j 0)
pure_kid_at body c q e low h j l = pure_kid body c q e low h (get_or e.kids j 0) (j, l, get_or_default e.kids j (get_or e.kids j 0) 0 l)

child_from_search : (body : Table) (c q k : ℕ) → c < body.columns → is_child body c q k ≡ true → IsPureChild body c q k
child_from_search body c q k low h =
    let m = length body.presences in
    let r = found_below (length body.signature) (is_child_under body c q k) h in
    let g = r.0 in
    let f = lone_symbol body c g in
    let s = found_choice m (λ _ i. is_pure body c i) 0 (arity body.signature g) (λ ks. (body.target (entry f ks) == q) && has_number k ks) r.2 in
    let ks = s.0 in
    let pure : (j : ℕ) → j < length ks → IsPureState body c (get_or ks j 0) = λ j l. let o = options_at_zero m (λ _ i. is_pure body c i) ks s.2 j l in pure_from_test body c (get_or ks j 0) o.0 o.1 in
    let gives = eqb-true (body.target (entry f ks)) q (left (body.target (entry f ks) == q) (has_number k ks) s.3) in
    record {
      entry = entry f ks;
      is_pure = pure_entry_made body c g q ks low r.1 s.1 pure gives;
      child = (Contains-Decides ks k).0 (right (body.target (entry f ks) == q) (has_number k ks) s.3);
    }

search_from_child : (body : Table) (c q k : ℕ) → c < body.columns → IsPureChild body c q k → is_child body c q k ≡ true
search_from_child body c q k low h =
    let m = length body.presences in
    let e = h.entry in
    let p = h.is_pure in
    let y = pure_symbol body c q e low p in
    let g = y.0 in
    let f = lone_symbol body c g in
    let ks = e.kids in
    let same : e ≡ entry f ks = λ i. record { symbol = y.1 i; kids = ks } in
    let gives : body.target (entry f ks) ≡ q = ap body.target (sym same) ∙ p.gives in
    below_found (length body.signature) (is_child_under body c q k) g (pure_within body c q e g p y.1)
    (choice_found m (λ _ i. is_pure body c i) 0 (arity body.signature g) (λ is. (body.target (entry f is) == q) && has_number k is) ks (pure_count body c q e g p y.1)
    (options_from_zero m (λ _ i. is_pure body c i) ks (λ j l. let s = pure_kid_at body c q e low p j l in (s.within, test_from_pure body c (get_or ks j 0) s)))
    (both (body.target (entry f ks) == q) (has_number k ks) (eq-eqb (body.target (entry f ks)) q gives) ((Contains-Decides ks k).1 h.child)))

-- Result
pub is_child_exactly : (body : Table) (c q k : ℕ) → c < body.columns → (is_child body c q k ≡ true) ↔ IsPureChild body c q k
is_child_exactly body c q k low = (child_from_search body c q k low, search_from_child body c q k low)
