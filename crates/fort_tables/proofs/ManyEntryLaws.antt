-- Entries of the body below an entry over the labels of "infinitely many": the one with the column absent, and those with a symbol in it.
use Rattle.std.proofs.Common.{◌≡◌, ℕ, suc, ◌-◌, ◌<◌, ◌≤◌, max, List, [], map, length, None, Some, get_or, Bool, true, ⊎_elim, ap, sym, ◌∙◌, arith, subst}
use Rattle.std.proofs.lemmas.Bool.{cases_lt, eqb-true}
use Rattle.std.proofs.lemmas.List.{length-map, get_or-map}
use Rattle.std.specs.List.{insert}
use Rattle.fort_tables.specs.Tuples.{Tuple, TupleSymbol, all_absent, presence, IsTuple, IsTupleSymbol, arity, symbol_kids, FitsKid, kid_presence}
use Rattle.fort_tables.specs.Entries.{Entry, entry}
use Rattle.fort_tables.specs.Tables.{Table, IsTableEntry, IsTable, IsReached}
use Rattle.fort_tables.specs.Labels.{first_word}
use Rattle.fort_tables.proofs.TupleLaws.{fits_presence}
use Rattle.fort_tables.proofs.InsertSymbolLaws.{symbol_kids-insert_some, symbol_kids-insert_none, IsTupleSymbol-insert_some, IsTupleSymbol-insert_none, FitsKid-insert_some, FitsKid-insert_none, FitsKid-all_absent}
use Rattle.fort_tables.proofs.TableLaws.{IsKidState, IsTableEntry-kid_states}
use Rattle.fort_tables.specs.Projections.{absent_state, has_state}
use Rattle.fort_tables.proofs.CompletedTuples.{IsTuple-completed, IsTuple-absent, absent_small}
use Rattle.fort_tables.proofs.ProjectLabels.{may_in_set, may_past, may_absent}
use Rattle.fort_tables.specs.ManyEntries.{kid_labels, IsManyEntry, AreManyChoices, may_be}
use Rattle.fort_tables.proofs.PureStateLaws.{lone_tuple, no_others, term_of_pure}
use Rattle.fort_tables.proofs.PureSearchLaws.{pure_from_test}
use Rattle.fort_tables.proofs.ManyChildren.{TellsGiven}
use Rattle.fort_tables.proofs.ManyLabelLaws.{label_told}

pub kid_label_at : (labels : List (List ℕ)) (e : Entry) (j : ℕ) → j < length e.kids → get_or (kid_labels labels e) j [] ≡ get_or labels (get_or e.kids j 0) []
kid_label_at labels e j l = get_or-map (λ q. get_or labels q []) e.kids j 0 [] l

pub length-kid_labels : (labels : List (List ℕ)) (e : Entry) → length (kid_labels labels e) ≡ length e.kids
length-kid_labels labels e = length-map e.kids (λ q. get_or labels q [])

-- a child's label says what it should of some tuple that stands there
pub record IsKidLabel (body : Table) (c : ℕ) (f : TupleSymbol) (j : ℕ) (w : List ℕ) : Type 0 where
  pub tuple : Tuple
  pub is_tuple : IsTuple body.signature (body.columns - 1) tuple
  pub fits : FitsKid body.signature f j tuple
  pub says : TellsGiven body c tuple w

module _ (body : Table) (c : ℕ) (many : ℕ → Bool) (labels : List (List ℕ)) (e : Entry) (is : IsTable body) (reached : IsReached body) (s : IsManyEntry body c many labels e) where
  pub kid_within : (j : ℕ) → j < length e.kids → get_or e.kids j 0 < length labels
  kid_within j l = omega (arith, s.over.entry.within j l, length-map labels first_word)

  pub kid_label : (j : ℕ) → j < length e.kids → IsKidLabel body c e.symbol j (get_or labels (get_or e.kids j 0) [])
  kid_label j l =
      let q = get_or e.kids j 0 in
      let there = kid_within j l in
      let r = s.over.are q there in
      let says : TellsGiven body c r.0 (get_or labels q []) = subst (TellsGiven body c r.0) r.2 (label_told body c many is reached s.column r.0 r.1) in
      let p : presence r.0 ≡ kid_presence body.signature e.symbol j = sym says.first ∙ (sym (get_or-map first_word labels q [] 0 there) ∙ s.over.entry.presence j l) in
      record {
        tuple = r.0;
        is_tuple = r.1;
        fits = fits_presence body.signature e.symbol j r.0 (r.1.width ∙ sym s.over.entry.symbol.width) p;
        says = says;
      }

  -- Result: the entry of the tuple with the column absent
  pub absent_entry : IsTableEntry body (entry (insert e.symbol c None) (map absent_state (kid_labels labels e)))
  absent_entry =
      let sig = body.signature in
      let ws = kid_labels labels e in
      let lw = length-kid_labels labels e in
      let ls : length (map absent_state ws) ≡ length ws = length-map ws absent_state in
      let w : suc (body.columns - 1) ≡ body.columns = omega (arith, s.column) in
      IsTableEntry-kid_states body (entry (insert e.symbol c None) (map absent_state ws)) is
      (subst (λ (n : ℕ). IsTupleSymbol sig n (insert e.symbol c None)) w (IsTupleSymbol-insert_none sig (body.columns - 1) e.symbol c (omega (arith, s.column)) s.over.entry.symbol))
      (ls ∙ (lw ∙ (s.over.entry.count ∙ sym (symbol_kids-insert_none sig e.symbol c))))
      (λ j l.
      let m : j < length e.kids = omega arith in
      let r = kid_label j m in
      record {
        tuple = insert r.tuple c None;
        is_tuple = IsTuple-absent body c r.tuple s.column r.is_tuple;
        fits = FitsKid-insert_none sig e.symbol c j r.tuple r.fits;
        state = sym r.says.absent ∙ sym (get_or-map absent_state ws j [] 0 (omega arith) ∙ ap absent_state (kid_label_at labels e j m));
      })

  pub absent_state_small : (j : ℕ) → j < length e.kids → absent_state (get_or labels (get_or e.kids j 0) []) < length body.presences
  absent_state_small j l =
      let r = kid_label j l in
      omega (arith, r.says.absent, absent_small body c r.tuple is s.column r.is_tuple)

module _ (body : Table) (c : ℕ) (many : ℕ → Bool) (labels : List (List ℕ)) (e : Entry) (g : ℕ) (f : TupleSymbol) (most : ℕ) (is : IsTable body) (reached : IsReached body) (h : AreManyChoices body c many labels e g f most) where
  -- how many children stand under the symbol
  pub choices_count : symbol_kids body.signature f ≡ max most (length e.kids)
  choices_count = omega (arith, ap (symbol_kids body.signature) h.symbol, symbol_kids-insert_some body.signature e.symbol c g, h.arity_is, h.entry.over.entry.count)

  pub choices_symbol : IsTupleSymbol body.signature body.columns f
  choices_symbol =
      let low = h.entry.column in
      let w : suc (body.columns - 1) ≡ body.columns = omega (arith, low) in
      subst (IsTupleSymbol body.signature body.columns) (sym h.symbol) (subst (λ (n : ℕ). IsTupleSymbol body.signature n (insert e.symbol c (Some g))) w (IsTupleSymbol-insert_some body.signature (body.columns - 1) e.symbol c g (omega (arith, low)) h.within h.entry.over.entry.symbol))

  -- a state that may be chosen, with what it is the state of
  pub choice_state : (j k : ℕ) → j < symbol_kids body.signature f → k < length body.presences → may_be body c labels e most j k ≡ true → IsKidState body f j k
  choice_state j k l small o =
      let sig = body.signature in
      let ws = kid_labels labels e in
      let lw = length-kid_labels labels e in
      let n = body.columns - 1 in
      let low = h.entry.column in
      let count = choices_count in
      let F : Tuple → Type 0 = λ t. FitsKid sig f j t in
      let under : (x : _) (t : Tuple) → FitsKid sig (insert e.symbol c (Some g)) j (insert t c x) → F (insert t c x) =
      λ x t m. subst (λ (z : TupleSymbol). FitsKid sig z j (insert t c x)) (sym h.symbol) m in
      ⊎_elim
      (λ (a : j < most).
      let b : j < arity sig g = omega (arith, a, h.arity_is) in
      ⊎_elim
      (λ (m : j < length e.kids).
      let r = kid_label body c many labels e is reached h.entry j m in
      let y = (r.says.given k small).0 (ap (λ w. has_state w k) (sym (kid_label_at labels e j m)) ∙ (sym (may_in_set body c most ws j k a (omega arith)) ∙ o)) in
      record {
        tuple = insert r.tuple c (Some y.0);
        is_tuple = IsTuple-completed body c r.tuple y.0 low y.1 r.is_tuple.width r.is_tuple.grounded;
        fits = under (Some y.0) r.tuple (FitsKid-insert_some sig e.symbol c g j (Some y.0) r.tuple b r.fits);
        state = y.2;
      })
      (λ (m : length e.kids ≤ j).
      let y = term_of_pure body c k is reached low (pure_from_test body c k small (sym (may_past body c most ws j k a (omega arith)) ∙ o)) in
      let past : FitsKid sig e.symbol j (no_others body) = subst (λ (i : ℕ). FitsKid sig e.symbol j (all_absent i)) h.entry.over.entry.symbol.width (FitsKid-all_absent sig e.symbol j (omega (arith, h.entry.over.entry.count))) in
      record {
        tuple = insert (no_others body) c (Some y.0);
        is_tuple = lone_tuple body c y.0 low y.1.0;
        fits = under (Some y.0) (no_others body) (FitsKid-insert_some sig e.symbol c g j (Some y.0) (no_others body) b past);
        state = y.1.1;
      })
      (cases_lt j (length e.kids)))
      (λ (a : most ≤ j).
      let m : j < length e.kids = omega (arith, count) in
      let b : arity sig g ≤ j = omega (arith, a, h.arity_is) in
      let r = kid_label body c many labels e is reached h.entry j m in
      let p = eqb-true (absent_state (get_or ws j [])) k (sym (may_absent body c most ws j k a) ∙ o) in
      record {
        tuple = insert r.tuple c None;
        is_tuple = IsTuple-absent body c r.tuple low r.is_tuple;
        fits = under None r.tuple (FitsKid-insert_some sig e.symbol c g j None r.tuple b r.fits);
        state = sym r.says.absent ∙ (ap absent_state (sym (kid_label_at labels e j m)) ∙ p);
      })
      (cases_lt j most)
