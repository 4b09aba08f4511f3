-- Entries of the body below an entry over the labels of a projection: the one with the column absent, and those with a symbol in it.
use Rattle.std.proofs.Common.{◌≡◌, ℕ, suc, ◌+◌, ◌-◌, ◌^◌, ◌<◌, ◌≤◌, max, List, [], map, length, None, Some, get_or, true, ⊎_elim, ap, sym, ◌∙◌, arith, subst}
use Rattle.std.proofs.lemmas.Bool.{cases_lt, eqb-true, eq-eqb}
use Rattle.std.proofs.lemmas.List.{length-map, get_or-map, get_or_past}
use Rattle.std.proofs.Math.Pow.{pow_pos}
use Rattle.std.specs.List.{insert}
use Rattle.fort_theory.specs.Trees.{Tree}
use Rattle.fort_tables.specs.Tuples.{Tuple, TupleSymbol, all_absent, presence, IsTuple, IsTupleSymbol, arity, symbol_kids, FitsKid, kid_presence}
use Rattle.fort_tables.specs.Entries.{Entry, entry}
use Rattle.fort_tables.specs.Tables.{Table, IsTableEntry, IsTable, IsReached}
use Rattle.fort_tables.specs.Labels.{first_word}
use Rattle.fort_tables.specs.BitRows.{words_for}
use Rattle.fort_tables.proofs.TupleLaws.{fits_presence}
use Rattle.fort_tables.proofs.InsertLaws.{length-all_absent, AreGroundColumns-all_absent}
use Rattle.fort_tables.proofs.InsertSymbolLaws.{symbol_kids-insert_some, symbol_kids-insert_none, IsTupleSymbol-insert_some, IsTupleSymbol-insert_none, FitsKid-insert_some, FitsKid-insert_none, FitsKid-all_absent}
use Rattle.fort_tables.proofs.TableLaws.{IsKidState, IsTableEntry-kid_states}
use Rattle.fort_tables.specs.Projections.{absent_state, has_state, is_pure, IsProjected}
use Rattle.fort_tables.proofs.CompletedTuples.{IsTuple-completed, IsTuple-absent}
use Rattle.fort_tables.proofs.PureLaws.{gives_pure}
use Rattle.fort_tables.proofs.ProjectLabels.{label_exact, may_in_set, may_past, may_absent}
use Rattle.fort_target_lists.specs.LabelLists.{labels_at}
use Rattle.fort_projections.specs.Choices.{IsSearched, AreChoices, may_choose}

-- the label of a child
pub label_at : (labels : List (List ℕ)) (ks : List ℕ) (j : ℕ) → j < length ks → get_or (labels_at labels ks) j [] ≡ get_or labels (get_or ks j 0) []
label_at labels ks j l = get_or-map (λ q. get_or labels q []) ks j 0 [] l

pub length-labels_at : (labels : List (List ℕ)) (ks : List ℕ) → length (labels_at labels ks) ≡ length ks
length-labels_at labels ks = length-map ks (λ q. get_or labels q [])

-- a child's label says what it should of some tuple that stands there
pub record IsKidLabel (body : Table) (c : ℕ) (f : TupleSymbol) (j : ℕ) (w : List ℕ) : Type 0 where
  pub tuple : Tuple
  pub is_tuple : IsTuple body.signature (body.columns - 1) tuple
  pub fits : FitsKid body.signature f j tuple
  pub says : IsProjected body c tuple w

pub kid_within : (body : Table) (c : ℕ) (labels : List (List ℕ)) (e : Entry) → IsSearched body c labels e → (j : ℕ) → j < length e.kids → get_or e.kids j 0 < length labels
kid_within body c labels e s j l = omega (arith, s.over.entry.within j l, length-map labels first_word)

pub kid_label : (body : Table) (c : ℕ) (labels : List (List ℕ)) (e : Entry) → IsTable body → IsReached body → IsSearched body c labels e → (j : ℕ) → j < length e.kids → IsKidLabel body c e.symbol j (get_or labels (get_or e.kids j 0) [])
kid_label body c labels e is reached s j l =
    let q = get_or e.kids j 0 in
    let there = kid_within body c labels e s j l in
    let r = s.over.are q there in
    let says : IsProjected body c r.0 (get_or labels q []) = subst (IsProjected body c r.0) r.2 (label_exact body c is reached s.column r.0 r.1) in
    let p : presence r.0 ≡ kid_presence body.signature e.symbol j = sym says.first ∙ (sym (get_or-map first_word labels q [] 0 there) ∙ s.over.entry.presence j l) in
    record {
      tuple = r.0;
      is_tuple = r.1;
      fits = fits_presence body.signature e.symbol j r.0 (r.1.width ∙ sym s.over.entry.symbol.width) p;
      says = says;
    }

-- a pure state is there
pub pure_small : (body : Table) (c k : ℕ) → is_pure body c k ≡ true → k < length body.presences
pure_small body c k p =
    ⊎_elim (λ (l : k < length body.presences). l)
    (λ (l : length body.presences ≤ k). absurd (omega (arith, pow_pos c, eqb-true (get_or body.presences k 0) (2 ^ c) p, get_or_past body.presences k 0 l)))
    (cases_lt k (length body.presences))

-- how many children stand under a symbol in the column
pub choices_count : (body : Table) (c : ℕ) (alone : List ℕ) (labels : List (List ℕ)) (e : Entry) (g : ℕ) (f : TupleSymbol) (most : ℕ) → AreChoices body c alone labels e g f most → symbol_kids body.signature f ≡ max most (length e.kids)
choices_count body c alone labels e g f most h =
    omega (arith, ap (symbol_kids body.signature) h.symbol, symbol_kids-insert_some body.signature e.symbol c g, h.arity_is, h.searched.over.entry.count)

-- a state that may be chosen, with what it is the state of
pub choice_state : (body : Table) (c : ℕ) (alone : List ℕ) (labels : List (List ℕ)) (e : Entry) (g : ℕ) (f : TupleSymbol) (most : ℕ) → IsTable body → IsReached body → AreChoices body c alone labels e g f most
    → (j k : ℕ) → j < symbol_kids body.signature f → may_choose body c labels e most j k ≡ true → IsKidState body f j k
choice_state body c alone labels e g f most is reached h j k l o =
    let sig = body.signature in
    let ws = labels_at labels e.kids in
    let lw = length-labels_at labels e.kids in
    let n = body.columns - 1 in
    let low = h.searched.column in
    let count = choices_count body c alone labels e g f most h in
    let F : Tuple → Type 0 = λ t. FitsKid sig f j t in
    let under : (x : _) (t : Tuple) → FitsKid sig (insert e.symbol c (Some g)) j (insert t c x) → F (insert t c x) =
    λ x t m. subst (λ (z : TupleSymbol). FitsKid sig z j (insert t c x)) (sym h.symbol) m in
    ⊎_elim
    (λ (a : j < most).
    let b : j < arity sig g = omega (arith, a, h.arity_is) in
    ⊎_elim
    (λ (m : j < length e.kids).
    let r = kid_label body c labels e is reached h.searched j m in
    let y = (r.says.given k).0 (ap (λ w. has_state w k) (sym (label_at labels e.kids j m)) ∙ (sym (may_in_set body c most ws j k a (omega arith)) ∙ o)) in
    record {
      tuple = insert r.tuple c (Some y.0);
      is_tuple = IsTuple-completed body c r.tuple y.0 low y.1 r.is_tuple.width r.is_tuple.grounded;
      fits = under (Some y.0) r.tuple (FitsKid-insert_some sig e.symbol c g j (Some y.0) r.tuple b r.fits);
      state = y.2;
    })
    (λ (m : length e.kids ≤ j).
    let p = sym (may_past body c most ws j k a (omega arith)) ∙ o in
    let y = (gives_pure body c is reached low k).1 (pure_small body c k p, eqb-true (get_or body.presences k 0) (2 ^ c) p) in
    let past : FitsKid sig e.symbol j (all_absent n) = subst (λ (i : ℕ). FitsKid sig e.symbol j (all_absent i)) h.searched.over.entry.symbol.width (FitsKid-all_absent sig e.symbol j (omega (arith, h.searched.over.entry.count))) in
    record {
      tuple = insert (all_absent n) c (Some y.0);
      is_tuple = IsTuple-completed body c (all_absent n) y.0 low y.1 (length-all_absent Tree n) (AreGroundColumns-all_absent sig n);
      fits = under (Some y.0) (all_absent n) (FitsKid-insert_some sig e.symbol c g j (Some y.0) (all_absent n) b past);
      state = y.2;
    })
    (cases_lt j (length e.kids)))
    (λ (a : most ≤ j).
    let m : j < length e.kids = omega (arith, count) in
    let b : arity sig g ≤ j = omega (arith, a, h.arity_is) in
    let r = kid_label body c labels e is reached h.searched j m in
    let p = eqb-true (absent_state (get_or ws j [])) k (sym (may_absent body c most ws j k a) ∙ o) in
    record {
      tuple = insert r.tuple c None;
      is_tuple = IsTuple-absent body c r.tuple low r.is_tuple;
      fits = under None r.tuple (FitsKid-insert_some sig e.symbol c g j None r.tuple b r.fits);
      state = sym r.says.absent ∙ (ap absent_state (sym (label_at labels e.kids j m)) ∙ p);
    })
    (cases_lt j most)

-- the tuple symbol with a symbol in the column
pub choices_symbol : (body : Table) (c : ℕ) (alone : List ℕ) (labels : List (List ℕ)) (e : Entry) (g : ℕ) (f : TupleSymbol) (most : ℕ) → AreChoices body c alone labels e g f most → IsTupleSymbol body.signature body.columns f
choices_symbol body c alone labels e g f most h =
    let low = h.searched.column in
    let w : suc (body.columns - 1) ≡ body.columns = omega (arith, low) in
    subst (IsTupleSymbol body.signature body.columns) (sym h.symbol) (subst (λ (n : ℕ). IsTupleSymbol body.signature n (insert e.symbol c (Some g))) w (IsTupleSymbol-insert_some body.signature (body.columns - 1) e.symbol c g (omega (arith, low)) h.within h.searched.over.entry.symbol))

-- the entry under a constant in the column, over the children's states with the column absent
pub entry_under_constant : (body : Table) (c : ℕ) (alone : List ℕ) (labels : List (List ℕ)) (e : Entry) (g : ℕ) (f : TupleSymbol) (most : ℕ) → IsTable body → IsReached body → AreChoices body c alone labels e g f most → most ≡ 0
    → IsTableEntry body (entry f (map absent_state (labels_at labels e.kids)))
entry_under_constant body c alone labels e g f most is reached h none =
    let ws = labels_at labels e.kids in
    let ks = map absent_state ws in
    let lw = length-labels_at labels e.kids in
    let ls : length ks ≡ length ws = length-map ws absent_state in
    let count = choices_count body c alone labels e g f most h in
    IsTableEntry-kid_states body (entry f ks) is (choices_symbol body c alone labels e g f most h) (omega arith)
    (λ j l.
    let at : absent_state (get_or ws j []) ≡ get_or ks j 0 = sym (get_or-map absent_state ws j [] 0 (omega arith)) in
    choice_state body c alone labels e g f most is reached h j (get_or ks j 0) (omega arith)
    (may_absent body c most ws j (get_or ks j 0) (omega arith) ∙ eq-eqb (absent_state (get_or ws j [])) (get_or ks j 0) at))

-- Result: the entry of the tuple with the column absent
pub absent_entry : (body : Table) (c : ℕ) (labels : List (List ℕ)) (e : Entry) → IsTable body → IsReached body → IsSearched body c labels e → IsTableEntry body (entry (insert e.symbol c None) (map absent_state (labels_at labels e.kids)))
absent_entry body c labels e is reached s =
    let sig = body.signature in
    let ws = labels_at labels e.kids in
    let lw = length-labels_at labels e.kids in
    let ls : length (map absent_state ws) ≡ length ws = length-map ws absent_state in
    let w : suc (body.columns - 1) ≡ body.columns = omega (arith, s.column) in
    IsTableEntry-kid_states body (entry (insert e.symbol c None) (map absent_state ws)) is
    (subst (λ (n : ℕ). IsTupleSymbol sig n (insert e.symbol c None)) w (IsTupleSymbol-insert_none sig (body.columns - 1) e.symbol c (omega (arith, s.column)) s.over.entry.symbol))
    (ls ∙ (lw ∙ (s.over.entry.count ∙ sym (symbol_kids-insert_none sig e.symbol c))))
    (λ j l.
    let m : j < length e.kids = omega arith in
    let r = kid_label body c labels e is reached s j m in
    record {
      tuple = insert r.tuple c None;
      is_tuple = IsTuple-absent body c r.tuple s.column r.is_tuple;
      fits = FitsKid-insert_none sig e.symbol c j r.tuple r.fits;
      state = sym r.says.absent ∙ sym (get_or-map absent_state ws j [] 0 (omega arith) ∙ ap absent_state (label_at labels e.kids j m));
    })

-- a child's label is as wide as it should be
pub kid_label_width : (body : Table) (c : ℕ) (labels : List (List ℕ)) (e : Entry) → IsTable body → IsReached body → IsSearched body c labels e → (j : ℕ) → j < length e.kids → length (get_or labels (get_or e.kids j 0) []) ≡ words_for (length body.presences) + 2
kid_label_width body c labels e is reached s j l = (kid_label body c labels e is reached s j l).says.width

-- a child's state with the column absent is one of the body, where an entry of the body has it
pub absent_state_small : (body : Table) (f : TupleSymbol) (labels : List (List ℕ)) (ks : List ℕ) → IsTableEntry body (entry f (map absent_state (labels_at labels ks))) → (j : ℕ) → j < length ks → absent_state (get_or labels (get_or ks j 0) []) < length body.presences
absent_state_small body f labels ks h j l =
    let ws = labels_at labels ks in
    let lw = length-labels_at labels ks in
    let ls : length (map absent_state ws) ≡ length ws = length-map ws absent_state in
    omega (arith, h.within j (omega arith), get_or-map absent_state ws j [] 0 (omega arith), ap absent_state (label_at labels ks j l))
