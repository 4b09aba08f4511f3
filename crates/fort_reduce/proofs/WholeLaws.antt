-- Entries that lead to the class to which they lead with their children's leaders: what one visit, all entries of a tuple symbol and a pass show.
use Rattle.std.proofs.Common.{◌≡◌, ℕ, zero, suc, ◌+◌, ◌^◌, ◌<◌, ◌≤◌, List, [], ◌∷◌, ◌++◌, map, set, take, length, get_or, None, false, IsFalse, refl, ap, sym, ◌∙◌, arith, subst, ⊎_elim, true≢false}
use Rattle.std.proofs.lemmas.Bool.{cases_lt}
use Rattle.std.proofs.lemmas.List.{append-nil, append_assoc, length-take, length-map, get_or-map, ext_get_or, length-set, get_or-set_same, get_or-set_other, length_push, get_or_push, get_or_append_left}
use Rattle.fort_tables.specs.Tuples.{TupleSymbol, IsTupleSymbol, symbol_kids, kid_presence}
use Rattle.fort_tables.specs.Entries.{Entry, entry}
use Rattle.fort_tables.specs.Tables.{Table, Listed, listed_table, IsListed, IsTable, IsTableEntry, IsFirstWith}
use Rattle.fort_tables.specs.Selections.{is_present}
use Rattle.fort_tables.proofs.SelectionLaws.{test_from_present}
use Rattle.fort_tuple_symbols.specs.SymbolNumbers.{columns_at}
use Rattle.fort_target_lists.specs.Places.{number_of}
use Rattle.fort_target_lists.specs.TargetLists.{IsTargetListOf}
use Rattle.fort_target_lists.specs.declared.target_list.TargetList.{TargetList}
use Rattle.fort_target_lists.proofs.LookUpLaws.{made_without}
use Rattle.fort_target_lists.proofs.SymbolNumbers.{columns_again, number_below}
use Rattle.fort_tables.specs.Separation.{entry_with}
use Rattle.fort_tables.specs.Merges.{class_of, leader, led, IsCoarsest}
use Rattle.fort_tables.specs.Refinement.{leader_in, IsRefined, PassesAt, IsRenumbered}
use Rattle.fort_tables.proofs.NumberedClasses.{leader_within, class_of-leader}
use Rattle.fort_tables.proofs.RefinementLaws.{leader_stands, entry_own}
use Rattle.fort_reduce.specs.Walks.{IsWalked, led_in, IsWholeIn, AreWholeUnder, AreWholeBelow, MayBegin}
use Rattle.fort_reduce.proofs.FirstLists.{taken_front}
use Rattle.fort_reduce.proofs.PassLaws.{walk_on, walk_weaker, walk_kept}

-- the entry over leaders, in a buffer
pub led_is : (o l : List ℕ) (f : TupleSymbol) (ks buffer : List ℕ) → length ks ≤ length buffer → ((j : ℕ) → j < length ks → get_or buffer j 0 ≡ leader_in o l (get_or ks j 0))
    → entry f (take (length ks) buffer) ≡ led_in o l (entry f ks)
led_is o l f ks buffer room are = ap (entry f) (taken_front buffer ks (leader_in o l) room are)

pub whole_own : (table : Table) (o l : List ℕ) (f : TupleSymbol) (ks : List ℕ) → ((j : ℕ) → j < length ks → leader_in o l (get_or ks j 0) ≡ get_or ks j 0) → IsWholeIn table o l (entry f ks)
whole_own table o l f ks own =
    let same : map (leader_in o l) ks ≡ ks = ext_get_or 0 (map (leader_in o l) ks) ks (length-map ks (leader_in o l))
    (λ j b. let k : j < length ks = omega (arith, length-map ks (leader_in o l)) in get_or-map (leader_in o l) ks j 0 0 k ∙ own j k) in
    ap (λ (xs : List ℕ). class_of o (table.target (entry f xs))) (sym same)

module _ (table : Table) (o l : List ℕ) (is : IsTable table) (r : IsRefined table o l) where
  pub IsTableEntry-led_in : (e : Entry) → IsTableEntry table e → IsTableEntry table (led_in o l e)
  IsTableEntry-led_in e h =
      let count : length (led_in o l e).kids ≡ length e.kids = length-map e.kids (leader_in o l) in
      let at : (j : ℕ) → j < length e.kids → get_or (led_in o l e).kids j 0 ≡ leader_in o l (get_or e.kids j 0) = λ j b. get_or-map (leader_in o l) e.kids j 0 0 b in
      record {
        symbol = h.symbol;
        count = count ∙ h.count;
        within = λ j m. let b : j < length e.kids = omega (arith, count) in
            let q = get_or e.kids j 0 in
            let w : q < length o = omega (arith, r.count, h.within j b) in
            omega (arith, at j b, r.count, r.led_within (class_of o q) (r.within q w));
        presence = λ j m. let b : j < length e.kids = omega (arith, count) in
            let q = get_or e.kids j 0 in
            let w : q < length o = omega (arith, r.count, h.within j b) in
            ap (λ s. get_or table.presences s 0) (at j b) ∙ (sym (r.columns q w) ∙ h.presence j b);
      }

  -- Result: where all entries are whole, the classes are the coarsest
  pub coarsest_whole : (new : List ℕ) → ((e : Entry) → IsTableEntry table e → IsWholeIn table o l e) → IsRenumbered o new → IsCoarsest table new
  coarsest_whole new whole renumbered =
      let low : (q : ℕ) → q < length new → q < length o = λ q b. omega (arith, renumbered.count) in
      let together : (q : ℕ) → q < length new → class_of o q ≡ class_of o (leader new q) =
      λ q b. renumbered.back q (leader new q) (low q b) (low (leader new q) (leader_within new q b)) (sym (class_of-leader new q b)) in
      let same_columns : (q : ℕ) → q < length new → get_or table.presences q 0 ≡ get_or table.presences (leader new q) 0 =
      λ q b. r.columns q (low q b) ∙ (ap (λ c. get_or table.presences (get_or l c 0) 0) (together q b) ∙ sym (r.columns (leader new q) (low (leader new q) (leader_within new q b)))) in
      let led_entry : (e : Entry) → IsTableEntry table e → IsTableEntry table (led new e) =
      λ e h. (
      let count : length (led new e).kids ≡ length e.kids = length-map e.kids (leader new) in
      let at : (j : ℕ) → j < length e.kids → get_or (led new e).kids j 0 ≡ leader new (get_or e.kids j 0) = λ j b. get_or-map (leader new) e.kids j 0 0 b in
      record {
        symbol = h.symbol;
        count = count ∙ h.count;
        within = λ j m. let b : j < length e.kids = omega (arith, count) in
            omega (arith, at j b, renumbered.count, r.count, leader_within new (get_or e.kids j 0) (omega (arith, renumbered.count, r.count, h.within j b)));
        presence = λ j m. let b : j < length e.kids = omega (arith, count) in
            let q = get_or e.kids j 0 in
            let w : q < length new = omega (arith, renumbered.count, r.count, h.within j b) in
            ap (λ s. get_or table.presences s 0) (at j b) ∙ (sym (same_columns q w) ∙ h.presence j b);
      }) in
      record {
        merge = record {
          count = renumbered.count ∙ r.count;
          numbered = renumbered.numbered;
          columns = same_columns;
          acceptance = λ q b. r.acceptance q (low q b) ∙ (ap (λ c. table.accepting (get_or l c 0)) (together q b) ∙ sym (r.acceptance (leader new q) (low (leader new q) (leader_within new q b))));
          whole = λ e h.
              let i = led_entry e h in
              let same : map (leader_in o l) (map (leader new) e.kids) ≡ map (leader_in o l) e.kids =
              ext_get_or 0 (map (leader_in o l) (map (leader new) e.kids)) (map (leader_in o l) e.kids)
              (length-map (map (leader new) e.kids) (leader_in o l) ∙ (length-map e.kids (leader new) ∙ sym (length-map e.kids (leader_in o l))))
              (λ j m.
              let b : j < length e.kids = omega (arith, length-map (map (leader new) e.kids) (leader_in o l), length-map e.kids (leader new)) in
              let q = get_or e.kids j 0 in
              let w : q < length new = omega (arith, renumbered.count, r.count, h.within j b) in
              get_or-map (leader_in o l) (map (leader new) e.kids) j 0 0 (omega (arith, length-map e.kids (leader new)))
              ∙ (ap (leader_in o l) (get_or-map (leader new) e.kids j 0 0 b)
              ∙ (ap (λ c. get_or l c 0) (sym (together q w)) ∙ sym (get_or-map (leader_in o l) e.kids j 0 0 b)))) in
              let joined : class_of o (table.target e) ≡ class_of o (table.target (led new e)) =
              whole e h ∙ (ap (λ (xs : List ℕ). class_of o (table.target (entry e.symbol xs))) (sym same) ∙ sym (whole (led new e) i)) in
              renumbered.forth (table.target e) (table.target (led new e)) (omega (arith, r.count, is.within e h)) (omega (arith, r.count, is.within (led new e) i)) joined;
        };
        apart = λ p q bp bq n. r.apart p q (low p bp) (low q bq) (λ e. n (renumbered.forth p q (low p bp) (low q bq) e));
      }

  -- ---- children, one after another
  pub record IsChained (f : TupleSymbol) (ks : List ℕ) (j : ℕ) (row : Entry) : Type 0 where
    pub symbol : row.symbol ≡ f
    pub count : length row.kids ≡ length ks
    pub done : (i : ℕ) → i < j → i < length ks → get_or row.kids i 0 ≡ leader_in o l (get_or ks i 0)
    pub rest : (i : ℕ) → j ≤ i → i < length ks → get_or row.kids i 0 ≡ get_or ks i 0
    pub is_entry : IsTableEntry table row
    pub same : class_of o (table.target row) ≡ class_of o (table.target (entry f ks))

  pub chained_none : (f : TupleSymbol) (ks : List ℕ) (row : Entry) → IsTableEntry table (entry f ks) → row.symbol ≡ f → row.kids ≡ ks → IsChained f ks 0 row
  chained_none f ks row h a b =
      let own : row ≡ entry f ks = ap (λ g. entry g row.kids) a ∙ ap (entry f) b in
      record {
        symbol = a;
        count = ap (λ (xs : List ℕ). length xs) b;
        done = λ i m k. absurd (omega arith);
        rest = λ i m k. ap (λ (xs : List ℕ). get_or xs i 0) b;
        is_entry = subst (IsTableEntry table) (sym own) h;
        same = ap (λ (e : Entry). class_of o (table.target e)) own;
      }

  pub chained_more : (f : TupleSymbol) (ks : List ℕ) (j : ℕ) (row new : Entry) (lead : ℕ) → IsChained f ks j row → j < length ks → PassesAt table o l row j → lead ≡ leader_in o l (get_or ks j 0)
      → new ≡ entry row.symbol (set row.kids j lead) → IsChained f ks (j + 1) new
  chained_more f ks j row new lead h low passes lead_is new_is =
      let there : j < length row.kids = omega (arith, h.count) in
      let own : get_or row.kids j 0 ≡ get_or ks j 0 = h.rest j (omega arith) low in
      let p = get_or row.kids j 0 in
      let p_low : p < length o = omega (arith, r.count, h.is_entry.within j there) in
      let stands : IsTableEntry table (entry_with row.symbol row.kids j p) = subst (IsTableEntry table) (sym (entry_own row j)) h.is_entry in
      let led_stands = leader_stands table o l row.symbol row.kids j p is r there p_low stands in
      let lead_own : lead ≡ leader_in o l p = lead_is ∙ ap (leader_in o l) (sym own) in
      let now : new ≡ entry_with row.symbol row.kids j (leader_in o l p) = new_is ∙ ap (entry_with row.symbol row.kids j) lead_own in
      let kids : new.kids ≡ set row.kids j lead = ap (λ (e : Entry). e.kids) new_is in
      record {
        symbol = ap (λ (e : Entry). e.symbol) new_is ∙ h.symbol;
        count = ap (λ (xs : List ℕ). length xs) kids ∙ (length-set row.kids j lead ∙ h.count);
        done = λ i m k. ap (λ (xs : List ℕ). get_or xs i 0) kids ∙ ⊎_elim
            (λ b. get_or-set_other row.kids j i lead 0 (λ s. omega arith) ∙ h.done i b k)
            (λ b. let s : j ≡ i = omega arith in
            subst (λ n. get_or (set row.kids j lead) n 0 ≡ leader_in o l (get_or ks n 0)) s (get_or-set_same row.kids j lead 0 there ∙ lead_is))
            (cases_lt i j);
        rest = λ i m k. ap (λ (xs : List ℕ). get_or xs i 0) kids ∙ (get_or-set_other row.kids j i lead 0 (λ s. omega arith) ∙ h.rest i (omega arith) k);
        is_entry = subst (IsTableEntry table) (sym now) led_stands;
        same = ap (λ (e : Entry). class_of o (table.target e)) now ∙ (sym passes.same ∙ h.same);
      }

  pub chained_all : (f : TupleSymbol) (ks : List ℕ) (j : ℕ) (row : Entry) → length ks ≤ j → IsChained f ks j row → IsWholeIn table o l (entry f ks)
  chained_all f ks j row b h =
      let kids : row.kids ≡ map (leader_in o l) ks = ext_get_or 0 row.kids (map (leader_in o l) ks) (h.count ∙ sym (length-map ks (leader_in o l)))
      (λ i k. let low : i < length ks = omega (arith, h.count) in h.done i (omega arith) low ∙ sym (get_or-map (leader_in o l) ks i 0 0 low)) in
      let now : row ≡ led_in o l (entry f ks) = ap (λ g. entry g row.kids) h.symbol ∙ ap (entry f) kids in
      sym h.same ∙ ap (λ (e : Entry). class_of o (table.target e)) now

-- ---- the entries of a tuple symbol
abbrev pub AreWholeTo : Table → List ℕ → List ℕ → TupleSymbol → List ℕ → ℕ → ℕ → Type 0
AreWholeTo table o l f before n q = (k : ℕ) → k < q → AreWholeUnder table o l f (before ++ k ∷ []) n

pub whole_to_none : (table : Table) (o l : List ℕ) (f : TupleSymbol) (before : List ℕ) (n : ℕ) → IsWalked (AreWholeTo table o l f before n 0) o l o l
whole_to_none table o l f before n = walk_kept (AreWholeTo table o l f before n 0) o l (λ k b. absurd (omega arith))

to_next_whole : (table : Table) (o l : List ℕ) (f : TupleSymbol) (before : List ℕ) (n q : ℕ) → AreWholeTo table o l f before n q → AreWholeUnder table o l f (before ++ q ∷ []) n → AreWholeTo table o l f before n (q + 1)
to_next_whole table o l f before n q p u k b = ⊎_elim (λ low. p k low) (λ high. let s : q ≡ k = omega arith in subst (λ i. AreWholeUnder table o l f (before ++ i ∷ []) n) s u) (cases_lt k q)

pub whole_to_more : (table : Table) (o l o1 l1 o2 l2 : List ℕ) (f : TupleSymbol) (before : List ℕ) (n q : ℕ) → IsWalked (AreWholeTo table o l f before n q) o l o1 l1
    → IsWalked (AreWholeUnder table o1 l1 f (before ++ q ∷ []) n) o1 l1 o2 l2 → IsWalked (AreWholeTo table o l f before n (q + 1)) o l o2 l2
whole_to_more table o l o1 l1 o2 l2 f before n q =
    walk_on (AreWholeTo table o l f before n q) (AreWholeTo table o l f before n (q + 1)) (λ x y. AreWholeUnder table x y f (before ++ q ∷ []) n) o l o1 l1 o2 l2 (to_next_whole table o l f before n q)

get_middle : (pre : List ℕ) (k : ℕ) (ks : List ℕ) → get_or (pre ++ k ∷ ks) (length pre) 0 ≡ k
get_middle [] k ks = refl
get_middle (x ∷ pre) k ks = get_middle pre k ks

middle_there : (pre : List ℕ) (k : ℕ) (ks : List ℕ) → length pre < length (pre ++ k ∷ ks)
middle_there [] k ks = omega arith
middle_there (x ∷ pre) k ks = omega (arith, middle_there pre k ks)

pub whole_to_skip : (table : Table) (o l o1 l1 : List ℕ) (f : TupleSymbol) (before : List ℕ) (n q : ℕ) → (get_or table.presences q 0 ≡ kid_presence table.signature f (length before) → ⊥)
    → IsWalked (AreWholeTo table o l f before n q) o l o1 l1 → IsWalked (AreWholeTo table o l f before n (q + 1)) o l o1 l1
whole_to_skip table o l o1 l1 f before n q other =
    walk_weaker (AreWholeTo table o l f before n q) (AreWholeTo table o l f before n (q + 1)) o l o1 l1
    (λ p. to_next_whole table o l f before n q p
    (λ ks e h.
    let h2 : IsTableEntry table (entry f (before ++ q ∷ ks)) = subst (λ (xs : List ℕ). IsTableEntry table (entry f xs)) (append_assoc before (q ∷ []) ks) h in
    absurd (other (ap (λ i. get_or table.presences i 0) (sym (get_middle before q ks)) ∙ h2.presence (length before) (middle_there before q ks)))))

pub whole_to_all : (table : Table) (o l o1 l1 : List ℕ) (f : TupleSymbol) (before : List ℕ) (n rest q : ℕ) → n + 1 ≡ rest → length table.presences ≤ q
    → IsWalked (AreWholeTo table o l f before n q) o l o1 l1 → IsWalked (AreWholeUnder table o l f before rest) o l o1 l1
whole_to_all table o l o1 l1 f before n rest q e b =
    walk_weaker (AreWholeTo table o l f before n q) (AreWholeUnder table o l f before rest) o l o1 l1 (λ p ks s h. by p ks s h)
  where
    by : AreWholeTo table o l f before n q → (ks : List ℕ) → length ks ≡ rest → IsTableEntry table (entry f (before ++ ks)) → IsWholeIn table o l (entry f (before ++ ks))
    by p [] s h = absurd (omega arith)
    by p (k ∷ ks) s h =
        let low : k < length table.presences = omega (arith, get_middle before k ks, h.within (length before) (middle_there before k ks)) in
        let same : (before ++ k ∷ []) ++ ks ≡ before ++ k ∷ ks = append_assoc before (k ∷ []) ks in
        subst (λ (xs : List ℕ). IsWholeIn table o l (entry f xs)) same
        (p k (omega arith) ks (omega arith) (subst (λ (xs : List ℕ). IsTableEntry table (entry f xs)) (sym same) h))

pub whole_under_one : (table : Table) (o l : List ℕ) (f : TupleSymbol) (before : List ℕ) → IsWholeIn table o l (entry f before) → AreWholeUnder table o l f before 0
whole_under_one table o l f before w [] e h = subst (λ (xs : List ℕ). IsWholeIn table o l (entry f xs)) (sym (append-nil before)) w
whole_under_one table o l f before w (k ∷ ks) e h = absurd (omega arith)

pub whole_under_absent : (table : Table) (o l : List ℕ) (f : TupleSymbol) (n : ℕ) → is_present f ≡ false → AreWholeUnder table o l f [] n
whole_under_absent table o l f n absent ks e h = absurd (true≢false (sym (test_from_present f h.symbol.present) ∙ absent))

-- children that may begin, one more
pub begins_more : (table : Table) (f : TupleSymbol) (before : List ℕ) (q : ℕ) → MayBegin table f before → q < length table.presences → get_or table.presences q 0 ≡ kid_presence table.signature f (length before)
    → MayBegin table f (before ++ q ∷ [])
begins_more table f before q h low fits i b = ⊎_elim
    (λ m. let at : get_or (before ++ q ∷ []) i 0 ≡ get_or before i 0 = get_or_append_left before (q ∷ []) 0 i m in
    (omega (arith, at, (h i m).0), ap (λ s. get_or table.presences s 0) at ∙ (h i m).1))
    (λ m. let s : length before ≡ i = omega (arith, length_push before q) in
    let at : get_or (before ++ q ∷ []) i 0 ≡ q = get_or_push before q 0 i s in
    (omega (arith, at), ap (λ s. get_or table.presences s 0) at ∙ (fits ∙ ap (kid_presence table.signature f) s)))
    (cases_lt i (length before))

pub entry_begun : (table : Table) (f : TupleSymbol) (ks : List ℕ) → IsTupleSymbol table.signature table.columns f → length ks ≡ symbol_kids table.signature f → MayBegin table f ks → IsTableEntry table (entry f ks)
entry_begun table f ks symbol count h = record { symbol = symbol; count = count; within = λ j b. (h j b).0; presence = λ j b. (h j b).1 }

-- ---- tuple symbol by tuple symbol
pub whole_below_none : (table : Table) (o l : List ℕ) (base : ℕ) → IsWalked (AreWholeBelow table o l base 0) o l o l
whole_below_none table o l base = walk_kept (AreWholeBelow table o l base 0) o l (λ e h b. absurd (omega arith))

pub whole_below_more : (table : Table) (o l o1 l1 o2 l2 : List ℕ) (base n : ℕ) (f : TupleSymbol) → base ≡ suc (length table.signature) → f ≡ columns_at base table.columns n
    → IsWalked (AreWholeBelow table o l base n) o l o1 l1 → IsWalked (AreWholeUnder table o1 l1 f [] (symbol_kids table.signature f)) o1 l1 o2 l2 → IsWalked (AreWholeBelow table o l base (n + 1)) o l o2 l2
whole_below_more table o l o1 l1 o2 l2 base n f b is =
    walk_on (AreWholeBelow table o l base n) (AreWholeBelow table o l base (n + 1)) (λ x y. AreWholeUnder table x y f [] (symbol_kids table.signature f)) o l o1 l1 o2 l2
    (λ p u e h m. ⊎_elim
    (λ low. p e h low)
    (λ high.
    let s : number_of base e.symbol ≡ n = omega arith in
    let own : e.symbol ≡ f =
    sym (columns_again table.signature base e.symbol b h.symbol.symbols)
    ∙ (ap (λ c. columns_at base c (number_of base e.symbol)) h.symbol.width ∙ (ap (columns_at base table.columns) s ∙ sym is)) in
    let now : e ≡ entry f e.kids = ap (λ g. entry g e.kids) own in
    subst (IsWholeIn table o l) (sym now) (u e.kids (h.count ∙ ap (symbol_kids table.signature) own) (subst (IsTableEntry table) now h)))
    (cases_lt (number_of base e.symbol) n))

pub whole_below_all : (table : Table) (o l o1 l1 : List ℕ) (base n : ℕ) → base ≡ suc (length table.signature) → base ^ table.columns ≤ n → IsWalked (AreWholeBelow table o l base n) o l o1 l1
    → IsWalked ((e : Entry) → IsTableEntry table e → IsWholeIn table o l e) o l o1 l1
whole_below_all table o l o1 l1 base n b m =
    walk_weaker (AreWholeBelow table o l base n) ((e : Entry) → IsTableEntry table e → IsWholeIn table o l e) o l o1 l1
    (λ p e h. p e h (omega (arith, number_below table.signature base e.symbol b h.symbol.symbols, ap (λ c. base ^ c) h.symbol.width)))

-- ---- first entries
pub first_is_entry : (t : Listed) → IsListed t → (q : ℕ) (e : Entry) → IsFirstWith t.entries t.targets q e → IsTableEntry (listed_table t) e
first_is_entry t is q e f = subst (IsTableEntry (listed_table t)) (f.is e) (is.order.are f.place e (omega (arith, f.within, is.count)))

-- a table whose list isn't made has no states
no_states : (t : Listed) (l : TargetList) → IsListed t → IsTargetListOf (listed_table t) l → l.by_classes ≡ None → IsFalse l.is_made → length t.presences ≡ 0
no_states t l is h all none =
    ⊎_elim
    (λ (some : 0 < length t.presences).
    let first = is.numbered 0 some in
    absurd (true≢false (sym (made_without (listed_table t) l first.0 h (first_is_entry t is 0 first.0 first.1) all) ∙ none)))
    (λ (few : length t.presences ≤ 0). omega arith)
    (cases_lt 0 (length t.presences))

-- Result: no classes are the coarsest then
pub coarsest_none : (t : Listed) (l : TargetList) → IsListed t → IsTargetListOf (listed_table t) l → l.by_classes ≡ None → IsFalse l.is_made → IsCoarsest (listed_table t) []
coarsest_none t l is h all none =
    let empty = no_states t l is h all none in
    record {
      merge = record {
        count = sym empty;
        numbered = λ q b. absurd (omega arith);
        columns = λ q b. absurd (omega arith);
        acceptance = λ q b. absurd (omega arith);
        whole = λ e b. absurd (omega (arith, empty, is.table.within e b));
      };
      apart = λ p q b. absurd (omega arith);
    }

-- ---- a buffer of children
set_taken_suc : (xs : List ℕ) (j q : ℕ) → j < length xs → take (suc j) (set xs j q) ≡ take j xs ++ q ∷ []
set_taken_suc [] j q l = absurd (omega arith)
set_taken_suc (x ∷ xs) zero q l = refl
set_taken_suc (x ∷ xs) (suc j) q l = ap (λ r. x ∷ r) (set_taken_suc xs j q (omega arith))

pub set_taken : (xs : List ℕ) (j q : ℕ) → j < length xs → take (j + 1) (set xs j q) ≡ take j xs ++ q ∷ []
set_taken xs j q l = let one : j + 1 ≡ suc j = omega arith in ap (λ n. take n (set xs j q)) one ∙ set_taken_suc xs j q l

pub set_front : (xs : List ℕ) (j q : ℕ) → take j (set xs j q) ≡ take j xs
set_front [] j q = refl
set_front (x ∷ xs) zero q = refl
set_front (x ∷ xs) (suc j) q = ap (λ r. x ∷ r) (set_front xs j q)

front_suc : (xs ys : List ℕ) (j : ℕ) → take (suc j) xs ≡ take (suc j) ys → take j xs ≡ take j ys
front_suc xs ys zero h = refl
front_suc [] [] (suc j) h = refl
front_suc [] (y ∷ ys) (suc j) h = absurd (omega (arith, ap (λ (a : List ℕ). length a) h))
front_suc (x ∷ xs) [] (suc j) h = absurd (omega (arith, ap (λ (a : List ℕ). length a) h))
front_suc (x ∷ xs) (y ∷ ys) (suc j) h =
    let first : x ≡ y = ap (λ (a : List ℕ). get_or a 0 0) h in
    let rest : take j xs ≡ take j ys = front_suc xs ys j (ap tail h) in
    λ i. first i ∷ rest i
  where
    tail : List ℕ → List ℕ
    tail [] = []
    tail (a ∷ as') = as'

pub front_less : (xs ys : List ℕ) (j : ℕ) → take (j + 1) xs ≡ take (j + 1) ys → take j xs ≡ take j ys
front_less xs ys j h = let one : j + 1 ≡ suc j = omega arith in front_suc xs ys j (subst (λ n. take n xs ≡ take n ys) one h)

pub visited_one : (table : Table) (o l o1 l1 o2 l2 : List ℕ) (f : TupleSymbol) (before ks : List ℕ) (n q : ℕ) → n ≡ 0 → ks ≡ before ++ q ∷ [] → IsWalked (AreWholeTo table o l f before n q) o l o1 l1
    → IsWalked (IsWholeIn table o1 l1 (entry f ks)) o1 l1 o2 l2 → IsWalked (AreWholeTo table o l f before n (q + 1)) o l o2 l2
visited_one table o l o1 l1 o2 l2 f before ks n q none is walked one =
    whole_to_more table o l o1 l1 o2 l2 f before n q walked
    (walk_weaker (IsWholeIn table o1 l1 (entry f ks)) (AreWholeUnder table o1 l1 f (before ++ q ∷ []) n) o1 l1 o2 l2
    (λ w. subst (AreWholeUnder table o1 l1 f (before ++ q ∷ [])) (sym none)
    (whole_under_one table o1 l1 f (before ++ q ∷ []) (subst (λ (xs : List ℕ). IsWholeIn table o1 l1 (entry f xs)) is w))) one)

pub visited_rest : (table : Table) (o l o1 l1 o2 l2 : List ℕ) (f : TupleSymbol) (before ks : List ℕ) (n q : ℕ) → ks ≡ before ++ q ∷ [] → IsWalked (AreWholeTo table o l f before n q) o l o1 l1
    → IsWalked (AreWholeUnder table o1 l1 f ks n) o1 l1 o2 l2 → IsWalked (AreWholeTo table o l f before n (q + 1)) o l o2 l2
visited_rest table o l o1 l1 o2 l2 f before ks n q is walked one =
    whole_to_more table o l o1 l1 o2 l2 f before n q walked (subst (λ (xs : List ℕ). IsWalked (AreWholeUnder table o1 l1 f xs n) o1 l1 o2 l2) is one)

pub begun_more : (table : Table) (f : TupleSymbol) (ks0 ks : List ℕ) (j q : ℕ) → take j ks ≡ take j ks0 → j < length ks → j ≤ length ks0 → MayBegin table f (take j ks0) → q < length table.presences
    → get_or table.presences q 0 ≡ kid_presence table.signature f j → MayBegin table f (take (j + 1) (set ks j q))
begun_more table f ks0 ks j q kept low room before there fits =
    let len : length (take j ks0) ≡ j = omega (arith, length-take j ks0) in
    subst (MayBegin table f) (sym (set_taken ks j q low ∙ ap (λ (xs : List ℕ). xs ++ q ∷ []) kept)) (begins_more table f (take j ks0) q before there (fits ∙ ap (kid_presence table.signature f) (sym len)))

pub taken_more : (ks0 ks : List ℕ) (j q : ℕ) → take j ks ≡ take j ks0 → j < length ks → take (j + 1) (set ks j q) ≡ take j ks0 ++ q ∷ []
taken_more ks0 ks j q kept low = set_taken ks j q low ∙ ap (λ (xs : List ℕ). xs ++ q ∷ []) kept

-- an entry of these first children and one more
pub entry_last : (table : Table) (f : TupleSymbol) (ks0 ks : List ℕ) (j q : ℕ) → IsTupleSymbol table.signature table.columns f → symbol_kids table.signature f ≡ j + 1 → take j ks ≡ take j ks0 → j < length ks → j ≤ length ks0
    → MayBegin table f (take j ks0) → q < length table.presences → get_or table.presences q 0 ≡ kid_presence table.signature f j → IsTableEntry table (entry f (take (j + 1) (set ks j q)))
entry_last table f ks0 ks j q symbol count kept low room before there fits =
    let size : length (take (j + 1) (set ks j q)) ≡ symbol_kids table.signature f = omega (arith, count, length-take (j + 1) (set ks j q), length-set ks j q) in
    entry_begun table f (take (j + 1) (set ks j q)) symbol size (begun_more table f ks0 ks j q kept low room before there fits)

pub taken_length : (ks : List ℕ) (j : ℕ) → j ≤ length ks → length (take j ks) ≡ j
taken_length ks j l = omega (arith, length-take j ks)
