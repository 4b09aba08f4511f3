-- Rows of targets by classes: the targets over some first children by the last child's class, and one for each state that may be the last child.
use Rattle.std.proofs.Common.{◌≡◌, ℕ, zero, suc, ◌+◌, ◌<◌, ◌≤◌, List, [], ◌∷◌, ◌++◌, map, take, length, get_or, ◌==◌, if◌then◌else◌, refl, ap, sym, ◌∙◌, arith, subst, ⊎_elim}
use Rattle.std.proofs.Math.Seq.{take-length}
use Rattle.std.proofs.lemmas.Bool.{cases_eq, cases_lt}
use Rattle.std.proofs.lemmas.List.{length-map, get_or-map, length_push, get_or_push, get_or_append_left, ext_get_or, append-nil, take_more}
use Rattle.fort_tables.specs.Tuples.{TupleSymbol, symbol_kids, kid_presence, tabulate}
use Rattle.fort_tables.specs.Entries.{entry}
use Rattle.fort_tables.specs.Tables.{Table, IsTableEntry}
use Rattle.fort_tables.specs.StateRanks.{count_of, rank_in}
use Rattle.fort_tables.specs.Laid.{joined_below}
use Rattle.fort_tables.proofs.EqualTests.{if_equal, if_apart}
use Rattle.fort_tables.proofs.StateRankLaws.{rank_next}
use Rattle.fort_tables.proofs.TupleLaws.{length-tabulate, get_or-tabulate}
use Rattle.fort_classes.specs.Leaders.{MayBeKid}
use Rattle.fort_class_blocks.specs.Blocks.{AreClasses, AreFirstClasses, counts_at, last_count, target_of}
use Rattle.fort_target_lists.specs.Flats.{laid}
use Rattle.fort_target_lists.specs.ToldTables.{AreAllButLast}
use Rattle.fort_target_lists.specs.ClassLists.{view_of, view_at, view_leaders, view_classes, class_at, kid_classes, HasView, IsListAt, IsClassRow}
use Rattle.fort_target_lists.specs.declared.class_list.ClassList.{ClassList}
use Rattle.fort_target_lists.proofs.PlaceLaws.{rank_none, rank_more, rank_whole, rank_below}
use Rattle.fort_target_lists.proofs.ToldLaws.{kids_more}
use Rattle.fort_target_lists.proofs.ClassListLaws.{number_is, count_listed, counts_at_place, classes_first}

-- one value for each state of a presence, up to a state: those whose ranks are below its own
row_upto : (ps : List ℕ) (w : ℕ) (t : ℕ → ℕ) (xs : List ℕ) → length xs ≡ count_of w ps → ((q : ℕ) → q < length ps → get_or ps q 0 ≡ w → get_or xs (rank_in w ps q) 0 ≡ t q) → (n : ℕ) → n ≤ length ps
    → take (rank_in w ps n) xs ≡ joined_below n (λ k. if get_or ps k 0 == w then t k ∷ [] else [])
row_upto ps w t xs size at zero l = ap (λ r. take r xs) (rank_none w ps)
row_upto ps w t xs size at (suc n) l =
    let g : ℕ → List ℕ = λ k. if get_or ps k 0 == w then t k ∷ [] else [] in
    let before = row_upto ps w t xs size at n (omega (arith, l)) in
    let r = rank_in w ps n in
    let low : n < length ps = omega (arith, l) in
    ⊎_elim
    (λ (e : get_or ps n 0 ≡ w).
    let up : rank_in w ps (suc n) ≡ r + 1 = omega (arith, rank_next w ps n low e) in
    let there : r < length xs = omega (arith, rank_below w ps n low e, size) in
    let here : g n ≡ t n ∷ [] = if_equal (get_or ps n 0) w (t n ∷ []) [] e in
    let x = at n low e in
    ap (λ m. take m xs) up ∙ (take_more xs r 0 there ∙ ((λ i. before i ++ x i ∷ []) ∙ ap (λ ys. joined_below n g ++ ys) (sym here))))
    (λ (e : get_or ps n 0 ≡ w → ⊥).
    let up : rank_in w ps (suc n) ≡ r = omega (arith, rank_more w ps n low, if_apart {X = ℕ} (get_or ps n 0) w 1 0 e) in
    let here : g n ≡ [] = if_apart (get_or ps n 0) w (t n ∷ []) [] e in
    ap (λ m. take m xs) up ∙ (before ∙ (sym (append-nil (joined_below n g)) ∙ ap (λ ys. joined_below n g ++ ys) (sym here))))
    (cases_eq (get_or ps n 0) w)

-- Result: one value for each state of a presence, by its rank
pub ranked_row : (ps : List ℕ) (w : ℕ) (t : ℕ → ℕ) (xs : List ℕ) → length xs ≡ count_of w ps → ((q : ℕ) → q < length ps → get_or ps q 0 ≡ w → get_or xs (rank_in w ps q) 0 ≡ t q)
    → xs ≡ joined_below (length ps) (λ k. if get_or ps k 0 == w then t k ∷ [] else [])
ranked_row ps w t xs size at =
    let all : rank_in w ps (length ps) ≡ length xs = rank_whole w ps ∙ sym size in
    sym (ap (λ n. take n xs) all ∙ take-length xs) ∙ row_upto ps w t xs size at (length ps) (omega arith)

-- a state of this rank
pub record HasRank (w : ℕ) (ps : List ℕ) (i : ℕ) : Type 0 where
  pub state : ℕ
  pub within : state < length ps
  pub presence : get_or ps state 0 ≡ w
  pub is : rank_in w ps state ≡ i

-- the same behind a state of this presence
rank_behind : (w p : ℕ) (ps : List ℕ) → p ≡ w → ((k : ℕ) → k < count_of w ps → HasRank w ps k) → (i : ℕ) → i < suc (count_of w ps) → HasRank w (p ∷ ps) i
rank_behind w p ps e others zero l = record { state = 0; within = omega arith; presence = e; is = refl }
rank_behind w p ps e others (suc k) l =
    let r = others k (omega (arith, l)) in
    record { state = suc r.state; within = omega (arith, r.within); presence = r.presence; is = omega (arith, if_equal {X = ℕ} p w 1 0 e, r.is) }

-- Result: each rank below the count is that of a state
pub rank_taken : (w : ℕ) (ps : List ℕ) (i : ℕ) → i < count_of w ps → HasRank w ps i
rank_taken w [] i l = absurd (omega (arith, l))
rank_taken w (p ∷ ps) i l =
    ⊎_elim
    (λ (e : p ≡ w). rank_behind w p ps e (λ k m. rank_taken w ps k m) i (omega (arith, l, if_equal {X = ℕ} p w 1 0 e)))
    (λ (e : p ≡ w → ⊥).
    let none = if_apart {X = ℕ} p w 1 0 e in
    let r = rank_taken w ps i (omega (arith, l, none)) in
    record { state = suc r.state; within = omega (arith, r.within); presence = r.presence; is = omega (arith, none, r.is) })
    (cases_eq p w)

module _ (body : Table) (l : ClassList) (f : TupleSymbol) (n : ℕ) (at : IsListAt body l f n) (ks : List ℕ) (first : AreAllButLast body f ks) where
  pub first_few : length ks ≤ symbol_kids body.signature f
  first_few = omega (arith, first.count)

  -- Result: the last place has a view
  last_view : HasView l f (length ks)
  last_view = at.list.views_are f (length ks) at.symbol (omega (arith, first.count))

  pub last_place : get_or l.starts.items n 0 + length ks < length l.numbers.items
  last_place = subst (λ (i : ℕ). get_or l.starts.items i 0 + length ks < length l.numbers.items) (sym (number_is body l at.list f at.symbol n at.number)) last_view.number

  -- Result: which one
  pub last_view_is : view_of l n (length ks) ≡ view_at l f (length ks)
  last_view_is = ap (λ i. view_of l i (length ks)) (number_is body l at.list f at.symbol n at.number)

  may_be_last : (q : ℕ) → q < length body.presences → get_or body.presences q 0 ≡ kid_presence body.signature f (length ks) → MayBeKid body.signature body.columns body.presences f (length ks) q
  may_be_last q m h = record { symbol = at.symbol; place = omega (arith, first.count); within = m; presence = h }

  first_count : length (kid_classes l (entry f ks)) ≡ length ks
  first_count = length-tabulate (length ks) (λ j. class_at l f j (get_or ks j 0))

  -- Result: the first children's classes are classes of all places but the last
  pub first_classes : (cs : List ℕ) → cs ≡ kid_classes l (entry f ks) → AreFirstClasses (counts_at l.blocks n) cs
  first_classes cs e =
      let own : AreFirstClasses (counts_at l.blocks n) (kid_classes l (entry f ks)) = record {
        places = omega (arith, count_listed body l at.list f at.symbol n at.number, first.count, first_count);
        within = subst (λ (m : ℕ). AreClasses (take m (counts_at l.blocks n)) (kid_classes l (entry f ks))) (sym first_count) (classes_first body l at.list f at.symbol n at.number ks first.first first_few);
      } in
      subst (λ (xs : List ℕ). AreFirstClasses (counts_at l.blocks n) xs) (sym e) own

  -- as many as the last place has
  last_classes : (cs : List ℕ) → cs ≡ kid_classes l (entry f ks) → last_count (counts_at l.blocks n) cs ≡ length (view_leaders l (view_at l f (length ks)))
  last_classes cs e =
      let count : length cs ≡ length ks = ap length e ∙ first_count in
      ap (λ i. get_or (counts_at l.blocks n) i 0) count ∙ counts_at_place body l at.list f at.symbol n at.number (length ks) (omega (arith, first.count))

  module _ (q : ℕ) (may : MayBeKid body.signature body.columns body.presences f (length ks) q) where
    -- the entry with this last child
    row_entry : IsTableEntry body (entry f (ks ++ q ∷ []))
    row_entry =
        let more = kids_more body f ks (length ks) q refl may.within may.presence first.first in
        record { symbol = at.symbol; count = omega (arith, length_push ks q, first.count); within = more.within; presence = more.presence }

    -- its children's classes
    row_classes : kid_classes l (entry f (ks ++ q ∷ [])) ≡ kid_classes l (entry f ks) ++ class_at l f (length ks) q ∷ []
    row_classes =
        let of : ℕ → ℕ = λ j. class_at l f j (get_or ks j 0) in
        let all : ℕ → ℕ = λ j. class_at l f j (get_or (ks ++ q ∷ []) j 0) in
        let c = class_at l f (length ks) q in
        let a : length (tabulate (length (ks ++ q ∷ [])) all) ≡ length ks + 1 = length-tabulate (length (ks ++ q ∷ [])) all ∙ length_push ks q in
        let b : length (tabulate (length ks) of ++ c ∷ []) ≡ length ks + 1 = length_push (tabulate (length ks) of) c ∙ ap (λ i. i + 1) first_count in
        ext_get_or 0 (tabulate (length (ks ++ q ∷ [])) all) (tabulate (length ks) of ++ c ∷ []) (a ∙ sym b)
        (λ j o.
        get_or-tabulate (length (ks ++ q ∷ [])) all j 0 (omega (arith, o, a, length_push ks q))
        ∙ ⊎_elim
        (λ (m : j < length ks). ap (class_at l f j) (get_or_append_left ks (q ∷ []) 0 j m) ∙ (sym (get_or-tabulate (length ks) of j 0 m) ∙ sym (get_or_append_left (tabulate (length ks) of) (c ∷ []) 0 j (omega (arith, m, first_count)))))
        (λ (m : length ks ≤ j). let last : length ks ≡ j = omega (arith, m, o, a) in
        ap (class_at l f j) (get_or_push ks q 0 j last) ∙ (ap (λ i. class_at l f i q) (sym last) ∙ sym (get_or_push (tabulate (length ks) of) c 0 j (first_count ∙ last))))
        (cases_lt j (length ks)))

  -- Result: the row of the block is the row of targets
  pub row_is : (cs row : List ℕ) → cs ≡ kid_classes l (entry f ks) → length row ≡ last_count (counts_at l.blocks n) cs → ((c : ℕ) → c < last_count (counts_at l.blocks n) cs → get_or row c 0 ≡ target_of l.blocks n (cs ++ c ∷ [])) → IsClassRow body l f ks row
  row_is cs row e count targets =
      let low : (q : ℕ) → MayBeKid body.signature body.columns body.presences f (length ks) q → class_at l f (length ks) q < last_count (counts_at l.blocks n) cs =
      λ q may. omega (arith, (at.list.classed f (length ks) q may).class, last_classes cs e) in
      record {
        within = λ q may. omega (arith, low q may, count);
        are = λ q may.
            targets (class_at l f (length ks) q) (low q may)
            ∙ (ap (target_of l.blocks n) ((λ i. e i ++ class_at l f (length ks) q ∷ []) ∙ sym (row_classes q may))
            ∙ (ap (λ i. target_of l.blocks i (kid_classes l (entry f (ks ++ q ∷ [])))) (number_is body l at.list f at.symbol n at.number) ∙ at.list.targets_are (entry f (ks ++ q ∷ [])) (row_entry q may)));
      }

  module _ (row classes : List ℕ) (is : IsClassRow body l f ks row) (own : classes ≡ view_classes l (view_at l f (length ks))) where
    -- a state's class stands at its rank
    class_at_rank : (q : ℕ) → q < length body.presences → get_or body.presences q 0 ≡ kid_presence body.signature f (length ks) → get_or classes (rank_in (kid_presence body.signature f (length ks)) body.presences q) 0 ≡ class_at l f (length ks) q
    class_at_rank q m h =
        let rank : get_or l.ranks.items q 0 ≡ rank_in (kid_presence body.signature f (length ks)) body.presences q = at.list.ranks_are.rank q m ∙ ap (λ w. rank_in w body.presences q) h in
        λ i. get_or (own i) (sym rank i) 0

    classes_count : length classes ≡ count_of (kid_presence body.signature f (length ks)) body.presences
    classes_count = ap length own ∙ at.list.classes_all f (length ks) at.symbol (omega (arith, first.count))

    -- Result: each class has a target in the row
    pub classes_within : (i : ℕ) → i < length classes → get_or classes i 0 < length row
    classes_within i o =
        let r = rank_taken (kid_presence body.signature f (length ks)) body.presences i (omega (arith, o, classes_count)) in
        let class : get_or classes i 0 ≡ class_at l f (length ks) r.state = ap (λ j. get_or classes j 0) (sym r.is) ∙ class_at_rank r.state r.within r.presence in
        omega (arith, class, is.within r.state (may_be_last r.state r.within r.presence))

    -- Result: the classes' targets are those of the states that may be the last child
    pub row_told : map (λ c. get_or row c 0) classes ≡ laid body f ks (length ks) 1
    row_told =
        let of : ℕ → ℕ = λ c. get_or row c 0 in
        let w = kid_presence body.signature f (length ks) in
        ranked_row body.presences w (λ q. body.target (entry f (ks ++ q ∷ []))) (map of classes) (length-map classes of ∙ classes_count)
        (λ q m h.
        get_or-map of classes (rank_in w body.presences q) 0 0 (omega (arith, rank_below w body.presences q m h, classes_count))
        ∙ (ap of (class_at_rank q m h) ∙ is.are q (may_be_last q m h)))
