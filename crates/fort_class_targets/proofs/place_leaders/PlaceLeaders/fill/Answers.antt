use Rattle.std.proofs.Common.{◌≡◌, ℕ, ◌+◌, ◌<◌, List, Option, Some, MatchOption, map, take, length, ap, sym, ◌∙◌, arith, subst}
use Rattle.std.specs.Prelude.{Contains}
use Rattle.std.proofs.lemmas.List.{length-map, length-set}
use Rattle.fort_tables.specs.Tuples.{TupleSymbol}
use Rattle.fort_tables.specs.Entries.{entry}
use Rattle.fort_tables.specs.Tables.{target_in}
use Rattle.fort_tuple_symbols.specs.Columns.{digit_of, symbol_of}
use Rattle.fort_tuple_symbols.proofs.Bounds.{symbol_again}
use Rattle.fort_class_blocks.specs.Blocks.{AreClasses, cell_of, product, counts_at}
use Rattle.fort_class_blocks.proofs.CellLaws.{cell_below}
use Rattle.fort_target_lists.specs.declared.class_list.ClassView.{ClassView}
use Rattle.fort_class_targets.specs.FilledBlocks.{leaders_of, leaders_over}
use Rattle.fort_class_blocks.proofs.CombinationLaws.{reached, IsCombination, next_is, next_reached}
use Rattle.fort_class_targets.proofs.FillLaws.{places_count, value_of}
use Rattle.fort_class_blocks.proofs.FillingLaws.{IsFilledTo, fill_more, filled_all, keeps_more}
use Rattle.fort_class_targets.proofs.place_leaders.PlaceLeaders.fill.Goals as goal

-- the combination in the room
combination : (vs : List ClassView) (ns room : List ℕ) (next : Option (List ℕ)) → IsCombination (map (length {A = ℕ}) (leaders_of vs ns)) next → next ≡ Some room → AreClasses (map (length {A = ℕ}) (leaders_of vs ns)) (take (length ns) room)
combination vs ns room next h e =
    let all = map (length {A = ℕ}) (leaders_of vs ns) in
    subst (λ k. AreClasses all (take k room)) (places_count vs ns) (subst (IsCombination all) e h)

-- its number is the one that is reached
number_reached : (vs : List ClassView) (ns room : List ℕ) (next : Option (List ℕ)) → next ≡ Some room → reached (map (length {A = ℕ}) (leaders_of vs ns)) next ≡ cell_of (map (length {A = ℕ}) (leaders_of vs ns)) (take (length ns) room)
number_reached vs ns room next e =
    let all = map (length {A = ℕ}) (leaders_of vs ns) in
    ap (reached all) e ∙ ap (λ k. cell_of all (take k room)) (places_count vs ns)

-- what the next one is, over the counts of leaders
NextOf : List ℕ → List ℕ → Option (List ℕ) → Type 0
NextOf all room next = MatchOption next (cell_of all (take (length all) room) + 1 ≡ product all) (λ k. AreClasses all (take (length all) k) × (cell_of all (take (length all) k) ≡ cell_of all (take (length all) room) + 1))

next_at : (vs : List ClassView) (ns front room : List ℕ) (next : Option (List ℕ)) → front ≡ map (length {A = ℕ}) (leaders_of vs ns)
    → MatchOption next (cell_of front (take (length front) room) + 1 ≡ product front) (λ k. AreClasses front (take (length front) k) × (cell_of front (take (length front) k) ≡ cell_of front (take (length front) room) + 1))
    → NextOf (map (length {A = ℕ}) (leaders_of vs ns)) room next
unfolding NextOf
next_at vs ns front room next e h = subst (λ all. NextOf all room next) e h

-- the number that is reached then
reached_more : (vs : List ClassView) (ns room : List ℕ) (next : Option (List ℕ)) → NextOf (map (length {A = ℕ}) (leaders_of vs ns)) room next → reached (map (length {A = ℕ}) (leaders_of vs ns)) next ≡ cell_of (map (length {A = ℕ}) (leaders_of vs ns)) (take (length ns) room) + 1
unfolding NextOf
reached_more vs ns room next h =
    let all = map (length {A = ℕ}) (leaders_of vs ns) in
    next_reached all next (cell_of all (take (length all) room)) h ∙ ap (λ k. cell_of all (take k room) + 1) (places_count vs ns)

is_next : (vs : List ClassView) (ns room : List ℕ) (next : Option (List ℕ)) → NextOf (map (length {A = ℕ}) (leaders_of vs ns)) room next → IsCombination (map (length {A = ℕ}) (leaders_of vs ns)) next
unfolding NextOf
is_next vs ns room next h =
    let all = map (length {A = ℕ}) (leaders_of vs ns) in
    next_is all next (cell_of all (take (length all) room)) h

-- the entry that is looked up
asked : (ds kids leaders : List ℕ) (f : TupleSymbol) (n : ℕ) → ds ≡ map digit_of f → take n kids ≡ leaders → entry (symbol_of ds) (take n kids) ≡ entry f leaders
asked ds kids leaders f n e h =
    let symbol : symbol_of ds ≡ f = ap symbol_of e ∙ symbol_again f in
    λ i. entry (symbol i) (h i)

pub target-target-requires-clause-there : goal.target-target-requires-clause-there
target-target-requires-clause-there c =
    let own = c.args.self.now in
    let lss = leaders_of own.views.now own.numbers.now in
    let f = c.args.symbol.now in
    let told = c.requires.told in
    let mf = told.3 in
    let are = combination own.views.now own.numbers.now c.in-Some.classes c.combinations.next c.combinations.invariant.next_is c.in-Some.is in
    let cs = take (length own.numbers.now) c.in-Some.classes in
    let same = asked c.digits.result.now c.over-kids.result (leaders_over lss cs) f (length own.numbers.now) c.digits.ensures.digits c.over-kids.ensures in
    (told.0, told.1, told.2, mf.targets_are, ap length c.digits.ensures.digits ∙ (length-map f digit_of ∙ mf.width), subst (Contains told.1) (sym same) (mf.listed cs are))

pub combinations-smaller : goal.combinations-smaller
combinations-smaller c =
    let own = c.args.self.now in
    let all = map (length {A = ℕ}) (leaders_of own.views.now own.numbers.now) in
    let cs = take (length own.numbers.now) c.in-Some.classes in
    let are = combination own.views.now own.numbers.now c.in-Some.classes c.combinations.next c.combinations.invariant.next_is c.in-Some.is in
    let now = number_reached own.views.now own.numbers.now c.in-Some.classes c.combinations.next c.in-Some.is in
    let next = next_at own.views.now own.numbers.now _ c.in-Some.classes c.next_classes-next.result c.counts-counts.ensures c.next_classes-next.ensures in
    let then = reached_more own.views.now own.numbers.now c.in-Some.classes c.next_classes-next.result next in
    omega (arith, now, then, cell_below all cs are)

pub combinations-preserved : goal.combinations-preserved
combinations-preserved c =
    let own = c.args.self.now in
    let lss = leaders_of own.views.now own.numbers.now in
    let all = map (length {A = ℕ}) lss in
    let f = c.args.symbol.now in
    let b = c.args.block in
    let n = length own.numbers.now in
    let cs = take n c.in-Some.classes in
    let inv = c.combinations.invariant in
    let old = c.combinations.blocks in
    let new = c.put.new.self in
    let are = combination own.views.now own.numbers.now c.in-Some.classes c.combinations.next inv.next_is c.in-Some.is in
    let now = number_reached own.views.now own.numbers.now c.in-Some.classes c.combinations.next c.in-Some.is in
    let next = next_at own.views.now own.numbers.now _ c.in-Some.classes c.next_classes-next.result c.counts-counts.ensures c.next_classes-next.ensures in
    let then = reached_more own.views.now own.numbers.now c.in-Some.classes c.next_classes-next.result next in
    let low : b < length old = omega (arith, c.requires.block, inv.kept.count) in
    let counts : counts_at old b ≡ all = inv.kept.counts b ∙ c.requires.counts in
    let same = asked c.digits.result.now c.over-kids.result (leaders_over lss cs) f n c.digits.ensures.digits c.over-kids.ensures in
    record {
      kept = keeps_more b c.args.blocks.now old new inv.kept (ap length c.put.ensures.cell ∙ length-set old b _) c.put.ensures.counts
          (λ i ds l be apart. c.put.ensures.others i ds l be (λ e s. apart e));
      next_is = is_next own.views.now own.numbers.now c.in-Some.classes c.next_classes-next.result next;
      filled = λ columns es qs mf.
          let value = value_of es qs f lss in
          let before : IsFilledTo all value old b (cell_of all cs) = subst (IsFilledTo all value old b) now (inv.filled columns es qs mf) in
          let width = ap length c.digits.ensures.digits ∙ (length-map f digit_of ∙ mf.width) in
          let there = subst (Contains es) (sym same) (mf.listed cs are) in
          let here = c.put.ensures.there ∙ (c.target-target.ensures columns es qs mf.targets_are width there ∙ ap (target_in es qs) same) in
          subst (IsFilledTo all value new b) (sym then)
          (fill_more all cs value old new b are before here (λ ds be apart. c.put.ensures.others b ds low (subst (λ ns. AreClasses ns ds) (sym counts) be) (λ e s. apart s)));
    }

pub returns-clause-filled : goal.returns-clause-filled
returns-clause-filled c = λ columns es qs mf.
    let own = c.args.self.now in
    let lss = leaders_of own.views.now own.numbers.now in
    let all = map (length {A = ℕ}) lss in
    let end = subst (λ o. IsFilledTo all (value_of es qs c.args.symbol.now lss) c.combinations.blocks c.args.block (reached all o)) c.in_default.is (c.combinations.invariant.filled columns es qs mf) in
    record { targets_are = filled_all all (value_of es qs c.args.symbol.now lss) c.combinations.blocks c.args.block end }
