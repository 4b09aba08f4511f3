-- Targets by classes: the leaders of the classes are leaders by which the targets go, and the classes of children lead to an entry's target.
use Rattle.std.proofs.Common.{◌≡◌, ℕ, suc, ◌+◌, ◌^◌, ◌<◌, ◌≤◌, List, [], ◌∷◌, map, take, length, get_or, ap, sym, ◌∙◌, arith, subst, ⊎_elim}
use Rattle.std.proofs.lemmas.Bool.{cases_lt}
use Rattle.std.proofs.lemmas.List.{length-map, length-take-le, get_or-take, get_or_past, take_all, ext_get_or}
use Rattle.fort_tables.specs.Tuples.{TupleSymbol, IsTupleSymbol, symbol_kids, tabulate}
use Rattle.fort_tables.specs.Entries.{Entry, entry}
use Rattle.fort_tables.specs.Tables.{Table, IsTableEntry}
use Rattle.fort_tables.proofs.TupleLaws.{length-tabulate, get_or-tabulate, tabulate_same}
use Rattle.fort_classes.specs.Leaders.{MayBeKid, AreLeaders, led, GoesByLeaders}
use Rattle.fort_classes.proofs.LeaderLaws.{length-led, get_or-led, kid_may_be, IsEntry-led}
use Rattle.fort_class_blocks.specs.Blocks.{AreClasses, counts_at, target_of}
use Rattle.fort_target_lists.specs.Places.{number_of}
use Rattle.fort_target_lists.specs.Flats.{base_of}
use Rattle.fort_target_lists.specs.ToldTables.{AreFirstKids}
use Rattle.fort_target_lists.specs.ClassLists.{classes_in, view_at, view_of, view_leaders, view_classes, class_in, class_at, lead_of, kid_classes, class_counts, IsClassed, HasClassAt, IsClassListOf}
use Rattle.fort_target_lists.specs.declared.class_list.ClassList.{ClassList}
use Rattle.fort_target_lists.proofs.SymbolNumbers.{number_below}

-- classes below their counts, place by place
pub AreClasses-from : (ns cs : List ℕ) → length ns ≡ length cs → ((j : ℕ) → j < length cs → get_or cs j 0 < get_or ns j 0) → AreClasses ns cs
AreClasses-from [] [] e h = tt
AreClasses-from [] (c ∷ cs) e h = absurd (omega (arith, e))
AreClasses-from (n ∷ ns) [] e h = absurd (omega (arith, e))
AreClasses-from (n ∷ ns) (c ∷ cs) e h = (h 0 (omega arith), AreClasses-from ns cs (omega (arith, e)) (λ j l. h (suc j) (omega (arith, l))))

-- what has a class is in a view that is there
pub view_there : (l : ClassList) (view q : ℕ) → IsClassed l view q → view < length l.views.items
view_there l view q h = ⊎_elim
    (λ b. b)
    (λ b. let e : view_classes l view ≡ [] = get_or_past (map classes_in l.views.items) view [] (omega (arith, b, length-map l.views.items classes_in)) in
    absurd (omega (arith, h.rank, ap length e)))
    (cases_lt view (length l.views.items))

module _ (body : Table) (l : ClassList) (is : IsClassListOf body l) where
  -- Result: the leaders of the classes
  pub AreLeaders-listed : AreLeaders body.signature body.columns body.presences (lead_of l)
  AreLeaders-listed = record {
    least = λ f j q h. (is.classed f j q h).least;
    itself = λ f j q h. ap (λ c. get_or (view_leaders l (view_at l f j)) c 0) (is.classed f j q h).own;
    presence = is.presence_is;
  }

  -- the led entry's children have the same classes
  classes_led : (e : Entry) → IsTableEntry body e → kid_classes l (led (lead_of l) e) ≡ kid_classes l e
  classes_led e h =
      let lead = lead_of l in
      ap (λ n. tabulate n (λ j. class_at l e.symbol j (get_or (led lead e).kids j 0))) (length-led lead e)
      ∙ tabulate_same (length e.kids) (λ j. class_at l e.symbol j (get_or (led lead e).kids j 0)) (λ j. class_at l e.symbol j (get_or e.kids j 0))
      (λ j m. ap (class_at l e.symbol j) (get_or-led lead e j m) ∙ (is.classed e.symbol j (get_or e.kids j 0) (kid_may_be body.signature body.columns body.presences e h j m)).own)

  -- Result: by them the targets go
  pub GoesByLeaders-listed : GoesByLeaders body.signature body.columns body.presences (lead_of l) body.target
  GoesByLeaders-listed e h =
      let other = led (lead_of l) e in
      sym (is.targets_are e h)
      ∙ (ap (target_of l.blocks (number_of l.base e.symbol)) (sym (classes_led e h))
      ∙ is.targets_are other (IsEntry-led body.signature body.columns body.presences (lead_of l) AreLeaders-listed e h))

  module _ (f : TupleSymbol) (symbol : IsTupleSymbol body.signature body.columns f) (n : ℕ) (at : n ≡ number_of (base_of body) f) where
    pub number_is : n ≡ number_of l.base f
    number_is = at ∙ ap (λ b. number_of b f) (sym is.base_is)

    -- Result: the tuple symbol has a place in the list
    pub number_low : n < l.base ^ body.columns
    number_low = omega (arith, number_is, number_below body.signature l.base f is.base_is symbol.symbols, ap (λ c. l.base ^ c) symbol.width)

    -- Result: how many classes its places have
    pub counts_listed : counts_at l.blocks n ≡ class_counts body l f
    counts_listed = ap (counts_at l.blocks) number_is ∙ is.counts_are f symbol

    pub count_listed : length (counts_at l.blocks n) ≡ symbol_kids body.signature f
    count_listed = ap length counts_listed ∙ length-tabulate (symbol_kids body.signature f) (λ j. length (view_leaders l (view_at l f j)))

    pub counts_at_place : (j : ℕ) → j < symbol_kids body.signature f → get_or (counts_at l.blocks n) j 0 ≡ length (view_leaders l (view_at l f j))
    counts_at_place j m = ap (λ (xs : List ℕ). get_or xs j 0) counts_listed ∙ get_or-tabulate (symbol_kids body.signature f) (λ i. length (view_leaders l (view_at l f i))) j 0 m

    view_same : (j : ℕ) → view_of l n j ≡ view_at l f j
    view_same j = ap (λ m. view_of l m j) number_is

    module _ (ks : List ℕ) (kids : AreFirstKids body f ks) (count : length ks ≤ symbol_kids body.signature f) where
      kid_may : (j : ℕ) → j < length ks → MayBeKid body.signature body.columns body.presences f j (get_or ks j 0)
      kid_may j m = record { symbol = symbol; place = omega (arith, m, count); within = kids.within j m; presence = kids.presence j m }

      -- Result: each of the first children has a class
      pub kid_classed : (j : ℕ) → j < length ks → HasClassAt l n j (get_or ks j 0)
      kid_classed j m =
          let view = is.views_are f j symbol (omega (arith, m, count)) in
          record {
            start = omega (arith, number_low, is.starts_all);
            place = subst (λ i. get_or l.starts.items i 0 + j < length l.numbers.items) (sym number_is) view.number;
            state = omega (arith, kids.within j m, is.ranks_are.size);
            classed = subst (λ i. IsClassed l i (get_or ks j 0)) (sym (view_same j)) (is.classed f j (get_or ks j 0) (kid_may j m));
          }

      -- Result: their classes, read one by one
      pub classes_read : (room : List ℕ) → length ks ≤ length room → ((j : ℕ) → j < length ks → get_or room j 0 ≡ class_in l (view_of l n j) (get_or ks j 0)) → take (length ks) room ≡ kid_classes l (entry f ks)
      classes_read room few are =
          let m = length-take-le (length ks) room few in
          let of : ℕ → ℕ = λ j. class_at l f j (get_or ks j 0) in
          ext_get_or 0 (take (length ks) room) (kid_classes l (entry f ks)) (m ∙ sym (length-tabulate (length ks) of))
          (λ j o. let low : j < length ks = omega (arith, o, m) in
          get_or-take (length ks) room j 0 low ∙ (are j low ∙ (ap (λ v. class_in l v (get_or ks j 0)) (view_same j) ∙ sym (get_or-tabulate (length ks) of j 0 low))))

      -- Result: they are classes of the first places
      pub classes_first : AreClasses (take (length ks) (counts_at l.blocks n)) (kid_classes l (entry f ks))
      classes_first =
          let of : ℕ → ℕ = λ j. class_at l f j (get_or ks j 0) in
          let a = length-tabulate (length ks) of in
          let b = length-take-le (length ks) (counts_at l.blocks n) (omega (arith, count, count_listed)) in
          AreClasses-from (take (length ks) (counts_at l.blocks n)) (kid_classes l (entry f ks)) (b ∙ sym a)
          (λ j o. let low : j < length ks = omega (arith, o, a) in
          omega (
            arith,
            get_or-tabulate (length ks) of j 0 low,
            get_or-take (length ks) (counts_at l.blocks n) j 0 low,
            counts_at_place j (omega (arith, low, count)),
            (is.classed f j (get_or ks j 0) (kid_may j low)).class,
          ))

-- an entry's children
pub entry_kids : (body : Table) (e : Entry) → IsTableEntry body e → AreFirstKids body e.symbol e.kids
entry_kids body e h = record { within = h.within; presence = h.presence }

module _ (body : Table) (l : ClassList) (is : IsClassListOf body l) (f : TupleSymbol) (ks : List ℕ) (n : ℕ) (at : n ≡ number_of (base_of body) f) (whole : IsTableEntry body (entry f ks)) where
  -- Result: an entry's children are as many as its tuple symbol has, and have classes
  pub entry_count : length ks ≤ symbol_kids body.signature f
  entry_count = omega (arith, whole.count)

  pub entry_classed : (j : ℕ) → j < length ks → HasClassAt l n j (get_or ks j 0)
  entry_classed = kid_classed body l is f whole.symbol n at ks (entry_kids body (entry f ks) whole) entry_count

  module _ (room : List ℕ) (few : length ks ≤ length room) (are : (j : ℕ) → j < length ks → get_or room j 0 ≡ class_in l (view_of l n j) (get_or ks j 0)) where
    entry_read : take (length ks) room ≡ kid_classes l (entry f ks)
    entry_read = classes_read body l is f whole.symbol n at ks (entry_kids body (entry f ks) whole) entry_count room few are

    -- Result: the classes that were read are some of all places
    pub entry_classes : AreClasses (counts_at l.blocks n) (take (length ks) room)
    entry_classes =
        let all : take (length ks) (counts_at l.blocks n) ≡ counts_at l.blocks n = take_all (length ks) (counts_at l.blocks n) (omega (arith, count_listed body l is f whole.symbol n at, whole.count)) in
        subst (λ (cs : List ℕ). AreClasses (counts_at l.blocks n) cs) (sym entry_read)
        (subst (λ (ns : List ℕ). AreClasses ns (kid_classes l (entry f ks))) all (classes_first body l is f whole.symbol n at ks (entry_kids body (entry f ks) whole) entry_count))

    -- Result: there stands the entry's target
    pub entry_target : target_of l.blocks n (take (length ks) room) ≡ body.target (entry f ks)
    entry_target = ap (target_of l.blocks n) entry_read ∙ (ap (λ i. target_of l.blocks i (kid_classes l (entry f ks))) (number_is body l is f whole.symbol n at) ∙ is.targets_are (entry f ks) whole)
