-- The tightened list has the target of each entry, and its classes have their own leaders.
use Rattle.std.proofs.Common.{◌≡◌, ℕ, zero, suc, ◌+◌, ◌*◌, ◌<◌, ◌≤◌, ◌^◌, List, [], ◌∷◌, map, length, get_or, refl, ap, sym, ◌∙◌, arith, subst, ⊎_elim}
use Rattle.std.proofs.lemmas.Bool.{cases_lt}
use Rattle.std.proofs.lemmas.List.{length-map, get_or-map, ext_get_or}
use Rattle.fort_tables.specs.Tuples.{TupleSymbol, IsPresent, IsTupleSymbol, symbol_kids, tabulate}
use Rattle.fort_tables.specs.Entries.{Entry}
use Rattle.fort_tables.specs.Tables.{Table, IsTableEntry}
use Rattle.fort_tables.proofs.TupleLaws.{length-tabulate, get_or-tabulate}
use Rattle.fort_classes.specs.Leaders.{MayBeKid}
use Rattle.fort_tuple_symbols.specs.SymbolNumbers.{columns_at}
use Rattle.fort_tuple_symbols.proofs.SymbolNumberLaws.{length-columns_at}
use Rattle.fort_class_blocks.specs.Blocks.{AreClasses, counts_at, target_of}
use Rattle.fort_class_blocks.proofs.CombinationLaws.{classes_from}
use Rattle.fort_target_lists.specs.Places.{number_of}
use Rattle.fort_target_lists.specs.ClassLists.{leaders_in, classes_in, view_at, view_classes, view_leaders, class_at, lead_of, kid_classes, IsClassed, IsClassListOf}
use Rattle.fort_target_lists.specs.ClassLeaders.{leader_at, IsClassAt, HasOwnLeaders}
use Rattle.fort_target_lists.specs.declared.class_list.ClassView.{ClassView}
use Rattle.fort_target_lists.specs.declared.class_list.ClassList.{ClassList}
use Rattle.fort_target_lists.proofs.SymbolNumbers.{columns_again, number_below, symbols_at}
use Rattle.fort_tight_lists.specs.Slices.{IsRenumbering}
use Rattle.fort_tight_lists.specs.Picks.{renumbered}
use Rattle.fort_tight_lists.specs.TightViews.{read_at}
use Rattle.fort_tight_lists.specs.TightSymbols.{symbol_at, IsTightSymbol, HasTightSymbols, AreReadable}
use Rattle.fort_tight_lists.specs.declared.parts.TightParts.{TightParts}
use Rattle.fort_tight_lists.proofs.PickLaws.{picked_target}

-- a view by its number
view_there : (vs : List ClassView) (n : ℕ) → n < length vs → (v : ClassView) × (v ≡ get_or vs n v)
view_there [] n l = absurd (omega (arith, l))
view_there (v ∷ vs) zero l = (v, refl)
view_there (v ∷ vs) (suc n) l = view_there vs n (omega (arith, l))

-- what is read at a place that is there
read_there : (xs places : List ℕ) (i : ℕ) → i < length places → get_or (read_at xs places) i 0 ≡ get_or xs (get_or places i 0) 0
read_there xs places i l = get_or-map (λ p. get_or xs p 0) places i 0 0 l

-- the list with these parts
abbrev pub with_parts : ClassList → TightParts → ClassList
with_parts l t = record {
  base = l.base;
  ranks = l.ranks;
  views = t.views.views;
  starts = t.starts;
  numbers = t.numbers;
  blocks = t.blocks;
}

-- a place's view, renumbered
record IsTightPlace (l new : ClassList) (f : TupleSymbol) (j : ℕ) (numbers firsts : List ℕ) : Type 0 where
  number : get_or new.starts.items (number_of new.base f) 0 + j < length new.numbers.items
  view : view_at new f j < length new.views.items
  is : IsRenumbering l.blocks (number_of l.base f) (counts_at l.blocks (number_of l.base f)) j numbers firsts
  classes_are : view_classes new (view_at new f j) ≡ read_at numbers (view_classes l (view_at l f j))
  leaders_are : view_leaders new (view_at new f j) ≡ read_at (view_leaders l (view_at l f j)) firsts
  count : length numbers ≡ length (view_leaders l (view_at l f j))

module _ (body : Table) (l : ClassList) (t : TightParts) (h : IsClassListOf body l) (o : HasOwnLeaders body l) (s : HasTightSymbols body.signature body.columns (l.base ^ body.columns) l t) where
  new : ClassList
  new = with_parts l t

  -- the parts of a tuple symbol
  own : (f : TupleSymbol) → IsTupleSymbol body.signature body.columns f
      → IsTightSymbol l (number_of l.base f) (symbol_kids body.signature f) t.views.views.items t.numbers.items (get_or t.starts.items (number_of l.base f) 0) t.blocks (number_of l.base f)
  own f is =
      let sig = body.signature in
      let m = number_of l.base f in
      let low : m < l.base ^ body.columns = omega (arith, number_below sig l.base f h.base_is is.symbols, ap (λ n. l.base ^ n) is.width) in
      let base : length sig + 1 ≡ l.base = omega (arith, h.base_is) in
      let same : symbol_at sig body.columns m ≡ f = ap (λ b. columns_at b body.columns m) base ∙ (ap (λ w. columns_at l.base w m) (sym is.width) ∙ columns_again sig l.base f h.base_is is.symbols) in
      let Own : TupleSymbol → Type 0 = λ g. IsTightSymbol l (number_of l.base g) (symbol_kids sig g) t.views.views.items t.numbers.items (get_or t.starts.items m 0) t.blocks m in
      subst Own same (s.symbols m low (subst (λ (g : TupleSymbol). IsPresent g) (sym same) is.present))

  numbers_of : (f : TupleSymbol) → IsTupleSymbol body.signature body.columns f → ℕ → List ℕ
  numbers_of f is j = get_or (own f is).numbers j []

  firsts_of : (f : TupleSymbol) → IsTupleSymbol body.signature body.columns f → ℕ → List ℕ
  firsts_of f is j = get_or (own f is).firsts j []

  -- how many classes the old block has at a place
  old_count : (f : TupleSymbol) (j : ℕ) → IsTupleSymbol body.signature body.columns f → j < symbol_kids body.signature f → get_or (counts_at l.blocks (number_of l.base f)) j 0 ≡ length (view_leaders l (view_at l f j))
  old_count f j is k =
      let of : ℕ → ℕ = λ i. length (view_leaders l (view_at l f i)) in
      ap (λ xs. get_or xs j 0) (h.counts_are f is) ∙ get_or-tabulate (symbol_kids body.signature f) of j 0 k

  place : (f : TupleSymbol) (j : ℕ) (is : IsTupleSymbol body.signature body.columns f) → j < symbol_kids body.signature f → IsTightPlace l new f j (numbers_of f is j) (firsts_of f is j)
  unfolding new numbers_of firsts_of
  place f j is k =
      let parts = own f is in
      let at = parts.tight_at j k in
      let n = view_at new f j in
      let there = view_there t.views.views.items n at.low in
      let v = there.0 in
      let tight = at.is v there.1 in
      let re = parts.are.each j (omega (arith, k, parts.places_all)) in
      record {
        number = omega (arith, k, parts.within);
        view = at.low;
        is = re;
        classes_are = get_or-map classes_in t.views.views.items n v [] at.low ∙ (sym (ap classes_in there.1) ∙ tight.classes_are);
        leaders_are = get_or-map leaders_in t.views.views.items n v [] at.low ∙ (sym (ap leaders_in there.1) ∙ tight.leaders_are);
        count = re.count ∙ old_count f j is k;
      }

  -- how many classes there are, and which states lead them
  leaders_long : (f : TupleSymbol) (j : ℕ) (is : IsTupleSymbol body.signature body.columns f) → j < symbol_kids body.signature f → length (view_leaders new (view_at new f j)) ≡ length (firsts_of f is j)
  leaders_long f j is k = ap (length {A = ℕ}) (place f j is k).leaders_are ∙ length-map (firsts_of f is j) (λ p. get_or (view_leaders l (view_at l f j)) p 0)

  leader_read : (f : TupleSymbol) (j c : ℕ) (is : IsTupleSymbol body.signature body.columns f) → j < symbol_kids body.signature f → c < length (firsts_of f is j) → leader_at new f j c ≡ leader_at l f j (get_or (firsts_of f is j) c 0)
  leader_read f j c is k low = ap (λ (xs : List ℕ). get_or xs c 0) (place f j is k).leaders_are ∙ read_there (view_leaders l (view_at l f j)) (firsts_of f is j) c low

  -- a state's class
  class_read : (f : TupleSymbol) (j q : ℕ) (may : MayBeKid body.signature body.columns body.presences f j q) → class_at new f j q ≡ get_or (numbers_of f may.symbol j) (class_at l f j q) 0
  unfolding new
  class_read f j q may =
      let old = h.classed f j q may in
      ap (λ (xs : List ℕ). get_or xs (get_or l.ranks.items q 0) 0) (place f j may.symbol may.place).classes_are ∙ read_there (numbers_of f may.symbol j) (view_classes l (view_at l f j)) (get_or l.ranks.items q 0) old.rank

  class_low : (f : TupleSymbol) (j q : ℕ) (may : MayBeKid body.signature body.columns body.presences f j q) → class_at l f j q < length (numbers_of f may.symbol j)
  class_low f j q may = omega (arith, (h.classed f j q may).class, (place f j may.symbol may.place).count)

  -- an old class that is the first with its number
  first_class : (f : TupleSymbol) (j c : ℕ) (is : IsTupleSymbol body.signature body.columns f) (k : j < symbol_kids body.signature f) → c < length (firsts_of f is j) → IsClassAt body l f j (get_or (firsts_of f is j) c 0)
  first_class f j c is k low =
      let p = place f j is k in
      record { symbol = is; place = k; class = omega (arith, p.is.firsts_low c low, p.count) }

  -- its leader may stand there, and is of the new class
  first_may : (f : TupleSymbol) (j c : ℕ) (is : IsTupleSymbol body.signature body.columns f) (k : j < symbol_kids body.signature f) → c < length (firsts_of f is j) → MayBeKid body.signature body.columns body.presences f j (leader_at new f j c)
  first_may f j c is k low = subst (MayBeKid body.signature body.columns body.presences f j) (sym (leader_read f j c is k low)) (o.may f j (get_or (firsts_of f is j) c 0) (first_class f j c is k low))

  first_own : (f : TupleSymbol) (j c : ℕ) (is : IsTupleSymbol body.signature body.columns f) (k : j < symbol_kids body.signature f) → c < length (firsts_of f is j) → class_at new f j (leader_at new f j c) ≡ c
  unfolding new
  first_own f j c is k low =
      let i = get_or (firsts_of f is j) c 0 in
      let r = leader_at l f j i in
      let may = o.may f j i (first_class f j c is k low) in
      let ns = numbers_of f is j in
      let read : class_at new f j r ≡ get_or ns (class_at l f j r) 0 =
      ap (λ (xs : List ℕ). get_or xs (get_or l.ranks.items r 0) 0) (place f j is k).classes_are ∙ read_there ns (view_classes l (view_at l f j)) (get_or l.ranks.items r 0) (h.classed f j r may).rank in
      ap (class_at new f j) (leader_read f j c is k low) ∙ (read ∙ (ap (λ d. get_or ns d 0) (o.own f j i (first_class f j c is k low)) ∙ (place f j is k).is.own c low))

  -- a state's new class, and its leader, which leads no later than the old one
  class_within : (f : TupleSymbol) (j q : ℕ) (may : MayBeKid body.signature body.columns body.presences f j q) → class_at new f j q < length (firsts_of f may.symbol j)
  class_within f j q may = omega (arith, class_read f j q may, (place f j may.symbol may.place).is.within (class_at l f j q) (class_low f j q may))

  lead_low : (f : TupleSymbol) (j q : ℕ) (may : MayBeKid body.signature body.columns body.presences f j q) → lead_of new f j q ≤ q
  lead_low f j q may =
      let c = class_at l f j q in
      let p = place f j may.symbol may.place in
      let i = get_or (firsts_of f may.symbol j) (get_or (numbers_of f may.symbol j) c 0) 0 in
      let least : i ≤ c = p.is.least c (class_low f j q may) in
      let old = h.classed f j q may in
      let here : IsClassAt body l f j c = record { symbol = may.symbol; place = may.place; class = old.class } in
      let rise : leader_at l f j i ≤ leader_at l f j c = ⊎_elim (λ less. omega (arith, o.rises f j i c here less)) (λ more. let e : i ≡ c = omega (arith, more, least) in omega (arith, ap (leader_at l f j) e)) (cases_lt i c) in
      omega (
        arith,
        leader_read f j (class_at new f j q) may.symbol may.place (class_within f j q may),
        ap (λ d. leader_at l f j (get_or (firsts_of f may.symbol j) d 0)) (class_read f j q may),
        rise,
        old.least,
      )

  is_classed : (f : TupleSymbol) (j q : ℕ) → MayBeKid body.signature body.columns body.presences f j q → IsClassed new (view_at new f j) q
  unfolding new
  is_classed f j q may =
      let p = place f j may.symbol may.place in
      let c = class_at new f j q in
      let low = class_within f j q may in
      record {
        rank = omega (arith, (h.classed f j q may).rank, ap (length {A = ℕ}) p.classes_are, length-map (view_classes l (view_at l f j)) (λ i. get_or (numbers_of f may.symbol j) i 0));
        class = omega (arith, low, leaders_long f j may.symbol may.place);
        least = lead_low f j q may;
        own = first_own f j c may.symbol may.place low;
      }

  module _ (e : Entry) (is : IsTableEntry body e) where
    kid_may : (j : ℕ) → j < length e.kids → MayBeKid body.signature body.columns body.presences e.symbol j (get_or e.kids j 0)
    kid_may j k = record { symbol = is.symbol; place = omega (arith, k, is.count); within = is.within j k; presence = is.presence j k }

    -- its children's old classes are a combination
    old_classes : AreClasses (counts_at l.blocks (number_of l.base e.symbol)) (kid_classes l e)
    old_classes =
        let of : ℕ → ℕ = λ j. class_at l e.symbol j (get_or e.kids j 0) in
        let counts = counts_at l.blocks (number_of l.base e.symbol) in
        let wide : length counts ≡ length e.kids = (own e.symbol is.symbol).places_all ∙ sym is.count in
        classes_from counts (kid_classes l e) (length-tabulate (length e.kids) of ∙ sym wide) (λ j k.
        let low : j < length e.kids = omega (arith, k, wide) in
        omega (arith, get_or-tabulate (length e.kids) of j 0 low, old_count e.symbol j is.symbol (omega (arith, low, is.count)), (h.classed e.symbol j (get_or e.kids j 0) (kid_may j low)).class))

    -- and the new ones have their numbers
    new_classes : kid_classes new e ≡ renumbered (own e.symbol is.symbol).numbers (kid_classes l e)
    unfolding numbers_of kid_may
    new_classes =
        let parts = own e.symbol is.symbol in
        let n = length e.kids in
        let of : ℕ → ℕ = λ j. class_at new e.symbol j (get_or e.kids j 0) in
        let old : ℕ → ℕ = λ j. class_at l e.symbol j (get_or e.kids j 0) in
        let by : ℕ → ℕ = λ j. get_or (get_or parts.numbers j []) (get_or (kid_classes l e) j 0) 0 in
        let wide : length parts.numbers ≡ n = parts.are.numbers_all ∙ (parts.places_all ∙ sym is.count) in
        let long = length-tabulate n of in
        ext_get_or 0 (kid_classes new e) (renumbered parts.numbers (kid_classes l e)) (long ∙ (sym wide ∙ sym (length-tabulate (length parts.numbers) by))) (λ j k.
        let low : j < n = omega (arith, k, long) in
        get_or-tabulate n of j 0 low
        ∙ (class_read e.symbol j (get_or e.kids j 0) (kid_may j low)
        ∙ (ap (λ c. get_or (get_or parts.numbers j []) c 0) (sym (get_or-tabulate n old j 0 low)) ∙ sym (get_or-tabulate (length parts.numbers) by j 0 (omega (arith, low, wide))))))

    target_is : target_of t.blocks (number_of l.base e.symbol) (kid_classes new e) ≡ body.target e
    target_is =
        let m = number_of l.base e.symbol in
        let parts = own e.symbol is.symbol in
        ap (target_of t.blocks m) new_classes ∙ (picked_target l.blocks m (counts_at l.blocks m) parts.numbers parts.firsts parts.are t.blocks m (kid_classes l e) parts.picked old_classes ∙ h.targets_are e is)

  -- Result: it is a list of the table
  pub tight_list : 8 * (l.base ^ body.columns) ≤ 2 ^ 32 → IsClassListOf body (with_parts l t)
  unfolding new firsts_of
  tight_list few = record {
    base_is = h.base_is;
    few = h.few;
    starts_all = s.starts_all;
    blocks_all = s.blocks_all;
    ranks_are = h.ranks_are;
    few_views = omega (arith, s.few, few);
    views_are = λ f j is k. record { number = (place f j is k).number; view = (place f j is k).view };
    classes_all = λ f j is k. ap (length {A = ℕ}) (place f j is k).classes_are ∙ (length-map (view_classes l (view_at l f j)) (λ i. get_or (numbers_of f is j) i 0) ∙ h.classes_all f j is k);
    counts_are = λ f is.
        let parts = own f is in
        let of : ℕ → ℕ = λ j. length (view_leaders new (view_at new f j)) in
        let wide = length-map parts.firsts (length {A = ℕ}) in
        let long : length parts.firsts ≡ symbol_kids body.signature f = parts.are.firsts_all ∙ parts.places_all in
        parts.counts
        ∙ ext_get_or 0 (map (length {A = ℕ}) parts.firsts) (tabulate (symbol_kids body.signature f) of) (wide ∙ (long ∙ sym (length-tabulate (symbol_kids body.signature f) of)))
        (λ j k. let low : j < symbol_kids body.signature f = omega (arith, k, wide, long) in
        get_or-map (length {A = ℕ}) parts.firsts j [] 0 (omega (arith, k, wide)) ∙ (sym (leaders_long f j is low) ∙ sym (get_or-tabulate (symbol_kids body.signature f) of j 0 low)));
    classed = λ f j q may. is_classed f j q may;
    presence_is = λ f j q may. (first_may f j (class_at new f j q) may.symbol may.place (class_within f j q may)).presence;
    targets_are = λ e is. target_is e is;
  }

  -- Result: its classes are led by their own states
  pub tight_leaders : HasOwnLeaders body (with_parts l t)
  unfolding new
  tight_leaders =
      let low : (f : TupleSymbol) (j c : ℕ) (at : IsClassAt body (with_parts l t) f j c) → c < length (firsts_of f at.symbol j) = λ f j c at. omega (arith, at.class, leaders_long f j at.symbol at.place) in
      record {
        may = λ f j c at. first_may f j c at.symbol at.place (low f j c at);
        own = λ f j c at. first_own f j c at.symbol at.place (low f j c at);
        rises = λ f j c d at less.
            let k = low f j d at in
            let is = place f j at.symbol at.place in
            omega (
              arith,
              leader_read f j c at.symbol at.place (omega (arith, less, k)),
              leader_read f j d at.symbol at.place k,
              o.rises f j _ _ (first_class f j d at.symbol at.place k) (is.is.rises c d less k),
            );
      }

-- rising numbers below a bound are at most as many
risen : (xs : List ℕ) → ((c d : ℕ) → c < d → d < length xs → get_or xs c 0 < get_or xs d 0) → (c : ℕ) → c < length xs → c ≤ get_or xs c 0
risen xs rises zero l = omega arith
risen xs rises (suc c) l = omega (arith, risen xs rises c (omega (arith, l)), rises c (suc c) (omega arith) l)

few_risen : (xs : List ℕ) (n : ℕ) → ((c d : ℕ) → c < d → d < length xs → get_or xs c 0 < get_or xs d 0) → ((c : ℕ) → c < length xs → get_or xs c 0 < n) → length xs ≤ n
few_risen xs n rises low = ⊎_elim (λ l. absurd (omega (arith, risen xs rises n l, low n l))) (λ l. l) (cases_lt n (length xs))

-- Result: each tuple symbol can be read in a list whose classes have their own leaders
pub are_readable : (body : Table) (l : ClassList) → IsClassListOf body l → HasOwnLeaders body l → length l.ranks.items < 2 ^ 32 → AreReadable body.signature body.columns l
are_readable body l h o few = record {
  base_is = omega (arith, h.base_is);
  small = omega (arith, h.few);
  symbols = λ m low present.
      let sig = body.signature in
      let f : TupleSymbol = symbol_at sig body.columns m in
      let n = number_of l.base f in
      let base : length sig + 1 ≡ suc (length sig) = omega arith in
      let is : IsTupleSymbol sig body.columns f = record { width = length-columns_at (length sig + 1) body.columns m; present = present; symbols = symbols_at sig (length sig + 1) body.columns m base } in
      let there : n < l.base ^ body.columns = omega (arith, number_below sig l.base f h.base_is is.symbols, ap (λ k. l.base ^ k) is.width) in
      record {
        start = omega (arith, there, h.starts_all);
        block = omega (arith, there, h.blocks_all);
        numbers = λ j k. (h.views_are f j is k).number;
        views = λ j k. (h.views_are f j is k).view;
        leaders = λ j k.
            let xs = view_leaders l (view_at l f j) in
            let at : (c : ℕ) → c < length xs → IsClassAt body l f j c = λ c z. record { symbol = is; place = k; class = z } in
            omega (arith, few, h.ranks_are.size, few_risen xs (length body.presences) (λ c d less z. o.rises f j c d (at d z) less) (λ c z. (o.may f j c (at c z)).within));
        counts = h.counts_are f is;
      };
}
