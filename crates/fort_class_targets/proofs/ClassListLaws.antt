-- The list that is made has the target of each entry.
use Rattle.std.proofs.Common.{◌≡◌, ℕ, suc, ◌+◌, ◌*◌, ◌<◌, ◌≤◌, ◌^◌, List, [], map, length, get_or, ap, sym, ◌∙◌, arith, subst}
use Rattle.std.proofs.lemmas.List.{length-map, get_or-map, ext_get_or}
use Rattle.fort_theory.specs.Signatures.{Signature}
use Rattle.fort_tables.specs.Tuples.{TupleSymbol, IsPresent, IsTupleSymbol, symbol_kids, kid_presence, tabulate}
use Rattle.fort_tables.specs.Entries.{Entry, entry}
use Rattle.fort_tables.specs.Tables.{Made, Table, target_in}
use Rattle.fort_tables.specs.Labels.{first_word}
use Rattle.fort_tables.specs.StateRanks.{count_of}
use Rattle.fort_tables.proofs.TupleLaws.{length-tabulate, get_or-tabulate}
use Rattle.fort_classes.specs.Leaders.{AreLeaders, MayBeKid, led}
use Rattle.fort_classes.specs.Keys.{leaders_by}
use Rattle.fort_classes.proofs.KeyLaws.{AreLeaders-by}
use Rattle.fort_label_keys.specs.ViewKeys.{keys_by}
use Rattle.fort_tuple_symbols.specs.SymbolNumbers.{columns_at}
use Rattle.fort_class_blocks.specs.Blocks.{AreClasses, counts_at, target_of}
use Rattle.fort_entry_walk.specs.Walks.{states_with}
use Rattle.fort_target_lists.specs.Places.{number_of}
use Rattle.fort_target_lists.specs.ClassLists.{view_at, view_classes, class_in, view_leaders, class_at, leader_in, lead_of, kid_classes, HasView, IsClassed, IsClassListOf}
use Rattle.fort_target_lists.specs.ClassLeaders.{leader_at, HasOwnLeaders}
use Rattle.fort_target_lists.specs.declared.class_list.ClassList.{ClassList}
use Rattle.fort_target_lists.proofs.SymbolNumbers.{columns_again, number_below}
use Rattle.fort_views.specs.Ranks.{AreRanks}
use Rattle.fort_views.specs.SymbolViews.{sight}
use Rattle.fort_views.specs.declared.views.Views.{Views}
use Rattle.fort_class_targets.specs.LedBodies.{IsLedBody}
use Rattle.fort_class_targets.specs.FilledBlocks.{leaders_over}
use Rattle.fort_class_targets.specs.NumberedViews.{HasPlaces}
use Rattle.fort_class_targets.specs.TakenViews.{AreClassViews}
use Rattle.fort_class_targets.specs.SymbolBlocks.{symbol_at, leaders_under, HasBlocks}
use Rattle.fort_class_blocks.proofs.CombinationLaws.{classes_from}
use Rattle.fort_class_targets.proofs.ClassFacts.{IsLeader, HasClass, leader_at as leader_of, leaders_apart, leaders_rise, class_of}
use Rattle.fort_class_targets.proofs.RankFacts.{states_counted, ranks_same}
use Rattle.fort_class_targets.proofs.PlaceFacts.{IsPlaceView, numbers_there, place_view, lists_count, lists_read, classes_with}

-- the number of a tuple symbol, and that it is the tuple symbol's
pub record HasNumber (sig : Signature) (columns count base : ℕ) (f : TupleSymbol) : Type 0 where
  pub low : number_of base f < count
  pub is : symbol_at sig columns (number_of base f) ≡ f

module _ (view : TupleSymbol → ℕ → List ℕ) (key : List ℕ → List ℕ → List ℕ) (labels : List (List ℕ)) (sig : Signature) (columns : ℕ) (views : Views) (l : ClassList) (base_is : l.base ≡ length sig + 1) (p : HasPlaces view sig columns (l.base ^ columns) views l.starts.items l.numbers.items) (v : AreClassViews key labels (map sight views.views.items) l.views.items)
    (ranks : AreRanks (map first_word labels) l.ranks.items) where
  number : (f : TupleSymbol) → IsTupleSymbol sig columns f → HasNumber sig columns (l.base ^ columns) l.base f
  number f s =
      let base : l.base ≡ suc (length sig) = omega (arith, base_is) in
      record {
        low = omega (arith, number_below sig l.base f base s.symbols, ap (λ n. l.base ^ n) s.width);
        is = ap (λ b. columns_at b columns (number_of l.base f)) (sym base_is) ∙ (ap (λ w. columns_at l.base w (number_of l.base f)) (sym s.width) ∙ columns_again sig l.base f base s.symbols);
      }

  -- the view of a place
  place : (f : TupleSymbol) (j : ℕ) → IsTupleSymbol sig columns f → j < symbol_kids sig f → IsPlaceView view key labels sig f l.views.items j (view_at l f j)
  place f j s k =
      let n = number f s in
      let m = number_of l.base f in
      subst (λ (g : TupleSymbol). IsPlaceView view key labels sig g l.views.items j (view_at l f j)) n.is
      (place_view view key labels sig columns (l.base ^ columns) views l.views.items l.starts.items l.numbers.items p v m n.low j (omega (arith, k, ap (symbol_kids sig) n.is)))

  pub has_view : (f : TupleSymbol) (j : ℕ) → IsTupleSymbol sig columns f → j < symbol_kids sig f → HasView l f j
  has_view f j s k =
      let n = number f s in
      let m = number_of l.base f in
      record {
        number = omega (arith, k, ap (symbol_kids sig) n.is, numbers_there view key labels sig columns (l.base ^ columns) views l.views.items l.starts.items l.numbers.items p v m n.low);
        view = (place f j s k).low;
      }

  -- each state of the place's presence has a class there
  pub classed_all : (f : TupleSymbol) (j : ℕ) → IsTupleSymbol sig columns f → j < symbol_kids sig f → length (view_classes l (view_at l f j)) ≡ count_of (kid_presence sig f j) (map first_word labels)
  classed_all f j s k =
      let ps = map first_word labels in
      (place f j s k).are.have.count ∙ (ap (λ n. length (states_with ps (kid_presence sig f j) 0 n)) (sym (length-map labels first_word)) ∙ states_counted ps (kid_presence sig f j))

  -- a state's class at a place
  class : (f : TupleSymbol) (j q : ℕ) → MayBeKid sig columns (map first_word labels) f j q → HasClass key (view f j) labels (view_leaders l (view_at l f j)) (classes_with l.views.items (view_at l f j)) (get_or l.ranks.items q 0) q
  class f j q may =
      let at = place f j may.symbol may.place in
      class_of key (view f j) labels (kid_presence sig f j) at.keys (view_leaders l (view_at l f j)) (classes_with l.views.items (view_at l f j)) at.are l.ranks.items q ranks (omega (arith, may.within, length-map labels first_word)) may.presence

  leaders_are : AreLeaders sig columns (map first_word labels) (leaders_by (keys_by view key) labels)
  leaders_are = AreLeaders-by sig columns (keys_by view key) labels

  -- its leader there
  pub lead_is : (f : TupleSymbol) (j q : ℕ) → MayBeKid sig columns (map first_word labels) f j q → lead_of l f j q ≡ leaders_by (keys_by view key) labels f j q
  lead_is f j q may = (class f j q may).leader

  -- which may stand there
  leader_may : (f : TupleSymbol) (j q : ℕ) → MayBeKid sig columns (map first_word labels) f j q → MayBeKid sig columns (map first_word labels) f j (leaders_by (keys_by view key) labels f j q)
  leader_may f j q may = record { symbol = may.symbol; place = may.place; within = omega (arith, leaders_are.least f j q may, may.within); presence = leaders_are.presence f j q may }

  pub lead_may : (f : TupleSymbol) (j q : ℕ) → MayBeKid sig columns (map first_word labels) f j q → MayBeKid sig columns (map first_word labels) f j (lead_of l f j q)
  lead_may f j q may = subst (MayBeKid sig columns (map first_word labels) f j) (sym (lead_is f j q may)) (leader_may f j q may)

  pub is_classed : (f : TupleSymbol) (j q : ℕ) → MayBeKid sig columns (map first_word labels) f j q → IsClassed l (view_at l f j) q
  is_classed f j q may =
      let r = leaders_by (keys_by view key) labels f j q in
      let n = view_at l f j in
      let at = place f j may.symbol may.place in
      let own = class f j q may in
      let its = class f j r (leader_may f j q may) in
      let same : leader_in l n r ≡ leader_in l n q = its.leader ∙ (leaders_are.itself f j q may ∙ sym own.leader) in
      let one : class_in l n r ≡ class_in l n q = leaders_apart key (view f j) labels (kid_presence sig f j) at.keys (view_leaders l n) (classes_with l.views.items n) at.are (class_in l n r) (class_in l n q) its.class_low own.class_low same in
      record {
        rank = own.rank_low;
        class = own.class_low;
        least = omega (arith, own.leader, leaders_are.least f j q may);
        own = ap (class_in l n) own.leader ∙ one;
      }

  -- a class's leader may stand at the place, and is of the class
  own_leader : (f : TupleSymbol) (j c : ℕ) → IsTupleSymbol sig columns f → j < symbol_kids sig f → c < length (view_leaders l (view_at l f j)) → IsLeader key (view f j) labels (kid_presence sig f j) (leader_at l f j c)
  own_leader f j c s k low =
      let at = place f j s k in
      leader_of key (view f j) labels (kid_presence sig f j) at.keys (view_leaders l (view_at l f j)) (classes_with l.views.items (view_at l f j)) at.are c low

  pub own_may : (f : TupleSymbol) (j c : ℕ) → IsTupleSymbol sig columns f → j < symbol_kids sig f → c < length (view_leaders l (view_at l f j)) → MayBeKid sig columns (map first_word labels) f j (leader_at l f j c)
  own_may f j c s k low =
      let is = own_leader f j c s k low in
      record { symbol = s; place = k; within = omega (arith, is.within, length-map labels first_word); presence = is.presence_is }

  pub own_class : (f : TupleSymbol) (j c : ℕ) → IsTupleSymbol sig columns f → j < symbol_kids sig f → c < length (view_leaders l (view_at l f j)) → class_at l f j (leader_at l f j c) ≡ c
  own_class f j c s k low =
      let n = view_at l f j in
      let at = place f j s k in
      let r = leader_at l f j c in
      let has = class f j r (own_may f j c s k low) in
      leaders_apart key (view f j) labels (kid_presence sig f j) at.keys (view_leaders l n) (classes_with l.views.items n) at.are (class_in l n r) c has.class_low low (has.leader ∙ (own_leader f j c s k low).leads)

  pub own_rise : (f : TupleSymbol) (j c d : ℕ) → IsTupleSymbol sig columns f → j < symbol_kids sig f → c < d → d < length (view_leaders l (view_at l f j)) → leader_at l f j c < leader_at l f j d
  own_rise f j c d s k less low =
      let at = place f j s k in
      leaders_rise key (view f j) labels (kid_presence sig f j) at.keys (view_leaders l (view_at l f j)) (classes_with l.views.items (view_at l f j)) at.are c d less low

  module _ (es : List Entry) (qs : List ℕ) (b : HasBlocks sig columns (l.base ^ columns) es qs l.views.items l.starts.items l.numbers.items l.blocks) where
    lists_long : (f : TupleSymbol) → IsTupleSymbol sig columns f → length (leaders_under sig columns l.views.items l.starts.items l.numbers.items (number_of l.base f)) ≡ symbol_kids sig f
    lists_long f s =
        let n = number f s in
        lists_count view key labels sig columns (l.base ^ columns) views l.views.items l.starts.items l.numbers.items p v (number_of l.base f) n.low ∙ ap (symbol_kids sig) n.is

    list_at : (f : TupleSymbol) (j : ℕ) → IsTupleSymbol sig columns f → j < symbol_kids sig f → get_or (leaders_under sig columns l.views.items l.starts.items l.numbers.items (number_of l.base f)) j [] ≡ view_leaders l (view_at l f j)
    list_at f j s k =
        let n = number f s in
        lists_read view key labels sig columns (l.base ^ columns) views l.views.items l.starts.items l.numbers.items p v (number_of l.base f) n.low j (omega (arith, k, ap (symbol_kids sig) n.is))

    -- the counts of a tuple symbol's block
    pub counts_of : (f : TupleSymbol) → IsTupleSymbol sig columns f → counts_at l.blocks (number_of l.base f) ≡ tabulate (symbol_kids sig f) (λ j. length (view_leaders l (view_at l f j)))
    counts_of f s =
        let m = number_of l.base f in
        let lss = leaders_under sig columns l.views.items l.starts.items l.numbers.items m in
        let of : ℕ → ℕ = λ j. length (view_leaders l (view_at l f j)) in
        let long = length-map lss (length {A = ℕ}) in
        b.counts m (number f s).low
        ∙ ext_get_or 0 (map (length {A = ℕ}) lss) (tabulate (symbol_kids sig f) of) (long ∙ (lists_long f s ∙ sym (length-tabulate (symbol_kids sig f) of)))
        (λ j k. let low : j < symbol_kids sig f = omega (arith, k, long, lists_long f s) in
        get_or-map (length {A = ℕ}) lss j [] 0 (omega (arith, k, long)) ∙ (ap (length {A = ℕ}) (list_at f j s low) ∙ sym (get_or-tabulate (symbol_kids sig f) of j 0 low)))

    module _ (e : Entry) (s : IsTupleSymbol sig columns e.symbol) (long : length e.kids ≡ symbol_kids sig e.symbol) (may : (j : ℕ) → j < length e.kids → MayBeKid sig columns (map first_word labels) e.symbol j (get_or e.kids j 0)) where
      classes_long : length (kid_classes l e) ≡ length e.kids
      classes_long = length-tabulate (length e.kids) (λ j. class_at l e.symbol j (get_or e.kids j 0))

      class_read : (j : ℕ) → j < length e.kids → get_or (kid_classes l e) j 0 ≡ class_at l e.symbol j (get_or e.kids j 0)
      class_read j k = get_or-tabulate (length e.kids) (λ i. class_at l e.symbol i (get_or e.kids i 0)) j 0 k

      -- its children's classes are a combination
      combined : AreClasses (map (length {A = ℕ}) (leaders_under sig columns l.views.items l.starts.items l.numbers.items (number_of l.base e.symbol))) (kid_classes l e)
      combined =
          let lss = leaders_under sig columns l.views.items l.starts.items l.numbers.items (number_of l.base e.symbol) in
          let wide = length-map lss (length {A = ℕ}) in
          classes_from (map (length {A = ℕ}) lss) (kid_classes l e) (omega (arith, classes_long, long, wide, lists_long e.symbol s))
          (λ j k.
          let low : j < length e.kids = omega (arith, k, wide, lists_long e.symbol s, long) in
          let count = get_or-map (length {A = ℕ}) lss j [] 0 (omega (arith, k, wide)) in
          omega (arith, class_read j low, count, ap (length {A = ℕ}) (list_at e.symbol j s (omega (arith, low, long))), (class e.symbol j (get_or e.kids j 0) (may j low)).class_low))

      -- and their leaders are those of the led entry
      over_is : entry e.symbol (leaders_over (leaders_under sig columns l.views.items l.starts.items l.numbers.items (number_of l.base e.symbol)) (kid_classes l e)) ≡ led (leaders_by (keys_by view key) labels) e
      over_is =
          let lss = leaders_under sig columns l.views.items l.starts.items l.numbers.items (number_of l.base e.symbol) in
          let of : ℕ → ℕ = λ j. get_or (get_or lss j []) (get_or (kid_classes l e) j 0) 0 in
          let lead : ℕ → ℕ = λ j. leaders_by (keys_by view key) labels e.symbol j (get_or e.kids j 0) in
          let wide = length-tabulate (length lss) of in
          ap (entry e.symbol) (ext_get_or 0 (leaders_over lss (kid_classes l e)) (tabulate (length e.kids) lead) (omega (arith, wide, lists_long e.symbol s, long, length-tabulate (length e.kids) lead))
          (λ j k.
          let low : j < length e.kids = omega (arith, k, wide, lists_long e.symbol s, long) in
          get_or-tabulate (length lss) of j 0 (omega (arith, k, wide))
          ∙ (ap (λ (xs : List ℕ). get_or xs (get_or (kid_classes l e) j 0) 0) (list_at e.symbol j s (omega (arith, low, long)))
          ∙ (ap (λ (c : ℕ). get_or (view_leaders l (view_at l e.symbol j)) c 0) (class_read j low)
          ∙ (lead_is e.symbol j (get_or e.kids j 0) (may j low) ∙ sym (get_or-tabulate (length e.kids) lead j 0 low))))))

      -- Result: the block has the target of the led entry
      pub target_of_led : target_of l.blocks (number_of l.base e.symbol) (kid_classes l e) ≡ target_in es qs (led (leaders_by (keys_by view key) labels) e)
      target_of_led =
          let n = number e.symbol s in
          let m = number_of l.base e.symbol in
          let lss = leaders_under sig columns l.views.items l.starts.items l.numbers.items m in
          let filled = b.filled m n.low (subst (λ (g : TupleSymbol). IsPresent g) (sym n.is) s.present) in
          filled.targets_are (kid_classes l e) combined
          ∙ ap (target_in es qs) (ap (λ (g : TupleSymbol). entry g (leaders_over lss (kid_classes l e))) n.is ∙ over_is)

-- Result: the list is one of the table
pub is_class_list : (view : TupleSymbol → ℕ → List ℕ) (key : List ℕ → List ℕ → List ℕ) (labels : List (List ℕ)) (sig : Signature) (columns : ℕ) (views : Views) (l : ClassList) (m : Made) (body : Table) → l.base ≡ length sig + 1 → 8 * (l.base ^ columns) ≤ 2 ^ 32
    → HasPlaces view sig columns (l.base ^ columns) views l.starts.items l.numbers.items → AreClassViews key labels (map sight views.views.items) l.views.items → AreRanks (map first_word labels) l.ranks.items
    → HasBlocks sig columns (l.base ^ columns) m.entries m.targets l.views.items l.starts.items l.numbers.items l.blocks
    → IsLedBody sig columns (leaders_by (keys_by view key) labels) m body → m.presences ≡ map first_word labels → IsClassListOf body l
is_class_list view key labels sig columns views l m body base_is few p v ranks b h presences =
    let ps : body.presences ≡ map first_word labels = h.presences ∙ presences in
    let width : l.base ^ body.columns ≡ l.base ^ columns = ap (λ n. l.base ^ n) h.columns_are in
    let symbol : (f : TupleSymbol) → IsTupleSymbol body.signature body.columns f → IsTupleSymbol sig columns f = λ f s.
    subst (λ (n : ℕ). IsTupleSymbol sig n f) h.columns_are (subst (λ (g : Signature). IsTupleSymbol g body.columns f) h.signature s) in
    let kid : (f : TupleSymbol) (j q : ℕ) → MayBeKid body.signature body.columns body.presences f j q → MayBeKid sig columns (map first_word labels) f j q = λ f j q may.
    subst (λ (xs : List ℕ). MayBeKid sig columns xs f j q) ps (subst (λ (n : ℕ). MayBeKid sig n body.presences f j q) h.columns_are (subst (λ (g : Signature). MayBeKid g body.columns body.presences f j q) h.signature may)) in
    let back : (f : TupleSymbol) (j q : ℕ) → MayBeKid sig columns (map first_word labels) f j q → MayBeKid body.signature body.columns body.presences f j q = λ f j q may.
    subst (λ (g : Signature). MayBeKid g body.columns body.presences f j q) (sym h.signature) (subst (λ (n : ℕ). MayBeKid sig n body.presences f j q) (sym h.columns_are) (subst (λ (xs : List ℕ). MayBeKid sig columns xs f j q) (sym ps) may)) in
    let kids : (f : TupleSymbol) → symbol_kids body.signature f ≡ symbol_kids sig f = λ f. ap (λ (g : Signature). symbol_kids g f) h.signature in
    record {
      base_is = omega (arith, base_is, ap length h.signature);
      few = omega (arith, few, width);
      starts_all = p.count ∙ sym width;
      blocks_all = b.count ∙ sym width;
      ranks_are = ranks_same body.presences l.ranks.items (subst (λ (xs : List ℕ). AreRanks xs l.ranks.items) (sym ps) ranks);
      few_views = omega (arith, few, p.few, v.count, length-map views.views.items sight);
      views_are = λ f j s k. has_view view key labels sig columns views l base_is p v ranks f j (symbol f s) (omega (arith, k, kids f));
      classes_all = λ f j s k.
          classed_all view key labels sig columns views l base_is p v ranks f j (symbol f s) (omega (arith, k, kids f))
          ∙ (ap (λ w. count_of w (map first_word labels)) (ap (λ (g : Signature). kid_presence g f j) (sym h.signature)) ∙ ap (count_of (kid_presence body.signature f j)) (sym ps));
      counts_are = λ f s. counts_of view key labels sig columns views l base_is p v ranks m.entries m.targets b f (symbol f s) ∙ ap (λ n. tabulate n (λ j. length (view_leaders l (view_at l f j)))) (sym (kids f));
      classed = λ f j q may. is_classed view key labels sig columns views l base_is p v ranks f j q (kid f j q may);
      presence_is = λ f j q may. (back f j (lead_of l f j q) (lead_may view key labels sig columns views l base_is p v ranks f j q (kid f j q may))).presence;
      targets_are = λ e is.
          target_of_led view key labels sig columns views l base_is p v ranks m.entries m.targets b e (symbol e.symbol is.symbol) (is.count ∙ kids e.symbol)
          (λ j k. kid e.symbol j (get_or e.kids j 0) (record { symbol = is.symbol; place = omega (arith, k, is.count); within = is.within j k; presence = is.presence j k }))
          ∙ sym (h.target e is);
    }

-- Result: its classes are led by their own states
pub has_own_leaders : (view : TupleSymbol → ℕ → List ℕ) (key : List ℕ → List ℕ → List ℕ) (labels : List (List ℕ)) (sig : Signature) (columns : ℕ) (views : Views) (l : ClassList) (m : Made) (body : Table) → l.base ≡ length sig + 1
    → HasPlaces view sig columns (l.base ^ columns) views l.starts.items l.numbers.items → AreClassViews key labels (map sight views.views.items) l.views.items → AreRanks (map first_word labels) l.ranks.items
    → IsLedBody sig columns (leaders_by (keys_by view key) labels) m body → m.presences ≡ map first_word labels → HasOwnLeaders body l
has_own_leaders view key labels sig columns views l m body base_is p v ranks h presences =
    let ps : body.presences ≡ map first_word labels = h.presences ∙ presences in
    let symbol : (f : TupleSymbol) → IsTupleSymbol body.signature body.columns f → IsTupleSymbol sig columns f = λ f s.
    subst (λ (n : ℕ). IsTupleSymbol sig n f) h.columns_are (subst (λ (g : Signature). IsTupleSymbol g body.columns f) h.signature s) in
    let back : (f : TupleSymbol) (j q : ℕ) → MayBeKid sig columns (map first_word labels) f j q → MayBeKid body.signature body.columns body.presences f j q = λ f j q may.
    subst (λ (g : Signature). MayBeKid g body.columns body.presences f j q) (sym h.signature) (subst (λ (n : ℕ). MayBeKid sig n body.presences f j q) (sym h.columns_are) (subst (λ (xs : List ℕ). MayBeKid sig columns xs f j q) (sym ps) may)) in
    let kids : (f : TupleSymbol) → symbol_kids body.signature f ≡ symbol_kids sig f = λ f. ap (λ (g : Signature). symbol_kids g f) h.signature in
    record {
      may = λ f j c at. back f j (leader_at l f j c) (own_may view key labels sig columns views l base_is p v ranks f j c (symbol f at.symbol) (omega (arith, at.place, kids f)) at.class);
      own = λ f j c at. own_class view key labels sig columns views l base_is p v ranks f j c (symbol f at.symbol) (omega (arith, at.place, kids f)) at.class;
      rises = λ f j c d at less. own_rise view key labels sig columns views l base_is p v ranks f j c d (symbol f at.symbol) (omega (arith, at.place, kids f)) less at.class;
    }
