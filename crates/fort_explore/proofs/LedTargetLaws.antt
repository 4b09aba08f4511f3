-- The target of an entry, read off the classes of its children and the targets of the leading entries.
use Rattle.std.proofs.Common.{◌≡◌, ℕ, zero, suc, ◌+◌, ◌<◌, ◌≤◌, List, map, set, take, length, get_or, get_or-set_same, get_or-set_other, ap, sym, ◌∙◌, arith, subst, ⊎_elim}
use Rattle.std.specs.Prelude.{Contains}
use Rattle.std.proofs.lemmas.Bool.{cases_eq}
use Rattle.std.proofs.lemmas.List.{length-map, length-take-le, get_or-take, ext_get_or}
use Rattle.fort_theory.specs.Signatures.{Signature}
use Rattle.fort_tables.specs.Tuples.{TupleSymbol, IsTupleSymbol, symbol_kids, kid_presence, tabulate}
use Rattle.fort_tables.specs.Entries.{Entry, entry, IsEntry}
use Rattle.fort_tables.specs.Tables.{Made, target_in}
use Rattle.fort_tables.specs.Labels.{first_word}
use Rattle.fort_tables.proofs.TupleLaws.{length-tabulate, get_or-tabulate}
use Rattle.fort_tuple_symbols.specs.Columns.{digit_of, symbol_of}
use Rattle.fort_tuple_symbols.proofs.Bounds.{symbol_again}
use Rattle.fort_classes.specs.Leaders.{Leaders, led}
use Rattle.fort_classes.specs.LedTables.{led_target}
use Rattle.fort_classes.specs.Keys.{leaders_by}
use Rattle.fort_classes.proofs.LeaderLaws.{IsLeading-led}
use Rattle.fort_label_keys.specs.ViewKeys.{keys_by}
use Rattle.fort_entry_walk.specs.WalkPlaces.{wants_from, wants}
use Rattle.fort_entry_walk.proofs.WalkLaws.{length-wants_from}
use Rattle.fort_leading_walk.specs.Turns.{MayTurn}
use Rattle.fort_views.specs.Ranks.{AreRanks}
use Rattle.fort_views.specs.SymbolViews.{AreViewsOf, IsTurnedTo}
use Rattle.fort_views.specs.declared.view.View.{View}
use Rattle.fort_views.specs.declared.views.Views.{Views}
use Rattle.fort_leading_tables.specs.declared.leading_targets.LeadingTargets.{LeadingTargets}
use Rattle.fort_explore.specs.LedTargets.{AreLedTargets, AreTurnedKids}

-- numbers that are set one after another
pub set_next : (xs : List ℕ) (i x : ℕ) (f : ℕ → ℕ) → i < length xs → x ≡ f i → ((j : ℕ) → j < i → get_or xs j 0 ≡ f j) → (j : ℕ) → j < i + 1 → get_or (set xs i x) j 0 ≡ f j
set_next xs i x f l e h j m = ⊎_elim
    (λ s. ap (λ k. get_or (set xs i x) k 0) s ∙ (get_or-set_same xs i x 0 l ∙ (e ∙ ap f (sym s))))
    (λ s. get_or-set_other xs i j x 0 s ∙ h j (omega (arith, m, s)))
    (cases_eq j i)

-- the front of the room for eight numbers
pub front_count : (xs ks row : List ℕ) → ks ≡ row → length ks ≤ length xs → length (take (length ks) xs) ≡ length row
front_count xs ks row e few = length-take-le (length ks) xs few ∙ ap length e

pub front_same : (xs ks row : List ℕ) (f : ℕ → ℕ → ℕ) → ks ≡ row → ((j : ℕ) → j < length ks → get_or xs j 0 ≡ f j (get_or ks j 0)) → (j : ℕ) → j < length row → get_or (take (length ks) xs) j 0 ≡ f j (get_or row j 0)
front_same xs ks row f e h j l =
    let low : j < length ks = omega (arith, l, ap length e) in
    get_or-take (length ks) xs j 0 low ∙ (h j low ∙ ap (λ (ys : List ℕ). f j (get_or ys j 0)) e)

-- the presence that is wanted of a child
get_or-wants_from : (sig : Signature) (f : TupleSymbol) (i n j : ℕ) → j < n → get_or (wants_from sig f i n) j 0 ≡ kid_presence sig f (i + j)
get_or-wants_from sig f i zero j l = absurd (omega arith)
get_or-wants_from sig f i (suc n) zero l = let e : i ≡ i + 0 = omega arith in ap (kid_presence sig f) e
get_or-wants_from sig f i (suc n) (suc j) l = let e : i + 1 + j ≡ i + suc j = omega arith in get_or-wants_from sig f (i + 1) n j (omega arith) ∙ ap (kid_presence sig f) e

-- numbers that agree with those of a tabulated list, place by place
tabulated : (xs : List ℕ) (n : ℕ) (f : ℕ → ℕ) → length xs ≡ n → ((j : ℕ) → j < n → get_or xs j 0 ≡ f j) → xs ≡ tabulate n f
tabulated xs n f e h = ext_get_or 0 xs (tabulate n f) (e ∙ sym (length-tabulate n f)) (λ j l. let b : j < n = omega (arith, e) in h j b ∙ sym (get_or-tabulate n f j 0 b))

-- leaders in the children's places, under the entry's digits
led_by : (lead : Leaders) (e : Entry) (ds ks : List ℕ) → ds ≡ map digit_of e.symbol → length ks ≡ length e.kids → ((j : ℕ) → j < length e.kids → get_or ks j 0 ≡ lead e.symbol j (get_or e.kids j 0)) → entry (symbol_of ds) ks ≡ led lead e
led_by lead e ds ks digits count are =
    let symbol : symbol_of ds ≡ e.symbol = ap symbol_of digits ∙ symbol_again e.symbol in
    let kids : ks ≡ tabulate (length e.kids) (λ j. lead e.symbol j (get_or e.kids j 0)) = tabulated ks (length e.kids) (λ j. lead e.symbol j (get_or e.kids j 0)) count are in
    λ i. entry (symbol i) (kids i)

module _ (view : TupleSymbol → ℕ → List ℕ) (key : List ℕ → List ℕ → List ℕ) (labels : List (List ℕ)) (m : Made) (views : Views) (presences ranks : List ℕ) (targets : LeadingTargets) (a : AreLedTargets view key labels m views presences ranks targets) where
  -- the presences are those of the labels
  pub presences_by : presences ≡ map first_word labels
  presences_by = sym a.presences_are ∙ a.by_labels

  pub presences_count : length presences ≡ length labels
  presences_count = ap length presences_by ∙ length-map labels first_word

  module _ (e : Entry) (h : IsEntry m.signature m.columns m.presences e) where
    -- a child is a state
    pub kid_low : (j : ℕ) → j < length e.kids → get_or e.kids j 0 < length presences
    kid_low j l = omega (arith, h.within j l, ap length a.presences_are)

    -- and where there is one, there are states
    pub some_states : 0 < length e.kids → 0 < length labels
    some_states l = omega (arith, kid_low 0 l, presences_count)

    kid_present : (j : ℕ) → j < length e.kids → get_or presences (get_or e.kids j 0) 0 ≡ kid_presence m.signature e.symbol j
    kid_present j l = ap (λ (ps : List ℕ). get_or ps (get_or e.kids j 0) 0) (sym a.presences_are) ∙ h.presence j l

    module _ (ds : List ℕ) (digits : ds ≡ map digit_of e.symbol) where
      symbol_is : symbol_of ds ≡ e.symbol
      symbol_is = ap symbol_of digits ∙ symbol_again e.symbol

      pub digits_width : length ds ≡ m.columns
      digits_width = ap length digits ∙ (length-map e.symbol digit_of ∙ h.symbol.width)

      -- Result: the led entry is listed
      pub led_there : (ks : List ℕ) → length ks ≡ length e.kids → ((j : ℕ) → j < length e.kids → get_or ks j 0 ≡ leaders_by (keys_by view key) labels e.symbol j (get_or e.kids j 0)) → Contains m.entries (entry (symbol_of ds) ks)
      led_there ks count are =
          let lead = leaders_by (keys_by view key) labels in
          subst (Contains m.entries) (sym (led_by lead e ds ks digits count are)) (a.complete (led lead e) (IsLeading-led m.signature m.columns m.presences lead a.made.leaders e h))

      -- Result: its target is the entry's
      pub led_target_is : (ks : List ℕ) → length ks ≡ length e.kids → ((j : ℕ) → j < length e.kids → get_or ks j 0 ≡ leaders_by (keys_by view key) labels e.symbol j (get_or e.kids j 0)) → target_in m.entries m.targets (entry (symbol_of ds) ks) ≡ led_target (leaders_by (keys_by view key) labels) m e
      led_target_is ks count are = ap (target_in m.entries m.targets) (led_by (leaders_by (keys_by view key) labels) e ds ks digits count are)

      module _ (ws : List ℕ) (count : length ws ≡ length e.kids) (are : (j : ℕ) → j < length e.kids → get_or ws j 0 ≡ get_or presences (get_or e.kids j 0) 0) where
        wanted_is : ws ≡ wants m.signature (symbol_of ds)
        wanted_is =
            let n = symbol_kids m.signature e.symbol in
            let own : ws ≡ wants m.signature e.symbol = ext_get_or 0 ws (wants m.signature e.symbol) (count ∙ (h.count ∙ sym (length-wants_from m.signature e.symbol 0 n))) (λ j l.
            let low : j < length e.kids = omega (arith, count) in
            let none : 0 + j ≡ j = omega arith in
            are j low ∙ (kid_present j low ∙ sym (get_or-wants_from m.signature e.symbol 0 n j (omega (arith, low, h.count)) ∙ ap (kid_presence m.signature e.symbol) none))) in
            own ∙ ap (wants m.signature) (sym symbol_is)

        module _ (newest : ℕ) (all : newest + 1 ≡ length labels) where
          -- Result: the views may turn to the entry's symbol
          pub kids_may_turn : MayTurn (λ sig columns labels until. AreViewsOf view key sig columns labels until views) m.signature m.columns labels a.until (symbol_of ds) ws newest
          kids_may_turn = record {
            known = a.known;
            forward = omega (arith, a.within, all);
            symbol = subst (λ (f : TupleSymbol). IsTupleSymbol m.signature m.columns f) (sym symbol_is) h.symbol;
            wanted_are = wanted_is;
          }

          -- Result: and then tell the children's leaders
          pub kids_turned : (vs : List View) (places : List ℕ) → IsTurnedTo view key labels newest (symbol_of ds) ws vs places → AreTurnedKids view key labels e.symbol vs places ranks e.kids
          kids_turned vs places t = record {
            newest = newest;
            wanted = ws;
            turned = subst (λ (f : TupleSymbol). IsTurnedTo view key labels newest f ws vs places) symbol_is t;
            ranks_are = subst (λ (ps : List ℕ). AreRanks ps ranks) presences_by a.ranks_are;
            states = λ j l. record {
              there = omega (arith, l, count);
              within = omega (arith, kid_low j l, presences_count);
              taken = omega (arith, kid_low j l, presences_count, all);
              presence = ap (λ (ps : List ℕ). get_or ps (get_or e.kids j 0) 0) (sym presences_by) ∙ sym (are j l);
            };
          }

  -- Result: the same targets, where the views have taken up all states
  pub led_targets_after : (later : Views) (until : ℕ) → until ≤ length labels → AreViewsOf view key m.signature m.columns labels until later → AreLedTargets view key labels m later presences ranks targets
  led_targets_after later until within known = record {
    until = until;
    known = known;
    within = within;
    presences_are = a.presences_are;
    by_labels = a.by_labels;
    ranks_are = a.ranks_are;
    targets_are = a.targets_are;
    made = a.made;
    complete = a.complete;
  }
