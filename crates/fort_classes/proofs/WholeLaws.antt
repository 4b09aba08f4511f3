-- Leading entries with targets stand for a whole table: it lists each entry, and numbers its states in the same order by the same first entries.
use Rattle.std.proofs.Common.{◌≡◌, ℕ, ◌<◌, ◌≤◌, List, length, get_or, Bool, ap, sym, ◌∙◌, arith, subst, ⊎_elim}
use Rattle.std.proofs.lemmas.Bool.{cases_lt}
use Rattle.std.proofs.lemmas.List.{length-map, get_or-map, get_or_default}
use Rattle.fort_theory.specs.Signatures.{Signature}
use Rattle.fort_tables.specs.Tuples.{presence}
use Rattle.fort_tables.specs.Entries.{Entry, IsEntry, ComesBefore, AreInOrder}
use Rattle.fort_tables.specs.Tables.{Made, listed_table, finished, target_in, IsTable, IsFirstWith, IsListed, IsComplete, AreFinals}
use Rattle.fort_tables.proofs.EntryLaws.{Found, target_found}
use Rattle.fort_tables.proofs.OrderLaws.{order_one, before_irrefl, before_trans, before_apart}
use Rattle.fort_tables.proofs.ReachLaws.{HasFirst, reached_from_firsts}
use Rattle.fort_tables.specs.Laid.{all_entries}
use Rattle.fort_tables.proofs.AllEntries.{all_in_order, all_there}
use Rattle.fort_classes.specs.Leaders.{Leaders, led, Leads}
use Rattle.fort_classes.specs.LedTables.{IsLeadingMade, IsLeadingComplete, led_target, whole}
use Rattle.fort_classes.proofs.LeaderLaws.{led_itself, IsLeading-led, led_first}

-- in a list in order, what comes before stands before
pub place_before : (sig : Signature) (n : ℕ) (ps : List ℕ) (entries : List Entry) (i j : ℕ) (d : Entry) → AreInOrder sig n ps entries → i < length entries → j < length entries → ComesBefore (get_or entries i d) (get_or entries j d) → i < j
place_before sig n ps entries i j d o l m b = ⊎_elim
    (λ r. r)
    (λ r. ⊎_elim
    (λ s. absurd (before_irrefl (get_or entries i d) (before_trans (get_or entries i d) (get_or entries j d) (get_or entries i d) b (o.order j i d s l))))
    (λ s. let same : i ≡ j = omega arith in absurd (before_apart (get_or entries i d) (get_or entries j d) b (ap (λ k. get_or entries k d) same)))
    (cases_lt j i))
    (cases_lt i j)

module _ (lead : Leaders) (m : Made) (is : IsLeadingMade lead m) (all : IsLeadingComplete lead m) where
  pub led_found : (e : Entry) → IsEntry m.signature m.columns m.presences e → Found m.entries m.targets (led lead e)
  led_found e h = let c = all (led lead e) (IsLeading-led m.signature m.columns m.presences lead is.leaders e h) in target_found m.entries m.targets (led lead e) c.0 c.1 c.2 (omega (arith, is.count))

  count_whole : length (whole lead m).targets ≡ length (whole lead m).entries
  count_whole = length-map (all_entries m.signature m.columns m.presences) (led_target lead m)

  -- the target at a place is that of the led entry there
  pub target_at : (k : ℕ) (d : Entry) → k < length (whole lead m).entries → get_or (whole lead m).targets k 0 ≡ led_target lead m (get_or (whole lead m).entries k d)
  target_at k d l = get_or-map (led_target lead m) (all_entries m.signature m.columns m.presences) k d 0 l

  -- Result: the whole table's target of an entry is that of its led entry
  pub target_whole : (e : Entry) → IsEntry m.signature m.columns m.presences e → target_in (whole lead m).entries (whole lead m).targets e ≡ led_target lead m e
  target_whole e h =
      let c = all_there m.signature m.columns m.presences e h in
      let f = target_found (whole lead m).entries (whole lead m).targets e c.0 c.1 c.2 (omega (arith, count_whole)) in
      f.target ∙ (target_at f.place e f.within ∙ ap (led_target lead m) f.is)

  -- the place of a first entry, found by a look-up
  pub first_target : (q : ℕ) (e : Entry) → IsFirstWith m.entries m.targets q e → target_in m.entries m.targets e ≡ q
  first_target q e f =
      let within : f.place < length m.entries = omega (arith, f.within, is.count) in
      let at = target_found m.entries m.targets e f.place within (f.is e) (omega (arith, is.count)) in
      let same : at.place ≡ f.place = order_one m.signature m.columns m.presences m.entries at.place f.place e is.order at.within within (at.is ∙ sym (f.is e)) in
      at.target ∙ (ap (λ i. get_or m.targets i 0) same ∙ f.target)

  pub first_is_entry : (q : ℕ) (e : Entry) → IsFirstWith m.entries m.targets q e → IsEntry m.signature m.columns m.presences e
  first_is_entry q e f = subst (IsEntry m.signature m.columns m.presences) (f.is e) (is.order.are f.place e (omega (arith, f.within, is.count)))

  pub first_is_leading : (q : ℕ) (e : Entry) → IsFirstWith m.entries m.targets q e → Leads lead e
  first_is_leading q e f = subst (Leads lead) (f.is e) (is.lead_each f.place e (omega (arith, f.within, is.count)))

  -- Result: the first leading entry with a target is the first of all entries with it
  pub first_whole : (q : ℕ) (e : Entry) → IsFirstWith m.entries m.targets q e → IsFirstWith (whole lead m).entries (whole lead m).targets q e
  first_whole q e f =
      let es = all_entries m.signature m.columns m.presences in
      let order = all_in_order m.signature m.columns m.presences in
      let c = all_there m.signature m.columns m.presences e (first_is_entry q e f) in
      let within : f.place < length m.entries = omega (arith, f.within, is.count) in
      record {
        place = c.0;
        within = omega (arith, c.1, count_whole);
        target = target_at c.0 e c.1 ∙ (ap (led_target lead m) c.2 ∙ (ap (target_in m.entries m.targets) (led_itself lead e (first_is_leading q e f)) ∙ first_target q e f));
        before = λ j l.
            let low : j < length es = omega (arith, c.1) in
            let x = get_or es j e in
            let h = order.are j e low in
            let r = led_found x h in
            let earlier : ComesBefore x e = subst (λ (y : Entry). ComesBefore x y) c.2 (order.order j c.0 e l c.1) in
            let before : ComesBefore (led lead x) e = ⊎_elim
            (λ s. subst (λ (y : Entry). ComesBefore y e) (sym s) earlier)
            (λ b. before_trans (led lead x) x e b earlier)
            (led_first m.signature m.columns m.presences lead is.leaders x h) in
            let here : get_or m.entries r.place e ≡ led lead x = get_or_default m.entries r.place e (led lead x) r.within ∙ r.is in
            let less : r.place < f.place = place_before m.signature m.columns m.presences m.entries r.place f.place e is.order r.within within
            (subst (λ (y : Entry). ComesBefore y (get_or m.entries f.place e)) (sym here) (subst (λ (y : Entry). ComesBefore (led lead x) y) (sym (f.is e)) before)) in
            omega (arith, target_at j e low, r.target, f.before r.place less);
        is = λ d. get_or_default es c.0 d e c.1 ∙ c.2;
      }

  whole_is_table : (finals : List Bool) → 0 < m.columns → m.columns ≤ 16 → AreFinals m finals → IsTable (listed_table (finished (whole lead m) finals))
  whole_is_table finals some narrow f = record {
    some = some;
    narrow = narrow;
    within = λ e h. let r = led_found e h in omega (arith, target_whole e h, r.target, is.within r.place (omega (arith, r.within, is.count)));
    presence = λ e h.
        let r = led_found e h in
        ap (λ q. get_or m.presences q 0) (target_whole e h ∙ r.target)
        ∙ (is.presence_is r.place (led lead e) (omega (arith, r.within, is.count)) ∙ ap (λ (x : Entry). presence x.symbol) r.is);
    full = f.full;
  }

  whole_has_first : (finals : List Bool) (q : ℕ) → q < length m.presences → HasFirst (listed_table (finished (whole lead m) finals)) q
  whole_has_first finals q l =
      let f = is.firsts q l in
      let h = first_is_entry q f.first f.is in
      record {
        first = f.first;
        is_entry = h;
        target = target_whole f.first h ∙ (ap (target_in m.entries m.targets) (led_itself lead f.first (first_is_leading q f.first f.is)) ∙ first_target q f.first f.is);
        earlier = f.earlier;
      }

  pub IsComplete-whole : IsComplete (whole lead m)
  IsComplete-whole = all_there m.signature m.columns m.presences

  -- Result: the whole table is listed
  pub IsListed-whole : (finals : List Bool) → 0 < m.columns → m.columns ≤ 16 → AreFinals m finals → IsListed (finished (whole lead m) finals)
  IsListed-whole finals some narrow f =
      let t = whole_is_table finals some narrow f in
      record {
        order = all_in_order m.signature m.columns m.presences;
        all = IsComplete-whole;
        count = count_whole;
        table = t;
        reached = reached_from_firsts (listed_table (finished (whole lead m) finals)) t (λ q l. whole_has_first finals q l);
        numbered = λ q l. let g = is.firsts q l in (g.first, first_whole q g.first g.is);
      }
