-- What is made by leading entries alone, from its beginning to the whole table.
use Rattle.std.proofs.Common.{◌≡◌, ℕ, ◌<◌, ◌≤◌, ◌^◌, List, [], length, get_or, Bool, refl, ap, sym, ◌∙◌, arith, subst}
use Rattle.std.proofs.lemmas.List.{length-map}
use Rattle.fort_theory.specs.Signatures.{Signature}
use Rattle.fort_tables.specs.Tuples.{TupleSymbol, presence}
use Rattle.fort_tables.specs.Entries.{Entry, IsEntry}
use Rattle.fort_tables.specs.Tables.{Made, Listed, IsComplete, AreFinals, IsListed, finished, full_presence}
use Rattle.fort_tables.specs.Labels.{Labelling, first_word, TellsPresence}
use Rattle.fort_tables.proofs.PresenceLaws.{presence_bound}
use Rattle.fort_classes.specs.Keys.{GoesByEachKey, leaders_by}
use Rattle.fort_classes.specs.Leaders.{Leaders}
use Rattle.fort_classes.specs.LedTables.{whole}
use Rattle.fort_classes.proofs.LabelKeyLaws.{GoesByKeys-each}
use Rattle.fort_label_keys.specs.ViewKeys.{keys_by}
use Rattle.fort_views.specs.Ranks.{AreRanks}
use Rattle.fort_views.specs.SymbolViews.{AreViewsOf}
use Rattle.fort_views.specs.declared.views.Views.{Views}
use Rattle.fort_leading_tables.specs.EntryNumbers.{AreTargetsOf}
use Rattle.fort_leading_tables.specs.LeadingMaking.{Turned, IsMakerOf, none_made}
use Rattle.fort_leading_tables.specs.Replays.{IsReplaying}
use Rattle.fort_leading_tables.specs.declared.leading_maker.LeadingMaker.{LeadingMaker}
use Rattle.fort_leading_tables.specs.declared.leading_targets.LeadingTargets.{LeadingTargets}
use Rattle.fort_leading_tables.proofs.ReplayLaws.{replay_none, replay_all, replay_whole}
use Rattle.fort_explore.specs.Exploring.{IsFound, AreLabelFinals}
use Rattle.fort_explore.specs.LeadingLoops.{IsLeadingLoop, IsLeadingEnd, IsLeadingTable}
use Rattle.fort_explore.specs.LedTargets.{AreLedTargets}
use Rattle.fort_explore.proofs.ExploreLaws.{exploring_none, exploring_finals}
use Rattle.fort_explore.proofs.LeadingLaws.{leading_none, IsFound-leading}

-- Result: before the first entry
pub leading_start : (sig : Signature) (n : ℕ) (label : Labelling) (t : Turned) (labels : List (List ℕ)) (firsts : List Entry) (a : LeadingMaker) → labels ≡ [] → firsts ≡ [] → IsMakerOf t [] (none_made sig n) a → IsLeadingLoop sig n label t labels firsts a
leading_start sig n label t labels firsts a ls fs k = record {
  made = none_made sig n;
  signature = refl;
  columns_are = refl;
  exploring = leading_none sig n label t.keys (leaders_by t.keys labels) (none_made sig n) firsts labels (exploring_none sig n label (none_made sig n) firsts labels refl refl refl refl refl fs ls) ls;
  maker = subst (λ (ws : List (List ℕ)). IsMakerOf t ws (none_made sig n) a) (sym ls) k;
}

-- Result: what is made in the end, without what knew the leaders
pub leading_table : (sig : Signature) (n : ℕ) (label : Labelling) (t : Turned) (labels : List (List ℕ)) (firsts : List Entry) (a : LeadingMaker) (cap : ℕ) → IsLeadingEnd sig n label t labels firsts a cap → IsLeadingTable sig n label t.keys labels firsts a cap
leading_table sig n label t labels firsts a cap x = record {
  made = x.made;
  narrow = x.maker.narrow;
  presences_are = x.maker.presences_are;
  targets_are = x.maker.targets_are;
  first_entries = x.maker.firsts;
  is = x.maker.made;
  whole = x.whole;
}

-- an entry over the states given so far is one over all states
pub entry_of_all : (lead : Leaders) (m r : Made) (e : Entry) → IsReplaying lead m r → IsEntry r.signature r.columns r.presences e → IsEntry m.signature m.columns m.presences e
entry_of_all lead m r e re h =
    let t : IsEntry m.signature m.columns r.presences e = subst (λ (s : Signature). IsEntry s m.columns r.presences e) re.signature (subst (λ (c : ℕ). IsEntry r.signature c r.presences e) re.columns_are h) in
    record {
      symbol = t.symbol;
      count = t.count;
      within = λ j l. omega (arith, t.within j l, re.few);
      presence = λ j l. sym (re.presences (get_or e.kids j 0) (t.within j l)) ∙ t.presence j l;
    }

module _ (sig : Signature) (n : ℕ) (label : Labelling) (view : TupleSymbol → ℕ → List ℕ) (key : List ℕ → List ℕ → List ℕ) (labels : List (List ℕ)) (firsts : List Entry) (a : LeadingMaker) (cap : ℕ) (x : IsLeadingTable sig n label (keys_by view key) labels firsts a cap) where
  -- as many states as labels
  pub table_count : length a.presences.items ≡ length labels
  table_count = ap length (sym x.presences_are) ∙ (ap length x.whole.exploring.exploring.presences ∙ length-map labels first_word)

  -- Result: the presences are those of so many columns
  pub table_presence : (q : ℕ) → q < length a.presences.items → get_or a.presences.items q 0 < 2 ^ n
  table_presence q l =
      let h = x.is.firsts q (omega (arith, l, ap length x.presences_are)) in
      let k = h.is.place in
      let e = get_or x.made.entries k h.first in
      let symbol : length e.symbol ≡ n = (x.is.order.are k h.first (omega (arith, h.is.within, x.is.count))).symbol.width ∙ x.whole.exploring.exploring.columns_are in
      let own : get_or a.presences.items q 0 ≡ presence e.symbol = ap (λ (ps : List ℕ). get_or ps q 0) (sym x.presences_are) ∙ (ap (λ r. get_or x.made.presences r 0) (sym h.is.target) ∙ x.is.presence_is k h.first h.is.within) in
      let bound : presence e.symbol < 2 ^ length e.symbol = presence_bound e.symbol in
      subst (λ c. get_or a.presences.items q 0 < 2 ^ c) symbol (omega (arith, own, bound))

  -- Result: the targets of all entries, with views that have taken up no state
  pub led_targets_of : (views : Views) (presences ranks : List ℕ) (targets : LeadingTargets) → AreViewsOf view key sig n labels 0 views → presences ≡ a.presences.items → AreRanks a.presences.items ranks → targets ≡ a.targets → AreLedTargets view key labels x.made views presences ranks targets
  led_targets_of views presences ranks targets known ps rs ts =
      let at = x.whole.exploring.exploring in
      record {
        until = 0;
        known = subst (λ (s : Signature). AreViewsOf view key s x.made.columns labels 0 views) (sym at.signature) (subst (λ (c : ℕ). AreViewsOf view key sig c labels 0 views) (sym at.columns_are) known);
        within = omega arith;
        presences_are = x.presences_are ∙ sym ps;
        by_labels = at.presences;
        ranks_are = subst (λ (l : List ℕ). AreRanks l ranks) (sym ps) rs;
        targets_are = subst (λ (t : LeadingTargets). AreTargetsOf x.made.columns x.made.entries x.made.targets t) (sym ts) x.targets_are;
        made = x.is;
        complete = x.whole.complete;
      }

  module _ (r : Made) where
    -- Result: nothing is given yet
    pub table_none : r.signature ≡ sig → r.columns ≡ n → r.presences ≡ [] → r.entries ≡ [] → r.targets ≡ [] → IsReplaying (leaders_by (keys_by view key) labels) x.made r
    table_none s c ps es ts =
        let at = x.whole.exploring.exploring in
        replay_none (leaders_by (keys_by view key) labels) x.made r (s ∙ sym at.signature) (c ∙ sym at.columns_are) ps es ts

    module _ (accepting : List ℕ → Bool) (finals : List Bool) (f : AreLabelFinals n accepting labels finals) (re : IsReplaying (leaders_by (keys_by view key) labels) x.made r) (complete : IsComplete r) where
      -- Result: the finals are those of what is given
      pub table_finals : AreFinals r finals
      table_finals =
          let g : AreFinals x.made finals = exploring_finals sig n label accepting x.made firsts labels finals x.whole.exploring.exploring f in
          let count = replay_all (leaders_by (keys_by view key) labels) x.made x.is x.whole.complete r re complete in
          record {
            count = g.count ∙ sym count;
            full = λ q l t. re.presences q l ∙ (g.full q (omega (arith, count)) t ∙ ap full_presence (sym re.columns_are));
          }

      -- Result: the table is the one that has to be found
      pub table_found : (t : Listed) → TellsPresence sig n label → GoesByEachKey sig n label (keys_by view key) → 0 < n → n ≤ 16 → t ≡ finished r finals → IsListed t → IsFound sig n label accepting cap t
      table_found t tells goes some narrow is listed =
          let lead = leaders_by (keys_by view key) labels in
          let own : IsListed (finished r finals) = subst IsListed is listed in
          let same : finished r finals ≡ finished (whole lead x.made) finals = replay_whole lead x.made x.is x.whole.complete r re finals complete own in
          let found = IsFound-leading sig n label (keys_by view key) accepting lead x.made firsts labels cap finals tells (GoesByKeys-each sig n label (keys_by view key) goes) some narrow x.is x.whole f in
          subst (IsFound sig n label accepting cap) (sym (is ∙ same)) found
