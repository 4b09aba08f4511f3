-- An exploration of the leading entries alone is one of the whole table.
use Rattle.std.proofs.Common.{◌≡◌, ℕ, ◌<◌, ◌≤◌, List, [], map, length, get_or, Bool, ap, sym, arith, subst}
use Rattle.std.proofs.lemmas.List.{length-map, get_or-map}
use Rattle.fort_theory.specs.Signatures.{Signature}
use Rattle.fort_tables.specs.Tuples.{TupleSymbol}
use Rattle.fort_tables.specs.Entries.{Entry, IsEntry, tuples_of}
use Rattle.fort_tables.specs.Tables.{Made, finished, IsGiven, AreFinals}
use Rattle.fort_tables.specs.Labels.{Labelling, first_word, TellsPresence}
use Rattle.fort_tables.proofs.EntryLaws.{target_found}
use Rattle.fort_tables.specs.Laid.{all_entries}
use Rattle.fort_tables.proofs.AllEntries.{all_in_order, all_there}
use Rattle.fort_classes.specs.Leaders.{Leaders, MayBeKid, led, IsLeading}
use Rattle.fort_classes.specs.LedTables.{IsLeadingMade, IsLeadingComplete, led_target, whole}
use Rattle.fort_classes.specs.Keys.{Keys, GoesByKeys, AreLabelLeaders}
use Rattle.fort_classes.proofs.LeaderLaws.{IsLeading-led}
use Rattle.fort_classes.proofs.LabelKeyLaws.{GivesLabel-led}
use Rattle.fort_classes.proofs.WholeLaws.{IsListed-whole}
use Rattle.fort_explore.specs.Exploring.{IsExploring, IsPlaced, IsLabelTarget, IsWhole, IsFound, AreLabelFinals}
use Rattle.fort_explore.specs.LeadingExploring.{IsLeadingExploring, IsLeadingWhole}
use Rattle.fort_explore.proofs.KnownLaws.{known_presences}
use Rattle.fort_explore.proofs.ExploreLaws.{exploring_give, exploring_finals, exploring_table, exploring_few}

module _ (sig : Signature) (n : ℕ) (label : Labelling) (key : Keys) (lead : Leaders) (m : Made) (fs : List Entry) (labels : List (List ℕ)) (tells : TellsPresence sig n label) (goes : GoesByKeys sig n label key)
    (x : IsExploring sig n label m fs labels) (ls : AreLabelLeaders sig n key labels lead) (all : IsLeadingComplete lead m) where
  entry_of_made : (e : Entry) → IsEntry m.signature m.columns m.presences e → IsEntry sig n (map first_word labels) e
  entry_of_made e h =
      subst (λ (s : Signature). IsEntry s n (map first_word labels) e) x.signature
      (subst (λ (c : ℕ). IsEntry m.signature c (map first_word labels) e) x.columns_are
      (subst (λ (ps : List ℕ). IsEntry m.signature m.columns ps e) x.presences h))

  leading_in_made : (e : Entry) → IsLeading sig n (map first_word labels) lead e → IsLeading m.signature m.columns m.presences lead e
  leading_in_made e h =
      subst (λ (s : Signature). IsLeading s m.columns m.presences lead e) (sym x.signature)
      (subst (λ (c : ℕ). IsLeading sig c m.presences lead e) (sym x.columns_are)
      (subst (λ (ps : List ℕ). IsLeading sig n ps lead e) (sym x.presences) h))

  -- Result: the led entry's target is right for the entry
  pub target_of_led : (e : Entry) → IsEntry sig n (map first_word labels) e → IsLabelTarget sig n label labels e (led_target lead m e)
  target_of_led e h =
      let c = all (led lead e) (leading_in_made (led lead e) (IsLeading-led sig n (map first_word labels) lead ls.are e h)) in
      let f = target_found m.entries m.targets (led lead e) c.0 c.1 c.2 (omega (arith, x.count)) in
      let here : IsLabelTarget sig n label labels (led lead e) (led_target lead m e) =
      subst (IsLabelTarget sig n label labels (led lead e)) (sym f.target)
      (subst (λ (y : Entry). IsLabelTarget sig n label labels y (get_or m.targets f.place 0)) f.is (x.targets f.place (led lead e) f.within)) in
      record {
        within = here.within;
        gives = GivesLabel-led sig n label key lead (tuples_of fs) labels e (get_or labels (led_target lead m e) []) goes x.known.tuples x.known.are (known_presences sig n label fs labels tells x.known) ls.are ls.keys h here.gives;
      }

  -- Result: the whole table is explored
  pub exploring_whole : IsExploring sig n label (whole lead m) fs labels
  exploring_whole =
      let es = all_entries m.signature m.columns m.presences in
      let are : (k : ℕ) (d : Entry) → k < length es → IsEntry sig n (map first_word labels) (get_or es k d) = λ k d l. entry_of_made (get_or es k d) ((all_in_order m.signature m.columns m.presences).are k d l) in
      record {
        signature = x.signature;
        columns_are = x.columns_are;
        known = x.known;
        nodes = x.nodes;
        presences = x.presences;
        count = length-map es (led_target lead m);
        entries = are;
        targets = λ k d l. subst (IsLabelTarget sig n label labels (get_or es k d)) (sym (get_or-map (led_target lead m) es k d 0 l)) (target_of_led (get_or es k d) (are k d l));
      }

-- Result: an exploration of the leading entries that is whole is whole
pub IsWhole-leading : (sig : Signature) (n : ℕ) (label : Labelling) (key : Keys) (lead : Leaders) (m : Made) (fs : List Entry) (labels : List (List ℕ)) (cap : ℕ) → TellsPresence sig n label → GoesByKeys sig n label key
    → IsLeadingWhole sig n label key lead m fs labels cap → IsWhole sig n label (whole lead m) fs labels cap
IsWhole-leading sig n label key lead m fs labels cap tells goes w = record {
  exploring = exploring_whole sig n label key lead m fs labels tells goes w.exploring.exploring w.exploring.leaders w.complete;
  complete = all_there m.signature m.columns m.presences;
  few = w.few;
}

-- Result: what is found is what an exploration of all entries has to find
pub IsFound-leading : (sig : Signature) (n : ℕ) (label : Labelling) (key : Keys) (accepting : List ℕ → Bool) (lead : Leaders) (m : Made) (fs : List Entry) (labels : List (List ℕ)) (cap : ℕ) (finals : List Bool) → TellsPresence sig n label → GoesByKeys sig n label key
    → 0 < n → n ≤ 16 → IsLeadingMade lead m → IsLeadingWhole sig n label key lead m fs labels cap → AreLabelFinals n accepting labels finals → IsFound sig n label accepting cap (finished (whole lead m) finals)
IsFound-leading sig n label key accepting lead m fs labels cap finals tells goes some narrow made w f =
    let v = IsWhole-leading sig n label key lead m fs labels cap tells goes w in
    let final : AreFinals m finals = exploring_finals sig n label accepting m fs labels finals w.exploring.exploring f in
    record {
      table = exploring_table sig n label accepting (whole lead m) fs labels finals tells v.exploring v.complete f;
      listed = IsListed-whole lead m made w.complete finals (omega (arith, w.exploring.exploring.columns_are)) (omega (arith, w.exploring.exploring.columns_are)) final;
      few = exploring_few sig n label (whole lead m) fs labels cap tells v.exploring v.complete v.few;
    }

-- Result: the loop's step: after a leading entry got its target, with leaders for the states there are then
pub leading_give : (sig : Signature) (n : ℕ) (label : Labelling) (key key' : Keys) (lead lead' : Leaders) (m m' : Made) (fs fs' : List Entry) (labels labels' : List (List ℕ)) (e : Entry) (q : ℕ) → IsLeadingExploring sig n label key lead m fs labels
    → IsEntry m.signature m.columns m.presences e → IsPlaced sig n label labels labels' fs fs' e q → IsGiven m e q m' → AreLabelLeaders sig n key' labels' lead' → IsLeadingExploring sig n label key' lead' m' fs' labels'
leading_give sig n label key key' lead lead' m m' fs fs' labels labels' e q x h p g l = record { exploring = exploring_give sig n label m m' fs fs' labels labels' e q x.exploring h p g; leaders = l }

-- before the first entry
pub leading_none : (sig : Signature) (n : ℕ) (label : Labelling) (key : Keys) (lead : Leaders) (m : Made) (fs : List Entry) (labels : List (List ℕ)) → IsExploring sig n label m fs labels → labels ≡ [] → IsLeadingExploring sig n label key lead m fs labels
leading_none sig n label key lead m fs labels x none =
    let no : (f : TupleSymbol) (j q : ℕ) → MayBeKid sig n (map first_word labels) f j q → ⊥ = λ f j q h. omega (arith, h.within, length-map labels first_word, ap length none) in
    record {
      exploring = x;
      leaders = record {
        are = record { least = λ f j q h. absurd (no f j q h); itself = λ f j q h. absurd (no f j q h); presence = λ f j q h. absurd (no f j q h) };
        keys = λ f j q h. absurd (no f j q h);
      };
    }
