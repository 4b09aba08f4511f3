-- The whole table, of which the leading entries are made, is what has the targets of its led entries.
use Rattle.std.proofs.Common.{◌≡◌, ℕ, ◌<◌, ◌≤◌, List, map, get_or, Bool, refl, sym, ◌∙◌, arith, subst}
use Rattle.std.proofs.lemmas.List.{length-map}
use Rattle.fort_theory.specs.Signatures.{Signature}
use Rattle.fort_tables.specs.Tuples.{TupleSymbol}
use Rattle.fort_tables.specs.Entries.{Entry}
use Rattle.fort_tables.specs.Tables.{Listed, AreFinals, finished, listed_table}
use Rattle.fort_tables.specs.Labels.{Labelling, first_word, TellsPresence}
use Rattle.fort_classes.specs.Keys.{GoesByEachKey, leaders_by}
use Rattle.fort_classes.specs.LedTables.{whole}
use Rattle.fort_classes.proofs.LabelKeyLaws.{GoesByKeys-each}
use Rattle.fort_classes.proofs.WholeLaws.{first_whole, IsListed-whole}
use Rattle.fort_label_keys.specs.ViewKeys.{keys_by}
use Rattle.fort_table.specs.EntryListFacts.{entry_in, entries_in}
use Rattle.fort_leading_tables.specs.declared.leading_maker.LeadingMaker.{LeadingMaker}
use Rattle.fort_class_targets.specs.LedBodies.{IsLedBody}
use Rattle.fort_class_targets.proofs.LedBodyLaws.{IsLedBody-whole}
use Rattle.fort_lockstep.specs.TableParts.{IsMadeOf}
use Rattle.fort_explore.specs.Exploring.{IsFound, AreLabelFinals}
use Rattle.fort_explore.specs.LeadingLoops.{IsLeadingTable}
use Rattle.fort_explore.proofs.ExploreLaws.{exploring_finals}
use Rattle.fort_explore.proofs.LeadingLaws.{IsFound-leading}

module _ (sig : Signature) (n : ℕ) (label : Labelling) (view : TupleSymbol → ℕ → List ℕ) (key : List ℕ → List ℕ → List ℕ) (labels : List (List ℕ)) (firsts : List Entry) (a : LeadingMaker) (cap : ℕ) (x : IsLeadingTable sig n label (keys_by view key) labels firsts a cap) where
  -- the presences are those of the labels
  pub classed_presences : a.presences.items ≡ map first_word labels
  classed_presences = sym x.presences_are ∙ x.whole.exploring.exploring.presences

  module _ (accepting : List ℕ → Bool) (finals : List Bool) (f : AreLabelFinals n accepting labels finals) where
    -- the table
    abbrev pub classed_whole : Listed
    classed_whole = finished (whole (leaders_by (keys_by view key) labels) x.made) finals

    classed_finals : AreFinals x.made finals
    classed_finals = exploring_finals sig n label accepting x.made firsts labels finals x.whole.exploring.exploring f

    -- Result: each of its entries has the target of the led one
    pub classed_body : IsLedBody sig n (leaders_by (keys_by view key) labels) x.made (listed_table classed_whole)
    classed_body =
        let at = x.whole.exploring.exploring in
        let lead = leaders_by (keys_by view key) labels in
        let own = IsLedBody-whole lead x.made finals x.is x.whole.complete in
        subst (λ (s : Signature). IsLedBody s n lead x.made (listed_table classed_whole)) at.signature (subst (λ (c : ℕ). IsLedBody x.made.signature c lead x.made (listed_table classed_whole)) at.columns_are own)

    -- Result: it is made of what the maker has
    pub classed_parts : 0 < n → IsMadeOf classed_whole sig n a.presences.items a.first_entries finals
    classed_parts some =
        let at = x.whole.exploring.exploring in
        let lead = leaders_by (keys_by view key) labels in
        let rows = a.first_entries in
        record {
          listed = IsListed-whole lead x.made x.is x.whole.complete finals (omega (arith, some, at.columns_are)) x.narrow classed_finals;
          signature = sym at.signature;
          columns_are = sym at.columns_are;
          presences_are = sym x.presences_are;
          first_rows = record {
            spans = x.first_entries.spans;
            count = sym (length-map rows.spans.items (entry_in rows.numbers.items)) ∙ x.first_entries.size;
            are = λ q d l. first_whole lead x.made x.is x.whole.complete q (get_or (entries_in rows.numbers.items rows.spans.items) q d) (x.first_entries.are q d l);
          };
          finals_are = refl;
        }

    -- Result: and is the one that has to be found
    pub classed_found : (t : Listed) → TellsPresence sig n label → GoesByEachKey sig n label (keys_by view key) → 0 < n → n ≤ 16 → t ≡ classed_whole → IsFound sig n label accepting cap t
    classed_found t tells goes some narrow is =
        let lead = leaders_by (keys_by view key) labels in
        subst (IsFound sig n label accepting cap) (sym is) (IsFound-leading sig n label (keys_by view key) accepting lead x.made firsts labels cap finals tells (GoesByKeys-each sig n label (keys_by view key) goes) some narrow x.is x.whole f)
