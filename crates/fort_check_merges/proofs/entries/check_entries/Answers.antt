use Rattle.std.proofs.Common.{◌≡◌, ◌<◌, ◌≤◌, ◌++◌, take, length, get_or, refl, ap, sym, ◌∙◌, arith, subst, ⊎_elim, length-append}
use Rattle.std.proofs.lemmas.Bool.{cases_lt}
use Rattle.std.proofs.lemmas.List.{get_or_default}
use Rattle.fort_tables.specs.Entries.{Entry, no_entry}
use Rattle.fort_tables.specs.Tables.{IsTableEntry}
use Rattle.fort_tables.proofs.NumberLaws.{listed_target}
use Rattle.fort_tables.specs.MergeOutcomes.{Merges, IsRight, IsWholeAt}
use Rattle.fort_tables.proofs.MergeOutcomeLaws.{IsMerge-tested}
use Rattle.fort_check_merges.specs.GivenMerges.{table_in, listed_in}
use Rattle.fort_check_merges.specs.KeptTargets.{kept_target, kept_targets}
use Rattle.fort_check_merges.proofs.Answers.{split_entry}
use Rattle.fort_check_merges.proofs.KeptEntries.{kept_more}
use Rattle.fort_check_merges.proofs.LedEntries.{kept_short}
use Rattle.fort_check_steps.proofs.ListedWalks.{advanced, before_more}
use Rattle.fort_check_merges.proofs.entries.check_entries.Goals as goal

pub is_whole-requires-clause-entry : goal.is_whole-requires-clause-entry
is_whole-requires-clause-entry c =
    let t = listed_in c.args.given.now in
    let n = c.entries.place in
    let d = no_entry t.columns in
    let inv = c.entries.invariant in
    let lawful = c.requires.given.listed in
    let within : n < length t.entries = omega (arith, c.entries-test.true, c.entries.auto.place-end, lawful.count) in
    let here = advanced t n c.entries.entries.last c.advance-is_there.new.self.last d c.advance-is_there.result c.entries.entries.signature c.entries.entries.columns c.args.given.now.presences.now lawful within
    inv.signature inv.columns refl inv.last c.advance-is_there.ensures.next c.advance-is_there.ensures.none in
    subst (IsTableEntry (table_in c.args.given.now)) (sym (c.row.ensures ∙ here)) (lawful.order.are n d within)

pub is_whole-requires-clause-target : goal.is_whole-requires-clause-target
is_whole-requires-clause-target c =
    let t = listed_in c.args.given.now in
    let n = c.entries.place in
    let d = no_entry t.columns in
    let inv = c.entries.invariant in
    let lawful = c.requires.given.listed in
    let within : n < length t.entries = omega (arith, c.entries-test.true, c.entries.auto.place-end, lawful.count) in
    let here = advanced t n c.entries.entries.last c.advance-is_there.new.self.last d c.advance-is_there.result c.entries.entries.signature c.entries.entries.columns c.args.given.now.presences.now lawful within
    inv.signature inv.columns refl inv.last c.advance-is_there.ensures.next c.advance-is_there.ensures.none in
    sym (listed_target t n lawful (omega (arith, within, lawful.count))) ∙ ap (table_in c.args.given.now).target (sym (c.row.ensures ∙ here))

pub returns-then-not-is_whole-clause-outcome : goal.returns-then-not-is_whole-clause-outcome
returns-then-not-is_whole-clause-outcome c =
    let t = listed_in c.args.given.now in
    let n = c.entries.place in
    let d = no_entry t.columns in
    let inv = c.entries.invariant in
    let lawful = c.requires.given.listed in
    let within : n < length t.entries = omega (arith, c.entries-test.true, c.entries.auto.place-end, lawful.count) in
    let here = advanced t n c.entries.entries.last c.advance-is_there.new.self.last d c.advance-is_there.result c.entries.entries.signature c.entries.entries.columns c.args.given.now.presences.now lawful within
    inv.signature inv.columns refl inv.last c.advance-is_there.ensures.next c.advance-is_there.ensures.none in
    let split : IsWholeAt (table_in c.args.given.now) c.args.given.now.classes.now (get_or t.entries n d) → ⊥ =
    subst (λ (e : Entry). IsWholeAt (table_in c.args.given.now) c.args.given.now.classes.now e → ⊥) (c.row.ensures ∙ here) (c.is_whole.ensures.split c.if-not-is_whole.true) in
    split_entry (table_in c.args.given.now) c.args.given.now.classes.now t.entries n d c.failed.result c.failed.ensures (record { order = lawful.order; all = lawful.all }) c.requires.classes.right within inv.whole split

pub entries-preserved : goal.entries-preserved
entries-preserved c =
    let t = listed_in c.args.given.now in
    let table = table_in c.args.given.now in
    let classes = c.args.given.now.classes.now in
    let n = c.entries.place in
    let d = no_entry t.columns in
    let inv = c.entries.invariant in
    let lawful = c.requires.given.listed in
    let within : n < length t.entries = omega (arith, c.entries-test.true, c.entries.auto.place-end, lawful.count) in
    let here = advanced t n c.entries.entries.last c.advance-is_there.new.self.last d c.advance-is_there.result c.entries.entries.signature c.entries.entries.columns c.args.given.now.presences.now lawful within
    inv.signature inv.columns refl inv.last c.advance-is_there.ensures.next c.advance-is_there.ensures.none in
    let row : c.row.result.now ≡ get_or t.entries n d = c.row.ensures ∙ here in
    let more = c.is_whole.ensures.merged c.if-not-is_whole.false in
    record {
      signature = c.advance-is_there.ensures.signature ∙ inv.signature;
      columns = c.advance-is_there.ensures.columns ∙ inv.columns;
      last = before_more t n c.advance-is_there.new.self.last here;
      whole = λ k b. ⊎_elim
          (λ less. inv.whole k less)
          (λ last. let same : n ≡ k = omega arith in
          subst (λ i. IsWholeAt table classes (get_or t.entries i d)) same (subst (IsWholeAt table classes) row (c.is_whole.ensures.whole c.if-not-is_whole.false)))
          (cases_lt k n);
      merged = more ∙ (ap (λ qs. qs ++ kept_target table classes c.row.result.now) inv.merged
          ∙ (ap (λ (e : Entry). kept_targets table classes (take n t.entries) ++ kept_target table classes e) row ∙ sym (kept_more table classes t.entries n d within)));
      few = omega (arith, ap length more, length-append c.entries.merged.items (kept_target table classes c.row.result.now), kept_short table classes c.row.result.now, inv.few);
      capacity = c.is_whole.ensures.capacity ∙ inv.capacity;
    }

pub returns-clause-outcome : goal.returns-clause-outcome
returns-clause-outcome c =
    let t = listed_in c.args.given.now in
    let table = table_in c.args.given.now in
    let classes = c.args.given.now.classes.now in
    let d = no_entry t.columns in
    let inv = c.entries.invariant in
    let lawful = c.requires.given.listed in
    let whole : length t.entries ≤ c.entries.place = omega (arith, c.entries-test.false, c.entries.auto.place-end, lawful.count) in (
      Merges,
      IsRight (IsMerge-tested table classes t.entries (record { order = lawful.order; all = lawful.all }) c.requires.classes.right
          (λ k x l. subst (IsWholeAt table classes) (get_or_default t.entries k d x l) (inv.whole k (omega (arith, whole))))),
      refl,
    )
