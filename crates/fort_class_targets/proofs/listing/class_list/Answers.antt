use Rattle.std.proofs.Common.{◌≡◌, ℕ, ◌+◌, ◌*◌, ◌^◌, ◌<◌, ◌≤◌, List, map, length, ap, sym, subst, arith}
use Rattle.fort_theory.specs.Signatures.{Signature, IsSignature}
use Rattle.fort_tables.specs.Tuples.{TupleSymbol}
use Rattle.fort_tables.specs.Tables.{Made, Table}
use Rattle.fort_tables.specs.Labels.{first_word}
use Rattle.fort_classes.specs.Firsts.{HasAllLeading}
use Rattle.fort_classes.specs.Keys.{leaders_by}
use Rattle.fort_classes.specs.LedTables.{IsLeadingComplete}
use Rattle.fort_label_keys.specs.ViewKeys.{keys_by}
use Rattle.fort_target_lists.specs.declared.class_list.ClassList.{ClassList}
use Rattle.fort_target_lists.specs.declared.class_list.ClassView.{ClassView}
use Rattle.fort_views.specs.SymbolViews.{sight}
use Rattle.fort_views.specs.Ranks.{AreRanks}
use Rattle.fort_views.specs.declared.views.Views.{Views}
use Rattle.fort_leading_tables.specs.EntryNumbers.{AreTargetsOf}
use Rattle.fort_leading_tables.specs.declared.leading_targets.LeadingTargets.{LeadingTargets}
use Rattle.fort_class_targets.specs.LedBodies.{IsLedBody}
use Rattle.fort_class_targets.specs.NumberedViews.{HasPlaces}
use Rattle.fort_class_targets.specs.TakenViews.{AreClassViews}
use Rattle.fort_class_targets.specs.SymbolBlocks.{AreTold, HasBlocks}
use Rattle.fort_class_targets.proofs.ClassListLaws.{is_class_list, has_own_leaders}
use Rattle.fort_class_targets.proofs.PlaceFacts.{told_of}
use Rattle.fort_class_targets.proofs.listing.class_list.Goals as goal

-- what the table in the making tells of all tuple symbols
told_made : (view : TupleSymbol → ℕ → List ℕ) (key : List ℕ → List ℕ → List ℕ) (labels : List (List ℕ)) (sig : Signature) (columns count : ℕ) (views : Views) (vs own : List ClassView) (starts numbers : List ℕ) (targets : LeadingTargets) (m : Made) (body : Table)
    → HasPlaces view sig columns count views starts numbers → AreClassViews key labels (map sight views.views.items) vs → own ≡ vs → IsSignature sig → length labels < 2 ^ 32
    → IsLedBody sig columns (leaders_by (keys_by view key) labels) m body → IsLeadingComplete (leaders_by (keys_by view key) labels) m → m.presences ≡ map first_word labels → AreTargetsOf m.columns m.entries m.targets targets
    → AreTold sig columns m.entries m.targets targets own starts numbers
told_made view key labels sig columns count views vs own starts numbers targets m body p v same is few led complete presences are =
    let lead = leaders_by (keys_by view key) labels in
    let placed : HasPlaces view sig columns (length starts) views starts numbers = subst (λ (n : ℕ). HasPlaces view sig columns n views starts numbers) (sym p.count) p in
    let own_are : AreTargetsOf columns m.entries m.targets targets = subst (λ (n : ℕ). AreTargetsOf n m.entries m.targets targets) led.made_columns are in
    let all : HasAllLeading sig columns (map first_word labels) lead m.entries = subst (λ (ps : List ℕ). HasAllLeading sig columns ps lead m.entries) presences
    (subst (λ (n : ℕ). HasAllLeading sig n m.presences lead m.entries) led.made_columns (subst (λ (g : Signature). HasAllLeading g m.columns m.presences lead m.entries) led.made_signature complete)) in
    subst (λ (xs : List ClassView). AreTold sig columns m.entries m.targets targets xs starts numbers) (sym same) (told_of view key labels sig columns views vs starts numbers m.entries m.targets targets placed v is few own_are all)

pub symbol_blocks-requires-clause-told : goal.symbol_blocks-requires-clause-told
symbol_blocks-requires-clause-told g c =
    let view = g.K.LabelKeys.view c.args.keys.now in
    let key = g.K.LabelKeys.key c.args.keys.now in
    let r = c.requires.told in
    let made = c.in_ok-numbers.numbers in (
      r.0.entries,
      r.0.targets,
      told_made view key c.args.rows.now.labels c.args.sig.now c.args.columns c.pow-count.result c.of_all.new.views c.in_ok-taken.taken.items c.as_slice.result.now made.starts.items made.numbers.items c.args.targets.now r.0 r.1
          c.in_ok-numbers.ensures c.in_ok-taken.ensures c.as_slice.ensures.value c.len-base.ensures.lawful c.requires.few r.2 r.3 r.4 r.5,
    )

pub returns-clause-list : goal.returns-clause-list
returns-clause-list g c = λ m body led complete presences targets.
    let view = g.K.LabelKeys.view c.args.keys.now in
    let key = g.K.LabelKeys.key c.args.keys.now in
    let labels = c.args.rows.now.labels in
    let sig = c.args.sig.now in
    let n = c.args.columns in
    let views = c.of_all.new.views in
    let made = c.in_ok-numbers.numbers in
    let taken = c.in_ok-taken.taken in
    let l : ClassList = record {
      base = c.len-base.result + 1;
      ranks = c.in_ok-ranks.ranks;
      views = taken;
      starts = made.starts;
      numbers = made.numbers;
      blocks = c.in_ok-blocks.blocks;
    } in
    let base_is : l.base ≡ length sig + 1 = ap (λ k. k + 1) c.len-base.ensures.count in
    let count : c.pow-count.result ≡ l.base ^ n = c.pow-count.ensures in
    let few : 8 * (l.base ^ n) ≤ 2 ^ 32 = omega (arith, c.requires.places, ap (λ k. k ^ n) base_is) in
    let placed : HasPlaces view sig n (l.base ^ n) views made.starts.items made.numbers.items = subst (λ (k : ℕ). HasPlaces view sig n k views made.starts.items made.numbers.items) count c.in_ok-numbers.ensures in
    let told = told_made view key labels sig n c.pow-count.result views taken.items c.as_slice.result.now made.starts.items made.numbers.items c.args.targets.now m body
    c.in_ok-numbers.ensures c.in_ok-taken.ensures c.as_slice.ensures.value c.len-base.ensures.lawful c.requires.few led complete presences targets in
    let blocks : HasBlocks sig n (l.base ^ n) m.entries m.targets taken.items made.starts.items made.numbers.items c.in_ok-blocks.blocks =
    subst (λ (k : ℕ). HasBlocks sig n k m.entries m.targets taken.items made.starts.items made.numbers.items c.in_ok-blocks.blocks) placed.count
    (subst (λ (xs : List ClassView). HasBlocks sig n (length made.starts.items) m.entries m.targets xs made.starts.items made.numbers.items c.in_ok-blocks.blocks) c.as_slice.ensures.value (c.in_ok-blocks.ensures m.entries m.targets told)) in
    let ranks : AreRanks (map first_word labels) c.in_ok-ranks.ranks.items = subst (λ (ps : List ℕ). AreRanks ps c.in_ok-ranks.ranks.items) c.requires.presences c.in_ok-ranks.ensures in
    is_class_list view key labels sig n views l m body base_is few placed c.in_ok-taken.ensures ranks blocks led presences

pub returns-clause-leaders : goal.returns-clause-leaders
returns-clause-leaders g c = λ m body led presences.
    let view = g.K.LabelKeys.view c.args.keys.now in
    let key = g.K.LabelKeys.key c.args.keys.now in
    let labels = c.args.rows.now.labels in
    let sig = c.args.sig.now in
    let n = c.args.columns in
    let views = c.of_all.new.views in
    let made = c.in_ok-numbers.numbers in
    let l : ClassList = record {
      base = c.len-base.result + 1;
      ranks = c.in_ok-ranks.ranks;
      views = c.in_ok-taken.taken;
      starts = made.starts;
      numbers = made.numbers;
      blocks = c.in_ok-blocks.blocks;
    } in
    let base_is : l.base ≡ length sig + 1 = ap (λ k. k + 1) c.len-base.ensures.count in
    let placed : HasPlaces view sig n (l.base ^ n) views made.starts.items made.numbers.items = subst (λ (k : ℕ). HasPlaces view sig n k views made.starts.items made.numbers.items) c.pow-count.ensures c.in_ok-numbers.ensures in
    let ranks : AreRanks (map first_word labels) c.in_ok-ranks.ranks.items = subst (λ (ps : List ℕ). AreRanks ps c.in_ok-ranks.ranks.items) c.requires.presences c.in_ok-ranks.ensures in
    has_own_leaders view key labels sig n views l m body base_is placed c.in_ok-taken.ensures ranks led presences
