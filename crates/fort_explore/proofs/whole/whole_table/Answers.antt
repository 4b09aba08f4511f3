use Rattle.std.proofs.Common.{◌≡◌, ℕ, ◌<◌, ◌≤◌, ◌^◌, List, length, get_or, IfSome, sym, ◌∙◌, arith, subst}
use Rattle.fort_tables.specs.Tables.{Listed}
use Rattle.fort_classes.specs.Keys.{leaders_by}
use Rattle.fort_label_keys.specs.ViewKeys.{keys_by}
use Rattle.fort_views.specs.SymbolViews.{AreViewsOf}
use Rattle.fort_leading_tables.specs.Replays.{IsReplaying}
use Rattle.fort_explore.specs.LedTargets.{AreLedTargets}
use Rattle.fort_explore.proofs.KnownLaws.{known_labels}
use Rattle.fort_explore.proofs.WholeTableLaws.{table_count, table_presence, led_targets_of, table_none, table_finals, table_found}
use Rattle.fort_explore.proofs.whole.whole_table.Goals as goal

pub finals_of-requires-clause-labels : goal.finals_of-requires-clause-labels
finals_of-requires-clause-labels g c =
    let x = c.requires.table in
    (c.args.sig.now, c.requires.served, known_labels c.args.sig.now _ (g.L.Labeller.label c.args.labeller.now) x.0 c.args.rows.now.labels x.2.whole.exploring.exploring.known)

pub new-requires-2-clause-few : goal.new-requires-2-clause-few
new-requires-2-clause-few g c =
    let x = c.requires.table in
    omega (arith, table_count _ _ _ (g.K.LabelKeys.view c.args.keys.now) (g.K.LabelKeys.key c.args.keys.now) _ x.0 c.args.maker x.1 x.2, c.requires.few)

pub new-requires-2-clause-within : goal.new-requires-2-clause-within
new-requires-2-clause-within g c =
    let x = c.requires.table in
    subst (λ (n : ℕ). (q : ℕ) → q < length c.args.maker.presences.items → get_or c.args.maker.presences.items q 0 < 2 ^ n) (sym c.columns-2.ensures.count)
    (table_presence _ _ _ (g.K.LabelKeys.view c.args.keys.now) (g.K.LabelKeys.key c.args.keys.now) _ x.0 c.args.maker x.1 x.2)

pub give_whole-requires-clause-listed : goal.give_whole-requires-clause-listed
give_whole-requires-clause-listed g c = subst (λ (ts : List ℕ). IfSome c.list_for-targets.result (λ l. l.items ≡ ts)) (sym c.in_ok-whole.ensures.targets) c.list_for-targets.ensures.empty

pub give_whole-requires-clause-known : goal.give_whole-requires-clause-known
give_whole-requires-clause-known g c =
    let x = c.requires.table in
    let sig = c.args.sig.now in
    let n = g.L.Labeller.column_count c.args.labeller.now in
    let label = g.L.Labeller.label c.args.labeller.now in
    let view = g.K.LabelKeys.view c.args.keys.now in
    let key = g.K.LabelKeys.key c.args.keys.now in
    let labels = c.args.rows.now.labels in
    let led = c.in_ok-led.led in
    let told = c.in_ok-led.ensures in
    let made = c.in_ok-whole.ensures in
    let known : AreViewsOf view key sig n labels 0 led.views.views = subst (λ (k : ℕ). AreViewsOf view key sig k labels 0 led.views.views) c.columns-2.ensures.count (told.views labels) in
    let a = led_targets_of sig n label view key labels x.0 c.args.maker x.1 x.2 led.views.views led.presences.items led.ranks.items led.targets known told.presences told.ranks told.targets in
    let none = table_none sig n label view key labels x.0 c.args.maker x.1 x.2 c.in_ok-whole.whole made.signature (made.columns ∙ c.columns.ensures.count) made.presences made.entries made.targets in (
      x.2.made,
      subst (λ k. AreLedTargets (g.K.LabelKeys.view k) (g.K.LabelKeys.key k) labels x.2.made led.views.views led.presences.items led.ranks.items led.targets) (sym told.keys) a,
      subst (λ k. IsReplaying (leaders_by (keys_by (g.K.LabelKeys.view k) (g.K.LabelKeys.key k)) labels) x.2.made c.in_ok-whole.whole) (sym told.keys) none,
    )

pub finish-requires-clause-finals : goal.finish-requires-clause-finals
finish-requires-clause-finals g c =
    let x = c.requires.table in
    let sig = c.args.sig.now in
    let n = g.L.Labeller.column_count c.args.labeller.now in
    let label = g.L.Labeller.label c.args.labeller.now in
    let view = g.K.LabelKeys.view c.args.keys.now in
    let key = g.K.LabelKeys.key c.args.keys.now in
    let labels = c.args.rows.now.labels in
    let led = c.in_ok-led.led in
    let told = c.in_ok-led.ensures in
    let made = c.in_ok-whole.ensures in
    let known : AreViewsOf view key sig n labels 0 led.views.views = subst (λ (k : ℕ). AreViewsOf view key sig k labels 0 led.views.views) c.columns-2.ensures.count (told.views labels) in
    let a = led_targets_of sig n label view key labels x.0 c.args.maker x.1 x.2 led.views.views led.presences.items led.ranks.items led.targets known told.presences told.ranks told.targets in
    let none = table_none sig n label view key labels x.0 c.args.maker x.1 x.2 c.in_ok-whole.whole made.signature (made.columns ∙ c.columns.ensures.count) made.presences made.entries made.targets in
    let after = c.in_ok-give_whole.ensures.replays x.2.made
    (subst (λ k. AreLedTargets (g.K.LabelKeys.view k) (g.K.LabelKeys.key k) labels x.2.made led.views.views led.presences.items led.ranks.items led.targets) (sym told.keys) a)
    (subst (λ k. IsReplaying (leaders_by (keys_by (g.K.LabelKeys.view k) (g.K.LabelKeys.key k)) labels) x.2.made c.in_ok-whole.whole) (sym told.keys) none) in
    let re = subst (λ k. IsReplaying (leaders_by (keys_by (g.K.LabelKeys.view k) (g.K.LabelKeys.key k)) labels) x.2.made c.give_whole.new.maker) told.keys after in
    table_finals sig n label view key labels x.0 c.args.maker x.1 x.2 c.give_whole.new.maker (g.L.Labeller.accepting c.args.labeller.now) c.in_ok-finals.finals.items c.in_ok-finals.ensures re c.in_ok-give_whole.ensures.complete

pub returns-clause-found : goal.returns-clause-found
returns-clause-found g c = λ firsts cap x.
    let sig = c.args.sig.now in
    let n = g.L.Labeller.column_count c.args.labeller.now in
    let label = g.L.Labeller.label c.args.labeller.now in
    let view = g.K.LabelKeys.view c.args.keys.now in
    let key = g.K.LabelKeys.key c.args.keys.now in
    let labels = c.args.rows.now.labels in
    let led = c.in_ok-led.led in
    let told = c.in_ok-led.ensures in
    let made = c.in_ok-whole.ensures in
    let known : AreViewsOf view key sig n labels 0 led.views.views = subst (λ (k : ℕ). AreViewsOf view key sig k labels 0 led.views.views) c.columns-2.ensures.count (told.views labels) in
    let a = led_targets_of sig n label view key labels firsts c.args.maker cap x led.views.views led.presences.items led.ranks.items led.targets known told.presences told.ranks told.targets in
    let none = table_none sig n label view key labels firsts c.args.maker cap x c.in_ok-whole.whole made.signature (made.columns ∙ c.columns.ensures.count) made.presences made.entries made.targets in
    let after = c.in_ok-give_whole.ensures.replays x.made
    (subst (λ k. AreLedTargets (g.K.LabelKeys.view k) (g.K.LabelKeys.key k) labels x.made led.views.views led.presences.items led.ranks.items led.targets) (sym told.keys) a)
    (subst (λ k. IsReplaying (leaders_by (keys_by (g.K.LabelKeys.view k) (g.K.LabelKeys.key k)) labels) x.made c.in_ok-whole.whole) (sym told.keys) none) in
    let re = subst (λ k. IsReplaying (leaders_by (keys_by (g.K.LabelKeys.view k) (g.K.LabelKeys.key k)) labels) x.made c.give_whole.new.maker) told.keys after in
    table_found sig n label view key labels firsts c.args.maker cap x c.give_whole.new.maker (g.L.Labeller.accepting c.args.labeller.now) c.in_ok-finals.finals.items c.in_ok-finals.ensures re c.in_ok-give_whole.ensures.complete
    c.in_ok-table.table (g.met.L.Labeller.tells_presence c.args.labeller.now sig c.requires.served) c.requires.goes (subst (λ (k : ℕ). 0 < k) c.columns.ensures.count c.columns.ensures.some) (subst (λ (k : ℕ). k ≤ 16) c.columns.ensures.count c.columns.ensures.narrow)
    c.in_ok-table.ensures.table c.in_ok-table.ensures.lawful

pub returns-clause-targets : goal.returns-clause-targets
returns-clause-targets g c = record {
  all = subst (λ (t : Listed). IfSome c.give_whole.new.targets (λ l. l.items ≡ t.targets)) (sym c.in_ok-table.ensures.table) c.in_ok-give_whole.ensures.listed;
  asked = c.in_ok-give_whole.ensures.there ∙ c.list_for-targets.ensures.there;
}
