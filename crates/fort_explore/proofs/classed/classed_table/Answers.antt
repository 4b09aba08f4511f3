use Rattle.std.proofs.Common.{ℕ, ◌<◌, ◌≤◌, ◌^◌, List, length, get_or, ap, sym, subst, arith}
use Rattle.std.proofs.lemmas.List.{length-map}
use Rattle.fort_theory.specs.Signatures.{Signature}
use Rattle.fort_tables.specs.Tables.{listed_table}
use Rattle.fort_tables.specs.Labels.{first_word}
use Rattle.fort_classes.specs.Keys.{leaders_by}
use Rattle.fort_label_keys.specs.ViewKeys.{keys_by}
use Rattle.fort_lockstep.specs.TableParts.{IsMadeOf}
use Rattle.fort_class_targets.specs.LedBodies.{IsLedBody}
use Rattle.fort_tight_lists.specs.TightLists.{IsListedOver}
use Rattle.fort_explore.proofs.KnownLaws.{known_labels}
use Rattle.fort_explore.proofs.WholeTableLaws.{table_presence}
use Rattle.fort_explore.proofs.ClassedTableLaws.{classed_whole, classed_body, classed_parts, classed_found}
use Rattle.fort_explore.proofs.classed.classed_table.Goals as goal

pub finals_of-requires-clause-labels : goal.finals_of-requires-clause-labels
finals_of-requires-clause-labels g c =
    let x = c.requires.table in
    (c.args.sig.now, c.requires.served, known_labels c.args.sig.now _ (g.L.Labeller.label c.args.labeller.now) x.0 c.args.rows.now.labels x.2.whole.exploring.exploring.known)

pub class_list-requires-clause-within : goal.class_list-requires-clause-within
class_list-requires-clause-within g c =
    let x = c.requires.table in
    let all = table_presence c.args.sig.now (g.L.Labeller.column_count c.args.labeller.now) (g.L.Labeller.label c.args.labeller.now) (g.K.LabelKeys.view c.args.keys.now) (g.K.LabelKeys.key c.args.keys.now) c.args.rows.now.labels x.0 c.args.maker x.1 x.2 in
    subst (λ (n : ℕ). (q : ℕ) → q < length c.as_slice-read.result.now → get_or c.as_slice-read.result.now q 0 < 2 ^ n) (sym c.columns-columns.ensures.count)
    (subst (λ (ps : List ℕ). (q : ℕ) → q < length ps → get_or ps q 0 < 2 ^ g.L.Labeller.column_count c.args.labeller.now) (sym c.as_slice-read.ensures.value) all)

pub class_list-requires-clause-told : goal.class_list-requires-clause-told
class_list-requires-clause-told g c =
    let x = c.requires.table in
    let sig = c.args.sig.now in
    let n = g.L.Labeller.column_count c.args.labeller.now in
    let label = g.L.Labeller.label c.args.labeller.now in
    let view = g.K.LabelKeys.view c.args.keys.now in
    let key = g.K.LabelKeys.key c.args.keys.now in
    let labels = c.args.rows.now.labels in
    let a = c.args.maker in
    let finals = c.in_ok-finals.finals.items in
    let accepting = g.L.Labeller.accepting c.args.labeller.now in
    let f = c.in_ok-finals.ensures in
    let whole = classed_whole sig n label view key labels x.0 a x.1 x.2 accepting finals f in
    let body = subst (λ (k : ℕ). IsLedBody sig k (leaders_by (keys_by view key) labels) x.2.made (listed_table whole)) (sym c.columns-columns.ensures.count) (classed_body sig n label view key labels x.0 a x.1 x.2 accepting finals f) in
    (x.2.made, listed_table whole, body, x.2.whole.complete, x.2.whole.exploring.exploring.presences, x.2.targets_are)

pub tightened-requires-clause-few : goal.tightened-requires-clause-few
tightened-requires-clause-few g c =
    let x = c.requires.table in
    let sig = c.args.sig.now in
    let n = g.L.Labeller.column_count c.args.labeller.now in
    let label = g.L.Labeller.label c.args.labeller.now in
    let view = g.K.LabelKeys.view c.args.keys.now in
    let key = g.K.LabelKeys.key c.args.keys.now in
    let labels = c.args.rows.now.labels in
    let a = c.args.maker in
    let finals = c.in_ok-finals.finals.items in
    let accepting = g.L.Labeller.accepting c.args.labeller.now in
    let f = c.in_ok-finals.ensures in
    let whole = classed_whole sig n label view key labels x.0 a x.1 x.2 accepting finals f in
    let presences = x.2.whole.exploring.exploring.presences in
    let body = subst (λ (k : ℕ). IsLedBody sig k (leaders_by (keys_by view key) labels) x.2.made (listed_table whole)) (sym c.columns-columns.ensures.count) (classed_body sig n label view key labels x.0 a x.1 x.2 accepting finals f) in
    let list = c.in_ok-list.ensures.list x.2.made (listed_table whole) body x.2.whole.complete presences x.2.targets_are in
    omega (arith, list.ranks_are.size, ap length body.presences, ap length presences, length-map labels first_word, c.requires.few)

pub tightened-requires-clause-listed : goal.tightened-requires-clause-listed
tightened-requires-clause-listed g c =
    let x = c.requires.table in
    let sig = c.args.sig.now in
    let n = g.L.Labeller.column_count c.args.labeller.now in
    let label = g.L.Labeller.label c.args.labeller.now in
    let view = g.K.LabelKeys.view c.args.keys.now in
    let key = g.K.LabelKeys.key c.args.keys.now in
    let labels = c.args.rows.now.labels in
    let a = c.args.maker in
    let finals = c.in_ok-finals.finals.items in
    let accepting = g.L.Labeller.accepting c.args.labeller.now in
    let f = c.in_ok-finals.ensures in
    let whole = classed_whole sig n label view key labels x.0 a x.1 x.2 accepting finals f in
    let presences = x.2.whole.exploring.exploring.presences in
    let body = subst (λ (k : ℕ). IsLedBody sig k (leaders_by (keys_by view key) labels) x.2.made (listed_table whole)) (sym c.columns-columns.ensures.count) (classed_body sig n label view key labels x.0 a x.1 x.2 accepting finals f) in
    let listed : IsListedOver sig c.columns-columns.result (listed_table whole) c.in_ok-list.list = record {
      signature = body.signature;
      columns_are = body.columns_are;
      list = c.in_ok-list.ensures.list x.2.made (listed_table whole) body x.2.whole.complete presences x.2.targets_are;
      leaders = c.in_ok-list.ensures.leaders x.2.made (listed_table whole) body presences;
    } in
    (listed_table whole, listed)

pub of_classes-requires-clause-table : goal.of_classes-requires-clause-table
of_classes-requires-clause-table g c =
    let x = c.requires.table in
    let sig = c.args.sig.now in
    let n = g.L.Labeller.column_count c.args.labeller.now in
    let label = g.L.Labeller.label c.args.labeller.now in
    let view = g.K.LabelKeys.view c.args.keys.now in
    let key = g.K.LabelKeys.key c.args.keys.now in
    let labels = c.args.rows.now.labels in
    let a = c.args.maker in
    let finals = c.in_ok-finals.finals.items in
    let accepting = g.L.Labeller.accepting c.args.labeller.now in
    let f = c.in_ok-finals.ensures in
    let count = sym c.columns-columns.ensures.count in
    let whole = classed_whole sig n label view key labels x.0 a x.1 x.2 accepting finals f in
    let parts = classed_parts sig n label view key labels x.0 a x.1 x.2 accepting finals f (subst (λ (k : ℕ). 0 < k) c.columns-columns.ensures.count c.columns-columns.ensures.some) in
    let own = subst (λ (k : ℕ). IsMadeOf whole c.in_ok-own.own k a.presences.items a.first_entries finals) count (subst (λ (s : Signature). IsMadeOf whole s n a.presences.items a.first_entries finals) (sym c.in_ok-own.ensures) parts) in
    let body = subst (λ (k : ℕ). IsLedBody sig k (leaders_by (keys_by view key) labels) x.2.made (listed_table whole)) count (classed_body sig n label view key labels x.0 a x.1 x.2 accepting finals f) in
    let presences = x.2.whole.exploring.exploring.presences in
    let listed : IsListedOver sig c.columns-columns.result (listed_table whole) c.in_ok-list.list = record {
      signature = body.signature;
      columns_are = body.columns_are;
      list = c.in_ok-list.ensures.list x.2.made (listed_table whole) body x.2.whole.complete presences x.2.targets_are;
      leaders = c.in_ok-list.ensures.leaders x.2.made (listed_table whole) body presences;
    } in
    (whole, own, c.in_ok-list-2.ensures.list (listed_table whole) listed)

pub returns-clause-found : goal.returns-clause-found
returns-clause-found g c = λ firsts cap x.
    let sig = c.args.sig.now in
    let n = g.L.Labeller.column_count c.args.labeller.now in
    let label = g.L.Labeller.label c.args.labeller.now in
    let view = g.K.LabelKeys.view c.args.keys.now in
    let key = g.K.LabelKeys.key c.args.keys.now in
    let labels = c.args.rows.now.labels in
    let a = c.args.maker in
    let finals = c.in_ok-finals.finals.items in
    let accepting = g.L.Labeller.accepting c.args.labeller.now in
    let f = c.in_ok-finals.ensures in
    let count = sym c.columns-columns.ensures.count in
    let some = subst (λ (k : ℕ). 0 < k) c.columns-columns.ensures.count c.columns-columns.ensures.some in
    let narrow = subst (λ (k : ℕ). k ≤ 16) c.columns-columns.ensures.count c.columns-columns.ensures.narrow in
    let whole = classed_whole sig n label view key labels firsts a cap x accepting finals f in
    let parts = classed_parts sig n label view key labels firsts a cap x accepting finals f some in
    let own = subst (λ (k : ℕ). IsMadeOf whole c.in_ok-own.own k a.presences.items a.first_entries finals) count (subst (λ (s : Signature). IsMadeOf whole s n a.presences.items a.first_entries finals) (sym c.in_ok-own.ensures) parts) in
    let body = subst (λ (k : ℕ). IsLedBody sig k (leaders_by (keys_by view key) labels) x.made (listed_table whole)) count (classed_body sig n label view key labels firsts a cap x accepting finals f) in
    let presences = x.whole.exploring.exploring.presences in
    let listed : IsListedOver sig c.columns-columns.result (listed_table whole) c.in_ok-list.list = record {
      signature = body.signature;
      columns_are = body.columns_are;
      list = c.in_ok-list.ensures.list x.made (listed_table whole) body x.whole.complete presences x.targets_are;
      leaders = c.in_ok-list.ensures.leaders x.made (listed_table whole) body presences;
    } in
    let tells = c.in_ok-list-2.ensures.list (listed_table whole) listed in
    classed_found sig n label view key labels firsts a cap x accepting finals f c.in_ok-table.table (g.met.L.Labeller.tells_presence c.args.labeller.now sig c.requires.served) c.requires.goes some narrow (c.in_ok-table.ensures whole own tells)
