use Rattle.std.proofs.Common.{◌≡◌, IfSome, refl, ap, sym, ◌∙◌, subst, List, Bool}
use Rattle.fort_tables.specs.Tables.{Listed, finished}
use Rattle.fort_explore.specs.Exploring.{AreLabelFinals}
use Rattle.fort_explore.proofs.KnownLaws.{known_labels}
use Rattle.fort_explore.proofs.ExploreLaws.{exploring_finals}
use Rattle.fort_explore.proofs.table.Exploration.finish.Goals as goal

pub finals_of-requires-clause-labels : goal.finals_of-requires-clause-labels
finals_of-requires-clause-labels g c =
    let r = c.requires.exploring in
    let f = c.args.self.found in
    (r.0, r.1, known_labels r.0 _ (g.L.Labeller.label c.args.labeller.now) f.firsts f.labels.labels r.2.known)

pub finish-requires-clause-finals : goal.finish-requires-clause-finals
finish-requires-clause-finals g c =
    let r = c.requires.exploring in
    let f = c.args.self.found in
    exploring_finals r.0 (g.L.Labeller.column_count c.args.labeller.now) (g.L.Labeller.label c.args.labeller.now) (g.L.Labeller.accepting c.args.labeller.now) c.args.self.maker f.firsts f.labels.labels c.in_ok-finals.finals.items r.2 c.in_ok-finals.ensures

pub returns-clause-finals : goal.returns-clause-finals
returns-clause-finals g c =
    let F : List Bool → Type 0 = AreLabelFinals (g.L.Labeller.column_count c.args.labeller.now) (g.L.Labeller.accepting c.args.labeller.now) c.args.self.found.labels.labels in
    subst F (sym (ap (λ (x : Listed). x.finals) c.in_ok-table.ensures.table)) c.in_ok-finals.ensures

pub returns-clause-made : goal.returns-clause-made
returns-clause-made g c =
    let made = c.in_ok-table.ensures.table in
    made ∙ ap (finished c.args.self.maker) (sym (ap (λ (x : Listed). x.finals) made))

pub returns-clause-targets : goal.returns-clause-targets
returns-clause-targets g c = record {
  all = subst (λ (x : Listed). IfSome c.args.self.targets (λ l. l.items ≡ x.targets)) (sym c.in_ok-table.ensures.table) c.requires.targets;
  asked = refl;
}
