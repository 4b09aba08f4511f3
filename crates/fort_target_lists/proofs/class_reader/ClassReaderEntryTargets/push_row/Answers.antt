use Rattle.std.proofs.Common.{◌++◌, ap, ◌∙◌}
use Rattle.std.proofs.lemmas.Result.{on_ok_weaker}
use Rattle.fort_target_lists.specs.ClassLists.{view_classes}
use Rattle.fort_target_lists.proofs.ClassRowLaws.{last_place, last_view_is, classes_within, row_told}
use Rattle.fort_target_lists.proofs.class_reader.ClassReaderEntryTargets.push_row.Goals as goal

pub view-requires-clause-place : goal.view-requires-clause-place
view-requires-clause-place c =
    let r = c.requires in
    last_place r.0 c.args.self.now.list.now r.1 c.args.self.now.number r.2 c.args.kids.now r.3

pub push_classes-requires : goal.push_classes-requires
push_classes-requires c =
    let r = c.requires in
    let l = c.args.self.now.list.now in
    let n = c.args.self.now.number in
    let ks = c.args.kids.now in
    let own = c.classes-classes.ensures ∙ ap (view_classes l) (c.view.ensures ∙ last_view_is r.0 l r.1 n r.2 ks r.3) in
    classes_within r.0 l r.1 n r.2 ks r.3 c.row.result.now c.classes-classes.result.now (c.row.ensures r.0 r.1 r.2 r.3) own

pub returns : goal.returns
returns c = on_ok_weaker c.push_classes.result (λ pushed body f at first.
    let l = c.args.self.now.list.now in
    let n = c.args.self.now.number in
    let ks = c.args.kids.now in
    let own = c.classes-classes.ensures ∙ ap (view_classes l) (c.view.ensures ∙ last_view_is body l f n at ks first) in
    pushed ∙ ap (λ xs. c.args.laid.now.items ++ xs) (row_told body l f n at ks first c.row.result.now c.classes-classes.result.now (c.row.ensures body f at first) own)) c.push_classes.ensures
