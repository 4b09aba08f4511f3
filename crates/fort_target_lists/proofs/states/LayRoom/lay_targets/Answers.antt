use Rattle.std.proofs.Common.{refl, subst, sym}
use Rattle.fort_target_lists.specs.Walks.{AreStageBegins}
use Rattle.fort_target_lists.proofs.LayLaws.{walk_taken, laid_begun}
use Rattle.fort_target_lists.proofs.states.LayRoom.lay_targets.Goals as goal

pub pass_all-requires-clause-between : goal.pass_all-requires-clause-between
pass_all-requires-clause-between c =
    let t = c.requires.table.0 in
    let h = c.requires.table.1 in
    let b = c.begin_cursors.ensures.begins t h in
    let begins = c.as_mut_slice.result.now in
    let own : AreStageBegins t begins = subst (AreStageBegins t) (sym c.as_mut_slice.ensures.value) b in
    (t, begins, laid_begun t _ begins c.clear.new.self.items c.clear-2.new.self.items (walk_taken t _ c.args.self.now h c.begin_cursors.ensures.chains) own.size own.begin c.clear.ensures.items c.clear-2.ensures.items)

pub returns-clause-laid : goal.returns-clause-laid
returns-clause-laid c = λ t h.
    let b = c.begin_cursors.ensures.begins t h in
    let begins = c.as_mut_slice.result.now in
    let own : AreStageBegins t begins = subst (AreStageBegins t) (sym c.as_mut_slice.ensures.value) b in
    let begun = laid_begun t _ begins c.clear.new.self.items c.clear-2.new.self.items (walk_taken t _ c.args.self.now h c.begin_cursors.ensures.chains) own.size own.begin c.clear.ensures.items c.clear-2.ensures.items in
    (c.pass_all.ensures.between t begins begun).laid_are refl
