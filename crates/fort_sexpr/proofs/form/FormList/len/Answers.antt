use Rattle.std.proofs.Common.{sym, ◌∙◌}
use Rattle.fort_sexpr.specs.Found.{run_from}
use Rattle.fort_sexpr.proofs.FormLists.{length-as_list}
use Rattle.fort_sexpr.proofs.form.FormList.len.Goals as goal

pub returns : goal.returns
returns c =
    rw (← c.self.view_is)
    (c.self.invariant.many ∙ sym (length-as_list (run_from c.self.inside.arena.now.bytes.items c.self.inside.at).0))
