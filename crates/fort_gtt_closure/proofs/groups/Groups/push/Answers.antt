use Rattle.std.proofs.Common.{◌≤◌, length, sym, arith}
use Rattle.std.specs.Prelude.{vec_items}
use Rattle.std.proofs.lemmas.List.{length-map}
use Rattle.std.proofs.lemmas.Result.{err_from_is_err_and}
use Rattle.fort_gtt_closure.specs.Groups.{lists}
use Rattle.fort_gtt_closure.proofs.GroupLaws.{lists-kept, lists-pushed, pushed_behind}
use Rattle.fort_gtt_closure.proofs.groups.Groups.push.Goals as goal

pub returns-in_err-push-clause-err : goal.returns-in_err-push-clause-err
returns-in_err-push-clause-err c =
    let p = err_from_is_err_and c.from_residual.result c.from_residual.ensures.1 in
    rw p.1 (lists-kept c.args.self.now.groups.items c.args.number c.index_mut.result.now c.push.new.self c.index_mut.ensures.value c.in_err-push.ensures.items)

pub returns-in_ok-push-clause-ok : goal.returns-in_ok-push-clause-ok
returns-in_ok-push-clause-ok c =
    lists-pushed c.args.self.now.groups.items c.args.number c.index_mut.result.now c.push.new.self c.args.pair (omega arith) c.index_mut.ensures.value c.in_ok-push.ensures.items

pub returns-else-number-len-clause-ok : goal.returns-else-number-len-clause-ok
returns-else-number-len-clause-ok c =
    let g = c.args.self.now in
    let past : length (lists g) ≤ c.args.number = omega (arith, length-map g.groups.items vec_items, c.len.ensures, c.if-number-len.false, g.groups.ok.0) in
    sym (pushed_behind c.args.number c.args.pair (lists g) past)
