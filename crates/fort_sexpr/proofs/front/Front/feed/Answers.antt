use Rattle.std.proofs.Common.{rules, ◌≡◌, ◌++◌, Err, ap, sym, subst}
use Rattle.std.proofs.lemmas.Result.{err_from_is_err_and}
use Rattle.fort_sexpr.specs.declared.fault.SFault.TheVariants.{Memory}
use Rattle.fort_sexpr.specs.Reading.{HasRoom}
use Rattle.fort_sexpr.proofs.front.Front.feed.Goals as goal

pub returns-in_err-self-clause-kept : goal.returns-in_err-self-clause-kept
returns-in_err-self-clause-kept c = λ is.
    let p = err_from_is_err_and c.from_residual-in_err-self.result c.from_residual-in_err-self.ensures.1 in
    let fault : c.in_err-self.field-0.0 ≡ Memory = cc (p.1, p.2) in
    let text : c.as_slice.result.now ≡ c.args.self.now.bytes.items ++ c.args.piece.now = search rules in
    absurd (c.in_err-self.ensures.room (ap Err fault) (subst (λ xs. HasRoom xs c.make_room.new.self.walk) (sym text) c.in_ok-make_room.ensures.lists))
