use Rattle.std.proofs.Common.{◌≡◌, ℕ, ◌++◌, length, reverse, refl, ap, ◌∙◌, arith}
use Rattle.std.proofs.lemmas.List.{reverse-append, length-reverse}
use Rattle.std.proofs.lemmas.Result.{err_from_is_err_and}
use Rattle.fort_sexpr.specs.declared.arena.FormNode.{FormNode}
use Rattle.fort_sexpr.proofs.ReadingLaws.{reading_open}
use Rattle.fort_sexpr.proofs.Fronts.{front_few, front_below, front_byte, front_opens}
use Rattle.fort_sexpr.proofs.walk.TextWalk.open_list.Goals as goal

pub overflow_cast-len : goal.overflow_cast-len
overflow_cast-len c =
    let walk = c.args.self.now in
    omega (
      arith,
      c.requires.few,
      c.requires.within,
      c.len.ensures,
      walk.lists.ok.0,
      front_few c.args.bytes.now (reverse walk.open.items) walk.lists.items walk.count c.args.at c.requires.read,
    )

pub returns-in_err-push-2-clause-full : goal.returns-in_err-push-2-clause-full
returns-in_err-push-2-clause-full c =
    let p = err_from_is_err_and c.from_residual-in_err-push-2.result c.from_residual-in_err-push-2.ensures.1 in
    let walk = c.args.self.now in
    let opens = front_opens c.args.bytes.now (reverse walk.open.items) walk.lists.items walk.count c.args.at c.requires.read
    c.requires.within c.requires.opens in
    rw p.1 (λ room. omega (arith, room.lists_room, walk.lists.ok.0, opens, c.in_err-push-2.ensures.full))

pub returns-clause-read : goal.returns-clause-read
returns-clause-read c = λ more.
    let walk = c.args.self.now in
    let bytes = c.args.bytes.now in
    let made : ℕ → FormNode = λ n. record { from = c.args.at; list = n } in
    let number : c.len.result ≡ length walk.lists.items = c.len.ensures ∙ walk.lists.ok.0 in
    rw (c.in_ok-push.ensures.items, c.in_ok-push-2.ensures.items, reverse-append)
    (reading_open (bytes ++ more) (reverse walk.open.items) walk.lists.items walk.count c.args.at _ _ (c.requires.read more)
    (front_below bytes more c.args.at c.requires.within) (front_byte bytes more c.args.at 40 c.requires.within c.requires.opens)
    (omega (arith, length-reverse walk.open.items, c.requires.shallow)) (ap made number) refl)
