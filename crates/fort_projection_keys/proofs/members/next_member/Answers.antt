use Rattle.std.proofs.Common.{◌+◌, ◌/◌, refl, arith}
use Rattle.fort_projection_keys.proofs.MemberLaws.{next_is, none_is}
use Rattle.fort_projection_keys.proofs.members.next_member.Goals as goal

pub returns-in-Some-clause-some : goal.returns-in-Some-clause-some
returns-in-Some-clause-some c = next_is c.args.label.now c.args.first c.args.from ((c.args.first + c.args.from) / 64) c.in-Some.found refl c.in-Some.ensures.some

pub returns-in_default-clause-none : goal.returns-in_default-clause-none
returns-in_default-clause-none c =
    none_is c.args.label.now c.args.first c.args.from c.args.states ((c.args.first + c.args.from) / 64) refl (λ q a b. c.in-Some.ensures.some.before q a (omega (arith, b, c.if-skip-found.false)))

pub returns-in_default-2-clause-none : goal.returns-in_default-2-clause-none
returns-in_default-2-clause-none c =
    none_is c.args.label.now c.args.first c.args.from c.args.states ((c.args.first + c.args.from) / 64) refl (λ q a b. c.in_default.ensures.none q a)
