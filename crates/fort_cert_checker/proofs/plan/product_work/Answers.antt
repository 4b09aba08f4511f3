use Rattle.std.proofs.Common.{sym, subst}
use Rattle.std.specs.Prelude.{Contains}
use Rattle.fort_theory.specs.Cores.{Core}
use Rattle.fort_parts.specs.PartColumns.{columns_of}
use Rattle.fort_connectives.specs.ConnectiveView.{connective_of}
use Rattle.fort_outline.specs.Outlines.{core_at}
use Rattle.fort_cert_checker.proofs.JoinFits.{joined_first, joined_second}
use Rattle.fort_cert_checker.proofs.plan.product_work.Goals as goal

pub operand_plan-requires-clause-columns : goal.operand_plan-requires-clause-columns
operand_plan-requires-clause-columns c = λ n own.
    let o = c.args.outline.now in
    subst (λ (h : Core). Contains (columns_of h) n) (sym c.requires.whole) (joined_first (connective_of c.args.op) (core_at o c.args.first) (core_at o c.args.second) n own)

pub operand_plan-requires-2-clause-columns : goal.operand_plan-requires-2-clause-columns
operand_plan-requires-2-clause-columns c = λ n own.
    let o = c.args.outline.now in
    subst (λ (h : Core). Contains (columns_of h) n) (sym c.requires.whole) (joined_second (connective_of c.args.op) (core_at o c.args.first) (core_at o c.args.second) n own)

pub returns : goal.returns
returns c = λ system ss i.
    let o = c.args.outline.now in
    record { one = core_at o c.args.first; other = core_at o c.args.second; whole = c.requires.whole; one_is = c.in_ok-first.ensures; other_is = c.in_ok-second.ensures }
