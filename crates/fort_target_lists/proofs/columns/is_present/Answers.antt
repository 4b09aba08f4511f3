use Rattle.std.proofs.Common.{◌≡◌, ◌+◌, suc, drop, sym, ◌∙◌, ap, arith}
use Rattle.fort_tables.specs.Selections.{is_present}
use Rattle.fort_target_lists.proofs.ColumnLaws.{present_here, present_behind}
use Rattle.fort_target_lists.proofs.columns.is_present.Goals as goal

pub returns-then-is_some : goal.returns-then-is_some
returns-then-is_some c = sym (c.loop-k.invariant ∙ present_here c.args.sym.now c.loop-k.k c.symbol.result c.symbol.ensures (sym c.is_some.ensures ∙ c.if-is_some.true))

pub loop-k-preserved : goal.loop-k-preserved
loop-k-preserved c =
    let e : suc c.loop-k.k ≡ c.loop-k.k + 1 = omega arith in
    c.loop-k.invariant ∙ (present_behind c.args.sym.now c.loop-k.k c.symbol.result c.symbol.ensures (sym c.is_some.ensures ∙ c.if-is_some.false) ∙ ap (λ n. is_present (drop n c.args.sym.now)) e)
