use Rattle.std.proofs.Common.{List, ℕ, sym, ap, ◌∙◌, subst, arith}
use Rattle.std.specs.Prelude.{Contains}
use Rattle.fort_parts.specs.PartColumns.{place_in}
use Rattle.fort_outline.proofs.OutlineLaws.{columns_at}
use Rattle.fort_cert_checker.proofs.plan.bound_column.Goals as goal

pub index-requires : goal.index-requires
index-requires c = omega (arith, c.requires.within, c.requires.outline.1.count, c.args.outline.now.columns.ok.0)

pub column_of-requires : goal.column_of-requires
column_of-requires c =
    let are = c.requires.outline in
    subst (λ (ns : List ℕ). Contains ns c.args.n) (sym (c.deref.ensures.value ∙ columns_at are.0 c.args.outline.now are.1 c.args.f c.index.result.now c.requires.within c.index.ensures)) c.requires.free

pub returns : goal.returns
returns c =
    let are = c.requires.outline in
    c.column_of.ensures ∙ ap (λ ns. place_in ns c.args.n) (c.deref.ensures.value ∙ columns_at are.0 c.args.outline.now are.1 c.args.f c.index.result.now c.requires.within c.index.ensures)
