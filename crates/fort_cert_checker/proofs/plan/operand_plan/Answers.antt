use Rattle.std.proofs.Common.{ℕ, List, Contains, sym, ◌∙◌, subst, arith}
use Rattle.fort_parts.specs.PartColumns.{places_in}
use Rattle.fort_outline.proofs.OutlineLaws.{columns_at}
use Rattle.fort_cert_checker.proofs.plan.operand_plan.Goals as goal

pub index-requires : goal.index-requires
index-requires c = omega (arith, c.requires.whole, c.requires.outline.1.count, c.args.outline.now.columns.ok.0)

pub index-requires-2 : goal.index-requires-2
index-requires-2 c = omega (arith, c.requires.within, c.requires.outline.1.count, c.args.outline.now.columns.ok.0)

pub places_among-requires : goal.places_among-requires
places_among-requires c =
    let o = c.args.outline.now in
    let are = c.requires.outline in
    let whole = c.deref.ensures.value ∙ columns_at are.0 o are.1 c.args.k c.index.result.now c.requires.whole c.index.ensures in
    let own = c.deref-2.ensures.value ∙ columns_at are.0 o are.1 c.args.f c.index-2.result.now c.requires.within c.index-2.ensures in
    λ n there. subst (λ (ns : List ℕ). Contains ns n) (sym whole) (c.requires.columns n (subst (λ (ns : List ℕ). Contains ns n) own there))

pub returns : goal.returns
returns c =
    let o = c.args.outline.now in
    let are = c.requires.outline in
    let whole = c.deref.ensures.value ∙ columns_at are.0 o are.1 c.args.k c.index.result.now c.requires.whole c.index.ensures in
    let own = c.deref-2.ensures.value ∙ columns_at are.0 o are.1 c.args.f c.index-2.result.now c.requires.within c.index-2.ensures in
    record { source = c.source_of.ensures; places = c.in_ok-places.ensures ∙ (λ i. places_in (whole i) (own i)) }
