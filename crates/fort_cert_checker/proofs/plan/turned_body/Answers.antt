use Rattle.std.proofs.Common.{◌≡◌, length, vec_len, not, ◌==◌, arith, sym, ap, ◌∙◌}
use Rattle.fort_certificate_theory.specs.Dues.{has_columns, is_turned}
use Rattle.fort_outline.specs.Outlines.{parts_in, core_at}
use Rattle.fort_dues.proofs.DueLists.{columns_there, plain_root}
use Rattle.fort_outline.proofs.OutlineLaws.{part_root, part_is, over_is, columns_at}
use Rattle.fort_cert_checker.proofs.SourceLaws.{plain_negation}
use Rattle.fort_cert_checker.proofs.plan.turned_body.Goals as goal

pub index-requires : goal.index-requires
index-requires c = omega (arith, c.requires.within, c.args.outline.now.roots.ok.0)

pub index-requires-in-Not : goal.index-requires-in-Not
index-requires-in-Not c = omega (arith, c.requires.within, c.requires.outline.1.count, c.args.outline.now.columns.ok.0)

pub returns-then-is_empty-clause-none : goal.returns-then-is_empty-clause-none
returns-then-is_empty-clause-none c =
    let o = c.args.outline.now in
    let k = c.args.k in
    let are = c.requires.outline in
    let v = c.index-in-Not.result.now in
    let part = part_is o.roots.items are.1.in_order k c.index.result.now _ c.requires.within c.index.ensures c.in-Not.is in
    let count : vec_len v ≡ length v.items = omega (arith, v.ok.0) in
    let has : not c.is_empty.result ≡ has_columns (core_at o k) =
    columns_there (core_at o k) v.items c.is_empty.result (columns_at are.0 o are.1 k v c.requires.within c.index-in-Not.ensures) (c.is_empty.ensures ∙ ap (λ n. n == 0) count) in
    plain_negation (core_at o k) (core_at o c.in-Not.body) part (sym has ∙ ap not c.if-is_empty.true)

pub returns-else-is_empty-clause-some : goal.returns-else-is_empty-clause-some
returns-else-is_empty-clause-some c =
    let o = c.args.outline.now in
    let k = c.args.k in
    let are = c.requires.outline in
    let v = c.index-in-Not.result.now in
    let count : vec_len v ≡ length v.items = omega (arith, v.ok.0) in
    let has : not c.is_empty.result ≡ has_columns (core_at o k) =
    columns_there (core_at o k) v.items c.is_empty.result (columns_at are.0 o are.1 k v c.requires.within c.index-in-Not.ensures) (c.is_empty.ensures ∙ ap (λ n. n == 0) count) in
    record {
      before = over_is o.roots.items are.1.in_order k c.index.result.now _ c.requires.within c.index.ensures c.in-Not.is;
      whole = part_is o.roots.items are.1.in_order k c.index.result.now _ c.requires.within c.index.ensures c.in-Not.is;
      columns = sym has ∙ ap not c.if-is_empty.false;
    }

pub returns-in_default-clause-none : goal.returns-in_default-clause-none
returns-in_default-clause-none c =
    let o = c.args.outline.now in
    let r = c.index.result.now in
    ap is_turned (part_root o.roots.items c.requires.outline.1.in_order c.args.k r c.requires.within c.index.ensures) ∙ plain_root (parts_in o) r c.in_default.not-Not
