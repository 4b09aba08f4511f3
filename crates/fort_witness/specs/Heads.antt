-- Law: heads by their rows, the one whose row comes first being the greatest; the laws of this order.
use Rattle.std.specs.declared.cmp.Ordering.{Ordering}
use Rattle.std.specs.Ordering.{eq_by_cmp, as_partial_cmp}
use Rattle.std.specs.Cmp.{IsPartialEquivalence, IsEquivalence, IsPartialOrder, IsTotalOrder, partial_equiv_from_equiv, partial_order_from_total}
use Rattle.std.proofs.lemmas.Cmp.{on_total, then_total, back_total, nat_list_cmp_total, eq_by_cmp_equiv}
use Rattle.fort_tables.specs.Entries.{Entry}
use Rattle.fort_witness.specs.RowOrder.{digits, row_cmp}
use Rattle.fort_witness.specs.declared.head.Head.{Head}

abbrev pub head_cmp : Head → Head → Ordering
head_cmp a b = row_cmp b.row a.row

pub row_cmp-total : IsTotalOrder row_cmp
row_cmp-total = then_total (on_total (λ (e : Entry). digits e.symbol) nat_list_cmp_total) (on_total (λ (e : Entry). e.kids) nat_list_cmp_total)

pub head_cmp-total : IsTotalOrder head_cmp
head_cmp-total = back_total (on_total (λ (a : Head). a.row) row_cmp-total)

pub head_eq-equiv : IsEquivalence (eq_by_cmp head_cmp)
head_eq-equiv = eq_by_cmp_equiv head_cmp-total

pub head_eq-partial_equiv : IsPartialEquivalence (eq_by_cmp head_cmp)
head_eq-partial_equiv = partial_equiv_from_equiv head_eq-equiv

pub head_cmp-partial : IsPartialOrder (eq_by_cmp head_cmp) (as_partial_cmp head_cmp)
head_cmp-partial = partial_order_from_total head_cmp-total
