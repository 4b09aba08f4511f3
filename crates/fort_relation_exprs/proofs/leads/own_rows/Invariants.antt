use Rattle.std.proofs.Common.{◌≡◌, ℕ, ◌<◌, map, length, vec_items}
use Rattle.fort_label_bits.specs.BitRowLists.{row_in}
use Rattle.fort_relation_exprs.specs.LeadRows.{AreOwn}
use Rattle.fort_relation_exprs.proofs.leads.own_rows.Given as goal

abbrev pub invariant-loop-p : goal.invariant-loop-p
invariant-loop-p l = record {
  many : length l.rows.items ≡ l.count;
  widths : (p : ℕ) → p < l.count → length (row_in (map vec_items l.rows.items) p) ≡ l.width;
  own : AreOwn l.base l.p (map vec_items l.rows.items);
}
