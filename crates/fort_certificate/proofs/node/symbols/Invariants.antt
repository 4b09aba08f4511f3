use Rattle.std.proofs.Common.{◌≡◌, ◌+◌, ◌≤◌, length, vec_len, vec_capacity}
use Rattle.fort_certificate.proofs.NodeLaws.{AreColumnsTo}
use Rattle.fort_certificate.proofs.node.symbols.Given as goal

abbrev pub invariant-columns : goal.invariant-columns
invariant-columns l =
    AreColumnsTo l.form.bytes l.form.form l.rest.forms l.symbols.items × (l.rest.bytes ≡ l.form.bytes)
    × (vec_len l.symbols + length l.rest.forms ≤ vec_capacity l.symbols)

abbrev pub decreases-columns : goal.decreases-columns
decreases-columns l = length l.rest.forms
