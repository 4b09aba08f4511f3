use Rattle.std.proofs.Common.{◌≡◌, map, drop}
use Rattle.std.specs.List.{list_any}
use Rattle.fort_tuple_symbols.specs.Columns.{as_column}
use Rattle.fort_mark_keys.specs.AskedTerms.{stands_below}
use Rattle.fort_mark_keys.proofs.term_keys.is_asked.Given as goal

abbrev pub invariant-loop-parent : goal.invariant-loop-parent
invariant-loop-parent l =
    list_any (stands_below (as_column l.root) l.place l.child) (map (λ t. t.now) l.listed)
    ≡ list_any (stands_below (as_column l.root) l.place l.child) (map (λ t. t.now) (drop l.parent-index l.listed))
