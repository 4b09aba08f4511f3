-- To believe: which item of a certificate's closure an entry of a closure of root steps is: its places are those of patterns, its pairs are the rules.
use Rattle.std.specs.Prelude.{List, map}
use Rattle.fort_alike.specs.ListedClosures as closures
use Rattle.fort_gtt_closure.specs.declared.entry.Entry.{Entry}
use Rattle.fort_gtt_closure.specs.declared.entry.Why.{Why}
use Rattle.fort_gtt_closure.specs.declared.entry.Why.TheVariants.{Any, Kids, SilentRight, SilentLeft, Pair}

-- an automaton of patterns has no silent moves
abbrev pub as_why : Why → closures.Why
as_why Any = closures.Any
as_why (Kids k j) = closures.Kids
as_why (SilentRight k) = closures.Kids
as_why (SilentLeft k) = closures.Kids
as_why (Pair k) = closures.Rule k

abbrev pub as_item : Entry → closures.Pair
as_item e = record { p = e.p; q = e.q; why = as_why e.why }

abbrev pub as_items : List Entry → List closures.Pair
as_items es = map as_item es
