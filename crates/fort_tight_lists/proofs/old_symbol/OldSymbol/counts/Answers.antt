use Rattle.std.proofs.Common.{ℕ, length, sym, ◌∙◌, arith}
use Rattle.fort_target_lists.specs.ClassLists.{view_of, view_leaders}
use Rattle.fort_tight_lists.proofs.TightSymbolLaws.{tabulated}
use Rattle.fort_tight_lists.proofs.old_symbol.OldSymbol.counts.Goals as goal

pub returns : goal.returns
returns c =
    let own = c.args.self.now in
    let of : ℕ → ℕ = λ j. length (view_leaders own.list.now (view_of own.list.now own.number j)) in
    tabulated own.places c.loop-place.counts of (omega (arith, c.requires.few, c.loop-place.invariant.size)) (λ j l. c.loop-place.invariant.are j (omega (arith, l, c.loop-place-test.false))) ∙ sym c.requires.readable.counts
