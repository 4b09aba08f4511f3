use Rattle.std.proofs.Common.{length, refl, [], ap, ◌∙◌}
use Rattle.fort_entry_walk.proofs.WalkLaws.{AreUpTo-zeros, wants_of_zeros}
use Rattle.fort_tuple_symbols.proofs.Bounds.{symbol_of-zeros}
use Rattle.fort_tables.specs.Entries.{entry}
use Rattle.fort_entry_walk.proofs.walk.Walk.new.Goals as goal

pub returns-clause-place : goal.returns-clause-place
returns-clause-place c = rw (c.zeros.ensures, c.empty.ensures) (record { stage = refl; digits = AreUpTo-zeros (length c.args.sig.now) c.args.columns; kids = tt; wanted = c.empty-2.ensures ∙ wants_of_zeros c.args.sig.now c.args.columns })

pub returns-clause-start : goal.returns-clause-start
returns-clause-start c = rw (c.zeros.ensures, c.empty.ensures) (ap (λ f. entry f []) (symbol_of-zeros c.args.columns))
