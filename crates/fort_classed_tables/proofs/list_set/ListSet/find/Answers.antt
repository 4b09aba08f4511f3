use Rattle.std.proofs.Common.{sym, refl}
use Rattle.std.specs.Prelude.{vec_items}
use Rattle.std.proofs.lemmas.Slice.Eq.{slice_eq-Decides}
use Rattle.std.proofs.lemmas.Bool.Decides.{Decides-eqb}
use Rattle.fort_tuple_symbols.proofs.SetLaws.{IsFound-position}
use Rattle.fort_classed_tables.proofs.list_set.ListSet.find.Goals as goal

pub returns : goal.returns
returns c =
    rw (← c.self.view_is, c.get_index_of.ensures.index) (IsFound-position _ vec_items c.args.list.now
    (λ k. let d = slice_eq-Decides Decides-eqb c.args.list.now k.items _ refl in (λ h. sym (d.0 h), λ h. d.1 (sym h)))
    c.self.inside.set.keys)
