use Rattle.std.proofs.Common.{sym, refl, ◌≡◌, ℕ, ◌<◌, List, [], length, get_or, subst}
use Rattle.std.specs.Prelude.{vec_items}
use Rattle.std.proofs.lemmas.Slice.Eq.{slice_eq-Decides}
use Rattle.std.proofs.lemmas.Bool.Decides.{Decides-eqb}
use Rattle.fort_tuple_symbols.proofs.SetLaws.{view-insert_new}
use Rattle.fort_classed_tables.proofs.list_set.ListSet.push.Goals as goal

pub returns-clause-ok : goal.returns-clause-ok
returns-clause-ok c =
    let absent = subst (λ (ws : List (List ℕ)). (q : ℕ) → q < length ws → get_or ws q [] ≡ c.args.list.items → ⊥) (sym c.self.view_is) c.requires in
    rw (← c.self.view_is) (view-insert_new _ vec_items c.args.list.items
    (λ k. let d = slice_eq-Decides Decides-eqb c.args.list.items k.items _ refl in (λ h. sym (d.0 h), λ h. d.1 (sym h)))
    c.self.inside.set.keys c.insert.new.self.keys c.args.list refl absent c.in_ok-_added.ensures.keys)
