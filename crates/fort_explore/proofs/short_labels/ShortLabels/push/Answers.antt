use Rattle.std.proofs.Common.{sym, refl, ◌≡◌, ℕ, ◌<◌, List, [], length, get_or, subst}
use Rattle.fort_tuple_symbols.proofs.SetLaws.{view-insert_new}
use Rattle.fort_explore.specs.ShortLabels.{four_words}
use Rattle.fort_explore.proofs.ShortLabelLaws.{Decides-four_words}
use Rattle.fort_explore.proofs.short_labels.ShortLabels.push.Goals as goal

pub returns-clause-ok : goal.returns-clause-ok
returns-clause-ok c =
    let absent = subst (λ (ws : List (List ℕ)). (q : ℕ) → q < length ws → get_or ws q [] ≡ four_words c.args.label → ⊥) (sym c.self.view_is) c.requires in
    rw (← c.self.view_is) (view-insert_new _ four_words (four_words c.args.label)
    (Decides-four_words c.args.label) c.self.inside.set.keys c.insert.new.self.keys c.args.label refl absent c.in_ok-_added.ensures.keys)
