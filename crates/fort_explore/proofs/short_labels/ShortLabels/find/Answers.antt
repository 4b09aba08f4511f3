use Rattle.fort_tuple_symbols.proofs.SetLaws.{IsFound-position}
use Rattle.fort_explore.specs.ShortLabels.{four_words}
use Rattle.fort_explore.proofs.ShortLabelLaws.{Decides-four_words}
use Rattle.fort_explore.proofs.short_labels.ShortLabels.find.Goals as goal

pub returns : goal.returns
returns c =
    rw (← c.self.view_is, c.get_index_of.ensures.index) (IsFound-position _ four_words (four_words c.args.label.now)
    (Decides-four_words c.args.label.now) c.self.inside.set.keys)
