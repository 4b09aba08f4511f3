use Rattle.std.proofs.Common.{[], sym, ap, ◌∙◌}
use Rattle.std.specs.Prelude.{vec_items}
use Rattle.std.proofs.lemmas.List.{get_or-map}
use Rattle.fort_label_bits.proofs.rows.row_at.Goals as goal

pub returns : goal.returns
returns c =
    c.as_slice.ensures.value ∙ (ap vec_items c.index-rows-k.is ∙ sym (get_or-map vec_items c.args.rows.now c.args.k c.index-rows-k.result [] c.requires))
