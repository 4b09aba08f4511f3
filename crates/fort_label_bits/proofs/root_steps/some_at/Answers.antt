use Rattle.std.proofs.lemmas.List.Elements.{Contains-get_or}
use Rattle.fort_label_bits.proofs.root_steps.some_at.Goals as goal

pub rule_at-rule-requires : goal.rule_at-rule-requires
rule_at-rule-requires c = c.requires.places _ (Contains-get_or c.args.places.now c.loop-place.place-index 0 c.loop-place-test.true)
