use Rattle.std.proofs.Common.{◌≡◌, ◌-◌, ◌^◌, length, is_some, IfSome}
use Rattle.fort_tables.specs.Tables.{Made}
use Rattle.fort_classes.specs.Keys.{leaders_by}
use Rattle.fort_label_keys.specs.ViewKeys.{keys_by}
use Rattle.fort_leading_tables.specs.Replays.{IsReplaying}
use Rattle.fort_explore.specs.LedTargets.{AreLedTargets}
use Rattle.fort_explore.proofs.whole.give_whole.Given as goal

abbrev pub invariant-entries : goal.invariant-entries
invariant-entries g l = record {
  keys : l.led.views.keys ≡ l.fn.led.views.keys;
  known : (m : Made) → AreLedTargets (g.K.LabelKeys.view l.fn.led.views.keys.now) (g.K.LabelKeys.key l.fn.led.views.keys.now) l.rows.labels m l.fn.led.views.views l.fn.led.presences.items l.fn.led.ranks.items l.fn.led.targets
      → IsReplaying (leaders_by (keys_by (g.K.LabelKeys.view l.fn.led.views.keys.now) (g.K.LabelKeys.key l.fn.led.views.keys.now)) l.rows.labels) m l.fn.maker
      → AreLedTargets (g.K.LabelKeys.view l.led.views.keys.now) (g.K.LabelKeys.key l.led.views.keys.now) l.rows.labels m l.led.views.views l.led.presences.items l.led.ranks.items l.led.targets;
  replays : (m : Made) → AreLedTargets (g.K.LabelKeys.view l.fn.led.views.keys.now) (g.K.LabelKeys.key l.fn.led.views.keys.now) l.rows.labels m l.fn.led.views.views l.fn.led.presences.items l.fn.led.ranks.items l.fn.led.targets
      → IsReplaying (leaders_by (keys_by (g.K.LabelKeys.view l.fn.led.views.keys.now) (g.K.LabelKeys.key l.fn.led.views.keys.now)) l.rows.labels) m l.fn.maker
      → IsReplaying (leaders_by (keys_by (g.K.LabelKeys.view l.fn.led.views.keys.now) (g.K.LabelKeys.key l.fn.led.views.keys.now)) l.rows.labels) m l.maker;
  listed : IfSome l.targets (λ v. v.items ≡ l.maker.targets);
  there : is_some l.targets ≡ is_some l.fn.targets;
}

abbrev pub decreases-entries : goal.decreases-entries
decreases-entries g l = 2 ^ 64 - length l.maker.targets
