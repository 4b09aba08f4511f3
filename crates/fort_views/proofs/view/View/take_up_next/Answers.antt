use Rattle.std.proofs.Common.{ap, ◌∙◌}
use Rattle.fort_views.proofs.ClassLaws.{known_past, known_after, few_leaders}
use Rattle.fort_views.proofs.view.View.take_up_next.Goals as goal

pub returns-then-not-has_presence-clause-known : goal.returns-then-not-has_presence-clause-known
returns-then-not-has_presence-clause-known g c =
    let words = c.args.self.now.words.items in
    known_past (g.K.LabelKeys.key c.args.keys.now) words c.args.rows.now.labels c.args.self.now.presence c.args.self.now.until c.args.self.now.keys c.args.self.now.leaders.items c.args.self.now.classes.items
    c.label-label.result.now c.has_presence.result c.requires.known c.requires.within c.label-label.ensures c.has_presence.ensures c.if-not-has_presence.true

pub class_with-requires-clause-few : goal.class_with-requires-clause-few
class_with-requires-clause-few g c = few_leaders (g.K.LabelKeys.key c.args.keys.now) c.args.self.now.words.items c.args.rows.now.labels c.args.self.now.presence c.args.self.now.until c.args.self.now.keys c.args.self.now.leaders.items c.args.self.now.classes.items c.requires.known

pub returns-clause-known : goal.returns-clause-known
returns-clause-known g c =
    let key = g.K.LabelKeys.key c.args.keys.now in
    known_after key c.args.rows.now.labels c.args.self.now c.class_with.new.self c.push.new.self.items c.label-label.result.now c.write_key.new.words.items c.has_presence.result c.in_ok-class.class
    c.requires.known c.requires.within c.label-label.ensures c.has_presence.ensures c.if-not-has_presence.false
    (c.in_ok-write_key.ensures ∙ ap (λ w. key w c.label-label.result.now) c.as_slice.ensures.value)
    c.in_ok-class.ensures.gives c.class_with.ensures.sight c.class_with.ensures.classes c.in_ok-push.ensures.items
