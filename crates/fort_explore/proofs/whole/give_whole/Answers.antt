use Rattle.std.proofs.Common.{◌≡◌, ℕ, List, length, IfSome, arith, ap, sym, ◌∙◌, subst}
use Rattle.std.proofs.lemmas.List.{length-map}
use Rattle.fort_tables.specs.Labels.{first_word}
use Rattle.fort_tables.specs.Tables.{IsAllowed, IsGiven}
use Rattle.fort_classes.specs.Keys.{leaders_by}
use Rattle.fort_classes.specs.LedTables.{led_target}
use Rattle.fort_label_keys.specs.ViewKeys.{keys_by}
use Rattle.fort_leading_tables.proofs.ReplayLaws.{replay_allowed, replay_low, replay_given}
use Rattle.fort_explore.proofs.WholeTableLaws.{entry_of_all}
use Rattle.fort_explore.proofs.whole.give_whole.Goals as goal

pub target-requires-clause-known : goal.target-requires-clause-known
target-requires-clause-known g c =
    let r = c.requires.known in
    let v = c.entries.invariant in
    let led = c.args.led.now in
    let lead = leaders_by (keys_by (g.K.LabelKeys.view led.views.keys.now) (g.K.LabelKeys.key led.views.keys.now)) c.args.rows.now.labels in
    (r.0, entry_of_all lead r.0 c.entries.maker c.in-Some.row.now (v.replays r.0 r.1 r.2) c.in-Some.ensures.some.is_entry, v.known r.0 r.1 r.2)

pub give-requires-clause-allowed : goal.give-requires-clause-allowed
give-requires-clause-allowed g c =
    let r = c.requires.known in
    let v = c.entries.invariant in
    let led = c.args.led.now in
    let row = c.in-Some.row.now in
    let due = c.in-Some.ensures.some in
    let lead = leaders_by (keys_by (g.K.LabelKeys.view led.views.keys.now) (g.K.LabelKeys.key led.views.keys.now)) c.args.rows.now.labels in
    let re = v.replays r.0 r.1 r.2 in
    let here = c.in_ok-target.ensures.target r.0 (entry_of_all lead r.0 c.entries.maker row re due.is_entry) (v.known r.0 r.1 r.2) in
    let is : c.in_ok-target.target ≡ led_target lead r.0 row = subst (λ k. c.in_ok-target.target ≡ led_target (leaders_by (keys_by (g.K.LabelKeys.view k.now) (g.K.LabelKeys.key k.now)) c.args.rows.now.labels) r.0 row) v.keys here in
    (row, subst (IsAllowed c.entries.maker row) (sym is) (replay_allowed lead r.0 r.1.made r.1.complete c.entries.maker re row due))

pub give-requires-clause-few : goal.give-requires-clause-few
give-requires-clause-few g c =
    let r = c.requires.known in
    let v = c.entries.invariant in
    let led = c.args.led.now in
    let row = c.in-Some.row.now in
    let due = c.in-Some.ensures.some in
    let lead = leaders_by (keys_by (g.K.LabelKeys.view led.views.keys.now) (g.K.LabelKeys.key led.views.keys.now)) c.args.rows.now.labels in
    let re = v.replays r.0 r.1 r.2 in
    let here = c.in_ok-target.ensures.target r.0 (entry_of_all lead r.0 c.entries.maker row re due.is_entry) (v.known r.0 r.1 r.2) in
    let is : c.in_ok-target.target ≡ led_target lead r.0 row = subst (λ k. c.in_ok-target.target ≡ led_target (leaders_by (keys_by (g.K.LabelKeys.view k.now) (g.K.LabelKeys.key k.now)) c.args.rows.now.labels) r.0 row) v.keys here in
    omega (arith, is, replay_low lead r.0 r.1.made r.1.complete c.entries.maker re row due, ap length r.1.by_labels, length-map c.args.rows.now.labels first_word, c.requires.numbers)

pub entries-preserved : goal.entries-preserved
entries-preserved g c =
    let v = c.entries.invariant in
    let led = c.args.led.now in
    let row = c.in-Some.row.now in
    let due = c.in-Some.ensures.some in
    let lead = leaders_by (keys_by (g.K.LabelKeys.view led.views.keys.now) (g.K.LabelKeys.key led.views.keys.now)) c.args.rows.now.labels in
    let given = c.in_ok-give.ensures.given row due in
    record {
      keys = c.target.ensures.keys ∙ v.keys;
      known = λ m a re. c.in_ok-target.ensures.known m (entry_of_all lead m c.entries.maker row (v.replays m a re) due.is_entry) (v.known m a re);
      replays = λ m a re.
          let so = v.replays m a re in
          let here = c.in_ok-target.ensures.target m (entry_of_all lead m c.entries.maker row so due.is_entry) (v.known m a re) in
          let is : c.in_ok-target.target ≡ led_target lead m row = subst (λ k. c.in_ok-target.target ≡ led_target (leaders_by (keys_by (g.K.LabelKeys.view k.now) (g.K.LabelKeys.key k.now)) c.args.rows.now.labels) m row) v.keys here in
          replay_given lead m a.made a.complete c.entries.maker so row c.give.new.self due (subst (λ (q : ℕ). IsGiven c.entries.maker row q c.give.new.self) is given);
      listed = subst (λ (ts : List ℕ). IfSome c.list_target.new.targets (λ w. w.items ≡ ts)) (sym given.targets) (c.in_ok-list_target.ensures.list c.entries.maker.targets v.listed);
      there = c.in_ok-list_target.ensures.there ∙ v.there;
    }
