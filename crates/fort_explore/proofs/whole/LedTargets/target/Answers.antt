use Rattle.std.proofs.Common.{◌≡◌, ℕ, ◌<◌, List, take, length, get_or, ap, sym, ◌∙◌, arith, subst}
use Rattle.fort_leading_tables.specs.EntryNumbers.{AreTargetsOf}
use Rattle.fort_leading_tables.specs.declared.leading_targets.LeadingTargets.{LeadingTargets}
use Rattle.fort_classes.specs.Keys.{leaders_by}
use Rattle.fort_label_keys.specs.ViewKeys.{keys_by}
use Rattle.fort_explore.proofs.LedTargetLaws.{front_count, front_same, led_there, led_target_is, digits_width}
use Rattle.fort_explore.proofs.whole.LedTargets.target.Goals as goal

pub target-requires-clause-there : goal.target-requires-clause-there
target-requires-clause-there g c =
    let r = c.requires.known in
    let m = r.0 in
    let row = c.args.row.now in
    let kids = c.kids-count.result.now in
    let is = c.kids-count.ensures.states in
    let keys = c.args.self.now.views.keys.now in
    let lead = leaders_by (keys_by (g.K.LabelKeys.view keys) (g.K.LabelKeys.key keys)) c.args.rows.now.labels row.symbol in
    let found = c.in_ok-leaders.leaders in
    let told = c.in_ok-leaders.ensures.leaders m r.1 r.2 in
    let same : (j : ℕ) → j < length kids → get_or found j 0 ≡ lead j (get_or kids j 0) =
    λ j l. told j (omega (arith, l, ap length is)) ∙ ap (λ (ks : List ℕ). lead j (get_or ks j 0)) (sym is) in
    let ks = take (length kids) found in
    let count = front_count found kids row.kids is (omega (arith, c.kids-count.ensures.few)) in
    let are = front_same found kids row.kids lead is same in
    let targets = subst (λ (t : LeadingTargets). AreTargetsOf m.columns m.entries m.targets t) (sym c.leaders.ensures.targets) r.2.targets_are in
    (m.columns, m.entries, m.targets, targets, digits_width _ _ _ m _ _ _ _ r.2 row r.1 c.digits.result.now c.digits.ensures.digits, led_there _ _ _ m _ _ _ _ r.2 row r.1 c.digits.result.now c.digits.ensures.digits ks count are)

pub returns-clause-target : goal.returns-clause-target
returns-clause-target g c = λ m h a.
    let row = c.args.row.now in
    let kids = c.kids-count.result.now in
    let is = c.kids-count.ensures.states in
    let keys = c.args.self.now.views.keys.now in
    let lead = leaders_by (keys_by (g.K.LabelKeys.view keys) (g.K.LabelKeys.key keys)) c.args.rows.now.labels row.symbol in
    let found = c.in_ok-leaders.leaders in
    let told = c.in_ok-leaders.ensures.leaders m h a in
    let same : (j : ℕ) → j < length kids → get_or found j 0 ≡ lead j (get_or kids j 0) =
    λ j l. told j (omega (arith, l, ap length is)) ∙ ap (λ (ks : List ℕ). lead j (get_or ks j 0)) (sym is) in
    let ks = take (length kids) found in
    let count = front_count found kids row.kids is (omega (arith, c.kids-count.ensures.few)) in
    let are = front_same found kids row.kids lead is same in
    let targets = subst (λ (t : LeadingTargets). AreTargetsOf m.columns m.entries m.targets t) (sym c.leaders.ensures.targets) a.targets_are in
    let ds = c.digits.result.now in
    let digits = c.digits.ensures.digits in
    c.target.ensures m.columns m.entries m.targets targets (digits_width _ _ _ m _ _ _ _ a row h ds digits) (led_there _ _ _ m _ _ _ _ a row h ds digits ks count are)
    ∙ led_target_is _ _ _ m _ _ _ _ a row h ds digits ks count are
