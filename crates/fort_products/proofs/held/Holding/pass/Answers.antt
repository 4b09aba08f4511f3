use Rattle.std.proofs.Common.{ℕ, List, length, ap, sym, ◌∙◌, arith, subst}
use Rattle.fort_tables.specs.Entries.{entry}
use Rattle.fort_tables.specs.Labels.{IsOverLabels}
use Rattle.fort_tables.specs.LabelRules.{label_of, entry_label}
use Rattle.fort_tables.specs.Products.{signature_of}
use Rattle.fort_products.specs.HeldWalks.{rule_of}
use Rattle.fort_products.proofs.HoldLaws.{over_held, operands_held, cursor_low, cursor_room, held_more}
use Rattle.fort_products.proofs.held.Holding.pass.Goals as goal

pub bounds-cursors-stage : goal.bounds-cursors-stage
bounds-cursors-stage c =
    let r = c.requires in
    cursor_low r.0 r.2 c.args.self.now r.1 c.args.joint.now c.args.stage c.args.cursors.now r.3 r.5

pub offset_bounds-cursors-stage : goal.offset_bounds-cursors-stage
offset_bounds-cursors-stage c =
    let r = c.requires in
    omega (arith, cursor_low r.0 r.2 c.args.self.now r.1 c.args.joint.now c.args.stage c.args.cursors.now r.3 r.5)

pub bounds-cursors-stage-2 : goal.bounds-cursors-stage-2
bounds-cursors-stage-2 c =
    let r = c.requires in
    cursor_low r.0 r.2 c.args.self.now r.1 c.args.joint.now c.args.stage c.args.cursors.now r.3 r.5

pub offset_bounds-cursors-stage-2 : goal.offset_bounds-cursors-stage-2
offset_bounds-cursors-stage-2 c =
    let r = c.requires in
    omega (arith, cursor_low r.0 r.2 c.args.self.now r.1 c.args.joint.now c.args.stage c.args.cursors.now r.3 r.5)

pub bounds-self-cursor : goal.bounds-self-cursor
bounds-self-cursor c =
    let r = c.requires in
    cursor_room r.0 r.2 c.args.self.now r.1 c.args.joint.now c.args.stage c.args.cursors.now r.3 r.5

pub returns-then-cursor-self : goal.returns-then-cursor-self
returns-then-cursor-self c = λ o f p a k v b.
    held_more o p c.args.self.now f c.args.joint.now c.args.stage c.args.cursors.now a v (λ low. absurd (omega (arith, low, c.if-cursor-self.true)))

pub is_label-requires : goal.is_label-requires
is_label-requires c =
    let r = c.requires in
    let o = r.0 in
    let f = r.1 in
    let over = over_held o r.2 c.args.self.now f c.args.joint.now c.args.stage r.3 in
    let own = subst (λ (ks : List ℕ). IsOverLabels (signature_of o.first o.second) (length f) (label_of (rule_of o (length f))) c.args.self.now.rows.now.labels (entry f ks)) (sym r.4) over in
    (o.first, o.second, f, r.3.joint_is, operands_held o r.2 c.args.self.now f c.args.joint.now c.args.stage 0 0 r.3, own)

pub returns-then-target-len : goal.returns-then-target-len
returns-then-target-len c = λ o f p a k v b.
    let h = c.args.self.now in
    let joint = c.args.joint.now in
    let ws = h.rows.now.labels in
    let over = over_held o p h f joint c.args.stage a in
    let own = subst (λ (ks : List ℕ). IsOverLabels (signature_of o.first o.second) (length f) (label_of (rule_of o (length f))) ws (entry f ks)) (sym k) over in
    let label = c.is_label.ensures o.first o.second f a.joint_is (operands_held o p h f joint c.args.stage 0 0 a) own b in
    held_more o p h f joint c.args.stage c.args.cursors.now a v
    (λ low. record {
      within = omega (arith, c.if-target-len.true, c.len.ensures);
      label = sym c.label.ensures ∙ (label ∙ ap (λ ks. entry_label (rule_of o p.table.columns) ws (entry f ks)) k);
    })
