use Rattle.std.proofs.Common.{get_or, sym, ◌∙◌}
use Rattle.std.proofs.lemmas.Bool.{eqb-true}
use Rattle.fort_products.proofs.JointLaws.{first_there, second_there, label_found}
use Rattle.fort_products.proofs.joint.Joint.is_label.Goals as goal
use Rattle.fort_products.proofs.joint.Joint.is_label.Goals.{then-presence-self, else-presence-self}

pub word-requires : goal.word-requires
word-requires c =
    let r = c.requires in
    first_there r.0 r.1 r.2 c.args.self.now c.args.rows.now.labels c.args.kids.now r.3 r.4 r.5

pub word-requires-then-first-word : goal.word-requires-then-first-word
word-requires-then-first-word c =
    let r = c.requires in
    second_there r.0 r.1 r.2 c.args.self.now c.args.rows.now.labels c.args.kids.now r.3 r.4 r.5

pub returns-then-first-word : goal.returns-then-first-word
returns-then-first-word c = λ first second f h o over t.
    let label = c.args.label.now in
    elim c.if-presence-self.branch [
      | then-presence-self w ↦ label_found first second f c.args.self.now c.args.rows.now.labels c.args.kids.now h o over label c.in-len3.len_at_least c.in-len3.len_below w.if-presence-self.true
          (eqb-true (get_or label 1 0) w.word.result (sym w.value-is ∙ c.if-first-word.true) ∙ w.word.ensures)
          (eqb-true (get_or label 2 0) c.word-then-first-word.result t ∙ c.word-then-first-word.ensures)
      | else-presence-self w ↦ absurd (w.if-presence-self.false (eqb-true (get_or label 0 0) c.args.self.now.presence (sym w.value-is ∙ c.if-first-word.true)))
    ]
