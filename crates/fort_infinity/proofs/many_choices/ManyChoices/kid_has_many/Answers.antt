use Rattle.std.proofs.Common.{◌≡◌, ℕ, ◌<◌, ◌+◌, List, [], get_or, length, ap, sym, ◌∙◌, arith}
use Rattle.fort_tables.specs.BitRows.{has_bit}
use Rattle.fort_tables.specs.ManyEntries.{kid_labels}
use Rattle.fort_tables.proofs.ManyEntryLaws.{kid_label_at, length-kid_labels, kid_within}
use Rattle.fort_tables.proofs.ManySearchLaws.{has_many-above, has_many-own, has_many-past}
use Rattle.fort_infinity.specs.ManyCounts.{is_many}
use Rattle.fort_infinity.proofs.many_choices.ManyChoices.kid_has_many.Goals as goal

pub label-requires : goal.label-requires
label-requires g c =
    let s = c.args.self.now in
    let body = g.T.Table.table s.body.now in
    omega (arith, ap (λ (ks : List ℕ). get_or ks c.args.j 0) c.kids-kids.ensures.states, kid_within body s.column (is_many s.alone.now s.counts.now) s.rows.now.labels s.row.now c.states-states.ensures.lawful c.states-states.ensures.reached c.requires.choices.entry c.args.j (omega (arith, c.if-j-kids.true, ap length c.kids-kids.ensures.states)))

pub returns-then-self-j : goal.returns-then-self-j
returns-then-self-j g c =
    let s = c.args.self.now in
    has_many-above (g.T.Table.table s.body.now) (is_many s.alone.now s.counts.now) (kid_labels s.rows.now.labels s.row.now) s.arity c.args.j c.args.k c.if-self-j.true

pub returns-then-j-kids : goal.returns-then-j-kids
returns-then-j-kids g c =
    let s = c.args.self.now in
    let body = g.T.Table.table s.body.now in
    let labels = s.rows.now.labels in
    let ws = kid_labels labels s.row.now in
    let j = c.args.j in
    let there : j < length s.row.now.kids = omega (arith, c.if-j-kids.true, ap length c.kids-kids.ensures.states) in
    let own : c.label.result.now ≡ get_or ws j [] = c.label.ensures ∙ (ap (λ (ks : List ℕ). get_or labels (get_or ks j 0) []) c.kids-kids.ensures.states ∙ sym (kid_label_at labels s.row.now j there)) in
    c.has_bit.ensures
    ∙ ((λ i. has_bit (own i) (128 + (c.states-states.ensures.count i + c.args.k)))
    ∙ has_many-own body (is_many s.alone.now s.counts.now) ws s.arity j c.args.k c.if-self-j.false (omega (arith, there, length-kid_labels labels s.row.now)))

pub returns-else-j-kids : goal.returns-else-j-kids
returns-else-j-kids g c =
    let s = c.args.self.now in
    let body = g.T.Table.table s.body.now in
    let labels = s.rows.now.labels in
    c.is_many_at.ensures
    ∙ has_many-past body (is_many s.alone.now s.counts.now) (kid_labels labels s.row.now) s.arity c.args.j c.args.k c.if-self-j.false (omega (arith, c.if-j-kids.false, ap length c.kids-kids.ensures.states, length-kid_labels labels s.row.now))
