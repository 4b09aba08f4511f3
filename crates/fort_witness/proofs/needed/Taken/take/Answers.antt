use Rattle.std.proofs.Common.{◌≡◌, ◌∷◌, ◌++◌, [], get_or, refl, ap, sym, ◌∙◌, subst, arith}
use Rattle.std.proofs.lemmas.List.{get_or_default}
use Rattle.fort_tables.specs.Entries.{Entry, AreNodes}
use Rattle.fort_witness.specs.declared.needed.Visit.TheVariants.{Itself}
use Rattle.fort_witness.specs.Rounds.{over_states}
use Rattle.fort_witness.proofs.VisitLaws.{top_within, visit_taken}
use Rattle.fort_witness.proofs.TakeLaws.{taken_nodes, row_within, row_is, taken_row}
use Rattle.fort_witness.proofs.needed.Taken.take.Goals as goal

pub returns-then-index : goal.returns-then-index
returns-then-index c =
    λ rest h.
    let nodes = c.args.dag.now in
    let t = c.args.self.now in
    let low = top_within nodes t rest (Itself c.args.node) h in
    let value : c.index.result.now ≡ get_or t.numbers.items c.args.node 0 = c.index.ensures ∙ get_or_default t.numbers.items c.args.node c.index.result.now 0 (omega (arith, low, h.taking.count)) in
    visit_taken c.requires.nodes.0 c.requires.nodes.1 nodes t rest (Itself c.args.node) c.requires.nodes.2 h (λ e. c.if-index.true (value ∙ e))

pub node-requires : goal.node-requires
node-requires c = top_within c.args.dag.now c.args.self.now c.requires.visiting.0 (Itself c.args.node) c.requires.visiting.1

pub over_states-row-requires : goal.over_states-row-requires
over_states-row-requires c =
    λ j l.
    let nodes = c.args.dag.now in
    let low = top_within nodes c.args.self.now c.requires.visiting.0 (Itself c.args.node) c.requires.visiting.1 in
    omega (arith, row_within c.requires.nodes.0 c.requires.nodes.1 nodes c.args.node j c.node.result c.requires.nodes.2 low c.node.ensures l, low, c.requires.visiting.1.taking.count, c.as_slice.ensures.len)

pub push-requires : goal.push-requires
push-requires c =
    let nodes = c.args.dag.now in
    let t = c.args.self.now in
    let e = c.node.result in
    let is : c.over_states-row.result ≡ over_states t.numbers.items e = c.over_states-row.ensures ∙ ap (λ qs. over_states qs e) c.as_slice.ensures.value in (
      c.requires.nodes.0,
      c.requires.nodes.1,
      subst (λ (r : Entry). AreNodes c.requires.nodes.0 c.requires.nodes.1 (t.dag ++ r ∷ [])) (sym (row_is nodes t.numbers.items c.args.node e c.over_states-row.result c.node.ensures is))
          (taken_nodes c.requires.nodes.0 c.requires.nodes.1 nodes t c.requires.visiting.0 c.args.node e c.requires.nodes.2 c.requires.visiting.1),
    )

pub index_mut-requires : goal.index_mut-requires
index_mut-requires c =
    omega (arith, top_within c.args.dag.now c.args.self.now c.requires.visiting.0 (Itself c.args.node) c.requires.visiting.1, c.requires.visiting.1.taking.count)

pub returns : goal.returns
returns c =
    λ rest h.
    let nodes = c.args.dag.now in
    let t = c.args.self.now in
    let e = c.node.result in
    let k = c.args.node in
    let low = top_within nodes t rest (Itself k) h in
    let is : c.over_states-row.result ≡ over_states t.numbers.items e = c.over_states-row.ensures ∙ ap (λ qs. over_states qs e) c.as_slice.ensures.value in
    let value : c.index.result.now ≡ get_or t.numbers.items k 0 = c.index.ensures ∙ get_or_default t.numbers.items k c.index.result.now 0 (omega (arith, low, h.taking.count)) in
    taken_row c.requires.nodes.0 c.requires.nodes.1 nodes t _ rest k c.len-number.result e c.over_states-row.result c.requires.nodes.2 c.requires.apart c.requires.few h (sym value ∙ c.if-index.false)
    c.node.ensures is c.len-number.ensures c.in_ok-push.ensures.ok c.in_ok-push.ensures.tuples refl
