use Rattle.std.proofs.Common.{[], ◌∷◌, None, get_or, ap, sym, subst, ◌∙◌, arith}
use Rattle.std.proofs.lemmas.List.{length-map}
use Rattle.fort_theory.specs.Trees.{Tree}
use Rattle.fort_tables.specs.Tuples.{presence}
use Rattle.fort_tables.specs.Labels.{first_word}
use Rattle.fort_alike.specs.Subterms.{subterms}
use Rattle.fort_context_closure.specs.TermNodes.{AreNodesOf}
use Rattle.fort_context_closure.proofs.ListingLaws.{number_at-nodes, two_words}
use Rattle.fort_context_closure.proofs.term_labels.TermLabels.step.Goals as goal

pub returns : goal.returns
returns c sig =
    let e = c.args.row.now in
    let over = c.requires.over in
    let nodes : AreNodesOf (subterms c.args.self.now) c.deref.result.now =
    subst (AreNodesOf (subterms c.args.self.now)) (sym c.deref.ensures.value) (subst (λ (t : Tree). AreNodesOf (subterms t) c.self.inside.nodes.items) c.self.view_is c.self.invariant) in
    two_words c.args.out.now c.presence.result (presence e.symbol) c.number.result c.requires.room c.presence.ensures
    ∙ ap (λ n. presence e.symbol ∷ n ∷ [])
    (number_at-nodes c.args.self.now c.deref.result.now nodes over.0 c.args.rows.now.labels (get_or e.symbol 0 None) e.kids c.number.result over.1.are
    (λ j l. omega (arith, over.1.entry.within j l, length-map c.args.rows.now.labels first_word)) c.number.ensures)
