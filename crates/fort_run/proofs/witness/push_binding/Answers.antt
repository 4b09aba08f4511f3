use Rattle.std.proofs.Common.{refl, length}
use Rattle.std.proofs.lemmas.Result.{on_ok_weaker}
use Rattle.fort_theory.specs.Trees.{Node, Nil}
use Rattle.fort_run.proofs.TermTexts.{term-there, binding-text}
use Rattle.fort_run.proofs.witness.push_binding.Goals as goal

pub write_term-requires-clause-nodes : goal.write_term-requires-clause-nodes
write_term-requires-clause-nodes c = let names = c.requires.terms.0 in (length names, c.requires.terms.2.are)

pub write_term-requires-clause-node : goal.write_term-requires-clause-node
write_term-requires-clause-node c = c.requires.terms.2.within

pub write_term-requires-clause-present : goal.write_term-requires-clause-present
write_term-requires-clause-present c =
    let given = c.requires.terms in
    let here = term-there c.args.signature.now given.0 c.args.dag.now c.args.node given.1 c.args.column (Node 0 Nil) given.2 given.3 in
    rw here refl

pub returns : goal.returns
returns c =
    on_ok_weaker c.write_term.result (λ e. λ names ts d are low.
    binding-text c.args.signature.now names c.args.dag.now c.args.node ts c.args.column d are low c.args.text.now.items c.extend_from_slice.new.self.items
    c.extend_from_slice-2.new.self.items c.write_term.new.out.items c.args.name.now c.in_ok-extend_from_slice.ensures.items
    c.in_ok-extend_from_slice-2.ensures.items e)
    c.write_term.ensures.ok
