use Rattle.std.proofs.Common.{sym, subst, ◌-◌, arith}
use Rattle.std.specs.Prelude.{IsSome}
use Rattle.fort_theory.specs.Signatures as theory
use Rattle.fort_tables.specs.Entries.{AreNodes}
use Rattle.fort_tables.specs.Tables.{listed_table}
use Rattle.fort_witness.specs.Texts.{term_at}
use Rattle.fort_witness.proofs.WitnessLaws.{witness_term}
use Rattle.fort_tests_tables.proofs.witness.text_of.Goals as goal

pub overflow_cast-last : goal.overflow_cast-last
overflow_cast-last c = omega (arith, c.requires.witness.few, c.states-states.ensures.count)

pub write_term-requires-clause-nodes : goal.write_term-requires-clause-nodes
write_term-requires-clause-nodes c =
    let t = listed_table c.args.table.now in
    (t.columns, subst (λ (s : theory.Signature). AreNodes s t.columns c.args.dag.now) (sym c.signature.ensures) c.requires.witness.are)

pub write_term-requires-clause-present : goal.write_term-requires-clause-present
write_term-requires-clause-present c =
    let t = listed_table c.args.table.now in
    subst (λ n. IsSome (term_at c.args.dag.now (n - 1) 0)) (sym c.len-last.ensures) (witness_term t c.args.dag.now 0 c.requires.witness c.requires.column)
