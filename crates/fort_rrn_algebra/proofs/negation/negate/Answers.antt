use Rattle.std.proofs.Common.{IsTrue, ap, sym, ◌∙◌, subst}
use Rattle.std.proofs.lemmas.Result.{IfOk-weaker}
use Rattle.fort_tables.specs.Tables.{Table, listed_table}
use Rattle.fort_tables.specs.OperationTruth.{TestsRelation, TupleRelation, Complement, accepts}
use Rattle.fort_tables.proofs.TableTruth.{complement_decides}
use Rattle.fort_rrn_algebra.proofs.NegationLaws.{complemented-turned}
use Rattle.fort_rrn_algebra.proofs.negation.negate.Goals as goal

pub returns-clause-complement : goal.returns-clause-complement
returns-clause-complement c =
    IfOk-weaker c.with_finals.result _ _
    (λ t made. ap listed_table made ∙ complemented-turned c.args.table.now c.in_ok-finals.finals.items c.columns-columns.ensures.lawful.some c.in_ok-finals.ensures)
    c.with_finals.ensures.table

pub returns-clause-accepted : goal.returns-clause-accepted
returns-clause-accepted c =
    let old = listed_table c.args.table.now in
    let R : TupleRelation = λ s. IsTrue (accepts old s) in
    let decided = complement_decides old R c.columns-columns.ensures.lawful (λ t h full. ((λ y. y), (λ y. y))) in
    IfOk-weaker c.with_finals.result _ _
    (λ t made. subst (λ (x : Table). TestsRelation old.signature old.columns (accepts x) (Complement R)) (sym
    (ap listed_table made ∙ complemented-turned c.args.table.now c.in_ok-finals.finals.items c.columns-columns.ensures.lawful.some c.in_ok-finals.ensures))
    decided)
    c.with_finals.ensures.table
