use Rattle.fort_connectives.specs.ConnectiveView.{connective_of}
use Rattle.fort_engine.proofs.JoinLaws.{IsDecision-truths, some_of_first, some_of_second}
use Rattle.fort_engine.proofs.joined.join.Goals as goal

pub join_tables-requires-clause-some : goal.join_tables-requires-clause-some
join_tables-requires-clause-some c =
    let a = c.args in
    let t = c.requires in
    some_of_second a.system.now a.options.now (connective_of a.op) t.0 t.1 t.2 a.columns.now a.first.now.columns.now a.second.now.columns.now a.first.now.answer.now
    a.second.now.answer.now c.in-Auto-answer.field-0 t.3 c.in-Auto-answer.is

pub join_tables-requires-in-Auto-clause-some : goal.join_tables-requires-in-Auto-clause-some
join_tables-requires-in-Auto-clause-some c =
    let a = c.args in
    let t = c.requires in
    some_of_first a.system.now a.options.now (connective_of a.op) t.0 t.1 t.2 a.columns.now a.first.now.columns.now a.second.now.columns.now a.first.now.answer.now
    a.second.now.answer.now c.in-Auto.field-0 t.3 c.in-Auto.is

pub returns-in-Truth-answer : goal.returns-in-Truth-answer
returns-in-Truth-answer c h f g joined =
    let a = c.args in
    IsDecision-truths a.system.now a.options.now (connective_of a.op) h f g a.first.now.answer.now a.second.now.answer.now c.in-Truth.a c.in-Truth-answer.b
    c.connect.result c.truth.result joined.whole c.in-Truth.is c.in-Truth-answer.is c.connect.ensures c.truth.ensures.answer c.truth.ensures.counts joined.first_right
    joined.second_right
