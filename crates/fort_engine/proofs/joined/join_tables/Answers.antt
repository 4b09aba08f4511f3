use Rattle.std.proofs.Common.{◌≡◌, refl, sym, ◌∙◌, length}
use Rattle.fort_connectives.specs.ConnectiveView.{connective_of}
use Rattle.fort_engine.specs.AnswerView.{as_answer}
use Rattle.fort_engine.proofs.JoinLaws.{first_among, second_among, IsJoining-places}
use Rattle.fort_engine.proofs.joined.join_tables.Goals as goal

pub places_among-requires : goal.places_among-requires
places_among-requires c =
    let a = c.args in
    let t = c.requires.two in
    first_among a.system.now a.options.now (connective_of a.op) t.0 t.1 t.2 a.columns.now a.first.now.columns.now a.second.now.columns.now (as_answer a.first.now.answer.now)
    (as_answer a.second.now.answer.now) t.3

pub places_among-requires-2 : goal.places_among-requires-2
places_among-requires-2 c =
    let a = c.args in
    let t = c.requires.two in
    second_among a.system.now a.options.now (connective_of a.op) t.0 t.1 t.2 a.columns.now a.first.now.columns.now a.second.now.columns.now (as_answer a.first.now.answer.now)
    (as_answer a.second.now.answer.now) t.3

pub product_table-requires : goal.product_table-requires
product_table-requires c =
    let a = c.args in
    let t = c.requires.two in
    let first : c.in_ok-places.places.items ≡ c.deref.result.now = cc in
    let second : c.in_ok-others.others.items ≡ c.deref-2.result.now = cc in
    let join =
    IsJoining-places a.system.now a.options.now (connective_of a.op) t.0 t.1 t.2 a.columns.now a.first.now.columns.now a.second.now.columns.now (as_answer a.first.now.answer.now)
    (as_answer a.second.now.answer.now) c.deref.result.now c.deref-2.result.now (length a.columns.now) t.3 c.requires.some refl (sym first ∙ c.in_ok-places.ensures)
    (sym second ∙ c.in_ok-others.ensures) in
    (t.0, t.1, t.2, join)

pub returns : goal.returns
returns c h f g joined =
    let a = c.args in
    let first : c.in_ok-places.places.items ≡ c.deref.result.now = cc in
    let second : c.in_ok-others.others.items ≡ c.deref-2.result.now = cc in
    let join =
    IsJoining-places a.system.now a.options.now (connective_of a.op) h f g a.columns.now a.first.now.columns.now a.second.now.columns.now (as_answer a.first.now.answer.now)
    (as_answer a.second.now.answer.now) c.deref.result.now c.deref-2.result.now (length a.columns.now) joined c.requires.some refl (sym first ∙ c.in_ok-places.ensures)
    (sym second ∙ c.in_ok-others.ensures) in
    c.product_table.ensures h f g join
