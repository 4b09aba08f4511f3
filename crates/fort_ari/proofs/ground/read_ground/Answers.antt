use Rattle.std.proofs.Common.{◌∙◌, arith}
use Rattle.std.proofs.lemmas.Option.{IfSome_then}
use Rattle.std.proofs.lemmas.Result.{IfOk-weaker}
use Rattle.fort_grammar.specs.Text.{BadByte, ExtraClose, Unclosed, TooDeep}
use Rattle.fort_ari.proofs.Formats.{IfNone_then}
use Rattle.fort_grammar.proofs.GroundTexts.{IsGroundText-ground}
use Rattle.fort_ari.proofs.OneGround.{faulty_text, one_form, ground_text, only_term}
use Rattle.fort_ari.proofs.ground.read_ground.Goals as goal

pub returns-in-Err-BadByte-clause-none : goal.returns-in-Err-BadByte-clause-none
returns-in-Err-BadByte-clause-none c =
    faulty_text _ _ (BadByte c.in-Err-BadByte._at) (rw (c.in-Err-BadByte.field-0-is, c.in_ok-from_slice.ensures.items) at c.in-Err-BadByte.ensures.fault)

pub returns-in-Err-ExtraClose-clause-none : goal.returns-in-Err-ExtraClose-clause-none
returns-in-Err-ExtraClose-clause-none c =
    faulty_text _ _ (ExtraClose c.in-Err-ExtraClose._at) (rw (c.in-Err-ExtraClose.field-0-is, c.in_ok-from_slice.ensures.items) at c.in-Err-ExtraClose.ensures.fault)

pub returns-in-Err-Unclosed-clause-none : goal.returns-in-Err-Unclosed-clause-none
returns-in-Err-Unclosed-clause-none c =
    faulty_text _ _ (Unclosed c.in-Err-Unclosed._at) (rw (c.in-Err-Unclosed.field-0-is, c.in_ok-from_slice.ensures.items) at c.in-Err-Unclosed.ensures.fault)

pub returns-in-Err-TooDeep-clause-none : goal.returns-in-Err-TooDeep-clause-none
returns-in-Err-TooDeep-clause-none c =
    faulty_text _ _ (TooDeep c.in-Err-TooDeep._at) (rw (c.in-Err-TooDeep.field-0-is, c.in_ok-from_slice.ensures.items) at c.in-Err-TooDeep.ensures.fault)

pub returns-then-count-ne1-clause-none : goal.returns-then-count-ne1-clause-none
returns-then-count-ne1-clause-none c = λ t g.
    let one = one_form _ _ _ (rw c.in_ok-from_slice.ensures.items at c.in-Ok.ensures.forms) t g in omega (arith, c.len-count.ensures.count)

pub returns-clause-some : goal.returns-clause-some
returns-clause-some c =
    IfOk-weaker c.term_of.result _ _ (λ r some. IfSome_then r some (λ t is.
    ground_text _ _ _ (rw c.in_ok-from_slice.ensures.items at c.in-Ok.ensures.forms) _ t (omega (arith, c.len-count.ensures.count)) c.form.ensures.form
    (rw (c.form.ensures.bytes ∙ c.in-Ok.ensures.bytes ∙ c.in_ok-from_slice.ensures.items) at is))) c.term_of.ensures.some

pub returns-clause-lawful : goal.returns-clause-lawful
returns-clause-lawful c = IfOk-weaker c.term_of.result _ _ (λ r some. IfSome_then r some (λ t is. IsGroundText-ground _ _ t is)) (returns-clause-some c)

pub returns-clause-none : goal.returns-clause-none
returns-clause-none c =
    IfOk-weaker c.term_of.result _ _ (λ r none. IfNone_then r none (λ not t g. not t
    (rw (c.form.ensures.bytes ∙ c.in-Ok.ensures.bytes ∙ c.in_ok-from_slice.ensures.items)
    (only_term _ _ _ (rw c.in_ok-from_slice.ensures.items at c.in-Ok.ensures.forms) _ t c.form.ensures.form g)))) c.term_of.ensures.none
