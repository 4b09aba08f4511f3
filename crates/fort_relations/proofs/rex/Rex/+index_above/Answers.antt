use Rattle.std.proofs.Common.{◌≡◌, sym, ◌∙◌, ap}
use Rattle.fort_theory.specs.Expressions.{root_indices}
use Rattle.fort_relations.specs.FirstAbove.{first_above}
use Rattle.fort_relations.proofs.FirstAboveLaws.{first_above-none, first_above-some}
use Rattle.fort_relations.proofs.RexShapes.{root_indices-two}
use Rattle.fort_relations.proofs.rex.Rex.+index_above.Goals as goal

pub returns-in-None : goal.returns-in-None
returns-in-None t c =
    let n = c.args.number in
    let arm = c.in-Union in
    let first : c.index_above.result ≡ first_above n (root_indices arm.a) =
    c.index_above.ensures ∙ ap (λ e. first_above n (root_indices e)) c.as_rex.ensures in
    let second : c.index_above-in-None.result ≡ first_above n (root_indices arm.b) =
    c.index_above-in-None.ensures ∙ ap (λ e. first_above n (root_indices e)) c.as_rex-in-None.ensures in
    rw (root_indices-two c.args.self.now arm.a arm.b arm.is)
    (second ∙ first_above-none n (root_indices arm.a) (root_indices arm.b) (sym c.in-None.is ∙ first))

pub returns-in_default : goal.returns-in_default
returns-in_default t c =
    let n = c.args.number in
    let arm = c.in-Union in
    let first : c.index_above.result ≡ first_above n (root_indices arm.a) =
    c.index_above.ensures ∙ ap (λ e. first_above n (root_indices e)) c.as_rex.ensures in
    rw (root_indices-two c.args.self.now arm.a arm.b arm.is)
    (first ∙ first_above-some n (root_indices arm.a) (root_indices arm.b) (λ none. c.in_default.not-None (first ∙ sym none)))
