use Rattle.std.proofs.Common.{ℕ, ◌+◌, ◌*◌, List, Bool, ◌∙◌, sym, subst}
use Rattle.std.specs.Prelude.{Contains}
use Rattle.fort_gtt_closure.specs.Marks.{IsSet}
use Rattle.fort_gtt_closure.proofs.ElementLaws.{IsSet-written}
use Rattle.fort_gtt_closure.proofs.agenda.Agenda.wait_by_moves.Goals as goal

pub returns-clause-met : goal.returns-clause-met
returns-clause-met c right r left l e lp lq =
    let i : ℕ = right.1 * c.args.self.now.shape.width + left.1 in
    let n = c.args.self.now.waiting.len in
    let met : IsSet c.mark_meeting.new.cells i =
    c.mark_meeting.ensures.marked right (subst (λ (zs : List (ℕ × ℕ)). Contains zs right) (sym c.get-rights.ensures) r)
    left (subst (λ (zs : List (ℕ × ℕ)). Contains zs left) (sym c.get-lefts.ensures) l) e lp lq in
    let rights : IsSet c.mark_rights.new.cells i =
    c.mark_rights.ensures.kept i
    (subst (λ (zs : List Bool). IsSet zs i) (sym c.deref_mut-2.ensures.value)
    (IsSet-written n c.mark_meeting.new.cells _ i (c.mark_meeting.auto.cells ∙ c.deref_mut.ensures.len) met)) in
    let lefts : IsSet c.mark_lefts.new.cells i =
    c.mark_lefts.ensures.kept i
    (subst (λ (zs : List Bool). IsSet zs i) (sym c.deref_mut-3.ensures.value)
    (IsSet-written n c.mark_rights.new.cells _ i (c.mark_rights.auto.cells ∙ c.deref_mut-2.ensures.len) rights)) in
    IsSet-written n c.mark_lefts.new.cells _ i (c.mark_lefts.auto.cells ∙ c.deref_mut-3.ensures.len) lefts
