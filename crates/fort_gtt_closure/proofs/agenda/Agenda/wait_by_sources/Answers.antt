use Rattle.std.proofs.Common.{ℕ, ◌+◌, ◌*◌, List, ◌∙◌, sym, subst, nat_eq, Bool, eqb-true}
use Rattle.std.specs.Prelude.{Contains}
use Rattle.fort_gtt_closure.specs.Groups.{group}
use Rattle.fort_gtt_closure.specs.Marks.{IsMarked}
use Rattle.fort_gtt_closure.proofs.ElementLaws.{found_by_any, IsSet-written}
use Rattle.fort_gtt_closure.proofs.agenda.Agenda.wait_by_sources.Goals as goal

pub returns-clause-back : goal.returns-clause-back
returns-clause-back c x lx lp led mx mq =
    let a = c.args.self.now in
    let test : ℕ × ℕ → Bool = λ pair. nat_eq pair.1 x in
    let w = found_by_any test (group a.sources c.args.p) (a.sourced.each x c.args.p lx lp led) in
    let marked : IsMarked a.shape c.mark_rights.new.cells x c.args.q =
    subst (λ z. IsMarked a.shape c.mark_rights.new.cells z c.args.q) (eqb-true w.0.1 x w.2)
    (c.mark_rights.ensures.marked w.0 (subst (λ (zs : List (ℕ × ℕ)). Contains zs w.0) (sym c.get.ensures) w.1)) in
    IsSet-written a.waiting.len c.mark_rights.new.cells _ (x * a.shape.width + c.args.q) (c.mark_rights.auto.cells ∙ c.deref_mut.ensures.len) (marked mx mq)
