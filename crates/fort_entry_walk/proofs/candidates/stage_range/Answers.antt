use Rattle.std.proofs.Common.{ℕ, arith, refl, subst, sym}
use Rattle.fort_entry_walk.specs.Candidates.{LeavesOut}
use Rattle.fort_entry_walk.proofs.CandidateEntries.{newest_left, none_at_first}
use Rattle.fort_entry_walk.proofs.candidates.stage_range.Goals as goal

pub returns-then-stage-eq0 : goal.returns-then-stage-eq0
returns-then-stage-eq0 c = λ sig most.
    subst (λ (s : ℕ). LeavesOut sig c.args.presences.now s (record { presence = 0; from = 0; to = 1 })) (sym c.if-stage-eq0.true)
    (none_at_first sig c.args.presences.now (record { presence = 0; from = 0; to = 1 }) refl refl refl)

pub returns-else-stage-eq0 : goal.returns-else-stage-eq0
returns-else-stage-eq0 c = λ sig most.
    newest_left sig c.args.presences.now c.args.stage (record { presence = c.from.result; from = 0; to = c.args.most })
    (omega arith) c.from.ensures refl most
