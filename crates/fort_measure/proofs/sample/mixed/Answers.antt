use Rattle.std.proofs.Common.{List, subst, ⊎_elim}
use Rattle.std.specs.Prelude.{Contains}
use Rattle.std.proofs.lemmas.List.Elements.{Contains-push_cases}
use Rattle.fort_tables.specs.Entries.{Entry}
use Rattle.fort_measure.proofs.sample.mixed.Goals as goal

pub loop-k-preserved : goal.loop-k-preserved
loop-k-preserved c = λ e h.
    ⊎_elim (λ i. c.loop-k.invariant e i) (λ s. subst (λ (x : Entry). Contains c.args.rows.now x) s c.row_at.ensures)
    (Contains-push_cases c.loop-k.mixed.items c.row_at.result e (subst (λ (xs : List Entry). Contains xs e) c.in_ok-push.ensures.items h))
