use Rattle.std.proofs.Common.{List, subst}
use Rattle.std.specs.Prelude.{Contains}
use Rattle.fort_tables.specs.Entries.{Entry}
use Rattle.fort_measure.proofs.look_ups.Goals as goal

pub look_up-sum-requires : goal.look_up-sum-requires
look_up-sum-requires c = λ e h.
    let i = subst (λ (xs : List Entry). Contains xs e) c.as_slice-in-loop.ensures.value h in
    c.in_ok-kept.ensures e (subst (λ (xs : List Entry). Contains xs e) c.as_slice.ensures.value (c.in_ok-rows.ensures e i))
