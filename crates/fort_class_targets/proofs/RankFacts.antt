-- Two ways to say what ranks are.
use Rattle.std.proofs.Common.{◌≡◌, ℕ, zero, suc, ◌+◌, ◌≤◌, List, length, get_or, ap, sym, ◌∙◌, arith, ⊎_elim}
use Rattle.std.proofs.lemmas.Bool.{cases_eq}
use Rattle.fort_tables.specs.StateRanks.{count_of, rank_in}
use Rattle.fort_tables.proofs.EqualTests.{if_equal, if_apart}
use Rattle.fort_entry_walk.specs.Walks.{states_with}
use Rattle.fort_target_lists.specs.Places as places
use Rattle.fort_target_lists.proofs.PlaceLaws.{rank_none, rank_more, rank_whole}
use Rattle.fort_views.specs.Ranks.{AreRanks}
use Rattle.fort_views.proofs.RankLaws.{count_more, count_same}

-- how many states before this one have a presence
rank_counted : (ps : List ℕ) (w q : ℕ) → q ≤ length ps → length (states_with ps w 0 q) ≡ rank_in w ps q
rank_counted ps w zero l = sym (rank_none w ps)
rank_counted ps w (suc q) l =
    let step : q + 1 ≡ suc q = omega arith in
    let before = rank_counted ps w q (omega (arith, l)) in
    let more = rank_more w ps q (omega (arith, l)) in
    ⊎_elim
    (λ e.
    let one = if_equal {X = ℕ} (get_or ps q 0) w 1 0 e in
    omega (arith, ap (λ k. length (states_with ps w 0 k)) step, count_more ps w q e, before, more, one))
    (λ e.
    let none = if_apart {X = ℕ} (get_or ps q 0) w 1 0 e in
    omega (arith, ap (λ k. length (states_with ps w 0 k)) step, count_same ps w q e, before, more, none))
    (cases_eq (get_or ps q 0) w)

-- Result: how many states have a presence
pub states_counted : (ps : List ℕ) (w : ℕ) → length (states_with ps w 0 (length ps)) ≡ count_of w ps
states_counted ps w = rank_counted ps w (length ps) (omega arith) ∙ rank_whole w ps

-- Result: the ranks are the same
pub ranks_same : (ps ranks : List ℕ) → AreRanks ps ranks → places.AreRanks ps ranks
ranks_same ps ranks h = record { size = h.count; rank = λ q l. h.each q l ∙ rank_counted ps (get_or ps q 0) q (omega (arith, l)) }
