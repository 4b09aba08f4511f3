use Rattle.std.proofs.Common.{◌<◌, length, arith}
use Rattle.std.specs.Prelude.{vec_items}
use Rattle.std.proofs.lemmas.List.{length-map}
use Rattle.fort_context_closure.specs.declared.reach.Reach.{Reach}
use Rattle.fort_context_closure.specs.ReachRows.{firsts_of, is_within}
use Rattle.fort_context_closure.proofs.ReachLaws.{off}
use Rattle.fort_context_closure.proofs.ReachRowLaws.{Decides-is_within, MarksEntry-none, MarksEntry-both}
use Rattle.fort_context_closure.proofs.reach.mark_entry.Goals as goal

pub mark-requires-clause-bit : goal.mark-requires-clause-bit
mark-requires-clause-bit c =
    let wide = c.requires.rows.first_width c.args.entry.p (omega (arith, c.if-right-len.false, c.len.ensures)) in
    omega (arith, wide, c.if-left-lefts.false)

pub mark-requires-2-clause-row : goal.mark-requires-2-clause-row
mark-requires-2-clause-row c =
    omega (arith, c.requires.rows.second_count, length-map c.args.reach.now.seconds.items vec_items, c.if-left-lefts.false)

pub mark-requires-2-clause-bit : goal.mark-requires-2-clause-bit
mark-requires-2-clause-bit c =
    let wide = c.requires.rows.second_width c.args.entry.q c.if-left-lefts.false in
    omega (arith, wide, c.if-right-len.false, c.len.ensures)

pub returns-then-right-len : goal.returns-then-right-len
returns-then-right-len c =
    let reach = c.args.reach.now in
    MarksEntry-none c.args.lefts reach c.args.entry
    (off (is_within c.args.lefts reach c.args.entry) (Decides-is_within c.args.lefts reach c.args.entry)
    (λ w.
    let l : c.args.entry.p < length (firsts_of reach) = w.0 in
    omega (arith, l, c.if-right-len.true, c.len.ensures, length-map reach.firsts.items vec_items)))

pub returns-then-left-lefts : goal.returns-then-left-lefts
returns-then-left-lefts c =
    let reach = c.args.reach.now in
    MarksEntry-none c.args.lefts reach c.args.entry
    (off (is_within c.args.lefts reach c.args.entry) (Decides-is_within c.args.lefts reach c.args.entry)
    (λ w. let l : c.args.entry.q < c.args.lefts = w.1 in omega (arith, l, c.if-left-lefts.true)))

pub returns : goal.returns
returns c =
    let reach = c.args.reach.now in
    let new : Reach = record { firsts = c.mark.new.rows; seconds = c.mark-2.new.rows } in
    let here : c.args.entry.p < length (firsts_of reach) = omega (arith, c.if-right-len.false, c.len.ensures, length-map reach.firsts.items vec_items) in
    MarksEntry-both c.args.lefts reach new c.args.entry ((Decides-is_within c.args.lefts reach c.args.entry).1 (here, c.if-left-lefts.false)) c.mark.ensures c.mark-2.ensures
