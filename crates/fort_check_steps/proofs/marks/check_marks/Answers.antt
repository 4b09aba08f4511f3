use Rattle.std.proofs.Common.{◌≡◌, List, ℕ, map, length, vec_len, sym, ap, subst, ◌∙◌, arith}
use Rattle.std.proofs.lemmas.List.{length-map, get_or-map}
use Rattle.fort_tables.specs.Counts as counts
use Rattle.fort_certificate_theory.specs.Outcomes as outcomes
use Rattle.fort_certificate_theory.specs.Outcomes.{Fails}
use Rattle.fort_certificate_theory.specs.CountSteps.{IsCountOutcome, NotAsMany}
use Rattle.fort_findings.specs.declared.count.Count.TheVariants.{Finite}
use Rattle.fort_findings.specs.FindingView.{as_count}
use Rattle.fort_check_steps.specs.StepAnswers.{outcome_of}
use Rattle.fort_check_steps.specs.Turned.{turned_table}
use Rattle.fort_check_steps.specs.Marks.{IsSeenTo, AreAllHeld, IsFirstWrong, wrong_reason}
use Rattle.fort_check_steps.proofs.MarkLaws.{IsCountOutcome-held, IsCountOutcome-wrong}
use Rattle.fort_check_steps.proofs.marks.check_marks.Goals as goal

pub returns-then-len-marks-clause-outcome : goal.returns-then-len-marks-clause-outcome
returns-then-len-marks-clause-outcome c =
    let states = c.put_pure.new.states in
    let marks = map as_count c.args.marks.now in
    let own : vec_len states ≡ length states.items = omega (arith, states.ok.0) in
    subst (λ o. IsCountOutcome (turned_table c.args.table.now) c.args.column states.items marks (outcome_of o)) (sym c.failed.ensures)
    (NotAsMany (λ e. c.if-len-marks.true (c.len.ensures ∙ (own ∙ (sym e ∙ length-map c.args.marks.now as_count)))))

pub returns-in-None-clause-outcome : goal.returns-in-None-clause-outcome
returns-in-None-clause-outcome c =
    let t = c.args.table.now in
    let states = c.put_pure.new.states in
    let marks = map as_count c.args.marks.now in
    let holds = c.see_entries.new.holds in
    let own : vec_len states ≡ length states.items = omega (arith, states.ok.0) in
    let sizes : length marks ≡ length states.items = length-map c.args.marks.now as_count ∙ (sym c.if-len-marks.false ∙ (c.len.ensures ∙ own)) in
    IsCountOutcome-held t c.see_entries.ensures.lawful c.args.column states.items marks holds sizes
    (subst (λ (xs : List ℕ). IsSeenTo t.table c.args.column xs marks (length t.table.entries) holds) c.deref.ensures.value c.see_entries.ensures.seen)
    (subst (λ (xs : List ℕ). AreAllHeld xs marks holds) c.deref-2.ensures.value c.in-None.ensures.none)

pub returns-in-Some-clause-outcome : goal.returns-in-Some-clause-outcome
returns-in-Some-clause-outcome c =
    let t = c.args.table.now in
    let states = c.put_pure.new.states in
    let ns = c.args.marks.now in
    let marks = map as_count ns in
    let holds = c.see_entries.new.holds in
    let place = c.in-Some.place in
    let own : vec_len states ≡ length states.items = omega (arith, states.ok.0) in
    let sizes : length marks ≡ length states.items = length-map ns as_count ∙ (sym c.if-len-marks.false ∙ (c.len.ensures ∙ own)) in
    let wrong = subst (λ (xs : List ℕ). IsFirstWrong xs marks holds place) c.deref-2.ensures.value c.in-Some.ensures.some in
    let reason = c.reason_of.ensures ∙ ap wrong_reason (sym (get_or-map as_count ns place (Finite 0) (counts.Finite 0) (omega (arith, wrong.within, length-map ns as_count)))) in
    subst (λ o. IsCountOutcome (turned_table t) c.args.column states.items marks (outcome_of o)) (sym c.failed-in-Some.ensures)
    (subst (λ (r : outcomes.Reason). IsCountOutcome (turned_table t) c.args.column states.items marks (Fails place r)) (sym reason)
    (IsCountOutcome-wrong t c.see_entries.ensures.lawful c.args.column states.items marks holds place sizes
    (subst (λ (xs : List ℕ). IsSeenTo t.table c.args.column xs marks (length t.table.entries) holds) c.deref.ensures.value c.see_entries.ensures.seen) wrong))
