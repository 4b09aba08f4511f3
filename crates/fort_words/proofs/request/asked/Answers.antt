use Rattle.std.proofs.Common.{◌∙◌, sym}
use Rattle.fort_words.proofs.Requests.{asked_by}
use Rattle.fort_words.proofs.request.asked.Goals as goal

pub returns-then-eq : goal.returns-then-eq
returns-then-eq c =
    c.asked_to_decide.ensures ∙ asked_by c.args.matches.now c.in_ok-name.name.now _ 0 c.in_ok-name.ensures.name c.in_ok-name.ensures.rows
    (sym c.eq.ensures ∙ c.if-eq.true)

pub returns-then-eq-2 : goal.returns-then-eq-2
returns-then-eq-2 c =
    c.asked_for_witness.ensures ∙ asked_by c.args.matches.now c.in_ok-name.name.now _ 1 c.in_ok-name.ensures.name c.in_ok-name.ensures.rows
    (sym c.eq.ensures ∙ c.if-eq.false, sym c.eq-else-eq.ensures ∙ c.if-eq-2.true)

pub returns-then-eq-3 : goal.returns-then-eq-3
returns-then-eq-3 c =
    c.asked_to_check.ensures ∙ asked_by c.args.matches.now c.in_ok-name.name.now _ 2 c.in_ok-name.ensures.name c.in_ok-name.ensures.rows
    (sym c.eq.ensures ∙ c.if-eq.false, (sym c.eq-else-eq.ensures ∙ c.if-eq-2.false, sym c.eq-else-eq-2.ensures ∙ c.if-eq-3.true))

pub returns-then-eq-4 : goal.returns-then-eq-4
returns-then-eq-4 c =
    c.asked_for_sample.ensures ∙ asked_by c.args.matches.now c.in_ok-name.name.now _ 3 c.in_ok-name.ensures.name c.in_ok-name.ensures.rows
    (sym c.eq.ensures ∙ c.if-eq.false, (sym c.eq-else-eq.ensures ∙ c.if-eq-2.false, (sym c.eq-else-eq-2.ensures ∙ c.if-eq-3.false, sym c.eq-else-eq-3.ensures ∙ c.if-eq-4.true)))

pub returns-then-eq-5 : goal.returns-then-eq-5
returns-then-eq-5 c =
    c.asked_for_solutions.ensures ∙ asked_by c.args.matches.now c.in_ok-name.name.now _ 4 c.in_ok-name.ensures.name c.in_ok-name.ensures.rows (
      sym c.eq.ensures ∙ c.if-eq.false,
      (
        sym c.eq-else-eq.ensures ∙ c.if-eq-2.false,
        (
          sym c.eq-else-eq-2.ensures ∙ c.if-eq-3.false,
          (sym c.eq-else-eq-3.ensures ∙ c.if-eq-4.false, sym c.eq-else-eq-4.ensures ∙ c.if-eq-5.true),
        ),
      ),
    )

pub returns-then-eq-6 : goal.returns-then-eq-6
returns-then-eq-6 c =
    c.asked_to_confirm.ensures ∙ asked_by c.args.matches.now c.in_ok-name.name.now _ 5 c.in_ok-name.ensures.name c.in_ok-name.ensures.rows (
      sym c.eq.ensures ∙ c.if-eq.false,
      (
        sym c.eq-else-eq.ensures ∙ c.if-eq-2.false,
        (
          sym c.eq-else-eq-2.ensures ∙ c.if-eq-3.false,
          (
            sym c.eq-else-eq-3.ensures ∙ c.if-eq-4.false,
            (sym c.eq-else-eq-4.ensures ∙ c.if-eq-5.false, sym c.eq-else-eq-5.ensures ∙ c.if-eq-6.true),
          ),
        ),
      ),
    )

pub returns-then-eq-7 : goal.returns-then-eq-7
returns-then-eq-7 c =
    c.asked_for_synth.ensures ∙ asked_by c.args.matches.now c.in_ok-name.name.now _ 6 c.in_ok-name.ensures.name c.in_ok-name.ensures.rows (
      sym c.eq.ensures ∙ c.if-eq.false,
      (
        sym c.eq-else-eq.ensures ∙ c.if-eq-2.false,
        (
          sym c.eq-else-eq-2.ensures ∙ c.if-eq-3.false,
          (
            sym c.eq-else-eq-3.ensures ∙ c.if-eq-4.false,
            (
              sym c.eq-else-eq-4.ensures ∙ c.if-eq-5.false,
              (sym c.eq-else-eq-5.ensures ∙ c.if-eq-6.false, sym c.eq-else-eq-6.ensures ∙ c.if-eq-7.true),
            ),
          ),
        ),
      ),
    )

pub returns-else-eq-7 : goal.returns-else-eq-7
returns-else-eq-7 c =
    asked_by c.args.matches.now c.in_ok-name.name.now _ 7 c.in_ok-name.ensures.name c.in_ok-name.ensures.rows (
      sym c.eq.ensures ∙ c.if-eq.false,
      (
        sym c.eq-else-eq.ensures ∙ c.if-eq-2.false,
        (
          sym c.eq-else-eq-2.ensures ∙ c.if-eq-3.false,
          (
            sym c.eq-else-eq-3.ensures ∙ c.if-eq-4.false,
            (
              sym c.eq-else-eq-4.ensures ∙ c.if-eq-5.false,
              (sym c.eq-else-eq-5.ensures ∙ c.if-eq-6.false, (sym c.eq-else-eq-6.ensures ∙ c.if-eq-7.false, tt)),
            ),
          ),
        ),
      ),
    )
