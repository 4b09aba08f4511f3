use Rattle.std.proofs.Common.{◌∙◌, Some, None, sym, arith, rules, true≢false}
use Rattle.std.proofs.lemmas.Slice.Eq.{bytes_eq-Decides}
use Rattle.fort_words.proofs.NumberTexts.{number_is, read_as_none, read_as_other}
use Rattle.fort_words.proofs.number.parse_number.Goals.{else-low-n-via-then-low-n+then-n-high+else-eq, else-low-n-via-then-low-n+else-n-high, else-low-n-via-else-low-n}
use Rattle.fort_words.proofs.number.parse_number.Goals as goal

pub returns-then-eq : goal.returns-then-eq
returns-then-eq c =
    let same = (bytes_eq-Decides c.format.result.now c.args.text.now).0 (sym c.eq.ensures ∙ c.if-eq.true) in
    number_is c.args.low c.args.high c.args.text.now (Some c.in-Ok.n) (search rules) (c.if-low-n.true, c.if-n-high.true, sym same ∙ c.format.ensures.text)

pub returns-else-low-n : goal.returns-else-low-n
returns-else-low-n c =
    number_is c.args.low c.args.high c.args.text.now None (search rules)
    (read_as_other c.args.text.now c.in-Ok.n c.args.low c.args.high c.parse.result (search rules) c.parse.ensures.value.0 (search rules) (λ low high is.
    elim c.else-low-n.branch [
      | else-low-n-via-then-low-n+then-n-high+else-eq w ↦
          let same = (bytes_eq-Decides w.format.result.now c.args.text.now).1 (w.format.ensures.text ∙ sym is) in
          true≢false (sym same ∙ (sym w.eq.ensures ∙ w.if-eq.false))
      | else-low-n-via-then-low-n+else-n-high w ↦ omega (arith, high, w.if-n-high.false)
      | else-low-n-via-else-low-n w ↦ omega (arith, low, w.if-low-n.false)
    ]))

pub returns-in-Err : goal.returns-in-Err
returns-in-Err c =
    number_is c.args.low c.args.high c.args.text.now None (search rules)
    (read_as_none c.args.text.now c.args.low c.args.high c.parse.result _ c.in-Err.is c.parse.ensures.value.0 (search rules))
