use Rattle.std.proofs.Common.{rules, ℕ, codes, sym, ◌∙◌, arith}
use Rattle.fort_grammar.specs.Forms as grammar
use Rattle.fort_grammar.specs.RuleForms.{HasSides}
use Rattle.fort_ari.specs.Numbers.{IsNumberNamed}
use Rattle.fort_ari.proofs.RuleElements.{HasSides-three, HasSides-five, rule_of, number_unique}
use Rattle.fort_ari.proofs.rule.sides_of.Goals as goal
use Rattle.fort_ari.proofs.rule.sides_of.Goals.{in-3, in-5+in_ok-index-in-5}

pub returns-clause-some : goal.returns-clause-some
returns-clause-some c =
    elim c.match-len.branch [
      | in-3 w ↦
          rw w.index-is (HasSides-three _ _ _ _ _ _ c.in_ok-list.ensures.some (sym c.len.ensures ∙ w.in-3.is) c.get-2.ensures.form c.get-3.ensures.form c.requires.headed)
      | in-5+in_ok-index-in-5 w ↦
          rw w.index-is (HasSides-five _ _ _ _ _ _ _ _ _ c.in_ok-list.ensures.some (sym c.len.ensures ∙ w.in-5.is) c.get-2.ensures.form c.get-3.ensures.form
          w.get.ensures.form w.get-in-5.ensures.form c.requires.headed (rw (w.get.ensures.bytes ∙ c.in_ok-list.ensures.bytes) at w.in_ok-index-in-5.ensures.some)
          (omega (arith, c.if-index-systems.false, w.index-is)))
    ]

pub returns-then-index-systems-clause-none : goal.returns-then-index-systems-clause-none
returns-then-index-systems-clause-none c = λ left right index h.
    let of = rule_of _ _ _ left right _ index c.requires.some c.requires.few c.in_ok-list.ensures.some h in
    elim c.match-len.branch [
      | in-3 w ↦ omega (arith, c.requires.some, w.index-is, c.if-index-systems.true)
      | in-5+in_ok-index-in-5 w ↦
          let given = of.indexed _ _ w.get.ensures.form w.get-in-5.ensures.form in
          let found : IsNumberNamed c.args.form.now.bytes w.get.result.form w.get-in-5.result.form _ w.in_ok-index-in-5.index =
          rw (w.get.ensures.bytes ∙ c.in_ok-list.ensures.bytes) at w.in_ok-index-in-5.ensures.some in
          let same = number_unique _ _ _ _ _ _ given found in
          omega (arith, same, of.within, w.index-is, c.if-index-systems.true)
    ]

pub returns-in_err-index-in-5-clause-none : goal.returns-in_err-index-in-5-clause-none
returns-in_err-index-in-5-clause-none c =
    let none : (n : ℕ) → IsNumberNamed c.args.form.now.bytes c.get.result.form c.get-in-5.result.form (codes ":index") n → ⊥ =
    rw (c.get.ensures.bytes ∙ c.in_ok-list.ensures.bytes) at c.in_err-index-in-5.ensures.none in
    let others : (left right : grammar.Form) (index : ℕ) → HasSides c.args.form.now.bytes c.args.systems c.args.form.now.form left right index → ⊥ =
    (λ left right index h.
    let of = rule_of _ _ _ left right _ index c.requires.some c.requires.few c.in_ok-list.ensures.some h in
    none index (of.indexed _ _ c.get.ensures.form c.get-in-5.ensures.form)) in
    search rules
