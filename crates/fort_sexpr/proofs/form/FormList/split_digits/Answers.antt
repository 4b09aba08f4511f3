use Rattle.std.proofs.Common.{length, sym, ap, ◌∙◌, subst, arith}
use Rattle.std.proofs.lemmas.Bool.{eqb-true, eqb-false}
use Rattle.std.proofs.lemmas.List.{take_rest}
use Rattle.fort_sexpr.specs.Progress.{IsNextToken}
use Rattle.fort_sexpr.proofs.NodesLaws.{split_is, on_within, none_left}
use Rattle.fort_sexpr.proofs.DigitWords.{none_ahead, some_ahead, rest_is, first_word}
use Rattle.fort_sexpr.proofs.form.FormList.split_digits.Goals as goal

pub returns-then-self-eq0-clause-none : goal.returns-then-self-eq0-clause-none
returns-then-self-eq0-clause-none c word rest h =
    let list = c.self.inside in
    let none = none_left list.arena.now.bytes.items list.at list.list list.count c.self.invariant c.if-self-eq0.true in
    let forms = rw (← c.self.view_is) at h.forms in
    absurd (let n = ap (λ fs. length fs) (sym none ∙ forms) in omega arith)

pub next_token-from-requires-clause-within : goal.next_token-from-requires-clause-within
next_token-from-requires-clause-within c =
    let list = c.self.inside in
    omega (
      arith,
      on_within list.arena.now.bytes.items list.at list.list list.count c.self.invariant,
      ap (λ xs. length xs) c.as_slice.ensures.value,
    )

pub returns-in_err-digits-clause-none : goal.returns-in_err-digits-clause-none
returns-in_err-digits-clause-none c =
    let list = c.self.inside in
    let bytes = list.arena.now.bytes.items in
    let from = c.next_token-from.result in
    let token = subst (λ bytes. IsNextToken bytes list.at from) c.as_slice.ensures.value c.next_token-from.ensures in
    let split = split_is bytes list.at list.list list.count from c.self.invariant token (omega arith) in
    rw (c.from_residual.ensures, ← c.self.view_is)
    (λ word rest h. none_ahead bytes list.at list.list list.count from split word rest h
    (rw (c.deref.ensures.value, take_rest) at c.in_err-digits.ensures.none))

pub returns-then-is_empty-clause-none : goal.returns-then-is_empty-clause-none
returns-then-is_empty-clause-none c =
    let list = c.self.inside in
    let bytes = list.arena.now.bytes.items in
    let from = c.next_token-from.result in
    let token = subst (λ bytes. IsNextToken bytes list.at from) c.as_slice.ensures.value c.next_token-from.ensures in
    let split = split_is bytes list.at list.list list.count from c.self.invariant token (omega arith) in
    let text = rw (c.deref.ensures.value, take_rest) at c.in_ok-digits.ensures.text in
    rw (← c.self.view_is)
    (λ word rest h _. omega (
      arith,
      some_ahead bytes list.at list.list list.count from split word rest h,
      ap (λ xs. length xs) text,
      eqb-true _ 0 (sym c.is_empty.ensures ∙ c.if-is_empty.true),
    ))

pub invariant_of-rest : goal.invariant_of-rest
invariant_of-rest c =
    let list = c.self.inside in
    let bytes = list.arena.now.bytes.items in
    let from = c.next_token-from.result in
    let token = subst (λ bytes. IsNextToken bytes list.at from) c.as_slice.ensures.value c.next_token-from.ensures in
    let split = split_is bytes list.at list.list list.count from c.self.invariant token (omega arith) in
    let text = rw (c.deref.ensures.value, take_rest) at c.in_ok-digits.ensures.text in
    let some = eqb-false _ 0 (sym c.is_empty.ensures ∙ c.if-is_empty.false) in
    rest_is bytes list.at list.list list.count from split c.in_ok-digits.digits.text.now text c.in_ok-digits.ensures.written.word.digits (omega (arith, some))

pub returns-clause-first : goal.returns-clause-first
returns-clause-first c =
    let list = c.self.inside in
    let bytes = list.arena.now.bytes.items in
    let from = c.next_token-from.result in
    let token = subst (λ bytes. IsNextToken bytes list.at from) c.as_slice.ensures.value c.next_token-from.ensures in
    let split = split_is bytes list.at list.list list.count from c.self.invariant token (omega arith) in
    let text = rw (c.deref.ensures.value, take_rest) at c.in_ok-digits.ensures.text in
    let some = eqb-false _ 0 (sym c.is_empty.ensures ∙ c.if-is_empty.false) in
    rw (← c.self.view_is)
    (first_word bytes list.at list.list list.count from split c.in_ok-digits.digits.text.now text c.in_ok-digits.ensures.written.word.digits (omega (arith, some)))
