use Rattle.std.proofs.Common.{◌∷◌, ◌-◌, length, sym, ap, ◌∙◌, subst, arith}
use Rattle.fort_sexpr.specs.FormView.{span_of}
use Rattle.fort_sexpr.specs.Found.{form_from}
use Rattle.fort_sexpr.specs.Nodes.{opens_before, StandOn, forms_on}
use Rattle.fort_sexpr.specs.Progress.{IsNextToken}
use Rattle.fort_sexpr.proofs.NodesLaws.{split_is, on_within, none_left}
use Rattle.fort_sexpr.proofs.form.FormList.split_first.Goals as goal

pub returns-then-self-eq0-clause-none : goal.returns-then-self-eq0-clause-none
returns-then-self-eq0-clause-none c =
    let list = c.self.inside in
    rw (← c.self.view_is)
    (none_left list.arena.now.bytes.items list.at list.list list.count c.self.invariant c.if-self-eq0.true)

pub next_token-from-requires-clause-within : goal.next_token-from-requires-clause-within
next_token-from-requires-clause-within c =
    let list = c.self.inside in
    omega (
      arith,
      on_within list.arena.now.bytes.items list.at list.list list.count c.self.invariant,
      ap (λ xs. length xs) c.as_slice.ensures.value,
    )

pub invariant_of-form : goal.invariant_of-form
invariant_of-form c =
    let list = c.self.inside in
    let token = subst (λ bytes. IsNextToken bytes list.at c.next_token-from.result) c.as_slice.ensures.value c.next_token-from.ensures in
    (split_is list.arena.now.bytes.items list.at list.list list.count c.next_token-from.result c.self.invariant token (omega arith)).first

pub invariant_of-rest : goal.invariant_of-rest
invariant_of-rest c =
    let list = c.self.inside in
    let bytes = list.arena.now.bytes.items in
    let token = subst (λ bytes. IsNextToken bytes list.at c.next_token-from.result) c.as_slice.ensures.value c.next_token-from.ensures in
    let split = split_is bytes list.at list.list list.count c.next_token-from.result c.self.invariant token (omega arith) in
    let number = opens_before bytes (span_of (form_from bytes c.next_token-from.result)).to in
    subst (λ n. StandOn bytes c.behind-at.result.0 n (list.count - 1)) (sym c.behind-at.ensures.number)
    (subst (λ at. StandOn bytes at number (list.count - 1)) (sym c.behind-at.ensures.end) split.rest)

pub returns-clause-some : goal.returns-clause-some
returns-clause-some c =
    let list = c.self.inside in
    let bytes = list.arena.now.bytes.items in
    let from = c.next_token-from.result in
    let token = subst (λ bytes. IsNextToken bytes list.at from) c.as_slice.ensures.value c.next_token-from.ensures in
    let split = split_is bytes list.at list.list list.count from c.self.invariant token (omega arith) in
    rw (← c.self.view_is)
    (split.forms ∙ ap (λ at. form_from bytes from ∷ forms_on bytes at) (sym c.behind-at.ensures.end))
