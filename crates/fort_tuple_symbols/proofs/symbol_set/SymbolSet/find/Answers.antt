use Rattle.std.proofs.Common.{◌≡◌, ℕ, ◌<◌, List, [], map, length, get_or, ap, sym, ◌∙◌, subst}
use Rattle.fort_tuple_symbols.specs.DigitNumbers.{AreDigits, digits_at}
use Rattle.fort_tuple_symbols.specs.SymbolSetView.{Symbols}
use Rattle.fort_tuple_symbols.specs.SymbolSetInside.{digits_in, IsStorage, AreFewNumbers}
use Rattle.fort_tuple_symbols.proofs.SymbolSetLaws.{absent_not_digits, IsFoundIn, found_by_number}
use Rattle.fort_tuple_symbols.proofs.symbol_set.SymbolSet.find.Goals as goal

pub returns-then-digits-self : goal.returns-then-digits-self
returns-then-digits-self c =
    let a = c.self.inside in
    let ns = c.in-Numbered.set in
    let ds = c.args.digits.now in
    let all : c.args.self.now.digits ≡ map (digits_at a.base a.columns) ns = ap (λ (s : Symbols). s.digits) (sym c.self.view_is) ∙ ap (digits_in a.base a.columns) c.in-Numbered.is in
    let few : AreFewNumbers a.base a.columns ns = subst (IsStorage a.base a.columns) c.in-Numbered.is c.self.invariant.storage in
    subst (λ (dss : List (List ℕ)). (q : ℕ) → q < length dss → get_or dss q [] ≡ ds → ⊥) (sym all)
    (absent_not_digits a.base a.columns ns ds c.self.invariant.some few (λ d. c.if-digits-self.true d.width))

pub returns-in-Some : goal.returns-in-Some
returns-in-Some c =
    let a = c.self.inside in
    let ns = c.in-Numbered.set in
    let ds = c.args.digits.now in
    let all : c.args.self.now.digits ≡ map (digits_at a.base a.columns) ns = ap (λ (s : Symbols). s.digits) (sym c.self.view_is) ∙ ap (digits_in a.base a.columns) c.in-Numbered.is in
    let few : AreFewNumbers a.base a.columns ns = subst (IsStorage a.base a.columns) c.in-Numbered.is c.self.invariant.storage in
    let fit : AreDigits a.base a.columns ds = record { width = c.if-digits-self.false; below = c.in-Some.ensures.0 } in
    subst (λ (dss : List (List ℕ)). IsFoundIn dss ds c.find.result) (sym all)
    (found_by_number a.base a.columns ns ds c.in-Some.number c.find.result c.self.invariant.some few fit c.in-Some.ensures.1 c.find.ensures)

pub returns-in-None : goal.returns-in-None
returns-in-None c =
    let a = c.self.inside in
    let ns = c.in-Numbered.set in
    let ds = c.args.digits.now in
    let all : c.args.self.now.digits ≡ map (digits_at a.base a.columns) ns = ap (λ (s : Symbols). s.digits) (sym c.self.view_is) ∙ ap (digits_in a.base a.columns) c.in-Numbered.is in
    let few : AreFewNumbers a.base a.columns ns = subst (IsStorage a.base a.columns) c.in-Numbered.is c.self.invariant.storage in
    subst (λ (dss : List (List ℕ)). (q : ℕ) → q < length dss → get_or dss q [] ≡ ds → ⊥) (sym all)
    (absent_not_digits a.base a.columns ns ds c.self.invariant.some few (λ d. c.in-None.ensures d.below))
