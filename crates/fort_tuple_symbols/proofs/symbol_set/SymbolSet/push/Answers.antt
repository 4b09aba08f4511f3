use Rattle.std.proofs.Common.{◌≡◌, ℕ, ◌<◌, List, [], ◌∷◌, ◌++◌, map, length, get_or, Result, OnOk, ap, sym, ◌∙◌, arith, subst}
use Rattle.std.proofs.lemmas.Result.{on_ok_weaker}
use Rattle.std.specs.declared.alloc.AllocError.{AllocError}
use Rattle.fort_tuple_symbols.specs.declared.symbol_set.SymbolSet.TheInside.{Inside}
use Rattle.fort_tuple_symbols.specs.DigitNumbers.{AreDigits, digits_at}
use Rattle.fort_tuple_symbols.specs.SymbolSetView.{Symbols}
use Rattle.fort_tuple_symbols.specs.SymbolSetInside.{digits_in, IsStorage, AreFewNumbers, IsSymbolSet}
use Rattle.fort_tuple_symbols.proofs.SymbolSetLaws.{number_absent, number_small, few_after, numbers_pushed}
use Rattle.fort_tuple_symbols.proofs.symbol_set.SymbolSet.push.Goals as goal
use Rattle.fort_tuple_symbols.proofs.symbol_set.SymbolSet.push.Goals.{in-Numbered+in-Some, in-Hashed+in_ok-from_slice-in-Hashed}

pub push-requires-clause-small : goal.push-requires-clause-small
push-requires-clause-small c =
    let a = c.self.inside in
    let ds = c.args.digits.now in
    let fit : AreDigits a.base a.columns ds = subst (λ (s : Symbols). AreDigits s.base s.columns ds) (sym c.self.view_is) c.requires.fit in
    let few : AreFewNumbers a.base a.columns c.in-Numbered.set = subst (IsStorage a.base a.columns) c.in-Numbered.is c.self.invariant.storage in
    omega (arith, number_small a.base a.columns ds c.in-Some.number fit c.in-Some.ensures.1, few.few)

pub push-requires-clause-absent : goal.push-requires-clause-absent
push-requires-clause-absent c =
    let a = c.self.inside in
    let ds = c.args.digits.now in
    let fit : AreDigits a.base a.columns ds = subst (λ (s : Symbols). AreDigits s.base s.columns ds) (sym c.self.view_is) c.requires.fit in
    let all : c.args.self.now.digits ≡ map (digits_at a.base a.columns) c.in-Numbered.set = ap (λ (s : Symbols). s.digits) (sym c.self.view_is) ∙ ap (digits_in a.base a.columns) c.in-Numbered.is in
    number_absent a.base a.columns c.in-Numbered.set ds c.in-Some.number fit c.in-Some.ensures.1
    (subst (λ (dss : List (List ℕ)). (q : ℕ) → q < length dss → get_or dss q [] ≡ ds → ⊥) all c.requires.absent)

pub invariant_of-self-2 : goal.invariant_of-self-2
invariant_of-self-2 c =
    let a = c.self.inside in
    let ds = c.args.digits.now in
    let fit : AreDigits a.base a.columns ds = subst (λ (s : Symbols). AreDigits s.base s.columns ds) (sym c.self.view_is) c.requires.fit in
    elim c.match-self.branch [
      | in-Numbered+in-Some w ↦ (
          let few : AreFewNumbers a.base a.columns w.in-Numbered.set = subst (IsStorage a.base a.columns) w.in-Numbered.is c.self.invariant.storage in
          let more = few_after w.push.result a.base a.columns w.in-Numbered.set w.push.new.self ds w.in-Some.number w.push.ensures.ok w.push.ensures.err few fit w.in-Some.ensures.1 in
          subst IsSymbolSet (sym w.self-inside-is) (record { some = c.self.invariant.some; storage = more })
          )
      | in-Hashed+in_ok-from_slice-in-Hashed w ↦ subst IsSymbolSet (sym w.self-inside-is) (record { some = c.self.invariant.some; storage = tt })
    ]

pub returns-clause-ok : goal.returns-clause-ok
returns-clause-ok c =
    let a = c.self.inside in
    let ds = c.args.digits.now in
    let at = digits_at a.base a.columns in
    let fit : AreDigits a.base a.columns ds = subst (λ (s : Symbols). AreDigits s.base s.columns ds) (sym c.self.view_is) c.requires.fit in
    let old : digits_in a.base a.columns a.storage ≡ c.args.self.now.digits = ap (λ (s : Symbols). s.digits) c.self.view_is in
    let Grows : Inside → Type 0 = λ i. digits_in i.base i.columns i.storage ≡ c.args.self.now.digits ++ ds ∷ [] in
    elim c.match-self.branch [
      | in-Numbered+in-Some w ↦ (
          let all : map at w.in-Numbered.set ≡ c.args.self.now.digits = ap (digits_in a.base a.columns) (sym w.in-Numbered.is) ∙ old in
          let more = on_ok_weaker w.push.result (λ (e : w.push.new.self ≡ w.in-Numbered.set ++ w.in-Some.number ∷ []). subst Grows (sym w.self-inside-is)
          (ap (map at) e ∙ (numbers_pushed a.base a.columns w.in-Numbered.set ds w.in-Some.number fit w.in-Some.ensures.1 ∙ ap (λ (dss : List (List ℕ)). dss ++ ds ∷ []) all))) w.push.ensures.ok in
          subst (λ (r : Result (Unit {0}) AllocError). OnOk r (Grows c.match-self.self-inside)) (sym w.result-is) more
          )
      | in-Hashed+in_ok-from_slice-in-Hashed w ↦ (
          let all : w.in-Hashed.set ≡ c.args.self.now.digits = ap (digits_in a.base a.columns) (sym w.in-Hashed.is) ∙ old in
          let v = w.in_ok-from_slice-in-Hashed.field-0 in
          let more = on_ok_weaker w.push-in-Hashed.result (λ (e : w.push-in-Hashed.new.self ≡ w.in-Hashed.set ++ v.items ∷ []). subst Grows (sym w.self-inside-is)
          (e ∙ (ap (λ (es : List ℕ). w.in-Hashed.set ++ es ∷ []) w.in_ok-from_slice-in-Hashed.ensures.items ∙ ap (λ (dss : List (List ℕ)). dss ++ ds ∷ []) all))) w.push-in-Hashed.ensures.ok in
          subst (λ (r : Result (Unit {0}) AllocError). OnOk r (Grows c.match-self.self-inside)) (sym w.result-is) more
          )
    ]
