use Rattle.std.proofs.Common.{◌≡◌, ℕ, ◌<◌, List, [], ◌∷◌, ◌++◌, length, get_or, sym, ◌∙◌, ap, arith, subst}
use Rattle.fort_tuple_symbols.specs.NumberPlaces.{numbers_in}
use Rattle.fort_tuple_symbols.proofs.NumberPlaceLaws.{numbers_length, numbers_few, numbers_pushed_in}
use Rattle.fort_tuple_symbols.proofs.number_set.NumberSet.push.Goals as goal

pub overflow_add-self : goal.overflow_add-self
overflow_add-self c =
    let a = c.self.inside in
    omega (arith, numbers_few (numbers_in a.count a.places.items) a.places.items c.self.invariant, c.self.invariant.small, numbers_length a.count a.places.items)

pub invariant_of-self-2 : goal.invariant_of-self-2
invariant_of-self-2 c =
    let a = c.self.inside in
    let n = c.args.number in
    let Absent : List ℕ → Type 0 = λ xs. (q : ℕ) → q < length xs → get_or xs q 0 ≡ n → ⊥ in
    let absent = subst Absent (sym c.self.view_is) c.requires.absent in
    (numbers_pushed_in a.count a.places.items c.reach.new.places.items n c.self.invariant c.in_ok-reach.ensures.ok absent).places

pub returns-clause-ok : goal.returns-clause-ok
returns-clause-ok c =
    let a = c.self.inside in
    let n = c.args.number in
    let Absent : List ℕ → Type 0 = λ xs. (q : ℕ) → q < length xs → get_or xs q 0 ≡ n → ⊥ in
    let absent = subst Absent (sym c.self.view_is) c.requires.absent in
    (numbers_pushed_in a.count a.places.items c.reach.new.places.items n c.self.invariant c.in_ok-reach.ensures.ok absent).numbers
    ∙ ap (λ xs. xs ++ n ∷ []) c.self.view_is
