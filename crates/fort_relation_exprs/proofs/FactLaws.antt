-- The facts of holes anywhere and below the root, as they are written one behind the other.
use Rattle.std.specs.Prelude.{◌≡◌, ℕ, ◌+◌, List, [], ◌∷◌, ◌++◌, map, length, Bool, ◌&&◌, refl}
use Rattle.std.proofs.Common.{ap, ◌∙◌, arith}
use Rattle.std.proofs.lemmas.List.{append_assoc, length-append, length-map}
use Rattle.fort_theory.specs.Contexts.{HoleNumber, OneHole, SomeHoles, AnyHoles, BelowTheRoot}
use Rattle.fort_alike.specs.ExpressionAlike.{PairFact, Same, Anywhere, Below, facts_anywhere, facts_for}
use Rattle.fort_alike.specs.AtomRules.{all_kids, one_kid}
use Rattle.fort_alike.specs.ExpressionRules.{fact_place, kids_test}
use Rattle.fort_label_bits.specs.RowBits.{bit_of}
use Rattle.fort_relation_exprs.specs.FactRows.{fact_told, fact_test}

plus-none : (n : ℕ) → n ≡ n + 0
plus-none n = omega arith

pub one-told : (base : ℕ) (equal : Bool) (ws : List (List ℕ))
    → (equal && one_kid (bit_of (base + 1)) (bit_of base) ws) ≡ (equal && kids_test (fact_told base (facts_anywhere OneHole)) OneHole ws)
one-told base equal ws = λ i. equal && one_kid (bit_of (base + 1)) (bit_of (plus-none base i)) ws

pub same-told : (base : ℕ) (equal : Bool) (ws : List (List ℕ))
    → (equal && all_kids (bit_of base) ws) ≡ (equal && all_kids (fact_told base (facts_anywhere OneHole) Same) ws)
same-told base equal ws = λ i. equal && all_kids (bit_of (plus-none base i)) ws

pub any-told : (base : ℕ) (equal : Bool) (ws : List (List ℕ))
    → (equal && all_kids (bit_of base) ws) ≡ (equal && kids_test (fact_told base (facts_anywhere SomeHoles)) AnyHoles ws)
any-told base equal ws = λ i. equal && all_kids (bit_of (plus-none base i)) ws

-- two facts
pub two-same : (a b c d : Bool) → a ≡ c → b ≡ d → (a ∷ b ∷ []) ≡ (c ∷ d ∷ [])
two-same a b c d e h = λ i. e i ∷ h i ∷ []

pub place-below : (number : HoleNumber) → fact_place (facts_for number BelowTheRoot) (Below number) ≡ length (facts_anywhere number)
place-below OneHole = refl
place-below SomeHoles = refl
place-below AnyHoles = refl

-- the fact below the root stands behind those anywhere
pub facts-below : (number : HoleNumber) (base : ℕ) (equal root below : Bool) (ws : List (List ℕ)) (bits : List Bool)
    → below ≡ (equal && kids_test (fact_told base (facts_anywhere number)) number ws)
    → ((bits ++ map (fact_test (fact_told base (facts_anywhere number)) equal root ws) (facts_anywhere number)) ++ below ∷ [])
    ≡ (bits ++ map (fact_test (fact_told base (facts_for number BelowTheRoot)) equal root ws) (facts_for number BelowTheRoot))
facts-below OneHole base equal root below ws bits e =
    let f = fact_test (fact_told base (facts_anywhere OneHole)) equal root ws in
    append_assoc bits (map f (facts_anywhere OneHole)) (below ∷ []) ∙ ap (λ b. bits ++ (f Same ∷ f (Anywhere OneHole) ∷ b ∷ [])) e
facts-below SomeHoles base equal root below ws bits e =
    let f = fact_test (fact_told base (facts_anywhere SomeHoles)) equal root ws in
    append_assoc bits (map f (facts_anywhere SomeHoles)) (below ∷ []) ∙ ap (λ b. bits ++ (f (Anywhere AnyHoles) ∷ f (Anywhere SomeHoles) ∷ b ∷ [])) e
facts-below AnyHoles base equal root below ws bits e =
    let f = fact_test (fact_told base (facts_anywhere AnyHoles)) equal root ws in
    append_assoc bits (map f (facts_anywhere AnyHoles)) (below ∷ []) ∙ ap (λ b. bits ++ (f (Anywhere AnyHoles) ∷ b ∷ [])) e

pub length-facts : (number : HoleNumber) (f : PairFact → Bool) (bits : List Bool) (base : ℕ) → length bits ≡ base
    → length (bits ++ map f (facts_anywhere number)) ≡ base + fact_place (facts_for number BelowTheRoot) (Below number)
length-facts number f bits base l = omega (arith, l, length-append bits (map f (facts_anywhere number)), length-map (facts_anywhere number) f, place-below number)
