-- One reading of tokens after another, one more token at the end, and how many ground terms were read.
use Rattle.std.proofs.Common.{◌≡◌, ℕ, ◌+◌, ◌≤◌, List, [], ◌∷◌, ◌++◌, length, refl, arith}
use Rattle.fort_formula_grammar.specs.Tokens.{Token, Ground}
use Rattle.fort_formula_grammar.specs.TokenText.{HasPlace, counting, grounds_behind, BeginsWithToken, Reads, Nothing, Blank, Next}

pub Reads-append : {n : ℕ} {a b c : List ℕ} {ts us : List Token} → Reads n a ts b → Reads (grounds_behind n ts) b us c → Reads n a (ts ++ us) c
Reads-append Nothing s = s
Reads-append (Blank h r) s = Blank h (Reads-append r s)
Reads-append (Next t p r) s = Next t p (Reads-append r s)

pub Reads-push : {n : ℕ} {a b c : List ℕ} {ts : List Token} {t : Token} → Reads n a ts b → BeginsWithToken b t c → HasPlace (grounds_behind n ts) t
    → Reads n a (ts ++ t ∷ []) c
Reads-push r h p = Reads-append r (Next h p Nothing)

pub grounds_behind-append : (n : ℕ) (ts us : List Token) → grounds_behind n (ts ++ us) ≡ grounds_behind (grounds_behind n ts) us
grounds_behind-append n [] us = refl
grounds_behind-append n (t ∷ ts) us = grounds_behind-append (counting n t) ts us

counting-from : (n : ℕ) (t : Token) → counting n t ≡ n + counting 0 t
counting-from n (Ground place text) = omega arith
counting-from n t = omega arith

pub grounds_behind-from : (n : ℕ) (ts : List Token) → grounds_behind n ts ≡ n + grounds_behind 0 ts
grounds_behind-from n [] = omega arith
grounds_behind-from n (t ∷ ts) =
    omega (arith, grounds_behind-from (counting n t) ts, grounds_behind-from (counting 0 t) ts, counting-from n t)

counting-most : (t : Token) → counting 0 t ≤ 1
counting-most (Ground place text) = omega arith
counting-most t = omega arith

pub grounds_behind-few : (ts : List Token) → grounds_behind 0 ts ≤ length ts
grounds_behind-few [] = omega arith
grounds_behind-few (t ∷ ts) = omega (arith, grounds_behind-from (counting 0 t) ts, grounds_behind-few ts, counting-most t)
