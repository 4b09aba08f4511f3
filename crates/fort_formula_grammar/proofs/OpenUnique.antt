-- A text has at most one first ( that opens one too many, and none where its tokens are shallow.
use Rattle.std.proofs.Common.{◌≡◌, ℕ, ◌+◌, ◌-◌, List, [], ◌∷◌, ◌++◌, length, ◌⊎◌, inl, inr, refl, sym, ap, ◌∙◌, arith, take, append_assoc}
use Rattle.std.proofs.Math.Seq.{take-append_seam}
use Rattle.std.proofs.lemmas.Bool.{false≢true}
use Rattle.fort_formula_grammar.specs.Tokens.{Token, Open, Close}
use Rattle.fort_formula_grammar.specs.TokenText.{Reads, Nothing, Blank, Next, AreTokensOf}
use Rattle.fort_formula_grammar.specs.FormulaText.{open_behind, deepest_formula, AreShallow, OpensTooMany}
use Rattle.fort_formula_grammar.proofs.TokenTexts.{token_at_open}
use Rattle.fort_formula_grammar.proofs.TokenUnique.{one_goes_on, Reads-end}

pub open_behind-append : (n : ℕ) (ts us : List Token) → open_behind n (ts ++ us) ≡ open_behind (open_behind n ts) us
open_behind-append n [] us = refl
open_behind-append n (Open ∷ ts) us = open_behind-append (n + 1) ts us
open_behind-append n (Close ∷ ts) us = open_behind-append (n - 1) ts us
open_behind-append n (t ∷ ts) us = open_behind-append n ts us

-- tokens read at a ( begin with it
pub Reads-open : {n : ℕ} {behind c : List ℕ} {ts : List Token} → Reads n (40 ∷ behind) ts c → (c ≡ 40 ∷ behind) ⊎ ((rest : List Token) × (ts ≡ Open ∷ rest))
Reads-open Nothing = inl refl
Reads-open (Blank e r) = absurd (false≢true e)
Reads-open {behind = behind} (Next {after = after} {token = t} {tokens = ts} h p r) =
    inr (ts, ap (λ u. u ∷ ts) (token_at_open behind after t h.proper h.written))

-- shallow tokens have no ( where as many as may be are open
pub shallow_not_full : (us ts rest : List Token) → AreShallow us → us ≡ ts ++ Open ∷ rest → open_behind 0 ts ≡ deepest_formula → ⊥
shallow_not_full us ts rest shallow e full =
    let front = ts ++ Open ∷ [] in
    let whole : us ≡ front ++ rest = e ∙ sym (append_assoc ts (Open ∷ []) rest) in
    let taken : take (length front) us ≡ front = ap (take (length front)) whole ∙ take-append_seam front rest in
    let depth : open_behind 0 (take (length front) us) ≡ open_behind 0 ts + 1 = ap (open_behind 0) taken ∙ open_behind-append 0 ts (Open ∷ []) in
    let most = shallow (length front) in
    let limit : open_behind 0 ts ≡ 200 = full in
    omega arith

-- no ( opens one too many where shallow tokens are read past it
OpensTooMany-stuck : {n : ℕ} {text c : List ℕ} {offset : ℕ} {us : List Token} → (x : OpensTooMany text offset) → AreShallow us → (more : List Token) → us ≡ x.tokens ++ more
    → Reads n (40 ∷ x.behind) more c → c ≡ 40 ∷ x.behind
OpensTooMany-stuck x shallow more e r =
    elim (Reads-open r) [
      | inl same ↦ same
      | inr p ↦ absurd (shallow_not_full _ x.tokens p.0 shallow (e ∙ ap (λ ts. x.tokens ++ ts) p.1) x.full)
    ]

pub OpensTooMany-unique : {text : List ℕ} {a b : ℕ} → OpensTooMany text a → OpensTooMany text b → a ≡ b
OpensTooMany-unique {text} {a} {b} x y =
    let rests : 40 ∷ x.behind ≡ 40 ∷ y.behind =
    elim (one_goes_on x.read y.read) [
      | inl g ↦ sym (OpensTooMany-stuck x y.shallow g.more g.is g.read)
      | inr g ↦ OpensTooMany-stuck y x.shallow g.more g.is g.read
    ] in
    let lengths = ap length rests in
    let p = x.place in
    let q = y.place in
    omega arith

pub shallow_opens : {text : List ℕ} {tokens : List Token} {offset : ℕ} → AreTokensOf text tokens → AreShallow tokens → OpensTooMany text offset → ⊥
shallow_opens r shallow x =
    elim (one_goes_on x.read r) [
      | inl g ↦ let e = OpensTooMany-stuck x shallow g.more g.is g.read in cc
      | inr g ↦ let e = (Reads-end refl g.read).1 in cc
    ]
