-- A text has one list of tokens at most, at most one first bad byte, and none where it has tokens.
use Rattle.std.proofs.Common.{◌≡◌, ℕ, true, false, List, [], ◌∷◌, ◌++◌, length, ◌⊎◌, inl, inr, refl, sym, ap, ◌∙◌, subst, arith}
use Rattle.std.proofs.lemmas.Bool.{true≢false}
use Rattle.std.proofs.lemmas.List.{append_cancel_left, append-nil}
use Rattle.fort_grammar.specs.Text.{is_blank}
use Rattle.fort_formula_grammar.specs.Tokens.{Token, token_text}
use Rattle.fort_formula_grammar.specs.TokenText.{HasPlace, counting, grounds_behind, BeginsWithToken, Reads, Nothing, Blank, Next, AreTokensOf, IsBadByte}
use Rattle.fort_formula_grammar.proofs.TokenTexts.{token_text-injective, no_token-blank, no_token-nothing}

-- two fronts of one text that are of one length are the same
front-same : (a b x y : List ℕ) → length a ≡ length b → a ++ x ≡ b ++ y → a ≡ b
front-same [] [] x y l h = refl
front-same [] (n ∷ b) x y l h = absurd (omega arith)
front-same (m ∷ a) [] x y l h = absurd (omega arith)
front-same (m ∷ a) (n ∷ b) x y l h =
    let lengths : length a ≡ length b = omega arith in
    let rests : a ++ x ≡ b ++ y = cc in
    let fronts = front-same a b x y lengths rests in
    cc

pub BeginsWithToken-unique : (n : ℕ) {text r s : List ℕ} {t u : Token} → BeginsWithToken text t r → HasPlace n t → BeginsWithToken text u s → HasPlace n u
    → (t ≡ u) × (r ≡ s)
BeginsWithToken-unique n {text} {r} {s} {t} {u} h p k q =
    let first = h.longest u s k.proper k.written in
    let second = k.longest t r h.proper h.written in
    let whole : token_text t ++ r ≡ token_text u ++ s = sym h.written ∙ k.written in
    let same = front-same (token_text t) (token_text u) r s (omega arith) whole in
    let rests = append_cancel_left (token_text u) r s (subst (λ w. w ++ r ≡ token_text u ++ s) same whole) in
    (token_text-injective n t u h.proper k.proper p q same, rests)

-- no token begins at a blank, and none at the end
pub token_at_blank : {b : ℕ} {text rest : List ℕ} {t : Token} → is_blank b ≡ true → BeginsWithToken (b ∷ text) t rest → ⊥
token_at_blank {b} {text} {rest} {t} e h = true≢false (sym e ∙ no_token-blank b text rest t h.proper h.written)

pub token_at_end : {rest : List ℕ} {t : Token} → BeginsWithToken [] t rest → ⊥
token_at_end {rest} {t} h = no_token-nothing rest t h.proper h.written

-- tokens us up to c are these ts up to b, before which n ground terms stand, and then more
pub record GoesOn (n : ℕ) (b : List ℕ) (ts : List Token) (c : List ℕ) (us : List Token) : Type 0 where
  pub more : List Token
  pub is : us ≡ ts ++ more
  pub read : Reads (grounds_behind n ts) b more c

GoesOn-next : {n : ℕ} {b c : List ℕ} {ts us : List Token} {t u : Token} → t ≡ u → GoesOn (counting n t) b ts c us → GoesOn n b (t ∷ ts) c (u ∷ us)
GoesOn-next e g = let is = g.is in record { more = g.more; is = cc; read = g.read }

-- of two readings of one text, one goes on where the other ends
pub one_goes_on : {n : ℕ} {a b c : List ℕ} {ts us : List Token} → Reads n a ts b → Reads n a us c → GoesOn n b ts c us ⊎ GoesOn n c us b ts
one_goes_on Nothing s = inl (record { more = _; is = refl; read = s })
one_goes_on (Blank e r) Nothing = inr (record { more = _; is = refl; read = Blank e r })
one_goes_on (Blank e r) (Blank f s) = one_goes_on r s
one_goes_on (Blank e r) (Next h p s) = absurd (token_at_blank e h)
one_goes_on (Next h p r) Nothing = inr (record { more = _; is = refl; read = Next h p r })
one_goes_on (Next h p r) (Blank e s) = absurd (token_at_blank e h)
one_goes_on {n} (Next {after = a1} {rest = b} {token = t} {tokens = ts} h p r) (Next {after = a2} {rest = c} {token = u} {tokens = us} k q s) =
    let same = BeginsWithToken-unique n h p k q in
    let again = subst (λ v. Reads (counting n v) a1 us c) (sym same.0) (subst (λ a. Reads (counting n u) a us c) (sym same.1) s) in
    elim (one_goes_on r again) [
      | inl g ↦ inl (GoesOn-next same.0 g)
      | inr g ↦ inr (GoesOn-next (sym same.0) (subst (λ v. GoesOn (counting n v) c us b ts) same.0 g))
    ]

-- at the end there is no token
pub Reads-end : {n : ℕ} {a c : List ℕ} {ts : List Token} → a ≡ [] → Reads n a ts c → (ts ≡ []) × (c ≡ [])
Reads-end e Nothing = (refl, e)
Reads-end e (Blank f r) = absurd cc
Reads-end {c = c} e (Next {after = after} {token = t} h p r) = absurd (token_at_end (subst (λ a. BeginsWithToken a t after) e h))

append_none : {ts us vs : List Token} → us ≡ ts ++ vs → vs ≡ [] → ts ≡ us
append_none {ts} e n = sym (append-nil ts) ∙ (ap (λ x. ts ++ x) (sym n) ∙ sym e)

pub tokens-unique : {text : List ℕ} {ts us : List Token} → AreTokensOf text ts → AreTokensOf text us → ts ≡ us
tokens-unique r s =
    elim (one_goes_on r s) [
      | inl g ↦ append_none g.is (Reads-end refl g.read).0
      | inr g ↦ sym (append_none g.is (Reads-end refl g.read).0)
    ]

-- at a byte that is no blank and with which no token begins, no reading goes on
pub Reads-stuck : {n byte : ℕ} {behind c : List ℕ} {ts : List Token} → is_blank byte ≡ false
    → ((t : Token) (rest : List ℕ) → BeginsWithToken (byte ∷ behind) t rest → ⊥) → Reads n (byte ∷ behind) ts c → c ≡ byte ∷ behind
Reads-stuck no_blank none Nothing = refl
Reads-stuck no_blank none (Blank e r) = absurd (true≢false (sym e ∙ no_blank))
Reads-stuck no_blank none (Next h p r) = absurd (none _ _ h)

IsBadByte-stuck : {n : ℕ} {text c : List ℕ} {offset : ℕ} {ts : List Token} → (bad : IsBadByte text offset) → Reads n (bad.byte ∷ bad.behind) ts c → c ≡ bad.byte ∷ bad.behind
IsBadByte-stuck bad r = Reads-stuck bad.no_blank (λ t rest h. bad.no_token t rest h.proper h.written) r

pub IsBadByte-unique : {text : List ℕ} {a b : ℕ} → IsBadByte text a → IsBadByte text b → a ≡ b
IsBadByte-unique {text} {a} {b} x y =
    let rests : x.byte ∷ x.behind ≡ y.byte ∷ y.behind =
    elim (one_goes_on x.read y.read) [ inl g ↦ sym (IsBadByte-stuck x g.read) | inr g ↦ IsBadByte-stuck y g.read ] in
    let lengths = ap length rests in
    let p = x.place in
    let q = y.place in
    omega arith

pub no_bad_byte : {text : List ℕ} {tokens : List Token} {offset : ℕ} → AreTokensOf text tokens → IsBadByte text offset → ⊥
no_bad_byte r bad =
    elim (one_goes_on bad.read r) [
      | inl g ↦ let e = IsBadByte-stuck bad g.read in cc
      | inr g ↦ let e = (Reads-end refl g.read).1 in cc
    ]
