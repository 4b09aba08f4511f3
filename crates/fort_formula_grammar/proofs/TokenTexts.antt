-- Each token is written in its own way, and begins with a byte of its own kind.
use Rattle.std.proofs.Common.{◌≡◌, ℕ, suc, ◌<◌, ◌≤◌, ◌-◌, Bool, true, false, cond, take, drop, List, [], ◌∷◌, ◌++◌, length, get_or, map, zero, refl, sym, ap, ◌∙◌, arith}
use Rattle.std.specs.Prelude.{bytes_eq, codes, not, ◌&&◌, ◌||◌, ◌==◌}
use Rattle.std.specs.Char.{is_ascii_alphabetic}
use Rattle.std.proofs.lemmas.Bool.{or_from, eqb-true, not-true, cond-false, false≢true, false_from_ne_true, and_parts}
use Rattle.std.proofs.lemmas.Slice.Eq.{bytes_eq-Decides}
use Rattle.std.proofs.lemmas.List.{length-append}
use Rattle.std.proofs.Math.Seq.{take-append_seam}
use Rattle.fort_logic.specs.Formulas as theory
use Rattle.fort_logic.specs.Formulas.{Name, SurfaceRel, Property}
use Rattle.fort_grammar.specs.Text.{is_blank}
use Rattle.fort_formula_grammar.specs.TokenText.{HasPlace}
use Rattle.fort_formula_grammar.specs.TokenForms.{begins_with_brace}
use Rattle.fort_formula_grammar.specs.Tokens.{IsVariable, begins_with_letter, Token, Open, Close, Comma, Not, And, Or, Imp, Iff, Related, Begin, End, Index, Exists, Forall, Infinite, True, False, Nf, Join, Has, Com, Sn, Variable, Ground, IsToken, token_text, relation_text, property_text}

-- the token that a text writes, by a table of the others than variables
abbrev find_token : List (Name × Token) → Name → Token
find_token [] name = Variable name
find_token (e ∷ es) name = cond (bytes_eq e.0 name) e.1 (find_token es name)

abbrev signs : List (Name × Token)
signs = (codes "(", Open) ∷ (codes ")", Close) ∷ (codes ",", Comma) ∷ (codes "~", Not) ∷ (codes "&", And) ∷ (codes "|", Or) ∷ (codes "=>", Imp)
    ∷ (codes "<=>", Iff) ∷ (codes "=", Related theory.Eq) ∷ (codes "->", Related theory.Step) ∷ (codes "->*", Related theory.Star)
    ∷ (codes "->+", Related theory.Plus) ∷ (codes "->=", Related theory.Reflexive) ∷ (codes "->!", Related theory.Normal)
    ∷ (codes "->^", Related theory.Root) ∷ (codes "->_", Related theory.Below) ∷ (codes "-||->", Related theory.Par)
    ∷ (codes "<->", Related theory.Either) ∷ (codes "<->*", Related theory.Conv)
    ∷ (codes "<<", Begin) ∷ (codes ">>", End)
    ∷ (codes "[1]", Index 1) ∷ (codes "[2]", Index 2) ∷ (codes "[3]", Index 3) ∷ (codes "[4]", Index 4) ∷ (codes "[5]", Index 5)
    ∷ (codes "[6]", Index 6) ∷ (codes "[7]", Index 7) ∷ (codes "[8]", Index 8) ∷ (codes "[9]", Index 9) ∷ []

abbrev words : List (Name × Token)
words = (codes "exists", Exists) ∷ (codes "forall", Forall) ∷ (codes "infinite", Infinite) ∷ (codes "true", True) ∷ (codes "false", False)
    ∷ (codes "NF", Nf) ∷ (codes "JOIN", Join) ∷ (codes "CR", Has theory.Cr) ∷ (codes "WCR", Has theory.Wcr) ∷ (codes "SCR", Has theory.Scr)
    ∷ (codes "WN", Has theory.Wn) ∷ (codes "UNR", Has theory.Unr) ∷ (codes "UNC", Has theory.Unc) ∷ (codes "NFP", Has theory.Nfp)
    ∷ (codes "COM", Com) ∷ (codes "SN", Sn) ∷ []

abbrev find_sign : List (Name × Token) → Name → Token
find_sign [] name = find_token words name
find_sign (e ∷ es) name = cond (bytes_eq e.0 name) e.1 (find_sign es name)

-- what stands between braces
abbrev between : List ℕ → List ℕ
between text = take (length text - 2) (drop 1 text)

-- where so many ground terms stand before
abbrev back : ℕ → Name → Token
back n name = cond (begins_with_brace name) (Ground n (between name)) (find_sign signs name)

other_text : (a b : List ℕ) → (a ≡ b → ⊥) → bytes_eq a b ≡ false
other_text a b h = false_from_ne_true (bytes_eq a b) (λ e. h ((bytes_eq-Decides a b).0 e))

find_token-free : (es : List (Name × Token)) (name : Name) → ((k : ℕ) → k < length es → get_or (map (λ e. e.0) es) k name ≡ name → ⊥)
    → find_token es name ≡ Variable name
find_token-free [] name free = refl
find_token-free (e ∷ es) name free =
    cond-false (bytes_eq e.0 name) e.1 (find_token es name) (other_text e.0 name (λ h. free 0 (omega arith) h))
    ∙ find_token-free es name (λ k l h. free (suc k) (omega arith) h)

-- none of these begins with a letter
abbrev are_signs : List (Name × Token) → Bool
are_signs [] = true
are_signs (e ∷ es) = not (begins_with_letter e.0) && are_signs es

find_sign-letter : (es : List (Name × Token)) (name : Name) → are_signs es ≡ true → begins_with_letter name ≡ true → find_sign es name ≡ find_token words name
find_sign-letter [] name signed letter = refl
find_sign-letter (e ∷ es) name signed letter =
    let signs_are = and_parts (not (begins_with_letter e.0)) (are_signs es) signed in
    let other : e.0 ≡ name → ⊥ = λ h. false≢true (sym (ap not (ap begins_with_letter h ∙ letter)) ∙ signs_are.0) in
    cond-false (bytes_eq e.0 name) e.1 (find_sign es name) (other_text e.0 name other)
    ∙ find_sign-letter es name signs_are.1 letter

-- a byte that is no letter is not this letter
no_letter_at : (c b : ℕ) → is_ascii_alphabetic c ≡ false → is_ascii_alphabetic b ≡ true → (b == c) ≡ true → ⊥
no_letter_at c b h l e = false≢true (sym h ∙ (ap is_ascii_alphabetic (sym (eqb-true b c e)) ∙ l))

letter-no_brace : (name : Name) → begins_with_letter name ≡ true → begins_with_brace name ≡ false
letter-no_brace [] h = refl
letter-no_brace (b ∷ bs) h = false_from_ne_true (b == 123) (no_letter_at 123 b refl h)

back-variable : (n : ℕ) (name : Name) → IsVariable name → back n name ≡ Variable name
back-variable n name v =
    cond-false (begins_with_brace name) (Ground n (between name)) (find_sign signs name) (letter-no_brace name v.letter)
    ∙ (find_sign-letter signs name refl v.letter ∙ find_token-free words name (λ k l h. v.free (k, l, h)))

back-index : (n k : ℕ) → 1 ≤ k → k ≤ 9 → back n (token_text (Index k)) ≡ Index k
back-index n zero h l = absurd (omega arith)
back-index n (suc zero) h l = refl
back-index n (suc (suc zero)) h l = refl
back-index n (suc (suc (suc zero))) h l = refl
back-index n (suc (suc (suc (suc zero)))) h l = refl
back-index n (suc (suc (suc (suc (suc zero))))) h l = refl
back-index n (suc (suc (suc (suc (suc (suc zero)))))) h l = refl
back-index n (suc (suc (suc (suc (suc (suc (suc zero))))))) h l = refl
back-index n (suc (suc (suc (suc (suc (suc (suc (suc zero)))))))) h l = refl
back-index n (suc (suc (suc (suc (suc (suc (suc (suc (suc zero))))))))) h l = refl
back-index n (suc (suc (suc (suc (suc (suc (suc (suc (suc (suc k)))))))))) h l = absurd (omega arith)

back-ground : (n : ℕ) (text : List ℕ) → back n (123 ∷ text ++ 125 ∷ []) ≡ Ground n text
back-ground n text =
    let size : length (123 ∷ text ++ 125 ∷ []) - 2 ≡ length text = let l = length-append text (125 ∷ []) in omega (arith, l) in
    ap (Ground n) (ap (λ k. take k (text ++ 125 ∷ [])) size ∙ take-append_seam text (125 ∷ []))

back-token_text : (n : ℕ) (t : Token) → IsToken t → HasPlace n t → back n (token_text t) ≡ t
back-token_text n Open p q = refl
back-token_text n Close p q = refl
back-token_text n Comma p q = refl
back-token_text n Not p q = refl
back-token_text n And p q = refl
back-token_text n Or p q = refl
back-token_text n Imp p q = refl
back-token_text n Iff p q = refl
back-token_text n (Related rel) p q = relation rel
  where
    relation : (rel : SurfaceRel) → back n (relation_text rel) ≡ Related rel
    relation theory.Eq = refl
    relation theory.Step = refl
    relation theory.Star = refl
    relation theory.Plus = refl
    relation theory.Reflexive = refl
    relation theory.Normal = refl
    relation theory.Root = refl
    relation theory.Below = refl
    relation theory.Par = refl
    relation theory.Either = refl
    relation theory.Conv = refl
back-token_text n Begin p q = refl
back-token_text n End p q = refl
back-token_text n Exists p q = refl
back-token_text n Forall p q = refl
back-token_text n Infinite p q = refl
back-token_text n True p q = refl
back-token_text n False p q = refl
back-token_text n Nf p q = refl
back-token_text n Join p q = refl
back-token_text n (Has property) p q = has property
  where
    has : (property : Property) → back n (property_text property) ≡ Has property
    has theory.Cr = refl
    has theory.Wcr = refl
    has theory.Scr = refl
    has theory.Wn = refl
    has theory.Unr = refl
    has theory.Unc = refl
    has theory.Nfp = refl
back-token_text n Com p q = refl
back-token_text n Sn p q = refl
back-token_text n (Index k) p q = back-index n k p.0 p.1
back-token_text n (Variable name) p q = back-variable n name p
back-token_text n (Ground place text) p q = back-ground n text ∙ ap (λ k. Ground k text) (sym q)

-- two tokens are not written alike; ground terms where as many stand before both
pub token_text-injective : (n : ℕ) (t u : Token) → IsToken t → IsToken u → HasPlace n t → HasPlace n u → token_text t ≡ token_text u → t ≡ u
token_text-injective n t u p q x y h = sym (back-token_text n t p x) ∙ (ap (back n) h ∙ back-token_text n u q y)

letter-no_blank : (b : ℕ) → is_ascii_alphabetic b ≡ true → is_blank b ≡ false
letter-no_blank b l =
    or_from ((b == 32) || (b == 9) || (b == 13)) (b == 10)
    (or_from ((b == 32) || (b == 9)) (b == 13)
    (or_from (b == 32) (b == 9) (false_from_ne_true (b == 32) (no_letter_at 32 b refl l)) (false_from_ne_true (b == 9) (no_letter_at 9 b refl l)))
    (false_from_ne_true (b == 13) (no_letter_at 13 b refl l)))
    (false_from_ne_true (b == 10) (no_letter_at 10 b refl l))

-- a text begins with a byte that is no blank
abbrev begins_plainly : List ℕ → Bool
begins_plainly [] = false
begins_plainly (b ∷ bs) = not (is_blank b)

letter-plainly : (name : Name) → begins_with_letter name ≡ true → begins_plainly name ≡ true
letter-plainly [] h = h
letter-plainly (b ∷ bs) h = ap not (letter-no_blank b h)

token_text-plainly : (t : Token) → IsToken t → begins_plainly (token_text t) ≡ true
token_text-plainly (Related theory.Eq) p = refl
token_text-plainly (Related theory.Step) p = refl
token_text-plainly (Related theory.Star) p = refl
token_text-plainly (Related theory.Plus) p = refl
token_text-plainly (Related theory.Reflexive) p = refl
token_text-plainly (Related theory.Normal) p = refl
token_text-plainly (Related theory.Root) p = refl
token_text-plainly (Related theory.Below) p = refl
token_text-plainly (Related theory.Par) p = refl
token_text-plainly (Related theory.Either) p = refl
token_text-plainly (Related theory.Conv) p = refl
token_text-plainly (Has theory.Cr) p = refl
token_text-plainly (Has theory.Wcr) p = refl
token_text-plainly (Has theory.Scr) p = refl
token_text-plainly (Has theory.Wn) p = refl
token_text-plainly (Has theory.Unr) p = refl
token_text-plainly (Has theory.Unc) p = refl
token_text-plainly (Has theory.Nfp) p = refl
token_text-plainly (Variable name) p = letter-plainly name p.letter
token_text-plainly t p = refl

-- more text behind it changes nothing
plainly-append : (bs rest : List ℕ) → begins_plainly bs ≡ true → begins_plainly (bs ++ rest) ≡ true
plainly-append [] rest h = absurd (false≢true h)
plainly-append (b ∷ bs) rest h = h

-- no text begins both with a token and with a blank
pub no_token-blank : (b : ℕ) (text rest : List ℕ) (t : Token) → IsToken t → b ∷ text ≡ token_text t ++ rest → is_blank b ≡ false
no_token-blank b text rest t p h =
    not-true (is_blank b) (ap begins_plainly h ∙ plainly-append (token_text t) rest (token_text-plainly t p))

pub no_token-nothing : (rest : List ℕ) (t : Token) → IsToken t → [] ≡ token_text t ++ rest → ⊥
no_token-nothing rest t p h = false≢true (ap begins_plainly h ∙ plainly-append (token_text t) rest (token_text-plainly t p))

-- a text begins with (
abbrev opens : List ℕ → Bool
opens [] = false
opens (b ∷ bs) = b == 40

letter-no_open : (name : Name) → begins_with_letter name ≡ true → opens name ≡ false
letter-no_open [] h = refl
letter-no_open (b ∷ bs) h = false_from_ne_true (b == 40) (no_letter_at 40 b refl h)

opening : (t : Token) → IsToken t → opens (token_text t) ≡ true → t ≡ Open
opening Open p h = refl
opening (Related theory.Eq) p h = absurd (false≢true h)
opening (Related theory.Step) p h = absurd (false≢true h)
opening (Related theory.Star) p h = absurd (false≢true h)
opening (Related theory.Plus) p h = absurd (false≢true h)
opening (Related theory.Reflexive) p h = absurd (false≢true h)
opening (Related theory.Normal) p h = absurd (false≢true h)
opening (Related theory.Root) p h = absurd (false≢true h)
opening (Related theory.Below) p h = absurd (false≢true h)
opening (Related theory.Par) p h = absurd (false≢true h)
opening (Related theory.Either) p h = absurd (false≢true h)
opening (Related theory.Conv) p h = absurd (false≢true h)
opening (Has theory.Cr) p h = absurd (false≢true h)
opening (Has theory.Wcr) p h = absurd (false≢true h)
opening (Has theory.Scr) p h = absurd (false≢true h)
opening (Has theory.Wn) p h = absurd (false≢true h)
opening (Has theory.Unr) p h = absurd (false≢true h)
opening (Has theory.Unc) p h = absurd (false≢true h)
opening (Has theory.Nfp) p h = absurd (false≢true h)
opening (Variable name) p h = absurd (false≢true (sym (letter-no_open name p.letter) ∙ h))
opening t p h = absurd (false≢true h)

opens-append : (bs rest : List ℕ) → begins_plainly bs ≡ true → opens (bs ++ rest) ≡ opens bs
opens-append [] rest h = absurd (false≢true h)
opens-append (b ∷ bs) rest h = refl

-- the token at ( is (
pub token_at_open : (text rest : List ℕ) (t : Token) → IsToken t → 40 ∷ text ≡ token_text t ++ rest → t ≡ Open
token_at_open text rest t p h =
    opening t p (sym (opens-append (token_text t) rest (token_text-plainly t p)) ∙ ap opens (sym h))
