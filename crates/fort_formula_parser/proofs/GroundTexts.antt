-- The ground term in braces at the front of a text, from the longest run of bytes that may stand between braces.
use Rattle.std.proofs.Common.{◌≡◌, ℕ, zero, suc, ◌+◌, ◌<◌, ◌≤◌, true, List, [], ◌∷◌, ◌++◌, length, get_or, take, drop, IsTrue, refl, sym, ap, ◌∙◌, subst, inl, inr, arith}
use Rattle.std.specs.List.{AllByRecursion}
use Rattle.std.proofs.lemmas.Bool.{true≢false, cases_lt, eqb-true}
use Rattle.std.proofs.lemmas.List.{take-append-drop, length-append, length-take-le, get_or-take, drop_more}
use Rattle.std.proofs.Math.Seq.{get_or-append_seam}
use Rattle.fort_formula_grammar.specs.Tokens.{Ground, is_ground_byte, ground_limit}
use Rattle.fort_formula_grammar.specs.TokenText.{HasPlace, BeginsWithToken, BeginsWithNoToken}
use Rattle.fort_formula_grammar.specs.TokenForms.{begins_with_brace, IsRunOf, IsBraced}
use Rattle.fort_formula_grammar.proofs.TokenFronts.{BeginsWithToken-braced, BeginsWithNoToken-braced}
use Rattle.fort_formula_parser.specs.declared.token.Spotted.{Spotted}
use Rattle.fort_formula_parser.specs.TokenView.{as_token}
use Rattle.fort_formula_parser.specs.Spellings.{IsSpottedAt}

all_bytes : (bs : List ℕ) → ((k : ℕ) → k < length bs → is_ground_byte (get_or bs k 0) ≡ true) → AllByRecursion (λ b. IsTrue (is_ground_byte b)) bs
all_bytes [] h = tt
all_bytes (b ∷ bs) h = (h 0 (omega arith), all_bytes bs (λ k lt. h (suc k) (omega arith)))

byte_at : (bs : List ℕ) (k : ℕ) → AllByRecursion (λ b. IsTrue (is_ground_byte b)) bs → k < length bs → is_ground_byte (get_or bs k 0) ≡ true
byte_at [] k h lt = absurd (omega arith)
byte_at (b ∷ bs) zero h lt = h.0
byte_at (b ∷ bs) (suc k) h lt = byte_at bs k h.1 (omega arith)

get_or-front : (xs ys : List ℕ) (k : ℕ) → k < length xs → get_or (xs ++ ys) k 0 ≡ get_or xs k 0
get_or-front [] ys k lt = absurd (omega arith)
get_or-front (x ∷ xs) ys zero lt = refl
get_or-front (x ∷ xs) ys (suc k) lt = get_or-front xs ys k (omega arith)

-- the run ends at a closing brace
IsBraced-run : (inside : List ℕ) (n : ℕ) → IsRunOf is_ground_byte inside n → n < length inside → get_or inside n 0 ≡ 125 → n < ground_limit
    → IsBraced (123 ∷ inside) (take n inside) (drop (n + 1) inside)
IsBraced-run inside n run lt closes short = (
  (
    all_bytes (take n inside) (λ k below.
        let size = length-take-le n inside run.within in
        let inner : k < n = omega (arith, size, below) in
        ap is_ground_byte (get_or-take n inside k 0 inner) ∙ run.run k inner),
    omega (arith, length-take-le n inside run.within, short),
  ),
  ap (λ bs. 123 ∷ bs) (sym (take-append-drop n inside)
      ∙ ap (λ bs. take n inside ++ bs) (drop_more inside n 0 lt ∙ ap (λ b. b ∷ drop (n + 1) inside) closes)),
)

-- a ground term ends where the run does
braced_end : (inside inner rest : List ℕ) (n : ℕ) → IsRunOf is_ground_byte inside n → IsBraced (123 ∷ inside) inner rest → (n < length inside) × (get_or inside n 0 ≡ 125) × (n < ground_limit)
braced_end inside inner rest n run b =
    let is : inside ≡ inner ++ 125 ∷ rest = let e = b.1 in cc in
    let size : length inside ≡ length inner + suc (length rest) = ap length is ∙ length-append inner (125 ∷ rest) in
    let closes : get_or inside (length inner) 0 ≡ 125 = ap (λ bs. get_or bs (length inner) 0) is ∙ get_or-append_seam inner 125 rest 0 in
    let within : n ≤ length inner = elim (cases_lt (length inner) n) [
      | inl longer ↦ absurd (true≢false (sym (run.run (length inner) longer) ∙ ap is_ground_byte closes))
      | inr le ↦ le
    ] in
    let reaches : length inner ≤ n = elim (cases_lt n (length inner)) [
      | inl shorter ↦ absurd (true≢false (sym (byte_at inner n b.0.0 shorter)
          ∙ (ap is_ground_byte (sym (ap (λ bs. get_or bs n 0) is ∙ get_or-front inner (125 ∷ rest) n shorter)) ∙ run.ended (omega (arith, size, shorter)))))
      | inr le ↦ le
    ] in
    let same : n ≡ length inner = omega arith in
    (omega (arith, size, same), ap (λ k. get_or inside k 0) same ∙ closes, omega (arith, same, b.0.1))

-- where the run ends at none
BeginsWithNoToken-run : (inside : List ℕ) (n : ℕ) → IsRunOf is_ground_byte inside n → (n < length inside → get_or inside n 0 ≡ 125 → n < ground_limit → ⊥)
    → BeginsWithNoToken (123 ∷ inside)
BeginsWithNoToken-run inside n run unclosed =
    BeginsWithNoToken-braced (123 ∷ inside) refl (λ inner rest b. let e = braced_end inside inner rest n run b in unclosed e.0 e.1 e.2)

-- the same of a text and what stands behind its first byte

brace_first : (text inside : List ℕ) → begins_with_brace text ≡ true → inside ≡ drop 1 text → text ≡ 123 ∷ inside
brace_first [] inside h e = absurd (true≢false (sym h))
brace_first (b ∷ bs) inside h e = let first : b ≡ 123 = eqb-true b 123 h in cc

drop-behind : (b : ℕ) (bs : List ℕ) (n : ℕ) → drop (n + 2) (b ∷ bs) ≡ drop (n + 1) bs
drop-behind b bs n = let same : n + 2 ≡ suc (n + 1) = omega arith in ap (λ k. drop k (b ∷ bs)) same

pub IsSpottedAt-run : (place : ℕ) (text inside : List ℕ) (n : ℕ) (found : Spotted) → begins_with_brace text ≡ true → inside ≡ drop 1 text
    → IsRunOf is_ground_byte inside n → n < length inside → get_or inside n 0 ≡ 125 → n < ground_limit → as_token found.token ≡ Ground place (take n inside)
    → found.len ≡ n + 2 → IsSpottedAt place text found
IsSpottedAt-run place text inside n found brace behind run lt closes short token len =
    let whole : text ≡ 123 ∷ inside = brace_first text inside brace behind in
    let begins = BeginsWithToken-braced (123 ∷ inside) (take n inside) (drop (n + 1) inside) place (IsBraced-run inside n run lt closes short) in
    let rest : drop (n + 1) inside ≡ drop found.len text =
    sym (ap (λ bs. drop found.len bs) whole ∙ (ap (λ k. drop k (123 ∷ inside)) len ∙ drop-behind 123 inside n)) in
    record {
      spotted = record {
        some = omega (arith, len);
        within = omega (arith, len, ap length whole, lt);
        begins = subst (λ bs. BeginsWithToken bs (as_token found.token) (drop found.len text)) (sym whole)
            (subst (λ t. BeginsWithToken (123 ∷ inside) t (drop found.len text)) (sym token)
            (subst (λ r. BeginsWithToken (123 ∷ inside) (Ground place (take n inside)) r) rest begins));
      };
      numbered = subst (λ t. HasPlace place t) (sym token) refl;
    }

pub BeginsWithNoToken-behind : (text inside : List ℕ) (n : ℕ) → begins_with_brace text ≡ true → inside ≡ drop 1 text → IsRunOf is_ground_byte inside n
    → (n < length inside → get_or inside n 0 ≡ 125 → n < ground_limit → ⊥) → BeginsWithNoToken text
BeginsWithNoToken-behind text inside n brace behind run unclosed =
    subst (λ bs. BeginsWithNoToken bs) (sym (brace_first text inside brace behind)) (BeginsWithNoToken-run inside n run unclosed)
