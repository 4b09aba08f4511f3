-- Which byte is what: blanks, bytes of words and parentheses, outside comments and in them.
use Rattle.std.proofs.Common.{◌≡◌, ℕ, ◌≤◌, true, false, not, ◌&&◌, ◌||◌, ◌==◌, List, get_or, nat_le, sym, ap, ◌∙◌, arith}
use Rattle.std.proofs.lemmas.Bool.{eqb-true, eq-eqb, eqb-false, ne_eqb, leb-true, and_parts, and_left, and_right, not-true, or_from, or_left, or_right, true≢false}
use Rattle.fort_theory.specs.Signatures.{is_word_byte}
use Rattle.fort_grammar.specs.Text.{in_comment, stands_at, is_blank, is_text_byte}

-- a byte of a word is printable, and none of ( ) ;
pub record IsPlain (b : ℕ) : Type 0 where
  pub printable : 33 ≤ b
  pub not_open : b ≡ 40 → ⊥
  pub not_close : b ≡ 41 → ⊥
  pub not_mark : b ≡ 59 → ⊥

pub IsPlain-from_word_byte : (b : ℕ) → is_word_byte b ≡ true → IsPlain b
IsPlain-from_word_byte b h =
    let p1 = and_parts (nat_le 33 b && nat_le b 126 && not (b == 40) && not (b == 41)) (not (b == 59)) h in
    let p2 = and_parts (nat_le 33 b && nat_le b 126 && not (b == 40)) (not (b == 41)) p1.0 in
    let p3 = and_parts (nat_le 33 b && nat_le b 126) (not (b == 40)) p2.0 in
    let p4 = and_parts (nat_le 33 b) (nat_le b 126) p3.0 in
    record {
      printable = leb-true 33 b p4.0;
      not_open = eqb-false b 40 (not-true (b == 40) p3.1);
      not_close = eqb-false b 41 (not-true (b == 41) p2.1);
      not_mark = eqb-false b 59 (not-true (b == 59) p1.1);
    }

pub is_blank-word_byte : (b : ℕ) → is_word_byte b ≡ true → is_blank b ≡ false
is_blank-word_byte b h =
    let p = IsPlain-from_word_byte b h in
    let le : 33 ≤ b = p.printable in
    or_from ((b == 32) || (b == 9) || (b == 13)) (b == 10)
    (or_from ((b == 32) || (b == 9)) (b == 13)
    (or_from (b == 32) (b == 9) (ne_eqb b 32 (λ e. absurd (omega arith))) (ne_eqb b 9 (λ e. absurd (omega arith))))
    (ne_eqb b 13 (λ e. absurd (omega arith))))
    (ne_eqb b 10 (λ e. absurd (omega arith)))

pub is_text_byte-word_byte : (b : ℕ) → is_word_byte b ≡ true → is_text_byte b ≡ true
is_text_byte-word_byte b h =
    or_left (is_blank b || is_word_byte b || (b == 40)) (b == 41)
    (or_left (is_blank b || is_word_byte b) (b == 40) (or_right (is_blank b) (is_word_byte b) h))

pub is_text_byte-blank : (b : ℕ) → is_blank b ≡ true → is_text_byte b ≡ true
is_text_byte-blank b h =
    or_left (is_blank b || is_word_byte b || (b == 40)) (b == 41)
    (or_left (is_blank b || is_word_byte b) (b == 40) (or_left (is_blank b) (is_word_byte b) h))

pub is_text_byte-open : (b : ℕ) → b ≡ 40 → is_text_byte b ≡ true
is_text_byte-open b h = ap is_text_byte h

pub is_text_byte-close : (b : ℕ) → b ≡ 41 → is_text_byte b ≡ true
is_text_byte-close b h = ap is_text_byte h

-- a byte that is none of what may stand outside comments
pub is_text_byte-none : (b : ℕ) → is_blank b ≡ false → is_word_byte b ≡ false → (b ≡ 40 → ⊥) → (b ≡ 41 → ⊥) → is_text_byte b ≡ false
is_text_byte-none b n w o c =
    or_from (is_blank b || is_word_byte b || (b == 40)) (b == 41)
    (or_from (is_blank b || is_word_byte b) (b == 40) (or_from (is_blank b) (is_word_byte b) n w) (ne_eqb b 40 o))
    (ne_eqb b 41 c)

-- a blank is no parenthesis
pub is_blank-at : (b c : ℕ) → is_blank b ≡ true → is_blank c ≡ false → b ≡ c → ⊥
is_blank-at b c h n e = true≢false (sym h ∙ (ap is_blank e ∙ n))

module _ (c : ℕ) (bytes : List ℕ) (i : ℕ) where
  pub stands_at-byte : stands_at c bytes i ≡ true → get_or bytes i 0 ≡ c
  stands_at-byte h = eqb-true _ c (and_parts (get_or bytes i 0 == c) (not (in_comment bytes i)) h).0

  pub stands_at-outside : stands_at c bytes i ≡ true → in_comment bytes i ≡ false
  stands_at-outside h = not-true _ (and_parts (get_or bytes i 0 == c) (not (in_comment bytes i)) h).1

  pub stands_at-from : get_or bytes i 0 ≡ c → in_comment bytes i ≡ false → stands_at c bytes i ≡ true
  stands_at-from e o = ap (λ t. t && not (in_comment bytes i)) (eq-eqb _ c e) ∙ ap not o

  pub stands_at-in_comment : in_comment bytes i ≡ true → stands_at c bytes i ≡ false
  stands_at-in_comment h = and_right (get_or bytes i 0 == c) (not (in_comment bytes i)) (ap not h)

  pub stands_at-other : (get_or bytes i 0 ≡ c → ⊥) → stands_at c bytes i ≡ false
  stands_at-other h = and_left (get_or bytes i 0 == c) (not (in_comment bytes i)) (ne_eqb _ c h)
