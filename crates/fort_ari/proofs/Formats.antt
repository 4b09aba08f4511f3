-- The format by the elements of its list.
use Rattle.std.proofs.Common.{◌≡◌, ℕ, ◌≤◌, List, [], ◌∷◌, length, slice_get, Option, None, Some, IfNone, ◌⊎◌, inl, inr, refl, ap, ◌∙◌, subst, arith}
use Rattle.std.specs.Prelude.{codes, decimal}
use Rattle.fort_theory.specs.Signatures.{most_indices}
use Rattle.fort_grammar.specs.Forms.{Form}
use Rattle.fort_grammar.specs.Declarations.{elements_of, word_of, AreWords, IsListOfWords, IsFormat, OneSystem, Several}
use Rattle.fort_ari.specs.Parts.{BeginsWithFormat}
use Rattle.fort_ari.specs.Numbers.{BeginsAsFormat, IsNumberNamed}

pub format_two : (bytes : List ℕ) (f : Form) (es : List Form) → elements_of f ≡ Some es → BeginsAsFormat bytes es → length es ≡ 2 → IsFormat bytes f 1
format_two bytes f [] e h l = absurd h
format_two bytes f (a ∷ []) e h l = absurd h
format_two bytes f (a ∷ b ∷ []) e h l = OneSystem (record { elements = a ∷ b ∷ []; is = e; words_are = (h.0, (h.1, tt)) })
format_two bytes f (a ∷ b ∷ c ∷ es) e h l = absurd (omega arith)

pub format_four : (bytes : List ℕ) (f key value : Form) (es : List Form) (n : ℕ) → elements_of f ≡ Some es → BeginsAsFormat bytes es → length es ≡ 4
    → slice_get es 2 ≡ Some key → slice_get es 3 ≡ Some value → IsNumberNamed bytes key value (codes ":number") n → IsFormat bytes f n
format_four bytes f key value [] n e h l k v is = absurd h
format_four bytes f key value (a ∷ []) n e h l k v is = absurd h
format_four bytes f key value (a ∷ b ∷ []) n e h l k v is = absurd (omega arith)
format_four bytes f key value (a ∷ b ∷ c ∷ []) n e h l k v is = absurd (omega arith)
format_four bytes f key value (a ∷ b ∷ c ∷ d ∷ []) n e h l k v is =
    let third : c ≡ key = cc in
    let fourth : d ≡ value = cc in
    Several is.low is.high (record {
      elements = a ∷ b ∷ c ∷ d ∷ [];
      is = e;
      words_are = (h.0, (h.1, (ap (word_of bytes) third ∙ is.named, (ap (word_of bytes) fourth ∙ is.is, tt))));
    })
format_four bytes f key value (a ∷ b ∷ c ∷ d ∷ x ∷ es) n e h l k v is = absurd (omega arith)

words_at : (bytes : List ℕ) (f : Form) (es : List Form) (ws : List (List ℕ)) → elements_of f ≡ Some es → IsListOfWords bytes f ws → AreWords bytes es ws
words_at bytes f es ws e h =
    let is = h.is in
    let same : h.elements ≡ es = cc in subst (λ xs. AreWords bytes xs ws) same h.words_are

-- what the elements of a format are
pub record IsFormatOf (bytes : List ℕ) (es : List Form) (n : ℕ) : Type 0 where
  pub begins : BeginsAsFormat bytes es
  pub count : (length es ≡ 2) ⊎ (length es ≡ 4)
  pub number : (key value : Form) → slice_get es 2 ≡ Some key → slice_get es 3 ≡ Some value → IsNumberNamed bytes key value (codes ":number") n

of_two : (bytes : List ℕ) (es : List Form) → AreWords bytes es (codes "format" ∷ codes "TRS" ∷ []) → IsFormatOf bytes es 1
of_two bytes [] h = absurd h
of_two bytes (a ∷ []) h = absurd h.1
of_two bytes (a ∷ b ∷ []) h = record { begins = (h.0, h.1.0); count = inl refl; number = λ key value k v. absurd cc }
of_two bytes (a ∷ b ∷ c ∷ es) h = absurd h.1.1

of_four : (bytes : List ℕ) (es : List Form) (n : ℕ) → 1 ≤ n → n ≤ most_indices
    → AreWords bytes es (codes "format" ∷ codes "TRS" ∷ codes ":number" ∷ decimal n ∷ []) → IsFormatOf bytes es n
of_four bytes [] n low high h = absurd h
of_four bytes (a ∷ []) n low high h = absurd h.1
of_four bytes (a ∷ b ∷ []) n low high h = absurd h.1.1
of_four bytes (a ∷ b ∷ c ∷ []) n low high h = absurd h.1.1.1
of_four bytes (a ∷ b ∷ c ∷ d ∷ []) n low high h = record {
  begins = (h.0, h.1.0);
  count = inr refl;
  number = λ key value k v.
      let third : key ≡ c = cc in
      let fourth : value ≡ d = cc in
      record { named = ap (word_of bytes) third ∙ h.1.1.0; low = low; high = high; is = ap (word_of bytes) fourth ∙ h.1.1.1.0 };
}
of_four bytes (a ∷ b ∷ c ∷ d ∷ x ∷ es) n low high h = absurd h.1.1.1.1

pub format_of : (bytes : List ℕ) (f : Form) (es : List Form) (n : ℕ) → elements_of f ≡ Some es → IsFormat bytes f n → IsFormatOf bytes es n
format_of bytes f es n e (OneSystem h) = of_two bytes es (words_at bytes f es _ e h)
format_of bytes f es n e (Several low high h) = of_four bytes es n low high (words_at bytes f es _ e h)

-- a format tells a number from 1 to 9
pub format_low : (bytes : List ℕ) (f : Form) (n : ℕ) → IsFormat bytes f n → 1 ≤ n
format_low bytes f n (OneSystem h) = omega arith
format_low bytes f n (Several low high h) = low

pub format_high : (bytes : List ℕ) (f : Form) (n : ℕ) → IsFormat bytes f n → n ≤ most_indices
format_high bytes f n (OneSystem h) = omega arith
format_high bytes f n (Several low high h) = high

pub begins_low : (bytes : List ℕ) (forms : List Form) (n : ℕ) → BeginsWithFormat bytes forms n → 1 ≤ n
begins_low bytes [] n h = absurd h
begins_low bytes (f ∷ fs) n h = format_low bytes f n h

-- what follows from what a clause says where there is no value
pub IfNone_then : {A : Type 0} (r : Option A) {P Q : Type 0} → IfNone r P → (P → Q) → IfNone r Q
IfNone_then None h f = f h
IfNone_then (Some x) h f = h
