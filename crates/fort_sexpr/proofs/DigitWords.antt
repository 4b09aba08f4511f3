-- Words of digits: read from the left as far as the word goes, and as the first of some forms.
use Rattle.std.proofs.Common.{◌≡◌, ℕ, ◌-◌, ◌*◌, ◌+◌, ◌<◌, ◌≤◌, ◌^◌, Bool, true, false, ◌==◌, Some, List, ◌∷◌, length, get_or, take, drop, refl, ap, sym, ◌∙◌, arith, subst, ⊎_elim}
use Rattle.std.proofs.lemmas.Bool.{true≢false, cases_lt, ne_eqb}
use Rattle.std.proofs.lemmas.Bool.Decides.{nat_tests}
use Rattle.std.proofs.lemmas.List.{get_or-take, length-take-le, take-take, get_or-drop}
use Rattle.std.proofs.lemmas.List.Folds.{length-prefix_len}
use Rattle.std.proofs.lemmas.List.Sums.{prefix_len-le-length, prefix_len_passes, prefix_len_stops}
use Rattle.std.proofs.lemmas.Str.{digit_value_digit}
use Rattle.std.proofs.lemmas.Int.Digits.{digits_more, digits_value_more}
use Rattle.std.proofs.lemmas.Str.Parse.{digit_at, digits_value-take-le}
use Rattle.std.specs.Int.{IsInRange}
use Rattle.std.specs.List.{prefix_len}
use Rattle.std.specs.Str.Parse.{AllDigits, digits_value}
use Rattle.fort_theory.specs.Signatures.{is_word_byte}
use Rattle.fort_grammar.specs.Forms.{Form}
use Rattle.fort_grammar.specs.Declarations.{word_of}
use Rattle.fort_sexpr.specs.FormView.{is_list, span_of, word_ahead, IsFirstWord, IsDigitWord}
use Rattle.fort_sexpr.specs.Found.{form_made, form_from}
use Rattle.fort_sexpr.specs.Nodes.{opens_before, StandOn, forms_on}
use Rattle.fort_sexpr.proofs.FoundLaws.{form_spans}
use Rattle.fort_sexpr.proofs.NodesLaws.{IsSplit, is_list-form_from, from-form_from, word-form_from, end-form_from, opens_behind_word}

-- one more digit
pub digits_next : (bs : List ℕ) (i n d : ℕ) → i < length bs → AllDigits 10 (take i bs) → digits_value 10 (take i bs) ≡ n → IsInRange 48 57 (get_or bs i 0) → d ≡ get_or bs i 0 - 48
    → AllDigits 10 (take (i + 1) bs) × (digits_value 10 (take (i + 1) bs) ≡ n * 10 + d)
digits_next bs i n d low all value range digit =
    let own = digit_value_digit (get_or bs i 0) range in
    (digits_more 10 bs i low all (omega (arith, own, range.0, range.1)), digits_value_more 10 bs i low ∙ omega (arith, value, own, digit))

-- where a byte is no digit they aren't all digits
no_digit : (bs : List ℕ) (i : ℕ) → i < length bs → (IsInRange 48 57 (get_or bs i 0) → ⊥) → AllDigits 10 bs → ⊥
no_digit bs i low other all = other (digit_at bs i all low)

-- a number that is too great with one more digit stays so
stays_great : (bs : List ℕ) (i n d : ℕ) → i < length bs → digits_value 10 (take i bs) ≡ n → AllDigits 10 bs → d ≡ get_or bs i 0 - 48 → 2 ^ 32 ≤ n * 10 + d → digits_value 10 bs < 2 ^ 32 → ⊥
stays_great bs i n d low value all digit great small =
    let own = digit_value_digit (get_or bs i 0) (digit_at bs i all low) in
    let more = digits_value_more 10 bs i low in
    let most = digits_value-take-le 10 bs (i + 1) (omega arith) in
    omega (arith, own, more, most, value, digit)

-- a digit is a byte of words
word_digit : (b : ℕ) → IsInRange 48 57 b → is_word_byte b ≡ true
word_digit b range = grind (arith, nat_tests)

-- its bytes are theirs
ahead_at : (bs : List ℕ) (i : ℕ) → i < length (word_ahead bs) → get_or (word_ahead bs) i 0 ≡ get_or bs i 0
ahead_at bs i low = get_or-take (prefix_len is_word_byte bs) bs i 0 (omega (arith, length-prefix_len is_word_byte bs))

module _ (bs : List ℕ) (i : ℕ) (low : i ≤ length bs) (digits : AllDigits 10 (take i bs)) where
  at_least : i ≤ prefix_len is_word_byte bs
  at_least =
      let size = prefix_len is_word_byte bs in
      ⊎_elim
      (λ l. let digit = subst (IsInRange 48 57) (get_or-take i bs size 0 l) (digit_at (take i bs) size digits (omega (arith, length-take-le i bs low))) in
      absurd (true≢false (sym (word_digit (get_or bs size 0) digit) ∙ prefix_len_stops is_word_byte bs 0 (omega arith))))
      (λ l. l)
      (cases_lt size i)

  -- the word ends behind these digits
  pub ahead_ended : (i < length bs → is_word_byte (get_or bs i 0) ≡ false) → take i bs ≡ word_ahead bs
  ahead_ended ended =
      let size = prefix_len is_word_byte bs in
      ⊎_elim
      (λ l. absurd (true≢false (sym (prefix_len_passes is_word_byte bs i 0 l) ∙ ended (omega (arith, prefix_len-le-length is_word_byte bs)))))
      (λ l. let same : i ≡ size = omega (arith, at_least) in ap (λ n. take n bs) same)
      (cases_lt i size)

  -- or goes on
  module _ (inside : i < length bs) (more : is_word_byte (get_or bs i 0) ≡ true) where
    goes_on : i < length (word_ahead bs)
    goes_on =
        let size = prefix_len is_word_byte bs in
        let long = length-prefix_len is_word_byte bs in
        ⊎_elim
        (λ l. omega arith)
        (λ l. let same : size ≡ i = omega (arith, at_least) in
        absurd (true≢false (sym more ∙ subst (λ n. is_word_byte (get_or bs n 0) ≡ false) same (prefix_len_stops is_word_byte bs 0 (omega arith)))))
        (cases_lt i size)

    pub no_digit_ahead : (IsInRange 48 57 (get_or bs i 0) → ⊥) → IsDigitWord (word_ahead bs) → ⊥
    no_digit_ahead other word =
        no_digit (word_ahead bs) i goes_on (λ range. other (subst (IsInRange 48 57) (ahead_at bs i goes_on) range)) word.digits

  -- with one more digit the number is too great
  pub great_ahead : (n d : ℕ) → i < length bs → digits_value 10 (take i bs) ≡ n → IsInRange 48 57 (get_or bs i 0) → d ≡ get_or bs i 0 - 48
      → 2 ^ 32 ≤ n * 10 + d → IsDigitWord (word_ahead bs) → ⊥
  great_ahead n d inside value range digit great word =
      let on = goes_on inside (word_digit (get_or bs i 0) range) in
      let size = prefix_len is_word_byte bs in
      let front : take i (word_ahead bs) ≡ take i bs = take-take i size bs at_least in
      stays_great (word_ahead bs) i n d on (ap (digits_value 10) front ∙ value) word.digits
      (subst (λ b. d ≡ b - 48) (sym (ahead_at bs i on)) digit) great word.small

module _ (bytes : List ℕ) (at list count p : ℕ) (split : IsSplit bytes p at list count) where
  word_here : (b : Bool) (word : List ℕ) → word_of bytes (form_made b bytes p) ≡ Some word → b ≡ false
  word_here true word e = absurd cc
  word_here false word e = refl

  -- the first word is the one ahead
  record IsAhead (word : List ℕ) : Type 0 where
    is_word : is_list (form_from bytes p) ≡ false
    is : word ≡ word_ahead (drop p bytes)

  first_is : (word : List ℕ) (rest : List Form) → IsFirstWord bytes (forms_on bytes at) word rest → IsAhead word
  first_is word rest h =
      let forms = sym split.forms ∙ h.forms in
      let same : form_from bytes p ≡ h.form = cc in
      let own = ap (word_of bytes) same ∙ h.is in
      let is_word = is_list-form_from bytes p ∙ word_here (get_or bytes p 0 == 40) word own in
      let both = sym own ∙ word-form_from bytes p is_word in
      record { is_word = is_word; is = cc }

  -- where it isn't of digits, or no byte is ahead, no first word is
  pub none_ahead : (word : List ℕ) (rest : List Form) → IsFirstWord bytes (forms_on bytes at) word rest
      → (IsDigitWord (word_ahead (drop p bytes)) → ⊥) → IsDigitWord word → ⊥
  none_ahead word rest h none digits = none (subst IsDigitWord (first_is word rest h).is digits)

  pub some_ahead : (word : List ℕ) (rest : List Form) → IsFirstWord bytes (forms_on bytes at) word rest
      → 0 < length (word_ahead (drop p bytes))
  some_ahead word rest h =
      let spans = form_spans bytes (form_from bytes p) split.first.form in
      omega (arith, spans.some, end-form_from bytes p (first_is word rest h).is_word, from-form_from bytes p)

  -- a digit begins a word
  module _ (text : List ℕ) (is : text ≡ word_ahead (drop p bytes)) (all : AllDigits 10 text) (some : 0 < length text) where
    digit_here : is_list (form_from bytes p) ≡ false
    digit_here =
        let digit = digit_at text 0 all some in
        let here : p + 0 ≡ p = omega arith in
        let first : get_or text 0 0 ≡ get_or bytes p 0 =
        ap (λ w. get_or w 0 0) is
        ∙ (ahead_at (drop p bytes) 0 (omega (arith, some, ap (λ w. length w) is))
        ∙ (get_or-drop p bytes 0 0 ∙ ap (λ k. get_or bytes k 0) here)) in
        is_list-form_from bytes p ∙ ne_eqb (get_or bytes p 0) 40 (omega (arith, first, digit.0))

    behind_here : (span_of (form_from bytes p)).to ≡ p + length text
    behind_here = end-form_from bytes p digit_here ∙ ap (λ w. p + length w) (sym is)

    -- what is behind it
    pub rest_is : StandOn bytes (p + length text) list (count - 1)
    rest_is =
        let number = opens_behind_word bytes p digit_here split.first.form ∙ sym split.first.number in
        subst (λ n. StandOn bytes (p + length text) n (count - 1)) number
        (subst (λ k. StandOn bytes k (opens_before bytes (span_of (form_from bytes p)).to) (count - 1)) behind_here split.rest)

    pub first_word : IsFirstWord bytes (forms_on bytes at) text (forms_on bytes (p + length text))
    first_word =
        record {
          form = form_from bytes p;
          forms = split.forms ∙ ap (λ k. form_from bytes p ∷ forms_on bytes k) behind_here;
          is = word-form_from bytes p digit_here ∙ ap Some (sym is);
        }
