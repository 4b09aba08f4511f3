-- Which texts the tokens have: symbols, words, which begin with a letter and have bytes of names alone, and ground terms in
-- braces; and which token begins a text.
use Rattle.std.proofs.Common.{◌≡◌, ℕ, zero, suc, ◌<◌, ◌≤◌, true, false, ◌||◌, ◌==◌, List, [], ◌∷◌, ◌++◌, length, get_or, take, drop, IsTrue, Contains, refl, sym, ap, ◌∙◌, inl, inr, arith, lit<, lit≤, append_assoc}
use Rattle.std.specs.List.{AllByRecursion}
use Rattle.std.specs.Char.{is_ascii_alphabetic, is_ascii_alphanumeric}
use Rattle.std.specs.Int.{is_in_range}
use Rattle.std.proofs.lemmas.Bool.{true≢false, cases_lt, or_parts, or_from, false_from_ne_true, eqb-true}
use Rattle.std.proofs.lemmas.List.{take-append-drop, length-take-le, get_or_default, get_or-take}
use Rattle.std.proofs.lemmas.List.Prefix.{front_fits, front_reads}
use Rattle.fort_logic.specs.Formulas as theory
use Rattle.fort_logic.specs.Formulas.{SurfaceRel, Property}
use Rattle.fort_formula_grammar.specs.Tokens.{IsVariable, begins_with_letter, is_name_byte, is_ground_byte, reserved, Token, Open, Close, Comma, Not, And, Or, Imp, Iff, Related, Begin, End, Index, Exists, Forall, Infinite, True, False, Nf, Join, Has, Com, Sn, Variable, Ground, relation_text, property_text, token_text, IsToken}
use Rattle.fort_formula_grammar.specs.TokenText.{BeginsWithToken, BeginsWithNoToken}
use Rattle.fort_formula_grammar.specs.TokenForms.{symbol_texts, begins_with_brace, NoneBegins, IsRun, IsBraced}

-- how the text of a token is written
pub data IsWritten (text : List ℕ) : Type 0 where
  Symbol : Contains symbol_texts text → IsWritten text
  Word : IsTrue (begins_with_letter text) → AllByRecursion (λ b. IsTrue (is_name_byte b)) text → IsWritten text
  Braced : (inner : List ℕ) → IsBraced text inner [] → IsWritten text

relation_written : (rel : SurfaceRel) → IsWritten (relation_text rel)
relation_written theory.Eq = Symbol (23, lit< tt, refl)
relation_written theory.Step = Symbol (20, lit< tt, refl)
relation_written theory.Star = Symbol (4, lit< tt, refl)
relation_written theory.Plus = Symbol (5, lit< tt, refl)
relation_written theory.Reflexive = Symbol (6, lit< tt, refl)
relation_written theory.Normal = Symbol (7, lit< tt, refl)
relation_written theory.Root = Symbol (8, lit< tt, refl)
relation_written theory.Below = Symbol (9, lit< tt, refl)
relation_written theory.Par = Symbol (0, lit< tt, refl)
relation_written theory.Either = Symbol (3, lit< tt, refl)
relation_written theory.Conv = Symbol (1, lit< tt, refl)

property_written : (p : Property) → IsWritten (property_text p)
property_written theory.Cr = Word refl (refl, (refl, tt))
property_written theory.Wcr = Word refl (refl, (refl, (refl, tt)))
property_written theory.Scr = Word refl (refl, (refl, (refl, tt)))
property_written theory.Wn = Word refl (refl, (refl, tt))
property_written theory.Unr = Word refl (refl, (refl, (refl, tt)))
property_written theory.Unc = Word refl (refl, (refl, (refl, tt)))
property_written theory.Nfp = Word refl (refl, (refl, (refl, tt)))

index_written : (n : ℕ) → 1 ≤ n → n ≤ 9 → IsWritten (token_text (Index n))
index_written zero h l = absurd (omega arith)
index_written (suc zero) h l = Symbol (10, lit< tt, refl)
index_written (suc (suc zero)) h l = Symbol (11, lit< tt, refl)
index_written (suc (suc (suc zero))) h l = Symbol (12, lit< tt, refl)
index_written (suc (suc (suc (suc zero)))) h l = Symbol (13, lit< tt, refl)
index_written (suc (suc (suc (suc (suc zero))))) h l = Symbol (14, lit< tt, refl)
index_written (suc (suc (suc (suc (suc (suc zero)))))) h l = Symbol (15, lit< tt, refl)
index_written (suc (suc (suc (suc (suc (suc (suc zero))))))) h l = Symbol (16, lit< tt, refl)
index_written (suc (suc (suc (suc (suc (suc (suc (suc zero)))))))) h l = Symbol (17, lit< tt, refl)
index_written (suc (suc (suc (suc (suc (suc (suc (suc (suc zero))))))))) h l = Symbol (18, lit< tt, refl)
index_written (suc (suc (suc (suc (suc (suc (suc (suc (suc (suc n)))))))))) h l = absurd (omega arith)

pub token_written : (t : Token) → IsToken t → IsWritten (token_text t)
token_written Open h = Symbol (24, lit< tt, refl)
token_written Close h = Symbol (25, lit< tt, refl)
token_written Comma h = Symbol (26, lit< tt, refl)
token_written Not h = Symbol (27, lit< tt, refl)
token_written And h = Symbol (28, lit< tt, refl)
token_written Or h = Symbol (29, lit< tt, refl)
token_written Imp h = Symbol (19, lit< tt, refl)
token_written Iff h = Symbol (2, lit< tt, refl)
token_written (Related rel) h = relation_written rel
token_written Begin h = Symbol (21, lit< tt, refl)
token_written End h = Symbol (22, lit< tt, refl)
token_written (Index n) h = index_written n h.0 h.1
token_written Exists h = Word refl (refl, (refl, (refl, (refl, (refl, (refl, tt))))))
token_written Forall h = Word refl (refl, (refl, (refl, (refl, (refl, (refl, tt))))))
token_written Infinite h = Word refl (refl, (refl, (refl, (refl, (refl, (refl, (refl, (refl, tt))))))))
token_written True h = Word refl (refl, (refl, (refl, (refl, tt))))
token_written False h = Word refl (refl, (refl, (refl, (refl, (refl, tt)))))
token_written Nf h = Word refl (refl, (refl, tt))
token_written Join h = Word refl (refl, (refl, (refl, (refl, tt))))
token_written (Has p) h = property_written p
token_written Com h = Word refl (refl, (refl, (refl, tt)))
token_written Sn h = Word refl (refl, (refl, tt))
token_written (Variable name) h = Word h.letter h.word
token_written (Ground place text) h = Braced text (h, refl)

-- each text is no longer than the one before
abbrev Fall : ℕ → List (List ℕ) → Type 0
Fall n [] = Unit {0}
Fall n (w ∷ ws) = (length w ≤ n) × Fall (length w) ws

falls_below : (n : ℕ) (ws : List (List ℕ)) (j : ℕ) → Fall n ws → j < length ws → length (get_or ws j []) ≤ n
falls_below n [] j h lt = absurd (omega arith)
falls_below n (w ∷ ws) zero h lt = h.0
falls_below n (w ∷ ws) (suc j) h lt = let rest = falls_below (length w) ws j h.1 (omega arith) in let first : length w ≤ n = h.0 in omega (arith, rest, first)

falls_between : (n : ℕ) (ws : List (List ℕ)) (i j : ℕ) → Fall n ws → i ≤ j → j < length ws → length (get_or ws j []) ≤ length (get_or ws i [])
falls_between n [] i j h le lt = absurd (omega arith)
falls_between n (w ∷ ws) zero zero h le lt = omega arith
falls_between n (w ∷ ws) zero (suc j) h le lt = falls_below (length w) ws j h.1 (omega arith)
falls_between n (w ∷ ws) (suc i) zero h le lt = absurd (omega arith)
falls_between n (w ∷ ws) (suc i) (suc j) h le lt = falls_between (length w) ws i j h.1 (omega arith) (omega arith)

symbols_fall : Fall 5 symbol_texts
symbols_fall = (lit≤ tt, (lit≤ tt, (lit≤ tt, (lit≤ tt, (lit≤ tt, (lit≤ tt, (lit≤ tt, (lit≤ tt, (lit≤ tt, (lit≤ tt, (lit≤ tt, (lit≤ tt, (lit≤ tt, (lit≤ tt, (lit≤ tt, (lit≤ tt, (lit≤ tt, (lit≤ tt, (lit≤ tt, (lit≤ tt, (lit≤ tt, (lit≤ tt, (lit≤ tt, (lit≤ tt, (lit≤ tt, (lit≤ tt, (lit≤ tt, (lit≤ tt, (lit≤ tt, (lit≤ tt, tt))))))))))))))))))))))))))))))

-- no symbol begins with a letter
abbrev BeginWithNoLetter : List (List ℕ) → Type 0
BeginWithNoLetter [] = Unit {0}
BeginWithNoLetter (w ∷ ws) = ((rest : List ℕ) → begins_with_letter (w ++ rest) ≡ false) × BeginWithNoLetter ws

no_letter_at : (ws : List (List ℕ)) (k : ℕ) (rest : List ℕ) → BeginWithNoLetter ws → k < length ws → begins_with_letter (get_or ws k [] ++ rest) ≡ false
no_letter_at [] k rest h lt = absurd (omega arith)
no_letter_at (w ∷ ws) zero rest h lt = h.0 rest
no_letter_at (w ∷ ws) (suc k) rest h lt = no_letter_at ws k rest h.1 (omega arith)

symbols_begin : BeginWithNoLetter symbol_texts
symbols_begin = (λ r. refl, (λ r. refl, (λ r. refl, (λ r. refl, (λ r. refl, (λ r. refl, (λ r. refl, (λ r. refl, (λ r. refl, (λ r. refl, (λ r. refl, (λ r. refl, (λ r. refl, (λ r. refl, (λ r. refl, (λ r. refl, (λ r. refl, (λ r. refl, (λ r. refl, (λ r. refl, (λ r. refl, (λ r. refl, (λ r. refl, (λ r. refl, (λ r. refl, (λ r. refl, (λ r. refl, (λ r. refl, (λ r. refl, (λ r. refl, tt))))))))))))))))))))))))))))))

-- no symbol begins with a brace
abbrev BeginWithNoBrace : List (List ℕ) → Type 0
BeginWithNoBrace [] = Unit {0}
BeginWithNoBrace (w ∷ ws) = ((rest : List ℕ) → begins_with_brace (w ++ rest) ≡ false) × BeginWithNoBrace ws

no_brace_at : (ws : List (List ℕ)) (k : ℕ) (rest : List ℕ) → BeginWithNoBrace ws → k < length ws → begins_with_brace (get_or ws k [] ++ rest) ≡ false
no_brace_at [] k rest h lt = absurd (omega arith)
no_brace_at (w ∷ ws) zero rest h lt = h.0 rest
no_brace_at (w ∷ ws) (suc k) rest h lt = no_brace_at ws k rest h.1 (omega arith)

symbols_unbraced : BeginWithNoBrace symbol_texts
symbols_unbraced = (λ r. refl, (λ r. refl, (λ r. refl, (λ r. refl, (λ r. refl, (λ r. refl, (λ r. refl, (λ r. refl, (λ r. refl, (λ r. refl, (λ r. refl, (λ r. refl, (λ r. refl, (λ r. refl, (λ r. refl, (λ r. refl, (λ r. refl, (λ r. refl, (λ r. refl, (λ r. refl, (λ r. refl, (λ r. refl, (λ r. refl, (λ r. refl, (λ r. refl, (λ r. refl, (λ r. refl, (λ r. refl, (λ r. refl, (λ r. refl, tt))))))))))))))))))))))))))))))

no_brace_letter : (word rest : List ℕ) → begins_with_letter word ≡ true → begins_with_brace (word ++ rest) ≡ false
no_brace_letter [] rest h = absurd (true≢false (sym h))
no_brace_letter (b ∷ bs) rest h = false_from_ne_true (b == 123) (λ e. true≢false (sym h ∙ (ap is_ascii_alphabetic (eqb-true b 123 e))))

word_begins : (word rest : List ℕ) → begins_with_letter word ≡ true → begins_with_letter (word ++ rest) ≡ true
word_begins [] rest h = absurd (true≢false (sym h))
word_begins (b ∷ bs) rest h = h

pub name_byte_at : (word : List ℕ) (k : ℕ) → AllByRecursion (λ b. IsTrue (is_name_byte b)) word → k < length word → is_name_byte (get_or word k 0) ≡ true
name_byte_at [] k h lt = absurd (omega arith)
name_byte_at (b ∷ bs) zero h lt = h.0
name_byte_at (b ∷ bs) (suc k) h lt = name_byte_at bs k h.1 (omega arith)

word_within_run : (text word rest : List ℕ) (n : ℕ) → IsRun text n → AllByRecursion (λ b. IsTrue (is_name_byte b)) word → text ≡ word ++ rest → length word ≤ n
word_within_run text word rest n r bytes h =
    elim (cases_lt n (length word)) [
      | inl longer ↦
          let fits = front_fits text word rest h in
          let ended : is_name_byte (get_or text n 0) ≡ false = r.ended (omega (arith, fits, longer)) in
          absurd (true≢false (sym (name_byte_at word n bytes longer) ∙ ap is_name_byte (sym (front_reads 0 text word rest h n longer)) ∙ ended))
      | inr le ↦ le
    ]

symbol_at : (word : List ℕ) (among : Contains symbol_texts word) → get_or symbol_texts among.0 [] ≡ word
symbol_at word among = get_or_default symbol_texts among.0 [] word among.1 ∙ among.2

no_symbol_at_letter : (text word rest : List ℕ) → begins_with_letter text ≡ true → Contains symbol_texts word → text ≡ word ++ rest → ⊥
no_symbol_at_letter text word rest letter among h =
    let k = among.0 in
    let at = symbol_at word among in
    true≢false (sym letter ∙ ap begins_with_letter h ∙ ap (λ w. begins_with_letter (w ++ rest)) (sym at) ∙ no_letter_at symbol_texts k rest symbols_begin among.1)

no_braced_at_letter : (text word rest inner : List ℕ) → begins_with_letter text ≡ true → word ≡ 123 ∷ inner ++ 125 ∷ [] → text ≡ word ++ rest → ⊥
no_braced_at_letter text word rest inner letter b h =
    true≢false (sym letter ∙ (ap begins_with_letter h ∙ ap (λ w. begins_with_letter (w ++ rest)) b))

letter_some : (word : List ℕ) → begins_with_letter word ≡ true → 0 < length word
letter_some [] h = absurd (true≢false (sym h))
letter_some (b ∷ bs) h = omega arith

symbols_some : (k : ℕ) → k < length symbol_texts → 0 < length (get_or symbol_texts k [])
symbols_some k lt = let last : length (get_or symbol_texts 29 []) ≡ 1 = refl in
    let falls = falls_between 5 symbol_texts k 29 symbols_fall (omega arith) (lit< tt) in omega (arith, last, falls)

pub all_name_bytes : (name : List ℕ) → ((k : ℕ) → k < length name → is_name_byte (get_or name k 0) ≡ true) → AllByRecursion (λ b. IsTrue (is_name_byte b)) name
all_name_bytes [] h = tt
all_name_bytes (b ∷ bs) h = (h 0 (omega arith), all_name_bytes bs (λ k lt. h (suc k) (omega arith)))

no_letter_at_digit : (b : ℕ) → is_name_byte b ≡ false → is_ascii_alphabetic b ≡ false
no_letter_at_digit b h =
    let p = or_parts (is_ascii_alphanumeric b) (b == 95) h in
    let q = or_parts (is_in_range 48 57 b || is_in_range 65 90 b) (is_in_range 97 122 b) p.0 in
    let r = or_parts (is_in_range 48 57 b) (is_in_range 65 90 b) q.0 in
    or_from (is_in_range 65 90 b) (is_in_range 97 122 b) r.1 q.1

letter_at_run : (text : List ℕ) (n : ℕ) → IsRun text n → begins_with_letter text ≡ true → IsTrue (begins_with_letter (take n text))
letter_at_run [] n r h = absurd (true≢false (sym h))
letter_at_run (b ∷ bs) zero r h = absurd (true≢false (sym h ∙ no_letter_at_digit b (r.ended (omega arith))))
letter_at_run (b ∷ bs) (suc n) r h = h

-- at a letter the longest run of bytes of names is the token
pub BeginsWithToken-word : (text : List ℕ) (n : ℕ) (token : Token) → IsRun text n → begins_with_letter text ≡ true → IsToken token
    → token_text token ≡ take n text → BeginsWithToken text token (drop n text)
BeginsWithToken-word text n token r letter proper is = record {
  proper = proper;
  written = sym (take-append-drop n text) ∙ ap (λ w. w ++ drop n text) (sym is);
  longest = λ other more p h. elim (token_written other p) [
    | Symbol among ↦ absurd (no_symbol_at_letter text (token_text other) more letter among h)
    | Word first bytes ↦ let le = word_within_run text (token_text other) more n r bytes h in
        let same : length (token_text token) ≡ n = ap length is ∙ length-take-le n text r.within in omega (arith, le, same)
    | Braced inner b ↦ absurd (no_braced_at_letter text (token_text other) more inner letter b.1 h)
  ];
}

symbol_longest : (text : List ℕ) (k : ℕ) (word other more : List ℕ) → k < length symbol_texts → NoneBegins text symbol_texts k
    → word ≡ get_or symbol_texts k [] → Contains symbol_texts other → text ≡ other ++ more → length other ≤ length word
symbol_longest text k word other more lt none is among h =
    let j = among.0 in
    let at = symbol_at other among in
    elim (cases_lt j k) [
      | inl earlier ↦ absurd (none j more earlier (h ∙ ap (λ w. w ++ more) (sym at)))
      | inr le ↦
          let falls = falls_between 5 symbol_texts k j symbols_fall le among.1 in
          let one : length (get_or symbol_texts j []) ≡ length other = ap length at in
          let two : length word ≡ length (get_or symbol_texts k []) = ap length is in
          omega (arith, falls, one, two)
    ]

-- no letter and no brace stands at the front
pub record BeginsWithSign (text : List ℕ) : Type 0 where
  pub no_letter : begins_with_letter text ≡ false
  pub no_brace : begins_with_brace text ≡ false

no_word_at_sign : (text word rest : List ℕ) → BeginsWithSign text → IsTrue (begins_with_letter word) → text ≡ word ++ rest → ⊥
no_word_at_sign text word rest sign first h = true≢false (sym (word_begins word rest first) ∙ (ap begins_with_letter (sym h) ∙ sign.no_letter))

no_braced_at_sign : (text word rest inner : List ℕ) → BeginsWithSign text → word ≡ 123 ∷ inner ++ 125 ∷ [] → text ≡ word ++ rest → ⊥
no_braced_at_sign text word rest inner sign b h =
    true≢false (sym (ap begins_with_brace h ∙ ap (λ w. begins_with_brace (w ++ rest)) b) ∙ sign.no_brace)

-- there the first of the symbols that begins the text is the token
pub BeginsWithToken-symbol : (text : List ℕ) (k : ℕ) (token : Token) (rest : List ℕ) → BeginsWithSign text → k < length symbol_texts
    → NoneBegins text symbol_texts k → IsToken token → token_text token ≡ get_or symbol_texts k [] → text ≡ token_text token ++ rest
    → BeginsWithToken text token rest
BeginsWithToken-symbol text k token rest sign lt none proper is h = record {
  proper = proper;
  written = h;
  longest = λ other more p g. elim (token_written other p) [
    | Symbol among ↦ symbol_longest text k (token_text token) (token_text other) more lt none is among g
    | Word first bytes ↦ absurd (no_word_at_sign text (token_text other) more sign first g)
    | Braced inner b ↦ absurd (no_braced_at_sign text (token_text other) more inner sign b.1 g)
  ];
}

-- where no symbol begins the text either, no token does
pub BeginsWithNoToken-symbol : (text : List ℕ) → BeginsWithSign text → NoneBegins text symbol_texts (length symbol_texts)
    → BeginsWithNoToken text
BeginsWithNoToken-symbol text sign none token rest proper h =
    elim (token_written token proper) [
      | Symbol among ↦ none among.0 rest among.1 (h ∙ ap (λ w. w ++ rest) (sym (symbol_at (token_text token) among)))
      | Word first bytes ↦ no_word_at_sign text (token_text token) rest sign first h
      | Braced inner b ↦ no_braced_at_sign text (token_text token) rest inner sign b.1 h
    ]

-- at a brace no other token begins the text than a ground term
ground_at_brace : (text word rest : List ℕ) → begins_with_brace text ≡ true → IsWritten word → text ≡ word ++ rest → (inner : List ℕ) × IsBraced word inner []
ground_at_brace text word rest brace (Symbol among) h = absurd (true≢false (sym (ap begins_with_brace (sym h) ∙ brace)
    ∙ (ap (λ w. begins_with_brace (w ++ rest)) (sym (symbol_at word among)) ∙ no_brace_at symbol_texts among.0 rest symbols_unbraced among.1)))
ground_at_brace text word rest brace (Word first bytes) h =
    absurd (true≢false (sym (ap begins_with_brace (sym h) ∙ brace) ∙ no_brace_letter word rest first))
ground_at_brace text word rest brace (Braced inner b) h = (inner, b)

-- two ground terms that begin one text are the same
pub inner_same : (a b x y : List ℕ) → AllByRecursion (λ c. IsTrue (is_ground_byte c)) a → AllByRecursion (λ c. IsTrue (is_ground_byte c)) b
    → a ++ 125 ∷ x ≡ b ++ 125 ∷ y → a ≡ b
inner_same [] [] x y p q h = refl
inner_same [] (c ∷ b) x y p q h = let e : 125 ≡ c = cc in absurd (true≢false (sym q.0 ∙ ap is_ground_byte (sym e)))
inner_same (c ∷ a) [] x y p q h = let e : c ≡ 125 = cc in absurd (true≢false (sym p.0 ∙ ap is_ground_byte e))
inner_same (c ∷ a) (d ∷ b) x y p q h =
    let heads : c ≡ d = cc in
    let rests : a ++ 125 ∷ x ≡ b ++ 125 ∷ y = cc in
    let tails = inner_same a b x y p.1 q.1 rests in
    cc

braced_behind : (inner rest : List ℕ) → (123 ∷ inner ++ 125 ∷ []) ++ rest ≡ 123 ∷ inner ++ 125 ∷ rest
braced_behind inner rest = ap (λ w. 123 ∷ w) (append_assoc inner (125 ∷ []) rest)

braced_same : (text word more inner other rest : List ℕ) → IsBraced text inner rest → IsBraced word other [] → text ≡ word ++ more → word ≡ 123 ∷ inner ++ 125 ∷ []
braced_same text word more inner other rest h b g =
    let whole : 123 ∷ other ++ 125 ∷ more ≡ 123 ∷ inner ++ 125 ∷ rest =
    sym (braced_behind other more) ∙ (ap (λ w. w ++ more) (sym b.1) ∙ (sym g ∙ h.1)) in
    let inside : other ++ 125 ∷ more ≡ inner ++ 125 ∷ rest = cc in
    b.1 ∙ ap (λ w. 123 ∷ w ++ 125 ∷ []) (inner_same other inner more rest b.0.0 h.0.0 inside)

-- the ground term at a brace is the token, whatever its place
pub BeginsWithToken-braced : (text inner rest : List ℕ) (place : ℕ) → IsBraced text inner rest → BeginsWithToken text (Ground place inner) rest
BeginsWithToken-braced text inner rest place h = record {
  proper = h.0;
  written = h.1 ∙ sym (braced_behind inner rest);
  longest = λ other more p g.
      let b = ground_at_brace text (token_text other) more (ap begins_with_brace h.1) (token_written other p) g in
      let same = ap length (braced_same text (token_text other) more inner b.0 rest h b.1 g) in
      omega (arith, same);
}

-- at a brace with no ground term behind it no token begins
pub BeginsWithNoToken-braced : (text : List ℕ) → begins_with_brace text ≡ true → ((inner rest : List ℕ) → IsBraced text inner rest → ⊥) → BeginsWithNoToken text
BeginsWithNoToken-braced text brace none token rest proper h =
    let b = ground_at_brace text (token_text token) rest brace (token_written token proper) h in
    none b.0 rest (b.1.0, h ∙ (ap (λ w. w ++ rest) b.1.1 ∙ braced_behind b.0 rest))

-- a word of a run is a variable, unless it is reserved
pub IsVariable-run : (text : List ℕ) (n : ℕ) → IsRun text n → begins_with_letter text ≡ true → (Contains reserved (take n text) → ⊥) → IsVariable (take n text)
IsVariable-run text n r letter free = record {
  letter = letter_at_run text n r letter;
  word = all_name_bytes (take n text) (λ k lt.
      let size = length-take-le n text r.within in
      let below : k < n = omega (arith, size, lt) in
      ap is_name_byte (get_or-take n text k 0 below) ∙ r.run k below);
  free = free;
}

-- every token has a byte
pub token-some : (t : Token) → IsToken t → 0 < length (token_text t)
token-some t h =
    elim (token_written t h) [
      | Symbol among ↦ let at = symbol_at (token_text t) among in
          let size : length (get_or symbol_texts among.0 []) ≡ length (token_text t) = ap length at in
          let some = symbols_some among.0 among.1 in omega (arith, size, some)
      | Word first bytes ↦ letter_some (token_text t) first
      | Braced inner b ↦ let size = ap length b.1 in omega (arith, size)
    ]
