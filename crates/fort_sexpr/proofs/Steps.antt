-- Reading goes on, from one offset to a later one: over what holds no parenthesis, and over a parenthesis.
use Rattle.std.proofs.Common.{◌≡◌, ℕ, zero, suc, ◌+◌, ◌-◌, ◌<◌, ◌≤◌, true, false, inl, inr, List, [], ◌∷◌, length, get_or, refl, sym, ap, ◌∙◌, subst, arith}
use Rattle.std.proofs.lemmas.Bool.{true≢false, cases_lt, cases_eq}
use Rattle.fort_theory.specs.Signatures.{is_word_byte}
use Rattle.fort_grammar.specs.Text.{in_comment, stands_at, is_blank, is_text_byte, count_before, depth, deepest, TextFault, IsFaultyAt, Bad, Extra, Deep, IsFaultlessBelow}
use Rattle.fort_grammar.specs.Forms.{Forms, NoForm, MoreForms, Word, ListForm, IsSkipped, IsWordAt, AreForms, End, Skip, AWord, AList}
use Rattle.fort_sexpr.specs.Progress.{comment_before, Level, StandUpTo, IsReadUpTo, IsWordEnd, IsLineEnd}
use Rattle.fort_sexpr.proofs.FormLists.{joined, joined-none, AreForms-joined}
use Rattle.fort_sexpr.proofs.Comments.{comment_before-line_end, comment_before-mark, comment_before-goes_on, comment_before-none}
use Rattle.fort_sexpr.proofs.Depths.{count_before-yes, count_before-no}
use Rattle.fort_grammar.proofs.Bytes.{IsPlain-from_word_byte, is_text_byte-word_byte, is_text_byte-blank, is_text_byte-open, is_text_byte-close, is_blank-at, stands_at-byte, stands_at-from, stands_at-in_comment, stands_at-other}

-- neither a parenthesis nor a fault stands at the offset
pub record IsQuiet (bytes : List ℕ) (k : ℕ) : Type 0 where
  pub no_open : stands_at 40 bytes k ≡ false
  pub no_close : stands_at 41 bytes k ≡ false
  pub fine : in_comment bytes k ≡ false → is_text_byte (get_or bytes k 0) ≡ true

pub AreForms_ordered : {bytes : List ℕ} {i j : ℕ} {fs : Forms} → AreForms bytes i j fs → i ≤ j
AreForms_ordered End = omega arith
AreForms_ordered (Skip s d) = omega (arith, AreForms_ordered d)
AreForms_ordered (AWord w d) = omega (arith, w.some, AreForms_ordered d)
AreForms_ordered (AList l o d m c e) = omega (arith, AreForms_ordered d, AreForms_ordered e)

module _ (bytes : List ℕ) where
  pub quiet_faultless : (k : ℕ) → IsQuiet bytes k → (fault : TextFault) → IsFaultyAt bytes k fault → ⊥
  quiet_faultless k q fault (Bad l o b) = true≢false (sym (q.fine o) ∙ b)
  quiet_faultless k q fault (Extra l s d) = true≢false (sym s ∙ q.no_close)
  quiet_faultless k q fault (Deep l s d) = true≢false (sym s ∙ q.no_open)

  -- a comment or a blank is quiet, and so is a byte of a word
  pub quiet_skipped : (k : ℕ) → IsSkipped bytes k → IsQuiet bytes k
  quiet_skipped k s =
      elim s.idle [
        | inl c ↦ record {
          no_open = stands_at-in_comment 40 bytes k c;
          no_close = stands_at-in_comment 41 bytes k c;
          fine = λ o. absurd (true≢false (sym c ∙ o));
        }
        | inr b ↦ record {
          no_open = stands_at-other 40 bytes k (is_blank-at _ 40 b refl);
          no_close = stands_at-other 41 bytes k (is_blank-at _ 41 b refl);
          fine = λ o. is_text_byte-blank (get_or bytes k 0) b;
        }
      ]

  pub quiet_word_byte : (k : ℕ) → is_word_byte (get_or bytes k 0) ≡ true → IsQuiet bytes k
  quiet_word_byte k h =
      let p = IsPlain-from_word_byte (get_or bytes k 0) h in
      record {
        no_open = stands_at-other 40 bytes k p.not_open;
        no_close = stands_at-other 41 bytes k p.not_close;
        fine = λ o. is_text_byte-word_byte (get_or bytes k 0) h;
      }

  -- the count of a byte stays over a stretch without it
  count_before-stretch : (c i n : ℕ) → ((k : ℕ) → i ≤ k → k < i + n → stands_at c bytes k ≡ false) → count_before c bytes (i + n) ≡ count_before c bytes i
  count_before-stretch c i zero h = let e : i + zero ≡ i = omega arith in ap (count_before c bytes) e
  count_before-stretch c i (suc n) h =
      let e : i + suc n ≡ (i + n) + 1 = omega arith in
      ap (count_before c bytes) e
      ∙ (count_before-no c bytes (i + n) (h (i + n) (omega arith) (omega arith))
      ∙ count_before-stretch c i n (λ k a b. h k a (omega arith)))

  count_before-between : (c i j : ℕ) → i ≤ j → ((k : ℕ) → i ≤ k → k < j → stands_at c bytes k ≡ false) → count_before c bytes j ≡ count_before c bytes i
  count_before-between c i j l h =
      let e : j ≡ i + (j - i) = omega arith in
      ap (count_before c bytes) e ∙ count_before-stretch c i (j - i) (λ k a b. h k a (omega arith))

  pub faultless_more : (i j : ℕ) → IsFaultlessBelow bytes i → ((k : ℕ) → i ≤ k → k < j → (fault : TextFault) → IsFaultyAt bytes k fault → ⊥) → IsFaultlessBelow bytes j
  faultless_more i j below here k fault l a =
      elim (cases_lt k i) [
        | inl lt ↦ below k fault lt a
        | inr ge ↦ here k ge l fault a
      ]

  -- the forms of the innermost list go on, while it stays open
  stand_more : (levels : List Level) (fs gs : Forms) (i j : ℕ) → StandUpTo bytes levels fs i → AreForms bytes i j gs
      → ((k : ℕ) → i < k → k ≤ j → length levels ≤ depth bytes k) → StandUpTo bytes levels (joined fs gs) j
  stand_more [] fs gs i j s d h = AreForms-joined s d
  stand_more (l ∷ ls) fs gs i j s d h = (
    s.0,
    record {
      within = s.1.within;
      opens = s.1.opens;
      level = s.1.level;
      stays = λ k a b. elim (cases_lt i k) [ inl lt ↦ (let x = h k lt b in omega arith) | inr ge ↦ s.1.stays k a ge ];
    },
    AreForms-joined s.2 d,
  )

  -- over a quiet stretch
  read_quiet : (levels : List Level) (fs gs : Forms) (i j : ℕ) → IsReadUpTo bytes levels fs i → i ≤ j → j ≤ length bytes
      → ((k : ℕ) → i ≤ k → k < j → IsQuiet bytes k) → (j < length bytes → comment_before bytes j ≡ false) → AreForms bytes i j gs
      → IsReadUpTo bytes levels (joined fs gs) j
  read_quiet levels fs gs i j r l m quiet outside d =
      let opened = λ (k : ℕ) (a : i ≤ k) (b : k ≤ j). count_before-between 40 i k a (λ x c e. (quiet x c (omega arith)).no_open) in
      let closed = λ (k : ℕ) (a : i ≤ k) (b : k ≤ j). count_before-between 41 i k a (λ x c e. (quiet x c (omega arith)).no_close) in
      record {
        within = m;
        outside = outside;
        faultless = faultless_more i j r.faultless (λ k a b. quiet_faultless k (quiet k a b));
        balanced = omega (arith, opened j l (omega arith), closed j l (omega arith), r.balanced);
        shallow = r.shallow;
        stand = stand_more levels fs gs i j r.stand d
            (λ k a b. omega (arith, opened k (omega arith) b, closed k (omega arith) b, r.balanced));
      }

  -- over a stretch of blanks and comments
  skipped_stretch : (i n : ℕ) → ((k : ℕ) → i ≤ k → k < i + n → IsSkipped bytes k) → AreForms bytes i (i + n) NoForm
  skipped_stretch i zero h = subst (λ j. AreForms bytes i j NoForm) (let e : i ≡ i + zero = omega arith in e) End
  skipped_stretch i (suc n) h =
      Skip (h i (omega arith) (omega arith))
      (subst (λ j. AreForms bytes (suc i) j NoForm) (let e : suc i + n ≡ i + suc n = omega arith in e)
      (skipped_stretch (suc i) n (λ k a b. h k (omega arith) (omega arith))))

  read_skipped : (levels : List Level) (fs : Forms) (i j : ℕ) → IsReadUpTo bytes levels fs i → i ≤ j → j ≤ length bytes
      → ((k : ℕ) → i ≤ k → k < j → IsSkipped bytes k) → (j < length bytes → comment_before bytes j ≡ false)
      → IsReadUpTo bytes levels fs j
  read_skipped levels fs i j r l m skipped outside =
      let e : i + (j - i) ≡ j = omega arith in
      let d = subst (λ x. AreForms bytes i x NoForm) e (skipped_stretch i (j - i) (λ k a b. skipped k a (omega arith))) in
      subst (λ x. IsReadUpTo bytes levels x j) (joined-none fs)
      (read_quiet levels fs NoForm i j r l m (λ k a b. quiet_skipped k (skipped k a b)) outside d)

  -- outside comments a byte that is no ; is in no comment
  pub not_in_comment : (i : ℕ) → i < length bytes → comment_before bytes i ≡ false → (get_or bytes i 0 ≡ 59 → ⊥) → in_comment bytes i ≡ false
  not_in_comment i l o h = comment_before-none bytes i l h o

  pub read_blank : (levels : List Level) (fs : Forms) (i : ℕ) → IsReadUpTo bytes levels fs i → i < length bytes
      → is_blank (get_or bytes i 0) ≡ true → IsReadUpTo bytes levels fs (i + 1)
  read_blank levels fs i r l b =
      let n : get_or bytes i 0 ≡ 59 → ⊥ = is_blank-at (get_or bytes i 0) 59 b refl in
      let o = comment_before-none bytes i l n (r.outside l) in
      read_skipped levels fs i (i + 1) r (omega arith) (omega arith)
      (λ k a c. let e : i ≡ k = omega arith in subst (IsSkipped bytes) e (record { within = l; idle = inr b }))
      (λ _. o)

  -- behind its ; a comment goes on while no LF stands there
  pub comment_stays : (i n : ℕ) → ((k : ℕ) → i ≤ k → k < i + n + 1 → get_or bytes k 0 ≡ 10 → ⊥) → i + n < length bytes → get_or bytes i 0 ≡ 59
      → comment_before bytes (i + n + 1) ≡ true
  comment_stays i zero line l h =
      let x : i + 1 ≡ i + zero + 1 = omega arith in
      subst (λ k. comment_before bytes k ≡ true) x (comment_before-mark bytes i (omega arith) h)
  comment_stays i (suc n) line l h =
      let x : (i + n + 1) + 1 ≡ i + suc n + 1 = omega arith in
      subst (λ k. comment_before bytes k ≡ true) x
      (comment_before-goes_on bytes (i + n + 1) (omega arith) (line (i + n + 1) (omega arith) (omega arith))
      (comment_stays i n (λ k a b. line k a (omega arith)) (omega arith) h))

  pub comment_skipped : (i k j : ℕ) → IsLineEnd bytes i j → get_or bytes i 0 ≡ 59 → i ≤ k → k < j → IsSkipped bytes k
  comment_skipped i k j e h a b =
      let within : k < length bytes = omega (arith, e.within) in
      elim (cases_eq (get_or bytes k 0) 10) [
        | inl n ↦ record { within = within; idle = inr (ap is_blank n) }
        | inr n ↦
            let x : i + (k - i) + 1 ≡ k + 1 = omega arith in
            let line = λ (m : ℕ) (c : i ≤ m) (d : m < i + (k - i) + 1). elim (cases_lt m k) as (λ _. get_or bytes m 0 ≡ 10 → ⊥) [
              | inl lt ↦ e.line m c (omega arith)
              | inr ge ↦ (let y : k ≡ m = omega arith in subst (λ z. get_or bytes z 0 ≡ 10 → ⊥) y n)
            ] in
            record {
              within = within;
              idle = inl (subst (λ z. comment_before bytes z ≡ true) x (comment_stays i (k - i) line (omega arith) h));
            }
      ]

  -- behind a line no comment goes on
  pub line_outside : (i j : ℕ) → IsLineEnd bytes i j → j < length bytes → comment_before bytes j ≡ false
  line_outside i j e m =
      let x : (j - 1) + 1 ≡ j = omega (arith, e.after) in
      subst (λ k. comment_before bytes k ≡ false) x (comment_before-line_end bytes (j - 1) (omega (arith, e.after)) (e.ended m (j - 1) x))

  -- blanks and comments up to a comment, and this one
  pub skipped_comment : (from i j : ℕ) → IsLineEnd bytes i j → get_or bytes i 0 ≡ 59 → ((k : ℕ) → from ≤ k → k < i → IsSkipped bytes k)
      → (k : ℕ) → from ≤ k → k < j → IsSkipped bytes k
  skipped_comment from i j e h before = λ k a b.
      elim (cases_lt k i) [ inl lt ↦ before k a lt | inr ge ↦ comment_skipped i k j e h ge b ]

  pub read_comment : (levels : List Level) (fs : Forms) (i j : ℕ) → IsReadUpTo bytes levels fs i → get_or bytes i 0 ≡ 59
      → IsLineEnd bytes i j → IsReadUpTo bytes levels fs j
  read_comment levels fs i j r h e =
      read_skipped levels fs i j r (omega (arith, e.after)) e.within
      (λ k a b. comment_skipped i k j e h a b)
      (line_outside i j e)

  -- in a word no comment begins
  pub word_outside : (i n j : ℕ) → IsWordEnd bytes i j → comment_before bytes i ≡ false → i + n ≤ j → comment_before bytes (i + n) ≡ false
  word_outside i zero j e o l = let x : i ≡ i + zero = omega arith in subst (λ k. comment_before bytes k ≡ false) x o
  word_outside i (suc n) j e o l =
      let x : (i + n) + 1 ≡ i + suc n = omega arith in
      let p = IsPlain-from_word_byte (get_or bytes (i + n) 0) (e.word (i + n) (omega arith) (omega arith)) in
      subst (λ k. comment_before bytes k ≡ false) x
      (comment_before-none bytes (i + n) (omega (arith, e.within)) p.not_mark (word_outside i n j e o (omega arith)))

  -- a word has some byte
  pub word_some : (i j : ℕ) → i < length bytes → is_word_byte (get_or bytes i 0) ≡ true → IsWordEnd bytes i j → i < j
  word_some i j l h e =
      elim (cases_lt i j) [
        | inl lt ↦ lt
        | inr ge ↦ absurd (let x : i ≡ j = omega (arith, e.after) in
            true≢false (sym h ∙ subst (λ k. is_word_byte (get_or bytes k 0) ≡ false) (sym x) (e.ended (omega arith))))
      ]

  pub read_word : (levels : List Level) (fs : Forms) (i j : ℕ) → IsReadUpTo bytes levels fs i → i < length bytes
      → is_word_byte (get_or bytes i 0) ≡ true → IsWordEnd bytes i j
      → IsReadUpTo bytes levels (joined fs (MoreForms (Word i j) NoForm)) j
  read_word levels fs i j r l h e =
      let some : i < j = word_some i j l h e in
      let outside = λ (k : ℕ) (a : i ≤ k) (b : k ≤ j).
      let x : i + (k - i) ≡ k = omega arith in
      subst (λ m. comment_before bytes m ≡ false) x (word_outside i (k - i) j e (r.outside l) (omega arith)) in
      let word : IsWordAt bytes i j = record {
        some = some;
        within = e.within;
        word = e.word;
        outside = λ k a b. outside (k + 1) (omega arith) (omega arith);
        ended = e.ended;
      } in
      read_quiet levels fs (MoreForms (Word i j) NoForm) i j r (omega arith) e.within
      (λ k a b. quiet_word_byte k (e.word k a b))
      (λ _. outside j (omega arith) (omega arith))
      (AWord word End)

  -- nothing is at fault where a word begins
  pub faultless_word : (levels : List Level) (fs : Forms) (i : ℕ) → IsReadUpTo bytes levels fs i
      → is_word_byte (get_or bytes i 0) ≡ true → IsFaultlessBelow bytes (i + 1)
  faultless_word levels fs i r h =
      faultless_more i (i + 1) r.faultless
      (λ k a b. let x : i ≡ k = omega arith in quiet_faultless k (quiet_word_byte k (subst (λ m. is_word_byte (get_or bytes m 0) ≡ true) x h)))

  -- nor where a comment begins
  pub faultless_mark : (levels : List Level) (fs : Forms) (i : ℕ) → IsReadUpTo bytes levels fs i → i < length bytes
      → get_or bytes i 0 ≡ 59 → IsFaultlessBelow bytes (i + 1)
  faultless_mark levels fs i r l h =
      let here : IsSkipped bytes i = record { within = l; idle = inl (comment_before-mark bytes i l h) } in
      faultless_more i (i + 1) r.faultless
      (λ k a b. let x : i ≡ k = omega arith in quiet_faultless k (quiet_skipped k (subst (IsSkipped bytes) x here)))

  pub open_fine : (i : ℕ) → stands_at 40 bytes i ≡ true → stands_at 41 bytes i ≡ false → depth bytes i < deepest
      → (fault : TextFault) → IsFaultyAt bytes i fault → ⊥
  open_fine i o c few fault (Bad l n b) = true≢false (sym (is_text_byte-open _ (stands_at-byte 40 bytes i o)) ∙ b)
  open_fine i o c few fault (Extra l s d) = true≢false (sym s ∙ c)
  open_fine i o c few fault (Deep l s d) = omega arith

  pub close_fine : (i : ℕ) → stands_at 41 bytes i ≡ true → stands_at 40 bytes i ≡ false → 0 < depth bytes i
      → (fault : TextFault) → IsFaultyAt bytes i fault → ⊥
  close_fine i c o some fault (Bad l n b) = true≢false (sym (is_text_byte-close _ (stands_at-byte 41 bytes i c)) ∙ b)
  close_fine i c o some fault (Extra l s d) = omega arith
  close_fine i c o some fault (Deep l s d) = true≢false (sym s ∙ o)

  -- the depth is the number of open lists
  pub depth_of_levels : (levels : List Level) (fs : Forms) (i : ℕ) → IsReadUpTo bytes levels fs i → depth bytes i ≡ length levels
  depth_of_levels levels fs i r = omega (arith, r.balanced)

  pub read_open : (levels : List Level) (fs : Forms) (i : ℕ) → IsReadUpTo bytes levels fs i → i < length bytes
      → get_or bytes i 0 ≡ 40 → length levels < deepest → IsReadUpTo bytes (record { from = i; before = fs } ∷ levels) NoForm (i + 1)
  read_open levels fs i r l h few =
      let o = not_in_comment i l (r.outside l) (omega arith) in
      let opens = stands_at-from 40 bytes i h o in
      let no_close = stands_at-other 41 bytes i (omega arith) in
      let c40 = count_before-yes 40 bytes i opens in
      let c41 = count_before-no 41 bytes i no_close in
      let d = depth_of_levels levels fs i r in
      let fine : (fault : TextFault) → IsFaultyAt bytes i fault → ⊥ = open_fine i opens no_close (omega arith) in
      record {
        within = omega arith;
        outside = λ _. o;
        faultless = faultless_more i (i + 1) r.faultless
            (λ k a b fault f. let x : k ≡ i = omega arith in fine fault (subst (λ m. IsFaultyAt bytes m fault) x f));
        balanced = omega (arith, c40, c41, r.balanced);
        shallow = omega arith;
        stand = (
          r.stand,
          record {
            within = l;
            opens = opens;
            level = d;
            stays = λ k a b. let x : k ≡ i + 1 = omega arith in
                subst (λ m. length levels < depth bytes m) (sym x) (omega (arith, c40, c41, r.balanced));
          },
          subst (λ m. AreForms bytes m (i + 1) NoForm) (let x : i + 1 ≡ suc i = omega arith in x) End,
        );
      }

  pub read_close : (from : ℕ) (before : Forms) (levels : List Level) (fs : Forms) (i : ℕ)
      → IsReadUpTo bytes (record { from = from; before = before } ∷ levels) fs i → i < length bytes → get_or bytes i 0 ≡ 41
      → IsReadUpTo bytes levels (joined before (MoreForms (ListForm from (i + 1) fs) NoForm)) (i + 1)
  read_close from before levels fs i r l h =
      let o = not_in_comment i l (r.outside l) (omega arith) in
      let closes = stands_at-from 41 bytes i h o in
      let no_open = stands_at-other 40 bytes i (omega arith) in
      let c40 = count_before-no 40 bytes i no_open in
      let c41 = count_before-yes 41 bytes i closes in
      let d = depth_of_levels (record { from = from; before = before } ∷ levels) fs i r in
      let fine : (fault : TextFault) → IsFaultyAt bytes i fault → ⊥ = close_fine i closes no_open (omega arith) in
      let s = r.stand in
      let begun = AreForms_ordered s.2 in
      let x : suc i ≡ i + 1 = omega arith in
      let list = AList s.1.within s.1.opens s.2 l closes End in
      record {
        within = omega arith;
        outside = λ _. o;
        faultless = faultless_more i (i + 1) r.faultless
            (λ k a b fault f. let y : k ≡ i = omega arith in fine fault (subst (λ m. IsFaultyAt bytes m fault) y f));
        balanced = omega (arith, c40, c41, r.balanced);
        shallow = omega (arith, r.shallow);
        stand = stand_more levels before (MoreForms (ListForm from (i + 1) fs) NoForm) from (i + 1) s.0
            (subst (λ m. AreForms bytes from m (MoreForms (ListForm from m fs) NoForm)) x list)
            (λ k a b. elim (cases_lt i k) [
              | inl lt ↦ (let y : k ≡ i + 1 = omega arith in
                  subst (λ m. length levels ≤ depth bytes m) (sym y) (omega (arith, c40, c41, r.balanced)))
              | inr ge ↦ (let deeper = s.1.stays k a ge in omega arith)
            ]);
      }
