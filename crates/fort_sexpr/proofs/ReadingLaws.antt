-- A reader's open lists and its table of lists, from one offset to the next.
use Rattle.std.proofs.Common.{◌≡◌, ℕ, suc, ◌+◌, ◌^◌, ◌<◌, ◌≤◌, ◌⊎◌, true, false, List, [], ◌∷◌, ◌++◌, length, set, reverse, get_or, refl, sym, ap, ◌∙◌, subst, inl, inr, arith}
use Rattle.std.proofs.lemmas.Bool.{true≢false, cases_lt, cases_eq, cases_order}
use Rattle.std.proofs.lemmas.List.{get_or_default, get_or_push, get_or_append_left, get_or-set_same, get_or-set_other, length_push, length-set}
use Rattle.fort_theory.specs.Signatures.{is_word_byte}
use Rattle.fort_grammar.specs.Text.{is_blank, stands_at, deepest, Unclosed, IsFirstFault, IsFaultlessBelow}
use Rattle.fort_grammar.specs.Forms.{Form, Forms, NoForm, MoreForms, Word, ListForm, AreForms, AreFormsOf}
use Rattle.fort_grammar.proofs.Bytes.{IsPlain-from_word_byte, stands_at-from, stands_at-other}
use Rattle.fort_sexpr.specs.FormView.{form_count}
use Rattle.fort_sexpr.specs.Found.{run_from}
use Rattle.fort_sexpr.specs.declared.arena.FormNode.{FormNode}
use Rattle.fort_sexpr.specs.declared.arena.ListNode.{ListNode}
use Rattle.fort_sexpr.specs.declared.token.Token.{Token}
use Rattle.fort_sexpr.specs.declared.token.Token.TheVariants as tokens
use Rattle.fort_sexpr.specs.Tokens.{IsToken}
use Rattle.fort_sexpr.specs.Nodes.{opens_before, list_at, IsEntry, IsListed, AreListed, text_forms}
use Rattle.fort_sexpr.specs.Progress.{Level, StandUpTo, IsReadUpTo, IsWordEnd, IsLineEnd}
use Rattle.fort_sexpr.specs.Reading.{IsOpenAt, AreOpen, IsReading, CountsMore, one_more, lists_with, count_with}
use Rattle.fort_sexpr.proofs.Depths.{count_before-yes, count_before-no}
use Rattle.fort_sexpr.proofs.FormLists.{joined, form_count-joined, form_count-least, node_counts-AreForms}
use Rattle.fort_sexpr.proofs.FoundLaws.{found}
use Rattle.fort_sexpr.proofs.NodesLaws.{skipped_opens, opens_between, opens_apart, opens_within}
use Rattle.fort_sexpr.proofs.Steps.{not_in_comment, faultless_word, faultless_mark, comment_skipped, read_blank, read_comment, read_word, read_open, read_close}
use Rattle.fort_sexpr.proofs.Ends.{read_nothing, AreFormsOf-read, Unclosed-read}

abbrev nowhere : ListNode
nowhere = record { to = 0; count = 0; behind = 0 }

module _ (bytes : List ℕ) where
  -- as many lists are open as there are levels
  pub length-levels : (lists : List ListNode) (count : ℕ) (limit : ℕ) (os : List FormNode) (ls : List Level) (fs : Forms)
      → AreOpen bytes lists count limit os ls fs → length ls ≡ length os
  length-levels lists count limit [] [] fs h = refl
  length-levels lists count limit [] (l ∷ ls) fs h = absurd h
  length-levels lists count limit (o ∷ os) [] fs h = absurd h
  length-levels lists count limit (o ∷ os) (l ∷ ls) fs h = ap suc (length-levels lists count o.list os ls l.before h.4)

  open_limit : (lists : List ListNode) (count : ℕ) (limit more : ℕ) (os : List FormNode) (ls : List Level) (fs : Forms) → limit ≤ more
      → AreOpen bytes lists count limit os ls fs → AreOpen bytes lists count more os ls fs
  open_limit lists count limit more [] [] fs l h = h
  open_limit lists count limit more [] (x ∷ ls) fs l h = h
  open_limit lists count limit more (o ∷ os) [] fs l h = h
  open_limit lists count limit more (o ∷ os) (x ∷ ls) fs l h = (h.0, h.1, omega (arith, h.2), h.3, h.4)

  -- what becomes of other entries of the table is nothing to them
  open_kept : (lists ds : List ListNode) (count : ℕ) (limit : ℕ) (os : List FormNode) (ls : List Level) (fs : Forms)
      → ((k : ℕ) → k < limit → list_at ds k ≡ list_at lists k)
      → AreOpen bytes lists count limit os ls fs → AreOpen bytes ds count limit os ls fs
  open_kept lists ds count limit [] [] fs e h = h
  open_kept lists ds count limit [] (x ∷ ls) fs e h = h
  open_kept lists ds count limit (o ∷ os) [] fs e h = h
  open_kept lists ds count limit (o ∷ os) (x ∷ ls) fs e h = (
    h.0,
    h.1,
    h.2,
    ap (λ (n : ListNode). n.count) (e o.list h.2) ∙ h.3,
    open_kept lists ds count o.list os ls x.before (λ k l. e k (omega (arith, h.2))) h.4,
  )

  set_below : (lists : List ListNode) (i : ℕ) (n : ListNode) (limit : ℕ) → limit ≤ i → (k : ℕ) → k < limit → list_at (set lists i n) k ≡ list_at lists k
  set_below lists i n limit l k m = get_or-set_other lists i k n nowhere (λ e. absurd (omega arith))

  -- one more form of the innermost list
  open_added : (lists : List ListNode) (count : ℕ) (limit : ℕ) (os : List FormNode) (ls : List Level) (fs : Forms) (f : Form)
      → limit ≤ length lists → AreOpen bytes lists count limit os ls fs
      → AreOpen bytes (lists_with os lists) (count_with os count) limit os ls (joined fs (MoreForms f NoForm))
  open_added lists count limit [] [] fs f l h = ap (λ n. n + 1) h ∙ sym (form_count-joined fs f)
  open_added lists count limit [] (x ∷ ls) fs f l h = h
  open_added lists count limit (o ∷ os) [] fs f l h = h
  open_added lists count limit (o ∷ os) (x ∷ ls) fs f l h =
      let n = one_more (list_at lists o.list) in
      let here : list_at (set lists o.list n) o.list ≡ n = get_or-set_same lists o.list n nowhere (omega (arith, h.2)) in (
        h.0,
        h.1,
        h.2,
        ap (λ (m : ListNode). m.count) here ∙ (ap (λ c. c + 1) h.3 ∙ sym (form_count-joined fs f)),
        open_kept lists (set lists o.list n) count o.list os ls x.before (set_below lists o.list n o.list (omega arith)) h.4,
      )

  listed_kept : (lists ds : List ListNode) (from : ℕ) → list_at ds (opens_before bytes from) ≡ list_at lists (opens_before bytes from)
      → IsListed bytes lists from → IsListed bytes ds from
  listed_kept lists ds from e h = λ close fs at. subst (λ n. IsEntry bytes n (suc close) fs) (sym e) (h close fs at)

  -- lists that open at different offsets have entries of their own
  numbers_apart : (i j : ℕ) → stands_at 40 bytes i ≡ true → stands_at 40 bytes j ≡ true → (i ≡ j → ⊥) → opens_before bytes i ≡ opens_before bytes j → ⊥
  numbers_apart i j a b apart e =
      elim (cases_order i j) [
        | inl same ↦ apart same
        | inr (inl l) ↦ (let x = opens_apart bytes i j l a in absurd (omega arith))
        | inr (inr l) ↦ (let x = opens_apart bytes j i l b in absurd (omega arith))
      ]

  -- the entry of an open list may change
  set_apart : (lists : List ListNode) (n : ListNode) (o : FormNode) (from : ℕ) → o.list ≡ opens_before bytes o.from → stands_at 40 bytes o.from ≡ true
      → stands_at 40 bytes from ≡ true → (o.from ≡ from → ⊥) → IsListed bytes lists from → IsListed bytes (set lists o.list n) from
  set_apart lists n o from number opens h apart listed =
      listed_kept lists (set lists o.list n) from
      (get_or-set_other lists o.list (opens_before bytes from) n nowhere
      (λ e. numbers_apart o.from from opens h apart (sym number ∙ sym e)))
      listed

  opens_at : (o : FormNode) (from : ℕ) → o.from ≡ from → stands_at 40 bytes from ≡ true → stands_at 40 bytes o.from ≡ true
  opens_at o from e h = ap (stands_at 40 bytes) e ∙ h

  each_added : (lists : List ListNode) (count : ℕ) (limit i : ℕ) (os : List FormNode) (ls : List Level) (fs : Forms) (from : ℕ)
      → AreOpen bytes lists count limit os ls fs → StandUpTo bytes ls fs i → stands_at 40 bytes from ≡ true
      → IsOpenAt os from ⊎ IsListed bytes lists from → IsOpenAt os from ⊎ IsListed bytes (lists_with os lists) from
  each_added lists count limit i [] ls fs from h s a (inl b) = inl b
  each_added lists count limit i [] ls fs from h s a (inr b) = inr b
  each_added lists count limit i (o ∷ os) ls fs from h s a (inl b) = inl b
  each_added lists count limit i (o ∷ os) [] fs from h s a (inr b) = absurd h
  each_added lists count limit i (o ∷ os) (l ∷ ls) fs from h s a (inr b) =
      elim (cases_eq o.from from) [
        | inl e ↦ inl (inl e)
        | inr n ↦ inr (set_apart lists (one_more (list_at lists o.list)) o from (h.1 ∙ ap (opens_before bytes) (sym h.0))
            (opens_at o l.from h.0 s.1.opens) a n b)
      ]

  pub length-lists_with : (os : List FormNode) (lists : List ListNode) → length (lists_with os lists) ≡ length lists
  length-lists_with [] lists = refl
  length-lists_with (o ∷ os) lists = length-set lists o.list (one_more (list_at lists o.list))

  -- the count of an open list is far below what its type holds
  pub counts_more : (lists : List ListNode) (count : ℕ) (limit i : ℕ) (os : List FormNode) (ls : List Level) (fs : Forms)
      → AreOpen bytes lists count limit os ls fs → StandUpTo bytes ls fs i → i + 1 < 2 ^ 32 → limit ≤ length lists → CountsMore os lists count
  counts_more lists count limit i [] [] fs h s few l = omega (arith, h, node_counts-AreForms s, form_count-least fs)
  counts_more lists count limit i [] (x ∷ ls) fs h s few l = absurd h
  counts_more lists count limit i (o ∷ os) [] fs h s few l = absurd h
  counts_more lists count limit i (o ∷ os) (x ∷ ls) fs h s few l =
      (omega (arith, h.2), omega (arith, h.3, node_counts-AreForms s.2, form_count-least fs))

  reading_nothing : IsReading bytes [] [] 0 0
  reading_nothing = record {
    levels = [];
    forms = NoForm;
    read = read_nothing bytes;
    open_lists = refl;
    number = refl;
    each = λ from l h. absurd (omega arith);
  }

  pub reading_begun : (os : List FormNode) (lists : List ListNode) → os ≡ [] → lists ≡ [] → IsReading bytes (reverse os) lists 0 0
  reading_begun os lists o l =
      subst (λ xs. IsReading bytes (reverse xs) lists 0 0) (sym o)
      (subst (λ xs. IsReading bytes [] xs 0 0) (sym l) reading_nothing)

  -- up to an offset behind which no list opens before the next one
  each_on : (os : List FormNode) (lists : List ListNode) (i j : ℕ) → ((k : ℕ) → i ≤ k → k < j → stands_at 40 bytes k ≡ false)
      → ((from : ℕ) → from < i → stands_at 40 bytes from ≡ true → IsOpenAt os from ⊎ IsListed bytes lists from)
      → (from : ℕ) → from < j → stands_at 40 bytes from ≡ true → IsOpenAt os from ⊎ IsListed bytes lists from
  each_on os lists i j none each from l h =
      elim (cases_lt from i) [
        | inl lt ↦ each from lt h
        | inr ge ↦ absurd (true≢false (sym h ∙ none from ge l))
      ]

  module _ (os : List FormNode) (lists : List ListNode) (count : ℕ) where
    -- over what is no form
    reading_on : (i j : ℕ) (r : IsReading bytes os lists count i) → i ≤ j → ((k : ℕ) → i ≤ k → k < j → stands_at 40 bytes k ≡ false)
        → IsReadUpTo bytes r.levels r.forms j → IsReading bytes os lists count j
    reading_on i j r l none read = record {
      levels = r.levels;
      forms = r.forms;
      read = read;
      open_lists = r.open_lists;
      number = r.number ∙ sym (opens_between bytes i j l none);
      each = each_on os lists i j none r.each;
    }

    pub reading_blank : (i : ℕ) → IsReading bytes os lists count i → i < length bytes → is_blank (get_or bytes i 0) ≡ true
        → IsReading bytes os lists count (i + 1)
    reading_blank i r l b =
        let here = skipped_opens bytes i (record { within = l; idle = inr b }) in
        reading_on i (i + 1) r (omega arith)
        (λ k a c. let e : i ≡ k = omega arith in subst (λ m. stands_at 40 bytes m ≡ false) e here)
        (read_blank bytes r.levels r.forms i r.read l b)

    pub reading_comment : (i j : ℕ) → IsReading bytes os lists count i → get_or bytes i 0 ≡ 59 → IsLineEnd bytes i j
        → IsReading bytes os lists count j
    reading_comment i j r h e =
        reading_on i j r (omega (arith, e.after)) (λ k a b. skipped_opens bytes k (comment_skipped bytes i k j e h a b))
        (read_comment bytes r.levels r.forms i j r.read h e)

    -- one more form
    reading_added : (i j : ℕ) (ls : List Level) (fs : Forms) (f : Form) → AreOpen bytes lists count (length lists) os ls fs
        → StandUpTo bytes ls fs i → IsReadUpTo bytes ls (joined fs (MoreForms f NoForm)) j → length lists ≡ opens_before bytes j
        → ((from : ℕ) → from < j → stands_at 40 bytes from ≡ true → IsOpenAt os from ⊎ IsListed bytes lists from)
        → IsReading bytes os (lists_with os lists) (count_with os count) j
    reading_added i j ls fs f open_lists stand read number each = record {
      levels = ls;
      forms = joined fs (MoreForms f NoForm);
      read = read;
      open_lists = open_limit (lists_with os lists) (count_with os count) (length lists) (length (lists_with os lists)) os ls _
          (omega (arith, length-lists_with os lists))
          (open_added lists count (length lists) os ls fs f (omega arith) open_lists);
      number = length-lists_with os lists ∙ number;
      each = λ from l h. each_added lists count (length lists) i os ls fs from open_lists stand h (each from l h);
    }

    pub reading_word : (i j : ℕ) → IsReading bytes os lists count i → i < length bytes → is_word_byte (get_or bytes i 0) ≡ true
        → IsWordEnd bytes i j → IsReading bytes os (lists_with os lists) (count_with os count) j
    reading_word i j r l w e =
        let none = λ (k : ℕ) (a : i ≤ k) (b : k < j). stands_at-other 40 bytes k (IsPlain-from_word_byte (get_or bytes k 0) (e.word k a b)).not_open in
        let number = r.number ∙ sym (opens_between bytes i j e.after none) in
        reading_added i j r.levels r.forms (Word i j) r.open_lists r.read.stand
        (read_word bytes r.levels r.forms i j r.read l w e) number (each_on os lists i j none r.each)

    pub reading_open : (i : ℕ) (o : FormNode) (n : ListNode) → IsReading bytes os lists count i → i < length bytes → get_or bytes i 0 ≡ 40
        → length os < deepest → o ≡ record { from = i; list = length lists } → n ≡ record { to = 0; count = 0; behind = 0 }
        → IsReading bytes (o ∷ os) (lists ++ n ∷ []) count (i + 1)
    reading_open i o n r l h few is zeros =
        let ds = lists ++ n ∷ [] in
        let outside = not_in_comment bytes i l (r.read.outside l) (omega arith) in
        let opens = stands_at-from 40 bytes i h outside in
        let more = count_before-yes 40 bytes i opens in
        let longer = length_push lists n in
        let from : o.from ≡ i = ap (λ (x : FormNode). x.from) is in
        let number : o.list ≡ length lists = ap (λ (x : FormNode). x.list) is in
        let none : (list_at ds o.list).count ≡ 0 = ap (λ (x : ListNode). x.count) (get_or_push lists n nowhere o.list (sym number) ∙ zeros) in
        let kept = λ (k : ℕ) (m : k < length lists). get_or_append_left lists (n ∷ []) nowhere k m in
        record {
          levels = record { from = i; before = r.forms } ∷ r.levels;
          forms = NoForm;
          read = read_open bytes r.levels r.forms i r.read l h
              (omega (arith, length-levels lists count (length lists) os r.levels r.forms r.open_lists));
          open_lists = (
            from,
            number ∙ r.number,
            omega arith,
            none,
            open_limit ds count (length lists) o.list os r.levels r.forms (omega arith)
                (open_kept lists ds count (length lists) os r.levels r.forms kept r.open_lists),
          );
          number = omega (arith, r.number);
          each = λ k m s. elim (cases_lt k i) [
            | inl lt ↦ elim (r.each k lt s) [
              | inl b ↦ inl (inr b)
              | inr b ↦ inr (listed_kept lists ds k (kept (opens_before bytes k) (omega (arith, opens_apart bytes k i lt s, r.number))) b)
            ]
            | inr ge ↦ (let same : o.from ≡ k = omega (arith, from) in inl (inl same))
          ];
        }

    -- the list that opens at the offset of the innermost level is closed
    closed_here : (i : ℕ) (o : FormNode) (n : ListNode) (l : Level) (fs : Forms) → AreForms bytes (suc l.from) i fs → stands_at 41 bytes i ≡ true
        → o.list ≡ opens_before bytes l.from → o.list < length lists
        → n ≡ record { to = i + 1; count = (list_at lists o.list).count; behind = length lists }
        → (list_at lists o.list).count ≡ form_count fs → length lists ≡ opens_before bytes (i + 1) → IsListed bytes (set lists o.list n) l.from
    closed_here i o n l fs d closes number within is count behind = λ close gs at.
        let run : run_from bytes (suc l.from) ≡ (fs, i) = found bytes d (record { closes = λ _. closes }) in
        let other : run_from bytes (suc l.from) ≡ (gs, close) = found bytes at.forms (record { closes = λ _. at.closes }) in
        let same : fs ≡ gs = sym (ap (λ r. r.0) run) ∙ ap (λ r. r.0) other in
        let end : i ≡ close = sym (ap (λ r. r.1) run) ∙ ap (λ r. r.1) other in
        let ended : i + 1 ≡ suc close = omega arith in
        let entry : list_at (set lists o.list n) (opens_before bytes l.from) ≡ n =
        ap (list_at (set lists o.list n)) (sym number) ∙ get_or-set_same lists o.list n nowhere within in
        let e = entry ∙ is in
        record {
          to = ap (λ (x : ListNode). x.to) e ∙ ended;
          count = ap (λ (x : ListNode). x.count) e ∙ (count ∙ ap form_count same);
          behind = ap (λ (x : ListNode). x.behind) e ∙ (behind ∙ ap (opens_before bytes) ended);
        }

    -- what a reader has whose innermost list ends here
    pub record IsClosing (i : ℕ) (o : FormNode) (ds : List ListNode) : Type 0 where
      pub levels : List Level
      pub before : Forms
      pub form : Form
      pub begins : Level
      pub below : begins.from < i
      pub stand : StandUpTo bytes levels before begins.from
      pub read : IsReadUpTo bytes levels (joined before (MoreForms form NoForm)) (i + 1)
      pub open_lists : AreOpen bytes ds count (length ds) os levels before
      pub number : length ds ≡ opens_before bytes (i + 1)
      pub each : (from : ℕ) → from < i + 1 → stands_at 40 bytes from ≡ true → IsOpenAt os from ⊎ IsListed bytes ds from

    pub reading_closes : (i : ℕ) (o : FormNode) (n : ListNode) → IsReading bytes (o ∷ os) lists count i → i < length bytes → get_or bytes i 0 ≡ 41
        → n ≡ record { to = i + 1; count = (list_at lists o.list).count; behind = length lists } → IsClosing i o (set lists o.list n)
    reading_closes i o n r l h is = by r.levels r.read r.open_lists
      where
        by : (ls : List Level) → IsReadUpTo bytes ls r.forms i → AreOpen bytes lists count (length lists) (o ∷ os) ls r.forms
            → IsClosing i o (set lists o.list n)
        by [] read a = absurd a
        by (x ∷ ls) read a =
            let ds = set lists o.list n in
            let outside = not_in_comment bytes i l (read.outside l) (omega arith) in
            let closes = stands_at-from 41 bytes i h outside in
            let no_open = stands_at-other 40 bytes i (omega arith) in
            let same = count_before-no 40 bytes i no_open in
            let long = length-set lists o.list n in
            let behind : length lists ≡ opens_before bytes (i + 1) = omega (arith, r.number) in
            let opens : stands_at 40 bytes o.from ≡ true = ap (stands_at 40 bytes) a.0 ∙ read.stand.1.opens in
            let closed = closed_here i o n x r.forms read.stand.2 closes a.1 a.2 is a.3 behind in
            let others = λ (from : ℕ) (s : stands_at 40 bytes from ≡ true) (apart : o.from ≡ from → ⊥).
            set_apart lists n o from (a.1 ∙ ap (opens_before bytes) (sym a.0)) opens s apart in
            let here = λ (from : ℕ) (e : o.from ≡ from). subst (IsListed bytes ds) (sym a.0 ∙ e) closed in
            record {
              levels = ls;
              before = x.before;
              form = ListForm x.from (i + 1) r.forms;
              begins = x;
              below = omega (arith, node_counts-AreForms read.stand.2);
              stand = read.stand.0;
              read = read_close bytes x.from x.before ls r.forms i read l h;
              open_lists = open_limit ds count o.list (length ds) os ls x.before (omega (arith, a.2))
                  (open_kept lists ds count o.list os ls x.before (set_below lists o.list n o.list (omega arith)) a.4);
              number = long ∙ behind;
              each = each_on os ds i (i + 1) (λ k b c. let e : i ≡ k = omega arith in subst (λ m. stands_at 40 bytes m ≡ false) e no_open)
                  (λ from m s. elim (r.each from m s) [
                    | inl (inl e) ↦ inr (here from e)
                    | inl (inr b) ↦ inl b
                    | inr b ↦ elim (cases_eq o.from from) [
                      | inl e ↦ inr (here from e)
                      | inr apart ↦ inr (others from s apart b)
                    ]
                  ]);
            }

  module _ (os : List FormNode) (lists ds : List ListNode) (count : ℕ) (i : ℕ) (o : FormNode) where
    pub reading_close : IsClosing os lists count i o ds → IsReading bytes os (lists_with os ds) (count_with os count) (i + 1)
    reading_close h =
        reading_added os ds count h.begins.from (i + 1) h.levels h.before h.form h.open_lists h.stand h.read h.number h.each

    pub closing_counts : IsClosing os lists count i o ds → i < length bytes → length bytes < 2 ^ 32 → CountsMore os ds count
    closing_counts h l few =
        counts_more ds count (length ds) h.begins.from os h.levels h.before h.open_lists h.stand (omega (arith, h.below)) (omega arith)

  -- the text is read to its end
  pub record IsEnded (lists : List ListNode) (many : ℕ) : Type 0 where
    pub listed : AreListed bytes lists
    pub forms : AreFormsOf bytes (text_forms bytes)
    pub count : many ≡ form_count (text_forms bytes)

  pub reading_ended : (lists : List ListNode) (count : ℕ) → length bytes < 2 ^ 32 → IsReading bytes [] lists count (length bytes)
      → IsEnded lists count
  reading_ended lists count few r = by r.levels r.read r.open_lists
    where
      by : (ls : List Level) → IsReadUpTo bytes ls r.forms (length bytes) → AreOpen bytes lists count (length lists) [] ls r.forms → IsEnded lists count
      by (x ∷ ls) read a = absurd a
      by [] read a =
          let run : run_from bytes 0 ≡ (r.forms, length bytes) = found bytes read.stand (record { closes = λ l. absurd (omega arith) }) in
          let same : r.forms ≡ text_forms bytes = sym (ap (λ x. x.0) run) in
          record {
            listed = record {
              few = few;
              number = r.number;
              each = λ from s close fs at. elim (r.each from at.within s) [
                | inl b ↦ absurd b
                | inr b ↦ b close fs at
              ];
            };
            forms = subst (AreFormsOf bytes) same (AreFormsOf-read bytes r.forms read);
            count = a ∙ ap form_count same;
          }

  -- or in the innermost list that is open there
  pub reading_unclosed : (o : FormNode) (os : List FormNode) (lists : List ListNode) (count : ℕ)
      → IsReading bytes (o ∷ os) lists count (length bytes) → IsFirstFault bytes (Unclosed o.from)
  reading_unclosed o os lists count r = by r.levels r.read r.open_lists
    where
      by : (ls : List Level) → IsReadUpTo bytes ls r.forms (length bytes) → AreOpen bytes lists count (length lists) (o ∷ os) ls r.forms
          → IsFirstFault bytes (Unclosed o.from)
      by [] read a = absurd a
      by (x ∷ ls) read a = subst (λ k. IsFirstFault bytes (Unclosed k)) (sym a.0) (Unclosed-read bytes x ls r.forms read)

  pub reading_levels : (os : List FormNode) (lists : List ListNode) (count : ℕ) (i : ℕ) (r : IsReading bytes os lists count i)
      → length r.levels ≡ length os
  reading_levels os lists count i r = length-levels lists count (length lists) os r.levels r.forms r.open_lists

  pub reading_few : (os : List FormNode) (lists : List ListNode) (count : ℕ) (i : ℕ) → IsReading bytes os lists count i → length lists ≤ i
  reading_few os lists count i r = omega (arith, r.number, opens_within bytes i)

  pub reading_counts : (os : List FormNode) (lists : List ListNode) (count : ℕ) (i : ℕ) → IsReading bytes os lists count i → i + 1 < 2 ^ 32
      → CountsMore os lists count
  reading_counts os lists count i r few =
      counts_more lists count (length lists) i os r.levels r.forms r.open_lists r.read.stand few (omega arith)

  -- the innermost list as the table has it
  pub reading_within : (o : FormNode) (os : List FormNode) (lists : List ListNode) (count : ℕ) (i : ℕ) → IsReading bytes (o ∷ os) lists count i
      → o.list < length lists
  reading_within o os lists count i r = by r.levels r.open_lists
    where
      by : (ls : List Level) → AreOpen bytes lists count (length lists) (o ∷ os) ls r.forms → o.list < length lists
      by [] a = absurd a
      by (x ∷ ls) a = a.2

  pub reading_ends : (o : FormNode) (os : List FormNode) (lists : List ListNode) (count : ℕ) (i behind : ℕ) (n : ListNode)
      → IsReading bytes (o ∷ os) lists count i → i < length bytes → get_or bytes i 0 ≡ 41 → n ≡ get_or lists o.list n → behind ≡ length lists
      → IsClosing os lists count i o (set lists o.list (record { to = i + 1; count = n.count; behind = behind }))
  reading_ends o os lists count i behind n r l h is last =
      let same : n ≡ list_at lists o.list = is ∙ get_or_default lists o.list n nowhere (reading_within o os lists count i r) in
      let made : ℕ → ℕ → ListNode = λ m b. record { to = i + 1; count = m; behind = b } in
      reading_closes os lists count i o _ r l h (ap (λ (x : ListNode). made x.count behind) same ∙ ap (made (list_at lists o.list).count) last)

  -- where one of these begins nothing is at fault
  pub faultless_token : (os : List FormNode) (lists : List ListNode) (count : ℕ) (i : ℕ) → IsReading bytes os lists count i → i < length bytes
      → (token : Token) → IsToken (get_or bytes i 0) (length os) token → IsFaultlessBelow bytes (i + 1)
  faultless_token os lists count i r l tokens.Blank h = (read_blank bytes _ _ i r.read l h).faultless
  faultless_token os lists count i r l tokens.Comment h = faultless_mark bytes _ _ i r.read l h
  faultless_token os lists count i r l tokens.Word h = faultless_word bytes _ _ i r.read h
  faultless_token os lists count i r l tokens.Open h =
      (read_open bytes _ _ i r.read l h.0 (omega (arith, h.1, reading_levels os lists count i r))).faultless
  faultless_token [] lists count i r l tokens.Close h = absurd (omega (arith, h.1))
  faultless_token (o ∷ os) lists count i r l tokens.Close h = (reading_closes os lists count i o _ r l h.0 refl).read.faultless
