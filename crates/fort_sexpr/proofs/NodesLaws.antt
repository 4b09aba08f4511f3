-- What begins at an offset of a text, which lists open before it, and what the table of lists has of them.
use Rattle.std.proofs.Common.{◌≡◌, ℕ, zero, suc, ◌+◌, ◌-◌, ◌<◌, ◌≤◌, Bool, true, false, ◌==◌, Some, List, [], ◌∷◌, length, take, drop, get_or, refl, sym, ap, ◌∙◌, subst, inl, inr, arith}
use Rattle.std.proofs.lemmas.Bool.{true≢false, cases_lt}
use Rattle.std.proofs.lemmas.List.{get_or_default}
use Rattle.std.proofs.lemmas.List.Folds.{length-prefix_len}
use Rattle.std.specs.List.{prefix_len}
use Rattle.fort_theory.specs.Signatures.{is_word_byte}
use Rattle.fort_grammar.specs.Text.{stands_at}
use Rattle.fort_grammar.specs.Forms.{Form, Forms, Word, ListForm, NoForm, MoreForms, IsSkipped, IsWordAt, AreForms, Skip, AWord, AList}
use Rattle.fort_grammar.specs.Declarations.{word_of, elements_of, as_list}
use Rattle.fort_grammar.proofs.Bytes.{IsPlain-from_word_byte, is_blank-word_byte, is_blank-at, stands_at-outside, stands_at-in_comment, stands_at-other}
use Rattle.fort_sexpr.specs.FormView.{is_list, span_of, form_count, form_at, word_ahead}
use Rattle.fort_sexpr.specs.Progress.{comment_before, IsNextToken}
use Rattle.fort_sexpr.specs.Found.{word_end, run_from, form_made, form_from, IsListAt, StandsIn}
use Rattle.fort_sexpr.specs.Nodes.{opens_before, list_at, AreListed, nodes_of, Stands, forms_on, StandOn}
use Rattle.fort_sexpr.specs.declared.arena.FormNode.{FormNode}
use Rattle.fort_sexpr.specs.declared.arena.ListNode.{ListNode}
use Rattle.fort_sexpr.proofs.Depths.{count_before-yes, count_before-no}
use Rattle.fort_sexpr.proofs.FormLists.{node_counts-AreForms}
use Rattle.fort_sexpr.proofs.FoundLaws.{found, form_from_is, each_stands}

module _ (bytes : List ℕ) where
  -- how many lists open before one offset and the other
  pub skipped_opens : (k : ℕ) → IsSkipped bytes k → stands_at 40 bytes k ≡ false
  skipped_opens k s =
      elim s.idle [
        | inl c ↦ stands_at-in_comment 40 bytes k c
        | inr b ↦ stands_at-other 40 bytes k (is_blank-at _ 40 b refl)
      ]

  opens_on : (i n : ℕ) → ((k : ℕ) → i ≤ k → k < i + n → stands_at 40 bytes k ≡ false) → opens_before bytes (i + n) ≡ opens_before bytes i
  opens_on i zero h = let e : i + zero ≡ i = omega arith in ap (opens_before bytes) e
  opens_on i (suc n) h =
      let e : i + suc n ≡ (i + n) + 1 = omega arith in
      ap (opens_before bytes) e
      ∙ (count_before-no 40 bytes (i + n) (h (i + n) (omega arith) (omega arith))
      ∙ opens_on i n (λ k a b. h k a (omega arith)))

  pub opens_between : (i j : ℕ) → i ≤ j → ((k : ℕ) → i ≤ k → k < j → stands_at 40 bytes k ≡ false) → opens_before bytes j ≡ opens_before bytes i
  opens_between i j l h =
      let e : j ≡ i + (j - i) = omega arith in
      ap (opens_before bytes) e ∙ opens_on i (j - i) (λ k a b. h k a (omega arith))

  opens_more : (i n : ℕ) → opens_before bytes i ≤ opens_before bytes (i + n)
  opens_more i zero = let e : i + zero ≡ i = omega arith in let same = ap (opens_before bytes) e in omega (arith, same)
  opens_more i (suc n) =
      let e : i + suc n ≡ (i + n) + 1 = omega arith in
      let same = ap (opens_before bytes) e in
      let before = opens_more i n in
      by (stands_at 40 bytes (i + n)) refl same before
    where
      by : (b : Bool) → stands_at 40 bytes (i + n) ≡ b → opens_before bytes (i + suc n) ≡ opens_before bytes ((i + n) + 1)
          → opens_before bytes i ≤ opens_before bytes (i + n) → opens_before bytes i ≤ opens_before bytes (i + suc n)
      by true h same before = omega (arith, count_before-yes 40 bytes (i + n) h)
      by false h same before = omega (arith, count_before-no 40 bytes (i + n) h)

  pub opens_ordered : (i j : ℕ) → i ≤ j → opens_before bytes i ≤ opens_before bytes j
  opens_ordered i j l =
      let e : i + (j - i) ≡ j = omega arith in
      subst (λ k. opens_before bytes i ≤ opens_before bytes k) e (opens_more i (j - i))

  -- no more lists open than bytes come
  pub opens_grow : (i n : ℕ) → opens_before bytes (i + n) ≤ opens_before bytes i + n
  opens_grow i zero = let e : i + zero ≡ i = omega arith in omega (arith, ap (opens_before bytes) e)
  opens_grow i (suc n) =
      let e : i + suc n ≡ (i + n) + 1 = omega arith in
      by (stands_at 40 bytes (i + n)) refl (ap (opens_before bytes) e) (opens_grow i n)
    where
      by : (b : Bool) → stands_at 40 bytes (i + n) ≡ b → opens_before bytes (i + suc n) ≡ opens_before bytes ((i + n) + 1)
          → opens_before bytes (i + n) ≤ opens_before bytes i + n → opens_before bytes (i + suc n) ≤ opens_before bytes i + suc n
      by true h same before = omega (arith, count_before-yes 40 bytes (i + n) h)
      by false h same before = omega (arith, count_before-no 40 bytes (i + n) h)

  -- lists that open at different offsets have different numbers
  pub opens_apart : (i j : ℕ) → i < j → stands_at 40 bytes i ≡ true → opens_before bytes i < opens_before bytes j
  opens_apart i j l h = omega (arith, count_before-yes 40 bytes i h, opens_ordered (i + 1) j (omega arith))

  pub opens_within : (i : ℕ) → opens_before bytes i ≤ i
  opens_within zero = omega arith
  opens_within (suc i) =
      let e : suc i ≡ i + 1 = omega arith in
      let same = ap (opens_before bytes) e in
      by (stands_at 40 bytes i) refl same (opens_within i)
    where
      by : (b : Bool) → stands_at 40 bytes i ≡ b → opens_before bytes (suc i) ≡ opens_before bytes (i + 1) → opens_before bytes i ≤ i
          → opens_before bytes (suc i) ≤ suc i
      by true h same before = omega (arith, count_before-yes 40 bytes i h)
      by false h same before = omega (arith, count_before-no 40 bytes i h)

  -- behind a form no comment goes on
  pub outside_behind : (f : Form) → StandsIn bytes f → comment_before bytes (span_of f).to ≡ false
  outside_behind (Word from to) w =
      let e : (to - 1) + 1 ≡ to = omega (arith, w.some) in
      subst (λ k. comment_before bytes k ≡ false) e (w.outside (to - 1) (omega (arith, w.some)) (omega (arith, w.some)))
  outside_behind (ListForm from zero fs) h = absurd h
  outside_behind (ListForm from (suc k) fs) h =
      let e : k + 1 ≡ suc k = omega arith in
      subst (λ k. comment_before bytes k ≡ false) e (stands_at-outside 41 bytes k h.closes)

  -- the first of some forms begins where blanks and comments end
  pub record IsFirst (p j : ℕ) (f : Form) (fs : Forms) : Type 0 where
    pub stands : StandsIn bytes f
    pub begins : (span_of f).from ≡ p
    pub rest : AreForms bytes (span_of f).to j fs

  no_word : (i k : ℕ) → IsWordAt bytes i k → IsSkipped bytes i → ⊥
  no_word i k w s =
      let h = w.word i (omega arith) w.some in
      elim s.idle [
        | inl c ↦ true≢false (sym c ∙ w.outside i (omega arith) w.some)
        | inr b ↦ true≢false (sym b ∙ is_blank-word_byte (get_or bytes i 0) h)
      ]

  no_open : (i : ℕ) → stands_at 40 bytes i ≡ true → IsSkipped bytes i → ⊥
  no_open i o s = true≢false (sym o ∙ skipped_opens i s)

  at_token : (i p : ℕ) → (IsSkipped bytes i → ⊥) → IsNextToken bytes i p → i ≡ p
  at_token i p h t =
      elim (cases_lt i p) [
        | inl lt ↦ absurd (h (t.skipped i (omega arith) lt))
        | inr ge ↦ omega (arith, t.after)
      ]

  pub first_form : {i j : ℕ} {f : Form} {fs : Forms} → (p : ℕ) → AreForms bytes i j (MoreForms f fs) → IsNextToken bytes i p → IsFirst p j f fs
  first_form {i} p (Skip s d) t =
      elim (cases_lt i p) [
        | inl lt ↦ first_form p d (record { after = omega arith; within = t.within; skipped = λ k a b. t.skipped k (omega arith) b; ended = t.ended })
        | inr ge ↦ absurd (let e : i ≡ p = omega (arith, t.after) in t.ended (subst (IsSkipped bytes) e s))
      ]
  first_form {i} p (AWord {k = k} w d) t = record { stands = w; begins = at_token i p (no_word i k w) t; rest = d }
  first_form {i} p (AList l o d m c e) t =
      record {
        stands = record { within = l; opens = o; forms = d; ends = m; closes = c };
        begins = at_token i p (no_open i o) t;
        rest = e;
      }

  pub record IsSplit (p at list count : ℕ) : Type 0 where
    pub forms : forms_on bytes at ≡ form_from bytes p ∷ forms_on bytes (span_of (form_from bytes p)).to
    pub first : Stands bytes (record { from = p; list = list })
    pub rest : StandOn bytes (span_of (form_from bytes p)).to (opens_before bytes (span_of (form_from bytes p)).to) (count - 1)

  pub split_is : (at list count p : ℕ) → StandOn bytes at list count → IsNextToken bytes at p → 0 < count → IsSplit p at list count
  split_is at list count p s t some = by (run_from bytes at).0 refl
    where
      by : (fs : Forms) → (run_from bytes at).0 ≡ fs → IsSplit p at list count
      by NoForm e = absurd (let n = ap form_count e in omega (arith, s.many))
      by (MoreForms f fs) e =
          let j = (run_from bytes at).1 in
          let d = first_form p (subst (AreForms bytes at j) e s.rest.forms) t in
          let same : f ≡ form_from bytes p = form_from_is bytes f d.stands ∙ ap (form_from bytes) d.begins in
          let run : run_from bytes (span_of f).to ≡ (fs, j) = found bytes d.rest (record { closes = λ _. s.rest.closes }) in
          let more = ap form_count e in
          let tail : StandOn bytes (span_of f).to (opens_before bytes (span_of f).to) (count - 1) =
          record {
            rest = record {
              forms = subst (λ r. AreForms bytes (span_of f).to r.1 r.0) (sym run) d.rest;
              ends = subst (λ r. r.1 < length bytes) (sym run) s.rest.ends;
              closes = subst (λ r. stands_at 41 bytes r.1 ≡ true) (sym run) s.rest.closes;
            };
            outside = outside_behind f d.stands;
            number = refl;
            many = omega (arith, s.many, ap (λ r. form_count r.0) run);
          } in
          record {
            forms = ap as_list e
                ∙ (ap (λ g. g ∷ as_list fs) same
                ∙ ap (λ gs. form_from bytes p ∷ as_list gs) (sym (ap (λ r. r.0) run) ∙ ap (λ g. (run_from bytes (span_of g).to).0) same));
            first = record {
              form = subst (StandsIn bytes) same d.stands;
              number = s.number ∙ sym (opens_between at p t.after (λ k a b. skipped_opens k (t.skipped k a b)));
            };
            rest = subst (λ g. StandOn bytes (span_of g).to (opens_before bytes (span_of g).to) (count - 1)) same tail;
          }

  pub on_within : (at list count : ℕ) → StandOn bytes at list count → at < length bytes
  on_within at list count s = omega (arith, node_counts-AreForms s.rest.forms, s.rest.ends)

  pub none_left : (at list count : ℕ) → StandOn bytes at list count → count ≡ 0 → forms_on bytes at ≡ []
  none_left at list count s e = by (run_from bytes at).0 refl
    where
      by : (fs : Forms) → (run_from bytes at).0 ≡ fs → forms_on bytes at ≡ []
      by NoForm h = ap as_list h
      by (MoreForms f fs) h = absurd (let n = ap form_count h in omega (arith, s.many))

  -- a list begins with a parenthesis
  list_opens : (b : Bool) (from : ℕ) → is_list (form_made b bytes from) ≡ b
  list_opens true from = refl
  list_opens false from = refl

  pub is_list-form_from : (from : ℕ) → is_list (form_from bytes from) ≡ (get_or bytes from 0 == 40)
  is_list-form_from from = list_opens (get_or bytes from 0 == 40) from

  pub from-form_from : (from : ℕ) → (span_of (form_from bytes from)).from ≡ from
  from-form_from from = by (get_or bytes from 0 == 40)
    where
      by : (b : Bool) → (span_of (form_made b bytes from)).from ≡ from
      by true = refl
      by false = refl

  word_made : (from : ℕ) → word_of bytes (form_made false bytes from) ≡ Some (word_ahead (drop from bytes))
  unfolding word_end
  word_made from =
      let size = prefix_len is_word_byte (drop from bytes) in
      let long : from + size - from ≡ size = omega arith in
      ap (λ n. Some (take n (drop from bytes))) long

  -- the word that begins at an offset stands in front of the bytes from there on
  pub word-form_from : (from : ℕ) → is_list (form_from bytes from) ≡ false
      → word_of bytes (form_from bytes from) ≡ Some (word_ahead (drop from bytes))
  word-form_from from w = ap (λ b. word_of bytes (form_made b bytes from)) (sym (is_list-form_from from) ∙ w) ∙ word_made from

  -- and its form is as long
  pub end-form_from : (from : ℕ) → is_list (form_from bytes from) ≡ false
      → (span_of (form_from bytes from)).to ≡ from + length (word_ahead (drop from bytes))
  unfolding word_end
  end-form_from from w =
      ap (λ b. (span_of (form_made b bytes from)).to) (sym (is_list-form_from from) ∙ w)
      ∙ ap (λ n. from + n) (sym (length-prefix_len is_word_byte (drop from bytes)))

  -- in a word no list opens
  pub opens_behind_word : (from : ℕ) → is_list (form_from bytes from) ≡ false → StandsIn bytes (form_from bytes from)
      → opens_before bytes (span_of (form_from bytes from)).to ≡ opens_before bytes from
  opens_behind_word from w s = by (get_or bytes from 0 == 40) (sym (is_list-form_from from) ∙ w) s
    where
      by : (b : Bool) → b ≡ false → StandsIn bytes (form_made b bytes from)
          → opens_before bytes (span_of (form_made b bytes from)).to ≡ opens_before bytes from
      by true e s = absurd (true≢false e)
      by false e s =
          opens_between from _ (omega (arith, s.some))
          (λ k a b. stands_at-other 40 bytes k (IsPlain-from_word_byte (get_or bytes k 0) (s.word k a b)).not_open)

  -- what the table has of the list that begins at an offset
  pub record HasList (from : ℕ) (list : ListNode) : Type 0 where
    pub end : list.to ≡ (span_of (form_from bytes from)).to
    pub behind : list.behind ≡ opens_before bytes (span_of (form_from bytes from)).to
    pub forms : elements_of (form_from bytes from) ≡ Some (forms_on bytes (from + 1))
    pub inside : StandOn bytes (from + 1) (opens_before bytes from + 1) list.count

  listed_here : (lists : List ListNode) (from close : ℕ) (fs : Forms) → AreListed bytes lists → IsListAt bytes from close fs
      → form_from bytes from ≡ ListForm from (suc close) fs → HasList from (list_at lists (opens_before bytes from))
  listed_here lists from close fs a h same =
      let entry = a.each from h.opens close fs h in
      let e : suc from ≡ from + 1 = omega arith in
      let run : run_from bytes (from + 1) ≡ (fs, close) =
      ap (run_from bytes) (sym e) ∙ found bytes h.forms (record { closes = λ _. h.closes }) in
      record {
        end = entry.to ∙ ap (λ f. (span_of f).to) (sym same);
        behind = entry.behind ∙ ap (λ f. opens_before bytes (span_of f).to) (sym same);
        forms = ap elements_of same ∙ ap (λ r. Some (as_list r.0)) (sym run);
        inside = record {
          rest = record {
            forms = subst (λ r. AreForms bytes (from + 1) r.1 r.0) (sym run) (subst (λ i. AreForms bytes i close fs) e h.forms);
            ends = subst (λ r. r.1 < length bytes) (sym run) h.ends;
            closes = subst (λ r. stands_at 41 bytes r.1 ≡ true) (sym run) h.closes;
          };
          outside = stands_at-outside 40 bytes from h.opens;
          number = sym (count_before-yes 40 bytes from h.opens);
          many = entry.count ∙ ap (λ r. form_count r.0) (sym run);
        };
      }

  pub has_list : (lists : List ListNode) (from : ℕ) → AreListed bytes lists → StandsIn bytes (form_from bytes from)
      → is_list (form_from bytes from) ≡ true → HasList from (list_at lists (opens_before bytes from))
  has_list lists from a s l =
      let b = sym (is_list-form_from from) ∙ l in
      let same = ap (λ b. form_made b bytes from) b in
      listed_here lists from _ _ a (subst (StandsIn bytes) same s) same

  -- the list that begins at an offset is in the table
  pub list_within : (lists : List ListNode) (from : ℕ) → AreListed bytes lists → StandsIn bytes (form_from bytes from)
      → is_list (form_from bytes from) ≡ true → opens_before bytes from < length lists
  list_within lists from a s l =
      let b = sym (is_list-form_from from) ∙ l in
      let h : IsListAt bytes from _ _ = subst (StandsIn bytes) (ap (λ b. form_made b bytes from) b) s in
      omega (arith, a.number, opens_apart from (length bytes) h.within h.opens)

  -- the entry that a node's number leads to
  pub has_entry : (lists : List ListNode) (n : FormNode) (l : ListNode) → AreListed bytes lists → Stands bytes n
      → is_list (form_from bytes n.from) ≡ true → l ≡ get_or lists n.list l → HasList n.from l
  has_entry lists n l a s is found =
      let inside = list_within lists n.from a s.form is in
      let same : l ≡ list_at lists n.list =
      found ∙ get_or_default lists n.list l (record { to = 0; count = 0; behind = 0 }) (omega (arith, s.number)) in
      subst (HasList n.from) (sym (same ∙ ap (list_at lists) s.number)) (has_list lists n.from a s.form is)

  -- the nodes of a text's forms
  pub length-nodes_of : (fs : Forms) → length (nodes_of bytes fs) ≡ form_count fs
  length-nodes_of NoForm = refl
  length-nodes_of (MoreForms f fs) = ap suc (length-nodes_of fs)

  pub record IsNodeAt (fs : Forms) (k : ℕ) (n : FormNode) : Type 0 where
    pub form : form_at fs k ≡ Some (form_from bytes n.from)
    pub stands : Stands bytes n

  pub node_at : (fs : Forms) (i j k : ℕ) (n : FormNode) → AreForms bytes i j fs → k < form_count fs → n ≡ get_or (nodes_of bytes fs) k n
      → IsNodeAt fs k n
  node_at fs i j k n d l is = by fs k (λ f. each_stands bytes k f d) l is
    where
      by : (gs : Forms) (m : ℕ) → ((f : Form) → form_at gs m ≡ Some f → StandsIn bytes f) → m < form_count gs
          → n ≡ get_or (nodes_of bytes gs) m n → IsNodeAt gs m n
      by NoForm m s l is = absurd (omega arith)
      by (MoreForms f gs) zero s l is =
          let stands = s f refl in
          let from : n.from ≡ (span_of f).from = ap (λ (x : FormNode). x.from) is in
          let same : f ≡ form_from bytes n.from = form_from_is bytes f stands ∙ ap (form_from bytes) (sym from) in
          record {
            form = ap Some same;
            stands = record {
              form = subst (StandsIn bytes) same stands;
              number = ap (λ (x : FormNode). x.list) is ∙ ap (opens_before bytes) (sym from);
            };
          }
      by (MoreForms f gs) (suc m) s l is =
          let r = by gs m s (omega arith) is in
          record { form = r.form; stands = r.stands }
