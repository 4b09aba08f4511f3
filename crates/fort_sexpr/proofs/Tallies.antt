-- The tally of a text, from one byte to the next.
use Rattle.std.proofs.Common.{◌≡◌, ℕ, zero, suc, ◌+◌, ◌-◌, ◌<◌, ◌≤◌, ◌⊎◌, Bool, true, false, not, ◌&&◌, ◌==◌, List, ◌++◌, length, reverse, get_or, refl, sym, ap, ◌∙◌, subst, inl, inr, arith, append_assoc, length-append}
use Rattle.std.specs.List.{after_last, list_any}
use Rattle.std.proofs.lemmas.List.{get_or_append_left, get_or-append-add, take-append-le, length-reverse}
use Rattle.std.proofs.lemmas.Bool.{eq-eqb, ne_eqb, cases_eq}
use Rattle.fort_theory.specs.Signatures.{is_word_byte}
use Rattle.fort_grammar.specs.Text.{in_comment, stands_at, count_before, is_blank, is_text_byte, deepest, TextFault, IsFaultyAt, Bad, Extra, Deep, IsFaultlessBelow}
use Rattle.fort_grammar.proofs.Bytes.{IsPlain-from_word_byte, is_blank-at, stands_at-from, stands_at-other}
use Rattle.fort_sexpr.specs.declared.ahead.Tally.{Tally}
use Rattle.fort_sexpr.specs.declared.fault.SFault.{SFault}
use Rattle.fort_sexpr.specs.declared.front.Front.{Front}
use Rattle.fort_sexpr.specs.Ahead.{IsTally, IsByteAt, IsPieceAt}
use Rattle.fort_sexpr.specs.Faults.{IsFirstFaultOf}
use Rattle.fort_sexpr.specs.Fronts.{IsRead}
use Rattle.fort_sexpr.specs.Nodes.{opens_before}
use Rattle.fort_sexpr.specs.Progress.{comment_before}
use Rattle.fort_sexpr.specs.Tokens.{IsFaultOfByte}
use Rattle.fort_sexpr.proofs.Comments.{comment_before-line_end, comment_before-mark, comment_before-goes_on, comment_before-none}
use Rattle.fort_sexpr.proofs.Depths.{count_before-yes, count_before-no}
use Rattle.fort_sexpr.proofs.Steps.{IsQuiet, quiet_faultless, quiet_skipped, quiet_word_byte, faultless_more, not_in_comment, open_fine, close_fine}
use Rattle.fort_sexpr.proofs.Ends.{fault_here}
use Rattle.fort_sexpr.proofs.ReadingLaws.{reading_levels}
use Rattle.fort_sexpr.proofs.NodesLaws.{opens_grow, opens_ordered}
use Rattle.fort_sexpr.proofs.Fronts.{whole, has_end}

module _ (text : List ℕ) (i byte : ℕ) (here : IsByteAt text i byte) (t : Tally) (tally : IsTally text i t) where
  -- over a byte that is neither a parenthesis nor at fault
  over_quiet : (b : Bool) → IsQuiet text i → comment_before text (i + 1) ≡ b → IsTally text (i + 1) (record { in_comment = b; height = t.height; lists = t.lists })
  over_quiet b q comment =
      let c40 = count_before-no 40 text i q.no_open in
      let c41 = count_before-no 41 text i q.no_close in
      record {
        within = omega (arith, here.within);
        faultless = faultless_more text i (i + 1) tally.faultless
            (λ k a c. let e : i ≡ k = omega arith in subst (λ m. (fault : TextFault) → IsFaultyAt text m fault → ⊥) e (quiet_faultless text i q));
        comment = comment;
        balanced = omega (arith, c40, c41, tally.balanced);
        shallow = tally.shallow;
        lists = omega (arith, c40, tally.lists);
      }

  pub over_comment : t.in_comment ≡ true → IsTally text (i + 1) (record { in_comment = not (byte == 10); height = t.height; lists = t.lists })
  over_comment on =
      elim (cases_eq byte 10) [
        | inl e ↦
            over_quiet (not (byte == 10)) (quiet_skipped text i (record { within = here.within; idle = inr (ap is_blank (here.is ∙ e)) }))
            (comment_before-line_end text i here.within (here.is ∙ e) ∙ sym (ap not (eq-eqb byte 10 e)))
        | inr n ↦
            let c = comment_before-goes_on text i here.within (λ e. n (sym here.is ∙ e)) (tally.comment ∙ on) in
            over_quiet (not (byte == 10)) (quiet_skipped text i (record { within = here.within; idle = inl c })) (c ∙ sym (ap not (ne_eqb byte 10 n)))
      ]

  module _ (off : t.in_comment ≡ false) where
    outside : comment_before text i ≡ false
    outside = tally.comment ∙ off

    pub over_plain : (is_blank byte ≡ true) ⊎ (is_word_byte byte ≡ true) → IsTally text (i + 1) t
    over_plain h = by h (λ q mark. subst (IsTally text (i + 1)) same (over_quiet false q (comment_before-none text i here.within (λ e. mark (sym here.is ∙ e)) outside)))
      where
        same : record { in_comment = false; height = t.height; lists = t.lists } ≡ t
        same = let made : Bool → Tally = λ b. record { in_comment = b; height = t.height; lists = t.lists } in ap made (sym off)

        by : (is_blank byte ≡ true) ⊎ (is_word_byte byte ≡ true) → (IsQuiet text i → (byte ≡ 59 → ⊥) → IsTally text (i + 1) t) → IsTally text (i + 1) t
        by (inl b) k = k (quiet_skipped text i (record { within = here.within; idle = inr (ap is_blank here.is ∙ b) })) (is_blank-at byte 59 b refl)
        by (inr w) k = k (quiet_word_byte text i (ap is_word_byte here.is ∙ w)) (IsPlain-from_word_byte byte w).not_mark

    pub over_mark : byte ≡ 59 → IsTally text (i + 1) (record { in_comment = true; height = t.height; lists = t.lists })
    over_mark h =
        let c = comment_before-mark text i here.within (here.is ∙ h) in
        over_quiet true (quiet_skipped text i (record { within = here.within; idle = inl c })) c

    pub over_open : byte ≡ 40 → t.height < deepest → IsTally text (i + 1) (record { in_comment = t.in_comment; height = t.height + 1; lists = t.lists + 1 })
    over_open h few =
        let b = here.is ∙ h in
        let o = not_in_comment text i here.within outside (λ e. absurd (omega arith)) in
        let opens = stands_at-from 40 text i b o in
        let no_close = stands_at-other 41 text i (λ e. absurd (omega arith)) in
        let c40 = count_before-yes 40 text i opens in
        let c41 = count_before-no 41 text i no_close in
        record {
          within = omega (arith, here.within);
          faultless = faultless_more text i (i + 1) tally.faultless
              (λ k a c. let e : i ≡ k = omega arith in
              subst (λ m. (fault : TextFault) → IsFaultyAt text m fault → ⊥) e (open_fine text i opens no_close (omega (arith, tally.balanced))));
          comment = o ∙ sym off;
          balanced = omega (arith, c40, c41, tally.balanced);
          shallow = omega arith;
          lists = omega (arith, c40, tally.lists);
        }

    pub over_close : byte ≡ 41 → 0 < t.height → IsTally text (i + 1) (record { in_comment = t.in_comment; height = t.height - 1; lists = t.lists })
    over_close h some =
        let b = here.is ∙ h in
        let o = not_in_comment text i here.within outside (λ e. absurd (omega arith)) in
        let closes = stands_at-from 41 text i b o in
        let no_open = stands_at-other 40 text i (λ e. absurd (omega arith)) in
        let c40 = count_before-no 40 text i no_open in
        let c41 = count_before-yes 41 text i closes in
        record {
          within = omega (arith, here.within);
          faultless = faultless_more text i (i + 1) tally.faultless
              (λ k a c. let e : i ≡ k = omega arith in
              subst (λ m. (fault : TextFault) → IsFaultyAt text m fault → ⊥) e (close_fine text i closes no_open (omega (arith, tally.balanced))));
          comment = o ∙ sym off;
          balanced = omega (arith, c40, c41, tally.balanced, some);
          shallow = omega (arith, tally.shallow);
          lists = omega (arith, c40, tally.lists);
        }

    pub over_fault : (fault : SFault) → IsFaultOfByte byte i t.height fault → IsFirstFaultOf text fault
    over_fault fault h =
        fault_here text i t.height here.within outside tally.faultless (omega (arith, tally.balanced)) tally.shallow fault
        (subst (λ b. IsFaultOfByte b i t.height fault) (sym here.is) h)

-- the tally of a text is that of each that begins with it
module _ (bytes more : List ℕ) where
  in_comment-front : (i : ℕ) → i < length bytes → in_comment (bytes ++ more) i ≡ in_comment bytes i
  in_comment-front i l = ap (λ xs. list_any (λ b. b == 59) (after_last (λ b. b == 10) xs)) (take-append-le (i + 1) bytes more (omega arith))

  stands_at-front : (c i : ℕ) → i < length bytes → stands_at c (bytes ++ more) i ≡ stands_at c bytes i
  stands_at-front c i l =
      ap (λ b. (b == c) && not (in_comment (bytes ++ more) i)) (get_or_append_left bytes more 0 i l)
      ∙ ap (λ t. (get_or bytes i 0 == c) && not t) (in_comment-front i l)

  count_before-front : (c i : ℕ) → i ≤ length bytes → count_before c (bytes ++ more) i ≡ count_before c bytes i
  count_before-front c zero l = refl
  count_before-front c (suc i) l =
      let e : suc i ≡ i + 1 = omega arith in
      let same = stands_at-front c i (omega arith) in
      let before = count_before-front c i (omega arith) in
      subst (λ k. count_before c (bytes ++ more) k ≡ count_before c bytes k) (sym e) (by (stands_at c bytes i) refl same before)
    where
      by : (b : Bool) → stands_at c bytes i ≡ b → stands_at c (bytes ++ more) i ≡ stands_at c bytes i
          → count_before c (bytes ++ more) i ≡ count_before c bytes i → count_before c (bytes ++ more) (i + 1) ≡ count_before c bytes (i + 1)
      by true h same before = omega (arith, count_before-yes c bytes i h, count_before-yes c (bytes ++ more) i (same ∙ h))
      by false h same before = omega (arith, count_before-no c bytes i h, count_before-no c (bytes ++ more) i (same ∙ h))

  faulty-front : (i : ℕ) (fault : TextFault) → i < length bytes → IsFaultyAt (bytes ++ more) i fault → IsFaultyAt bytes i fault
  faulty-front i fault l (Bad m o b) = Bad l (sym (in_comment-front i l) ∙ o) (ap is_text_byte (sym (get_or_append_left bytes more 0 i l)) ∙ b)
  faulty-front i fault l (Extra m s d) =
      Extra l (sym (stands_at-front 41 i l) ∙ s) (omega (arith, d, count_before-front 40 i (omega arith), count_before-front 41 i (omega arith)))
  faulty-front i fault l (Deep m s d) =
      Deep l (sym (stands_at-front 40 i l) ∙ s) (omega (arith, d, count_before-front 40 i (omega arith), count_before-front 41 i (omega arith)))

  pub faultless_front : IsFaultlessBelow bytes (length bytes) → IsFaultlessBelow (bytes ++ more) (length bytes)
  faultless_front h = λ i fault l f. h i fault l (faulty-front i fault l f)

  pub tally_front : (t : Tally) → IsTally bytes (length bytes) t → IsTally (bytes ++ more) (length bytes) t
  tally_front t tally =
      let c40 = count_before-front 40 (length bytes) (omega arith) in
      let c41 = count_before-front 41 (length bytes) (omega arith) in
      record {
        within = omega (arith, length-append bytes more);
        faultless = faultless_front tally.faultless;
        comment = ap (λ xs. list_any (λ b. b == 59) (after_last (λ b. b == 10) xs)) (take-append-le (length bytes) bytes more (omega arith)) ∙ tally.comment;
        balanced = omega (arith, c40, c41, tally.balanced);
        shallow = tally.shallow;
        lists = omega (arith, c40, tally.lists);
      }

-- a piece begins in the text, and this is the tally before it
pub record IsBegun (text next : List ℕ) (from : ℕ) (t : Tally) : Type 0 where
  pub piece : IsPieceAt text from next
  pub tally : IsTally text from t

-- the tally of what has come of a text
module _ (f : Front) (r : IsRead f) (t : Tally) (comment : t.in_comment ≡ comment_before f.bytes.items (length f.bytes.items))
    (height : t.height ≡ length f.walk.open.items) (lists : t.lists ≡ length f.walk.lists.items) where
  tally_here : IsTally f.bytes.items (length f.bytes.items) t
  tally_here =
      let bytes = f.bytes.items in
      let end = has_end bytes (reverse f.walk.open.items) f.walk.lists.items f.walk.count f.at r.read r.seen in
      let levels = reading_levels bytes _ _ _ (length bytes) end.read in
      record {
        within = omega arith;
        faultless = end.read.read.faultless;
        comment = sym comment;
        balanced = omega (arith, end.read.read.balanced, levels, height, length-reverse f.walk.open.items);
        shallow = omega (arith, end.read.read.shallow, levels, height, length-reverse f.walk.open.items);
        lists = omega (arith, end.read.number, end.number, lists);
      }

  pub piece_begun : (piece more : List ℕ) (from : ℕ) → from ≡ length f.bytes.items → IsBegun ((f.bytes.items ++ piece) ++ more) piece from t
  piece_begun piece more from e =
      let bytes = f.bytes.items in
      record {
        piece = λ k l. record {
          within = omega (arith, length-append bytes piece, length-append (bytes ++ piece) more);
          is = get_or_append_left (bytes ++ piece) more 0 (from + k) (omega (arith, length-append bytes piece))
              ∙ (ap (λ n. get_or (bytes ++ piece) (n + k) 0) e ∙ get_or-append-add bytes piece k 0);
        };
        tally = subst (λ n. IsTally ((bytes ++ piece) ++ more) n t) (sym e)
            (subst (λ text. IsTally text (length bytes) t) (sym (append_assoc bytes piece more)) (tally_front bytes (piece ++ more) t tally_here));
      }

  -- what a piece without fault comes to
  pub record IsLookedOver (piece : List ℕ) (end : Tally) : Type 0 where
    pub more : t.lists ≤ end.lists
    pub opened : opens_before (f.bytes.items ++ piece) (length (f.bytes.items ++ piece)) ≡ end.lists
    pub faultless : IsFaultlessBelow (f.bytes.items ++ piece) (length (f.bytes.items ++ piece))

  pub looked_over : (piece : List ℕ) (from : ℕ) (end : Tally) → from ≡ length f.bytes.items
      → ((text : List ℕ) → IsPieceAt text from piece → IsTally text from t → IsTally text (from + length piece) end) → IsLookedOver piece end
  looked_over piece from end e over =
      let text = f.bytes.items ++ piece in
      let begun = whole (λ xs. IsBegun xs piece from t) text (λ more. piece_begun piece more from e) in
      let size : from + length piece ≡ length text = omega (arith, length-append f.bytes.items piece) in
      let ended = subst (λ n. IsTally text n end) size (over text begun.piece begun.tally) in
      record {
        more = omega (arith, begun.tally.lists, ended.lists, opens_ordered text from (length text) (omega (arith, size)));
        opened = ended.lists;
        faultless = ended.faultless;
      }

-- no more lists open in a piece than it has bytes
pub opens_few : (f : Front) → IsRead f → (piece : List ℕ)
    → opens_before (f.bytes.items ++ piece) (length (f.bytes.items ++ piece)) ≤ length f.walk.lists.items + length piece
opens_few f r piece =
    let bytes = f.bytes.items in
    let text = bytes ++ piece in
    let t : Tally = record { in_comment = comment_before bytes (length bytes); height = length f.walk.open.items; lists = length f.walk.lists.items } in
    let tally = tally_front bytes piece t (tally_here f r t refl refl refl) in
    let size : length bytes + length piece ≡ length text = omega (arith, length-append bytes piece) in
    subst (λ n. opens_before text n ≤ length f.walk.lists.items + length piece) size
    (omega (arith, tally.lists, opens_grow text (length bytes) (length piece)))
