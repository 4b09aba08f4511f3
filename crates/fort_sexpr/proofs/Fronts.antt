-- What holds of the bytes that have come holds of each text that begins with them.
use Rattle.std.proofs.Common.{◌≡◌, ℕ, ◌+◌, ◌-◌, ◌<◌, ◌≤◌, Bool, true, false, ◌==◌, List, [], ◌∷◌, ◌++◌, length, take, get_or, refl, sym, ap, ◌∙◌, subst, inl, inr, arith, append-nil, length-append, Option, Some, None, IfSome}
use Rattle.std.specs.List.{after_last, list_any}
use Rattle.std.proofs.lemmas.Bool.{true≢false, eq-eqb, ne_eqb, cases_lt}
use Rattle.std.proofs.lemmas.List.{get_or_append_left, take-append-le}
use Rattle.fort_theory.specs.Signatures.{is_word_byte}
use Rattle.fort_grammar.specs.Text.{is_blank, IsFaultlessBelow}
use Rattle.fort_sexpr.specs.declared.arena.FormNode.{FormNode}
use Rattle.fort_sexpr.specs.declared.arena.ListNode.{ListNode}
use Rattle.fort_sexpr.specs.declared.fault.SFault.{SFault}
use Rattle.fort_sexpr.specs.declared.fault.SFault.TheVariants as faults
use Rattle.fort_sexpr.specs.declared.token.Token.{Token}
use Rattle.fort_sexpr.specs.Faults.{IsFirstFaultUnlessMemory, IsFirstFaultOf, IsFaultOfFront, IsFaultOfFrontUnlessMemory}
use Rattle.fort_sexpr.specs.Progress.{comment_before, IsBehindLine, GoesOn, IsWordEnd, IsLineEnd}
use Rattle.fort_sexpr.specs.Tokens.{IsToken, IsFaultOfByte, IsOfByte}
use Rattle.fort_sexpr.specs.Reading.{IsReading, lists_with, count_with}
use Rattle.fort_sexpr.specs.Nodes.{opens_before}
use Rattle.fort_grammar.proofs.Bytes.{IsPlain-from_word_byte, stands_at-from}
use Rattle.fort_sexpr.proofs.NodesLaws.{opens_apart}
use Rattle.fort_sexpr.proofs.Steps.{not_in_comment, depth_of_levels, comment_stays, word_outside}
use Rattle.fort_sexpr.proofs.Ends.{fault_here}
use Rattle.fort_sexpr.proofs.ReadingLaws.{length-lists_with, reading_few, reading_levels, reading_comment, reading_word, faultless_token}

-- all of a text, as a front of it
pub whole : (P : List ℕ → Type 0) (bytes : List ℕ) → ((more : List ℕ) → P (bytes ++ more)) → P bytes
whole P bytes h = subst P (append-nil bytes) (h [])

-- the first fault of each text that begins so, which a byte brings
pub fault_of_front : (bytes : List ℕ) (fault : SFault) → IsOfByte fault → ((more : List ℕ) → IsFirstFaultOf (bytes ++ more) fault) → IsFaultOfFront bytes fault
fault_of_front bytes faults.Memory h each = h
fault_of_front bytes (faults.BadByte k) h each = each
fault_of_front bytes (faults.ExtraClose k) h each = each
fault_of_front bytes (faults.Unclosed k) h each = h
fault_of_front bytes (faults.TooDeep k) h each = each

pub byte_brings : (byte at height : ℕ) (fault : SFault) → IsFaultOfByte byte at height fault → IsOfByte fault
byte_brings byte at height faults.Memory h = h
byte_brings byte at height (faults.BadByte k) h = tt
byte_brings byte at height (faults.ExtraClose k) h = tt
byte_brings byte at height (faults.Unclosed k) h = h
byte_brings byte at height (faults.TooDeep k) h = tt

-- a fault of a front is that of all
pub fault_of_all : (front rest text : List ℕ) (fault : SFault) → text ≡ front ++ rest → IsFaultOfFrontUnlessMemory front fault
    → IsFirstFaultUnlessMemory text fault
fault_of_all front rest text fault e h = subst (λ xs. IsFirstFaultUnlessMemory xs fault) (sym e) (by fault h)
  where
    by : (f : SFault) → IsFaultOfFrontUnlessMemory front f → IsFirstFaultUnlessMemory (front ++ rest) f
    by faults.Memory h = tt
    by (faults.BadByte i) h = h rest
    by (faults.ExtraClose i) h = h rest
    by (faults.Unclosed i) h = absurd h
    by (faults.TooDeep i) h = h rest

module _ (bytes : List ℕ) where
  pub front_byte : (more : List ℕ) (i b : ℕ) → i < length bytes → get_or bytes i 0 ≡ b → get_or (bytes ++ more) i 0 ≡ b
  front_byte more i b l h = get_or_append_left bytes more 0 i l ∙ h

  pub front_word : (more : List ℕ) (i : ℕ) (b : Bool) → i < length bytes → is_word_byte (get_or bytes i 0) ≡ b → is_word_byte (get_or (bytes ++ more) i 0) ≡ b
  front_word more i b l h = ap is_word_byte (get_or_append_left bytes more 0 i l) ∙ h

  pub front_blank : (more : List ℕ) (i : ℕ) → i < length bytes → is_blank (get_or bytes i 0) ≡ true → is_blank (get_or (bytes ++ more) i 0) ≡ true
  front_blank more i l h = ap is_blank (get_or_append_left bytes more 0 i l) ∙ h

  front_within : (more : List ℕ) (i : ℕ) → i ≤ length bytes → i ≤ length (bytes ++ more)
  front_within more i l = omega (arith, l, length-append bytes more)

  pub front_below : (more : List ℕ) (i : ℕ) → i < length bytes → i < length (bytes ++ more)
  front_below more i l = omega (arith, l, length-append bytes more)

  -- nothing has begun yet that goes on
  pub goes_nowhere : (at : ℕ) → at ≤ length bytes → GoesOn bytes at at
  goes_nowhere at l = record {
    after = omega arith;
    within = l;
    begins = λ h. absurd (omega arith);
    word = λ w k a b. absurd (omega arith);
    comment = λ c k a b e. omega arith;
  }

  module _ (at seen : ℕ) (g : GoesOn bytes at seen) where
    -- a word and a comment that end
    pub word_ends : (more : List ℕ) (to : ℕ) → is_word_byte (get_or bytes at 0) ≡ true → IsWordEnd bytes seen to → to < length bytes → IsWordEnd (bytes ++ more) at to
    word_ends more to w e l = record {
      after = omega (arith, g.after, e.after);
      within = front_within more to e.within;
      word = λ k a b. ap is_word_byte (get_or_append_left bytes more 0 k (omega arith)) ∙ elim (cases_lt k seen) [
        | inl lt ↦ g.word w k a lt
        | inr ge ↦ e.word k ge b
      ];
      ended = λ _. ap is_word_byte (get_or_append_left bytes more 0 to l) ∙ e.ended l;
    }

    pub line_ends : (more : List ℕ) (to : ℕ) → at < length bytes → get_or bytes at 0 ≡ 59 → IsBehindLine bytes seen to → IsLineEnd (bytes ++ more) at to
    line_ends more to l c e = record {
      after = omega (arith, g.after, e.after);
      within = front_within more to e.within;
      line = λ k a b n. let m = sym (get_or_append_left bytes more 0 k (omega (arith, e.within))) ∙ n in elim (cases_lt k seen) [
        | inl lt ↦ g.comment c k a lt m
        | inr ge ↦ e.line k ge b m
      ];
      ended = λ _ k is. get_or_append_left bytes more 0 k (omega (arith, e.within)) ∙ e.ended k is;
    }

  module _ (at : ℕ) (g : GoesOn bytes at (length bytes)) where
    pub word_to_end : is_word_byte (get_or bytes at 0) ≡ true → IsWordEnd bytes at (length bytes)
    word_to_end w = record {
      after = g.after;
      within = omega arith;
      word = g.word w;
      ended = λ h. absurd (omega arith);
    }

    pub line_to_end : at < length bytes → get_or bytes at 0 ≡ 59 → IsLineEnd bytes at (length bytes)
    line_to_end l c = record {
      after = l;
      within = omega arith;
      line = λ k a b. g.comment c k a (omega arith);
      ended = λ h. absurd (omega arith);
    }

  module _ (os : List FormNode) (lists : List ListNode) (count : ℕ) (i : ℕ) (r : (more : List ℕ) → IsReading (bytes ++ more) os lists count i) where
    pub front_few : length lists ≤ i
    front_few = reading_few (bytes ++ []) os lists count i (r [])

    pub front_reading : IsReading bytes os lists count i
    front_reading = whole (λ b. IsReading b os lists count i) bytes r

    pub front_faultless : i < length bytes → (token : Token) → IsToken (get_or bytes i 0) (length os) token → IsFaultlessBelow bytes (i + 1)
    front_faultless l token h = faultless_token bytes os lists count i front_reading l token h

    -- where the byte is at fault, so is the front
    pub front_fault : (height : ℕ) → i < length bytes → height ≡ length os → (fault : SFault) → IsFaultOfByte (get_or bytes i 0) i height fault
        → IsFaultOfFront bytes fault
    front_fault height l e fault h = fault_of_front bytes fault (byte_brings (get_or bytes i 0) i height fault h) each
      where
        each : (more : List ℕ) → IsFirstFaultOf (bytes ++ more) fault
        each more =
            let within = front_below more i l in
            let read = (r more).read in
            let levels = reading_levels (bytes ++ more) os lists count i (r more) in
            fault_here (bytes ++ more) i height within (read.outside within) read.faultless
            (depth_of_levels (bytes ++ more) _ _ i read ∙ (levels ∙ sym e)) (omega (arith, read.shallow, levels)) fault
            (subst (λ b. IsFaultOfByte b i height fault) (sym (get_or_append_left bytes more 0 i l)) h)

    -- where a list opens, so many are not yet in the table
    pub front_opens : i < length bytes → get_or bytes i 0 ≡ 40 → length lists < opens_before bytes (length bytes)
    front_opens l h =
        let r = front_reading in
        let outside = not_in_comment bytes i l (r.read.outside l) (omega arith) in
        omega (arith, r.number, opens_apart bytes i (length bytes) l (stands_at-from 40 bytes i h outside))

    -- a comment ends with its line
    pub front_comment : (seen : ℕ) → GoesOn bytes i seen → i < length bytes → get_or bytes i 0 ≡ 59 → (next : Option ℕ)
        → IfSome next (IsBehindLine bytes seen) → IfSome next (λ to. (more : List ℕ) → IsReading (bytes ++ more) os lists count to)
    front_comment seen g l c None h = tt
    front_comment seen g l c (Some to) h = λ more.
        reading_comment (bytes ++ more) os lists count i to (r more) (front_byte more i 59 l c) (line_ends i seen g more to l c h)

    -- the end of the bytes, up to which goes what begins at the offset
    pub record HasEnd : Type 0 where
      pub lists_there : List ListNode
      pub count_there : ℕ
      pub read : IsReading bytes os lists_there count_there (length bytes)
      pub number : length lists_there ≡ length lists

    pub has_end : GoesOn bytes i (length bytes) → HasEnd
    has_end g =
        elim (cases_lt i (length bytes)) [
          | inl lt ↦ elim (g.begins lt) [
            | inl w ↦ record {
              lists_there = lists_with os lists;
              count_there = count_with os count;
              read = reading_word bytes os lists count i (length bytes) front_reading lt w (word_to_end i g w);
              number = length-lists_with bytes os lists;
            }
            | inr c ↦ record {
              lists_there = lists;
              count_there = count;
              read = reading_comment bytes os lists count i (length bytes) front_reading c (line_to_end i g lt c);
              number = refl;
            }
          ]
          | inr ge ↦ (let e : i ≡ length bytes = omega (arith, g.after) in
              record { lists_there = lists; count_there = count; read = subst (IsReading bytes os lists count) e front_reading; number = refl })
        ]

    -- where no word goes on
    pub end_no_word : GoesOn bytes i (length bytes) → (i < length bytes → is_word_byte (get_or bytes i 0) ≡ false) → IsReading bytes os lists count (length bytes)
    end_no_word g none =
        elim (cases_lt i (length bytes)) [
          | inl lt ↦ elim (g.begins lt) [
            | inl w ↦ absurd (true≢false (sym w ∙ none lt))
            | inr c ↦ reading_comment bytes os lists count i (length bytes) front_reading c (line_to_end i g lt c)
          ]
          | inr ge ↦ (let e : i ≡ length bytes = omega (arith, g.after) in subst (IsReading bytes os lists count) e front_reading)
        ]

    pub end_faultless : GoesOn bytes i (length bytes) → IsFaultlessBelow bytes (length bytes)
    end_faultless g = (has_end g).read.read.faultless

    -- whether a comment goes on there
    pub end_comment : GoesOn bytes i (length bytes) → i < length bytes → comment_before bytes (length bytes) ≡ (get_or bytes i 0 == 59)
    end_comment g l =
        elim (g.begins l) [
          | inl w ↦
              let e : i + (length bytes - i) ≡ length bytes = omega arith in
              let n = (IsPlain-from_word_byte (get_or bytes i 0) w).not_mark in
              subst (λ k. comment_before bytes k ≡ false) e
              (word_outside bytes i (length bytes - i) (length bytes) (word_to_end i g w) (front_reading.read.outside l) (omega arith))
              ∙ sym (ne_eqb (get_or bytes i 0) 59 n)
          | inr c ↦
              let e : i + (length bytes - i - 1) + 1 ≡ length bytes = omega arith in
              subst (λ k. comment_before bytes k ≡ true) e
              (comment_stays bytes i (length bytes - i - 1) (λ k a b. g.comment c k a (omega arith)) (omega arith) c)
              ∙ sym (eq-eqb (get_or bytes i 0) 59 c)
        ]

    pub end_no_comment : i ≡ length bytes → comment_before bytes (length bytes) ≡ false
    end_no_comment e =
        let text = bytes ++ 0 ∷ [] in
        let same : take i text ≡ take i bytes = take-append-le i bytes (0 ∷ []) (omega arith) in
        subst (λ k. comment_before bytes k ≡ false) e
        (ap (λ xs. list_any (λ b. b == 59) (after_last (λ b. b == 10) xs)) (sym same) ∙ (r (0 ∷ [])).read.outside (omega (arith, length-append bytes (0 ∷ []))))

  pub fault_unless_memory : (fault : SFault) → IsFaultOfFront bytes fault → IsFaultOfFrontUnlessMemory bytes fault
  fault_unless_memory faults.Memory h = tt
  fault_unless_memory (faults.BadByte i) h = h
  fault_unless_memory (faults.ExtraClose i) h = h
  fault_unless_memory (faults.Unclosed i) h = h
  fault_unless_memory (faults.TooDeep i) h = h
