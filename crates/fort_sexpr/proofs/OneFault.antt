-- A text has one first fault at most, and then it is not faultless.
use Rattle.std.proofs.Common.{◌≡◌, ℕ, ◌<◌, List, length, refl, sym, ap, ◌∙◌, subst, inl, inr, arith}
use Rattle.std.proofs.lemmas.Bool.{true≢false, cases_order}
use Rattle.fort_grammar.specs.Text.{TextFault, Unclosed, IsFaultyAt, Bad, Extra, Deep, IsFirstFault, First, Open, IsFaultless}
use Rattle.fort_grammar.proofs.Bytes.{is_text_byte-open, is_text_byte-close, stands_at-byte}

faulty_within : {bytes : List ℕ} {i : ℕ} {fault : TextFault} → IsFaultyAt bytes i fault → i < length bytes
faulty_within (Bad l o b) = l
faulty_within (Extra l s d) = l
faulty_within (Deep l s d) = l

module _ (bytes : List ℕ) (i : ℕ) where
  same_fault_at : {f g : TextFault} → IsFaultyAt bytes i f → IsFaultyAt bytes i g → f ≡ g
  same_fault_at (Bad l o b) (Bad l' o' b') = refl
  same_fault_at (Bad l o b) (Extra l' s d) = absurd (true≢false (sym (is_text_byte-close _ (stands_at-byte 41 bytes i s)) ∙ b))
  same_fault_at (Bad l o b) (Deep l' s d) = absurd (true≢false (sym (is_text_byte-open _ (stands_at-byte 40 bytes i s)) ∙ b))
  same_fault_at (Extra l s d) (Bad l' o b) = absurd (true≢false (sym (is_text_byte-close _ (stands_at-byte 41 bytes i s)) ∙ b))
  same_fault_at (Extra l s d) (Extra l' s' d') = refl
  same_fault_at (Extra l s d) (Deep l' s' d') = let x = stands_at-byte 41 bytes i s in let y = stands_at-byte 40 bytes i s' in absurd (omega arith)
  same_fault_at (Deep l s d) (Bad l' o b) = absurd (true≢false (sym (is_text_byte-open _ (stands_at-byte 40 bytes i s)) ∙ b))
  same_fault_at (Deep l s d) (Extra l' s' d') = let x = stands_at-byte 40 bytes i s in let y = stands_at-byte 41 bytes i s' in absurd (omega arith)
  same_fault_at (Deep l s d) (Deep l' s' d') = refl

pub same_first_fault : (bytes : List ℕ) (f g : TextFault) → IsFirstFault bytes f → IsFirstFault bytes g → f ≡ g
same_first_fault bytes f g (First i f' a below) (First j g' b below') =
    elim (cases_order i j) [
      | inl e ↦ same_fault_at bytes j (subst (λ n. IsFaultyAt bytes n f) e a) b
      | inr (inl l) ↦ absurd (below' i f l a)
      | inr (inr l) ↦ absurd (below j g l b)
    ]
same_first_fault bytes f g (First i f' a below) (Open j none stays last) = absurd (none i f (faulty_within a) a)
same_first_fault bytes f g (Open i none stays last) (First j g' b below) = absurd (none j g (faulty_within b) b)
same_first_fault bytes f g (Open i none stays last) (Open j none' stays' last') =
    ap Unclosed (let le = last' i stays in let ge = last j stays' in omega arith)

pub IsFaultless-no_first_fault : (bytes : List ℕ) (f : TextFault) → IsFirstFault bytes f → IsFaultless bytes → ⊥
IsFaultless-no_first_fault bytes f (First i f' a below) whole = whole.none i f (faulty_within a) a
IsFaultless-no_first_fault bytes f (Open i none stays last) whole =
    let deeper = stays.stays (length bytes) stays.within (omega arith) in
    omega (arith, whole.closed)
