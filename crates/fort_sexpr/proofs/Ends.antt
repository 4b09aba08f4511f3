-- Where reading begins, and how it ends: at a fault, in a list that is open, or with the forms of the text.
use Rattle.std.proofs.Common.{◌≡◌, ℕ, ◌<◌, ◌≤◌, false, List, [], ◌∷◌, length, get_or, refl, sym, ◌∙◌, subst, inl, inr, arith}
use Rattle.std.proofs.lemmas.Bool.{cases_lt}
use Rattle.fort_grammar.specs.Text.{depth, deepest, BadByte, ExtraClose, Unclosed, TooDeep, Bad, Extra, Deep, IsFirstFault, IsFaultlessBelow, First, Open}
use Rattle.fort_grammar.specs.Forms.{Forms, NoForm, End, AreFormsOf}
use Rattle.fort_sexpr.specs.declared.fault.SFault.{SFault}
use Rattle.fort_sexpr.specs.declared.fault.SFault.TheVariants as faults
use Rattle.fort_sexpr.specs.Faults.{IsFirstFaultOf}
use Rattle.fort_sexpr.specs.Progress.{comment_before, Level, IsReadUpTo}
use Rattle.fort_sexpr.specs.Tokens.{IsFaultOfByte}
use Rattle.fort_grammar.proofs.Bytes.{stands_at-from}
use Rattle.fort_sexpr.proofs.Steps.{not_in_comment, depth_of_levels}

module _ (bytes : List ℕ) where
  pub read_nothing : IsReadUpTo bytes [] NoForm 0
  read_nothing =
      record {
        within = omega arith;
        outside = λ _. refl;
        faultless = λ i fault h. absurd (omega arith);
        balanced = refl;
        shallow = omega arith;
        stand = End;
      }

  pub AreFormsOf-read : (fs : Forms) → IsReadUpTo bytes [] fs (length bytes) → AreFormsOf bytes fs
  AreFormsOf-read fs r =
      record {
        faultless = record { none = r.faultless; closed = depth_of_levels bytes [] fs (length bytes) r };
        stand = r.stand;
      }

  pub Unclosed-read : (level : Level) (levels : List Level) (fs : Forms) → IsReadUpTo bytes (level ∷ levels) fs (length bytes)
      → IsFirstFault bytes (Unclosed level.from)
  Unclosed-read level levels fs r =
      let o = r.stand.1 in
      let d = depth_of_levels bytes (level ∷ levels) fs (length bytes) r in
      Open level.from r.faultless
      (record { within = o.within; opens = o.opens; stays = λ k a b. let x = o.stays k a b in omega (arith, o.level) })
      (λ k s. elim (cases_lt level.from k) [
        | inl lt ↦ (let x = o.stays k lt (omega (arith, s.within)) in
            let y = s.stays (length bytes) s.within (omega arith) in absurd (omega arith))
        | inr ge ↦ ge
      ])

  -- a byte at fault behind a part without fault
  pub fault_here : (i height : ℕ) → i < length bytes → comment_before bytes i ≡ false → IsFaultlessBelow bytes i → depth bytes i ≡ height
      → height ≤ deepest → (fault : SFault) → IsFaultOfByte (get_or bytes i 0) i height fault → IsFirstFaultOf bytes fault
  fault_here i height l o below d few faults.Memory h = h
  fault_here i height l o below d few (faults.BadByte k) h =
      subst (λ n. IsFirstFault bytes (BadByte n)) (sym h.0) (First i (BadByte i) (Bad l (not_in_comment bytes i l o h.1) h.2) below)
  fault_here i height l o below d few (faults.ExtraClose k) h =
      let closes = stands_at-from 41 bytes i h.1 (not_in_comment bytes i l o (λ e. absurd (omega (arith, h.1)))) in
      subst (λ n. IsFirstFault bytes (ExtraClose n)) (sym h.0) (First i (ExtraClose i) (Extra l closes (d ∙ h.2)) below)
  fault_here i height l o below d few (faults.Unclosed k) h = absurd h
  fault_here i height l o below d few (faults.TooDeep k) h =
      let opens = stands_at-from 40 bytes i h.1 (not_in_comment bytes i l o (λ e. absurd (omega (arith, h.1)))) in
      subst (λ n. IsFirstFault bytes (TooDeep n)) (sym h.0) (First i (TooDeep i) (Deep l opens (omega (arith, d, h.2))) below)
