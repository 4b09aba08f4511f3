-- The first solutions of a formula up to a height are one answer, of a status that is YES's or NO's.
use Rattle.std.proofs.Common.{◌≡◌, ◌⊎◌, ℕ, ◌≤◌, Bool, List, [], ◌∷◌, ◌++◌, map, length, Some, refl, sym, ◌∙◌, subst, arith, inl, inr, ⊎_elim}
use Rattle.std.specs.Prelude.{All}
use Rattle.fort_theory.specs.Trees.{Tree}
use Rattle.fort_theory.specs.Signatures.{Signature, IsGround}
use Rattle.fort_theory.specs.Sides.{System}
use Rattle.fort_logic.specs.Formulas.{Formula}
use Rattle.fort_logic.specs.FreeNames.{free_names}
use Rattle.fort_tables.proofs.TupleOrderLaws.{tuple_irrefl, tuple_trans, tuple_total}
use Rattle.fort_tables.proofs.FirstLaws.{AreFirstInOrder-unique}
use Rattle.fort_answers.specs.Requests.{Text, Bounds}
use Rattle.fort_answers.specs.Lines.{negative}
use Rattle.fort_answers.specs.SystemAnswer.{Are}
use Rattle.fort_answers.specs.SolutionsAnswer.{SolutionsVerdict, status_of}
use Rattle.fort_answers.specs.SolutionTerms.{AreSolutionTerms, TermsBefore, count_line, solution_lines}
use Rattle.fort_answers.proofs.OneRequest.{Are-unique}
use Rattle.fort_answer_laws.proofs.TermTuples.{IsTuple-terms, terms-one, witnesses-count, witnesses-ground}

terms_asymmetric : (ts us : List Tree) → TermsBefore ts us → TermsBefore us ts → ⊥
terms_asymmetric ts us h k = tuple_irrefl (map Some ts) (tuple_trans (map Some ts) (map Some us) (map Some ts) h k)

-- without terms there is one list alone
terms_total : (sig : Signature) (ts us : List Tree) → length us ≡ length ts → All (IsGround sig) ts → All (IsGround sig) us
    → (ts ≡ us) ⊎ (TermsBefore ts us ⊎ TermsBefore us ts)
terms_total sig [] [] count all also = inl refl
terms_total sig [] (u ∷ us) count all also = absurd (omega arith)
terms_total sig (t ∷ ts) us count all also =
    let n = length (t ∷ ts) in
    ⊎_elim (λ e. inl (terms-one (t ∷ ts) us e)) (λ apart. inr apart)
    (tuple_total sig n (map Some (t ∷ ts)) (map Some us) (IsTuple-terms sig n (t ∷ ts) (omega arith) refl all) (IsTuple-terms sig n us (omega arith) count also))

status_low : (tss : List (List Tree)) → status_of tss ≤ negative
status_low [] = omega arith
status_low (ts ∷ tss) = omega arith

module _ (bounds : Bounds) (system : System) (terms : List Tree) (f : Formula) where
  abbrev Kind : List Tree → Type 0
  Kind ts = AreSolutionTerms system terms f bounds.height ts

  low_total : (ts us : List Tree) → Kind ts → Kind us → (ts ≡ us) ⊎ (TermsBefore ts us ⊎ TermsBefore us ts)
  low_total ts us one other =
      terms_total system.signature ts us (witnesses-count system terms f us other.are ∙ sym (witnesses-count system terms f ts one.are))
      (witnesses-ground system terms f ts one.are) (witnesses-ground system terms f us other.are)

  pub SolutionsVerdict-unique : (s s' : ℕ) (t t' : Text) → SolutionsVerdict bounds system terms f s t → SolutionsVerdict bounds system terms f s' t' → Are s t s' t'
  SolutionsVerdict-unique s s' t t' one other =
      let said : List (List Tree) → Bool → Text = λ tss more. count_line (length tss) more ++ solution_lines system.signature (free_names f) tss in
      let same =
      AreFirstInOrder-unique TermsBefore Kind bounds.most terms_asymmetric low_total other.solutions one.solutions other.more one.more other.first one.first in
      Are-unique (status_of one.solutions) (said one.solutions one.more) s s' t t' one.are
      (subst (λ more. Are s' t' (status_of one.solutions) (said one.solutions more)) same.1
      (subst (λ tss. Are s' t' (status_of tss) (said tss other.more)) same.0 other.are))

  pub SolutionsVerdict-low : (s : ℕ) (t : Text) → SolutionsVerdict bounds system terms f s t → s ≤ negative
  SolutionsVerdict-low s t says = omega (arith, says.are.same_status, status_low says.solutions)
