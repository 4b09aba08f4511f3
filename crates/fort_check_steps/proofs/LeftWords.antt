-- What is left of a label, held against what is left of a list of words.
use Rattle.std.proofs.Common.{◌≡◌, ℕ, ◌≤◌, List, [], length, drop, ap, sym, subst, ◌∙◌, ◌↔◌, arith, length-drop}
use Rattle.std.proofs.Math.Seq.{drop-length}
use Rattle.fort_check_steps.specs.SparseWords.{places_from, words_of}

-- from this place on, a label's words that aren't zero are these, at these places
pub record HasWordsFrom (place : ℕ) (label places words : List ℕ) : Type 0 where
  pub places_are : places_from place label ≡ places
  pub words_are : words_of label ≡ words

-- nothing is left
pub none_left : (label ps ws : List ℕ) (k n : ℕ) → k ≡ length label → n ≤ length ws → length ps ≡ length ws → HasWordsFrom k (drop k label) (drop n ps) (drop n ws) ↔ (n ≡ length ws)
none_left label ps ws k n e l same =
    let all : drop k label ≡ [] = ap (λ i. drop i label) e ∙ drop-length label in
    let F : List ℕ → Type 0 = λ xs. HasWordsFrom k xs (drop n ps) (drop n ws) ↔ (n ≡ length ws) in
    subst F (sym all) (
      λ h. omega (arith, ap length h.words_are, length-drop n ws),
      λ i. record {
        places_are = sym (ap (λ m. drop m ps) (let m : n ≡ length ps = omega arith in m) ∙ drop-length ps);
        words_are = sym (ap (λ m. drop m ws) i ∙ drop-length ws);
      },
    )
