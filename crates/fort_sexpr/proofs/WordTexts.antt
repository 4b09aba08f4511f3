-- When the word that bytes begin with is a text.
use Rattle.std.proofs.Common.{◌≡◌, ℕ, ◌+◌, ◌↔◌, ◌==◌, true, false, List, ◌++◌, length, take, drop, nat_eq, refl, sym, ap, ◌∙◌, arith}
use Rattle.std.proofs.lemmas.Bool.{true≢false, eqb-true, eq-eqb}
use Rattle.std.proofs.lemmas.Bool.Decides.{Decides-eqb}
use Rattle.std.proofs.lemmas.List.{length-take-le, take-append-drop}
use Rattle.std.proofs.Math.Seq.{take-append_seam}
use Rattle.std.proofs.lemmas.Slice.Eq.{starts_is}
use Rattle.std.specs.List.{starts_with, prefix_len}
use Rattle.fort_theory.specs.Signatures.{is_word_byte}
use Rattle.fort_sexpr.specs.FormView.{word_ahead}
use Rattle.fort_sexpr.specs.Found.{word_end}
use Rattle.fort_sexpr.specs.Progress.{IsWordEnd}
use Rattle.fort_sexpr.proofs.FoundLaws.{word_end_is}

module _ (bytes text : List ℕ) where
  -- bytes that don't begin with a text have no word in front that is the text
  pub not_ahead : false ≡ starts_with nat_eq bytes text → word_ahead bytes ≡ text → ⊥
  not_ahead other is =
      let size = prefix_len is_word_byte bytes in
      true≢false (sym ((starts_is Decides-eqb bytes text false other).1 (drop size bytes)
      (sym (take-append-drop size bytes) ∙ ap (λ xs. xs ++ drop size bytes) is)))

  word_ahead_is : (to : ℕ) → IsWordEnd bytes 0 to → word_ahead bytes ≡ take to bytes
  unfolding word_end
  word_ahead_is to e =
      let from_here : to ≡ 0 + prefix_len is_word_byte bytes = word_end_is bytes 0 to e in
      let long : prefix_len is_word_byte bytes ≡ to = omega (arith, from_here) in
      ap (λ n. take n bytes) long

  -- those that do have it there if the word is as long
  pub ahead_if_as_long : (to : ℕ) → IsWordEnd bytes 0 to → true ≡ starts_with nat_eq bytes text → ((to == length text) ≡ true) ↔ (word_ahead bytes ≡ text)
  ahead_if_as_long to e starts =
      let begins = (starts_is Decides-eqb bytes text true starts).0 refl in
      let is = word_ahead_is to e in (
        λ same. is ∙ (ap (λ n. take n bytes) (eqb-true to (length text) same) ∙ (ap (take (length text)) begins ∙ take-append_seam text (drop (length text) bytes))),
        λ h. eq-eqb to (length text) (sym (length-take-le to bytes e.within) ∙ ap (λ xs. length xs) (sym is ∙ h)),
      )
