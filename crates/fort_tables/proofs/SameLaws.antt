-- Interchangeable tuples are so the other way round, and one after another.
use Rattle.std.proofs.Common.{ℕ, sym, ◌∙◌, subst}
use Rattle.fort_theory.specs.Signatures.{Signature}
use Rattle.fort_tables.specs.Tuples.{Tuple}
use Rattle.fort_tables.specs.Interchange.{IsPlace, Interchangeable}

pub Interchangeable-sym : (sig : Signature) (n : ℕ) (R : Tuple → Type 0) (t u : Tuple) → Interchangeable sig n R t u → Interchangeable sig n R u t
Interchangeable-sym sig n R t u h = record {
  same_columns = sym h.same_columns;
  same = λ w p place. let both = h.same w p (subst (λ k. IsPlace sig n k w p) (sym h.same_columns) place) in (both.1, both.0);
}

pub Interchangeable-trans : (sig : Signature) (n : ℕ) (R : Tuple → Type 0) (t u v : Tuple) → Interchangeable sig n R t u → Interchangeable sig n R u v → Interchangeable sig n R t v
Interchangeable-trans sig n R t u v h k = record {
  same_columns = h.same_columns ∙ k.same_columns;
  same = λ w p place.
      let one = h.same w p place in
      let other = k.same w p (subst (λ i. IsPlace sig n i w p) h.same_columns place) in
      ((λ x. other.0 (one.0 x)), (λ y. one.1 (other.1 y)));
}
