-- Four words are equal where their lists are.
use Rattle.std.proofs.Common.{◌≡◌, ℕ, [], ◌∷◌, get_or, Decides, ◌&&◌, ◌==◌, ap, sym}
use Rattle.std.proofs.lemmas.Bool.Decides.{Decides-eqb, Decides-and, Decides-like}
use Rattle.fort_explore.specs.declared.short_labels.Words.{Words}
use Rattle.fort_explore.specs.ShortLabels.{four_words}

pub Decides-four_words : (v w : Words) → Decides (v.first == w.first && (v.second == w.second && (v.third == w.third && v.fourth == w.fourth))) (four_words w ≡ four_words v)
Decides-four_words v w =
    Decides-like _
    (λ p. λ i. sym p.0 i ∷ sym p.1.0 i ∷ sym p.1.1.0 i ∷ sym p.1.1.1 i ∷ [])
    (λ e. let at : (k : ℕ) → get_or (four_words v) k 0 ≡ get_or (four_words w) k 0 = λ k. ap (λ ws. get_or ws k 0) (sym e) in (at 0, (at 1, (at 2, at 3))))
    (Decides-and _ _ (Decides-eqb v.first w.first) (Decides-and _ _ (Decides-eqb v.second w.second) (Decides-and _ _ (Decides-eqb v.third w.third) (Decides-eqb v.fourth w.fourth))))
