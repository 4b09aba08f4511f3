-- Lemmas on what a sink took, one write after another.
use Rattle.std.proofs.Common.{◌≡◌, ℕ, List, [], ◌++◌, length, Option, Some, None, refl, sym, ap, ◌∙◌, append_assoc, append-nil, take, drop, take-append-drop, subst, ◌-◌, arith}
use Rattle.std.proofs.lemmas.Slice.{between_to_end}
use Rattle.fort_io.specs.Devices.{Takes}

pub Takes-nil : (a : Option (List ℕ)) → Takes a a []
Takes-nil None = tt
Takes-nil (Some xs) = sym (append-nil xs)

pub Takes-trans : (a b c : Option (List ℕ)) (front back : List ℕ) → Takes a b front → Takes b c back → Takes a c (front ++ back)
Takes-trans a b None front back p q = tt
Takes-trans None None (Some zs) front back p q = absurd q
Takes-trans None (Some ys) (Some zs) front back p q = absurd p
Takes-trans (Some xs) None (Some zs) front back p q = absurd q
Takes-trans (Some xs) (Some ys) (Some zs) front back p q = q ∙ ap (λ l. l ++ back) p ∙ append_assoc xs front back

-- from old to new the sink took a front of bytes, and rest is what follows it
pub record TakesFront (old new : Option (List ℕ)) (bytes rest : List ℕ) : Type 0 where
  pub front : List ℕ
  pub split : bytes ≡ front ++ rest
  pub taken : Takes old new front

-- one more write, of the first n bytes of what is left
pub TakesFront-more : (a b c : Option (List ℕ)) (bytes rest : List ℕ) (n m : ℕ) → TakesFront a b bytes rest → Takes b c (take n rest) → m ≡ length rest → TakesFront a c bytes (take (m - n) (drop n rest))
TakesFront-more a b c bytes rest n m f t size = record {
  front = f.front ++ take n rest;
  split = f.split ∙ ap (λ l. f.front ++ l) (sym (take-append-drop n rest)) ∙ sym (append_assoc f.front (take n rest) (drop n rest)) ∙ ap (λ l. (f.front ++ take n rest) ++ l) (sym (between_to_end rest n m (omega arith)));
  taken = Takes-trans a b c f.front (take n rest) f.taken t;
}
