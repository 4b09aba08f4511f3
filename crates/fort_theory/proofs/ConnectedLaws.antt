-- Connected facts go along with facts that are the same, and don't fail only where they hold.
use Rattle.std.specs.Prelude.{◌↔◌}
use Rattle.fort_theory.specs.Logic.{Surely, Connective, And, Or, Iff, Connected}

pub Connected-along : (op : Connective) {P Q R S : Type 0} → P ↔ R → Q ↔ S → Connected op P Q → Connected op R S
Connected-along And k l h = (k.0 h.0, l.0 h.1)
Connected-along Or k l h = λ no_r no_s. h (λ p. no_r (k.0 p)) (λ q. no_s (l.0 q))
Connected-along Iff k l h = ((λ r. l.0 (h.0 (k.1 r))), (λ s. k.0 (h.1 (l.1 s))))

pub Connected-same : (op : Connective) {P Q R S : Type 0} → P ↔ R → Q ↔ S → Connected op P Q ↔ Connected op R S
Connected-same op k l = (Connected-along op k l, Connected-along op (k.1, k.0) (l.1, l.0))

pub Connected-stable : (op : Connective) {P Q : Type 0} → (Surely P → P) → (Surely Q → Q) → Surely (Connected op P Q) → Connected op P Q
Connected-stable And p q h = (p (λ no. h (λ k. no k.0)), q (λ no. h (λ k. no k.1)))
Connected-stable Or p q h = λ no_p no_q. h (λ k. k no_p no_q)
Connected-stable Iff p q h = ((λ yes. q (λ no. h (λ k. no (k.0 yes)))), (λ yes. p (λ no. h (λ k. no (k.1 yes)))))
