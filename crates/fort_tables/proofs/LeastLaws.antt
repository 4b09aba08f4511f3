-- The least tuple of a relation: it isn't after any other, and there is one at most.
use Rattle.std.proofs.Common.{◌≡◌, ℕ, ⊎_elim, inl, inr}
use Rattle.fort_theory.specs.Signatures.{Signature}
use Rattle.fort_tables.specs.Tuples.{Tuple, IsTuple, IsFull}
use Rattle.fort_tables.specs.OperationTruth.{TupleRelation}
use Rattle.fort_tables.specs.TupleOrder.{NotAfter}
use Rattle.fort_tables.specs.LeastTuple.{IsLeast}
use Rattle.fort_tables.proofs.TupleOrderLaws.{tuple_total, not_after_none}

pub least_not_after : (sig : Signature) (n : ℕ) (R : TupleRelation) (t u : Tuple) → IsLeast sig n R t → IsTuple sig n u → IsFull u → R u → NotAfter t u
least_not_after sig n R t u h is full r =
    ⊎_elim (λ e. inl e) (λ b. ⊎_elim (λ c. inr c) (λ c. absurd (h.least u is full r c)) b) (tuple_total sig n t u h.tuple is)

-- Result: a relation has one least tuple at most
pub least_one : (sig : Signature) (n : ℕ) (R : TupleRelation) (t u : Tuple) → IsLeast sig n R t → IsLeast sig n R u → t ≡ u
least_one sig n R t u h k =
    ⊎_elim (λ e. e) (λ b. ⊎_elim (λ c. absurd (k.least t h.tuple h.full h.holds c)) (λ c. absurd (h.least u k.tuple k.full k.holds c)) b)
    (tuple_total sig n t u h.tuple k.tuple)

-- a tuple that isn't after any is the least
pub least_from : (sig : Signature) (n : ℕ) (R : TupleRelation) (t : Tuple) → IsTuple sig n t → IsFull t → R t → ((u : Tuple) → IsTuple sig n u → IsFull u → R u → NotAfter t u) → IsLeast sig n R t
least_from sig n R t is full r h = record { tuple = is; full = full; holds = r; least = λ u w f s b. not_after_none t u (h u w f s) b }
