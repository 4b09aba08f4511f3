-- The answer's fields are those of the search; small facts of its loop.
use Rattle.std.proofs.Common.{◌≡◌, ℕ, List, [], ◌∷◌, length, refl, sym, arith, subst}
use Rattle.std.specs.Prelude.{Bool}
use Rattle.fort_tables.specs.Entries.{Entry, no_entry}
use Rattle.fort_tables.specs.Tables.{Table}
use Rattle.fort_witness.specs.declared.head.Head.{Head}
use Rattle.fort_witness.specs.Answers.{AreSolutions}

pub no_head : Head
no_head = record { row = no_entry 0; state = 0 }

pub none_empty : (heads : List Head) → length heads ≡ 0 → heads ≡ []
none_empty [] e = refl
none_empty (x ∷ heads) e = absurd (omega arith)

pub solutions_at : (t : Table) (height most : ℕ) (dag dag' : List Entry) (acc acc' : List ℕ) (b b' : Bool) → dag' ≡ dag
    → acc' ≡ acc → b' ≡ b → AreSolutions t height most dag acc b → AreSolutions t height most dag' acc' b'
solutions_at t height most dag dag' acc acc' b b' e f g h =
    subst (λ (xs : List Entry). AreSolutions t height most xs acc' b') (sym e) (subst (λ (ks : List ℕ). AreSolutions t height most dag ks b') (sym f) (subst (AreSolutions t height most dag acc) (sym g) h))
