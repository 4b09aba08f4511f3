-- The next state that may stand as a child under a symbol in the column.
use Rattle.std.proofs.Common.{◌≡◌, ℕ, ◌<◌, ◌==◌, List, [], get_or, length, Option, None, Some, IfSome, Bool, true, sym, ◌∙◌, arith, ap}
use Rattle.std.proofs.lemmas.Bool.{eqb-true}
use Rattle.fort_tables.specs.Entries.{Entry}
use Rattle.fort_tables.specs.Tables.{Table, IsTable, IsReached}
use Rattle.fort_tables.specs.Projections.{absent_state}
use Rattle.fort_tables.specs.ManyEntries.{IsManyEntry}
use Rattle.fort_tables.proofs.ManyEntryLaws.{absent_state_small}
use Rattle.fort_projections.specs.Choices.{IsNext, IsNextChoice, may_choose}

pub next_choice : (body : Table) (c : ℕ) (labels : List (List ℕ)) (e : Entry) (most j from k : ℕ) (p : ℕ → Bool) → ((i : ℕ) → p i ≡ may_choose body c labels e most j i) → k < length body.presences → IsNext p from k → IsNextChoice body (may_choose body c labels e most j) from k
next_choice body c labels e most j from k p same l n = record {
  next = record { low = n.low; hit = sym (same k) ∙ n.hit; before = λ i a b. sym (same i) ∙ n.before i a b };
  within = l;
}

pub IfSome_both : {X : Type 0} (r : Option X) {P Q R : X → Type 0} → IfSome r P → IfSome r Q → ((x : X) → P x → Q x → R x) → IfSome r R
IfSome_both None p q f = tt
IfSome_both (Some x) p q f = f x p q

-- the state with the column absent is one of the body
pub absent_within : (body : Table) (c : ℕ) (many : ℕ → Bool) (labels : List (List ℕ)) (e : Entry) → IsTable body → IsReached body → IsManyEntry body c many labels e
    → (j k : ℕ) (w ks : List ℕ) → w ≡ get_or labels (get_or ks j 0) [] → ks ≡ e.kids → j < length e.kids → (absent_state w == k) ≡ true → k < length body.presences
absent_within body c many labels e is reached s j k w ks p q l h =
    let at : absent_state w ≡ absent_state (get_or labels (get_or e.kids j 0) []) = ap absent_state (p ∙ ap (λ (xs : List ℕ). get_or labels (get_or xs j 0) []) q) in
    omega (arith, absent_state_small body c many labels e is reached s j l, at, eqb-true (absent_state w) k h)
