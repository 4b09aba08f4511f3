-- With the turned truths for its accepting states a table is its complement.
use Rattle.std.specs.Prelude.{◌≡◌, ℕ, zero, suc, ◌<◌, ◌≤◌, ◌==◌, List, length, get_or, Bool, false, not, if◌then◌else◌}
use Rattle.std.proofs.Common.{ap, sym, ◌∙◌, arith, ⊎_elim}
use Rattle.std.proofs.Math.Nat.{two-pow-succ, one-le-pow}
use Rattle.std.proofs.lemmas.Bool.{cases_lt}
use Rattle.std.proofs.lemmas.List.{get_or_past}
use Rattle.fort_tables.specs.Tables.{Listed, listed_table, full_presence}
use Rattle.fort_tables.proofs.EqualTests.{test_from_apart}
use Rattle.fort_lockstep.specs.OtherFinals.{with_finals}
use Rattle.fort_tables.specs.OperationTruth.{complemented}
use Rattle.fort_rrn_algebra.specs.Negations.{AreTurned}

some_full : (n : ℕ) → 0 < n → 0 ≡ full_presence n → ⊥
some_full zero l e = omega arith
some_full (suc m) l e = let double = two-pow-succ m in let one = one-le-pow m 2 (omega arith) in omega arith

-- behind the last state neither accepts
module _ (t : Listed) (finals : List Bool) (some : 0 < t.columns) (turned : AreTurned (listed_table t) finals) where
  each : (q : ℕ) → get_or finals q false ≡ (complemented (listed_table t)).accepting q
  each q =
      ⊎_elim
      (λ (l : q < length t.presences). turned.each q l)
      (λ (l : length t.presences ≤ q).
      let none : get_or finals q false ≡ false = get_or_past finals q false (omega (arith, turned.count)) in
      let absent : get_or t.presences q 0 ≡ 0 = get_or_past t.presences q 0 l in
      let other : (get_or t.presences q 0 == full_presence t.columns) ≡ false =
      ap (λ p. p == full_presence t.columns) absent ∙ test_from_apart 0 (full_presence t.columns) (some_full t.columns some) in
      none ∙ sym (ap (λ b. if b then not (get_or t.finals q false) else false) other))
      (cases_lt q (length t.presences))

  pub complemented-turned : listed_table (with_finals t finals) ≡ complemented (listed_table t)
  complemented-turned = λ i. record {
    signature = t.signature;
    columns = t.columns;
    presences = t.presences;
    target = (listed_table t).target;
    accepting = λ q. each q i;
  }
