-- States with one column alone present: where the own columns are absent, the terms of the column give exactly these.
use Rattle.std.proofs.Common.{◌≡◌, ◌↔◌, ℕ, ◌-◌, ◌^◌, ◌<◌, length, Some, get_or, ap, sym, ◌∙◌, arith, subst}
use Rattle.std.specs.List.{insert}
use Rattle.fort_theory.specs.Trees.{Tree}
use Rattle.fort_tables.specs.Tuples.{all_absent, presence, AreGroundColumns}
use Rattle.fort_tables.specs.Tables.{Table, IsTable, IsReached, state_of}
use Rattle.fort_tables.proofs.InsertLaws.{length-all_absent, AreGroundColumns-all_absent, presence-alone, alone_from_presence, ground_alone}
use Rattle.fort_tables.proofs.TableLaws.{table_state}
use Rattle.fort_tables.specs.Projections.{Gives}
use Rattle.fort_tables.proofs.CompletedTuples.{IsTuple-completed}

-- Result
pub gives_pure : (body : Table) (c : ℕ) → IsTable body → IsReached body → c < body.columns → (q : ℕ) → Gives body c (all_absent (body.columns - 1)) q ↔ ((q < length body.presences) × (get_or body.presences q 0 ≡ 2 ^ c))
gives_pure body c is reached low q =
    let n = body.columns - 1 in (
      (λ w.
          let s = table_state body is (insert (all_absent n) c (Some w.0)) (IsTuple-completed body c (all_absent n) w.0 low w.1 (length-all_absent Tree n) (AreGroundColumns-all_absent body.signature n)) in
          (subst (λ (k : ℕ). k < length body.presences) w.2 s.within, ap (λ k. get_or body.presences k 0) (sym w.2) ∙ (s.presence_is ∙ presence-alone c n w.0 (omega arith)))),
      (λ w.
          let r = reached q w.0 in
          let s = table_state body is r.0 r.1 in
          let p : presence r.0 ≡ 2 ^ c = sym s.presence_is ∙ (ap (λ k. get_or body.presences k 0) r.2 ∙ w.1) in
          let u = alone_from_presence c n r.0 (omega arith) (omega (arith, r.1.width)) p in
          (u.0, ground_alone body.signature c n u.0 (subst (AreGroundColumns body.signature) u.1 r.1.grounded), ap (state_of body) (sym u.1) ∙ r.2)),
    )
