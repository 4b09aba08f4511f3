-- Two columns exchanged are an order of columns.
use Rattle.std.proofs.Common.{◌≡◌, ℕ, zero, suc, [], ◌∷◌, refl, sym, arith, subst}
use Rattle.fort_tables.specs.OperationTruth.{UndoesOrder, IsOrder}

exchanged : UndoesOrder (1 ∷ 0 ∷ []) (1 ∷ 0 ∷ [])
exchanged zero l = (omega arith, refl)
exchanged (suc zero) l = (omega arith, refl)
exchanged (suc (suc k)) l = absurd (omega arith)

pub order_exchanged : (columns : ℕ) → columns ≡ 2 → IsOrder columns (1 ∷ 0 ∷ [])
order_exchanged columns e = subst (λ (n : ℕ). IsOrder n (1 ∷ 0 ∷ [])) (sym e) (record {
  count = refl;
  back = 1 ∷ 0 ∷ [];
  back_count = refl;
  undoes = exchanged;
  redoes = exchanged;
})
