-- The pure states of a table are one list.
use Rattle.std.proofs.Common.{◌≡◌, ℕ, List, get_or, ◌∙◌, subst}
use Rattle.std.specs.Prelude.{Contains}
use Rattle.std.proofs.lemmas.List.{get_or_default}
use Rattle.fort_tables.specs.Tables.{Table}
use Rattle.fort_tables.specs.Projections.{ArePure}
use Rattle.fort_tables.specs.PureStates.{IsPureState}
use Rattle.fort_tables.proofs.PureSearchLaws.{pure_from_test}
use Rattle.fort_tables.proofs.CountLaws.{pure_listed}
use Rattle.fort_alike.proofs.OneInOrder.{ascending_same}

pub pure_one : (body : Table) (c : ℕ) (xs ys : List ℕ) → ArePure body c xs → ArePure body c ys → xs ≡ ys
pure_one body c xs ys a b = ascending_same xs ys a.ascending b.ascending (λ z. (moved xs ys a b z, moved ys xs b a z))
  where
    moved : (us vs : List ℕ) → ArePure body c us → ArePure body c vs → (z : ℕ) → Contains us z → Contains vs z
    moved us vs h k z m =
        let at : get_or us m.0 0 ≡ z = get_or_default us m.0 0 z m.1 ∙ m.2 in
        let e = h.each m.0 m.1 in
        let is : IsPureState body c z = subst (IsPureState body c) at (pure_from_test body c (get_or us m.0 0) e.0 e.1) in
        pure_listed body c vs k z is
