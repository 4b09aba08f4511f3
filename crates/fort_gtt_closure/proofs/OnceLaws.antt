-- The list of the passes has each pair once.
use Rattle.std.proofs.Common.{◌≡◌, ℕ, ◌<◌, List, take, sym, subst, arith, Some, inl, inr}
use Rattle.std.specs.Prelude.{slice_get}
use Rattle.std.proofs.lemmas.Bool.{cases_lt}
use Rattle.fort_theory.proofs.Lists.{Contains-map}
use Rattle.fort_transducers.specs.declared.agtt.Agtt.{Agtt}
use Rattle.fort_gtt_closure.specs.declared.entry.Entry.{Entry}
use Rattle.fort_gtt_closure.specs.Reasons.{IsListed}
use Rattle.fort_gtt_closure.specs.Passes.{IsListOfPasses, ListsEachOnce}
use Rattle.fort_gtt_closure.proofs.Places.{Contains-place, take-place}

module _ (agtt : Agtt) (es : List Entry) (list : IsListOfPasses agtt es) where
  not_before : (i j : ℕ) (d e : Entry) → slice_get es i ≡ Some d → slice_get es j ≡ Some e → d.p ≡ e.p → d.q ≡ e.q → i < j → ⊥
  not_before i j d e here there same_p same_q lt =
      let listed : IsListed (take j es) d.p d.q = Contains-map (λ (x : Entry). (x.p, x.q)) (take j es) d (Contains-place (take j es) i d (take-place es j i d lt here)) in
      (list.each j e there).due.unlisted (subst (λ x. IsListed (take j es) x e.q) same_p (subst (λ x. IsListed (take j es) d.p x) same_q listed))

  pub each-once : ListsEachOnce es
  each-once i j d e here there same_p same_q = elim (cases_lt i j) [
    | inl lt ↦ absurd (not_before i j d e here there same_p same_q lt)
    | inr le ↦ elim (cases_lt j i) [
      | inl lt ↦ absurd (not_before j i e d there here (sym same_p) (sym same_q) lt)
      | inr ge ↦ omega (arith, le, ge)
    ]
  ]
