-- What stands within some patterns: by the list of all that stand within them.
use Rattle.std.specs.Prelude.{◌↔◌, List, [], ◌∷◌, Contains}
use Rattle.std.specs.List.{flat_map}
use Rattle.std.proofs.Common.{subst, sym, inl, inr}
use Rattle.std.proofs.lemmas.List.Elements.{Contains-append_left, Contains-append_right, Contains-append_cases}
use Rattle.fort_theory.specs.Patterns.{Pattern}
use Rattle.fort_theory.specs.PatternOrder.{subpatterns, StandsWithin}
use Rattle.fort_theory.proofs.Members.{Contains-head, Contains-behind, Contains-cons_cases, Contains-none}

Contains-from_within : (tops : List Pattern) (top p : Pattern) → Contains tops top → Contains (subpatterns top) p → Contains (flat_map subpatterns tops) p
Contains-from_within [] top p among inside = absurd (Contains-none top among)
Contains-from_within (t ∷ tops) top p among inside =
    elim (Contains-cons_cases t tops top among) [
      | inl here ↦ Contains-append_left (subpatterns t) (flat_map subpatterns tops) p (subst (λ (q : Pattern). Contains (subpatterns q) p) (sym here) inside)
      | inr there ↦ Contains-append_right (subpatterns t) (flat_map subpatterns tops) p (Contains-from_within tops top p there inside)
    ]

within_from_Contains : (tops : List Pattern) (p : Pattern) → Contains (flat_map subpatterns tops) p → StandsWithin tops p
within_from_Contains [] p among = absurd (Contains-none p among)
within_from_Contains (t ∷ tops) p among =
    elim (Contains-append_cases (subpatterns t) (flat_map subpatterns tops) p among) [
      | inl here ↦ (t, Contains-head t tops, here)
      | inr there ↦ let h = within_from_Contains tops p there in (h.0, Contains-behind t tops h.0 h.1, h.2)
    ]

pub Contains-flat_map_subpatterns : (tops : List Pattern) (p : Pattern) → Contains (flat_map subpatterns tops) p ↔ StandsWithin tops p
Contains-flat_map_subpatterns tops p = (within_from_Contains tops p, λ h. Contains-from_within tops h.0 p h.1 h.2)
