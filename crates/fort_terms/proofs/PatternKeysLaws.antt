-- The program's order of patterns is the definitions', and a set in this order after a pattern is inserted.
use Rattle.std.specs.Prelude.{◌≡◌, ◌↔◌, ◌⊎◌, ℕ, ◌<◌, refl}
use Rattle.std.specs.declared.cmp.Ordering.{Ordering}
use Rattle.std.specs.declared.cmp.Ordering.TheVariants.{Less, Equal, Greater}
use Rattle.std.specs.Ordering.{nat_cmp, ordering_then}
use Rattle.std.proofs.Common.{inl, inr, arith}
use Rattle.std.proofs.lemmas.Bool.Decides.{nat_tests}
use Rattle.fort_theory.specs.Patterns.{Pattern, Patterns, Any, At, NoPattern, MorePatterns}
use Rattle.fort_theory.specs.PatternOrder.{PatternBefore, PatternsBefore}
use Rattle.fort_terms.specs.PatternKeys.{pattern_order, patterns_order}
use Rattle.fort_terms.specs.PatternKeyLaws.{pattern_order-Equal}

then_less : (o p : Ordering) → ordering_then o p ≡ Less ↔ ((o ≡ Less) ⊎ ((o ≡ Equal) × (p ≡ Less)))
then_less Less p = (λ e. inl refl, λ h. refl)
then_less Equal p = (λ e. inr (refl, e), λ h. elim h [ inl e ↦ cc | inr e ↦ e.1 ])
then_less Greater p = (λ e. cc, λ h. elim h [ inl e ↦ cc | inr e ↦ let d = e.0 in cc ])

below : (f g : ℕ) → nat_cmp f g ≡ Less ↔ (f < g)
below f g = (λ e. grind (arith, nat_tests), λ h. grind (arith, nat_tests))

same : (f g : ℕ) → nat_cmp f g ≡ Equal ↔ (f ≡ g)
same f g = (λ e. grind (arith, nat_tests), λ h. grind (arith, nat_tests))

mutual
  pub PatternBefore-less : (p q : Pattern) → pattern_order p q ≡ Less ↔ PatternBefore p q
  PatternBefore-less Any Any = (λ e. cc, λ h. absurd h)
  PatternBefore-less Any (At g qs) = (λ e. tt, λ h. refl)
  PatternBefore-less (At f ps) Any = (λ e. cc, λ h. absurd h)
  PatternBefore-less (At f ps) (At g qs) =
      let both = then_less (nat_cmp f g) (patterns_order ps qs) in
      let rest = PatternsBefore-less ps qs in (
        λ e. elim (both.0 e) [ inl l ↦ inl ((below f g).0 l) | inr s ↦ inr ((same f g).0 s.0, rest.0 s.1) ],
        λ h. both.1 (elim h [ inl l ↦ inl ((below f g).1 l) | inr s ↦ inr ((same f g).1 s.0, rest.1 s.1) ]),
      )

  PatternsBefore-less : (ps qs : Patterns) → patterns_order ps qs ≡ Less ↔ PatternsBefore ps qs
  PatternsBefore-less NoPattern NoPattern = (λ e. cc, λ h. absurd h)
  PatternsBefore-less NoPattern (MorePatterns q qs) = (λ e. tt, λ h. refl)
  PatternsBefore-less (MorePatterns p ps) NoPattern = (λ e. cc, λ h. absurd h)
  PatternsBefore-less (MorePatterns p ps) (MorePatterns q qs) =
      let both = then_less (pattern_order p q) (patterns_order ps qs) in
      let first = PatternBefore-less p q in
      let same_first = pattern_order-Equal p q in
      let rest = PatternsBefore-less ps qs in (
        λ e. elim (both.0 e) [ inl l ↦ inl (first.0 l) | inr s ↦ inr (same_first.0 s.0, rest.0 s.1) ],
        λ h. both.1 (elim h [ inl l ↦ inl (first.1 l) | inr s ↦ inr (same_first.1 s.0, rest.1 s.1) ]),
      )
