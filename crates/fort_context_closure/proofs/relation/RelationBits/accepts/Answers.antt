use Rattle.std.proofs.Common.{◌≡◌, ◌+◌, length, ap, sym, ◌∙◌, arith, map, refl, inl, inr}
use Rattle.fort_relations.specs.RelView.{as_rel}
use Rattle.fort_relations.specs.declared.relation.Rel.{Rel}
use Rattle.fort_alike.specs.Atoms.{EqKind, StepKind, BelowKind, ParKind, StarKind, PlusKind, kind_for}
use Rattle.fort_alike.specs.Alike.{Same, Steps, StepsBelow, StepsInParallel, Goes, GoesStrictly}
use Rattle.fort_label_bits.specs.RulePlaces.{pair_at}
use Rattle.fort_alike.specs.AtomRules.{accepts_by, bit_in}
use Rattle.fort_context_closure.specs.RelationView.{listed_seen, left_patterns, right_patterns}
use Rattle.fort_context_closure.proofs.NodeRowLaws.{accepts-root, accepts-fact}
use Rattle.fort_context_closure.proofs.relation.RelationBits.accepts.Goals as goal

pub returns-in-Root : goal.returns-in-Root
returns-in-Root c =
    let b = c.self.inside in
    let is = c.self.invariant in
    let base : c.len-right_base.result ≡ length (left_patterns b) = omega (arith, c.len-right_base.ensures, is.left_numbers.count) in
    let kind = ap (λ (r : Rel). kind_for (as_rel r)) c.in-Root.is in
    rw (← c.self.view_is)
    (c.some_rule.ensures ∙ (rw (c.deref.ensures.value, base)
    (accepts-root (listed_seen b) is.once b.rules.items c.args.label.now is.within)
    ∙ ap (accepts_by (λ m. bit_in (listed_seen b) m c.args.label.now) (map (pair_at (left_patterns b) (right_patterns b)) b.rules.items)) (sym kind)))

pub returns-in-Eq : goal.returns-in-Eq
returns-in-Eq c =
    let b = c.self.inside in
    let is = c.self.invariant in
    let base : c.len-right_base.result + c.len.result ≡ length (left_patterns b) + length (right_patterns b) =
    omega (arith, c.len-right_base.ensures, c.len.ensures, is.left_numbers.count, is.right_numbers.count) in
    rw (← c.self.view_is) (c.has_mark.ensures ∙ elim c.in-Eq.is [
      | inl e ↦ accepts-fact (listed_seen b) EqKind Same c.args.label.now _ (ap (λ (r : Rel). kind_for (as_rel r)) e) (omega (arith, base)) (λ bit pairs. refl)
      | inr m ↦ elim m [
        | inl e ↦ accepts-fact (listed_seen b) ParKind StepsInParallel c.args.label.now _ (ap (λ (r : Rel). kind_for (as_rel r)) e) (omega (arith, base)) (λ bit pairs. refl)
        | inr n ↦ elim n [
          | inl e ↦ accepts-fact (listed_seen b) StarKind Goes c.args.label.now _ (ap (λ (r : Rel). kind_for (as_rel r)) e) (omega (arith, base)) (λ bit pairs. refl)
          | inr e ↦ accepts-fact (listed_seen b) StarKind Goes c.args.label.now _ (ap (λ (r : Rel). kind_for (as_rel r)) e) (omega (arith, base)) (λ bit pairs. refl)
        ]
      ]
    ])

pub returns-in-Step : goal.returns-in-Step
returns-in-Step c =
    let b = c.self.inside in
    let is = c.self.invariant in
    let base : c.len-right_base.result + c.len.result ≡ length (left_patterns b) + length (right_patterns b) =
    omega (arith, c.len-right_base.ensures, c.len.ensures, is.left_numbers.count, is.right_numbers.count) in
    rw (← c.self.view_is)
    (c.has_mark-in-Step.ensures ∙ elim c.in-Step.is [
      | inl e ↦ accepts-fact (listed_seen b) StepKind Steps c.args.label.now _ (ap (λ (r : Rel). kind_for (as_rel r)) e) (omega (arith, base)) (λ bit pairs. refl)
      | inr e ↦ accepts-fact (listed_seen b) PlusKind GoesStrictly c.args.label.now _ (ap (λ (r : Rel). kind_for (as_rel r)) e) (omega (arith, base)) (λ bit pairs. refl)
    ])

pub returns-in-Below : goal.returns-in-Below
returns-in-Below c =
    let b = c.self.inside in
    let is = c.self.invariant in
    let base : c.len-right_base.result + c.len.result ≡ length (left_patterns b) + length (right_patterns b) =
    omega (arith, c.len-right_base.ensures, c.len.ensures, is.left_numbers.count, is.right_numbers.count) in
    rw (← c.self.view_is)
    (c.has_mark-in-Below.ensures ∙ accepts-fact (listed_seen b) BelowKind StepsBelow c.args.label.now _ (ap (λ (r : Rel). kind_for (as_rel r)) c.in-Below.is) (omega (arith, base)) (λ bit pairs. refl))
