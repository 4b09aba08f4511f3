-- The indices of an expression of the program that has two operands.
use Rattle.std.proofs.Common.{◌≡◌, ◌++◌, ◌⊎◌, inl, inr, refl}
use Rattle.fort_theory.specs.Expressions as theory
use Rattle.fort_theory.specs.Expressions.{root_indices}
use Rattle.fort_relations.specs.declared.rex.Rex.{Rex}
use Rattle.fort_relations.specs.declared.rex.Rex.TheVariants.{Union, Comp}
use Rattle.fort_relations.specs.RexView.{as_expression}

pub root_indices-two : (r : Rex) (a b : theory.Expression) → (r ≡ Union a b) ⊎ (r ≡ Comp a b)
    → root_indices (as_expression r) ≡ root_indices a ++ root_indices b
root_indices-two r a b (inl e) = rw e refl
root_indices-two r a b (inr e) = rw e refl
