-- What compiling asks of an expression holds of its operands too, which have fewer nodes.
use Rattle.std.proofs.Common.{◌≡◌, ◌⊎◌, ℕ, suc, ◌+◌, ◌<◌, ◌≤◌, ◌++◌, length, arith, ap, sym, subst, inl, inr}
use Rattle.std.specs.Prelude.{Contains, refl}
use Rattle.std.proofs.lemmas.List.{length-append}
use Rattle.std.proofs.lemmas.List.Elements.{Contains-append_left, Contains-append_right}
use Rattle.fort_theory.specs.Sides.{IsIndexOf}
use Rattle.fort_theory.specs.Patterns.{PatternSystem}
use Rattle.fort_theory.specs.Expressions.{Expression, RootSteps, Inverse, Union, Composition, Closure, root_indices}
use Rattle.fort_relations.specs.RexView.{node_count}
use Rattle.fort_relation_exprs.specs.CompiledWithin.{CanCompile}

abbrev IsOne : Expression → Expression → Type 0
IsOne e inner = (e ≡ Inverse inner) ⊎ (e ≡ Closure inner)

abbrev IsTwo : Expression → Expression → Expression → Type 0
IsTwo e a b = (e ≡ Union a b) ⊎ (e ≡ Composition a b)

one-roots : (e inner : Expression) → IsOne e inner → root_indices e ≡ root_indices inner
one-roots e inner (inl is) = ap root_indices is
one-roots e inner (inr is) = ap root_indices is

one-nodes : (e inner : Expression) → IsOne e inner → node_count e ≡ suc (node_count inner)
one-nodes e inner (inl is) = ap node_count is
one-nodes e inner (inr is) = ap node_count is

two-roots : (e a b : Expression) → IsTwo e a b → root_indices e ≡ root_indices a ++ root_indices b
two-roots e a b (inl is) = ap root_indices is
two-roots e a b (inr is) = ap root_indices is

two-nodes : (e a b : Expression) → IsTwo e a b → node_count e ≡ suc (node_count a + node_count b)
two-nodes e a b (inl is) = ap node_count is
two-nodes e a b (inr is) = ap node_count is

module _ (system : PatternSystem) where
  pub root_index : (index : ℕ) → CanCompile system (RootSteps index) → IsIndexOf system.rules index
  root_index index can = can.over.indices index (0, omega arith, refl)

  -- the indices of the operand are among those of the expression
  CanCompile-among : (e part : Expression) → ((index : ℕ) → Contains (root_indices part) index → Contains (root_indices e) index)
      → length (root_indices part) ≤ length (root_indices e) → CanCompile system e → CanCompile system part
  CanCompile-among e part among fewer can = record {
    lawful = can.lawful;
    over = record {
      indices = λ index c. can.over.indices index (among index c);
      few = λ index c. can.over.few index (among index c);
    };
    narrow = λ many. can.narrow (omega (arith, many, fewer));
  }

  -- each by an expression that is the operand
  abbrev CanRecurse : Expression → Expression → Type 0
  CanRecurse e part = (node_count part < node_count e) × CanCompile system part

  pub only_operand : (e inner part : Expression) → IsOne e inner → part ≡ inner → CanCompile system e → CanRecurse e part
  only_operand e inner part one same can =
      let roots = one-roots e inner one in
      let nodes = one-nodes e inner one in
      let count = ap length roots in
      subst (CanRecurse e) (sym same) (omega (arith, nodes), CanCompile-among e inner (λ index c. rw roots c) (omega (arith, count)) can)

  pub first_operand : (e a b part : Expression) → IsTwo e a b → part ≡ a → CanCompile system e → CanRecurse e part
  first_operand e a b part two same can =
      let roots = two-roots e a b two in
      let nodes = two-nodes e a b two in
      let count = ap length roots in
      let sum = length-append (root_indices a) (root_indices b) in
      subst (CanRecurse e) (sym same) (
        omega (arith, nodes),
        CanCompile-among e a (λ index c. rw roots (Contains-append_left (root_indices a) (root_indices b) index c)) (omega (arith, count, sum)) can,
      )

  pub second_operand : (e a b part : Expression) → IsTwo e a b → part ≡ b → CanCompile system e → CanRecurse e part
  second_operand e a b part two same can =
      let roots = two-roots e a b two in
      let nodes = two-nodes e a b two in
      let count = ap length roots in
      let sum = length-append (root_indices a) (root_indices b) in
      subst (CanRecurse e) (sym same) (
        omega (arith, nodes),
        CanCompile-among e b (λ index c. rw roots (Contains-append_right (root_indices a) (root_indices b) index c)) (omega (arith, count, sum)) can,
      )
