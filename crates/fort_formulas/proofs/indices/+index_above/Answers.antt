use Rattle.std.proofs.Common.{[], ◌∷◌}
use Rattle.fort_theory.specs.Expressions.{root_indices}
use Rattle.fort_relations.specs.RexView.{as_expression}
use Rattle.fort_formulas.proofs.FormulaIndices.{first_above-is, first_above-within, indices-atom, indices-one, indices-two, first-left, first-right, within-both}
use Rattle.fort_formulas.proofs.indices.+index_above.Goals as goal

pub returns-in-Rel-clause-within : goal.returns-in-Rel-clause-within
returns-in-Rel-clause-within t c = rw (indices-atom c.args.formula.now c.in-Rel.index c.in-Rel.is) c.above-in-Rel.ensures.within

pub returns-in-Rex-clause-first : goal.returns-in-Rex-clause-first
returns-in-Rex-clause-first t c =
    rw (c.in-Rex.is, c.index_above.ensures) (first_above-is c.args.number (root_indices (as_expression c.in-Rex.rex)))

pub returns-in-Rex-clause-within : goal.returns-in-Rex-clause-within
returns-in-Rex-clause-within t c =
    rw (c.in-Rex.is, c.index_above.ensures) (first_above-within c.args.number (root_indices (as_expression c.in-Rex.rex)))

pub returns-in-None-clause-first : goal.returns-in-None-clause-first
returns-in-None-clause-first t c = rw c.in-Com.is (first-right c.args.number (1 ∷ []) (2 ∷ []) c.above-in-None.result c.in-None.ensures.within c.above-in-None.ensures.first)

pub returns-in-None-clause-within : goal.returns-in-None-clause-within
returns-in-None-clause-within t c = rw c.in-Com.is (within-both c.args.number (1 ∷ []) (2 ∷ []) c.above-in-None.result c.in-None.ensures.within c.above-in-None.ensures.within)

pub returns-in_default-clause-first : goal.returns-in_default-clause-first
returns-in_default-clause-first t c = rw c.in-Com.is (first-left c.args.number (1 ∷ []) (2 ∷ []) c.above.result c.above.ensures.first)

pub returns-in-Not-clause-within : goal.returns-in-Not-clause-within
returns-in-Not-clause-within t c = rw (indices-one c.args.formula.now c.in-Not.f c.in-Not.is, ← c.as_formula-in-Not.ensures) c.index_above-in-Not.ensures.within

pub returns-in-None-index_above-clause-first : goal.returns-in-None-index_above-clause-first
returns-in-None-index_above-clause-first t c =
    rw (indices-two c.args.formula.now c.in-And.f c.in-And.g c.in-And.is, ← c.as_formula.ensures, ← c.as_formula-in-None-index_above.ensures)
    (first-right c.args.number _ _ c.index_above-in-None-index_above.result c.in-None-index_above.ensures.within c.index_above-in-None-index_above.ensures.first)

pub returns-in-None-index_above-clause-within : goal.returns-in-None-index_above-clause-within
returns-in-None-index_above-clause-within t c =
    rw (indices-two c.args.formula.now c.in-And.f c.in-And.g c.in-And.is, ← c.as_formula.ensures, ← c.as_formula-in-None-index_above.ensures)
    (within-both c.args.number _ _ c.index_above-in-None-index_above.result c.in-None-index_above.ensures.within c.index_above-in-None-index_above.ensures.within)
