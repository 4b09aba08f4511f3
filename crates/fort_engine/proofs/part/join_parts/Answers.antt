use Rattle.std.proofs.Common.{◌≡◌, vec_items, ap, ◌∙◌, ◌<◌, List, length, get_or, arith}
use Rattle.fort_theory.specs.Cores as core
use Rattle.fort_parts.specs.PartColumns.{columns_of}
use Rattle.fort_outline.specs.Outlines.{AreColumnsOf, parts_in}
use Rattle.fort_engine.proofs.OperandLaws.{first_of_two, second_of_two, kept_below, columns_below, operand_there, AreJoined-parts}
use Rattle.fort_engine.proofs.part.join_parts.Goals as goal

pub kept_operand-first-requires-clause-within : goal.kept_operand-first-requires-clause-within
kept_operand-first-requires-clause-within c = kept_below (first_of_two c.requires.next c.requires.two)

pub kept_operand-first-requires-clause-there : goal.kept_operand-first-requires-clause-there
kept_operand-first-requires-clause-there c = operand_there (first_of_two c.requires.next c.requires.two)

pub kept_operand-first-requires-clause-listed : goal.kept_operand-first-requires-clause-listed
kept_operand-first-requires-clause-listed c = columns_below (first_of_two c.requires.next c.requires.two)

pub kept_operand-second-requires-clause-within : goal.kept_operand-second-requires-clause-within
kept_operand-second-requires-clause-within c = kept_below (second_of_two c.requires.next c.requires.two)

pub kept_operand-second-requires-clause-there : goal.kept_operand-second-requires-clause-there
kept_operand-second-requires-clause-there c = operand_there (second_of_two c.requires.next c.requires.two)

pub kept_operand-second-requires-clause-listed : goal.kept_operand-second-requires-clause-listed
kept_operand-second-requires-clause-listed c = columns_below (second_of_two c.requires.next c.requires.two)

pub join-requires : goal.join-requires
join-requires c =
    let a = c.args in
    let parts = parts_in a.outline.now in
    let listed : a.k < length a.outline.now.columns.items = omega (arith, c.requires.next.within, c.requires.next.laid.count) in
    let own : (ps : List core.Core) → AreColumnsOf ps a.outline.now.columns.items → c.as_slice-columns.result.now ≡ columns_of (get_or ps a.k core.True) =
    λ ps are. c.as_slice-columns.ensures.value ∙ (ap vec_items c.index.ensures ∙ are a.k c.index.result.now listed) in (
      get_or parts a.k core.True,
      get_or parts a.f core.True,
      get_or parts a.g core.True,
      AreJoined-parts c.as_slice-columns.result.now c.kept_operand-first.result.columns.now c.kept_operand-second.result.columns.now c.requires.next c.requires.two
          c.kept_operand-first.ensures.answer c.kept_operand-second.ensures.answer own c.kept_operand-first.ensures.columns c.kept_operand-second.ensures.columns,
    )

pub returns : goal.returns
returns c =
    let a = c.args in
    let parts = parts_in a.outline.now in
    let listed : a.k < length a.outline.now.columns.items = omega (arith, c.requires.next.within, c.requires.next.laid.count) in
    let own : (ps : List core.Core) → AreColumnsOf ps a.outline.now.columns.items → c.as_slice-columns.result.now ≡ columns_of (get_or ps a.k core.True) =
    λ ps are. c.as_slice-columns.ensures.value ∙ (ap vec_items c.index.ensures ∙ are a.k c.index.result.now listed) in
    c.join.ensures (get_or parts a.k core.True) (get_or parts a.f core.True) (get_or parts a.g core.True)
    (AreJoined-parts c.as_slice-columns.result.now c.kept_operand-first.result.columns.now c.kept_operand-second.result.columns.now c.requires.next c.requires.two
    c.kept_operand-first.ensures.answer c.kept_operand-second.ensures.answer own c.kept_operand-first.ensures.columns c.kept_operand-second.ensures.columns)
