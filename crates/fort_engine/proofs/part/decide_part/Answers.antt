use Rattle.std.proofs.Common.{Ok, refl, subst, get_or, arith}
use Rattle.std.specs.Prelude.{Contains}
use Rattle.std.proofs.lemmas.List.Elements.{Contains-get_or}
use Rattle.fort_theory.specs.Cores as core
use Rattle.fort_theory.specs.Parts.{BindsFree, HasManyRootsAt}
use Rattle.fort_parts.specs.DecidedCores.{IsOverSystem}
use Rattle.fort_outline.specs.Outlines.{parts_in}
use Rattle.fort_outline.proofs.RootLaws.{length-cores_of}
use Rattle.fort_engine.specs.Deciding.{IsDecision}
use Rattle.fort_engine.proofs.OperandLaws.{has_root, next_is, next_over, operand_of_root, kept_below, columns_below, operand_there, operand_taken, operand_told, IsBody-operand, IsDecision-True}
use Rattle.fort_engine.proofs.FoundLaws.{plain_found, negation_found, many_found}
use Rattle.fort_engine.proofs.part.decide_part.Goals as goal

pub returns-in-True : goal.returns-in-True
returns-in-True c =
    plain_found (has_root c.requires.next c.index.ensures c.in-True.is) tt (Ok c.truth.result)
    (IsDecision-True c.args.system.now c.args.options.now core.True c.truth.result refl c.truth.ensures.answer c.truth.ensures.counts)

pub decide_leaf-requires-clause-over : goal.decide_leaf-requires-clause-over
decide_leaf-requires-clause-over c = subst (IsOverSystem c.args.system.now) (next_is (has_root c.requires.next c.index.ensures c.in-Leaf.is)) c.requires.next.fit.over

pub decide_leaf-requires-clause-narrow : goal.decide_leaf-requires-clause-narrow
decide_leaf-requires-clause-narrow c = subst (λ (f : core.Core). HasManyRootsAt f → ⊥) (next_is (has_root c.requires.next c.index.ensures c.in-Leaf.is)) c.requires.next.fit.roots

pub decide_leaf-requires-clause-closures : goal.decide_leaf-requires-clause-closures
decide_leaf-requires-clause-closures c =
    let a = c.args in
    let parts = parts_in a.outline.now in
    let root = next_is (has_root c.requires.next c.index.ensures c.in-Leaf.is) in (
      parts,
      subst (Contains parts) root (Contains-get_or parts a.k core.True (omega (arith, c.requires.next.within, length-cores_of a.outline.now.roots.items))),
      c.requires.closures,
    )

pub returns-in-Leaf : goal.returns-in-Leaf
returns-in-Leaf c = plain_found (has_root c.requires.next c.index.ensures c.in-Leaf.is) tt c.decide_leaf.result c.decide_leaf.ensures

pub kept_answer-requires-clause-within : goal.kept_answer-requires-clause-within
kept_answer-requires-clause-within c = let h = has_root c.requires.next c.index.ensures c.in-Not.is in kept_below (operand_of_root c.in-Not.f h (next_over h) refl)

pub kept_answer-requires-clause-there : goal.kept_answer-requires-clause-there
kept_answer-requires-clause-there c = let h = has_root c.requires.next c.index.ensures c.in-Not.is in operand_there (operand_of_root c.in-Not.f h (next_over h) refl)

pub kept_operand-body-requires-clause-within : goal.kept_operand-body-requires-clause-within
kept_operand-body-requires-clause-within c = let h = has_root c.requires.next c.index.ensures c.in-Exists.is in kept_below (operand_of_root c.in-Exists.f h (next_over h) refl)

pub kept_operand-body-requires-clause-there : goal.kept_operand-body-requires-clause-there
kept_operand-body-requires-clause-there c = let h = has_root c.requires.next c.index.ensures c.in-Exists.is in operand_there (operand_of_root c.in-Exists.f h (next_over h) refl)

pub kept_operand-body-requires-clause-listed : goal.kept_operand-body-requires-clause-listed
kept_operand-body-requires-clause-listed c = let h = has_root c.requires.next c.index.ensures c.in-Exists.is in columns_below (operand_of_root c.in-Exists.f h (next_over h) refl)

pub kept_operand-body-requires-in-Infinite-clause-within : goal.kept_operand-body-requires-in-Infinite-clause-within
kept_operand-body-requires-in-Infinite-clause-within c = let h = has_root c.requires.next c.index.ensures c.in-Infinite.is in kept_below (operand_of_root c.in-Infinite.f h (next_over h) refl)

pub kept_operand-body-requires-in-Infinite-clause-there : goal.kept_operand-body-requires-in-Infinite-clause-there
kept_operand-body-requires-in-Infinite-clause-there c = let h = has_root c.requires.next c.index.ensures c.in-Infinite.is in operand_there (operand_of_root c.in-Infinite.f h (next_over h) refl)

pub kept_operand-body-requires-in-Infinite-clause-listed : goal.kept_operand-body-requires-in-Infinite-clause-listed
kept_operand-body-requires-in-Infinite-clause-listed c = let h = has_root c.requires.next c.index.ensures c.in-Infinite.is in columns_below (operand_of_root c.in-Infinite.f h (next_over h) refl)

pub join_parts-requires-clause-two : goal.join_parts-requires-clause-two
join_parts-requires-clause-two c = let h = has_root c.requires.next c.index.ensures c.in-Binary.is in let over = next_over h in record { first = over.0; second = over.1; is = next_is h }

pub returns-in-Not : goal.returns-in-Not
returns-in-Not c =
    let a = c.args in
    let h = has_root c.requires.next c.index.ensures c.in-Not.is in
    let o = operand_of_root c.in-Not.f h (next_over h) refl in
    negation_found c.in-Not.f c.kept_answer.result.now h c.kept_answer.ensures c.complement.result
    (c.complement.ensures.decided a.system.now a.options.now (get_or (parts_in a.outline.now) c.in-Not.f core.True) (operand_taken o c.kept_answer.ensures) (operand_told o))
    c.complement.ensures.turned c.complement.ensures.plain

pub returns-in-Binary : goal.returns-in-Binary
returns-in-Binary c =
    let h = has_root c.requires.next c.index.ensures c.in-Binary.is in
    plain_found h tt c.join_parts.result (subst (λ z. IsDecision c.args.system.now c.args.options.now z c.join_parts.result) (next_is h) c.join_parts.ensures)

pub project-requires : goal.project-requires
project-requires c =
    let a = c.args in
    let h = has_root c.requires.next c.index.ensures c.in-Exists.is in
    let o = operand_of_root c.in-Exists.f h (next_over h) refl in
    let g = get_or (parts_in a.outline.now) c.in-Exists.f core.True in
    let binds : BindsFree (core.Exists c.in-Exists.n g) = subst BindsFree (next_is h) c.requires.next.fit.binders in
    let body = IsBody-operand c.in-Exists.n c.kept_operand-body.result.columns.now o binds.0 c.kept_operand-body.ensures.answer c.kept_operand-body.ensures.columns in
    (g, body)

pub returns-in-Exists : goal.returns-in-Exists
returns-in-Exists c =
    let a = c.args in
    let h = has_root c.requires.next c.index.ensures c.in-Exists.is in
    let o = operand_of_root c.in-Exists.f h (next_over h) refl in
    let g = get_or (parts_in a.outline.now) c.in-Exists.f core.True in
    let binds : BindsFree (core.Exists c.in-Exists.n g) = subst BindsFree (next_is h) c.requires.next.fit.binders in
    let body = IsBody-operand c.in-Exists.n c.kept_operand-body.result.columns.now o binds.0 c.kept_operand-body.ensures.answer c.kept_operand-body.ensures.columns in
    plain_found h tt c.project.result (c.project.ensures g body)

pub count-requires : goal.count-requires
count-requires c =
    let a = c.args in
    let h = has_root c.requires.next c.index.ensures c.in-Infinite.is in
    let o = operand_of_root c.in-Infinite.f h (next_over h) refl in
    let g = get_or (parts_in a.outline.now) c.in-Infinite.f core.True in
    let binds : BindsFree (core.Infinite c.in-Infinite.n g) = subst BindsFree (next_is h) c.requires.next.fit.binders in
    let body = IsBody-operand c.in-Infinite.n c.kept_operand-body-in-Infinite.result.columns.now o binds.0 c.kept_operand-body-in-Infinite.ensures.answer c.kept_operand-body-in-Infinite.ensures.columns in
    (g, body)

pub returns-in-Infinite : goal.returns-in-Infinite
returns-in-Infinite c =
    let a = c.args in
    let h = has_root c.requires.next c.index.ensures c.in-Infinite.is in
    let o = operand_of_root c.in-Infinite.f h (next_over h) refl in
    let g = get_or (parts_in a.outline.now) c.in-Infinite.f core.True in
    let binds : BindsFree (core.Infinite c.in-Infinite.n g) = subst BindsFree (next_is h) c.requires.next.fit.binders in
    let body = IsBody-operand c.in-Infinite.n c.kept_operand-body-in-Infinite.result.columns.now o binds.0 c.kept_operand-body-in-Infinite.ensures.answer c.kept_operand-body-in-Infinite.ensures.columns in
    many_found c.in-Infinite.n c.in-Infinite.f c.kept_operand-body-in-Infinite.result.answer.now h c.kept_operand-body-in-Infinite.ensures.answer c.count.result
    (c.count.ensures g body)
