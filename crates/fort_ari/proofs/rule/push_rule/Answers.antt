use Rattle.std.proofs.Common.{arith}
use Rattle.std.proofs.lemmas.Option.{IfSome_then}
use Rattle.std.proofs.lemmas.Result.{err_from_is_err_and, IfOk-weaker, IfErr-weaker}
use Rattle.fort_grammar.specs.RuleForms.{OneTooMany, NoRule, BadLeft, BadRight}
use Rattle.fort_ari.specs.Faults.{as_fault}
use Rattle.fort_ari.proofs.RuleElements.{HasSides-low, HasSides-high, HasSides-node_count}
use Rattle.fort_ari.proofs.RuleSides.{right_sides_of, bad_names, pushes_rule}
use Rattle.fort_ari.proofs.rule.push_rule.Goals as goal

pub returns-then-count-eq-MOST_RULES-clause-fault : goal.returns-then-count-eq-MOST_RULES-clause-fault
returns-then-count-eq-MOST_RULES-clause-fault c = OneTooMany c.if-count-eq-MOST_RULES.true

pub returns-in_default-clause-fault : goal.returns-in_default-clause-fault
returns-in_default-clause-fault c =
    NoRule (omega (arith, c.requires.few)) (rw c.number.ensures.count at c.in_default.ensures.none)

pub returns-in_err-check_side-clause-fault : goal.returns-in_err-check_side-clause-fault
returns-in_err-check_side-clause-fault c =
    let p = err_from_is_err_and c.from_residual.result c.from_residual.ensures.1 in
    let sides = rw c.number.ensures.count at c.in-Some.ensures.some in
    rw (p.1, p.2) (IfSome_then (as_fault c.in_err-check_side.field-0.0)
    (rw (c.in-Some.ensures.bytes.0, c.signature.ensures.same) at c.in_err-check_side.ensures.fault)
    (λ fault bad. BadLeft _ _ _ fault (omega (arith, c.requires.few)) sides bad))

pub returns-in_err-check_side-2-clause-fault : goal.returns-in_err-check_side-2-clause-fault
returns-in_err-check_side-2-clause-fault c =
    let p = err_from_is_err_and c.from_residual-in_err-check_side-2.result c.from_residual-in_err-check_side-2.ensures.1 in
    let sides = rw c.number.ensures.count at c.in-Some.ensures.some in
    let left = rw (c.in-Some.ensures.bytes.0, c.signature.ensures.same) at c.in_ok-check_side.ensures.ok in
    rw (p.1, p.2) (IfSome_then (as_fault c.in_err-check_side-2.field-0.0)
    (rw (c.in-Some.ensures.bytes.1, c.signature-2.ensures.same) at c.in_err-check_side-2.ensures.fault)
    (λ fault bad. BadRight _ _ _ left.side left.names fault (omega (arith, c.requires.few)) sides left.is bad))

pub push_sides-requires-clause-index : goal.push_sides-requires-clause-index
push_sides-requires-clause-index c =
    let sides = rw c.number.ensures.count at c.in-Some.ensures.some in
    record { low = HasSides-low _ _ _ _ _ _ sides; high = HasSides-high _ _ _ _ _ _ c.number.ensures.lawful.some sides }

pub push_sides-requires-clause-small : goal.push_sides-requires-clause-small
push_sides-requires-clause-small c = omega (arith, HasSides-node_count _ _ _ _ _ _ c.in-Some.ensures.some, c.requires.small)

pub returns-clause-ok : goal.returns-clause-ok
returns-clause-ok c =
    let sides = rw c.number.ensures.count at c.in-Some.ensures.some in
    IfOk-weaker c.push_sides.result _ _ (λ _ p. pushes_rule sides p) (rw c.in-Some.ensures.bytes.0 at c.push_sides.ensures.ok)

pub returns-clause-fault : goal.returns-clause-fault
returns-clause-fault c =
    let sides = rw c.number.ensures.count at c.in-Some.ensures.some in
    IfErr-weaker c.push_sides.result _ _ (λ fault bad. IfSome_then (as_fault fault) bad (λ x h. bad_names sides _ _ x (omega (arith, c.requires.few)) h))
    (rw c.in-Some.ensures.bytes.0 at c.push_sides.ensures.fault)

pub returns-clause-memory : goal.returns-clause-memory
returns-clause-memory c _ =
    let sides = rw c.number.ensures.count at c.in-Some.ensures.some in
    let both = right_sides_of sides (rw (c.in-Some.ensures.bytes.0, c.signature.ensures.same) at c.in_ok-check_side.ensures.ok)
    (rw (c.in-Some.ensures.bytes.1, c.signature-2.ensures.same) at c.in_ok-check_side-2.ensures.ok) in
    record { few = omega (arith, c.requires.few); left_names = both.0; right_names = both.1; sides = both.2 }
