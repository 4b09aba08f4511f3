use Rattle.std.proofs.Common.{sym, ◌∙◌, ◌≡◌}
use Rattle.fort_relations.specs.ExpressionCode.{spelled}
use Rattle.fort_relations.specs.RexKeys.{same_numbers}
use Rattle.fort_relations.specs.RexKeyLaws.{two_eq-then, two_eq-else}
use Rattle.fort_relations.proofs.rex.RexPartialEq.+eq.Goals as goal

pub returns-then-eq : goal.returns-then-eq
returns-then-eq t c =
    let first : c.eq-in-Union-Union.result ≡ same_numbers (spelled c.in-Union-Union.a) (spelled c.in-Union-Union.c) =
    rw (← c.as_rex-in-Union-Union.ensures, ← c.as_rex-in-Union-Union-2.ensures) c.eq-in-Union-Union.ensures in
    let second : c.eq-then-eq.result ≡ same_numbers (spelled c.in-Union-Union.b) (spelled c.in-Union-Union.d) =
    rw (← c.as_rex-then-eq.ensures, ← c.as_rex-then-eq-2.ensures) c.eq-then-eq.ensures in
    rw (c.in-Union-Union.is-0, c.in-Union-Union.is-1, second) (two_eq-then c.in-Union-Union.a c.in-Union-Union.b c.in-Union-Union.c c.in-Union-Union.d (sym first ∙ c.if-eq.true))

pub returns-else-eq : goal.returns-else-eq
returns-else-eq t c =
    let first : c.eq-in-Union-Union.result ≡ same_numbers (spelled c.in-Union-Union.a) (spelled c.in-Union-Union.c) =
    rw (← c.as_rex-in-Union-Union.ensures, ← c.as_rex-in-Union-Union-2.ensures) c.eq-in-Union-Union.ensures in
    rw (c.in-Union-Union.is-0, c.in-Union-Union.is-1, c.if-eq.false) (two_eq-else c.in-Union-Union.a c.in-Union-Union.b c.in-Union-Union.c c.in-Union-Union.d (sym first ∙ c.if-eq.false))

pub returns-then-eq-2 : goal.returns-then-eq-2
returns-then-eq-2 t c =
    let first : c.eq-in-Comp-Comp.result ≡ same_numbers (spelled c.in-Comp-Comp.a) (spelled c.in-Comp-Comp.c) =
    rw (← c.as_rex-in-Comp-Comp.ensures, ← c.as_rex-in-Comp-Comp-2.ensures) c.eq-in-Comp-Comp.ensures in
    let second : c.eq-then-eq-2.result ≡ same_numbers (spelled c.in-Comp-Comp.b) (spelled c.in-Comp-Comp.d) =
    rw (← c.as_rex-then-eq-2-2.ensures, ← c.as_rex-then-eq-2-3.ensures) c.eq-then-eq-2.ensures in
    rw (c.in-Comp-Comp.is-0, c.in-Comp-Comp.is-1, second) (two_eq-then c.in-Comp-Comp.a c.in-Comp-Comp.b c.in-Comp-Comp.c c.in-Comp-Comp.d (sym first ∙ c.if-eq-2.true))

pub returns-else-eq-2 : goal.returns-else-eq-2
returns-else-eq-2 t c =
    let first : c.eq-in-Comp-Comp.result ≡ same_numbers (spelled c.in-Comp-Comp.a) (spelled c.in-Comp-Comp.c) =
    rw (← c.as_rex-in-Comp-Comp.ensures, ← c.as_rex-in-Comp-Comp-2.ensures) c.eq-in-Comp-Comp.ensures in
    rw (c.in-Comp-Comp.is-0, c.in-Comp-Comp.is-1, c.if-eq-2.false) (two_eq-else c.in-Comp-Comp.a c.in-Comp-Comp.b c.in-Comp-Comp.c c.in-Comp-Comp.d (sym first ∙ c.if-eq-2.false))
