use Rattle.std.proofs.Common.{sym, ◌∙◌, ◌≡◌}
use Rattle.fort_relations.specs.ExpressionCode.{spelled}
use Rattle.fort_relations.specs.RexKeys.{numbers_order}
use Rattle.fort_relations.specs.RexOrderLaws.{two_order-Equal, two_order-unequal}
use Rattle.fort_relations.proofs.rex.RexOrd.+cmp.Goals as goal

pub returns-in-Equal : goal.returns-in-Equal
returns-in-Equal t c =
    let first : c.cmp-in-Union-Union.result ≡ numbers_order (spelled c.in-Union-Union.a) (spelled c.in-Union-Union.c) =
    rw (← c.as_rex-in-Union-Union.ensures, ← c.as_rex-in-Union-Union-2.ensures) c.cmp-in-Union-Union.ensures in
    let second : c.cmp-in-Equal.result ≡ numbers_order (spelled c.in-Union-Union.b) (spelled c.in-Union-Union.d) =
    rw (← c.as_rex-in-Equal.ensures, ← c.as_rex-in-Equal-2.ensures) c.cmp-in-Equal.ensures in
    rw (c.in-Union-Union.is-0, c.in-Union-Union.is-1, second) (two_order-Equal c.in-Union-Union.a c.in-Union-Union.b c.in-Union-Union.c c.in-Union-Union.d (sym first ∙ c.in-Equal.is))

pub returns-in_default-cmp : goal.returns-in_default-cmp
returns-in_default-cmp t c =
    let first : c.cmp-in-Union-Union.result ≡ numbers_order (spelled c.in-Union-Union.a) (spelled c.in-Union-Union.c) =
    rw (← c.as_rex-in-Union-Union.ensures, ← c.as_rex-in-Union-Union-2.ensures) c.cmp-in-Union-Union.ensures in
    rw (c.in-Union-Union.is-0, c.in-Union-Union.is-1, first) (two_order-unequal c.in-Union-Union.a c.in-Union-Union.b c.in-Union-Union.c c.in-Union-Union.d (λ e. c.in_default-cmp.not-Equal (first ∙ e)))

pub returns-in-Equal-cmp : goal.returns-in-Equal-cmp
returns-in-Equal-cmp t c =
    let first : c.cmp-in-Comp-Comp.result ≡ numbers_order (spelled c.in-Comp-Comp.a) (spelled c.in-Comp-Comp.c) =
    rw (← c.as_rex-in-Comp-Comp.ensures, ← c.as_rex-in-Comp-Comp-2.ensures) c.cmp-in-Comp-Comp.ensures in
    let second : c.cmp-in-Equal-cmp.result ≡ numbers_order (spelled c.in-Comp-Comp.b) (spelled c.in-Comp-Comp.d) =
    rw (← c.as_rex-in-Equal-cmp.ensures, ← c.as_rex-in-Equal-cmp-2.ensures) c.cmp-in-Equal-cmp.ensures in
    rw (c.in-Comp-Comp.is-0, c.in-Comp-Comp.is-1, second) (two_order-Equal c.in-Comp-Comp.a c.in-Comp-Comp.b c.in-Comp-Comp.c c.in-Comp-Comp.d (sym first ∙ c.in-Equal-cmp.is))

pub returns-in_default-cmp-2 : goal.returns-in_default-cmp-2
returns-in_default-cmp-2 t c =
    let first : c.cmp-in-Comp-Comp.result ≡ numbers_order (spelled c.in-Comp-Comp.a) (spelled c.in-Comp-Comp.c) =
    rw (← c.as_rex-in-Comp-Comp.ensures, ← c.as_rex-in-Comp-Comp-2.ensures) c.cmp-in-Comp-Comp.ensures in
    rw (c.in-Comp-Comp.is-0, c.in-Comp-Comp.is-1, first) (two_order-unequal c.in-Comp-Comp.a c.in-Comp-Comp.b c.in-Comp-Comp.c c.in-Comp-Comp.d (λ e. c.in_default-cmp-2.not-Equal (first ∙ e)))
