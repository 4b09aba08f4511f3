use Rattle.std.proofs.Common.{sym, ◌∙◌, ◌≡◌}
use Rattle.fort_formulas.specs.CoreCode.{spelled}
use Rattle.fort_formulas.specs.CoreKeys.{marks_order}
use Rattle.fort_formulas.specs.CoreOrderLaws.{Is_order-terms, two_order-Equal, two_order-unequal}
use Rattle.fort_formulas.proofs.core_formula.CoreOrd.+cmp.Goals as goal

pub returns-in-Is-Is : goal.returns-in-Is-Is
returns-in-Is-Is t c =
    rw (c.in-Is-Is.is-0, c.in-Is-Is.is-1, c.then-in-Is-Is.ensures, c.cmp-in-Is-Is.ensures, c.cmp-in-Is-Is-2.ensures)
    (Is_order-terms c.in-Is-Is.x c.in-Is-Is.y c.in-Is-Is.s c.in-Is-Is.t)

pub returns-in-Equal : goal.returns-in-Equal
returns-in-Equal t c =
    let first : c.cmp-in-And-And.result ≡ marks_order (spelled c.in-And-And.f) (spelled c.in-And-And.h) =
    rw (← c.as_core-in-And-And.ensures, ← c.as_core-in-And-And-2.ensures) c.cmp-in-And-And.ensures in
    let second : c.cmp-in-Equal.result ≡ marks_order (spelled c.in-And-And.g) (spelled c.in-And-And.k) =
    rw (← c.as_core-in-Equal.ensures, ← c.as_core-in-Equal-2.ensures) c.cmp-in-Equal.ensures in
    rw (c.in-And-And.is-0, c.in-And-And.is-1, second) (two_order-Equal c.in-And-And.f c.in-And-And.g c.in-And-And.h c.in-And-And.k (sym first ∙ c.in-Equal.is))

pub returns-in_default-cmp : goal.returns-in_default-cmp
returns-in_default-cmp t c =
    let first : c.cmp-in-And-And.result ≡ marks_order (spelled c.in-And-And.f) (spelled c.in-And-And.h) =
    rw (← c.as_core-in-And-And.ensures, ← c.as_core-in-And-And-2.ensures) c.cmp-in-And-And.ensures in
    rw (c.in-And-And.is-0, c.in-And-And.is-1, first) (two_order-unequal c.in-And-And.f c.in-And-And.g c.in-And-And.h c.in-And-And.k (λ e. c.in_default-cmp.not-Equal (first ∙ e)))

pub returns-in-Equal-cmp : goal.returns-in-Equal-cmp
returns-in-Equal-cmp t c =
    let first : c.cmp-in-Or-Or.result ≡ marks_order (spelled c.in-Or-Or.f) (spelled c.in-Or-Or.h) =
    rw (← c.as_core-in-Or-Or.ensures, ← c.as_core-in-Or-Or-2.ensures) c.cmp-in-Or-Or.ensures in
    let second : c.cmp-in-Equal-cmp.result ≡ marks_order (spelled c.in-Or-Or.g) (spelled c.in-Or-Or.k) =
    rw (← c.as_core-in-Equal-cmp.ensures, ← c.as_core-in-Equal-cmp-2.ensures) c.cmp-in-Equal-cmp.ensures in
    rw (c.in-Or-Or.is-0, c.in-Or-Or.is-1, second) (two_order-Equal c.in-Or-Or.f c.in-Or-Or.g c.in-Or-Or.h c.in-Or-Or.k (sym first ∙ c.in-Equal-cmp.is))

pub returns-in_default-cmp-2 : goal.returns-in_default-cmp-2
returns-in_default-cmp-2 t c =
    let first : c.cmp-in-Or-Or.result ≡ marks_order (spelled c.in-Or-Or.f) (spelled c.in-Or-Or.h) =
    rw (← c.as_core-in-Or-Or.ensures, ← c.as_core-in-Or-Or-2.ensures) c.cmp-in-Or-Or.ensures in
    rw (c.in-Or-Or.is-0, c.in-Or-Or.is-1, first) (two_order-unequal c.in-Or-Or.f c.in-Or-Or.g c.in-Or-Or.h c.in-Or-Or.k (λ e. c.in_default-cmp-2.not-Equal (first ∙ e)))

pub returns-in-Equal-cmp-2 : goal.returns-in-Equal-cmp-2
returns-in-Equal-cmp-2 t c =
    let first : c.cmp-in-Iff-Iff.result ≡ marks_order (spelled c.in-Iff-Iff.f) (spelled c.in-Iff-Iff.h) =
    rw (← c.as_core-in-Iff-Iff.ensures, ← c.as_core-in-Iff-Iff-2.ensures) c.cmp-in-Iff-Iff.ensures in
    let second : c.cmp-in-Equal-cmp-2.result ≡ marks_order (spelled c.in-Iff-Iff.g) (spelled c.in-Iff-Iff.k) =
    rw (← c.as_core-in-Equal-cmp-2-2.ensures, ← c.as_core-in-Equal-cmp-2-3.ensures) c.cmp-in-Equal-cmp-2.ensures in
    rw (c.in-Iff-Iff.is-0, c.in-Iff-Iff.is-1, second) (two_order-Equal c.in-Iff-Iff.f c.in-Iff-Iff.g c.in-Iff-Iff.h c.in-Iff-Iff.k (sym first ∙ c.in-Equal-cmp-2.is))

pub returns-in_default-cmp-3 : goal.returns-in_default-cmp-3
returns-in_default-cmp-3 t c =
    let first : c.cmp-in-Iff-Iff.result ≡ marks_order (spelled c.in-Iff-Iff.f) (spelled c.in-Iff-Iff.h) =
    rw (← c.as_core-in-Iff-Iff.ensures, ← c.as_core-in-Iff-Iff-2.ensures) c.cmp-in-Iff-Iff.ensures in
    rw (c.in-Iff-Iff.is-0, c.in-Iff-Iff.is-1, first) (two_order-unequal c.in-Iff-Iff.f c.in-Iff-Iff.g c.in-Iff-Iff.h c.in-Iff-Iff.k (λ e. c.in_default-cmp-3.not-Equal (first ∙ e)))
