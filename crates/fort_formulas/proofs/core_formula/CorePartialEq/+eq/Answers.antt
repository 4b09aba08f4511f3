use Rattle.std.proofs.Common.{sym, ◌∙◌, ◌≡◌}
use Rattle.fort_formulas.specs.CoreCode.{spelled}
use Rattle.fort_formulas.specs.CoreKeys.{same_marks}
use Rattle.fort_formulas.specs.CoreKeyLaws.{Is_eq-terms, two_eq-then, two_eq-else}
use Rattle.fort_formulas.proofs.core_formula.CorePartialEq.+eq.Goals as goal

pub returns-then-x-y : goal.returns-then-x-y
returns-then-x-y t c =
    rw (c.in-Is-Is.is-0, c.in-Is-Is.is-1, c.eq-then-x-y.ensures) (Is_eq-terms c.in-Is-Is.x c.in-Is-Is.y c.in-Is-Is.s c.in-Is-Is.t c.if-x-y.true)

pub returns-then-eq-4 : goal.returns-then-eq-4
returns-then-eq-4 t c =
    let first : c.eq-in-And-And.result ≡ same_marks (spelled c.in-And-And.f) (spelled c.in-And-And.h) =
    rw (← c.as_core-in-And-And.ensures, ← c.as_core-in-And-And-2.ensures) c.eq-in-And-And.ensures in
    let second : c.eq-then-eq-4.result ≡ same_marks (spelled c.in-And-And.g) (spelled c.in-And-And.k) =
    rw (← c.as_core-then-eq-4.ensures, ← c.as_core-then-eq-4-2.ensures) c.eq-then-eq-4.ensures in
    rw (c.in-And-And.is-0, c.in-And-And.is-1, second) (two_eq-then c.in-And-And.f c.in-And-And.g c.in-And-And.h c.in-And-And.k (sym first ∙ c.if-eq-4.true))

pub returns-else-eq-4 : goal.returns-else-eq-4
returns-else-eq-4 t c =
    let first : c.eq-in-And-And.result ≡ same_marks (spelled c.in-And-And.f) (spelled c.in-And-And.h) =
    rw (← c.as_core-in-And-And.ensures, ← c.as_core-in-And-And-2.ensures) c.eq-in-And-And.ensures in
    rw (c.in-And-And.is-0, c.in-And-And.is-1, c.if-eq-4.false) (two_eq-else c.in-And-And.f c.in-And-And.g c.in-And-And.h c.in-And-And.k (sym first ∙ c.if-eq-4.false))

pub returns-then-eq-5 : goal.returns-then-eq-5
returns-then-eq-5 t c =
    let first : c.eq-in-Or-Or.result ≡ same_marks (spelled c.in-Or-Or.f) (spelled c.in-Or-Or.h) =
    rw (← c.as_core-in-Or-Or.ensures, ← c.as_core-in-Or-Or-2.ensures) c.eq-in-Or-Or.ensures in
    let second : c.eq-then-eq-5.result ≡ same_marks (spelled c.in-Or-Or.g) (spelled c.in-Or-Or.k) =
    rw (← c.as_core-then-eq-5.ensures, ← c.as_core-then-eq-5-2.ensures) c.eq-then-eq-5.ensures in
    rw (c.in-Or-Or.is-0, c.in-Or-Or.is-1, second) (two_eq-then c.in-Or-Or.f c.in-Or-Or.g c.in-Or-Or.h c.in-Or-Or.k (sym first ∙ c.if-eq-5.true))

pub returns-else-eq-5 : goal.returns-else-eq-5
returns-else-eq-5 t c =
    let first : c.eq-in-Or-Or.result ≡ same_marks (spelled c.in-Or-Or.f) (spelled c.in-Or-Or.h) =
    rw (← c.as_core-in-Or-Or.ensures, ← c.as_core-in-Or-Or-2.ensures) c.eq-in-Or-Or.ensures in
    rw (c.in-Or-Or.is-0, c.in-Or-Or.is-1, c.if-eq-5.false) (two_eq-else c.in-Or-Or.f c.in-Or-Or.g c.in-Or-Or.h c.in-Or-Or.k (sym first ∙ c.if-eq-5.false))

pub returns-then-eq-6 : goal.returns-then-eq-6
returns-then-eq-6 t c =
    let first : c.eq-in-Iff-Iff.result ≡ same_marks (spelled c.in-Iff-Iff.f) (spelled c.in-Iff-Iff.h) =
    rw (← c.as_core-in-Iff-Iff.ensures, ← c.as_core-in-Iff-Iff-2.ensures) c.eq-in-Iff-Iff.ensures in
    let second : c.eq-then-eq-6.result ≡ same_marks (spelled c.in-Iff-Iff.g) (spelled c.in-Iff-Iff.k) =
    rw (← c.as_core-then-eq-6.ensures, ← c.as_core-then-eq-6-2.ensures) c.eq-then-eq-6.ensures in
    rw (c.in-Iff-Iff.is-0, c.in-Iff-Iff.is-1, second) (two_eq-then c.in-Iff-Iff.f c.in-Iff-Iff.g c.in-Iff-Iff.h c.in-Iff-Iff.k (sym first ∙ c.if-eq-6.true))

pub returns-else-eq-6 : goal.returns-else-eq-6
returns-else-eq-6 t c =
    let first : c.eq-in-Iff-Iff.result ≡ same_marks (spelled c.in-Iff-Iff.f) (spelled c.in-Iff-Iff.h) =
    rw (← c.as_core-in-Iff-Iff.ensures, ← c.as_core-in-Iff-Iff-2.ensures) c.eq-in-Iff-Iff.ensures in
    rw (c.in-Iff-Iff.is-0, c.in-Iff-Iff.is-1, c.if-eq-6.false) (two_eq-else c.in-Iff-Iff.f c.in-Iff-Iff.g c.in-Iff-Iff.h c.in-Iff-Iff.k (sym first ∙ c.if-eq-6.false))
