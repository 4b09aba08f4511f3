use Rattle.std.proofs.Common.{◌++◌, ◌∙◌, ap, sym, inl, inr}
use Rattle.std.proofs.lemmas.Result.{IfOk-weaker}
use Rattle.fort_theory.specs.Cores as theory
use Rattle.fort_theory.specs.Logic as logic
use Rattle.fort_theory.specs.Parts.{postorder}
use Rattle.fort_formulas.specs.CoreView.{as_core}
use Rattle.fort_formulas.proofs.CoreShapes.{postorder-one, postorder-two}
use Rattle.fort_connectives.specs.declared.connective.Op.TheVariants.{And, Or, Iff}
use Rattle.fort_outline.specs.declared.root.Root.TheVariants.{Not, Binary, Exists, Infinite}
use Rattle.fort_outline.proofs.NumberLaws.{numbered_one, numbered_two}
use Rattle.fort_outline.proofs.numbers.+number_core.Goals as goal

pub returns-in_ok-f-in-Not-clause-numbered : goal.returns-in_ok-f-in-Not-clause-numbered
returns-in_ok-f-in-Not-clause-numbered t c =
    let arm = c.in-Not in
    let whole = c.args.core.now in
    let a = c.in_ok-f-in-Not.f in
    let operand = rw c.as_core.ensures at c.in_ok-f-in-Not.ensures.numbered in
    IfOk-weaker c.number_of-in-Not.result _ _
    (λ n last before so_far.
    numbered_one before c.args.roots.now.keys c.number_core.new.roots.keys c.number_of-in-Not.new.roots.keys arm.f (as_core whole) (Not a) a n
    (operand before so_far) last (postorder-one whole arm.f (inl arm.is)) (λ e. ap (λ g. theory.Not g) e ∙ sym (ap as_core arm.is)))
    c.number_of-in-Not.ensures.numbered

pub returns-in_ok-g-in-And-clause-numbered : goal.returns-in_ok-g-in-And-clause-numbered
returns-in_ok-g-in-And-clause-numbered t c =
    let arm = c.in-And in
    let whole = c.args.core.now in
    let a = c.in_ok-f-in-And.f in
    let b = c.in_ok-g-in-And.g in
    let first = rw c.as_core-in-And.ensures at c.in_ok-f-in-And.ensures.numbered in
    let second = rw c.as_core-in-And-2.ensures at c.in_ok-g-in-And.ensures.numbered in
    IfOk-weaker c.number_of-in-And.result _ _
    (λ n last before so_far.
    let one = first before so_far in
    numbered_two before c.args.roots.now.keys c.number_core-in-And.new.roots.keys c.number_core-in-And-2.new.roots.keys c.number_of-in-And.new.roots.keys arm.f arm.g
    (as_core whole) (Binary And a b) a b n one (second (before ++ postorder arm.f) one.numbered) last (postorder-two whole arm.f arm.g (inl arm.is))
    (λ e d. (λ i. theory.Binary logic.And (e i) (d i)) ∙ sym (ap as_core arm.is)))
    c.number_of-in-And.ensures.numbered

pub returns-in_ok-g-in-Or-clause-numbered : goal.returns-in_ok-g-in-Or-clause-numbered
returns-in_ok-g-in-Or-clause-numbered t c =
    let arm = c.in-Or in
    let whole = c.args.core.now in
    let a = c.in_ok-f-in-Or.f in
    let b = c.in_ok-g-in-Or.g in
    let first = rw c.as_core-in-Or.ensures at c.in_ok-f-in-Or.ensures.numbered in
    let second = rw c.as_core-in-Or-2.ensures at c.in_ok-g-in-Or.ensures.numbered in
    IfOk-weaker c.number_of-in-Or.result _ _
    (λ n last before so_far.
    let one = first before so_far in
    numbered_two before c.args.roots.now.keys c.number_core-in-Or.new.roots.keys c.number_core-in-Or-2.new.roots.keys c.number_of-in-Or.new.roots.keys arm.f arm.g
    (as_core whole) (Binary Or a b) a b n one (second (before ++ postorder arm.f) one.numbered) last (postorder-two whole arm.f arm.g (inr (inl arm.is)))
    (λ e d. (λ i. theory.Binary logic.Or (e i) (d i)) ∙ sym (ap as_core arm.is)))
    c.number_of-in-Or.ensures.numbered

pub returns-in_ok-g-in-Iff-clause-numbered : goal.returns-in_ok-g-in-Iff-clause-numbered
returns-in_ok-g-in-Iff-clause-numbered t c =
    let arm = c.in-Iff in
    let whole = c.args.core.now in
    let a = c.in_ok-f-in-Iff.f in
    let b = c.in_ok-g-in-Iff.g in
    let first = rw c.as_core-in-Iff.ensures at c.in_ok-f-in-Iff.ensures.numbered in
    let second = rw c.as_core-in-Iff-2.ensures at c.in_ok-g-in-Iff.ensures.numbered in
    IfOk-weaker c.number_of-in-Iff.result _ _
    (λ n last before so_far.
    let one = first before so_far in
    numbered_two before c.args.roots.now.keys c.number_core-in-Iff.new.roots.keys c.number_core-in-Iff-2.new.roots.keys c.number_of-in-Iff.new.roots.keys arm.f arm.g
    (as_core whole) (Binary Iff a b) a b n one (second (before ++ postorder arm.f) one.numbered) last (postorder-two whole arm.f arm.g (inr (inr arm.is)))
    (λ e d. (λ i. theory.Binary logic.Iff (e i) (d i)) ∙ sym (ap as_core arm.is)))
    c.number_of-in-Iff.ensures.numbered

pub returns-in_ok-f-in-Exists-clause-numbered : goal.returns-in_ok-f-in-Exists-clause-numbered
returns-in_ok-f-in-Exists-clause-numbered t c =
    let arm = c.in-Exists in
    let whole = c.args.core.now in
    let a = c.in_ok-f-in-Exists.f in
    let operand = rw c.as_core-in-Exists.ensures at c.in_ok-f-in-Exists.ensures.numbered in
    IfOk-weaker c.number_of-in-Exists.result _ _
    (λ n last before so_far.
    numbered_one before c.args.roots.now.keys c.number_core-in-Exists.new.roots.keys c.number_of-in-Exists.new.roots.keys arm.f (as_core whole) (Exists arm.x a) a n
    (operand before so_far) last (postorder-one whole arm.f (inr (inl (arm.x, arm.is)))) (λ e. ap (λ g. theory.Exists arm.x g) e ∙ sym (ap as_core arm.is)))
    c.number_of-in-Exists.ensures.numbered

pub returns-in_ok-f-in-Infinite-clause-numbered : goal.returns-in_ok-f-in-Infinite-clause-numbered
returns-in_ok-f-in-Infinite-clause-numbered t c =
    let arm = c.in-Infinite in
    let whole = c.args.core.now in
    let a = c.in_ok-f-in-Infinite.f in
    let operand = rw c.as_core-in-Infinite.ensures at c.in_ok-f-in-Infinite.ensures.numbered in
    IfOk-weaker c.number_of-in-Infinite.result _ _
    (λ n last before so_far.
    numbered_one before c.args.roots.now.keys c.number_core-in-Infinite.new.roots.keys c.number_of-in-Infinite.new.roots.keys arm.f (as_core whole) (Infinite arm.x a) a n
    (operand before so_far) last (postorder-one whole arm.f (inr (inr (arm.x, arm.is)))) (λ e. ap (λ g. theory.Infinite arm.x g) e ∙ sym (ap as_core arm.is)))
    c.number_of-in-Infinite.ensures.numbered
