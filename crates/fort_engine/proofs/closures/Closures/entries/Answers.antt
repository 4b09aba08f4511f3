use Rattle.std.proofs.Common.{◌≤◌, List, map, length, refl, ap, sym, subst, arith}
use Rattle.std.specs.Prelude.{Contains}
use Rattle.std.specs.List.{All}
use Rattle.std.proofs.lemmas.List.{take_all}
use Rattle.fort_findings.specs.FindingView.{as_which}
use Rattle.fort_engine.specs.declared.closures.IndexClosure.{IndexClosure}
use Rattle.fort_engine.specs.Closures.{name_of, ListsItsPasses}
use Rattle.fort_engine.proofs.ClosureLaws.{ListsPasses-named}
use Rattle.fort_engine.proofs.closures.Closures.entries.Goals as goal

pub returns-then-is_of : goal.returns-then-is_of
returns-then-is_of c system passed there =
    let own : IndexClosure = c.closure-item.result in
    let all : All (ListsItsPasses system) c.deref-closure-items.result.now = subst (All (ListsItsPasses system)) (sym c.deref-closure-items.ensures.value) passed in
    let passes : ListsItsPasses system own = subst (ListsItsPasses system) (sym c.closure-item.is) (all c.loop-closure.closure-index own c.loop-closure-test.true) in
    rw c.deref.ensures.value (ListsPasses-named system own (as_which c.args.which) c.args.index (c.if-is_of.ensures.0 refl) passes)

pub returns : goal.returns
returns c system passed there =
    let cs : List IndexClosure = c.args.self.now.list.items in
    let end : length cs ≤ c.loop-closure.closure-index = omega (arith, c.loop-closure-test.false, ap length c.deref-closure-items.ensures.value) in
    absurd (c.loop-closure.invariant (subst (λ (xs : List IndexClosure). Contains (map name_of xs) (as_which c.args.which, c.args.index))
    (sym (take_all c.loop-closure.closure-index cs end)) there))
