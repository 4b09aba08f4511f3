use Rattle.std.proofs.Common.{◌≡◌, ◌<◌, [], ◌++◌, length, sym, ap, ◌∙◌, arith, append-nil}
use Rattle.std.proofs.lemmas.List.{get_or_default}
use Rattle.fort_theory.specs.Trees.{Node, Nil}
use Rattle.fort_run.proofs.TermTexts.{comma, comma-there, comma-first, solution-column, solution-line}
use Rattle.fort_run.proofs.solutions.push_solution.Goals as goal
use Rattle.fort_run.proofs.solutions.push_solution.Goals.{then-column-gt0+in_ok-extend_from_slice, else-column-gt0}

pub loop-column-init : goal.loop-column-init
loop-column-init c = λ ts are. sym (append-nil c.args.text.now.items)

pub push_binding-requires : goal.push_binding-requires
push_binding-requires c = record { terms = (c.args.names.now, c.requires.0, c.requires.1, omega (arith, c.loop-column-test.true)) }

pub loop-column-preserved : goal.loop-column-preserved
loop-column-preserved c = λ ts are.
    let names = c.args.names.now in
    let k = c.loop-column.column in
    let d = Node 0 Nil in
    let low : k < length names = omega (arith, c.loop-column-test.true) in
    let old = c.loop-column.text.items in
    let first : c.if-column-gt0.text.items ≡ old ++ comma k =
    elim c.if-column-gt0.branch [
      | then-column-gt0+in_ok-extend_from_slice w ↦
          ap (λ v. v.items) w.text-is
          ∙ (w.in_ok-extend_from_slice.ensures.items ∙ ap (λ t. old ++ t) (sym (comma-there k w.if-column-gt0.true)))
      | else-column-gt0 w ↦
          ap (λ v. v.items) w.text-is ∙ (sym (append-nil old) ∙ ap (λ t. old ++ t) (sym (comma-first k w.if-column-gt0.false)))
    ] in
    solution-column c.args.signature.now names ts k d c.args.text.now.items old c.if-column-gt0.text.items
    c.push_binding.new.text.items c.as_bytes-name.result.now low are.count (c.loop-column.invariant ts are) first
    (c.as_bytes-name.ensures ∙ (c.index-names-column.is ∙ get_or_default names k c.index-names-column.result [] low))
    (c.in_ok-push_binding.ensures names ts d are low)

pub returns : goal.returns
returns c = λ ts are.
    solution-line c.args.signature.now c.args.names.now ts c.loop-column.column c.args.text.now.items
    c.loop-column.text.items c.push.new.self.items (omega arith) are.count (c.loop-column.invariant ts are) c.in_ok-push.ensures.items
