use Rattle.std.proofs.Common.{◌∙◌, ap, not, arith}
use Rattle.std.specs.Prelude.{map, vec_items}
use Rattle.fort_synth.proofs.TextNames.{name_passed, name_added, all_names}
use Rattle.fort_synth.proofs.text.variable_names.Goals as goal
use Rattle.fort_synth.proofs.text.variable_names.Goals.{then-is_none+in_ok-push, else-is_none}

pub loop-k-init : goal.loop-k-init
loop-k-init c = ap (map vec_items) c.new-names.ensures.items

pub loop-k-preserved : goal.loop-k-preserved
loop-k-preserved c =
    elim c.if-is_none.branch [
      | then-is_none+in_ok-push w ↦
          name_added c.args.signature.now c.loop-k.k c.loop-k.names.items c.if-is_none.names.items c.in_ok-name.name c.deref.result.now c.find.result c.loop-k.invariant
          c.in_ok-name.ensures c.deref.ensures.value
          (c.is_none.ensures ∙ ap not w.if-is_none.true) c.find.ensures.none (ap vec_items w.names-is ∙ w.in_ok-push.ensures.items)
      | else-is_none w ↦
          name_passed c.args.signature.now c.loop-k.k c.loop-k.names.items c.if-is_none.names.items c.deref.result.now c.find.result c.loop-k.invariant
          (c.deref.ensures.value ∙ c.in_ok-name.ensures)
          (c.is_none.ensures ∙ ap not w.if-is_none.false) c.find.ensures.found (ap vec_items w.names-is)
    ]

pub returns-clause-names : goal.returns-clause-names
returns-clause-names c = all_names c.args.signature.now c.args.last c.loop-k.k c.loop-k.names.items c.loop-k.invariant (omega arith)
