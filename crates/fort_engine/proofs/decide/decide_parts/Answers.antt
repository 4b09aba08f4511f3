use Rattle.std.proofs.Common.{◌≡◌, ◌+◌, ◌<◌, ◌∷◌, ◌++◌, [], Ok, Err, Some, None, sym, ap, subst, ◌∙◌, arith, refl, length, get_or, length-append}
use Rattle.fort_theory.specs.Kinds.{kind_of}
use Rattle.fort_explore.specs.declared.table.ExploreFault.TheVariants.{Over}
use Rattle.fort_outline.specs.Outlines.{parts_in, core_at}
use Rattle.fort_outline.specs.declared.root.Root.TheVariants.{True}
use Rattle.fort_outline.proofs.RootLaws.{length-cores_of, HasOperandsBelow-more}
use Rattle.fort_engine.specs.declared.answer.Limit.{Limit}
use Rattle.fort_engine.specs.Deciding.{IsNextPart}
use Rattle.fort_engine.specs.Kept.{IsSoFar}
use Rattle.fort_engine.specs.Found.{IsFound, IsDecidedBy}
use Rattle.fort_engine.proofs.OperandLaws.{has_root, next_is}
use Rattle.fort_engine.proofs.DecideLaws.{IsNextPart-at, IsSoFar-none, IsSoFar-more, IsLimit-part}
use Rattle.fort_engine.proofs.decide.decide_parts.Goals as goal

pub loop-k-init : goal.loop-k-init
loop-k-init g c =
    let system = c.args.system.now in
    let o = c.args.outline.now in
    record {
      far = subst (IsSoFar system c.args.options.now (parts_in o) o.last_uses.items 0) (sym c.new-kept.ensures.items)
          (IsSoFar-none system c.args.options.now (parts_in o) o.last_uses.items);
      recorded = subst (g.R.Recorder.recorded c.args.recorder.now system c.args.options.now o 0) (sym c.new-kept.ensures.items) c.requires.begun;
    }

pub decide_part-requires-clause-next : goal.decide_part-requires-clause-next
decide_part-requires-clause-next g c =
    let system = c.args.system.now in
    let o = c.args.outline.now in
    let p = c.requires.planned in
    let k = c.loop-k.k in
    let within : k < length o.roots.items = omega (arith, c.loop-k-test.true, c.len-k-end.ensures) in
    subst (IsNextPart system c.args.options.now o k) (sym c.as_slice-answers.ensures.value)
    (IsNextPart-at system p.0 o p.1.decided p.1.laid c.args.options.now k c.loop-k.kept.items c.loop-k.invariant.far within)

pub returns-in-Err-Over-clause-over : goal.returns-in-Err-Over-clause-over
returns-in-Err-Over-clause-over g c f plan =
    let system = c.args.system.now in
    let o = c.args.outline.now in
    let laid = plan.laid in
    let parts = parts_in o in
    let uses = o.last_uses.items in
    let options = c.args.options.now in
    let k = c.loop-k.k in
    let kept = c.loop-k.kept.items in
    let far = c.loop-k.invariant.far in
    let own = core_at o k in
    let within : k < length o.roots.items = omega (arith, c.loop-k-test.true, c.len-k-end.ensures) in
    let low : k < length parts = omega (arith, length-cores_of o.roots.items) in
    let decided : IsDecidedBy system options own (IsFound system options parts c.as_slice-answers.result.now own) (Err (Over c.in-Err-Over.tuples)) =
    subst (IsDecidedBy system options own (IsFound system options parts c.as_slice-answers.result.now own)) (c.in-Err-Over.is ∙ ap Err c.in-Err-Over.field-0-is)
    c.decide_part.ensures in
    let limit : Limit = record { part = k; kind = c.kind.result; tuples = c.in-Err-Over.tuples } in
    let next = IsNextPart-at system f o plan.decided laid options k kept far within in
    let same = next_is (has_root {r = c.index.result.now} next c.index.ensures refl) in
    rw c.in-Err-Over.field-0-is
    (IsLimit-part system options f parts laid.parts o.whole uses laid.uses k kept far limit low refl (c.kind.ensures parts ∙ ap kind_of (sym same)) decided.over)

pub note-requires-clause-next : goal.note-requires-clause-next
note-requires-clause-next g c =
    let system = c.args.system.now in
    let o = c.args.outline.now in
    let p = c.requires.planned in
    let k = c.loop-k.k in
    let within : k < length o.roots.items = omega (arith, c.loop-k-test.true, c.len-k-end.ensures) in
    subst (IsNextPart system c.args.options.now o k) (sym c.as_slice-answers.ensures.value)
    (IsNextPart-at system p.0 o p.1.decided p.1.laid c.args.options.now k c.loop-k.kept.items c.loop-k.invariant.far within)

pub note-requires-clause-found : goal.note-requires-clause-found
note-requires-clause-found g c =
    let system = c.args.system.now in
    let o = c.args.outline.now in
    let own = core_at o c.loop-k.k in
    let options = c.args.options.now in
    let decided : IsDecidedBy system options own (IsFound system options (parts_in o) c.as_slice-answers.result.now own) (Ok c.in-Ok.decided) =
    subst (IsDecidedBy system options own (IsFound system options (parts_in o) c.as_slice-answers.result.now own)) c.in-Ok.is c.decide_part.ensures in
    decided.ok

pub note-requires-clause-before : goal.note-requires-clause-before
note-requires-clause-before g c =
    subst (g.R.Recorder.recorded c.loop-k.recorder c.args.system.now c.args.options.now c.args.outline.now c.loop-k.k) (sym c.as_slice-answers.ensures.value) c.loop-k.invariant.recorded

pub drop_idle-requires : goal.drop_idle-requires
drop_idle-requires g c =
    let o = c.args.outline.now in
    let laid = c.requires.planned.1.laid in
    let k = c.loop-k.k in
    let kept = c.loop-k.kept.items in
    let within : k < length o.roots.items = omega (arith, c.loop-k-test.true, c.len-k-end.ensures) in
    let pushed : c.push.new.self.items ≡ kept ++ Some c.in_ok-answer.answer ∷ [] = c.in_ok-push.ensures.items in
    let long : length c.push.new.self.items ≡ k + 1 =
    ap length pushed ∙ (length-append kept (Some c.in_ok-answer.answer ∷ []) ∙ omega (arith, c.loop-k.invariant.far.kept_are.count)) in
    record {
      within = within;
      operands = HasOperandsBelow-more k (length c.push.new.self.items) (get_or o.roots.items k True) (omega (arith, long)) (laid.in_order k within);
      uses = omega (arith, long, laid.uses.count, length-cores_of o.roots.items);
    }

pub loop-k-preserved : goal.loop-k-preserved
loop-k-preserved g c =
    let system = c.args.system.now in
    let o = c.args.outline.now in
    let p = c.requires.planned in
    let f = p.0 in
    let laid = p.1.laid in
    let parts = parts_in o in
    let uses = o.last_uses.items in
    let options = c.args.options.now in
    let k = c.loop-k.k in
    let kept = c.loop-k.kept.items in
    let far = c.loop-k.invariant.far in
    let own = core_at o k in
    let answer = c.in-Ok.decided.answer in
    let all = kept ++ Some answer ∷ [] in
    let within : k < length o.roots.items = omega (arith, c.loop-k-test.true, c.len-k-end.ensures) in
    let decided : IsDecidedBy system options own (IsFound system options parts c.as_slice-answers.result.now own) (Ok c.in-Ok.decided) =
    subst (IsDecidedBy system options own (IsFound system options parts c.as_slice-answers.result.now own)) c.in-Ok.is c.decide_part.ensures in
    let pushed : c.push.new.self.items ≡ all = c.in_ok-push.ensures.items ∙ ap (λ a. kept ++ Some a ∷ []) c.in_ok-answer.ensures.answer in
    let long : length all ≡ k + 1 = omega (arith, length-append kept (Some answer ∷ []), far.kept_are.count) in
    let recorded : g.R.Recorder.recorded c.note.new.self system options o (k + 1) all =
    subst (λ xs. g.R.Recorder.recorded c.note.new.self system options o (k + 1) (xs ++ Some answer ∷ [])) c.as_slice-answers.ensures.value c.in_ok-answer.ensures.recorded in
    record {
      far = IsSoFar-more system options f parts laid.parts o.whole uses laid.uses k kept far answer c.drop_idle.new.kept.items decided.ok.right decided.within decided.kept_within
          (c.drop_idle.ensures.count ∙ ap length pushed)
          (λ j l m. c.drop_idle.ensures.needed j (subst (λ n. j < n) (sym (ap length pushed)) l) m ∙ ap (λ xs. get_or xs j None) pushed);
      recorded = g.met.R.Recorder.lets_go c.note.new.self system options o (k + 1) all c.drop_idle.new.kept.items recorded
          (λ j l m.
          let below : j < length c.push.new.self.items = subst (λ n. j < n) (sym (ap length pushed ∙ long)) l in
          c.drop_idle.ensures.needed j below (omega arith) ∙ ap (λ xs. get_or xs j None) pushed);
    }

pub returns-clause-far : goal.returns-clause-far
returns-clause-far g c =
    let o = c.args.outline.now in
    let all : c.loop-k.k ≡ length o.roots.items = omega (arith, c.loop-k-test.false, c.loop-k.auto.k-end, c.len-k-end.ensures) in
    subst (λ n. IsSoFar c.args.system.now c.args.options.now (parts_in o) o.last_uses.items n c.loop-k.kept.items) all c.loop-k.invariant.far

pub returns-clause-recorded : goal.returns-clause-recorded
returns-clause-recorded g c =
    let o = c.args.outline.now in
    let all : c.loop-k.k ≡ length o.roots.items = omega (arith, c.loop-k-test.false, c.loop-k.auto.k-end, c.len-k-end.ensures) in
    subst (λ n. g.R.Recorder.recorded c.loop-k.recorder c.args.system.now c.args.options.now o n c.loop-k.kept.items) all c.loop-k.invariant.recorded
