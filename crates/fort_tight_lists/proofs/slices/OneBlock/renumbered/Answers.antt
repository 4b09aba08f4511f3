use Rattle.std.proofs.Common.{ℕ, ◌+◌, List, [], ◌∷◌, ◌++◌, ap, sym, ◌∙◌, arith, subst}
use Rattle.fort_tight_lists.specs.declared.slices.Renumbering.{Renumbering}
use Rattle.fort_tight_lists.proofs.RenumberLaws.{IsNumberedTo, numbered_joins, numbered_opens, numbered_all}
use Rattle.fort_tight_lists.proofs.slices.OneBlock.renumbered.Goals.{in-Some+in_ok-push-in-Some, in-None+in_ok-push-in-None+in_ok-push-in-None-2+in_ok-push-in-None-3}
use Rattle.fort_tight_lists.proofs.slices.OneBlock.renumbered.Goals as goal

pub loop-class-preserved : goal.loop-class-preserved
loop-class-preserved c =
    let own = c.args.self.now in
    let F : List (List ℕ) → Renumbering → Type 0 = λ s m. IsNumberedTo own.blocks.now own.block own.counts.now c.args.place (c.loop-class.class + 1) s m.numbers.items m.firsts.items in
    let n = c.loop-class.class in
    let slices = c.loop-class.slices in
    let numbers = c.loop-class.made.numbers.items in
    let firsts = c.loop-class.made.firsts.items in
    let inv = c.loop-class.invariant in
    let is = c.in_ok-slice.ensures in
    elim c.match-find.branch [
      | in-Some+in_ok-push-in-Some w ↦
          subst (λ s. F s c.match-find.made) (sym w.slices-is) (subst (λ m. F slices m) (sym w.made-is)
          (numbered_joins own.blocks.now own.block own.counts.now c.args.place n w.in-Some.number slices numbers firsts w.push.new.self.items c.in_ok-slice.slice.items inv is w.in-Some.ensures.0 (w.in-Some.ensures.1 ∙ c.as_slice.ensures.value) w.in_ok-push-in-Some.ensures.items))
      | in-None+in_ok-push-in-None+in_ok-push-in-None-2+in_ok-push-in-None-3 w ↦
          subst (λ s. F s c.match-find.made) (sym w.slices-is) (subst (λ m. F w.push-in-None-3.new.self m) (sym w.made-is)
          (numbered_opens own.blocks.now own.block own.counts.now c.args.place n slices w.push-in-None-3.new.self numbers firsts w.push-in-None.new.self.items w.push-in-None-2.new.self.items c.in_ok-slice.slice.items inv is w.in_ok-push-in-None-3.ensures.ok
          (w.in_ok-push-in-None.ensures.items ∙ ap (λ k. numbers ++ k ∷ []) (w.len.ensures ∙ c.loop-class.made.firsts.ok.0)) w.in_ok-push-in-None-2.ensures.items))
    ]

pub returns : goal.returns
returns c =
    let own = c.args.self.now in
    numbered_all own.blocks.now own.block own.counts.now c.args.place c.loop-class.class c.loop-class.slices c.loop-class.made.numbers.items c.loop-class.made.firsts.items (omega arith) c.loop-class.invariant
