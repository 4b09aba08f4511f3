use Rattle.std.proofs.Common.{◌≡◌, suc, length, ap, sym, ◌∙◌, refl}
use Rattle.fort_tree_automata.specs.Marks.{with_silent}
use Rattle.fort_tree_automata.proofs.MarksLaws.{trues}
use Rattle.fort_tree_automata.proofs.SettledLaws.{passes_none, passes_more, passes_nearer, IsPass-silent, IsSettled-at}
use Rattle.fort_tree_automata.proofs.flags.settle.Goals as goal

pub loop-before-init : goal.loop-before-init
loop-before-init c = (0, passes_none (with_silent c.args.silent.now) c.args.flags.now.items, refl)

pub returns-then-count_marked-before : goal.returns-then-count_marked-before
returns-then-count_marked-before c =
    let i = c.loop-before.invariant in
    let was : c.count_marked-before.result ≡ trues c.loop-before.flags.items = c.count_marked-before.ensures ∙ ap trues c.deref.ensures.value in
    let now : c.count_marked.result ≡ trues c.mark_by_silent.new.flags.items = c.count_marked.ensures ∙ ap trues c.deref-in-loop-before.ensures.value in
    IsSettled-at (with_silent c.args.silent.now) (IsPass-silent c.args.silent.now) i.0 c.args.flags.now.items c.loop-before.flags.items c.mark_by_silent.new.flags.items i.1 c.mark_by_silent.ensures
    (sym now ∙ (c.if-count_marked-before.true ∙ was))

pub loop-before-smaller : goal.loop-before-smaller
loop-before-smaller c =
    let was : c.count_marked-before.result ≡ trues c.loop-before.flags.items = c.count_marked-before.ensures ∙ ap trues c.deref.ensures.value in
    let now : c.count_marked.result ≡ trues c.mark_by_silent.new.flags.items = c.count_marked.ensures ∙ ap trues c.deref-in-loop-before.ensures.value in
    passes_nearer (with_silent c.args.silent.now) (IsPass-silent c.args.silent.now) (length c.args.flags.now.items) c.loop-before.flags.items c.mark_by_silent.new.flags.items c.mark_by_silent.ensures
    c.loop-before.invariant.2 (λ same. c.if-count_marked-before.false (now ∙ (same ∙ sym was)))

pub loop-before-preserved : goal.loop-before-preserved
loop-before-preserved c =
    let i = c.loop-before.invariant in
    let stays = (IsPass-silent c.args.silent.now).stays c.loop-before.flags.items in (
      suc i.0,
      passes_more (with_silent c.args.silent.now) i.0 c.args.flags.now.items c.loop-before.flags.items c.mark_by_silent.new.flags.items i.1 c.mark_by_silent.ensures,
      ap length c.mark_by_silent.ensures ∙ (stays.length_same ∙ i.2),
    )
