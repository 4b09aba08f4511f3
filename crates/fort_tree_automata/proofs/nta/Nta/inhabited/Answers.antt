use Rattle.std.proofs.Common.{◌≡◌, suc, length, false, ap, sym, ◌∙◌, rules}
use Rattle.std.proofs.Math.ListN.{replicate}
use Rattle.std.proofs.lemmas.List.{length-replicate}
use Rattle.fort_tree_automata.specs.Marks.{with_pass}
use Rattle.fort_tree_automata.proofs.MarksLaws.{trues, Stays-any}
use Rattle.fort_tree_automata.proofs.SettledLaws.{passes_none, passes_more, passes_nearer, IsPass-both, IsSettled-at}
use Rattle.fort_tree_automata.proofs.InhabitedLaws.{MarksInhabited-settled}
use Rattle.fort_tree_automata.proofs.nta.Nta.inhabited.Goals as goal

pub loop-flags-init : goal.loop-flags-init
loop-flags-init c =
    let made : c.in_ok-flags.flags.items ≡ replicate c.args.self.now.states false = search (rules, c.in_ok-flags.ensures.items_if_clones_equal) in (
      0,
      passes_none (with_pass c.args.self.now) c.mark_any.new.flags.items,
      ap length c.mark_any.ensures ∙ ((Stays-any c.in_ok-flags.flags.items c.args.self.now.any).length_same ∙ (ap length made ∙ length-replicate c.args.self.now.states false)),
    )

pub returns-then-count_marked-before-clause-count : goal.returns-then-count_marked-before-clause-count
returns-then-count_marked-before-clause-count c =
    ap length c.pass.ensures ∙ (((IsPass-both c.args.self.now).stays c.loop-flags.flags.items).length_same ∙ c.loop-flags.invariant.2)

pub returns-then-count_marked-before-clause-exact : goal.returns-then-count_marked-before-clause-exact
returns-then-count_marked-before-clause-exact c =
    let i = c.loop-flags.invariant in
    let made : c.in_ok-flags.flags.items ≡ replicate c.args.self.now.states false = search (rules, c.in_ok-flags.ensures.items_if_clones_equal) in
    let was : c.count_marked-before.result ≡ trues c.loop-flags.flags.items = c.count_marked-before.ensures ∙ ap trues c.deref.ensures.value in
    let now : c.count_marked.result ≡ trues c.pass.new.flags.items = c.count_marked.ensures ∙ ap trues c.deref-in-loop-flags.ensures.value in
    MarksInhabited-settled c.args.self.now c.requires c.in_ok-flags.flags.items c.mark_any.new.flags.items c.pass.new.flags.items made
    (ap length made ∙ length-replicate c.args.self.now.states false) c.mark_any.ensures
    (IsSettled-at (with_pass c.args.self.now) (IsPass-both c.args.self.now) i.0 c.mark_any.new.flags.items c.loop-flags.flags.items c.pass.new.flags.items i.1 c.pass.ensures
    (sym now ∙ (c.if-count_marked-before.true ∙ was)))

pub loop-flags-smaller : goal.loop-flags-smaller
loop-flags-smaller c =
    let was : c.count_marked-before.result ≡ trues c.loop-flags.flags.items = c.count_marked-before.ensures ∙ ap trues c.deref.ensures.value in
    let now : c.count_marked.result ≡ trues c.pass.new.flags.items = c.count_marked.ensures ∙ ap trues c.deref-in-loop-flags.ensures.value in
    passes_nearer (with_pass c.args.self.now) (IsPass-both c.args.self.now) c.args.self.now.states c.loop-flags.flags.items c.pass.new.flags.items c.pass.ensures
    c.loop-flags.invariant.2 (λ same. c.if-count_marked-before.false (now ∙ (same ∙ sym was)))

pub loop-flags-preserved : goal.loop-flags-preserved
loop-flags-preserved c =
    let i = c.loop-flags.invariant in
    let stays = (IsPass-both c.args.self.now).stays c.loop-flags.flags.items in (
      suc i.0,
      passes_more (with_pass c.args.self.now) i.0 c.mark_any.new.flags.items c.loop-flags.flags.items c.pass.new.flags.items i.1 c.pass.ensures,
      ap length c.pass.ensures ∙ (stays.length_same ∙ i.2),
    )
