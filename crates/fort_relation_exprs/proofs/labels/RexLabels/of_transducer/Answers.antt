use Rattle.std.proofs.Common.{◌≡◌, ℕ, Bool, suc, ◌+◌, map, refl, sym, ap, subst, ◌∙◌, arith}
use Rattle.fort_tables.specs.BitRows.{words_for}
use Rattle.fort_tree_automata.specs.NtaView.{automaton_of}
use Rattle.fort_alike.specs.AutomatonMoves.{AreMovesOf}
use Rattle.fort_label_bits.specs.RowBits.{bit_of}
use Rattle.fort_label_bits.specs.BitRowLists.{row_in}
use Rattle.fort_relation_exprs.specs.Sides.{IsSide, leads_in, moves_in}
use Rattle.fort_relation_exprs.specs.RexInside.{place_pair}
use Rattle.fort_relation_exprs.proofs.RexLaws.{pair-low, pairs-again, none-plus, one-more}
use Rattle.fort_relation_exprs.proofs.labels.RexLabels.of_transducer.Goals as goal

pub rules_under-requires : goal.rules_under-requires
rules_under-requires c =
    let are = rw c.deref.ensures.value at c.in_ok-pairs.ensures in
    rw c.deref-2.ensures.value (λ r k. (pair-low c.args.agtt.now c.requires.named c.in_ok-pairs.pairs.items are r k).0)

pub invariant_of-result : goal.invariant_of-result
invariant_of-result c =
    let agtt = c.args.agtt.now in
    let lefts : c.in_ok-left.left.count ≡ agtt.left.states = c.in_ok-left.ensures.count in
    let rights : c.in_ok-right.right.count ≡ agtt.right.states = c.in_ok-right.ensures.count in
    let are = rw c.deref.ensures.value at c.in_ok-pairs.ensures in
    record {
      arguments = c.requires.arguments;
      left =
          subst (λ n. IsSide 0 (suc (words_for n)) c.in_ok-left.left) (sym lefts)
          (subst (λ w. IsSide 0 w c.in_ok-left.left) (one-more (words_for agtt.left.states)) c.in_ok-left.ensures.side);
      right =
          subst (λ n. IsSide n (suc (words_for (n + c.in_ok-right.right.count))) c.in_ok-right.right) (sym lefts)
          (subst (λ n. IsSide agtt.left.states (suc (words_for (agtt.left.states + n))) c.in_ok-right.right) (sym rights)
          (subst (λ w. IsSide agtt.left.states w c.in_ok-right.right) (one-more (words_for (agtt.left.states + agtt.right.states))) c.in_ok-right.ensures.side));
      pairs = λ r k.
          let low = pair-low agtt c.requires.named c.in_ok-pairs.pairs.items are r k in
          (omega (arith, low.0, lefts), omega (arith, low.1, rights));
      under = rw c.deref-2.ensures.value at c.in_ok-under.ensures;
    }

pub returns : goal.returns
returns c =
    let agtt = c.args.agtt.now in
    let lefts : c.in_ok-left.left.count ≡ agtt.left.states = c.in_ok-left.ensures.count in
    let are = rw c.deref.ensures.value at c.in_ok-pairs.ensures in
    record {
      shape = refl;
      lefts = lefts;
      rights = c.in_ok-right.ensures.count;
      left =
          subst (λ (leads : ℕ → ℕ → Bool). AreMovesOf (automaton_of agtt.left) agtt.left.states (moves_in c.in_ok-left.left) leads)
          (λ i p k. bit_of (none-plus k i) (row_in (leads_in c.in_ok-left.left) p)) c.in_ok-left.ensures.moves;
      right =
          subst (λ n. AreMovesOf (automaton_of agtt.right) agtt.right.states (moves_in c.in_ok-right.right) (λ p k. bit_of (n + k) (row_in (leads_in c.in_ok-right.right) p))) (sym lefts)
          c.in_ok-right.ensures.moves;
      pairs = ap (map place_pair) are ∙ pairs-again agtt.pairs.items;
    }
