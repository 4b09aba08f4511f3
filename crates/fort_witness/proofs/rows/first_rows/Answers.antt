use Rattle.std.proofs.Common.{◌≡◌, suc, ◌+◌, ◌<◌, List, length, get_or, refl, ap, sym, ◌∙◌, arith, subst}
use Rattle.std.specs.BinaryHeap.{heap_items}
use Rattle.std.proofs.lemmas.List.{get_or_default}
use Rattle.fort_tables.specs.Entries.{tuples_of}
use Rattle.fort_witness.specs.declared.head.Head.{Head}
use Rattle.fort_witness.specs.Solving.{AreFirstRows}
use Rattle.fort_witness.specs.Choices.{AreListed, lists_of}
use Rattle.fort_witness.proofs.FirstRowsLaws.{rows_none, rows_full, rows_missing, rows_found, none_distinct}
use Rattle.fort_witness.proofs.rows.first_rows.Goals.{then-count-most+in-Some+in_ok-push-in-Some, then-count-most+in-None, else-count-most}
use Rattle.fort_witness.proofs.rows.first_rows.Goals as goal

pub loop-k-init : goal.loop-k-init
loop-k-init c = λ t h is es n o. rows_none t (suc c.args.most) h c.args.span.low (tuples_of c.args.kept.now.dag) c.args.kept.now.states.items c.args.entries.now (heap_items c.args.heads.now) c.requires.empty
    (none_distinct c.args.kept.now.states.items (heap_items c.args.heads.now) c.requires.empty) c.requires.heap

pub loop-k-preserved : goal.loop-k-preserved
loop-k-preserved c = λ t h is es n o.
    let f = c.args.kept.now in
    let ts = tuples_of f.dag in
    let entries = c.args.entries.now in
    let k = c.loop-k.k in
    let keep = suc c.args.most in
    let listed : AreListed (length (lists_of f.lists)) f.states.items (lists_of f.lists) = subst (λ m. AreListed m f.states.items (lists_of f.lists)) (sym n.lists.count) n.lists in
    let y = c.index-entries-k.result in
    let inside : k < length entries = omega (arith, c.loop-k-test.true) in
    let at : (d : Head) → get_or entries k d ≡ y = λ d. sym (c.index-entries-k.is ∙ get_or_default entries k y d inside) in
    let r = c.loop-k.invariant t h is es n o in
    let e : suc k ≡ k + 1 = omega arith in
    let G : List Head → Type 0 = λ hs. AreFirstRows t keep h c.args.span.low ts f.states.items entries (k + 1) hs in
    let F : List Head → Type 0 = λ hs. AreFirstRows t keep h c.args.span.low ts f.states.items entries (suc k) hs in
    let to : (hs : List Head) → F hs → G hs = λ hs a. subst (λ m. AreFirstRows t keep h c.args.span.low ts f.states.items entries m hs) e a in
    elim c.if-count-most.branch [
      | then-count-most+in-Some+in_ok-push-in-Some w ↦
          let x : Head = record { row = w.in-Some.row; state = y.state } in
          subst G (ap heap_items (sym w.heads-is)) (to _ (rows_found t keep h c.args.span.low c.args.span.end f entries (heap_items c.loop-k.heads) _ k x y is es inside at c.requires.end n o w.in-Some.ensures.symbol refl (w.in-Some.ensures.some f.states.items listed) w.in_ok-push-in-Some.ensures.permutation w.in_ok-push-in-Some.ensures.heap_order r))
      | then-count-most+in-None w ↦
          subst G (ap heap_items (sym w.heads-is)) (to (heap_items c.loop-k.heads) (rows_missing t keep h c.args.span.low c.args.span.end f entries (heap_items c.loop-k.heads) k y at c.requires.end n (w.in-None.ensures.none f.states.items listed) r))
      | else-count-most w ↦
          subst G (ap heap_items (sym w.heads-is)) (to (heap_items c.loop-k.heads) (rows_full t keep h c.args.span.low f entries (heap_items c.loop-k.heads) k y is (omega arith) es inside at n o (omega (arith, w.if-count-most.false, c.count.ensures)) r))
    ]

pub returns : goal.returns
returns c = λ t h is es n o.
    let e : c.loop-k.k ≡ length c.args.entries.now = omega (arith, c.loop-k-test.false, c.loop-k.auto.k-end) in
    subst (λ m. AreFirstRows t (suc c.args.most) h c.args.span.low (tuples_of c.args.kept.now.dag) c.args.kept.now.states.items c.args.entries.now m (heap_items c.loop-k.heads)) e (c.loop-k.invariant t h is es n o)
