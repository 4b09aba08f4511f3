use Rattle.std.proofs.Common.{◌≡◌, ◌+◌, ◌<◌, ℕ, List, take, set, length, get_or, refl, ap, sym, ◌∙◌, subst, arith}
use Rattle.fort_tables.specs.Tuples.{kid_presence}
use Rattle.fort_tables.specs.Entries.{entry}
use Rattle.fort_tables.specs.Tables.{listed_table}
use Rattle.fort_tables.specs.Refinement.{IsRefined}
use Rattle.fort_reduce.specs.Walks.{IsWalked, IsWholeIn}
use Rattle.fort_reduce.specs.Fronts.{IsFront}
use Rattle.fort_reduce.specs.declared.classes.Classes.{Classes}
use Rattle.fort_reduce.specs.declared.front.Front.{Front}
use Rattle.fort_reduce.proofs.PassLaws.{walk_kept}
use Rattle.fort_reduce.proofs.WholeLaws.{AreWholeTo, entry_last, taken_more, taken_length, set_front, visited_one, whole_to_skip, whole_to_all}
use Rattle.fort_reduce.proofs.FrontLaws.{front_again}
use Rattle.fort_reduce.proofs.passes.visit_last.Goals as goal
use Rattle.fort_reduce.proofs.passes.visit_last.Goals.{then-presences-q+then-not-is_whole+in_ok-chain, then-presences-q+else-not-is_whole, else-presences-q}

pub is_whole-requires-clause-entry : goal.is_whole-requires-clause-entry
is_whole-requires-clause-entry c =
    let table = listed_table c.args.targets.now.table.now in
    let f = c.args.targets.now.symbol in
    let j = c.args.j in
    let q = c.loop-q.q in
    let v = c.loop-q.invariant in
    let want : c.kid_presence-want.result ≡ kid_presence table.signature f j = c.kid_presence-want.ensures.value ∙ ap (λ s. kid_presence s f j) c.signature.ensures in
    let fits : get_or table.presences q 0 ≡ kid_presence table.signature f j = ap (λ (ps : List ℕ). get_or ps q 0) (sym c.requires.presences) ∙ (c.if-presences-q.true ∙ want) in
    entry_last table f c.args.kids.now c.loop-q.kids j q c.requires.symbol c.requires.count v.kept (omega (arith, v.room, c.requires.few_kids)) (omega (arith, c.requires.room, c.requires.few_kids)) c.requires.before
    (omega (arith, ap (λ (ps : List ℕ). length ps) c.requires.presences)) fits

pub chain-requires-clause-entry : goal.chain-requires-clause-entry
chain-requires-clause-entry c =
    let table = listed_table c.args.targets.now.table.now in
    let f = c.args.targets.now.symbol in
    let j = c.args.j in
    let q = c.loop-q.q in
    let v = c.loop-q.invariant in
    let want : c.kid_presence-want.result ≡ kid_presence table.signature f j = c.kid_presence-want.ensures.value ∙ ap (λ s. kid_presence s f j) c.signature.ensures in
    let fits : get_or table.presences q 0 ≡ kid_presence table.signature f j = ap (λ (ps : List ℕ). get_or ps q 0) (sym c.requires.presences) ∙ (c.if-presences-q.true ∙ want) in
    entry_last table f c.args.kids.now c.loop-q.kids j q c.requires.symbol c.requires.count v.kept (omega (arith, v.room, c.requires.few_kids)) (omega (arith, c.requires.room, c.requires.few_kids)) c.requires.before
    (omega (arith, ap (λ (ps : List ℕ). length ps) c.requires.presences)) fits

pub is_whole-requires-clause-refined : goal.is_whole-requires-clause-refined
is_whole-requires-clause-refined c = c.loop-q.invariant.refined

pub is_whole-requires-clause-front : goal.is_whole-requires-clause-front
is_whole-requires-clause-front c =
    let v = c.loop-q.invariant in
    let j = c.args.j in
    let q = c.loop-q.q in
    let low : j < length c.loop-q.kids = omega (arith, v.room, c.requires.few_kids) in
    subst (λ (xs : List ℕ). IsFront c.args.targets.now c.loop-q.classes.of.items c.loop-q.classes.leaders.items xs c.loop-q.front)
    (sym (front_again c.args.kids.now c.loop-q.kids j q v.kept low)) v.front

pub loop-q-preserved : goal.loop-q-preserved
loop-q-preserved c =
    let targets = c.args.targets.now in
    let table = listed_table targets.table.now in
    let o = c.args.classes.now.of.items in
    let l = c.args.classes.now.leaders.items in
    let o1 = c.loop-q.classes.of.items in
    let l1 = c.loop-q.classes.leaders.items in
    let f = targets.symbol in
    let j = c.args.j in
    let q = c.loop-q.q in
    let v = c.loop-q.invariant in
    let before = take j c.args.kids.now in
    let low : j < length c.loop-q.kids = omega (arith, v.room, c.requires.few_kids) in
    let ks = take (j + 1) (set c.loop-q.kids j q) in
    let is = taken_more c.args.kids.now c.loop-q.kids j q v.kept low in
    let kept : take j (set c.loop-q.kids j q) ≡ before = set_front c.loop-q.kids j q ∙ v.kept in
    let want : c.kid_presence-want.result ≡ kid_presence table.signature f j = c.kid_presence-want.ensures.value ∙ ap (λ s. kid_presence s f j) c.signature.ensures in
    let F : Classes → Type 0 = λ (x : Classes). IsWalked (AreWholeTo table o l f before 0 (q + 1)) o l x.of.items x.leaders.items in
    let R : Classes → Type 0 = λ (x : Classes). IsRefined table x.of.items x.leaders.items in
    let N : Classes → Front → Type 0 = λ (x : Classes) (y : Front). IsFront targets x.of.items x.leaders.items before y in
    let K : List ℕ → Type 0 = λ xs. take j xs ≡ before in
    record {
      kept = elim c.if-presences-q.branch [
        | then-presences-q+then-not-is_whole+in_ok-chain w ↦ subst K (sym w.kids-is) kept
        | then-presences-q+else-not-is_whole w ↦ subst K (sym w.kids-is) kept
        | else-presences-q w ↦ subst K (sym w.kids-is) v.kept
      ];
      room = omega (arith, c.if-presences-q.auto.kids, c.loop-q.auto.kids, c.requires.room, v.room);
      refined = elim c.if-presences-q.branch [
        | then-presences-q+then-not-is_whole+in_ok-chain w ↦ subst R (sym w.classes-is) w.in_ok-chain.ensures.refined
        | then-presences-q+else-not-is_whole w ↦ subst R (sym w.classes-is) v.refined
        | else-presences-q w ↦ subst R (sym w.classes-is) v.refined
      ];
      front = elim c.if-presences-q.branch [
        | then-presences-q+then-not-is_whole+in_ok-chain w ↦ subst (λ (y : Front). N c.if-presences-q.classes y) (sym w.front-is)
            (subst (λ (x : Classes). N x w.of-front-then-not-is_whole.result) (sym w.classes-is)
            (subst (λ (xs : List ℕ). IsFront targets w.chain.new.classes.of.items w.chain.new.classes.leaders.items xs w.of-front-then-not-is_whole.result) kept w.of-front-then-not-is_whole.ensures))
        | then-presences-q+else-not-is_whole w ↦ subst (λ (y : Front). N c.if-presences-q.classes y) (sym w.front-is) (subst (λ (x : Classes). N x c.loop-q.front) (sym w.classes-is) v.front)
        | else-presences-q w ↦ subst (λ (y : Front). N c.if-presences-q.classes y) (sym w.front-is) (subst (λ (x : Classes). N x c.loop-q.front) (sym w.classes-is) v.front)
      ];
      walked = elim c.if-presences-q.branch [
        | then-presences-q+then-not-is_whole+in_ok-chain w ↦ subst F (sym w.classes-is)
            (visited_one table o l o1 l1 w.chain.new.classes.of.items w.chain.new.classes.leaders.items f before ks 0 q refl is v.walked w.in_ok-chain.ensures.walked)
        | then-presences-q+else-not-is_whole w ↦ subst F (sym w.classes-is)
            (visited_one table o l o1 l1 o1 l1 f before ks 0 q refl is v.walked (walk_kept (IsWholeIn table o1 l1 (entry f ks)) o1 l1 (w.is_whole.ensures w.if-not-is_whole.false)))
        | else-presences-q w ↦ subst F (sym w.classes-is)
            (whole_to_skip table o l o1 l1 f before 0 q
            (λ e. w.if-presences-q.false (ap (λ (ps : List ℕ). get_or ps q 0) c.requires.presences ∙ (e ∙ (ap (kid_presence table.signature f) (taken_length c.args.kids.now j (omega (arith, c.requires.room, c.requires.few_kids))) ∙ sym want)))) v.walked)
      ];
    }

pub returns-clause-walked : goal.returns-clause-walked
returns-clause-walked c =
    let table = listed_table c.args.targets.now.table.now in
    whole_to_all table c.args.classes.now.of.items c.args.classes.now.leaders.items c.loop-q.classes.of.items c.loop-q.classes.leaders.items c.args.targets.now.symbol (take c.args.j c.args.kids.now) 0 1 c.loop-q.q
    (omega arith) (omega (arith, c.loop-q-test.false, c.loop-q.auto.q-end, ap (λ (ps : List ℕ). length ps) c.requires.presences)) c.loop-q.invariant.walked
