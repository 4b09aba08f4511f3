use Rattle.std.proofs.Common.{◌≡◌, ◌+◌, ◌-◌, ◌<◌, ℕ, List, take, set, length, get_or, ap, sym, ◌∙◌, subst, arith}
use Rattle.std.proofs.lemmas.List.{length-set}
use Rattle.fort_tables.specs.Tuples.{kid_presence}
use Rattle.fort_tables.specs.Tables.{listed_table}
use Rattle.fort_tables.specs.Refinement.{IsRefined}
use Rattle.fort_reduce.specs.Walks.{IsWalked}
use Rattle.fort_reduce.specs.declared.classes.Classes.{Classes}
use Rattle.fort_reduce.proofs.WholeLaws.{AreWholeTo, begun_more, taken_more, taken_length, set_front, front_less, visited_rest, whole_to_skip, whole_to_all}
use Rattle.fort_reduce.proofs.passes.+visit_kids.Goals as goal
use Rattle.fort_reduce.proofs.passes.+visit_kids.Goals.{then-presences-q+in_ok-visit_kids, else-presences-q}

pub visit_kids-requires : goal.visit_kids-requires
visit_kids-requires t c =
    let table = listed_table c.args.targets.now.table.now in
    let j = c.args.j in
    let q = c.loop-q.q in
    let v = c.loop-q.invariant in
    let want : c.kid_presence-want.result ≡ kid_presence table.signature c.args.targets.now.symbol j = c.kid_presence-want.ensures.value ∙ ap (λ s. kid_presence s c.args.targets.now.symbol j) c.signature.ensures in
    let fits : get_or table.presences q 0 ≡ kid_presence table.signature c.args.targets.now.symbol j = ap (λ (ps : List ℕ). get_or ps q 0) (sym c.requires.presences) ∙ (c.if-presences-q.true ∙ want) in
    let some : 0 < c.args.rest - 1 = omega (arith, c.if-rest-eq1.false, c.requires.some) in
    let low : j < length c.loop-q.kids = omega (arith, v.room, c.requires.few_kids, c.requires.some) in (
      omega (arith, c.decreases, c.requires.some),
      (
        c.requires.presences,
        (
          c.requires.symbol,
          (
            omega (arith, c.requires.count, some),
            (
              omega (arith, c.requires.few_kids, some),
              (
                some,
                (
                  omega (arith, v.room, length-set c.loop-q.kids j q),
                  (
                    begun_more table c.args.targets.now.symbol c.args.kids.now c.loop-q.kids j q v.kept low (omega (arith, c.requires.room, c.requires.few_kids)) c.requires.before
                        (omega (arith, ap (λ (ps : List ℕ). length ps) c.requires.presences)) fits,
                    (c.requires.few, v.refined),
                  ),
                ),
              ),
            ),
          ),
        ),
      ),
    )

pub loop-q-preserved : goal.loop-q-preserved
loop-q-preserved t c =
    let table = listed_table c.args.targets.now.table.now in
    let o = c.args.classes.now.of.items in
    let l = c.args.classes.now.leaders.items in
    let o1 = c.loop-q.classes.of.items in
    let l1 = c.loop-q.classes.leaders.items in
    let f = c.args.targets.now.symbol in
    let j = c.args.j in
    let q = c.loop-q.q in
    let n = c.args.rest - 1 in
    let v = c.loop-q.invariant in
    let before = take j c.args.kids.now in
    let low : j < length c.loop-q.kids = omega (arith, v.room, c.requires.few_kids, c.requires.some) in
    let ks = take (j + 1) (set c.loop-q.kids j q) in
    let is = taken_more c.args.kids.now c.loop-q.kids j q v.kept low in
    let want : c.kid_presence-want.result ≡ kid_presence table.signature f j = c.kid_presence-want.ensures.value ∙ ap (λ s. kid_presence s f j) c.signature.ensures in
    let F : Classes → Type 0 = λ (x : Classes). IsWalked (AreWholeTo table o l f before n (q + 1)) o l x.of.items x.leaders.items in
    let R : Classes → Type 0 = λ (x : Classes). IsRefined table x.of.items x.leaders.items in
    let K : List ℕ → Type 0 = λ xs. take j xs ≡ before in
    record {
      kept = elim c.if-presences-q.branch [
        | then-presences-q+in_ok-visit_kids w ↦ subst K (sym w.kids-is) (front_less w.visit_kids.new.kids (set c.loop-q.kids j q) j w.in_ok-visit_kids.ensures.kept ∙ (set_front c.loop-q.kids j q ∙ v.kept))
        | else-presences-q w ↦ subst K (sym w.kids-is) v.kept
      ];
      room = omega (arith, c.if-presences-q.auto.kids, c.loop-q.auto.kids, c.requires.room, v.room);
      refined = elim c.if-presences-q.branch [
        | then-presences-q+in_ok-visit_kids w ↦ subst R (sym w.classes-is) w.in_ok-visit_kids.ensures.refined
        | else-presences-q w ↦ subst R (sym w.classes-is) v.refined
      ];
      walked = elim c.if-presences-q.branch [
        | then-presences-q+in_ok-visit_kids w ↦ subst F (sym w.classes-is)
            (visited_rest table o l o1 l1 w.visit_kids.new.classes.of.items w.visit_kids.new.classes.leaders.items f before ks n q is v.walked w.in_ok-visit_kids.ensures.walked)
        | else-presences-q w ↦ subst F (sym w.classes-is)
            (whole_to_skip table o l o1 l1 f before n q
            (λ e. w.if-presences-q.false (ap (λ (ps : List ℕ). get_or ps q 0) c.requires.presences ∙ (e ∙ (ap (kid_presence table.signature f) (taken_length c.args.kids.now j (omega (arith, c.requires.room, c.requires.few_kids))) ∙ sym want)))) v.walked)
      ];
    }

pub returns-clause-walked : goal.returns-clause-walked
returns-clause-walked t c =
    let table = listed_table c.args.targets.now.table.now in
    whole_to_all table c.args.classes.now.of.items c.args.classes.now.leaders.items c.loop-q.classes.of.items c.loop-q.classes.leaders.items c.args.targets.now.symbol (take c.args.j c.args.kids.now) (c.args.rest - 1) c.args.rest c.loop-q.q
    (omega (arith, c.requires.some)) (omega (arith, c.loop-q-test.false, c.loop-q.auto.q-end, ap (λ (ps : List ℕ). length ps) c.requires.presences)) c.loop-q.invariant.walked
