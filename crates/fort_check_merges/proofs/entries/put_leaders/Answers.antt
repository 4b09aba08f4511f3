use Rattle.std.proofs.Common.{◌<◌, set, length, get_or, ap, sym, ◌∙◌, arith, ⊎_elim}
use Rattle.std.proofs.lemmas.Bool.{cases_eq}
use Rattle.std.proofs.lemmas.List.{length-set, get_or-set_same, get_or-set_other}
use Rattle.fort_tables.specs.Merges.{leader}
use Rattle.fort_check_merges.proofs.LeaderLaws.{leader_at}
use Rattle.fort_check_merges.proofs.entries.put_leaders.Goals as goal

pub bounds-leaders-classes : goal.bounds-leaders-classes
bounds-leaders-classes c =
    (leader_at c.args.classes.now c.args.leaders.now c.requires.leaders (get_or c.args.kids.now c.loop-j.j 0) (c.requires.within c.loop-j.j (omega (arith, c.loop-j-test.true, c.loop-j.auto.j-end)))).0

pub loop-j-preserved : goal.loop-j-preserved
loop-j-preserved c =
    let j = c.loop-j.j in
    let inside : j < length c.args.kids.now = omega (arith, c.loop-j-test.true, c.loop-j.auto.j-end) in
    let at = leader_at c.args.classes.now c.args.leaders.now c.requires.leaders (get_or c.args.kids.now j 0) (c.requires.within j inside) in
    let p = get_or c.args.leaders.now (get_or c.args.classes.now (get_or c.args.kids.now j 0) 0) 0 in
    let room : j < length c.loop-j.states = omega (arith, c.loop-j.invariant.room, c.requires.room) in
    record {
      room = length-set c.loop-j.states j p ∙ c.loop-j.invariant.room;
      are = λ i l. ⊎_elim
          (λ same. ap (λ n. get_or (set c.loop-j.states j p) n 0) same ∙ (get_or-set_same c.loop-j.states j p 0 room ∙ (at.1 ∙ ap (λ n. leader c.args.classes.now (get_or c.args.kids.now n 0)) (sym same))))
          (λ other. get_or-set_other c.loop-j.states j i p 0 other ∙ c.loop-j.invariant.are i (omega (arith, other)))
          (cases_eq i j);
    }
