use Rattle.std.proofs.Common.{◌≡◌, ℕ, ◌+◌, List, [], ◌∷◌, ◌++◌, length, IfSome, arith, ap, sym, ◌∙◌, subst, length-append}
use Rattle.fort_explore.proofs.ExploreLaws.{exploring_ready, exploring_allowed, exploring_give, placed_over}
use Rattle.fort_explore.proofs.table.give_targets.Goals as goal

length-appended : (xs ys : List ℕ) (x : ℕ) → ys ≡ xs ++ x ∷ [] → length ys ≡ length xs + 1
length-appended xs ys x h = ap length h ∙ length-append xs (x ∷ [])

pub place_of-requires-clause-ready : goal.place_of-requires-clause-ready
place_of-requires-clause-ready g c =
    let f = c.entries.found in
    let r = c.requires.exploring in
    (r.0, r.1, exploring_ready r.0 _ (g.L.Labeller.label c.args.labeller.now) c.entries.maker f.firsts f.labels.labels c.in-Some.row.now (c.entries.invariant.exploring r.0 r.1 r.2) c.in-Some.ensures.some.is_entry)

pub returns-then-len-cap-clause-over : goal.returns-then-len-cap-clause-over
returns-then-len-cap-clause-over g c = λ sig s old _.
    let f = c.entries.found in
    let n = g.L.Labeller.column_count c.args.labeller.now in
    let label = g.L.Labeller.label c.args.labeller.now in
    let ready = exploring_ready sig n label c.entries.maker f.firsts f.labels.labels c.in-Some.row.now (c.entries.invariant.exploring sig s old) c.in-Some.ensures.some.is_entry in
    let p = c.in_ok-q.ensures.placed sig s ready in
    let over = placed_over sig n label f.firsts c.place_of.new.found.firsts f.labels.labels c.place_of.new.found.labels.labels c.in-Some.row.now c.in_ok-q.q c.args.cap p c.entries.invariant.few (omega (arith, c.len.ensures)) in
    record { tuples = over.0; nodes = over.1 }

pub give-requires-clause-allowed : goal.give-requires-clause-allowed
give-requires-clause-allowed g c =
    let f = c.entries.found in
    let r = c.requires.exploring in
    let n = g.L.Labeller.column_count c.args.labeller.now in
    let label = g.L.Labeller.label c.args.labeller.now in
    let x = c.entries.invariant.exploring r.0 r.1 r.2 in
    let ready = exploring_ready r.0 n label c.entries.maker f.firsts f.labels.labels c.in-Some.row.now x c.in-Some.ensures.some.is_entry in
    let p = c.in_ok-q.ensures.placed r.0 r.1 ready in
    (c.in-Some.row.now, exploring_allowed r.0 n label c.entries.maker f.firsts c.place_of.new.found.firsts f.labels.labels c.place_of.new.found.labels.labels c.in-Some.row.now c.in_ok-q.q x c.in-Some.ensures.some p)

pub give-requires-clause-few : goal.give-requires-clause-few
give-requires-clause-few g c =
    let f = c.entries.found in
    let r = c.requires.exploring in
    let x = c.entries.invariant.exploring r.0 r.1 r.2 in
    let ready = exploring_ready r.0 _ (g.L.Labeller.label c.args.labeller.now) c.entries.maker f.firsts f.labels.labels c.in-Some.row.now x c.in-Some.ensures.some.is_entry in
    let p = c.in_ok-q.ensures.placed r.0 r.1 ready in
    omega (arith, p.within, c.len.ensures, c.if-len-cap.false, c.ranges.cap.fits)

pub overflow_cast-q : goal.overflow_cast-q
overflow_cast-q g c =
    let f = c.entries.found in
    let r = c.requires.exploring in
    let x = c.entries.invariant.exploring r.0 r.1 r.2 in
    let ready = exploring_ready r.0 _ (g.L.Labeller.label c.args.labeller.now) c.entries.maker f.firsts f.labels.labels c.in-Some.row.now x c.in-Some.ensures.some.is_entry in
    let p = c.in_ok-q.ensures.placed r.0 r.1 ready in
    omega (arith, p.within, c.len.ensures, c.if-len-cap.false, c.ranges.cap.fits)

pub entries-preserved : goal.entries-preserved
entries-preserved g c =
    let f = c.entries.found in
    let n = g.L.Labeller.column_count c.args.labeller.now in
    let label = g.L.Labeller.label c.args.labeller.now in
    let due = c.in-Some.ensures.some in
    let given = c.in_ok-give.ensures.given c.in-Some.row.now due in
    record {
      exploring = λ sig s old.
          let x = c.entries.invariant.exploring sig s old in
          let ready = exploring_ready sig n label c.entries.maker f.firsts f.labels.labels c.in-Some.row.now x due.is_entry in
          let p = c.in_ok-q.ensures.placed sig s ready in
          exploring_give sig n label c.entries.maker c.give.new.self f.firsts c.place_of.new.found.firsts f.labels.labels c.place_of.new.found.labels.labels c.in-Some.row.now c.in_ok-q.q x due.is_entry p given;
      listed = subst (λ (ts : List ℕ). IfSome c.list_target.new.targets (λ v. v.items ≡ ts)) (sym given.targets) (c.in_ok-list_target.ensures.list c.entries.maker.targets c.entries.invariant.listed);
      there = c.in_ok-list_target.ensures.there ∙ c.entries.invariant.there;
      same = c.in_ok-q.ensures.same;
      width = c.in_ok-q.ensures.width ∙ c.entries.invariant.width;
      kept = c.place_of.ensures.kept;
      room = c.place_of.auto.out ∙ c.entries.invariant.room;
      few = omega (arith, c.len.ensures);
      grows = omega (arith, c.place_of.ensures.steps, c.entries.invariant.grows);
      steps = omega (arith, c.place_of.ensures.steps, c.entries.invariant.steps, length-appended c.entries.maker.targets c.give.new.self.targets c.in_ok-q.q given.targets);
    }

pub returns-clause-whole : goal.returns-clause-whole
returns-clause-whole g c = λ sig s old _. record {
  exploring = c.entries.invariant.exploring sig s old;
  complete = c.in_default.ensures.none;
  few = c.entries.invariant.few;
}
