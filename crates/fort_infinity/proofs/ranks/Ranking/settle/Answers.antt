use Rattle.std.proofs.Common.{◌≡◌, ◌<◌, ◌+◌, ℕ, suc, List, [], length, get_or, vec_len, ◌∙◌, sym, arith, subst}
use Rattle.std.specs.Prelude.{Contains}
use Rattle.std.proofs.lemmas.Bool.{eqb-true}
use Rattle.std.proofs.lemmas.List.{nil_from_length, get_or_default}
use Rattle.fort_tables.specs.Tables.{Table}
use Rattle.fort_tables.proofs.EqualTests.{apart_from_test}
use Rattle.fort_infinity.specs.Rankings.{AreReady, AreWoken, HasUnranked}
use Rattle.fort_infinity.proofs.RoundLaws.{settled_now, next_ready, settled_at_end, waiting_unranked}
use Rattle.fort_infinity.proofs.TryLaws.{OnErr-always, room_for, ranked_within}
use Rattle.fort_infinity.proofs.ranks.Ranking.settle.Goals as goal

pub woken-requires : goal.woken-requires
woken-requires c =
    let w = c.requires.ready in
    let ready = subst (λ (xs : List ℕ). AreReady w.0 w.1 c.args.children.now c.loop-round.round c.loop-round.self xs) (sym c.deref.ensures.value) (c.loop-round.invariant w.0 w.1 w.2) in
    let h = c.in_ok-ranked.ensures.tried w.0 w.1 ready in
    subst (λ (xs : List ℕ). (i : ℕ) → i < length xs → get_or xs i 0 < length c.round.new.self.waiting) (sym c.deref-in-loop-round.ensures.value)
    (ranked_within w.0 w.1 c.args.children.now c.loop-round.round c.loop-round.self c.round.new.self [] c.in_ok-ranked.ranked.items h)

pub loop-round-preserved : goal.loop-round-preserved
loop-round-preserved c = λ body column start.
    let ready = c.loop-round.invariant body column start in
    let h = c.in_ok-ranked.ensures.tried body column (subst (λ (xs : List ℕ). AreReady body column c.args.children.now c.loop-round.round c.loop-round.self xs) (sym c.deref.ensures.value) ready) in
    let ranked = c.in_ok-ranked.ranked.items in
    let woken : AreWoken c.round.new.self ranked c.in_ok-tried.tried.items = subst (λ (xs : List ℕ). AreWoken c.round.new.self xs c.in_ok-tried.tried.items) c.deref-in-loop-round.ensures.value c.in_ok-tried.ensures.woken in
    let some : vec_len c.in_ok-ranked.ranked ≡ 0 → ⊥ = apart_from_test (vec_len c.in_ok-ranked.ranked) 0 (sym c.is_empty.ensures ∙ c.if-is_empty.false) in
    let l : 0 < length ranked = omega (arith, some, c.in_ok-ranked.ranked.ok.0) in
    let first : Contains ranked (get_or ranked 0 0) = (0, l, get_or_default ranked 0 (get_or ranked 0 0) 0 l) in
    let e : suc c.loop-round.round ≡ c.loop-round.round + 1 = omega arith in
    subst (λ (r : ℕ). AreReady body column c.args.children.now r c.round.new.self c.in_ok-tried.tried.items) e
    (next_ready body column c.args.children.now c.loop-round.round c.loop-round.self c.round.new.self ranked ready.ranks h c.in_ok-tried.tried.items woken (get_or ranked 0 0) first)

pub returns-then-is_empty : goal.returns-then-is_empty
returns-then-is_empty c =
    let ranked = c.in_ok-ranked.ranked.items in
    let none : vec_len c.in_ok-ranked.ranked ≡ 0 = eqb-true (vec_len c.in_ok-ranked.ranked) 0 (sym c.is_empty.ensures ∙ c.if-is_empty.true) in
    let empty : ranked ≡ [] = nil_from_length ranked (omega (arith, c.in_ok-ranked.ranked.ok.0)) in
    let w = c.requires.ready in
    record {
      room = room_for w.0 w.1 c.args.children.now c.loop-round.round c.loop-round.self c.round.new.self [] ranked
          (c.in_ok-ranked.ensures.tried w.0 w.1 (subst (λ (xs : List ℕ). AreReady w.0 w.1 c.args.children.now c.loop-round.round c.loop-round.self xs) (sym c.deref.ensures.value) (c.loop-round.invariant w.0 w.1 w.2)));
      settled = λ body column start.
          let ready = c.loop-round.invariant body column start in
          let h = c.in_ok-ranked.ensures.tried body column (subst (λ (xs : List ℕ). AreReady body column c.args.children.now c.loop-round.round c.loop-round.self xs) (sym c.deref.ensures.value) ready) in
          settled_now body column c.args.children.now c.loop-round.round c.loop-round.self c.round.new.self ranked ready.ranks h empty;
      memory = tt;
    }

pub returns : goal.returns
returns c =
    let w = c.requires.ready in
    record {
      room = room_for w.0 w.1 c.args.children.now c.loop-round.round c.loop-round.self c.loop-round.self c.loop-round.tried.items [] (c.loop-round.invariant w.0 w.1 w.2).start;
      settled = λ body column start.
          let ready = c.loop-round.invariant body column start in
          settled_at_end body column c.args.children.now c.loop-round.round c.loop-round.self c.loop-round.tried.items ready (omega (arith, ready.start.are_children.count, c.loop-round-test.false, c.states-rounds.ensures));
      memory = tt;
    }

pub loop-round-init : goal.loop-round-init
loop-round-init c = λ body column start. start

pub round-requires-clause-ready : goal.round-requires-clause-ready
round-requires-clause-ready c =
    let w = c.requires.ready in
    (w.0, w.1, subst (λ (xs : List ℕ). AreReady w.0 w.1 c.args.children.now c.loop-round.round c.loop-round.self xs) (sym c.deref.ensures.value) (c.loop-round.invariant w.0 w.1 w.2))

pub returns-in_err-ranked-clause-memory : goal.returns-in_err-ranked-clause-memory
returns-in_err-ranked-clause-memory c =
    let wanted : (body : Table) (column : ℕ) → AreReady body column c.args.children.now 0 c.args.self.now c.args.alone.items → HasUnranked body column c.round.new.self =
    λ body column start. c.in_err-ranked.ensures.memory body column (subst (λ (xs : List ℕ). AreReady body column c.args.children.now c.loop-round.round c.loop-round.self xs) (sym c.deref.ensures.value) (c.loop-round.invariant body column start)) in
    OnErr-always c.from_residual.result _ wanted

pub returns-in_err-tried-clause-memory : goal.returns-in_err-tried-clause-memory
returns-in_err-tried-clause-memory c =
    let ranked = c.in_ok-ranked.ranked.items in
    let wanted : (body : Table) (column : ℕ) → AreReady body column c.args.children.now 0 c.args.self.now c.args.alone.items → HasUnranked body column c.round.new.self =
    λ body column start.
    let ready = c.loop-round.invariant body column start in
    let h = c.in_ok-ranked.ensures.tried body column (subst (λ (xs : List ℕ). AreReady body column c.args.children.now c.loop-round.round c.loop-round.self xs) (sym c.deref.ensures.value) ready) in
    let m = c.in_err-tried.ensures.memory in
    waiting_unranked body column c.args.children.now c.loop-round.round c.loop-round.self c.round.new.self ranked ready.ranks h m.0 m.1 (subst (λ (xs : List ℕ). Contains xs m.0) c.deref-in-loop-round.ensures.value m.2) m.3 in
    OnErr-always c.from_residual-in_err-tried.result _ wanted
