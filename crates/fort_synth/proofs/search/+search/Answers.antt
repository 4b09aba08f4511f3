use Rattle.std.proofs.Common.{◌≡◌, suc, ◌-◌, ◌<◌, ◌≤◌, map, length, arith, sym, ◌∙◌, vec_len}
use Rattle.std.proofs.lemmas.List.{length-map}
use Rattle.std.proofs.lemmas.Result.{err_from_is_err_and}
use Rattle.fort_synth.specs.CandidateRules.{rules_at}
use Rattle.fort_synth.specs.FamilyView.{as_family_rule}
use Rattle.fort_synth.proofs.SearchOutcomes.{may_ask_here, may_ask_behind, walk_found, walk_fault, walk_none, passed_all, next_front, count_next, within_next, taken_off}
use Rattle.fort_synth.proofs.search.+search.Goals as goal

pub search-requires : goal.search-requires
search-requires g t c κs within =
    let family = map as_family_rule c.args.family.now in
    let chosen = c.args.chosen.now.items in
    let before = c.loop-place.chosen.items in
    let after = c.push.new.self.items in
    let place = c.loop-place.place in
    let pushed = c.in_ok-push.ensures.items in
    let same = c.loop-place.invariant.same in
    let low : place < length family = omega (arith, c.loop-place-test.true, length-map c.args.family.now as_family_rule) in
    let more : c.args.left ≡ suc (c.args.left - 1) = omega (arith, c.if-left-eq0.false) in
    let few = count_next chosen before after place pushed same in
    let callable =
    may_ask_here g.F.Fn c.args.decide.now c.args.signature.now (rules_at family chosen) (rules_at family after) c.args.left (c.args.left - 1) family place more low
    (next_front family chosen before after place pushed same) c.loop-place.invariant.callable in (
      omega (arith, c.decreases, more),
      (
        within.0,
        (
          within.1,
          (
            c.requires.constant,
            (
              c.requires.fits,
              (
                omega (arith, few, c.requires.few, more),
                (within_next (length c.args.family.now) chosen before after place pushed same c.requires.within c.loop-place-test.true, (omega (arith, c.loop-place-test.true), callable)),
              ),
            ),
          ),
        ),
      ),
    )

pub returns-in_err-found-clause-outcome : goal.returns-in_err-found-clause-outcome
returns-in_err-found-clause-outcome g t c =
    let family = map as_family_rule c.args.family.now in
    let chosen = c.args.chosen.now.items in
    let before = c.loop-place.chosen.items in
    let after = c.push.new.self.items in
    let place = c.loop-place.place in
    let low : place < length family = omega (arith, c.loop-place-test.true, length-map c.args.family.now as_family_rule) in
    let more : c.args.left ≡ suc (c.args.left - 1) = omega (arith, c.if-left-eq0.false) in
    let next = next_front family chosen before after place c.in_ok-push.ensures.items c.loop-place.invariant.same in
    let p = err_from_is_err_and c.from_residual-in_err-found.result c.from_residual-in_err-found.ensures.1 in
    rw (p.1, p.2)
    (walk_fault g.F.Fn c.args.decide.now c.args.signature.now (rules_at family chosen) (rules_at family after) c.args.left (c.args.left - 1) family place more low next
    c.args.from c.in_err-found.field-0.0 c.loop-place.invariant.passed c.in_err-found.ensures.outcome)

pub returns-then-is_some-clause-outcome : goal.returns-then-is_some-clause-outcome
returns-then-is_some-clause-outcome g t c =
    let family = map as_family_rule c.args.family.now in
    let chosen = c.args.chosen.now.items in
    let before = c.loop-place.chosen.items in
    let after = c.push.new.self.items in
    let place = c.loop-place.place in
    let low : place < length family = omega (arith, c.loop-place-test.true, length-map c.args.family.now as_family_rule) in
    let more : c.args.left ≡ suc (c.args.left - 1) = omega (arith, c.if-left-eq0.false) in
    let next = next_front family chosen before after place c.in_ok-push.ensures.items c.loop-place.invariant.same in
    walk_found g.F.Fn c.args.decide.now c.args.signature.now (rules_at family chosen) (rules_at family after) c.args.left (c.args.left - 1) family place more low next
    c.args.from c.in_ok-found.found (sym c.is_some.ensures ∙ c.if-is_some.true) c.loop-place.invariant.passed c.in_ok-found.ensures.outcome

pub loop-place-preserved : goal.loop-place-preserved
loop-place-preserved g t c =
    let family = map as_family_rule c.args.family.now in
    let chosen = c.args.chosen.now.items in
    let before = c.loop-place.chosen.items in
    let after = c.push.new.self.items in
    let place = c.loop-place.place in
    let pushed = c.in_ok-push.ensures.items in
    let same = c.loop-place.invariant.same in
    let low : place < length family = omega (arith, c.loop-place-test.true, length-map c.args.family.now as_family_rule) in
    let more : c.args.left ≡ suc (c.args.left - 1) = omega (arith, c.if-left-eq0.false) in
    let none = sym c.is_some.ensures ∙ c.if-is_some.false in
    let long : vec_len c.search.new.chosen ≡ length c.search.new.chosen.items = omega (arith, c.search.new.chosen.ok.0) in
    let next = next_front family chosen before after place pushed same in record {
      same = taken_off c.in_ok-found.found chosen before after c.search.new.chosen.items c.pop.new.self.items place (vec_len c.search.new.chosen) none pushed
          same c.in_ok-found.ensures.same long c.pop.ensures.rest;
      callable =
          may_ask_behind g.F.Fn c.args.decide.now c.args.signature.now (rules_at family chosen) (rules_at family after) c.args.left (c.args.left - 1) family place more low
          next c.loop-place.invariant.callable;
      passed =
          walk_none g.F.Fn c.args.decide.now c.args.signature.now (rules_at family chosen) (rules_at family after) c.args.left (c.args.left - 1) family place more low next
          c.args.from c.in_ok-found.found none c.loop-place.invariant.passed c.in_ok-found.ensures.outcome;
    }

pub returns-clause-outcome : goal.returns-clause-outcome
returns-clause-outcome g t c =
    let family = map as_family_rule c.args.family.now in
    let high : length family ≤ c.loop-place.place = omega (arith, c.loop-place-test.false, length-map c.args.family.now as_family_rule) in
    let more : c.args.left ≡ suc (c.args.left - 1) = omega (arith, c.if-left-eq0.false) in
    passed_all g.F.Fn c.args.decide.now c.args.signature.now (rules_at family c.args.chosen.now.items) c.args.left (c.args.left - 1) family c.args.from c.loop-place.place
    more high c.loop-place.invariant.passed
