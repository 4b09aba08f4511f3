use Rattle.std.proofs.Common.{◌≡◌, ◌+◌, ◌<◌, suc, length, subst, refl, arith}
use Rattle.fort_outline.specs.Outlines.{parts_in, core_at}
use Rattle.fort_outline.proofs.RootLaws.{length-cores_of}
use Rattle.fort_cert_checker.specs.Sources.{IsSourceOf}
use Rattle.fort_cert_checker.proofs.SourceLaws.{negation_source}
use Rattle.fort_cert_checker.proofs.plan.source_of.Goals as goal

pub loop-body-init : goal.loop-body-init
loop-body-init c = record {
  within = omega arith;
  along = λ p n source.
      let same : n ≡ n + 0 = omega arith in
      subst (IsSourceOf (parts_in c.args.outline.now) (core_at c.args.outline.now c.args.k) p) same source;
}

pub turned_body-requires-clause-within : goal.turned_body-requires-clause-within
turned_body-requires-clause-within c = omega (arith, c.requires.within, c.loop-body.invariant.within)

pub overflow_add-turns : goal.overflow_add-turns
overflow_add-turns c = omega (arith, c.requires.within, c.requires.few, c.loop-body.invariant.within, c.in-Some.ensures.some.before)

pub loop-body-preserved : goal.loop-body-preserved
loop-body-preserved c =
    let o = c.args.outline.now in
    let turns = c.loop-body.turns in
    record {
      within = omega (arith, c.loop-body.invariant.within, c.in-Some.ensures.some.before);
      along = λ p n source.
          let more : suc n + turns ≡ n + (turns + 1) = omega arith in
          subst (IsSourceOf (parts_in o) (core_at o c.args.k) p) more
          (c.loop-body.invariant.along p (suc n) (negation_source (parts_in o) c.loop-body.part c.in-Some.body c.in-Some.ensures.some p n source));
    }

pub loop-body-smaller : goal.loop-body-smaller
loop-body-smaller c = omega (arith, c.in-Some.ensures.some.before)

pub overflow_cast-result : goal.overflow_cast-result
overflow_cast-result c = omega (arith, c.requires.within, c.requires.few, c.loop-body.invariant.within)

pub returns : goal.returns
returns c =
    let o = c.args.outline.now in
    let part = c.loop-body.part in
    let low : part < length (parts_in o) = omega (arith, c.requires.within, c.loop-body.invariant.within, length-cores_of o.roots.items) in
    let same : 0 + c.loop-body.turns ≡ c.loop-body.turns = omega arith in
    subst (IsSourceOf (parts_in o) (core_at o c.args.k) part) same (c.loop-body.invariant.along part 0 ((low, refl), c.in_default.ensures.none))
