use Rattle.std.proofs.Common.{map, subst, sym}
use Rattle.fort_synth.specs.CandidateRules.{rules_at}
use Rattle.fort_synth.specs.FamilyView.{as_family_rule}
use Rattle.fort_synth.specs.SearchSteps.{IsOutcome, MayAskEach}
use Rattle.fort_synth.proofs.SearchOutcomes.{may_ask_each, outcome_found, outcome_none, outcome_fault}
use Rattle.fort_synth.proofs.search.first_system.Goals as goal

pub search-requires-clause-callable : goal.search-requires-clause-callable
search-requires-clause-callable g c =
    let family = map as_family_rule c.args.family.now in
    let each = may_ask_each g.F.Fn c.args.decide.now c.args.signature.now family c.args.count c.requires.ascend c.requires.callable in
    subst (λ places. MayAskEach g.F.Fn c.args.decide.now c.args.signature.now (rules_at family places) c.args.count family) (sym c.new-chosen.ensures.items) each

pub returns : goal.returns
returns g c =
    let family = map as_family_rule c.args.family.now in
    let out =
    subst (λ places. IsOutcome g.F.Fn c.args.decide.now c.args.signature.now (rules_at family places) c.args.count family c.search.result)
    c.new-chosen.ensures.items c.search.ensures.outcome in
    record {
      found = outcome_found g.F.Fn c.args.decide.now c.args.signature.now family c.args.count c.search.result c.requires.ascend out;
      none = outcome_none g.F.Fn c.args.decide.now c.args.signature.now family c.args.count c.search.result c.requires.ascend out;
      fault = outcome_fault g.F.Fn c.args.decide.now c.args.signature.now family c.args.count c.search.result c.requires.ascend out;
    }
