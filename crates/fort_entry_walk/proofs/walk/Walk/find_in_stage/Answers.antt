use Rattle.std.proofs.Common.{refl, sym, ◌∙◌}
use Rattle.fort_entry_walk.proofs.CandidateEntries.{no_candidate, none_there, first_there}
use Rattle.fort_entry_walk.proofs.walk.Walk.find_in_stage.Goals as goal

pub returns-in-Some-clause-next : goal.returns-in-Some-clause-next
returns-in-Some-clause-next c =
    let i = c.symbols.invariant in
    let step = c.symbols-test.ensures in
    let wanted = rw c.digits.ensures.digits at c.wants_of-wanted.ensures in
    let first = rw (c.states.ensures.states, wanted) at c.in-Some.ensures.next in
    record {
      placed = record { stage = c.in-Some.ensures.stage_is; digits = step.digits; kids = c.in-Some.ensures.states; wanted = wanted };
      at_stage = refl;
      width = step.width ∙ i.width;
      first = rw c.states.ensures.states at c.in-Some.ensures.next;
      next = sym i.same ∙ first_there c.args.sig.now c.args.presences.now c.args.stage c.stage_range-range.result c.symbols.self.digits c.to_next_candidate.new.row c.in-Some.kids (c.stage_range-range.ensures c.args.sig.now c.requires.arities.at_most) i.digits step.digits step.next first;
    }

pub symbols-preserved : goal.symbols-preserved
symbols-preserved c =
    let i = c.symbols.invariant in
    let step = c.symbols-test.ensures in
    let wanted = rw c.digits.ensures.digits at c.wants_of-wanted.ensures in
    let none = rw (c.states.ensures.states, wanted) at c.in-None.ensures.next in
    record {
      width = step.width ∙ i.width;
      arities = i.arities;
      digits = step.digits;
      others = record { stage = i.others.stage; kids = i.others.kids; wanted = i.others.wanted };
      same = none_there c.args.sig.now c.args.presences.now c.args.stage c.stage_range-range.result c.symbols.self.digits c.to_next_candidate.new.row (c.stage_range-range.ensures c.args.sig.now c.requires.arities.at_most) i.digits step.digits step.next none ∙ i.same;
    }

pub returns-clause-next : goal.returns-clause-next
returns-clause-next c =
    let i = c.symbols.invariant in
    sym i.same ∙ no_candidate c.args.sig.now c.args.presences.now c.args.stage c.stage_range-range.result c.symbols.self.digits (c.stage_range-range.ensures c.args.sig.now c.requires.arities.at_most) i.digits c.symbols-test.ensures.next
