use Rattle.std.proofs.Common.{List, ℕ, ◌*◌, ◌^◌, ◌≤◌, map, sym, subst, ◌∙◌, arith}
use Rattle.fort_check_steps.specs.Room.{HasLabelRoom, HasLeaderRoom, most_states}
use Rattle.fort_check_steps.specs.declared.room.ListNeeds.{ListNeeds}
use Rattle.fort_check_steps.proofs.RoomLaws.{has_label_room, more_room}
use Rattle.fort_steps.specs.StepView.{as_step}
use Rattle.fort_cert_checker.specs.OperandLists.{AreNeedsOf}
use Rattle.fort_cert_checker.proofs.ListLaws.{lists_needed, targets_needed}
use Rattle.fort_cert_checker.proofs.making.label_needs.Goals as goal

pub returns-clause-some : goal.returns-clause-some
returns-clause-some c = λ scratch has.
    let made = c.with_lists-listed.result in
    let own = more_room c.max.ensures.own has in
    let space = c.with_lists-listed.ensures.labels c.width_of.result c.most_states-states.result c.in-Some.ensures.some in
    record {
      width = c.width_of.result;
      is_width = c.width_of.ensures;
      sized = λ targets only.
          subst (λ (ts : List ℕ). HasLabelRoom c.width_of.result ts scratch) (c.targets_of-targets.ensures.own targets only)
          (has_label_room c.width_of.result c.most_states-states.result c.targets_of-targets.result.now made scratch space own (omega (arith, c.most_states-states.ensures)));
      lists = lists_needed (map as_step c.args.steps.now) c.args.plan.now.work made scratch
          (subst (λ (n : ListNeeds). AreNeedsOf (map as_step c.args.steps.now) c.args.plan.now.work n made.second) (sym c.with_lists-listed.ensures.first)
          (subst (λ (n : ListNeeds). AreNeedsOf (map as_step c.args.steps.now) c.args.plan.now.work c.list_needs.result.0 n) (sym c.with_lists-listed.ensures.second) c.list_needs.ensures)) own;
      leaders = λ targets only merged.
          subst (λ (ts : List ℕ). HasLeaderRoom ts scratch) (c.targets_of-targets.ensures.own targets only)
          (c.merge_needs-merge.ensures (c.is_merged.ensures ∙ merged) scratch (more_room c.max.ensures.other has));
    }

pub returns-in_default-clause-none : goal.returns-in_default-clause-none
returns-in_default-clause-none c =
    let targets = c.targets_of-targets.result.now in
    let width = c.width_of.result in
    let many : 2 ^ 64 ≤ width * most_states targets = subst (λ (n : ℕ). 2 ^ 64 ≤ width * n) c.most_states-states.ensures c.in_default.ensures.none in
    let first = c.targets_of-targets.ensures.first (targets_needed width targets many) in
    record {
      width = width;
      is_width = c.width_of.ensures;
      step = first.0;
      first = first.1;
      many = subst (λ (ts : List ℕ). 2 ^ 64 ≤ width * most_states ts) first.2 many;
    }
