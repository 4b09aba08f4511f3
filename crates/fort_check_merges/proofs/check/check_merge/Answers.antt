use Rattle.std.proofs.Common.{◌≡◌, ◌≤◌, true, length, refl, ap, sym, ◌∙◌, subst, arith}
use Rattle.fort_tables.specs.MergeOutcomes.{Merges, IsRight}
use Rattle.fort_check_steps.specs.Room.{most_states}
use Rattle.fort_check_steps.specs.Held.{room_table}
use Rattle.fort_check_steps.specs.declared.room.PartRoom.{PartRoom}
use Rattle.fort_check_merges.specs.Leaders.{AreLeadersTo}
use Rattle.fort_check_merges.proofs.RoomTables.{own_given, given_is, states_most, holds_joined, holds_unjoined}
use Rattle.fort_check_merges.proofs.check.check_merge.Goals as goal

pub check_classes-requires-clause-room : goal.check_classes-requires-clause-room
check_classes-requires-clause-room c =
    let room = c.args.room.now in
    let few : length room.presences.items ≤ most_states c.args.targets.now =
    subst (λ qs. length room.presences.items ≤ most_states qs) (own_given c.args.targets.now room c.requires.not_merged) (states_most (room_table c.args.signature.now c.args.columns c.args.targets.now room) c.requires.table.listed) in
    omega (arith, few, c.requires.scratch.leaders, ap length c.as_slice.ensures.value)

pub returns-then-len-classes-clause-outcome : goal.returns-then-len-classes-clause-outcome
returns-then-len-classes-clause-outcome c =
    let same = given_is c.args.signature.now c.args.columns c.args.targets.now c.args.room.now c.as_slice.result.now c.as_slice-2.result.now c.as_slice.ensures.value c.as_slice-2.ensures.value c.requires.not_merged in
    let all : length c.check_classes.new.leaders.items ≡ length c.args.classes.now = omega (arith, c.len.ensures, c.if-len-classes.true, c.check_classes.new.leaders.ok.0) in
    let holds = holds_unjoined c.args.signature.now c.args.columns c.args.targets.now c.args.classes.now c.check_classes.new.leaders.items c.args.room.now c.requires.table c.as_slice.result.now c.as_slice-2.result.now same
    c.in-Ok.ensures.classes all in
    (Merges, IsRight holds.merge, refl)

pub returns-then-len-classes-clause-merge : goal.returns-then-len-classes-clause-merge
returns-then-len-classes-clause-merge c =
    let same = given_is c.args.signature.now c.args.columns c.args.targets.now c.args.room.now c.as_slice.result.now c.as_slice-2.result.now c.as_slice.ensures.value c.as_slice-2.ensures.value c.requires.not_merged in
    let all : length c.check_classes.new.leaders.items ≡ length c.args.classes.now = omega (arith, c.len.ensures, c.if-len-classes.true, c.check_classes.new.leaders.ok.0) in
    let holds = holds_unjoined c.args.signature.now c.args.columns c.args.targets.now c.args.classes.now c.check_classes.new.leaders.items c.args.room.now c.requires.table c.as_slice.result.now c.as_slice-2.result.now same
    c.in-Ok.ensures.classes all in
    holds.merge

pub returns-then-len-classes-clause-merged : goal.returns-then-len-classes-clause-merged
returns-then-len-classes-clause-merged c =
    let same = given_is c.args.signature.now c.args.columns c.args.targets.now c.args.room.now c.as_slice.result.now c.as_slice-2.result.now c.as_slice.ensures.value c.as_slice-2.ensures.value c.requires.not_merged in
    let all : length c.check_classes.new.leaders.items ≡ length c.args.classes.now = omega (arith, c.len.ensures, c.if-len-classes.true, c.check_classes.new.leaders.ok.0) in
    let holds = holds_unjoined c.args.signature.now c.args.columns c.args.targets.now c.args.classes.now c.check_classes.new.leaders.items c.args.room.now c.requires.table c.as_slice.result.now c.as_slice-2.result.now same
    c.in-Ok.ensures.classes all in
    holds.table

pub returns-then-len-classes-clause-entries : goal.returns-then-len-classes-clause-entries
returns-then-len-classes-clause-entries c =
    let same = given_is c.args.signature.now c.args.columns c.args.targets.now c.args.room.now c.as_slice.result.now c.as_slice-2.result.now c.as_slice.ensures.value c.as_slice-2.ensures.value c.requires.not_merged in
    let all : length c.check_classes.new.leaders.items ≡ length c.args.classes.now = omega (arith, c.len.ensures, c.if-len-classes.true, c.check_classes.new.leaders.ok.0) in
    let holds = holds_unjoined c.args.signature.now c.args.columns c.args.targets.now c.args.classes.now c.check_classes.new.leaders.items c.args.room.now c.requires.table c.as_slice.result.now c.as_slice-2.result.now same
    c.in-Ok.ensures.classes all in
    holds.entries

pub returns-clause-merge : goal.returns-clause-merge
returns-clause-merge c =
    let same = given_is c.args.signature.now c.args.columns c.args.targets.now c.args.room.now c.as_slice.result.now c.as_slice-2.result.now c.as_slice.ensures.value c.as_slice-2.ensures.value c.requires.not_merged in
    let new : PartRoom = record { presences = c.keep.new.elements; finals = c.keep-2.new.elements; merged = c.check_targets.new.merged; is_merged = true } in
    let o = c.in-Ok-check_targets.ensures.outcome in
    let led = subst (AreLeadersTo c.args.classes.now (length c.args.classes.now)) (sym (c.as_slice-leaders.ensures.value ∙ c.in-Ok-check_targets.ensures.leaders)) c.in-Ok.ensures.classes.firsts in
    let holds = holds_joined c.args.signature.now c.args.columns c.args.targets.now c.args.classes.now c.as_slice-leaders.result.now c.args.room.now c.requires.table c.as_slice.result.now c.as_slice-2.result.now same
    new refl o.0 o.1 o.2 led c.in-Ok-check_targets.ensures.merged c.keep.ensures.count c.keep.ensures.elements c.keep-2.ensures.count c.keep-2.ensures.elements in
    holds.merge

pub returns-clause-merged : goal.returns-clause-merged
returns-clause-merged c =
    let same = given_is c.args.signature.now c.args.columns c.args.targets.now c.args.room.now c.as_slice.result.now c.as_slice-2.result.now c.as_slice.ensures.value c.as_slice-2.ensures.value c.requires.not_merged in
    let new : PartRoom = record { presences = c.keep.new.elements; finals = c.keep-2.new.elements; merged = c.check_targets.new.merged; is_merged = true } in
    let o = c.in-Ok-check_targets.ensures.outcome in
    let led = subst (AreLeadersTo c.args.classes.now (length c.args.classes.now)) (sym (c.as_slice-leaders.ensures.value ∙ c.in-Ok-check_targets.ensures.leaders)) c.in-Ok.ensures.classes.firsts in
    let holds = holds_joined c.args.signature.now c.args.columns c.args.targets.now c.args.classes.now c.as_slice-leaders.result.now c.args.room.now c.requires.table c.as_slice.result.now c.as_slice-2.result.now same
    new refl o.0 o.1 o.2 led c.in-Ok-check_targets.ensures.merged c.keep.ensures.count c.keep.ensures.elements c.keep-2.ensures.count c.keep-2.ensures.elements in
    holds.table

pub returns-clause-entries : goal.returns-clause-entries
returns-clause-entries c =
    let same = given_is c.args.signature.now c.args.columns c.args.targets.now c.args.room.now c.as_slice.result.now c.as_slice-2.result.now c.as_slice.ensures.value c.as_slice-2.ensures.value c.requires.not_merged in
    let new : PartRoom = record { presences = c.keep.new.elements; finals = c.keep-2.new.elements; merged = c.check_targets.new.merged; is_merged = true } in
    let o = c.in-Ok-check_targets.ensures.outcome in
    let led = subst (AreLeadersTo c.args.classes.now (length c.args.classes.now)) (sym (c.as_slice-leaders.ensures.value ∙ c.in-Ok-check_targets.ensures.leaders)) c.in-Ok.ensures.classes.firsts in
    let holds = holds_joined c.args.signature.now c.args.columns c.args.targets.now c.args.classes.now c.as_slice-leaders.result.now c.args.room.now c.requires.table c.as_slice.result.now c.as_slice-2.result.now same
    new refl o.0 o.1 o.2 led c.in-Ok-check_targets.ensures.merged c.keep.ensures.count c.keep.ensures.elements c.keep-2.ensures.count c.keep-2.ensures.elements in
    holds.entries

pub returns-clause-held : goal.returns-clause-held
returns-clause-held c =
    let same = given_is c.args.signature.now c.args.columns c.args.targets.now c.args.room.now c.as_slice.result.now c.as_slice-2.result.now c.as_slice.ensures.value c.as_slice-2.ensures.value c.requires.not_merged in
    let new : PartRoom = record { presences = c.keep.new.elements; finals = c.keep-2.new.elements; merged = c.check_targets.new.merged; is_merged = true } in
    let o = c.in-Ok-check_targets.ensures.outcome in
    let led = subst (AreLeadersTo c.args.classes.now (length c.args.classes.now)) (sym (c.as_slice-leaders.ensures.value ∙ c.in-Ok-check_targets.ensures.leaders)) c.in-Ok.ensures.classes.firsts in
    let holds = holds_joined c.args.signature.now c.args.columns c.args.targets.now c.args.classes.now c.as_slice-leaders.result.now c.args.room.now c.requires.table c.as_slice.result.now c.as_slice-2.result.now same
    new refl o.0 o.1 o.2 led c.in-Ok-check_targets.ensures.merged c.keep.ensures.count c.keep.ensures.elements c.keep-2.ensures.count c.keep-2.ensures.elements in
    holds.held

pub returns-clause-fewer : goal.returns-clause-fewer
returns-clause-fewer c =
    let same = given_is c.args.signature.now c.args.columns c.args.targets.now c.args.room.now c.as_slice.result.now c.as_slice-2.result.now c.as_slice.ensures.value c.as_slice-2.ensures.value c.requires.not_merged in
    let new : PartRoom = record { presences = c.keep.new.elements; finals = c.keep-2.new.elements; merged = c.check_targets.new.merged; is_merged = true } in
    let o = c.in-Ok-check_targets.ensures.outcome in
    let led = subst (AreLeadersTo c.args.classes.now (length c.args.classes.now)) (sym (c.as_slice-leaders.ensures.value ∙ c.in-Ok-check_targets.ensures.leaders)) c.in-Ok.ensures.classes.firsts in
    let holds = holds_joined c.args.signature.now c.args.columns c.args.targets.now c.args.classes.now c.as_slice-leaders.result.now c.args.room.now c.requires.table c.as_slice.result.now c.as_slice-2.result.now same
    new refl o.0 o.1 o.2 led c.in-Ok-check_targets.ensures.merged c.keep.ensures.count c.keep.ensures.elements c.keep-2.ensures.count c.keep-2.ensures.elements in
    omega (arith, holds.fewer, ap length (own_given c.args.targets.now c.args.room.now c.requires.not_merged))
