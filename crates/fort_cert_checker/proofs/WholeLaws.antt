-- Behind steps that are all fine, a room holds the table of which the formula's is made, and there is room to lay it.
use Rattle.std.specs.Prelude.{◌≡◌, ℕ, ◌+◌, ◌*◌, ◌<◌, List, [], take, length, get_or, nat_lt, Contains, true, false, if◌then◌else◌, refl}
use Rattle.std.proofs.Common.{sym, ap, ◌∙◌, subst, arith, append-nil}
use Rattle.std.proofs.lemmas.Bool.{lt-ltb}
use Rattle.std.proofs.lemmas.List.{take_all}
use Rattle.std.proofs.lemmas.List.Elements.{Contains-append_right}
use Rattle.fort_theory.specs.Patterns.{PatternSystem}
use Rattle.fort_theory.specs.Signatures.{Signature}
use Rattle.fort_theory.specs.Cores as core
use Rattle.fort_theory.specs.Cores.{Core}
use Rattle.fort_tables.specs.Tables.{Table}
use Rattle.fort_parts.specs.PartColumns.{columns_of}
use Rattle.fort_parts.specs.PartAnswers.{IsTableOver}
use Rattle.fort_certificate_theory.specs.Certificates.{Step, Part}
use Rattle.fort_certificate_theory.specs.Dues.{OfPart, OfValue, has_columns, is_turned, closures_due, parts_due, is_merged_in, dues_of}
use Rattle.fort_certificate_theory.specs.Made.{MadeSoFar, nothing_made}
use Rattle.fort_certificate_theory.specs.Checked.{IsFine}
use Rattle.fort_certificate_theory.proofs.FineSteps.{chosen}
use Rattle.fort_certificate_theory.proofs.RightParts.{some_columns}
use Rattle.fort_check_steps.specs.Room.{IsListFor}
use Rattle.fort_check_steps.proofs.RoomLaws.{list_fewer, lay_fewer}
use Rattle.fort_check_steps.specs.declared.room.ListNeeds.{ListNeeds}
use Rattle.fort_target_lists.specs.LayRooms.{HasLayRoom}
use Rattle.fort_target_lists.specs.TargetLists.{HasListRoom}
use Rattle.fort_target_lists.specs.declared.states.LayRoom.{LayRoom}
use Rattle.fort_target_lists.specs.declared.target_list.TargetList.{TargetList}
use Rattle.fort_cert_checker.specs.declared.past.Past.{Past}
use Rattle.fort_cert_checker.specs.declared.plan.Source.{Source}
use Rattle.fort_cert_checker.specs.declared.step_checker.StepChecker.{StepChecker}
use Rattle.fort_cert_checker.specs.Abouts.{IsOnlyAbout, targets_in}
use Rattle.fort_cert_checker.specs.Sources.{turned}
use Rattle.fort_cert_checker.specs.OperandLists.{FitsList}
use Rattle.fort_cert_checker.specs.Pasts.{IsElement, IsHeld, IsTableAt}
use Rattle.fort_cert_checker.specs.Fronts.{IsRoomHeld, IsPastOf}
use Rattle.fort_cert_checker.specs.StepCheckers.{IsStepCheckDone, IsWholeTable}
use Rattle.fort_cert_checker.proofs.DueKeys.{dues_up, answer_due_at}
use Rattle.fort_cert_checker.proofs.FrontLaws.{step_of, only_in_front, part_of}
use Rattle.fort_cert_checker.proofs.SourceLaws.{source_table, source_columns, source_part, turned_over}
use Rattle.fort_cert_checker.proofs.KnownAnswers.{held_over}
use Rattle.fort_cert_checker.proofs.LoopKnows.{element_of}

pub has_some : (f : Core) → 0 < length (columns_of f) → has_columns f ≡ true
has_some f some = lt-ltb 0 (length (columns_of f)) some

module _ (system : PatternSystem) (f : Core) (first : ℕ) (ss : List Step) (a : StepChecker) (made : MadeSoFar) (d : IsStepCheckDone system f first ss a made) (some : 0 < length (columns_of f)) where
  abbrev pub parts : List Core
  parts = d.checker.parts

  abbrev pub k : ℕ
  k = a.root.part

  low : k < length parts
  low = (source_part parts f k a.root.turns d.checker.root).0

  plain : is_turned (get_or parts k core.True) ≡ false
  plain = (source_part parts f k a.root.turns d.checker.root).1

  columns : columns_of (get_or parts k core.True) ≡ columns_of f
  columns = source_columns parts f k a.root.turns d.checker.root

  own : has_columns (get_or parts k core.True) ≡ true
  own = ap (λ (xs : List ℕ). nat_lt 0 (length xs)) columns ∙ has_some f some

  -- the step of its targets
  table_step : (targets : List ℕ) × Contains ss (Part k targets)
  table_step =
      let z : 0 + k ≡ k = omega arith in
      let merges = is_merged_in ss in
      let h = answer_due_at merges 0 k parts low plain in
      let is : (if has_columns (get_or parts k core.True) then OfPart (0 + k) else OfValue (0 + k)) ≡ OfPart k =
      chosen (has_columns (get_or parts k core.True)) (OfPart (0 + k)) (OfValue (0 + k)) own ∙ ap OfPart z in
      let due : Contains (dues_of ss (length system.rules) parts) (OfPart k) =
      Contains-append_right (closures_due parts (length system.rules) 1) (parts_due merges 0 parts) (OfPart k) (subst (Contains (parts_due merges 0 parts)) is h) in
      let w = step_of (IsFine system parts) nothing_made made (dues_of ss (length system.rules) parts) ss (OfPart k) d.fine due in
      (targets_in w.0, subst (Contains ss) (part_of w.0 k w.2) w.1)

  only : IsOnlyAbout ss (Part k table_step.0)
  only =
      only_in_front (IsFine system parts) (length system.rules) 3 (3 * (length system.rules + length parts) + 3) nothing_made made (dues_of ss (length system.rules) parts) ss ss [] (Part k table_step.0)
      (dues_up (is_merged_in ss) (length system.rules) parts) d.fine (sym (append-nil ss)) table_step.1

  room_held : IsRoomHeld system parts a.rooms.items (take (length ss) ss) made k table_step.0
  room_held = d.loop.held k table_step.0 (subst (λ (xs : List Step). Contains xs (Part k table_step.0)) (sym (take_all (length ss) ss (omega arith))) table_step.1)

  pub whole_of : Table
  whole_of = turned a.root.turns room_held.table

  module _ (past : Past) (is : IsPastOf system ss a.plans.items a.rooms.items past) where
    -- Result
    pub whole_at : IsTableAt past a.root whole_of
    unfolding whole_of
    whole_at =
        let p = element_of a.plans.items k (omega (arith, low, d.checker.ready.plans_made.count)) in
        let count : p.0.columns ≡ length (columns_of (get_or parts k core.True)) = subst (λ q. q.columns ≡ length (columns_of (get_or parts k core.True))) (p.1.1 p.0) (d.checker.ready.plans_made.each k p.0 low).columns in
        record {
          plan = p.0;
          room = room_held.room;
          targets = table_step.0;
          own = room_held.table;
          plan_at = subst (λ ps. IsElement ps k p.0) (sym is.plans_are) p.1;
          room_at = subst (λ rs. IsElement rs k room_held.room) (sym is.rooms_are) room_held.room_at;
          only = subst (λ ts. IsOnlyAbout ts (Part k table_step.0)) (sym is.steps) only;
          some = omega (arith, count, ap length columns, some);
          held = subst (λ (sig : Signature). IsHeld sig p.0.columns table_step.0 room_held.room room_held.table) (sym is.signature)
              (subst (λ (n : ℕ). IsHeld system.signature n table_step.0 room_held.room room_held.table) (sym count) room_held.held);
          is = refl;
        }

  -- Result
  pub whole_table : IsWholeTable system f parts made whole_of
  unfolding whole_of
  whole_table =
      let over : IsTableOver system.signature (columns_of f) room_held.table =
      subst (λ (xs : List ℕ). IsTableOver system.signature xs room_held.table) columns
      (held_over system.signature (columns_of (get_or parts k core.True)) table_step.0 room_held.room room_held.table (some_columns (get_or parts k core.True) own) room_held.held) in
      record {
        answer = source_table parts made f k a.root.turns room_held.table d.checker.root room_held.made_is;
        over = turned_over system.signature (columns_of f) a.root.turns room_held.table over;
      }

-- what a list needs is room for that of a source
pub fits_needs : (ss : List Step) (s : Source) (needs : ListNeeds) → ((targets : List ℕ) → IsOnlyAbout ss (Part s.part targets) → IsListFor targets needs) → (list : TargetList) (lay : LayRoom)
    → HasListRoom needs.states needs.targets list → HasLayRoom needs.states lay → FitsList ss s list lay
fits_needs ss s needs need list lay list_room lay_room = record {
  list_fits = λ targets only. let n = need targets only in list_fewer list_room n.states n.targets_fit;
  lay_fits = λ targets only. let n = need targets only in lay_fewer lay_room n.states;
}
