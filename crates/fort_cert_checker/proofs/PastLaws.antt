-- The table of an earlier part, as its room holds it.
use Rattle.std.specs.Prelude.{◌≡◌, ℕ, zero, suc, List, length, get_or, Bool, refl}
use Rattle.std.proofs.Common.{sym, ap, ◌∙◌, subst, arith}
use Rattle.fort_tables.specs.Tables.{Table, Listed, listed_table}
use Rattle.fort_tables.specs.OperationTruth.{complemented}
use Rattle.fort_check_steps.specs.declared.room.PartRoom.{PartRoom}
use Rattle.fort_check_steps.specs.Held.{room_table, own_targets, IsRoomTable}
use Rattle.fort_check_steps.specs.Turned.{TurnedTable, turned_table}
use Rattle.fort_cert_checker.specs.declared.plan.Source.{Source}
use Rattle.fort_cert_checker.specs.declared.plan.Plan.{Plan}
use Rattle.fort_cert_checker.specs.declared.past.Past.{Past}
use Rattle.fort_cert_checker.specs.Sources.{turned}
use Rattle.fort_parts.specs.PartAnswers.{Answer, OfValue, OfTable}
use Rattle.fort_cert_checker.specs.Pasts.{steps_of, IsTableAt, IsTruthAt, IsAnswerAt}
use Rattle.fort_cert_checker.specs.OperandLists.{FitsList, HasTableRoom}
use Rattle.fort_check_steps.proofs.RoomLaws.{list_fewer, lay_fewer}
use Rattle.fort_target_lists.specs.declared.states.LayRoom.{LayRoom}
use Rattle.fort_target_lists.specs.declared.target_list.TargetList.{TargetList}

turned_of : (n : ℕ) (l : Listed) → turned_table (record { table = l; turns = n }) ≡ turned n (listed_table l)
turned_of zero l = refl
turned_of (suc n) l = ap complemented (turned_of n l)

pub turned_is : (t : TurnedTable) (l : Listed) (n : ℕ) (own table : Table) → t.table ≡ l → t.turns ≡ n → listed_table l ≡ own → table ≡ turned n own → turned_table t ≡ table
turned_is t l n own table a b e h =
    let same : t ≡ record { table = l; turns = n } = λ i. record { table = a i; turns = b i } in
    ap turned_table same ∙ (turned_of n l ∙ (ap (turned n) e ∙ sym h))

module _ (past : Past) (s : Source) (table : Table) (h : IsTableAt past s table) (p : Plan) (room : PartRoom) (targets : List ℕ) (columns : ℕ)
    (room_is : room ≡ get_or past.rooms.now s.part room) (count : columns ≡ (get_or past.plans.now s.part p).columns) (targets_are : targets ≡ h.targets) where
  room_same : room ≡ h.room
  room_same = room_is ∙ h.room_at.1 room

  columns_same : columns ≡ h.plan.columns
  columns_same = count ∙ ap (λ (q : Plan). q.columns) (h.plan_at.1 p)

  table_same : room_table past.signature.now columns targets room ≡ room_table past.signature.now h.plan.columns h.targets h.room
  table_same = λ i. room_table past.signature.now (columns_same i) (targets_are i) (room_same i)

  pub table_holds : IsRoomTable past.signature.now columns targets room
  table_holds =
      subst (λ (r : PartRoom). IsRoomTable past.signature.now columns targets r) (sym room_same)
      (subst (λ (qs : List ℕ). IsRoomTable past.signature.now columns qs h.room) (sym targets_are)
      (subst (λ (n : ℕ). IsRoomTable past.signature.now n h.targets h.room) (sym columns_same) h.held.holds))

  pub table_made : (t : TurnedTable) → t.table ≡ room_table past.signature.now columns targets room → t.turns ≡ s.turns → turned_table t ≡ table
  table_made t made turns =
      turned_is t (room_table past.signature.now columns targets room) s.turns h.own table made turns (ap listed_table table_same ∙ h.held.is) h.is

  -- room for the targets of the source is room for those of its table
  pub table_room : (t : TurnedTable) → t.table ≡ room_table past.signature.now columns targets room → (list : TargetList) (lay : LayRoom) → FitsList (steps_of past) s list lay → HasTableRoom t list lay
  table_room t made list lay fits =
      let own = made ∙ table_same in
      let count : length t.table.targets ≡ length (own_targets h.targets h.room) = ap (λ (l : Listed). length l.targets) own in
      let states : length t.table.presences ≡ length h.own.presences = ap (λ (l : Listed). length l.presences) own ∙ ap (λ (x : Table). length x.presences) h.held.is in
      record {
        list_room = list_fewer (fits.list_fits h.targets h.only) (omega (arith, states, h.held.few_states)) (omega (arith, count, h.held.few_targets));
        lay_room = lay_fewer (fits.lay_fits h.targets h.only) (omega (arith, states, h.held.few_states));
      }

-- a part with columns has no truth
truth_without : (past : Past) (s : Source) (truth : Bool) (p : Plan) → IsTruthAt past s truth → ((get_or past.plans.now s.part p).columns ≡ 0 → ⊥) → ⊥
truth_without past s truth p h some = some (ap (λ (x : Plan). x.columns) (h.plan_at.1 p) ∙ h.none)

pub answer_room : (past : Past) (s : Source) (t : TurnedTable) (p : Plan) → ((get_or past.plans.now s.part p).columns ≡ 0 → ⊥)
    → ((table : Table) → IsTableAt past s table → (list : TargetList) (lay : LayRoom) → FitsList (steps_of past) s list lay → HasTableRoom t list lay)
    → (answer : Answer) → IsAnswerAt past s answer → (list : TargetList) (lay : LayRoom) → FitsList (steps_of past) s list lay → HasTableRoom t list lay
answer_room past s t p some room (OfTable table) at = room table at
answer_room past s t p some room (OfValue truth) at = absurd (truth_without past s truth p at some)
