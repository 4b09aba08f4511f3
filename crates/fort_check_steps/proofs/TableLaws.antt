-- The table that a room holds, and tables under negations.
use Rattle.std.proofs.Common.{◌≡◌, ℕ, zero, suc, ◌+◌, ◌^◌, ◌-◌, ◌%◌, ◌*◌, ◌<◌, ◌≤◌, List, map, Bool, true, false, not, ◌&&◌, ◌==◌, if◌then◌else◌, length, get_or, IsFalse, refl, ap, sym, ◌∙◌, arith, subst, true≢false}
use Rattle.std.proofs.Math.Pow.{pow_mono}
use Rattle.std.proofs.lemmas.Bool.Decides.{Decides-eqb}
use Rattle.std.proofs.lemmas.List.{length-map, take_all}
use Rattle.fort_theory.specs.Signatures.{Signature}
use Rattle.fort_tables.specs.Entries.{stage}
use Rattle.fort_tables.specs.Tables.{Listed, IsTable, IsReached, IsListed, full_presence, listed_table}
use Rattle.fort_tables.specs.Labels.{first_word, final_by}
use Rattle.fort_tables.specs.LabelRules.{LabelRule, IsLabelRule, IsTableBy, label_of}
use Rattle.fort_tables.specs.Laid.{all_entries}
use Rattle.fort_certificate_theory.specs.PartSteps.{IsRightPart, part_table}
use Rattle.fort_certificate_theory.proofs.PartByLabels.{part_is_listed, part_by_labels}
use Rattle.fort_certificate_theory.proofs.EntryWalks.{right_few}
use Rattle.fort_check_steps.specs.declared.room.PartRoom.{PartRoom}
use Rattle.fort_check_steps.specs.Held.{HoldsPart, held_entries, held_table, own_targets, room_table, IsRoomTable}
use Rattle.fort_check_steps.specs.Room.{most_states}
use Rattle.fort_check_steps.specs.Turned.{TurnedTable, turned_by, turned_table}

-- where it isn't merged, the targets are the part's own
pub own_not_merged : (targets : List ℕ) (room : PartRoom) → IsFalse room.is_merged → own_targets targets room ≡ targets
own_not_merged targets room e = ap (λ (b : Bool). if b then room.merged.items else targets) e

-- Result: and the table is the part's
pub held_is : (r : LabelRule) (sig : Signature) (n : ℕ) (targets : List ℕ) (room : PartRoom) → r.signature ≡ sig → r.columns ≡ n
    → IsFalse room.is_merged → room_table sig n targets room ≡ held_table r targets room
held_is r sig n targets room a b e =
    let own = own_not_merged targets room e in
    λ i. record {
      signature = sym a i;
      columns = sym b i;
      presences = room.presences.items;
      entries = all_entries (sym a i) (sym b i) room.presences.items;
      targets = own i;
      finals = room.finals.items;
    }

-- the table that the labels give is the one with these presences and finals
same_table : (r : LabelRule) (accepting : List ℕ → Bool) (targets : List ℕ) (room : PartRoom) (labels : List (List ℕ)) → room.presences.items ≡ map first_word labels
    → room.finals.items ≡ map (final_by r.columns accepting) labels → part_table r accepting (held_entries r room) targets labels ≡ held_table r targets room
same_table r accepting targets room labels a b =
    let p = sym a in
    let f = sym b in
    λ i. record { signature = r.signature; columns = r.columns; presences = p i; entries = held_entries r room; targets = targets; finals = f i }

-- it is the one that the labels give
pub held_part : (r : LabelRule) (accepting : List ℕ → Bool) (targets : List ℕ) (room : PartRoom) (h : HoldsPart r accepting targets room)
    → part_table r accepting (held_entries r room) targets h.labels ≡ held_table r targets room
held_part r accepting targets room h = same_table r accepting targets room h.labels h.presences h.finals

-- the entries over the labels' presences are those over the room's
pub right_held : (r : LabelRule) (targets : List ℕ) (room : PartRoom) (labels : List (List ℕ)) → IsRightPart r targets (all_entries r.signature r.columns (map first_word labels)) labels
    → room.presences.items ≡ map first_word labels → IsRightPart r targets (held_entries r room) labels
right_held r targets room labels h e = subst (λ (ps : List ℕ). IsRightPart r targets (all_entries r.signature r.columns ps) labels) (sym e) h

-- it is listed
pub right_listed : (r : LabelRule) (accepting : List ℕ → Bool) (targets : List ℕ) (room : PartRoom) (labels : List (List ℕ)) → IsLabelRule r → IsRightPart r targets (held_entries r room) labels
    → room.presences.items ≡ map first_word labels → room.finals.items ≡ map (final_by r.columns accepting) labels → IsListed (held_table r targets room)
right_listed r accepting targets room labels law h a b =
    subst IsListed (same_table r accepting targets room labels a b) (part_is_listed r accepting targets (held_entries r room) labels law h)

-- and a table by the rule
pub right_table : (r : LabelRule) (accepting : List ℕ → Bool) (targets : List ℕ) (room : PartRoom) (labels : List (List ℕ)) → IsLabelRule r → IsRightPart r targets (held_entries r room) labels
    → room.presences.items ≡ map first_word labels → room.finals.items ≡ map (final_by r.columns accepting) labels
    → IsTableBy r.signature r.columns (label_of r) accepting (listed_table (held_table r targets room))
right_table r accepting targets room labels law h a b =
    subst (λ (t : Listed). IsTableBy r.signature r.columns (label_of r) accepting (listed_table t)) (same_table r accepting targets room labels a b)
    (part_by_labels r accepting targets (held_entries r room) labels law h)

pub held_listed : (r : LabelRule) (accepting : List ℕ → Bool) (sig : Signature) (n : ℕ) (targets : List ℕ) (room : PartRoom) → r.signature ≡ sig → r.columns ≡ n
    → IsFalse room.is_merged → HoldsPart r accepting targets room → IsListed (room_table sig n targets room)
held_listed r accepting sig n targets room a b e h =
    subst IsListed (sym (held_is r sig n targets room a b e)) (right_listed r accepting targets room h.labels h.lawful h.right h.presences h.finals)

pub held_few : (r : LabelRule) (accepting : List ℕ → Bool) (targets : List ℕ) (room : PartRoom) → HoldsPart r accepting targets room → length targets < 2 ^ 32
    → length room.presences.items < 2 ^ 32
held_few r accepting targets room h l =
    omega (arith, ap length h.presences, length-map h.labels first_word, right_few r targets (length targets) (held_entries r room) h.labels h.right.right)

-- a part has no more states than its targets make
pub held_states : (r : LabelRule) (accepting : List ℕ → Bool) (targets : List ℕ) (room : PartRoom) → HoldsPart r accepting targets room → length room.presences.items ≤ most_states targets
held_states r accepting targets room h =
    omega (arith, ap length h.presences, length-map h.labels first_word, right_few r targets (length targets) (held_entries r room) h.labels h.right.right, h.right.right.states, ap stage (take_all (length targets) targets (omega arith)))

pub held_finals : (r : LabelRule) (accepting : List ℕ → Bool) (targets : List ℕ) (room : PartRoom) → HoldsPart r accepting targets room
    → length room.finals.items ≡ length room.presences.items
held_finals r accepting targets room h =
    ap length h.finals ∙ (length-map h.labels (final_by r.columns accepting) ∙ sym (ap length h.presences ∙ length-map h.labels first_word))

-- Result: what holds a part that isn't merged is a table
pub held_room : (r : LabelRule) (accepting : List ℕ → Bool) (sig : Signature) (n : ℕ) (targets : List ℕ) (room : PartRoom) → r.signature ≡ sig → r.columns ≡ n
    → IsFalse room.is_merged → HoldsPart r accepting targets room → length targets < 2 ^ 32 → IsRoomTable sig n targets room
held_room r accepting sig n targets room a b e h l = record {
  listed = held_listed r accepting sig n targets room a b e h;
  few = held_few r accepting targets room h l;
  few_targets = omega (arith, l, ap length (own_not_merged targets room e));
  final_count = held_finals r accepting targets room h;
}

-- under negations
turned_full : (n : ℕ) (is_full b : Bool) → (b ≡ true → is_full ≡ true) → turned_by n is_full b ≡ true → is_full ≡ true
turned_full zero is_full b h e = h e
turned_full (suc n) true b h e = refl
turned_full (suc n) false b h e = absurd (true≢false (sym e))

pub IsTable-turned : (t : TurnedTable) → IsTable (listed_table t.table) → IsTable (turned_table t)
IsTable-turned t h = record {
  some = h.some;
  narrow = h.narrow;
  within = h.within;
  presence = h.presence;
  full = λ q l e.
      let test = get_or t.table.presences q 0 == full_presence t.table.columns in
      let d = Decides-eqb (get_or t.table.presences q 0) (full_presence t.table.columns) in
      d.0 (turned_full t.turns test ((listed_table t.table).accepting q) (λ a. d.1 (h.full q l a)) e);
}

pub IsReached-turned : (t : TurnedTable) → IsReached (listed_table t.table) → IsReached (turned_table t)
IsReached-turned t h = h

-- one more negation
pub turned_more : (n : ℕ) (is_full b truth : Bool) → truth ≡ turned_by n is_full b → (is_full && not truth) ≡ turned_by (n + 1) is_full b
turned_more n is_full b truth e = subst (λ (k : ℕ). (is_full && not truth) ≡ turned_by k is_full b) (sym one) (ap (λ x. is_full && not x) e ∙ by is_full (not (turned_by n is_full b)))
  where
    one : n + 1 ≡ suc n
    one = omega arith

    by : (x y : Bool) → (x && y) ≡ (if x then y else false)
    by true y = refl
    by false y = refl

pub full_is : (n : ℕ) → n ≤ 16 → (1 * 2 ^ n) % 4294967296 - 1 ≡ full_presence n
full_is n h = let e : 2 ^ n ≤ 2 ^ 16 = pow_mono h in omega arith
