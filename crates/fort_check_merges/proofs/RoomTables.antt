-- What is in a room behind a merge is the table of the classes.
use Rattle.std.proofs.Common.{◌≡◌, ℕ, ◌<◌, ◌≤◌, List, Bool, length, get_or, IsTrue, IsFalse, if◌then◌else◌, ap, sym, ◌∙◌, arith, subst}
use Rattle.fort_theory.specs.Signatures.{Signature}
use Rattle.fort_tables.specs.Tables.{Table, Listed, listed_table, IsListed}
use Rattle.fort_tables.specs.Laid.{all_entries}
use Rattle.fort_tables.specs.Merges.{merged, IsMerge}
use Rattle.fort_tables.specs.MergeOutcomes.{MergeOutcome, AreEntriesOf, IsMergeOutcome, IsRight, NotAsMany, NotOfClass, NotWhole}
use Rattle.fort_certificate_theory.specs.Outcomes.{Fine}
use Rattle.fort_certificate_theory.specs.MergeSteps.{step_outcome, listed_merge}
use Rattle.fort_check_steps.specs.Held.{own_targets, room_table, IsRoomTable}
use Rattle.fort_check_steps.specs.Room.{most_states}
use Rattle.fort_check_steps.specs.declared.room.PartRoom.{PartRoom}
use Rattle.fort_check_merges.specs.KeptTargets.{kept_targets}
use Rattle.fort_check_merges.specs.Leaders.{AreLeadersTo, AreClassed}
use Rattle.fort_check_merges.proofs.Unjoined.{unjoined_merge, unjoined_leader, unjoined_targets}
use Rattle.fort_check_merges.proofs.MergedRoom.{states_few, kept_few, kept_table, merged_entries, merged_table, merged_listed}

-- the table that is given is that of the room
abbrev pub given_table : Signature → ℕ → List ℕ → List ℕ → List Bool → Listed
given_table sig n targets ps fs = record { signature = sig; columns = n; presences = ps; entries = all_entries sig n ps; targets = targets; finals = fs }

pub own_given : (targets : List ℕ) (room : PartRoom) → IsFalse room.is_merged → own_targets targets room ≡ targets
own_given targets room e = ap (λ (x : Bool). if x then room.merged.items else targets) e

pub given_is : (sig : Signature) (n : ℕ) (targets : List ℕ) (room : PartRoom) (ps : List ℕ) (fs : List Bool) → ps ≡ room.presences.items → fs ≡ room.finals.items
    → IsFalse room.is_merged → given_table sig n targets ps fs ≡ room_table sig n targets room
given_is sig n targets room ps fs a b e =
    let own = sym (own_given targets room e) in
    λ i. record { signature = sig; columns = n; presences = a i; entries = all_entries sig n (a i); targets = own i; finals = b i }

-- what comes of a step that is fine is a merge
pub fine_merge : (table : Table) (classes : List ℕ) (o : MergeOutcome) → IsMergeOutcome table classes o → step_outcome o ≡ Fine → IsMerge table classes
fine_merge table classes o (IsRight m) e = m
fine_merge table classes o (NotAsMany n) e = absurd cc
fine_merge table classes o (NotOfClass q h l n) e = absurd cc
fine_merge table classes o (NotWhole entries i d are h l before n) e = absurd cc

pub states_most : (t : Listed) → IsListed t → length t.presences ≤ most_states t.targets
states_most t is = let few = states_few t is in omega (arith, few.0, few.1)

-- a merge of what was held, and the table of the classes is held then
pub record HoldsClasses (sig : Signature) (n : ℕ) (targets classes : List ℕ) (old new : PartRoom) : Type 0 where
  pub merge : IsMerge (listed_table (room_table sig n targets old)) classes
  pub table : room_table sig n targets new ≡ listed_merge (listed_table (room_table sig n targets old)) classes (all_entries sig n new.presences.items)
  pub entries : AreEntriesOf (merged (listed_table (room_table sig n targets old)) classes) (all_entries sig n new.presences.items)
  pub held : IsRoomTable sig n targets new
  pub fewer : length (own_targets targets new) ≤ length (own_targets targets old)

-- Result: what is kept of first states, with the classes of the targets of entries over first states
pub holds_classes : (sig : Signature) (n : ℕ) (targets classes leaders : List ℕ) (old new : PartRoom) → IsRoomTable sig n targets old
    → IsMerge (listed_table (room_table sig n targets old)) classes → AreLeadersTo classes (length classes) leaders
    → own_targets targets new ≡ kept_targets (listed_table (room_table sig n targets old)) classes (room_table sig n targets old).entries
    → length new.presences.items ≡ length leaders → ((c d : ℕ) → c < length leaders → get_or new.presences.items c d ≡ get_or old.presences.items (get_or leaders c 0) d)
    → length new.finals.items ≡ length leaders → ((c : ℕ) (d : Bool) → c < length leaders → get_or new.finals.items c d ≡ get_or old.finals.items (get_or leaders c 0) d)
    → HoldsClasses sig n targets classes old new
holds_classes sig n targets classes leaders old new h m led own ps_count ps_are fs_count fs_are =
    let before = room_table sig n targets old in
    let ps = new.presences.items in
    let fs = new.finals.items in
    let behind_is : room_table sig n targets new ≡ kept_table before classes leaders ps fs h.listed m led ps_count ps_are fs_count fs_are =
    λ i. record { signature = sig; columns = n; presences = ps; entries = all_entries sig n ps; targets = own i; finals = fs } in
    record {
      merge = m;
      table = behind_is ∙ merged_table before classes leaders ps fs h.listed m led ps_count ps_are fs_count fs_are;
      entries = merged_entries before classes leaders ps fs h.listed m led ps_count ps_are fs_count fs_are;
      held = record {
        listed = subst IsListed (sym behind_is) (merged_listed before classes leaders ps fs h.listed m led ps_count ps_are fs_count fs_are);
        few = omega (arith, ps_count, led.few, m.count, h.few);
        few_targets = omega (arith, ap length own, kept_few (listed_table before) classes before.entries, h.listed.count, h.few_targets);
        final_count = fs_count ∙ sym ps_count;
      };
      fewer = omega (arith, ap length own, kept_few (listed_table before) classes before.entries, h.listed.count);
    }

module _ (sig : Signature) (n : ℕ) (targets classes leaders : List ℕ) (old : PartRoom) (h : IsRoomTable sig n targets old) (ps : List ℕ) (fs : List Bool)
    (same : given_table sig n targets ps fs ≡ room_table sig n targets old) where
  -- Result: where entries were checked
  pub holds_joined : (new : PartRoom) → IsTrue new.is_merged → (o : MergeOutcome) → IsMergeOutcome (listed_table (given_table sig n targets ps fs)) classes o → step_outcome o ≡ Fine
      → AreLeadersTo classes (length classes) leaders → new.merged.items ≡ kept_targets (listed_table (given_table sig n targets ps fs)) classes (given_table sig n targets ps fs).entries
      → length new.presences.items ≡ length leaders → ((c d : ℕ) → c < length leaders → get_or new.presences.items c d ≡ get_or old.presences.items (get_or leaders c 0) d)
      → length new.finals.items ≡ length leaders → ((c : ℕ) (d : Bool) → c < length leaders → get_or new.finals.items c d ≡ get_or old.finals.items (get_or leaders c 0) d)
      → HoldsClasses sig n targets classes old new
  holds_joined new is_merged o outcome fine led qs =
      holds_classes sig n targets classes leaders old new h
      (subst (λ (t : Listed). IsMerge (listed_table t) classes) same (fine_merge (listed_table (given_table sig n targets ps fs)) classes o outcome fine)) led
      (ap (λ (b : Bool). if b then new.merged.items else targets) is_merged ∙ subst (λ (t : Listed). new.merged.items ≡ kept_targets (listed_table t) classes t.entries) same qs)

  -- Result: where nothing is joined the room stays as it is
  pub holds_unjoined : AreClassed (listed_table (given_table sig n targets ps fs)) classes leaders → length leaders ≡ length classes → HoldsClasses sig n targets classes old old
  holds_unjoined given all =
      let before = room_table sig n targets old in
      let c : AreClassed (listed_table before) classes leaders = subst (λ (t : Listed). AreClassed (listed_table t) classes leaders) same given in
      let count : length old.presences.items ≡ length leaders = sym (all ∙ c.right.count) in
      holds_classes sig n targets classes leaders old old h (unjoined_merge before classes leaders h.listed c all) c.firsts (unjoined_targets before classes leaders h.listed c all)
      count (λ q d l. ap (λ k. get_or old.presences.items k d) (unjoined_leader before classes leaders h.listed c all q l))
      (h.final_count ∙ count) (λ q d l. ap (λ k. get_or old.finals.items k d) (unjoined_leader before classes leaders h.listed c all q l))
