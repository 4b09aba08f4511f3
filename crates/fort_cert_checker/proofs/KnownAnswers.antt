-- The answers of a part's operands: where they stand, what was made of them, and that they fit their columns.
use Rattle.std.specs.Prelude.{◌≡◌, ℕ, zero, suc, ◌<◌, List, [], ◌∷◌, length, get_or, nat_lt, Bool, true, false, refl}
use Rattle.std.proofs.Common.{sym, ap, ◌∙◌, subst, arith}
use Rattle.fort_theory.specs.Signatures.{Signature}
use Rattle.fort_theory.specs.Patterns.{PatternSystem}
use Rattle.fort_theory.specs.Cores as core
use Rattle.fort_theory.specs.Cores.{Core}
use Rattle.fort_tables.specs.Tables.{Table, IsTable, IsReached}
use Rattle.fort_parts.specs.PartColumns.{columns_of}
use Rattle.fort_parts.specs.PartAnswers.{Answer, OfValue, OfTable, IsTableOver, FitsColumns}
use Rattle.fort_parts.specs.DecidedCores.{IsOperandOf}
use Rattle.fort_certificate_theory.specs.Dues.{has_columns, is_turned}
use Rattle.fort_certificate_theory.specs.Made.{MadeSoFar, IsAnswerOf}
use Rattle.fort_certificate_theory.proofs.RightParts.{some_columns, none_columns}
use Rattle.fort_check_steps.specs.declared.room.PartRoom.{PartRoom}
use Rattle.fort_cert_checker.specs.declared.plan.Source.{Source}
use Rattle.fort_cert_checker.specs.declared.past.Past.{Past}
use Rattle.fort_cert_checker.specs.Sources.{IsSourceOf, turned}
use Rattle.fort_cert_checker.specs.Pasts.{steps_of, IsHeld, IsTableAt, IsTruthAt, IsAnswerAt, KnowsPast}
use Rattle.fort_cert_checker.specs.PartStates.{IsStatesOf}
use Rattle.fort_cert_checker.proofs.SourceLaws.{source_table, source_value, source_columns, source_part, source_earlier, turned_over}

empty_list : (xs : List ℕ) → length xs ≡ 0 → xs ≡ []
empty_list [] e = refl
empty_list (x ∷ xs) e = absurd (omega arith)

turned_presences : (n : ℕ) (t : Table) → (turned n t).presences ≡ t.presences
turned_presences zero t = refl
turned_presences (suc n) t = turned_presences n t

-- a held table is one over its columns
pub held_over : (sig : Signature) (columns : List ℕ) (targets : List ℕ) (room : PartRoom) (table : Table) → 0 < length columns → IsHeld sig (length columns) targets room table → IsTableOver sig columns table
held_over sig columns targets room table some h = record {
  some = some;
  signature = ap (λ (t : Table). t.signature) (sym h.is);
  columns_are = ap (λ (t : Table). t.columns) (sym h.is);
  lawful = subst IsTable h.is h.holds.listed.table;
  reached = subst IsReached h.is h.holds.listed.reached;
}

module _ (system : PatternSystem) (parts : List Core) (past : Past) (k : ℕ) (made : MadeSoFar) (known : KnowsPast system parts past k made) where
  -- what is known of an operand
  pub record IsKnown (g : Core) (s : Source) : Type 0 where
    pub answer : Answer
    pub at : IsAnswerAt past s answer
    pub is : IsAnswerOf parts made g answer
    pub fits : FitsColumns system.signature (columns_of g) answer

  pub record IsKnownTable (g : Core) (s : Source) : Type 0 where
    pub table : Table
    pub count : ℕ
    pub count_is : IsStatesOf (steps_of past) s.part count
    pub at : IsTableAt past s table
    pub is : IsAnswerOf parts made g (OfTable table)
    pub over : IsTableOver system.signature (columns_of g) table
    pub states : length table.presences ≡ count

  module _ (g : Core) (operand : IsOperandOf g (get_or parts k core.True)) (s : Source) (source : IsSourceOf parts g s.part s.turns) where
    before : s.part < k
    before = source_earlier known.parted.root parts known.parted.are k known.within g operand s.part s.turns source

    low : s.part < length parts
    low = (source_part parts g s.part s.turns source).0

    plain : is_turned (get_or parts s.part core.True) ≡ false
    plain = (source_part parts g s.part s.turns source).1

    columns : columns_of (get_or parts s.part core.True) ≡ columns_of g
    columns = source_columns parts g s.part s.turns source

    same_columns : has_columns (get_or parts s.part core.True) ≡ has_columns g
    same_columns = ap (λ (xs : List ℕ). nat_lt 0 (length xs)) columns

    -- Result
    pub known_table : has_columns g ≡ true → IsKnownTable g s
    known_table has =
        let own : has_columns (get_or parts s.part core.True) ≡ true = same_columns ∙ has in
        let t = known.tables s.part before own plain in
        let p = known.plans s.part low in
        let count : p.0.columns ≡ length (columns_of (get_or parts s.part core.True)) = p.2 in
        let some : 0 < length (columns_of (get_or parts s.part core.True)) = some_columns (get_or parts s.part core.True) own in
        let held : IsHeld past.signature.now p.0.columns t.targets t.room t.table =
        subst (λ (sig : Signature). IsHeld sig p.0.columns t.targets t.room t.table) (sym known.signature)
        (subst (λ (n : ℕ). IsHeld system.signature n t.targets t.room t.table) (sym count) t.held) in
        let over : IsTableOver system.signature (columns_of g) t.table =
        subst (λ (xs : List ℕ). IsTableOver system.signature xs t.table) columns (held_over system.signature (columns_of (get_or parts s.part core.True)) t.targets t.room t.table some t.held) in
        record {
          table = turned s.turns t.table;
          count = length t.table.presences;
          count_is = t.states;
          at = record {
            plan = p.0;
            room = t.room;
            targets = t.targets;
            own = t.table;
            plan_at = p.1;
            room_at = t.room_at;
            only = t.only;
            some = omega (arith, some, count);
            held = held;
            is = refl;
          };
          is = source_table parts made g s.part s.turns t.table source t.made_is;
          over = turned_over system.signature (columns_of g) s.turns t.table over;
          states = ap length (turned_presences s.turns t.table);
        }

    pub known_value : has_columns g ≡ false → (truth : Bool) × IsTruthAt past s truth × IsAnswerOf parts made g (OfValue truth)
    known_value none =
        let own : has_columns (get_or parts s.part core.True) ≡ false = same_columns ∙ none in
        let v = known.values s.part before own plain in
        let p = known.plans s.part low in
        let empty_is : p.0.columns ≡ 0 = p.2 ∙ none_columns (get_or parts s.part core.True) own in (
          v.value,
          record { plan = p.0; plan_at = p.1; none = empty_is; only = v.only },
          source_value parts made g s.part s.turns v.value source own v.made_is,
        )

    -- Result
    pub known_answer : IsKnown g s
    known_answer = by (has_columns g) refl
      where
        by : (b : Bool) → has_columns g ≡ b → IsKnown g s
        by true e = let t = known_table e in record { answer = OfTable t.table; at = t.at; is = t.is; fits = t.over }
        by false e = let v = known_value e in record { answer = OfValue v.0; at = v.1; is = v.2; fits = empty_list (columns_of g) (none_columns g e) }
