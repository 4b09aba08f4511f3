-- A formula under negations: the part whose answer it is, where that part stands, and its table.
use Rattle.std.specs.Prelude.{◌≡◌, ℕ, zero, suc, ◌<◌, List, length, get_or, Bool, nat_lt, true, false, refl}
use Rattle.std.proofs.Common.{sym, ap, ◌∙◌, subst, arith, true≢false}
use Rattle.fort_theory.specs.Signatures.{Signature}
use Rattle.fort_theory.specs.Cores as core
use Rattle.fort_theory.specs.Cores.{Core}
use Rattle.fort_theory.specs.PartLists.{AreParts}
use Rattle.fort_tables.specs.Tables.{Table}
use Rattle.fort_tables.specs.OperationTruth.{complemented}
use Rattle.fort_parts.specs.PartColumns.{columns_of}
use Rattle.fort_parts.specs.PartAnswers.{OfValue, OfTable, IsTableOver}
use Rattle.fort_parts.specs.DecidedCores.{IsOperandOf}
use Rattle.fort_parts.proofs.StepTables.{IsTableOver-complemented}
use Rattle.fort_parts.proofs.PartOrder.{operand_earlier}
use Rattle.fort_certificate_theory.specs.Dues.{has_columns, is_turned}
use Rattle.fort_certificate_theory.specs.Made.{MadeSoFar, IsAnswerOf, OfStep, Turned}
use Rattle.fort_cert_checker.specs.Sources.{IsSourceOf, IsTurnedBody, turned}
use Rattle.fort_certificate_theory.proofs.RuleLaws.{part_one}

under : (parts : List Core) (f : Core) (k n : ℕ) → IsSourceOf parts f k (suc n) → (g : Core) × (f ≡ core.Not g) × (has_columns g ≡ true) × IsSourceOf parts g k n
under parts core.True k n h = absurd h
under parts (core.Leaf a) k n h = absurd h
under parts (core.Not f) k n h = (f, refl, h.0, h.1)
under parts (core.Binary op f g) k n h = absurd h
under parts (core.Exists m f) k n h = absurd h
under parts (core.Infinite m f) k n h = absurd h

-- the table
pub source_table : (parts : List Core) (made : MadeSoFar) (f : Core) (k turns : ℕ) (table : Table) → IsSourceOf parts f k turns → made.answers k ≡ OfTable table → IsAnswerOf parts made f (OfTable (turned turns table))
source_table parts made f k zero table h e = OfStep k h.0 h.1 e
source_table parts made f k (suc n) table h e =
    let w = under parts f k n h in
    subst (λ (g : Core). IsAnswerOf parts made g (OfTable (complemented (turned n table)))) (sym w.1) (Turned (turned n table) w.2 (source_table parts made w.0 k n table w.3 e))

pub source_columns : (parts : List Core) (f : Core) (k turns : ℕ) → IsSourceOf parts f k turns → columns_of (get_or parts k core.True) ≡ columns_of f
source_columns parts f k zero h = ap columns_of h.0.1
source_columns parts f k (suc n) h = let w = under parts f k n h in source_columns parts w.0 k n w.3 ∙ ap columns_of (sym w.1)

-- it stands in the list, and isn't such a negation
pub source_part : (parts : List Core) (f : Core) (k turns : ℕ) → IsSourceOf parts f k turns → (k < length parts) × (is_turned (get_or parts k core.True) ≡ false)
source_part parts f k zero h = (h.0.0, ap is_turned h.0.1 ∙ h.1)
source_part parts f k (suc n) h = let w = under parts f k n h in source_part parts w.0 k n w.3

-- of an operand it is an earlier part
pub source_earlier : (root : Core) (parts : List Core) → AreParts root parts → (j : ℕ) → j < length parts → (f : Core) → IsOperandOf f (get_or parts j core.True)
    → (k turns : ℕ) → IsSourceOf parts f k turns → k < j
source_earlier root parts are j within f o k zero h =
    let before = operand_earlier root parts are j within f o in
    let same : k ≡ before.place = part_one root parts are f k before.place h.0 (omega (arith, before.before, within), before.is) in
    omega (arith, same, before.before)
source_earlier root parts are j within f o k (suc n) h =
    let w = under parts f k n h in
    let before = operand_earlier root parts are j within f o in
    let inner : IsOperandOf w.0 (get_or parts before.place core.True) = subst (IsOperandOf w.0) (sym (before.is ∙ w.1)) refl in
    let l = source_earlier root parts are before.place (omega (arith, before.before, within)) w.0 inner k n w.3 in
    omega (arith, l, before.before)

-- a negation without columns has its own source, and one with columns that of its operand
pub plain_negation : (f g : Core) → f ≡ core.Not g → has_columns f ≡ false → is_turned f ≡ false
plain_negation f g e h = ap is_turned e ∙ (sym (ap has_columns e) ∙ h)

pub negation_source : (parts : List Core) (k body : ℕ) → IsTurnedBody parts k body → (p n : ℕ) → IsSourceOf parts (get_or parts body core.True) p n → IsSourceOf parts (get_or parts k core.True) p (suc n)
negation_source parts k body t p n source =
    let g = get_or parts body core.True in
    let own : has_columns g ≡ true = sym (ap has_columns t.whole) ∙ t.columns in
    subst (λ (f : Core). IsSourceOf parts f p (suc n)) (sym t.whole) (own, source)

-- a table over its columns stays one
pub turned_over : (sig : Signature) (columns : List ℕ) (turns : ℕ) (table : Table) → IsTableOver sig columns table → IsTableOver sig columns (turned turns table)
turned_over sig columns zero table h = h
turned_over sig columns (suc n) table h = IsTableOver-complemented sig columns (turned n table) (turned_over sig columns n table h)

-- a part without columns is its own source
pub source_value : (parts : List Core) (made : MadeSoFar) (f : Core) (k turns : ℕ) (value : Bool) → IsSourceOf parts f k turns → has_columns (get_or parts k core.True) ≡ false → made.answers k ≡ OfValue value
    → IsAnswerOf parts made f (OfValue value)
source_value parts made f k zero value h none e = OfStep k h.0 h.1 e
source_value parts made f k (suc n) value h none e =
    let w = under parts f k n h in
    let same : has_columns (get_or parts k core.True) ≡ has_columns w.0 = ap (λ (xs : List ℕ). nat_lt 0 (length xs)) (source_columns parts w.0 k n w.3) in
    absurd (true≢false (sym w.2 ∙ (sym same ∙ none)))
