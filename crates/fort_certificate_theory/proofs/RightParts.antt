-- The step of a part makes a right answer, where those of its operands are right.
use Rattle.std.proofs.Common.{◌≡◌, ℕ, ◌<◌, ◌≤◌, List, [], ◌∷◌, length, get_or, Bool, true, false, true≢false, refl, ap, sym, ◌∙◌, arith, subst, inl, inr, ⊎_elim}
use Rattle.std.specs.Prelude.{Contains}
use Rattle.std.proofs.lemmas.Bool.{cases_lt, ltb-true, lt-ltb}
use Rattle.std.proofs.lemmas.List.Elements.{Contains-get_or}
use Rattle.fort_theory.specs.Signatures.{most_columns}
use Rattle.fort_theory.specs.Patterns.{PatternSystem, IsSystem}
use Rattle.fort_theory.specs.Cores as core
use Rattle.fort_theory.specs.Cores.{Core, Binary, Atom}
use Rattle.fort_theory.specs.Parts.{postorder, BindsFree}
use Rattle.fort_theory.specs.PartLists.{AreParts}
use Rattle.fort_theory.specs.PatternStructures.{pattern_structure}
use Rattle.fort_tables.specs.Tables.{Table}
use Rattle.fort_theory.specs.Logic.{Connective}
use Rattle.fort_tables.specs.Counts.{KeepRules, count_at}
use Rattle.fort_tables.specs.ManyLabels.{TellsMany}
use Rattle.fort_tables.proofs.TellsLaws.{TellsMany-marks}
use Rattle.fort_parts.specs.PartColumns.{columns_of, place_in}
use Rattle.fort_parts.specs.PartAnswers.{Answer, OfValue, OfTable, IsAnswerTo}
use Rattle.fort_parts.specs.DecidedCores.{IsDecided, IsOperandOf}
use Rattle.fort_parts.proofs.PartFacts.{BindsFree-part, columns_of-few}
use Rattle.fort_parts.proofs.PartOrder.{operand_earlier}
use Rattle.fort_certificate_theory.specs.Dues.{has_columns, is_turned}
use Rattle.fort_certificate_theory.specs.Made.{MadeSoFar, IsAnswerOf, OfStep, Turned}
use Rattle.fort_certificate_theory.specs.PartRules.{Local, is_many, IsCounted, IsProductLocal, IsConnectedValue, IsLocalOf, IsValueOf, IsAtomLocal}
use Rattle.fort_certificate_theory.proofs.RuleLaws.{part_one}
use Rattle.fort_certificate_theory.proofs.MadeTables.{IsMadeBy}
use Rattle.fort_certificate_theory.proofs.AtomTables.{HasClosuresFor, relation_right, normal_right, term_right, expression_right}
use Rattle.fort_certificate_theory.proofs.JoinedTables.{bound_within, true_right, not_value_right, not_table_right, values_right, product_right, project_right, some_value_right, many_right, many_value_right}

-- whether a formula has columns
pub some_columns : (f : Core) → has_columns f ≡ true → 0 < length (columns_of f)
some_columns f h = ltb-true 0 (length (columns_of f)) h

pub none_columns : (f : Core) → has_columns f ≡ false → length (columns_of f) ≡ 0
none_columns f h =
    ⊎_elim
    (λ (l : 0 < length (columns_of f)). absurd (true≢false (sym (lt-ltb 0 (length (columns_of f)) l) ∙ h)))
    (λ l. omega arith)
    (cases_lt 0 (length (columns_of f)))

empty_columns : (f : Core) → length (columns_of f) ≡ 0 → columns_of f ≡ []
empty_columns f h = by (columns_of f) refl
  where
    by : (xs : List ℕ) → columns_of f ≡ xs → columns_of f ≡ []
    by [] e = e
    by (x ∷ xs) e = absurd (let n = ap length e in omega arith)

-- the counts of part k hold by their rules, over the table of its body
abbrev pub HasCountsFor : List Core → MadeSoFar → ℕ → Core → Type 0
HasCountsFor parts made k f =
    (n : ℕ) (g : Core) (body : Table) (states : List ℕ) → f ≡ core.Infinite n g → IsCounted parts made n g body states
    → KeepRules body (place_in (columns_of g) n) (count_at states (made.counts k))

module _ (system : PatternSystem) (is : IsSystem system) (root : Core) (decided : IsDecided system root) (parts : List Core) (are : AreParts root parts) where
  abbrev pub IsRight : Core → Answer → Type 0
  IsRight f answer = IsAnswerTo (pattern_structure system) f answer

  -- the answers of the first k parts, but those of negations with columns, are right
  abbrev pub HasAnswers : ℕ → MadeSoFar → Type 0
  HasAnswers k made = (j : ℕ) → j < k → j < length parts → is_turned (get_or parts j core.True) ≡ false → IsRight (get_or parts j core.True) (made.answers j)

  -- so those of earlier parts are
  earlier_right : (k : ℕ) (made : MadeSoFar) (f : Core) (answer : Answer) → HasAnswers k made → (j : ℕ) → j < k → j < length parts → get_or parts j core.True ≡ f → IsAnswerOf parts made f answer → IsRight f answer
  earlier_right k made f answer has j l m e (OfStep i p t a) =
      let same : i ≡ j = part_one root parts are f i j p (m, e) in
      let at : get_or parts i core.True ≡ f = p.1 in
      let r = has i (omega arith) p.0 (ap is_turned at ∙ t) in
      subst (λ (x : Answer). IsRight f x) a (subst (λ (g : Core). IsRight g (made.answers i)) at r)
  earlier_right k made f answer has j l m e (Turned {f = g} body h r) =
      let o : IsOperandOf g (get_or parts j core.True) = subst (IsOperandOf g) (sym e) refl in
      let before = operand_earlier root parts are j m g o in
      not_table_right system g body (earlier_right k made g (OfTable body) has before.place (omega (arith, before.before)) (omega (arith, before.before)) before.is r)

  module _ (k : ℕ) (within : k < length parts) (made : MadeSoFar) (has : HasAnswers k made) where
    abbrev pub own : Core
    own = get_or parts k core.True

    among : Contains (postorder root) own
    among = (are.same own).1 (Contains-get_or parts k core.True within)

    few : length (columns_of own) ≤ most_columns
    few = columns_of-few root own decided.well_formed among

    binds : BindsFree own
    binds = BindsFree-part root own decided.well_formed.binders among

    operand_right : (f g : Core) (answer : Answer) → own ≡ f → IsOperandOf g f → IsAnswerOf parts made g answer → IsRight g answer
    operand_right f g answer e o a =
        let before = operand_earlier root parts are k within g (subst (IsOperandOf g) (sym e) o) in
        earlier_right k made g answer has before.place before.before (omega (arith, before.before)) before.is a

    joined_operands : (op : Connective) (f g : Core) → IsOperandOf f (Binary op f g) × IsOperandOf g (Binary op f g)
    joined_operands op f g = (inl refl, inr refl)

    product_made : (op : Connective) (f g : Core) (local : Local) (table : Table) → own ≡ Binary op f g → has_columns (Binary op f g) ≡ true
        → IsProductLocal parts made op (Binary op f g) f g local → IsMadeBy local table → IsRight (Binary op f g) (OfTable table)
    product_made op f g local table e columns h by =
        let o = joined_operands op f g in
        product_right system op f g h.first h.second local table (some_columns (Binary op f g) columns) (subst (λ (z : Core). length (columns_of z) ≤ most_columns) e few)
        (operand_right (Binary op f g) f h.first e o.0 h.first_is) (operand_right (Binary op f g) g h.second e o.1 h.second_is) h.is by

    values_made : (op : Connective) (f g : Core) (value : Bool) → own ≡ Binary op f g → has_columns (Binary op f g) ≡ false
        → IsConnectedValue parts made op f g value → IsRight (Binary op f g) (OfValue value)
    values_made op f g value e columns h =
        let o = joined_operands op f g in
        subst (λ (b : Bool). IsRight (Binary op f g) (OfValue b)) (sym h.is)
        (values_right system op f g h.first h.second (empty_columns (Binary op f g) (none_columns (Binary op f g) columns))
        (operand_right (Binary op f g) f (OfValue h.first) e o.0 h.first_is) (operand_right (Binary op f g) g (OfValue h.second) e o.1 h.second_is))

    -- what the counts tell of the body
    body_tells : (n : ℕ) (g : Core) (body : Table) (states : List ℕ) → own ≡ core.Infinite n g → HasCountsFor parts made k own → IsCounted parts made n g body states
        → TellsMany body (place_in (columns_of g) n) (is_many states (made.counts k))
    body_tells n g body states e counts h =
        let right = operand_right (core.Infinite n g) g (OfTable body) e refl h.body_is in
        let b : BindsFree (core.Infinite n g) = subst BindsFree e binds in
        TellsMany-marks body (place_in (columns_of g) n) (count_at states (made.counts k)) right.over.lawful right.over.reached
        (omega (arith, bound_within n g b.0, right.over.columns_are)) (counts n g body states e h)

    atom_right : (a : Atom) (local : Local) (table : Table) → own ≡ core.Leaf a → HasClosuresFor system made (core.Leaf a)
        → IsAtomLocal system made a local → IsMadeBy local table → IsRight (core.Leaf a) (OfTable table)
    atom_right (core.Related rel index x y) local table e closures h by =
        relation_right system is made rel index x y local table (subst (λ (z : Core). length (columns_of z) ≤ most_columns) e few) closures h by
    atom_right (core.InContext d number place x y) local table e closures h by = expression_right system is d number place x y local table h by
    atom_right (core.Normal index x) local table e closures h by = normal_right system is index x local table h by
    atom_right (core.IsTerm x term) local table e closures h by = term_right system is x term table (subst (λ (l : Local). IsMadeBy l table) h by)

    -- Result: by kind, of a part with columns
    pub local_right : (f : Core) (local : Local) (table : Table) → own ≡ f → has_columns f ≡ true → HasClosuresFor system made f → HasCountsFor parts made k own
        → IsLocalOf system parts made k f local → IsMadeBy local table → IsRight f (OfTable table)
    local_right core.True local table e columns closures counts h by = absurd h
    local_right (core.Leaf a) local table e columns closures counts h by = atom_right a local table e closures h by
    local_right (core.Not f) local table e columns closures counts h by = absurd h
    local_right (core.Binary op f g) local table e columns closures counts h by = product_made op f g local table e columns h by
    local_right (core.Exists n f) local table e columns closures counts h by =
        let b : BindsFree (core.Exists n f) = subst BindsFree e binds in
        project_right system n f h.body local table b.0 (some_columns (core.Exists n f) columns) (subst (λ (z : Core). length (columns_of z) ≤ most_columns) e few)
        (operand_right (core.Exists n f) f (OfTable h.body) e refl h.body_is) h.is by
    local_right (core.Infinite n f) local table e columns closures counts h by =
        let b : BindsFree (core.Infinite n f) = subst BindsFree e binds in
        many_right system n f (is_many h.states (made.counts k)) h.body local table b.0 (some_columns (core.Infinite n f) columns)
        (subst (λ (z : Core). length (columns_of z) ≤ most_columns) e few)
        (operand_right (core.Infinite n f) f (OfTable h.body) e refl h.counted.body_is) (body_tells n f h.body h.states e counts h.counted) h.is by

    -- and of one without
    pub value_right : (f : Core) (value : Bool) → own ≡ f → has_columns f ≡ false → HasCountsFor parts made k own → IsValueOf parts made k f value → IsRight f (OfValue value)
    value_right core.True value e columns counts h = subst (λ (b : Bool). IsRight core.True (OfValue b)) (sym h) (true_right system)
    value_right (core.Leaf a) value e columns counts h = absurd h
    value_right (core.Not f) value e columns counts h =
        subst (λ (b : Bool). IsRight (core.Not f) (OfValue b)) (sym h.2) (not_value_right system f h.0 (operand_right (core.Not f) f (OfValue h.0) e refl h.1))
    value_right (core.Binary op f g) value e columns counts h = values_made op f g value e columns h
    value_right (core.Exists n f) value e columns counts h =
        let b : BindsFree (core.Exists n f) = subst BindsFree e binds in
        subst (λ (z : Bool). IsRight (core.Exists n f) (OfValue z)) (sym h.2)
        (some_value_right system n f h.0 b.0 (none_columns (core.Exists n f) columns) (operand_right (core.Exists n f) f (OfTable h.0) e refl h.1))
    value_right (core.Infinite n f) value e columns counts h =
        let b : BindsFree (core.Infinite n f) = subst BindsFree e binds in
        subst (λ (z : Bool). IsRight (core.Infinite n f) (OfValue z)) (sym h.is)
        (many_value_right system n f (is_many h.states (made.counts k)) h.body b.0 (none_columns (core.Infinite n f) columns)
        (operand_right (core.Infinite n f) f (OfTable h.body) e refl h.counted.body_is) (body_tells n f h.body h.states e counts h.counted))
