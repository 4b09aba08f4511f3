-- Where the answers of its operands are made and right, a part with columns has labels, and one without has one value.
use Rattle.std.proofs.Common.{◌≡◌, ℕ, ◌<◌, ◌≤◌, List, length, map, get_or, Bool, true, false, not, ◌||◌, ◌==◌, eq-eqb, true≢false, refl, ap, sym, ◌∙◌, arith, subst, inl, inr, ⊎_elim}
use Rattle.std.specs.Prelude.{Contains}
use Rattle.std.proofs.lemmas.Bool.{cases_lt}
use Rattle.std.proofs.lemmas.List.Elements.{Contains-get_or}
use Rattle.fort_theory.specs.Trees.{Node, Nil}
use Rattle.fort_theory.specs.Sides.{at_index}
use Rattle.fort_theory.specs.Signatures.{HasConstant, most_columns}
use Rattle.fort_theory.specs.Patterns.{Pair, PatternSystem, IsSystem}
use Rattle.fort_theory.specs.Cores as core
use Rattle.fort_theory.specs.Cores.{Core, Binary, Atom}
use Rattle.fort_theory.specs.CoreTruth.{Places, IsMetBy}
use Rattle.fort_theory.specs.Parts.{is_free, BindsFree}
use Rattle.fort_theory.specs.PatternStructures.{pattern_structure}
use Rattle.fort_tables.specs.Tables.{Table}
use Rattle.fort_alike.specs.Atoms.{pairs_for}
use Rattle.fort_theory.specs.Logic.{Connective}
use Rattle.fort_tables.specs.Products.{connected}
use Rattle.fort_tables.specs.Projections.{some_below}
use Rattle.fort_tables.specs.Counts.{KeepRules, count_at}
use Rattle.fort_tables.specs.ManyLabels.{TellsMany, many_value}
use Rattle.fort_tables.proofs.TellsLaws.{TellsMany-marks}
use Rattle.fort_parts.specs.PartColumns.{columns_of, place_in}
use Rattle.fort_parts.specs.PartAnswers.{Answer, OfValue, OfTable, AreGround, IsAnswerTo}
use Rattle.fort_parts.specs.DecidedCores.{IsOperandOf}
use Rattle.fort_parts.specs.RightAnswers.{IsRightFor, IsRightBy}
use Rattle.fort_parts.proofs.PartColumnLaws.{column-from_free, first_within, second_within}
use Rattle.fort_parts.proofs.StepAnswers.{is_free-joined}
use Rattle.fort_parts.specs.ReducedParts.{AlikeWith}
use Rattle.fort_parts.specs.ToldParts.{ToldWith}
use Rattle.fort_certificate_theory.specs.Dues.{has_columns, is_turned}
use Rattle.fort_certificate_theory.specs.Made.{MadeSoFar, IsAnswerOf}
use Rattle.fort_certificate_theory.specs.PartRules.{Local, closure_for, relation_local, normal_local, term_local, product_local, project_local, many_local, is_many, IsRelationLocal, IsNormalLocal, IsCounted, IsLocalOf, IsValueOf}
use Rattle.fort_certificate_theory.proofs.AtomTables.{HasClosuresFor}
use Rattle.fort_certificate_theory.proofs.JoinedTables.{bound_within, true_right, not_value_right, values_right, some_value_right, many_value_right}
use Rattle.fort_certificate_theory.proofs.RightParts.{some_columns, none_columns}
use Rattle.fort_certificate_theory.proofs.LabelledParts.{AreLabelsOf, one_decided}
use Rattle.fort_certificate_theory.proofs.LabelledKinds.{labels_relation, labels_normal, labels_term, labels_expression, labels_joined, labels_projected, labels_counted}
use Rattle.fort_certificate_theory.proofs.StateLabels.{state_local, IsExpressionLocal-states}
use Rattle.fort_certificate_theory.proofs.SidePatterns.{patterns_in_order, side_patterns}

-- the answer that the steps make, which is right
pub record IsMadeRight (reduces : Bool) (system : PatternSystem) (parts : List Core) (made : MadeSoFar) (g : Core) : Type 0 where
  pub answer : Answer
  pub made_is : IsAnswerOf parts made g answer
  pub right : IsRightBy system (ToldWith reduces system) g answer

abbrev pub AreOperandsRight : (reduces : Bool) → PatternSystem → List Core → MadeSoFar → Core → Type 0
AreOperandsRight reduces system parts made f = (g : Core) → IsOperandOf g f → IsMadeRight reduces system parts made g

-- the counts of part k, which is "infinitely many" of g, hold by their rules
pub record IsCountedRight (reduces : Bool) (system : PatternSystem) (parts : List Core) (made : MadeSoFar) (k n : ℕ) (g : Core) : Type 0 where
  pub table : Table
  pub states : List ℕ
  pub counted : IsCounted parts made n g table states
  pub right : IsRightBy system (ToldWith reduces system) g (OfTable table)
  pub rules : KeepRules table (place_in (columns_of g) n) (count_at states (made.counts k))

abbrev pub AreCountsRight : (reduces : Bool) → PatternSystem → List Core → MadeSoFar → ℕ → Core → Type 0
AreCountsRight reduces system parts made k (core.Infinite n g) = IsCountedRight reduces system parts made k n g
AreCountsRight reduces system parts made k other = Unit {0}

-- an expression has a right answer; nothing is asked of other formulas
abbrev pub HasAnswerIfExpression : PatternSystem → Core → Type 0
HasAnswerIfExpression system (core.Leaf (core.InContext e number place x y)) = (answer : Answer) × IsRightFor system (core.Leaf (core.InContext e number place x y)) answer
HasAnswerIfExpression system other = Unit {0}

pub answered_if_expression : (reduces : Bool) (system : PatternSystem) (f : Core) (answer : Answer) → IsRightBy system (AlikeWith reduces system) f answer → HasAnswerIfExpression system f
answered_if_expression reduces system (core.Leaf (core.InContext e number place x y)) answer right = (answer, right_leaf reduces answer right)
  where
    -- tuples are alike at an atom whatever its operands' tables are, as it has none
    right_leaf : (r : Bool) (a : Answer) → IsRightBy system (AlikeWith r system) (core.Leaf (core.InContext e number place x y)) a → IsRightFor system (core.Leaf (core.InContext e number place x y)) a
    right_leaf true (OfValue b) h = record { answers = h.answers; alike = tt }
    right_leaf true (OfTable t) h = record { answers = h.answers; alike = h.alike }
    right_leaf false a h = h
answered_if_expression reduces system (core.Leaf (core.Related rel index x y)) answer right = tt
answered_if_expression reduces system (core.Leaf (core.Normal index x)) answer right = tt
answered_if_expression reduces system (core.Leaf (core.IsTerm x term)) answer right = tt
answered_if_expression reduces system core.True answer right = tt
answered_if_expression reduces system (core.Not f) answer right = tt
answered_if_expression reduces system (core.Binary op f g) answer right = tt
answered_if_expression reduces system (core.Exists n f) answer right = tt
answered_if_expression reduces system (core.Infinite n f) answer right = tt

-- the labels of a part, whose tables are right
pub record HasLabels (reduces : Bool) (system : PatternSystem) (parts : List Core) (made : MadeSoFar) (k : ℕ) (f : Core) : Type 0 where
  pub local : Local
  pub is : IsLocalOf system parts made k f local
  pub labels : AreLabelsOf reduces system f local

-- ---- tables where there are columns, values where there are none

free_some : (g : Core) (n : ℕ) → is_free n g ≡ true → 0 < length (columns_of g)
free_some g n h = let c = column-from_free g n h in omega (arith, c.1)

of_table : (system : PatternSystem) (g : Core) (a : Answer) → IsAnswerTo (pattern_structure system) g a → 0 < length (columns_of g) → (t : Table) × (a ≡ OfTable t)
of_table system g (OfValue b) answers some = absurd (let e : length (columns_of g) ≡ 0 = ap length answers.over in omega arith)
of_table system g (OfTable t) answers some = (t, refl)

of_value : (system : PatternSystem) (g : Core) (a : Answer) → IsAnswerTo (pattern_structure system) g a → length (columns_of g) ≡ 0 → (b : Bool) × (a ≡ OfValue b)
of_value system g (OfValue b) answers none = (b, refl)
of_value system g (OfTable t) answers none = absurd (let l : 0 < length (columns_of g) = answers.over.some in omega arith)

none_within : (h g : Core) → length (columns_of h) ≡ 0 → ((n : ℕ) → Contains (columns_of g) n → Contains (columns_of h) n) → length (columns_of g) ≡ 0
none_within h g none within =
    ⊎_elim
    (λ (l : 0 < length (columns_of g)).
    let c = within (get_or (columns_of g) 0 0) (Contains-get_or (columns_of g) 0 0 l) in
    absurd (omega (arith, c.1)))
    (λ l. omega arith)
    (cases_lt 0 (length (columns_of g)))

module _ (reduces : Bool) (system : PatternSystem) (parts : List Core) (made : MadeSoFar) where
  abbrev IsTold : Core → Answer → Type 0
  IsTold g answer = IsRightBy system (ToldWith reduces system) g answer

  record IsTableRight (g : Core) : Type 0 where
    table : Table
    made_is : IsAnswerOf parts made g (OfTable table)
    right : IsTold g (OfTable table)

  table_right : (g : Core) → IsMadeRight reduces system parts made g → 0 < length (columns_of g) → IsTableRight g
  table_right g h some =
      let t = of_table system g h.answer h.right.answers some in
      record { table = t.0; made_is = subst (IsAnswerOf parts made g) t.1 h.made_is; right = subst (IsTold g) t.1 h.right }

  record IsValueRight (g : Core) : Type 0 where
    value : Bool
    made_is : IsAnswerOf parts made g (OfValue value)
    right : IsTold g (OfValue value)

  own_value : (g : Core) → IsMadeRight reduces system parts made g → length (columns_of g) ≡ 0 → IsValueRight g
  own_value g h none =
      let b = of_value system g h.answer h.right.answers none in
      record { value = b.0; made_is = subst (IsAnswerOf parts made g) b.1 h.made_is; right = subst (IsTold g) b.1 h.right }

  -- ---- what counts tell

  counts_tell : (k n : ℕ) (g : Core) → is_free n g ≡ true → (h : IsCountedRight reduces system parts made k n g) → TellsMany h.table (place_in (columns_of g) n) (is_many h.states (made.counts k))
  counts_tell k n g among h =
      TellsMany-marks h.table (place_in (columns_of g) n) (count_at h.states (made.counts k)) h.right.answers.over.lawful h.right.answers.over.reached
      (omega (arith, bound_within n g among, h.right.answers.over.columns_are)) h.rules

-- ---- labels

module _ (reduces : Bool) (system : PatternSystem) (is : IsSystem system) (parts : List Core) (made : MadeSoFar) (k : ℕ) where
  atom_labels_of : (a : Atom) → has_columns (core.Leaf a) ≡ true → length (columns_of (core.Leaf a)) ≤ most_columns → HasClosuresFor system made (core.Leaf a)
      → HasAnswerIfExpression system (core.Leaf a) → HasLabels reduces system parts made k (core.Leaf a)
  atom_labels_of (core.Related rel index x y) columns few closures answered =
      let s = side_patterns (pairs_for rel (at_index index system.rules)) in
      let local : Local = relation_local system rel index x y s.0 s.1 (closure_for made rel index) in
      let h : IsRelationLocal system made rel index x y local = record { lefts = s.0; rights = s.1; patterns = s.2; is = refl } in
      record { local = local; is = h; labels = labels_relation reduces system is made rel index x y local few closures h }
  atom_labels_of (core.InContext e number place x y) columns few closures answered =
      let f = core.Leaf (core.InContext e number place x y) in
      let table = of_table system f answered.0 answered.1.answers (some_columns f columns) in
      let right : IsRightFor system f (OfTable table.0) = subst (IsRightFor system f) table.1 answered.1 in
      let h = IsExpressionLocal-states system is.constant e number place x y table.0 right in
      record { local = state_local table.0; is = h; labels = labels_expression reduces system is e number place x y (state_local table.0) h }
  atom_labels_of (core.Normal index x) columns few closures answered =
      let p = patterns_in_order (map (λ (pair : Pair). pair.0) (at_index index system.rules)) in
      let local : Local = normal_local system index p.0 in
      let h : IsNormalLocal system index local = record { lefts = p.0; patterns = p.1; is = refl } in
      record { local = local; is = h; labels = labels_normal reduces system is index x local h }
  atom_labels_of (core.IsTerm x term) columns few closures answered =
      record { local = term_local system.signature term; is = refl; labels = labels_term reduces system is x term }

  -- Result
  pub labels_of : (f : Core) → has_columns f ≡ true → is_turned f ≡ false → length (columns_of f) ≤ most_columns → BindsFree f
      → HasClosuresFor system made f → HasAnswerIfExpression system f → AreOperandsRight reduces system parts made f → AreCountsRight reduces system parts made k f → HasLabels reduces system parts made k f
  labels_of core.True columns turned few binds closures answered operands counts = absurd (true≢false (sym columns))
  labels_of (core.Leaf a) columns turned few binds closures answered operands counts = atom_labels_of a columns few closures answered
  labels_of (core.Not f) columns turned few binds closures answered operands counts = absurd (true≢false (sym columns ∙ turned))
  labels_of (core.Binary op f g) columns turned few binds closures answered operands counts =
      let a = operands f (inl refl) in
      let b = operands g (inr refl) in
      record {
        local = product_local op (core.Binary op f g) f g a.answer b.answer;
        is = record { first = a.answer; second = b.answer; first_is = a.made_is; second_is = b.made_is; is = refl };
        labels = labels_joined reduces system op f g a.answer b.answer (some_columns (core.Binary op f g) columns) few a.right b.right;
      }
  labels_of (core.Exists n f) columns turned few binds closures answered operands counts =
      let t = table_right reduces system parts made f (operands f refl) (free_some f n binds.0) in
      record {
        local = project_local t.table (place_in (columns_of f) n);
        is = record { body = t.table; body_is = t.made_is; is = refl };
        labels = labels_projected reduces system n f t.table binds.0 (some_columns (core.Exists n f) columns) few t.right;
      }
  labels_of (core.Infinite n f) columns turned few binds closures answered operands counts =
      let many = is_many counts.states (made.counts k) in
      record {
        local = many_local counts.table (place_in (columns_of f) n) many;
        is = record { body = counts.table; states = counts.states; counted = counts.counted; is = refl };
        labels = labels_counted reduces system n f many counts.table binds.0 (some_columns (core.Infinite n f) columns) few counts.right (counts_tell reduces system parts made k n f binds.0 counts);
      }

  -- ---- values

  one_truth : (f : Core) (a b : Bool) → IsAnswerTo (pattern_structure system) f (OfValue a) → IsAnswerTo (pattern_structure system) f (OfValue b) → a ≡ b
  one_truth f a b h l =
      let constant : HasConstant system.signature = is.constant in
      let v : Places = λ n. Node constant.0 Nil in
      let grounded : AreGround system.signature v = λ n. (constant.1, tt) in
      one_decided a b (IsMetBy (pattern_structure system) f v) (h.truth v grounded) (l.truth v grounded)

  has_one : (f : Core) (n : ℕ) → is_free n f ≡ true → has_columns f ≡ false → ⊥
  has_one f n h none = let l = free_some f n h in let e = none_columns f none in omega arith

  record AreValuesRight (op : Connective) (f g : Core) (value : Bool) : Type 0 where
    first : IsValueRight reduces system parts made f
    second : IsValueRight reduces system parts made g
    says : value ≡ connected op first.value second.value

  values_of : (op : Connective) (f g : Core) (value : Bool) → IsMadeRight reduces system parts made f → IsMadeRight reduces system parts made g → IsAnswerTo (pattern_structure system) (Binary op f g) (OfValue value)
      → AreValuesRight op f g value
  values_of op f g value one other right =
      let none : length (columns_of (Binary op f g)) ≡ 0 = ap length right.over in
      let a = own_value reduces system parts made f one (none_within (Binary op f g) f none (first_within (Binary op f g) f g (is_free-joined op f g))) in
      let b = own_value reduces system parts made g other (none_within (Binary op f g) g none (second_within (Binary op f g) f g (is_free-joined op f g))) in
      record { first = a; second = b; says = one_truth (Binary op f g) value (connected op a.value b.value) right (values_right system op f g a.value b.value right.over a.right.answers b.right.answers) }

  has_number : (a : Atom) → has_columns (core.Leaf a) ≡ false → ⊥
  has_number (core.Related rel index x y) none = has_one (core.Leaf (core.Related rel index x y)) x (ap (λ b. b || (y == x)) (eq-eqb x x refl)) none
  has_number (core.InContext e number place x y) none =
      has_one (core.Leaf (core.InContext e number place x y)) x (ap (λ b. b || (y == x)) (eq-eqb x x refl)) none
  has_number (core.Normal index x) none = has_one (core.Leaf (core.Normal index x)) x (eq-eqb x x refl) none
  has_number (core.IsTerm x term) none = has_one (core.Leaf (core.IsTerm x term)) x (eq-eqb x x refl) none

  -- Result
  pub value_of : (f : Core) (value : Bool) → has_columns f ≡ false → BindsFree f → AreOperandsRight reduces system parts made f → AreCountsRight reduces system parts made k f
      → IsAnswerTo (pattern_structure system) f (OfValue value) → IsValueOf parts made k f value
  value_of core.True value none binds operands counts right = one_truth core.True value true right (true_right system)
  value_of (core.Leaf a) value none binds operands counts right = absurd (has_number a none)
  value_of (core.Not f) value none binds operands counts right =
      let b = own_value reduces system parts made f (operands f refl) (none_columns f none) in
      (b.value, b.made_is, one_truth (core.Not f) value (not b.value) right (not_value_right system f b.value b.right.answers))
  value_of (core.Binary op f g) value none binds operands counts right =
      let v = values_of op f g value (operands f (inl refl)) (operands g (inr refl)) right in
      record { first = v.first.value; second = v.second.value; first_is = v.first.made_is; second_is = v.second.made_is; is = v.says }
  value_of (core.Exists n f) value none binds operands counts right =
      let t = table_right reduces system parts made f (operands f refl) (free_some f n binds.0) in
      (t.table, t.made_is, one_truth (core.Exists n f) value (some_below (length t.table.presences) t.table.accepting) right (some_value_right system n f t.table binds.0 (ap length right.over) t.right.answers))
  value_of (core.Infinite n f) value none binds operands counts right =
      let many = is_many counts.states (made.counts k) in
      record {
        body = counts.table;
        states = counts.states;
        counted = counts.counted;
        is = one_truth (core.Infinite n f) value (many_value counts.table (place_in (columns_of f) n) many) right
            (many_value_right system n f many counts.table binds.0 (ap length right.over) counts.right.answers (counts_tell reduces system parts made k n f binds.0 counts));
      }
