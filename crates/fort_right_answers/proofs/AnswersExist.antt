-- A result, which no proof cites: each well-formed formula over a system, whose expressions have right answers, has one; so a part over a cap with reduced tables is over it without.
use Rattle.std.proofs.Common.{◌≡◌, ℕ, ◌-◌, ◌<◌, ◌≤◌, List, [], map, length, Bool, true, not, refl, ap, sym, arith, subst, inl, inr, ⊎_elim}
use Rattle.std.specs.Prelude.{Contains}
use Rattle.std.proofs.lemmas.Bool.{cases_lt}
use Rattle.fort_parts.specs.DecidedCores.{IsOverSystem, IsOperandOf, IsDecided}
use Rattle.fort_theory.specs.Trees.{Tree}
use Rattle.fort_theory.specs.Signatures.{most_columns}
use Rattle.fort_theory.specs.Sides.{at_index}
use Rattle.fort_theory.specs.Patterns.{Pair, PatternSystem, IsSystem}
use Rattle.fort_theory.specs.Cores as core
use Rattle.fort_theory.specs.Cores.{Core, Rel, Binary}
use Rattle.fort_theory.specs.Parts.{is_free, postorder, IsWellFormed}
use Rattle.fort_theory.specs.PatternStructures.{pattern_structure}
use Rattle.fort_tables.specs.Tables.{Table}
use Rattle.fort_tables.specs.Labels.{Labelling}
use Rattle.fort_tables.specs.LabelRules.{LabelRule, IsLabelRule, label_of, IsTableBy}
use Rattle.fort_alike.specs.Atoms.{pairs_for, relation_atom, normal_atom}
use Rattle.fort_alike.specs.ListedAtoms.{listed}
use Rattle.fort_alike.specs.AtomRules.{atom_rule, atom_accepts}
use Rattle.fort_alike.specs.Subterms.{subterms}
use Rattle.fort_alike.specs.TermRule.{term_rule, term_accepts}
use Rattle.fort_alike.proofs.AtomMeans.{labels_alike, Decides-atom_accepts}
use Rattle.fort_alike.proofs.RuleLaws.{IsLabelRule-atom}
use Rattle.fort_alike.proofs.SubtermLaws.{ListsSubterms-subterms}
use Rattle.fort_alike.proofs.SystemAtoms.{IsListedAtom-relation, IsListedAtom-normal}
use Rattle.fort_alike.proofs.TermLabels.{IsLabelRule-term, labels-AlikeAtTerm, accepts-term}
use Rattle.fort_tables.specs.OperationTruth.{complemented}
use Rattle.fort_theory.specs.Logic.{Connective}
use Rattle.fort_tables.specs.Products.{connected, signature_of, IsOperand, product_rule, product_accepts}
use Rattle.fort_tables.specs.Projections.{some_below, project_rule, project_accepts}
use Rattle.fort_tables.specs.Counts.{is_infinite}
use Rattle.fort_tables.specs.ManyLabels.{TellsMany, many_rule, many_accepts, many_value}
use Rattle.fort_tables.proofs.MarksExist.{marks_exist}
use Rattle.fort_tables.proofs.TellsLaws.{TellsMany-marks}
use Rattle.fort_parts.specs.PartColumns.{columns_of, place_in, places_in}
use Rattle.fort_parts.specs.AlikeParts.{AlikeAt, IsOverBy, IsPartOver}
use Rattle.fort_parts.specs.PartAnswers.{Answer, OfValue, OfTable, IsAnswerTo}
use Rattle.fort_parts.specs.PartLabels.{LabelsTellAlike}
use Rattle.fort_parts.specs.PartSteps.{operand_of}
use Rattle.fort_parts.specs.RightAnswers.{IsRightFor}
use Rattle.fort_parts.proofs.AtomResults.{IsAnswerTo-Atom, IsAnswerTo-Nf, IsAnswerTo-Is, LabelsTellAlike-Nf, LabelsTellAlike-Is}
use Rattle.fort_parts.proofs.PartColumnLaws.{AreColumns-columns_of, columns_of-Normal, columns_of-IsTerm, first_within, second_within}
use Rattle.fort_parts.proofs.PartFacts.{columns_of-few, IsOverSystem-part}
use Rattle.fort_parts.proofs.PartOrder.{Contains-postorder}
use Rattle.fort_parts.proofs.StepTables.{IsOperand-answer, IsLawful-answer}
use Rattle.fort_parts.proofs.StepAnswers.{IsRightBy-value, IsRightBy-labels, IsAnswerTo-True, IsAnswerTo-Not-value, IsAnswerTo-Not-table, is_free-joined, IsAnswerTo-values, some-first, some-second, joined_label, LabelsTellAlike-joined, IsAnswerTo-joined, place_bound, count_bound, IsAnswerTo-projected, IsAnswerTo-closed, LabelsTellAlike-projected, IsAnswerTo-many, IsAnswerTo-many_closed, LabelsTellAlike-many}
use Rattle.fort_certificate_theory.proofs.AnsweredParts.{HasAnswerIfExpression}
use Rattle.fort_certificate_theory.proofs.JoinedTables.{joined_signature}
use Rattle.fort_certificate_theory.proofs.SidePatterns.{patterns_in_order, side_patterns}
use Rattle.fort_parts.specs.ReducedParts.{AlikeReduced}
use Rattle.fort_parts.proofs.ReducedOver.{HasAnswer, OperandsAnswered, body_of, over_from_reduced}
use Rattle.fort_right_answers.proofs.ClosureFound.{closure_by, IsClosure-found}
use Rattle.fort_right_answers.proofs.LabelTables.{HasTable, table_exists}
use Rattle.fort_right_answers.proofs.LabelBounds.{IsBounded-atom, IsBounded-term, IsBounded-product, IsBounded-project, IsBounded-many}
use Rattle.fort_right_answers.proofs.WellFormedParts.{IsWellFormed-operand, IsWellFormed-part}

module _ (system : PatternSystem) where
  -- over the formula's columns
  abbrev HasTableFor : Core → Labelling → (List ℕ → Bool) → Type 0
  HasTableFor f label accepting = HasTable system.signature (length (columns_of f)) label accepting

  -- each table by these labels answers the formula
  abbrev AnswersBy : Core → Labelling → (List ℕ → Bool) → Type 0
  AnswersBy f label accepting =
      (table : Table) → IsTableBy system.signature (length (columns_of f)) label accepting table → IsAnswerTo (pattern_structure system) f (OfTable table)

  -- a table by labels that tell when tuples are alike is a right answer
  by_labels : (f : Core) (label : Labelling) (accepting : List ℕ → Bool) → HasTableFor f label accepting → LabelsTellAlike system f label → AnswersBy f label accepting → HasAnswer system f
  by_labels f label accepting has tells answers = record {
    answer = OfTable has.table;
    right = IsRightBy-labels system (AlikeAt system) f label accepting has.table tells has.of (answers has.table has.by);
  }

  by_value : (f : Core) (b : Bool) → IsAnswerTo (pattern_structure system) f (OfValue b) → HasAnswer system f
  by_value f b answers = record { answer = OfValue b; right = IsRightBy-value system (AlikeAt system) f b answers }

  -- a table over the rule's own signature and columns, where these are the formula's
  rule_table : (f : Core) (r : LabelRule) (accepting : List ℕ → Bool) → r.signature ≡ system.signature → r.columns ≡ length (columns_of f)
      → HasTable r.signature r.columns (label_of r) accepting → HasTableFor f (label_of r) accepting
  rule_table f r accepting sig count has =
      subst (λ s. HasTable s (length (columns_of f)) (label_of r) accepting) sig (subst (λ n. HasTable r.signature n (label_of r) accepting) count has)

  -- ---- atoms

  module _ (is : IsSystem system) where
    HasAnswer-Related : (rel : Rel) (index x y : ℕ) → HasAnswer system (core.Leaf (core.Related rel index x y))
    HasAnswer-Related rel index x y =
        let f = core.Leaf (core.Related rel index x y) in
        let sides = side_patterns (pairs_for rel (at_index index system.rules)) in
        let a = listed (relation_atom system rel index x y (columns_of f)) sides.0 sides.1 in
        let atom = IsListedAtom-relation system is index rel x y (columns_of f) (AreColumns-columns_of f) sides.0 sides.1 sides.2.left sides.2.right in
        let test = closure_by a atom in
        let closes = IsClosure-found a atom in
        let label = label_of (atom_rule a test) in
        by_labels f label (atom_accepts a) (table_exists (atom_rule a test) (atom_accepts a) (IsLabelRule-atom a test atom) (IsBounded-atom a test))
        (labels_alike a test atom closes)
        (λ table by. IsAnswerTo-Atom system label (atom_accepts a) table rel index x y (λ t h full. Decides-atom_accepts a test atom closes t h) by)

    HasAnswer-Normal : (index x : ℕ) → HasAnswer system (core.Leaf (core.Normal index x))
    HasAnswer-Normal index x =
        let f = core.Leaf (core.Normal index x) in
        let one : 1 ≡ length (columns_of f) = sym (ap length (columns_of-Normal index x)) in
        let sides = patterns_in_order (map (λ (pair : Pair). pair.0) (at_index index system.rules)) in
        let a = listed (normal_atom system index) sides.0 [] in
        let atom = IsListedAtom-normal system is index sides.0 sides.1 in
        let test = closure_by a atom in
        let closes = IsClosure-found a atom in
        let label = label_of (atom_rule a test) in
        by_labels f label (atom_accepts a)
        (rule_table f (atom_rule a test) (atom_accepts a) refl one (table_exists (atom_rule a test) (atom_accepts a) (IsLabelRule-atom a test atom) (IsBounded-atom a test)))
        (LabelsTellAlike-Nf system label index x (labels_alike a test atom closes))
        (λ table by.
        IsAnswerTo-Nf system label (atom_accepts a) table index x (λ t h full. Decides-atom_accepts a test atom closes t h)
        (subst (λ n. IsTableBy system.signature n label (atom_accepts a) table) (sym one) by))

  HasAnswer-IsTerm : (x : ℕ) (term : Tree) → HasAnswer system (core.Leaf (core.IsTerm x term))
  HasAnswer-IsTerm x term =
      let f = core.Leaf (core.IsTerm x term) in
      let sig = system.signature in
      let one : 1 ≡ length (columns_of f) = sym (ap length (columns_of-IsTerm x term)) in
      let listed = subterms term in
      let lists = ListsSubterms-subterms term in
      let r = term_rule sig listed in
      let accepting = term_accepts listed term in
      by_labels f (label_of r) accepting (rule_table f r accepting refl one (table_exists r accepting (IsLabelRule-term sig listed) (IsBounded-term sig term)))
      (LabelsTellAlike-Is system (label_of r) x term (labels-AlikeAtTerm sig term listed lists))
      (λ table by.
      IsAnswerTo-Is system (label_of r) accepting table x term (λ t h full. accepts-term sig term listed lists t h)
      (subst (λ n. IsTableBy sig n (label_of r) accepting table) (sym one) by))

  -- ---- complements, connectives

  HasAnswer-Not : (f : Core) → HasAnswer system f → HasAnswer system (core.Not f)
  HasAnswer-Not f a = by a.answer a.right
    where
      by : (answer : Answer) → IsRightFor system f answer → HasAnswer system (core.Not f)
      by (OfValue b) right = by_value (core.Not f) (not b) (IsAnswerTo-Not-value system f b right.answers)
      by (OfTable table) right = record { answer = OfTable (complemented table); right = record { answers = IsAnswerTo-Not-table system f table right.answers; alike = right.alike } }

  module _ (op : Connective) (f g : Core) (few : length (columns_of (Binary op f g)) ≤ most_columns) where
    joined_table : (first second : Answer) → IsRightFor system f first → IsRightFor system g second → 0 < length (columns_of (Binary op f g)) → HasAnswer system (Binary op f g)
    joined_table first second one other some =
        let h = Binary op f g in
        let n = length (columns_of h) in
        let sig = system.signature in
        let a = operand_of first (places_in (columns_of h) (columns_of f)) in
        let b = operand_of second (places_in (columns_of h) (columns_of g)) in
        let same = joined_signature system op f g first second (places_in (columns_of h) (columns_of f)) (places_in (columns_of h) (columns_of g)) some one.answers.over other.answers.over in
        let a_is : IsOperand (signature_of a b) n a =
        subst (λ s. IsOperand s n a) (sym same) (IsOperand-answer sig (columns_of f) (columns_of h) first (first_within h f g (is_free-joined op f g)) one.answers.over) in
        let b_is : IsOperand (signature_of a b) n b =
        subst (λ s. IsOperand s n b) (sym same) (IsOperand-answer sig (columns_of g) (columns_of h) second (second_within h f g (is_free-joined op f g)) other.answers.over) in
        let bounded = IsBounded-product n a b a_is b_is (IsLawful-answer sig (columns_of f) (places_in (columns_of h) (columns_of f)) first one.answers.over)
        (IsLawful-answer sig (columns_of g) (places_in (columns_of h) (columns_of g)) second other.answers.over) in
        let law : IsLabelRule (product_rule n a b) = record { some = some; narrow = few; tells = λ k ws. refl } in
        by_labels h (joined_label system op f g first second) (product_accepts op a b)
        (rule_table h (product_rule n a b) (product_accepts op a b) same refl (table_exists (product_rule n a b) (product_accepts op a b) law bounded))
        (LabelsTellAlike-joined system op f g first second one other)
        (λ table by. IsAnswerTo-joined system op f g first second table one.answers other.answers some by)

    HasAnswer-joined : HasAnswer system f → HasAnswer system g → HasAnswer system (Binary op f g)
    HasAnswer-joined one other = by one.answer other.answer one.right other.right
      where
        by : (first second : Answer) → IsRightFor system f first → IsRightFor system g second → HasAnswer system (Binary op f g)
        by (OfValue a) (OfValue b) p q = by_value (Binary op f g) (connected op a b) (IsAnswerTo-values system op f g a b p.answers q.answers)
        by (OfValue a) (OfTable v) p q = joined_table (OfValue a) (OfTable v) p q (some-second system op f g v q.answers)
        by (OfTable u) second p q = joined_table (OfTable u) second p q (some-first system op f g u p.answers)

  -- ---- a column that ranges over all terms

  module _ (n : ℕ) (f : Core) (among : is_free n f ≡ true) (body : Table) (right : IsRightFor system f (OfTable body)) (few : length (columns_of (core.Exists n f)) ≤ most_columns) where
    abbrev column : ℕ
    column = place_in (columns_of f) n

    low : column < body.columns
    low = omega (arith, place_bound n f among, right.answers.over.columns_are)

    columns_left : body.columns - 1 ≡ length (columns_of (core.Exists n f))
    columns_left = omega (arith, right.answers.over.columns_are, count_bound n f among)

    only_column : length (columns_of (core.Exists n f)) ≤ 0 → length (columns_of f) ≡ 1
    only_column none = omega (arith, count_bound n f among)

    projected_table : 0 < length (columns_of (core.Exists n f)) → HasAnswer system (core.Exists n f)
    projected_table some =
        let h = core.Exists n f in
        let r = project_rule body column in
        let over = right.answers.over in
        let law : IsLabelRule r = record { some = omega (arith, some, columns_left); narrow = omega (arith, few, columns_left); tells = λ k ws. refl } in
        by_labels h (label_of r) (project_accepts body)
        (rule_table h r (project_accepts body) over.signature columns_left (table_exists r (project_accepts body) law (IsBounded-project body column over.lawful over.reached low)))
        (LabelsTellAlike-projected system n f body among right)
        (λ table by. IsAnswerTo-projected system n f body among right.answers table some by)

    HasAnswer-Exists : HasAnswer system (core.Exists n f)
    HasAnswer-Exists =
        ⊎_elim
        (λ some. projected_table some)
        (λ none. by_value (core.Exists n f) (some_below (length body.presences) body.accepting) (IsAnswerTo-closed system n f body among (only_column none) right.answers))
        (cases_lt 0 (length (columns_of (core.Exists n f))))

    many_table : (many : ℕ → Bool) → TellsMany body column many → 0 < length (columns_of (core.Infinite n f)) → HasAnswer system (core.Infinite n f)
    many_table many tells some =
        let h = core.Infinite n f in
        let r = many_rule body column many in
        let over = right.answers.over in
        let law : IsLabelRule r = record { some = omega (arith, some, columns_left); narrow = omega (arith, few, columns_left); tells = λ k ws. refl } in
        by_labels h (label_of r) (many_accepts body)
        (rule_table h r (many_accepts body) over.signature columns_left (table_exists r (many_accepts body) law (IsBounded-many body column many over.lawful over.reached low)))
        (LabelsTellAlike-many system n f body many among tells right)
        (λ table by. IsAnswerTo-many system n f body many among tells right.answers table some by)

    HasAnswer-Infinite : HasAnswer system (core.Infinite n f)
    HasAnswer-Infinite =
        let over = right.answers.over in
        let marks = marks_exist body column low in
        let many : ℕ → Bool = λ k. is_infinite (marks.0 k) in
        let tells = TellsMany-marks body column marks.0 over.lawful over.reached low marks.1 in
        ⊎_elim
        (λ some. many_table many tells some)
        (λ none. by_value (core.Infinite n f) (many_value body column many) (IsAnswerTo-many_closed system n f body many among tells (only_column none) right.answers))
        (cases_lt 0 (length (columns_of (core.Infinite n f))))

-- ---- all kinds

-- each expression that stands in the formula has a right answer
abbrev pub HasAnswersOfExpressions : PatternSystem → Core → Type 0
HasAnswersOfExpressions system core.True = Unit {0}
HasAnswersOfExpressions system (core.Leaf a) = HasAnswerIfExpression system (core.Leaf a)
HasAnswersOfExpressions system (core.Not f) = HasAnswersOfExpressions system f
HasAnswersOfExpressions system (core.Binary op f g) = HasAnswersOfExpressions system f × HasAnswersOfExpressions system g
HasAnswersOfExpressions system (core.Exists n f) = HasAnswersOfExpressions system f
HasAnswersOfExpressions system (core.Infinite n f) = HasAnswersOfExpressions system f

few_columns : (f : Core) → IsWellFormed f → length (columns_of f) ≤ most_columns
few_columns f well = columns_of-few f f well (Contains-postorder f)

-- operands are well-formed
well_first : (op : Connective) (f g : Core) → IsWellFormed (Binary op f g) → IsWellFormed f
well_first op f g well = IsWellFormed-operand f (core.Binary op f g) (inl refl) well

well_second : (op : Connective) (f g : Core) → IsWellFormed (Binary op f g) → IsWellFormed g
well_second op f g well = IsWellFormed-operand g (core.Binary op f g) (inr refl) well

module _ (system : PatternSystem) (is : IsSystem system) where
  -- Result: each well-formed formula over the system has a right answer, where its expressions have
  pub HasAnswer-decided : (f : Core) → IsWellFormed f → IsOverSystem system f → HasAnswersOfExpressions system f → HasAnswer system f
  HasAnswer-decided core.True well over answered = by_value system core.True true (IsAnswerTo-True system)
  HasAnswer-decided (core.Leaf (core.Related rel index x y)) well over answered = HasAnswer-Related system is rel index x y
  HasAnswer-decided (core.Leaf (core.InContext e number place x y)) well over answered = record { answer = answered.0; right = answered.1 }
  HasAnswer-decided (core.Leaf (core.Normal index x)) well over answered = HasAnswer-Normal system is index x
  HasAnswer-decided (core.Leaf (core.IsTerm x term)) well over answered = HasAnswer-IsTerm system x term
  HasAnswer-decided (core.Not f) well over answered = HasAnswer-Not system f (HasAnswer-decided f (IsWellFormed-operand f (core.Not f) refl well) over answered)
  HasAnswer-decided (core.Binary op f g) well over answered =
      HasAnswer-joined system op f g (few_columns (core.Binary op f g) well) (HasAnswer-decided f (well_first op f g well) over.0 answered.0)
      (HasAnswer-decided g (well_second op f g well) over.1 answered.1)
  HasAnswer-decided (core.Exists n f) well over answered =
      let w = body_of system n f well.binders.0 (HasAnswer-decided f (IsWellFormed-operand f (core.Exists n f) refl well) over answered) in
      HasAnswer-Exists system n f well.binders.0 w.0 w.1 (few_columns (core.Exists n f) well)
  HasAnswer-decided (core.Infinite n f) well over answered =
      let w = body_of system n f well.binders.0 (HasAnswer-decided f (IsWellFormed-operand f (core.Infinite n f) refl well) over answered) in
      HasAnswer-Infinite system n f well.binders.0 w.0 w.1 (few_columns (core.Infinite n f) well)

  -- so has each of its operands
  pub OperandsAnswered-decided : (f : Core) → IsWellFormed f → IsOverSystem system f → ((g : Core) → IsOperandOf g f → HasAnswersOfExpressions system g) → OperandsAnswered system f
  OperandsAnswered-decided core.True well over answered = tt
  OperandsAnswered-decided (core.Leaf a) well over answered = tt
  OperandsAnswered-decided (core.Not f) well over answered = HasAnswer-decided f (IsWellFormed-operand f (core.Not f) refl well) over (answered f refl)
  OperandsAnswered-decided (core.Binary op f g) well over answered = (
    HasAnswer-decided f (well_first op f g well) over.0 (answered f (inl refl)),
    HasAnswer-decided g (well_second op f g well) over.1 (answered g (inr refl)),
  )
  OperandsAnswered-decided (core.Exists n f) well over answered = HasAnswer-decided f (IsWellFormed-operand f (core.Exists n f) refl well) over (answered f refl)
  OperandsAnswered-decided (core.Infinite n f) well over answered = HasAnswer-decided f (IsWellFormed-operand f (core.Infinite n f) refl well) over (answered f refl)

  -- Result: a part that is over the cap with reduced tables is over it without, where the expressions in its operands have right answers
  pub over_with_reduced : (root f : Core) (cap : ℕ) → IsDecided system root → Contains (postorder root) f → ((g : Core) → IsOperandOf g f → HasAnswersOfExpressions system g)
      → IsOverBy system (AlikeReduced system) f cap → IsPartOver system f cap
  over_with_reduced root f cap decided among answered over =
      let part = IsWellFormed-part root f decided.well_formed among in
      over_from_reduced system f cap part.binders (OperandsAnswered-decided f part (IsOverSystem-part system root f decided.over among) answered) over
