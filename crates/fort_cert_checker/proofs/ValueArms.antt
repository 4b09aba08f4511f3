-- The value of a part, work by work, and its marks.
use Rattle.std.specs.Prelude.{◌≡◌, ℕ, ◌<◌, List, map, length, get_or, nat_lt, Contains, ◌||◌, ◌==◌, Bool, true, false, not, refl}
use Rattle.std.proofs.Common.{sym, ap, ◌∙◌, subst, arith, eq-eqb, Vec, Global}
use Rattle.std.proofs.lemmas.Bool.{lt-ltb}
use Rattle.std.proofs.lemmas.List.{length-map}
use Rattle.std.proofs.lemmas.List.Elements.{Contains-get_or}
use Rattle.fort_theory.specs.Patterns.{PatternSystem}
use Rattle.fort_theory.specs.Cores as core
use Rattle.fort_theory.specs.Cores.{Core, Binary}
use Rattle.fort_theory.specs.Parts.{is_free, BindsFree}
use Rattle.fort_tables.specs.Tables.{Table}
use Rattle.fort_theory.specs.Logic.{Connective}
use Rattle.fort_tables.specs.Products.{connected}
use Rattle.fort_tables.specs.Projections.{ArePure, some_below}
use Rattle.fort_tables.specs.Counts as counts
use Rattle.fort_tables.specs.ManyLabels.{many_value}
use Rattle.fort_parts.specs.PartColumns.{columns_of, place_in}
use Rattle.fort_parts.specs.DecidedCores.{IsOperandOf}
use Rattle.fort_parts.proofs.PartColumnLaws.{columns_of-Normal, columns_of-IsTerm, column-from_free}
use Rattle.fort_certificate_theory.specs.CountSteps.{IsCountOutcome}
use Rattle.fort_certificate_theory.specs.Dues.{has_columns}
use Rattle.fort_certificate_theory.specs.Made.{MadeSoFar}
use Rattle.fort_certificate_theory.specs.Outcomes.{StepOutcome}
use Rattle.fort_certificate_theory.specs.PartRules.{IsValueOf, IsCounted, is_many}
use Rattle.fort_certificate_theory.specs.Checked.{IsCountJudged}
use Rattle.fort_certificate_theory.proofs.RightParts.{some_columns, none_columns}
use Rattle.fort_certificate_theory.proofs.JoinedTables.{bound_within}
use Rattle.fort_connectives.specs.declared.connective.Op.{Op}
use Rattle.fort_connectives.specs.ConnectiveView.{connective_of}
use Rattle.fort_findings.specs.declared.count.Count.{Count}
use Rattle.fort_findings.specs.FindingView.{as_count}
use Rattle.fort_check_steps.specs.declared.marks.MarkRoom.{MarkRoom}
use Rattle.fort_check_steps.specs.Marks.{HasMarkRoom}
use Rattle.fort_cert_checker.specs.declared.plan.Source.{Source}
use Rattle.fort_cert_checker.specs.declared.plan.OperandPlan.{OperandPlan}
use Rattle.fort_context_closure.specs.declared.atom_labels.AtomLabels.{AtomLabels}
use Rattle.fort_context_closure.specs.declared.atom_labels.AtomLabels.TheVariants.{Relation, Expression, Normal, Is}
use Rattle.fort_cert_checker.specs.declared.plan.Work.{Work}
use Rattle.fort_cert_checker.specs.declared.plan.Work.TheVariants.{Truth, Negation, Atom, Product, Projection, Many}
use Rattle.fort_cert_checker.specs.declared.plan.Plan.{Plan}
use Rattle.fort_cert_checker.specs.declared.past.Past.{Past}
use Rattle.fort_cert_checker.specs.Sources.{IsSourceOf}
use Rattle.fort_cert_checker.specs.Plans.{IsAtomPlan, IsNegationPlan, IsProductPlan, IsProjectionPlan, IsManyPlan, IsWorkOf}
use Rattle.fort_cert_checker.specs.Pasts.{steps_of, IsTableAt, IsTruthAt, IsPartDue, AreCountsKnown, IsMarkRoomFor}
use Rattle.fort_cert_checker.specs.Values.{IsValueDue, AreCountsDue}
use Rattle.fort_cert_checker.proofs.PartStateLaws.{states_one}
use Rattle.fort_cert_checker.proofs.JoinFits.{joined_first, joined_second}
use Rattle.fort_outline.proofs.JoinedOperands.{operand_first, operand_second}
use Rattle.fort_cert_checker.proofs.KnownAnswers.{IsKnownTable, known_table, known_value}
use Rattle.fort_cert_checker.proofs.PartLocals.{joined_value_is, some_value_is, negated_value_is, true_value_is, many_value_is}
use Rattle.fort_cert_checker.proofs.TableArms.{some_pure}

-- a formula among whose columns are those of one with a column has one
none_within : (f g : Core) → ((n : ℕ) → Contains (columns_of g) n → Contains (columns_of f) n) → has_columns f ≡ false → has_columns g ≡ false
none_within f g within none = by (has_columns g) refl
  where
    by : (b : Bool) → has_columns g ≡ b → has_columns g ≡ false
    by false e = e
    by true e =
        let l = some_columns g e in
        let c = within (get_or (columns_of g) 0 0) (Contains-get_or (columns_of g) 0 0 l) in
        absurd (let z = none_columns f none in omega (arith, c.1, z))

has_some : (n : ℕ) → 0 < n → nat_lt 0 n ≡ true
has_some n l = lt-ltb 0 n l

module _ (system : PatternSystem) (parts : List Core) (past : Past) (k : ℕ) (made : MadeSoFar) (f : Core) (p : Plan) (due : IsPartDue system parts past k made f p) where
  at_work : (w : Work) → p.work ≡ w → IsWorkOf system parts (steps_of past) k f w
  at_work w e = subst (IsWorkOf system parts (steps_of past) k f) e due.plan.work

  operand_is : (g h : Core) → f ≡ h → IsOperandOf g h → IsOperandOf g (get_or parts k core.True)
  operand_is g h e o = subst (IsOperandOf g) (sym (due.part ∙ e)) o

  -- a body in which a number is bound
  module _ (n : ℕ) (g : Core) (operand : IsOperandOf g (get_or parts k core.True)) (s : Source) (source : IsSourceOf parts g s.part s.turns) (among : is_free n g ≡ true) where
    low : place_in (columns_of g) n < length (columns_of g)
    low = bound_within n g among

    pub bound_body : IsKnownTable system parts past k made due.known g s
    bound_body = known_table system parts past k made due.known g operand s source (has_some (length (columns_of g)) (omega (arith, low)))

    pub bound_low : (c : ℕ) → c ≡ place_in (columns_of g) n → c < bound_body.table.columns
    bound_low c e = omega (arith, low, bound_body.over.columns_are, e)

  pub counts_plan : (n : ℕ) (g : Core) → f ≡ core.Infinite n g → (s : Source) (c : ℕ) (ns : Vec Count Global) → p.work ≡ Many s c ns → IsManyPlan parts (steps_of past) k f s c ns.items
  counts_plan n g whole s c ns e = at_work (Many s c ns) e

  module _ (s : Source) (c : ℕ) (ns : Vec Count Global) (is : p.work ≡ Many s c ns) where
    pub many_plan : IsManyPlan parts (steps_of past) k f s c ns.items
    many_plan = at_work (Many s c ns) is

    many_free : is_free many_plan.number many_plan.body ≡ true
    many_free = (subst BindsFree many_plan.whole due.fit.binders).0

    many_operand : IsOperandOf many_plan.body (get_or parts k core.True)
    many_operand = operand_is many_plan.body (core.Infinite many_plan.number many_plan.body) many_plan.whole refl

    pub many_body : IsKnownTable system parts past k made due.known many_plan.body s
    many_body = bound_body many_plan.number many_plan.body many_operand s many_plan.source many_free

    pub many_low : c < many_body.table.columns
    unfolding many_body
    many_low = bound_low many_plan.number many_plan.body many_operand s many_plan.source many_free c many_plan.column

    -- the marks are judged on the table
    pub many_judged : (marks : List counts.Count) (states : List ℕ) (o : StepOutcome) → ArePure many_body.table c states → IsCountOutcome many_body.table c states marks o → IsCountJudged parts made k marks o
    many_judged marks states o pure outcome = record {
      number = many_plan.number;
      body = many_plan.body;
      table = many_body.table;
      states = states;
      part = due.part ∙ many_plan.whole;
      counted = record { body_is = many_body.is; pure = subst (λ (d : ℕ). ArePure many_body.table d states) many_plan.column pure };
      is = subst (λ (d : ℕ). IsCountOutcome many_body.table d states marks o) many_plan.column outcome;
    }

module _ (system : PatternSystem) (parts : List Core) (past : Past) (k : ℕ) (made : MadeSoFar) (f : Core) (p : Plan) (marks : MarkRoom) (due : IsValueDue system parts past k made f p marks) where
  work_is : (w : Work) → p.work ≡ w → IsWorkOf system parts (steps_of past) k f w
  work_is w e = subst (IsWorkOf system parts (steps_of past) k f) e due.due.plan.work

  pub truth_value : (value : Bool) → p.work ≡ Truth → value ≡ true → IsValueOf parts made k f value
  truth_value value e is = true_value_is system parts k made f value (work_is Truth e) is

  pub negation_value : (s : Source) (value own : Bool) → p.work ≡ Negation s → ((truth : Bool) → IsTruthAt past s truth → own ≡ truth) → value ≡ not own → IsValueOf parts made k f value
  negation_value s value own e told is =
      let h : IsNegationPlan parts f s = work_is (Negation s) e in
      let none : has_columns h.body ≡ false = sym (ap has_columns h.whole) ∙ due.columns in
      let v = known_value system parts past k made due.due.known h.body (subst (IsOperandOf h.body) (sym (due.due.part ∙ h.whole)) refl) s h.source none in
      negated_value_is system parts k made f h.body v.0 value h.whole v.2 (is ∙ ap not (told v.0 v.1))

  pub product_value : (op : Op) (first second : OperandPlan) (value a b : Bool) → p.work ≡ Product op first second → ((truth : Bool) → IsTruthAt past first.source truth → a ≡ truth)
      → ((truth : Bool) → IsTruthAt past second.source truth → b ≡ truth) → value ≡ connected (connective_of op) a b → IsValueOf parts made k f value
  product_value op first second value a b e one other is =
      let h : IsProductPlan parts f op first second = work_is (Product op first second) e in
      let o = connective_of op in
      let whole_none : has_columns (Binary o h.one h.other) ≡ false = sym (ap has_columns h.whole) ∙ due.columns in
      let u = known_value system parts past k made due.due.known h.one (subst (IsOperandOf h.one) (sym (due.due.part ∙ h.whole)) (operand_first o h.one h.other)) first.source h.one_is.source
      (none_within (Binary o h.one h.other) h.one (joined_first o h.one h.other) whole_none) in
      let v = known_value system parts past k made due.due.known h.other (subst (IsOperandOf h.other) (sym (due.due.part ∙ h.whole)) (operand_second o h.one h.other)) second.source h.other_is.source
      (none_within (Binary o h.one h.other) h.other (joined_second o h.one h.other) whole_none) in
      joined_value_is system parts k made f o h.one h.other u.0 v.0 value h.whole u.2 v.2 (is ∙ (λ i. connected o (one u.0 u.1 i) (other v.0 v.1 i)))

  projection_table : (s : Source) (c : ℕ) → p.work ≡ Projection s c → (n : ℕ) × (g : Core) × (f ≡ core.Exists n g) × IsKnownTable system parts past k made due.due.known g s
  projection_table s c e =
      let h : IsProjectionPlan parts f s c = work_is (Projection s c) e in
      let free = (subst BindsFree h.whole due.due.fit.binders).0 in
      (h.number, h.body, h.whole, bound_body system parts past k made f p due.due h.number h.body (subst (IsOperandOf h.body) (sym (due.due.part ∙ h.whole)) refl) s h.source free)

  pub projection_at : (s : Source) (c : ℕ) → p.work ≡ Projection s c → (table : Table) × IsTableAt past s table
  projection_at s c e = let w = projection_table s c e in (w.3.table, w.3.at)

  pub projection_value : (s : Source) (c : ℕ) (value : Bool) (own : Table) → p.work ≡ Projection s c → ((table : Table) → IsTableAt past s table → own ≡ table) → value ≡ some_below (length own.presences) own.accepting
      → IsValueOf parts made k f value
  projection_value s c value own e told is =
      let w = projection_table s c e in
      let same : own ≡ w.3.table = told w.3.table w.3.at in
      some_value_is system parts k made f w.0 w.1 w.3.table value w.2 w.3.is (is ∙ ap (λ (t : Table). some_below (length t.presences) t.accepting) same)

  module _ (s : Source) (c : ℕ) (ns : Vec Count Global) (is : p.work ≡ Many s c ns) (xs : List Count) (same : xs ≡ ns.items) where
    plan : IsManyPlan parts (steps_of past) k f s c ns.items
    plan = many_plan system parts past k made f p due.due s c ns is

    body : IsKnownTable system parts past k made due.due.known plan.body s
    unfolding plan
    body = many_body system parts past k made f p due.due s c ns is

    many_counts : AreCountsKnown parts past made k
    many_counts = due.counts plan.number plan.body (due.due.part ∙ plan.whole)

    many_made : made.counts k ≡ map as_count xs
    many_made = many_counts.made_is ∙ (sym (plan.marks_are many_counts.marks many_counts.only) ∙ ap (map as_count) (sym same))

    many_sizes : (states : List ℕ) → ArePure body.table c states → length xs ≡ length states
    many_sizes states pure =
        let counted : IsCounted parts made plan.number plan.body body.table states = record { body_is = body.is; pure = subst (λ (d : ℕ). ArePure body.table d states) plan.column pure } in
        let keep = many_counts.rules plan.number plan.body body.table states (due.due.part ∙ plan.whole) counted in
        sym (length-map xs as_count) ∙ (sym (ap length many_made) ∙ keep.1)

    pub many_needs : (table : Table) × IsTableAt past s table × (c < table.columns) × HasMarkRoom (length table.presences) 0 marks × ((states : List ℕ) → ArePure table c states → length xs ≡ length states)
    unfolding body plan
    many_needs =
        let m = (subst (λ (w : Work). IsMarkRoomFor (steps_of past) w marks) is due.marks_sized) body.count body.count_is in
        (body.table, body.at, many_low system parts past k made f p due.due s c ns is, subst (λ (w : ℕ). HasMarkRoom w 0 marks) (sym body.states) (record { pure = m.pure; holds = omega arith }), many_sizes)

    pub many_value_at : (value : Bool) → ((table : Table) (states : List ℕ) → IsTableAt past s table → ArePure table c states → value ≡ many_value table c (is_many states (map as_count xs))) → IsValueOf parts made k f value
    many_value_at value told =
        let w = some_pure body.table c (length body.table.presences) in
        many_value_is system parts k made f plan.number plan.body body.table c w.0 (map as_count xs) plan.whole body.is plan.column w.1 many_made value (told body.table w.0 body.at w.1)

  pub not_atom : (labels : AtomLabels) → p.work ≡ Atom labels → ⊥
  not_atom labels e = by labels (work_is (Atom labels) e)
    where
      by : (l : AtomLabels) → IsAtomPlan system (steps_of past) f l → ⊥
      by (Relation c) h =
          let g = core.Leaf (core.Related h.rel h.index h.first h.second) in
          let free : is_free h.first g ≡ true = ap (λ (b : Bool). b || (h.second == h.first)) (eq-eqb h.first h.first refl) in
          let at = column-from_free g h.first free in
          let none = none_columns f due.columns in
          omega (arith, none, ap (λ (x : Core). length (columns_of x)) h.whole, at.1)
      by (Expression l) h =
          let g = core.Leaf (core.InContext h.expression h.number h.place h.first h.second) in
          let free : is_free h.first g ≡ true = ap (λ (b : Bool). b || (h.second == h.first)) (eq-eqb h.first h.first refl) in
          let at = column-from_free g h.first free in
          let none = none_columns f due.columns in
          omega (arith, none, ap (λ (x : Core). length (columns_of x)) h.whole, at.1)
      by (Normal a) h =
          let none = none_columns f due.columns in
          let one = ap length (columns_of-Normal h.index h.number) in
          omega (arith, none, ap (λ (g : Core). length (columns_of g)) h.whole, one)
      by (Is term) h =
          let none = none_columns f due.columns in
          let one = ap length (columns_of-IsTerm h.number term) in
          omega (arith, none, ap (λ (g : Core). length (columns_of g)) h.whole, one)

-- ---- the marks that are due

joined_apart : (op : Connective) (g h : Core) (n : ℕ) (b : Core) → core.Infinite n b ≡ Binary op g h → ⊥
joined_apart op g h n b e = cc

module _ (system : PatternSystem) (parts : List Core) (past : Past) (k : ℕ) (made : MadeSoFar) (f : Core) (p : Plan) (own_marks : List counts.Count) (room : MarkRoom) (due : AreCountsDue system parts past k made f p own_marks room) where
  pub only_many : ((s : Source) (c : ℕ) (ns : Vec Count Global) → p.work ≡ Many s c ns → ⊥) → ⊥
  only_many other = by p.work refl due.due.plan.work
    where
      by_atom : (l : AtomLabels) → IsAtomPlan system (steps_of past) f l → ⊥
      by_atom (Relation c) h = let z : core.Infinite due.number due.body ≡ core.Leaf (core.Related h.rel h.index h.first h.second) = sym due.whole ∙ h.whole in cc
      by_atom (Expression l) h =
          let z : core.Infinite due.number due.body ≡ core.Leaf (core.InContext h.expression h.number h.place h.first h.second) = sym due.whole ∙ h.whole in cc
      by_atom (Normal a) h = let z : core.Infinite due.number due.body ≡ core.Leaf (core.Normal h.index h.number) = sym due.whole ∙ h.whole in cc
      by_atom (Is term) h = let z : core.Infinite due.number due.body ≡ core.Leaf (core.IsTerm h.number term) = sym due.whole ∙ h.whole in cc

      by : (w : Work) → p.work ≡ w → IsWorkOf system parts (steps_of past) k f w → ⊥
      by Truth e h = let z : core.Infinite due.number due.body ≡ core.True = sym due.whole ∙ h in cc
      by (Negation s) e h = let z : core.Infinite due.number due.body ≡ core.Not h.body = sym due.whole ∙ h.whole in cc
      by (Atom labels) e h = by_atom labels h
      by (Product op a b) e h = joined_apart (connective_of op) h.one h.other due.number due.body (sym due.whole ∙ h.whole)
      by (Projection s c) e h = let z : core.Infinite due.number due.body ≡ core.Exists h.number h.body = sym due.whole ∙ h.whole in cc
      by (Many s c ns) e h = other s c ns e

  module _ (s : Source) (c : ℕ) (ns : Vec Count Global) (is : p.work ≡ Many s c ns) where
    plan_is : IsManyPlan parts (steps_of past) k f s c ns.items
    plan_is = many_plan system parts past k made f p due.due s c ns is

    pub body_is : IsKnownTable system parts past k made due.due.known (many_plan system parts past k made f p due.due s c ns is).body s
    body_is = many_body system parts past k made f p due.due s c ns is

    pub counted_low : (own : Table) → ((table : Table) → IsTableAt past s table → own ≡ table) → c < own.columns
    unfolding body_is
    counted_low own told = subst (λ (t : Table). c < t.columns) (sym (told body_is.table body_is.at)) (many_low system parts past k made f p due.due s c ns is)

    pub counted_room : (own : Table) (count : ℕ) → ((table : Table) → IsTableAt past s table → own ≡ table) → count ≡ length own_marks → HasMarkRoom (length own.presences) count room
    unfolding body_is plan_is
    counted_room own count told size =
        let m : HasMarkRoom body_is.count (length ns.items) room =
        (subst (λ (w : Work). IsMarkRoomFor (steps_of past) w room) is due.marks_sized) body_is.count body_is.count_is in
        let sizes : length ns.items ≡ length own_marks = sym (length-map ns.items as_count) ∙ ap length (plan_is.marks_are own_marks due.only) in
        let same = told body_is.table body_is.at in
        let states : length own.presences ≡ body_is.count = ap (λ (t : Table). length t.presences) same ∙ body_is.states in
        record { pure = omega (arith, m.pure, states); holds = omega (arith, m.holds, sizes, size) }

    pub counted_judged : (own : Table) (states : List ℕ) (o : StepOutcome) → ((table : Table) → IsTableAt past s table → own ≡ table) → ArePure own c states → IsCountOutcome own c states own_marks o → IsCountJudged parts made k own_marks o
    unfolding body_is
    counted_judged own states o told pure outcome =
        let same = told body_is.table body_is.at in
        many_judged system parts past k made f p due.due s c ns is own_marks states o (subst (λ (t : Table). ArePure t c states) same pure) (subst (λ (t : Table). IsCountOutcome t c states own_marks o) same outcome)

    pub counted_kept : (own : Table) (count : ℕ) (new : MarkRoom) → ((table : Table) → IsTableAt past s table → own ≡ table) → count ≡ length own_marks → HasMarkRoom (length own.presences) count new
        → IsMarkRoomFor (steps_of past) p.work new
    unfolding body_is plan_is
    counted_kept own count new told size h =
        subst (λ (w : Work). IsMarkRoomFor (steps_of past) w new) (sym is)
        (λ n are.
        let same = states_one (steps_of past) s.part body_is.count n body_is.count_is are in
        let sizes : length ns.items ≡ length own_marks = sym (length-map ns.items as_count) ∙ ap length (plan_is.marks_are own_marks due.only) in
        let states : length own.presences ≡ body_is.count = ap (λ (t : Table). length t.presences) (told body_is.table body_is.at) ∙ body_is.states in
        record { pure = omega (arith, h.pure, states, same); holds = omega (arith, h.holds, sizes, size) })
