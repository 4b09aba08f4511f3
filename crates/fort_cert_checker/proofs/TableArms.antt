-- The targets of a part, work by work: what its check needs, and that its rule is the one that the part is to have.
use Rattle.std.specs.Prelude.{◌≡◌, ℕ, zero, suc, ◌++◌, false, ◌+◌, ◌*◌, ◌<◌, List, [], ◌∷◌, map, length, get_or, nat_lt, ◌-◌, Bool, true, Result, refl}
use Rattle.std.proofs.Common.{sym, ap, ◌∙◌, subst, arith, true≢false, Vec, Global}
use Rattle.std.proofs.lemmas.Bool.{lt-ltb}
use Rattle.std.proofs.lemmas.List.{length-map}
use Rattle.fort_theory.specs.Signatures.{Signature}
use Rattle.fort_theory.specs.Patterns.{PatternSystem}
use Rattle.fort_theory.specs.Cores as core
use Rattle.fort_theory.specs.Cores.{Core, Binary}
use Rattle.fort_theory.specs.Parts.{is_free, BindsFree}
use Rattle.fort_tables.specs.BitRows.{words_for}
use Rattle.fort_tables.specs.Tables.{Table}
use Rattle.fort_tables.specs.Projections.{ArePure, ArePureBelow, is_pure}
use Rattle.fort_tables.specs.Counts as counts
use Rattle.fort_tables.specs.Counts.{KeepRules, count_at}
use Rattle.fort_context_closure.specs.declared.atom_labels.AtomLabels.{AtomLabels}
use Rattle.fort_context_closure.specs.declared.atom_labels.AtomLabels.TheVariants.{Relation, Expression, Normal, Is}
use Rattle.fort_context_closure.specs.AtomLabelsView.{word_count}
use Rattle.fort_context_closure.specs.SignedAtoms.{signature_by}
use Rattle.fort_parts.specs.PartColumns.{columns_of, place_in}
use Rattle.fort_parts.specs.PartAnswers.{Answer}
use Rattle.fort_parts.specs.DecidedCores.{IsOperandOf}
use Rattle.fort_parts.proofs.PartColumnLaws.{columns_of-Normal, columns_of-IsTerm}
use Rattle.fort_certificate_theory.specs.Certificates.{Step, Counts}
use Rattle.fort_certificate_theory.specs.Dues.{has_columns, is_turned}
use Rattle.fort_certificate_theory.specs.Made.{MadeSoFar}
use Rattle.fort_certificate_theory.specs.PartRules.{Local, closure_for, IsLocalOf, project_local, many_local, is_many, IsCounted}
use Rattle.fort_certificate_theory.proofs.RightParts.{some_columns}
use Rattle.fort_certificate_theory.proofs.JoinedTables.{bound_within, bound_many}
use Rattle.fort_connectives.specs.declared.connective.Op.{Op}
use Rattle.fort_connectives.specs.ConnectiveView.{connective_of}
use Rattle.fort_findings.specs.declared.closure.ClosureEntry.{ClosureEntry}
use Rattle.fort_findings.specs.declared.count.Count.{Count}
use Rattle.fort_findings.specs.FindingView.{as_count, as_pair}
use Rattle.fort_check_steps.specs.declared.failure.Failure.{Failure}
use Rattle.fort_check_steps.specs.declared.room.PartRoom.{PartRoom}
use Rattle.fort_check_steps.specs.declared.room.LabelRoom.{LabelRoom}
use Rattle.fort_check_steps.specs.declared.marks.MarkRoom.{MarkRoom}
use Rattle.fort_check_steps.specs.Room.{HasLabelRoom}
use Rattle.fort_check_steps.proofs.PureStates.{pure_push, pure_left}
use Rattle.fort_check_steps.specs.Marks.{HasMarkRoom}
use Rattle.fort_cert_checker.specs.declared.plan.Source.{Source}
use Rattle.fort_cert_checker.specs.declared.plan.OperandPlan.{OperandPlan}
use Rattle.fort_cert_checker.specs.declared.plan.Work.{Work}
use Rattle.fort_cert_checker.specs.declared.plan.Work.TheVariants.{Truth, Negation, Atom, Product, Projection, Many}
use Rattle.fort_cert_checker.specs.declared.plan.Plan.{Plan}
use Rattle.fort_cert_checker.specs.declared.past.Past.{Past}
use Rattle.fort_cert_checker.specs.Abouts.{IsOnlyAbout}
use Rattle.fort_cert_checker.specs.Sources.{IsSourceOf}
use Rattle.fort_cert_checker.specs.AtomPlans as own
use Rattle.fort_cert_checker.specs.Joins.{joined_local, AreJoined}
use Rattle.fort_cert_checker.specs.Plans.{IsClosureRead, IsAtomPlan, IsNegationPlan, IsProductPlan, IsProjectionPlan, IsManyPlan, IsWorkOf, IsWidthFor}
use Rattle.fort_cert_checker.specs.OperandLists.{FitsList, AreListsFor}
use Rattle.fort_cert_checker.specs.Pasts.{steps_of, IsTableAt, IsAnswerAt, IsPartStep, IsClosureKnown, IsMarkRoomFor, AreCountsKnown, IsTableDue, IsTableStep}
use Rattle.fort_outline.proofs.JoinedOperands.{operand_first, operand_second}
use Rattle.fort_cert_checker.specs.PartStates.{IsStatesOf}
use Rattle.fort_cert_checker.proofs.KnownAnswers.{IsKnown, IsKnownTable, known_answer, known_table}
use Rattle.fort_cert_checker.proofs.LocalRules.{relation_local_is, expression_local_is, normal_local_is}
use Rattle.fort_cert_checker.proofs.PartLocals.{joined_local_is, joined_fit, projected_local_is, many_local_is}

has_some : (n : ℕ) → 0 < n → nat_lt 0 n ≡ true
has_some n l = lt-ltb 0 n l

-- the pure states below some number
pub some_pure : (body : Table) (c n : ℕ) → (states : List ℕ) × ArePureBelow body c n states
some_pure body c zero = ([], record { each = λ i l. absurd (omega arith); all = λ q l. absurd (omega arith); ascending = λ i j l m. absurd (omega arith) })
some_pure body c (suc n) =
    let w = some_pure body c n in
    let one : n + 1 ≡ suc n = omega arith in
    subst (λ (m : ℕ). (states : List ℕ) × ArePureBelow body c m states) one (by (is_pure body c n) refl w)
  where
    by : (b : Bool) → is_pure body c n ≡ b → ((states : List ℕ) × ArePureBelow body c n states) → (states : List ℕ) × ArePureBelow body c (n + 1) states
    by true e w = (w.0 ++ n ∷ [], pure_push body c n w.0 w.1 e)
    by false e w = (w.0, pure_left body c n w.0 w.1 e)

closure_is : (ss : List Step) (made : MadeSoFar) (rel : core.Rel) (index : ℕ) (pairs : List ClosureEntry) → IsClosureRead ss rel index pairs → IsClosureKnown ss made rel index → map as_pair pairs ≡ closure_for made rel index
closure_is ss made core.Eq index pairs r k = ap (map as_pair) r
closure_is ss made core.Root index pairs r k = ap (map as_pair) r
closure_is ss made core.Below index pairs r k = ap (map as_pair) r
closure_is ss made core.Step index pairs r k = ap (map as_pair) r
closure_is ss made core.Par index pairs r k = ap (map as_pair) r
closure_is ss made core.Plus index pairs r k = r k.0 k.1 ∙ sym k.2
closure_is ss made core.Star index pairs r k = r k.0 k.1 ∙ sym k.2
closure_is ss made core.Conv index pairs r k = r k.0 k.1 ∙ sym k.2

module _ (system : PatternSystem) (parts : List Core) (past : Past) (k : ℕ) (made : MadeSoFar) (f : Core) (p : Plan) (targets : List ℕ) (room : PartRoom) (scratch : LabelRoom)
    (marks : MarkRoom) (due : IsTableDue system parts past k made f p targets room scratch marks) where
  abbrev ss : List Step
  ss = steps_of past

  sized_for : (w : ℕ) → due.width ≡ w → HasLabelRoom w targets scratch
  sized_for w e = subst (λ (n : ℕ). HasLabelRoom n targets scratch) e due.scratch_sized

  at_work : (w : Work) → p.work ≡ w → IsWorkOf system parts (steps_of past) k f w
  at_work w e = subst (IsWorkOf system parts (steps_of past) k f) e due.due.plan.work

  width_for : (w : Work) → p.work ≡ w → IsWidthFor (steps_of past) w due.width
  width_for w e = subst (λ (v : Work). IsWidthFor (steps_of past) v due.width) e due.is_width

  marks_for : (w : Work) → p.work ≡ w → IsMarkRoomFor (steps_of past) w marks
  marks_for w e = subst (λ (v : Work). IsMarkRoomFor (steps_of past) v marks) e due.marks_sized

  lists_for : (w : Work) → p.work ≡ w → AreListsFor (steps_of past) w scratch.lists
  lists_for w e = subst (λ (v : Work). AreListsFor (steps_of past) v scratch.lists) e due.lists_sized

  pub product_lists : (op : Op) (first second : OperandPlan) → p.work ≡ Product op first second → AreListsFor (steps_of past) (Product op first second) scratch.lists
  product_lists op first second e = lists_for (Product op first second) e

  pub projection_list : (s : Source) (c : ℕ) → p.work ≡ Projection s c → FitsList (steps_of past) s scratch.lists.first scratch.lists.lay
  projection_list s c e = lists_for (Projection s c) e

  pub many_list : (s : Source) (c : ℕ) (ns : Vec Count Global) → p.work ≡ Many s c ns → FitsList (steps_of past) s scratch.lists.first scratch.lists.lay
  many_list s c ns e = lists_for (Many s c ns) e

  operand_is : (g h : Core) → f ≡ h → IsOperandOf g h → IsOperandOf g (get_or parts k core.True)
  operand_is g h e o = subst (IsOperandOf g) (sym (due.due.part ∙ e)) o

  -- the rule by the labels is the atom's, over its columns
  atom_right : (labels : AtomLabels) → IsAtomPlan system (steps_of past) f labels
      → IsLocalOf system parts made k f (own.atom_local system labels) × ((own.atom_local system labels).rule.columns ≡ length (columns_of f))
  atom_right (Relation c) h =
      let pairs = closure_is (steps_of past) made h.rel h.index h.pairs h.closure (due.due.known.closures h.rel h.index h.first h.second (due.due.part ∙ h.whole)) in
      let same = relation_local_is system h.rel h.index h.first h.second h.pairs (closure_for made h.rel h.index) c h.labels pairs in (
        subst (λ (g : Core). IsLocalOf system parts made k g (own.atom_local system (Relation c))) (sym h.whole) (record {
          lefts = c.atom.lefts;
          rights = c.atom.rights;
          patterns = record { left = h.labels.left_order; right = h.labels.right_order };
          is = same;
        }),
        ap (λ (l : Local). l.rule.columns) same ∙ ap (λ (g : Core). length (columns_of g)) (sym h.whole),
      )
  atom_right (Expression l) h =
      let local = expression_local_is system h.expression h.number h.place h.first h.second l h.labels in (
        subst (λ (g : Core). IsLocalOf system parts made k g (own.atom_local system (Expression l))) (sym h.whole) local,
        local.columns ∙ ap (λ (g : Core). length (columns_of g)) (sym h.whole),
      )
  atom_right (Normal a) h =
      let same = normal_local_is system h.index a h.labels in (
        subst (λ (g : Core). IsLocalOf system parts made k g (own.atom_local system (Normal a))) (sym h.whole) (record { lefts = a.lefts; patterns = h.labels.left_order; is = same }),
        ap (λ (l : Local). l.rule.columns) same ∙ sym (ap (λ (g : Core). length (columns_of g)) h.whole ∙ ap length (columns_of-Normal h.index h.number)),
      )
  atom_right (Is term) h = (
    subst (λ (g : Core). IsLocalOf system parts made k g (own.atom_local system (Is term))) (sym h.whole) refl,
    sym (ap (λ (g : Core). length (columns_of g)) h.whole ∙ ap length (columns_of-IsTerm h.number term)),
  )

  module _ (labels : AtomLabels) (is : p.work ≡ Atom labels) where
    pub atom_room : HasLabelRoom (word_count labels) targets scratch
    atom_room = sized_for _ (width_for (Atom labels) is)

    pub atom_step : {U : Type 0} (new : PartRoom) (result : Result U Failure) → IsPartStep (own.atom_local system labels) targets new result → IsTableStep system parts k made f targets new result
    atom_step new result step =
        let right = atom_right labels (at_work (Atom labels) is) in
        record {
          local = own.atom_local system labels;
          local_is = right.0;
          signature = signature_by system.signature labels;
          columns_are = right.1;
          step = step;
        }

  pub product_plan : (op : Op) (first second : OperandPlan) → p.work ≡ Product op first second → IsProductPlan parts f op first second
  product_plan op first second e = at_work (Product op first second) e

  pub product_room : (op : Op) (first second : OperandPlan) → p.work ≡ Product op first second → HasLabelRoom 3 targets scratch
  product_room op first second e = sized_for 3 (width_for (Product op first second) e)

  pub many_plan : (s : Source) (c : ℕ) (ns : Vec Count Global) → p.work ≡ Many s c ns → (xs : List Count) → xs ≡ ns.items → IsManyPlan parts (steps_of past) k f s c xs
  many_plan s c ns e xs same = subst (IsManyPlan parts (steps_of past) k f s c) (sym same) (at_work (Many s c ns) e)

  pub many_width : (s : Source) (c : ℕ) (ns : Vec Count Global) → p.work ≡ Many s c ns → (n : ℕ) → IsStatesOf (steps_of past) s.part n → due.width ≡ words_for (2 * n) + 2
  many_width s c ns e = width_for (Many s c ns) e

  pub many_sized : (s : Source) (c : ℕ) (ns : Vec Count Global) → p.work ≡ Many s c ns → (xs : List Count) → xs ≡ ns.items → (n : ℕ) → IsStatesOf (steps_of past) s.part n
      → HasMarkRoom n (length xs) marks
  many_sized s c ns e xs same n are = subst (λ (ms : List Count). HasMarkRoom n (length ms) marks) (sym same) (marks_for (Many s c ns) e n are)

  pub not_truth : p.work ≡ Truth → ⊥
  not_truth e =
      let whole : f ≡ core.True = at_work Truth e in
      true≢false (sym due.columns ∙ ap has_columns whole)

  pub not_negation : (s : Source) → p.work ≡ Negation s → ⊥
  not_negation s e =
      let h : IsNegationPlan parts f s = at_work (Negation s) e in
      true≢false (sym due.columns ∙ (ap has_columns h.whole ∙ (sym (ap is_turned h.whole) ∙ due.plain)))

  module _ (op : Op) (first second : OperandPlan) (plan : IsProductPlan parts f op first second) (columns : ℕ) (count : columns ≡ p.columns) where
    pub one : IsKnown system parts past k made due.due.known plan.one first.source
    one = known_answer system parts past k made due.due.known plan.one (operand_is plan.one (Binary (connective_of op) plan.one plan.other) plan.whole (operand_first (connective_of op) plan.one plan.other)) first.source plan.one_is.source

    pub other : IsKnown system parts past k made due.due.known plan.other second.source
    other = known_answer system parts past k made due.due.known plan.other (operand_is plan.other (Binary (connective_of op) plan.one plan.other) plan.whole (operand_second (connective_of op) plan.one plan.other)) second.source plan.other_is.source

    count_is : columns ≡ length (columns_of f)
    count_is = count ∙ due.due.plan.columns

    pub product_joined : AreJoined past.signature.now columns one.answer first.places.items other.answer second.places.items
    product_joined =
        subst (λ (sig : Signature). AreJoined sig columns one.answer first.places.items other.answer second.places.items) (sym due.due.known.signature)
        (joined_fit system.signature f (connective_of op) plan.one plan.other one.answer other.answer columns first.places.items second.places.items plan.whole (some_columns f due.columns) due.due.fit.few one.fits other.fits count_is
        plan.one_is.places plan.other_is.places)

    pub product_answers : (a b : Answer) × IsAnswerAt past first.source a × IsAnswerAt past second.source b × AreJoined past.signature.now columns a first.places.items b second.places.items
    product_answers = (one.answer, other.answer, one.at, other.at, product_joined)

    pub product_step : {U : Type 0} (new : PartRoom) (result : Result U Failure)
        → ((a b : Answer) → IsAnswerAt past first.source a → IsAnswerAt past second.source b → IsPartStep (joined_local (connective_of op) columns a first.places.items b second.places.items) targets new result)
        → IsTableStep system parts k made f targets new result
    product_step new result step = record {
      local = joined_local (connective_of op) columns one.answer first.places.items other.answer second.places.items;
      local_is = joined_local_is system parts k made f (connective_of op) plan.one plan.other one.answer other.answer columns first.places.items second.places.items plan.whole one.is other.is count_is plan.one_is.places
          plan.other_is.places;
      signature = product_joined.signature ∙ due.due.known.signature;
      columns_are = count_is;
      step = step one.answer other.answer one.at other.at;
    }

  -- the table of a body in which a number is bound
  module _ (n : ℕ) (g : Core) (operand : IsOperandOf g (get_or parts k core.True)) (s : Source) (source : IsSourceOf parts g s.part s.turns) (among : is_free n g ≡ true) (c : ℕ)
      (column : c ≡ place_in (columns_of g) n) (bound : length (columns_of f) + 1 ≡ length (columns_of g)) where
    low : c < length (columns_of g)
    low = subst (λ (d : ℕ). d < length (columns_of g)) (sym column) (bound_within n g among)

    pub body : IsKnownTable system parts past k made due.due.known g s
    body = known_table system parts past k made due.due.known g operand s source (has_some (length (columns_of g)) (omega (arith, low)))

    pub body_signature : body.table.signature ≡ past.signature.now
    body_signature = body.over.signature ∙ sym due.due.known.signature

    pub body_column : c < body.table.columns
    body_column = omega (arith, low, body.over.columns_are)

    pub body_another : 1 < body.table.columns
    body_another = omega (arith, bound, body.over.columns_are, some_columns f due.columns)

    pub body_columns : body.table.columns - 1 ≡ length (columns_of f)
    body_columns = omega (arith, bound, body.over.columns_are)

  module _ (s : Source) (c : ℕ) (is : p.work ≡ Projection s c) where
    pub projection_plan : IsProjectionPlan parts f s c
    projection_plan = at_work (Projection s c) is

    projection_free : is_free projection_plan.number projection_plan.body ≡ true
    projection_free = (subst BindsFree projection_plan.whole due.due.fit.binders).0

    projection_bound : length (columns_of f) + 1 ≡ length (columns_of projection_plan.body)
    projection_bound = ap (λ (h : Core). length (columns_of h) + 1) projection_plan.whole ∙ bound_many projection_plan.number projection_plan.body projection_free

    projection_operand : IsOperandOf projection_plan.body (get_or parts k core.True)
    projection_operand = operand_is projection_plan.body (core.Exists projection_plan.number projection_plan.body) projection_plan.whole refl

    projected : IsKnownTable system parts past k made due.due.known projection_plan.body s
    projected = body projection_plan.number projection_plan.body projection_operand s projection_plan.source projection_free c projection_plan.column projection_bound

    pub projection_needs : (table : Table) × IsTableAt past s table × (table.signature ≡ past.signature.now) × (c < table.columns) × (1 < table.columns) × HasLabelRoom (words_for (length table.presences) + 2) targets scratch
        × HasMarkRoom (length table.presences) 0 marks
    unfolding projected body
    projection_needs =
        let q = projection_plan in
        let m : HasMarkRoom projected.count 0 marks = marks_for (Projection s c) is projected.count projected.count_is in (
          projected.table,
          projected.at,
          body_signature q.number q.body projection_operand s q.source projection_free c q.column projection_bound,
          body_column q.number q.body projection_operand s q.source projection_free c q.column projection_bound,
          body_another q.number q.body projection_operand s q.source projection_free c q.column projection_bound,
          sized_for _ (width_for (Projection s c) is projected.count projected.count_is ∙ ap (λ (w : ℕ). words_for w + 2) (sym projected.states)),
          subst (λ (w : ℕ). HasMarkRoom w 0 marks) (sym projected.states) m,
        )

    pub projection_step : {U : Type 0} (new : PartRoom) (result : Result U Failure) → ((table : Table) → IsTableAt past s table → IsPartStep (project_local table c) targets new result)
        → IsTableStep system parts k made f targets new result
    unfolding projected body
    projection_step new result step =
        let q = projection_plan in
        record {
          local = project_local projected.table c;
          local_is = projected_local_is system parts k made f q.number q.body projected.table c q.whole projected.is q.column;
          signature = body_signature q.number q.body projection_operand s q.source projection_free c q.column projection_bound ∙ due.due.known.signature;
          columns_are = body_columns q.number q.body projection_operand s q.source projection_free c q.column projection_bound;
          step = step projected.table projected.at;
        }

  module _ (s : Source) (c : ℕ) (ns : List Count) (is : (own_marks : List counts.Count) → IsOnlyAbout (steps_of past) (Counts k own_marks) → map as_count ns ≡ own_marks) (plan : IsManyPlan parts (steps_of past) k f s c ns)
      (sized : (n : ℕ) → IsStatesOf (steps_of past) s.part n → due.width ≡ words_for (2 * n) + 2)
      (marks_sized : (n : ℕ) → IsStatesOf (steps_of past) s.part n → HasMarkRoom n (length ns) marks) where
    many_free : is_free plan.number plan.body ≡ true
    many_free = (subst BindsFree plan.whole due.due.fit.binders).0

    many_bound : length (columns_of f) + 1 ≡ length (columns_of plan.body)
    many_bound = ap (λ (h : Core). length (columns_of h) + 1) plan.whole ∙ bound_many plan.number plan.body many_free

    many_operand : IsOperandOf plan.body (get_or parts k core.True)
    many_operand = operand_is plan.body (core.Infinite plan.number plan.body) plan.whole refl

    pub many_known : IsKnownTable system parts past k made due.due.known plan.body s
    many_known = body plan.number plan.body many_operand s plan.source many_free c plan.column many_bound

    many_counts : AreCountsKnown parts past made k
    many_counts = due.counts plan.number plan.body (due.due.part ∙ plan.whole)

    many_made : made.counts k ≡ map as_count ns
    many_made = many_counts.made_is ∙ sym (is many_counts.marks many_counts.only)

    many_marks : (states : List ℕ) → ArePure many_known.table c states → (length ns ≡ length states) × KeepRules many_known.table c (count_at states (map as_count ns))
    many_marks states pure =
        let counted : IsCounted parts made plan.number plan.body many_known.table states =
        record { body_is = many_known.is; pure = subst (λ (d : ℕ). ArePure many_known.table d states) plan.column pure } in
        let keep = many_counts.rules plan.number plan.body many_known.table states (due.due.part ∙ plan.whole) counted in (
          sym (length-map ns as_count) ∙ (sym (ap length many_made) ∙ keep.1),
          subst (λ (d : ℕ). KeepRules many_known.table d (count_at states (map as_count ns))) (sym plan.column)
              (subst (λ (ms : List counts.Count). KeepRules many_known.table (place_in (columns_of plan.body) plan.number) (count_at states ms)) many_made keep.0),
        )

    pub many_needs : (table : Table) × IsTableAt past s table × (table.signature ≡ past.signature.now) × (c < table.columns) × (1 < table.columns) × HasLabelRoom (words_for (2 * length table.presences) + 2) targets scratch
        × HasMarkRoom (length table.presences) 0 marks × ((states : List ℕ) → ArePure table c states → (length ns ≡ length states) × KeepRules table c (count_at states (map as_count ns)))
    unfolding many_known body
    many_needs =
        let m = marks_sized many_known.count many_known.count_is in (
          many_known.table,
          many_known.at,
          body_signature plan.number plan.body many_operand s plan.source many_free c plan.column many_bound,
          body_column plan.number plan.body many_operand s plan.source many_free c plan.column many_bound,
          body_another plan.number plan.body many_operand s plan.source many_free c plan.column many_bound,
          sized_for _ (sized many_known.count many_known.count_is ∙ ap (λ (w : ℕ). words_for (2 * w) + 2) (sym many_known.states)),
          subst (λ (w : ℕ). HasMarkRoom w 0 marks) (sym many_known.states) (record { pure = m.pure; holds = omega arith }),
          many_marks,
        )

    -- the pure states of the table that is known
    pub many_states : (states : List ℕ) × ArePure many_known.table c states
    many_states = some_pure many_known.table c (length many_known.table.presences)

    pub many_step : {U : Type 0} (new : PartRoom) (result : Result U Failure)
        → ((table : Table) (states : List ℕ) → IsTableAt past s table → ArePure table c states → IsPartStep (many_local table c (is_many states (map as_count ns))) targets new result)
        → IsTableStep system parts k made f targets new result
    unfolding many_known body
    many_step new result step =
        let states = many_states.0 in
        let pure = many_states.1 in record {
          local = many_local many_known.table c (is_many states (map as_count ns));
          local_is = many_local_is system parts k made f plan.number plan.body many_known.table c states (map as_count ns) plan.whole many_known.is plan.column pure many_made;
          signature = body_signature plan.number plan.body many_operand s plan.source many_free c plan.column many_bound ∙ due.due.known.signature;
          columns_are = body_columns plan.number plan.body many_operand s plan.source many_free c plan.column many_bound;
          step = step many_known.table states many_known.at pure;
        }
