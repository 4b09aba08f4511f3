-- Results for whoever decides part by part: what is made of right answers by a complement, a connective, a projection, a count is right, and more labels than a cap are too many.
use Rattle.std.specs.Prelude.{◌≡◌, ◌↔◌, ◌⊎◌, ℕ, zero, suc, ◌+◌, ◌<◌, ◌≤◌, ◌||◌, not, List, [], ◌∷◌, length, get_or, Contains, Bool, true, refl}
use Rattle.std.specs.List.{insert}
use Rattle.std.proofs.Common.{ap, sym, ◌∙◌, subst, arith, inl, inr, ⊎_elim}
use Rattle.std.proofs.lemmas.Bool.{cases_lt, or_cases}
use Rattle.std.proofs.lemmas.List.Edits.{length-insert}
use Rattle.fort_theory.specs.Patterns.{PatternSystem}
use Rattle.fort_theory.proofs.Members.{Contains-none, Contains-head}
use Rattle.fort_theory.specs.Cores as core
use Rattle.fort_theory.specs.Cores.{Core, Binary}
use Rattle.fort_theory.specs.Parts.{is_free}
use Rattle.fort_theory.specs.PatternStructures.{pattern_structure}
use Rattle.fort_tables.specs.Tuples.{Tuple}
use Rattle.fort_tables.specs.Entries.{Entry, AreNodes, tuples_of}
use Rattle.fort_tables.specs.Tables.{Table}
use Rattle.fort_tables.specs.Labels.{Labelling, HaveLabels, HasMoreLabels, IsTableOf}
use Rattle.fort_tables.specs.LabelRules.{label_of, IsTableBy}
use Rattle.fort_theory.specs.Logic.{Connective}
use Rattle.fort_tables.specs.Products.{connected, product_rule, product_accepts}
use Rattle.fort_tables.specs.Projections.{some_below, project_rule, project_accepts}
use Rattle.fort_tables.specs.OperationTruth.{complemented}
use Rattle.fort_tables.specs.Agreement.{Agreement}
use Rattle.fort_tables.specs.ManyLabels.{TellsMany, many_rule, many_accepts, many_value}
use Rattle.fort_parts.specs.PartColumns.{columns_of, place_in, places_in}
use Rattle.fort_parts.specs.AlikeParts.{AlikeAt, AlikeBy, IsOverBy}
use Rattle.fort_parts.specs.PartAnswers.{Answer, OfValue, OfTable, IsAnswerTo}
use Rattle.fort_parts.specs.PartSteps.{SaysSome, SaysMany, operand_of}
use Rattle.fort_parts.specs.PartLabels.{LabelsTell, LabelsTellAlike}
use Rattle.fort_parts.specs.RightAnswers.{IsRightBy, IsRightFor, HasTooManyBy}
use Rattle.fort_parts.proofs.PartColumnLaws.{columns_of-bound, first_within, second_within, is_free-from_column, column-from_free, place_of-member}
use Rattle.fort_parts.proofs.StepTruth.{TellsTruth-True, TellsTruth-Not, TellsTruth-Binary, TellsTruth-Exists, TellsTruth-Infinite}
use Rattle.fort_parts.proofs.StepTables.{IsTableOver-labels, SaysNot-values, IsTableOver-complemented, SaysNot-tables, SaysBoth-values, SaysBoth-tables, SaysSome-tables, SaysSome-value, SaysMany-tables, SaysMany-value}
use Rattle.fort_parts.proofs.StepAlike.{product_tells, project_tells, many_tells, Tells-labels, IsOverBy-labels}

-- no column, no free number
no_columns : (f : Core) → ((n : ℕ) → is_free n f ≡ true → ⊥) → columns_of f ≡ []
no_columns f none = by (columns_of f) refl
  where
    by : (xs : List ℕ) → columns_of f ≡ xs → columns_of f ≡ []
    by [] e = e
    by (x ∷ xs) e = absurd (none x (is_free-from_column f x (subst (λ ys. Contains ys x) (sym e) (Contains-head x xs))))

not_free : (f : Core) → columns_of f ≡ [] → (n : ℕ) → is_free n f ≡ true → ⊥
not_free f e n h = Contains-none n (subst (λ ys. Contains ys n) e (column-from_free f n h))

some_column : (f h : Core) → ((n : ℕ) → Contains (columns_of f) n → Contains (columns_of h) n) → 0 < length (columns_of f) → 0 < length (columns_of h)
some_column f h within some = by (columns_of f) refl
  where
    has : (xs : List ℕ) (n : ℕ) → Contains xs n → 0 < length xs
    has [] n c = absurd (Contains-none n c)
    has (x ∷ xs) n c = omega arith

    by : (xs : List ℕ) → columns_of f ≡ xs → 0 < length (columns_of h)
    by [] e = absurd (let none = ap length e in omega (arith, some))
    by (x ∷ xs) e = has (columns_of h) x (within x (subst (λ ys. Contains ys x) (sym e) (Contains-head x xs)))

-- ---- answers by any likeness

-- a truth has no states
pub IsRightBy-value : (system : PatternSystem) (like : Core → Agreement) (f : Core) (b : Bool) → IsAnswerTo (pattern_structure system) f (OfValue b) → IsRightBy system like f (OfValue b)
IsRightBy-value system like f b answers = record { answers = answers; alike = tt }

-- a table by labels that tell the likeness
pub IsRightBy-labels : (system : PatternSystem) (like : Core → Agreement) (f : Core) (label : Labelling) (accepting : List ℕ → Bool) (table : Table) → LabelsTell system f (like f) label
    → IsTableOf system.signature (length (columns_of f)) label accepting table → IsAnswerTo (pattern_structure system) f (OfTable table) → IsRightBy system like f (OfTable table)
IsRightBy-labels system like f label accepting table tells of answers = record { answers = answers; alike = Tells-labels system f (like f) label accepting table tells of }

-- likeness by when tuples are alike at the operands is when they are alike
pub AlikeBy-alike : (system : PatternSystem) (f : Core) (t u : Tuple) → AlikeBy system (AlikeAt system) f t u ↔ AlikeAt system f t u
AlikeBy-alike system core.True t u = ((λ h. h), (λ h. h))
AlikeBy-alike system (core.Leaf a) t u = ((λ h. h), (λ h. h))
AlikeBy-alike system (core.Not f) t u = ((λ h. h), (λ h. h))
AlikeBy-alike system (core.Binary op f g) t u = ((λ h. h), (λ h. h))
AlikeBy-alike system (core.Exists n f) t u = ((λ h. h), (λ h. h))
AlikeBy-alike system (core.Infinite n f) t u = ((λ h. h), (λ h. h))

pub LabelsTell-alike : (system : PatternSystem) (f : Core) (label : Labelling) → LabelsTell system f (AlikeBy system (AlikeAt system) f) label → LabelsTellAlike system f label
LabelsTell-alike system f label tells t u is also =
    let both = tells t u is also in
    let same = AlikeBy-alike system f t u in
    ((λ e. same.0 (both.0 e)), (λ h. both.1 (same.1 h)))

-- ---- true, and complements

pub IsAnswerTo-True : (system : PatternSystem) → IsAnswerTo (pattern_structure system) core.True (OfValue true)
IsAnswerTo-True system = record { over = refl; truth = TellsTruth-True (pattern_structure system) }

pub IsAnswerTo-Not-value : (system : PatternSystem) (f : Core) (b : Bool) → IsAnswerTo (pattern_structure system) f (OfValue b) → IsAnswerTo (pattern_structure system) (core.Not f) (OfValue (not b))
IsAnswerTo-Not-value system f b answers = record {
  over = answers.over;
  truth = TellsTruth-Not (pattern_structure system) f (OfValue b) (OfValue (not b)) (SaysNot-values system.signature (length (columns_of f)) b) answers.truth;
}

pub IsAnswerTo-Not-table : (system : PatternSystem) (f : Core) (table : Table) → IsAnswerTo (pattern_structure system) f (OfTable table)
    → IsAnswerTo (pattern_structure system) (core.Not f) (OfTable (complemented table))
IsAnswerTo-Not-table system f table answers = record {
  over = IsTableOver-complemented system.signature (columns_of f) table answers.over;
  truth =
      TellsTruth-Not (pattern_structure system) f (OfTable table) (OfTable (complemented table)) (SaysNot-tables system.signature (columns_of f) table answers.over)
      answers.truth;
}

-- without columns nothing is over a cap
pub IsOverBy-closed : (system : PatternSystem) (like : Core → Agreement) (f : Core) (cap : ℕ) → columns_of f ≡ [] → IsOverBy system like f cap → ⊥
IsOverBy-closed system like f cap none over = let e = ap length none in omega (arith, over.some)

-- ---- connectives

pub is_free-joined : (op : Connective) (f g : Core) (n : ℕ) → is_free n (Binary op f g) ≡ (is_free n f || is_free n g)
is_free-joined op f g n = refl

columns-joined : (op : Connective) (f g : Core) → columns_of f ≡ [] → columns_of g ≡ [] → columns_of (Binary op f g) ≡ []
columns-joined op f g one other =
    no_columns (Binary op f g)
    (λ n e. ⊎_elim (λ h. not_free f one n h) (λ h. not_free g other n h) (or_cases (is_free n f) (is_free n g) (sym (is_free-joined op f g n) ∙ e)))

module _ (system : PatternSystem) (op : Connective) (f g : Core) where
  pub closed-values : (a b : Bool) → IsAnswerTo (pattern_structure system) f (OfValue a) → IsAnswerTo (pattern_structure system) g (OfValue b) → columns_of (Binary op f g) ≡ []
  closed-values a b one other = columns-joined op f g one.over other.over

  pub IsAnswerTo-values : (a b : Bool) → IsAnswerTo (pattern_structure system) f (OfValue a) → IsAnswerTo (pattern_structure system) g (OfValue b)
      → IsAnswerTo (pattern_structure system) (Binary op f g) (OfValue (connected op a b))
  IsAnswerTo-values a b one other = record {
    over = closed-values a b one other;
    truth =
        TellsTruth-Binary (pattern_structure system) op f g (OfValue a) (OfValue b) (OfValue (connected op a b))
        (SaysBoth-values system.signature (length (columns_of (Binary op f g))) op (places_in (columns_of (Binary op f g)) (columns_of f))
        (places_in (columns_of (Binary op f g)) (columns_of g)) a b) one.truth other.truth;
  }

  pub some-first : (table : Table) → IsAnswerTo (pattern_structure system) f (OfTable table) → 0 < length (columns_of (Binary op f g))
  some-first table answers = some_column f (Binary op f g) (first_within (Binary op f g) f g (is_free-joined op f g)) answers.over.some

  pub some-second : (table : Table) → IsAnswerTo (pattern_structure system) g (OfTable table) → 0 < length (columns_of (Binary op f g))
  some-second table answers = some_column g (Binary op f g) (second_within (Binary op f g) f g (is_free-joined op f g)) answers.over.some

  -- the label of the product, on the columns of both
  abbrev pub joined_label : Answer → Answer → Labelling
  joined_label first second =
      label_of (product_rule (length (columns_of (Binary op f g))) (operand_of first (places_in (columns_of (Binary op f g)) (columns_of f)))
      (operand_of second (places_in (columns_of (Binary op f g)) (columns_of g))))

  -- Result: the product's labels tell the likeness by what the operands' states tell
  pub LabelsTell-joined : (like : Core → Agreement) (first second : Answer) → IsRightBy system like f first → IsRightBy system like g second
      → LabelsTell system (Binary op f g) (AlikeBy system like (Binary op f g)) (joined_label first second)
  LabelsTell-joined like first second one other =
      product_tells system (Binary op f g) f g (like f) (like g) first second (is_free-joined op f g) one.answers.over other.answers.over one.alike other.alike

  pub LabelsTellAlike-joined : (first second : Answer) → IsRightFor system f first → IsRightFor system g second
      → LabelsTellAlike system (Binary op f g) (joined_label first second)
  LabelsTellAlike-joined first second one other = LabelsTell-alike system (Binary op f g) (joined_label first second) (LabelsTell-joined (AlikeAt system) first second one other)

  -- Result: the product's table answers, whatever its states tell
  pub IsAnswerTo-joined : (first second : Answer) (table : Table) → IsAnswerTo (pattern_structure system) f first → IsAnswerTo (pattern_structure system) g second → 0 < length (columns_of (Binary op f g))
      → IsTableBy system.signature (length (columns_of (Binary op f g))) (joined_label first second)
      (product_accepts op (operand_of first (places_in (columns_of (Binary op f g)) (columns_of f))) (operand_of second (places_in (columns_of (Binary op f g)) (columns_of g)))) table
      → IsAnswerTo (pattern_structure system) (Binary op f g) (OfTable table)
  IsAnswerTo-joined first second table one other some by =
      let h = Binary op f g in
      let accepting = product_accepts op (operand_of first (places_in (columns_of h) (columns_of f))) (operand_of second (places_in (columns_of h) (columns_of g))) in
      record {
        over = IsTableOver-labels system.signature (columns_of h) (length (columns_of h)) table (joined_label first second) accepting some refl by;
        truth =
            TellsTruth-Binary (pattern_structure system) op f g first second (OfTable table)
            (SaysBoth-tables system.signature (columns_of f) (columns_of g) (columns_of h) first second op (first_within h f g (is_free-joined op f g))
            (second_within h f g (is_free-joined op f g)) one.over other.over some table by) one.truth other.truth;
      }

-- ---- more labels than a cap

pub HasTooManyBy-labels : (system : PatternSystem) (like : Core → Agreement) (f : Core) (label : Labelling) (cap : ℕ) (nodes : List Entry) → LabelsTell system f (like f) label
    → HaveLabels system.signature (length (columns_of f)) label (cap + 1) (tuples_of nodes) → AreNodes system.signature (length (columns_of f)) nodes
    → HasTooManyBy system like f cap nodes
HasTooManyBy-labels system like f label cap nodes tells have are = record {
  are = are;
  unlike = record {
    many = have.many;
    tuples = have.tuples;
    unlike =
        λ i j l m h.
        have.apart i j l m ((tells (get_or (tuples_of nodes) i []) (get_or (tuples_of nodes) j []) (have.tuples i l) (have.tuples j m)).1 h);
  };
}

pub IsOverBy-few : (system : PatternSystem) (like : Core → Agreement) (f : Core) (label : Labelling) (cap : ℕ) → LabelsTell system f (like f) label
    → (HasMoreLabels system.signature (length (columns_of f)) label cap → ⊥) → IsOverBy system like f cap → ⊥
IsOverBy-few system like f label cap tells few over = few ((IsOverBy-labels system like f label cap tells over.some).1 over)

-- ---- projections

empty_list : (xs : List ℕ) → length xs ≡ 0 → xs ≡ []
empty_list [] e = refl
empty_list (x ∷ xs) e = absurd (omega arith)

module _ (n : ℕ) (f : Core) (among : is_free n f ≡ true) where
  pub place_bound : place_in (columns_of f) n < length (columns_of f)
  place_bound = (place_of-member (columns_of f) n (column-from_free f n among)).within

  pub count_bound : length (columns_of (core.Exists n f)) + 1 ≡ length (columns_of f)
  count_bound =
      let same = columns_of-bound (core.Exists n f) f n (λ m. refl) among in
      let low : place_in (columns_of f) n ≤ length (columns_of (core.Exists n f)) = by_length (cases_lt (length (columns_of (core.Exists n f))) (place_in (columns_of f) n)) in
      omega (arith, sym (length-insert (columns_of (core.Exists n f)) (place_in (columns_of f) n) n low) ∙ ap length same)
    where
      by_length : (length (columns_of (core.Exists n f)) < place_in (columns_of f) n) ⊎ (place_in (columns_of f) n ≤ length (columns_of (core.Exists n f)))
          → place_in (columns_of f) n ≤ length (columns_of (core.Exists n f))
      by_length (inr l) = l
      by_length (inl l) = absurd (let e = past (columns_of (core.Exists n f)) (place_in (columns_of f) n) n l in
          let same = ap length (columns_of-bound (core.Exists n f) f n (λ m. refl) among) in omega (arith, place_bound))
        where
          past : (xs : List ℕ) (c x : ℕ) → length xs < c → length (insert xs c x) ≡ length xs + 1
          past xs zero x m = absurd (omega arith)
          past [] (suc c) x m = refl
          past (y ∷ xs) (suc c) x m = let e = past xs c x (omega arith) in omega arith

-- Result: the projection's table answers, whatever the body's states tell
pub IsAnswerTo-projected : (system : PatternSystem) (n : ℕ) (f : Core) (body : Table) (among : is_free n f ≡ true) → IsAnswerTo (pattern_structure system) f (OfTable body) → (table : Table) → 0 < length (columns_of (core.Exists n f))
    → IsTableBy system.signature (length (columns_of (core.Exists n f))) (label_of (project_rule body (place_in (columns_of f) n))) (project_accepts body) table
    → IsAnswerTo (pattern_structure system) (core.Exists n f) (OfTable table)
IsAnswerTo-projected system n f body among answers table some by =
    let h = core.Exists n f in
    record {
      over = IsTableOver-labels system.signature (columns_of h) (length (columns_of h)) table (label_of (project_rule body (place_in (columns_of f) n))) (project_accepts body) some refl by;
      truth =
          TellsTruth-Exists (pattern_structure system) n f (OfTable body) (OfTable table) among
          (SaysSome-tables system.signature (columns_of f) (length (columns_of h)) (place_in (columns_of f) n) body table answers.over (place_bound n f among) (count_bound n f among) some by)
          answers.truth;
    }

-- Result: so does the count's
pub IsAnswerTo-many : (system : PatternSystem) (n : ℕ) (f : Core) (body : Table) (many : ℕ → Bool) (among : is_free n f ≡ true) → TellsMany body (place_in (columns_of f) n) many
    → IsAnswerTo (pattern_structure system) f (OfTable body) → (table : Table) → 0 < length (columns_of (core.Infinite n f))
    → IsTableBy system.signature (length (columns_of (core.Infinite n f))) (label_of (many_rule body (place_in (columns_of f) n) many)) (many_accepts body) table
    → IsAnswerTo (pattern_structure system) (core.Infinite n f) (OfTable table)
IsAnswerTo-many system n f body many among tells answers table some by =
    let h = core.Infinite n f in
    record {
      over = IsTableOver-labels system.signature (columns_of h) (length (columns_of h)) table (label_of (many_rule body (place_in (columns_of f) n) many)) (many_accepts body) some refl by;
      truth =
          TellsTruth-Infinite (pattern_structure system) n f (OfTable body) (OfTable table) among
          (SaysMany-tables system.signature (columns_of f) (length (columns_of h)) (place_in (columns_of f) n) many body table answers.over tells
          (place_bound n f among) (count_bound n f among) some by) answers.truth;
    }

module _ (system : PatternSystem) (n : ℕ) (f : Core) (body : Table) (among : is_free n f ≡ true) where
  abbrev pub projected_label : Labelling
  projected_label = label_of (project_rule body (place_in (columns_of f) n))

  -- Result: the projection's labels tell the likeness by what the body's states tell
  pub LabelsTell-projected : (like : Core → Agreement) → IsRightBy system like f (OfTable body) → LabelsTell system (core.Exists n f) (AlikeBy system like (core.Exists n f)) projected_label
  LabelsTell-projected like right = project_tells system n f (like f) body right.answers.over (place_bound n f among) (count_bound n f among) right.alike

  pub LabelsTellAlike-projected : IsRightFor system f (OfTable body) → LabelsTellAlike system (core.Exists n f) projected_label
  LabelsTellAlike-projected right = LabelsTell-alike system (core.Exists n f) projected_label (LabelsTell-projected (AlikeAt system) right)

  -- the only column of the body
  pub IsAnswerTo-closed : length (columns_of f) ≡ 1 → IsAnswerTo (pattern_structure system) f (OfTable body)
      → IsAnswerTo (pattern_structure system) (core.Exists n f) (OfValue (some_below (length body.presences) body.accepting))
  IsAnswerTo-closed one answers =
      let h = core.Exists n f in
      let none : length (columns_of h) ≡ 0 = omega (arith, count_bound n f among) in
      record {
        over = empty_list (columns_of h) none;
        truth =
            TellsTruth-Exists (pattern_structure system) n f (OfTable body) (OfValue (some_below (length body.presences) body.accepting)) among
            (subst (λ k. SaysSome system.signature k (place_in (columns_of f) n) (OfTable body) (OfValue (some_below (length body.presences) body.accepting))) (sym none)
            (SaysSome-value system.signature (columns_of f) (place_in (columns_of f) n) body answers.over (place_bound n f among) one)) answers.truth;
      }

-- ---- infinitely many

module _ (system : PatternSystem) (n : ℕ) (f : Core) (body : Table) (many : ℕ → Bool) (among : is_free n f ≡ true) (tells : TellsMany body (place_in (columns_of f) n) many) where
  abbrev pub many_label : Labelling
  many_label = label_of (many_rule body (place_in (columns_of f) n) many)

  -- Result: the count's labels tell the likeness by what the body's states tell
  pub LabelsTell-many : (like : Core → Agreement) → IsRightBy system like f (OfTable body) → LabelsTell system (core.Infinite n f) (AlikeBy system like (core.Infinite n f)) many_label
  LabelsTell-many like right = many_tells system n f (like f) body many right.answers.over tells (place_bound n f among) (count_bound n f among) right.alike

  pub LabelsTellAlike-many : IsRightFor system f (OfTable body) → LabelsTellAlike system (core.Infinite n f) many_label
  LabelsTellAlike-many right = LabelsTell-alike system (core.Infinite n f) many_label (LabelsTell-many (AlikeAt system) right)

  -- the only column of the body
  pub IsAnswerTo-many_closed : length (columns_of f) ≡ 1 → IsAnswerTo (pattern_structure system) f (OfTable body)
      → IsAnswerTo (pattern_structure system) (core.Infinite n f) (OfValue (many_value body (place_in (columns_of f) n) many))
  IsAnswerTo-many_closed one answers =
      let h = core.Infinite n f in
      let none : length (columns_of h) ≡ 0 = omega (arith, count_bound n f among) in
      record {
        over = empty_list (columns_of h) none;
        truth =
            TellsTruth-Infinite (pattern_structure system) n f (OfTable body) (OfValue (many_value body (place_in (columns_of f) n) many)) among
            (subst (λ k. SaysMany system.signature k (place_in (columns_of f) n) (OfTable body) (OfValue (many_value body (place_in (columns_of f) n) many))) (sym none)
            (SaysMany-value system.signature (columns_of f) (place_in (columns_of f) n) many body answers.over tells (place_bound n f among) one)) answers.truth;
      }
