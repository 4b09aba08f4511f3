-- Tables and values that are made of right answers are right: complements, connectives, projections, counts.
use Rattle.std.proofs.Common.{◌≡◌, ℕ, zero, suc, ◌+◌, ◌-◌, ◌<◌, ◌≤◌, List, [], ◌∷◌, length, Bool, true, not, refl, ap, sym, ◌∙◌, arith, subst, ⊎_elim}
use Rattle.std.specs.List.{insert}
use Rattle.std.proofs.lemmas.Bool.{cases_lt, or_cases}
use Rattle.std.specs.Prelude.{Contains}
use Rattle.std.proofs.lemmas.List.Edits.{length-insert}
use Rattle.fort_theory.specs.Signatures.{Signature, most_columns}
use Rattle.fort_theory.specs.Patterns.{PatternSystem}
use Rattle.fort_theory.proofs.Members.{Contains-none, Contains-head}
use Rattle.fort_theory.specs.Cores as core
use Rattle.fort_theory.specs.Cores.{Core, Binary}
use Rattle.fort_theory.specs.Parts.{is_free}
use Rattle.fort_theory.specs.PatternStructures.{pattern_structure}
use Rattle.fort_tables.specs.Tables.{Table}
use Rattle.fort_tables.specs.LabelRules.{IsLabelRule, label_of}
use Rattle.fort_tables.specs.OperationTruth.{complemented}
use Rattle.fort_theory.specs.Logic.{Connective}
use Rattle.fort_tables.specs.Products.{connected, signature_of}
use Rattle.fort_tables.specs.Projections.{some_below}
use Rattle.fort_tables.specs.ManyLabels.{TellsMany, many_value}
use Rattle.fort_parts.specs.PartColumns.{columns_of, place_in, places_in}
use Rattle.fort_parts.specs.PartAnswers.{Answer, OfValue, OfTable, FitsColumns, IsAnswerTo}
use Rattle.fort_parts.specs.PartSteps.{SaysSome, SaysMany, operand_of}
use Rattle.fort_parts.proofs.PartColumnLaws.{columns_of-bound, first_within, second_within, is_free-from_column, column-from_free, place_of-member}
use Rattle.fort_parts.proofs.StepAnswers.{is_free-joined}
use Rattle.fort_parts.proofs.StepTruth.{TellsTruth-True, TellsTruth-Not, TellsTruth-Binary, TellsTruth-Exists, TellsTruth-Infinite}
use Rattle.fort_parts.proofs.StepTables.{IsTableOver-labels, SaysNot-values, IsTableOver-complemented, SaysNot-tables, SaysBoth-values, SaysBoth-tables, SaysSome-tables, SaysSome-value, SaysMany-tables, SaysMany-value}
use Rattle.fort_certificate_theory.specs.PartRules.{Local, product_local, project_local, many_local}
use Rattle.fort_certificate_theory.proofs.MadeTables.{IsMadeBy, IsTableByLocal, IsTableBy-made}

no_column : (xs : List ℕ) → length xs ≡ 0 → xs ≡ []
no_column [] e = refl
no_column (x ∷ xs) e = absurd (omega arith)

-- a formula of two closed ones is closed
no_columns_joined : (op : Connective) (f g : Core) → columns_of f ≡ [] → columns_of g ≡ [] → columns_of (Binary op f g) ≡ []
no_columns_joined op f g one other = by (columns_of (Binary op f g)) refl
  where
    free : (n : ℕ) → is_free n (Binary op f g) ≡ true → ⊥
    free n e =
        ⊎_elim
        (λ h. Contains-none n (subst (λ (ys : List ℕ). Contains ys n) one (column-from_free f n h)))
        (λ h. Contains-none n (subst (λ (ys : List ℕ). Contains ys n) other (column-from_free g n h)))
        (or_cases (is_free n f) (is_free n g) (sym (is_free-joined op f g n) ∙ e))

    by : (xs : List ℕ) → columns_of (Binary op f g) ≡ xs → columns_of (Binary op f g) ≡ []
    by [] e = e
    by (x ∷ xs) e = absurd (free x (is_free-from_column (Binary op f g) x (subst (λ (ys : List ℕ). Contains ys x) (sym e) (Contains-head x xs))))

-- the column that a binder takes away
past_end : (xs : List ℕ) (c x : ℕ) → length xs < c → length (insert xs c x) ≡ length xs + 1
past_end xs zero x m = absurd (omega arith)
past_end [] (suc c) x m = refl
past_end (y ∷ xs) (suc c) x m = let e = past_end xs c x (omega arith) in omega arith

module _ (n : ℕ) (f : Core) (among : is_free n f ≡ true) where
  pub bound_within : place_in (columns_of f) n < length (columns_of f)
  bound_within = (place_of-member (columns_of f) n (column-from_free f n among)).within

  pub bound_many : length (columns_of (core.Exists n f)) + 1 ≡ length (columns_of f)
  bound_many =
      let xs = columns_of (core.Exists n f) in
      let c = place_in (columns_of f) n in
      let same = ap length (columns_of-bound (core.Exists n f) f n (λ m. refl) among) in
      ⊎_elim
      (λ (l : length xs < c). sym (past_end xs c n l) ∙ same)
      (λ (l : c ≤ length xs). let e = length-insert xs c n l in omega (arith, same))
      (cases_lt (length xs) c)

module _ (system : PatternSystem) where
  pub true_right : IsAnswerTo (pattern_structure system) core.True (OfValue true)
  true_right = record { over = refl; truth = TellsTruth-True (pattern_structure system) }

  pub not_value_right : (f : Core) (b : Bool) → IsAnswerTo (pattern_structure system) f (OfValue b) → IsAnswerTo (pattern_structure system) (core.Not f) (OfValue (not b))
  not_value_right f b right = record {
    over = right.over;
    truth = TellsTruth-Not (pattern_structure system) f (OfValue b) (OfValue (not b)) (SaysNot-values system.signature (length (columns_of f)) b) right.truth;
  }

  pub not_table_right : (f : Core) (table : Table) → IsAnswerTo (pattern_structure system) f (OfTable table) → IsAnswerTo (pattern_structure system) (core.Not f) (OfTable (complemented table))
  not_table_right f table right = record {
    over = IsTableOver-complemented system.signature (columns_of f) table right.over;
    truth = TellsTruth-Not (pattern_structure system) f (OfTable table) (OfTable (complemented table)) (SaysNot-tables system.signature (columns_of f) table right.over) right.truth;
  }

  pub values_right : (op : Connective) (f g : Core) (a b : Bool) → columns_of (Binary op f g) ≡ [] → IsAnswerTo (pattern_structure system) f (OfValue a)
      → IsAnswerTo (pattern_structure system) g (OfValue b) → IsAnswerTo (pattern_structure system) (Binary op f g) (OfValue (connected op a b))
  values_right op f g a b none one other = record {
    over = none;
    truth =
        TellsTruth-Binary (pattern_structure system) op f g (OfValue a) (OfValue b) (OfValue (connected op a b))
        (SaysBoth-values system.signature (length (columns_of (Binary op f g))) op (places_in (columns_of (Binary op f g)) (columns_of f))
        (places_in (columns_of (Binary op f g)) (columns_of g)) a b) one.truth other.truth;
  }

  -- one of the operands has columns
  pub joined_signature : (op : Connective) (f g : Core) (first second : Answer) (places others : List ℕ) → 0 < length (columns_of (Binary op f g))
      → FitsColumns system.signature (columns_of f) first → FitsColumns system.signature (columns_of g) second
      → signature_of (operand_of first places) (operand_of second others) ≡ system.signature
  joined_signature op f g (OfTable a) second places others some one other = one.signature
  joined_signature op f g (OfValue a) (OfTable b) places others some one other = other.signature
  joined_signature op f g (OfValue a) (OfValue b) places others some one other = absurd (let e = ap length (no_columns_joined op f g one other) in omega arith)

  pub product_right : (op : Connective) (f g : Core) (first second : Answer) (local : Local) (table : Table) → 0 < length (columns_of (Binary op f g)) → length (columns_of (Binary op f g)) ≤ most_columns
      → IsAnswerTo (pattern_structure system) f first → IsAnswerTo (pattern_structure system) g second → local ≡ product_local op (Binary op f g) f g first second → IsMadeBy local table
      → IsAnswerTo (pattern_structure system) (Binary op f g) (OfTable table)
  product_right op f g first second local table some few one other is by =
      let h = Binary op f g in
      let own = product_local op h f g first second in
      let law : IsLabelRule own.rule = record { some = some; narrow = few; tells = λ k ws. refl } in
      let sig = joined_signature op f g first second (places_in (columns_of h) (columns_of f)) (places_in (columns_of h) (columns_of g)) some one.over other.over in
      let table_by : IsTableByLocal system.signature (length (columns_of h)) own table =
      subst (λ (s : Signature). IsTableByLocal s (length (columns_of h)) own table) sig (IsTableBy-made own table law (subst (λ (l : Local). IsMadeBy l table) is by)) in
      record {
        over = IsTableOver-labels system.signature (columns_of h) (length (columns_of h)) table (label_of own.rule) own.accepting some refl table_by;
        truth =
            TellsTruth-Binary (pattern_structure system) op f g first second (OfTable table)
            (SaysBoth-tables system.signature (columns_of f) (columns_of g) (columns_of h) first second op (first_within h f g (is_free-joined op f g))
            (second_within h f g (is_free-joined op f g)) one.over other.over some table table_by) one.truth other.truth;
      }

  pub project_right : (n : ℕ) (f : Core) (body : Table) (local : Local) (table : Table) → is_free n f ≡ true → 0 < length (columns_of (core.Exists n f)) → length (columns_of (core.Exists n f)) ≤ most_columns
      → IsAnswerTo (pattern_structure system) f (OfTable body) → local ≡ project_local body (place_in (columns_of f) n) → IsMadeBy local table
      → IsAnswerTo (pattern_structure system) (core.Exists n f) (OfTable table)
  project_right n f body local table among some few right is by =
      let h = core.Exists n f in
      let c = place_in (columns_of f) n in
      let own = project_local body c in
      let count : body.columns - 1 ≡ length (columns_of h) = omega (arith, right.over.columns_are, bound_many n f among) in
      let law : IsLabelRule own.rule = record { some = omega (arith, some, count); narrow = omega (arith, few, count); tells = λ k ws. refl } in
      let table_by : IsTableByLocal system.signature (length (columns_of h)) own table =
      subst (λ (s : Signature). IsTableByLocal s (length (columns_of h)) own table) right.over.signature
      (subst (λ (m : ℕ). IsTableByLocal body.signature m own table) count (IsTableBy-made own table law (subst (λ (l : Local). IsMadeBy l table) is by))) in
      record {
        over = IsTableOver-labels system.signature (columns_of h) (length (columns_of h)) table (label_of own.rule) own.accepting some refl table_by;
        truth =
            TellsTruth-Exists (pattern_structure system) n f (OfTable body) (OfTable table) among
            (SaysSome-tables system.signature (columns_of f) (length (columns_of h)) c body table right.over (bound_within n f among) (bound_many n f among) some table_by) right.truth;
      }

  pub some_value_right : (n : ℕ) (f : Core) (body : Table) → is_free n f ≡ true → length (columns_of (core.Exists n f)) ≡ 0 → IsAnswerTo (pattern_structure system) f (OfTable body)
      → IsAnswerTo (pattern_structure system) (core.Exists n f) (OfValue (some_below (length body.presences) body.accepting))
  some_value_right n f body among none right =
      let value = some_below (length body.presences) body.accepting in
      let c = place_in (columns_of f) n in
      record {
        over = no_column (columns_of (core.Exists n f)) none;
        truth =
            TellsTruth-Exists (pattern_structure system) n f (OfTable body) (OfValue value) among
            (subst (λ (k : ℕ). SaysSome system.signature k c (OfTable body) (OfValue value)) (sym none)
            (SaysSome-value system.signature (columns_of f) c body right.over (bound_within n f among) (omega (arith, bound_many n f among)))) right.truth;
      }

  pub many_right : (n : ℕ) (f : Core) (many : ℕ → Bool) (body : Table) (local : Local) (table : Table) → is_free n f ≡ true → 0 < length (columns_of (core.Infinite n f)) → length (columns_of (core.Infinite n f)) ≤ most_columns
      → IsAnswerTo (pattern_structure system) f (OfTable body) → TellsMany body (place_in (columns_of f) n) many → local ≡ many_local body (place_in (columns_of f) n) many → IsMadeBy local table
      → IsAnswerTo (pattern_structure system) (core.Infinite n f) (OfTable table)
  many_right n f many body local table among some few right tells is by =
      let h = core.Infinite n f in
      let c = place_in (columns_of f) n in
      let own = many_local body c many in
      let count : body.columns - 1 ≡ length (columns_of h) = omega (arith, right.over.columns_are, bound_many n f among) in
      let law : IsLabelRule own.rule = record { some = omega (arith, some, count); narrow = omega (arith, few, count); tells = λ k ws. refl } in
      let table_by : IsTableByLocal system.signature (length (columns_of h)) own table =
      subst (λ (s : Signature). IsTableByLocal s (length (columns_of h)) own table) right.over.signature
      (subst (λ (m : ℕ). IsTableByLocal body.signature m own table) count (IsTableBy-made own table law (subst (λ (l : Local). IsMadeBy l table) is by))) in
      record {
        over = IsTableOver-labels system.signature (columns_of h) (length (columns_of h)) table (label_of own.rule) own.accepting some refl table_by;
        truth =
            TellsTruth-Infinite (pattern_structure system) n f (OfTable body) (OfTable table) among
            (SaysMany-tables system.signature (columns_of f) (length (columns_of h)) c many body table right.over tells (bound_within n f among) (bound_many n f among) some table_by)
            right.truth;
      }

  pub many_value_right : (n : ℕ) (f : Core) (many : ℕ → Bool) (body : Table) → is_free n f ≡ true → length (columns_of (core.Infinite n f)) ≡ 0 → IsAnswerTo (pattern_structure system) f (OfTable body)
      → TellsMany body (place_in (columns_of f) n) many → IsAnswerTo (pattern_structure system) (core.Infinite n f) (OfValue (many_value body (place_in (columns_of f) n) many))
  many_value_right n f many body among none right tells =
      let c = place_in (columns_of f) n in
      let value = many_value body c many in
      record {
        over = no_column (columns_of (core.Infinite n f)) none;
        truth =
            TellsTruth-Infinite (pattern_structure system) n f (OfTable body) (OfValue value) among
            (subst (λ (k : ℕ). SaysMany system.signature k c (OfTable body) (OfValue value)) (sym none)
            (SaysMany-value system.signature (columns_of f) c many body right.over tells (bound_within n f among) (omega (arith, bound_many n f among)))) right.truth;
      }
