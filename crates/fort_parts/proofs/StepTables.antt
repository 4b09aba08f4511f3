-- What the tables by the labels of products and projections say of tuples of terms, and over which columns they are.
use Rattle.std.specs.Prelude.{◌≡◌, ℕ, ◌+◌, ◌-◌, ◌<◌, List, [], ◌∷◌, length, get_or, Contains, Bool, true, false, not, Decides, Some, None, refl}
use Rattle.std.specs.List.{insert}
use Rattle.std.proofs.Common.{ap, sym, ◌∙◌, subst, arith}
use Rattle.std.proofs.lemmas.List.{length-map, get_or-map}
use Rattle.std.proofs.lemmas.List.Elements.{Contains-get_or}
use Rattle.fort_theory.specs.Logic.{HasInfinitelyMany, Connective}
use Rattle.fort_theory.specs.Trees.{Tree}
use Rattle.fort_theory.specs.Signatures.{Signature, IsGround}
use Rattle.fort_tables.specs.Tuples.{Tuple, IsTuple}
use Rattle.fort_tables.specs.Tables.{Table, state_of}
use Rattle.fort_tables.specs.LabelRules.{label_of, IsTableBy}
use Rattle.fort_tables.proofs.TableLaws.{table_state}
use Rattle.fort_tables.specs.Selections.{selected}
use Rattle.fort_tables.specs.Products.{IsOperand, IsLawful, connected, product_rule, product_accepts}
use Rattle.fort_tables.specs.Projections.{some_below, project_rule, project_accepts}
use Rattle.fort_tables.specs.OperationTruth.{accepts, said_by, complemented}
use Rattle.fort_tables.proofs.SearchLaws.{found_below, below_found}
use Rattle.fort_tables.proofs.SelectionLaws.{present_from_full}
use Rattle.fort_tables.proofs.TruthLaws.{product_tests, project_decides}
use Rattle.fort_tables.specs.ManyLabels.{TellsMany, many_rule, many_accepts, many_value}
use Rattle.fort_tables.proofs.ManyTruth.{many_weaker, many_decides, many_value_decides}
use Rattle.fort_tables.proofs.TableTruth.{IsTable-complemented, IsReached-complemented, complement_decides}
use Rattle.fort_parts.specs.PartColumns.{place_in, places_in}
use Rattle.fort_parts.specs.PartAnswers.{Answer, OfValue, OfTable, said, IsTableOver, FitsColumns}
use Rattle.fort_parts.specs.PartSteps.{AreTerms, SaysNot, SaysBoth, SaysSome, SaysMany, operand_of}
use Rattle.fort_parts.proofs.PartColumnLaws.{place_of-member}

-- a tuple of one term or more is a tuple of a table
pub IsTuple-terms : (sig : Signature) (n : ℕ) (t : Tuple) → 0 < n → AreTerms sig n t → IsTuple sig n t
IsTuple-terms sig n t some terms =
    record { width = terms.width; present = present_from_full t terms.full (omega (arith, terms.width, some)); grounded = terms.grounded }

-- a table by labels is over the columns
pub IsTableOver-labels : (sig : Signature) (columns : List ℕ) (n : ℕ) (table : Table) (label : Tuple → List ℕ) (accepting : List ℕ → Bool)
    → 0 < length columns → n ≡ length columns → IsTableBy sig n label accepting table → IsTableOver sig columns table
IsTableOver-labels sig columns n table label accepting some count by = record {
  some = some;
  signature = by.signature;
  columns_are = by.columns_are ∙ count;
  lawful = by.lawful;
  reached = by.reached;
}

-- ---- complements

pub SaysNot-values : (sig : Signature) (n : ℕ) (b : Bool) → SaysNot sig n (OfValue b) (OfValue (not b))
SaysNot-values sig n b t terms = refl

pub IsTableOver-complemented : (sig : Signature) (columns : List ℕ) (table : Table) → IsTableOver sig columns table → IsTableOver sig columns (complemented table)
IsTableOver-complemented sig columns table over = record {
  some = over.some;
  signature = over.signature;
  columns_are = over.columns_are;
  lawful = IsTable-complemented table over.lawful;
  reached = IsReached-complemented table over.reached;
}

pub SaysNot-tables : (sig : Signature) (columns : List ℕ) (table : Table) → IsTableOver sig columns table
    → SaysNot sig (length columns) (OfTable table) (OfTable (complemented table))
SaysNot-tables sig columns table over t terms =
    let is : IsTuple table.signature table.columns t =
    subst (λ s. IsTuple s table.columns t) (sym over.signature) (subst (λ n. IsTuple sig n t) (sym over.columns_are) (IsTuple-terms sig (length columns) t over.some terms)) in
    let d = complement_decides table (λ s. accepts table s ≡ true) over.lawful (λ s h f. ((λ e. e), (λ e. e))) t is terms.full in
    turned (accepts table t) (accepts (complemented table) t) d
  where
    turned : (b c : Bool) → Decides c (b ≡ true → ⊥) → c ≡ not b
    turned true true d = absurd (d.0 refl refl)
    turned true false d = refl
    turned false true d = refl
    turned false false d = d.1 (λ e. absurd cc)

-- ---- products

pub SaysBoth-values : (sig : Signature) (n : ℕ) (op : Connective) (places others : List ℕ) (a b : Bool)
    → SaysBoth sig n op places (OfValue a) others (OfValue b) (OfValue (connected op a b))
SaysBoth-values sig n op places others a b t terms = refl

said_by-operand : (a : Answer) (places : List ℕ) (t : Tuple) → said_by (operand_of a places) t ≡ said a (selected places t)
said_by-operand (OfValue b) places t = refl
said_by-operand (OfTable table) places t = refl

pub IsOperand-answer : (sig : Signature) (xs zs : List ℕ) (a : Answer) → ((n : ℕ) → Contains xs n → Contains zs n) → FitsColumns sig xs a
    → IsOperand sig (length zs) (operand_of a (places_in zs xs))
IsOperand-answer sig xs zs (OfValue b) within fits = tt
IsOperand-answer sig xs zs (OfTable table) within fits = (
  fits.signature,
  (
    length-map xs (place_in zs) ∙ sym fits.columns_are,
    λ k l.
        let m : k < length xs = omega (arith, length-map xs (place_in zs)) in
        let at = place_of-member zs (get_or xs k 0) (within (get_or xs k 0) (Contains-get_or xs k 0 m)) in
        omega (arith, get_or-map (place_in zs) xs k 0 0 m, at.within),
  ),
)

pub IsLawful-answer : (sig : Signature) (xs places : List ℕ) (a : Answer) → FitsColumns sig xs a → IsLawful (operand_of a places)
IsLawful-answer sig xs places (OfValue b) fits = tt
IsLawful-answer sig xs places (OfTable table) fits = (fits.lawful, fits.reached)

-- the operands' columns are among those of the product
module _ (sig : Signature) (xs ys zs : List ℕ) (first second : Answer) (op : Connective)
    (first_within : (n : ℕ) → Contains xs n → Contains zs n) (second_within : (n : ℕ) → Contains ys n → Contains zs n)
    (first_fits : FitsColumns sig xs first) (second_fits : FitsColumns sig ys second) (some : 0 < length zs) (table : Table)
    (by : IsTableBy sig (length zs) (label_of (product_rule (length zs) (operand_of first (places_in zs xs)) (operand_of second (places_in zs ys))))
    (product_accepts op (operand_of first (places_in zs xs)) (operand_of second (places_in zs ys))) table) where
  pub SaysBoth-tables : SaysBoth sig (length zs) op (places_in zs xs) first (places_in zs ys) second (OfTable table)
  SaysBoth-tables t terms =
      let is = IsTuple-terms sig (length zs) t some terms in
      let p = said_by-operand first (places_in zs xs) t in
      let q = said_by-operand second (places_in zs ys) t in
      by.full t is terms.full
      ∙ (product_tests sig (length zs) op (operand_of first (places_in zs xs)) (operand_of second (places_in zs ys))
      (IsOperand-answer sig xs zs first first_within first_fits) (IsOperand-answer sig ys zs second second_within second_fits)
      (IsLawful-answer sig xs (places_in zs xs) first first_fits) (IsLawful-answer sig ys (places_in zs ys) second second_fits) t is terms.full
      ∙ (λ i. connected op (p i) (q i)))

-- ---- projections

-- a column beside others
pub SaysSome-tables : (sig : Signature) (columns : List ℕ) (n c : ℕ) (body table : Table) → IsTableOver sig columns body → c < length columns → n + 1 ≡ length columns → 0 < n
    → IsTableBy sig n (label_of (project_rule body c)) (project_accepts body) table → SaysSome sig n c (OfTable body) (OfTable table)
SaysSome-tables sig columns n c body table over low count some by t terms =
    let is = IsTuple-terms sig n t some terms in
    let own : n ≡ body.columns - 1 = omega (arith, over.columns_are) in
    let it : IsTuple body.signature (body.columns - 1) t = subst (λ s. IsTuple s (body.columns - 1) t) (sym over.signature) (subst (λ k. IsTuple sig k t) own is) in
    let d = project_decides body c (λ s. accepts body s ≡ true) over.lawful over.reached (omega (arith, over.columns_are)) (λ s h f. ((λ e. e), (λ e. e))) t it terms.full in
    let e : accepts table t ≡ project_accepts body (label_of (project_rule body c) t) = by.full t is terms.full in (
      (λ h. let w = d.0 (sym e ∙ h) in (w.0, subst (λ s. IsGround s w.0) over.signature w.1, w.2)),
      (λ w. e ∙ d.1 (w.0, subst (λ s. IsGround s w.0) (sym over.signature) w.1, w.2)),
    )

only_term : (sig : Signature) (t : Tuple) → IsTuple sig 1 t → (u : Tree) × IsGround sig u × (t ≡ Some u ∷ [])
only_term sig [] h = absurd h.present
only_term sig (None ∷ []) h = absurd h.present
only_term sig (Some u ∷ []) h = (u, h.grounded.0, refl)
only_term sig (x ∷ y ∷ t) h = absurd (let w = h.width in omega arith)

no_columns : (t : Tuple) → length t ≡ 0 → t ≡ []
no_columns [] h = refl
no_columns (x ∷ t) h = absurd (omega arith)

-- the only column
pub SaysSome-value : (sig : Signature) (columns : List ℕ) (c : ℕ) (body : Table) → IsTableOver sig columns body → c < length columns → length columns ≡ 1
    → SaysSome sig 0 c (OfTable body) (OfValue (some_below (length body.presences) body.accepting))
SaysSome-value sig columns c body over low one t terms =
    let first : c ≡ 0 = omega arith in
    let sole : body.columns ≡ 1 = over.columns_are ∙ one in
    subst (λ s. Decides (some_below (length body.presences) body.accepting) ((u : Tree) × IsGround sig u × (accepts body (insert s c (Some u)) ≡ true))) (sym (no_columns t terms.width))
    (subst (λ k. Decides (some_below (length body.presences) body.accepting) ((u : Tree) × IsGround sig u × (accepts body (insert [] k (Some u)) ≡ true))) (sym first) (
      (λ h.
          let q = found_below (length body.presences) body.accepting h in
          let r = over.reached q.0 q.1 in
          let only = only_term sig r.0 (subst (λ s. IsTuple s 1 r.0) over.signature (subst (λ k. IsTuple body.signature k r.0) sole r.1)) in
          (only.0, only.1, ap body.accepting (ap (state_of body) (sym only.2) ∙ r.2) ∙ q.2)),
      (λ w.
          let it : IsTuple body.signature body.columns (Some w.0 ∷ []) =
          subst (λ k. IsTuple body.signature k (Some w.0 ∷ [])) (sym sole)
          (record { width = refl; present = tt; grounded = (subst (λ s. IsGround s w.0) (sym over.signature) w.1, tt) }) in
          below_found (length body.presences) body.accepting (state_of body (Some w.0 ∷ [])) (table_state body over.lawful (Some w.0 ∷ []) it).within w.2),
    ))

-- ---- infinitely many

-- a column beside others
pub SaysMany-tables : (sig : Signature) (columns : List ℕ) (n c : ℕ) (many : ℕ → Bool) (body table : Table) → IsTableOver sig columns body → TellsMany body c many
    → c < length columns → n + 1 ≡ length columns → 0 < n → IsTableBy sig n (label_of (many_rule body c many)) (many_accepts body) table
    → SaysMany sig n c (OfTable body) (OfTable table)
SaysMany-tables sig columns n c many body table over tells low count some by t terms =
    let is = IsTuple-terms sig n t some terms in
    let own : n ≡ body.columns - 1 = omega (arith, over.columns_are) in
    let it : IsTuple body.signature (body.columns - 1) t = subst (λ s. IsTuple s (body.columns - 1) t) (sym over.signature) (subst (λ k. IsTuple sig k t) own is) in
    let d =
    many_decides body c many (λ s. accepts body s ≡ true) over.lawful over.reached (omega (arith, over.columns_are)) tells (λ s h f. ((λ e. e), (λ e. e))) t it terms.full in
    let e : accepts table t ≡ many_accepts body (label_of (many_rule body c many) t) = by.full t is terms.full in (
      (λ h. many_weaker _ _ (λ u w. (subst (λ s. IsGround s u) over.signature w.0, w.1)) (d.0 (sym e ∙ h))),
      (λ w. e ∙ d.1 (many_weaker _ _ (λ u k. (subst (λ s. IsGround s u) (sym over.signature) k.0, k.1)) w)),
    )

-- the only column
pub SaysMany-value : (sig : Signature) (columns : List ℕ) (c : ℕ) (many : ℕ → Bool) (body : Table) → IsTableOver sig columns body → TellsMany body c many → c < length columns
    → length columns ≡ 1 → SaysMany sig 0 c (OfTable body) (OfValue (many_value body c many))
SaysMany-value sig columns c many body over tells low one t terms =
    let sole : body.columns ≡ 1 = over.columns_are ∙ one in
    let d =
    many_value_decides body c many (λ s. accepts body s ≡ true) over.lawful over.reached (omega (arith, over.columns_are)) sole tells (λ s h f. ((λ e. e), (λ e. e))) in
    subst (λ s. Decides (many_value body c many) (HasInfinitelyMany (λ (u : Tree). IsGround sig u × (accepts body (insert s c (Some u)) ≡ true)))) (sym (no_columns t terms.width)) (
      (λ h. many_weaker _ _ (λ u w. (subst (λ s. IsGround s u) over.signature w.0, w.1)) (d.0 h)),
      (λ w. d.1 (many_weaker _ _ (λ u k. (subst (λ s. IsGround s u) (sym over.signature) k.0, k.1)) w)),
    )
