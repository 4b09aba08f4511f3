-- The bits that are written at a node for normal forms are those of the rule's marks; no label of normal forms reads a right side.
use Rattle.std.specs.Prelude.{◌≡◌, ℕ, ◌+◌, List, [], ◌∷◌, ◌++◌, map, length, get_or, Option, None, Bool, false, ◌&&◌, ◌||◌, not, refl}
use Rattle.std.specs.List.{list_any}
use Rattle.std.proofs.Common.{sym, ap, ◌∙◌, arith, append-nil}
use Rattle.std.proofs.lemmas.List.{get_or-map}
use Rattle.fort_theory.specs.Signatures.{Signature}
use Rattle.fort_theory.specs.Patterns.{Pattern, Any, Pair}
use Rattle.fort_tables.specs.Tuples.{Tuple, TupleSymbol, presence, fold_tuple}
use Rattle.fort_tables.specs.LabelRules.{label_of}
use Rattle.fort_alike.specs.Atoms.{NfKind}
use Rattle.fort_alike.specs.Alike.{IsNormal}
use Rattle.fort_alike.specs.ListedAtoms.{OfFirst, OfBoth, ListedAtom, listed}
use Rattle.fort_alike.specs.AtomRules.{marks_of, atom_rule, inside, fact_step, bit_in, any_pair, all_kids, is_there}
use Rattle.fort_alike.proofs.PatternNumberLaws.{fact_bit}
use Rattle.fort_tables.specs.BitRows.{bit_row}
use Rattle.fort_label_bits.specs.RowBits.{bit_of, HasBits}
use Rattle.fort_context_closure.specs.SidePlaces.{side_at, AreSidesWithin, some_side}
use Rattle.fort_context_closure.specs.PlainAtoms.{no_closure}
use Rattle.fort_context_closure.proofs.SidePlaceLaws.{some_side-any_pair}
use Rattle.fort_context_closure.proofs.NodeRowLaws.{node_marks}
use Rattle.fort_context_closure.proofs.RelationLaws.{map-marks}

abbrev pub normal : Signature → List Pair → List Pattern → ListedAtom
normal sig pairs lefts = listed (record { signature = sig; columns = 1; first = 0; second = 0; kind = NfKind; pairs = pairs }) lefts []

module _ (sig : Signature) (pairs : List Pair) (lefts : List Pattern) where
  marks-normal : (x y : Option ℕ) (ws : List (List ℕ))
      → map (inside (bit_in (normal sig pairs lefts)) OfFirst x ws) lefts ++ fact_step false (bit_in (normal sig pairs lefts)) pairs no_closure x y ws IsNormal ∷ []
      ≡ map (node_marks (normal sig pairs lefts) no_closure x y ws) (marks_of (normal sig pairs lefts))
  marks-normal x y ws =
      ap (λ bs. bs ++ fact_step false (bit_in (normal sig pairs lefts)) pairs no_closure x y ws IsNormal ∷ [])
      (sym (append-nil (map (inside (bit_in (normal sig pairs lefts)) OfFirst x ws) lefts)))
      ∙ sym (map-marks (node_marks (normal sig pairs lefts) no_closure x y ws) lefts [] (IsNormal ∷ []))

  pub normal-are : (x y : Option ℕ) (ws : List (List ℕ)) (firsts : List Bool) (on : Bool)
      → firsts ≡ map (inside (bit_in (normal sig pairs lefts)) OfFirst x ws) lefts
      → on ≡ fact_step false (bit_in (normal sig pairs lefts)) pairs no_closure x y ws IsNormal
      → firsts ++ on ∷ [] ≡ map (node_marks (normal sig pairs lefts) no_closure x y ws) (marks_of (normal sig pairs lefts))
  normal-are x y ws firsts on f o = (λ i. f i ++ o i ∷ []) ∙ marks-normal x y ws

  pub normal-on : (x y : Option ℕ) (ws : List (List ℕ)) (base : ℕ) (there reducible all : Bool) → base ≡ length lefts → there ≡ is_there x
      → reducible ≡ any_pair (λ r. inside (bit_in (normal sig pairs lefts)) OfFirst x ws r.0) pairs
      → all ≡ all_kids (bit_of base) ws
      → (there && (not reducible && all)) ≡ fact_step false (bit_in (normal sig pairs lefts)) pairs no_closure x y ws IsNormal
  normal-on x y ws base there reducible all e t r h =
      let none : List Pattern = [] in
      let reads : (w : List ℕ) → bit_of base w ≡ bit_in (normal sig pairs lefts) (OfBoth IsNormal) w =
      λ w. let z : base ≡ length lefts + length none + 0 = omega (arith, e) in ap (λ k. bit_of k w) z ∙ fact_bit (normal sig pairs lefts) IsNormal w in
      (λ i. t i && (not (r i) && h i))
      ∙ (λ i. is_there x && (not (any_pair (λ r. inside (bit_in (normal sig pairs lefts)) OfFirst x ws r.0) pairs) && all_kids (λ w. reads w i) ws))

  -- some left side is there, by the row that is written
  pub side-own : (x : Option ℕ) (ws : List (List ℕ)) (firsts : List Bool) (sides : List ℕ) (w : List ℕ)
      → firsts ≡ map (inside (bit_in (normal sig pairs lefts)) OfFirst x ws) lefts → AreSidesWithin lefts sides → pairs ≡ map (side_at lefts) sides → HasBits firsts w
      → some_side sides w ≡ any_pair (λ r. inside (bit_in (normal sig pairs lefts)) OfFirst x ws r.0) pairs
  side-own x ws firsts sides w f within are h =
      let F : Pattern → Bool = inside (bit_in (normal sig pairs lefts)) OfFirst x ws in
      some_side-any_pair lefts F w sides (λ k c. h k ∙ (ap (λ bs. get_or bs k false) f ∙ get_or-map F lefts k Any false (within k c)))
      ∙ ap (any_pair (λ r. F r.0)) (sym are)

-- the left sides alone count

any_pair-firsts : (T : Pattern → Bool) (pairs : List Pair) → any_pair (λ r. T r.0) pairs ≡ list_any T (map (λ (pair : Pair). pair.0) pairs)
any_pair-firsts T [] = refl
any_pair-firsts T (r ∷ rs) = ap (λ b. T r.0 || b) (any_pair-firsts T rs)

module _ (sig tag : Signature) (pairs others : List Pair) (lefts : List Pattern)
    (same : map (λ (pair : Pair). pair.0) pairs ≡ map (λ (pair : Pair). pair.0) others) where
  fact-same : (x y : Option ℕ) (ws : List (List ℕ))
      → fact_step false (bit_in (normal sig pairs lefts)) pairs no_closure x y ws IsNormal
      ≡ fact_step false (bit_in (normal tag others lefts)) others no_closure x y ws IsNormal
  fact-same x y ws =
      let F : Pattern → Bool = inside (bit_in (normal sig pairs lefts)) OfFirst x ws in
      let e : any_pair (λ r. F r.0) pairs ≡ any_pair (λ r. F r.0) others = any_pair-firsts F pairs ∙ (ap (list_any F) same ∙ sym (any_pair-firsts F others)) in
      λ i. is_there x && (not (e i) && all_kids (bit_in (normal sig pairs lefts) (OfBoth IsNormal)) ws)

  marks-same : (x y : Option ℕ) (ws : List (List ℕ))
      → map (node_marks (normal sig pairs lefts) no_closure x y ws) (marks_of (normal sig pairs lefts))
      ≡ map (node_marks (normal tag others lefts) no_closure x y ws) (marks_of (normal tag others lefts))
  marks-same x y ws =
      sym (marks-normal sig pairs lefts x y ws)
      ∙ (ap (λ b. map (inside (bit_in (normal sig pairs lefts)) OfFirst x ws) lefts ++ b ∷ []) (fact-same x y ws) ∙ marks-normal tag others lefts x y ws)

  -- so do the labels
  pub normal-step : (f : TupleSymbol) (ws : List (List ℕ)) → (atom_rule (normal sig pairs lefts) no_closure).step f ws ≡ (atom_rule (normal tag others lefts) no_closure).step f ws
  normal-step f ws = λ i.
      presence f ∷ bit_row (length (marks_of (normal sig pairs lefts)))
      (λ k. get_or (marks-same (get_or f 0 None) (get_or f 0 None) ws i) k false)

  pub normal-label : (t : Tuple) → label_of (atom_rule (normal sig pairs lefts) no_closure) t ≡ label_of (atom_rule (normal tag others lefts) no_closure) t
  normal-label t = λ i. fold_tuple (λ f ws. normal-step f ws i) t
