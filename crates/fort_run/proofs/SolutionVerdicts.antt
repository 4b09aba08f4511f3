-- The answer to a core formula tells the first terms up to a height that satisfy the formula.
use Rattle.std.specs.Prelude.{◌≡◌, ℕ, suc, ◌<◌, ◌≤◌, ◌⊎◌, List, [], ◌∷◌, ◌++◌, map, length, get_or, All, Bool, Some, refl}
use Rattle.std.proofs.Common.{inl, inr, sym, ap, subst, ◌∙◌, arith}
use Rattle.std.proofs.lemmas.List.{length-map, get_or-map}
use Rattle.std.proofs.lemmas.List.Elements.{All-nil, All-cons}
use Rattle.std.proofs.lemmas.List.FromFn.{length-range_with_len}
use Rattle.fort_theory.specs.Trees.{Tree, height}
use Rattle.fort_theory.specs.Signatures.{Signature}
use Rattle.fort_theory.specs.Sides.{System}
use Rattle.fort_theory.specs.Patterns.{PatternSystem, pattern_system}
use Rattle.fort_logic.specs.Formulas.{Formula}
use Rattle.fort_logic.specs.FreeNames.{free_names}
use Rattle.fort_theory.specs.PatternStructures.{pattern_structure}
use Rattle.fort_logic.specs.Translation.{core_of}
use Rattle.fort_tables.specs.Tuples.{Tuple, IsFull, AreGroundColumns, level}
use Rattle.fort_tables.specs.Entries.{Entry, AreNodes, picked, tuples_of}
use Rattle.fort_tables.specs.Tables.{listed_table}
use Rattle.fort_lockstep.specs.declared.dta.Dta.{Dta}
use Rattle.fort_tables.specs.TupleOrder.{TupleBefore}
use Rattle.fort_tables.specs.LeastTuple.{Accepted}
use Rattle.fort_tables.specs.FirstInOrder.{AreFirstInOrder}
use Rattle.fort_tables.specs.Solutions.{IsSolution}
use Rattle.fort_tables.proofs.FirstLaws.{AreFirstInOrder-mapped}
use Rattle.fort_witness.specs.Answers.{AreSolutions}
use Rattle.fort_parts.specs.PartAnswers.{OfValue, OfTable, IsAnswerTo}
use Rattle.fort_answers.specs.Lines.{positive, negative}
use Rattle.fort_answers.specs.Requests.{Text, Bounds}
use Rattle.fort_answers.specs.SolutionsAnswer.{SolutionsVerdict, status_of}
use Rattle.fort_answers.specs.SolutionTerms.{AreSolutionTerms, TermsBefore, count_line, solution_lines}
use Rattle.fort_engine.specs.declared.answer.Last.{Last}
use Rattle.fort_engine.specs.declared.answer.Last.TheVariants.{Truth as Value, Auto}
use Rattle.fort_engine.specs.AnswerView.{as_answer, HasStatesWithin}
use Rattle.fort_run.specs.Ready.{IsLawful, IsAnsweredBy, IsDecidedBy}
use Rattle.fort_run.specs.Witnesses.{AreTermsAt, AreAllTermsAt}
use Rattle.fort_answer_laws.proofs.NamedColumns.{columns_of-core_of}
use Rattle.fort_answer_laws.proofs.TermTuples.{full-terms, terms_in, terms-one}
use Rattle.fort_questions.proofs.FormulaRefusals.{no_items}
use Rattle.fort_run.proofs.TableWitnesses.{table-columns, accepted, tuple, accepted-satisfy}
use Rattle.fort_run.proofs.WitnessVerdicts.{of_table}

-- an answer without columns is that of a closed formula
pub value_closed : (f : Formula) (system : PatternSystem) (terms : List Tree) (last : Last) (b : Bool) → last ≡ Value b
    → IsDecidedBy f system terms last → free_names f ≡ []
value_closed f system terms last b is decided =
    let own : IsAnswerTo (pattern_structure system) (core_of terms f) (OfValue b) =
    subst (λ a. IsAnswerTo (pattern_structure system) (core_of terms f) (as_answer a)) is decided.answers in
    no_items (free_names f)
    (sym (ap length (columns_of-core_of terms f) ∙ length-range_with_len 0 (length (free_names f))) ∙ ap length own.over)

-- a higher cap is kept too
pub states_within : (n m : ℕ) (last : Last) → n ≤ m → HasStatesWithin n last → HasStatesWithin m last
states_within n m (Value b) low within = tt
states_within n m (Auto table) low within = omega (arith, low, within)

-- ---- heights

low-level : (ts : List Tree) (h : ℕ) → All (λ t. height t ≤ h) ts → level (map Some ts) ≤ suc h
low-level [] h all = omega arith
low-level (t ∷ ts) h all = omega (arith, all 0 t (omega arith), low-level ts h (λ k d l. all (suc k) d (omega arith)))

level-low : (ts : List Tree) (h : ℕ) → level (map Some ts) ≤ suc h → All (λ t. height t ≤ h) ts
level-low [] h low = All-nil (λ t. height t ≤ h)
level-low (t ∷ ts) h low = All-cons (λ t. height t ≤ h) t ts (omega arith) (level-low ts h (omega arith))

-- ---- lists of terms

-- the terms of full tuples
all_terms_in : (sig : Signature) (us : List Tuple) → All (λ t. IsFull t × AreGroundColumns sig t) us
    → (tss : List (List Tree)) × (us ≡ map (map Some) tss)
all_terms_in sig [] all = ([], refl)
all_terms_in sig (u ∷ us) all =
    let here = all 0 u (omega arith) in
    let one = terms_in sig u here.0 here.1 in
    let rest = all_terms_in sig us (λ k d l. all (suc k) d (omega arith)) in
    (one.0 ∷ rest.0, (λ i. one.2 i ∷ rest.1 i))

-- the terms of nodes that are solutions
module _ (f : Formula) (system : PatternSystem) (terms : List Tree) (last : Last) (table : Dta) (is : last ≡ Auto table)
    (decided : IsDecidedBy f system terms last) (height most : ℕ) (dag : List Entry) (nodes : List ℕ) (more : Bool)
    (w : AreSolutions (listed_table table) height most dag nodes more) where
  abbrev found : List Tuple
  found = picked (tuples_of dag) nodes

  own : IsAnsweredBy f system terms (OfTable (listed_table table))
  own = of_table f system terms last table is decided

  found-count : length found ≡ length nodes
  found-count = length-map nodes (λ q. get_or (tuples_of dag) q [])

  module _ (tss : List (List Tree)) (are : found ≡ map (map Some) tss) where
    same-count : length tss ≡ length nodes
    same-count = sym (length-map tss (map Some)) ∙ (sym (ap length are) ∙ found-count)

    terms_at : (k : ℕ) → k < length nodes → AreTermsAt system.signature (free_names f) dag (get_or nodes k 0) (get_or tss k [])
    terms_at k l =
        let at : get_or found k [] ≡ map Some (get_or tss k []) =
        ap (λ us. get_or us k []) are ∙ get_or-map (map Some) tss k [] [] (omega (arith, same-count)) in
        let own-nodes = subst (λ s. AreNodes s (listed_table table).columns dag) own.answers.over.signature w.are in
        let columns = table-columns f system terms (listed_table table) own in
        let width = (w.first.are k [] (omega (arith, found-count))).tuple.width in
        record {
          are = subst (λ n. AreNodes system.signature n dag) columns own-nodes;
          within = w.within k 0 l;
          terms = sym (get_or-map (λ q. get_or (tuples_of dag) q []) nodes k 0 [] l) ∙ at;
          count = sym (length-map (get_or tss k []) Some) ∙ (sym (ap length at) ∙ (width ∙ columns));
        }

  -- Result
  pub all_terms : (sig : Signature) → sig ≡ system.signature
      → (tss : List (List Tree)) × (found ≡ map (map Some) tss) × AreAllTermsAt sig (free_names f) dag nodes tss
  all_terms sig same =
      let all = all_terms_in (listed_table table).signature found (λ k d l. let one = w.first.are k d l in (one.full, one.tuple.grounded)) in
      let are : AreAllTermsAt system.signature (free_names f) dag nodes all.0 =
      record { count = same-count all.0 all.1; each = terms_at all.0 all.1 } in
      (all.0, all.1, subst (λ s. AreAllTermsAt s (free_names f) dag nodes all.0) (sym same) are)

-- ---- the verdict

status-none : (tss : List (List Tree)) → length tss ≡ 0 → status_of tss ≡ negative
status-none [] e = refl
status-none (ts ∷ tss) e = absurd (omega arith)

status-some : (tss : List (List Tree)) → (length tss ≡ 0 → ⊥) → status_of tss ≡ positive
status-some [] e = absurd (e refl)
status-some (ts ∷ tss) e = refl

pub status_by : (tss : List (List Tree)) (n s : ℕ) → length tss ≡ n
    → ((n ≡ 0) × (s ≡ negative)) ⊎ ((n ≡ 0 → ⊥) × (s ≡ positive)) → s ≡ status_of tss
status_by tss n s e (inl (none, is)) = is ∙ sym (status-none tss (e ∙ none))
status_by tss n s e (inr (some, is)) = is ∙ sym (status-some tss (λ z. some (sym e ∙ z)))

module _ (p : System) (lawful : IsLawful p) (f : Formula) (terms : List Tree) (last : Last)
    (decided : IsDecidedBy f (pattern_system p) terms last) (table : Dta) (is : last ≡ Auto table) where
  answered : IsAnsweredBy f (pattern_system p) terms (OfTable (listed_table table))
  answered = of_table f (pattern_system p) terms last table is decided

  abbrev Solves : ℕ → Tuple → Type 0
  Solves height = IsSolution (listed_table table).signature (listed_table table).columns (Accepted (listed_table table)) height

  module _ (height : ℕ) where
    abbrev AreLow : List Tree → Type 0
    AreLow = AreSolutionTerms p terms f height

    to : (ts : List Tree) → AreLow ts → Solves height (map Some ts)
    to ts low = record {
      tuple = tuple p lawful f terms (listed_table table) answered ts low.are;
      full = full-terms ts;
      holds = accepted p lawful f terms (listed_table table) answered ts low.are;
      low = low-level ts height low.low;
    }

    from : (ts : List Tree) → Solves height (map Some ts) → AreLow ts
    from ts s = record {
      are = accepted-satisfy p lawful f terms (listed_table table) answered ts s.tuple s.holds;
      low = level-low ts height s.low;
    }

    onto : (t : Tuple) → Solves height t → (ts : List Tree) × (t ≡ map Some ts)
    onto t s = let one = terms_in (listed_table table).signature t s.full s.tuple.grounded in (one.0, one.2)

    first_terms : (most : ℕ) (tss : List (List Tree)) (more : Bool)
        → AreFirstInOrder TupleBefore (Solves height) most (map (map Some) tss) more → AreFirstInOrder TermsBefore AreLow most tss more
    first_terms most tss more first =
        AreFirstInOrder-mapped TupleBefore (Solves height) AreLow (map Some) terms-one to from onto most tss more first

  -- Result: the text is that of the terms of the nodes
  pub solutions_say : (bounds : Bounds) (dag : List Entry) (nodes : List ℕ) (more : Bool)
      → AreSolutions (listed_table table) bounds.height bounds.most dag nodes more
      → (tss : List (List Tree)) → picked (tuples_of dag) nodes ≡ map (map Some) tss
      → (s : ℕ) (t : Text) → s ≡ status_of tss → t ≡ count_line (length tss) more ++ solution_lines p.signature (free_names f) tss
      → SolutionsVerdict bounds p terms f s t
  solutions_say bounds dag nodes more w tss are s t status_is text_is = record {
    solutions = tss;
    more = more;
    first =
        first_terms bounds.height bounds.most tss more
        (subst (λ us. AreFirstInOrder TupleBefore (Solves bounds.height) bounds.most us more) are w.first);
    are = record { same_status = status_is; same_text = text_is };
  }
