-- Terms satisfy a formula exactly where the answer to its core formula says so of the tuple of them, in the order of the free names.
use Rattle.std.specs.Prelude.{◌≡◌, ℕ, ◌<◌, ◌≤◌, List, [], map, length, reverse, get_or, All, true, Decides, None, Some}
use Rattle.std.proofs.Common.{sym, ap, subst, ◌∙◌, arith, ⊎_elim}
use Rattle.std.proofs.lemmas.Bool.{cases_lt}
use Rattle.std.proofs.lemmas.List.{length-map, get_or-map, get_or_past, ext_get_or}
use Rattle.std.proofs.lemmas.List.Elements.{All-get_or}
use Rattle.std.proofs.lemmas.List.FromFn.{fill_by_all}
use Rattle.std.proofs.lemmas.Option.{slice_get_within, slice_get-get_or, get_or_from_slice_get}
use Rattle.fort_theory.specs.Trees.{Tree, Node, Nil}
use Rattle.fort_theory.specs.Signatures.{IsGround}
use Rattle.fort_theory.specs.Sides.{System}
use Rattle.fort_theory.specs.Patterns.{pattern_system}
use Rattle.fort_logic.specs.Formulas.{Name, Formula, Var, Ground}
use Rattle.fort_logic.specs.FreeNames.{free_names}
use Rattle.fort_theory.specs.CoreTruth.{Places, IsMetBy}
use Rattle.fort_logic.specs.KeepsTruth.{AreTheirPlaces}
use Rattle.fort_theory.specs.Structures.{structure_of}
use Rattle.fort_theory.specs.PatternStructures.{pattern_structure}
use Rattle.fort_logic.specs.Translation.{number_in, core_of}
use Rattle.fort_logic.specs.Truth.{Assignment, IsGroundAssignment, GivesTerms}
use Rattle.fort_alike.specs.AssignedTuples.{tuple_of}
use Rattle.fort_parts.specs.PartColumns.{columns_of}
use Rattle.fort_parts.specs.PartAnswers.{Answer, said, AreGround}
use Rattle.fort_answer_laws.proofs.NamedColumns.{columns_of-core_of, number_of_name}
use Rattle.fort_answers.specs.Witnesses.{AreWitnesses}
use Rattle.fort_answer_laws.proofs.TermTuples.{witnesses-count, witnesses-ground}
use Rattle.fort_run.specs.Ready.{IsLawful, IsAnsweredBy}
use Rattle.fort_run.proofs.Deciding.{same_truth}

-- an element of a list, or a default, where P holds of both
at_or : {A : Type 0} (P : A → Type 0) (xs : List A) (k : ℕ) (d : A) → All P xs → P d → P (get_or xs k d)
at_or P xs k d all h =
    ⊎_elim (λ (l : k < length xs). All-get_or P xs k d l all) (λ (l : length xs ≤ k). subst P (sym (get_or_past xs k d l)) h) (cases_lt k (length xs))

-- ---- the assignment of terms to the free names

-- d where there is none
abbrev assigned : List Tree → List Tree → List Name → Tree → Assignment
assigned ts terms names d (Var x) = get_or ts (number_in (reverse names) x) d
assigned ts terms names d (Ground k) = get_or terms k d

module _ (p : System) (lawful : IsLawful p) (f : Formula) (terms : List Tree) (answer : Answer)
    (answered : IsAnsweredBy f (pattern_system p) terms answer) where
  abbrev d : Tree
  d = Node lawful.constant.0 Nil

  d-ground : IsGround p.signature d
  d-ground = (lawful.constant.1, tt)

  abbrev place : List Tree → Places
  place ts = λ n. get_or ts n d

  place-ground : (ts : List Tree) → All (IsGround p.signature) ts → AreGround p.signature (place ts)
  place-ground ts all n = at_or (IsGround p.signature) ts n d all d-ground

  assigned-ground : (ts : List Tree) → All (IsGround p.signature) ts → IsGroundAssignment (structure_of p) (assigned ts terms (free_names f) d)
  assigned-ground ts all (Var x) = at_or (IsGround p.signature) ts (number_in (reverse (free_names f)) x) d all d-ground
  assigned-ground ts all (Ground k) = at_or (IsGround p.signature) terms k d answered.ready.grounded d-ground

  tuple-terms : (ts : List Tree) → length ts ≡ length (free_names f) → tuple_of (place ts) (columns_of (core_of terms f)) ≡ map Some ts
  tuple-terms ts len =
      ap (tuple_of (place ts)) (columns_of-core_of terms f)
      ∙ sym (fill_by_all (λ n. Some (place ts n)) (map Some ts) (length (free_names f)) None (length-map ts Some ∙ len)
      (λ k l. get_or-map Some ts k d None (omega arith)))

  -- what the answer says of the terms
  decides : (ts : List Tree) → length ts ≡ length (free_names f) → All (IsGround p.signature) ts
      → Decides (said answer (map Some ts)) (IsMetBy (pattern_structure (pattern_system p)) (core_of terms f) (place ts))
  decides ts len all =
      subst (λ t. Decides (said answer t) (IsMetBy (pattern_structure (pattern_system p)) (core_of terms f) (place ts))) (tuple-terms ts len)
      (answered.answers.truth (place ts) (place-ground ts all))

  -- Result
  pub said-witnesses : (ts : List Tree) → AreWitnesses p terms f ts → said answer (map Some ts) ≡ true
  said-witnesses ts are =
      let m = are.assignment in
      let places : AreTheirPlaces f m (place ts) =
      λ n x at.
      let l = slice_get_within (free_names f) n x at in
      ap (λ us. get_or us n d) are.are
      ∙ (get_or-map (λ y. m (Var y)) (free_names f) n [] d l ∙ ap (λ y. m (Var y)) (get_or_from_slice_get (free_names f) n x [] at)) in
      (decides ts (witnesses-count p terms f ts are) (witnesses-ground p terms f ts are)).1
      ((same_truth p lawful f terms answer answered m (place ts) are.grounded are.given places).0 are.holds)

  -- Result
  pub witnesses-said : (ts : List Tree) → length ts ≡ length (free_names f) → All (IsGround p.signature) ts → said answer (map Some ts) ≡ true
      → AreWitnesses p terms f ts
  witnesses-said ts len all e =
      let m = assigned ts terms (free_names f) d in
      let given : GivesTerms terms m = λ k t at. get_or_from_slice_get terms k t d at in
      let places : AreTheirPlaces f m (place ts) = λ n x at. ap (λ k. get_or ts k d) (sym (number_of_name f n x at)) in
      record {
        assignment = m;
        grounded = assigned-ground ts all;
        given = given;
        holds = (same_truth p lawful f terms answer answered m (place ts) (assigned-ground ts all) given places).1 ((decides ts len all).0 e);
        are =
            ext_get_or d ts (map (λ x. m (Var x)) (free_names f)) (len ∙ sym (length-map (free_names f) (λ x. m (Var x))))
            (λ k l.
            let low : k < length (free_names f) = omega arith in
            ap (λ i. get_or ts i d) (sym (number_of_name f k (get_or (free_names f) k []) (slice_get-get_or (free_names f) k [] low)))
            ∙ sym (get_or-map (λ x. m (Var x)) (free_names f) k [] d low));
      }
