-- A right table whose states tell when tuples are alike has right targets for each rule of labels that tells it too, and they make it again.
use Rattle.std.proofs.Common.{◌≡◌, ℕ, suc, ◌<◌, List, [], ◌∷◌, length, get_or, Bool, true, false, None, Some, refl, ap, sym, ◌∙◌, arith, subst, ⊎_elim}
use Rattle.std.specs.Prelude.{Contains, Decides, ◌↔◌}
use Rattle.std.proofs.lemmas.Bool.{cases_eq}
use Rattle.std.proofs.lemmas.List.{length-map, ext_get_or, get_or_default}
use Rattle.std.proofs.lemmas.List.Kept.{AllPairs-from_increasing}
use Rattle.fort_theory.specs.Trees.{Node, Nil}
use Rattle.fort_theory.specs.Signatures.{Signature, HasConstant}
use Rattle.fort_theory.specs.Patterns.{PatternSystem}
use Rattle.fort_theory.specs.Cores.{Core}
use Rattle.fort_theory.specs.CoreTruth.{Places, with_number, IsMetBy}
use Rattle.fort_theory.specs.PatternStructures.{pattern_structure}
use Rattle.fort_tables.specs.Tuples.{Tuple, presence, IsTuple, IsFull, AreGroundColumns}
use Rattle.fort_tables.specs.Tables.{Listed, listed_table, full_presence, state_of, IsListed}
use Rattle.fort_tables.specs.LabelRules.{IsLabelRule, label_of}
use Rattle.fort_tables.proofs.PresenceLaws.{full_from_presence}
use Rattle.fort_tables.proofs.TableLaws.{table_state}
use Rattle.fort_alike.specs.AssignedTuples.{tuple_of}
use Rattle.fort_tables.specs.OperationTruth.{accepts}
use Rattle.fort_parts.specs.PartColumns.{columns_of}
use Rattle.fort_parts.specs.PartAnswers.{OfTable, AreGround, IsAnswerTo}
use Rattle.fort_parts.specs.PartLabels.{LabelsTell}
use Rattle.fort_parts.specs.RightAnswers.{IsRightBy}
use Rattle.fort_parts.proofs.AssignedColumns.{insert-tuple_of, AreGround-with_number}
use Rattle.fort_parts.proofs.PartColumnLaws.{AreColumns-columns_of}
use Rattle.fort_parts.specs.ReducedParts.{AlikeWith}
use Rattle.fort_certificate_theory.specs.PartSteps.{part_table}
use Rattle.fort_certificate_theory.specs.PartRules.{Local}
use Rattle.fort_certificate_theory.proofs.MadeTables.{IsMadeBy}
use Rattle.fort_certificate_theory.proofs.ListedParts.{AreRightTargets, targets_from_states, HasRightTargets}

-- an assignment for a tuple of terms
pub record IsAssigned (sig : Signature) (columns : List ℕ) (t : Tuple) : Type 0 where
  pub places : Places
  pub grounded : AreGround sig places
  pub is : tuple_of places columns ≡ t

pub assigned : (sig : Signature) (columns : List ℕ) (t : Tuple) → HasConstant sig → ((i j : ℕ) → i < j → j < length columns → get_or columns i 0 < get_or columns j 0) → length t ≡ length columns
    → IsFull t → AreGroundColumns sig t → IsAssigned sig columns t
assigned sig [] [] constant up len full grounded = record { places = λ n. Node constant.0 Nil; grounded = λ n. (constant.1, tt); is = refl }
assigned sig [] (x ∷ t) constant up len full grounded = absurd (omega arith)
assigned sig (n ∷ ns) [] constant up len full grounded = absurd (omega arith)
assigned sig (n ∷ ns) (None ∷ t) constant up len full grounded = absurd full
assigned sig (n ∷ ns) (Some u ∷ t) constant up len full grounded =
    let r = assigned sig ns t constant (λ i j l m. up (suc i) (suc j) (omega arith) (omega arith)) (omega arith) full grounded.1 in
    let apart : Contains ns n → ⊥ = λ c. let l = up 0 (suc c.0) (omega arith) (omega (arith, c.1)) in omega (arith, get_or_default ns c.0 0 n c.1, c.2) in
    record {
      places = with_number r.places n u;
      grounded = AreGround-with_number sig r.places n u r.grounded grounded.0;
      is = sym (insert-tuple_of r.places n u 0 ns apart) ∙ ap (λ ts. Some u ∷ ts) r.is;
    }

-- two truths that decide the same are one
pub one_decided : (a b : Bool) (P : Type 0) → Decides a P → Decides b P → a ≡ b
one_decided true true P d e = refl
one_decided true false P d e = sym (e.1 (d.0 refl))
one_decided false true P d e = d.1 (e.0 refl)
one_decided false false P d e = refl

-- labels for a formula, whose tables are right and whose words tell when tuples are alike, with reduced tables or without
pub record AreLabelsOf (reduces : Bool) (system : PatternSystem) (f : Core) (local : Local) : Type 0 where
  pub law : IsLabelRule local.rule
  pub signature : local.rule.signature ≡ system.signature
  pub columns : local.rule.columns ≡ length (columns_of f)
  pub alike : LabelsTell system f (AlikeWith reduces system f) (label_of local.rule)
  pub right : (t : Listed) → IsMadeBy local (listed_table t) → IsAnswerTo (pattern_structure system) f (OfTable (listed_table t))

module _ (reduces : Bool) (system : PatternSystem) (constant : HasConstant system.signature) (f : Core) (local : Local) (labels : AreLabelsOf reduces system f local) (t : Listed) (is : IsListed t)
    (count : length t.finals ≡ length t.presences) (right : IsRightBy system (AlikeWith reduces system) f (OfTable (listed_table t))) where
  over_signature : t.signature ≡ local.rule.signature
  over_signature = right.answers.over.signature ∙ sym labels.signature

  over_columns : t.columns ≡ local.rule.columns
  over_columns = right.answers.over.columns_are ∙ sym labels.columns

  states_labels : (a b : Tuple) → IsTuple local.rule.signature local.rule.columns a → IsTuple local.rule.signature local.rule.columns b
      → (state_of (listed_table t) a ≡ state_of (listed_table t) b) ↔ (label_of local.rule a ≡ label_of local.rule b)
  states_labels a b h k =
      let at : (u : Tuple) → IsTuple local.rule.signature local.rule.columns u → IsTuple t.signature t.columns u =
      λ u m. subst (λ (s : Signature). IsTuple s t.columns u) (sym over_signature) (subst (λ (n : ℕ). IsTuple local.rule.signature n u) (sym over_columns) m) in
      let there : (u : Tuple) → IsTuple local.rule.signature local.rule.columns u → IsTuple system.signature (length (columns_of f)) u =
      λ u m. subst (λ (s : Signature). IsTuple s (length (columns_of f)) u) labels.signature (subst (λ (n : ℕ). IsTuple local.rule.signature n u) labels.columns m) in
      let states = right.alike a b (at a h) (at b k) in
      let words = labels.alike a b (there a h) (there b k) in
      ((λ e. words.1 (states.0 e)), (λ e. states.1 (words.0 e)))

  targets : AreRightTargets local.rule t
  targets = targets_from_states local.rule t labels.law is over_signature over_columns states_labels

  abbrev again : Listed
  again = part_table local.rule local.accepting t.entries t.targets targets.labels

  again_right : IsAnswerTo (pattern_structure system) f (OfTable (listed_table again))
  again_right = labels.right again (record { targets = t.targets; entries = t.entries; labels = targets.labels; right = targets.right; is = refl })

  -- a tuple of terms is accepted by both or by none
  accepts_same : (u : Tuple) → IsTuple t.signature t.columns u → IsFull u → accepts (listed_table t) u ≡ accepts (listed_table again) u
  accepts_same u h full =
      let up = AllPairs-from_increasing (columns_of f) (AreColumns-columns_of f).ascending in
      let grounded = subst (λ (s : Signature). AreGroundColumns s u) right.answers.over.signature h.grounded in
      let v = assigned system.signature (columns_of f) u constant (λ i j l m. up i j 0 l m) (h.width ∙ right.answers.over.columns_are) full grounded in
      let one = right.answers.truth v.places v.grounded in
      let two = again_right.truth v.places v.grounded in
      subst (λ (x : Tuple). accepts (listed_table t) x ≡ accepts (listed_table again) x) v.is
      (one_decided (accepts (listed_table t) (tuple_of v.places (columns_of f))) (accepts (listed_table again) (tuple_of v.places (columns_of f))) (IsMetBy (pattern_structure system) f v.places) one two)

  not_full : (b : Bool) (P : Type 0) → (b ≡ true → P) → (P → ⊥) → b ≡ false
  not_full true P h other = absurd (other (h refl))
  not_full false P h other = refl

  final_same : (q : ℕ) → q < length t.presences → get_or t.finals q false ≡ get_or again.finals q false
  final_same q l =
      let u = is.reached q l in
      let s = table_state (listed_table t) is.table u.0 u.1 in
      let l' : q < length again.presences = omega (arith, ap (λ (ps : List ℕ). length ps) targets.presences_are) in
      let same : get_or again.presences q 0 ≡ get_or t.presences q 0 = ap (λ ps. get_or ps q 0) targets.presences_are in
      ⊎_elim
      (λ (e : get_or t.presences q 0 ≡ full_presence t.columns).
      let tells : presence u.0 ≡ full_presence (length u.0) = sym s.presence_is ∙ (ap (λ i. get_or t.presences i 0) u.2 ∙ (e ∙ ap full_presence (sym u.1.width))) in
      let full : IsFull u.0 = full_from_presence u.0 tells in
      ap (λ i. get_or t.finals i false) (sym u.2) ∙ (accepts_same u.0 u.1 full ∙ ap (λ i. get_or again.finals i false) u.2))
      (λ other.
      not_full (get_or t.finals q false) (get_or t.presences q 0 ≡ full_presence t.columns) (is.table.full q l) other
      ∙ sym (not_full (get_or again.finals q false) (get_or t.presences q 0 ≡ full_presence t.columns)
      (λ h. sym same ∙ (again_right.over.lawful.full q l' h ∙ ap full_presence (sym over_columns))) other))
      (cases_eq (get_or t.presences q 0) (full_presence t.columns))

  -- Result
  pub right_targets_of : HasRightTargets local.rule local.accepting t
  right_targets_of =
      let length_again : length again.finals ≡ length t.finals =
      length-map targets.labels _ ∙ (sym (length-map targets.labels _) ∙ (ap (λ (ps : List ℕ). length ps) targets.presences_are ∙ sym count)) in
      let finals : again.finals ≡ t.finals =
      ext_get_or false again.finals t.finals length_again (λ q l. sym (final_same q (omega (arith, length_again, count)))) in
      record {
        labels = targets.labels;
        right = targets.right;
        once = targets.once;
        again = λ i. record {
          signature = sym over_signature i;
          columns = sym over_columns i;
          presences = targets.presences_are i;
          entries = t.entries;
          targets = t.targets;
          finals = finals i;
        };
      }
