-- The label of a projection goes by the leaders of the body's states.
use Rattle.std.proofs.Common.{◌≡◌, ◌↔◌, ℕ, ◌-◌, ◌*◌, ◌<◌, List, ◌∷◌, length, Some, Bool, true, ap, sym, ◌∙◌, arith, subst}
use Rattle.std.specs.List.{insert}
use Rattle.fort_tables.specs.Tuples.{Tuple, TupleSymbol, root, kid, kid_count, presence, IsTuple, symbol_kids}
use Rattle.fort_tables.specs.Tables.{Table, IsTable, IsReached}
use Rattle.fort_tables.specs.LabelRules.{label_of}
use Rattle.fort_tables.specs.BitRows.{bit_row, words_for}
use Rattle.fort_tables.specs.Projections.{absent_state, has_state, gives, project_rule, Gives}
use Rattle.fort_tables.proofs.TupleLaws.{IsTuple-kid, kid_count_is}
use Rattle.fort_tables.proofs.BitRowLaws.{length-bit_row, bit_row_same}
use Rattle.fort_tables.proofs.SearchLaws.{same_truth}
use Rattle.fort_tables.proofs.LabelRuleLaws.{label_of-step}
use Rattle.fort_tables.proofs.ProjectLabels.{kid_words, has_state-below, label_exact}
use Rattle.fort_classes.specs.Leaders.{Leaders}
use Rattle.fort_classes.specs.Keys.{GoesByEachKey}
use Rattle.fort_operand_keys.specs.TableLeaders.{IsLedBy}
use Rattle.fort_operand_keys.specs.ProjectionKeys.{some_led, leader_row, projection_key}
use Rattle.fort_operand_keys.proofs.ChoiceLaws.{HaveOneKey, gives_kept, absent_kept}
use Rattle.fort_operand_keys.proofs.SaidStates.{SaysStates, SaysAll, alike_but, differ_back, key_parts, one_key}

-- what the symbol g in the column asks of the states of the set
abbrev given_row : Table → ℕ → Leaders → TupleSymbol → ℕ → ℕ → List ℕ → List ℕ
given_row body c lead f j g w = leader_row (length body.presences) (lead (insert f c (Some g)) j) (has_state w)

-- equal keys ask one thing of two tuples
equal_keys : (body : Table) (c : ℕ) (lead : Leaders) (f : TupleSymbol) (j : ℕ) (x y : Tuple) (v w : List ℕ) → SaysStates body c x v → SaysStates body c y w
    → projection_key body c lead f j v ≡ projection_key body c lead f j w → HaveOneKey body c lead f j x y
equal_keys body c lead f j x y v w sx sy same =
    let n = length body.presences in
    let bits : List ℕ → ℕ → ℕ → Bool = λ z g. some_led n (lead (insert f c (Some g)) j) (has_state z) in
    let parts = key_parts body c lead f j (given_row body c lead f j) v w (λ g. length-bit_row n (bits v g) ∙ sym (length-bit_row n (bits w g))) same in
    one_key body c lead f j (given_row body c lead f j) x y v w sx sy parts parts.row

module _ (body : Table) (c : ℕ) (lead : Leaders) (is : IsTable body) (reached : IsReached body) (low : c < body.columns) (led : IsLedBy body lead) where
  says_all : SaysAll body c (label_of (project_rule body c))
  says_all t h = let x = label_exact body c is reached low t h in record { absent = x.absent; given = λ q l. x.given q }

  -- a bit of the label
  bit_is : (t : Tuple) (q : ℕ) → IsTuple body.signature (body.columns - 1) t → q < 64 * words_for (length body.presences)
      → (gives body c (root t) (kid_words (label_of (project_rule body c)) t) q ≡ true) ↔ Gives body c t q
  bit_is t q h l =
      let label = label_of (project_rule body c) in
      let p = gives body c (root t) (kid_words label t) in
      let x = (label_exact body c is reached low t h).given q in
      let e : has_state (label t) q ≡ p q = ap (λ w. has_state w q) (label_of-step (project_rule body c) t) ∙ has_state-below _ _ (length body.presences) p q l in (
        (λ b. x.0 (e ∙ b)),
        (λ y. sym e ∙ x.1 y),
      )

  -- Result: the label of a projection goes by its key
  pub GoesByEachKey-projection : GoesByEachKey body.signature (body.columns - 1) (label_of (project_rule body c)) (projection_key body c lead)
  GoesByEachKey-projection t u j h k l differ keys =
      let sig = body.signature in
      let rule = project_rule body c in
      let label = label_of rule in
      let counts : kid_count t ≡ kid_count u = kid_count_is sig t h.grounded ∙ (ap (symbol_kids sig) differ.root_is ∙ sym (kid_count_is sig u k.grounded)) in
      let l' : j < kid_count u = omega arith in
      let there = alike_but body c label is low says_all t u j h k l differ in
      let back = alike_but body c label is low says_all u t j k h l' (differ_back label t u j counts differ) in
      let sx = says_all (kid t j) (IsTuple-kid sig (body.columns - 1) t j h l) in
      let sy = says_all (kid u j) (IsTuple-kid sig (body.columns - 1) u j k l') in
      let key = equal_keys body c lead (root t) j (kid t j) (kid u j) (label (kid t j)) (label (kid u j)) sx sy keys in
      let key' = equal_keys body c lead (root u) j (kid u j) (kid t j) (label (kid u j)) (label (kid t j)) sy sx (subst (λ (f : TupleSymbol). projection_key body c lead f j (label (kid u j)) ≡ projection_key body c lead f j (label (kid t j))) differ.root_is (sym keys)) in
      let p = gives body c (root t) (kid_words label t) in
      let r = gives body c (root u) (kid_words label u) in
      let a : presence (root t) ≡ presence (root u) = ap presence differ.root_is in
      let b = sym (ap absent_state (label_of-step rule t)) ∙ ((says_all t h).absent ∙ (absent_kept body c is low t u j there lead led key ∙ (sym (says_all u k).absent ∙ ap absent_state (label_of-step rule u)))) in
      let bits : bit_row (length body.presences) p ≡ bit_row (length body.presences) r = bit_row_same (length body.presences) p r
      (λ q o. same_truth (p q) (r q)
      (λ e. (bit_is u q k o).1 (gives_kept body c is low t u j there lead led key q ((bit_is t q h o).0 e)))
      (λ e. (bit_is t q h o).1 (gives_kept body c is low u t j back lead led key' q ((bit_is u q k o).0 e)))) in
      label_of-step rule t ∙ ((λ z. a z ∷ b z ∷ bits z) ∙ sym (label_of-step rule u))
