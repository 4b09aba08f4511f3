-- Two tuples have one label of "infinitely many" exactly where they agree at it, by when they agree at the body.
use Rattle.std.proofs.Common.{◌≡◌, ◌↔◌, ℕ, ◌+◌, ◌-◌, ◌*◌, ◌<◌, ◌≤◌, List, [], ◌∷◌, length, map, None, Some, get_or, Bool, true, false, inl, inr, ⊎_elim, refl, ap, sym, ◌∙◌, arith}
use Rattle.std.proofs.lemmas.Bool.{cases_Bool, cases_lt}
use Rattle.std.specs.List.{insert}
use Rattle.fort_theory.specs.Logic.{HasInfinitelyMany}
use Rattle.fort_theory.specs.Trees.{Tree}
use Rattle.fort_theory.specs.Signatures.{IsGround}
use Rattle.fort_tables.specs.Tuples.{Tuple, root, presence, IsTuple}
use Rattle.fort_tables.specs.Entries.{entry}
use Rattle.fort_tables.specs.Tables.{Table, IsTable, IsReached, state_of}
use Rattle.fort_tables.specs.LabelRules.{label_of}
use Rattle.fort_tables.specs.BitRows.{bit_row, words_for}
use Rattle.fort_tables.proofs.LabelRuleLaws.{label_of-step}
use Rattle.fort_tables.proofs.BitRowLaws.{bit_row_same}
use Rattle.fort_tables.specs.Projections.{absent_state, has_state, Gives}
use Rattle.fort_tables.specs.Agreement.{Agreement, HaveOneState, TellsAgreement, IsMatched}
use Rattle.fort_tables.proofs.SearchLaws.{same_truth}
use Rattle.fort_tables.proofs.CompletedTuples.{IsTuple-completed, IsTuple-absent, completed_small}
use Rattle.fort_tables.proofs.ProjectLabels.{kid_words, has_state-below}
use Rattle.fort_tables.specs.PureStates.{CompletesTo}
use Rattle.fort_tables.specs.ManyLabels.{TellsMany, has_many, gives_many, many_bit, many_rule}
use Rattle.fort_tables.specs.ManyAgreement.{HasManyLike, AgreeAtMany}
use Rattle.fort_tables.proofs.ManyTruth.{many_weaker}
use Rattle.fort_tables.proofs.ManyLabelLaws.{label_exact, many_bit-second, gives_many-small}

module _ (body : Table) (c : ℕ) (many : ℕ → Bool) (agree : Agreement) (is : IsTable body) (reached : IsReached body) (low : c < body.columns) (tells_many : TellsMany body c many) (tells : TellsAgreement body agree) where
  abbrev label : Tuple → List ℕ
  label t = label_of (many_rule body c many) t

  abbrev Own : Tuple → Type 0
  Own t = IsTuple body.signature (body.columns - 1) t

  says : (t u : Tuple) → Own t → Own u → (x y : Tree) → IsGround body.signature x → IsGround body.signature y
      → (state_of body (insert t c (Some x)) ≡ state_of body (insert u c (Some y))) ↔ agree (insert t c (Some x)) (insert u c (Some y))
  says t u h k x y g d = tells (insert t c (Some x)) (insert u c (Some y)) (IsTuple-completed body c t x low g h.width h.grounded) (IsTuple-completed body c u y low d k.width k.grounded)

  small : (t : Tuple) → Own t → (x : Tree) → IsGround body.signature x → state_of body (insert t c (Some x)) < length body.presences
  small t h x g = completed_small body c t x is low g h.width h.grounded

  matched : (t u : Tuple) → Own t → Own u → label t ≡ label u → IsMatched body.signature c agree t u
  matched t u h k e x g =
      let q = state_of body (insert t c (Some x)) in
      let b = ((label_exact body c many is reached low tells_many t h).given q (small t h x g)).1 (x, g, refl) in
      let y = ((label_exact body c many is reached low tells_many u k).given q (small t h x g)).0 (ap (λ w. has_state w q) (sym e) ∙ b) in
      (y.0, y.1, (says t u h k x y.0 g y.1).0 (sym y.2))

  -- infinitely many terms agree with a completion exactly where infinitely many give its state
  like_from_state : (t : Tuple) → Own t → (x : Tree) → IsGround body.signature x → HasInfinitelyMany (CompletesTo body c t (state_of body (insert t c (Some x)))) → HasManyLike body.signature c agree t x
  like_from_state t h x g = many_weaker _ _ (λ v a. (a.0, (says t t h h v x a.0 g).0 a.1))

  state_from_like : (t : Tuple) → Own t → (x : Tree) → IsGround body.signature x → HasManyLike body.signature c agree t x → HasInfinitelyMany (CompletesTo body c t (state_of body (insert t c (Some x))))
  state_from_like t h x g = many_weaker _ _ (λ v a. (a.0, (says t t h h v x a.0 g).1 a.1))

  moved_state : (t : Tuple) (q k : ℕ) → q ≡ k → HasInfinitelyMany (CompletesTo body c t q) → HasInfinitelyMany (CompletesTo body c t k)
  moved_state t q k e = many_weaker _ _ (λ v a. (a.0, a.1 ∙ e))

  like_too : (t u : Tuple) → Own t → Own u → label t ≡ label u → (x y : Tree) → IsGround body.signature x → IsGround body.signature y → agree (insert t c (Some x)) (insert u c (Some y)) → HasManyLike body.signature c agree t x → HasManyLike body.signature c agree u y
  like_too t u h k e x y g d a like =
      let m = length body.presences in
      let q = state_of body (insert t c (Some x)) in
      let same = (says t u h k x y g d).1 a in
      let bit = ((label_exact body c many is reached low tells_many t h).many q (small t h x g)).1 (state_from_like t h x g like) in
      let there = ((label_exact body c many is reached low tells_many u k).many q (small t h x g)).0 (ap (λ w. has_many m w q) (sym e) ∙ bit) in
      like_from_state u k y d (moved_state u q _ same there)

  agree_from_labels : (t u : Tuple) → Own t → Own u → label t ≡ label u → AgreeAtMany body.signature c agree t u
  agree_from_labels t u h k e =
      let a = label_exact body c many is reached low tells_many t h in
      let b = label_exact body c many is reached low tells_many u k in
      let absent = tells (insert t c None) (insert u c None) (IsTuple-absent body c t low h) (IsTuple-absent body c u low k) in
      record {
        some = record {
          present = sym a.first ∙ (ap (λ w. get_or w 0 0) e ∙ b.first);
          absent = absent.0 (sym a.absent ∙ (ap absent_state e ∙ b.absent));
          forth = matched t u h k e;
          back = matched u t k h (sym e);
        };
        many = λ x y g d z. (
          like_too t u h k e x y g d z,
          like_too u t k h (sym e) y x d g ((says u t k h y x d g).0 (sym ((says t u h k x y g d).1 z))),
        );
      }

  -- bit by bit
  given_too : (t u : Tuple) → Own t → Own u → IsMatched body.signature c agree t u → (q : ℕ) → Gives body c t q → Gives body c u q
  given_too t u h k m q w =
      let y = m w.0 w.1 in
      (y.0, y.1, sym ((says t u h k w.0 y.0 w.1 y.1).1 y.2) ∙ w.2)

  first_too : (t u : Tuple) → Own t → Own u → IsMatched body.signature c agree t u → (q : ℕ) → q < length body.presences → has_state (label t) q ≡ true → has_state (label u) q ≡ true
  first_too t u h k m q l e =
      ((label_exact body c many is reached low tells_many u k).given q l).1 (given_too t u h k m q (((label_exact body c many is reached low tells_many t h).given q l).0 e))

  -- a state that infinitely many terms give has some term, up to double negation; the bit decides
  second_too : (t u : Tuple) → Own t → Own u → IsMatched body.signature c agree t u
      → ((x y : Tree) → IsGround body.signature x → IsGround body.signature y → agree (insert t c (Some x)) (insert u c (Some y)) → HasManyLike body.signature c agree t x → HasManyLike body.signature c agree u y)
      → (q : ℕ) → q < length body.presences → has_many (length body.presences) (label t) q ≡ true → has_many (length body.presences) (label u) q ≡ true
  second_too t u h k m like q l e =
      let there = ((label_exact body c many is reached low tells_many t h).many q l).0 e in
      let now : (x : Tree) → CompletesTo body c t q x → HasInfinitelyMany (CompletesTo body c u q) = λ x a.
      let y = m x a.0 in
      let same = (says t u h k x y.0 a.0 y.1).1 y.2 in
      let from = like x y.0 a.0 y.1 y.2 (like_from_state t h x a.0 (moved_state t q _ (sym a.1) there)) in
      moved_state u _ q (sym same ∙ a.1) (state_from_like u k y.0 y.1 from) in
      elim (cases_Bool (has_many (length body.presences) (label u) q)) [
        | inl y ↦ y
        | inr n ↦ absurd (there [] (λ x a.
            let z : true ≡ false = sym (((label_exact body c many is reached low tells_many u k).many q l).1 (now x a.1)) ∙ n in absurd cc))
      ]

  abbrev bits : Tuple → ℕ → Bool
  bits t = many_bit body c many (root t) (kid_words label t)

  abbrev second : Tuple → ℕ
  second t = body.target (entry (insert (root t) c None) (map absent_state (kid_words label t)))

  label_is : (t : Tuple) → label t ≡ presence (root t) ∷ second t ∷ bit_row (2 * length body.presences) (bits t)
  label_is t = label_of-step (many_rule body c many) t

  bit_is : (t : Tuple) (i : ℕ) → i < 64 * words_for (2 * length body.presences) → has_state (label t) i ≡ bits t i
  bit_is t i l = ap (λ w. has_state w i) (label_is t) ∙ has_state-below (presence (root t)) (second t) (2 * length body.presences) (bits t) i l

  bit_too : (t u : Tuple) → Own t → Own u → IsMatched body.signature c agree t u
      → ((x y : Tree) → IsGround body.signature x → IsGround body.signature y → agree (insert t c (Some x)) (insert u c (Some y)) → HasManyLike body.signature c agree t x → HasManyLike body.signature c agree u y)
      → (i : ℕ) → i < 64 * words_for (2 * length body.presences) → bits t i ≡ true → bits u i ≡ true
  bit_too t u h k m like i l e =
      let n = length body.presences in
      ⊎_elim
      (λ (b : i < n). sym (bit_is u i l) ∙ first_too t u h k m i b (bit_is t i l ∙ e))
      (λ (b : n ≤ i).
      let q = i - n in
      let at : n + q ≡ i = omega arith in
      let found : gives_many body c many (root t) (kid_words label t) q ≡ true = sym (many_bit-second body c many (root t) (kid_words label t) q) ∙ (ap (bits t) at ∙ e) in
      let below = gives_many-small body c many is reached low tells_many t h q found in
      let there : has_many n (label t) q ≡ true = ap (has_state (label t)) at ∙ (bit_is t i l ∙ e) in
      sym (bit_is u i l) ∙ (ap (has_state (label u)) (sym at) ∙ second_too t u h k m like q below there))
      (cases_lt i n)

  labels_from_agree : (t u : Tuple) → Own t → Own u → AgreeAtMany body.signature c agree t u → label t ≡ label u
  labels_from_agree t u h k y =
      let a = label_exact body c many is reached low tells_many t h in
      let b = label_exact body c many is reached low tells_many u k in
      let absent = tells (insert t c None) (insert u c None) (IsTuple-absent body c t low h) (IsTuple-absent body c u low k) in
      let f : presence (root t) ≡ presence (root u) = sym (ap (λ w. get_or w 0 0) (label_is t)) ∙ (a.first ∙ (y.some.present ∙ (sym b.first ∙ ap (λ w. get_or w 0 0) (label_is u)))) in
      let s : second t ≡ second u = sym (ap absent_state (label_is t)) ∙ (a.absent ∙ (absent.1 y.some.absent ∙ (sym b.absent ∙ ap absent_state (label_is u)))) in
      let r : bit_row (2 * length body.presences) (bits t) ≡ bit_row (2 * length body.presences) (bits u) =
      bit_row_same (2 * length body.presences) (bits t) (bits u) (λ i l. same_truth (bits t i) (bits u i)
      (bit_too t u h k y.some.forth (λ x z g d o. (y.many x z g d o).0) i l)
      (bit_too u t k h y.some.back (λ x z g d o. (y.many z x d g ((says t u h k z x d g).0 (sym ((says u t k h x z g d).1 o)))).1) i l)) in
      label_is t ∙ ((λ i. f i ∷ s i ∷ r i) ∙ sym (label_is u))

-- Result: the labels are equal exactly where the tuples agree at "infinitely many", by when they agree at the body
pub many_alike : (body : Table) (c : ℕ) (many : ℕ → Bool) (agree : Agreement) → IsTable body → IsReached body → c < body.columns → TellsMany body c many → TellsAgreement body agree
    → (t u : Tuple) → IsTuple body.signature (body.columns - 1) t → IsTuple body.signature (body.columns - 1) u
    → (label_of (many_rule body c many) t ≡ label_of (many_rule body c many) u) ↔ AgreeAtMany body.signature c agree t u
many_alike body c many agree is reached low tells_many tells t u h k =
    (agree_from_labels body c many agree is reached low tells_many tells t u h k, labels_from_agree body c many agree is reached low tells_many tells t u h k)

-- Result: the same by the body's states
pub many_by_states : (body : Table) (c : ℕ) (many : ℕ → Bool) → IsTable body → IsReached body → c < body.columns → TellsMany body c many
    → (t u : Tuple) → IsTuple body.signature (body.columns - 1) t → IsTuple body.signature (body.columns - 1) u
    → (label_of (many_rule body c many) t ≡ label_of (many_rule body c many) u) ↔ AgreeAtMany body.signature c (HaveOneState body) t u
many_by_states body c many is reached low tells_many = many_alike body c many (HaveOneState body) is reached low tells_many (λ t u h k. ((λ e. e), (λ e. e)))
