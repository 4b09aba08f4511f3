-- What the labels of a tuple's children say of the states that may stand there, and of how many terms give them.
use Rattle.std.proofs.Common.{◌≡◌, ℕ, ◌+◌, ◌-◌, ◌*◌, ◌<◌, ◌≤◌, ◌↔◌, max, List, [], length, None, get_or, Bool, true, false, eq-eqb, inl, inr, ⊎_elim, refl, ap, sym, ◌∙◌, arith, subst}
use Rattle.std.proofs.lemmas.Bool.{cases_lt, cases_Bool, eqb-true, lt-ltb, le-ltb}
use Rattle.std.specs.List.{insert}
use Rattle.fort_tables.specs.Tuples.{Tuple, all_absent, kid, kid_count, presence}
use Rattle.fort_tables.specs.Tables.{Table, IsTable, IsReached, state_of}
use Rattle.fort_tables.specs.Labels.{Labelling}
use Rattle.fort_tables.specs.BitRows.{words_for}
use Rattle.fort_tables.proofs.InsertLaws.{kid-past}
use Rattle.fort_tables.specs.Projections.{absent_state, has_state, is_pure, may_stand, Gives}
use Rattle.fort_tables.proofs.PureLaws.{gives_pure}
use Rattle.fort_tables.proofs.ProjectLabels.{kid_words, length-kid_words, get_or-kid_words, may_in_set, may_past, may_absent}
use Rattle.fort_tables.specs.PureStates.{CompletesTo}
use Rattle.fort_tables.specs.Heights.{HasEveryHeight, HasHeightsTo}
use Rattle.fort_tables.specs.ManyLabels.{has_many, kid_has_many}
use Rattle.fort_tables.proofs.TellsLaws.{FindsMany}
use Rattle.fort_tables.proofs.PureStateLaws.{pure_from_term}
use Rattle.fort_tables.proofs.PureSearchLaws.{pure_from_test, test_from_pure}

-- what a label says of the terms that there are, whatever tells which are infinitely many
pub record TellsGiven (body : Table) (c : ℕ) (t : Tuple) (w : List ℕ) : Type 0 where
  pub width : length w ≡ words_for (2 * length body.presences) + 2
  pub first : get_or w 0 0 ≡ presence t
  pub absent : absent_state w ≡ state_of body (insert t c None)
  pub given : (q : ℕ) → q < length body.presences → (has_state w q ≡ true) ↔ Gives body c t q

abbrev pub TellsKids : Table → ℕ → Labelling → Tuple → Type 0
TellsKids body c label t = (j : ℕ) → j < kid_count t → TellsGiven body c (kid t j) (label (kid t j))

-- what a label says, with the terms and the bounds at hand
pub record FindsTerms (body : Table) (c : ℕ) (t : Tuple) (w : List ℕ) : Type 0 where
  pub width : length w ≡ words_for (2 * length body.presences) + 2
  pub first : get_or w 0 0 ≡ presence t
  pub absent : absent_state w ≡ state_of body (insert t c None)
  pub given : (q : ℕ) → q < length body.presences → (has_state w q ≡ true) ↔ Gives body c t q
  pub every : (q : ℕ) → q < length body.presences → has_many (length body.presences) w q ≡ true → HasEveryHeight (CompletesTo body c t q)
  pub bound : (q : ℕ) → q < length body.presences → has_many (length body.presences) w q ≡ false → (r : ℕ) × HasHeightsTo (CompletesTo body c t q) r

-- what is known of a tuple's children
abbrev pub FindsKids : Table → ℕ → Labelling → Tuple → Type 0
FindsKids body c label t = (j : ℕ) → j < kid_count t → FindsTerms body c (kid t j) (label (kid t j))

pub told_kids : (body : Table) (c : ℕ) (label : Labelling) (t : Tuple) → FindsKids body c label t → TellsKids body c label t
told_kids body c label t known j l = let k = known j l in record { width = k.width; first = k.first; absent = k.absent; given = k.given }

-- a state that may stand as a child, in terms of the tuple
pub record MayStand (body : Table) (c a : ℕ) (t : Tuple) (j k : ℕ) : Type 0 where
  pub given : j < a → Gives body c (kid t j) k
  pub absent : j < kid_count t → a ≤ j → k ≡ state_of body (insert (kid t j) c None)

alone_past : (body : Table) (t : Tuple) (j : ℕ) → length t ≡ body.columns - 1 → kid_count t ≤ j → kid t j ≡ all_absent (body.columns - 1)
alone_past body t j len l = kid-past t j l ∙ ap all_absent len

pub may_exact : (body : Table) (c : ℕ) (label : Labelling) → IsTable body → IsReached body → c < body.columns → (t : Tuple) → length t ≡ body.columns - 1 → TellsKids body c label t
    → (a j k : ℕ) → j < max a (kid_count t) → k < length body.presences → (may_stand body c a (kid_words label t) j k ≡ true) ↔ MayStand body c a t j k
may_exact body c label is reached low t len known a j k within small =
    let ws = kid_words label t in
    let lw = length-kid_words label t in
    ⊎_elim
    (λ (h : j < a). ⊎_elim
    (λ (l : j < kid_count t).
    let e = may_in_set body c a ws j k h (omega arith) ∙ ap (λ w. has_state w k) (get_or-kid_words label t j l) in
    let p = (known j l).given k small in (
      (λ y. record { given = λ _. p.0 (sym e ∙ y); absent = λ _ m. absurd (omega arith) }),
      (λ y. e ∙ p.1 (y.given h)),
    ))
    (λ (l : kid_count t ≤ j).
    let e = may_past body c a ws j k h (omega arith) in
    let alone = alone_past body t j len l in
    let p = gives_pure body c is reached low k in (
      (λ y.
          let pure = pure_from_test body c k small (sym e ∙ y) in
          record { given = λ _. subst (λ (s : Tuple). Gives body c s k) (sym alone) (p.1 (pure.within, pure.alone)); absent = λ _ m. absurd (omega arith) }),
      (λ y.
          let z = p.0 (subst (λ (s : Tuple). Gives body c s k) alone (y.given h)) in
          e ∙ test_from_pure body c k (record { within = z.0; alone = z.1 })),
    ))
    (cases_lt j (kid_count t)))
    (λ (h : a ≤ j).
    let l : j < kid_count t = omega arith in
    let e = may_absent body c a ws j k h in
    let at : absent_state (get_or ws j []) ≡ state_of body (insert (kid t j) c None) = ap absent_state (get_or-kid_words label t j l) ∙ (known j l).absent in (
      (λ y. record { given = λ m. absurd (omega arith); absent = λ _ _. sym (eqb-true (absent_state (get_or ws j [])) k (sym e ∙ y)) ∙ at }),
      (λ y. e ∙ eq-eqb (absent_state (get_or ws j [])) k (at ∙ sym (y.absent l h))),
    ))
    (cases_lt j a)

pub many_at : (body : Table) (many : ℕ → Bool) (ws : List (List ℕ)) (j k : ℕ) → j < length ws → kid_has_many body many ws j k ≡ has_many (length body.presences) (get_or ws j []) k
many_at body many ws j k l = rw (lt-ltb j (length ws) l) refl

pub many_past : (body : Table) (many : ℕ → Bool) (ws : List (List ℕ)) (j k : ℕ) → length ws ≤ j → kid_has_many body many ws j k ≡ many k
many_past body many ws j k l = rw (le-ltb j (length ws) l) refl

-- infinitely many terms give a child's state: there are terms of every height
pub kid_every : (body : Table) (c : ℕ) (many : ℕ → Bool) (label : Labelling) → FindsMany body c many → (t : Tuple) → length t ≡ body.columns - 1 → FindsKids body c label t
    → (a j k : ℕ) → j < a → k < length body.presences → may_stand body c a (kid_words label t) j k ≡ true → kid_has_many body many (kid_words label t) j k ≡ true → HasEveryHeight (CompletesTo body c (kid t j) k)
kid_every body c many label finds t len known a j k h small may e =
    let ws = kid_words label t in
    let lw = length-kid_words label t in
    let m = length body.presences in
    ⊎_elim
    (λ (l : j < kid_count t). (known j l).every k small (ap (λ w. has_many m w k) (sym (get_or-kid_words label t j l)) ∙ (sym (many_at body many ws j k (omega arith)) ∙ e)))
    (λ (l : kid_count t ≤ j).
    subst (λ (s : Tuple). HasEveryHeight (CompletesTo body c s k)) (sym (alone_past body t j len l))
    (finds.every k (pure_from_test body c k small (sym (may_past body c a ws j k h (omega arith)) ∙ may)) (sym (many_past body many ws j k (omega arith)) ∙ e)))
    (cases_lt j (kid_count t))

-- where that isn't so, there is a bound
pub kid_bound : (body : Table) (c : ℕ) (many : ℕ → Bool) (label : Labelling) → IsTable body → c < body.columns → FindsMany body c many → (t : Tuple) → length t ≡ body.columns - 1 → FindsKids body c label t
    → (j k : ℕ) → k < length body.presences → kid_has_many body many (kid_words label t) j k ≡ false → (r : ℕ) × HasHeightsTo (CompletesTo body c (kid t j) k) r
kid_bound body c many label is low finds t len known j k small e =
    let ws = kid_words label t in
    let lw = length-kid_words label t in
    let m = length body.presences in
    ⊎_elim
    (λ (l : j < kid_count t). (known j l).bound k small (ap (λ w. has_many m w k) (sym (get_or-kid_words label t j l)) ∙ (sym (many_at body many ws j k (omega arith)) ∙ e)))
    (λ (l : kid_count t ≤ j).
    subst (λ (s : Tuple). (r : ℕ) × HasHeightsTo (CompletesTo body c s k) r) (sym (alone_past body t j len l))
    (elim (cases_Bool (is_pure body c k)) [
      | inl y ↦ finds.bound k (pure_from_test body c k small y) (sym (many_past body many ws j k (omega arith)) ∙ e)
      | inr n ↦ (0, λ u h. absurd (let y : true ≡ false = sym (test_from_pure body c k (pure_from_term body c k u is low h)) ∙ n in cc))
    ]))
    (cases_lt j (kid_count t))
