-- The label of a projection: the presence, the body's state with the column absent, and the states that the column's terms give.
use Rattle.std.proofs.Common.{◌≡◌, ◌↔◌, ℕ, ◌+◌, ◌-◌, ◌*◌, ◌^◌, ◌<◌, ◌≤◌, max, List, [], ◌∷◌, map, length, None, Some, get_or, Bool, true, false, ◌==◌, eq-eqb, ⊎_elim, refl, ap, sym, ◌∙◌, arith, subst}
use Rattle.std.proofs.lemmas.Bool.{cases_lt, eqb-true, lt-ltb, le-ltb}
use Rattle.std.proofs.lemmas.List.{length-map, get_or-map, ext_get_or}
use Rattle.std.specs.List.{insert}
use Rattle.fort_tables.specs.Tuples.{Tuple, TupleSymbol, tabulate, all_absent, root, kid, kids, kid_count, presence, IsTuple, arity}
use Rattle.fort_tables.specs.Entries.{entry}
use Rattle.fort_tables.specs.Tables.{Table, IsTable, IsReached, state_of}
use Rattle.fort_tables.specs.Labels.{Labelling}
use Rattle.fort_tables.specs.LabelRules.{label_of}
use Rattle.fort_tables.specs.BitRows.{has_bit, bit_row, words_for}
use Rattle.fort_tables.proofs.TupleLaws.{tuple_induction, length-tabulate, get_or-tabulate, IsTuple-kid, kid_ground, length-kid}
use Rattle.fort_tables.proofs.TableLaws.{presence_root}
use Rattle.fort_tables.proofs.LabelRuleLaws.{label_of-step}
use Rattle.fort_tables.proofs.BitRowLaws.{has_bit-later, has_bit-bit_row, has_bit-bit_row_past, length-bit_row, words_enough}
use Rattle.fort_tables.proofs.InsertLaws.{kid-past}
use Rattle.fort_tables.specs.Projections.{absent_state, has_state, is_pure, may_stand, gives_under, gives, project_rule, Gives, IsProjected}
use Rattle.fort_tables.proofs.SearchLaws.{found_below, below_found, found_choice, choice_found, options_from_zero, options_at_zero}
use Rattle.fort_tables.proofs.CompletedTuples.{completed_small, absent_small, state-absent}
use Rattle.fort_tables.proofs.GivenLaws.{made_from_given, given_from_made}
use Rattle.fort_tables.proofs.PureLaws.{gives_pure}

-- the labels of the children
abbrev pub kid_words : Labelling → Tuple → List (List ℕ)
kid_words label t = map label (kids t)

pub length-kid_words : (label : Labelling) (t : Tuple) → length (kid_words label t) ≡ kid_count t
length-kid_words label t = length-map (kids t) label ∙ length-tabulate (kid_count t) (kid t)

pub get_or-kid_words : (label : Labelling) (t : Tuple) (j : ℕ) → j < kid_count t → get_or (kid_words label t) j [] ≡ label (kid t j)
get_or-kid_words label t j l = get_or-map label (kids t) j [] [] (omega (arith, length-tabulate (kid_count t) (kid t))) ∙ ap label (get_or-tabulate (kid_count t) (kid t) j [] l)

-- the set in a label
pub has_state-row : (a b n : ℕ) (p : ℕ → Bool) (q : ℕ) → has_state (a ∷ b ∷ bit_row n p) q ≡ has_bit (bit_row n p) q
has_state-row a b n p q =
    let e : 128 + q ≡ 64 + (64 + q) = omega arith in
    ap (has_bit (a ∷ b ∷ bit_row n p)) e ∙ (has_bit-later a (b ∷ bit_row n p) (64 + q) ∙ has_bit-later b (bit_row n p) q)

pub has_state-below : (a b n : ℕ) (p : ℕ → Bool) (q : ℕ) → q < 64 * words_for n → has_state (a ∷ b ∷ bit_row n p) q ≡ p q
has_state-below a b n p q l = has_state-row a b n p q ∙ has_bit-bit_row n p q l

state_later : (a b n : ℕ) (p : ℕ → Bool) (q : ℕ) → has_state (a ∷ b ∷ bit_row n p) q ≡ true → p q ≡ true
state_later a b n p q h = ⊎_elim
    (λ (l : q < 64 * words_for n). sym (has_state-below a b n p q l) ∙ h)
    (λ (l : 64 * words_for n ≤ q). let x : true ≡ false = sym h ∙ (has_state-row a b n p q ∙ has_bit-bit_row_past n p q l) in absurd cc)
    (cases_lt q (64 * words_for n))

-- a state that may stand as a child
pub may_in_set : (body : Table) (c a : ℕ) (ws : List (List ℕ)) (j k : ℕ) → j < a → j < length ws → may_stand body c a ws j k ≡ has_state (get_or ws j []) k
may_in_set body c a ws j k h l = rw (lt-ltb j a h, lt-ltb j (length ws) l) refl

pub may_past : (body : Table) (c a : ℕ) (ws : List (List ℕ)) (j k : ℕ) → j < a → length ws ≤ j → may_stand body c a ws j k ≡ is_pure body c k
may_past body c a ws j k h l = rw (lt-ltb j a h, le-ltb j (length ws) l) refl

pub may_absent : (body : Table) (c a : ℕ) (ws : List (List ℕ)) (j k : ℕ) → a ≤ j → may_stand body c a ws j k ≡ (absent_state (get_or ws j []) == k)
may_absent body c a ws j k h = rw (le-ltb j a h) refl

-- the same in terms of the tuple
record MayStand (body : Table) (c a : ℕ) (t : Tuple) (j k : ℕ) : Type 0 where
  given : j < a → Gives body c (kid t j) k
  absent : j < kid_count t → a ≤ j → k ≡ state_of body (insert (kid t j) c None)

-- what is known of a tuple's children
abbrev AreKidsProjected : Table → ℕ → Tuple → Type 0
AreKidsProjected body c t = (j : ℕ) → j < kid_count t → IsProjected body c (kid t j) (label_of (project_rule body c) (kid t j))

may_exact : (body : Table) (c : ℕ) → IsTable body → IsReached body → c < body.columns → (t : Tuple) → length t ≡ body.columns - 1 → AreKidsProjected body c t
    → (a j k : ℕ) → j < max a (kid_count t) → k < length body.presences
    → (may_stand body c a (kid_words (label_of (project_rule body c)) t) j k ≡ true) ↔ MayStand body c a t j k
may_exact body c is reached low t len known a j k within small =
    let label = label_of (project_rule body c) in
    let ws = kid_words label t in
    let lw = length-kid_words label t in
    ⊎_elim
    (λ (h : j < a). ⊎_elim
    (λ (l : j < kid_count t).
    let e = may_in_set body c a ws j k h (omega arith) ∙ ap (λ w. has_state w k) (get_or-kid_words label t j l) in
    let p = (known j l).given k in (
      (λ y. record { given = λ _. p.0 (sym e ∙ y); absent = λ _ m. absurd (omega arith) }),
      (λ y. e ∙ p.1 (y.given h)),
    ))
    (λ (l : kid_count t ≤ j).
    let e = may_past body c a ws j k h (omega arith) in
    let alone : kid t j ≡ all_absent (body.columns - 1) = kid-past t j l ∙ ap all_absent len in
    let p = gives_pure body c is reached low k in (
      (λ y. record { given = λ _. subst (λ (s : Tuple). Gives body c s k) (sym alone) (p.1 (small, eqb-true (get_or body.presences k 0) (2 ^ c) (sym e ∙ y))); absent = λ _ m. absurd (omega arith) }),
      (λ y. e ∙ eq-eqb (get_or body.presences k 0) (2 ^ c) (p.0 (subst (λ (s : Tuple). Gives body c s k) alone (y.given h))).1),
    ))
    (cases_lt j (kid_count t)))
    (λ (h : a ≤ j).
    let l : j < kid_count t = omega arith in
    let e = may_absent body c a ws j k h in
    let at : absent_state (get_or ws j []) ≡ state_of body (insert (kid t j) c None) = ap absent_state (get_or-kid_words label t j l) ∙ (known j l).absent in (
      (λ y. record { given = λ m. absurd (omega arith); absent = λ _ _. sym (eqb-true (absent_state (get_or ws j [])) k (sym e ∙ y)) ∙ at }),
      (λ y. e ∙ eq-eqb (absent_state (get_or ws j [])) k (at ∙ sym (y.absent l h))),
    ))
    (cases_lt j a)

given_from_search : (body : Table) (c : ℕ) → IsTable body → IsReached body → c < body.columns → (t : Tuple) → length t ≡ body.columns - 1 → AreKidsProjected body c t
    → (q : ℕ) → gives body c (root t) (kid_words (label_of (project_rule body c)) t) q ≡ true → Gives body c t q
given_from_search body c is reached low t len known q y =
    let sig = body.signature in
    let label = label_of (project_rule body c) in
    let ws = kid_words label t in
    let lw = length-kid_words label t in
    let r = found_below (length sig) (gives_under body c (root t) ws q) y in
    let g = r.0 in
    let s = found_choice (length body.presences) (may_stand body c (arity sig g) ws) 0 (max (arity sig g) (length ws)) (λ ks. body.target (entry (insert (root t) c (Some g)) ks) == q) r.2 in
    let ks = s.0 in
    let o : (j : ℕ) → j < length ks → MayStand body c (arity sig g) t j (get_or ks j 0) =
    λ j l. let b = options_at_zero (length body.presences) (may_stand body c (arity sig g) ws) ks s.2 j l in (may_exact body c is reached low t len known (arity sig g) j (get_or ks j 0) (omega (arith, s.1)) b.0).0 b.1 in
    given_from_made body c t q (record {
      symbol = g;
      within = r.1;
      states = ks;
      choice = record {
        count = s.1 ∙ ap (max (arity sig g)) lw;
        given = λ j l. (o j (omega (arith, s.1))).given l;
        absent = λ j l m. (o j (omega (arith, s.1))).absent l m;
      };
      made = eqb-true (body.target (entry (insert (root t) c (Some g)) ks)) q s.3;
    })

search_from_given : (body : Table) (c : ℕ) → IsTable body → IsReached body → c < body.columns → (t : Tuple) → IsTuple body.signature (body.columns - 1) t → AreKidsProjected body c t
    → (q : ℕ) → Gives body c t q → gives body c (root t) (kid_words (label_of (project_rule body c)) t) q ≡ true
search_from_given body c is reached low t h known q y =
    let sig = body.signature in
    let label = label_of (project_rule body c) in
    let ws = kid_words label t in
    let lw = length-kid_words label t in
    let m = made_from_given body c t q y in
    let g = m.symbol in
    let ks = m.states in
    let small : (j : ℕ) → j < length ks → get_or ks j 0 < length body.presences = λ j l. ⊎_elim
    (λ (b : j < arity sig g). let w = m.choice.given j b in
    subst (λ (k : ℕ). k < length body.presences) w.2 (completed_small body c (kid t j) w.0 is low w.1 (length-kid t j ∙ h.width) (kid_ground sig t j h.grounded)))
    (λ (b : arity sig g ≤ j).
    let i : j < kid_count t = omega (arith, m.choice.count) in
    subst (λ (k : ℕ). k < length body.presences) (sym (m.choice.absent j i b)) (absent_small body c (kid t j) is low (IsTuple-kid sig (body.columns - 1) t j h i)))
    (cases_lt j (arity sig g)) in
    below_found (length sig) (gives_under body c (root t) ws q) g m.within
    (choice_found (length body.presences) (may_stand body c (arity sig g) ws) 0 (max (arity sig g) (length ws)) (λ ks. body.target (entry (insert (root t) c (Some g)) ks) == q) ks
    (m.choice.count ∙ ap (max (arity sig g)) (sym lw))
    (options_from_zero (length body.presences) (may_stand body c (arity sig g) ws) ks
    (λ j l. (small j l, (may_exact body c is reached low t h.width known (arity sig g) j (get_or ks j 0) (omega (arith, m.choice.count)) (small j l)).1 (record { given = λ b. m.choice.given j b; absent = λ i b. m.choice.absent j i b }))))
    (eq-eqb (body.target (entry (insert (root t) c (Some g)) ks)) q m.made))

-- the label of one tuple, from those of its children
step_exact : (body : Table) (c : ℕ) → IsTable body → IsReached body → c < body.columns → (t : Tuple) → IsTuple body.signature (body.columns - 1) t → AreKidsProjected body c t
    → IsProjected body c t ((project_rule body c).step (root t) (kid_words (label_of (project_rule body c)) t))
step_exact body c is reached low t h known =
    let label = label_of (project_rule body c) in
    let ws = kid_words label t in
    let lw = length-kid_words label t in
    let n = length body.presences in
    let p = gives body c (root t) ws in
    let f : ℕ → ℕ = λ j. state_of body (insert (kid t j) c None) in
    let states : map absent_state ws ≡ tabulate (kid_count t) f =
    ext_get_or 0 (map absent_state ws) (tabulate (kid_count t) f)
    (length-map ws absent_state ∙ (lw ∙ sym (length-tabulate (kid_count t) f)))
    (λ j l. let m : j < kid_count t = omega (arith, length-map ws absent_state, lw) in
    get_or-map absent_state ws j [] 0 (omega (arith, lw)) ∙ (ap absent_state (get_or-kid_words label t j m) ∙ ((known j m).absent ∙ sym (get_or-tabulate (kid_count t) f j 0 m)))) in
    let first = presence (root t) in
    let second = body.target (entry (insert (root t) c None) (map absent_state ws)) in
    record {
      width = omega (arith, length-bit_row n p);
      first = presence_root t;
      absent = ap (λ ks. body.target (entry (insert (root t) c None) ks)) states ∙ sym (state-absent body c t);
      given = λ q. (
        (λ y. given_from_search body c is reached low t h.width known q (state_later first second n p q y)),
        (λ y.
            let small : q < n = subst (λ (k : ℕ). k < n) y.2 (completed_small body c t y.0 is low y.1 h.width h.grounded) in
            has_state-below first second n p q (words_enough n q small) ∙ search_from_given body c is reached low t h known q y),
      );
    }

-- Result: the label of each tuple says what it should
pub label_exact : (body : Table) (c : ℕ) → IsTable body → IsReached body → c < body.columns → (t : Tuple) → IsTuple body.signature (body.columns - 1) t → IsProjected body c t (label_of (project_rule body c) t)
label_exact body c is reached low = tuple_induction (λ t. IsTuple body.signature (body.columns - 1) t → IsProjected body c t (label_of (project_rule body c) t))
    (λ t ih h.
    let known : AreKidsProjected body c t = λ j l. ih j l (IsTuple-kid body.signature (body.columns - 1) t j h l) in
    subst (IsProjected body c t) (sym (label_of-step (project_rule body c) t)) (step_exact body c is reached low t h known))

-- how many words a label has
pub length-project_rule : (body : Table) (c : ℕ) (f : TupleSymbol) (ws : List (List ℕ)) → length ((project_rule body c).step f ws) ≡ words_for (length body.presences) + 2
length-project_rule body c f ws = omega (arith, length-bit_row (length body.presences) (gives body c f ws))
