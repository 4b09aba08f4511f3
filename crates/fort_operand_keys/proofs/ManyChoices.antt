-- What the second search of "infinitely many" finds under one tuple, it finds under another whose children but one have the same labels.
use Rattle.std.proofs.Common.{◌≡◌, ℕ, ◌+◌, ◌-◌, ◌*◌, ◌<◌, ◌≤◌, max, List, [], length, set, Some, get_or, Bool, true, ◌==◌, ◌&&◌, nat_lt, if◌then◌else◌, ⊎_elim, ap, sym, ◌∙◌, arith, eq-eqb, get_or-set_same, get_or-set_other}
use Rattle.std.proofs.lemmas.Bool.{cases_lt, cases_eq, eqb-true}
use Rattle.std.proofs.lemmas.List.{length-set, get_or_past}
use Rattle.std.specs.List.{insert}
use Rattle.fort_tables.specs.Tuples.{Tuple, root, kid, kid_count, IsTuple, arity, symbol_kids}
use Rattle.fort_tables.specs.Entries.{entry}
use Rattle.fort_tables.specs.Tables.{Table, IsTable, IsReached}
use Rattle.fort_tables.specs.LabelRules.{label_of}
use Rattle.fort_tables.specs.Projections.{absent_state, has_state, is_pure, may_stand}
use Rattle.fort_tables.specs.ManyLabels.{has_many, kid_has_many, some_kid_has_many, gives_many_under, gives_many, many_bit, many_rule}
use Rattle.fort_tables.proofs.TupleLaws.{IsTuple-kid, kid_count_is}
use Rattle.fort_tables.proofs.BitRowLaws.{words_enough}
use Rattle.fort_tables.proofs.SearchLaws.{AreOptions, both, left, right, found_below, below_found, found_choice, choice_found, options_from_zero, options_at_zero}
use Rattle.fort_tables.proofs.GivenLaws.{IsChoice, given_from_made}
use Rattle.fort_tables.proofs.LabelRuleLaws.{label_of-step}
use Rattle.fort_tables.proofs.ProjectLabels.{kid_words, length-kid_words, get_or-kid_words, has_state-below}
use Rattle.fort_tables.proofs.ManyChildren.{TellsKids, MayStand, may_exact}
use Rattle.fort_tables.proofs.ManyLabelLaws.{many_bit-second, label_told}
use Rattle.fort_classes.specs.Leaders.{Leaders}
use Rattle.fort_classes.specs.Keys.{DifferAt}
use Rattle.fort_operand_keys.specs.TableLeaders.{IsLedBy}
use Rattle.fort_operand_keys.proofs.ChoiceLaws.{AreAlikeBut, target_kept}

-- the labels of a tuple's children
abbrev pub many_words : Table → ℕ → (ℕ → Bool) → Tuple → List (List ℕ)
many_words body c many t = kid_words (label_of (many_rule body c many)) t

module _ (body : Table) (c : ℕ) (many : ℕ → Bool) (is : IsTable body) (reached : IsReached body) (low : c < body.columns) where
  -- states that may stand under the symbol g, by those labels
  abbrev pub AreOptionsUnder : Tuple → ℕ → List ℕ → Type 0
  AreOptionsUnder t g ks = AreOptions (length body.presences) (may_stand body c (arity body.signature g) (many_words body c many t)) 0 ks

  pub kids_told : (t : Tuple) → IsTuple body.signature (body.columns - 1) t → TellsKids body c (label_of (many_rule body c many)) t
  kids_told t h j l = label_told body c many is reached low (kid t j) (IsTuple-kid body.signature (body.columns - 1) t j h l)

  -- states that may stand there are a choice
  choice_of : (t : Tuple) (g : ℕ) (ks : List ℕ) → IsTuple body.signature (body.columns - 1) t → length ks ≡ max (arity body.signature g) (length (many_words body c many t)) → AreOptionsUnder t g ks → IsChoice body c t g ks
  choice_of t g ks h long options =
      let label = label_of (many_rule body c many) in
      let a = arity body.signature g in
      let count : length ks ≡ max a (kid_count t) = long ∙ ap (max a) (length-kid_words label t) in
      let says : (i : ℕ) → i < length ks → MayStand body c a t i (get_or ks i 0) = λ i l.
      let o = options_at_zero (length body.presences) (may_stand body c a (many_words body c many t)) ks options i l in
      (may_exact body c label is reached low t h.width (kids_told t h) a i (get_or ks i 0) (omega (arith, count)) o.0).0 o.1 in
      record {
        count = count;
        given = λ i l. (says i (omega (arith, count))).given l;
        absent = λ i l m. (says i (omega (arith, count))).absent l m;
      }

  -- what the search finds: a choice with a child that infinitely many terms give
  pub record IsFound (t : Tuple) (q : ℕ) : Type 0 where
    pub symbol : ℕ
    pub within : symbol < length body.signature
    pub states : List ℕ
    pub long : length states ≡ max (arity body.signature symbol) (length (many_words body c many t))
    pub options : AreOptionsUnder t symbol states
    pub choice : IsChoice body c t symbol states
    pub made : body.target (entry (insert (root t) c (Some symbol)) states) ≡ q
    pub place : ℕ
    pub below : place < arity body.signature symbol
    pub endless : kid_has_many body many (many_words body c many t) place (get_or states place 0) ≡ true

  pub search_finds : (t : Tuple) (q : ℕ) → IsTuple body.signature (body.columns - 1) t → gives_many body c many (root t) (many_words body c many t) q ≡ true → IsFound t q
  search_finds t q h e =
      let sig = body.signature in
      let n = length body.presences in
      let ws = many_words body c many t in
      let r = found_below (length sig) (gives_many_under body c many (root t) ws q) e in
      let g = r.0 in
      let a = arity sig g in
      let target : List ℕ → Bool = λ ks. body.target (entry (insert (root t) c (Some g)) ks) == q in
      let s = found_choice n (may_stand body c a ws) 0 (max a (length ws)) (λ ks. target ks && some_kid_has_many body many ws a ks) r.2 in
      let ks = s.0 in
      let k = found_below a (λ j. kid_has_many body many ws j (get_or ks j 0)) (right (target ks) (some_kid_has_many body many ws a ks) s.3) in
      record {
        symbol = g;
        within = r.1;
        states = ks;
        long = s.1;
        options = s.2;
        choice = choice_of t g ks h s.1 s.2;
        made = eqb-true (body.target (entry (insert (root t) c (Some g)) ks)) q (left (target ks) (some_kid_has_many body many ws a ks) s.3);
        place = k.0;
        below = k.1;
        endless = k.2;
      }

  found_by_search : (t : Tuple) (q : ℕ) → IsFound t q → gives_many body c many (root t) (many_words body c many t) q ≡ true
  found_by_search t q y =
      let sig = body.signature in
      let n = length body.presences in
      let ws = many_words body c many t in
      let g = y.symbol in
      let a = arity sig g in
      let ks = y.states in
      let target : List ℕ → Bool = λ is. body.target (entry (insert (root t) c (Some g)) is) == q in
      let some = below_found a (λ i. kid_has_many body many ws i (get_or ks i 0)) y.place y.below y.endless in
      below_found (length sig) (gives_many_under body c many (root t) ws q) g y.within
      (choice_found n (may_stand body c a ws) 0 (max a (length ws)) (λ is. target is && some_kid_has_many body many ws a is) ks y.long y.options
      (both (target ks) (some_kid_has_many body many ws a ks) (eq-eqb (body.target (entry (insert (root t) c (Some g)) ks)) q y.made) some))

  -- a state that infinitely many terms give is given
  pub many_given : (t : Tuple) (q : ℕ) → IsTuple body.signature (body.columns - 1) t → q < length body.presences
      → has_many (length body.presences) (label_of (many_rule body c many) t) q ≡ true → has_state (label_of (many_rule body c many) t) q ≡ true
  many_given t q h l e =
      let rule = many_rule body c many in
      let n = length body.presences in
      let p = many_bit body c many (root t) (many_words body c many t) in
      let bit : has_many n (label_of rule t) q ≡ gives_many body c many (root t) (many_words body c many t) q =
      ap (λ w. has_many n w q) (label_of-step rule t)
      ∙ (has_state-below _ _ (2 * n) p (n + q) (words_enough (2 * n) (n + q) (omega arith)) ∙ many_bit-second body c many (root t) (many_words body c many t) q) in
      let y = search_finds t q h (sym bit ∙ e) in
      ((label_told body c many is reached low t h).given q l).1
      (given_from_made body c t q (record { symbol = y.symbol; within = y.within; states = y.states; choice = y.choice; made = y.made }))

  module _ (t u : Tuple) (j : ℕ) (h : IsTuple body.signature (body.columns - 1) t) (k : IsTuple body.signature (body.columns - 1) u) (l : j < kid_count t) (differ : DifferAt (label_of (many_rule body c many)) t u j) where
    counts : kid_count t ≡ kid_count u
    counts = kid_count_is body.signature t h.grounded ∙ (ap (symbol_kids body.signature) differ.root_is ∙ sym (kid_count_is body.signature u k.grounded))

    long_same : length (many_words body c many t) ≡ length (many_words body c many u)
    long_same = length-kid_words (label_of (many_rule body c many)) t ∙ (counts ∙ sym (length-kid_words (label_of (many_rule body c many)) u))

    -- at the other places the labels are the same
    word_same : (i : ℕ) → (i ≡ j → ⊥) → get_or (many_words body c many t) i [] ≡ get_or (many_words body c many u) i []
    word_same i apart =
        let label = label_of (many_rule body c many) in
        let lt = length-kid_words label t in
        ⊎_elim
        (λ (m : i < kid_count t). get_or-kid_words label t i m ∙ (differ.others i m apart ∙ sym (get_or-kid_words label u i (omega (arith, counts)))))
        (λ (m : kid_count t ≤ i). get_or_past (many_words body c many t) i [] (omega (arith, lt)) ∙ sym (get_or_past (many_words body c many u) i [] (omega (arith, lt, long_same))))
        (cases_lt i (kid_count t))

    may_same : (a i q : ℕ) → (i ≡ j → ⊥) → may_stand body c a (many_words body c many t) i q ≡ may_stand body c a (many_words body c many u) i q
    may_same a i q apart =
        let w = word_same i apart in
        λ z. if nat_lt i a then (if nat_lt i (long_same z) then has_state (w z) q else is_pure body c q) else (absent_state (w z) == q)

    endless_same : (i q : ℕ) → (i ≡ j → ⊥) → kid_has_many body many (many_words body c many t) i q ≡ kid_has_many body many (many_words body c many u) i q
    endless_same i q apart =
        let w = word_same i apart in
        λ z. if nat_lt i (long_same z) then has_many (length body.presences) (w z) q else many q

    -- Result: with another state for child j, which has its leader and may stand there, the search finds the same under the other tuple
    pub found_kept : (lead : Leaders) → IsLedBy body lead → AreAlikeBut body c t u j → (q : ℕ) (y : IsFound t q) (s : ℕ) → s < length body.presences
        → may_stand body c (arity body.signature y.symbol) (many_words body c many u) j s ≡ true
        → lead (insert (root t) c (Some y.symbol)) j (get_or y.states j 0) ≡ lead (insert (root t) c (Some y.symbol)) j s
        → (y.place ≡ j → kid_has_many body many (many_words body c many u) j s ≡ true) → gives_many body c many (root u) (many_words body c many u) q ≡ true
    found_kept lead led alike q y s small may leads endless =
        let n = length body.presences in
        let g = y.symbol in
        let a = arity body.signature g in
        let ks = y.states in
        let here : j < length ks = omega (arith, y.choice.count) in
        let long : length (set ks j s) ≡ max a (length (many_words body c many u)) = length-set ks j s ∙ (y.long ∙ ap (max a) long_same) in
        let at : (i : ℕ) → i ≡ j → get_or (set ks j s) i 0 ≡ s = λ i e. ap (λ m. get_or (set ks j s) m 0) e ∙ get_or-set_same ks j s 0 here in
        let off : (i : ℕ) → (i ≡ j → ⊥) → get_or (set ks j s) i 0 ≡ get_or ks i 0 = λ i e. get_or-set_other ks j i s 0 e in
        let options : AreOptionsUnder u g (set ks j s) = options_from_zero n (may_stand body c a (many_words body c many u)) (set ks j s)
        (λ i m. ⊎_elim
        (λ (e : i ≡ j). (omega (arith, at i e), ap (may_stand body c a (many_words body c many u) i) (at i e) ∙ (ap (λ d. may_stand body c a (many_words body c many u) d s) e ∙ may)))
        (λ (e : i ≡ j → ⊥).
        let o = options_at_zero n (may_stand body c a (many_words body c many t)) ks y.options i (omega (arith, length-set ks j s)) in
        (omega (arith, off i e, o.0), ap (may_stand body c a (many_words body c many u) i) (off i e) ∙ (sym (may_same a i (get_or ks i 0) e) ∙ o.1)))
        (cases_eq i j)) in
        let choice = choice_of u g (set ks j s) k long options in
        found_by_search u q (record {
          symbol = g;
          within = y.within;
          states = set ks j s;
          long = long;
          options = options;
          choice = choice;
          made = sym (target_kept body c is low t u j alike lead led g ks s y.within y.choice choice leads) ∙ y.made;
          place = y.place;
          below = y.below;
          endless = ⊎_elim
              (λ (e : y.place ≡ j). ap (kid_has_many body many (many_words body c many u) y.place) (at y.place e) ∙ (ap (λ d. kid_has_many body many (many_words body c many u) d s) e ∙ endless e))
              (λ (e : y.place ≡ j → ⊥). ap (kid_has_many body many (many_words body c many u) y.place) (off y.place e) ∙ (sym (endless_same y.place (get_or ks y.place 0) e) ∙ y.endless))
              (cases_eq y.place j);
        })
