-- The label of "infinitely many" goes by the leaders of the body's states.
use Rattle.std.proofs.Common.{◌≡◌, ℕ, ◌+◌, ◌-◌, ◌*◌, ◌<◌, ◌≤◌, List, ◌∷◌, length, Some, get_or, Bool, true, ◌==◌, ⊎_elim, refl, ap, sym, ◌∙◌, arith, subst, eq-eqb}
use Rattle.std.proofs.lemmas.Bool.{cases_lt, cases_eq}
use Rattle.std.proofs.lemmas.List.{length-append}
use Rattle.std.specs.List.{insert}
use Rattle.fort_tables.specs.Tuples.{Tuple, TupleSymbol, root, kid, kid_count, presence, IsTuple, arity, symbol_kids}
use Rattle.fort_tables.specs.Tables.{Table, IsTable, IsReached}
use Rattle.fort_tables.specs.LabelRules.{label_of}
use Rattle.fort_tables.specs.BitRows.{bit_row}
use Rattle.fort_tables.specs.Projections.{absent_state, has_state, may_stand, gives}
use Rattle.fort_tables.specs.ManyLabels.{has_many, kid_has_many, gives_many, many_bit, many_rule}
use Rattle.fort_tables.proofs.TupleLaws.{IsTuple-kid, kid_count_is}
use Rattle.fort_tables.proofs.BitRowLaws.{length-bit_row, bit_row_same}
use Rattle.fort_tables.proofs.SearchLaws.{same_truth}
use Rattle.fort_tables.proofs.CompletedTuples.{absent_small}
use Rattle.fort_tables.proofs.LabelRuleLaws.{label_of-step}
use Rattle.fort_tables.proofs.ProjectLabels.{length-kid_words, get_or-kid_words, may_in_set, may_absent}
use Rattle.fort_tables.proofs.ManyChildren.{many_at}
use Rattle.fort_tables.proofs.ManyExact.{gives_exact}
use Rattle.fort_tables.proofs.ManyLabelLaws.{many_bit-first, many_bit-second, label_told}
use Rattle.fort_classes.specs.Leaders.{Leaders}
use Rattle.fort_classes.specs.Keys.{DifferAt, GoesByEachKey}
use Rattle.fort_operand_keys.specs.TableLeaders.{IsLedBy}
use Rattle.fort_operand_keys.specs.ProjectionKeys.{some_led, leader_row}
use Rattle.fort_operand_keys.specs.ManyKeys.{both_rows, many_key}
use Rattle.fort_operand_keys.proofs.RowLaws.{first_same, second_same, led_in_row}
use Rattle.fort_operand_keys.proofs.ChoiceLaws.{HaveOneKey, leader_within, chosen_within, gives_kept, absent_kept}
use Rattle.fort_operand_keys.proofs.SaidStates.{SaysStates, SaysAll, given_small, alike_but, differ_back, key_parts, one_key}
use Rattle.fort_operand_keys.proofs.ManyChoices.{many_words, kids_told, search_finds, many_given, found_kept}

-- what the symbol g in the column asks of the states of both sets
abbrev asked_rows : Table → ℕ → Leaders → TupleSymbol → ℕ → ℕ → List ℕ → List ℕ
asked_rows body c lead f j g w = both_rows body (lead (insert f c (Some g)) j) w

-- rows of leaders have one length
row_long : (n : ℕ) (leader : ℕ → ℕ) (p r : ℕ → Bool) → length (leader_row n leader p) ≡ length (leader_row n leader r)
row_long n leader p r = length-bit_row n (some_led n leader p) ∙ sym (length-bit_row n (some_led n leader r))

both_long : (body : Table) (leader : ℕ → ℕ) (v w : List ℕ) → length (both_rows body leader v) ≡ length (both_rows body leader w)
both_long body leader v w =
    let n = length body.presences in
    omega (
      arith,
      length-append (leader_row n leader (has_state v)) (leader_row n leader (has_many n v)),
      length-append (leader_row n leader (has_state w)) (leader_row n leader (has_many n w)),
      row_long n leader (has_state v) (has_state w),
      row_long n leader (has_many n v) (has_many n w),
    )

-- what equal keys say
record HaveOneManyKey (body : Table) (c : ℕ) (lead : Leaders) (f : TupleSymbol) (j : ℕ) (x y : Tuple) (v w : List ℕ) : Type 0 where
  key : HaveOneKey body c lead f j x y
  row : (g : ℕ) → g < length body.signature → j < arity body.signature g
      → leader_row (length body.presences) (lead (insert f c (Some g)) j) (has_many (length body.presences) v) ≡ leader_row (length body.presences) (lead (insert f c (Some g)) j) (has_many (length body.presences) w)

equal_keys : (body : Table) (c : ℕ) (lead : Leaders) (f : TupleSymbol) (j : ℕ) (x y : Tuple) (v w : List ℕ) → SaysStates body c x v → SaysStates body c y w
    → many_key body c lead f j v ≡ many_key body c lead f j w → HaveOneManyKey body c lead f j x y v w
equal_keys body c lead f j x y v w sx sy same =
    let n = length body.presences in
    let leader : ℕ → ℕ → ℕ = λ g. lead (insert f c (Some g)) j in
    let parts = key_parts body c lead f j (asked_rows body c lead f j) v w (λ g. both_long body (leader g) v w) same in
    record {
      key = one_key body c lead f j (asked_rows body c lead f j) x y v w sx sy parts
          (λ g l a. first_same (leader_row n (leader g) (has_state v)) (leader_row n (leader g) (has_state w)) (leader_row n (leader g) (has_many n v)) (leader_row n (leader g) (has_many n w))
          (row_long n (leader g) (has_state v) (has_state w)) (parts.row g l a));
      row = λ g l a. second_same (leader_row n (leader g) (has_state v)) (leader_row n (leader g) (has_state w)) (leader_row n (leader g) (has_many n v)) (leader_row n (leader g) (has_many n w))
          (row_long n (leader g) (has_state v) (has_state w)) (parts.row g l a);
    }

module _ (body : Table) (c : ℕ) (many : ℕ → Bool) (lead : Leaders) (is : IsTable body) (reached : IsReached body) (low : c < body.columns) (led : IsLedBy body lead) where
  says_all : SaysAll body c (label_of (many_rule body c many))
  says_all t h = let x = label_told body c many is reached low t h in record { absent = x.absent; given = x.given }

  -- one direction of the second search
  many_kept : (t u : Tuple) (j : ℕ) → IsTuple body.signature (body.columns - 1) t → IsTuple body.signature (body.columns - 1) u → j < kid_count t → j < kid_count u → DifferAt (label_of (many_rule body c many)) t u j
      → HaveOneManyKey body c lead (root t) j (kid t j) (kid u j) (label_of (many_rule body c many) (kid t j)) (label_of (many_rule body c many) (kid u j))
      → (q : ℕ) → gives_many body c many (root t) (many_words body c many t) q ≡ true → gives_many body c many (root u) (many_words body c many u) q ≡ true
  many_kept t u j h k l l' differ asks q e =
      let sig = body.signature in
      let n = length body.presences in
      let label = label_of (many_rule body c many) in
      let wt = many_words body c many t in
      let wu = many_words body c many u in
      let lt = length-kid_words label t in
      let lu = length-kid_words label u in
      let hx = IsTuple-kid sig (body.columns - 1) t j h l in
      let hy = IsTuple-kid sig (body.columns - 1) u j k l' in
      let y = search_finds body c many is reached low t q h e in
      let alike = alike_but body c label is low says_all t u j h k l differ in
      let g = y.symbol in
      let a = arity sig g in
      let p = get_or y.states j 0 in
      let leader = lead (insert (root t) c (Some g)) j in
      let small = chosen_within body c is low t u j alike lead led g y.states y.within y.choice in
      let below = leader_within body c is low t u j alike lead led g y.states y.within y.choice in
      let set_at : (s : ℕ) → j < a → has_state (label (kid u j)) s ≡ true → may_stand body c a wu j s ≡ true =
      λ s b d. may_in_set body c a wu j s b (omega (arith, lu)) ∙ (ap (λ w. has_state w s) (get_or-kid_words label u j l') ∙ d) in
      let kept = found_kept body c many is reached low t u j h k l differ lead led alike q y in
      ⊎_elim
      (λ (b : j < a). ⊎_elim
      (λ (at : y.place ≡ j).
      let d : has_many n (label (kid t j)) p ≡ true =
      ap (λ w. has_many n w p) (sym (get_or-kid_words label t j l))
      ∙ (sym (many_at body many wt j p (omega (arith, lt))) ∙ (ap (λ i. kid_has_many body many wt i (get_or y.states i 0)) (sym at) ∙ y.endless)) in
      let r = led_in_row n leader (has_many n (label (kid t j))) (has_many n (label (kid u j))) (asks.row g y.within b) p small below d in
      kept r.state r.within (set_at r.state b (many_given body c many is reached low (kid u j) r.state hy r.within r.does)) (sym r.leader_is)
      (λ _. many_at body many wu j r.state (omega (arith, lu)) ∙ (ap (λ w. has_many n w r.state) (get_or-kid_words label u j l') ∙ r.does)))
      (λ (apart : y.place ≡ j → ⊥).
      let r = asks.key.given g p y.within b small below (y.choice.given j b) in
      let m = given_small body c (kid u j) r.state is low hy r.given in
      kept r.state m (set_at r.state b (((says_all (kid u j) hy).given r.state m).1 r.given)) r.leader_is (λ z. absurd (apart z)))
      (cases_eq y.place j))
      (λ (b : a ≤ j).
      let s = absent_state (label (kid u j)) in
      let told = (says_all (kid u j) hy).absent in
      let same = y.choice.absent j l b in
      let m : s < n = omega (arith, told, absent_small body c (kid u j) is low hy) in
      kept s m (may_absent body c a wu j s b ∙ (ap (λ w. absent_state w == s) (get_or-kid_words label u j l') ∙ eq-eqb s s refl))
      (ap leader same ∙ (asks.key.absent_under g y.within b ∙ ap leader (sym told)))
      (λ z. absurd (omega (arith, y.below, z))))
      (cases_lt j a)

  -- a bit of the label is the same under both
  bit_same : (t u : Tuple) (j : ℕ) → IsTuple body.signature (body.columns - 1) t → IsTuple body.signature (body.columns - 1) u → j < kid_count t → j < kid_count u
      → DifferAt (label_of (many_rule body c many)) t u j → DifferAt (label_of (many_rule body c many)) u t j
      → HaveOneManyKey body c lead (root t) j (kid t j) (kid u j) (label_of (many_rule body c many) (kid t j)) (label_of (many_rule body c many) (kid u j))
      → HaveOneManyKey body c lead (root u) j (kid u j) (kid t j) (label_of (many_rule body c many) (kid u j)) (label_of (many_rule body c many) (kid t j))
      → (i : ℕ) → many_bit body c many (root t) (many_words body c many t) i ≡ many_bit body c many (root u) (many_words body c many u) i
  bit_same t u j h k l l' differ differ' asks asks' i =
      let n = length body.presences in
      let label = label_of (many_rule body c many) in
      let wt = many_words body c many t in
      let wu = many_words body c many u in
      let there = alike_but body c label is low says_all t u j h k l differ in
      let back = alike_but body c label is low says_all u t j k h l' differ' in
      let exact_t = gives_exact body c label is reached low t h (kids_told body c many is reached low t h) in
      let exact_u = gives_exact body c label is reached low u k (kids_told body c many is reached low u k) in
      ⊎_elim
      (λ (o : i < n).
      many_bit-first body c many (root t) wt i o
      ∙ (same_truth (gives body c (root t) wt i) (gives body c (root u) wu i)
      (λ e. (exact_u i).1 (gives_kept body c is low t u j there lead led asks.key i ((exact_t i).0 e)))
      (λ e. (exact_t i).1 (gives_kept body c is low u t j back lead led asks'.key i ((exact_u i).0 e)))
      ∙ sym (many_bit-first body c many (root u) wu i o)))
      (λ (o : n ≤ i).
      let q = i - n in
      let at : n + q ≡ i = omega arith in
      ap (many_bit body c many (root t) wt) (sym at)
      ∙ (many_bit-second body c many (root t) wt q
      ∙ (same_truth (gives_many body c many (root t) wt q) (gives_many body c many (root u) wu q)
      (many_kept t u j h k l l' differ asks q)
      (many_kept u t j k h l' l differ' asks' q)
      ∙ (sym (many_bit-second body c many (root u) wu q)
      ∙ ap (many_bit body c many (root u) wu) at))))
      (cases_lt i n)

  -- Result: the label of "infinitely many" goes by its key, whatever tells which terms are infinitely many
  pub GoesByEachKey-many : GoesByEachKey body.signature (body.columns - 1) (label_of (many_rule body c many)) (many_key body c lead)
  GoesByEachKey-many t u j h k l differ keys =
      let sig = body.signature in
      let n = length body.presences in
      let rule = many_rule body c many in
      let label = label_of rule in
      let counts : kid_count t ≡ kid_count u = kid_count_is sig t h.grounded ∙ (ap (symbol_kids sig) differ.root_is ∙ sym (kid_count_is sig u k.grounded)) in
      let l' : j < kid_count u = omega arith in
      let differ' = differ_back label t u j counts differ in
      let sx = says_all (kid t j) (IsTuple-kid sig (body.columns - 1) t j h l) in
      let sy = says_all (kid u j) (IsTuple-kid sig (body.columns - 1) u j k l') in
      let asks = equal_keys body c lead (root t) j (kid t j) (kid u j) (label (kid t j)) (label (kid u j)) sx sy keys in
      let asks' = equal_keys body c lead (root u) j (kid u j) (kid t j) (label (kid u j)) (label (kid t j)) sy sx
      (subst (λ (f : TupleSymbol). many_key body c lead f j (label (kid u j)) ≡ many_key body c lead f j (label (kid t j))) differ.root_is (sym keys)) in
      let there = alike_but body c label is low says_all t u j h k l differ in
      let p = many_bit body c many (root t) (many_words body c many t) in
      let r = many_bit body c many (root u) (many_words body c many u) in
      let a : presence (root t) ≡ presence (root u) = ap presence differ.root_is in
      let b = sym (ap absent_state (label_of-step rule t)) ∙ ((says_all t h).absent ∙ (absent_kept body c is low t u j there lead led asks.key ∙ (sym (says_all u k).absent ∙ ap absent_state (label_of-step rule u)))) in
      let bits : bit_row (2 * n) p ≡ bit_row (2 * n) r = bit_row_same (2 * n) p r (λ i _. bit_same t u j h k l l' differ differ' asks asks' i) in
      label_of-step rule t ∙ ((λ z. a z ∷ b z ∷ bits z) ∙ sym (label_of-step rule u))
