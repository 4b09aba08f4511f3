-- What a view asks of a label is what the leaders at its place ask.
use Rattle.std.proofs.Common.{◌≡◌, ℕ, zero, suc, ◌+◌, ◌-◌, ◌*◌, ◌/◌, ◌%◌, ◌^◌, ◌<◌, List, [], ◌∷◌, ◌++◌, length, get_or, Option, None, Some, Bool, true, false, ◌&&◌, ◌||◌, ◌==◌, nat_lt, if◌then◌else◌, refl, ap, sym, ◌∙◌, arith, subst, eq-eqb}
use Rattle.std.proofs.lemmas.Bool.{and_from, lt-ltb, ltb-true, ltb-false}
use Rattle.std.proofs.lemmas.List.{length-append}
use Rattle.std.specs.List.{insert}
use Rattle.fort_tables.specs.Tuples.{Tuple, TupleSymbol, arity, kid_presence, IsTuple, FitsKid}
use Rattle.fort_tables.specs.Tables.{Table, IsTable, state_of}
use Rattle.fort_tables.specs.BitRows.{words_for}
use Rattle.fort_tables.specs.Projections.{some_below, absent_state, has_state, Gives}
use Rattle.fort_tables.specs.ManyLabels.{has_many}
use Rattle.fort_tables.proofs.TupleLaws.{presence_fits}
use Rattle.fort_tables.proofs.TableLaws.{IsKidState, table_state}
use Rattle.fort_tables.proofs.BitRowLaws.{length-bit_row, bit_row_same}
use Rattle.fort_tables.proofs.InsertSymbolLaws.{FitsKid-insert_some, FitsKid-insert_none}
use Rattle.fort_tables.proofs.CompletedTuples.{IsTuple-completed, IsTuple-absent}
use Rattle.fort_classes.specs.Leaders.{Leaders, MayBeKid}
use Rattle.fort_operand_keys.specs.ProjectionKeys.{some_led, leader_row}
use Rattle.fort_operand_keys.specs.ManyKeys.{both_rows}
use Rattle.fort_table_classes.specs.ClassViews.{IsPlaceUnder}
use Rattle.fort_projection_keys.specs.ProjectionViews.{column_has_child, view_word, leader_word, is_member, member_row, member_rows, part_key}
use Rattle.fort_projection_keys.proofs.PlaceLaws.{IsOwnPlace, IsColumn, place_with, presence_with, half_is, even_is, odd_is}

-- what the label says of the body's states: that with the column absent, and of those of its sets that some term in the column gives each
pub record SaysMembers (both : Bool) (body : Table) (c : ℕ) (x : Tuple) (w : List ℕ) : Type 0 where
  pub absent : absent_state w ≡ state_of body (insert x c None)
  pub given : (q : ℕ) → q < length body.presences → has_state w q ≡ true → Gives body c x q
  pub many : both ≡ true → (q : ℕ) → q < length body.presences → has_many (length body.presences) w q ≡ true → Gives body c x q

-- what is asked by leaders of the label's states
abbrev pub asked : Bool → Table → (ℕ → ℕ) → List ℕ → List ℕ
asked true body leader w = both_rows body leader w
asked false body leader w = leader_row (length body.presences) leader (has_state w)

-- as many words for each label
row_long : (n : ℕ) (leader : ℕ → ℕ) (p : ℕ → Bool) → length (leader_row n leader p) ≡ words_for n
row_long n leader p = length-bit_row n (some_led n leader p)

rows_long : (both : Bool) (body : Table) (leader : ℕ → ℕ → ℕ) (view presence : ℕ) (v w : List ℕ) → length (member_rows body leader both view presence v) ≡ length (member_rows body leader both view presence w)
rows_long true body leader view presence v w =
    let n = length body.presences in
    let row : ℕ → List ℕ → List ℕ = λ first z. member_row body leader view presence first z in
    let long : (first : ℕ) (z : List ℕ) → length (row first z) ≡ words_for n = λ first z. row_long n (leader view) (is_member body presence first z) in
    omega (arith, length-append (row 0 v) (row n v), length-append (row 0 w) (row n w), long 0 v, long n v, long 0 w, long n w)
rows_long false body leader view presence v w =
    let n = length body.presences in
    row_long n (leader view) (is_member body presence 0 v) ∙ sym (row_long n (leader view) (is_member body presence 0 w))

part_by : (b : Bool) (x y : ℕ) (xs ys : List ℕ) → length xs ≡ length ys → length (if b then x ∷ [] else xs) ≡ length (if b then y ∷ [] else ys)
part_by true x y xs ys e = refl
part_by false x y xs ys e = e

pub part_long : (body : Table) (leader : ℕ → ℕ → ℕ) (c : ℕ) (both : Bool) (presence : ℕ) (v w : List ℕ) (word : ℕ) → length (part_key body leader c both presence v word) ≡ length (part_key body leader c both presence w word)
part_long body leader c both presence v w word =
    part_by (word % 2 == 0) (leader_word body leader (word / 2) presence (absent_state v)) (leader_word body leader (word / 2) presence (absent_state w))
    (member_rows body leader both (word / 2) (presence + 2 ^ c) v) (member_rows body leader both (word / 2) (presence + 2 ^ c) w)
    (rows_long both body leader (word / 2) (presence + 2 ^ c) v w)

and_none : (a b : Bool) → ((a && false) && b) ≡ false
and_none true b = refl
and_none false b = refl

-- searches by equal tests
below_same : (n : ℕ) (p r : ℕ → Bool) → ((q : ℕ) → q < n → p q ≡ r q) → some_below n p ≡ some_below n r
below_same zero p r h = refl
below_same (suc n) p r h =
    let before = below_same n p r (λ q l. h q (omega (arith, l))) in
    let last = h n (omega arith) in
    λ i. before i || last i

module _ (body : Table) (c : ℕ) (number : TupleSymbol → ℕ → ℕ) (leader : ℕ → ℕ → ℕ) (lead : Leaders) (is : IsTable body) (low : c < body.columns)
    (leads : (f : TupleSymbol) (j q : ℕ) → MayBeKid body.signature body.columns body.presences f j q → lead f j q ≡ leader (number f j) q) where
  -- the state of a child may stand at its place
  state_may_stand : (f : TupleSymbol) (j q : ℕ) → IsPlaceUnder body f j → IsKidState body f j q → MayBeKid body.signature body.columns body.presences f j q
  state_may_stand f j q at k =
      let s = table_state body is k.tuple k.is_tuple in
      record {
        symbol = at.symbol;
        place = at.place;
        within = subst (λ (n : ℕ). n < length body.presences) k.state s.within;
        presence = ap (λ n. get_or body.presences n 0) (sym k.state) ∙ (s.presence_is ∙ presence_fits body.signature f j k.tuple k.fits);
      }

  -- one test for a state of a set
  member_test : (f : TupleSymbol) (j presence q i : ℕ) (has does : Bool) → kid_presence body.signature f j ≡ presence → has ≡ does → (does ≡ true → MayBeKid body.signature body.columns body.presences f j q)
      → (((get_or body.presences q 0 == presence) && has) && (leader (number f j) q == i)) ≡ (does && (lead f j q == i))
  member_test f j presence q i has true e same may =
      let m = may refl in
      let there : (get_or body.presences q 0 == presence) ≡ true = eq-eqb (get_or body.presences q 0) presence (m.presence ∙ e) in
      λ z. (there z && same z) && (sym (leads f j q m) z == i)
  member_test f j presence q i has false e same may =
      ap (λ b. ((get_or body.presences q 0 == presence) && b) && (leader (number f j) q == i)) same ∙ and_none (get_or body.presences q 0 == presence) (leader (number f j) q == i)

  -- the row of a set is that of the leaders of its states
  member_row_is : (f : TupleSymbol) (j presence first : ℕ) (w : List ℕ) (does : ℕ → Bool) → kid_presence body.signature f j ≡ presence → ((q : ℕ) → has_state w (first + q) ≡ does q)
      → ((q : ℕ) → q < length body.presences → does q ≡ true → MayBeKid body.signature body.columns body.presences f j q)
      → member_row body leader (number f j) presence first w ≡ leader_row (length body.presences) (lead f j) does
  member_row_is f j presence first w does e same may =
      let n = length body.presences in
      bit_row_same n (some_led n (leader (number f j)) (is_member body presence first w)) (some_led n (lead f j) does)
      (λ i _. below_same n _ _ (λ q l. member_test f j presence q i (has_state w (first + q)) (does q) e (same q) (may q l)))

  module _ (f : TupleSymbol) (j : ℕ) (at : IsOwnPlace body f j) (x : Tuple) (hx : IsTuple body.signature (body.columns - 1) x) (fits : FitsKid body.signature f j x)
      (both : Bool) (w : List ℕ) (says : SaysMembers both body c x w) where
    -- the presence there with the column absent
    abbrev pub absent_presence : ℕ
    absent_presence = kid_presence body.signature (insert f c None) j

    -- the state with the column absent may stand where the column has no child
    absent_may_stand : (y : Option ℕ) → IsColumn body.signature y → column_has_child body.signature y j ≡ false → MayBeKid body.signature body.columns body.presences (insert f c y) j (absent_state w)
    absent_may_stand None k e = state_may_stand (insert f c None) j (absent_state w) (place_with body c f j None low at k) (record {
      tuple = insert x c None;
      is_tuple = IsTuple-absent body c x low hx;
      fits = FitsKid-insert_none body.signature f c j x fits;
      state = sym says.absent;
    })
    absent_may_stand (Some g) k e = state_may_stand (insert f c (Some g)) j (absent_state w) (place_with body c f j (Some g) low at k) (record {
      tuple = insert x c None;
      is_tuple = IsTuple-absent body c x low hx;
      fits = FitsKid-insert_some body.signature f c g j None x (ltb-false j (arity body.signature g) e) fits;
      state = sym says.absent;
    })

    -- a state that a term in the column gives may stand where the column has a child
    given_may_stand : (g q : ℕ) → g < length body.signature → j < arity body.signature g → Gives body c x q → MayBeKid body.signature body.columns body.presences (insert f c (Some g)) j q
    given_may_stand g q k l y = state_may_stand (insert f c (Some g)) j q (place_with body c f j (Some g) low at k) (record {
      tuple = insert x c (Some y.0);
      is_tuple = IsTuple-completed body c x y.0 low y.1 hx.width hx.grounded;
      fits = FitsKid-insert_some body.signature f c g j (Some y.0) x l fits;
      state = y.2;
    })

    -- Result: a view where the column has no child asks for the leader of the state with the column absent
    pub part_absent : (y : Option ℕ) → IsColumn body.signature y → column_has_child body.signature y j ≡ false
        → part_key body leader c both absent_presence w (view_word number body c f j y) ≡ lead (insert f c y) j (absent_state w) ∷ []
    part_absent y k none =
        let q = absent_state w in
        let own = number (insert f c y) j in
        let may = absent_may_stand y k none in
        let word : view_word number body c f j y ≡ 2 * own + 0 = ap (λ b. 2 * own + (if b then 1 else 0)) none in
        let e : (2 * own + 0) % 2 ≡ 0 = even_is own in
        let h : (2 * own + 0) / 2 ≡ own = half_is false own in
        let presence : kid_presence body.signature (insert f c y) j ≡ absent_presence =
        let p = presence_with body.signature f c j y (omega (arith, low, at.symbol.width)) in
        let z : absent_presence + 0 ≡ absent_presence = omega arith in
        p ∙ (ap (λ b. absent_presence + (if b then 2 ^ c else 0)) none ∙ z) in
        let test : (nat_lt q (length body.presences) && (get_or body.presences q 0 == absent_presence)) ≡ true =
        and_from (nat_lt q (length body.presences)) (get_or body.presences q 0 == absent_presence) (lt-ltb q (length body.presences) may.within)
        (eq-eqb (get_or body.presences q 0) absent_presence (may.presence ∙ presence)) in
        ap (part_key body leader c both absent_presence w) word
        ∙ (ap (λ r. if r == 0 then leader_word body leader ((2 * own + 0) / 2) absent_presence q ∷ [] else member_rows body leader both ((2 * own + 0) / 2) (absent_presence + 2 ^ c) w) e
        ∙ (ap (λ v. leader_word body leader v absent_presence q ∷ []) h
        ∙ (ap (λ b. (if b then leader own q else q) ∷ []) test
        ∙ ap (λ r. r ∷ []) (sym (leads (insert f c y) j q may)))))

    -- the rows of the sets where the column has a child
    rows_by : (g : ℕ) → g < length body.signature → j < arity body.signature g → kid_presence body.signature (insert f c (Some g)) j ≡ absent_presence + 2 ^ c → (b : Bool) → both ≡ b
        → member_rows body leader b (number (insert f c (Some g)) j) (absent_presence + 2 ^ c) w ≡ asked b body (lead (insert f c (Some g)) j) w
    rows_by g k l presence true same =
        let n = length body.presences in
        let a = insert f c (Some g) in
        let first = member_row_is a j (absent_presence + 2 ^ c) 0 w (has_state w) presence (λ q. let z : 0 + q ≡ q = omega arith in ap (has_state w) z) (λ q m e. given_may_stand g q k l (says.given q m e)) in
        let second = member_row_is a j (absent_presence + 2 ^ c) n w (has_many n w) presence (λ q. refl) (λ q m e. given_may_stand g q k l (says.many same q m e)) in
        λ i. first i ++ second i
    rows_by g k l presence false same =
        member_row_is (insert f c (Some g)) j (absent_presence + 2 ^ c) 0 w (has_state w) presence (λ q. let z : 0 + q ≡ q = omega arith in ap (has_state w) z) (λ q m e. given_may_stand g q k l (says.given q m e))

    -- Result: a view where the column has a child asks for the leaders of the states of the label's sets
    pub part_given : (g : ℕ) → g < length body.signature → column_has_child body.signature (Some g) j ≡ true
        → part_key body leader c both absent_presence w (view_word number body c f j (Some g)) ≡ asked both body (lead (insert f c (Some g)) j) w
    part_given g k there =
        let a = insert f c (Some g) in
        let own = number a j in
        let l : j < arity body.signature g = ltb-true j (arity body.signature g) there in
        let word : view_word number body c f j (Some g) ≡ 2 * own + 1 = ap (λ b. 2 * own + (if b then 1 else 0)) there in
        let o : (2 * own + 1) % 2 ≡ 1 = odd_is own in
        let h : (2 * own + 1) / 2 ≡ own = half_is true own in
        let presence : kid_presence body.signature a j ≡ absent_presence + 2 ^ c =
        presence_with body.signature f c j (Some g) (omega (arith, low, at.symbol.width)) ∙ ap (λ b. absent_presence + (if b then 2 ^ c else 0)) there in
        ap (part_key body leader c both absent_presence w) word
        ∙ (ap (λ r. if r == 0 then leader_word body leader ((2 * own + 1) / 2) absent_presence (absent_state w) ∷ [] else member_rows body leader both ((2 * own + 1) / 2) (absent_presence + 2 ^ c) w) o
        ∙ (ap (λ v. member_rows body leader both v (absent_presence + 2 ^ c) w) h ∙ rows_by g k l presence both refl))
