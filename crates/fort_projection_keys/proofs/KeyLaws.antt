-- The labels of projections and of "infinitely many" go by their keys in views.
use Rattle.std.proofs.Common.{◌≡◌, ℕ, ◌-◌, ◌<◌, List, [], ◌∷◌, ◌++◌, length, take, get_or, None, Some, Bool, true, false, nat_lt, if◌then◌else◌, ⊎_elim, refl, ap, sym, ◌∙◌, arith, subst}
use Rattle.std.proofs.lemmas.Bool.{cases_Bool, false≢true}
use Rattle.std.specs.List.{insert, flat_map}
use Rattle.fort_tables.specs.Tuples.{Tuple, TupleSymbol, root, kid, kid_count, kid_presence, symbol_kids, IsTuple, FitsKid, arity}
use Rattle.fort_tables.specs.Tables.{Table, IsTable, IsReached}
use Rattle.fort_tables.specs.Labels.{Labelling}
use Rattle.fort_tables.specs.Laid.{joined_below}
use Rattle.fort_tables.specs.LabelRules.{label_of}
use Rattle.fort_tables.specs.Projections.{absent_state, project_rule}
use Rattle.fort_tables.specs.ManyLabels.{many_rule}
use Rattle.fort_tables.proofs.TupleLaws.{IsTuple-kid, IsTupleSymbol-root, kid_fits, kid_count_is}
use Rattle.fort_tables.proofs.ProjectLabels.{label_exact}
use Rattle.fort_tables.proofs.ManyLabelLaws.{label_told}
use Rattle.fort_classes.specs.Leaders.{Leaders, MayBeKid}
use Rattle.fort_classes.specs.Keys.{Keys, GoesByEachKey}
use Rattle.fort_operand_keys.specs.TableLeaders.{IsLedBy}
use Rattle.fort_operand_keys.proofs.ProjectionKeyLaws.{GoesByEachKey-projection}
use Rattle.fort_operand_keys.proofs.ManyChoices.{many_given}
use Rattle.fort_operand_keys.proofs.ManyKeyLaws.{GoesByEachKey-many}
use Rattle.fort_label_keys.specs.ViewKeys.{keys_by}
use Rattle.fort_projection_keys.specs.ProjectionViews.{view_word, view_words, projection_view, part_key, key_in_view}
use Rattle.fort_projection_keys.proofs.WordLists.{parts_same, joined_equal, front_is, last_is}
use Rattle.fort_projection_keys.proofs.PlaceLaws.{IsOwnPlace, test_from_place, view_there, has_absent, has_symbol}
use Rattle.fort_projection_keys.proofs.PartLaws.{SaysMembers, asked, part_long, part_absent, part_given}

-- the key by leaders, for a label with one set or with two
abbrev pub key_by : Bool → Table → ℕ → Leaders → Keys
key_by both body c lead f j w =
    lead (insert f c None) j (absent_state w)
    ∷ joined_below (length body.signature) (λ g. if nat_lt j (arity body.signature g) then asked both body (lead (insert f c (Some g)) j) w else lead (insert f c (Some g)) j (absent_state w) ∷ [])

if_true : (b : Bool) (xs ys : List ℕ) → b ≡ true → (if b then xs else ys) ≡ xs
if_true b xs ys e = ap (λ z. if z then xs else ys) e

if_false : (b : Bool) (xs ys : List ℕ) → b ≡ false → (if b then xs else ys) ≡ ys
if_false b xs ys e = ap (λ z. if z then xs else ys) e

-- each label tells states that terms in the column give
abbrev pub SaysAllMembers : Bool → Table → ℕ → Labelling → Type 0
SaysAllMembers both body c label = (t : Tuple) → IsTuple body.signature (body.columns - 1) t → SaysMembers both body c t (label t)

module _ (body : Table) (c : ℕ) (number : TupleSymbol → ℕ → ℕ) (leader : ℕ → ℕ → ℕ) (lead : Leaders) (is : IsTable body) (low : c < body.columns)
    (leads : (f : TupleSymbol) (j q : ℕ) → MayBeKid body.signature body.columns body.presences f j q → lead f j q ≡ leader (number f j) q) (both : Bool) where
  module _ (f : TupleSymbol) (j : ℕ) (at : IsOwnPlace body f j) (x y : Tuple) (hx : IsTuple body.signature (body.columns - 1) x) (hy : IsTuple body.signature (body.columns - 1) y)
      (fx : FitsKid body.signature f j x) (fy : FitsKid body.signature f j y) (v w : List ℕ) (sx : SaysMembers both body c x v) (sy : SaysMembers both body c y w) where
    abbrev pub own_presence : ℕ
    own_presence = kid_presence body.signature (insert f c None) j

    -- the key in the place's view, word by word
    key_there : (z : List ℕ) → key_in_view body leader c both (projection_view number body c f j) z ≡ flat_map (part_key body leader c both own_presence z) (view_words number body c f j (length body.signature))
    key_there z =
        let ws = view_words number body c f j (length body.signature) in
        let there = view_there number body c f j (test_from_place body f j at) in
        ap (λ seen. key_in_view body leader c both seen z) there
        ∙ (ap (λ p. flat_map (part_key body leader c both p z) (take (length (ws ++ own_presence ∷ []) - 1) (ws ++ own_presence ∷ []))) (last_is ws own_presence)
        ∙ ap (flat_map (part_key body leader c both own_presence z)) (front_is ws own_presence))

    -- Result: labels with one key in the view have one key by the leaders
    pub same_key : key_in_view body leader c both (projection_view number body c f j) v ≡ key_in_view body leader c both (projection_view number body c f j) w → key_by both body c lead f j v ≡ key_by both body c lead f j w
    same_key same =
        let sig = body.signature in
        let part : List ℕ → ℕ → List ℕ = part_key body leader c both own_presence in
        let ws = view_words number body c f j (length sig) in
        let joined : flat_map (part v) ws ≡ flat_map (part w) ws = sym (key_there v) ∙ (same ∙ key_there w) in
        let equal = parts_same (part v) (part w) ws (part_long body leader c both own_presence v w) joined in
        let none : lead (insert f c None) j (absent_state v) ∷ [] ≡ lead (insert f c None) j (absent_state w) ∷ [] =
        sym (part_absent body c number leader lead is low leads f j at x hx fx both v sx None tt refl)
        ∙ (equal (view_word number body c f j None) (has_absent number body c f j low at (length sig))
        ∙ part_absent body c number leader lead is low leads f j at y hy fy both w sy None tt refl) in
        let one : List ℕ → ℕ → List ℕ = λ z g. lead (insert f c (Some g)) j (absent_state z) ∷ [] in
        let rows : List ℕ → ℕ → List ℕ = λ z g. asked both body (lead (insert f c (Some g)) j) z in
        let under : (g : ℕ) → g < length sig → (if nat_lt j (arity sig g) then rows v g else one v g) ≡ (if nat_lt j (arity sig g) then rows w g else one w g) =
        λ g l.
        let e = equal (view_word number body c f j (Some g)) (has_symbol number body c f j low at (length sig) g l) in
        ⊎_elim
        (λ (b : nat_lt j (arity sig g) ≡ true).
        if_true (nat_lt j (arity sig g)) (rows v g) (one v g) b
        ∙ (sym (part_given body c number leader lead is low leads f j at x hx fx both v sx g l b)
        ∙ (e
        ∙ (part_given body c number leader lead is low leads f j at y hy fy both w sy g l b
        ∙ sym (if_true (nat_lt j (arity sig g)) (rows w g) (one w g) b)))))
        (λ (b : nat_lt j (arity sig g) ≡ false).
        if_false (nat_lt j (arity sig g)) (rows v g) (one v g) b
        ∙ (sym (part_absent body c number leader lead is low leads f j at x hx fx both v sx (Some g) l b)
        ∙ (e
        ∙ (part_absent body c number leader lead is low leads f j at y hy fy both w sy (Some g) l b
        ∙ sym (if_false (nat_lt j (arity sig g)) (rows w g) (one w g) b)))))
        (cases_Bool (nat_lt j (arity sig g))) in
        let first = ap (λ ks. get_or ks 0 0) none in
        let rest = joined_equal (length sig) (λ g. if nat_lt j (arity sig g) then rows v g else one v g) (λ g. if nat_lt j (arity sig g) then rows w g else one w g) under in
        λ i. first i ∷ rest i

  -- Result: a label that goes by its key goes by its key in views
  pub GoesByEachKey-views : (label : Labelling) → SaysAllMembers both body c label → GoesByEachKey body.signature (body.columns - 1) label (key_by both body c lead)
      → GoesByEachKey body.signature (body.columns - 1) label (keys_by (projection_view number body c) (key_in_view body leader c both))
  GoesByEachKey-views label says goes t u j h k l differ same =
      let sig = body.signature in
      let n = body.columns - 1 in
      let count : kid_count t ≡ kid_count u = kid_count_is sig t h.grounded ∙ (ap (symbol_kids sig) differ.root_is ∙ sym (kid_count_is sig u k.grounded)) in
      let l' : j < kid_count u = omega (arith, l, count) in
      let at : IsOwnPlace body (root t) j = record { symbol = IsTupleSymbol-root sig n t h; place = omega (arith, l, kid_count_is sig t h.grounded) } in
      let hx = IsTuple-kid sig n t j h l in
      let hy = IsTuple-kid sig n u j k l' in
      let fx = kid_fits sig t j h.grounded in
      let fy = subst (λ (f : TupleSymbol). FitsKid sig f j (kid u j)) (sym differ.root_is) (kid_fits sig u j k.grounded) in
      goes t u j h k l differ (same_key (root t) j at (kid t j) (kid u j) hx hy fx fy (label (kid t j)) (label (kid u j)) (says (kid t j) hx) (says (kid u j) hy) same)

-- Result: the label of a projection goes by its keys in views
pub projection_goes : (body : Table) (c : ℕ) (number : TupleSymbol → ℕ → ℕ) (leader : ℕ → ℕ → ℕ) (lead : Leaders) → IsTable body → IsReached body → c < body.columns → IsLedBy body lead
    → ((f : TupleSymbol) (j q : ℕ) → MayBeKid body.signature body.columns body.presences f j q → lead f j q ≡ leader (number f j) q)
    → GoesByEachKey body.signature (body.columns - 1) (label_of (project_rule body c)) (keys_by (projection_view number body c) (key_in_view body leader c false))
projection_goes body c number leader lead is reached low led leads =
    GoesByEachKey-views body c number leader lead is low leads false (label_of (project_rule body c))
    (λ t h. let x = label_exact body c is reached low t h in record { absent = x.absent; given = λ q l e. (x.given q).0 e; many = λ e. absurd (false≢true e) })
    (GoesByEachKey-projection body c lead is reached low led)

-- Result: so does that of "infinitely many", whatever tells which terms are infinitely many
pub many_goes : (body : Table) (c : ℕ) (number : TupleSymbol → ℕ → ℕ) (leader : ℕ → ℕ → ℕ) (lead : Leaders) → IsTable body → IsReached body → c < body.columns → IsLedBy body lead
    → ((f : TupleSymbol) (j q : ℕ) → MayBeKid body.signature body.columns body.presences f j q → lead f j q ≡ leader (number f j) q)
    → (many : ℕ → Bool) → GoesByEachKey body.signature (body.columns - 1) (label_of (many_rule body c many)) (keys_by (projection_view number body c) (key_in_view body leader c true))
many_goes body c number leader lead is reached low led leads many =
    GoesByEachKey-views body c number leader lead is low leads true (label_of (many_rule body c many))
    (λ t h. let x = label_told body c many is reached low t h in
    record { absent = x.absent; given = λ q l e. (x.given q l).0 e; many = λ _ q l e. (x.given q l).0 (many_given body c many is reached low t q h l e) })
    (GoesByEachKey-many body c many lead is reached low led)
