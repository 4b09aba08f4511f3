-- What a label says of the body's states, and what equal keys of two labels say of them.
use Rattle.std.proofs.Common.{◌≡◌, ◌↔◌, ℕ, ◌-◌, ◌<◌, ◌≤◌, List, [], ◌∷◌, length, None, Some, get_or, Bool, true, false, nat_lt, if◌then◌else◌, refl, ap, sym, ◌∙◌, arith, subst}
use Rattle.std.proofs.lemmas.Bool.{lt-ltb, le-ltb}
use Rattle.std.specs.List.{insert}
use Rattle.fort_tables.specs.Tuples.{Tuple, TupleSymbol, kid, kid_count, IsTuple, arity, symbol_kids}
use Rattle.fort_tables.specs.Tables.{Table, IsTable, state_of}
use Rattle.fort_tables.specs.Labels.{Labelling}
use Rattle.fort_tables.specs.Laid.{joined_below}
use Rattle.fort_tables.specs.Projections.{absent_state, has_state, Gives}
use Rattle.fort_tables.proofs.TupleLaws.{IsTuple-kid, kid_count_is}
use Rattle.fort_tables.proofs.CompletedTuples.{completed_small}
use Rattle.fort_classes.specs.Leaders.{Leaders}
use Rattle.fort_classes.specs.Keys.{DifferAt}
use Rattle.fort_operand_keys.specs.ProjectionKeys.{leader_row}
use Rattle.fort_operand_keys.proofs.RowLaws.{joined_same, led_in_row}
use Rattle.fort_operand_keys.proofs.ChoiceLaws.{AreAlikeBut, HaveOneKey}

-- what the label says of the body's states
pub record SaysStates (body : Table) (c : ℕ) (t : Tuple) (w : List ℕ) : Type 0 where
  pub absent : absent_state w ≡ state_of body (insert t c None)
  pub given : (q : ℕ) → q < length body.presences → (has_state w q ≡ true) ↔ Gives body c t q

-- of each tuple
abbrev pub SaysAll : Table → ℕ → Labelling → Type 0
SaysAll body c label = (t : Tuple) → IsTuple body.signature (body.columns - 1) t → SaysStates body c t (label t)

pub given_small : (body : Table) (c : ℕ) (t : Tuple) (q : ℕ) → IsTable body → c < body.columns → IsTuple body.signature (body.columns - 1) t → Gives body c t q → q < length body.presences
given_small body c t q is low h y = subst (λ (k : ℕ). k < length body.presences) y.2 (completed_small body c t y.0 is low y.1 h.width h.grounded)

-- Result: where labels differ at one place, the other children say the same
pub alike_but : (body : Table) (c : ℕ) (label : Labelling) → IsTable body → c < body.columns → SaysAll body c label → (t u : Tuple) (j : ℕ) → IsTuple body.signature (body.columns - 1) t → IsTuple body.signature (body.columns - 1) u
    → j < kid_count t → DifferAt label t u j → AreAlikeBut body c t u j
alike_but body c label is low says t u j h k l differ =
    let sig = body.signature in
    let n = body.columns - 1 in
    let counts : kid_count t ≡ kid_count u = kid_count_is sig t h.grounded ∙ (ap (symbol_kids sig) differ.root_is ∙ sym (kid_count_is sig u k.grounded)) in
    record {
      first_is = h;
      second_is = k;
      root_is = differ.root_is;
      place = l;
      given = λ i q m apart y.
          let ht = IsTuple-kid sig n t i h m in
          let hu = IsTuple-kid sig n u i k (omega arith) in
          let small = given_small body c (kid t i) q is low ht y in
          ((says (kid u i) hu).given q small).0 (ap (λ w. has_state w q) (sym (differ.others i m apart)) ∙ ((says (kid t i) ht).given q small).1 y);
      absent = λ i m apart.
          sym (says (kid t i) (IsTuple-kid sig n t i h m)).absent ∙ (ap absent_state (differ.others i m apart) ∙ (says (kid u i) (IsTuple-kid sig n u i k (omega arith))).absent);
    }

-- the same for the other one
pub differ_back : (label : Labelling) (t u : Tuple) (j : ℕ) → kid_count t ≡ kid_count u → DifferAt label t u j → DifferAt label u t j
differ_back label t u j counts d = record { root_is = sym d.root_is; others = λ i l apart. sym (d.others i (omega arith) apart) }

-- what stands behind the first numbers of equal lists
behind : (x y : ℕ) (xs ys : List ℕ) → x ∷ xs ≡ y ∷ ys → xs ≡ ys
behind x y xs ys same = cc

-- a part is a row or one number
if_long : (b : Bool) (xs ys : List ℕ) (m n : ℕ) → length xs ≡ length ys → length (if b then xs else m ∷ []) ≡ length (if b then ys else n ∷ [])
if_long true xs ys m n h = h
if_long false xs ys m n h = refl

-- the leader of the state with the column absent; and for each symbol in the column some row, or where it has no such child that state's leader
abbrev pub key_with : Table → ℕ → Leaders → TupleSymbol → ℕ → (ℕ → List ℕ → List ℕ) → List ℕ → List ℕ
key_with body c lead f j rows w =
    lead (insert f c None) j (absent_state w) ∷ joined_below (length body.signature) (λ g. if nat_lt j (arity body.signature g) then rows g w else lead (insert f c (Some g)) j (absent_state w) ∷ [])

-- the parts of two such keys are equal
pub record HaveSameParts (body : Table) (c : ℕ) (lead : Leaders) (f : TupleSymbol) (j : ℕ) (rows : ℕ → List ℕ → List ℕ) (v w : List ℕ) : Type 0 where
  pub absent : lead (insert f c None) j (absent_state v) ≡ lead (insert f c None) j (absent_state w)
  pub absent_under : (g : ℕ) → g < length body.signature → arity body.signature g ≤ j → lead (insert f c (Some g)) j (absent_state v) ≡ lead (insert f c (Some g)) j (absent_state w)
  pub row : (g : ℕ) → g < length body.signature → j < arity body.signature g → rows g v ≡ rows g w

-- rows of known lengths, so the parts of equal keys are equal
pub key_parts : (body : Table) (c : ℕ) (lead : Leaders) (f : TupleSymbol) (j : ℕ) (rows : ℕ → List ℕ → List ℕ) (v w : List ℕ) → ((g : ℕ) → length (rows g v) ≡ length (rows g w))
    → key_with body c lead f j rows v ≡ key_with body c lead f j rows w → HaveSameParts body c lead f j rows v w
key_parts body c lead f j rows v w long same =
    let sig = body.signature in
    let first : List ℕ → ℕ = λ z. lead (insert f c None) j (absent_state z) in
    let one : ℕ → List ℕ → ℕ = λ g z. lead (insert f c (Some g)) j (absent_state z) in
    let part : List ℕ → ℕ → List ℕ = λ z g. if nat_lt j (arity sig g) then rows g z else one g z ∷ [] in
    let under : (g : ℕ) → g < length sig → part v g ≡ part w g =
    joined_same (length sig) (part v) (part w) (λ g. if_long (nat_lt j (arity sig g)) (rows g v) (rows g w) (one g v) (one g w) (long g))
    (behind (first v) (first w) (joined_below (length sig) (part v)) (joined_below (length sig) (part w)) same) in
    record {
      absent = ap (λ ks. get_or ks 0 0) same;
      absent_under = λ g l a.
          let e = le-ltb j (arity sig g) a in
          let z : one g v ∷ [] ≡ one g w ∷ [] = sym (ap (λ b. if b then rows g v else one g v ∷ []) e) ∙ (under g l ∙ ap (λ b. if b then rows g w else one g w ∷ []) e) in
          ap (λ ks. get_or ks 0 0) z;
      row = λ g l a.
          let e = lt-ltb j (arity sig g) a in
          sym (ap (λ b. if b then rows g v else one g v ∷ []) e) ∙ (under g l ∙ ap (λ b. if b then rows g w else one g w ∷ []) e);
    }

-- Result: labels whose keys have the same parts, with the same leaders of the states of their sets, ask one thing of their tuples
pub one_key : (body : Table) (c : ℕ) (lead : Leaders) (f : TupleSymbol) (j : ℕ) (rows : ℕ → List ℕ → List ℕ) (x y : Tuple) (v w : List ℕ) → SaysStates body c x v → SaysStates body c y w → HaveSameParts body c lead f j rows v w
    → ((g : ℕ) → g < length body.signature → j < arity body.signature g → leader_row (length body.presences) (lead (insert f c (Some g)) j) (has_state v) ≡ leader_row (length body.presences) (lead (insert f c (Some g)) j) (has_state w))
    → HaveOneKey body c lead f j x y
one_key body c lead f j rows x y v w sx sy parts given = record {
  absent = ap (lead (insert f c None) j) (sym sx.absent) ∙ (parts.absent ∙ ap (lead (insert f c None) j) sy.absent);
  absent_under = λ g l a. ap (lead (insert f c (Some g)) j) (sym sx.absent) ∙ (parts.absent_under g l a ∙ ap (lead (insert f c (Some g)) j) sy.absent);
  given = λ g q l a small low z.
      let s = led_in_row (length body.presences) (lead (insert f c (Some g)) j) (has_state v) (has_state w) (given g l a) q small low ((sx.given q small).1 z) in
      record { state = s.state; given = (sy.given s.state s.within).0 s.does; leader_is = sym s.leader_is };
}
