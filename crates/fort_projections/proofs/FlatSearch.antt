-- The last child's states, word by word, and what they give in the flat form.
use Rattle.std.proofs.Common.{◌≡◌, ℕ, zero, suc, ◌+◌, ◌-◌, ◌*◌, ◌/◌, ◌^◌, ◌<◌, ◌≤◌, ◌==◌, ◌&&◌, ◌||◌, w64, min, List, [], ◌∷◌, ◌++◌, length, get_or, Bool, true, false, ⊎_elim, refl, ap, sym, ◌∙◌, arith, subst, append_assoc, length-append}
use Rattle.std.proofs.Math.Nat.{div-div-eq-div-mul, div-eq_of_lt}
use Rattle.std.proofs.lemmas.Bool.{cases_lt}
use Rattle.std.proofs.lemmas.Bool.Decides.{nat_tests}
use Rattle.std.proofs.lemmas.List.{get_or_append_left, get_or-append-add}
use Rattle.std.proofs.lemmas.Nat.{pow-add}
use Rattle.std.specs.Int.{trailing_zeros}
use Rattle.std.specs.Slice.Scan.{HoldsNowhere}
use Rattle.fort_tables.specs.Tuples.{TupleSymbol, symbol_kids}
use Rattle.fort_tables.specs.Entries.{Entry, entry}
use Rattle.fort_tables.specs.Tables.{Table, IsTableEntry, IsTable, IsReached}
use Rattle.fort_tables.specs.BitRows.{has_bit}
use Rattle.fort_tables.proofs.TableLaws.{IsKidState, IsTableEntry-kid_states}
use Rattle.fort_tables.specs.Projections.{some_below, some_choice, has_state}
use Rattle.fort_projections.specs.Choices.{IsNext, AreChoices, may_choose, is_reachable}
use Rattle.fort_target_lists.specs.Places.{number_of, place_from, AreStatesIn}
use Rattle.fort_projections.specs.declared.marks.Stride.{Stride}
use Rattle.fort_projections.specs.Strides.{IsReadable, place_with, place_at, read_at}
use Rattle.fort_target_lists.specs.Flats.{IsFlatOf}
use Rattle.fort_target_lists.specs.declared.flat.FlatTargets.{FlatTargets}
use Rattle.fort_projections.proofs.BitSearch.{inside_word, hit_in_word, none_in_word}
use Rattle.fort_target_lists.proofs.PlaceLaws.{place_from-more, rank_below}
use Rattle.fort_projections.proofs.ProjectEntries.{choices_symbol, choice_state}
use Rattle.fort_projections.proofs.ChoiceSearch.{kid_state_small, some_below-skip, turn, turn_last, one_choice}

-- the bits of a word as states of the set
next_state_at : (w : List ℕ) (a b x y : ℕ) → 128 + a ≡ x → 128 + b ≡ y → IsNext (has_bit w) x y → IsNext (has_state w) a b
next_state_at w a b x y e h n = record {
  low = omega (arith, n.low);
  hit = ap (has_bit w) h ∙ n.hit;
  before = λ i l m. n.before (128 + i) (omega arith) (omega arith);
}

-- a word of a set that was shifted down
pub record IsRestOf (set : List ℕ) (i state n : ℕ) : Type 0 where
  pub behind : 2 ≤ i
  pub low : 64 * (i - 2) ≤ state
  pub high : state ≤ 64 * (i - 2) + 64
  pub small : get_or set i 0 < 2 ^ 64
  pub is : n ≡ get_or set i 0 / 2 ^ (state - 64 * (i - 2))

rest_inside : (set : List ℕ) (i state n : ℕ) → IsRestOf set i state n → (n ≡ 0 → ⊥) → state - 64 * (i - 2) < 64
rest_inside set i state n r some =
    let s = state - 64 * (i - 2) in
    ⊎_elim (λ (l : s < 64). l)
    (λ (l : 64 ≤ s).
    let e : s ≡ 64 = omega (arith, r.high) in
    absurd (some (r.is ∙ (ap (λ k. get_or set i 0 / 2 ^ k) e ∙ div-eq_of_lt r.small))))
    (cases_lt s 64)

pub rest_next : (set : List ℕ) (i state n : ℕ) → IsRestOf set i state n → (n ≡ 0 → ⊥) → IsNext (has_state set) state (state + trailing_zeros w64 n)
rest_next set i state n r some =
    let s = state - 64 * (i - 2) in
    let z = trailing_zeros w64 n in
    next_state_at set state (state + z) (64 * i + s) (64 * i + s + z) (omega (arith, r.behind, r.low)) (omega (arith, r.behind, r.low)) (hit_in_word set i s n (rest_inside set i state n r some) r.small r.is some)

pub rest_none : (set : List ℕ) (i state n : ℕ) → IsRestOf set i state n → n ≡ 0 → HoldsNowhere (has_state set) state (64 * (i - 2) + 64)
rest_none set i state n r e = λ k l m. none_in_word set i (state - 64 * (i - 2)) n r.is e (128 + k) (omega (arith, r.behind, r.low)) (omega (arith, r.behind, r.low))

pub rest_more : (set : List ℕ) (i state n m : ℕ) → IsRestOf set i state n → (n ≡ 0 → ⊥) → m ≡ n / 2 ^ trailing_zeros w64 n / 2 ^ 1 → IsRestOf set i (state + trailing_zeros w64 n + 1) m
rest_more set i state n m r some e =
    let s = state - 64 * (i - 2) in
    let z = trailing_zeros w64 n in
    let x = get_or set i 0 in
    let inside = inside_word set i s n (rest_inside set i state n r some) r.small r.is some in
    let a : n / 2 ^ z / 2 ^ 1 ≡ x / 2 ^ (s + z + 1) =
    ap (λ y. y / 2 ^ z / 2 ^ 1) r.is
    ∙ (ap (λ y. y / 2 ^ 1) (div-div-eq-div-mul x (2 ^ s) (2 ^ z) ∙ ap (λ p. x / p) (sym (pow-add 2 s z)))
    ∙ (div-div-eq-div-mul x (2 ^ (s + z)) (2 ^ 1) ∙ ap (λ p. x / p) (sym (pow-add 2 (s + z) 1)))) in
    let t : s + z + 1 ≡ state + z + 1 - 64 * (i - 2) = omega (arith, r.low) in
    record {
      behind = r.behind;
      low = omega (arith, r.low);
      high = omega (arith, inside, r.low);
      small = r.small;
      is = e ∙ (a ∙ ap (λ k. x / 2 ^ k) t);
    }

pub shift_test : (t q : ℕ) → ((128 + t) == (128 + q)) ≡ (t == q)
shift_test t q = grind (arith, nat_tests)

-- one more state of a word, which is marked
pub word_turn : (set : List ℕ) (i state n t q : ℕ) (read : ℕ → ℕ) (new mid before : Bool) → IsRestOf set i state n → (n ≡ 0 → ⊥) → t ≡ read (state + trailing_zeros w64 n) → new ≡ (((128 + t) == (128 + q)) || mid) → mid ≡ (some_below state (λ k. has_state set k && (read k == q)) || before)
    → new ≡ (some_below (state + trailing_zeros w64 n + 1) (λ k. has_state set k && (read k == q)) || before)
word_turn set i state n t q read new mid before r some e h g =
    turn (has_state set) (λ k. read k == q) state (state + trailing_zeros w64 n) (t == q) new mid before (rest_next set i state n r some) (ap (λ x. x == q) (sym e)) (h ∙ ap (λ b. b || mid) (shift_test t q)) g

pub word_last : (set : List ℕ) (i state n q : ℕ) (read : ℕ → ℕ) (new before : Bool) → IsRestOf set i state n → n ≡ 0 → new ≡ (some_below state (λ k. has_state set k && (read k == q)) || before) → new ≡ (some_below (64 * (i - 2) + 64) (λ k. has_state set k && (read k == q)) || before)
word_last set i state n q read new before r e h = turn_last (has_state set) (λ k. read k == q) state (64 * (i - 2) + 64) new before r.high (rest_none set i state n r e) h

-- what a child's state gives in a stride, the states being these with it
pub record IsInStride (body : Table) (f : TupleSymbol) (stride : Stride) (ks : List ℕ) (k : ℕ) : Type 0 where
  pub readable : IsReadable stride k
  pub small : k < length body.presences
  pub target : read_at stride k ≡ body.target (entry f ks)
  pub within : read_at stride k < length body.presences

times_some : (p a : ℕ) → 0 < a → p ≤ p * a
times_some p zero l = absurd (omega arith)
times_some p (suc a) l = omega arith

-- the states of the children before the last one, and the last one's
kid_states_more : (body : Table) (f : TupleSymbol) (before : List ℕ) (k : ℕ) → ((i : ℕ) → i < length before → IsKidState body f i (get_or before i 0)) → IsKidState body f (length before) k → (i : ℕ) → i < length (before ++ k ∷ []) → IsKidState body f i (get_or (before ++ k ∷ []) i 0)
kid_states_more body f before k h last i l =
    ⊎_elim
    (λ (o : i < length before). subst (IsKidState body f i) (sym (get_or_append_left before (k ∷ []) 0 i o)) (h i o))
    (λ (o : length before ≤ i).
    let e : length before ≡ i = omega (arith, l, length-append before (k ∷ [])) in
    let at : k ≡ get_or (before ++ k ∷ []) (length before) 0 = sym (ap (λ z. get_or (before ++ k ∷ []) z 0) (let z : length before ≡ length before + 0 = omega arith in z) ∙ get_or-append-add before (k ∷ []) 0 0) in
    subst (λ (z : ℕ). IsKidState body f z (get_or (before ++ k ∷ []) z 0)) e (subst (IsKidState body f (length before)) at last))
    (cases_lt i (length before))

-- a list of states that are all there
pub states_in : (body : Table) (f : TupleSymbol) (flat : FlatTargets) (ks : List ℕ) → IsTable body → IsFlatOf body flat → ((i : ℕ) → i < length ks → IsKidState body f i (get_or ks i 0)) → AreStatesIn flat.spots ks
states_in body f flat ks is flat_is h = λ i l. let s = kid_state_small body f i (get_or ks i 0) is (h i l) in (omega (arith, s, flat_is.spots.ranks_are.size), omega (arith, s, flat_is.spots.alike_are.size))

in_stride : (body : Table) (f : TupleSymbol) (stride : Stride) (ks : List ℕ) (k p : ℕ) → IsTable body → IsFlatOf body stride.flat.now → stride.start ≡ get_or stride.flat.now.listing.starts.items (number_of stride.flat.now.base f) 0 → IsTableEntry body (entry f ks) → k < length body.presences
    → stride.place ≡ min p (2 ^ 64 - 1) → 0 < stride.times → place_from stride.flat.now.spots.ranks.items stride.flat.now.spots.alike.items 0 ks ≡ (p * get_or stride.flat.now.spots.alike.items k 0 + get_or stride.flat.now.spots.ranks.items k 0) * stride.times + stride.plus
    → length stride.flat.now.listing.targets.items < 2 ^ 64 → IsInStride body f stride ks k
in_stride body f stride ks k p is flat_is starts whole small places times here few =
    let flat = stride.flat.now in
    let ps = body.presences in
    let at = flat_is.entries (entry f ks) whole in
    let a = get_or flat.spots.alike.items k 0 in
    let r = get_or flat.spots.ranks.items k 0 in
    let some : 0 < a = omega (arith, flat_is.spots.alike_are.count k small, rank_below (get_or ps k 0) ps k small refl) in
    let bound : p * a + r < 2 ^ 64 = omega (arith, at.within, here, times_some (p * a + r) stride.times times, few) in
    let same : stride.place ≡ p = omega (arith, places, bound, times_some p a some) in
    let low : place_with stride k < 2 ^ 64 = subst (λ (x : ℕ). x * a + r < 2 ^ 64) (sym same) bound in
    let e : place_at stride k ≡ get_or flat.listing.starts.items (number_of flat.base f) 0 + place_from flat.spots.ranks.items flat.spots.alike.items 0 ks = (λ i. starts i + ((same i * a + r) * stride.times + stride.plus)) ∙ ap (λ z. get_or flat.listing.starts.items (number_of flat.base f) 0 + z) (sym here) in
    let is_target : read_at stride k ≡ body.target (entry f ks) = ap (λ z. get_or flat.listing.targets.items z 0) e ∙ at.is in
    record {
      readable = record { state = (omega (arith, small, flat_is.spots.ranks_are.size), omega (arith, small, flat_is.spots.alike_are.size)); few = low; within = omega (arith, e, at.within) };
      small = small;
      target = is_target;
      within = omega (arith, is_target, is.within (entry f ks) whole);
    }

times_one : (x t u : ℕ) → t ≡ 1 → u ≡ 0 → x ≡ x * t + u
times_one x t u e h = let z : x ≡ x * 1 + 0 = omega arith in z ∙ (λ i. x * sym e i + sym h i)

pub last_child : (body : Table) (c : ℕ) (alone : List ℕ) (labels : List (List ℕ)) (e : Entry) (g : ℕ) (f : TupleSymbol) (most : ℕ) → IsTable body → IsReached body → AreChoices body c alone labels e g f most
    → (stride : Stride) (before : List ℕ) → IsFlatOf body stride.flat.now → stride.start ≡ get_or stride.flat.now.listing.starts.items (number_of stride.flat.now.base f) 0 → length before + 1 ≡ symbol_kids body.signature f → ((i : ℕ) → i < length before → IsKidState body f i (get_or before i 0))
    → stride.place ≡ min (place_from stride.flat.now.spots.ranks.items stride.flat.now.spots.alike.items 0 before) (2 ^ 64 - 1) → stride.times ≡ 1 → stride.plus ≡ 0 → length stride.flat.now.listing.targets.items < 2 ^ 64
    → (k : ℕ) → may_choose body c labels e most (length before) k ≡ true → IsInStride body f stride (before ++ k ∷ []) k
last_child body c alone labels e g f most is reached h stride before flat_is starts count kids places times plus few k o =
    let kid = choice_state body c alone labels e g f most is reached h (length before) k (omega (arith, count)) o in
    let ks = before ++ k ∷ [] in
    let whole : IsTableEntry body (entry f ks) = IsTableEntry-kid_states body (entry f ks) is (choices_symbol body c alone labels e g f most h) (omega (arith, length-append before (k ∷ []), count)) (kid_states_more body f before k kids kid) in
    let ranks = stride.flat.now.spots.ranks.items in
    let alike = stride.flat.now.spots.alike.items in
    let p = place_from ranks alike 0 before in
    in_stride body f stride ks k p is flat_is starts whole (kid_state_small body f (length before) k is kid) places (omega (arith, times))
    (place_from-more ranks alike 0 before k ∙ times_one (p * get_or alike k 0 + get_or ranks k 0) stride.times stride.plus times plus) few

-- the same, where the last child is in one state and this one is before it
pub child_before : (body : Table) (c : ℕ) (alone : List ℕ) (labels : List (List ℕ)) (e : Entry) (g : ℕ) (f : TupleSymbol) (most : ℕ) → IsTable body → IsReached body → AreChoices body c alone labels e g f most
    → (stride : Stride) (before : List ℕ) (last : ℕ) → IsFlatOf body stride.flat.now → stride.start ≡ get_or stride.flat.now.listing.starts.items (number_of stride.flat.now.base f) 0 → length before + 2 ≡ symbol_kids body.signature f → ((i : ℕ) → i < length before → IsKidState body f i (get_or before i 0)) → IsKidState body f (length before + 1) last
    → stride.place ≡ min (place_from stride.flat.now.spots.ranks.items stride.flat.now.spots.alike.items 0 before) (2 ^ 64 - 1) → stride.times ≡ get_or stride.flat.now.spots.alike.items last 0 → stride.plus ≡ get_or stride.flat.now.spots.ranks.items last 0 → length stride.flat.now.listing.targets.items < 2 ^ 64
    → (k : ℕ) → may_choose body c labels e most (length before) k ≡ true → IsInStride body f stride (before ++ k ∷ last ∷ []) k
child_before body c alone labels e g f most is reached h stride before last flat_is starts count kids last_is places times plus few k o =
    let ps = body.presences in
    let kid = choice_state body c alone labels e g f most is reached h (length before) k (omega (arith, count)) o in
    let front = before ++ k ∷ [] in
    let ks = front ++ last ∷ [] in
    let ranks = stride.flat.now.spots.ranks.items in
    let alike = stride.flat.now.spots.alike.items in
    let p = place_from ranks alike 0 before in
    let one_more : length before + 1 ≡ length front = omega (arith, length-append before (k ∷ [])) in
    let whole : IsTableEntry body (entry f ks) = IsTableEntry-kid_states body (entry f ks) is (choices_symbol body c alone labels e g f most h) (omega (arith, length-append front (last ∷ []), one_more, count))
    (kid_states_more body f front last (kid_states_more body f before k kids kid) (subst (λ (n : ℕ). IsKidState body f n last) one_more last_is)) in
    let small = kid_state_small body f (length before + 1) last is last_is in
    let some : 0 < stride.times = omega (arith, times, flat_is.spots.alike_are.count last small, rank_below (get_or ps last 0) ps last small refl) in
    let here : place_from ranks alike 0 ks ≡ (p * get_or alike k 0 + get_or ranks k 0) * stride.times + stride.plus =
    place_from-more ranks alike 0 front last ∙ ((λ i. place_from-more ranks alike 0 before k i * get_or alike last 0 + get_or ranks last 0) ∙ (λ i. (p * get_or alike k 0 + get_or ranks k 0) * sym times i + sym plus i)) in
    subst (λ (xs : List ℕ). IsInStride body f stride xs k) (append_assoc before (k ∷ []) (last ∷ []))
    (in_stride body f stride ks k p is flat_is starts whole (kid_state_small body f (length before) k is kid) places some here few)

-- what the states of the set give is what may be chosen
and_same : (a b x y : Bool) → a ≡ b → (b ≡ true → x ≡ y) → (a && x) ≡ (b && y)
and_same a true x y e h = ap (λ z. z && x) e ∙ h refl
and_same a false x y e h = ap (λ z. z && x) e

none_from : (b x : Bool) → (b ≡ true → ⊥) → (b && x) ≡ false
none_from true x h = absurd (h refl)
none_from false x h = refl

pub set_below : (may in_set : ℕ → Bool) (read : ℕ → ℕ) (n count q : ℕ) → ((k : ℕ) → in_set k ≡ may k) → ((k : ℕ) → may k ≡ true → k < n) → n ≤ count
    → some_below count (λ k. in_set k && (read k == q)) ≡ some_below n (λ k. may k && (read k == q))
set_below may in_set read n count q same small many =
    let p : ℕ → Bool = λ k. may k && (read k == q) in
    let s : (k : ℕ) → (in_set k && (read k == q)) ≡ p k = λ k. ap (λ b. b && (read k == q)) (same k) in
    ap (some_below count) (λ i k. s k i)
    ∙ some_below-skip p n count many (λ k l m. none_from (may k) (read k == q) (λ o. omega (arith, small k o, l)))

pub same_below : (may : ℕ → Bool) (read target : ℕ → ℕ) (n q : ℕ) → ((k : ℕ) → may k ≡ true → read k ≡ target k) → some_below n (λ k. may k && (read k == q)) ≡ some_below n (λ k. may k && (target k == q))
same_below may read target n q same =
    let s : (k : ℕ) → (may k && (read k == q)) ≡ (may k && (target k == q)) = λ k. and_same (may k) (may k) (read k == q) (target k == q) refl (λ o. ap (λ t. t == q) (same k o)) in
    ap (some_below n) (λ i k. s k i)

-- a search over the last two children, where the last one may be in one state alone
first_below : (n last : ℕ) → last < n → (i : ℕ) → i < 1 → get_or (last ∷ []) i 0 < n
first_below n last l zero h = l
first_below n last l (suc i) h = absurd (omega (arith, h))

first_alone : (may : ℕ → Bool) (last : ℕ) → ((k : ℕ) → may k ≡ (last == k)) → (i k : ℕ) → i < 1 → may k ≡ (get_or (last ∷ []) i 0 == k)
first_alone may last same zero k h = same k
first_alone may last same (suc i) k h = absurd (omega (arith, h))

pub reachable_before : (body : Table) (may : ℕ → ℕ → Bool) (first : ℕ → Bool) (f : TupleSymbol) (before : List ℕ) (j rest last q : ℕ) → rest ≡ 2 → last < length body.presences → ((k : ℕ) → may j k ≡ first k) → ((k : ℕ) → may (j + 1) k ≡ (last == k))
    → is_reachable body may f before j rest q ≡ some_below (length body.presences) (λ k. first k && (body.target (entry f (before ++ k ∷ last ∷ [])) == q))
reachable_before body may first f before j rest last q two small own alone =
    let n = length body.presences in
    let next : suc j ≡ j + 1 = omega arith in
    let behind : (k : ℕ) → some_choice n may (suc j) 1 (λ ks. body.target (entry f (before ++ k ∷ ks)) == q) ≡ (body.target (entry f (before ++ k ∷ last ∷ [])) == q) =
    λ k. one_choice n (λ i. may (suc j)) (last ∷ []) (λ ks. body.target (entry f (before ++ k ∷ ks)) == q) (first_below n last small) (first_alone (may (suc j)) last (λ l. ap (λ a. may a l) next ∙ alone l)) in
    ap (λ a. is_reachable body may f before j a q) two
    ∙ ap (some_below n) (λ i k. own k i && behind k i)

pub reachable_last : (body : Table) (may : ℕ → ℕ → Bool) (last : ℕ → Bool) (f : TupleSymbol) (before : List ℕ) (j rest q : ℕ) → rest ≡ 1 → ((k : ℕ) → may j k ≡ last k)
    → is_reachable body may f before j rest q ≡ some_below (length body.presences) (λ k. last k && (body.target (entry f (before ++ k ∷ [])) == q))
reachable_last body may last f before j rest q one own =
    ap (λ a. is_reachable body may f before j a q) one
    ∙ ap (some_below (length body.presences)) (λ i k. own k i && (body.target (entry f (before ++ k ∷ [])) == q))
