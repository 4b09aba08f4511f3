-- The leaders of a label's states, state after state.
use Rattle.std.proofs.Common.{◌≡◌, ℕ, zero, suc, ◌+◌, ◌-◌, ◌*◌, ◌/◌, ◌%◌, ◌<◌, ◌≤◌, List, length, take, drop, get_or, Bool, true, false, ◌&&◌, ◌||◌, ◌==◌, ⊎_elim, refl, ap, sym, ◌∙◌, arith}
use Rattle.std.proofs.lemmas.Bool.{cases_lt}
use Rattle.std.proofs.lemmas.List.{take_all, length-drop}
use Rattle.std.specs.Slice.Scan.{HoldsNowhere}
use Rattle.fort_tables.specs.Tuples.{TupleSymbol}
use Rattle.fort_tables.specs.Tables.{Table}
use Rattle.fort_tables.specs.BitRows.{AreWords, words_for, has_bit}
use Rattle.fort_tables.specs.Projections.{some_below, has_state}
use Rattle.fort_tables.proofs.BitRowLaws.{has_bit-drop, bit_row_is}
use Rattle.fort_classes.specs.Leaders.{Leaders, MayBeKid}
use Rattle.fort_operand_keys.specs.TableLeaders.{IsLedBy}
use Rattle.fort_operand_keys.specs.ProjectionKeys.{some_led}
use Rattle.fort_table_classes.specs.ClassViews.{IsSeenIn}
use Rattle.fort_projections.specs.Choices.{IsNext}
use Rattle.fort_projection_keys.specs.ProjectionViews.{is_member, member_row}
use Rattle.fort_projection_keys.specs.ViewedPlaces.{IsViewed}

-- a state of the presence may stand there
pub seen_in : (table : Table) (number : TupleSymbol → ℕ → ℕ) (view presence state : ℕ) → IsViewed table number view presence → state < length table.presences → get_or table.presences state 0 ≡ presence → IsSeenIn table number view state
seen_in table number view presence state at within is = record {
  symbol = at.symbol;
  place = at.place;
  view_is = at.view_is;
  may = record {
    symbol = at.under.symbol;
    place = at.under.place;
    within = within;
    presence = is ∙ sym at.presence_is;
  };
}

-- its leader is a state
pub leader_small : (table : Table) (number : TupleSymbol → ℕ → ℕ) (leader : ℕ → ℕ → ℕ) (lead : Leaders) (view state : ℕ) → IsLedBy table lead
    → ((f : TupleSymbol) (j q : ℕ) → MayBeKid table.signature table.columns table.presences f j q → lead f j q ≡ leader (number f j) q)
    → IsSeenIn table number view state → leader view state < length table.presences
leader_small table number leader lead view state led leads seen =
    let least = led.leaders.least seen.symbol seen.place state seen.may in
    let same : lead seen.symbol seen.place state ≡ leader view state = leads seen.symbol seen.place state seen.may ∙ ap (λ v. leader v state) seen.view_is in
    omega (arith, least, same, seen.may.within)

-- the words from one on, and their bits
abbrev pub tail : ℕ → List ℕ → List ℕ
tail k w = take (length w - k) (drop k w)

pub state_tail : (k : ℕ) (w : List ℕ) (q : ℕ) → has_state (tail k w) q ≡ has_state w (64 * k + q)
state_tail k w q =
    let e : 64 * k + (128 + q) ≡ 128 + (64 * k + q) = omega arith in
    ap (λ v. has_state v q) (take_all (length w - k) (drop k w) (omega (arith, length-drop k w))) ∙ (has_bit-drop k w (128 + q) ∙ ap (has_bit w) e)

-- the next bit in the row behind some words is that of a state
pub next_is : (w : List ℕ) (first from k found : ℕ) → k ≡ (first + from) / 64 → IsNext (has_state (tail k w)) ((first + from) % 64) found → IsNext (λ q. has_state w (first + q)) from (64 * k + found - first)
next_is w first from k found e n =
    let low : first + from ≤ 64 * k + found = omega (arith, e, n.low) in
    record {
      low = omega (arith, low);
      hit = let s : 64 * k + found ≡ first + (64 * k + found - first) = omega (arith, low) in ap (has_state w) (sym s) ∙ (sym (state_tail k w found) ∙ n.hit);
      before = λ q l m.
          let s : 64 * k + (first + q - 64 * k) ≡ first + q = omega (arith, e, l) in
          ap (has_state w) (sym s) ∙ (sym (state_tail k w (first + q - 64 * k)) ∙ n.before (first + q - 64 * k) (omega (arith, e, l)) (omega (arith, e, l, m, low)));
    }

pub none_is : (w : List ℕ) (first from to k : ℕ) → k ≡ (first + from) / 64 → ((q : ℕ) → (first + from) % 64 ≤ q → 64 * k + q < first + to → has_state (tail k w) q ≡ false) → HoldsNowhere (λ q. has_state w (first + q)) from to
none_is w first from to k e none q l m =
    let s : 64 * k + (first + q - 64 * k) ≡ first + q = omega (arith, e, l) in
    ap (has_state w) (sym s) ∙ (sym (state_tail k w (first + q - 64 * k)) ∙ none (first + q - 64 * k) (omega (arith, e, l)) (omega (arith, s, m)))

and_false : (a b : Bool) → b ≡ false → (a && b) ≡ false
and_false true b e = e
and_false false b e = refl

or_false : (b : Bool) → (b || false) ≡ b
or_false true = refl
or_false false = refl

or_turned : (a b : Bool) → (a || b) ≡ (b || a)
or_turned true true = refl
or_turned true false = refl
or_turned false true = refl
or_turned false false = refl

and_more : (a b c : Bool) → b ≡ true → (a && c) ≡ ((a && b) && c)
and_more true true c e = refl
and_more true false c e = absurd cc
and_more false b c e = refl

-- nothing more below a greater number
pub more_none : (p : ℕ → Bool) (from to : ℕ) → from ≤ to → HoldsNowhere p from to → some_below to p ≡ some_below from p
more_none p from zero low none = let e : from ≡ 0 = omega (arith, low) in ap (λ n. some_below n p) (sym e)
more_none p from (suc to) low none = ⊎_elim
    (λ (l : from < suc to).
    let m : from ≤ to = omega (arith, l) in
    let last : p to ≡ false = none to m (omega arith) in
    ap (λ b. some_below to p || b) last ∙ (or_false (some_below to p) ∙ more_none p from to m (λ k a b. none k a (omega (arith, b)))))
    (λ (l : suc to ≤ from). let e : suc to ≡ from = omega (arith, l, low) in ap (λ n. some_below n p) e)
    (cases_lt from (suc to))

module _ (body : Table) (leader : ℕ → ℕ → ℕ) (view presence first : ℕ) (w : List ℕ) where
  -- whether a state's leader is to be marked
  abbrev led_to : ℕ → ℕ → Bool
  led_to i q = is_member body presence first w q && (leader view q == i)

  led_none : (i from to : ℕ) → HoldsNowhere (λ q. has_state w (first + q)) from to → HoldsNowhere (led_to i) from to
  led_none i from to none q l m = ap (λ b. b && (leader view q == i)) (and_false (get_or body.presences q 0 == presence) (has_state w (first + q)) (none q l m))

  -- Result: one state more
  pub marked_more : (i from state : ℕ) (new old : Bool) → from ≤ state → IsNext (λ q. has_state w (first + q)) from state
      → new ≡ (((get_or body.presences state 0 == presence) && (leader view state == i)) || old) → old ≡ some_led from (leader view) (is_member body presence first w) i
      → new ≡ some_led (state + 1) (leader view) (is_member body presence first w) i
  marked_more i from state new old low next e before =
      let more : state + 1 ≡ suc state = omega arith in
      let is = get_or body.presences state 0 == presence in
      let same : old ≡ some_below state (led_to i) = before ∙ sym (more_none (led_to i) from state low (led_none i from state next.before)) in
      e
      ∙ (ap (λ b. b || old) (and_more is (has_state w (first + state)) (leader view state == i) next.hit)
      ∙ (or_turned (led_to i state) old
      ∙ (ap (λ b. b || led_to i state) same ∙ ap (λ n. some_below n (led_to i)) (sym more))))

  -- Result: no state more
  pub marked_all : (i from : ℕ) (bit : Bool) → from ≤ length body.presences → HoldsNowhere (λ q. has_state w (first + q)) from (length body.presences)
      → bit ≡ some_led from (leader view) (is_member body presence first w) i → bit ≡ some_led (length body.presences) (leader view) (is_member body presence first w) i
  marked_all i from bit low none h = h ∙ sym (more_none (led_to i) from (length body.presences) low (led_none i from (length body.presences) none))

  -- Result: words with these bits are the row
  pub row_is : (row : List ℕ) → length row ≡ words_for (length body.presences) → AreWords row → ((i : ℕ) → has_bit row i ≡ some_led (length body.presences) (leader view) (is_member body presence first w) i)
      → row ≡ member_row body leader view presence first w
  row_is row wide words h = bit_row_is (length body.presences) (some_led (length body.presences) (leader view) (is_member body presence first w)) row wide words (λ i _. h i)
