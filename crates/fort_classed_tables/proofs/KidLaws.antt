-- Child states in parts; an entry with another state in one place; how many lists of child states there are, and the last of them.
use Rattle.std.proofs.Common.{◌≡◌, ℕ, zero, suc, ◌+◌, ◌-◌, ◌*◌, ◌<◌, ◌≤◌, min, List, [], ◌∷◌, ◌++◌, length, get_or, Bool, if◌then◌else◌, eq-eqb, refl, ap, sym, ◌∙◌, arith, subst, ⊎_elim, length-append}
use Rattle.std.proofs.Math.Nat.{mul_assoc, mul-le-mul_left, mul-le-mul_right}
use Rattle.std.proofs.lemmas.Bool.{cases_lt, cases_eq}
use Rattle.fort_tables.specs.Tuples.{TupleSymbol, IsTupleSymbol, symbol_kids, kid_presence}
use Rattle.fort_tables.specs.Entries.{entry}
use Rattle.fort_tables.specs.Tables.{Table, IsTableEntry}
use Rattle.fort_tables.specs.StateRanks.{count_of, rank_in}
use Rattle.fort_tables.proofs.EqualTests.{test_from_apart}
use Rattle.fort_target_lists.specs.Places.{place_from, AreSpots, AreCounts}
use Rattle.fort_target_lists.proofs.PlaceLaws.{room, AreKidsFrom, kids_from_index, place_first, cap_product}

-- states that may be children, by their places
kids_within : (ps : List ℕ) (w : ℕ → ℕ) (j : ℕ) (ks : List ℕ) → AreKidsFrom ps w j ks → (i : ℕ) → i < length ks → get_or ks i 0 < length ps
kids_within ps w j [] h i l = absurd (omega arith)
kids_within ps w j (k ∷ ks) h zero l = h.0
kids_within ps w j (k ∷ ks) h (suc i) l = kids_within ps w (suc j) ks h.2 i (omega (arith, l))

kids_presence : (ps : List ℕ) (w : ℕ → ℕ) (j : ℕ) (ks : List ℕ) → AreKidsFrom ps w j ks → (i : ℕ) → i < length ks → get_or ps (get_or ks i 0) 0 ≡ w (j + i)
kids_presence ps w j [] h i l = absurd (omega arith)
kids_presence ps w j (k ∷ ks) h zero l = let z : j ≡ j + 0 = omega arith in h.1 ∙ ap w z
kids_presence ps w j (k ∷ ks) h (suc i) l = let z : suc j + i ≡ j + suc i = omega arith in kids_presence ps w (suc j) ks h.2 i (omega (arith, l)) ∙ ap w z

pub kids_front : (ps : List ℕ) (w : ℕ → ℕ) (j : ℕ) (xs ys : List ℕ) → AreKidsFrom ps w j (xs ++ ys) → AreKidsFrom ps w j xs
kids_front ps w j [] ys h = tt
kids_front ps w j (x ∷ xs) ys h = (h.0, h.1, kids_front ps w (suc j) xs ys h.2)

pub kids_behind : (ps : List ℕ) (w : ℕ → ℕ) (j : ℕ) (xs ys : List ℕ) → AreKidsFrom ps w j (xs ++ ys) → AreKidsFrom ps w (j + length xs) ys
kids_behind ps w j [] ys h = let z : j ≡ j + 0 = omega arith in subst (λ i. AreKidsFrom ps w i ys) z h
kids_behind ps w j (x ∷ xs) ys h = let z : suc j + length xs ≡ j + suc (length xs) = omega arith in subst (λ i. AreKidsFrom ps w i ys) z (kids_behind ps w (suc j) xs ys h.2)

pub kids_joined : (ps : List ℕ) (w : ℕ → ℕ) (j : ℕ) (xs ys : List ℕ) → AreKidsFrom ps w j xs → AreKidsFrom ps w (j + length xs) ys → AreKidsFrom ps w j (xs ++ ys)
kids_joined ps w j [] ys h k = let z : j + 0 ≡ j = omega arith in subst (λ i. AreKidsFrom ps w i ys) z k
kids_joined ps w j (x ∷ xs) ys h k = let z : j + suc (length xs) ≡ suc j + length xs = omega arith in (h.0, h.1, kids_joined ps w (suc j) xs ys h.2 (subst (λ i. AreKidsFrom ps w i ys) z k))

-- an entry's children, and an entry of children
pub kids_of : (body : Table) (f : TupleSymbol) (ks : List ℕ) → IsTableEntry body (entry f ks) → AreKidsFrom body.presences (kid_presence body.signature f) 0 ks
kids_of body f ks h = kids_from_index body.presences (kid_presence body.signature f) 0 ks h.within (λ i l. let z : i ≡ 0 + i = omega arith in h.presence i l ∙ ap (kid_presence body.signature f) z)

pub entry_over : (body : Table) (f : TupleSymbol) (ks : List ℕ) → IsTupleSymbol body.signature body.columns f → length ks ≡ symbol_kids body.signature f
    → AreKidsFrom body.presences (kid_presence body.signature f) 0 ks → IsTableEntry body (entry f ks)
entry_over body f ks s n h = record {
  symbol = s;
  count = n;
  within = kids_within body.presences (kid_presence body.signature f) 0 ks h;
  presence = λ i l. let z : 0 + i ≡ i = omega arith in kids_presence body.presences (kid_presence body.signature f) 0 ks h i l ∙ ap (kid_presence body.signature f) z;
}

-- one child and the others
pub record IsChild (body : Table) (f : TupleSymbol) (before behind : List ℕ) (q : ℕ) : Type 0 where
  pub symbol : IsTupleSymbol body.signature body.columns f
  pub place : length before < symbol_kids body.signature f
  pub others : length behind ≡ symbol_kids body.signature f - suc (length before)
  pub within : q < length body.presences
  pub presence : get_or body.presences q 0 ≡ kid_presence body.signature f (length before)
  pub front : AreKidsFrom body.presences (kid_presence body.signature f) 0 before
  pub later : AreKidsFrom body.presences (kid_presence body.signature f) (suc (length before)) behind

pub child_of : (body : Table) (f : TupleSymbol) (before behind : List ℕ) (q : ℕ) → IsTableEntry body (entry f (before ++ q ∷ behind)) → IsChild body f before behind q
child_of body f before behind q h =
    let ps = body.presences in
    let w = kid_presence body.signature f in
    let all = kids_of body f (before ++ q ∷ behind) h in
    let z : 0 + length before ≡ length before = omega arith in
    let back = subst (λ i. AreKidsFrom ps w i (q ∷ behind)) z (kids_behind ps w 0 before (q ∷ behind) all) in
    let n : length before + suc (length behind) ≡ symbol_kids body.signature f = sym (length-append before (q ∷ behind)) ∙ h.count in
    record {
      symbol = h.symbol;
      place = omega (arith, n);
      others = omega (arith, n);
      within = back.0;
      presence = back.1;
      front = kids_front ps w 0 before (q ∷ behind) all;
      later = back.2;
    }

-- Result: another state of the presence may stand there
pub entry_with : (body : Table) (f : TupleSymbol) (before behind : List ℕ) (q p : ℕ) → IsTableEntry body (entry f (before ++ q ∷ behind)) → p < length body.presences
    → get_or body.presences p 0 ≡ kid_presence body.signature f (length before) → IsTableEntry body (entry f (before ++ p ∷ behind))
entry_with body f before behind q p h l e =
    let ps = body.presences in
    let w = kid_presence body.signature f in
    let c = child_of body f before behind q h in
    let z : length before ≡ 0 + length before = omega arith in
    entry_over body f (before ++ p ∷ behind) h.symbol
    (length-append before (p ∷ behind) ∙ (sym (length-append before (q ∷ behind)) ∙ h.count))
    (kids_joined ps w 0 before (p ∷ behind) c.front (subst (λ i. AreKidsFrom ps w i (p ∷ behind)) z (l, e, c.later)))

-- how many lists there are, by the children before a place, there and behind it
room_split : (ps : List ℕ) (w : ℕ → ℕ) (j a b n : ℕ) → n ≡ a + suc b → room ps w j n ≡ room ps w j a * (count_of (w (j + a)) ps * room ps w (suc (j + a)) b)
room_split ps w j zero b n e =
    let m : n ≡ suc b = omega (arith, e) in
    let z : j ≡ j + 0 = omega arith in
    let whole : count_of (w j) ps * room ps w (suc j) b ≡ count_of (w (j + 0)) ps * room ps w (suc (j + 0)) b = ap (λ i. count_of (w i) ps * room ps w (suc i) b) z in
    ap (room ps w j) m ∙ omega (arith, whole)
room_split ps w j (suc a) b n e =
    let m : n ≡ suc (a + suc b) = omega (arith, e) in
    let z : suc j + a ≡ j + suc a = omega arith in
    let c = count_of (w j) ps in
    let front = room ps w (suc j) a in
    let back : ℕ → ℕ = λ i. count_of (w i) ps * room ps w (suc i) b in
    ap (room ps w j) m
    ∙ (ap (λ r. c * r) (room_split ps w (suc j) a b (a + suc b) refl ∙ ap (λ i. front * back i) z)
    ∙ sym (mul_assoc c front (back (j + suc a))))

pub room_parts : (ps : List ℕ) (w : ℕ → ℕ) (n j : ℕ) → j < n → room ps w 0 n ≡ room ps w 0 j * count_of (w j) ps * room ps w (suc j) (n - suc j)
room_parts ps w n j l =
    let b = n - suc j in
    let z : 0 + j ≡ j = omega arith in
    room_split ps w 0 j b n (omega (arith, l))
    ∙ (ap (λ i. room ps w 0 j * (count_of (w i) ps * room ps w (suc i) b)) z
    ∙ sym (mul_assoc (room ps w 0 j) (count_of (w j) ps) (room ps w (suc j) b)))

-- one turn of the loop over places
room_last : (ps : List ℕ) (w : ℕ → ℕ) (j n : ℕ) → room ps w j (n + 1) ≡ room ps w j n * count_of (w (j + n)) ps
room_last ps w j n =
    let c = count_of (w (j + n)) ps in
    let z : c * 1 ≡ c = omega arith in
    room_split ps w j n 0 (n + 1) (omega arith) ∙ ap (λ x. room ps w j n * x) z

pub room_turn : (ps counts : List ℕ) (w : ℕ → ℕ) (j n p x y m : ℕ) → AreCounts ps counts → p ≡ w (j + n) → p < length counts
    → x ≡ min (room ps w j n) m → y ≡ min (x * get_or counts p 0) m → y ≡ min (room ps w j (n + 1)) m
room_turn ps counts w j n p x y m are is low e h =
    let a = get_or counts p 0 in
    let one : a ≡ count_of (w (j + n)) ps = are p low ∙ ap (λ v. count_of v ps) is in
    let more : room ps w j (n + 1) ≡ room ps w j n * a = room_last ps w j n ∙ ap (λ c. room ps w j n * c) (sym one) in
    h ∙ (cap_product x (room ps w j n) a m e ∙ ap (λ k. min k m) (sym more))

-- factors of what isn't 0
some_factor : (c r : ℕ) → 0 < c * r → 0 < c
some_factor zero r h = absurd (omega (arith, h))
some_factor (suc c) r h = omega arith

some_other : (c r : ℕ) → 0 < c * r → 0 < r
some_other c zero h = absurd (omega (arith, h))
some_other c (suc r) h = omega arith

pub record AreFactors (a b t : ℕ) : Type 0 where
  pub first : a ≤ t
  pub last : b ≤ t
  pub some : 0 < b

pub factors : (a n b t : ℕ) → t ≡ a * n * b → 0 < t → AreFactors a b t
factors a n b t e h =
    let both : 0 < a * n = some_factor (a * n) b (omega (arith, e, h)) in
    let last : 0 < b = some_other (a * n) b (omega (arith, e, h)) in
    let x = mul-le-mul_left {m = 1} {n = n} a (some_other a n both) in
    let y = mul-le-mul_left {m = 1} {n = b} (a * n) last in
    let z = mul-le-mul_right {m = 1} {n = a * n} b both in
    record { first = omega (arith, x, y, e); last = omega (arith, z, e); some = last }

-- the last state of a presence
pub record IsLastOf (ps : List ℕ) (w q : ℕ) : Type 0 where
  pub within : q < length ps
  pub is : get_or ps q 0 ≡ w
  pub rank : suc (rank_in w ps q) ≡ count_of w ps

abbrev one_if : Bool → ℕ
one_if b = if b then 1 else 0

last_of : (w : ℕ) (ps : List ℕ) → 0 < count_of w ps → (q : ℕ) × IsLastOf ps w q
last_of w [] h = absurd (omega (arith, h))
last_of w (p ∷ ps) h =
    ⊎_elim
    (λ (l : 0 < count_of w ps). let r = last_of w ps l in (suc r.0, record { within = omega (arith, r.1.within); is = r.1.is; rank = omega (arith, r.1.rank) }))
    (λ (l : count_of w ps ≤ 0).
    ⊎_elim
    (λ (s : p ≡ w). let t = ap one_if (eq-eqb p w s) in (0, record { within = omega arith; is = s; rank = omega (arith, t, l) }))
    (λ (s : p ≡ w → ⊥). let t = ap one_if (test_from_apart p w s) in absurd (omega (arith, t, l, h)))
    (cases_eq p w))
    (cases_lt 0 (count_of w ps))

-- the last child states
pub record LastKids (ps ranks alike : List ℕ) (w : ℕ → ℕ) (j n : ℕ) : Type 0 where
  pub states : List ℕ
  pub count : length states ≡ n
  pub are : AreKidsFrom ps w j states
  pub place : suc (place_from ranks alike 0 states) ≡ room ps w j n

last_place : (x k R P c : ℕ) → x ≡ k * R + P → suc P ≡ R → suc k ≡ c → suc x ≡ c * R
last_place x k R P c e f g = let m : suc k * R ≡ c * R = ap (λ n. n * R) g in omega (arith, e, f, m)

pub last_kids : (ps ranks alike : List ℕ) (w : ℕ → ℕ) → AreSpots ps ranks alike → (j n : ℕ) → 0 < room ps w j n → LastKids ps ranks alike w j n
last_kids ps ranks alike w s j zero h = record { states = []; count = refl; are = tt; place = refl }
last_kids ps ranks alike w s j (suc n) h =
    let c = count_of (w j) ps in
    let R = room ps w (suc j) n in
    let q = last_of (w j) ps (some_factor c R h) in
    let later = last_kids ps ranks alike w s (suc j) n (some_other c R h) in
    let are : AreKidsFrom ps w j (q.0 ∷ later.states) = (q.1.within, q.1.is, later.are) in
    let first = place_first ps ranks alike w s j q.0 later.states are ∙ ap (λ m. rank_in (w j) ps q.0 * room ps w (suc j) m + place_from ranks alike 0 later.states) later.count in
    record {
      states = q.0 ∷ later.states;
      count = ap suc later.count;
      are = are;
      place = last_place (place_from ranks alike 0 (q.0 ∷ later.states)) (rank_in (w j) ps q.0) R (place_from ranks alike 0 later.states) c first later.place q.1.rank;
    }
