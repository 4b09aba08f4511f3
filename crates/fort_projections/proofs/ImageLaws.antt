-- Images of a child's states: they stay where the other children's labels do.
use Rattle.std.proofs.Common.{◌≡◌, ◌≢◌, ℕ, zero, suc, ◌+◌, ◌/◌, ◌%◌, bit_or, ◌<◌, ◌≤◌, ◌==◌, ◌||◌, if◌then◌else◌, max, List, [], length, get_or, set, Some, Bool, true, false, nat_lt, refl, ap, sym, ◌∙◌, arith, ⊎_elim, ◌&&◌}
use Rattle.std.proofs.lemmas.Bool.{cases_lt, eqb-false}
use Rattle.std.proofs.lemmas.List.{get_or_past}
use Rattle.std.proofs.lemmas.Nat.Bits.{bit_at_or, bit_at-lt}
use Rattle.std.specs.Int.{bit_at}
use Rattle.std.specs.List.{insert}
use Rattle.fort_tables.specs.Tuples.{TupleSymbol, arity}
use Rattle.fort_tables.specs.Entries.{entry}
use Rattle.fort_tables.specs.Tables.{Table}
use Rattle.fort_tables.proofs.BitRowLaws.{has_bit-past}
use Rattle.fort_tables.specs.Projections.{some_below, some_choice, has_state, absent_state, is_pure, may_stand}
use Rattle.fort_projections.specs.Scopes.{takes, may_in, some_gives}
use Rattle.fort_projections.specs.ImageFacts.{with_state, IsImage, IsKeyOf}
use Rattle.fort_projections.specs.declared.images.Images.{Images}

-- the labels agree apart from one
pub record AgreeBut (v : ℕ) (ws us : List (List ℕ)) : Type 0 where
  pub count : length ws ≡ length us
  pub others : (j : ℕ) → j < length us → j ≢ v → get_or ws j [] ≡ get_or us j []

other_same : (v : ℕ) (ws us : List (List ℕ)) → AgreeBut v ws us → (j : ℕ) → j ≢ v → get_or ws j [] ≡ get_or us j []
other_same v ws us h j apart = ⊎_elim
    (λ (l : j < length us). h.others j l apart)
    (λ (l : length us ≤ j). get_or_past ws j [] (omega (arith, h.count)) ∙ sym (get_or_past us j [] l))
    (cases_lt j (length us))

may_same : (body : Table) (c a : ℕ) (ws us : List (List ℕ)) (v s j k : ℕ) → AgreeBut v ws us → (b : Bool) → (j == v) ≡ b → (if b then s == k else may_stand body c a ws j k) ≡ (if b then s == k else may_stand body c a us j k)
may_same body c a ws us v s j k h true e = refl
may_same body c a ws us v s j k h false e =
    let w = other_same v ws us h j (eqb-false j v e) in
    λ i. if nat_lt j a then (if nat_lt j (h.count i) then has_state (w i) k else is_pure body c k) else absent_state (w i) == k

-- Result: what is given with that child in one state doesn't read its label
pub some_gives-same : (body : Table) (c : ℕ) (f : TupleSymbol) (ws us : List (List ℕ)) (v s q : ℕ) → AgreeBut v ws us → some_gives body c f ws (with_state v s) q ≡ some_gives body c f us (with_state v s) q
some_gives-same body c f ws us v s q h =
    let n = length body.presences in
    let scope = with_state v s in
    let same : (a j k : ℕ) → may_in scope (may_stand body c a ws) j k ≡ may_in scope (may_stand body c a us) j k = λ a j k. may_same body c a ws us v s j k h (j == v) refl in
    λ i. some_below (length body.signature)
    (λ g. takes scope (arity body.signature g) && some_choice n (λ j k. same (arity body.signature g) j k i) 0 (max (arity body.signature g) (h.count i)) (λ ks. body.target (entry (insert f c (Some g)) ks) == q))

-- the image of a state is what an entry gives
pub image_gives : (body : Table) (c : ℕ) (images : Images) (f : TupleSymbol) (ws : List (List ℕ)) (s : ℕ) (w : List ℕ) → IsKeyOf images f ws → IsImage body c images s w → (q : ℕ) → has_state w q ≡ some_gives body c f ws (with_state images.place s) q
image_gives body c images f ws s w key is q =
    is q
    ∙ (ap (λ (z : TupleSymbol). some_gives body c z images.labels.labels (with_state images.place s) q) key.symbol
    ∙ some_gives-same body c f images.labels.labels ws images.place s q (record { count = key.count; others = key.others }))

pub gives_image : (body : Table) (c : ℕ) (images : Images) (f : TupleSymbol) (ws : List (List ℕ)) (s : ℕ) (w : List ℕ) → IsKeyOf images f ws → ((q : ℕ) → has_state w q ≡ some_gives body c f ws (with_state images.place s) q) → IsImage body c images s w
gives_image body c images f ws s w key h = λ q.
    h q
    ∙ sym (ap (λ (z : TupleSymbol). some_gives body c z images.labels.labels (with_state images.place s) q) key.symbol
    ∙ some_gives-same body c f images.labels.labels ws images.place s q (record { count = key.count; others = key.others }))

-- the bits of two words joined
either_bit : (x y : ℕ) → x < 2 → y < 2 → (max x y == 1) ≡ ((y == 1) || (x == 1))
either_bit zero zero l m = refl
either_bit zero (suc zero) l m = refl
either_bit (suc zero) zero l m = refl
either_bit (suc zero) (suc zero) l m = refl
either_bit (suc (suc x)) y l m = absurd (omega arith)
either_bit x (suc (suc y)) l m = absurd (omega arith)

bit_joined : (a b r : ℕ) → (bit_at (bit_or a b) r == 1) ≡ ((bit_at b r == 1) || (bit_at a r == 1))
bit_joined a b r = ap (λ x. x == 1) (bit_at_or a b r) ∙ either_bit (bit_at a r) (bit_at b r) (bit_at-lt a r) (bit_at-lt b r)

-- Result: the states of two sets joined
pub states_joined : (set old new : List ℕ) → length set ≡ length old → length new ≡ length old → ((k : ℕ) → 2 ≤ k → k < length set → get_or new k 0 ≡ bit_or (get_or old k 0) (get_or set k 0)) → (q : ℕ) → has_state new q ≡ (has_state set q || has_state old q)
states_joined set old new same size h q =
    let k = (128 + q) / 64 in
    let r = (128 + q) % 64 in
    ⊎_elim
    (λ (l : k < length set). ap (λ x. bit_at x r == 1) (h k (omega arith) l) ∙ bit_joined (get_or old k 0) (get_or set k 0) r)
    (λ (l : length set ≤ k).
    has_bit-past new (128 + q) (omega arith)
    ∙ sym (λ i. has_bit-past set (128 + q) l i || has_bit-past old (128 + q) (omega (arith, same, l)) i))
    (cases_lt k (length set))
