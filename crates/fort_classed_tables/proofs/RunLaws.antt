-- Where the runs of a column stand, and that states with equal columns have equal targets.
use Rattle.std.proofs.Common.{◌≡◌, ℕ, zero, suc, ◌+◌, ◌-◌, ◌*◌, ◌<◌, ◌≤◌, List, take, drop, length, get_or, ap, sym, ◌∙◌, arith, length-append}
use Rattle.std.specs.List.{slice_range}
use Rattle.std.proofs.Math.Nat.{mul-le-mul_right}
use Rattle.std.proofs.lemmas.List.{length-take-le, length-drop, get_or-take, get_or-drop}
use Rattle.fort_tables.specs.Laid.{joined_below}
use Rattle.fort_tables.proofs.JoinedLists.{get_or-joined}
use Rattle.fort_target_lists.proofs.SymbolNumbers.{below_digits}
use Rattle.fort_classed_tables.specs.declared.columns.Columns.{Columns}
use Rattle.fort_classed_tables.specs.TargetColumns.{run_start, run_at, column_at, IsWithin}

-- part of a list
length-part : (xs : List ℕ) (a n : ℕ) → a + n ≤ length xs → length (slice_range xs a (a + n)) ≡ n
length-part xs a n h = let e : a + n - a ≡ n = omega arith in ap (λ k. length (take k (drop a xs))) e ∙ length-take-le n (drop a xs) (omega (arith, h, length-drop a xs))

get_or-part : (xs : List ℕ) (a n i : ℕ) → i < n → get_or (slice_range xs a (a + n)) i 0 ≡ get_or xs (a + i) 0
get_or-part xs a n i l = get_or-take (a + n - a) (drop a xs) i 0 (omega (arith, l)) ∙ get_or-drop a xs i 0

-- lists of one length, one behind the other
joined_length : (g : ℕ → List ℕ) (n m : ℕ) → ((k : ℕ) → k < m → length (g k) ≡ n) → length (joined_below m g) ≡ m * n
joined_length g n zero h = omega arith
joined_length g n (suc m) h = omega (arith, length-append (joined_below m g) (g m), joined_length g n m (λ k l. h k (omega (arith, l))), h m (omega arith))

same_parts : (g h : ℕ → List ℕ) (n m : ℕ) → ((k : ℕ) → k < m → length (g k) ≡ n) → ((k : ℕ) → k < m → length (h k) ≡ n) → joined_below m g ≡ joined_below m h
    → (k i : ℕ) → k < m → i < n → get_or (g k) i 0 ≡ get_or (h k) i 0
same_parts g h n m lg lh e k i l o =
    let a = get_or-joined m g k i 0 l (omega (arith, o, lg k l)) in
    let b = get_or-joined m h k i 0 l (omega (arith, o, lh k l)) in
    let c : length (joined_below k g) ≡ length (joined_below k h) =
    joined_length g n k (λ j p. lg j (omega (arith, p, l))) ∙ sym (joined_length h n k (λ j p. lh j (omega (arith, p, l)))) in
    sym a ∙ (ap (λ (xs : List ℕ). get_or xs (length (joined_below k g) + i) 0) e ∙ (ap (λ p. get_or (joined_below m h) (p + i) 0) c ∙ b))

-- each run is among the targets
pub run_low : (c : Columns) (rank run : ℕ) → rank < c.count → run < c.outer → run * c.count + rank < c.outer * c.count
run_low c rank run l m = below_digits run c.outer rank c.count m l

pub run_within : (c : Columns) (rank run : ℕ) → IsWithin c → rank < c.count → run < c.outer → run_start c rank run + c.inner ≤ length c.targets.now
run_within c rank run w l m =
    let s = mul-le-mul_right {m = suc (run * c.count + rank)} {n = c.outer * c.count} c.inner (run_low c rank run l m) in
    omega (arith, s, w.all)

-- numbers on the way to where a run starts are no greater than it
pub run_steps : (c : Columns) (x : ℕ) → IsWithin c → x ≤ x * c.inner
run_steps c x w = let s = mul-le-mul_right {m = 1} {n = c.inner} x w.some in omega (arith, s)

length-run : (c : Columns) (rank run : ℕ) → IsWithin c → rank < c.count → run < c.outer → length (run_at c rank run) ≡ c.inner
length-run c rank run w l m = length-part c.targets.now (run_start c rank run) c.inner (run_within c rank run w l m)

-- Result: equal columns are equal targets
pub same_targets : (c : Columns) → IsWithin c → (p q : ℕ) → p < c.count → q < c.count → column_at c p ≡ column_at c q
    → (run i : ℕ) → run < c.outer → i < c.inner → get_or c.targets.now (run_start c p run + i) 0 ≡ get_or c.targets.now (run_start c q run + i) 0
same_targets c w p q lp lq e run i l o =
    sym (get_or-part c.targets.now (run_start c p run) c.inner i o)
    ∙ (same_parts (run_at c p) (run_at c q) c.inner c.outer (λ k m. length-run c p k w lp m) (λ k m. length-run c q k w lq m) e run i l o
    ∙ get_or-part c.targets.now (run_start c q run) c.inner i o)
