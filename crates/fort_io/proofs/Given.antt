-- Lemmas on what a source gave, one read after another.
use Rattle.std.proofs.Common.{◌≡◌, ℕ, ◌+◌, ◌-◌, ◌<◌, ◌≤◌, List, [], ◌++◌, length, Option, Some, None, IfSome, sym, ap, ◌∙◌, take, drop, arith, take-append-drop, length-append, length-take, append-nil, subst, Result, Ok, Err, OnErr}
use Rattle.std.proofs.lemmas.List.{take_at, drop-drop, take-take, take-append-le}
use Rattle.std.proofs.lemmas.Slice.{between_to_end}
use Rattle.std.specs.Io.KnownBytes.{Consumes}
use Rattle.std.proofs.KnownBytes.{Consumes-trans}

-- a read of no byte
pub Consumes-nothing : (a b c : Option (List ℕ)) (given buf : List ℕ) (n : ℕ) → Consumes a b given → Consumes b c (take n buf) → n ≡ 0 → Consumes a c given
Consumes-nothing a b c given buf n p q e =
    subst (Consumes a c) (append-nil given) (Consumes-trans a b c given [] p (subst (λ k. Consumes b c (take k buf)) e q))

-- where more than the limit was given, more was told
pub Consumes-over : (a b : Option (List ℕ)) (given : List ℕ) (limit : ℕ) → Consumes a b given → limit < length given → IfSome a (λ bytes. limit < length bytes)
Consumes-over None b given limit p h = tt
Consumes-over (Some xs) None given limit p h = absurd p
Consumes-over (Some xs) (Some ys) given limit p h = omega (arith, ap length p, length-append given ys)

-- what was moved from the bytes at a place to the front of a buffer, and then what is left
pub drop-moved : (bytes slice front tail buf : List ℕ) (at n : ℕ) → slice ≡ bytes → front ≡ take n (take (length slice - at) (drop at slice)) → length front ≡ length (take n buf) → n ≤ length buf
    → drop at bytes ≡ take n (front ++ tail) ++ drop (at + n) bytes
drop-moved bytes slice front tail buf at n same moved size fits =
    let rest = drop at bytes in
    let whole : front ≡ take n rest = rw (moved, same, between_to_end bytes at (length bytes) (omega arith)) in
    let sized : length front ≡ n = rw (size, length-take) (omega arith) in
    sym (take-append-drop n rest) ∙ ap (λ l. l ++ drop n rest) (sym whole ∙ sym (take_at front tail n sized)) ∙ ap (λ l. take n (front ++ tail) ++ l) (drop-drop n at bytes)

-- an error of any kind, after some bytes were given
pub OnErr-given : {T E : Type 0} (r : Result T E) (a b : Option (List ℕ)) (given : List ℕ) → Consumes a b given → OnErr r ((given : List ℕ) × Consumes a b given)
OnErr-given (Ok x) a b given p = tt
OnErr-given (Err e) a b given p = (given, p)

-- an error of a read, which left the bytes as they were
pub OnErr-kept : {T E : Type 0} (r : Result T E) (a b c : Option (List ℕ)) (given : List ℕ) → Consumes a b given → c ≡ b → OnErr r ((given : List ℕ) × Consumes a c given)
OnErr-kept r a b c given p e = OnErr-given r a c given (subst (λ x. Consumes a x given) (sym e) p)

-- a front of a vector that was filled from its start
pub take-filled : (n m : ℕ) (buf rest : List ℕ) → n ≤ length buf → n ≤ m → take n (take m (buf ++ rest)) ≡ take n buf
take-filled n m buf rest p q = grind (arith, take-take, take-append-le)
