use Rattle.std.proofs.Common.{◌≡◌, ℕ, ◌+◌, ◌-◌, ◌^◌, ◌<◌, ◌≤◌, List, length, drop, arith, ◌∙◌, subst}
use Rattle.std.proofs.Math.Nat.{pow-le-pow_right}
use Rattle.std.proofs.lemmas.List.{length-map, length-drop}
use Rattle.fort_tables.specs.Tuples.{presence}
use Rattle.fort_tables.proofs.PresenceLaws.{presence_bound}
use Rattle.fort_tuple_symbols.specs.Columns.{column_of, symbol_of}
use Rattle.fort_tuple_symbols.proofs.digits.presence_of.Goals as goal

bound_at : (ds : List ℕ) (i : ℕ) → presence (symbol_of (drop i ds)) < 2 ^ (length ds - i)
bound_at ds i =
    let count : length (symbol_of (drop i ds)) ≡ length ds - i = length-map (drop i ds) column_of ∙ length-drop i ds in
    subst (λ (n : ℕ). presence (symbol_of (drop i ds)) < 2 ^ n) count (presence_bound (symbol_of (drop i ds)))

few_at : (ds : List ℕ) (i n : ℕ) → length ds ≤ n + i → presence (symbol_of (drop i ds)) < 2 ^ n
few_at ds i n l =
    let rises = pow-le-pow_right {n = 2} (omega arith) (let e : length ds - i ≤ n = omega arith in e) in
    omega (arith, bound_at ds i, rises)

pub overflow_mul-presence : goal.overflow_mul-presence
overflow_mul-presence c = omega (arith, c.loop-i.invariant, few_at c.args.digits.now c.loop-i.i 15 (omega arith))

pub overflow_add-presence : goal.overflow_add-presence
overflow_add-presence c = grind (arith, c.loop-i.invariant, c.from.ensures, few_at c.args.digits.now c.loop-i.i 15 (omega arith))

pub returns-clause-bound : goal.returns-clause-bound
returns-clause-bound c = omega (arith, c.loop-i.invariant, few_at c.args.digits.now c.loop-i.i (length c.args.digits.now) (omega arith))

pub returns-clause-small : goal.returns-clause-small
returns-clause-small c = omega (arith, c.loop-i.invariant, few_at c.args.digits.now c.loop-i.i 16 (omega arith))
