use Rattle.std.proofs.Common.{◌≡◌, ℕ, ◌+◌, ◌-◌, ◌^◌, ◌<◌, ◌≤◌, List, [], ◌∷◌, length, drop, Bool, true, false, if◌then◌else◌, nat_lt, None, Some, arith, ◌∙◌, subst}
use Rattle.std.proofs.Math.Nat.{pow-suc, pow-le-pow_right}
use Rattle.std.proofs.lemmas.List.{length-map, length-drop}
use Rattle.fort_theory.specs.Signatures.{Signature}
use Rattle.fort_tables.specs.Tuples.{TupleSymbol, arity, kid_presence}
use Rattle.fort_tuple_symbols.specs.Columns.{column_of, symbol_of}
use Rattle.fort_tuple_symbols.proofs.Bounds.{bound-up_to}
use Rattle.fort_tuple_symbols.proofs.digits.presence_at.Goals as goal

one_bit : (b : Bool) → (if b then 1 else 0) ≤ 1
one_bit true = omega arith
one_bit false = omega arith

kid_bound : (sig : Signature) (f : TupleSymbol) (j : ℕ) → kid_presence sig f j < 2 ^ length f
kid_bound sig [] j = omega arith
kid_bound sig (None ∷ f) j = omega (arith, kid_bound sig f j, pow-suc 2 (length f))
kid_bound sig (Some g ∷ f) j = omega (arith, one_bit (nat_lt j (arity sig g)), kid_bound sig f j, pow-suc 2 (length f))

few_at : (sig : Signature) (ds : List ℕ) (j i n : ℕ) → length ds ≤ n + i → kid_presence sig (symbol_of (drop i ds)) j < 2 ^ n
few_at sig ds j i n l =
    let count : length (symbol_of (drop i ds)) ≡ length ds - i = length-map (drop i ds) column_of ∙ length-drop i ds in
    let bound = subst (λ (k : ℕ). kid_presence sig (symbol_of (drop i ds)) j < 2 ^ k) count (kid_bound sig (symbol_of (drop i ds)) j) in
    let rises = pow-le-pow_right {n = 2} (omega arith) (let e : length ds - i ≤ n = omega arith in e) in
    omega (arith, bound, rises)

pub overflow_mul-presence : goal.overflow_mul-presence
overflow_mul-presence c = omega (arith, c.loop-i.invariant, few_at c.args.sig.now c.args.digits.now c.args.j c.loop-i.i 15 (omega arith))

pub overflow_add-presence : goal.overflow_add-presence
overflow_add-presence c = grind (arith, c.loop-i.invariant, c.from.ensures, few_at c.args.sig.now c.args.digits.now c.args.j c.loop-i.i 15 (omega arith))

pub column_arity-requires : goal.column_arity-requires
column_arity-requires c = bound-up_to (length c.args.sig.now) (length c.args.sig.now) c.args.digits.now (omega arith) c.requires.symbols (c.loop-i.i - 1)

pub returns-clause-bound : goal.returns-clause-bound
returns-clause-bound c = omega (arith, c.loop-i.invariant, few_at c.args.sig.now c.args.digits.now c.args.j c.loop-i.i (length c.args.digits.now) (omega arith))
