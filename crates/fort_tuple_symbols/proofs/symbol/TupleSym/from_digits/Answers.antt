use Rattle.std.proofs.Common.{◌≡◌, ℕ, ◌-◌, ◌≤◌, List, ◌++◌, length, drop, replicate, arith, ◌∙◌, refl}
use Rattle.std.proofs.lemmas.List.{drop_at, drop-replicate, length-append, length-drop}
use Rattle.fort_tuple_symbols.proofs.Bounds.{bound-append, bound-drop, bound-zeros}
use Rattle.fort_tuple_symbols.proofs.symbol.TupleSym.from_digits.Goals as goal

room_is : (ks zeros : List ℕ) → length ks ≤ 16 → length zeros ≡ 16 → length (ks ++ drop (length ks) zeros) ≡ 16
room_is ks zeros h z = omega (arith, length-append ks (drop (length ks) zeros), length-drop (length ks) zeros)

empty_is : (ks : List ℕ) → drop (length ks) (ks ++ drop (length ks) (replicate 16 0)) ≡ replicate (16 - length ks) 0
empty_is ks = drop_at ks (drop (length ks) (replicate 16 0)) (length ks) refl ∙ drop-replicate (length ks) 16 0

pub invariant_of-result : goal.invariant_of-result
invariant_of-result c =
    rw c.copy_from_slice.ensures.after (record {
      short = c.requires.few;
      size = room_is c.args.from.now (replicate 16 0) c.requires.few refl;
      clear = empty_is c.args.from.now;
      small = bound-append 65536 c.args.from.now (drop (length c.args.from.now) (replicate 16 0)) c.requires.small (bound-drop 65536 (length c.args.from.now) (replicate 16 0) (bound-zeros 65536 16));
    })
