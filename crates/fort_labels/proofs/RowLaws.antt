-- The pieces of a list of words are of one width.
use Rattle.std.proofs.Common.{◌≡◌, ℕ, ◌*◌, ◌<◌, List, [], length, get_or, drop, ap, ◌∙◌, arith}
use Rattle.std.proofs.lemmas.List.{length-take-le, length-drop}
use Rattle.fort_tables.specs.Pieces.{pieces}
use Rattle.fort_tables.proofs.PieceLaws.{length-pieces, piece_within, get_or-pieces}

pub width-pieces : (w n : ℕ) (xs : List ℕ) → length xs ≡ n * w → (q : ℕ) → q < length (pieces w n xs) → length (get_or (pieces w n xs) q []) ≡ w
width-pieces w n xs e q l =
    let m : q < n = omega (arith, length-pieces w n xs) in
    ap length (get_or-pieces w n q xs m) ∙ length-take-le w (drop (q * w) xs) (omega (arith, length-drop (q * w) xs, piece_within q n w m))
