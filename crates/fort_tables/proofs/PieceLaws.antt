-- Words in pieces of one width.
use Rattle.std.proofs.Common.{◌≡◌, ℕ, zero, suc, ◌+◌, ◌*◌, ◌<◌, ◌≤◌, List, [], ◌∷◌, ◌++◌, length, take, drop, get_or, refl, ap, sym, ◌∙◌, arith}
use Rattle.std.proofs.lemmas.List.{take-append-le, drop-append-le, length-drop}
use Rattle.fort_tables.specs.Pieces.{pieces}

pub length-pieces : (w n : ℕ) (xs : List ℕ) → length (pieces w n xs) ≡ n
length-pieces w zero xs = refl
length-pieces w (suc n) xs = ap suc (length-pieces w n (drop w xs))

-- the pieces up to one fit
pub piece_within : (q n w : ℕ) → q < n → q * w + w ≤ n * w
piece_within q zero w h = absurd (omega arith)
piece_within zero (suc n) w h = omega arith
piece_within (suc q) (suc n) w h = omega (arith, piece_within q n w (omega arith))

drop_zero : (xs : List ℕ) (k : ℕ) → k ≡ 0 → drop k xs ≡ xs
drop_zero xs k e = ap (λ i. drop i xs) e

drop_both : (a b : ℕ) (xs : List ℕ) → drop b (drop a xs) ≡ drop (a + b) xs
drop_both zero b xs = let e : b ≡ 0 + b = omega arith in ap (λ i. drop i xs) e
drop_both (suc a) b [] = let e : suc a + b ≡ suc (a + b) = omega arith in drop_nil b ∙ sym (drop_nil (suc a + b))
  where
    drop_nil : (k : ℕ) → drop k (let xs : List ℕ = [] in xs) ≡ []
    drop_nil zero = refl
    drop_nil (suc k) = refl
drop_both (suc a) b (x ∷ xs) = let e : suc (a + b) ≡ suc a + b = omega arith in drop_both a b xs ∙ ap (λ i. drop i (x ∷ xs)) e

pub get_or-pieces : (w n q : ℕ) (xs : List ℕ) → q < n → get_or (pieces w n xs) q [] ≡ take w (drop (q * w) xs)
get_or-pieces w zero q xs h = absurd (omega arith)
get_or-pieces w (suc n) zero xs h = ap (take w) (sym (drop_zero xs (0 * w) (omega arith)))
get_or-pieces w (suc n) (suc q) xs h =
    let e : w + q * w ≡ suc q * w = omega arith in
    get_or-pieces w n q (drop w xs) (omega arith) ∙ ap (take w) (drop_both w (q * w) xs ∙ ap (λ i. drop i xs) e)

no_words : (xs : List ℕ) → length xs ≡ 0 → xs ≡ []
no_words [] e = refl
no_words (x ∷ xs) e = absurd (omega arith)

take_all : (w : ℕ) (ys : List ℕ) → length ys ≡ w → take w ys ≡ ys
take_all zero [] e = refl
take_all zero (y ∷ ys) e = absurd (omega arith)
take_all (suc w) [] e = absurd (omega arith)
take_all (suc w) (y ∷ ys) e = ap (λ zs. y ∷ zs) (take_all w ys (omega arith))

pub pieces_push : (w n : ℕ) (xs ys : List ℕ) → length xs ≡ n * w → length ys ≡ w → pieces w (suc n) (xs ++ ys) ≡ pieces w n xs ++ ys ∷ []
pieces_push w zero xs ys e f =
    let z : xs ≡ [] = no_words xs (omega arith) in
    ap (λ zs. take w (zs ++ ys) ∷ []) z ∙ ap (λ zs. zs ∷ []) (take_all w ys f)
pieces_push w (suc n) xs ys e f =
    let l : w ≤ length xs = omega arith in
    let r = pieces_push w n (drop w xs) ys (omega (arith, length-drop w xs)) f in
    ap (λ zs. zs ∷ pieces w (suc n) (drop w (xs ++ ys))) (take-append-le w xs ys l)
    ∙ (ap (λ zs. take w xs ∷ pieces w (suc n) zs) (drop-append-le w xs ys l)
    ∙ ap (λ zs. take w xs ∷ zs) r)
