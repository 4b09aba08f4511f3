-- Rows of bits: rows with no bit on, one more bit, the bits of one row added to another; and one more of a list.
use Rattle.std.specs.Prelude.{◌≡◌, ◌≢◌, ℕ, zero, suc, ◌+◌, ◌*◌, ◌/◌, ◌%◌, ◌<◌, ◌≤◌, List, [], ◌∷◌, ◌++◌, length, take, set, get_or, Bool, true, false, ◌&&◌, ◌||◌, ◌==◌, refl}
use Prim.Native.Nat.{max}
use Rattle.std.specs.List.{list_any}
use Rattle.std.proofs.Math.Bool.{or_assoc}
use Rattle.std.specs.Int.{bit_at}
use Rattle.std.proofs.Common.{sym, ap, subst, ◌∙◌, arith, eq-eqb, ⊎_elim}
use Rattle.std.specs.Int.Bits.{bit_or}
use Rattle.std.proofs.lemmas.Bool.{cases_eq, cases_lt}
use Rattle.std.proofs.lemmas.Nat.Bits.{bit_at_or, bit_at-lt}
use Rattle.std.proofs.lemmas.Bool.Decides.{Decides-eqb}
use Rattle.std.proofs.lemmas.List.{get_or-set_same, get_or-set_other, length-set, take_more, length-append, get_or_append_left, get_or_push, get_or_past}
use Rattle.fort_tables.specs.BitRows.{has_bit}
use Rattle.fort_tables.proofs.BitRowLaws.{has_bit-drop, has_bit-past}
use Rattle.fort_tables.proofs.EqualTests.{test_from_apart}
use Rattle.fort_alike.proofs.Bits.{same_from_iff}
use Rattle.fort_label_bits.proofs.RowBitLaws.{HasBits-none}
use Rattle.fort_label_bits.specs.RowBits.{bit_of}
use Rattle.fort_label_bits.specs.BitRowLists.{row_in, SetsBit, AreClear}

-- one more bit of one row

pub behind-same : (bit q : ℕ) → (64 + bit == 64 * 1 + q) ≡ (bit == q)
behind-same bit q =
    same_from_iff (64 + bit == 64 * 1 + q) (bit == q) (Decides-eqb (64 + bit) (64 * 1 + q)) (Decides-eqb bit q) ((λ e. omega (arith, e)), (λ e. omega (arith, e)))

pub SetsBit-set : (old : List (List ℕ)) (row bit : ℕ) (w : List ℕ) → row < length old → length w ≡ length (row_in old row)
    → ((i : ℕ) → has_bit w i ≡ ((64 + bit == i) || has_bit (row_in old row) i)) → SetsBit old row bit (set old row w)
SetsBit-set old row bit w l size h = record {
  count = length-set old row w;
  widths = λ k.
      ⊎_elim
      (λ (e : row ≡ k). subst (λ j. length (row_in (set old row w) j) ≡ length (row_in old j)) e (ap length (get_or-set_same old row w [] l) ∙ size))
      (λ (n : row ≡ k → ⊥). ap length (get_or-set_other old row k w [] (λ e. n (sym e))))
      (cases_eq row k);
  bits = λ k q.
      ⊎_elim
      (λ (e : row ≡ k).
      subst (λ j. bit_of q (row_in (set old row w) j) ≡ (((row == j) && (bit == q)) || bit_of q (row_in old j))) e
      (ap (bit_of q) (get_or-set_same old row w [] l)
      ∙ (has_bit-drop 1 w q
      ∙ (h (64 * 1 + q)
      ∙ ((λ i. behind-same bit q i || sym (has_bit-drop 1 (row_in old row) q) i)
      ∙ ap (λ t. (t && (bit == q)) || bit_of q (row_in old row)) (sym (eq-eqb row row refl)))))))
      (λ (n : row ≡ k → ⊥).
      ap (bit_of q) (get_or-set_other old row k w [] (λ e. n (sym e)))
      ∙ ap (λ t. (t && (bit == q)) || bit_of q (row_in old k)) (sym (test_from_apart row k n)))
      (cases_eq row k);
}

-- rows with no bit on

no_bits : (w : List ℕ) (q : ℕ) → ((i : ℕ) → i < length w → get_or w i 0 ≡ 0) → bit_of q w ≡ false
no_bits w q h = HasBits-none w h q

pub AreClear-none : (width : ℕ) → AreClear 0 width []
AreClear-none width = record {
  many = refl;
  widths = λ k l. absurd (omega arith);
  bits = λ k q. let none : List ℕ = [] in no_bits none q (λ i l. refl);
}

pub AreClear-push : (count width : ℕ) (rows : List (List ℕ)) (w : List ℕ) → AreClear count width rows → length w ≡ width → ((i : ℕ) → i < length w → get_or w i 0 ≡ 0)
    → AreClear (count + 1) width (rows ++ w ∷ [])
AreClear-push count width rows w h size off = record {
  many = omega (arith, h.many, length-append rows (w ∷ []));
  widths = λ k l.
      ⊎_elim
      (λ m. ap length (get_or_append_left rows (w ∷ []) [] k m) ∙ h.widths k (omega (arith, m, h.many)))
      (λ m. let e : length rows ≡ k = omega (arith, m, l, h.many) in ap length (get_or_push rows w [] k e) ∙ size)
      (cases_lt k (length rows));
  bits = λ k q.
      ⊎_elim
      (λ m. ap (bit_of q) (get_or_append_left rows (w ∷ []) [] k m) ∙ h.bits k q)
      (λ m.
      ⊎_elim
      (λ (e : length rows ≡ k). ap (bit_of q) (get_or_push rows w [] k e) ∙ no_bits w q off)
      (λ (n : length rows ≡ k → ⊥).
      let none : List ℕ = [] in
      ap (bit_of q) (get_or_past (rows ++ w ∷ []) k none (past k m n)) ∙ no_bits none q (λ i l. refl))
      (cases_eq (length rows) k))
      (cases_lt k (length rows));
}
  where
    past : (k : ℕ) → length rows ≤ k → (length rows ≡ k → ⊥) → length (rows ++ w ∷ []) ≤ k
    past k m n =
        let one : List (List ℕ) = w ∷ [] in
        let other : length rows ≢ k = n in
        omega (arith, length-append rows one, m, other)

-- one more of a list

list_any-push : {A : Type 0} (test : A → Bool) (xs : List A) (x : A) → list_any test (xs ++ x ∷ []) ≡ (list_any test xs || test x)
list_any-push test [] x = or-nothing (test x)
  where
    or-nothing : (b : Bool) → (b || false) ≡ b
    or-nothing true = refl
    or-nothing false = refl
list_any-push test (y ∷ xs) x = ap (λ b. test y || b) (list_any-push test xs x) ∙ sym (or_assoc (test y) (list_any test xs) (test x))

pub list_any-more : {A : Type 0} (test : A → Bool) (xs : List A) (i : ℕ) (x : A) → i < length xs → x ≡ get_or xs i x
    → list_any test (take (i + 1) xs) ≡ (list_any test (take i xs) || test x)
list_any-more test xs i x l at =
    ap (list_any test) (take_more xs i x l) ∙ (list_any-push test (take i xs) (get_or xs i x) ∙ ap (λ y. list_any test (take i xs) || test y) (sym at))

-- the bits of two words together

bit-or : (a b : ℕ) → a < 2 → b < 2 → (max a b == 1) ≡ ((a == 1) || (b == 1))
bit-or zero zero l m = refl
bit-or zero (suc zero) l m = refl
bit-or zero (suc (suc b)) l m = absurd (omega arith)
bit-or (suc zero) zero l m = refl
bit-or (suc zero) (suc zero) l m = refl
bit-or (suc zero) (suc (suc b)) l m = absurd (omega arith)
bit-or (suc (suc a)) b l m = absurd (omega arith)

pub or-off : (a b : Bool) → b ≡ false → a ≡ (a || b)
or-off true b e = refl
or-off false b e = sym e

has_bit-added : (old row new : List ℕ)
    → ((i : ℕ) → i < length row → get_or new i 0 ≡ bit_or (get_or old i 0) (get_or row i 0))
    → ((i : ℕ) → length row ≤ i → get_or new i 0 ≡ get_or old i 0)
    → (k : ℕ) → has_bit new k ≡ (has_bit old k || has_bit row k)
has_bit-added old row new before after k =
    ⊎_elim
    (λ l.
    ap (λ w. bit_at w (k % 64) == 1) (before (k / 64) l)
    ∙ (ap (λ b. b == 1) (bit_at_or (get_or old (k / 64) 0) (get_or row (k / 64) 0) (k % 64))
    ∙ bit-or (bit_at (get_or old (k / 64) 0) (k % 64)) (bit_at (get_or row (k / 64) 0) (k % 64)) (bit_at-lt (get_or old (k / 64) 0) (k % 64))
    (bit_at-lt (get_or row (k / 64) 0) (k % 64))))
    (λ l. ap (λ w. bit_at w (k % 64) == 1) (after (k / 64) l) ∙ or-off (has_bit old k) (has_bit row k) (has_bit-past row k l))
    (cases_lt (k / 64) (length row))

pub bit_of-added : (old row new : List ℕ)
    → ((i : ℕ) → i < length row → get_or new i 0 ≡ bit_or (get_or old i 0) (get_or row i 0))
    → ((i : ℕ) → length row ≤ i → get_or new i 0 ≡ get_or old i 0)
    → (q : ℕ) → bit_of q new ≡ (bit_of q old || bit_of q row)
bit_of-added old row new before after q =
    has_bit-drop 1 new q
    ∙ (has_bit-added old row new before after (64 * 1 + q) ∙ (λ i. sym (has_bit-drop 1 old q) i || sym (has_bit-drop 1 row q) i))
