-- The places of numbers in a list: one more number, and how many there can be.
use Rattle.std.proofs.Common.{◌≡◌, ℕ, suc, ◌+◌, ◌-◌, ◌<◌, ◌≤◌, List, [], ◌∷◌, ◌++◌, length, get_or, ◌==◌, true, refl, ap, sym, ◌∙◌, arith, subst, ⊎_elim}
use Rattle.std.specs.Prelude.{slice_set}
use Rattle.std.specs.List.{list_any, position_or_len}
use Rattle.std.proofs.Math.Dec.{eqb}
use Rattle.std.proofs.lemmas.Bool.{cases_lt, eq-eqb}
use Rattle.std.proofs.lemmas.Bool.Decides.{eqb_tells}
use Rattle.std.proofs.lemmas.Grind.{get_or-set_at, get_or_default_zero}
use Rattle.std.proofs.lemmas.List.{ext_get_or, length_push, get_or_push, get_or_append_left, length-set, get_or-set_other}
use Rattle.std.proofs.lemmas.List.Sums.{position_or_len_is}
use Rattle.std.proofs.lemmas.Map.Keys.{IsDistinct-from_apart}
use Rattle.std.proofs.lemmas.Map.Steps.{length-le_from_distinct_below}
use Rattle.fort_tables.proofs.TupleLaws.{length-tabulate, get_or-tabulate}
use Rattle.fort_tuple_symbols.specs.NumberPlaces.{numbers_in, ArePlaces}
use Rattle.fort_tuple_symbols.specs.WiderPlaces.{IsWider}

any_below : (xs : List ℕ) (n : ℕ) → ((k : ℕ) → k < length xs → get_or xs k 0 < n) → (q : ℕ) → list_any (eqb q) xs ≡ true → q < n
any_below [] n h q e = absurd cc
any_below (x ∷ xs) n h q e =
    ⊎_elim
    (λ t. omega (arith, t.1, h 0 (omega arith)))
    (λ f. any_below xs n (λ k l. h (suc k) (omega arith)) q (rw f.0 at e))
    (eqb_tells q x)

pub numbers_length : (count : ℕ) (ps : List ℕ) → length (numbers_in count ps) ≡ count
numbers_length count ps = length-tabulate count (λ q. position_or_len (λ p. p == q + 1) ps)

-- since each has a place of its own, there are no more than places
pub numbers_few : (ns ps : List ℕ) → ArePlaces ns ps → length ns ≤ length ps
numbers_few ns ps a =
    let at : (q : ℕ) (d : ℕ) → q < length ns → get_or ps (get_or ns q d) 0 ≡ q + 1 =
    λ q d l. ap (λ n. get_or ps n 0) (get_or_default_zero ns q d l) ∙ a.place q l in
    length-le_from_distinct_below ns (length ps)
    (IsDistinct-from_apart eqb ns (λ i j d l m.
    ⊎_elim
    (λ t. absurd (omega (arith, ap (λ n. get_or ps n 0) t.1, at i d (omega arith), at j d m)))
    (λ f. f.0)
    (eqb_tells (get_or ns i d) (get_or ns j d))))
    (any_below ns (length ps) a.within)

pub places_none : ArePlaces [] []
places_none = record {
  small = omega arith;
  within = λ q l. absurd (omega arith);
  place = λ q l. absurd (omega arith);
  inside = λ n l. absurd (omega arith);
  number = λ n l m. absurd (omega arith);
}

pub record IsAppended (count : ℕ) (ps : List ℕ) (n : ℕ) (new : List ℕ) : Type 0 where
  pub numbers : numbers_in (count + 1) new ≡ numbers_in count ps ++ n ∷ []
  pub places : ArePlaces (numbers_in (count + 1) new) new

-- one more number
pub places_pushed : (ns ps grown : List ℕ) (n : ℕ) → ArePlaces ns ps → IsWider n ps grown → ((q : ℕ) → q < length ns → get_or ns q 0 ≡ n → ⊥) → ArePlaces (ns ++ n ∷ []) (slice_set grown n (length ns + 1))
places_pushed ns ps grown n a g absent =
    let new = slice_set grown n (length ns + 1) in
    let wide : length new ≡ length grown = length-set grown n (length ns + 1) in
    let many : length (ns ++ n ∷ []) ≡ length ns + 1 = length_push ns n in
    let at : (k : ℕ) → k ≡ n → get_or new k 0 ≡ length ns + 1 = λ k e. get_or-set_at grown n k (length ns + 1) 0 e g.reaches in
    let off : (k : ℕ) → (k ≡ n → ⊥) → get_or new k 0 ≡ get_or grown k 0 = λ k e. get_or-set_other grown n k (length ns + 1) 0 e in
    let left : (q : ℕ) → q < length ns → get_or (ns ++ n ∷ []) q 0 ≡ get_or ns q 0 = λ q m. get_or_append_left ns (n ∷ []) 0 q m in
    let last : (q : ℕ) → length ns ≡ q → get_or (ns ++ n ∷ []) q 0 ≡ n = λ q e. get_or_push ns n 0 q e in
    record {
      small = omega (arith, wide, g.few, a.small);
      within = λ q m. ⊎_elim
          (λ b. omega (arith, left q b, a.within q b, wide, g.wider))
          (λ b. omega (arith, last q (omega (arith, many)), wide, g.reaches))
          (cases_lt q (length ns));
      place = λ q m. ⊎_elim
          (λ b. ap (λ k. get_or new k 0) (left q b) ∙ (off (get_or ns q 0) (absent q b) ∙ (g.same (get_or ns q 0) (a.within q b) ∙ a.place q b)))
          (λ b.
          let e : length ns ≡ q = omega (arith, many) in
          ap (λ k. get_or new k 0) (last q e) ∙ (at n refl ∙ ap (λ k. k + 1) e))
          (cases_lt q (length ns));
      inside = λ k m. ⊎_elim
          (λ t. omega (arith, at k t.1, many))
          (λ f. ⊎_elim
          (λ b. omega (arith, off k f.1, g.same k b, a.inside k b, many))
          (λ b. omega (arith, off k f.1, g.zeros k b (omega (arith, wide))))
          (cases_lt k (length ps)))
          (eqb_tells k n);
      number = λ k m some. ⊎_elim
          (λ t. last (get_or new k 0 - 1) (omega (arith, at k t.1)) ∙ sym t.1)
          (λ f. ⊎_elim
          (λ b.
          let same : get_or new k 0 ≡ get_or ps k 0 = off k f.1 ∙ g.same k b in
          let i : get_or new k 0 - 1 ≡ get_or ps k 0 - 1 = ap (λ x. x - 1) same in
          ap (λ x. get_or (ns ++ n ∷ []) x 0) i
          ∙ (left (get_or ps k 0 - 1) (omega (arith, same, some, a.inside k b)) ∙ a.number k b (omega (arith, same, some))))
          (λ b. absurd (omega (arith, some, off k f.1, g.zeros k b (omega (arith, wide)))))
          (cases_lt k (length ps)))
          (eqb_tells k n);
    }

-- the numbers are those that stand at the places
pub numbers_are : (ns ps : List ℕ) → ArePlaces ns ps → numbers_in (length ns) ps ≡ ns
numbers_are ns ps a =
    let at : ℕ → ℕ = λ q. position_or_len (λ p. p == q + 1) ps in
    let len = numbers_length (length ns) ps in
    ext_get_or 0 (numbers_in (length ns) ps) ns len
    (λ q l.
    let m : q < length ns = omega (arith, l, len) in
    get_or-tabulate (length ns) at q 0 m
    ∙ position_or_len_is (λ p. p == q + 1) ps (get_or ns q 0) 0 (omega (arith, a.within q m))
    (λ k b. ⊎_elim
    (λ t.
    let i : get_or ps k 0 - 1 ≡ q = omega (arith, t.1) in
    absurd (omega (arith, b, ap (λ x. get_or ns x 0) i, a.number k (omega (arith, b, a.within q m)) (omega (arith, t.1)))))
    (λ f. f.0)
    (eqb_tells (get_or ps k 0) (q + 1)))
    (λ b. eq-eqb (get_or ps (get_or ns q 0) 0) (q + 1) (a.place q m)))

-- one more number, at the places alone
pub numbers_pushed_in : (count : ℕ) (ps grown : List ℕ) (n : ℕ) → ArePlaces (numbers_in count ps) ps → IsWider n ps grown → ((q : ℕ) → q < length (numbers_in count ps) → get_or (numbers_in count ps) q 0 ≡ n → ⊥) → IsAppended count ps n (slice_set grown n (count + 1))
numbers_pushed_in count ps grown n a g absent =
    let ns = numbers_in count ps in
    let size : length ns ≡ count = numbers_length count ps in
    let new = slice_set grown n (count + 1) in
    let more : ArePlaces (ns ++ n ∷ []) new = subst (λ k. ArePlaces (ns ++ n ∷ []) (slice_set grown n (k + 1))) size (places_pushed ns ps grown n a g absent) in
    let many : length (ns ++ n ∷ []) ≡ count + 1 = omega (arith, length_push ns n, size) in
    let is : numbers_in (count + 1) new ≡ ns ++ n ∷ [] = ap (λ k. numbers_in k new) (sym many) ∙ numbers_are (ns ++ n ∷ []) new more in
    record { numbers = is; places = subst (λ xs. ArePlaces xs new) (sym is) more }
