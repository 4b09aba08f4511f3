-- A row with no bit on, one more bit put behind others, and the tests of an entry's children, child after child.
use Rattle.std.specs.Prelude.{◌≡◌, ℕ, zero, suc, ◌+◌, ◌*◌, ◌/◌, ◌%◌, ◌<◌, ◌≤◌, List, [], ◌∷◌, ◌++◌, map, length, drop, take, set, get_or, Bool, true, false, ◌&&◌, ◌||◌, ◌==◌, refl}
use Rattle.std.specs.Int.{bit_at}
use Rattle.std.proofs.Common.{sym, ap, subst, ◌∙◌, arith, eq-eqb, ⊎_elim}
use Rattle.std.proofs.lemmas.Bool.{cases_eq, cases_lt}
use Rattle.std.proofs.lemmas.Nat.Bits.{bit_at-zero}
use Rattle.std.proofs.lemmas.List.{drop_more, drop_all, get_or_past, get_or_push, take_more, drop-set-lt, append_assoc, length-append, length-take, map-append, length-map, get_or-map}
use Rattle.fort_tables.specs.BitRows.{has_bit}
use Rattle.fort_tables.proofs.BitRowLaws.{has_bit-drop}
use Rattle.fort_tables.proofs.EqualTests.{test_from_apart}
use Rattle.fort_alike.specs.AtomRules.{all_kids, one_kid, some_kid}
use Rattle.fort_label_bits.specs.RowBits.{labels_at, HasBits}

-- bits

zero-at : (w : List ℕ) → ((i : ℕ) → i < length w → get_or w i 0 ≡ 0) → (i : ℕ) → get_or w i 0 ≡ 0
zero-at w h i = ⊎_elim (λ l. h i l) (λ l. get_or_past w i 0 (omega arith)) (cases_lt i (length w))

pub HasBits-none : (w : List ℕ) → ((i : ℕ) → i < length w → get_or w i 0 ≡ 0) → HasBits [] w
HasBits-none w h q =
    has_bit-drop 1 w q
    ∙ (ap (λ x. bit_at x ((64 * 1 + q) % 64) == 1) (zero-at w h ((64 * 1 + q) / 64)) ∙ ap (λ x. x == 1) (bit_at-zero ((64 * 1 + q) % 64)))

last-other : (bits : List Bool) (on : Bool) (q : ℕ) → (length bits ≡ q → ⊥) → get_or (bits ++ on ∷ []) q false ≡ get_or bits q false
last-other [] on zero h = absurd (h refl)
last-other [] on (suc q) h = refl
last-other (b ∷ bits) on zero h = refl
last-other (b ∷ bits) on (suc q) h = last-other bits on q (λ e. h (ap suc e))

pub HasBits-off : (bits : List Bool) (w : List ℕ) → HasBits bits w → HasBits (bits ++ false ∷ []) w
HasBits-off bits w h q =
    ⊎_elim
    (λ e. h q ∙ (get_or_past bits q false (omega (arith, e)) ∙ sym (get_or_push bits false false q e)))
    (λ other. h q ∙ sym (last-other bits false q other))
    (cases_eq (length bits) q)

pub HasBits-on : (bits : List Bool) (old new : List ℕ) (bit : ℕ) → length bits ≡ bit → HasBits bits old
    → ((i : ℕ) → has_bit new i ≡ ((64 + bit == i) || has_bit old i)) → HasBits (bits ++ true ∷ []) new
HasBits-on bits old new bit l h set q =
    has_bit-drop 1 new q ∙ (set (64 * 1 + q)
    ∙ ⊎_elim
    (λ e.
    let here : 64 + bit ≡ 64 * 1 + q = omega (arith, e, l) in
    ap (λ b. b || has_bit old (64 * 1 + q)) (eq-eqb (64 + bit) (64 * 1 + q) here) ∙ sym (get_or_push bits true false q e))
    (λ other.
    let apart : 64 + bit ≡ 64 * 1 + q → ⊥ = λ e. other (omega (arith, e, l)) in
    ap (λ b. b || has_bit old (64 * 1 + q)) (test_from_apart (64 + bit) (64 * 1 + q) apart)
    ∙ (sym (has_bit-drop 1 old q) ∙ (h q ∙ sym (last-other bits true q other))))
    (cases_eq (length bits) q))

pub HasBits-two : (bits : List Bool) (a b : Bool) (w : List ℕ) → HasBits ((bits ++ a ∷ []) ++ b ∷ []) w → HasBits (bits ++ a ∷ b ∷ []) w
HasBits-two bits a b w h = subst (λ bs. HasBits bs w) (append_assoc bits (a ∷ []) (b ∷ [])) h

pub HasBits-three : (bits : List Bool) (a b c : Bool) (w : List ℕ) → HasBits (((bits ++ a ∷ []) ++ b ∷ []) ++ c ∷ []) w → HasBits (bits ++ a ∷ b ∷ c ∷ []) w
HasBits-three bits a b c w h =
    subst (λ bs. HasBits bs w) (append_assoc (bits ++ a ∷ []) (b ∷ []) (c ∷ []) ∙ append_assoc bits (a ∷ []) (b ∷ c ∷ [])) h

pub length-pushed : (bits : List Bool) (a : Bool) (n : ℕ) → length bits ≡ n → length (bits ++ a ∷ []) ≡ n + 1
length-pushed bits a n l = omega (arith, length-append bits (a ∷ []), l)

pub HasBits-first : (bits : List Bool) (w : List ℕ) (n : ℕ) → HasBits bits w → HasBits bits (set w 0 n)
HasBits-first bits w n h q = ap (λ v. has_bit v q) (drop-set-lt 1 w 0 n (omega arith)) ∙ h q

-- one more bit of those of a list
pub length-part : {A : Type 0} (f : A → Bool) (xs : List A) (k : ℕ) (bits : List Bool) (base : ℕ) → k < length xs → length bits ≡ base
    → length (bits ++ map f (take k xs)) ≡ base + k
length-part f xs k bits base l h =
    omega (arith, l, h, length-append bits (map f (take k xs)), length-map (take k xs) f, length-take k xs)

pub HasBits-more : {A : Type 0} (f : A → Bool) (xs : List A) (k : ℕ) (x : A) (bits : List Bool) (b : Bool) (w : List ℕ) → k < length xs → x ≡ get_or xs k x → b ≡ f x
    → HasBits ((bits ++ map f (take k xs)) ++ b ∷ []) w → HasBits (bits ++ map f (take (k + 1) xs)) w
HasBits-more f xs k x bits b w l is e h =
    let more : (bits ++ map f (take k xs)) ++ b ∷ [] ≡ bits ++ map f (take (k + 1) xs) =
    append_assoc bits (map f (take k xs)) (b ∷ [])
    ∙ ap (λ bs. bits ++ bs) (ap (λ c. map f (take k xs) ++ c ∷ []) (e ∙ ap f is)
    ∙ (sym (map-append f (take k xs) (get_or xs k x ∷ [])) ∙ ap (map f) (sym (take_more xs k x l)))) in
    subst (λ bs. HasBits bs w) more h

-- children

pub label-here : (labels : List (List ℕ)) (kids : List ℕ) (j : ℕ) → j < length kids → get_or (labels_at labels kids) j [] ≡ get_or labels (get_or kids j 0) []
label-here labels kids j l = get_or-map (λ q. get_or labels q []) kids j 0 [] l

pub child-within : (labels : List (List ℕ)) (kids : List ℕ) (j : ℕ) → j < length kids → j < length (labels_at labels kids)
child-within labels kids j l = omega (arith, l, length-map kids (λ q. get_or labels q []))

pub no_child : (labels : List (List ℕ)) (kids : List ℕ) (j : ℕ) → length kids ≤ j → drop j (labels_at labels kids) ≡ []
no_child labels kids j l = drop_all j (labels_at labels kids) (omega (arith, l, length-map kids (λ q. get_or labels q [])))

pub all_kids-child : (t : List ℕ → Bool) (labels : List (List ℕ)) (kids : List ℕ) (j : ℕ) (b : Bool) → j < length kids
    → b ≡ t (get_or labels (get_or kids j 0) [])
    → all_kids t (drop j (labels_at labels kids)) ≡ (b && all_kids t (drop (j + 1) (labels_at labels kids)))
all_kids-child t labels kids j b l e =
    rw (drop_more (labels_at labels kids) j [] (child-within labels kids j l), label-here labels kids j l)
    (ap (λ c. c && all_kids t (drop (j + 1) (labels_at labels kids))) (sym e))

pub some_kid-child : (t : List ℕ → Bool) (labels : List (List ℕ)) (kids : List ℕ) (j : ℕ) (b : Bool) → j < length kids
    → b ≡ t (get_or labels (get_or kids j 0) [])
    → some_kid t (drop j (labels_at labels kids)) ≡ (b || some_kid t (drop (j + 1) (labels_at labels kids)))
some_kid-child t labels kids j b l e =
    rw (drop_more (labels_at labels kids) j [] (child-within labels kids j l), label-here labels kids j l)
    (ap (λ c. c || some_kid t (drop (j + 1) (labels_at labels kids))) (sym e))

pub one_kid-child : (t o : List ℕ → Bool) (labels : List (List ℕ)) (kids : List ℕ) (j : ℕ) (b c : Bool) → j < length kids
    → b ≡ (t (get_or labels (get_or kids j 0) []) && all_kids o (drop (j + 1) (labels_at labels kids))) → c ≡ o (get_or labels (get_or kids j 0) [])
    → one_kid t o (drop j (labels_at labels kids)) ≡ (b || (c && one_kid t o (drop (j + 1) (labels_at labels kids))))
one_kid-child t o labels kids j b c l e h =
    let rest : List (List ℕ) = drop (j + 1) (labels_at labels kids) in
    rw (drop_more (labels_at labels kids) j [] (child-within labels kids j l), label-here labels kids j l)
    (ap (λ z. z || (o (get_or labels (get_or kids j 0) []) && one_kid t o rest)) (sym e) ∙ ap (λ z. b || (z && one_kid t o rest)) (sym h))
