-- Lists of words, each once; and lists of known lengths, one behind the other, tell each of them.
use Rattle.std.proofs.Common.{◌≡◌, ℕ, zero, suc, ◌-◌, ◌<◌, ◌≤◌, List, [], ◌∷◌, ◌++◌, length, take, get_or, Bool, true, false, ◌==◌, if◌then◌else◌, ⊎_elim, refl, ap, sym, ◌∙◌, arith, subst}
use Rattle.std.proofs.lemmas.Bool.{cases_Bool, cases_lt, or_cases, eqb-true}
use Rattle.std.proofs.lemmas.List.{length_push, get_or_push, get_or_append_left}
use Rattle.std.proofs.Math.Seq.{take-append_seam}
use Rattle.std.specs.List.{list_any, flat_map}
use Rattle.fort_tables.specs.Laid.{joined_below}
use Rattle.fort_operand_keys.proofs.RowLaws.{first_same, second_same}
use Rattle.fort_projection_keys.specs.ProjectionViews.{with_word}

-- the list has the word
abbrev pub Has : List ℕ → ℕ → Type 0
Has ws x = (k : ℕ) × (k < length ws) × (get_or ws k 0 ≡ x)

-- each word of the list is so
abbrev pub Each : (ℕ → Type 0) → List ℕ → Type 0
Each P ws = (k : ℕ) → k < length ws → P (get_or ws k 0)

any_has : (ws : List ℕ) (x : ℕ) → list_any (λ y. y == x) ws ≡ true → Has ws x
any_has [] x h = absurd cc
any_has (y ∷ ws) x h =
    ⊎_elim (λ (e : (y == x) ≡ true). (0, omega arith, eqb-true y x e)) (λ (e : list_any (λ z. z == x) ws ≡ true). let r = any_has ws x e in (suc r.0, omega (arith, r.1), r.2))
    (or_cases (y == x) (list_any (λ z. z == x) ws) h)

-- a word that is there stays
kept : (b : Bool) (ws : List ℕ) (x y : ℕ) → Has ws y → Has (if b then ws else ws ++ x ∷ []) y
kept true ws x y h = h
kept false ws x y h = (h.0, omega (arith, h.1, length_push ws x), get_or_append_left ws (x ∷ []) 0 h.0 h.1 ∙ h.2)

pub has_kept : (ws : List ℕ) (x y : ℕ) → Has ws y → Has (with_word ws x) y
has_kept ws x y h = kept (list_any (λ z. z == x) ws) ws x y h

-- the word itself is there then
pub has_itself : (ws : List ℕ) (x : ℕ) → Has (with_word ws x) x
has_itself ws x = ⊎_elim
    (λ (e : list_any (λ z. z == x) ws ≡ true). subst (λ (b : Bool). Has (if b then ws else ws ++ x ∷ []) x) (sym e) (any_has ws x e))
    (λ (e : list_any (λ z. z == x) ws ≡ false).
    let one : Has (ws ++ x ∷ []) x = (length ws, omega (arith, length_push ws x), get_or_push ws x 0 (length ws) refl) in
    subst (λ (b : Bool). Has (if b then ws else ws ++ x ∷ []) x) (sym e) one)
    (cases_Bool (list_any (λ z. z == x) ws))

each_pushed : (P : ℕ → Type 0) (ws : List ℕ) (x : ℕ) → Each P ws → P x → Each P (ws ++ x ∷ [])
each_pushed P ws x h p k l = ⊎_elim
    (λ (m : k < length ws). subst P (sym (get_or_append_left ws (x ∷ []) 0 k m)) (h k m))
    (λ (m : length ws ≤ k).
    let e : length ws ≡ k = omega (arith, l, length_push ws x) in
    subst P (sym (get_or_push ws x 0 k e)) p)
    (cases_lt k (length ws))

each_by : (P : ℕ → Type 0) (b : Bool) (ws : List ℕ) (x : ℕ) → Each P ws → P x → Each P (if b then ws else ws ++ x ∷ [])
each_by P true ws x h p = h
each_by P false ws x h p = each_pushed P ws x h p

pub each_with : (P : ℕ → Type 0) (ws : List ℕ) (x : ℕ) → Each P ws → P x → Each P (with_word ws x)
each_with P ws x h p = each_by P (list_any (λ z. z == x) ws) ws x h p

-- all but the last word, and the last one
pub front_is : (ws : List ℕ) (x : ℕ) → take (length (ws ++ x ∷ []) - 1) (ws ++ x ∷ []) ≡ ws
front_is ws x =
    let e : length (ws ++ x ∷ []) - 1 ≡ length ws = omega (arith, length_push ws x) in
    ap (λ n. take n (ws ++ x ∷ [])) e ∙ take-append_seam ws (x ∷ [])

pub last_is : (ws : List ℕ) (x : ℕ) → get_or (ws ++ x ∷ []) (length (ws ++ x ∷ []) - 1) 0 ≡ x
last_is ws x =
    let e : length ws ≡ length (ws ++ x ∷ []) - 1 = omega (arith, length_push ws x) in
    get_or_push ws x 0 (length (ws ++ x ∷ []) - 1) e

-- Result: lists of known lengths, one for each word, are equal where they are so one behind the other
pub parts_same : (g h : ℕ → List ℕ) (ws : List ℕ) → ((x : ℕ) → length (g x) ≡ length (h x)) → flat_map g ws ≡ flat_map h ws → (x : ℕ) → Has ws x → g x ≡ h x
parts_same g h [] long same x has = absurd (omega (arith, has.1))
parts_same g h (y ∷ ws) long same x (zero, l, e) =
    let here : g y ≡ h y = first_same (g y) (h y) (flat_map g ws) (flat_map h ws) (long y) same in
    subst (λ (z : ℕ). g z ≡ h z) e here
parts_same g h (y ∷ ws) long same x (suc k, l, e) =
    parts_same g h ws long (second_same (g y) (h y) (flat_map g ws) (flat_map h ws) (long y) same) x (k, omega (arith, l), e)

-- equal lists, one for each number
pub joined_equal : {A : Type 0} (n : ℕ) (g h : ℕ → List A) → ((k : ℕ) → k < n → g k ≡ h k) → joined_below n g ≡ joined_below n h
joined_equal zero g h same = refl
joined_equal (suc n) g h same =
    let before = joined_equal n g h (λ k l. same k (omega (arith, l))) in
    let last = same n (omega arith) in
    λ i. before i ++ last i
