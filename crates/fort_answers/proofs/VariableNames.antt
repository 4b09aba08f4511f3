-- Laws of the names of variables: of v0, v1 and so on no more are declared than the signature has symbols, so that each variable has its name; a longer range has the same names.
use Rattle.std.proofs.Common.{◌≡◌, ℕ, zero, suc, ◌+◌, ◌^◌, ◌<◌, ◌≤◌, Bool, false, List, [], ◌++◌, map, length, take, drop, get_or, inl, inr, refl, sym, ap, ◌∙◌, arith}
use Rattle.std.specs.Prelude.{filter, bytes_eq, decimal}
use Rattle.std.specs.List.{AllByRecursion, IsDistinct, list_any, range_with_len}
use Rattle.std.proofs.lemmas.Bool.{cases_Bool, cases_lt, false_from_ne_true}
use Rattle.std.proofs.lemmas.Cmp.{nat_list_eq_equiv}
use Rattle.std.proofs.lemmas.Fmt.{decimal_injective}
use Rattle.std.proofs.lemmas.List.{get_or_append_left, length-map, take-append-drop}
use Rattle.std.proofs.lemmas.List.Elements.{filter-append}
use Rattle.std.proofs.lemmas.List.Filters.{length-filter_both}
use Rattle.std.proofs.lemmas.List.FromFn.{length-map-range_with_len, take-map-range_with_len}
use Rattle.std.proofs.lemmas.Map.Made.{is_member-Decides, length-le_from_is_member}
use Rattle.std.proofs.lemmas.Slice.Eq.{bytes_eq-Decides}
use Rattle.fort_theory.specs.Signatures.{Signature, names_of}
use Rattle.fort_theory.proofs.Members.{Contains-from_filter}
use Rattle.fort_answers.specs.RuleText.{v_name, is_undeclared, variable_names, variable_name}

-- ---- different numbers, different names

v_names_differ : (a b : ℕ) → a < b → b < 2 ^ 64 → bytes_eq (v_name a) (v_name b) ≡ false
v_names_differ a b low small =
    false_from_ne_true _
    (λ found.
    let same : v_name a ≡ v_name b = (bytes_eq-Decides (v_name a) (v_name b)).0 found in
    let digits : decimal a ≡ decimal b = cc in
    omega (arith, decimal_injective a b (omega arith) small digits))

differ_behind : (p : List ℕ → Bool) (a b k : ℕ) → a < b → b + k ≤ 2 ^ 64 → AllByRecursion (λ y. bytes_eq (v_name a) y ≡ false) (filter p (map v_name (range_with_len b k)))
differ_behind p a b zero low small = tt
differ_behind p a b (suc k) low small =
    let rest = differ_behind p a (b + 1) k (omega arith) (omega arith) in
    elim (cases_Bool (p (v_name b))) [
      | inl here ↦ rw here (v_names_differ a b low (omega arith), rest)
      | inr skipped ↦ rw skipped rest
    ]

v_names_distinct : (p : List ℕ → Bool) (a k : ℕ) → a + k ≤ 2 ^ 64 → IsDistinct bytes_eq (filter p (map v_name (range_with_len a k)))
unfolding IsDistinct
v_names_distinct p a zero small = tt
v_names_distinct p a (suc k) small =
    let rest = v_names_distinct p (a + 1) k (omega arith) in
    elim (cases_Bool (p (v_name a))) [
      | inl here ↦ rw here (differ_behind p a (a + 1) k (omega arith) (omega arith), rest)
      | inr skipped ↦ rw skipped rest
    ]

-- ---- no more are declared than there are symbols

abbrev is_declared : Signature → List ℕ → Bool
is_declared sig name = list_any (bytes_eq name) (names_of sig)

abbrev all_names : ℕ → List (List ℕ)
all_names k = map v_name (range_with_len 0 k)

few_declared : (sig : Signature) (k : ℕ) → k ≤ 2 ^ 64 → length (filter (is_declared sig) (all_names k)) ≤ length sig
few_declared sig k small =
    let xs = filter (is_declared sig) (all_names k) in
    let most = length-le_from_is_member nat_list_eq_equiv xs (names_of sig) (v_names_distinct (is_declared sig) 0 k (omega arith))
    (λ q found. (Contains-from_filter (is_declared sig) (all_names k) q ((is_member-Decides bytes_eq-Decides xs q).0 found)).1) in
    omega (arith, most, length-map sig (λ s. s.name))

-- Result: a variable has its name in its own range
pub enough_names : (sig : Signature) (n : ℕ) → suc n + length sig ≤ 2 ^ 64 → n < length (variable_names sig n)
enough_names sig n small =
    let k = suc n + length sig in
    let both = length-filter_both (is_declared sig) (is_undeclared sig) (λ x. refl) (all_names k) in
    omega (arith, both, few_declared sig k small, length-map-range_with_len v_name 0 k)

-- ---- a longer range begins with the same names

longer_begins : (sig : Signature) (m n v : ℕ) → m ≤ n → v < length (variable_names sig m) → get_or (variable_names sig n) v [] ≡ get_or (variable_names sig m) v []
longer_begins sig m n v le low =
    let k = suc m + length sig in
    let l = suc n + length sig in
    let front : take k (all_names l) ≡ all_names k = take-map-range_with_len v_name 0 l k (omega arith) in
    let whole : all_names k ++ drop k (all_names l) ≡ all_names l = ap (λ (xs : List (List ℕ)). xs ++ drop k (all_names l)) (sym front) ∙ take-append-drop k (all_names l) in
    let kept : variable_names sig n ≡ variable_names sig m ++ filter (is_undeclared sig) (drop k (all_names l)) =
    ap (filter (is_undeclared sig)) (sym whole) ∙ filter-append (is_undeclared sig) (all_names k) (drop k (all_names l)) in
    ap (λ (xs : List (List ℕ)). get_or xs v []) kept
    ∙ get_or_append_left (variable_names sig m) (filter (is_undeclared sig) (drop k (all_names l))) [] v low

-- Result: each name in a range is the name of the variable with its number
pub name_in_range : (sig : Signature) (n v : ℕ) → suc v + length sig ≤ 2 ^ 64 → v < length (variable_names sig n) → get_or (variable_names sig n) v [] ≡ variable_name sig v
unfolding variable_name
name_in_range sig n v small low =
    elim (cases_lt v n) [
      | inl below ↦ longer_begins sig v n v (omega arith) (enough_names sig v small)
      | inr above ↦ sym (longer_begins sig n v v above low)
    ]

-- a range has no more names than numbers
pub most_names : (sig : Signature) (n : ℕ) → length (variable_names sig n) ≤ suc n + length sig
most_names sig n =
    let k = suc n + length sig in
    let both = length-filter_both (is_declared sig) (is_undeclared sig) (λ x. refl) (all_names k) in
    omega (arith, both, length-map-range_with_len v_name 0 k)
