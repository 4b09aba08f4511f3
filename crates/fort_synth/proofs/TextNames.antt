-- The names of variables, one after another: one more that is declared, and one that isn't.
use Rattle.std.proofs.Common.{◌≡◌, ℕ, suc, ◌+◌, ◌<◌, ◌^◌, Bool, true, false, not, cond, List, [], ◌∷◌, ◌++◌, map, length, get_or, Vec, vec_items, Option, None, Some, is_some, sym, ap, ◌∙◌, arith, append-nil}
use Rattle.std.specs.Prelude.{filter, Contains, IfSome, IfNone}
use Rattle.std.specs.declared.alloc.Global.{Global}
use Rattle.std.specs.List.{range_with_len}
use Rattle.std.proofs.lemmas.List.{length-map, map-append}
use Rattle.std.proofs.lemmas.List.FromFn.{filter_of_map_range_with_len_more}
use Rattle.std.proofs.lemmas.Map.Made.{is_member-Decides}
use Rattle.std.proofs.lemmas.Slice.Eq.{bytes_eq-Decides}
use Rattle.fort_theory.specs.Signatures.{Signature, IsSignature, name_of, names_of}
use Rattle.fort_theory.proofs.SignaturesLaws.{Contains-from_name_of, list_any-bytes_eq_none}
use Rattle.fort_terms.specs.declared.sym.Sym.{Sym}
use Rattle.fort_answers.specs.RuleText.{v_name, is_undeclared, variable_names, variable_name}
use Rattle.fort_answers.proofs.VariableNames.{enough_names, most_names, name_in_range}

abbrev names_before : Signature → ℕ → List (List ℕ)
names_before sig k = filter (is_undeclared sig) (map v_name (range_with_len 0 k))

-- what a search for a name found
found_declared : (sig : Signature) (name : List ℕ) (found : Option Sym) → is_some found ≡ true → IfSome found (λ f. name_of sig f.0 ≡ Some name) → is_undeclared sig name ≡ false
found_declared sig name None there is = absurd cc
found_declared sig name (Some f) there is =
    ap not ((is_member-Decides bytes_eq-Decides (names_of sig) name).1 (Contains-from_name_of sig name f.0 is))

not_found : (sig : Signature) (name : List ℕ) (found : Option Sym) → is_some found ≡ false → IfNone found (Contains (names_of sig) name → ⊥) → is_undeclared sig name ≡ true
not_found sig name None there is = ap not (list_any-bytes_eq_none (names_of sig) name is)
not_found sig name (Some f) there is = absurd cc

one_more : (sig : Signature) (k : ℕ) (b : Bool) → is_undeclared sig (v_name k) ≡ b → names_before sig (k + 1) ≡ names_before sig k ++ cond b (v_name k ∷ []) []
one_more sig k b is =
    filter_of_map_range_with_len_more (is_undeclared sig) v_name 0 k k (omega arith)
    ∙ ap (λ x. names_before sig k ++ cond x (v_name k ∷ []) []) is

-- one that is declared
pub name_passed : (sig : Signature) (k : ℕ) (old new : List (Vec ℕ Global)) (name : List ℕ) (found : Option Sym) → map vec_items old ≡ names_before sig k → name ≡ v_name k
    → is_some found ≡ true → IfSome found (λ f. name_of sig f.0 ≡ Some name) → new ≡ old → map vec_items new ≡ names_before sig (k + 1)
name_passed sig k old new name found are named there is same =
    let declared : is_undeclared sig (v_name k) ≡ false = ap (is_undeclared sig) (sym named) ∙ found_declared sig name found there is in
    ap (map vec_items) same ∙ (are ∙ (sym (append-nil (names_before sig k)) ∙ sym (one_more sig k false declared)))

-- one that isn't
pub name_added : (sig : Signature) (k : ℕ) (old new : List (Vec ℕ Global)) (own : Vec ℕ Global) (name : List ℕ) (found : Option Sym) → map vec_items old ≡ names_before sig k → own.items ≡ v_name k → name ≡ own.items
    → is_some found ≡ false → IfNone found (Contains (names_of sig) name → ⊥) → new ≡ old ++ own ∷ [] → map vec_items new ≡ names_before sig (k + 1)
name_added sig k old new own name found are named same there is more =
    let free : is_undeclared sig (v_name k) ≡ true = ap (is_undeclared sig) (sym (same ∙ named)) ∙ not_found sig name found there is in
    ap (map vec_items) more
    ∙ (map-append vec_items old (own ∷ [])
    ∙ (ap (λ xs. xs ++ own.items ∷ []) are
    ∙ (ap (λ x. names_before sig k ++ x ∷ []) named
    ∙ sym (one_more sig k true free))))

pub all_names : (sig : Signature) (n k : ℕ) (names : List (Vec ℕ Global)) → map vec_items names ≡ names_before sig k → k ≡ suc n + length sig → map vec_items names ≡ variable_names sig n
all_names sig n k names are whole = are ∙ ap (names_before sig) whole

-- ---- enough names, each the right one

pub names_enough : (sig : Signature) (n : ℕ) (names all : List (Vec ℕ Global)) → IsSignature sig → n < 2 ^ 32 → map vec_items names ≡ variable_names sig n → all ≡ names → n < length all
names_enough sig n names all is small are same =
    omega (arith, ap length are, length-map names vec_items, ap length same, enough_names sig n (omega (arith, is.few)))

pub names_right : (sig : Signature) (n : ℕ) (names all : List (Vec ℕ Global)) → IsSignature sig → n < 2 ^ 32 → map vec_items names ≡ variable_names sig n → all ≡ names
    → (v : ℕ) → v < length all → get_or (map vec_items all) v [] ≡ variable_name sig v
names_right sig n names all is small are same v low =
    let inside : v < length (variable_names sig n) = omega (arith, ap length are, length-map names vec_items, ap length same) in
    ap (λ (xs : List (List ℕ)). get_or xs v []) (ap (map vec_items) same ∙ are)
    ∙ name_in_range sig n v (omega (arith, is.few, most_names sig n)) inside
