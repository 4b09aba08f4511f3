-- The system of an input has a constant and 1 to 9 indices, and rules that fit its signature, are linear and variable-separated.
use Rattle.std.specs.Prelude.{◌≡◌, ℕ, zero, suc, ◌+◌, ◌==◌, ◌<◌, ◌≤◌, List, [], ◌∷◌, length, filter, map, All, Contains, nat_eq, false}
use Rattle.std.specs.List.{AllByRecursion, IsDistinct, range_with_len}
use Rattle.std.proofs.Common.{sym, subst, inl, inr, arith, ◌∙◌}
use Rattle.std.proofs.lemmas.List.{length-map}
use Rattle.std.proofs.lemmas.List.Elements.{All-from_get_or, All-map, All-weaker, All-contains_itself}
use Rattle.fort_theory.specs.Signatures.{Signature, most_indices}
use Rattle.fort_theory.specs.Sides.{Side, Rule, System, IsLinear, IsLinearSeparated}
use Rattle.fort_theory.specs.Patterns.{pattern_pair, pattern_system, FitsPair, IsSystem}
use Rattle.fort_theory.proofs.Lists.{Contains-map_from}
use Rattle.fort_theory.proofs.PatternFits.{FitsPattern-pattern_of}
use Rattle.fort_theory.proofs.Members.{Contains-none, Contains-cons_cases, Contains-from_filter}
use Rattle.fort_theory.proofs.IndexLaws.{at_index-get}
use Rattle.fort_grammar.specs.Declarations.{as_list, IsFormat, OneSystem, Several}
use Rattle.fort_grammar.specs.Forms.{Form}
use Rattle.fort_grammar.specs.RuleForms.{IsSide, IndexedRule, IsRule, AreRules, rules_of}
use Rattle.fort_grammar.specs.ProblemForms.{IsProblem}
use Rattle.fort_answers.specs.InputAnswer.{Tail, Behind, IsInputWith}
use Rattle.fort_answer_laws.proofs.OneInput.{problem_with}
use Rattle.fort_run.specs.Ready.{IsLawful}
use Rattle.fort_ari.proofs.SideLaws.{variables-IsSide, FitsSide-IsSide}
use Rattle.fort_tables.proofs.EqualTests.{test_from_apart}

-- numbers in a row are different

above : (x n m : ℕ) → x < n → AllByRecursion (λ y. nat_eq x y ≡ false) (range_with_len n m)
above x n zero l = tt
above x n (suc m) l = (test_from_apart x n (λ e. omega arith), above x (n + 1) m (omega arith))

row_distinct : (n m : ℕ) → IsDistinct nat_eq (range_with_len n m)
unfolding IsDistinct
row_distinct n zero = tt
row_distinct n (suc m) = (above n (n + 1) m (omega arith), row_distinct (n + 1) m)

row_low : (n m v : ℕ) → Contains (range_with_len n m) v → n ≤ v
row_low n zero v c = absurd (Contains-none v c)
row_low n (suc m) v c =
    elim (Contains-cons_cases n (range_with_len (n + 1) m) v c) [
      | inl here ↦ omega arith
      | inr behind ↦ (let low = row_low (n + 1) m v behind in omega arith)
    ]

row_high : (n m v : ℕ) → Contains (range_with_len n m) v → v < n + m
row_high n zero v c = absurd (Contains-none v c)
row_high n (suc m) v c =
    elim (Contains-cons_cases n (range_with_len (n + 1) m) v c) [
      | inl here ↦ omega arith
      | inr behind ↦ (let high = row_high (n + 1) m v behind in omega arith)
    ]

side_linear : {bytes : List ℕ} {signature : Signature} {n : ℕ} {f : Form} {s : Side} {names : List (List ℕ)} → IsSide bytes signature n f s names → IsLinear s
side_linear {n = n} {names = names} is = subst (IsDistinct nat_eq) (sym (variables-IsSide is)) (row_distinct n (length names))

rule_separated : (bytes : List ℕ) (number : ℕ) (signature : Signature) (f : Form) (r : IndexedRule) → IsRule bytes number signature f r → IsLinearSeparated r.rule
rule_separated bytes number signature f r is = record {
  left = side_linear is.left_is;
  right = side_linear is.right_is;
  separated =
      λ v c d.
      let high = row_high 0 (length is.left_names) v (subst (λ vs. Contains vs v) (variables-IsSide is.left_is) c) in
      let low = row_low (length is.left_names) (length is.right_names) v (subst (λ vs. Contains vs v) (variables-IsSide is.right_is) d) in
      omega arith;
}

rule_fits : (bytes : List ℕ) (number : ℕ) (signature : Signature) (f : Form) (r : IndexedRule) → IsRule bytes number signature f r
    → FitsPair signature (pattern_pair r.rule)
rule_fits bytes number signature f r is = (
  FitsPattern-pattern_of signature r.rule.left (FitsSide-IsSide is.left_is),
  FitsPattern-pattern_of signature r.rule.right (FitsSide-IsSide is.right_is),
)

-- what holds of each rule that a form is
module _ (P : Rule → Type 0) (bytes : List ℕ) (number : ℕ) (signature : Signature)
    (each : (f : Form) (r : IndexedRule) → IsRule bytes number signature f r → P r.rule) where
  holds_among : (forms : List Form) (given : List IndexedRule) → AreRules bytes number signature forms given → (r : IndexedRule) → Contains given r → P r.rule
  holds_among forms [] are r c = absurd (Contains-none r c)
  holds_among [] (x ∷ given) are r c = absurd are
  holds_among (f ∷ forms) (x ∷ given) are r c =
      elim (Contains-cons_cases x given r c) [
        | inl e ↦ subst (λ (y : IndexedRule). P y.rule) e (each f x are.0)
        | inr later ↦ holds_among forms given are.1 r later
      ]

  holds_of : (forms : List Form) (given : List IndexedRule) → AreRules bytes number signature forms given → (index : ℕ) (r : Rule)
      → Contains (rules_of index given) r → P r
  holds_of forms given are index r c =
      let from = Contains-map_from (λ (x : IndexedRule). x.rule) (filter (λ (x : IndexedRule). x.index == index) given) r c in
      let among = Contains-from_filter (λ (x : IndexedRule). x.index == index) given from.0 from.1 in
      subst P from.2 (holds_among forms given are from.0 among.0)

IsProblem-rules : (P : Rule → Type 0) (bytes : List ℕ) (forms : List Form) (system : System) (next : ℕ) → IsProblem bytes forms system next
    → ((f : Form) (r : IndexedRule) → IsRule bytes (length system.rules) system.signature f r → P r.rule) → All (All P) system.rules
IsProblem-rules P bytes forms system next p each =
    All-from_get_or (All P) system.rules [] (λ i below.
    subst (All P) (sym (p.sorted (suc i)) ∙ at_index-get i system.rules)
    (All-weaker (Contains (rules_of (suc i) p.given)) P
    (λ r c. holds_of P bytes (length system.rules) system.signature each p.rules p.given p.are_rules (suc i) r c) (rules_of (suc i) p.given)
    (All-contains_itself (rules_of (suc i) p.given))))

IsProblem-separated : (bytes : List ℕ) (forms : List Form) (system : System) (next : ℕ) → IsProblem bytes forms system next
    → All (All IsLinearSeparated) system.rules
IsProblem-separated bytes forms system next p =
    IsProblem-rules IsLinearSeparated bytes forms system next p (λ f r is. rule_separated bytes (length system.rules) system.signature f r is)

format_range : (bytes : List ℕ) (f : Form) (number : ℕ) → IsFormat bytes f number → (1 ≤ number) × (number ≤ most_indices)
format_range bytes f number (OneSystem words) = (omega arith, omega arith)
format_range bytes f number (Several low high words) = (low, high)

IsProblem-system : (bytes : List ℕ) (forms : List Form) (system : System) (next : ℕ) → IsProblem bytes forms system next → IsSystem (pattern_system system)
IsProblem-system bytes forms system next p =
    let signature = system.signature in
    let range = format_range bytes p.first (length system.rules) p.format in
    let count = length-map system.rules (map pattern_pair) in
    let fits = IsProblem-rules (λ r. FitsPair signature (pattern_pair r)) bytes forms system next p
    (λ f r is. rule_fits bytes (length system.rules) signature f r is) in
    record {
      constant = p.constant;
      some = omega (arith, count, range.0);
      few = omega (arith, count, range.1);
      fits = All-map (All (FitsPair signature)) (map pattern_pair) system.rules
          (All-weaker (All (λ r. FitsPair signature (pattern_pair r))) (λ rs. All (FitsPair signature) (map pattern_pair rs))
          (λ rs all. All-map (FitsPair signature) pattern_pair rs all) system.rules fits);
    }

IsProblem-lawful : (bytes : List ℕ) (forms : List Form) (system : System) (next : ℕ) → IsProblem bytes forms system next → IsLawful system
IsProblem-lawful bytes forms system next p = record { constant = p.constant; separated = IsProblem-separated bytes forms system next p }

-- Result
pub IsInputWith-lawful : (tail : Tail) (bytes : List ℕ) (system : System) (behind : Behind tail) → IsInputWith tail bytes system behind → IsLawful system
IsInputWith-lawful tail bytes system behind is =
    let read = problem_with tail bytes system behind is in IsProblem-lawful bytes (as_list read.0) system read.1 read.2

-- Result
pub IsInputWith-system : (tail : Tail) (bytes : List ℕ) (system : System) (behind : Behind tail) → IsInputWith tail bytes system behind
    → IsSystem (pattern_system system)
IsInputWith-system tail bytes system behind is =
    let read = problem_with tail bytes system behind is in IsProblem-system bytes (as_list read.0) system read.1 read.2
