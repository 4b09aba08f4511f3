-- The sides and the index of a rule by the elements of its list.
use Rattle.std.proofs.Common.{◌≡◌, ℕ, ◌+◌, ◌<◌, ◌≤◌, List, [], ◌∷◌, length, slice_get, Some, ◌⊎◌, inl, inr, refl, ap, ◌∙◌, subst, arith}
use Rattle.std.specs.Prelude.{codes, decimal}
use Rattle.std.proofs.lemmas.Fmt.{decimal_injective}
use Rattle.fort_theory.specs.Signatures.{most_indices}
use Rattle.fort_grammar.specs.Forms.{Form, Forms, Word, ListForm, NoForm, MoreForms}
use Rattle.fort_grammar.specs.Declarations.{as_list, elements_of, word_of, IsHeaded}
use Rattle.fort_grammar.specs.RuleForms.{HasSides, OfFirst, OfIndex}
use Rattle.fort_sexpr.specs.FormCode.{node_count, node_counts}
use Rattle.fort_ari.specs.Numbers.{IsNumberNamed}
use Rattle.fort_ari.proofs.Heads.{head_from_IsHeaded}

module _ (bytes : List ℕ) (number : ℕ) (f left right : Form) where
  pub HasSides-three : (es : List Form) → elements_of f ≡ Some es → length es ≡ 3 → slice_get es 1 ≡ Some left → slice_get es 2 ≡ Some right
      → IsHeaded bytes (codes "rule") f → HasSides bytes number f left right 1
  HasSides-three [] e l p q h = absurd (omega arith)
  HasSides-three (a ∷ []) e l p q h = absurd (omega arith)
  HasSides-three (a ∷ b ∷ []) e l p q h = absurd (omega arith)
  HasSides-three (a ∷ b ∷ c ∷ []) e l p q h =
      let second : b ≡ left = cc in
      let third : c ≡ right = cc in
      OfFirst a (e ∙ ap (λ x. Some (a ∷ x ∷ c ∷ [])) second ∙ ap (λ x. Some (a ∷ left ∷ x ∷ [])) third)
      (head_from_IsHeaded bytes (codes "rule") f a (b ∷ c ∷ []) e h)
  HasSides-three (a ∷ b ∷ c ∷ d ∷ es) e l p q h = absurd (omega arith)

  pub HasSides-five : (key value : Form) (index : ℕ) (es : List Form) → elements_of f ≡ Some es → length es ≡ 5 → slice_get es 1 ≡ Some left
      → slice_get es 2 ≡ Some right → slice_get es 3 ≡ Some key → slice_get es 4 ≡ Some value → IsHeaded bytes (codes "rule") f
      → IsNumberNamed bytes key value (codes ":index") index → index ≤ number → HasSides bytes number f left right index
  HasSides-five key value index [] e l p q r s h is le = absurd (omega arith)
  HasSides-five key value index (a ∷ []) e l p q r s h is le = absurd (omega arith)
  HasSides-five key value index (a ∷ b ∷ []) e l p q r s h is le = absurd (omega arith)
  HasSides-five key value index (a ∷ b ∷ c ∷ []) e l p q r s h is le = absurd (omega arith)
  HasSides-five key value index (a ∷ b ∷ c ∷ x ∷ []) e l p q r s h is le = absurd (omega arith)
  HasSides-five key value index (a ∷ b ∷ c ∷ x ∷ y ∷ []) e l p q r s h is le =
      let second : b ≡ left = cc in
      let third : c ≡ right = cc in
      let fourth : x ≡ key = cc in
      let fifth : y ≡ value = cc in
      OfIndex a key value
      (e ∙ ap (λ z. Some (a ∷ z ∷ c ∷ x ∷ y ∷ [])) second ∙ ap (λ z. Some (a ∷ left ∷ z ∷ x ∷ y ∷ [])) third
      ∙ ap (λ z. Some (a ∷ left ∷ right ∷ z ∷ y ∷ [])) fourth ∙ ap (λ z. Some (a ∷ left ∷ right ∷ key ∷ z ∷ [])) fifth)
      (head_from_IsHeaded bytes (codes "rule") f a (b ∷ c ∷ x ∷ y ∷ []) e h) is.named is.is is.low le
  HasSides-five key value index (a ∷ b ∷ c ∷ x ∷ y ∷ z ∷ es) e l p q r s h is le = absurd (omega arith)

-- what the elements of a rule are
pub record IsRuleOf (bytes : List ℕ) (number : ℕ) (es : List Form) (index : ℕ) : Type 0 where
  pub count : (length es ≡ 3) ⊎ (length es ≡ 5)
  pub within : index ≤ number
  pub indexed : (key value : Form) → slice_get es 3 ≡ Some key → slice_get es 4 ≡ Some value → IsNumberNamed bytes key value (codes ":index") index

pub rule_of : (bytes : List ℕ) (number : ℕ) (f left right : Form) (es : List Form) (index : ℕ) → 1 ≤ number → number ≤ most_indices → elements_of f ≡ Some es
    → HasSides bytes number f left right index → IsRuleOf bytes number es index
rule_of bytes number f left right es index some few e (OfFirst head is headed) =
    let same : head ∷ left ∷ right ∷ [] ≡ es = cc in
    subst (λ xs. IsRuleOf bytes number xs 1) same (record { count = inl refl; within = some; indexed = λ key value k v. absurd cc })
rule_of bytes number f left right es index some few e (OfIndex head key value is headed named text low high) =
    let same : head ∷ left ∷ right ∷ key ∷ value ∷ [] ≡ es = cc in
    subst (λ xs. IsRuleOf bytes number xs index) same (record {
      count = inr refl;
      within = high;
      indexed = λ k v is_key is_value.
          let fourth : k ≡ key = cc in
          let fifth : v ≡ value = cc in
          record { named = ap (word_of bytes) fourth ∙ named; low = low; high = omega arith; is = ap (word_of bytes) fifth ∙ text };
    })

-- its index is one of the system's
pub HasSides-low : (bytes : List ℕ) (number : ℕ) (f left right : Form) (index : ℕ) → HasSides bytes number f left right index → 1 ≤ index
HasSides-low bytes number f left right index (OfFirst head is headed) = omega arith
HasSides-low bytes number f left right index (OfIndex head key value is headed named text low high) = low

pub HasSides-high : (bytes : List ℕ) (number : ℕ) (f left right : Form) (index : ℕ) → 1 ≤ number → HasSides bytes number f left right index → index ≤ number
HasSides-high bytes number f left right index some (OfFirst head is headed) = some
HasSides-high bytes number f left right index some (OfIndex head key value is headed named text low high) = high

two_counts : (fs : Forms) (head left right : Form) (rest : List Form) → as_list fs ≡ head ∷ left ∷ right ∷ rest → node_count left + node_count right ≤ node_counts fs
two_counts NoForm head left right rest e = absurd cc
two_counts (MoreForms a NoForm) head left right rest e = absurd cc
two_counts (MoreForms a (MoreForms b NoForm)) head left right rest e = absurd cc
two_counts (MoreForms a (MoreForms b (MoreForms c fs))) head left right rest e =
    let second : b ≡ left = cc in
    let third : c ≡ right = cc in
    omega (arith, ap node_count second, ap node_count third)

two_elements : (f head left right : Form) (rest : List Form) → elements_of f ≡ Some (head ∷ left ∷ right ∷ rest)
    → node_count left + node_count right < node_count f
two_elements (Word from to) head left right rest e = absurd cc
two_elements (ListForm from to fs) head left right rest e =
    let same : as_list fs ≡ head ∷ left ∷ right ∷ rest = cc in omega (arith, two_counts fs head left right rest same)

-- both sides have fewer words and lists in them than the rule
pub HasSides-node_count : (bytes : List ℕ) (number : ℕ) (f left right : Form) (index : ℕ) → HasSides bytes number f left right index
    → node_count left + node_count right < node_count f
HasSides-node_count bytes number f left right index (OfFirst head is headed) = two_elements f head left right [] is
HasSides-node_count bytes number f left right index (OfIndex head key value is headed named text low high) =
    two_elements f head left right (key ∷ value ∷ []) is

pub number_unique : (bytes : List ℕ) (key value : Form) (name : List ℕ) (m n : ℕ) → IsNumberNamed bytes key value name m → IsNumberNamed bytes key value name n
    → m ≡ n
number_unique bytes key value name m n h g =
    let left = h.is in
    let right = g.is in
    let same : decimal m ≡ decimal n = cc in
    let high = h.high in
    let high' = g.high in decimal_injective m n (omega arith) (omega arith) same
