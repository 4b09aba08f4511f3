-- Forms are one problem at most.
use Rattle.std.proofs.Common.{◌≡◌, ℕ, ◌+◌, ◌≤◌, List, [], ◌∷◌, length, refl, ap, sym, subst, ◌∙◌}
use Rattle.std.specs.Prelude.{bytes_eq}
use Rattle.std.specs.List.{IsDistinct}
use Rattle.fort_theory.specs.Signatures.{most_indices, Signature, names_of}
use Rattle.fort_theory.specs.Sides.{Side, Rule, System}
use Rattle.fort_grammar.specs.Forms.{Form}
use Rattle.fort_grammar.specs.Declarations.{IsFormat, DeclareEach}
use Rattle.fort_grammar.specs.RuleForms.{IsSide, IndexedRule, IsRule, AreRules, rules_of}
use Rattle.fort_grammar.specs.ProblemForms.{IsProblem}
use Rattle.fort_ari.proofs.Formats.{format_high}
use Rattle.fort_ari.proofs.OneSide.{IsSide-unique}
use Rattle.fort_ari.proofs.OneAnswerRules.{sides_unique}
use Rattle.fort_ari.proofs.OneAnswer.{falls_unique, format_unique, DeclareEach-unique}
use Rattle.fort_ari.proofs.Sorted.{same_lists}

same_rule : (r r' : Rule) → r.left ≡ r'.left → r.right ≡ r'.right → r ≡ r'
same_rule r r' left right =
    let P : Side → Rule = λ s. record { left = s; right = r.right } in
    let Q : Side → Rule = λ s. record { left = r'.left; right = s } in
    ap P left ∙ ap Q right

same_indexed : (r r' : IndexedRule) → r.index ≡ r'.index → r.rule ≡ r'.rule → r ≡ r'
same_indexed r r' index rule =
    let P : ℕ → IndexedRule = λ i. record { index = i; rule = r.rule } in
    let Q : Rule → IndexedRule = λ x. record { index = r'.index; rule = x } in
    ap P index ∙ ap Q rule

same_system : (s s' : System) → s.signature ≡ s'.signature → s.rules ≡ s'.rules → s ≡ s'
same_system s s' signature rules =
    let P : Signature → System = λ x. record { signature = x; rules = s.rules } in
    let Q : List (List Rule) → System = λ x. record { signature = s'.signature; rules = x } in
    ap P signature ∙ ap Q rules

module _ (bytes : List ℕ) (signature : Signature) (distinct : IsDistinct bytes_eq (names_of signature)) where
  pub IsRule-unique : (number : ℕ) (f : Form) (r r' : IndexedRule) → number ≤ most_indices → IsRule bytes number signature f r
      → IsRule bytes number signature f r' → r ≡ r'
  IsRule-unique number f r r' most is is' =
      let same = sides_unique bytes number f _ _ _ _ _ _ most is.sides is'.sides in
      let lefts = IsSide-unique distinct (subst (λ g. IsSide bytes signature 0 g r.rule.left is.left_names) same.left_same is.left_is) is'.left_is in
      let there : IsSide bytes signature (length is'.left_names) is'.right r.rule.right is.right_names =
      subst (λ (zs : List (List ℕ)). IsSide bytes signature (length zs) is'.right r.rule.right is.right_names) lefts.1
      (subst (λ g. IsSide bytes signature (length is.left_names) g r.rule.right is.right_names) same.right_same is.right_is) in
      same_indexed r r' same.index_same (same_rule r.rule r'.rule lefts.0 (IsSide-unique distinct there is'.right_is).0)

  pub AreRules-unique : (number : ℕ) (fs : List Form) (rs rs' : List IndexedRule) → number ≤ most_indices → AreRules bytes number signature fs rs
      → AreRules bytes number signature fs rs' → rs ≡ rs'
  AreRules-unique number [] [] [] most h g = refl
  AreRules-unique number [] [] (r ∷ rs') most h g = absurd g
  AreRules-unique number [] (r ∷ rs) rs' most h g = absurd h
  AreRules-unique number (f ∷ fs) [] rs' most h g = absurd h
  AreRules-unique number (f ∷ fs) (r ∷ rs) [] most h g = absurd g
  AreRules-unique number (f ∷ fs) (r ∷ rs) (r' ∷ rs') most h g =
      let first = IsRule-unique number f r r' most h.0 g.0 in
      let rest = AreRules-unique number fs rs rs' most h.1 g.1 in cc

pub IsProblem-unique : (bytes : List ℕ) (forms : List Form) (s s' : System) (n n' : ℕ) → IsProblem bytes forms s n → IsProblem bytes forms s' n'
    → (s ≡ s') × (n ≡ n')
IsProblem-unique bytes forms s s' n n' p q =
    let parts = falls_unique bytes forms _ _ _ _ _ _ _ _ p.parts q.parts in
    let signature : s.signature ≡ s'.signature = DeclareEach-unique bytes q.declarations _ _
    (subst (λ gs. DeclareEach bytes gs s.signature) parts.declarations_same p.declares.each) q.declares.each in
    let systems : length s.rules ≡ length s'.rules =
    format_unique bytes q.first _ _ (subst (λ f. IsFormat bytes f (length s.rules)) parts.first_same p.format) q.format in
    let there : AreRules bytes (length s'.rules) s'.signature q.rules p.given =
    subst (λ n. AreRules bytes n s'.signature q.rules p.given) systems
    (subst (λ x. AreRules bytes (length s.rules) x q.rules p.given) signature
    (subst (λ gs. AreRules bytes (length s.rules) s.signature gs p.given) parts.rules_same p.are_rules)) in
    let given : p.given ≡ q.given =
    AreRules-unique bytes s'.signature q.declares.distinct (length s'.rules) q.rules p.given q.given (format_high bytes q.first _ q.format) there q.are_rules in
    let rules : s.rules ≡ s'.rules =
    same_lists s.rules s'.rules systems (λ index. p.sorted index ∙ ap (rules_of index) given ∙ sym (q.sorted index)) in
    let number : length p.declarations + length p.rules + 1 ≡ length q.declarations + length q.rules + 1 =
    ap (λ (gs : List Form). length gs + length p.rules + 1) parts.declarations_same ∙ ap (λ (gs : List Form). length q.declarations + length gs + 1) parts.rules_same in
    (same_system s s' signature rules, p.next_is ∙ (number ∙ sym q.next_is))
