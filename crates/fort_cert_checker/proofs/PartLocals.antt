-- The rule and the value that a part is to have, by the answers of its operands.
use Rattle.std.specs.Prelude.{◌≡◌, ℕ, ◌<◌, ◌≤◌, List, length, Bool, true, not}
use Rattle.std.proofs.Common.{sym, ap, ◌∙◌, subst, arith}
use Rattle.fort_theory.specs.Signatures.{Signature}
use Rattle.fort_theory.specs.Patterns.{PatternSystem}
use Rattle.fort_theory.specs.Cores as core
use Rattle.fort_theory.specs.Cores.{Core, Binary}
use Rattle.fort_tables.specs.Tables.{Table}
use Rattle.fort_theory.specs.Logic.{Connective}
use Rattle.fort_tables.specs.Products.{AreOperands, connected}
use Rattle.fort_tables.specs.Projections.{ArePure, some_below}
use Rattle.fort_tables.specs.Counts.{Count}
use Rattle.fort_tables.specs.ManyLabels.{many_value}
use Rattle.fort_parts.specs.PartColumns.{columns_of, place_in, places_in}
use Rattle.fort_parts.specs.PartAnswers.{Answer, OfValue, OfTable, FitsColumns}
use Rattle.fort_parts.specs.PartSteps.{operand_of}
use Rattle.fort_certificate_theory.specs.Made.{MadeSoFar, IsAnswerOf}
use Rattle.fort_certificate_theory.specs.PartRules.{Local, product_local, project_local, many_local, is_many, IsLocalOf, IsProductLocal, IsConnectedValue, IsValueOf}
use Rattle.fort_cert_checker.specs.Joins.{joined_local, AreJoined}
use Rattle.fort_cert_checker.proofs.JoinFits.{signature_joined, operands_joined}

module _ (system : PatternSystem) (parts : List Core) (k : ℕ) (made : MadeSoFar) where
  product_of : (op : Connective) (f g : Core) (local : Local) → IsProductLocal parts made op (Binary op f g) f g local → IsLocalOf system parts made k (Binary op f g) local
  product_of op f g local h = h

  value_of : (op : Connective) (f g : Core) (value : Bool) → IsConnectedValue parts made op f g value → IsValueOf parts made k (Binary op f g) value
  value_of op f g value h = h

  pub joined_local_is : (h : Core) (op : Connective) (f g : Core) (a b : Answer) (n : ℕ) (ps qs : List ℕ) → h ≡ Binary op f g → IsAnswerOf parts made f a → IsAnswerOf parts made g b → n ≡ length (columns_of h)
      → ps ≡ places_in (columns_of h) (columns_of f) → qs ≡ places_in (columns_of h) (columns_of g) → IsLocalOf system parts made k h (joined_local op n a ps b qs)
  joined_local_is h op f g a b n ps qs whole one other count p q =
      let own : joined_local op n a ps b qs ≡ product_local op h f g a b = λ i. joined_local op (count i) a (p i) b (q i) in
      subst (λ (x : Core). IsLocalOf system parts made k x (joined_local op n a ps b qs)) (sym whole)
      (product_of op f g (joined_local op n a ps b qs)
      (record { first = a; second = b; first_is = one; second_is = other; is = own ∙ ap (λ (x : Core). product_local op x f g a b) whole }))

  pub joined_value_is : (h : Core) (op : Connective) (f g : Core) (a b value : Bool) → h ≡ Binary op f g → IsAnswerOf parts made f (OfValue a) → IsAnswerOf parts made g (OfValue b) → value ≡ connected op a b
      → IsValueOf parts made k h value
  joined_value_is h op f g a b value whole one other is =
      subst (λ (x : Core). IsValueOf parts made k x value) (sym whole) (value_of op f g value (record { first = a; second = b; first_is = one; second_is = other; is = is }))

  pub projected_local_is : (h : Core) (n : ℕ) (f : Core) (body : Table) (c : ℕ) → h ≡ core.Exists n f → IsAnswerOf parts made f (OfTable body) → c ≡ place_in (columns_of f) n → IsLocalOf system parts made k h (project_local body c)
  projected_local_is h n f body c whole is column =
      subst (λ (x : Core). IsLocalOf system parts made k x (project_local body c)) (sym whole) (record { body = body; body_is = is; is = ap (project_local body) column })

  pub some_value_is : (h : Core) (n : ℕ) (f : Core) (body : Table) (value : Bool) → h ≡ core.Exists n f → IsAnswerOf parts made f (OfTable body) → value ≡ some_below (length body.presences) body.accepting → IsValueOf parts made k h value
  some_value_is h n f body value whole is e = subst (λ (x : Core). IsValueOf parts made k x value) (sym whole) (body, is, e)

  pub negated_value_is : (h f : Core) (b value : Bool) → h ≡ core.Not f → IsAnswerOf parts made f (OfValue b) → value ≡ not b → IsValueOf parts made k h value
  negated_value_is h f b value whole is e = subst (λ (x : Core). IsValueOf parts made k x value) (sym whole) (b, is, e)

  pub true_value_is : (h : Core) (value : Bool) → h ≡ core.True → value ≡ true → IsValueOf parts made k h value
  true_value_is h value whole e = subst (λ (x : Core). IsValueOf parts made k x value) (sym whole) e

  module _ (h : Core) (n : ℕ) (f : Core) (body : Table) (c : ℕ) (states : List ℕ) (marks : List Count) (whole : h ≡ core.Infinite n f) (is : IsAnswerOf parts made f (OfTable body)) (column : c ≡ place_in (columns_of f) n)
      (pure : ArePure body c states) (own : made.counts k ≡ marks) where
    counted : ArePure body (place_in (columns_of f) n) states
    counted = subst (λ (d : ℕ). ArePure body d states) column pure

    pub many_local_is : IsLocalOf system parts made k h (many_local body c (is_many states marks))
    many_local_is =
        subst (λ (x : Core). IsLocalOf system parts made k x (many_local body c (is_many states marks))) (sym whole)
        (record { body = body; states = states; counted = record { body_is = is; pure = counted }; is = λ i. many_local body (column i) (is_many states (sym own i)) })

    pub many_value_is : (value : Bool) → value ≡ many_value body c (is_many states marks) → IsValueOf parts made k h value
    many_value_is value e =
        subst (λ (x : Core). IsValueOf parts made k x value) (sym whole)
        (record { body = body; states = states; counted = record { body_is = is; pure = counted }; is = e ∙ (λ i. many_value body (column i) (is_many states (sym own i))) })

-- two answers that fit are operands of the product
pub joined_fit : (sig : Signature) (h : Core) (op : Connective) (f g : Core) (a b : Answer) (n : ℕ) (ps qs : List ℕ) → h ≡ Binary op f g → 0 < length (columns_of h) → length (columns_of h) ≤ 16
    → FitsColumns sig (columns_of f) a → FitsColumns sig (columns_of g) b → n ≡ length (columns_of h) → ps ≡ places_in (columns_of h) (columns_of f) → qs ≡ places_in (columns_of h) (columns_of g) → AreJoined sig n a ps b qs
joined_fit sig h op f g a b n ps qs whole some few one other count p q =
    let some_is : 0 < length (columns_of (Binary op f g)) = subst (λ (x : Core). 0 < length (columns_of x)) whole some in
    let count_is : n ≡ length (columns_of (Binary op f g)) = count ∙ ap (λ (x : Core). length (columns_of x)) whole in
    let p_is : ps ≡ places_in (columns_of (Binary op f g)) (columns_of f) = p ∙ ap (λ (x : Core). places_in (columns_of x) (columns_of f)) whole in
    let q_is : qs ≡ places_in (columns_of (Binary op f g)) (columns_of g) = q ∙ ap (λ (x : Core). places_in (columns_of x) (columns_of g)) whole in
    let signed = signature_joined sig op f g some_is a b ps qs one other in
    let over : AreOperands sig n (operand_of a ps) (operand_of b qs) =
    subst (λ (m : ℕ). AreOperands sig m (operand_of a ps) (operand_of b qs)) (sym count_is)
    (subst (λ (xs : List ℕ). AreOperands sig (length (columns_of (Binary op f g))) (operand_of a xs) (operand_of b qs)) (sym p_is)
    (subst (λ (xs : List ℕ). AreOperands sig (length (columns_of (Binary op f g))) (operand_of a (places_in (columns_of (Binary op f g)) (columns_of f))) (operand_of b xs)) (sym q_is)
    (operands_joined sig op f g some_is a b one other))) in
    record {
      some = omega (arith, count, some);
      narrow = omega (arith, count, few);
      signature = signed;
      operands = subst (λ (s : Signature). AreOperands s n (operand_of a ps) (operand_of b qs)) (sym signed) over;
    }
