-- A form that is no side has one first fault.
use Rattle.std.proofs.Common.{◌≡◌, ◌≢◌, ℕ, List, ◌∷◌, Contains, length, Some, ◌⊎◌, inl, inr, refl, ap, sym, ◌∙◌, subst}
use Rattle.std.specs.Prelude.{bytes_eq}
use Rattle.std.specs.List.{IsDistinct}
use Rattle.fort_theory.specs.Signatures.{Signature, IsName, arity_of, name_of, names_of}
use Rattle.fort_theory.proofs.SignaturesLaws.{Contains-from_name_of}
use Rattle.fort_grammar.specs.Forms.{Form, Forms, ListForm, MoreForms}
use Rattle.fort_grammar.specs.Declarations.{as_list, word_of, elements_of, ProblemFault, BadForm, BadName, WrongCount, VariableApplied}
use Rattle.fort_grammar.specs.RuleForms.{IsFunctionNamed, IsBadSide, AreBadSides, NoName, NoConstant, NoApplication, NoHeadName, AnAppliedVariable, OtherCount, InArguments, FirstIsBad, LaterIsBad}
use Rattle.fort_grammar.proofs.GroundTexts.{name_of-injective}
use Rattle.fort_ari.proofs.SideLaws.{word_no_list, one_word}
use Rattle.fort_ari.proofs.OneSide.{side_not_bad}

-- what is wrong with a name that has so many arguments: it is none, it is a variable's, or the function has another number of them
data IsBadName (signature : Signature) (i count : ℕ) (word : List ℕ) : ProblemFault → Type 0 where
  AWrongName : (IsName word → ⊥) → IsBadName signature i count word (BadName i)
  AVariableName : IsName word → (Contains (names_of signature) word → ⊥) → IsBadName signature i count word (VariableApplied i)
  AWrongCount : (g : ℕ) → IsName word → name_of signature g ≡ Some word → arity_of signature g ≢ Some count → IsBadName signature i count word (WrongCount i)

-- what is first wrong with a side before its arguments: with a word, with the shape of a list, or with its head
data IsBadBefore (bytes : List ℕ) (signature : Signature) (i : ℕ) (f : Form) : ProblemFault → Type 0 where
  AtWord : {fault : ProblemFault} (word : List ℕ) → word_of bytes f ≡ Some word → IsBadName signature i 0 word fault → IsBadBefore bytes signature i f fault
  AtShape : (elements : List Form) → elements_of f ≡ Some elements → ((head first : Form) (others : List Form) (word : List ℕ)
      → elements ≡ head ∷ first ∷ others → word_of bytes head ≡ Some word → ⊥) → IsBadBefore bytes signature i f (BadForm i)
  AtHead : {fault : ProblemFault} (head first : Form) (others : List Form) (word : List ℕ) → elements_of f ≡ Some (head ∷ first ∷ others)
      → word_of bytes head ≡ Some word → IsBadName signature i (length (first ∷ others)) word fault → IsBadBefore bytes signature i f fault

-- or in its arguments
record IsBadBehind (bytes : List ℕ) (signature : Signature) (i : ℕ) (f : Form) (fault : ProblemFault) : Type 0 where
  from : ℕ
  to : ℕ
  head : Form
  first : Form
  others : Forms
  is : f ≡ ListForm from to (MoreForms head (MoreForms first others))
  g : ℕ
  named : IsFunctionNamed bytes signature head g
  takes : arity_of signature g ≡ Some (length (as_list (MoreForms first others)))
  bad : AreBadSides bytes signature i (MoreForms first others) fault

staged : {bytes : List ℕ} {signature : Signature} {i : ℕ} {f : Form} {fault : ProblemFault} → IsBadSide bytes signature i f fault
    → IsBadBefore bytes signature i f fault ⊎ IsBadBehind bytes signature i f fault
staged (NoName word e bad) = inl (AtWord word e (AWrongName bad))
staged (NoConstant g named bad) = inl (AtWord named.name named.word (AWrongCount g named.named named.declared bad))
staged (NoApplication es e other) = inl (AtShape es e other)
staged (NoHeadName h x o w e e' bad) = inl (AtHead h x o w e e' (AWrongName bad))
staged (AnAppliedVariable h x o w e v) = inl (AtHead h x o w e v.word (AVariableName v.named v.free))
staged (OtherCount h x o g e named bad) = inl (AtHead h x o named.name e named.word (AWrongCount g named.named named.declared bad))
staged (InArguments {from = from} {to = to} {head = head} {first = first} {others = others} {g = g} named takes bad) =
    inr (record { from = from; to = to; head = head; first = first; others = others; is = refl; g = g; named = named; takes = takes; bad = bad })

module _ {signature : Signature} {i : ℕ} where
  name_fault_unique : (count : ℕ) (word : List ℕ) (x y : ProblemFault) → IsBadName signature i count word x → IsBadName signature i count word y → x ≡ y
  name_fault_unique count word x y (AWrongName b) (AWrongName b') = refl
  name_fault_unique count word x y (AWrongName b) (AVariableName n free) = absurd (b n)
  name_fault_unique count word x y (AWrongName b) (AWrongCount g n e c) = absurd (b n)
  name_fault_unique count word x y (AVariableName n free) (AWrongName b) = absurd (b n)
  name_fault_unique count word x y (AVariableName n free) (AVariableName n' free') = refl
  name_fault_unique count word x y (AVariableName n free) (AWrongCount g n' e c) = absurd (free (Contains-from_name_of signature word g e))
  name_fault_unique count word x y (AWrongCount g n e c) (AWrongName b) = absurd (b n)
  name_fault_unique count word x y (AWrongCount g n e c) (AVariableName n' free) = absurd (free (Contains-from_name_of signature word g e))
  name_fault_unique count word x y (AWrongCount g n e c) (AWrongCount g' n' e' c') = refl

  name_not_good : IsDistinct bytes_eq (names_of signature) → (count g : ℕ) (word : List ℕ) (x : ProblemFault) → IsBadName signature i count word x → IsName word → name_of signature g ≡ Some word
      → arity_of signature g ≡ Some count → ⊥
  name_not_good d count g word x (AWrongName b) n e takes = b n
  name_not_good d count g word x (AVariableName n' free) n e takes = free (Contains-from_name_of signature word g e)
  name_not_good d count g word x (AWrongCount h n' e' c) n e takes =
      c (subst (λ k. arity_of signature k ≡ Some count) (name_of-injective signature g h word d e e') takes)

module _ {bytes : List ℕ} {signature : Signature} {i : ℕ} (d : IsDistinct bytes_eq (names_of signature)) where
  before_unique : (f : Form) (x y : ProblemFault) → IsBadBefore bytes signature i f x → IsBadBefore bytes signature i f y → x ≡ y
  before_unique f x y (AtWord w e b) (AtWord w' e' b') =
      name_fault_unique 0 w x y b (subst (λ z. IsBadName signature i 0 z y) (one_word bytes f w' w e' e) b')
  before_unique f x y (AtWord w e b) (AtShape es e' other) = absurd (word_no_list bytes f w es e e')
  before_unique f x y (AtWord w e b) (AtHead h z o w' e' k b') = absurd (word_no_list bytes f w (h ∷ z ∷ o) e e')
  before_unique f x y (AtShape es e other) (AtWord w e' b) = absurd (word_no_list bytes f w es e' e)
  before_unique f x y (AtShape es e other) (AtShape es' e' other') = refl
  before_unique f x y (AtShape es e other) (AtHead h z o w e' k b) = let is : es ≡ h ∷ z ∷ o = cc in absurd (other h z o w is k)
  before_unique f x y (AtHead h z o w e k b) (AtWord w' e' b') = absurd (word_no_list bytes f w' (h ∷ z ∷ o) e' e)
  before_unique f x y (AtHead h z o w e k b) (AtShape es e' other) = let is : es ≡ h ∷ z ∷ o = cc in absurd (other h z o w is k)
  before_unique f x y (AtHead h z o w e k b) (AtHead h' z' o' w' e' k' b') =
      let same : h' ≡ h = cc in
      let behind : z' ∷ o' ≡ z ∷ o = cc in
      let words : w' ≡ w = one_word bytes h w' w (ap (word_of bytes) (sym same) ∙ k') k in
      name_fault_unique (length (z ∷ o)) w x y b
      (subst (λ v. IsBadName signature i (length (z ∷ o)) v y) words (subst (λ (es : List Form). IsBadName signature i (length es) w' y) behind b'))

  before_not_behind : (f : Form) (x y : ProblemFault) → IsBadBefore bytes signature i f x → IsBadBehind bytes signature i f y → ⊥
  before_not_behind f x y (AtWord w e b) r =
      word_no_list bytes f w (as_list (MoreForms r.head (MoreForms r.first r.others))) e (ap elements_of r.is)
  before_not_behind f x y (AtShape es e other) r =
      let here : elements_of f ≡ Some (r.head ∷ r.first ∷ as_list r.others) = ap elements_of r.is in
      let is : es ≡ r.head ∷ r.first ∷ as_list r.others = cc in
      other r.head r.first (as_list r.others) r.named.name is r.named.word
  before_not_behind f x y (AtHead h z o w e k b) r =
      let here : elements_of f ≡ Some (r.head ∷ r.first ∷ as_list r.others) = ap elements_of r.is in
      let same : h ≡ r.head = cc in
      let behind : r.first ∷ as_list r.others ≡ z ∷ o = cc in
      let words : r.named.name ≡ w = one_word bytes r.head r.named.name w r.named.word (ap (word_of bytes) (sym same) ∙ k) in
      name_not_good d (length (z ∷ o)) r.g w x b (subst IsName words r.named.named) (r.named.declared ∙ ap Some words)
      (r.takes ∙ ap (λ (es : List Form). Some (length es)) behind)

  from_before : (f : Form) (x y : ProblemFault) → IsBadBefore bytes signature i f x → IsBadSide bytes signature i f y → x ≡ y
  from_before f x y b bad =
      elim (staged bad) [
        | inl before ↦ before_unique f x y b before
        | inr behind ↦ absurd (before_not_behind f x y b behind)
      ]

mutual
  pub side_fault_unique : {bytes : List ℕ} {signature : Signature} {i : ℕ} {f : Form} (x y : ProblemFault) → IsDistinct bytes_eq (names_of signature)
      → IsBadSide bytes signature i f x → IsBadSide bytes signature i f y → x ≡ y
  side_fault_unique {f = f} x y d (NoName word e bad) b = from_before d f x y (AtWord word e (AWrongName bad)) b
  side_fault_unique {f = f} x y d (NoConstant g named bad) b = from_before d f x y (AtWord named.name named.word (AWrongCount g named.named named.declared bad)) b
  side_fault_unique {f = f} x y d (NoApplication es e other) b = from_before d f x y (AtShape es e other) b
  side_fault_unique {f = f} x y d (NoHeadName h z o w e k bad) b = from_before d f x y (AtHead h z o w e k (AWrongName bad)) b
  side_fault_unique {f = f} x y d (AnAppliedVariable h z o w e v) b = from_before d f x y (AtHead h z o w e v.word (AVariableName v.named v.free)) b
  side_fault_unique {f = f} x y d (OtherCount h z o g e named bad) b =
      from_before d f x y (AtHead h z o named.name e named.word (AWrongCount g named.named named.declared bad)) b
  side_fault_unique {bytes} {signature} {i} x y d (InArguments {from = from} {to = to} {head = head} {first = first} {others = others} {g = g} named takes bad) b =
      let whole : Form = ListForm from to (MoreForms head (MoreForms first others)) in
      let behind : IsBadBehind bytes signature i whole x =
      record { from = from; to = to; head = head; first = first; others = others; is = refl; g = g; named = named; takes = takes; bad = bad } in
      elim (staged b) [
        | inl before ↦ absurd (before_not_behind d whole y x before behind)
        | inr other ↦ (let is = other.is in
            let same : MoreForms other.first other.others ≡ MoreForms first others = cc in
            sides_fault_unique x y d bad (subst (λ fs. AreBadSides bytes signature i fs y) same other.bad))
      ]

  sides_fault_unique : {bytes : List ℕ} {signature : Signature} {i : ℕ} {fs : Forms} (x y : ProblemFault) → IsDistinct bytes_eq (names_of signature)
      → AreBadSides bytes signature i fs x → AreBadSides bytes signature i fs y → x ≡ y
  sides_fault_unique x y d (FirstIsBad bad) (FirstIsBad bad') = side_fault_unique x y d bad bad'
  sides_fault_unique x y d (FirstIsBad bad) (LaterIsBad side names is bad') = absurd (side_not_bad d is bad)
  sides_fault_unique x y d (LaterIsBad side names is bad) (FirstIsBad bad') = absurd (side_not_bad d is bad')
  sides_fault_unique x y d (LaterIsBad side names is bad) (LaterIsBad side' names' is' bad') = sides_fault_unique x y d bad bad'
