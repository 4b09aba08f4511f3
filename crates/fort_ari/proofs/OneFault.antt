-- Forms have one first fault.
use Rattle.std.proofs.Common.{◌≡◌, ℕ, ◌+◌, ◌<◌, ◌≤◌, List, [], ◌∷◌, ◌++◌, length, refl, ap, sym, ◌∙◌, subst, arith, length-append}
use Rattle.std.specs.Prelude.{bytes_eq}
use Rattle.std.specs.List.{IsDistinct}
use Rattle.fort_theory.specs.Signatures.{most_indices, Signature, IsName, HasConstant, names_of}
use Rattle.fort_theory.specs.Sides.{Side}
use Rattle.fort_grammar.specs.Forms.{Form}
use Rattle.fort_grammar.specs.Declarations as declarations
use Rattle.fort_grammar.specs.Declarations.{IsFormat, IsNoFormat, IsListOfWords, IsArity, DeclareEach, AreDeclarations, IsBadDeclaration, ProblemFault, BadForm, TooManyRules}
use Rattle.fort_grammar.specs.RuleForms.{IsSide, IndexedRule, AreRules, IsBadSide, IsBadRule, OneTooMany, NoRule, BadLeft, BadRight, LeftTwice, RightTwice, InBoth, HasSides, HasRightSides, most_rules}
use Rattle.fort_grammar.specs.ProblemForms.{FallsInto, IsFirstProblemFault, WithoutForms, WithoutFormat, InDeclaration, WithoutConstant, InRule}
use Rattle.fort_ari.proofs.Formats.{format_high}
use Rattle.fort_ari.specs.SideForms.{AreBadNames, InLeft, InRight, Between}
use Rattle.fort_ari.proofs.Places.{Places, Here, First, Second, places}
use Rattle.fort_ari.proofs.Distinct.{names_fault_unique}
use Rattle.fort_ari.proofs.OneSide.{side_not_bad}
use Rattle.fort_ari.proofs.OneSideFault.{side_fault_unique}
use Rattle.fort_ari.proofs.OneAnswerRules.{rule_not_bad, rule_among, sides_unique, bad_names_there, left_right_not_bad, right_right_not_bad}
use Rattle.fort_ari.proofs.OneAnswer.{falls_unique, words_unique, format_unique, DeclareEach-unique, declares_among, declaration_not_bad}

module _ (bytes : List ℕ) (signature : Signature) (i : ℕ) (f : Form) where
  same_name : (h n a h' n' a' : List ℕ) → IsListOfWords bytes f (h ∷ n ∷ a ∷ []) → IsListOfWords bytes f (h' ∷ n' ∷ a' ∷ []) → n ≡ n'
  same_name h n a h' n' a' v w = let same = words_unique bytes f _ _ v w in cc

  same_arity : (h n a h' n' a' : List ℕ) → IsListOfWords bytes f (h ∷ n ∷ a ∷ []) → IsListOfWords bytes f (h' ∷ n' ∷ a' ∷ []) → a ≡ a'
  same_arity h n a h' n' a' v w = let same = words_unique bytes f _ _ v w in cc

  -- a fault of a declaration that stands for it: too many, its shape, its name, its arity, or a name that comes again
  declaration_fault_unique : (x y : ProblemFault) → IsBadDeclaration bytes signature i f x → IsBadDeclaration bytes signature i f y → x ≡ y
  declaration_fault_unique x y (declarations.OneTooMany e) (declarations.OneTooMany e') = refl
  declaration_fault_unique x y (declarations.OneTooMany e) (declarations.NotThreeWords l n) = absurd (omega arith)
  declaration_fault_unique x y (declarations.OneTooMany e) (declarations.NoName h n a l w b) = absurd (omega arith)
  declaration_fault_unique x y (declarations.OneTooMany e) (declarations.NoArity h n a l w d b) = absurd (omega arith)
  declaration_fault_unique x y (declarations.OneTooMany e) (declarations.Twice h n a k l w d b t) = absurd (omega arith)
  declaration_fault_unique x y (declarations.NotThreeWords l n) (declarations.OneTooMany e) = absurd (omega arith)
  declaration_fault_unique x y (declarations.NotThreeWords l n) (declarations.NotThreeWords l' n') = refl
  declaration_fault_unique x y (declarations.NotThreeWords l z) (declarations.NoName h n a l' w b) = absurd (z h n a w)
  declaration_fault_unique x y (declarations.NotThreeWords l z) (declarations.NoArity h n a l' w d b) = absurd (z h n a w)
  declaration_fault_unique x y (declarations.NotThreeWords l z) (declarations.Twice h n a k l' w d b t) = absurd (z h n a w)
  declaration_fault_unique x y (declarations.NoName h n a l w b) (declarations.OneTooMany e) = absurd (omega arith)
  declaration_fault_unique x y (declarations.NoName h n a l w b) (declarations.NotThreeWords l' z) = absurd (z h n a w)
  declaration_fault_unique x y (declarations.NoName h n a l w b) (declarations.NoName h' n' a' l' w' b') = refl
  declaration_fault_unique x y (declarations.NoName h n a l w b) (declarations.NoArity h' n' a' l' w' d b') =
      absurd (b (subst IsName (same_name h' n' a' h n a w' w) d))
  declaration_fault_unique x y (declarations.NoName h n a l w b) (declarations.Twice h' n' a' k l' w' d b' t) =
      absurd (b (subst IsName (same_name h' n' a' h n a w' w) d))
  declaration_fault_unique x y (declarations.NoArity h n a l w d b) (declarations.OneTooMany e) = absurd (omega arith)
  declaration_fault_unique x y (declarations.NoArity h n a l w d b) (declarations.NotThreeWords l' z) = absurd (z h n a w)
  declaration_fault_unique x y (declarations.NoArity h n a l w d b) (declarations.NoName h' n' a' l' w' b') =
      absurd (b' (subst IsName (same_name h n a h' n' a' w w') d))
  declaration_fault_unique x y (declarations.NoArity h n a l w d b) (declarations.NoArity h' n' a' l' w' d' b') = refl
  declaration_fault_unique x y (declarations.NoArity h n a l w d b) (declarations.Twice h' n' a' k l' w' d' b' t) =
      absurd (b k (subst (λ v. IsArity v k) (same_arity h' n' a' h n a w' w) b'))
  declaration_fault_unique x y (declarations.Twice h n a k l w d b t) (declarations.OneTooMany e) = absurd (omega arith)
  declaration_fault_unique x y (declarations.Twice h n a k l w d b t) (declarations.NotThreeWords l' z) = absurd (z h n a w)
  declaration_fault_unique x y (declarations.Twice h n a k l w d b t) (declarations.NoName h' n' a' l' w' b') =
      absurd (b' (subst IsName (same_name h n a h' n' a' w w') d))
  declaration_fault_unique x y (declarations.Twice h n a k l w d b t) (declarations.NoArity h' n' a' l' w' d' b') =
      absurd (b' k (subst (λ v. IsArity v k) (same_arity h n a h' n' a' w w') b))
  declaration_fault_unique x y (declarations.Twice h n a k l w d b t) (declarations.Twice h' n' a' k' l' w' d' b' t') = refl

-- a rule that is at fault: before its sides, in one of them, or in their names
data IsBadInRule (bytes : List ℕ) (number : ℕ) (signature : Signature) (count i : ℕ) (f : Form) : ProblemFault → Type 0 where
  NoRoom : count ≡ most_rules → IsBadInRule bytes number signature count i f TooManyRules
  NoSides : count < most_rules → ((left right : Form) (index : ℕ) → HasSides bytes number f left right index → ⊥)
      → IsBadInRule bytes number signature count i f (BadForm i)
  InLeftSide : {fault : ProblemFault} (left right : Form) (index : ℕ) → count < most_rules → HasSides bytes number f left right index
      → IsBadSide bytes signature i left fault → IsBadInRule bytes number signature count i f fault
  InRightSide : {fault : ProblemFault} (left right : Form) (index : ℕ) (side : Side) (names : List (List ℕ)) → count < most_rules
      → HasSides bytes number f left right index → IsSide bytes signature 0 left side names → IsBadSide bytes signature i right fault
      → IsBadInRule bytes number signature count i f fault
  InNames : {fault : ProblemFault} (xs ys : List (List ℕ)) → count < most_rules → HasRightSides bytes number signature f xs ys → AreBadNames i xs ys fault
      → IsBadInRule bytes number signature count i f fault

staged_rule : {bytes : List ℕ} {number : ℕ} {signature : Signature} {count i : ℕ} {f : Form} {x : ProblemFault} → IsBadRule bytes number signature count i f x
    → IsBadInRule bytes number signature count i f x
staged_rule (OneTooMany e) = NoRoom e
staged_rule (NoRule l none) = NoSides l none
staged_rule (BadLeft p q j z l s b) = InLeftSide p q j l s b
staged_rule (BadRight p q j m ns z l s k b) = InRightSide p q j m ns l s k b
staged_rule (LeftTwice xs ys n l s a) = InNames xs ys l s (InLeft n a)
staged_rule (RightTwice xs ys n l s o a) = InNames xs ys l s (InRight n o a)
staged_rule (InBoth xs ys n l s o o' a) = InNames xs ys l s (Between n o o' a)

module _ (bytes : List ℕ) (number : ℕ) (signature : Signature) (count i : ℕ) (f : Form) (most : number ≤ most_indices)
    (d : IsDistinct bytes_eq (names_of signature)) where
  -- two sides of a rule that has both
  left_both : (l r l' r' : Form) (j k : ℕ) → HasSides bytes number f l r j → HasSides bytes number f l' r' k → l' ≡ l
  left_both l r l' r' j k s t = (sides_unique bytes number f l' r' l r k j most t s).left_same

  right_both : (l r l' r' : Form) (j k : ℕ) → HasSides bytes number f l r j → HasSides bytes number f l' r' k → r' ≡ r
  right_both l r l' r' j k s t = (sides_unique bytes number f l' r' l r k j most t s).right_same

  left_apart : (l r l' r' : Form) (j k : ℕ) (m : Side) (ns : List (List ℕ)) (x : ProblemFault) → HasSides bytes number f l r j → HasSides bytes number f l' r' k
      → IsBadSide bytes signature i l x → IsSide bytes signature 0 l' m ns → ⊥
  left_apart l r l' r' j k m ns x s t bad is = side_not_bad d (subst (λ g. IsSide bytes signature 0 g m ns) (left_both l r l' r' j k s t) is) bad

  in_rule_unique : (x y : ProblemFault) → IsBadInRule bytes number signature count i f x → IsBadInRule bytes number signature count i f y → x ≡ y
  in_rule_unique x y (NoRoom e) (NoRoom e') = refl
  in_rule_unique x y (NoRoom e) (NoSides l n) = absurd (omega arith)
  in_rule_unique x y (NoRoom e) (InLeftSide p q j l s b) = absurd (omega arith)
  in_rule_unique x y (NoRoom e) (InRightSide p q j m ns l s k b) = absurd (omega arith)
  in_rule_unique x y (NoRoom e) (InNames xs ys l r a) = absurd (omega arith)
  in_rule_unique x y (NoSides l n) (NoRoom e) = absurd (omega arith)
  in_rule_unique x y (NoSides l n) (NoSides l' n') = refl
  in_rule_unique x y (NoSides l n) (InLeftSide p q j l' s b) = absurd (n p q j s)
  in_rule_unique x y (NoSides l n) (InRightSide p q j m ns l' s k b) = absurd (n p q j s)
  in_rule_unique x y (NoSides l n) (InNames xs ys l' r a) = absurd (n r.left r.right r.index r.sides)
  in_rule_unique x y (InLeftSide p q j l s b) (NoRoom e) = absurd (omega arith)
  in_rule_unique x y (InLeftSide p q j l s b) (NoSides l' n) = absurd (n p q j s)
  in_rule_unique x y (InLeftSide p q j l s b) (InLeftSide p' q' j' l' s' b') =
      side_fault_unique x y d b (subst (λ g. IsBadSide bytes signature i g y) (left_both p q p' q' j j' s s') b')
  in_rule_unique x y (InLeftSide p q j l s b) (InRightSide p' q' j' m ns l' s' k b') = absurd (left_apart p q p' q' j j' m ns x s s' b k)
  in_rule_unique x y (InLeftSide p q j l s b) (InNames xs ys l' r a) = absurd (left_right_not_bad bytes number signature f most d i j xs ys p q x r s b)
  in_rule_unique x y (InRightSide p q j m ns l s k b) (NoRoom e) = absurd (omega arith)
  in_rule_unique x y (InRightSide p q j m ns l s k b) (NoSides l' n) = absurd (n p q j s)
  in_rule_unique x y (InRightSide p q j m ns l s k b) (InLeftSide p' q' j' l' s' b') = absurd (left_apart p' q' p q j' j m ns y s' s b' k)
  in_rule_unique x y (InRightSide p q j m ns l s k b) (InRightSide p' q' j' m' ns' l' s' k' b') =
      side_fault_unique x y d b (subst (λ g. IsBadSide bytes signature i g y) (right_both p q p' q' j j' s s') b')
  in_rule_unique x y (InRightSide p q j m ns l s k b) (InNames xs ys l' r a) = absurd (right_right_not_bad bytes number signature f most d i j xs ys p q x r s b)
  in_rule_unique x y (InNames xs ys l r a) (NoRoom e) = absurd (omega arith)
  in_rule_unique x y (InNames xs ys l r a) (NoSides l' n) = absurd (n r.left r.right r.index r.sides)
  in_rule_unique x y (InNames xs ys l r a) (InLeftSide p q j l' s b) = absurd (left_right_not_bad bytes number signature f most d i j xs ys p q y r s b)
  in_rule_unique x y (InNames xs ys l r a) (InRightSide p q j m ns l' s k b) = absurd (right_right_not_bad bytes number signature f most d i j xs ys p q y r s b)
  in_rule_unique x y (InNames xs ys l r a) (InNames xs' ys' l' r' a') =
      names_fault_unique i xs ys x y a (bad_names_there bytes number signature f most d i xs ys xs' ys' y r r' a')

  rule_fault_unique : (x y : ProblemFault) → IsBadRule bytes number signature count i f x → IsBadRule bytes number signature count i f y → x ≡ y
  rule_fault_unique x y a b = in_rule_unique x y (staged_rule a) (staged_rule b)

-- a declaration before others that is at fault, and the same forms with one more
module _ (bytes : List ℕ) (before before' after after' : List Form) (f g : Form) (ss ts : Signature) (x y : ProblemFault)
    (a : AreDeclarations bytes before ss) (b : AreDeclarations bytes before' ts)
    (u : IsBadDeclaration bytes ss (length before + 1) f x) (v : IsBadDeclaration bytes ts (length before' + 1) g y) where
  two_declaration_faults : Places before before' f g → x ≡ y
  two_declaration_faults (Here e h) =
      let same : ss ≡ ts = DeclareEach-unique bytes before ss ts a.each (subst (λ gs. DeclareEach bytes gs ts) (sym e) b.each) in
      let number : length before' + 1 ≡ length before + 1 = ap (λ (gs : List Form). length gs + 1) (sym e) in
      declaration_fault_unique bytes ss (length before + 1) f x y u
      (subst (λ z. IsBadDeclaration bytes ss (length before + 1) z y) (sym h)
      (subst (λ s. IsBadDeclaration bytes s (length before + 1) g y) (sym same)
      (subst (λ k. IsBadDeclaration bytes ts k g y) number v)))
  two_declaration_faults (First more e) =
      absurd (declaration_not_bad bytes ss ts _ f x (declares_among bytes before more f ts ss (subst (λ gs. DeclareEach bytes gs ts) e b.each) a.each) b.few b.distinct u)
  two_declaration_faults (Second more e) =
      absurd (declaration_not_bad bytes ts ss _ g y (declares_among bytes before' more g ss ts (subst (λ gs. DeclareEach bytes gs ss) e a.each) b.each) a.few a.distinct v)

-- a fault among declarations that stand
faulty_among : (bytes : List ℕ) (ds before after : List Form) (f : Form) (total signature : Signature) (x : ProblemFault) → ds ≡ before ++ f ∷ after
    → AreDeclarations bytes ds total → AreDeclarations bytes before signature → IsBadDeclaration bytes signature (length before + 1) f x → ⊥
faulty_among bytes ds before after f total signature x e a b bad =
    declaration_not_bad bytes signature total _ f x (declares_among bytes before after f total signature (subst (λ gs. DeclareEach bytes gs total) e a.each) b.each)
    a.few a.distinct bad

-- two rules at fault over one signature
module _ (bytes : List ℕ) (number : ℕ) (signature : Signature) (n : ℕ) (before before' : List Form) (f g : Form) (rs ts : List IndexedRule) (x y : ProblemFault)
    (most : number ≤ most_indices) (d : IsDistinct bytes_eq (names_of signature)) (a : AreRules bytes number signature before rs) (b : AreRules bytes number signature before' ts)
    (u : IsBadRule bytes number signature (length before) (n + length before + 1) f x) (v : IsBadRule bytes number signature (length before') (n + length before' + 1) g y) where
  few_before : (count i : ℕ) (h : Form) (z : ProblemFault) → IsBadRule bytes number signature count i h z → count ≤ 4096
  few_before count i h z (OneTooMany e) = omega arith
  few_before count i h z (NoRule l _) = omega arith
  few_before count i h z (BadLeft _ _ _ _ l _ _) = omega arith
  few_before count i h z (BadRight _ _ _ _ _ _ l _ _ _) = omega arith
  few_before count i h z (LeftTwice _ _ _ l _ _) = omega arith
  few_before count i h z (RightTwice _ _ _ l _ _ _) = omega arith
  few_before count i h z (InBoth _ _ _ l _ _ _ _) = omega arith

  two_rule_faults : Places before before' f g → x ≡ y
  two_rule_faults (Here e h) =
      rule_fault_unique bytes number signature (length before) (n + length before + 1) f most d x y u
      (subst (λ z. IsBadRule bytes number signature (length before) (n + length before + 1) z y) (sym h)
      (subst (λ (gs : List Form). IsBadRule bytes number signature (length gs) (n + length gs + 1) g y) (sym e) v))
  two_rule_faults (First more e) =
      let rule = rule_among bytes number signature before more f ts (subst (λ gs. AreRules bytes number signature gs ts) e b) in
      let full = few_before _ _ _ _ v in
      let count = ap length e in
      absurd (rule_not_bad bytes number signature (length before) _ f rule.0 x most d (omega (arith, length-append before (f ∷ more))) rule.1 u)
  two_rule_faults (Second more e) =
      let rule = rule_among bytes number signature before' more g rs (subst (λ gs. AreRules bytes number signature gs rs) e a) in
      let full = few_before _ _ _ _ u in
      let count = ap length e in
      absurd (rule_not_bad bytes number signature (length before') _ g rule.0 y most d (omega (arith, length-append before' (g ∷ more))) rule.1 v)

-- the declarations, where forms fall into their parts in two ways
same_declarations : (bytes : List ℕ) (forms : List Form) (first first' : Form) (ds ds' rs rs' bs bs' : List Form) → FallsInto bytes forms first ds rs bs
    → FallsInto bytes forms first' ds' rs' bs' → ds ≡ ds'
same_declarations bytes forms first first' ds ds' rs rs' bs bs' p q = (falls_unique bytes forms first first' ds ds' rs rs' bs bs' p q).declarations_same

same_signature : (bytes : List ℕ) (ds ds' : List Form) (ss ts : Signature) → ds ≡ ds' → AreDeclarations bytes ds ss → AreDeclarations bytes ds' ts → ss ≡ ts
same_signature bytes ds ds' ss ts e a b = DeclareEach-unique bytes ds ss ts a.each (subst (λ gs. DeclareEach bytes gs ts) (sym e) b.each)

other_first : (bytes : List ℕ) (forms : List Form) (number : ℕ) (first other : Form) (others ds rs bs : List Form) → forms ≡ other ∷ others → IsNoFormat bytes other
    → FallsInto bytes forms first ds rs bs → IsFormat bytes first number → ⊥
other_first bytes forms number first other others ds rs bs e none p format =
    let is = p.is in
    let same : first ≡ other = cc in none number (subst (λ f. IsFormat bytes f number) same format)

no_parts : (bytes : List ℕ) (forms : List Form) (first : Form) (ds rs bs : List Form) → forms ≡ [] → FallsInto bytes forms first ds rs bs → ⊥
no_parts bytes forms first ds rs bs e p = let is = p.is in cc

-- forms have one first fault
pub first_fault_unique : (bytes : List ℕ) (forms : List Form) (x y : ProblemFault) → IsFirstProblemFault bytes forms x → IsFirstProblemFault bytes forms y → x ≡ y
first_fault_unique bytes forms x y (WithoutForms e) (WithoutForms e') = refl
first_fault_unique bytes forms x y (WithoutForms e) (WithoutFormat f fs e' n) = cc
first_fault_unique bytes forms x y (WithoutForms e) (InDeclaration h j ds rs bs before after f s z p w is a bad) = absurd (no_parts bytes forms h ds rs bs e p)
first_fault_unique bytes forms x y (WithoutForms e) (WithoutConstant h j ds rs bs s p w a n) = absurd (no_parts bytes forms h ds rs bs e p)
first_fault_unique bytes forms x y (WithoutForms e) (InRule h j ds rs bs before after f s gs z p w a k is ar bad) = absurd (no_parts bytes forms h ds rs bs e p)
first_fault_unique bytes forms x y (WithoutFormat f fs e n) (WithoutForms e') = cc
first_fault_unique bytes forms x y (WithoutFormat f fs e n) (WithoutFormat f' fs' e' n') = refl
first_fault_unique bytes forms x y (WithoutFormat g fs e n) (InDeclaration h j ds rs bs before after f s z p w is a bad) =
    absurd (other_first bytes forms _ h g fs ds rs bs e n p w)
first_fault_unique bytes forms x y (WithoutFormat g fs e n) (WithoutConstant h j ds rs bs s p w a m) = absurd (other_first bytes forms _ h g fs ds rs bs e n p w)
first_fault_unique bytes forms x y (WithoutFormat g fs e n) (InRule h j ds rs bs before after f s gs z p w a k is ar bad) =
    absurd (other_first bytes forms _ h g fs ds rs bs e n p w)
first_fault_unique bytes forms x y (InDeclaration h j ds rs bs before after f s z p w is a bad) (WithoutForms e) = absurd (no_parts bytes forms h ds rs bs e p)
first_fault_unique bytes forms x y (InDeclaration h j ds rs bs before after f s z p w is a bad) (WithoutFormat g fs e n) =
    absurd (other_first bytes forms _ h g fs ds rs bs e n p w)
first_fault_unique bytes forms x y (InDeclaration h j ds rs bs before after f s z p w is a bad) (InDeclaration h' j' ds' rs' bs' before' after' f' s' z' p' w' is' a' bad') =
    let same = same_declarations bytes forms h h' ds ds' rs rs' bs bs' p p' in
    two_declaration_faults bytes before before' after after' f f' s s' x y a a' bad bad' (places before before' after after' f f' (sym is ∙ same ∙ is'))
first_fault_unique bytes forms x y (InDeclaration h j ds rs bs before after f s z p w is a bad) (WithoutConstant h' j' ds' rs' bs' s' p' w' a' n') =
    let same = same_declarations bytes forms h h' ds ds' rs rs' bs bs' p p' in
    absurd (faulty_among bytes ds' before after f s' s x (sym same ∙ is) a' a bad)
first_fault_unique bytes forms x y (InDeclaration h j ds rs bs before after f s z p w is a bad) (InRule h' j' ds' rs' bs' before' after' f' s' gs' z' p' w' a' k' is' ar' bad') =
    let same = same_declarations bytes forms h h' ds ds' rs rs' bs bs' p p' in
    absurd (faulty_among bytes ds' before after f s' s x (sym same ∙ is) a' a bad)
first_fault_unique bytes forms x y (WithoutConstant h j ds rs bs s p w a n) (WithoutForms e) = absurd (no_parts bytes forms h ds rs bs e p)
first_fault_unique bytes forms x y (WithoutConstant h j ds rs bs s p w a n) (WithoutFormat g fs e m) = absurd (other_first bytes forms _ h g fs ds rs bs e m p w)
first_fault_unique bytes forms x y (WithoutConstant h j ds rs bs s p w a n) (InDeclaration h' j' ds' rs' bs' before after f s' z p' w' is a' bad) =
    let same = same_declarations bytes forms h h' ds ds' rs rs' bs bs' p p' in
    absurd (faulty_among bytes ds before after f s s' y (same ∙ is) a a' bad)
first_fault_unique bytes forms x y (WithoutConstant h j ds rs bs s p w a n) (WithoutConstant h' j' ds' rs' bs' s' p' w' a' n') = refl
first_fault_unique bytes forms x y (WithoutConstant h j ds rs bs s p w a n) (InRule h' j' ds' rs' bs' before' after' f' s' gs' z' p' w' a' k' is' ar' bad') =
    let same = same_declarations bytes forms h h' ds ds' rs rs' bs bs' p p' in
    absurd (n (subst HasConstant (sym (same_signature bytes ds ds' s s' same a a')) k'))
first_fault_unique bytes forms x y (InRule h j ds rs bs before after f s gs z p w a k is ar bad) (WithoutForms e) = absurd (no_parts bytes forms h ds rs bs e p)
first_fault_unique bytes forms x y (InRule h j ds rs bs before after f s gs z p w a k is ar bad) (WithoutFormat g fs e n) =
    absurd (other_first bytes forms _ h g fs ds rs bs e n p w)
first_fault_unique bytes forms x y (InRule h j ds rs bs before after f s gs z p w a k is ar bad) (InDeclaration h' j' ds' rs' bs' before' after' f' s' z' p' w' is' a' bad') =
    let same = same_declarations bytes forms h h' ds ds' rs rs' bs bs' p p' in
    absurd (faulty_among bytes ds before' after' f' s s' y (same ∙ is') a a' bad')
first_fault_unique bytes forms x y (InRule h j ds rs bs before after f s gs z p w a k is ar bad) (WithoutConstant h' j' ds' rs' bs' s' p' w' a' n') =
    let same = same_declarations bytes forms h h' ds ds' rs rs' bs bs' p p' in
    absurd (n' (subst HasConstant (same_signature bytes ds ds' s s' same a a') k))
first_fault_unique bytes forms x y (InRule h j ds rs bs before after f s gs z p w a k is ar bad) (InRule h' j' ds' rs' bs' before' after' f' s' gs' z' p' w' a' k' is' ar' bad') =
    let parts = falls_unique bytes forms h h' ds ds' rs rs' bs bs' p p' in
    let numbers : j' ≡ j = format_unique bytes h j' j (subst (λ f. IsFormat bytes f j') (sym parts.first_same) w') w in
    let one : s' ≡ s = sym (same_signature bytes ds ds' s s' parts.declarations_same a a') in
    let same : ds' ≡ ds = sym parts.declarations_same in
    two_rule_faults bytes j s (length ds) before before' f f' gs gs' x y (format_high bytes h j w) a.distinct ar
    (subst (λ n. AreRules bytes n s before' gs') numbers (subst (λ t. AreRules bytes j' t before' gs') one ar')) bad
    (subst (λ n. IsBadRule bytes n s (length before') (length ds + length before' + 1) f' y) numbers
    (subst (λ t. IsBadRule bytes j' t (length before') (length ds + length before' + 1) f' y) one
    (subst (λ (es : List Form). IsBadRule bytes j' s' (length before') (length es + length before' + 1) f' y) same bad')))
    (places before before' after after' f f' (sym is ∙ parts.rules_same ∙ is'))
