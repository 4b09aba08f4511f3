-- Forms that are rules are at no fault.
use Rattle.std.proofs.Common.{◌≡◌, ℕ, ◌<◌, ◌≤◌, List, [], ◌∷◌, ◌++◌, length, Some, refl, ap, sym, ◌∙◌, subst, arith}
use Rattle.std.specs.Prelude.{bytes_eq, decimal}
use Rattle.std.specs.List.{IsDistinct}
use Rattle.std.proofs.lemmas.Fmt.{decimal_injective}
use Rattle.fort_theory.specs.Signatures.{most_indices, Signature, names_of}
use Rattle.fort_grammar.specs.Forms.{Form}
use Rattle.fort_grammar.specs.Declarations.{ProblemFault, word_of}
use Rattle.fort_grammar.specs.RuleForms.{HasSides, OfFirst, OfIndex, IsSide, IndexedRule, IsRule, AreRules, IsBadSide, HasRightSides, IsBadRule, OneTooMany, NoRule, BadLeft, BadRight, LeftTwice, RightTwice, InBoth}
use Rattle.fort_ari.specs.SideForms.{AreBadNames, InLeft, InRight, Between}
use Rattle.fort_ari.proofs.OneSide.{IsSide-unique, side_not_bad}
use Rattle.fort_ari.proofs.Distinct.{names_not_bad}

-- a rule has its sides and its index in one way
pub record SameSides (left right left' right' : Form) (index index' : ℕ) : Type 0 where
  pub left_same : left ≡ left'
  pub right_same : right ≡ right'
  pub index_same : index ≡ index'

pub sides_unique : (bytes : List ℕ) (number : ℕ) (f left right left' right' : Form) (index index' : ℕ) → number ≤ most_indices
    → HasSides bytes number f left right index → HasSides bytes number f left' right' index' → SameSides left right left' right' index index'
sides_unique bytes number f left right left' right' index index' few (OfFirst h is w) (OfFirst h' is' w') =
    record { left_same = cc; right_same = cc; index_same = refl }
sides_unique bytes number f left right left' right' index index' few (OfFirst h is w) (OfIndex h' k v is' w' named text low high) = absurd cc
sides_unique bytes number f left right left' right' index index' few (OfIndex h k v is w named text low high) (OfFirst h' is' w') = absurd cc
sides_unique bytes number f left right left' right' index index' few (OfIndex h k v is w named text low high) (OfIndex h' k' v' is' w' named' text' low' high') =
    let values : v' ≡ v = cc in
    let there : word_of bytes v ≡ Some (decimal index') = ap (word_of bytes) (sym values) ∙ text' in
    let same : decimal index ≡ decimal index' = cc in
    record { left_same = cc; right_same = cc; index_same = decimal_injective index index' (omega arith) (omega arith) same }

-- the names of two sides that are right each by itself, from one reading of the form to another
module _ (bytes : List ℕ) (number : ℕ) (signature : Signature) (f : Form) (most : number ≤ most_indices) (d : IsDistinct bytes_eq (names_of signature)) where
  pub sides_names_unique : (xs ys xs' ys' : List (List ℕ)) → HasRightSides bytes number signature f xs ys → HasRightSides bytes number signature f xs' ys'
      → (xs ≡ xs') × (ys ≡ ys')
  sides_names_unique xs ys xs' ys' r r' =
      let same = sides_unique bytes number f _ _ _ _ _ _ most r.sides r'.sides in
      let lefts = IsSide-unique d (subst (λ g. IsSide bytes signature 0 g r.left_side xs) same.left_same r.left_is) r'.left_is in
      let there : IsSide bytes signature (length xs') r'.right r.right_side ys =
      subst (λ (zs : List (List ℕ)). IsSide bytes signature (length zs) r'.right r.right_side ys) lefts.1
      (subst (λ g. IsSide bytes signature (length xs) g r.right_side ys) same.right_same r.right_is) in
      (lefts.1, (IsSide-unique d there r'.right_is).1)

  pub bad_names_there : (i : ℕ) (xs ys xs' ys' : List (List ℕ)) (fault : ProblemFault) → HasRightSides bytes number signature f xs ys
      → HasRightSides bytes number signature f xs' ys' → AreBadNames i xs' ys' fault → AreBadNames i xs ys fault
  bad_names_there i xs ys xs' ys' fault r r' bad =
      let same = sides_names_unique xs ys xs' ys' r r' in
      subst (λ zs. AreBadNames i zs ys fault) (sym same.0) (subst (λ zs. AreBadNames i xs' zs fault) (sym same.1) bad)

  -- of two sides that are right neither is bad
  pub left_right_not_bad : (i index : ℕ) (xs ys : List (List ℕ)) (left right : Form) (fault : ProblemFault) → HasRightSides bytes number signature f xs ys
      → HasSides bytes number f left right index → IsBadSide bytes signature i left fault → ⊥
  left_right_not_bad i index xs ys left right fault r sides bad =
      let same = sides_unique bytes number f _ _ _ _ _ _ most r.sides sides in
      side_not_bad d (subst (λ g. IsSide bytes signature 0 g r.left_side xs) same.left_same r.left_is) bad

  pub right_right_not_bad : (i index : ℕ) (xs ys : List (List ℕ)) (left right : Form) (fault : ProblemFault) → HasRightSides bytes number signature f xs ys
      → HasSides bytes number f left right index → IsBadSide bytes signature i right fault → ⊥
  right_right_not_bad i index xs ys left right fault r sides bad =
      let same = sides_unique bytes number f _ _ _ _ _ _ most r.sides sides in
      side_not_bad d (subst (λ g. IsSide bytes signature (length xs) g r.right_side ys) same.right_same r.right_is) bad

pub right_sides : {bytes : List ℕ} {number : ℕ} {signature : Signature} {f : Form} {r : IndexedRule} (is : IsRule bytes number signature f r)
    → HasRightSides bytes number signature f is.left_names is.right_names
right_sides {r = r} is = record {
  left = is.left;
  right = is.right;
  index = r.index;
  sides = is.sides;
  left_side = r.rule.left;
  right_side = r.rule.right;
  left_is = is.left_is;
  right_is = is.right_is;
}

pub rule_not_bad : (bytes : List ℕ) (number : ℕ) (signature : Signature) (count i : ℕ) (f : Form) (r : IndexedRule) (fault : ProblemFault) → number ≤ most_indices
    → IsDistinct bytes_eq (names_of signature) → count < 4096 → IsRule bytes number signature f r → IsBadRule bytes number signature count i f fault → ⊥
rule_not_bad bytes number signature count i f r fault most d few is bad = go fault bad
  where
    names : (xs ys : List (List ℕ)) (x : ProblemFault) → HasRightSides bytes number signature f xs ys → AreBadNames i xs ys x → ⊥
    names xs ys x sides wrong =
        names_not_bad i is.left_names is.right_names x is.once
        (bad_names_there bytes number signature f most d i is.left_names is.right_names xs ys x (right_sides is) sides wrong)

    go : (x : ProblemFault) → IsBadRule bytes number signature count i f x → ⊥
    go x (OneTooMany full) = omega arith
    go x (NoRule below none) = none is.left is.right r.index is.sides
    go x (BadLeft left right index z below sides wrong) = left_right_not_bad bytes number signature f most d i index _ _ left right x (right_sides is) sides wrong
    go x (BadRight left right index side given z below sides left_is wrong) =
        right_right_not_bad bytes number signature f most d i index _ _ left right x (right_sides is) sides wrong
    go x (LeftTwice xs ys name below sides again) = names xs ys x sides (InLeft name again)
    go x (RightTwice xs ys name below sides once again) = names xs ys x sides (InRight name once again)
    go x (InBoth xs ys name below sides once once' also) = names xs ys x sides (Between name once once' also)

-- the rule of a form among others
pub rule_among : (bytes : List ℕ) (number : ℕ) (signature : Signature) (before after : List Form) (f : Form) (rs : List IndexedRule)
    → AreRules bytes number signature (before ++ f ∷ after) rs → (r : IndexedRule) × IsRule bytes number signature f r
rule_among bytes number signature [] after f [] h = absurd h
rule_among bytes number signature [] after f (r ∷ rs) h = (r, h.0)
rule_among bytes number signature (g ∷ before) after f [] h = absurd h
rule_among bytes number signature (g ∷ before) after f (r ∷ rs) h = rule_among bytes number signature before after f rs h.1
