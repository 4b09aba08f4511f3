-- A form is one side at most, has one first fault, and isn't both.
use Rattle.std.proofs.Common.{◌≡◌, ℕ, ◌+◌, List, [], ◌∷◌, ◌++◌, length, Some, refl, ap, sym, ◌∙◌, subst, arith}
use Rattle.std.specs.Prelude.{bytes_eq}
use Rattle.std.specs.List.{IsDistinct}
use Rattle.fort_theory.specs.Signatures.{Signature, IsName, arity_of, names_of}
use Rattle.fort_theory.specs.Sides.{Side, Sides, App, NoSide, MoreSides, side_count}
use Rattle.fort_grammar.specs.Forms.{Form, Forms}
use Rattle.fort_grammar.specs.Declarations.{as_list, word_of, ProblemFault}
use Rattle.fort_grammar.specs.RuleForms.{IsSide, AreSides, AConstant, AVariable, AnApplication, NoSides, MoreOf, IsFunctionNamed, IsVariableNamed, IsBadSide, AreBadSides, NoName, NoConstant, NoApplication, NoHeadName, AnAppliedVariable, OtherCount, InArguments, FirstIsBad, LaterIsBad}
use Rattle.fort_ari.proofs.SideLaws.{word_no_list, one_word, function_no_variable, variable_unique, function_unique, AreSides-count}

-- a side with other numbers for its variables
pub record NumberedFrom (bytes : List ℕ) (signature : Signature) (n : ℕ) (f : Form) (names : List (List ℕ)) : Type 0 where
  pub side : Side
  pub is : IsSide bytes signature n f side names

pub record AllNumberedFrom (bytes : List ℕ) (signature : Signature) (n : ℕ) (fs : Forms) (count : ℕ) (names : List (List ℕ)) : Type 0 where
  pub sides : Sides
  pub are : AreSides bytes signature n fs sides names
  pub counted : side_count sides ≡ count

mutual
  pub renumbered : {bytes : List ℕ} {signature : Signature} {n : ℕ} {f : Form} {s : Side} {names : List (List ℕ)} (m : ℕ) → IsSide bytes signature n f s names
      → NumberedFrom bytes signature m f names
  renumbered m (AConstant {g = g} named none) = record { side = App g NoSide; is = AConstant named none }
  renumbered m (AVariable named) = record { side = _; is = AVariable named }
  renumbered m (AnApplication {g = g} named takes args) =
      let r = all_renumbered m args in record { side = App g r.sides; is = AnApplication named (takes ∙ ap Some (sym r.counted)) r.are }

  all_renumbered : {bytes : List ℕ} {signature : Signature} {n : ℕ} {fs : Forms} {ss : Sides} {names : List (List ℕ)} (m : ℕ) → AreSides bytes signature n fs ss names
      → AllNumberedFrom bytes signature m fs (side_count ss) names
  all_renumbered m NoSides = record { sides = NoSide; are = NoSides; counted = refl }
  all_renumbered m (MoreOf {names = names} first rest) =
      let r = renumbered m first in
      let rs = all_renumbered (m + length names) rest in
      let same = rs.counted in
      record { sides = MoreSides r.side rs.sides; are = MoreOf r.is rs.are; counted = omega arith }

mutual
  pub IsSide-unique : {bytes : List ℕ} {signature : Signature} {n : ℕ} {f : Form} {s s' : Side} {xs ys : List (List ℕ)} → IsDistinct bytes_eq (names_of signature)
      → IsSide bytes signature n f s xs → IsSide bytes signature n f s' ys → (s ≡ s') × (xs ≡ ys)
  IsSide-unique d (AConstant named none) (AConstant named' none') = (ap (λ k. App k NoSide) (function_unique d named named'), refl)
  IsSide-unique d (AConstant named none) (AVariable named') = absurd (function_no_variable named named')
  IsSide-unique d (AConstant named none) (AnApplication named' takes args) = let word = named.word in absurd cc
  IsSide-unique d (AVariable named) (AConstant named' none) = absurd (function_no_variable named' named)
  IsSide-unique d (AVariable named) (AVariable named') = (refl, ap (λ x. x ∷ []) (variable_unique named named'))
  IsSide-unique d (AVariable named) (AnApplication named' takes args) = let word = named.word in absurd cc
  IsSide-unique d (AnApplication named takes args) (AConstant named' none) = let word = named'.word in absurd cc
  IsSide-unique d (AnApplication named takes args) (AVariable named') = let word = named'.word in absurd cc
  IsSide-unique d (AnApplication {g = g} {ss = ss} named takes args) (AnApplication {g = h} {ss = ss'} named' takes' args') =
      let rest = AreSides-unique d args args' in
      (ap (λ k. App k ss) (function_unique d named named') ∙ ap (App h) rest.0, rest.1)

  AreSides-unique : {bytes : List ℕ} {signature : Signature} {n : ℕ} {fs : Forms} {ss ss' : Sides} {xs ys : List (List ℕ)}
      → IsDistinct bytes_eq (names_of signature) → AreSides bytes signature n fs ss xs → AreSides bytes signature n fs ss' ys → (ss ≡ ss') × (xs ≡ ys)
  AreSides-unique d NoSides NoSides = (refl, refl)
  AreSides-unique {bytes} {signature} {n} d (MoreOf {fs = fs} {s = s} {ss = ss} {names = xs} {others = others} first rest) (MoreOf {s = t} {ss = ts} {names = ys} {others = others'} first' rest') =
      let one = IsSide-unique d first first' in
      let there : AreSides bytes signature (n + length xs) fs ts others' =
      subst (λ (zs : List (List ℕ)). AreSides bytes signature (n + length zs) fs ts others') (sym one.1) rest' in
      let later = AreSides-unique d rest there in
      (ap (λ z. MoreSides z ss) one.0 ∙ ap (MoreSides t) later.0, ap (λ zs. zs ++ others) one.1 ∙ ap (λ zs. ys ++ zs) later.1)

mutual
  pub side_not_bad : {bytes : List ℕ} {signature : Signature} {n i : ℕ} {f : Form} {s : Side} {names : List (List ℕ)} {fault : ProblemFault}
      → IsDistinct bytes_eq (names_of signature) → IsSide bytes signature n f s names → IsBadSide bytes signature i f fault → ⊥
  side_not_bad {bytes} {f = f} d (AConstant named none) (NoName word e bad) = bad (subst IsName (one_word bytes f named.name word named.word e) named.named)
  side_not_bad {signature = signature} d (AConstant named none) (NoConstant g named' bad) =
      bad (subst (λ k. arity_of signature k ≡ Some 0) (function_unique d named named') none)
  side_not_bad {bytes} {f = f} d (AConstant named none) (NoApplication es e other) = word_no_list bytes f _ _ named.word e
  side_not_bad {bytes} {f = f} d (AConstant named none) (NoHeadName h x o w e e' bad) = word_no_list bytes f _ _ named.word e
  side_not_bad {bytes} {f = f} d (AConstant named none) (AnAppliedVariable h x o w e v) = word_no_list bytes f _ _ named.word e
  side_not_bad {bytes} {f = f} d (AConstant named none) (OtherCount h x o g e named' bad) = word_no_list bytes f _ _ named.word e
  side_not_bad d (AConstant named none) (InArguments named' takes bad) = let word = named.word in cc
  side_not_bad {bytes} {f = f} d (AVariable named) (NoName word e bad) = bad (subst IsName (one_word bytes f _ word named.word e) named.named)
  side_not_bad d (AVariable named) (NoConstant g named' bad) = function_no_variable named' named
  side_not_bad {bytes} {f = f} d (AVariable named) (NoApplication es e other) = word_no_list bytes f _ _ named.word e
  side_not_bad {bytes} {f = f} d (AVariable named) (NoHeadName h x o w e e' bad) = word_no_list bytes f _ _ named.word e
  side_not_bad {bytes} {f = f} d (AVariable named) (AnAppliedVariable h x o w e v) = word_no_list bytes f _ _ named.word e
  side_not_bad {bytes} {f = f} d (AVariable named) (OtherCount h x o g e named' bad) = word_no_list bytes f _ _ named.word e
  side_not_bad d (AVariable named) (InArguments named' takes bad) = let word = named.word in cc
  side_not_bad d (AnApplication named takes args) (NoName word e bad) = cc
  side_not_bad d (AnApplication named takes args) (NoConstant g named' bad) = let word = named'.word in cc
  side_not_bad d (AnApplication {head = head} {first = first} {others = others} named takes args) (NoApplication es e other) =
      let is : es ≡ head ∷ first ∷ as_list others = cc in other head first (as_list others) named.name is named.word
  side_not_bad {bytes} d (AnApplication {head = head} named takes args) (NoHeadName h x o w e e' bad) =
      let same : h ≡ head = cc in
      bad (subst IsName (one_word bytes head named.name w named.word (ap (word_of bytes) (sym same) ∙ e')) named.named)
  side_not_bad {bytes} {signature} d (AnApplication {head = head} named takes args) (AnAppliedVariable h x o w e v) =
      let same : h ≡ head = cc in function_no_variable named (subst (λ z. IsVariableNamed bytes signature z w) same v)
  side_not_bad {bytes} {signature} d (AnApplication {head = head} {first = first} {others = others} {ss = ss} named takes args) (OtherCount h x o g e named' bad) =
      let same : h ≡ head = cc in
      let behind : first ∷ as_list others ≡ x ∷ o = cc in
      let count : side_count ss ≡ length (x ∷ o) = sym (AreSides-count args) ∙ ap length behind in
      let one = function_unique d named (subst (λ z. IsFunctionNamed bytes signature z g) same named') in
      bad (subst (λ k. arity_of signature k ≡ Some (length (x ∷ o))) one (takes ∙ ap Some count))
  side_not_bad d (AnApplication named takes args) (InArguments named' takes' bad) = sides_not_bad d args bad

  sides_not_bad : {bytes : List ℕ} {signature : Signature} {n i : ℕ} {fs : Forms} {ss : Sides} {names : List (List ℕ)} {fault : ProblemFault}
      → IsDistinct bytes_eq (names_of signature) → AreSides bytes signature n fs ss names → AreBadSides bytes signature i fs fault → ⊥
  sides_not_bad d NoSides bad = elim bad [ ]
  sides_not_bad d (MoreOf first rest) (FirstIsBad bad) = side_not_bad d first bad
  sides_not_bad d (MoreOf first rest) (LaterIsBad side names is bad) = sides_not_bad d rest bad
