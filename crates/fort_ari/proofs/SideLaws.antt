-- Sides: their heads, that they fit a signature, and that no variable stands twice in them.
use Rattle.std.proofs.Common.{All, ◌≡◌, ℕ, zero, suc, ◌+◌, ◌<◌, ◌≤◌, List, [], ◌∷◌, ◌++◌, Contains, length, length-append, Some, inl, inr, refl, ap, sym, ◌∙◌, subst, arith}
use Rattle.std.specs.Prelude.{bytes_eq}
use Rattle.std.specs.List.{IsDistinct, range_with_len}
use Rattle.std.proofs.lemmas.List.Elements.{Contains-append_right}
use Rattle.fort_theory.specs.Signatures.{Signature, Symbol, IsName, IsSignature, name_of, names_of}
use Rattle.fort_theory.specs.Sides.{Side, Sides, FitsSide, FitsSides, variables, variables_among, side_count}
use Rattle.fort_theory.proofs.Members.{Contains-head, Contains-none, Contains-cons_cases}
use Rattle.fort_theory.proofs.SignaturesLaws.{Contains-from_name_of}
use Rattle.fort_terms.specs.RuleFaults.{IsFirstRepeated, IsFirstShared}
use Rattle.fort_grammar.specs.Forms.{Form, Forms, Word, ListForm}
use Rattle.fort_grammar.specs.Declarations.{as_list, word_of, elements_of}
use Rattle.fort_grammar.specs.RuleForms.{IsSide, AreSides, AConstant, AVariable, AnApplication, NoSides, MoreOf, IsFunctionNamed, IsVariableNamed}
use Rattle.fort_grammar.proofs.GroundTexts.{name_of-injective}

pub below_from_name_of : (signature : Signature) (f : ℕ) (name : List ℕ) → name_of signature f ≡ Some name → f < length signature
below_from_name_of [] f name e = cc
below_from_name_of (s ∷ signature) zero name e = omega arith
below_from_name_of (s ∷ signature) (suc f) name e = let below = below_from_name_of signature f name e in omega arith

-- the names of a signature's symbols are names
named_at : (signature : Signature) (f : ℕ) (name : List ℕ) → All (λ (s : Symbol). IsName s.name) signature → name_of signature f ≡ Some name → IsName name
named_at [] f name all e = cc
named_at (s ∷ signature) zero name all e = let is : s.name ≡ name = cc in subst IsName is (all zero s (omega arith))
named_at (s ∷ signature) (suc f) name all e = named_at signature f name (λ k d below. all (suc k) d (omega arith)) e

pub IsName-found : (signature : Signature) (f : ℕ) (name : List ℕ) → IsSignature signature → name_of signature f ≡ Some name → IsName name
IsName-found signature f name lawful e = named_at signature f name lawful.named e

-- a form isn't both a word and a list
pub word_no_list : (bytes : List ℕ) (f : Form) (word : List ℕ) (es : List Form) → word_of bytes f ≡ Some word → elements_of f ≡ Some es → ⊥
word_no_list bytes (Word from to) word es w e = cc
word_no_list bytes (ListForm from to fs) word es w e = cc

pub one_word : (bytes : List ℕ) (f : Form) (v w : List ℕ) → word_of bytes f ≡ Some v → word_of bytes f ≡ Some w → v ≡ w
one_word bytes f v w e h = cc

module _ {bytes : List ℕ} {signature : Signature} {f : Form} where
  -- the name of a function is that of no variable
  pub function_no_variable : {g : ℕ} {name : List ℕ} → IsFunctionNamed bytes signature f g → IsVariableNamed bytes signature f name → ⊥
  function_no_variable {g} {name} h v =
      v.free (subst (Contains (names_of signature)) (one_word bytes f h.name name h.word v.word) (Contains-from_name_of signature h.name g h.declared))

  pub variable_unique : {x y : List ℕ} → IsVariableNamed bytes signature f x → IsVariableNamed bytes signature f y → x ≡ y
  variable_unique {x} {y} v w = one_word bytes f x y v.word w.word

  -- different functions have different names
  pub function_unique : {g h : ℕ} → IsDistinct bytes_eq (names_of signature) → IsFunctionNamed bytes signature f g → IsFunctionNamed bytes signature f h → g ≡ h
  function_unique {g} {h} d a b =
      name_of-injective signature g h a.name d a.declared (b.declared ∙ ap Some (one_word bytes f b.name a.name b.word a.word))

mutual
  pub FitsSide-IsSide : {bytes : List ℕ} {signature : Signature} {n : ℕ} {f : Form} {s : Side} {names : List (List ℕ)} → IsSide bytes signature n f s names
      → FitsSide signature s
  FitsSide-IsSide (AConstant named none) = (none, tt)
  FitsSide-IsSide (AVariable named) = tt
  FitsSide-IsSide (AnApplication named takes args) = (takes, FitsSides-AreSides args)

  FitsSides-AreSides : {bytes : List ℕ} {signature : Signature} {n : ℕ} {fs : Forms} {ss : Sides} {names : List (List ℕ)} → AreSides bytes signature n fs ss names
      → FitsSides signature ss
  FitsSides-AreSides NoSides = tt
  FitsSides-AreSides (MoreOf first rest) = (FitsSide-IsSide first, FitsSides-AreSides rest)

pub AreSides-count : {bytes : List ℕ} {signature : Signature} {n : ℕ} {fs : Forms} {ss : Sides} {names : List (List ℕ)} → AreSides bytes signature n fs ss names
    → length (as_list fs) ≡ side_count ss
AreSides-count NoSides = refl
AreSides-count (MoreOf first rest) = ap suc (AreSides-count rest)

range_append : (n a b : ℕ) → range_with_len n (a + b) ≡ range_with_len n a ++ range_with_len (n + a) b
range_append n zero b =
    let here : n + 0 ≡ n = omega arith in
    let all : 0 + b ≡ b = omega arith in
    ap (range_with_len n) all ∙ ap (λ k. range_with_len k b) (sym here)
range_append n (suc a) b =
    let there : n + 1 + a ≡ n + suc a = omega arith in
    let all : suc a + b ≡ suc (a + b) = omega arith in
    ap (range_with_len n) all ∙ ap (λ xs. n ∷ xs) (range_append (n + 1) a b ∙ ap (λ k. range_with_len (n + 1) a ++ range_with_len k b) there)

mutual
  -- the variables of a side are the numbers from n on, one for each name
  pub variables-IsSide : {bytes : List ℕ} {signature : Signature} {n : ℕ} {f : Form} {s : Side} {names : List (List ℕ)} → IsSide bytes signature n f s names
      → variables s ≡ range_with_len n (length names)
  variables-IsSide (AConstant named none) = refl
  variables-IsSide (AVariable named) = refl
  variables-IsSide (AnApplication named takes args) = variables-AreSides args

  variables-AreSides : {bytes : List ℕ} {signature : Signature} {n : ℕ} {fs : Forms} {ss : Sides} {names : List (List ℕ)} → AreSides bytes signature n fs ss names
      → variables_among ss ≡ range_with_len n (length names)
  variables-AreSides NoSides = refl
  variables-AreSides {n = n} (MoreOf {ss = ss} {names = names} {others = others} first rest) =
      ap (λ vs. vs ++ variables_among ss) (variables-IsSide first)
      ∙ (ap (λ vs. range_with_len n (length names) ++ vs) (variables-AreSides rest)
      ∙ (sym (range_append n (length names) (length others)) ∙ ap (range_with_len n) (sym (length-append names others))))

-- the numbers from n on are at least n, and below the last one
range_low : (n m v : ℕ) → Contains (range_with_len n m) v → n ≤ v
range_low n zero v c = absurd (Contains-none v c)
range_low n (suc m) v c =
    elim (Contains-cons_cases n (range_with_len (n + 1) m) v c) [
      | inl here ↦ omega arith
      | inr behind ↦ (let low = range_low (n + 1) m v behind in omega arith)
    ]

range_high : (n m v : ℕ) → Contains (range_with_len n m) v → v < n + m
range_high n zero v c = absurd (Contains-none v c)
range_high n (suc m) v c =
    elim (Contains-cons_cases n (range_with_len (n + 1) m) v c) [
      | inl here ↦ omega arith
      | inr behind ↦ (let high = range_high (n + 1) m v behind in omega arith)
    ]

-- what comes before a number is less
before_less : (n m v w : ℕ) (before after : List ℕ) → range_with_len n m ≡ before ++ v ∷ after → Contains before w → w < v
before_less n m v w [] after e c = absurd (Contains-none w c)
before_less n zero v w (x ∷ before) after e c = absurd cc
before_less n (suc m) v w (x ∷ before) after e c =
    let here : n ≡ x = cc in
    let rest : range_with_len (n + 1) m ≡ before ++ v ∷ after = cc in
    elim (Contains-cons_cases x before w c) [
      | inl first ↦ (let among : Contains (range_with_len (n + 1) m) v = subst (λ vs. Contains vs v) (sym rest) (Contains-append_right before (v ∷ after) v (Contains-head v after)) in
          let low = range_low (n + 1) m v among in omega arith)
      | inr behind ↦ before_less (n + 1) m v w before after rest behind
    ]

-- no variable of a side is met again
pub none_repeats : {bytes : List ℕ} {signature : Signature} {n : ℕ} {f : Form} {s : Side} {names : List (List ℕ)} (v : ℕ) → IsSide bytes signature n f s names
    → IsFirstRepeated (variables s) v → ⊥
none_repeats {n = n} {names = names} v is r =
    let less = before_less n (length names) v v r.before r.after (sym (variables-IsSide is) ∙ r.stands) r.again in omega arith

-- nor is one of two sides in the other, if this is numbered behind that
pub none_shared : {bytes : List ℕ} {signature : Signature} {f g : Form} {s t : Side} {xs ys : List (List ℕ)} (v : ℕ) → IsSide bytes signature 0 f s xs
    → IsSide bytes signature (length xs) g t ys → IsFirstShared (variables s) (variables t) v → ⊥
none_shared {xs = xs} {ys = ys} v left right r =
    let among : Contains (range_with_len 0 (length xs)) v =
    subst (λ vs. Contains vs v) (sym r.stands ∙ variables-IsSide left) (Contains-append_right r.before (v ∷ r.after) v (Contains-head v r.after)) in
    let high = range_high 0 (length xs) v among in
    let low = range_low (length xs) (length ys) v (subst (λ vs. Contains vs v) (variables-IsSide right) r.shared) in
    omega arith
