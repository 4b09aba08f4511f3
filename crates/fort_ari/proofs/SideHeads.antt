-- What a side is, and what is wrong with it, by the name at its head.
use Rattle.std.proofs.Common.{◌≡◌, ℕ, ◌-◌, ◌<◌, ◌≤◌, List, [], ◌∷◌, ◌++◌, Contains, length, map, slice_get, None, Some, ap, sym, ◌∙◌, subst, arith}
use Rattle.std.proofs.lemmas.List.{length-map, map-append}
use Rattle.fort_theory.specs.Signatures.{Signature, IsName, IsSignature, arity_of, name_of, names_of}
use Rattle.fort_theory.specs.Sides as theory
use Rattle.fort_theory.proofs.SignaturesLaws.{Contains-from_name_of}
use Rattle.fort_grammar.specs.Forms.{Form}
use Rattle.fort_grammar.specs.Declarations.{word_of, elements_of, BadForm, BadName, WrongCount, VariableApplied}
use Rattle.fort_grammar.specs.RuleForms.{IsSide, AConstant, AVariable, AnApplication, IsFunctionNamed, IsVariableNamed, IsBadSide, NoApplication, NoHeadName, AnAppliedVariable, OtherCount}
use Rattle.fort_ari.specs.SideForms.{IsRightSide, IsHeadFor, ReadsSide}
use Rattle.fort_ari.proofs.SideLaws.{one_word, function_unique, function_no_variable, IsName-found}

-- a name that a signature has
pub function_named : {bytes : List ℕ} {signature : Signature} (f : Form) (g : ℕ) (name : List ℕ) → IsSignature signature → word_of bytes f ≡ Some name
    → name_of signature g ≡ Some name → IsFunctionNamed bytes signature f g
function_named {signature = signature} f g name lawful word declared =
    record { name = name; word = word; named = IsName-found signature g name lawful declared; declared = declared }

-- a list of at least two begins with its head
record Splits (es : List Form) (head : Form) : Type 0 where
  first : Form
  others : List Form
  is : es ≡ head ∷ first ∷ others

split : (es : List Form) (head : Form) → 2 ≤ length es → slice_get es 0 ≡ Some head → Splits es head
split [] head l e = absurd (omega arith)
split (x ∷ []) head l e = absurd (omega arith)
split (x ∷ y ∷ es) head l e = let same : x ≡ head = cc in record { first = y; others = es; is = ap (λ z. z ∷ y ∷ es) same }

count_behind : (es : List Form) (head : Form) (s : Splits es head) → length es - 1 ≡ length (s.first ∷ s.others)
count_behind es head s = let n = ap length s.is in omega arith

module _ (bytes : List ℕ) (signature : Signature) (i : ℕ) (f : Form) (es : List Form) (e : elements_of f ≡ Some es) where
  pub bad_short : length es < 2 → IsBadSide bytes signature i f (BadForm i)
  bad_short l = NoApplication es e (λ h x o w is k. let n = ap length is in omega arith)

  module _ (head : Form) (l : 2 ≤ length es) (k : slice_get es 0 ≡ Some head) where
    begins : (s : Splits es head) → elements_of f ≡ Some (head ∷ s.first ∷ s.others)
    begins s = e ∙ ap Some s.is

    pub bad_head : word_of bytes head ≡ None → IsBadSide bytes signature i f (BadForm i)
    bad_head none = NoApplication es e (λ h x o w is word. let s = split es head l k in
        let begins = s.is in
        let same : h ≡ head = cc in
        let there : word_of bytes head ≡ Some w = ap (word_of bytes) (sym same) ∙ word in absurd cc)

    pub bad_head_name : (w : List ℕ) → word_of bytes head ≡ Some w → (IsName w → ⊥) → IsBadSide bytes signature i f (BadName i)
    bad_head_name w word bad = let s = split es head l k in NoHeadName head s.first s.others w (begins s) word bad

    pub bad_variable : (w : List ℕ) → IsVariableNamed bytes signature head w → IsBadSide bytes signature i f (VariableApplied i)
    bad_variable w v = let s = split es head l k in AnAppliedVariable head s.first s.others w (begins s) v

    pub bad_count : (g : ℕ) → IsFunctionNamed bytes signature head g → (arity_of signature g ≡ Some (length es - 1) → ⊥) → IsBadSide bytes signature i f (WrongCount i)
    bad_count g named other =
        let s = split es head l k in
        OtherCount head s.first s.others g (begins s) named (λ takes. other (takes ∙ ap Some (sym (count_behind es head s))))

    pub head_for : (g : ℕ) → IsFunctionNamed bytes signature head g → arity_of signature g ≡ Some (length es - 1) → IsHeadFor bytes signature es
    head_for g named takes =
        let s = split es head l k in
        record { head = head; first = s.first; others = s.others; g = g; is = s.is; named = named; takes = takes ∙ ap Some (count_behind es head s) }

module _ (bytes : List ℕ) (signature : Signature) (f : Form) (name : List ℕ) (word : word_of bytes f ≡ Some name) where
  -- a side that is a word of the signature is a constant
  pub right_constant : (g : ℕ) → IsSignature signature → name_of signature g ≡ Some name → IsRightSide bytes signature f → arity_of signature g ≡ Some 0
  right_constant g lawful declared r = go f word r.is
    where
      go : {n : ℕ} (z : Form) {s : theory.Side} {names : List (List ℕ)} → word_of bytes z ≡ Some name → IsSide bytes signature n z s names → arity_of signature g ≡ Some 0
      go z w (AConstant named none) =
          subst (λ k. arity_of signature k ≡ Some 0) (function_unique lawful.distinct named (function_named z g name lawful w declared)) none
      go z w (AVariable named) = absurd (function_no_variable (function_named z g name lawful w declared) named)
      go z w (AnApplication named takes args) = absurd cc

  -- and one that is another word is a variable
  pub right_variable : (Contains (names_of signature) name → ⊥) → IsRightSide bytes signature f → IsVariableNamed bytes signature f name
  right_variable free r = go f word r.is
    where
      go : {n : ℕ} (z : Form) {s : theory.Side} {names : List (List ℕ)} → word_of bytes z ≡ Some name → IsSide bytes signature n z s names → IsVariableNamed bytes signature z name
      go z w (AConstant {g = g} named none) =
          absurd (free (subst (Contains (names_of signature)) (one_word bytes z named.name name named.word w) (Contains-from_name_of signature named.name g named.declared)))
      go z w (AVariable {name = x} named) = subst (IsVariableNamed bytes signature z) (one_word bytes z x name named.word w) named
      go z w (AnApplication named takes args) = absurd cc

-- the number of elements of a list that is a side
pub head_count : (bytes : List ℕ) (signature : Signature) (es : List Form) → IsHeadFor bytes signature es → 2 ≤ length es
head_count bytes signature es h = let n = ap length h.is in omega arith

-- and the symbol of its head
pub head_symbol : (bytes : List ℕ) (signature : Signature) (es : List Form) (head : Form) (h : IsHeadFor bytes signature es) → slice_get es 0 ≡ Some head
    → (word_of bytes head ≡ Some h.named.name) × (arity_of signature h.g ≡ Some (length es - 1))
head_symbol bytes signature es head h k =
    let is = h.is in
    let first : slice_get (h.head ∷ h.first ∷ h.others) 0 ≡ Some head = ap (λ xs. slice_get xs 0) (sym is) ∙ k in
    let same : h.head ≡ head = cc in
    let count : length (h.first ∷ h.others) ≡ length es - 1 = (let n = ap length is in omega arith) in
    (ap (word_of bytes) (sym same) ∙ h.named.word, h.takes ∙ ap Some count)

-- a variable, whose name is put behind the names
pub variable_read : {bytes : List ℕ} {signature : Signature} {K : Type 0} (name : K → List ℕ) (f : Form) (old new : List K) (k : K) (n : ℕ) → new ≡ old ++ k ∷ []
    → n ≡ length old → IsVariableNamed bytes signature f (name k) → ReadsSide bytes signature f (map name old) (map name new) (theory.Var n)
variable_read {bytes} {signature} name f old new k n added place v = record {
  names = name k ∷ [];
  added = ap (map name) added ∙ map-append name old (k ∷ []);
  is = subst (λ m. IsSide bytes signature (length (map name old)) f (theory.Var m) (name k ∷ [])) (length-map old name ∙ sym place) (AVariable v);
}
