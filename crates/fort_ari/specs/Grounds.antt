-- Inside: which symbol a word names with so many arguments, and which forms are which ground terms one by one.
use Rattle.std.specs.Prelude.{◌≡◌, ℕ, ◌-◌, ◌≤◌, List, [], ◌∷◌, take, drop, Some}
use Rattle.fort_theory.specs.Trees.{Tree}
use Rattle.fort_theory.specs.Signatures.{Signature, arity_of, name_of}
use Rattle.fort_grammar.specs.Forms.{Form}
use Rattle.fort_grammar.specs.Declarations.{word_of}
use Rattle.fort_grammar.specs.GroundForms.{IsGroundForm}

-- the word is the name of this symbol, which has so many arguments
pub record IsSymbolOf (bytes : List ℕ) (signature : Signature) (f : Form) (arity g : ℕ) : Type 0 where
  pub name : List ℕ
  pub word : word_of bytes f ≡ Some name
  pub is : name_of signature g ≡ Some name
  pub takes : arity_of signature g ≡ Some arity

abbrev pub AreGroundEach : List ℕ → Signature → List Form → List Tree → Type 0
AreGroundEach bytes signature [] [] = Unit {0}
AreGroundEach bytes signature [] (t ∷ ts) = ⊥
AreGroundEach bytes signature (f ∷ fs) [] = ⊥
AreGroundEach bytes signature (f ∷ fs) (t ∷ ts) = IsGroundForm bytes signature f t × AreGroundEach bytes signature fs ts

-- the elements behind the first, up to a number, are these ground terms
pub record AreArguments (bytes : List ℕ) (signature : Signature) (es : List Form) (i : ℕ) (ts : List Tree) : Type 0 where
  pub low : 1 ≤ i
  pub each : AreGroundEach bytes signature (take (i - 1) (drop 1 es)) ts
