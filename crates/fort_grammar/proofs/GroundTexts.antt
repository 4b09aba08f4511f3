-- A text is one ground term of a signature at most, and that is ground over the signature.
use Rattle.std.proofs.Common.{◌≡◌, ℕ, zero, suc, false, List, [], ◌∷◌, Some, refl, ap, ◌∙◌, subst}
use Rattle.std.specs.Prelude.{bytes_eq}
use Rattle.std.specs.List.{IsDistinct}
use Rattle.std.proofs.lemmas.Bool.{both_ways}
use Rattle.std.proofs.lemmas.List.Elements.{All-contains, All-from_recursion}
use Rattle.std.proofs.lemmas.Slice.Eq.{bytes_eq-Decides}
use Rattle.fort_theory.specs.Trees.{Tree, Trees, Node, Nil, More}
use Rattle.fort_theory.specs.Signatures.{Symbol, Signature, IsGround, AreGround, name_of, names_of}
use Rattle.fort_theory.proofs.SignaturesLaws.{Contains-from_name_of}
use Rattle.fort_grammar.specs.Forms.{Form, Forms}
use Rattle.fort_grammar.specs.Declarations.{as_list}
use Rattle.fort_grammar.specs.GroundForms.{IsGroundForm, ABareName, AnApplication, AreGroundForms, NoGround, MoreGround, IsGroundText}
use Rattle.fort_grammar.proofs.OneReading.{same_forms}

-- a symbol has another name than one behind it
differs_from_later : (s : Symbol) (ss : Signature) (g : ℕ) (name : List ℕ) → IsDistinct bytes_eq (names_of (s ∷ ss)) → s.name ≡ name
    → name_of ss g ≡ Some name → ⊥
unfolding IsDistinct
differs_from_later s ss g name d here there =
    let differ = All-contains (λ n. bytes_eq s.name n ≡ false) (names_of ss) name (All-from_recursion _ _ d.0) (Contains-from_name_of ss name g there) in
    both_ways _ differ ((bytes_eq-Decides s.name name).1 here)

-- different symbols have different names
pub name_of-injective : (signature : Signature) (f g : ℕ) (name : List ℕ) → IsDistinct bytes_eq (names_of signature) → name_of signature f ≡ Some name
    → name_of signature g ≡ Some name → f ≡ g
unfolding IsDistinct
name_of-injective [] f g name d e h = cc
name_of-injective (s ∷ ss) zero zero name d e h = refl
name_of-injective (s ∷ ss) zero (suc g) name d e h = let here : s.name ≡ name = cc in absurd (differs_from_later s ss g name d here h)
name_of-injective (s ∷ ss) (suc f) zero name d e h = let here : s.name ≡ name = cc in absurd (differs_from_later s ss f name d here e)
name_of-injective (s ∷ ss) (suc f) (suc g) name d e h = ap suc (name_of-injective ss f g name d.1 e h)

mutual
  pub IsGroundForm-unique : {bytes : List ℕ} {signature : Signature} {f : Form} {t u : Tree} → IsDistinct bytes_eq (names_of signature)
      → IsGroundForm bytes signature f t → IsGroundForm bytes signature f u → t ≡ u
  IsGroundForm-unique {signature = s} d (ABareName {name = x} {g = g} word is none) (ABareName {name = y} {g = h} word' is' none') =
      let there : name_of s h ≡ Some x = (let same : y ≡ x = cc in is' ∙ ap Some same) in
      ap (λ k. Node k Nil) (name_of-injective s g h x d is there)
  IsGroundForm-unique d (ABareName word is none) (AnApplication word' is' takes args) = absurd cc
  IsGroundForm-unique d (AnApplication word is takes args) (ABareName word' is' none) = absurd cc
  IsGroundForm-unique {signature = s} d (AnApplication {name = x} {g = g} {ts = ts} word is takes args) (AnApplication {name = y} {g = h} {ts = us} word' is' takes' args') =
      let there : name_of s h ≡ Some x = (let same : y ≡ x = cc in is' ∙ ap Some same) in
      ap (λ k. Node k ts) (name_of-injective s g h x d is there) ∙ ap (Node h) (AreGroundForms-unique d args args')

  AreGroundForms-unique : {bytes : List ℕ} {signature : Signature} {fs : Forms} {ts us : Trees} → IsDistinct bytes_eq (names_of signature)
      → AreGroundForms bytes signature fs ts → AreGroundForms bytes signature fs us → ts ≡ us
  AreGroundForms-unique d NoGround NoGround = refl
  AreGroundForms-unique d (MoreGround {t = t} {ts = ts} first rest) (MoreGround {t = u} {ts = us} first' rest') =
      ap (λ x. More x ts) (IsGroundForm-unique d first first') ∙ ap (More u) (AreGroundForms-unique d rest rest')

pub IsGroundText-unique : (signature : Signature) (text : List ℕ) (t u : Tree) → IsDistinct bytes_eq (names_of signature) → IsGroundText signature text t
    → IsGroundText signature text u → t ≡ u
IsGroundText-unique signature text t u d a b =
    let forms = same_forms text a.forms b.forms a.are_forms.stand b.are_forms.stand in
    let lists : as_list a.forms ≡ as_list b.forms = ap as_list forms in
    let left = a.is in
    let right = b.is in
    let only : b.only ≡ a.only = cc in
    IsGroundForm-unique d a.term (subst (λ f. IsGroundForm text signature f u) only b.term)

mutual
  IsGroundForm-ground : {bytes : List ℕ} {signature : Signature} {f : Form} {t : Tree} → IsGroundForm bytes signature f t → IsGround signature t
  IsGroundForm-ground (ABareName word is none) = (none, tt)
  IsGroundForm-ground (AnApplication word is takes args) = (takes, AreGroundForms-ground args)

  AreGroundForms-ground : {bytes : List ℕ} {signature : Signature} {fs : Forms} {ts : Trees} → AreGroundForms bytes signature fs ts → AreGround signature ts
  AreGroundForms-ground NoGround = tt
  AreGroundForms-ground (MoreGround first rest) = (IsGroundForm-ground first, AreGroundForms-ground rest)

pub IsGroundText-ground : (signature : Signature) (text : List ℕ) (t : Tree) → IsGroundText signature text t → IsGround signature t
IsGroundText-ground signature text t is = IsGroundForm-ground is.term
