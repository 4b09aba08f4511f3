-- To believe: which forms are which ground terms of a signature, and which text is which ground term.
use Rattle.std.specs.Prelude.{◌≡◌, ℕ, List, [], ◌∷◌, Some}
use Rattle.fort_theory.specs.Trees.{Tree, Trees, Node, Nil, More, tree_count}
use Rattle.fort_theory.specs.Signatures.{Signature, arity_of, name_of}
use Rattle.fort_grammar.specs.Forms.{Form, Forms, ListForm, NoForm, MoreForms, AreFormsOf}
use Rattle.fort_grammar.specs.Declarations.{word_of, as_list}

mutual
  -- the name of a constant, or a list of a function's name and at least one argument, as many as its arity
  pub data IsGroundForm (bytes : List ℕ) (signature : Signature) : Form → Tree → Type 0 where
    ABareName : {f : Form} {name : List ℕ} {g : ℕ} → word_of bytes f ≡ Some name → name_of signature g ≡ Some name → arity_of signature g ≡ Some 0
        → IsGroundForm bytes signature f (Node g Nil)
    AnApplication : {from to : ℕ} {head : Form} {first : Form} {others : Forms} {name : List ℕ} {g : ℕ} {ts : Trees} → word_of bytes head ≡ Some name
        → name_of signature g ≡ Some name → arity_of signature g ≡ Some (tree_count ts) → AreGroundForms bytes signature (MoreForms first others) ts
        → IsGroundForm bytes signature (ListForm from to (MoreForms head (MoreForms first others))) (Node g ts)

  pub data AreGroundForms (bytes : List ℕ) (signature : Signature) : Forms → Trees → Type 0 where
    NoGround : AreGroundForms bytes signature NoForm Nil
    MoreGround : {f : Form} {fs : Forms} {t : Tree} {ts : Trees} → IsGroundForm bytes signature f t → AreGroundForms bytes signature fs ts
        → AreGroundForms bytes signature (MoreForms f fs) (More t ts)

-- the text is without fault, and its only form is the ground term
pub record IsGroundText (signature : Signature) (text : List ℕ) (t : Tree) : Type 0 where
  pub forms : Forms
  pub are_forms : AreFormsOf text forms
  pub only : Form
  pub is : as_list forms ≡ only ∷ []
  pub term : IsGroundForm text signature only t
