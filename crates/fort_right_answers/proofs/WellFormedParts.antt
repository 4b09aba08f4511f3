-- Parts of a part are parts, and a part of what is well-formed is well-formed.
use Rattle.std.proofs.Common.{◌≡◌, ◌⊎◌, [], ◌∷◌, ◌++◌, subst, ⊎_elim}
use Rattle.std.specs.Prelude.{Contains}
use Rattle.std.proofs.lemmas.List.Elements.{Contains-append_left, Contains-append_right}
use Rattle.fort_theory.specs.Cores.{Core, True, Leaf, Not, Binary, Exists, Infinite}
use Rattle.fort_theory.specs.Parts.{postorder, IsWellFormed}
use Rattle.fort_parts.specs.DecidedCores.{IsOperandOf}
use Rattle.fort_parts.proofs.PartFacts.{each_part, BindsFree-part}
use Rattle.fort_parts.proofs.PartOrder.{Contains-postorder}

-- in the first operand, or in the second
in_first : (f g h x : Core) → Contains (postorder f) x → Contains (postorder f ++ (postorder g ++ h ∷ [])) x
in_first f g h x c = Contains-append_left (postorder f) (postorder g ++ h ∷ []) x c

in_second : (f g h x : Core) → Contains (postorder g) x → Contains (postorder f ++ (postorder g ++ h ∷ [])) x
in_second f g h x c = Contains-append_right (postorder f) (postorder g ++ h ∷ []) x (Contains-append_left (postorder g) (h ∷ []) x c)

in_either : (f g h o x : Core) → (o ≡ f) ⊎ (o ≡ g) → Contains (postorder o) x → Contains (postorder f ++ (postorder g ++ h ∷ [])) x
in_either f g h o x is c =
    ⊎_elim
    (λ e. in_first f g h x (subst (λ z. Contains (postorder z) x) e c))
    (λ e. in_second f g h x (subst (λ z. Contains (postorder z) x) e c))
    is

in_only : (f h o x : Core) → o ≡ f → Contains (postorder o) x → Contains (postorder f ++ h ∷ []) x
in_only f h o x e c = Contains-append_left (postorder f) (h ∷ []) x (subst (λ z. Contains (postorder z) x) e c)

operand_within : (o h x : Core) → IsOperandOf o h → Contains (postorder o) x → Contains (postorder h) x
operand_within o True x is c = absurd is
operand_within o (Leaf a) x is c = absurd is
operand_within o (Not f) x is c = in_only f (Not f) o x is c
operand_within o (Binary op f g) x is c = in_either f g (Binary op f g) o x is c
operand_within o (Exists n f) x is c = in_only f (Exists n f) o x is c
operand_within o (Infinite n f) x is c = in_only f (Infinite n f) o x is c

pub IsWellFormed-operand : (o h : Core) → IsOperandOf o h → IsWellFormed h → IsWellFormed o
IsWellFormed-operand o h is well = record {
  binders = BindsFree-part h o well.binders (operand_within o h o is (Contains-postorder o));
  narrow =
      λ wide. well.narrow (record { part = wide.part; among = operand_within o h wide.part is wide.among; wide = wide.wide });
}

-- Result: so is each part
pub IsWellFormed-part : (f g : Core) → IsWellFormed f → Contains (postorder f) g → IsWellFormed g
IsWellFormed-part f g = each_part IsWellFormed IsWellFormed-operand f g
