-- The parts that roots are: what more roots leave, that each part is the formula of its root, and that parts of one formula have one root.
use Rattle.std.specs.Prelude.{◌≡◌, ℕ, Bool, true, false, zero, suc, ◌+◌, ◌<◌, ◌≤◌, List, [], ◌∷◌, ◌++◌, length, get_or, refl}
use Rattle.std.proofs.Common.{ap, sym, ◌∙◌, arith, true≢false, append_assoc, append-nil, length-append}
use Rattle.std.proofs.lemmas.List.{get_or_push, get_or_append_left}
use Rattle.fort_theory.specs.Cores as core
use Rattle.fort_theory.specs.Logic as logic
use Rattle.fort_theory.specs.Cores.{Core}
use Rattle.fort_relations.specs.declared.relation.Rel.{Rel}
use Rattle.fort_formulas.specs.declared.core_formula.Core.TheVariants as program_variants
use Rattle.fort_formulas.specs.declared.core_formula.Core as program
use Rattle.fort_formulas.specs.CoreView.{as_core}
use Rattle.fort_formulas.specs.CoreKeyLaws.{as_core-injective}
use Rattle.fort_connectives.specs.declared.connective.Op.{Op}
use Rattle.fort_connectives.specs.declared.connective.Op.TheVariants as ops
use Rattle.fort_connectives.specs.ConnectiveView.{connective_of}
use Rattle.fort_outline.specs.declared.leaf.Leaf.{Leaf as Atom}
use Rattle.fort_outline.specs.declared.leaf.Leaf.TheVariants as atoms
use Rattle.fort_outline.specs.LeafView.{as_atom}
use Rattle.fort_outline.specs.declared.root.Root.{Root}
use Rattle.fort_outline.specs.declared.root.Root.TheVariants.{True, Leaf, Not, Binary, Exists, Infinite}
use Rattle.fort_outline.specs.Roots.{root_core, cores_behind, cores_of, HasOperandsBelow, AreInOrder}
use Rattle.fort_outline.specs.Numbered.{AreDistinct}

-- more roots

pub cores_behind-append : (parts : List Core) (rs qs : List Root) → cores_behind parts (rs ++ qs) ≡ cores_behind (cores_behind parts rs) qs
cores_behind-append parts [] qs = refl
cores_behind-append parts (r ∷ rs) qs = cores_behind-append (parts ++ root_core parts r ∷ []) rs qs

pub cores_of-push : (rs : List Root) (r : Root) → cores_of (rs ++ r ∷ []) ≡ cores_of rs ++ root_core (cores_of rs) r ∷ []
cores_of-push rs r = cores_behind-append [] rs (r ∷ [])

length-cores_behind : (parts : List Core) (rs : List Root) → length (cores_behind parts rs) ≡ length parts + length rs
length-cores_behind parts [] = omega arith
length-cores_behind parts (r ∷ rs) =
    let rest = length-cores_behind (parts ++ root_core parts r ∷ []) rs in
    omega (arith, length-append parts (root_core parts r ∷ []))

pub length-cores_of : (rs : List Root) → length (cores_of rs) ≡ length rs
length-cores_of rs = length-cores_behind [] rs ∙ omega arith

begins : (parts : List Core) (rs : List Root) → (more : List Core) × (cores_behind parts rs ≡ parts ++ more)
begins parts [] = ([], sym (append-nil parts))
begins parts (r ∷ rs) =
    let p = begins (parts ++ root_core parts r ∷ []) rs in
    (root_core parts r ∷ p.0, p.1 ∙ append_assoc parts (root_core parts r ∷ []) p.0)

-- a part stays where more roots follow
part_behind : (parts : List Core) (rs : List Root) (k : ℕ) → k < length parts → get_or (cores_behind parts rs) k core.True ≡ get_or parts k core.True
part_behind parts rs k l =
    let p = begins parts rs in
    ap (λ cs. get_or cs k core.True) p.1 ∙ get_or_append_left parts p.0 core.True k l

pub part_kept : (rs qs : List Root) (k : ℕ) → k < length rs → get_or (cores_of (rs ++ qs)) k core.True ≡ get_or (cores_of rs) k core.True
part_kept rs qs k l =
    ap (λ cs. get_or cs k core.True) (cores_behind-append [] rs qs) ∙ part_behind (cores_of rs) qs k (omega (arith, length-cores_of rs))

-- the operands of a root

pub HasOperandsBelow-more : (j k : ℕ) (r : Root) → j ≤ k → HasOperandsBelow j r → HasOperandsBelow k r
HasOperandsBelow-more j k True l o = tt
HasOperandsBelow-more j k (Leaf a) l o = tt
HasOperandsBelow-more j k (Not f) l o = omega arith
HasOperandsBelow-more j k (Binary op f g) l o = (omega (arith, o.0), omega (arith, o.1))
HasOperandsBelow-more j k (Exists n f) l o = omega arith
HasOperandsBelow-more j k (Infinite n f) l o = omega arith

-- a root's formula over lists with the same operands
root_core-same : (k : ℕ) (ps qs : List Core) (r : Root) → HasOperandsBelow k r → ((a : ℕ) → a < k → get_or ps a core.True ≡ get_or qs a core.True)
    → root_core ps r ≡ root_core qs r
root_core-same k ps qs True o same = refl
root_core-same k ps qs (Leaf a) o same = refl
root_core-same k ps qs (Not f) o same = ap (λ z. core.Not z) (same f o)
root_core-same k ps qs (Binary op f g) o same = λ i. core.Binary (connective_of op) (same f o.0 i) (same g o.1 i)
root_core-same k ps qs (Exists n f) o same = ap (λ z. core.Exists n z) (same f o)
root_core-same k ps qs (Infinite n f) o same = ap (λ z. core.Infinite n z) (same f o)

-- Result: each part is the formula of its root

root_at : (parts : List Core) (rs : List Root) (j : ℕ) → j < length rs → HasOperandsBelow (length parts + j) (get_or rs j True)
    → get_or (cores_behind parts rs) (length parts + j) core.True ≡ root_core (cores_behind parts rs) (get_or rs j True)
root_at parts [] j l o = absurd (omega arith)
root_at parts (r ∷ rs) zero l o =
    let more = parts ++ root_core parts r ∷ [] in
    let at : length parts + 0 ≡ length parts = omega arith in
    let over : HasOperandsBelow (length parts) r = HasOperandsBelow-more (length parts + 0) (length parts) r (omega arith) o in
    let first : get_or (cores_behind more rs) (length parts + 0) core.True ≡ root_core parts r =
    part_behind more rs (length parts + 0) (omega (arith, length-append parts (root_core parts r ∷ []))) ∙ get_or_push parts (root_core parts r) core.True (length parts + 0) (sym at) in
    first
    ∙ root_core-same (length parts) parts (cores_behind more rs) r over
    (λ a m. sym (part_behind more rs a (omega (arith, length-append parts (root_core parts r ∷ []))) ∙ get_or_append_left parts (root_core parts r ∷ []) core.True a m))
root_at parts (r ∷ rs) (suc j) l o =
    let more = parts ++ root_core parts r ∷ [] in
    let at : length more + j ≡ length parts + suc j = omega (arith, length-append parts (root_core parts r ∷ [])) in
    let rest = root_at more rs j (omega arith) (HasOperandsBelow-more (length parts + suc j) (length more + j) (get_or rs j True) (omega arith) o) in
    ap (λ i. get_or (cores_behind more rs) i core.True) (sym at) ∙ rest

pub part_at : (rs : List Root) → AreInOrder rs → (k : ℕ) → k < length rs → get_or (cores_of rs) k core.True ≡ root_core (cores_of rs) (get_or rs k True)
part_at rs order k l =
    let at : 0 + k ≡ k = omega arith in
    ap (λ i. get_or (cores_of rs) i core.True) (sym at) ∙ root_at [] rs k l (HasOperandsBelow-more k (0 + k) (get_or rs k True) (omega arith) (order k l))

-- parts of one formula have one root

-- an atom as a formula of the program, and back
abbrev formula_of : Atom → program.Core
formula_of (atoms.Related rel index x y) = program_variants.Atom rel index x y
formula_of (atoms.InContext e holes place x y) = program_variants.Rel e holes place x y
formula_of (atoms.Normal index x) = program_variants.Nf index x
formula_of (atoms.IsTerm x t) = program_variants.Is x t

abbrev leaf_of : program.Core → Atom
leaf_of (program_variants.Atom rel index x y) = atoms.Related rel index x y
leaf_of (program_variants.Rel e holes place x y) = atoms.InContext e holes place x y
leaf_of (program_variants.Nf index x) = atoms.Normal index x
leaf_of (program_variants.Is x t) = atoms.IsTerm x t
leaf_of other = atoms.Normal 0 0

leaf_again : (a : Atom) → leaf_of (formula_of a) ≡ a
leaf_again (atoms.Related rel index x y) = refl
leaf_again (atoms.InContext e holes place x y) = refl
leaf_again (atoms.Normal index x) = refl
leaf_again (atoms.IsTerm x t) = refl

as_core-leaf : (a : Atom) → as_core (formula_of a) ≡ core.Leaf (as_atom a)
as_core-leaf (atoms.Related rel index x y) = refl
as_core-leaf (atoms.InContext e holes place x y) = refl
as_core-leaf (atoms.Normal index x) = refl
as_core-leaf (atoms.IsTerm x t) = refl

as_atom-injective : (a b : Atom) → as_atom a ≡ as_atom b → a ≡ b
as_atom-injective a b e =
    let same = as_core-injective (formula_of a) (formula_of b) (as_core-leaf a ∙ (ap (λ c. core.Leaf c) e ∙ sym (as_core-leaf b))) in
    sym (leaf_again a) ∙ (ap leaf_of same ∙ leaf_again b)

abbrev op_of : logic.Connective → Op
op_of logic.And = ops.And
op_of logic.Or = ops.Or
op_of logic.Iff = ops.Iff

op_again : (op : Op) → op_of (connective_of op) ≡ op
op_again ops.And = refl
op_again ops.Or = refl
op_again ops.Iff = refl

connective_of-injective : (a b : Op) → connective_of a ≡ connective_of b → a ≡ b
connective_of-injective a b e = sym (op_again a) ∙ (ap op_of e ∙ op_again b)

-- two formulas of one kind
abbrev same_shape : Core → Core → Bool
same_shape core.True core.True = true
same_shape (core.Leaf a) (core.Leaf b) = true
same_shape (core.Not f) (core.Not g) = true
same_shape (core.Binary op f g) (core.Binary other h k) = true
same_shape (core.Exists n f) (core.Exists m g) = true
same_shape (core.Infinite n f) (core.Infinite m g) = true
same_shape f g = false

pub same_root : (parts : List Core) → AreDistinct parts → (r s : Root) → HasOperandsBelow (length parts) r → HasOperandsBelow (length parts) s → root_core parts r ≡ root_core parts s → r ≡ s
same_root parts apart True True o p e = refl
same_root parts apart (Leaf a) (Leaf b) o p e =
    let same : as_atom a ≡ as_atom b = cc in
    ap (λ c. Leaf c) (as_atom-injective a b same)
same_root parts apart (Not f) (Not g) o p e =
    let body : get_or parts f core.True ≡ get_or parts g core.True = cc in
    ap (λ k. Not k) (apart f g o p body)
same_root parts apart (Binary a f g) (Binary b h k) o p e =
    let op : connective_of a ≡ connective_of b = cc in
    let first : get_or parts f core.True ≡ get_or parts h core.True = cc in
    let second : get_or parts g core.True ≡ get_or parts k core.True = cc in
    λ i. Binary (connective_of-injective a b op i) (apart f h o.0 p.0 first i) (apart g k o.1 p.1 second i)
same_root parts apart (Exists n f) (Exists m g) o p e =
    let number : n ≡ m = cc in
    let body : get_or parts f core.True ≡ get_or parts g core.True = cc in
    λ i. Exists (number i) (apart f g o p body i)
same_root parts apart (Infinite n f) (Infinite m g) o p e =
    let number : n ≡ m = cc in
    let body : get_or parts f core.True ≡ get_or parts g core.True = cc in
    λ i. Infinite (number i) (apart f g o p body i)
same_root parts apart r s o p e = absurd (true≢false (ap (same_shape (root_core parts r)) e))

-- another atom has no relation, nor has a part with another root

pub no_relation : (a : Atom) → ((rel : Rel) (index x y : ℕ) → a ≡ atoms.Related rel index x y → ⊥)
    → (rel : core.Rel) (index x y : ℕ) → as_atom a ≡ core.Related rel index x y → ⊥
no_relation (atoms.Related own i u v) other rel index x y e = other own i u v refl
no_relation (atoms.InContext r holes place u v) other rel index x y e = absurd cc
no_relation (atoms.Normal i u) other rel index x y e = absurd cc
no_relation (atoms.IsTerm u t) other rel index x y e = absurd cc

pub no_atom : (parts : List Core) (r : Root) → ((a : Atom) → r ≡ Leaf a → ⊥)
    → (rel : core.Rel) (index x y : ℕ) → root_core parts r ≡ core.Leaf (core.Related rel index x y) → ⊥
no_atom parts (Leaf a) other rel index x y e = other a refl
no_atom parts r other rel index x y e = true≢false (ap (same_shape (core.Leaf (core.Related rel index x y))) (sym e))

pub atom_is : (parts : List Core) (r : Root) (a : Atom) → r ≡ Leaf a → (rel : core.Rel) (index x y : ℕ)
    → root_core parts r ≡ core.Leaf (core.Related rel index x y) → as_atom a ≡ core.Related rel index x y
atom_is parts r a is rel index x y e = let leaf : core.Leaf (as_atom a) ≡ core.Leaf (core.Related rel index x y) = sym (ap (root_core parts) is) ∙ e in cc
