-- The parts of an outline by their roots: whether some of them asks for a closure, and each with its columns.
use Rattle.std.specs.Prelude.{◌≡◌, ℕ, ◌<◌, Bool, true, false, ◌||◌, ◌&&◌, ◌==◌, List, [], ◌∷◌, ◌++◌, length, get_or, refl}
use Rattle.std.specs.List.{list_any}
use Rattle.std.proofs.Common.{ap, sym, ◌∙◌, subst, arith, Vec, Global}
use Rattle.std.proofs.lemmas.List.{get_or_default}
use Rattle.fort_theory.specs.Cores as core
use Rattle.fort_theory.specs.Cores.{Core, Rel}
use Rattle.fort_parts.specs.PartColumns.{columns_of}
use Rattle.fort_alike.specs.ListedClosures.{Which, reads, asks}
use Rattle.fort_outline.specs.declared.root.Root.{Root}
use Rattle.fort_outline.specs.declared.root.Root.TheVariants.{True, Leaf, Not, Binary, Exists, Infinite}
use Rattle.fort_outline.specs.declared.outline.Outline.{Outline}
use Rattle.fort_outline.specs.Roots.{root_core, cores_behind, cores_of, HasOperandsBelow, AreInOrder}
use Rattle.fort_outline.specs.Outlines.{IsOutlineOf, parts_in}
use Rattle.fort_outline.proofs.RootLaws.{part_at}

-- each part

pub part_root : (rs : List Root) → AreInOrder rs → (k : ℕ) (r : Root) → k < length rs → r ≡ get_or rs k r → get_or (cores_of rs) k core.True ≡ root_core (cores_of rs) r
part_root rs order k r l is = part_at rs order k l ∙ ap (root_core (cores_of rs)) (get_or_default rs k True r l ∙ sym is)

-- by a root that was read
pub part_is : (rs : List Root) → AreInOrder rs → (k : ℕ) (d r : Root) → k < length rs → d ≡ get_or rs k d → d ≡ r → get_or (cores_of rs) k core.True ≡ root_core (cores_of rs) r
part_is rs order k d r l at is = part_root rs order k d l at ∙ ap (root_core (cores_of rs)) is

pub over_is : (rs : List Root) → AreInOrder rs → (k : ℕ) (d r : Root) → k < length rs → d ≡ get_or rs k d → d ≡ r → HasOperandsBelow k r
over_is rs order k d r l at is = subst (HasOperandsBelow k) (get_or_default rs k True d l ∙ (sym at ∙ is)) (order k l)

pub columns_at : (f : Core) (o : Outline) → IsOutlineOf f o → (k : ℕ) (v : Vec ℕ Global) → k < length o.roots.items → v ≡ get_or o.columns.items k v → v.items ≡ columns_of (get_or (parts_in o) k core.True)
columns_at f o are k v l is =
    let low : k < length o.columns.items = omega (arith, are.count) in
    ap (λ (x : Vec ℕ Global). x.items) is ∙ are.columns k v low

-- whether some part asks for a closure: what its operands are doesn't matter

abbrev pub root_asks : Which → ℕ → Root → Bool
root_asks which index r = asks which index (root_core [] r)

pub asks_over : (which : Which) (index : ℕ) (parts : List Core) (r : Root) → asks which index (root_core parts r) ≡ root_asks which index r
asks_over which index parts True = refl
asks_over which index parts (Leaf a) = refl
asks_over which index parts (Not f) = refl
asks_over which index parts (Binary op f g) = refl
asks_over which index parts (Exists n f) = refl
asks_over which index parts (Infinite n f) = refl

or_assoc : (a b c : Bool) → (a || b) || c ≡ a || (b || c)
or_assoc true b c = refl
or_assoc false b c = refl

or_none : (a : Bool) → a ≡ a || false
or_none true = refl
or_none false = refl

any_push : {A : Type 0} (P : A → Bool) (xs : List A) (x : A) → list_any P (xs ++ x ∷ []) ≡ list_any P xs || P x
any_push P [] x = sym (or_none (P x))
any_push P (y ∷ xs) x = ap (λ b. P y || b) (any_push P xs x) ∙ sym (or_assoc (P y) (list_any P xs) (P x))

any_behind : (which : Which) (index : ℕ) (parts : List Core) (rs : List Root) → list_any (asks which index) (cores_behind parts rs) ≡ list_any (asks which index) parts || list_any (root_asks which index) rs
any_behind which index parts [] = or_none (list_any (asks which index) parts)
any_behind which index parts (r ∷ rs) =
    let before = list_any (asks which index) parts in
    let rest = list_any (root_asks which index) rs in
    any_behind which index (parts ++ root_core parts r ∷ []) rs
    ∙ (ap (λ b. b || rest) (any_push (asks which index) parts (root_core parts r) ∙ ap (λ b. before || b) (asks_over which index parts r))
    ∙ or_assoc before (root_asks which index r) rest)

-- Result
pub some_part_asks : (which : Which) (index : ℕ) (rs : List Root) → list_any (asks which index) (cores_of rs) ≡ list_any (root_asks which index) rs
some_part_asks which index rs = any_behind which index [] rs

-- what an atom asks for, and what another formula does

pub asks_atom : (which : Which) (index : ℕ) (f : Core) (rel : Rel) (own x y : ℕ) → f ≡ core.Leaf (core.Related rel own x y) → asks which index f ≡ reads which rel && (own == index)
asks_atom which index f rel own x y is = ap (asks which index) is

pub asks_none : (which : Which) (index : ℕ) (f : Core) → ((rel : Rel) (own x y : ℕ) → f ≡ core.Leaf (core.Related rel own x y) → ⊥) → asks which index f ≡ false
asks_none which index (core.Leaf (core.Related rel own x y)) none = absurd (none rel own x y refl)
asks_none which index other none = refl
