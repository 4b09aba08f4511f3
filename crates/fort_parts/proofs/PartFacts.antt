-- What deciding asks of a formula holds of each part; a part has no more columns than a tuple may have.
use Rattle.std.specs.Prelude.{◌<◌, ◌≤◌, [], ◌∷◌, ◌++◌, ◌⊎◌, length, not, Contains}
use Rattle.std.specs.List.{range_with_len}
use Rattle.std.proofs.Common.{refl, ap, sym, subst, arith, inl, inr, ⊎_elim}
use Rattle.std.proofs.lemmas.Bool.{cases_lt}
use Rattle.std.proofs.lemmas.List.Elements.{Contains-append_cases, Contains-push_cases}
use Rattle.std.proofs.lemmas.List.FromFn.{length-range_with_len}
use Rattle.std.proofs.lemmas.List.Filters.{length-filter_both}
use Rattle.fort_theory.specs.Signatures.{most_columns}
use Rattle.fort_theory.specs.Patterns.{PatternSystem}
use Rattle.fort_theory.proofs.Members.{Contains-cons_cases, Contains-none}
use Rattle.fort_theory.specs.Cores.{Core, True, Leaf, Not, Binary, Exists, Infinite}
use Rattle.fort_theory.specs.Parts.{is_free, postorder, BindsFree, IsWellFormed, HasManyColumns, HasManyRootsIn, HasManyRootsAt, IsTooWide}
use Rattle.fort_parts.specs.PartColumns.{numbers_below, columns_of}
use Rattle.fort_parts.specs.DecidedCores.{IsOverSystem, IsOperandOf}
use Rattle.fort_parts.proofs.PartColumnLaws.{AreColumns-columns_of, columns_of-unique}

-- what holds of operands where it holds of their formula holds of each part
module _ (P : Core → Type 0) (step : (g h : Core) → IsOperandOf g h → P h → P g) where
  leaf : (z g : Core) → P z → Contains (z ∷ []) g → P g
  leaf z g p c = ⊎_elim (λ e. subst P e p) (λ none. absurd (Contains-none g none)) (Contains-cons_cases z [] g c)

  pub each_part : (f g : Core) → P f → Contains (postorder f) g → P g
  each_part True g p c = leaf True g p c
  each_part (Leaf a) g p c = leaf (Leaf a) g p c
  each_part (Not f) g p c = ⊎_elim (λ d. each_part f g (step f (Not f) refl p) d) (λ e. subst P e p) (Contains-push_cases (postorder f) (Not f) g c)
  each_part (Binary op f h) g p c =
      ⊎_elim (λ d. each_part f g (step f (Binary op f h) (inl refl) p) d)
      (λ d. ⊎_elim (λ e. each_part h g (step h (Binary op f h) (inr refl) p) e) (λ e. subst P e p) (Contains-push_cases (postorder h) (Binary op f h) g d))
      (Contains-append_cases (postorder f) (postorder h ++ Binary op f h ∷ []) g c)
  each_part (Exists n f) g p c = ⊎_elim (λ d. each_part f g (step f (Exists n f) refl p) d) (λ e. subst P e p) (Contains-push_cases (postorder f) (Exists n f) g c)
  each_part (Infinite n f) g p c = ⊎_elim (λ d. each_part f g (step f (Infinite n f) refl p) d) (λ e. subst P e p) (Contains-push_cases (postorder f) (Infinite n f) g c)

over-operand : (system : PatternSystem) (g h : Core) → IsOperandOf g h → IsOverSystem system h → IsOverSystem system g
over-operand system g True o p = absurd o
over-operand system g (Leaf a) o p = absurd o
over-operand system g (Not f) o p = subst (IsOverSystem system) (sym o) p
over-operand system g (Binary op f h) o p = ⊎_elim (λ e. subst (IsOverSystem system) (sym e) p.0) (λ e. subst (IsOverSystem system) (sym e) p.1) o
over-operand system g (Exists n f) o p = subst (IsOverSystem system) (sym o) p
over-operand system g (Infinite n f) o p = subst (IsOverSystem system) (sym o) p

binds-operand : (g h : Core) → IsOperandOf g h → BindsFree h → BindsFree g
binds-operand g True o p = absurd o
binds-operand g (Leaf a) o p = absurd o
binds-operand g (Not f) o p = subst BindsFree (sym o) p
binds-operand g (Binary op f h) o p = ⊎_elim (λ e. subst BindsFree (sym e) p.0) (λ e. subst BindsFree (sym e) p.1) o
binds-operand g (Exists n f) o p = subst BindsFree (sym o) p.1
binds-operand g (Infinite n f) o p = subst BindsFree (sym o) p.1

-- Results: what deciding asks holds of each part
pub IsOverSystem-part : (system : PatternSystem) (f g : Core) → IsOverSystem system f → Contains (postorder f) g → IsOverSystem system g
IsOverSystem-part system f g = each_part (IsOverSystem system) (over-operand system) f g

pub BindsFree-part : (f g : Core) → BindsFree f → Contains (postorder f) g → BindsFree g
BindsFree-part f g = each_part BindsFree binds-operand f g

-- Result: a part is no wider than a tuple
pub columns_of-few : (f g : Core) → IsWellFormed f → Contains (postorder f) g → length (columns_of g) ≤ most_columns
columns_of-few f g is among =
    ⊎_elim
    (λ (l : most_columns < length (columns_of g)).
    absurd (is.narrow (record {
      part = g;
      among = among;
      wide = inl (record { columns = columns_of g; are_columns = AreColumns-columns_of g; many = l });
    })))
    (λ (l : length (columns_of g) ≤ most_columns). l)
    (cases_lt most_columns (length (columns_of g)))

numbers-operand : (g h : Core) → IsOperandOf g h → numbers_below g ≤ numbers_below h
numbers-operand g True o = absurd o
numbers-operand g (Leaf a) o = absurd o
numbers-operand g (Not f) o = let e = ap numbers_below o in omega arith
numbers-operand g (Binary op f h) o = ⊎_elim (λ s. let e = ap numbers_below s in omega arith) (λ s. let e = ap numbers_below s in omega arith) o
numbers-operand g (Exists n f) o = let e = ap numbers_below o in omega arith
numbers-operand g (Infinite n f) o = let e = ap numbers_below o in omega arith

-- none of its atoms is too long
abbrev pub HasFewRoots : Core → Type 0
HasFewRoots True = Unit {0}
HasFewRoots (Leaf a) = HasManyRootsIn a → ⊥
HasFewRoots (Not f) = HasFewRoots f
HasFewRoots (Binary op f g) = HasFewRoots f × HasFewRoots g
HasFewRoots (Exists n f) = HasFewRoots f
HasFewRoots (Infinite n f) = HasFewRoots f

short-operand : (g h : Core) → IsOperandOf g h → HasFewRoots h → HasFewRoots g
short-operand g True o p = absurd o
short-operand g (Leaf a) o p = absurd o
short-operand g (Not f) o p = subst HasFewRoots (sym o) p
short-operand g (Binary op f h) o p = ⊎_elim (λ e. subst HasFewRoots (sym e) p.0) (λ e. subst HasFewRoots (sym e) p.1) o
short-operand g (Exists n f) o p = subst HasFewRoots (sym o) p
short-operand g (Infinite n f) o p = subst HasFewRoots (sym o) p

not_long : (g : Core) → HasFewRoots g → HasManyRootsAt g → ⊥
not_long True p l = l
not_long (Leaf a) p l = p l
not_long (Not f) p l = l
not_long (Binary op f g) p l = l
not_long (Exists n f) p l = l
not_long (Infinite n f) p l = l

-- Result: a formula of few numbers has few columns in each part
pub IsWellFormed-few : (f : Core) → BindsFree f → HasFewRoots f → numbers_below f ≤ most_columns → IsWellFormed f
IsWellFormed-few f binds short few = record { binders = binds; narrow = λ wide. not_wide wide wide.wide }
  where
    narrow_part : (g : Core) → Contains (postorder f) g → HasManyColumns g → ⊥
    narrow_part g among many =
        let low : numbers_below g ≤ most_columns =
        each_part (λ h. numbers_below h ≤ most_columns) (λ h k o p. let l = numbers-operand h k o in omega arith) f g few among in
        let same = ap length (columns_of-unique g many.columns many.are_columns) in
        let some = length-filter_both (λ n. is_free n g) (λ n. not (is_free n g)) (λ n. refl) (range_with_len 0 (numbers_below g)) in
        let count = length-range_with_len 0 (numbers_below g) in
        omega (arith, many.many)

    not_wide : (wide : IsTooWide f) → HasManyColumns wide.part ⊎ HasManyRootsAt wide.part → ⊥
    not_wide wide (inl many) = narrow_part wide.part wide.among many
    not_wide wide (inr long) = not_long wide.part (each_part HasFewRoots short-operand f wide.part short wide.among) long
