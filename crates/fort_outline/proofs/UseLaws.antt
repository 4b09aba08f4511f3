-- The last use of a part, by its number among the operands of roots.
use Rattle.std.specs.Prelude.{◌≡◌, ◌+◌, ◌<◌, ◌≤◌, ◌⊎◌, ◌||◌, ◌==◌, ℕ, Bool, true, false, List, ◌++◌, take, drop, set, get_or, length, if◌then◌else◌, refl}
use Rattle.std.proofs.Common.{ap, sym, ◌∙◌, subst, arith, ⊎_elim, inl, inr, true≢false, eq-eqb}
use Rattle.std.proofs.lemmas.Bool.{cases_eq, eqb-true}
use Rattle.std.proofs.lemmas.List.{get_or-set_same, get_or-set_other, length-set, take-append-le, take_all}
use Rattle.fort_theory.specs.Cores as core
use Rattle.fort_theory.specs.Cores.{Core}
use Rattle.fort_parts.specs.DecidedCores.{IsOperandOf}
use Rattle.fort_outline.specs.declared.root.Root.{Root}
use Rattle.fort_outline.specs.declared.root.Root.TheVariants.{True, Leaf, Not, Binary, Exists, Infinite}
use Rattle.fort_outline.specs.Roots.{root_core, cores_of, HasOperandsBelow, AreInOrder, is_operand}
use Rattle.fort_outline.specs.Numbered.{AreDistinct}
use Rattle.fort_outline.specs.Outlines.{IsLastUse, IsUseOf, AreLastUses}
use Rattle.fort_outline.proofs.RootLaws.{part_at, length-cores_of}

own : (f : ℕ) → (f == f) ≡ true
own f = eq-eqb f f refl

first : (f g : ℕ) → ((f == f) || (g == f)) ≡ true
first f g = ap (λ b. b || (g == f)) (own f)

second : (f g : ℕ) → ((f == g) || (g == g)) ≡ true
second f g = by (f == g) (own g)
  where
    by : (b : Bool) → (g == g) ≡ true → (b || (g == g)) ≡ true
    by true e = refl
    by false e = e

-- an operand of a root's formula is the part of an operand's number
pub operand_number : (parts : List Core) (k : ℕ) (root : Root) (g : Core) → HasOperandsBelow k root → IsOperandOf g (root_core parts root)
    → (f : ℕ) × (f < k) × (is_operand f root ≡ true) × (g ≡ get_or parts f core.True)
operand_number parts k True g over o = absurd o
operand_number parts k (Leaf a) g over o = absurd o
operand_number parts k (Not f) g over o = (f, over, own f, o)
operand_number parts k (Binary op f h) g over o = ⊎_elim (λ e. (f, over.0, first f h, e)) (λ e. (h, over.1, second f h, e)) o
operand_number parts k (Exists n f) g over o = (f, over, own f, o)
operand_number parts k (Infinite n f) g over o = (f, over, own f, o)

-- a part by the number of an operand of a root is an operand of its formula
one_of : (parts : List Core) (j f : ℕ) → (f == j) ≡ true → get_or parts j core.True ≡ get_or parts f core.True
one_of parts j f e = ap (λ n. get_or parts n core.True) (sym (eqb-true f j e))

two_of : (parts : List Core) (j f g : ℕ) → ((f == j) || (g == j)) ≡ true
    → (get_or parts j core.True ≡ get_or parts f core.True) ⊎ (get_or parts j core.True ≡ get_or parts g core.True)
two_of parts j f g e = by (f == j) refl e
  where
    by : (b : Bool) → (f == j) ≡ b → (b || (g == j)) ≡ true
        → (get_or parts j core.True ≡ get_or parts f core.True) ⊎ (get_or parts j core.True ≡ get_or parts g core.True)
    by true is d = inl (one_of parts j f is)
    by false is d = inr (one_of parts j g d)

operand_there : (parts : List Core) (j : ℕ) (root : Root) → is_operand j root ≡ true → IsOperandOf (get_or parts j core.True) (root_core parts root)
operand_there parts j True e = absurd (true≢false (sym e))
operand_there parts j (Leaf a) e = absurd (true≢false (sym e))
operand_there parts j (Not f) e = one_of parts j f e
operand_there parts j (Binary op f g) e = two_of parts j f g e
operand_there parts j (Exists n f) e = one_of parts j f e
operand_there parts j (Infinite n f) e = one_of parts j f e

-- each use is by one of the first k roots, or 0
abbrev pub IsNotedAt : List Root → ℕ → ℕ → ℕ → Type 0
IsNotedAt roots k j last = (last ≡ 0) ⊎ ((last < k) × (is_operand j (get_or roots last True) ≡ true))

abbrev pub AreUsed : List Root → List ℕ → ℕ → Type 0
AreUsed roots uses k = (j : ℕ) → j < length uses → IsNotedAt roots k j (get_or uses j 0)

pub used_more : (roots : List Root) (root : Root) (old new : List ℕ) (k j : ℕ) → get_or roots k True ≡ root → IsNotedAt roots k j (get_or old j 0)
    → get_or new j 0 ≡ (if is_operand j root then k else get_or old j 0) → IsNotedAt roots (k + 1) j (get_or new j 0)
used_more roots root old new k j is before e = by (is_operand j root) refl e
  where
    by : (b : Bool) → is_operand j root ≡ b → get_or new j 0 ≡ (if b then k else get_or old j 0) → IsNotedAt roots (k + 1) j (get_or new j 0)
    by true used d =
        let here : is_operand j (get_or roots k True) ≡ true = ap (is_operand j) is ∙ used in
        let low : k < k + 1 = omega arith in
        subst (IsNotedAt roots (k + 1) j) (sym d) (inr (low, here))
    by false used d =
        subst (IsNotedAt roots (k + 1) j) (sym d) (⊎_elim (λ none. inl none) (λ there. let low : get_or old j 0 < k + 1 = omega (arith, there.0) in inr (low, there.1)) before)

-- the uses that are noted of the first k roots
abbrev pub AreNoted : List Root → List ℕ → ℕ → Type 0
AreNoted roots uses k = (j i : ℕ) → j < length uses → i < k → is_operand j (get_or roots i True) ≡ true → i ≤ get_or uses j 0

pub noted_more : (roots : List Root) (root : Root) (old new : List ℕ) (k : ℕ) → length new ≡ length old → get_or roots k True ≡ root → AreNoted roots old k
    → ((j : ℕ) → j < length old → get_or old j 0 ≤ k)
    → ((j : ℕ) → j < length old → get_or new j 0 ≡ (if is_operand j root then k else get_or old j 0)) → AreNoted roots new (k + 1)
noted_more roots root old new k count is before low each j i l m o =
    ⊎_elim
    (λ (e : i ≡ k).
    let used : is_operand j root ≡ true = ap (is_operand j) (sym (ap (λ n. get_or roots n True) e ∙ is)) ∙ o in
    let at : get_or new j 0 ≡ k = each j (omega arith) ∙ ap (λ b. if b then k else get_or old j 0) used in
    omega arith)
    (λ (other : i ≡ k → ⊥).
    let kept = before j i (omega arith) (omega arith) o in
    let most = low j (omega arith) in
    by (is_operand j root) (each j (omega arith)) kept most)
    (cases_eq i k)
  where
    by : (b : Bool) → get_or new j 0 ≡ (if b then k else get_or old j 0) → i ≤ get_or old j 0 → get_or old j 0 ≤ k → i ≤ get_or new j 0
    by true e kept most = omega arith
    by false e kept most = omega arith

pub low_more : (root : Root) (old new : List ℕ) (k j : ℕ) → get_or old j 0 ≤ k → get_or new j 0 ≡ (if is_operand j root then k else get_or old j 0) → get_or new j 0 ≤ k + 1
low_more root old new k j low e = by (is_operand j root) e
  where
    by : (b : Bool) → get_or new j 0 ≡ (if b then k else get_or old j 0) → get_or new j 0 ≤ k + 1
    by true d = omega arith
    by false d = omega arith

pub last_use : (roots : List Root) (uses : List ℕ) → AreInOrder roots → AreDistinct (cores_of roots) → length uses ≡ length roots → AreNoted roots uses (length roots)
    → (j : ℕ) → j < length roots → IsLastUse (cores_of roots) j (get_or uses j 0)
last_use roots uses order apart count noted j l i m o =
    let parts = cores_of roots in
    let within : i < length roots = omega (arith, length-cores_of roots) in
    let is = part_at roots order i within in
    let p = operand_number parts i (get_or roots i True) (get_or parts j core.True) (order i within) (subst (IsOperandOf (get_or parts j core.True)) is o) in
    let same : j ≡ p.0 = apart j p.0 (omega (arith, length-cores_of roots)) (omega (arith, length-cores_of roots, p.1)) p.3 in
    noted j i (omega arith) within (ap (λ n. is_operand n (get_or roots i True)) same ∙ p.2)

-- a noted use is one, or 0
pub is_used : (roots : List Root) (last j : ℕ) → AreInOrder roots → IsNotedAt roots (length roots) j last → IsUseOf (cores_of roots) j last
is_used roots last j order noted =
    ⊎_elim (λ none. inl none)
    (λ there. inr (subst (IsOperandOf (get_or (cores_of roots) j core.True)) (sym (part_at roots order last there.0)) (operand_there (cores_of roots) j (get_or roots last True) there.1)))
    noted

-- the whole formula is needed to the end
pub last_uses : (roots : List Root) (uses : List ℕ) (whole : ℕ) → AreInOrder roots → AreDistinct (cores_of roots) → length uses ≡ length roots
    → AreNoted roots uses (length roots) → AreUsed roots uses (length roots) → whole < length roots → AreLastUses (cores_of roots) whole (set uses whole (length roots))
last_uses roots uses whole order apart count noted used l = record {
  count = length-set uses whole (length roots) ∙ (count ∙ sym (length-cores_of roots));
  each =
      λ j m.
      let within : j < length roots = omega (arith, length-cores_of roots) in
      ⊎_elim
      (λ (e : j ≡ whole).
      let at : get_or (set uses whole (length roots)) j 0 ≡ length roots =
      ap (λ i. get_or (set uses whole (length roots)) i 0) e ∙ get_or-set_same uses whole (length roots) 0 (omega arith) in
      λ i k o. omega (arith, length-cores_of roots))
      (λ (other : j ≡ whole → ⊥).
      let kept : get_or (set uses whole (length roots)) j 0 ≡ get_or uses j 0 = get_or-set_other uses whole j (length roots) 0 other in
      λ i k o. let low = last_use roots uses order apart count noted j within i k o in omega arith)
      (cases_eq j whole);
  exact =
      λ j m other.
      let within : j < length uses = omega (arith, length-cores_of roots) in
      subst (IsUseOf (cores_of roots) j) (sym (get_or-set_other uses whole j (length roots) 0 other)) (is_used roots (get_or uses j 0) j order (used j within));
  whole_is =
      let at : get_or (set uses whole (length roots)) whole 0 ≡ length roots = get_or-set_same uses whole (length roots) 0 (omega arith) in
      omega (arith, length-cores_of roots);
}

-- a list that was lent whole
pub lent_whole : (n : ℕ) (xs items : List ℕ) → length xs ≡ n → take n (xs ++ drop (length xs) items) ≡ xs
lent_whole n xs items l = take-append-le n xs (drop (length xs) items) (omega arith) ∙ take_all n xs (omega arith)
