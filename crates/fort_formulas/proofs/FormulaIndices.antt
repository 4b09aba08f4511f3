-- The indices of a formula of the program, by its shape, and a search for the first one over two operands or a list.
use Rattle.std.proofs.Common.{◌≡◌, ℕ, Bool, true, false, sym, List, ◌∷◌, [], ◌++◌, ◌⊎◌, inl, inr, refl, Option, None, Some, IfSome, IfNone}
use Rattle.std.specs.Prelude.{ltb, if◌then◌else◌}
use Rattle.std.proofs.lemmas.Bool.{ltb-true, ltb-false}
use Rattle.std.proofs.lemmas.Option.{IfSome_then}
use Rattle.fort_relations.specs.FirstAbove.{first_above}
use Rattle.fort_logic.specs.Formulas as theory
use Rattle.fort_logic.specs.Mentions.{indices, AreWithin, IsFirstAbove}
use Rattle.fort_logic.proofs.MentionLaws.{AreWithin-nil, AreWithin-one, AreWithin-append, IsFirstAbove-left, IsFirstAbove-right}
use Rattle.fort_formulas.specs.declared.surface.SurfaceRel.{SurfaceRel}
use Rattle.fort_formulas.specs.declared.surface.Macro as property
use Rattle.fort_formulas.specs.declared.surface.Arg.{Arg}
use Rattle.fort_formulas.specs.declared.surface.Formula.{Formula}
use Rattle.fort_formulas.specs.declared.surface.Formula.TheVariants.{Rel, Nf, Join, Sn, Macro, Not, And, Or, Imp, Iff, Exists, Forall, Infinite}
use Rattle.fort_formulas.specs.FormulaView.{as_formula}

pub indices-atom : (c : Formula) (index : ℕ)
    → ((rel : SurfaceRel) × (a : Arg) × (b : Arg) × (c ≡ Rel rel a b index))
    ⊎ (((a : Arg) × (c ≡ Nf a index)) ⊎ (((a : Arg) × (b : Arg) × (c ≡ Join a b index))
    ⊎ (((a : Option Arg) × (c ≡ Sn a index)) ⊎ ((m : property.Macro) × (c ≡ Macro m index)))))
    → indices (as_formula c) ≡ index ∷ []
indices-atom c index (inl (rel, a, b, e)) = rw e refl
indices-atom c index (inr (inl (a, e))) = rw e refl
indices-atom c index (inr (inr (inl (a, b, e)))) = rw e refl
indices-atom c index (inr (inr (inr (inl (a, e))))) = rw e refl
indices-atom c index (inr (inr (inr (inr (m, e))))) = rw e refl

pub indices-one : (c : Formula) (f : theory.Formula)
    → (c ≡ Not f) ⊎ (((x : theory.Name) × (c ≡ Exists x f)) ⊎ (((x : theory.Name) × (c ≡ Forall x f)) ⊎ ((x : theory.Name) × (c ≡ Infinite x f))))
    → indices (as_formula c) ≡ indices f
indices-one c f (inl e) = rw e refl
indices-one c f (inr (inl (x, e))) = rw e refl
indices-one c f (inr (inr (inl (x, e)))) = rw e refl
indices-one c f (inr (inr (inr (x, e)))) = rw e refl

pub indices-two : (c : Formula) (f g : theory.Formula) → (c ≡ And f g) ⊎ ((c ≡ Or f g) ⊎ ((c ≡ Imp f g) ⊎ (c ≡ Iff f g)))
    → indices (as_formula c) ≡ indices f ++ indices g
indices-two c f g (inl e) = rw e refl
indices-two c f g (inr (inl e)) = rw e refl
indices-two c f g (inr (inr (inl e))) = rw e refl
indices-two c f g (inr (inr (inr e))) = rw e refl

pub first-left : (bound : ℕ) (xs ys : List ℕ) (found : Option ℕ) → IfSome found (IsFirstAbove bound xs) → IfSome found (IsFirstAbove bound (xs ++ ys))
first-left bound xs ys found h = IfSome_then found h (λ x first. IsFirstAbove-left bound xs ys x first)

pub first-right : (bound : ℕ) (xs ys : List ℕ) (found : Option ℕ) → AreWithin bound xs → IfSome found (IsFirstAbove bound ys)
    → IfSome found (IsFirstAbove bound (xs ++ ys))
first-right bound xs ys found none h = IfSome_then found h (λ x first. IsFirstAbove-right bound xs ys x none first)

pub within-both : (bound : ℕ) (xs ys : List ℕ) (found : Option ℕ) → AreWithin bound xs → IfNone found (AreWithin bound ys)
    → IfNone found (AreWithin bound (xs ++ ys))
within-both bound xs ys None none h = AreWithin-append bound xs ys none h
within-both bound xs ys (Some x) none h = h

-- what is first above a bound in a list
pub first_above-is : (bound : ℕ) (xs : List ℕ) → IfSome (first_above bound xs) (IsFirstAbove bound xs)
first_above-is bound [] = tt
first_above-is bound (x ∷ xs) = by (ltb bound x) refl (first_above-is bound xs)
  where
    by : (above : Bool) → above ≡ ltb bound x → IfSome (first_above bound xs) (IsFirstAbove bound xs)
        → IfSome (if above then Some x else first_above bound xs) (IsFirstAbove bound (x ∷ xs))
    by true e rest = record { front = []; back = xs; split = refl; within = AreWithin-nil bound; above = ltb-true bound x (sym e) }
    by false e rest = first-right bound (x ∷ []) xs (first_above bound xs) (AreWithin-one bound x (ltb-false bound x (sym e))) rest

pub first_above-within : (bound : ℕ) (xs : List ℕ) → IfNone (first_above bound xs) (AreWithin bound xs)
first_above-within bound [] = AreWithin-nil bound
first_above-within bound (x ∷ xs) = by (ltb bound x) refl (first_above-within bound xs)
  where
    by : (above : Bool) → above ≡ ltb bound x → IfNone (first_above bound xs) (AreWithin bound xs)
        → IfNone (if above then Some x else first_above bound xs) (AreWithin bound (x ∷ xs))
    by true e rest = tt
    by false e rest = within-both bound (x ∷ []) xs (first_above bound xs) (AreWithin-one bound x (ltb-false bound x (sym e))) rest
