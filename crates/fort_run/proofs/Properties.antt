-- A property of the rules of index 1 is ready to be decided over every system.
use Rattle.std.proofs.Common.{◌≡◌, ◌≤◌, [], length, refl, sym, subst, arith, ⊎_elim, true≢false}
use Rattle.std.specs.Prelude.{Bool, true, false, ◌&&◌, nat_le}
use Rattle.std.proofs.lemmas.Bool.{leb-true}
use Rattle.std.proofs.lemmas.List.Elements.{All-nil}
use Rattle.fort_theory.specs.Signatures.{IsGround, most_columns}
use Rattle.fort_theory.specs.Sides.{IsIndexOf}
use Rattle.fort_theory.specs.Patterns.{PatternSystem}
use Rattle.fort_theory.proofs.Members.{Contains-none, Contains-cons_cases}
use Rattle.fort_theory.specs.RightGround.{HasRightGroundPairsAt}
use Rattle.fort_theory.specs.Cores.{Atom, Related, InContext, Normal, IsTerm, Core, True, Leaf, Not, Binary, Exists, Infinite}
use Rattle.fort_logic.specs.Formulas.{Property, Cr, Wcr, Scr, Wn, Unr, Unc, Nfp, Has}
use Rattle.fort_logic.specs.Translation.{core_of, IsFormulaTooWide}
use Rattle.fort_logic.proofs.FreeNumbers.{core_of-binds_free}
use Rattle.fort_logic.proofs.TerminationMentions.{AreAll-nil}
use Rattle.fort_parts.specs.PartColumns.{numbers_below}
use Rattle.fort_parts.proofs.PartFacts.{HasFewRoots, IsWellFormed-few}
use Rattle.fort_run.specs.Ready.{IsReady}

-- no atom is by an expression
abbrev is_plain : Atom → Bool
is_plain (Related rel index x y) = true
is_plain (InContext e number place x y) = false
is_plain (Normal index x) = true
is_plain (IsTerm x t) = true

abbrev are_plain : Core → Bool
are_plain True = true
are_plain (Leaf a) = is_plain a
are_plain (Not f) = are_plain f
are_plain (Binary op f g) = are_plain f && are_plain g
are_plain (Exists n f) = are_plain f
are_plain (Infinite n f) = are_plain f

both : (a b : Bool) → (a && b) ≡ true → (a ≡ true) × (b ≡ true)
both true true e = (refl, refl)
both true false e = absurd (true≢false (sym e))
both false b e = absurd (true≢false (sym e))

short_atoms : (f : Core) → are_plain f ≡ true → HasFewRoots f
short_atoms True e = tt
short_atoms (Leaf (Related rel index x y)) e = λ l. l
short_atoms (Leaf (InContext d number place x y)) e = absurd (true≢false (sym e))
short_atoms (Leaf (Normal index x)) e = λ l. l
short_atoms (Leaf (IsTerm x t)) e = λ l. l
short_atoms (Not f) e = short_atoms f e
short_atoms (Binary op f g) e = let b = both (are_plain f) (are_plain g) e in (short_atoms f b.0, short_atoms g b.1)
short_atoms (Exists n f) e = short_atoms f e
short_atoms (Infinite n f) e = short_atoms f e

narrow : (p : Property) → are_plain (core_of [] (Has p 1)) ≡ true → nat_le (numbers_below (core_of [] (Has p 1))) most_columns ≡ true
    → IsFormulaTooWide (Has p 1) → ⊥
narrow p plain few =
    let f = core_of [] (Has p 1) in
    (IsWellFormed-few f (core_of-binds_free [] (Has p 1)) (short_atoms f plain) (leb-true (numbers_below f) most_columns few)).narrow

property_narrow : (p : Property) → IsFormulaTooWide (Has p 1) → ⊥
property_narrow Cr = narrow Cr refl refl
property_narrow Wcr = narrow Wcr refl refl
property_narrow Scr = narrow Scr refl refl
property_narrow Wn = narrow Wn refl refl
property_narrow Unr = narrow Unr refl refl
property_narrow Unc = narrow Unc refl refl
property_narrow Nfp = narrow Nfp refl refl

pub property_ready : (p : Property) (system : PatternSystem) → 1 ≤ length system.rules → IsReady (Has p 1) system []
property_ready p system some = record {
  small = omega arith;
  narrow = property_narrow p;
  few = λ e. absurd (true≢false (sym e));
  has_terms = λ k c. absurd (Contains-none k c);
  grounded = All-nil (IsGround system.signature);
  within =
      λ index c. ⊎_elim (λ is. subst (IsIndexOf system.rules) is (record { low = omega arith; high = some })) (λ none. absurd (Contains-none index none))
      (Contains-cons_cases 1 [] index c);
  right_ground = AreAll-nil (HasRightGroundPairsAt system);
}
