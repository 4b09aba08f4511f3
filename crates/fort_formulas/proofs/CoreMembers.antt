-- What the test for a core formula among others answers, said of the definitions' formulas; and a list of them that grows by one.
use Rattle.std.proofs.Common.{◌≡◌, suc, Bool, true, false, ◌||◌, if◌then◌else◌, List, [], ◌∷◌, ◌++◌, map, Contains, refl, ap, sym, ◌∙◌, arith, subst, true≢false}
use Rattle.std.specs.List.{list_any}
use Rattle.std.specs.Ordering.{on}
use Rattle.std.proofs.lemmas.List.{map-append}
use Rattle.std.proofs.lemmas.Map.Views.{list_any-from_Contains}
use Rattle.fort_theory.specs.Cores as theory
use Rattle.fort_theory.specs.EachOnce.{AreEachOnce}
use Rattle.fort_theory.proofs.EachOnceLaws.{AreEachOnce-there, AreEachOnce-new}
use Rattle.fort_theory.proofs.Lists.{Contains-map_from}
use Rattle.fort_formulas.specs.declared.core_formula.Core.{Core}
use Rattle.fort_formulas.specs.CoreView.{as_core}
use Rattle.fort_formulas.specs.CoreKeys.{core_spelled, same_marks}
use Rattle.fort_formulas.specs.CoreKeyLaws.{Core_eq-Decides, Core_eq-equiv, as_core-injective}

abbrev pub is_key : Core → Core → Bool
is_key = on core_spelled same_marks

-- where a key is found, the formula is there
pub among : (cs : List Core) (c : Core) → list_any (is_key c) cs ≡ true → Contains (map as_core cs) (as_core c)
among [] c h = absurd (true≢false (sym h))
among (d ∷ cs) c h = by (is_key c d) refl (λ rest. among cs c rest)
  where
    by : (b : Bool) → is_key c d ≡ b → (list_any (is_key c) cs ≡ true → Contains (map as_core cs) (as_core c)) → Contains (map as_core (d ∷ cs)) (as_core c)
    by true e inner = (0, omega arith, ap as_core (sym ((Core_eq-Decides c d).0 e)))
    by false e inner =
        let r = inner (sym (ap (λ b. b || list_any (is_key c) cs) e) ∙ h) in
        (suc r.0, omega (arith, r.1), r.2)

-- and where none is, it isn't
pub not_among : (cs : List Core) (c : Core) → list_any (is_key c) cs ≡ false → Contains (map as_core cs) (as_core c) → ⊥
not_among cs c none there =
    let p = Contains-map_from as_core cs (as_core c) there in
    let found = subst (λ (d : Core). Contains cs d) (as_core-injective p.0 c p.2) p.1 in
    true≢false (sym (list_any-from_Contains Core_eq-equiv c cs found) ∙ none)

-- Result: the list has each formula once, where one that isn't there is put behind the others
pub pushed_once : (before : List theory.Core) (cs new : List Core) (c v : Core) → v ≡ c → list_any (is_key c) cs ≡ false
    → new ≡ (if list_any (is_key v) cs then cs else cs ++ v ∷ []) → AreEachOnce before (map as_core cs) → AreEachOnce (before ++ as_core c ∷ []) (map as_core new)
pushed_once before cs new c v v_is none is once =
    let longer : new ≡ cs ++ c ∷ [] =
    is ∙ (ap (λ d. if list_any (is_key d) cs then cs else cs ++ d ∷ []) v_is ∙ ap (λ b. if b then cs else cs ++ c ∷ []) none) in
    let whole : map as_core cs ++ as_core c ∷ [] ≡ map as_core new = sym (ap (map as_core) longer ∙ map-append as_core cs (c ∷ [])) in
    subst (AreEachOnce (before ++ as_core c ∷ [])) whole (AreEachOnce-new before (map as_core cs) (as_core c) once (not_among cs c none))

-- and where one that is there isn't put
pub there_once : (before : List theory.Core) (cs : List Core) (c : Core) → list_any (is_key c) cs ≡ true → AreEachOnce before (map as_core cs) → AreEachOnce (before ++ as_core c ∷ []) (map as_core cs)
there_once before cs c there once = AreEachOnce-there before (map as_core cs) (as_core c) once (among cs c there)
