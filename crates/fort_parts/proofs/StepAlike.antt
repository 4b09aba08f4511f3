-- Each step keeps likeness: two tuples have one label exactly where they are alike, by any likeness at the operands; a part is over the cap exactly where there are more labels.
use Rattle.std.specs.Prelude.{◌≡◌, ◌↔◌, ℕ, ◌+◌, ◌-◌, ◌<◌, ◌||◌, List, length, Bool, refl}
use Rattle.std.proofs.Common.{ap, sym, subst, arith}
use Rattle.fort_theory.specs.Signatures.{Signature}
use Rattle.fort_theory.specs.Patterns.{PatternSystem}
use Rattle.fort_theory.specs.Cores as core
use Rattle.fort_theory.specs.Cores.{Core}
use Rattle.fort_theory.specs.Parts.{is_free}
use Rattle.fort_tables.specs.Tuples.{Tuple, IsTuple}
use Rattle.fort_tables.specs.Tables.{Table}
use Rattle.fort_tables.specs.Labels.{Labelling, HasMoreLabels, IsTableOf}
use Rattle.fort_tables.specs.LabelRules.{label_of}
use Rattle.fort_alike.proofs.OverLabels.{HasMoreLabels-IsOver}
use Rattle.fort_tables.specs.Products as products
use Rattle.fort_tables.specs.Products.{Operand, product_rule}
use Rattle.fort_tables.specs.Projections.{project_rule}
use Rattle.fort_tables.specs.Agreement.{Agreement, TellsAgreement, AgreeAtBoth, AgreeAtSome}
use Rattle.fort_tables.proofs.AgreementLaws.{TellsAtOperand, both_alike, project_alike}
use Rattle.fort_tables.specs.ManyLabels.{TellsMany, many_rule}
use Rattle.fort_tables.specs.ManyAgreement.{AgreeAtMany}
use Rattle.fort_tables.proofs.ManyAgreementLaws.{many_alike}
use Rattle.fort_parts.specs.PartColumns.{columns_of, place_in, places_in}
use Rattle.fort_parts.specs.AlikeParts.{IsOverBy}
use Rattle.fort_parts.specs.PartAnswers.{Answer, OfValue, OfTable, IsTableOver, FitsColumns}
use Rattle.fort_parts.specs.PartSteps.{operand_of}
use Rattle.fort_parts.specs.PartLabels.{LabelsTell, Tells}
use Rattle.fort_parts.proofs.PartColumnLaws.{first_within, second_within}
use Rattle.fort_parts.proofs.StepTables.{IsOperand-answer}

tells-operand : (like : Agreement) (places : List ℕ) (a : Answer) → Tells like a → TellsAtOperand (operand_of a places) like
tells-operand like places (OfValue b) tells = tt
tells-operand like places (OfTable table) tells = tells

places_of-operand : (sig : Signature) (xs zs : List ℕ) (a : Answer) → FitsColumns sig xs a → products.places_of (operand_of a (places_in zs xs)) ≡ places_in zs xs
places_of-operand sig xs zs (OfValue b) fits = ap (places_in zs) (sym fits)
places_of-operand sig xs zs (OfTable table) fits = refl

-- a formula with two operands, by any likeness at these
module _ (system : PatternSystem) (h f g : Core) (like_f like_g : Agreement) (first second : Answer) (tells : (n : ℕ) → is_free n h ≡ (is_free n f || is_free n g))
    (first_fits : FitsColumns system.signature (columns_of f) first) (second_fits : FitsColumns system.signature (columns_of g) second)
    (first_tells : Tells like_f first) (second_tells : Tells like_g second) where
  pub product_tells : (t u : Tuple) → IsTuple system.signature (length (columns_of h)) t → IsTuple system.signature (length (columns_of h)) u
      → (label_of (product_rule (length (columns_of h)) (operand_of first (places_in (columns_of h) (columns_of f))) (operand_of second (places_in (columns_of h) (columns_of g)))) t
      ≡ label_of (product_rule (length (columns_of h)) (operand_of first (places_in (columns_of h) (columns_of f))) (operand_of second (places_in (columns_of h) (columns_of g)))) u)
      ↔ AgreeAtBoth (places_in (columns_of h) (columns_of f)) like_f (places_in (columns_of h) (columns_of g)) like_g t u
  product_tells t u is also =
      let zs = columns_of h in
      let one = operand_of first (places_in zs (columns_of f)) in
      let other = operand_of second (places_in zs (columns_of g)) in
      let w =
      both_alike system.signature (length zs) one other like_f like_g
      (IsOperand-answer system.signature (columns_of f) zs first (first_within h f g tells) first_fits)
      (IsOperand-answer system.signature (columns_of g) zs second (second_within h f g tells) second_fits)
      (tells-operand like_f (places_in zs (columns_of f)) first first_tells) (tells-operand like_g (places_in zs (columns_of g)) second second_tells) t u is also in
      subst (λ ps. (label_of (product_rule (length zs) one other) t ≡ label_of (product_rule (length zs) one other) u)
      ↔ AgreeAtBoth ps like_f (places_in zs (columns_of g)) like_g t u) (places_of-operand system.signature (columns_of f) zs first first_fits)
      (subst (λ ps. (label_of (product_rule (length zs) one other) t ≡ label_of (product_rule (length zs) one other) u)
      ↔ AgreeAtBoth (products.places_of one) like_f ps like_g t u) (places_of-operand system.signature (columns_of g) zs second second_fits) w)

-- a column of the body beside others, by any likeness at the body
pub project_tells : (system : PatternSystem) (n : ℕ) (f : Core) (like : Agreement) (body : Table) → IsTableOver system.signature (columns_of f) body
    → place_in (columns_of f) n < length (columns_of f) → length (columns_of (core.Exists n f)) + 1 ≡ length (columns_of f) → TellsAgreement body like
    → LabelsTell system (core.Exists n f) (AgreeAtSome system.signature (place_in (columns_of f) n) like) (label_of (project_rule body (place_in (columns_of f) n)))
project_tells system n f like body over low count tells t u is also =
    let c = place_in (columns_of f) n in
    let own : length (columns_of (core.Exists n f)) ≡ body.columns - 1 = omega (arith, over.columns_are) in
    let moved : (s : Tuple) → IsTuple system.signature (length (columns_of (core.Exists n f))) s → IsTuple body.signature (body.columns - 1) s =
    λ s h. subst (λ z. IsTuple z (body.columns - 1) s) (sym over.signature) (subst (λ k. IsTuple system.signature k s) own h) in
    subst (λ z. (label_of (project_rule body c) t ≡ label_of (project_rule body c) u) ↔ AgreeAtSome z c like t u) over.signature
    (project_alike body c like over.lawful over.reached (omega (arith, over.columns_are)) tells t u (moved t is) (moved u also))

-- the same for "infinitely many", with what is known of the counts
pub many_tells : (system : PatternSystem) (n : ℕ) (f : Core) (like : Agreement) (body : Table) (many : ℕ → Bool) → IsTableOver system.signature (columns_of f) body
    → TellsMany body (place_in (columns_of f) n) many → place_in (columns_of f) n < length (columns_of f)
    → length (columns_of (core.Infinite n f)) + 1 ≡ length (columns_of f) → TellsAgreement body like
    → LabelsTell system (core.Infinite n f) (AgreeAtMany system.signature (place_in (columns_of f) n) like) (label_of (many_rule body (place_in (columns_of f) n) many))
many_tells system n f like body many over tells_many low count tells t u is also =
    let c = place_in (columns_of f) n in
    let own : length (columns_of (core.Infinite n f)) ≡ body.columns - 1 = omega (arith, over.columns_are) in
    let moved : (s : Tuple) → IsTuple system.signature (length (columns_of (core.Infinite n f))) s → IsTuple body.signature (body.columns - 1) s =
    λ s h. subst (λ z. IsTuple z (body.columns - 1) s) (sym over.signature) (subst (λ k. IsTuple system.signature k s) own h) in
    subst (λ z. (label_of (many_rule body c many) t ≡ label_of (many_rule body c many) u) ↔ AgreeAtMany z c like t u) over.signature
    (many_alike body c many like over.lawful over.reached (omega (arith, over.columns_are)) tells_many tells t u (moved t is) (moved u also))

-- Result: a table of labels that tell a likeness tells it
pub Tells-labels : (system : PatternSystem) (f : Core) (like : Agreement) (label : Labelling) (accepting : List ℕ → Bool) (table : Table) → LabelsTell system f like label
    → IsTableOf system.signature (length (columns_of f)) label accepting table → TellsAgreement table like
Tells-labels system f like label accepting table tells of t u is also =
    let moved : (s : Tuple) → IsTuple table.signature table.columns s → IsTuple system.signature (length (columns_of f)) s =
    λ s h. subst (λ z. IsTuple z (length (columns_of f)) s) of.signature (subst (λ k. IsTuple table.signature k s) of.columns_are h) in
    let same = of.same t u (moved t is) (moved u also) in
    let both = tells t u (moved t is) (moved u also) in
    ((λ e. both.0 (same.0 e)), (λ a. same.1 (both.1 a)))

-- Result: by a likeness the part is over the cap exactly where there are more labels
pub IsOverBy-labels : (system : PatternSystem) (like : Core → Agreement) (f : Core) (label : Labelling) (cap : ℕ) → LabelsTell system f (like f) label → 0 < length (columns_of f)
    → HasMoreLabels system.signature (length (columns_of f)) label cap ↔ IsOverBy system like f cap
IsOverBy-labels system like f label cap tells some =
    let w = HasMoreLabels-IsOver system.signature (length (columns_of f)) label (like f) tells cap in
    ((λ more. record { some = some; over = w.0 more }), (λ over. w.1 over.over))
