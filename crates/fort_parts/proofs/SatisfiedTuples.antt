-- A table that tells a formula's truth accepts exactly the tuples of terms that satisfy it.
use Rattle.std.proofs.Common.{◌≡◌, ℕ, suc, ◌<◌, List, [], ◌∷◌, length, get_or, true, None, Some, refl, ap, sym, ◌∙◌, arith, subst}
use Rattle.std.specs.Prelude.{Contains}
use Rattle.std.proofs.lemmas.List.{get_or_default}
use Rattle.std.proofs.lemmas.List.Kept.{AllPairs-from_increasing}
use Rattle.fort_theory.specs.Trees.{Tree, Node, Nil, More}
use Rattle.fort_theory.specs.Signatures.{Signature, HasConstant, IsGround}
use Rattle.fort_theory.specs.Patterns.{PatternSystem}
use Rattle.fort_theory.specs.Cores.{Core}
use Rattle.fort_theory.specs.CoreTruth.{Places, with_number}
use Rattle.fort_theory.specs.PatternStructures.{pattern_structure}
use Rattle.fort_tables.specs.Tuples.{Tuple, IsTuple, IsPresent, IsFull, AreGroundColumns}
use Rattle.fort_tables.specs.Tables.{Table, state_of}
use Rattle.fort_tables.specs.Interchange.{AcceptsExactly}
use Rattle.fort_alike.specs.AssignedTuples.{tuple_of}
use Rattle.fort_parts.specs.PartColumns.{columns_of}
use Rattle.fort_parts.specs.PartAnswers.{OfTable, AreGround, IsAnswerTo}
use Rattle.fort_parts.proofs.AssignedColumns.{insert-tuple_of, AreGround-with_number}
use Rattle.fort_parts.proofs.PartColumnLaws.{AreColumns-columns_of}
use Rattle.fort_parts.specs.ReducedParts.{IsSatisfiedBy}

-- a ground term has a constant
constant_in : (sig : Signature) (x : Tree) → IsGround sig x → HasConstant sig
constant_in sig (Node f Nil) g = (f, g.0)
constant_in sig (Node f (More x ts)) g = constant_in sig x g.1.0

pub HasConstant-tuple : (sig : Signature) (columns : ℕ) (t : Tuple) → IsTuple sig columns t → HasConstant sig
HasConstant-tuple sig columns t is = by t is.present is.grounded
  where
    by : (t : Tuple) → IsPresent t → AreGroundColumns sig t → HasConstant sig
    by [] present grounded = absurd present
    by (None ∷ t) present grounded = by t present grounded
    by (Some x ∷ t) present grounded = constant_in sig x grounded.0

-- an assignment for a tuple of terms
pub record IsAssigned (sig : Signature) (columns : List ℕ) (t : Tuple) : Type 0 where
  pub places : Places
  pub grounded : AreGround sig places
  pub is : tuple_of places columns ≡ t

pub assigned : (sig : Signature) (columns : List ℕ) (t : Tuple) → HasConstant sig → ((i j : ℕ) → i < j → j < length columns → get_or columns i 0 < get_or columns j 0) → length t ≡ length columns
    → IsFull t → AreGroundColumns sig t → IsAssigned sig columns t
assigned sig [] [] constant up len full grounded = record { places = λ n. Node constant.0 Nil; grounded = λ n. (constant.1, tt); is = refl }
assigned sig [] (x ∷ t) constant up len full grounded = absurd (omega arith)
assigned sig (n ∷ ns) [] constant up len full grounded = absurd (omega arith)
assigned sig (n ∷ ns) (None ∷ t) constant up len full grounded = absurd full
assigned sig (n ∷ ns) (Some u ∷ t) constant up len full grounded =
    let r = assigned sig ns t constant (λ i j l m. up (suc i) (suc j) (omega arith) (omega arith)) (omega arith) full grounded.1 in
    let apart : Contains ns n → ⊥ = λ c. let l = up 0 (suc c.0) (omega arith) (omega (arith, c.1)) in omega (arith, get_or_default ns c.0 0 n c.1, c.2) in
    record {
      places = with_number r.places n u;
      grounded = AreGround-with_number sig r.places n u r.grounded grounded.0;
      is = sym (insert-tuple_of r.places n u 0 ns apart) ∙ ap (λ ts. Some u ∷ ts) r.is;
    }

-- Result
pub AcceptsExactly-answer : (system : PatternSystem) (f : Core) (table : Table) → IsAnswerTo (pattern_structure system) f (OfTable table) → AcceptsExactly table (IsSatisfiedBy system f)
AcceptsExactly-answer system f table answers t h full =
    let constant = subst (λ (s : Signature). HasConstant s) answers.over.signature (HasConstant-tuple table.signature table.columns t h) in
    let up = AllPairs-from_increasing (columns_of f) (AreColumns-columns_of f).ascending in
    let grounded = subst (λ (s : Signature). AreGroundColumns s t) answers.over.signature h.grounded in
    let v = assigned system.signature (columns_of f) t constant (λ i j l m. up i j 0 l m) (h.width ∙ answers.over.columns_are) full grounded in
    let one = answers.truth v.places v.grounded in
    let at : Tuple → Type 0 = λ s. table.accepting (state_of table s) ≡ true in (
      (λ e. record { places = v.places; grounded = v.grounded; are = v.is; holds = one.0 (subst at (sym v.is) e) }),
      (λ r. subst at r.are ((answers.truth r.places r.grounded).1 r.holds)),
    )
