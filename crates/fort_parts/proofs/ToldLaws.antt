-- Labels over operands that are kept tell when tuples are alike; a part that more tuples are told apart at than a cap is over it.
use Rattle.std.specs.Prelude.{◌↔◌, ℕ, Bool, true, false, not, [], length, get_or}
use Rattle.std.proofs.Common.{sym, subst}
use Rattle.fort_theory.specs.Patterns.{PatternSystem}
use Rattle.fort_theory.specs.Signatures.{Signature}
use Rattle.fort_theory.specs.Cores as core
use Rattle.fort_theory.specs.Cores.{Core, Rel, Atom}
use Rattle.fort_tables.specs.Tuples.{Tuple, IsTuple}
use Rattle.fort_tables.specs.Tables.{Table}
use Rattle.fort_tables.specs.Labels.{Labelling}
use Rattle.fort_tables.specs.OperationTruth.{complemented}
use Rattle.fort_theory.specs.PatternStructures.{pattern_structure}
use Rattle.fort_parts.specs.PartColumns.{columns_of}
use Rattle.fort_parts.specs.AlikeParts.{AlikeBy, IsOverBy}
use Rattle.fort_parts.specs.PartAnswers.{Answer, OfValue, OfTable, IsAnswerTo}
use Rattle.fort_parts.specs.PartLabels.{LabelsTell, LabelsTellAlike}
use Rattle.fort_parts.specs.RightAnswers.{IsRightBy}
use Rattle.fort_parts.proofs.StepAnswers.{LabelsTell-alike, IsAnswerTo-Not-value, IsAnswerTo-Not-table, IsOverBy-closed}
use Rattle.fort_parts.specs.ReducedParts.{InterchangeableAt, AlikeWith}
use Rattle.fort_parts.specs.ToldParts.{ToldWith}
use Rattle.fort_parts.proofs.MergedAnswers.{interchangeable_in_state}
use Rattle.fort_parts.proofs.NegatedParts.{interchangeable_not}

-- Result: labels by what is told of the operands
pub LabelsTell-with : (reduces : Bool) (system : PatternSystem) (f : Core) (label : Labelling) → LabelsTell system f (AlikeBy system (ToldWith reduces system) f) label
    → LabelsTell system f (AlikeWith reduces system f) label
LabelsTell-with true system f label tells = tells
LabelsTell-with false system f label tells = LabelsTell-alike system f label tells

-- Result: labels of atoms, which have no operands
pub LabelsTell-Leaf : (reduces : Bool) (system : PatternSystem) (a : Atom) (label : Labelling) → LabelsTellAlike system (core.Leaf a) label
    → LabelsTell system (core.Leaf a) (AlikeWith reduces system (core.Leaf a)) label
LabelsTell-Leaf true system a label tells = tells
LabelsTell-Leaf false system a label tells = tells

-- Result: more tuples than a cap that are told apart show that the part is over it, where its table is right as it was made
pub IsOverBy-told : (reduces : Bool) (system : PatternSystem) (f : Core) (answer : Answer) (cap : ℕ) → IsRightBy system (AlikeWith reduces system) f answer
    → IsOverBy system (ToldWith reduces system) f cap → IsOverBy system (AlikeWith reduces system) f cap
IsOverBy-told false system f answer cap right over = over
IsOverBy-told true system f (OfValue b) cap right over = absurd (IsOverBy-closed system (InterchangeableAt system) f cap right.answers.over over)
IsOverBy-told true system f (OfTable table) cap right over =
    let at : (s : Tuple) → IsTuple system.signature (length (columns_of f)) s → IsTuple table.signature table.columns s =
    λ s i. subst (λ (z : Signature). IsTuple z table.columns s) (sym right.answers.over.signature) (subst (λ k. IsTuple system.signature k s) (sym right.answers.over.columns_are) i) in
    let ts = over.over.0 in
    let are = over.over.1 in
    record {
      some = over.some;
      over = (
        ts,
        record {
          many = are.many;
          tuples = are.tuples;
          unlike = λ i j l m h.
              let t = at (get_or ts i []) (are.tuples i l) in
              let u = at (get_or ts j []) (are.tuples j m) in
              are.unlike i j l m (interchangeable_in_state system f table right.answers (get_or ts i []) (get_or ts j []) t u ((right.alike (get_or ts i []) (get_or ts j []) t u).1 h));
        },
      );
    }

-- a negation

pub IsRightBy-Not-value : (reduces : Bool) (system : PatternSystem) (f : Core) (b : Bool) → IsRightBy system (ToldWith reduces system) f (OfValue b)
    → IsRightBy system (ToldWith reduces system) (core.Not f) (OfValue (not b))
IsRightBy-Not-value reduces system f b right = record { answers = IsAnswerTo-Not-value system f b right.answers; alike = tt }

told_not : (reduces : Bool) (system : PatternSystem) (f : Core) (table : Table) → IsAnswerTo (pattern_structure system) f (OfTable table) → (t u : Tuple)
    → IsTuple system.signature (length (columns_of f)) t → IsTuple system.signature (length (columns_of f)) u
    → ToldWith reduces system f t u ↔ ToldWith reduces system (core.Not f) t u
told_not true system f table answers t u is also = interchangeable_not system f table answers t u is also
told_not false system f table answers t u is also = ((λ h. h), (λ h. h))

-- Result: the complement of its body's table is right for it
pub IsRightBy-Not-table : (reduces : Bool) (system : PatternSystem) (f : Core) (table : Table) → IsRightBy system (ToldWith reduces system) f (OfTable table)
    → IsRightBy system (ToldWith reduces system) (core.Not f) (OfTable (complemented table))
IsRightBy-Not-table reduces system f table right = record {
  answers = IsAnswerTo-Not-table system f table right.answers;
  alike = λ t u is also.
      let back : (s : Tuple) → IsTuple table.signature table.columns s → IsTuple system.signature (length (columns_of f)) s =
      λ s h. subst (λ z. IsTuple z (length (columns_of f)) s) right.answers.over.signature (subst (λ k. IsTuple table.signature k s) right.answers.over.columns_are h) in
      let both = right.alike t u is also in
      let same = told_not reduces system f table right.answers t u (back t is) (back u also) in
      ((λ e. same.0 (both.0 e)), (λ h. both.1 (same.1 h)));
}

-- Result: and it is over a cap, or told apart by more tuples, only where its body is told apart by more
pub IsOverBy-Not : (reduces : Bool) (system : PatternSystem) (f : Core) (cap : ℕ) → IsOverBy system (AlikeWith reduces system) (core.Not f) cap
    → IsOverBy system (ToldWith reduces system) f cap
IsOverBy-Not true system f cap over = record { some = over.some; over = over.over }
IsOverBy-Not false system f cap over = record { some = over.some; over = over.over }

pub IsOverBy-Not-told : (reduces : Bool) (system : PatternSystem) (f : Core) (answer : Answer) (cap : ℕ) → IsAnswerTo (pattern_structure system) f answer
    → IsOverBy system (ToldWith reduces system) (core.Not f) cap → IsOverBy system (ToldWith reduces system) f cap
IsOverBy-Not-told reduces system f (OfValue b) cap answers over = absurd (IsOverBy-closed system (ToldWith reduces system) (core.Not f) cap answers.over over)
IsOverBy-Not-told reduces system f (OfTable table) cap answers over =
    let ts = over.over.0 in
    let are = over.over.1 in
    record {
      some = over.some;
      over = (
        ts,
        record {
          many = are.many;
          tuples = are.tuples;
          unlike = λ i j l m h.
              are.unlike i j l m ((told_not reduces system f table answers (get_or ts i []) (get_or ts j []) (are.tuples i l) (are.tuples j m)).0 h);
        },
      );
    }
