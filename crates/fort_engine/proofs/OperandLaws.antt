-- A part by its root: its operands are earlier parts, whose answers are kept.
use Rattle.std.specs.Prelude.{◌≡◌, ◌<◌, ℕ, List, length, get_or, Option, None, Some, Ok, true, refl}
use Rattle.std.proofs.Common.{sym, ◌∙◌, ap, subst, arith}
use Rattle.std.proofs.lemmas.List.{get_or_default}
use Rattle.fort_theory.specs.Patterns.{PatternSystem}
use Rattle.fort_theory.specs.Cores as core
use Rattle.fort_theory.specs.Parts.{is_free}
use Rattle.fort_theory.specs.PatternStructures.{pattern_structure}
use Rattle.fort_theory.specs.Logic.{Connective}
use Rattle.fort_parts.specs.PartAnswers.{OfValue, IsAnswerTo}
use Rattle.fort_parts.specs.PartColumns.{columns_of}
use Rattle.fort_parts.specs.DecidedCores.{IsOperandOf}
use Rattle.fort_parts.proofs.StepAnswers.{IsAnswerTo-True}
use Rattle.fort_outline.specs.declared.root.Root.{Root}
use Rattle.fort_outline.specs.declared.root.Root.TheVariants.{True}
use Rattle.fort_outline.specs.declared.outline.Outline.{Outline}
use Rattle.fort_outline.specs.Roots.{root_core, HasOperandsBelow}
use Rattle.fort_outline.specs.Outlines.{AreColumnsOf, parts_in}
use Rattle.fort_engine.specs.declared.answer.Last.{Last}
use Rattle.fort_engine.specs.declared.answer.Last.TheVariants.{Truth}
use Rattle.fort_engine.specs.declared.answer.Decided.{Decided}
use Rattle.fort_engine.specs.declared.options.Options.{Options}
use Rattle.fort_engine.specs.AnswerView.{as_answer}
use Rattle.fort_engine.specs.Kept.{IsRight, IsKeptOverCap, HasRightAnswer}
use Rattle.fort_engine.specs.Deciding.{AreJoined, IsBody, IsDecision, IsNextPart, IsOfTwo}
use Rattle.fort_engine.proofs.AnswerLaws.{IsDecision-truth}
use Rattle.fort_outline.proofs.RootLaws.{part_at}
use Rattle.fort_outline.proofs.JoinedOperands.{operand_first, operand_second}

-- what is taken of the answers that are kept

pub IsRight-taken : (system : PatternSystem) (options : Options) (f : core.Core) (taken : Option Last) (answer : Last) → HasRightAnswer system options f taken → taken ≡ Some answer
    → IsRight system options f (as_answer answer)
IsRight-taken system options f taken answer has is =
    let both : Some has.answer ≡ Some answer = sym has.is ∙ is in
    let same : has.answer ≡ answer = cc in
    subst (λ a. IsRight system options f (as_answer a)) same has.right

pub none_taken : (system : PatternSystem) (options : Options) (f : core.Core) (taken : Option Last) → HasRightAnswer system options f taken → taken ≡ None → ⊥
none_taken system options f taken has is = let both : Some has.answer ≡ None = sym has.is ∙ is in absurd cc

-- the next part, by its root

pub record HasRoot (system : PatternSystem) (options : Options) (o : Outline) (k : ℕ) (kept : List (Option Last)) (r : Root) : Type 0 where
  pub next : IsNextPart system options o k kept
  pub root : get_or o.roots.items k True ≡ r

pub has_root : {system : PatternSystem} {options : Options} {o : Outline} {k : ℕ} {kept : List (Option Last)} {item r : Root} → IsNextPart system options o k kept
    → item ≡ get_or o.roots.items k item → item ≡ r → HasRoot system options o k kept r
has_root {o = o} {k = k} {item = item} next is at = record { next = next; root = get_or_default o.roots.items k True item next.within ∙ (sym is ∙ at) }

pub next_is : {system : PatternSystem} {options : Options} {o : Outline} {k : ℕ} {kept : List (Option Last)} {r : Root} → HasRoot system options o k kept r
    → get_or (parts_in o) k core.True ≡ root_core (parts_in o) r
next_is {o = o} {k = k} h = part_at o.roots.items h.next.laid.in_order k h.next.within ∙ ap (root_core (parts_in o)) h.root

pub next_over : {system : PatternSystem} {options : Options} {o : Outline} {k : ℕ} {kept : List (Option Last)} {r : Root} → HasRoot system options o k kept r → HasOperandsBelow k r
next_over {k = k} h = subst (HasOperandsBelow k) h.root (h.next.laid.in_order k h.next.within)

-- part f is an operand of the next part

pub record IsOperandAt (system : PatternSystem) (options : Options) (o : Outline) (k : ℕ) (kept : List (Option Last)) (f : ℕ) : Type 0 where
  pub next : IsNextPart system options o k kept
  pub low : f < k
  pub operand : IsOperandOf (get_or (parts_in o) f core.True) (get_or (parts_in o) k core.True)

pub operand_of_root : {system : PatternSystem} {options : Options} {o : Outline} {k : ℕ} {kept : List (Option Last)} {r : Root} (f : ℕ) → HasRoot system options o k kept r → f < k
    → IsOperandOf (get_or (parts_in o) f core.True) (root_core (parts_in o) r) → IsOperandAt system options o k kept f
operand_of_root {o = o} f h low operand =
    record { next = h.next; low = low; operand = subst (IsOperandOf (get_or (parts_in o) f core.True)) (sym (next_is h)) operand }

pub first_of_two : {system : PatternSystem} {options : Options} {o : Outline} {k : ℕ} {kept : List (Option Last)} {op : Connective} {f g : ℕ} → IsNextPart system options o k kept
    → IsOfTwo op (parts_in o) k f g → IsOperandAt system options o k kept f
first_of_two {o = o} {op = op} {f = f} {g = g} next two = record {
  next = next;
  low = two.first;
  operand = subst (IsOperandOf (get_or (parts_in o) f core.True)) (sym two.is)
      (operand_first op (get_or (parts_in o) f core.True) (get_or (parts_in o) g core.True));
}

pub second_of_two : {system : PatternSystem} {options : Options} {o : Outline} {k : ℕ} {kept : List (Option Last)} {op : Connective} {f g : ℕ} → IsNextPart system options o k kept
    → IsOfTwo op (parts_in o) k f g → IsOperandAt system options o k kept g
second_of_two {o = o} {op = op} {f = f} {g = g} next two = record {
  next = next;
  low = two.second;
  operand = subst (IsOperandOf (get_or (parts_in o) g core.True)) (sym two.is)
      (operand_second op (get_or (parts_in o) f core.True) (get_or (parts_in o) g core.True));
}

-- its answer is kept

pub kept_below : {system : PatternSystem} {options : Options} {o : Outline} {k : ℕ} {kept : List (Option Last)} {f : ℕ} → IsOperandAt system options o k kept f → f < length kept
kept_below h = omega (arith, h.low, h.next.count)

pub columns_below : {system : PatternSystem} {options : Options} {o : Outline} {k : ℕ} {kept : List (Option Last)} {f : ℕ} → IsOperandAt system options o k kept f
    → f < length o.columns.items
columns_below h = omega (arith, h.low, h.next.within, h.next.laid.count)

pub operand_right : {system : PatternSystem} {options : Options} {o : Outline} {k : ℕ} {kept : List (Option Last)} {f : ℕ} → IsOperandAt system options o k kept f
    → HasRightAnswer system options (get_or (parts_in o) f core.True) (get_or kept f None)
operand_right {o = o} {f = f} h = (h.next.operands (get_or (parts_in o) f core.True) h.operand).right f (kept_below h) refl

pub operand_there : {system : PatternSystem} {options : Options} {o : Outline} {k : ℕ} {kept : List (Option Last)} {f : ℕ} → IsOperandAt system options o k kept f
    → get_or kept f None ≡ None → ⊥
operand_there {system = system} {options = options} {o = o} {kept = kept} {f = f} h = none_taken system options (get_or (parts_in o) f core.True) (get_or kept f None) (operand_right h)

pub operand_taken : {system : PatternSystem} {options : Options} {o : Outline} {k : ℕ} {kept : List (Option Last)} {f : ℕ} {answer : Last} → IsOperandAt system options o k kept f
    → get_or kept f None ≡ Some answer → IsRight system options (get_or (parts_in o) f core.True) (as_answer answer)
operand_taken {system = system} {options = options} {o = o} {kept = kept} {f = f} {answer = answer} h is =
    IsRight-taken system options (get_or (parts_in o) f core.True) (get_or kept f None) answer (operand_right h) is

pub operand_told : {system : PatternSystem} {options : Options} {o : Outline} {k : ℕ} {kept : List (Option Last)} {f : ℕ} → IsOperandAt system options o k kept f
    → IsKeptOverCap system options (get_or (parts_in o) f core.True) → ⊥
operand_told {o = o} {f = f} h = (h.next.operands (get_or (parts_in o) f core.True) h.operand).kept_within

-- with its columns

pub operand_columns : {system : PatternSystem} {options : Options} {o : Outline} {k : ℕ} {kept : List (Option Last)} {f : ℕ} (columns : List ℕ) → IsOperandAt system options o k kept f
    → ((parts : List core.Core) → AreColumnsOf parts o.columns.items → columns ≡ columns_of (get_or parts f core.True))
    → columns ≡ columns_of (get_or (parts_in o) f core.True)
operand_columns {o = o} columns h each = each (parts_in o) h.next.laid.columns

pub IsBody-operand : {system : PatternSystem} {options : Options} {o : Outline} {k : ℕ} {kept : List (Option Last)} {f : ℕ} {answer : Last} (n : ℕ) (columns : List ℕ)
    → IsOperandAt system options o k kept f → is_free n (get_or (parts_in o) f core.True) ≡ true → get_or kept f None ≡ Some answer
    → ((parts : List core.Core) → AreColumnsOf parts o.columns.items → columns ≡ columns_of (get_or parts f core.True))
    → IsBody system options n (get_or (parts_in o) f core.True) columns (as_answer answer)
IsBody-operand n columns h among is each =
    record { among = among; columns_are = operand_columns columns h each; right = operand_taken h is }

pub AreJoined-parts : {system : PatternSystem} {options : Options} {o : Outline} {k : ℕ} {kept : List (Option Last)} {op : Connective} {f g : ℕ} {first second : Last}
    (columns ones others : List ℕ) → IsNextPart system options o k kept → IsOfTwo op (parts_in o) k f g → get_or kept f None ≡ Some first → get_or kept g None ≡ Some second
    → ((parts : List core.Core) → AreColumnsOf parts o.columns.items → columns ≡ columns_of (get_or parts k core.True))
    → ((parts : List core.Core) → AreColumnsOf parts o.columns.items → ones ≡ columns_of (get_or parts f core.True))
    → ((parts : List core.Core) → AreColumnsOf parts o.columns.items → others ≡ columns_of (get_or parts g core.True))
    → AreJoined system options op (get_or (parts_in o) k core.True) (get_or (parts_in o) f core.True) (get_or (parts_in o) g core.True) columns ones others (as_answer first)
    (as_answer second)
AreJoined-parts {o = o} columns ones others next two one other each first_each second_each = record {
  whole = two.is;
  few = next.fit.few;
  columns_are = each (parts_in o) next.laid.columns;
  ones_are = first_each (parts_in o) next.laid.columns;
  others_are = second_each (parts_in o) next.laid.columns;
  first_right = operand_taken (first_of_two next two) one;
  second_right = operand_taken (second_of_two next two) other;
}

-- the formula that is true
pub IsDecision-True : (system : PatternSystem) (options : Options) (f : core.Core) (d : Decided) → f ≡ core.True → d.answer ≡ Truth true → d.counts ≡ None
    → IsDecision system options f (Ok d)
IsDecision-True system options f d is has none =
    let answers = subst (λ z. IsAnswerTo (pattern_structure system) z (OfValue true)) (sym is) (IsAnswerTo-True system) in
    IsDecision-truth system options f d true has none answers
