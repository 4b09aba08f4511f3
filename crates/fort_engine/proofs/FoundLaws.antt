-- How the answer to a part was found, by its root.
use Rattle.std.specs.Prelude.{◌≡◌, ℕ, ◌<◌, List, map, get_or, true, Option, None, Some, Result, Ok, Err, IfOk, refl}
use Rattle.std.specs.declared.alloc.Global.{Global}
use Rattle.std.specs.declared.vec.Vec.{Vec}
use Rattle.std.proofs.Common.{true≢false, ap, sym, ◌∙◌, subst}
use Rattle.fort_theory.specs.Patterns.{PatternSystem}
use Rattle.fort_theory.specs.Cores as core
use Rattle.fort_tables.specs.Tables.{Table, Listed, listed_table}
use Rattle.fort_tables.specs.Projections.{ArePure}
use Rattle.fort_tables.specs.Counts as counts
use Rattle.fort_tables.specs.Counts.{AreCounts}
use Rattle.fort_findings.specs.declared.count.Count.{Count}
use Rattle.fort_findings.specs.FindingView.{as_count}
use Rattle.fort_parts.specs.DecidedCores.{IsOperandOf}
use Rattle.fort_parts.specs.PartAnswers.{OfTable}
use Rattle.fort_parts.specs.PartColumns.{place_in}
use Rattle.fort_explore.specs.declared.table.ExploreFault.{ExploreFault}
use Rattle.fort_outline.specs.declared.root.Root.{Root}
use Rattle.fort_outline.specs.declared.root.Root.TheVariants.{True, Leaf, Not, Binary, Exists, Infinite}
use Rattle.fort_outline.specs.declared.outline.Outline.{Outline}
use Rattle.fort_outline.specs.Roots.{root_core}
use Rattle.fort_outline.specs.Outlines.{parts_in, core_at}
use Rattle.fort_engine.specs.declared.answer.Last.{Last}
use Rattle.fort_engine.specs.declared.answer.Last.TheVariants.{Auto}
use Rattle.fort_engine.specs.declared.answer.Decided.{Decided}
use Rattle.fort_engine.specs.declared.options.Options.{Options}
use Rattle.fort_engine.specs.AnswerView.{as_answer}
use Rattle.fort_engine.specs.Kept.{IsRight}
use Rattle.fort_engine.specs.Deciding.{IsBody, IsDecision}
use Rattle.fort_engine.specs.Found.{IsDecidedBy, counted_with, IsMade, IsKeptAnswer, IsTurnedOf, IsCounted, AreMarks, IsMany, IsManyOf, IsFound}
use Rattle.fort_engine.proofs.OperandLaws.{HasRoot, next_is, next_over, operand_of_root, kept_below}

pub IsDecidedBy-weaker : (system : PatternSystem) (options : Options) (f : core.Core) (P Q : Decided → Type 0) (r : Result Decided ExploreFault) → ((d : Decided) → P d → Q d)
    → IsDecidedBy system options f P r → IsDecidedBy system options f Q r
IsDecidedBy-weaker system options f P Q (Ok d) more h = record { ok = more d h.ok; within = h.within; kept_within = h.kept_within; over = tt }
IsDecidedBy-weaker system options f P Q (Err e) more h = record { ok = tt; within = tt; kept_within = tt; over = h.over }

-- neither a negation nor one of "infinitely many"
abbrev pub IsPlain : Root → Type 0
IsPlain (Not f) = ⊥
IsPlain (Infinite n f) = ⊥
IsPlain other = Unit {0}

plain_one : (system : PatternSystem) (options : Options) (parts : List core.Core) (kept : List (Option Last)) (r : Root) → IsPlain r → (d : Decided)
    → IsRight system options (root_core parts r) (as_answer d.answer) → d.counts ≡ None → (options.lists ≡ true → IsMade system options (root_core parts r) d)
    → IsFound system options parts kept (root_core parts r) d
plain_one system options parts kept True p d right none made = record { right = right; turned = tt; counted = none; made = λ asked _. made asked }
plain_one system options parts kept (Leaf a) p d right none made = record { right = right; turned = tt; counted = none; made = λ asked _. made asked }
plain_one system options parts kept (Not f) p d right none made = absurd p
plain_one system options parts kept (Binary op f g) p d right none made = record { right = right; turned = tt; counted = none; made = λ asked _. made asked }
plain_one system options parts kept (Exists n f) p d right none made = record { right = right; turned = tt; counted = none; made = λ asked _. made asked }
plain_one system options parts kept (Infinite n f) p d right none made = absurd p

plain_by : (system : PatternSystem) (options : Options) (parts : List core.Core) (kept : List (Option Last)) (r : Root) → IsPlain r → (out : Result Decided ExploreFault)
    → IsDecision system options (root_core parts r) out → IsDecidedBy system options (root_core parts r) (IsFound system options parts kept (root_core parts r)) out
plain_by system options parts kept r p (Ok d) i = record { ok = plain_one system options parts kept r p d i.ok i.plain i.made; within = i.within; kept_within = i.kept_within; over = tt }
plain_by system options parts kept r p (Err e) i = record { ok = tt; within = tt; kept_within = tt; over = i.over }

negation_by : (system : PatternSystem) (options : Options) (parts : List core.Core) (kept : List (Option Last)) (g : core.Core) (body : Last) → IsKeptAnswer parts kept g body
    → (out : Result Decided ExploreFault) → IsDecidedBy system options (core.Not g) (λ d. IsRight system options (core.Not g) (as_answer d.answer)) out
    → IfOk out (λ d. IsTurnedOf body d.answer) → IfOk out (λ d. d.counts ≡ None)
    → IsDecidedBy system options (core.Not g) (IsFound system options parts kept (core.Not g)) out
negation_by system options parts kept g body is (Ok d) i turned plain = record {
  ok = record { right = i.ok; turned = record { body = body; kept_is = is; turned = turned }; counted = plain; made = λ _ e. absurd (true≢false e) };
  within = i.within;
  kept_within = i.kept_within;
  over = tt;
}
negation_by system options parts kept g body is (Err e) i turned plain = record { ok = tt; within = tt; kept_within = tt; over = i.over }

abbrev IsPartFound : PatternSystem → Options → Outline → List (Option Last) → Result Decided ExploreFault → core.Core → Type 0
IsPartFound system options o kept out f = IsDecidedBy system options f (IsFound system options (parts_in o) kept f) out

module _ {system : PatternSystem} {options : Options} {o : Outline} {k : ℕ} {kept : List (Option Last)} where
  pub plain_found : {r : Root} → HasRoot system options o k kept r → IsPlain r → (out : Result Decided ExploreFault)
      → IsDecision system options (root_core (parts_in o) r) out
      → IsDecidedBy system options (core_at o k) (IsFound system options (parts_in o) kept (core_at o k)) out
  plain_found {r = r} h p out d =
      subst (IsPartFound system options o kept out) (sym (next_is h)) (plain_by system options (parts_in o) kept r p out d)

  operand_kept : {r : Root} (f : ℕ) (body : Last) → HasRoot system options o k kept r → f < k
      → IsOperandOf (get_or (parts_in o) f core.True) (root_core (parts_in o) r) → get_or kept f None ≡ Some body
      → IsKeptAnswer (parts_in o) kept (get_or (parts_in o) f core.True) body
  operand_kept f body h low operand there = record { place = f; before = kept_below (operand_of_root f h low operand); is = refl; there = there }

  pub negation_found : (f : ℕ) (body : Last) → HasRoot system options o k kept (Not f) → get_or kept f None ≡ Some body
      → (out : Result Decided ExploreFault) → IsDecidedBy system options (core.Not (get_or (parts_in o) f core.True))
      (λ d. IsRight system options (core.Not (get_or (parts_in o) f core.True)) (as_answer d.answer)) out
      → IfOk out (λ d. IsTurnedOf body d.answer) → IfOk out (λ d. d.counts ≡ None) → IsDecidedBy system options (core_at o k) (IsFound system options (parts_in o) kept (core_at o k)) out
  negation_found f body h there out d turned plain =
      let g = get_or (parts_in o) f core.True in
      subst (IsPartFound system options o kept out) (sym (next_is h))
      (negation_by system options (parts_in o) kept g body (operand_kept f body h (next_over h) refl there) out d turned plain)

  pub many_found : (n f : ℕ) (body : Last) → HasRoot system options o k kept (Infinite n f) → get_or kept f None ≡ Some body → (out : Result Decided ExploreFault)
      → IsDecidedBy system options (core.Infinite n (get_or (parts_in o) f core.True)) (IsManyOf system options n (get_or (parts_in o) f core.True) body) out
      → IsDecidedBy system options (core_at o k) (IsFound system options (parts_in o) kept (core_at o k)) out
  many_found n f body h there out d =
      let g = get_or (parts_in o) f core.True in
      let is = operand_kept f body h (next_over h) refl there in
      subst (IsPartFound system options o kept out) (sym (next_is h))
      (IsDecidedBy-weaker system options (core.Infinite n g) (IsManyOf system options n g body) (IsFound system options (parts_in o) kept (core.Infinite n g)) out
      (λ e m. record {
        right = m.many.right;
        turned = tt;
        counted = record {
          table = m.table;
          kept_is = subst (IsKeptAnswer (parts_in o) kept g) m.body_is is;
          list = m.many.list;
          list_is = m.many.list_is;
          marks = m.many.marks;
        };
        made = λ asked _. m.many.made asked;
      })
      d)

-- infinitely many

many_by : (system : PatternSystem) (options : Options) (n : ℕ) (f : core.Core) (table : Listed) (list : Vec Count Global) → AreMarks n f (listed_table table) (map as_count list.items)
    → (decided : Result Decided ExploreFault) → IsDecision system options (core.Infinite n f) decided
    → IsDecidedBy system options (core.Infinite n f) (IsMany system options n f table) (counted_with list decided)
many_by system options n f table list marks (Ok d) i =
    record { ok = record { right = i.ok; list = list; list_is = refl; marks = marks; made = i.made }; within = i.within; kept_within = i.kept_within; over = tt }
many_by system options n f table list marks (Err e) i = record { ok = tt; within = tt; kept_within = tt; over = i.over }

pub IsCounted-body : (system : PatternSystem) (options : Options) (n : ℕ) (f : core.Core) (table : Table) (columns : List ℕ) (c : ℕ) (alone states : List ℕ) (marks : List counts.Count)
    → IsBody system options n f columns (OfTable table) → c ≡ place_in columns n → ArePure table c alone → alone ≡ states → AreCounts table c states marks
    → IsCounted system options n f table c states marks
IsCounted-body system options n f table columns c alone states marks b at pure same counted = record {
  among = b.among;
  right = b.right;
  column_is = at ∙ ap (λ ns. place_in ns n) b.columns_are;
  pure = subst (ArePure table c) same pure;
  marks_are = counted;
}

pub IsDecidedBy-many : (system : PatternSystem) (options : Options) (n : ℕ) (f : core.Core) (table : Listed) (list : Vec Count Global) (column : ℕ) (alone : List ℕ)
    → IsCounted system options n f (listed_table table) column alone (map as_count list.items) → (decided out : Result Decided ExploreFault)
    → IsDecision system options (core.Infinite n f) decided → out ≡ counted_with list decided
    → IsDecidedBy system options (core.Infinite n f) (IsMany system options n f table) out
IsDecidedBy-many system options n f table list column alone c decided out d is =
    let t = listed_table table in
    let marks : AreMarks n f t (map as_count list.items) = record {
      states = alone;
      pure = subst (λ i. ArePure t i alone) c.column_is c.pure;
      counts = subst (λ i. AreCounts t i alone (map as_count list.items)) c.column_is c.marks_are;
    } in
    subst (IsDecidedBy system options (core.Infinite n f) (IsMany system options n f table)) (sym is) (many_by system options n f table list marks decided d)

-- the body's table, whatever its answer is called
pub IsDecidedBy-many_of : (system : PatternSystem) (options : Options) (n : ℕ) (f : core.Core) (body : Last) (table : Listed) (out : Result Decided ExploreFault) → body ≡ Auto table
    → IsDecidedBy system options (core.Infinite n f) (IsMany system options n f table) out → IsDecidedBy system options (core.Infinite n f) (IsManyOf system options n f body) out
IsDecidedBy-many_of system options n f body table out is d =
    IsDecidedBy-weaker system options (core.Infinite n f) (IsMany system options n f table) (IsManyOf system options n f body) out
    (λ e m. record { table = table; body_is = is; many = m }) d
