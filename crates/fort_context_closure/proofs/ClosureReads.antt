-- A relation is told by a closure exactly where it is about reductions, and then by the passes that make that closure.
use Rattle.std.specs.Prelude.{◌≡◌, List, true, false, Option, None, Some, is_some, IfSome, IfNone, refl}
use Rattle.std.proofs.Common.{sym, true≢false}
use Rattle.fort_theory.specs.Patterns.{Pair}
use Rattle.fort_theory.specs.Cores as core
use Rattle.fort_theory.specs.Cores.{Rel}
use Rattle.fort_alike.specs.Atoms.{kind_for}
use Rattle.fort_alike.specs.Alike.{is_reaching}
use Rattle.fort_alike.specs.ListedClosures.{Which, Star, Conv, relation_of, reads}
use Rattle.fort_findings.specs.declared.closure.Which as findings
use Rattle.fort_findings.specs.declared.closure.ClosureEntry.{ClosureEntry}
use Rattle.fort_findings.specs.FindingView.{as_which}
use Rattle.fort_context_closure.specs.ClosedAtoms.{ListsPasses}

pub reaching_from_reads : (which : Which) (rel : Rel) → reads which rel ≡ true → is_reaching (kind_for rel) ≡ true
reaching_from_reads which core.Plus h = refl
reaching_from_reads which core.Star h = refl
reaching_from_reads which core.Conv h = refl
reaching_from_reads Star core.Eq h = absurd (true≢false (sym h))
reaching_from_reads Star core.Root h = absurd (true≢false (sym h))
reaching_from_reads Star core.Below h = absurd (true≢false (sym h))
reaching_from_reads Star core.Step h = absurd (true≢false (sym h))
reaching_from_reads Star core.Par h = absurd (true≢false (sym h))
reaching_from_reads Conv core.Eq h = absurd (true≢false (sym h))
reaching_from_reads Conv core.Root h = absurd (true≢false (sym h))
reaching_from_reads Conv core.Below h = absurd (true≢false (sym h))
reaching_from_reads Conv core.Step h = absurd (true≢false (sym h))
reaching_from_reads Conv core.Par h = absurd (true≢false (sym h))

pub reaching_none : (rel : Rel) → ((which : Which) → reads which rel ≡ false) → is_reaching (kind_for rel) ≡ false
reaching_none core.Eq none = refl
reaching_none core.Root none = refl
reaching_none core.Below none = refl
reaching_none core.Step none = refl
reaching_none core.Par none = refl
reaching_none core.Plus none = absurd (true≢false (none Star))
reaching_none core.Star none = absurd (true≢false (none Star))
reaching_none core.Conv none = absurd (true≢false (none Conv))

-- whether there is a closure by which a relation is told
pub reaching_told : (rel : Rel) (told : Option findings.Which) → IfSome told (λ which. reads (as_which which) rel ≡ true) → IfNone told ((which : Which) → reads which rel ≡ false)
    → is_some told ≡ is_reaching (kind_for rel)
reaching_told rel (Some which) some none = sym (reaching_from_reads (as_which which) rel some)
reaching_told rel None some none = sym (reaching_none rel none)

-- the rules of the closure are those of each relation that it tells
pub ListsPasses-read : (which : Which) (rel : Rel) (pairs : List Pair) (es : List ClosureEntry) → reads which rel ≡ true → ListsPasses (relation_of which) pairs es
    → ListsPasses rel pairs es
ListsPasses-read Star core.Star pairs es read h = h
ListsPasses-read Star core.Plus pairs es read h = λ e. h refl
ListsPasses-read Conv core.Conv pairs es read h = h
ListsPasses-read Star core.Conv pairs es read h = absurd (true≢false (sym read))
ListsPasses-read Star core.Eq pairs es read h = absurd (true≢false (sym read))
ListsPasses-read Star core.Root pairs es read h = absurd (true≢false (sym read))
ListsPasses-read Star core.Below pairs es read h = absurd (true≢false (sym read))
ListsPasses-read Star core.Step pairs es read h = absurd (true≢false (sym read))
ListsPasses-read Star core.Par pairs es read h = absurd (true≢false (sym read))
ListsPasses-read Conv core.Star pairs es read h = absurd (true≢false (sym read))
ListsPasses-read Conv core.Plus pairs es read h = absurd (true≢false (sym read))
ListsPasses-read Conv core.Eq pairs es read h = absurd (true≢false (sym read))
ListsPasses-read Conv core.Root pairs es read h = absurd (true≢false (sym read))
ListsPasses-read Conv core.Below pairs es read h = absurd (true≢false (sym read))
ListsPasses-read Conv core.Step pairs es read h = absurd (true≢false (sym read))
ListsPasses-read Conv core.Par pairs es read h = absurd (true≢false (sym read))
