-- The pairs that a relation reads are those of the closure that it is told by, or none.
use Rattle.std.specs.Prelude.{◌≡◌, ℕ, List, [], map, true, false}
use Rattle.std.proofs.Common.{sym, true≢false}
use Rattle.fort_theory.specs.Cores as core
use Rattle.fort_theory.specs.Cores.{Rel}
use Rattle.fort_alike.specs.ListedClosures.{Which, Star, Conv, Pair as Item, reads}
use Rattle.fort_certificate_theory.specs.Certificates.{Step, Closure}
use Rattle.fort_findings.specs.declared.closure.ClosureEntry.{ClosureEntry}
use Rattle.fort_findings.specs.FindingView.{as_pair}
use Rattle.fort_cert_checker.specs.Abouts.{IsOnlyAbout}
use Rattle.fort_cert_checker.specs.Plans.{IsClosureRead}

pub IsClosureRead-told : (ss : List Step) (which : Which) (rel : Rel) (index : ℕ) (pairs : List ClosureEntry) → reads which rel ≡ true
    → ((items : List Item) → IsOnlyAbout ss (Closure which index items) → map as_pair pairs ≡ items) → IsClosureRead ss rel index pairs
IsClosureRead-told ss Star core.Eq index pairs read h = absurd (true≢false (sym read))
IsClosureRead-told ss Star core.Root index pairs read h = absurd (true≢false (sym read))
IsClosureRead-told ss Star core.Below index pairs read h = absurd (true≢false (sym read))
IsClosureRead-told ss Star core.Step index pairs read h = absurd (true≢false (sym read))
IsClosureRead-told ss Star core.Par index pairs read h = absurd (true≢false (sym read))
IsClosureRead-told ss Star core.Plus index pairs read h = h
IsClosureRead-told ss Star core.Star index pairs read h = h
IsClosureRead-told ss Star core.Conv index pairs read h = absurd (true≢false (sym read))
IsClosureRead-told ss Conv core.Eq index pairs read h = absurd (true≢false (sym read))
IsClosureRead-told ss Conv core.Root index pairs read h = absurd (true≢false (sym read))
IsClosureRead-told ss Conv core.Below index pairs read h = absurd (true≢false (sym read))
IsClosureRead-told ss Conv core.Step index pairs read h = absurd (true≢false (sym read))
IsClosureRead-told ss Conv core.Par index pairs read h = absurd (true≢false (sym read))
IsClosureRead-told ss Conv core.Plus index pairs read h = absurd (true≢false (sym read))
IsClosureRead-told ss Conv core.Star index pairs read h = absurd (true≢false (sym read))
IsClosureRead-told ss Conv core.Conv index pairs read h = h

pub IsClosureRead-none : (ss : List Step) (rel : Rel) (index : ℕ) (pairs : List ClosureEntry) → ((which : Which) → reads which rel ≡ false) → pairs ≡ [] → IsClosureRead ss rel index pairs
IsClosureRead-none ss core.Eq index pairs none e = e
IsClosureRead-none ss core.Root index pairs none e = e
IsClosureRead-none ss core.Below index pairs none e = e
IsClosureRead-none ss core.Step index pairs none e = e
IsClosureRead-none ss core.Par index pairs none e = e
IsClosureRead-none ss core.Plus index pairs none e = absurd (true≢false (none Star))
IsClosureRead-none ss core.Star index pairs none e = absurd (true≢false (none Star))
IsClosureRead-none ss core.Conv index pairs none e = absurd (true≢false (none Conv))
