-- To believe: what the clauses of `run` say of words, of what a source and a sink tell, and of a status, each under its name there.
use Rattle.std.specs.Prelude.{◌≡◌, ℕ, ◌<◌, ◌≤◌, ◌⊎◌, true, List, [], ◌∷◌, codes, Option, Some, IfSome}
use Rattle.fort_io.specs.Devices.{FaultCounted}
use Rattle.fort_answers.specs.Requests.{Text, Options, Decide, Witness, Check, Confirm}
use Rattle.fort_answers.specs.Said.{Asks, Says, SaysTrue, SaysFalse, SaysTruth}
use Rattle.fort_answers.specs.SaidTerms.{SaysLeastTerms, SaysConfirmed, SaysFirstTerms}
use Rattle.fort_answers.specs.SaidSystems.{SaysSystem, SaysNoSystem}
use Rattle.fort_answers.specs.Answer.{NeedsInput}
use Rattle.fort_answers.specs.CommandGrammar.{request_of}
use Rattle.fort_answers.specs.Lines as lines
use Rattle.fort_run.specs.Answered.{Answers, CutsShort, IsDecidable, IsDecidableWithin, IsSearchable, IsSearchableWithin, OwesOnly, OwesOnlyEarly, ReadsWhole}
use Rattle.fort_run.specs.Certified.{CertifiesTruth, IsCheckable, PrintsTruth}
use Rattle.fort_run.specs.Confirmed.{ConfirmsTerms, IsConfirmable, PrintsTerms}
use Rattle.fort_run.specs.Limits.{IsLimitOf}

-- what a source tells before and after, and what it has counted
pub record Reads : Type 0 where
  pub rest : Option Text
  pub left : Option Text
  pub faults : ℕ
  pub faults_after : ℕ

-- the same of a sink
pub record Writes : Type 0 where
  pub old : Option Text
  pub new : Option Text
  pub faults : ℕ
  pub faults_after : ℕ

abbrev pub reads : (rest left : Option Text) → (faults faults_after : ℕ) → Reads
reads rest left faults faults_after = record { rest = rest; left = left; faults = faults; faults_after = faults_after }

abbrev pub writes : (old new : Option Text) → (faults faults_after : ℕ) → Writes
writes old new faults faults_after = record { old = old; new = new; faults = faults; faults_after = faults_after }

-- no fault came
abbrev pub IsFaultless : Reads → Writes → Type 0
IsFaultless r w = (FaultCounted r.faults r.faults_after → ⊥) × (FaultCounted w.faults w.faults_after → ⊥)

-- an answer without LIMIT, or want of memory
abbrev pub IsSettled : ℕ → Type 0
IsSettled status = (status ≤ lines.negative) ⊎ (status ≡ lines.out_of_memory)

-- the same, or LIMIT
abbrev pub IsSettledOrLimited : ℕ → Type 0
IsSettledOrLimited status = (status ≤ lines.negative) ⊎ ((status ≡ lines.limited) ⊎ (status ≡ lines.out_of_memory))

pub record EndsAsRun (words : List Text) (r : Reads) (w : Writes) (status : ℕ) : Type 0 where
  -- what is printed says so of the formula, where the words plainly ask
  pub yes : (formula : Text) → Asks (codes "decide") (formula ∷ []) words → status ≡ 0
      → Says formula r.rest w.old w.new (SaysTrue (codes "YES"))
  pub no : (formula : Text) → Asks (codes "decide") (formula ∷ []) words → status ≡ 1
      → Says formula r.rest w.old w.new (SaysFalse (codes "NO"))
  pub certified : (formula : Text) → Asks (codes "check") (formula ∷ []) words → status ≡ 0
      → Says formula r.rest w.old w.new (SaysTruth (codes "CERTIFIED YES") (codes "CERTIFIED NO"))
  pub found : (formula : Text) → Asks (codes "witness") (formula ∷ []) words → status ≡ 0
      → Says formula r.rest w.old w.new SaysLeastTerms
  pub none : (formula : Text) → Asks (codes "witness") (formula ∷ []) words → status ≡ 1
      → Says formula r.rest w.old w.new (SaysFalse (codes "NONE"))
  pub confirmed : (formula : Text) → Asks (codes "confirm") (formula ∷ []) words → status ≡ 0
      → Says formula r.rest w.old w.new SaysConfirmed
  pub solved : (height formula : Text) → Asks (codes "solutions") (height ∷ formula ∷ []) words → status ≤ 1
      → Says formula r.rest w.old w.new (SaysFirstTerms height)
  pub system : (rules height formula : Text) → Asks (codes "synth") (rules ∷ height ∷ formula ∷ []) words → status ≡ 0
      → Says formula r.rest w.old w.new (SaysSystem rules height)
  pub no_system : (rules height formula : Text) → Asks (codes "synth") (rules ∷ height ∷ formula ∷ []) words → status ≡ 1
      → Says formula r.rest w.old w.new (SaysNoSystem rules height)
  -- the answer that is owed was written, and no other is owed
  pub answered : status ≤ lines.last_answer → Answers words r.rest w.old w.new status
  pub only : status ≤ lines.last_answer → IfSome r.rest (OwesOnly words w.old w.new status)
  pub early : status ≤ lines.last_answer → OwesOnlyEarly words w.old w.new status
  pub whole : status ≤ lines.last_answer → NeedsInput words → ReadsWhole r.rest r.left
  pub owed_certified : (formula : Text) → request_of words ≡ Some (Check formula) → status ≡ lines.positive
      → CertifiesTruth formula r.rest w.old w.new
  pub printed : (options : Options) (formula : Text) → request_of words ≡ Some (Decide options true formula) → status ≡ lines.positive
      → PrintsTruth options.reduces formula r.rest w.old w.new
  pub owed_confirmed : (formula : Text) → request_of words ≡ Some (Confirm formula) → status ≡ lines.positive
      → ConfirmsTerms formula r.rest w.old w.new
  pub printed_terms : (options : Options) (formula : Text) → request_of words ≡ Some (Witness options true formula) → status ≡ lines.positive
      → PrintsTerms formula r.rest w.old w.new
  pub limit : status ≡ lines.limited → (limit : _) × IsLimitOf words r.rest w.old w.new limit
  pub cut_short : status ≡ lines.write_failed → CutsShort words r.rest w.old w.new
  -- which status comes when
  pub statuses : (status ≤ lines.last_answer) ⊎ ((status ≡ lines.out_of_memory) ⊎ ((status ≡ lines.read_failed) ⊎ (status ≡ lines.write_failed)))
  pub read_fault : status ≡ lines.read_failed → FaultCounted r.faults r.faults_after
  pub reported : r.faults < r.faults_after → status ≡ lines.read_failed
  pub asked : status ≡ lines.read_failed → NeedsInput words
  pub write_fault : status ≡ lines.write_failed → FaultCounted w.faults w.faults_after
  pub complete : IsFaultless r w → (status ≤ lines.last_answer) ⊎ (status ≡ lines.out_of_memory)
  pub decided : IsFaultless r w → IsDecidable words r.rest → IsSettledOrLimited status
  pub kept : IsFaultless r w → IsDecidableWithin words r.rest → IsSettled status
  pub checked : IsFaultless r w → IsCheckable words r.rest → IsSettled status
  pub confirmable : IsFaultless r w → IsConfirmable words r.rest → IsSettled status
  pub searched : IsFaultless r w → IsSearchable words r.rest → IsSettledOrLimited status
  pub searched_within : IsFaultless r w → IsSearchableWithin words r.rest → IsSettled status
