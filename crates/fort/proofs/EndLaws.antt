-- How a run ends that did nothing, and what a status that is the same says.
use Rattle.std.proofs.Common.{◌≡◌, ℕ, List, [], inl, inr, sym, subst, refl, arith, true≢false}
use Rattle.std.specs.Prelude.{Option, Some, None, IfSome, IsSome, Result, Ok, Err, IfOk, IfErr}
use Rattle.fort_answers.specs.Requests.{Text}
use Rattle.fort_answers.specs.Answer.{NeedsNoInput}
use Rattle.fort_answers.specs.CommandGrammar.{request_of}
use Rattle.fort_answers.specs.Lines.{out_of_memory}
use Rattle.fort.specs.Ends.{Reads, Writes, EndsAsRun, reads, writes}

pub EndsAsRun-at : (words : List Text) (r : Reads) (w : Writes) (status other : ℕ) → other ≡ status → EndsAsRun words r w status → EndsAsRun words r w other
EndsAsRun-at words r w status other same ends = subst (EndsAsRun words r w) (sym same) ends

-- no words ask nothing
pub NeedsNoInput-none : NeedsNoInput []
unfolding request_of
NeedsNoInput-none asks = asks

-- where a run has something, it has it with what holds of it
pub IsSome-value : {A : Type 0} {P : A → Type 0} (o : Option A) → IsSome o → IfSome o P → (x : A) × P x
IsSome-value (Some x) there holds = (x, holds)
IsSome-value None there holds = absurd (true≢false (sym there))

-- want of memory before anything was read or written
pub EndsAsRun-nothing : (words : List Text) (rest : Option Text) (faults : ℕ) (taken : Option Text) (counted : ℕ)
    → EndsAsRun words (reads rest rest faults faults) (writes taken taken counted counted) out_of_memory
EndsAsRun-nothing words rest faults taken counted = record {
  yes = λ formula asks e. absurd (omega (arith, e));
  no = λ formula asks e. absurd (omega (arith, e));
  certified = λ formula asks e. absurd (omega (arith, e));
  found = λ formula asks e. absurd (omega (arith, e));
  none = λ formula asks e. absurd (omega (arith, e));
  confirmed = λ formula asks e. absurd (omega (arith, e));
  solved = λ height formula asks e. absurd (omega (arith, e));
  system = λ rules height formula asks e. absurd (omega (arith, e));
  no_system = λ rules height formula asks e. absurd (omega (arith, e));
  answered = λ e. absurd (omega (arith, e));
  only = λ e. absurd (omega (arith, e));
  early = λ e. absurd (omega (arith, e));
  whole = λ e asks. absurd (omega (arith, e));
  owed_certified = λ formula asked e. absurd (omega (arith, e));
  printed = λ options formula asked e. absurd (omega (arith, e));
  owed_confirmed = λ formula asked e. absurd (omega (arith, e));
  printed_terms = λ options formula asked e. absurd (omega (arith, e));
  limit = λ e. absurd (omega (arith, e));
  cut_short = λ e. absurd (omega (arith, e));
  statuses = inr (inl refl);
  read_fault = λ e. absurd (omega (arith, e));
  reported = λ e. absurd (omega (arith, e));
  asked = λ e. absurd (omega (arith, e));
  write_fault = λ e. absurd (omega (arith, e));
  complete = λ faultless. inr refl;
  decided = λ faultless is. inr (inr refl);
  kept = λ faultless is. inr refl;
  checked = λ faultless is. inr refl;
  confirmable = λ faultless is. inr refl;
  searched = λ faultless is. inr (inr refl);
  searched_within = λ faultless is. inr refl;
}

-- ---- what holds of a value or an error

module _ {A E : Type 0} where
  pub IfOk-map : {P Q : A → Type 0} (r : Result A E) → ((x : A) → P x → Q x) → IfOk r P → IfOk r Q
  IfOk-map (Ok x) goes holds = goes x holds
  IfOk-map (Err e) goes holds = tt

  pub IfErr-map : {P Q : E → Type 0} (r : Result A E) → ((e : E) → P e → Q e) → IfErr r P → IfErr r Q
  IfErr-map (Ok x) goes holds = tt
  IfErr-map (Err e) goes holds = goes e holds

  pub IfOk-each : {Q : A → Type 0} (r : Result A E) → ((x : A) → Q x) → IfOk r Q
  IfOk-each (Ok x) each = each x
  IfOk-each (Err e) each = tt

  pub IfErr-each : {Q : E → Type 0} (r : Result A E) → ((e : E) → Q e) → IfErr r Q
  IfErr-each (Ok x) each = tt
  IfErr-each (Err e) each = each e
