-- A reply that was made, where there was memory for it, by the clauses of the call that made it.
use Rattle.std.proofs.Common.{◌≡◌, List, ℕ, ap}
use Rattle.std.specs.Prelude.{None, Result, Ok, Err, IfOk}
use Rattle.fort_run.specs.declared.reply.Reply.{Reply}
use Rattle.fort_run.specs.declared.status.Status.{Status}
use Rattle.fort_run.specs.StatusView.{code_of}

pub line_is : {E : Type 0} (r : Result Reply E) (status : Status) (text : List ℕ) (Q : Reply → Type 0)
    → ((x : Reply) → code_of x.status ≡ code_of status → x.text.items ≡ text → x.limit ≡ None → Q x) → IfOk r (λ x. x.status ≡ status)
    → IfOk r (λ x. x.text.items ≡ text) → IfOk r (λ x. x.limit ≡ None) → IfOk r Q
line_is (Ok x) status text Q from status_is text_is none = from x (ap code_of status_is) text_is none
line_is (Err e) status text Q from status_is text_is none = tt

-- one that is a verdict without a limit
pub verdict_is : {E : Type 0} (r : Result Reply E) (P Q : Reply → Type 0) → ((x : Reply) → P x → x.limit ≡ None → Q x) → IfOk r P
    → IfOk r (λ x. x.limit ≡ None) → IfOk r Q
verdict_is (Ok x) P Q from says none = from x says none
verdict_is (Err e) P Q from says none = tt
