use Rattle.std.proofs.Common.{sym, subst, rules}
use Rattle.std.proofs.lemmas.Option.{IfSome_then}
use Rattle.std.proofs.lemmas.Result.{IfOk-weaker, IfErr-weaker}
use Rattle.fort_theory.specs.Patterns.{PatternSystem}
use Rattle.fort_parts.specs.DecidedCores.{IsDecided}
use Rattle.fort_formulas.specs.CoreView.{as_core}
use Rattle.fort_synth.specs.SearchAnswers.{IfDecide}
use Rattle.fort_synth.specs.declared.search.SynthFault.{SynthFault}
use Rattle.fort_synth.specs.declared.search.SynthFault.TheVariants.{Memory, Decide}
use Rattle.fort_run.proofs.synth.first_true.Goals as goal

pub first_system-requires-clause-callable : goal.first_system-requires-clause-callable
first_system-requires-clause-callable c own picked shown is = λ lifetimes ptr same one other lent. (
  as_core c.args.core.now,
  record { decided = subst (λ (s : PatternSystem). IsDecided s (as_core c.args.core.now)) (sym is) (c.requires.decided own picked); laid = c.in_ok-outline.ensures },
  c.requires.closed,
)

decide_then : {E : Type 0} (e : SynthFault E) (P Q : PatternSystem → E → Type 0) → ((s : PatternSystem) (x : E) → P s x → Q s x) → IfDecide e P → IfDecide e Q
decide_then Memory P Q f has = tt
decide_then (Decide s x) P Q f has = f s x has

pub returns-clause-found : goal.returns-clause-found
returns-clause-found c =
    IfOk-weaker c.first_system.result _ _ (λ o own. IfSome_then o own (λ s first. record {
      rules = first.rules;
      is = first.is;
      comes = record { picked = first.picked; before = λ others is b. let a = first.before others is b in search rules };
      has = let a = first.answered in search rules;
    })) c.first_system.ensures.found

pub returns-clause-over : goal.returns-clause-over
returns-clause-over c =
    IfErr-weaker c.first_system.result _ _ (λ e own. decide_then e _ _ (λ s fault first. record {
      rules = first.rules;
      is = first.is;
      comes = record { picked = first.picked; before = λ others is b. let a = first.before others is b in search rules };
      over = let a = first.answered in search rules;
    }) own) c.first_system.ensures.fault
