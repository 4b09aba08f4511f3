use Rattle.std.proofs.Common.{◌≡◌, Bool, ℕ, map, subst, arith}
use Rattle.fort_certificate_theory.specs.Dues.{is_merged_in}
use Rattle.fort_steps.specs.StepView.{as_step}
use Rattle.fort_cert_checker.specs.Makings.{AreMergesMade}
use Rattle.fort_cert_checker.proofs.MakingLaws.{made_more}
use Rattle.fort_cert_checker.proofs.about.merged_parts.Goals as goal

pub loop-k-preserved : goal.loop-k-preserved
loop-k-preserved c =
    made_more (λ (k : ℕ) (b : Bool). b ≡ is_merged_in (map as_step c.args.steps.now) k) c.loop-k.k c.loop-k.merges.items c.push.new.self.items c.is_merged.result c.loop-k.invariant c.is_merged.ensures c.in_ok-push.ensures.items

pub returns : goal.returns
returns c = let e : c.loop-k.k ≡ c.args.parts = omega arith in subst (λ n. AreMergesMade (map as_step c.args.steps.now) n c.loop-k.merges.items) e c.loop-k.invariant
