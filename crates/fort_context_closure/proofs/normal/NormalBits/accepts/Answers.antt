use Rattle.std.proofs.Common.{◌≡◌, length, ◌∙◌, arith, refl}
use Rattle.fort_alike.specs.Atoms.{NfKind}
use Rattle.fort_alike.specs.Alike.{IsNormal}
use Rattle.fort_context_closure.specs.NormalView.{normal_seen, normal_patterns}
use Rattle.fort_context_closure.proofs.NodeRowLaws.{accepts-fact}
use Rattle.fort_context_closure.proofs.normal.NormalBits.accepts.Goals as goal

pub returns : goal.returns
returns c =
    let b = c.self.inside in
    let base : c.len.result ≡ length (normal_patterns b) = omega (arith, c.len.ensures, c.self.invariant.numbers.count) in
    rw (← c.self.view_is) (c.has_mark.ensures ∙ accepts-fact (normal_seen b) NfKind IsNormal c.args.label.now c.len.result refl (omega (arith, base)) (λ bit pairs. refl))
