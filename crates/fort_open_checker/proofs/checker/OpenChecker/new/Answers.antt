use Rattle.std.proofs.Common.{◌≡◌, List, map, length, refl, subst, arith}
use Rattle.std.proofs.lemmas.List.{length-map}
use Rattle.fort_formulas.specs.CoreView.{as_core}
use Rattle.fort_steps.specs.StepView.{as_step}
use Rattle.fort_steps.specs.declared.step.Step.{Step}
use Rattle.fort_steps.specs.OpenView.{as_node}
use Rattle.fort_cert_checker.specs.StepCheckers.{IsStepCheckerOf}
use Rattle.fort_open_checker.specs.NodeStates.{HasNodeRoom}
use Rattle.fort_open_checker.proofs.checker.OpenChecker.new.Goals as goal

pub whole_room-requires : goal.whole_room-requires
whole_room-requires c = (c.args.system.now, as_core c.args.core.now, c.args.certificate.now.first, map as_step c.as_slice-listed.result.now, c.in_ok-steps.ensures)

pub returns : goal.returns
returns c =
    let own = c.args.certificate.now in
    let f = as_core c.args.core.now in
    let count : c.len.result ≡ length (map as_node own.nodes.items) = omega (arith, c.len.ensures, own.nodes.ok.0, length-map own.nodes.items as_node) in
    record {
      certificate_is = refl;
      columns = c.requires.open;
      forms = omega (arith, c.if-not-has_forms.ensures.0 refl, length-map own.steps.items as_step, length-map own.nodes.items as_node);
      steps = subst (λ (ss : List Step). IsStepCheckerOf c.args.system.now f own.first (map as_step ss) c.in_ok-steps.steps) c.as_slice-listed.ensures.value c.in_ok-steps.ensures;
      whole = c.in_ok-whole.ensures;
      nodes = subst (λ n. HasNodeRoom n c.in_ok-nodes.nodes) count c.in_ok-nodes.ensures;
    }
