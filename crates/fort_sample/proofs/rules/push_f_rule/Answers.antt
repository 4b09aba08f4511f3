use Rattle.std.proofs.Common.{◌∙◌, ap, arith}
use Rattle.std.proofs.lemmas.Result.{on_ok_weaker}
use Rattle.fort_answers.specs.MadeProblem.{f_side}
use Rattle.fort_answers.proofs.MadeLaws.{f_rule-separated}
use Rattle.fort_terms.specs.SideView.{as_side}
use Rattle.fort_sample.proofs.MadeRules.{f_arity, count_so_far, pushed_f, made_by_parts}
use Rattle.fort_sample.proofs.rules.push_f_rule.Goals as goal

pub push-requires-clause-few : goal.push-requires-clause-few
push-requires-clause-few c = omega (arith, count_so_far c.args.n c.args.n c.args.system.now.rules c.requires.so_far.rules)

pub push-requires-clause-left_fits : goal.push-requires-clause-left_fits
push-requires-clause-left_fits c =
    rw (c.requires.so_far.signature, c.in_ok-left.ensures, c.in_ok-inner.ensures) (f_arity c.args.n, ((f_arity c.args.n, (tt, tt)), tt))

pub push-requires-clause-separated : goal.push-requires-clause-separated
push-requires-clause-separated c =
    rw (c.in_ok-left.ensures, c.in_ok-inner.ensures, c.constant-right.ensures) (f_rule-separated c.args.n)

pub returns : goal.returns
returns c =
    on_ok_weaker c.push.result (λ pushed.
    made_by_parts c.args.n c.push.new.system (c.push.ensures.same ∙ c.requires.so_far.signature)
    (pushed_f c.args.n (as_side c.in_ok-left.left) (as_side c.constant-right.result) c.args.system.now.rules c.push.new.system.rules
    c.requires.so_far.rules (c.in_ok-left.ensures ∙ ap (f_side c.args.n) c.in_ok-inner.ensures) c.constant-right.ensures pushed))
    c.push.ensures.rules
