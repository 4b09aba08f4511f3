use Rattle.std.proofs.Common.{◌∙◌, arith}
use Rattle.std.proofs.lemmas.Result.{on_ok_weaker}
use Rattle.fort_answers.proofs.MadeLaws.{constant_rule-separated}
use Rattle.fort_terms.specs.SideView.{as_side}
use Rattle.fort_sample.proofs.MadeRules.{constant_arity, count_so_far, pushed_constant}
use Rattle.fort_sample.proofs.rules.push_constant_rule.Goals as goal

pub push-requires-clause-few : goal.push-requires-clause-few
push-requires-clause-few c = omega (arith, count_so_far c.args.n c.args.i c.args.system.now.rules c.requires.so_far.rules)

pub push-requires-clause-left_fits : goal.push-requires-clause-left_fits
push-requires-clause-left_fits c = rw (c.requires.so_far.signature, c.constant-left.ensures) (constant_arity c.args.n c.args.i c.requires.within, tt)

pub push-requires-clause-right_fits : goal.push-requires-clause-right_fits
push-requires-clause-right_fits c =
    rw (c.requires.so_far.signature, c.constant-right.ensures, c.target.ensures) (constant_arity c.args.n _ (omega arith), tt)

pub push-requires-clause-separated : goal.push-requires-clause-separated
push-requires-clause-separated c =
    rw (c.constant-left.ensures, c.constant-right.ensures, c.target.ensures) (constant_rule-separated c.args.n c.args.i)

pub returns : goal.returns
returns c =
    on_ok_weaker c.push.result (λ pushed. record {
      signature = c.push.ensures.same ∙ c.requires.so_far.signature;
      rules =
          pushed_constant c.args.n c.args.i (as_side c.constant-left.result) (as_side c.constant-right.result) c.args.system.now.rules c.push.new.system.rules
          c.requires.so_far.rules c.constant-left.ensures (rw c.target.ensures at c.constant-right.ensures) pushed;
    }) c.push.ensures.rules
