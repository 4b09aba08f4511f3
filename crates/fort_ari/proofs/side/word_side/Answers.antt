use Rattle.std.proofs.Common.{sym, arith, append-nil}
use Rattle.fort_grammar.specs.RuleForms.{AConstant}
use Rattle.fort_ari.proofs.SideHeads.{function_named, right_constant, right_variable, variable_read}
use Rattle.fort_ari.proofs.side.word_side.Goals as goal

pub returns-in-Some-find : goal.returns-in-Some-find
returns-in-Some-find c = rw (c.new-in-Some-find.ensures, c.new.ensures.items) (record {
  names = _;
  added = sym (append-nil _);
  is = AConstant (function_named _ _ _ c.len-count.ensures.lawful c.in-Some.ensures.some c.in-Some-find.ensures.found)
      (right_constant _ _ _ _ c.in-Some.ensures.some _ c.len-count.ensures.lawful c.in-Some-find.ensures.found c.requires.right);
})

pub returns : goal.returns
returns c =
    variable_read (λ name. name.now) _ c.args.names.now.items c.push.new.self.items c.in-Some.name c.in-Ok.variable c.in_ok-push.ensures.items (omega (arith, c.len.ensures, c.in-Ok.ensures))
    (right_variable _ _ _ _ c.in-Some.ensures.some c.in_default-find.ensures.none c.requires.right)
