use Rattle.std.proofs.Common.{◌≡◌, true, false, Some, refl, ap, ◌∙◌}
use Rattle.fort_grammar.specs.RuleForms.{AConstant, AVariable, NoName, NoConstant}
use Rattle.fort_ari.proofs.SideLaws.{below_from_name_of, IsName-found}
use Rattle.fort_ari.proofs.side.check_word.Goals as goal

pub returns-then-not-is_name-clause-fault : goal.returns-then-not-is_name-clause-fault
returns-then-not-is_name-clause-fault c =
    NoName _ c.in-Some.ensures.some (λ named. let none : false ≡ true = c.if-not-is_name.ensures.1 named in cc)

pub returns-in_default-find-clause-ok : goal.returns-in_default-find-clause-ok
returns-in_default-find-clause-ok c = record {
  side = _;
  names = _;
  is = AVariable (record { word = c.in-Some.ensures.some; named = c.if-not-is_name.ensures.0 refl; free = c.in_default-find.ensures.none });
}

pub arity-requires : goal.arity-requires
arity-requires c = below_from_name_of _ _ _ c.in-Some-find.ensures.found

pub returns-then-arity-ne0-clause-fault : goal.returns-then-arity-ne0-clause-fault
returns-then-arity-ne0-clause-fault c =
    NoConstant c.in-Some-find.sym.0 (record {
      name = c.in-Some.name.now;
      word = c.in-Some.ensures.some;
      named = IsName-found c.args.signature.now _ _ c.len-count.ensures.lawful c.in-Some-find.ensures.found;
      declared = c.in-Some-find.ensures.found;
    }) (λ none. let is = c.arity.ensures in let zero : c.arity.result ≡ 0 = cc in c.if-arity-ne0.true zero)

pub returns-clause-ok : goal.returns-clause-ok
returns-clause-ok c = record {
  side = _;
  names = _;
  is = AConstant (record {
    name = c.in-Some.name.now;
    word = c.in-Some.ensures.some;
    named = IsName-found c.args.signature.now _ _ c.len-count.ensures.lawful c.in-Some-find.ensures.found;
    declared = c.in-Some-find.ensures.found;
  }) (c.arity.ensures ∙ ap Some c.if-arity-ne0.false);
}
