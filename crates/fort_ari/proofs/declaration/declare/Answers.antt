use Rattle.std.proofs.Common.{◌≡◌, ◌<◌, ◌++◌, ◌∷◌, [], length, true, false, refl, sym, ◌∙◌, arith}
use Rattle.fort_theory.specs.Signatures.{symbol}
use Rattle.fort_grammar.specs.Declarations.{OneTooMany, NotThreeWords, NoName, NoArity, Twice}
use Rattle.fort_theory.proofs.SignaturesLaws.{Contains-from_name_of}
use Rattle.fort_ari.proofs.Declared.{Declares-words, some_from_is_some, none_from_is_some}
use Rattle.fort_ari.proofs.declaration.declare.Goals as goal

pub returns-then-len-eq-MOST_FUNCTIONS-clause-fault : goal.returns-then-len-eq-MOST_FUNCTIONS-clause-fault
returns-then-len-eq-MOST_FUNCTIONS-clause-fault c = OneTooMany (sym c.len.ensures.count ∙ c.if-len-eq-MOST_FUNCTIONS.true)

pub returns-in_default-clause-fault : goal.returns-in_default-clause-fault
returns-in_default-clause-fault c =
    let few : length c.args.signature.now < 255 = omega (arith, c.len.ensures.lawful.few) in
    NotThreeWords few c.in_default.ensures.none

pub returns-then-not-is_name-clause-fault : goal.returns-then-not-is_name-clause-fault
returns-then-not-is_name-clause-fault c =
    let few : length c.args.signature.now < 255 = omega (arith, c.len.ensures.lawful.few) in
    NoName _ _ _ few c.in-Some.ensures.some (λ named. let no : false ≡ true = c.if-not-is_name.ensures.1 named in cc)

pub returns-in_default-arity_of-clause-fault : goal.returns-in_default-arity_of-clause-fault
returns-in_default-arity_of-clause-fault c =
    let few : length c.args.signature.now < 255 = omega (arith, c.len.ensures.lawful.few) in
    NoArity _ _ _ few c.in-Some.ensures.some (c.if-not-is_name.ensures.0 refl) c.in_default-arity_of.ensures.none

pub returns-then-is_some-clause-fault : goal.returns-then-is_some-clause-fault
returns-then-is_some-clause-fault c =
    let few : length c.args.signature.now < 255 = omega (arith, c.len.ensures.lawful.few) in
    let there = some_from_is_some c.find.result (sym c.is_some.ensures ∙ c.if-is_some.true) c.find.ensures.found in
    Twice _ _ _ _ few c.in-Some.ensures.some (c.if-not-is_name.ensures.0 refl) c.in-Some-arity_of.ensures.some
    (Contains-from_name_of c.args.signature.now c.in-Some.words.name.now _ there.1)

pub returns-in-Ok-clause-ok : goal.returns-in-Ok-clause-ok
returns-in-Ok-clause-ok c = record {
  next = symbol c.in-Some.words.name.now c.in-Some-arity_of.arity;
  declares = Declares-words _ _ _ _ _ c.in-Some.ensures.some (c.if-not-is_name.ensures.0 refl) c.in-Some-arity_of.ensures.some;
  few = omega (arith, c.len.ensures.lawful.few);
  fresh = λ has. let twice = c.in-Ok.ensures.duplicate.1 has in cc;
  is = c.in-Ok.ensures.ok;
}

pub returns-in-Err-Memory-clause-memory : goal.returns-in-Err-Memory-clause-memory
returns-in-Err-Memory-clause-memory c _ =
    let next = symbol c.in-Some.words.name.now c.in-Some-arity_of.arity in (
      c.args.signature.now ++ next ∷ [],
      record {
        next = next;
        declares = Declares-words _ _ _ _ _ c.in-Some.ensures.some (c.if-not-is_name.ensures.0 refl) c.in-Some-arity_of.ensures.some;
        few = omega (arith, c.len.ensures.lawful.few);
        fresh = none_from_is_some c.find.result (sym c.is_some.ensures ∙ c.if-is_some.false) c.find.ensures.none;
        is = refl;
      },
    )
