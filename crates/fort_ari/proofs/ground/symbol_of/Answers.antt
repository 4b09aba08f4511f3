use Rattle.std.proofs.Common.{◌≡◌, Some, ap, ◌∙◌, subst}
use Rattle.std.specs.Prelude.{Contains}
use Rattle.fort_theory.specs.Signatures.{arity_of, name_of, names_of}
use Rattle.fort_theory.proofs.SignaturesLaws.{Contains-from_name_of}
use Rattle.fort_grammar.proofs.GroundTexts.{name_of-injective}
use Rattle.fort_ari.proofs.SideLaws.{below_from_name_of}
use Rattle.fort_ari.proofs.ground.symbol_of.Goals as goal

pub returns-in_err-sym-clause-none : goal.returns-in_err-sym-clause-none
returns-in_err-sym-clause-none c =
    rw c.from_residual-in_err-sym.ensures (λ g s.
    let word = s.word in
    let here = c.in_ok-word.ensures.some in
    let same : s.name ≡ c.in_ok-word.field-0.now = cc in
    c.in_err-sym.ensures.none (subst (Contains (names_of c.args.signature.now)) same (Contains-from_name_of c.args.signature.now s.name g s.is)))

pub arity-requires : goal.arity-requires
arity-requires c = below_from_name_of _ _ _ c.in_ok-sym.ensures.found

pub returns-then-arity-clause-none : goal.returns-then-arity-clause-none
returns-then-arity-clause-none c = λ g s.
    let word = s.word in
    let here = c.in_ok-word.ensures.some in
    let same : c.in_ok-word.field-0.now ≡ s.name = cc in
    let there : name_of c.args.signature.now c.in_ok-sym.sym.0 ≡ Some s.name = c.in_ok-sym.ensures.found ∙ ap Some same in
    let one : g ≡ c.in_ok-sym.sym.0 = name_of-injective c.args.signature.now g c.in_ok-sym.sym.0 s.name c.len-count.ensures.lawful.distinct s.is there in
    let takes : arity_of c.args.signature.now c.in_ok-sym.sym.0 ≡ Some c.args.arity = subst (λ k. arity_of c.args.signature.now k ≡ Some c.args.arity) one s.takes in
    let found = c.arity.ensures in
    let arities : c.arity.result ≡ c.args.arity = cc in c.if-arity.true arities
