use Rattle.std.proofs.Common.{◌+◌, ◌-◌, length, take, arith, ap, sym, subst, ◌∙◌, drop}
use Rattle.fort_formula_grammar.specs.TokenText.{counting, grounds_behind, BeginsWithNoToken, Reads}
use Rattle.fort_formula_grammar.specs.FormulaText.{Bad}
use Rattle.fort_formula_parser.specs.TokenView.{as_token, tokens_of}
use Rattle.fort_formula_parser.specs.Spellings.{IsSpottedAt}
use Rattle.fort_formula_parser.specs.Places.{HavePlaces}
use Rattle.fort_formula_parser.proofs.PlacesLaws.{Reads-none, HavePlaces-none, Reads-blank, Bad-at, drop-slice, more_tokens, counting-few}
use Rattle.fort_formula_parser.proofs.lexer.lexemes.Goals as goal

pub tokens-init : goal.tokens-init
tokens-init c = let e = c.new-lexemes.ensures.items in record {
  within = omega arith;
  read = Reads-none c.args.text.now _ e;
  places = HavePlaces-none c.args.text.now _ e;
  count = sym (ap (λ xs. grounds_behind 0 (tokens_of xs)) e);
  few = omega arith;
}

pub tokens-preserved-then-is_blank : goal.tokens-preserved-then-is_blank
tokens-preserved-then-is_blank c = record {
  within = omega arith;
  read = Reads-blank c.args.text.now c.tokens.at _ 0 c.tokens-test.true (sym c.if-is_blank.ensures) c.tokens.invariant.read;
  places = c.tokens.invariant.places;
  count = c.tokens.invariant.count;
  few = omega (arith, c.tokens.invariant.few);
}

pub returns-in_default-clause-fault : goal.returns-in_default-clause-fault
returns-in_default-clause-fault c =
    Bad c.tokens.at
    (Bad-at c.args.text.now c.tokens.at _ 0 c.tokens-test.true (sym c.if-is_blank.ensures) c.tokens.invariant.read
    (subst (λ t. BeginsWithNoToken t) (drop-slice c.args.text.now c.tokens.at) c.in_default.ensures.none))

pub tokens-preserved : goal.tokens-preserved
tokens-preserved c =
    let text = c.args.text.now in
    let found = c.in-Some.field-0 in
    let spotted = subst (λ n. IsSpottedAt n (take (length text - c.tokens.at) (drop c.tokens.at text)) found) c.tokens.invariant.count c.in-Some.ensures.some in
    let more = more_tokens text c.tokens.at c.tokens.lexemes.items found c.tokens-test.true c.tokens.invariant.read c.tokens.invariant.places spotted in
    let items = c.in_ok-push.ensures.items in
    record {
      within = more.within;
      read = subst (λ xs. Reads 0 text (tokens_of xs) (drop (c.tokens.at + found.len) text)) (sym items) more.read;
      places = subst (λ xs. HavePlaces text xs) (sym items) more.places;
      count = c.counting-grounds.ensures ∙ (ap (λ n. counting n (as_token found.token)) c.tokens.invariant.count ∙ (more.count ∙ ap (λ xs. grounds_behind 0 (tokens_of xs)) (sym items)));
      few = counting-few c.tokens.grounds c.tokens.at found.len _ (as_token found.token) c.tokens.invariant.few spotted.spotted.some c.counting-grounds.ensures;
    }
