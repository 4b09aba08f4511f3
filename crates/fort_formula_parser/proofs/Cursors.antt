-- The token at a place, and what it isn't.
use Rattle.std.proofs.Common.{◌≡◌, ℕ, ◌+◌, ◌<◌, ◌≤◌, Bool, true, false, List, [], ◌∷◌, length, get_or, MatchBool, refl, sym, ap, ◌∙◌, subst, arith}
use Rattle.std.proofs.lemmas.List.{drop_more, drop_all, length-map}
use Rattle.fort_logic.specs.Formulas as theory
use Rattle.fort_logic.specs.Formulas.{Name}
use Rattle.fort_formula_grammar.specs.Tokens as grammar
use Rattle.fort_formula_grammar.specs.Tokens.{Token}
use Rattle.fort_formula_grammar.specs.ExpressionGrammar.{begins_with_index, IsIndex, Given, LeftOut}
use Rattle.fort_formula_grammar.specs.FormulaGrammar.{takes_index, ByRules, IsArgument, IsRelation, WithoutIndex, WithIndex}
use Rattle.fort_formula_grammar.specs.Continuations.{HasNoNext, HasNoArgument}
use Rattle.fort_formulas.specs.declared.surface.SurfaceRel as rels
use Rattle.fort_formulas.specs.declared.surface.SurfaceRel.TheVariants as rel_variants
use Rattle.fort_formulas.specs.FormulaView.{as_surface_rel}
use Rattle.fort_formula_parser.specs.declared.token.Token as code
use Rattle.fort_formula_parser.specs.declared.token.Token.TheVariants as variants
use Rattle.fort_formula_parser.specs.declared.token.Lexeme.{Lexeme}
use Rattle.fort_formula_parser.specs.declared.cursor.Indexed.{Indexed}
use Rattle.fort_formula_parser.specs.TokenView.{as_token, tokens_of}
use Rattle.fort_formula_parser.specs.Parsing.{rest_of, IsTokenAt, IsArgumentAt, IsIndexAt, HasNoRelated, IsRelationAt}
use Rattle.fort_formula_parser.proofs.PlacesLaws.{tokens_of-at}

pub rest_of-at : (lexemes : List Lexeme) (at : ℕ) (lexeme : Lexeme) → at < length lexemes → ((d : Lexeme) → lexeme ≡ get_or lexemes at d)
    → rest_of lexemes at ≡ as_token lexeme.token ∷ rest_of lexemes (at + 1)
rest_of-at lexemes at lexeme lt here =
    let size = length-map lexemes (λ l. as_token l.token) in
    drop_more (tokens_of lexemes) at grammar.Open (omega (arith, lt, size))
    ∙ ap (λ t. t ∷ rest_of lexemes (at + 1)) (tokens_of-at lexemes at lexeme grammar.Open lt ∙ ap (λ l. as_token l.token) (sym (here lexeme)))

pub IsTokenAt-lexeme : (lexemes : List Lexeme) (at : ℕ) (lexeme : Lexeme) (t : Token) → at < length lexemes → ((d : Lexeme) → lexeme ≡ get_or lexemes at d)
    → as_token lexeme.token ≡ t → IsTokenAt lexemes at t
IsTokenAt-lexeme lexemes at lexeme t lt here is = record {
  within = lt;
  next = rest_of-at lexemes at lexeme lt here ∙ ap (λ s. s ∷ rest_of lexemes (at + 1)) is;
}

pub HasNoNext-at : (lexemes : List Lexeme) (at : ℕ) (lexeme : Lexeme) (t : Token) → at < length lexemes → ((d : Lexeme) → lexeme ≡ get_or lexemes at d)
    → (as_token lexeme.token ≡ t → ⊥) → HasNoNext t (rest_of lexemes at)
HasNoNext-at lexemes at lexeme t lt here other rest h =
    let e = rest_of-at lexemes at lexeme lt here in other cc

pub rest_of-end : (lexemes : List Lexeme) (at : ℕ) → length lexemes ≤ at → rest_of lexemes at ≡ []
rest_of-end lexemes at le =
    let size = length-map lexemes (λ l. as_token l.token) in
    drop_all at (tokens_of lexemes) (omega (arith, size, le))

pub is_next_cases : (lexemes : List Lexeme) (at : ℕ) (lexeme : Lexeme) (t : Token) (b : Bool) → at < length lexemes → ((d : Lexeme) → lexeme ≡ get_or lexemes at d)
    → MatchBool b (as_token lexeme.token ≡ t) (as_token lexeme.token ≡ t → ⊥) → MatchBool b (IsTokenAt lexemes at t) (HasNoNext t (rest_of lexemes at))
is_next_cases lexemes at lexeme t true lt here h = IsTokenAt-lexeme lexemes at lexeme t lt here h
is_next_cases lexemes at lexeme t false lt here h = HasNoNext-at lexemes at lexeme t lt here h

pub other_variable : (t : code.Token) (x : Name) → ((y : _) → t ≡ variants.Variable y → ⊥) → as_token t ≡ grammar.Variable x → ⊥
other_variable (variants.Variable y) x other h = other y refl
other_variable t x other h = cc

-- arguments
pub argument_here : (lexemes : List Lexeme) (at : ℕ) (t : Token) (a : theory.Argument) → IsTokenAt lexemes at t
    → ((us : List Token) → IsArgument (t ∷ us) a us) → IsArgumentAt lexemes at a
argument_here lexemes at t a h rule = record {
  within = h.within;
  reads = subst (λ ts. IsArgument ts a (rest_of lexemes (at + 1))) (sym h.next) (rule (rest_of lexemes (at + 1)));
}

pub no_argument_end : {ts : List Token} → ts ≡ [] → HasNoArgument ts
no_argument_end {ts} e a us h = ended (subst (λ ts. IsArgument ts a us) e h)
  where
    ended : IsArgument [] a us → ⊥
    ended u = elim u [ ]

other_argument : (t : code.Token) (us : List Token) → ((x : _) → t ≡ variants.Variable x → ⊥) → ((k : _) (x : _) → t ≡ variants.Ground k x → ⊥)
    → HasNoArgument (as_token t ∷ us)
other_argument (variants.Variable x) us v g a vs h = v x refl
other_argument (variants.Ground k x) us v g a vs h = g k x refl
other_argument t us v g a vs h = elim h [ ]

pub no_argument_at : (lexemes : List Lexeme) (at : ℕ) (lexeme : Lexeme) → at < length lexemes → ((d : Lexeme) → lexeme ≡ get_or lexemes at d)
    → ((x : _) → lexeme.token ≡ variants.Variable x → ⊥) → ((k : _) (x : _) → lexeme.token ≡ variants.Ground k x → ⊥) → HasNoArgument (rest_of lexemes at)
no_argument_at lexemes at lexeme lt here v g =
    subst (λ ts. HasNoArgument ts) (sym (rest_of-at lexemes at lexeme lt here)) (other_argument lexeme.token (rest_of lexemes (at + 1)) v g)

-- indices
pub index_left_out : (lexemes : List Lexeme) (at : ℕ) → at ≤ length lexemes → begins_with_index (rest_of lexemes at) ≡ false
    → IsIndexAt lexemes at record { index = 1; next = at }
index_left_out lexemes at le none = record { further = omega arith; within = le; reads = LeftOut none }

pub index_here : (lexemes : List Lexeme) (at n : ℕ) → IsTokenAt lexemes at (grammar.Index n) → IsIndexAt lexemes at record { index = n; next = at + 1 }
index_here lexemes at n h = record {
  further = omega arith;
  within = omega (arith, h.within);
  reads = subst (λ ts. IsIndex ts n (rest_of lexemes (at + 1))) (sym h.next) Given;
}

pub no_index_end : {ts : List Token} → ts ≡ [] → begins_with_index ts ≡ false
no_index_end e = ap begins_with_index e

other_index : (t : code.Token) (us : List Token) → ((n : _) → t ≡ variants.Index n → ⊥) → begins_with_index (as_token t ∷ us) ≡ false
other_index (variants.Index n) us h = absurd (h n refl)
other_index t us h = refl

pub no_index_at : (lexemes : List Lexeme) (at : ℕ) (lexeme : Lexeme) → at < length lexemes → ((d : Lexeme) → lexeme ≡ get_or lexemes at d)
    → ((n : _) → lexeme.token ≡ variants.Index n → ⊥) → begins_with_index (rest_of lexemes at) ≡ false
no_index_at lexemes at lexeme lt here h =
    ap begins_with_index (rest_of-at lexemes at lexeme lt here) ∙ other_index lexeme.token (rest_of lexemes (at + 1)) h

-- relations
pub relation_alone : (lexemes : List Lexeme) (at : ℕ) (rel : rels.SurfaceRel) → IsTokenAt lexemes at (grammar.Related (as_surface_rel rel))
    → takes_index (as_surface_rel rel) ≡ false → IsRelationAt lexemes at record { rel = rel; index = 1; next = at + 1 }
relation_alone lexemes at rel h plain = record {
  further = omega arith;
  within = omega (arith, h.within);
  reads = subst (λ ts. IsRelation ts (ByRules (as_surface_rel rel) 1) (rest_of lexemes (at + 1))) (sym h.next) (WithoutIndex plain);
}

pub relation_with_index : (lexemes : List Lexeme) (at : ℕ) (rel : rels.SurfaceRel) (found : Indexed) → IsTokenAt lexemes at (grammar.Related (as_surface_rel rel))
    → takes_index (as_surface_rel rel) ≡ true → IsIndexAt lexemes (at + 1) found
    → IsRelationAt lexemes at record { rel = rel; index = found.index; next = found.next }
relation_with_index lexemes at rel found h takes i =
    let further : at + 1 ≤ found.next = i.further in record {
      further = omega arith;
      within = i.within;
      reads = subst (λ ts. IsRelation ts (ByRules (as_surface_rel rel) found.index) (rest_of lexemes found.next)) (sym h.next) (WithIndex takes i.reads);
    }

pub takes_index-other : (rel : rels.SurfaceRel) → (rel ≡ rel_variants.Eq → ⊥) → takes_index (as_surface_rel rel) ≡ true
takes_index-other rel_variants.Eq h = absurd (h refl)
takes_index-other rel h = refl

pub no_relation_end : {ts : List Token} → ts ≡ [] → HasNoRelated ts
no_relation_end e rel rest h = cc

other_relation : (t : code.Token) (rel : theory.SurfaceRel) → ((r : _) → t ≡ variants.Related r → ⊥) → as_token t ≡ grammar.Related rel → ⊥
other_relation (variants.Related r) rel other h = other r refl
other_relation t rel other h = cc

pub no_relation_at : (lexemes : List Lexeme) (at : ℕ) (lexeme : Lexeme) → at < length lexemes → ((d : Lexeme) → lexeme ≡ get_or lexemes at d)
    → ((r : _) → lexeme.token ≡ variants.Related r → ⊥) → HasNoRelated (rest_of lexemes at)
no_relation_at lexemes at lexeme lt here other rel rest h =
    HasNoNext-at lexemes at lexeme (grammar.Related rel) lt here (other_relation lexeme.token rel other) rest h
