-- What reading a formula with no connective between others gives, from what reading its parts gives.
use Rattle.std.proofs.Common.{◌≡◌, ℕ, ◌+◌, ◌<◌, ◌≤◌, false, List, ◌∷◌, length, refl, sym, ap, ◌∙◌, subst, arith}
use Rattle.fort_logic.specs.Formulas as theory
use Rattle.fort_logic.specs.Formulas.{Name, Formula}
use Rattle.fort_formula_grammar.specs.Tokens.{Token, Open, Close, Comma, Not, Exists, Forall, Infinite, Variable}
use Rattle.fort_formula_grammar.specs.FormulaGrammar as grammar
use Rattle.fort_formula_grammar.specs.FormulaGrammar.{Quantifier, quantified, IsFormula, IsUnary, IsBound, AVariable, AGround, Negated, ForSome, ForEvery, Infinitely, Enclosed, LastBinder, MoreBinders}
use Rattle.fort_formula_grammar.specs.Continuations.{begins_unary, HasNoNext, HasNoVariable, HasNoArgument}
use Rattle.fort_formula_grammar.specs.Stuck.{starts_unary, StuckFormula, StuckUnary, NoUnary, UnderNot, UnderExists, UnderForall, NoInfiniteVariable, UnderInfinite, Within, StuckBinders, NoBinder, InMoreBinders, BehindBinders, StuckBody, Unopened, Inside, Unclosed}
use Rattle.fort_formula_parser.specs.declared.token.Token as code
use Rattle.fort_formula_parser.specs.declared.token.Token.TheVariants as variants
use Rattle.fort_formula_parser.specs.declared.token.Lexeme.{Lexeme}
use Rattle.fort_formula_parser.specs.declared.reading.Reading.{Reading}
use Rattle.fort_formula_parser.specs.TokenView.{as_token}
use Rattle.fort_formula_parser.specs.Parsing.{rest_of, IsTokenAt, IsMade, IsParsed, IsBuilt, IsWholeFormula, IsBody, Body}
use Rattle.fort_formula_parser.proofs.Atoms.{rest_of-next, IsParsed-unary, stuck_behind}
use Rattle.fort_formula_parser.proofs.Levels.{IsParsed-built, before_next}

-- bodies
pub IsParsed-body : (lexemes : List Lexeme) (at : ℕ) (inner p : Reading) → IsTokenAt lexemes at Open → IsParsed IsWholeFormula lexemes (at + 1) inner
    → IsTokenAt lexemes inner.next Close → p.made ≡ inner.made → p.next ≡ inner.next + 1 → IsParsed IsBody lexemes at p
IsParsed-body lexemes at inner p opens h closes same place =
    let a : at + 1 < inner.next = h.further in
    let b : inner.next < length lexemes = closes.within in
    IsParsed-built IsBody lexemes at (inner.next + 1) h.formula p (omega arith) (omega arith)
    (subst (λ ts. IsBody ts h.formula (rest_of lexemes (inner.next + 1))) (sym opens.next)
    (Body (before_next IsWholeFormula lexemes (at + 1) inner Close h closes).0))
    record { is_made = subst (λ made. IsMade made h.formula) (sym same) h.is_made; place = place }

pub stuck_unopened : (lexemes : List Lexeme) (at : ℕ) → at ≤ length lexemes → HasNoNext Open (rest_of lexemes at)
    → (at ≤ length lexemes) × StuckBody (rest_of lexemes at) (rest_of lexemes at)
stuck_unopened lexemes at le none = (le, Unopened none)

pub stuck_inside : (lexemes : List Lexeme) (at : ℕ) → IsTokenAt lexemes at Open → (us : List Token) → StuckFormula (rest_of lexemes (at + 1)) us
    → StuckBody (rest_of lexemes at) us
stuck_inside lexemes at opens us stuck = subst (λ ts. StuckBody ts us) (sym opens.next) (Inside stuck)

pub stuck_unclosed : (lexemes : List Lexeme) (at : ℕ) (inner : Reading) → IsTokenAt lexemes at Open → IsParsed IsWholeFormula lexemes (at + 1) inner
    → HasNoNext Close (rest_of lexemes inner.next) → (inner.next ≤ length lexemes) × StuckBody (rest_of lexemes at) (rest_of lexemes inner.next)
stuck_unclosed lexemes at inner opens h none = stuck_behind StuckBody lexemes at inner.next Open opens h.within (Unclosed h.reads.0 h.reads.1 none)

-- binders
body_bound : {q : Quantifier} {x : Name} {ts us : List Token} {f : Formula} → IsBody ts f us → IsBound q (Variable x ∷ ts) (quantified q x f) us
body_bound (Body d) = LastBinder d

pub IsParsed-last_binder : (lexemes : List Lexeme) (at : ℕ) (q : Quantifier) (x : Name) (body p : Reading) → IsTokenAt lexemes at (Variable x)
    → IsParsed IsBody lexemes (at + 1) body → IsBuilt (quantified q x) body p → IsParsed (IsBound q) lexemes at p
IsParsed-last_binder lexemes at q x body p named h built =
    let a : at + 1 < body.next = h.further in
    IsParsed-built (IsBound q) lexemes at body.next _ p (omega arith) h.within
    (subst (λ ts. IsBound q ts (quantified q x h.formula) (rest_of lexemes body.next)) (sym named.next) (body_bound h.reads)) (built h.formula h.is_made)

pub IsParsed-more_binders : (lexemes : List Lexeme) (at : ℕ) (q : Quantifier) (x : Name) (others p : Reading) → IsTokenAt lexemes at (Variable x)
    → IsTokenAt lexemes (at + 1) Comma → IsParsed (IsBound q) lexemes (at + 2) others → IsBuilt (quantified q x) others p
    → IsParsed (IsBound q) lexemes at p
IsParsed-more_binders lexemes at q x others p named comma h built =
    let a : at + 2 < others.next = h.further in
    let whole : rest_of lexemes at ≡ Variable x ∷ Comma ∷ rest_of lexemes (at + 2) =
    named.next ∙ ap (λ ts. Variable x ∷ ts) (rest_of-next lexemes (at + 1) (at + 2) Comma comma (omega arith)) in
    IsParsed-built (IsBound q) lexemes at others.next _ p (omega arith) h.within
    (subst (λ ts. IsBound q ts (quantified q x h.formula) (rest_of lexemes others.next)) (sym whole) (MoreBinders h.reads)) (built h.formula h.is_made)

pub stuck_no_binder : (lexemes : List Lexeme) (at : ℕ) → at ≤ length lexemes → HasNoVariable (rest_of lexemes at)
    → (at ≤ length lexemes) × StuckBinders (rest_of lexemes at) (rest_of lexemes at)
stuck_no_binder lexemes at le none = (le, NoBinder none)

pub stuck_behind_binders : (lexemes : List Lexeme) (at : ℕ) (x : Name) → IsTokenAt lexemes at (Variable x)
    → HasNoNext Comma (rest_of lexemes (at + 1)) → (us : List Token) → StuckBody (rest_of lexemes (at + 1)) us → StuckBinders (rest_of lexemes at) us
stuck_behind_binders lexemes at x named parted us stuck = subst (λ ts. StuckBinders ts us) (sym named.next) (BehindBinders parted stuck)

pub stuck_more_binders : (lexemes : List Lexeme) (at : ℕ) (x : Name) → IsTokenAt lexemes at (Variable x) → IsTokenAt lexemes (at + 1) Comma
    → (us : List Token) → StuckBinders (rest_of lexemes (at + 2)) us → StuckBinders (rest_of lexemes at) us
stuck_more_binders lexemes at x named comma us stuck =
    let whole : rest_of lexemes at ≡ Variable x ∷ Comma ∷ rest_of lexemes (at + 2) =
    named.next ∙ ap (λ ts. Variable x ∷ ts) (rest_of-next lexemes (at + 1) (at + 2) Comma comma (omega arith)) in
    subst (λ ts. StuckBinders ts us) (sym whole) (InMoreBinders stuck)

-- the formula behind a token
behind_token : (K : List Token → Formula → List Token → Type 0) (lexemes : List Lexeme) (at : ℕ) (t : Token) (inner : Reading) → IsTokenAt lexemes at t
    → (h : IsParsed K lexemes (at + 1) inner) → IsUnary (t ∷ rest_of lexemes (at + 1)) h.formula (rest_of lexemes inner.next)
    → IsParsed IsUnary lexemes at inner
behind_token K lexemes at t inner n h u =
    let a : at + 1 < inner.next = h.further in
    IsParsed-built IsUnary lexemes at inner.next h.formula inner (omega arith) h.within
    (subst (λ ts. IsUnary ts h.formula (rest_of lexemes inner.next)) (sym n.next) u)
    record { is_made = h.is_made; place = refl }

pub IsParsed-negated : (lexemes : List Lexeme) (at : ℕ) (operand p : Reading) → IsTokenAt lexemes at Not → IsParsed IsUnary lexemes (at + 1) operand
    → IsBuilt theory.Not operand p → IsParsed IsUnary lexemes at p
IsParsed-negated lexemes at operand p n h built =
    let a : at + 1 < operand.next = h.further in
    IsParsed-built IsUnary lexemes at operand.next _ p (omega arith) h.within
    (subst (λ ts. IsUnary ts (theory.Not h.formula) (rest_of lexemes operand.next)) (sym n.next) (Negated h.reads)) (built h.formula h.is_made)

pub IsParsed-some : (lexemes : List Lexeme) (at : ℕ) (p : Reading) → IsTokenAt lexemes at Exists → IsParsed (IsBound grammar.Some) lexemes (at + 1) p
    → IsParsed IsUnary lexemes at p
IsParsed-some lexemes at p n h = behind_token (IsBound grammar.Some) lexemes at Exists p n h (ForSome h.reads)

pub IsParsed-every : (lexemes : List Lexeme) (at : ℕ) (p : Reading) → IsTokenAt lexemes at Forall → IsParsed (IsBound grammar.Every) lexemes (at + 1) p
    → IsParsed IsUnary lexemes at p
IsParsed-every lexemes at p n h = behind_token (IsBound grammar.Every) lexemes at Forall p n h (ForEvery h.reads)

body_unary : {ts us : List Token} {f : Formula} → IsBody ts f us → IsUnary ts f us
body_unary (Body d) = Enclosed d

pub IsParsed-enclosed : (lexemes : List Lexeme) (at : ℕ) (p : Reading) → IsParsed IsBody lexemes at p → IsParsed IsUnary lexemes at p
IsParsed-enclosed lexemes at p h = record {
  further = h.further;
  within = h.within;
  formula = h.formula;
  reads = body_unary h.reads;
  is_made = h.is_made;
}

body_infinite : {x : Name} {ts us : List Token} {f : Formula} → IsBody ts f us → IsUnary (Infinite ∷ Variable x ∷ ts) (theory.Infinite x f) us
body_infinite (Body d) = Infinitely d

pub IsParsed-infinite : (lexemes : List Lexeme) (at : ℕ) (x : Name) (body p : Reading) → IsTokenAt lexemes at Infinite → IsTokenAt lexemes (at + 1) (Variable x)
    → IsParsed IsBody lexemes (at + 2) body → IsBuilt (theory.Infinite x) body p → IsParsed IsUnary lexemes at p
IsParsed-infinite lexemes at x body p n named h built =
    let a : at + 2 < body.next = h.further in
    let whole : rest_of lexemes at ≡ Infinite ∷ Variable x ∷ rest_of lexemes (at + 2) =
    n.next ∙ ap (λ ts. Infinite ∷ ts) (rest_of-next lexemes (at + 1) (at + 2) (Variable x) named (omega arith)) in
    IsParsed-built IsUnary lexemes at body.next _ p (omega arith) h.within
    (subst (λ ts. IsUnary ts (theory.Infinite x h.formula) (rest_of lexemes body.next)) (sym whole) (body_infinite h.reads)) (built h.formula h.is_made)

-- stuck behind the first token
pub stuck_not : (lexemes : List Lexeme) (at : ℕ) → IsTokenAt lexemes at Not → (us : List Token) → StuckUnary (rest_of lexemes (at + 1)) us
    → StuckUnary (rest_of lexemes at) us
stuck_not lexemes at n us stuck = subst (λ ts. StuckUnary ts us) (sym n.next) (UnderNot stuck)

pub stuck_exists : (lexemes : List Lexeme) (at : ℕ) → IsTokenAt lexemes at Exists → (us : List Token) → StuckBinders (rest_of lexemes (at + 1)) us
    → StuckUnary (rest_of lexemes at) us
stuck_exists lexemes at n us stuck = subst (λ ts. StuckUnary ts us) (sym n.next) (UnderExists stuck)

pub stuck_forall : (lexemes : List Lexeme) (at : ℕ) → IsTokenAt lexemes at Forall → (us : List Token) → StuckBinders (rest_of lexemes (at + 1)) us
    → StuckUnary (rest_of lexemes at) us
stuck_forall lexemes at n us stuck = subst (λ ts. StuckUnary ts us) (sym n.next) (UnderForall stuck)

pub stuck_infinite_unnamed : (lexemes : List Lexeme) (at : ℕ) → IsTokenAt lexemes at Infinite → HasNoVariable (rest_of lexemes (at + 1))
    → (at + 1 ≤ length lexemes) × StuckUnary (rest_of lexemes at) (rest_of lexemes (at + 1))
stuck_infinite_unnamed lexemes at n none =
    let last : at < length lexemes = n.within in
    stuck_behind StuckUnary lexemes at (at + 1) Infinite n (omega arith) (NoInfiniteVariable none)

pub stuck_infinite : (lexemes : List Lexeme) (at : ℕ) (x : Name) → IsTokenAt lexemes at Infinite → IsTokenAt lexemes (at + 1) (Variable x)
    → (us : List Token) → StuckBody (rest_of lexemes (at + 2)) us → StuckUnary (rest_of lexemes at) us
stuck_infinite lexemes at x n named us stuck =
    let whole : rest_of lexemes at ≡ Infinite ∷ Variable x ∷ rest_of lexemes (at + 2) =
    n.next ∙ ap (λ ts. Infinite ∷ ts) (rest_of-next lexemes (at + 1) (at + 2) (Variable x) named (omega arith)) in
    subst (λ ts. StuckUnary ts us) (sym whole) (UnderInfinite stuck)

pub stuck_within : (lexemes : List Lexeme) (at : ℕ) → IsTokenAt lexemes at Open → (us : List Token) → StuckBody (rest_of lexemes at) us
    → StuckUnary (rest_of lexemes at) us
stuck_within lexemes at n us stuck =
    subst (λ ts. StuckUnary ts us) (sym n.next) (Within (subst (λ ts. StuckBody ts us) n.next stuck))

pub stuck_no_unary : (lexemes : List Lexeme) (at : ℕ) → at ≤ length lexemes → starts_unary (rest_of lexemes at) ≡ false
    → (at ≤ length lexemes) × StuckUnary (rest_of lexemes at) (rest_of lexemes at)
stuck_no_unary lexemes at le none = (le, NoUnary none)

-- a formula of one token
pub IsParsed-constant : (lexemes : List Lexeme) (at : ℕ) (t : Token) (f : theory.Formula) (p : Reading) → IsTokenAt lexemes at t
    → ((us : List Token) → IsUnary (t ∷ us) f us) → IsMade p.made f → p.next ≡ at + 1 → IsParsed IsUnary lexemes at p
IsParsed-constant lexemes at t f p n rule is e =
    let last : at < length lexemes = n.within in
    IsParsed-unary lexemes at _ f p (omega arith) (omega arith) n.next is
    (subst (λ k. IsUnary (t ∷ rest_of lexemes (at + 1)) f (rest_of lexemes k)) (sym e) (rule (rest_of lexemes (at + 1))))

-- a token with which no formula begins
pub begins_unary-other : (t : code.Token) (us : List Token) → (t ≡ variants.Open → ⊥) → (t ≡ variants.Not → ⊥) → (t ≡ variants.Exists → ⊥) → (t ≡ variants.Forall → ⊥)
    → (t ≡ variants.Infinite → ⊥) → (t ≡ variants.True → ⊥) → (t ≡ variants.False → ⊥) → (t ≡ variants.Com → ⊥) → (t ≡ variants.Nf → ⊥) → (t ≡ variants.Join → ⊥)
    → (t ≡ variants.Sn → ⊥) → ((m : _) → t ≡ variants.Has m → ⊥) → HasNoArgument (as_token t ∷ us) → begins_unary (as_token t) ≡ false
begins_unary-other variants.Open us a b c d e f g h i j s k l = absurd (a refl)
begins_unary-other variants.Not us a b c d e f g h i j s k l = absurd (b refl)
begins_unary-other variants.Exists us a b c d e f g h i j s k l = absurd (c refl)
begins_unary-other variants.Forall us a b c d e f g h i j s k l = absurd (d refl)
begins_unary-other variants.Infinite us a b c d e f g h i j s k l = absurd (e refl)
begins_unary-other variants.True us a b c d e f g h i j s k l = absurd (f refl)
begins_unary-other variants.False us a b c d e f g h i j s k l = absurd (g refl)
begins_unary-other variants.Com us a b c d e f g h i j s k l = absurd (h refl)
begins_unary-other variants.Nf us a b c d e f g h i j s k l = absurd (i refl)
begins_unary-other variants.Join us a b c d e f g h i j s k l = absurd (j refl)
begins_unary-other variants.Sn us a b c d e f g h i j s k l = absurd (s refl)
begins_unary-other (variants.Has m) us a b c d e f g h i j s k l = absurd (k m refl)
begins_unary-other (variants.Variable x) us a b c d e f g h i j s k l = absurd (l _ _ AVariable)
begins_unary-other (variants.Ground n x) us a b c d e f g h i j s k l = absurd (l _ _ AGround)
begins_unary-other t us a b c d e f g h i j s k l = refl
