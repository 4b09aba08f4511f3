-- Patterns in a list: how many places they have, their size, what they fit, and their texts, one after another.
use Rattle.std.proofs.Common.{◌≡◌, ℕ, zero, suc, ◌+◌, ◌<◌, ◌≤◌, List, [], ◌∷◌, ◌++◌, length, take, get_or, sym, ap, ◌∙◌, subst, arith, append_assoc, append-nil}
use Rattle.std.specs.Prelude.{codes, Some}
use Rattle.std.proofs.lemmas.List.{take_all, take_more}
use Rattle.fort_theory.specs.Signatures.{Signature, arity_of, name_of, names_of}
use Rattle.fort_theory.specs.Patterns as theory
use Rattle.fort_theory.specs.Patterns.{FitsPattern, FitPatterns}
use Rattle.fort_terms.specs.declared.pattern.Pattern.{Pattern}
use Rattle.fort_terms.specs.PatternView.{as_pattern, as_patterns, node_count, node_counts}
use Rattle.fort_answers.specs.FamilySystems.{any_count, any_counts, side_from, sides_from}
use Rattle.fort_answers.specs.RuleText.{side_text, sides_text}

-- ---- one of them

pub size_at : (ps : List Pattern) (i : ℕ) (p : Pattern) → i < length ps → p ≡ get_or ps i p → node_count (as_pattern p) ≤ node_counts (as_patterns ps)
size_at [] i p l e = absurd (omega arith)
size_at (q ∷ ps) zero p l e = let same : node_count (as_pattern p) ≡ node_count (as_pattern q) = ap (λ x. node_count (as_pattern x)) e in omega arith
size_at (q ∷ ps) (suc i) p l e = omega (arith, size_at ps i p (omega arith) e)

pub fits_at : (sig : Signature) (ps : List Pattern) (i : ℕ) (p : Pattern) → i < length ps → p ≡ get_or ps i p → FitPatterns sig (as_patterns ps) → FitsPattern sig (as_pattern p)
fits_at sig [] i p l e h = absurd (omega arith)
fits_at sig (q ∷ ps) zero p l e h = subst (λ x. FitsPattern sig (as_pattern x)) (sym e) h.0
fits_at sig (q ∷ ps) (suc i) p l e h = fits_at sig ps i p (omega arith) e h.1

-- ---- the first ones

any_counts-push : (ps : List Pattern) (p : Pattern) → any_counts (as_patterns (ps ++ p ∷ [])) ≡ any_counts (as_patterns ps) + any_count (as_pattern p)
any_counts-push [] p = omega arith
any_counts-push (q ∷ ps) p = omega (arith, any_counts-push ps p)

any_counts-take : (ps : List Pattern) (i : ℕ) → any_counts (as_patterns (take i ps)) ≤ any_counts (as_patterns ps)
any_counts-take ps zero = omega arith
any_counts-take [] (suc i) = omega arith
any_counts-take (q ∷ ps) (suc i) = omega (arith, any_counts-take ps i)

-- one more
pub any_counts-more : (ps : List Pattern) (i : ℕ) (p : Pattern) → i < length ps → p ≡ get_or ps i p → any_counts (as_patterns (take (i + 1) ps)) ≡ any_counts (as_patterns (take i ps)) + any_count (as_pattern p)
any_counts-more ps i p l e =
    ap (λ xs. any_counts (as_patterns xs)) (take_more ps i p l ∙ ap (λ x. take i ps ++ x ∷ []) (sym e))
    ∙ any_counts-push (take i ps) p

pub any_counts-within : (ps : List Pattern) (i : ℕ) (p : Pattern) → i < length ps → p ≡ get_or ps i p → any_counts (as_patterns (take i ps)) + any_count (as_pattern p) ≤ any_counts (as_patterns ps)
any_counts-within ps i p l e = omega (arith, any_counts-more ps i p l e, any_counts-take ps (i + 1))

sides_text-push : (sig : Signature) (v : ℕ) (ps : List Pattern) (p : Pattern)
    → sides_text sig (sides_from v (as_patterns (ps ++ p ∷ []))) ≡ sides_text sig (sides_from v (as_patterns ps)) ++ (codes " " ++ side_text sig (side_from (v + any_counts (as_patterns ps)) (as_pattern p)))
sides_text-push sig v [] p =
    append-nil (codes " " ++ side_text sig (side_from v (as_pattern p)))
    ∙ ap (λ w. codes " " ++ side_text sig (side_from w (as_pattern p))) (let e : v ≡ v + 0 = omega arith in e)
sides_text-push sig v (q ∷ ps) p =
    let w = v + any_count (as_pattern q) in
    let own = side_text sig (side_from v (as_pattern q)) in
    let front = sides_text sig (sides_from w (as_patterns ps)) in
    let last = λ (n : ℕ). codes " " ++ side_text sig (side_from n (as_pattern p)) in
    let place : w + any_counts (as_patterns ps) ≡ v + any_counts (as_patterns (q ∷ ps)) = omega arith in
    ap (λ (r : List ℕ). codes " " ++ (own ++ r)) (sides_text-push sig w ps p ∙ ap (λ n. front ++ last n) place)
    ∙ ap (λ (r : List ℕ). codes " " ++ r) (sym (append_assoc own front (last (v + any_counts (as_patterns (q ∷ ps))))))

-- one more is written
pub text_more : (sig : Signature) (v : ℕ) (ps : List Pattern) (i : ℕ) (p : Pattern) (old text blank new : List ℕ) (at : ℕ) → i < length ps → p ≡ get_or ps i p
    → text ≡ old ++ sides_text sig (sides_from v (as_patterns (take i ps))) → at ≡ v + any_counts (as_patterns (take i ps))
    → blank ≡ text ++ codes " " → new ≡ blank ++ side_text sig (side_from at (as_pattern p))
    → new ≡ old ++ sides_text sig (sides_from v (as_patterns (take (i + 1) ps)))
text_more sig v ps i p old text blank new at l e texts place blanks is =
    let front = sides_text sig (sides_from v (as_patterns (take i ps))) in
    let own = side_text sig (side_from (v + any_counts (as_patterns (take i ps))) (as_pattern p)) in
    let more : take (i + 1) ps ≡ take i ps ++ p ∷ [] = take_more ps i p l ∙ ap (λ x. take i ps ++ x ∷ []) (sym e) in
    let whole : sides_text sig (sides_from v (as_patterns (take (i + 1) ps))) ≡ front ++ (codes " " ++ own) =
    ap (λ xs. sides_text sig (sides_from v (as_patterns xs))) more ∙ sides_text-push sig v (take i ps) p in
    is
    ∙ (ap (λ n. blank ++ side_text sig (side_from n (as_pattern p))) place
    ∙ (ap (λ (w : List ℕ). w ++ own) (blanks ∙ ap (λ (w : List ℕ). w ++ codes " ") texts)
    ∙ (append_assoc (old ++ front) (codes " ") own
    ∙ (append_assoc old front (codes " " ++ own)
    ∙ ap (λ (w : List ℕ). old ++ w) (sym whole)))))

-- ---- a symbol and its arguments

-- the number and the name of a symbol
pub symbol_there : (sig : Signature) (f n : ℕ) → arity_of sig f ≡ Some n → f < length sig
symbol_there [] f n e = absurd cc
symbol_there (s ∷ sig) zero n e = omega arith
symbol_there (s ∷ sig) (suc f) n e = omega (arith, symbol_there sig f n e)

name_there : (sig : Signature) (f : ℕ) (name : List ℕ) → name_of sig f ≡ Some name → get_or (names_of sig) f [] ≡ name
name_there [] f name e = absurd cc
name_there (s ∷ sig) zero name e = cc
name_there (s ∷ sig) (suc f) name e = name_there sig f name e

constant_text : (sig : Signature) (v f : ℕ) (ps : List Pattern) (args : theory.Patterns) (name : List ℕ) → as_patterns ps ≡ args → length ps ≡ 0 → name_of sig f ≡ Some name
    → side_text sig (side_from v (theory.At f args)) ≡ name
constant_text sig v f [] args name e none is = ap (λ qs. side_text sig (side_from v (theory.At f qs))) (sym e) ∙ name_there sig f name is
constant_text sig v f (p ∷ ps) args name e none is = absurd (omega arith)

applied_text : (sig : Signature) (v f : ℕ) (ps : List Pattern) (args : theory.Patterns) (name : List ℕ) → as_patterns ps ≡ args → 0 < length ps → name_of sig f ≡ Some name
    → side_text sig (side_from v (theory.At f args)) ≡ codes "(" ++ (name ++ (sides_text sig (sides_from v (as_patterns ps)) ++ codes ")"))
applied_text sig v f [] args name e some is = absurd (omega arith)
applied_text sig v f (p ∷ ps) args name e some is =
    ap (λ qs. side_text sig (side_from v (theory.At f qs))) (sym e)
    ∙ ap (λ (n : List ℕ). codes "(" ++ (n ++ (sides_text sig (sides_from v (as_patterns (p ∷ ps))) ++ codes ")"))) (name_there sig f name is)

-- a constant is written
pub text_constant : (sig : Signature) (v f : ℕ) (ps : List Pattern) (args : theory.Patterns) (name old new : List ℕ) → as_patterns ps ≡ args → length ps ≡ 0 → name_of sig f ≡ Some name
    → new ≡ old ++ name → new ≡ old ++ side_text sig (side_from v (theory.At f args))
text_constant sig v f ps args name old new e none is written =
    written ∙ ap (λ (w : List ℕ). old ++ w) (sym (constant_text sig v f ps args name e none is))

-- all are written, in parentheses
pub text_closed : (sig : Signature) (v f i : ℕ) (ps : List Pattern) (args : theory.Patterns) (name old open' named text new : List ℕ) → as_patterns ps ≡ args → 0 < length ps → length ps ≤ i → name_of sig f ≡ Some name
    → open' ≡ old ++ codes "(" → named ≡ open' ++ name → text ≡ named ++ sides_text sig (sides_from v (as_patterns (take i ps))) → new ≡ text ++ codes ")"
    → new ≡ old ++ side_text sig (side_from v (theory.At f args))
text_closed sig v f i ps args name old open' named text new e some done is opened names texts closed =
    let own = sides_text sig (sides_from v (as_patterns ps)) in
    let all : text ≡ named ++ own = texts ∙ ap (λ xs. named ++ sides_text sig (sides_from v (as_patterns xs))) (take_all i ps done) in
    closed
    ∙ (ap (λ (w : List ℕ). w ++ codes ")") (all ∙ ap (λ (w : List ℕ). w ++ own) (names ∙ ap (λ (w : List ℕ). w ++ name) opened))
    ∙ (append_assoc ((old ++ codes "(") ++ name) own (codes ")")
    ∙ (append_assoc (old ++ codes "(") name (own ++ codes ")")
    ∙ (append_assoc old (codes "(") (name ++ (own ++ codes ")"))
    ∙ ap (λ (w : List ℕ). old ++ w) (sym (applied_text sig v f ps args name e some is))))))

pub counted_all : (i v n : ℕ) (ps : List Pattern) (args : theory.Patterns) → as_patterns ps ≡ args → length ps ≤ i → n ≡ v + any_counts (as_patterns (take i ps)) → n ≡ v + any_counts args
counted_all i v n ps args e done is = is ∙ ap (λ qs. v + any_counts qs) (ap as_patterns (take_all i ps done) ∙ e)
