-- Forms that are a problem have no first fault.
use Rattle.std.proofs.Common.{◌≡◌, ℕ, ◌≤◌, List, [], ◌∷◌, ◌++◌, length, Contains, refl, ap, sym, ◌∙◌, subst, arith, length-append}
use Rattle.std.specs.Prelude.{bytes_eq, codes, decimal}
use Rattle.std.specs.List.{AllByRecursion, IsDistinct}
use Rattle.std.proofs.lemmas.Fmt.{decimal_injective}
use Rattle.std.proofs.lemmas.List.{map-append}
use Rattle.fort_theory.specs.Signatures.{Symbol, Signature, IsName, HasConstant, names_of}
use Rattle.fort_theory.specs.Sides.{System}
use Rattle.fort_grammar.specs.Forms.{Form}
use Rattle.fort_grammar.specs.Declarations as declarations
use Rattle.fort_grammar.specs.Declarations.{AreWords, IsListOfWords, IsHeaded, IsArity, IsFormat, OneSystem, Several, Declares, DeclareEach, AreDeclarations, IsBadDeclaration, ProblemFault, elements_of, word_of}
use Rattle.fort_grammar.specs.RuleForms.{AreRules}
use Rattle.fort_ari.proofs.Distinct.{distinct_twice}
use Rattle.fort_ari.proofs.Formats.{format_high}
use Rattle.fort_ari.proofs.OneAnswerRules.{rule_not_bad, rule_among}
use Rattle.fort_grammar.specs.ProblemForms.{BeginsOtherwise, FallsInto, IsProblem, IsFirstProblemFault, WithoutForms, WithoutFormat, InDeclaration, WithoutConstant, InRule}

-- forms fall in one way into those that come headed so and what is behind
run_unique : (bytes word : List ℕ) (xs xs' ys ys' : List Form) → AllByRecursion (IsHeaded bytes word) xs → AllByRecursion (IsHeaded bytes word) xs'
    → BeginsOtherwise bytes word ys → BeginsOtherwise bytes word ys' → xs ++ ys ≡ xs' ++ ys' → (xs ≡ xs') × (ys ≡ ys')
run_unique bytes word [] [] ys ys' h h' o o' e = (refl, e)
run_unique bytes word [] (x ∷ xs') ys ys' h h' o o' e = let none = subst (BeginsOtherwise bytes word) e o in absurd (none h'.0)
run_unique bytes word (x ∷ xs) [] ys ys' h h' o o' e = let none = subst (BeginsOtherwise bytes word) (sym e) o' in absurd (none h.0)
run_unique bytes word (x ∷ xs) (x' ∷ xs') ys ys' h h' o o' e =
    let tails : xs ++ ys ≡ xs' ++ ys' = cc in
    let both = run_unique bytes word xs xs' ys ys' h.1 h'.1 o o' tails in
    let fronts = both.0 in
    (cc, both.1)

pub record SameParts (first first' : Form) (ds ds' rs rs' : List Form) : Type 0 where
  pub first_same : first ≡ first'
  pub declarations_same : ds ≡ ds'
  pub rules_same : rs ≡ rs'

pub falls_unique : (bytes : List ℕ) (forms : List Form) (first first' : Form) (ds ds' rs rs' bs bs' : List Form) → FallsInto bytes forms first ds rs bs
    → FallsInto bytes forms first' ds' rs' bs' → SameParts first first' ds ds' rs rs'
falls_unique bytes forms first first' ds ds' rs rs' bs bs' p q =
    let a = p.is in
    let b = q.is in
    let tails : ds ++ (rs ++ bs) ≡ ds' ++ (rs' ++ bs') = cc in
    let one = run_unique bytes (codes "fun") ds ds' (rs ++ bs) (rs' ++ bs') p.declare q.declare p.declared q.declared tails in
    let two = run_unique bytes (codes "rule") rs rs' bs bs' p.rule q.rule p.ruled q.ruled one.1 in
    record { first_same = cc; declarations_same = one.0; rules_same = two.0 }

texts_unique : (bytes : List ℕ) (es : List Form) (us vs : List (List ℕ)) → AreWords bytes es us → AreWords bytes es vs → us ≡ vs
texts_unique bytes [] [] [] h g = refl
texts_unique bytes [] [] (v ∷ vs) h g = absurd g
texts_unique bytes [] (u ∷ us) vs h g = absurd h
texts_unique bytes (e ∷ es) [] vs h g = absurd h
texts_unique bytes (e ∷ es) (u ∷ us) [] h g = absurd g
texts_unique bytes (e ∷ es) (u ∷ us) (v ∷ vs) h g =
    let rest = texts_unique bytes es us vs h.1 g.1 in
    let a = h.0 in
    let b = g.0 in
    let same : u ≡ v = cc in cc

pub words_unique : (bytes : List ℕ) (f : Form) (us vs : List (List ℕ)) → IsListOfWords bytes f us → IsListOfWords bytes f vs → us ≡ vs
words_unique bytes f us vs h g =
    let a = h.is in
    let b = g.is in
    let same : g.elements ≡ h.elements = cc in
    texts_unique bytes h.elements us vs h.words_are (subst (λ es. AreWords bytes es vs) same g.words_are)

-- a form is the format of one number of systems
pub format_unique : (bytes : List ℕ) (f : Form) (m n : ℕ) → IsFormat bytes f m → IsFormat bytes f n → m ≡ n
format_unique bytes f m n (OneSystem h) (OneSystem g) = refl
format_unique bytes f m n (OneSystem h) (Several low high g) = let same = words_unique bytes f _ _ h g in absurd cc
format_unique bytes f m n (Several low high h) (OneSystem g) = let same = words_unique bytes f _ _ h g in absurd cc
format_unique bytes f m n (Several low high h) (Several low' high' g) =
    let same = words_unique bytes f _ _ h g in
    let numbers : decimal m ≡ decimal n = cc in decimal_injective m n (omega arith) (omega arith) numbers

same_symbol : (s t : Symbol) → s.name ≡ t.name → s.arity ≡ t.arity → s ≡ t
same_symbol s t a b =
    let P : List ℕ → Symbol = λ n. record { name = n; arity = s.arity } in
    let Q : ℕ → Symbol = λ n. record { name = t.name; arity = n } in
    ap P a ∙ ap Q b

Declares-unique : (bytes : List ℕ) (f : Form) (s t : Symbol) → Declares bytes f s → Declares bytes f t → s ≡ t
Declares-unique bytes f s t d e =
    let same = words_unique bytes f _ _ d.words e.words in
    let names : s.name ≡ t.name = cc in
    let arities : decimal s.arity ≡ decimal t.arity = cc in
    let low = d.small in
    let low' = e.small in
    same_symbol s t names (decimal_injective s.arity t.arity (omega arith) (omega arith) arities)

pub DeclareEach-unique : (bytes : List ℕ) (fs : List Form) (ss ts : Signature) → DeclareEach bytes fs ss → DeclareEach bytes fs ts → ss ≡ ts
DeclareEach-unique bytes [] [] [] h g = refl
DeclareEach-unique bytes [] [] (t ∷ ts) h g = absurd g
DeclareEach-unique bytes [] (s ∷ ss) ts h g = absurd h
DeclareEach-unique bytes (f ∷ fs) [] ts h g = absurd h
DeclareEach-unique bytes (f ∷ fs) (s ∷ ss) [] h g = absurd g
DeclareEach-unique bytes (f ∷ fs) (s ∷ ss) (t ∷ ts) h g =
    let rest = DeclareEach-unique bytes fs ss ts h.1 g.1 in
    let same = Declares-unique bytes f s t h.0 g.0 in cc

-- what a form declares among others
pub record DeclaresAmong (bytes : List ℕ) (f : Form) (before total : Signature) : Type 0 where
  pub next : Symbol
  pub after : Signature
  pub declares : Declares bytes f next
  pub is : total ≡ before ++ next ∷ after

pub declares_among : (bytes : List ℕ) (before after : List Form) (f : Form) (total signature : Signature) → DeclareEach bytes (before ++ f ∷ after) total
    → DeclareEach bytes before signature → DeclaresAmong bytes f signature total
declares_among bytes [] after f [] signature h g = absurd h
declares_among bytes [] after f (t ∷ ts) [] h g = record { next = t; after = ts; declares = h.0; is = refl }
declares_among bytes [] after f (t ∷ ts) (s ∷ ss) h g = absurd g
declares_among bytes (x ∷ before) after f [] signature h g = absurd h
declares_among bytes (x ∷ before) after f (t ∷ ts) [] h g = absurd g
declares_among bytes (x ∷ before) after f (t ∷ ts) (s ∷ ss) h g =
    let rest = declares_among bytes before after f ts ss h.1 g.1 in
    let same = Declares-unique bytes x t s h.0 g.0 in
    let tails = rest.is in
    record { next = rest.next; after = rest.after; declares = rest.declares; is = cc }

pub declaration_not_bad : (bytes : List ℕ) (signature total : Signature) (i : ℕ) (f : Form) (fault : ProblemFault) → DeclaresAmong bytes f signature total
    → length total ≤ 255 → IsDistinct bytes_eq (names_of total) → IsBadDeclaration bytes signature i f fault → ⊥
declaration_not_bad bytes signature total i f fault d few distinct (declarations.OneTooMany full) =
    let count = ap length d.is in omega (arith, length-append signature (d.next ∷ d.after))
declaration_not_bad bytes signature total i f fault d few distinct (declarations.NotThreeWords below none) = none _ _ _ d.declares.words
declaration_not_bad bytes signature total i f fault d few distinct (declarations.NoName head name arity below words bad) =
    let same = words_unique bytes f _ _ d.declares.words words in
    let names : d.next.name ≡ name = cc in bad (subst IsName names d.declares.named)
declaration_not_bad bytes signature total i f fault d few distinct (declarations.NoArity head name arity below words named bad) =
    let same = words_unique bytes f _ _ d.declares.words words in
    let arities : arity ≡ decimal d.next.arity = cc in bad d.next.arity (d.declares.small, arities)
declaration_not_bad bytes signature total i f fault d few distinct (declarations.Twice head name arity n below words named is twice) =
    let same = words_unique bytes f _ _ d.declares.words words in
    let names : name ≡ d.next.name = cc in
    let all : names_of total ≡ names_of signature ++ d.next.name ∷ names_of d.after = ap names_of d.is ∙ map-append _ signature (d.next ∷ d.after) in
    distinct_twice (names_of signature) (names_of d.after) d.next.name (subst (IsDistinct bytes_eq) all distinct)
    (subst (Contains (names_of signature)) names twice)

-- forms aren't both a problem and at fault
pub problem_without_fault : (bytes : List ℕ) (forms : List Form) (system : System) (next : ℕ) (fault : ProblemFault) → IsProblem bytes forms system next
    → IsFirstProblemFault bytes forms fault → ⊥
problem_without_fault bytes forms system next fault p (WithoutForms none) = let is = p.parts.is in cc
problem_without_fault bytes forms system next fault p (WithoutFormat first others is other) =
    let here = p.parts.is in
    let same : p.first ≡ first = cc in other _ (subst (λ f. IsFormat bytes f (length system.rules)) same p.format)
problem_without_fault bytes forms system next fault p (InDeclaration first number ds rs bs before after f signature x falls format is declares bad) =
    let parts = falls_unique bytes forms _ _ _ _ _ _ _ _ p.parts falls in
    let same : p.declarations ≡ before ++ f ∷ after = parts.declarations_same ∙ is in
    let among = declares_among bytes before after f system.signature signature (subst (λ gs. DeclareEach bytes gs system.signature) same p.declares.each) declares.each in
    declaration_not_bad bytes signature system.signature _ f x among p.declares.few p.declares.distinct bad
problem_without_fault bytes forms system next fault p (WithoutConstant first number ds rs bs signature falls format declares none) =
    let parts = falls_unique bytes forms _ _ _ _ _ _ _ _ p.parts falls in
    let same : system.signature ≡ signature = DeclareEach-unique bytes ds _ _ (subst (λ gs. DeclareEach bytes gs system.signature) parts.declarations_same p.declares.each) declares.each in
    none (subst HasConstant same p.constant)
problem_without_fault bytes forms system next fault p (InRule first number ds rs bs before after f signature given x falls format declares constant is are bad) =
    let parts = falls_unique bytes forms _ _ _ _ _ _ _ _ p.parts falls in
    let one : system.signature ≡ signature = DeclareEach-unique bytes ds _ _ (subst (λ gs. DeclareEach bytes gs system.signature) parts.declarations_same p.declares.each) declares.each in
    let same : p.rules ≡ before ++ f ∷ after = parts.rules_same ∙ is in
    let numbers : length system.rules ≡ number =
    format_unique bytes first _ _ (subst (λ g. IsFormat bytes g (length system.rules)) parts.first_same p.format) format in
    let here : AreRules bytes number signature (before ++ f ∷ after) p.given =
    subst (λ n. AreRules bytes n signature (before ++ f ∷ after) p.given) numbers
    (subst (λ s. AreRules bytes (length system.rules) s (before ++ f ∷ after) p.given) one
    (subst (λ gs. AreRules bytes (length system.rules) system.signature gs p.given) same p.are_rules)) in
    let rule = rule_among bytes number signature before after f p.given here in
    let count = ap length same in
    let most = p.few in
    rule_not_bad bytes number signature (length before) _ f rule.0 x (format_high bytes first number format)
    (subst (λ s. IsDistinct bytes_eq (names_of s)) one p.declares.distinct) (omega (arith, length-append before (f ∷ after))) rule.1 bad
