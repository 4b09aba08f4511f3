-- Nothing to believe: a pattern as a list of numbers, from which it is read again.
use Rattle.std.specs.Prelude.{◌≡◌, ℕ, zero, suc, List, [], ◌∷◌, ◌++◌, refl}
use Rattle.std.proofs.Common.{ap, sym, ◌∙◌, append_assoc, append-nil}
use Rattle.std.specs.Coded.{Coded, code_by, coded×, coded_list, coded_ℕ}
use Rattle.fort_theory.specs.Signatures.{Signature}
use Rattle.fort_theory.specs.SymbolCode.{signature_code}
use Rattle.fort_theory.specs.Patterns.{Pattern, Patterns, Any, At, NoPattern, MorePatterns, Pair, PatternSystem}

-- Any is a 2, a node its number raised by three and its arguments, each behind a 1, ended by a 0; so the order of the
-- lists puts Any before every symbol, and a list of arguments before those that it begins
abbrev mutual
  pub spelled : Pattern → List ℕ
  spelled Any = 2 ∷ []
  spelled (At f ps) = suc (suc (suc f)) ∷ all_spelled ps

  pub all_spelled : Patterns → List ℕ
  all_spelled NoPattern = 0 ∷ []
  all_spelled (MorePatterns p ps) = 1 ∷ (spelled p ++ all_spelled ps)

-- what stands on the stack of a reader that goes from the end to the front
pub data Item : Type 0 where
  One : Pattern → Item
  Many : Patterns → Item

abbrev pub joined : List Item → List Item
joined (One p ∷ Many ps ∷ rest) = Many (MorePatterns p ps) ∷ rest
joined other = other

abbrev pub rooted : ℕ → List Item → List Item
rooted f (Many ps ∷ rest) = One (At f ps) ∷ rest
rooted f other = other

abbrev pub read_back : List ℕ → List Item
read_back [] = []
read_back (zero ∷ xs) = Many NoPattern ∷ read_back xs
read_back (suc zero ∷ xs) = joined (read_back xs)
read_back (suc (suc zero) ∷ xs) = One Any ∷ read_back xs
read_back (suc (suc (suc f)) ∷ xs) = rooted f (read_back xs)

abbrev pub first_one : List Item → Pattern
first_one (One p ∷ rest) = p
first_one other = Any

abbrev pub first_many : List Item → Patterns
first_many (Many ps ∷ rest) = ps
first_many other = NoPattern

mutual
  pub read_back-spelled : (p : Pattern) (xs : List ℕ) → read_back (spelled p ++ xs) ≡ One p ∷ read_back xs
  read_back-spelled Any xs = refl
  read_back-spelled (At f ps) xs = ap (rooted f) (read_back-all ps xs)

  pub read_back-all : (ps : Patterns) (xs : List ℕ) → read_back (all_spelled ps ++ xs) ≡ Many ps ∷ read_back xs
  read_back-all NoPattern xs = refl
  read_back-all (MorePatterns p ps) xs =
      ap (λ ys. joined (read_back ys)) (append_assoc (spelled p) (all_spelled ps) xs)
      ∙ (ap joined (read_back-spelled p (all_spelled ps ++ xs)) ∙ ap (λ ys. joined (One p ∷ ys)) (read_back-all ps xs))

pub pattern_again : (p : Pattern) → first_one (read_back (spelled p)) ≡ p
pattern_again p = ap (λ ys. first_one (read_back ys)) (sym (append-nil (spelled p))) ∙ ap first_one (read_back-spelled p [])

pub patterns_again : (ps : Patterns) → first_many (read_back (all_spelled ps)) ≡ ps
patterns_again ps = ap (λ ys. first_many (read_back ys)) (sym (append-nil (all_spelled ps))) ∙ ap first_many (read_back-all ps [])

abbrev pub pattern_code : Coded Pattern
pattern_code = code_by (List ℕ) (coded_list coded_ℕ) spelled (λ xs. first_one (read_back xs)) pattern_again

abbrev pub patterns_code : Coded Patterns
patterns_code = code_by (List ℕ) (coded_list coded_ℕ) all_spelled (λ xs. first_many (read_back xs)) patterns_again

abbrev pub system_code : Coded PatternSystem
system_code =
    code_by (Signature × List (List Pair)) (coded× signature_code (coded_list (coded_list (coded× pattern_code pattern_code)))) (λ (s : PatternSystem). (s.signature, s.rules)) (λ p. record { signature = p.0; rules = p.1 }) (λ _. refl)
