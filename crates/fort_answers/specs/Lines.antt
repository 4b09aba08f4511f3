-- To believe: the texts that the program prints, and the statuses with which it ends.
use Rattle.std.specs.Prelude.{ℕ, List, [], ◌∷◌, ◌++◌, codes, decimal}
use Rattle.fort_logic.specs.Formulas.{Name}
use Rattle.fort_theory.specs.Kinds as kinds
use Rattle.fort_theory.specs.Kinds.{Kind}
use Rattle.fort_formula_grammar.specs.FormulaText as formula
use Rattle.fort_formula_grammar.specs.FormulaText.{FormulaFault}
use Rattle.fort_grammar.specs.Text.{TextFault, BadByte, ExtraClose, Unclosed, TooDeep}
use Rattle.fort_certificate_theory.specs.CertificateFaults as certificate
use Rattle.fort_certificate_theory.specs.CertificateFaults.{CertificateFault}
use Rattle.fort_grammar.specs.Declarations.{ProblemFault, NoFormat, BadForm, BadName, BadArity, Duplicate, TooManyFunctions, TooManyRules, NoConstant, WrongCount, VariableApplied, LeftRepeats, RightRepeats, Shares}

-- a text and the end of its line
abbrev pub line : List ℕ → List ℕ
line text = text ++ 10 ∷ []

abbrev pub usage_text : List ℕ
usage_text = line (codes "usage: fort decide [--states N] [--reduce] [--certificate] FORMULA")
    ++ (line (codes "       fort witness [--states N] [--reduce] [--certificate] FORMULA")
    ++ (line (codes "       fort check FORMULA")
    ++ (line (codes "       fort sample N")
    ++ (line (codes "       fort solutions [--states N] [--most M] H FORMULA")
    ++ (line (codes "       fort confirm FORMULA")
    ++ line (codes "       fort synth [--states N] RULES HEIGHT FORMULA"))))))

abbrev pub yes_line : List ℕ
yes_line = line (codes "YES")

abbrev pub no_line : List ℕ
no_line = line (codes "NO")

-- the first line of the answer that some terms satisfy a formula
abbrev pub witness_line : List ℕ
witness_line = line (codes "WITNESS")

abbrev pub none_line : List ℕ
none_line = line (codes "NONE")

abbrev pub input_too_long : List ℕ
input_too_long = line (codes "REFUSED input too long")

-- the word for a kind of formula
abbrev pub kind_word : Kind → List ℕ
kind_word kinds.True = codes "true"
kind_word kinds.Eq = codes "eq"
kind_word kinds.Root = codes "root"
kind_word kinds.Below = codes "below"
kind_word kinds.Step = codes "step"
kind_word kinds.Par = codes "par"
kind_word kinds.Plus = codes "plus"
kind_word kinds.Star = codes "star"
kind_word kinds.Conv = codes "conv"
kind_word kinds.Rex = codes "rex"
kind_word kinds.Nf = codes "nf"
kind_word kinds.Is = codes "is"
kind_word kinds.Not = codes "not"
kind_word kinds.And = codes "and"
kind_word kinds.Or = codes "or"
kind_word kinds.Iff = codes "iff"
kind_word kinds.Exists = codes "exists"
kind_word kinds.Infinite = codes "infinite"

-- part k, of this kind, has more labels than the cap
abbrev pub limit_line : ℕ → Kind → ℕ → List ℕ
limit_line k kind cap = line (codes "LIMIT " ++ (decimal k ++ (codes " " ++ (kind_word kind ++ (codes " " ++ decimal cap)))))

-- what is refused, and a number
abbrev pub numbered : List ℕ → ℕ → List ℕ
numbered text n = line (text ++ decimal n)

abbrev pub formula_fault_line : FormulaFault → List ℕ
formula_fault_line (formula.BadByte i) = numbered (codes "REFUSED formula bad byte at ") i
formula_fault_line formula.TooLong = line (codes "REFUSED formula too long")
formula_fault_line (formula.TooDeep i) = numbered (codes "REFUSED formula too deep at ") i
formula_fault_line (formula.Syntax i) = numbered (codes "REFUSED formula syntax at ") i

abbrev pub formula_too_wide : List ℕ
formula_too_wide = line (codes "REFUSED formula too wide")

-- the variable is free
abbrev pub formula_open : Name → List ℕ
formula_open x = line (codes "REFUSED formula open " ++ x)

-- no variable is free
abbrev pub formula_closed : List ℕ
formula_closed = line (codes "REFUSED formula closed")

-- the formula speaks of rules of an index that the problem hasn't
abbrev pub formula_index : ℕ → List ℕ
formula_index i = numbered (codes "REFUSED formula index ") i

-- what stands in braces at this offset of the formula's text is no ground term of the problem
abbrev pub formula_term : ℕ → List ℕ
formula_term i = numbered (codes "REFUSED formula term at ") i

-- the formula says SN of rules of this index, one of which has a variable on its right side
abbrev pub formula_sn : ℕ → List ℕ
formula_sn i = numbered (codes "REFUSED formula sn ") i

abbrev pub text_fault_line : TextFault → List ℕ
text_fault_line (BadByte i) = numbered (codes "REFUSED text bad byte at ") i
text_fault_line (ExtraClose i) = numbered (codes "REFUSED text extra close at ") i
text_fault_line (Unclosed i) = numbered (codes "REFUSED text unclosed at ") i
text_fault_line (TooDeep i) = numbered (codes "REFUSED text too deep at ") i

-- what is refused of the form with a number
abbrev pub form_line : ℕ → List ℕ → List ℕ
form_line i what = line (codes "REFUSED problem form " ++ decimal i ++ what)

abbrev pub problem_fault_line : ProblemFault → List ℕ
problem_fault_line NoFormat = line (codes "REFUSED problem no format")
problem_fault_line TooManyFunctions = line (codes "REFUSED problem too many functions")
problem_fault_line TooManyRules = line (codes "REFUSED problem too many rules")
problem_fault_line NoConstant = line (codes "REFUSED problem no constant")
problem_fault_line (BadForm i) = form_line i (codes " bad form")
problem_fault_line (BadName i) = form_line i (codes " bad name")
problem_fault_line (BadArity i) = form_line i (codes " bad arity")
problem_fault_line (Duplicate i) = form_line i (codes " duplicate")
problem_fault_line (WrongCount i) = form_line i (codes " wrong count")
problem_fault_line (VariableApplied i) = form_line i (codes " variable applied")
problem_fault_line (LeftRepeats i name) = form_line i (codes " left side repeats " ++ name)
problem_fault_line (RightRepeats i name) = form_line i (codes " right side repeats " ++ name)
problem_fault_line (Shares i name) = form_line i (codes " sides share " ++ name)

abbrev pub certificate_line : ℕ → List ℕ → List ℕ
certificate_line i what = line (codes "REFUSED certificate form " ++ (decimal i ++ what))

abbrev pub certificate_fault_line : CertificateFault → List ℕ
certificate_fault_line (certificate.BadForm i) = certificate_line i (codes " bad form")
certificate_fault_line (certificate.BadNumber i) = certificate_line i (codes " bad number")
certificate_fault_line (certificate.OtherVersion i) = certificate_line i (codes " version")

-- ---- statuses

-- YES, and what else was asked for and given
abbrev pub positive : ℕ
positive = 0

-- NO, that no terms satisfy the formula, that no system of a family makes it true, and that a certificate is rejected
abbrev pub negative : ℕ
negative = 1

-- the words ask nothing that is answered, and the usage text is printed
abbrev pub usage : ℕ
usage = 2

-- the formula, the input or the family is refused
abbrev pub refused : ℕ
refused = 3

-- some part of the formula is over the cap
abbrev pub limited : ℕ
limited = 4

-- the greatest status of an answer; behind it no answer was given
abbrev pub last_answer : ℕ
last_answer = 4

abbrev pub out_of_memory : ℕ
out_of_memory = 5

abbrev pub read_failed : ℕ
read_failed = 6

abbrev pub write_failed : ℕ
write_failed = 7
