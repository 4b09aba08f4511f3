-- What words ask keeps its ranges: the size of a made problem, the cap of solutions, how many are wanted, and how many rules a family's systems have and how high they are.
use Rattle.std.proofs.Common.{◌≡◌, ℕ, ◌≤◌, Bool, true, false, List, [], ◌∷◌, Option, Some, None, refl}
use Rattle.std.proofs.lemmas.Bool.{leb-true}
use Rattle.std.specs.Prelude.{◌&&◌, find, if◌then◌else◌, nat_le, IfSome, option_and_then, option_map}
use Rattle.std.specs.Fmt.{decimal}
use Rattle.std.specs.Str.{bytes_eq}
use Rattle.std.specs.Str.Parse.{digits_value}
use Rattle.fort_answers.specs.Requests.{Text, Options, Bounds, Family, Request, Decide, Witness, Check, Sample, Solutions, Confirm, Synth, number_in}
use Rattle.fort_answers.specs.Commands.{Given, Command, commands, decide, witness, check, sample, solutions, confirm, synth, is_set, number_given, options_given, bounds_given, family_given, reduce_name, certificate_name, formula_name, states, count, height, most, rule_count, side_height}
use Rattle.fort_answers.specs.CommandGrammar.{items_of, is_complete, given_by, words_among, asked_by, request_by, request_of}
use Rattle.fort_answers.specs.PossibleRequests.{IsPossible}

keeps_if : (b : Bool) (x y : Option Request) → IsPossible x → IsPossible y → IsPossible (if b then x else y)
keeps_if true x y h k = h
keeps_if false x y h k = k

keeps_then : {A : Type 0} (f : A → Option Request) (x : Option A) → ((a : A) → IsPossible (f a)) → IsPossible (option_and_then f x)
keeps_then f None h = tt
keeps_then f (Some a) h = h a

keeps_map : {A : Type 0} (f : A → Request) (x : Option A) → ((a : A) → IsPossible (Some (f a))) → IsPossible (option_map f x)
keeps_map f None h = tt
keeps_map f (Some a) h = h a

keeps_then_if : {A : Type 0} (P : A → Type 0) (f : A → Option Request) (x : Option A) → IfSome x P → ((a : A) → P a → IsPossible (f a))
    → IsPossible (option_and_then f x)
keeps_then_if P f None given h = tt
keeps_then_if P f (Some a) given h = h a given

keeps_map_if : {A : Type 0} (P : A → Type 0) (f : A → Request) (x : Option A) → IfSome x P → ((a : A) → P a → IsPossible (Some (f a)))
    → IsPossible (option_map f x)
keeps_map_if P f None given h = tt
keeps_map_if P f (Some a) given h = h a given

-- ---- a number that is given is in its range

abbrev IsWithin : (low high n : ℕ) → Type 0
IsWithin low high n = (low ≤ n) × (n ≤ high)

within_if : (low high n : ℕ) (from to rest : Bool) → (from ≡ true → low ≤ n) → (to ≡ true → n ≤ high)
    → IfSome (if from && (to && rest) then Some n else None) (IsWithin low high)
within_if low high n false to rest l h = tt
within_if low high n true false rest l h = tt
within_if low high n true true false l h = tt
within_if low high n true true true l h = (l refl, h refl)

number_within : (low high : ℕ) (text : Option Text) → IfSome (option_and_then (number_in low high) text) (IsWithin low high)
unfolding number_in
number_within low high None = tt
number_within low high (Some text) =
    let n = digits_value 10 text in
    within_if low high n (nat_le low n) (nat_le n high) (bytes_eq text (decimal n)) (leb-true low n) (leb-true n high)

abbrev HasFewStates : Options → Type 0
HasFewStates options = IsWithin states.low states.high options.states

options_within : (given : Given) → IfSome (options_given given) HasFewStates
options_within given =
    made (number_given states given) (is_set reduce_name given) (number_within states.low states.high (given states.name))
  where
    made : (x : Option ℕ) (reduces : Bool) → IfSome x (IsWithin states.low states.high)
        → IfSome (option_map {U = Options} (λ n. record { states = n; reduces = reduces }) x) HasFewStates
    made None reduces within = tt
    made (Some n) reduces within = within

abbrev HasFewSolutions : Bounds → Type 0
HasFewSolutions bounds = IsWithin most.low most.high bounds.most

bounds_within : (given : Given) → IfSome (bounds_given given) HasFewSolutions
bounds_within given =
    made (number_given height given) (number_given most given) (number_within most.low most.high (given most.name))
  where
    made : (x y : Option ℕ) → IfSome y (IsWithin most.low most.high)
        → IfSome (option_and_then (λ h. option_map {U = Bounds} (λ m. record { height = h; most = m }) y) x) HasFewSolutions
    made None y within = tt
    made (Some h) None within = tt
    made (Some h) (Some m) within = within

abbrev IsInRange : Family → Type 0
IsInRange family = IsWithin rule_count.low rule_count.high family.count × IsWithin side_height.low side_height.high family.height

family_within : (given : Given) → IfSome (family_given given) IsInRange
family_within given =
    made (number_given rule_count given) (number_given side_height given) (number_within rule_count.low rule_count.high (given rule_count.name))
    (number_within side_height.low side_height.high (given side_height.name))
  where
    made : (x y : Option ℕ) → IfSome x (IsWithin rule_count.low rule_count.high) → IfSome y (IsWithin side_height.low side_height.high)
        → IfSome (option_and_then (λ n. option_map {U = Family} (λ h. record { count = n; height = h }) y) x) IsInRange
    made None y few low = tt
    made (Some n) None few low = tt
    made (Some n) (Some h) few low = (few, low)

-- ---- by command

-- each command asks what can be asked, whatever is given
abbrev AsksPossible : Command → Type 0
AsksPossible command = (given : Given) → IsPossible (command.asks given)

decide_possible : AsksPossible decide
decide_possible given =
    keeps_then (λ o. option_map (Decide o (is_set certificate_name given)) (given formula_name)) (options_given given) (λ o.
    keeps_map (Decide o (is_set certificate_name given)) (given formula_name) (λ f. tt))

witness_possible : AsksPossible witness
witness_possible given =
    keeps_then (λ o. option_map (Witness o (is_set certificate_name given)) (given formula_name)) (options_given given) (λ o.
    keeps_map (Witness o (is_set certificate_name given)) (given formula_name) (λ f. tt))

check_possible : AsksPossible check
check_possible given = keeps_map Check (given formula_name) (λ f. tt)

sample_possible : AsksPossible sample
sample_possible given =
    keeps_map_if (IsWithin count.low count.high) Sample (number_given count given) (number_within count.low count.high (given count.name))
    (λ n within. record { low = within.0; high = within.1 })

solutions_possible : AsksPossible solutions
solutions_possible given =
    keeps_then_if HasFewStates (λ o. option_and_then (λ b. option_map (Solutions o b) (given formula_name)) (bounds_given given))
    (options_given given) (options_within given) (λ o states.
    keeps_then_if HasFewSolutions (λ b. option_map (Solutions o b) (given formula_name)) (bounds_given given) (bounds_within given) (λ b few.
    keeps_map (Solutions o b) (given formula_name) (λ f. record { states = states.1; some = few.0; few = few.1 })))

confirm_possible : AsksPossible confirm
confirm_possible given = keeps_map Confirm (given formula_name) (λ f. tt)

synth_possible : AsksPossible synth
synth_possible given =
    keeps_then (λ o. option_and_then (λ b. option_map (Synth o b) (given formula_name)) (family_given given)) (options_given given) (λ o.
    keeps_then_if IsInRange (λ b. option_map (Synth o b) (given formula_name)) (family_given given) (family_within given) (λ b within.
    keeps_map (Synth o b) (given formula_name) (λ f. record { some = within.0.0; few = within.0.1; flat = within.1.1 })))

abbrev AllPossible : List Command → Type 0
AllPossible [] = Unit {0}
AllPossible (c ∷ cs) = AsksPossible c × AllPossible cs

all_possible : AllPossible commands
all_possible = (decide_possible, (witness_possible, (check_possible, (sample_possible, (solutions_possible, (confirm_possible, (synth_possible, tt)))))))

keeps_request : (c : Command) (ws : List Text) → AsksPossible c → IsPossible (request_by c ws)
keeps_request c ws possible =
    keeps_then (asked_by c) (items_of c.parameters None ws) (λ items.
    keeps_if (is_complete c.parameters items) (c.asks (given_by c.parameters items (words_among items))) None (possible (given_by c.parameters items (words_among items))) tt)

keeps_either : (b : Bool) (c : Command) (other : Option Command) (ws : List Text) → IsPossible (request_by c ws)
    → IsPossible (option_and_then (λ d. request_by d ws) other) → IsPossible (option_and_then (λ d. request_by d ws) (if b then Some c else other))
keeps_either true c other ws here there = here
keeps_either false c other ws here there = there

keeps_found : (is : Command → Bool) (cs : List Command) (ws : List Text) → AllPossible cs → IsPossible (option_and_then (λ c. request_by c ws) (find is cs))
keeps_found is [] ws all = tt
keeps_found is (c ∷ cs) ws all = keeps_either (is c) c (find is cs) ws (keeps_request c ws all.0) (keeps_found is cs ws all.1)

pub words_possible : (words : List Text) → IsPossible (request_of words)
unfolding request_of
words_possible [] = tt
words_possible (name ∷ []) = tt
words_possible (name ∷ word ∷ ws) = keeps_found (λ c. bytes_eq c.name word) commands ws all_possible
