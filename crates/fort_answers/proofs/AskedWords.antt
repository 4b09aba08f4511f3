-- Words that plainly ask by a command ask that, or nothing.
use Rattle.std.proofs.Common.{◌≡◌, ◌∙◌, ℕ, Bool, true, false, List, [], ◌∷◌, ◌++◌, ◌⊎◌, inl, inr, refl, sym, subst, length}
use Rattle.std.specs.Prelude.{◌==◌, ◌&&◌, Option, Some, None, IfSome, codes, count_by, find, if◌then◌else◌, nat_le, option_and_then, option_map}
use Rattle.std.specs.List.{list_all}
use Rattle.std.specs.Fmt.{decimal}
use Rattle.std.specs.Str.{bytes_eq}
use Rattle.std.specs.Str.Parse.{digits_value}
use Rattle.std.proofs.lemmas.Bool.{and_parts}
use Rattle.std.proofs.lemmas.Bool.Decides.{Decides-eqb}
use Rattle.std.proofs.lemmas.Slice.Eq.{bytes_eq-Decides}
use Rattle.fort_answers.specs.Requests.{number_in, Text, Options, Bounds, Family, Request, Decide, Witness, Check, Solutions, Confirm, Synth}
use Rattle.fort_answers.specs.Commands.{Command, decide, witness, check, solutions, confirm, synth, number_given, options_given, bounds_given, family_given, certificate_name, height, most, rule_count, side_height}
use Rattle.fort_answers.specs.CommandGrammar.{Item, is_complete, is_not_repeated, is_under, is_word, items_of, given_by, words_among, asked_by, request_by, request_of}
use Rattle.fort_answers.specs.Said.{AreOptions, Asks}
use Rattle.fort_answers.proofs.OptionItems.{AreAbout, TakesOptions, options_read}

-- ---- any command

module _ (command : Command) (takes : TakesOptions command.parameters) (about : List Text) (all : count_by is_word command.parameters ≡ length about)
    (P : Option Request → Type 0) (nothing : P None)
    (asked : (items : List Item) → find (is_under certificate_name) items ≡ None → P (command.asks (given_by command.parameters items about))) where
  if_asked : (b : Bool) (request : Option Request) → (b ≡ true → P request) → P (if b then request else None)
  if_asked true request h = h refl
  if_asked false request h = nothing

  by_items : (items : List Item) → AreAbout about items → P (asked_by command items)
  by_items items are =
      if_asked (is_complete command.parameters items) (command.asks (given_by command.parameters items (words_among items))) (λ complete.
      let wanted = (and_parts (list_all (is_not_repeated items) command.parameters) (length (words_among items) == count_by is_word command.parameters) complete).1 in
      let is = are ((Decides-eqb (length (words_among items)) (count_by is_word command.parameters)).0 wanted ∙ all) in
      subst (λ ws. P (command.asks (given_by command.parameters items ws))) (sym is.0) (asked items is.1))

  by_read : (read : Option (List Item)) → IfSome read (AreAbout about) → P (option_and_then (asked_by command) read)
  by_read None are = nothing
  by_read (Some items) are = by_items items are

  by_options : (options : List Text) → AreOptions options → P (request_by command (options ++ about))
  by_options options are = by_read (items_of command.parameters None (options ++ about)) (options_read command.parameters takes about options are)

-- ---- numbers

number_text : (low high : ℕ) (text : Text) → IfSome (number_in low high text) (λ n. text ≡ decimal n)
unfolding number_in
number_text low high text =
    let n = digits_value 10 text in
    read (nat_le low n) (nat_le n high) (bytes_eq text (decimal n)) n (bytes_eq-Decides text (decimal n)).0
  where
    read : (from to same : Bool) (n : ℕ) → (same ≡ true → text ≡ decimal n) → IfSome (if from && (to && same) then Some n else None) (λ n. text ≡ decimal n)
    read false to same n h = tt
    read true false same n h = tt
    read true true false n h = tt
    read true true true n h = h refl

bounds_text : (h : Text) (x y : Option ℕ) → IfSome x (λ n. h ≡ decimal n)
    → IfSome (option_and_then (λ n. option_map {U = Bounds} (λ m. record { height = n; most = m }) y) x) (λ b. h ≡ decimal b.height)
bounds_text h None y low = tt
bounds_text h (Some n) None low = tt
bounds_text h (Some n) (Some m) low = low

family_text : (n h : Text) (x y : Option ℕ) → IfSome x (λ k. n ≡ decimal k) → IfSome y (λ k. h ≡ decimal k)
    → IfSome (option_and_then (λ r. option_map {U = Family} (λ k. record { count = r; height = k }) y) x) (λ b. (n ≡ decimal b.count) × (h ≡ decimal b.height))
family_text n h None y few low = tt
family_text n h (Some r) None few low = tt
family_text n h (Some r) (Some k) few low = (few, low)

-- ---- by command

abbrev IsDecided : (Options → Bool → Text → Request) → (formula : Text) → Option Request → Type 0
IsDecided f formula request = (request ≡ None) ⊎ ((o : Options) × (request ≡ Some (f o false formula)))

decided : (f : Options → Bool → Text → Request) (options : Option Options) (formula : Text)
    → IsDecided f formula (option_and_then (λ o. option_map (f o false) (Some formula)) options)
decided f None formula = inl refl
decided f (Some o) formula = inr (o, refl)

pub Asks-decide : (words : List Text) (formula : Text) → Asks (codes "decide") (formula ∷ []) words
    → (request_of words ≡ None) ⊎ ((o : Options) × (request_of words ≡ Some (Decide o false formula)))
unfolding request_of
Asks-decide words formula asks =
    rw asks.are (by_options decide (record { reduce = inr refl; states = inr refl; most = inl refl }) (formula ∷ []) refl (IsDecided Decide formula) (inl refl)
    (λ items none. rw none (decided Decide (options_given (given_by decide.parameters items (formula ∷ []))) formula)) asks.options asks.are_options)

pub Asks-witness : (words : List Text) (formula : Text) → Asks (codes "witness") (formula ∷ []) words
    → (request_of words ≡ None) ⊎ ((o : Options) × (request_of words ≡ Some (Witness o false formula)))
unfolding request_of
Asks-witness words formula asks =
    rw asks.are (by_options witness (record { reduce = inr refl; states = inr refl; most = inl refl }) (formula ∷ []) refl (IsDecided Witness formula) (inl refl)
    (λ items none. rw none (decided Witness (options_given (given_by witness.parameters items (formula ∷ []))) formula)) asks.options asks.are_options)

pub Asks-check : (words : List Text) (formula : Text) → Asks (codes "check") (formula ∷ []) words
    → (request_of words ≡ None) ⊎ (request_of words ≡ Some (Check formula))
unfolding request_of
Asks-check words formula asks =
    rw asks.are (by_options check (record { reduce = inl refl; states = inl refl; most = inl refl }) (formula ∷ []) refl
    (λ request. (request ≡ None) ⊎ (request ≡ Some (Check formula))) (inl refl) (λ items none. inr refl) asks.options asks.are_options)

pub Asks-confirm : (words : List Text) (formula : Text) → Asks (codes "confirm") (formula ∷ []) words
    → (request_of words ≡ None) ⊎ (request_of words ≡ Some (Confirm formula))
unfolding request_of
Asks-confirm words formula asks =
    rw asks.are (by_options confirm (record { reduce = inl refl; states = inl refl; most = inl refl }) (formula ∷ []) refl
    (λ request. (request ≡ None) ⊎ (request ≡ Some (Confirm formula))) (inl refl) (λ items none. inr refl) asks.options asks.are_options)

abbrev IsBounded : (h formula : Text) → Option Request → Type 0
IsBounded h formula request = (request ≡ None) ⊎ ((o : Options) × (b : Bounds) × (request ≡ Some (Solutions o b formula)) × (h ≡ decimal b.height))

bounded : (h formula : Text) (options : Option Options) (bounds : Option Bounds) → IfSome bounds (λ b. h ≡ decimal b.height)
    → IsBounded h formula (option_and_then (λ o. option_and_then (λ b. option_map (Solutions o b) (Some formula)) bounds) options)
bounded h formula None bounds low = inl refl
bounded h formula (Some o) None low = inl refl
bounded h formula (Some o) (Some b) low = inr (o, b, refl, low)

pub Asks-solutions : (words : List Text) (h formula : Text) → Asks (codes "solutions") (h ∷ formula ∷ []) words
    → (request_of words ≡ None) ⊎ ((o : Options) × (b : Bounds) × (request_of words ≡ Some (Solutions o b formula)) × (h ≡ decimal b.height))
unfolding request_of
Asks-solutions words h formula asks =
    rw asks.are (by_options solutions (record { reduce = inl refl; states = inr refl; most = inr refl }) (h ∷ formula ∷ []) refl (IsBounded h formula) (inl refl)
    (λ items none. let given = given_by solutions.parameters items (h ∷ formula ∷ []) in
    bounded h formula (options_given given) (bounds_given given)
    (bounds_text h (number_given height given) (number_given most given) (number_text height.low height.high h))) asks.options asks.are_options)

abbrev IsOfFamily : (n h formula : Text) → Option Request → Type 0
IsOfFamily n h formula request =
    (request ≡ None) ⊎ ((o : Options) × (b : Family) × (request ≡ Some (Synth o b formula)) × (n ≡ decimal b.count) × (h ≡ decimal b.height))

of_family : (n h formula : Text) (options : Option Options) (family : Option Family) → IfSome family (λ b. (n ≡ decimal b.count) × (h ≡ decimal b.height))
    → IsOfFamily n h formula (option_and_then (λ o. option_and_then (λ b. option_map (Synth o b) (Some formula)) family) options)
of_family n h formula None family are = inl refl
of_family n h formula (Some o) None are = inl refl
of_family n h formula (Some o) (Some b) are = inr (o, b, refl, are.0, are.1)

pub Asks-synth : (words : List Text) (n h formula : Text) → Asks (codes "synth") (n ∷ h ∷ formula ∷ []) words
    → (request_of words ≡ None) ⊎ ((o : Options) × (b : Family) × (request_of words ≡ Some (Synth o b formula)) × (n ≡ decimal b.count) × (h ≡ decimal b.height))
unfolding request_of
Asks-synth words n h formula asks =
    rw asks.are (by_options synth (record { reduce = inl refl; states = inr refl; most = inl refl }) (n ∷ h ∷ formula ∷ []) refl (IsOfFamily n h formula) (inl refl)
    (λ items none. let given = given_by synth.parameters items (n ∷ h ∷ formula ∷ []) in
    of_family n h formula (options_given given) (family_given given)
    (family_text n h (number_given rule_count given) (number_given side_height given) (number_text rule_count.low rule_count.high n)
    (number_text side_height.low side_height.high h))) asks.options asks.are_options)
