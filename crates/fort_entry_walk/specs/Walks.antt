-- Inside: the lists through which the search for the next entry goes.
use Rattle.std.specs.Prelude.{◌≡◌, ℕ, zero, suc, ◌+◌, ◌-◌, max, List, [], ◌∷◌, ◌++◌, map, length, replicate, get_or, Bool, true, false, ◌||◌, ◌==◌, if◌then◌else◌, Option, None, Some}
use Rattle.std.specs.List.{flat_map, range_with_len}
use Rattle.fort_theory.specs.Signatures.{Signature}
use Rattle.fort_tables.specs.Entries.{Entry, entry}
use Rattle.fort_tuple_symbols.specs.Columns.{symbol_of}
use Rattle.fort_entry_walk.specs.WalkPlaces.{Place, wants}

-- of n states from a on those of this presence, in order
abbrev pub states_with : List ℕ → ℕ → ℕ → ℕ → List ℕ
states_with ps want a zero = []
states_with ps want a (suc n) = if get_or ps a 0 == want then a ∷ states_with ps want (a + 1) n else states_with ps want (a + 1) n

-- the lists of states up to greatest with these presences in which greatest occurs, or any where it has been has_greatest, from left to right
abbrev pub kid_lists : List ℕ → ℕ → List ℕ → Bool → List (List ℕ)
kid_lists ps greatest [] true = [] ∷ []
kid_lists ps greatest [] false = []
kid_lists ps greatest (p ∷ wants) has_greatest = flat_map (λ q. map (λ ks. q ∷ ks) (kid_lists ps greatest wants (has_greatest || (q == greatest)))) (states_with ps p 0 (greatest + 1))

-- those whose first state is among these
abbrev pub kid_lists_from : List ℕ → ℕ → List ℕ → Bool → List ℕ → List (List ℕ)
kid_lists_from ps greatest wants has_greatest qs = flat_map (λ q. map (λ ks. q ∷ ks) (kid_lists ps greatest wants (has_greatest || (q == greatest)))) qs

-- those of them after one
abbrev pub kids_after : List ℕ → ℕ → List ℕ → Bool → List ℕ → List (List ℕ)
kids_after ps greatest [] has_greatest ks = []
kids_after ps greatest (p ∷ wants) has_greatest [] = []
kids_after ps greatest (p ∷ wants) has_greatest (k ∷ ks) =
    (if get_or ps k 0 == p then map (λ r. k ∷ r) (kids_after ps greatest wants (has_greatest || (k == greatest)) ks) else [])
    ++ kid_lists_from ps greatest wants has_greatest (states_with ps p (k + 1) (greatest + 1 - (k + 1)))

-- whether a presence is among these
abbrev pub is_wanted : ℕ → List ℕ → Bool
is_wanted p [] = false
is_wanted p (w ∷ ws) = (w == p) || is_wanted p ws

-- where this state has to be greatest, since no later one can be, no other one is tried
abbrev pub first_tried : List ℕ → Bool → List ℕ → ℕ → ℕ → ℕ
first_tried ps has_greatest wants from greatest = if has_greatest || is_wanted (get_or ps greatest 0) wants then from else max from greatest

-- whether there is one left, and then it is this one
abbrev pub GivesFirst : {A : Type 0} → List A → (A → List A) → Option A → Type 0
GivesFirst rest after None = rest ≡ []
GivesFirst rest after (Some x) = rest ≡ x ∷ after x

-- a value where the flag is set
abbrev pub some_if : {A : Type 0} → Bool → A → Option A
some_if true x = Some x
some_if false x = None

-- a child as a list of its own
abbrev pub one_kid : Option ℕ → Option (List ℕ)
one_kid None = None
one_kid (Some k) = Some (k ∷ [])

-- a first digit with the others
abbrev pub with_others : List ℕ → Option ℕ → Option (List ℕ)
with_others ds None = None
with_others ds (Some d) = Some (d ∷ ds)

-- all lists of this many digits up to n, in order
abbrev pub digit_lists : ℕ → ℕ → List (List ℕ)
digit_lists n zero = [] ∷ []
digit_lists n (suc c) = flat_map (λ d. map (λ ds. d ∷ ds) (digit_lists n c)) (range_with_len 0 (n + 1))

-- those of them after one
abbrev pub digits_after : ℕ → List ℕ → List (List ℕ)
digits_after n [] = []
digits_after n (d ∷ ds) = map (λ es. d ∷ es) (digits_after n ds) ++ flat_map (λ e. map (λ es. e ∷ es) (digit_lists n (length ds))) (range_with_len (d + 1) (n - d))

-- at stage 0 the entries without children, at stage m + 1 those whose greatest child state is m
abbrev pub stage_kids : List ℕ → ℕ → List ℕ → List (List ℕ)
stage_kids ps zero [] = [] ∷ []
stage_kids ps zero (p ∷ ws) = []
stage_kids ps (suc m) ws = kid_lists ps m ws false

abbrev pub stage_kids_after : List ℕ → ℕ → List ℕ → List ℕ → List (List ℕ)
stage_kids_after ps zero ws ks = []
stage_kids_after ps (suc m) ws ks = kids_after ps m ws false ks

abbrev pub symbol_entries : Signature → List ℕ → ℕ → List ℕ → List Entry
symbol_entries sig ps s ds = map (entry (symbol_of ds)) (stage_kids ps s (wants sig (symbol_of ds)))

abbrev pub stage_entries : Signature → List ℕ → ℕ → List (List ℕ) → List Entry
stage_entries sig ps s dss = flat_map (symbol_entries sig ps s) dss

-- the entries of the stages from s on, k of them
abbrev pub stages : Signature → ℕ → List ℕ → ℕ → ℕ → List Entry
stages sig columns ps s zero = []
stages sig columns ps s (suc k) = stage_entries sig ps s (digits_after (length sig) (replicate columns 0)) ++ stages sig columns ps (s + 1) k

-- the entries after a place
abbrev pub entries_after : Signature → List ℕ → Place → List Entry
entries_after sig ps p =
    map (entry (symbol_of p.digits)) (stage_kids_after ps p.stage (wants sig (symbol_of p.digits)) p.kids)
    ++ (stage_entries sig ps p.stage (digits_after (length sig) p.digits) ++ stages sig (length p.digits) ps (p.stage + 1) (length ps - p.stage))
