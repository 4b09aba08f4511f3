-- The rules of a made problem fit its signature, and are pushed one after another.
use Rattle.std.proofs.Common.{◌≡◌, ℕ, ◌+◌, ◌*◌, ◌%◌, ◌<◌, List, [], ◌∷◌, ◌++◌, map, length, sym, ap, subst, ◌∙◌, arith}
use Rattle.std.specs.Prelude.{Some, Contains, codes, option_map, nat_eq, get_or}
use Rattle.std.specs.List.{range_with_len, IsDistinct}
use Rattle.std.proofs.lemmas.List.FromFn.{length-map-range_with_len, map-range_with_len_more, get_or-map-range_with_len}
use Rattle.std.proofs.lemmas.List.{map-append, length-map, get_or_append_left, length-append}
use Rattle.std.proofs.Math.Seq.{get_or-append_seam}
use Rattle.std.proofs.lemmas.Option.{slice_get-get_or}
use Rattle.std.proofs.lemmas.List.Elements.{Contains-append_right}
use Rattle.fort_theory.proofs.Lists.{IsDistinct-append_apart}
use Rattle.fort_theory.proofs.Members.{Contains-head}
use Rattle.fort_theory.specs.Signatures.{Symbol, symbol, arity_of}
use Rattle.fort_theory.specs.Sides.{Side, Var, ShareNothing, variables, count_all, pushed_at}
use Rattle.fort_theory.specs.Patterns.{Pair, PatternSystem, pattern_pair, pattern_system}
use Rattle.fort_terms.specs.RuleFaults.{IsFirstRepeated, IsFirstShared}
use Rattle.fort_answers.specs.MadeProblem.{made_constant, made_signature, constant_side, f_side, constant_rule, f_rule, made_rules, made_system}

-- ---- which rules are refused

pub not_repeated : (vs : List ℕ) (v : ℕ) → IsDistinct nat_eq vs → IsFirstRepeated vs v → ⊥
not_repeated vs v distinct r =
    IsDistinct-append_apart r.before (v ∷ r.after) (subst (IsDistinct nat_eq) r.stands distinct) v r.again (Contains-head v r.after)

pub not_shared : (s t : Side) (v : ℕ) → ShareNothing s t → IsFirstShared (variables s) (variables t) v → ⊥
not_shared s t v apart r =
    apart v (subst (λ vs. Contains vs v) (sym r.stands) (Contains-append_right r.before (v ∷ r.after) v (Contains-head v r.after))) r.shared

-- ---- arities

abbrev f_symbol : Symbol
f_symbol = symbol (codes "f") 1

-- the symbol with a number is the one that stands there
arity_at : (size i : ℕ) (s : Symbol) → i < size + 1 → get_or (made_signature size) i f_symbol ≡ s → arity_of (made_signature size) i ≡ Some s.arity
arity_at size i s below is =
    let count : length (made_signature size) ≡ size + 1 =
    length-append (map made_constant (range_with_len 0 size)) (f_symbol ∷ []) ∙ ap (λ k. k + 1) (length-map-range_with_len made_constant 0 size) in
    ap (option_map (λ (x : Symbol). x.arity)) (slice_get-get_or (made_signature size) i f_symbol (omega (arith, count)) ∙ ap Some is)

pub constant_arity : (size i : ℕ) → i < size → arity_of (made_signature size) i ≡ Some 0
constant_arity size i below =
    let count = length-map-range_with_len made_constant 0 size in
    arity_at size i (made_constant i) (omega arith)
    (get_or_append_left (map made_constant (range_with_len 0 size)) (f_symbol ∷ []) f_symbol i (omega (arith, count))
    ∙ get_or-map-range_with_len made_constant 0 size i i f_symbol below (omega arith))

pub f_arity : (size : ℕ) → arity_of (made_signature size) size ≡ Some 1
f_arity size =
    let constants = map made_constant (range_with_len 0 size) in
    let count : length constants ≡ size = length-map-range_with_len made_constant 0 size in
    arity_at size size f_symbol (omega arith)
    (subst (λ k. get_or (constants ++ f_symbol ∷ []) k f_symbol ≡ f_symbol) count (get_or-append_seam constants f_symbol [] f_symbol))

-- ---- rules one after another

abbrev pub pairs_so_far : (size count : ℕ) → List Pair
pairs_so_far size count = map pattern_pair (map (constant_rule size) (range_with_len 0 count))

pub count_so_far : (size count : ℕ) (lists : List (List Pair)) → lists ≡ pairs_so_far size count ∷ [] → count_all lists ≡ count
count_so_far size count lists are =
    let length_is = length-map-range_with_len (constant_rule size) 0 count in
    let pairs_are = length-map (map (constant_rule size) (range_with_len 0 count)) pattern_pair in
    ap count_all are ∙ omega (arith, length_is, pairs_are)

-- the pair of the next constant goes behind
pub pushed_constant : (size count : ℕ) (s t : Side) (old new : List (List Pair)) → old ≡ pairs_so_far size count ∷ [] → s ≡ constant_side count
    → t ≡ constant_side ((count * count + 1) % size) → new ≡ pushed_at 1 (pattern_pair (record { left = s; right = t })) old → new ≡ pairs_so_far size (count + 1) ∷ []
pushed_constant size count s t old new are left right is =
    let rule : record { left = s; right = t } ≡ constant_rule size count = (λ i. record { left = left i; right = right i }) in
    let more : pairs_so_far size count ++ pattern_pair (constant_rule size count) ∷ [] ≡ pairs_so_far size (count + 1) =
    sym (map-append pattern_pair (map (constant_rule size) (range_with_len 0 count)) (constant_rule size count ∷ []))
    ∙ ap (map pattern_pair) (sym (map-range_with_len_more (constant_rule size) 0 count count (omega arith))) in
    is ∙ ((λ i. pushed_at 1 (pattern_pair (rule i)) (are i)) ∙ ap (λ xs. xs ∷ []) more)

-- the pair of f comes last
pub pushed_f : (size : ℕ) (s t : Side) (old new : List (List Pair)) → old ≡ pairs_so_far size size ∷ [] → s ≡ f_side size (f_side size (Var 0))
    → t ≡ constant_side 0 → new ≡ pushed_at 1 (pattern_pair (record { left = s; right = t })) old → new ≡ map (map pattern_pair) (made_rules size ∷ [])
pushed_f size s t old new are left right is =
    let rule : record { left = s; right = t } ≡ f_rule size = (λ i. record { left = left i; right = right i }) in
    is ∙ ((λ i. pushed_at 1 (pattern_pair (rule i)) (are i))
    ∙ ap (λ xs. xs ∷ []) (sym (map-append pattern_pair (map (constant_rule size) (range_with_len 0 size)) (f_rule size ∷ []))))

pub made_by_parts : (size : ℕ) (system : PatternSystem) → system.signature ≡ made_signature size → system.rules ≡ map (map pattern_pair) (made_rules size ∷ [])
    → system ≡ pattern_system (made_system size)
unfolding made_system
made_by_parts size system signature rules = λ i. record { signature = signature i; rules = rules i }
