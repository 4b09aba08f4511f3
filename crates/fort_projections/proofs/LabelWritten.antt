-- The label of a projection as it is written: the first two words, and then the bits that are marked, for a constant one alone.
use Rattle.std.proofs.Common.{◌≡◌, ◌≢◌, ℕ, ◌+◌, ◌*◌, ◌/◌, ◌%◌, ◌<◌, ◌≤◌, ◌&&◌, ◌||◌, ◌==◌, List, [], ◌∷◌, map, drop, set, length, get_or, Some, max, Bool, true, false, ⊎_elim, refl, ap, sym, ◌∙◌, arith, get_or-set_same, get_or-set_other, length-drop}
use Rattle.std.proofs.lemmas.Bool.{cases_lt}
use Rattle.std.proofs.lemmas.List.{get_or_past, get_or-drop, length-set}
use Rattle.std.proofs.lemmas.Nat.Bits.{bit_at-zero}
use Rattle.std.specs.Int.{bit_at}
use Rattle.std.specs.List.{insert}
use Rattle.fort_theory.specs.Signatures.{Signature, arity_of}
use Rattle.fort_tables.specs.Tuples.{TupleSymbol, arity}
use Rattle.fort_tables.specs.Entries.{Entry, entry}
use Rattle.fort_tables.specs.Tables.{Table, IsTable, IsReached}
use Rattle.fort_tables.specs.BitRows.{AreWords, has_bit, bit_row, words_for}
use Rattle.fort_tables.proofs.TupleLaws.{arity_from_get}
use Rattle.fort_tables.proofs.BitRowLaws.{has_bit-drop, bit_row_is}
use Rattle.fort_tables.specs.Projections.{absent_state, has_state, may_stand, some_choice, ArePure}
use Rattle.fort_target_lists.specs.LabelLists.{labels_at}
use Rattle.fort_projections.specs.Choices.{IsSearched, AreChoices, may_choose, is_reachable}
use Rattle.fort_projections.specs.Scopes.{takes, may_in, gives_in}
use Rattle.fort_projections.specs.declared.scope.Scope.{Scope}
use Rattle.fort_projections.proofs.ProjectEntries.{length-labels_at, entry_under_constant}
use Rattle.fort_projections.proofs.ScopeLaws.{gives_over_absent}

two_words : (w : List ℕ) → 2 ≤ length w → w ≡ get_or w 0 0 ∷ get_or w 1 0 ∷ drop 2 w
two_words [] l = absurd (omega arith)
two_words (a ∷ []) l = absurd (omega arith)
two_words (a ∷ b ∷ w) l = refl

-- Result: words with these first two and these bits are the label
pub label_written : (w : List ℕ) (n a b : ℕ) (p : ℕ → Bool) → length w ≡ words_for n + 2 → AreWords w → get_or w 0 0 ≡ a → get_or w 1 0 ≡ b → ((q : ℕ) → q < 64 * words_for n → has_state w q ≡ p q) → w ≡ a ∷ b ∷ bit_row n p
label_written w n a b p len small first second bits =
    let long : length (drop 2 w) ≡ words_for n = omega (arith, length-drop 2 w) in
    let rest : drop 2 w ≡ bit_row n p = bit_row_is n p (drop 2 w) long
    (λ i l. omega (arith, get_or-drop 2 w i 0, small (2 + i) (omega (arith, len, long))))
    (λ q l. let e : 64 * 2 + q ≡ 128 + q = omega arith in has_bit-drop 2 w q ∙ (ap (has_bit w) e ∙ bits q l)) in
    two_words w (omega arith) ∙ (λ i. first i ∷ second i ∷ rest i)

apart : (i j : ℕ) → i < j → i ≢ j
apart i j l e = omega arith

-- before anything is marked
pub first_set : (xs : List ℕ) (a b : ℕ) → 2 ≤ length xs → get_or (set (set xs 0 a) 1 b) 0 0 ≡ a
first_set xs a b l = get_or-set_other (set xs 0 a) 1 0 b 0 (apart 0 1 (omega arith)) ∙ get_or-set_same xs 0 a 0 (omega arith)

pub second_set : (xs : List ℕ) (a b : ℕ) → 2 ≤ length xs → get_or (set (set xs 0 a) 1 b) 1 0 ≡ b
second_set xs a b l = get_or-set_same (set xs 0 a) 1 b 0 (omega (arith, length-set xs 0 a))

pub none_marked : (xs : List ℕ) (a b q : ℕ) → ((k : ℕ) → k < length xs → get_or xs k 0 ≡ 0) → has_state (set (set xs 0 a) 1 b) q ≡ false
none_marked xs a b q h =
    let at = (128 + q) / 64 in
    let ne : at ≢ 1 = omega arith in
    let no : at ≢ 0 = omega arith in
    let none : get_or xs at 0 ≡ 0 = ⊎_elim (λ (l : at < length xs). h at l) (λ (l : length xs ≤ at). get_or_past xs at 0 l) (cases_lt at (length xs)) in
    ap (λ x. bit_at x ((128 + q) % 64) == 1) (get_or-set_other (set xs 0 a) 1 at b 0 ne ∙ (get_or-set_other xs 0 at a 0 no ∙ none))
    ∙ ap (λ x. x == 1) (bit_at-zero ((128 + q) % 64))

-- nor in words that are all 0
pub none_in_zeros : (w : List ℕ) (q : ℕ) → ((k : ℕ) → get_or w k 0 ≡ 0) → has_state w q ≡ false
none_in_zeros w q h = ap (λ x. bit_at x ((128 + q) % 64) == 1) (h ((128 + q) / 64)) ∙ ap (λ x. x == 1) (bit_at-zero ((128 + q) % 64))

pub or_nothing : (a b : Bool) → b ≡ false → (a || b) ≡ a
or_nothing true b h = refl
or_nothing false b h = h

-- the choices under a symbol
pub choices_made : (body : Table) (c : ℕ) (alone : List ℕ) (labels : List (List ℕ)) (e : Entry) (sig : Signature) (g : ℕ) (s f : TupleSymbol) (most : ℕ) → IsSearched body c labels e → ArePure body c alone → sig ≡ body.signature → g < length body.signature → s ≡ e.symbol → f ≡ insert s c (Some g) → arity_of sig g ≡ Some most → AreChoices body c alone labels e g f most
choices_made body c alone labels e sig g s f most searched pure same l p q a = record {
  searched = searched;
  pure = pure;
  within = l;
  symbol = q ∙ ap (λ z. insert z c (Some g)) p;
  arity_is = sym (ap (λ z. arity z g) (sym same) ∙ (arity_from_get sig g most a).0);
}

-- what the search reaches from the first child on is what the symbol gives
pub under_reachable : (body : Table) (c : ℕ) (alone : List ℕ) (labels : List (List ℕ)) (e : Entry) (scope : Scope) (g : ℕ) (f : TupleSymbol) (most count q : ℕ) → AreChoices body c alone labels e g f most → takes scope most ≡ true → count ≡ max most (length e.kids)
    → is_reachable body (may_in scope (may_choose body c labels e most)) f [] 0 count q ≡ gives_in body c e.symbol (labels_at labels e.kids) scope q g
under_reachable body c alone labels e scope g f most count q h taken k =
    let ws = labels_at labels e.kids in
    let a = arity body.signature g in
    let n : count ≡ max a (length ws) = omega (arith, k, h.arity_is, length-labels_at labels e.kids) in
    ap (λ z. is_reachable body (may_in scope (may_choose body c labels e most)) z [] 0 count q) h.symbol
    ∙ (ap (λ y. is_reachable body (may_in scope (may_choose body c labels e y)) (insert e.symbol c (Some g)) [] 0 count q) h.arity_is
    ∙ (ap (λ m. is_reachable body (may_in scope (may_choose body c labels e a)) (insert e.symbol c (Some g)) [] 0 m q) n
    ∙ ap (λ b. b && is_reachable body (may_in scope (may_choose body c labels e a)) (insert e.symbol c (Some g)) [] 0 (max a (length ws)) q) (sym (ap (takes scope) (sym h.arity_is) ∙ taken))))

-- a constant needs no search: its one target is what it gives
pub constant_gives : (body : Table) (c : ℕ) (alone : List ℕ) (labels : List (List ℕ)) (e : Entry) (scope : Scope) (g : ℕ) (f : TupleSymbol) (most q : ℕ) → IsTable body → IsReached body → AreChoices body c alone labels e g f most → takes scope most ≡ true → most ≡ 0
    → (body.target (entry f (map absent_state (labels_at labels e.kids))) == q) ≡ gives_in body c e.symbol (labels_at labels e.kids) scope q g
constant_gives body c alone labels e scope g f most q is reached h taken none =
    let ws = labels_at labels e.kids in
    let whole = entry_under_constant body c alone labels e g f most is reached h none in
    let zero : arity body.signature g ≡ 0 = omega (arith, h.arity_is) in
    ap (λ z. body.target (entry z (map absent_state ws)) == q) h.symbol
    ∙ sym (gives_over_absent body c e.symbol ws scope q g zero (ap (takes scope) (sym none) ∙ taken) whole.within)

-- a symbol that isn't in the scope gives nothing
pub none_taken : (body : Table) (c : ℕ) (f : TupleSymbol) (ws : List (List ℕ)) (scope : Scope) (q g : ℕ) (old : Bool) → takes scope (arity body.signature g) ≡ false → old ≡ (gives_in body c f ws scope q g || old)
none_taken body c f ws scope q g old h =
    let a = arity body.signature g in
    ap (λ b. (b && some_choice (length body.presences) (may_in scope (may_stand body c a ws)) 0 (max a (length ws)) (λ ks. body.target (entry (insert f c (Some g)) ks) == q)) || old) (sym h)
