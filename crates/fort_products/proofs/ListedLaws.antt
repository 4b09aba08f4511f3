-- An operand's step by its columns' number, and how far these numbers go.
use Rattle.std.proofs.Common.{◌≡◌, ℕ, suc, ◌^◌, ◌<◌, List, [], ◌∷◌, take, length, get_or, None, Some, Bool, true, false, map, refl, ap, ◌∙◌, arith}
use Rattle.std.proofs.lemmas.List.{length-map}
use Rattle.fort_tables.specs.Tuples.{TupleSymbol, AreSymbols, symbol_kids}
use Rattle.fort_tables.specs.Entries.{entry}
use Rattle.fort_tables.specs.Tables.{Table}
use Rattle.fort_tuple_symbols.proofs.DigitNumberLaws.{pow_some}
use Rattle.fort_tables.specs.Selections.{selected, is_present}
use Rattle.fort_tables.specs.Products.{OfTable, operand_step, state_at}
use Rattle.fort_target_lists.specs.Places.{number_of}
use Rattle.fort_target_lists.specs.Flats.{IsFlatOf}
use Rattle.fort_target_lists.specs.declared.flat.FlatTargets.{FlatTargets}
use Rattle.fort_target_lists.proofs.SymbolNumbers.{number_below}

-- 0 is the number of what has no column
pub number_absent : (base : ℕ) (f : TupleSymbol) → 0 < base → number_of base f ≡ 0 → is_present f ≡ false
number_absent base [] h e = refl
number_absent base (None ∷ f) h e = number_absent base f h (omega (arith, e))
number_absent base (Some g ∷ f) h e = absurd (omega (arith, e, pow_some base (length f) h))

absent_number : (base : ℕ) (f : TupleSymbol) → is_present f ≡ false → number_of base f ≡ 0
absent_number base [] e = refl
absent_number base (None ∷ f) e = omega (arith, absent_number base f e)
absent_number base (Some g ∷ f) e = absurd cc

pub number_present : (base : ℕ) (f : TupleSymbol) → (number_of base f ≡ 0 → ⊥) → is_present f ≡ true
number_present base f h =
    let F : Bool → Type 0 = λ b. is_present f ≡ b → b ≡ true in
    let both : (b : Bool) → F b = λ b. elim b as F [ true ↦ (λ e. refl) | false ↦ (λ e. absurd (h (absent_number base f e))) ] in
    both (is_present f) refl

-- the step of an operand
pub step_absent : (table : Table) (places : List ℕ) (i : ℕ) (f : TupleSymbol) (ws : List (List ℕ)) → is_present (selected places f) ≡ false → operand_step i (OfTable table places) f ws ≡ 0
step_absent table places i f ws e = rw e refl

pub step_present : (table : Table) (places : List ℕ) (i : ℕ) (f : TupleSymbol) (ws : List (List ℕ)) → is_present (selected places f) ≡ true
    → operand_step i (OfTable table places) f ws ≡ suc (table.target (entry (selected places f) (map (state_at i) (take (symbol_kids table.signature (selected places f)) ws))))
step_present table places i f ws e = rw e refl

-- the number of an operand's columns
pub selected_below : (table : Table) (list : FlatTargets) (places : List ℕ) (f : TupleSymbol) → IsFlatOf table list → length places ≡ table.columns → AreSymbols table.signature (selected places f)
    → number_of list.base (selected places f) < list.base ^ table.columns
selected_below table list places f h w s =
    let e : length (selected places f) ≡ table.columns = length-map places (λ p. get_or f p None) ∙ w in
    omega (arith, number_below table.signature list.base (selected places f) h.base_is s, ap (λ n. list.base ^ n) e)
