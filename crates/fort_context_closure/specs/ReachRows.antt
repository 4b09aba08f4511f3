-- Inside: a closure in rows of bits, and what such rows add to a label.
use Rattle.std.specs.Prelude.{◌≡◌, ℕ, ◌+◌, ◌<◌, suc, List, map, length, get_or, Contains, Option, None, Bool, Decides, nat_lt, ◌&&◌, ◌||◌, ◌==◌, vec_items}
use Rattle.fort_theory.specs.Patterns.{Pattern, Any}
use Rattle.fort_tables.specs.BitRows.{words_for}
use Rattle.fort_alike.specs.PatternNumbers.{PatternNumber, number_inside}
use Rattle.fort_label_bits.specs.RowBits.{bit_of}
use Rattle.fort_label_bits.specs.BitRowLists.{row_in}
use Rattle.fort_findings.specs.declared.closure.ClosureEntry.{ClosureEntry}
use Rattle.fort_context_closure.specs.declared.reach.Reach.{Reach}
use Rattle.fort_label_bits.specs.declared.rule_places.RulePlaces.{RulePlaces}

abbrev pub firsts_of : Reach → List (List ℕ)
firsts_of reach = map vec_items reach.firsts.items

abbrev pub seconds_of : Reach → List (List ℕ)
seconds_of reach = map vec_items reach.seconds.items

-- the entry is about these patterns
abbrev pub is_within : ℕ → Reach → ClosureEntry → Bool
is_within lefts reach entry = nat_lt entry.p (length (firsts_of reach)) && nat_lt entry.q lefts

-- as many rows as patterns, as wide as the bits of both sorts need
pub record HasRows (lefts rights : ℕ) (reach : Reach) : Type 0 where
  pub first_count : length (firsts_of reach) ≡ rights
  pub second_count : length (seconds_of reach) ≡ lefts
  pub first_width : (p : ℕ) → p < rights → length (row_in (firsts_of reach) p) ≡ suc (words_for (lefts + rights))
  pub second_width : (q : ℕ) → q < lefts → length (row_in (seconds_of reach) q) ≡ suc (words_for (lefts + rights))

-- the row of a right pattern has the bits of the left patterns that the numbers pair it with; that of a left pattern those of the right
-- ones, which stand behind the left ones
pub record IsReach (lefts rights : ℕ) (numbers : List (ℕ × ℕ)) (reach : Reach) : Type 0 where
  pub rows : HasRows lefts rights reach
  pub firsts_are : (p q : ℕ) → p < rights → Decides (bit_of q (row_in (firsts_of reach) p)) ((q < lefts) × Contains numbers (p, q))
  pub seconds_are : (q k : ℕ) → q < lefts
      → Decides (bit_of k (row_in (seconds_of reach) q)) ((p : ℕ) × (lefts + p ≡ k) × (p < rights) × Contains numbers (p, q))

-- one more entry; one of other numbers changes nothing
pub record MarksEntry (lefts : ℕ) (old : Reach) (entry : ClosureEntry) (new : Reach) : Type 0 where
  pub first_count : length (firsts_of new) ≡ length (firsts_of old)
  pub second_count : length (seconds_of new) ≡ length (seconds_of old)
  pub first_widths : (k : ℕ) → length (row_in (firsts_of new) k) ≡ length (row_in (firsts_of old) k)
  pub second_widths : (k : ℕ) → length (row_in (seconds_of new) k) ≡ length (row_in (seconds_of old) k)
  pub firsts : (p q : ℕ) → bit_of q (row_in (firsts_of new) p)
      ≡ ((is_within lefts old entry && ((entry.p == p) && (entry.q == q))) || bit_of q (row_in (firsts_of old) p))
  pub seconds : (q k : ℕ) → bit_of k (row_in (seconds_of new) q)
      ≡ ((is_within lefts old entry && ((entry.q == q) && (lefts + entry.p == k))) || bit_of k (row_in (seconds_of old) q))

abbrev pub NoPatternTwice : List Pattern → Type 0
NoPatternTwice ps = (i j : ℕ) → i < j → j < length ps → get_or ps i Any ≡ get_or ps j Any → ⊥

-- whether a rule adds a bit at a node with these roots
abbrev pub rule_adds : (lefts rights : List PatternNumber) → Reach → (x y : Option ℕ) → List (List ℕ) → ℕ → RulePlaces → Bool
rule_adds lefts rights reach x y ws q r =
    (number_inside 0 (get_or lefts r.left None) x ws && bit_of q (row_in (firsts_of reach) r.right))
    || (number_inside (length lefts) (get_or rights r.right None) y ws && bit_of q (row_in (seconds_of reach) r.left))
