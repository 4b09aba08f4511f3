-- What the words of a view and of a key are, by cases.
use Rattle.std.proofs.Common.{◌≡◌, ℕ, suc, ◌-◌, ◌<◌, List, length, get_or, true, false, ◌&&◌, ◌==◌, nat_lt, if◌then◌else◌, ap, ◌∙◌, eq-eqb}
use Rattle.std.proofs.lemmas.Bool.{and_from, lt-ltb, ne_eqb}
use Rattle.fort_tables.specs.Tuples.{TupleSymbol, kid_presence}
use Rattle.fort_tables.specs.Tables.{Table}
use Rattle.fort_tables.specs.Selections.{selected}
use Rattle.fort_tables.specs.Products.{OfTable}
use Rattle.fort_product_keys.specs.ProductViews.{has_kid_at, view_word, presence_word, tells_state, key_word}

module _ (table : Table) (places : List ℕ) (columns : ℕ) (f : TupleSymbol) (j : ℕ) (number : TupleSymbol → ℕ → ℕ) where
  -- the words of a view, with a child and without
  pub view_there : has_kid_at table places columns f j ≡ true → view_word number (OfTable table places) columns f j ≡ suc (number (selected places f) j)
  view_there h = ap (λ b. if b then suc (number (selected places f) j) else 0) h

  pub view_none : has_kid_at table places columns f j ≡ false → view_word number (OfTable table places) columns f j ≡ 0
  view_none h = ap (λ b. if b then suc (number (selected places f) j) else 0) h

  pub presence_there : has_kid_at table places columns f j ≡ true → presence_word (OfTable table places) columns f j ≡ kid_presence table.signature (selected places f) j
  presence_there h = ap (λ b. if b then kid_presence table.signature (selected places f) j else 0) h

module _ (table : Table) (places : List ℕ) (leader : ℕ → ℕ → ℕ) where
  -- the words of a key, without a child and with a state
  pub key_none : (view presence word : ℕ) → view ≡ 0 → key_word leader (OfTable table places) view presence word ≡ 0
  key_none view presence word e = ap (λ b. if b then 0 else if tells_state table presence word then suc (leader (view - 1) (word - 1)) else word) (eq-eqb view 0 e)

  key_some : (view presence word : ℕ) → (view ≡ 0 → ⊥) → key_word leader (OfTable table places) view presence word ≡ (if tells_state table presence word then suc (leader (view - 1) (word - 1)) else word)
  key_some view presence word e = ap (λ b. if b then 0 else if tells_state table presence word then suc (leader (view - 1) (word - 1)) else word) (ne_eqb view 0 e)

  pub key_of_state : (view presence word : ℕ) → (view ≡ 0 → ⊥) → tells_state table presence word ≡ true → key_word leader (OfTable table places) view presence word ≡ suc (leader (view - 1) (word - 1))
  key_of_state view presence word some told = key_some view presence word some ∙ ap (λ b. if b then suc (leader (view - 1) (word - 1)) else word) told

-- a state's word tells it
pub told : (table : Table) (presence word : ℕ) → 0 < word → word - 1 < length table.presences → get_or table.presences (word - 1) 0 ≡ presence → tells_state table presence word ≡ true
told table presence word some within is =
    and_from (nat_lt 0 word) (nat_lt (word - 1) (length table.presences) && (get_or table.presences (word - 1) 0 == presence)) (lt-ltb 0 word some)
    (and_from (nat_lt (word - 1) (length table.presences)) (get_or table.presences (word - 1) 0 == presence) (lt-ltb (word - 1) (length table.presences) within)
    (eq-eqb (get_or table.presences (word - 1) 0) presence is))
