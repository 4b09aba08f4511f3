-- The words by which a place asks are those of the body's views there.
use Rattle.std.proofs.Common.{◌≡◌, ℕ, zero, suc, ◌+◌, ◌-◌, ◌*◌, ◌/◌, ◌%◌, ◌^◌, ◌<◌, ◌≤◌, List, [], ◌∷◌, ◌++◌, length, take, get_or, Option, None, Some, Bool, true, false, ◌&&◌, ◌==◌, nat_lt, if◌then◌else◌, ⊎_elim, refl, ap, sym, ◌∙◌, arith, subst, eq-eqb}
use Rattle.std.proofs.Math.Nat.{pow-zero, pow-suc}
use Rattle.std.proofs.Math.Pow.{pow_mono}
use Rattle.std.proofs.lemmas.Bool.{cases_Bool, cases_lt, and_from, and_parts, lt-ltb, ltb-true, eqb-true, ne_eqb}
use Rattle.std.specs.Prelude.{IfSome}
use Rattle.std.specs.List.{insert}
use Rattle.fort_theory.specs.Signatures.{Signature}
use Rattle.fort_tables.specs.Tuples.{TupleSymbol, IsTupleSymbol, arity, symbol_kids, kid_presence}
use Rattle.fort_tables.specs.Tables.{Table}
use Rattle.fort_tables.proofs.InsertSymbolLaws.{symbol_kids-insert_some, symbol_kids-insert_none, IsTupleSymbol-insert_some, IsTupleSymbol-insert_none}
use Rattle.fort_terms.specs.declared.sym.Sym.{Sym}
use Rattle.fort_tuple_symbols.specs.Columns.{as_column}
use Rattle.fort_table_classes.specs.KnownSymbols.{are_symbols}
use Rattle.fort_table_classes.specs.ClassViews.{IsPlaceUnder}
use Rattle.fort_table_classes.proofs.SymbolTests.{test_from_symbols, symbols_from_test, present_over_kid}
use Rattle.fort_projection_keys.specs.ProjectionViews.{has_child, column_has_child, view_word, with_word, view_words, projection_view, presence_in}
use Rattle.fort_projection_keys.specs.ViewedPlaces.{IsPart}
use Rattle.fort_projection_keys.proofs.WordLists.{Has, Each, has_kept, has_itself, each_with, front_is, last_is}

-- a place of the tuples without the column
pub record IsOwnPlace (body : Table) (f : TupleSymbol) (j : ℕ) : Type 0 where
  pub symbol : IsTupleSymbol body.signature (body.columns - 1) f
  pub place : j < symbol_kids body.signature f

-- the column is absent or has a symbol of the signature
abbrev pub IsColumn : Signature → Option ℕ → Type 0
IsColumn sig None = Unit {0}
IsColumn sig (Some g) = g < length sig

-- the test of a place, both ways
pub place_from_test : (body : Table) (f : TupleSymbol) (j : ℕ) → has_child body f j ≡ true → IsOwnPlace body f j
place_from_test body f j h =
    let sig = body.signature in
    let p = and_parts (length f == body.columns - 1) (are_symbols sig f && nat_lt j (symbol_kids sig f)) h in
    let q = and_parts (are_symbols sig f) (nat_lt j (symbol_kids sig f)) p.1 in
    let low : j < symbol_kids sig f = ltb-true j (symbol_kids sig f) q.1 in
    record {
      symbol = record {
        width = eqb-true (length f) (body.columns - 1) p.0;
        present = present_over_kid sig f (omega (arith, low));
        symbols = symbols_from_test sig f q.0;
      };
      place = low;
    }

pub test_from_place : (body : Table) (f : TupleSymbol) (j : ℕ) → IsOwnPlace body f j → has_child body f j ≡ true
test_from_place body f j h =
    let sig = body.signature in
    and_from (length f == body.columns - 1) (are_symbols sig f && nat_lt j (symbol_kids sig f)) (eq-eqb (length f) (body.columns - 1) h.symbol.width)
    (and_from (are_symbols sig f) (nat_lt j (symbol_kids sig f)) (test_from_symbols sig f h.symbol.symbols) (lt-ltb j (symbol_kids sig f) h.place))

-- with something in the column it is a place of the body
pub place_with : (body : Table) (c : ℕ) (f : TupleSymbol) (j : ℕ) (x : Option ℕ) → c < body.columns → IsOwnPlace body f j → IsColumn body.signature x → IsPlaceUnder body (insert f c x) j
place_with body c f j None low h k =
    let sig = body.signature in
    let more : suc (body.columns - 1) ≡ body.columns = omega (arith, low) in
    record {
      symbol = subst (λ (n : ℕ). IsTupleSymbol sig n (insert f c None)) more (IsTupleSymbol-insert_none sig (body.columns - 1) f c (omega (arith, low)) h.symbol);
      place = omega (arith, h.place, symbol_kids-insert_none sig f c);
    }
place_with body c f j (Some g) low h k =
    let sig = body.signature in
    let more : suc (body.columns - 1) ≡ body.columns = omega (arith, low) in
    record {
      symbol = subst (λ (n : ℕ). IsTupleSymbol sig n (insert f c (Some g))) more (IsTupleSymbol-insert_some sig (body.columns - 1) f c g (omega (arith, low)) k h.symbol);
      place = omega (arith, h.place, symbol_kids-insert_some sig f c g);
    }

-- the presence of the children with something in the column, by that with the column absent
first_presence : (b : Bool) (n : ℕ) → (if b then 1 else 0) + n ≡ n + (if b then 2 ^ 0 else 0)
first_presence true n = omega (arith, pow-zero 2)
first_presence false n = omega arith

later_presence : (b : Bool) (c m n : ℕ) → m ≡ n + (if b then 2 ^ c else 0) → 2 * m ≡ 2 * n + (if b then 2 ^ suc c else 0)
later_presence true c m n e = omega (arith, e, pow-suc 2 c)
later_presence false c m n e = omega (arith, e)

pub presence_with : (sig : Signature) (f : TupleSymbol) (c j : ℕ) (x : Option ℕ) → c ≤ length f → kid_presence sig (insert f c x) j ≡ kid_presence sig (insert f c None) j + (if column_has_child sig x j then 2 ^ c else 0)
presence_with sig f zero j None low = omega arith
presence_with sig f zero j (Some g) low = first_presence (nat_lt j (arity sig g)) (2 * kid_presence sig f j)
presence_with sig [] (suc c) j x low = absurd (omega (arith, low))
presence_with sig (None ∷ f) (suc c) j x low =
    later_presence (column_has_child sig x j) c (kid_presence sig (insert f c x) j) (kid_presence sig (insert f c None) j) (presence_with sig f c j x (omega (arith, low)))
presence_with sig (Some z ∷ f) (suc c) j x low =
    let e = later_presence (column_has_child sig x j) c (kid_presence sig (insert f c x) j) (kid_presence sig (insert f c None) j) (presence_with sig f c j x (omega (arith, low))) in
    omega (arith, e)

bit_small : (b : Bool) → (if b then 1 else 0) < 2
bit_small true = omega arith
bit_small false = omega arith

pub presence_small : (sig : Signature) (f : TupleSymbol) (j : ℕ) → kid_presence sig f j < 2 ^ length f
presence_small sig [] j = omega (arith, pow-zero 2)
presence_small sig (None ∷ f) j = omega (arith, presence_small sig f j, pow-suc 2 (length f))
presence_small sig (Some g ∷ f) j = omega (arith, presence_small sig f j, pow-suc 2 (length f), bit_small (nat_lt j (arity sig g)))

-- the presence of the children of a column that has such a child
pub presence_fits_word : (table : Table) (number : TupleSymbol → ℕ → ℕ) (c presence word : ℕ) → IsPart table number c presence word → table.columns ≤ 16 → (word % 2 ≡ 0 → ⊥) → presence + 2 ^ c < 65536
presence_fits_word table number c presence word at narrow odd =
    let same : presence_in c presence word ≡ presence + 2 ^ c = ap (λ b. if b then presence else presence + 2 ^ c) (ne_eqb (word % 2) 0 odd) in
    let small = presence_small table.signature at.symbol at.place in
    let few : 2 ^ length at.symbol ≤ 2 ^ 16 = pow_mono {i = length at.symbol} {j = 16} (omega (arith, at.under.symbol.width, narrow)) in
    omega (arith, same, at.presence_is, small, few)

-- what the program's column is
pub column_is : (sig : Signature) (own : Option Sym) → IfSome own (λ g. g.0 < length sig) → IsColumn sig (as_column own)
column_is sig None h = tt
column_is sig (Some g) h = h

-- the number and the bit of a view's word
pub half_is : (b : Bool) (n : ℕ) → (2 * n + (if b then 1 else 0)) / 2 ≡ n
half_is true n = omega arith
half_is false n = omega arith

pub even_is : (n : ℕ) → (2 * n + 0) % 2 ≡ 0
even_is n = omega arith

pub odd_is : (n : ℕ) → (2 * n + 1) % 2 ≡ 1
odd_is n = omega arith

presence_by : (b : Bool) (c p n : ℕ) → p + (if b then 2 ^ c else 0) ≡ presence_in c p (2 * n + (if b then 1 else 0))
presence_by true c p n = sym (ap (λ r. if r == 0 then p else p + 2 ^ c) (odd_is n))
presence_by false c p n = let e : p + 0 ≡ p = omega arith in e ∙ sym (ap (λ r. if r == 0 then p else p + 2 ^ c) (even_is n))

module _ (number : TupleSymbol → ℕ → ℕ) (body : Table) (c : ℕ) (f : TupleSymbol) (j : ℕ) (low : c < body.columns) (h : IsOwnPlace body f j) where
  -- a word is that of a view
  pub word_is_part : (x : Option ℕ) → IsColumn body.signature x → IsPart body number c (kid_presence body.signature (insert f c None) j) (view_word number body c f j x)
  word_is_part x k =
      let sig = body.signature in
      let b = column_has_child sig x j in
      let n = number (insert f c x) j in
      record {
        symbol = insert f c x;
        place = j;
        under = place_with body c f j x low h k;
        view_is = sym (half_is b n);
        presence_is = presence_with sig f c j x (omega (arith, low, h.symbol.width)) ∙ presence_by b c (kid_presence sig (insert f c None) j) n;
      }

  words_are_parts : (n : ℕ) → n ≤ length body.signature → Each (IsPart body number c (kid_presence body.signature (insert f c None) j)) (view_words number body c f j n)
  words_are_parts zero l zero m = word_is_part None tt
  words_are_parts zero l (suc k) m = absurd (omega (arith, m))
  words_are_parts (suc n) l k m =
      each_with (IsPart body number c (kid_presence body.signature (insert f c None) j)) (view_words number body c f j n) (view_word number body c f j (Some n))
      (words_are_parts n (omega (arith, l))) (word_is_part (Some n) (omega (arith, l))) k m

  -- the words are there
  pub has_absent : (n : ℕ) → Has (view_words number body c f j n) (view_word number body c f j None)
  has_absent zero = (0, omega arith, refl)
  has_absent (suc n) = has_kept (view_words number body c f j n) (view_word number body c f j (Some n)) (view_word number body c f j None) (has_absent n)

  pub has_symbol : (n g : ℕ) → g < n → Has (view_words number body c f j n) (view_word number body c f j (Some g))
  has_symbol zero g l = absurd (omega (arith, l))
  has_symbol (suc n) g l =
      let ws = view_words number body c f j n in
      ⊎_elim
      (λ (m : g < n). has_kept ws (view_word number body c f j (Some n)) (view_word number body c f j (Some g)) (has_symbol n g m))
      (λ (m : n ≤ g).
      let e : n ≡ g = omega (arith, l, m) in
      subst (λ (i : ℕ). Has (with_word ws (view_word number body c f j (Some n))) (view_word number body c f j (Some i))) e (has_itself ws (view_word number body c f j (Some n))))
      (cases_lt g n)

module _ (number : TupleSymbol → ℕ → ℕ) (body : Table) (c : ℕ) (f : TupleSymbol) (j : ℕ) where
  -- the view of a place
  pub view_there : has_child body f j ≡ true → projection_view number body c f j ≡ view_words number body c f j (length body.signature) ++ kid_presence body.signature (insert f c None) j ∷ []
  view_there h = ap (λ b. if b then view_words number body c f j (length body.signature) ++ kid_presence body.signature (insert f c None) j ∷ [] else []) h

  pub view_none : has_child body f j ≡ false → projection_view number body c f j ≡ []
  view_none h = ap (λ b. if b then view_words number body c f j (length body.signature) ++ kid_presence body.signature (insert f c None) j ∷ [] else []) h

  -- Result: in a view that isn't empty each word but the last is that of one of the body's
  pub seen_parts : (seen : List ℕ) → c < body.columns → seen ≡ projection_view number body c f j → 0 < length seen
      → Each (IsPart body number c (get_or seen (length seen - 1) 0)) (take (length seen - 1) seen)
  seen_parts seen low e some =
      let ws = view_words number body c f j (length body.signature) in
      let p = kid_presence body.signature (insert f c None) j in
      ⊎_elim
      (λ (h : has_child body f j ≡ true).
      let there : seen ≡ ws ++ p ∷ [] = e ∙ view_there h in
      let parts = words_are_parts number body c f j low (place_from_test body f j h) (length body.signature) (omega arith) in
      let last : Each (IsPart body number c (get_or (ws ++ p ∷ []) (length (ws ++ p ∷ []) - 1) 0)) (take (length (ws ++ p ∷ []) - 1) (ws ++ p ∷ [])) =
      subst (λ (xs : List ℕ). Each (IsPart body number c (get_or (ws ++ p ∷ []) (length (ws ++ p ∷ []) - 1) 0)) xs) (sym (front_is ws p))
      (subst (λ (q : ℕ). Each (IsPart body number c q) ws) (sym (last_is ws p)) parts) in
      subst (λ (xs : List ℕ). Each (IsPart body number c (get_or xs (length xs - 1) 0)) (take (length xs - 1) xs)) (sym there) last)
      (λ (h : has_child body f j ≡ false). absurd (omega (arith, some, ap length (e ∙ view_none h))))
      (cases_Bool (has_child body f j))
