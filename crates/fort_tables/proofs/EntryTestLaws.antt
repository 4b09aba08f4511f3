-- The test whether an entry comes before another.
use Rattle.std.proofs.Common.{◌≡◌, ℕ, ◌<◌, ◌⊎◌, List, [], ◌∷◌, Option, None, Some, true, false, if◌then◌else◌, refl, arith, subst, ⊎_elim}
use Rattle.std.proofs.lemmas.Bool.{lt-ltb, le-ltb}
use Rattle.fort_tables.specs.Tuples.{TupleSymbol}
use Rattle.fort_tables.specs.Entries.{Entry, stage, ColumnBefore, LexBefore, ComesBefore}
use Rattle.fort_tables.specs.EntryTests.{column_test, symbol_test, states_test, entry_test}

column_yes : (x y : Option ℕ) → ColumnBefore x y → column_test x y ≡ true
column_yes None None h = absurd h
column_yes (Some g) None h = absurd h
column_yes None (Some h) l = refl
column_yes (Some g) (Some h) l = lt-ltb g h l

column_back : (x y : Option ℕ) → ColumnBefore x y → column_test y x ≡ false
column_back None None h = absurd h
column_back (Some g) None h = absurd h
column_back None (Some h) l = refl
column_back (Some g) (Some h) l = le-ltb h g (omega arith)

column_self : (x : Option ℕ) → column_test x x ≡ false
column_self None = refl
column_self (Some g) = le-ltb g g (omega arith)

symbol_yes : (f g : TupleSymbol) → LexBefore ColumnBefore f g → symbol_test f g ≡ true
symbol_yes [] g h = absurd h
symbol_yes (x ∷ f) [] h = absurd h
symbol_yes (x ∷ f) (y ∷ g) h = ⊎_elim
    (λ l. rw (column_yes x y l) refl)
    (λ d.
    let a : column_test x y ≡ false = subst (λ (z : Option ℕ). column_test x z ≡ false) d.0 (column_self x) in
    let b : column_test y x ≡ false = subst (λ (z : Option ℕ). column_test z x ≡ false) d.0 (column_self x) in
    rw (a, b) (symbol_yes f g d.1))
    h

symbol_back : (f g : TupleSymbol) → LexBefore ColumnBefore f g → symbol_test g f ≡ false
symbol_back [] g h = absurd h
symbol_back (x ∷ f) [] h = absurd h
symbol_back (x ∷ f) (y ∷ g) h = ⊎_elim
    (λ l. rw (column_back x y l, column_yes x y l) refl)
    (λ d.
    let a : column_test x y ≡ false = subst (λ (z : Option ℕ). column_test x z ≡ false) d.0 (column_self x) in
    let b : column_test y x ≡ false = subst (λ (z : Option ℕ). column_test z x ≡ false) d.0 (column_self x) in
    rw (b, a) (symbol_back f g d.1))
    h

symbol_self : (f : TupleSymbol) → symbol_test f f ≡ false
symbol_self [] = refl
symbol_self (x ∷ f) = rw (column_self x) (symbol_self f)

states_yes : (f g : List ℕ) → LexBefore ◌<◌ f g → states_test f g ≡ true
states_yes [] g h = absurd h
states_yes (x ∷ f) [] h = absurd h
states_yes (x ∷ f) (y ∷ g) h = ⊎_elim
    (λ l. rw (lt-ltb x y l) refl)
    (λ d. rw (le-ltb x y (omega (arith, d.0)), le-ltb y x (omega (arith, d.0))) (states_yes f g d.1))
    h

states_back : (f g : List ℕ) → LexBefore ◌<◌ f g → states_test g f ≡ false
states_back [] g h = absurd h
states_back (x ∷ f) [] h = absurd h
states_back (x ∷ f) (y ∷ g) h = ⊎_elim
    (λ l. rw (le-ltb y x (omega arith), lt-ltb x y l) refl)
    (λ d. rw (le-ltb y x (omega (arith, d.0)), le-ltb x y (omega (arith, d.0))) (states_back f g d.1))
    h

pub before_yes : (a b : Entry) → ComesBefore a b → entry_test a b ≡ true
before_yes a b h = ⊎_elim
    (λ l. rw (lt-ltb (stage a.kids) (stage b.kids) l) refl)
    (λ d.
    let p = le-ltb (stage a.kids) (stage b.kids) (omega (arith, d.0)) in
    let q = le-ltb (stage b.kids) (stage a.kids) (omega (arith, d.0)) in
    rw (p, q) (⊎_elim
    (λ l. rw (symbol_yes a.symbol b.symbol l) refl)
    (λ (s : (a.symbol ≡ b.symbol) × LexBefore ◌<◌ a.kids b.kids).
    let u : symbol_test a.symbol b.symbol ≡ false = subst (λ (g : TupleSymbol). symbol_test a.symbol g ≡ false) s.0 (symbol_self a.symbol) in
    let v : symbol_test b.symbol a.symbol ≡ false = subst (λ (g : TupleSymbol). symbol_test g a.symbol ≡ false) s.0 (symbol_self a.symbol) in
    rw (u, v) (states_yes a.kids b.kids s.1))
    d.1))
    h

pub before_back : (a b : Entry) → ComesBefore a b → entry_test b a ≡ false
before_back a b h = ⊎_elim
    (λ l. rw (le-ltb (stage b.kids) (stage a.kids) (omega arith), lt-ltb (stage a.kids) (stage b.kids) l) refl)
    (λ d.
    let p = le-ltb (stage a.kids) (stage b.kids) (omega (arith, d.0)) in
    let q = le-ltb (stage b.kids) (stage a.kids) (omega (arith, d.0)) in
    rw (q, p) (⊎_elim
    (λ l. rw (symbol_back a.symbol b.symbol l, symbol_yes a.symbol b.symbol l) refl)
    (λ (s : (a.symbol ≡ b.symbol) × LexBefore ◌<◌ a.kids b.kids).
    let u : symbol_test a.symbol b.symbol ≡ false = subst (λ (g : TupleSymbol). symbol_test a.symbol g ≡ false) s.0 (symbol_self a.symbol) in
    let v : symbol_test b.symbol a.symbol ≡ false = subst (λ (g : TupleSymbol). symbol_test g a.symbol ≡ false) s.0 (symbol_self a.symbol) in
    rw (v, u) (states_back a.kids b.kids s.1))
    d.1))
    h
