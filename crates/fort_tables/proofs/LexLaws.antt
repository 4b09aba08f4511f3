-- Lists by the first place where they differ: the order is strict and total where that of the elements is; so are tuple symbols, and entries within a stage.
use Rattle.std.proofs.Common.{◌≡◌, ℕ, suc, ◌<◌, ◌⊎◌, List, [], ◌∷◌, length, get_or, Option, None, Some, refl, ap, sym, ◌∙◌, arith, subst, inl, inr, ⊎_elim}
use Rattle.std.proofs.lemmas.Bool.{cases_lt}
use Rattle.fort_tables.specs.Tuples.{TupleSymbol}
use Rattle.fort_tables.specs.Entries.{Entry, entry, ColumnBefore, LexBefore, StageBefore}
use Rattle.fort_tables.proofs.OrderLaws.{before_irrefl, before_trans}

-- transitive, where the order is so at each element of the first list
pub lex_trans_at : {A : Type 0} (R : A → A → Type 0) (d : A) (xs ys zs : List A) → ((j : ℕ) → j < length xs → (y z : A) → R (get_or xs j d) y → R y z → R (get_or xs j d) z) → LexBefore R xs ys → LexBefore R ys zs → LexBefore R xs zs
lex_trans_at R d [] ys zs f h k = absurd h
lex_trans_at R d (x ∷ xs) [] zs f h k = absurd h
lex_trans_at R d (x ∷ xs) (y ∷ ys) [] f h k = absurd k
lex_trans_at {A} R d (x ∷ xs) (y ∷ ys) (z ∷ zs) f h k =
    ⊎_elim
    (λ l. ⊎_elim (λ m. inl (f 0 (omega arith) y z l m)) (λ e. inl (subst (λ (w : A). R x w) e.0 l)) k)
    (λ s. ⊎_elim (λ m. inl (subst (λ (w : A). R w z) (sym s.0) m)) (λ e. inr (s.0 ∙ e.0, lex_trans_at R d xs ys zs (λ j l. f (suc j) (omega arith)) s.1 e.1)) k)
    h

-- one or the other comes first, or they are the same
abbrev pub Either : {A : Type 0} → (A → A → Type 0) → A → A → Type 0
Either R x y = (x ≡ y) ⊎ (R x y ⊎ R y x)

pub lex_total : {A : Type 0} (R : A → A → Type 0) (d : A) (xs ys : List A) → length xs ≡ length ys → ((j : ℕ) → j < length xs → Either R (get_or xs j d) (get_or ys j d)) → Either (LexBefore R) xs ys
lex_total R d [] [] h f = inl refl
lex_total R d [] (y ∷ ys) h f = absurd (omega arith)
lex_total R d (x ∷ xs) [] h f = absurd (omega arith)
lex_total {A} R d (x ∷ xs) (y ∷ ys) h f =
    ⊎_elim
    (λ e. ⊎_elim
    (λ es. inl (ap (λ (z : A). z ∷ xs) e ∙ ap (λ (zs : List A). y ∷ zs) es))
    (λ b. ⊎_elim (λ l. inr (inl (inr (e, l)))) (λ l. inr (inr (inr (sym e, l)))) b)
    (lex_total R d xs ys (omega arith) (λ j l. f (suc j) (omega arith))))
    (λ b. ⊎_elim (λ l. inr (inl (inl l))) (λ l. inr (inr (inl l))) b)
    (f 0 (omega arith))

-- tuple symbols
pub symbol_irrefl : (f : TupleSymbol) → LexBefore ColumnBefore f f → ⊥
symbol_irrefl f h = before_irrefl (entry f []) (inr (refl, inl h))

pub symbol_trans : (f g h : TupleSymbol) → LexBefore ColumnBefore f g → LexBefore ColumnBefore g h → LexBefore ColumnBefore f h
symbol_trans f g h a b =
    ⊎_elim (λ l. absurd (omega arith)) (λ d. ⊎_elim (λ l. l) (λ e. absurd e.1) d.1)
    (before_trans (entry f []) (entry g []) (entry h []) (inr (refl, inl a)) (inr (refl, inl b)))

column_total : (x y : Option ℕ) → Either ColumnBefore x y
column_total None None = inl refl
column_total None (Some h) = inr (inl tt)
column_total (Some g) None = inr (inr tt)
column_total (Some g) (Some h) = ⊎_elim (λ l. inr (inl l)) (λ l. ⊎_elim (λ m. inr (inr m)) (λ m. let e : g ≡ h = omega arith in inl (ap (λ k. Some k) e)) (cases_lt h g)) (cases_lt g h)

pub symbol_total : (f g : TupleSymbol) → length f ≡ length g → Either (LexBefore ColumnBefore) f g
symbol_total f g h = lex_total ColumnBefore None f g h (λ j l. column_total (get_or f j None) (get_or g j None))

-- entries within a stage
pub stage_irrefl : (a : Entry) → StageBefore a a → ⊥
stage_irrefl a h = before_irrefl a (inr (refl, h))

pub stage_trans : (a b c : Entry) → StageBefore a b → StageBefore b c → StageBefore a c
stage_trans a b c h k =
    ⊎_elim
    (λ l. ⊎_elim (λ m. inl (symbol_trans a.symbol b.symbol c.symbol l m)) (λ e. inl (subst (λ (f : TupleSymbol). LexBefore ColumnBefore a.symbol f) e.0 l)) k)
    (λ d. ⊎_elim (λ m. inl (subst (λ (f : TupleSymbol). LexBefore ColumnBefore f c.symbol) (sym d.0) m)) (λ e. inr (d.0 ∙ e.0, lex_trans_at ◌<◌ 0 a.kids b.kids c.kids (λ j l y z p q. omega arith) d.1 e.1)) k)
    h
