-- The order of entries is strict.
use Rattle.std.proofs.Common.{◌≡◌, ℕ, zero, suc, ◌<◌, ◌≤◌, ◌⊎◌, List, [], ◌∷◌, ◌++◌, length, replicate, get_or, Option, None, Some, refl, sym, ◌∙◌, arith, subst, inl, inr, ⊎_elim}
use Rattle.std.specs.Prelude.{Contains}
use Rattle.std.proofs.lemmas.Bool.{cases_lt}
use Rattle.std.proofs.lemmas.List.{length_push, get_or_push, get_or_append_left}
use Rattle.fort_theory.specs.Signatures.{Signature}
use Rattle.fort_tables.specs.Tuples.{IsPresent}
use Rattle.fort_tables.specs.Entries.{Entry, entry, no_entry, IsEntry, stage, ColumnBefore, LexBefore, StageBefore, ComesBefore, IsNextEntry, IsDue, AreInOrder}

lex_irrefl : {A : Type 0} (R : A → A → Type 0) → ((x : A) → R x x → ⊥) → (xs : List A) → LexBefore R xs xs → ⊥
lex_irrefl R i [] h = h
lex_irrefl R i (x ∷ xs) h = ⊎_elim (λ l. i x l) (λ e. lex_irrefl R i xs e.1) h

lex_trans : {A : Type 0} (R : A → A → Type 0) → ((x y z : A) → R x y → R y z → R x z) → (xs ys zs : List A) → LexBefore R xs ys → LexBefore R ys zs → LexBefore R xs zs
lex_trans R t [] ys zs h k = absurd h
lex_trans R t (x ∷ xs) [] zs h k = absurd h
lex_trans R t (x ∷ xs) (y ∷ ys) [] h k = absurd k
lex_trans {A} R t (x ∷ xs) (y ∷ ys) (z ∷ zs) h k =
    ⊎_elim
    (λ l. ⊎_elim (λ m. inl (t x y z l m)) (λ e. inl (subst (λ (w : A). R x w) e.0 l)) k)
    (λ d. ⊎_elim (λ m. inl (subst (λ (w : A). R w z) (sym d.0) m)) (λ e. inr (d.0 ∙ e.0, lex_trans R t xs ys zs d.1 e.1)) k)
    h

column_irrefl : (x : Option ℕ) → ColumnBefore x x → ⊥
column_irrefl None h = h
column_irrefl (Some g) h = omega arith

column_trans : (x y z : Option ℕ) → ColumnBefore x y → ColumnBefore y z → ColumnBefore x z
column_trans x y None h k = absent_last y k
  where
    absent_last : (y : Option ℕ) → ColumnBefore y None → ⊥
    absent_last None k = k
    absent_last (Some b) k = k
column_trans None y (Some c) h k = tt
column_trans (Some a) None (Some c) h k = absurd h
column_trans (Some a) (Some b) (Some c) h k = omega arith

number_irrefl : (x : ℕ) → x < x → ⊥
number_irrefl x h = omega arith

number_trans : (x y z : ℕ) → x < y → y < z → x < z
number_trans x y z h k = omega arith

pub before_irrefl : (a : Entry) → ComesBefore a a → ⊥
before_irrefl a h =
    ⊎_elim (λ l. number_irrefl (stage a.kids) l)
    (λ e. ⊎_elim (λ l. lex_irrefl ColumnBefore column_irrefl a.symbol l) (λ s. lex_irrefl ◌<◌ number_irrefl a.kids s.1) e.1) h

stage_trans : (a b c : Entry) → StageBefore a b → StageBefore b c → StageBefore a c
stage_trans a b c h k =
    ⊎_elim
    (λ l. ⊎_elim (λ m. inl (lex_trans ColumnBefore column_trans a.symbol b.symbol c.symbol l m)) (λ e. inl (subst (λ (f : List (Option ℕ)). LexBefore ColumnBefore a.symbol f) e.0 l)) k)
    (λ d. ⊎_elim (λ m. inl (subst (λ (f : List (Option ℕ)). LexBefore ColumnBefore f c.symbol) (sym d.0) m)) (λ e. inr (d.0 ∙ e.0, lex_trans ◌<◌ number_trans a.kids b.kids c.kids d.1 e.1)) k)
    h

pub before_trans : (a b c : Entry) → ComesBefore a b → ComesBefore b c → ComesBefore a c
before_trans a b c h k =
    ⊎_elim
    (λ l. ⊎_elim (λ m. inl (omega arith)) (λ e. inl (omega (arith, e.0))) k)
    (λ d. ⊎_elim (λ m. inl (omega (arith, d.0))) (λ e. inr (d.0 ∙ e.0, stage_trans a b c d.1 e.1)) k)
    h

-- an entry that comes before another differs from it
pub before_apart : (a b : Entry) → ComesBefore a b → a ≡ b → ⊥
before_apart a b h e = before_irrefl b (subst (λ (x : Entry). ComesBefore x b) e h)

-- no entry is before the first
absent_first : (n : ℕ) (f : List (Option ℕ)) → length f ≡ n → IsPresent f → LexBefore ColumnBefore (replicate n None) f
absent_first zero [] w h = absurd h
absent_first zero (x ∷ f) w h = absurd (omega arith)
absent_first (suc n) [] w h = absurd h
absent_first (suc n) (None ∷ f) w h = inr (refl, absent_first n f (omega arith) h)
absent_first (suc n) (Some g ∷ f) w h = inl tt

pub none_before : (sig : Signature) (n : ℕ) (ps : List ℕ) (x : Entry) → IsEntry sig n ps x → ComesBefore (no_entry n) x
none_before sig n ps x h = by_kids x.kids refl
  where
    by_kids : (ks : List ℕ) → x.kids ≡ ks → ComesBefore (no_entry n) x
    by_kids [] e = subst (λ (ks : List ℕ). ComesBefore (no_entry n) (entry x.symbol ks)) (sym e) (inr (refl, inl (absent_first n x.symbol h.symbol.width h.symbol.present)))
    by_kids (k ∷ ks) e = subst (λ (ks : List ℕ). ComesBefore (no_entry n) (entry x.symbol ks)) (sym e) (inl (omega arith))

-- one entry at most is due
pub due_one : (sig : Signature) (n : ℕ) (ps : List ℕ) (entries : List Entry) (a b : Entry) → IsDue sig n ps entries a → IsDue sig n ps entries b → a ≡ b
due_one sig n ps entries a b h k =
    ⊎_elim (λ e. e) (λ l. ⊎_elim (λ e. sym e) (λ m. absurd (before_irrefl a (before_trans a b a l m))) (k.first a h.is_entry h.missing)) (h.first b k.is_entry k.missing)

-- in a list in order, an entry stands at one place
pub order_one : (sig : Signature) (n : ℕ) (ps : List ℕ) (entries : List Entry) (i j : ℕ) (d : Entry) → AreInOrder sig n ps entries → i < length entries → j < length entries → get_or entries i d ≡ get_or entries j d → i ≡ j
order_one sig n ps entries i j d o l m e =
    ⊎_elim
    (λ b. absurd (before_apart (get_or entries i d) (get_or entries j d) (o.order i j d b m) e))
    (λ b. ⊎_elim (λ c. absurd (before_apart (get_or entries j d) (get_or entries i d) (o.order j i d c l) (sym e))) (λ c. omega arith) (cases_lt j i))
    (cases_lt i j)

-- an entry stays one where states are added
pub entry_grows : (sig : Signature) (n : ℕ) (ps : List ℕ) (p : ℕ) (e : Entry) → IsEntry sig n ps e → IsEntry sig n (ps ++ p ∷ []) e
entry_grows sig n ps p e h = record {
  symbol = h.symbol;
  count = h.count;
  within = λ j l. omega (arith, h.within j l, length_push ps p);
  presence = λ j l. get_or_append_left ps (p ∷ []) 0 (get_or e.kids j 0) (h.within j l) ∙ h.presence j l;
}

pub stage_within : (n : ℕ) (ks : List ℕ) → ((i : ℕ) → i < length ks → get_or ks i 0 < n) → stage ks ≤ n
stage_within n [] h = omega arith
stage_within n (k ∷ ks) h = omega (arith, h 0 (omega arith), stage_within n ks (λ i l. h (suc i) (omega arith)))

pub kid_below : (ks : List ℕ) (i : ℕ) → i < length ks → get_or ks i 0 < stage ks
kid_below [] i l = absurd (omega arith)
kid_below (k ∷ ks) zero l = omega arith
kid_below (k ∷ ks) (suc i) l = omega (arith, kid_below ks i (omega arith))

-- an entry over more states is one over the first of them, or comes after each of those
pub entry_shrinks : (sig : Signature) (n : ℕ) (ps qs : List ℕ) (e x : Entry) → IsEntry sig n ps e → IsEntry sig n (ps ++ qs) x → IsEntry sig n ps x ⊎ ComesBefore e x
entry_shrinks sig n ps qs e x h k =
    ⊎_elim
    (λ l. inr (inl (omega (arith, stage_within (length ps) e.kids h.within))))
    (λ l.
    let within : (j : ℕ) → j < length x.kids → get_or x.kids j 0 < length ps = λ j m. omega (arith, kid_below x.kids j m) in
    inl (record {
      symbol = k.symbol;
      count = k.count;
      within = within;
      presence = λ j m. sym (get_or_append_left ps qs 0 (get_or x.kids j 0) (within j m)) ∙ k.presence j m;
    }))
    (cases_lt (length ps) (stage x.kids))

-- Result: the next entry stays the first one after the last where states are added
pub next_grows : (sig : Signature) (n : ℕ) (ps qs : List ℕ) (last e x : Entry) → IsNextEntry sig n ps last e → IsEntry sig n (ps ++ qs) x → ComesBefore last x → (e ≡ x) ⊎ ComesBefore e x
next_grows sig n ps qs last e x h k b = ⊎_elim (λ m. h.first x m b) (λ c. inr c) (entry_shrinks sig n ps qs e x h.is_entry k)

-- one more entry that comes after all
pub order_push : (sig : Signature) (n : ℕ) (ps : List ℕ) (entries : List Entry) (e : Entry) → AreInOrder sig n ps entries → IsEntry sig n ps e → ((k : ℕ) (d : Entry) → k < length entries → ComesBefore (get_or entries k d) e) → AreInOrder sig n ps (entries ++ e ∷ [])
order_push sig n ps entries e o h b =
    let len = length_push entries e in
    let left : (k : ℕ) (d : Entry) → k < length entries → get_or (entries ++ e ∷ []) k d ≡ get_or entries k d = λ k d l. get_or_append_left entries (e ∷ []) d k l in
    let last : (k : ℕ) (d : Entry) → length entries ≡ k → get_or (entries ++ e ∷ []) k d ≡ e = λ k d l. get_or_push entries e d k l in
    record {
      are = λ k d l. ⊎_elim
          (λ m. subst (IsEntry sig n ps) (sym (left k d m)) (o.are k d m))
          (λ m. subst (IsEntry sig n ps) (sym (last k d (omega arith))) h)
          (cases_lt k (length entries));
      order = λ i j d l m.
          let a = left i d (omega arith) in
          ⊎_elim
          (λ c. subst (λ (y : Entry). ComesBefore y (get_or (entries ++ e ∷ []) j d)) (sym a) (subst (λ (y : Entry). ComesBefore (get_or entries i d) y) (sym (left j d c)) (o.order i j d l c)))
          (λ c. subst (λ (y : Entry). ComesBefore y (get_or (entries ++ e ∷ []) j d)) (sym a) (subst (λ (y : Entry). ComesBefore (get_or entries i d) y) (sym (last j d (omega arith))) (b i d (omega arith))))
          (cases_lt j (length entries));
    }

pub order_grows : (sig : Signature) (n : ℕ) (ps : List ℕ) (p : ℕ) (entries : List Entry) → AreInOrder sig n ps entries → AreInOrder sig n (ps ++ p ∷ []) entries
order_grows sig n ps p entries o = record { are = λ k d l. entry_grows sig n ps p (get_or entries k d) (o.are k d l); order = o.order }

pub order_none : (sig : Signature) (n : ℕ) (ps : List ℕ) → AreInOrder sig n ps []
order_none sig n ps = record { are = λ k d l. absurd (omega arith); order = λ i j d l m. absurd (omega arith) }

-- what is in a list, and one more
pub contains_left : (entries : List Entry) (e x : Entry) → Contains entries x → Contains (entries ++ e ∷ []) x
contains_left entries e x (k, l, h) = (k, omega (arith, length_push entries e), get_or_append_left entries (e ∷ []) x k l ∙ h)

pub contains_last : (entries : List Entry) (e : Entry) → Contains (entries ++ e ∷ []) e
contains_last entries e = (length entries, omega (arith, length_push entries e), get_or_push entries e e (length entries) refl)

-- Result: where each entry is in the list or comes after the last one, so it is with the next one, and states added
pub up_to_next : (sig : Signature) (n : ℕ) (ps qs : List ℕ) (entries : List Entry) (last e : Entry) → ((x : Entry) → IsEntry sig n ps x → Contains entries x ⊎ ComesBefore last x) → IsNextEntry sig n ps last e → (x : Entry) → IsEntry sig n (ps ++ qs) x → Contains (entries ++ e ∷ []) x ⊎ ComesBefore e x
up_to_next sig n ps qs entries last e up h x k =
    let one : (e ≡ x) ⊎ ComesBefore e x → Contains (entries ++ e ∷ []) x ⊎ ComesBefore e x =
    λ s. ⊎_elim (λ i. inl (subst (λ (y : Entry). Contains (entries ++ e ∷ []) y) i (contains_last entries e))) (λ b. inr b) s in
    ⊎_elim
    (λ m. ⊎_elim (λ c. inl (contains_left entries e x c)) (λ b. one (h.first x m b)) (up x m))
    (λ b. inr b)
    (entry_shrinks sig n ps qs e x h.is_entry k)

-- nothing comes before itself: an entry after all of a list isn't in it
pub after_all_missing : (entries : List Entry) (e : Entry) → ((k : ℕ) (d : Entry) → k < length entries → ComesBefore (get_or entries k d) e) → Contains entries e → ⊥
after_all_missing entries e b (k, l, h) = before_apart (get_or entries k e) e (b k e l) h
