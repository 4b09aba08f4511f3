-- The order of tuples is strict, and total on tuples of the same columns.
use Rattle.std.proofs.Common.{◌≡◌, ℕ, suc, ◌<◌, ◌≤◌, ◌⊎◌, List, [], ◌∷◌, length, get_or, refl, ap, sym, ◌∙◌, arith, subst, inl, inr, ⊎_elim}
use Rattle.std.proofs.lemmas.Bool.{cases_lt}
use Rattle.fort_theory.specs.Signatures.{Signature}
use Rattle.fort_tables.specs.Tuples.{Tuple, TupleSymbol, root, kid, kids, kid_count, level, rebuilt, symbol_kids, AreGroundColumns, IsTuple}
use Rattle.fort_tables.specs.Entries.{ColumnBefore, LexBefore}
use Rattle.fort_tables.proofs.InsertLaws.{root_first}
use Rattle.fort_tables.proofs.TupleLaws.{tuple_induction, rebuilt-kids, kid_count_is, length-kid, kid_ground, length-tabulate, get_or-tabulate}
use Rattle.fort_tables.specs.TupleOrder.{TupleBefore, Lower, ByRoot, ByKids, TuplesBefore, Here, Later, NotAfter}
use Rattle.fort_tables.proofs.LexLaws.{lex_trans_at, Either, lex_total, symbol_irrefl, symbol_trans, symbol_total}

-- no tuple comes before itself
mutual
  before_apart : (t u : Tuple) → TupleBefore t u → t ≡ u → ⊥
  before_apart t u (Lower l) e = omega (arith, ap level e)
  before_apart t u (ByRoot p r) e = symbol_irrefl (root u) (subst (λ (f : TupleSymbol). LexBefore ColumnBefore f (root u)) (ap root e) r)
  before_apart t u (ByKids p r k) e = all_apart (kids t) (kids u) k (ap kids e)

  all_apart : (ts us : List Tuple) → TuplesBefore ts us → ts ≡ us → ⊥
  all_apart (t ∷ ts) (u ∷ us) (Here b) e = before_apart t u b (let p : t ≡ u = cc in p)
  all_apart (t ∷ ts) (u ∷ us) (Later s b) e = all_apart ts us b (let p : ts ≡ us = cc in p)

-- Result: irreflexive
pub tuple_irrefl : (t : Tuple) → TupleBefore t t → ⊥
tuple_irrefl t h = before_apart t t h refl

-- a tuple that comes before another is not higher
pub level_before : (t u : Tuple) → TupleBefore t u → level t ≤ level u
level_before t u (Lower l) = omega arith
level_before t u (ByRoot p r) = omega arith
level_before t u (ByKids p r k) = omega arith

pub level_not_after : (t u : Tuple) → NotAfter t u → level t ≤ level u
level_not_after t u h = ⊎_elim (λ e. omega (arith, ap level e)) (λ b. level_before t u b) h

-- lists of tuples, by the order of lists
lex_of : (ts us : List Tuple) → TuplesBefore ts us → LexBefore TupleBefore ts us
lex_of [] us h = elim h [ ]
lex_of (t ∷ ts) [] h = elim h [ ]
lex_of (t ∷ ts) (u ∷ us) (Here b) = inl b
lex_of (t ∷ ts) (u ∷ us) (Later e b) = inr (e, lex_of ts us b)

of_lex : (ts us : List Tuple) → LexBefore TupleBefore ts us → TuplesBefore ts us
of_lex [] us h = absurd h
of_lex (t ∷ ts) [] h = absurd h
of_lex (t ∷ ts) (u ∷ us) h = ⊎_elim (λ b. Here b) (λ e. Later e.0 (of_lex ts us e.1)) h

after_root : (t u v : Tuple) → level t ≡ level u → LexBefore ColumnBefore (root t) (root u) → TupleBefore u v → TupleBefore t v
after_root t u v p r (Lower l) = Lower (omega arith)
after_root t u v p r (ByRoot q s) = ByRoot (p ∙ q) (symbol_trans (root t) (root u) (root v) r s)
after_root t u v p r (ByKids q s k) = ByRoot (p ∙ q) (subst (λ (f : TupleSymbol). LexBefore ColumnBefore (root t) f) s r)

abbrev TransAt : Tuple → Type 0
TransAt t = (u v : Tuple) → TupleBefore t u → TupleBefore u v → TupleBefore t v

after_kids : (t u v : Tuple) → ((j : ℕ) → j < kid_count t → TransAt (kid t j)) → level t ≡ level u → root t ≡ root u → TuplesBefore (kids t) (kids u) → TupleBefore u v → TupleBefore t v
after_kids t u v ih p r k (Lower l) = Lower (omega arith)
after_kids t u v ih p r k (ByRoot q s) = ByRoot (p ∙ q) (subst (λ (f : TupleSymbol). LexBefore ColumnBefore f (root v)) (sym r) s)
after_kids t u v ih p r k (ByKids q s m) =
    let len : length (kids t) ≡ kid_count t = length-tabulate (kid_count t) (kid t) in
    let at : (j : ℕ) → j < length (kids t) → TransAt (get_or (kids t) j []) = λ j l. let n : j < kid_count t = omega arith in subst TransAt (sym (get_or-tabulate (kid_count t) (kid t) j [] n)) (ih j n) in
    ByKids (p ∙ q) (r ∙ s) (of_lex (kids t) (kids v) (lex_trans_at TupleBefore [] (kids t) (kids u) (kids v) at (lex_of (kids t) (kids u) k) (lex_of (kids u) (kids v) m)))

trans_step : (t : Tuple) → ((j : ℕ) → j < kid_count t → TransAt (kid t j)) → (u v : Tuple) → TupleBefore t u → TupleBefore u v → TupleBefore t v
trans_step t ih u v (Lower l) b = Lower (omega (arith, level_before u v b))
trans_step t ih u v (ByRoot p r) b = after_root t u v p r b
trans_step t ih u v (ByKids p r k) b = after_kids t u v ih p r k b

-- Result: transitive
pub tuple_trans : (t u v : Tuple) → TupleBefore t u → TupleBefore u v → TupleBefore t v
tuple_trans t = tuple_induction TransAt trans_step t

pub not_after_trans : (t u v : Tuple) → NotAfter t u → NotAfter u v → NotAfter t v
not_after_trans t u v h k =
    ⊎_elim
    (λ e. subst (λ (w : Tuple). NotAfter w v) (sym e) k)
    (λ b. ⊎_elim (λ e. inr (subst (λ (w : Tuple). TupleBefore t w) e b)) (λ c. inr (tuple_trans t u v b c)) k)
    h

-- what isn't after doesn't let the other come before
pub not_after_none : (t u : Tuple) → NotAfter t u → TupleBefore u t → ⊥
not_after_none t u h b = ⊎_elim (λ e. before_apart u t b (sym e)) (λ c. tuple_irrefl t (tuple_trans t u t c b)) h

length-root : (t : Tuple) → length (root t) ≡ length t
length-root [] = refl
length-root (x ∷ t) = ap (λ (f : TupleSymbol). length f) (root_first x t) ∙ ap suc (length-root t)

abbrev TotalAt : Signature → Tuple → Type 0
TotalAt sig t = AreGroundColumns sig t → (u : Tuple) → AreGroundColumns sig u → length t ≡ length u → Either TupleBefore t u

total_step : (sig : Signature) (t : Tuple) → ((j : ℕ) → j < kid_count t → TotalAt sig (kid t j)) → TotalAt sig t
total_step sig t ih h u k w =
    ⊎_elim (λ l. inr (inl (Lower l)))
    (λ l. ⊎_elim (λ m. inr (inr (Lower m)))
    (λ m.
    let same : level t ≡ level u = omega arith in
    ⊎_elim
    (λ r.
    let n : kid_count t ≡ kid_count u = kid_count_is sig t h ∙ (ap (symbol_kids sig) r ∙ sym (kid_count_is sig u k)) in
    let tlen : length (kids t) ≡ kid_count t = length-tabulate (kid_count t) (kid t) in
    let ulen : length (kids u) ≡ kid_count u = length-tabulate (kid_count u) (kid u) in
    let each : (j : ℕ) → j < length (kids t) → Either TupleBefore (get_or (kids t) j []) (get_or (kids u) j []) = λ j b.
    let a : j < kid_count t = omega arith in
    let c : j < kid_count u = omega arith in
    let p = get_or-tabulate (kid_count t) (kid t) j [] a in
    let q = get_or-tabulate (kid_count u) (kid u) j [] c in
    subst (λ (x : Tuple). Either TupleBefore x (get_or (kids u) j [])) (sym p) (subst (λ (y : Tuple). Either TupleBefore (kid t j) y) (sym q) (ih j a (kid_ground sig t j h) (kid u j) (kid_ground sig u j k) (length-kid t j ∙ (w ∙ sym (length-kid u j))))) in
    ⊎_elim
    (λ e. inl (sym (rebuilt-kids t) ∙ (ap (λ (f : TupleSymbol). rebuilt f (kids t)) r ∙ (ap (λ (ts : List Tuple). rebuilt (root u) ts) e ∙ rebuilt-kids u))))
    (λ b. ⊎_elim (λ c. inr (inl (ByKids same r (of_lex (kids t) (kids u) c)))) (λ c. inr (inr (ByKids (sym same) (sym r) (of_lex (kids u) (kids t) c)))) b)
    (lex_total TupleBefore [] (kids t) (kids u) (omega arith) each))
    (λ b. ⊎_elim (λ c. inr (inl (ByRoot same c))) (λ c. inr (inr (ByRoot (sym same) c))) b)
    (symbol_total (root t) (root u) (length-root t ∙ (w ∙ sym (length-root u)))))
    (cases_lt (level u) (level t)))
    (cases_lt (level t) (level u))

-- Result: total on tuples of the same columns over one signature
pub tuple_total : (sig : Signature) (n : ℕ) (t u : Tuple) → IsTuple sig n t → IsTuple sig n u → (t ≡ u) ⊎ (TupleBefore t u ⊎ TupleBefore u t)
tuple_total sig n t u h k = tuple_induction (TotalAt sig) (total_step sig) t h.grounded u k.grounded (h.width ∙ sym k.width)
