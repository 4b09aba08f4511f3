-- Children in the order of tuples, and what is rebuilt from them: with children that aren't after others, the tuple isn't after the other one.
use Rattle.std.proofs.Common.{◌≡◌, ℕ, suc, ◌-◌, ◌<◌, ◌≤◌, ◌⊎◌, max, List, [], ◌∷◌, length, get_or, Option, None, Some, refl, ap, sym, ◌∙◌, arith, subst, inl, inr, ⊎_elim}
use Rattle.std.proofs.lemmas.Bool.{cases_lt}
use Rattle.fort_theory.specs.Trees.{Tree, Trees, Node, Nil, More, heights, tree_count}
use Rattle.fort_theory.specs.Signatures.{Signature}
use Rattle.fort_tables.specs.Tuples.{Tuple, TupleSymbol, root, kid, kids, kid_count, level, tree_at, rebuilt, AreKids}
use Rattle.fort_tables.specs.Entries.{ColumnBefore, LexBefore, Entry, StageBefore, picked}
use Rattle.fort_tables.proofs.TupleLaws.{level_kid, no_kid, root-rebuilt, kids-rebuilt, length-tabulate, get_or-tabulate}
use Rattle.fort_tables.specs.TupleOrder.{TupleBefore, Lower, ByRoot, ByKids, TuplesBefore, Here, Later, NotAfter}
use Rattle.fort_tables.proofs.TupleOrderLaws.{level_not_after}

-- the trees of a node are as high as the highest
heights_within : (ts : Trees) (n : ℕ) → ((j : ℕ) → j < tree_count ts → level (tree_at ts j ∷ []) ≤ n) → heights ts ≤ n
heights_within Nil n h = omega arith
heights_within (More t ts) n h = omega (arith, h 0 (omega arith), heights_within ts n (λ j l. h (suc j) (omega arith)))

level_parts : (x : Option Tree) (t : Tuple) → level (x ∷ t) ≡ max (level (x ∷ [])) (level t)
level_parts None t = omega arith
level_parts (Some x) t = omega arith

level_from_kids : (t : Tuple) (n : ℕ) → ((j : ℕ) → j < kid_count t → level (kid t j) ≤ n) → level t ≤ suc n
level_from_kids [] n h = omega arith
level_from_kids (None ∷ t) n h = level_from_kids t n h
level_from_kids (Some (Node f ts) ∷ t) n h =
    let own = heights_within ts n (λ j l. omega (arith, level_parts (tree_at ts j) (kid t j), h j (omega arith))) in
    let others = level_from_kids t n (λ j l. omega (arith, level_parts (tree_at ts j) (kid t j), h j (omega arith))) in
    omega (arith, own, others)

-- children of what is rebuilt
kid_at : (sig : Signature) (f : TupleSymbol) (us : List Tuple) (j : ℕ) → AreKids sig f us → j < kid_count (rebuilt f us) → kid (rebuilt f us) j ≡ get_or us j []
kid_at sig f us j h l = sym (get_or-tabulate (kid_count (rebuilt f us)) (kid (rebuilt f us)) j [] l) ∙ ap (λ (ts : List Tuple). get_or ts j []) (kids-rebuilt sig f us h)

kid_count_of : (sig : Signature) (f : TupleSymbol) (us : List Tuple) → AreKids sig f us → kid_count (rebuilt f us) ≡ length us
kid_count_of sig f us h = sym (length-tabulate (kid_count (rebuilt f us)) (kid (rebuilt f us))) ∙ ap (λ (ts : List Tuple). length ts) (kids-rebuilt sig f us h)

-- Result: a tuple is at most one level higher than its children
pub level_rebuilt : (sig : Signature) (f : TupleSymbol) (us : List Tuple) (n : ℕ) → AreKids sig f us → ((j : ℕ) → j < length us → level (get_or us j []) ≤ n) → level (rebuilt f us) ≤ suc n
level_rebuilt sig f us n h k = level_from_kids (rebuilt f us) n (λ j l. omega (arith, ap level (kid_at sig f us j h l), k j (omega (arith, kid_count_of sig f us h))))

pub level_of_kid : (sig : Signature) (f : TupleSymbol) (us : List Tuple) (j n : ℕ) → AreKids sig f us → j < length us → level (rebuilt f us) ≤ suc n → level (get_or us j []) ≤ n
level_of_kid sig f us j n h l m = omega (arith, ap level (kid_at sig f us j h (omega (arith, kid_count_of sig f us h))), level_kid (rebuilt f us) j n m)

-- each tuple is the same or before
pub record AreNotAfter (ts us : List Tuple) : Type 0 where
  pub count : length ts ≡ length us
  pub each : (j : ℕ) → j < length us → NotAfter (get_or ts j []) (get_or us j [])

lists_not_after : (ts us : List Tuple) → AreNotAfter ts us → (ts ≡ us) ⊎ TuplesBefore ts us
lists_not_after [] [] h = inl refl
lists_not_after [] (u ∷ us) h = absurd (omega (arith, h.count))
lists_not_after (t ∷ ts) [] h = absurd (omega (arith, h.count))
lists_not_after (t ∷ ts) (u ∷ us) h =
    let rest : AreNotAfter ts us = record { count = omega (arith, h.count); each = λ j l. h.each (suc j) (omega arith) } in
    ⊎_elim
    (λ e. ⊎_elim (λ s. inl (ap (λ (v : Tuple). v ∷ ts) e ∙ ap (λ (vs : List Tuple). u ∷ vs) s)) (λ b. inr (Later e b)) (lists_not_after ts us rest))
    (λ b. inr (Here b))
    (h.each 0 (omega arith))

before_some : (ts us : List Tuple) → TuplesBefore ts us → 0 < length us
before_some ts [] h = elim h [ ]
before_some ts (u ∷ us) h = omega arith

-- Result: with children that are the same or before, so is the tuple
pub replaced : (sig : Signature) (f : TupleSymbol) (ts us : List Tuple) → AreKids sig f ts → AreKids sig f us → AreNotAfter ts us → NotAfter (rebuilt f ts) (rebuilt f us)
replaced sig f ts us h k n =
    let a = rebuilt f ts in
    let b = rebuilt f us in
    ⊎_elim
    (λ e. inl (ap (λ (vs : List Tuple). rebuilt f vs) e))
    (λ l.
    let some = before_some ts us l in
    let high : 0 < level b = ⊎_elim (λ m. m) (λ m. absurd (omega (arith, no_kid b (omega arith), kid_count_of sig f us k))) (cases_lt 0 (level b)) in
    let top : level b ≤ suc (level b - 1) = omega arith in
    let low = level_rebuilt sig f ts (level b - 1) h (λ j m. let i : j < length us = omega (arith, n.count) in
    omega (arith, level_not_after (get_or ts j []) (get_or us j []) (n.each j i), level_of_kid sig f us j (level b - 1) k i top)) in
    ⊎_elim
    (λ m. inr (Lower m))
    (λ m.
    let same : level a ≡ level b = omega arith in
    let roots = root-rebuilt f ts ∙ sym (root-rebuilt f us) in
    let K : List Tuple → Type 0 = λ (vs : List Tuple). TuplesBefore vs (kids b) in
    let L : List Tuple → Type 0 = λ (vs : List Tuple). TuplesBefore ts vs in
    inr (ByKids same roots (subst K (sym (kids-rebuilt sig f ts h)) (subst L (sym (kids-rebuilt sig f us k)) l))))
    (cases_lt (level a) (level b)))
    (lists_not_after ts us n)

-- each comes before all later ones
pub record AreRising (ts : List Tuple) : Type 0 where
  pub rises : (i j : ℕ) → i < j → j < length ts → TupleBefore (get_or ts i []) (get_or ts j [])

-- numbers of tuples that rise are in the order of the tuples
picked_before : (ts : List Tuple) (ks ls : List ℕ) → AreRising ts → ((j : ℕ) → j < length ls → get_or ls j 0 < length ts) → LexBefore ◌<◌ ks ls → TuplesBefore (picked ts ks) (picked ts ls)
picked_before ts [] ls r h l = absurd l
picked_before ts (k ∷ ks) [] r h l = absurd l
picked_before ts (k ∷ ks) (m ∷ ls) r h l =
    ⊎_elim
    (λ b. Here (r.rises k m b (h 0 (omega arith))))
    (λ d. Later (ap (λ i. get_or ts i []) d.0) (picked_before ts ks ls r (λ j b. h (suc j) (omega arith)) d.1))
    l

-- Result: of two entries over numbers of tuples that rise, whose tuples are of one height, the one that comes first in a stage has the tuple that comes first
pub entry_before : (sig : Signature) (ts : List Tuple) (a b : Entry) → AreRising ts → AreKids sig a.symbol (picked ts a.kids) → AreKids sig b.symbol (picked ts b.kids) → ((j : ℕ) → j < length b.kids → get_or b.kids j 0 < length ts) → level (rebuilt a.symbol (picked ts a.kids)) ≡ level (rebuilt b.symbol (picked ts b.kids)) → StageBefore a b → TupleBefore (rebuilt a.symbol (picked ts a.kids)) (rebuilt b.symbol (picked ts b.kids))
entry_before sig ts a b r h k w e s =
    let x = rebuilt a.symbol (picked ts a.kids) in
    let y = rebuilt b.symbol (picked ts b.kids) in
    let p = root-rebuilt a.symbol (picked ts a.kids) in
    let q = root-rebuilt b.symbol (picked ts b.kids) in
    ⊎_elim
    (λ l. ByRoot e (subst (λ (f : TupleSymbol). LexBefore ColumnBefore f (root y)) (sym p) (subst (λ (f : TupleSymbol). LexBefore ColumnBefore a.symbol f) (sym q) l)))
    (λ d.
    let K : List Tuple → Type 0 = λ (vs : List Tuple). TuplesBefore vs (kids y) in
    let L : List Tuple → Type 0 = λ (vs : List Tuple). TuplesBefore (picked ts a.kids) vs in
    ByKids e (p ∙ (d.0 ∙ sym q)) (subst K (sym (kids-rebuilt sig a.symbol (picked ts a.kids) h)) (subst L (sym (kids-rebuilt sig b.symbol (picked ts b.kids) k)) (picked_before ts a.kids b.kids r w d.1))))
    s
