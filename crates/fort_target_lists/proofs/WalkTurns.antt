-- A walk over a tuple symbol's entries, child state by child state: the first state, the next one, and behind the last.
use Rattle.std.proofs.Common.{◌≡◌, ℕ, zero, suc, ◌+◌, ◌-◌, ◌<◌, ◌≤◌, max, List, [], ◌∷◌, ◌++◌, length, get_or, Bool, ◌==◌, if◌then◌else◌, ap, sym, ◌∙◌, arith, subst, ⊎_elim, eq-eqb, append_assoc}
use Rattle.std.proofs.lemmas.Bool.{cases_lt}
use Rattle.std.proofs.lemmas.List.{append-nil}
use Rattle.fort_theory.specs.Signatures.{Signature}
use Rattle.fort_tables.specs.Tuples.{TupleSymbol, kid_presence}
use Rattle.fort_tables.specs.Entries.{Entry, stage}
use Rattle.fort_tables.proofs.EqualTests.{test_from_apart}
use Rattle.fort_tables.specs.Laid.{joined_below, entries_from}
use Rattle.fort_target_lists.specs.Chains.{IsFirstFrom}
use Rattle.fort_target_lists.specs.Walks.{entries_of, HasPassed, Stop, IsStopOf, HasPassedTo, HasPassedBehind}
use Rattle.fort_target_lists.specs.declared.walk.LayingWalk.{LayingWalk}
use Rattle.fort_target_lists.proofs.ListingLaws.{joined_over, block_not, block_there}

-- the entries over one more child state
abbrev pub behind : Signature → List ℕ → TupleSymbol → List ℕ → ℕ → ℕ → ℕ → List Entry
behind sig ps f ks j n k = if get_or ps k 0 == kid_presence sig f j then entries_from sig ps f (ks ++ k ∷ []) (suc j) n else []

-- those over the states below q
abbrev pub passed_below : Stop → TupleSymbol → ℕ → ℕ → ℕ → List Entry
passed_below p f j n q = p.passed ++ joined_below q (behind p.table.signature p.table.presences f p.kids j n)

-- the states below q have had their turn
pub record IsTurn (p : Stop) (walk : LayingWalk) (f : TupleSymbol) (j n q : ℕ) (cursors laid : List ℕ) : Type 0 where
  pub passed : HasPassed p.table walk.lays p.begins (passed_below p f j n q) cursors laid
  pub high : q ≤ length p.table.presences
  pub has : q < length p.table.presences → get_or p.table.presences q 0 ≡ kid_presence p.table.signature f j

-- states of other presences have no entries
skipped : (p : Stop) (f : TupleSymbol) (j n m q : ℕ) → m ≤ q → ((k : ℕ) → m ≤ k → k < q → get_or p.table.presences k 0 ≡ kid_presence p.table.signature f j → ⊥)
    → passed_below p f j n m ≡ passed_below p f j n q
skipped p f j n m q le none =
    let t = p.table in
    let g = behind t.signature t.presences f p.kids j n in
    let d : m + (q - m) ≡ q = omega (arith, le) in
    let over = joined_over g m (q - m) (λ k a b. block_not (get_or t.presences k 0 == kid_presence t.signature f j) (entries_from t.signature t.presences f (p.kids ++ k ∷ []) (suc j) n)
    (test_from_apart (get_or t.presences k 0) (kid_presence t.signature f j) (none k a (omega (arith, b, d))))) in
    ap (λ es. p.passed ++ es) (sym over ∙ ap (λ z. joined_below z g) d)

-- up to the first state
pub below_first : (p : Stop) (f : TupleSymbol) (j n w q : ℕ) → w ≡ kid_presence p.table.signature f j → IsFirstFrom p.table.presences 0 w q → p.passed ≡ passed_below p f j n q
below_first p f j n w q e first = sym (append-nil p.passed) ∙ skipped p f j n 0 q (omega arith) (λ k a b s. first.none k a b (s ∙ sym e))

pub turn_first : (p : Stop) (walk : LayingWalk) (f : TupleSymbol) (j n w q : ℕ) (cursors laid : List ℕ) → w ≡ kid_presence p.table.signature f j → IsFirstFrom p.table.presences 0 w q
    → HasPassedTo p walk.lays cursors laid → IsTurn p walk f j n q cursors laid
turn_first p walk f j n w q cursors laid e first h = record {
  passed = subst (λ es. HasPassed p.table walk.lays p.begins es cursors laid) (below_first p f j n w q e first) h;
  high = first.high;
  has = λ l. first.has l ∙ e;
}

-- up to the next one
pub below_next : (p : Stop) (f : TupleSymbol) (j n q next : ℕ) → q < length p.table.presences → get_or p.table.presences q 0 ≡ kid_presence p.table.signature f j
    → IsFirstFrom p.table.presences (suc q) (get_or p.table.presences q 0) next
    → passed_below p f j n q ++ entries_from p.table.signature p.table.presences f (p.kids ++ q ∷ []) (j + 1) n ≡ passed_below p f j n next
below_next p f j n q next l has first =
    let t = p.table in
    let g = behind t.signature t.presences f p.kids j n in
    let own = entries_from t.signature t.presences f (p.kids ++ q ∷ []) (suc j) n in
    let s : j + 1 ≡ suc j = omega arith in
    let here : own ≡ g q = sym (block_there (get_or t.presences q 0 == kid_presence t.signature f j) own (eq-eqb (get_or t.presences q 0) (kid_presence t.signature f j) has)) in
    let all : passed_below p f j n q ++ own ≡ passed_below p f j n (suc q) = append_assoc p.passed (joined_below q g) own ∙ ap (λ es. p.passed ++ (joined_below q g ++ es)) here in
    ap (λ (m : ℕ). passed_below p f j n q ++ entries_from t.signature t.presences f (p.kids ++ q ∷ []) m n) s
    ∙ (all ∙ skipped p f j n (suc q) next first.low (λ k a b s. first.none k a b (s ∙ sym has)))

pub turn_next : (p : Stop) (walk : LayingWalk) (f : TupleSymbol) (j n q next : ℕ) (cursors laid more_cursors more : List ℕ) → q < length p.table.presences → IsTurn p walk f j n q cursors laid
    → IsFirstFrom p.table.presences (suc q) (get_or p.table.presences q 0) next
    → HasPassed p.table walk.lays p.begins (passed_below p f j n q ++ entries_from p.table.signature p.table.presences f (p.kids ++ q ∷ []) (j + 1) n) more_cursors more
    → IsTurn p walk f j n next more_cursors more
turn_next p walk f j n q next cursors laid more_cursors more l v first k = record {
  passed = subst (λ es. HasPassed p.table walk.lays p.begins es more_cursors more) (below_next p f j n q next l (v.has l) first) k;
  high = first.high;
  has = λ o. first.has o ∙ v.has l;
}

-- the entries over one more child, list by list
entries_turn : (sig : Signature) (ps : List ℕ) (f : TupleSymbol) (ks : List ℕ) (j rest : ℕ) → 0 < rest → entries_from sig ps f ks j rest ≡ joined_below (length ps) (behind sig ps f ks j (rest - 1))
entries_turn sig ps f ks j zero l = absurd (omega arith)
entries_turn sig ps f ks j (suc n) l = let e : n ≡ suc n - 1 = omega arith in ap (λ m. joined_below (length ps) (behind sig ps f ks j m)) e

pub below_last : (p : Stop) (f : TupleSymbol) (j rest q : ℕ) → 0 < rest → length p.table.presences ≤ q → q ≤ length p.table.presences
    → passed_below p f j (rest - 1) q ≡ p.passed ++ entries_from p.table.signature p.table.presences f p.kids j rest
below_last p f j rest q some l high =
    let t = p.table in
    let e : q ≡ length t.presences = omega (arith, high) in
    ap (passed_below p f j (rest - 1)) e ∙ ap (λ es. p.passed ++ es) (sym (entries_turn t.signature t.presences f p.kids j rest some))

pub turn_last : (p : Stop) (walk : LayingWalk) (f : TupleSymbol) (j rest q : ℕ) (cursors laid : List ℕ) → 0 < rest → length p.table.presences ≤ q → IsTurn p walk f j (rest - 1) q cursors laid
    → HasPassedBehind p walk.lays f j rest cursors laid
turn_last p walk f j rest q cursors laid some l v = subst (λ es. HasPassed p.table walk.lays p.begins es cursors laid) (below_last p f j rest q some l v.high) v.passed

-- one list among several
joined_split : {A : Type 0} (n : ℕ) (g : ℕ → List A) (q : ℕ) → q < n → (tail : List A) × (joined_below n g ≡ joined_below q g ++ (g q ++ tail))
joined_split zero g q l = absurd (omega arith)
joined_split (suc n) g q l =
    ⊎_elim
    (λ (o : q < n).
    let r = joined_split n g q o in
    (r.0 ++ g n, ap (λ xs. xs ++ g n) r.1 ∙ (append_assoc (joined_below q g) (g q ++ r.0) (g n) ∙ ap (λ xs. joined_below q g ++ xs) (append_assoc (g q) r.0 (g n)))))
    (λ (o : n ≤ q).
    let e : n ≡ q = omega arith in
    ([], ap (λ k. joined_below k g ++ g k) e ∙ ap (λ xs. joined_below q g ++ xs) (sym (append-nil (g q)))))
    (cases_lt q n)

stage_more : (ks : List ℕ) (k : ℕ) → stage (ks ++ k ∷ []) ≡ max (stage ks) (suc k)
stage_more [] k = omega arith
stage_more (x ∷ ks) k = omega (arith, stage_more ks k)

-- the stop at which one more child has state q
abbrev pub next_stop : Stop → TupleSymbol → ℕ → ℕ → ℕ → List Entry → Stop
next_stop p f j n q tail = record {
  table = p.table;
  begins = p.begins;
  passed = passed_below p f j n q;
  kids = p.kids ++ q ∷ [];
  left = tail ++ p.left;
}

pub stop_at : (p : Stop) (walk : LayingWalk) (f : TupleSymbol) (latest j rest q next : ℕ) → 0 < rest → next ≡ max latest (q + 1) → q < length p.table.presences
    → IsStopOf p walk f latest j rest → get_or p.table.presences q 0 ≡ kid_presence p.table.signature f j
    → (tail : List Entry) × IsStopOf (next_stop p f j (rest - 1) q tail) walk f next (j + 1) (rest - 1)
stop_at p walk f latest j rest q next some e l h has =
    let t = p.table in
    let n = rest - 1 in
    let g = behind t.signature t.presences f p.kids j n in
    let own = entries_from t.signature t.presences f (p.kids ++ q ∷ []) (suc j) n in
    let there : g q ≡ own = block_there (get_or t.presences q 0 == kid_presence t.signature f j) own (eq-eqb (get_or t.presences q 0) (kid_presence t.signature f j) has) in
    let r = joined_split (length t.presences) g q l in
    let split : entries_from t.signature t.presences f p.kids j rest ≡ joined_below q g ++ (own ++ r.0) =
    entries_turn t.signature t.presences f p.kids j rest some ∙ (r.1 ∙ ap (λ es. joined_below q g ++ (es ++ r.0)) there) in
    let whole : entries_of t ≡ passed_below p f j n q ++ (own ++ (r.0 ++ p.left)) =
    h.whole
    ∙ (ap (λ es. p.passed ++ (es ++ p.left)) split
    ∙ (ap (λ es. p.passed ++ es) (append_assoc (joined_below q g) (own ++ r.0) p.left ∙ ap (λ es. joined_below q g ++ es) (append_assoc own r.0 p.left))
    ∙ sym (append_assoc p.passed (joined_below q g) (own ++ (r.0 ++ p.left))))) in
    let at : next ≡ stage (p.kids ++ q ∷ []) = omega (arith, e, stage_more p.kids q, h.stage_is) in
    let s : suc j ≡ j + 1 = omega arith in
    let stop : IsStopOf (next_stop p f j n q r.0) walk f next (suc j) n = record { goes = h.goes; begin = h.begin; symbol = h.symbol; stage_is = at; whole = whole } in
    (r.0, subst (λ (m : ℕ). IsStopOf (next_stop p f j n q r.0) walk f next m n) s stop)

pub stop_next : (p : Stop) (walk : LayingWalk) (f : TupleSymbol) (latest j rest q next : ℕ) (cursors laid : List ℕ) → 0 < rest → next ≡ max latest (q + 1) → q < length p.table.presences
    → IsStopOf p walk f latest j rest → IsTurn p walk f j (rest - 1) q cursors laid
    → (tail : List Entry) × IsStopOf (next_stop p f j (rest - 1) q tail) walk f next (j + 1) (rest - 1)
stop_next p walk f latest j rest q next cursors laid some e l h v = stop_at p walk f latest j rest q next some e l h (v.has l)

-- no other child is left
pub stop_end : (p : Stop) (walk : LayingWalk) (f : TupleSymbol) (latest j n : ℕ) → n ≡ 0 → IsStopOf p walk f latest j n → IsStopOf p walk f latest 0 0
stop_end p walk f latest j n e h =
    let z : IsStopOf p walk f latest j 0 = subst (λ (m : ℕ). IsStopOf p walk f latest j m) e h in
    record { goes = z.goes; begin = z.begin; symbol = z.symbol; stage_is = z.stage_is; whole = z.whole }

pub passed_end : (p : Stop) (lays : Bool) (f : TupleSymbol) (j n : ℕ) (cursors laid : List ℕ) → n ≡ 0 → HasPassedBehind p lays f 0 0 cursors laid → HasPassedBehind p lays f j n cursors laid
passed_end p lays f j n cursors laid e h =
    let t = p.table in
    subst (λ (m : ℕ). HasPassed t lays p.begins (p.passed ++ entries_from t.signature t.presences f p.kids j m) cursors laid) (sym e) h
