-- Rows that get the bits of other rows: the words of one row, one row of many, one pass, and what the last one leaves.
use Rattle.std.specs.Prelude.{◌≡◌, ◌≢◌, ◌⊎◌, ℕ, ◌+◌, ◌-◌, ◌^◌, ◌<◌, ◌≤◌, List, [], ◌∷◌, ◌++◌, length, take, set, get_or, Contains, Bool, true, false, Decides, ◌&&◌, ◌||◌, ◌==◌, refl}
use Rattle.std.specs.Int.Bits.{bit_or}
use Rattle.std.proofs.Common.{sym, ap, subst, ◌∙◌, arith, inl, inr, eq-eqb, ⊎_elim}
use Rattle.std.proofs.lemmas.Bool.{cases_eq, true≢false}
use Rattle.std.proofs.lemmas.Bool.Decides.{Decides-eqb}
use Rattle.std.proofs.lemmas.Nat.{le_or_l}
use Rattle.std.proofs.lemmas.List.{get_or-set_same, get_or-set_other, length-set, set-set, set_comm, set-get_or, take_more}
use Rattle.std.proofs.lemmas.List.Sums.{sum_by-set}
use Rattle.std.proofs.lemmas.List.Elements.{Contains-push_cases}
use Rattle.fort_theory.proofs.Members.{Contains-none}
use Rattle.fort_tables.proofs.EqualTests.{test_from_apart}
use Rattle.fort_tree_automata.specs.NtaView.{automaton_of, NamesItsStates}
use Rattle.fort_tree_automata.specs.declared.nta.Nta.{Nta}
use Rattle.fort_reachability.specs.TreeAutomata.{Automaton}
use Rattle.fort_label_bits.specs.RowBits.{bit_of}
use Rattle.fort_label_bits.specs.BitRowLists.{row_in}
use Rattle.fort_label_bits.proofs.BitRowListLaws.{bit_of-added}
use Rattle.fort_alike.specs.AutomatonMoves.{LeadsTo, NoMoves, MoreMoves}
use Rattle.fort_relation_exprs.specs.LeadRows.{off_row, off_rows, NameRows, AreOwn, JoinsRow, HasGathered, AreClosed, HasPassed, AreLeads}

-- tests joined

or-false : (a b : Bool) → (a || b) ≡ false → (a ≡ false) × (b ≡ false)
or-false true b e = absurd (true≢false e)
or-false false b e = (refl, e)

or-true : (a b : Bool) → (a || b) ≡ true → (a ≡ true) ⊎ ((a ≡ false) × (b ≡ true))
or-true true b e = inl refl
or-true false b e = inr (refl, e)

or-nothing : (b : Bool) → (b || false) ≡ b
or-nothing true = refl
or-nothing false = refl

and-first : (a b : Bool) → (a && b) ≡ true → a ≡ true
and-first true b h = refl
and-first false b h = h

and-second : (a b : Bool) → (a && b) ≡ true → b ≡ true
and-second true b h = h
and-second false b h = absurd (true≢false (sym h))

-- the words of one row

pub record HasAdded (start row : List ℕ) (k : ℕ) (more : Bool) (out : List ℕ) : Type 0 where
  pub before : (i : ℕ) → i < k → get_or out i 0 ≡ bit_or (get_or start i 0) (get_or row i 0)
  pub after : (i : ℕ) → k ≤ i → get_or out i 0 ≡ get_or start i 0
  pub less : more ≡ true → off_row out < off_row start
  pub still : more ≡ false → out ≡ start

off_row-set : (w : List ℕ) (k x : ℕ) → k < length w → get_or w k 0 ≤ x → x < 2 ^ 64 → get_or w k 0 ≢ x → off_row (set w k x) < off_row w
off_row-set w k x l m small apart = omega (arith, sum_by-set (λ y. 2 ^ 64 - y) w k x 0 l)

pub HasAdded-more : (start row out : List ℕ) (k : ℕ) (a b : Bool) (x : ℕ) → k < length out → x ≡ bit_or (get_or out k 0) (get_or row k 0) → x < 2 ^ 64
    → Decides b (x ≢ get_or out k 0) → HasAdded start row k a out → HasAdded start row (k + 1) (a || b) (set out k x)
HasAdded-more start row out k a b x l is small decides h = record {
  before = λ i m.
      ⊎_elim
      (λ (e : k ≡ i). subst (λ j. get_or (set out k x) j 0 ≡ bit_or (get_or start j 0) (get_or row j 0)) e
      (get_or-set_same out k x 0 l ∙ (is ∙ ap (λ y. bit_or y (get_or row k 0)) (h.after k (omega arith)))))
      (λ (n : k ≡ i → ⊥). let apart : k ≢ i = n in get_or-set_other out k i x 0 (λ e. n (sym e)) ∙ h.before i (omega (arith, m, apart)))
      (cases_eq k i);
  after = λ i m. get_or-set_other out k i x 0 (λ e. omega (arith, e, m)) ∙ h.after i (omega (arith, m));
  less = λ e. elim (or-true a b e) [
    | inl on ↦ let f = h.less on in less-or-same b f decides.0 (λ off. decides-off b decides off)
    | inr w ↦ let f = lower (decides.0 w.1) in let m : off_row out ≡ off_row start = ap off_row (h.still w.0) in omega (arith, f, m)
  ];
  still = λ e. let off = or-false a b e in same (decides-off b decides off.1) ∙ h.still off.0;
}
  where
    lower : x ≢ get_or out k 0 → off_row (set out k x) < off_row out
    lower apart = off_row-set out k x l (subst (λ y. get_or out k 0 ≤ y) (sym is) (le_or_l (get_or out k 0) (get_or row k 0))) small (λ e. apart (sym e))

    same : x ≡ get_or out k 0 → set out k x ≡ out
    same e = ap (set out k) e ∙ set-get_or out k 0

    decides-off : (c : Bool) → Decides c (x ≢ get_or out k 0) → c ≡ false → x ≡ get_or out k 0
    decides-off c d off =
        ⊎_elim (λ (e : x ≡ get_or out k 0). e) (λ (n : x ≡ get_or out k 0 → ⊥). absurd (true≢false (sym (d.1 n) ∙ off))) (cases_eq x (get_or out k 0))

    less-or-same : (c : Bool) → off_row out < off_row start → (c ≡ true → x ≢ get_or out k 0) → (c ≡ false → x ≡ get_or out k 0) → off_row (set out k x) < off_row start
    less-or-same true f up down = let m = lower (up refl) in omega (arith, f, m)
    less-or-same false f up down = let m : off_row (set out k x) ≡ off_row out = ap off_row (same (down refl)) in omega (arith, f, m)

pub bits-added : (start row out : List ℕ) (k : ℕ) (more : Bool) → length row ≤ k → k ≤ length row → HasAdded start row k more out → (q : ℕ)
    → bit_of q out ≡ (bit_of q start || bit_of q row)
bits-added start row out k more l m h = bit_of-added start row out (λ i n. h.before i (omega (arith, n, l))) (λ i n. h.after i (omega (arith, n, m)))

-- one row of many

pub leads_onward : (automaton : Automaton ℕ) {p o q : ℕ} → LeadsTo automaton p o → LeadsTo automaton o q → LeadsTo automaton p q
leads_onward automaton l NoMoves = l
leads_onward automaton l (MoreMoves m s) = MoreMoves (leads_onward automaton l m) s

JoinsRow-set : (old : List (List ℕ)) (from to : ℕ) (more : Bool) (w : List ℕ) → from < length old → length w ≡ length (row_in old from)
    → ((q : ℕ) → bit_of q w ≡ (bit_of q (row_in old from) || bit_of q (row_in old to)))
    → (more ≡ true → off_row w < off_row (row_in old from)) → (more ≡ false → w ≡ row_in old from) → JoinsRow old from to more (set old from w)
JoinsRow-set old from to more w l size bits less still = record {
  count = length-set old from w;
  widths = λ k.
      ⊎_elim
      (λ (e : from ≡ k). subst (λ j. length (row_in (set old from w) j) ≡ length (row_in old j)) e (ap length (get_or-set_same old from w [] l) ∙ size))
      (λ (n : from ≡ k → ⊥). ap length (get_or-set_other old from k w [] (λ e. n (sym e))))
      (cases_eq from k);
  bits = λ k q.
      ⊎_elim
      (λ (e : from ≡ k).
      subst (λ j. bit_of q (row_in (set old from w) j) ≡ (bit_of q (row_in old j) || ((from == j) && bit_of q (row_in old to)))) e
      (ap (bit_of q) (get_or-set_same old from w [] l)
      ∙ (bits q ∙ ap (λ t. bit_of q (row_in old from) || (t && bit_of q (row_in old to))) (sym (eq-eqb from from refl)))))
      (λ (n : from ≡ k → ⊥).
      ap (bit_of q) (get_or-set_other old from k w [] (λ e. n (sym e)))
      ∙ (sym (or-nothing (bit_of q (row_in old k))) ∙ ap (λ t. bit_of q (row_in old k) || (t && bit_of q (row_in old to))) (sym (test_from_apart from k n))))
      (cases_eq from k);
  less = λ e. let f = less e in omega (arith, f, sum_by-set off_row old from w [] l);
  still = λ e. ap (set old from) (still e) ∙ set-get_or old from [];
}

-- the second row was taken out, and has been put back
pub JoinsRow-swapped : (old : List (List ℕ)) (from to : ℕ) (more : Bool) (w row : List ℕ) → from < length old → from ≢ to → row ≡ row_in old to
    → length w ≡ length (row_in old from) → ((q : ℕ) → bit_of q w ≡ (bit_of q (row_in old from) || bit_of q (row_in old to)))
    → (more ≡ true → off_row w < off_row (row_in old from)) → (more ≡ false → w ≡ row_in old from)
    → JoinsRow old from to more (set (set (set old to []) from w) to row)
JoinsRow-swapped old from to more w row l apart is size bits less still =
    let same : set (set (set old to []) from w) to row ≡ set old from w =
    set_comm (set old to []) from to w row apart
    ∙ ap (λ rows. set rows from w) (set-set old to [] row ∙ (ap (set old to) is ∙ set-get_or old to []))
    in
    subst (JoinsRow old from to more) (sym same) (JoinsRow-set old from to more w l size bits less still)

pub JoinsRow-itself : (rows : List (List ℕ)) (from to : ℕ) → from ≡ to → JoinsRow rows from to false rows
JoinsRow-itself rows from to e = record {
  count = refl;
  widths = λ k. refl;
  bits = λ k q.
      ⊎_elim
      (λ (at : from ≡ k). same (bit_of q (row_in rows k)) (bit_of q (row_in rows to)) (from == k) (ap (λ j. bit_of q (row_in rows j)) (sym at ∙ e)))
      (λ (n : from ≡ k → ⊥). off (bit_of q (row_in rows k)) (bit_of q (row_in rows to)) (from == k) (test_from_apart from k n))
      (cases_eq from k);
  less = λ f. absurd (true≢false (sym f));
  still = λ f. refl;
}
  where
    same : (a b t : Bool) → a ≡ b → a ≡ (a || (t && b))
    same true b t h = refl
    same false b true h = h
    same false b false h = refl

    off : (a b t : Bool) → t ≡ false → a ≡ (a || (t && b))
    off true b t h = refl
    off false b t h = ap (λ s. s && b) (sym h)

-- one pass

pub HasGathered-itself : (nta : Nta) (rows : List (List ℕ)) → HasGathered nta rows rows
HasGathered-itself nta rows = record {
  count = refl;
  widths = λ k. refl;
  kept = λ p q h. h;
  led = λ p q h. (p, NoMoves, h);
}

pub HasGathered-onward : (nta : Nta) (old mid new : List (List ℕ)) → HasGathered nta old mid → HasGathered nta mid new → HasGathered nta old new
HasGathered-onward nta old mid new g h = record {
  count = h.count ∙ g.count;
  widths = λ k. h.widths k ∙ g.widths k;
  kept = λ p q b. h.kept p q (g.kept p q b);
  led = λ p q b.
      let m = h.led p q b in
      let n = g.led m.0 q m.2 in
      (n.0, leads_onward (automaton_of nta) m.1 n.1, n.2);
}

HasGathered-joined : (nta : Nta) (old : List (List ℕ)) (from to : ℕ) (more : Bool) (new : List (List ℕ)) → Contains nta.silent.items (from, to)
    → JoinsRow old from to more new → HasGathered nta old new
HasGathered-joined nta old from to more new step h = record {
  count = h.count;
  widths = h.widths;
  kept = λ p q b. h.bits p q ∙ ap (λ a. a || ((from == p) && bit_of q (row_in old to))) b;
  led = λ p q b.
      elim (or-true (bit_of q (row_in old p)) ((from == p) && bit_of q (row_in old to)) (sym (h.bits p q) ∙ b)) [
        | inl a ↦ (p, NoMoves, a)
        | inr a ↦
            let at : from ≡ p = (Decides-eqb from p).0 (and-first (from == p) (bit_of q (row_in old to)) a.1) in
            (to, subst (λ j. LeadsTo (automaton_of nta) j to) at (MoreMoves NoMoves step), and-second (from == p) (bit_of q (row_in old to)) a.1)
      ];
}

AreClosed-joined : (passed : List (ℕ × ℕ)) (rows : List (List ℕ)) (from to : ℕ) → AreClosed passed rows → JoinsRow rows from to false rows
    → AreClosed (passed ++ (from, to) ∷ []) rows
AreClosed-joined passed rows from to closed h = record {
  each = λ o q b c on.
      elim (Contains-push_cases passed (from, to) (o, q) c) [
        | inl k ↦ closed.each o q b k on
        | inr e ↦
            let first : from ≡ o = ap (λ (m : ℕ × ℕ). m.0) e in
            let second : to ≡ q = ap (λ (m : ℕ × ℕ). m.1) e in
            subst (λ j. bit_of b (row_in rows j) ≡ true) first (got b (subst (λ j. bit_of b (row_in rows j) ≡ true) (sym second) on))
      ];
}
  where
    had : (a t b : Bool) → t ≡ true → b ≡ true → a ≡ (a || (t && b)) → a ≡ true
    had true t b u v e = refl
    had false t b u v e = e ∙ (λ i. u i && v i)

    got : (b : ℕ) → bit_of b (row_in rows to) ≡ true → bit_of b (row_in rows from) ≡ true
    got b on = had (bit_of b (row_in rows from)) (from == from) (bit_of b (row_in rows to)) (eq-eqb from from refl) on (h.bits from b)

pub HasPassed-none : (nta : Nta) (rows : List (List ℕ)) → HasPassed nta rows [] false rows
HasPassed-none nta rows = record {
  gathered = HasGathered-itself nta rows;
  less = λ e. absurd (true≢false (sym e));
  still = λ e. (refl, record { each = λ o q b c on. absurd (Contains-none (o, q) c) });
}

HasPassed-push : (nta : Nta) (start : List (List ℕ)) (passed : List (ℕ × ℕ)) (a b : Bool) (old new : List (List ℕ)) (from to : ℕ) → Contains nta.silent.items (from, to)
    → HasPassed nta start passed a old → JoinsRow old from to b new → HasPassed nta start (passed ++ (from, to) ∷ []) (a || b) new
HasPassed-push nta start passed a b old new from to step h joined = record {
  gathered = HasGathered-onward nta start old new h.gathered (HasGathered-joined nta old from to b new step joined);
  less = λ e. elim (or-true a b e) [
    | inl on ↦ let l = h.less on in less-or-same b l joined.less joined.still
    | inr w ↦ let l = joined.less w.1 in let m : off_rows old ≡ off_rows start = ap off_rows (h.still w.0).0 in omega (arith, l, m)
  ];
  still = λ e.
      let off = or-false a b e in
      let was = h.still off.0 in
      let same = joined.still off.1 in (
        same ∙ was.0,
        subst (AreClosed (passed ++ (from, to) ∷ [])) (sym same)
            (AreClosed-joined passed old from to was.1 (subst (JoinsRow old from to false) same (subst (λ c. JoinsRow old from to c new) off.1 joined))),
      );
}
  where
    less-or-same : (c : Bool) → off_rows old < off_rows start → (c ≡ true → off_rows new < off_rows old) → (c ≡ false → new ≡ old) → off_rows new < off_rows start
    less-or-same true l f g = let m = f refl in omega (arith, l, m)
    less-or-same false l f g = let m : off_rows new ≡ off_rows old = ap off_rows (g refl) in omega (arith, l, m)

pub HasPassed-more : (nta : Nta) (start : List (List ℕ)) (k : ℕ) (a b : Bool) (old new : List (List ℕ)) (from to : ℕ) → k < length nta.silent.items
    → (from, to) ≡ get_or nta.silent.items k (from, to)
    → HasPassed nta start (take k nta.silent.items) a old → JoinsRow old from to b new → HasPassed nta start (take (k + 1) nta.silent.items) (a || b) new
HasPassed-more nta start k a b old new from to l at h joined =
    let next : take (k + 1) nta.silent.items ≡ take k nta.silent.items ++ (from, to) ∷ [] =
    take_more nta.silent.items k (from, to) l ∙ ap (λ (m : ℕ × ℕ). take k nta.silent.items ++ m ∷ []) (sym at)
    in
    subst (λ passed. HasPassed nta start passed (a || b) new) (sym next) (HasPassed-push nta start (take k nta.silent.items) a b old new from to (k, l, sym at) h joined)

-- the moves name rows still

pub NameRows-gathered : (nta : Nta) (silent : List (ℕ × ℕ)) (old new : List (List ℕ)) → NameRows silent old → HasGathered nta old new → NameRows silent new
NameRows-gathered nta silent old new named h o q c = let n = named o q c in (omega (arith, n.0, h.count), omega (arith, n.1, h.count))

-- the rows that are closed have all bits

closed_onward : (nta : Nta) (rows : List (List ℕ)) → AreClosed nta.silent.items rows → {p q : ℕ} → LeadsTo (automaton_of nta) p q → (b : ℕ)
    → bit_of b (row_in rows q) ≡ true → bit_of b (row_in rows p) ≡ true
closed_onward nta rows closed NoMoves b on = on
closed_onward nta rows closed (MoreMoves {o = o} {q = q} l s) b on = closed_onward nta rows closed l b (closed.each o q b s on)

pub AreLeads-gathered : (nta : Nta) (base width : ℕ) (old new : List (List ℕ)) → length old ≡ nta.states → ((p : ℕ) → p < nta.states → length (row_in old p) ≡ width)
    → AreOwn base nta.states old → HasGathered nta old new → AreClosed nta.silent.items new → AreLeads nta base width new
AreLeads-gathered nta base width old new many widths own h closed = record {
  many = h.count ∙ many;
  widths = λ p l. h.widths p ∙ widths p (omega (arith, l, h.count, many));
  inside = λ p q b.
      let m = h.led p q b in
      let o = own.only m.0 q m.2 in
      let l = o.0 in let e = o.1 in
      (omega (arith, e), omega (arith, l, e));
  led = λ p k l m. (
    (λ b.
        let w = h.led p (base + k) b in
        let o = own.only w.0 (base + k) w.2 in
        let e = o.1 in
        let at : w.0 ≡ k = omega (arith, e) in
        subst (LeadsTo (automaton_of nta) p) at w.1),
    (λ leads. closed_onward nta new closed leads (base + k) (h.kept k (base + k) (own.on k m))),
  );
}

pub named_rows : (nta : Nta) (rows : List (List ℕ)) → NamesItsStates nta → length rows ≡ nta.states → NameRows nta.silent.items rows
named_rows nta rows named many o q c = let n = named.silent o q c in (omega (arith, n.0, many), omega (arith, n.1, many))
