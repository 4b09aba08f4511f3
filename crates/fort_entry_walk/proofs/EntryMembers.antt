-- The entries after a place are those that come after it in the order.
use Rattle.std.proofs.Common.{◌≡◌, ℕ, zero, suc, ◌+◌, ◌-◌, ◌<◌, ◌≤◌, ◌⊎◌, List, [], ◌∷◌, ◌++◌, map, length, replicate, get_or, Bool, true, false, ◌||◌, ◌==◌, None, Some, refl, ap, sym, ◌∙◌, arith, subst, inl, inr, ⊎_elim}
use Rattle.std.proofs.lemmas.Bool.{cases_lt}
use Rattle.std.proofs.lemmas.Bool.Decides.{nat_tests}
use Rattle.std.proofs.lemmas.List.{length-map}
use Rattle.fort_theory.specs.Signatures.{Signature}
use Rattle.fort_tables.specs.Tuples.{TupleSymbol, IsPresent, AreSymbols, symbol_kids, kid_presence}
use Rattle.fort_tables.specs.Entries.{Entry, entry, IsEntry, stage, ColumnBefore, LexBefore, ComesBefore}
use Rattle.fort_tables.proofs.OrderLaws.{stage_within, kid_below}
use Rattle.fort_tables.proofs.EqualTests.{equal_from_test}
use Rattle.fort_tuple_symbols.specs.Columns.{column_of, digit_of, symbol_of}
use Rattle.fort_tuple_symbols.specs.DigitNumbers.{AreUpTo}
use Rattle.fort_entry_walk.specs.Walks.{kid_lists, kids_after, digits_after, stage_kids, stage_kids_after, symbol_entries, stage_entries, stages, entries_after}
use Rattle.fort_entry_walk.specs.WalkPlaces.{wants_from, wants, Place, entry_at, IsPlace}
use Rattle.fort_entry_walk.proofs.InLaws.{In, In-left, In-right, In-either, In-map, from_map, In-flat_map, from_flat_map}
use Rattle.fort_entry_walk.proofs.KidMembers.{KidsFit, sees, In-kid_lists, from_kid_lists, IsSomeDigit, In-digits, from_digits}
use Rattle.fort_entry_walk.proofs.AfterMembers.{In-kids_after, from_kids_after, In-digits_after, from_digits_after}
use Rattle.fort_tuple_symbols.proofs.Bounds.{symbol_again}
use Rattle.fort_entry_walk.proofs.WalkLaws.{length-wants_from}

digits_up_to : (sig : Signature) (f : TupleSymbol) → AreSymbols sig f → AreUpTo (length sig) (map digit_of f)
digits_up_to sig [] h = tt
digits_up_to sig (None ∷ f) h = (omega arith, digits_up_to sig f h)
digits_up_to sig (Some g ∷ f) h = (omega (arith, h.0), digits_up_to sig f h.1)

some_digit : (f : TupleSymbol) → IsPresent f → IsSomeDigit (map digit_of f)
some_digit [] h = h
some_digit (None ∷ f) h = some_digit f h
some_digit (Some g ∷ f) h = tt

symbols_of_digits : (sig : Signature) (ds : List ℕ) → AreUpTo (length sig) ds → AreSymbols sig (symbol_of ds)
symbols_of_digits sig [] h = tt
symbols_of_digits sig (zero ∷ ds) h = symbols_of_digits sig ds h.1
symbols_of_digits sig (suc d ∷ ds) h = (omega (arith, h.0), symbols_of_digits sig ds h.1)

present_of_digits : (ds : List ℕ) → IsSomeDigit ds → IsPresent (symbol_of ds)
present_of_digits [] h = h
present_of_digits (zero ∷ ds) h = present_of_digits ds h
present_of_digits (suc d ∷ ds) h = tt

column_less : (x y : ℕ) → ColumnBefore (column_of x) (column_of y) → x < y
column_less zero zero h = absurd h
column_less zero (suc y) h = omega arith
column_less (suc x) zero h = absurd h
column_less (suc x) (suc y) h = omega arith

less_column : (x y : ℕ) → x < y → ColumnBefore (column_of x) (column_of y)
less_column zero zero h = absurd (omega arith)
less_column zero (suc y) h = tt
less_column (suc x) zero h = absurd (omega arith)
less_column (suc x) (suc y) h = omega arith

column_same : (x y : ℕ) → column_of x ≡ column_of y → x ≡ y
column_same zero zero h = refl
column_same zero (suc y) h = absurd cc
column_same (suc x) zero h = absurd cc
column_same (suc x) (suc y) h = let e : x ≡ y = cc in ap suc e

digits_before : (xs ys : List ℕ) → LexBefore ColumnBefore (symbol_of xs) (symbol_of ys) → LexBefore ◌<◌ xs ys
digits_before [] ys h = absurd h
digits_before (x ∷ xs) [] h = absurd h
digits_before (x ∷ xs) (y ∷ ys) h = ⊎_elim (λ l. inl (column_less x y l)) (λ e. inr (column_same x y e.0, digits_before xs ys e.1)) h

symbols_before : (xs ys : List ℕ) → LexBefore ◌<◌ xs ys → LexBefore ColumnBefore (symbol_of xs) (symbol_of ys)
symbols_before [] ys h = absurd h
symbols_before (x ∷ xs) [] h = absurd h
symbols_before (x ∷ xs) (y ∷ ys) h = ⊎_elim (λ l. inl (less_column x y l)) (λ e. inr (ap column_of e.0, symbols_before xs ys e.1)) h

above_some : (x d : ℕ) (ds : List ℕ) → x < d → IsSomeDigit (d ∷ ds)
above_some x zero ds h = absurd (omega arith)
above_some x (suc d) ds h = tt

later_some : (d : ℕ) (ds : List ℕ) → IsSomeDigit ds → IsSomeDigit (d ∷ ds)
later_some zero ds h = h
later_some (suc d) ds h = tt

some_after : (xs ys : List ℕ) → LexBefore ◌<◌ xs ys → IsSomeDigit ys
some_after [] ys h = absurd h
some_after (x ∷ xs) [] h = absurd h
some_after (x ∷ xs) (y ∷ ys) h = ⊎_elim (λ l. above_some x y ys l) (λ e. later_some y ys (some_after xs ys e.1)) h

-- a symbol with children is present
kids_present : (sig : Signature) (f : TupleSymbol) → 0 < symbol_kids sig f → IsPresent f
kids_present sig [] h = absurd (omega arith)
kids_present sig (None ∷ f) h = kids_present sig f h
kids_present sig (Some g ∷ f) h = tt

some_kid_after : (xs ys : List ℕ) → LexBefore ◌<◌ xs ys → 0 < length ys
some_kid_after [] ys h = absurd h
some_kid_after (x ∷ xs) [] h = absurd h
some_kid_after (x ∷ xs) (y ∷ ys) h = omega arith

-- stages
fit_stage : (ps : List ℕ) (m : ℕ) (ws ks : List ℕ) → KidsFit ps m ws ks → stage ks ≤ suc m
fit_stage ps m [] [] h = omega arith
fit_stage ps m [] (k ∷ ks) h = absurd h
fit_stage ps m (w ∷ ws) [] h = absurd h
fit_stage ps m (w ∷ ws) (k ∷ ks) h = omega (arith, h.0, fit_stage ps m ws ks h.2)

or_same : (b : Bool) (x y : ℕ) → (b || (x == y)) ≡ true → (b ≡ true) ⊎ (x ≡ y)
or_same true x y h = inl refl
or_same false x y h = inr (equal_from_test x y h)

sees_stage : (m : ℕ) (has_greatest : Bool) (ks : List ℕ) → sees m has_greatest ks ≡ true → (has_greatest ≡ true) ⊎ (suc m ≤ stage ks)
sees_stage m has_greatest [] h = inl h
sees_stage m has_greatest (k ∷ ks) h =
    ⊎_elim
    (λ b. ⊎_elim (λ s. inl s) (λ e. inr (omega arith)) (or_same has_greatest k m b))
    (λ l. inr (omega arith))
    (sees_stage m (has_greatest || (k == m)) ks h)

pub stage_seen : (ps : List ℕ) (m : ℕ) (ws ks : List ℕ) → KidsFit ps m ws ks → sees m false ks ≡ true → stage ks ≡ suc m
stage_seen ps m ws ks h s = ⊎_elim (λ b. absurd cc) (λ l. omega (arith, fit_stage ps m ws ks h)) (sees_stage m false ks s)

-- the first of the lists is at the stage
pub first_stage : (ps : List ℕ) (m : ℕ) (ws ks : List ℕ) (rest : List (List ℕ)) → kid_lists ps m ws false ≡ ks ∷ rest → stage ks ≡ suc m
first_stage ps m ws ks rest e =
    let r = from_kid_lists ps m ws ks false (subst (λ (l : List (List ℕ)). In ks l) (sym e) (inl refl)) in
    stage_seen ps m ws ks r.0 r.1

pub next_stage : (ps : List ℕ) (m : ℕ) (ws from ks : List ℕ) (rest : List (List ℕ)) → AreUpTo m from → kids_after ps m ws false from ≡ ks ∷ rest → stage ks ≡ suc m
next_stage ps m ws from ks rest u e =
    let r = from_kids_after ps m ws from ks false u (subst (λ (l : List (List ℕ)). In ks l) (sym e) (inl refl)) in
    stage_seen ps m ws ks r.fits r.seen_there

-- kids by places and by recursion
kids_fit : (sig : Signature) (f : TupleSymbol) (ps : List ℕ) (m j : ℕ) (ks : List ℕ) → ((i : ℕ) → i < length ks → get_or ks i 0 ≤ m) → ((i : ℕ) → i < length ks → get_or ps (get_or ks i 0) 0 ≡ kid_presence sig f (j + i)) → KidsFit ps m (wants_from sig f j (length ks)) ks
kids_fit sig f ps m j [] h k = tt
kids_fit sig f ps m j (q ∷ ks) h k =
    let z : j + 0 ≡ j = omega arith in (
      h 0 (omega arith),
      k 0 (omega arith) ∙ ap (kid_presence sig f) z,
      kids_fit sig f ps m (j + 1) ks (λ i l. h (suc i) (omega arith)) (λ i l. let s : j + suc i ≡ j + 1 + i = omega arith in k (suc i) (omega arith) ∙ ap (kid_presence sig f) s),
    )

record Fitting (sig : Signature) (f : TupleSymbol) (ps : List ℕ) (m j n : ℕ) (ks : List ℕ) : Type 0 where
  count : length ks ≡ n
  within : (i : ℕ) → i < length ks → get_or ks i 0 ≤ m
  presence : (i : ℕ) → i < length ks → get_or ps (get_or ks i 0) 0 ≡ kid_presence sig f (j + i)

from_kids_fit : (sig : Signature) (f : TupleSymbol) (ps : List ℕ) (m j n : ℕ) (ks : List ℕ) → KidsFit ps m (wants_from sig f j n) ks → Fitting sig f ps m j n ks
from_kids_fit sig f ps m j zero [] h = record { count = refl; within = λ i l. absurd (omega arith); presence = λ i l. absurd (omega arith) }
from_kids_fit sig f ps m j zero (k ∷ ks) h = absurd h
from_kids_fit sig f ps m j (suc n) [] h = absurd h
from_kids_fit sig f ps m j (suc n) (k ∷ ks) h =
    let r = from_kids_fit sig f ps m (j + 1) n ks h.2 in
    let z : j ≡ j + 0 = omega arith in
    record {
      count = ap suc r.count;
      within = λ i. elim i as (λ i. i < length (k ∷ ks) → get_or (k ∷ ks) i 0 ≤ m) [ zero ↦ (λ l. h.0) | suc i ↦ (λ l. r.within i (omega arith)) ];
      presence = λ i. elim i as (λ i. i < length (k ∷ ks) → get_or ps (get_or (k ∷ ks) i 0) 0 ≡ kid_presence sig f (j + i)) [
        | zero ↦ (λ l. h.1 ∙ ap (kid_presence sig f) z)
        | suc i ↦ (λ l. let s : j + 1 + i ≡ j + suc i = omega arith in r.presence i (omega arith) ∙ ap (kid_presence sig f) s)
      ];
    }

seen_before : (m : ℕ) (ks : List ℕ) → sees m true ks ≡ true
seen_before m [] = refl
seen_before m (k ∷ ks) = seen_before m ks

either_true : (a : Bool) (x y : ℕ) → x ≡ y → (a || (x == y)) ≡ true
either_true a x y e = grind (arith, nat_tests)

-- a list at the stage sees the greatest state
sees_greatest : (m : ℕ) (has_greatest : Bool) (ks : List ℕ) → stage ks ≡ suc m → sees m has_greatest ks ≡ true
sees_greatest m has_greatest [] e = absurd (omega arith)
sees_greatest m has_greatest (k ∷ ks) e =
    ⊎_elim
    (λ l. sees_greatest m (has_greatest || (k == m)) ks (omega arith))
    (λ l. let s : k ≡ m = omega arith in ap (λ b. sees m b ks) (either_true has_greatest k m s) ∙ seen_before m ks)
    (cases_lt k m)

-- the kids of an entry with this symbol
pub record Kids (sig : Signature) (f : TupleSymbol) (ps ks : List ℕ) : Type 0 where
  pub count : length ks ≡ symbol_kids sig f
  pub within : (i : ℕ) → i < length ks → get_or ks i 0 < length ps
  pub presence : (i : ℕ) → i < length ks → get_or ps (get_or ks i 0) 0 ≡ kid_presence sig f i

fit_kids : (sig : Signature) (f : TupleSymbol) (ps ks : List ℕ) (m : ℕ) → Kids sig f ps ks → stage ks ≡ suc m → KidsFit ps m (wants sig f) ks
fit_kids sig f ps ks m h e =
    subst (λ (n : ℕ). KidsFit ps m (wants_from sig f 0 n) ks) h.count
    (kids_fit sig f ps m 0 ks (λ i l. omega (arith, kid_below ks i l)) (λ i l. let z : i ≡ 0 + i = omega arith in h.presence i l ∙ ap (kid_presence sig f) z))

kids_of_fit : (sig : Signature) (f : TupleSymbol) (ps ks : List ℕ) (m : ℕ) → m < length ps → KidsFit ps m (wants sig f) ks → Kids sig f ps ks
kids_of_fit sig f ps ks m l h =
    let r = from_kids_fit sig f ps m 0 (symbol_kids sig f) ks h in
    record { count = r.count; within = λ i k. omega (arith, r.within i k); presence = λ i k. let z : 0 + i ≡ i = omega arith in r.presence i k ∙ ap (kid_presence sig f) z }

-- lists of a stage
pub In-stage_kids : (sig : Signature) (f : TupleSymbol) (ps ks : List ℕ) (s : ℕ) → Kids sig f ps ks → stage ks ≡ s → In ks (stage_kids ps s (wants sig f))
In-stage_kids sig f ps [] zero h e = subst (λ (n : ℕ). In [] (stage_kids ps 0 (wants_from sig f 0 n))) h.count (inl refl)
In-stage_kids sig f ps (k ∷ ks) zero h e = absurd (omega arith)
In-stage_kids sig f ps ks (suc m) h e = In-kid_lists ps m (wants sig f) ks false (fit_kids sig f ps ks m h e) (sees_greatest m false ks e)

pub record AtStage (sig : Signature) (f : TupleSymbol) (ps ks : List ℕ) (s : ℕ) : Type 0 where
  pub kids : Kids sig f ps ks
  pub stage_is : stage ks ≡ s

pub from_stage_kids : (sig : Signature) (f : TupleSymbol) (ps ks : List ℕ) (s : ℕ) → s ≤ length ps → In ks (stage_kids ps s (wants sig f)) → AtStage sig f ps ks s
from_stage_kids sig f ps ks zero l h = none (wants sig f) (length-wants_from sig f 0 (symbol_kids sig f)) h
  where
    none : (ws : List ℕ) → length ws ≡ symbol_kids sig f → In ks (stage_kids ps 0 ws) → AtStage sig f ps ks 0
    none [] c h = ⊎_elim (λ e. subst (λ (k : List ℕ). AtStage sig f ps k 0) (sym e) (record {
      kids = record { count = c; within = λ i l. absurd (omega arith); presence = λ i l. absurd (omega arith) };
      stage_is = refl;
    })) (λ i. absurd i) h
    none (w ∷ ws) c h = absurd h
from_stage_kids sig f ps ks (suc m) l h =
    let r = from_kid_lists ps m (wants sig f) ks false h in
    record { kids = kids_of_fit sig f ps ks m (omega arith) r.0; stage_is = stage_seen ps m (wants sig f) ks r.0 r.1 }

pub no_kids : (ks : List ℕ) → stage ks ≡ 0 → ks ≡ []
no_kids [] e = refl
no_kids (k ∷ ks) e = absurd (omega arith)

In-stage_kids_after : (sig : Signature) (f : TupleSymbol) (ps from ks : List ℕ) (s : ℕ) → Kids sig f ps ks → stage ks ≡ s → LexBefore ◌<◌ from ks → In ks (stage_kids_after ps s (wants sig f) from)
In-stage_kids_after sig f ps from ks zero h e b = absurd (omega (arith, some_kid_after from ks b, ap length (no_kids ks e)))
In-stage_kids_after sig f ps from ks (suc m) h e b = In-kids_after ps m (wants sig f) from ks false (fit_kids sig f ps ks m h e) (sees_greatest m false ks e) b

pub from_stage_kids_after : (sig : Signature) (f : TupleSymbol) (ps from ks : List ℕ) (s : ℕ) → s ≤ length ps → AreUpTo (s - 1) from → In ks (stage_kids_after ps s (wants sig f) from) → AtStage sig f ps ks s × LexBefore ◌<◌ from ks
from_stage_kids_after sig f ps from ks zero l u h = absurd h
from_stage_kids_after sig f ps from ks (suc m) l u h =
    let same : suc m - 1 ≡ m = omega arith in
    let r = from_kids_after ps m (wants sig f) from ks false (subst (λ (n : ℕ). AreUpTo n from) same u) h in
    (record { kids = kids_of_fit sig f ps ks m (omega arith) r.fits; stage_is = stage_seen ps m (wants sig f) ks r.fits r.seen_there }, r.after)

-- entries of the stages
In-stages : (sig : Signature) (c : ℕ) (ps : List ℕ) (x : Entry) (s k t : ℕ) → s ≤ t → t < s + k → In x (stage_entries sig ps t (digits_after (length sig) (replicate c 0))) → In x (stages sig c ps s k)
In-stages sig c ps x s zero t l m h = absurd (omega arith)
In-stages sig c ps x s (suc k) t l m h =
    let here = stage_entries sig ps s (digits_after (length sig) (replicate c 0)) in
    ⊎_elim
    (λ n. In-right x here (stages sig c ps (s + 1) k) (In-stages sig c ps x (s + 1) k t (omega arith) (omega arith) h))
    (λ n. let e : t ≡ s = omega arith in In-left x here (stages sig c ps (s + 1) k) (subst (λ (i : ℕ). In x (stage_entries sig ps i (digits_after (length sig) (replicate c 0)))) e h))
    (cases_lt s t)

record FromStage (sig : Signature) (c : ℕ) (ps : List ℕ) (x : Entry) (s k : ℕ) : Type 0 where
  at : ℕ
  from : s ≤ at
  to : at < s + k
  there : In x (stage_entries sig ps at (digits_after (length sig) (replicate c 0)))

from_stages : (sig : Signature) (c : ℕ) (ps : List ℕ) (x : Entry) (s k : ℕ) → In x (stages sig c ps s k) → FromStage sig c ps x s k
from_stages sig c ps x s zero h = absurd h
from_stages sig c ps x s (suc k) h =
    ⊎_elim (λ i. record { at = s; from = omega arith; to = omega arith; there = i })
    (λ i. let r = from_stages sig c ps x (s + 1) k i in record { at = r.at; from = omega (arith, r.from); to = omega (arith, r.to); there = r.there })
    (In-either x (stage_entries sig ps s (digits_after (length sig) (replicate c 0))) (stages sig c ps (s + 1) k) h)

In-symbol_entries : (sig : Signature) (ps : List ℕ) (e : Entry) (s : ℕ) (dss : List (List ℕ)) → Kids sig e.symbol ps e.kids → stage e.kids ≡ s → In (map digit_of e.symbol) dss → In e (stage_entries sig ps s dss)
In-symbol_entries sig ps e s dss k t d =
    let f = e.symbol in
    let ds = map digit_of f in
    In-flat_map (symbol_entries sig ps s) ds e dss d
    (subst (λ (g : TupleSymbol). In e (map (entry g) (stage_kids ps s (wants sig g)))) (sym (symbol_again f)) (In-map (entry f) e.kids (stage_kids ps s (wants sig f)) (In-stage_kids sig f ps e.kids s k t)))

record FromSymbol (sig : Signature) (ps : List ℕ) (e : Entry) (s : ℕ) (dss : List (List ℕ)) : Type 0 where
  digits : List ℕ
  among : In digits dss
  symbol : e.symbol ≡ symbol_of digits
  kids : AtStage sig (symbol_of digits) ps e.kids s

from_symbol_entries : (sig : Signature) (ps : List ℕ) (e : Entry) (s : ℕ) (dss : List (List ℕ)) → s ≤ length ps → In e (stage_entries sig ps s dss) → FromSymbol sig ps e s dss
from_symbol_entries sig ps e s dss l h =
    let d = from_flat_map (symbol_entries sig ps s) e dss h in
    let k = from_map (entry (symbol_of d.0)) e (stage_kids ps s (wants sig (symbol_of d.0))) d.2 in
    record {
      digits = d.0;
      among = d.1;
      symbol = ap (λ (x : Entry). x.symbol) k.2;
      kids = subst (λ (x : Entry). AtStage sig (symbol_of d.0) ps x.kids s) (sym k.2) (from_stage_kids sig (symbol_of d.0) ps k.0 s l k.1);
    }

kids_of_entry : (sig : Signature) (n : ℕ) (ps : List ℕ) (e : Entry) → IsEntry sig n ps e → Kids sig e.symbol ps e.kids
kids_of_entry sig n ps e h = record { count = h.count; within = h.within; presence = h.presence }

entry_of_kids : (sig : Signature) (n : ℕ) (ps ds : List ℕ) (e : Entry) → e.symbol ≡ symbol_of ds → length ds ≡ n → AreUpTo (length sig) ds → IsPresent (symbol_of ds) → Kids sig (symbol_of ds) ps e.kids → IsEntry sig n ps e
entry_of_kids sig n ps ds e same width bound present k =
    let P : TupleSymbol → Type 0 = λ f. IsEntry sig n ps (entry f e.kids) in
    subst P (sym same) (record {
      symbol = record { width = length-map ds column_of ∙ width; present = present; symbols = symbols_of_digits sig ds bound };
      count = k.count;
      within = k.within;
      presence = k.presence;
    })

-- each entry after a place is there
pub In-after : (sig : Signature) (ps : List ℕ) (pl : Place) (e : Entry) → IsPlace sig pl → IsEntry sig (length pl.digits) ps e → ComesBefore (entry_at pl) e → In e (entries_after sig ps pl)
In-after sig ps pl e p h b =
    let f = e.symbol in
    let ds = map digit_of f in
    let n = length pl.digits in
    let k = kids_of_entry sig n ps e h in
    let bound = digits_up_to sig f h.symbol.symbols in
    let width : length ds ≡ n = length-map f digit_of ∙ h.symbol.width in
    let below : stage e.kids ≤ length ps = stage_within (length ps) e.kids h.within in
    let here = map (entry (symbol_of pl.digits)) (stage_kids_after ps pl.stage (wants sig (symbol_of pl.digits)) pl.kids) in
    let same = stage_entries sig ps pl.stage (digits_after (length sig) pl.digits) in
    let later = stages sig n ps (pl.stage + 1) (length ps - pl.stage) in
    ⊎_elim
    (λ l. In-right e here (same ++ later) (In-right e same later
    (In-stages sig n ps e (pl.stage + 1) (length ps - pl.stage) (stage e.kids) (omega (arith, p.stage)) (omega (arith, p.stage))
    (In-symbol_entries sig ps e (stage e.kids) (digits_after (length sig) (replicate n 0)) k refl
    (subst (λ (c : ℕ). In ds (digits_after (length sig) (replicate c 0))) width (In-digits (length sig) ds bound (some_digit f h.symbol.present)))))))
    (λ t.
    let at : stage e.kids ≡ pl.stage = sym t.0 ∙ p.stage in
    ⊎_elim
    (λ s. In-right e here (same ++ later) (In-left e same later
    (In-symbol_entries sig ps e pl.stage (digits_after (length sig) pl.digits) k at
    (In-digits_after (length sig) pl.digits ds width bound
    (digits_before pl.digits ds (subst (λ (g : TupleSymbol). LexBefore ColumnBefore (symbol_of pl.digits) g) (sym (symbol_again f)) s))))))
    (λ s. In-left e here (same ++ later)
    (subst (λ (g : TupleSymbol). In e (map (entry g) (stage_kids_after ps pl.stage (wants sig g) pl.kids))) (sym s.0)
    (In-map (entry f) e.kids (stage_kids_after ps pl.stage (wants sig f) pl.kids) (In-stage_kids_after sig f ps pl.kids e.kids pl.stage k at s.1))))
    t.1)
    b

-- and nothing else
pub from_after : (sig : Signature) (ps : List ℕ) (pl : Place) (e : Entry) → IsPlace sig pl → pl.stage ≤ length ps → In e (entries_after sig ps pl) → IsEntry sig (length pl.digits) ps e × ComesBefore (entry_at pl) e
from_after sig ps pl e p l h =
    let n = length pl.digits in
    let f = symbol_of pl.digits in
    let here = map (entry f) (stage_kids_after ps pl.stage (wants sig f) pl.kids) in
    let same = stage_entries sig ps pl.stage (digits_after (length sig) pl.digits) in
    let later = stages sig n ps (pl.stage + 1) (length ps - pl.stage) in
    ⊎_elim
    (λ i.
    let t = from_map (entry f) e (stage_kids_after ps pl.stage (wants sig f) pl.kids) i in
    let r = from_stage_kids_after sig f ps pl.kids t.0 pl.stage l p.kids t.1 in
    subst (λ (x : Entry). IsEntry sig n ps x × ComesBefore (entry_at pl) x) (sym t.2) (
      entry_of_kids sig n ps pl.digits (entry f t.0) refl refl p.digits (kids_present sig f (omega (arith, some_kid_after pl.kids t.0 r.1, r.0.kids.count))) r.0.kids,
      inr (p.stage ∙ sym r.0.stage_is, inr (refl, r.1)),
    ))
    (λ j. ⊎_elim
    (λ i.
    let s = from_symbol_entries sig ps e pl.stage (digits_after (length sig) pl.digits) l i in
    let d = from_digits_after (length sig) pl.digits s.digits p.digits s.among in (
      entry_of_kids sig n ps s.digits e s.symbol d.width d.bound (present_of_digits s.digits (some_after pl.digits s.digits d.after)) s.kids.kids,
      inr (p.stage ∙ sym s.kids.stage_is, inl (subst (λ (g : TupleSymbol). LexBefore ColumnBefore f g) (sym s.symbol) (symbols_before pl.digits s.digits d.after))),
    ))
    (λ i.
    let r = from_stages sig n ps e (pl.stage + 1) (length ps - pl.stage) i in
    let s = from_symbol_entries sig ps e r.at (digits_after (length sig) (replicate n 0)) (omega (arith, r.to, r.from)) r.there in
    let d = from_digits (length sig) n s.digits s.among in (
      entry_of_kids sig n ps s.digits e s.symbol d.0 d.1 (present_of_digits s.digits d.2) s.kids.kids,
      inl (omega (arith, p.stage, s.kids.stage_is, r.from)),
    ))
    (In-either e same later j))
    (In-either e here (same ++ later) h)
