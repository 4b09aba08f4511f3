-- The search through the choices: the next state that may stand as a child, one turn of the loop over them, and what is found where there is one choice.
use Rattle.std.proofs.Common.{◌≡◌, ◌≢◌, ℕ, zero, suc, ◌+◌, ◌-◌, ◌<◌, ◌≤◌, ◌==◌, ◌&&◌, ◌||◌, List, [], ◌∷◌, ◌++◌, length, get_or, take, set, Option, None, Some, IfNone, Bool, true, false, ⊎_elim, refl, ap, sym, ◌∙◌, arith, subst, append_assoc, get_or-set_same, get_or-set_other}
use Rattle.std.proofs.lemmas.Bool.{cases_lt, eqb-true, eq-eqb}
use Rattle.std.proofs.lemmas.List.{append-nil, take_more_set, length-take-le, get_or-take, ext_get_or}
use Rattle.std.specs.Slice.Scan.{HoldsNowhere}
use Rattle.fort_tables.specs.Tuples.{TupleSymbol, IsTupleSymbol, symbol_kids}
use Rattle.fort_tables.specs.Entries.{Entry, entry}
use Rattle.fort_tables.specs.Tables.{Table, IsTableEntry, IsTable, IsReached}
use Rattle.fort_tables.proofs.TableLaws.{IsKidState, IsTableEntry-kid_states, table_state}
use Rattle.fort_tables.specs.Projections.{some_below, some_choice, absent_state, has_state, is_pure}
use Rattle.fort_tables.proofs.SearchLaws.{same_truth, found_choice, choice_found, options_from_zero, options_at_zero}
use Rattle.fort_tables.proofs.ProjectLabels.{may_in_set, may_past, may_absent}
use Rattle.fort_target_lists.specs.LabelLists.{labels_at}
use Rattle.fort_projections.specs.Choices.{IsNext, IsNextChoice, AreNoChoices, AreChoices, may_choose, is_reachable}
use Rattle.fort_projections.proofs.ProjectEntries.{label_at, length-labels_at, choice_state}

pub IfNone_then : {X P Q : Type 0} (r : Option X) → IfNone r P → (P → Q) → IfNone r Q
IfNone_then None h k = k h
IfNone_then (Some x) h k = tt

-- what the three kinds of children say
pub label_is : (labels : List (List ℕ)) (e : Entry) (j : ℕ) (w : List ℕ) (ks : List ℕ) → w ≡ get_or labels (get_or ks j 0) [] → ks ≡ e.kids → j < length e.kids → w ≡ get_or (labels_at labels e.kids) j []
label_is labels e j w ks p q l = p ∙ (ap (λ (xs : List ℕ). get_or labels (get_or xs j 0) []) q ∙ sym (label_at labels e.kids j l))

pub absent_same : (body : Table) (c : ℕ) (labels : List (List ℕ)) (e : Entry) (most j : ℕ) (w ks : List ℕ) → w ≡ get_or labels (get_or ks j 0) [] → ks ≡ e.kids → most ≤ j → j < length e.kids → (k : ℕ) → (absent_state w == k) ≡ may_choose body c labels e most j k
absent_same body c labels e most j w ks p q a l k = ap (λ x. absent_state x == k) (label_is labels e j w ks p q l) ∙ sym (may_absent body c most (labels_at labels e.kids) j k a)

pub set_same : (body : Table) (c : ℕ) (labels : List (List ℕ)) (e : Entry) (most j : ℕ) (w ks : List ℕ) → w ≡ get_or labels (get_or ks j 0) [] → ks ≡ e.kids → j < most → j < length e.kids → (k : ℕ) → has_state w k ≡ may_choose body c labels e most j k
set_same body c labels e most j w ks p q a l k = ap (λ x. has_state x k) (label_is labels e j w ks p q l) ∙ sym (may_in_set body c most (labels_at labels e.kids) j k a (omega (arith, length-labels_at labels e.kids)))

pub pure_same : (body : Table) (c : ℕ) (labels : List (List ℕ)) (e : Entry) (most j : ℕ) → j < most → length e.kids ≤ j → (k : ℕ) → is_pure body c k ≡ may_choose body c labels e most j k
pure_same body c labels e most j a l k = sym (may_past body c most (labels_at labels e.kids) j k a (omega (arith, length-labels_at labels e.kids)))

pub kid_state_small : (body : Table) (f : TupleSymbol) (j k : ℕ) → IsTable body → IsKidState body f j k → k < length body.presences
kid_state_small body f j k is h = subst (λ (q : ℕ). q < length body.presences) h.state (table_state body is h.tuple h.is_tuple).within

pub next_choice : (body : Table) (c : ℕ) (alone : List ℕ) (labels : List (List ℕ)) (e : Entry) (g : ℕ) (f : TupleSymbol) (most : ℕ) → IsTable body → IsReached body → AreChoices body c alone labels e g f most
    → (j from k : ℕ) → j < symbol_kids body.signature f → (p : ℕ → Bool) → ((i : ℕ) → p i ≡ may_choose body c labels e most j i) → IsNext p from k → IsNextChoice body (may_choose body c labels e most j) from k
next_choice body c alone labels e g f most is reached h j from k l p same n =
    let hit : may_choose body c labels e most j k ≡ true = sym (same k) ∙ n.hit in
    record {
      next = record { low = n.low; hit = hit; before = λ i a b. sym (same i) ∙ n.before i a b };
      within = kid_state_small body f j k is (choice_state body c alone labels e g f most is reached h j k l hit);
    }

pub none_choice : (body : Table) (c : ℕ) (labels : List (List ℕ)) (e : Entry) (most j from : ℕ) (p : ℕ → Bool) → ((i : ℕ) → p i ≡ may_choose body c labels e most j i) → ((i : ℕ) → from ≤ i → p i ≡ false) → AreNoChoices body (may_choose body c labels e most j) from
none_choice body c labels e most j from p same n = λ i a b. sym (same i) ∙ n i a

-- the entry of a whole choice
pub whole_entry : (body : Table) (f : TupleSymbol) (chosen : List ℕ) (j : ℕ) → IsTable body → IsTupleSymbol body.signature body.columns f → j ≡ symbol_kids body.signature f → j ≤ length chosen → ((i : ℕ) → i < j → IsKidState body f i (get_or chosen i 0)) → IsTableEntry body (entry f (take j chosen))
whole_entry body f chosen j is s count l h =
    let w = length-take-le j chosen l in
    IsTableEntry-kid_states body (entry f (take j chosen)) is s (omega (arith, w, count))
    (λ i a. subst (IsKidState body f i) (sym (get_or-take j chosen i 0 (omega (arith, w)))) (h i (omega (arith, w))))

-- one more child has its state
pub kid_state_more : (body : Table) (f : TupleSymbol) (chosen : List ℕ) (j k : ℕ) → j < length chosen → ((i : ℕ) → i < j → IsKidState body f i (get_or chosen i 0)) → IsKidState body f j k → (i : ℕ) → i < j + 1 → IsKidState body f i (get_or (set chosen j k) i 0)
kid_state_more body f chosen j k l h s i b = ⊎_elim
    (λ (a : i < j). let ne : i ≢ j = omega arith in subst (IsKidState body f i) (sym (get_or-set_other chosen j i k 0 ne)) (h i a))
    (λ (a : j ≤ i). let e : j ≡ i = omega arith in subst (λ (x : ℕ). IsKidState body f x (get_or (set chosen j k) x 0)) e (subst (IsKidState body f j) (sym (get_or-set_same chosen j k 0 l)) s))
    (cases_lt i j)

-- what the search reaches by one turn
choice_turn : (m : ℕ) (may : ℕ → ℕ → Bool) (j n : ℕ) (p : List ℕ → Bool) → n ≢ 0 → some_choice m may j n p ≡ some_below m (λ k. may j k && some_choice m may (suc j) (n - 1) (λ ks. p (k ∷ ks)))
choice_turn m may j zero p h = absurd (h refl)
choice_turn m may j (suc n) p h =
    let e : n ≡ suc n - 1 = omega arith in
    ap (λ r. some_below m (λ k. may j k && some_choice m may (suc j) r (λ ks. p (k ∷ ks)))) e

pub reachable_turn : (body : Table) (may : ℕ → ℕ → Bool) (f : TupleSymbol) (before : List ℕ) (j rest q : ℕ) → rest ≢ 0
    → is_reachable body may f before j rest q ≡ some_below (length body.presences) (λ k. may j k && is_reachable body may f (before ++ k ∷ []) (j + 1) (rest - 1) q)
reachable_turn body may f before j rest q h =
    let m = length body.presences in
    let e : suc j ≡ j + 1 = omega arith in
    choice_turn m may j rest (λ ks. body.target (entry f (before ++ ks)) == q) h
    ∙ ap (λ (r : ℕ → Bool). some_below m (λ k. may j k && r k))
    (let s : (k : ℕ) → some_choice m may (suc j) (rest - 1) (λ ks. body.target (entry f (before ++ k ∷ ks)) == q) ≡ is_reachable body may f (before ++ k ∷ []) (j + 1) (rest - 1) q =
    λ k. ap (some_choice m may (suc j) (rest - 1)) (λ i ks. body.target (entry f (sym (append_assoc before (k ∷ []) ks) i)) == q)
    ∙ ap (λ a. some_choice m may a (rest - 1) (λ ks. body.target (entry f ((before ++ k ∷ []) ++ ks)) == q)) e in
    λ i k. s k i)

-- a whole choice gives the target alone
pub reachable_end : (body : Table) (may : ℕ → ℕ → Bool) (f : TupleSymbol) (before : List ℕ) (j rest q : ℕ) → rest ≡ 0 → is_reachable body may f before j rest q ≡ (body.target (entry f before) == q)
reachable_end body may f before j rest q h =
    ap (λ n. is_reachable body may f before j n q) h ∙ ap (λ ks. body.target (entry f ks) == q) (append-nil before)

or_more : (a b new mid old : Bool) → new ≡ (b || mid) → mid ≡ (a || old) → new ≡ ((a || b) || old)
or_more true true new mid old h k = h
or_more true false new mid old h k = h ∙ k
or_more false true new mid old h k = h
or_more false false new mid old h k = h ∙ k

and_left : (a b : Bool) → a ≡ true → (a && b) ≡ b
and_left true b h = refl
and_left false b h = absurd cc

and_none : (a b : Bool) → a ≡ false → (a && b) ≡ false
and_none true b h = absurd cc
and_none false b h = refl

or_none : (a b : Bool) → b ≡ false → (a || b) ≡ a
or_none true b h = refl
or_none false b h = h

-- numbers that don't pass leave a search as it is
pub some_below-skip : (p : ℕ → Bool) (from k : ℕ) → from ≤ k → HoldsNowhere p from k → some_below k p ≡ some_below from p
some_below-skip p from zero l h = let e : 0 ≡ from = omega arith in ap (λ n. some_below n p) e
some_below-skip p from (suc k) l h = ⊎_elim
    (λ (a : from < suc k). or_none (some_below k p) (p k) (h k (omega arith) (omega arith)) ∙ some_below-skip p from k (omega arith) (λ i b d. h i b (omega arith)))
    (λ (a : suc k ≤ from). let e : suc k ≡ from = omega arith in ap (λ n. some_below n p) e)
    (cases_lt from (suc k))

some_below-more : (k : ℕ) (p : ℕ → Bool) → some_below (k + 1) p ≡ (some_below k p || p k)
some_below-more k p = let e : k + 1 ≡ suc k = omega arith in ap (λ n. some_below n p) e

-- which states the search has marked after it has gone on from a state
pub turn : (may : ℕ → Bool) (reach : ℕ → Bool) (from k : ℕ) (b new mid old : Bool) → IsNext may from k → reach k ≡ b → new ≡ (b || mid) → mid ≡ (some_below from (λ i. may i && reach i) || old) → new ≡ (some_below (k + 1) (λ i. may i && reach i) || old)
turn may reach from k b new mid old n e h g =
    let p : ℕ → Bool = λ i. may i && reach i in
    let here : p k ≡ b = and_left (may k) (reach k) n.hit ∙ e in
    let skip : some_below k p ≡ some_below from p = some_below-skip p from k n.low (λ i a d. and_none (may i) (reach i) (n.before i a d)) in
    or_more (some_below k p) (p k) new mid old (h ∙ ap (λ c. c || mid) (sym here)) (g ∙ ap (λ c. c || old) (sym skip)) ∙ ap (λ c. c || old) (sym (some_below-more k p))

pub turn_last : (may : ℕ → Bool) (reach : ℕ → Bool) (from m : ℕ) (new old : Bool) → from ≤ m → HoldsNowhere may from m → new ≡ (some_below from (λ i. may i && reach i) || old) → new ≡ (some_below m (λ i. may i && reach i) || old)
turn_last may reach from m new old l none h = h ∙ ap (λ c. c || old) (sym (some_below-skip (λ i. may i && reach i) from m l (λ i a d. and_none (may i) (reach i) (none i a d))))

-- the child chosen, as the next call sees it
pub reach_chosen : (body : Table) (may : ℕ → ℕ → Bool) (f : TupleSymbol) (chosen : List ℕ) (j rest k q : ℕ) → j < length chosen
    → is_reachable body may f (take j chosen ++ k ∷ []) (j + 1) (rest - 1) q ≡ is_reachable body may f (take (j + 1) (set chosen j k)) (j + 1) (rest - 1) q
reach_chosen body may f chosen j rest k q l = ap (λ b. is_reachable body may f b (j + 1) (rest - 1) q) (sym (take_more_set chosen j k l))

-- where one number alone may stand at each place, a search is true exactly where these numbers pass
pub one_choice : (m : ℕ) (may : ℕ → ℕ → Bool) (ks : List ℕ) (p : List ℕ → Bool) → ((i : ℕ) → i < length ks → get_or ks i 0 < m) → ((i k : ℕ) → i < length ks → may i k ≡ (get_or ks i 0 == k)) → some_choice m may 0 (length ks) p ≡ p ks
one_choice m may ks p small one =
    same_truth (some_choice m may 0 (length ks) p) (p ks)
    (λ o.
    let r = found_choice m may 0 (length ks) p o in
    let all = options_at_zero m may r.0 r.2 in
    let same : r.0 ≡ ks = ext_get_or 0 r.0 ks r.1 (λ i l. sym (eqb-true (get_or ks i 0) (get_or r.0 i 0) (sym (one i (get_or r.0 i 0) (omega (arith, r.1))) ∙ (all i l).1))) in
    subst (λ (xs : List ℕ). p xs ≡ true) same r.3)
    (λ o. choice_found m may 0 (length ks) p ks refl (options_from_zero m may ks (λ i l. (small i l, one i (get_or ks i 0) l ∙ eq-eqb (get_or ks i 0) (get_or ks i 0) refl))) o)
