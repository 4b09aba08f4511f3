-- The nodes of each state: the first from a number on, and one more.
use Rattle.std.proofs.Common.{◌≡◌, ℕ, zero, suc, ◌*◌, ◌<◌, ◌≤◌, List, [], ◌∷◌, ◌++◌, map, length, length-append, get_or, true, false, refl, ap, sym, ◌∙◌, arith, subst, ⊎_elim, get_or-set_same, get_or-set_other}
use Rattle.std.specs.Prelude.{slice_set, None, Some}
use Rattle.std.specs.List.Sorted.{IsPartitionPoint, IsNonDecreasingBy}
use Rattle.std.specs.List.{sum_by}
use Rattle.std.proofs.Math.Dec.{ltb}
use Rattle.std.proofs.Math.Nat.{suc-mul}
use Rattle.std.proofs.lemmas.List.Sums.{sum_by-set, sum_by-cons}
use Rattle.std.proofs.lemmas.Nat.{mul-le}
use Rattle.std.proofs.lemmas.Bool.{cases_lt}
use Rattle.std.proofs.lemmas.Bool.Decides.{nat_tests}
use Rattle.std.proofs.lemmas.List.{length-map, get_or-map, length-set, length_push, get_or_push, get_or_append_left, map-append, map-set}
use Rattle.std.proofs.lemmas.List.Sorted.{IsNonDecreasingBy-from_default}
use Rattle.std.specs.declared.alloc.Global.{Global}
use Rattle.std.specs.declared.vec.Vec.{Vec}
use Rattle.fort_witness.specs.declared.node_lists.NodeLists.{NodeLists}
use Rattle.fort_tables.specs.Tables.{Table}
use Rattle.fort_witness.specs.declared.kept.Kept.{Kept}
use Rattle.fort_witness.specs.Solving.{AreKeptNodes}
use Rattle.fort_witness.specs.Choices.{lists_of, numbers_from, HasOneMore, AreListed, IsNodeOf, IsFirstAt}
use Rattle.fort_witness.proofs.NextLaws.{same_or_other}

abbrev IsPoint : ℕ → List ℕ → ℕ → Type 0
IsPoint start list place = IsPartitionPoint (λ y. ltb y start ≡ true) (λ y. ltb y start ≡ false) list place

pub numbers_rise : (n : ℕ) (qs : List ℕ) (lists : List (List ℕ)) (q : ℕ) (list : List ℕ) → AreListed n qs lists
    → list ≡ numbers_from lists q → IsNonDecreasingBy (λ x. x) list
numbers_rise n qs lists q list h e = IsNonDecreasingBy-from_default (λ x. x) list 0 (λ i j l m.
    let b : j < length (numbers_from lists q) = omega (arith, ap (λ (xs : List ℕ). length xs) e) in
    ⊎_elim
    (λ o. omega (arith, h.rise q i j o b, ap (λ (xs : List ℕ). get_or xs i 0) e, ap (λ (xs : List ℕ). get_or xs j 0) e))
    (λ o. let s : i ≡ j = omega arith in omega (arith, ap (λ k. get_or list k 0) s))
    (cases_lt i j))

-- a node of the state stands in its list, at the place or behind it
at_place : (n : ℕ) (qs : List ℕ) (lists : List (List ℕ)) (q start end place : ℕ) (list : List ℕ) (k : ℕ)
    → AreListed n qs lists → q < n → list ≡ numbers_from lists q → IsPoint start list place → IsNodeOf qs q start end k
    → (place < length list) × (get_or list place 0 ≤ k)
at_place n qs lists q start end place list k h l e p w =
    let a = h.all k w.within (omega (arith, w.state)) in
    let b : a.0 < length list = omega (arith, a.1, ap (λ x. length (numbers_from lists x)) w.state, ap (λ (xs : List ℕ). length xs) e) in
    let v : get_or list a.0 0 ≡ k = ap (λ (xs : List ℕ). get_or xs a.0 0) e ∙ (ap (λ x. get_or (numbers_from lists x) a.0 0) (sym w.state) ∙ a.2) in
    ⊎_elim
    (λ m.
    let t : ltb (get_or list a.0 0) start ≡ true = p.0 a.0 0 (omega arith) m in
    let s : get_or list a.0 0 < start = grind (arith, nat_tests) in
    absurd (omega (arith, w.from)))
    (λ m. (omega arith, omega (arith, numbers_rise n qs lists q list h e place a.0 0 m b)))
    (cases_lt a.0 place)

pub first_in : (n : ℕ) (qs : List ℕ) (lists : List (List ℕ)) (q start end place : ℕ) (list : List ℕ) (node : ℕ)
    → AreListed n qs lists → q < length lists → list ≡ numbers_from lists q → IsPoint start list place
    → place < length list → get_or list place 0 ≡ node → node < end → IsFirstAt qs q start end (Some node)
first_in n qs lists q start end place list node h l e p m v b =
    let i : place < length (numbers_from lists q) = omega (arith, ap (λ (xs : List ℕ). length xs) e) in
    let w = h.are q place i in
    let same : get_or (numbers_from lists q) place 0 ≡ node = sym (ap (λ (xs : List ℕ). get_or xs place 0) e) ∙ v in
    let t : ltb (get_or list place 0) start ≡ false = p.1 place 0 (omega arith) m in
    let f : start ≤ get_or list place 0 = grind (arith, nat_tests) in (
      record { within = omega (arith, w.0); state = ap (λ k. get_or qs k 0) (sym same) ∙ w.1; from = omega arith; below = b },
      λ k n'. let r = at_place n qs lists q start end place list k h (omega (arith, h.count)) e p n' in omega (arith, r.1),
    )

pub none_in : (n : ℕ) (qs : List ℕ) (lists : List (List ℕ)) (q start end place : ℕ) (list : List ℕ)
    → AreListed n qs lists → q < length lists → list ≡ numbers_from lists q → IsPoint start list place
    → (place < length list → end ≤ get_or list place 0) → IsFirstAt qs q start end None
none_in n qs lists q start end place list h l e p none = λ k w. let r = at_place n qs lists q start end place list k h (omega (arith, h.count)) e p w in omega (arith, none r.0, r.1, w.below)

none_total : (lists : List (List ℕ)) → ((q : ℕ) → numbers_from lists q ≡ []) → sum_by (λ (xs : List ℕ). length xs) lists ≡ 0
none_total [] f = refl
none_total (xs ∷ lists) f = omega (arith, sum_by-cons (λ (zs : List ℕ). length zs) xs lists, ap (λ (zs : List ℕ). length zs) (f 0), none_total lists (λ q. f (suc q)))

-- no nodes at first
pub listed_none : (lists : List (List ℕ)) (n : ℕ) → length lists ≡ n → ((q : ℕ) → numbers_from lists q ≡ [])
    → AreListed n [] lists
listed_none lists n e f = record {
  count = e;
  total = none_total lists f;
  rise = λ q i j l m. absurd (omega (arith, ap (λ (xs : List ℕ). length xs) (f q)));
  are = λ q i l. absurd (omega (arith, ap (λ (xs : List ℕ). length xs) (f q)));
  all = λ k l m. absurd (omega arith);
}

-- one more node
pub listed_push : (n : ℕ) (qs : List ℕ) (old new : List (List ℕ)) (q : ℕ) → AreListed n qs old → q < length old
    → length new ≡ length old → sum_by (λ (xs : List ℕ). length xs) new ≡ suc (sum_by (λ (xs : List ℕ). length xs) old)
    → numbers_from new q ≡ numbers_from old q ++ length qs ∷ []
    → ((p : ℕ) → (p ≡ q → ⊥) → numbers_from new p ≡ numbers_from old p) → AreListed n (qs ++ q ∷ []) new
listed_push n qs old new q h l c sum own others =
    let xs = numbers_from old q in
    let ys = xs ++ length qs ∷ [] in
    let grown : (k : ℕ) → k < length qs → get_or (qs ++ q ∷ []) k 0 ≡ get_or qs k 0 = λ k m. get_or_append_left qs (q ∷ []) 0 k m in
    let R : List ℕ → Type 0 = λ zs. (i j : ℕ) → i < j → j < length zs → get_or zs i 0 < get_or zs j 0 in
    let A : ℕ → List ℕ → Type 0 = λ p zs. (i : ℕ) → i < length zs → (get_or zs i 0 < length (qs ++ q ∷ [])) × (get_or (qs ++ q ∷ []) (get_or zs i 0) 0 ≡ p) in
    let left : (i : ℕ) → i < length xs → get_or ys i 0 ≡ get_or xs i 0 = λ i m. get_or_append_left xs (length qs ∷ []) 0 i m in
    let own_rise : R ys = λ i j m b. ⊎_elim
    (λ o. omega (arith, left i (omega arith), left j o, h.rise q i j m o))
    (λ o. let e : length xs ≡ j = omega (arith, length_push xs (length qs)) in omega (arith, get_or_push xs (length qs) 0 j e, left i (omega arith), (h.are q i (omega arith)).0))
    (cases_lt j (length xs)) in
    let own_are : A q ys = λ i m. ⊎_elim
    (λ o.
    let r = h.are q i o in
    let e = left i o in
    (omega (arith, r.0, length_push qs q), ap (λ k. get_or (qs ++ q ∷ []) k 0) e ∙ (grown (get_or xs i 0) r.0 ∙ r.1)))
    (λ o.
    let e : length xs ≡ i = omega (arith, length_push xs (length qs)) in
    let f = get_or_push xs (length qs) 0 i e in
    (omega (arith, f, length_push qs q), ap (λ k. get_or (qs ++ q ∷ []) k 0) f ∙ get_or_push qs q 0 (length qs) refl))
    (cases_lt i (length xs)) in
    record {
      count = c ∙ h.count;
      total = omega (arith, sum, h.total, length_push qs q);
      rise = λ p. ⊎_elim
          (λ e. subst R (sym (ap (numbers_from new) e ∙ own)) own_rise)
          (λ ne. subst R (sym (others p ne)) (h.rise p))
          (same_or_other p q);
      are = λ p. ⊎_elim
          (λ e. subst (A p) (sym (ap (numbers_from new) e ∙ own)) (subst (λ x. A x ys) (sym e) own_are))
          (λ ne. subst (A p) (sym (others p ne)) (λ i m. let r = h.are p i m in (omega (arith, r.0, length_push qs q), grown (get_or (numbers_from old p) i 0) r.0 ∙ r.1)))
          (same_or_other p q);
      all = λ k m b.
          let H : ℕ → Type 0 = λ x. (i : ℕ) × (i < length (numbers_from new x)) × (get_or (numbers_from new x) i 0 ≡ k) in
          ⊎_elim
          (λ o.
          let at = grown k o in
          let r = h.all k o (omega arith) in
          let x = get_or qs k 0 in
          let here : H x = ⊎_elim
          (λ e.
          let f : numbers_from new x ≡ numbers_from old x ++ length qs ∷ [] = ap (numbers_from new) e ∙ (own ∙ ap (λ y. numbers_from old y ++ length qs ∷ []) (sym e)) in
          (r.0, omega (arith, r.1, ap (λ (zs : List ℕ). length zs) f, length_push (numbers_from old x) (length qs)), ap (λ (zs : List ℕ). get_or zs r.0 0) f ∙ (get_or_append_left (numbers_from old x) (length qs ∷ []) 0 r.0 r.1 ∙ r.2)))
          (λ ne.
          let f = others x ne in
          (r.0, omega (arith, r.1, ap (λ (zs : List ℕ). length zs) f), ap (λ (zs : List ℕ). get_or zs r.0 0) f ∙ r.2))
          (same_or_other x q) in
          subst H (sym at) here)
          (λ o.
          let e : length qs ≡ k = omega (arith, length_push qs q) in
          let at : get_or (qs ++ q ∷ []) k 0 ≡ q = get_or_push qs q 0 k e in
          let here : H q = (length xs, omega (arith, ap (λ (zs : List ℕ). length zs) own, length_push xs (length qs)), ap (λ (zs : List ℕ). get_or zs (length xs) 0) own ∙ (get_or_push xs (length qs) 0 (length xs) refl ∙ e)) in
          subst H (sym at) here)
          (cases_lt k (length qs));
    }

pub list_at : (r : NodeLists) (q : ℕ) (v : Vec ℕ Global) → q < length (lists_of r) → v ≡ get_or r.lists.items q v
    → v.items ≡ numbers_from (lists_of r) q
list_at r q v l e =
    let I : Vec ℕ Global → List ℕ = λ w. w.items in
    ap I e ∙ sym (get_or-map I r.lists.items q v [] (omega (arith, length-map r.lists.items I)))

abbrev items_of : Vec ℕ Global → List ℕ
items_of v = v.items

past_none : (xs : List (List ℕ)) (q : ℕ) → length xs ≤ q → get_or xs q [] ≡ []
past_none [] q l = refl
past_none (x ∷ xs) zero l = absurd (omega arith)
past_none (x ∷ xs) (suc q) l = past_none xs q (omega arith)

pub empty_more : (vs ws : List (Vec ℕ Global)) (v : Vec ℕ Global) → ((q : ℕ) → get_or (map items_of vs) q [] ≡ [])
    → v.items ≡ [] → ws ≡ vs ++ v ∷ [] → (q : ℕ) → get_or (map items_of ws) q [] ≡ []
empty_more vs ws v h e g q =
    let xs = map items_of vs in
    let grown : map items_of ws ≡ xs ++ v.items ∷ [] = ap (map items_of) g ∙ map-append items_of vs (v ∷ []) in
    let at : get_or (xs ++ v.items ∷ []) q [] ≡ [] = ⊎_elim
    (λ l. get_or_append_left xs (v.items ∷ []) [] q l ∙ h q)
    (λ l. ⊎_elim
    (λ m. past_none (xs ++ v.items ∷ []) q (omega (arith, length-append xs (v.items ∷ []))))
    (λ m. let s : length xs ≡ q = omega arith in get_or_push xs v.items [] q s ∙ e)
    (cases_lt (length xs) q))
    (cases_lt q (length xs)) in
    ap (λ (zs : List (List ℕ)). get_or zs q []) grown ∙ at

-- one more node in the list of a state
pub pushed : (n : ℕ) (qs : List ℕ) (old new : NodeLists) (q node : ℕ) (v w : Vec ℕ Global)
    → AreListed n qs (lists_of old) → q < length (lists_of old) → v ≡ get_or old.lists.items q v
    → w.items ≡ v.items ++ node ∷ [] → new.lists.items ≡ slice_set old.lists.items q w → node ≡ length qs
    → AreListed n (qs ++ q ∷ []) (lists_of new)
pushed n qs old new q node v w h l e f g m =
    let xs = old.lists.items in
    let b : q < length xs = omega (arith, length-map xs items_of) in
    let lists : lists_of new ≡ slice_set (lists_of old) q w.items = ap (map items_of) g ∙ map-set items_of xs q w in
    let own : numbers_from (lists_of new) q ≡ numbers_from (lists_of old) q ++ length qs ∷ [] =
    ap (λ (zs : List (List ℕ)). get_or zs q []) lists
    ∙ (get_or-set_same (lists_of old) q w.items [] l
    ∙ (f ∙ (ap (λ (zs : List ℕ). zs ++ node ∷ []) (list_at old q v l e) ∙ ap (λ k. numbers_from (lists_of old) q ++ k ∷ []) m))) in
    let size : List ℕ → ℕ = λ zs. length zs in
    let more : length w.items ≡ suc (length (numbers_from (lists_of old) q)) = omega (arith, ap size f, length_push v.items node, ap size (list_at old q v l e)) in
    let sum : sum_by size (lists_of new) ≡ suc (sum_by size (lists_of old)) = omega (arith, ap (sum_by size) lists, sum_by-set size (lists_of old) q w.items [] l, more) in
    listed_push n qs (lists_of old) (lists_of new) q h l (ap (λ (zs : List (List ℕ)). length zs) lists ∙ length-set (lists_of old) q w.items) sum own
    (λ p ne. ap (λ (zs : List (List ℕ)). get_or zs p []) lists ∙ get_or-set_other (lists_of old) q p w.items [] ne)

abbrev pub Lists : Type 0
Lists = List (Vec ℕ Global)

sum_within : (lists : List (List ℕ)) (keep : ℕ) → ((q : ℕ) → length (numbers_from lists q) ≤ keep)
    → sum_by (λ (xs : List ℕ). length xs) lists ≤ length lists * keep
sum_within [] keep f = omega arith
sum_within (xs ∷ lists) keep f =
    let here = f 0 in
    let there = sum_within lists keep (λ q. f (suc q)) in
    omega (arith, sum_by-cons (λ (zs : List ℕ). length zs) xs lists, suc-mul (length lists) keep, here, there)

-- as many nodes as states with so many each, at most
pub nodes_within : (n keep : ℕ) (qs : List ℕ) (lists : List (List ℕ)) → AreListed n qs lists
    → ((q : ℕ) → length (numbers_from lists q) ≤ keep) → length qs ≤ n * keep
nodes_within n keep qs lists h f = omega (arith, h.total, sum_within lists keep f, ap (λ m. m * keep) h.count)

pub one_more : (old new : NodeLists) (q node : ℕ) (v w : Vec ℕ Global) → q < length (lists_of old)
    → v ≡ get_or old.lists.items q v → w.items ≡ v.items ++ node ∷ [] → new.lists.items ≡ slice_set old.lists.items q w
    → HasOneMore q (lists_of old) (lists_of new)
one_more old new q node v w l e f g =
    let lists : lists_of new ≡ slice_set (lists_of old) q w.items = ap (map items_of) g ∙ map-set items_of old.lists.items q w in
    let size : List ℕ → ℕ = λ zs. length zs in
    record {
      count = ap (λ (zs : List (List ℕ)). length zs) lists ∙ length-set (lists_of old) q w.items;
      own = ap (λ (zs : List (List ℕ)). length (get_or zs q [])) lists ∙ (ap size (get_or-set_same (lists_of old) q w.items [] l) ∙ omega (arith, ap size f, length_push v.items node, ap size (list_at old q v l e)));
      others = λ p ne. ap (λ (zs : List (List ℕ)). get_or zs p []) lists ∙ get_or-set_other (lists_of old) q p w.items [] ne;
    }

sum_room : (lists : List (List ℕ)) (keep q : ℕ) → ((p : ℕ) → length (numbers_from lists p) ≤ keep) → q < length lists
    → length (numbers_from lists q) < keep → sum_by (λ (xs : List ℕ). length xs) lists < length lists * keep
sum_room [] keep q f l m = absurd (omega arith)
sum_room (xs ∷ lists) keep zero f l m = omega (arith, sum_by-cons (λ (zs : List ℕ). length zs) xs lists, suc-mul (length lists) keep, sum_within lists keep (λ p. f (suc p)), m)
sum_room (xs ∷ lists) keep (suc q) f l m = omega (arith, sum_by-cons (λ (zs : List ℕ). length zs) xs lists, suc-mul (length lists) keep, sum_room lists keep q (λ p. f (suc p)) (omega arith) m, f 0)

-- with a state that isn't full, there is room for one more node
pub nodes_room : (n keep q : ℕ) (qs : List ℕ) (lists : List (List ℕ)) → AreListed n qs lists
    → ((p : ℕ) → length (numbers_from lists p) ≤ keep) → q < n → length (numbers_from lists q) < keep
    → length qs < n * keep
nodes_room n keep q qs lists h f l m = omega (arith, h.total, sum_room lists keep q f (omega (arith, h.count)) m, ap (λ k. k * keep) h.count)

-- the nodes' numbers are small
pub kept_few : (t : Table) (most : ℕ) (f : Kept) → AreKeptNodes t (suc most) f → length t.presences ≤ 1000000
    → most ≤ 1000 → length f.dag ≤ 1001000000
kept_few t most f n few small =
    let a = nodes_within (length t.presences) (suc most) f.states.items (lists_of f.lists) n.lists n.few in
    let b : length t.presences * suc most ≤ 1000000 * 1001 = mul-le (length t.presences) (suc most) 1000000 1001 few (omega arith) in
    omega (arith, a, b, n.count)
