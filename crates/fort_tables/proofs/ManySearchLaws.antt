-- The search through the choices of child states, child by child.
use Rattle.std.proofs.Common.{◌≡◌, ◌≢◌, ℕ, zero, suc, ◌+◌, ◌-◌, ◌<◌, ◌≤◌, ◌&&◌, ◌||◌, max, min, List, [], ◌∷◌, ◌++◌, length, get_or, take, set, Some, nat_lt, Bool, true, false, ⊎_elim, refl, ap, sym, ◌∙◌, arith, append_assoc, get_or-set_same, get_or-set_other}
use Rattle.std.proofs.lemmas.Bool.{cases_lt, lt-ltb, le-ltb}
use Rattle.std.proofs.lemmas.List.{append-nil, take_more_set, length-take-le, get_or-take}
use Rattle.std.specs.List.{insert}
use Rattle.fort_tables.specs.Tuples.{TupleSymbol, arity}
use Rattle.fort_tables.specs.Entries.{Entry}
use Rattle.fort_tables.specs.Tables.{Table}
use Rattle.fort_tables.specs.Projections.{some_below, some_choice, gives_under}
use Rattle.fort_tables.specs.ManyLabels.{has_many, kid_has_many, some_kid_has_many, gives_many_under}
use Rattle.fort_tables.specs.ManyEntries.{kid_labels, AreManyChoices, finds, may_be, gives_state, gives_endless, has_endless}
use Rattle.fort_tables.proofs.ManyEntryLaws.{length-kid_labels}

-- the first child of a choice
pub choice_turn : (m : ℕ) (may : ℕ → ℕ → Bool) (j n : ℕ) (p : List ℕ → Bool) → n ≢ 0 → some_choice m may j n p ≡ some_below m (λ k. may j k && some_choice m may (suc j) (n - 1) (λ ks. p (k ∷ ks)))
choice_turn m may j zero p h = absurd (h refl)
choice_turn m may j (suc n) p h =
    let e : n ≡ suc n - 1 = omega arith in
    ap (λ r. some_below m (λ k. may j k && some_choice m may (suc j) r (λ ks. p (k ∷ ks)))) e

pub finds_turn : (body : Table) (may : ℕ → ℕ → Bool) (p : List ℕ → Bool) (before : List ℕ) (j rest : ℕ) → rest ≢ 0
    → finds body may p before j rest ≡ some_below (length body.presences) (λ k. may j k && finds body may p (before ++ k ∷ []) (j + 1) (rest - 1))
finds_turn body may p before j rest h =
    let m = length body.presences in
    let e : suc j ≡ j + 1 = omega arith in
    choice_turn m may j rest (λ ks. p (before ++ ks)) h
    ∙ ap (λ (r : ℕ → Bool). some_below m (λ k. may j k && r k))
    (let s : (k : ℕ) → some_choice m may (suc j) (rest - 1) (λ ks. p (before ++ k ∷ ks)) ≡ finds body may p (before ++ k ∷ []) (j + 1) (rest - 1) =
    λ k. ap (some_choice m may (suc j) (rest - 1)) (λ i ks. p (sym (append_assoc before (k ∷ []) ks) i))
    ∙ ap (λ a. some_choice m may a (rest - 1) (λ ks. p ((before ++ k ∷ []) ++ ks))) e in
    λ i k. s k i)

-- a whole choice
pub finds_end : (body : Table) (may : ℕ → ℕ → Bool) (p : List ℕ → Bool) (before : List ℕ) (j rest : ℕ) → rest ≡ 0 → finds body may p before j rest ≡ p before
finds_end body may p before j rest h = ap (λ n. finds body may p before j n) h ∙ ap p (append-nil before)

or_more : (a b new mid old : Bool) → new ≡ (b || mid) → mid ≡ (a || old) → new ≡ ((a || b) || old)
or_more true true new mid old h k = h
or_more true false new mid old h k = h ∙ k
or_more false true new mid old h k = h
or_more false false new mid old h k = h ∙ k

some_below-more : (k : ℕ) (p : ℕ → Bool) → some_below (k + 1) p ≡ (some_below k p || p k)
some_below-more k p = let e : k + 1 ≡ suc k = omega arith in ap (λ n. some_below n p) e

-- one more number of a search, in a loop
pub below_turn : (k : ℕ) (p : ℕ → Bool) (b new mid old : Bool) → p k ≡ b → new ≡ (b || mid) → mid ≡ (some_below k p || old) → new ≡ (some_below (k + 1) p || old)
below_turn k p b new mid old e h g = or_more (some_below k p) (p k) new mid old (h ∙ ap (λ c. c || mid) (sym e)) g ∙ ap (λ c. c || old) (sym (some_below-more k p))

-- the child chosen, as the next call sees it
pub finds_chosen : (body : Table) (may : ℕ → ℕ → Bool) (p : List ℕ → Bool) (chosen : List ℕ) (j rest k : ℕ) → j < length chosen
    → finds body may p (take j chosen ++ k ∷ []) (j + 1) (rest - 1) ≡ finds body may p (take (j + 1) (set chosen j k)) (j + 1) (rest - 1)
finds_chosen body may p chosen j rest k l = ap (λ b. finds body may p b (j + 1) (rest - 1)) (sym (take_more_set chosen j k l))

-- whether infinitely many terms give a child its state: above the column's symbol, by the own child's label, and by the column's term alone
pub has_many-above : (body : Table) (many : ℕ → Bool) (ws : List (List ℕ)) (most j k : ℕ) → most ≤ j → false ≡ (nat_lt j most && kid_has_many body many ws j k)
has_many-above body many ws most j k h = sym (rw (le-ltb j most h) refl)

pub has_many-own : (body : Table) (many : ℕ → Bool) (ws : List (List ℕ)) (most j k : ℕ) → j < most → j < length ws → has_many (length body.presences) (get_or ws j []) k ≡ (nat_lt j most && kid_has_many body many ws j k)
has_many-own body many ws most j k h l = sym (rw (lt-ltb j most h, lt-ltb j (length ws) l) refl)

pub has_many-past : (body : Table) (many : ℕ → Bool) (ws : List (List ℕ)) (most j k : ℕ) → j < most → length ws ≤ j → many k ≡ (nat_lt j most && kid_has_many body many ws j k)
has_many-past body many ws most j k h l = sym (rw (lt-ltb j most h, le-ltb j (length ws) l) refl)

some_below_same : (n : ℕ) (p r : ℕ → Bool) → ((i : ℕ) → i < n → p i ≡ r i) → some_below n p ≡ some_below n r
some_below_same zero p r h = refl
some_below_same (suc n) p r h = let a = some_below_same n p r (λ i l. h i (omega arith)) in let b = h n (omega arith) in λ z. a z || b z

pub endless_start : (body : Table) (many : ℕ → Bool) (ws : List (List ℕ)) (most : ℕ) (chosen : List ℕ) → false ≡ has_endless body many ws most 0 chosen
endless_start body many ws most chosen = let e : 0 ≡ min 0 most = omega arith in ap (λ n. some_below n (λ i. kid_has_many body many ws i (get_or chosen i 0))) e

-- one more child
pub endless_more : (body : Table) (many : ℕ → Bool) (ws : List (List ℕ)) (most j k : ℕ) (chosen : List ℕ) (before here now : Bool) → j < length chosen → before ≡ has_endless body many ws most j chosen
    → here ≡ (nat_lt j most && kid_has_many body many ws j k) → now ≡ (before || here) → now ≡ has_endless body many ws most (j + 1) (set chosen j k)
endless_more body many ws most j k chosen before here now l h d e =
    let p : ℕ → Bool = λ i. kid_has_many body many ws i (get_or chosen i 0) in
    let r : ℕ → Bool = λ i. kid_has_many body many ws i (get_or (set chosen j k) i 0) in
    let old : (i : ℕ) → i < min j most → p i ≡ r i = λ i m. let ne : i ≢ j = omega arith in ap (kid_has_many body many ws i) (sym (get_or-set_other chosen j i k 0 ne)) in
    let same = some_below_same (min j most) p r old in
    ⊎_elim
    (λ (m : j < most).
    let n : min (j + 1) most ≡ suc (min j most) = omega arith in
    let at : min j most ≡ j = omega arith in
    let last : r (min j most) ≡ kid_has_many body many ws j k = ap r at ∙ ap (kid_has_many body many ws j) (get_or-set_same chosen j k 0 l) in
    let now_here : here ≡ r (min j most) = d ∙ (ap (λ b. b && kid_has_many body many ws j k) (lt-ltb j most m) ∙ sym last) in
    e ∙ ((λ z. (h ∙ same) z || now_here z) ∙ sym (ap (λ x. some_below x r) n)))
    (λ (m : most ≤ j).
    let n : min (j + 1) most ≡ min j most = omega arith in
    let none : here ≡ false = d ∙ ap (λ b. b && kid_has_many body many ws j k) (le-ltb j most m) in
    e ∙ ((λ z. (h ∙ same) z || none z) ∙ (or_false (some_below (min j most) r) ∙ sym (ap (λ x. some_below x r) n))))
    (cases_lt j most)
  where
    or_false : (b : Bool) → (b || false) ≡ b
    or_false true = refl
    or_false false = refl

-- of a whole choice
pub endless_all : (body : Table) (many : ℕ → Bool) (ws : List (List ℕ)) (most j : ℕ) (chosen : List ℕ) (now : Bool) → most ≤ j → j ≤ length chosen → now ≡ has_endless body many ws most j chosen → now ≡ some_kid_has_many body many ws most (take j chosen)
endless_all body many ws most j chosen now l m h =
    let n : min j most ≡ most = omega arith in
    let w = length-take-le j chosen m in
    h ∙ (ap (λ x. some_below x (λ i. kid_has_many body many ws i (get_or chosen i 0))) n
    ∙ some_below_same most _ _ (λ i a. ap (kid_has_many body many ws i) (sym (get_or-take j chosen i 0 (omega (arith, w))))))

-- what the search finds from the first child on is what the symbol gives
module _ (body : Table) (c : ℕ) (many : ℕ → Bool) (labels : List (List ℕ)) (e : Entry) (g : ℕ) (f : TupleSymbol) (most count : ℕ) (h : AreManyChoices body c many labels e g f most) (k : count ≡ max most (length e.kids)) where
  abbrev count_is : count ≡ max (arity body.signature g) (length (kid_labels labels e))
  count_is = omega (arith, k, h.arity_is, length-kid_labels labels e)

  pub under_state : (q : ℕ) → finds body (may_be body c labels e most) (gives_state body f q) [] 0 count ≡ gives_under body c e.symbol (kid_labels labels e) q g
  under_state q =
      ap (λ z. finds body (may_be body c labels e most) (gives_state body z q) [] 0 count) h.symbol
      ∙ (ap (λ a. finds body (may_be body c labels e a) (gives_state body (insert e.symbol c (Some g)) q) [] 0 count) h.arity_is
      ∙ ap (λ n. finds body (may_be body c labels e (arity body.signature g)) (gives_state body (insert e.symbol c (Some g)) q) [] 0 n) count_is)

  pub under_endless : (q : ℕ) → finds body (may_be body c labels e most) (gives_endless body many labels e f most q) [] 0 count ≡ gives_many_under body c many e.symbol (kid_labels labels e) q g
  under_endless q =
      ap (λ z. finds body (may_be body c labels e most) (gives_endless body many labels e z most q) [] 0 count) h.symbol
      ∙ (ap (λ a. finds body (may_be body c labels e a) (gives_endless body many labels e (insert e.symbol c (Some g)) a q) [] 0 count) h.arity_is
      ∙ ap (λ n. finds body (may_be body c labels e (arity body.signature g)) (gives_endless body many labels e (insert e.symbol c (Some g)) (arity body.signature g) q) [] 0 n) count_is)
