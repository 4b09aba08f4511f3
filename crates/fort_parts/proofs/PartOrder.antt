-- The operands of a part are earlier parts; and what holds of a formula holds of each part.
use Rattle.std.specs.Prelude.{◌≡◌, ◌⊎◌, ℕ, zero, suc, ◌+◌, ◌<◌, ◌≤◌, List, [], ◌∷◌, ◌++◌, length, get_or, Contains, refl}
use Rattle.std.proofs.Common.{ap, sym, ◌∙◌, subst, arith, inl, inr, ⊎_elim, append-nil}
use Rattle.std.proofs.lemmas.Bool.{cases_eq, cases_lt}
use Rattle.std.proofs.lemmas.List.{get_or_default}
use Rattle.std.proofs.lemmas.List.Elements.{Contains-append_left, Contains-append_right, Contains-push, Contains-get_or}
use Rattle.fort_theory.proofs.Members.{Contains-head}
use Rattle.fort_theory.specs.Cores.{Core, True, Leaf, Not, Binary, Exists, Infinite}
use Rattle.fort_theory.specs.EachOnce.{StandsBefore}
use Rattle.fort_theory.specs.PartLists.{AreParts}
use Rattle.fort_theory.specs.Parts.{postorder}
use Rattle.fort_parts.specs.DecidedCores.{IsOperandOf}

-- a formula is no operand of its own
abbrev size : Core → ℕ
size True = 0
size (Leaf a) = 0
size (Not f) = suc (size f)
size (Binary op f g) = suc (size f + size g)
size (Exists n f) = suc (size f)
size (Infinite n f) = suc (size f)

smaller : (g h : Core) → IsOperandOf g h → size g < size h
smaller g True o = absurd o
smaller g (Leaf a) o = absurd o
smaller g (Not f) o = let e = ap size o in omega arith
smaller g (Binary op f h) o = ⊎_elim (λ s. let e = ap size s in omega arith) (λ s. let e = ap size s in omega arith) o
smaller g (Exists n f) o = let e = ap size o in omega arith
smaller g (Infinite n f) o = let e = ap size o in omega arith

-- where a list of two pieces is cut at a value, the cut is in the first piece or in the second
record CutFirst (xs front : List Core) (h : Core) : Type 0 where
  rest : List Core
  split : xs ≡ front ++ h ∷ rest

record CutSecond (xs ys front back : List Core) (h : Core) : Type 0 where
  start : List Core
  front_is : front ≡ xs ++ start
  split : ys ≡ start ++ h ∷ back

cut : (xs ys front back : List Core) (h : Core) → xs ++ ys ≡ front ++ h ∷ back → CutFirst xs front h ⊎ CutSecond xs ys front back h
cut [] ys front back h e = inr (record { start = front; front_is = refl; split = e })
cut (x ∷ xs) ys [] back h e = let head : x ≡ h = cc in inl (record { rest = xs; split = ap (λ z. z ∷ xs) head })
cut (x ∷ xs) ys (z ∷ front) back h e =
    let head : x ≡ z = cc in
    let tail : xs ++ ys ≡ front ++ h ∷ back = cc in
    ⊎_elim
    (λ c. inl (record { rest = c.rest; split = (λ i. head i ∷ c.split i) }))
    (λ c. inr (record { start = c.start; front_is = (λ i. sym head i ∷ c.front_is i); split = c.split }))
    (cut xs ys front back h tail)

only_cut : (z h : Core) (front back : List Core) → z ∷ [] ≡ front ++ h ∷ back → (front ≡ []) × (z ≡ h)
only_cut z h [] back e = let head : z ≡ h = cc in (refl, head)
only_cut z h (y ∷ []) back e = absurd cc
only_cut z h (y ∷ x ∷ front) back e = absurd cc

-- the root is in its postorder
pub Contains-postorder : (f : Core) → Contains (postorder f) f
Contains-postorder True = Contains-head True []
Contains-postorder (Leaf a) = Contains-head (Leaf a) []
Contains-postorder (Not h) = Contains-push (postorder h) (Not h)
Contains-postorder (Binary op h k) = Contains-append_right (postorder h) (postorder k ++ Binary op h k ∷ []) (Binary op h k) (Contains-push (postorder k) (Binary op h k))
Contains-postorder (Exists n h) = Contains-push (postorder h) (Exists n h)
Contains-postorder (Infinite n h) = Contains-push (postorder h) (Infinite n h)

-- in a piece of the postorder, each formula has its operands before it
abbrev IsClosed : List Core → Type 0
IsClosed xs = (front back : List Core) (g h : Core) → IsOperandOf g h → xs ≡ front ++ h ∷ back → Contains front g

closed-leaf : (z : Core) → ((g : Core) → IsOperandOf g z → ⊥) → IsClosed (z ∷ [])
closed-leaf z none front back g h o e = let c = only_cut z h front back e in absurd (none g (subst (IsOperandOf g) (sym c.1) o))

closed-one : (z f : Core) → ((g : Core) → IsOperandOf g z → g ≡ f) → IsClosed (postorder f) → IsClosed (postorder f ++ z ∷ [])
closed-one z f only closed front back g h o e =
    ⊎_elim
    (λ c. closed front c.rest g h o c.split)
    (λ c.
    let d = only_cut z h c.start back c.split in
    let at : front ≡ postorder f = c.front_is ∙ (ap (λ s. postorder f ++ s) d.0 ∙ append-nil (postorder f)) in
    let is : g ≡ f = only g (subst (IsOperandOf g) (sym d.1) o) in
    subst (λ xs. Contains xs g) (sym at) (subst (Contains (postorder f)) (sym is) (Contains-postorder f)))
    (cut (postorder f) (z ∷ []) front back h e)

closed-two : (z f k : Core) → ((g : Core) → IsOperandOf g z → (g ≡ f) ⊎ (g ≡ k)) → IsClosed (postorder f) → IsClosed (postorder k)
    → IsClosed (postorder f ++ (postorder k ++ z ∷ []))
closed-two z f k either first second front back g h o e =
    ⊎_elim
    (λ c. first front c.rest g h o c.split)
    (λ c.
    ⊎_elim
    (λ d. subst (λ xs. Contains xs g) (sym c.front_is) (Contains-append_right (postorder f) c.start g (second c.start d.rest g h o d.split)))
    (λ d.
    let w = only_cut z h d.start back d.split in
    let at : front ≡ postorder f ++ postorder k =
    c.front_is ∙ ap (λ s. postorder f ++ s) (d.front_is ∙ (ap (λ s. postorder k ++ s) w.0 ∙ append-nil (postorder k))) in
    subst (λ xs. Contains xs g) (sym at)
    (⊎_elim
    (λ is. Contains-append_left (postorder f) (postorder k) g (subst (Contains (postorder f)) (sym is) (Contains-postorder f)))
    (λ is. Contains-append_right (postorder f) (postorder k) g (subst (Contains (postorder k)) (sym is) (Contains-postorder k)))
    (either g (subst (IsOperandOf g) (sym w.1) o))))
    (cut (postorder k) (z ∷ []) c.start back h c.split))
    (cut (postorder f) (postorder k ++ z ∷ []) front back h e)

closed : (f : Core) → IsClosed (postorder f)
closed True = closed-leaf True (λ g o. o)
closed (Leaf a) = closed-leaf (Leaf a) (λ g o. o)
closed (Not f) = closed-one (Not f) f (λ g o. o) (closed f)
closed (Binary op f g) = closed-two (Binary op f g) f g (λ h o. o) (closed f) (closed g)
closed (Exists n f) = closed-one (Exists n f) f (λ g o. o) (closed f)
closed (Infinite n f) = closed-one (Infinite n f) f (λ g o. o) (closed f)

cut_at : (xs : List Core) (k : ℕ) (d h : Core) → k < length xs → get_or xs k d ≡ h → (front : List Core) × (back : List Core) × (xs ≡ front ++ h ∷ back) × (length front ≡ k)
cut_at [] k d h l e = absurd (omega arith)
cut_at (x ∷ xs) zero d h l e = ([], xs, ap (λ z. z ∷ xs) e, refl)
cut_at (x ∷ xs) (suc k) d h l e =
    let w = cut_at xs k d h (omega arith) e in (x ∷ w.0, w.1, ap (λ ys. x ∷ ys) w.2, ap suc w.3)

stands_before : (xs : List Core) (j k : ℕ) (d x y : Core) → j < k → k < length xs → get_or xs j d ≡ x → get_or xs k d ≡ y → StandsBefore xs x y
stands_before [] j k d x y l m p q = absurd (omega arith)
stands_before (z ∷ xs) zero zero d x y l m p q = absurd (omega arith)
stands_before (z ∷ xs) zero (suc k) d x y l m p q =
    record { front = []; back = xs; split = ap (λ w. w ∷ xs) p; behind = subst (Contains xs) q (Contains-get_or xs k d (omega arith)) }
stands_before (z ∷ xs) (suc j) zero d x y l m p q = absurd (omega arith)
stands_before (z ∷ xs) (suc j) (suc k) d x y l m p q =
    let w = stands_before xs j k d x y (omega arith) (omega arith) p q in
    record { front = z ∷ w.front; back = w.back; split = ap (λ ys. z ∷ ys) w.split; behind = w.behind }

pub record IsEarlier (parts : List Core) (k : ℕ) (g : Core) : Type 0 where
  pub place : ℕ
  pub before : place < k
  pub is : get_or parts place True ≡ g

-- Result: each operand of part k is an earlier part
pub operand_earlier : (f : Core) (parts : List Core) → AreParts f parts → (k : ℕ) → k < length parts → (g : Core) → IsOperandOf g (get_or parts k True)
    → IsEarlier parts k g
operand_earlier f parts are k l g o =
    let h = get_or parts k True in
    let among = (are.same h).1 (Contains-get_or parts k True l) in
    let at = cut_at (postorder f) among.0 True h among.1 (get_or_default (postorder f) among.0 True h among.1 ∙ among.2) in
    let inside : Contains (postorder f) g = subst (λ xs. Contains xs g) (sym at.2) (Contains-append_left at.0 (h ∷ at.1) g (closed f at.0 at.1 g h o at.2)) in
    let there = (are.same g).0 inside in
    let same : get_or parts there.0 True ≡ g = get_or_default parts there.0 True g there.1 ∙ there.2 in
    ⊎_elim
    (λ (m : there.0 < k). record { place = there.0; before = m; is = same })
    (λ (m : k ≤ there.0).
    ⊎_elim
    (λ (e : k ≡ there.0). let s = smaller g h o in let t = ap size (sym same ∙ ap (λ i. get_or parts i True) (sym e)) in absurd (omega arith))
    (λ (other : k ≡ there.0 → ⊥).
    let before = stands_before parts k there.0 True h g (omega arith) there.1 refl same in
    let all = are.ordered h g before in
    absurd (all.none (closed f all.front all.back g h o all.split)))
    (cases_eq k there.0))
    (cases_lt there.0 k)
