-- Parts by numbers: a root that is there, a new one, and one formula after another.
use Rattle.std.specs.Prelude.{◌≡◌, ℕ, zero, suc, ◌+◌, ◌<◌, ◌≤◌, ◌||◌, Bool, true, false, if◌then◌else◌, List, [], ◌∷◌, ◌++◌, length, get_or, slice_get, Some, Contains, refl}
use Rattle.std.specs.List.{list_any}
use Rattle.std.proofs.Common.{ap, sym, ◌∙◌, subst, arith, ⊎_elim, append_assoc, append-nil, length-append, true≢false}
use Rattle.std.proofs.lemmas.Bool.{cases_lt, cases_eq}
use Rattle.std.proofs.lemmas.List.{get_or_push, get_or_append_left, get_or_default}
use Rattle.std.proofs.lemmas.List.Elements.{Contains-get_or}
use Rattle.fort_theory.specs.Cores as core
use Rattle.fort_theory.specs.Cores.{Core}
use Rattle.fort_theory.specs.EachOnce.{StandsBefore, AreEachOnce}
use Rattle.fort_theory.specs.Parts.{postorder}
use Rattle.fort_theory.proofs.EachOnceLaws.{AreEachOnce-nil, AreEachOnce-there, AreEachOnce-new}
use Rattle.fort_outline.specs.declared.root.Root.{Root}
use Rattle.fort_outline.specs.declared.root.Root.TheVariants.{True}
use Rattle.fort_outline.specs.contracts.root.RootPartialEq.TheImpl.{eq-value}
use Rattle.fort_outline.specs.Roots.{root_core, cores_of, HasOperandsBelow, AreInOrder}
use Rattle.fort_outline.specs.Numbered.{AreDistinct, AreNumbered, IsNumbered}
use Rattle.fort_outline.proofs.RootKeys.{Decides-root}
use Rattle.fort_outline.proofs.RootLaws.{cores_of-push, length-cores_of, part_kept, part_at, same_root, HasOperandsBelow-more}

stands_before : (xs : List Core) (j k : ℕ) (x y : Core) → j < k → k < length xs → get_or xs j core.True ≡ x → get_or xs k core.True ≡ y → StandsBefore xs x y
stands_before [] j k x y l m p q = absurd (omega arith)
stands_before (z ∷ xs) zero zero x y l m p q = absurd (omega arith)
stands_before (z ∷ xs) zero (suc k) x y l m p q =
    record { front = []; back = xs; split = ap (λ w. w ∷ xs) p; behind = subst (Contains xs) q (Contains-get_or xs k core.True (omega arith)) }
stands_before (z ∷ xs) (suc j) zero x y l m p q = absurd (omega arith)
stands_before (z ∷ xs) (suc j) (suc k) x y l m p q =
    let w = stands_before xs j k x y (omega arith) (omega arith) p q in
    record { front = z ∷ w.front; back = w.back; split = ap (λ ys. z ∷ ys) w.split; behind = w.behind }

-- Result: no formula stands at two places
pub AreDistinct-once : (before parts : List Core) → AreEachOnce before parts → AreDistinct parts
AreDistinct-once before parts once j k l m e =
    ⊎_elim (λ same. same)
    (λ other.
    ⊎_elim
    (λ (low : j < k). absurd (once.distinct (get_or parts k core.True) (stands_before parts j k (get_or parts k core.True) (get_or parts k core.True) low m e refl)))
    (λ (high : k ≤ j). absurd (once.distinct (get_or parts j core.True) (stands_before parts k j (get_or parts j core.True) (get_or parts j core.True) (omega arith) l (sym e) refl)))
    (cases_lt j k))
    (cases_eq j k)

module _ (before : List Core) (rs : List Root) (r : Root) (so_far : AreNumbered before rs) where
  -- the root is there
  pub numbered_there : (n : ℕ) → n < length rs → get_or rs n True ≡ r → IsNumbered (before ++ root_core (cores_of rs) r ∷ []) rs rs (root_core (cores_of rs) r) n
  numbered_there n l e =
      let is : get_or (cores_of rs) n core.True ≡ root_core (cores_of rs) r = part_at rs so_far.in_order n l ∙ ap (root_core (cores_of rs)) e in
      let there = subst (Contains (cores_of rs)) is (Contains-get_or (cores_of rs) n core.True (omega (arith, length-cores_of rs))) in
      record {
        numbered = record { once = AreEachOnce-there before (cores_of rs) (root_core (cores_of rs) r) so_far.once there; in_order = so_far.in_order };
        more = [];
        longer = sym (append-nil rs);
        within = l;
        is = is;
      }

  -- it is a new one
  pub numbered_new : HasOperandsBelow (length rs) r → ((k : ℕ) → k < length rs → get_or rs k True ≡ r → ⊥)
      → IsNumbered (before ++ root_core (cores_of rs) r ∷ []) rs (rs ++ r ∷ []) (root_core (cores_of rs) r) (length rs)
  numbered_new over none =
      let parts = cores_of rs in
      let whole = root_core parts r in
      let long : length parts ≡ length rs = length-cores_of rs in
      let apart = AreDistinct-once before parts so_far.once in
      let fresh : Contains parts whole → ⊥ =
      λ there.
      let l : there.0 < length rs = omega (arith, there.1) in
      let own = so_far.in_order there.0 l in
      let same = part_at rs so_far.in_order there.0 l in
      none there.0 l
      (same_root parts apart (get_or rs there.0 True) r
      (HasOperandsBelow-more there.0 (length parts) (get_or rs there.0 True) (omega arith) own)
      (HasOperandsBelow-more (length rs) (length parts) r (omega arith) over)
      (sym same ∙ (get_or_default parts there.0 core.True whole there.1 ∙ there.2))) in
      record {
        numbered = record {
          once = subst (AreEachOnce (before ++ whole ∷ [])) (sym (cores_of-push rs r)) (AreEachOnce-new before parts whole so_far.once fresh);
          in_order = order over;
        };
        more = r ∷ [];
        longer = refl;
        within = omega (arith, length-append rs (r ∷ []));
        is = ap (λ cs. get_or cs (length rs) core.True) (cores_of-push rs r) ∙ get_or_push parts whole core.True (length rs) long;
      }
    where
      order : HasOperandsBelow (length rs) r → AreInOrder (rs ++ r ∷ [])
      order over k l =
          ⊎_elim
          (λ (low : k < length rs). subst (HasOperandsBelow k) (sym (get_or_append_left rs (r ∷ []) True k low)) (so_far.in_order k low))
          (λ (high : length rs ≤ k).
          let at : length rs ≡ k = omega (arith, length-append rs (r ∷ [])) in
          subst (HasOperandsBelow k) (sym (get_or_push rs r True k at)) (HasOperandsBelow-more (length rs) k r (omega arith) over))
          (cases_lt k (length rs))

-- one formula after another
pub numbered_then : (xs ys : List Core) (old mid new : List Root) (f g : Core) (a b : ℕ) → IsNumbered xs old mid f a → IsNumbered ys mid new g b → IsNumbered ys old new g b
numbered_then xs ys old mid new f g a b one other = record {
  numbered = other.numbered;
  more = one.more ++ other.more;
  longer = other.longer ∙ (ap (λ rs. rs ++ other.more) one.longer ∙ append_assoc old one.more other.more);
  within = other.within;
  is = other.is;
}

-- the first formula stands where it stood
pub first_kept : (xs ys : List Core) (old mid new : List Root) (f g : Core) (a b : ℕ) → IsNumbered xs old mid f a → IsNumbered ys mid new g b
    → get_or (cores_of new) a core.True ≡ f
first_kept xs ys old mid new f g a b one other =
    ap (λ rs. get_or (cores_of rs) a core.True) other.longer ∙ (part_kept mid other.more a one.within ∙ one.is)

-- a set of roots, which puts a root behind the others unless it is among them

same_keys : (r : Root) (ks : List Root) → list_any (eq-value.it r) ks ≡ false → (k : ℕ) → k < length ks → get_or ks k True ≡ r → ⊥
same_keys r [] none k l e = omega arith
same_keys r (s ∷ ks) none zero l e =
    let here : eq-value.it r s ≡ true = (Decides-root r s).1 (sym e) in
    true≢false (sym (ap (λ b. b || list_any (eq-value.it r) ks) here) ∙ none)
same_keys r (s ∷ ks) none (suc k) l e = same_keys r ks (rest (eq-value.it r s) none) k (omega arith) e
  where
    rest : (b : Bool) → (b || list_any (eq-value.it r) ks) ≡ false → list_any (eq-value.it r) ks ≡ false
    rest true h = absurd (true≢false h)
    rest false h = h

stored_at : (ks : List Root) (n : ℕ) (k : Root) → slice_get ks n ≡ Some k → n < length ks → get_or ks n True ≡ k
stored_at [] n k e l = absurd (omega arith)
stored_at (s ∷ ks) zero k e l = cc
stored_at (s ∷ ks) (suc n) k e l = stored_at ks n k e (omega arith)

-- the number that the set gives is the root's
pub numbered_stored : (before : List Core) (rs new : List Root) (r : Root) (n : ℕ) → AreNumbered before rs → HasOperandsBelow (length rs) r
    → new ≡ (if list_any (eq-value.it r) rs then rs else rs ++ r ∷ []) → n < length new
    → ((k : Root) × (slice_get new n ≡ Some k) × (eq-value.it r k ≡ true)) → IsNumbered (before ++ root_core (cores_of rs) r ∷ []) rs new (root_core (cores_of rs) r) n
numbered_stored before rs new r n so_far over is l stored =
    by (list_any (eq-value.it r) rs) refl
  where
    at : get_or new n True ≡ r
    at = stored_at new n stored.0 stored.1 l ∙ sym ((Decides-root r stored.0).0 stored.2)

    by : (b : Bool) → list_any (eq-value.it r) rs ≡ b → IsNumbered (before ++ root_core (cores_of rs) r ∷ []) rs new (root_core (cores_of rs) r) n
    by true e =
        let same : new ≡ rs = is ∙ ap (λ b. if b then rs else rs ++ r ∷ []) e in
        subst (λ keys. IsNumbered (before ++ root_core (cores_of rs) r ∷ []) rs keys (root_core (cores_of rs) r) n) (sym same)
        (numbered_there before rs r so_far n (subst (λ keys. n < length keys) same l) (subst (λ keys. get_or keys n True ≡ r) same at))
    by false e =
        let longer : new ≡ rs ++ r ∷ [] = is ∙ ap (λ b. if b then rs else rs ++ r ∷ []) e in
        let none = same_keys r rs e in
        let within : n < length rs + 1 = omega (arith, ap length longer, length-append rs (r ∷ [])) in
        let last : length rs ≡ n =
        ⊎_elim
        (λ (low : n < length rs). absurd (none n low (sym (get_or_append_left rs (r ∷ []) True n low) ∙ (ap (λ keys. get_or keys n True) (sym longer) ∙ at))))
        (λ (high : length rs ≤ n). let h : length rs ≡ n = omega arith in h)
        (cases_lt n (length rs)) in
        subst (λ keys. IsNumbered (before ++ root_core (cores_of rs) r ∷ []) rs keys (root_core (cores_of rs) r) n) (sym longer)
        (subst (λ m. IsNumbered (before ++ root_core (cores_of rs) r ∷ []) rs (rs ++ r ∷ []) (root_core (cores_of rs) r) m) last
        (numbered_new before rs r so_far over none))

-- a formula behind its operand
pub numbered_one : (before : List Core) (old mid new : List Root) (f h : Core) (root : Root) (a n : ℕ) → IsNumbered (before ++ postorder f) old mid f a
    → ((b : List Core) → AreNumbered b mid → IsNumbered (b ++ root_core (cores_of mid) root ∷ []) mid new (root_core (cores_of mid) root) n)
    → postorder h ≡ postorder f ++ h ∷ [] → (get_or (cores_of mid) a core.True ≡ f → root_core (cores_of mid) root ≡ h) → IsNumbered (before ++ postorder h) old new h n
numbered_one before old mid new f h root a n one last posts shape =
    let own = shape one.is in
    let made = last (before ++ postorder f) one.numbered in
    let whole : (before ++ postorder f) ++ root_core (cores_of mid) root ∷ [] ≡ before ++ postorder h =
    append_assoc before (postorder f) (root_core (cores_of mid) root ∷ [])
    ∙ (ap (λ g. before ++ (postorder f ++ g ∷ [])) own ∙ ap (λ xs. before ++ xs) (sym posts)) in
    let named : IsNumbered ((before ++ postorder f) ++ root_core (cores_of mid) root ∷ []) mid new h n =
    subst (λ g. IsNumbered ((before ++ postorder f) ++ root_core (cores_of mid) root ∷ []) mid new g n) own made in
    numbered_then (before ++ postorder f) (before ++ postorder h) old mid new f h a n one (subst (λ xs. IsNumbered xs mid new h n) whole named)

-- a formula behind its two operands
pub numbered_two : (before : List Core) (old mid late new : List Root) (f g h : Core) (root : Root) (a b n : ℕ) → IsNumbered (before ++ postorder f) old mid f a
    → IsNumbered ((before ++ postorder f) ++ postorder g) mid late g b
    → ((xs : List Core) → AreNumbered xs late → IsNumbered (xs ++ root_core (cores_of late) root ∷ []) late new (root_core (cores_of late) root) n)
    → postorder h ≡ postorder f ++ (postorder g ++ h ∷ [])
    → (get_or (cores_of late) a core.True ≡ f → get_or (cores_of late) b core.True ≡ g → root_core (cores_of late) root ≡ h) → IsNumbered (before ++ postorder h) old new h n
numbered_two before old mid late new f g h root a b n one two last posts shape =
    let early = (before ++ postorder f) ++ postorder g in
    let own = shape (first_kept (before ++ postorder f) early old mid late f g a b one two) two.is in
    let made = last early two.numbered in
    let whole : early ++ root_core (cores_of late) root ∷ [] ≡ before ++ postorder h =
    append_assoc (before ++ postorder f) (postorder g) (root_core (cores_of late) root ∷ [])
    ∙ (append_assoc before (postorder f) (postorder g ++ root_core (cores_of late) root ∷ [])
    ∙ (ap (λ k. before ++ (postorder f ++ (postorder g ++ k ∷ []))) own ∙ ap (λ xs. before ++ xs) (sym posts))) in
    let named : IsNumbered (early ++ root_core (cores_of late) root ∷ []) late new h n =
    subst (λ k. IsNumbered (early ++ root_core (cores_of late) root ∷ []) late new k n) own made in
    let both = numbered_then (before ++ postorder f) early old mid late f g a b one two in
    numbered_then early (before ++ postorder h) old late new g h b n both (subst (λ xs. IsNumbered xs late new h n) whole named)

-- no root yet
pub AreNumbered-none : AreNumbered [] []
AreNumbered-none = record { once = AreEachOnce-nil {A = Core}; in_order = λ k l. absurd (omega arith) }
