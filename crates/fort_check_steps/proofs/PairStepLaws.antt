-- What one pair does to those listed, and what the first open pair tells.
use Rattle.std.specs.Prelude.{◌≡◌, ◌⊎◌, ℕ, suc, ◌+◌, ◌*◌, ◌/◌, ◌%◌, ◌<◌, ◌≤◌, List, [], ◌∷◌, ◌++◌, length, take, get_or, Contains, nat_lt, Bool, true, false, not, Decides, ◌&&◌, ◌||◌, ◌==◌, refl}
use Rattle.std.proofs.Common.{sym, ap, subst, ◌∙◌, arith, inl, inr, ⊎_elim, true≢false}
use Rattle.std.proofs.lemmas.Bool.{cases_lt}
use Rattle.std.proofs.lemmas.Bool.Decides.{Decides-at, Decides-eqb, Decides-ltb, Decides-like, Decides-or, not_from_Decides}
use Rattle.std.proofs.lemmas.Nat.{div-mul-add, mod-mul-add}
use Rattle.std.proofs.Math.Nat.{mul-le-mul_right}
use Rattle.std.specs.Int.{bit_at}
use Rattle.std.proofs.lemmas.Nat.Bits.{bit_at-zero}
use Rattle.std.proofs.lemmas.List.{length-map, get_or_past, take_all, take_more, map-append}
use Rattle.std.proofs.lemmas.List.Elements.{Contains-append_left, Contains-push, Contains-push_cases}
use Rattle.fort_theory.proofs.Members.{Contains-none}
use Rattle.fort_tables.specs.BitRows.{has_bit}
use Rattle.fort_alike.proofs.Bits.{Decides-true, Decides-false, Decides-and_then}
use Rattle.fort_alike.specs.ListedClosures as closures
use Rattle.fort_alike.specs.ListedClosures.{Why, Pair as Item}
use Rattle.fort_certificate_theory.specs.Outcomes as outcomes
use Rattle.fort_certificate_theory.specs.Outcomes.{Fine, Fails}
use Rattle.fort_certificate_theory.specs.ClosureSteps.{ClosureRules, numbers_of, IsListed, IsRuleBelow, IsWithin, FollowsAt, IsFounded, number, IsClosureOutcome, IsRight, NotWithin, NotFounded, NotClosed}
use Rattle.fort_check_steps.specs.StepAnswers.{as_reason}
use Rattle.fort_check_steps.specs.declared.pairs.PairRules.{PairRules}
use Rattle.fort_check_steps.specs.declared.failure.Reason.{Reason}
use Rattle.fort_check_steps.specs.declared.failure.Reason.TheVariants as reasons
use Rattle.fort_check_steps.specs.PairTests.{has_pair}
use Rattle.fort_check_steps.specs.PairSteps.{IsPairRules, rule_test, within_test, founded_test, follows_test, IsPairTaken, IsPairRefused, TellsListed, AreTaken, open_test, IsFirstOpen, AreNoneOpen}
use Rattle.fort_check_steps.proofs.PairLaws.{Decides-reason, Decides-follows}

-- pairs of numbers
pair_one : (p q x y n : ℕ) → q < n → y < n → p * n + q ≡ x * n + y → (p ≡ x) × (q ≡ y)
pair_one p q x y n l m e = (
  sym (div-mul-add p n q l) ∙ (ap (λ i. i / n) e ∙ div-mul-add x n y m),
  sym (mod-mul-add p n q l) ∙ (ap (λ i. i % n) e ∙ mod-mul-add x n y m),
)

row_before : (p q x y n : ℕ) → q < n → y < n → p * n + q < x * n + y → (p < x) ⊎ ((p ≡ x) × (q < y))
row_before p q x y n l m h =
    ⊎_elim (λ (a : p < x). inl a)
    (λ a. ⊎_elim
    (λ (b : x < p). absurd (let c : (suc x) * n ≤ p * n = mul-le-mul_right n (omega arith) in omega arith))
    (λ b. let same : p ≡ x = omega arith in inr (same, (let h' : x * n + q < x * n + y = subst (λ (i : ℕ). i * n + q < x * n + y) same h in omega arith)))
    (cases_lt x p))
    (cases_lt p x)

-- words that are all 0 have no bit
pub has_bit-clear : (w : List ℕ) → ((j : ℕ) → j < length w → get_or w j 0 ≡ 0) → (i : ℕ) → has_bit w i ≡ false
has_bit-clear w h i =
    let none : get_or w (i / 64) 0 ≡ 0 = ⊎_elim (λ (l : i / 64 < length w). h (i / 64) l) (λ (l : length w ≤ i / 64). get_or_past w (i / 64) 0 l) (cases_lt (i / 64) (length w)) in
    ap (λ x. bit_at x (i % 64) == 1) none ∙ ap (λ x. x == 1) (bit_at-zero (i % 64))

module _ (c : ClosureRules) (r : PairRules) (rules : IsPairRules c r) (items : List Item) where
  abbrev nl : ℕ
  nl = length c.lefts

  left_count : length r.lefts.items ≡ length c.lefts
  left_count = rules.lefts.count

  right_count : length r.rights.items ≡ length c.rights
  right_count = rules.rights.count

  rule_count : length r.rules.items ≡ length c.pairs
  rule_count = sym (length-map r.rules.items _) ∙ ap length rules.rules.pairs_are

  -- the bits by the count of the left patterns
  tells_by : (words : List ℕ) (listed : List Item) → TellsListed c words listed → (p q : ℕ) → p < length c.rights → q < length c.lefts
      → Decides (has_pair (length r.lefts.items) words p q) (IsListed listed p q)
  tells_by words listed h p q l m = subst (λ (n : ℕ). Decides (has_pair n words p q) (IsListed listed p q)) (sym left_count) (h p q l m)

  Decides-rule_below : (n : ℕ) (why : Why) → Decides (rule_test n why) (IsRuleBelow n why)
  Decides-rule_below n closures.Any = Decides-true tt
  Decides-rule_below n closures.Kids = Decides-true tt
  Decides-rule_below n (closures.Rule k) = Decides-ltb k n

  Decides-within : (e : Item) → Decides (within_test r e) (IsWithin c e)
  Decides-within e = Decides-like (within_test r e)
      (λ h. record {
        right = omega (arith, h.0.0, right_count);
        left = omega (arith, h.0.1, left_count);
        rule = subst (λ (n : ℕ). IsRuleBelow n e.why) rule_count h.1;
      })
      (λ w. ((omega (arith, w.right, right_count), omega (arith, w.left, left_count)), subst (λ (n : ℕ). IsRuleBelow n e.why) (sym rule_count) w.rule))
      (Decides-and_then (nat_lt e.p (length r.rights.items) && nat_lt e.q (length r.lefts.items)) (rule_test (length r.rules.items) e.why)
      (Decides-and_then (nat_lt e.p (length r.rights.items)) (nat_lt e.q (length r.lefts.items)) (Decides-ltb e.p (length r.rights.items)) (λ _. Decides-ltb e.q (length r.lefts.items)))
      (λ _. Decides-rule_below (length r.rules.items) e.why))

  Decides-founded : (n : ℕ) (words : List ℕ) (e : Item) → AreTaken c items n words → IsWithin c e → Decides (founded_test r words e) (IsFounded c (take n items) e)
  Decides-founded n words e h w = Decides-reason c r rules (take n items) (has_pair (length r.lefts.items) words) (tells_by words (take n items) h.tells) e.p e.q w.right w.left e.why

  Decides-open : (words : List ℕ) → AreTaken c items (length items) words → (p q : ℕ) → p < length c.rights → q < length c.lefts → Decides (follows_test r words p q) (FollowsAt c items p q)
  Decides-open words h p q l m =
      Decides-follows c r rules items (has_pair (length r.lefts.items) words)
      (tells_by words items (subst (TellsListed c words) (take_all (length items) items (omega arith)) h.tells)) p q l m

  -- before any pair
  pub AreTaken-none : (words : List ℕ) → ((i : ℕ) → has_bit words i ≡ false) → AreTaken c items 0 words
  AreTaken-none words off = record {
    founded = record { count = omega arith; within = λ i d l. absurd (omega arith); founded = λ i d l. absurd (omega arith) };
    tells = λ p q l m. Decides-at (has_pair (length c.lefts) words p q) false (off (p * length c.lefts + q)) (Decides-false (Contains-none (p, q)));
  }

  numbers_more : (n : ℕ) (d : Item) → n < length items → numbers_of (take (n + 1) items) ≡ numbers_of (take n items) ++ ((get_or items n d).p, (get_or items n d).q) ∷ []
  numbers_more n d l = ap numbers_of (take_more items n d l) ∙ map-append (λ (e : Item). (e.p, e.q)) (take n items) (get_or items n d ∷ [])

  -- one more pair
  pub AreTaken-more : (n : ℕ) (e : Item) (old new : List ℕ) → n < length items → ((d : Item) → get_or items n d ≡ e) → AreTaken c items n old → IsPairTaken r e old new
      → AreTaken c items (n + 1) new
  AreTaken-more n e old new l is h t =
      let w : IsWithin c e = (Decides-within e).0 t.within in
      let f : IsFounded c (take n items) e = (Decides-founded n old e h w).0 t.founded in
      record {
        founded = record {
          count = omega arith;
          within = λ i d b. ⊎_elim (λ m. h.founded.within i d m)
              (λ m. let same : i ≡ n = omega arith in subst (IsWithin c) (sym (ap (λ k. get_or items k d) same ∙ is d)) w)
              (cases_lt i n);
          founded = λ i d b. ⊎_elim (λ m. h.founded.founded i d m)
              (λ m. let same : n ≡ i = omega arith in
              subst (λ (k : ℕ). IsFounded c (take k items) (get_or items k d)) same (subst (IsFounded c (take n items)) (sym (is d)) f))
              (cases_lt i n);
        };
        tells = λ p q a b.
            let old_bit = has_pair (length c.lefts) old p q in
            let here = e.p * length c.lefts + e.q == p * length c.lefts + q in
            let bit : has_pair (length c.lefts) new p q ≡ (here || old_bit) =
            t.listed (p * length c.lefts + q) ∙ ap (λ k. (e.p * k + e.q == p * length c.lefts + q) || old_bit) left_count in
            Decides-at (has_pair (length c.lefts) new p q) (here || old_bit) bit
            (Decides-like (here || old_bit)
            (λ s. subst (λ (xs : List (ℕ × ℕ)). Contains xs (p, q)) (sym (numbers_more n e l ∙ ap (λ (x : Item). numbers_of (take n items) ++ (x.p, x.q) ∷ []) (is e)))
            (⊎_elim
            (λ same. subst (Contains (numbers_of (take n items) ++ (e.p, e.q) ∷ [])) (λ i. ((pair_one e.p e.q p q (length c.lefts) w.left b same).0 i, (pair_one e.p e.q p q (length c.lefts) w.left b same).1 i))
            (Contains-push (numbers_of (take n items)) (e.p, e.q)))
            (λ k. Contains-append_left (numbers_of (take n items)) ((e.p, e.q) ∷ []) (p, q) k) s))
            (λ k. ⊎_elim
            (λ m. inr m)
            (λ same. let pe : e.p ≡ p = ap (λ (z : ℕ × ℕ). z.0) same in
            let qe : e.q ≡ q = ap (λ (z : ℕ × ℕ). z.1) same in
            inl (ap (λ z. z * length c.lefts + e.q) pe ∙ ap (λ z. p * length c.lefts + z) qe))
            (Contains-push_cases (numbers_of (take n items)) (e.p, e.q) (p, q)
            (subst (λ (xs : List (ℕ × ℕ)). Contains xs (p, q)) (numbers_more n e l ∙ ap (λ (x : Item). numbers_of (take n items) ++ (x.p, x.q) ∷ []) (is e)) k)))
            (Decides-or here old_bit (Decides-eqb (e.p * length c.lefts + e.q) (p * length c.lefts + q)) (h.tells p q a b)));
      }

  refused : (n : ℕ) (e : Item) (words : List ℕ) (reason : Reason) → n < length items → ((d : Item) → get_or items n d ≡ e) → AreTaken c items n words
      → IsPairRefused r e words reason → IsClosureOutcome c items (Fails n (as_reason reason))
  refused n e words reasons.Range l is h f =
      NotWithin n e h.founded l (λ w. not_from_Decides (within_test r e) (Decides-within e) f (subst (IsWithin c) (is e) w))
  refused n e words reasons.Unfounded l is h f =
      let w : IsWithin c e = (Decides-within e).0 f.0 in
      NotFounded n e h.founded l (subst (IsWithin c) (sym (is e)) w)
      (λ k. not_from_Decides (founded_test r words e) (Decides-founded n words e h w) f.1 (subst (IsFounded c (take n items)) (is e) k))
  refused n e words reasons.Due l is h f = absurd f
  refused n e words reasons.Open l is h f = absurd f
  refused n e words reasons.Target l is h f = absurd f
  refused n e words reasons.Label l is h f = absurd f
  refused n e words reasons.Short l is h f = absurd f
  refused n e words reasons.Long l is h f = absurd f
  refused n e words reasons.Class l is h f = absurd f
  refused n e words reasons.Split l is h f = absurd f
  refused n e words reasons.Count l is h f = absurd f
  refused n e words reasons.Rank l is h f = absurd f
  refused n e words reasons.Cycle l is h f = absurd f
  refused n e words reasons.Value l is h f = absurd f
  refused n e words reasons.Verdict l is h f = absurd f

  -- Result: a pair that is refused
  pub IsClosureOutcome-refused : (n : ℕ) (e : Item) (words : List ℕ) (reason : Reason) → n < length items → ((d : Item) → get_or items n d ≡ e) → AreTaken c items n words
      → IsPairRefused r e words reason → IsClosureOutcome c items (Fails n (as_reason reason))
  IsClosureOutcome-refused = refused

  listed_or_closed : (a b : Bool) → (not a && b) ≡ false → b ≡ true → a ≡ true
  listed_or_closed true b e h = refl
  listed_or_closed false b e h = absurd (true≢false (sym h ∙ e))

  open_both : (a b : Bool) → (not a && b) ≡ true → (a ≡ false) × (b ≡ true)
  open_both true b e = absurd (true≢false (sym e))
  open_both false b e = (refl, e)

  listed_all : (words : List ℕ) → AreTaken c items (length items) words → TellsListed c words items
  listed_all words h = subst (TellsListed c words) (take_all (length items) items (omega arith)) h.tells

  closed_at : (words : List ℕ) → AreTaken c items (length items) words → (p q : ℕ) → p < length c.rights → q < length c.lefts → open_test r words p q ≡ false
      → FollowsAt c items p q → IsListed items p q
  closed_at words h p q l m e f =
      (tells_by words items (listed_all words h) p q l m).0 (listed_or_closed (has_pair (length r.lefts.items) words p q) (follows_test r words p q) e ((Decides-open words h p q l m).1 f))

  -- Result
  pub IsClosureOutcome-closed : (words : List ℕ) → AreTaken c items (length items) words → AreNoneOpen r words → IsClosureOutcome c items Fine
  IsClosureOutcome-closed words h none =
      IsRight h.founded (λ p q l m f. closed_at words h p q l m (none p q (omega (arith, right_count)) (omega (arith, left_count))) f)

  -- Result
  pub IsClosureOutcome-open : (words : List ℕ) (place : ℕ) → AreTaken c items (length items) words → IsFirstOpen r words place → IsClosureOutcome c items (Fails place outcomes.Open)
  IsClosureOutcome-open words place h o =
      let p = o.p in
      let q = o.q in
      let l : p < length c.rights = omega (arith, o.within, right_count) in
      let m : q < length c.lefts = omega (arith, o.row.within, left_count) in
      let both = open_both (has_pair (length r.lefts.items) words p q) (follows_test r words p q) o.row.is_open in
      let is : number c p q ≡ place = ap (λ k. p * k + q) (sym left_count) ∙ sym o.number in
      subst (λ (n : ℕ). IsClosureOutcome c items (Fails n outcomes.Open)) is
      (NotClosed p q h.founded l m ((Decides-open words h p q l m).0 both.1)
      (not_from_Decides (has_pair (length r.lefts.items) words p q) (tells_by words items (listed_all words h) p q l m) both.0)
      (λ i j a b n f. ⊎_elim
      (λ (x : i < p). closed_at words h i j a b (o.rows i j x (omega (arith, left_count))) f)
      (λ x. closed_at words h i j a b (subst (λ (k : ℕ). open_test r words k j ≡ false) (sym x.0) (o.row.first j x.1)) f)
      (row_before i j p q (length c.lefts) b m n)))
