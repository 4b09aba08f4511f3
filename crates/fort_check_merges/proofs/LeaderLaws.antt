-- The first states of classes, state by state.
use Rattle.std.proofs.Common.{◌≡◌, ℕ, suc, ◌+◌, ◌<◌, max, List, [], ◌∷◌, ◌++◌, take, length, get_or, refl, ap, sym, ◌∙◌, arith, ⊎_elim, take_all, take-suc}
use Rattle.std.proofs.lemmas.Bool.{cases_lt}
use Rattle.std.proofs.lemmas.List.{length_push, get_or_push, get_or_append_left, get_or-take, length-take}
use Rattle.fort_tables.specs.Entries.{stage}
use Rattle.fort_tables.specs.Tables.{Table}
use Rattle.fort_tables.proofs.OrderLaws.{kid_below}
use Rattle.fort_tables.specs.Merges.{class_of, first_of, count_of, leader}
use Rattle.fort_tables.specs.MergeOutcomes.{IsClassAt}
use Rattle.fort_tables.proofs.NumberedClasses.{stage-push, first_below, class_of-leader, class_within}
use Rattle.fort_check_merges.specs.Leaders.{AreLeadersTo, ArePlaces}

pub leaders_none : (classes : List ℕ) → AreLeadersTo classes 0 []
leaders_none classes = record {
  count = refl;
  few = omega arith;
  are = λ c l. absurd (omega arith);
  below = λ c l. absurd (omega arith);
  late = λ c l. absurd (omega arith);
}

module _ (classes leaders : List ℕ) (q : ℕ) (h : AreLeadersTo classes q leaders) (low : q < length classes) where
  next_count : count_of (take (q + 1) classes) ≡ max (length leaders) (suc (class_of classes q))
  next_count =
      let one : q + 1 ≡ suc q = omega arith in
      ap (λ i. count_of (take i classes)) one ∙ (ap count_of (take-suc classes q 0 low) ∙ (stage-push (take q classes) (class_of classes q) ∙ ap (λ n. max n (suc (class_of classes q))) (sym h.count)))

  -- a state with the next number is the first of its class
  first_itself : class_of classes q ≡ length leaders → leader classes q ≡ q
  first_itself e = ⊎_elim
      (λ b.
      let p = leader classes q in
      let len : length (take q classes) ≡ q = omega (arith, length-take q classes) in
      let same : get_or (take q classes) p 0 ≡ class_of classes q = get_or-take q classes p 0 b ∙ class_of-leader classes q low in
      let less : get_or (take q classes) p 0 < stage (take q classes) = kid_below (take q classes) p (omega (arith, len)) in
      absurd (omega (arith, same, less, h.count)))
      (λ b. omega (arith, first_below classes q low))
      (cases_lt (leader classes q) q)

  pub leaders_begin : class_of classes q ≡ length leaders → AreLeadersTo classes (q + 1) (leaders ++ q ∷ [])
  leaders_begin e =
      let more : length (leaders ++ q ∷ []) ≡ length leaders + 1 = length_push leaders q in
      let old : (c : ℕ) → c < length leaders → get_or (leaders ++ q ∷ []) c 0 ≡ get_or leaders c 0 = λ c b. get_or_append_left leaders (q ∷ []) 0 c b in
      let last : (c : ℕ) → length leaders ≡ c → get_or (leaders ++ q ∷ []) c 0 ≡ q = λ c at. get_or_push leaders q 0 c at in
      record {
        count = omega (arith, more, next_count);
        few = omega (arith, more, h.few);
        are = λ c l. ⊎_elim
            (λ b. old c b ∙ h.are c b)
            (λ b. let at : length leaders ≡ c = omega (arith, more) in last c at ∙ (sym (first_itself e) ∙ ap (first_of classes) (e ∙ at)))
            (cases_lt c (length leaders));
        below = λ c l. ⊎_elim
            (λ b. omega (arith, old c b, h.below c b))
            (λ b. let at : length leaders ≡ c = omega (arith, more) in omega (arith, last c at))
            (cases_lt c (length leaders));
        late = λ c l. ⊎_elim
            (λ b. omega (arith, old c b, h.late c b))
            (λ b. let at : length leaders ≡ c = omega (arith, more) in omega (arith, last c at, h.few))
            (cases_lt c (length leaders));
      }

  pub leaders_stay : class_of classes q < length leaders → AreLeadersTo classes (q + 1) leaders
  leaders_stay few = record {
    count = omega (arith, next_count);
    few = omega (arith, h.few);
    are = h.are;
    below = λ c l. omega (arith, h.below c l);
    late = h.late;
  }

  -- Result: the first state of a class has a right one
  pub class_begins : (table : Table) → class_of classes q ≡ length leaders → IsClassAt table classes q
  class_begins table e =
      let own = sym (first_itself e) in
      record {
        numbered = omega (arith, h.count);
        columns = ap (λ p. get_or table.presences p 0) own;
        acceptance = ap table.accepting own;
      }

-- Result: the first state of each state's class is found by its class
pub leader_at : (classes leaders : List ℕ) → AreLeadersTo classes (length classes) leaders → (q : ℕ) → q < length classes
    → (class_of classes q < length leaders) × (get_or leaders (class_of classes q) 0 ≡ leader classes q)
leader_at classes leaders h q l =
    let low : class_of classes q < length leaders = omega (arith, h.count, ap count_of (take_all (length classes) classes (omega arith)), class_within classes q l) in
    (low, h.are (class_of classes q) low)

-- the place of the leader of each class is no earlier than the class
pub leader_places : (classes leaders : List ℕ) → AreLeadersTo classes (length classes) leaders → ArePlaces leaders (length classes)
leader_places classes leaders h = record { within = h.below; late = h.late }
