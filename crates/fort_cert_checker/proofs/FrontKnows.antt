-- What is known at a step that is due behind fine ones: the steps of earlier parts and of closures stand in front, each alone.
use Rattle.std.specs.Prelude.{◌≡◌, ℕ, ◌+◌, ◌*◌, ◌<◌, ◌≤◌, List, [], ◌∷◌, ◌++◌, length, get_or, Contains, Bool, true, false, ◌&&◌, ◌==◌, if◌then◌else◌, refl}
use Rattle.std.specs.List.{list_any}
use Rattle.std.proofs.Common.{sym, ap, ◌∙◌, subst, arith, eq-eqb, true≢false, ⊎_elim}
use Rattle.std.proofs.lemmas.List.Elements.{Contains-append_left, Contains-append_right, Contains-get_or}
use Rattle.fort_theory.specs.Patterns.{PatternSystem}
use Rattle.fort_theory.proofs.Members.{Contains-cons_cases, Contains-none}
use Rattle.fort_theory.specs.Cores as core
use Rattle.fort_theory.specs.Cores.{Core, Rel}
use Rattle.fort_tables.specs.Counts.{Count}
use Rattle.fort_alike.specs.ListedClosures as listed_closures
use Rattle.fort_alike.specs.ListedClosures.{Which, Pair as Item, reads, asks}
use Rattle.fort_certificate_theory.specs.Certificates.{Step, Closure, Part, Merge, Counts, Value}
use Rattle.fort_certificate_theory.specs.Dues.{DueStep, OfClosure, OfPart, OfMerge, OfCounts, OfValue as OfValueOf, due_of, closures_due, has_columns, is_turned, parts_due, is_merged_in, dues_of}
use Rattle.fort_certificate_theory.specs.Made.{MadeSoFar, nothing_made}
use Rattle.fort_certificate_theory.specs.Checked.{IsFine, IsUpTo}
use Rattle.fort_certificate_theory.proofs.FineSteps.{chosen, passed_over}
use Rattle.fort_cert_checker.specs.Abouts.{IsOnlyAbout, targets_in, classes_in, marks_in, items_in, value_in}
use Rattle.fort_cert_checker.proofs.DueKeys.{key, GoesUp, dues_up, up_front, key_before, due_before, answer_due_at, merge_due_at, counts_due_at, closure_due_at}
use Rattle.fort_cert_checker.proofs.FrontLaws.{step_of, due_in, only_in_front, only_next, part_of, merge_of, counts_of, value_of, closure_of}

any_from : {A : Type 0} (p : A → Bool) (xs : List A) (x : A) → Contains xs x → p x ≡ true → list_any p xs ≡ true
any_from p [] x c e = absurd (Contains-none x c)
any_from p (y ∷ xs) x c e = by (λ k. any_from p xs x k e) (p y) refl
  where
    by : (Contains xs x → list_any p xs ≡ true) → (b : Bool) → p y ≡ b → list_any p (y ∷ xs) ≡ true
    by rest true h = rw h refl
    by rest false h = rw h (⊎_elim (λ s. absurd (true≢false (sym e ∙ (ap p (sym s) ∙ h)))) rest (Contains-cons_cases y xs x c))

both_true : (a b : Bool) → a ≡ true → b ≡ true → (a && b) ≡ true
both_true true b e h = h
both_true false b e h = absurd (true≢false (sym e))

module _ (system : PatternSystem) (parts : List Core) (ss : List Step) (front rest : List Step) (s : Step) (d : DueStep) (wanted : List DueStep) (made : MadeSoFar)
    (up : IsUpTo system parts ss front (d ∷ wanted) (s ∷ rest) made) where
  indices : ℕ
  indices = length system.rules

  abbrev top : ℕ
  top = 3 * (length system.rules + length parts) + 3

  abbrev merges : ℕ → Bool
  merges = is_merged_in ss

  all_up : GoesUp (length system.rules) 3 top (up.done ++ d ∷ wanted)
  all_up = subst (GoesUp (length system.rules) 3 top) up.dues_are (dues_up merges (length system.rules) parts)

  done_up : GoesUp (length system.rules) 3 top up.done
  done_up = up_front (length system.rules) 3 top up.done (d ∷ wanted) all_up

  -- each in front comes before
  pub later_key : due_of s ≡ d → (t : Step) → Contains front t → key (length system.rules) (due_of t) < key (length system.rules) (due_of s)
  later_key e t k =
      subst (λ (x : DueStep). key (length system.rules) (due_of t) < key (length system.rules) x) (sym e)
      (key_before (length system.rules) 3 top up.done wanted d (due_of t) all_up (due_in (IsFine system parts) nothing_made made up.done front t up.fine k))

  pub only_front : (t : Step) → Contains front t → IsOnlyAbout ss t
  only_front t k = only_in_front (IsFine system parts) (length system.rules) 3 top nothing_made made up.done ss front (s ∷ rest) t done_up up.fine up.steps_are k

  pub only_due : due_of s ≡ d → IsOnlyAbout ss s
  only_due e = only_next (IsFine system parts) (length system.rules) 3 top nothing_made made up.done wanted ss front rest d s all_up up.fine up.steps_are e

  front_step : (e : DueStep) → Contains (dues_of ss (length system.rules) parts) e → key (length system.rules) e < key (length system.rules) d → (t : Step) × Contains front t × (due_of t ≡ e)
  front_step e k l =
      step_of (IsFine system parts) nothing_made made up.done front e up.fine
      (due_before (length system.rules) 3 top up.done wanted d e all_up (subst (λ (ds : List DueStep). Contains ds e) up.dues_are k) l)

  of_parts : (e : DueStep) → Contains (parts_due merges 0 parts) e → Contains (dues_of ss (length system.rules) parts) e
  of_parts e k = Contains-append_right (closures_due parts (length system.rules) 1) (parts_due merges 0 parts) e k

  -- the targets of a part
  pub table_before : (j : ℕ) → key (length system.rules) (OfPart j) < key (length system.rules) d → j < length parts → has_columns (get_or parts j core.True) ≡ true → is_turned (get_or parts j core.True) ≡ false
      → (targets : List ℕ) × Contains front (Part j targets)
  table_before j l m has plain =
      let z : 0 + j ≡ j = omega arith in
      let h = answer_due_at merges 0 j parts m plain in
      let is : (if has_columns (get_or parts j core.True) then OfPart (0 + j) else OfValueOf (0 + j)) ≡ OfPart j =
      chosen (has_columns (get_or parts j core.True)) (OfPart (0 + j)) (OfValueOf (0 + j)) has ∙ ap OfPart z in
      let w = front_step (OfPart j) (of_parts (OfPart j) (subst (Contains (parts_due merges 0 parts)) is h)) l in
      (targets_in w.0, subst (Contains front) (part_of w.0 j w.2) w.1)

  -- the classes of a part that is merged
  pub merge_before : (j : ℕ) → key (length system.rules) (OfMerge j) < key (length system.rules) d → j < length parts → has_columns (get_or parts j core.True) ≡ true → is_turned (get_or parts j core.True) ≡ false
      → is_merged_in ss j ≡ true → (classes : List ℕ) × Contains front (Merge j classes)
  merge_before j l m has plain is =
      let z : 0 + j ≡ j = omega arith in
      let h : Contains (parts_due merges 0 parts) (OfMerge j) =
      subst (λ (i : ℕ). Contains (parts_due merges 0 parts) (OfMerge i)) z (merge_due_at merges 0 j parts m has plain (ap merges z ∙ is)) in
      let w = front_step (OfMerge j) (of_parts (OfMerge j) h) l in
      (classes_in w.0, subst (Contains front) (merge_of w.0 j w.2) w.1)

  -- what is in front was due
  pub front_due : (t : Step) → Contains front t → Contains (dues_of ss (length system.rules) parts) (due_of t)
  front_due t k =
      subst (λ (ds : List DueStep). Contains ds (due_of t)) (sym up.dues_are)
      (Contains-append_left up.done (d ∷ wanted) (due_of t) (due_in (IsFine system parts) nothing_made made up.done front t up.fine k))

  -- a part isn't merged before its classes are due
  pub none_merged : (k : ℕ) (classes : List ℕ) → d ≡ OfMerge k → Contains front (Merge k classes) → ⊥
  none_merged k classes e m =
      let l = key_before (length system.rules) 3 top up.done wanted d (OfMerge k) all_up (due_in (IsFine system parts) nothing_made made up.done front (Merge k classes) up.fine m) in
      let same : key (length system.rules) d ≡ key (length system.rules) (OfMerge k) = ap (key (length system.rules)) e in
      omega (arith, l, same)

  -- the due step is part k's
  module _ (k : ℕ) (own : 3 * (length system.rules + k) + 3 ≤ key (length system.rules) d) where
    pub table_step : (j : ℕ) → j < k → j < length parts → has_columns (get_or parts j core.True) ≡ true → is_turned (get_or parts j core.True) ≡ false
        → (targets : List ℕ) × Contains front (Part j targets)
    table_step j l m has plain = table_before j (omega (arith, own, l)) m has plain

    pub value_step : (j : ℕ) → j < k → j < length parts → has_columns (get_or parts j core.True) ≡ false → is_turned (get_or parts j core.True) ≡ false
        → (value : Bool) × Contains front (Value j value)
    value_step j l m has plain =
        let z : 0 + j ≡ j = omega arith in
        let h = answer_due_at merges 0 j parts m plain in
        let is : (if has_columns (get_or parts j core.True) then OfPart (0 + j) else OfValueOf (0 + j)) ≡ OfValueOf j =
        passed_over (has_columns (get_or parts j core.True)) (OfPart (0 + j)) (OfValueOf (0 + j)) has ∙ ap OfValueOf z in
        let w = front_step (OfValueOf j) (of_parts (OfValueOf j) (subst (Contains (parts_due merges 0 parts)) is h)) (omega (arith, own, l)) in
        (value_in w.0, subst (Contains front) (value_of w.0 j w.2) w.1)

    pub counts_step : (m : ℕ) (g : Core) → k < length parts → get_or parts k core.True ≡ core.Infinite m g → key (length system.rules) (OfCounts k) < key (length system.rules) d
        → (marks : List Count) × Contains front (Counts k marks)
    counts_step m g l e low =
        let z : 0 + k ≡ k = omega arith in
        let h : Contains (parts_due merges 0 parts) (OfCounts k) = subst (λ (i : ℕ). Contains (parts_due merges 0 parts) (OfCounts i)) z (counts_due_at merges 0 k parts m g l e) in
        let w = front_step (OfCounts k) (of_parts (OfCounts k) h) low in
        (marks_in w.0, subst (Contains front) (counts_of w.0 k w.2) w.1)

    pub closure_step : (w : Which) (rel : Rel) (index x y : ℕ) → k < length parts → get_or parts k core.True ≡ core.Leaf (core.Related rel index x y) → reads w rel ≡ true → 1 ≤ index → index ≤ length system.rules
        → (items : List Item) × Contains front (Closure w index items)
    closure_step w rel index x y l e r low high =
        let among : Contains parts (core.Leaf (core.Related rel index x y)) = subst (Contains parts) e (Contains-get_or parts k core.True l) in
        let asked : list_any (asks w index) parts ≡ true = any_from (asks w index) parts (core.Leaf (core.Related rel index x y)) among (both_true (reads w rel) (index == index) r (eq-eqb index index refl)) in
        let there : Contains (dues_of ss (length system.rules) parts) (OfClosure w index) =
        Contains-append_left (closures_due parts (length system.rules) 1) (parts_due merges 0 parts) (OfClosure w index) (closure_due_at parts w (length system.rules) 1 index low (omega arith) asked) in
        let small : key (length system.rules) (OfClosure w index) < key (length system.rules) d = small_key w in
        let t = front_step (OfClosure w index) there small in
        (items_in t.0, subst (Contains front) (closure_of t.0 w index t.2) t.1)
      where
        small_key : (v : Which) → key (length system.rules) (OfClosure v index) < key (length system.rules) d
        small_key listed_closures.Star = omega (arith, own, high)
        small_key listed_closures.Conv = omega (arith, own, high)
