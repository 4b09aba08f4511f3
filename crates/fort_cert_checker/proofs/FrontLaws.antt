-- Steps in front of one that is due: which of them there are, that each is due once, and the first of a certificate that is about a due.
use Rattle.std.specs.Prelude.{◌≡◌, ℕ, suc, ◌<◌, ◌≤◌, List, [], ◌∷◌, ◌++◌, length, get_or, Contains, refl}
use Rattle.std.proofs.Common.{sym, ap, ◌∙◌, subst, arith, ⊎_elim, append_assoc, length-append}
use Rattle.std.proofs.lemmas.Bool.{cases_lt}
use Rattle.std.proofs.lemmas.List.{get_or_append_left}
use Rattle.std.proofs.lemmas.List.Elements.{Contains-push, Contains-push_cases}
use Rattle.fort_theory.proofs.Members.{Contains-cons_cases, Contains-none, Contains-head, Contains-behind}
use Rattle.fort_tables.specs.Counts.{Count}
use Rattle.fort_alike.specs.ListedClosures.{Which}
use Rattle.fort_certificate_theory.specs.Certificates.{Step, Closure, Part, Merge, Counts, Value}
use Rattle.fort_certificate_theory.specs.Dues.{DueStep, OfClosure, OfPart, OfMerge, OfCounts, OfValue, due_of}
use Rattle.fort_certificate_theory.specs.Made.{MadeSoFar}
use Rattle.fort_certificate_theory.specs.Checked.{AreSteps, NoSteps, MoreSteps}
use Rattle.fort_cert_checker.specs.Abouts.{IsFirstAbout, IsOnlyAbout, targets_in, classes_in, marks_in, items_in, value_in}
use Rattle.fort_cert_checker.proofs.DueKeys.{key, GoesUp, low_member, key_before}

-- the step of a due
pub step_of : (IsStep : MadeSoFar → Step → MadeSoFar → Type 0) (made last : MadeSoFar) (ds : List DueStep) (ss : List Step) (d : DueStep) → AreSteps IsStep made ds ss last → Contains ds d
    → (s : Step) × Contains ss s × (due_of s ≡ d)
step_of IsStep made last ds ss d NoSteps c = absurd (Contains-none d c)
step_of IsStep made last ds ss d (MoreSteps {next = next} {s = s} {d = e} {ds = es} {ss = ts} same h more) c =
    ⊎_elim
    (λ here. (s, Contains-head s ts, same ∙ here))
    (λ later. let w = step_of IsStep next last es ts d more later in (w.0, Contains-behind s ts w.0 w.1, w.2))
    (Contains-cons_cases e es d c)

pub due_in : (IsStep : MadeSoFar → Step → MadeSoFar → Type 0) (made last : MadeSoFar) (ds : List DueStep) (ss : List Step) (s : Step) → AreSteps IsStep made ds ss last → Contains ss s → Contains ds (due_of s)
due_in IsStep made last ds ss s NoSteps c = absurd (Contains-none s c)
due_in IsStep made last ds ss s (MoreSteps {next = next} {s = t} {d = e} {ds = es} {ss = ts} same h more) c =
    ⊎_elim
    (λ here. subst (λ (d : DueStep). Contains (e ∷ es) d) (sym same ∙ ap due_of here) (Contains-head e es))
    (λ later. Contains-behind e es (due_of s) (due_in IsStep next last es ts s more later))
    (Contains-cons_cases t ts s c)

-- one step for each due
pub step_one : (IsStep : MadeSoFar → Step → MadeSoFar → Type 0) (n lo hi : ℕ) (made last : MadeSoFar) (ds : List DueStep) (ss : List Step) (s t : Step) → GoesUp n lo hi ds → AreSteps IsStep made ds ss last
    → Contains ss s → Contains ss t → due_of s ≡ due_of t → s ≡ t
step_one IsStep n lo hi made last ds ss s t up NoSteps a b e = absurd (Contains-none s a)
step_one IsStep n lo hi made last ds ss s t up (MoreSteps {next = next} {s = x} {d = d} {ds = es} {ss = ts} same h more) a b e =
    ⊎_elim
    (λ here. ⊎_elim
    (λ there. sym here ∙ there)
    (λ later. absurd (apart t (ap (key n) (sym same ∙ (ap due_of here ∙ e))) later))
    (Contains-cons_cases x ts t b))
    (λ later. ⊎_elim
    (λ there. absurd (apart s (ap (key n) (sym same ∙ (ap due_of there ∙ sym e))) later))
    (λ after. step_one IsStep n (suc (key n d)) hi next last es ts s t up.1 more later after e)
    (Contains-cons_cases x ts t b))
    (Contains-cons_cases x ts s a)
  where
    apart : (z : Step) → key n d ≡ key n (due_of z) → Contains ts z → ⊥
    apart z k c = let l = low_member n (suc (key n d)) hi es (due_of z) up.1 (due_in IsStep next last es ts z more c) in omega (arith, l, k)

-- ---- the first step about a due

at_front : (front rest : List Step) (i : ℕ) (s : Step) → i < length front → get_or (front ++ rest) i s ≡ get_or front i s
at_front front rest i s l = get_or_append_left front rest s i l

-- so the first about it is this one
pub only_first : (ss : List Step) (s r : Step) → IsOnlyAbout ss s → IsFirstAbout ss (due_of s) r → r ≡ s
only_first ss s r o f =
    let k = o.among in
    let here : get_or ss k.0 s ≡ s = ap (λ (xs : List Step). get_or xs k.0 s) o.split ∙ (at_front o.front o.rest k.0 s k.1 ∙ k.2) in
    ⊎_elim
    (λ (l : k.0 < f.place). absurd (f.before k.0 s l (ap due_of here)))
    (λ l.
    let low : f.place < length o.front = omega (arith, l, k.1) in
    let is : get_or o.front f.place r ≡ r = sym (at_front o.front o.rest f.place r low) ∙ (ap (λ (xs : List Step). get_or xs f.place r) (sym o.split) ∙ f.is r) in
    o.only r (f.place, low, is) f.about)
    (cases_lt k.0 f.place)

-- and there is one
pub only_some : (ss : List Step) (s : Step) → IsOnlyAbout ss s → ((i : ℕ) (e : Step) → i < length ss → due_of (get_or ss i e) ≡ due_of s → ⊥) → ⊥
only_some ss s o none =
    let k = o.among in
    let here : get_or ss k.0 s ≡ s = ap (λ (xs : List Step). get_or xs k.0 s) o.split ∙ (at_front o.front o.rest k.0 s k.1 ∙ k.2) in
    let size : length ss ≡ length (o.front ++ o.rest) = ap length o.split in
    none k.0 s (omega (arith, size, length-append o.front o.rest, k.1)) (ap due_of here)

-- a step in front is the only one about its due
pub only_in_front : (IsStep : MadeSoFar → Step → MadeSoFar → Type 0) (n lo hi : ℕ) (made last : MadeSoFar) (ds : List DueStep) (ss front rest : List Step) (s : Step) → GoesUp n lo hi ds
    → AreSteps IsStep made ds front last → ss ≡ front ++ rest → Contains front s → IsOnlyAbout ss s
only_in_front IsStep n lo hi made last ds ss front rest s up h e c = record {
  front = front;
  rest = rest;
  split = e;
  among = c;
  only = λ t k d. step_one IsStep n lo hi made last ds front t s up h k c d;
}

-- and so is the one that is due behind them
pub only_next : (IsStep : MadeSoFar → Step → MadeSoFar → Type 0) (n lo hi : ℕ) (made last : MadeSoFar) (done wanted : List DueStep) (ss front rest : List Step) (d : DueStep) (s : Step)
    → GoesUp n lo hi (done ++ d ∷ wanted) → AreSteps IsStep made done front last → ss ≡ front ++ s ∷ rest → due_of s ≡ d → IsOnlyAbout ss s
only_next IsStep n lo hi made last done wanted ss front rest d s up h e about = record {
  front = front ++ s ∷ [];
  rest = rest;
  split = e ∙ sym (append_assoc front (s ∷ []) rest);
  among = Contains-push front s;
  only = λ t k same. ⊎_elim
      (λ before.
      let low = key_before n lo hi done wanted d (due_of t) up (due_in IsStep made last done front t h before) in
      let key_is : key n (due_of t) ≡ key n d = ap (key n) (same ∙ about) in
      absurd (omega (arith, low, key_is)))
      (λ here. sym here)
      (Contains-push_cases front s t k);
}

-- a step about a part's table, classes, counts or value, or about a closure
pub part_of : (s : Step) (k : ℕ) → due_of s ≡ OfPart k → s ≡ Part k (targets_in s)
part_of (Closure which index items) k e = absurd cc
part_of (Part j targets) k e = let same : j ≡ k = cc in ap (λ i. Part i targets) same
part_of (Merge j classes) k e = absurd cc
part_of (Counts j marks) k e = absurd cc
part_of (Value j value) k e = absurd cc

pub merge_of : (s : Step) (k : ℕ) → due_of s ≡ OfMerge k → s ≡ Merge k (classes_in s)
merge_of (Closure which index items) k e = absurd cc
merge_of (Part j targets) k e = absurd cc
merge_of (Merge j classes) k e = let same : j ≡ k = cc in ap (λ i. Merge i classes) same
merge_of (Counts j marks) k e = absurd cc
merge_of (Value j value) k e = absurd cc

pub counts_of : (s : Step) (k : ℕ) → due_of s ≡ OfCounts k → s ≡ Counts k (marks_in s)
counts_of (Closure which index items) k e = absurd cc
counts_of (Part j targets) k e = absurd cc
counts_of (Merge j classes) k e = absurd cc
counts_of (Counts j marks) k e = let same : j ≡ k = cc in ap (λ i. Counts i marks) same
counts_of (Value j value) k e = absurd cc

pub value_of : (s : Step) (k : ℕ) → due_of s ≡ OfValue k → s ≡ Value k (value_in s)
value_of (Closure which index items) k e = absurd cc
value_of (Part j targets) k e = absurd cc
value_of (Merge j classes) k e = absurd cc
value_of (Counts j marks) k e = absurd cc
value_of (Value j value) k e = let same : j ≡ k = cc in ap (λ i. Value i value) same

pub closure_of : (s : Step) (which : Which) (index : ℕ) → due_of s ≡ OfClosure which index → s ≡ Closure which index (items_in s)
closure_of (Closure v j items) which index e =
    let a : v ≡ which = cc in
    let b : j ≡ index = cc in
    λ i. Closure (a i) (b i) items
closure_of (Part j targets) which index e = absurd cc
closure_of (Merge j classes) which index e = absurd cc
closure_of (Counts j marks) which index e = absurd cc
closure_of (Value j value) which index e = absurd cc

-- two steps, each alone about one due, are one
alone_in : (ss : List Step) (s t : Step) → (a : IsOnlyAbout ss s) → (b : IsOnlyAbout ss t) → length a.front ≤ length b.front → due_of s ≡ due_of t → s ≡ t
alone_in ss s t a b l e =
    let k = a.among in
    let low : k.0 < length b.front = omega (arith, k.1, l) in
    let here : get_or b.front k.0 s ≡ s =
    sym (at_front b.front b.rest k.0 s low) ∙ (ap (λ (xs : List Step). get_or xs k.0 s) (sym b.split ∙ a.split) ∙ (at_front a.front a.rest k.0 s k.1 ∙ k.2)) in
    b.only s (k.0, low, here) e

pub only_same : (ss : List Step) (s t : Step) → IsOnlyAbout ss s → IsOnlyAbout ss t → due_of s ≡ due_of t → s ≡ t
only_same ss s t a b e =
    ⊎_elim
    (λ (l : length a.front < length b.front). alone_in ss s t a b (omega arith) e)
    (λ (l : length b.front ≤ length a.front). sym (alone_in ss t s b a l (sym e)))
    (cases_lt (length a.front) (length b.front))

pub only_targets : (ss : List Step) (k : ℕ) (xs ys : List ℕ) → IsOnlyAbout ss (Part k xs) → IsOnlyAbout ss (Part k ys) → xs ≡ ys
only_targets ss k xs ys a b = ap targets_in (only_same ss (Part k xs) (Part k ys) a b refl)

pub only_marks : (ss : List Step) (k : ℕ) (xs ys : List Count) → IsOnlyAbout ss (Counts k xs) → IsOnlyAbout ss (Counts k ys) → xs ≡ ys
only_marks ss k xs ys a b = ap marks_in (only_same ss (Counts k xs) (Counts k ys) a b refl)
