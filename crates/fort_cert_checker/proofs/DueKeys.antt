-- The steps that are due go up by a key: each is due once, closures come before parts, and the steps of a part before those of later ones.
use Rattle.std.specs.Prelude.{◌≡◌, ℕ, zero, suc, ◌+◌, ◌*◌, ◌<◌, ◌≤◌, List, [], ◌∷◌, ◌++◌, length, get_or, Contains, Bool, true, false, if◌then◌else◌, refl}
use Rattle.std.specs.List.{list_any}
use Rattle.std.proofs.Common.{sym, ap, ◌∙◌, subst, arith, ⊎_elim}
use Rattle.std.proofs.lemmas.Bool.{cases_lt}
use Rattle.std.proofs.lemmas.List.Elements.{Contains-append_cases, Contains-append_left, Contains-append_right}
use Rattle.fort_theory.proofs.Members.{Contains-cons_cases, Contains-none, Contains-head, Contains-behind}
use Rattle.fort_theory.specs.Cores as core
use Rattle.fort_theory.specs.Cores.{Core}
use Rattle.fort_alike.specs.ListedClosures.{Which, Star, Conv, asks}
use Rattle.fort_certificate_theory.specs.Dues.{DueStep, OfClosure, OfPart, OfMerge, OfCounts, OfValue, closure_due, closures_due, has_columns, is_turned, counts_due, table_due, answer_due, parts_due, dues}

-- over a system of n indices
abbrev pub key : ℕ → DueStep → ℕ
key n (OfClosure Star i) = 3 * i
key n (OfClosure Conv i) = 3 * i + 1
key n (OfCounts k) = 3 * (n + k) + 3
key n (OfPart k) = 3 * (n + k) + 4
key n (OfValue k) = 3 * (n + k) + 4
key n (OfMerge k) = 3 * (n + k) + 5

-- from lo on, strictly, and below hi
abbrev pub GoesUp : ℕ → (lo hi : ℕ) → List DueStep → Type 0
GoesUp n lo hi [] = lo ≤ hi
GoesUp n lo hi (d ∷ ds) = (lo ≤ key n d) × GoesUp n (suc (key n d)) hi ds

up_from : (n lo mid hi : ℕ) (ds : List DueStep) → lo ≤ mid → GoesUp n mid hi ds → GoesUp n lo hi ds
up_from n lo mid hi [] l h = omega arith
up_from n lo mid hi (d ∷ ds) l h = (omega (arith, l, h.0), h.1)

up_append : (n lo mid hi : ℕ) (ds es : List DueStep) → GoesUp n lo mid ds → GoesUp n mid hi es → GoesUp n lo hi (ds ++ es)
up_append n lo mid hi [] es h k = up_from n lo mid hi es h k
up_append n lo mid hi (d ∷ ds) es h k = (h.0, up_append n (suc (key n d)) mid hi ds es h.1 k)

up_one : (n lo hi : ℕ) (d : DueStep) → lo ≤ key n d → key n d < hi → GoesUp n lo hi (d ∷ [])
up_one n lo hi d l h = (l, omega arith)

up_if : (n lo hi : ℕ) (b : Bool) (d : DueStep) → lo ≤ key n d → key n d < hi → GoesUp n lo hi (if b then (d ∷ []) else [])
up_if n lo hi true d l h = up_one n lo hi d l h
up_if n lo hi false d l h = omega arith

closures_up : (n : ℕ) (parts : List Core) (m i hi : ℕ) → 3 * (i + m) ≤ hi → GoesUp n (3 * i) hi (closures_due parts m i)
closures_up n parts zero i hi l = omega arith
closures_up n parts (suc m) i hi l =
    up_append n (3 * i) (3 * i + 1) hi (closure_due parts i Star) (closure_due parts i Conv ++ closures_due parts m (suc i))
    (up_if n (3 * i) (3 * i + 1) (list_any (asks Star i) parts) (OfClosure Star i) (omega arith) (omega arith))
    (up_append n (3 * i + 1) (3 * suc i) hi (closure_due parts i Conv) (closures_due parts m (suc i))
    (up_if n (3 * i + 1) (3 * suc i) (list_any (asks Conv i) parts) (OfClosure Conv i) (omega arith) (omega arith))
    (closures_up n parts m (suc i) hi (omega arith)))

counts_up : (n k : ℕ) (f : Core) → GoesUp n (3 * (n + k) + 3) (3 * (n + k) + 4) (counts_due k f)
counts_up n k core.True = omega arith
counts_up n k (core.Leaf a) = omega arith
counts_up n k (core.Not f) = omega arith
counts_up n k (core.Binary op f g) = omega arith
counts_up n k (core.Exists m f) = omega arith
counts_up n k (core.Infinite m f) = up_one n (3 * (n + k) + 3) (3 * (n + k) + 4) (OfCounts k) (omega arith) (omega arith)

table_up : (merges : ℕ → Bool) (n k : ℕ) → GoesUp n (3 * (n + k) + 4) (3 * (n + suc k) + 3) (table_due merges k)
table_up merges n k = (omega arith, up_if n (suc (3 * (n + k) + 4)) (3 * (n + suc k) + 3) (merges k) (OfMerge k) (omega arith) (omega arith))

answer_up : (merges : ℕ → Bool) (n k : ℕ) (a b : Bool) → GoesUp n (3 * (n + k) + 4) (3 * (n + suc k) + 3) (if a then (if b then [] else table_due merges k) else (OfValue k ∷ []))
answer_up merges n k false b = up_one n (3 * (n + k) + 4) (3 * (n + suc k) + 3) (OfValue k) (omega arith) (omega arith)
answer_up merges n k true true = omega arith
answer_up merges n k true false = table_up merges n k

parts_up : (merges : ℕ → Bool) (n k hi : ℕ) (fs : List Core) → 3 * (n + (k + length fs)) + 3 ≤ hi → GoesUp n (3 * (n + k) + 3) hi (parts_due merges k fs)
parts_up merges n k hi [] l = omega arith
parts_up merges n k hi (f ∷ fs) l =
    up_append n (3 * (n + k) + 3) (3 * (n + k) + 4) hi (counts_due k f) (answer_due merges k f ++ parts_due merges (suc k) fs) (counts_up n k f)
    (up_append n (3 * (n + k) + 4) (3 * (n + suc k) + 3) hi (answer_due merges k f) (parts_due merges (suc k) fs) (answer_up merges n k (has_columns f) (is_turned f))
    (parts_up merges n (suc k) hi fs (omega arith)))

pub dues_up : (merges : ℕ → Bool) (n : ℕ) (parts : List Core) → GoesUp n 3 (3 * (n + length parts) + 3) (dues merges n parts)
dues_up merges n parts =
    let first : GoesUp n (3 * 1) (3 * n + 3) (closures_due parts n 1) = closures_up n parts n 1 (3 * n + 3) (omega arith) in
    let start : 3 * (n + 0) + 3 ≡ 3 * n + 3 = omega arith in
    let second : GoesUp n (3 * (n + 0) + 3) (3 * (n + length parts) + 3) (parts_due merges 0 parts) = parts_up merges n 0 (3 * (n + length parts) + 3) parts (omega arith) in
    up_append n 3 (3 * n + 3) (3 * (n + length parts) + 3) (closures_due parts n 1) (parts_due merges 0 parts) first
    (subst (λ (lo : ℕ). GoesUp n lo (3 * (n + length parts) + 3) (parts_due merges 0 parts)) start second)

-- ---- what the keys tell

pub low_member : (n lo hi : ℕ) (ds : List DueStep) (e : DueStep) → GoesUp n lo hi ds → Contains ds e → lo ≤ key n e
low_member n lo hi [] e h c = absurd (Contains-none e c)
low_member n lo hi (d ∷ ds) e h c =
    ⊎_elim
    (λ same. subst (λ (x : DueStep). lo ≤ key n x) same h.0)
    (λ later. let b = low_member n (suc (key n d)) hi ds e h.1 later in omega (arith, b, h.0))
    (Contains-cons_cases d ds e c)

-- those in front of a due have smaller keys
pub key_before : (n lo hi : ℕ) (done wanted : List DueStep) (d e : DueStep) → GoesUp n lo hi (done ++ d ∷ wanted) → Contains done e → key n e < key n d
key_before n lo hi [] wanted d e h c = absurd (Contains-none e c)
key_before n lo hi (x ∷ done) wanted d e h c =
    ⊎_elim
    (λ same. subst (λ (y : DueStep). key n y < key n d) same
    (let l = low_member n (suc (key n x)) hi (done ++ d ∷ wanted) d h.1 (Contains-append_right done (d ∷ wanted) d (Contains-head d wanted)) in omega (arith, l)))
    (λ later. key_before n (suc (key n x)) hi done wanted d e h.1 later)
    (Contains-cons_cases x done e c)

-- and those behind it greater ones
pub key_behind : (n lo hi : ℕ) (done wanted : List DueStep) (d e : DueStep) → GoesUp n lo hi (done ++ d ∷ wanted) → Contains wanted e → key n d < key n e
key_behind n lo hi [] wanted d e h c = let l = low_member n (suc (key n d)) hi wanted e h.1 c in omega (arith, l)
key_behind n lo hi (x ∷ done) wanted d e h c = key_behind n (suc (key n x)) hi done wanted d e h.1 c

-- a due with a smaller key stands in front
pub due_before : (n lo hi : ℕ) (done wanted : List DueStep) (d e : DueStep) → GoesUp n lo hi (done ++ d ∷ wanted) → Contains (done ++ d ∷ wanted) e → key n e < key n d → Contains done e
due_before n lo hi done wanted d e h c l =
    ⊎_elim
    (λ a. a)
    (λ b. ⊎_elim
    (λ same. absurd (let k : key n d ≡ key n e = ap (key n) same in omega (arith, l, k)))
    (λ later. absurd (let k = key_behind n lo hi done wanted d e h later in omega (arith, l, k)))
    (Contains-cons_cases d wanted e b))
    (Contains-append_cases done (d ∷ wanted) e c)

-- ---- which steps are due

answer_member : (merges : ℕ → Bool) (k : ℕ) (f : Core) → is_turned f ≡ false → Contains (answer_due merges k f) (if has_columns f then OfPart k else OfValue k)
answer_member merges k f t = by (has_columns f) (is_turned f) t
  where
    by : (a b : Bool) → b ≡ false → Contains (if a then (if b then [] else table_due merges k) else (OfValue k ∷ [])) (if a then OfPart k else OfValue k)
    by false b e = Contains-head (OfValue k) []
    by true false e = Contains-head (OfPart k) (if merges k then (OfMerge k ∷ []) else [])
    by true true e = absurd cc

-- the answer of each part but negations with columns
pub answer_due_at : (merges : ℕ → Bool) (j k : ℕ) (fs : List Core) → k < length fs → is_turned (get_or fs k core.True) ≡ false
    → Contains (parts_due merges j fs) (if has_columns (get_or fs k core.True) then OfPart (j + k) else OfValue (j + k))
answer_due_at merges j k [] l t = absurd (omega arith)
answer_due_at merges j zero (f ∷ fs) l t =
    let z : j ≡ j + 0 = omega arith in
    let due : ℕ → DueStep = λ i. if has_columns f then OfPart i else OfValue i in
    Contains-append_right (counts_due j f) (answer_due merges j f ++ parts_due merges (suc j) fs) (due (j + 0))
    (Contains-append_left (answer_due merges j f) (parts_due merges (suc j) fs) (due (j + 0)) (subst (λ (i : ℕ). Contains (answer_due merges j f) (due i)) z (answer_member merges j f t)))
answer_due_at merges j (suc k) (f ∷ fs) l t =
    let z : suc j + k ≡ j + suc k = omega arith in
    let due : ℕ → DueStep = λ i. if has_columns (get_or fs k core.True) then OfPart i else OfValue i in
    Contains-append_right (counts_due j f) (answer_due merges j f ++ parts_due merges (suc j) fs) (due (j + suc k))
    (Contains-append_right (answer_due merges j f) (parts_due merges (suc j) fs) (due (j + suc k))
    (subst (λ (i : ℕ). Contains (parts_due merges (suc j) fs) (due i)) z (answer_due_at merges (suc j) k fs (omega arith) t)))

-- the classes of each part that is merged
merge_member : (merges : ℕ → Bool) (k : ℕ) (f : Core) → has_columns f ≡ true → is_turned f ≡ false → merges k ≡ true → Contains (answer_due merges k f) (OfMerge k)
merge_member merges k f h t m = by (has_columns f) (is_turned f) (merges k) h t m
  where
    by : (a b d : Bool) → a ≡ true → b ≡ false → d ≡ true → Contains (if a then (if b then [] else (OfPart k ∷ (if d then (OfMerge k ∷ []) else []))) else (OfValue k ∷ [])) (OfMerge k)
    by true false true p q r = Contains-behind (OfPart k) (OfMerge k ∷ []) (OfMerge k) (Contains-head (OfMerge k) [])
    by true false false p q r = absurd cc
    by true true d p q r = absurd cc
    by false b d p q r = absurd cc

pub merge_due_at : (merges : ℕ → Bool) (j k : ℕ) (fs : List Core) → k < length fs → has_columns (get_or fs k core.True) ≡ true → is_turned (get_or fs k core.True) ≡ false → merges (j + k) ≡ true
    → Contains (parts_due merges j fs) (OfMerge (j + k))
merge_due_at merges j k [] l h t m = absurd (omega arith)
merge_due_at merges j zero (f ∷ fs) l h t m =
    let z : j ≡ j + 0 = omega arith in
    Contains-append_right (counts_due j f) (answer_due merges j f ++ parts_due merges (suc j) fs) (OfMerge (j + 0))
    (Contains-append_left (answer_due merges j f) (parts_due merges (suc j) fs) (OfMerge (j + 0))
    (subst (λ (i : ℕ). Contains (answer_due merges j f) (OfMerge i)) z (merge_member merges j f h t (ap merges z ∙ m))))
merge_due_at merges j (suc k) (f ∷ fs) l h t m =
    let z : suc j + k ≡ j + suc k = omega arith in
    Contains-append_right (counts_due j f) (answer_due merges j f ++ parts_due merges (suc j) fs) (OfMerge (j + suc k))
    (Contains-append_right (answer_due merges j f) (parts_due merges (suc j) fs) (OfMerge (j + suc k))
    (subst (λ (i : ℕ). Contains (parts_due merges (suc j) fs) (OfMerge i)) z (merge_due_at merges (suc j) k fs (omega arith) h t (ap merges z ∙ m))))

-- the counts of each "infinitely many"
pub counts_due_at : (merges : ℕ → Bool) (j k : ℕ) (fs : List Core) (m : ℕ) (g : Core) → k < length fs → get_or fs k core.True ≡ core.Infinite m g → Contains (parts_due merges j fs) (OfCounts (j + k))
counts_due_at merges j k [] m g l e = absurd (omega arith)
counts_due_at merges j zero (f ∷ fs) m g l e =
    let z : j ≡ j + 0 = omega arith in
    Contains-append_left (counts_due j f) (answer_due merges j f ++ parts_due merges (suc j) fs) (OfCounts (j + 0))
    (subst (λ (x : Core). Contains (counts_due j x) (OfCounts (j + 0))) (sym e) (subst (λ (i : ℕ). Contains (OfCounts j ∷ []) (OfCounts i)) z (Contains-head (OfCounts j) [])))
counts_due_at merges j (suc k) (f ∷ fs) m g l e =
    let z : suc j + k ≡ j + suc k = omega arith in
    Contains-append_right (counts_due j f) (answer_due merges j f ++ parts_due merges (suc j) fs) (OfCounts (j + suc k))
    (Contains-append_right (answer_due merges j f) (parts_due merges (suc j) fs) (OfCounts (j + suc k))
    (subst (λ (i : ℕ). Contains (parts_due merges (suc j) fs) (OfCounts i)) z (counts_due_at merges (suc j) k fs m g (omega arith) e)))

-- what a due tells of the part that it names, from number j on
module _ (merges : ℕ → Bool) where
  abbrev pub IsDueFor : ℕ → List Core → DueStep → Type 0
  IsDueFor j fs (OfClosure which i) = ⊥
  IsDueFor j fs (OfPart k) = (i : ℕ) × (k ≡ j + i) × (i < length fs) × (has_columns (get_or fs i core.True) ≡ true) × (is_turned (get_or fs i core.True) ≡ false)
  IsDueFor j fs (OfMerge k) =
      (i : ℕ) × (k ≡ j + i) × (i < length fs) × (has_columns (get_or fs i core.True) ≡ true) × (is_turned (get_or fs i core.True) ≡ false) × (merges k ≡ true)
  IsDueFor j fs (OfCounts k) = (i : ℕ) × (k ≡ j + i) × (i < length fs) × ((m : ℕ) × (g : Core) × (get_or fs i core.True ≡ core.Infinite m g))
  IsDueFor j fs (OfValue k) = (i : ℕ) × (k ≡ j + i) × (i < length fs) × (has_columns (get_or fs i core.True) ≡ false)

  for_later : (j : ℕ) (f : Core) (fs : List Core) (d : DueStep) → IsDueFor (suc j) fs d → IsDueFor j (f ∷ fs) d
  for_later j f fs (OfClosure which i) h = h
  for_later j f fs (OfPart k) h = (suc h.0, omega (arith, h.1), omega (arith, h.2), h.3, h.4)
  for_later j f fs (OfMerge k) h = (suc h.0, omega (arith, h.1), omega (arith, h.2), h.3, h.4, h.5)
  for_later j f fs (OfCounts k) h = (suc h.0, omega (arith, h.1), omega (arith, h.2), h.3)
  for_later j f fs (OfValue k) h = (suc h.0, omega (arith, h.1), omega (arith, h.2), h.3)

  counts_for : (j : ℕ) (f : Core) (fs : List Core) (d : DueStep) → Contains (counts_due j f) d → IsDueFor j (f ∷ fs) d
  counts_for j core.True fs d c = absurd (Contains-none d c)
  counts_for j (core.Leaf a) fs d c = absurd (Contains-none d c)
  counts_for j (core.Not f) fs d c = absurd (Contains-none d c)
  counts_for j (core.Binary op f g) fs d c = absurd (Contains-none d c)
  counts_for j (core.Exists m f) fs d c = absurd (Contains-none d c)
  counts_for j (core.Infinite m f) fs d c =
      ⊎_elim
      (λ same. subst (IsDueFor j (core.Infinite m f ∷ fs)) same (0, omega arith, omega arith, (m, f, refl)))
      (λ k. absurd (Contains-none d k))
      (Contains-cons_cases (OfCounts j) [] d c)

  merge_for : (j : ℕ) (f : Core) (fs : List Core) (d : DueStep) → has_columns f ≡ true → is_turned f ≡ false → Contains (if merges j then (OfMerge j ∷ []) else []) d → IsDueFor j (f ∷ fs) d
  merge_for j f fs d e t c = by (merges j) refl c
    where
      by : (b : Bool) → merges j ≡ b → Contains (if b then (OfMerge j ∷ []) else []) d → IsDueFor j (f ∷ fs) d
      by true m k =
          ⊎_elim (λ same. subst (IsDueFor j (f ∷ fs)) same (0, omega arith, omega arith, e, t, m)) (λ n. absurd (Contains-none d n)) (Contains-cons_cases (OfMerge j) [] d k)
      by false m k = absurd (Contains-none d k)

  answer_for : (j : ℕ) (f : Core) (fs : List Core) (d : DueStep) → Contains (answer_due merges j f) d → IsDueFor j (f ∷ fs) d
  answer_for j f fs d c = by (has_columns f) (is_turned f) refl refl c
    where
      by : (a b : Bool) → has_columns f ≡ a → is_turned f ≡ b → Contains (if a then (if b then [] else table_due merges j) else (OfValue j ∷ [])) d → IsDueFor j (f ∷ fs) d
      by false b e t k =
          ⊎_elim (λ same. subst (IsDueFor j (f ∷ fs)) same (0, omega arith, omega arith, e)) (λ m. absurd (Contains-none d m)) (Contains-cons_cases (OfValue j) [] d k)
      by true true e t k = absurd (Contains-none d k)
      by true false e t k =
          ⊎_elim
          (λ same. subst (IsDueFor j (f ∷ fs)) same (0, omega arith, omega arith, e, t))
          (λ m. merge_for j f fs d e t m)
          (Contains-cons_cases (OfPart j) (if merges j then (OfMerge j ∷ []) else []) d k)

  pub parts_for : (j : ℕ) (fs : List Core) (d : DueStep) → Contains (parts_due merges j fs) d → IsDueFor j fs d
  parts_for j [] d c = absurd (Contains-none d c)
  parts_for j (f ∷ fs) d c =
      ⊎_elim
      (λ a. counts_for j f fs d a)
      (λ b. ⊎_elim
      (λ a. answer_for j f fs d a)
      (λ later. for_later j f fs d (parts_for (suc j) fs d later))
      (Contains-append_cases (answer_due merges j f) (parts_due merges (suc j) fs) d b))
      (Contains-append_cases (counts_due j f) (answer_due merges j f ++ parts_due merges (suc j) fs) d c)

pub up_bound : (n lo hi : ℕ) (ds : List DueStep) → GoesUp n lo hi ds → lo ≤ hi
up_bound n lo hi [] h = h
up_bound n lo hi (d ∷ ds) h = let l = up_bound n (suc (key n d)) hi ds h.1 in omega (arith, l, h.0)

pub up_front : (n lo hi : ℕ) (ds es : List DueStep) → GoesUp n lo hi (ds ++ es) → GoesUp n lo hi ds
up_front n lo hi [] es h = up_bound n lo hi es h
up_front n lo hi (d ∷ ds) es h = (h.0, up_front n (suc (key n d)) hi ds es h.1)

-- ---- the closures that are due

closure_member : (parts : List Core) (w : Which) (i : ℕ) → list_any (asks w i) parts ≡ true → Contains (closure_due parts i w) (OfClosure w i)
closure_member parts w i h = subst (λ (b : Bool). Contains (if b then (OfClosure w i ∷ []) else []) (OfClosure w i)) (sym h) (Contains-head (OfClosure w i) [])

pub closure_due_at : (parts : List Core) (w : Which) (n lo i : ℕ) → lo ≤ i → i < lo + n → list_any (asks w i) parts ≡ true → Contains (closures_due parts n lo) (OfClosure w i)
closure_due_at parts w zero lo i l m h = absurd (omega arith)
closure_due_at parts w (suc n) lo i l m h =
    ⊎_elim
    (λ (before : lo < i).
    Contains-append_right (closure_due parts lo Star) (closure_due parts lo Conv ++ closures_due parts n (suc lo)) (OfClosure w i)
    (Contains-append_right (closure_due parts lo Conv) (closures_due parts n (suc lo)) (OfClosure w i) (closure_due_at parts w n (suc lo) i (omega arith) (omega arith) h)))
    (λ (behind : i ≤ lo). let same : i ≡ lo = omega arith in here w same (subst (λ (j : ℕ). Contains (closure_due parts j w) (OfClosure w i)) same (closure_member parts w i h)))
    (cases_lt lo i)
  where
    here : (v : Which) → i ≡ lo → Contains (closure_due parts lo v) (OfClosure v i)
        → Contains (closure_due parts lo Star ++ (closure_due parts lo Conv ++ closures_due parts n (suc lo))) (OfClosure v i)
    here Star same k = Contains-append_left (closure_due parts lo Star) (closure_due parts lo Conv ++ closures_due parts n (suc lo)) (OfClosure Star i) k
    here Conv same k =
        Contains-append_right (closure_due parts lo Star) (closure_due parts lo Conv ++ closures_due parts n (suc lo)) (OfClosure Conv i)
        (Contains-append_left (closure_due parts lo Conv) (closures_due parts n (suc lo)) (OfClosure Conv i) k)
