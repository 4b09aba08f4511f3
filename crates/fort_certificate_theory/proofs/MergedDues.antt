-- Steps that are those due, where some tables are merged, are those due of a certificate with these steps.
use Rattle.std.proofs.Common.{◌≡◌, ℕ, zero, suc, ◌≤◌, List, [], ◌∷◌, ◌++◌, Bool, true, false, ◌==◌, if◌then◌else◌, eq-eqb, append_assoc, refl, ap, ◌∙◌, arith}
use Rattle.std.specs.List.{list_any}
use Rattle.fort_theory.specs.Cores as core
use Rattle.fort_theory.specs.Cores.{Core}
use Rattle.fort_tables.proofs.EqualTests.{if_equal, if_apart}
use Rattle.fort_alike.specs.ListedClosures.{Which, Star, Conv, asks}
use Rattle.fort_certificate_theory.specs.Certificates.{Step, Closure, Part, Merge, Counts, Value}
use Rattle.fort_certificate_theory.specs.Dues.{DueStep, OfClosure, OfPart, OfMerge, OfValue, due_of, has_columns, is_turned, table_due, closure_due, closures_due, counts_due, answer_due, parts_due, dues, begins_with_merge, is_merged_in, dues_of}
use Rattle.fort_certificate_theory.specs.Made.{MadeSoFar}
use Rattle.fort_certificate_theory.specs.Checked.{AreSteps, NoSteps, MoreSteps}

-- the same of what the steps are about
abbrev merge_first : List DueStep → ℕ → Bool
merge_first (OfMerge j ∷ ds) k = j == k
merge_first other k = false

abbrev merged_among : List DueStep → ℕ → Bool
merged_among [] k = false
merged_among (OfPart j ∷ ds) k = if j == k then merge_first ds k else merged_among ds k
merged_among (d ∷ ds) k = merged_among ds k

module _ (IsStep : MadeSoFar → Step → MadeSoFar → Type 0) (k : ℕ) where
  first_as_due : (made last : MadeSoFar) (ds : List DueStep) (ss : List Step) → AreSteps IsStep made ds ss last → begins_with_merge ss k ≡ merge_first ds k
  first_as_due made last ds ss NoSteps = refl
  first_as_due made last ds ss (MoreSteps {s = s} {d = d} {ds = es} {ss = ts} e h more) = by s d e
    where
      by : (s : Step) (d : DueStep) → due_of s ≡ d → begins_with_merge (s ∷ ts) k ≡ merge_first (d ∷ es) k
      by (Closure which index items) d e = ap (λ (x : DueStep). merge_first (x ∷ es) k) e
      by (Part j targets) d e = ap (λ (x : DueStep). merge_first (x ∷ es) k) e
      by (Merge j classes) d e = ap (λ (x : DueStep). merge_first (x ∷ es) k) e
      by (Counts j marks) d e = ap (λ (x : DueStep). merge_first (x ∷ es) k) e
      by (Value j value) d e = ap (λ (x : DueStep). merge_first (x ∷ es) k) e

  among_as_due : (made last : MadeSoFar) (ds : List DueStep) (ss : List Step) → AreSteps IsStep made ds ss last → is_merged_in ss k ≡ merged_among ds k
  among_as_due made last ds ss NoSteps = refl
  among_as_due made last ds ss (MoreSteps {next = next} {s = s} {d = d} {ds = es} {ss = ts} e h more) =
      by s d e (first_as_due next last es ts more) (among_as_due next last es ts more)
    where
      by : (s : Step) (d : DueStep) → due_of s ≡ d → begins_with_merge ts k ≡ merge_first es k → is_merged_in ts k ≡ merged_among es k → is_merged_in (s ∷ ts) k ≡ merged_among (d ∷ es) k
      by (Closure which index items) d e first rest = rest ∙ ap (λ (x : DueStep). merged_among (x ∷ es) k) e
      by (Part j targets) d e first rest =
          ap (λ b. if j == k then b else is_merged_in ts k) first
          ∙ (ap (λ b. if j == k then merge_first es k else b) rest ∙ ap (λ (x : DueStep). merged_among (x ∷ es) k) e)
      by (Merge j classes) d e first rest = rest ∙ ap (λ (x : DueStep). merged_among (x ∷ es) k) e
      by (Counts j marks) d e first rest = rest ∙ ap (λ (x : DueStep). merged_among (x ∷ es) k) e
      by (Value j value) d e first rest = rest ∙ ap (λ (x : DueStep). merged_among (x ∷ es) k) e

-- ---- among the dues of parts

closure_passed : (parts : List Core) (i : ℕ) (which : Which) (ds : List DueStep) (k : ℕ) → merged_among (closure_due parts i which ++ ds) k ≡ merged_among ds k
closure_passed parts i which ds k = by (list_any (asks which i) parts)
  where
    by : (b : Bool) → merged_among ((if b then (OfClosure which i ∷ []) else []) ++ ds) k ≡ merged_among ds k
    by true = refl
    by false = refl

closures_passed : (parts : List Core) (n i : ℕ) (ds : List DueStep) (k : ℕ) → merged_among (closures_due parts n i ++ ds) k ≡ merged_among ds k
closures_passed parts zero i ds k = refl
closures_passed parts (suc n) i ds k =
    let a = closure_due parts i Star in
    let b = closure_due parts i Conv in
    let c = closures_due parts n (suc i) in
    ap (λ (xs : List DueStep). merged_among xs k) (append_assoc a (b ++ c) ds ∙ ap (λ (xs : List DueStep). a ++ xs) (append_assoc b c ds))
    ∙ (closure_passed parts i Star (b ++ (c ++ ds)) k ∙ (closure_passed parts i Conv (c ++ ds) k ∙ closures_passed parts n (suc i) ds k))

counts_passed : (n : ℕ) (f : Core) (ds : List DueStep) (k : ℕ) → merged_among (counts_due n f ++ ds) k ≡ merged_among ds k
counts_passed n core.True ds k = refl
counts_passed n (core.Leaf a) ds k = refl
counts_passed n (core.Not f) ds k = refl
counts_passed n (core.Binary op f g) ds k = refl
counts_passed n (core.Exists i f) ds k = refl
counts_passed n (core.Infinite i f) ds k = refl

-- a part's dues begin with no merge
none_first : (n : ℕ) (f : Core) (ds : List DueStep) (k : ℕ) → merge_first ds k ≡ false → merge_first (counts_due n f ++ ds) k ≡ false
none_first n core.True ds k h = h
none_first n (core.Leaf a) ds k h = h
none_first n (core.Not f) ds k h = h
none_first n (core.Binary op f g) ds k h = h
none_first n (core.Exists i f) ds k h = h
none_first n (core.Infinite i f) ds k h = refl

module _ (merges : ℕ → Bool) where
  -- the dues of an answer, by whether its formula has columns and is turned
  abbrev due_by : (columns turned : Bool) → ℕ → List DueStep
  due_by columns turned k = if columns then (if turned then [] else table_due merges k) else (OfValue k ∷ [])

  parts_first : (n : ℕ) (fs : List Core) (k : ℕ) → merge_first (parts_due merges n fs) k ≡ false
  parts_first n [] k = refl
  parts_first n (f ∷ fs) k =
      none_first n f (answer_due merges n f ++ parts_due merges (suc n) fs) k (by (has_columns f) (is_turned f) (parts_due merges (suc n) fs) (parts_first (suc n) fs k))
    where
      by : (b c : Bool) (ds : List DueStep) → merge_first ds k ≡ false → merge_first (due_by b c n ++ ds) k ≡ false
      by true true ds h = h
      by true false ds h = refl
      by false c ds h = refl

  merge_there : (b : Bool) (k : ℕ) (ds : List DueStep) → merge_first ds k ≡ false → merge_first ((if b then (OfMerge k ∷ []) else []) ++ ds) k ≡ b
  merge_there true k ds h = eq-eqb k k refl
  merge_there false k ds h = h

  merge_passed : (b : Bool) (k j : ℕ) (ds : List DueStep) → merged_among ((if b then (OfMerge k ∷ []) else []) ++ ds) j ≡ merged_among ds j
  merge_passed true k j ds = refl
  merge_passed false k j ds = refl

module _ (merges other : ℕ → Bool) where
  -- one part's dues and those behind it
  answer_as_due : (b c : Bool) (k : ℕ) (ds es : List DueStep) → ((j : ℕ) → k ≤ j → other j ≡ merged_among (due_by merges b c k ++ ds) j) → merge_first ds k ≡ false
      → (((j : ℕ) → suc k ≤ j → other j ≡ merged_among ds j) → es ≡ ds) → due_by other b c k ++ es ≡ due_by merges b c k ++ ds
  answer_as_due true true k ds es h first rest = rest (λ j l. h j (omega arith))
  answer_as_due true false k ds es h first rest =
      let behind : (b : Bool) → List DueStep = λ b. if b then (OfMerge k ∷ []) else [] in
      let own : other k ≡ merges k = h k (omega arith) ∙ (if_equal k k (merge_first (behind (merges k) ++ ds) k) (merged_among (behind (merges k) ++ ds) k) refl ∙ merge_there merges (merges k) k ds first) in
      let more : es ≡ ds = rest (λ j l.
      h j (omega arith)
      ∙ (if_apart k j (merge_first (behind (merges k) ++ ds) j) (merged_among (behind (merges k) ++ ds) j) (λ e. omega arith)
      ∙ merge_passed merges (merges k) k j ds)) in
      λ i. OfPart k ∷ (behind (own i) ++ more i)
  answer_as_due false c k ds es h first rest = ap (λ (xs : List DueStep). OfValue k ∷ xs) (rest (λ j l. h j (omega arith)))

  parts_as_due : (k : ℕ) (fs : List Core) → ((j : ℕ) → k ≤ j → other j ≡ merged_among (parts_due merges k fs) j) → parts_due other k fs ≡ parts_due merges k fs
  parts_as_due k [] h = refl
  parts_as_due k (f ∷ fs) h =
      ap (λ (xs : List DueStep). counts_due k f ++ xs)
      (answer_as_due (has_columns f) (is_turned f) k (parts_due merges (suc k) fs) (parts_due other (suc k) fs)
      (λ j l. h j l ∙ counts_passed k f (answer_due merges k f ++ parts_due merges (suc k) fs) j) (parts_first merges (suc k) fs k) (parts_as_due (suc k) fs))

-- Result
pub merged_as_due : (merges : ℕ → Bool) (IsStep : MadeSoFar → Step → MadeSoFar → Type 0) (made last : MadeSoFar) (indices : ℕ) (parts : List Core) (ss : List Step)
    → AreSteps IsStep made (dues merges indices parts) ss last → dues_of ss indices parts ≡ dues merges indices parts
merged_as_due merges IsStep made last indices parts ss h =
    ap (λ (xs : List DueStep). closures_due parts indices 1 ++ xs)
    (parts_as_due merges (is_merged_in ss) 0 parts
    (λ j l. among_as_due IsStep j made last (dues merges indices parts) ss h ∙ closures_passed parts indices 1 (parts_due merges 0 parts) j))
