-- The lists of steps that are due, grown index by index and part by part.
use Rattle.std.specs.Prelude.{◌≡◌, ℕ, zero, suc, ◌+◌, ◌<◌, List, [], ◌∷◌, ◌++◌, take, length, get_or, Bool, true, false, not, ◌==◌, nat_lt, if◌then◌else◌, refl}
use Rattle.std.proofs.Common.{map, sym, ap, ◌∙◌, arith, append_assoc, append-nil}
use Rattle.std.proofs.lemmas.List.{take_more, length-take-le, map-append}
use Rattle.std.proofs.lemmas.Bool.{lt-ltb}
use Rattle.fort_theory.specs.Cores as core
use Rattle.fort_theory.specs.Cores.{Core}
use Rattle.fort_tables.proofs.EqualTests.{test_from_apart}
use Rattle.fort_parts.specs.PartColumns.{columns_of}
use Rattle.fort_alike.specs.ListedClosures.{Star, Conv}
use Rattle.fort_certificate_theory.specs.Dues.{DueStep, OfPart, OfMerge, OfValue, closure_due, closures_due, has_columns, is_turned, counts_due, table_due, answer_due, parts_due}
use Rattle.fort_dues.specs.declared.dues.DueStep as due
use Rattle.fort_outline.specs.declared.root.Root.{Root}
use Rattle.fort_outline.specs.declared.root.Root.TheVariants.{True, Leaf, Not, Binary, Exists, Infinite}
use Rattle.fort_outline.specs.Roots.{root_core}
use Rattle.fort_dues.specs.DueView.{as_due}
use Rattle.fort_certificate_theory.proofs.FineSteps.{chosen, passed_over}
use Rattle.fort_certificate_theory.proofs.StepLists.{closures_due-push, parts_due-push}

pub regroup : {A : Type 0} (ds us vs xs ys : List A) → xs ≡ ds ++ us → ys ≡ xs ++ vs → ys ≡ ds ++ (us ++ vs)
regroup ds us vs xs ys e h = h ∙ (ap (λ zs. zs ++ vs) e ∙ append_assoc ds us vs)

-- one more index
pub closures_more : (parts : List Core) (n : ℕ) (ds xs ys zs : List DueStep) → xs ≡ ds ++ closures_due parts n 1 → ys ≡ xs ++ closure_due parts (n + 1) Star → zs ≡ ys ++ closure_due parts (n + 1) Conv
    → zs ≡ ds ++ closures_due parts (n + 1) 1
closures_more parts n ds xs ys zs e h k =
    let a = closure_due parts (n + 1) Star in
    let b = closure_due parts (n + 1) Conv in
    let one : n + 1 ≡ suc n = omega arith in
    let other : n + 1 ≡ 1 + n = omega arith in
    let both : zs ≡ xs ++ (a ++ b) = regroup xs a b ys zs h k in
    let grown : closures_due parts (n + 1) 1 ≡ closures_due parts n 1 ++ (a ++ b) =
    ap (λ m. closures_due parts m 1) one ∙ (closures_due-push parts n 1 ∙ ap (λ i. closures_due parts n 1 ++ (closure_due parts i Star ++ closure_due parts i Conv)) (sym other)) in
    regroup ds (closures_due parts n 1) (a ++ b) xs zs e both ∙ ap (λ ys. ds ++ ys) (sym grown)

-- one more part
pub parts_more : (merges : ℕ → Bool) (fs : List Core) (k : ℕ) (f : Core) (ds xs ys : List DueStep) → k < length fs → get_or fs k f ≡ f → xs ≡ ds ++ parts_due merges 0 (take k fs) → ys ≡ xs ++ (counts_due k f ++ answer_due merges k f)
    → ys ≡ ds ++ parts_due merges 0 (take (k + 1) fs)
parts_more merges fs k f ds xs ys l at e h =
    let count : 0 + length (take k fs) ≡ k = omega (arith, length-take-le k fs (omega arith)) in
    let grown : parts_due merges 0 (take (k + 1) fs) ≡ parts_due merges 0 (take k fs) ++ (counts_due k f ++ answer_due merges k f) =
    ap (parts_due merges 0) (take_more fs k f l ∙ ap (λ g. take k fs ++ g ∷ []) at)
    ∙ (parts_due-push merges 0 (take k fs) f ∙ ap (λ i. parts_due merges 0 (take k fs) ++ (counts_due i f ++ answer_due merges i f)) count) in
    regroup ds (parts_due merges 0 (take k fs)) (counts_due k f ++ answer_due merges k f) xs ys e h ∙ ap (λ zs. ds ++ zs) (sym grown)

-- the answer of one part
pub answer_value : (merges : ℕ → Bool) (k : ℕ) (f : Core) → has_columns f ≡ false → answer_due merges k f ≡ OfValue k ∷ []
answer_value merges k f h = passed_over (has_columns f) (if is_turned f then [] else table_due merges k) (OfValue k ∷ []) h

pub answer_turned : (merges : ℕ → Bool) (k : ℕ) (f g : Core) → f ≡ core.Not g → has_columns f ≡ true → answer_due merges k f ≡ []
answer_turned merges k f g e h =
    chosen (has_columns f) (if is_turned f then [] else table_due merges k) (OfValue k ∷ []) h
    ∙ chosen (is_turned f) [] (table_due merges k) (ap is_turned e ∙ (sym (ap has_columns e) ∙ h))

pub answer_part : (merges : ℕ → Bool) (k : ℕ) (f : Core) → is_turned f ≡ false → has_columns f ≡ true → answer_due merges k f ≡ table_due merges k
answer_part merges k f t h =
    chosen (has_columns f) (if is_turned f then [] else table_due merges k) (OfValue k ∷ []) h ∙ passed_over (is_turned f) [] (table_due merges k) t

-- a root that is no negation isn't turned
pub plain_root : (parts : List Core) (r : Root) → ((f : ℕ) → r ≡ Not f → ⊥) → is_turned (root_core parts r) ≡ false
plain_root parts True other = refl
plain_root parts (Leaf a) other = refl
plain_root parts (Not f) other = absurd (other f refl)
plain_root parts (Binary op f g) other = refl
plain_root parts (Exists n f) other = refl
plain_root parts (Infinite n f) other = refl

-- the table of one part, which is merged or isn't
pub merged_table : (b : Bool) (k : ℕ) → b ≡ true → table_due (λ j. b) k ≡ OfPart k ∷ OfMerge k ∷ []
merged_table b k e = ap (λ (ds : List DueStep). OfPart k ∷ ds) (chosen b (OfMerge k ∷ []) [] e)

pub plain_table : (b : Bool) (k : ℕ) → b ≡ false → table_due (λ j. b) k ≡ OfPart k ∷ []
plain_table b k e = ap (λ (ds : List DueStep). OfPart k ∷ ds) (passed_over b (OfMerge k ∷ []) [] e)

-- whether there are columns, by the list of them
pub columns_there : (f : Core) (ns : List ℕ) (empty : Bool) → ns ≡ columns_of f → empty ≡ (length ns == 0) → not empty ≡ has_columns f
columns_there f ns empty are is = ap not is ∙ (ap (λ (xs : List ℕ). not (length xs == 0)) are ∙ by (length (columns_of f)))
  where
    by : (m : ℕ) → not (m == 0) ≡ nat_lt 0 m
    by zero = refl
    by (suc m) = let l : 0 < suc m = omega arith in ap not (test_from_apart (suc m) 0 (λ z. omega (arith, z))) ∙ sym (lt-ltb 0 (suc m) l)

-- one step more, and none
pub due_put : (ds es : List due.DueStep) (x : due.DueStep) (added : List DueStep) → es ≡ ds ++ x ∷ [] → added ≡ as_due x ∷ [] → map as_due es ≡ map as_due ds ++ added
due_put ds es x added e is = ap (map as_due) e ∙ (map-append as_due ds (x ∷ []) ∙ ap (λ ys. map as_due ds ++ ys) (sym is))

pub none_put : (ds : List due.DueStep) (added : List DueStep) → added ≡ [] → map as_due ds ≡ map as_due ds ++ added
none_put ds added is = sym (ap (λ ys. map as_due ds ++ ys) is ∙ append-nil (map as_due ds))
