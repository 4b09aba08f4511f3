-- The closures that are due are of the system's indices.
use Rattle.std.proofs.Common.{◌≡◌, ℕ, zero, suc, ◌+◌, ◌<◌, ◌≤◌, Bool, true, false, List, [], ◌∷◌, ◌++◌, length, sym, ap, subst, refl, arith, ⊎_elim}
use Rattle.std.specs.Prelude.{if◌then◌else◌, Contains}
use Rattle.std.specs.List.{list_any}
use Rattle.std.proofs.lemmas.List.Elements.{Contains-append_cases}
use Rattle.fort_theory.specs.Sides.{IsIndexOf}
use Rattle.fort_theory.proofs.Members.{Contains-none, Contains-cons_cases}
use Rattle.fort_theory.specs.Cores.{Core}
use Rattle.fort_alike.specs.ListedClosures.{Which, Star, Conv, asks}
use Rattle.fort_certificate_theory.specs.Dues.{DueStep, OfClosure, OfPart, OfMerge, OfValue, closure_due, closures_due, has_columns, is_turned, counts_due, parts_due, dues}
use Rattle.fort_cert_checker.proofs.DueKeys.{parts_for}

abbrev IsAmong : (i n j : ℕ) → Type 0
IsAmong i n j = (i ≤ j) × (j < i + n)

module _ (parts : List Core) (which : Which) (j : ℕ) where
  of_closure : (i : ℕ) (w : Which) → Contains (closure_due parts i w) (OfClosure which j) → j ≡ i
  of_closure i w c = by (list_any (asks w i) parts) c
    where
      by : (b : Bool) → Contains (if b then (OfClosure w i ∷ []) else []) (OfClosure which j) → j ≡ i
      by true k = ⊎_elim (λ e. let same : i ≡ j = cc in sym same) (λ m. absurd (Contains-none (OfClosure which j) m)) (Contains-cons_cases (OfClosure w i) [] (OfClosure which j) k)
      by false k = absurd (Contains-none (OfClosure which j) k)

  among : (n i : ℕ) → Contains (closures_due parts n i) (OfClosure which j) → IsAmong i n j
  among zero i c = absurd (Contains-none (OfClosure which j) c)
  among (suc n) i c =
      ⊎_elim
      (λ a. let e = of_closure i Star a in (omega (arith, e), omega (arith, e)))
      (λ b. ⊎_elim
      (λ a. let e = of_closure i Conv a in (omega (arith, e), omega (arith, e)))
      (λ later. let h = among n (suc i) later in (omega (arith, h.0), omega (arith, h.1)))
      (Contains-append_cases (closure_due parts i Conv) (closures_due parts n (suc i)) (OfClosure which j) b))
      (Contains-append_cases (closure_due parts i Star) (closure_due parts i Conv ++ closures_due parts n (suc i)) (OfClosure which j) c)

pub index_due : {A : Type 0} (merges : ℕ → Bool) (rules : List (List A)) (parts : List Core) (which : Which) (j : ℕ) → Contains (dues merges (length rules) parts) (OfClosure which j) → IsIndexOf rules j
index_due merges rules parts which j c =
    ⊎_elim
    (λ a. let h = among parts which j (length rules) 1 a in record { low = h.0; high = omega (arith, h.1) })
    (λ b. absurd (parts_for merges 0 parts (OfClosure which j) b))
    (Contains-append_cases (closures_due parts (length rules) 1) (parts_due merges 0 parts) (OfClosure which j) c)

-- ---- what is due depends on which of the parts are merged

parts_same : (m o : ℕ → Bool) (j : ℕ) (fs : List Core) → ((k : ℕ) → k < length fs → m (j + k) ≡ o (j + k)) → parts_due m j fs ≡ parts_due o j fs
parts_same m o j [] h = refl
parts_same m o j (f ∷ fs) h =
    let z : j + 0 ≡ j = omega arith in
    let here : m j ≡ o j = subst (λ (i : ℕ). m i ≡ o i) z (h 0 (omega arith)) in
    let later = parts_same m o (suc j) fs (λ k l. let y : j + suc k ≡ suc j + k = omega arith in subst (λ (i : ℕ). m i ≡ o i) y (h (suc k) (omega arith))) in
    let answer : Bool → List DueStep = λ b. if has_columns f then (if is_turned f then [] else (OfPart j ∷ (if b then (OfMerge j ∷ []) else []))) else (OfValue j ∷ []) in
    λ i. counts_due j f ++ (answer (here i) ++ later i)

pub dues_same : (m o : ℕ → Bool) (n : ℕ) (fs : List Core) → ((k : ℕ) → k < length fs → m k ≡ o k) → dues m n fs ≡ dues o n fs
dues_same m o n fs h = ap (λ ds. closures_due fs n 1 ++ ds) (parts_same m o 0 fs (λ k l. let z : k ≡ 0 + k = omega arith in subst (λ (i : ℕ). m i ≡ o i) z (h k l)))
