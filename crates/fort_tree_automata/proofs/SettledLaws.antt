-- Passes until nothing changes: what each pass keeps, all of them keep.
use Rattle.std.proofs.Common.{◌≡◌, ℕ, zero, suc, ◌<◌, ◌-◌, List, Bool, false, length, get_or, ap, sym, ◌∙◌, refl, subst, arith}
use Rattle.std.specs.Prelude.{Contains}
use Rattle.std.proofs.Math.ListN.{replicate}
use Rattle.std.proofs.lemmas.List.Sums.{count_by-le-length}
use Rattle.fort_tree_automata.specs.declared.nta.Nta.{Nta}
use Rattle.fort_tree_automata.specs.NtaView.{moves_of}
use Rattle.fort_tree_automata.specs.Marks.{all_marked, after_passes, IsSettled, with_silent, with_moves, with_pass}
use Rattle.fort_tree_automata.specs.InhabitedStates.{IsMarked}
use Rattle.fort_tree_automata.proofs.Truths.{not_both}
use Rattle.fort_tree_automata.proofs.MarksLaws.{trues, Have, Stays, Stays-same, Stays-then, Stays-each, each-same, each-woken}

pub none_marked : (n : ℕ) (P : ℕ → Type 0) → Have P (replicate n false)
none_marked n P q h = absurd (not_both h (dark n q))
  where
    dark : (n q : ℕ) → get_or (replicate n false) q false ≡ false
    dark zero q = refl
    dark (suc n) zero = refl
    dark (suc n) (suc q) = dark n q

pub passes_none : (pass : List Bool → List Bool) (fs : List Bool) → fs ≡ after_passes pass 0 fs
unfolding after_passes
passes_none pass fs = refl

pub passes_more : (pass : List Bool → List Bool) (k : ℕ) (start fs gs : List Bool) → fs ≡ after_passes pass k start → gs ≡ pass fs
    → gs ≡ after_passes pass (suc k) start
unfolding after_passes
passes_more pass k start fs gs h e = e ∙ ap pass h

-- a pass that keeps all marks, and leaves all as it was where it adds none
pub record IsPass (pass : List Bool → List Bool) : Type 0 where
  pub stays : (fs : List Bool) → Stays fs (pass fs)
  pub same : (fs : List Bool) → trues (pass fs) ≡ trues fs → pass fs ≡ fs

pub IsPass-silent : (silent : List (ℕ × ℕ)) → IsPass (with_silent silent)
IsPass-silent silent = record { stays = Stays-each _ _ silent; same = each-same _ _ silent }

pub IsPass-both : (nta : Nta) → IsPass (with_pass nta)
IsPass-both nta = record {
  stays = λ fs.
      let mid = with_silent nta.silent.items fs in
      Stays-then fs mid (with_pass nta fs) (Stays-each _ _ nta.silent.items fs) (Stays-each _ _ (moves_of nta) mid);
  same = λ fs h.
      let mid = with_silent nta.silent.items fs in
      let first = Stays-each (λ flags m. get_or flags m.0 false) (λ m. m.1) nta.silent.items fs in
      let second = Stays-each (λ flags m. all_marked flags m.1) (λ m. m.2) (moves_of nta) mid in
      let e : trues mid ≡ trues fs = omega (arith, first.grows, second.grows) in
      each-same _ _ (moves_of nta) mid (h ∙ sym e) ∙ each-same _ _ nta.silent.items fs e;
}

pub IsSettled-at : (pass : List Bool → List Bool) → IsPass pass → (k : ℕ) (start fs gs : List Bool) → fs ≡ after_passes pass k start → gs ≡ pass fs
    → trues gs ≡ trues fs → IsSettled pass start gs
IsSettled-at pass is k start fs gs h e t =
    let same : gs ≡ fs = e ∙ is.same fs (ap trues (sym e) ∙ t) in
    record { count = k; passes = same ∙ h; steady = ap pass same ∙ sym e }

-- one more pass leaves fewer states without a mark
pub passes_nearer : (pass : List Bool → List Bool) → IsPass pass → (n : ℕ) (fs gs : List Bool) → gs ≡ pass fs → length fs ≡ n
    → (trues gs ≡ trues fs → ⊥) → n - trues gs < n - trues fs
passes_nearer pass is n fs gs e sized differ =
    let s = is.stays fs in
    let now : trues gs ≡ trues (pass fs) = ap trues e in
    let long : length gs ≡ length (pass fs) = ap length e in
    let most = count_by-le-length (λ b. b) gs in
    omega (arith, s.grows, s.length_same, differ)

after_stays : (pass : List Bool → List Bool) → IsPass pass → (k : ℕ) (fs : List Bool) → Stays fs (after_passes pass k fs)
unfolding after_passes
after_stays pass is zero fs = Stays-same fs
after_stays pass is (suc k) fs =
    Stays-then fs (after_passes pass k fs) (pass (after_passes pass k fs)) (after_stays pass is k fs) (is.stays (after_passes pass k fs))

pub Settled-stays : (pass : List Bool → List Bool) (start fs : List Bool) → IsPass pass → IsSettled pass start fs → Stays start fs
Settled-stays pass start fs is s = subst (Stays start) (sym s.passes) (after_stays pass is s.count start)

after_have : (pass : List Bool → List Bool) (P : ℕ → Type 0) → ((fs : List Bool) → Have P fs → Have P (pass fs)) → (k : ℕ) (fs : List Bool) → Have P fs
    → Have P (after_passes pass k fs)
unfolding after_passes
after_have pass P keeps zero fs l = l
after_have pass P keeps (suc k) fs l = keeps (after_passes pass k fs) (after_have pass P keeps k fs l)

pub Settled-have : (pass : List Bool → List Bool) (P : ℕ → Type 0) (start fs : List Bool) → ((gs : List Bool) → Have P gs → Have P (pass gs))
    → IsSettled pass start fs → Have P start → Have P fs
Settled-have pass P start fs keeps s l = subst (Have P) (sym s.passes) (after_have pass P keeps s.count start l)

-- silent moves that change nothing
pub silent_woken : (silent : List (ℕ × ℕ)) (fs : List Bool) → with_silent silent fs ≡ fs → (o q : ℕ) → Contains silent (o, q) → IsMarked fs o → q < length fs
    → IsMarked fs q
silent_woken silent fs steady o q c h lt = each-woken _ _ silent fs (ap trues steady) (o, q) c h lt

-- both parts of a pass that changes nothing change nothing
pub pass_parts : (nta : Nta) (fs : List Bool) → with_pass nta fs ≡ fs
    → (with_silent nta.silent.items fs ≡ fs) × (with_moves (moves_of nta) fs ≡ fs)
pass_parts nta fs steady =
    let mid = with_silent nta.silent.items fs in
    let first = Stays-each (λ flags m. get_or flags m.0 false) (λ m. m.1) nta.silent.items fs in
    let second = Stays-each (λ flags m. all_marked flags m.1) (λ m. m.2) (moves_of nta) mid in
    let h : trues (with_moves (moves_of nta) mid) ≡ trues fs = ap trues steady in
    let e : mid ≡ fs = each-same _ _ nta.silent.items fs (omega (arith, first.grows, second.grows)) in
    (e, ap (with_moves (moves_of nta)) (sym e) ∙ steady)
