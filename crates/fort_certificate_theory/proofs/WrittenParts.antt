-- A part with one state for each label has one list of targets.
use Rattle.std.proofs.Common.{◌≡◌, ℕ, zero, suc, ◌<◌, ◌≤◌, List, [], ◌∷◌, ◌++◌, map, length, take, get_or, refl, ap, sym, ◌∙◌, arith, subst, ⊎_elim}
use Rattle.std.proofs.lemmas.Bool.{cases_lt}
use Rattle.std.proofs.lemmas.List.{length-take, get_or-take, take_all, take-take}
use Rattle.std.proofs.Math.Seq.{take-suc}
use Rattle.fort_tables.specs.Entries.{Entry, stage, no_entry}
use Rattle.fort_tables.specs.LabelRules.{LabelRule, entry_label}
use Rattle.fort_tables.specs.Labels.{first_word}
use Rattle.fort_tables.proofs.OrderLaws.{due_one}
use Rattle.fort_certificate_theory.specs.PartSteps.{IsDueOver, states_before, AreRightTo, IsRightPart}
use Rattle.fort_certificate_theory.specs.Written.{NoLabelTwice}
use Rattle.fort_certificate_theory.proofs.StageLaws.{states_more}
use Rattle.fort_certificate_theory.proofs.PartLaws.{right_less, right_same, goes_on_at}

once_take : (ws : List (List ℕ)) (s : ℕ) → NoLabelTwice ws → NoLabelTwice (take s ws)
once_take ws s once i j l m e =
    let a : i < s = omega (arith, length-take s ws) in
    let b : j < s = omega (arith, length-take s ws) in
    once i j (omega (arith, length-take s ws)) (omega (arith, length-take s ws)) (sym (get_or-take s ws i [] a) ∙ (e ∙ get_or-take s ws j [] b))

-- what is right of targets is right of others that begin in the same way
take_less : (qs ps : List ℕ) (k n : ℕ) → k ≤ n → take n qs ≡ take n ps → take k qs ≡ take k ps
take_less qs ps k n l e = sym (take-take k n qs l) ∙ (ap (take k) e ∙ take-take k n ps l)

get_less : (qs ps : List ℕ) (k n : ℕ) → k < n → take n qs ≡ take n ps → get_or qs k 0 ≡ get_or ps k 0
get_less qs ps k n l e = sym (get_or-take n qs k 0 l) ∙ (ap (λ xs. get_or xs k 0) e ∙ get_or-take n ps k 0 l)

right_moved : (r : LabelRule) (qs ps : List ℕ) (n : ℕ) (es : List Entry) (ws : List (List ℕ)) → take n qs ≡ take n ps → n ≤ length ps → AreRightTo r qs n es ws → AreRightTo r ps n es ws
right_moved r qs ps n es ws e l h = record {
  within = l;
  count = h.count;
  states = h.states ∙ ap stage e;
  right = λ k d m.
      let at = h.right k d m in
      let s : states_before qs k ≡ states_before ps k = ap stage (take_less qs ps k n (omega arith) e) in
      let t : get_or qs k 0 ≡ get_or ps k 0 = get_less qs ps k n m e in
      record {
        due = subst (λ (i : ℕ). IsDueOver r (take i ws) (take k es) (get_or es k d)) s at.due;
        known = omega (arith, at.known, s, t);
        label = ap (λ i. get_or ws i []) (sym t) ∙ (at.label ∙ ap (λ i. entry_label r (take i ws) (get_or es k d)) s);
      };
}

module _ (r : LabelRule) (qs ps : List ℕ) where
  -- the next target, where those before it are the same
  next_same : (n : ℕ) (es fs : List Entry) (ws us : List (List ℕ)) → AreRightTo r qs (suc n) es ws → AreRightTo r ps (suc n) fs us → NoLabelTwice ws → NoLabelTwice us
      → take n qs ≡ take n ps → get_or qs n 0 ≡ get_or ps n 0
  next_same n es fs ws us h k once also e =
      let s = states_before qs n in
      let s' : states_before ps n ≡ s = ap stage (sym e) in
      let d = no_entry 0 in
      let less = right_less r qs n es ws h in
      let other = right_moved r ps qs n (take n fs) (take (states_before ps n) us) (sym e) less.within (right_less r ps n fs us k) in
      let same = right_same r qs n (take n es) (take n fs) (take s ws) (take (states_before ps n) us) less other in
      let a = h.right n d (omega arith) in
      let b = k.right n d (omega arith) in
      let b_due : IsDueOver r (take s ws) (take n es) (get_or fs n d) =
      subst (λ (xs : List (List ℕ)). IsDueOver r xs (take n es) (get_or fs n d)) (sym same.labels_same)
      (subst (λ (xs : List Entry). IsDueOver r (take (states_before ps n) us) xs (get_or fs n d)) (sym same.entries_same) b.due) in
      let at : get_or es n d ≡ get_or fs n d = due_one r.signature r.columns (map first_word (take s ws)) (take n es) (get_or es n d) (get_or fs n d) a.due b_due in
      let word : entry_label r (take s ws) (get_or es n d) ≡ entry_label r (take (states_before ps n) us) (get_or fs n d) =
      ap (λ xs. entry_label r xs (get_or es n d)) same.labels_same ∙ ap (entry_label r (take (states_before ps n) us)) at in
      let t = get_or qs n 0 in
      let t' = get_or ps n 0 in
      let one : get_or ws t [] ≡ get_or us t' [] = a.label ∙ (word ∙ sym b.label) in
      let ws_many = states_more qs n (omega (arith, h.within)) in
      let us_many = states_more ps n (omega (arith, k.within)) in
      let old : (i : ℕ) → i < s → get_or ws i [] ≡ get_or us i [] =
      λ i l. sym (get_or-take s ws i [] l) ∙ (ap (λ xs. get_or xs i []) same.labels_same ∙ get_or-take (states_before ps n) us i [] (omega (arith, s'))) in
      ⊎_elim
      (λ (l : t < s). also t t' (omega (arith, k.states, us_many, s')) (omega (arith, k.states, us_many, b.known)) (sym (old t l) ∙ one))
      (λ (l : s ≤ t). ⊎_elim
      (λ (m : t' < s). once t t' (omega (arith, h.states, ws_many, a.known)) (omega (arith, h.states, ws_many)) (one ∙ sym (old t' m)))
      (λ (m : s ≤ t'). omega (arith, a.known, b.known, s'))
      (cases_lt t' s))
      (cases_lt t s)

  targets_to : (n : ℕ) (es fs : List Entry) (ws us : List (List ℕ)) → AreRightTo r qs n es ws → AreRightTo r ps n fs us → NoLabelTwice ws → NoLabelTwice us → take n qs ≡ take n ps
  targets_to zero es fs ws us h k once also = refl
  targets_to (suc n) es fs ws us h k once also =
      let e = targets_to n (take n es) (take n fs) (take (states_before qs n) ws) (take (states_before ps n) us) (right_less r qs n es ws h) (right_less r ps n fs us k)
      (once_take ws (states_before qs n) once) (once_take us (states_before ps n) also) in
      let t = next_same n es fs ws us h k once also e in
      take-suc qs n 0 (omega (arith, h.within)) ∙ (ap (λ xs. xs ++ get_or qs n 0 ∷ []) e ∙ (ap (λ i. take n ps ++ i ∷ []) t ∙ sym (take-suc ps n 0 (omega (arith, k.within)))))

-- right up to a place, and no label twice
record IsDown (r : LabelRule) (qs : List ℕ) (n : ℕ) : Type 0 where
  entries : List Entry
  labels : List (List ℕ)
  right : AreRightTo r qs n entries labels
  once : NoLabelTwice labels

down : (r : LabelRule) (qs : List ℕ) (m n : ℕ) (es : List Entry) (ws : List (List ℕ)) → n ≤ m → AreRightTo r qs m es ws → NoLabelTwice ws → IsDown r qs n
down r qs zero n es ws l h once = let e : 0 ≡ n = omega arith in record { entries = es; labels = ws; right = subst (λ (i : ℕ). AreRightTo r qs i es ws) e h; once = once }
down r qs (suc m) n es ws l h once =
    ⊎_elim
    (λ (b : n < suc m). down r qs m n (take m es) (take (states_before qs m) ws) (omega arith) (right_less r qs m es ws h) (once_take ws (states_before qs m) once))
    (λ (b : suc m ≤ n). let e : suc m ≡ n = omega arith in record { entries = es; labels = ws; right = subst (λ (i : ℕ). AreRightTo r qs i es ws) e h; once = once })
    (cases_lt n (suc m))

no_longer : (r : LabelRule) (qs ps : List ℕ) (es fs : List Entry) (ws us : List (List ℕ)) → IsRightPart r qs es ws → IsRightPart r ps fs us → NoLabelTwice ws → NoLabelTwice us → length qs < length ps → ⊥
no_longer r qs ps es fs ws us h k once also l =
    let d = down r ps (length ps) (length qs) fs us (omega arith) k.right also in
    let e = targets_to r qs ps (length qs) es d.entries ws d.labels h.right d.right once d.once in
    let here = right_moved r qs ps (length qs) es ws e (omega arith) h.right in
    let on = goes_on_at r ps (length ps) (length qs) es fs ws us here l k.right in
    on.1.due.missing (h.all on.0 on.1.due.is_entry)

-- Result
pub targets_one : (r : LabelRule) (qs ps : List ℕ) (es fs : List Entry) (ws us : List (List ℕ)) → IsRightPart r qs es ws → IsRightPart r ps fs us → NoLabelTwice ws → NoLabelTwice us → qs ≡ ps
targets_one r qs ps es fs ws us h k once also =
    let count : length qs ≡ length ps =
    ⊎_elim (λ (l : length qs < length ps). absurd (no_longer r qs ps es fs ws us h k once also l))
    (λ l. ⊎_elim (λ (m : length ps < length qs). absurd (no_longer r ps qs fs es us ws k h also once m)) (λ m. omega arith) (cases_lt (length ps) (length qs)))
    (cases_lt (length qs) (length ps)) in
    let there = subst (λ (n : ℕ). AreRightTo r ps n fs us) (sym count) k.right in
    sym (take_all (length qs) qs (omega arith)) ∙ (targets_to r qs ps (length qs) es fs ws us h.right there once also ∙ take_all (length qs) ps (omega arith))
