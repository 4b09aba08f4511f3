-- First entries of states, and one more entry.
use Rattle.std.proofs.Common.{◌≡◌, ℕ, ◌<◌, List, [], ◌∷◌, ◌++◌, length, get_or, Bool, true, false, if◌then◌else◌, refl, ap, sym, ◌∙◌, arith, subst, ⊎_elim}
use Rattle.std.proofs.lemmas.Bool.{cases_lt}
use Rattle.std.proofs.lemmas.List.{length_push, get_or_push, get_or_append_left}
use Rattle.fort_tables.specs.Entries.{Entry}
use Rattle.fort_lockstep.specs.StateFacts.{AreFirsts}

pub firsts_none : (entries : List Entry) (fs : List ℕ) (frs : List Entry) → fs ≡ [] → frs ≡ [] → AreFirsts entries fs frs
firsts_none entries fs frs f e = record {
  count = omega (arith, ap length f, ap length e);
  within = λ q l. absurd (omega (arith, l, ap length f));
  entries_are = λ q d l. absurd (omega (arith, l, ap length f));
}

firsts_grow : (entries : List Entry) (fs : List ℕ) (frs : List Entry) (e : Entry) → AreFirsts entries fs frs → AreFirsts (entries ++ e ∷ []) fs frs
firsts_grow entries fs frs e a = record {
  count = a.count;
  within = λ q l. omega (arith, a.within q l, length_push entries e);
  entries_are = λ q d l. get_or_append_left entries (e ∷ []) d (get_or fs q 0) (a.within q l) ∙ a.entries_are q d l;
}

firsts_more : (entries : List Entry) (fs : List ℕ) (frs : List Entry) (e : Entry) → AreFirsts entries fs frs → AreFirsts (entries ++ e ∷ []) (fs ++ length entries ∷ []) (frs ++ e ∷ [])
firsts_more entries fs frs e a =
    let left : (q : ℕ) → q < length fs → get_or (fs ++ length entries ∷ []) q 0 ≡ get_or fs q 0 = λ q l. get_or_append_left fs (length entries ∷ []) 0 q l in
    let last : (q : ℕ) → length fs ≡ q → get_or (fs ++ length entries ∷ []) q 0 ≡ length entries = λ q l. get_or_push fs (length entries) 0 q l in
    record {
      count = omega (arith, length_push frs e, length_push fs (length entries), a.count);
      within = λ q l. ⊎_elim
          (λ m. omega (arith, left q m, a.within q m, length_push entries e))
          (λ m. omega (arith, last q (omega (arith, length_push fs (length entries))), length_push entries e))
          (cases_lt q (length fs));
      entries_are = λ q d l. ⊎_elim
          (λ m. ap (λ k. get_or (entries ++ e ∷ []) k d) (left q m) ∙ (get_or_append_left entries (e ∷ []) d (get_or fs q 0) (a.within q m) ∙ (a.entries_are q d m ∙ sym (get_or_append_left frs (e ∷ []) d q (omega (arith, a.count))))))
          (λ m. let at : length fs ≡ q = omega (arith, length_push fs (length entries)) in
          ap (λ k. get_or (entries ++ e ∷ []) k d) (last q at) ∙ (get_or_push entries e d (length entries) refl ∙ sym (get_or_push frs e d q (omega (arith, a.count)))))
          (cases_lt q (length fs));
    }

-- one more entry, which may be the first of a state
pub firsts_noted : (entries : List Entry) (fs fs' : List ℕ) (frs frs' : List Entry) (e : Entry) (test : Bool) → AreFirsts entries fs frs → fs' ≡ (if test then fs ++ length entries ∷ [] else fs) → frs' ≡ (if test then frs ++ e ∷ [] else frs) → AreFirsts (entries ++ e ∷ []) fs' frs'
firsts_noted entries fs fs' frs frs' e true a p q = subst (λ (xs : List ℕ). AreFirsts (entries ++ e ∷ []) xs frs') (sym p) (subst (λ (ys : List Entry). AreFirsts (entries ++ e ∷ []) (fs ++ length entries ∷ []) ys) (sym q) (firsts_more entries fs frs e a))
firsts_noted entries fs fs' frs frs' e false a p q = subst (λ (xs : List ℕ). AreFirsts (entries ++ e ∷ []) xs frs') (sym p) (subst (λ (ys : List Entry). AreFirsts (entries ++ e ∷ []) fs ys) (sym q) (firsts_grow entries fs frs e a))
