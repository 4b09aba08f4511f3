-- The first entries of the states, where one more entry gets its target.
use Rattle.std.proofs.Common.{◌≡◌, ℕ, ◌+◌, ◌<◌, List, [], ◌∷◌, ◌++◌, length, get_or, ◌==◌, if◌then◌else◌, refl, ap, sym, ◌∙◌, arith, subst, ⊎_elim}
use Rattle.std.proofs.lemmas.Bool.{cases_lt, cases_eq}
use Rattle.std.proofs.lemmas.List.{length_push, get_or_push, get_or_append_left, length-map}
use Rattle.fort_tables.specs.Tuples.{presence}
use Rattle.fort_tables.specs.Entries.{Entry}
use Rattle.fort_tables.specs.Tables.{Made, IsFirstWith}
use Rattle.fort_tables.proofs.EqualTests.{if_equal, if_apart}
use Rattle.fort_table.specs.EntryListFacts.{entry_in, entries_in, AreSpans}
use Rattle.fort_table.specs.declared.entry_list.EntryList.{EntryList}
use Rattle.fort_leading_tables.specs.FirstEntries.{AreFirstEntries}
use Rattle.fort_leading_tables.specs.LeadingMaking.{given}

-- a first entry stays one
first_stays : (es : List Entry) (qs : List ℕ) (e : Entry) (r q : ℕ) (x : Entry) → length qs ≡ length es → IsFirstWith es qs q x → IsFirstWith (es ++ e ∷ []) (qs ++ r ∷ []) q x
first_stays es qs e r q x c f = record {
  place = f.place;
  within = omega (arith, f.within, length_push qs r);
  target = get_or_append_left qs (r ∷ []) 0 f.place f.within ∙ f.target;
  before = λ j l. omega (arith, get_or_append_left qs (r ∷ []) 0 j (omega (arith, f.within)), f.before j l);
  is = λ d. get_or_append_left es (e ∷ []) d f.place (omega (arith, f.within)) ∙ f.is d;
}

-- the entry that gives a greater target than those before
first_greater : (es : List Entry) (qs : List ℕ) (e : Entry) (q : ℕ) → length qs ≡ length es → ((k : ℕ) → k < length qs → get_or qs k 0 < q) → IsFirstWith (es ++ e ∷ []) (qs ++ q ∷ []) q e
first_greater es qs e q c low = record {
  place = length qs;
  within = omega (arith, length_push qs q);
  target = get_or_push qs q 0 (length qs) refl;
  before = λ j l. omega (arith, get_or_append_left qs (q ∷ []) 0 j l, low j l);
  is = λ d. get_or_push es e d (length qs) (sym c);
}

-- no entries yet
pub firsts_none : (l : EntryList) → l.spans.items ≡ [] → AreFirstEntries [] [] 0 l
firsts_none l none = record {
  spans = rw none (λ k d low. absurd (omega arith));
  size = length-map l.spans.items (entry_in l.numbers.items) ∙ ap length none;
  are = λ q d low. absurd (omega arith);
}

module _ (es : List Entry) (qs : List ℕ) (n : ℕ) (l l' : EntryList) (e : Entry) (count : length qs ≡ length es) (old : AreFirstEntries es qs n l) (spans : AreSpans l'.numbers.items l'.spans.items) where
  -- the target is an earlier state
  firsts_same : (r : ℕ) → entries_in l'.numbers.items l'.spans.items ≡ entries_in l.numbers.items l.spans.items → AreFirstEntries (es ++ e ∷ []) (qs ++ r ∷ []) n l'
  firsts_same r same = record {
    spans = spans;
    size = ap length same ∙ old.size;
    are = λ q d low. subst (λ (x : Entry). IsFirstWith (es ++ e ∷ []) (qs ++ r ∷ []) q x) (ap (λ (xs : List Entry). get_or xs q d) (sym same)) (first_stays es qs e r q (get_or (entries_in l.numbers.items l.spans.items) q d) count (old.are q d low));
  }

  -- or the next new one
  firsts_more : ((k : ℕ) → k < length qs → get_or qs k 0 < n) → (m : ℕ) → m ≡ n + 1 → entries_in l'.numbers.items l'.spans.items ≡ entries_in l.numbers.items l.spans.items ++ e ∷ [] → AreFirstEntries (es ++ e ∷ []) (qs ++ n ∷ []) m l'
  firsts_more below m next more =
      let fs = entries_in l.numbers.items l.spans.items in
      let size : length (fs ++ e ∷ []) ≡ m = length_push fs e ∙ (ap (λ k. k + 1) old.size ∙ sym next) in
      record {
        spans = spans;
        size = ap length more ∙ size;
        are = λ q d low. subst (λ (x : Entry). IsFirstWith (es ++ e ∷ []) (qs ++ n ∷ []) q x) (ap (λ (xs : List Entry). get_or xs q d) (sym more)) (⊎_elim
            (λ b. subst (λ (x : Entry). IsFirstWith (es ++ e ∷ []) (qs ++ n ∷ []) q x) (sym (get_or_append_left fs (e ∷ []) d q (omega (arith, old.size)))) (first_stays es qs e n q (get_or fs q d) count (old.are q d b)))
            (λ b.
            let at : n ≡ q = omega (arith, next) in
            let last : get_or (fs ++ e ∷ []) q d ≡ e = get_or_push fs e d q (old.size ∙ at) in
            subst (λ (k : ℕ). IsFirstWith (es ++ e ∷ []) (qs ++ n ∷ []) k (get_or (fs ++ e ∷ []) q d)) at
            (subst (λ (x : Entry). IsFirstWith (es ++ e ∷ []) (qs ++ n ∷ []) n x) (sym last) (first_greater es qs e n count below)))
            (cases_lt q n));
      }

-- Result: one more entry with its target
pub firsts_given : (m : Made) (e : Entry) (q : ℕ) (l l' : EntryList) → length m.targets ≡ length m.entries → ((k : ℕ) → k < length m.targets → get_or m.targets k 0 < length m.presences) → AreFirstEntries m.entries m.targets (length m.presences) l → AreSpans l'.numbers.items l'.spans.items
    → entries_in l'.numbers.items l'.spans.items ≡ (if q == length m.presences then entries_in l.numbers.items l.spans.items ++ e ∷ [] else entries_in l.numbers.items l.spans.items) → AreFirstEntries (m.entries ++ e ∷ []) (m.targets ++ q ∷ []) (length (given m e q).presences) l'
firsts_given m e q l l' count below old spans noted =
    let n = length m.presences in
    let fs = entries_in l.numbers.items l.spans.items in
    let grown = m.presences ++ presence e.symbol ∷ [] in
    let F : ℕ → ℕ → Type 0 = λ r k. AreFirstEntries (m.entries ++ e ∷ []) (m.targets ++ r ∷ []) k l' in
    ⊎_elim
    (λ (h : q ≡ n).
    let size : length (given m e q).presences ≡ n + 1 = ap length (if_equal q n grown m.presences h) ∙ length_push m.presences (presence e.symbol) in
    subst (λ (r : ℕ). F r (length (given m e q).presences)) (sym h) (firsts_more m.entries m.targets n l l' e count old spans below (length (given m e q).presences) size (noted ∙ if_equal q n (fs ++ e ∷ []) fs h)))
    (λ (h : q ≡ n → ⊥).
    let size : n ≡ length (given m e q).presences = ap length (sym (if_apart q n grown m.presences h)) in
    subst (F q) size (firsts_same m.entries m.targets n l l' e count old spans q (noted ∙ if_apart q n (fs ++ e ∷ []) fs h)))
    (cases_eq q n)
