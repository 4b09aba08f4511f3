-- Entries as digits and child states one behind another, and one more entry.
use Rattle.std.proofs.Common.{◌≡◌, ℕ, suc, ◌+◌, ◌≤◌, List, [], ◌∷◌, ◌++◌, map, take, drop, length, get_or, refl, ap, sym, ◌∙◌, arith, subst, length-append, append_assoc}
use Rattle.std.proofs.Math.Seq.{drop-append_seam, drop-append-add, take-append_seam}
use Rattle.std.proofs.lemmas.List.{length-drop, take_all, take-append-le, drop-append-le, map_push}
use Rattle.std.proofs.lemmas.List.Elements.{All-push}
use Rattle.fort_tables.specs.Entries.{Entry, entry}
use Rattle.fort_tuple_symbols.specs.Columns.{digit_of, symbol_of}
use Rattle.fort_table.specs.EntryListFacts.{digits_in, kids_in, entry_in, entries_in, IsSpan, AreSpans}
use Rattle.fort_table.specs.declared.entry_list.EntrySpan.{EntrySpan}
use Rattle.fort_tuple_symbols.proofs.Bounds.{symbol_again}

part_stays : (n from : ℕ) (xs ys : List ℕ) → from + n ≤ length xs → take n (drop from (xs ++ ys)) ≡ take n (drop from xs)
part_stays n from xs ys l = ap (take n) (drop-append-le from xs ys (omega (arith, l))) ∙ take-append-le n (drop from xs) ys (omega (arith, l, length-drop from xs))

entry_stays : (numbers more : List ℕ) (s : EntrySpan) → IsSpan numbers s → entry_in (numbers ++ more) s ≡ entry_in numbers s
entry_stays numbers more s h =
    let ds = part_stays s.digits s.start numbers more (omega (arith, h.within)) in
    let ks = part_stays s.kids (s.start + s.digits) numbers more (omega (arith, h.within)) in
    λ i. entry (symbol_of (ds i)) (ks i)

span_stays : (numbers more : List ℕ) (s : EntrySpan) → IsSpan numbers s → IsSpan (numbers ++ more) s
span_stays numbers more s h = record {
  within = omega (arith, h.within, length-append numbers more);
  few_digits = h.few_digits;
  few_kids = h.few_kids;
  small = λ k. subst (λ ds. get_or ds k 0 ≤ 65536) (sym (part_stays s.digits s.start numbers more (omega (arith, h.within)))) (h.small k);
}

entries_stay : (numbers more : List ℕ) (ss : List EntrySpan) → AreSpans numbers ss → entries_in (numbers ++ more) ss ≡ entries_in numbers ss
entries_stay numbers more [] h = refl
entries_stay numbers more (s ∷ ss) h =
    let first = entry_stays numbers more s (h 0 s (omega arith)) in
    let others = entries_stay numbers more ss (λ k d l. h (suc k) d (omega (arith, l))) in
    λ i. first i ∷ others i

-- a span of these digits and child states at the end of the numbers
record IsLastSpan (numbers ds ks : List ℕ) (s : EntrySpan) : Type 0 where
  pub start : s.start ≡ length numbers
  pub digits : s.digits ≡ length ds
  pub kids : s.kids ≡ length ks

last_digits : (numbers ds ks : List ℕ) (s : EntrySpan) → IsLastSpan numbers ds ks s → digits_in (numbers ++ (ds ++ ks)) s ≡ ds
last_digits numbers ds ks s h =
    (λ i. take (h.digits i) (drop (h.start i) (numbers ++ (ds ++ ks))))
    ∙ (ap (take (length ds)) (drop-append_seam numbers (ds ++ ks)) ∙ take-append_seam ds ks)

last_kids : (numbers ds ks : List ℕ) (s : EntrySpan) → IsLastSpan numbers ds ks s → kids_in (numbers ++ (ds ++ ks)) s ≡ ks
last_kids numbers ds ks s h =
    (λ i. take (h.kids i) (drop (h.start i + h.digits i) (numbers ++ (ds ++ ks))))
    ∙ (ap (take (length ks)) (drop-append-add numbers (ds ++ ks) (length ds) ∙ drop-append_seam ds ks) ∙ take_all (length ks) ks (omega arith))

last_is_span : (numbers ds ks : List ℕ) (s : EntrySpan) → IsLastSpan numbers ds ks s → length ds ≤ 16 → length ks ≤ 8 → ((k : ℕ) → get_or ds k 0 ≤ 65536) → IsSpan (numbers ++ (ds ++ ks)) s
last_is_span numbers ds ks s h few_ds few_ks small = record {
  within = omega (arith, h.start, h.digits, h.kids, length-append numbers (ds ++ ks), length-append ds ks);
  few_digits = omega (arith, h.digits, few_ds);
  few_kids = omega (arith, h.kids, few_ks);
  small = λ k. subst (λ xs. get_or xs k 0 ≤ 65536) (sym (last_digits numbers ds ks s h)) (small k);
}

pub record IsEntryPushed (numbers new : List ℕ) (spans all : List EntrySpan) (e : Entry) : Type 0 where
  pub lawful : AreSpans new all
  pub entries : entries_in new all ≡ entries_in numbers spans ++ e ∷ []

-- one more entry, whose digits and child states are written behind the others
pub entry_pushed : (numbers new ds ks : List ℕ) (spans all : List EntrySpan) (s : EntrySpan) (e : Entry) → AreSpans numbers spans → new ≡ numbers ++ ds ++ ks → all ≡ spans ++ s ∷ [] → s.start ≡ length numbers → s.digits ≡ length ds
    → s.kids ≡ length ks → length ds ≤ 16 → length ks ≤ 8 → ((k : ℕ) → get_or ds k 0 ≤ 65536) → ds ≡ map digit_of e.symbol → ks ≡ e.kids → IsEntryPushed numbers new spans all e
entry_pushed numbers new ds ks spans all s e lawful new_is all_is start digits kids few_ds few_ks small symbol_is kids_are =
    let h : IsLastSpan numbers ds ks s = record { start = start; digits = digits; kids = kids } in
    let is = new_is ∙ append_assoc numbers ds ks in
    let old : AreSpans (numbers ++ (ds ++ ks)) spans = λ k d l. span_stays numbers (ds ++ ks) (get_or spans k d) (lawful k d l) in
    let both = All-push (IsSpan (numbers ++ (ds ++ ks))) spans s old (last_is_span numbers ds ks s h few_ds few_ks small) in
    let symbol = ap symbol_of (last_digits numbers ds ks s h ∙ symbol_is) ∙ symbol_again e.symbol in
    let last : entry_in (numbers ++ (ds ++ ks)) s ≡ e = λ i. entry (symbol i) ((last_kids numbers ds ks s h ∙ kids_are) i) in
    record {
      lawful = subst (λ ns. AreSpans ns all) (sym is) (subst (λ (ss : List EntrySpan). AreSpans (numbers ++ (ds ++ ks)) ss) (sym all_is) both);
      entries = (λ i. entries_in (is i) (all_is i))
          ∙ (map_push (entry_in (numbers ++ (ds ++ ks))) spans s
          ∙ (λ i. entries_stay numbers (ds ++ ks) spans lawful i ++ last i ∷ []));
    }
