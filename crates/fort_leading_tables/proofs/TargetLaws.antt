-- Entries are told by their numbers, and so is the target of one that is listed.
use Rattle.std.proofs.Common.{◌≡◌, ℕ, ◌<◌, ◌≤◌, List, [], ◌∷◌, ◌++◌, map, take, drop, length, get_or, ap, sym, ◌∙◌, arith, ⊎_elim}
use Rattle.std.specs.Prelude.{Contains}
use Rattle.std.proofs.lemmas.Bool.{cases_lt}
use Rattle.std.proofs.lemmas.List.{length-map, get_or-map, map-append, length_push, get_or_push, get_or_append_left, get_or_default}
use Rattle.std.proofs.Math.Seq.{take-append_seam, drop-append_seam}
use Rattle.fort_tables.specs.Entries.{Entry}
use Rattle.fort_tables.specs.Tables.{target_in}
use Rattle.fort_tables.proofs.EntryLaws.{target_found}
use Rattle.fort_tuple_symbols.specs.Columns.{digit_of, symbol_of}
use Rattle.fort_tuple_symbols.proofs.Bounds.{symbol_again}
use Rattle.fort_leading_tables.specs.EntryNumbers.{numbers_of, AreTargetsOf}
use Rattle.fort_leading_tables.specs.declared.leading_targets.LeadingTargets.{LeadingTargets}

-- entries of one width with the same numbers are one
pub numbers_one : (a b : Entry) → length a.symbol ≡ length b.symbol → numbers_of a ≡ numbers_of b → a ≡ b
numbers_one a b l e =
    let da : List ℕ = map digit_of a.symbol in
    let db : List ℕ = map digit_of b.symbol in
    let n : length da ≡ length db = length-map a.symbol digit_of ∙ (l ∙ sym (length-map b.symbol digit_of)) in
    let digits : da ≡ db = sym (take-append_seam da a.kids) ∙ (ap (take (length da)) e ∙ (ap (λ k. take k (db ++ b.kids)) n ∙ take-append_seam db b.kids)) in
    let kids : a.kids ≡ b.kids = sym (drop-append_seam da a.kids) ∙ (ap (drop (length da)) e ∙ (ap (λ k. drop k (db ++ b.kids)) n ∙ drop-append_seam db b.kids)) in
    let symbol : a.symbol ≡ b.symbol = sym (symbol_again a.symbol) ∙ (ap symbol_of digits ∙ symbol_again b.symbol) in
    λ i. record { symbol = symbol i; kids = kids i }

module _ (columns : ℕ) (es : List Entry) (qs : List ℕ) (t : LeadingTargets) (e : Entry) (are : AreTargetsOf columns es qs t) (w : length e.symbol ≡ columns) where
  -- where the numbers of the entry stand, it stands in the list
  pub stands_there : (q : ℕ) → q < length t.entries → get_or t.entries q [] ≡ numbers_of e → (q < length es) × (get_or es q e ≡ e)
  stands_there q l h =
      let low : q < length es = omega (arith, ap length are.numbers, length-map es numbers_of) in
      let at : numbers_of (get_or es q e) ≡ numbers_of e = sym (get_or-map numbers_of es q e [] low) ∙ (sym (ap (λ (xs : List (List ℕ)). get_or xs q []) are.numbers) ∙ h) in
      (low, numbers_one (get_or es q e) e (are.widths q e low ∙ sym w) at)

  -- an entry that isn't listed has no place by its numbers
  pub not_there : (Contains es e → ⊥) → (q : ℕ) → q < length t.entries → get_or t.entries q [] ≡ numbers_of e → ⊥
  not_there missing q l h = let s = stands_there q l h in missing (q, s.0, s.1)

  -- and one that is listed has one
  pub is_there : Contains es e → ((q : ℕ) → q < length t.entries → get_or t.entries q [] ≡ numbers_of e → ⊥) → ⊥
  is_there c none =
      let k = c.0 in
      let l : k < length t.entries = omega (arith, c.1, ap length are.numbers, length-map es numbers_of) in
      none k l (ap (λ (xs : List (List ℕ)). get_or xs k []) are.numbers ∙ (get_or-map numbers_of es k e [] c.1 ∙ ap numbers_of c.2))

  -- Result: where the target stands
  pub target_there : (q : ℕ) → q < length t.entries → get_or t.entries q [] ≡ numbers_of e → target_in es qs e ≡ get_or qs q 0
  target_there q l h =
      let s = stands_there q l h in
      let f = target_found es qs e q s.0 s.1 (omega (arith, are.count)) in
      let same : f.place ≡ q = are.once f.place q e f.within s.0 (f.is ∙ sym s.1) in
      f.target ∙ ap (λ i. get_or qs i 0) same

  -- Result: one more entry, if it isn't listed yet, with its target
  pub targets_push : (x : ℕ) (t' : LeadingTargets) → (Contains es e → ⊥) → t'.entries ≡ t.entries ++ numbers_of e ∷ [] → t'.targets.items ≡ t.targets.items ++ x ∷ [] → AreTargetsOf columns (es ++ e ∷ []) (qs ++ x ∷ []) t'
  targets_push x t' missing entries targets =
      let count = length_push es e in
      let left : (k : ℕ) (d : Entry) → k < length es → get_or (es ++ e ∷ []) k d ≡ get_or es k d = λ k d l. get_or_append_left es (e ∷ []) d k l in
      let last : (k : ℕ) (d : Entry) → k < length (es ++ e ∷ []) → length es ≤ k → get_or (es ++ e ∷ []) k d ≡ e = λ k d l m. get_or_push es e d k (omega (arith, count)) in
      let apart : (k : ℕ) (d : Entry) → k < length es → get_or es k d ≡ e → ⊥ = λ k d l s. missing (k, l, get_or_default es k e d l ∙ s) in
      record {
        numbers = entries ∙ (ap (λ (xs : List (List ℕ)). xs ++ numbers_of e ∷ []) are.numbers ∙ sym (map-append numbers_of es (e ∷ [])));
        targets = targets ∙ ap (λ (xs : List ℕ). xs ++ x ∷ []) are.targets;
        count = omega (arith, are.count, length_push qs x, count);
        widths = λ k d l. ⊎_elim
            (λ m. ap (λ (y : Entry). length y.symbol) (left k d m) ∙ are.widths k d m)
            (λ m. ap (λ (y : Entry). length y.symbol) (last k d l m) ∙ w)
            (cases_lt k (length es));
        once = λ i j d l m s. ⊎_elim
            (λ a. ⊎_elim
            (λ b. are.once i j d a b (sym (left i d a) ∙ (s ∙ left j d b)))
            (λ b. absurd (apart i d a (sym (left i d a) ∙ (s ∙ last j d m b))))
            (cases_lt j (length es)))
            (λ a. ⊎_elim
            (λ b. absurd (apart j d b (sym (left j d b) ∙ (sym s ∙ last i d l a))))
            (λ b. omega (arith, count))
            (cases_lt j (length es)))
            (cases_lt i (length es));
      }
