-- Rows of bits for a closure: rows with no bit on, one more bit, one more entry; and the bits of one row added to another.
use Rattle.std.specs.Prelude.{◌≡◌, ◌⊎◌, ℕ, suc, ◌+◌, ◌<◌, List, [], ◌∷◌, ◌++◌, length, take, get_or, Contains, true, false, Decides, nat_lt, ◌&&◌, ◌||◌, ◌==◌, refl}
use Rattle.std.proofs.Common.{sym, ap, subst, ◌∙◌, arith, inl, inr}
use Rattle.std.proofs.lemmas.Bool.Decides.{Decides-eqb, Decides-ltb, Decides-like, Decides-and, Decides-or}
use Rattle.std.proofs.lemmas.List.{take_more, map-append}
use Rattle.std.proofs.lemmas.List.Elements.{Contains-append_left, Contains-append_right, Contains-append_cases}
use Rattle.fort_theory.proofs.Members.{Contains-none, Contains-cons_cases, Contains-head}
use Rattle.fort_tables.specs.BitRows.{words_for}
use Rattle.fort_alike.proofs.Bits.{Decides-false}
use Rattle.fort_findings.specs.declared.closure.ClosureEntry.{ClosureEntry}
use Rattle.fort_label_bits.specs.RowBits.{bit_of}
use Rattle.fort_context_closure.specs.ClosedAtoms.{numbers_of}
use Rattle.fort_context_closure.specs.declared.reach.Reach.{Reach}
use Rattle.fort_context_closure.specs.ReachRows.{firsts_of, seconds_of, is_within, IsReach, MarksEntry}
use Rattle.fort_label_bits.specs.BitRowLists.{row_in, SetsBit, AreClear}

-- one more entry

pub Decides-is_within : (lefts : ℕ) (reach : Reach) (entry : ClosureEntry)
    → Decides (is_within lefts reach entry) ((entry.p < length (firsts_of reach)) × (entry.q < lefts))
Decides-is_within lefts reach entry =
    Decides-and (nat_lt entry.p (length (firsts_of reach))) (nat_lt entry.q lefts) (Decides-ltb entry.p (length (firsts_of reach))) (Decides-ltb entry.q lefts)

module _ (lefts rights : ℕ) (reach new : Reach) (numbers : List (ℕ × ℕ)) (entry : ClosureEntry) (is : IsReach lefts rights numbers reach) (marks : MarksEntry lefts reach entry new) where
  abbrev further : List (ℕ × ℕ)
  further = numbers ++ (entry.p, entry.q) ∷ []

  pair-is : (p q : ℕ) → entry.p ≡ p → entry.q ≡ q → Contains further (p, q)
  pair-is p q e h =
      let same : (ℕ × ℕ) = (entry.p, entry.q) in
      let pair : same ≡ (p, q) = λ i. (e i, h i) in
      Contains-append_right numbers ((entry.p, entry.q) ∷ []) (p, q) (subst (Contains ((entry.p, entry.q) ∷ [])) pair (Contains-head same []))

  pair-cases : (p q : ℕ) → Contains further (p, q) → Contains numbers (p, q) ⊎ ((entry.p ≡ p) × (entry.q ≡ q))
  pair-cases p q c = elim (Contains-append_cases numbers ((entry.p, entry.q) ∷ []) (p, q) c) [
    | inl l ↦ inl l
    | inr r ↦ elim (Contains-cons_cases (entry.p, entry.q) [] (p, q) r) [
      | inl e ↦ inr (ap (λ (z : ℕ × ℕ). z.0) e, ap (λ (z : ℕ × ℕ). z.1) e)
      | inr n ↦ absurd (Contains-none (p, q) n)
    ]
  ]

  firsts-more : (p q : ℕ) → p < rights → Decides (bit_of q (row_in (firsts_of new) p)) ((q < lefts) × Contains further (p, q))
  firsts-more p q l =
      let size : length (firsts_of reach) ≡ rights = is.rows.first_count in
      subst (λ b. Decides b ((q < lefts) × Contains further (p, q))) (sym (marks.firsts p q))
      (Decides-like ((is_within lefts reach entry && ((entry.p == p) && (entry.q == q))) || bit_of q (row_in (firsts_of reach) p))
      (λ s. elim s [
        | inl w ↦ (let e : entry.q ≡ q = w.1.1 in let m : entry.q < lefts = w.0.1 in (omega (arith, e, m), pair-is p q w.1.0 w.1.1))
        | inr h ↦ (h.0, Contains-append_left numbers ((entry.p, entry.q) ∷ []) (p, q) h.1)
      ])
      (λ h. elim (pair-cases p q h.1) [
        | inl c ↦ inr (h.0, c)
        | inr w ↦ (let e = w.0 in let f = w.1 in let m = h.0 in inl ((omega (arith, e, l, size), omega (arith, f, m)), w))
      ])
      (Decides-or (is_within lefts reach entry && ((entry.p == p) && (entry.q == q))) (bit_of q (row_in (firsts_of reach) p))
      (Decides-and (is_within lefts reach entry) ((entry.p == p) && (entry.q == q)) (Decides-is_within lefts reach entry)
      (Decides-and (entry.p == p) (entry.q == q) (Decides-eqb entry.p p) (Decides-eqb entry.q q))) (is.firsts_are p q l)))

  seconds-more : (q k : ℕ) → q < lefts
      → Decides (bit_of k (row_in (seconds_of new) q)) ((p : ℕ) × (lefts + p ≡ k) × (p < rights) × Contains further (p, q))
  seconds-more q k l =
      let size : length (firsts_of reach) ≡ rights = is.rows.first_count in
      subst (λ b. Decides b ((p : ℕ) × (lefts + p ≡ k) × (p < rights) × Contains further (p, q))) (sym (marks.seconds q k))
      (Decides-like ((is_within lefts reach entry && ((entry.q == q) && (lefts + entry.p == k))) || bit_of k (row_in (seconds_of reach) q))
      (λ s. elim s [
        | inl w ↦ (let m : entry.p < length (firsts_of reach) = w.0.0 in (entry.p, w.1.1, omega (arith, m, size), pair-is entry.p q refl w.1.0))
        | inr h ↦ (h.0, h.1, h.2, Contains-append_left numbers ((entry.p, entry.q) ∷ []) (h.0, q) h.3)
      ])
      (λ h. elim (pair-cases h.0 q h.3) [
        | inl c ↦ inr (h.0, h.1, h.2, c)
        | inr w ↦ (
            let e : entry.p ≡ h.0 = w.0 in
            let f : entry.q ≡ q = w.1 in
            let at : lefts + h.0 ≡ k = h.1 in
            let m : h.0 < rights = h.2 in
            inl ((omega (arith, e, m, size), omega (arith, f, l)), (f, omega (arith, e, at)))
            )
      ])
      (Decides-or (is_within lefts reach entry && ((entry.q == q) && (lefts + entry.p == k))) (bit_of k (row_in (seconds_of reach) q))
      (Decides-and (is_within lefts reach entry) ((entry.q == q) && (lefts + entry.p == k)) (Decides-is_within lefts reach entry)
      (Decides-and (entry.q == q) (lefts + entry.p == k) (Decides-eqb entry.q q) (Decides-eqb (lefts + entry.p) k))) (is.seconds_are q k l)))

  pub IsReach-more : IsReach lefts rights further new
  IsReach-more = record {
    rows = record {
      first_count = marks.first_count ∙ is.rows.first_count;
      second_count = marks.second_count ∙ is.rows.second_count;
      first_width = λ p l. marks.first_widths p ∙ is.rows.first_width p l;
      second_width = λ q l. marks.second_widths q ∙ is.rows.second_width q l;
    };
    firsts_are = firsts-more;
    seconds_are = seconds-more;
  }

-- what the marks of an entry change

pub MarksEntry-none : (lefts : ℕ) (reach : Reach) (entry : ClosureEntry) → is_within lefts reach entry ≡ false → MarksEntry lefts reach entry reach
MarksEntry-none lefts reach entry off = record {
  first_count = refl;
  second_count = refl;
  first_widths = λ k. refl;
  second_widths = λ k. refl;
  firsts = λ p q. ap (λ t. (t && ((entry.p == p) && (entry.q == q))) || bit_of q (row_in (firsts_of reach) p)) (sym off);
  seconds = λ q k. ap (λ t. (t && ((entry.q == q) && (lefts + entry.p == k))) || bit_of k (row_in (seconds_of reach) q)) (sym off);
}

pub MarksEntry-both : (lefts : ℕ) (old new : Reach) (entry : ClosureEntry) → is_within lefts old entry ≡ true
    → SetsBit (firsts_of old) entry.p entry.q (firsts_of new) → SetsBit (seconds_of old) entry.q (lefts + entry.p) (seconds_of new) → MarksEntry lefts old entry new
MarksEntry-both lefts old new entry on f s = record {
  first_count = f.count;
  second_count = s.count;
  first_widths = f.widths;
  second_widths = s.widths;
  firsts = λ p q. f.bits p q ∙ ap (λ t. (t && ((entry.p == p) && (entry.q == q))) || bit_of q (row_in (firsts_of old) p)) (sym on);
  seconds = λ q k. s.bits q k ∙ ap (λ t. (t && ((entry.q == q) && (lefts + entry.p == k))) || bit_of k (row_in (seconds_of old) q)) (sym on);
}

-- before the first entry
pub IsReach-clear : (lefts rights width : ℕ) (reach : Reach) → width ≡ suc (words_for (lefts + rights)) → AreClear rights width (firsts_of reach) → AreClear lefts width (seconds_of reach)
    → IsReach lefts rights [] reach
IsReach-clear lefts rights width reach wide f s = record {
  rows = record {
    first_count = f.many;
    second_count = s.many;
    first_width = λ p l. f.widths p l ∙ wide;
    second_width = λ q l. s.widths q l ∙ wide;
  };
  firsts_are = λ p q l.
      let none : List (ℕ × ℕ) = [] in
      subst (λ b. Decides b ((q < lefts) × Contains none (p, q))) (sym (f.bits p q)) (Decides-false (λ h. Contains-none (p, q) h.1));
  seconds_are = λ q k l.
      let none : List (ℕ × ℕ) = [] in
      subst (λ b. Decides b ((p : ℕ) × (lefts + p ≡ k) × (p < rights) × Contains none (p, q))) (sym (s.bits q k)) (Decides-false (λ h. Contains-none (h.0, q) h.3));
}

-- one more entry of a list
pub IsReach-entry : (lefts rights : ℕ) (reach new : Reach) (es : List ClosureEntry) (i : ℕ) (entry : ClosureEntry) → i < length es → entry ≡ get_or es i entry
    → IsReach lefts rights (numbers_of (take i es)) reach → MarksEntry lefts reach entry new → IsReach lefts rights (numbers_of (take (i + 1) es)) new
IsReach-entry lefts rights reach new es i entry l at is marks =
    let number : ClosureEntry → ℕ × ℕ = λ (e : ClosureEntry). (e.p, e.q) in
    let more : numbers_of (take (i + 1) es) ≡ numbers_of (take i es) ++ (entry.p, entry.q) ∷ [] =
    ap numbers_of (take_more es i entry l) ∙ (map-append number (take i es) (get_or es i entry ∷ [])
    ∙ ap (λ (e : ClosureEntry). numbers_of (take i es) ++ (e.p, e.q) ∷ []) (sym at)) in
    subst (λ ns. IsReach lefts rights ns new) (sym more) (IsReach-more lefts rights reach new (numbers_of (take i es)) entry is marks)
