-- Where a walk begins, and what it finds first.
use Rattle.std.proofs.Common.{◌≡◌, ℕ, zero, suc, ◌+◌, ◌-◌, ◌<◌, ◌≤◌, List, [], ◌∷◌, ◌++◌, map, length, replicate, refl, ap, sym, ◌∙◌, arith, subst}
use Rattle.std.proofs.lemmas.List.{length-replicate, append_assoc}
use Rattle.fort_theory.specs.Signatures.{Signature}
use Rattle.fort_tables.specs.Tuples.{TupleSymbol, symbol_kids}
use Rattle.fort_tables.specs.Entries.{Entry, entry}
use Rattle.fort_tuple_symbols.specs.Columns.{symbol_of}
use Rattle.fort_tuple_symbols.specs.DigitNumbers.{AreUpTo}
use Rattle.fort_entry_walk.specs.WalkPlaces.{Place, wants_from, wants, entry_at}
use Rattle.fort_entry_walk.specs.Walks.{digits_after, stage_kids_after, stage_entries, stages, entries_after}
use Rattle.fort_entry_walk.specs.WalkFacts.{in_stage_after, later_entries, IsInStage, IsFound}

pub AreUpTo-zeros : (n c : ℕ) → AreUpTo n (replicate c 0)
AreUpTo-zeros n zero = tt
AreUpTo-zeros n (suc c) = (omega arith, AreUpTo-zeros n c)

pub length-wants_from : (sig : Signature) (f : TupleSymbol) (j n : ℕ) → length (wants_from sig f j n) ≡ n
length-wants_from sig f j zero = refl
length-wants_from sig f j (suc n) = ap suc (length-wants_from sig f (j + 1) n)

pub later_next : (sig : Signature) (ps : List ℕ) (s : ℕ) (ds : List ℕ) → s < length ps → stage_entries sig ps s (digits_after (length sig) ds) ≡ [] → later_entries sig ps (s + 1) (replicate (length ds) 0) ≡ later_entries sig ps s ds
later_next sig ps s ds l none =
    let zs : List ℕ = replicate (length ds) 0 in
    let k : length ps - s ≡ suc (length ps - (s + 1)) = omega arith in
    sym (ap (λ es. es ++ stages sig (length ds) ps (s + 1) (length ps - s)) none
    ∙ (ap (stages sig (length ds) ps (s + 1)) k
    ∙ ap (λ c. stage_entries sig ps (s + 1) (digits_after (length sig) zs) ++ stages sig c ps (s + 1 + 1) (length ps - (s + 1))) (sym (length-replicate (length ds) 0))))

kids_of_zeros : (sig : Signature) (n : ℕ) → symbol_kids sig (symbol_of (replicate n 0)) ≡ 0
kids_of_zeros sig zero = refl
kids_of_zeros sig (suc n) = kids_of_zeros sig n

pub wants_of_zeros : (sig : Signature) (n : ℕ) → [] ≡ wants sig (symbol_of (replicate n 0))
wants_of_zeros sig n = sym (ap (wants_from sig (symbol_of (replicate n 0)) 0) (kids_of_zeros sig n))

found_here : (sig : Signature) (ps ds : List ℕ) (p : Place) → length p.digits ≡ length ds → stage_entries sig ps p.stage (digits_after (length sig) ds) ≡ entry_at p ∷ in_stage_after sig ps p.stage p.digits p.kids → later_entries sig ps p.stage ds ≡ entry_at p ∷ entries_after sig ps p
found_here sig ps ds p width next =
    let f = symbol_of p.digits in
    let here = map (entry f) (stage_kids_after ps p.stage (wants sig f) p.kids) in
    let same = stage_entries sig ps p.stage (digits_after (length sig) p.digits) in
    let later : ℕ → List Entry = λ c. stages sig c ps (p.stage + 1) (length ps - p.stage) in
    ap (λ es. es ++ later (length ds)) next
    ∙ (ap (λ es. entry_at p ∷ es) (append_assoc here same (later (length ds)))
    ∙ ap (λ c. entry_at p ∷ (here ++ (same ++ later c))) (sym width))

-- the first entry of a stage is the first of it and all later ones
pub found_there : (sig : Signature) (ps : List ℕ) (s first : ℕ) (ds from : List ℕ) (p : Place) → s ≤ length ps → length ds ≡ length from → later_entries sig ps s ds ≡ later_entries sig ps first from → IsInStage sig ps s ds p → IsFound sig ps first from p
found_there sig ps s first ds from p l width same h =
    let next = subst (λ (k : ℕ). stage_entries sig ps k (digits_after (length sig) ds) ≡ entry_at p ∷ in_stage_after sig ps k p.digits p.kids) (sym h.at_stage) h.next in
    record {
      placed = h.placed;
      within = omega (arith, h.at_stage);
      width = h.width ∙ width;
      first = h.first;
      next = sym same ∙ subst (λ (k : ℕ). later_entries sig ps k ds ≡ entry_at p ∷ entries_after sig ps p) h.at_stage (found_here sig ps ds p h.width next);
    }
