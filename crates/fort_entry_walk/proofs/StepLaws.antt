-- The next entry, from the list of the entries after a place.
use Rattle.std.proofs.Common.{◌≡◌, ℕ, Bool, true, false, ◌-◌, ◌<◌, ◌≤◌, List, [], ◌∷◌, ◌++◌, map, length, refl, ap, sym, ◌∙◌, arith, subst, inl, inr, ⊎_elim}
use Rattle.fort_theory.specs.Signatures.{Signature}
use Rattle.fort_tables.specs.Entries.{Entry, entry, stage, IsNextEntry, IsLastEntry}
use Rattle.fort_tables.proofs.OrderLaws.{stage_within}
use Rattle.fort_tuple_symbols.specs.Columns.{symbol_of}
use Rattle.fort_tuple_symbols.specs.DigitNumbers.{AreUpTo}
use Rattle.fort_entry_walk.specs.WalkPlaces.{wants, Place, place, entry_at, IsPlace, IsStep}
use Rattle.fort_entry_walk.specs.Walks.{stage_kids_after, entries_after, some_if}
use Rattle.fort_entry_walk.specs.WalkFacts.{IsFound, IsFirstAfter, IsSameButDigits, IsNextKids, later_entries}
use Rattle.fort_entry_walk.specs.declared.walk.Walk.{Walk}
use Rattle.fort_entry_walk.proofs.InLaws.{In}
use Rattle.fort_entry_walk.proofs.EntryMembers.{In-after, from_after}

-- a place past all states has no entry after it
pub nothing_past : (sig : Signature) (ps : List ℕ) (pl : Place) → IsPlace sig pl → length ps < pl.stage → IsLastEntry sig (length pl.digits) ps (entry_at pl)
nothing_past sig ps pl p l x h b =
    let below : stage x.kids ≤ length ps = stage_within (length ps) x.kids h.within in
    ⊎_elim (λ m. omega (arith, p.stage, below)) (λ e. omega (arith, p.stage, below, e.0)) b

nothing_there : (sig : Signature) (ps : List ℕ) (pl : Place) → IsPlace sig pl → entries_after sig ps pl ≡ [] → IsLastEntry sig (length pl.digits) ps (entry_at pl)
nothing_there sig ps pl p e x h b = subst (λ (l : List Entry). In x l) e (In-after sig ps pl x p h b)

next_there : (sig : Signature) (ps : List ℕ) (old new : Place) → IsPlace sig old → IsPlace sig new → length new.digits ≡ length old.digits → old.stage ≤ length ps → new.stage ≤ length ps → entries_after sig ps old ≡ entry_at new ∷ entries_after sig ps new → IsNextEntry sig (length old.digits) ps (entry_at old) (entry_at new)
next_there sig ps old new p q w l m e =
    let head = from_after sig ps old (entry_at new) p l (subst (λ (es : List Entry). In (entry_at new) es) (sym e) (inl refl)) in
    record {
      is_entry = head.0;
      after = head.1;
      first = λ x h b. ⊎_elim (λ s. inl (sym s)) (λ i. inr (from_after sig ps new x q m i).1) (subst (λ (es : List Entry). In x es) e (In-after sig ps old x p h b));
    }

-- the next one has the same symbol
pub next_same_symbol : (sig : Signature) (ps : List ℕ) (pl : Place) (ks : List ℕ) → IsPlace sig pl → pl.stage ≤ length ps → stage ks ≡ pl.stage → AreUpTo (pl.stage - 1) ks → stage_kids_after ps pl.stage (wants sig (symbol_of pl.digits)) pl.kids ≡ ks ∷ stage_kids_after ps pl.stage (wants sig (symbol_of pl.digits)) ks → IsNextEntry sig (length pl.digits) ps (entry_at pl) (entry (symbol_of pl.digits) ks)
next_same_symbol sig ps pl ks p l s u e =
    let new : Place = record { stage = pl.stage; digits = pl.digits; kids = ks; wanted = pl.wanted } in
    next_there sig ps pl new p (record { stage = s; digits = p.digits; kids = u; wanted = p.wanted }) refl l l (ap (λ ls. map (entry (symbol_of pl.digits)) ls ++ later_entries sig ps pl.stage pl.digits) e)

-- a walk that only went on to its symbol's next child states goes to the next entry
pub kids_next : (sig : Signature) (ps : List ℕ) (old new : Walk) → IsPlace sig (place old) → IsNextKids ps old new → IsNextEntry sig (length old.digits) ps (entry_at (place old)) (entry_at (place new))
kids_next sig ps old new p h =
    let next = subst (λ (ws : List ℕ). stage_kids_after ps old.stage ws old.kids ≡ new.kids ∷ stage_kids_after ps old.stage ws new.kids) p.wanted h.next in
    subst (λ (ds : List ℕ). IsNextEntry sig (length old.digits) ps (entry_at (place old)) (entry (symbol_of ds) new.kids)) (sym h.digits)
    (next_same_symbol sig ps (place old) new.kids p h.within h.at_stage h.states next)

-- no other child states of its symbol, at the symbol's own presences
pub last_kids : (sig : Signature) (ps : List ℕ) (pl : Place) → IsPlace sig pl → stage_kids_after ps pl.stage pl.wanted pl.kids ≡ [] → stage_kids_after ps pl.stage (wants sig (symbol_of pl.digits)) pl.kids ≡ []
last_kids sig ps pl p h = subst (λ (ws : List ℕ). stage_kids_after ps pl.stage ws pl.kids ≡ []) p.wanted h

-- the next one has a later symbol
pub next_found : (sig : Signature) (ps : List ℕ) (pl new : Place) → IsPlace sig pl → pl.stage ≤ length ps → stage_kids_after ps pl.stage (wants sig (symbol_of pl.digits)) pl.kids ≡ [] → IsFound sig ps pl.stage pl.digits new → IsNextEntry sig (length pl.digits) ps (entry_at pl) (entry_at new)
next_found sig ps pl new p l none f =
    next_there sig ps pl new p f.placed f.width l f.within (ap (λ ls. map (entry (symbol_of pl.digits)) ls ++ later_entries sig ps pl.stage pl.digits) none ∙ f.next)

pub next_none : (sig : Signature) (ps : List ℕ) (pl : Place) → IsPlace sig pl → stage_kids_after ps pl.stage (wants sig (symbol_of pl.digits)) pl.kids ≡ [] → later_entries sig ps pl.stage pl.digits ≡ [] → IsLastEntry sig (length pl.digits) ps (entry_at pl)
next_none sig ps pl p none rest =
    nothing_there sig ps pl p (ap (λ ls. map (entry (symbol_of pl.digits)) ls ++ later_entries sig ps pl.stage pl.digits) none ∙ rest)

-- the step to the next symbol, where the symbol has no other child states
pub symbol_step : (sig : Signature) (ps : List ℕ) (old new : Walk) (went : Bool) → IsPlace sig (place old) → old.stage ≤ length ps → stage_kids_after ps old.stage (wants sig (symbol_of old.digits)) old.kids ≡ [] → IsFirstAfter sig ps old.stage old.digits (some_if went new) → (went ≡ false → new ≡ old) → IsStep sig ps (place old) (place new) went
symbol_step sig ps old new true p l none f stays = next_found sig ps (place old) (place new) p l none f
symbol_step sig ps old new false p l none f stays = (next_none sig ps (place old) p none f, ap place (stays refl))

-- a walk that got its digits back is as it was
pub same_walk : (old new : Walk) (ds : List ℕ) → IsSameButDigits old new → ds ≡ old.digits → new.arities ≡ old.arities → record { stage = new.stage; digits = ds; kids = new.kids; wanted = new.wanted; arities = new.arities } ≡ old
same_walk old new ds s d a = rw (d, s.stage, s.kids, s.wanted, a) refl
