-- The next leading entry, from the list of the leading entries after a place.
use Rattle.std.proofs.Common.{◌≡◌, ℕ, ◌-◌, ◌≤◌, List, [], ◌∷◌, filter, length, Bool, true, refl, arith, sym, subst, inl, inr, ⊎_elim}
use Rattle.fort_theory.specs.Signatures.{Signature}
use Rattle.fort_theory.proofs.Members.{Contains-filter, Contains-from_filter}
use Rattle.fort_tables.specs.Entries.{Entry, stage}
use Rattle.fort_tuple_symbols.specs.DigitNumbers.{AreUpTo}
use Rattle.fort_classes.specs.Leaders.{Leaders}
use Rattle.fort_classes.specs.Firsts.{IsNextLeading}
use Rattle.fort_entry_walk.specs.WalkPlaces.{Place, entry_at, IsPlace}
use Rattle.fort_entry_walk.specs.Walks.{entries_after}
use Rattle.fort_entry_walk.proofs.InLaws.{In, Contains-from_In, In-from_Contains}
use Rattle.fort_entry_walk.proofs.EntryMembers.{In-after, from_after}
use Rattle.fort_leading_walk.specs.LeadingPlaces.{IsLastLeading}
use Rattle.fort_leading_walk.specs.LeadingFacts.{leads, leading_after}
use Rattle.fort_leading_walk.proofs.LeadTests.{leads_from_test, test_from_leads}

-- members of a list that pass a test
pub In-filter : {A : Type 0} (p : A → Bool) (x : A) (xs : List A) → In x xs → p x ≡ true → In x (filter p xs)
In-filter p x xs h t = In-from_Contains x (filter p xs) (Contains-filter p xs x (Contains-from_In x xs h) t)

pub In-from_filter : {A : Type 0} (p : A → Bool) (x : A) (xs : List A) → In x (filter p xs) → In x xs × (p x ≡ true)
In-from_filter p x xs h =
    let r = Contains-from_filter p xs x (Contains-from_In x (filter p xs) h) in
    (In-from_Contains x xs r.0, r.1)

-- Result: the first of them is the next one
pub next_leading : (sig : Signature) (ps : List ℕ) (lead : Leaders) (old new : Place) → IsPlace sig old → IsPlace sig new → old.stage ≤ length ps → new.stage ≤ length ps → leading_after sig ps lead old ≡ entry_at new ∷ leading_after sig ps lead new
    → IsNextLeading sig (length old.digits) ps lead (entry_at old) (entry_at new)
next_leading sig ps lead old new p q l m e =
    let test = leads lead in
    let head = In-from_filter test (entry_at new) (entries_after sig ps old) (subst (λ (es : List Entry). In (entry_at new) es) (sym e) (inl refl)) in
    let is = from_after sig ps old (entry_at new) p l head.0 in
    record {
      among = record { entry = is.0; leads = leads_from_test lead (entry_at new) head.1 };
      has = is.1;
      first = λ x h b.
          let there = In-filter test x (entries_after sig ps old) (In-after sig ps old x p h.entry b) (test_from_leads lead x h.leads) in
          ⊎_elim (λ s. inl (sym s)) (λ i. inr (from_after sig ps new x q m (In-from_filter test x (entries_after sig ps new) i).0).1)
          (subst (λ (es : List Entry). In x es) e there);
    }

-- Result: where there is none, none comes
pub last_leading : (sig : Signature) (ps : List ℕ) (lead : Leaders) (old : Place) → IsPlace sig old → leading_after sig ps lead old ≡ [] → IsLastLeading sig (length old.digits) ps lead (entry_at old)
last_leading sig ps lead old p e x h b =
    subst (λ (es : List Entry). In x es) e (In-filter (leads lead) x (entries_after sig ps old) (In-after sig ps old x p h.entry b) (test_from_leads lead x h.leads))

-- child states of a stage are before it
below_stage : (s : ℕ) (ks : List ℕ) → stage ks ≤ s → AreUpTo (s - 1) ks
below_stage s [] l = tt
below_stage s (k ∷ ks) l = (omega arith, below_stage s ks (omega arith))

pub up_to_stage : (s : ℕ) (ks : List ℕ) → stage ks ≡ s → AreUpTo (s - 1) ks
up_to_stage s ks e = below_stage s ks (omega arith)
