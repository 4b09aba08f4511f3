-- A maker gives the entry at which its walk stands a target.
use Rattle.std.proofs.Common.{◌≡◌, ℕ, ◌+◌, ◌<◌, ◌^◌, List, [], ◌∷◌, ◌++◌, length, get_or, Bool, true, false, ◌==◌, if◌then◌else◌, refl, ap, sym, ◌∙◌, arith, subst}
use Rattle.std.proofs.lemmas.List.{length_push}
use Rattle.fort_theory.specs.Signatures.{Signature}
use Rattle.fort_tables.specs.Tuples.{presence}
use Rattle.fort_tables.specs.Entries.{Entry, no_entry, IsNextEntry, IsLastEntry}
use Rattle.fort_tables.specs.Tables.{Made, IsMadeDue, IsAllowed, IsGiven}
use Rattle.fort_tables.proofs.EqualTests.{equal_from_test}
use Rattle.fort_tables.proofs.OrderLaws.{due_one}
use Rattle.fort_entry_walk.specs.WalkPlaces.{Place, entry_at, IsStep}
use Rattle.fort_lockstep.specs.Making.{Parts, made_of, IsPushed, IsMaking, IsStanding, IsUpTo, Stands}
use Rattle.fort_lockstep.specs.Fronts.{front_of}
use Rattle.fort_table.specs.EntryListFacts.{entries_in}
use Rattle.fort_table.specs.declared.entry_list.EntrySpan.{EntrySpan}
use Rattle.fort_lockstep.specs.StateFacts.{AreFirsts, IsSameStates, IsNoted, first_entries_in}
use Rattle.fort_lockstep.specs.MakerInside.{parts_with}
use Rattle.fort_lockstep.specs.declared.states.States.{States}
use Rattle.fort_lockstep.proofs.FrontLaws.{front_up_to}
use Rattle.fort_lockstep.proofs.FirstEntryLaws.{firsts_noted}
use Rattle.fort_lockstep.proofs.MakingLaws.{stands_next, stands_last, standing_due, making_none, up_to_none, Grown, grown}

-- where an entry is due, the walk stands at it
pub record AtDue (m : Made) (last e : Entry) : Type 0 where
  pub standing : IsStanding m.signature m.columns m.presences m.entries last
  pub same : last ≡ e

pub at_due : (m : Made) (last e : Entry) (b : Bool) → Stands m last b → IsMadeDue m e → AtDue m last e
at_due m last e true s d = record { standing = s; same = due_one m.signature m.columns m.presences m.entries last e (standing_due m last s) d }
at_due m last e false s d = absurd (d.missing (s e d.is_entry))

pub given_grown : (sig : Signature) (n : ℕ) (g g' : Parts) (row last e : Entry) (b : Bool) (q : ℕ) → IsMaking sig n g.presences g.firsts g.entries g.targets → Stands (made_of sig n g) last b → IsAllowed (made_of sig n g) e q → row ≡ last → IsPushed g row q g' → Grown sig n g'.presences g'.firsts g'.entries g'.targets last
given_grown sig n g g' row last e b q m s ok is h =
    let at = at_due (made_of sig n g) last e b s ok.due in
    let fits : q < length g.presences → get_or g.presences q 0 ≡ presence last.symbol = λ l. ok.fits l ∙ ap (λ (x : Entry). presence x.symbol) (sym at.same) in
    let pe = h.presences ∙ ap (λ (x : Entry). if q == length g.presences then g.presences ++ presence x.symbol ∷ [] else g.presences) is in
    let r = grown sig n g.presences g.firsts g.entries g.targets last q g'.presences g'.firsts m at.standing ok.known fits pe h.firsts in
    subst (λ (entries : List Entry). Grown sig n g'.presences g'.firsts entries g'.targets last) (sym (h.entries ∙ ap (λ (x : Entry). g.entries ++ x ∷ []) is))
    (subst (λ (qs : List ℕ). Grown sig n g'.presences g'.firsts (g.entries ++ last ∷ []) qs last) (sym h.targets) r)

pub given_is : (sig : Signature) (n : ℕ) (g g' : Parts) (row e : Entry) (q : ℕ) → row ≡ e → IsPushed g row q g' → IsGiven (made_of sig n g) e q (made_of sig n g')
given_is sig n g g' row e q is h = record {
  signature = refl;
  columns_are = refl;
  entries = h.entries ∙ ap (λ (x : Entry). g.entries ++ x ∷ []) is;
  targets = h.targets;
  presences = h.presences ∙ ap (λ (x : Entry). if q == length g.presences then g.presences ++ presence x.symbol ∷ [] else g.presences) is;
}

-- what is so once the entry at which the walk stands has its target
pub record IsGivenOn (sig : Signature) (n : ℕ) (old : Parts) (row last : Entry) (q : ℕ) (new : Parts) (first_entries : List Entry) : Type 0 where
  pub pushed : IsPushed old row q new
  pub firsts : AreFirsts new.entries new.firsts first_entries
  pub grown : Grown sig n new.presences new.firsts new.entries new.targets last

pub given_on : (sig : Signature) (n : ℕ) (g : Parts) (row last e : Entry) (b : Bool) (q place : ℕ) (ps' firsts' qs' : List ℕ) (frs frs' : List Entry)
    → IsMaking sig n g.presences g.firsts g.entries g.targets → Stands (made_of sig n g) last b → IsAllowed (made_of sig n g) e q → row ≡ last → AreFirsts g.entries g.firsts frs
    → ps' ≡ (if q == length g.presences then g.presences ++ presence row.symbol ∷ [] else g.presences)
    → firsts' ≡ (if q == length g.presences then g.firsts ++ place ∷ [] else g.firsts)
    → frs' ≡ (if q == length g.presences then frs ++ row ∷ [] else frs)
    → qs' ≡ g.targets ++ q ∷ [] → place ≡ length g.targets
    → IsGivenOn sig n g row last q (record { presences = ps'; firsts = firsts'; entries = front_of sig n ps' (length qs'); targets = qs' }) frs'
given_on sig n g row last e b q place ps' firsts' qs' frs frs' m s ok is a pe f fr t at =
    let place_is : place ≡ length g.entries = at ∙ m.count in
    let fe : firsts' ≡ (if q == length g.presences then g.firsts ++ length g.entries ∷ [] else g.firsts) = f ∙ ap (λ k. if q == length g.presences then g.firsts ++ k ∷ [] else g.firsts) place_is in
    let es : List Entry = g.entries ++ row ∷ [] in
    let g' : Parts = record { presences = ps'; firsts = firsts'; entries = es; targets = qs' } in
    let pushed : IsPushed g row q g' = record { presences = pe; firsts = fe; entries = refl; targets = t } in
    let r : Grown sig n ps' firsts' es qs' last = given_grown sig n g g' row last e b q m s ok is pushed in
    let front : es ≡ front_of sig n ps' (length qs') = front_up_to sig n ps' es last r.making.order r.up_to ∙ ap (λ k. front_of sig n ps' k) (sym r.making.count) in
    let P : List Entry → Type 0 = λ xs. IsGivenOn sig n g row last q (record { presences = ps'; firsts = firsts'; entries = xs; targets = qs' }) frs' in
    subst P front (record { pushed = pushed; firsts = firsts_noted g.entries g.firsts firsts' frs frs' row (q == length g.presences) a fe fr; grown = r })

-- the same by the states that were noted, in the room that was made for them
pub noted_on : (sig : Signature) (n : ℕ) (a s t : States) (qs qs' : List ℕ) (row last e : Entry) (b : Bool) (q place : ℕ)
    → IsMaking sig n a.presences.items a.firsts.items (parts_with sig n a qs).entries qs → Stands (made_of sig n (parts_with sig n a qs)) last b
    → IsAllowed (made_of sig n (parts_with sig n a qs)) e q → row ≡ last → AreFirsts (parts_with sig n a qs).entries a.firsts.items (first_entries_in a)
    → IsSameStates a s → IsNoted s row q place t → qs' ≡ qs ++ q ∷ [] → place ≡ length qs
    → IsGivenOn sig n (parts_with sig n a qs) row last q (parts_with sig n t qs') (first_entries_in t)
noted_on sig n a s t qs qs' row last e b q place m h ok is f same noted grown at =
    let p = presence row.symbol in
    let own = same.presences in
    let rows : first_entries_in s ≡ first_entries_in a =
    ap (λ (xs : List ℕ). entries_in xs s.first_entries.spans.items) same.numbers ∙ ap (λ (xs : List EntrySpan). entries_in a.first_entries.numbers.items xs) same.spans in
    given_on sig n (parts_with sig n a qs) row last e b q place t.presences.items t.firsts.items qs' (first_entries_in a) (first_entries_in t) m h ok is f
    (noted.presences ∙ ap (λ (ps : List ℕ). if q == length ps then ps ++ p ∷ [] else ps) own)
    (noted.firsts ∙ (ap (λ (ps : List ℕ). if q == length ps then s.firsts.items ++ place ∷ [] else s.firsts.items) own
    ∙ ap (λ (fs : List ℕ). if q == length a.presences.items then fs ++ place ∷ [] else fs) same.firsts))
    (noted.first_entries ∙ (ap (λ (ps : List ℕ). if q == length ps then first_entries_in s ++ row ∷ [] else first_entries_in s) own
    ∙ ap (λ (es : List Entry). if q == length a.presences.items then es ++ row ∷ [] else es) rows))
    grown at

pub stands_after : (m : Made) (old new : Place) (b : Bool) → IsUpTo m.signature m.columns m.presences m.entries (entry_at old) → length old.digits ≡ m.columns → IsStep m.signature m.presences old new b → Stands m (entry_at new) b
stands_after m old new true u w s = stands_next m (entry_at old) (entry_at new) u (subst (λ (n : ℕ). IsNextEntry m.signature n m.presences (entry_at old) (entry_at new)) w s)
stands_after m old new false u w s = stands_last m (entry_at old) u (subst (λ (n : ℕ). IsLastEntry m.signature n m.presences (entry_at old)) w s.0)

-- a maker at its start
pub new_making : (sig : Signature) (n : ℕ) (g : Parts) → g.presences ≡ [] → g.firsts ≡ [] → g.entries ≡ [] → g.targets ≡ [] → IsMaking sig n g.presences g.firsts g.entries g.targets
new_making sig n g p f r t =
    subst (λ (ps : List ℕ). IsMaking sig n ps g.firsts g.entries g.targets) (sym p)
    (subst (λ (fs : List ℕ). IsMaking sig n [] fs g.entries g.targets) (sym f)
    (subst (λ (rs : List Entry). IsMaking sig n [] [] rs g.targets) (sym r)
    (subst (λ (ts : List ℕ). IsMaking sig n [] [] [] ts) (sym t) (making_none sig n))))

pub new_stands : (sig : Signature) (n : ℕ) (g : Parts) (old new : Place) (b : Bool) → g.presences ≡ [] → g.entries ≡ [] → entry_at old ≡ no_entry n → length old.digits ≡ n → IsStep sig [] old new b → Stands (made_of sig n g) (entry_at new) b
new_stands sig n g old new b p r start w s =
    let up : IsUpTo sig n g.presences g.entries (entry_at old) =
    subst (λ (ps : List ℕ). IsUpTo sig n ps g.entries (entry_at old)) (sym p)
    (subst (λ (rs : List Entry). IsUpTo sig n [] rs (entry_at old)) (sym r)
    (subst (λ (e : Entry). IsUpTo sig n [] [] e) (sym start) (up_to_none sig n))) in
    stands_after (made_of sig n g) old new b up w (subst (λ (ps : List ℕ). IsStep sig ps old new b) (sym p) s)

pushed_length : (q p : ℕ) (ps : List ℕ) → length ps < 2 ^ 32 → q + 1 < 2 ^ 32 → length (if q == length ps then ps ++ p ∷ [] else ps) < 2 ^ 32
pushed_length q p ps few next =
    let F : Bool → Type 0 = λ b. (q == length ps) ≡ b → length (if q == length ps then ps ++ p ∷ [] else ps) < 2 ^ 32 in
    let both : (b : Bool) → F b = λ b. elim b as F [
      | true ↦ (λ e. rw e (omega (arith, length_push ps p, equal_from_test q (length ps) e)))
      | false ↦ (λ e. rw e few)
    ] in
    both (q == length ps) refl

-- a state more is one that has a number
pub pushed_few : (g g' : Parts) (row : Entry) (q : ℕ) → length g.presences < 2 ^ 32 → q + 1 < 2 ^ 32 → IsPushed g row q g' → length g'.presences < 2 ^ 32
pushed_few g g' row q few next h = rw h.presences (pushed_length q (presence row.symbol) g.presences few next)
