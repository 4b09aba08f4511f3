-- All entries stage by stage: they are in order, each entry is there, and no other list is so; where an entry stands.
use Rattle.std.proofs.Common.{◌≡◌, ℕ, suc, ◌+◌, ◌<◌, List, ◌∷◌, ◌++◌, length, get_or, ◌==◌, refl, ap, sym, ◌∙◌, arith, subst, inl, inr, eq-eqb, length-append}
use Rattle.std.specs.Prelude.{Contains}
use Rattle.std.specs.List.{AllPairs}
use Rattle.std.proofs.lemmas.List.{get_or_at}
use Rattle.std.proofs.lemmas.List.Elements.{All-contains, filter-append, Contains-append_right}
use Rattle.std.proofs.lemmas.List.Kept.{AllPairs-filter}
use Rattle.fort_theory.specs.Signatures.{Signature}
use Rattle.fort_theory.proofs.Members.{Contains-head, Contains-from_filter, Contains-filter}
use Rattle.fort_tables.specs.Entries.{Entry, IsEntry, stage, StageBefore, ComesBefore, AreInOrder, HasAllEntries}
use Rattle.fort_tables.proofs.EqualTests.{equal_from_test}
use Rattle.fort_tables.proofs.OrderLaws.{before_irrefl, before_trans, stage_within}
use Rattle.fort_tables.specs.Laid.{by_symbol, in_stage, all_entries, start_of}
use Rattle.fort_tables.proofs.OrderedLists.{All-from_members, AllPairs-weaker, ordered_one}
use Rattle.fort_tables.proofs.JoinedLists.{joined_has, joined_from, joined_in_order, joined_long, get_or-joined}
use Rattle.fort_tables.proofs.BySymbol.{by_symbol_are, by_symbol_has, by_symbol_in_order}

-- a stage
pub in_stage_from : (s : ℕ) (es : List Entry) (e : Entry) → Contains (in_stage s es) e → Contains es e × (stage e.kids ≡ s)
in_stage_from s es e c =
    let r = Contains-from_filter (λ (x : Entry). stage x.kids == s) es e c in
    (r.0, equal_from_test (stage e.kids) s r.1)

pub in_stage_has : (s : ℕ) (es : List Entry) (e : Entry) → Contains es e → stage e.kids ≡ s → Contains (in_stage s es) e
in_stage_has s es e c h = Contains-filter (λ (x : Entry). stage x.kids == s) es e c (eq-eqb (stage e.kids) s h)

in_stage_in_order : (s : ℕ) (es : List Entry) → AllPairs StageBefore es → AllPairs ComesBefore (in_stage s es)
in_stage_in_order s es h =
    AllPairs-weaker StageBefore ComesBefore (in_stage s es)
    (λ x y c d b. inr ((in_stage_from s es x c).1 ∙ sym (in_stage_from s es y d).1, b))
    (AllPairs-filter StageBefore (λ (x : Entry). stage x.kids == s) es h)

-- an entry's stage is one of those there are
pub entry_stage : (sig : Signature) (c : ℕ) (ps : List ℕ) (e : Entry) → IsEntry sig c ps e → stage e.kids < suc (length ps)
entry_stage sig c ps e h = omega (arith, stage_within (length ps) e.kids h.within)

all_entries_from : (sig : Signature) (c : ℕ) (ps : List ℕ) (e : Entry) → Contains (all_entries sig c ps) e → IsEntry sig c ps e
all_entries_from sig c ps e h =
    let r = joined_from (suc (length ps)) (λ s. in_stage s (by_symbol sig c ps)) e h in
    by_symbol_are sig c ps e (in_stage_from r.0 (by_symbol sig c ps) e r.2).0

-- Result: they are in order
pub all_in_order : (sig : Signature) (c : ℕ) (ps : List ℕ) → AreInOrder sig c ps (all_entries sig c ps)
all_in_order sig c ps = record {
  are = All-from_members (IsEntry sig c ps) (all_entries sig c ps) (all_entries_from sig c ps);
  order =
      joined_in_order ComesBefore (suc (length ps)) (λ s. in_stage s (by_symbol sig c ps))
      (λ s l. in_stage_in_order s (by_symbol sig c ps) (by_symbol_in_order sig c ps))
      (λ s t x y l m h k. inl (omega (arith, (in_stage_from s (by_symbol sig c ps) x h).1, (in_stage_from t (by_symbol sig c ps) y k).1)));
}

-- Result: each entry is there
pub all_there : (sig : Signature) (c : ℕ) (ps : List ℕ) → HasAllEntries sig c ps (all_entries sig c ps)
all_there sig c ps e h =
    joined_has (suc (length ps)) (λ s. in_stage s (by_symbol sig c ps)) (stage e.kids) e (entry_stage sig c ps e h)
    (in_stage_has (stage e.kids) (by_symbol sig c ps) e (by_symbol_has sig c ps e h) refl)

-- Result: no other list is in order with each entry there
pub entries_unique : (sig : Signature) (c : ℕ) (ps : List ℕ) (es : List Entry) → AreInOrder sig c ps es → HasAllEntries sig c ps es → es ≡ all_entries sig c ps
entries_unique sig c ps es o h =
    let all = all_in_order sig c ps in
    ordered_one ComesBefore before_irrefl before_trans es (all_entries sig c ps) o.order all.order
    (λ e m. all_there sig c ps e (All-contains (IsEntry sig c ps) es e o.are m))
    (λ e m. h e (All-contains (IsEntry sig c ps) (all_entries sig c ps) e all.are m))

-- what stands at a middle of a filtered list
pub in_stage_split : (xs ys : List Entry) (e : Entry) → in_stage (stage e.kids) (xs ++ e ∷ ys) ≡ in_stage (stage e.kids) xs ++ e ∷ in_stage (stage e.kids) ys
in_stage_split xs ys e =
    filter-append (λ (x : Entry). stage x.kids == stage e.kids) xs (e ∷ ys)
    ∙ ap (λ zs. in_stage (stage e.kids) xs ++ zs) (rw (eq-eqb (stage e.kids) (stage e.kids) refl) refl)

-- a place in the list of entries tuple symbol by tuple symbol
record IsMiddle (sig : Signature) (c : ℕ) (ps : List ℕ) (xs ys : List Entry) (e : Entry) : Type 0 where
  low : stage e.kids < suc (length ps)
  split : in_stage (stage e.kids) (by_symbol sig c ps) ≡ in_stage (stage e.kids) xs ++ e ∷ in_stage (stage e.kids) ys
  room : length (in_stage (stage e.kids) xs) < length (in_stage (stage e.kids) (by_symbol sig c ps))

middle : (sig : Signature) (c : ℕ) (ps : List ℕ) (xs ys : List Entry) (e : Entry) → by_symbol sig c ps ≡ xs ++ e ∷ ys → IsMiddle sig c ps xs ys e
middle sig c ps xs ys e h =
    let s = stage e.kids in
    let there : Contains (by_symbol sig c ps) e = subst (λ es. Contains es e) (sym h) (Contains-append_right xs (e ∷ ys) e (Contains-head e ys)) in
    let split : in_stage s (by_symbol sig c ps) ≡ in_stage s xs ++ e ∷ in_stage s ys = ap (in_stage s) h ∙ in_stage_split xs ys e in
    record {
      low = entry_stage sig c ps e (by_symbol_are sig c ps e there);
      split = split;
      room = omega (arith, ap length split, length-append (in_stage s xs) (e ∷ in_stage s ys));
    }

-- Result: an entry stands behind the earlier stages and those of its stage before it, tuple symbol by tuple symbol
pub entry_at_cursor : (sig : Signature) (c : ℕ) (ps : List ℕ) (xs ys : List Entry) (e : Entry) → by_symbol sig c ps ≡ xs ++ e ∷ ys
    → (d : Entry) → get_or (all_entries sig c ps) (start_of (by_symbol sig c ps) (stage e.kids) + length (in_stage (stage e.kids) xs)) d ≡ e
entry_at_cursor sig c ps xs ys e h d =
    let s = stage e.kids in
    let m = middle sig c ps xs ys e h in
    let p = length (in_stage s xs) in
    get_or-joined (suc (length ps)) (λ t. in_stage t (by_symbol sig c ps)) s p d m.low m.room
    ∙ (ap (λ es. get_or es p d) m.split ∙ get_or_at (in_stage s xs) e (in_stage s ys) d p refl)

-- that place is in the list
pub cursor_within : (sig : Signature) (c : ℕ) (ps : List ℕ) (xs ys : List Entry) (e : Entry) → by_symbol sig c ps ≡ xs ++ e ∷ ys
    → start_of (by_symbol sig c ps) (stage e.kids) + length (in_stage (stage e.kids) xs) < length (all_entries sig c ps)
cursor_within sig c ps xs ys e h =
    let m = middle sig c ps xs ys e h in
    omega (arith, m.room, joined_long (suc (length ps)) (λ t. in_stage t (by_symbol sig c ps)) (stage e.kids) m.low)
