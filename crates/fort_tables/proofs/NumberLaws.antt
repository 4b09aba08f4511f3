-- In a listed table, every smaller number than a target is a target before it.
use Rattle.std.proofs.Common.{◌≡◌, ℕ, ◌<◌, List, length, get_or, ap, sym, ◌∙◌, arith, ⊎_elim}
use Rattle.std.proofs.lemmas.Bool.{cases_lt}
use Rattle.std.proofs.lemmas.List.{get_or_default}
use Rattle.fort_tables.specs.Entries.{Entry, no_entry}
use Rattle.fort_tables.specs.Tables.{Listed, target_in, IsFirstWith, IsListed}
use Rattle.fort_tables.proofs.EntryLaws.{target_found}
use Rattle.fort_tables.proofs.OrderLaws.{order_one}

-- a greater target comes after the first place of a state
pub first_before_greater : (entries : List Entry) (targets : List ℕ) (q k : ℕ) (e : Entry) → (f : IsFirstWith entries targets q e) → q < get_or targets k 0 → f.place < k
first_before_greater entries targets q k e f l =
    ⊎_elim (λ b. b)
    (λ b. ⊎_elim
    (λ c. absurd (omega (arith, f.before k c)))
    (λ c. let same : f.place ≡ k = omega arith in absurd (omega (arith, f.target, ap (λ i. get_or targets i 0) same)))
    (cases_lt k f.place))
    (cases_lt f.place k)

-- the target beside an entry is the one at its place
pub listed_target : (t : Listed) (k : ℕ) → IsListed t → k < length t.targets → target_in t.entries t.targets (get_or t.entries k (no_entry t.columns)) ≡ get_or t.targets k 0
listed_target t k h l =
    let e = get_or t.entries k (no_entry t.columns) in
    let within : k < length t.entries = omega (arith, h.count) in
    let is : get_or t.entries k e ≡ e = get_or_default t.entries k e (no_entry t.columns) within in
    let f = target_found t.entries t.targets e k within is (omega (arith, h.count)) in
    let same : f.place ≡ k = order_one t.signature t.columns t.presences t.entries f.place k e h.order f.within within (f.is ∙ sym is) in
    f.target ∙ ap (λ i. get_or t.targets i 0) same

pub listed_inside : (t : Listed) (k : ℕ) → IsListed t → k < length t.targets → get_or t.targets k 0 < length t.presences
listed_inside t k h l =
    let within : k < length t.entries = omega (arith, h.count) in
    omega (arith, listed_target t k h l, h.table.within (get_or t.entries k (no_entry t.columns)) (h.order.are k (no_entry t.columns) within))

-- Result: each smaller number stands before: a target is an earlier one, or the least number that is none of them
pub earlier_target : (t : Listed) (k q : ℕ) → IsListed t → k < length t.targets → q < get_or t.targets k 0 → (j : ℕ) × ((j < k) × (get_or t.targets j 0 ≡ q))
earlier_target t k q h l b =
    let n = h.numbered q (omega (arith, listed_inside t k h l)) in
    (n.1.place, (first_before_greater t.entries t.targets q k n.0 n.1 b, n.1.target))
