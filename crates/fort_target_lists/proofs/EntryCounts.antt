-- How many entries tuple symbols have, from how many states each presence has.
use Rattle.std.proofs.Common.{◌≡◌, ℕ, zero, suc, ◌+◌, ◌*◌, ◌^◌, ◌<◌, ◌≤◌, min, List, [], ◌++◌, length, get_or, false, ap, sym, ◌∙◌, arith, length-append}
use Rattle.std.proofs.Math.Nat.{mul_assoc}
use Rattle.std.proofs.lemmas.List.{length-map}
use Rattle.fort_theory.specs.Signatures.{Signature}
use Rattle.fort_tables.specs.Tuples.{TupleSymbol, kid_presence}
use Rattle.fort_tables.specs.Tables.{Table, Listed}
use Rattle.fort_tables.specs.StateRanks.{count_of}
use Rattle.fort_tables.specs.Laid.{entries_from, entries_under}
use Rattle.fort_tuple_symbols.specs.SymbolNumbers.{columns_at}
use Rattle.fort_target_lists.specs.Walks.{entries_of, entries_before}
use Rattle.fort_target_lists.proofs.PlaceLaws.{room, cap_product}
use Rattle.fort_target_lists.proofs.ListingLaws.{length-laid}
use Rattle.fort_target_lists.proofs.SymbolPlaces.{entries_more, entries_behind, entries_split}
use Rattle.fort_target_lists.proofs.LaidTargets.{laid_targets}

-- how many lists of states there are, with one more state at the end
room_more : (ps : List ℕ) (w : ℕ → ℕ) (j n : ℕ) → room ps w j (suc n) ≡ room ps w j n * count_of (w (j + n)) ps
room_more ps w j zero =
    let z : j ≡ j + 0 = omega arith in
    let e = ap (λ i. count_of (w i) ps) z in
    omega (arith, e)
room_more ps w j (suc n) =
    let c = count_of (w j) ps in
    let s : suc j + n ≡ j + suc n = omega arith in
    ap (λ r. c * r) (room_more ps w (suc j) n)
    ∙ (sym (mul_assoc c (room ps w (suc j) n) (count_of (w (suc j + n)) ps))
    ∙ ap (λ i. room ps w j (suc n) * count_of (w i) ps) s)

-- one turn of the loop over children
pub room_turn : (ps counts : List ℕ) (w : ℕ → ℕ) (j p x y m : ℕ) → ((v : ℕ) → v < length counts → get_or counts v 0 ≡ count_of v ps) → p ≡ w j → p < length counts
    → x ≡ min (room ps w 0 j) m → y ≡ min (x * get_or counts p 0) m → y ≡ min (room ps w 0 (j + 1)) m
room_turn ps counts w j p x y m are is low e h =
    let r = room ps w 0 j in
    let a = get_or counts p 0 in
    let one : a ≡ count_of (w j) ps = are p low ∙ ap (λ v. count_of v ps) is in
    let z : 0 + j ≡ j = omega arith in
    let s : j + 1 ≡ suc j = omega arith in
    let more : room ps w 0 (j + 1) ≡ r * a = ap (room ps w 0) s ∙ (room_more ps w 0 j ∙ (ap (λ i. r * count_of (w i) ps) z ∙ ap (λ c. r * c) (sym one))) in
    h ∙ (cap_product x r a m e ∙ ap (λ n. min n m) (sym more))

-- a tuple symbol's entries
pub length-entries_from : (sig : Signature) (ps : List ℕ) (f : TupleSymbol) (ks : List ℕ) (j n : ℕ) → length (entries_from sig ps f ks j n) ≡ room ps (kid_presence sig f) j n
length-entries_from sig ps f ks j n =
    let body : Table = record { signature = sig; columns = 0; presences = ps; target = λ e. 0; accepting = λ q. false } in
    sym (length-map (entries_from sig ps f ks j n) body.target)
    ∙ (ap length (sym (laid_targets body f ks j n)) ∙ length-laid body f ks j n)

-- a table of this signature and these presences, as far as its entries are asked for
abbrev pub table_with : Signature → ℕ → List ℕ → Listed
table_with sig columns ps = record { signature = sig; columns = columns; presences = ps; entries = []; targets = []; finals = [] }

-- those of one more tuple symbol
pub entries_sum : (sig : Signature) (columns : ℕ) (ps : List ℕ) (k : ℕ) → k < suc (length sig) ^ columns
    → length (entries_before (table_with sig columns ps) (k + 1)) ≡ length (entries_before (table_with sig columns ps) k) + length (entries_under sig ps (columns_at (suc (length sig)) columns k))
entries_sum sig columns ps k l =
    let t = table_with sig columns ps in
    ap length (entries_more t k l) ∙ length-append (entries_before t k) (entries_under sig ps (columns_at (suc (length sig)) columns k))

-- there are as many at least
pub entries_least : (sig : Signature) (columns : ℕ) (ps : List ℕ) (k : ℕ) → k < suc (length sig) ^ columns
    → length (entries_before (table_with sig columns ps) k) + length (entries_under sig ps (columns_at (suc (length sig)) columns k)) ≤ length (entries_of (table_with sig columns ps))
entries_least sig columns ps k l =
    let t = table_with sig columns ps in
    let before = entries_before t k in
    let under = entries_under sig ps (columns_at (suc (length sig)) columns k) in
    let behind = entries_behind t k in
    omega (arith, ap length (entries_split t k l), length-append before (under ++ behind), length-append under behind)
