-- A block that is filled combination by combination.
use Rattle.std.proofs.Common.{◌≡◌, ℕ, ◌<◌, ◌≤◌, List, [], map, take, length, get_or, sym, ◌∙◌, arith}
use Rattle.std.proofs.lemmas.List.{length-map, get_or-map, length-take-le, get_or-take, ext_get_or}
use Rattle.fort_tables.specs.Tuples.{TupleSymbol}
use Rattle.fort_tables.specs.Entries.{Entry, entry}
use Rattle.fort_tables.specs.Tables.{target_in}
use Rattle.fort_tables.proofs.TupleLaws.{length-tabulate, get_or-tabulate}
use Rattle.fort_target_lists.specs.ClassLists.{leaders_in}
use Rattle.fort_target_lists.specs.declared.class_list.ClassView.{ClassView}
use Rattle.fort_class_targets.specs.FilledBlocks.{leaders_of, leaders_over}

-- as many lists of leaders as places, and counts
pub places_count : (vs : List ClassView) (ns : List ℕ) → length (map (length {A = ℕ}) (leaders_of vs ns)) ≡ length ns
places_count vs ns = length-map (leaders_of vs ns) (length {A = ℕ}) ∙ length-map ns (λ n. get_or (map leaders_in vs) n [])

-- the counts, written place by place
pub counts_read : (lss : List (List ℕ)) (room : List ℕ) (n : ℕ) → n ≡ length lss → n ≤ length room → ((j : ℕ) → j < n → get_or room j 0 ≡ length (get_or lss j [])) → take n room ≡ map (length {A = ℕ}) lss
counts_read lss room n e few h =
    let m = length-take-le n room few in
    ext_get_or 0 (take n room) (map (length {A = ℕ}) lss) (m ∙ (e ∙ sym (length-map lss (length {A = ℕ}))))
    (λ j l. let low : j < n = omega (arith, l, m) in
    get_or-take n room j 0 low ∙ (h j low ∙ sym (get_or-map (length {A = ℕ}) lss j [] 0 (omega (arith, low, e)))))

-- the leaders of a combination, written place by place
pub over_read : (lss : List (List ℕ)) (room cs : List ℕ) (n : ℕ) → n ≡ length lss → n ≤ length room → ((j : ℕ) → j < n → get_or room j 0 ≡ get_or (get_or lss j []) (get_or cs j 0) 0) → take n room ≡ leaders_over lss cs
over_read lss room cs n e few h =
    let of : ℕ → ℕ = λ j. get_or (get_or lss j []) (get_or cs j 0) 0 in
    let m = length-take-le n room few in
    ext_get_or 0 (take n room) (leaders_over lss cs) (m ∙ (e ∙ sym (length-tabulate (length lss) of)))
    (λ j l. let low : j < n = omega (arith, l, m) in
    get_or-take n room j 0 low ∙ (h j low ∙ sym (get_or-tabulate (length lss) of j 0 (omega (arith, low, e)))))

-- what a combination's target is
abbrev pub value_of : List Entry → List ℕ → TupleSymbol → List (List ℕ) → List ℕ → ℕ
value_of es qs f lss cs = target_in es qs (entry f (leaders_over lss cs))
