-- The targets laid over child states are those of the entries over them.
use Rattle.std.proofs.Common.{◌≡◌, ℕ, zero, suc, List, [], ◌∷◌, ◌++◌, map, length, get_or, Bool, true, false, ◌==◌, if◌then◌else◌, refl, ap, sym, ◌∙◌, ⊎_elim, true≢false}
use Rattle.std.proofs.lemmas.Bool.{cases_eq}
use Rattle.std.proofs.lemmas.List.{map-append}
use Rattle.fort_tables.specs.Tuples.{TupleSymbol, presence, kid_presence}
use Rattle.fort_tables.specs.Entries.{Entry}
use Rattle.fort_tables.specs.Tables.{Table}
use Rattle.fort_tables.specs.Selections.{is_present}
use Rattle.fort_tables.proofs.SelectionLaws.{test_from_present}
use Rattle.fort_tables.specs.Laid.{joined_below, entries_from}
use Rattle.fort_tables.proofs.KidLists.{present_from_presence}
use Rattle.fort_target_lists.specs.Flats.{laid}

-- the targets laid over first child states are those of the entries
joined_same : {A : Type 0} (n : ℕ) (g h : ℕ → List A) → ((k : ℕ) → g k ≡ h k) → joined_below n g ≡ joined_below n h
joined_same zero g h e = refl
joined_same (suc n) g h e = λ i. joined_same n g h e i ++ e n i

map_joined : {A B : Type 0} (f : A → B) (n : ℕ) (g : ℕ → List A) → map f (joined_below n g) ≡ joined_below n (λ k. map f (g k))
map_joined f zero g = refl
map_joined f (suc n) g = map-append f (joined_below n g) (g n) ∙ ap (λ xs. xs ++ map f (g n)) (map_joined f n g)

map_chosen : {A B : Type 0} (f : A → B) (b : Bool) (xs : List A) → map f (if b then xs else []) ≡ (if b then map f xs else [])
map_chosen f true xs = refl
map_chosen f false xs = refl

pub laid_targets : (body : Table) (f : TupleSymbol) (ks : List ℕ) (j n : ℕ) → laid body f ks j n ≡ map body.target (entries_from body.signature body.presences f ks j n)
laid_targets body f ks j zero = refl
laid_targets body f ks j (suc n) =
    let ps = body.presences in
    let b : ℕ → Bool = λ k. get_or ps k 0 == kid_presence body.signature f j in
    let own : ℕ → List Entry = λ k. entries_from body.signature ps f (ks ++ k ∷ []) (suc j) n in
    joined_same (length ps) (λ k. if b k then laid body f (ks ++ k ∷ []) (suc j) n else []) (λ k. map body.target (if b k then own k else []))
    (λ k. ap (λ qs. if b k then qs else []) (laid_targets body f (ks ++ k ∷ []) (suc j) n) ∙ sym (map_chosen body.target (b k) (own k)))
    ∙ sym (map_joined body.target (length ps) (λ k. if b k then own k else []))

-- without a present column a tuple symbol has no entries
pub absent_presence : (f : TupleSymbol) → is_present f ≡ false → presence f ≡ 0
absent_presence f e = ⊎_elim (λ z. z) (λ z. absurd (true≢false (sym (test_from_present f (present_from_presence f z)) ∙ e))) (cases_eq (presence f) 0)
