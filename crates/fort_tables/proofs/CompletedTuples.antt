-- Tuples of the body: an own tuple with a term in one more column, or with nothing there; the body's state of one by its entry.
use Rattle.std.proofs.Common.{◌≡◌, ℕ, suc, ◌-◌, ◌<◌, max, List, length, map, Option, None, Some, ap, ◌∙◌, arith, subst}
use Rattle.std.specs.List.{insert}
use Rattle.fort_theory.specs.Trees.{Tree}
use Rattle.fort_theory.specs.Signatures.{IsGround}
use Rattle.fort_tables.specs.Tuples.{Tuple, TupleSymbol, tabulate, root, kid, kids, kid_count, AreGroundColumns, IsTuple}
use Rattle.fort_tables.specs.OneColumn.{column_root, column_kid, column_kid_count}
use Rattle.fort_tables.specs.Entries.{entry}
use Rattle.fort_tables.specs.Tables.{Table, IsTable, state_of}
use Rattle.fort_tables.proofs.TupleLaws.{fold_tuple-step, map-tabulate, tabulate_same}
use Rattle.fort_tables.proofs.InsertLaws.{root-insert, kid-insert, kid_count-insert, IsTuple-insert_some, IsTuple-insert_none}
use Rattle.fort_tables.proofs.TableLaws.{table_state}

pub IsTuple-completed : (body : Table) (c : ℕ) (t : Tuple) (u : Tree) → c < body.columns → IsGround body.signature u → length t ≡ body.columns - 1 → AreGroundColumns body.signature t → IsTuple body.signature body.columns (insert t c (Some u))
IsTuple-completed body c t u low g l h =
    let w : suc (body.columns - 1) ≡ body.columns = omega arith in
    subst (λ (n : ℕ). IsTuple body.signature n (insert t c (Some u))) w (IsTuple-insert_some body.signature (body.columns - 1) t c u (omega arith) g l h)

pub IsTuple-absent : (body : Table) (c : ℕ) (t : Tuple) → c < body.columns → IsTuple body.signature (body.columns - 1) t → IsTuple body.signature body.columns (insert t c None)
IsTuple-absent body c t low h =
    let w : suc (body.columns - 1) ≡ body.columns = omega arith in
    subst (λ (n : ℕ). IsTuple body.signature n (insert t c None)) w (IsTuple-insert_none body.signature (body.columns - 1) t c (omega arith) h)

pub completed_small : (body : Table) (c : ℕ) (t : Tuple) (u : Tree) → IsTable body → c < body.columns → IsGround body.signature u → length t ≡ body.columns - 1 → AreGroundColumns body.signature t → state_of body (insert t c (Some u)) < length body.presences
completed_small body c t u is low g l h = (table_state body is (insert t c (Some u)) (IsTuple-completed body c t u low g l h)).within

pub absent_small : (body : Table) (c : ℕ) (t : Tuple) → IsTable body → c < body.columns → IsTuple body.signature (body.columns - 1) t → state_of body (insert t c None) < length body.presences
absent_small body c t is low h = (table_state body is (insert t c None) (IsTuple-absent body c t low h)).within

-- the states of the children where column c has this tree
abbrev pub states_with : Table → ℕ → Option Tree → Tuple → List ℕ
states_with body c x t = tabulate (max (column_kid_count x) (kid_count t)) (λ j. state_of body (insert (kid t j) c (column_kid x j)))

pub state-insert : (body : Table) (c : ℕ) (x : Option Tree) (t : Tuple) → state_of body (insert t c x) ≡ body.target (entry (insert (root t) c (column_root x)) (states_with body c x t))
state-insert body c x t =
    let step : TupleSymbol → List ℕ → ℕ = λ f ks. body.target (entry f ks) in
    let s = insert t c x in
    fold_tuple-step step s
    ∙ (ap (λ f. step f (map (state_of body) (kids s))) (root-insert t c x)
    ∙ ap (step (insert (root t) c (column_root x))) (map-tabulate (state_of body) (kid_count s) (kid s)
    ∙ (ap (λ n. tabulate n (λ j. state_of body (kid s j))) (kid_count-insert t c x)
    ∙ tabulate_same (max (column_kid_count x) (kid_count t)) _ _ (λ j l. ap (state_of body) (kid-insert t c x j)))))

pub state-absent : (body : Table) (c : ℕ) (t : Tuple) → state_of body (insert t c None) ≡ body.target (entry (insert (root t) c None) (tabulate (kid_count t) (λ j. state_of body (insert (kid t j) c None))))
state-absent body c t =
    let e : max 0 (kid_count t) ≡ kid_count t = omega arith in
    state-insert body c None t ∙ ap (λ m. body.target (entry (insert (root t) c None) (tabulate m (λ j. state_of body (insert (kid t j) c None))))) e
