-- To believe: tuples are ordered by height, then by the symbols at their roots, then by their child tuples from left to right in the same order.
use Rattle.std.specs.Prelude.{◌≡◌, ◌<◌, ◌⊎◌, List, ◌∷◌}
use Rattle.fort_tables.specs.Tuples.{Tuple, root, kids, level}
use Rattle.fort_tables.specs.Entries.{ColumnBefore, LexBefore}

mutual
  pub data TupleBefore : Tuple → Tuple → Type 0 where
    -- the greatest height of a tree in it is smaller
    Lower : {t u : Tuple} → level t < level u → TupleBefore t u
    -- of one height; the root comes before: in the first column where the two differ, absent before symbols, symbols by number
    ByRoot : {t u : Tuple} → level t ≡ level u → LexBefore ColumnBefore (root t) (root u) → TupleBefore t u
    -- of one height and with one root; the child tuples come before
    ByKids : {t u : Tuple} → level t ≡ level u → root t ≡ root u → TuplesBefore (kids t) (kids u) → TupleBefore t u

  -- the first place where the two lists differ decides
  pub data TuplesBefore : List Tuple → List Tuple → Type 0 where
    Here : {t u : Tuple} {ts us : List Tuple} → TupleBefore t u → TuplesBefore (t ∷ ts) (u ∷ us)
    Later : {t u : Tuple} {ts us : List Tuple} → t ≡ u → TuplesBefore ts us → TuplesBefore (t ∷ ts) (u ∷ us)

-- the same or before
abbrev pub NotAfter : Tuple → Tuple → Type 0
NotAfter t u = (t ≡ u) ⊎ TupleBefore t u
