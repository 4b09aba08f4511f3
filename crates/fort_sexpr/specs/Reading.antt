-- Inside: what a reader on its way keeps, seen as levels and forms.
use Rattle.std.specs.Prelude.{◌≡◌, ℕ, ◌+◌, ◌<◌, ◌≤◌, ◌^◌, ◌⊎◌, true, List, [], ◌∷◌, ◌++◌, length, set, reverse, vec_capacity}
use Rattle.fort_grammar.specs.Text.{stands_at, deepest}
use Rattle.fort_grammar.specs.Forms.{Forms}
use Rattle.fort_sexpr.specs.FormView.{form_count}
use Rattle.fort_sexpr.specs.declared.arena.FormNode.{FormNode}
use Rattle.fort_sexpr.specs.declared.arena.ListNode.{ListNode}
use Rattle.fort_sexpr.specs.declared.walk.TextWalk.{TextWalk}
use Rattle.fort_sexpr.specs.Nodes.{opens_before, list_at, IsListed}
use Rattle.fort_sexpr.specs.Progress.{Level, IsReadUpTo}

-- the list at this offset is one of these
abbrev pub IsOpenAt : List FormNode → ℕ → Type 0
IsOpenAt [] from = ⊥
IsOpenAt (o ∷ os) from = (o.from ≡ from) ⊎ IsOpenAt os from

-- the nodes of lists that are open, the innermost first, whose numbers are below this one: each has so many forms so far,
-- and the text has the count of those in no list
abbrev pub AreOpen : List ℕ → List ListNode → ℕ → ℕ → List FormNode → List Level → Forms → Type 0
AreOpen bytes lists count limit [] [] fs = count ≡ form_count fs
AreOpen bytes lists count limit [] (l ∷ ls) fs = ⊥
AreOpen bytes lists count limit (o ∷ os) [] fs = ⊥
AreOpen bytes lists count limit (o ∷ os) (l ∷ ls) fs =
    (o.from ≡ l.from) × (o.list ≡ opens_before bytes l.from) × (o.list < limit) × ((list_at lists o.list).count ≡ form_count fs)
    × AreOpen bytes lists count o.list os ls l.before

-- the part of the text before the offset is read: these lists are open, the innermost first, and the others have their entries
pub record IsReading (bytes : List ℕ) (os : List FormNode) (lists : List ListNode) (count i : ℕ) : Type 0 where
  pub levels : List Level
  pub forms : Forms
  pub read : IsReadUpTo bytes levels forms i
  pub open_lists : AreOpen bytes lists count (length lists) os levels forms
  pub number : length lists ≡ opens_before bytes i
  pub each : (from : ℕ) → from < i → stands_at 40 bytes from ≡ true → IsOpenAt os from ⊎ IsListed bytes lists from

abbrev pub HasRead : List ℕ → TextWalk → ℕ → Type 0
HasRead bytes walk i = IsReading bytes (reverse walk.open.items) walk.lists.items walk.count i

-- likewise of each text that begins with these bytes
abbrev pub HasReadFront : List ℕ → TextWalk → ℕ → Type 0
HasReadFront bytes walk i = (more : List ℕ) → HasRead (bytes ++ more) walk i

-- room for as many open lists as may be, and for all lists that open in these bytes
pub record HasRoom (bytes : List ℕ) (walk : TextWalk) : Type 0 where
  pub open_room : deepest ≤ vec_capacity walk.open
  pub lists_room : opens_before bytes (length bytes) ≤ vec_capacity walk.lists

-- no room is given back
pub record KeepsRoom (old new : TextWalk) : Type 0 where
  pub open_room : vec_capacity old.open ≤ vec_capacity new.open
  pub lists_room : vec_capacity old.lists ≤ vec_capacity new.lists

-- nothing changes but the room
pub record IsSameWalk (old new : TextWalk) : Type 0 where
  pub open_same : new.open.items ≡ old.open.items
  pub lists_same : new.lists.items ≡ old.lists.items
  pub count_same : new.count ≡ old.count

-- the innermost of these lists is in the table, and its count may grow, or that of the text where there is none
abbrev pub CountsMore : List FormNode → List ListNode → ℕ → Type 0
CountsMore [] lists count = count + 1 < 2 ^ 32
CountsMore (o ∷ os) lists count = (o.list < length lists) × ((list_at lists o.list).count + 1 < 2 ^ 32)

abbrev pub one_more : ListNode → ListNode
one_more l = record { to = l.to; count = l.count + 1; behind = l.behind }

-- one more form of the innermost list, or of the text where there is none
abbrev pub lists_with : List FormNode → List ListNode → List ListNode
lists_with [] lists = lists
lists_with (o ∷ os) lists = set lists o.list (one_more (list_at lists o.list))

abbrev pub count_with : List FormNode → ℕ → ℕ
count_with [] count = count + 1
count_with (o ∷ os) count = count

pub record IsAdded (old new : TextWalk) : Type 0 where
  pub open_same : new.open.items ≡ old.open.items
  pub lists : new.lists.items ≡ lists_with (reverse old.open.items) old.lists.items
  pub count : new.count ≡ count_with (reverse old.open.items) old.count
