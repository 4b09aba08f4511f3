-- To believe: each class of a class list has states, and is led by the first of them; the classes of a place are numbered by their leaders.
use Rattle.std.specs.Prelude.{◌≡◌, ℕ, ◌<◌, length, get_or}
use Rattle.fort_tables.specs.Tuples.{TupleSymbol, IsTupleSymbol, symbol_kids}
use Rattle.fort_tables.specs.Tables.{Table}
use Rattle.fort_classes.specs.Leaders.{MayBeKid}
use Rattle.fort_target_lists.specs.ClassLists.{view_at, view_leaders, class_at}
use Rattle.fort_target_lists.specs.declared.class_list.ClassList.{ClassList}

-- the leader of a class at a place
abbrev pub leader_at : ClassList → TupleSymbol → ℕ → ℕ → ℕ
leader_at l f j c = get_or (view_leaders l (view_at l f j)) c 0

-- there is such a class at a place under a tuple symbol
pub record IsClassAt (body : Table) (l : ClassList) (f : TupleSymbol) (j c : ℕ) : Type 0 where
  pub symbol : IsTupleSymbol body.signature body.columns f
  pub place : j < symbol_kids body.signature f
  pub class : c < length (view_leaders l (view_at l f j))

pub record HasOwnLeaders (body : Table) (l : ClassList) : Type 0 where
  pub may : (f : TupleSymbol) (j c : ℕ) → IsClassAt body l f j c → MayBeKid body.signature body.columns body.presences f j (leader_at l f j c)
  pub own : (f : TupleSymbol) (j c : ℕ) → IsClassAt body l f j c → class_at l f j (leader_at l f j c) ≡ c
  pub rises : (f : TupleSymbol) (j c d : ℕ) → IsClassAt body l f j d → c < d → leader_at l f j c < leader_at l f j d
