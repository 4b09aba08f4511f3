-- Inside: how far a walk has come that holds each target against the label of its entry.
use Rattle.std.specs.Prelude.{◌≡◌, ℕ, ◌<◌, ◌≤◌, List, ◌++◌, map, length, get_or, IsTrue, Contains}
use Rattle.fort_tables.specs.Tuples.{TupleSymbol}
use Rattle.fort_tables.specs.Entries.{Entry}
use Rattle.fort_tables.specs.Labels.{first_word, AreLabels}
use Rattle.fort_tables.specs.LabelRules.{LabelRule, label_of}
use Rattle.fort_tables.specs.Tables.{Table, Listed, listed_table}
use Rattle.fort_tables.specs.Laid.{entries_from}
use Rattle.fort_tables.specs.Products.{Operand, AreOperands, signature_of, product_rule}
use Rattle.fort_products.specs.HeldTargets.{IsHeld}
use Rattle.fort_products.specs.Joints.{IsJointOf}
use Rattle.fort_products.specs.Operands.{operand_of}
use Rattle.fort_target_lists.specs.Walks.{entries_before, IsWalkOf, AreBegins, HasPassed, Stop, IsStopOf}
use Rattle.fort_products.specs.declared.held.Holding.{Holding}
use Rattle.fort_products.specs.declared.joint.Joint.{Joint}
use Rattle.fort_products.specs.declared.operand.Operand as program

-- the two operands of a product
pub record Operands : Type 0 where
  pub first : Operand
  pub second : Operand

-- those of a program
abbrev pub operands_of : {T : Type 0} → (T → Table) → program.Operand T → program.Operand T → Operands
operands_of table first second = record { first = operand_of table first; second = operand_of table second }

-- the product's rule over so many columns
abbrev pub rule_of : Operands → ℕ → LabelRule
rule_of o columns = product_rule columns o.first o.second

-- the rows have the labels of a table's states, which is to be that of the product
pub record IsHoldingOf (o : Operands) (t : Listed) (h : Holding) : Type 0 where
  pub lays : IsTrue h.walk.lays
  pub signature : t.signature ≡ signature_of o.first o.second
  pub operands : AreOperands (signature_of o.first o.second) t.columns o.first o.second
  pub presences : t.presences ≡ map first_word h.rows.now.labels
  pub labels : AreLabels (signature_of o.first o.second) t.columns (label_of (rule_of o t.columns)) h.rows.now.labels

-- these entries are passed: each stage's cursor has gone on by those of the stage, and the targets from the place on are right
pub record HasHeld (o : Operands) (t : Listed) (h : Holding) (begins : List ℕ) (passed : List Entry) (cursors : List ℕ) : Type 0 where
  pub cursors_are : HasPassed t h.walk.lays begins passed cursors (map (listed_table t).target passed)
  pub held : (k : ℕ) (d : Entry) → h.from ≤ k → k < length t.entries → Contains passed (get_or t.entries k d)
      → IsHeld (rule_of o t.columns) h.rows.now.labels (get_or t.entries k d) (get_or t.targets k 0)

-- it stands before a tuple symbol's entries over the first child states and n others, child j being the next
pub record IsHoldingAt (o : Operands) (p : Stop) (h : Holding) (f : TupleSymbol) (joint : Joint) (latest j n : ℕ) : Type 0 where
  pub is_of : IsHoldingOf o p.table h
  pub stop : IsStopOf p h.walk f latest j n
  pub joint_is : IsJointOf o.first o.second f joint

abbrev pub HasHeldTo : Operands → Stop → Holding → List ℕ → Type 0
HasHeldTo o p h cursors = HasHeld o p.table h p.begins p.passed cursors

-- those entries are passed too
abbrev pub HasHeldBehind : Operands → Stop → Holding → TupleSymbol → ℕ → ℕ → List ℕ → Type 0
HasHeldBehind o p h f j n cursors =
    HasHeld o p.table h p.begins (p.passed ++ entries_from p.table.signature p.table.presences f p.kids j n) cursors

-- it stands between two tuple symbols: the first n are passed
pub record IsHeldBetween (o : Operands) (t : Listed) (begins : List ℕ) (h : Holding) (n : ℕ) (cursors : List ℕ) : Type 0 where
  pub is_of : IsHoldingOf o t h
  pub goes : IsWalkOf t h.walk
  pub begin : AreBegins t h.walk.lays begins
  pub passed : HasHeld o t h begins (entries_before t n) cursors
