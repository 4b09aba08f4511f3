-- Inside: what the table of a text's lists has of each, and what the nodes of an arena are.
use Rattle.std.specs.Prelude.{◌≡◌, ℕ, suc, ◌^◌, ◌<◌, true, false, List, [], ◌∷◌, length, get_or}
use Rattle.fort_grammar.specs.Text.{stands_at, count_before}
use Rattle.fort_grammar.specs.Forms.{Form, Forms, NoForm, MoreForms, AreFormsOf}
use Rattle.fort_grammar.specs.Declarations.{as_list}
use Rattle.fort_sexpr.specs.FormView.{span_of, form_count}
use Rattle.fort_sexpr.specs.Progress.{comment_before}
use Rattle.fort_sexpr.specs.Found.{run_from, form_from, IsListAt, StandsIn, IsRest}
use Rattle.fort_sexpr.specs.declared.arena.FormNode.{FormNode}
use Rattle.fort_sexpr.specs.declared.arena.ListNode.{ListNode}

-- how many lists open before the offset
abbrev pub opens_before : List ℕ → ℕ → ℕ
opens_before bytes i = count_before 40 bytes i

-- what the table has of the list of this number
abbrev pub list_at : List ListNode → ℕ → ListNode
list_at lists i = get_or lists i (record { to = 0; count = 0; behind = 0 })

-- the entry of a list with these forms, which ends before this offset
pub record IsEntry (bytes : List ℕ) (list : ListNode) (ended : ℕ) (fs : Forms) : Type 0 where
  pub to : list.to ≡ ended
  pub count : list.count ≡ form_count fs
  pub behind : list.behind ≡ opens_before bytes ended

-- the list that opens at this offset has its entry
abbrev pub IsListed : List ℕ → List ListNode → ℕ → Type 0
IsListed bytes lists from =
    (close : ℕ) (fs : Forms) → IsListAt bytes from close fs → IsEntry bytes (list_at lists (opens_before bytes from)) (suc close) fs

-- all lists of the text have entries, and its offsets are numbers of 32 bits
pub record AreListed (bytes : List ℕ) (lists : List ListNode) : Type 0 where
  pub few : length bytes < 2 ^ 32
  pub number : length lists ≡ opens_before bytes (length bytes)
  pub each : (from : ℕ) → stands_at 40 bytes from ≡ true → IsListed bytes lists from

-- the node of a form in this text
abbrev pub node_of : List ℕ → Form → FormNode
node_of bytes f = record { from = (span_of f).from; list = opens_before bytes (span_of f).from }

abbrev pub nodes_of : List ℕ → Forms → List FormNode
nodes_of bytes NoForm = []
nodes_of bytes (MoreForms f fs) = node_of bytes f ∷ nodes_of bytes fs

-- a form of the text begins at the node, and so many lists open before it
pub record Stands (bytes : List ℕ) (n : FormNode) : Type 0 where
  pub form : StandsIn bytes (form_from bytes n.from)
  pub number : n.list ≡ opens_before bytes n.from

abbrev pub forms_on : List ℕ → ℕ → List Form
forms_on bytes at = as_list (run_from bytes at).0

-- from the offset on stand so many forms of a list, and so many lists open before it
pub record StandOn (bytes : List ℕ) (at list count : ℕ) : Type 0 where
  pub rest : IsRest bytes at
  pub outside : comment_before bytes at ≡ false
  pub number : list ≡ opens_before bytes at
  pub many : count ≡ form_count (run_from bytes at).0

abbrev pub text_forms : List ℕ → Forms
text_forms bytes = (run_from bytes 0).0

-- these nodes are the forms of the text
pub record AreTextForms (bytes : List ℕ) (top : List FormNode) : Type 0 where
  pub forms : AreFormsOf bytes (text_forms bytes)
  pub nodes : top ≡ nodes_of bytes (text_forms bytes)
