-- Inside: lists of operands' targets: the room for them, and that they are laid.
use Rattle.std.specs.Prelude.{ℕ, List, length}
use Rattle.fort_tables.specs.Products as products
use Rattle.fort_parts.specs.PartAnswers.{Answer, OfValue, OfTable}
use Rattle.fort_certificate_theory.specs.Certificates.{Step, Part}
use Rattle.fort_target_lists.specs.LayRooms.{HasLayRoom}
use Rattle.fort_target_lists.specs.TargetLists.{IsTargetListOf, HasListRoom}
use Rattle.fort_target_lists.specs.declared.states.LayRoom.{LayRoom}
use Rattle.fort_target_lists.specs.declared.target_list.TargetList.{TargetList}
use Rattle.fort_check_steps.specs.Turned.{TurnedTable}
use Rattle.fort_check_steps.specs.Room.{most_states, IsListFor}
use Rattle.fort_check_steps.specs.declared.room.ListRoom.{ListRoom}
use Rattle.fort_check_steps.specs.declared.room.ListNeeds.{ListNeeds}
use Rattle.fort_cert_checker.specs.Abouts.{IsOnlyAbout}
use Rattle.fort_cert_checker.specs.declared.past.PastAnswer as answers
use Rattle.fort_cert_checker.specs.declared.past.PastAnswer.TheVariants as variants
use Rattle.fort_cert_checker.specs.declared.plan.Source.{Source}
use Rattle.fort_cert_checker.specs.declared.plan.Work.{Work}
use Rattle.fort_cert_checker.specs.declared.plan.Work.TheVariants.{Product, Projection, Many}

-- room to lay the targets of a source, by the certificate's steps
pub record FitsList (ss : List Step) (s : Source) (list : TargetList) (lay : LayRoom) : Type 0 where
  pub list_fits : (targets : List ℕ) → IsOnlyAbout ss (Part s.part targets) → HasListRoom (most_states targets) (length targets) list
  pub lay_fits : (targets : List ℕ) → IsOnlyAbout ss (Part s.part targets) → HasLayRoom (most_states targets) lay

-- room to lay the targets of a table
pub record HasTableRoom (t : TurnedTable) (list : TargetList) (lay : LayRoom) : Type 0 where
  pub list_room : HasListRoom (length t.table.presences) (length t.table.targets) list
  pub lay_room : HasLayRoom (length t.table.presences) lay

-- and those of an answer, where it is a table
abbrev pub HasRoomFor : answers.PastAnswer → TargetList → LayRoom → Type 0
HasRoomFor (variants.Truth truth) list lay = Unit {0}
HasRoomFor (variants.Auto table) list lay = HasTableRoom table list lay

-- the list is an answer's, where that is a table
abbrev pub IsLaidFor : Answer → TargetList → Type 0
IsLaidFor (OfValue truth) list = Unit {0}
IsLaidFor (OfTable table) list = IsTargetListOf table list

-- a laid list of an operand is its table's, and made where the table has an entry; a truth has none
abbrev pub IsLaidListOf : products.Operand → TargetList → Type 0
IsLaidListOf (products.OfTable table places) list = IsTargetListOf table list
IsLaidListOf (products.OfTruth b) list = ⊥

-- room for the lists of the operands of a part
abbrev pub AreListsFor : List Step → Work → ListRoom → Type 0
AreListsFor ss (Product op first second) room = FitsList ss first.source room.first room.lay × FitsList ss second.source room.second room.lay
AreListsFor ss (Projection s c) room = FitsList ss s room.first room.lay
AreListsFor ss (Many s c marks) room = FitsList ss s room.first room.lay
AreListsFor ss other room = Unit {0}

abbrev pub IsNeedOf : List Step → Source → ListNeeds → Type 0
IsNeedOf ss s needs = (targets : List ℕ) → IsOnlyAbout ss (Part s.part targets) → IsListFor targets needs

-- what these lists need
abbrev pub AreNeedsOf : List Step → Work → ListNeeds → ListNeeds → Type 0
AreNeedsOf ss (Product op first second) a b = IsNeedOf ss first.source a × IsNeedOf ss second.source b
AreNeedsOf ss (Projection s c) a b = IsNeedOf ss s a
AreNeedsOf ss (Many s c marks) a b = IsNeedOf ss s a
AreNeedsOf ss other a b = Unit {0}
