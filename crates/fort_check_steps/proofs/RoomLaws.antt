-- Room for labels, and for lists of targets.
use Rattle.std.proofs.Common.{ℕ, ◌≤◌, List, arith}
use Rattle.std.proofs.Math.Nat.{mul-le-mul_right}
use Rattle.fort_target_lists.specs.declared.states.LayRoom.{LayRoom}
use Rattle.fort_target_lists.specs.declared.target_list.TargetList.{TargetList}
use Rattle.fort_target_lists.specs.LayRooms.{HasLayRoom}
use Rattle.fort_target_lists.specs.TargetLists.{HasListRoom}
use Rattle.fort_check_steps.specs.StateLabelsView.{Spaces, HasSpace, IsAsSpacious}
use Rattle.fort_check_steps.specs.declared.room.LabelRoom.{LabelRoom}
use Rattle.fort_check_steps.specs.declared.room.LabelNeeds.{LabelNeeds}
use Rattle.fort_check_steps.specs.Room.{HasLabelRoom, HasFirstRoom, HasSecondRoom, HasLeaderRoom, IsAsRoomy, IsSpaceFor, IsListFor, IsAsNeedy, HasNeeds, most_states}

pub as_spacious : {a b c : Spaces} → IsAsSpacious b c → IsAsSpacious a b → IsAsSpacious a c
as_spacious h g = record {
  narrow = omega (arith, g.narrow, h.narrow);
  wide = omega (arith, g.wide, h.wide);
  most = omega (arith, g.most, h.most);
  widest = omega (arith, g.widest, h.widest);
}

-- fewer labels, in no less space
pub has_space : {w n m : ℕ} {a b : Spaces} → HasSpace w n a → m ≤ n → IsAsSpacious a b → HasSpace w m b
has_space {w} {n} {m} h l g = record {
  narrow = λ e. omega (arith, h.narrow e, mul-le-mul_right w l, g.narrow);
  wide = λ e. omega (arith, h.wide e, mul-le-mul_right w l, g.wide);
  most = λ e. omega (arith, h.most e, l, g.most);
  widest = λ e. omega (arith, h.widest e, g.widest);
}

-- room to lay more states is room for fewer
pub lay_fewer : {n m : ℕ} {r : LayRoom} → HasLayRoom n r → m ≤ n → HasLayRoom m r
lay_fewer h l = record { counts = h.counts; firsts = h.firsts; nexts = omega (arith, h.nexts); cursors = omega (arith, h.cursors) }

-- and so is that of a list, for fewer targets too
pub list_fewer : {n m k j : ℕ} {l : TargetList} → HasListRoom n k l → m ≤ n → j ≤ k → HasListRoom m j l
list_fewer h a b = record { ranks = omega (arith, h.ranks, a); alike = omega (arith, h.alike, a); targets = omega (arith, h.targets, b); starts = omega (arith, h.starts, b) }

-- room for what labels need is room for them
pub has_label_room : (w n : ℕ) (targets : List ℕ) (needs : LabelNeeds) (r : LabelRoom) → IsSpaceFor w n needs → HasNeeds needs r → most_states targets ≤ n → HasLabelRoom w targets r
has_label_room w n targets needs r h g l = record { rows = has_space h.rows l g.rows; out = omega (arith, h.out, g.out); lay = lay_fewer g.lay (omega (arith, l, h.states)) }

-- and room for what lists need is room for them
pub first_room : {targets : List ℕ} {n : LabelNeeds} {r : LabelRoom} → IsListFor targets n.first → HasNeeds n r → HasFirstRoom targets r.lists
first_room h g = record { list = list_fewer g.first h.states h.targets_fit; lay = lay_fewer g.first_lay h.states }

pub second_room : {targets : List ℕ} {n : LabelNeeds} {r : LabelRoom} → IsListFor targets n.second → HasNeeds n r → HasSecondRoom targets r.lists
second_room h g = record { list = list_fewer g.second h.states h.targets_fit; lay = lay_fewer g.second_lay h.states }

-- and room for what a merge needs is room for it
pub leader_room : {targets : List ℕ} {n : LabelNeeds} {r : LabelRoom} → IsListFor targets n.first → most_states targets ≤ n.leaders → HasNeeds n r → HasLeaderRoom targets r
leader_room h l g = record { leaders = omega (arith, l, g.leaders); own = first_room h g }

pub more_room : {less more : LabelNeeds} {r : LabelRoom} → IsAsNeedy less more → HasNeeds more r → HasNeeds less r
more_room h g = record {
  rows = as_spacious g.rows h.rows;
  out = omega (arith, h.out, g.out);
  lay = lay_fewer g.lay h.states;
  first = list_fewer g.first h.first.states h.first.targets;
  second = list_fewer g.second h.second.states h.second.targets;
  first_lay = lay_fewer g.first_lay h.first.states;
  second_lay = lay_fewer g.second_lay h.second.states;
  leaders = omega (arith, g.leaders, h.leaders);
}

-- what there was room for, there still is
pub still_room : {w : ℕ} {targets : List ℕ} {old new : LabelRoom} → HasLabelRoom w targets old → IsAsRoomy old new → HasLabelRoom w targets new
still_room h g = record { rows = has_space h.rows (omega arith) g.rows; out = omega (arith, h.out, g.out); lay = g.lists.lay _ h.lay }

pub still_leader_room : {targets : List ℕ} {old new : LabelRoom} → HasLeaderRoom targets old → IsAsRoomy old new → HasLeaderRoom targets new
still_leader_room h g = record {
  leaders = omega (arith, h.leaders, g.leaders);
  own = record { list = g.lists.first _ _ h.own.list; lay = g.lists.lay _ h.own.lay };
}
