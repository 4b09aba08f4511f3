use Rattle.std.proofs.Common.{◌≡◌, ◌≤◌, [], map, take, length, get_or}
use Rattle.fort_check_steps.proofs.state_labels.put_kids.Given as goal

abbrev pub invariant-loop-q : goal.invariant-loop-q
invariant-loop-q l = record {
  labels : l.kids.labels ≡ map (λ q. get_or l.sparse.labels q []) (take l.q-index l.states);
  label : length l.label ≡ l.sparse.width;
  width : l.kids.width ≡ l.initial.kids.width;
  room : l.kids.room ≡ l.initial.kids.room;
  space : l.initial.kids.space ≤ l.kids.space;
}
