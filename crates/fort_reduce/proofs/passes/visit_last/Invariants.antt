use Rattle.std.proofs.Common.{◌≡◌, take, length}
use Rattle.fort_tables.specs.Tables.{listed_table}
use Rattle.fort_tables.specs.Refinement.{IsRefined}
use Rattle.fort_reduce.specs.Walks.{IsWalked}
use Rattle.fort_reduce.specs.Fronts.{IsFront}
use Rattle.fort_reduce.proofs.WholeLaws.{AreWholeTo}
use Rattle.fort_reduce.proofs.passes.visit_last.Given as goal

abbrev pub invariant-loop-q : goal.invariant-loop-q
invariant-loop-q l = record {
  kept : take l.j l.kids ≡ take l.j l.initial.kids;
  room : length l.kids ≡ 8;
  refined : IsRefined (listed_table l.targets.table.now) l.classes.of.items l.classes.leaders.items;
  front : IsFront l.targets l.classes.of.items l.classes.leaders.items (take l.j l.initial.kids) l.front;
  walked : IsWalked (AreWholeTo (listed_table l.targets.table.now) l.initial.classes.of.items l.initial.classes.leaders.items l.targets.symbol (take l.j l.initial.kids) 0 l.q)
      l.initial.classes.of.items l.initial.classes.leaders.items l.classes.of.items l.classes.leaders.items;
}
