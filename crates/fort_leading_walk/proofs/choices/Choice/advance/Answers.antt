use Rattle.std.proofs.Common.{arith}
use Rattle.fort_leading_walk.proofs.ChoiceLaws.{has_in}
use Rattle.fort_leading_walk.proofs.choices.Choice.advance.Goals as goal

pub next_from-requires-clause-lists : goal.next_from-requires-clause-lists
next_from-requires-clause-lists g c =
    let lists = g.L.LeaderLists.lists c.args.lists.now in
    record {
      few = omega (arith, c.places-places.ensures.count, c.places-places.ensures.few);
      some = λ j l. has_in lists c.args.self.now.picks.indices j c.requires.choice.within l;
      last = c.requires.last;
      ends = c.requires.choice.until;
    }
