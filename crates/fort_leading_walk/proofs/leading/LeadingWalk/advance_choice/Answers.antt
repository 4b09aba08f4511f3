use Rattle.fort_leading_walk.proofs.WalkSteps.{turned_last, choice_next, choice_last}
use Rattle.fort_leading_walk.proofs.leading.LeadingWalk.advance_choice.Goals as goal

pub advance-requires-clause-last : goal.advance-requires-clause-last
advance-requires-clause-last g c =
    let st = c.requires in
    turned_last st.0 st.1 st.2 (g.L.LeaderLists.lists c.args.leaders.now) c.args.self.now c.in-Some.choice c.in-Some.is st.3

pub returns-in-Some-clause-next : goal.returns-in-Some-clause-next
returns-in-Some-clause-next g c = λ went sig lead ps st.
    let next = rw went at c.advance.ensures.next in
    choice_next sig lead ps (g.L.LeaderLists.lists c.args.leaders.now) c.args.self.now c.in-Some.choice c.advance.new.self c.in-Some.is st next

pub returns-in-Some-clause-none : goal.returns-in-Some-clause-none
returns-in-Some-clause-none g c = λ stopped sig lead ps st.
    let none = rw stopped at c.advance.ensures.next in
    choice_last sig lead ps (g.L.LeaderLists.lists c.args.leaders.now) c.args.self.now c.in-Some.choice c.in-Some.is st none
