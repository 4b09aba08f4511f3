use Rattle.fort_infinity.proofs.many_choices.next_given.Goals as goal

pub returns-in-None-clause-none : goal.returns-in-None-clause-none
returns-in-None-clause-none c = λ i a b. c.in-None.ensures.none i a
