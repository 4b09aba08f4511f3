use Rattle.fort_projection_keys.proofs.KeyLaws.{many_goes}
use Rattle.fort_projection_keys.proofs.many_keys.ManyKeys.new.Goals as goal

pub returns-clause-goes : goal.returns-clause-goes
returns-clause-goes g c =
    many_goes (g.T.Table.table c.args.body.now) c.args.column (g.T.TableClasses.view_number c.args.body.now) (g.T.TableClasses.leader_in c.args.body.now) (g.T.TableClasses.lead c.args.body.now)
    c.states-states.ensures.lawful c.states-states.ensures.reached c.requires (g.met.T.TableClasses.is_led c.args.body.now) (g.met.T.TableClasses.leads c.args.body.now)
