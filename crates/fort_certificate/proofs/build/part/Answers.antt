use Rattle.fort_certificate.proofs.BuildLaws.{part_made}
use Rattle.fort_certificate.proofs.build.part.Goals as goal

pub returns-clause-ok : goal.returns-clause-ok
returns-clause-ok c = λ version f head allowed is headed.
    let p = c.in_ok-part.ensures.ok in
    part_made c.args.elements.now.bytes f head p.0 c.args.elements.now.forms p.1 p.2 is version c.in_ok-part.part _ p.3 p.4 headed
