use Rattle.fort_certificate.proofs.BuildLaws.{merge_made}
use Rattle.fort_certificate.proofs.build.merge.Goals as goal

pub returns-clause-ok : goal.returns-clause-ok
returns-clause-ok c = λ version f head allowed is headed.
    let p = c.in_ok-part.ensures.ok in
    merge_made c.args.elements.now.bytes f head p.0 c.args.elements.now.forms p.1 p.2 is version c.in_ok-part.part _ allowed p.3 p.4 headed
