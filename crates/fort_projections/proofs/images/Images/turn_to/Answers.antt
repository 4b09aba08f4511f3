use Rattle.std.proofs.Common.{refl}
use Rattle.fort_projections.proofs.ImagesKept.{images_along}
use Rattle.fort_projections.proofs.images.Images.turn_to.Goals as goal

pub returns-in-Some-clause-images : goal.returns-in-Some-clause-images
returns-in-Some-clause-images c = λ body column are.
    c.start.ensures.images body column
    (images_along body column c.args.self.now _
    (record { same = record { key = refl; labels = refl; place = refl }; slots = refl; images = refl; room = refl; image = refl })
    are)
