use Rattle.std.proofs.Common.{◌≡◌, suc, ◌+◌, ap, sym, ◌∙◌, arith, subst, get_or}
use Rattle.std.proofs.lemmas.List.{get_or_default}
use Rattle.fort_products.specs.Joints.{IsWordIn, AreStatesUnder, states_under, place_under, word_in}
use Rattle.fort_products.proofs.joint.Under.word.Goals as goal

pub overflow_add-self : goal.overflow_add-self
overflow_add-self c =
    let list = c.in-Some.list.now in
    let u = c.args.self.now in
    let labels = c.args.rows.now.labels in
    let kids = c.args.kids.now in
    let there : AreStatesUnder list u labels kids = subst (λ x. IsWordIn x (λ l. l.now) u labels kids) c.in-Some.is c.requires in
    omega (arith, there.within, c.place-place.ensures, list.listing.targets.ok.0)

pub index-requires : goal.index-requires
index-requires c =
    let list = c.in-Some.list.now in
    let u = c.args.self.now in
    let labels = c.args.rows.now.labels in
    let kids = c.args.kids.now in
    let there : AreStatesUnder list u labels kids = subst (λ x. IsWordIn x (λ l. l.now) u labels kids) c.in-Some.is c.requires in
    omega (arith, there.within, c.place-place.ensures, list.listing.targets.ok.0)

pub returns-in-Some : goal.returns-in-Some
returns-in-Some c =
    let list = c.in-Some.list.now in
    let u = c.args.self.now in
    let labels = c.args.rows.now.labels in
    let kids = c.args.kids.now in
    let there : AreStatesUnder list u labels kids = subst (λ x. IsWordIn x (λ l. l.now) u labels kids) c.in-Some.is c.requires in
    let x = c.index.result.now in
    let targets = list.listing.targets.items in
    let at : u.start + c.place-place.result ≡ u.start + place_under list (states_under u labels kids) = ap (λ n. u.start + n) c.place-place.ensures in
    let read : x ≡ get_or targets (u.start + place_under list (states_under u labels kids)) 0 =
    c.index.ensures ∙ (ap (λ n. get_or targets n x) at ∙ get_or_default targets (u.start + place_under list (states_under u labels kids)) x 0 (there.within)) in
    let more : x + 1 ≡ suc x = omega arith in
    more ∙ (ap suc read ∙ sym (ap (λ y. word_in y (λ l. l.now) u.start (states_under u labels kids)) c.in-Some.is))
