use Rattle.std.proofs.Common.{◌≡◌, ℕ, map, vec_items, take, length, ap, sym, subst, ◌∙◌, arith}
use Rattle.std.proofs.lemmas.List.{length-take-le, get_or-take}
use Rattle.fort_class_blocks.specs.KeptBlocks.{HasBlock}
use Rattle.fort_tight_lists.specs.Picks.{AreFirsts, IsPicked}
use Rattle.fort_tight_lists.proofs.TightSymbolLaws.{on_ok_both, readable_firsts, readable_made}
use Rattle.fort_tight_lists.proofs.parts.TightParts.add_present.Goals as goal

pub add_block-requires-clause-firsts : goal.add_block-requires-clause-firsts
add_block-requires-clause-firsts c =
    let old = c.args.old.now in
    let places = old.places in
    let room = c.views-views.result in
    let long : length (take places room) ≡ places = length-take-le places room (omega (arith, c.requires.few)) in
    subst (λ fs. AreFirsts old.list.now.blocks old.number (map vec_items fs)) (sym c.as_slice-2.ensures.value)
    (readable_firsts old.list.now old.number places c.requires.readable (take places c.counts-counts.result) (take places room) c.args.self.now.numbers.items c.add_places.new.numbers.items c.as_slice.result.now c.args.self.now.views.views.items c.add_places.new.tight.views.items
    (map vec_items c.in_ok-firsts.firsts.items) (length (take places room)) c.as_slice.ensures.value c.counts-counts.ensures long c.in_ok-firsts.ensures.places)

pub returns-clause-own : goal.returns-clause-own
returns-clause-own c = on_ok_both c.add_block.result (λ block picked.
    let old = c.args.old.now in
    let places = old.places in
    let room = c.views-views.result in
    let long : length (take places room) ≡ places = length-take-le places room (omega (arith, c.requires.few)) in
    let firsts = map vec_items c.in_ok-firsts.firsts.items in
    let same = ap (map vec_items) c.as_slice-2.ensures.value in
    readable_made old.list.now old.number places c.requires.readable (take places c.counts-counts.result) (take places room) c.args.self.now.numbers.items c.add_places.new.numbers.items c.as_slice.result.now c.args.self.now.views.views.items c.add_places.new.tight.views.items
    firsts (length (take places room)) c.as_slice.ensures.value c.counts-counts.ensures long c.in_ok-firsts.ensures.places c.args.self.now.blocks c.add_block.new.blocks
    (λ j k. get_or-take places room j 0 k ∙ c.views-views.ensures j k)
    (subst (λ fs. HasBlock c.args.self.now.blocks c.add_block.new.blocks (map (length {A = ℕ}) fs)) same block)
    (subst (λ fs. IsPicked old.list.now.blocks old.number fs c.add_block.new.blocks (length c.args.self.now.blocks)) same picked)) c.add_block.ensures.added c.add_block.ensures.picked
