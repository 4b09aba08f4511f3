use Rattle.std.proofs.Common.{ℕ, List, arith}
use Rattle.std.proofs.lemmas.List.{length-map}
use Rattle.fort_label_bits.specs.RowBits.{labels_at}
use Rattle.fort_label_bits.specs.RootPlaces.{root_of}
use Rattle.fort_label_bits.proofs.RootPlaceLaws.{HasBits-rooted, HasBits-nowhere}
use Rattle.fort_label_bits.proofs.numbered.write_rooted.Goals as goal

pub write_places-requires-clause-places : goal.write_places-requires-clause-places
write_places-requires-clause-places c = rw c.at.ensures (λ k d. let l = c.requires.rooted.within c.in-Some.f.0 k d in omega (arith, l, length-map c.args.patterns.now root_of))

pub write_places-requires-in-Some-clause-places : goal.write_places-requires-in-Some-clause-places
write_places-requires-in-Some-clause-places c = rw c.as_slice-any.ensures.value (λ k d. let l = c.requires.rooted.within_any k d in omega (arith, l, length-map c.args.patterns.now root_of))

pub returns-in-None : goal.returns-in-None
returns-in-None c bits size h = rw c.in-None.is (HasBits-nowhere c.args.patterns.now c.args.base (labels_at c.args.rows.now.labels c.args.row.now.kids) bits c.args.out.now h)

pub returns-in-Some : goal.returns-in-Some
returns-in-Some c bits size h =
    let ws : List (List ℕ) = labels_at c.args.rows.now.labels c.args.row.now.kids in
    let one = rw c.at.ensures at c.write_places.ensures in
    let two = rw c.as_slice-any.ensures.value at c.write_places-in-Some.ensures in
    rw c.in-Some.is (HasBits-rooted c.args.patterns.now c.args.rooted.now c.args.base c.in-Some.f.0 ws bits c.args.out.now c.write_places.new.out c.write_places-in-Some.new.out c.requires.rooted size h one two)
