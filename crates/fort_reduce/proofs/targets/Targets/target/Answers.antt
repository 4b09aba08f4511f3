use Rattle.std.proofs.Common.{◌≡◌, ◌+◌, get_or, ap, ◌∙◌, arith}
use Rattle.fort_tables.specs.Entries.{entry}
use Rattle.fort_tables.specs.Tables.{listed_table}
use Rattle.fort_target_lists.specs.Places.{place_from}
use Rattle.fort_target_lists.specs.Flats.{flat_place}
use Rattle.fort_target_lists.proofs.LookUpLaws.{states_in}
use Rattle.fort_reduce.proofs.targets.Targets.target.Goals as goal

pub target-requires : goal.target-requires
target-requires c =
    let s = c.args.self.now in
    let t = listed_table s.table.now in
    let e = entry s.symbol c.args.kids.now in
    let at = s.finds.flat_is.entries e c.requires in
    record {
      states = states_in t s.list.now e s.finds.flat_is c.requires;
      within = omega (arith, at.within, s.finds.start_is);
    }

pub returns : goal.returns
returns c =
    let s = c.args.self.now in
    let e = entry s.symbol c.args.kids.now in
    let flat = s.list.now in
    let place : s.start + place_from flat.spots.ranks.items flat.spots.alike.items 0 e.kids ≡ flat_place flat e = ap (λ n. n + place_from flat.spots.ranks.items flat.spots.alike.items 0 e.kids) s.finds.start_is in
    c.target.ensures ∙ (ap (λ p. get_or flat.listing.targets.items p 0) place ∙ (s.finds.flat_is.entries e c.requires).is)
