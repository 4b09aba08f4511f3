use Rattle.std.proofs.Common.{◌≡◌, suc, ◌+◌, length, refl, arith}
use Rattle.std.proofs.lemmas.Option.{none-some}
use Rattle.fort_target_lists.specs.declared.flat.FlatTargets.{FlatTargets}
use Rattle.fort_target_lists.proofs.ToldLaws.{list_told, goes_over}
use Rattle.fort_target_lists.proofs.target_list.TargetList.laid_by.Goals as goal

pub returns-clause-list : goal.returns-clause-list
returns-clause-list g c = λ body over tells.
    let sig = c.args.signature.now in
    let columns = c.args.columns in
    let ps = c.args.presences.now in
    let flat : FlatTargets = record {
      base = c.len-base.result + 1;
      spots = c.take_up.new.spots;
      listing = c.in_ok-listing.listing;
    } in
    let base : flat.base ≡ suc (length sig) = omega (arith, c.len-base.ensures.count) in
    let all = c.in_ok-listing.ensures.laid body (goes_over body _ sig columns ps over c.requires.narrow refl refl base c.take_up.ensures.chains) tells in
    record {
      list_is = λ made. list_told body sig columns ps flat over base c.in_ok-listing.ensures.few c.take_up.ensures.spots all;
      classes_are = λ l none. absurd (none-some l none);
      made = λ e h. refl;
    }
