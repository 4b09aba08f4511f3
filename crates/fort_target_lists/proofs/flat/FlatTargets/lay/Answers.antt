use Rattle.std.proofs.Common.{◌≡◌, ℕ, suc, ◌+◌, ◌^◌, ◌<◌, List, length, ap, subst, ◌∙◌, arith}
use Rattle.fort_target_lists.specs.Chains.{AreChains}
use Rattle.fort_target_lists.specs.Walks.{IsTakenUp}
use Rattle.fort_target_lists.specs.declared.flat.FlatTargets.{FlatTargets}
use Rattle.fort_target_lists.proofs.LayLaws.{covered_listed}
use Rattle.fort_target_lists.proofs.ListLaws.{presences_few, list_of_laid}
use Rattle.fort_target_lists.proofs.flat.FlatTargets.lay.Goals as goal

pub take_up-requires-clause-within : goal.take_up-requires-clause-within
take_up-requires-clause-within c =
    presences_few c.requires.table.0 c.args.signature.now c.args.columns c.args.presences.now c.args.targets.now c.requires.table.1

pub returns-clause-list : goal.returns-clause-list
returns-clause-list c = λ t h.
    let sig = c.args.signature.now in
    let columns = c.args.columns in
    let ps = c.args.presences.now in
    let targets = c.args.targets.now in
    let own = c.take_up.new.self in
    let firsts = own.chains.firsts.items in
    let nexts = own.chains.nexts.items in
    let flat : FlatTargets = record {
      base = c.len.result + 1;
      spots = c.take_up.new.spots;
      listing = c.lay_targets.new.listing;
    } in
    let base : flat.base ≡ suc (length sig) = omega (arith, c.len.ensures.count) in
    let base_is : flat.base ≡ suc (length t.signature) = base ∙ ap (λ n. suc n) (ap length h.signature) in
    let chains : AreChains t.columns t.presences firsts nexts =
    subst (λ (xs : List ℕ). AreChains t.columns xs firsts nexts) h.presences_are (subst (λ (n : ℕ). AreChains n ps firsts nexts) h.columns_are c.take_up.ensures.chains) in
    let taken : IsTakenUp t sig columns flat.base targets own = record {
      listed = covered_listed t h.listed (omega (arith, c.requires.list_room.targets, c.args.self.now.listing.targets.small, ap length h.targets_are));
      signature = h.signature;
      columns_are = h.columns_are;
      base_is = base_is;
      chains_are = chains;
      targets_are = h.targets_are;
    } in
    let few : c.pow-count.result < 2 ^ 64 = omega arith in
    list_of_laid t sig columns ps targets flat c.pow-count.result h base c.pow-count.ensures few c.take_up.ensures.spots (c.lay_targets.ensures.laid t taken)
