use Rattle.std.proofs.Common.{◌≡◌, nat_eq}
use Rattle.std.specs.List.{dedup}
use Rattle.std.proofs.lemmas.List.Filters.{dedup_is}
use Rattle.std.proofs.lemmas.List.Kept.{Contains-dedup_nat, Contains-from_dedup}
use Rattle.std.proofs.lemmas.List.Sorted.{Contains-permutation, IsPermutation-sym}
use Rattle.std.proofs.lemmas.Map.Keys.{IsStrictlyIncreasing-dedup}
use Rattle.fort_outline.proofs.columns.put_in_order.Goals as goal

pub returns-clause-rise : goal.returns-clause-rise
returns-clause-rise c =
    let sorted = c.sort.new.self.items in
    let is : c.dedup.new.self.items ≡ dedup nat_eq sorted = dedup_is nat_eq sorted c.dedup.new.self.items c.dedup.ensures.filtered in
    rw is (IsStrictlyIncreasing-dedup sorted c.in_ok-sort.ensures.sorted)

pub returns-clause-same : goal.returns-clause-same
returns-clause-same c =
    let numbers = c.args.numbers.now.items in
    let sorted = c.sort.new.self.items in
    let is : c.dedup.new.self.items ≡ dedup nat_eq sorted = dedup_is nat_eq sorted c.dedup.new.self.items c.dedup.ensures.filtered in
    let moved = c.in_ok-sort.ensures.permutation in
    rw is (λ n. (
      λ there. Contains-permutation sorted numbers n (IsPermutation-sym numbers sorted moved) (Contains-from_dedup nat_eq sorted n there),
      λ there. Contains-dedup_nat sorted n (Contains-permutation numbers sorted n moved there),
    ))
