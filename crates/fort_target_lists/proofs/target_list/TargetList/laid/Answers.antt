use Rattle.std.proofs.Common.{◌≡◌, suc, ◌+◌, ◌^◌, ◌<◌, length, ap, arith, rules}
use Rattle.fort_target_lists.proofs.ListLaws.{symbols_within, no_list}
use Rattle.fort_target_lists.proofs.target_list.TargetList.laid.Goals as goal

pub pow-symbols-requires : goal.pow-symbols-requires
pow-symbols-requires c =
    let sig = c.args.signature.now in
    let targets = c.args.targets.now in
    let some : 0 < length targets = search (rules, c.is_empty.ensures, c.if-is_empty.false) in
    let base : c.len.result + 1 ≡ suc (length sig) = omega (arith, c.len.ensures.count) in
    omega (
      arith,
      symbols_within c.requires.table.0 sig c.args.columns c.args.presences.now targets c.requires.table.1 some,
      ap (λ n. n ^ c.args.columns) base,
    )

pub returns-then-is_empty : goal.returns-then-is_empty
returns-then-is_empty c = record {
  list = λ t with. no_list t c.args.signature.now c.args.columns c.args.presences.now c.args.targets.now c.new.result with (search (rules, c.is_empty.ensures, c.if-is_empty.true)) c.new.ensures.made c.new.ensures.by_classes;
}
