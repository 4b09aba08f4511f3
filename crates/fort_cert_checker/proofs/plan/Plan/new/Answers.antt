use Rattle.std.proofs.Common.{◌≡◌, length, ap, arith}
use Rattle.fort_parts.specs.PartColumns.{columns_of}
use Rattle.fort_outline.proofs.OutlineLaws.{columns_at}
use Rattle.fort_outline.specs.Outlines.{core_at}
use Rattle.fort_cert_checker.proofs.plan.Plan.new.Goals as goal

pub index-requires : goal.index-requires
index-requires c = omega (arith, c.requires.within, c.requires.outline.1.count, c.args.outline.now.columns.ok.0)

pub returns : goal.returns
returns c =
    let o = c.args.outline.now in
    let are = c.requires.outline in
    let v = c.index.result.now in
    let columns : c.len.result ≡ length (columns_of (core_at o c.args.k)) =
    omega (arith, c.len.ensures, v.ok.0, ap length (columns_at are.0 o are.1 c.args.k v c.requires.within c.index.ensures)) in
    record { columns = columns; work = c.in_ok-work.ensures }
