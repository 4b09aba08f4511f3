use Rattle.std.proofs.Common.{ℕ, ◌<◌, length, get_or, ap, ◌∙◌, arith}
use Rattle.std.proofs.lemmas.List.{get_or_read}
use Rattle.fort_class_blocks.proofs.BlockLaws.{cell_found}
use Rattle.fort_class_blocks.proofs.blocks.Blocks.target.Goals as goal

pub place-requires : goal.place-requires
place-requires c =
    let a = c.self.inside in
    let cell = cell_found a.targets.items a.shapes.items c.args.self.now c.args.block c.index.result.now c.args.classes.now c.self.invariant.between c.self.view_is c.requires.block c.index.ensures c.requires.classes in
    record { shape = cell.shape; classes = cell.are; few = omega (arith, cell.high, a.targets.ok.0, a.targets.ok.1, a.targets.small) }

pub index-requires-2 : goal.index-requires-2
index-requires-2 c =
    let a = c.self.inside in
    let cell = cell_found a.targets.items a.shapes.items c.args.self.now c.args.block c.index.result.now c.args.classes.now c.self.invariant.between c.self.view_is c.requires.block c.index.ensures c.requires.classes in
    omega (arith, cell.within, c.place.ensures, a.targets.ok.0)

pub returns : goal.returns
returns c =
    let a = c.self.inside in
    let ts = a.targets.items in
    let cell = cell_found ts a.shapes.items c.args.self.now c.args.block c.index.result.now c.args.classes.now c.self.invariant.between c.self.view_is c.requires.block c.index.ensures c.requires.classes in
    let within : c.place.result < length ts = omega (arith, cell.within, c.place.ensures) in
    get_or_read ts c.place.result c.index-2.result.now within c.index-2.ensures 0
    ∙ (ap (λ (n : ℕ). get_or ts n 0) c.place.ensures ∙ cell.target)
