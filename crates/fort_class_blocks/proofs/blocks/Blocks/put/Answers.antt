use Rattle.std.proofs.Common.{◌≡◌, ℕ, List, map, set, ap, ◌∙◌, subst, arith}
use Rattle.fort_class_blocks.specs.Blocks.{Block, AreFull, counts_at, target_of, with_target}
use Rattle.fort_class_blocks.specs.BlocksInside.{block_in}
use Rattle.fort_class_blocks.proofs.BlockLaws.{cell_found, blocks_full}
use Rattle.fort_class_blocks.proofs.PutLaws.{counts_stay, target_given, target_stays}
use Rattle.fort_class_blocks.proofs.blocks.Blocks.put.Goals as goal

pub place-place-requires : goal.place-place-requires
place-place-requires c =
    let a = c.self.inside in
    let cell = cell_found a.targets.items a.shapes.items c.args.self.now c.args.block c.index.result.now c.args.classes.now c.self.invariant.between c.self.view_is c.requires.block c.index.ensures c.requires.classes in
    record { shape = cell.shape; classes = cell.are; few = omega (arith, cell.high, a.targets.ok.0, a.targets.ok.1, a.targets.small) }

pub index_mut-requires : goal.index_mut-requires
index_mut-requires c =
    let a = c.self.inside in
    let cell = cell_found a.targets.items a.shapes.items c.args.self.now c.args.block c.index.result.now c.args.classes.now c.self.invariant.between c.self.view_is c.requires.block c.index.ensures c.requires.classes in
    omega (arith, cell.within, c.place-place.ensures, a.targets.ok.0)

pub returns : goal.returns
returns c =
    let ts = c.self.inside.targets.items in
    let ss = c.self.inside.shapes.items in
    let bs = c.args.self.now in
    let b = c.args.block in
    let cs = c.args.classes.now in
    let v = c.args.target in
    let cell = cell_found ts ss bs b c.index.result.now cs c.self.invariant.between c.self.view_is c.requires.block c.index.ensures c.requires.classes in
    let new : map (block_in (set ts c.place-place.result v)) ss ≡ with_target bs b cs v =
    ap (λ (n : ℕ). map (block_in (set ts n v)) ss) c.place-place.ensures ∙ cell.written v in
    let full : AreFull bs = subst (λ (xs : List Block). AreFull xs) c.self.view_is (blocks_full ts ss c.self.invariant.between) in
    record {
      cell = new;
      counts = λ i. ap (λ (xs : List Block). counts_at xs i) new ∙ counts_stay bs b cs v c.requires.block i;
      there = ap (λ (xs : List Block). target_of xs b cs) new ∙ target_given bs b cs v c.requires.block (full b c.requires.block) c.requires.classes;
      others = λ i ds low are differ. ap (λ (xs : List Block). target_of xs i ds) new ∙ target_stays bs b cs v c.requires.block c.requires.classes i ds are differ;
    }
