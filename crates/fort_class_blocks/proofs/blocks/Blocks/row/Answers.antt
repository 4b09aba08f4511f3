use Rattle.std.proofs.Common.{◌≡◌, ℕ, ◌+◌, ◌-◌, ◌*◌, ◌<◌, List, length, take, drop, get_or, ap, ◌∙◌, subst, arith}
use Rattle.fort_class_blocks.specs.Blocks.{Block, AreFull, block_at, last_count, row_of}
use Rattle.fort_class_blocks.proofs.BlockLaws.{row_found, shape_found, blocks_full}
use Rattle.fort_class_blocks.proofs.PutLaws.{row_count, row_at}
use Rattle.fort_class_blocks.proofs.blocks.Blocks.row.Goals as goal

pub counts-counts-requires : goal.counts-counts-requires
counts-counts-requires c = shape_found c.self.inside.targets.items c.self.inside.shapes.items c.args.self.now c.args.block c.index-shape.result.now c.self.invariant.between c.self.view_is c.requires.block c.index-shape.ensures

pub number-requires-clause-few : goal.number-requires-clause-few
number-requires-clause-few c =
    let a = c.self.inside in
    let ns = c.counts-counts.result.now in
    let r = row_found a.targets.items a.shapes.items c.args.self.now c.args.block c.index-shape.result.now ns c.args.classes.now c.self.invariant.between c.self.view_is c.requires.block c.index-shape.ensures c.counts-counts.ensures c.requires.classes in
    let some : 0 < last_count ns c.args.classes.now = omega (arith, c.if-count-eq0.false) in
    omega (arith, r.few some, a.targets.ok.0, a.targets.ok.1, a.targets.small)

pub overflow_mul-from : goal.overflow_mul-from
overflow_mul-from c =
    let a = c.self.inside in
    let r = row_found a.targets.items a.shapes.items c.args.self.now c.args.block c.index-shape.result.now c.counts-counts.result.now c.args.classes.now c.self.invariant.between c.self.view_is c.requires.block c.index-shape.ensures c.counts-counts.ensures c.requires.classes in
    let product = ap (λ (n : ℕ). n * last_count c.counts-counts.result.now c.args.classes.now) c.number.ensures in
    omega (arith, r.within, product, a.targets.ok.0, a.targets.ok.1, a.targets.small)

pub overflow_add-from : goal.overflow_add-from
overflow_add-from c =
    let a = c.self.inside in
    let r = row_found a.targets.items a.shapes.items c.args.self.now c.args.block c.index-shape.result.now c.counts-counts.result.now c.args.classes.now c.self.invariant.between c.self.view_is c.requires.block c.index-shape.ensures c.counts-counts.ensures c.requires.classes in
    let product = ap (λ (n : ℕ). n * last_count c.counts-counts.result.now c.args.classes.now) c.number.ensures in
    omega (arith, r.within, product, a.targets.ok.0, a.targets.ok.1, a.targets.small)

pub overflow_add-result : goal.overflow_add-result
overflow_add-result c =
    let a = c.self.inside in
    let r = row_found a.targets.items a.shapes.items c.args.self.now c.args.block c.index-shape.result.now c.counts-counts.result.now c.args.classes.now c.self.invariant.between c.self.view_is c.requires.block c.index-shape.ensures c.counts-counts.ensures c.requires.classes in
    let product = ap (λ (n : ℕ). n * last_count c.counts-counts.result.now c.args.classes.now) c.number.ensures in
    omega (arith, r.within, product, a.targets.ok.0, a.targets.ok.1, a.targets.small)

pub offset_bounds-targets-from : goal.offset_bounds-targets-from
offset_bounds-targets-from c =
    let a = c.self.inside in
    let r = row_found a.targets.items a.shapes.items c.args.self.now c.args.block c.index-shape.result.now c.counts-counts.result.now c.args.classes.now c.self.invariant.between c.self.view_is c.requires.block c.index-shape.ensures c.counts-counts.ensures c.requires.classes in
    let product = ap (λ (n : ℕ). n * last_count c.counts-counts.result.now c.args.classes.now) c.number.ensures in
    omega (arith, r.within, product, c.as_slice-targets.ensures.len, a.targets.ok.0, a.targets.ok.1, a.targets.small, c.as_slice-targets.type_inv)

pub slice_bounds-result-end-2 : goal.slice_bounds-result-end-2
slice_bounds-result-end-2 c =
    let a = c.self.inside in
    let r = row_found a.targets.items a.shapes.items c.args.self.now c.args.block c.index-shape.result.now c.counts-counts.result.now c.args.classes.now c.self.invariant.between c.self.view_is c.requires.block c.index-shape.ensures c.counts-counts.ensures c.requires.classes in
    let product = ap (λ (n : ℕ). n * last_count c.counts-counts.result.now c.args.classes.now) c.number.ensures in
    omega (arith, r.within, product, ap length c.as_slice-targets.ensures.value, c.as_slice-targets.ensures.len, a.targets.ok.0)

pub returns : goal.returns
returns c =
    let a = c.self.inside in
    let ts = a.targets.items in
    let ss = a.shapes.items in
    let bs = c.args.self.now in
    let b = c.args.block in
    let cs = c.args.classes.now in
    let x = c.index-shape.result.now in
    let w = last_count c.counts-counts.result.now cs in
    let from = x.start + c.number.result * w in
    let r = row_found ts ss bs b x c.counts-counts.result.now cs c.self.invariant.between c.self.view_is c.requires.block c.index-shape.ensures c.counts-counts.ensures c.requires.classes in
    let count : from + w - from ≡ w = omega arith in
    let row : take (from + w - from) (drop from c.as_slice-targets.result.now) ≡ row_of (block_at bs b) cs =
    ap (λ (k : ℕ). take k (drop from c.as_slice-targets.result.now)) count
    ∙ (ap (λ (ys : List ℕ). take w (drop from ys)) c.as_slice-targets.ensures.value
    ∙ (ap (λ (n : ℕ). take w (drop (x.start + n * w) ts)) c.number.ensures ∙ r.row)) in
    let full : AreFull bs = subst (λ (xs : List Block). AreFull xs) c.self.view_is (blocks_full ts ss c.self.invariant.between) in
    record {
      row = row;
      count = ap length row ∙ row_count (block_at bs b) cs (full b c.requires.block) c.requires.classes;
      targets = λ k low. ap (λ (ys : List ℕ). get_or ys k 0) row ∙ row_at (block_at bs b) cs k c.requires.classes low;
    }
