use Rattle.std.proofs.Common.{List, ℕ, ◌+◌, ◌<◌, ◌^◌, sym, ap, ◌∙◌, subst, arith}
use Rattle.fort_class_blocks.specs.Blocks.{product, AreClasses, cell_of}
use Rattle.fort_class_blocks.specs.Shapes.{counts_in}
use Rattle.fort_class_blocks.proofs.CellLaws.{cell_below}
use Rattle.fort_class_blocks.proofs.shape.Shape.place.Goals as goal

pub number-requires : goal.number-requires
number-requires c =
    let s = c.args.self.now in
    let few : product (counts_in s) < 2 ^ 64 = omega (arith, c.requires.few) in
    record {
      classes = subst (λ (ns : List ℕ). AreClasses ns c.args.classes.now) (sym c.counts.ensures) c.requires.classes;
      few = subst (λ (ns : List ℕ). product ns < 2 ^ 64) (sym c.counts.ensures) few;
    }

pub overflow_add-result : goal.overflow_add-result
overflow_add-result c =
    let s = c.args.self.now in
    let number = c.number.ensures ∙ ap (λ (ns : List ℕ). cell_of ns c.args.classes.now) c.counts.ensures in
    omega (arith, number, cell_below (counts_in s) c.args.classes.now c.requires.classes, c.requires.few)

pub returns : goal.returns
returns c = ap (λ (n : ℕ). c.args.self.now.start + n) (c.number.ensures ∙ ap (λ (ns : List ℕ). cell_of ns c.args.classes.now) c.counts.ensures)
