use Rattle.std.proofs.Common.{◌≡◌, ℕ, ◌+◌, ◌-◌, List, [], ◌∷◌, ◌++◌, length, map, take, replicate, sym, ap, ◌∙◌, subst, arith}
use Rattle.std.proofs.lemmas.List.{take_all, length-replicate}
use Rattle.fort_class_blocks.specs.Blocks.{Block, product, new_block}
use Rattle.fort_class_blocks.specs.BlocksInside.{block_in, AreBetween}
use Rattle.fort_class_blocks.specs.declared.shape.Shape.{Shape}
use Rattle.fort_class_blocks.proofs.BlockLaws.{block_added, added_between}
use Rattle.fort_class_blocks.proofs.blocks.Blocks.add.Goals as goal

-- the list after it was filled up to n elements
filled : (ts new : List ℕ) (n k p : ℕ) → new ≡ take n ts ++ replicate (n - k) 0 → length ts ≡ k → n ≡ k + p → new ≡ ts ++ replicate p 0
filled ts new n k p e long whole =
    let behind : n - k ≡ p = omega arith in
    let before : take n ts ≡ ts = take_all n ts (omega arith) in
    e ∙ (λ i. before i ++ replicate (behind i) 0)

pub invariant_of-self-2 : goal.invariant_of-self-2
invariant_of-self-2 c =
    let ts = c.self.inside.targets in
    let ss = c.self.inside.shapes.items in
    let s = c.new-shape.result in
    let p = product c.args.counts.now in
    let new = c.resize.new.self in
    let us : List ℕ = replicate p 0 in
    let whole : c.saturating_add.result ≡ ts.len + p = omega (arith, c.saturating_add.ensures, c.combinations.ensures, c.len-start.ensures, c.in_ok-resize.ensures.len, new.ok.1, new.small) in
    let grown : new.items ≡ ts.items ++ us = filled ts.items new.items c.saturating_add.result ts.len p c.in_ok-resize.ensures.items (omega (arith, ts.ok.0)) whole in
    let pushed : c.push_reserved.new.self.items ≡ ss ++ s ∷ [] = c.push_reserved.ensures.items ∙ ap (λ (xs : List Shape). xs ++ s ∷ []) c.reserve.ensures.items in
    let start : s.start ≡ length ts.items = omega (arith, c.new-shape.ensures.start, c.len-start.ensures, ts.ok.0) in
    let size = length-replicate {A = ℕ} p 0 ∙ ap product (sym c.new-shape.ensures.counts) in
    record {
      between = subst (λ (xs : List Shape). AreBetween 0 xs (length new.items)) (sym pushed)
          (subst (λ (ys : List ℕ). AreBetween 0 (ss ++ s ∷ []) (length ys)) (sym grown)
          (added_between ts.items us ss s c.self.invariant.between c.new-shape.ensures.shape start size));
    }

pub returns-clause-ok : goal.returns-clause-ok
returns-clause-ok c =
    let ts = c.self.inside.targets in
    let ss = c.self.inside.shapes.items in
    let s = c.new-shape.result in
    let counts = c.args.counts.now in
    let p = product counts in
    let new = c.resize.new.self in
    let whole : c.saturating_add.result ≡ ts.len + p = omega (arith, c.saturating_add.ensures, c.combinations.ensures, c.len-start.ensures, c.in_ok-resize.ensures.len, new.ok.1, new.small) in
    let grown : new.items ≡ ts.items ++ replicate p 0 = filled ts.items new.items c.saturating_add.result ts.len p c.in_ok-resize.ensures.items (omega (arith, ts.ok.0)) whole in
    let pushed : c.push_reserved.new.self.items ≡ ss ++ s ∷ [] = c.push_reserved.ensures.items ∙ ap (λ (xs : List Shape). xs ++ s ∷ []) c.reserve.ensures.items in
    let start : s.start ≡ length ts.items = omega (arith, c.new-shape.ensures.start, c.len-start.ensures, ts.ok.0) in
    (λ i. map (block_in (grown i)) (pushed i))
    ∙ (block_added ts.items ss s counts c.self.invariant.between start c.new-shape.ensures.counts
    ∙ ap (λ (xs : List Block). xs ++ new_block counts ∷ []) c.self.view_is)
