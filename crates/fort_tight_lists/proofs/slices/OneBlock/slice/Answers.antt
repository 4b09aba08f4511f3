use Rattle.std.proofs.Common.{◌≡◌, ℕ, List, set, take, length, ap, sym, ◌∙◌, arith, subst}
use Rattle.std.proofs.lemmas.List.{length-set}
use Rattle.fort_class_blocks.specs.Blocks.{AreClasses, cell_of, product, target_of}
use Rattle.fort_class_blocks.proofs.CellLaws.{cell_below}
use Rattle.fort_class_blocks.proofs.CombinationLaws.{reached, take_set}
use Rattle.fort_tight_lists.specs.Slices.{others_of}
use Rattle.fort_tight_lists.proofs.SliceLaws.{IsListedTo, listed_first, listed_more, class_put, combination_in, number_in, first_at, next_at, first_combination, next_combination, next_number}
use Rattle.fort_tight_lists.proofs.slices.OneBlock.slice.Goals as goal

pub combinations-init : goal.combinations-init
combinations-init c =
    let own = c.args.self.now in
    let all = others_of own.counts.now c.args.place in
    let first = first_at _ all c.first_classes-next.result c.others-others.ensures c.first_classes-next.ensures in
    record {
      next_is = first_combination all c.first_classes-next.result first;
      listed = listed_first all (λ cs. target_of own.blocks.now own.block (set cs c.args.place c.args.class)) c.new-slice.result.items c.first_classes-next.result c.new-slice.ensures.items first;
    }

-- the combination with the class at the place
here_is : (room : List ℕ) (n place class : ℕ) (here : List ℕ) → here ≡ set room place class → take n here ≡ set (take n room) place class
here_is room n place class here e = ap (take n) e ∙ take_set n room place class

pub target-requires-clause-classes : goal.target-requires-clause-classes
target-requires-clause-classes c =
    let own = c.args.self.now in
    let counts = own.counts.now in
    let place = c.args.place in
    let n = length counts in
    let all = others_of counts place in
    let are = combination_in all n c.in-Some.classes c.combinations.next (length-set counts place 1) c.combinations.invariant.next_is c.in-Some.is in
    let put = class_put counts (take n c.in-Some.classes) place c.args.class are c.requires.class in
    subst (λ ns. AreClasses ns (take n c.with_class-here.result)) (sym c.requires.counts) (subst (AreClasses counts) (sym (here_is c.in-Some.classes n place c.args.class c.with_class-here.result c.with_class-here.ensures)) put)

pub combinations-smaller : goal.combinations-smaller
combinations-smaller c =
    let own = c.args.self.now in
    let counts = own.counts.now in
    let place = c.args.place in
    let n = length counts in
    let all = others_of counts place in
    let long = length-set counts place 1 in
    let are = combination_in all n c.in-Some.classes c.combinations.next long c.combinations.invariant.next_is c.in-Some.is in
    let now = number_in all n c.in-Some.classes c.combinations.next long c.in-Some.is in
    let next = next_at _ all c.in-Some.classes c.next_classes-next.result c.others-others.ensures c.next_classes-next.ensures in
    omega (arith, now, next_number all n c.in-Some.classes c.next_classes-next.result long next, cell_below all (take n c.in-Some.classes) are)

pub combinations-preserved : goal.combinations-preserved
combinations-preserved c =
    let own = c.args.self.now in
    let counts = own.counts.now in
    let place = c.args.place in
    let n = length counts in
    let all = others_of counts place in
    let long = length-set counts place 1 in
    let cs = take n c.in-Some.classes in
    let value : List ℕ → ℕ = λ ds. target_of own.blocks.now own.block (set ds place c.args.class) in
    let are = combination_in all n c.in-Some.classes c.combinations.next long c.combinations.invariant.next_is c.in-Some.is in
    let now = number_in all n c.in-Some.classes c.combinations.next long c.in-Some.is in
    let next = next_at _ all c.in-Some.classes c.next_classes-next.result c.others-others.ensures c.next_classes-next.ensures in
    let then = next_number all n c.in-Some.classes c.next_classes-next.result long next in
    let before : IsListedTo all value c.combinations.slice.items (cell_of all cs) = subst (IsListedTo all value c.combinations.slice.items) now c.combinations.invariant.listed in
    let is : c.target.result ≡ value cs = c.target.ensures ∙ ap (target_of own.blocks.now own.block) (here_is c.in-Some.classes n place c.args.class c.with_class-here.result c.with_class-here.ensures) in
    record {
      next_is = next_combination all c.in-Some.classes c.next_classes-next.result next;
      listed = subst (IsListedTo all value c.push.new.self.items) (sym then) (listed_more all cs value c.combinations.slice.items c.push.new.self.items c.target.result are before c.in_ok-push.ensures.items is);
    }

pub returns : goal.returns
returns c =
    let own = c.args.self.now in
    let counts = own.counts.now in
    let place = c.args.place in
    let all = others_of counts place in
    let value : List ℕ → ℕ = λ ds. target_of own.blocks.now own.block (set ds place c.args.class) in
    let end : IsListedTo all value c.combinations.slice.items (product all) = subst (λ o. IsListedTo all value c.combinations.slice.items (reached all o)) c.in_default.is c.combinations.invariant.listed in
    record { count = end.count; targets_are = λ cs are. end.are cs are (cell_below all cs are) }
