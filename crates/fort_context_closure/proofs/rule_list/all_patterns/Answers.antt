use Rattle.std.proofs.Common.{[], List, ◌++◌, map}
use Rattle.std.proofs.lemmas.Result.{IfOk-weaker}
use Rattle.fort_theory.specs.Sides.{at_index}
use Rattle.fort_theory.specs.Patterns.{Pattern}
use Rattle.fort_terms.specs.PatternView.{as_pattern}
use Rattle.fort_terms.specs.Subpatterns.{HasMore}
use Rattle.fort_terms.proofs.SubpatternsLaws.{HasMore-append}
use Rattle.fort_context_closure.proofs.RuleListLaws.{AreSubpatternsInOrder-left_both, AreSubpatternsInOrder-right_both}
use Rattle.fort_context_closure.proofs.rule_list.all_patterns.Goals as goal

pub returns-clause-left : goal.returns-clause-left
returns-clause-left c =
    let ps : List Pattern = map as_pattern c.in_ok-left_patterns.field-0.items in
    let qs : List Pattern = map as_pattern c.in_ok-right_patterns.field-0.items in
    let none : List Pattern = [] in
    let found : HasMore (ps ++ qs) none (map as_pattern c.insert_all-2.new.found.keys) =
    HasMore-append ps qs none (map as_pattern c.insert_all.new.found.keys) (map as_pattern c.insert_all-2.new.found.keys)
    (rw c.new-found.ensures.empty at c.in_ok-insert_all.ensures) c.in_ok-insert_all-2.ensures in
    IfOk-weaker c.in_order.result _ _
    (λ made e. rw e (AreSubpatternsInOrder-left_both (at_index c.args.index c.args.system.now.rules) ps qs _ c.in_ok-left_patterns.ensures c.in_ok-right_patterns.ensures found
    c.in_order.ensures.ordered))
    c.in_order.ensures.patterns

pub returns-clause-right : goal.returns-clause-right
returns-clause-right c =
    let ps : List Pattern = map as_pattern c.in_ok-left_patterns.field-0.items in
    let qs : List Pattern = map as_pattern c.in_ok-right_patterns.field-0.items in
    let none : List Pattern = [] in
    let found : HasMore (ps ++ qs) none (map as_pattern c.insert_all-2.new.found.keys) =
    HasMore-append ps qs none (map as_pattern c.insert_all.new.found.keys) (map as_pattern c.insert_all-2.new.found.keys)
    (rw c.new-found.ensures.empty at c.in_ok-insert_all.ensures) c.in_ok-insert_all-2.ensures in
    IfOk-weaker c.in_order.result _ _
    (λ made e. rw e (AreSubpatternsInOrder-right_both (at_index c.args.index c.args.system.now.rules) ps qs _ c.in_ok-left_patterns.ensures c.in_ok-right_patterns.ensures found
    c.in_order.ensures.ordered))
    c.in_order.ensures.patterns
