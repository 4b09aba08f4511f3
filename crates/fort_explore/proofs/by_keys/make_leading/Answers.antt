use Rattle.std.proofs.Common.{ℕ, [], sym, ◌∙◌, subst}
use Rattle.fort_classes.specs.Keys.{Keys}
use Rattle.fort_leading_tables.specs.LeadingMaking.{turned, IsMakerOf, none_made}
use Rattle.fort_explore.specs.LeadingLoops.{IsLeadingTable}
use Rattle.fort_explore.proofs.WholeTableLaws.{leading_start, leading_table}
use Rattle.fort_explore.proofs.by_keys.make_leading.Goals as goal

pub new-requires-clause-known : goal.new-requires-clause-known
new-requires-clause-known g c = subst (λ (n : ℕ). g.V.SymbolLeaders.knows c.args.leaders.now c.args.sig.now n [] 0) (sym c.columns.ensures.count) c.requires.known

pub give_leading-requires-clause-exploring : goal.give_leading-requires-clause-exploring
give_leading-requires-clause-exploring g c =
    let f = c.args.found.now in
    let v = c.new.new.leaders in
    let t = turned (g.V.SymbolLeaders.keys v) (g.V.LeaderLists.lists v) (g.V.SymbolLeaders.knows v) in
    leading_start c.args.sig.now (g.L.Labeller.column_count c.args.labeller.now) (g.L.Labeller.label c.args.labeller.now) t f.labels.labels f.firsts c.in_ok-maker.maker c.requires.labels c.requires.firsts
    (subst (λ (n : ℕ). IsMakerOf t [] (none_made c.args.sig.now n) c.in_ok-maker.maker) c.columns.ensures.count c.in_ok-maker.ensures.made)

pub returns-then-is_whole-clause-whole : goal.returns-then-is_whole-clause-whole
returns-then-is_whole-clause-whole g c =
    let f = c.give_leading.new.found in
    let v = c.give_leading.new.leaders in
    let n = g.L.Labeller.column_count c.args.labeller.now in
    let label = g.L.Labeller.label c.args.labeller.now in
    let t = turned (g.V.SymbolLeaders.keys v) (g.V.LeaderLists.lists v) (g.V.SymbolLeaders.knows v) in
    let made = leading_table c.args.sig.now n label t f.labels.labels f.firsts c.give_leading.new.maker c.args.cap (c.in_ok-is_whole.ensures.whole c.if-is_whole.true) in
    subst (λ (key : Keys). IsLeadingTable c.args.sig.now n label key f.labels.labels f.firsts c.give_leading.new.maker c.args.cap) (c.give_leading.ensures.keys ∙ c.new.ensures.asked) made
