use Rattle.std.proofs.Common.{◌&&◌, ◌==◌, ap, sym, ◌∙◌}
use Rattle.fort_relations.specs.RelView.{as_rel}
use Rattle.fort_findings.specs.FindingView.{as_which}
use Rattle.fort_outline.specs.Roots.{root_core}
use Rattle.fort_outline.proofs.OutlineLaws.{asks_atom, asks_none}
use Rattle.fort_outline.proofs.asks.asks.Goals as goal

pub returns-then-reads : goal.returns-then-reads
returns-then-reads c = λ parts.
    let told = c.in-Some.ensures.some parts in
    sym (asks_atom (as_which c.args.which) c.args.index (root_core parts c.args.root.now) (as_rel c.in-Some.rel) c.in-Some.own told.0 told.1 told.2
    ∙ ap (λ b. b && (c.in-Some.own == c.args.index)) (sym c.if-reads.ensures))

pub returns-else-reads : goal.returns-else-reads
returns-else-reads c = λ parts.
    let told = c.in-Some.ensures.some parts in
    c.if-reads.false
    ∙ sym (asks_atom (as_which c.args.which) c.args.index (root_core parts c.args.root.now) (as_rel c.in-Some.rel) c.in-Some.own told.0 told.1 told.2
    ∙ ap (λ b. b && (c.in-Some.own == c.args.index)) (sym c.if-reads.ensures))

pub returns-in-None : goal.returns-in-None
returns-in-None c = λ parts. sym (asks_none (as_which c.args.which) c.args.index (root_core parts c.args.root.now) (c.in-None.ensures.none parts))
