use Rattle.std.proofs.Common.{map, arith}
use Rattle.std.specs.Prelude.{vec_items}
use Rattle.std.proofs.lemmas.List.{length-map}
use Rattle.fort_relation_exprs.proofs.LeadRowLaws.{named_rows, AreLeads-gathered}
use Rattle.fort_relation_exprs.proofs.leads.leads_of.Goals as goal

pub settle-requires-clause-named : goal.settle-requires-clause-named
settle-requires-clause-named c =
    named_rows c.args.nta.now (map vec_items c.in_ok-rows.rows.items) c.requires.named (omega (arith, c.in_ok-rows.ensures.many, length-map c.in_ok-rows.rows.items vec_items))

pub returns : goal.returns
returns c =
    AreLeads-gathered c.args.nta.now c.args.base c.args.width (map vec_items c.in_ok-rows.rows.items) (map vec_items c.settle.new.rows.items)
    (omega (arith, c.in_ok-rows.ensures.many, length-map c.in_ok-rows.rows.items vec_items)) c.in_ok-rows.ensures.widths c.in_ok-rows.ensures.own c.settle.ensures.gathered c.settle.ensures.closed
