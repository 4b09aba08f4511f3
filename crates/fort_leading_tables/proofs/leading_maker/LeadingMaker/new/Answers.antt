use Rattle.std.proofs.Common.{◌≡◌, ℕ, List, [], length, ◌∙◌, subst}
use Rattle.fort_tables.specs.Entries.{no_entry}
use Rattle.fort_classes.specs.Keys.{leaders_by}
use Rattle.fort_leading_walk.specs.LeadingPlaces.{leading_entry}
use Rattle.fort_leading_tables.specs.LeadingMaking.{turned}
use Rattle.fort_leading_tables.specs.declared.leading_maker.LeadingMaker.{LeadingMaker}
use Rattle.fort_leading_tables.proofs.FirstEntryLaws.{firsts_none}
use Rattle.fort_leading_tables.proofs.MakerLaws.{HasWalked, walked_from, maker_none}
use Rattle.fort_leading_tables.proofs.leading_maker.LeadingMaker.new.Goals as goal

pub advance_row-requires-clause-stands : goal.advance_row-requires-clause-stands
advance_row-requires-clause-stands g c = c.new-walk.ensures.stands (leaders_by (g.L.SymbolLeaders.keys c.args.leaders.now) c.args.rows.now.labels) [] (g.L.LeaderLists.lists c.args.leaders.now)

pub returns-clause-made : goal.returns-clause-made
returns-clause-made g c =
    let leaders = c.advance_row.new.leaders in
    let t = turned (g.L.SymbolLeaders.keys leaders) (g.L.LeaderLists.lists leaders) (g.L.SymbolLeaders.knows leaders) in
    let sig = c.args.sig.now in
    let columns = c.args.columns in
    let walk = c.advance_row.new.self in
    let start = c.new-walk in
    let went = c.in_ok-is_due.is_due in
    let told = c.in_ok-is_due.ensures in
    let width : length walk.walk.digits ≡ columns = told.columns ∙ start.ensures.columns in
    let walked = walked_from t (g.L.SymbolLeaders.keys c.args.leaders.now) c.args.rows.now.labels sig columns (length start.result.walk.digits) [] (leading_entry start.result) (no_entry columns) walk went told.asked start.ensures.columns width start.ensures.start told.next told.stands told.known in
    let made : LeadingMaker = record { presences = c.new.result; first_entries = c.new-2.result; targets = c.new-3.result; walk = walk; row = c.advance_row.new.row; is_due = went } in
    maker_none t sig columns made c.requires.narrow c.new.ensures.items (c.new-3.ensures columns) (firsts_none c.new-2.result c.new-2.ensures) told.row width
    (subst (λ (ls : List (List ℕ)). HasWalked t ls sig columns [] (no_entry columns) walk went) c.requires.none walked)
