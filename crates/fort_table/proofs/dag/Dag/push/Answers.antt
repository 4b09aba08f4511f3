use Rattle.std.proofs.Common.{◌≡◌, List, [], ◌∷◌, ◌++◌, ap, ◌∙◌}
use Rattle.fort_tables.specs.Entries.{Entry, tuples_of}
use Rattle.fort_tables.proofs.EntryLaws.{tuples_after-push}
use Rattle.fort_table.specs.EntryListFacts.{entries_in}
use Rattle.fort_table.proofs.dag.Dag.push.Goals as goal

pub returns-clause-tuples : goal.returns-clause-tuples
returns-clause-tuples c =
    let a = c.self.inside.nodes in
    let m = c.make_room.new.self in
    let same : entries_in m.numbers.items m.spans.items ≡ entries_in a.numbers.items a.spans.items = λ i. entries_in (c.make_room.ensures.numbers i) (c.make_room.ensures.spans i) in
    let is = c.push.ensures.entries ∙ ap (λ (es : List Entry). es ++ c.args.row ∷ []) same in
    rw (← c.self.view_is) (ap tuples_of is ∙ tuples_after-push [] (entries_in a.numbers.items a.spans.items) c.args.row)
