use Rattle.std.proofs.Common.{◌++◌, reverse, ◌∙◌, arith}
use Rattle.std.proofs.lemmas.List.{reverse-append}
use Rattle.fort_sexpr.proofs.ReadingLaws.{reading_ends, reading_close, reading_within, closing_counts}
use Rattle.fort_sexpr.proofs.Fronts.{front_few, front_reading, front_below, front_byte}
use Rattle.fort_sexpr.proofs.walk.TextWalk.close_list.Goals as goal

pub overflow_cast-behind : goal.overflow_cast-behind
overflow_cast-behind c =
    let walk = c.args.self.now in
    omega (
      arith,
      c.requires.few,
      c.requires.within,
      c.len-behind.ensures,
      walk.lists.ok.0,
      front_few c.args.bytes.now (reverse walk.open.items) walk.lists.items walk.count c.args.at c.requires.read,
    )

pub index_mut-list-requires : goal.index_mut-list-requires
index_mut-list-requires c =
    let walk = c.args.self.now in
    let read = rw (c.in-Some.ensures.items, reverse-append) at (front_reading c.args.bytes.now _ _ _ c.args.at c.requires.read) in
    omega (arith, walk.lists.ok.0, reading_within c.args.bytes.now c.in-Some.node (reverse c.pop.new.self.items) walk.lists.items walk.count c.args.at read)

pub add_form-requires : goal.add_form-requires
add_form-requires c =
    let walk = c.args.self.now in
    let lists = walk.lists in
    let left = reverse c.pop.new.self.items in
    let read = rw (c.in-Some.ensures.items, reverse-append) at (front_reading c.args.bytes.now _ _ _ c.args.at c.requires.read) in
    let closing = reading_ends c.args.bytes.now c.in-Some.node left lists.items walk.count c.args.at c.len-behind.result _ read
    c.requires.within c.requires.closes c.index_mut-list.ensures.value (c.len-behind.ensures ∙ lists.ok.0) in
    closing_counts c.args.bytes.now left lists.items _ walk.count c.args.at c.in-Some.node closing c.requires.within c.requires.few

pub returns-clause-read : goal.returns-clause-read
returns-clause-read c = λ more.
    let walk = c.args.self.now in
    let bytes = c.args.bytes.now in
    let lists = walk.lists in
    let left = reverse c.pop.new.self.items in
    let added = c.add_form.ensures.added in
    let read = rw (c.in-Some.ensures.items, reverse-append) at (c.requires.read more) in
    let closing = reading_ends (bytes ++ more) c.in-Some.node left lists.items walk.count c.args.at c.len-behind.result _ read
    (front_below bytes more c.args.at c.requires.within) (front_byte bytes more c.args.at 41 c.requires.within c.requires.closes)
    c.index_mut-list.ensures.value (c.len-behind.ensures ∙ lists.ok.0) in
    rw (added.open_same, added.lists, added.count)
    (reading_close (bytes ++ more) left lists.items _ walk.count c.args.at c.in-Some.node closing)
