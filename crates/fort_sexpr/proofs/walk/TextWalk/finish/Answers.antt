use Rattle.std.proofs.Common.{◌≡◌, [], arith}
use Rattle.std.proofs.lemmas.List.{reverse-append, nil_from_length}
use Rattle.fort_sexpr.proofs.ReadingLaws.{reading_ended, reading_unclosed}
use Rattle.fort_sexpr.proofs.walk.TextWalk.finish.Goals as goal

pub returns-in-Some-clause-fault : goal.returns-in-Some-clause-fault
returns-in-Some-clause-fault c =
    let read = rw (c.as_slice.ensures.value, c.in-Some.ensures.items, reverse-append) at c.end.ensures in
    reading_unclosed c.args.bytes.items c.in-Some.list _ _ _ read

pub invariant_of-arena : goal.invariant_of-arena
invariant_of-arena c =
    let walk = c.end.new.self in
    let none : walk.open.items ≡ [] = nil_from_length walk.open.items (omega (arith, walk.open.ok.0, c.in_default.ensures.cases.0)) in
    let read = rw (c.as_slice.ensures.value, none) at c.end.ensures in
    record { listed = rw c.shrink_to_fit.ensures.items (reading_ended c.args.bytes.items walk.lists.items walk.count c.requires.few read).listed }

pub of-requires-clause-forms : goal.of-requires-clause-forms
of-requires-clause-forms c =
    let walk = c.end.new.self in
    let none : walk.open.items ≡ [] = nil_from_length walk.open.items (omega (arith, walk.open.ok.0, c.in_default.ensures.cases.0)) in
    let read = rw (c.as_slice.ensures.value, none) at c.end.ensures in
    (reading_ended c.args.bytes.items walk.lists.items walk.count c.requires.few read).forms

pub of-requires-clause-count : goal.of-requires-clause-count
of-requires-clause-count c =
    let walk = c.end.new.self in
    let none : walk.open.items ≡ [] = nil_from_length walk.open.items (omega (arith, walk.open.ok.0, c.in_default.ensures.cases.0)) in
    let read = rw (c.as_slice.ensures.value, none) at c.end.ensures in
    (reading_ended c.args.bytes.items walk.lists.items walk.count c.requires.few read).count
