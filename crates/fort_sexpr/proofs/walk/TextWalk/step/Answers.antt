use Rattle.std.proofs.Common.{◌≡◌, true, [], ◌++◌, length, reverse, arith}
use Rattle.std.proofs.lemmas.Result.{err_from_is_err_and}
use Rattle.std.proofs.lemmas.List.{length-reverse}
use Rattle.fort_sexpr.specs.declared.token.Token.TheVariants as tokens
use Rattle.fort_sexpr.proofs.ReadingLaws.{reading_blank, reading_word, reading_counts}
use Rattle.fort_sexpr.proofs.Fronts.{front_below, front_blank, front_word, front_fault, front_faultless, front_comment, fault_unless_memory, word_ends}
use Rattle.fort_sexpr.proofs.walk.TextWalk.step.Goals as goal

pub returns-in_err-token_of-clause-fault : goal.returns-in_err-token_of-clause-fault
returns-in_err-token_of-clause-fault c =
    let p = err_from_is_err_and c.from_residual.result c.from_residual.ensures.1 in
    let bytes = c.args.bytes.now in
    let open_lists = c.args.self.now.open in
    let height : c.len.result ≡ length (reverse open_lists.items) = omega (arith, c.len.ensures, open_lists.ok.0, length-reverse open_lists.items) in
    rw (p.1, p.2) (fault_unless_memory bytes _
    (front_fault bytes _ _ _ c.args.at c.requires.read c.len.result c.requires.within height _ c.in_err-token_of.ensures.fault))

pub add_form-requires : goal.add_form-requires
add_form-requires c = reading_counts (c.args.bytes.now ++ []) _ _ _ c.args.at (c.requires.read []) (omega (arith, c.requires.few, c.requires.within))

pub returns-in_err-open_list-in-Open-clause-memory : goal.returns-in_err-open_list-in-Open-clause-memory
returns-in_err-open_list-in-Open-clause-memory c _ =
    let begun = rw c.in-Open.is at c.in_ok-token_of.ensures.token in
    front_faultless c.args.bytes.now _ _ _ c.args.at c.requires.read c.requires.within tokens.Open
    (begun.0, omega (arith, begun.1, length-reverse c.args.self.now.open.items))

pub returns-in-Blank-clause-read : goal.returns-in-Blank-clause-read
returns-in-Blank-clause-read c = λ more.
    let bytes = c.args.bytes.now in
    reading_blank (bytes ++ more) _ _ _ c.args.at (c.requires.read more) (front_below bytes more c.args.at c.requires.within)
    (front_blank bytes more c.args.at c.requires.within (rw c.in-Blank.is at c.in_ok-token_of.ensures.token))

pub returns-in-Comment-clause-read : goal.returns-in-Comment-clause-read
returns-in-Comment-clause-read c =
    front_comment c.args.bytes.now _ _ _ c.args.at c.requires.read c.args.seen c.requires.seen c.requires.within
    (rw c.in-Comment.is at c.in_ok-token_of.ensures.token) c.behind_line.result c.behind_line.ensures.some

pub returns-else-to-bytes-clause-read : goal.returns-else-to-bytes-clause-read
returns-else-to-bytes-clause-read c = λ more.
    let bytes = c.args.bytes.now in
    let walk = c.args.self.now in
    let to = c.end_of_word-to.result in
    let end = c.end_of_word-to.ensures in
    let word = rw c.in-Word.is at c.in_ok-token_of.ensures.token in
    let added = c.add_form.ensures.added in
    rw (added.open_same, added.lists, added.count)
    (reading_word (bytes ++ more) (reverse walk.open.items) walk.lists.items walk.count c.args.at to (c.requires.read more)
    (front_below bytes more c.args.at c.requires.within) (front_word bytes more c.args.at true c.requires.within word)
    (word_ends bytes c.args.at c.args.seen c.requires.seen more to word end (omega (arith, end.within, c.if-to-bytes.false))))
