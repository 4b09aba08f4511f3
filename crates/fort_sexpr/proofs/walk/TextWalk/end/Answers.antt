use Rattle.std.proofs.Common.{◌≡◌, ◌<◌, false, get_or, length, reverse, sym, ◌∙◌, arith}
use Rattle.fort_theory.specs.Signatures.{is_word_byte}
use Rattle.fort_sexpr.proofs.ReadingLaws.{reading_word, reading_counts}
use Rattle.fort_sexpr.proofs.Fronts.{front_reading, word_to_end, end_no_word}
use Rattle.fort_sexpr.proofs.walk.TextWalk.end.Goals as goal
use Rattle.fort_sexpr.proofs.walk.TextWalk.end.Goals.{else-at-bytes-via-then-at-bytes+else-is_word_byte, else-at-bytes-via-else-at-bytes}

pub add_form-requires : goal.add_form-requires
add_form-requires c =
    reading_counts c.args.bytes.now _ _ _ c.args.at (front_reading c.args.bytes.now _ _ _ c.args.at c.requires.read)
    (omega (arith, c.requires.few, c.if-at-bytes.true))

pub returns-then-is_word_byte : goal.returns-then-is_word_byte
returns-then-is_word_byte c =
    let walk = c.args.self.now in
    let bytes = c.args.bytes.now in
    let at = c.args.at in
    let word = sym c.is_word_byte.ensures ∙ c.if-is_word_byte.true in
    let added = c.add_form.ensures.added in
    rw (added.open_same, added.lists, added.count)
    (reading_word bytes (reverse walk.open.items) walk.lists.items walk.count at (length bytes)
    (front_reading bytes _ _ _ at c.requires.read) c.if-at-bytes.true word (word_to_end bytes at c.requires.seen word))

pub returns-else-at-bytes : goal.returns-else-at-bytes
returns-else-at-bytes c =
    let bytes = c.args.bytes.now in
    let none : c.args.at < length bytes → is_word_byte (get_or bytes c.args.at 0) ≡ false =
    elim c.else-at-bytes.branch [
      | else-at-bytes-via-then-at-bytes+else-is_word_byte w ↦ λ _. sym w.is_word_byte.ensures ∙ w.if-is_word_byte.false
      | else-at-bytes-via-else-at-bytes w ↦ λ l. absurd (omega (arith, l, w.if-at-bytes.false))
    ] in
    end_no_word bytes _ _ _ c.args.at c.requires.read c.requires.seen none
