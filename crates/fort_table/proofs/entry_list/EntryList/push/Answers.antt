use Rattle.std.proofs.Common.{◌++◌, refl, ap, ◌∙◌, arith}
use Rattle.fort_table.proofs.SpanLaws.{IsEntryPushed, entry_pushed}
use Rattle.fort_table.proofs.entry_list.EntryList.push.Goals as goal

pub returns : goal.returns
returns c =
    let f = c.args.self.now in
    let p : IsEntryPushed f.numbers.items c.append-2.new.numbers.items f.spans.items c.push_reserved.new.self.items c.args.row.now =
    entry_pushed f.numbers.items c.append-2.new.numbers.items c.digits-digits.result.now c.kids-kids.result.now f.spans.items c.push_reserved.new.self.items _ c.args.row.now c.requires.lawful
    (c.append-2.ensures.numbers ∙ ap (λ ns. ns ++ c.kids-kids.result.now) c.append.ensures.numbers) c.push_reserved.ensures.items
    (omega (arith, c.len.ensures, f.numbers.ok.0)) refl refl
    c.digits-digits.ensures.few c.kids-kids.ensures.few c.digits-digits.ensures.small c.digits-digits.ensures.digits c.kids-kids.ensures.states in
    record { lawful = p.lawful; entries = p.entries }
