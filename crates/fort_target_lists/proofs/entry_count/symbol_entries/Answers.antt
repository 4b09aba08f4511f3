use Rattle.std.proofs.Common.{◌-◌, ◌^◌, min, length, ap, sym, ◌∙◌, arith}
use Rattle.fort_tables.proofs.KidLists.{under_absent, under_present}
use Rattle.fort_tables.proofs.SelectionLaws.{present_from_test}
use Rattle.fort_target_lists.proofs.LaidTargets.{absent_presence}
use Rattle.fort_target_lists.proofs.entry_count.symbol_entries.Goals as goal

pub returns-then-not-is_present : goal.returns-then-not-is_present
returns-then-not-is_present c = λ ps h.
    let f = c.args.symbol.now in
    let absent = sym c.is_present.ensures ∙ c.if-not-is_present.true in
    omega (arith, ap length (under_absent c.args.signature.now ps f (absent_presence f absent)))

pub returns : goal.returns
returns c = λ ps h.
    let sig = c.args.signature.now in
    let f = c.args.symbol.now in
    let present = present_from_test f (sym c.is_present.ensures ∙ c.if-not-is_present.false) in
    c.present_entries.ensures ps h ∙ ap (λ n. min n (2 ^ 64 - 1)) (ap length (sym (under_present sig ps f present)))
