use Rattle.std.proofs.Math.Pow.{pow_mono}
use Rattle.std.proofs.Common.{arith, ℕ, ◌≤◌, ◌%◌, ◌*◌, unwrap_or, slice_get, ◌≡◌, ◌∙◌, sym, ap, ◌^◌, ◌-◌}
use Rattle.std.proofs.lemmas.Option.{unwrap_or-slice_get}
use Rattle.fort_tables.specs.Labels.{first_word}
use Rattle.fort_tables.proofs.FoldLaws.{TellsPresence-fold}
use Rattle.fort_tables.proofs.PresenceLaws.{full_from_presence}
use Rattle.fort_check_steps.proofs.finals.is_final.Goals as goal

shift_is : (n : ℕ) → n ≤ 16 → (1 * 2 ^ n) % 18446744073709551616 - 1 ≡ 2 ^ n - 1
shift_is n h = let e : 2 ^ n ≤ 2 ^ 16 = pow_mono h in omega arith

pub accepts-requires : goal.accepts-requires
accepts-requires g c =
    let r = g.R.LocalRule.rule c.args.rule.now in
    let h = c.requires in
    let tells = TellsPresence-fold r.signature r.columns r.step (g.met.R.LocalRule.tells c.args.rule.now) in
    let test : unwrap_or (slice_get c.args.label.now 0) 0 ≡ (1 * 2 ^ c.columns.result) % 18446744073709551616 - 1 = ap (λ o. unwrap_or o 0) (sym (c.copied.ensures ∙ c.first.ensures.value)) ∙ (sym c.unwrap_or.ensures ∙ c.if-unwrap_or-full.false) in
    let small : c.columns.result ≤ 16 = c.columns.ensures.narrow in
    (h.0, h.1, full_from_presence h.0 (sym (tells h.0 h.1) ∙ (ap first_word h.2 ∙ (sym (unwrap_or-slice_get c.args.label.now 0 0) ∙ (test ∙ (shift_is c.columns.result small ∙ (ap (λ m. 2 ^ m - 1) c.columns.ensures.count ∙ ap (λ m. 2 ^ m - 1) (sym h.1.width))))))), h.2)
