use Rattle.std.proofs.Common.{◌≡◌, get_or, unwrap_or, ap, ◌∙◌, arith}
use Rattle.fort_products.proofs.OperandEntries.{full_state_small}
use Rattle.fort_products.proofs.words.table_accepts.Goals as goal

pub overflow_cast-saturating_sub : goal.overflow_cast-saturating_sub
overflow_cast-saturating_sub g c =
    let word : c.unwrap_or-word.result ≡ get_or c.args.label.now c.args.at 0 = c.unwrap_or-word.ensures ∙ (ap (λ o. unwrap_or o 0) c.copied.ensures ∙ c.get.ensures.lookup.4 (omega arith) 0) in
    omega (arith, full_state_small (g.T.Table.table c.args.table.now) c.args._places.now c.args.at c.args.label.now c.states-states.ensures.lawful c.requires, c.saturating_sub.ensures, word, c.states-states.ensures.count, c.states-states.type_inv)

pub is_final-requires : goal.is_final-requires
is_final-requires g c =
    let word : c.unwrap_or-word.result ≡ get_or c.args.label.now c.args.at 0 = c.unwrap_or-word.ensures ∙ (ap (λ o. unwrap_or o 0) c.copied.ensures ∙ c.get.ensures.lookup.4 (omega arith) 0) in
    omega (arith, full_state_small (g.T.Table.table c.args.table.now) c.args._places.now c.args.at c.args.label.now c.states-states.ensures.lawful c.requires, c.saturating_sub.ensures, word)
