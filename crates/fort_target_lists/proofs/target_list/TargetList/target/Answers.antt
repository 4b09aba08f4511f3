use Rattle.std.proofs.Common.{◌≡◌, ap, ◌∙◌, arith}
use Rattle.fort_tables.specs.Entries.{entry}
use Rattle.fort_target_lists.specs.Places.{number_of}
use Rattle.fort_target_lists.specs.Flats.{base_of}
use Rattle.fort_target_lists.proofs.LookUpLaws.{few_symbols, table_symbol_below}
use Rattle.fort_target_lists.proofs.target_list.TargetList.target.Goals as goal

pub symbol_number-requires-clause-some : goal.symbol_number-requires-clause-some
symbol_number-requires-clause-some c =
    let r = c.requires in
    omega (arith, c.base.ensures r.0 (entry c.args.symbol.now c.args.kids.now) r.1 r.2)

pub symbol_number-requires-clause-small : goal.symbol_number-requires-clause-small
symbol_number-requires-clause-small c =
    let r = c.requires in
    let f = c.args.symbol.now in
    let e = entry f c.args.kids.now in
    omega (arith, ap (λ b. number_of b f) (c.base.ensures r.0 e r.1 r.2), table_symbol_below r.0 f r.2.symbol, few_symbols r.0 c.args.self.now e r.1 r.2)

pub look_up-requires : goal.look_up-requires
look_up-requires c =
    let r = c.requires in
    let f = c.args.symbol.now in
    let e = entry f c.args.kids.now in
    (r.0, f, r.1, r.2.symbol, c.symbol_number.ensures ∙ ap (λ b. number_of b f) (c.base.ensures r.0 e r.1 r.2))

pub target-requires : goal.target-requires
target-requires c =
    let r = c.requires in
    let f = c.args.symbol.now in
    let e = entry f c.args.kids.now in
    (r.0, f, c.look_up.ensures r.0 f r.1 (c.symbol_number.ensures ∙ ap (λ b. number_of b f) (c.base.ensures r.0 e r.1 r.2)), r.2)

pub returns : goal.returns
returns c = λ body is whole.
    let f = c.args.symbol.now in
    let e = entry f c.args.kids.now in
    let at : c.symbol_number.result ≡ number_of (base_of body) f = c.symbol_number.ensures ∙ ap (λ b. number_of b f) (c.base.ensures body e is whole) in
    c.target.ensures body f (c.look_up.ensures body f is at) whole
