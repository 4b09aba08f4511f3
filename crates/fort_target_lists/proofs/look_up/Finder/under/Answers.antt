use Rattle.std.proofs.Common.{◌≡◌, ◌+◌, ◌*◌, Some, ap, arith}
use Rattle.std.specs.List.{insert}
use Rattle.fort_target_lists.specs.Places.{number_of}
use Rattle.fort_target_lists.specs.Flats.{base_of}
use Rattle.fort_target_lists.proofs.LookUpLaws.{under_symbol, under_is, table_symbol_below}
use Rattle.fort_target_lists.proofs.look_up.Finder.under.Goals as goal

pub overflow_mul-place : goal.overflow_mul-place
overflow_mul-place c =
    let r = c.requires in
    let h = r.3 in
    let g = c.args.symbol.0 in
    let b = table_symbol_below r.0 (insert r.1 r.2 (Some g)) (under_symbol r.0 r.1 r.2 g h.column r.4 h.symbol) in
    omega (arith, b, under_is r.0 r.1 r.2 g h.column h.symbol, ap (λ p. (g + 1) * p) h.step, h.number, h.few)

pub overflow_add-place-2 : goal.overflow_add-place-2
overflow_add-place-2 c =
    let r = c.requires in
    let h = r.3 in
    let g = c.args.symbol.0 in
    let b = table_symbol_below r.0 (insert r.1 r.2 (Some g)) (under_symbol r.0 r.1 r.2 g h.column r.4 h.symbol) in
    omega (arith, b, under_is r.0 r.1 r.2 g h.column h.symbol, ap (λ p. (g + 1) * p) h.step, h.number, h.few)

pub look_up-requires : goal.look_up-requires
look_up-requires c =
    let r = c.requires in
    let h = r.3 in
    let g = c.args.symbol.0 in
    let place = c.args.self.now.number + (g + 1) * c.args.self.now.step in
    let at : place ≡ number_of (base_of r.0) (insert r.1 r.2 (Some g)) = omega (arith, under_is r.0 r.1 r.2 g h.column h.symbol, ap (λ p. (g + 1) * p) h.step, h.number) in
    (r.0, insert r.1 r.2 (Some g), h.list, under_symbol r.0 r.1 r.2 g h.column r.4 h.symbol, at)

pub returns : goal.returns
returns c = λ body f column h low.
    let g = c.args.symbol.0 in
    let place = c.args.self.now.number + (g + 1) * c.args.self.now.step in
    let at : place ≡ number_of (base_of body) (insert f column (Some g)) = omega (arith, under_is body f column g h.column h.symbol, ap (λ p. (g + 1) * p) h.step, h.number) in
    c.look_up.ensures body (insert f column (Some g)) h.list at
