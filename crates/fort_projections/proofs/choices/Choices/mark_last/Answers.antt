use Rattle.std.proofs.Common.{◌≡◌, ℕ, ◌||◌, [], ◌∷◌, ◌++◌, length, true, refl, ap, ◌∙◌, arith}
use Rattle.fort_tables.specs.Entries.{entry}
use Rattle.fort_tables.specs.Projections.{has_state}
use Rattle.fort_projections.specs.Choices.{may_choose, symbol_under}
use Rattle.fort_projections.specs.Strides.{read_at}
use Rattle.fort_projections.specs.declared.marks.Stride.{Stride}
use Rattle.fort_projections.proofs.FlatSearch.{IsInStride, states_in, last_child, same_below}
use Rattle.fort_projections.proofs.choices.Choices.mark_last.Goals as goal

pub place_of-place-requires : goal.place_of-place-requires
place_of-place-requires g c =
    let s = c.args.self.now in
    let f = symbol_under s.row.now s.column s.sym.0 in
    let body = g.T.Table.table s.body.now in
    states_in body f c.args.flat.now c.args.before.now c.states-states.ensures.lawful c.requires.flat c.requires.before

pub mark_own-requires-clause-readable : goal.mark_own-requires-clause-readable
mark_own-requires-clause-readable g c = λ k o.
    let s = c.args.self.now in
    let f = symbol_under s.row.now s.column s.sym.0 in
    let body = g.T.Table.table s.body.now in
    let stride : Stride = record { flat = c.args.flat; start = c.args.start; place = c.place_of-place.result; times = 1; plus = 0 } in
    (last_child body s.column s.alone.now s.rows.now.labels s.row.now s.sym.0 f s.arity c.states-states.ensures.lawful c.states-states.ensures.reached c.requires.choices
    stride c.args.before.now c.requires.flat c.requires.start c.requires.count c.requires.before c.place_of-place.ensures refl refl (omega (arith, c.len-count.ensures)) k o).readable

pub mark_own-requires-clause-small : goal.mark_own-requires-clause-small
mark_own-requires-clause-small g c = λ k o.
    let s = c.args.self.now in
    let f = symbol_under s.row.now s.column s.sym.0 in
    let body = g.T.Table.table s.body.now in
    let stride : Stride = record { flat = c.args.flat; start = c.args.start; place = c.place_of-place.result; times = 1; plus = 0 } in
    (last_child body s.column s.alone.now s.rows.now.labels s.row.now s.sym.0 f s.arity c.states-states.ensures.lawful c.states-states.ensures.reached c.requires.choices
    stride c.args.before.now c.requires.flat c.requires.start c.requires.count c.requires.before c.place_of-place.ensures refl refl (omega (arith, c.len-count.ensures)) k o).within

pub mark_own-requires-clause-kid : goal.mark_own-requires-clause-kid
mark_own-requires-clause-kid g c = λ k o.
    let s = c.args.self.now in
    let f = symbol_under s.row.now s.column s.sym.0 in
    let body = g.T.Table.table s.body.now in
    let stride : Stride = record { flat = c.args.flat; start = c.args.start; place = c.place_of-place.result; times = 1; plus = 0 } in
    (last_child body s.column s.alone.now s.rows.now.labels s.row.now s.sym.0 f s.arity c.states-states.ensures.lawful c.states-states.ensures.reached c.requires.choices
    stride c.args.before.now c.requires.flat c.requires.start c.requires.count c.requires.before c.place_of-place.ensures refl refl (omega (arith, c.len-count.ensures)) k o).small

pub returns-clause-marked : goal.returns-clause-marked
returns-clause-marked g c = λ q.
    let s = c.args.self.now in
    let f = symbol_under s.row.now s.column s.sym.0 in
    let body = g.T.Table.table s.body.now in
    let stride : Stride = record { flat = c.args.flat; start = c.args.start; place = c.place_of-place.result; times = 1; plus = 0 } in
    let may = may_choose body s.column s.rows.now.labels s.row.now s.arity (length c.args.before.now) in
    let one : (k : ℕ) → may k ≡ true → IsInStride body f stride (c.args.before.now ++ k ∷ []) k =
    last_child body s.column s.alone.now s.rows.now.labels s.row.now s.sym.0 f s.arity c.states-states.ensures.lawful c.states-states.ensures.reached c.requires.choices
    stride c.args.before.now c.requires.flat c.requires.start c.requires.count c.requires.before c.place_of-place.ensures refl refl (omega (arith, c.len-count.ensures)) in
    c.mark_own.ensures.marked q
    ∙ ap (λ b. b || has_state c.args.out.now q) (same_below may (read_at stride) (λ k. body.target (entry f (c.args.before.now ++ k ∷ []))) (length body.presences) q (λ k o. (one k o).target))
