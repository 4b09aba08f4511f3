use Rattle.std.proofs.Common.{◌≡◌, ℕ, ◌+◌, ◌<◌, ◌&&◌, min, take, length, ap, sym, ◌∙◌, arith}
use Rattle.fort_tables.specs.BitRows.{words_for}
use Rattle.fort_tables.specs.Projections.{has_state}
use Rattle.fort_tables.proofs.SearchLaws.{below_found, both}
use Rattle.fort_projections.proofs.FinalSearch.{front_state, none_below, none_to, none_past}
use Rattle.fort_projections.proofs.local.project_accepts.Goals as goal

pub returns-then-q-states : goal.returns-then-q-states
returns-then-q-states g c =
    let body = g.T.Table.table c.args.body.now in
    let w = c.args.label.now in
    let n = length body.presences in
    let v = c.states.invariant in
    let m : c.min.result ≡ min (length w) (words_for n + 2) = c.min.ensures ∙ ap (min (length w)) (c.project_width.ensures ∙ ap (λ k. words_for k + 2) c.states-states.ensures.count) in
    let same = λ (q : ℕ) (l : q < n). front_state w c.min.result n q m l in
    sym (none_below n (λ q. has_state w q && body.accepting q) (λ q l. none_to w (take c.min.result w) body.accepting n c.states.from c.in-Some.q same v.none c.in-Some.ensures.some.before q (omega (arith, l, c.if-q-states.true, c.states-states.ensures.count)) l))

pub returns-then-is_final : goal.returns-then-is_final
returns-then-is_final g c =
    let body = g.T.Table.table c.args.body.now in
    let w = c.args.label.now in
    let n = length body.presences in
    let m : c.min.result ≡ min (length w) (words_for n + 2) = c.min.ensures ∙ ap (min (length w)) (c.project_width.ensures ∙ ap (λ k. words_for k + 2) c.states-states.ensures.count) in
    let same = λ (q : ℕ) (l : q < n). front_state w c.min.result n q m l in
    let k = c.in-Some.q in
    let l : k < n = omega (arith, c.if-q-states.false, c.states-states.ensures.count) in
    sym (below_found n (λ q. has_state w q && body.accepting q) k l (both (has_state w k) (body.accepting k) (sym (same k l) ∙ c.in-Some.ensures.some.hit) (sym c.is_final.ensures ∙ c.if-is_final.true)))

pub states-preserved : goal.states-preserved
states-preserved g c =
    let body = g.T.Table.table c.args.body.now in
    let w = c.args.label.now in
    let n = length body.presences in
    let v = c.states.invariant in
    let m : c.min.result ≡ min (length w) (words_for n + 2) = c.min.ensures ∙ ap (min (length w)) (c.project_width.ensures ∙ ap (λ k. words_for k + 2) c.states-states.ensures.count) in
    let same = λ (q : ℕ) (l : q < n). front_state w c.min.result n q m l in
    let k = c.in-Some.q in
    let l : k < n = omega (arith, c.if-q-states.false, c.states-states.ensures.count) in
    record {
      low = omega (arith, l);
      none = none_past w (take c.min.result w) body.accepting n c.states.from k same v.none c.in-Some.ensures.some.before l (sym c.is_final.ensures ∙ c.if-is_final.false);
    }

pub returns : goal.returns
returns g c =
    let body = g.T.Table.table c.args.body.now in
    let w = c.args.label.now in
    let n = length body.presences in
    let v = c.states.invariant in
    let m : c.min.result ≡ min (length w) (words_for n + 2) = c.min.ensures ∙ ap (min (length w)) (c.project_width.ensures ∙ ap (λ k. words_for k + 2) c.states-states.ensures.count) in
    let same = λ (q : ℕ) (l : q < n). front_state w c.min.result n q m l in
    sym (none_below n (λ q. has_state w q && body.accepting q) (λ q l. none_to w (take c.min.result w) body.accepting n c.states.from n same v.none (λ q a b. c.in_default.ensures.none q a) q l l))
