use Rattle.std.proofs.Common.{◌≡◌, ◌+◌, ◌-◌, ◌*◌, ◌<◌, suc, [], length, get_or, ap, sym, ◌∙◌, arith, subst}
use Rattle.std.proofs.lemmas.List.{get_or_default}
use Rattle.fort_products.specs.Joints.{states_under, place_under}
use Rattle.fort_products.proofs.JointLaws.{LeadsTo, states_from, states_none, leads_end, leads_zero, state_known, leads_on, place_small}
use Rattle.fort_products.proofs.joint.Under.place.Goals as goal

pub index-requires : goal.index-requires
index-requires c =
    let list = c.args.list.now in
    let i = c.args.self.now.at in
    let labels = c.args.rows.now.labels in
    let kids = c.args.kids.now in
    let j = c.loop-j.j in
    let whole = place_under list (states_under c.args.self.now labels kids) in
    let word = get_or c.label.result.now i 0 in
    let w : word ≡ get_or (get_or labels (get_or kids j 0) []) i 0 = ap (λ l. get_or l i 0) c.label.ensures in
    let low : j < length kids = omega (arith, c.loop-j-test.true) in
    let s : word ≡ suc (word - 1) = omega (arith, c.if-word-eq0.false) in
    let known = state_known list i labels kids j c.loop-j.place whole word c.loop-j.invariant low w (word - 1) s in
    omega (arith, known.state, list.spots.alike.ok.0)

pub overflow_mul-place : goal.overflow_mul-place
overflow_mul-place c =
    let list = c.args.list.now in
    let i = c.args.self.now.at in
    let labels = c.args.rows.now.labels in
    let kids = c.args.kids.now in
    let j = c.loop-j.j in
    let whole = place_under list (states_under c.args.self.now labels kids) in
    let word = get_or c.label.result.now i 0 in
    let w : word ≡ get_or (get_or labels (get_or kids j 0) []) i 0 = ap (λ l. get_or l i 0) c.label.ensures in
    let low : j < length kids = omega (arith, c.loop-j-test.true) in
    let s : word ≡ suc (word - 1) = omega (arith, c.if-word-eq0.false) in
    let known = state_known list i labels kids j c.loop-j.place whole word c.loop-j.invariant low w (word - 1) s in
    let alike : c.index.result.now ≡ get_or list.spots.alike.items (word - 1) 0 = c.index.ensures ∙ get_or_default list.spots.alike.items (word - 1) c.index.result.now 0 known.state.1 in
    let small = place_small list i labels kids j c.loop-j.place whole word c.loop-j.invariant low w (word - 1) s in
    omega (arith, ap (λ n. c.loop-j.place * n) alike, small, c.requires.within, c.len-count.ensures, c.len-count.type_inv)

pub index-requires-in-loop-j : goal.index-requires-in-loop-j
index-requires-in-loop-j c =
    let list = c.args.list.now in
    let i = c.args.self.now.at in
    let labels = c.args.rows.now.labels in
    let kids = c.args.kids.now in
    let j = c.loop-j.j in
    let whole = place_under list (states_under c.args.self.now labels kids) in
    let word = get_or c.label.result.now i 0 in
    let w : word ≡ get_or (get_or labels (get_or kids j 0) []) i 0 = ap (λ l. get_or l i 0) c.label.ensures in
    let low : j < length kids = omega (arith, c.loop-j-test.true) in
    let s : word ≡ suc (word - 1) = omega (arith, c.if-word-eq0.false) in
    let known = state_known list i labels kids j c.loop-j.place whole word c.loop-j.invariant low w (word - 1) s in
    omega (arith, known.state, list.spots.ranks.ok.0)

pub overflow_add-place : goal.overflow_add-place
overflow_add-place c =
    let list = c.args.list.now in
    let i = c.args.self.now.at in
    let labels = c.args.rows.now.labels in
    let kids = c.args.kids.now in
    let j = c.loop-j.j in
    let whole = place_under list (states_under c.args.self.now labels kids) in
    let word = get_or c.label.result.now i 0 in
    let w : word ≡ get_or (get_or labels (get_or kids j 0) []) i 0 = ap (λ l. get_or l i 0) c.label.ensures in
    let low : j < length kids = omega (arith, c.loop-j-test.true) in
    let s : word ≡ suc (word - 1) = omega (arith, c.if-word-eq0.false) in
    let known = state_known list i labels kids j c.loop-j.place whole word c.loop-j.invariant low w (word - 1) s in
    let alike : c.index.result.now ≡ get_or list.spots.alike.items (word - 1) 0 = c.index.ensures ∙ get_or_default list.spots.alike.items (word - 1) c.index.result.now 0 known.state.1 in
    let rank : c.index-in-loop-j.result.now ≡ get_or list.spots.ranks.items (word - 1) 0 = c.index-in-loop-j.ensures ∙ get_or_default list.spots.ranks.items (word - 1) c.index-in-loop-j.result.now 0 known.state.0 in
    let small = place_small list i labels kids j c.loop-j.place whole word c.loop-j.invariant low w (word - 1) s in
    omega (arith, ap (λ n. c.loop-j.place * n) alike, rank, small, c.requires.within, c.len-count.ensures, c.len-count.type_inv)

pub loop-j-preserved : goal.loop-j-preserved
loop-j-preserved c =
    let list = c.args.list.now in
    let i = c.args.self.now.at in
    let labels = c.args.rows.now.labels in
    let kids = c.args.kids.now in
    let j = c.loop-j.j in
    let whole = place_under list (states_under c.args.self.now labels kids) in
    let word = get_or c.label.result.now i 0 in
    let w : word ≡ get_or (get_or labels (get_or kids j 0) []) i 0 = ap (λ l. get_or l i 0) c.label.ensures in
    let low : j < length kids = omega (arith, c.loop-j-test.true) in
    let s : word ≡ suc (word - 1) = omega (arith, c.if-word-eq0.false) in
    let known = state_known list i labels kids j c.loop-j.place whole word c.loop-j.invariant low w (word - 1) s in
    let alike : c.index.result.now ≡ get_or list.spots.alike.items (word - 1) 0 = c.index.ensures ∙ get_or_default list.spots.alike.items (word - 1) c.index.result.now 0 known.state.1 in
    let rank : c.index-in-loop-j.result.now ≡ get_or list.spots.ranks.items (word - 1) 0 = c.index-in-loop-j.ensures ∙ get_or_default list.spots.ranks.items (word - 1) c.index-in-loop-j.result.now 0 known.state.0 in
    subst (λ p. LeadsTo list p (states_from i labels kids (j + 1)) whole) (sym (λ k. c.loop-j.place * alike k + rank k)) (leads_on list i labels kids j c.loop-j.place whole word c.loop-j.invariant low w (word - 1) s)

pub returns-then-word-eq0 : goal.returns-then-word-eq0
returns-then-word-eq0 c =
    let list = c.args.list.now in
    let i = c.args.self.now.at in
    let labels = c.args.rows.now.labels in
    let kids = c.args.kids.now in
    let j = c.loop-j.j in
    let whole = place_under list (states_under c.args.self.now labels kids) in
    let word = get_or c.label.result.now i 0 in
    let w : word ≡ get_or (get_or labels (get_or kids j 0) []) i 0 = ap (λ l. get_or l i 0) c.label.ensures in
    leads_zero list i labels kids j c.loop-j.place whole word c.loop-j.invariant (omega (arith, c.loop-j-test.true)) w c.if-word-eq0.true

pub returns : goal.returns
returns c =
    let list = c.args.list.now in
    let i = c.args.self.now.at in
    let labels = c.args.rows.now.labels in
    let kids = c.args.kids.now in
    let j = c.loop-j.j in
    let whole = place_under list (states_under c.args.self.now labels kids) in
    leads_end list c.loop-j.place whole (states_from i labels kids j) c.loop-j.invariant (states_none i labels kids j (omega (arith, c.loop-j-test.false)))
