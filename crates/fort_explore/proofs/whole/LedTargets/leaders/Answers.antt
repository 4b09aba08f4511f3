use Rattle.std.proofs.Common.{◌≡◌, ℕ, ◌+◌, ◌-◌, ◌<◌, List, take, length, get_or, ap, sym, ◌∙◌, arith, subst}
use Rattle.std.proofs.lemmas.Bool.{eqb-false}
use Rattle.fort_views.specs.SymbolViews.{AreViewsOf}
use Rattle.fort_explore.proofs.LedTargetLaws.{front_count, front_same, some_states, kid_low, kids_may_turn, kids_turned, led_targets_after}
use Rattle.fort_explore.proofs.whole.LedTargets.leaders.Goals as goal

pub kid_presences-wanted-requires-clause-within : goal.kid_presences-wanted-requires-clause-within
kid_presences-wanted-requires-clause-within g c =
    let r = c.requires.known in
    rw (c.kids-kids.ensures.states, c.as_slice.ensures.value) (kid_low _ _ _ r.0 _ _ _ _ r.2 c.args.row.now r.1)

pub turn-requires-clause-known : goal.turn-requires-clause-known
turn-requires-clause-known g c =
    let r = c.requires.known in
    let row = c.args.row.now in
    let kids = c.kids-kids.result.now in
    let is = c.kids-kids.ensures.states in
    let room = c.kid_presences-wanted.result in
    let presences = c.args.self.now.presences.items in
    let count = front_count room kids row.kids is (omega (arith, c.kids-kids.ensures.few)) in
    let same : (j : ℕ) → j < length kids → get_or room j 0 ≡ get_or presences (get_or kids j 0) 0 =
    λ j l. c.kid_presences-wanted.ensures j l ∙ ap (λ (ps : List ℕ). get_or ps (get_or kids j 0) 0) c.as_slice.ensures.value in
    let are = front_same room kids row.kids (λ j k. get_or presences k 0) is same in
    let some = eqb-false (length kids) 0 (sym c.is_empty.ensures ∙ c.if-is_empty.false) in
    let states = some_states _ _ _ r.0 _ _ _ _ r.2 row r.1 (omega (arith, some, ap length is)) in
    let all : c.len.result - 1 + 1 ≡ length c.args.rows.now.labels = omega (arith, c.len.ensures, states) in
    (r.0.signature, r.0.columns, r.2.until, kids_may_turn _ _ _ r.0 _ _ _ _ r.2 row r.1 c.digits.result.now c.digits.ensures.digits (take (length kids) room) count are (c.len.result - 1) all)

pub kid_leaders-requires-clause-turned : goal.kid_leaders-requires-clause-turned
kid_leaders-requires-clause-turned g c =
    let r = c.requires.known in
    let row = c.args.row.now in
    let kids = c.kids-kids.result.now in
    let is = c.kids-kids.ensures.states in
    let room = c.kid_presences-wanted.result in
    let presences = c.args.self.now.presences.items in
    let count = front_count room kids row.kids is (omega (arith, c.kids-kids.ensures.few)) in
    let same : (j : ℕ) → j < length kids → get_or room j 0 ≡ get_or presences (get_or kids j 0) 0 =
    λ j l. c.kid_presences-wanted.ensures j l ∙ ap (λ (ps : List ℕ). get_or ps (get_or kids j 0) 0) c.as_slice.ensures.value in
    let are = front_same room kids row.kids (λ j k. get_or presences k 0) is same in
    let some = eqb-false (length kids) 0 (sym c.is_empty.ensures ∙ c.if-is_empty.false) in
    let states = some_states _ _ _ r.0 _ _ _ _ r.2 row r.1 (omega (arith, some, ap length is)) in
    let newest = c.len.result - 1 in
    let all : newest + 1 ≡ length c.args.rows.now.labels = omega (arith, c.len.ensures, states) in
    let ds = c.digits.result.now in
    let digits = c.digits.ensures.digits in
    let ws = take (length kids) room in
    let views = c.turn.new.self in
    let t = kids_turned _ _ _ r.0 _ _ _ _ r.2 row r.1 ds digits ws count are newest all views.views.views.items views.places c.in_ok-turn.ensures.turned in
    (c.args.rows.now.labels, row.symbol, rw (c.turn.ensures.keys, is, c.as_slice-2.ensures.value) t)

pub returns-clause-known : goal.returns-clause-known
returns-clause-known g c = λ m h a.
    let row = c.args.row.now in
    let kids = c.kids-kids.result.now in
    let is = c.kids-kids.ensures.states in
    let room = c.kid_presences-wanted.result in
    let presences = c.args.self.now.presences.items in
    let count = front_count room kids row.kids is (omega (arith, c.kids-kids.ensures.few)) in
    let same : (j : ℕ) → j < length kids → get_or room j 0 ≡ get_or presences (get_or kids j 0) 0 =
    λ j l. c.kid_presences-wanted.ensures j l ∙ ap (λ (ps : List ℕ). get_or ps (get_or kids j 0) 0) c.as_slice.ensures.value in
    let are = front_same room kids row.kids (λ j k. get_or presences k 0) is same in
    let some = eqb-false (length kids) 0 (sym c.is_empty.ensures ∙ c.if-is_empty.false) in
    let states = some_states _ _ _ m _ _ _ _ a row h (omega (arith, some, ap length is)) in
    let newest = c.len.result - 1 in
    let all : newest + 1 ≡ length c.args.rows.now.labels = omega (arith, c.len.ensures, states) in
    let ds = c.digits.result.now in
    let digits = c.digits.ensures.digits in
    let ws = take (length kids) room in
    let views = c.turn.new.self in
    let turns = kids_may_turn _ _ _ m _ _ _ _ a row h ds digits ws count are newest all in
    let known = c.in_ok-turn.ensures.known m.signature m.columns a.until turns in
    let own = subst (λ k. AreViewsOf (g.K.LabelKeys.view k.now) (g.K.LabelKeys.key k.now) m.signature m.columns c.args.rows.now.labels (newest + 1) views.views) c.turn.ensures.keys known in
    rw c.turn.ensures.keys (led_targets_after _ _ _ m _ _ _ _ a views.views (newest + 1) (omega (arith, all)) own)

pub returns-clause-leaders : goal.returns-clause-leaders
returns-clause-leaders g c = λ m h a j l.
    let row = c.args.row.now in
    let kids = c.kids-kids.result.now in
    let is = c.kids-kids.ensures.states in
    let room = c.kid_presences-wanted.result in
    let presences = c.args.self.now.presences.items in
    let count = front_count room kids row.kids is (omega (arith, c.kids-kids.ensures.few)) in
    let same : (j : ℕ) → j < length kids → get_or room j 0 ≡ get_or presences (get_or kids j 0) 0 =
    λ j l. c.kid_presences-wanted.ensures j l ∙ ap (λ (ps : List ℕ). get_or ps (get_or kids j 0) 0) c.as_slice.ensures.value in
    let are = front_same room kids row.kids (λ j k. get_or presences k 0) is same in
    let some = eqb-false (length kids) 0 (sym c.is_empty.ensures ∙ c.if-is_empty.false) in
    let states = some_states _ _ _ m _ _ _ _ a row h (omega (arith, some, ap length is)) in
    let newest = c.len.result - 1 in
    let all : newest + 1 ≡ length c.args.rows.now.labels = omega (arith, c.len.ensures, states) in
    let ds = c.digits.result.now in
    let digits = c.digits.ensures.digits in
    let ws = take (length kids) room in
    let views = c.turn.new.self in
    let t = kids_turned _ _ _ m _ _ _ _ a row h ds digits ws count are newest all views.views.views.items views.places c.in_ok-turn.ensures.turned in
    let told = c.kid_leaders.ensures c.args.rows.now.labels row.symbol (rw (c.turn.ensures.keys, is, c.as_slice-2.ensures.value) t) j (omega (arith, l, ap length is)) in
    rw (c.turn.ensures.keys, is) at told
