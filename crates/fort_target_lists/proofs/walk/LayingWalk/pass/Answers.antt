use Rattle.std.proofs.Common.{◌≡◌, [], ◌∷◌, ◌++◌, IsTrue, arith, ap, true≢false, sym, ◌∙◌}
use Rattle.fort_tables.specs.Tables.{listed_table}
use Rattle.fort_target_lists.proofs.WalkLaws.{entry_at, stop_low, stop_room, stop_laid, stop_target, passed_more}
use Rattle.fort_target_lists.proofs.walk.LayingWalk.pass.Goals as goal
use Rattle.fort_target_lists.proofs.walk.LayingWalk.pass.Goals.{then-self, else-self}

pub bounds-cursors-stage : goal.bounds-cursors-stage
bounds-cursors-stage c =
    let r = c.requires.at in
    omega (arith, stop_low r.1 c.args.self.now r.0 c.args.stage r.2, r.3.size)

pub offset_bounds-cursors-stage : goal.offset_bounds-cursors-stage
offset_bounds-cursors-stage c =
    let r = c.requires.at in
    omega (arith, stop_low r.1 c.args.self.now r.0 c.args.stage r.2, r.3.size)

pub offset_bounds-cursors-stage-2 : goal.offset_bounds-cursors-stage-2
offset_bounds-cursors-stage-2 c =
    let r = c.requires.at in
    omega (arith, stop_low r.1 c.args.self.now r.0 c.args.stage r.2, r.3.size)

pub bounds-self-cursor : goal.bounds-self-cursor
bounds-self-cursor c =
    let r = c.requires.at in
    stop_room r.1 c.args.self.now r.0 c.args.stage c.args.cursors.now c.args.laid.now.items r.2 r.3

pub push_reserved-requires : goal.push_reserved-requires
push_reserved-requires c =
    let r = c.requires.at in
    omega (arith, stop_laid r.1 c.args.self.now r.0 c.args.stage c.args.cursors.now c.args.laid.now.items c.if-self.true r.2 r.3, c.requires.room c.if-self.true, c.args.laid.now.ok.0)

pub bounds-cursors-stage-2 : goal.bounds-cursors-stage-2
bounds-cursors-stage-2 c =
    let r = c.requires.at in
    omega (arith, stop_low r.1 c.args.self.now r.0 c.args.stage r.2, r.3.size)

pub returns-clause-passed : goal.returns-clause-passed
returns-clause-passed c = λ f p h v.
    let walk = c.args.self.now in
    let old = c.args.laid.now.items in
    let target = (listed_table p.table).target (entry_at p f) in
    let laid : IsTrue walk.lays → c.if-self.laid.items ≡ old ++ target ∷ [] = λ b.
    elim c.if-self.branch [
      | then-self w ↦ ap (λ (x : _). x.items) w.laid-is ∙ (w.push_reserved.ensures.items ∙ ap (λ q. old ++ q ∷ []) (stop_target p walk f c.args.stage c.args.cursors.now old b h v))
      | else-self w ↦ absurd (true≢false (sym b ∙ w.if-self.false))
    ] in
    passed_more p.table walk.lays p.begins p.passed (entry_at p f) c.args.cursors.now old c.if-self.laid.items c.args.stage h.stage_is (stop_low p walk f c.args.stage h) laid v
