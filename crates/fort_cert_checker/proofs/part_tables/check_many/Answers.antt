use Rattle.std.proofs.Common.{◌≡◌, ◌<◌, ◌≤◌, ℕ, List, length, map, vec_capacity, ◌+◌, ◌*◌, sym, ap, ◌∙◌, subst, arith}
use Rattle.fort_tables.specs.BitRows.{words_for}
use Rattle.fort_tables.specs.Tables.{Table}
use Rattle.fort_tables.specs.Projections.{ArePure}
use Rattle.fort_tables.specs.Counts.{KeepRules, count_at}
use Rattle.fort_certificate_theory.specs.PartRules.{many_local}
use Rattle.fort_certificate_theory.proofs.PureLists.{pure_one}
use Rattle.fort_findings.specs.declared.count.Count.{Count}
use Rattle.fort_findings.specs.FindingView.{as_count}
use Rattle.fort_infinity.specs.ManyCounts.{is_many}
use Rattle.fort_check_steps.specs.Turned.{turned_table}
use Rattle.fort_check_steps.specs.Room.{HasLabelRoom}
use Rattle.fort_cert_checker.specs.Pasts.{IsPartStep}
use Rattle.fort_cert_checker.proofs.part_tables.check_many.Goals as goal

pub put_pure-requires-clause-column : goal.put_pure-requires-clause-column
put_pure-requires-clause-column c =
    let b = c.requires.body in
    subst (λ (t : Table). c.args.column < t.columns) (sym (c.table-body.ensures.is b.0 b.1)) b.3

pub put_pure-requires-clause-spare : goal.put_pure-requires-clause-spare
put_pure-requires-clause-spare c =
    let b = c.requires.body in
    subst (λ (t : Table). length t.presences ≤ vec_capacity c.clear.new.self) (sym (c.table-body.ensures.is b.0 b.1)) (omega (arith, b.6.pure, c.clear.ensures.capacity))

pub new-rule-requires-clause-column : goal.new-rule-requires-clause-column
new-rule-requires-clause-column c =
    let b = c.requires.body in
    subst (λ (t : Table). c.args.column < t.columns) (sym (ap turned_table c.listed-listed.ensures ∙ c.table-body.ensures.is b.0 b.1)) b.3

pub new-rule-requires-clause-another : goal.new-rule-requires-clause-another
new-rule-requires-clause-another c =
    let b = c.requires.body in
    subst (λ (t : Table). 1 < t.columns) (sym (ap turned_table c.listed-listed.ensures ∙ c.table-body.ensures.is b.0 b.1)) b.4

pub check_part_by_entry-requires-clause-signature : goal.check_part_by_entry-requires-clause-signature
check_part_by_entry-requires-clause-signature c =
    let b = c.requires.body in
    ap (λ (t : Table). t.signature) (ap turned_table c.new-rule.ensures.body ∙ (ap turned_table c.listed-listed.ensures ∙ c.table-body.ensures.is b.0 b.1)) ∙ b.2

pub check_part_by_entry-requires-clause-space : goal.check_part_by_entry-requires-clause-space
check_part_by_entry-requires-clause-space c =
    let b = c.requires.body in
    (subst (λ (t : Table). HasLabelRoom (words_for (2 * length t.presences) + 2) c.args.targets.now c.args.scratch.now)
    (sym (ap turned_table c.new-rule.ensures.body ∙ (ap turned_table c.listed-listed.ensures ∙ c.table-body.ensures.is b.0 b.1))) b.5).rows

pub check_part_by_entry-requires-clause-out : goal.check_part_by_entry-requires-clause-out
check_part_by_entry-requires-clause-out c =
    let b = c.requires.body in
    (subst (λ (t : Table). HasLabelRoom (words_for (2 * length t.presences) + 2) c.args.targets.now c.args.scratch.now)
    (sym (ap turned_table c.new-rule.ensures.body ∙ (ap turned_table c.listed-listed.ensures ∙ c.table-body.ensures.is b.0 b.1))) b.5).out

pub lay-requires-clause-list : goal.lay-requires-clause-list
lay-requires-clause-list c =
    let b = c.requires.body in
    (c.table-body.ensures.room b.0 b.1 c.args.scratch.now.lists.first c.args.scratch.now.lists.lay c.requires.list).list_room

pub lay-requires-clause-room : goal.lay-requires-clause-room
lay-requires-clause-room c =
    let b = c.requires.body in
    (c.table-body.ensures.room b.0 b.1 c.args.scratch.now.lists.first c.args.scratch.now.lists.lay c.requires.list).lay_room

pub check_part_by_entry-requires-clause-lay : goal.check_part_by_entry-requires-clause-lay
check_part_by_entry-requires-clause-lay c =
    let b = c.requires.body in
    c.lay.ensures.room _ b.5.lay

pub returns-clause-scratch : goal.returns-clause-scratch
returns-clause-scratch c = record {
  rows = c.check_part_by_entry.ensures.space;
  out = c.check_part_by_entry.ensures.out;
  lists = record { first = c.lay.ensures.list_room; second = λ n k h. h; lay = λ n h. c.check_part_by_entry.ensures.lay n (c.lay.ensures.room n h) };
  leaders = omega arith;
}

pub new-rule-requires-clause-sizes : goal.new-rule-requires-clause-sizes
new-rule-requires-clause-sizes c =
    let b = c.requires.body in
    let pure = subst (λ (t : Table). ArePure t c.args.column c.put_pure.new.states.items) (c.table-body.ensures.is b.0 b.1) c.put_pure.ensures.pure in
    (b.7 c.put_pure.new.states.items pure).0 ∙ sym (ap length c.deref.ensures.value)

pub new-rule-requires-clause-rules : goal.new-rule-requires-clause-rules
new-rule-requires-clause-rules c =
    let b = c.requires.body in
    let pure = subst (λ (t : Table). ArePure t c.args.column c.put_pure.new.states.items) (c.table-body.ensures.is b.0 b.1) c.put_pure.ensures.pure in
    subst (λ (t : Table). KeepRules t c.args.column (count_at c.deref.result.now (map as_count c.args.counts.now))) (sym (ap turned_table c.listed-listed.ensures ∙ c.table-body.ensures.is b.0 b.1))
    (subst (λ (xs : List ℕ). KeepRules b.0 c.args.column (count_at xs (map as_count c.args.counts.now))) (sym c.deref.ensures.value) (b.7 c.put_pure.new.states.items pure).1)

pub returns-clause-step : goal.returns-clause-step
returns-clause-step c table states at pure =
    let made : turned_table c.table-body.result ≡ table = c.table-body.ensures.is table at in
    let own : turned_table c.new-rule.result.body.now ≡ table = ap turned_table c.new-rule.ensures.body ∙ (ap turned_table c.listed-listed.ensures ∙ made) in
    let alone : c.put_pure.new.states.items ≡ states =
    pure_one table c.args.column c.put_pure.new.states.items states (subst (λ (t : Table). ArePure t c.args.column c.put_pure.new.states.items) made c.put_pure.ensures.pure) pure in
    let given : c.new-rule.result.alone.now ≡ states = c.new-rule.ensures.alone ∙ (c.deref.ensures.value ∙ alone) in
    let Step : Table → ℕ → List ℕ → List Count → Type 0 =
    λ t n xs ns. IsPartStep (many_local t n (is_many xs ns)) c.args.targets.now c.check_part_by_entry.new.room c.check_part_by_entry.result in
    subst (λ (ns : List Count). Step table c.args.column states ns) c.new-rule.ensures.counts
    (subst (λ (xs : List ℕ). Step table c.args.column xs c.new-rule.result.counts.now) given
    (subst (λ (n : ℕ). Step table n c.new-rule.result.alone.now c.new-rule.result.counts.now) c.new-rule.ensures.column
    (subst (λ (t : Table). Step t c.new-rule.result.column c.new-rule.result.alone.now c.new-rule.result.counts.now) own
    (record { outcome = c.check_part_by_entry.ensures.outcome; plain = c.check_part_by_entry.ensures.not_merged; held = c.check_part_by_entry.ensures.held }))))
