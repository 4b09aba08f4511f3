use Rattle.std.proofs.Common.{◌≡◌, ◌<◌, ◌≤◌, ℕ, List, length, map, vec_capacity, sym, ap, ◌∙◌, subst, arith}
use Rattle.fort_tables.specs.Tables.{Table}
use Rattle.fort_tables.specs.Projections.{ArePure}
use Rattle.fort_tables.specs.Counts.{count_at, is_infinite}
use Rattle.fort_tables.specs.ManyLabels.{many_value}
use Rattle.fort_certificate_theory.proofs.PureLists.{pure_one}
use Rattle.fort_findings.specs.FindingView.{as_count}
use Rattle.fort_check_steps.specs.Turned.{turned_table}
use Rattle.fort_cert_checker.proofs.value.accepts_many.Goals as goal

pub put_pure-requires-clause-column : goal.put_pure-requires-clause-column
put_pure-requires-clause-column c =
    let b = c.requires.body in
    subst (λ (t : Table). c.args.column < t.columns) (sym (c.table-body.ensures.is b.0 b.1)) b.2

pub put_pure-requires-clause-spare : goal.put_pure-requires-clause-spare
put_pure-requires-clause-spare c =
    let b = c.requires.body in
    subst (λ (t : Table). length t.presences ≤ vec_capacity c.clear.new.self) (sym (c.table-body.ensures.is b.0 b.1)) (omega (arith, b.3.pure, c.clear.ensures.capacity))

pub many_value-requires-clause-column : goal.many_value-requires-clause-column
many_value-requires-clause-column c =
    let b = c.requires.body in
    subst (λ (t : Table). c.args.column < t.columns) (sym (c.table-body.ensures.is b.0 b.1)) b.2

pub many_value-requires-clause-counts : goal.many_value-requires-clause-counts
many_value-requires-clause-counts c =
    let b = c.requires.body in
    let pure = subst (λ (t : Table). ArePure t c.args.column c.put_pure.new.states.items) (c.table-body.ensures.is b.0 b.1) c.put_pure.ensures.pure in
    b.4 c.put_pure.new.states.items pure ∙ sym (ap length c.deref.ensures.value)

pub returns-clause-value : goal.returns-clause-value
returns-clause-value c table states at pure =
    let made : turned_table c.table-body.result ≡ table = c.table-body.ensures.is table at in
    let alone : c.put_pure.new.states.items ≡ states =
    pure_one table c.args.column c.put_pure.new.states.items states (subst (λ (t : Table). ArePure t c.args.column c.put_pure.new.states.items) made c.put_pure.ensures.pure) pure in
    let given : c.deref.result.now ≡ states = c.deref.ensures.value ∙ alone in
    let Is : Table → List ℕ → Type 0 =
    λ t xs. c.many_value.result ≡ many_value t c.args.column (λ q. is_infinite (count_at xs (map as_count c.args.counts.now) q)) in
    subst (λ (xs : List ℕ). Is table xs) given
    (subst (λ (t : Table). Is t c.deref.result.now) made c.many_value.ensures.value)
