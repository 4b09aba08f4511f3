use Rattle.std.proofs.Common.{◌≡◌, [], ◌∷◌, ◌++◌, map, take, length, ap, sym, ◌∙◌, arith, subst}
use Rattle.std.proofs.lemmas.Bool.{false≢true}
use Rattle.std.proofs.lemmas.Bool.Decides.{Decides-eqb}
use Rattle.std.proofs.lemmas.List.{append-nil}
use Rattle.std.proofs.lemmas.Slice.Eq.{slice_eq-Decides}
use Rattle.fort_tables.specs.Entries.{entry}
use Rattle.fort_tables.specs.Tables.{IsTableEntry}
use Rattle.fort_tables.proofs.EqualTests.{equal_from_test, apart_from_test}
use Rattle.fort_tables.specs.Merges.{class_of, leader, led}
use Rattle.fort_check_merges.specs.GivenMerges.{table_in}
use Rattle.fort_check_merges.proofs.LedEntries.{front_of, same_led, led_entry, led_is_entry, kept_led, kept_unled}
use Rattle.fort_check_merges.proofs.entries.is_whole.Goals as goal

pub returns-then-eq-clause-whole : goal.returns-then-eq-clause-whole
returns-then-eq-clause-whole c e =
    let t = table_in c.args.given.now in
    let classes = c.args.given.now.classes.now in
    let row = c.args.row.now in
    let front = front_of classes row c.kids-kids.result.now c.put_leaders.new.states c.kids-kids.ensures.states (omega (arith, c.put_leaders.auto.states, c.kids-kids.ensures.few)) c.put_leaders.ensures in
    let same = same_led classes row c.kids-kids.result.now c.put_leaders.new.states c.kids-kids.ensures.states front ((slice_eq-Decides Decides-eqb (take (length c.kids-kids.result.now) c.put_leaders.new.states) c.kids-kids.result.now c.eq.result c.eq.ensures).0 c.if-eq.true) in
    ap (λ ks. class_of classes (t.target (entry row.symbol ks))) (sym same)

pub returns-then-eq-clause-merged : goal.returns-then-eq-clause-merged
returns-then-eq-clause-merged c e =
    let t = table_in c.args.given.now in
    let classes = c.args.given.now.classes.now in
    let row = c.args.row.now in
    let front = front_of classes row c.kids-kids.result.now c.put_leaders.new.states c.kids-kids.ensures.states (omega (arith, c.put_leaders.auto.states, c.kids-kids.ensures.few)) c.put_leaders.ensures in
    let same = same_led classes row c.kids-kids.result.now c.put_leaders.new.states c.kids-kids.ensures.states front ((slice_eq-Decides Decides-eqb (take (length c.kids-kids.result.now) c.put_leaders.new.states) c.kids-kids.result.now c.eq.result c.eq.ensures).0 c.if-eq.true) in
    c.push_reserved.ensures.items ∙ ap (λ xs. c.args.merged.now.items ++ xs) (ap (λ q. class_of classes q ∷ []) c.requires.target ∙ sym (kept_led t classes row same))

pub target-other-requires : goal.target-other-requires
target-other-requires c =
    let t = table_in c.args.given.now in
    let classes = c.args.given.now.classes.now in
    let row = c.args.row.now in
    let front = front_of classes row c.kids-kids.result.now c.put_leaders.new.states c.kids-kids.ensures.states (omega (arith, c.put_leaders.auto.states, c.kids-kids.ensures.few)) c.put_leaders.ensures in
    let is = led_entry classes row c.sym.result (take (length c.kids-kids.result.now) c.put_leaders.new.states) c.sym.ensures front in
    (t, c.requires.list, subst (IsTableEntry t) (sym is) (led_is_entry t classes row c.requires.classes.right c.requires.entry))

pub bounds-given-other : goal.bounds-given-other
bounds-given-other c =
    let t = table_in c.args.given.now in
    let classes = c.args.given.now.classes.now in
    let row = c.args.row.now in
    let front = front_of classes row c.kids-kids.result.now c.put_leaders.new.states c.kids-kids.ensures.states (omega (arith, c.put_leaders.auto.states, c.kids-kids.ensures.few)) c.put_leaders.ensures in
    let is = led_entry classes row c.sym.result (take (length c.kids-kids.result.now) c.put_leaders.new.states) c.sym.ensures front in
    let there = led_is_entry t classes row c.requires.classes.right c.requires.entry in
    let at : c.target-other.result ≡ t.target (led classes row) = c.target-other.ensures t c.requires.list (subst (IsTableEntry t) (sym is) there) ∙ ap t.target is in
    omega (arith, at, c.requires.classes.right.count, c.requires.given.listed.table.within (led classes row) there)

pub returns-clause-whole : goal.returns-clause-whole
returns-clause-whole c e =
    let t = table_in c.args.given.now in
    let classes = c.args.given.now.classes.now in
    let row = c.args.row.now in
    let front = front_of classes row c.kids-kids.result.now c.put_leaders.new.states c.kids-kids.ensures.states (omega (arith, c.put_leaders.auto.states, c.kids-kids.ensures.few)) c.put_leaders.ensures in
    let is = led_entry classes row c.sym.result (take (length c.kids-kids.result.now) c.put_leaders.new.states) c.sym.ensures front in
    let there = led_is_entry t classes row c.requires.classes.right c.requires.entry in
    let at : c.target-other.result ≡ t.target (led classes row) = c.target-other.ensures t c.requires.list (subst (IsTableEntry t) (sym is) there) ∙ ap t.target is in
    ap (class_of classes) (sym c.requires.target) ∙ (sym (equal_from_test (class_of classes c.target-other.result) (class_of classes c.args.target) e) ∙ ap (class_of classes) at)

pub returns-clause-split : goal.returns-clause-split
returns-clause-split c e whole =
    let t = table_in c.args.given.now in
    let classes = c.args.given.now.classes.now in
    let row = c.args.row.now in
    let front = front_of classes row c.kids-kids.result.now c.put_leaders.new.states c.kids-kids.ensures.states (omega (arith, c.put_leaders.auto.states, c.kids-kids.ensures.few)) c.put_leaders.ensures in
    let is = led_entry classes row c.sym.result (take (length c.kids-kids.result.now) c.put_leaders.new.states) c.sym.ensures front in
    let there = led_is_entry t classes row c.requires.classes.right c.requires.entry in
    let at : c.target-other.result ≡ t.target (led classes row) = c.target-other.ensures t c.requires.list (subst (IsTableEntry t) (sym is) there) ∙ ap t.target is in
    apart_from_test (class_of classes c.target-other.result) (class_of classes c.args.target) e
    (ap (class_of classes) at ∙ (sym whole ∙ ap (class_of classes) (sym c.requires.target)))

pub returns-clause-merged : goal.returns-clause-merged
returns-clause-merged c e =
    let t = table_in c.args.given.now in
    let classes = c.args.given.now.classes.now in
    let row = c.args.row.now in
    let front = front_of classes row c.kids-kids.result.now c.put_leaders.new.states c.kids-kids.ensures.states (omega (arith, c.put_leaders.auto.states, c.kids-kids.ensures.few)) c.put_leaders.ensures in
    let apart : map (leader classes) row.kids ≡ row.kids → ⊥ = λ same. false≢true (sym c.if-eq.false ∙ (slice_eq-Decides Decides-eqb (take (length c.kids-kids.result.now) c.put_leaders.new.states) c.kids-kids.result.now c.eq.result c.eq.ensures).1 (front ∙ (same ∙ sym c.kids-kids.ensures.states))) in
    sym (ap (λ xs. c.args.merged.now.items ++ xs) (kept_unled t classes row apart) ∙ append-nil c.args.merged.now.items)
