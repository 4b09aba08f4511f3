use Rattle.std.proofs.Common.{◌≡◌, ◌-◌, ◌<◌, ◌≤◌, set, length, ap, sym, ◌∙◌, subst, arith}
use Rattle.std.proofs.lemmas.List.{length-set}
use Rattle.std.proofs.lemmas.Bool.Decides.{nat_tests}
use Rattle.fort_tables.specs.Entries.{Entry, entry}
use Rattle.fort_tables.specs.Tables.{listed_table, IsTableEntry}
use Rattle.fort_tables.specs.Merges.{class_of}
use Rattle.fort_reduce.specs.Walks.{led_in}
use Rattle.fort_reduce.proofs.PassLaws.{at_zero}
use Rattle.fort_reduce.proofs.WholeLaws.{led_is, whole_own, IsTableEntry-led_in}
use Rattle.fort_reduce.proofs.FrontLaws.{front_leads, front_own}
use Rattle.fort_reduce.proofs.front.Front.is_whole.Goals as goal

pub returns-then-leader-kids : goal.returns-then-leader-kids
returns-then-leader-kids c = λ is.
    let o = c.args.classes.now.of.items in
    let l = c.args.classes.now.leaders.items in
    let ks = c.args.kids.now in
    whole_own (listed_table c.args.targets.now.table.now) o l c.args.targets.now.symbol ks
    (front_own o l ks c.requires.some (c.requires.front.led c.if-self.true) (sym c.leader_of-leader.ensures ∙ c.if-leader-kids.true))

pub target_behind-there-requires-clause-entry : goal.target_behind-there-requires-clause-entry
target_behind-there-requires-clause-entry c =
    let t = listed_table c.args.targets.now.table.now in
    let o = c.args.classes.now.of.items in
    let l = c.args.classes.now.leaders.items in
    let ks = c.args.kids.now in
    let ls = c.args.self.now.leaders in
    let f = c.args.targets.now.symbol in
    let lead = c.leader_of-leader.result in
    let room : length ks ≤ length ls = omega (arith, c.requires.front.room, c.requires.few) in
    let are = front_leads o l ks ls lead c.requires.some room c.requires.front.leaders_are c.leader_of-leader.ensures in
    let same = led_is o l f ks (set ls (length ks - 1) lead) (omega (arith, length-set ls (length ks - 1) lead, room)) are in
    subst (IsTableEntry t) (sym same) (IsTableEntry-led_in t o l c.states-states.ensures.lawful c.requires.refined (entry f ks) c.requires.entry)

pub index-requires-2 : goal.index-requires-2
index-requires-2 c =
    let t = listed_table c.args.targets.now.table.now in
    let o = c.args.classes.now.of.items in
    let l = c.args.classes.now.leaders.items in
    let ks = c.args.kids.now in
    let ls = c.args.self.now.leaders in
    let f = c.args.targets.now.symbol in
    let e = entry f ks in
    let lead = c.leader_of-leader.result in
    let room : length ks ≤ length ls = omega (arith, c.requires.front.room, c.requires.few) in
    let are = front_leads o l ks ls lead c.requires.some room c.requires.front.leaders_are c.leader_of-leader.ensures in
    let same = led_is o l f ks (set ls (length ks - 1) lead) (omega (arith, length-set ls (length ks - 1) lead, room)) are in
    let at : c.target_behind-there.result ≡ t.target (led_in o l e) = c.target_behind-there.ensures ∙ ap (λ (x : Entry). t.target x) same in
    omega (arith, at, c.args.classes.now.of.ok.0, c.requires.refined.count, c.states-states.ensures.lawful.within (led_in o l e) (IsTableEntry-led_in t o l c.states-states.ensures.lawful c.requires.refined e c.requires.entry))

pub returns : goal.returns
returns c = λ equal.
    let t = listed_table c.args.targets.now.table.now in
    let o = c.args.classes.now.of.items in
    let l = c.args.classes.now.leaders.items in
    let ks = c.args.kids.now in
    let ls = c.args.self.now.leaders in
    let f = c.args.targets.now.symbol in
    let e = entry f ks in
    let is = c.states-states.ensures.lawful in
    let r = c.requires.refined in
    let lead = c.leader_of-leader.result in
    let room : length ks ≤ length ls = omega (arith, c.requires.front.room, c.requires.few) in
    let are = front_leads o l ks ls lead c.requires.some room c.requires.front.leaders_are c.leader_of-leader.ensures in
    let same = led_is o l f ks (set ls (length ks - 1) lead) (omega (arith, length-set ls (length ks - 1) lead, room)) are in
    let at : c.target_behind-there.result ≡ t.target (led_in o l e) = c.target_behind-there.ensures ∙ ap (λ (x : Entry). t.target x) same in
    let low : c.target_behind-target.result < length o = omega (arith, c.target_behind-target.ensures, r.count, is.within e c.requires.entry) in
    let low2 : c.target_behind-there.result < length o = omega (arith, at, r.count, is.within (led_in o l e) (IsTableEntry-led_in t o l is r e c.requires.entry)) in
    let one = at_zero o c.target_behind-target.result c.index.result.now low c.index.ensures in
    let other = at_zero o c.target_behind-there.result c.index-2.result.now low2 c.index-2.ensures in
    let both : c.index.result.now ≡ c.index-2.result.now = grind (arith, nat_tests, equal) in
    ap (class_of o) (sym c.target_behind-target.ensures) ∙ (sym one ∙ (both ∙ (other ∙ ap (class_of o) at)))
