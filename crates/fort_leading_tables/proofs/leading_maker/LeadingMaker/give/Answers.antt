use Rattle.std.proofs.Common.{◌≡◌, ℕ, ◌≤◌, List, [], ◌∷◌, ◌++◌, length, ◌==◌, if◌then◌else◌, refl, ap, sym, ◌∙◌, subst}
use Rattle.fort_theory.specs.Signatures.{Signature}
use Rattle.fort_classes.specs.Keys.{leaders_by}
use Rattle.fort_table.specs.EntryListFacts.{entries_in}
use Rattle.fort_leading_walk.specs.LeadingPlaces.{leading_entry, StandsAt}
use Rattle.fort_leading_tables.specs.LeadingMaking.{turned, given}
use Rattle.fort_leading_tables.specs.declared.leading_maker.LeadingMaker.{LeadingMaker}
use Rattle.fort_leading_tables.proofs.FirstEntryLaws.{firsts_given}
use Rattle.fort_leading_tables.proofs.MakerLaws.{HasWalked, walked_from, maker_given, due_of, due_missing, given_items, still_stands, still_known}
use Rattle.fort_leading_tables.proofs.leading_maker.LeadingMaker.give.Goals as goal

pub push-requires : goal.push-requires
push-requires g c =
    let leaders = c.args.leaders.now in
    let t = turned (g.L.SymbolLeaders.keys leaders) (g.L.LeaderLists.lists leaders) (g.L.SymbolLeaders.knows leaders) in
    let r = c.requires.made in
    let due = due_of t r.0 r.1 c.args.self.now r.3 c.requires.due in
    (r.1.columns, r.1.entries, r.1.targets, r.3.targets_are, due.next.among.entry.symbol.width, due_missing t r.0 r.1 c.args.self.now due)

pub note_state-requires : goal.note_state-requires
note_state-requires g c = c.requires.made.3.firsts.spans

pub advance_row-requires-clause-stands : goal.advance_row-requires-clause-stands
advance_row-requires-clause-stands g c =
    let leaders = c.args.leaders.now in
    let t = turned (g.L.SymbolLeaders.keys leaders) (g.L.LeaderLists.lists leaders) (g.L.SymbolLeaders.knows leaders) in
    let r = c.requires.made in
    let a = c.args.self.now in
    let new = c.args.rows.now.labels in
    let due = due_of t r.0 r.1 a r.3 c.requires.due in
    let ps = given_items t r.0 r.1 a c.args.target r.3 c.note_state.new.presences.items c.in_ok-note_state.ensures.presences ∙ sym c.as_slice-presences.ensures.value in
    let Stands : Signature → List ℕ → Type 0 = λ s qs. StandsAt s (leaders_by t.keys new) qs t.lists a.walk in
    let here = still_stands r.0 new r.1 a.row c.args.target r.3.by_labels r.4 t a r.3.made due refl in
    subst (Stands c.args.sig.now) ps (subst (λ (s : Signature). Stands s (given r.1 a.row c.args.target).presences) r.2 here)

pub advance_row-requires-clause-known : goal.advance_row-requires-clause-known
advance_row-requires-clause-known g c =
    let leaders = c.args.leaders.now in
    let t = turned (g.L.SymbolLeaders.keys leaders) (g.L.LeaderLists.lists leaders) (g.L.SymbolLeaders.knows leaders) in
    let r = c.requires.made in
    let a = c.args.self.now in
    let new = c.args.rows.now.labels in
    let due = due_of t r.0 r.1 a r.3 c.requires.due in
    let Known : List (List ℕ) → Type 0 = λ ls. t.knows r.1.signature r.1.columns ls due.until in
    let stays : (w : List ℕ) → due.until ≤ length r.0 → Known r.0 → Known (r.0 ++ w ∷ []) = λ w l k. g.met.L.SymbolLeaders.stays leaders r.1.signature r.1.columns r.0 w due.until l k in
    let here = still_known r.0 new r.1 a.row c.args.target r.3.by_labels r.4 t a r.3.made due refl stays in
    let Knows : Signature → ℕ → Type 0 = λ s n. t.knows s n new due.until in
    (due.until, subst (Knows c.args.sig.now) (sym r.3.width) (subst (λ (s : Signature). Knows s r.1.columns) r.2 here), due.forward)

pub returns-clause-given : goal.returns-clause-given
returns-clause-given g c = λ labels m same is target.
    let old = c.args.leaders.now in
    let leaders = c.advance_row.new.leaders in
    let t = turned (g.L.SymbolLeaders.keys old) (g.L.LeaderLists.lists old) (g.L.SymbolLeaders.knows old) in
    let t' = turned (g.L.SymbolLeaders.keys leaders) (g.L.LeaderLists.lists leaders) (g.L.SymbolLeaders.knows leaders) in
    let a = c.args.self.now in
    let q = c.args.target in
    let new = c.args.rows.now.labels in
    let walk = c.advance_row.new.self in
    let went = c.in_ok-self.field-0 in
    let told = c.in_ok-self.ensures in
    let due = due_of t labels m a is c.requires.due in
    let items = given_items t labels m a q is c.note_state.new.presences.items c.in_ok-note_state.ensures.presences in
    let ps = sym (items ∙ sym c.as_slice-presences.ensures.value) in
    let width : length walk.walk.digits ≡ m.columns = told.columns ∙ is.width in
    let b : LeadingMaker = record { presences = c.note_state.new.presences; first_entries = c.note_state.new.first_entries; targets = c.push.new.self; walk = walk; row = c.advance_row.new.row; is_due = went } in
    let slice = c.as_slice-presences.result.now in
    let walked = walked_from t' t.keys new c.args.sig.now m.columns (length a.walk.walk.digits) slice (leading_entry a.walk) a.row walk went told.asked is.width width (sym is.row) told.next told.stands told.known in
    let here : HasWalked t' new m.signature m.columns (given m a.row q).presences a.row walk went =
    subst (λ (qs : List ℕ). HasWalked t' new m.signature m.columns qs a.row walk went) ps (subst (λ (s : Signature). HasWalked t' new s m.columns slice a.row walk went) (sym same) walked) in
    let noted = c.in_ok-note_state.ensures.firsts ∙ ap (λ n. if q == n then entries_in a.first_entries.numbers.items a.first_entries.spans.items ++ a.row ∷ [] else entries_in a.first_entries.numbers.items a.first_entries.spans.items) (sym (ap length is.presences_are)) in
    let firsts = firsts_given m a.row q a.first_entries c.note_state.new.first_entries is.made.count is.made.within is.firsts c.in_ok-note_state.ensures.spans noted in
    maker_given labels new m a.row q is.by_labels target t a is.made due refl t' b told.asked is.narrow items (c.in_ok-push.ensures m.columns m.entries m.targets is.targets_are due.next.among.entry.symbol.width (due_missing t labels m a due)) firsts told.row width here
