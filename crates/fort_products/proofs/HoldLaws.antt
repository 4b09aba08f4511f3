-- A walk that holds targets against the labels of their entries: one more entry is passed; child state by child state; between tuple symbols.
use Rattle.std.proofs.Common.{◌≡◌, ℕ, suc, ◌+◌, ◌-◌, ◌^◌, ◌<◌, ◌≤◌, max, List, [], ◌∷◌, ◌++◌, map, set, length, get_or, true, false, IsTrue, refl, ap, sym, ◌∙◌, arith, subst, ⊎_elim}
use Rattle.std.specs.Prelude.{Contains}
use Rattle.std.proofs.lemmas.List.{map-append, length-map, get_or-map}
use Rattle.std.proofs.lemmas.List.Elements.{Contains-append_right, Contains-push_cases}
use Rattle.fort_theory.specs.Signatures.{Signature}
use Rattle.fort_theory.proofs.Members.{Contains-head, Contains-none}
use Rattle.fort_tables.specs.Tuples.{TupleSymbol, presence, kid_presence, symbol_kids}
use Rattle.fort_tables.specs.Entries.{Entry, IsEntry}
use Rattle.fort_tables.specs.Labels.{first_word, AreLabels, IsOverLabels}
use Rattle.fort_tables.specs.LabelRules.{label_of}
use Rattle.fort_tables.specs.Tables.{Listed, listed_table}
use Rattle.fort_tables.proofs.LabelRuleLaws.{TellsPresence-rule}
use Rattle.fort_tables.proofs.OrderLaws.{order_one}
use Rattle.fort_tables.proofs.PresenceLaws.{presence_bound}
use Rattle.fort_tables.specs.Laid.{entries_from, by_symbol, all_entries}
use Rattle.fort_tables.proofs.AllEntries.{entries_unique, entry_at_cursor, all_in_order, all_there}
use Rattle.fort_tables.proofs.Counts.{length-all_entries}
use Rattle.fort_tables.proofs.BySymbol.{by_symbol_are, by_symbol_has}
use Rattle.fort_tables.specs.Selections.{is_present}
use Rattle.fort_tables.specs.Products.{AreOperands, signature_of}
use Rattle.fort_target_lists.specs.Chains.{IsFirstFrom}
use Rattle.fort_products.specs.HeldTargets.{IsHeld, AreHeldFrom}
use Rattle.fort_products.specs.HeldWalks.{Operands, rule_of, IsHoldingOf, HasHeld, IsHoldingAt, HasHeldTo, HasHeldBehind, IsHeldBetween}
use Rattle.fort_products.specs.Joints.{IsJointOf}
use Rattle.fort_target_lists.specs.Walks.{entries_before, IsCovered, IsWalkOf, AreStageBegins, Stop, IsStopOf, HasPassedTo}
use Rattle.fort_products.specs.declared.held.Holding.{Holding}
use Rattle.fort_products.specs.declared.joint.Joint.{Joint}
use Rattle.fort_target_lists.specs.declared.walk.LayingWalk.{LayingWalk}
use Rattle.fort_target_lists.proofs.LayLaws.{laid_first}
use Rattle.fort_target_lists.proofs.SymbolPlaces.{entries_all}
use Rattle.fort_target_lists.proofs.WalkLaws.{entry_at, stop_low, stop_room, stop_place, passed_more}
use Rattle.fort_target_lists.proofs.WalkSymbols.{symbol_with, first_stop, first_stop_of, before_absent, before_present}
use Rattle.fort_target_lists.proofs.WalkTurns.{passed_below, below_first, below_next, below_last, next_stop, stop_at, stop_end}

-- the entry at a stop
stop_entry : (p : Stop) (walk : LayingWalk) (f : TupleSymbol) (latest : ℕ) → IsStopOf p walk f latest 0 0 → IsEntry p.table.signature p.table.columns p.table.presences (entry_at p f)
stop_entry p walk f latest h =
    let t = p.table in
    let e = entry_at p f in
    by_symbol_are t.signature t.columns t.presences e (subst (λ es. Contains es e) (sym h.whole) (Contains-append_right p.passed (e ∷ p.left) e (Contains-head e p.left)))

-- it is one over the labels
pub over_held : (o : Operands) (p : Stop) (h : Holding) (f : TupleSymbol) (joint : Joint) (latest : ℕ) → IsHoldingAt o p h f joint latest 0 0
    → IsOverLabels (signature_of o.first o.second) (length f) (label_of (rule_of o (length f))) h.rows.now.labels (entry_at p f)
over_held o p h f joint latest a =
    let t = p.table in
    let i = a.is_of in
    let e = entry_at p f in
    let sig = signature_of o.first o.second in
    let is_entry =
    subst (λ (s : Signature). IsEntry s t.columns (map first_word h.rows.now.labels) e) i.signature
    (subst (λ (ps : List ℕ). IsEntry t.signature t.columns ps e) i.presences (stop_entry p h.walk f latest a.stop)) in
    let all : IsOverLabels sig t.columns (label_of (rule_of o t.columns)) h.rows.now.labels e = record { entry = is_entry; are = i.labels } in
    subst (λ (n : ℕ). IsOverLabels sig n (label_of (rule_of o n)) h.rows.now.labels e) (sym a.stop.symbol.width) all

pub operands_held : (o : Operands) (p : Stop) (h : Holding) (f : TupleSymbol) (joint : Joint) (latest j n : ℕ) → IsHoldingAt o p h f joint latest j n
    → AreOperands (signature_of o.first o.second) (length f) o.first o.second
operands_held o p h f joint latest j n a = subst (λ (c : ℕ). AreOperands (signature_of o.first o.second) c o.first o.second) (sym a.stop.symbol.width) a.is_of.operands

-- its target stands at the cursor
record IsAtCursor (t : Listed) (walk : LayingWalk) (e : Entry) (cursor : ℕ) : Type 0 where
  within : cursor < length t.targets
  there : cursor < length t.entries
  is : (d : Entry) → get_or t.entries cursor d ≡ e
  target : get_or walk.targets.now cursor 0 ≡ get_or t.targets cursor 0

at_cursor : (p : Stop) (walk : LayingWalk) (f : TupleSymbol) (latest : ℕ) (cursors laid : List ℕ) → IsTrue walk.lays → IsStopOf p walk f latest 0 0 → HasPassedTo p walk.lays cursors laid
    → IsAtCursor p.table walk (entry_at p f) (get_or cursors latest 0)
at_cursor p walk f latest cursors laid b h v =
    let t = p.table in
    let e = entry_at p f in
    let k = get_or cursors latest 0 in
    let place = stop_place p walk f latest cursors laid b h v in
    let own = entries_unique t.signature t.columns t.presences t.entries h.goes.listed.order h.goes.listed.all in
    let room : k < length t.targets = omega (arith, stop_room p walk f latest cursors laid h v, ap length h.goes.targets) in
    record {
      within = room;
      there = omega (arith, room, h.goes.listed.count);
      is = λ d. ap (λ es. get_or es k d) own ∙ (ap (λ n. get_or (all_entries t.signature t.columns t.presences) n d) place ∙ entry_at_cursor t.signature t.columns t.presences p.passed p.left e h.whole d);
      target = ap (λ qs. get_or qs k 0) h.goes.targets;
    }

pub cursor_low : (o : Operands) (p : Stop) (h : Holding) (f : TupleSymbol) (joint : Joint) (latest : ℕ) (cursors : List ℕ) → IsHoldingAt o p h f joint latest 0 0 → HasHeldTo o p h cursors → latest < length cursors
cursor_low o p h f joint latest cursors a v = omega (arith, stop_low p h.walk f latest a.stop, v.cursors_are.size)

pub cursor_room : (o : Operands) (p : Stop) (h : Holding) (f : TupleSymbol) (joint : Joint) (latest : ℕ) (cursors : List ℕ) → IsHoldingAt o p h f joint latest 0 0 → HasHeldTo o p h cursors
    → get_or cursors latest 0 < length h.walk.targets.now
cursor_room o p h f joint latest cursors a v = stop_room p h.walk f latest cursors _ a.stop v.cursors_are

-- Result: one more entry is passed, whose target is right if it is held
pub held_more_of : (o : Operands) (p : Stop) (h : Holding) (f : TupleSymbol) (latest : ℕ) (cursors : List ℕ) → IsHoldingOf o p.table h → IsStopOf p h.walk f latest 0 0 → HasHeldTo o p h cursors
    → (h.from ≤ get_or cursors latest 0 → IsHeld (rule_of o p.table.columns) h.rows.now.labels (entry_at p f) (get_or h.walk.targets.now (get_or cursors latest 0) 0))
    → HasHeldBehind o p h f 0 0 (set cursors latest (get_or cursors latest 0 + 1))
held_more_of o p h f latest cursors i stop v right =
    let t = p.table in
    let e = entry_at p f in
    let target = (listed_table t).target in
    let r = rule_of o t.columns in
    let ws = h.rows.now.labels in
    let cursor = get_or cursors latest 0 in
    let at = at_cursor p h.walk f latest cursors (map target p.passed) i.lays stop v.cursors_are in
    record {
      cursors_are =
          passed_more t h.walk.lays p.begins p.passed e cursors (map target p.passed) (map target (p.passed ++ e ∷ [])) latest stop.stage_is (stop_low p h.walk f latest stop)
          (λ b. map-append target p.passed (e ∷ [])) v.cursors_are;
      held = λ k d low within there.
          ⊎_elim (v.held k d low within)
          (λ (same : e ≡ get_or t.entries k d).
          let one : k ≡ cursor = order_one t.signature t.columns t.presences t.entries k cursor d stop.goes.listed.order within at.there (sym same ∙ sym (at.is d)) in
          let own : IsHeld r ws e (get_or t.targets cursor 0) = subst (IsHeld r ws e) at.target (right (omega (arith, low, one))) in
          subst (λ (x : Entry). IsHeld r ws x (get_or t.targets k 0)) same (subst (λ (i : ℕ). IsHeld r ws e (get_or t.targets i 0)) (sym one) own))
          (Contains-push_cases p.passed e (get_or t.entries k d) there);
    }

pub held_more : (o : Operands) (p : Stop) (h : Holding) (f : TupleSymbol) (joint : Joint) (latest : ℕ) (cursors : List ℕ) → IsHoldingAt o p h f joint latest 0 0 → HasHeldTo o p h cursors
    → (h.from ≤ get_or cursors latest 0 → IsHeld (rule_of o p.table.columns) h.rows.now.labels (entry_at p f) (get_or h.walk.targets.now (get_or cursors latest 0) 0))
    → HasHeldBehind o p h f 0 0 (set cursors latest (get_or cursors latest 0 + 1))
held_more o p h f joint latest cursors a = held_more_of o p h f latest cursors a.is_of a.stop

-- the states below q have had their turn
pub record IsHeldTurn (o : Operands) (p : Stop) (h : Holding) (f : TupleSymbol) (j n q : ℕ) (cursors : List ℕ) : Type 0 where
  pub passed : HasHeld o p.table h p.begins (passed_below p f j n q) cursors
  pub high : q ≤ length p.table.presences
  pub has : q < length p.table.presences → get_or p.table.presences q 0 ≡ kid_presence p.table.signature f j

pub held_first : (o : Operands) (p : Stop) (h : Holding) (f : TupleSymbol) (j n w q : ℕ) (cursors : List ℕ) → w ≡ kid_presence p.table.signature f j → IsFirstFrom p.table.presences 0 w q
    → HasHeldTo o p h cursors → IsHeldTurn o p h f j n q cursors
held_first o p h f j n w q cursors e first v = record {
  passed = subst (λ es. HasHeld o p.table h p.begins es cursors) (below_first p f j n w q e first) v;
  high = first.high;
  has = λ l. first.has l ∙ e;
}

pub held_next : (o : Operands) (p : Stop) (h : Holding) (f : TupleSymbol) (j n q next : ℕ) (cursors more : List ℕ) → q < length p.table.presences → IsHeldTurn o p h f j n q cursors
    → IsFirstFrom p.table.presences (suc q) (get_or p.table.presences q 0) next
    → HasHeld o p.table h p.begins (passed_below p f j n q ++ entries_from p.table.signature p.table.presences f (p.kids ++ q ∷ []) (j + 1) n) more
    → IsHeldTurn o p h f j n next more
held_next o p h f j n q next cursors more l v first k = record {
  passed = subst (λ es. HasHeld o p.table h p.begins es more) (below_next p f j n q next l (v.has l) first) k;
  high = first.high;
  has = λ m. first.has m ∙ v.has l;
}

pub held_last : (o : Operands) (p : Stop) (h : Holding) (f : TupleSymbol) (j rest q : ℕ) (cursors : List ℕ) → 0 < rest → length p.table.presences ≤ q → IsHeldTurn o p h f j (rest - 1) q cursors
    → HasHeldBehind o p h f j rest cursors
held_last o p h f j rest q cursors some l v = subst (λ es. HasHeld o p.table h p.begins es cursors) (below_last p f j rest q some l v.high) v.passed

-- the stop at which one more child has state q
pub held_at : (o : Operands) (p : Stop) (h : Holding) (f : TupleSymbol) (joint : Joint) (latest j rest q next : ℕ) → 0 < rest → next ≡ max latest (q + 1) → q < length p.table.presences
    → IsHoldingAt o p h f joint latest j rest → get_or p.table.presences q 0 ≡ kid_presence p.table.signature f j
    → (tail : List Entry) × IsHoldingAt o (next_stop p f j (rest - 1) q tail) h f joint next (j + 1) (rest - 1)
held_at o p h f joint latest j rest q next some e l a has =
    let r = stop_at p h.walk f latest j rest q next some e l a.stop has in
    (r.0, record { is_of = a.is_of; stop = r.1; joint_is = a.joint_is })

-- no other child is left
pub held_end : (o : Operands) (p : Stop) (h : Holding) (f : TupleSymbol) (joint : Joint) (latest j n : ℕ) → n ≡ 0 → IsHoldingAt o p h f joint latest j n → IsHoldingAt o p h f joint latest 0 0
held_end o p h f joint latest j n e a = record { is_of = a.is_of; stop = stop_end p h.walk f latest j n e a.stop; joint_is = a.joint_is }

pub behind_end : (o : Operands) (p : Stop) (h : Holding) (f : TupleSymbol) (j n : ℕ) (cursors : List ℕ) → n ≡ 0 → HasHeldBehind o p h f 0 0 cursors → HasHeldBehind o p h f j n cursors
behind_end o p h f j n cursors e v =
    let t = p.table in
    subst (λ (m : ℕ). HasHeld o t h p.begins (p.passed ++ entries_from t.signature t.presences f p.kids j m) cursors) (sym e) v

-- the walk before a tuple symbol's entries
pub held_start : (o : Operands) (t : Listed) (begins : List ℕ) (h : Holding) (n : ℕ) (cursors : List ℕ) → IsHeldBetween o t begins h n cursors → n < h.walk.base ^ h.walk.columns
    → is_present (symbol_with t h.walk n) ≡ true → (f : TupleSymbol) → f ≡ symbol_with t h.walk n → (count : ℕ) → count ≡ symbol_kids t.signature f
    → (joint : Joint) → IsJointOf o.first o.second f joint → IsHoldingAt o (first_stop t begins n) h f joint 0 0 count
held_start o t begins h n cursors b l present f is count e joint j = record {
  is_of = b.is_of;
  stop = first_stop_of t begins h.walk n b.goes b.begin l present f is count e;
  joint_is = j;
}

-- Result: one more tuple symbol
pub held_absent : (o : Operands) (t : Listed) (begins : List ℕ) (h : Holding) (n : ℕ) (cursors : List ℕ) → IsHeldBetween o t begins h n cursors → n < h.walk.base ^ h.walk.columns
    → is_present (symbol_with t h.walk n) ≡ false → IsHeldBetween o t begins h (n + 1) cursors
held_absent o t begins h n cursors b l absent = record {
  is_of = b.is_of;
  goes = b.goes;
  begin = b.begin;
  passed = subst (λ es. HasHeld o t h begins es cursors) (sym (before_absent t h.walk n b.goes l absent)) b.passed;
}

pub held_present : (o : Operands) (t : Listed) (begins : List ℕ) (h : Holding) (n : ℕ) (cursors more : List ℕ) → IsHeldBetween o t begins h n cursors → n < h.walk.base ^ h.walk.columns
    → is_present (symbol_with t h.walk n) ≡ true → (f : TupleSymbol) → f ≡ symbol_with t h.walk n → (count : ℕ) → count ≡ symbol_kids t.signature f
    → HasHeldBehind o (first_stop t begins n) h f 0 count more → IsHeldBetween o t begins h (n + 1) more
held_present o t begins h n cursors more b l present f is count e made = record {
  is_of = b.is_of;
  goes = b.goes;
  begin = b.begin;
  passed = subst (λ es. HasHeld o t h begins es more) (before_present t h.walk n b.goes l present f is count e) made;
}

-- a table whose targets are to be held: all entries over its states
abbrev pub table_held : Signature → ℕ → List ℕ → List ℕ → Listed
table_held sig columns ps targets = record {
  signature = sig;
  columns = columns;
  presences = ps;
  entries = all_entries sig columns ps;
  targets = targets;
  finals = [];
}

pub held_covered : (sig : Signature) (columns : ℕ) (ps targets : List ℕ) → columns ≤ 16 → length targets < 2 ^ 32 → length (by_symbol sig columns ps) ≡ length targets → IsCovered (table_held sig columns ps targets)
held_covered sig columns ps targets narrow few count = record {
  narrow = narrow;
  order = all_in_order sig columns ps;
  all = all_there sig columns ps;
  count = sym count ∙ sym (length-all_entries sig columns ps);
  few = omega (arith, few);
}

-- before the first tuple symbol
pub held_begun : (o : Operands) (t : Listed) (h : Holding) (begins : List ℕ) → IsHoldingOf o t h → IsWalkOf t h.walk → AreStageBegins t begins → IsHeldBetween o t begins h 0 begins
held_begun o t h begins i goes b =
    let first = laid_first t h.walk begins goes b.size b.begin in
    record {
      is_of = i;
      goes = goes;
      begin = first.begin;
      passed = record { cursors_are = first.passed; held = λ k d low within there. absurd (Contains-none (get_or t.entries k d) there) };
    }

-- Result: behind the last one all targets are right that are held
pub held_all : (o : Operands) (t : Listed) (begins : List ℕ) (h : Holding) (count : ℕ) (cursors : List ℕ) → IsHeldBetween o t begins h count cursors → count ≡ h.walk.base ^ h.walk.columns
    → (k : ℕ) (d : Entry) → h.from ≤ k → k < length t.targets → IsHeld (rule_of o t.columns) h.rows.now.labels (get_or t.entries k d) (get_or t.targets k 0)
held_all o t begins h count cursors b all k d low l =
    let whole : count ≡ suc (length t.signature) ^ t.columns =
    all ∙ (ap (λ n. n ^ h.walk.columns) b.goes.base ∙ ap (λ c. suc (length t.signature) ^ c) b.goes.columns_are) in
    let within : k < length t.entries = omega (arith, l, b.goes.listed.count) in
    let e = get_or t.entries k d in
    let there : Contains (entries_before t count) e =
    subst (λ es. Contains es e) (sym (entries_all t count whole)) (by_symbol_has t.signature t.columns t.presences e (b.goes.listed.order.are k d within)) in
    b.passed.held k d low within there

pub held_from : (o : Operands) (sig : Signature) (columns : ℕ) (ps targets : List ℕ) (begins : List ℕ) (h : Holding) (count : ℕ) (cursors : List ℕ) → length (by_symbol sig columns ps) ≡ length targets
    → IsHeldBetween o (table_held sig columns ps targets) begins h count cursors → count ≡ h.walk.base ^ h.walk.columns → AreHeldFrom (rule_of o columns) h.from targets h.rows.now.labels
held_from o sig columns ps targets begins h count cursors size b all =
    let ws = h.rows.now.labels in
    let own : Signature = signature_of o.first o.second in
    let same : all_entries sig columns ps ≡ all_entries own columns (map first_word ws) =
    ap (λ s. all_entries s columns ps) b.is_of.signature ∙ ap (all_entries own columns) b.is_of.presences in
    record {
      count = sym size ∙ (sym (length-all_entries sig columns ps) ∙ ap length same);
      held = λ k d low l. subst (λ (es : List Entry). IsHeld (rule_of o columns) ws (get_or es k d) (get_or targets k 0)) same
          (held_all o (table_held sig columns ps targets) begins h count cursors b all k d low l);
    }

-- a state's presence is one of so many columns
pub presences_small : (o : Operands) (columns : ℕ) (labels : List (List ℕ)) (ps : List ℕ) → AreLabels (signature_of o.first o.second) columns (label_of (rule_of o columns)) labels
    → ps ≡ map first_word labels → (q : ℕ) → q < length ps → get_or ps q 0 < 2 ^ columns
presences_small o columns labels ps h e q l =
    let sig = signature_of o.first o.second in
    let low : q < length labels = omega (arith, l, ap length e, length-map labels first_word) in
    let r = h q low in
    let tells = TellsPresence-rule sig (rule_of o columns) (λ f ws. refl) r.0 r.1 in
    let is : get_or ps q 0 ≡ presence r.0 =
    ap (λ (xs : List ℕ). get_or xs q 0) e ∙ (get_or-map first_word labels q [] 0 low ∙ (ap first_word (sym r.2) ∙ tells)) in
    omega (arith, is, presence_bound r.0, ap (λ n. 2 ^ n) r.1.width)

-- such an entry has a target
pub unseen_room : (o : Operands) (t : Listed) (begins : List ℕ) (h : Holding) (n : ℕ) (cursors : List ℕ) → IsHeldBetween o t begins h n cursors → n < h.walk.base ^ h.walk.columns
    → is_present (symbol_with t h.walk n) ≡ true → (f : TupleSymbol) → f ≡ symbol_with t h.walk n → (count : ℕ) → count ≡ symbol_kids t.signature f → count ≡ 0
    → get_or cursors 0 0 < length t.targets
unseen_room o t begins h n cursors b l present f is count e none =
    let stop = stop_end (first_stop t begins n) h.walk f 0 0 count none (first_stop_of t begins h.walk n b.goes b.begin l present f is count e) in
    omega (arith, stop_room (first_stop t begins n) h.walk f 0 cursors _ stop b.passed.cursors_are, ap length b.goes.targets)

-- an entry without children is passed unseen, where its target isn't held
pub held_unseen : (o : Operands) (t : Listed) (begins : List ℕ) (h : Holding) (n : ℕ) (cursors : List ℕ) → IsHeldBetween o t begins h n cursors → n < h.walk.base ^ h.walk.columns
    → is_present (symbol_with t h.walk n) ≡ true → (f : TupleSymbol) → f ≡ symbol_with t h.walk n → (count : ℕ) → count ≡ symbol_kids t.signature f → count ≡ 0
    → get_or cursors 0 0 < h.from → IsHeldBetween o t begins h (n + 1) (set cursors 0 (get_or cursors 0 0 + 1))
held_unseen o t begins h n cursors b l present f is count e none low =
    let stop = stop_end (first_stop t begins n) h.walk f 0 0 count none (first_stop_of t begins h.walk n b.goes b.begin l present f is count e) in
    let made = held_more_of o (first_stop t begins n) h f 0 cursors b.is_of stop b.passed (λ high. absurd (omega (arith, low, high))) in
    held_present o t begins h n cursors (set cursors 0 (get_or cursors 0 0 + 1)) b l present f is count e
    (behind_end o (first_stop t begins n) h f 0 count (set cursors 0 (get_or cursors 0 0 + 1)) none made)
