-- A walk over all entries: one more entry is passed, its cursor and its target.
use Rattle.std.proofs.Common.{◌≡◌, ℕ, suc, ◌+◌, ◌<◌, ◌≤◌, List, [], ◌∷◌, ◌++◌, set, length, get_or, get_or-set_same, get_or-set_other, Bool, IsTrue, ◌==◌, refl, ap, sym, ◌∙◌, arith, subst, ⊎_elim, length-append, eq-eqb}
use Rattle.std.proofs.lemmas.Bool.{cases_eq}
use Rattle.std.proofs.lemmas.List.{length-set, length-map, map-append, get_or_default}
use Rattle.std.proofs.lemmas.List.Elements.{filter-append}
use Rattle.fort_tables.specs.Tuples.{TupleSymbol}
use Rattle.fort_tables.specs.Entries.{Entry, entry, stage, no_entry}
use Rattle.fort_tables.specs.Tables.{Listed, listed_table}
use Rattle.fort_tables.proofs.EqualTests.{test_from_apart}
use Rattle.fort_tables.proofs.EntryLaws.{target_found}
use Rattle.fort_tables.proofs.OrderLaws.{order_one}
use Rattle.fort_tables.specs.Laid.{in_stage, start_of}
use Rattle.fort_tables.proofs.AllEntries.{entries_unique, entry_at_cursor, cursor_within, entry_stage}
use Rattle.fort_tables.proofs.Counts.{length-all_entries}
use Rattle.fort_tables.proofs.BySymbol.{by_symbol_are}
use Rattle.fort_target_lists.specs.Walks.{entries_of, IsCovered, HasPassed, Stop, IsStopOf, HasPassedTo}
use Rattle.fort_target_lists.specs.declared.walk.LayingWalk.{LayingWalk}
use Rattle.std.specs.Prelude.{Contains}
use Rattle.std.proofs.lemmas.List.Elements.{Contains-append_right}
use Rattle.fort_theory.proofs.Members.{Contains-head}

-- one more entry of a stage, and of another one
pub stage_keeps : (s : ℕ) (e : Entry) (es : List Entry) → stage e.kids ≡ s → in_stage s (e ∷ es) ≡ e ∷ in_stage s es
stage_keeps s e es h = rw (eq-eqb (stage e.kids) s h) refl

pub stage_skips : (s : ℕ) (e : Entry) (es : List Entry) → (stage e.kids ≡ s → ⊥) → in_stage s (e ∷ es) ≡ in_stage s es
stage_skips s e es h = rw (test_from_apart (stage e.kids) s h) refl

in_stage_with : (s : ℕ) (xs ys : List Entry) (e : Entry) → stage e.kids ≡ s → length (in_stage s (xs ++ e ∷ ys)) ≡ length (in_stage s xs) + suc (length (in_stage s ys))
in_stage_with s xs ys e h =
    omega (
      arith,
      ap length (filter-append (λ (x : Entry). stage x.kids == s) xs (e ∷ ys)),
      length-append (in_stage s xs) (in_stage s (e ∷ ys)),
      ap length (stage_keeps s e ys h),
    )

in_stage_without : (s : ℕ) (xs : List Entry) (e : Entry) → (stage e.kids ≡ s → ⊥) → length (in_stage s (xs ++ e ∷ [])) ≡ length (in_stage s xs)
in_stage_without s xs e h =
    omega (
      arith,
      ap length (filter-append (λ (x : Entry). stage x.kids == s) xs (e ∷ [])),
      length-append (in_stage s xs) (in_stage s (e ∷ [])),
      ap length (stage_skips s e [] h),
    )

-- one more entry is passed
pub passed_more : (t : Listed) (lays : Bool) (begins : List ℕ) (xs : List Entry) (e : Entry) (cursors laid more : List ℕ) (s : ℕ) → s ≡ stage e.kids → s ≤ length t.presences
    → (IsTrue lays → more ≡ laid ++ (listed_table t).target e ∷ []) → HasPassed t lays begins xs cursors laid
    → HasPassed t lays begins (xs ++ e ∷ []) (set cursors s (get_or cursors s 0 + 1)) more
passed_more t lays begins xs e cursors laid more s is low here h = record {
  size = length-set cursors s (get_or cursors s 0 + 1) ∙ h.size;
  cursor = λ r l. ⊎_elim
      (λ (o : r ≡ s).
      let at : get_or (set cursors s (get_or cursors s 0 + 1)) r 0 ≡ get_or cursors s 0 + 1 =
      ap (λ z. get_or (set cursors s (get_or cursors s 0 + 1)) z 0) o ∙ get_or-set_same cursors s (get_or cursors s 0 + 1) 0 (omega (arith, h.size)) in
      omega (arith, at, h.cursor r l, ap (λ z. get_or cursors z 0) o, in_stage_with r xs [] e (sym is ∙ sym o)))
      (λ (o : r ≡ s → ⊥).
      omega (arith, get_or-set_other cursors s r (get_or cursors s 0 + 1) 0 o, h.cursor r l, in_stage_without r xs e (λ z. o (sym z ∙ sym is))))
      (cases_eq r s);
  laid_are = λ b.
      here b ∙ (ap (λ qs. qs ++ (listed_table t).target e ∷ []) (h.laid_are b) ∙ sym (map-append (listed_table t).target xs (e ∷ [])));
}

-- the entry at a stop without other children
abbrev pub entry_at : Stop → TupleSymbol → Entry
entry_at p f = entry f p.kids

pub stop_low : (p : Stop) (walk : LayingWalk) (f : TupleSymbol) (latest : ℕ) → IsStopOf p walk f latest 0 0 → latest ≤ length p.table.presences
stop_low p walk f latest h =
    let t = p.table in
    let e = entry_at p f in
    let there : Contains (entries_of t) e = subst (λ es. Contains es e) (sym h.whole) (Contains-append_right p.passed (e ∷ p.left) e (Contains-head e p.left)) in
    omega (arith, h.stage_is, entry_stage t.signature t.columns t.presences e (by_symbol_are t.signature t.columns t.presences e there))

pub stop_room : (p : Stop) (walk : LayingWalk) (f : TupleSymbol) (latest : ℕ) (cursors laid : List ℕ) → IsStopOf p walk f latest 0 0 → HasPassedTo p walk.lays cursors laid
    → get_or cursors latest 0 < length walk.targets.now
stop_room p walk f latest cursors laid h v =
    let low = stop_low p walk f latest h in
    omega (
      arith,
      v.cursor latest low,
      h.begin.room latest low,
      ap (λ es. length (in_stage latest es)) h.whole,
      in_stage_with latest p.passed p.left (entry_at p f) (sym h.stage_is),
      ap length h.goes.targets,
    )

-- the targets laid are fewer than all
pub stop_laid : (p : Stop) (walk : LayingWalk) (f : TupleSymbol) (latest : ℕ) (cursors laid : List ℕ) → IsTrue walk.lays → IsStopOf p walk f latest 0 0 → HasPassedTo p walk.lays cursors laid
    → length laid < length walk.targets.now
stop_laid p walk f latest cursors laid b h v =
    let t = p.table in
    let own = entries_unique t.signature t.columns t.presences t.entries h.goes.listed.order h.goes.listed.all in
    omega (
      arith,
      ap length (v.laid_are b),
      length-map p.passed (listed_table t).target,
      ap length h.whole,
      length-append p.passed (entry_at p f ∷ p.left),
      length-all_entries t.signature t.columns t.presences,
      ap length own,
      h.goes.listed.count,
      ap length h.goes.targets,
    )

-- the target beside an entry is the one at its place
covered_target : (t : Listed) (k : ℕ) → IsCovered t → k < length t.targets → (listed_table t).target (get_or t.entries k (no_entry t.columns)) ≡ get_or t.targets k 0
covered_target t k h l =
    let e = get_or t.entries k (no_entry t.columns) in
    let within : k < length t.entries = omega (arith, h.count) in
    let is : get_or t.entries k e ≡ e = get_or_default t.entries k e (no_entry t.columns) within in
    let f = target_found t.entries t.targets e k within is (omega (arith, h.count)) in
    let same : f.place ≡ k = order_one t.signature t.columns t.presences t.entries f.place k e h.order f.within within (f.is ∙ sym is) in
    f.target ∙ ap (λ i. get_or t.targets i 0) same

pub stop_place : (p : Stop) (walk : LayingWalk) (f : TupleSymbol) (latest : ℕ) (cursors laid : List ℕ) → IsTrue walk.lays → IsStopOf p walk f latest 0 0 → HasPassedTo p walk.lays cursors laid
    → get_or cursors latest 0 ≡ start_of (entries_of p.table) (stage p.kids) + length (in_stage (stage p.kids) p.passed)
stop_place p walk f latest cursors laid b h v =
    let low = stop_low p walk f latest h in
    v.cursor latest low
    ∙ (ap (λ n. n + length (in_stage latest p.passed)) (h.begin.own b latest low)
    ∙ ap (λ r. start_of (entries_of p.table) r + length (in_stage r p.passed)) h.stage_is)

pub stop_target : (p : Stop) (walk : LayingWalk) (f : TupleSymbol) (latest : ℕ) (cursors laid : List ℕ) → IsTrue walk.lays → IsStopOf p walk f latest 0 0 → HasPassedTo p walk.lays cursors laid
    → get_or walk.targets.now (get_or cursors latest 0) 0 ≡ (listed_table p.table).target (entry_at p f)
stop_target p walk f latest cursors laid b h v =
    let t = p.table in
    let e = entry_at p f in
    let s = stage p.kids in
    let k = start_of (entries_of t) s + length (in_stage s p.passed) in
    let at : get_or cursors latest 0 ≡ k = stop_place p walk f latest cursors laid b h v in
    let own = entries_unique t.signature t.columns t.presences t.entries h.goes.listed.order h.goes.listed.all in
    let there = entry_at_cursor t.signature t.columns t.presences p.passed p.left e h.whole (no_entry t.columns) in
    let low_all = cursor_within t.signature t.columns t.presences p.passed p.left e h.whole in
    let within : k < length t.targets = omega (arith, low_all, ap length own, h.goes.listed.count) in
    ap (λ n. get_or walk.targets.now n 0) at
    ∙ (ap (λ qs. get_or qs k 0) h.goes.targets
    ∙ (sym (covered_target t k h.goes.listed within)
    ∙ ap (listed_table t).target (ap (λ es. get_or es k (no_entry t.columns)) own ∙ there)))
