use Rattle.std.proofs.Common.{◌≡◌, ℕ, List, ◌++◌, ◌∷◌, [], subst, ⊎_elim, sym, ◌∙◌}
use Rattle.std.specs.Prelude.{Contains}
use Rattle.std.proofs.lemmas.List.Elements.{Contains-push_cases}
use Rattle.fort_theory.specs.Signatures.{Signature}
use Rattle.fort_tables.specs.Entries.{Entry, IsEntry, IsNextEntry}
use Rattle.fort_tables.specs.Tables.{Listed}
use Rattle.fort_measure.specs.Samples.{AreEntries}
use Rattle.fort_measure.proofs.sample.sample.Goals as goal
use Rattle.fort_measure.proofs.sample.sample.Goals.{then-left-eq0+in_ok-push-in-Some, else-left-eq0}

next_is : (t : Listed) (sig : Signature) (n : ℕ) (ps : List ℕ) (last e : Entry) → sig ≡ t.signature → n ≡ t.columns → ps ≡ t.presences → IsNextEntry sig n ps last e → IsEntry t.signature t.columns t.presences e
next_is t sig n ps last e s c p h = subst (λ (g : Signature). IsEntry g t.columns t.presences e) s (subst (λ m. IsEntry sig m t.presences e) c (subst (λ (qs : List ℕ). IsEntry sig n qs e) p h.is_entry))

one_more : (t : Listed) (es es' : List Entry) (x : Entry) → AreEntries t es → IsEntry t.signature t.columns t.presences x → es' ≡ es ++ x ∷ [] → AreEntries t es'
one_more t es es' x h i is e c = ⊎_elim (λ a. h e a) (λ s. subst (λ (y : Entry). IsEntry t.signature t.columns t.presences y) s i) (Contains-push_cases es x e (subst (λ (ys : List Entry). Contains ys e) is c))

pub loop-preserved : goal.loop-preserved
loop-preserved c =
    let t = c.args.table.now in
    let x = next_is t c.loop.entries.signature c.loop.entries.columns c.as_slice.result.now c.loop.entries.last c.in-Some.row c.loop.invariant.signature c.loop.invariant.columns (c.as_slice.ensures.value ∙ c.in_ok-presences.ensures.all) c.in-Some.ensures.next in
    let rows : AreEntries t c.if-left-eq0.rows.items = elim c.if-left-eq0.branch [
      | then-left-eq0+in_ok-push-in-Some w ↦ (let is = w.rows-is in let items = w.in_ok-push-in-Some.ensures.items in let more : c.if-left-eq0.rows.items ≡ c.loop.rows.items ++ c.in-Some.row ∷ [] = cc in one_more t c.loop.rows.items c.if-left-eq0.rows.items c.in-Some.row c.loop.invariant.rows x more)
      | else-left-eq0 w ↦ (let is = w.rows-is in let same : c.loop.rows.items ≡ c.if-left-eq0.rows.items = cc in subst (λ (es : List Entry). AreEntries t es) same c.loop.invariant.rows)
    ] in
    record {
      signature = c.in-Some.ensures.signature ∙ c.loop.invariant.signature;
      columns = c.in-Some.ensures.columns ∙ c.loop.invariant.columns;
      rows = rows;
    }
