-- The leaders by a place's columns tell the targets; so does each state as its own leader.
use Rattle.std.proofs.Common.{◌≡◌, ℕ, ◌<◌, List, [], ◌∷◌, ◌++◌, length, get_or, refl, ap, sym, ◌∙◌, arith, subst}
use Rattle.std.proofs.lemmas.List.{get_or_default}
use Rattle.fort_tables.specs.Tuples.{TupleSymbol, kid_presence}
use Rattle.fort_tables.specs.Entries.{entry}
use Rattle.fort_tables.specs.Tables.{Table, IsTableEntry}
use Rattle.fort_target_lists.specs.Flats.{IsFlatOf}
use Rattle.fort_target_lists.specs.declared.flat.FlatTargets.{FlatTargets}
use Rattle.fort_classed_tables.specs.declared.columns.Columns.{Columns}
use Rattle.fort_classed_tables.specs.TargetColumns.{IsWithin}
use Rattle.fort_classed_tables.specs.ColumnLeaders.{AreLedStates}
use Rattle.fort_classed_tables.specs.CountedTables.{AreColumnsAt}
use Rattle.fort_classed_tables.specs.PlaceLeaders.{IsLedPlace, leader_in}
use Rattle.fort_classed_tables.proofs.KidLaws.{child_of}
use Rattle.fort_classed_tables.proofs.PlaceTargets.{same_target}

-- Result: where each state is its own leader
pub led_own : (body : Table) (f : TupleSymbol) (j : ℕ) → IsLedPlace body f j (leader_in [])
led_own body f j = record {
  least = λ q m. omega arith;
  itself = λ q m. refl;
  presence_is = λ q m. m.presence;
  goes = λ before behind q n h. refl;
}

module _ (body : Table) (flat : FlatTargets) (f : TupleSymbol) (j : ℕ) (c : Columns) (leaders : List ℕ) (h : IsFlatOf body flat) (are : AreColumnsAt body flat f j c) (within : IsWithin c)
    (led : AreLedStates c flat.spots.ranks.items body.presences (kid_presence body.signature f j) (length body.presences) leaders) where
  read : (q : ℕ) → q < length body.presences → leader_in leaders q ≡ get_or leaders q 0
  read q l = get_or_default leaders q q 0 (omega (arith, l, led.count))

  goes_by : (before behind : List ℕ) (q : ℕ) → length before ≡ j → IsTableEntry body (entry f (before ++ q ∷ behind))
      → body.target (entry f (before ++ q ∷ behind)) ≡ body.target (entry f (before ++ leader_in leaders q ∷ behind))
  goes_by before behind q n is =
      let own = child_of body f before behind q is in
      let s = led.states q own.within in
      let p : get_or body.presences q 0 ≡ kid_presence body.signature f j = own.presence ∙ ap (kid_presence body.signature f) n in
      let there : get_or body.presences (get_or leaders q 0) 0 ≡ kid_presence body.signature f (length before) = s.presence_is p ∙ ap (kid_presence body.signature f) (sym n) in
      let at : AreColumnsAt body flat f (length before) c = subst (λ i. AreColumnsAt body flat f i c) (sym n) are in
      same_target body flat f before behind c h at within q (get_or leaders q 0) is (omega (arith, s.least, own.within)) there (s.same p)
      ∙ ap (λ x. body.target (entry f (before ++ x ∷ behind))) (sym (read q own.within))

  -- Result: the leaders by columns
  pub led_place : IsLedPlace body f j (leader_in leaders)
  led_place = record {
    least = λ q m. omega (arith, read q m.within, (led.states q m.within).least);
    itself = λ q m.
        let s = led.states q m.within in
        ap (leader_in leaders) (read q m.within)
        ∙ (read (get_or leaders q 0) (omega (arith, s.least, m.within)) ∙ (s.itself ∙ sym (read q m.within)));
    presence_is = λ q m. ap (λ x. get_or body.presences x 0) (read q m.within) ∙ (led.states q m.within).presence_is m.presence;
    goes = goes_by;
  }
