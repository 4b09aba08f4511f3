-- The exploration of leading entries goes on entry by entry, and what it has at its end.
use Rattle.std.proofs.Common.{◌≡◌, ℕ, ◌+◌, ◌≤◌, List, length, true, false, refl, ap, sym, arith, subst}
use Rattle.std.proofs.lemmas.List.{length_push}
use Rattle.fort_theory.specs.Signatures.{Signature}
use Rattle.fort_tables.specs.Entries.{Entry, IsEntry}
use Rattle.fort_tables.specs.Tables.{Made, IsGiven}
use Rattle.fort_tables.specs.Labels.{Labelling}
use Rattle.fort_classes.specs.Keys.{leaders_by}
use Rattle.fort_classes.proofs.KeyLaws.{AreLabelLeaders-by}
use Rattle.fort_leading_tables.specs.LeadingMaking.{Turned, IsMakerOf, IsDueIn, IsTargetOf, given}
use Rattle.fort_leading_tables.specs.declared.leading_maker.LeadingMaker.{LeadingMaker}
use Rattle.fort_explore.specs.Exploring.{IsReady, IsPlaced}
use Rattle.fort_explore.specs.LeadingLoops.{IsLeadingLoop, IsLeadingEnd}
use Rattle.fort_explore.proofs.ExploreLaws.{exploring_ready}
use Rattle.fort_explore.proofs.LeadingLaws.{leading_give}

-- the maker's next table is the one before with the entry given
given_is : (m : Made) (e : Entry) (q : ℕ) → IsGiven m e q (given m e q)
given_is m e q = record { signature = refl; columns_are = refl; entries = refl; targets = refl; presences = refl }

module _ (sig : Signature) (n : ℕ) (label : Labelling) (t : Turned) (labels : List (List ℕ)) (fs : List Entry) (a : LeadingMaker) (x : IsLeadingLoop sig n label t labels fs a) where
  -- the row is an entry over the states so far, where it is due
  due_row_entry : a.is_due ≡ true → IsEntry x.made.signature x.made.columns x.made.presences a.row
  due_row_entry h = (subst (IsDueIn t labels x.made a) h x.maker.due).next.among.entry

  -- Result: the due entry is ready for its label
  pub loop_ready : (e : Entry) → e ≡ a.row → a.is_due ≡ true → IsReady sig n label fs labels e
  loop_ready e is h = subst (IsReady sig n label fs labels) (sym is) (exploring_ready sig n label x.made fs labels a.row x.exploring.exploring (due_row_entry h))

  -- Result: the loop's end
  pub loop_end : (cap : ℕ) → a.is_due ≡ false → length labels ≤ cap → IsLeadingEnd sig n label t labels fs a cap
  loop_end cap h few = record {
    made = x.made;
    maker = x.maker;
    whole = record { exploring = x.exploring; complete = subst (IsDueIn t labels x.made a) h x.maker.due; few = few };
  }

  module _ (fs' : List Entry) (labels' : List (List ℕ)) (e : Entry) (q : ℕ) (is : e ≡ a.row) (p : IsPlaced sig n label labels labels' fs fs' e q) where
    -- Result: the state of the entry's label is a target for the due row
    pub loop_target : IsTargetOf labels labels' a.row q
    loop_target = subst (λ (y : Entry). IsTargetOf labels labels' y q) is (record { within = p.within; word = p.word; old_or_new = p.old_or_new })

    -- Result: the loop's step, where the maker has given the due entry this target
    pub loop_given : (t' : Turned) (a' : LeadingMaker) → a.is_due ≡ true → IsMakerOf t' labels' (given x.made a.row q) a' → IsLeadingLoop sig n label t' labels' fs' a'
    loop_given t' a' h k =
        let m = given x.made a.row q in
        let placed : IsPlaced sig n label labels labels' fs fs' a.row q = subst (λ (y : Entry). IsPlaced sig n label labels labels' fs fs' y q) is p in
        record {
          made = m;
          signature = x.signature;
          columns_are = x.columns_are;
          exploring = leading_give sig n label t.keys t'.keys (leaders_by t.keys labels) (leaders_by t'.keys labels') x.made m fs fs' labels labels' a.row q x.exploring (due_row_entry h) placed (given_is x.made a.row q) (AreLabelLeaders-by sig n t'.keys labels');
          maker = k;
        }

  -- Result: the step makes one more target
  pub loop_grows : (t' : Turned) (labels' : List (List ℕ)) (a' : LeadingMaker) (q : ℕ) → IsMakerOf t' labels' (given x.made a.row q) a' → length a'.targets.targets.items ≡ length a.targets.targets.items + 1
  loop_grows t' labels' a' q k = omega (arith, ap length x.maker.targets_are.targets, ap length k.targets_are.targets, length_push x.made.targets q)
