-- The choices of leaders under a tuple symbol are the child states of the leading entries of the newest state's stage.
use Rattle.std.proofs.Common.{◌≡◌, ℕ, suc, ◌<◌, List, length, arith, subst, sym, false}
use Rattle.std.specs.Prelude.{Contains}
use Rattle.fort_theory.specs.Signatures.{Signature}
use Rattle.fort_theory.proofs.Members.{Contains-filter, Contains-from_filter}
use Rattle.fort_tables.specs.Tuples.{TupleSymbol, IsTupleSymbol}
use Rattle.fort_tables.specs.Entries.{entry, stage}
use Rattle.fort_classes.specs.Leaders.{Leaders, IsLeading}
use Rattle.fort_entry_walk.specs.WalkPlaces.{wants}
use Rattle.fort_entry_walk.specs.Walks.{kid_lists}
use Rattle.fort_entry_walk.proofs.InLaws.{Contains-from_In, In-from_Contains}
use Rattle.fort_entry_walk.proofs.EntryMembers.{In-stage_kids, from_stage_kids}
use Rattle.fort_leading_walk.specs.Choices.{choices}
use Rattle.fort_leading_walk.specs.LeaderStates.{all_lead, leader_states}
use Rattle.fort_leading_walk.proofs.LeadingChoices.{choices_lead}
use Rattle.fort_leading_walk.proofs.LeadTests.{leads_from_test, test_from_leads}

pub record IsLeadingAt (sig : Signature) (columns : ℕ) (ps : List ℕ) (lead : Leaders) (f : TupleSymbol) (m : ℕ) (ks : List ℕ) : Type 0 where
  pub leading : IsLeading sig columns ps lead (entry f ks)
  pub stage_is : stage ks ≡ suc m

-- Result: each choice is of a leading entry
pub leading_from_choice : (sig : Signature) (columns : ℕ) (ps : List ℕ) (lead : Leaders) (f : TupleSymbol) (m : ℕ) (ks : List ℕ) → IsTupleSymbol sig columns f → m < length ps → Contains (choices m (leader_states lead f ps m 0 (wants sig f)) false) ks → IsLeadingAt sig columns ps lead f m ks
leading_from_choice sig columns ps lead f m ks symbol l h =
    let lists = kid_lists ps m (wants sig f) false in
    let c = subst (λ (all : List (List ℕ)). Contains all ks) (choices_lead lead f ps m 0 (wants sig f) false) h in
    let r = Contains-from_filter (all_lead lead f 0) lists ks c in
    let at = from_stage_kids sig f ps ks (suc m) (omega arith) (In-from_Contains ks lists r.0) in
    record {
      leading = record {
        entry = record { symbol = symbol; count = at.kids.count; within = at.kids.within; presence = at.kids.presence };
        leads = leads_from_test lead (entry f ks) r.1;
      };
      stage_is = at.stage_is;
    }

-- Result: and each leading entry is a choice
pub choice_from_leading : (sig : Signature) (columns : ℕ) (ps : List ℕ) (lead : Leaders) (f : TupleSymbol) (m : ℕ) (ks : List ℕ) → IsLeadingAt sig columns ps lead f m ks → Contains (choices m (leader_states lead f ps m 0 (wants sig f)) false) ks
choice_from_leading sig columns ps lead f m ks h =
    let e = h.leading.entry in
    let lists = kid_lists ps m (wants sig f) false in
    let c = Contains-from_In ks lists (In-stage_kids sig f ps ks (suc m) (record { count = e.count; within = e.within; presence = e.presence }) h.stage_is) in
    subst (λ (all : List (List ℕ)). Contains all ks) (sym (choices_lead lead f ps m 0 (wants sig f) false))
    (Contains-filter (all_lead lead f 0) lists ks c (test_from_leads lead (entry f ks) h.leading.leads))
