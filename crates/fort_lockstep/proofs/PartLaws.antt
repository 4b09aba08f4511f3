-- A table whose parts are those of a listed one is that one, by all entries and by what its list has for them.
use Rattle.std.proofs.Common.{◌≡◌, ℕ, List, Bool, ap, refl, sym, ◌∙◌, subst}
use Rattle.fort_theory.specs.Signatures.{Signature}
use Rattle.fort_tables.specs.Tables.{Listed, listed_table, IsListed}
use Rattle.fort_table.specs.declared.entry_list.EntryList.{EntryList}
use Rattle.fort_target_lists.specs.TargetLists.{IsTargetListOf}
use Rattle.fort_target_lists.specs.declared.target_list.TargetList.{TargetList}
use Rattle.fort_lockstep.specs.Fronts.{whole_of, targets_in}
use Rattle.fort_lockstep.specs.DtaInside.{AreFirstRows}
use Rattle.fort_lockstep.specs.TableParts.{IsMadeOf}
use Rattle.fort_lockstep.proofs.FrontLaws.{whole_from, targets_read}

-- all entries over the states, with the targets that the list has for them
abbrev pub listed_by : Signature → ℕ → List ℕ → List Bool → TargetList → Listed
listed_by sig columns presences finals l = record {
  signature = sig;
  columns = columns;
  presences = presences;
  entries = whole_of sig columns presences;
  targets = targets_in l (whole_of sig columns presences);
  finals = finals;
}

pub listed_is : (t : Listed) (sig : Signature) (columns : ℕ) (presences : List ℕ) (rows : EntryList) (finals : List Bool) (l : TargetList) → IsMadeOf t sig columns presences rows finals
    → IsTargetListOf (listed_table t) l → listed_by sig columns presences finals l ≡ t
listed_is t sig columns presences rows finals l h is =
    let e : t.entries ≡ whole_of t.signature t.columns t.presences = whole_from t.signature t.columns t.presences t.entries h.listed.order h.listed.all in
    let own : whole_of sig columns presences ≡ t.entries = (λ i. whole_of (h.signature i) (h.columns_are i) (h.presences_are i)) ∙ sym e in
    let q : t.targets ≡ targets_in l t.entries = targets_read (listed_table t) t.entries t.targets l h.listed.order h.listed.count (λ x. refl) is in
    let r : targets_in l (whole_of sig columns presences) ≡ t.targets = ap (targets_in l) own ∙ sym q in
    λ i. record { signature = h.signature i; columns = h.columns_are i; presences = h.presences_are i; entries = own i; targets = r i; finals = h.finals_are i }

-- what is so of it
pub record IsListedBy (t : Listed) (l : TargetList) (rows : EntryList) : Type 0 where
  pub listed : IsListed t
  pub list : IsTargetListOf (listed_table t) l
  pub firsts : AreFirstRows t rows

pub listed_all : (t : Listed) (sig : Signature) (columns : ℕ) (presences : List ℕ) (rows : EntryList) (finals : List Bool) (l : TargetList) → IsMadeOf t sig columns presences rows finals
    → IsTargetListOf (listed_table t) l → IsListedBy (listed_by sig columns presences finals l) l rows
listed_all t sig columns presences rows finals l h is =
    let own : IsListedBy t l rows = record { listed = h.listed; list = is; firsts = h.first_rows } in
    subst (λ (x : Listed). IsListedBy x l rows) (sym (listed_is t sig columns presences rows finals l h is)) own
