-- Nothing to believe: an atom with the entries of a closure as lists of numbers, from which it is read again.
use Rattle.std.specs.Prelude.{◌≡◌, ℕ, List, [], ◌∷◌, get_or, refl}
use Rattle.std.proofs.Common.{ap}
use Rattle.std.specs.Coded.{Coded, code_by, coded×, coded_list, coded_ℕ}
use Rattle.fort_theory.specs.Signatures.{Signature}
use Rattle.fort_theory.specs.SymbolCode.{signature_code}
use Rattle.fort_theory.specs.Patterns.{Pattern, Pair}
use Rattle.fort_theory.specs.PatternCode.{pattern_code}
use Rattle.fort_alike.specs.Atoms.{AtomKind, EqKind, RootKind, StepKind, BelowKind, ParKind, NfKind, StarKind, PlusKind}
use Rattle.fort_alike.specs.ListedAtoms.{ListedAtom, listed}
use Rattle.fort_findings.specs.declared.closure.ClosureEntry.{ClosureEntry}
use Rattle.fort_findings.specs.declared.closure.Reason.{Reason}
use Rattle.fort_findings.specs.declared.closure.Reason.TheVariants as reasons
use Rattle.fort_context_closure.specs.ClosedAtoms.{ClosedAtom}

abbrev pub kind_number : AtomKind → ℕ
kind_number EqKind = 0
kind_number RootKind = 1
kind_number StepKind = 2
kind_number BelowKind = 3
kind_number ParKind = 4
kind_number NfKind = 5
kind_number StarKind = 6
kind_number PlusKind = 7

abbrev pub kind_back : ℕ → AtomKind
kind_back n = get_or (EqKind ∷ RootKind ∷ StepKind ∷ BelowKind ∷ ParKind ∷ NfKind ∷ StarKind ∷ PlusKind ∷ []) n EqKind

kind_again : (kind : AtomKind) → kind_back (kind_number kind) ≡ kind
kind_again EqKind = refl
kind_again RootKind = refl
kind_again StepKind = refl
kind_again BelowKind = refl
kind_again ParKind = refl
kind_again NfKind = refl
kind_again StarKind = refl
kind_again PlusKind = refl

abbrev pub Fields : Type 0
Fields = (((Signature × List ℕ) × List Pair) × List Pattern) × List Pattern

abbrev pub fields_of : ListedAtom → Fields
fields_of a = ((((a.atom.signature, a.atom.columns ∷ a.atom.first ∷ a.atom.second ∷ kind_number a.atom.kind ∷ []), a.atom.pairs), a.lefts), a.rights)

abbrev pub from_fields : Fields → ListedAtom
from_fields p = listed (record {
  signature = p.0.0.0.0;
  columns = get_or p.0.0.0.1 0 0;
  first = get_or p.0.0.0.1 1 0;
  second = get_or p.0.0.0.1 2 0;
  kind = kind_back (get_or p.0.0.0.1 3 0);
  pairs = p.0.0.1;
}) p.0.1 p.1

pub fields_again : (a : ListedAtom) → from_fields (fields_of a) ≡ a
fields_again a = ap (λ k. listed (record {
  signature = a.atom.signature;
  columns = a.atom.columns;
  first = a.atom.first;
  second = a.atom.second;
  kind = k;
  pairs = a.atom.pairs;
}) a.lefts a.rights) (kind_again a.atom.kind)

abbrev pub listed_code : Coded ListedAtom
listed_code =
    code_by Fields
    (coded× (coded× (coded× (coded× signature_code (coded_list coded_ℕ)) (coded_list (coded× pattern_code pattern_code))) (coded_list pattern_code)) (coded_list pattern_code))
    fields_of from_fields fields_again

-- the kind of a reason, and its rule
abbrev pub why_numbers : Reason → List ℕ
why_numbers reasons.Any = 0 ∷ []
why_numbers reasons.Kids = 1 ∷ []
why_numbers (reasons.Rule k) = 2 ∷ k ∷ []

abbrev pub why_back : List ℕ → Reason
why_back ns = get_or (reasons.Any ∷ reasons.Kids ∷ reasons.Rule (get_or ns 1 0) ∷ []) (get_or ns 0 0) reasons.Any

pub why_again : (why : Reason) → why_back (why_numbers why) ≡ why
why_again reasons.Any = refl
why_again reasons.Kids = refl
why_again (reasons.Rule k) = refl

abbrev pub entry_code : Coded ClosureEntry
entry_code =
    code_by ((ℕ × ℕ) × List ℕ) (coded× (coded× coded_ℕ coded_ℕ) (coded_list coded_ℕ))
    (λ (e : ClosureEntry). ((e.p, e.q), why_numbers e.why))
    (λ w. record { p = w.0.0; q = w.0.1; why = why_back w.1 })
    (λ (e : ClosureEntry). ap (λ (why : Reason). record { p = e.p; q = e.q; why = why }) (why_again e.why))

abbrev pub atom_code : Coded ClosedAtom
atom_code =
    code_by (ListedAtom × List ClosureEntry) (coded× listed_code (coded_list entry_code))
    (λ (c : ClosedAtom). (c.atom, c.entries)) (λ w. record { atom = w.0; entries = w.1 }) (λ _. refl)
