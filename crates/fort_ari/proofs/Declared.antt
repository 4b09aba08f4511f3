-- Declarations that are read one by one.
use Rattle.std.proofs.Common.{◌≡◌, ℕ, ◌+◌, List, [], ◌∷◌, ◌++◌, drop, refl, ap, sym, ◌∙◌, subst, arith, length-append}
use Rattle.std.specs.Prelude.{bytes_eq, codes, is_some, Option, Some, None, IfSome, IfNone, true, false}
use Rattle.std.specs.List.{IsDistinct}
use Rattle.std.proofs.lemmas.Cmp.{nat_list_eq_equiv}
use Rattle.std.proofs.lemmas.List.{map-append}
use Rattle.std.proofs.lemmas.Map.Keys.{IsDistinct-push}
use Rattle.fort_theory.specs.Signatures.{Symbol, Signature, HasConstant, IsName, names_of, symbol}
use Rattle.fort_theory.proofs.SignaturesLaws.{list_any-bytes_eq_none}
use Rattle.fort_grammar.specs.Forms.{Form}
use Rattle.fort_grammar.specs.Declarations.{IsArity, IsListOfWords, Declares, DeclareEach, AreDeclarations, IsHeaded, IsBadDeclaration, ProblemFault, NoConstant, NoFormat}
use Rattle.fort_grammar.specs.ProblemForms.{IsFirstProblemFault, InDeclaration, WithoutConstant, WithoutForms, WithoutFormat}
use Rattle.fort_ari.specs.Parts.{BeginsWithFormat, HasFormat}
use Rattle.fort_ari.specs.Reading.{DeclaresNext, DeclareUpTo, AreDeclared}
use Rattle.fort_ari.proofs.Parts.{AllByRecursion-append, run, falls_on, append_one}

DeclareEach-push : (bytes : List ℕ) (fs : List Form) (signature : Signature) (f : Form) (s : Symbol) → DeclareEach bytes fs signature
    → Declares bytes f s → DeclareEach bytes (fs ++ f ∷ []) (signature ++ s ∷ [])
DeclareEach-push bytes [] [] f s h d = (d, tt)
DeclareEach-push bytes [] (t ∷ ss) f s h d = absurd h
DeclareEach-push bytes (g ∷ fs) [] f s h d = absurd h
DeclareEach-push bytes (g ∷ fs) (t ∷ ss) f s h d = (h.0, DeclareEach-push bytes fs ss f s h.1 d)

AreDeclarations-nil : (bytes : List ℕ) → AreDeclarations bytes [] []
unfolding IsDistinct
AreDeclarations-nil bytes = record { each = tt; distinct = tt; few = omega arith }

AreDeclarations-push : (bytes : List ℕ) (fs : List Form) (f : Form) (old new : Signature) → AreDeclarations bytes fs old → DeclaresNext bytes f old new
    → AreDeclarations bytes (fs ++ f ∷ []) new
AreDeclarations-push bytes fs f old new h d =
    let one : Signature = old ++ d.next ∷ [] in
    let names : names_of one ≡ names_of old ++ d.next.name ∷ [] = map-append _ old (d.next ∷ []) in
    subst (AreDeclarations bytes (fs ++ f ∷ [])) (sym d.is) (record {
      each = DeclareEach-push bytes fs old f d.next h.each d.declares;
      distinct = subst (IsDistinct bytes_eq) (sym names) (IsDistinct-push nat_list_eq_equiv (names_of old) d.next.name h.distinct
          (list_any-bytes_eq_none _ _ d.fresh));
      few = let below = d.few in omega (arith, length-append old (d.next ∷ []));
    })

pub declares_more : (bytes : List ℕ) (forms : List Form) (old new : Signature) (next : ℕ) (f : Form) → DeclareUpTo bytes forms old next
    → drop next forms ≡ f ∷ drop (next + 1) forms → IsHeaded bytes (codes "fun") f → DeclaresNext bytes f old new
    → DeclareUpTo bytes forms new (next + 1)
declares_more bytes forms old new next f u e headed d = record {
  declarations = u.declarations ++ f ∷ [];
  is = u.is ∙ ap (λ gs. u.declarations ++ gs) e ∙ append_one u.declarations [] (drop (next + 1) forms) f;
  count = let so_far = u.count in omega (arith, length-append u.declarations (f ∷ []));
  headed = AllByRecursion-append (IsHeaded bytes (codes "fun")) u.declarations (f ∷ []) u.headed (headed, tt);
  declares = AreDeclarations-push bytes u.declarations f old new u.declares d;
}

pub fault_in_declaration : (bytes : List ℕ) (forms : List Form) (signature : Signature) (next : ℕ) (f : Form) (fault : ProblemFault)
    → HasFormat bytes forms → DeclareUpTo bytes forms signature next → drop next forms ≡ f ∷ drop (next + 1) forms
    → IsHeaded bytes (codes "fun") f → IsBadDeclaration bytes signature next f fault → IsFirstProblemFault bytes forms fault
fault_in_declaration bytes [] signature next f fault format u e headed bad = absurd format.1
fault_in_declaration bytes (first ∷ others) signature next f fault format u e headed bad =
    let forms : List Form = first ∷ others in
    let before = u.declarations in
    let r = run bytes (codes "fun") (drop (next + 1) forms) in
    let whole : others ≡ (before ++ f ∷ r.front) ++ r.back =
    u.is ∙ ap (λ gs. before ++ gs) e ∙ ap (λ gs. before ++ f ∷ gs) r.is ∙ append_one before r.front r.back f in
    let parts = falls_on bytes forms first (before ++ f ∷ r.front) r.back (ap (λ gs. first ∷ gs) whole)
    (AllByRecursion-append (IsHeaded bytes (codes "fun")) before (f ∷ r.front) u.headed (headed, r.headed)) r.otherwise in
    InDeclaration first format.0 (before ++ f ∷ r.front) parts.rules parts.behind before r.front f signature fault parts.falls format.1 refl u.declares
    (subst (λ i. IsBadDeclaration bytes signature i f fault) u.count bad)

pub fault_without_constant : (bytes : List ℕ) (forms : List Form) (signature : Signature) (next : ℕ)
    → HasFormat bytes forms → AreDeclared bytes forms signature next → (HasConstant signature → ⊥) → IsFirstProblemFault bytes forms NoConstant
fault_without_constant bytes [] signature next format d none = absurd format.1
fault_without_constant bytes (first ∷ others) signature next format d none =
    let forms : List Form = first ∷ others in
    let u = d.up_to in
    let parts = falls_on bytes forms first u.declarations (drop next forms) (ap (λ gs. first ∷ gs) u.is) u.headed d.ended in
    WithoutConstant first format.0 u.declarations parts.rules parts.behind signature parts.falls format.1 u.declares none

-- a form of three words of which the first is `fun`
pub Declares-words : (bytes : List ℕ) (f : Form) (name arity : List ℕ) (n : ℕ) → IsListOfWords bytes f (codes "fun" ∷ name ∷ arity ∷ [])
    → IsName name → IsArity arity n → Declares bytes f (symbol name n)
Declares-words bytes f name arity n words named is =
    record { words = subst (λ w. IsListOfWords bytes f (codes "fun" ∷ name ∷ w ∷ [])) is.1 words; named = named; small = is.0 }

pub fault_without_format : (bytes : List ℕ) (forms : List Form) → ((n : ℕ) → BeginsWithFormat bytes forms n → ⊥) → IsFirstProblemFault bytes forms NoFormat
fault_without_format bytes [] none = WithoutForms refl
fault_without_format bytes (first ∷ others) none = WithoutFormat first others refl none

-- what a look-up says of what it finds, and of what it doesn't
pub some_from_is_some : {A : Type 0} {P : A → Type 0} (o : Option A) → is_some o ≡ true → IfSome o P → (x : A) × P x
some_from_is_some None e h = absurd cc
some_from_is_some (Some x) e h = (x, h)

pub none_from_is_some : {A : Type 0} {P : Type 0} (o : Option A) → is_some o ≡ false → IfNone o P → P
none_from_is_some None e h = h
none_from_is_some (Some x) e h = absurd cc
