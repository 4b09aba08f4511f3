-- How the forms of a text fall into declarations, rules and what is behind.
use Rattle.std.proofs.Common.{◌≡◌, ℕ, List, [], ◌∷◌, ◌++◌, inl, inr, refl, ap, sym, ◌∙◌, subst, append_assoc}
use Rattle.std.specs.Prelude.{codes}
use Rattle.std.specs.List.{AllByRecursion}
use Rattle.fort_grammar.specs.Forms.{Form}
use Rattle.fort_grammar.specs.Declarations.{IsHeaded}
use Rattle.fort_grammar.specs.ProblemForms.{BeginsOtherwise, FallsInto}
use Rattle.fort_ari.proofs.Heads.{IsHeaded-cases}

pub AllByRecursion-append : {A : Type 0} (P : A → Type 0) (xs ys : List A) → AllByRecursion P xs → AllByRecursion P ys → AllByRecursion P (xs ++ ys)
AllByRecursion-append P [] ys g h = h
AllByRecursion-append P (a ∷ xs) ys g h = (g.0, AllByRecursion-append P xs ys g.1 h)

-- the forms that come headed so, and what is behind them
pub record Run (bytes word : List ℕ) (fs : List Form) : Type 0 where
  pub front : List Form
  pub back : List Form
  pub is : fs ≡ front ++ back
  pub headed : AllByRecursion (IsHeaded bytes word) front
  pub otherwise : BeginsOtherwise bytes word back

pub run : (bytes word : List ℕ) (fs : List Form) → Run bytes word fs
run bytes word [] = record { front = []; back = []; is = refl; headed = tt; otherwise = tt }
run bytes word (f ∷ fs) =
    let rest = run bytes word fs in
    elim (IsHeaded-cases bytes word f) [
      | inl here ↦ record {
        front = f ∷ rest.front;
        back = rest.back;
        is = ap (λ gs. f ∷ gs) rest.is;
        headed = (here, rest.headed);
        otherwise = rest.otherwise;
      }
      | inr other ↦ record { front = []; back = f ∷ fs; is = refl; headed = tt; otherwise = other }
    ]

-- what is behind the declarations falls into rules and the rest
pub record FallsOn (bytes : List ℕ) (forms : List Form) (first : Form) (declarations : List Form) : Type 0 where
  pub rules : List Form
  pub behind : List Form
  pub falls : FallsInto bytes forms first declarations rules behind

pub falls_on : (bytes : List ℕ) (forms : List Form) (first : Form) (declarations back : List Form) → forms ≡ first ∷ (declarations ++ back)
    → AllByRecursion (IsHeaded bytes (codes "fun")) declarations → BeginsOtherwise bytes (codes "fun") back → FallsOn bytes forms first declarations
falls_on bytes forms first declarations back e headed otherwise =
    let r = run bytes (codes "rule") back in
    record {
      rules = r.front;
      behind = r.back;
      falls = record {
        is = e ∙ ap (λ gs. first ∷ (declarations ++ gs)) r.is;
        declare = headed;
        declared = subst (BeginsOtherwise bytes (codes "fun")) r.is otherwise;
        rule = r.headed;
        ruled = r.otherwise;
      };
    }

-- one form between others
pub append_one : (xs ys zs : List Form) (f : Form) → xs ++ (f ∷ (ys ++ zs)) ≡ (xs ++ f ∷ ys) ++ zs
append_one xs ys zs f = sym (append_assoc xs (f ∷ ys) zs)
