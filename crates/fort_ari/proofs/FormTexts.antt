-- Lists of forms, and what is left of them from a number on.
use Rattle.std.proofs.Common.{◌≡◌, ℕ, zero, suc, ◌+◌, ◌<◌, ◌≤◌, List, [], ◌∷◌, length, drop, Some, refl, ap, sym, subst, arith}
use Rattle.fort_grammar.specs.Forms.{Form, Forms, NoForm, MoreForms}
use Rattle.fort_grammar.specs.Declarations.{as_list, IsFormat, IsHeaded}
use Rattle.fort_ari.specs.Parts.{BeginsHeaded, BeginsWithFormat}
use Rattle.fort_sexpr.specs.FormView.{form_at, form_count}

pub form_count-as_list : (fs : Forms) → form_count fs ≡ length (as_list fs)
form_count-as_list NoForm = refl
form_count-as_list (MoreForms f fs) = ap suc (form_count-as_list fs)

-- from the number of a form on, that form comes first
pub drop-form_at : (fs : Forms) (i : ℕ) (f : Form) → form_at fs i ≡ Some f → drop i (as_list fs) ≡ f ∷ drop (i + 1) (as_list fs)
drop-form_at fs i f e = rw add-one (go fs i e)
  where
    add-one : i + 1 ≡ suc i
    add-one = omega arith

    go : (fs : Forms) (i : ℕ) → form_at fs i ≡ Some f → drop i (as_list fs) ≡ f ∷ drop (suc i) (as_list fs)
    go NoForm i e = cc
    go (MoreForms g gs) zero e = let x : g ≡ f = cc in ap (λ h. h ∷ as_list gs) x
    go (MoreForms g gs) (suc i) e = go gs i e

pub drop-none : (fs : Forms) (i : ℕ) → form_count fs ≤ i → drop i (as_list fs) ≡ []
drop-none NoForm zero h = refl
drop-none NoForm (suc i) h = refl
drop-none (MoreForms f fs) zero h = absurd (omega arith)
drop-none (MoreForms f fs) (suc i) h = drop-none fs i (omega arith)

-- a form that comes first from a number on has that number
pub below_from_BeginsHeaded : (bytes word : List ℕ) (fs : Forms) (i : ℕ) → BeginsHeaded bytes word (drop i (as_list fs)) → i < form_count fs
below_from_BeginsHeaded bytes word NoForm zero h = absurd h
below_from_BeginsHeaded bytes word NoForm (suc i) h = absurd h
below_from_BeginsHeaded bytes word (MoreForms f fs) zero h = omega arith
below_from_BeginsHeaded bytes word (MoreForms f fs) (suc i) h = let below = below_from_BeginsHeaded bytes word fs i h in omega arith

pub headed_at : (bytes word : List ℕ) (fs : Forms) (i : ℕ) (f : Form) → BeginsHeaded bytes word (drop i (as_list fs)) → form_at fs i ≡ Some f
    → IsHeaded bytes word f
headed_at bytes word NoForm i f h e = cc
headed_at bytes word (MoreForms g fs) zero f h e = let same : g ≡ f = cc in subst (IsHeaded bytes word) same h
headed_at bytes word (MoreForms g fs) (suc i) f h e = headed_at bytes word fs i f h e

-- the format is the form of number 0
pub format_at : (bytes : List ℕ) (fs : Forms) (f : Form) (n : ℕ) → form_at fs 0 ≡ Some f
    → (IsFormat bytes f n → BeginsWithFormat bytes (as_list fs) n) × (BeginsWithFormat bytes (as_list fs) n → IsFormat bytes f n)
format_at bytes NoForm f n e = cc
format_at bytes (MoreForms g fs) f n e =
    let same : g ≡ f = cc in (λ h. subst (λ x. IsFormat bytes x n) (sym same) h, λ h. subst (λ x. IsFormat bytes x n) same h)

pub no_format : (bytes : List ℕ) (fs : Forms) (n : ℕ) → form_count fs ≡ 0 → BeginsWithFormat bytes (as_list fs) n → ⊥
no_format bytes NoForm n e h = h
no_format bytes (MoreForms f fs) n e h = absurd (omega arith)
