-- A list of pairs has at most one outcome.
use Rattle.std.proofs.Common.{◌≡◌, ℕ, ◌<◌, List, length, take, get_or, refl, ap, arith, subst, ⊎_elim}
use Rattle.std.proofs.lemmas.Bool.{cases_lt}
use Rattle.std.proofs.lemmas.List.{get_or_default}
use Rattle.fort_alike.specs.ListedClosures.{Pair as Item}
use Rattle.fort_certificate_theory.specs.Outcomes.{StepOutcome, Fine, Fails, Range, Unfounded, Open}
use Rattle.fort_certificate_theory.specs.ClosureSteps.{ClosureRules, IsListed, FollowsAt, IsWithin, IsFounded, AreFounded, number, IsClosedBelow, IsClosed, IsClosureOutcome, IsRight, NotWithin, NotFounded, NotClosed}

-- why the check stops at an entry
data Stop (c : ClosureRules) (items : List Item) (i : ℕ) : StepOutcome → Type 0 where
  AtRange : (d : Item) → i < length items → (IsWithin c (get_or items i d) → ⊥) → Stop c items i (Fails i Range)
  AtUnfounded : (d : Item) → i < length items → IsWithin c (get_or items i d) → (IsFounded c (take i items) (get_or items i d) → ⊥) → Stop c items i (Fails i Unfounded)
  AtOpen : (p q : ℕ) → i ≡ length items → p < length c.rights → q < length c.lefts → FollowsAt c items p q → (IsListed items p q → ⊥) → IsClosedBelow c items (number c p q) → Stop c items i (Fails (number c p q) Open)
  AtEnd : i ≡ length items → IsClosed c items → Stop c items i Fine

record Stopped (c : ClosureRules) (items : List Item) (o : StepOutcome) : Type 0 where
  place : ℕ
  founded : AreFounded c items place
  stop : Stop c items place o

stopped : (c : ClosureRules) (items : List Item) (o : StepOutcome) → IsClosureOutcome c items o → Stopped c items o
stopped c items o (IsRight h k) = record { place = length items; founded = h; stop = AtEnd refl k }
stopped c items o (NotWithin i d h l other) = record { place = i; founded = h; stop = AtRange d l other }
stopped c items o (NotFounded i d h l w other) = record { place = i; founded = h; stop = AtUnfounded d l w other }
stopped c items o (NotClosed p q h l m f other below) = record { place = length items; founded = h; stop = AtOpen p q refl l m f other below }

goes_no_further : (c : ClosureRules) (items : List Item) (i n : ℕ) (o : StepOutcome) → Stop c items i o → i < n → AreFounded c items n → ⊥
goes_no_further c items i n o (AtRange d l other) b h = other (h.within i d b)
goes_no_further c items i n o (AtUnfounded d l w other) b h = other (h.founded i d b)
goes_no_further c items i n o (AtOpen p q e l m f other below) b h = omega (arith, h.count)
goes_no_further c items i n o (AtEnd e k) b h = omega (arith, h.count)

within_same : (c : ClosureRules) (items : List Item) (i : ℕ) (d e : Item) → i < length items → IsWithin c (get_or items i d) → IsWithin c (get_or items i e)
within_same c items i d e l h = subst (IsWithin c) (get_or_default items i d e l) h

-- the first open place
open_one : (c : ClosureRules) (items : List Item) (p q x y : ℕ) → p < length c.rights → q < length c.lefts → FollowsAt c items p q → (IsListed items p q → ⊥) → IsClosedBelow c items (number c x y) → number c p q < number c x y → ⊥
open_one c items p q x y l m f other below b = other (below p q l m b f)

stop_same : (c : ClosureRules) (items : List Item) (i : ℕ) (a b : StepOutcome) → Stop c items i a → Stop c items i b → a ≡ b
stop_same c items i a b (AtRange d l other) (AtRange e m another) = refl
stop_same c items i a b (AtRange d l other) (AtUnfounded e m w another) = absurd (other (within_same c items i e d l w))
stop_same c items i a b (AtRange d l other) (AtOpen p q e m n f another below) = absurd (omega arith)
stop_same c items i a b (AtRange d l other) (AtEnd e k) = absurd (omega arith)
stop_same c items i a b (AtUnfounded e m w another) (AtRange d l other) = absurd (other (within_same c items i e d l w))
stop_same c items i a b (AtUnfounded e m w another) (AtUnfounded d l v other) = refl
stop_same c items i a b (AtUnfounded e m w another) (AtOpen p q d n k f other below) = absurd (omega arith)
stop_same c items i a b (AtUnfounded e m w another) (AtEnd d k) = absurd (omega arith)
stop_same c items i a b (AtOpen p q e m n f another below) (AtRange d l other) = absurd (omega arith)
stop_same c items i a b (AtOpen p q e m n f another below) (AtUnfounded d l w other) = absurd (omega arith)
stop_same c items i a b (AtOpen p q e m n f another below) (AtOpen x y e' m' n' f' another' below') =
    ⊎_elim
    (λ l. absurd (open_one c items p q x y m n f another below' l))
    (λ l. ⊎_elim
    (λ k. absurd (open_one c items x y p q m' n' f' another' below k))
    (λ k. let same : number c p q ≡ number c x y = omega arith in ap (λ z. Fails z Open) same)
    (cases_lt (number c x y) (number c p q)))
    (cases_lt (number c p q) (number c x y))
stop_same c items i a b (AtOpen p q e m n f another below) (AtEnd d k) = absurd (another (k p q m n f))
stop_same c items i a b (AtEnd d k) (AtRange e l other) = absurd (omega arith)
stop_same c items i a b (AtEnd d k) (AtUnfounded e m w another) = absurd (omega arith)
stop_same c items i a b (AtEnd d k) (AtOpen p q e m n f another below) = absurd (another (k p q m n f))
stop_same c items i a b (AtEnd d k) (AtEnd e l) = refl

pub closure_one : (c : ClosureRules) (items : List Item) (a b : StepOutcome) → IsClosureOutcome c items a → IsClosureOutcome c items b → a ≡ b
closure_one c items a b h k =
    let f = stopped c items a h in
    let g = stopped c items b k in
    ⊎_elim
    (λ l. absurd (goes_no_further c items f.place g.place a f.stop l g.founded))
    (λ l. ⊎_elim
    (λ m. absurd (goes_no_further c items g.place f.place b g.stop m f.founded))
    (λ m. let is : g.place ≡ f.place = omega arith in stop_same c items f.place a b f.stop (subst (λ (i : ℕ). Stop c items i b) is g.stop))
    (cases_lt g.place f.place))
    (cases_lt f.place g.place)
