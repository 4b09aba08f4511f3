-- Each pair that is due waits: after a pair was visited, and after one was listed.
use Rattle.std.proofs.Common.{◌≡◌, ◌≢◌, ℕ, ◌+◌, ◌*◌, ◌<◌, ◌↔◌, List, [], ◌∷◌, ◌++◌, Bool, ap, sym, ◌∙◌, refl, subst, Some, inl, inr, ◌⊎◌, nat_eq, eqb-true, eq-eqb}
use Rattle.std.specs.Prelude.{Contains, slice_get}
use Rattle.std.proofs.lemmas.Nat.{same_from_place}
use Rattle.fort_theory.proofs.Members.{Contains-head, Contains-behind, Contains-filter, Contains-from_filter}
use Rattle.fort_tree_automata.specs.NtaView.{MoveParts, as_move}
use Rattle.fort_transducers.specs.AgttView.{NamesItsStates}
use Rattle.fort_transducers.specs.declared.agtt.Agtt.{Agtt}
use Rattle.fort_gtt_closure.specs.declared.agenda.Agenda.{Agenda}
use Rattle.fort_gtt_closure.specs.declared.entry.Entry.{Entry}
use Rattle.fort_gtt_closure.specs.declared.entry.Why.{Why}
use Rattle.fort_gtt_closure.specs.declared.entry.Why.TheVariants.{Any, Kids, SilentRight, SilentLeft, Pair}
use Rattle.fort_gtt_closure.specs.declared.groups.Groups.{Groups}
use Rattle.fort_gtt_closure.specs.declared.links.Links.{Links}
use Rattle.fort_gtt_closure.specs.Grids.{is_listed}
use Rattle.fort_gtt_closure.specs.Groups.{group, AreByFirst}
use Rattle.fort_gtt_closure.specs.Links.{Leads}
use Rattle.fort_gtt_closure.specs.Marks.{IsSet, IsMarked}
use Rattle.fort_gtt_closure.specs.Passes.{IsDue}
use Rattle.fort_gtt_closure.specs.Ready.{IsAwake, Waits, LeadsThrough, GoesThrough, Wakes}
use Rattle.fort_gtt_closure.specs.Reasons.{IsListed, AllListed, MovesMeet, Follows}
use Rattle.fort_gtt_closure.proofs.GridLaws.{listed_push, same, same_of, same_yes, or_cases, or_left, or_right}
use Rattle.fort_gtt_closure.proofs.ListedLaws.{listed-from_test, test-from_listed}
use Rattle.fort_gtt_closure.proofs.Places.{Contains-place, place-Contains, place-from_map}

listed-cases : (es : List Entry) (e : Entry) (x y : ℕ) → IsListed (es ++ e ∷ []) x y → IsListed es x y ⊎ ((e.p ≡ x) × (e.q ≡ y))
listed-cases es e x y h = elim (or_cases (is_listed es x y) (same e x y) (sym (listed_push es e x y) ∙ test-from_listed (es ++ e ∷ []) x y h)) [
  | inl old ↦ inl (listed-from_test es x y old)
  | inr new ↦ inr (same_of e x y new)
]

listed-more : (es : List Entry) (e : Entry) (x y : ℕ) → IsListed es x y → IsListed (es ++ e ∷ []) x y
listed-more es e x y h =
    listed-from_test (es ++ e ∷ []) x y (listed_push es e x y ∙ or_left (is_listed es x y) (same e x y) (test-from_listed es x y h))

listed-new : (es : List Entry) (e : Entry) → IsListed (es ++ e ∷ []) e.p e.q
listed-new es e =
    listed-from_test (es ++ e ∷ []) e.p e.q (listed_push es e e.p e.q ∙ or_right (is_listed es e.p e.q) (same e e.p e.q) (same_yes e e.p e.q refl refl))

all_listed-cases : (es : List Entry) (e : Entry) (ps qs : List ℕ) → AllListed (es ++ e ∷ []) ps qs → AllListed es ps qs ⊎ (Contains ps e.p × Contains qs e.q)
all_listed-cases es e [] [] h = inl tt
all_listed-cases es e [] (q ∷ qs) h = absurd h
all_listed-cases es e (p ∷ ps) [] h = absurd h
all_listed-cases es e (p ∷ ps) (q ∷ qs) h = elim (listed-cases es e p q h.0) [
  | inl old ↦ elim (all_listed-cases es e ps qs h.1) [
    | inl rest ↦ inl (old, rest)
    | inr w ↦ inr (Contains-behind p ps e.p w.0, Contains-behind q qs e.q w.1)
  ]
  | inr w ↦ inr (subst (λ z. Contains (z ∷ ps) e.p) w.0 (Contains-head e.p ps), subst (λ z. Contains (z ∷ qs) e.q) w.1 (Contains-head e.q qs))
]

-- a pair of a list stands in the group of its first number
pub in_group : (count : ℕ) (pairs : List (ℕ × ℕ)) (g : Groups) → AreByFirst count pairs g → (a b : ℕ) → a < count → Contains pairs (a, b) → Contains (group g a) (a, b)
in_group count pairs g by a b lt c =
    let test : ℕ × ℕ → Bool = λ pair. nat_eq pair.0 a in
    subst (λ zs. Contains zs (a, b)) (sym (by.each a lt)) (Contains-filter test pairs (a, b) c (eq-eqb a a refl))

pub from_group : (count : ℕ) (pairs : List (ℕ × ℕ)) (g : Groups) → AreByFirst count pairs g → (n a b : ℕ) → n < count → Contains (group g n) (a, b) → Contains pairs (a, b) × (a ≡ n)
from_group count pairs g by n a b lt c =
    let test : ℕ × ℕ → Bool = λ pair. nat_eq pair.0 n in
    let w = Contains-from_filter test pairs (a, b) (subst (λ zs. Contains zs (a, b)) (by.each n lt) c) in
    (w.0, eqb-true a n w.1)

-- the agenda after the pair at p and q was taken from it
pub record Rests (p q : ℕ) (old new : Agenda) : Type 0 where
  pub shape : new.shape ≡ old.shape
  pub through : new.through ≡ old.through
  pub others : (i : ℕ) → i ≢ p * old.shape.width + q → IsSet old.waiting.items i → IsSet new.waiting.items i

module _ (agtt : Agtt) (es : List Entry) (p q : ℕ) (left : q < agtt.left.states) (old rested : Agenda) (awake : IsAwake agtt es old) (rests : Rests p q old rested) where
  width-same : rested.shape.width ≡ agtt.left.states
  width-same = ap (λ s. s.width) rests.shape ∙ awake.width

  height-same : rested.shape.height ≡ agtt.right.states
  height-same = ap (λ s. s.height) rests.shape ∙ awake.height

  -- another pair that waited still waits
  still-waits : (x y : ℕ) → y < agtt.left.states → ((x ≡ p) × (y ≡ q) → ⊥) → Waits old x y → Waits rested x y
  still-waits x y low apart w =
      let there : IsSet old.waiting.items (x * agtt.left.states + y) = subst (λ n. IsSet old.waiting.items (x * n + y)) awake.width w in
      let kept : IsSet rested.waiting.items (x * agtt.left.states + y) =
      rests.others (x * agtt.left.states + y)
      (λ e. apart (same_from_place x y p q agtt.left.states low left (e ∙ ap (λ n. p * n + q) awake.width))) there in
      subst (λ n. IsSet rested.waiting.items (x * n + y)) (sym width-same) kept

  same-through : (x b : ℕ) → LeadsThrough rested x b ↔ LeadsThrough old x b
  same-through x b =
      let cells = ap (λ v. v.items) rests.through in
      let height = ap (λ s. s.height) rests.shape in (
        λ h. subst (λ n. IsSet old.through.items (x * n + b)) height (subst (λ bs. IsSet bs (x * rested.shape.height + b)) cells h),
        λ h. subst (λ n. IsSet rested.through.items (x * n + b)) (sym height) (subst (λ bs. IsSet bs (x * old.shape.height + b)) (sym cells) h),
      )

  -- the pair wasn't due
  pub IsAwake-rested : (IsDue agtt es p q → ⊥) → IsAwake agtt es rested
  IsAwake-rested none = record {
    height = height-same;
    width = width-same;
    due = λ x y due. still-waits x y due.left (λ w. none (subst (λ z. IsDue agtt es z q) w.0 (subst (λ z. IsDue agtt es x z) w.1 due))) (awake.due x y due);
    through = λ x b lx lb. (
      λ h. (awake.through x b lx lb).0 ((same-through x b).0 h),
      λ h. (same-through x b).1 ((awake.through x b lx lb).1 h),
    );
  }

  -- the pair is listed
  module _ (links : Links) (named : NamesItsStates agtt) (leads : Leads agtt links) (why : Why) (right : p < agtt.right.states) (new : Agenda) where
    abbrev e : Entry
    e = record { p = p; q = q; why = why }

    abbrev more : List Entry
    more = es ++ e ∷ []

    module _ (wakes : Wakes links more p q rested new) where
      width-new : new.shape.width ≡ agtt.left.states
      width-new = ap (λ s. s.width) wakes.shape ∙ width-same

      height-new : new.shape.height ≡ agtt.right.states
      height-new = ap (λ s. s.height) wakes.shape ∙ height-same

      module _ (x y : ℕ) (due : IsDue agtt more x y) where
        apart : (x ≡ p) × (y ≡ q) → ⊥
        apart w = due.unlisted (subst (λ z. IsListed more z y) (sym w.0) (subst (λ z. IsListed more p z) (sym w.1) (listed-new es e)))

        old-due : (reason : Why) → Follows agtt es x y reason → Waits new x y
        old-due reason follows =
            let before : IsDue agtt es x y = record {
              right = due.right;
              left = due.left;
              unlisted = λ h. due.unlisted (listed-more es e x y h);
              why = reason;
              follows = follows;
            } in
            let there : IsSet rested.waiting.items (x * rested.shape.width + y) = still-waits x y due.left apart (awake.due x y before) in
            subst (λ n. IsSet new.waiting.items (x * n + y)) (sym (ap (λ s. s.width) wakes.shape)) (wakes.kept (x * rested.shape.width + y) there)

        marked : (r l : ℕ) → r ≡ x → l ≡ y → IsMarked new.shape new.waiting.items r l → Waits new x y
        marked r l er el m =
            let at : IsMarked new.shape new.waiting.items x y =
            subst (λ z. IsMarked new.shape new.waiting.items z y) er (subst (λ z. IsMarked new.shape new.waiting.items r z) el m) in
            at (subst (λ n. x < n) (sym height-new) due.right) (subst (λ n. y < n) (sym width-new) due.left)

        by-kids : (k j : ℕ) → MovesMeet agtt more x y k j → Waits new x y
        by-kids k j m = elim (all_listed-cases es e m.rights m.lefts m.listed) [
          | inl old ↦
              old-due (Kids k j)
              (record { symbol = m.symbol; rights = m.rights; lefts = m.lefts; right_move = m.right_move; left_move = m.left_move; listed = old })
          | inr w ↦
              let r = place-from_map as_move agtt.right.moves.items k (m.symbol, m.rights, x) m.right_move in
              let l = place-from_map as_move agtt.left.moves.items j (m.symbol, m.lefts, y) m.left_move in
              let right_kid : Contains r.0.kids.items p = subst (λ zs. Contains zs p) (sym (ap (λ (v : MoveParts). v.1) r.2)) w.0 in
              let left_kid : Contains l.0.kids.items q = subst (λ zs. Contains zs q) (sym (ap (λ (v : MoveParts). v.1) l.2)) w.1 in
              let symbol : r.0.sym.0 ≡ l.0.sym.0 = ap (λ (v : MoveParts). v.0) r.2 ∙ sym (ap (λ (v : MoveParts). v.0) l.2) in
              marked r.0.target l.0.target (ap (λ (v : MoveParts). v.2) r.2) (ap (λ (v : MoveParts). v.2) l.2)
              (wakes.met (r.0.sym.0, r.0.target) (leads.right_uses.each r.0 p (Contains-place agtt.right.moves.items k r.0 r.1) right_kid right)
              (l.0.sym.0, l.0.target)
              (leads.left_uses.each l.0 q (Contains-place agtt.left.moves.items j l.0 l.1) left_kid left) symbol)
        ]

        by-silent_right : (k o : ℕ) → slice_get agtt.right.silent.items k ≡ Some (o, x) → IsListed more o y → Waits new x y
        by-silent_right k o at h = elim (listed-cases es e o y h) [
          | inl old ↦ old-due (SilentRight k) (o, at, old)
          | inr w ↦
              let c : Contains agtt.right.silent.items (p, x) = subst (λ z. Contains agtt.right.silent.items (z, x)) (sym w.0) (Contains-place agtt.right.silent.items k (o, x) at) in
              marked x q refl w.1 (wakes.right_silent (p, x) (in_group agtt.right.states agtt.right.silent.items links.right_silent leads.right_silent p x right c))
        ]

        by-silent_left : (k o : ℕ) → slice_get agtt.left.silent.items k ≡ Some (o, y) → IsListed more x o → Waits new x y
        by-silent_left k o at h = elim (listed-cases es e x o h) [
          | inl old ↦ old-due (SilentLeft k) (o, at, old)
          | inr w ↦
              let c : Contains agtt.left.silent.items (q, y) = subst (λ z. Contains agtt.left.silent.items (z, y)) (sym w.1) (Contains-place agtt.left.silent.items k (o, y) at) in
              marked p y w.0 refl (wakes.left_silent (q, y) (in_group agtt.left.states agtt.left.silent.items links.left_silent leads.left_silent q y left c))
        ]

        -- the first half of the way is old, and the second new
        by-back : (a b : ℕ) → Contains agtt.pairs.items (a, b) → IsListed es x a → p ≡ b → q ≡ y → Waits new x y
        by-back a b c from ep eq =
            let lb = (named.pairs a b c).1 in
            let led : LeadsThrough rested x b = (same-through x b).1 ((awake.through x b due.right lb).1 (a, c, from)) in
            let lx : x < rested.shape.height = subst (λ n. x < n) (sym height-same) due.right in
            let lb_rested : b < rested.shape.height = subst (λ n. b < n) (sym height-same) lb in
            let now : LeadsThrough new x p = subst (LeadsThrough new x) (sym ep) ((wakes.through x b lx lb_rested).1 (inl led)) in
            marked x q refl eq (wakes.back x lx now)

        -- the first half of the way is new, and the second old
        by-row : (a b : ℕ) → Contains agtt.pairs.items (a, b) → p ≡ x → q ≡ a → IsListed es b y → Waits new x y
        by-row a b c ep eq to =
            let lb = (named.pairs a b c).1 in
            let lb_rested : b < rested.shape.height = subst (λ n. b < n) (sym height-same) lb in
            let here : Contains agtt.pairs.items (q, b) = subst (λ z. Contains agtt.pairs.items (z, b)) (sym eq) c in
            elim (wakes.rows (q, b) (in_group agtt.left.states agtt.pairs.items links.pairs leads.pairs q b left here) lb_rested) [
              | inl led ↦
                  let w = (awake.through p b right lb).0 ((same-through p b).0 led) in
                  let k = place-Contains agtt.pairs.items (w.0, b) w.1 in
                  old-due (Pair k.0) (w.0, b, k.1, subst (λ z. IsListed es z w.0) ep w.2, to)
              | inr row ↦ marked p y ep refl (row y (test-from_listed more b y (listed-more es e b y to)))
            ]

        by-pair : (k a b : ℕ) → slice_get agtt.pairs.items k ≡ Some (a, b) → IsListed more x a → IsListed more b y → Waits new x y
        by-pair k a b at from to = elim (listed-cases es e x a from) [
          | inl from_old ↦ elim (listed-cases es e b y to) [
            | inl to_old ↦ old-due (Pair k) (a, b, at, from_old, to_old)
            | inr w ↦ by-back a b (Contains-place agtt.pairs.items k (a, b) at) from_old w.0 w.1
          ]
          | inr v ↦ elim (listed-cases es e b y to) [
            | inl to_old ↦ by-row a b (Contains-place agtt.pairs.items k (a, b) at) v.0 v.1 to_old
            | inr w ↦ absurd (apart (sym v.0, sym w.1))
          ]
        ]

        waits-by : (reason : Why) → Follows agtt more x y reason → Waits new x y
        waits-by Any f = old-due Any f
        waits-by (Kids k j) f = by-kids k j f
        waits-by (SilentRight k) f = by-silent_right k f.0 f.1 f.2
        waits-by (SilentLeft k) f = by-silent_left k f.0 f.1 f.2
        waits-by (Pair k) f = by-pair k f.0 f.1 f.2 f.3 f.4

      through-new : (x b : ℕ) → x < agtt.right.states → b < agtt.right.states → LeadsThrough new x b ↔ GoesThrough agtt more x b
      through-new x b lx lb =
          let both = wakes.through x b (subst (λ n. x < n) (sym height-same) lx) (subst (λ n. b < n) (sym height-same) lb) in (
            λ h. elim (both.0 h) [
              | inl led ↦ let w = (awake.through x b lx lb).0 ((same-through x b).0 led) in (w.0, w.1, listed-more es e x w.0 w.2)
              | inr w ↦
                  let from = from_group agtt.left.states agtt.pairs.items links.pairs leads.pairs q w.1 b left w.2 in
                  (w.1, from.0, subst (λ z. IsListed more z w.1) (sym w.0) (subst (λ z. IsListed more p z) (sym from.1) (listed-new es e)))
            ],
            λ w. elim (listed-cases es e x w.0 w.2) [
              | inl old ↦ both.1 (inl ((same-through x b).1 ((awake.through x b lx lb).1 (w.0, w.1, old))))
              | inr v ↦
                  let here : Contains agtt.pairs.items (q, b) = subst (λ z. Contains agtt.pairs.items (z, b)) (sym v.1) w.1 in
                  both.1 (inr (sym v.0, q, in_group agtt.left.states agtt.pairs.items links.pairs leads.pairs q b left here))
            ],
          )

      pub IsAwake-woken : IsAwake agtt more new
      IsAwake-woken = record {
        height = height-new;
        width = width-new;
        due = λ x y due. waits-by x y due due.why due.follows;
        through = through-new;
      }
