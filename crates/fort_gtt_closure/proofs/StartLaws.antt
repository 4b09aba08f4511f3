-- Where nothing is listed yet, what is due follows by a state that takes every term, or by two moves from no states.
use Rattle.std.proofs.Common.{◌≡◌, ℕ, zero, suc, ◌+◌, ◌*◌, List, [], ◌∷◌, Bool, false, ap, sym, ◌∙◌, refl, subst, length, Some, inl, inr, get_or}
use Rattle.std.specs.Prelude.{Contains, replicate}
use Rattle.fort_theory.proofs.Members.{Contains-none}
use Rattle.fort_theory.proofs.IndexLaws.{length-empty_lists}
use Rattle.fort_theory.specs.Sides.{empty_lists}
use Rattle.fort_tree_automata.specs.declared.nta.Move.{Move}
use Rattle.fort_tree_automata.specs.NtaView.{MoveParts, as_move}
use Rattle.fort_tree_automata.proofs.Truths.{not_both}
use Rattle.fort_transducers.specs.declared.agtt.Agtt.{Agtt}
use Rattle.fort_gtt_closure.specs.declared.entry.Why.{Why}
use Rattle.fort_gtt_closure.specs.declared.entry.Why.TheVariants.{Any, Kids, SilentRight, SilentLeft, Pair}
use Rattle.fort_gtt_closure.specs.declared.groups.Groups.{Groups}
use Rattle.fort_gtt_closure.specs.declared.marks.Shape.{Shape}
use Rattle.fort_gtt_closure.specs.Groups.{lists}
use Rattle.fort_gtt_closure.specs.Marks.{IsSet, IsMarked, AreSources}
use Rattle.fort_gtt_closure.specs.Passes.{IsDue}
use Rattle.fort_gtt_closure.specs.Reasons.{IsListed, AllListed, MovesMeet, Follows}
use Rattle.fort_gtt_closure.proofs.Places.{Contains-place, place-from_map}

nothing-listed : (p q : ℕ) → IsListed [] p q → ⊥
nothing-listed p q h = Contains-none {A = ℕ × ℕ} (p, q) h

no-kids : (ps qs : List ℕ) → AllListed [] ps qs → (ps ≡ []) × (qs ≡ [])
no-kids [] [] h = (refl, refl)
no-kids [] (q ∷ qs) h = absurd h
no-kids (p ∷ ps) [] h = absurd h
no-kids (p ∷ ps) (q ∷ qs) h = absurd (nothing-listed p q h.0)

all-false : (n i : ℕ) → get_or (replicate n false) i false ≡ false
all-false zero i = refl
all-false (suc n) zero = refl
all-false (suc n) (suc i) = all-false n i

pub none-set : (cells : List Bool) (n i : ℕ) → cells ≡ replicate n false → IsSet cells i → ⊥
none-set cells n i e h = not_both (subst (λ zs. IsSet zs i) e h) (all-false n i)

pub AreSources-none : (height n : ℕ) (cells : List Bool) (g : Groups) → cells ≡ replicate n false → lists g ≡ empty_lists height → AreSources height cells g
AreSources-none height n cells g e none = record {
  count_same = ap length none ∙ length-empty_lists (ℕ × ℕ) height;
  each = λ p b lp lb h. absurd (none-set cells n (p * height + b) e h);
}

module _ (agtt : Agtt) (shape : Shape) (cells : List Bool) (right_any : (p q : ℕ) → agtt.right.any ≡ Some p → IsMarked shape cells p q)
    (left_any : (p q : ℕ) → agtt.left.any ≡ Some q → IsMarked shape cells p q)
    (leaves : (right left : Move) → Contains agtt.right.moves.items right → Contains agtt.left.moves.items left → right.kids.items ≡ [] → left.kids.items ≡ []
    → right.sym.0 ≡ left.sym.0 → IsMarked shape cells right.target left.target) where
  by-moves : (p q k j : ℕ) → MovesMeet agtt [] p q k j → IsMarked shape cells p q
  by-moves p q k j m =
      let r = place-from_map as_move agtt.right.moves.items k (m.symbol, m.rights, p) m.right_move in
      let l = place-from_map as_move agtt.left.moves.items j (m.symbol, m.lefts, q) m.left_move in
      let none = no-kids m.rights m.lefts m.listed in
      let marked = leaves r.0 l.0 (Contains-place agtt.right.moves.items k r.0 r.1) (Contains-place agtt.left.moves.items j l.0 l.1)
      (ap (λ (v : MoveParts). v.1) r.2 ∙ none.0) (ap (λ (v : MoveParts). v.1) l.2 ∙ none.1)
      (ap (λ (v : MoveParts). v.0) r.2 ∙ sym (ap (λ (v : MoveParts). v.0) l.2)) in
      subst (λ x. IsMarked shape cells x q) (ap (λ (v : MoveParts). v.2) r.2)
      (subst (λ y. IsMarked shape cells r.0.target y) (ap (λ (v : MoveParts). v.2) l.2) marked)

  by-reason : (p q : ℕ) (why : Why) → Follows agtt [] p q why → IsMarked shape cells p q
  by-reason p q Any (inl w) = right_any p q w.0
  by-reason p q Any (inr w) = left_any p q w.0
  by-reason p q (Kids k j) f = by-moves p q k j f
  by-reason p q (SilentRight k) f = absurd (nothing-listed f.0 q f.2)
  by-reason p q (SilentLeft k) f = absurd (nothing-listed p f.0 f.2)
  by-reason p q (Pair k) f = absurd (nothing-listed p f.0 f.3)

  pub due-marked : (p q : ℕ) → IsDue agtt [] p q → IsMarked shape cells p q
  due-marked p q due = by-reason p q due.why due.follows
