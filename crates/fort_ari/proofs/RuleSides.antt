-- A rule from its two sides.
use Rattle.std.proofs.Common.{◌≡◌, ℕ, ◌+◌, ◌-◌, ◌<◌, List, [], ◌++◌, length, map, take, drop, ap, sym, ◌∙◌, subst, arith, length-append}
use Rattle.std.proofs.Math.Seq.{take-append_seam, drop-append_seam}
use Rattle.std.proofs.lemmas.List.{length-map, take-map, drop-map, take_rest}
use Rattle.fort_theory.specs.Signatures.{Signature}
use Rattle.fort_theory.specs.Sides as theory
use Rattle.fort_theory.specs.Patterns.{PatternSystem}
use Rattle.fort_grammar.specs.Forms.{Form}
use Rattle.fort_grammar.specs.Declarations.{ProblemFault}
use Rattle.fort_grammar.specs.RuleForms.{HasSides, IsSide, HasRightSides, IsBadRule, LeftTwice, RightTwice, InBoth, most_rules}
use Rattle.fort_sexpr.specs.FormCode.{node_count}
use Rattle.fort_ari.specs.Reading.{PushesRule}
use Rattle.fort_ari.specs.SideForms.{IsRightSide, ReadsSide, AreBothSides, PushesSides, HaveBadNames, AreBadNames, InLeft, InRight, Between}
use Rattle.fort_ari.proofs.OneSide.{renumbered}
use Rattle.fort_ari.proofs.SideElements.{names-node_count}

-- two sides read one behind the other, with the names of the first before a number, and those of the second from there on
pub both_read : {bytes : List ℕ} {signature : Signature} {K : Type 0} (name : K → List ℕ) (left right : Form) (s t : theory.Side) (none first second : List K) (count : ℕ)
    → none ≡ [] → ReadsSide bytes signature left (map name none) (map name first) s
    → ReadsSide bytes signature right (map name first) (map name second) t → count ≡ length first
    → AreBothSides bytes signature left right (record { left = s; right = t }) (map name (take count second)) (map name (take (length second - count) (drop count second)))
both_read {bytes} {signature} name left right s t none first second count e a b place =
    let before : map name none ≡ [] = ap (map name) e in
    let firsts : map name first ≡ a.names = a.added ∙ ap (λ xs. xs ++ a.names) before in
    let size : count ≡ length (map name first) = place ∙ sym (length-map first name) in
    let lefts : a.names ≡ map name (take count second) =
    sym firsts ∙ (sym (take-append_seam (map name first) b.names) ∙ (ap (λ xs. take (length (map name first)) xs) (sym b.added)
    ∙ (ap (λ n. take n (map name second)) (sym size) ∙ take-map name count second))) in
    let rights : b.names ≡ map name (take (length second - count) (drop count second)) =
    sym (drop-append_seam (map name first) b.names) ∙ (ap (λ xs. drop (length (map name first)) xs) (sym b.added)
    ∙ (ap (λ n. drop n (map name second)) (sym size) ∙ (drop-map name count second ∙ ap (map name) (sym (take_rest second count))))) in
    record {
      left_is = subst (IsSide bytes signature 0 left s) lefts (subst (λ (xs : List (List ℕ)). IsSide bytes signature (length xs) left s a.names) before a.is);
      right_is = subst (IsSide bytes signature (length (map name (take count second))) right t) rights
          (subst (λ (xs : List (List ℕ)). IsSide bytes signature (length xs) right t b.names) (firsts ∙ lefts) b.is);
    }

-- where there is room for the names of both, there is for those of the second behind the first's
pub room_for_right : {bytes : List ℕ} {signature : Signature} {K : Type 0} (name : K → List ℕ) (left right : Form) (s : theory.Side) (none first : List K) (most : ℕ)
    → none ≡ [] → ReadsSide bytes signature left (map name none) (map name first) s → node_count left + node_count right < most
    → length first + node_count right < most
room_for_right {bytes} {signature} name left right s none first most e a room =
    let before : map name none ≡ [] = ap (map name) e in
    omega (arith, names-node_count bytes signature a.is, ap length a.added, length-append (map name none) a.names, ap length before, length-map first name)

module _ {bytes : List ℕ} {number : ℕ} {signature : Signature} {f left right : Form} {index : ℕ} (sides : HasSides bytes number f left right index) where
  -- two sides that are right each by itself
  pub right_sides_of : IsRightSide bytes signature left → IsRightSide bytes signature right
      → (xs : List (List ℕ)) × (ys : List (List ℕ)) × HasRightSides bytes number signature f xs ys
  right_sides_of a b =
      let r = renumbered (length a.names) b.is in (
        a.names,
        b.names,
        record {
          left = left;
          right = right;
          index = index;
          sides = sides;
          left_side = a.side;
          right_side = r.side;
          left_is = a.is;
          right_is = r.is;
        },
      )

  sides_read : {rule : theory.Rule} {xs ys : List (List ℕ)} → AreBothSides bytes signature left right rule xs ys → HasRightSides bytes number signature f xs ys
  sides_read {rule} b = record {
    left = left;
    right = right;
    index = index;
    sides = sides;
    left_side = rule.left;
    right_side = rule.right;
    left_is = b.left_is;
    right_is = b.right_is;
  }

  pub bad_names : (count i : ℕ) (fault : ProblemFault) → count < most_rules → HaveBadNames bytes signature left right i fault
      → IsBadRule bytes number signature count i f fault
  bad_names count i fault few h = go fault h.bad
    where
      go : (x : ProblemFault) → AreBadNames i h.left_names h.right_names x → IsBadRule bytes number signature count i f x
      go x (InLeft name again) = LeftTwice h.left_names h.right_names name few (sides_read h.both) again
      go x (InRight name once again) = RightTwice h.left_names h.right_names name few (sides_read h.both) once again
      go x (Between name once once' also) = InBoth h.left_names h.right_names name few (sides_read h.both) once once' also

pub pushes_rule : {bytes : List ℕ} {f left right : Form} {index : ℕ} {old new : PatternSystem} → HasSides bytes (length old.rules) f left right index
    → PushesSides bytes left right index old new → PushesRule bytes f old new
pushes_rule {left = left} {right = right} {index = index} sides p = record {
  given = record { index = index; rule = p.rule };
  is_rule = record {
    left = left;
    right = right;
    sides = sides;
    left_names = p.left_names;
    right_names = p.right_names;
    left_is = p.both.left_is;
    right_is = p.both.right_is;
    once = p.once;
  };
  same = p.same;
  rules = p.rules;
}
