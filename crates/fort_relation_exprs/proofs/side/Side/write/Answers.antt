use Rattle.std.proofs.Common.{◌≡◌, ℕ, List, Option, Some, Bool, ◌||◌, sym, ap, ◌∙◌, arith}
use Rattle.std.specs.List.{list_any}
use Rattle.std.proofs.Math.Bool.{or_assoc}
use Rattle.std.proofs.lemmas.List.{length-map}
use Rattle.fort_tuple_symbols.specs.Columns.{as_column}
use Rattle.fort_alike.specs.PatternNumbers.{PatternNumber}
use Rattle.fort_label_bits.specs.RowBits.{bit_of, labels_at}
use Rattle.fort_label_bits.specs.RootPlaces.{places_at, root_of}
use Rattle.fort_relation_exprs.specs.Sides.{adds_at, leads_in, moves_in, side_adds}
use Rattle.fort_relation_exprs.proofs.SideLaws.{side_rooted, side_nowhere, or-nothing}
use Rattle.fort_relation_exprs.proofs.side.Side.write.Goals as goal

pub write_listed-requires-clause-listed : goal.write_listed-requires-clause-listed
write_listed-requires-clause-listed c = rw c.at.ensures (λ k d. let l = c.requires.side.1.rooted.within c.in-Some.f.0 k d in omega (arith, l, length-map (moves_in c.args.self.now) (λ (m : PatternNumber × ℕ). root_of m.0)))

pub write_listed-requires-in-Some-clause-listed : goal.write_listed-requires-in-Some-clause-listed
write_listed-requires-in-Some-clause-listed c = rw c.as_slice-any.ensures.value (λ k d. let l = c.requires.side.1.rooted.within_any k d in omega (arith, l, length-map (moves_in c.args.self.now) (λ (m : PatternNumber × ℕ). root_of m.0)))

pub returns-in-None : goal.returns-in-None
returns-in-None c q =
    let ws : List (List ℕ) = labels_at c.args.rows.now.labels c.args.row.now.kids in
    rw c.in-None.is (sym (ap (λ b. bit_of q c.args.out.now || b) (side_nowhere c.args.base (moves_in c.args.self.now) (leads_in c.args.self.now) ws q) ∙ or-nothing (bit_of q c.args.out.now)))

pub returns-in-Some : goal.returns-in-Some
returns-in-Some c q =
    let ws : List (List ℕ) = labels_at c.args.rows.now.labels c.args.row.now.kids in
    let old = bit_of q c.args.out.now in
    let side = c.args.self.now in
    let r = side.roots in
    let f : ℕ = c.in-Some.f.0 in
    let is : as_column c.args.root ≡ Some f = ap as_column c.in-Some.is in
    let test : ℕ → Bool = adds_at c.args.base (moves_in side) (leads_in side) (Some f) ws q in
    let one = rw c.at.ensures at c.write_listed.ensures q in
    let two = rw c.as_slice-any.ensures.value at c.write_listed-in-Some.ensures q in
    let all = side_rooted c.args.base (moves_in side) (leads_in side) f ws q r c.requires.side.1.rooted in
    two ∙ (ap (λ b. b || list_any test r.any.items) one
    ∙ (or_assoc old (list_any test (places_at r f)) (list_any test r.any.items)
    ∙ (ap (λ b. old || b) all ∙ ap (λ (x : Option ℕ). old || side_adds c.args.base (moves_in side) (leads_in side) x ws q) (sym is))))
