use Rattle.std.proofs.Common.{◌≡◌, ℕ, List, map, length, get_or, replicate, ap, ◌∙◌, arith, rules}
use Rattle.std.specs.Prelude.{vec_items}
use Rattle.std.proofs.lemmas.List.{map-append, get_or-replicate, length-replicate}
use Rattle.fort_label_bits.proofs.BitRowListLaws.{AreClear-none, AreClear-push}
use Rattle.fort_label_bits.proofs.rows.clear_rows.Goals as goal

pub loop-k-init : goal.loop-k-init
loop-k-init c = rw c.in_ok-rows.ensures.items (AreClear-none c.args.width)

pub loop-k-preserved : goal.loop-k-preserved
loop-k-preserved c =
    let row : List ℕ = c.in_ok-vec.field-0.items in
    let is : row ≡ replicate c.args.width 0 = search (rules, c.in_ok-vec.ensures.items_if_clones_equal) in
    rw (c.in_ok-push.ensures.items, map-append)
    (AreClear-push c.loop-k.k c.args.width (map vec_items c.loop-k.rows.items) row c.loop-k.invariant (ap length is ∙ length-replicate {A = ℕ} c.args.width 0)
    (λ i l. ap (λ (w : List ℕ). get_or w i 0) is ∙ get_or-replicate c.args.width i 0 0 (omega (arith, l, ap length is, length-replicate {A = ℕ} c.args.width 0))))
