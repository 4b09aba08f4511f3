use Rattle.std.proofs.Common.{◌≡◌, ◌<◌, ◌≤◌, ◌∷◌, [], length, get_or, arith, ap, sym, ◌∙◌, subst, ⊎_elim, length-append}
use Rattle.std.proofs.lemmas.Bool.{cases_lt}
use Rattle.std.proofs.lemmas.List.{get_or_push, get_or_append_left, get_or_default}
use Rattle.std.specs.Prelude.{vec_items}
use Rattle.fort_theory.specs.Cores as core
use Rattle.fort_parts.specs.PartColumns.{columns_of}
use Rattle.fort_outline.specs.declared.root.Root.TheVariants.{True}
use Rattle.fort_outline.specs.Roots.{root_core, cores_of, HasOperandsBelow}
use Rattle.fort_outline.proofs.RootLaws.{part_at}
use Rattle.fort_outline.proofs.columns.all_columns.Goals as goal

pub root_columns-requires : goal.root_columns-requires
root_columns-requires c =
    let k = c.loop-k.k in
    let root = c.index-roots-k.result in
    let is : get_or c.args.roots.now k True ≡ root = get_or_default c.args.roots.now k True root c.loop-k-test.true ∙ sym c.index-roots-k.is in
    let own = subst (HasOperandsBelow k) is (c.requires k c.loop-k-test.true) in
    subst (λ n. HasOperandsBelow n root) (sym (ap length c.deref.ensures.value ∙ c.loop-k.invariant.count)) own

pub loop-k-init : goal.loop-k-init
loop-k-init c = record { count = ap length c.in_ok-lists.ensures.items; each = λ k d l. absurd (omega (arith, ap length c.in_ok-lists.ensures.items)) }

pub loop-k-preserved : goal.loop-k-preserved
loop-k-preserved c =
    let k = c.loop-k.k in
    let roots = c.args.roots.now in
    let lists = c.loop-k.lists.items in
    let own = c.in_ok-columns.columns in
    let root = c.index-roots-k.result in
    let is : root ≡ get_or roots k True = sym (get_or_default roots k True root c.loop-k-test.true ∙ sym c.index-roots-k.is) in
    let made = c.in_ok-columns.ensures (cores_of roots) (rw c.deref.ensures.value c.loop-k.invariant.each) in
    let here : vec_items own ≡ columns_of (get_or (cores_of roots) k core.True) =
    made ∙ ap columns_of (ap (root_core (cores_of roots)) is ∙ sym (part_at roots c.requires k c.loop-k-test.true)) in
    let whole = c.in_ok-push.ensures.items in
    record {
      count = ap length whole ∙ (length-append lists (own ∷ []) ∙ omega (arith, c.loop-k.invariant.count));
      each =
          λ j d l.
          ⊎_elim
          (λ (low : j < length lists). ap (λ ls. vec_items (get_or ls j d)) whole ∙ (ap (λ v. vec_items v) (get_or_append_left lists (own ∷ []) d j low) ∙ c.loop-k.invariant.each j d low))
          (λ (high : length lists ≤ j).
          let at : length lists ≡ j = omega (arith, ap length whole, length-append lists (own ∷ [])) in
          ap (λ ls. vec_items (get_or ls j d)) whole
          ∙ (ap (λ v. vec_items v) (get_or_push lists own d j at)
          ∙ (here ∙ ap (λ i. columns_of (get_or (cores_of roots) i core.True)) (sym c.loop-k.invariant.count ∙ at))))
          (cases_lt j (length lists));
    }

pub returns-clause-count : goal.returns-clause-count
returns-clause-count c = omega (arith, c.loop-k.invariant.count)

pub returns-clause-each : goal.returns-clause-each
returns-clause-each c = c.loop-k.invariant.each
