use Rattle.std.proofs.Common.{◌≡◌, ◌<◌, List, [], length, get_or, sym, ap, ◌∙◌, subst}
use Rattle.fort_theory.specs.Cores as core
use Rattle.fort_theory.specs.Parts.{postorder}
use Rattle.fort_theory.specs.PartLists.{AreParts}
use Rattle.fort_formulas.specs.CoreView.{as_core}
use Rattle.fort_outline.specs.declared.root.Root.{Root}
use Rattle.fort_outline.specs.Roots.{cores_of, AreInOrder}
use Rattle.fort_outline.specs.Outlines.{AreColumnsOf, AreLastUses}
use Rattle.fort_outline.specs.Numbered.{AreDistinct, AreNumbered}
use Rattle.fort_outline.proofs.NumberLaws.{AreNumbered-none, AreDistinct-once}
use Rattle.fort_outline.proofs.outline.Outline.new.Goals as goal

pub all_columns-requires : goal.all_columns-requires
all_columns-requires c =
    let one = c.in_ok-whole.ensures.numbered [] (subst (AreNumbered []) (sym c.new-found.ensures.empty) AreNumbered-none) in
    subst AreInOrder (sym (c.deref.ensures.value ∙ c.in_ok-roots.ensures)) one.numbered.in_order

pub last_uses-requires-clause-order : goal.last_uses-requires-clause-order
last_uses-requires-clause-order c =
    let one = c.in_ok-whole.ensures.numbered [] (subst (AreNumbered []) (sym c.new-found.ensures.empty) AreNumbered-none) in
    subst AreInOrder (sym (c.deref-2.ensures.value ∙ c.in_ok-roots.ensures)) one.numbered.in_order

pub last_uses-requires-clause-distinct : goal.last_uses-requires-clause-distinct
last_uses-requires-clause-distinct c =
    let one = c.in_ok-whole.ensures.numbered [] (subst (AreNumbered []) (sym c.new-found.ensures.empty) AreNumbered-none) in
    let keys = c.number_core.new.roots.keys in
    subst (λ (rs : List Root). AreDistinct (cores_of rs)) (sym (c.deref-2.ensures.value ∙ c.in_ok-roots.ensures))
    (AreDistinct-once (postorder (as_core c.args.core.now)) (cores_of keys) one.numbered.once)

pub returns : goal.returns
returns c =
    let one = c.in_ok-whole.ensures.numbered [] (subst (AreNumbered []) (sym c.new-found.ensures.empty) AreNumbered-none) in
    let f = as_core c.args.core.now in
    let whole = c.in_ok-whole.whole in
    let same = sym c.in_ok-roots.ensures in
    let first : c.deref.result.now ≡ c.in_ok-roots.roots.items = c.deref.ensures.value in
    let second : c.deref-2.result.now ≡ c.in_ok-roots.roots.items = c.deref-2.ensures.value in
    record {
      parts = subst (λ (rs : List Root). AreParts f (cores_of rs)) same one.numbered.once;
      in_order = subst AreInOrder same one.numbered.in_order;
      count = c.in_ok-columns.ensures.count ∙ ap length first;
      columns = subst (λ (rs : List Root). AreColumnsOf (cores_of rs) c.in_ok-columns.columns.items) first c.in_ok-columns.ensures.each;
      uses = subst (λ (rs : List Root). AreLastUses (cores_of rs) whole c.in_ok-last_uses.last_uses.items) second c.in_ok-last_uses.ensures;
      within = subst (λ (rs : List Root). whole < length rs) same one.within;
      whole_is = subst (λ (rs : List Root). get_or (cores_of rs) whole core.True ≡ f) same one.is;
    }
