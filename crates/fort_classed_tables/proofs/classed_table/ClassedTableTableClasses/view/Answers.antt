use Rattle.std.proofs.Common.{◌≡◌, ◌+◌, ◌<◌, length, get_or, refl, ap, sym, ◌∙◌, arith, subst}
use Rattle.fort_tables.specs.Tables.{listed_table}
use Rattle.fort_target_lists.specs.Places.{number_of}
use Rattle.fort_target_lists.specs.Flats.{base_of}
use Rattle.fort_target_lists.specs.declared.flat.FlatTargets.{FlatTargets}
use Rattle.fort_target_lists.proofs.ClassListLaws.{number_is, number_low}
use Rattle.fort_target_lists.proofs.LookUpLaws.{symbol_below}
use Rattle.fort_classed_tables.specs.TableViews.{AreTableViews}
use Rattle.fort_classed_tables.proofs.classed_table.ClassedTableTableClasses.view.Goals as goal

pub number-requires-clause-some : goal.number-requires-clause-some
number-requires-clause-some c =
    let s = c.args.self.now in
    let is = subst (AreTableViews (listed_table s.table.now) s.list.now) c.in-Kept.is s.views_are in
    omega (arith, is.kept.base_is)

pub number-requires-clause-small : goal.number-requires-clause-small
number-requires-clause-small c =
    let s = c.args.self.now in
    let t = listed_table s.table.now in
    let f = c.args.symbol.now in
    let kept = (subst (AreTableViews t s.list.now) c.in-Kept.is s.views_are).kept in
    omega (
      arith,
      number_is t c.in-Kept.list.now kept f c.requires.symbol (number_of (base_of t) f) refl,
      number_low t c.in-Kept.list.now kept f c.requires.symbol (number_of (base_of t) f) refl,
      kept.few,
    )

pub view-requires-clause-number : goal.view-requires-clause-number
view-requires-clause-number c =
    let s = c.args.self.now in
    let t = listed_table s.table.now in
    let f = c.args.symbol.now in
    let kept = (subst (AreTableViews t s.list.now) c.in-Kept.is s.views_are).kept in
    omega (
      arith,
      c.number.ensures,
      number_is t c.in-Kept.list.now kept f c.requires.symbol (number_of (base_of t) f) refl,
      number_low t c.in-Kept.list.now kept f c.requires.symbol (number_of (base_of t) f) refl,
      kept.starts_all,
    )

pub view-requires-clause-place : goal.view-requires-clause-place
view-requires-clause-place c =
    let s = c.args.self.now in
    let t = listed_table s.table.now in
    let l = c.in-Kept.list.now in
    let f = c.args.symbol.now in
    let kept = (subst (AreTableViews t s.list.now) c.in-Kept.is s.views_are).kept in
    subst (λ n. get_or l.starts.items n 0 + c.args.place < length l.numbers.items) (sym c.number.ensures)
    (kept.views_are f c.args.place c.requires.symbol c.requires.place).number

pub number-requires-in-Some-clause-small : goal.number-requires-in-Some-clause-small
number-requires-in-Some-clause-small c =
    let s = c.args.self.now in
    let f = c.args.symbol.now in
    let made = c.in-Some.ensures.made in
    let found = subst (AreTableViews (listed_table s.table.now) s.list.now) c.in-Found.is s.views_are in
    let flat = found.list_is.list_is made.0 in
    omega (arith, symbol_below (listed_table s.table.now) s.list.now.list f flat c.requires.symbol, flat.few, ap (λ (x : FlatTargets). number_of x.base f) made.1)

pub view-requires-in-Some-clause-symbol : goal.view-requires-in-Some-clause-symbol
view-requires-in-Some-clause-symbol c =
    let s = c.args.self.now in
    let f = c.args.symbol.now in
    let made = c.in-Some.ensures.made in
    let found = subst (AreTableViews (listed_table s.table.now) s.list.now) c.in-Found.is s.views_are in
    let flat = found.list_is.list_is made.0 in
    omega (
      arith,
      c.number-in-Some.ensures,
      ap (λ (x : FlatTargets). number_of x.base f) made.1,
      symbol_below (listed_table s.table.now) s.list.now.list f flat c.requires.symbol,
      flat.starts_all,
      found.all made.0,
    )

pub view-requires-in-Some-clause-place : goal.view-requires-in-Some-clause-place
view-requires-in-Some-clause-place c =
    let s = c.args.self.now in
    let t = listed_table s.table.now in
    let f = c.args.symbol.now in
    let v = c.in-Found.views in
    let made = c.in-Some.ensures.made in
    let found = subst (AreTableViews t s.list.now) c.in-Found.is s.views_are in
    let flat = found.list_is.list_is made.0 in
    let number : c.number-in-Some.result ≡ number_of (base_of t) f = c.number-in-Some.ensures ∙ (ap (λ (x : FlatTargets). number_of x.base f) made.1 ∙ ap (λ b. number_of b f) flat.base_is) in
    subst (λ n. get_or v.starts.items n 0 + c.args.place < length v.numbers.items) (sym number) (found.within made.0 f c.args.place c.requires)
