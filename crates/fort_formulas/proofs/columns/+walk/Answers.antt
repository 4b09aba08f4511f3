use Rattle.std.proofs.Common.{◌≡◌, ◌↔◌, IsTrue, false, ◌++◌, ◌==◌, not, filter, rules, inl, inr, refl, ap, ◌∙◌}
use Rattle.std.proofs.lemmas.Fn.{filter_same}
use Rattle.std.proofs.lemmas.Result.{IfOk-weaker}
use Rattle.fort_theory.specs.Cores as theory
use Rattle.fort_theory.specs.Parts.{AreColumns, HasManyRootsAt}
use Rattle.fort_theory.proofs.ColumnLaws.{AreColumns-True, AreColumns-Normal, AreColumns-IsTerm, AreColumns-Related, AreColumns-InContext, AreColumns-same, AreColumns-two, AreColumns-bound}
use Rattle.fort_theory.proofs.TooWideLaws.{IsTooWide-same_iff, tells-leaf, tells-one, tells-two}
use Rattle.fort_relations.specs.RelView.{as_rel}
use Rattle.fort_relations.specs.HolesView.{as_hole_number, as_hole_place}
use Rattle.fort_relations.specs.RexView.{as_expression}
use Rattle.fort_formulas.specs.CoreView.{as_core}
use Rattle.fort_formulas.specs.Surveys.{IsSurveyOf}
use Rattle.fort_formulas.proofs.CoreShapes.{binary, postorder-leaf, postorder-variable, postorder-one, postorder-two, postorder-bound, short-leaf, short-variable, short-one, short-two, short-bound, told-short}
use Rattle.fort_formulas.proofs.columns.+walk.Goals as goal

pub returns-in-True : goal.returns-in-True
returns-in-True t c =
    let core = c.args.core.now in
    let made = c.surveyed.result.columns.items in
    let are : AreColumns (as_core core) made = rw (c.in-True.is, c.surveyed.ensures.columns, c.new.ensures.items) AreColumns-True in
    record {
      columns = are;
      wide =
          tells-leaf (as_core core) made c.surveyed.result.too_wide false (postorder-leaf core (inl c.in-True.is)) are
          (rw (← c.surveyed.ensures.columns) at c.surveyed.ensures.wide) (told-short (as_core core) (short-leaf core (inl c.in-True.is)));
    }

pub returns-in_ok-vec-in-Nf : goal.returns-in_ok-vec-in-Nf
returns-in_ok-vec-in-Nf t c =
    let core = c.args.core.now in
    let arm = c.in-Nf in
    let made = c.surveyed-in-Nf.result.columns.items in
    let are : AreColumns (as_core core) made =
    elim arm.is [
      | inl nf ↦ rw (nf.1, c.surveyed-in-Nf.ensures.columns, c.in_ok-vec-in-Nf.ensures.items) (AreColumns-Normal nf.0 arm.x)
      | inr is ↦ rw (is.1, c.surveyed-in-Nf.ensures.columns, c.in_ok-vec-in-Nf.ensures.items) (AreColumns-IsTerm arm.x is.0)
    ] in
    record {
      columns = are;
      wide =
          tells-leaf (as_core core) made c.surveyed-in-Nf.result.too_wide false (postorder-variable core arm.x arm.is) are
          (rw (← c.surveyed-in-Nf.ensures.columns) at c.surveyed-in-Nf.ensures.wide) (told-short (as_core core) (short-variable core arm.x arm.is));
    }

pub returns-in_ok-put_in_order-in-Atom : goal.returns-in_ok-put_in_order-in-Atom
returns-in_ok-put_in_order-in-Atom t c =
    let core = c.args.core.now in
    let arm = c.in-Atom in
    let put = c.in_ok-put_in_order-in-Atom.ensures in
    let made = c.surveyed-in-Atom.result.columns.items in
    let are : AreColumns (as_core core) made =
    rw (arm.is, c.surveyed-in-Atom.ensures.columns)
    (AreColumns-Related (as_rel arm.field-0) arm.field-1 arm.x arm.y _ put.rise (rw c.in_ok-columns-in-Atom.ensures.items at put.same)) in
    record {
      columns = are;
      wide =
          tells-leaf (as_core core) made c.surveyed-in-Atom.result.too_wide false
          (postorder-leaf core (inr (inl (arm.field-0, arm.field-1, arm.x, arm.y, arm.is)))) are
          (rw (← c.surveyed-in-Atom.ensures.columns) at c.surveyed-in-Atom.ensures.wide)
          (told-short (as_core core) (short-leaf core (inr (arm.field-0, arm.field-1, arm.x, arm.y, arm.is))));
    }

pub returns-in_ok-put_in_order-in-Rel : goal.returns-in_ok-put_in_order-in-Rel
returns-in_ok-put_in_order-in-Rel t c =
    let core = c.args.core.now in
    let arm = c.in-Rel in
    let put = c.in_ok-put_in_order-in-Rel.ensures in
    let made = c.surveyed-in-Rel.result.columns.items in
    let are : AreColumns (as_core core) made =
    rw (arm.is, c.surveyed-in-Rel.ensures.columns)
    (AreColumns-InContext (as_expression arm.rex) (as_hole_number arm.field-1) (as_hole_place arm.field-2) arm.x arm.y _ put.rise
    (rw c.in_ok-columns-in-Rel.ensures.items at put.same)) in
    let own : IsTrue c.has_many_roots.result ↔ HasManyRootsAt (as_core core) = rw arm.is c.has_many_roots.ensures in
    record {
      columns = are;
      wide =
          tells-leaf (as_core core) made c.surveyed-in-Rel.result.too_wide c.has_many_roots.result
          (postorder-leaf core (inr (inr (arm.rex, arm.field-1, arm.field-2, arm.x, arm.y, arm.is)))) are
          (rw (← c.surveyed-in-Rel.ensures.columns) at c.surveyed-in-Rel.ensures.wide) own;
    }

pub returns-in-Not : goal.returns-in-Not
returns-in-Not t c =
    let core = c.args.core.now in
    let arm = c.in-Not in
    let one = postorder-one core arm.f (inl arm.is) in
    IfOk-weaker c.walk.result _ _
    (λ s found.
    let operand = rw c.as_core.ensures at found in
    let are : AreColumns (as_core core) s.columns.items = rw arm.is (AreColumns-same (theory.Not arm.f) arm.f s.columns.items (λ n. refl) operand.columns) in
    let same = IsTooWide-same_iff (as_core core) arm.f s.columns.items one are operand.columns (short-one core arm.f (inl arm.is)) in
    record { columns = are; wide = ((λ e. same.0 (operand.wide.0 e)), (λ w. operand.wide.1 (same.1 w))) })
    c.walk.ensures

pub returns-in_ok-columns-in-Exists : goal.returns-in_ok-columns-in-Exists
returns-in_ok-columns-in-Exists t c =
    let core = c.args.core.now in
    let arm = c.in-Exists in
    let xs = c.in_ok-columns-in-Exists.field-0.columns.items in
    let made = c.surveyed-in-Exists.result.columns.items in
    let kept : c.retain.new.self.items ≡ filter (λ n. not (arm.n == n)) xs =
    filter_same _ (λ n. not (arm.n == n)) _ (λ x b f k. search rules) _ _ c.retain.ensures.filtered in
    let operand : IsSurveyOf arm.f c.in_ok-columns-in-Exists.field-0 = rw c.as_core-in-Exists.ensures at c.in_ok-columns-in-Exists.ensures in
    let are : AreColumns (as_core core) made =
    elim arm.is [
      | inl e ↦ rw (e, c.surveyed-in-Exists.ensures.columns, kept) (AreColumns-bound (theory.Exists arm.n arm.f) arm.f arm.n xs (λ n. refl) operand.columns)
      | inr e ↦ rw (e, c.surveyed-in-Exists.ensures.columns, kept) (AreColumns-bound (theory.Infinite arm.n arm.f) arm.f arm.n xs (λ n. refl) operand.columns)
    ] in
    record {
      columns = are;
      wide =
          tells-one (as_core core) arm.f made c.surveyed-in-Exists.result.too_wide c.in_ok-columns-in-Exists.field-0.too_wide
          (postorder-bound core arm.n arm.f arm.is) are (short-bound core arm.n arm.f arm.is) (rw (← c.surveyed-in-Exists.ensures.columns) at c.surveyed-in-Exists.ensures.wide) operand.wide;
    }

pub returns-in_ok-put_in_order-in-And : goal.returns-in_ok-put_in_order-in-And
returns-in_ok-put_in_order-in-And t c =
    let core = c.args.core.now in
    let arm = c.in-And in
    let first : IsSurveyOf arm.f c.in_ok-first-in-And.first = rw c.as_core-in-And.ensures at c.in_ok-first-in-And.ensures in
    let second : IsSurveyOf arm.g c.in_ok-second-in-And.second = rw c.as_core-in-And-2.ensures at c.in_ok-second-in-And.ensures in
    let xs = c.in_ok-first-in-And.first.columns.items in
    let ys = c.in_ok-second-in-And.second.columns.items in
    let made = c.surveyed-in-And.result.columns.items in
    let whole : c.extend_from_slice.new.self.items ≡ xs ++ ys =
    c.in_ok-extend_from_slice-in-And.ensures.items ∙ ap (λ zs. xs ++ zs) c.deref.ensures.value in
    let put = c.in_ok-put_in_order-in-And.ensures in
    let both = rw whole at put.same in
    let two = binary core arm.f arm.g arm.is in
    let are : AreColumns (as_core core) made =
    rw (two.1, c.surveyed-in-And.ensures.columns)
    (AreColumns-two (theory.Binary two.0 arm.f arm.g) arm.f arm.g xs ys _ (λ n. refl) first.columns second.columns put.rise both) in
    record {
      columns = are;
      wide =
          tells-two (as_core core) arm.f arm.g made c.surveyed-in-And.result.too_wide c.in_ok-first-in-And.first.too_wide
          c.in_ok-second-in-And.second.too_wide (postorder-two core arm.f arm.g arm.is) are (short-two core arm.f arm.g arm.is)
          (rw (← c.surveyed-in-And.ensures.columns) at c.surveyed-in-And.ensures.wide) first.wide second.wide;
    }
