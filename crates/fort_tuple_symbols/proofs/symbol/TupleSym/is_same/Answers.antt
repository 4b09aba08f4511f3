use Rattle.std.proofs.Common.{◌≡◌, ap, sym, ◌∙◌, take, map, ℕ, List}
use Rattle.std.proofs.lemmas.Slice.Eq.{slice_eq-Decides}
use Rattle.std.proofs.lemmas.Bool.Decides.{Decides-eqb}
use Rattle.fort_tuple_symbols.specs.Columns.{column_of, digit_of, digits_again}
use Rattle.fort_tuple_symbols.proofs.symbol.TupleSym.is_same.Goals as goal

same_digits : (xs ys : List ℕ) → map column_of xs ≡ map column_of ys → xs ≡ ys
same_digits xs ys e = sym (digits_again xs) ∙ (ap (map digit_of) e ∙ digits_again ys)

pub returns : goal.returns
returns c =
    let xs = take c.self.inside.len c.self.inside.digits in
    let ys = take c.other.inside.len c.other.inside.digits in
    let d = slice_eq-Decides Decides-eqb xs ys c.eq.result c.eq.ensures in (
      λ t. sym c.self.view_is ∙ (ap (map column_of) (d.0 t) ∙ c.other.view_is),
      λ e. d.1 (same_digits xs ys (c.self.view_is ∙ (e ∙ sym c.other.view_is))),
    )
