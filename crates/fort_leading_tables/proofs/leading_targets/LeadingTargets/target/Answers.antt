use Rattle.std.proofs.Common.{◌≡◌, ◌<◌, ◌++◌, List, ℕ, length, get_or, ap, sym, ◌∙◌, arith}
use Rattle.std.proofs.lemmas.List.{length-map, get_or_default}
use Rattle.fort_tables.specs.Entries.{entry}
use Rattle.fort_tuple_symbols.specs.Columns.{column_of, symbol_of, digits_again}
use Rattle.fort_leading_tables.specs.EntryNumbers.{numbers_of}
use Rattle.fort_leading_tables.proofs.TargetLaws.{is_there, stands_there, target_there}
use Rattle.fort_leading_tables.proofs.leading_targets.LeadingTargets.target.Goals as goal

pub unreachable-requires : goal.unreachable-requires
unreachable-requires c =
    let r = c.requires.there in
    let ds = c.args.digits.now in
    let ks = c.args.kids.now in
    let e = entry (symbol_of ds) ks in
    let w : length e.symbol ≡ r.0 = length-map ds column_of ∙ r.4 in
    let is : c.as_slice.result.now ≡ numbers_of e = c.as_slice.ensures _ c.of-key.ensures ∙ ap (λ xs. xs ++ ks) (sym (digits_again ds)) in
    is_there r.0 r.1 r.2 c.args.self.now e r.3 w r.5 (λ q l h. c.in-None.ensures q l (h ∙ sym is))

pub returns : goal.returns
returns c = λ columns es qs are width there.
    let ds = c.args.digits.now in
    let ks = c.args.kids.now in
    let e = entry (symbol_of ds) ks in
    let w : length e.symbol ≡ columns = length-map ds column_of ∙ width in
    let is : c.as_slice.result.now ≡ numbers_of e = c.as_slice.ensures _ c.of-key.ensures ∙ ap (λ xs. xs ++ ks) (sym (digits_again ds)) in
    let place = c.in-Some.place in
    let s = stands_there columns es qs c.args.self.now e are w place c.in-Some.ensures.0 (c.in-Some.ensures.1 ∙ is) in
    let low : place < length qs = omega (arith, are.count, s.0) in
    let read : c.index.result.now ≡ get_or qs place 0 =
    c.index.ensures ∙ (ap (λ (xs : List ℕ). get_or xs place c.index.result.now) are.targets ∙ get_or_default qs place c.index.result.now 0 low) in
    read ∙ sym (target_there columns es qs c.args.self.now e are w place c.in-Some.ensures.0 (c.in-Some.ensures.1 ∙ is))
