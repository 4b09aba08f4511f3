-- Inside: what the fields of a row stand for.
use Rattle.std.specs.Prelude.{◌≡◌, ℕ, ◌-◌, ◌≤◌, ◌++◌, map, length, take, drop, replicate, get_or}
use Rattle.std.proofs.Common.{ap, sym, ◌∙◌, arith}
use Rattle.std.proofs.lemmas.List.{length-map, length-take-le, take-append-drop}
use Rattle.fort_tables.specs.Entries.{Entry}
use Rattle.fort_tuple_symbols.specs.Columns.{column_of, digit_of, digits_again}
use Rattle.fort_tuple_symbols.specs.declared.row.Row.TheInside.{Inside}

abbrev pub entry_in : Inside → Entry
entry_in a = record { symbol = map column_of (take a.len a.digits); kids = take a.count a.kids }

-- what stands past the counts is 0
pub record IsCanonical (a : Inside) : Type 0 where
  pub short : a.len ≤ 16
  pub size : length a.digits ≡ 16
  pub clear : drop a.len a.digits ≡ replicate (16 - a.len) 0
  pub small : (k : ℕ) → get_or a.digits k 0 ≤ 65536
  pub few : a.count ≤ 8
  pub room : length a.kids ≡ 8
  pub empty : drop a.count a.kids ≡ replicate (8 - a.count) 0

abbrev pub inside_of : Entry → Inside
inside_of e = record {
  len = length e.symbol;
  digits = map digit_of e.symbol ++ replicate (16 - length e.symbol) 0;
  count = length e.kids;
  kids = e.kids ++ replicate (8 - length e.kids) 0;
}

pub inside_again : (a : Inside) → IsCanonical a → inside_of (entry_in a) ≡ a
inside_again a h =
    let ds = take a.len a.digits in
    let ks = take a.count a.kids in
    let p : length (map column_of ds) ≡ a.len = length-map ds column_of ∙ length-take-le a.len a.digits (omega (arith, h.short, h.size)) in
    let q : map digit_of (map column_of ds) ++ replicate (16 - length (map column_of ds)) 0 ≡ a.digits =
    ap (λ es. es ++ replicate (16 - length (map column_of ds)) 0) (digits_again ds)
    ∙ (ap (λ n. ds ++ replicate (16 - n) 0) p ∙ (ap (λ es. ds ++ es) (sym h.clear) ∙ take-append-drop a.len a.digits)) in
    let c : length ks ≡ a.count = length-take-le a.count a.kids (omega (arith, h.few, h.room)) in
    let k : ks ++ replicate (8 - length ks) 0 ≡ a.kids =
    ap (λ n. ks ++ replicate (8 - n) 0) c ∙ (ap (λ es. ks ++ es) (sym h.empty) ∙ take-append-drop a.count a.kids) in
    λ i. record { len = p i; digits = q i; count = c i; kids = k i }
