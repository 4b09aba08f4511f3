-- Where two tuples have one label exactly where they are alike, there are more labels than a cap exactly where there are more tuples, no two of them alike.
use Rattle.std.specs.Prelude.{◌≡◌, ◌↔◌, ℕ, [], get_or}
use Rattle.fort_theory.specs.Signatures.{Signature}
use Rattle.fort_tables.specs.Tuples.{Tuple, IsTuple}
use Rattle.fort_tables.specs.Labels.{Labelling, HasMoreLabels}
use Rattle.fort_alike.specs.UnlikeTuples.{IsOver}

-- Result: labels and tuples of a part are as many
pub HasMoreLabels-IsOver : (sig : Signature) (columns : ℕ) (label : Labelling) (Like : Tuple → Tuple → Type 0)
    → ((t u : Tuple) → IsTuple sig columns t → IsTuple sig columns u → (label t ≡ label u) ↔ Like t u)
    → (cap : ℕ) → HasMoreLabels sig columns label cap ↔ IsOver sig columns Like cap
HasMoreLabels-IsOver sig columns label Like same cap = (
  (λ w. (
    w.0,
    record {
      many = w.1.many;
      tuples = w.1.tuples;
      unlike = λ i j l m h. w.1.apart i j l m ((same (get_or w.0 i []) (get_or w.0 j []) (w.1.tuples i l) (w.1.tuples j m)).1 h);
    },
  )),
  (λ w. (
    w.0,
    record {
      many = w.1.many;
      tuples = w.1.tuples;
      apart = λ i j l m h. w.1.unlike i j l m ((same (get_or w.0 i []) (get_or w.0 j []) (w.1.tuples i l) (w.1.tuples j m)).0 h);
    },
  )),
)
