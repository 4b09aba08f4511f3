-- Where a walk through the leading entries stands, it still does where a state is added.
use Rattle.std.proofs.Common.{◌≡◌, ℕ, ◌-◌, ◌<◌, ◌≤◌, List, [], ◌∷◌, ◌++◌, map, length, Option, None, Some, sym, ◌∙◌, arith}
use Rattle.std.proofs.lemmas.List.{length-map, length_push}
use Rattle.fort_theory.specs.Signatures.{Signature}
use Rattle.fort_tables.specs.Labels.{first_word}
use Rattle.fort_tuple_symbols.specs.Columns.{symbol_of}
use Rattle.fort_classes.specs.Keys.{Keys, leaders_by}
use Rattle.fort_entry_walk.specs.WalkPlaces.{place}
use Rattle.fort_leading_walk.specs.LeadingPlaces.{leaders_at, IsChosen, StandsAt}
use Rattle.fort_leading_walk.specs.declared.choices.Choice.{Choice}
use Rattle.fort_leading_walk.specs.declared.leading.LeadingWalk.{LeadingWalk}
use Rattle.fort_leading_walk.proofs.ListsStay.{lists_stay_by}

choice_stays : (key : Keys) (labels : List (List ℕ)) (v : List ℕ) (lists : List (List ℕ)) (w : LeadingWalk) (o : Option Choice) → w.walk.stage ≤ length (map first_word labels) → IsChosen (leaders_by key labels) (map first_word labels) lists w o
    → IsChosen (leaders_by key (labels ++ v ∷ [])) (map first_word (labels ++ v ∷ [])) lists w o
choice_stays key labels v lists w None l h = h
choice_stays key labels v lists w (Some c) l h =
    let m = w.walk.stage - 1 in
    let low : m < length labels = omega (arith, length-map labels first_word, h.some) in
    let old = leaders_at (leaders_by key labels) (map first_word labels) (place w.walk) in
    let new = leaders_at (leaders_by key (labels ++ v ∷ [])) (map first_word (labels ++ v ∷ [])) (place w.walk) in
    let same : old ≡ new = sym (lists_stay_by key (symbol_of w.walk.digits) labels v m 0 w.walk.wanted low) in
    record {
      some = h.some;
      is = h.is;
      turned = h.turned ∙ same;
    }

-- Result: so a caller goes from one call to the next
pub stands_stay : (sig : Signature) (key : Keys) (labels : List (List ℕ)) (v : List ℕ) (lists : List (List ℕ)) (w : LeadingWalk) → StandsAt sig (leaders_by key labels) (map first_word labels) lists w
    → StandsAt sig (leaders_by key (labels ++ v ∷ [])) (map first_word (labels ++ v ∷ [])) lists w
stands_stay sig key labels v lists w st = record {
  few = st.few;
  arities = st.arities;
  symbol = st.symbol;
  is_place = st.is_place;
  within = omega (arith, st.within, length-map labels first_word, length-map (labels ++ v ∷ []) first_word, length_push labels v);
  chosen = choice_stays key labels v lists w w.choice st.within st.chosen;
}
