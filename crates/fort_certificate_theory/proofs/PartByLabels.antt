-- The table of a part that is right is a table by its labels.
use Rattle.std.proofs.Common.{◌≡◌, ℕ, ◌<◌, List, [], map, length, get_or, Bool, false, refl, ap, sym, ◌∙◌, arith}
use Rattle.std.proofs.lemmas.List.{length-map, get_or-map}
use Rattle.fort_tables.specs.Tuples.{Tuple, IsTuple}
use Rattle.fort_tables.specs.Entries.{Entry}
use Rattle.fort_tables.specs.Tables.{listed_table, AreFinals, IsListed, state_of, full_presence}
use Rattle.fort_tables.specs.Labels.{first_word, final_by}
use Rattle.fort_tables.specs.LabelRules.{LabelRule, IsLabelRule, label_of, IsTableBy}
use Rattle.fort_tables.proofs.EqualTests.{if_equal, if_apart, equal_from_if}
use Rattle.fort_tables.proofs.PresenceLaws.{presence_from_full, full_from_presence}
use Rattle.fort_tables.proofs.TableLaws.{table_state}
use Rattle.fort_tables.proofs.LabelRuleLaws.{TellsPresence-rule}
use Rattle.fort_certificate_theory.specs.PartSteps.{IsRightPart, part_made, part_table}
use Rattle.fort_certificate_theory.proofs.PartTables.{part_listed, state_label}

part_finals : (r : LabelRule) (accepting : List ℕ → Bool) (qs : List ℕ) (entries : List Entry) (ws : List (List ℕ)) → AreFinals (part_made r entries qs ws) (map (final_by r.columns accepting) ws)
part_finals r accepting qs entries ws = record {
  count = length-map ws (final_by r.columns accepting) ∙ sym (length-map ws first_word);
  full = λ q l h.
      let m : q < length ws = omega (arith, length-map ws first_word) in
      get_or-map first_word ws q [] 0 m
      ∙ equal_from_if (first_word (get_or ws q [])) (full_presence r.columns) (accepting (get_or ws q [])) (sym (get_or-map (final_by r.columns accepting) ws q [] false m) ∙ h);
}

-- Result: the entries in order, each once; states numbered as they come
pub part_is_listed : (r : LabelRule) (accepting : List ℕ → Bool) (qs : List ℕ) (entries : List Entry) (ws : List (List ℕ)) → IsLabelRule r → IsRightPart r qs entries ws
    → IsListed (part_table r accepting entries qs ws)
part_is_listed r accepting qs entries ws law h = part_listed r qs entries ws (map (final_by r.columns accepting) ws) law h (part_finals r accepting qs entries ws)

-- Result: lawful, each state with a tuple, and accepting by the labels of tuples
pub part_by_labels : (r : LabelRule) (accepting : List ℕ → Bool) (qs : List ℕ) (entries : List Entry) (ws : List (List ℕ)) → IsLabelRule r → IsRightPart r qs entries ws
    → IsTableBy r.signature r.columns (label_of r) accepting (listed_table (part_table r accepting entries qs ws))
part_by_labels r accepting qs entries ws law h =
    let n = r.columns in
    let table = listed_table (part_table r accepting entries qs ws) in
    let listed = part_is_listed r accepting qs entries ws law h in
    let tells = TellsPresence-rule r.signature r law.tells in
    let within : (t : Tuple) → IsTuple r.signature n t → state_of table t < length ws = λ t k. omega (arith, (table_state table listed.table t k).within, length-map ws first_word) in
    let final : (t : Tuple) → IsTuple r.signature n t → table.accepting (state_of table t) ≡ final_by n accepting (label_of r t) =
    λ t k. get_or-map (final_by n accepting) ws (state_of table t) [] false (within t k)
    ∙ ap (final_by n accepting) (state_label r qs entries ws (map (final_by n accepting) ws) law h (part_finals r accepting qs entries ws) t k) in
    record {
      signature = refl;
      columns_are = refl;
      lawful = listed.table;
      reached = listed.reached;
      full = λ t k p. final t k ∙ if_equal (first_word (label_of r t)) (full_presence n) (accepting (label_of r t)) false (tells t k ∙ (presence_from_full t p ∙ ap full_presence k.width));
      partial = λ t k p. final t k ∙ if_apart (first_word (label_of r t)) (full_presence n) (accepting (label_of r t)) false (λ e. p (full_from_presence t (sym (tells t k) ∙ (e ∙ ap full_presence (sym k.width)))));
    }
