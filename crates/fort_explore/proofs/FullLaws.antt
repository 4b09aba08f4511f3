-- Which states are accepting.
use Rattle.std.proofs.Common.{◌≡◌, ℕ, ◌-◌, ◌^◌, ◌<◌, List, [], length, get_or, Bool, false, ap, sym, ◌∙◌, arith}
use Rattle.fort_theory.specs.Signatures.{Signature}
use Rattle.fort_tables.specs.Tuples.{Tuple, IsTuple, IsFull}
use Rattle.fort_tables.specs.Entries.{Entry, tuples_of}
use Rattle.fort_tables.specs.Labels.{Labelling, first_word, final_by, TellsPresence}
use Rattle.fort_tables.proofs.PresenceLaws.{presence_from_full, full_from_presence}
use Rattle.fort_tables.proofs.EqualTests.{if_equal, if_apart}
use Rattle.fort_explore.specs.Exploring.{IsKnown, ListsEntries, IsLabelTarget, AreLabelFinals, state_in}
use Rattle.fort_explore.proofs.StateLaws.{state_has_label}
use Rattle.fort_explore.proofs.KnownLaws.{known_closed, label_at, length_known}

-- a tuple without absent columns is accepted where its label is, and no other tuple is
pub record HasFinalsByLabel (sig : Signature) (columns : ℕ) (label : Labelling) (accepting : List ℕ → Bool) (es : List Entry) (qs : List ℕ) (finals : List Bool) : Type 0 where
  pub full : (t : Tuple) → IsTuple sig columns t → IsFull t → get_or finals (state_in es qs t) false ≡ accepting (label t)
  pub partial : (t : Tuple) → IsTuple sig columns t → (IsFull t → ⊥) → get_or finals (state_in es qs t) false ≡ false

pub known_finals : (sig : Signature) (n : ℕ) (label : Labelling) (accepting : List ℕ → Bool) (fs : List Entry) (labels : List (List ℕ)) (es : List Entry) (qs : List ℕ) (finals : List Bool) → TellsPresence sig n label → IsKnown sig n label fs labels → ListsEntries sig n labels es → length qs ≡ length es → ((k : ℕ) (d : Entry) → k < length es → IsLabelTarget sig n label labels (get_or es k d) (get_or qs k 0)) → AreLabelFinals n accepting labels finals → HasFinalsByLabel sig n label accepting es qs finals
known_finals sig n label accepting fs labels es qs finals tells k lists count targets f =
    let x = known_closed sig n label fs labels es qs tells k lists count targets in
    let has = state_has_label sig n label (tuples_of fs) es qs tells x in
    let within : (t : Tuple) → IsTuple sig n t → state_in es qs t < length labels = λ t h. omega (arith, (has t h).within, (length_known sig n label fs labels k).0) in
    let row : (t : Tuple) → IsTuple sig n t → get_or labels (state_in es qs t) [] ≡ label t = λ t h. label_at sig n label fs labels k (state_in es qs t) (within t h) ∙ sym (has t h).label_is in
    let final : (t : Tuple) → IsTuple sig n t → get_or finals (state_in es qs t) false ≡ final_by n accepting (label t) = λ t h. f.are (state_in es qs t) (within t h) ∙ ap (final_by n accepting) (row t h) in
    record {
      full = λ t h p. final t h ∙ if_equal (first_word (label t)) (2 ^ n - 1) (accepting (label t)) false (tells t h ∙ (presence_from_full t p ∙ ap (λ m. 2 ^ m - 1) h.width));
      partial = λ t h p. final t h ∙ if_apart (first_word (label t)) (2 ^ n - 1) (accepting (label t)) false (λ e. p (full_from_presence t (sym (tells t h) ∙ (e ∙ ap (λ m. 2 ^ m - 1) (sym h.width)))));
    }
