-- The list of the leading entries after a place, by the choices of leaders.
use Rattle.std.proofs.Common.{◌≡◌, ℕ, zero, suc, ◌-◌, ◌<◌, List, [], ◌∷◌, ◌++◌, map, filter, cond, Bool, true, false, refl, ap, sym, ◌∙◌, arith, subst}
use Rattle.std.proofs.lemmas.List.Elements.{filter-append}
use Rattle.fort_theory.specs.Signatures.{Signature}
use Rattle.fort_tables.specs.Tuples.{TupleSymbol}
use Rattle.fort_tables.specs.Entries.{entry}
use Rattle.fort_tuple_symbols.specs.Columns.{symbol_of}
use Rattle.fort_classes.specs.Leaders.{Leaders}
use Rattle.fort_entry_walk.specs.WalkPlaces.{Place, wants}
use Rattle.fort_entry_walk.specs.Walks.{stage_kids, stage_kids_after, kids_after, entries_after}
use Rattle.fort_entry_walk.specs.WalkFacts.{IsFound, later_entries}
use Rattle.fort_entry_walk.proofs.EntryMembers.{no_kids}
use Rattle.fort_leading_walk.specs.Choices.{choices, choices_after, chosen, AreIn}
use Rattle.fort_leading_walk.specs.LeaderStates.{all_lead, leader_states}
use Rattle.fort_leading_walk.specs.LeadingPlaces.{leaders_at}
use Rattle.fort_leading_walk.specs.LeadingFacts.{leads, leading_after, later_leading}
use Rattle.fort_leading_walk.proofs.LeadingChoices.{choices_lead}
use Rattle.fort_leading_walk.proofs.LeadingAfter.{choices_after_lead}

-- of a symbol's entries those lead whose child states do
of_symbol : (lead : Leaders) (f : TupleSymbol) (xs : List (List ℕ)) → filter (leads lead) (map (entry f) xs) ≡ map (entry f) (filter (all_lead lead f 0) xs)
of_symbol lead f [] = refl
of_symbol lead f (ks ∷ xs) =
    let F : Bool → Type 0 = λ b. cond b (entry f ks ∷ filter (leads lead) (map (entry f) xs)) (filter (leads lead) (map (entry f) xs)) ≡ map (entry f) (cond b (ks ∷ filter (all_lead lead f 0) xs) (filter (all_lead lead f 0) xs)) in
    let both : (b : Bool) → F b = λ b. elim b as F [ true ↦ ap (λ es. entry f ks ∷ es) (of_symbol lead f xs) | false ↦ of_symbol lead f xs ] in
    both (all_lead lead f 0 ks)

-- the choices at a stage, and those after one
pub stage_choices : (lead : Leaders) (f : TupleSymbol) (ps : List ℕ) (s : ℕ) (ws : List ℕ) → 0 < s → choices (s - 1) (leader_states lead f ps (s - 1) 0 ws) false ≡ filter (all_lead lead f 0) (stage_kids ps s ws)
stage_choices lead f ps zero ws l = absurd (omega arith)
stage_choices lead f ps (suc m) ws l =
    let e : suc m - 1 ≡ m = omega arith in
    ap (λ n. choices n (leader_states lead f ps n 0 ws) false) e ∙ choices_lead lead f ps m 0 ws false

pub stage_choices_after : (lead : Leaders) (f : TupleSymbol) (ps : List ℕ) (s : ℕ) (ws is : List ℕ) → 0 < s → AreIn (leader_states lead f ps (s - 1) 0 ws) is
    → choices_after (s - 1) (leader_states lead f ps (s - 1) 0 ws) false is ≡ filter (all_lead lead f 0) (stage_kids_after ps s ws (chosen (leader_states lead f ps (s - 1) 0 ws) is))
stage_choices_after lead f ps zero ws is l h = absurd (omega arith)
stage_choices_after lead f ps (suc m) ws is l h =
    let e : m ≡ suc m - 1 = omega arith in
    let F : ℕ → Type 0 = λ n. AreIn (leader_states lead f ps n 0 ws) is → choices_after n (leader_states lead f ps n 0 ws) false is ≡ filter (all_lead lead f 0) (kids_after ps m ws false (chosen (leader_states lead f ps n 0 ws) is)) in
    subst F e (choices_after_lead lead f ps m 0 ws is false) h

-- some entries of the symbol, and then all that come behind the symbol
split : (sig : Signature) (ps : List ℕ) (lead : Leaders) (p : Place) (xs : List (List ℕ)) → filter (leads lead) (map (entry (symbol_of p.digits)) xs ++ later_entries sig ps p.stage p.digits) ≡ map (entry (symbol_of p.digits)) (filter (all_lead lead (symbol_of p.digits) 0) xs) ++ later_leading sig ps lead p.stage p.digits
split sig ps lead p xs =
    filter-append (leads lead) (map (entry (symbol_of p.digits)) xs) (later_entries sig ps p.stage p.digits)
    ∙ ap (λ es. es ++ later_leading sig ps lead p.stage p.digits) (of_symbol lead (symbol_of p.digits) xs)

-- Result: what leads behind some digits begins with the choices at the symbol that is found
pub found_choices : (sig : Signature) (ps : List ℕ) (lead : Leaders) (s : ℕ) (ds : List ℕ) (p : Place) → IsFound sig ps s ds p → 0 < p.stage
    → later_leading sig ps lead s ds ≡ map (entry (symbol_of p.digits)) (choices (p.stage - 1) (leaders_at lead ps p) false) ++ later_leading sig ps lead p.stage p.digits
found_choices sig ps lead s ds p f l =
    let symbol = symbol_of p.digits in
    let later = later_entries sig ps p.stage p.digits in
    let first : stage_kids ps p.stage (wants sig symbol) ≡ p.kids ∷ stage_kids_after ps p.stage (wants sig symbol) p.kids = subst (λ (ws : List ℕ). stage_kids ps p.stage ws ≡ p.kids ∷ stage_kids_after ps p.stage ws p.kids) f.placed.wanted f.first in
    let kids : filter (all_lead lead symbol 0) (stage_kids ps p.stage (wants sig symbol)) ≡ choices (p.stage - 1) (leaders_at lead ps p) false =
    ap (λ ws. filter (all_lead lead symbol 0) (stage_kids ps p.stage ws)) (sym f.placed.wanted) ∙ sym (stage_choices lead symbol ps p.stage p.wanted l) in
    ap (filter (leads lead)) (f.next ∙ ap (λ ls. map (entry symbol) ls ++ later) (sym first))
    ∙ (split sig ps lead p (stage_kids ps p.stage (wants sig symbol))
    ∙ ap (λ cs. map (entry symbol) cs ++ later_leading sig ps lead p.stage p.digits) kids)

-- Result: what leads after a choice are the choices after it, and what comes behind its symbol
pub after_choice : (sig : Signature) (ps : List ℕ) (lead : Leaders) (p : Place) (is : List ℕ) → p.wanted ≡ wants sig (symbol_of p.digits) → 0 < p.stage → AreIn (leaders_at lead ps p) is → p.kids ≡ chosen (leaders_at lead ps p) is
    → leading_after sig ps lead p ≡ map (entry (symbol_of p.digits)) (choices_after (p.stage - 1) (leaders_at lead ps p) false is) ++ later_leading sig ps lead p.stage p.digits
after_choice sig ps lead p is w l h k =
    let symbol = symbol_of p.digits in
    let kids : filter (all_lead lead symbol 0) (stage_kids_after ps p.stage (wants sig symbol) p.kids) ≡ choices_after (p.stage - 1) (leaders_at lead ps p) false is =
    ap (λ ws. filter (all_lead lead symbol 0) (stage_kids_after ps p.stage ws p.kids)) (sym w)
    ∙ (ap (λ ks. filter (all_lead lead symbol 0) (stage_kids_after ps p.stage p.wanted ks)) k ∙ sym (stage_choices_after lead symbol ps p.stage p.wanted is l h)) in
    split sig ps lead p (stage_kids_after ps p.stage (wants sig symbol) p.kids)
    ∙ ap (λ cs. map (entry symbol) cs ++ later_leading sig ps lead p.stage p.digits) kids

-- an entry without children leads
pub found_without : (sig : Signature) (ps : List ℕ) (lead : Leaders) (s : ℕ) (ds : List ℕ) (p : Place) → IsFound sig ps s ds p → p.stage ≡ 0
    → later_leading sig ps lead s ds ≡ entry (symbol_of p.digits) [] ∷ leading_after sig ps lead record { stage = p.stage; digits = p.digits; kids = []; wanted = p.wanted }
found_without sig ps lead s ds p f z =
    let none : p.kids ≡ [] = no_kids p.kids (f.placed.stage ∙ z) in
    ap (filter (leads lead)) f.next
    ∙ ap (λ ks. filter (leads lead) (entry (symbol_of p.digits) ks ∷ entries_after sig ps record { stage = p.stage; digits = p.digits; kids = ks; wanted = p.wanted })) none

-- and nothing comes after it at its symbol
pub after_without : (sig : Signature) (ps : List ℕ) (lead : Leaders) (p : Place) → p.stage ≡ 0 → leading_after sig ps lead p ≡ later_leading sig ps lead p.stage p.digits
after_without sig ps lead p z =
    let symbol = symbol_of p.digits in
    ap (λ s. filter (leads lead) (map (entry symbol) (stage_kids_after ps s (wants sig symbol) p.kids) ++ later_entries sig ps p.stage p.digits)) z
