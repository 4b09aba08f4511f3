-- What a walk through the leading entries comes to by a step.
use Rattle.std.proofs.Common.{◌≡◌, ℕ, ◌-◌, ◌<◌, ◌≤◌, List, [], ◌∷◌, ◌++◌, map, filter, length, Bool, true, false, None, Some, refl, ap, sym, ◌∙◌, arith, subst, inl, ⊎_elim, true≢false}
use Rattle.std.proofs.lemmas.List.{length-append}
use Rattle.fort_theory.specs.Signatures.{Signature}
use Rattle.fort_tables.specs.Tuples.{IsTupleSymbol}
use Rattle.fort_tables.specs.Entries.{Entry, entry, stage, IsEntry, ComesBefore}
use Rattle.fort_tuple_symbols.specs.Columns.{symbol_of}
use Rattle.fort_classes.specs.Leaders.{Leaders}
use Rattle.fort_entry_walk.specs.WalkPlaces.{AreArities, Place, wants, place, entry_at, IsPlace}
use Rattle.fort_entry_walk.specs.Walks.{stage_kids, stage_kids_after}
use Rattle.fort_entry_walk.specs.WalkFacts.{IsFound, later_entries}
use Rattle.fort_entry_walk.specs.declared.walk.Walk.{Walk}
use Rattle.fort_entry_walk.proofs.InLaws.{In, In-right}
use Rattle.fort_entry_walk.proofs.EntryMembers.{from_stage_kids, from_stage_kids_after, from_after}
use Rattle.fort_leading_walk.specs.Choices.{choices, choices_after, chosen, IsLastInEach, IsChoice, IsFirstChoice}
use Rattle.fort_leading_walk.specs.LeaderStates.{all_lead}
use Rattle.fort_leading_walk.specs.Turns.{MayTurn}
use Rattle.fort_leading_walk.specs.LeadingPlaces.{leading_place, leading_entry, leaders_at, IsChosen, IsAmongLeaders, StandsAt, IsLeadingStep}
use Rattle.fort_leading_walk.specs.LeadingFacts.{leading_after, later_leading, IsFirstLeading, IsStepAmong, IsSearching}
use Rattle.fort_leading_walk.specs.declared.choices.Choice.{Choice}
use Rattle.fort_leading_walk.specs.declared.leading.LeadingWalk.{LeadingWalk}
use Rattle.fort_leading_walk.proofs.LeadingChoices.{last_in_each}
use Rattle.fort_leading_walk.proofs.LeadingLists.{stage_choices, stage_choices_after, found_choices, after_choice, found_without, after_without}
use Rattle.fort_leading_walk.proofs.NextLeading.{In-from_filter, next_leading, last_leading, up_to_stage}

-- a walk with a choice
abbrev pub chosen_walk : Walk → Choice → LeadingWalk
chosen_walk w c = record { walk = w; choice = Some c }

same_chosen : (w : LeadingWalk) (c : Choice) → w.choice ≡ Some c → chosen_walk w.walk c ≡ w
same_chosen w c e = rw e refl

-- other child states of a symbol's stage are a place too
kids_placed : (sig : Signature) (p : Place) (ks : List ℕ) → IsPlace sig p → stage ks ≡ p.stage → IsPlace sig record { stage = p.stage; digits = p.digits; kids = ks; wanted = p.wanted }
kids_placed sig p ks h e = record { stage = e; digits = h.digits; kids = up_to_stage p.stage ks e; wanted = h.wanted }

-- the first choice is of the stage
first_placed : (sig : Signature) (ps : List ℕ) (lead : Leaders) (p : Place) (c : Choice) → IsPlace sig p → p.stage ≤ length ps → 0 < p.stage → IsFirstChoice (p.stage - 1) (leaders_at lead ps p) (choices (p.stage - 1) (leaders_at lead ps p) false) c
    → IsPlace sig record { stage = p.stage; digits = p.digits; kids = c.picks.leaders; wanted = p.wanted }
first_placed sig ps lead p c h l some f =
    let symbol = symbol_of p.digits in
    let ks = c.picks.leaders in
    let all = stage_kids ps p.stage p.wanted in
    let there : In ks (filter (all_lead lead symbol 0) all) = subst (λ (cs : List (List ℕ)). In ks cs) (sym f.first ∙ stage_choices lead symbol ps p.stage p.wanted some) (inl refl) in
    let at = from_stage_kids sig symbol ps ks p.stage l (subst (λ (ws : List ℕ). In ks (stage_kids ps p.stage ws)) h.wanted (In-from_filter (all_lead lead symbol 0) ks all there).0) in
    kids_placed sig p ks h at.stage_is

-- and so is the one that comes next
next_placed : (sig : Signature) (ps : List ℕ) (lead : Leaders) (p : Place) (c d : Choice) → IsPlace sig p → p.stage ≤ length ps → 0 < p.stage → p.kids ≡ c.picks.leaders → IsChoice (p.stage - 1) (leaders_at lead ps p) c
    → IsFirstChoice (p.stage - 1) (leaders_at lead ps p) (choices_after (p.stage - 1) (leaders_at lead ps p) false c.picks.indices) d → IsPlace sig record { stage = p.stage; digits = p.digits; kids = d.picks.leaders; wanted = p.wanted }
next_placed sig ps lead p c d h l some k i f =
    let symbol = symbol_of p.digits in
    let ks = d.picks.leaders in
    let front = chosen (leaders_at lead ps p) c.picks.indices in
    let all = stage_kids_after ps p.stage p.wanted front in
    let there : In ks (filter (all_lead lead symbol 0) all) = subst (λ (cs : List (List ℕ)). In ks cs) (sym f.first ∙ stage_choices_after lead symbol ps p.stage p.wanted c.picks.indices some i.within) (inl refl) in
    let old : p.kids ≡ front = k ∙ i.leaders in
    let here : In ks (stage_kids_after ps p.stage (wants sig symbol) p.kids) =
    subst (λ (ws : List ℕ). In ks (stage_kids_after ps p.stage ws p.kids)) h.wanted
    (subst (λ (xs : List ℕ). In ks (stage_kids_after ps p.stage p.wanted xs)) (sym old) (In-from_filter (all_lead lead symbol 0) ks all there).0) in
    let at = from_stage_kids_after sig symbol ps p.kids ks p.stage l h.kids here in
    kids_placed sig p ks h at.0.stage_is

-- Result: the next choice is that of the next leading entry
next_of_chosen : (sig : Signature) (lead : Leaders) (ps : List ℕ) (lists : List (List ℕ)) (w : Walk) (c d : Choice) → StandsAt sig lead ps lists (chosen_walk w c)
    → IsFirstChoice (w.stage - 1) lists (choices_after (w.stage - 1) lists false c.picks.indices) d → IsFirstLeading sig lead ps lists (leading_after sig ps lead (leading_place (chosen_walk w c))) (chosen_walk w d)
next_of_chosen sig lead ps lists w c d st g =
    let symbol = symbol_of w.digits in
    let old = leading_place (chosen_walk w c) in
    let new = leading_place (chosen_walk w d) in
    let there = leaders_at lead ps old in
    let at = st.chosen in
    let is : IsChoice (w.stage - 1) there c = subst (λ (ls : List (List ℕ)). IsChoice (w.stage - 1) ls c) at.turned at.is in
    let f : IsFirstChoice (w.stage - 1) there (choices_after (w.stage - 1) there false c.picks.indices) d =
    subst (λ (ls : List (List ℕ)). IsFirstChoice (w.stage - 1) ls (choices_after (w.stage - 1) ls false c.picks.indices) d) at.turned g in
    record {
      stands = record {
        few = st.few;
        arities = st.arities;
        symbol = st.symbol;
        is_place = next_placed sig ps lead old c d st.is_place st.within at.some refl is f;
        within = st.within;
        chosen = record { some = at.some; is = g.is; turned = at.turned };
      };
      first = after_choice sig ps lead old c.picks.indices st.is_place.wanted at.some is.within is.leaders
          ∙ (ap (λ cs. map (entry symbol) cs ++ later_leading sig ps lead w.stage w.digits) f.first
          ∙ ap (λ es. leading_entry (chosen_walk w d) ∷ es) (sym (after_choice sig ps lead new d.picks.indices st.is_place.wanted at.some f.is.within f.is.leaders)));
    }

pub choice_next : (sig : Signature) (lead : Leaders) (ps : List ℕ) (lists : List (List ℕ)) (w : LeadingWalk) (c d : Choice) → w.choice ≡ Some c → StandsAt sig lead ps lists w
    → IsFirstChoice (w.walk.stage - 1) lists (choices_after (w.walk.stage - 1) lists false c.picks.indices) d → IsFirstLeading sig lead ps lists (leading_after sig ps lead (leading_place w)) (chosen_walk w.walk d)
choice_next sig lead ps lists w c d e st g =
    let F : LeadingWalk → Type 0 = λ v. StandsAt sig lead ps lists v → IsFirstLeading sig lead ps lists (leading_after sig ps lead (leading_place v)) (chosen_walk w.walk d) in
    subst F (same_chosen w c e) (λ s. next_of_chosen sig lead ps lists w.walk c d s g) st

-- where there is none, what leads comes behind the symbol
last_of_chosen : (sig : Signature) (lead : Leaders) (ps : List ℕ) (lists : List (List ℕ)) (w : Walk) (c : Choice) → StandsAt sig lead ps lists (chosen_walk w c)
    → choices_after (w.stage - 1) lists false c.picks.indices ≡ [] → leading_after sig ps lead (leading_place (chosen_walk w c)) ≡ later_leading sig ps lead w.stage w.digits
last_of_chosen sig lead ps lists w c st none =
    let at = st.chosen in
    let old = leading_place (chosen_walk w c) in
    let is : IsChoice (w.stage - 1) (leaders_at lead ps old) c = subst (λ (ls : List (List ℕ)). IsChoice (w.stage - 1) ls c) at.turned at.is in
    let here : choices_after (w.stage - 1) (leaders_at lead ps old) false c.picks.indices ≡ [] = subst (λ (ls : List (List ℕ)). choices_after (w.stage - 1) ls false c.picks.indices ≡ []) at.turned none in
    after_choice sig ps lead old c.picks.indices st.is_place.wanted at.some is.within is.leaders
    ∙ ap (λ cs. map (entry (symbol_of w.digits)) cs ++ later_leading sig ps lead w.stage w.digits) here

pub choice_last : (sig : Signature) (lead : Leaders) (ps : List ℕ) (lists : List (List ℕ)) (w : LeadingWalk) (c : Choice) → w.choice ≡ Some c → StandsAt sig lead ps lists w
    → choices_after (w.walk.stage - 1) lists false c.picks.indices ≡ [] → leading_after sig ps lead (leading_place w) ≡ later_leading sig ps lead w.walk.stage w.walk.digits
choice_last sig lead ps lists w c e st none =
    let F : LeadingWalk → Type 0 = λ v. StandsAt sig lead ps lists v → leading_after sig ps lead (leading_place v) ≡ later_leading sig ps lead w.walk.stage w.walk.digits in
    subst F (same_chosen w c e) (λ s. last_of_chosen sig lead ps lists w.walk c s none) st

-- and so it does after an entry without children
pub no_choice_last : (sig : Signature) (lead : Leaders) (ps : List ℕ) (lists : List (List ℕ)) (w : LeadingWalk) → w.choice ≡ None → StandsAt sig lead ps lists w
    → leading_after sig ps lead (leading_place w) ≡ later_leading sig ps lead w.walk.stage w.walk.digits
no_choice_last sig lead ps lists w e st = after_without sig ps lead (leading_place w) (subst (IsChosen lead ps lists w) e st.chosen)

-- the lists of a choice end in the newest state, where they have it
pub turned_last : (sig : Signature) (lead : Leaders) (ps : List ℕ) (lists : List (List ℕ)) (w : LeadingWalk) (c : Choice) → w.choice ≡ Some c → StandsAt sig lead ps lists w → IsLastInEach (w.walk.stage - 1) lists
turned_last sig lead ps lists w c e st =
    let at : IsAmongLeaders lead ps lists w c = subst (IsChosen lead ps lists w) e st.chosen in
    subst (IsLastInEach (w.walk.stage - 1)) (sym at.turned) (last_in_each lead (symbol_of w.walk.digits) ps (w.walk.stage - 1) 0 w.walk.wanted)

-- Result: the first choice at a symbol that is found is that of the first leading entry behind
pub choice_found : (sig : Signature) (lead : Leaders) (ps : List ℕ) (s : ℕ) (ds : List ℕ) (lists : List (List ℕ)) (w : Walk) (c : Choice) → length w.digits ≤ 16 → AreArities sig w.arities → IsFound sig ps s ds (place w) → 0 < w.stage
    → lists ≡ leaders_at lead ps (place w) → IsFirstChoice (w.stage - 1) lists (choices (w.stage - 1) lists false) c → IsFirstLeading sig lead ps lists (later_leading sig ps lead s ds) (chosen_walk w c)
choice_found sig lead ps s ds lists w c few arities found some same g =
    let symbol = symbol_of w.digits in
    let new = leading_place (chosen_walk w c) in
    let there = leaders_at lead ps (place w) in
    let f : IsFirstChoice (w.stage - 1) there (choices (w.stage - 1) there false) c = subst (λ (ls : List (List ℕ)). IsFirstChoice (w.stage - 1) ls (choices (w.stage - 1) ls false) c) same g in
    record {
      stands = record {
        few = few;
        arities = arities;
        symbol = found.placed;
        is_place = first_placed sig ps lead (place w) c found.placed found.within some f;
        within = found.within;
        chosen = record { some = some; is = g.is; turned = same };
      };
      first = found_choices sig ps lead s ds (place w) found some
          ∙ (ap (λ cs. map (entry symbol) cs ++ later_leading sig ps lead w.stage w.digits) f.first
          ∙ ap (λ es. leading_entry (chosen_walk w c) ∷ es) (sym (after_choice sig ps lead new c.picks.indices found.placed.wanted some f.is.within f.is.leaders)));
    }

-- a symbol without a choice is passed over
pub none_found : (sig : Signature) (lead : Leaders) (ps : List ℕ) (s : ℕ) (ds : List ℕ) (lists : List (List ℕ)) (p : Place) → IsFound sig ps s ds p → 0 < p.stage → lists ≡ leaders_at lead ps p
    → choices (p.stage - 1) lists false ≡ [] → later_leading sig ps lead p.stage p.digits ≡ later_leading sig ps lead s ds
none_found sig lead ps s ds lists p found some same none =
    let here : choices (p.stage - 1) (leaders_at lead ps p) false ≡ [] = subst (λ (ls : List (List ℕ)). choices (p.stage - 1) ls false ≡ []) same none in
    sym (found_choices sig ps lead s ds p found some ∙ ap (λ cs. map (entry (symbol_of p.digits)) cs ++ later_leading sig ps lead p.stage p.digits) here)

-- Result: an entry without children that is found is the first leading one
pub without_found : (sig : Signature) (lead : Leaders) (ps : List ℕ) (s : ℕ) (ds : List ℕ) (lists : List (List ℕ)) (w : Walk) → length w.digits ≤ 16 → AreArities sig w.arities → IsFound sig ps s ds (place w) → w.stage ≡ 0
    → IsFirstLeading sig lead ps lists (later_leading sig ps lead s ds) record { walk = w; choice = None }
without_found sig lead ps s ds lists w few arities found none = record {
  stands = record { few = few; arities = arities; symbol = found.placed; is_place = kids_placed sig (place w) [] found.placed (sym none); within = found.within; chosen = none };
  first = found_without sig ps lead s ds (place w) found none;
}

-- the first entry of a symbol that is found comes later
found_after : (sig : Signature) (ps : List ℕ) (old new : Place) → IsPlace sig old → old.stage ≤ length ps → IsFound sig ps old.stage old.digits new → IsEntry sig (length old.digits) ps (entry_at new) × ComesBefore (entry_at old) (entry_at new)
found_after sig ps old new p l f =
    let e = entry_at new in
    let later : In e (later_entries sig ps old.stage old.digits) = subst (λ (es : List Entry). In e es) (sym f.next) (inl refl) in
    from_after sig ps old e p l
    (In-right e (map (entry (symbol_of old.digits)) (stage_kids_after ps old.stage (wants sig (symbol_of old.digits)) old.kids)) (later_entries sig ps old.stage old.digits) later)

-- the tuple symbol that is found
pub symbol_found : (sig : Signature) (ps : List ℕ) (old new : Place) → IsPlace sig old → old.stage ≤ length ps → IsFound sig ps old.stage old.digits new → IsTupleSymbol sig (length old.digits) (symbol_of new.digits)
symbol_found sig ps old new p l f = let r = found_after sig ps old new p l f in r.0.symbol

-- fewer entries are left behind the symbol that is found
pub fewer_left : (sig : Signature) (ps : List ℕ) (s : ℕ) (ds : List ℕ) (p : Place) → IsFound sig ps s ds p → length (later_entries sig ps p.stage p.digits) < length (later_entries sig ps s ds)
fewer_left sig ps s ds p f =
    let here = map (entry (symbol_of p.digits)) (stage_kids_after ps p.stage (wants sig (symbol_of p.digits)) p.kids) in
    let later = later_entries sig ps p.stage p.digits in
    omega (arith, ap length f.next, length-append here later)

-- Result: a symbol that is passed over leaves what leads behind
pub search_goes_on : (sig : Signature) (lead : Leaders) (ps : List ℕ) (from old new : Walk) (lists : List (List ℕ)) → IsSearching sig lead ps from old → IsFound sig ps old.stage old.digits (place new) → AreArities sig new.arities → 0 < new.stage
    → lists ≡ leaders_at lead ps (place new) → choices (new.stage - 1) lists false ≡ [] → IsSearching sig lead ps from new
search_goes_on sig lead ps from old new lists h f arities some same none = record {
  placed = f.placed;
  arities = arities;
  width = f.width ∙ h.width;
  within = f.within;
  rest = none_found sig lead ps old.stage old.digits lists (place new) f some same none ∙ h.rest;
}

-- what leads first behind the old symbol leads first behind the one where the search began
pub leads_first : (sig : Signature) (lead : Leaders) (ps : List ℕ) (from old : Walk) (lists : List (List ℕ)) (w : LeadingWalk) → IsSearching sig lead ps from old → IsFirstLeading sig lead ps lists (later_leading sig ps lead old.stage old.digits) w
    → IsFirstLeading sig lead ps lists (later_leading sig ps lead from.stage from.digits) w
leads_first sig lead ps from old lists w h f = record { stands = f.stands; first = sym h.rest ∙ f.first }

-- a symbol that is found is of no earlier stage
pub stage_found : (sig : Signature) (ps : List ℕ) (old new : Place) → IsPlace sig old → old.stage ≤ length ps → IsFound sig ps old.stage old.digits new → old.stage ≤ new.stage
stage_found sig ps old new p l f =
    ⊎_elim (λ m. omega (arith, p.stage, f.placed.stage)) (λ e. omega (arith, p.stage, f.placed.stage, e.0)) (found_after sig ps old new p l f).1

-- so the leaders may turn to it
pub may_turn_found : (knows : Signature → ℕ → List (List ℕ) → ℕ → Type 0) (sig : Signature) (lead : Leaders) (ps : List ℕ) (labels : List (List ℕ)) (until : ℕ) (from old new : Walk) → IsSearching sig lead ps from old → IsFound sig ps old.stage old.digits (place new)
    → knows sig (length from.digits) labels until → until ≤ old.stage → MayTurn knows sig (length from.digits) labels until (symbol_of new.digits) new.wanted (new.stage - 1)
may_turn_found knows sig lead ps labels until from old new h f k l = record {
  known = k;
  forward = omega (arith, stage_found sig ps (place old) (place new) h.placed h.within f);
  symbol = subst (λ (n : ℕ). IsTupleSymbol sig n (symbol_of new.digits)) h.width (symbol_found sig ps (place old) (place new) h.placed h.within f);
  wanted_are = f.placed.wanted;
}

-- the walk's symbol is a place's after a step too
pub stepped_symbol : (sig : Signature) (lead : Leaders) (ps : List ℕ) (lists : List (List ℕ)) (among : List Entry) (old new : LeadingWalk) (went : Bool) → IsPlace sig (place old.walk) → IsStepAmong sig lead ps lists among new went → (went ≡ false → new ≡ old) → IsPlace sig (place new.walk)
stepped_symbol sig lead ps lists among old new true p f stays = f.stands.symbol
stepped_symbol sig lead ps lists among old new false p f stays = subst (λ (w : LeadingWalk). IsPlace sig (place w.walk)) (sym (stays refl)) p

-- and it stands where it went
pub stepped_stands : (sig : Signature) (lead : Leaders) (ps : List ℕ) (lists : List (List ℕ)) (among : List Entry) (new : LeadingWalk) (went : Bool) → IsStepAmong sig lead ps lists among new went → went ≡ true → StandsAt sig lead ps lists new
stepped_stands sig lead ps lists among new true f h = f.stands
stepped_stands sig lead ps lists among new false f h = absurd (true≢false (sym h))

-- Result: a step among what leads behind the symbol, after the symbol's last choice
pub leading_step : (sig : Signature) (lead : Leaders) (ps : List ℕ) (lists others : List (List ℕ)) (old new : LeadingWalk) (went : Bool) → StandsAt sig lead ps lists old → leading_after sig ps lead (leading_place old) ≡ later_leading sig ps lead old.walk.stage old.walk.digits
    → IsStepAmong sig lead ps others (later_leading sig ps lead old.walk.stage old.walk.digits) new went → (went ≡ false → new ≡ old) → IsLeadingStep sig (length old.walk.digits) ps lead (leading_entry old) (leading_entry new) went
leading_step sig lead ps lists others old new true st e f stays = next_leading sig ps lead (leading_place old) (leading_place new) st.is_place f.stands.is_place st.within f.stands.within (e ∙ f.first)
leading_step sig lead ps lists others old new false st e f stays = (last_leading sig ps lead (leading_place old) st.is_place (e ∙ f), ap leading_entry (stays refl))
