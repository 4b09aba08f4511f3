-- The states of a table that was explored to the end.
use Rattle.std.proofs.Common.{◌≡◌, ℕ, ◌<◌, ◌↔◌, List, [], map, length, get_or, refl, ap, sym, ◌∙◌, arith, subst}
use Rattle.std.proofs.lemmas.List.{length-map, get_or-map, ext_get_or}
use Rattle.fort_theory.specs.Signatures.{Signature}
use Rattle.fort_tables.specs.Tuples.{Tuple, root, kid, kids, kid_count, presence, IsTuple, kid_presence}
use Rattle.fort_tables.specs.Entries.{Entry, IsEntry, picked}
use Rattle.fort_tables.specs.Tables.{target_in}
use Rattle.fort_tables.proofs.TupleLaws.{tuple_induction, fold_tuple-step, IsTupleSymbol-root, IsTuple-kid, kid_count_is, kid_fits, presence_fits, length-tabulate, get_or-tabulate}
use Rattle.fort_tables.proofs.EntryLaws.{target_found, get_or-picked}
use Rattle.fort_tables.specs.Labels.{Labelling, TellsPresence}
use Rattle.fort_explore.specs.Exploring.{IsTarget, IsExplored, state_in}

-- two tuples have one state exactly where they have one label, and each state has a tuple
pub record HasStatesByLabel (sig : Signature) (columns : ℕ) (label : Labelling) (states : ℕ) (es : List Entry) (qs : List ℕ) : Type 0 where
  pub state : (t : Tuple) → IsTuple sig columns t → state_in es qs t < states
  pub same : (t u : Tuple) → IsTuple sig columns t → IsTuple sig columns u → (state_in es qs t ≡ state_in es qs u) ↔ (label t ≡ label u)
  pub reached : (q : ℕ) → q < states → (t : Tuple) × IsTuple sig columns t × (state_in es qs t ≡ q)

-- the state of a tuple has its label
pub record HasLabelOf (label : Labelling) (ts : List Tuple) (t : Tuple) (q : ℕ) : Type 0 where
  pub within : q < length ts
  pub label_is : label t ≡ label (get_or ts q [])

kids_states : (es : List Entry) (qs : List ℕ) (t : Tuple) (j : ℕ) → j < kid_count t → get_or (map (state_in es qs) (kids t)) j 0 ≡ state_in es qs (kid t j)
kids_states es qs t j l = get_or-map (state_in es qs) (kids t) j [] 0 (omega (arith, length-tabulate (kid_count t) (kid t))) ∙ ap (state_in es qs) (get_or-tabulate (kid_count t) (kid t) j [] l)

state_step : (sig : Signature) (n : ℕ) (label : Labelling) (ts : List Tuple) (es : List Entry) (qs : List ℕ) → TellsPresence sig n label → IsExplored sig n label ts es qs →
    (t : Tuple) → ((j : ℕ) → j < kid_count t → IsTuple sig n (kid t j) → HasLabelOf label ts (kid t j) (state_in es qs (kid t j))) → IsTuple sig n t → HasLabelOf label ts t (state_in es qs t)
state_step sig n label ts es qs tells x t ih h =
    let ks = map (state_in es qs) (kids t) in
    let e : Entry = record { symbol = root t; kids = ks } in
    let len_kids : length (kids t) ≡ kid_count t = length-tabulate (kid_count t) (kid t) in
    let len : length ks ≡ kid_count t = length-map (kids t) (state_in es qs) ∙ len_kids in
    let at : (j : ℕ) → j < kid_count t → HasLabelOf label ts (kid t j) (get_or ks j 0) =
    λ j l. subst (HasLabelOf label ts (kid t j)) (sym (kids_states es qs t j l)) (ih j l (IsTuple-kid sig n t j h l)) in
    let tells_at : (j : ℕ) → j < kid_count t → get_or (map presence ts) (get_or ks j 0) 0 ≡ kid_presence sig (root t) j =
    λ j l. get_or-map presence ts (get_or ks j 0) [] 0 (at j l).within
    ∙ (sym (tells (get_or ts (get_or ks j 0) []) (x.tuples (get_or ks j 0) (at j l).within))
    ∙ (ap (λ w. get_or w 0 0) (sym (at j l).label_is)
    ∙ (tells (kid t j) (IsTuple-kid sig n t j h l) ∙ presence_fits sig (root t) j (kid t j) (kid_fits sig t j h.grounded)))) in
    let entry : IsEntry sig n (map presence ts) e = record {
      symbol = IsTupleSymbol-root sig n t h;
      count = len ∙ kid_count_is sig t h.grounded;
      within = λ j l. omega (arith, (at j (omega arith)).within, length-map ts presence);
      presence = λ j l. tells_at j (omega arith);
    } in
    let there = x.total e entry in
    let found = target_found es qs e there.0 there.1 there.2 (omega (arith, x.count)) in
    let target : IsTarget sig n label ts e (target_in es qs e) =
    subst (IsTarget sig n label ts e) (sym found.target) (subst (λ (d : Entry). IsTarget sig n label ts d (get_or qs found.place 0)) found.is (x.targets found.place e found.within)) in
    let labels : map label (kids t) ≡ map label (picked ts ks) =
    ext_get_or [] (map label (kids t)) (map label (picked ts ks))
    (length-map (kids t) label ∙ (len_kids ∙ sym (length-map (picked ts ks) label ∙ (length-map ks (λ q. get_or ts q []) ∙ len))))
    (λ j l. let m : j < kid_count t = omega (arith, length-map (kids t) label) in
    get_or-map label (kids t) j [] [] (omega arith)
    ∙ (ap label (get_or-tabulate (kid_count t) (kid t) j [] m)
    ∙ ((at j m).label_is
    ∙ sym (get_or-map label (picked ts ks) j [] [] (omega (arith, length-map ks (λ q. get_or ts q []))) ∙ ap label (get_or-picked ts ks j (omega arith)))))) in
    let is : state_in es qs t ≡ target_in es qs e = fold_tuple-step (λ f us. target_in es qs (record { symbol = f; kids = us })) t in
    subst (HasLabelOf label ts t) (sym is) (record { within = target.within; label_is = target.gives t h refl labels })

pub state_has_label : (sig : Signature) (n : ℕ) (label : Labelling) (ts : List Tuple) (es : List Entry) (qs : List ℕ) → TellsPresence sig n label → IsExplored sig n label ts es qs →
    (t : Tuple) → IsTuple sig n t → HasLabelOf label ts t (state_in es qs t)
state_has_label sig n label ts es qs tells x = tuple_induction (λ t. IsTuple sig n t → HasLabelOf label ts t (state_in es qs t)) (state_step sig n label ts es qs tells x)

pub states_by_label : (sig : Signature) (n : ℕ) (label : Labelling) (ts : List Tuple) (es : List Entry) (qs : List ℕ) → TellsPresence sig n label → IsExplored sig n label ts es qs → HasStatesByLabel sig n label (length ts) es qs
states_by_label sig n label ts es qs tells x =
    let has = state_has_label sig n label ts es qs tells x in
    record {
      state = λ t h. (has t h).within;
      same = λ t u h k. (
        λ e. (has t h).label_is ∙ (ap (λ q. label (get_or ts q [])) e ∙ sym (has u k).label_is),
        λ e. x.apart _ _ (has t h).within (has u k).within (sym (has t h).label_is ∙ (e ∙ (has u k).label_is)),
      );
      reached = λ q l. let h = x.tuples q l in (get_or ts q [], h, x.apart _ q (has _ h).within l (sym (has _ h).label_is));
    }
