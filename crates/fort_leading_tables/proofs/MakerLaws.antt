-- A maker of a table by leading entries stays one where its due entry gets a target: an earlier state, or a new one with one more label.
use Rattle.std.proofs.Common.{◌≡◌, ℕ, ◌<◌, ◌≤◌, List, [], ◌∷◌, ◌++◌, map, length, get_or, Bool, true, false, ◌==◌, if◌then◌else◌, IsTrue, refl, ap, sym, ◌∙◌, arith, subst, ⊎_elim}
use Rattle.std.specs.Prelude.{Contains}
use Rattle.std.proofs.lemmas.Bool.Decides.{nat_tests}
use Rattle.std.proofs.lemmas.List.{length-map, get_or-map, map-append, get_or_push}
use Rattle.fort_theory.specs.Signatures.{Signature}
use Rattle.fort_tables.specs.Tuples.{presence}
use Rattle.fort_tables.specs.Entries.{Entry, no_entry}
use Rattle.fort_tables.specs.Tables.{Made}
use Rattle.fort_tables.specs.Labels.{first_word}
use Rattle.fort_tables.proofs.OrderLaws.{after_all_missing, order_none}
use Rattle.fort_classes.specs.Leaders.{KeepsLeaders, AreLeaders}
use Rattle.fort_classes.specs.Firsts.{IsNextLeading, IsLeadingUpTo}
use Rattle.fort_classes.specs.Keys.{Keys, leaders_by}
use Rattle.fort_classes.specs.LedTables.{IsLeadingMade}
use Rattle.fort_classes.proofs.KeyLaws.{AreLeaders-by, KeepsLeaders-push}
use Rattle.fort_classes.proofs.WalkLaws.{next_after, none_left, up_to_none, up_to_more, up_to_grown, made_with, leading_given_old, leading_given_new}
use Rattle.fort_leading_walk.specs.LeadingPlaces.{leading_entry, StandsAt, IsLeadingStep}
use Rattle.fort_leading_walk.specs.declared.leading.LeadingWalk.{LeadingWalk}
use Rattle.fort_leading_walk.proofs.WalkStays.{stands_stay}
use Rattle.fort_leading_tables.specs.EntryNumbers.{AreTargetsOf}
use Rattle.fort_leading_tables.specs.FirstEntries.{AreFirstEntries}
use Rattle.fort_leading_tables.specs.LeadingMaking.{Turned, IsDueAt, IsDueIn, IsMakerOf, IsTargetOf, none_made, given}
use Rattle.fort_leading_tables.specs.declared.leading_maker.LeadingMaker.{LeadingMaker}

-- the walk went on from this entry, and what is known where it stands
pub record HasWalked (t : Turned) (labels : List (List ℕ)) (sig : Signature) (columns : ℕ) (ps : List ℕ) (last : Entry) (w : LeadingWalk) (went : Bool) : Type 0 where
  pub step : IsLeadingStep sig columns ps (leaders_by t.keys labels) last (leading_entry w) went
  pub stands : went ≡ true → StandsAt sig (leaders_by t.keys labels) ps t.lists w
  pub known : went ≡ true → (until : ℕ) × t.knows sig columns labels until × (until ≤ w.walk.stage)

-- what a call of the walk tells is this
pub walked_from : (t : Turned) (key : Keys) (labels : List (List ℕ)) (sig : Signature) (columns n : ℕ) (ps : List ℕ) (old last : Entry) (w : LeadingWalk) (went : Bool) → t.keys ≡ key → n ≡ columns → length w.walk.digits ≡ columns → old ≡ last
    → IsLeadingStep sig n ps (leaders_by key labels) old (leading_entry w) went → (went ≡ true → StandsAt sig (leaders_by t.keys labels) ps t.lists w)
    → (went ≡ true → (until : ℕ) × t.knows sig (length w.walk.digits) labels until × (until ≤ w.walk.stage)) → HasWalked t labels sig columns ps last w went
walked_from t key labels sig columns n ps old last w went asked count width from step stands known =
    let Step : ℕ → Keys → Entry → Type 0 = λ c k e. IsLeadingStep sig c ps (leaders_by k labels) e (leading_entry w) went in
    record {
      step = subst (λ (c : ℕ). Step c t.keys last) count (subst (λ (k : Keys). Step n k last) (sym asked) (subst (Step n key) from step));
      stands = stands;
      known = λ h. let k = known h in (k.0, subst (λ (c : ℕ). t.knows sig c labels k.0) width k.1, k.2);
    }

-- so the next entry is due, or none is left
due_next : (t : Turned) (labels : List (List ℕ)) (m : Made) (a : LeadingMaker) (last : Entry) (went : Bool) → IsLeadingUpTo m.signature m.columns m.presences (leaders_by t.keys labels) m.entries last → a.row ≡ leading_entry a.walk
    → HasWalked t labels m.signature m.columns m.presences last a.walk went → IsDueIn t labels m a went
due_next t labels m a last true up row h = record {
  last = last;
  up_to = up;
  next = subst (IsNextLeading m.signature m.columns m.presences (leaders_by t.keys labels) last) (sym row) h.step;
  stands = h.stands refl;
  until = (h.known refl).0;
  known = (h.known refl).1;
  forward = (h.known refl).2;
}
due_next t labels m a last false up row h = none_left m.signature m.columns m.presences (leaders_by t.keys labels) m.entries last up h.step.0

-- Result: a maker without states
pub maker_none : (t : Turned) (sig : Signature) (columns : ℕ) (a : LeadingMaker) → columns ≤ 16 → a.presences.items ≡ [] → AreTargetsOf columns [] [] a.targets → AreFirstEntries [] [] 0 a.first_entries → a.row ≡ leading_entry a.walk → length a.walk.walk.digits ≡ columns
    → HasWalked t [] sig columns [] (no_entry columns) a.walk a.is_due → IsMakerOf t [] (none_made sig columns) a
maker_none t sig columns a narrow none targets firsts row width walked = record {
  narrow = narrow;
  presences_are = sym none;
  targets_are = targets;
  firsts = firsts;
  by_labels = refl;
  made = record {
    leaders = AreLeaders-by sig columns t.keys [];
    order = order_none sig columns [];
    lead_each = λ k d l. absurd (omega arith);
    count = refl;
    within = λ k l. absurd (omega arith);
    presence_is = λ k d l. absurd (omega arith);
    firsts = λ q l. absurd (omega arith);
  };
  row = row;
  width = width;
  due = due_next t [] (none_made sig columns) a (no_entry columns) a.is_due (up_to_none sig columns [] (leaders_by t.keys [])) row walked;
}

module _ (labels new : List (List ℕ)) (m : Made) (e : Entry) (q : ℕ) (words : m.presences ≡ map first_word labels) (target : IsTargetOf labels new e q) where
  same_count : length m.presences ≡ length labels
  same_count = ap length words ∙ length-map labels first_word

  -- what holds for an earlier state and for a new one
  for_target : (P : List (List ℕ) → List ℕ → ℕ → Type 0) → (q < length m.presences → get_or m.presences q 0 ≡ presence e.symbol → P labels m.presences q)
      → ((w : List ℕ) → m.presences ++ presence e.symbol ∷ [] ≡ map first_word (labels ++ w ∷ []) → P (labels ++ w ∷ []) (m.presences ++ presence e.symbol ∷ []) (length m.presences)) → P new (given m e q).presences q
  for_target P old more =
      let ps : List ℕ = m.presences in
      let grown : List ℕ = ps ++ presence e.symbol ∷ [] in
      let count = same_count in
      ⊎_elim
      (λ o.
      let no : (q == length ps) ≡ false = grind (arith, nat_tests, o.0, count) in
      let is : (given m e q).presences ≡ ps = ap (λ b. if b then grown else ps) no in
      let low : q < length labels = o.0 in
      let fits : get_or ps q 0 ≡ presence e.symbol = ap (λ (xs : List ℕ). get_or xs q 0) words ∙ (get_or-map first_word labels q [] 0 low ∙ (ap (λ (ws : List (List ℕ)). first_word (get_or ws q [])) (sym o.1) ∙ target.word)) in
      subst (λ ws. P ws (given m e q).presences q) (sym o.1) (subst (λ xs. P labels xs q) (sym is) (old (omega (arith, count)) fits)))
      (λ o.
      let w : List ℕ = o.1.0 in
      let at : q ≡ length ps = o.0 ∙ sym count in
      let yes : (q == length ps) ≡ true = grind (arith, nat_tests, at) in
      let is : (given m e q).presences ≡ grown = ap (λ b. if b then grown else ps) yes in
      let word : presence e.symbol ≡ first_word w = sym target.word ∙ ap first_word (ap (λ (ws : List (List ℕ)). get_or ws q []) o.1.1 ∙ get_or_push labels w [] q (sym o.0)) in
      let all : grown ≡ map first_word (labels ++ w ∷ []) = (λ i. words i ++ word i ∷ []) ∙ sym (map-append first_word labels (w ∷ [])) in
      subst (λ ws. P ws (given m e q).presences q) (sym o.1.1) (subst (λ xs. P (labels ++ w ∷ []) xs q) (sym is) (subst (P (labels ++ w ∷ []) grown) (sym at) (more w all))))
      target.old_or_new

  -- Result: the presences are still those of the labels
  pub given_words : (given m e q).presences ≡ map first_word new
  given_words = for_target (λ ws ps r. ps ≡ map first_word ws) (λ _ _. words) (λ w all. all)

  keeps : (key : Keys) (w : List ℕ) → KeepsLeaders (length m.presences) (leaders_by key labels) (leaders_by key (labels ++ w ∷ []))
  keeps key w = subst (λ (n : ℕ). KeepsLeaders n (leaders_by key labels) (leaders_by key (labels ++ w ∷ []))) (sym same_count) (KeepsLeaders-push key labels w)

  module _ (t : Turned) (a : LeadingMaker) (made : IsLeadingMade (leaders_by t.keys labels) m) (due : IsDueAt t labels m a) (row : a.row ≡ e) where
    next_is : IsNextLeading m.signature m.columns m.presences (leaders_by t.keys labels) due.last e
    next_is = subst (IsNextLeading m.signature m.columns m.presences (leaders_by t.keys labels) due.last) row due.next

    -- the table grows by the entry
    given_made : IsLeadingMade (leaders_by t.keys new) (given m e q)
    given_made =
        let lead = leaders_by t.keys labels in
        let after = next_after m.signature m.columns m.presences lead m.entries due.last due.up_to e next_is.has in
        for_target (λ ws ps r. IsLeadingMade (leaders_by t.keys ws) (made_with m ps e r))
        (λ low fits. leading_given_old lead m e q made next_is.among after low fits)
        (λ w all. leading_given_new lead (leaders_by t.keys (labels ++ w ∷ [])) m e made next_is.among after (keeps t.keys w)
        (subst (λ (ps : List ℕ). AreLeaders m.signature m.columns ps (leaders_by t.keys (labels ++ w ∷ []))) (sym all) (AreLeaders-by m.signature m.columns t.keys (labels ++ w ∷ []))))

    -- and has the leading entries up to it
    given_up : IsLeadingUpTo m.signature m.columns (given m e q).presences (leaders_by t.keys new) (m.entries ++ e ∷ []) e
    given_up =
        let lead = leaders_by t.keys labels in
        for_target (λ ws ps r. IsLeadingUpTo m.signature m.columns ps (leaders_by t.keys ws) (m.entries ++ e ∷ []) e)
        (λ _ _. up_to_more m.signature m.columns m.presences lead m.entries due.last due.up_to e next_is)
        (λ w _. up_to_grown m.signature m.columns m.presences lead m.entries due.last due.up_to (presence e.symbol) (leaders_by t.keys (labels ++ w ∷ [])) e (keeps t.keys w) next_is)

    -- Result: the walk stands where it did
    pub still_stands : StandsAt m.signature (leaders_by t.keys new) (given m e q).presences t.lists a.walk
    still_stands =
        for_target (λ ws ps r. StandsAt m.signature (leaders_by t.keys ws) ps t.lists a.walk)
        (λ _ _. due.stands)
        (λ w all. subst (λ (ps : List ℕ). StandsAt m.signature (leaders_by t.keys (labels ++ w ∷ [])) ps t.lists a.walk) (sym all)
        (stands_stay m.signature t.keys labels w t.lists a.walk (subst (λ (ps : List ℕ). StandsAt m.signature (leaders_by t.keys labels) ps t.lists a.walk) words due.stands)))

    -- Result: and what is known of the leaders still is
    pub still_known : ((w : List ℕ) → due.until ≤ length labels → t.knows m.signature m.columns labels due.until → t.knows m.signature m.columns (labels ++ w ∷ []) due.until) → t.knows m.signature m.columns new due.until
    still_known stays =
        for_target (λ ws ps r. t.knows m.signature m.columns ws due.until)
        (λ _ _. due.known)
        (λ w _. stays w (omega (arith, due.forward, due.stands.within, same_count)) due.known)

    -- Result: after the walk's next step it is a maker of the grown table
    pub maker_given : (t' : Turned) (b : LeadingMaker) → t'.keys ≡ t.keys → m.columns ≤ 16 → (given m e q).presences ≡ b.presences.items → AreTargetsOf m.columns (m.entries ++ e ∷ []) (m.targets ++ q ∷ []) b.targets → AreFirstEntries (m.entries ++ e ∷ []) (m.targets ++ q ∷ []) (length (given m e q).presences) b.first_entries
        → b.row ≡ leading_entry b.walk → length b.walk.walk.digits ≡ m.columns → HasWalked t' new m.signature m.columns (given m e q).presences e b.walk b.is_due → IsMakerOf t' new (given m e q) b
    maker_given t' b asked narrow presences targets firsts brow width walked = record {
      narrow = narrow;
      presences_are = presences;
      targets_are = targets;
      firsts = firsts;
      by_labels = given_words;
      made = subst (λ (k : Keys). IsLeadingMade (leaders_by k new) (given m e q)) (sym asked) given_made;
      row = brow;
      width = width;
      due = due_next t' new (given m e q) b e b.is_due (subst (λ (k : Keys). IsLeadingUpTo m.signature m.columns (given m e q).presences (leaders_by k new) (m.entries ++ e ∷ []) e) (sym asked) given_up) brow walked;
    }

-- an entry is due where the maker says so
pub due_of : (t : Turned) (labels : List (List ℕ)) (m : Made) (a : LeadingMaker) → IsMakerOf t labels m a → IsTrue a.is_due → IsDueAt t labels m a
due_of t labels m a is due = subst (IsDueIn t labels m a) due is.due

-- and it isn't listed yet
pub due_missing : (t : Turned) (labels : List (List ℕ)) (m : Made) (a : LeadingMaker) → IsDueAt t labels m a → Contains m.entries a.row → ⊥
due_missing t labels m a due = after_all_missing m.entries a.row (next_after m.signature m.columns m.presences (leaders_by t.keys labels) m.entries due.last due.up_to a.row due.next.has)

-- the presences with the one of the due entry, if its target is new
pub given_items : (t : Turned) (labels : List (List ℕ)) (m : Made) (a : LeadingMaker) (q : ℕ) → IsMakerOf t labels m a → (items : List ℕ)
    → items ≡ (if q == length a.presences.items then a.presences.items ++ presence a.row.symbol ∷ [] else a.presences.items) → (given m a.row q).presences ≡ items
given_items t labels m a q is items h = ap (λ (ps : List ℕ). if q == length ps then ps ++ presence a.row.symbol ∷ [] else ps) is.presences_are ∙ sym h
