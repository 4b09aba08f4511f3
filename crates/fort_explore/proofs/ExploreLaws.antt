-- The exploration goes on entry by entry, and what it has found at its end.
use Rattle.std.proofs.Common.{◌≡◌, ℕ, suc, ◌+◌, ◌<◌, ◌≤◌, List, [], ◌∷◌, ◌++◌, map, length, get_or, Bool, ◌==◌, if◌then◌else◌, refl, ap, sym, ◌∙◌, arith, subst, ⊎_elim}
use Rattle.std.proofs.lemmas.Bool.{cases_lt}
use Rattle.std.proofs.lemmas.List.{length_push, get_or_push, get_or_append_left, length-map, get_or-map, map-append}
use Rattle.fort_theory.specs.Signatures.{Signature}
use Rattle.fort_tables.specs.Tuples.{presence}
use Rattle.fort_tables.specs.Entries.{Entry, IsEntry, AreNodes, tuples_of}
use Rattle.fort_tables.specs.Tables.{Made, finished, listed_table, IsMadeDue, IsComplete, IsAllowed, IsGiven, AreFinals, full_presence}
use Rattle.fort_tables.specs.Labels.{Labelling, first_word, TellsPresence, GivesLabel, HaveLabels, HasMoreLabels, IsTableOf}
use Rattle.fort_tables.proofs.OrderLaws.{entry_grows}
use Rattle.fort_tables.proofs.EqualTests.{if_equal, if_apart, equal_from_if}
use Rattle.fort_explore.specs.declared.table.ExploreFault.{ExploreFault}
use Rattle.fort_explore.specs.declared.table.ExploreFault.TheVariants.{Over, Memory}
use Rattle.fort_explore.specs.Answer.{IfOver}
use Rattle.fort_explore.specs.Exploring.{IsReady, IsPlaced, IsLabelTarget, IsExploring, ListsEntries, AreLabelFinals}
use Rattle.fort_explore.proofs.KnownLaws.{length_known, known_answer, known_few}
use Rattle.fort_explore.proofs.StateLaws.{HasStatesByLabel}
use Rattle.fort_explore.proofs.FullLaws.{HasFinalsByLabel, known_finals}

-- before the first entry
pub exploring_none : (sig : Signature) (n : ℕ) (label : Labelling) (m : Made) (fs : List Entry) (labels : List (List ℕ)) → m.signature ≡ sig → m.columns ≡ n → m.presences ≡ [] → m.entries ≡ [] → m.targets ≡ [] → fs ≡ [] → labels ≡ [] → IsExploring sig n label m fs labels
exploring_none sig n label m fs labels s c ps es ts f ls =
    let none : IsExploring sig n label m [] labels = record {
      signature = s;
      columns_are = c;
      known = record { are = ls; tuples = λ k l. absurd (omega (arith, l)); apart = λ i j l _ _. absurd (omega (arith, l)) };
      nodes = λ k d l. absurd (omega (arith, l));
      presences = ps ∙ sym (ap (map first_word) ls);
      count = ap length ts ∙ sym (ap length es);
      entries = λ k d l. absurd (omega (arith, l, ap length es));
      targets = λ k d l. absurd (omega (arith, l, ap length es));
    } in
    subst (λ (xs : List Entry). IsExploring sig n label m xs labels) (sym f) none

due_entry : (sig : Signature) (n : ℕ) (label : Labelling) (m : Made) (fs : List Entry) (labels : List (List ℕ)) (e : Entry) → IsExploring sig n label m fs labels → IsEntry m.signature m.columns m.presences e → IsEntry sig n (map first_word labels) e
due_entry sig n label m fs labels e x d =
    subst (λ (s : Signature). IsEntry s n (map first_word labels) e) x.signature
    (subst (λ (c : ℕ). IsEntry m.signature c (map first_word labels) e) x.columns_are
    (subst (λ (ps : List ℕ). IsEntry m.signature m.columns ps e) x.presences d))

pub exploring_ready : (sig : Signature) (n : ℕ) (label : Labelling) (m : Made) (fs : List Entry) (labels : List (List ℕ)) (e : Entry) → IsExploring sig n label m fs labels → IsEntry m.signature m.columns m.presences e → IsReady sig n label fs labels e
exploring_ready sig n label m fs labels e x d = record { known = x.known; nodes = x.nodes; entry = due_entry sig n label m fs labels e x d }

length_labels : (sig : Signature) (n : ℕ) (label : Labelling) (m : Made) (fs : List Entry) (labels : List (List ℕ)) → IsExploring sig n label m fs labels → length m.presences ≡ length labels
length_labels sig n label m fs labels x = ap length x.presences ∙ length-map labels first_word

pub exploring_allowed : (sig : Signature) (n : ℕ) (label : Labelling) (m : Made) (fs fs' : List Entry) (labels labels' : List (List ℕ)) (e : Entry) (q : ℕ) → IsExploring sig n label m fs labels → IsMadeDue m e → IsPlaced sig n label labels labels' fs fs' e q → IsAllowed m e q
exploring_allowed sig n label m fs fs' labels labels' e q x d p =
    let len = length_labels sig n label m fs labels x in
    record {
      due = d;
      known = ⊎_elim (λ o. omega (arith, o.0)) (λ o. omega (arith, o.0)) p.old_or_new;
      fits = λ l.
          let at : get_or m.presences q 0 ≡ first_word (get_or labels q []) = ap (λ (ps : List ℕ). get_or ps q 0) x.presences ∙ get_or-map first_word labels q [] 0 (omega arith) in
          ⊎_elim
          (λ o. at ∙ (ap (λ (ws : List (List ℕ)). first_word (get_or ws q [])) (sym o.1) ∙ p.word))
          (λ o. absurd (omega (arith, o.0)))
          p.old_or_new;
    }

-- labels that grow keep what they give
labels_same : (labels : List (List ℕ)) (w : List ℕ) (ks : List ℕ) → ((j : ℕ) → j < length ks → get_or ks j 0 < length labels) → map (λ q. get_or (labels ++ w ∷ []) q []) ks ≡ map (λ q. get_or labels q []) ks
labels_same labels w [] h = refl
labels_same labels w (k ∷ ks) h =
    ap (λ x. x ∷ map (λ q. get_or (labels ++ w ∷ []) q []) ks) (get_or_append_left labels (w ∷ []) [] k (h 0 (omega arith)))
    ∙ ap (λ xs. get_or labels k [] ∷ xs) (labels_same labels w ks (λ j l. h (suc j) (omega arith)))

target_grows : (sig : Signature) (n : ℕ) (label : Labelling) (labels : List (List ℕ)) (w : List ℕ) (e : Entry) (q : ℕ) → ((j : ℕ) → j < length e.kids → get_or e.kids j 0 < length labels) → IsLabelTarget sig n label labels e q → IsLabelTarget sig n label (labels ++ w ∷ []) e q
target_grows sig n label labels w e q kids t = record {
  within = omega (arith, t.within, length_push labels w);
  gives = λ t' a r b. t.gives t' a r (b ∙ labels_same labels w e.kids kids) ∙ sym (get_or_append_left labels (w ∷ []) [] q t.within);
}

gives_grows : (sig : Signature) (n : ℕ) (label : Labelling) (labels : List (List ℕ)) (w : List ℕ) (e : Entry) (out : List ℕ) → ((j : ℕ) → j < length e.kids → get_or e.kids j 0 < length labels) → GivesLabel sig n label labels e out → GivesLabel sig n label (labels ++ w ∷ []) e out
gives_grows sig n label labels w e out kids g t a r b = g t a r (b ∙ labels_same labels w e.kids kids)

-- what the growth of the labels keeps
record Grows (sig : Signature) (n : ℕ) (label : Labelling) (labels labels' : List (List ℕ)) : Type 0 where
  entry : (e : Entry) → IsEntry sig n (map first_word labels) e → IsEntry sig n (map first_word labels') e
  target : (e : Entry) (q : ℕ) → IsEntry sig n (map first_word labels) e → IsLabelTarget sig n label labels e q → IsLabelTarget sig n label labels' e q
  gives : (e : Entry) (out : List ℕ) → IsEntry sig n (map first_word labels) e → GivesLabel sig n label labels e out → GivesLabel sig n label labels' e out

grows_not : (sig : Signature) (n : ℕ) (label : Labelling) (labels labels' : List (List ℕ)) → labels' ≡ labels → Grows sig n label labels labels'
grows_not sig n label labels labels' h = subst (λ (ws : List (List ℕ)). Grows sig n label labels ws) (sym h) (record { entry = λ e x. x; target = λ e q x t. t; gives = λ e out x g. g })

grows_by : (sig : Signature) (n : ℕ) (label : Labelling) (labels : List (List ℕ)) (w : List ℕ) (labels' : List (List ℕ)) → labels' ≡ labels ++ w ∷ [] → Grows sig n label labels labels'
grows_by sig n label labels w labels' h =
    let kids : (e : Entry) → IsEntry sig n (map first_word labels) e → (j : ℕ) → j < length e.kids → get_or e.kids j 0 < length labels = λ e x j l. omega (arith, x.within j l, length-map labels first_word) in
    subst (λ (ws : List (List ℕ)). Grows sig n label labels ws) (sym h) (record {
      entry = λ e x. subst (λ (ps : List ℕ). IsEntry sig n ps e) (sym (map-append first_word labels (w ∷ []))) (entry_grows sig n (map first_word labels) (first_word w) e x);
      target = λ e q x t. target_grows sig n label labels w e q (kids e x) t;
      gives = λ e out x g. gives_grows sig n label labels w e out (kids e x) g;
    })

grown_labels : (sig : Signature) (n : ℕ) (label : Labelling) (fs fs' : List Entry) (labels labels' : List (List ℕ)) (e : Entry) (q : ℕ) → IsPlaced sig n label labels labels' fs fs' e q → Grows sig n label labels labels'
grown_labels sig n label fs fs' labels labels' e q p = ⊎_elim (λ o. grows_not sig n label labels labels' o.1) (λ o. grows_by sig n label labels o.1.0 labels' o.1.1) p.old_or_new

-- one more entry in a list
push_each : (P : Entry → ℕ → Type 0) (es : List Entry) (qs : List ℕ) (e : Entry) (q : ℕ) → length qs ≡ length es → ((k : ℕ) (d : Entry) → k < length es → P (get_or es k d) (get_or qs k 0)) → P e q → (k : ℕ) (d : Entry) → k < length (es ++ e ∷ []) → P (get_or (es ++ e ∷ []) k d) (get_or (qs ++ q ∷ []) k 0)
push_each P es qs e q c old new k d l =
    ⊎_elim
    (λ m. subst (P (get_or (es ++ e ∷ []) k d)) (sym (get_or_append_left qs (q ∷ []) 0 k (omega arith)))
    (subst (λ (x : Entry). P x (get_or qs k 0)) (sym (get_or_append_left es (e ∷ []) d k m)) (old k d m)))
    (λ m. let at : length es ≡ k = omega (arith, length_push es e) in
    subst (P (get_or (es ++ e ∷ []) k d)) (sym (get_or_push qs q 0 k (c ∙ at)))
    (subst (λ (x : Entry). P x q) (sym (get_or_push es e d k at)) new))
    (cases_lt k (length es))

new_presences : (q p : ℕ) (ps : List ℕ) (labels : List (List ℕ)) (w : List ℕ) → ps ≡ map first_word labels → q ≡ length labels → first_word w ≡ p → (if q == length ps then ps ++ p ∷ [] else ps) ≡ map first_word (labels ++ w ∷ [])
new_presences q p ps labels w h l e =
    let len : q ≡ length ps = l ∙ sym (ap length h ∙ length-map labels first_word) in
    if_equal q (length ps) (ps ++ p ∷ []) ps len ∙ (ap (λ xs. xs ++ p ∷ []) h ∙ (ap (λ i. map first_word labels ++ i ∷ []) (sym e) ∙ sym (map-append first_word labels (w ∷ []))))

old_presences : (q p : ℕ) (ps : List ℕ) → q < length ps → (if q == length ps then ps ++ p ∷ [] else ps) ≡ ps
old_presences q p ps l = if_apart q (length ps) (ps ++ p ∷ []) ps (λ e. omega arith)

-- after the entry got its target
pub exploring_give : (sig : Signature) (n : ℕ) (label : Labelling) (m m' : Made) (fs fs' : List Entry) (labels labels' : List (List ℕ)) (e : Entry) (q : ℕ) → IsExploring sig n label m fs labels → IsEntry m.signature m.columns m.presences e → IsPlaced sig n label labels labels' fs fs' e q → IsGiven m e q m' → IsExploring sig n label m' fs' labels'
exploring_give sig n label m m' fs fs' labels labels' e q x d p g =
    let len = length_labels sig n label m fs labels x in
    let grows = grown_labels sig n label fs fs' labels labels' e q p in
    let entry = due_entry sig n label m fs labels e x d in
    let P : Entry → ℕ → Type 0 = λ y i. IsEntry sig n (map first_word labels') y × IsLabelTarget sig n label labels' y i in
    let each : (k : ℕ) (y : Entry) → k < length (m.entries ++ e ∷ []) → P (get_or (m.entries ++ e ∷ []) k y) (get_or (m.targets ++ q ∷ []) k 0) =
    push_each P m.entries m.targets e q x.count
    (λ k y l. (grows.entry (get_or m.entries k y) (x.entries k y l), grows.target (get_or m.entries k y) (get_or m.targets k 0) (x.entries k y l) (x.targets k y l)))
    (grows.entry e entry, record { within = p.within; gives = grows.gives e (get_or labels' q []) entry p.gives }) in
    let made : (k : ℕ) (y : Entry) → k < length m'.entries → P (get_or m'.entries k y) (get_or m'.targets k 0) =
    subst (λ (es : List Entry). (k : ℕ) (y : Entry) → k < length es → P (get_or es k y) (get_or m'.targets k 0)) (sym g.entries)
    (subst (λ (qs : List ℕ). (k : ℕ) (y : Entry) → k < length (m.entries ++ e ∷ []) → P (get_or (m.entries ++ e ∷ []) k y) (get_or qs k 0)) (sym g.targets) each) in
    record {
      signature = g.signature ∙ x.signature;
      columns_are = g.columns_are ∙ x.columns_are;
      known = p.known;
      nodes = p.nodes;
      presences = g.presences ∙ ⊎_elim
          (λ o. old_presences q (presence e.symbol) m.presences (omega (arith, o.0)) ∙ (x.presences ∙ ap (map first_word) (sym o.1)))
          (λ o.
          let w = o.1.0 in
          let word : first_word w ≡ presence e.symbol = sym (ap (λ (ws : List (List ℕ)). first_word (get_or ws q [])) o.1.1 ∙ ap first_word (get_or_push labels w [] q (sym o.0))) ∙ p.word in
          new_presences q (presence e.symbol) m.presences labels w x.presences o.0 word ∙ ap (map first_word) (sym o.1.1))
          p.old_or_new;
      count = omega (arith, x.count, ap length g.entries, ap length g.targets, length_push m.entries e, length_push m.targets q);
      entries = λ k y l. (made k y l).0;
      targets = λ k y l. (made k y l).1;
    }

-- the labels after one more entry
pub placed_length : (sig : Signature) (n : ℕ) (label : Labelling) (fs fs' : List Entry) (labels labels' : List (List ℕ)) (e : Entry) (q : ℕ) → IsPlaced sig n label labels labels' fs fs' e q → length labels' ≤ length labels + 1
placed_length sig n label fs fs' labels labels' e q p = ⊎_elim (λ o. omega (arith, ap length o.1)) (λ o. omega (arith, ap length o.1.1, length_push labels o.1.0)) p.old_or_new

-- more labels than the cap
pub placed_over : (sig : Signature) (n : ℕ) (label : Labelling) (fs fs' : List Entry) (labels labels' : List (List ℕ)) (e : Entry) (q cap : ℕ) → IsPlaced sig n label labels labels' fs fs' e q → length labels ≤ cap → cap < length labels' → HaveLabels sig n label (cap + 1) (tuples_of fs') × AreNodes sig n fs'
placed_over sig n label fs fs' labels labels' e q cap p few over = (
  record {
    many = omega (arith, (length_known sig n label fs' labels' p.known).0, placed_length sig n label fs fs' labels labels' e q p);
    tuples = p.known.tuples;
    apart = p.known.apart;
  },
  p.nodes,
)

-- no entry is left
pub exploring_lists : (sig : Signature) (n : ℕ) (label : Labelling) (m : Made) (fs : List Entry) (labels : List (List ℕ)) → IsExploring sig n label m fs labels → IsComplete m → ListsEntries sig n labels m.entries
exploring_lists sig n label m fs labels x all = record {
  all = λ e h. all e
      (subst (λ (s : Signature). IsEntry s m.columns m.presences e) (sym x.signature)
      (subst (λ (c : ℕ). IsEntry sig c m.presences e) (sym x.columns_are)
      (subst (λ (ps : List ℕ). IsEntry sig n ps e) (sym x.presences) h)));
  only = x.entries;
}

pub exploring_finals : (sig : Signature) (n : ℕ) (label : Labelling) (accepting : List ℕ → Bool) (m : Made) (fs : List Entry) (labels : List (List ℕ)) (finals : List Bool) → IsExploring sig n label m fs labels → AreLabelFinals n accepting labels finals → AreFinals m finals
exploring_finals sig n label accepting m fs labels finals x f =
    let len = length_labels sig n label m fs labels x in
    record {
      count = f.count ∙ sym len;
      full = λ q l h.
          let k : q < length labels = omega arith in
          let word : first_word (get_or labels q []) ≡ full_presence n = equal_from_if (first_word (get_or labels q [])) (full_presence n) (accepting (get_or labels q [])) (sym (f.are q k) ∙ h) in
          ap (λ (ps : List ℕ). get_or ps q 0) x.presences ∙ (get_or-map first_word labels q [] 0 k ∙ (word ∙ ap full_presence (sym x.columns_are)));
    }

-- the table by labels
pub exploring_table : (sig : Signature) (n : ℕ) (label : Labelling) (accepting : List ℕ → Bool) (m : Made) (fs : List Entry) (labels : List (List ℕ)) (finals : List Bool) → TellsPresence sig n label → IsExploring sig n label m fs labels → IsComplete m → AreLabelFinals n accepting labels finals → IsTableOf sig n label accepting (listed_table (finished m finals))
exploring_table sig n label accepting m fs labels finals tells x all f =
    let lists = exploring_lists sig n label m fs labels x all in
    let s : HasStatesByLabel sig n label (length fs) m.entries m.targets = known_answer sig n label fs labels m.entries m.targets tells x.known lists x.count x.targets in
    let a : HasFinalsByLabel sig n label accepting m.entries m.targets finals = known_finals sig n label accepting fs labels m.entries m.targets finals tells x.known lists x.count x.targets f in
    let len : length m.presences ≡ length fs = length_labels sig n label m fs labels x ∙ (length_known sig n label fs labels x.known).1 in
    record {
      signature = x.signature;
      columns_are = x.columns_are;
      same = s.same;
      reached = λ q l. s.reached q (omega arith);
      state = λ t h. omega (arith, s.state t h);
      full = a.full;
      partial = a.partial;
    }

pub exploring_few : (sig : Signature) (n : ℕ) (label : Labelling) (m : Made) (fs : List Entry) (labels : List (List ℕ)) (cap : ℕ) → TellsPresence sig n label → IsExploring sig n label m fs labels → IsComplete m → length labels ≤ cap → HasMoreLabels sig n label cap → ⊥
exploring_few sig n label m fs labels cap tells x all few =
    known_few sig n label fs labels m.entries m.targets cap tells x.known (exploring_lists sig n label m fs labels x all) x.count x.targets few

-- tuples that are too many have what follows from that
pub if_over : (P Q : List Entry → Type 0) → ((ts : List Entry) → P ts → Q ts) → (e : ExploreFault) → IfOver e P → IfOver e Q
if_over P Q f Memory h = tt
if_over P Q f (Over ts) h = f ts h
