-- The number of an entry's label.
use Rattle.std.proofs.Common.{◌≡◌, ℕ, ◌<◌, List, [], ◌∷◌, ◌++◌, map, length, get_or, refl, ap, sym, ◌∙◌, arith, subst, inl, inr}
use Rattle.std.proofs.lemmas.List.{length_push, get_or_push, length-map}
use Rattle.fort_theory.specs.Signatures.{Signature}
use Rattle.fort_tables.specs.Tuples.{Tuple, rebuilt, presence}
use Rattle.fort_tables.specs.Entries.{Entry, IsEntry, AreNodes, node_presences, picked, tuples_of}
use Rattle.fort_tables.proofs.FoldLaws.{GivesLabel-rebuilt}
use Rattle.fort_tables.specs.Labels.{Labelling, first_word, TellsPresence, GivesLabel}
use Rattle.fort_tables.proofs.TupleLaws.{root-rebuilt}
use Rattle.fort_tables.proofs.TableLaws.{presence_root}
use Rattle.fort_tables.proofs.EntryLaws.{entry_kids, IsTuple-entry}
use Rattle.fort_tables.proofs.NodeLaws.{presences-nodes, AreNodes-push}
use Rattle.fort_explore.specs.Exploring.{IsKnown, IsReady, IsPlaced}
use Rattle.fort_explore.proofs.KnownLaws.{known_presences, known_push, picked_labels}

pub node_presences-labels : (sig : Signature) (n : ℕ) (label : Labelling) (fs : List Entry) (labels : List (List ℕ)) → TellsPresence sig n label → IsKnown sig n label fs labels → map first_word labels ≡ node_presences fs
node_presences-labels sig n label fs labels tells k = known_presences sig n label fs labels tells k ∙ presences-nodes fs

pub ready_nodes : (sig : Signature) (n : ℕ) (label : Labelling) (fs : List Entry) (labels : List (List ℕ)) (e : Entry) → TellsPresence sig n label → IsReady sig n label fs labels e → AreNodes sig n (fs ++ e ∷ [])
ready_nodes sig n label fs labels e tells r = AreNodes-push sig n fs e r.nodes (subst (λ (ps : List ℕ). IsEntry sig n ps e) (node_presences-labels sig n label fs labels tells r.known) r.entry)

-- the label that the entry gives is that of its tuple
label_word : (sig : Signature) (n : ℕ) (label : Labelling) (fs : List Entry) (labels : List (List ℕ)) (e : Entry) (out : List ℕ) → TellsPresence sig n label → IsReady sig n label fs labels e → GivesLabel sig n label labels e out → first_word out ≡ presence e.symbol
label_word sig n label fs labels e out tells r gives =
    let ts = tuples_of fs in
    let t : Tuple = rebuilt e.symbol (picked ts e.kids) in
    let entry : IsEntry sig n (map presence ts) e = subst (λ (ps : List ℕ). IsEntry sig n ps e) (known_presences sig n label fs labels tells r.known) r.entry in
    let is : label t ≡ out = GivesLabel-rebuilt sig n label labels e out gives entry.symbol (picked ts e.kids) (entry_kids sig n ts e r.known.tuples entry) (picked_labels sig n label fs labels r.known e.kids (λ j l. omega (arith, r.entry.within j l, length-map labels first_word))) in
    ap first_word (sym is) ∙ (tells t (IsTuple-entry sig n ts e r.known.tuples entry) ∙ (sym (presence_root t) ∙ ap presence (root-rebuilt e.symbol (picked ts e.kids))))

-- the label was there
pub placed_old : (sig : Signature) (n : ℕ) (label : Labelling) (fs : List Entry) (labels : List (List ℕ)) (e : Entry) (q : ℕ) (out : List ℕ) → TellsPresence sig n label → IsReady sig n label fs labels e → GivesLabel sig n label labels e out → q < length labels → get_or labels q [] ≡ out → IsPlaced sig n label labels labels fs fs e q
placed_old sig n label fs labels e q out tells r gives l h = record {
  known = r.known;
  nodes = r.nodes;
  within = l;
  gives = λ t a k b. gives t a k b ∙ sym h;
  word = ap first_word h ∙ label_word sig n label fs labels e out tells r gives;
  old_or_new = inl (l, refl);
}

-- the label is new
pub placed_new : (sig : Signature) (n : ℕ) (label : Labelling) (fs : List Entry) (labels : List (List ℕ)) (e : Entry) (out : List ℕ) (fs' : List Entry) (labels' : List (List ℕ)) → TellsPresence sig n label → IsReady sig n label fs labels e → GivesLabel sig n label labels e out → ((q : ℕ) → q < length labels → get_or labels q [] ≡ out → ⊥) → fs' ≡ fs ++ e ∷ [] → labels' ≡ labels ++ out ∷ [] → IsPlaced sig n label labels labels' fs fs' e (length labels)
placed_new sig n label fs labels e out fs' labels' tells r gives absent f h =
    subst (λ (gs : List Entry). IsPlaced sig n label labels labels' fs gs e (length labels)) (sym f)
    (subst (λ (ws : List (List ℕ)). IsPlaced sig n label labels ws fs (fs ++ e ∷ []) e (length labels)) (sym h)
    (record {
      known = known_push sig n label fs labels e out tells r.known r.entry gives absent;
      nodes = ready_nodes sig n label fs labels e tells r;
      within = omega (arith, length_push labels out);
      gives = λ t a k b. gives t a k b ∙ sym (get_or_push labels out [] (length labels) refl);
      word = ap first_word (get_or_push labels out [] (length labels) refl) ∙ label_word sig n label fs labels e out tells r gives;
      old_or_new = inr (refl, (out, refl));
    }))
