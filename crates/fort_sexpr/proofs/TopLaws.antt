-- The forms of a text that are in no list, one after another.
use Rattle.std.proofs.Common.{◌≡◌, ℕ, ◌-◌, ◌<◌, ◌≤◌, false, List, [], ◌∷◌, ◌++◌, length, refl, sym, ap, ◌∙◌, subst, append-nil, append_assoc, arith}
use Rattle.fort_grammar.specs.Forms.{Form, Forms, NoForm, MoreForms, AreForms, AreFormsOf}
use Rattle.fort_sexpr.specs.FormView.{span_of, form_count}
use Rattle.fort_sexpr.specs.Found.{run_from, form_from, StandsIn}
use Rattle.fort_sexpr.specs.Progress.{comment_before, IsNextToken}
use Rattle.fort_sexpr.specs.Nodes.{opens_before, nodes_of, node_of, text_forms, Stands}
use Rattle.fort_sexpr.specs.declared.arena.FormNode.{FormNode}
use Rattle.fort_sexpr.proofs.FormLists.{node_counts-AreForms}
use Rattle.fort_sexpr.proofs.FoundLaws.{found, form_from_is}
use Rattle.fort_sexpr.proofs.NodesLaws.{first_form, outside_behind, opens_between, skipped_opens}

module _ (bytes : List ℕ) where
  -- these nodes are the first ones of the text's forms; from the offset on stand so many more, and so many lists open before it
  pub record AreTop (top : List FormNode) (at list left : ℕ) : Type 0 where
    pub nodes : nodes_of bytes (text_forms bytes) ≡ top ++ nodes_of bytes (run_from bytes at).0
    pub forms : AreForms bytes at (length bytes) (run_from bytes at).0
    pub many : left ≡ form_count (run_from bytes at).0
    pub outside : comment_before bytes at ≡ false
    pub number : list ≡ opens_before bytes at

  pub top_begun : (count : ℕ) → AreFormsOf bytes (text_forms bytes) → count ≡ form_count (text_forms bytes) → AreTop [] 0 0 count
  top_begun count are e = record { nodes = refl; forms = are.stand; many = e; outside = refl; number = refl }

  pub record IsTopStep (top : List FormNode) (p list left : ℕ) : Type 0 where
    pub first : Stands bytes (record { from = p; list = list })
    pub rest : AreTop (top ++ record { from = p; list = list } ∷ []) (span_of (form_from bytes p)).to
        (opens_before bytes (span_of (form_from bytes p)).to) (left - 1)

  pub top_step : (top : List FormNode) (at list left p : ℕ) → AreTop top at list left → 0 < left → IsNextToken bytes at p → IsTopStep top p list left
  top_step top at list left p t some token = by (run_from bytes at).0 refl
    where
      by : (fs : Forms) → (run_from bytes at).0 ≡ fs → IsTopStep top p list left
      by NoForm e = absurd (let n = ap form_count e in omega (arith, t.many))
      by (MoreForms f fs) e =
          let d = first_form bytes p (subst (AreForms bytes at (length bytes)) e t.forms) token in
          let same : f ≡ form_from bytes p = form_from_is bytes f d.stands ∙ ap (form_from bytes) d.begins in
          let run : run_from bytes (span_of f).to ≡ (fs, length bytes) = found bytes d.rest (record { closes = λ l. absurd (omega arith) }) in
          let more = ap form_count e in
          let number : list ≡ opens_before bytes p =
          t.number ∙ sym (opens_between bytes at p token.after (λ k a b. skipped_opens bytes k (token.skipped k a b))) in
          let node : node_of bytes f ≡ record { from = p; list = list } = node_is f d.begins number in
          let tail : AreTop (top ++ record { from = p; list = list } ∷ []) (span_of f).to (opens_before bytes (span_of f).to) (left - 1) =
          record {
            nodes = t.nodes
                ∙ (ap (λ gs. top ++ nodes_of bytes gs) e
                ∙ (ap (λ n. top ++ (n ∷ nodes_of bytes fs)) node
                ∙ (sym (append_assoc top (record { from = p; list = list } ∷ []) (nodes_of bytes fs))
                ∙ ap (λ r. (top ++ record { from = p; list = list } ∷ []) ++ nodes_of bytes r.0) (sym run))));
            forms = subst (λ r. AreForms bytes (span_of f).to (length bytes) r.0) (sym run) d.rest;
            many = omega (arith, t.many, ap (λ r. form_count r.0) run);
            outside = outside_behind bytes f d.stands;
            number = refl;
          } in
          record {
            first = record { form = subst (StandsIn bytes) same d.stands; number = number };
            rest = subst (λ g. AreTop (top ++ record { from = p; list = list } ∷ []) (span_of g).to (opens_before bytes (span_of g).to) (left - 1)) same tail;
          }
        where
          node_is : (g : Form) → (span_of g).from ≡ p → list ≡ opens_before bytes p → node_of bytes g ≡ record { from = p; list = list }
          node_is g b n = let made : ℕ → ℕ → FormNode = λ i k. record { from = i; list = k } in
              ap (λ i. made i (opens_before bytes i)) b ∙ ap (made p) (sym n)

  pub top_ended : (top : List FormNode) (at list left : ℕ) → AreTop top at list left → left ≡ 0 → top ≡ nodes_of bytes (text_forms bytes)
  top_ended top at list left t none = sym (t.nodes ∙ by (run_from bytes at).0 (sym none ∙ t.many))
    where
      by : (fs : Forms) → 0 ≡ form_count fs → top ++ nodes_of bytes fs ≡ top
      by NoForm e = append-nil top
      by (MoreForms f fs) e = absurd (omega arith)

  pub top_within : (top : List FormNode) (at list left : ℕ) → AreTop top at list left → at ≤ length bytes
  top_within top at list left t = omega (arith, node_counts-AreForms t.forms)
