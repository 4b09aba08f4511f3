-- Over a signature with a constant that the automaton fits, each state that takes some tree takes some ground term.
use Rattle.std.specs.Prelude.{List, Some}
use Rattle.std.proofs.Common.{ap, ◌∙◌}
use Rattle.fort_theory.specs.Trees.{Tree, Trees, Node, Nil, More}
use Rattle.fort_theory.specs.Signatures.{Signature, IsGround, AreGround, HasConstant}
use Rattle.fort_reachability.specs.TreeAutomata.{Automaton, Takes, ByAny, ByMove, BySilentMove, AllTaken, NoneTaken, MoreTaken, FitsAutomaton}
use Rattle.fort_reachability.proofs.TransducersLaws.{length-AllTaken}

module _ {State : Type 0} (signature : Signature) (constant : HasConstant signature) (automaton : Automaton State) (fits : FitsAutomaton signature automaton) where
  mutual
    pub grounded-from_Takes : {t : Tree} {q : State} → Takes automaton t q → (u : Tree) × IsGround signature u × Takes automaton u q
    grounded-from_Takes (ByAny h) = (Node constant.0 Nil, (constant.1, tt), ByAny h)
    grounded-from_Takes (ByMove {f = f} {qs = qs} {q = q} m hs) =
        let w = all_grounded-from_AllTaken hs in
        (Node f w.0, (fits f qs q m ∙ ap Some (length-AllTaken w.2), w.1), ByMove m w.2)
    grounded-from_Takes (BySilentMove m h) = let w = grounded-from_Takes h in (w.0, w.1, BySilentMove m w.2)

    all_grounded-from_AllTaken : {ts : Trees} {qs : List State} → AllTaken automaton ts qs
        → (us : Trees) × AreGround signature us × AllTaken automaton us qs
    all_grounded-from_AllTaken NoneTaken = (Nil, tt, NoneTaken)
    all_grounded-from_AllTaken (MoreTaken h hs) =
        let w = grounded-from_Takes h in
        let ws = all_grounded-from_AllTaken hs in
        (More w.0 ws.0, (w.1, ws.1), MoreTaken w.2 ws.2)
