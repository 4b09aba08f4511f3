use Rattle.std.proofs.Common.{refl, sym, ap, subst, length, ◌∙◌, arith}
use Rattle.fort_tables.specs.Tuples.{AreSymbols}
use Rattle.fort_steps.specs.OpenView.{as_node}
use Rattle.fort_open_checker.proofs.NodeTestLaws.{few_kids, entry_there, absent_there, kids_there}
use Rattle.fort_open_checker.proofs.entry.entry_symbol.Goals as goal
use Rattle.fort_open_checker.proofs.entry.entry_symbol.Goals.{else-there-via-then-there+else-are_kids, else-there-via-else-there}

pub returns-then-are_kids-clause-some : goal.returns-then-are_kids-clause-some
returns-then-are_kids-clause-some c =
    entry_there c.args.sig.now c.args.columns c.args.presences.now (as_node c.args.node.now) c.as_slice-syms.result.now c.tuple_symbol-symbol.result c.deref.result.now
    c.as_slice-syms.ensures.value c.deref.ensures.value c.tuple_symbol-symbol.ensures (omega arith) (c.if-not-are_symbols.ensures.0 refl) (sym c.is_present-there.ensures ∙ c.if-there.true) (c.are_kids.ensures.0 c.if-are_kids.true)

pub returns-then-are_kids-clause-few : goal.returns-then-are_kids-clause-few
returns-then-are_kids-clause-few c =
    let sig = c.args.sig.now in
    let over = c.are_kids.ensures.0 c.if-are_kids.true in
    let few = few_kids sig c.tuple_symbol-symbol.result c.len-symbols.ensures.lawful (subst (AreSymbols sig) (sym c.tuple_symbol-symbol.ensures) (c.if-not-are_symbols.ensures.0 refl)) in
    omega (arith, ap length c.deref.ensures.value, over.count, few)

pub returns-else-there-clause-none : goal.returns-else-there-clause-none
returns-else-there-clause-none c = λ h.
    let e = as_node c.args.node.now in
    elim c.else-there.branch [
      | else-there-via-then-there+else-are_kids w ↦ (
          let yes = w.are_kids.ensures.1 (kids_there c.args.sig.now c.args.columns c.args.presences.now e c.as_slice-syms.result.now c.tuple_symbol-symbol.result w.deref.result.now
          c.as_slice-syms.ensures.value w.deref.ensures.value c.tuple_symbol-symbol.ensures h) in
          let no = w.if-are_kids.false in
          cc
          )
      | else-there-via-else-there w ↦ absent_there c.args.sig.now c.args.columns c.args.presences.now e c.as_slice-syms.result.now c.tuple_symbol-symbol.result e.kids
          c.as_slice-syms.ensures.value refl c.tuple_symbol-symbol.ensures (sym c.is_present-there.ensures ∙ w.if-there.false) h
    ]
