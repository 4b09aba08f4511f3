use Rattle.std.proofs.Common.{◌≡◌, ℕ, length, Option, IfSome, refl, ap, sym, ◌∙◌, arith, subst}
use Rattle.fort_theory.specs.Signatures.{Signature}
use Rattle.fort_tables.specs.Tuples.{AreSymbols, symbol_kids}
use Rattle.fort_tables.specs.Selections.{is_present}
use Rattle.fort_tables.specs.Products.{AreOperands, signature_of}
use Rattle.fort_tuple_symbols.specs.SymbolNumbers.{columns_at}
use Rattle.fort_products.specs.Joints.{IsJointOf}
use Rattle.fort_products.specs.HeldWalks.{operands_of}
use Rattle.fort_products.specs.declared.joint.Joint.{Joint}
use Rattle.fort_tuple_symbols.proofs.SymbolNumberLaws.{length-columns_at}
use Rattle.fort_target_lists.proofs.SymbolNumbers.{symbols_at}
use Rattle.fort_target_lists.proofs.WalkSymbols.{symbol_with, first_stop}
use Rattle.fort_products.proofs.HoldLaws.{held_start, held_absent, held_present, held_unseen, unseen_room}
use Rattle.fort_products.proofs.product.Both.hold_symbol.Goals as goal

pub returns-then-not-is_present : goal.returns-then-not-is_present
returns-then-not-is_present g c = λ n t begins numbered b fine.
    let h = c.args.holding.now in
    let o = operands_of g.T.Table.table c.args.self.now.first c.args.self.now.second in
    let is : c.args.symbol.now ≡ symbol_with t h.walk n = numbered.is ∙ ap (λ k. columns_at h.walk.base k n) b.goes.columns_are in
    let absent = sym (ap is_present is) ∙ (sym c.is_present.ensures ∙ c.if-not-is_present.true) in
    held_absent o t begins h n c.args.cursors.now b numbered.low absent

pub kid_count-count-requires : goal.kid_count-count-requires
kid_count-count-requires g c =
    let n = c.requires.between.0 in
    let t = c.requires.between.1 in
    let numbered = c.requires.between.3 in
    let b = c.requires.between.4 in
    let walk = c.args.holding.now.walk in
    subst (λ (sig : Signature). AreSymbols sig c.args.symbol.now) (sym b.goes.signature)
    (subst (AreSymbols t.signature) (sym numbered.is) (symbols_at t.signature walk.base walk.columns n b.goes.base))

pub overflow_add-cursors : goal.overflow_add-cursors
overflow_add-cursors g c =
    let n = c.requires.between.0 in
    let t = c.requires.between.1 in
    let begins = c.requires.between.2 in
    let numbered = c.requires.between.3 in
    let b = c.requires.between.4 in
    let h = c.args.holding.now in
    let o = operands_of g.T.Table.table c.args.self.now.first c.args.self.now.second in
    let f = c.args.symbol.now in
    let is : f ≡ symbol_with t h.walk n = numbered.is ∙ ap (λ k. columns_at h.walk.base k n) b.goes.columns_are in
    let present = sym (ap is_present is) ∙ (sym c.is_present.ensures ∙ c.if-not-is_present.false) in
    let count : c.kid_count-count.result ≡ symbol_kids t.signature f = c.kid_count-count.ensures.count ∙ ap (λ (sig : Signature). symbol_kids sig f) b.goes.signature in
    omega (arith, unseen_room o t begins h n c.args.cursors.now b numbered.low present f is c.kid_count-count.result count c.if-count-eq0.true, b.goes.listed.few)

pub returns-then-cursors-holding : goal.returns-then-cursors-holding
returns-then-cursors-holding g c = λ n t begins numbered b fine.
    let h = c.args.holding.now in
    let o = operands_of g.T.Table.table c.args.self.now.first c.args.self.now.second in
    let f = c.args.symbol.now in
    let is : f ≡ symbol_with t h.walk n = numbered.is ∙ ap (λ k. columns_at h.walk.base k n) b.goes.columns_are in
    let present = sym (ap is_present is) ∙ (sym c.is_present.ensures ∙ c.if-not-is_present.false) in
    let count : c.kid_count-count.result ≡ symbol_kids t.signature f = c.kid_count-count.ensures.count ∙ ap (λ (sig : Signature). symbol_kids sig f) b.goes.signature in
    held_unseen o t begins h n c.args.cursors.now b numbered.low present f is c.kid_count-count.result count c.if-count-eq0.true c.if-cursors-holding.true

pub joint_of-joint-requires-clause-operands : goal.joint_of-joint-requires-clause-operands
joint_of-joint-requires-clause-operands g c =
    let b = c.requires.between.4 in
    let walk = c.args.holding.now.walk in
    let o = operands_of g.T.Table.table c.args.self.now.first c.args.self.now.second in
    let width : length c.args.symbol.now ≡ c.requires.between.1.columns =
    ap length c.requires.between.3.is ∙ (length-columns_at walk.base walk.columns c.requires.between.0 ∙ b.goes.columns_are) in
    subst (λ (k : ℕ). AreOperands (signature_of o.first o.second) k o.first o.second) (sym width) b.is_of.operands

pub joint_of-joint-requires-clause-symbols : goal.joint_of-joint-requires-clause-symbols
joint_of-joint-requires-clause-symbols g c =
    let n = c.requires.between.0 in
    let t = c.requires.between.1 in
    let b = c.requires.between.4 in
    let walk = c.args.holding.now.walk in
    subst (λ (sig : Signature). AreSymbols sig c.args.symbol.now) b.is_of.signature
    (subst (AreSymbols t.signature) (sym c.requires.between.3.is) (symbols_at t.signature walk.base walk.columns n b.goes.base))

pub pass_under-requires-clause-at : goal.pass_under-requires-clause-at
pass_under-requires-clause-at g c =
    let n = c.requires.between.0 in
    let t = c.requires.between.1 in
    let begins = c.requires.between.2 in
    let numbered = c.requires.between.3 in
    let b = c.requires.between.4 in
    let h = c.args.holding.now in
    let o = operands_of g.T.Table.table c.args.self.now.first c.args.self.now.second in
    let f = c.args.symbol.now in
    let is : f ≡ symbol_with t h.walk n = numbered.is ∙ ap (λ k. columns_at h.walk.base k n) b.goes.columns_are in
    let present = sym (ap is_present is) ∙ (sym c.is_present.ensures ∙ c.if-not-is_present.false) in
    let count : c.kid_count-count.result ≡ symbol_kids t.signature f = c.kid_count-count.ensures.count ∙ ap (λ (sig : Signature). symbol_kids sig f) b.goes.signature in
    let joint = subst (λ (x : Option Joint). IfSome x (λ j. IsJointOf o.first o.second f j)) c.in-Some.is c.joint_of-joint.ensures in
    (o, first_stop t begins n, held_start o t begins h n c.args.cursors.now b numbered.low present f is c.kid_count-count.result count c.in-Some.joint joint, refl, b.passed)

pub returns-in-Some : goal.returns-in-Some
returns-in-Some g c = λ n t begins numbered b fine.
    let h = c.args.holding.now in
    let o = operands_of g.T.Table.table c.args.self.now.first c.args.self.now.second in
    let f = c.args.symbol.now in
    let is : f ≡ symbol_with t h.walk n = numbered.is ∙ ap (λ k. columns_at h.walk.base k n) b.goes.columns_are in
    let present = sym (ap is_present is) ∙ (sym c.is_present.ensures ∙ c.if-not-is_present.false) in
    let count : c.kid_count-count.result ≡ symbol_kids t.signature f = c.kid_count-count.ensures.count ∙ ap (λ (sig : Signature). symbol_kids sig f) b.goes.signature in
    let joint = subst (λ (x : Option Joint). IfSome x (λ j. IsJointOf o.first o.second f j)) c.in-Some.is c.joint_of-joint.ensures in
    let start = held_start o t begins h n c.args.cursors.now b numbered.low present f is c.kid_count-count.result count c.in-Some.joint joint in
    held_present o t begins h n c.args.cursors.now c.pass_under.new.cursors b numbered.low present f is c.kid_count-count.result count
    (c.pass_under.ensures o (first_stop t begins n) start refl b.passed fine)
