use Rattle.std.proofs.Common.{◌≡◌, [], ◌∷◌, ◌++◌, length, true, false, ap, sym, ◌∙◌, subst}
use Rattle.std.proofs.lemmas.Result.{on_ok_weaker}
use Rattle.fort_theory.specs.Signatures.{Signature}
use Rattle.fort_tables.specs.Tuples.{AreSymbols, symbol_kids}
use Rattle.fort_tables.specs.Selections.{is_present}
use Rattle.fort_target_lists.proofs.ToldLaws.{before_first, symbol_told, told_absent, told_present}
use Rattle.fort_target_lists.proofs.told_walk.ToldWalk.lay_symbol.Goals as goal

pub returns-then-not-is_present-clause-laid : goal.returns-then-not-is_present-clause-laid
returns-then-not-is_present-clause-laid g c = λ n body numbered tells h.
    let listing = c.args.listing.now in
    let starts = listing.starts.items in
    let targets = listing.targets.items in
    let absent : is_present c.args.symbol.now ≡ false = sym c.is_present.ensures ∙ c.if-not-is_present.true in
    let grown : c.push.new.self.items ≡ starts ++ length targets ∷ [] = c.in_ok-push.ensures.items ∙ ap (λ k. starts ++ k ∷ []) (c.len.ensures ∙ listing.targets.ok.0) in
    told_absent body c.args.self.now n c.args.symbol.now starts targets c.push.new.self.items numbered absent h grown

pub turn-requires : goal.turn-requires
turn-requires g c =
    let r = c.requires in
    let present : is_present c.args.symbol.now ≡ true = sym c.is_present.ensures ∙ c.if-not-is_present.false in
    (r.1, r.4, symbol_told r.1 c.args.self.now r.0 c.args.symbol.now r.3 r.2 present)

pub kid_count-count-requires : goal.kid_count-count-requires
kid_count-count-requires g c =
    let r = c.requires in
    let present : is_present c.args.symbol.now ≡ true = sym c.is_present.ensures ∙ c.if-not-is_present.false in
    let is = symbol_told r.1 c.args.self.now r.0 c.args.symbol.now r.3 r.2 present in
    subst (λ (sig : Signature). AreSymbols sig c.args.symbol.now) (sym r.3.signature) is.symbols

pub push_target-requires : goal.push_target-requires
push_target-requires g c =
    let r = c.requires in
    let f = c.args.symbol.now in
    let present : is_present f ≡ true = sym c.is_present.ensures ∙ c.if-not-is_present.false in
    let is = symbol_told r.1 c.args.self.now r.0 f r.3 r.2 present in
    let count : c.kid_count-count.result ≡ symbol_kids r.1.signature f = c.kid_count-count.ensures.count ∙ ap (λ (sig : Signature). symbol_kids sig f) r.3.signature in
    (r.1, f, c.in_ok-turn.ensures.turned r.1 r.4 is, sym count ∙ c.if-count-eq0.true)

pub lay_kids-requires-clause-before : goal.lay_kids-requires-clause-before
lay_kids-requires-clause-before g c =
    let r = c.requires in
    let f = c.args.symbol.now in
    let present : is_present f ≡ true = sym c.is_present.ensures ∙ c.if-not-is_present.false in
    let is = symbol_told r.1 c.args.self.now r.0 f r.3 r.2 present in
    let count : c.kid_count-count.result ≡ symbol_kids r.1.signature f = c.kid_count-count.ensures.count ∙ ap (λ (sig : Signature). symbol_kids sig f) r.3.signature in
    (r.1, before_first r.1 c.args.self.now f c.kid_count-count.result r.3 is count, c.in_ok-turn.ensures.turned r.1 r.4 is)

pub returns-then-count-eq0-clause-laid : goal.returns-then-count-eq0-clause-laid
returns-then-count-eq0-clause-laid g c = on_ok_weaker
    c.push_target.result
    (λ made n body numbered tells h.
    let listing = c.args.listing.now in
    let starts = listing.starts.items in
    let targets = listing.targets.items in
    let f = c.args.symbol.now in
    let present : is_present f ≡ true = sym c.is_present.ensures ∙ c.if-not-is_present.false in
    let is = symbol_told body c.args.self.now n f h.goes numbered present in
    let grown : c.push.new.self.items ≡ starts ++ length targets ∷ [] = c.in_ok-push.ensures.items ∙ ap (λ k. starts ++ k ∷ []) (c.len.ensures ∙ listing.targets.ok.0) in
    let count : 0 ≡ symbol_kids body.signature f =
    sym c.if-count-eq0.true ∙ (c.kid_count-count.ensures.count ∙ ap (λ (sig : Signature). symbol_kids sig f) h.goes.signature) in
    told_present body c.args.self.now n f starts targets c.push.new.self.items c.push_target.new.laid.items 0 numbered present h grown count
    (made body f (c.in_ok-turn.ensures.turned body tells is) (sym count)))
    c.push_target.ensures

pub returns-else-count-eq0-clause-laid : goal.returns-else-count-eq0-clause-laid
returns-else-count-eq0-clause-laid g c = on_ok_weaker
    c.lay_kids.result
    (λ made n body numbered tells h.
    let listing = c.args.listing.now in
    let starts = listing.starts.items in
    let targets = listing.targets.items in
    let f = c.args.symbol.now in
    let present : is_present f ≡ true = sym c.is_present.ensures ∙ c.if-not-is_present.false in
    let is = symbol_told body c.args.self.now n f h.goes numbered present in
    let grown : c.push.new.self.items ≡ starts ++ length targets ∷ [] = c.in_ok-push.ensures.items ∙ ap (λ k. starts ++ k ∷ []) (c.len.ensures ∙ listing.targets.ok.0) in
    let count : c.kid_count-count.result ≡ symbol_kids body.signature f = c.kid_count-count.ensures.count ∙ ap (λ (sig : Signature). symbol_kids sig f) h.goes.signature in
    told_present body c.args.self.now n f starts targets c.push.new.self.items c.lay_kids.new.laid.items c.kid_count-count.result numbered present h grown count
    (made body (before_first body c.args.self.now f c.kid_count-count.result h.goes is count) (c.in_ok-turn.ensures.turned body tells is)))
    c.lay_kids.ensures
