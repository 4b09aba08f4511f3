use Rattle.std.proofs.Common.{ℕ, List, ◌∷◌, [], ◌++◌, ap, ◌∙◌}
use Rattle.fort_tight_lists.proofs.TightViewLaws.{tight_found, tight_more}
use Rattle.fort_tight_lists.proofs.tight_views.TightViews.number_of.Goals as goal

pub returns-in-Some-clause-is : goal.returns-in-Some-clause-is
returns-in-Some-clause-is c =
    let own = c.args.self.now in
    let new = c.args.new.now in
    tight_found c.args.views.now own.views.items own.keys c.args.number new.numbers.items new.firsts.items c.in-Some.place c.requires.tight c.requires.firsts c.in-Some.ensures.0
    (c.in-Some.ensures.1 ∙ (c.as_slice-2.ensures.value ∙ (c.in_ok-key.ensures ∙ ap (λ (ns : List ℕ). c.args.number ∷ ns) c.as_slice.ensures.value)))

pub returns-in_ok-push-in-None-2-clause-tight : goal.returns-in_ok-push-in-None-2-clause-tight
returns-in_ok-push-in-None-2-clause-tight c =
    let own = c.args.self.now in
    let new = c.args.new.now in
    let key = c.in_ok-key.ensures ∙ ap (λ (ns : List ℕ). c.args.number ∷ ns) c.as_slice.ensures.value in
    tight_more c.args.views.now own.views.items c.push-in-None.new.self.items own.keys c.push.new.self c.in_ok-view-in-None.view c.args.number new.numbers.items new.firsts.items c.requires.tight c.requires.firsts c.in_ok-view-in-None.ensures c.in_ok-push-in-None-2.ensures.items
    (c.in_ok-push-in-None.ensures.ok ∙ ap (λ (k : List ℕ). own.keys ++ k ∷ []) key)
