use Rattle.std.proofs.Common.{◌≡◌, ℕ, ◌-◌, ◌<◌, suc, List, [], ◌∷◌, get_or, Option, Some, None, IfSome, ◌∙◌, arith, false}
use Rattle.fort_tables.specs.Entries.{stage}
use Rattle.fort_entry_walk.specs.Walks.{kid_lists, kids_after, GivesFirst}
use Rattle.fort_entry_walk.proofs.EntryMembers.{first_stage}
use Rattle.fort_entry_walk.proofs.walk.stage_first.Goals as goal

at_stage : (ps : List ℕ) (s : ℕ) (ws : List ℕ) (r : Option (List ℕ)) → 0 < s → GivesFirst (kid_lists ps (s - 1) ws false) (kids_after ps (s - 1) ws false) r → IfSome r (λ ks. stage ks ≡ s)
at_stage ps s ws None l h = tt
at_stage ps s ws (Some ks) l h = let e : suc (s - 1) ≡ s = omega arith in first_stage ps (s - 1) ws ks _ h ∙ e

pub returns-in_default-clause-stage_is : goal.returns-in_default-clause-stage_is
returns-in_default-clause-stage_is c = at_stage c.args.presences.now c.args.stage c.args.wanted.now c.first_kids.result (omega arith) c.first_kids.ensures.next

pub returns-in_default-len1-clause-stage_is : goal.returns-in_default-len1-clause-stage_is
returns-in_default-len1-clause-stage_is c = at_stage c.args.presences.now c.args.stage (get_or c.args.wanted.now 0 0 ∷ []) c.only_kid.result (omega arith) c.only_kid.ensures.next
