-- The room for the lists of operands: from what is taken before a check, and through a check. Laid lists.
use Rattle.std.specs.Prelude.{◌≡◌, ℕ, ◌*◌, ◌^◌, ◌<◌, ◌≤◌, List, [], ◌∷◌, length, Option, None, Some, IfSome}
use Rattle.std.proofs.Common.{ap, arith}
use Rattle.fort_tables.specs.Products.{Operand, OfTable, OfTruth}
use Rattle.fort_certificate_theory.specs.Certificates.{Step}
use Rattle.fort_target_lists.specs.LayRooms.{HasLayRoom}
use Rattle.fort_target_lists.specs.TargetLists.{HasListRoom, IsOperandList}
use Rattle.fort_target_lists.specs.declared.states.LayRoom.{LayRoom}
use Rattle.fort_target_lists.specs.declared.target_list.TargetList.{TargetList}
use Rattle.fort_check_steps.specs.Room.{most_states, AreAsRoomy, HasNeeds}
use Rattle.fort_check_steps.specs.declared.room.ListRoom.{ListRoom}
use Rattle.fort_check_steps.specs.declared.room.LabelRoom.{LabelRoom}
use Rattle.fort_check_steps.specs.declared.room.LabelNeeds.{LabelNeeds}
use Rattle.fort_check_steps.proofs.RoomLaws.{first_room, second_room}
use Rattle.fort_cert_checker.specs.OperandLists.{FitsList, IsLaidListOf, AreListsFor, IsNeedOf, AreNeedsOf}
use Rattle.fort_cert_checker.specs.declared.plan.Source.{Source}
use Rattle.fort_cert_checker.specs.declared.plan.Work.{Work}
use Rattle.fort_cert_checker.specs.declared.plan.Work.TheVariants.{Atom, Truth, Negation, Product, Projection, Many}

-- what fits, fits on where room is kept
pub fits_on : (ss : List Step) (s : Source) (list next : TargetList) (lay after : LayRoom) → ((n k : ℕ) → HasListRoom n k list → HasListRoom n k next) → ((n : ℕ) → HasLayRoom n lay → HasLayRoom n after)
    → FitsList ss s list lay → FitsList ss s next after
fits_on ss s list next lay after keeps stays h = record {
  list_fits = λ targets only. keeps _ _ (h.list_fits targets only);
  lay_fits = λ targets only. stays _ (h.lay_fits targets only);
}

pub lists_kept : (ss : List Step) (w : Work) (old new : ListRoom) → AreAsRoomy old new → AreListsFor ss w old → AreListsFor ss w new
lists_kept ss (Product op first second) old new k h = (
  fits_on ss first.source old.first new.first old.lay new.lay k.first k.lay h.0,
  fits_on ss second.source old.second new.second old.lay new.lay k.second k.lay h.1,
)
lists_kept ss (Projection s c) old new k h = fits_on ss s old.first new.first old.lay new.lay k.first k.lay h
lists_kept ss (Many s c marks) old new k h = fits_on ss s old.first new.first old.lay new.lay k.first k.lay h
lists_kept ss (Atom labels) old new k h = tt
lists_kept ss Truth old new k h = tt
lists_kept ss (Negation s) old new k h = tt

fits_first : (ss : List Step) (s : Source) (n : LabelNeeds) (r : LabelRoom) → IsNeedOf ss s n.first → HasNeeds n r → FitsList ss s r.lists.first r.lists.lay
fits_first ss s n r need has = record {
  list_fits = λ targets only. (first_room (need targets only) has).list;
  lay_fits = λ targets only. (first_room (need targets only) has).lay;
}

fits_second : (ss : List Step) (s : Source) (n : LabelNeeds) (r : LabelRoom) → IsNeedOf ss s n.second → HasNeeds n r → FitsList ss s r.lists.second r.lists.lay
fits_second ss s n r need has = record {
  list_fits = λ targets only. (second_room (need targets only) has).list;
  lay_fits = λ targets only. (second_room (need targets only) has).lay;
}

-- Result: what was taken for the needs of a part suffices for its operands' lists
pub lists_needed : (ss : List Step) (w : Work) (n : LabelNeeds) (r : LabelRoom) → AreNeedsOf ss w n.first n.second → HasNeeds n r → AreListsFor ss w r.lists
lists_needed ss (Product op first second) n r h has = (fits_first ss first.source n r h.0 has, fits_second ss second.source n r h.1 has)
lists_needed ss (Projection s c) n r h has = fits_first ss s n r h has
lists_needed ss (Many s c marks) n r h has = fits_first ss s n r h has
lists_needed ss (Atom labels) n r h has = tt
lists_needed ss Truth n r h has = tt
lists_needed ss (Negation s) n r h has = tt

-- where there are more words than numbers for them, there are targets
pub targets_needed : (width : ℕ) (targets : List ℕ) → 2 ^ 64 ≤ width * most_states targets → 0 < length targets
targets_needed width [] many =
    let none : most_states [] ≡ 0 = omega arith in
    let words : width * most_states [] ≡ width * 0 = ap (λ n. width * n) none in
    absurd (omega (arith, many, words))
targets_needed width (t ∷ ts) many = omega arith

-- what is laid for an operand is the operand's list
pub laid_operand : {A : Type 0} (o : Operand) (list : Option A) (now : A → TargetList) → IfSome list (λ l. IsLaidListOf o (now l)) → IfSome list (λ l. IsOperandList o (now l))
laid_operand (OfTable t places) None now h = tt
laid_operand (OfTable t places) (Some l) now h = h.list_is
laid_operand (OfTruth b) None now h = tt
laid_operand (OfTruth b) (Some l) now h = absurd h
