use Rattle.std.proofs.Common.{◌≡◌, List, ℕ, map, subst, ◌∙◌, arith}
use Rattle.fort_steps.specs.StepView.{as_step}
use Rattle.fort_check_steps.specs.Room.{HasRoom, HasMergeRoom}
use Rattle.fort_cert_checker.specs.Makings.{IsRoomFor, AreRoomsMade}
use Rattle.fort_cert_checker.proofs.MakingLaws.{made_more}
use Rattle.fort_cert_checker.proofs.making.rooms_of.Goals as goal

pub loop-k-preserved : goal.loop-k-preserved
loop-k-preserved c =
    made_more (IsRoomFor (map as_step c.args.steps.now)) c.loop-k.k c.loop-k.rooms.items c.push.new.self.items c.in_ok-room.room c.loop-k.invariant
    (record {
      targets_fit = λ targets only. subst (λ (ts : List ℕ). HasRoom ts c.in_ok-room.room) (c.targets_of.ensures.own targets only) c.in_ok-room.ensures.room;
      classes_fit = λ targets only merged.
          subst (λ (ts : List ℕ). HasMergeRoom ts c.in_ok-room.room) (c.targets_of.ensures.own targets only) (c.in_ok-room.ensures.merge_room (c.is_merged.ensures ∙ merged));
    })
    c.in_ok-push.ensures.items

pub returns : goal.returns
returns c = let e : c.loop-k.k ≡ c.args.parts = omega arith in subst (λ n. AreRoomsMade (map as_step c.args.steps.now) n c.loop-k.rooms.items) e c.loop-k.invariant
