-- To believe: why a form of a certificate is rejected, and what comes of a step.
use Rattle.std.specs.Prelude.{ℕ}

pub data Reason : Type 0 where
  -- the form isn't the one that is due
  Due : Reason
  -- of a closure: a number is none of a pattern or a rule; a pair doesn't follow from earlier ones; a pair that follows is missing
  Range : Reason
  Unfounded : Reason
  Open : Reason
  -- of a part: no state has this number; the state has another label; targets are missing; there are too many
  Target : Reason
  Label : Reason
  Short : Reason
  Long : Reason
  -- of a merge: a state has no right class; an entry leads elsewhere than with its children's first states
  Class : Reason
  Split : Reason
  -- of counts and merges: not as many as pure states, or as states
  Count : Reason
  -- of counts: a child isn't finite with a smaller number; nothing makes the state infinite
  Rank : Reason
  Cycle : Reason
  -- the part has another value
  Value : Reason
  -- the formula has another value
  Verdict : Reason

-- a step is fine, or fails at a place
pub data StepOutcome : Type 0 where
  Fine : StepOutcome
  Fails : (place : ℕ) → Reason → StepOutcome
