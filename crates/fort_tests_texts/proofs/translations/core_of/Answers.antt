use Rattle.std.proofs.Common.{subst}
use Rattle.std.specs.Prelude.{Contains}
use Rattle.fort_theory.proofs.Members.{Contains-none}
use Rattle.fort_tests_texts.proofs.translations.core_of.Goals as goal

pub to_core-requires : goal.to_core-requires
to_core-requires c = λ k there. absurd (Contains-none k (subst (λ ks. Contains ks k) c.requires there))
