pub mod RulesSoFar
