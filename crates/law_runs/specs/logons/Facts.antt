-- What is said of a logon's tokens.
use Rattle.spec_world.specs.Settings.{WorldSettings}
use Rattle.law_ties.specs.wire_facts.Fitting.{IsFitting}
use Rattle.law_ties.specs.wire_facts.Lawful.{AreTokensLawful}

-- of any settings that fit
abbrev pub TokenFacts : Type 0
TokenFacts = (z : WorldSettings) → IsFitting z → AreTokensLawful z
