-- What a ruling says of a logon (MS-SMB2 3.3.5.5, 3.3.5.5.3).
use Rattle.std.specs.Prelude.{◌+◌, true, false}
use Rattle.spec_exchange.specs.State.{Server}
use Rattle.spec_exchange.specs.Step.{Ruling, Says}
use Rattle.spec_exchange.specs.Verdict.{Verdict, Challenge, ChallengeBinding, Begin, Join}
use Rattle.spec_world.specs.Logon.{Progress, Stays, Interim, Final}

-- it goes on by a challenge, ends in a session on its first channel or in a further channel, or nothing comes of it
abbrev pub verdict_progress : Server → Verdict → Progress
verdict_progress s Challenge = Interim false
verdict_progress s (ChallengeBinding session) = Interim true
verdict_progress s (Begin session user previous request quiet) = Final false 1 s.encrypts
verdict_progress s (Join session) = Final true (s.channel_numbers_drawn session + 1) s.encrypts
verdict_progress s _ = Stays

abbrev pub ruled_progress : Server → Ruling → Progress
ruled_progress s (Says m v) = verdict_progress s v
ruled_progress s _ = Stays
