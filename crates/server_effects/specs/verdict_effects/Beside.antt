-- What an answer has beside its reply, and what is kept of logons.
use Rattle.std.specs.Prelude.{◌≡◌, ℕ, ◌+◌, Option, Some}
use Rattle.spec_exchange.specs.State as model
use Rattle.spec_exchange.specs.Table.{put}
use Rattle.spec_exchange.specs.Verdict as verdicts
use Rattle.server_checks.specs.session_table.Logons.{LogonsShown, LogonsStay}
use Rattle.spec_crypto.specs.declared.sessions.material.Keys.{Keys}
use Rattle.spec_crypto.specs.tokens.Tokens.{Pending}
use Rattle.server_checks.specs.Shown.{TablesShown}
use Rattle.server_checks.specs.declared.tables.Tables.{Tables}
use Rattle.server_effects.specs.Able.{Able}
use Rattle.server_effects.specs.Carried.{IsEffectBare, KeepsChallenge}
use Rattle.server_effects.specs.declared.answering.Answer.{Answer}
use Rattle.server_effects.specs.declared.reserved.ready.Ready.{Ready}
use Rattle.server_effects.specs.declared.reserved.ready.Ready.TheVariants as readies
use Rattle.server_effects.specs.declared.reserved.ready.SetupReady.{SetupReady}
use Rattle.server_effects.specs.declared.reserved.ready.SetupReady.TheVariants as steps

-- a step's token and keys are answered, and its challenge or keys are kept
abbrev pub EffectSetsUp : Tables → Tables → Answer → model.Message → SetupReady → Type 0
EffectSetsUp old new r m (steps.Challenge list acceptor token) = KeepsChallenge old new r m list acceptor token
EffectSetsUp old new r m (steps.ChallengeBinding session list acceptor token) = KeepsChallenge old new r m list acceptor token
EffectSetsUp old new r m (steps.Begin session row token previous quiet) =
    (r.token ≡ token) × (r.keys ≡ Some row.keys) × (r.channel ≡ Some 1)
    × ((keys : ℕ → Keys) (pending : ℕ → Option Pending) → LogonsShown old.sessions keys pending
    → LogonsShown new.sessions (put keys session row.keys) pending)
EffectSetsUp old new r m (steps.Join session keys token) = (r.token ≡ token) × (r.keys ≡ Some keys)
    × ((s : model.Server) → TablesShown old s → Able s m (verdicts.Join session) → r.channel ≡ Some (s.channel_numbers_drawn session + 1))
    × LogonsStay old.sessions new.sessions

-- any other answer has nothing, and keeps the logons
abbrev pub Beside : Tables → Tables → Answer → model.Message → Ready → Type 0
Beside old new r m (readies.Setup step) = EffectSetsUp old new r m step
Beside old new r m _ = IsEffectBare r × LogonsStay old.sessions new.sessions
