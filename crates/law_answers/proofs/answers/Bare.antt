-- By the verdict: each gives a body with a success alone.
use Rattle.std.proofs.Common.{ℕ, List, refl}
use Rattle.spec_exchange.specs.Commands.{Command, Aside, Unreadable, Setup, Logoff, TreeConnect, TreeDisconnect, Create, Close, Flush, Read}
use Rattle.spec_exchange.specs.Commands.{Write, Lock, Ioctl, ListDirectory, QueryFile, QueryVolume, SetInfo}
use Rattle.spec_exchange.specs.State.{Server, Message, Record, Heard}
use Rattle.spec_exchange.specs.Verdict.{Verdict, Refuse, Give, KeepRefusal, Repeat, Attach, Make, TurnDown, Tell, Show, KeepSlot, PutRanges}
use Rattle.spec_exchange.specs.Verdict.{Alter, CloseOpen, Challenge, ChallengeBinding, Begin, Join, EndSession, AddTree, DropTree}
use Rattle.spec_exchange.specs.Effects.{apply}
use Rattle.spec_exchange.specs.Step.{step}
use Rattle.spec_exchange.specs.Network.{answer_to}
use Rattle.law_server.proofs.tables.Doors.{by_verdict, recorded}
use Rattle.law_answers.specs.answers.Bare.{IsAnswerBare, RefusalsAreBare}

bare_by : (t : Server) (m : Message) (now : ℕ) (records : List Record) (v : Verdict) → IsAnswerBare (recorded (apply t m now v) records)
bare_by t m now records (Refuse status) unlike = refl
bare_by t m now records (Give body) unlike = absurd (unlike refl)
bare_by t m now records (KeepRefusal guid status) unlike = refl
bare_by t m now records (Repeat o r) unlike = absurd (unlike refl)
bare_by t m now records (Attach o r) unlike = absurd (unlike refl)
bare_by t m now records (Make r found action) unlike = absurd (unlike refl)
bare_by t m now records (TurnDown o status) unlike = refl
bare_by t m now records (Tell o body) unlike = absurd (unlike refl)
bare_by t m now records (Show o last body) unlike = absurd (unlike refl)
bare_by t m now records (KeepSlot o index number status elements) unlike = refl
bare_by t m now records (PutRanges o index number ranges elements) unlike = refl
bare_by t m now records (Alter o change body) unlike = absurd (unlike refl)
bare_by t m now records (CloseOpen o body) unlike = absurd (unlike refl)
bare_by t m now records Challenge unlike = refl
bare_by t m now records (ChallengeBinding session) unlike = refl
bare_by t m now records (Begin session user previous r is_quiet) unlike = absurd (unlike refl)
bare_by t m now records (Join session) unlike = absurd (unlike refl)
bare_by t m now records (EndSession session is_quiet) unlike = refl
bare_by t m now records (AddTree pipes) unlike = absurd (unlike refl)
bare_by t m now records DropTree unlike = refl

stepped : (s : Server) (now : ℕ) (m : Message) → IsAnswerBare (step s now (Heard m))
stepped s now m = by_verdict (λ A. IsAnswerBare A) s now m (λ t v records b f. bare_by t m now records v)

bare_to : (s : Server) (now : ℕ) (m : Message) (c : Command) → IsAnswerBare (answer_to s now m c)
bare_to s now m (Aside status) unlike = refl
bare_to s now m (Unreadable status) unlike = stepped s now m unlike
bare_to s now m (Setup request) unlike = stepped s now m unlike
bare_to s now m Logoff unlike = stepped s now m unlike
bare_to s now m (TreeConnect share) unlike = stepped s now m unlike
bare_to s now m TreeDisconnect unlike = stepped s now m unlike
bare_to s now m (Create request) unlike = stepped s now m unlike
bare_to s now m (Close file query) unlike = stepped s now m unlike
bare_to s now m (Flush file) unlike = stepped s now m unlike
bare_to s now m (Read file at size minimum channel) unlike = stepped s now m unlike
bare_to s now m (Write file at bytes channel) unlike = stepped s now m unlike
bare_to s now m (Lock file index number elements) unlike = stepped s now m unlike
bare_to s now m (Ioctl file code room) unlike = stepped s now m unlike
bare_to s now m (ListDirectory file class restart single pattern room) unlike = stepped s now m unlike
bare_to s now m (QueryFile file class room) unlike = stepped s now m unlike
bare_to s now m (QueryVolume file class room) unlike = stepped s now m unlike
bare_to s now m (SetInfo file setting) unlike = stepped s now m unlike

pub refusals_are_bare : RefusalsAreBare
refusals_are_bare w x = bare_to w.server w.moment x.message x.message.command
