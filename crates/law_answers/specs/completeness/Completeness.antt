-- What is said of schedules that end in settling, over all 256 channels.
use Rattle.std.specs.Prelude.{◌≡◌, ◌≢◌, ℕ, ◌≤◌, ◌<◌, Bool, true, false, not, ◌&&◌, List, [], ◌∷◌, ◌++◌}
use Rattle.spec_exchange.specs.Status.{user_session_deleted}
use Rattle.spec_exchange.specs.Operations.{is_unsettled}
use Rattle.spec_exchange.specs.Client.{Client}
use Rattle.spec_exchange.specs.ClientStep.{last_number, some_unsettled}
use Rattle.spec_exchange.specs.Schedules.{Course, Line, Settles, course, drain, link, has_more, is_linking}
use Rattle.spec_exchange.specs.Network.{World, Event, Cut, Finish, Sent, Settings, happens, run, start, answer}

-- the course before the first line
abbrev pub begun : Settings → Course
begun z = record { world = start z; events = [] }

-- the course of a script
abbrev pub course_of : Settings → List Line → Course
course_of z ls = course 256 ls (begun z)

-- ---- the bounds of the loops

-- behind draining, an end of the channel is closed or nothing waits there
abbrev pub DrainSuffices : Type 0
DrainSuffices = (z : Settings) (ls : List Line) (k : ℕ) → has_more (drain 64 (course_of z ls) k).world k ≡ false

-- behind linking, an end of the channel is closed or it is ready
abbrev pub LinkSuffices : Type 0
LinkSuffices = (z : Settings) (ls : List Line) (k : ℕ) → is_linking (link (course_of z ls) k).world k ≡ false

-- ---- the session of a ready channel

-- On a ready channel both of whose ends are open, the server finds the session of what it takes.
abbrev pub FindsSession : World → Type 0
FindsSession w = (k : ℕ) (x : Sent) (rest : List Sent) → w.client.ready k ≡ true → (w.conns k).client_open ≡ true
    → (w.conns k).server_open ≡ true → (w.conns k).up ≡ x ∷ rest → (answer w x).reply.status ≢ user_session_deleted

-- in every world that a run leads to
abbrev pub SessionFound : Type 0
SessionFound = (z : Settings) (events : List Event) → FindsSession (run events (start z))

-- ---- settling

-- each operation that was taken is settled
abbrev pub AllSettled : Client → Type 0
AllSettled c = (g : ℕ) → 0 < g → g ≤ c.taken → is_unsettled (c.outcome g) ≡ false

-- A schedule that ends in settling leaves no operation unsettled, where the client has counted fewer sessions than it can.
abbrev pub SettleSettles : Type 0
SettleSettles =
    (z : Settings) (ls : List Line) → (course_of z (ls ++ Settles ∷ [])).world.client.session_number < last_number
    → AllSettled (course_of z (ls ++ Settles ∷ [])).world.client

-- ---- runs on which the client loses nothing

-- While an operation is unsettled the client cuts no ready channel, and gives nothing up for a logon that is refused. What the
-- server loses, by a drop, a restart or a crash, the client learns of at a cut alone. A script without such lines may yet have
-- such events: `settle` cuts what hangs, and gives all up where the logon is refused, as `refused_logon_example` in
-- exchange_examples computes; so the events here are those of the whole course. What such a run leaves says `law_outcomes::outcomes`.
abbrev pub loses_nothing : World → Event → Bool
loses_nothing w (Cut k) = not (w.client.ready k && some_unsettled w.client w.client.taken)
loses_nothing w (Finish refusal) = not (some_unsettled w.client w.client.taken)
loses_nothing w _ = true

-- none of the events loses anything, each in the world that it comes to
unfoldable pub without_losses : List Event → World → Bool
without_losses [] w = true
without_losses (e ∷ es) w = loses_nothing w e && without_losses es (happens w e)
