-- Of the requests that were signed for an opening of a connection, one of each message id is taken there at most, and once.
use Rattle.std.specs.Prelude.{◌≡◌, ℕ, true, false, List, ◌∷◌, ◌++◌}
use Rattle.spec_world.specs.Settings.{WorldSettings}
use Rattle.spec_world.specs.Messages.{header_in}
use Rattle.spec_world.specs.Hearing.{is_cancel}
use Rattle.spec_hostile.specs.RepeatRuns.{RepeatEvent, repeat_start}
use Rattle.spec_hostile.specs.SignedFor.{Watched, SignedEntry, OnOpening, Takes, watching, watched_run}

abbrev pub watched : WorldSettings → List RepeatEvent → Watched
watched z es = watched_run z es (watching (repeat_start z))

-- no run has two events in which requests of one message id are taken there, the same one or another; a CANCEL has no id of its own
abbrev pub SignedTakesOnce : Type 0
SignedTakesOnce =
    (z : WorldSettings) (before between : List RepeatEvent) (first second : RepeatEvent) (x y : SignedEntry) (k n : ℕ)
    → x.to_server ≡ true → y.to_server ≡ true → x.place ≡ OnOpening k n → y.place ≡ OnOpening k n
    → is_cancel (header_in x.message) ≡ false → is_cancel (header_in y.message) ≡ false
    → (header_in x.message).message ≡ (header_in y.message).message → Takes z (watched z before) x first
    → Takes z (watched z (before ++ first ∷ between)) y second → ⊥
