-- What one opening of a server's end takes, frame after frame.
use Rattle.std.specs.Prelude.{ℕ, ◌≤◌, if◌then◌else◌, List, [], ◌∷◌, ◌++◌, Result, Ok, Err}
use Rattle.spec_exchange.specs.State.{Server}
use Rattle.spec_wire.specs.credits.Ids.{times}
use Rattle.spec_world.specs.Settings.{ServerSettings}
use Rattle.spec_world.specs.Ends.{ServerEnd, Logons, ConnEnd, first_server_end}
use Rattle.spec_world.specs.Hearing.{Checked, Frame, check_frame, is_cancel}
use Rattle.spec_world.specs.Connection.{connection_step}

-- a frame, and what else its step looks at
pub record Hand : Type 0 where
  pub server : Server
  pub logons : Logons
  pub moment : ℕ
  pub fresh : List ℕ
  pub frame : List ℕ

abbrev pub end_past : ServerSettings → ℕ → ServerEnd → Hand → ServerEnd
end_past z k f h = (connection_step z k h.moment h.fresh h.server h.logons f h.frame).server_end

-- a CANCEL takes no id
abbrev pub taken_id : Checked → List ℕ
taken_id c = if is_cancel c.header then [] else c.header.message ∷ []

unfoldable pub taken_ids_in : List Checked → List ℕ
taken_ids_in [] = []
taken_ids_in (c ∷ cs) = taken_id c ++ taken_ids_in cs

abbrev pub ids_heard : Result Frame ConnEnd → List ℕ
ids_heard (Err why) = []
ids_heard (Ok x) = taken_ids_in x.messages

unfoldable pub all_ids : ServerSettings → ℕ → ServerEnd → List Hand → List ℕ
all_ids z k f [] = []
all_ids z k f (h ∷ hs) = ids_heard (check_frame f h.frame) ++ all_ids z k (end_past z k f h) hs

abbrev pub FramesTakeOnce : Type 0
FramesTakeOnce =
    (z : ServerSettings) (k : ℕ) (salt : List ℕ) (hands : List Hand) (id : ℕ)
    → times id (all_ids z k (first_server_end salt) hands) ≤ 1
