-- The events of the first messages of a frame, whatever befalls those behind them.
use Rattle.std.specs.Prelude.{◌≡◌, ◌≤◌, ◌<◌, ℕ, false, is_some, List, ◌++◌, length, take, slice_get, Option, None, Some}
use Rattle.std.specs.Prelude.{Result, Ok, Err, option_map}
use Rattle.spec_exchange.specs.State as model
use Rattle.spec_world.specs.Settings.{ServerSettings}
use Rattle.spec_world.specs.Ends.{ServerEnd, Logons}
use Rattle.spec_world.specs.Hearing as hearing
use Rattle.spec_world.specs.Related as related
use Rattle.spec_world.specs.Mishaps.{Mishap, Owned, owning, owned_all, LeaveAll}
use Rattle.spec_world.specs.Notes.{has_acted}
use Rattle.conn_core.specs.declared.end.ConnEnd.{ConnEnd}
use Rattle.conn_core.specs.declared.end.ConnEnd.TheVariants.{Memory, Stopped}
use Rattle.conn_core.specs.declared.frame_messages.checked.Checked.{Checked}
use Rattle.conn_core.specs.declared.frame_messages.checked.CheckedFrame.{CheckedFrame}
use Rattle.conn_core.specs.frame_messages.Checking.{ShowsGoing}
use Rattle.conn_core.specs.related.Carrying.{carry_of}
use Rattle.conn_core.specs.declared.related.related.Carry.{Carry}
use Rattle.conn_core.specs.served.Replies.{some_acted, some_lacked}
use Rattle.conn_core.specs.served.Serving.{Showing}
use Rattle.conn_core.specs.message_replies.Replying.{AreMessagesSaid, FailRightly}
use Rattle.conn_core.specs.frame_events.Dealing.{Dealing, LosesOne, SameCommands, taken_records}
use Rattle.conn_core.specs.frame_events.Written.{WriteAll}
use Rattle.conn_core.specs.declared.frame_events.handing.Dealt.{Dealt}

abbrev pub so_far_with_mishaps : Owned → List (Option Mishap) → Owned
so_far_with_mishaps w later = record w { mishaps = later }

-- the events of the first messages of a frame, whatever others are behind them: w behind them, without the mishaps that are still to
-- come, and the records that they wrote
pub record SoFarBegins (z : ServerSettings) (k now : ℕ) (fresh : List ℕ) (s : model.Server) (L : Logons) (f : ServerEnd)
    (cs : List hearing.Checked) (at : ℕ) (more : List model.Record) (w : Owned) : Type 0 where
  pub mishaps : List (Option Mishap)
  pub is : (later : List (Option Mishap)) (rest : List hearing.Checked)
      → owned_all z k now fresh f (owning s L f (mishaps ++ later)) (take at cs ++ rest)
      ≡ owned_all z k now fresh f (so_far_with_mishaps w later) rest
  pub left : (later : List (Option Mishap)) (rest : List hearing.Checked) → LeaveAll z k now fresh f (so_far_with_mishaps w later) rest
      → LeaveAll z k now fresh f (owning s L f (mishaps ++ later)) (take at cs ++ rest)
  pub written : (later : List (Option Mishap)) (rest : List hearing.Checked) (after : List model.Record)
      → WriteAll z k now fresh f (so_far_with_mishaps w later) rest after
      → WriteAll z k now fresh f (owning s L f (mishaps ++ later)) (take at cs ++ rest) (more ++ after)

-- Behind the messages in front of `at`; those from `from` on stand as they were checked. w is what the definitions make of it, y what
-- the last message handed on, more the records. Nothing here looks at the server's state, nor at its logons.
pub record Facts (z : ServerSettings) (k now : ℕ) (fresh : List ℕ) (s : model.Server) (L : Logons) (f : ServerEnd)
    (cs : List hearing.Checked) (at from : ℕ) (x : CheckedFrame) (d : Dealt) (y : Option related.Carry) (more : List model.Record)
    (w : Owned) : Type 0 where
  pub goes : w.dealt.stopped ≡ None
  pub none_missing : w.dealt.missing ≡ false
  pub acted : has_acted w.dealt.going.taken ≡ some_acted d.replies.items.items
  pub lacked : w.dealt.lacked ≡ some_lacked d.replies.items.items
  pub took : is_some w.dealt.going.taken ≡ d.took
  pub records_are : w.dealt.lacked ≡ false → more ≡ taken_records w.dealt.going.taken
  pub carried_is : at < length cs → w.dealt.going.carried ≡ y
  pub done : List Checked
  pub taken : List hearing.Checked
  pub long : length done ≡ at
  pub also : length taken ≡ at
  pub same : (i : ℕ) (m : Checked) → slice_get done i ≡ Some m → slice_get x.messages.items i ≡ Some m
  pub shows : (i : ℕ) (m : Checked) (c : hearing.Checked) → slice_get done i ≡ Some m → slice_get taken i ≡ Some c
      → ShowsGoing x.bytes.items m c
  pub commands : SameCommands taken (take at cs)
  pub fails : FailRightly done
  pub said : AreMessagesSaid z now f done taken d.replies.items.items f.window w.dealt.going.replies w.dealt.going.window
  pub rest : (i : ℕ) (m : Checked) (c : hearing.Checked) → from ≤ i → slice_get x.messages.items i ≡ Some m → slice_get cs i ≡ Some c
      → ShowsGoing x.bytes.items m c × (m.fails ≡ None)

-- over a server that no one else uses
pub record DealtSoFar (z : ServerSettings) (k now : ℕ) (fresh : List ℕ) (s : model.Server) (L : Logons) (f : ServerEnd)
    (cs : List hearing.Checked) (at from : ℕ) (x : CheckedFrame) (d : Dealt) (y : Option related.Carry) (more : List model.Record)
    (w : Owned) : Type 0 where
  pub begins : SoFarBegins z k now fresh s L f cs at more w
  pub facts : Facts z k now fresh s L f cs at from x d y more w

-- behind one more of them
abbrev pub SoFarSteps : Showing → ServerSettings → ℕ → ℕ → List ℕ → model.Server → Logons → List model.Record → ServerEnd
    → List hearing.Checked → ℕ → CheckedFrame → Dealt → Result (Option Carry) ConnEnd → Type 0
SoFarSteps shown z k now fresh s L records f cs at x d (Ok y) = (v : Owned) × (more : List model.Record)
    × DealtSoFar z k now fresh s L f cs at at x d (option_map carry_of y) more v
    × shown v.dealt.going.server v.dealt.going.logons (records ++ more)
SoFarSteps shown z k now fresh s L records f cs at x d (Err (Stopped count)) =
    (v : Owned) × Dealing z k now fresh s L f cs d v × (v.dealt.stopped ≡ Some count)
SoFarSteps shown z k now fresh s L records f cs at x d (Err Memory) = LosesOne shown z k now fresh s L records f cs d
SoFarSteps shown z k now fresh s L records f cs at x d (Err e) = ⊥
