-- A push by the program's own choice, and what the client is to do then.
use Rattle.std.specs.Prelude.{ℕ, if◌then◌else◌, []}
use Rattle.spec_exchange.specs.Client.{Client}
use Rattle.spec_exchange.specs.ClientStep.{Act, AllSettled, Asks, CloseChannels, Nothing, Sends, push_act, push_after}
use Rattle.spec_exchange.specs.Schedules.{Choice, choose}
use Rattle.client_steps.specs.declared.pushing.pushing.Pushed.{Pushed}
use Rattle.client_steps.specs.declared.pushing.pushing.Pushed.TheVariants as pushes

abbrev pub act_of : Pushed → Act
act_of pushes.Nothing = Nothing
act_of (pushes.Goes index asking) = if asking then Asks index else Sends index
act_of pushes.CloseAll = CloseChannels
act_of pushes.Done = AllSettled

-- the choice among all that was taken, where the channel holds so many credits
abbrev pub chosen_with : Client → ℕ → ℕ → Choice
chosen_with c k credits = choose c k credits [] 1 c.taken

abbrev pub pushed_by : Client → ℕ → Choice → Client
pushed_by c k x = push_after c k x.slotless x.pick

abbrev pub act_by : Client → ℕ → Choice → Act
act_by c k x = push_act c k x.slotless x.pick
