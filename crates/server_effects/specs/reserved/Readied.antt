-- The verdict that what was made ready stands for, with what it leaves to its request.
use Rattle.std.specs.Prelude.{ℕ, ◌-◌, Option, Some, None, length, map}
use Rattle.spec_exchange.specs.Commands as asks
use Rattle.spec_exchange.specs.State.{Empty}
use Rattle.spec_exchange.specs.Verdict as verdicts
use Rattle.wire_commands.specs.values.Meaning.{body_of}
use Rattle.store_opens.specs.share_modes.Locking.{range_of}
use Rattle.server_checks.specs.verdicts.Views.{bytes_in, create_in, elements_in, path_in}
use Rattle.server_checks.specs.event_heard.Heard.{setup_in}
use Rattle.server_effects.specs.declared.changing.ChangeReady.{ChangeReady}
use Rattle.server_effects.specs.declared.changing.ChangeReady.TheVariants as changes
use Rattle.server_effects.specs.declared.making.FileReady.{FileReady}
use Rattle.server_effects.specs.declared.making.FileReady.TheVariants as files
use Rattle.server_effects.specs.declared.reserved.ready.Ready.{Ready}
use Rattle.server_effects.specs.declared.reserved.ready.Ready.TheVariants as readies
use Rattle.server_effects.specs.declared.reserved.ready.SetupReady.{SetupReady}
use Rattle.server_effects.specs.declared.reserved.ready.SetupReady.TheVariants as steps

abbrev pub found_of : FileReady → Option ℕ
found_of (files.New file) = None
found_of (files.Emptied file attributes) = Some file
found_of (files.AsItIs file) = Some file

-- a write ends where its bytes do
abbrev pub reserved_changed : asks.Command → ChangeReady → verdicts.Change
reserved_changed c (changes.PutBytes new) = verdicts.PutBytes (new.end - length (bytes_in c)) (bytes_in c)
reserved_changed c (changes.PutEnd size) = verdicts.PutEnd size
reserved_changed c (changes.PutBasic basic) = verdicts.PutBasic basic
reserved_changed c (changes.PutDeletePending pending) = verdicts.PutDeletePending pending
reserved_changed c (changes.PutPath moved) = verdicts.PutPath moved.replaced (path_in c)
reserved_changed c changes.PutNothing = verdicts.PutNothing

abbrev pub stepped : asks.Command → SetupReady → verdicts.Verdict
stepped c (steps.Challenge list acceptor token) = verdicts.Challenge
stepped c (steps.ChallengeBinding session list acceptor token) = verdicts.ChallengeBinding session
stepped c (steps.Begin session row token previous quiet) = verdicts.Begin session row.user previous (setup_in c) quiet
stepped c (steps.Join session keys token) = verdicts.Join session

abbrev pub readied : asks.Command → Ready → verdicts.Verdict
readied c (readies.Refuse status) = verdicts.Refuse status
readied c (readies.Give body) = verdicts.Give (body_of body)
readied c (readies.KeepRefusal guid status) = verdicts.KeepRefusal guid status
readied c (readies.Repeat id) = verdicts.Repeat id (create_in c)
readied c (readies.Attach id) = verdicts.Attach id (create_in c)
readied c (readies.Make file row) = verdicts.Make (create_in c) (found_of file) row.action
readied c (readies.TurnDown id status) = verdicts.TurnDown id status
readied c (readies.Tell id body) = verdicts.Tell id (body_of body)
readied c (readies.Show id last body) = verdicts.Show id (verdicts.Behind last) (body_of body)
readied c (readies.Seek id position) = verdicts.Show id (verdicts.At position) Empty
readied c (readies.KeepSlot id index number status) = verdicts.KeepSlot id index number status (elements_in c)
readied c (readies.PutRanges id index number ranges) = verdicts.PutRanges id index number (map range_of ranges.items) (elements_in c)
readied c (readies.Alter id change body acts) = verdicts.Alter id (reserved_changed c change) (body_of body)
readied c (readies.CloseOpen id body) = verdicts.CloseOpen id (body_of body)
readied c (readies.Setup step) = stepped c step
readied c (readies.EndSession session quiet) = verdicts.EndSession session quiet
readied c (readies.AddTree pipes) = verdicts.AddTree pipes
readied c (readies.DropTree opens) = verdicts.DropTree
