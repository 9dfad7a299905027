-- How `run` ends, with the cause of each ending.
use Rattle.std.specs.Prelude.{◌≡◌, ◌⊎◌, ℕ, Bool, if◌then◌else◌, List, Option, Result, Ok, Err}
use Rattle.std.specs.Io.KnownBytes.{IsAtEnd}
use Rattle.std.specs.declared.alloc.AllocError.{AllocError}
use Rattle.client_book.specs.Configuring.{IsClientOf}
use Rattle.client_channels.specs.channel_threads.Running.{ChannelsRan}
use Rattle.client_ends.specs.declared.ends.config.ClientConfig.{ClientConfig}
use Rattle.client_steps.specs.declared.whole_client.client.Client.{Client}
use Rattle.client_values.specs.declared.operations.values.OpKind.{OpKind}
use Rattle.law_scripts.specs.script_setup.Scripts.{first_user}
use Rattle.script_words.specs.text_lines.Script.{Read}
use Rattle.script_words.specs.text_lines.Settings.{settings_of}
use Rattle.script_words.specs.text_lines.Views.{read_of}
use Rattle.script_words.specs.declared.text_lines.line.Script.{Script}
use Rattle.run_command.specs.Asking.{Asks, SinkStays, WritesText, operations_said}
use Rattle.run_command.specs.Telling.{IsReceipt, leaves_unknown}
use Rattle.run_command.specs.declared.command.Ready.{Ready}
use Rattle.run_command.specs.declared.ending.Ending.{Ending}
use Rattle.run_command.specs.declared.ending.Ending.TheVariants.{Done, Memory, Unknown}

-- what channels are given by a script
pub record IsReady (read : Read) (guid : List ℕ) (r : Ready) : Type 0 where
  pub configured : IsClientOf (settings_of read.given) (first_user (settings_of read.given).users) guid r.config
  pub channels : r.channels ≡ (settings_of read.given).channels
  pub ops : r.ops.items ≡ operations_said read.lines

-- the text of a client, of which every operation is settled
abbrev pub ClientTells : Client → List ℕ → Type 0
ClientTells x text = IsReceipt x.table.dialogs.items x.table.ops.items x.table.settled.items x.table.order.items text

-- whether some outcome is unknown
abbrev pub ending_due : Client → Ending
ending_due x = if leaves_unknown x.table.settled.items then Unknown else Done

module _ (written written' : Option (List ℕ)) (sink sink' : ℕ) where
  -- the text of a client was written
  pub record HasWritten (x : Client) (ending : Ending) : Type 0 where
    pub printed : List ℕ
    pub tells : ClientTells x printed
    pub writes : WritesText written written' sink sink' printed (ending_due x) ending

  -- memory ran out
  abbrev pub HasNoRoom : Ending → Type 0
  HasNoRoom ending = (ending ≡ Memory) × SinkStays written written' sink sink'

  -- what channels left was written
  abbrev pub Leaves : Result Client AllocError → Ending → Type 0
  Leaves (Ok x) ending = HasNoRoom ending ⊎ HasWritten x ending
  Leaves (Err e) ending = HasNoRoom ending

-- What channels of these kinds of links and nets come to, where a gate lets each pass: so many of them, for these operations, with a
-- configuration and a seed, leave this client. Each of its operations is settled.
module _ {K N : Type 0} (told : Type 0) (given left written : K → List ℕ) (faults : K → ℕ) (ended : K → Bool) (net_faults : N → ℕ) where
  abbrev pub RunsOver : ℕ → List OpKind → ClientConfig → List ℕ → Client → Type 0
  RunsOver count ops config seed client =
      ChannelsRan told given left written faults ended (λ channel turn. ⊥) config seed net_faults count ops client

-- `over` says what channels come to
module _ (over : ℕ → List OpKind → ClientConfig → List ℕ → Client → Type 0) (seed guid : List ℕ) (written written' : Option (List ℕ))
    (sink sink' : ℕ) where
  -- the channels ran as the script says, and what they left was written
  pub record HasRun (read : Read) (ending : Ending) : Type 0 where
    pub config : ClientConfig
    pub configured : IsClientOf (settings_of read.given) (first_user (settings_of read.given).users) guid config
    pub client : Client
    pub ran : over (settings_of read.given).channels (operations_said read.lines) config seed client
    pub wrote : HasWritten written written' sink sink' client ending

  -- or memory ran out, before or behind
  abbrev pub GoesOn : Read → Ending → Type 0
  GoesOn read ending = HasNoRoom written written' sink sink' ending ⊎ HasRun read ending

-- It had read a script to the source's end, and written nothing so far.
pub record HasGone (over : ℕ → List OpKind → ClientConfig → List ℕ → Client → Type 0) (seed guid : List ℕ)
    (left left' : Option (List ℕ)) (source source' : ℕ) (written written' : Option (List ℕ)) (sink sink' : ℕ) (ending : Ending)
    : Type 0 where
  pub asked : Script
  pub between : Option (List ℕ)
  pub calm : ℕ
  pub asks : Asks left left' source source' written between sink calm (Ok asked)
  pub ended : IsAtEnd left'
  pub goes : GoesOn over seed guid between written' calm sink' (read_of asked) ending

-- It ended with what was read, and the net wasn't used; or it went on with a script.
abbrev pub RunEnds : {N : Type 0} → (ℕ → List OpKind → ClientConfig → List ℕ → Client → Type 0) → (seed guid : List ℕ)
    → (left left' : Option (List ℕ)) → (source source' : ℕ) → (written written' : Option (List ℕ)) → (sink sink' : ℕ) → (net net' : N)
    → Ending → Type 0
RunEnds over seed guid left left' source source' written written' sink sink' net net' ending =
    (Asks left left' source source' written written' sink sink' (Err ending) × (net' ≡ net))
    ⊎ HasGone over seed guid left left' source source' written written' sink sink' ending
