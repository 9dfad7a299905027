-- How the server's and the client's command end, as the words ask for it, and their statuses. What `drill` and `gen` come to stands
-- with them.
use Rattle.std.specs.Prelude.{◌≡◌, ℕ, Bool, false, if◌then◌else◌, List, [], ◌∷◌, codes, Option, Some, None}
use Rattle.std.specs.Str.{bytes_eq}
use Rattle.journal.specs.declared.disk_journal.journal.JournalError.{JournalError}
use Rattle.client_ends.specs.declared.ends.config.ClientConfig.{ClientConfig}
use Rattle.client_steps.specs.declared.whole_client.client.Client.{Client}
use Rattle.client_values.specs.declared.operations.values.OpKind.{OpKind}
use Rattle.run_command.specs.Running.{RunEnds}
use Rattle.run_command.specs.declared.ending.Ending.{Ending as RunEnding}
use Rattle.run_command.specs.declared.ending.Ending.TheVariants as runs
use Rattle.script_words.specs.Pieces.{pieces}
use Rattle.serve_command.specs.server_settings.Words.{address_of}
use Rattle.serve_command.specs.server_settings.Words.{is_serve}
use Rattle.serve_command.specs.declared.server_settings.words.Said.{Said}
use Rattle.base_outside.specs.declared.streams.address.Address.{Address}
use Rattle.serve_turns.specs.link_serving.Passage.{Passage}
use Rattle.serve_command.specs.Ends.{ServingEnds}
use Rattle.serve_command.specs.Printing.{Prints, usage_line}
use Rattle.serve_command.specs.declared.ending.Ending.{Ending}
use Rattle.serve_command.specs.declared.ending.Ending.TheVariants.{Done, Usage, Settings, SourceFailed, SinkFailed, DiskFailed, NetFailed}
use Rattle.serve_command.specs.declared.ending.Ending.TheVariants.{Memory, NoJournal, JournalFull}

-- the first word is the server's
abbrev pub asks_server : List (List ℕ) → Bool
asks_server [] = false
asks_server (word ∷ more) = is_serve word

-- the status that the program ends with
abbrev pub serve_status : Ending → ℕ
serve_status Done = 0
serve_status Usage = 2
serve_status Settings = 3
serve_status SourceFailed = 4
serve_status SinkFailed = 5
serve_status DiskFailed = 6
serve_status NetFailed = 7
serve_status Memory = 8
serve_status NoJournal = 9
serve_status JournalFull = 10

-- Of source and sink it is told how often they had failed, before and behind, of a source also what it had left, of a sink what it held,
-- and of net and disk what is left of them; of the net also what the peers of its links send, if links of its kind tell that, and of two of
-- its states what is all that passed over the link of a number that it accepted between them; of a disk why a start on it is refused, and
-- how that leaves it.
module _ {D N : Type 0} (told : Type 0) (seen : D → List ℕ) (may_leave : D → List ℕ → Type 0) (faults : D → ℕ)
    (listens_at : N → Option Address) (links : N → ℕ) (net_faults : N → ℕ) (link_told : Type 0) (sent : N → List (List ℕ))
    (over : (net net' : N) → ℕ → Passage → Type 0) (refuses : (disk left : D) → JournalError → Type 0) (disk : D) (net : N) (disk' : Option D) (net' : N)
    (left left' : Option (List ℕ)) (source source' : ℕ) (written written' : Option (List ℕ)) (sink sink' : ℕ) where
  -- by what the words say: where that is nothing, the usage is printed, and source, net and disk are as they were
  abbrev pub Serves : Option Said → Ending → Type 0
  Serves None ending = (left' ≡ left) × (source' ≡ source) × (net' ≡ net) × (disk' ≡ Some disk)
      × Prints written written' sink sink' usage_line Usage ending
  Serves (Some said) ending = ServingEnds told seen may_leave faults listens_at links net_faults link_told sent over refuses said disk left left'
      source source' written written' sink sink' net net' disk' ending

-- ---- the client's

abbrev pub is_run : List ℕ → Bool
is_run word = bytes_eq word (codes "run")

-- the first word is the client's
abbrev pub asks_client : List (List ℕ) → Bool
asks_client [] = false
asks_client (word ∷ more) = is_run word

-- `run ADDRESS`, and no other words
abbrev pub run_said : List (List ℕ) → Option Address
run_said [] = None
run_said (word ∷ []) = None
run_said (word ∷ place ∷ []) = if is_run word then address_of (pieces 58 place) else None
run_said (word ∷ place ∷ next ∷ more) = None

abbrev pub run_status : RunEnding → ℕ
run_status runs.Done = 0
run_status runs.Script = 3
run_status runs.SourceFailed = 4
run_status runs.SinkFailed = 5
run_status runs.Memory = 8
run_status runs.Unknown = 11

-- The same is told of source, sink and net. `over` says what channels come to, and there are the 32 bytes of a seed and the 16 of a GUID.
module _ {N : Type 0} (over : ℕ → List OpKind → ClientConfig → List ℕ → Client → Type 0) (seed guid : List ℕ) (net net' : N)
    (left left' : Option (List ℕ)) (source source' : ℕ) (written written' : Option (List ℕ)) (sink sink' : ℕ) where
  -- by what the words say: where that is nothing, the usage is printed, and source and net are as they were
  abbrev pub Runs : Option Address → ℕ → Type 0
  Runs None status = (left' ≡ left) × (source' ≡ source) × (net' ≡ net)
      × ((ending : Ending) × (status ≡ serve_status ending) × Prints written written' sink sink' usage_line Usage ending)
  Runs (Some at) status = (ending : RunEnding) × (status ≡ run_status ending)
      × RunEnds over seed guid left left' source source' written written' sink sink' net net' ending
