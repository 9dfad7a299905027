-- What was prepared of an event is so with another table of opens that shows the same state.
use Rattle.std.proofs.Common.{ℕ, Option}
use Rattle.spec_exchange.specs.CheckOpen.{file_of}
use Rattle.spec_exchange.specs.Commands.{CreateRequest}
use Rattle.spec_exchange.specs.State.{Accept, End, Heard, Message, Server, ServerEvent, Stop}
use Rattle.store_opens.specs.open_table.Shown.{ShowsOpens}
use Rattle.store_opens.specs.declared.open_table.table.Opens.{Opens}
use Rattle.server_checks.specs.Shown.{TablesShown}
use Rattle.server_checks.specs.declared.tables.Tables.{Tables}
use Rattle.server_effects.specs.Making.{FileFor}
use Rattle.server_effects.specs.Ready.{ChangeFor, FilesForChange, OthersShown}
use Rattle.server_effects.specs.declared.changing.ChangeReady.{ChangeReady}
use Rattle.server_effects.specs.declared.changing.ChangeReady.TheVariants as changes
use Rattle.server_effects.specs.declared.making.FileReady.{FileReady}
use Rattle.server_effects.specs.declared.making.FileReady.TheVariants as files
use Rattle.server_effects.specs.prepared_event.Prepared.{IsPrepared}
use Rattle.server_effects.specs.declared.prepared_event.prepared.Prepared.{Prepared}
use Rattle.server_effects.specs.declared.prepared_event.prepared.Prepared.TheVariants as prepared
use Rattle.server_effects.specs.reserved.Readied.{reserved_changed, found_of}
use Rattle.server_effects.specs.reserved.Room.{FilesReady, ReservedStands}
use Rattle.server_effects.specs.declared.reserved.ready.Ready.{Ready}
use Rattle.server_effects.specs.declared.reserved.ready.Ready.TheVariants as readies
use Rattle.server_checks.specs.verdicts.Views.{create_in}

abbrev pub opened : Tables → Opens → Tables
opened t u = record t { opens = u }

file_for : (t : Tables) (u : Opens) (s : Server) (r : CreateRequest) (o : Option ℕ) (now : ℕ) (x : FileReady) → FileFor t s r o now x
    → FileFor (opened t u) s r o now x
file_for t u s r o now (files.New file) h = h
file_for t u s r o now (files.Emptied file attributes) h = h
file_for t u s r o now (files.AsItIs file) h = h

changed_for : (t : Tables) (u : Opens) (s : Server) (m : Message) (x : ℕ) (r : ChangeReady)
    → ChangeFor t s x r (reserved_changed m.command r)
    → ChangeFor (opened t u) s x r (reserved_changed m.command r)
changed_for t u s m x (changes.PutBytes new) h = h
changed_for t u s m x (changes.PutEnd size) h = h
changed_for t u s m x (changes.PutBasic basic) h = h
changed_for t u s m x (changes.PutDeletePending pending) h = h
changed_for t u s m x (changes.PutPath moved) h = h
changed_for t u s m x changes.PutNothing h = h

files_for : (t : Tables) (u : Opens) (s : Server) (r : ChangeReady) → FilesForChange t s r → FilesForChange (opened t u) s r
files_for t u s (changes.PutBytes new) h = h
files_for t u s (changes.PutEnd size) h = h
files_for t u s (changes.PutBasic basic) h = h
files_for t u s (changes.PutDeletePending pending) h = h
files_for t u s (changes.PutPath moved) h = h
files_for t u s changes.PutNothing h = h

files_ready : (t : Tables) (u : Opens) (s : Server) (r : Ready) → FilesReady t s r → FilesReady (opened t u) s r
files_ready t u s (readies.Refuse status) h = h
files_ready t u s (readies.Give body) h = h
files_ready t u s (readies.KeepRefusal guid status) h = h
files_ready t u s (readies.Repeat id) h = h
files_ready t u s (readies.Attach id) h = h
files_ready t u s (readies.Make file row) h = h
files_ready t u s (readies.TurnDown id status) h = h
files_ready t u s (readies.Tell id body) h = h
files_ready t u s (readies.Show id last body) h = h
files_ready t u s (readies.Seek id position) h = h
files_ready t u s (readies.KeepSlot id index number status) h = h
files_ready t u s (readies.PutRanges id index number ranges) h = h
files_ready t u s (readies.Alter id change body acted) h = files_for t u s change h
files_ready t u s (readies.CloseOpen id body) h = h
files_ready t u s (readies.Setup step) h = h
files_ready t u s (readies.EndSession session quiet) h = h
files_ready t u s (readies.AddTree pipes) h = h
files_ready t u s (readies.DropTree opens) h = h

stands : (t : Tables) (u : Opens) (s : Server) (m : Message) (now : ℕ) (r : Ready) → ReservedStands t s m now r
    → ReservedStands (opened t u) s m now r
stands t u s m now (readies.Refuse status) h = h
stands t u s m now (readies.Give body) h = h
stands t u s m now (readies.KeepRefusal guid status) h = h
stands t u s m now (readies.Repeat id) h = h
stands t u s m now (readies.Attach id) h = h
stands t u s m now (readies.Make file row) h = (file_for t u s (create_in m.command) (found_of file) now file h.0, h.1)
stands t u s m now (readies.TurnDown id status) h = h
stands t u s m now (readies.Tell id body) h = h
stands t u s m now (readies.Show id last body) h = h
stands t u s m now (readies.Seek id position) h = h
stands t u s m now (readies.KeepSlot id index number status) h = h
stands t u s m now (readies.PutRanges id index number ranges) h = h
stands t u s m now (readies.Alter id change body acted) h = (changed_for t u s m (file_of s id) change h.0, h.1)
stands t u s m now (readies.CloseOpen id body) h = h
stands t u s m now (readies.Setup step) h = h
stands t u s m now (readies.EndSession session quiet) h = h
stands t u s m now (readies.AddTree pipes) h = h
stands t u s m now (readies.DropTree opens) h = h

others : (t : Tables) (u : Opens) (s : Server) → OthersShown t s → ShowsOpens u s → OthersShown (opened t u) s
others t u s h o = record {
  opens = o;
  sessions = h.sessions;
  share_is = h.share_is;
  room_is = h.room_is;
  encrypts_is = h.encrypts_is;
  address_is = h.address_is;
  version_is = h.version_is;
  journal_is = h.journal_is;
}

shown : (t : Tables) (u : Opens) (s : Server) → TablesShown t s → ShowsOpens u s → TablesShown (opened t u) s
shown t u s h o = record {
  opens = o;
  files = h.files;
  sessions = h.sessions;
  share_is = h.share_is;
  room_is = h.room_is;
  encrypts_is = h.encrypts_is;
  address_is = h.address_is;
  version_is = h.version_is;
  journal_is = h.journal_is;
}

pub prepared_again : (t : Tables) (u : Opens) (s : Server) (now : ℕ) (e : ServerEvent) (p : Prepared) → IsPrepared t s now e p
    → ShowsOpens u s → IsPrepared (opened t u) s now e p
prepared_again t u s now (Heard m) (prepared.Says ready) h o = record {
  others = others t u s h.others o;
  files = files_ready t u s ready h.files;
  stands = stands t u s m now ready h.stands;
}
prepared_again t u s now (Accept c) (prepared.Says ready) h o = shown t u s h o
prepared_again t u s now (End c) (prepared.Says ready) h o = shown t u s h o
prepared_again t u s now Stop (prepared.Says ready) h o = shown t u s h o
prepared_again t u s now e (prepared.TakesIn connection) h o = shown t u s h o
prepared_again t u s now e prepared.TurnsAway h o = shown t u s h o
prepared_again t u s now e (prepared.TakesOut connection quiet) h o = shown t u s h o
prepared_again t u s now e (prepared.TakesAllOut quiet) h o = shown t u s h o
