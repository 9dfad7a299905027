-- What was made ready is so with other deadlines, where the table of opens shows them.
use Rattle.std.proofs.Common.{◌≡◌, ℕ, Bool, true, if◌then◌else◌, List, [], ◌∷◌, Option, refl, sym, ap, ◌∙◌}
use Rattle.spec_exchange.specs.CheckOpen.{file_of, target_of}
use Rattle.spec_exchange.specs.Commands.{CreateRequest, asks_directory, path_form}
use Rattle.spec_exchange.specs.Effects.{made_attributes, open_row, tree_opens_in}
use Rattle.spec_exchange.specs.Files.{exists, is_directory, is_read_only, path_of}
use Rattle.spec_exchange.specs.Opens.{is_of_tree}
use Rattle.spec_exchange.specs.State.{Message, Server}
use Rattle.server_effects.proofs.recovered_deadlines.Same.{acts, found, made, parent, refusal, with}
use Rattle.store_files.specs.file_tree.Made.{Prepared}
use Rattle.store_files.specs.file_tree.Moved.{Moving}
use Rattle.store_files.specs.file_tree.Refusals.{form_first}
use Rattle.store_files.specs.declared.file_tree.make.NewFile.{NewFile}
use Rattle.store_files.specs.declared.file_tree.rename.Move.{Move}
use Rattle.store_files.specs.declared.file_tree.tree.Tree.{Tree}
use Rattle.store_opens.specs.open_table.Shown.{ShowsOpens}
use Rattle.store_opens.specs.declared.open_table.row.Row.{Row}
use Rattle.store_opens.specs.declared.open_table.table.Opens.{Opens}
use Rattle.server_checks.specs.Shown.{TablesShown}
use Rattle.server_checks.specs.declared.tables.Tables.{Tables}
use Rattle.server_effects.specs.Making.{FileFor, RowFor}
use Rattle.server_effects.specs.Ready.{ChangeFor, FilesForChange, OthersShown}
use Rattle.server_effects.specs.declared.changing.ChangeReady.{ChangeReady}
use Rattle.server_effects.specs.declared.changing.ChangeReady.TheVariants as changes
use Rattle.server_effects.specs.declared.making.FileReady.{FileReady}
use Rattle.server_effects.specs.declared.making.FileReady.TheVariants as files
use Rattle.server_effects.specs.reserved.Readied.{reserved_changed, found_of}
use Rattle.server_effects.specs.reserved.Room.{FilesReady, IsReadied, ReservedStands}
use Rattle.server_effects.specs.declared.reserved.ready.Ready.{Ready}
use Rattle.server_effects.specs.declared.reserved.ready.Ready.TheVariants as readies
use Rattle.server_checks.specs.verdicts.Views.{create_in, path_in}
use Rattle.spec_exchange.specs.Opens.{granted}

abbrev pub opened : Tables → Opens → Tables
opened t u = record t { opens = u }

-- ---- the store

prepared : (t : Tree) (n : NewFile) (s : Server) (f : ℕ → Option ℕ) (path : List ℕ) (d : Bool) (a now : ℕ) → Prepared t n s path d a now
    → Prepared t n (with s f) path d a now
prepared t n s f path d a now h = record {
  rows = h.rows;
  free = h.free;
  named = h.named;
  form = h.form;
  parent = parent s f path ∙ h.parent;
  keys_are = h.keys_are;
  row_is = h.row_is;
}

moving : (t : Tree) (m : Move) (s : Server) (f : ℕ → Option ℕ) (x : ℕ) (to : List ℕ) → Moving t m s x to → Moving t m (with s f) x to
unfolding path_of
moving t m s f x to h = record {
  rows = h.rows;
  there = h.there;
  allowed = ap (form_first (path_form to)) (refusal s f x true to) ∙ h.allowed;
  replaced_is = h.replaced_is ∙ sym (ap (target_of x) (found s f to));
  names_are = h.names_are;
  whole = h.whole;
  keys_are = h.keys_are;
}

-- ---- a new open's file and row, and a change

file_for : (t : Tables) (u : Opens) (s : Server) (f : ℕ → Option ℕ) (r : CreateRequest) (o : Option ℕ) (now : ℕ) (x : FileReady)
    → FileFor t s r o now x → FileFor (opened t u) (with s f) r o now x
file_for t u s f r o now (files.New file) h = (h.0, prepared t.tree file s f r.path (asks_directory r) (made_attributes r) now h.1)
file_for t u s f r o now (files.Emptied file attributes) h = h
file_for t u s f r o now (files.AsItIs file) h = h

row_for : (s : Server) (f : ℕ → Option ℕ) (m : Message) (r : CreateRequest) (o : Option ℕ) (action : ℕ) (row : Row)
    → RowFor s m r o action row → RowFor (with s f) m r o action row
unfolding granted is_read_only exists is_directory
row_for s f m r o action row h = record {
  opened_is = h.opened_is ∙ ap (λ (x : ℕ). open_row s m r x action) (sym (made s f o));
  session_is = h.session_is;
  tree_is = h.tree_is;
  sequence_is = h.sequence_is;
  is_new = h.is_new;
}

changed_for : (t : Tables) (u : Opens) (s : Server) (f : ℕ → Option ℕ) (m : Message) (x : ℕ) (r : ChangeReady)
    → ChangeFor t s x r (reserved_changed m.command r) → ChangeFor (opened t u) (with s f) x r (reserved_changed m.command r)
changed_for t u s f m x (changes.PutBytes new) h = h
changed_for t u s f m x (changes.PutEnd size) h = h
changed_for t u s f m x (changes.PutBasic basic) h = h
changed_for t u s f m x (changes.PutDeletePending pending) h = h
changed_for t u s f m x (changes.PutPath moved) h = moving t.tree moved s f x (path_in m.command) h
changed_for t u s f m x changes.PutNothing h = h

files_for : (t : Tables) (u : Opens) (s : Server) (f : ℕ → Option ℕ) (r : ChangeReady) → FilesForChange t s r
    → FilesForChange (opened t u) (with s f) r
files_for t u s f (changes.PutBytes new) h = h
files_for t u s f (changes.PutEnd size) h = h
files_for t u s f (changes.PutBasic basic) h = h
files_for t u s f (changes.PutDeletePending pending) h = h
files_for t u s f (changes.PutPath moved) h = h
files_for t u s f changes.PutNothing h = h

-- ---- the whole

files_ready : (t : Tables) (u : Opens) (s : Server) (f : ℕ → Option ℕ) (r : Ready) → FilesReady t s r → FilesReady (opened t u) (with s f) r
files_ready t u s f (readies.Refuse status) h = h
files_ready t u s f (readies.Give body) h = h
files_ready t u s f (readies.KeepRefusal guid status) h = h
files_ready t u s f (readies.Repeat id) h = h
files_ready t u s f (readies.Attach id) h = h
files_ready t u s f (readies.Make file row) h = h
files_ready t u s f (readies.TurnDown id status) h = h
files_ready t u s f (readies.Tell id body) h = h
files_ready t u s f (readies.Show id last body) h = h
files_ready t u s f (readies.Seek id position) h = h
files_ready t u s f (readies.KeepSlot id index number status) h = h
files_ready t u s f (readies.PutRanges id index number ranges) h = h
files_ready t u s f (readies.Alter id change body acted) h = files_for t u s f change h
files_ready t u s f (readies.CloseOpen id body) h = h
files_ready t u s f (readies.Setup step) h = h
files_ready t u s f (readies.EndSession session quiet) h = h
files_ready t u s f (readies.AddTree pipes) h = h
files_ready t u s f (readies.DropTree opens) h = h

same_tree : (s : Server) (f : ℕ → Option ℕ) (x n : ℕ) (os : List ℕ) → tree_opens_in (with s f) x n os ≡ tree_opens_in s x n os
unfolding tree_opens_in
same_tree s f x n [] = refl
same_tree s f x n (o ∷ os) = ap (λ (v : List ℕ). if is_of_tree s o x n then o ∷ v else v) (same_tree s f x n os)

stands : (t : Tables) (u : Opens) (s : Server) (f : ℕ → Option ℕ) (m : Message) (now : ℕ) (r : Ready) → ReservedStands t s m now r
    → ReservedStands (opened t u) (with s f) m now r
stands t u s f m now (readies.Refuse status) h = h
stands t u s f m now (readies.Give body) h = h
stands t u s f m now (readies.KeepRefusal guid status) h = h
stands t u s f m now (readies.Repeat id) h = h
stands t u s f m now (readies.Attach id) h = h
stands t u s f m now (readies.Make file row) h = (
  file_for t u s f (create_in m.command) (found_of file) now file h.0,
  row_for s f m (create_in m.command) (found_of file) row.action row h.1,
)
stands t u s f m now (readies.TurnDown id status) h = h
stands t u s f m now (readies.Tell id body) h = h
stands t u s f m now (readies.Show id last body) h = h
stands t u s f m now (readies.Seek id position) h = h
stands t u s f m now (readies.KeepSlot id index number status) h = h
stands t u s f m now (readies.PutRanges id index number ranges) h = h
stands t u s f m now (readies.Alter id change body acted) h = (
  changed_for t u s f m (file_of s id) change h.0,
  h.1 ∙ sym (acts s f (file_of s id) now (reserved_changed m.command change)),
)
stands t u s f m now (readies.CloseOpen id body) h = h
stands t u s f m now (readies.Setup step) h = h
stands t u s f m now (readies.EndSession session quiet) h = h
stands t u s f m now (readies.AddTree pipes) h = h
stands t u s f m now (readies.DropTree opens) h = h ∙ sym (same_tree s f m.session_id m.tree_id s.opens)

others : (t : Tables) (u : Opens) (s : Server) (f : ℕ → Option ℕ) → OthersShown t s → ShowsOpens u (with s f)
    → OthersShown (opened t u) (with s f)
others t u s f h o = record {
  opens = o;
  sessions = h.sessions;
  share_is = h.share_is;
  room_is = h.room_is;
  encrypts_is = h.encrypts_is;
  address_is = h.address_is;
  version_is = h.version_is;
  journal_is = h.journal_is;
}

pub readied : (t : Tables) (u : Opens) (s : Server) (f : ℕ → Option ℕ) (m : Message) (now : ℕ) (r : Ready) → IsReadied t s m now r
    → ShowsOpens u (with s f) → IsReadied (opened t u) (with s f) m now r
readied t u s f m now r h o = record {
  others = others t u s f h.others o;
  files = files_ready t u s f r h.files;
  stands = stands t u s f m now r h.stands;
}

pub shown : (t : Tables) (u : Opens) (s : Server) (f : ℕ → Option ℕ) → TablesShown t s → ShowsOpens u (with s f)
    → TablesShown (opened t u) (with s f)
shown t u s f h o = record {
  opens = o;
  files = h.files;
  sessions = h.sessions;
  share_is = h.share_is;
  room_is = h.room_is;
  encrypts_is = h.encrypts_is;
  address_is = h.address_is;
  version_is = h.version_is;
  journal_is = h.journal_is;
}
