-- What a restart leaves of a server: its persistent opens, without a session, and its files; no session and no connection.
use Rattle.std.specs.Prelude.{◌≡◌, ℕ, ◌+◌, Bool, true, false, List, [], Option, None}
use Rattle.spec_exchange.specs.Files.{exists_in, path_in}
use Rattle.spec_exchange.specs.State.{Server, Tree, Making}
use Rattle.spec_exchange.specs.Opens.{file_has_open}
use Rattle.spec_exchange.specs.Fold.{persistent_in}
use Rattle.law_records.specs.recovery.Recovers.{staying, kept_ranges, kept_guid}

-- the columns of sessions and connections, and those of opens that no record keeps
pub record NoSessions (at : ℕ → Option ℕ) (sequence : ℕ → ℕ) (deadline : ℕ → Option ℕ) (listed : ℕ → Option (List ℕ))
    (offset : ℕ → ℕ)
    (present : ℕ → Bool) (sessions : ℕ) (trees : ℕ → List Tree) (closed : ℕ → ℕ → Bool) (refused : ℕ → ℕ → Option ℕ)
    (guids : ℕ → ℕ) (connections : List ℕ) (on : ℕ → Option ℕ) (making : ℕ → Option Making) : Type 0 where
  pub apart : (o : ℕ) → at o ≡ None
  pub unreached : (o : ℕ) → sequence o ≡ 0
  pub undated : (o : ℕ) → deadline o ≡ None
  pub unlisted : (o : ℕ) → listed o ≡ None
  pub unmoved : (o : ℕ) → offset o ≡ 0
  pub absent : (x : ℕ) → present x ≡ false
  pub no_count : sessions ≡ 0
  pub no_trees : (x : ℕ) → trees x ≡ []
  pub unclosed : (x g : ℕ) → closed x g ≡ false
  pub unrefused : (x g : ℕ) → refused x g ≡ None
  pub no_guids : (x : ℕ) → guids x ≡ 0
  pub no_connections : connections ≡ []
  pub off : (k : ℕ) → on k ≡ None
  pub unmade : (k : ℕ) → making k ≡ None

-- a server without sessions, trees and connections
abbrev pub Bare : Server → Type 0
Bare s = NoSessions s.session_of_open s.sequence s.deadline s.enumeration_location s.current_byte_offset s.present s.sessions s.trees s.closed
    s.refused s.guids s.connections s.session_on s.making

-- u stands where s stood before the restart
pub record Restarted (s u : Server) : Type 0 where
  pub epoch : u.epoch ≡ s.epoch + 1
  pub open_ids_given : u.open_ids_given ≡ 0
  pub session_ids_given : u.session_ids_given ≡ 0
  pub opens : u.opens ≡ persistent_in s.opened s.opens
  pub standing : (o : ℕ) → u.standing o ≡ staying s.standing s.opened o
  pub opened : (o : ℕ) → staying s.standing s.opened o ≡ true → u.opened o ≡ s.opened o
  pub lock_sequences : (o i : ℕ) → staying s.standing s.opened o ≡ true → u.lock_sequences o i ≡ s.lock_sequences o i
  pub by_guid : (c g : ℕ) → u.by_guid c g ≡ kept_guid (staying s.standing s.opened) (s.by_guid c g)
  pub ranges : (f : ℕ) → u.ranges f ≡ kept_ranges (staying s.standing s.opened) (s.ranges f)
  pub next_file : u.next_file ≡ s.next_file
  pub directory : u.directory ≡ s.directory
  pub delete_pending : (f : ℕ) → u.delete_pending f ≡ true → s.delete_pending f ≡ true
  pub basic : u.basic ≡ s.basic
  pub content : u.content ≡ s.content
  pub expired_guids : u.expired_guids ≡ s.expired_guids
  pub expired_count : u.expired_count ≡ s.expired_count
  pub bare : Bare u

-- and of the entries: what is there was there, at the same path; a file that isn't delete pending is there, and that of an open
-- that stays, which is delete pending where it was. Nothing without an open is delete pending
pub record EntriesLeft (s u : Server) : Type 0 where
  pub were : (f : ℕ) → exists_in u.entries f ≡ true → exists_in s.entries f ≡ true × path_in u.entries f ≡ path_in s.entries f
  pub not_pending : (f : ℕ) → s.delete_pending f ≡ false → exists_in u.entries f ≡ exists_in s.entries f
  pub held : (o : ℕ) → staying s.standing s.opened o ≡ true → exists_in u.entries (s.opened o).file ≡ exists_in s.entries (s.opened o).file
  pub held_pending : (o : ℕ) → staying s.standing s.opened o ≡ true → u.delete_pending (s.opened o).file ≡ s.delete_pending (s.opened o).file
  pub opened : (f : ℕ) → exists_in u.entries f ≡ true → u.delete_pending f ≡ true → file_has_open u f ≡ true
