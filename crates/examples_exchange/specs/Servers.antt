-- A server alone, that hears one message after the other.
use Rattle.std.specs.Prelude.{ℕ, zero, suc, ◌+◌, ◌==◌, Bool, true, false, not, ◌&&◌, List, [], ◌∷◌, length, Option, Some, None, if◌then◌else◌, ◌++◌}
use Rattle.spec_exchange.specs.Content.{same_bytes}
use Rattle.spec_exchange.specs.Commands.{Command, Setup, TreeConnect, Shows, Begins, Logon, Create, Durable, Element, Read, Basic, Close, SetBasic, SetInfo, CreateRequest}
use Rattle.spec_exchange.specs.State.{Accept, Server, Message, ServerEvent, Heard, Body, Info, Entry, Open, Range}
use Rattle.spec_exchange.specs.State.{Record, Origin, EpochRecord, VersionRecord, CreateRecord, WriteRecord, DeleteRecord, RenameRecord}
use Rattle.spec_exchange.specs.Files.{same_basic}
use Rattle.spec_exchange.specs.Records.{lower_limit}
use Rattle.spec_exchange.specs.Step.{step}
use Rattle.spec_exchange.specs.Fold.{fold, durable, recovered}
use Rattle.spec_exchange.specs.Network.{World}
use Rattle.spec_exchange.specs.Schedules.{Links, course}
use Rattle.examples_exchange.specs.Scripts.{beginning}

-- ---- one session, of id 4294967297 with tree 1, on connection 0

abbrev pub session : ℕ
session = 4294967297

abbrev pub one_session : Server
one_session = (course 1 (Links 0 ∷ []) (beginning 268435456)).world.server

abbrev pub from_client : ℕ → ℕ → ℕ → ℕ → Bool → Command → Message
from_client k client id sequence replay command = record {
  connection = k;
  client_guid = client;
  session_id = session;
  tree_id = 1;
  message_id = id;
  channel_sequence = sequence;
  replay = replay;
  fault = None;
  command = command;
}

abbrev pub ask : Command → ServerEvent
ask command = Heard (from_client 0 7 9 0 false command)

-- ---- what it answers to the last of a list of events, each a moment behind the one before

abbrev pub after_all : Server → ℕ → List ServerEvent → Server
after_all s now [] = s
after_all s now (e ∷ es) = after_all (step s now e).server (now + 1) es

abbrev pub status_after : Server → List ServerEvent → ServerEvent → ℕ
status_after s before e = (step (after_all s 100 before) 200 e).reply.status

abbrev pub body_after : Server → List ServerEvent → ServerEvent → Body
body_after s before e = (step (after_all s 100 before) 200 e).reply.body

abbrev pub records_after : Server → List ServerEvent → ServerEvent → List Record
records_after s before e = (step (after_all s 100 before) 200 e).records

-- how many files stand after a list of events
abbrev pub files_after : Server → List ServerEvent → ℕ
files_after s events = length (after_all s 100 events).entries

-- ---- requests

abbrev pub binding : Bool → Command
binding signed = Setup (record {
  readable = true;
  binding = true;
  signed = signed;
  verified = signed;
  previous = 0;
  cipher = 2;
  signing = 1;
  shows = Begins;
})

-- the second request of a binding to the session, on connection 1
abbrev pub binding_logon : ServerEvent
binding_logon = Heard (from_client 1 7 10 0 false (Setup (record {
  readable = true;
  binding = true;
  signed = true;
  verified = true;
  previous = 0;
  cipher = 2;
  signing = 1;
  shows = Logon (117 ∷ []);
})))

abbrev pub make : ℕ → ℕ → ℕ → ℕ → Option Durable → Command
make access share disposition options durable =
    Create (record {
      path = 97 ∷ [];
      access = access;
      share = share;
      attributes = 0;
      disposition = disposition;
      options = options;
      durable = durable;
      reconnect = None;
      maximal = false;
      disk_id = false;
    })

-- the same with attributes
abbrev pub make_with : ℕ → ℕ → ℕ → ℕ → ℕ → Option Durable → Command
make_with attributes access share disposition options durable =
    Create (record {
      path = 97 ∷ [];
      access = access;
      share = share;
      attributes = attributes;
      disposition = disposition;
      options = options;
      durable = durable;
      reconnect = None;
      maximal = false;
      disk_id = false;
    })

-- the same under another path: `a\NAME`
abbrev pub make_below : ℕ → ℕ → ℕ → Command
make_below name access disposition =
    Create (record {
      path = 97 ∷ 92 ∷ name ∷ [];
      access = access;
      share = 7;
      attributes = 0;
      disposition = disposition;
      options = 0x40;
      durable = None;
      reconnect = None;
      maximal = false;
      disk_id = false;
    })

-- a directory `a` that is open twice, the first time to delete on close, and in which the closed file `a\b` stands
abbrev pub full_directory : List ServerEvent
full_directory = ask (make 0x10081 7 2 0x1001 None) ∷ ask (make 0x10081 7 1 0x1 None) ∷ ask (make_below 98 0x10183 2)
    ∷ ask (Close 4294967299 false) ∷ []

-- a closed name beside it, which is open to be renamed, and then the directory, whose opens are the next two
abbrev pub make_named : ℕ → Command
make_named name =
    Create (record {
      path = name ∷ [];
      access = 0x10183;
      share = 7;
      attributes = 0;
      disposition = 2;
      options = 0x40;
      durable = None;
      reconnect = None;
      maximal = false;
      disk_id = false;
    })

abbrev pub full_directory_behind : List ServerEvent
full_directory_behind = ask (make 0x10081 7 2 0x1001 None) ∷ ask (make 0x10081 7 1 0x1 None) ∷ ask (make_below 98 0x10183 2)
    ∷ ask (Close 4294967300 false) ∷ []

-- the ids of the first opens
abbrev pub first_open : ℕ
first_open = 4294967297

abbrev pub second_open : ℕ
second_open = 4294967298

-- a file that was made with these and closed
abbrev pub closed_file : ℕ → List ServerEvent
closed_file attributes = ask (make_with attributes 0x183 7 2 0x40 None) ∷ ask (Close first_open false) ∷ []

-- a setting of its attributes, and of the time at which it was made
abbrev pub basic_to : ℕ → ℕ → ℕ → Command
basic_to o attributes created = SetInfo o (SetBasic (record {
  created = created;
  accessed = 0;
  written = 0;
  changed = 0;
  attributes = attributes;
}))

abbrev pub basic_after : Server → List ServerEvent → Basic
basic_after s events = (after_all s 100 events).basic 1

abbrev pub access_after : Server → List ServerEvent → ℕ → ℕ
access_after s events o = ((after_all s 100 events).opened o).access

abbrev pub by_guid : ℕ → Bool → Option Durable
by_guid guid persistent = Some (record { timeout = 0; persistent = persistent; guid = guid })

abbrev pub lock_of : ℕ → ℕ → ℕ → ℕ → ℕ → Element
lock_of o at n flags unused = record { at = at; length = n; flags = flags }

-- the first file or directory of the share, made at this moment
abbrev pub made_info : Bool → ℕ → Info
made_info is_dir now = record {
  file = 1;
  is_directory = is_dir;
  size = 0;
  is_delete_pending = false;
  times = record { created = now; accessed = now; written = now; changed = now; attributes = if is_dir then 0 else 0x20 };
}

-- ---- a second session, of id 4294967298 with tree 1, on connection 1

abbrev pub second_id : ℕ
second_id = 4294967298

abbrev pub setup : Shows → Command
setup shows = Setup (record {
  readable = true;
  binding = false;
  signed = false;
  verified = false;
  previous = 0;
  cipher = 2;
  signing = 1;
  shows = shows;
})

abbrev pub in_second : ℕ → ℕ → Bool → Command → ServerEvent
in_second id tree replay command = Heard (record {
  connection = 1;
  client_guid = 7;
  session_id = id;
  tree_id = tree;
  message_id = 9;
  channel_sequence = 0;
  replay = replay;
  fault = None;
  command = command;
})

abbrev pub second_session : Server
second_session = after_all one_session 50 (Accept 1 ∷ in_second 0 0 false (setup Begins) ∷ in_second second_id 0 false
    (setup (Logon (117 ∷ []))) ∷ in_second second_id 0 false (TreeConnect (100 ∷ [])) ∷ [])

abbrev pub ask_second : Bool → Command → ServerEvent
ask_second replay command = in_second second_id 1 replay command

abbrev pub reconnect : ℕ → ℕ → Command
reconnect file guid =
    Create (record {
      path = 97 ∷ [];
      access = 0x183;
      share = 0;
      attributes = 0;
      disposition = 1;
      options = 0x40;
      durable = None;
      reconnect = Some (record { file = file; guid = guid });
      maximal = false;
      disk_id = false;
    })

-- whatever else it asks
abbrev pub unjudged : Option Durable → CreateRequest
unjudged durable = record {
  path = 92 ∷ [];
  access = 0x183;
  share = 0;
  attributes = 0;
  disposition = 9;
  options = 0x41;
  durable = durable;
  reconnect = Some (record { file = first_open; guid = 5 });
  maximal = false;
  disk_id = false;
}

-- ---- a server whose journal holds no further record, one whose records may fill so many bytes, and one that keeps as many
-- expired guids as it may

abbrev pub with_full_journal : Server → Server
with_full_journal s = record s { journal = lower_limit }

abbrev pub limited_to : ℕ → Server → Server
limited_to bytes s = record s { limit = bytes }

-- its files and the next one's number, its opens and how many ids were given, the journal's bytes and their limit
abbrev pub counts_of : Server → List ℕ
counts_of s = length s.entries ∷ s.next_file ∷ length s.opens ∷ s.open_ids_given ∷ s.journal ∷ s.limit ∷ []

abbrev pub with_all_expired_guids : Server → Server
with_all_expired_guids s = record s { expired_count = 65536 }

-- ---- a server that starts on a disk with these records

abbrev pub on_disk : List Record → Server
on_disk records = recovered (record {
  share = 100 ∷ [];
  room = 268435456;
  encrypts = true;
  address = record { ip = 2130706433; port = 445 };
}) 100 records

abbrev pub epoch_on : List Record → ℕ
epoch_on records = (on_disk records).epoch

abbrev pub version_on : List Record → ℕ
version_on records = (on_disk records).version

abbrev pub its_origin : Origin
its_origin = record { session = session; connection = 0; message = 5 }

-- a journal of version 1 in which a persistent open made a file, and wrote to it
abbrev pub first_version_disk : List Record
first_version_disk =
    EpochRecord 1 ∷ CreateRecord its_origin 2 1 (97 ∷ []) 0 false 50 (Some (record {
      id = first_open;
      client_guid = 7;
      create_guid = 5;
      user = 117 ∷ [];
      access = 0x183;
      share = 0;
      options = 0x40;
      timeout = 60000;
    })) ∷
    WriteRecord its_origin 1 0 60 (104 ∷ 105 ∷ []) ∷ []

-- journals that ended while a directory `a` that is delete pending was open, with the file `a\b` in it: closed, delete pending
-- too, and so, but of the lower number
abbrev pub marked_disk : List Record
marked_disk =
    VersionRecord 2 ∷ EpochRecord 1 ∷ CreateRecord its_origin 2 1 (97 ∷ []) 0 true 50 None
    ∷ CreateRecord its_origin 2 2 (97 ∷ 92 ∷ 98 ∷ []) 0 false 60 None ∷ DeleteRecord its_origin 1 true ∷ []

abbrev pub both_marked_disk : List Record
both_marked_disk = marked_disk ++ DeleteRecord its_origin 2 true ∷ []

abbrev pub moved_in_disk : List Record
moved_in_disk =
    VersionRecord 2 ∷ EpochRecord 1 ∷ CreateRecord its_origin 2 1 (98 ∷ []) 0 false 50 None
    ∷ CreateRecord its_origin 2 2 (97 ∷ []) 0 true 60 None ∷ RenameRecord its_origin 1 0 (97 ∷ 92 ∷ 98 ∷ [])
    ∷ DeleteRecord its_origin 1 true ∷ DeleteRecord its_origin 2 true ∷ []

-- and one in which a persistent open has the directory
abbrev pub held_disk : List Record
held_disk =
    VersionRecord 2 ∷ EpochRecord 1 ∷ CreateRecord its_origin 2 1 (97 ∷ []) 0 true 50 (Some (record {
      id = first_open;
      client_guid = 7;
      create_guid = 5;
      user = 117 ∷ [];
      access = 0x10081;
      share = 7;
      options = 0x1;
      timeout = 60000;
    }))
    ∷ CreateRecord its_origin 2 2 (97 ∷ 92 ∷ 98 ∷ []) 0 false 60 None ∷ DeleteRecord its_origin 1 true ∷ []

-- the same with the replay flag, and on the session's second tree
abbrev pub again : Command → ServerEvent
again command = Heard (from_client 0 7 9 0 true command)

abbrev pub on_pipes : Command → ServerEvent
on_pipes command = Heard (record (from_client 0 7 9 0 false command) { tree_id = 2 })

-- a second tree of the disk, and a request under it
abbrev pub disk_again : ServerEvent
disk_again = ask (TreeConnect (100 ∷ []))

abbrev pub on_second_tree : Bool → Command → ServerEvent
on_second_tree replay command = Heard (record (from_client 0 7 9 0 replay command) { tree_id = 2 })

abbrev pub read_nothing : ℕ → Command
read_nothing o = Read o 0 0 0 0

-- ---- a server that has given a session's tree ids below this one

abbrev pub with_next_tree : Server → ℕ → Server
with_next_tree s id = record s { next_tree = λ x. id }

-- ---- the journal stands for the state: the fold of a world's records and the world's server agree on what outlives a restart

abbrev pub same_paths : List Entry → List Entry → Bool
same_paths [] [] = true
same_paths [] (e ∷ es) = false
same_paths (d ∷ ds) [] = false
same_paths (d ∷ ds) (e ∷ es) = (d.file == e.file) && (same_bytes d.path e.path && same_paths ds es)

abbrev pub same_flag : Bool → Bool → Bool
same_flag true b = b
same_flag false b = not b

abbrev pub same_range : Range → Range → Bool
same_range r q = (r.owner == q.owner) && ((r.at == q.at) && ((r.length == q.length) && same_flag r.exclusive q.exclusive))

abbrev pub same_ranges : List Range → List Range → Bool
same_ranges [] [] = true
same_ranges [] (q ∷ qs) = false
same_ranges (r ∷ rs) [] = false
same_ranges (r ∷ rs) (q ∷ qs) = same_range r q && same_ranges rs qs

abbrev pub same_file : Server → Server → ℕ → Bool
same_file s t f =
    same_bytes (s.content f) (t.content f)
    && (same_basic (s.basic f) (t.basic f) && (same_flag (s.delete_pending f) (t.delete_pending f)
    && (same_flag (s.directory f) (t.directory f) && same_ranges (s.ranges f) (t.ranges f))))

abbrev pub same_files : Server → Server → List Entry → Bool
same_files s t [] = true
same_files s t (e ∷ es) = same_file s t e.file && same_files s t es

abbrev pub same_option : Option ℕ → Option ℕ → Bool
same_option None None = true
same_option None (Some n) = false
same_option (Some m) None = false
same_option (Some m) (Some n) = m == n

abbrev pub same_row : Open → Open → Bool
same_row p q =
    (p.file == q.file)
    && ((p.access == q.access)
    && ((p.share == q.share)
    && ((p.options == q.options)
    && ((p.action == q.action)
    && ((p.client_guid == q.client_guid) && (same_option p.create_guid q.create_guid
    && (same_bytes p.user q.user && (p.timeout == q.timeout))))))))

abbrev pub same_kept : Server → Server → ℕ → ℕ → Bool
same_kept s t o zero = true
same_kept s t o (suc i) =
    elim (s.lock_sequences o (i + 1)) [
      | None ↦ elim (t.lock_sequences o (i + 1)) [
        | None ↦ same_kept s t o i
        | Some k ↦
            false
      ]
      | Some j ↦ elim (t.lock_sequences o (i + 1)) [
        | None ↦ false
        | Some k ↦ (j.number == k.number)
            && ((j.status == k.status) && same_kept s t o i)
      ]
    ]

abbrev pub same_opens : Server → Server → List ℕ → Bool
same_opens s t [] = true
same_opens s t (o ∷ os) = same_row (s.opened o) (t.opened o) && (same_kept s t o 64 && same_opens s t os)

abbrev pub same_durable : Server → Server → Bool
same_durable s t =
    (s.version == t.version)
    && ((s.epoch == t.epoch)
    && ((s.next_file == t.next_file)
    && (same_paths s.entries t.entries
    && (same_files s t s.entries && (same_bytes s.opens t.opens && (same_opens s t s.opens && (s.expired_count == t.expired_count)))))))

abbrev pub journal_stands : World → Bool
journal_stands w = same_durable (durable (fold w.records)) (durable w.server)
