-- Scripts of the worked examples, and what is script_ends of the worlds that they come to.
use Rattle.std.specs.Prelude.{ℕ, zero, suc, ◌+◌, Bool, true, false, if◌then◌else◌, List, [], ◌∷◌, ◌++◌, Some, is_some, ◌==◌, nat_lt}
use Rattle.spec_exchange.specs.Order.{order_of}
use Rattle.spec_exchange.specs.Operations.{HadStatus, Op, OpCreate, OpWrite, OpRead, OpEnd, OpTime, OpRename, OpRemove}
use Rattle.spec_exchange.specs.Operations.{OpLock, OpUnlock, OpStat, OpList, OpClose, Outcome}
use Rattle.spec_exchange.specs.Client.{Identity, last_sequence}
use Rattle.spec_exchange.specs.Commands.{Shows, Refused, Logon}
use Rattle.spec_exchange.specs.State.{Server, Entry}
use Rattle.spec_exchange.specs.Network.{Settings, World, Submit, Push, Serve, Take, Cut, Drop, Restart, Crash, Wait}
use Rattle.spec_exchange.specs.Network.{Finish, Sent, answer, start}
use Rattle.spec_exchange.specs.Runs.{account, isolates, acts}
use Rattle.spec_exchange.specs.Schedules.{Course, Line, Does, Pushes, Links, Settles, course, purse}

abbrev pub somebody : Shows → Identity
somebody logon = record { guid = 7; salt = 3; logon = logon; share = 100 ∷ []; cipher = 2; signing = 1 }

-- a share with so much room
abbrev pub settings : ℕ → Settings
settings room = record {
  who = somebody (Logon (117 ∷ []));
  share = 100 ∷ [];
  room = room;
  encrypts = true;
  address = record { ip = 2130706433; port = 445 };
}

abbrev pub beginning : ℕ → Course
beginning room = record { world = start (settings room); events = [] }

-- as the beginning, of a client whose logon is refused
abbrev pub stranger : Course
stranger = record { world = start (record (settings 268435456) { who = somebody Refused }); events = [] }

-- a course whose client stands at its session's last sequence
abbrev pub worn_out : Course → Course
worn_out c = record c { world = record c.world { client = record c.world.client { sequence = last_sequence } } }

abbrev pub submit : ℕ → Op → Line
submit g op = Does (Submit g op)

-- ---- what is script_ends

abbrev pub outcomes_from : World → ℕ → ℕ → List Outcome
outcomes_from w g zero = []
outcomes_from w g (suc n) = w.client.outcome g ∷ outcomes_from w (g + 1) n

-- how each operation settled
abbrev pub outcomes : World → List Outcome
outcomes w = outcomes_from w 1 w.client.taken

abbrev pub settled_in : Course → List Outcome
settled_in c = outcomes c.world

abbrev pub orders_from : World → ℕ → ℕ → List (List ℕ)
orders_from w c zero = []
orders_from w c (suc n) = if isolates w c then order_of (account w) c ∷ orders_from w (c + 1) n else orders_from w (c + 1) n

-- the order of each create that settled Ok and denies writers
abbrev pub orders : World → List (List ℕ)
orders w = orders_from w 1 w.client.taken

pub record FileLine : Type 0 where
  pub path : List ℕ
  pub bytes : List ℕ

-- byte order
abbrev pub bytes_before : List ℕ → List ℕ → Bool
bytes_before xs [] = false
bytes_before [] (y ∷ ys) = true
bytes_before (x ∷ xs) (y ∷ ys) = if x == y then bytes_before xs ys else nat_lt x y

abbrev pub place_line : FileLine → List FileLine → List FileLine
place_line l [] = l ∷ []
place_line l (m ∷ ms) = if bytes_before l.path m.path then l ∷ m ∷ ms else m ∷ place_line l ms

abbrev pub lines_from : Server → List Entry → List FileLine
lines_from s [] = []
lines_from s (e ∷ es) = if s.directory e.file then lines_from s es else place_line (record {
  path = e.path;
  bytes = s.content e.file;
}) (lines_from s es)

-- the files, directories left out
abbrev pub files : World → List FileLine
files w = lines_from w.server w.server.entries

pub record ScriptEnds : Type 0 where
  pub settled : List Outcome
  pub printed : List (List ℕ)
  pub stored : List FileLine

abbrev pub end_of : World → ScriptEnds
end_of w = record { settled = outcomes w; printed = orders w; stored = files w }

-- what a script tells at its end, over the channels below n
abbrev pub script_ends : ℕ → ℕ → List Line → ScriptEnds
script_ends n room script = end_of (course n script (beginning room)).world

pub record Note : Type 0 where
  pub status : ℕ
  pub acted : Bool

abbrev pub note_of_front : World → List Sent → Note
note_of_front w [] = record { status = 0; acted = false }
note_of_front w (x ∷ rest) = record { status = (answer w x).reply.status; acted = (answer w x).acted }

-- the note of a Serve of channel k behind a script
abbrev pub note : ℕ → ℕ → List Line → ℕ → Note
note n room script k = let w = (course n script (beginning room)).world in note_of_front w (w.conns k).up

-- how often a script's run acted on an operation
abbrev pub acted_on : ℕ → ℕ → List Line → ℕ → ℕ
acted_on n room script g = acts (course n script (beginning room)).events (start (settings room)) g

-- the id of the open that a create was script_ends
abbrev pub id_told : ℕ → ℕ → List Line → ℕ → ℕ
id_told n room script c = (course n script (beginning room)).world.client.file c

-- ---- scripts

-- A create is retried on a second channel, its open is closed, and the delayed first copy finds its guid: it acts once.
abbrev pub retried_create : List Line
retried_create =
    Links 0 ∷ Links 1 ∷ submit 1 (OpCreate (97 ∷ []) 0x183 0 3 false false) ∷ Pushes 0 ∷ Does (Cut 0) ∷ Pushes 1 ∷ Does
    (Serve 1) ∷ Does (Take 1) ∷
    submit 2 (OpClose 1) ∷ Pushes 1 ∷ Does (Serve 1) ∷ Does (Take 1) ∷ Does (Serve 0) ∷ []

abbrev pub retried_create_until_note : List Line
retried_create_until_note =
    Links 0 ∷ Links 1 ∷ submit 1 (OpCreate (97 ∷ []) 0x183 0 3 false false) ∷ Pushes 0 ∷ Does (Cut 0) ∷ Pushes 1 ∷ Does
    (Serve 1) ∷ Does (Take 1) ∷
    submit 2 (OpClose 1) ∷ Pushes 1 ∷ Does (Serve 1) ∷ Does (Take 1) ∷ []

-- A lock is refused, the range becomes free, and the delayed first copy is refused again by its slot.
abbrev pub kept_refusal : List Line
kept_refusal =
    Links 0 ∷ Links 1 ∷ submit 1 (OpCreate (97 ∷ []) 0x183 3 2 false false) ∷ submit 2
    (OpCreate (97 ∷ []) 0x183 3 1 false false) ∷ Pushes 0 ∷
    Does (Serve 0) ∷ Does (Take 0) ∷ Pushes 0 ∷ Does (Serve 0) ∷ Does (Take 0) ∷ submit 3 (OpLock 2 0 10 true) ∷ Pushes 1 ∷ Does (Serve 1) ∷
    Does (Take 1) ∷ submit 4 (OpLock 1 0 10 true) ∷ Pushes 0 ∷ Does (Cut 0) ∷ Pushes 1 ∷ Does (Serve 1) ∷ Does (Take 1) ∷
    submit 5 (OpUnlock 2 0 10) ∷ Pushes 1 ∷ Does (Serve 1) ∷ Does (Take 1) ∷ Does (Serve 0) ∷ submit 6 (OpLock 2 0 10 true) ∷ Settles ∷ []

abbrev pub kept_refusal_until_note : List Line
kept_refusal_until_note =
    Links 0 ∷ Links 1 ∷ submit 1 (OpCreate (97 ∷ []) 0x183 3 2 false false) ∷ submit 2
    (OpCreate (97 ∷ []) 0x183 3 1 false false) ∷ Pushes 0 ∷
    Does (Serve 0) ∷ Does (Take 0) ∷ Pushes 0 ∷ Does (Serve 0) ∷ Does (Take 0) ∷ submit 3 (OpLock 2 0 10 true) ∷ Pushes 1 ∷ Does (Serve 1) ∷
    Does (Take 1) ∷ submit 4 (OpLock 1 0 10 true) ∷ Pushes 0 ∷ Does (Cut 0) ∷ Pushes 1 ∷ Does (Serve 1) ∷ Does (Take 1) ∷
    submit 5 (OpUnlock 2 0 10) ∷ Pushes 1 ∷ Does (Serve 1) ∷ Does (Take 1) ∷ []

-- A new session replaces the old one, and a copy of the old one that waits is script_ends so.
abbrev pub replaced_session : List Line
replaced_session =
    Links 0 ∷ submit 1 (OpCreate (97 ∷ []) 0x183 0 2 true false) ∷ Pushes 0 ∷ Does (Serve 0) ∷ Does (Take 0) ∷
    submit 2 (OpWrite 1 0 (111 ∷ 108 ∷ 100 ∷ [])) ∷ Pushes 0 ∷ Does (Cut 0) ∷ Links 1 ∷ Does (Serve 0) ∷ Settles ∷ []

abbrev pub replaced_session_until_note : List Line
replaced_session_until_note =
    Links 0 ∷ submit 1 (OpCreate (97 ∷ []) 0x183 0 2 true false) ∷ Pushes 0 ∷ Does (Serve 0) ∷ Does (Take 0) ∷
    submit 2 (OpWrite 1 0 (111 ∷ 108 ∷ 100 ∷ [])) ∷ Pushes 0 ∷ Does (Cut 0) ∷ Links 1 ∷ []

-- A write that fills the room is retried: its bytes are not counted twice, and the next write finds no room.
abbrev pub room_counted_once : List Line
room_counted_once =
    Links 0 ∷ Links 1 ∷ submit 1 (OpCreate (97 ∷ []) 0x183 0 2 false false) ∷ Pushes 0 ∷ Does (Serve 0) ∷ Does (Take 0) ∷
    submit 2 (OpWrite 1 0 (97 ∷ 98 ∷ 99 ∷ 100 ∷ [])) ∷ Pushes 0 ∷ Does (Serve 0) ∷ Does (Cut 0) ∷ Pushes 1 ∷ Does
    (Serve 1) ∷ Does (Take 1) ∷
    submit 3 (OpWrite 1 4 (101 ∷ [])) ∷ Settles ∷ []

abbrev pub room_counted_once_until_note : List Line
room_counted_once_until_note =
    Links 0 ∷ Links 1 ∷ submit 1 (OpCreate (97 ∷ []) 0x183 0 2 false false) ∷ Pushes 0 ∷ Does (Serve 0) ∷ Does (Take 0) ∷
    submit 2 (OpWrite 1 0 (97 ∷ 98 ∷ 99 ∷ 100 ∷ [])) ∷ Pushes 0 ∷ Does (Serve 0) ∷ Does (Cut 0) ∷ Pushes 1 ∷ []

-- A write under an older sequence is held back and goes out again; the delayed copy of the other is held back too.
abbrev pub held_back_write : List Line
held_back_write =
    Links 0 ∷ Links 1 ∷ Links 2 ∷ submit 1 (OpCreate (97 ∷ []) 0x183 0 2 false false) ∷ Pushes 0 ∷ Does (Serve 0) ∷ Does (Take 0) ∷
    submit 2 (OpWrite 1 0 (97 ∷ [])) ∷ submit 3 (OpWrite 1 1 (98 ∷ [])) ∷ Pushes 0 ∷ Pushes 2 ∷ Does (Cut 0) ∷ Pushes 1 ∷ Does (Serve 1) ∷
    Does (Take 1) ∷ Does (Serve 2) ∷ Does (Take 2) ∷ Pushes 2 ∷ Does (Serve 2) ∷ Does (Take 2) ∷ Does (Serve 0) ∷ []

abbrev pub held_back_write_until_note : List Line
held_back_write_until_note =
    Links 0 ∷ Links 1 ∷ Links 2 ∷ submit 1 (OpCreate (97 ∷ []) 0x183 0 2 false false) ∷ Pushes 0 ∷ Does (Serve 0) ∷ Does (Take 0) ∷
    submit 2 (OpWrite 1 0 (97 ∷ [])) ∷ submit 3 (OpWrite 1 1 (98 ∷ [])) ∷ Pushes 0 ∷ Pushes 2 ∷ Does (Cut 0) ∷ Pushes 1 ∷ Does (Serve 1) ∷
    Does (Take 1) ∷ []

abbrev pub held_back_write_until_last : List Line
held_back_write_until_last =
    Links 0 ∷ Links 1 ∷ Links 2 ∷ submit 1 (OpCreate (97 ∷ []) 0x183 0 2 false false) ∷ Pushes 0 ∷ Does (Serve 0) ∷ Does (Take 0) ∷
    submit 2 (OpWrite 1 0 (97 ∷ [])) ∷ submit 3 (OpWrite 1 1 (98 ∷ [])) ∷ Pushes 0 ∷ Pushes 2 ∷ Does (Cut 0) ∷ Pushes 1 ∷ Does (Serve 1) ∷
    Does (Take 1) ∷ Does (Serve 2) ∷ Does (Take 2) ∷ Pushes 2 ∷ Does (Serve 2) ∷ Does (Take 2) ∷ []

-- The server restarts behind a persistent create whose reply is lost: the retry finds the same open.
abbrev pub restart_persistent : List Line
restart_persistent =
    Links 0 ∷ submit 1 (OpCreate (97 ∷ []) 0x183 0 2 true false) ∷ Pushes 0 ∷ Does (Serve 0) ∷ Does Restart ∷ Does (Cut 0) ∷ Settles ∷ []

-- The server dies before it serves a persistent create: the retry makes the open.
abbrev pub crash_lost : List Line
crash_lost =
    Links 0 ∷ submit 1 (OpCreate (97 ∷ []) 0x183 0 2 true false) ∷ Pushes 0 ∷ Does (Crash 0 false) ∷ Does (Cut 0) ∷ Settles ∷ []

-- The server dies behind a persistent create whose records stand: the retry finds the same open.
abbrev pub crash_kept : List Line
crash_kept =
    Links 0 ∷ submit 1 (OpCreate (97 ∷ []) 0x183 0 2 true false) ∷ Pushes 0 ∷ Does (Crash 0 true) ∷ Does (Cut 0) ∷ Settles ∷ []

-- The server restarts behind a plain create: its session is lost, and the file stays.
abbrev pub restart_plain : List Line
restart_plain =
    Links 0 ∷ submit 1 (OpCreate (97 ∷ []) 0x183 0 2 false false) ∷ Pushes 0 ∷ Does (Serve 0) ∷ Does Restart ∷ Does (Cut 0) ∷ Settles ∷ []

-- Each of the sixty-four slots was retried in the session: the next lock finds none, and the next session has them again.
abbrev pub all_slots_retried : List Line
all_slots_retried =
    Links 0 ∷ Links 1 ∷ submit 1 (OpCreate (97 ∷ []) 0x183 0 2 true false) ∷ Pushes 0 ∷ Does (Serve 0) ∷ Does (Take 0) ∷
    submit 2 (OpLock 1 0 1 true) ∷ Pushes 0 ∷ Does (Cut 0) ∷ Does (Drop 0) ∷ Pushes 1 ∷ Does (Serve 1) ∷ Does (Take 1) ∷ Links 0 ∷
    submit 3 (OpLock 1 1 1 true) ∷ Pushes 1 ∷ Does (Cut 1) ∷ Does (Drop 1) ∷ Pushes 0 ∷ Does (Serve 0) ∷ Does (Take 0) ∷ Links 1 ∷
    submit 4 (OpLock 1 2 1 true) ∷ Pushes 0 ∷ Does (Cut 0) ∷ Does (Drop 0) ∷ Pushes 1 ∷ Does (Serve 1) ∷ Does (Take 1) ∷ Links 0 ∷
    submit 5 (OpLock 1 3 1 true) ∷ Pushes 1 ∷ Does (Cut 1) ∷ Does (Drop 1) ∷ Pushes 0 ∷ Does (Serve 0) ∷ Does (Take 0) ∷ Links 1 ∷
    submit 6 (OpLock 1 4 1 true) ∷ Pushes 0 ∷ Does (Cut 0) ∷ Does (Drop 0) ∷ Pushes 1 ∷ Does (Serve 1) ∷ Does (Take 1) ∷ Links 0 ∷
    submit 7 (OpLock 1 5 1 true) ∷ Pushes 1 ∷ Does (Cut 1) ∷ Does (Drop 1) ∷ Pushes 0 ∷ Does (Serve 0) ∷ Does (Take 0) ∷ Links 1 ∷
    submit 8 (OpLock 1 6 1 true) ∷ Pushes 0 ∷ Does (Cut 0) ∷ Does (Drop 0) ∷ Pushes 1 ∷ Does (Serve 1) ∷ Does (Take 1) ∷ Links 0 ∷
    submit 9 (OpLock 1 7 1 true) ∷ Pushes 1 ∷ Does (Cut 1) ∷ Does (Drop 1) ∷ Pushes 0 ∷ Does (Serve 0) ∷ Does (Take 0) ∷ Links 1 ∷
    submit 10 (OpLock 1 8 1 true) ∷ Pushes 0 ∷ Does (Cut 0) ∷ Does (Drop 0) ∷ Pushes 1 ∷ Does (Serve 1) ∷ Does (Take 1) ∷ Links 0 ∷
    submit 11 (OpLock 1 9 1 true) ∷ Pushes 1 ∷ Does (Cut 1) ∷ Does (Drop 1) ∷ Pushes 0 ∷ Does (Serve 0) ∷ Does (Take 0) ∷ Links 1 ∷
    submit 12 (OpLock 1 10 1 true) ∷ Pushes 0 ∷ Does (Cut 0) ∷ Does (Drop 0) ∷ Pushes 1 ∷ Does (Serve 1) ∷ Does (Take 1) ∷ Links 0 ∷
    submit 13 (OpLock 1 11 1 true) ∷ Pushes 1 ∷ Does (Cut 1) ∷ Does (Drop 1) ∷ Pushes 0 ∷ Does (Serve 0) ∷ Does (Take 0) ∷ Links 1 ∷
    submit 14 (OpLock 1 12 1 true) ∷ Pushes 0 ∷ Does (Cut 0) ∷ Does (Drop 0) ∷ Pushes 1 ∷ Does (Serve 1) ∷ Does (Take 1) ∷ Links 0 ∷
    submit 15 (OpLock 1 13 1 true) ∷ Pushes 1 ∷ Does (Cut 1) ∷ Does (Drop 1) ∷ Pushes 0 ∷ Does (Serve 0) ∷ Does (Take 0) ∷ Links 1 ∷
    submit 16 (OpLock 1 14 1 true) ∷ Pushes 0 ∷ Does (Cut 0) ∷ Does (Drop 0) ∷ Pushes 1 ∷ Does (Serve 1) ∷ Does (Take 1) ∷ Links 0 ∷
    submit 17 (OpLock 1 15 1 true) ∷ Pushes 1 ∷ Does (Cut 1) ∷ Does (Drop 1) ∷ Pushes 0 ∷ Does (Serve 0) ∷ Does (Take 0) ∷ Links 1 ∷
    submit 18 (OpLock 1 16 1 true) ∷ Pushes 0 ∷ Does (Cut 0) ∷ Does (Drop 0) ∷ Pushes 1 ∷ Does (Serve 1) ∷ Does (Take 1) ∷ Links 0 ∷
    submit 19 (OpLock 1 17 1 true) ∷ Pushes 1 ∷ Does (Cut 1) ∷ Does (Drop 1) ∷ Pushes 0 ∷ Does (Serve 0) ∷ Does (Take 0) ∷ Links 1 ∷
    submit 20 (OpLock 1 18 1 true) ∷ Pushes 0 ∷ Does (Cut 0) ∷ Does (Drop 0) ∷ Pushes 1 ∷ Does (Serve 1) ∷ Does (Take 1) ∷ Links 0 ∷
    submit 21 (OpLock 1 19 1 true) ∷ Pushes 1 ∷ Does (Cut 1) ∷ Does (Drop 1) ∷ Pushes 0 ∷ Does (Serve 0) ∷ Does (Take 0) ∷ Links 1 ∷
    submit 22 (OpLock 1 20 1 true) ∷ Pushes 0 ∷ Does (Cut 0) ∷ Does (Drop 0) ∷ Pushes 1 ∷ Does (Serve 1) ∷ Does (Take 1) ∷ Links 0 ∷
    submit 23 (OpLock 1 21 1 true) ∷ Pushes 1 ∷ Does (Cut 1) ∷ Does (Drop 1) ∷ Pushes 0 ∷ Does (Serve 0) ∷ Does (Take 0) ∷ Links 1 ∷
    submit 24 (OpLock 1 22 1 true) ∷ Pushes 0 ∷ Does (Cut 0) ∷ Does (Drop 0) ∷ Pushes 1 ∷ Does (Serve 1) ∷ Does (Take 1) ∷ Links 0 ∷
    submit 25 (OpLock 1 23 1 true) ∷ Pushes 1 ∷ Does (Cut 1) ∷ Does (Drop 1) ∷ Pushes 0 ∷ Does (Serve 0) ∷ Does (Take 0) ∷ Links 1 ∷
    submit 26 (OpLock 1 24 1 true) ∷ Pushes 0 ∷ Does (Cut 0) ∷ Does (Drop 0) ∷ Pushes 1 ∷ Does (Serve 1) ∷ Does (Take 1) ∷ Links 0 ∷
    submit 27 (OpLock 1 25 1 true) ∷ Pushes 1 ∷ Does (Cut 1) ∷ Does (Drop 1) ∷ Pushes 0 ∷ Does (Serve 0) ∷ Does (Take 0) ∷ Links 1 ∷
    submit 28 (OpLock 1 26 1 true) ∷ Pushes 0 ∷ Does (Cut 0) ∷ Does (Drop 0) ∷ Pushes 1 ∷ Does (Serve 1) ∷ Does (Take 1) ∷ Links 0 ∷
    submit 29 (OpLock 1 27 1 true) ∷ Pushes 1 ∷ Does (Cut 1) ∷ Does (Drop 1) ∷ Pushes 0 ∷ Does (Serve 0) ∷ Does (Take 0) ∷ Links 1 ∷
    submit 30 (OpLock 1 28 1 true) ∷ Pushes 0 ∷ Does (Cut 0) ∷ Does (Drop 0) ∷ Pushes 1 ∷ Does (Serve 1) ∷ Does (Take 1) ∷ Links 0 ∷
    submit 31 (OpLock 1 29 1 true) ∷ Pushes 1 ∷ Does (Cut 1) ∷ Does (Drop 1) ∷ Pushes 0 ∷ Does (Serve 0) ∷ Does (Take 0) ∷ Links 1 ∷
    submit 32 (OpLock 1 30 1 true) ∷ Pushes 0 ∷ Does (Cut 0) ∷ Does (Drop 0) ∷ Pushes 1 ∷ Does (Serve 1) ∷ Does (Take 1) ∷ Links 0 ∷
    submit 33 (OpLock 1 31 1 true) ∷ Pushes 1 ∷ Does (Cut 1) ∷ Does (Drop 1) ∷ Pushes 0 ∷ Does (Serve 0) ∷ Does (Take 0) ∷ Links 1 ∷
    submit 34 (OpLock 1 32 1 true) ∷ Pushes 0 ∷ Does (Cut 0) ∷ Does (Drop 0) ∷ Pushes 1 ∷ Does (Serve 1) ∷ Does (Take 1) ∷ Links 0 ∷
    submit 35 (OpLock 1 33 1 true) ∷ Pushes 1 ∷ Does (Cut 1) ∷ Does (Drop 1) ∷ Pushes 0 ∷ Does (Serve 0) ∷ Does (Take 0) ∷ Links 1 ∷
    submit 36 (OpLock 1 34 1 true) ∷ Pushes 0 ∷ Does (Cut 0) ∷ Does (Drop 0) ∷ Pushes 1 ∷ Does (Serve 1) ∷ Does (Take 1) ∷ Links 0 ∷
    submit 37 (OpLock 1 35 1 true) ∷ Pushes 1 ∷ Does (Cut 1) ∷ Does (Drop 1) ∷ Pushes 0 ∷ Does (Serve 0) ∷ Does (Take 0) ∷ Links 1 ∷
    submit 38 (OpLock 1 36 1 true) ∷ Pushes 0 ∷ Does (Cut 0) ∷ Does (Drop 0) ∷ Pushes 1 ∷ Does (Serve 1) ∷ Does (Take 1) ∷ Links 0 ∷
    submit 39 (OpLock 1 37 1 true) ∷ Pushes 1 ∷ Does (Cut 1) ∷ Does (Drop 1) ∷ Pushes 0 ∷ Does (Serve 0) ∷ Does (Take 0) ∷ Links 1 ∷
    submit 40 (OpLock 1 38 1 true) ∷ Pushes 0 ∷ Does (Cut 0) ∷ Does (Drop 0) ∷ Pushes 1 ∷ Does (Serve 1) ∷ Does (Take 1) ∷ Links 0 ∷
    submit 41 (OpLock 1 39 1 true) ∷ Pushes 1 ∷ Does (Cut 1) ∷ Does (Drop 1) ∷ Pushes 0 ∷ Does (Serve 0) ∷ Does (Take 0) ∷ Links 1 ∷
    submit 42 (OpLock 1 40 1 true) ∷ Pushes 0 ∷ Does (Cut 0) ∷ Does (Drop 0) ∷ Pushes 1 ∷ Does (Serve 1) ∷ Does (Take 1) ∷ Links 0 ∷
    submit 43 (OpLock 1 41 1 true) ∷ Pushes 1 ∷ Does (Cut 1) ∷ Does (Drop 1) ∷ Pushes 0 ∷ Does (Serve 0) ∷ Does (Take 0) ∷ Links 1 ∷
    submit 44 (OpLock 1 42 1 true) ∷ Pushes 0 ∷ Does (Cut 0) ∷ Does (Drop 0) ∷ Pushes 1 ∷ Does (Serve 1) ∷ Does (Take 1) ∷ Links 0 ∷
    submit 45 (OpLock 1 43 1 true) ∷ Pushes 1 ∷ Does (Cut 1) ∷ Does (Drop 1) ∷ Pushes 0 ∷ Does (Serve 0) ∷ Does (Take 0) ∷ Links 1 ∷
    submit 46 (OpLock 1 44 1 true) ∷ Pushes 0 ∷ Does (Cut 0) ∷ Does (Drop 0) ∷ Pushes 1 ∷ Does (Serve 1) ∷ Does (Take 1) ∷ Links 0 ∷
    submit 47 (OpLock 1 45 1 true) ∷ Pushes 1 ∷ Does (Cut 1) ∷ Does (Drop 1) ∷ Pushes 0 ∷ Does (Serve 0) ∷ Does (Take 0) ∷ Links 1 ∷
    submit 48 (OpLock 1 46 1 true) ∷ Pushes 0 ∷ Does (Cut 0) ∷ Does (Drop 0) ∷ Pushes 1 ∷ Does (Serve 1) ∷ Does (Take 1) ∷ Links 0 ∷
    submit 49 (OpLock 1 47 1 true) ∷ Pushes 1 ∷ Does (Cut 1) ∷ Does (Drop 1) ∷ Pushes 0 ∷ Does (Serve 0) ∷ Does (Take 0) ∷ Links 1 ∷
    submit 50 (OpLock 1 48 1 true) ∷ Pushes 0 ∷ Does (Cut 0) ∷ Does (Drop 0) ∷ Pushes 1 ∷ Does (Serve 1) ∷ Does (Take 1) ∷ Links 0 ∷
    submit 51 (OpLock 1 49 1 true) ∷ Pushes 1 ∷ Does (Cut 1) ∷ Does (Drop 1) ∷ Pushes 0 ∷ Does (Serve 0) ∷ Does (Take 0) ∷ Links 1 ∷
    submit 52 (OpLock 1 50 1 true) ∷ Pushes 0 ∷ Does (Cut 0) ∷ Does (Drop 0) ∷ Pushes 1 ∷ Does (Serve 1) ∷ Does (Take 1) ∷ Links 0 ∷
    submit 53 (OpLock 1 51 1 true) ∷ Pushes 1 ∷ Does (Cut 1) ∷ Does (Drop 1) ∷ Pushes 0 ∷ Does (Serve 0) ∷ Does (Take 0) ∷ Links 1 ∷
    submit 54 (OpLock 1 52 1 true) ∷ Pushes 0 ∷ Does (Cut 0) ∷ Does (Drop 0) ∷ Pushes 1 ∷ Does (Serve 1) ∷ Does (Take 1) ∷ Links 0 ∷
    submit 55 (OpLock 1 53 1 true) ∷ Pushes 1 ∷ Does (Cut 1) ∷ Does (Drop 1) ∷ Pushes 0 ∷ Does (Serve 0) ∷ Does (Take 0) ∷ Links 1 ∷
    submit 56 (OpLock 1 54 1 true) ∷ Pushes 0 ∷ Does (Cut 0) ∷ Does (Drop 0) ∷ Pushes 1 ∷ Does (Serve 1) ∷ Does (Take 1) ∷ Links 0 ∷
    submit 57 (OpLock 1 55 1 true) ∷ Pushes 1 ∷ Does (Cut 1) ∷ Does (Drop 1) ∷ Pushes 0 ∷ Does (Serve 0) ∷ Does (Take 0) ∷ Links 1 ∷
    submit 58 (OpLock 1 56 1 true) ∷ Pushes 0 ∷ Does (Cut 0) ∷ Does (Drop 0) ∷ Pushes 1 ∷ Does (Serve 1) ∷ Does (Take 1) ∷ Links 0 ∷
    submit 59 (OpLock 1 57 1 true) ∷ Pushes 1 ∷ Does (Cut 1) ∷ Does (Drop 1) ∷ Pushes 0 ∷ Does (Serve 0) ∷ Does (Take 0) ∷ Links 1 ∷
    submit 60 (OpLock 1 58 1 true) ∷ Pushes 0 ∷ Does (Cut 0) ∷ Does (Drop 0) ∷ Pushes 1 ∷ Does (Serve 1) ∷ Does (Take 1) ∷ Links 0 ∷
    submit 61 (OpLock 1 59 1 true) ∷ Pushes 1 ∷ Does (Cut 1) ∷ Does (Drop 1) ∷ Pushes 0 ∷ Does (Serve 0) ∷ Does (Take 0) ∷ Links 1 ∷
    submit 62 (OpLock 1 60 1 true) ∷ Pushes 0 ∷ Does (Cut 0) ∷ Does (Drop 0) ∷ Pushes 1 ∷ Does (Serve 1) ∷ Does (Take 1) ∷ Links 0 ∷
    submit 63 (OpLock 1 61 1 true) ∷ Pushes 1 ∷ Does (Cut 1) ∷ Does (Drop 1) ∷ Pushes 0 ∷ Does (Serve 0) ∷ Does (Take 0) ∷ Links 1 ∷
    submit 64 (OpLock 1 62 1 true) ∷ Pushes 0 ∷ Does (Cut 0) ∷ Does (Drop 0) ∷ Pushes 1 ∷ Does (Serve 1) ∷ Does (Take 1) ∷ Links 0 ∷
    submit 65 (OpLock 1 63 1 true) ∷ Pushes 1 ∷ Does (Cut 1) ∷ Does (Drop 1) ∷ Pushes 0 ∷ Does (Serve 0) ∷ Does (Take 0) ∷ Links 1 ∷
    submit 66 (OpLock 1 64 1 true) ∷ Pushes 0 ∷ Does (Cut 0) ∷ Does (Cut 1) ∷ submit 67 (OpLock 1 65 1 true) ∷ Settles ∷ []

-- Two opens that share with each other stand together.
abbrev pub shared_readers : List Line
shared_readers =
    submit 1 (OpCreate (97 ∷ []) 0x81 2 2 false false) ∷ submit 2 (OpCreate (97 ∷ []) 0x102 1 1 false false) ∷ Settles ∷ []

-- A writer is refused beside an open that shares no writing, and what hangs on it has no open.
abbrev pub denied_writer : List Line
denied_writer =
    submit 1 (OpCreate (97 ∷ []) 0x81 1 2 false false) ∷ submit 2 (OpCreate (97 ∷ []) 0x102 1 1 false false) ∷ submit 3
    (OpWrite 2 0 (97 ∷ [])) ∷
    Settles ∷ []

-- A delayed request to attach an open lowers no sequence, and an older write behind it is held back.
abbrev pub delayed_reconnect : List Line
delayed_reconnect =
    Links 0 ∷ submit 1 (OpCreate (97 ∷ []) 0x183 0 2 true false) ∷ Pushes 0 ∷ Does (Serve 0) ∷ Does (Take 0) ∷ Does
    (Cut 0) ∷ Does (Drop 0) ∷
    Links 0 ∷ Links 1 ∷ Links 2 ∷ submit 2 (OpWrite 1 0 (97 ∷ [])) ∷ Pushes 0 ∷ Does (Cut 0) ∷ Pushes 1 ∷ Does (Serve 1)
    ∷ Does (Take 1) ∷ Pushes 1 ∷
    Does (Cut 1) ∷ Pushes 2 ∷ Does (Serve 2) ∷ Does (Take 2) ∷ submit 3 (OpWrite 1 0 (98 ∷ [])) ∷ Pushes 2 ∷ Does
    (Serve 2) ∷ Does (Take 2) ∷
    Does (Serve 0) ∷ Does (Serve 1) ∷ []

abbrev pub delayed_reconnect_until_note : List Line
delayed_reconnect_until_note =
    Links 0 ∷ submit 1 (OpCreate (97 ∷ []) 0x183 0 2 true false) ∷ Pushes 0 ∷ Does (Serve 0) ∷ Does (Take 0) ∷ Does
    (Cut 0) ∷ Does (Drop 0) ∷
    Links 0 ∷ Links 1 ∷ Links 2 ∷ submit 2 (OpWrite 1 0 (97 ∷ [])) ∷ Pushes 0 ∷ Does (Cut 0) ∷ Pushes 1 ∷ Does (Serve 1)
    ∷ Does (Take 1) ∷ Pushes 1 ∷
    Does (Cut 1) ∷ Pushes 2 ∷ Does (Serve 2) ∷ Does (Take 2) ∷ submit 3 (OpWrite 1 0 (98 ∷ [])) ∷ Pushes 2 ∷ Does
    (Serve 2) ∷ Does (Take 2) ∷ []

abbrev pub delayed_reconnect_until_last : List Line
delayed_reconnect_until_last =
    Links 0 ∷ submit 1 (OpCreate (97 ∷ []) 0x183 0 2 true false) ∷ Pushes 0 ∷ Does (Serve 0) ∷ Does (Take 0) ∷ Does
    (Cut 0) ∷ Does (Drop 0) ∷
    Links 0 ∷ Links 1 ∷ Links 2 ∷ submit 2 (OpWrite 1 0 (97 ∷ [])) ∷ Pushes 0 ∷ Does (Cut 0) ∷ Pushes 1 ∷ Does (Serve 1)
    ∷ Does (Take 1) ∷ Pushes 1 ∷
    Does (Cut 1) ∷ Pushes 2 ∷ Does (Serve 2) ∷ Does (Take 2) ∷ submit 3 (OpWrite 1 0 (98 ∷ [])) ∷ Pushes 2 ∷ Does
    (Serve 2) ∷ Does (Take 2) ∷
    Does (Serve 0) ∷ []

-- A persistent open without a session expires: a write that may have acted is unknown, and the file can be opened anew.
abbrev pub expired_open : List Line
expired_open =
    Links 0 ∷ submit 1 (OpCreate (97 ∷ []) 0x183 0 2 true false) ∷ Pushes 0 ∷ Does (Serve 0) ∷ Does (Take 0) ∷ submit 2
    (OpWrite 1 0 (97 ∷ [])) ∷
    Pushes 0 ∷ Does (Serve 0) ∷ Does (Cut 0) ∷ Does (Drop 0) ∷ Does (Wait 60001) ∷ submit 3
    (OpCreate (97 ∷ []) 0x183 0 1 false false) ∷ Settles ∷ []

-- Before its deadline the open stands, is attached again, and denies the other create.
abbrev pub open_before_expiry : List Line
open_before_expiry =
    Links 0 ∷ submit 1 (OpCreate (97 ∷ []) 0x183 0 2 true false) ∷ Pushes 0 ∷ Does (Serve 0) ∷ Does (Take 0) ∷ submit 2
    (OpWrite 1 0 (97 ∷ [])) ∷
    Pushes 0 ∷ Does (Serve 0) ∷ Does (Cut 0) ∷ Does (Drop 0) ∷ Does (Wait 59000) ∷ submit 3
    (OpCreate (97 ∷ []) 0x183 0 1 false false) ∷ Settles ∷ []

-- A create whose reply is lost expires: its retry finds its guid expired, so it is unknown.
abbrev pub expired_create : List Line
expired_create =
    Links 0 ∷ submit 1 (OpCreate (97 ∷ []) 0x183 0 2 true false) ∷ Pushes 0 ∷ Does (Serve 0) ∷ Does (Cut 0) ∷ Does
    (Drop 0) ∷ Does (Wait 60001) ∷
    Settles ∷ []

-- One connection creates, writes, reads and closes.
abbrev pub first_steps : List Line
first_steps =
    submit 1 (OpCreate (97 ∷ 46 ∷ 116 ∷ 120 ∷ 116 ∷ []) 0x183 0 2 false false) ∷ submit 2 (OpWrite 1 0 (104 ∷ 101 ∷ 108 ∷ 108 ∷ 111 ∷ [])) ∷
    submit 3 (OpRead 1 0 16) ∷ submit 4 (OpClose 1) ∷ Settles ∷ []

-- A read of no bytes at the end is a success, and one of a byte is END_OF_FILE.
abbrev pub end_of_file : List Line
end_of_file =
    submit 1 (OpCreate (97 ∷ []) 0x183 0 2 false false) ∷ submit 2 (OpWrite 1 0 (97 ∷ 98 ∷ [])) ∷ submit 3
    (OpRead 1 2 0) ∷ submit 4 (OpRead 1 2 1) ∷
    Settles ∷ []

-- A write behind the end fills the gap with zeros.
abbrev pub gaps_are_zeros : List Line
gaps_are_zeros =
    submit 1 (OpCreate (97 ∷ []) 0x183 0 2 false false) ∷ submit 2 (OpWrite 1 3 (122 ∷ [])) ∷ submit 3
    (OpWrite 1 4 (123 ∷ [])) ∷ Settles ∷ []

-- A directory lists its names in order; files of one path each.
abbrev pub listed_names : List Line
listed_names =
    submit 1 (OpCreate (100 ∷ []) 0x183 0 2 false true) ∷ submit 2 (OpCreate (100 ∷ 92 ∷ 98 ∷ []) 0x183 0 2 false false) ∷
    submit 3 (OpCreate (100 ∷ 92 ∷ 97 ∷ []) 0x183 0 2 false false) ∷ submit 4 (OpList 1) ∷ Settles ∷ []

-- A file is renamed, stamped and made delete pending, and goes with its last open.
abbrev pub renamed_and_removed : List Line
renamed_and_removed =
    submit 1 (OpCreate (97 ∷ []) 0x10183 0 2 false false) ∷ submit 2 (OpWrite 1 0 (97 ∷ 98 ∷ [])) ∷ submit 3 (OpRename 1 (98 ∷ [])) ∷
    submit 4 (OpStat 1) ∷ submit 5 (OpTime 1 5) ∷ submit 6 (OpRemove 1) ∷ submit 7 (OpClose 1) ∷ Settles ∷ []

-- An open that shares nothing keeps out who would delete.
abbrev pub denied_remover : List Line
denied_remover =
    submit 1 (OpCreate (100 ∷ []) 0x183 0 2 false true) ∷ submit 2 (OpCreate (100 ∷ 92 ∷ 97 ∷ []) 0x183 0 2 false false) ∷
    submit 3 (OpCreate (100 ∷ []) 0x10183 1 1 false true) ∷ submit 4 (OpRemove 3) ∷ Settles ∷ []

-- A create acted and its reply is lost with its channel: the retry is given the same answer.
abbrev pub retry_after_act : List Line
retry_after_act =
    Links 0 ∷ Links 1 ∷ submit 1 (OpCreate (97 ∷ []) 0x183 0 2 false false) ∷ Pushes 0 ∷ Does (Serve 0) ∷ Does (Cut 0) ∷
    Pushes 1 ∷ Does (Serve 1) ∷
    Does (Take 1) ∷ []

-- A close acted and its reply is lost: the retry finds no open, and the close is Ok.
abbrev pub retried_close : List Line
retried_close =
    Links 0 ∷ Links 1 ∷ submit 1 (OpCreate (97 ∷ []) 0x183 0 2 false false) ∷ Pushes 0 ∷ Does (Serve 0) ∷ Does (Take 0)
    ∷ submit 2 (OpClose 1) ∷
    Pushes 0 ∷ Does (Serve 0) ∷ Does (Cut 0) ∷ Pushes 1 ∷ Does (Serve 1) ∷ Does (Take 1) ∷ []

-- A delayed end is held back, as a write is.
abbrev pub held_back_end : List Line
held_back_end =
    Links 0 ∷ Links 1 ∷ submit 1 (OpCreate (97 ∷ []) 0x183 0 2 false false) ∷ Pushes 0 ∷ Does (Serve 0) ∷ Does (Take 0)
    ∷ submit 2 (OpEnd 1 5) ∷
    Pushes 0 ∷ Does (Cut 0) ∷ Pushes 1 ∷ Does (Serve 1) ∷ Does (Take 1) ∷ submit 3 (OpEnd 1 3) ∷ Pushes 1 ∷ Does (Serve 1) ∷ Does (Take 1) ∷
    Does (Serve 0) ∷ []

abbrev pub held_back_end_until_note : List Line
held_back_end_until_note =
    Links 0 ∷ Links 1 ∷ submit 1 (OpCreate (97 ∷ []) 0x183 0 2 false false) ∷ Pushes 0 ∷ Does (Serve 0) ∷ Does (Take 0)
    ∷ submit 2 (OpEnd 1 5) ∷
    Pushes 0 ∷ Does (Cut 0) ∷ Pushes 1 ∷ Does (Serve 1) ∷ Does (Take 1) ∷ submit 3 (OpEnd 1 3) ∷ Pushes 1 ∷ Does
    (Serve 1) ∷ Does (Take 1) ∷ []

-- A write that finds no room adopts its sequence all the same, so its delayed copy is held back.
abbrev pub refusal_adopts : List Line
refusal_adopts =
    Links 0 ∷ Links 1 ∷ submit 1 (OpCreate (97 ∷ []) 0x183 0 2 false false) ∷ Pushes 0 ∷ Does (Serve 0) ∷ Does (Take 0) ∷
    submit 2 (OpWrite 1 0 (97 ∷ 98 ∷ 99 ∷ 100 ∷ 101 ∷ [])) ∷ Pushes 0 ∷ Does (Cut 0) ∷ Pushes 1 ∷ Does (Serve 1) ∷ Does
    (Take 1) ∷ Does (Serve 0) ∷ []

abbrev pub refusal_adopts_until_note : List Line
refusal_adopts_until_note =
    Links 0 ∷ Links 1 ∷ submit 1 (OpCreate (97 ∷ []) 0x183 0 2 false false) ∷ Pushes 0 ∷ Does (Serve 0) ∷ Does (Take 0) ∷
    submit 2 (OpWrite 1 0 (97 ∷ 98 ∷ 99 ∷ 100 ∷ 101 ∷ [])) ∷ Pushes 0 ∷ Does (Cut 0) ∷ Pushes 1 ∷ Does (Serve 1) ∷ Does (Take 1) ∷ []

-- A lock acted and its reply is lost with the server: the retry is answered by its slot.
abbrev pub restart_keeps_locks : List Line
restart_keeps_locks =
    Links 0 ∷ submit 1 (OpCreate (97 ∷ []) 0x183 0 2 true false) ∷ Pushes 0 ∷ Does (Serve 0) ∷ Does (Take 0) ∷ submit 2
    (OpLock 1 0 10 true) ∷
    Pushes 0 ∷ Does (Serve 0) ∷ Does Restart ∷ Does (Cut 0) ∷ Settles ∷ []

-- A lock of a persistent open is refused, and a restart keeps that.
abbrev pub restart_keeps_refused_locks : List Line
restart_keeps_refused_locks =
    Links 0 ∷ submit 1 (OpCreate (97 ∷ []) 0x183 3 2 true false) ∷ submit 2 (OpCreate (97 ∷ []) 0x183 3 1 true false) ∷
    Pushes 0 ∷ Does (Serve 0) ∷
    Does (Take 0) ∷ Pushes 0 ∷ Does (Serve 0) ∷ Does (Take 0) ∷ submit 3 (OpLock 1 0 10 true) ∷ submit 4 (OpLock 2 5 10 false) ∷ Pushes 0 ∷
    Does (Serve 0) ∷ Does (Take 0) ∷ Pushes 0 ∷ Does (Serve 0) ∷ Does Restart ∷ Does (Cut 0) ∷ Settles ∷ []

-- An open that is attached again has no deadline any more.
abbrev pub attached_again : List Line
attached_again =
    Links 0 ∷ submit 1 (OpCreate (97 ∷ []) 0x183 0 2 true false) ∷ Pushes 0 ∷ Does (Serve 0) ∷ Does (Take 0) ∷ Does
    (Cut 0) ∷ Does (Drop 0) ∷
    Does (Wait 59000) ∷ submit 2 (OpWrite 1 0 (97 ∷ [])) ∷ Settles ∷ Does (Wait 59000) ∷ submit 3 (OpWrite 1 0 (98 ∷ [])) ∷ Settles ∷ []

-- A plain open is lost with its session, and what comes later has no open.
abbrev pub plain_open_lost : List Line
plain_open_lost =
    Links 0 ∷ submit 1 (OpCreate (97 ∷ []) 0x183 0 2 false false) ∷ Pushes 0 ∷ Does (Serve 0) ∷ Does (Take 0) ∷ submit 2
    (OpWrite 1 0 (97 ∷ [])) ∷
    Pushes 0 ∷ Does (Cut 0) ∷ submit 3 (OpWrite 1 0 (98 ∷ [])) ∷ submit 4 (OpClose 1) ∷ []

-- A write waits for a lower one that overlaps it as long as that is unsettled, though no copy of it is outstanding.
abbrev pub later_write_waits : List Line
later_write_waits =
    Links 0 ∷ Links 1 ∷ Links 2 ∷ submit 1 (OpCreate (97 ∷ []) 0x183 0 2 false false) ∷ Pushes 0 ∷ Does (Serve 0) ∷ Does (Take 0) ∷
    submit 2 (OpWrite 1 0 (97 ∷ [])) ∷ submit 3 (OpWrite 1 0 (98 ∷ [])) ∷ Does
    (Push 1 [] (Some (record { op = 2; slot = 0 }))) ∷ Does (Cut 1) ∷
    Does (Push 2 [] (Some (record { op = 3; slot = 0 }))) ∷ Does (Serve 1) ∷ Does (Serve 2) ∷ Does
    (Push 2 [] (Some (record { op = 2; slot = 0 }))) ∷
    Does (Serve 2) ∷ Settles ∷ []

-- A retried write that did not act before is carried out, though it lies within the file.
abbrev pub retried_overwrite : List Line
retried_overwrite =
    Links 0 ∷ Links 1 ∷ submit 1 (OpCreate (97 ∷ []) 0x183 0 2 false false) ∷ Pushes 0 ∷ Does (Serve 0) ∷ Does (Take 0) ∷
    submit 2 (OpWrite 1 0 (97 ∷ 97 ∷ [])) ∷ Pushes 0 ∷ Does (Serve 0) ∷ Does (Take 0) ∷ submit 3 (OpWrite 1 0 (98 ∷ []))
    ∷ Pushes 0 ∷ Does (Cut 0) ∷
    Pushes 1 ∷ Does (Serve 1) ∷ Does (Take 1) ∷ Does (Serve 0) ∷ []

abbrev pub retried_overwrite_until_note : List Line
retried_overwrite_until_note =
    Links 0 ∷ Links 1 ∷ submit 1 (OpCreate (97 ∷ []) 0x183 0 2 false false) ∷ Pushes 0 ∷ Does (Serve 0) ∷ Does (Take 0) ∷
    submit 2 (OpWrite 1 0 (97 ∷ 97 ∷ [])) ∷ Pushes 0 ∷ Does (Serve 0) ∷ Does (Take 0) ∷ submit 3 (OpWrite 1 0 (98 ∷ []))
    ∷ Pushes 0 ∷ Does (Cut 0) ∷
    Pushes 1 ∷ Does (Serve 1) ∷ Does (Take 1) ∷ []

-- A slot whose lock was retried is used no more in the session, so the delayed copy of that lock is answered by it.
abbrev pub slot_not_used_again : List Line
slot_not_used_again =
    Links 0 ∷ Links 1 ∷ submit 1 (OpCreate (97 ∷ []) 0x183 0 2 false false) ∷ Pushes 0 ∷ Does (Serve 0) ∷ Does (Take 0) ∷
    submit 2 (OpLock 1 0 10 true) ∷ Pushes 0 ∷ Does (Cut 0) ∷ Pushes 1 ∷ Does (Serve 1) ∷ Does (Take 1) ∷ submit 3
    (OpUnlock 1 0 10) ∷ Pushes 1 ∷
    Does (Serve 1) ∷ Does (Take 1) ∷ Does (Serve 0) ∷ []

abbrev pub slot_not_used_again_until_note : List Line
slot_not_used_again_until_note =
    Links 0 ∷ Links 1 ∷ submit 1 (OpCreate (97 ∷ []) 0x183 0 2 false false) ∷ Pushes 0 ∷ Does (Serve 0) ∷ Does (Take 0) ∷
    submit 2 (OpLock 1 0 10 true) ∷ Pushes 0 ∷ Does (Cut 0) ∷ Pushes 1 ∷ Does (Serve 1) ∷ Does (Take 1) ∷ submit 3
    (OpUnlock 1 0 10) ∷ Pushes 1 ∷
    Does (Serve 1) ∷ Does (Take 1) ∷ []

-- A rename acted and its reply is lost: the retry finds the file under that very name, and is Ok.
abbrev pub retried_rename : List Line
retried_rename =
    Links 0 ∷ Links 1 ∷ submit 1 (OpCreate (97 ∷ []) 0x10183 0 2 false false) ∷ Pushes 0 ∷ Does (Serve 0) ∷ Does (Take 0) ∷
    submit 2 (OpRename 1 (98 ∷ [])) ∷ Pushes 0 ∷ Does (Serve 0) ∷ Does (Cut 0) ∷ Pushes 1 ∷ Does (Serve 1) ∷ Does (Take 1) ∷ []

abbrev pub retried_rename_until_note : List Line
retried_rename_until_note =
    Links 0 ∷ Links 1 ∷ submit 1 (OpCreate (97 ∷ []) 0x10183 0 2 false false) ∷ Pushes 0 ∷ Does (Serve 0) ∷ Does (Take 0) ∷
    submit 2 (OpRename 1 (98 ∷ [])) ∷ Pushes 0 ∷ Does (Serve 0) ∷ Does (Cut 0) ∷ Pushes 1 ∷ []

-- Rounds, each of a lock whose copy is lost with its session before the server hears of it, and which is given up.
abbrev pub locks_given_up : ℕ → ℕ → List Line → List Line
locks_given_up g zero rest = rest
locks_given_up g (suc n) rest =
    submit g (OpLock 1 g 1 true) ∷ Pushes 0 ∷ Does (Serve 0) ∷ Does (Take 0) ∷ Pushes 0 ∷ Does (Cut 0) ∷ Does (Drop 0) ∷
    Does (Finish (HadStatus 1)) ∷ Links 0 ∷
    locks_given_up (g + 1) n rest

-- The numbers of a slot run modulo 16, and the server keeps that of the last lock that it heard of: were the slot of a lock
-- that was given up used again, the sixteenth lock behind that one would have its number, and be Ok without an act.
abbrev pub given_up_slots : List Line
given_up_slots =
    Links 0 ∷ submit 1 (OpCreate (97 ∷ []) 0x183 0 2 true false) ∷ Pushes 0 ∷ Does (Serve 0) ∷ Does (Take 0) ∷ submit 2
    (OpLock 1 0 1 true) ∷
    Pushes 0 ∷ Does (Serve 0) ∷ Does (Take 0) ∷ Does (Cut 0) ∷ Does (Drop 0) ∷ Links 0 ∷
    locks_given_up 3 15
    (submit 18 (OpLock 1 18 1 true) ∷ Pushes 0 ∷ Does (Serve 0) ∷ Does (Take 0) ∷ Pushes 0 ∷ Does (Serve 0) ∷ Does (Take 0) ∷ [])

-- listings of the root's open 1 from operation g on, each of 16 credits
abbrev pub listings : ℕ → ℕ → List Line → List Line
listings g zero rest = rest
listings g (suc n) rest = submit g (OpList 1) ∷ Pushes 0 ∷ listings (g + 1) n rest

-- A channel's 512 credits pay for thirty-two listings: the thirty-third stays back until a reply gives back what it paid.
abbrev pub listings_unheard : List Line
listings_unheard = Links 0 ∷ submit 1 (OpCreate [] 0x81 3 1 false true) ∷ Pushes 0 ∷ Does (Serve 0) ∷ Does (Take 0) ∷ listings 2 33 []

abbrev pub listings_heard : List Line
listings_heard = Links 0 ∷ submit 1 (OpCreate [] 0x81 3 1 false true) ∷ Pushes 0 ∷ Does (Serve 0) ∷ Does (Take 0) ∷
    listings 2 33 (Does (Serve 0) ∷ Does (Take 0) ∷ Pushes 0 ∷ [])

-- In a new session a request to attach goes out in a listing's place, and pays 1.
abbrev pub listing_asks : List Line
listing_asks =
    Links 0 ∷ submit 1 (OpCreate [] 0x81 3 1 true true) ∷ Pushes 0 ∷ Does (Serve 0) ∷ Does (Take 0) ∷ Does (Cut 0) ∷
    Does (Drop 0) ∷ Links 0 ∷
    submit 2 (OpList 1) ∷ Pushes 0 ∷ []

-- the operation has a request on its way
abbrev pub is_out_behind : List Line → ℕ → Bool
is_out_behind script g = is_some ((course 1 script (beginning 268435456)).world.client.outstanding_on g)

-- the credits that channel 0 holds behind a script
abbrev pub purse_behind : List Line → ℕ
purse_behind script = purse (course 1 script (beginning 268435456)).world.client 0

-- the moment behind a script
abbrev pub moment_behind : List Line → ℕ
moment_behind script = (course 1 script (beginning 268435456)).world.moment

-- the world behind a first link, of a client that has had so many sessions
abbrev pub counted : ℕ → Course → Course
counted number c = record c { world = record c.world { client = record c.world.client { session_number = number } } }

abbrev pub linked_at : ℕ → World
linked_at number = (course 1 (Links 0 ∷ []) (counted number (beginning 268435456))).world

-- how many operations are taken where this one comes behind a create
abbrev pub taken_of : Op → ℕ
taken_of op = (course 1 (submit 1 (OpCreate (97 ∷ []) 0x183 0 2 false false) ∷ submit 2 op ∷ []) (beginning 268435456)).world.client.taken

-- A write is served and unheard, a shared lock over its range is granted meanwhile, and then its second copy is taken.
abbrev pub repeated_behind_a_lock : List Line
repeated_behind_a_lock =
    Links 0 ∷ Links 1 ∷ submit 1 (OpCreate (97 ∷ []) 0x183 0 2 false false) ∷ Pushes 0 ∷ Does (Serve 0) ∷ Does (Take 0) ∷
    submit 2 (OpWrite 1 0 (97 ∷ [])) ∷ submit 3 (OpLock 1 0 10 false) ∷ Pushes 0 ∷ Does (Serve 0) ∷ Pushes 1 ∷ Does
    (Serve 1) ∷ Does (Take 1) ∷
    Does (Cut 0) ∷ Pushes 1 ∷ Does (Serve 1) ∷ Does (Take 1) ∷ []

-- A change of a directory is served and unheard, and then its second copy is taken.
abbrev pub repeated_on_a_directory : Op → List Line
repeated_on_a_directory op =
    Links 0 ∷ Links 1 ∷ submit 1 (OpCreate (100 ∷ []) 0x10183 0 2 false true) ∷ Pushes 0 ∷ Does (Serve 0) ∷ Does (Take 0) ∷ submit 2 op ∷
    Pushes 0 ∷ Does (Serve 0) ∷ Does (Cut 0) ∷ Pushes 1 ∷ Does (Serve 1) ∷ Does (Take 1) ∷ []

-- Two files whose names stand in another order by bytes than by upper case.
abbrev pub files_by_bytes : List Line
files_by_bytes = submit 1 (OpCreate (97 ∷ []) 0x183 0 2 false false) ∷ submit 2 (OpCreate (66 ∷ []) 0x183 0 2 false false) ∷ Settles ∷ []

-- Channels are linked in turn, of which a session has thirty-two.
abbrev pub links_to : ℕ → List Line
links_to zero = []
links_to (suc n) = links_to n ++ Links n ∷ []
