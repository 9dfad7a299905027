-- What a verdict does to the rows.
use Rattle.spec_exchange.specs.Effects.{opens_of_tree, keep_all_closed}
use Rattle.std.proofs.Common.{◌≡◌, ℕ, ◌+◌, ◌<◌, ◌≤◌, ◌^◌, ◌==◌, nat_lt, Bool, true, false, List, [], ◌∷◌, length}
use Rattle.std.proofs.Common.{arith, Option, Some, None, is_some}
use Rattle.std.proofs.lemmas.Bool.Decides.{nat_tests}
use Rattle.spec_exchange.specs.Table.{put, put2}
use Rattle.spec_exchange.specs.Status.{success}
use Rattle.spec_exchange.specs.Content.{written, ended}
use Rattle.spec_exchange.specs.Commands.{Basic, CreateRequest, Durable, asks_directory, deletes_on_close}
use Rattle.spec_exchange.specs.State.{Server, Message, Entry, Open}
use Rattle.spec_exchange.specs.Files.{times_at, touched, emptied_basic, make_file, set_content, empty_file, store_basic}
use Rattle.spec_exchange.specs.Files.{set_delete_pending, without_file, without_target, remove_file, path_in, path_of}
use Rattle.spec_exchange.specs.Files.{moved_entries, rename_file}
use Rattle.spec_exchange.specs.Files.{file_attributes, directory_attributes}
use Rattle.spec_exchange.specs.Opens.{drop_open, leave_open, pending_behind, without_gone, goes, is_kept_back, left_file}
use Rattle.spec_exchange.specs.CheckCreate.{last_file, empties}
use Rattle.spec_exchange.specs.CheckOpen.{is_late, is_slot, file_of}
use Rattle.spec_exchange.specs.Effects.{apply, reach, attached, attach, keep_slot, keep_closed, change_file, file_made, new_file}
use Rattle.spec_exchange.specs.Effects.{timeout_of, timeout_asked, open_row, next_open, make_open, set_ranges, plain_of, leave_all}
use Rattle.spec_exchange.specs.Effects.{files_behind, end_session, end_if_named}
use Rattle.spec_exchange.specs.Effects.{made_attributes, final_attributes}
use Rattle.spec_exchange.specs.Verdict.{Verdict, Refuse, Give, KeepRefusal, Repeat, Attach, Make, TurnDown, Tell, Show}
use Rattle.spec_exchange.specs.Verdict.{KeepSlot, PutRanges, Alter, CloseOpen, Challenge, ChallengeBinding, Begin, Join}
use Rattle.spec_exchange.specs.Verdict.{EndSession, AddTree, DropTree, Change, PutBytes, PutEnd, PutBasic}
use Rattle.spec_exchange.specs.Verdict.{PutDeletePending, PutPath, PutNothing}
use Rattle.spec_exchange.specs.Fold.{full_room}
use Rattle.spec_exchange.specs.Step.{expire, add_expired_guid}
use Rattle.law_server.proofs.tables.Logic.{either}
use Rattle.law_commands.specs.commands.Fitting.{IsBasic}
use Rattle.law_replies.specs.fields.Rows.{is_below_root, IsLeaf, IsFieldPlace, AreFieldEntries, IsFieldRow, RowsFit}
use Rattle.law_replies.proofs.fields.Paths.{entries_moved, entries_gone, entries_replaced, entries_more}
use Rattle.std.specs.Int.Bits.{or_add_and}
use Rattle.std.proofs.lemmas.Nat.{and_le_l, and_le_r}
use Rattle.std.specs.Prelude.{bit_and}

-- ---- one row

put_basic : (basic : ℕ → Basic) (f : ℕ) (b : Basic) → IsBasic b → ((q : ℕ) → IsBasic (basic q)) → (q : ℕ) → IsBasic (put basic f b q)
put_basic basic f b i h q = either IsBasic (q == f) b (basic q) (λ _. i) (λ _. h q)

put_size : (content : ℕ → List ℕ) (f : ℕ) (bytes : List ℕ) → length bytes ≤ full_room → ((q : ℕ) → length (content q) ≤ full_room)
    → (q : ℕ) → length (put content f bytes q) ≤ full_room
put_size content f bytes l h q =
    either (λ (c : List ℕ). length c ≤ full_room) (q == f) bytes (content q) (λ _. l) (λ _. h q)

pub put_row : (opened : ℕ → Open) (o : ℕ) (row : Open) → IsFieldRow row → ((q : ℕ) → IsFieldRow (opened q)) → (q : ℕ)
    → IsFieldRow (put opened o row q)
put_row opened o row i h q = either IsFieldRow (q == o) row (opened q) (λ _. i) (λ _. h q)

new_basic : (now a : ℕ) → now < 256 ^ 8 → a < 256 ^ 4 → IsBasic (times_at now a)
unfolding times_at
new_basic now a n l = record { created = n; accessed = n; written = n; changed = n; attributes = l }

touched_fits : (b : Basic) (now : ℕ) → now < 256 ^ 8 → IsBasic b → IsBasic (touched b now)
unfolding touched
touched_fits b now n h =
    record { created = h.created; accessed = h.accessed; written = n; changed = n; attributes = h.attributes }

emptied_fits : (b : Basic) (a now : ℕ) → a < 256 ^ 4 → now < 256 ^ 8 → IsBasic b → IsBasic (emptied_basic b a now)
unfolding emptied_basic
emptied_fits b a now l n h = record { created = h.created; accessed = h.accessed; written = n; changed = n; attributes = l }

-- ---- files

one_up : (n : ℕ) → n ≤ last_file → n + 1 ≤ last_file + 1
one_up n l = omega (arith, l)

no_bytes : length {A = ℕ} [] ≤ full_room
no_bytes = omega arith

pub file_fits : (s : Server) (path : List ℕ) (is_dir : Bool) (a now : ℕ) → IsFieldPlace path → a < 256 ^ 4 → now < 256 ^ 8
    → s.next_file ≤ last_file → RowsFit s → RowsFit (make_file s path is_dir a now)
file_fits s path is_dir a now p l n m h =
    record {
      places = entries_more s.entries (record { file = s.next_file; path = path }) h.places p m;
      next = one_up s.next_file m;
      basics = put_basic s.basic s.next_file (times_at now a) (new_basic now a n l) h.basics;
      sizes = put_size s.content s.next_file [] no_bytes h.sizes;
      opens = h.opens;
      within = h.within;
    }

pub content_fits : (s : Server) (f : ℕ) (bytes : List ℕ) (now : ℕ) → length bytes ≤ full_room → now < 256 ^ 8 → RowsFit s
    → RowsFit (set_content s f bytes now)
content_fits s f bytes now l n h =
    record {
      places = h.places;
      next = h.next;
      basics = put_basic s.basic f (touched (s.basic f) now) (touched_fits (s.basic f) now n (h.basics f)) h.basics;
      sizes = put_size s.content f bytes l h.sizes;
      opens = h.opens;
      within = h.within;
    }

pub empty_fits : (s : Server) (f a now : ℕ) → a < 256 ^ 4 → now < 256 ^ 8 → RowsFit s → RowsFit (empty_file s f a now)
empty_fits s f a now l n h =
    record {
      places = h.places;
      next = h.next;
      basics = put_basic s.basic f (emptied_basic (s.basic f) a now) (emptied_fits (s.basic f) a now l n (h.basics f)) h.basics;
      sizes = put_size s.content f [] no_bytes h.sizes;
      opens = h.opens;
      within = h.within;
    }

pub basic_fits : (s : Server) (f : ℕ) (b : Basic) → IsBasic b → RowsFit s → RowsFit (store_basic s f b)
basic_fits s f b i h =
    record {
      places = h.places;
      next = h.next;
      basics = put_basic s.basic f b i h.basics;
      sizes = h.sizes;
      opens = h.opens;
      within = h.within;
    }

pub entries_fit : (s : Server) (es : List Entry) → AreFieldEntries es → RowsFit s → RowsFit (record s { entries = es })
entries_fit s es a h =
    record { places = a; next = h.next; basics = h.basics; sizes = h.sizes; opens = h.opens; within = h.within }

pub rename_fits : (s : Server) (f : ℕ) (replaced : Option ℕ) (to : List ℕ) → is_below_root (path_in s.entries f) ≡ true → IsFieldPlace to
    → RowsFit s → RowsFit (rename_file s f replaced to)
unfolding path_of
rename_fits s f replaced to n t h =
    let old = path_in s.entries f in
    entries_fit s (moved_entries old to (without_target replaced s.entries))
    (entries_moved old to (without_target replaced s.entries) n t (entries_replaced replaced s.entries h.places)) h

-- ---- a write or a set-info

abbrev pub Changes : (ℕ → List ℕ) → List Entry → ℕ → Change → Type 0
Changes content entries f (PutBytes at bytes) = length (written at bytes (content f)) ≤ full_room
Changes content entries f (PutEnd size) = length (ended size (content f)) ≤ full_room
Changes content entries f (PutBasic basic) = IsBasic basic
Changes content entries f (PutDeletePending flag) = Unit {0}
Changes content entries f (PutPath replaced path) = IsFieldPlace path × (is_below_root (path_in entries f) ≡ true)
Changes content entries f PutNothing = Unit {0}

change_fits : (s : Server) (f now : ℕ) (c : Change) → now < 256 ^ 8 → Changes s.content s.entries f c → RowsFit s
    → RowsFit (change_file s f now c)
change_fits s f now (PutBytes at bytes) n e h = content_fits s f (written at bytes (s.content f)) now e n h
change_fits s f now (PutEnd size) n e h = content_fits s f (ended size (s.content f)) now e n h
change_fits s f now (PutBasic basic) n e h = basic_fits s f basic e h
change_fits s f now (PutDeletePending flag) n e h = h
change_fits s f now (PutPath replaced path) n e h = rename_fits s f replaced path e.1 e.0 h
change_fits s f now PutNothing n e h = h

-- ---- a create

abbrev pub FileIn : ℕ → CreateRequest → Option ℕ → Type 0
FileIn next r None = IsFieldPlace r.path × (next ≤ last_file)
FileIn next r (Some f) = f ≤ last_file

pub record Makes (next : ℕ) (r : CreateRequest) (found : Option ℕ) (action : ℕ) : Type 0 where
  pub leaf : IsLeaf r.path
  pub set : r.attributes < 256 ^ 4
  pub done : action ≤ 3
  pub file : FileIn next r found

file_small : (a : ℕ) → file_attributes a < 256 ^ 4
unfolding file_attributes
file_small a = let x = and_le_r a 0x3127 in let y = or_add_and (bit_and a 0x3127) 0x20 in omega (arith, x, y)

directory_small : (a : ℕ) → a < 256 ^ 4 → directory_attributes a < 256 ^ 4
unfolding directory_attributes
directory_small a l = let x = and_le_l a 0xffff_ff5f in omega (arith, x, l)

made_small : (r : CreateRequest) → r.attributes < 256 ^ 4 → made_attributes r < 256 ^ 4
made_small r l =
    either (λ (n : ℕ). n < 256 ^ 4) (asks_directory r) (directory_attributes r.attributes) (file_attributes r.attributes)
    (λ _. directory_small r.attributes l) (λ _. file_small r.attributes)

pub final_small : (s : Server) (r : CreateRequest) (found : Option ℕ) → r.attributes < 256 ^ 4 → RowsFit s
    → final_attributes s r found < 256 ^ 4
final_small s r None l h = made_small r l
final_small s r (Some f) l h =
    either (λ (n : ℕ). n < 256 ^ 4) (empties r.disposition) (file_attributes r.attributes) (s.basic f).attributes
    (λ _. file_small r.attributes) (λ _. (h.basics f).attributes)

made : (s : Server) (r : CreateRequest) (found : Option ℕ) (now action : ℕ) → now < 256 ^ 8 → Makes s.next_file r found action
    → RowsFit s → RowsFit (file_made s r found now)
made s r None now action n k h =
    let f = k.file in file_fits s r.path (asks_directory r) (made_attributes r) now f.0 (made_small r k.set) n f.1 h
made s r (Some x) now action n k h =
    either RowsFit (empties r.disposition) (empty_file s x (file_attributes r.attributes) now) s
    (λ _. empty_fits s x (file_attributes r.attributes) now (file_small r.attributes) n h) (λ _. h)

new_low : (s : Server) (r : CreateRequest) (found : Option ℕ) (action : ℕ) → Makes s.next_file r found action
    → new_file s found ≤ last_file
new_low s r None action k = let f = k.file in f.1
new_low s r (Some x) action k = k.file

not_above : (a n : ℕ) → nat_lt n a ≡ false → a ≤ n
not_above a n e = grind (arith, nat_tests)

pub timeout_low : (t : ℕ) → timeout_of t ≤ 300000
unfolding timeout_of
timeout_low t =
    either (λ (n : ℕ). n ≤ 300000) (t == 0) 60000 _ (λ _. omega arith)
    (λ _. either (λ (n : ℕ). n ≤ 300000) (nat_lt 300000 t) 300000 t (λ _. omega arith) (λ e. not_above t 300000 e))

asked_low : (u : Option Durable) → timeout_asked u ≤ 300000
asked_low None = omega arith
asked_low (Some d) = timeout_low d.timeout

pub open_made : (s : Server) (m : Message) (r : CreateRequest) (found : Option ℕ) (action now : ℕ) → now < 256 ^ 8
    → Makes s.next_file r found action → RowsFit s → RowsFit (make_open s m r found action now)
open_made s m r found action now n k h =
    let t = file_made s r found now in
    let i : RowsFit t = made s r found now action n k h in
    let row : IsFieldRow (open_row s m r (new_file s found) action) = record {
      number = new_low s r found action k;
      done = k.done;
      wait = asked_low r.durable;
    } in
    record {
      places = i.places;
      next = i.next;
      basics = i.basics;
      sizes = i.sizes;
      opens = put_row t.opened (next_open s) (open_row s m r (new_file s found) action) row i.opens;
      within = i.within;
    }

-- ---- what leaves

pub gone : (s : Server) (f : ℕ) → RowsFit s → RowsFit (without_gone s f)
gone s f h =
    either RowsFit (goes s f) (remove_file s f) s
    (λ _. entries_fit s (without_file f s.entries) (entries_gone f s.entries h.places) h) (λ _. h)

pub pending_set : (s : Server) (o : ℕ) → RowsFit s → RowsFit (pending_behind s o)
pending_set s o h =
    either RowsFit (deletes_on_close (s.opened o).options) (set_delete_pending s (s.opened o).file true) s (λ _. h) (λ _. h)

left_file_fits : (s : Server) (f : ℕ) → RowsFit s → RowsFit (left_file s f)
left_file_fits s f h = either RowsFit (is_kept_back s f) (set_delete_pending s f false) (without_gone s f) (λ _. h) (λ _. gone s f h)

left : (s : Server) (o : ℕ) → RowsFit s → RowsFit (leave_open s o)
left s o h = left_file_fits (drop_open (pending_behind s o) o) (s.opened o).file (pending_set s o h)

pub expired_added : (s : Server) (client : ℕ) (g : Option ℕ) → RowsFit s → RowsFit (add_expired_guid s client g)
expired_added s client None h = h
expired_added s client (Some g) h = h

pub expired : (s : Server) (o : ℕ) → RowsFit s → RowsFit (expire s o)
expired s o h = expired_added (leave_open s o) (s.opened o).client_guid (s.opened o).create_guid (left s o h)

all_left : (s : Server) (os : List ℕ) → RowsFit s → RowsFit (leave_all s os)
unfolding leave_all
all_left s [] h = h
all_left s (o ∷ os) h = all_left (leave_open s o) os (left s o h)

files_left : (s : Server) (session : ℕ) (q : Bool) → RowsFit s → RowsFit (files_behind s session q)
files_left s session true h = h
files_left s session false h = all_left s (plain_of s session) h

ends : (s : Server) (session now : ℕ) (q : Bool) → RowsFit s → RowsFit (end_session s session now q)
ends s session now q h =
    let b = files_left s session q h in
    record { places = b.places; next = h.next; basics = h.basics; sizes = h.sizes; opens = h.opens; within = h.within }

pub ended_if : (s : Server) (now : ℕ) (o : Option ℕ) (q : Bool) → RowsFit s → RowsFit (end_if_named s now o q)
ended_if s now None q h = h
ended_if s now (Some session) q h = ends s session now q h

-- ---- by verdict

pub slotted : (s : Server) (o index number status : ℕ) → RowsFit s → RowsFit (keep_slot s o index number status)
slotted s o index number status h =
    either RowsFit (is_slot index) (record s {
      lock_sequences = put2 s.lock_sequences o index (Some (record { number = number; status = status }));
    }) s (λ _. h) (λ _. h)

reached : (s : Server) (m : Message) (o : ℕ) → RowsFit s → RowsFit (reach s m o)
reached s m o h = either RowsFit (is_late s m o) s (record s { sequence = put s.sequence o m.channel_sequence }) (λ _. h) (λ _. h)

reached_changes : (s : Server) (m : Message) (o f : ℕ) (c : Change) → Changes s.content s.entries f c
    → Changes (reach s m o).content (reach s m o).entries f c
reached_changes s m o f c e =
    either (λ (u : Server). Changes u.content u.entries f c) (is_late s m o) s (record s { sequence = put s.sequence o m.channel_sequence })
    (λ _. e) (λ _. e)

joined : (s : Server) (m : Message) (o : ℕ) → RowsFit s → RowsFit (attached s m o)
joined s m o h = either RowsFit (is_some (s.session_of_open o)) s (attach s m o) (λ _. h) (λ _. h)

closed : (s : Server) (session : ℕ) (g : Option ℕ) → RowsFit s → RowsFit (keep_closed s session g)
closed s session None h = h
closed s session (Some g) h = h

all_closed : (s : Server) (session : ℕ) (os : List ℕ) → RowsFit s → RowsFit (keep_all_closed s session os)
unfolding keep_all_closed
all_closed s session [] h = h
all_closed s session (o ∷ os) h = all_closed (keep_closed s session (s.opened o).create_guid) session os
    (closed s session (s.opened o).create_guid h)

abbrev pub Keeps : Server → Verdict → Type 0
Keeps s (Make r found action) = Makes s.next_file r found action
Keeps s (Alter o change body) = Changes s.content s.entries (file_of s o) change
Keeps s _ = Unit {0}

pub by_effect : (s : Server) (m : Message) (now : ℕ) (v : Verdict) → now < 256 ^ 8 → Keeps s v → RowsFit s
    → RowsFit (apply s m now v).server
by_effect s m now (Refuse status) n e h = h
by_effect s m now (Give body) n e h = h
by_effect s m now (KeepRefusal guid status) n e h = h
by_effect s m now (Repeat o r) n e h = joined s m o h
by_effect s m now (Attach o r) n e h = joined s m o h
by_effect s m now (Make r found action) n e h = open_made s m r found action now n e h
by_effect s m now (TurnDown o status) n e h = reached s m o h
by_effect s m now (Tell o body) n e h = reached s m o h
by_effect s m now (Show o last body) n e h = reached s m o h
by_effect s m now (KeepSlot o index number status elements) n e h = slotted (reach s m o) o index number status (reached s m o h)
by_effect s m now (PutRanges o index number ranges elements) n e h =
    slotted (set_ranges (reach s m o) (file_of s o) ranges) o index number success (reached s m o h)
by_effect s m now (Alter o change body) n e h =
    change_fits (reach s m o) (file_of s o) now change n (reached_changes s m o (file_of s o) change e) (reached s m o h)
by_effect s m now (CloseOpen o body) n e h = closed (leave_open s o) m.session_id (s.opened o).create_guid (left s o h)
by_effect s m now Challenge n e h = h
by_effect s m now (ChallengeBinding session) n e h = h
by_effect s m now (Begin session user previous r is_quiet) n e h = ended_if s now previous is_quiet h
by_effect s m now (Join session) n e h = h
by_effect s m now (EndSession session is_quiet) n e h = ends s session now is_quiet h
by_effect s m now (AddTree pipes) n e h = h
by_effect s m now DropTree n e h =
    let os = opens_of_tree s m.session_id m.tree_id in all_closed (leave_all s os) m.session_id os (all_left s os h)
