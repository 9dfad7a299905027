-- What is written down fits, and so does what a fold makes of it.
use Rattle.spec_exchange.specs.Effects.{opens_of_tree}
use Rattle.std.proofs.Common.{◌≡◌, ℕ, ◌+◌, ◌-◌, ◌<◌, ◌≤◌, ◌^◌, ◌==◌, nat_le, nat_lt, Bool, true, false, not, ◌&&◌, ◌||◌}
use Rattle.std.proofs.Common.{if◌then◌else◌, List, [], ◌∷◌, ◌++◌, length, take, drop, replicate, length-append}
use Rattle.std.proofs.Common.{refl, sym, ◌∙◌, subst, arith, eqb-true, Option, Some, None, is_some}
use Rattle.std.proofs.lemmas.Bool.Decides.{nat_tests}
use Rattle.std.proofs.lemmas.List.{length-take, length-drop, length-replicate}
use Rattle.spec_exchange.specs.Status.{success}
use Rattle.spec_exchange.specs.Texts.{is_path}
use Rattle.spec_exchange.specs.Content.{padded, is_empty, written, ended}
use Rattle.spec_exchange.specs.Commands.{CreateRequest, Durable, Element, deletes_on_close, asks_directory, all_lock, all_unlock}
use Rattle.spec_exchange.specs.State.{Server, Message, Entry, Origin, Record, NewOpen, EpochRecord, VersionRecord, CreateRecord}
use Rattle.spec_exchange.specs.State.{WriteRecord, EndRecord, BasicRecord, DeleteRecord, RenameRecord, RemoveRecord, LockRecord}
use Rattle.spec_exchange.specs.State.{CloseRecord, ExpireRecord}
use Rattle.spec_exchange.specs.Files.{root, find, exists, is_directory, has_parent, path_in, used, passes_room, make_file, set_content}
use Rattle.spec_exchange.specs.Files.{empty_file, store_basic, set_delete_pending, remove_file, rename_file, without_file}
use Rattle.spec_exchange.specs.Ranges.{RangeAnswer, Stands, Denied, change_ranges}
use Rattle.spec_exchange.specs.Opens.{drop_open, leave_open, pending_behind, without_gone, goes, leave_records, pending_records, shut_records, gone_records, granted, is_kept_back, left_file_records}
use Rattle.spec_exchange.specs.CheckCreate.{last_file, max_files}
use Rattle.spec_exchange.specs.CheckOpen.{target_of, file_of}
use Rattle.spec_exchange.specs.Effects.{apply, new_open, new_file, create_records, is_persistent, recorded_index}
use Rattle.spec_exchange.specs.Effects.{lock_records, change_records, plain_of}
use Rattle.spec_exchange.specs.Effects.{leave_all_records, end_records, records_if_named, set_ranges, keep_slot}
use Rattle.spec_exchange.specs.Effects.{final_attributes}
use Rattle.spec_exchange.specs.Records.{origin_at, origin_of}
use Rattle.spec_exchange.specs.Verdict.{Verdict, Refuse, Give, KeepRefusal, Repeat, Attach, Make, TurnDown, Tell, Show}
use Rattle.spec_exchange.specs.Verdict.{KeepSlot, PutRanges, Alter, CloseOpen, Challenge, ChallengeBinding, Begin, Join}
use Rattle.spec_exchange.specs.Verdict.{EndSession, AddTree, DropTree, Change, PutBytes, PutEnd, PutBasic}
use Rattle.spec_exchange.specs.Verdict.{PutDeletePending, PutPath, PutNothing}
use Rattle.spec_exchange.specs.Fold.{full_room, fold, fold_from, with_record, sweep, may_make, may_create, may_have_open, restored_row}
use Rattle.spec_exchange.specs.Fold.{restore, created_file, is_file, may_rename, may_remove, lock_granted, lock_recorded, shut_recorded}
use Rattle.spec_exchange.specs.Fold.{nothing_yet, no_times, no_open, opening_records, epoch_records, is_left_pending, mark_records, unmark_records}
use Rattle.spec_exchange.specs.Step.{expire_records, max_expired_guids, ends_with, take_out, take_all_records, add_expired_guid}
use Rattle.law_server.proofs.tables.Logic.{either, front_of, back_of, not_true}
use Rattle.law_commands.specs.commands.Fitting.{IsBasic}
use Rattle.law_replies.specs.fields.Rows.{is_below_root, IsLeaf, IsFieldPlace, IsFieldRow, RowsFit}
use Rattle.law_replies.proofs.fields.Paths.{off, entries_gone, exists_low, exists_named}
use Rattle.law_replies.proofs.fields.Changes.{Changes, Makes, Keeps, put_row, file_fits, content_fits, empty_fits}
use Rattle.law_replies.proofs.fields.Changes.{basic_fits, entries_fit, rename_fits}
use Rattle.law_replies.proofs.fields.Changes.{timeout_low, gone, pending_set, expired_added, slotted}
use Rattle.law_replies.proofs.fields.Changes.{final_small}

-- ---- a record

abbrev pub IsNewOpen : Option NewOpen → Type 0
IsNewOpen None = Unit {0}
IsNewOpen (Some n) = n.timeout ≤ 300000

abbrev pub FitsRecord : Record → Type 0
FitsRecord (CreateRecord origin action file path attributes is_dir time opened) =
    IsLeaf path × (attributes < 256 ^ 4) × (time < 256 ^ 8) × IsNewOpen opened
FitsRecord (WriteRecord origin file at time bytes) = time < 256 ^ 8
FitsRecord (EndRecord origin file size time) = time < 256 ^ 8
FitsRecord (BasicRecord origin file basic) = IsBasic basic
FitsRecord (RenameRecord origin file replaced path) = IsFieldPlace path
FitsRecord _ = Unit {0}

abbrev pub AllFit : List Record → Type 0
AllFit [] = Unit {0}
AllFit (r ∷ rs) = FitsRecord r × AllFit rs

pub fit_more : (xs ys : List Record) → AllFit xs → AllFit ys → AllFit (xs ++ ys)
fit_more [] ys a b = b
fit_more (x ∷ xs) ys a b = (a.0, fit_more xs ys a.1 b)

-- ---- what leaves

fit_gone : (s : Server) (origin : Origin) (f : ℕ) → AllFit (gone_records s origin f)
unfolding gone_records
fit_gone s origin f = either AllFit (goes s f) (RemoveRecord origin f ∷ []) [] (λ _. (tt, tt)) (λ _. tt)

fit_mark : (s : Server) (f : ℕ) → AllFit (mark_records s f)
unfolding mark_records
fit_mark s f = either AllFit (is_left_pending s f) (DeleteRecord (origin_at 0) f false ∷ []) [] (λ _. (tt, tt)) (λ _. tt)

fit_settled : (s : Server) (origin : Origin) (f : ℕ) → AllFit (left_file_records s origin f)
unfolding left_file_records
fit_settled s origin f = either AllFit (is_kept_back s f) (DeleteRecord origin f false ∷ []) (gone_records s origin f) (λ _. (tt, tt))
    (λ _. fit_gone s origin f)

fit_shut : (s : Server) (origin : Origin) (o : ℕ) → AllFit (shut_records s origin o)
unfolding shut_records
fit_shut s origin o = either AllFit (s.opened o).persistent (CloseRecord origin o ∷ []) [] (λ _. (tt, tt)) (λ _. tt)

fit_pending : (s : Server) (origin : Origin) (o : ℕ) → AllFit (pending_records s origin o)
unfolding pending_records
fit_pending s origin o =
    either AllFit (not (s.opened o).persistent && (deletes_on_close (s.opened o).options && not (s.delete_pending (s.opened o).file)))
    (DeleteRecord origin (s.opened o).file true ∷ []) [] (λ _. (tt, tt)) (λ _. tt)

fit_left : (s : Server) (origin : Origin) (o : ℕ) → AllFit (leave_records s origin o)
unfolding leave_records
fit_left s origin o =
    let f = (s.opened o).file in
    let d = drop_open (pending_behind s o) o in
    fit_more (pending_records s origin o) (shut_records s origin o ++ left_file_records d origin f) (fit_pending s origin o)
    (fit_more (shut_records s origin o) (left_file_records d origin f) (fit_shut s origin o) (fit_settled d origin f))

fit_all_left : (s : Server) (origin : Origin) (os : List ℕ) → AllFit (leave_all_records s origin os)
unfolding leave_all_records
fit_all_left s origin [] = tt
fit_all_left s origin (o ∷ os) =
    fit_more (leave_records s origin o) (leave_all_records (leave_open s o) origin os) (fit_left s origin o)
    (fit_all_left (leave_open s o) origin os)

fit_ended : (s : Server) (origin : Origin) (session : ℕ) (q : Bool) → AllFit (end_records s origin session q)
unfolding end_records
fit_ended s origin session true = tt
fit_ended s origin session false = fit_all_left s origin (plain_of s session)

pub fit_named : (s : Server) (origin : Origin) (session : Option ℕ) (q : Bool) → AllFit (records_if_named s origin session q)
fit_named s origin None q = tt
fit_named s origin (Some session) q = fit_ended s origin session q

pub fit_expired : (s : Server) (origin : Origin) (o : ℕ) → AllFit (expire_records s origin o)
unfolding expire_records
fit_expired s origin o = (tt, fit_settled (drop_open (pending_behind s o) o) origin (s.opened o).file)

pub fit_all_out : (s : Server) (ks : List ℕ) (now : ℕ) (q : Bool) → AllFit (take_all_records s ks now q)
unfolding take_all_records
fit_all_out s [] now q = tt
fit_all_out s (k ∷ ks) now q =
    fit_more (records_if_named s (origin_at 0) (ends_with s k) q) (take_all_records (take_out s k now q) ks now q)
    (fit_named s (origin_at 0) (ends_with s k) q) (fit_all_out (take_out s k now q) ks now q)

-- ---- by verdict

fit_lock : (s : Server) (m : Message) (o index number status : ℕ) (elements : List Element)
    → AllFit (lock_records s m o index number status elements)
unfolding lock_records
fit_lock s m o index number status elements =
    either AllFit (s.opened o).persistent (LockRecord (origin_of m) o (recorded_index index) number status elements ∷ []) []
    (λ _. (tt, tt)) (λ _. tt)

fit_change : (s : Server) (m : Message) (f now : ℕ) (c : Change) → now < 256 ^ 8 → Changes s.content s.entries f c
    → AllFit (change_records m f now c)
unfolding change_records
fit_change s m f now (PutBytes at bytes) n e = (n, tt)
fit_change s m f now (PutEnd size) n e = (n, tt)
fit_change s m f now (PutBasic basic) n e = (e, tt)
fit_change s m f now (PutDeletePending flag) n e = (tt, tt)
fit_change s m f now (PutPath replaced path) n e = (e.0, tt)
fit_change s m f now PutNothing n e = tt

fit_open : (s : Server) (m : Message) (r : CreateRequest) (access : ℕ) (u : Option Durable) → IsNewOpen (new_open s m r access u)
unfolding new_open
fit_open s m r access None = tt
fit_open s m r access (Some d) = either IsNewOpen d.persistent _ None (λ _. timeout_low d.timeout) (λ _. tt)

fit_create : (s : Server) (m : Message) (r : CreateRequest) (found : Option ℕ) (action now : ℕ) → now < 256 ^ 8
    → Makes s.next_file r found action → RowsFit s → AllFit (create_records s m r found action now)
unfolding create_records
fit_create s m r found action now n k h =
    either AllFit ((action == 1) && not (is_persistent r.durable)) []
    (CreateRecord (origin_of m) action (new_file s found) r.path (final_attributes s r found) (asks_directory r) now
    (new_open s m r (granted s (new_file s found) r.access) r.durable) ∷ [])
    (λ _. tt)
    (λ _. ((k.leaf, final_small s r found k.set h, n, fit_open s m r (granted s (new_file s found) r.access) r.durable), tt))

pub records_by : (s : Server) (m : Message) (now : ℕ) (v : Verdict) → now < 256 ^ 8 → Keeps s v → RowsFit s
    → AllFit (apply s m now v).records
records_by s m now (Refuse status) n e h = tt
records_by s m now (Give body) n e h = tt
records_by s m now (KeepRefusal guid status) n e h = tt
records_by s m now (Repeat o r) n e h = tt
records_by s m now (Attach o r) n e h = tt
records_by s m now (Make r found action) n e h = fit_create s m r found action now n e h
records_by s m now (TurnDown o status) n e h = tt
records_by s m now (Tell o body) n e h = tt
records_by s m now (Show o last body) n e h = tt
records_by s m now (KeepSlot o index number status elements) n e h = fit_lock s m o index number status elements
records_by s m now (PutRanges o index number ranges elements) n e h = fit_lock s m o index number success elements
records_by s m now (Alter o change body) n e h = fit_change s m (file_of s o) now change n e
records_by s m now (CloseOpen o body) n e h = fit_left s (origin_of m) o
records_by s m now Challenge n e h = tt
records_by s m now (ChallengeBinding session) n e h = tt
records_by s m now (Begin session user previous r is_quiet) n e h = fit_named s (origin_of m) previous is_quiet
records_by s m now (Join session) n e h = tt
records_by s m now (EndSession session is_quiet) n e h = fit_ended s (origin_of m) session is_quiet
records_by s m now (AddTree pipes) n e h = tt
records_by s m now DropTree n e h = fit_all_left s (origin_of m) (opens_of_tree s m.session_id m.tree_id)

-- ---- a file within its room

at_most_of : (a n : ℕ) → nat_lt n a ≡ false → a ≤ n
at_most_of a n e = grind (arith, nat_tests)

within_room : (u room : ℕ) (len size : ℕ) → room ≤ full_room → len ≤ full_room
    → (nat_lt room ((u - len) + size) && nat_lt len size) ≡ false → size ≤ full_room
within_room u room len size r l e = by (nat_lt room ((u - len) + size)) refl (nat_lt len size) refl e
  where
    by : (a : Bool) → nat_lt room ((u - len) + size) ≡ a → (b : Bool) → nat_lt len size ≡ b → (a && b) ≡ false → size ≤ full_room
    by false f b g h = (let k = at_most_of ((u - len) + size) room f in omega (arith, k, r))
    by true f false g h = (let k = at_most_of size len g in omega (arith, k, l))
    by true f true g h = absurd (let k : true ≡ false = h in cc)

pub size_few : (s : Server) (f size : ℕ) → RowsFit s → passes_room s f size ≡ false → size ≤ full_room
unfolding passes_room
size_few s f size h e = within_room (used s) s.room (length (s.content f)) size h.within (h.sizes f) e

pub ended_few : (n : ℕ) (c : List ℕ) → n ≤ full_room → length (ended n c) ≤ full_room
unfolding ended
ended_few n c l = omega (arith, l, length-take n (padded n c))

padded_long : (n : ℕ) (c : List ℕ) → length (padded n c) ≡ length c + (n - length c)
unfolding padded
padded_long n c = omega (arith, length-append c (replicate (n - length c) 0), length-replicate {A = ℕ} (n - length c) 0)

some_written : (at : ℕ) (d c : List ℕ) → at + length d ≤ full_room → length c ≤ full_room
    → length (take at (padded at c) ++ (d ++ drop (at + length d) c)) ≤ full_room
some_written at d c l h =
    omega (
      arith,
      l,
      h,
      length-append (take at (padded at c)) (d ++ drop (at + length d) c),
      length-append d (drop (at + length d) c),
      length-take at (padded at c),
      padded_long at c,
      length-drop (at + length d) c,
    )

-- the write's end is within the room, where it writes anything
pub written_few : (s : Server) (f at : ℕ) (d : List ℕ) → RowsFit s → (not (is_empty d) && passes_room s f (at + length d)) ≡ false
    → length (written at d (s.content f)) ≤ full_room
unfolding written
written_few s f at d h e =
    elim (is_empty d) as (λ b. (not b && passes_room s f (at + length d)) ≡ false → length (if b then s.content f
    else take at (padded at (s.content f)) ++ (d ++ drop (at + length d) (s.content f))) ≤ full_room) [
      | true ↦ λ g. h.sizes f
      | false ↦ λ g. some_written at d (s.content f) (size_few s f (at + length d) h g) (h.sizes f)
    ] e

-- ---- the fold

swept : (s : Server) (es : List Entry) → RowsFit s → RowsFit (sweep s es)
unfolding sweep
swept s [] h = h
swept s (e ∷ es) h = swept (without_gone s e.file) es (gone s e.file h)

begun : (s : Server) (number : ℕ) → RowsFit s → RowsFit (with_record s (EpochRecord number))
begun s number h = either RowsFit (number == s.epoch + 1) _ s (λ _. swept s s.entries h) (λ _. h)

-- what was found of a create
record May (s : Server) (action f : ℕ) (path : List ℕ) : Type 0 where
  pub number : f ≤ last_file
  pub done : action ≤ 3
  pub new : (action == 2) ≡ true → (is_below_root path ≡ true) × (s.next_file ≤ last_file)

not_found : (s : Server) (path : List ℕ) → is_some (find s path) ≡ false → is_below_root path ≡ true
unfolding find
not_found s [] e = absurd (let h : true ≡ false = e in cc)
not_found s (c ∷ cs) e = refl

le_of : (a n : ℕ) → nat_le a n ≡ true → a ≤ n
le_of a n e = grind (arith, nat_tests)

new_facts : (s : Server) (f : ℕ) (path : List ℕ) → may_make s f path ≡ true
    → (f ≡ s.next_file) × (is_below_root path ≡ true) × (s.next_file ≤ last_file)
unfolding may_make
new_facts s f path e =
    let a = back_of (f == s.next_file) _ e in
    let b = back_of (is_path path) _ a in
    let c = back_of (not (is_some (find s path))) _ b in
    let d = back_of (has_parent s path) _ c in (
      eqb-true f s.next_file (front_of (f == s.next_file) _ e),
      not_found s path (not_true (is_some (find s path)) (front_of (not (is_some (find s path))) _ b)),
      le_of s.next_file last_file (back_of (nat_lt (length s.entries) max_files) (nat_le s.next_file last_file) d),
    )

three : (a n : ℕ) → (a == n) ≡ true → n ≤ 3 → a ≤ 3
three a n e l = subst (λ i. i ≤ 3) (sym (eqb-true a n e)) l

below_four : (a : ℕ) → nat_lt a 4 ≡ true → a ≤ 3
below_four a e = grind (arith, nat_tests)

two_low : 2 ≤ 3
two_low = omega arith

one_low : 1 ≤ 3
one_low = omega arith

other : {X : Type 0} (b : Bool) → b ≡ false → b ≡ true → X
other b e f = absurd (let h : false ≡ true = sym e ∙ f in cc)

may_facts : (s : Server) (action f : ℕ) (path : List ℕ) → RowsFit s → may_create s action f path ≡ true → May s action f path
unfolding may_create
may_facts s action f path h e =
    by (action == 2) refl (action == 1) refl (nat_lt action 4) refl e
  where
    there : exists s f ≡ true → f ≤ last_file
    there g = exists_low s f h.places g

    by : (a : Bool) → (action == 2) ≡ a → (b : Bool) → (action == 1) ≡ b → (c : Bool) → nat_lt action 4 ≡ c
        → (if a then may_make s f path else if b then exists s f else if c then exists s f && not (is_directory s f) else false) ≡ true
        → May s action f path
    by true p b q c r g =
        let n = new_facts s f path g in
        record {
          number = subst (λ i. i ≤ last_file) (sym n.0) n.2;
          done = three action 2 p two_low;
          new = λ _. (n.1, n.2);
        }
    by false p true q c r g = record { number = there g; done = three action 1 q one_low; new = λ k. other (action == 2) p k }
    by false p false q true r g =
        record {
          number = there (front_of (exists s f) (not (is_directory s f)) g);
          done = below_four action r;
          new = λ k. other (action == 2) p k;
        }
    by false p false q false r g = off g

created : (s : Server) (action f : ℕ) (path : List ℕ) (a : ℕ) (is_dir : Bool) (time : ℕ) → May s action f path → IsLeaf path
    → a < 256 ^ 4 → time < 256 ^ 8 → RowsFit s → RowsFit (created_file s action f path a is_dir time)
created s action f path a is_dir time m leaf l n h =
    either RowsFit (action == 2) (make_file s path is_dir a time) _
    (λ e. (let k = m.new e in file_fits s path is_dir a time (record { named = k.0; leaf = leaf }) l n k.1 h))
    (λ _. either RowsFit (action == 1) s (empty_file s f a time) (λ _. h) (λ _. empty_fits s f a time l n h))

restored : (s : Server) (f action : ℕ) (u : Option NewOpen) → f ≤ last_file → action ≤ 3 → IsNewOpen u → RowsFit s
    → RowsFit (restore s f action u)
restored s f action None l d e h = h
restored s f action (Some n) l d e h =
    record {
      places = h.places;
      next = h.next;
      basics = h.basics;
      sizes = h.sizes;
      opens = put_row s.opened n.id (restored_row n f action) (record { number = l; done = d; wait = e }) h.opens;
      within = h.within;
    }

ranges_granted : (s : Server) (o index number : ℕ) (a : RangeAnswer) → RowsFit s → RowsFit (lock_granted s o index number a)
ranges_granted s o index number (Denied status) h = h
ranges_granted s o index number (Stands ranges) h = slotted (set_ranges s (file_of s o) ranges) o index number success h

locked : (s : Server) (o index number status : ℕ) (elements : List Element) → RowsFit s
    → RowsFit (lock_recorded s o index number status elements)
locked s o index number status elements h =
    either RowsFit (not (all_lock elements || all_unlock elements)) s _ (λ _. h)
    (λ _. either RowsFit (status == success) (lock_granted s o index number (change_ranges (s.ranges (file_of s o)) o elements))
    (keep_slot s o index number status) (λ _. ranges_granted s o index number _ h) (λ _. slotted s o index number status h))

named_there : (s : Server) (f replaced : ℕ) (path : List ℕ) → RowsFit s → may_rename s f replaced path ≡ true
    → is_below_root (path_in s.entries f) ≡ true
unfolding may_rename
named_there s f replaced path h e =
    let a = back_of (exists s f) _ e in
    exists_named s f h.places (front_of (exists s f) _ e) (not_true (f == root) (front_of (not (f == root)) _ a))

unpassed : (s : Server) (f size : ℕ) (a b : Bool) → (a && (b && not (passes_room s f size))) ≡ true → passes_room s f size ≡ false
unpassed s f size a b e =
    not_true (passes_room s f size) (back_of b (not (passes_room s f size)) (back_of a (b && not (passes_room s f size)) e))

and_off : (a b : Bool) → b ≡ false → (a && b) ≡ false
and_off true b e = e
and_off false b e = refl

pub by_record : (s : Server) (r : Record) → FitsRecord r → RowsFit s → RowsFit (with_record s r)
by_record s (EpochRecord number) e h = begun s number h
by_record s (VersionRecord number) e h = either RowsFit ((number == 2) && (s.version == 1)) _ s (λ _. h) (λ _. h)
by_record s (CreateRecord origin action file path attributes is_dir time opened) e h =
    either RowsFit (may_create s action file path && may_have_open s opened)
    (restore (created_file s action file path attributes is_dir time) file action opened) s
    (λ k. (let m = may_facts s action file path h (front_of (may_create s action file path) (may_have_open s opened) k) in
    restored (created_file s action file path attributes is_dir time) file action opened m.number m.done e.3
    (created s action file path attributes is_dir time m e.0 e.1 e.2 h)))
    (λ _. h)
by_record s (WriteRecord origin file at time bytes) e h =
    either RowsFit (is_file s file && (not (is_empty bytes) && not (passes_room s file (at + length bytes))))
    (set_content s file (written at bytes (s.content file)) time) s
    (λ k. content_fits s file (written at bytes (s.content file)) time
    (written_few s file at bytes h (and_off (not (is_empty bytes)) (passes_room s file (at + length bytes))
    (unpassed s file (at + length bytes) (is_file s file) (not (is_empty bytes)) k))) e h)
    (λ _. h)
by_record s (EndRecord origin file size time) e h =
    either RowsFit (is_file s file && not (passes_room s file size)) (set_content s file (ended size (s.content file)) time) s
    (λ k. content_fits s file (ended size (s.content file)) time
    (ended_few size (s.content file) (size_few s file size h
    (not_true (passes_room s file size) (back_of (is_file s file) (not (passes_room s file size)) k)))) e h)
    (λ _. h)
by_record s (BasicRecord origin file basic) e h =
    either RowsFit (exists s file) (store_basic s file basic) s (λ _. basic_fits s file basic e h) (λ _. h)
by_record s (DeleteRecord origin file flag) e h =
    either RowsFit (exists s file && not (file == root)) (set_delete_pending s file flag) s (λ _. h) (λ _. h)
by_record s (RenameRecord origin file replaced path) e h =
    either RowsFit (may_rename s file replaced path) (rename_file s file (target_of file (find s path)) path) s
    (λ k. rename_fits s file (target_of file (find s path)) path (named_there s file replaced path h k) e h) (λ _. h)
by_record s (RemoveRecord origin file) e h =
    either RowsFit (may_remove s file) (remove_file s file) s
    (λ _. entries_fit s (without_file file s.entries) (entries_gone file s.entries h.places) h) (λ _. h)
by_record s (LockRecord origin o index number status elements) e h =
    either RowsFit (s.standing o && nat_le index 64) (lock_recorded s o index number status elements) s
    (λ _. locked s o index number status elements h) (λ _. h)
by_record s (CloseRecord origin o) e h = either RowsFit (s.standing o) (shut_recorded s o) s (λ _. pending_set s o h) (λ _. h)
by_record s (ExpireRecord origin o) e h =
    either RowsFit (s.standing o && nat_lt s.expired_count max_expired_guids)
    (add_expired_guid (shut_recorded s o) (s.opened o).client_guid (s.opened o).create_guid) s
    (λ _. expired_added (shut_recorded s o) (s.opened o).client_guid (s.opened o).create_guid (pending_set s o h))
    (λ _. h)

folds : (s : Server) (rs : List Record) → AllFit rs → RowsFit s → RowsFit (fold_from s rs)
unfolding fold_from
folds s [] e h = h
folds s (r ∷ rs) e h = folds (with_record s r) rs e.1 (by_record s r e.0 h)

fit_epoch : (d : Server) → AllFit (epoch_records d)
fit_epoch d =
    either AllFit (d.version == 1) (VersionRecord 2 ∷ EpochRecord (d.epoch + 1) ∷ []) (EpochRecord (d.epoch + 1) ∷ [])
    (λ _. (tt, (tt, tt))) (λ _. (tt, tt))

fit_unmarked : (d : Server) (es : List Entry) → AllFit (unmark_records d es)
unfolding unmark_records
fit_unmarked d [] = tt
fit_unmarked d (e ∷ es) = fit_more (mark_records d e.file) (unmark_records d es) (fit_mark d e.file)
    (fit_unmarked d es)

pub fit_opening : (d : Server) → AllFit (opening_records d)
fit_opening d = let b = fold_from d (epoch_records d) in
    fit_more (epoch_records d) (unmark_records b b.entries) (fit_epoch d) (fit_unmarked b b.entries)

zero_8 : 0 < 256 ^ 8
zero_8 = omega arith

zero_4 : 0 < 256 ^ 4
zero_4 = omega arith

no_more : (n : ℕ) → 0 ≤ n
no_more n = omega arith

none_times : IsBasic no_times
none_times = record { created = zero_8; accessed = zero_8; written = zero_8; changed = zero_8; attributes = zero_4 }

none_open : IsFieldRow no_open
none_open = record { number = no_more last_file; done = no_more 3; wait = no_more 300000 }

first_next : 1 ≤ last_file + 1
first_next = omega arith

same_room : full_room ≤ full_room
same_room = omega arith

nothing_fits : RowsFit nothing_yet
nothing_fits =
    record {
      places = tt;
      next = first_next;
      basics = λ f. none_times;
      sizes = λ f. no_more full_room;
      opens = λ o. none_open;
      within = same_room;
    }

pub fold_fits : (rs : List Record) → AllFit rs → RowsFit (fold rs)
fold_fits rs e = folds nothing_yet rs e nothing_fits
