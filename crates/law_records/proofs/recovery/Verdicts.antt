-- Each verdict of the checks: what its records fold to stands for what its effect leaves.
use Rattle.std.proofs.lemmas.Bool.{eqb-false}
use Rattle.std.proofs.Common.{◌≡◌, ◌≢◌, ℕ, Bool, true, false, ◌||◌, if◌then◌else◌, List, [], ◌∷◌, refl, sym, ◌∙◌, ap}
use Rattle.std.proofs.Common.{Option, Some, None, is_some, subst}
use Rattle.spec_exchange.specs.Table.{put}
use Rattle.spec_exchange.specs.Status.{success}
use Rattle.spec_exchange.specs.Commands.{Element, Lock, all_lock, all_unlock, form, deletes_on_close}
use Rattle.spec_exchange.specs.State.{Server, Message, Origin, Range, Answer, Body}
use Rattle.spec_exchange.specs.Files.{root, path_of}
use Rattle.spec_exchange.specs.Opens.{leave_open, leave_records}
use Rattle.spec_exchange.specs.Ranges.{Stands, change_ranges}
use Rattle.spec_exchange.specs.CheckOpen.{is_late, file_of}
use Rattle.spec_exchange.specs.Records.{origin_of}
use Rattle.spec_exchange.specs.Verdict.{Verdict, Refuse, Give, KeepRefusal, Repeat, Attach, Make, TurnDown, Tell, Show}
use Rattle.spec_exchange.specs.Verdict.{KeepSlot, PutRanges, Alter, CloseOpen, Challenge, ChallengeBinding, Begin, Join}
use Rattle.spec_exchange.specs.Verdict.{EndSession, AddTree, DropTree, Change, PutBytes, PutEnd, PutBasic}
use Rattle.spec_exchange.specs.Verdict.{PutDeletePending, PutPath, PutNothing, Place}
use Rattle.spec_exchange.specs.Effects.{apply, reach, attach, attached, keep_slot, set_ranges, lock_records}
use Rattle.spec_exchange.specs.Effects.{change_file, change_records, keep_closed, keep_all_closed, leave_all}
use Rattle.spec_exchange.specs.Effects.{leave_all_records, opens_of_tree, drop_tree, listed_at, positioned_at}
use Rattle.spec_exchange.specs.Fold.{fold_from}
use Rattle.law_server.specs.tables.Fits.{Fits, Listed, Ascending, GuidOpen, OpenGuid, OpenIds, RangeOwners, OpenFiles}
use Rattle.law_server.proofs.tables.Logic.{either}
use Rattle.law_server.proofs.tables.Found.{Facts, LockFacts, AlterFacts}
use Rattle.law_server.proofs.tables.Leaving.{leave_open_keeps}
use Rattle.law_server.proofs.tables.Closing.{StandInTurn, tree_stands}
use Rattle.law_records.specs.recovery.Recovers.{Mirrors}
use Rattle.law_records.proofs.recovery.Leaves.{Leaver, fold_append, leaves_recorded}
use Rattle.law_records.proofs.recovery.Locks.{LockKind, slot_kept, ranges_put}
use Rattle.law_records.proofs.recovery.Makes.{makes, next_id}
use Rattle.law_records.proofs.recovery.Alters.{changes, allowed}
use Rattle.law_records.proofs.recovery.Ends.{Ender, ends, ends_if_named}

-- what is asked of the server
pub record Needs (s : Server) : Type 0 where
  pub guid_open : GuidOpen s
  pub open_guid : OpenGuid s
  pub listed : Listed s
  pub ascending : Ascending s
  pub open_ids : OpenIds s
  pub range_owners : RangeOwners s
  pub open_files : OpenFiles s
  pub not_root : (o : ℕ) → s.standing o ≡ true → deletes_on_close (s.opened o).options ≡ true → (s.opened o).file ≢ 0
  pub root_stays : s.delete_pending root ≡ false
  pub fits : Fits s

pub needs : (s : Server) → Fits s → Needs s
needs s i =
    record {
      guid_open = i.guid_open;
      open_guid = i.open_guid;
      listed = i.listed;
      ascending = i.ascending;
      open_ids = i.open_ids;
      range_owners = i.range_owners;
      open_files = i.open_files;
      not_root = λ o _. i.not_root o;
      root_stays = i.root_stays;
      fits = i;
    }

pub ender : (s : Server) → Needs s → Ender s
ender s n = record { listed = n.listed; ascending = n.ascending; files = n.open_files; not_root = n.not_root }

pub leaver : (s : Server) (o : ℕ) → Needs s → s.standing o ≡ true → Leaver s o
leaver s o n stands =
    record {
      stands = stands;
      own = λ g e. n.open_guid o g stands e;
      guids = λ c g e. let t = n.guid_open c g o e in (sym t.1, t.2);
      ranges = λ k i r e q. sym (n.range_owners k i r e).1 ∙ ap (λ x. (s.opened x).file) q;
      there = n.open_files o stands;
      not_root = n.not_root o stands;
    }

-- the answer's records fold to what stands for its state
abbrev pub Good : Server → Answer → Type 0
Good d A = Mirrors (fold_from d A.records) A.server

pub nothing_owed : (d s : Server) → Mirrors d s → Mirrors (fold_from d []) s
unfolding fold_from
nothing_owed d s h = h

reached : (d s : Server) (m : Message) (o : ℕ) → Mirrors d s → Mirrors (fold_from d []) (reach s m o)
reached d s m o h = either (λ x. Mirrors (fold_from d []) x) (is_late s m o) s (record s {
  sequence = put s.sequence o m.channel_sequence;
}) (λ _. nothing_owed d s h) (λ _. nothing_owed d s h)

attaches : (d s : Server) (m : Message) (o : ℕ) → Mirrors d s → Mirrors (fold_from d []) (attached s m o)
attaches d s m o h = either (λ x. Mirrors (fold_from d []) x) (is_some (s.session_of_open o)) s (attach s m o)
    (λ _. nothing_owed d s h) (λ _. nothing_owed d s h)

shows : (d s : Server) (m : Message) (o : ℕ) (place : Place) → Mirrors d s → Mirrors (fold_from d [])
    (record (reach s m o) {
      enumeration_location = listed_at s.enumeration_location o place;
      current_byte_offset = positioned_at s.current_byte_offset o place;
    })
shows d s m o place h = reached d s m o h

-- ---- locks

formed_by : (b : Bool) (status : ℕ) → (if b then None else Some status) ≡ None → b ≡ true
formed_by true status e = refl
formed_by false status e = absurd (cc)

kind_of : (es : List Element) → form (Lock 0 0 0 es) ≡ None → LockKind es
kind_of [] f = absurd (cc)
kind_of (x ∷ xs) f = formed_by (all_lock (x ∷ xs) || all_unlock (x ∷ xs)) 0xc000_000d f

lock_kind : (s : Server) (m : Message) (o index number : ℕ) (es : List Element) → LockFacts s m o index number es → LockKind es
lock_kind s m o index number es f = kind_of es (ap form (sym f.command) ∙ f.opened.tree.session.formed)

keeps : (d s : Server) (m : Message) (o index number status : ℕ) (es : List Element) → s.standing o ≡ true → LockKind es
    → status ≢ success → Mirrors d s
    → Mirrors (fold_from d (lock_records s m o index number status es)) (keep_slot (reach s m o) o index number status)
unfolding lock_records
keeps d s m o index number status es stands kind denied h =
    let t = record s { sequence = put s.sequence o m.channel_sequence } in
    either (λ x. Mirrors (fold_from d (lock_records s m o index number status es)) (keep_slot x o index number status)) (is_late s m o) s t
    (λ _. slot_kept d s m o index number status es stands kind denied h)
    (λ _. slot_kept d t m o index number status es stands kind denied h)

puts : (d s : Server) (m : Message) (o index number : ℕ) (out : List Range) (es : List Element) → s.standing o ≡ true
    → LockKind es → change_ranges (s.ranges (file_of s o)) o es ≡ Stands out → Mirrors d s
    → Mirrors (fold_from d (lock_records s m o index number success es))
    (keep_slot (set_ranges (reach s m o) (file_of s o) out) o index number success)
unfolding lock_records
puts d s m o index number out es stands kind grants h =
    let t = record s { sequence = put s.sequence o m.channel_sequence } in
    either (λ x. Mirrors (fold_from d (lock_records s m o index number success es))
    (keep_slot (set_ranges x (file_of s o) out) o index number success)) (is_late s m o) s t
    (λ _. ranges_put d s m o index number out es stands kind grants h)
    (λ _. ranges_put d t m o index number out es stands kind grants h)

-- ---- writes and set-infos

sequence_aside : (e s : Server) (q : ℕ → ℕ) (f now : ℕ) (c : Change) → Mirrors e (change_file s f now c)
    → Mirrors e (change_file (record s { sequence = q }) f now c)
unfolding path_of
sequence_aside e s q f now (PutBytes at bytes) h = h
sequence_aside e s q f now (PutEnd size) h = h
sequence_aside e s q f now (PutBasic basic) h = h
sequence_aside e s q f now (PutDeletePending flag) h = h
sequence_aside e s q f now (PutPath replaced path) h = h
sequence_aside e s q f now PutNothing h = h

alters : (d s : Server) (m : Message) (o now : ℕ) (c : Change) (body : Body) → AlterFacts s m o c body → Needs s → Mirrors d s
    → Mirrors (fold_from d (change_records m (file_of s o) now c)) (change_file (reach s m o) (file_of s o) now c)
alters d s m o now c body facts n h =
    let f = file_of s o in
    let done = changes d s m f now c (n.open_files o facts.opened.standing) (allowed s m o c body facts) n.root_stays n.listed h in
    either (λ x. Mirrors (fold_from d (change_records m f now c)) (change_file x f now c)) (is_late s m o) s (record s {
      sequence = put s.sequence o m.channel_sequence;
    })
    (λ _. done)
    (λ _. sequence_aside (fold_from d (change_records m f now c)) s (put s.sequence o m.channel_sequence) f now c done)

-- ---- close

closed_aside : (e s : Server) (session : ℕ) (guid : Option ℕ) → Mirrors e s → Mirrors e (keep_closed s session guid)
closed_aside e s session None h = h
closed_aside e s session (Some g) h = h

-- ---- a tree that goes

all_left_recorded : (d s : Server) (origin : Origin) (os : List ℕ) → StandInTurn s os → Fits s → Mirrors d s
    → Mirrors (fold_from d (leave_all_records s origin os)) (leave_all s os)
unfolding leave_all leave_all_records
all_left_recorded d s origin [] each i h = nothing_owed d s h
all_left_recorded d s origin (o ∷ os) each i h =
    subst (λ x. Mirrors x (leave_all (leave_open s o) os))
    (sym (fold_append d (leave_records s origin o) (leave_all_records (leave_open s o) origin os)))
    (all_left_recorded (fold_from d (leave_records s origin o)) (leave_open s o) origin os each.1 (leave_open_keeps s o each.0 i)
    (leaves_recorded d s origin o (leaver s o (needs s i) each.0) i.listed h))

all_closed_aside : (e s : Server) (session : ℕ) (os : List ℕ) → Mirrors e s → Mirrors e (keep_all_closed s session os)
unfolding keep_all_closed
all_closed_aside e s session [] h = h
all_closed_aside e s session (o ∷ os) h = all_closed_aside e (keep_closed s session (s.opened o).create_guid) session os
    (closed_aside e s session (s.opened o).create_guid h)

drops : (d s : Server) (origin : Origin) (session tree : ℕ) → Fits s → Mirrors d s
    → Mirrors (fold_from d (leave_all_records s origin (opens_of_tree s session tree))) (drop_tree s session tree)
drops d s origin session tree i h =
    let os = opens_of_tree s session tree in
    all_closed_aside (fold_from d (leave_all_records s origin os)) (leave_all s os) session os
    (all_left_recorded d s origin os (tree_stands s session tree i) i h)

-- ---- by verdict

pub good : (d s : Server) (m : Message) (now : ℕ) (v : Verdict) → Facts s m v → Needs s → Mirrors d s → Good d (apply s m now v)
good d s m now (Refuse status) f n h = nothing_owed d s h
good d s m now (Give body) f n h = nothing_owed d s h
good d s m now (KeepRefusal guid status) f n h = nothing_owed d s h
good d s m now (Repeat o r) f n h = attaches d s m o h
good d s m now (Attach o r) f n h = attaches d s m o h
good d s m now (Make r found action) f n h = makes d s m r found action now f (next_id s n.listed n.guid_open n.range_owners n.open_ids) h
good d s m now (TurnDown o status) f n h = reached d s m o h
good d s m now (Tell o body) f n h = reached d s m o h
good d s m now (Show o last body) f n h = shows d s m o last h
good d s m now (KeepSlot o index number status elements) f n h =
    keeps d s m o index number status elements f.lock.opened.standing (lock_kind s m o index number elements f.lock)
    (eqb-false status success f.refused) h
good d s m now (PutRanges o index number ranges elements) f n h =
    puts d s m o index number ranges elements f.lock.opened.standing (lock_kind s m o index number elements f.lock) f.granted h
good d s m now (Alter o change body) f n h = alters d s m o now change body f n h
good d s m now (CloseOpen o body) f n h =
    closed_aside (fold_from d (leave_records s (origin_of m) o)) (leave_open s o) m.session_id (s.opened o).create_guid
    (leaves_recorded d s (origin_of m) o (leaver s o n f.opened.standing) n.listed h)
good d s m now Challenge f n h = nothing_owed d s h
good d s m now (ChallengeBinding session) f n h = nothing_owed d s h
good d s m now (Begin session user previous r is_quiet) f n h = ends_if_named d s (origin_of m) previous now is_quiet (ender s n) h
good d s m now (Join session) f n h = nothing_owed d s h
good d s m now (EndSession session is_quiet) f n h = ends d s (origin_of m) session now is_quiet (ender s n) h
good d s m now (AddTree pipes) f n h = nothing_owed d s h
good d s m now DropTree f n h = drops d s (origin_of m) m.session_id m.tree_id n.fits h
