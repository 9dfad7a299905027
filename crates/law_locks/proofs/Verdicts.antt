-- Each verdict but those of a lock leaves slots, opens and sessions as a lock needs them.
use Rattle.std.proofs.Common.{◌≡◌, ◌≢◌, inl, ℕ, ◌+◌, ◌==◌, ◌<◌, Bool, true, false, List, Option, Some, None, is_some}
use Rattle.std.proofs.Common.{refl, arith, sym, ◌∙◌, subst}
use Rattle.spec_exchange.specs.Table.{put}
use Rattle.spec_exchange.specs.Commands.{Command, TreeDisconnect, Close, CreateRequest, SetupRequest}
use Rattle.spec_exchange.specs.State.{Server, Message, NewSession, Making}
use Rattle.spec_exchange.specs.Opens.{id_of, leave_open, with_guid}
use Rattle.spec_exchange.specs.CheckSetup.{is_new}
use Rattle.spec_exchange.specs.CheckOpen.{is_late, file_of}
use Rattle.spec_exchange.specs.Effects.{apply, reach, attached, keep_closed, make_open, open_row, new_file, next_open}
use Rattle.spec_exchange.specs.Effects.{guid_of, guid_staying, leaves, cleared, listed_at, positioned_at}
use Rattle.spec_exchange.specs.Verdict.{Verdict, Refuse, Give, KeepRefusal, Repeat, Attach, Make, TurnDown, Tell, Show}
use Rattle.spec_exchange.specs.Verdict.{KeepSlot, PutRanges, Alter, CloseOpen, Challenge, ChallengeBinding, Begin, Join}
use Rattle.spec_exchange.specs.Verdict.{EndSession, AddTree, DropTree, Place}
use Rattle.law_server.proofs.tables.Logic.{either, none_of}
use Rattle.law_server.proofs.tables.Found.{Facts}
use Rattle.law_locks.proofs.Views.{View, view, Quiet, stays, same, attaches, makes, leaves_by, ended_view, begins_one}
use Rattle.law_locks.proofs.Views.{reach_view, change_view, without_guid, shut_view, still_named, newly_named, end_quiet}
use Rattle.law_locks.proofs.Views.{make_view, its_session, staying_named}

-- whether the command closes this open
unfoldable pub closes_in : Command → ℕ → Bool
closes_in (Close o query) p = o == p
closes_in _ p = false

abbrev pub news : Server → Message → ℕ → Bool
news t m x = is_new x (t.making m.connection)

abbrev pub QuietBy : Server → Message → Server → Type 0
QuietBy t m u = Quiet (news t m) (closes_in m.command) (view t) (view u)

attach_quiet : (t : Server) (m : Message) (o : ℕ) → QuietBy t m (attached t m o)
attach_quiet t m o =
    either (λ u. QuietBy t m u) (is_some (t.session_of_open o)) _ _ (λ _. stays (news t m) (closes_in m.command) (view t))
    (λ e. attaches (news t m) (closes_in m.command) (view t) o m.session_id (none_of (t.session_of_open o) e))

above : (epoch given : ℕ) → id_of epoch given < id_of epoch (given + 1)
above epoch given = omega arith

made_quiet : (t : Server) (m : Message) (r : CreateRequest) (found : Option ℕ) (action now : ℕ)
    → QuietBy t m (make_open t m r found action now)
made_quiet t m r found action now =
    subst (λ z. Quiet (news t m) (closes_in m.command) (view t) z) (sym (make_view t m r found action now))
    (makes (news t m) (closes_in m.command) (view t) (next_open t) m.session_id
    (open_row t m r (new_file t found) action) (with_guid t.by_guid m.client_guid (guid_of r.durable)
    (Some (next_open t)))
    (above t.epoch t.open_ids_given) (newly_named t.by_guid m.client_guid (next_open t) (guid_of r.durable)))

closes_it : (c : Command) (o : ℕ) (query : Bool) (p : ℕ) → c ≡ Close o query → closes_in c p ≡ false → p ≢ o
unfolding closes_in
closes_it c o query p e h = λ same. let t : closes_in (Close o query) p ≡ false = subst (λ z. closes_in z p ≡ false) e h
    in absurd (grind arith)

shut_quiet : (t : Server) (m : Message) (o : ℕ) (query : Bool) → m.command ≡ Close o query
    → QuietBy t m (keep_closed (leave_open t o) m.session_id (t.opened o).create_guid)
shut_quiet t m o query e =
    subst (λ z. Quiet (news t m) (closes_in m.command) (view t) z) (sym (shut_view t o m.session_id))
    (leaves_by (news t m) (closes_in m.command) (view t) o (without_guid t o) (λ p y c at. closes_it m.command o query p
    e c) (λ c g p h. still_named t.by_guid (t.opened o).client_guid (t.opened o).create_guid c g p h))

-- a session begins, and the one before it ends
begins_over : (begins closes : ℕ → Bool) (v : View) (x0 p0 : ℕ) (gone : ℕ → Bool) (by : ℕ → ℕ → Option ℕ) → begins x0
    ≡ true → ((o : ℕ) → gone o ≡ true → v.session_of_open o ≡ Some p0) → ((c g o : ℕ) → by c g ≡ Some o → v.by_guid c g
    ≡ Some o) → ((o y : ℕ) → v.session_of_open o ≡ Some y → y ≢ x0)
    → Quiet begins closes v (record (ended_view v p0 gone by) { present = put (put v.present p0 false) x0 true })
begins_over begins closes v x0 p0 gone by may its old absent =
    record {
      present = λ x h n. grind arith;
      standing = λ o l h. grind arith;
      session_of_open = λ o y l h st p. kept_at_it o y (absent o y h) (v.session_of_open o) h p;
      lock_sequences = λ o i l. refl;
      opened = λ o l. refl;
      named = λ c g o i h. inl (old c g o h);
      lasts = λ o y c st h p. let i1 = its o in let d = apart y p (absent o y h) in grind arith;
      journal = grind arith;
    }
  where
    apart : (y : ℕ) → put (put v.present p0 false) x0 true y ≡ true → y ≢ x0 → y ≢ p0
    apart y p d = λ e. absurd (grind arith)

    kept_at_it : (o y : ℕ) → y ≢ x0 → (w : Option ℕ) → w ≡ Some y → put (put v.present p0 false) x0 true y ≡ true → cleared p0 w ≡ Some y
    kept_at_it o y d w e p = let d2 = apart y p d in grind arith

is_new_of : (u : Option Making) (x : ℕ) → u ≡ Some (NewSession x) → is_new x u ≡ true
is_new_of u x e = rw e (same_self x)
  where
    same_self : (x : ℕ) → (x == x) ≡ true
    same_self x = grind arith

begin_quiet : (t : Server) (m : Message) (now : ℕ) (session : ℕ) (user : List ℕ) (previous : Option ℕ)
    (r : SetupRequest) (is_quiet : Bool) → t.making m.connection ≡ Some (NewSession m.session_id)
    → ((o y : ℕ) → t.session_of_open o ≡ Some y → y ≢ m.session_id)
    → QuietBy t m (apply t m now (Begin session user previous r is_quiet)).server
begin_quiet t m now session user None r is_quiet making absent = begins_one (news t m) (closes_in m.command) (view t)
    m.session_id (is_new_of (t.making m.connection) m.session_id making)
begin_quiet t m now session user (Some p) r is_quiet making absent =
    begins_over (news t m) (closes_in m.command) (view t) m.session_id p (λ o. leaves t p o)
    (λ c g. guid_staying t p (t.by_guid c g)) (is_new_of (t.making m.connection) m.session_id making)
    (its_session t p) (λ c g o e. staying_named t p (t.by_guid c g) o e) absent

pub show_view : (s : Server) (m : Message) (o : ℕ) (place : Place) → view (record (reach s m o) {
  enumeration_location = listed_at s.enumeration_location o place;
  current_byte_offset = positioned_at s.current_byte_offset o place;
}) ≡ view s
show_view s m o place = either (λ u. view (record u {
  enumeration_location = listed_at s.enumeration_location o place;
  current_byte_offset = positioned_at s.current_byte_offset o place;
}) ≡ view s) (is_late s m o) _ _ (λ _. refl) (λ _. refl)

absent_of : (present : ℕ → Bool) (at : ℕ → Option ℕ) (x : ℕ) → ((o y : ℕ) → at o ≡ Some y → present y ≡ true)
    → present x ≡ false → (o y : ℕ) → at o ≡ Some y → y ≢ x
absent_of present at x there off o y e = λ same. let p = there o y e in absurd (grind arith)

-- the verdicts of a lock are apart
abbrev pub is_slot_verdict : Verdict → Bool
is_slot_verdict (KeepSlot o index number status elements) = true
is_slot_verdict (PutRanges o index number ranges elements) = true
is_slot_verdict _ = false

pub verdict_quiet : (t : Server) (m : Message) (now : ℕ) (v : Verdict) → ((o y : ℕ) → t.session_of_open o ≡ Some y
    → t.present y ≡ true) → m.command ≢ TreeDisconnect → Facts t m v → is_slot_verdict v ≡ false → QuietBy t m (apply t m now v).server
verdict_quiet t m now (Refuse status) there kept f off = stays (news t m) (closes_in m.command) (view t)
verdict_quiet t m now (Give body) there kept f off = stays (news t m) (closes_in m.command) (view t)
verdict_quiet t m now (KeepRefusal guid status) there kept f off = stays (news t m) (closes_in m.command) (view t)
verdict_quiet t m now (Repeat o r) there kept f off = attach_quiet t m o
verdict_quiet t m now (Attach o r) there kept f off = attach_quiet t m o
verdict_quiet t m now (Make r found action) there kept f off = made_quiet t m r found action now
verdict_quiet t m now (TurnDown o status) there kept f off = same (news t m) (closes_in m.command) (view t) _ (reach_view t m o)
verdict_quiet t m now (Tell o body) there kept f off = same (news t m) (closes_in m.command) (view t) _ (reach_view t m o)
verdict_quiet t m now (Show o last body) there kept f off = same (news t m) (closes_in m.command) (view t) _ (show_view t m o last)
verdict_quiet t m now (KeepSlot o index number status elements) there kept f off = absurd (cc)
verdict_quiet t m now (PutRanges o index number ranges elements) there kept f off = absurd (cc)
verdict_quiet t m now (Alter o change body) there kept f off = same (news t m) (closes_in m.command) (view t) _
    (change_view (reach t m o) (file_of t o) now change ∙ reach_view t m o)
verdict_quiet t m now (CloseOpen o body) there kept f off = shut_quiet t m o f.query f.command
verdict_quiet t m now Challenge there kept f off = same (news t m) (closes_in m.command) (view t) _ refl
verdict_quiet t m now (ChallengeBinding session) there kept f off = same (news t m) (closes_in m.command) (view t) _ refl
verdict_quiet t m now (Begin session user previous r is_quiet) there kept f off = begin_quiet t m now session user previous r
    is_quiet f.making (absent_of t.present t.session_of_open m.session_id there f.absent)
verdict_quiet t m now (Join session) there kept f off = same (news t m) (closes_in m.command) (view t) _ refl
verdict_quiet t m now (EndSession session is_quiet) there kept f off = end_quiet (news t m) (closes_in m.command) t session now is_quiet
verdict_quiet t m now (AddTree pipes) there kept f off = same (news t m) (closes_in m.command) (view t) _ refl
verdict_quiet t m now DropTree there kept f off = absurd (kept f.command)
