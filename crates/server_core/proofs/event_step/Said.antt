-- The event that the server heard is the model's, also behind an expiry; and the step of which no open expires.
use Rattle.std.proofs.Common.{◌≡◌, ℕ, nat_le, Bool, true, false, if◌then◌else◌, List, Option, Some, None, is_some}
use Rattle.std.proofs.Common.{subst, refl, sym, ap, ◌∙◌}
use Rattle.spec_exchange.specs.Commands.{deletes_on_close}
use Rattle.spec_exchange.specs.Files.{remove_file, set_delete_pending}
use Rattle.spec_exchange.specs.Opens.{drop_open, goes, is_kept_back, left_file, pending_behind}
use Rattle.spec_exchange.specs.State as model
use Rattle.spec_exchange.specs.Step.{add_expired_guid, due, expire}
use Rattle.spec_exchange.specs.Step.{max_expired_guids, step, with_deadlines}
use Rattle.server_checks.specs.event_heard.Heard.{AskedAgrees, LogonFor, event_of, heard_event}
use Rattle.server_checks.specs.declared.event_heard.asked.Asked.{Asked}
use Rattle.server_checks.specs.declared.event_heard.event.ServerEvent.{ServerEvent}
use Rattle.server_checks.specs.declared.event_heard.event.ServerEvent.TheVariants.{Accept, End, Message, Setup, Stop}
use Rattle.law_snapshots.specs.snapshots.Pieces.{SnapshotPiece}
use Rattle.server_core.specs.event_step.Behind.{ExpiryAsks}
use Rattle.server_checks.specs.setups.Setups.{in_the_making, setup_message}
use Rattle.server_core.specs.journaled_tables.Heard.{IsJournaledHeard}
use Rattle.server_core.specs.journaled_tables.Holds.{HoldsOver}
use Rattle.server_core.specs.declared.journaled_tables.state.ServerState.{ServerState}
use Rattle.server_checks.specs.declared.setups.setup.SetupHeard.{SetupHeard}
use Rattle.spec_crypto.specs.tokens.Tokens.{Users}
use Rattle.spec_world.specs.Ends.{Logons}

-- ---- an expiry keeps what of a state an event is heard by

-- one column of a state behind an expiry, which none of its steps writes
kept_by : {X : Type 0} (f : model.Server → X) (s : model.Server) (o : ℕ)
    → ((u : model.Server) (n : ℕ) (b : Bool) → f (set_delete_pending u n b) ≡ f u) → ((u : model.Server) → f (drop_open u o) ≡ f u)
    → ((u : model.Server) (n : ℕ) → f (remove_file u n) ≡ f u)
    → ((u : model.Server) (c : ℕ) (g : Option ℕ) → f (add_expired_guid u c g) ≡ f u) → f (expire s o) ≡ f s
kept_by f s o marks drops removes keeps =
    let w = pending_behind s o in let v = drop_open w o in let n = (s.opened o).file in
    keeps (left_file v n) (s.opened o).client_guid (s.opened o).create_guid
    ∙ (settled (is_kept_back v n) (goes v n) v n ∙ (drops w ∙ marked (deletes_on_close (s.opened o).options)))
  where
    gone : (b : Bool) (v : model.Server) (n : ℕ) → f (if b then remove_file v n else v) ≡ f v
    gone true v n = removes v n
    gone false v n = refl

    settled : (q b : Bool) (v : model.Server) (n : ℕ)
        → f (if q then set_delete_pending v n false else (if b then remove_file v n else v)) ≡ f v
    settled true b v n = marks v n false
    settled false b v n = gone b v n

    marked : (b : Bool) → f (if b then set_delete_pending s (s.opened o).file true else s) ≡ f s
    marked true = marks s (s.opened o).file true
    marked false = refl

guid_present : (u : model.Server) (c : ℕ) (g : Option ℕ) → (add_expired_guid u c g).present ≡ u.present
guid_present u c None = refl
guid_present u c (Some g) = refl

guid_making : (u : model.Server) (c : ℕ) (g : Option ℕ) → (add_expired_guid u c g).making ≡ u.making
guid_making u c None = refl
guid_making u c (Some g) = refl

pub same_present : (s : model.Server) (o : ℕ) → (expire s o).present ≡ s.present
same_present s o = kept_by (λ (u : model.Server). u.present) s o (λ u n b. refl) (λ u. refl) (λ u n. refl) guid_present

pub same_making : (s : model.Server) (o : ℕ) → (expire s o).making ≡ s.making
same_making s o = kept_by (λ (u : model.Server). u.making) s o (λ u n b. refl) (λ u. refl) (λ u n. refl) guid_making

pub heard_expired : (users : Users) (L : Logons) (s : model.Server) (o : ℕ) (e : ServerEvent)
    → heard_event users L (expire s o) e ≡ heard_event users L s e
heard_expired users L s o (Accept connection) = refl
heard_expired users L s o (Message message) = refl
heard_expired users L s o (Setup h) =
    ap (λ (p : ℕ → Bool). model.Heard (setup_message users L (record s { present = p }) h)) (same_present s o)
heard_expired users L s o (End connection) = refl
heard_expired users L s o Stop = refl

-- what is in the making no longer doesn't count, by `unmade_law` of `server_checks::setups`; said of any function of
-- events, so that no step is
-- computed
said_by : (F : model.ServerEvent → model.Answer) (users : Users) (s : model.Server) (L : Logons)
    → ((h : SetupHeard) → F (model.Heard (setup_message users (in_the_making s L) s h)) ≡ F (model.Heard (setup_message users L s h)))
    → (e : ServerEvent) → F (heard_event users (in_the_making s L) s e) ≡ F (heard_event users L s e)
said_by F users s L law (Accept connection) = refl
said_by F users s L law (Message message) = refl
said_by F users s L law (Setup h) = law h
said_by F users s L law (End connection) = refl
said_by F users s L law Stop = refl

pub said_same : (users : Users) (s : model.Server) (L : Logons) (now : ℕ)
    → ((h : SetupHeard) → step s now (model.Heard (setup_message users (in_the_making s L) s h))
    ≡ step s now (model.Heard (setup_message users L s h)))
    → (e : ServerEvent) → step s now (heard_event users (in_the_making s L) s e) ≡ step s now (heard_event users L s e)
said_same users s L now law e = said_by (step s now) users s L law e

-- ---- an open that may expire, as `server_expiry::due` tells it

pub some_expires : (s : model.Server) (now o : ℕ)
    → Some o ≡ (if nat_le max_expired_guids s.expired_count then None else due (with_deadlines s now) now)
    → (due (with_deadlines s now) now ≡ Some o) × (nat_le max_expired_guids s.expired_count ≡ false)
some_expires s now o h = by (nat_le max_expired_guids s.expired_count) refl h
  where
    by : (b : Bool) → nat_le max_expired_guids s.expired_count ≡ b
        → Some o ≡ (if b then None else due (with_deadlines s now) now)
        → (due (with_deadlines s now) now ≡ Some o) × (nat_le max_expired_guids s.expired_count ≡ false)
    by true k h = absurd (cc)
    by false k h = (sym h, k)

-- ---- the same event behind an expiry

pub heard_still : (users : Users) (L : Logons) (s : model.Server) (o : ℕ) (e : ServerEvent) (a : Asked) → IsJournaledHeard users L s e a
    → IsJournaledHeard users L (expire s o) e a
heard_still users L s o e a h =
    let M = in_the_making s L in
    let same : in_the_making (expire s o) L ≡ M = ap (λ (f : ℕ → Option model.Making). record L {
      pending = λ k. if is_some (f k) then L.pending k else None;
    }) (same_making s o) in
    record {
      agrees = h.agrees;
      said = h.said ∙ (sym (heard_expired users M s o e) ∙ ap (λ (N : Logons). heard_event users N (expire s o) e) (sym same));
      logon = subst (λ (N : Logons). LogonFor users N e a) (sym same) h.logon;
    }

-- ---- the server that goes on, as it took the event in

pub asks_by : {D : Type 0} (told : Type 0) (seen : D → List ℕ) (may_leave : D → List ℕ → Type 0)
    (base : List SnapshotPiece) (c : ServerState D) (s : model.Server)
    (L : Logons) (records : List model.Record) (now : ℕ) (e : ServerEvent) (a : Asked) → HoldsOver told seen may_leave base c s L records
    → c.stopped ≡ None
    → ((h : SetupHeard) → step s now (model.Heard (setup_message c.tables.config.users (in_the_making s L) s h))
    ≡ step s now (model.Heard (setup_message c.tables.config.users L s h)))
    → AskedAgrees a
    → (event_of a ≡ heard_event c.tables.config.users (in_the_making s L) s e) × LogonFor c.tables.config.users (in_the_making s L) e a
    → ExpiryAsks told seen may_leave base c c.tables.config.users s L records now e a
asks_by told seen may_leave base c s L records now e a h none law agrees k = record {
  holds = h;
  goes_on = none;
  users_are = refl;
  heard = record { agrees = agrees; said = k.0; logon = k.1 };
  said = sym (said_same c.tables.config.users s L now law e) ∙ ap (λ (v : model.ServerEvent). step s now v) (sym k.0);
}
