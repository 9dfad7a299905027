-- An event behind an open that was taken out in front of it.
use Rattle.std.proofs.Common.{◌≡◌, ℕ, true, false, List, ◌++◌, Some, refl, sym, ap, subst, ◌∙◌}
use Rattle.server_effects.specs.recovered_deadlines.Dated.{HasRoomYet}
use Rattle.spec_exchange.specs.Records.{fits, origin_at}
use Rattle.spec_exchange.specs.State as model
use Rattle.spec_exchange.specs.Step.{Ruling, carried_out, connection_of, due, expire, expire_records, max_expired_guids, ruling}
use Rattle.spec_exchange.specs.Step.{step, with_deadlines, written_down}
use Rattle.spec_exchange.specs.Table.{has}
use Rattle.server_core.proofs.journaled_tables.Lone.{Due}
use Rattle.store_opens.specs.open_table.Shown.{HasOpensRoom, HasRoomIn, HasOpensSessionRoom}
use Rattle.store_opens.specs.declared.open_table.table.Opens.{Opens}
use Rattle.server_checks.specs.event_heard.Heard.{event_of, heard_event}
use Rattle.server_checks.specs.declared.event_heard.asked.Asked.{Asked}
use Rattle.server_checks.specs.declared.event_heard.event.ServerEvent.{ServerEvent}
use Rattle.server_checks.specs.declared.event_heard.event.ServerEvent.TheVariants as events
use Rattle.journal_bytes.specs.record_bodies.Body.{IsBodyOf}
use Rattle.server_core.specs.event_step.Behind.{HasFront, MayExpire, both_from}
use Rattle.server_checks.specs.setups.Setups.{in_the_making}
use Rattle.server_effects.specs.expiry.Expired.{IsExpired}
use Rattle.server_effects.specs.declared.expiry.expiry.Expired.{Expired}
use Rattle.server_core.specs.journaled_tables.Counted.{front_of}
use Rattle.std.specs.Prelude.{nat_le}
use Rattle.spec_crypto.specs.tokens.Tokens.{Users}
use Rattle.spec_world.specs.Ends.{Logons}

-- ---- the table of opens

-- across what makes room it can be put back yet
pub expired_still : (t u : Opens) (x : Expired) (s : model.Server) (o : ℕ) → IsExpired t x s o → (HasOpensRoom t → HasOpensRoom u)
    → u.undated.items ≡ t.undated.items → IsExpired u x s o
expired_still t u x s o h room e = record {
  taken = h.taken;
  gone = h.gone;
  was_pending = h.was_pending;
  was_kept = h.was_kept;
  room = room h.room;
  undated = λ n. ap (λ (os : List ℕ). has o os) e ∙ h.undated n;
}

-- with other deadlines it has its room
pub room_yet : (t u : Opens) → u ≡ record t { deadlines = u.deadlines } → HasRoomYet t u
room_yet t u e = record {
  room = λ h. subst (λ (v : Opens). HasOpensRoom v) (sym e) h;
  in_session = λ x o h. subst (λ (v : Opens). HasOpensSessionRoom v x o) (sym e) h;
  in_new = λ session o persistent h. subst (λ (v : Opens). HasRoomIn v session o persistent) (sym e) h;
  rest = subst (λ (v : Opens). v ≡ record t { rows = v.rows; deadlines = v.deadlines; undated = v.undated }) (sym e) refl;
}

-- ---- the event

same_connection : (users : Users) (L : Logons) (s : model.Server) (e : ServerEvent)
    → connection_of (heard_event users L s e) ≡ connection_of (heard_event users (in_the_making s L) s e)
same_connection users L s (events.Accept connection) = refl
same_connection users L s (events.Message message) = refl
same_connection users L s (events.Setup h) = refl
same_connection users L s (events.End connection) = refl
same_connection users L s events.Stop = refl

-- what `dated_law` says of an expiry's records
abbrev pub FrontLaw : Type 0
FrontLaw = (s : model.Server) (now : ℕ) (g : model.Origin) (o : ℕ) → expire_records (with_deadlines s now) g o ≡ expire_records s g o

pub due_front : FrontLaw → (users : Users) (L : Logons) (s : model.Server) (now : ℕ) (e : ServerEvent) (a : Asked) (o : ℕ)
    (front : List ℕ) → event_of a ≡ heard_event users (in_the_making s L) s e → MayExpire s now o → HasFront s a o front
    → Due s now (heard_event users L s e) o front
due_front law users L s now e a o front said may f =
    let ev = heard_event users L s e in
    let same : front_of s (event_of a) o ≡ front_of s ev o = ap (λ (k : ℕ). expire_records s (origin_at k) o)
    (ap connection_of said ∙ sym (same_connection users L s e)) in record {
      is_due = may.is_due;
      kept = may.kept;
      room = sym (ap (fits s) same) ∙ f.room;
      body = subst (λ (rs : List model.Record). IsBodyOf front rs) same f.body;
      front_is = law s now (origin_at (connection_of ev)) o;
    }

-- what `expiring_law` and `carried_law` say of an event behind it
pub record OutLaws : Type 0 where
  pub behind : (s : model.Server) (now o : ℕ) (e : model.ServerEvent) → due (with_deadlines s now) now ≡ Some o
      → nat_le max_expired_guids s.expired_count ≡ false
      → fits s (front_of s e o ++ (carried_out (expire s o) now (ruling (expire s o) e)).records) ≡ true → step s now e
      ≡ written_down (record (carried_out (with_deadlines (expire s o) now) now (ruling (expire s o) e)) {
        records = front_of s e o ++ (carried_out (expire s o) now (ruling (expire s o) e)).records;
      })
  pub fits_same : (s : model.Server) (o : ℕ) (rs : List model.Record) → fits (expire s o) rs ≡ fits s rs
  pub counts : (s : model.Server) (now : ℕ) (r : Ruling) → (carried_out s now r).server.journal ≡ s.journal
  pub expired : (s : model.Server) (o : ℕ) → (expire s o).journal ≡ s.journal

-- where both don't fit
pub none_fits : (s : model.Server) (now o : ℕ) (x : model.ServerEvent) (y : model.Server) → y ≡ expire s o
    → ((s : model.Server) (o : ℕ) (rs : List model.Record) → fits (expire s o) rs ≡ fits s rs) → fits y (both_from s y now x o) ≡ false
    → fits s (front_of s x o ++ (carried_out (expire s o) now (ruling (expire s o) x)).records) ≡ false
none_fits s now o x y e same h = sym (same s o (both_from s (expire s o) now x o))
    ∙ subst (λ (u : model.Server). fits u (both_from s u now x o) ≡ false) e h
