-- Each event, an expiry alone and a restart keep rows and records within their fields.
use Rattle.std.proofs.Common.{◌≡◌, ℕ, ◌<◌, ◌^◌, nat_le, nat_lt, Bool, true, false, ◌&&◌, ◌||◌, if◌then◌else◌, List, [], ◌∷◌}
use Rattle.std.proofs.Common.{◌++◌, length, refl, sym, subst, inl, inr, Option, Some, None, is_some}
use Rattle.spec_exchange.specs.Status.{user_session_deleted, invalid_parameter, object_name_invalid}
use Rattle.spec_exchange.specs.Texts.{begins_with_backslash, is_path}
use Rattle.spec_exchange.specs.Commands.{Command, Unreadable, Aside, Setup, Logoff, TreeConnect, TreeDisconnect, Create, Close}
use Rattle.spec_exchange.specs.Commands.{Flush, Read, Write, Lock, Ioctl, ListDirectory, QueryFile, QueryVolume, SetInfo}
use Rattle.spec_exchange.specs.Commands.{Setting, SetBasic, Rename, SetDelete, SetAllocation, SetEnd, CreateRequest, Reconnect}
use Rattle.spec_exchange.specs.Commands.{SetPosition, SetMode}
use Rattle.spec_exchange.specs.Commands.{asks_directory, asks_file, form, path_form, made_form, create_form, is_setup}
use Rattle.spec_exchange.specs.Commands.{has_bit}
use Rattle.spec_exchange.specs.State.{Server, Message, ServerEvent, Accept, Heard, End, Stop, Record, Answer}
use Rattle.spec_exchange.specs.State.{EpochRecord, VersionRecord, CreateRecord, WriteRecord, EndRecord, BasicRecord, DeleteRecord}
use Rattle.spec_exchange.specs.State.{RenameRecord, RemoveRecord, LockRecord, CloseRecord, ExpireRecord}
use Rattle.spec_exchange.specs.Check.{check, owed, formed, has_session}
use Rattle.spec_exchange.specs.Verdict.{Refuse}
use Rattle.spec_exchange.specs.Records.{origin_at}
use Rattle.spec_exchange.specs.Fold.{fold, recovery_records}
use Rattle.spec_exchange.specs.Step.{step, with_deadlines, max_connections, Ruling, Says, TakesIn, TurnsAway, TakesOut, TakesAllOut}
use Rattle.spec_exchange.specs.Step.{ruling, ruling_without_room, carried_out, connection_of, ends_with, take_out, take_all_out}
use Rattle.law_server.specs.tables.Fits.{Fits}
use Rattle.law_server.proofs.tables.Logic.{either}
use Rattle.law_server.proofs.tables.Doors.{by_ruling, recorded, Front, Rules}
use Rattle.law_server.proofs.tables.Checked.{checked}
use Rattle.law_server.proofs.tables.Stepped.{front_fits}
use Rattle.law_replies.specs.fields.Rows.{RowsFit}
use Rattle.law_replies.proofs.fields.Changes.{Keeps, by_effect, ended_if, expired}
use Rattle.law_replies.proofs.fields.Written.{AllFit, FitsRecord, fit_more, fit_named, fit_expired, fit_all_out}
use Rattle.law_replies.proofs.fields.Written.{records_by, fit_opening, fold_fits}
use Rattle.law_replies.proofs.fields.Verdicts.{AsksFit, SetsFit, keeps, keeps_full}
use Rattle.law_replies.specs.any_state.Kept.{IsTyped, IsTypedEvent, IsTypedSetting, RecordFits, RecordsFit, RowsKept}
use Rattle.law_replies.specs.any_state.Kept.{RowsKeptAlone, RowsKeptBehind}
use Rattle.law_replies.proofs.any_state.Leaves.{leaf_of_text}
use Rattle.spec_world.specs.Lacking.{alone_records}

-- ---- records

in_record : (r : Record) → RecordFits r → FitsRecord r
in_record (EpochRecord number) h = tt
in_record (VersionRecord number) h = tt
in_record (CreateRecord origin action file path attributes is_dir time None) h = h
in_record (CreateRecord origin action file path attributes is_dir time (Some n)) h = h
in_record (WriteRecord origin file at time bytes) h = h
in_record (EndRecord origin file size time) h = h
in_record (BasicRecord origin file basic) h = h
in_record (DeleteRecord origin file flag) h = tt
in_record (RenameRecord origin file replaced path) h = h
in_record (RemoveRecord origin file) h = tt
in_record (LockRecord origin o index number status elements) h = tt
in_record (CloseRecord origin o) h = tt
in_record (ExpireRecord origin o) h = tt

out_record : (r : Record) → FitsRecord r → RecordFits r
out_record (EpochRecord number) h = tt
out_record (VersionRecord number) h = tt
out_record (CreateRecord origin action file path attributes is_dir time None) h = h
out_record (CreateRecord origin action file path attributes is_dir time (Some n)) h = h
out_record (WriteRecord origin file at time bytes) h = h
out_record (EndRecord origin file size time) h = h
out_record (BasicRecord origin file basic) h = h
out_record (DeleteRecord origin file flag) h = tt
out_record (RenameRecord origin file replaced path) h = h
out_record (RemoveRecord origin file) h = tt
out_record (LockRecord origin o index number status elements) h = tt
out_record (CloseRecord origin o) h = tt
out_record (ExpireRecord origin o) h = tt

in_all : (rs : List Record) → RecordsFit rs → AllFit rs
in_all [] h = tt
in_all (r ∷ rs) h = (in_record r h.0, in_all rs h.1)

out_all : (rs : List Record) → AllFit rs → RecordsFit rs
out_all [] h = tt
out_all (r ∷ rs) h = (out_record r h.0, out_all rs h.1)

records_more : (xs ys : List Record) → RecordsFit xs → AllFit ys → RecordsFit (xs ++ ys)
records_more xs ys a b = out_all (xs ++ ys) (fit_more xs ys (in_all xs a) b)

-- ---- a request that keeps its form asks what fits

first_kept : (b : Bool) (x : ℕ) (u : Option ℕ) → (if b then Some x else u) ≡ None → u ≡ None
first_kept true x u e = absurd cc
first_kept false x u e = e

then_kept : (b : Bool) (x : ℕ) → (if b then None else Some x) ≡ None → b ≡ true
then_kept true x e = refl
then_kept false x e = absurd cc

path_kept : (path : List ℕ) → path_form path ≡ None → is_path path ≡ true
unfolding path_form
path_kept path e =
    then_kept (is_path path) object_name_invalid (first_kept (begins_with_backslash path) invalid_parameter
    (if is_path path then None else Some object_name_invalid) e)

made_kept : (r : CreateRequest) → r.reconnect ≡ None → create_form r ≡ None → made_form r ≡ None
made_kept r new e =
    subst (λ (u : Option Reconnect). (if is_some u then (if is_some r.durable then Some invalid_parameter else None) else made_form r)
    ≡ None) new e

create_kept : (r : CreateRequest) → made_form r ≡ None → is_path r.path ≡ true
create_kept r e =
    path_kept r.path (first_kept (asks_directory r && has_bit r.attributes 0x100) invalid_parameter (path_form r.path)
    (first_kept (asks_directory r && asks_file r) invalid_parameter
    (if asks_directory r && has_bit r.attributes 0x100 then Some invalid_parameter else path_form r.path)
    (first_kept (nat_lt 5 r.disposition) invalid_parameter
    (if asks_directory r && asks_file r then Some invalid_parameter
    else if asks_directory r && has_bit r.attributes 0x100 then Some invalid_parameter
    else path_form r.path) e)))

sets_fit : (setting : Setting) → IsTypedSetting setting → form (SetInfo 0 setting) ≡ None → SetsFit setting
sets_fit (SetBasic basic) t e = t
sets_fit (Rename replace path) t e = leaf_of_text path t (path_kept path e)
sets_fit (SetDelete flag) t e = tt
sets_fit (SetAllocation size) t e = tt
sets_fit (SetEnd size) t e = tt
sets_fit (SetPosition position) t e = tt
sets_fit SetMode t e = tt

asks_fit : (c : Command) → IsTyped c → form c ≡ None → AsksFit c
asks_fit (Create r) t e = (λ new. leaf_of_text r.path t.0 (create_kept r (made_kept r new e)), t.1)
asks_fit (SetInfo file setting) t e = sets_fit setting t e
asks_fit (Unreadable status) t e = tt
asks_fit (Aside status) t e = tt
asks_fit (Setup request) t e = tt
asks_fit Logoff t e = tt
asks_fit (TreeConnect share) t e = tt
asks_fit TreeDisconnect t e = tt
asks_fit (Close file query) t e = tt
asks_fit (Flush file) t e = tt
asks_fit (Read file at size minimum channel) t e = tt
asks_fit (Write file at bytes channel) t e = tt
asks_fit (Lock file index number elements) t e = tt
asks_fit (Ioctl file code room) t e = tt
asks_fit (ListDirectory file class restart single pattern room) t e = tt
asks_fit (QueryFile file class room) t e = tt
asks_fit (QueryVolume file class room) t e = tt

-- and one that doesn't is refused
check_keeps : (t : Server) (m : Message) → Fits t → RowsFit t → IsTyped m.command → Keeps t (check t m)
check_keeps t m i h g = by (form m.command) refl
  where
    faulty : (status : ℕ) → form m.command ≡ Some status → (u : Option ℕ) → Keeps t (owed t m u)
    faulty status e (Some other) = tt
    faulty status e None = subst (λ (u : Option ℕ). Keeps t (formed t m u)) (sym e) tt

    by : (u : Option ℕ) → form m.command ≡ u → Keeps t (check t m)
    by None e = keeps t m (check t m) i h (asks_fit m.command g e) (checked t m)
    by (Some status) e =
        either (λ v. Keeps t v) (is_setup m.command || has_session t m) (owed t m m.fault) (Refuse user_session_deleted)
        (λ _. faulty status e m.fault) (λ _. tt)

-- ---- a step of the server

record FitAnswer (A : Answer) : Type 0 where
  server : RowsFit A.server
  records : AllFit A.records

taken_out : (s : Server) (k now : ℕ) (q : Bool) → RowsFit s → RowsFit (take_out s k now q)
taken_out s k now q h = ended_if s now (ends_with s k) q h

all_out : (s : Server) (ks : List ℕ) (now : ℕ) (q : Bool) → RowsFit s → RowsFit (take_all_out s ks now q)
unfolding take_all_out
all_out s [] now q h = h
all_out s (k ∷ ks) now q h = all_out (take_out s k now q) ks now q (taken_out s k now q h)

abbrev RulingKeeps : Server → Ruling → Type 0
RulingKeeps s (Says m v) = Keeps s v
RulingKeeps s (TakesIn k) = Unit {0}
RulingKeeps s TurnsAway = Unit {0}
RulingKeeps s (TakesOut k is_quiet) = Unit {0}
RulingKeeps s (TakesAllOut is_quiet) = Unit {0}

carries : (t : Server) (now : ℕ) (r : Ruling) → now < 256 ^ 8 → RulingKeeps t r → RowsFit t → FitAnswer (carried_out t now r)
carries t now (Says m v) n e h = record { server = by_effect t m now v n e h; records = records_by t m now v n e h }
carries t now (TakesIn k) n e h = record { server = h; records = tt }
carries t now TurnsAway n e h = record { server = h; records = tt }
carries t now (TakesOut k q) n e h = record { server = taken_out t k now q h; records = fit_named t (origin_at k) (ends_with t k) q }
carries t now (TakesAllOut q) n e h = record { server = all_out t t.connections now q h; records = fit_all_out t t.connections now q }

ruled : (t : Server) (e : ServerEvent) → Fits t → IsTypedEvent e → RowsFit t → RulingKeeps t (ruling t e)
ruled t (Accept k) i g h =
    either (λ (r : Ruling). RulingKeeps t r) (nat_le max_connections (length t.connections)) TurnsAway (TakesIn k) (λ _. tt) (λ _. tt)
ruled t (Heard m) i g h = check_keeps t m i h g
ruled t (End k) i g h = tt
ruled t Stop i g h = tt

ruled_full : (t : Server) (r : Ruling) → RulingKeeps t (ruling_without_room r)
ruled_full t (Says m v) = keeps_full t v
ruled_full t (TakesIn k) = tt
ruled_full t TurnsAway = tt
ruled_full t (TakesOut k q) = tt
ruled_full t (TakesAllOut q) = tt

step_fits : (s : Server) (now : ℕ) (e : ServerEvent) → now < 256 ^ 8 → Fits s → IsTypedEvent e → RowsFit s → FitAnswer (step s now e)
step_fits s now e n i g h = by_ruling FitAnswer s now e (λ t front r at rules. whole t front r at (rule t front at r rules))
  where
    server : (t : Server) (front : List Record) → Front s now e t front → RowsFit t
    server t front (inl q) = subst RowsFit (sym q.0) h
    server t front (inr q) = subst RowsFit (sym q.2) (expired (with_deadlines s now) q.0 h)

    told : (t : Server) (front : List Record) → Front s now e t front → AllFit front
    told t front (inl q) = subst AllFit (sym q.1) tt
    told t front (inr q) = subst AllFit (sym q.3) (fit_expired (with_deadlines s now) (origin_at (connection_of e)) q.0)

    by : (t : Server) → Fits t → RowsFit t → (r : Ruling) → Rules t e r → RulingKeeps t r
    by t j u r (inl q) = subst (λ (x : Ruling). RulingKeeps t x) (sym q) (ruled t e j g u)
    by t j u r (inr q) = subst (λ (x : Ruling). RulingKeeps t x) (sym q) (ruled_full t (ruling t e))

    rule : (t : Server) (front : List Record) → Front s now e t front → (r : Ruling) → Rules t e r → RulingKeeps t r
    rule t front at r rules = let f = front_fits s now e t front at i in by t f.0 (server t front at) r rules

    whole : (t : Server) (front : List Record) (r : Ruling) → Front s now e t front → RulingKeeps t r
        → FitAnswer (recorded (carried_out t now r) (front ++ (carried_out t now r).records))
    whole t front r at rule = let c = carries t now r n rule (server t front at) in record {
      server = c.server;
      records = fit_more front (carried_out t now r).records (told t front at) c.records;
    }

-- ---- the law

pub rows_kept : RowsKept
rows_kept s now e records n i g h all =
    let f = step_fits s now e n i g h in (f.server, records_more records (step s now e).records all f.records)

pub rows_kept_alone : RowsKeptAlone
rows_kept_alone s now e t o records x h all = (
  subst RowsFit (sym x.behind) (expired (with_deadlines s now) o h),
  records_more records (alone_records s now e o) all (fit_expired (with_deadlines s now) (origin_at (connection_of e)) o),
)

pub rows_kept_behind : RowsKeptBehind
rows_kept_behind z bytes records room all =
    let more = fit_more records (recovery_records records) (in_all records all) (fit_opening (fold records)) in
    let f = fold_fits (records ++ recovery_records records) more in (
      record { places = f.places; next = f.next; basics = f.basics; sizes = f.sizes; opens = f.opens; within = room },
      out_all (records ++ recovery_records records) more,
    )
