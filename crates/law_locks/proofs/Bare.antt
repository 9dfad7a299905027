-- An answer that owes no record leaves the files as they are; one that owes ends alone lets files go.
use Rattle.std.proofs.lemmas.Bool.{eqb-false}
use Rattle.std.proofs.Common.{eqb-true, ◌≡◌, ◌≢◌, ℕ, ◌==◌, Bool, true, false, not, ◌&&◌, if◌then◌else◌, List, [], ◌∷◌, ◌++◌}
use Rattle.std.proofs.Common.{Option, Some, None, is_some, refl, arith, sym, ◌∙◌, ap, subst}
use Rattle.std.proofs.lemmas.Bool.Decides.{nat_tests}
use Rattle.spec_exchange.specs.Table.{put, has, placed_in}
use Rattle.spec_exchange.specs.Commands.{TreeDisconnect, CreateRequest, deletes_on_close, asks_directory}
use Rattle.spec_exchange.specs.State.{Server, Message, Open, Record, Origin, CreateRecord, DeleteRecord, RemoveRecord, CloseRecord, Kept}
use Rattle.spec_exchange.specs.Files.{set_delete_pending, remove_file}
use Rattle.spec_exchange.specs.Opens.{goes, drop_open, leave_open, pending_behind, leave_records, pending_records, shut_records, gone_records, granted, is_kept_back, without_gone, left_file_records}
use Rattle.spec_exchange.specs.CheckCreate.{empties, action_on_found}
use Rattle.spec_exchange.specs.CheckOpen.{is_late, is_slot, file_of}
use Rattle.spec_exchange.specs.Records.{origin_of}
use Rattle.spec_exchange.specs.Effects.{apply, reach, attached, keep_closed, keep_slot, set_ranges, change_file}
use Rattle.spec_exchange.specs.Effects.{change_records, create_records, make_open, file_made, is_persistent, next_open}
use Rattle.spec_exchange.specs.Effects.{open_row, new_file, end_session, end_if_named, files_behind, leave_all}
use Rattle.spec_exchange.specs.Effects.{leave_all_records, end_records, records_if_named, plain_of, leaves, new_open}
use Rattle.spec_exchange.specs.Effects.{final_attributes}
use Rattle.spec_exchange.specs.Verdict.{Verdict, Refuse, Give, KeepRefusal, Repeat, Attach, Make, TurnDown, Tell, Show}
use Rattle.spec_exchange.specs.Verdict.{KeepSlot, PutRanges, Alter, CloseOpen, Challenge, ChallengeBinding, Begin, Join}
use Rattle.spec_exchange.specs.Verdict.{EndSession, AddTree, DropTree, Change, PutBytes, PutEnd, PutBasic}
use Rattle.spec_exchange.specs.Verdict.{PutDeletePending, PutPath, PutNothing}
use Rattle.spec_exchange.specs.Step.{expire, add_expired_guid}
use Rattle.law_server.proofs.tables.Logic.{either, both, front_of, back_of}
use Rattle.law_server.proofs.tables.Lists.{has-placed, has-without, has-staying}
use Rattle.law_server.proofs.tables.Found.{Facts, MakeFacts}
use Rattle.law_locks.proofs.Calm.{Steady, Calm, steady_same, steady_on, calm_of, calm_on, is_end, all_ends}

steady_self : (t : Server) → Steady t t
steady_self t = steady_same t t refl refl refl refl refl

steady_if : (t : Server) (b : Bool) (x y : Server) → (b ≡ true → Steady t x) → (b ≡ false → Steady t y) → Steady t (if b then x else y)
steady_if t b x y f g = either (λ u. Steady t u) b x y f g

-- ---- an open that leaves

no_front : (xs ys : List Record) → xs ++ ys ≡ [] → xs ≡ []
no_front [] ys e = refl
no_front (x ∷ xs) ys e = absurd (cc)

no_back : (xs ys : List Record) → xs ++ ys ≡ [] → ys ≡ []
no_back [] ys e = e
no_back (x ∷ xs) ys e = absurd (cc)

plain_if : (s : Server) (origin : Origin) (o : ℕ) → shut_records s origin o ≡ [] → (s.opened o).persistent ≡ false
unfolding shut_records
plain_if s origin o e = of_bool (s.opened o).persistent e
  where
    of_bool : (b : Bool) → (if b then CloseRecord origin o ∷ [] else []) ≡ [] → b ≡ false
    of_bool true e = absurd (cc)
    of_bool false e = refl

pending_if : (s : Server) (origin : Origin) (o : ℕ) → pending_records s origin o ≡ [] → (s.opened o).persistent ≡ false
    → deletes_on_close (s.opened o).options ≡ true → s.delete_pending (s.opened o).file ≡ true
unfolding pending_records
pending_if s origin o e p d = of_bools (s.opened o).persistent (deletes_on_close (s.opened o).options)
    (s.delete_pending (s.opened o).file) e p d
  where
    of_bools : (a b c : Bool) → (if not a && (b && not c) then DeleteRecord origin (s.opened o).file true ∷ [] else [])
        ≡ [] → a ≡ false → b ≡ true → c ≡ true
    of_bools false true true e p d = refl
    of_bools false true false e p d = absurd (cc)
    of_bools false false c e p d = absurd (cc)
    of_bools true b c e p d = absurd (cc)

stays_if : (s : Server) (origin : Origin) (f : ℕ) → left_file_records s origin f ≡ [] → is_kept_back s f ≡ false × goes s f ≡ false
unfolding left_file_records gone_records
stays_if s origin f e = of_bools (is_kept_back s f) (goes s f) e
  where
    of_bools : (k b : Bool) → (if k then DeleteRecord origin f false ∷ [] else (if b then RemoveRecord origin f ∷ [] else [])) ≡ []
        → k ≡ false × b ≡ false
    of_bools true b e = absurd (cc)
    of_bools false true e = absurd (cc)
    of_bools false false e = (refl, refl)

set_pending_steady : (s : Server) (f : ℕ) → s.delete_pending f ≡ true → Steady s (set_delete_pending s f true)
set_pending_steady s f m = record { entries = refl; delete_pending = λ g. grind arith; directory = λ g. refl; others = λ p g h k l. (h, k) }

drop_steady : (s : Server) (o : ℕ) → Steady s (drop_open s o)
drop_steady s o = record {
  entries = refl;
  delete_pending = λ g. refl;
  directory = λ g. refl;
  others = λ p g h k l. (let w = has-without p o s.opens in grind arith, k);
}

pending_steady : (s : Server) (o : ℕ) → (deletes_on_close (s.opened o).options ≡ true
    → s.delete_pending (s.opened o).file ≡ true) → Steady s (pending_behind s o)
pending_steady s o m = steady_if s (deletes_on_close (s.opened o).options) _ _
    (λ d. set_pending_steady s (s.opened o).file (m d)) (λ _. steady_self s)

-- where its file neither goes nor is kept back
left_steady : (s : Server) (o : ℕ) → (deletes_on_close (s.opened o).options ≡ true → s.delete_pending (s.opened o).file ≡ true)
    → is_kept_back (drop_open (pending_behind s o) o) (s.opened o).file ≡ false
    → goes (drop_open (pending_behind s o) o) (s.opened o).file ≡ false → Steady s (leave_open s o)
left_steady s o m k g =
    let w = drop_open (pending_behind s o) o in
    either (λ u. Steady s u) (is_kept_back w (s.opened o).file) _ _ (λ t. absurd (off (is_kept_back w (s.opened o).file) k t))
    (λ _. either (λ u. Steady s u) (goes w (s.opened o).file) _ _ (λ t. absurd (off (goes w (s.opened o).file) g t))
    (λ _. steady_on s (pending_behind s o) w (pending_steady s o m) (drop_steady (pending_behind s o) o)))
  where
    off : (b : Bool) → b ≡ false → b ≡ true → ⊥
    off b e f = cc

pub leave_steady : (s : Server) (origin : Origin) (o : ℕ) → leave_records s origin o ≡ [] → Steady s (leave_open s o)
unfolding leave_records
leave_steady s origin o e =
    let b = no_back (pending_records s origin o) _ e in
    let p = plain_if s origin o (no_front (shut_records s origin o) _ b) in
    let x = stays_if (drop_open (pending_behind s o) o) origin (s.opened o).file (no_back (shut_records s origin o) _ b) in
    left_steady s o (pending_if s origin o (no_front (pending_records s origin o) _ e) p) x.0 x.1

-- an open that expires so, and doesn't delete on close
guid_steady : (t s : Server) (client : ℕ) (g : Option ℕ) → Steady t s → Steady t (add_expired_guid s client g)
guid_steady t s client None st = st
guid_steady t s client (Some g) st = record {
  entries = st.entries;
  delete_pending = st.delete_pending;
  directory = st.directory;
  others = st.others;
}

pub expire_steady : (s : Server) (o : ℕ) → deletes_on_close (s.opened o).options ≡ false
    → is_kept_back (drop_open (pending_behind s o) o) (s.opened o).file ≡ false
    → goes (drop_open (pending_behind s o) o) (s.opened o).file ≡ false → Steady s (expire s o)
expire_steady s o d k g = guid_steady s (leave_open s o) (s.opened o).client_guid (s.opened o).create_guid
    (left_steady s o (λ e. absurd (off (deletes_on_close (s.opened o).options) d e)) k g)
  where
    off : (b : Bool) → b ≡ false → b ≡ true → ⊥
    off b e f = cc

leave_all_steady : (s : Server) (origin : Origin) (os : List ℕ) → leave_all_records s origin os ≡ [] → Steady s (leave_all s os)
unfolding leave_all_records leave_all
leave_all_steady s origin [] e = steady_self s
leave_all_steady s origin (o ∷ os) e =
    steady_on s (leave_open s o) _ (leave_steady s origin o (no_front (leave_records s origin o) _ e))
    (leave_all_steady (leave_open s o) origin os (no_back (leave_records s origin o) _ e))

-- ---- a session that ends

behind_steady : (s : Server) (origin : Origin) (session : ℕ) (quiet : Bool) → end_records s origin session quiet ≡ []
    → Steady s (files_behind s session quiet)
unfolding end_records
behind_steady s origin session true e = steady_self s
behind_steady s origin session false e = leave_all_steady s origin (plain_of s session) e

pub end_steady : (s : Server) (origin : Origin) (session now : ℕ) (quiet : Bool) → end_records s origin session quiet
    ≡ [] → Steady s (end_session s session now quiet)
end_steady s origin session now quiet e =
    let b = behind_steady s origin session quiet e in
    record {
      entries = b.entries;
      delete_pending = b.delete_pending;
      directory = λ f. refl;
      others = λ p f h k l. (let w = has-staying s session p s.opens in front_of (has p s.opens) (not (leaves s session p)) (sym w ∙ h), k);
    }

pub named_steady : (s : Server) (origin : Origin) (now : ℕ) (named : Option ℕ) (quiet : Bool)
    → records_if_named s origin named quiet ≡ [] → Steady s (end_if_named s now named quiet)
named_steady s origin now None quiet e = steady_self s
named_steady s origin now (Some session) quiet e = end_steady s origin session now quiet e

-- ---- the verdicts

reach_steady : (t : Server) (m : Message) (o : ℕ) → Steady t (reach t m o)
reach_steady t m o = steady_if t (is_late t m o) _ _ (λ _. steady_self t) (λ _. steady_same t _ refl refl refl refl refl)

slot_steady : (t s : Server) (o index number status : ℕ) → Steady t s → Steady t (keep_slot s o index number status)
slot_steady t s o index number status st =
    steady_if t (is_slot index) _ _ (λ _. record {
      entries = st.entries;
      delete_pending = st.delete_pending;
      directory = st.directory;
      others = st.others;
    }) (λ _. st)

attached_steady : (t : Server) (m : Message) (o : ℕ) → Steady t (attached t m o)
attached_steady t m o = steady_if t (is_some (t.session_of_open o)) _ _ (λ _. steady_self t) (λ _. steady_same t _ refl refl refl refl refl)

closed_steady : (t s : Server) (x : ℕ) (q : Option ℕ) → Steady t s → Steady t (keep_closed s x q)
closed_steady t s x None st = st
closed_steady t s x (Some g) st = record {
  entries = st.entries;
  delete_pending = st.delete_pending;
  directory = st.directory;
  others = st.others;
}

change_steady : (t s : Server) (m : Message) (f now : ℕ) (change : Change) → Steady t s → change_records m f now change
    ≡ [] → Steady t (change_file s f now change)
unfolding change_records
change_steady t s m f now (PutBytes at bytes) st e = absurd (cc)
change_steady t s m f now (PutEnd size) st e = absurd (cc)
change_steady t s m f now (PutBasic basic) st e = absurd (cc)
change_steady t s m f now (PutDeletePending flag) st e = absurd (cc)
change_steady t s m f now (PutPath replaced path) st e = absurd (cc)
change_steady t s m f now PutNothing st e = st

opened_there : (s : Server) (m : Message) (r : CreateRequest) (found : Option ℕ) (action now : ℕ)
    → create_records s m r found action now ≡ [] → action ≡ 1
unfolding create_records
opened_there s m r found action now e = of_bool (action == 1) (is_persistent r.durable) (λ h. eqb-true action 1 h) e
  where
    of_bool : (a p : Bool) → (a ≡ true → action ≡ 1)
        → (if a && not p then [] else CreateRecord (origin_of m) action (new_file s found) r.path
        (final_attributes s r found) (asks_directory r) now
        (new_open s m r (granted s (new_file s found) r.access) r.durable) ∷ []) ≡ [] → action ≡ 1
    of_bool true p h e = h refl
    of_bool false p h e = absurd (cc)

no_emptying : (d : ℕ) → action_on_found d ≡ 1 → empties d ≡ false
no_emptying d e = grind (arith, nat_tests)

new_steady : (t : Server) (o f : ℕ) (row : Open) (by : ℕ → ℕ → Option ℕ) (slots : ℕ → ℕ → Option Kept) (u : Server)
    → row.file ≡ f → t.delete_pending f ≡ false
    → u.entries ≡ t.entries → u.delete_pending ≡ t.delete_pending → u.directory ≡ t.directory → u.opens
    ≡ placed_in o t.opens → u.opened ≡ put t.opened o row → Steady t u
new_steady t o f row by slots u file not_pending e m d os op =
    record {
      entries = e;
      delete_pending = λ g. ap (λ z. z g) m;
      directory = λ g. ap (λ z. z g) d;
      others = λ p g h k l. other p g (sym (has-placed p o t.opens) ∙ subst (λ z. has p z ≡ true) os h)
          (subst (λ z. (z p).file ≡ g) op k) l;
    }
  where
    other : (p g : ℕ) → (if o == p then true else has p t.opens) ≡ true → (put t.opened o row p).file ≡ g
        → t.delete_pending g ≡ true → has p t.opens ≡ true × (t.opened p).file ≡ g
    other p g h k l = elim (p == o) as (λ b. p == o ≡ b → has p t.opens ≡ true × (t.opened p).file ≡ g) [
      | true ↦ λ q. let same : p ≡ o = eqb-true p o q in absurd (grind arith)
      | false ↦ λ q. let apart = eqb-false p o q in (grind arith, grind arith)
    ] refl

made_steady : (t : Server) (m : Message) (r : CreateRequest) (found : Option ℕ) (action now : ℕ)
    → MakeFacts t m r found action → create_records t m r found action now ≡ []
    → Steady t (make_open t m r found action now)
made_steady t m r None action now f e = let one = opened_there t m r None action now e in let two = f.action_is in absurd (grind arith)
made_steady t m r (Some g) action now f e =
    let one = opened_there t m r (Some g) action now e in
    let off = no_emptying r.disposition (sym f.action_is ∙ one) in
    let th = f.there g refl in
    by_kind (empties r.disposition) refl off th.not_pending
  where
    by_kind : (b : Bool) → empties r.disposition ≡ b → empties r.disposition ≡ false → t.delete_pending g ≡ false
        → Steady t (make_open t m r (Some g) action now)
    by_kind true e off un = absurd (grind arith)
    by_kind false e off un =
        let same : file_made t r (Some g) now ≡ t = rw e refl in
        new_steady t (next_open t) g (open_row t m r g action) t.by_guid t.lock_sequences (make_open t m r (Some g) action now) refl un
        (ap (λ s. s.entries) same) (ap (λ s. s.delete_pending) same) (ap (λ s. s.directory) same)
        (ap (λ s. placed_in (next_open t) s.opens) same)
        (ap (λ s. put s.opened (next_open t) (open_row t m r g action)) same)

pub bare_steady : (t : Server) (m : Message) (now : ℕ) (v : Verdict) → m.command ≢ TreeDisconnect → Facts t m v → (apply t m now v).records ≡ []
    → Steady t (apply t m now v).server
bare_steady t m now (Refuse status) kept f e = steady_self t
bare_steady t m now (Give body) kept f e = steady_self t
bare_steady t m now (KeepRefusal guid status) kept f e = steady_same t _ refl refl refl refl refl
bare_steady t m now (Repeat o r) kept f e = attached_steady t m o
bare_steady t m now (Attach o r) kept f e = attached_steady t m o
bare_steady t m now (Make r found action) kept f e = made_steady t m r found action now f e
bare_steady t m now (TurnDown o status) kept f e = reach_steady t m o
bare_steady t m now (Tell o body) kept f e = reach_steady t m o
bare_steady t m now (Show o last body) kept f e = let st = reach_steady t m o in record {
  entries = st.entries;
  delete_pending = st.delete_pending;
  directory = st.directory;
  others = st.others;
}
bare_steady t m now (KeepSlot o index number status elements) kept f e = slot_steady t (reach t m o) o index number status (reach_steady t m o)
bare_steady t m now (PutRanges o index number ranges elements) kept f e =
    let st = reach_steady t m o in slot_steady t (set_ranges (reach t m o) (file_of t o) ranges) o index number 0
    (record {
      entries = st.entries;
      delete_pending = st.delete_pending;
      directory = st.directory;
      others = st.others;
    })
bare_steady t m now (Alter o change body) kept f e = change_steady t (reach t m o) m (file_of t o) now change (reach_steady t m o) e
bare_steady t m now (CloseOpen o body) kept f e = closed_steady t (leave_open t o) m.session_id (t.opened o).create_guid
    (leave_steady t (origin_of m) o e)
bare_steady t m now Challenge kept f e = steady_same t _ refl refl refl refl refl
bare_steady t m now (ChallengeBinding session) kept f e = steady_same t _ refl refl refl refl refl
bare_steady t m now (Begin session user previous r is_quiet) kept f e =
    let st = named_steady t (origin_of m) now previous is_quiet e in record {
      entries = st.entries;
      delete_pending = st.delete_pending;
      directory = st.directory;
      others = st.others;
    }
bare_steady t m now (Join session) kept f e = steady_same t _ refl refl refl refl refl
bare_steady t m now (EndSession session is_quiet) kept f e = end_steady t (origin_of m) session now is_quiet e
bare_steady t m now (AddTree pipes) kept f e = steady_same t _ refl refl refl refl refl
bare_steady t m now DropTree kept f e = absurd (kept f.command)

-- ---- one that owes ends alone lets files go, and unmarks none

ends_front : (xs ys : List Record) → all_ends (xs ++ ys) ≡ true → all_ends xs ≡ true
unfolding all_ends
ends_front [] ys e = refl
ends_front (x ∷ xs) ys e = both (is_end x) (all_ends xs) (front_of (is_end x) (all_ends (xs ++ ys)) e)
    (ends_front xs ys (back_of (is_end x) (all_ends (xs ++ ys)) e))

ends_back : (xs ys : List Record) → all_ends (xs ++ ys) ≡ true → all_ends ys ≡ true
unfolding all_ends
ends_back [] ys e = e
ends_back (x ∷ xs) ys e = ends_back xs ys (back_of (is_end x) (all_ends (xs ++ ys)) e)

calm_self : (t : Server) → Calm t t
calm_self t = calm_of t t (steady_self t)

unkept : (s : Server) (origin : Origin) (f : ℕ) → all_ends (left_file_records s origin f) ≡ true → is_kept_back s f ≡ false
unfolding left_file_records all_ends is_end
unkept s origin f e = of_bool (is_kept_back s f) e
  where
    of_bool : (k : Bool) → all_ends (if k then DeleteRecord origin f false ∷ [] else gone_records s origin f) ≡ true → k ≡ false
    of_bool true e = absurd (cc)
    of_bool false e = refl

pending_calm : (s : Server) (o : ℕ) → Calm s (pending_behind s o)
pending_calm s o = either (λ u. Calm s u) (deletes_on_close (s.opened o).options) (set_delete_pending s (s.opened o).file true) s
    (λ _. record { delete_pending = λ f e. grind arith; others = λ p f h k l. (h, k) }) (λ _. calm_self s)

gone_calm : (s : Server) (f : ℕ) → Calm s (without_gone s f)
gone_calm s f = either (λ u. Calm s u) (goes s f) (remove_file s f) s
    (λ _. record { delete_pending = λ g e. e; others = λ p g h k l. (h, k) }) (λ _. calm_self s)

leave_calm : (s : Server) (origin : Origin) (o : ℕ) → all_ends (leave_records s origin o) ≡ true → Calm s (leave_open s o)
unfolding leave_records
leave_calm s origin o e =
    let w = drop_open (pending_behind s o) o in
    let k = unkept w origin (s.opened o).file (ends_back (shut_records s origin o) _ (ends_back (pending_records s origin o) _ e)) in
    either (λ u. Calm s u) (is_kept_back w (s.opened o).file) _ _ (λ t. absurd (off (is_kept_back w (s.opened o).file) k t))
    (λ _. calm_on s (pending_behind s o) (without_gone w (s.opened o).file) (pending_calm s o)
    (calm_on (pending_behind s o) w (without_gone w (s.opened o).file)
    (calm_of (pending_behind s o) w (drop_steady (pending_behind s o) o)) (gone_calm w (s.opened o).file)))
  where
    off : (b : Bool) → b ≡ false → b ≡ true → ⊥
    off b e f = cc

leave_all_calm : (s : Server) (origin : Origin) (os : List ℕ) → all_ends (leave_all_records s origin os) ≡ true → Calm s (leave_all s os)
unfolding leave_all_records leave_all
leave_all_calm s origin [] e = calm_self s
leave_all_calm s origin (o ∷ os) e =
    calm_on s (leave_open s o) _ (leave_calm s origin o (ends_front (leave_records s origin o) _ e))
    (leave_all_calm (leave_open s o) origin os (ends_back (leave_records s origin o) _ e))

behind_calm : (s : Server) (origin : Origin) (session : ℕ) (quiet : Bool) → all_ends (end_records s origin session quiet) ≡ true
    → Calm s (files_behind s session quiet)
unfolding end_records
behind_calm s origin session true e = calm_self s
behind_calm s origin session false e = leave_all_calm s origin (plain_of s session) e

end_calm : (s : Server) (origin : Origin) (session now : ℕ) (quiet : Bool) → all_ends (end_records s origin session quiet)
    ≡ true → Calm s (end_session s session now quiet)
end_calm s origin session now quiet e =
    let b = behind_calm s origin session quiet e in
    record {
      delete_pending = b.delete_pending;
      others = λ p f h k l. (let w = has-staying s session p s.opens in front_of (has p s.opens) (not (leaves s session p)) (sym w ∙ h), k);
    }

pub named_calm : (s : Server) (origin : Origin) (now : ℕ) (named : Option ℕ) (quiet : Bool)
    → all_ends (records_if_named s origin named quiet) ≡ true → Calm s (end_if_named s now named quiet)
named_calm s origin now None quiet e = calm_self s
named_calm s origin now (Some session) quiet e = end_calm s origin session now quiet e

-- ---- the verdicts

-- a file that is made, a lock and a change owe other records
create_bare : (s : Server) (m : Message) (r : CreateRequest) (found : Option ℕ) (action now : ℕ)
    → all_ends (create_records s m r found action now) ≡ true → create_records s m r found action now ≡ []
unfolding create_records all_ends is_end
create_bare s m r found action now e = of_bool ((action == 1) && not (is_persistent r.durable)) e
  where
    of_bool : (b : Bool) → all_ends (if b then [] else CreateRecord (origin_of m) action (new_file s found) r.path
        (final_attributes s r found) (asks_directory r) now
        (new_open s m r (granted s (new_file s found) r.access) r.durable) ∷ []) ≡ true
        → (if b then [] else CreateRecord (origin_of m) action (new_file s found) r.path
        (final_attributes s r found) (asks_directory r) now
        (new_open s m r (granted s (new_file s found) r.access) r.durable) ∷ []) ≡ []
    of_bool true e = refl
    of_bool false e = absurd (cc)

change_bare : (m : Message) (f now : ℕ) (change : Change) → all_ends (change_records m f now change) ≡ true
    → change_records m f now change ≡ []
unfolding change_records all_ends is_end
change_bare m f now (PutBytes at bytes) e = absurd (cc)
change_bare m f now (PutEnd size) e = absurd (cc)
change_bare m f now (PutBasic basic) e = absurd (cc)
change_bare m f now (PutDeletePending flag) e = absurd (cc)
change_bare m f now (PutPath replaced path) e = absurd (cc)
change_bare m f now PutNothing e = refl

pub ends_calm : (t : Server) (m : Message) (now : ℕ) (v : Verdict) → m.command ≢ TreeDisconnect → Facts t m v
    → all_ends (apply t m now v).records ≡ true → Calm t (apply t m now v).server
ends_calm t m now (Refuse status) kept f e = calm_self t
ends_calm t m now (Give body) kept f e = calm_self t
ends_calm t m now (KeepRefusal guid status) kept f e = calm_of t _ (bare_steady t m now (KeepRefusal guid status) kept f refl)
ends_calm t m now (Repeat o r) kept f e = calm_of t _ (bare_steady t m now (Repeat o r) kept f refl)
ends_calm t m now (Attach o r) kept f e = calm_of t _ (bare_steady t m now (Attach o r) kept f refl)
ends_calm t m now (Make r found action) kept f e = calm_of t _ (bare_steady t m now (Make r found action) kept f
    (create_bare t m r found action now e))
ends_calm t m now (TurnDown o status) kept f e = calm_of t _ (bare_steady t m now (TurnDown o status) kept f refl)
ends_calm t m now (Tell o body) kept f e = calm_of t _ (bare_steady t m now (Tell o body) kept f refl)
ends_calm t m now (Show o last body) kept f e = calm_of t _ (bare_steady t m now (Show o last body) kept f refl)
ends_calm t m now (KeepSlot o index number status elements) kept f e =
    let st = slot_steady t (reach t m o) o index number status (reach_steady t m o) in calm_of t _ st
ends_calm t m now (PutRanges o index number ranges elements) kept f e =
    let st = reach_steady t m o in
    calm_of t _ (slot_steady t (set_ranges (reach t m o) (file_of t o) ranges) o index number 0
    (record {
      entries = st.entries;
      delete_pending = st.delete_pending;
      directory = st.directory;
      others = st.others;
    }))
ends_calm t m now (Alter o change body) kept f e = calm_of t _ (change_steady t (reach t m o) m (file_of t o) now change (reach_steady t m o)
    (change_bare m (file_of t o) now change e))
ends_calm t m now (CloseOpen o body) kept f e =
    closed_calm (leave_open t o) (t.opened o).create_guid (leave_calm t (origin_of m) o e)
  where
    closed_calm : (s : Server) (q : Option ℕ) → Calm t s → Calm t (keep_closed s m.session_id q)
    closed_calm s None c = c
    closed_calm s (Some g) c = record { delete_pending = c.delete_pending; others = c.others }
ends_calm t m now Challenge kept f e = calm_of t _ (bare_steady t m now Challenge kept f refl)
ends_calm t m now (ChallengeBinding session) kept f e = calm_of t _ (bare_steady t m now (ChallengeBinding session) kept f refl)
ends_calm t m now (Begin session user previous r is_quiet) kept f e =
    let c = named_calm t (origin_of m) now previous is_quiet e in record { delete_pending = c.delete_pending; others = c.others }
ends_calm t m now (Join session) kept f e = calm_of t _ (bare_steady t m now (Join session) kept f refl)
ends_calm t m now (EndSession session is_quiet) kept f e = end_calm t (origin_of m) session now is_quiet e
ends_calm t m now (AddTree pipes) kept f e = calm_of t _ (bare_steady t m now (AddTree pipes) kept f refl)
ends_calm t m now DropTree kept f e = absurd (kept f.command)
