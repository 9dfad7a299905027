-- What the server's effects do to sessions, opens and slots, as far as locks go.
use Rattle.std.proofs.Common.{eqb-true, ◌≡◌, ◌≢◌, ◌⊎◌, inl, ℕ, ◌+◌, ◌==◌, ◌≤◌, ◌<◌, Bool, true, false, not, ◌&&◌}
use Rattle.std.proofs.Common.{if◌then◌else◌, Option, Some, None, refl, arith, sym, ◌∙◌, ap, subst}
use Rattle.spec_exchange.specs.Table.{put, is_at}
use Rattle.spec_exchange.specs.Commands.{CreateRequest, deletes_on_close}
use Rattle.spec_exchange.specs.State.{Server, Message, Open, Kept}
use Rattle.spec_exchange.specs.Files.{set_delete_pending}
use Rattle.spec_exchange.specs.Opens.{id_of, drop_open, leave_open, pending_behind, goes, is_kept_back, with_guid}
use Rattle.spec_exchange.specs.CheckCreate.{empties}
use Rattle.spec_exchange.specs.CheckOpen.{is_late}
use Rattle.spec_exchange.specs.Effects.{reach, keep_closed, change_file, make_open, open_row, new_file, next_open}
use Rattle.spec_exchange.specs.Effects.{guid_of, end_session, guid_staying, leaves, cleared}
use Rattle.spec_exchange.specs.Verdict.{Change, PutBytes, PutEnd, PutBasic, PutDeletePending, PutPath, PutNothing}
use Rattle.spec_exchange.specs.Step.{expire, add_expired_guid}
use Rattle.law_server.proofs.tables.Logic.{either}

pub record View : Type 0 where
  pub present : ℕ → Bool
  pub standing : ℕ → Bool
  pub session_of_open : ℕ → Option ℕ
  pub lock_sequences : ℕ → ℕ → Option Kept
  pub opened : ℕ → Open
  pub by_guid : ℕ → ℕ → Option ℕ
  pub last : ℕ  -- the last id of an open that was given
  pub journal : ℕ

abbrev pub view : Server → View
view s = record {
  present = s.present;
  standing = s.standing;
  session_of_open = s.session_of_open;
  lock_sequences = s.lock_sequences;
  opened = s.opened;
  by_guid = s.by_guid;
  last = id_of s.epoch s.open_ids_given;
  journal = s.journal;
}

-- ---- what no answer does, but that to a lock or a close
-- begins: the sessions that are in the making on its connection; closes: the opens that it closes
pub record Quiet (begins closes : ℕ → Bool) (v u : View) : Type 0 where
  pub present : (x : ℕ) → u.present x ≡ true → v.present x ≡ false → begins x ≡ true
  pub standing : (o : ℕ) → o ≤ v.last → u.standing o ≡ true → v.standing o ≡ true
  pub session_of_open : (o y : ℕ) → o ≤ v.last → v.session_of_open o ≡ Some y → u.standing o ≡ true → u.present y ≡ true
      → u.session_of_open o ≡ Some y
  pub lock_sequences : (o i : ℕ) → o ≤ v.last → u.lock_sequences o i ≡ v.lock_sequences o i
  pub opened : (o : ℕ) → o ≤ v.last → u.opened o ≡ v.opened o
  pub named : (c g o i : ℕ) → u.by_guid c g ≡ Some o → (v.by_guid c g ≡ Some o) ⊎ (u.lock_sequences o i ≡ None)
  pub lasts : (o y : ℕ) → closes o ≡ false → v.standing o ≡ true → v.session_of_open o ≡ Some y → u.present y ≡ true → u.standing o ≡ true
  pub journal : v.journal ≤ u.journal

pub stays : (begins closes : ℕ → Bool) (v : View) → Quiet begins closes v v
stays begins closes v =
    record {
      present = λ x h n. absurd (grind arith);
      standing = λ o l h. h;
      session_of_open = λ o y l h st p. h;
      lock_sequences = λ o i l. refl;
      opened = λ o l. refl;
      named = λ c g o i h. inl h;
      lasts = λ o y c st h p. st;
      journal = grind arith;
    }

pub same : (begins closes : ℕ → Bool) (v u : View) → u ≡ v → Quiet begins closes v u
same begins closes v u e = subst (λ z. Quiet begins closes v z) (sym e) (stays begins closes v)

-- an open without a session is attached
pub attaches : (begins closes : ℕ → Bool) (v : View) (o0 x0 : ℕ) → v.session_of_open o0 ≡ None
    → Quiet begins closes v (record v { session_of_open = put v.session_of_open o0 (Some x0) })
attaches begins closes v o0 x0 none =
    record {
      present = λ x h n. absurd (grind arith);
      standing = λ o l h. h;
      session_of_open = λ o y l h st p. grind arith;
      lock_sequences = λ o i l. refl;
      opened = λ o l. refl;
      named = λ c g o i h. inl h;
      lasts = λ o y c st h p. st;
      journal = grind arith;
    }

-- a new open
abbrev pub made_view : View → ℕ → Open → ℕ → (ℕ → ℕ → Option ℕ) → View
made_view v o row x by = record v {
  standing = put v.standing o true;
  opened = put v.opened o row;
  session_of_open = put v.session_of_open o (Some x);
  lock_sequences = put v.lock_sequences o (λ i. None);
  by_guid = by;
  last = o;
}

pub makes : (begins closes : ℕ → Bool) (v : View) (o0 x0 : ℕ) (row : Open) (by : ℕ → ℕ → Option ℕ) → v.last < o0
    → ((c g o : ℕ) → by c g ≡ Some o → (v.by_guid c g ≡ Some o) ⊎ (o ≡ o0))
    → Quiet begins closes v (made_view v o0 row x0 by)
makes begins closes v o0 x0 row by above new =
    record {
      present = λ x h n. absurd (grind arith);
      standing = λ o l h. other_stood o l h;
      session_of_open = λ o y l h st p. let d = apart o l in grind arith;
      lock_sequences = λ o i l. let d = apart o l in grind arith;
      opened = λ o l. let d = apart o l in grind arith;
      named = λ c g o i h. by_new c g o i h;
      lasts = λ o y c st h p. grind arith;
      journal = grind arith;
    }
  where
    apart : (o : ℕ) → o ≤ v.last → o ≢ o0
    apart o l = λ e. absurd (omega (arith, e))

    other_stood : (o : ℕ) → o ≤ v.last → put v.standing o0 true o ≡ true → v.standing o ≡ true
    other_stood o l h = let d = apart o l in grind arith

    by_new : (c g o i : ℕ) → by c g ≡ Some o → (v.by_guid c g ≡ Some o) ⊎ (put v.lock_sequences o0 (λ i. None) o i ≡ None)
    by_new c g o i h = let n = new c g o h in grind arith

-- an open leaves
abbrev pub left_view : View → ℕ → (ℕ → ℕ → Option ℕ) → View
left_view v o by = record v { standing = put v.standing o false; session_of_open = put v.session_of_open o None; by_guid = by }

pub leaves_by : (begins closes : ℕ → Bool) (v : View) (o0 : ℕ) (by : ℕ → ℕ → Option ℕ)
    → ((o y : ℕ) → closes o ≡ false → v.session_of_open o ≡ Some y → o ≢ o0)
    → ((c g o : ℕ) → by c g ≡ Some o → v.by_guid c g ≡ Some o) → Quiet begins closes v (left_view v o0 by)
leaves_by begins closes v o0 by which old =
    record {
      present = λ x h n. absurd (grind arith);
      standing = λ o l h. grind arith;
      session_of_open = λ o y l h st p. grind arith;
      lock_sequences = λ o i l. refl;
      opened = λ o l. refl;
      named = λ c g o i h. inl (old c g o h);
      lasts = λ o y c st h p. let d = which o y c h in grind arith;
      journal = grind arith;
    }

-- a session ends
abbrev pub ended_view : View → ℕ → (ℕ → Bool) → (ℕ → ℕ → Option ℕ) → View
ended_view v x gone by = record v {
  present = put v.present x false;
  standing = λ o. v.standing o && not (gone o);
  session_of_open = λ o. cleared x (v.session_of_open o);
  by_guid = by;
}

pub ends : (begins closes : ℕ → Bool) (v : View) (x0 : ℕ) (gone : ℕ → Bool) (by : ℕ → ℕ → Option ℕ)
    → ((o : ℕ) → gone o ≡ true → v.session_of_open o ≡ Some x0) → ((c g o : ℕ) → by c g ≡ Some o → v.by_guid c g
    ≡ Some o) → Quiet begins closes v (ended_view v x0 gone by)
ends begins closes v x0 gone by its old =
    record {
      present = λ x h n. absurd (grind arith);
      standing = λ o l h. grind arith;
      session_of_open = λ o y l h st p. kept_at_it o y (v.session_of_open o) h p;
      lock_sequences = λ o i l. refl;
      opened = λ o l. refl;
      named = λ c g o i h. inl (old c g o h);
      lasts = λ o y c st h p. let i1 = its o in let d = apart y p in grind arith;
      journal = grind arith;
    }
  where
    apart : (y : ℕ) → put v.present x0 false y ≡ true → y ≢ x0
    apart y p = λ e. absurd (grind arith)

    kept_at_it : (o y : ℕ) (w : Option ℕ) → w ≡ Some y → put v.present x0 false y ≡ true → cleared x0 w ≡ Some y
    kept_at_it o y w e p = let d = apart y p in grind arith

-- a session begins
pub begins_one : (begins closes : ℕ → Bool) (v : View) (x0 : ℕ) → begins x0 ≡ true → Quiet begins closes v (record v {
  present = put v.present x0 true;
})
begins_one begins closes v x0 may =
    record {
      present = λ x h n. grind arith;
      standing = λ o l h. h;
      session_of_open = λ o y l h st p. h;
      lock_sequences = λ o i l. refl;
      opened = λ o l. refl;
      named = λ c g o i h. inl h;
      lasts = λ o y c st h p. st;
      journal = grind arith;
    }

-- the journal grows
pub grows : (begins closes : ℕ → Bool) (v u : View) (n : ℕ) → Quiet begins closes v u
    → Quiet begins closes v (record u { journal = u.journal + n })
grows begins closes v u n q =
    record {
      present = q.present;
      standing = q.standing;
      session_of_open = q.session_of_open;
      lock_sequences = q.lock_sequences;
      opened = q.opened;
      named = q.named;
      lasts = q.lasts;
      journal = let l = q.journal in grind arith;
    }

-- ---- the effects

pub reach_view : (s : Server) (m : Message) (o : ℕ) → view (reach s m o) ≡ view s
reach_view s m o = either (λ u. view u ≡ view s) (is_late s m o) _ _ (λ _. refl) (λ _. refl)

pub change_view : (s : Server) (f now : ℕ) (change : Change) → view (change_file s f now change) ≡ view s
change_view s f now (PutBytes at bytes) = refl
change_view s f now (PutEnd size) = refl
change_view s f now (PutBasic basic) = refl
change_view s f now (PutDeletePending flag) = refl
change_view s f now (PutPath replaced path) = refl
change_view s f now PutNothing = refl

abbrev pub without_guid : Server → ℕ → ℕ → ℕ → Option ℕ
without_guid s o = with_guid s.by_guid (s.opened o).client_guid (s.opened o).create_guid None

drop_view : (s : Server) (o : ℕ) (b : Bool)
    → view (drop_open (if b then set_delete_pending s (s.opened o).file true else s) o)
    ≡ left_view (view s) o (without_guid s o)
drop_view s o true = refl
drop_view s o false = refl

pub leave_view : (s : Server) (o : ℕ) → view (leave_open s o) ≡ left_view (view s) o (without_guid s o)
leave_view s o =
    let d = drop_open (pending_behind s o) o in
    either (λ u. view u ≡ left_view (view s) o (without_guid s o)) (is_kept_back d (s.opened o).file) _ _
    (λ _. drop_view s o (deletes_on_close (s.opened o).options))
    (λ _. either (λ u. view u ≡ left_view (view s) o (without_guid s o)) (goes d (s.opened o).file) _ _
    (λ _. drop_view s o (deletes_on_close (s.opened o).options))
    (λ _. drop_view s o (deletes_on_close (s.opened o).options)))

closed_view : (s : Server) (x : ℕ) (q : Option ℕ) → view (keep_closed s x q) ≡ view s
closed_view s x None = refl
closed_view s x (Some g) = refl

pub shut_view : (s : Server) (o x : ℕ) → view (keep_closed (leave_open s o) x (s.opened o).create_guid)
    ≡ left_view (view s) o (without_guid s o)
shut_view s o x = closed_view (leave_open s o) x (s.opened o).create_guid ∙ leave_view s o

expired_view : (s : Server) (client : ℕ) (q : Option ℕ) → view (add_expired_guid s client q) ≡ view s
expired_view s client None = refl
expired_view s client (Some g) = refl

pub expire_view : (s : Server) (o : ℕ) → view (expire s o) ≡ left_view (view s) o (without_guid s o)
expire_view s o = expired_view (leave_open s o) (s.opened o).client_guid (s.opened o).create_guid ∙ leave_view s o

pub still_named : (by : ℕ → ℕ → Option ℕ) (client : ℕ) (u : Option ℕ) (c g o : ℕ) → with_guid by client u None c g
    ≡ Some o → by c g ≡ Some o
still_named by client None c g o e = e
still_named by client (Some h) c g o e = grind arith

pub newly_named : (by : ℕ → ℕ → Option ℕ) (client o0 : ℕ) (u : Option ℕ) (c g o : ℕ) → with_guid by client u (Some o0) c
    g ≡ Some o → (by c g ≡ Some o) ⊎ (o ≡ o0)
newly_named by client o0 None c g o e = inl e
newly_named by client o0 (Some h) c g o e = grind arith

pub end_view : (s : Server) (x now : ℕ) (quiet : Bool) → view (end_session s x now quiet)
    ≡ ended_view (view s) x (λ o. leaves s x o) (λ c g. guid_staying s x (s.by_guid c g))
end_view s x now quiet = refl

pub staying_named : (s : Server) (x : ℕ) (u : Option ℕ) (o : ℕ) → guid_staying s x u ≡ Some o → u ≡ Some o
staying_named s x None o e = absurd (cc)
staying_named s x (Some p) o e = grind arith

pub its_session : (s : Server) (x o : ℕ) → leaves s x o ≡ true → s.session_of_open o ≡ Some x
its_session s x o e = of_at (s.session_of_open o) (s.opened o).persistent e
  where
    of_at : (u : Option ℕ) (b : Bool) → (is_at x u && not b) ≡ true → u ≡ Some x
    of_at None b e = absurd (cc)
    of_at (Some y) b e = let t : (y == x) ≡ true = grind arith in ap (λ z. Some z) (eqb-true y x t)

pub end_quiet : (begins closes : ℕ → Bool) (s : Server) (x now : ℕ) (quiet : Bool) → Quiet begins closes (view s)
    (view (end_session s x now quiet))
end_quiet begins closes s x now quiet = ends begins closes (view s) x (λ o. leaves s x o)
    (λ c g. guid_staying s x (s.by_guid c g)) (its_session s x) (λ c g o e. staying_named s x (s.by_guid c g) o e)

pub make_view : (s : Server) (m : Message) (r : CreateRequest) (found : Option ℕ) (action now : ℕ)
    → view (make_open s m r found action now) ≡ made_view (view s) (next_open s)
    (open_row s m r (new_file s found) action) m.session_id (with_guid s.by_guid m.client_guid (guid_of r.durable)
    (Some (next_open s)))
make_view s m r None action now = refl
make_view s m r (Some f) action now = by_kind (empties r.disposition) refl
  where
    by_kind : (b : Bool) → empties r.disposition ≡ b → view (make_open s m r (Some f) action now)
        ≡ made_view (view s) (next_open s) (open_row s m r f action) m.session_id
        (with_guid s.by_guid m.client_guid (guid_of r.durable) (Some (next_open s)))
    by_kind true e = rw e refl
    by_kind false e = rw e refl
