-- What the server does keeps every pair that reached an open: while the open stands and the pair's session is there, the
-- open is attached in that session, at this sequence or a newer one.
use Rattle.spec_exchange.specs.Effects.{leave_all, keep_all_closed, close_all, opens_of_tree, drop_tree}
use Rattle.law_server.proofs.tables.Closing.{closed_beside, closed_fewer, left_beside, left_fewer}
use Rattle.std.proofs.lemmas.Bool.Decides.{nat_tests}
use Rattle.std.proofs.Common.{◌≡◌, ◌≢◌, ℕ, ◌≤◌, nat_lt, Bool, true, false, not, ◌&&◌, List, [], ◌∷◌, refl, arith, sym, ◌∙◌, ap}
use Rattle.std.proofs.Common.{Option, Some, None, is_some}
use Rattle.spec_exchange.specs.Table.{put}
use Rattle.spec_exchange.specs.Commands.{CreateRequest, SetupRequest, deletes_on_close}
use Rattle.spec_exchange.specs.State.{Server, Message, Making}
use Rattle.spec_exchange.specs.Files.{set_delete_pending, remove_file}
use Rattle.spec_exchange.specs.Opens.{drop_open, pending_behind, leave_open, without_gone, is_kept_back, left_file, goes, with_guid}
use Rattle.spec_exchange.specs.CheckCreate.{empties}
use Rattle.spec_exchange.specs.CheckOpen.{is_stale, is_late, is_slot}
use Rattle.spec_exchange.specs.CheckSetup.{is_new}
use Rattle.spec_exchange.specs.Effects.{reach, attach, attached, keep_slot, keep_closed, file_made, change_file}
use Rattle.spec_exchange.specs.Effects.{end_session, end_if_named, add_session, leaves, cleared, guid_staying}
use Rattle.spec_exchange.specs.Verdict.{Change, PutBytes, PutEnd, PutBasic, PutDeletePending, PutPath, PutNothing}
use Rattle.spec_exchange.specs.Step.{with_deadlines, expire, add_expired_guid, take_out, forget_connection, ends_with}
use Rattle.law_server.proofs.tables.Logic.{either, front_of, none_of}
use Rattle.law_order.specs.order.Newest.{Pair, LowSequences}

-- the columns that a pair speaks of are the same
pub record Alike (s t : Server) : Type 0 where
  pub standing : t.standing ≡ s.standing
  pub present : t.present ≡ s.present
  pub session_of_open : t.session_of_open ≡ s.session_of_open
  pub sequence : t.sequence ≡ s.sequence
  pub epoch : t.epoch ≡ s.epoch
  pub open_ids_given : t.open_ids_given ≡ s.open_ids_given
  pub making : t.making ≡ s.making
  pub by_guid : t.by_guid ≡ s.by_guid
  pub opened : t.opened ≡ s.opened

pub same : (s : Server) → Alike s s
same s = record {
  standing = refl;
  present = refl;
  session_of_open = refl;
  sequence = refl;
  epoch = refl;
  open_ids_given = refl;
  making = refl;
  by_guid = refl;
  opened = refl;
}

-- from one state to the next each pair is kept, ids only grow, and sequences stay low
pub record Moves (s t : Server) : Type 0 where
  pub pair : (session sequence o : ℕ) → Pair s session sequence o → Pair t session sequence o
  pub stands : (o : ℕ) → t.standing o ≡ true → s.standing o ≡ true
  pub epoch : t.epoch ≡ s.epoch
  pub given : t.open_ids_given ≡ s.open_ids_given
  pub low : LowSequences s → LowSequences t
  pub making : (x k : ℕ) → is_new x (s.making k) ≡ false → is_new x (t.making k) ≡ false
  pub guid : (c g o : ℕ) → t.by_guid c g ≡ Some o → s.by_guid c g ≡ Some o
  pub there : (x : ℕ) → t.present x ≡ true → s.present x ≡ true
  pub row : t.opened ≡ s.opened

pub moves_alike : (s t : Server) → Alike s t → Moves s t
moves_alike s t a =
    let st = a.standing in let pr = a.present in let at = a.session_of_open in let sq = a.sequence in let mk =
    a.making in let bg = a.by_guid in
    record {
      pair = λ x q o p. grind arith;
      stands = λ o. grind arith;
      epoch = a.epoch;
      given = a.open_ids_given;
      low = λ l o. let old = l o in grind arith;
      making = λ x k. grind arith;
      guid = λ c g o. grind arith;
      there = λ x. grind arith;
      row = a.opened;
    }

pub moves_on : (s t u : Server) → Moves s t → Moves t u → Moves s u
moves_on s t u a b =
    record {
      pair = λ x q o p. b.pair x q o (a.pair x q o p);
      stands = λ o h. a.stands o (b.stands o h);
      epoch = b.epoch ∙ a.epoch;
      given = b.given ∙ a.given;
      low = λ l. b.low (a.low l);
      making = λ x k h. b.making x k (a.making x k h);
      guid = λ c g o h. a.guid c g o (b.guid c g o h);
      there = λ x h. a.there x (b.there x h);
      row = b.row ∙ a.row;
    }

guid_dropped : (by : ℕ → ℕ → Option ℕ) (client : ℕ) (guid : Option ℕ) (c g o : ℕ) → with_guid by client guid None c g
    ≡ Some o → by c g ≡ Some o
guid_dropped by client None c g o e = e
guid_dropped by client (Some h) c g o e = grind arith

-- an open leaves
drop_moves : (s : Server) (o : ℕ) → Moves s (drop_open s o)
drop_moves s o =
    record {
      pair = λ x q p h. grind arith;
      stands = λ p. grind arith;
      epoch = refl;
      given = refl;
      low = λ l. l;
      making = λ x k h. h;
      guid = λ c g p h. guid_dropped s.by_guid (s.opened o).client_guid (s.opened o).create_guid c g p h;
      there = λ x h. h;
      row = refl;
    }

pub pending_alike : (s : Server) (o : ℕ) → Alike s (pending_behind s o)
pending_alike s o = either (Alike s) (deletes_on_close (s.opened o).options)
    (set_delete_pending s (s.opened o).file true) s (λ _. record {
      standing = refl;
      present = refl;
      session_of_open = refl;
      sequence = refl;
      epoch = refl;
      open_ids_given = refl;
      making = refl;
      by_guid = refl;
      opened = refl;
    }) (λ _. same s)

pub gone_alike : (s : Server) (f : ℕ) → Alike s (without_gone s f)
gone_alike s f = either (Alike s) (goes s f) (remove_file s f) s (λ _. record {
  standing = refl;
  present = refl;
  session_of_open = refl;
  sequence = refl;
  epoch = refl;
  open_ids_given = refl;
  making = refl;
  by_guid = refl;
  opened = refl;
}) (λ _. same s)

pub settled_alike : (s : Server) (f : ℕ) → Alike s (left_file s f)
settled_alike s f = either (Alike s) (is_kept_back s f) (set_delete_pending s f false) (without_gone s f) (λ _. record {
  standing = refl;
  present = refl;
  session_of_open = refl;
  sequence = refl;
  epoch = refl;
  open_ids_given = refl;
  making = refl;
  by_guid = refl;
  opened = refl;
}) (λ _. gone_alike s f)

pub leave_moves : (s : Server) (o : ℕ) → Moves s (leave_open s o)
leave_moves s o =
    moves_on s (pending_behind s o) (leave_open s o) (moves_alike s (pending_behind s o) (pending_alike s o))
    (moves_on (pending_behind s o) (drop_open (pending_behind s o) o) (leave_open s o)
    (drop_moves (pending_behind s o) o)
    (moves_alike _ _ (settled_alike (drop_open (pending_behind s o) o) (s.opened o).file)))

pub expired_alike : (s : Server) (client : ℕ) (guid : Option ℕ) → Alike s (add_expired_guid s client guid)
expired_alike s client None = same s
expired_alike s client (Some g) = record {
  standing = refl;
  present = refl;
  session_of_open = refl;
  sequence = refl;
  epoch = refl;
  open_ids_given = refl;
  making = refl;
  by_guid = refl;
  opened = refl;
}

pub expire_moves : (s : Server) (o : ℕ) → Moves s (expire s o)
expire_moves s o = moves_on s (leave_open s o) (expire s o) (leave_moves s o)
    (moves_alike _ _ (expired_alike (leave_open s o) (s.opened o).client_guid (s.opened o).create_guid))

closed_alike : (s : Server) (session : ℕ) (guid : Option ℕ) → Alike s (keep_closed s session guid)
closed_alike s session None = same s
closed_alike s session (Some g) = record {
  standing = refl;
  present = refl;
  session_of_open = refl;
  sequence = refl;
  epoch = refl;
  open_ids_given = refl;
  making = refl;
  by_guid = refl;
  opened = refl;
}

pub shut_moves : (s : Server) (o session : ℕ) (guid : Option ℕ) → Moves s (keep_closed (leave_open s o) session guid)
shut_moves s o session guid = moves_on s (leave_open s o) _ (leave_moves s o) (moves_alike _ _ (closed_alike (leave_open s o) session guid))

-- ---- sequences

pub stale_less : (a b : ℕ) → a ≤ 32767 → b ≤ 32767 → is_stale a b ≡ nat_lt a b
stale_less a b l m = grind (arith, nat_tests)

reached_pair : (s : Server) (n p : ℕ) → s.sequence p ≤ n → (x q o : ℕ) → Pair s x q o → Pair (record s {
  sequence = put s.sequence p n;
}) x q o
reached_pair s n p l x q o h = λ st pr. let old = h st pr in (old.0, grind arith)

reached_low : (s : Server) (n p : ℕ) → n ≤ 32767 → LowSequences s → LowSequences (record s { sequence = put s.sequence p n })
reached_low s n p l low = λ o. let old = low o in grind arith

not_less : (a b : ℕ) (t : Bool) → t ≡ nat_lt a b → t ≡ false → b ≤ a
not_less a b t e f = grind (arith, nat_tests)

pub in_time : (s : Server) (m : Message) (o : ℕ) → LowSequences s → m.channel_sequence ≤ 32767 → is_late s m o ≡ false
    → s.sequence o ≤ m.channel_sequence
in_time s m o low l e = not_less m.channel_sequence (s.sequence o) (is_late s m o)
    (stale_less m.channel_sequence (s.sequence o) l (low o)) e

pub reach_moves : (s : Server) (m : Message) (o : ℕ) → LowSequences s → m.channel_sequence ≤ 32767 → Moves s (reach s m o)
reach_moves s m o low l =
    either (Moves s) (is_late s m o) s (record s { sequence = put s.sequence o m.channel_sequence }) (λ _. moves_alike s s (same s))
    (λ e. record {
      pair = reached_pair s m.channel_sequence o (in_time s m o low l e);
      stands = λ p h. h;
      epoch = refl;
      given = refl;
      low = reached_low s m.channel_sequence o l;
      making = λ x k h. h;
      guid = λ c g p h. h;
      there = λ x h. h;
      row = refl;
    })

attach_pair : (s : Server) (m : Message) (p : ℕ) → s.session_of_open p ≡ None → (x q o : ℕ) → Pair s x q o → Pair (attach s m p) x q o
attach_pair s m p e x q o h = λ st pr. let old = h st pr in (grind arith, grind arith)

pub attached_moves : (s : Server) (m : Message) (o : ℕ) → m.channel_sequence ≤ 32767 → Moves s (attached s m o)
attached_moves s m o l =
    either (Moves s) (is_some (s.session_of_open o)) s (attach s m o) (λ _. moves_alike s s (same s))
    (λ e. record {
      pair = attach_pair s m o (none_of (s.session_of_open o) e);
      stands = λ p h. h;
      epoch = refl;
      given = refl;
      low = λ low p. let old = low p in grind arith;
      making = λ x k h. h;
      guid = λ c g p h. h;
      there = λ x h. h;
      row = refl;
    })

-- ---- what touches no pair

pub slot_alike : (s : Server) (o index number status : ℕ) → Alike s (keep_slot s o index number status)
slot_alike s o index number status = either (Alike s) (is_slot index) _ _ (λ _. record {
  standing = refl;
  present = refl;
  session_of_open = refl;
  sequence = refl;
  epoch = refl;
  open_ids_given = refl;
  making = refl;
  by_guid = refl;
  opened = refl;
}) (λ _. same s)

pub change_alike : (s : Server) (f now : ℕ) (change : Change) → Alike s (change_file s f now change)
change_alike s f now (PutBytes at bytes) = record {
  standing = refl;
  present = refl;
  session_of_open = refl;
  sequence = refl;
  epoch = refl;
  open_ids_given = refl;
  making = refl;
  by_guid = refl;
  opened = refl;
}
change_alike s f now (PutEnd size) = record {
  standing = refl;
  present = refl;
  session_of_open = refl;
  sequence = refl;
  epoch = refl;
  open_ids_given = refl;
  making = refl;
  by_guid = refl;
  opened = refl;
}
change_alike s f now (PutBasic basic) = record {
  standing = refl;
  present = refl;
  session_of_open = refl;
  sequence = refl;
  epoch = refl;
  open_ids_given = refl;
  making = refl;
  by_guid = refl;
  opened = refl;
}
change_alike s f now (PutDeletePending flag) = record {
  standing = refl;
  present = refl;
  session_of_open = refl;
  sequence = refl;
  epoch = refl;
  open_ids_given = refl;
  making = refl;
  by_guid = refl;
  opened = refl;
}
change_alike s f now (PutPath replaced path) = record {
  standing = refl;
  present = refl;
  session_of_open = refl;
  sequence = refl;
  epoch = refl;
  open_ids_given = refl;
  making = refl;
  by_guid = refl;
  opened = refl;
}
change_alike s f now PutNothing = same s

pub file_alike : (s : Server) (r : CreateRequest) (found : Option ℕ) (now : ℕ) → Alike s (file_made s r found now)
file_alike s r None now = record {
  standing = refl;
  present = refl;
  session_of_open = refl;
  sequence = refl;
  epoch = refl;
  open_ids_given = refl;
  making = refl;
  by_guid = refl;
  opened = refl;
}
file_alike s r (Some f) now = either (Alike s) (empties r.disposition) _ _ (λ _. record {
  standing = refl;
  present = refl;
  session_of_open = refl;
  sequence = refl;
  epoch = refl;
  open_ids_given = refl;
  making = refl;
  by_guid = refl;
  opened = refl;
}) (λ _. same s)

-- ---- sessions

ended_pair : (s : Server) (session now : ℕ) (is_quiet : Bool) (x q o : ℕ) → Pair s x q o → Pair (end_session s session now is_quiet) x q o
ended_pair s session now is_quiet x q o h = λ st pr. let a = ended_stands st in let b = ended_present pr in let old =
    h a b.1 in (cleared_other (s.session_of_open o) old.0 b.0, old.1)
  where
    ended_stands : (s.standing o && not (leaves s session o)) ≡ true → s.standing o ≡ true
    ended_stands e = grind arith

    ended_present : put s.present session false x ≡ true → (x ≢ session) × (s.present x ≡ true)
    ended_present e = (grind arith, grind arith)

    cleared_other : (a : Option ℕ) → a ≡ Some x → x ≢ session → cleared session a ≡ Some x
    cleared_other a e n = grind arith

staying_guid : (s : Server) (session : ℕ) (a : Option ℕ) (o : ℕ) → guid_staying s session a ≡ Some o → a ≡ Some o
staying_guid s session None o e = e
staying_guid s session (Some p) o e = grind arith

pub end_moves : (s : Server) (session now : ℕ) (is_quiet : Bool) → Moves s (end_session s session now is_quiet)
end_moves s session now is_quiet =
    record {
      pair = ended_pair s session now is_quiet;
      stands = λ o h. front_of (s.standing o) _ h;
      epoch = refl;
      given = refl;
      low = λ l. l;
      making = λ x k h. h;
      guid = λ c g o h. staying_guid s session (s.by_guid c g) o h;
      there = λ x h. ended_present s.present session x h;
      row = refl;
    }
  where
    ended_present : (f : ℕ → Bool) (session x : ℕ) → put f session false x ≡ true → f x ≡ true
    ended_present f session x e = grind arith

pub end_named_moves : (s : Server) (now : ℕ) (session : Option ℕ) (is_quiet : Bool) → Moves s (end_if_named s now session is_quiet)
end_named_moves s now None is_quiet = moves_alike s s (same s)
end_named_moves s now (Some session) is_quiet = end_moves s session now is_quiet

-- a new session, of which no pair is
pub begun_pair : (s : Server) (m : Message) (user : List ℕ) (r : SetupRequest) (x q o : ℕ) → x ≢ m.session_id
    → Pair s x q o → Pair (add_session s m user r) x q o
begun_pair s m user r x q o n h = λ st pr. h st (other_present pr)
  where
    other_present : put s.present m.session_id true x ≡ true → s.present x ≡ true
    other_present e = grind arith

-- a connection ends
pub take_out_moves : (s : Server) (k now : ℕ) (is_quiet : Bool) → Moves s (take_out s k now is_quiet)
take_out_moves s k now is_quiet =
    let t = end_if_named s now (ends_with s k) is_quiet in
    moves_on s t (forget_connection t k) (end_named_moves s now (ends_with s k) is_quiet)
    (record {
      pair = λ x q o h. h;
      stands = λ o h. h;
      epoch = refl;
      given = refl;
      low = λ l. l;
      making = λ x j h. forgotten t.making k x j h;
      guid = λ c g o h. h;
      there = λ x h. h;
      row = refl;
    })
  where
    forgotten : (f : ℕ → Option Making) (k x j : ℕ) → is_new x (f j) ≡ false → is_new x (put f k None j) ≡ false
    forgotten f k x j h = grind arith

pub deadlines_moves : (s : Server) (now : ℕ) → Moves s (with_deadlines s now)
deadlines_moves s now = moves_alike s (with_deadlines s now) (record {
  standing = refl;
  present = refl;
  session_of_open = refl;
  sequence = refl;
  epoch = refl;
  open_ids_given = refl;
  making = refl;
  by_guid = refl;
  opened = refl;
})

-- it has left
pub shut_left : (s : Server) (o session : ℕ) (guid : Option ℕ) → (keep_closed (leave_open s o) session guid).standing o ≡ false
shut_left s o session guid =
    let a = closed_alike (leave_open s o) session guid in let b = settled_alike (drop_open (pending_behind s o) o) (s.opened o).file in
    ap (λ f. f o) a.standing ∙ (ap (λ f. f o) b.standing ∙ put_self (pending_behind s o).standing o)
  where
    put_self : (f : ℕ → Bool) (p : ℕ) → put f p false p ≡ false
    put_self f p = grind arith

-- ---- where no message comes to an open: no open is attached and no sequence rises

pub record Still (s t : Server) : Type 0 where
  pub session_of_open : (o x : ℕ) → t.session_of_open o ≡ Some x → s.session_of_open o ≡ Some x
  pub sequence : (o : ℕ) → t.sequence o ≤ s.sequence o

pub still_same : (s : Server) → Still s s
still_same s = record { session_of_open = λ o x e. e; sequence = λ o. omega arith }

pub still_on : (s t u : Server) → Still s t → Still t u → Still s u
still_on s t u a b = record {
  session_of_open = λ o x e. a.session_of_open o x (b.session_of_open o x e);
  sequence = λ o. let l = a.sequence o in let m = b.sequence o in omega (arith, l, m);
}

-- the columns are the same
pub still_alike : (s t : Server) → t.session_of_open ≡ s.session_of_open → t.sequence ≡ s.sequence → Still s t
still_alike s t a q = record {
  session_of_open = λ o x e. ap (λ f. f o) (sym a) ∙ e;
  sequence = λ o. let l = ap (λ f. f o) q in omega (arith, l);
}

pub still_leave : (s : Server) (o : ℕ) → Still s (leave_open s o)
still_leave s o = record {
  session_of_open = (left_fewer s o).session_of_open;
  sequence = λ p. let l = ap (λ (f : ℕ → ℕ). f p) (left_beside s o).sequence in omega (arith, l);
}

still_expired : (s : Server) (client : ℕ) (guid : Option ℕ) → Still s (add_expired_guid s client guid)
still_expired s client None = still_same s
still_expired s client (Some g) = still_alike s _ refl refl

pub still_expire : (s : Server) (o : ℕ) → Still s (expire s o)
still_expire s o = still_on s (leave_open s o) (expire s o) (still_leave s o)
    (still_expired (leave_open s o) (s.opened o).client_guid (s.opened o).create_guid)

pub still_shut : (s : Server) (o session : ℕ) (guid : Option ℕ) → Still s (keep_closed (leave_open s o) session guid)
still_shut s o session None = still_leave s o
still_shut s o session (Some g) = still_on s (leave_open s o) _ (still_leave s o) (still_alike (leave_open s o) _ refl refl)

pub still_end : (s : Server) (session now : ℕ) (is_quiet : Bool) → Still s (end_session s session now is_quiet)
still_end s session now is_quiet = record {
  session_of_open = λ o x e. uncleared session (s.session_of_open o) x e;
  sequence = λ o. omega arith;
}
  where
    uncleared : (session : ℕ) (a : Option ℕ) (x : ℕ) → cleared session a ≡ Some x → a ≡ Some x
    uncleared session a x e = grind arith

pub still_end_named : (s : Server) (now : ℕ) (session : Option ℕ) (is_quiet : Bool) → Still s (end_if_named s now session is_quiet)
still_end_named s now None is_quiet = still_same s
still_end_named s now (Some session) is_quiet = still_end s session now is_quiet

pub still_take_out : (s : Server) (k now : ℕ) (is_quiet : Bool) → Still s (take_out s k now is_quiet)
still_take_out s k now is_quiet = still_on s (end_if_named s now (ends_with s k) is_quiet) _
    (still_end_named s now (ends_with s k) is_quiet) (still_alike (end_if_named s now (ends_with s k) is_quiet) _ refl
    refl)

pub still_deadlines : (s : Server) (now : ℕ) → Still s (with_deadlines s now)
still_deadlines s now = still_alike s _ refl refl

-- ---- and no byte changes

pub content_leave : (s : Server) (o : ℕ) → (leave_open s o).content ≡ s.content
content_leave s o = (left_beside s o).content

pub content_expire : (s : Server) (o : ℕ) → (expire s o).content ≡ s.content
content_expire s o = guid_added (leave_open s o) (s.opened o).client_guid (s.opened o).create_guid ∙ content_leave s o
  where
    guid_added : (s : Server) (client : ℕ) (guid : Option ℕ) → (add_expired_guid s client guid).content ≡ s.content
    guid_added s client None = refl
    guid_added s client (Some g) = refl

pub content_shut : (s : Server) (o session : ℕ) (guid : Option ℕ) → (keep_closed (leave_open s o) session guid).content ≡ s.content
content_shut s o session None = content_leave s o
content_shut s o session (Some g) = content_leave s o

pub content_end_named : (s : Server) (now : ℕ) (session : Option ℕ) (is_quiet : Bool)
    → (end_if_named s now session is_quiet).content ≡ s.content
content_end_named s now None is_quiet = refl
content_end_named s now (Some session) is_quiet = refl

pub content_slot : (s : Server) (o index number status : ℕ) → (keep_slot s o index number status).content ≡ s.content
content_slot s o index number status = either (λ (t : Server). t.content ≡ s.content) (is_slot index) _ _ (λ _. refl) (λ _. refl)

pub content_reach : (s : Server) (m : Message) (o : ℕ) → (reach s m o).content ≡ s.content
content_reach s m o = either (λ (t : Server). t.content ≡ s.content) (is_late s m o) s (record s {
  sequence = put s.sequence o m.channel_sequence;
}) (λ _. refl) (λ _. refl)

pub content_attached : (s : Server) (m : Message) (o : ℕ) → (attached s m o).content ≡ s.content
content_attached s m o = either (λ (t : Server). t.content ≡ s.content) (is_some (s.session_of_open o)) s (attach s m o)
    (λ _. refl) (λ _. refl)

-- ---- a tree that goes

all_leave_moves : (s : Server) (os : List ℕ) → Moves s (leave_all s os)
unfolding leave_all
all_leave_moves s [] = moves_alike s s (same s)
all_leave_moves s (o ∷ os) = moves_on s (leave_open s o) _ (leave_moves s o) (all_leave_moves (leave_open s o) os)

all_closed_moves : (s : Server) (session : ℕ) (os : List ℕ) → Moves s (keep_all_closed s session os)
unfolding keep_all_closed
all_closed_moves s session [] = moves_alike s s (same s)
all_closed_moves s session (o ∷ os) =
    let t = keep_closed s session (s.opened o).create_guid in
    moves_on s t _ (moves_alike s t (closed_alike s session (s.opened o).create_guid)) (all_closed_moves t session os)

pub tree_moves : (s : Server) (session tree : ℕ) → Moves s (drop_tree s session tree)
tree_moves s session tree =
    let os = opens_of_tree s session tree in let u = close_all s session os in
    moves_on s u (drop_tree s session tree)
    (moves_on s (leave_all s os) u (all_leave_moves s os) (all_closed_moves (leave_all s os) session os))
    (moves_alike u (drop_tree s session tree) (record {
      standing = refl;
      present = refl;
      session_of_open = refl;
      sequence = refl;
      epoch = refl;
      open_ids_given = refl;
      making = refl;
      by_guid = refl;
      opened = refl;
    }))

pub still_drop_tree : (s : Server) (session tree : ℕ) → Still s (drop_tree s session tree)
still_drop_tree s session tree =
    let os = opens_of_tree s session tree in
    record {
      session_of_open = λ o x e. (closed_fewer s session os).session_of_open o x e;
      sequence = λ o. let l = ap (λ (f : ℕ → ℕ). f o) (closed_beside s session os).sequence in omega (arith, l);
    }

pub content_drop : (s : Server) (session tree : ℕ) → (drop_tree s session tree).content ≡ s.content
content_drop s session tree = (closed_beside s session (opens_of_tree s session tree)).content
