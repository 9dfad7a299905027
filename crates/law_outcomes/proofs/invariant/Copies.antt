-- What the records below say of each copy that waits: its request and its pair, and of creates and locks what the server
-- keeps of them.
use Rattle.std.proofs.lemmas.Bool.{eqb-false}
use Rattle.std.proofs.Common.{eqb-true, ◌≡◌, ℕ, ◌≤◌, ◌<◌, ◌==◌, nat_le, Bool, true, false, not, ◌||◌, refl, arith, sym}
use Rattle.std.proofs.Common.{◌∙◌, ap, Option, Some, None, is_some, ◌&&◌}
use Rattle.spec_exchange.specs.Commands.{form}
use Rattle.spec_exchange.specs.State.{Server}
use Rattle.spec_exchange.specs.CheckCreate.{max_guids}
use Rattle.spec_exchange.specs.CheckOpen.{kept_status}
use Rattle.spec_exchange.specs.Operations.{is_create, request_of}
use Rattle.spec_exchange.specs.Client.{Client, guid_for}
use Rattle.spec_exchange.specs.Network.{World, Sent}
use Rattle.spec_exchange.specs.Runs.{never_acted}
use Rattle.law_sessions.specs.messages.Connections.{Connections, its_request, its_create, makes_open}
use Rattle.law_sessions.specs.sessions.Sessions.{Sessions, RankOnce}
use Rattle.law_creates.specs.Creates.{Creates, seen, own_guid, is_full, keeps_form, is_barred, has_files}
use Rattle.law_locks.specs.Locks.{Locks, locking, kept_at, user_at}
use Rattle.law_order.proofs.order.Requests.{form_same}
use Rattle.law_order.proofs.order.Words.{ops_of}
use Rattle.law_outcomes.specs.invariant.Parts.{open_of, LiveCopy, NotNewer, OlderSession, SameSession, CopiesAreOwn, ToldByGuid}
use Rattle.law_outcomes.specs.invariant.Parts.{NamesOpen, KeptClosed, HasExpired, RefusedAgain, KeptRefusal, BadForm, GuidsFull}
use Rattle.law_outcomes.specs.invariant.Parts.{CreateHolds, CreateActed, CreateRefused, CreateToCome, CreatesAreKept, LockHolds}
use Rattle.law_outcomes.specs.invariant.Parts.{OpenLeft, SlotTells, LockToCome, LocksAreKept, OnPipes}
use Rattle.spec_exchange.specs.Texts.{same_name}
use Rattle.spec_exchange.specs.CheckSetup.{pipes_name}

-- ---- 1

by_rank : (c : Client) (x : Sent) → 0 < c.rank x.message.session_id → c.rank x.message.session_id ≤ c.accepted_count
    → (0 < c.accepted_count → c.rank c.accepted ≡ c.accepted_count) → RankOnce c → c.session ≡ c.accepted
    → (x.message.session_id ≡ c.session → x.message.channel_sequence ≤ c.sequence) → NotNewer c x
by_rank c x r le last once cur seq =
    let top : c.rank c.accepted ≡ c.accepted_count = last (omega (arith, r, le)) in
    elim (c.rank x.message.session_id == c.accepted_count) as (λ b. c.rank x.message.session_id == c.accepted_count ≡ b → NotNewer c x) [
      | true ↦ λ e. let s : x.message.session_id ≡ c.session = once x.message.session_id c.accepted r
          (eqb-true (c.rank x.message.session_id) c.accepted_count e ∙ sym top) ∙ sym cur in SameSession s (seq s)
      | false ↦ λ e. let ne = eqb-false (c.rank x.message.session_id) c.accepted_count e in let rank : c.rank c.session
          ≡ c.accepted_count = ap c.rank cur ∙ top in OlderSession (omega (arith, le, ne, rank))
    ] refl

pub copies_own : (w : World) (a : ℕ → ℕ) → Connections w.client w.conns a → Sessions w.client w.conns w.server → CopiesAreOwn w
unfolding its_request its_create
copies_own w a cn ss k n g x h tk =
    let b = cn.bodies k n g x h tk in let r = ss.ranked_up k n x h (ops_of x.token g tk) in
    record {
      sent = b.0;
      request = b.1;
      client = b.2;
      accepted = (r, ss.ranks x.message.session_id);
      not_newer = λ live. by_rank w.client x r (ss.ranks x.message.session_id) ss.last_rank ss.rank_once
          (ss.live_accepted live).0 ((ss.sequences_up k n x h).1 live);
    }

-- ---- 3

one_of : (P : Type 0) (x y z : Bool) → (x || (y || z)) ≡ true → (x ≡ true → P) → (y ≡ true → P) → (z ≡ true → P) → P
one_of P true y z e f g h = f refl
one_of P false true z e f g h = g refl
one_of P false false z e f g h = h e

names_one : (P : Type 0) (o : Option ℕ) → is_some o ≡ true → ((p : ℕ) → o ≡ Some p → P) → P
names_one P None e f = absurd (cc)
names_one P (Some p) e f = f p refl

told_by : (c : Client) (s : Server) (session g : ℕ) → ((o : ℕ) → s.by_guid c.who.guid (guid_for c g) ≡ Some o
    → s.standing o ≡ true) → (s.closed session (guid_for c g) || (is_some (s.by_guid c.who.guid (guid_for c g))
    || s.expired_guids c.who.guid (guid_for c g))) ≡ true
    → ToldByGuid c s session g
told_by c s session g stands e =
    one_of (ToldByGuid c s session g) (s.closed session (guid_for c g)) (is_some (s.by_guid c.who.guid (guid_for c g)))
    (s.expired_guids c.who.guid (guid_for c g)) e
    (λ z. KeptClosed z)
    (λ z. names_one (ToldByGuid c s session g) (s.by_guid c.who.guid (guid_for c g)) z (λ o q. NamesOpen o q (stands o q)))
    (λ z. HasExpired z)

refused_by : (c : Client) (s : Server) (x : Sent) (g : ℕ) → form x.message.command ≡ form (request_of (c.op g) 0 0 0 0)
    → is_barred c (seen s) x.message.session_id g ≡ true → RefusedAgain c s x g
unfolding own_guid is_full keeps_form has_files
refused_by c s x g same e =
    one_of (RefusedAgain c s x g) (is_some (s.refused x.message.session_id (guid_for c g)))
    (nat_le max_guids (s.guids x.message.session_id))
    (not (not (is_some (form (request_of (c.op g) 0 0 0 0))) && not (same_name c.who.share pipes_name))) e
    (λ z. KeptRefusal z) (λ z. GuidsFull z) (λ z. by_form (is_some (form (request_of (c.op g) 0 0 0 0)))
    (same_name c.who.share pipes_name) refl refl z)
  where
    by_form : (b p : Bool) → is_some (form (request_of (c.op g) 0 0 0 0)) ≡ b → same_name c.who.share pipes_name ≡ p
        → not (not b && not p) ≡ true → RefusedAgain c s x g
    by_form true p f h z = BadForm (ap is_some same ∙ f)
    by_form false true f h z = OnPipes h
    by_form false false f h z = absurd (cc)

create_acted : (w : World) (a : ℕ → ℕ) (k n g : ℕ) (x : Sent) → Creates w.client w.conns (seen w.server) a
    → LiveCopy w k n g x → is_create (w.client.op g) ≡ true → 1 ≤ a g → CreateHolds w a x g
unfolding makes_open own_guid
create_acted w a k n g x cr l mk acted =
    let most = cr.at_most g mk in
    CreateActed (omega (arith, most, acted)) (told_by w.client w.server x.message.session_id g
    (λ o e. (cr.named g o e).0) (cr.acted_kept k n g x l.waits l.own mk l.live acted))

create_idle : (w : World) (a : ℕ → ℕ) (k n g : ℕ) (x : Sent) → Connections w.client w.conns a → Creates w.client w.conns
    (seen w.server) a → LiveCopy w k n g x → is_create (w.client.op g) ≡ true → a g ≡ 0
    → (b : Bool) → never_acted (w.client.outcome g) ≡ b → CreateHolds w a x g
unfolding makes_open
create_idle w a k n g x cn cr l mk z false e = CreateToCome z e
create_idle w a k n g x cn cr l mk z true e =
    let b = (cn.bodies k n g x l.waits l.own).1 in
    CreateRefused z (refused_by w.client w.server x g (ap form b ∙ form_same (w.client.op g) _ _ _ _)
    (cr.dead_refused k n g x l.waits l.own mk e l.live))

pub creates_kept : (w : World) (a : ℕ → ℕ) → Connections w.client w.conns a → Creates w.client w.conns (seen w.server) a
    → CreatesAreKept w a
creates_kept w a cn cr k n g x l mk =
    elim (a g == 0) as (λ b. a g == 0 ≡ b → CreateHolds w a x g) [
      | true ↦ λ e. create_idle w a k n g x cn cr l mk (eqb-true (a g) 0 e) (never_acted (w.client.outcome g)) refl
      | false ↦ λ e. let ne = eqb-false (a g) 0 e in create_acted w a k n g x cr l mk (omega (arith, ne))
    ] refl

-- ---- 4

lock_slot : (w : World) (a : ℕ → ℕ) (g : ℕ) → Locks w.client w.conns w.server a → user_at w.client g ≡ Some g
    → w.server.standing (open_of w.client g) ≡ true
    → (kept : Option ℕ) → kept_status (w.client.number_of g) (w.server.lock_sequences (open_of w.client g)
    (w.client.slot_of g)) ≡ kept → LockHolds w a g
unfolding its_create kept_at
lock_slot w a g i u st (Some status) e = SlotTells status e (i.kept_says g status u st e)
lock_slot w a g i u st None e = LockToCome e (i.not_kept g u st e)

lock_open : (w : World) (a : ℕ → ℕ) (g : ℕ) → Locks w.client w.conns w.server a → user_at w.client g ≡ Some g
    → (b : Bool) → w.server.standing (open_of w.client g) ≡ b → LockHolds w a g
lock_open w a g i u false e = OpenLeft e
lock_open w a g i u true e = lock_slot w a g i u e
    (kept_status (w.client.number_of g) (w.server.lock_sequences (open_of w.client g) (w.client.slot_of g))) refl

pub locks_kept : (w : World) (a : ℕ → ℕ) → Locks w.client w.conns w.server a → LocksAreKept w a
unfolding its_create locking
locks_kept w a i k n g x l lk =
    let u : user_at w.client g ≡ Some g = i.users k n g x l.waits l.own lk l.live in record {
      user = u;
      holds = lock_open w a g i u (w.server.standing (open_of w.client g)) refl;
    }
