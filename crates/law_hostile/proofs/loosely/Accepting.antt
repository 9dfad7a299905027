-- A response of a dialog comes down to a client's end whose lists are let go, and is taken; a session that a dialog makes is waited for and
-- accepted at once.
use Rattle.std.proofs.Common.{◌≡◌, ℕ, ◌≤◌, ◌<◌, Bool, true, false, ◌&&◌, if◌then◌else◌, List, [], ◌∷◌, ◌++◌, refl, sym, ap, ◌∙◌, subst, arith}
use Rattle.std.proofs.Common.{Some, None}
use Rattle.law_records.proofs.recovery.Lists.{put_here}
use Rattle.spec_exchange.specs.Table.{put, is_filled}
use Rattle.spec_exchange.specs.Status.{success}
use Rattle.spec_exchange.specs.State.{Reply}
use Rattle.spec_exchange.specs.Client.{SaidSecond}
use Rattle.spec_exchange.specs.Dialogs.{Accepts, dialog_step}
use Rattle.spec_exchange.specs.Opens.{id_of}
use Rattle.spec_exchange.specs.Network.{World, Conn, Take, happens, later, dialog_took, take_front, behind_reply, may_take_reply, take_reply}
use Rattle.law_sessions.specs.messages.Connections.{copies}
use Rattle.law_sessions.proofs.sessions.Dialog.{Tells}
use Rattle.law_hostile.specs.loosely.LooseRuns.{with_connection}
use Rattle.law_hostile.specs.sifting.Sifting.{Sifted}
use Rattle.law_hostile.proofs.loosely.Staying.{Held, held_sifts}
use Rattle.law_hostile.proofs.loosely.Dialogs.{comes_down, response_of, waits_for, held_waits, held_told}
use Rattle.law_hostile.proofs.loosely.Following.{Follows, later_follows}
use Rattle.law_hostile.proofs.loosely.Serving.{then_conns, one_conn}
use Rattle.law_hostile.proofs.loosely.Taking.{follows_then, with_same}
use Rattle.law_hostile.proofs.loosely.Dialoguing.{accepts_follows}

-- ---- its lists are let go

abbrev pub empty_conn : Conn → Conn
empty_conn c = record c { up = []; down = [] }

abbrev pub emptied : World → ℕ → World
emptied v k = with_connection v k (empty_conn (v.conns k))

empty_sifts : (c : Conn) → Sifted c (empty_conn c)
empty_sifts c =
    record {
      client = refl;
      server = refl;
      up = λ n x h. absurd (let q : None ≡ Some x = h in cc);
      down = λ n y h. absurd (let q : None ≡ Some y = h in cc);
      none = λ e. refl;
      fewer_up = λ g. omega arith;
      fewer_down = λ g. omega arith;
    }

pub held_emptied : (share : List ℕ) (v : World) (a : ℕ → ℕ) (k : ℕ) → Held share v a → Held share (emptied v k) a
held_emptied share v a k i = held_sifts share v a k (empty_conn (v.conns k)) (empty_sifts (v.conns k)) i

-- ---- the response is taken

abbrev pub told_at : World → ℕ → Reply → ℕ → World
told_at v k r place = comes_down (emptied v k) k (response_of r place)

abbrev pub told_past : World → ℕ → Reply → ℕ → World
told_past v k r place = behind_reply (told_at v k r place) k []

if_true : {X : Type 0} (b : Bool) (x y : X) → b ≡ true → (if b then x else y) ≡ x
if_true true x y e = refl
if_true false x y e = absurd (let h : false ≡ true = e in cc)

at_end : (v : World) (k : ℕ) → (emptied v k).conns k ≡ empty_conn (v.conns k)
at_end v k = put_here v.conns k (empty_conn (v.conns k))

told_conn : (v : World) (k : ℕ) (r : Reply) (place : ℕ)
    → (told_at v k r place).conns k ≡ record (v.conns k) { up = []; down = response_of r place ∷ [] }
told_conn v k r place =
    let y = response_of r place in
    let c = (emptied v k).conns k in
    put_here (emptied v k).conns k (record c { down = c.down ++ y ∷ [] }) ∙ ap (λ (d : Conn). record d { down = d.down ++ y ∷ [] }) (at_end v k)

pub told_dialog_is : (v : World) (k : ℕ) (r : Reply) (place : ℕ) → (v.conns k).client_open ≡ true
    → happens (told_at v k r place) (Take k) ≡ later (dialog_took (told_past v k r place) k r (dialog_step (v.client.stage k) r.status)) 1
unfolding is_filled
told_dialog_is v k r place on =
    let u = told_at v k r place in
    let e = told_conn v k r place in
    let may : may_take_reply u k ≡ true = ap (λ (c : Conn). c.client_open && is_filled c.down) e ∙ ap (λ b. b && true) on in
    if_true (may_take_reply u k) (later (take_reply u k (u.conns k).down) 1) u may ∙ ap (λ (c : Conn). later (take_reply u k c.down) 1) e

pub told_past_follows : (v : World) (k : ℕ) (r : Reply) (place : ℕ) → Follows v (told_past v k r place)
told_past_follows v k r place =
    let p = v.conns in
    let q = put p k (empty_conn (p k)) in
    let y = response_of r place in
    let s = put q k (record (q k) { down = (q k).down ++ y ∷ [] }) in
    let t = put s k (take_front (s k) []) in
    with_same v t
    (then_conns p q t (one_conn p k (empty_conn (p k)) (record { client = refl; server = refl; next = refl }))
    (then_conns q s t (one_conn q k (record (q k) { down = (q k).down ++ y ∷ [] }) (record { client = refl; server = refl; next = refl }))
    (one_conn s k (take_front (s k) []) (record { client = refl; server = refl; next = refl }))))

none_left : (v : World) (k : ℕ) → copies 0 ((emptied v k).conns k) ≡ 0
none_left v k = ap (λ (c : Conn). copies 0 c) (at_end v k)

tells_emptied : (v : World) (k : ℕ) (r : Reply) → Tells v k r → Tells (emptied v k) k r
tells_emptied v k r t = record { first = t.first; second = t.second; tree = t.tree }

pub held_dialog : (share : List ℕ) (v : World) (a : ℕ → ℕ) (k : ℕ) (r : Reply) (place : ℕ) → (v.conns k).client_open ≡ true
    → v.client.ready k ≡ false → Tells v k r → Held share v a → Held share (happens (told_at v k r place) (Take k)) a
held_dialog share v a k r place on apart tells i =
    held_told share (emptied v k) a k r place (ap (λ (c : Conn). c.client_open) (at_end v k) ∙ on) (none_left v k) apart
    (tells_emptied v k r tells) (held_emptied share v a k i)

-- ---- a session is accepted

-- the dialog that makes it waits for its id, and its final response comes down
abbrev pub accepting : World → ℕ → ℕ → World
accepting v k id = waits_for (emptied v k) k id

pub held_accepts : (share : List ℕ) (v : World) (a : ℕ → ℕ) (k id : ℕ) (r : Reply) (place : ℕ) → (v.conns k).client_open ≡ true
    → v.client.ready k ≡ false → v.client.making ≡ Some k → v.client.rank id ≡ 0 → 0 < id → id ≤ id_of v.server.epoch v.server.session_ids_given
    → Tells (accepting v k id) k r → Held share v a → Held share (happens (told_at (accepting v k id) k r place) (Take k)) a
held_accepts share v a k id r place on apart mine unranked above given tells i =
    held_dialog share (accepting v k id) a k r place (ap (λ (c : Conn). c.client_open) (at_end v k) ∙ on) apart tells
    (held_waits share (emptied v k) a k id (none_left v k) mine unranked above given (held_emptied share v a k i))

accepting_follows : (w v : World) (k id : ℕ) → Follows w v → Follows w (accepting v k id)
accepting_follows w v k id f =
    follows_then w v (accepting v k id) f (record {
      client = (let c = v.client in record {
        mask = record { stage = put c.stage k (SaidSecond false); refusals = c.refusals; settled_by = c.settled_by; pending = id };
        is = refl;
      });
      server = refl;
      records = refl;
      moment = refl;
      conns = one_conn v.conns k (empty_conn (v.conns k)) (record { client = refl; server = refl; next = refl });
      places = refl;
      reached = refl;
      altered = refl;
      session = refl;
      sequence = refl;
    })

-- of a world that accepts the session which it waits for
pub accepting_is : (w v : World) (k id : ℕ) (r s : Reply) (place : ℕ) → (v.conns k).client_open ≡ true → r.status ≡ success
    → w.client.pending ≡ id → Follows w v → Follows (later (dialog_took w k s Accepts) 1) (happens (told_at (accepting v k id) k r place) (Take k))
accepting_is w v k id r s place on ok pending f =
    let u = accepting v k id in
    let b = told_past u k r place in
    let open_ : (u.conns k).client_open ≡ true = ap (λ (c : Conn). c.client_open) (at_end v k) ∙ on in
    let stage : u.client.stage k ≡ SaidSecond false = put_here v.client.stage k (SaidSecond false) in
    let step : dialog_step (u.client.stage k) r.status ≡ Accepts = ap (λ t. dialog_step t r.status) stage ∙ ap (λ n. dialog_step (SaidSecond false) n) ok in
    let is : happens (told_at u k r place) (Take k) ≡ later (dialog_took b k r Accepts) 1 =
    told_dialog_is u k r place open_ ∙ ap (λ d. later (dialog_took b k r d) 1) step in
    subst (λ x. Follows (later (dialog_took w k s Accepts) 1) x) (sym is)
    (later_follows (dialog_took w k s Accepts) (dialog_took b k r Accepts) 1
    (accepts_follows w b k s (sym pending)
    (follows_then w u b (accepting_follows w v k id f) (told_past_follows u k r place))))
