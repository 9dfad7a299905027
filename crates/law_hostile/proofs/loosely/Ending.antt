-- A request that the network gives to a server's end and that its checks refuse does to the values of a repeat run what a Drop does.
use Rattle.std.proofs.Common.{◌≡◌, ℕ, Bool, true, false, if◌then◌else◌, [], ◌∷◌, refl, sym, ap, ◌∙◌, subst, Some, None, take}
use Rattle.std.proofs.Common.{Err}
use Rattle.law_records.proofs.recovery.Lists.{put_here}
use Rattle.law_nonces.proofs.negotiation.Tables.{by_key_2, put_other}
use Rattle.spec_exchange.specs.Table.{put}
use Rattle.spec_exchange.specs.Client.{Client}
use Rattle.spec_exchange.specs.Network.{World as Values, Conn, Token, Serve, Drop, later, happens, dropped, behind_front, server_off}
use Rattle.spec_world.specs.Settings.{WorldSettings, draw}
use Rattle.spec_world.specs.Ends.{ConnEnd}
use Rattle.spec_world.specs.Hearing.{check_frame}
use Rattle.spec_world.specs.Connection.{ConnectionStep, step_of}
use Rattle.spec_world.specs.World.{Wires, step_at, served_by, served_mutely, dropped_wires, serve_frame, values_took}
use Rattle.spec_world.specs.Events.{bytes_changed, bytes_later}
use Rattle.spec_hostile.specs.RepeatRuns.{RepeatWorld, UpFrame, is_served, is_heard, loaded_up, given_up, lists_as, sents, receiveds, up_frames}
use Rattle.law_hostile.proofs.puts.Replies.{conn_loaded, wires_loaded, may_serve_loaded}
use Rattle.law_hostile.proofs.loosely.Masks.{masked, Alike}
use Rattle.law_hostile.proofs.loosely.Following.{SameConn, SameConns, Follows}
use Rattle.law_hostile.proofs.loosely.Serving.{then_conns, back_conns}

-- what follows one world is alike
pub follows_both : (w a b : Values) → Follows w a → Follows w b → Follows a b
follows_both w a b f g =
    record {
      client = (let q = g.client in record { mask = q.mask; is = q.is ∙ ap (λ (c : Client). masked c q.mask) (sym f.client.is) });
      server = g.server ∙ sym f.server;
      records = g.records ∙ sym f.records;
      moment = g.moment ∙ sym f.moment;
      conns = then_conns a.conns w.conns b.conns (back_conns w.conns a.conns f.conns) g.conns;
      places = g.places ∙ sym f.places;
      reached = g.reached ∙ sym f.reached;
      altered = g.altered ∙ sym f.altered;
      session = g.session ∙ sym f.session;
      sequence = g.sequence ∙ sym f.sequence;
    }

pub self_alike : (c : Client) → Alike c c
self_alike c =
    record { mask = record { stage = c.stage; refusals = c.refusals; settled_by = c.settled_by; pending = c.pending }; is = refl }

-- ---- the connections behind it

one_same : (c d : Conn) → d ≡ c → SameConn c d
one_same c d e = record { client = ap (λ (x : Conn). x.client_open) e; server = ap (λ (x : Conn). x.server_open) e; next = ap (λ (x : Conn). x.next_id) e }

-- loaded, read, closed and collected
ended_conns : (p : ℕ → Conn) (k : ℕ) (l : Conn) (heard : Bool) → l.next_id ≡ (p k).next_id → (p k).client_open ≡ heard
    → (let q = put p k l in
    let u = put q k (behind_front (q k) []) in
    let v = put u k (server_off (u k)) in
    SameConns (put p k (server_off (p k))) (put v k (record (v k) { client_open = heard; up = sents []; down = receiveds [] })))
ended_conns p k l heard next on =
    let q = put p k l in
    let u = put q k (behind_front (q k) []) in
    let v = put u k (server_off (u k)) in
    let e : v k ≡ server_off (u k) = put_here u k (server_off (u k)) in
    let f : u k ≡ behind_front (q k) [] = put_here q k (behind_front (q k) []) in
    let g : q k ≡ l = put_here p k l in
    by_key_2 (λ j (c : Conn) (d : Conn). SameConn c d) p v k (server_off (p k))
    (record (v k) { client_open = heard; up = sents []; down = receiveds [] })
    (record {
      client = sym on;
      server = ap (λ (c : Conn). c.server_open) e;
      next = ap (λ (c : Conn). c.next_id) e ∙ (ap (λ (c : Conn). c.next_id) f ∙ (ap (λ (c : Conn). c.next_id) g ∙ next));
    })
    (λ j off. one_same (p j) (v j)
    (put_other u k j (server_off (u k)) off ∙ (put_other q k j (behind_front (q k) []) off ∙ put_other p k j l off)))

-- ---- the end closes, and took nothing

ended_follows : (r : RepeatWorld) (k : ℕ) (u : UpFrame) (token : Token) (S : ConnectionStep) (why : ConnEnd) → S.ends ≡ Some why → S.taken ≡ None
    → (let w = loaded_up r k u in
    Follows (later (dropped r.world.values k) 1) (lists_as (bytes_later (served_by w k [] [] token S S.ends) 1) k [] [] (is_heard r.world k)).values)
ended_follows r k u token S why ends none =
    let w = loaded_up r k u in
    let V = r.world.values in
    subst (λ o. Follows (later (dropped V k) 1) (lists_as (bytes_later (served_by w k [] [] token S o) 1) k [] [] (is_heard r.world k)).values) (sym ends)
    (subst (λ o. Follows (later (dropped V k) 1) (lists_as (bytes_later (dropped_wires (record (served_mutely w k [] [] token S) {
      values = values_took w.values k token [] o;
    }) k) 1) k [] [] (is_heard r.world k)).values) (sym none)
    (record {
      client = self_alike V.client;
      server = refl;
      records = refl;
      moment = refl;
      conns = ended_conns V.conns k (record (V.conns k) { client_open = true; up = sents (u ∷ []); down = receiveds [] }) (is_heard r.world k) refl refl;
      places = refl;
      reached = refl;
      altered = refl;
      session = refl;
      sequence = refl;
    }))

if_true : {X : Type 0} (b : Bool) (x y : X) → b ≡ true → (if b then x else y) ≡ x
if_true true x y e = refl
if_true false x y e = absurd (let h : false ≡ true = e in cc)

pub given_ends : (z : WorldSettings) (r : RepeatWorld) (k : ℕ) (u : UpFrame) (why : ConnEnd) → is_served r.world k ≡ true
    → check_frame (r.world.wires k).server_end u.frame ≡ Err why
    → Follows (happens r.world.values (Drop k)) (given_up z r k u).world.values
unfolding sents up_frames
given_ends z r k u why on refused =
    let w = loaded_up r k u in
    let V = r.world.values in
    let S = step_at z w k u.frame in
    let now = w.values.moment in
    let fresh = take 8 (draw z.seed w.draws) in
    let bad : check_frame (w.wires k).server_end u.frame ≡ Err why =
    ap (λ (v : Wires). check_frame v.server_end u.frame) (wires_loaded r k u) ∙ refused in
    let ends : S.ends ≡ Some why = ap (λ q. (step_of z.server k now fresh w.values.server w.logons (w.wires k).server_end q).ends) bad in
    let none : S.taken ≡ None = ap (λ q. (step_of z.server k now fresh w.values.server w.logons (w.wires k).server_end q).taken) bad in
    let bs : (w.wires k).up ≡ u.frame ∷ [] = ap (λ (v : Wires). v.up) (wires_loaded r k u) in
    let xs : (w.values.conns k).up ≡ u.sent ∷ [] = ap (λ (d : Conn). d.up) (conn_loaded r k u) in
    let is : served_by w k [] [] u.sent.token S S.ends ≡ bytes_changed z w (Serve k) =
    sym (ap (λ l. serve_frame z w k l (w.values.conns k).up) bs ∙ ap (λ l. serve_frame z w k (u.frame ∷ []) l) xs) in
    subst (λ v. Follows v (given_up z r k u).world.values) (sym (if_true (is_served r.world k) (later (dropped V k) 1) V on))
    (subst (λ b. Follows (later (dropped V k) 1)
    (lists_as (if b then bytes_later (bytes_changed z w (Serve k)) 1 else w) k [] [] (is_heard r.world k)).values)
    (sym (may_serve_loaded r k u on))
    (subst (λ v. Follows (later (dropped V k) 1) (lists_as (bytes_later v 1) k [] [] (is_heard r.world k)).values) is
    (ended_follows r k u u.sent.token S why ends none)))
