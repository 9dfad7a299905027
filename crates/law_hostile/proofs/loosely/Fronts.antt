-- A request that waits anywhere on its list is served as if it stood at the front, and so is a reply taken: what the laws on once and newer
-- rest on stays.
use Rattle.std.proofs.Common.{◌≡◌, ℕ, ◌==◌, true, false, List, ◌∷◌, refl, ap, ◌∙◌, Some}
use Rattle.std.proofs.Common.{slice_get}
use Rattle.law_records.proofs.recovery.Lists.{put_here}
use Rattle.law_nonces.proofs.negotiation.Tables.{put_other}
use Rattle.spec_exchange.specs.Table.{put}
use Rattle.spec_exchange.specs.Network.{World, Conn, Sent, Received, Serve, Take, happens, answer, behind_front, say_down}
use Rattle.law_sessions.proofs.messages.Run.{after}
use Rattle.law_hostile.specs.loosely.LooseRuns.{without_at, with_connection}
use Rattle.law_hostile.proofs.loosely.Lists.{front_up_sifts, front_down_sifts}
use Rattle.law_hostile.proofs.loosely.Staying.{Held, held_keeps, held_sifts}
use Rattle.law_hostile.proofs.loosely.Serving.{Took, then_conns, one_conn, serve_took, serve_is}

-- ---- a request

abbrev pub fronted : World → ℕ → Sent → ℕ → World
fronted w k x n = with_connection w k (record (w.conns k) { up = x ∷ without_at n (w.conns k).up })

-- what its answer leaves on its connection
abbrev pub answered_conn : World → ℕ → Sent → ℕ → Conn
answered_conn w k x n = say_down (record (w.conns k) { up = without_at n (w.conns k).up }) (record {
  token = x.token;
  reply = (answer w x).reply;
  place = w.log.places;
})

pub record Served (share : List ℕ) (w : World) (a : ℕ → ℕ) (k : ℕ) (x : Sent) (n : ℕ) : Type 0 where
  pub held : Held share (happens (fronted w k x n) (Serve k)) (after (fronted w k x n) (Serve k) a)
  pub took : Took w (happens (fronted w k x n) (Serve k)) x.message (answer w x)
  pub here : (happens (fronted w k x n) (Serve k)).conns k ≡ answered_conn w k x n
  pub there : (j : ℕ) → (j == k) ≡ false → (happens (fronted w k x n) (Serve k)).conns j ≡ w.conns j

fronted_took : (w u : World) (k : ℕ) (x : Sent) (n : ℕ) → Took (fronted w k x n) u x.message (answer w x) → Took w u x.message (answer w x)
fronted_took w u k x n t =
    record {
      client = t.client;
      server = t.server;
      records = t.records;
      moment = t.moment;
      conns = then_conns w.conns (fronted w k x n).conns u.conns (one_conn w.conns k (record (w.conns k) { up = x ∷ without_at n (w.conns k).up })
          (record { client = refl; server = refl; next = refl })) t.conns;
      places = t.places;
      reached = t.reached;
      altered = t.altered;
      session = t.session;
      sequence = t.sequence;
    }

pub front_serves : (share : List ℕ) (w : World) (a : ℕ → ℕ) (k : ℕ) (x : Sent) (n : ℕ) → (w.conns k).server_open ≡ true
    → slice_get (w.conns k).up n ≡ Some x → Held share w a → Served share w a k x n
front_serves share w a k x n on at i =
    let rest = without_at n (w.conns k).up in
    let d : Conn = record (w.conns k) { up = x ∷ rest } in
    let v = fronted w k x n in
    let e : v.conns k ≡ d = put_here w.conns k d in
    let open_ : (v.conns k).server_open ≡ true = ap (λ (c : Conn). c.server_open) e ∙ on in
    let filled : (v.conns k).up ≡ x ∷ rest = ap (λ (c : Conn). c.up) e in
    let y : Received = record { token = x.token; reply = (answer w x).reply; place = w.log.places } in
    let is = serve_is v k x rest open_ filled in
    let p = put v.conns k (behind_front (v.conns k) rest) in
    record {
      held = held_keeps share v a (Serve k) (held_sifts share w a k d (front_up_sifts (w.conns k) n x at) i);
      took = fronted_took w (happens v (Serve k)) k x n (serve_took v k x rest open_ filled);
      here =
          ap (λ (u : World). u.conns k) is
          ∙ (put_here p k (say_down (p k) y)
          ∙ (ap (λ (c : Conn). say_down c y) (put_here v.conns k (behind_front (v.conns k) rest))
          ∙ ap (λ (c : Conn). say_down (behind_front c rest) y) e));
      there = λ j off.
          ap (λ (u : World). u.conns j) is
          ∙ (put_other p k j (say_down (p k) y) off
          ∙ (put_other v.conns k j (behind_front (v.conns k) rest) off ∙ put_other w.conns k j d off));
    }

-- ---- a reply

abbrev pub told_first : World → ℕ → Received → ℕ → World
told_first w k y n = with_connection w k (record (w.conns k) { down = y ∷ without_at n (w.conns k).down })

pub front_takes : (share : List ℕ) (w : World) (a : ℕ → ℕ) (k : ℕ) (y : Received) (n : ℕ) → slice_get (w.conns k).down n ≡ Some y
    → Held share w a → Held share (happens (told_first w k y n) (Take k)) (after (told_first w k y n) (Take k) a)
front_takes share w a k y n at i =
    held_keeps share (told_first w k y n) a (Take k)
    (held_sifts share w a k (record (w.conns k) { down = y ∷ without_at n (w.conns k).down }) (front_down_sifts (w.conns k) n y at) i)
