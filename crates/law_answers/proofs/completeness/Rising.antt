-- The session that waits for its tree has an id above that of the one before it.
use Rattle.std.proofs.lemmas.Bool.{eqb-false}
use Rattle.std.proofs.Common.{eqb-true, ◌≡◌, ◌≢◌, ℕ, ◌+◌, ◌≤◌, ◌<◌, ◌==◌, Bool, true, false, if◌then◌else◌, List, ◌∷◌}
use Rattle.std.proofs.Common.{◌⊎◌, inl, inr, zero, suc, refl, arith, sym, ◌∙◌, ap, Some}
use Rattle.spec_exchange.specs.Table.{put}
use Rattle.spec_exchange.specs.Status.{more_processing_required}
use Rattle.spec_exchange.specs.State.{Reply}
use Rattle.spec_exchange.specs.Client.{Client, Stage, Apart, SaidNegotiate, SaidFirst, SaidSecond, AskedTree, begun}
use Rattle.spec_exchange.specs.Client.{outstanding, begin_session}
use Rattle.spec_exchange.specs.Settling.{settle}
use Rattle.spec_exchange.specs.Dialogs.{GoesOn, Accepts, dialog_step, went_on}
use Rattle.spec_exchange.specs.Opens.{id_of}
use Rattle.spec_exchange.specs.State.{Server}
use Rattle.spec_exchange.specs.Network.{World, Event, Take, Conn, Received, ForDialog, happens}
use Rattle.law_sessions.specs.sessions.Sessions.{Making, makes_session}
use Rattle.law_sessions.proofs.sessions.Words.{SameSession}
use Rattle.law_sessions.proofs.sessions.Table.{keeps_begun, keeps_settle}
use Rattle.law_answers.proofs.completeness.Client.{client_keeps}

pub record Rising (c : Client) : Type 0 where
  pub zero_session : c.session_number ≡ 0 → c.session ≡ 0
  pub second : (k : ℕ) → c.stage k ≡ SaidSecond false → c.session < c.pending
  pub asked : (k : ℕ) → c.stage k ≡ AskedTree → c.session < c.pending

-- the interim reply that waits tells such an id
abbrev pub ReplyAbove : Client → (ℕ → Conn) → Type 0
ReplyAbove c conns = (k : ℕ) (y : Received) (rest : List Received) → c.stage k ≡ SaidFirst false → (conns k).down
    ≡ y ∷ rest → y.token ≡ ForDialog → y.reply.status ≡ more_processing_required → c.session < y.reply.session_id

rising_same : (c d : Client) → d.session_number ≡ c.session_number → d.session ≡ c.session → d.pending ≡ c.pending
    → d.stage ≡ c.stage → Rising c → Rising d
rising_same c d number session pending stage h =
    record {
      zero_session = λ z. session ∙ h.zero_session (sym number ∙ z);
      second = λ k e. both session pending (h.second k (ap (λ f. f k) (sym stage) ∙ e));
      asked = λ k e. both session pending (h.asked k (ap (λ f. f k) (sym stage) ∙ e));
    }
  where
    both : {a b x y : ℕ} → a ≡ x → b ≡ y → x < y → a < b
    both e f l = omega (arith, e, f, l)

same_rising : (c d : Client) → SameSession c d → Rising c → Rising d
same_rising c d s h = rising_same c d s.number s.session s.pending s.stage h

-- one stage changes to one that has told no id
stage_put : (c d : Client) (k : ℕ) (s : Stage) → d.session_number ≡ c.session_number → d.session ≡ c.session → d.pending
    ≡ c.pending → d.stage ≡ put c.stage k s → (s ≡ SaidSecond false → c.session < c.pending)
    → (s ≡ AskedTree → c.session < c.pending) → Rising c → Rising d
stage_put c d k s number session pending stage a b h =
    rising_same (record c { stage = put c.stage k s }) d number session pending stage
    (record {
      zero_session = h.zero_session;
      second = λ q. elim (q == k) as (λ t. q == k ≡ t → (if t then s else c.stage q) ≡ SaidSecond false
          → c.session < c.pending) [ true ↦ λ e f. a f | false ↦ λ e f. h.second q f ] refl;
      asked = λ q. elim (q == k) as (λ t. q == k ≡ t → (if t then s else c.stage q) ≡ AskedTree → c.session < c.pending)
          [ true ↦ λ e f. b f | false ↦ λ e f. h.asked q f ] refl;
    })

pub second_from : (t : Stage) (status : ℕ) → dialog_step t status ≡ GoesOn (SaidSecond false) → t ≡ SaidFirst false
    × status ≡ more_processing_required
second_from Apart status e = absurd (cc)
second_from (SaidNegotiate b) status e = absurd (grind arith)
second_from (SaidFirst true) status e = absurd (grind arith)
second_from (SaidFirst false) status e = (refl, eqb-true status more_processing_required (grind arith))
second_from (SaidSecond true) status e = absurd (grind arith)
second_from (SaidSecond false) status e = absurd (grind arith)
second_from AskedTree status e = absurd (grind arith)

pub accept_from : (t : Stage) (status : ℕ) → dialog_step t status ≡ Accepts → t ≡ SaidSecond false
accept_from Apart status e = absurd (cc)
accept_from (SaidNegotiate b) status e = absurd (grind arith)
accept_from (SaidFirst b) status e = absurd (grind arith)
accept_from (SaidSecond true) status e = absurd (grind arith)
accept_from (SaidSecond false) status e = refl
accept_from AskedTree status e = absurd (grind arith)

pub no_asked : (t : Stage) (status : ℕ) → dialog_step t status ≡ GoesOn AskedTree → ⊥
no_asked Apart status e = absurd (cc)
no_asked (SaidNegotiate b) status e = absurd (grind arith)
no_asked (SaidFirst b) status e = absurd (grind arith)
no_asked (SaidSecond b) status e = absurd (grind arith)
no_asked AskedTree status e = absurd (grind arith)

-- at most one channel makes a session
pub one_making : (c : Client) (j k : ℕ) → Making c → makes_session (c.stage j) ≡ true → makes_session (c.stage k) ≡ true → j ≡ k
one_making c j k m a b = same (sym (m j a) ∙ m k b)
  where
    same : Some j ≡ Some k → j ≡ k
    same e = cc

told : (c : Client) (k : ℕ) (y : Received) → Making c → c.stage k ≡ SaidFirst false → c.session < y.reply.session_id
    → Rising c → Rising (went_on c k (SaidSecond false) y.reply)
told c k y m at above h =
    record {
      zero_session = h.zero_session;
      second = λ q e. above;
      asked = λ q. elim (q == k) as (λ t. q == k ≡ t → (if t then SaidSecond false else c.stage q) ≡ AskedTree
          → c.session < y.reply.session_id) [ true ↦ λ e f. absurd (cc) | false ↦ λ e f. above ] refl;
    }

goes_on : (w : World) (k : ℕ) (s : Stage) (y : Received) (rest : List Received) → Making w.client
    → ReplyAbove w.client w.conns → (w.conns k).down ≡ y ∷ rest → y.token ≡ ForDialog → dialog_step (w.client.stage k)
    y.reply.status ≡ GoesOn s → Rising w.client → Rising (went_on w.client k s y.reply)
goes_on w k Apart y rest m r is token d h = stage_put w.client _ k Apart refl refl refl refl (λ e. absurd (cc)) (λ e. absurd (cc)) h
goes_on w k (SaidNegotiate b) y rest m r is token d h = stage_put w.client _ k (SaidNegotiate b) refl refl refl refl
    (λ e. absurd (cc)) (λ e. absurd (cc)) h
goes_on w k (SaidFirst b) y rest m r is token d h = stage_put w.client _ k (SaidFirst b) refl refl refl refl
    (λ e. absurd (cc)) (λ e. absurd (cc)) h
goes_on w k (SaidSecond true) y rest m r is token d h = stage_put w.client _ k (SaidSecond true) refl refl refl refl
    (λ e. absurd (cc)) (λ e. absurd (cc)) h
goes_on w k (SaidSecond false) y rest m r is token d h = let f = second_from (w.client.stage k) y.reply.status d in
    told w.client k y m f.0 (r k y rest f.0 is token f.1) h
goes_on w k AskedTree y rest m r is token d h = absurd (no_asked (w.client.stage k) y.reply.status d)

pub rising_on : (w : World) (e : Event) → Making w.client → ReplyAbove w.client w.conns → Rising w.client → Rising (happens w e).client
rising_on w e m r h =
    let c = w.client in
    client_keeps Rising w e (λ g op is may. rising_same c _ refl refl refl refl h) (record {
      opens = λ k. stage_put c _ k (SaidNegotiate c.live) refl refl refl refl (λ x. absurd (cc)) (λ x. absurd (cc)) h;
      slotless = λ d k g l _ i. rising_same d _ refl refl refl refl i;
      begins_op = λ d k g i may _ j. same_rising d (outstanding (begun d g i) k g) (keeps_begun d k g i).same j;
      asks = λ d k g may _ i. rising_same d _ refl refl refl refl i;
      settles = λ k g asking rr place o on firm t. same_rising c (settle c g asking rr place o) (keeps_settle c g asking rr place o).same h;
      answers = λ g. rising_same c _ refl refl refl refl h;
      joins = λ k g on. rising_same c _ refl refl refl refl h;
      ends = λ g _. record { zero_session = h.zero_session; second = λ k x. absurd (cc); asked = λ k x. absurd (cc) };
      cut_ends = λ k on _. record { zero_session = h.zero_session; second = λ k x. absurd (cc); asked = λ k x. absurd (cc) };
      cuts = λ k on more _. rising_same c _ refl refl refl refl h;
      goes = λ k te s y rest is token d. goes_on w k s y rest m r is token d h;
      accepts = λ k rr d. let f = accept_from (c.stage k) rr.status d in stage_put c _ k AskedTree refl refl refl refl
          (λ x. absurd (cc)) (λ x. h.second k f) h;
      binds = λ k talks o live. stage_put c _ k Apart refl refl refl refl (λ x. absurd (cc)) (λ x. absurd (cc)) h;
      begins = λ k tree at o dead. begins_at k tree at;
      leaves = λ k rs. stage_put c _ k Apart refl refl refl refl (λ x. absurd (cc)) (λ x. absurd (cc)) h;
      finishes = λ why _. rising_same c _ refl refl refl refl h;
    }) h
  where
    begins_at : (k tree : ℕ) → w.client.stage k ≡ AskedTree → Rising (begin_session w.client k w.client.pending tree)
    begins_at k tree at =
        record {
          zero_session = λ z. absurd (omega (arith, z));
          second = λ q. elim (q == k) as (λ t. q == k ≡ t → (if t then Apart else w.client.stage q) ≡ SaidSecond false
              → w.client.pending < w.client.pending) [
                | true ↦ λ e f. absurd (cc)
                | false ↦ λ e f. absurd (eqb-false q k e (one_making w.client q k m (ap makes_session f) (ap makes_session at)))
              ] refl;
          asked = λ q. elim (q == k) as (λ t. q == k ≡ t → (if t then Apart else w.client.stage q) ≡ AskedTree
              → w.client.pending < w.client.pending) [
                | true ↦ λ e f. absurd (cc)
                | false ↦ λ e f. absurd (eqb-false q k e (one_making w.client q k m (ap makes_session f) (ap makes_session at)))
              ] refl;
        }

-- ---- a dialog comes to its first SESSION_SETUP by a Take alone

pub record FirstBy (w : World) (e : Event) (d : Client) : Type 0 where
  pub first : (k : ℕ) → d.stage k ≡ SaidFirst false → ((w.client.stage k ≡ SaidFirst false) ⊎ (e ≡ Take k)) × d.session ≡ w.client.session

first_same : (w : World) (e : Event) (c d : Client) → d.stage ≡ c.stage → d.session ≡ c.session → FirstBy w e c → FirstBy w e d
first_same w e c d stage session h = record { first = λ k at. let i = h.first k (ap (λ f. f k) (sym stage) ∙ at) in (i.0, session ∙ i.1) }

first_put : (w : World) (e : Event) (d : Client) (k : ℕ) (s : Stage) → d.stage ≡ put w.client.stage k s → d.session
    ≡ w.client.session → s ≢ SaidFirst false → FirstBy w e d
first_put w e d k s stage session n = record { first = λ q at. (inl (by q (q == k) refl (ap (λ f. f q) (sym stage) ∙ at)), session) }
  where
    by : (q : ℕ) (t : Bool) → q == k ≡ t → (if t then s else w.client.stage q) ≡ SaidFirst false → w.client.stage q ≡ SaidFirst false
    by q true x f = absurd (n f)
    by q false x f = f

first_goes : (w : World) (e : Event) (k : ℕ) (s : Stage) (r : Reply) → e ≡ Take k → FirstBy w e (went_on w.client k s r)
first_goes w e k s r te =
    record {
      first = λ q. elim (q == k) as (λ t. q == k ≡ t → (if t then s else w.client.stage q) ≡ SaidFirst false
          → ((w.client.stage q ≡ SaidFirst false) ⊎ (e ≡ Take q)) × w.client.session ≡ w.client.session) [
            | true ↦ λ x f. (inr (te ∙ ap Take (sym (eqb-true q k x))), refl)
            | false ↦ λ x f. (inl f, refl)
          ] refl;
    }

pub first_by : (w : World) (e : Event) → Making w.client → FirstBy w e (happens w e).client
first_by w e m =
    let c = w.client in let i : FirstBy w e c = record { first = λ k at. (inl at, refl) } in
    client_keeps (FirstBy w e) w e (λ g op is may. first_same w e c _ refl refl i) (record {
      opens = λ k. first_put w e _ k (SaidNegotiate c.live) refl refl (λ x. absurd (cc));
      slotless = λ d k g l _ j. first_same w e d _ refl refl j;
      begins_op = λ d k g n may _ j. let s = (keeps_begun d k g n).same in
          first_same w e d (outstanding (begun d g n) k g) s.stage s.session j;
      asks = λ d k g may _ j. first_same w e d _ refl refl j;
      settles = λ k g asking rr place o on firm t. let s = (keeps_settle c g asking rr place o).same in
          first_same w e c (settle c g asking rr place o) s.stage s.session i;
      answers = λ g. first_same w e c _ refl refl i;
      joins = λ k g on. first_same w e c _ refl refl i;
      ends = λ g _. record { first = λ k at. absurd (cc) };
      cut_ends = λ k on _. record { first = λ q at. absurd (cc) };
      cuts = λ k on more _. first_same w e c _ refl refl i;
      goes = λ k te s y rest is token d. first_goes w e k s y.reply te;
      accepts = λ k rr d. first_put w e _ k AskedTree refl refl (λ x. absurd (cc));
      binds = λ k talks o live. first_put w e _ k Apart refl refl (λ x. absurd (cc));
      begins = λ k tree at o dead. record {
        first = λ q. elim (q == k) as (λ t. q == k ≡ t → (if t then Apart else c.stage q) ≡ SaidFirst false
            → ((c.stage q ≡ SaidFirst false) ⊎ (e ≡ Take q)) × c.pending ≡ c.session) [
              | true ↦ λ x f. absurd (cc)
              | false ↦ λ x f. absurd (eqb-false q k x (one_making c q k m (ap makes_session f) (ap makes_session at)))
            ] refl;
      };
      leaves = λ k rs. first_put w e _ k Apart refl refl (λ x. absurd (cc));
      finishes = λ why _. first_same w e c _ refl refl i;
    }) i

-- ---- the interim reply

pub above_given : (c : Client) (s : Server) → (c.session_number ≡ 0 → c.session ≡ 0)
    → (0 < c.session_number → 0 < c.rank c.session)
    → ((x : ℕ) → 0 < c.rank x → 0 < x × x ≤ id_of s.epoch s.session_ids_given) → c.session < id_of s.epoch
    (s.session_ids_given + 1)
above_given c s none ranked given = by c.session_number refl
  where
    by : (n : ℕ) → c.session_number ≡ n → c.session < id_of s.epoch (s.session_ids_given + 1)
    by zero e = let z = zero_is e in omega (arith, z)
      where
        zero_is : c.session_number ≡ 0 → c.session ≡ 0
        zero_is e = none e
    by (suc n) e = let l = (given c.session (ranked (omega (arith, e)))).1 in omega (arith, l)
