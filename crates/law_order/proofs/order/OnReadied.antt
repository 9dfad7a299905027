-- Written by tools/law_contents.py. A session is ready.
use Rattle.std.proofs.Common.{◌≡◌, ◌≢◌, ℕ, ◌≤◌, ◌<◌, true, false, refl, arith, Some, slice_get}
use Rattle.spec_exchange.specs.Table.{is_at}
use Rattle.spec_exchange.specs.Order.{Log}
use Rattle.spec_exchange.specs.State.{Server, Reply}
use Rattle.spec_exchange.specs.Client.{Client, Apart, AskedTree, asked, begin_session}
use Rattle.spec_exchange.specs.Network.{Conn, Sent, Received, Trace}
use Rattle.law_sessions.specs.sessions.Sessions.{is_ops}
use Rattle.law_order.specs.order.Contents.{Contents, LostDead, LostAsked, SessionKnown, SessionAsked, Pairwise, CutSeq, Older}
use Rattle.law_order.specs.order.Contents.{NowPair, CreateReply, AttachReply, Reached, StaleReply, SessionSeq, PendingAt}
use Rattle.law_order.specs.order.Contents.{LiveUnsettled, Shows}
use Rattle.law_order.proofs.order.Words.{ops_of, attach_of, unput, begun_was}

readied_lost_dead : (c : Client) (conns : ℕ → Conn) (s : Server) (t : Trace) (l : Log) (a : ℕ → ℕ) (k : ℕ) (r : Reply)
    → (c.stage k ≡ AskedTree) → (0 < c.rank c.pending) → LostDead c → LostAsked c
    → LostDead (begin_session c k c.pending r.tree_id)
readied_lost_dead c conns s t l a k r asked ranked i_lost_dead i_lost_asked =
    λ p gu. absurd (i_lost_asked p k c.pending asked gu refl)

readied_lost_asked : (c : Client) (conns : ℕ → Conn) (s : Server) (t : Trace) (l : Log) (a : ℕ → ℕ) (k : ℕ) (r : Reply)
    → (c.stage k ≡ AskedTree) → (0 < c.rank c.pending) → LostAsked c → LostAsked (begin_session c k c.pending r.tree_id)
readied_lost_asked c conns s t l a k r asked ranked i_lost_asked =
    λ p j z. let old = i_lost_asked p j z in grind arith

readied_session_known : (c : Client) (conns : ℕ → Conn) (s : Server) (t : Trace) (l : Log) (a : ℕ → ℕ) (k : ℕ)
    (r : Reply) → (c.stage k ≡ AskedTree) → (0 < c.rank c.pending) → SessionKnown c
    → SessionKnown (begin_session c k c.pending r.tree_id)
readied_session_known c conns s t l a k r asked ranked i_session_known =
    let old = i_session_known in grind arith

readied_session_asked : (c : Client) (conns : ℕ → Conn) (s : Server) (t : Trace) (l : Log) (a : ℕ → ℕ) (k : ℕ)
    (r : Reply) → (c.stage k ≡ AskedTree) → (0 < c.rank c.pending) → ((j : ℕ) → j ≢ k → c.stage j ≢ AskedTree)
    → SessionAsked c → SessionAsked (begin_session c k c.pending r.tree_id)
readied_session_asked c conns s t l a k r asked ranked alone i_session_asked =
    λ j sg e. let u = unput c.stage k Apart j AskedTree (λ z. absurd (cc)) sg in absurd (alone j u.0 u.1)

readied_pairwise : (c : Client) (conns : ℕ → Conn) (s : Server) (t : Trace) (l : Log) (a : ℕ → ℕ) (k : ℕ) (r : Reply)
    → (c.stage k ≡ AskedTree) → (0 < c.rank c.pending) → Pairwise c → LostAsked c
    → Pairwise (begin_session c k c.pending r.tree_id)
readied_pairwise c conns s t l a k r asked ranked i_pairwise i_lost_asked =
    λ p q lt st e1 e2 cr u1 u2. i_pairwise p q lt st e1 e2 cr (begun_was (c.outcome p) (c.given_up p) c.pending
    (is_at c.session (c.given_up p)) (λ gu. i_lost_asked p k c.pending asked gu refl) u1)
    (begun_was (c.outcome q) (c.given_up q) c.pending (is_at c.session (c.given_up q))
    (λ gu. i_lost_asked q k c.pending asked gu refl) u2)

readied_cut_seq : (c : Client) (conns : ℕ → Conn) (s : Server) (t : Trace) (l : Log) (a : ℕ → ℕ) (k : ℕ) (r : Reply)
    → (c.stage k ≡ AskedTree) → (0 < c.rank c.pending) → ((j n : ℕ) (x : Sent) → slice_get (conns j).up n ≡ Some x
    → is_ops x.token ≡ true → x.message.session_id ≢ c.pending × s.present x.message.session_id ≡ false)
    → CutSeq c conns → CutSeq (begin_session c k c.pending r.tree_id) conns
readied_cut_seq c conns s t l a k r asked ranked gone i_cut_seq =
    λ j n p x h e ed op lv se. absurd ((gone j n x h (ops_of x.token p e)).0 se)

readied_older : (c : Client) (conns : ℕ → Conn) (s : Server) (t : Trace) (l : Log) (a : ℕ → ℕ) (k : ℕ) (r : Reply)
    → (c.stage k ≡ AskedTree) → (0 < c.rank c.pending) → ((j n : ℕ) (x : Sent) → slice_get (conns j).up n ≡ Some x
    → is_ops x.token ≡ true → x.message.session_id ≢ c.pending × s.present x.message.session_id ≡ false) → Older c conns
    → Older (begin_session c k c.pending r.tree_id) conns
readied_older c conns s t l a k r asked ranked gone i_older =
    λ j n i p x h e ed as_ on ne se. absurd ((gone j n x h (ops_of x.token p e)).0 se)

readied_now_pair : (c : Client) (conns : ℕ → Conn) (s : Server) (t : Trace) (l : Log) (a : ℕ → ℕ) (k : ℕ) (r : Reply)
    → (c.stage k ≡ AskedTree) → (0 < c.rank c.pending) → ((q : ℕ) → c.attached q ≤ c.session_number) → NowPair c s
    → NowPair (begin_session c k c.pending r.tree_id) s
readied_now_pair c conns s t l a k r asked ranked numbered i_now_pair =
    λ q at lv. absurd (let n = numbered q in omega (arith, n, at))

readied_create_reply : (c : Client) (conns : ℕ → Conn) (s : Server) (t : Trace) (l : Log) (a : ℕ → ℕ) (k : ℕ)
    (r : Reply) → (c.stage k ≡ AskedTree) → (0 < c.rank c.pending)
    → ((j n : ℕ) (y : Received) → slice_get (conns j).down n ≡ Some y → is_ops y.token ≡ false)
    → CreateReply c conns s t → CreateReply (begin_session c k c.pending r.tree_id) conns s t
readied_create_reply c conns s t l a k r asked ranked none i_create_reply =
    λ j n p y h e. absurd (let z = none j n y h in let w = ops_of y.token p e in grind arith)

readied_attach_reply : (c : Client) (conns : ℕ → Conn) (s : Server) (t : Trace) (l : Log) (a : ℕ → ℕ) (k : ℕ)
    (r : Reply) → (c.stage k ≡ AskedTree) → (0 < c.rank c.pending)
    → ((j n : ℕ) (y : Received) → slice_get (conns j).down n ≡ Some y → is_ops y.token ≡ false) → AttachReply c conns s
    → AttachReply (begin_session c k c.pending r.tree_id) conns s
readied_attach_reply c conns s t l a k r asked ranked none i_attach_reply =
    λ j n p y h e. absurd (let z = none j n y h in let w = attach_of y.token p e in grind arith)

readied_reached : (c : Client) (conns : ℕ → Conn) (s : Server) (t : Trace) (l : Log) (a : ℕ → ℕ) (k : ℕ) (r : Reply)
    → (c.stage k ≡ AskedTree) → (0 < c.rank c.pending) → ((j n : ℕ) (y : Received) → slice_get (conns j).down n ≡ Some y
    → is_ops y.token ≡ false) → Reached c conns s → Reached (begin_session c k c.pending r.tree_id) conns s
readied_reached c conns s t l a k r asked ranked none i_reached =
    λ j n p y h e. absurd (let z = none j n y h in let w = ops_of y.token p e in grind arith)

readied_stale_reply : (c : Client) (conns : ℕ → Conn) (s : Server) (t : Trace) (l : Log) (a : ℕ → ℕ) (k : ℕ) (r : Reply)
    → (c.stage k ≡ AskedTree) → (0 < c.rank c.pending) → ((j n : ℕ) (y : Received) → slice_get (conns j).down n ≡ Some y
    → is_ops y.token ≡ false) → StaleReply c conns → StaleReply (begin_session c k c.pending r.tree_id) conns
readied_stale_reply c conns s t l a k r asked ranked none i_stale_reply =
    λ j n p y h e. absurd (let z = none j n y h in let w = ops_of y.token p e in grind arith)

readied_session_seq : (c : Client) (conns : ℕ → Conn) (s : Server) (t : Trace) (l : Log) (a : ℕ → ℕ) (k : ℕ) (r : Reply)
    → (c.stage k ≡ AskedTree) → (0 < c.rank c.pending) → SessionSeq c s → PendingAt c s
    → SessionSeq (begin_session c k c.pending r.tree_id) s
readied_session_seq c conns s t l a k r asked ranked i_session_seq i_pending_at =
    λ o lv at. absurd (i_pending_at o k asked at)

readied_pending_at : (c : Client) (conns : ℕ → Conn) (s : Server) (t : Trace) (l : Log) (a : ℕ → ℕ) (k : ℕ) (r : Reply)
    → (c.stage k ≡ AskedTree) → (0 < c.rank c.pending) → PendingAt c s
    → PendingAt (begin_session c k c.pending r.tree_id) s
readied_pending_at c conns s t l a k r asked ranked i_pending_at =
    λ o j. let old = i_pending_at o j in grind arith

readied_live_unsettled : (c : Client) (conns : ℕ → Conn) (s : Server) (t : Trace) (l : Log) (a : ℕ → ℕ) (k : ℕ)
    (r : Reply) → (c.stage k ≡ AskedTree) → (0 < c.rank c.pending) → ((j n : ℕ) (x : Sent) → slice_get (conns j).up n
    ≡ Some x → is_ops x.token ≡ true → x.message.session_id ≢ c.pending × s.present x.message.session_id ≡ false)
    → LiveUnsettled c conns s → LiveUnsettled (begin_session c k c.pending r.tree_id) conns s
readied_live_unsettled c conns s t l a k r asked ranked gone i_live_unsettled =
    λ j n p x h e ed fm sd pr le. absurd (let z = (gone j n x h (ops_of x.token p e)).1 in grind arith)

readied_shows : (c : Client) (conns : ℕ → Conn) (s : Server) (t : Trace) (l : Log) (a : ℕ → ℕ) (k : ℕ) (r : Reply)
    → (c.stage k ≡ AskedTree) → (0 < c.rank c.pending) → Shows c s l → LostAsked c
    → Shows (begin_session c k c.pending r.tree_id) s l
readied_shows c conns s t l a k r asked ranked i_shows i_lost_asked =
    λ p ed iso sd pe so. i_shows p ed iso sd (begun_was (c.outcome p) (c.given_up p) c.pending
    (is_at c.session (c.given_up p)) (λ gu. i_lost_asked p k c.pending asked gu refl) pe) so

pub readied_keeps : (c : Client) (conns : ℕ → Conn) (s : Server) (t : Trace) (l : Log) (a : ℕ → ℕ) (k : ℕ) (r : Reply)
    → (c.stage k ≡ AskedTree) → (0 < c.rank c.pending) → ((j : ℕ) → j ≢ k → c.stage j ≢ AskedTree)
    → ((q : ℕ) → c.attached q ≤ c.session_number) → ((j n : ℕ) (y : Received) → slice_get (conns j).down n ≡ Some y
    → is_ops y.token ≡ false) → ((j n : ℕ) (x : Sent) → slice_get (conns j).up n ≡ Some x → is_ops x.token ≡ true
    → x.message.session_id ≢ c.pending × s.present x.message.session_id ≡ false) → Contents c conns s t l a
    → Contents (begin_session c k c.pending r.tree_id) conns s t l a
readied_keeps c conns s t l a k r asked ranked alone numbered none gone i =
    record {
      token_up = i.token_up;
      token_down = i.token_down;
      opens_up = i.opens_up;
      asked_as = i.asked_as;
      lost_unknown = i.lost_unknown;
      lost_dead = readied_lost_dead c conns s t l a k r asked ranked i.lost_dead i.lost_asked;
      lost_known = i.lost_known;
      lost_asked = readied_lost_asked c conns s t l a k r asked ranked i.lost_asked;
      session_known = readied_session_known c conns s t l a k r asked ranked i.session_known;
      session_asked = readied_session_asked c conns s t l a k r asked ranked alone i.session_asked;
      pairwise = readied_pairwise c conns s t l a k r asked ranked i.pairwise i.lost_asked;
      first_up = i.first_up;
      unacted = i.unacted;
      fresh_first = i.fresh_first;
      not_done = i.not_done;
      cut_seq = readied_cut_seq c conns s t l a k r asked ranked gone i.cut_seq;
      open_seq = i.open_seq;
      older = readied_older c conns s t l a k r asked ranked gone i.older;
      no_replay = i.no_replay;
      copy_pair = i.copy_pair;
      now_pair = readied_now_pair c conns s t l a k r asked ranked numbered i.now_pair;
      create_reply = readied_create_reply c conns s t l a k r asked ranked none i.create_reply;
      attach_reply = readied_attach_reply c conns s t l a k r asked ranked none i.attach_reply;
      reached = readied_reached c conns s t l a k r asked ranked none i.reached;
      closed_reply = i.closed_reply;
      attach_refused = i.attach_refused;
      stale_reply = readied_stale_reply c conns s t l a k r asked ranked none i.stale_reply;
      session_seq = readied_session_seq c conns s t l a k r asked ranked i.session_seq i.pending_at;
      pending_at = readied_pending_at c conns s t l a k r asked ranked i.pending_at;
      live_unsettled = readied_live_unsettled c conns s t l a k r asked ranked gone i.live_unsettled;
      live_replay = i.live_replay;
      shows = readied_shows c conns s t l a k r asked ranked i.shows i.lost_asked;
      denied = i.denied;
      open_of = i.open_of;
      named_open = i.named_open;
      open_given = i.open_given;
      open_row = i.open_row;
      open_acted = i.open_acted;
      bytes = i.bytes;
      quiet = i.quiet;
      foreign = i.foreign;
      acted = i.acted;
      gave = i.gave;
      gave_end = i.gave_end;
      whose = i.whose;
      born = i.born;
      birth_le = i.birth_le;
      first_at = i.first_at;
      by = i.by;
      by_ok = i.by_ok;
      by_end = i.by_end;
      by_some = i.by_some;
      replies = i.replies;
      attach_status = i.attach_status;
      since_le = i.since_le;
      since_reply = i.since_reply;
      since_by = i.since_by;
      since_first = i.since_first;
      prior = i.prior;
      prior_by = i.prior_by;
      prior_first = i.prior_first;
    }
