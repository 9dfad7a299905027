-- Written by tools/law_contents.py. The server moves without a message.
use Rattle.std.proofs.Common.{◌≡◌, ℕ, ◌<◌, true, arith, sym, subst, ◌∙◌, ap, Some, slice_get}
use Rattle.spec_exchange.specs.Order.{Log}
use Rattle.spec_exchange.specs.State.{Server}
use Rattle.spec_exchange.specs.Operations.{id_in, share_of}
use Rattle.spec_exchange.specs.Client.{Client, guid_for}
use Rattle.spec_exchange.specs.Network.{Conn, Sent, Received, Trace}
use Rattle.law_sessions.specs.sessions.Sessions.{is_ops}
use Rattle.law_order.specs.order.Contents.{Contents, bytes_after, file_at, CopyPair, NowPair, CreateReply, AttachReply}
use Rattle.law_order.specs.order.Contents.{Reached, ClosedReply, AttachRefused, SessionSeq, PendingAt, LiveUnsettled}
use Rattle.law_order.specs.order.Contents.{LiveReplay, Shows, Denied, NamedOpen, OpenGiven, OpenRow, Bytes}
use Rattle.law_order.proofs.order.Moved.{Moves, live_back}
use Rattle.law_order.proofs.order.Words.{ops_of, attach_of, still_gone}

moved_copy_pair : (c : Client) (conns : ℕ → Conn) (s : Server) (t : Trace) (l : Log) (a : ℕ → ℕ) (u : Server)
    → (Moves c.rank s u) → ((j n : ℕ) (x : Sent) → slice_get (conns j).up n ≡ Some x → is_ops x.token ≡ true
    → 0 < c.rank x.message.session_id) → CopyPair c conns s → CopyPair c conns u
moved_copy_pair c conns s t l a u go ranked i_copy_pair =
    λ j n p x h e ed. let old = i_copy_pair j n p x h e ed in let z = old.1 in let up = go.steps.ids in (
      go.steps.pair x.message.session_id 0 (file_at c p) (ranked j n x h (ops_of x.token p e)) old.1 old.0,
      omega (arith, z, up),
    )

moved_now_pair : (c : Client) (conns : ℕ → Conn) (s : Server) (t : Trace) (l : Log) (a : ℕ → ℕ) (u : Server)
    → (Moves c.rank s u) → (c.live ≡ true → 0 < c.rank c.session) → NowPair c s → NowPair c u
moved_now_pair c conns s t l a u go alive i_now_pair =
    λ q at lv. let old = i_now_pair q at lv in let z = old.1 in let up = go.steps.ids in
    (go.steps.pair c.session 0 (c.file q) (alive lv) old.1 old.0, omega (arith, z, up))

moved_create_reply : (c : Client) (conns : ℕ → Conn) (s : Server) (t : Trace) (l : Log) (a : ℕ → ℕ) (u : Server)
    → (Moves c.rank s u) → ((j n : ℕ) (y : Received) → slice_get (conns j).down n ≡ Some y → is_ops y.token ≡ true
    → 0 < c.rank c.session) → CreateReply c conns s t → CreateReply c conns u t
moved_create_reply c conns s t l a u go current i_create_reply =
    λ j n p y h e mk st. let old = i_create_reply j n p y h e mk st in let z = old.1 in let up = go.steps.ids in (
      go.steps.pair c.session 0 (id_in y.reply.body) (current j n y h (ops_of y.token p e)) old.1 old.0,
      omega (arith, z, up),
      old.2,
    )

moved_attach_reply : (c : Client) (conns : ℕ → Conn) (s : Server) (t : Trace) (l : Log) (a : ℕ → ℕ) (u : Server)
    → (Moves c.rank s u) → ((j n : ℕ) (y : Received) → slice_get (conns j).down n ≡ Some y → is_ops y.token ≡ true
    → 0 < c.rank c.session) → AttachReply c conns s → AttachReply c conns u
moved_attach_reply c conns s t l a u go current i_attach_reply =
    λ j n p y h e st. let old = i_attach_reply j n p y h e st in let z = old.1 in let up = go.steps.ids in (
      go.steps.pair c.session 0 (file_at c p) (current j n y h (attach_of y.token p e)) old.1 old.0,
      omega (arith, z, up),
    )

moved_reached : (c : Client) (conns : ℕ → Conn) (s : Server) (t : Trace) (l : Log) (a : ℕ → ℕ) (u : Server)
    → (Moves c.rank s u) → ((j n : ℕ) (y : Received) → slice_get (conns j).down n ≡ Some y → is_ops y.token ≡ true
    → 0 < c.rank c.session) → Reached c conns s → Reached c conns u
moved_reached c conns s t l a u go current i_reached =
    λ j n p y h e ed fm fin. let old = i_reached j n p y h e ed fm fin in let z = old.1 in let up = go.steps.ids in (
      go.steps.pair c.session (c.sequence_of p) (file_at c p) (current j n y h (ops_of y.token p e)) old.1 old.0,
      omega (arith, z, up),
    )

moved_closed_reply : (c : Client) (conns : ℕ → Conn) (s : Server) (t : Trace) (l : Log) (a : ℕ → ℕ) (u : Server)
    → (Moves c.rank s u) → ClosedReply c conns s → ClosedReply c conns u
moved_closed_reply c conns s t l a u go i_closed_reply =
    λ j n p y h e ed st. let old = i_closed_reply j n p y h e ed st in let z = old.1 in let up = go.steps.ids in (
      still_gone (u.standing (file_at c p)) (s.standing (file_at c p)) (go.steps.stands (file_at c p) old.1) old.0,
      omega (arith, z, up),
    )

moved_attach_refused : (c : Client) (conns : ℕ → Conn) (s : Server) (t : Trace) (l : Log) (a : ℕ → ℕ) (u : Server)
    → (Moves c.rank s u) → AttachRefused c conns s → AttachRefused c conns u
moved_attach_refused c conns s t l a u go i_attach_refused =
    λ j n p y h e ed s1 s2. let old = i_attach_refused j n p y h e ed s1 s2 in let z = old.1 in let up = go.steps.ids in (
      still_gone (u.standing (file_at c p)) (s.standing (file_at c p)) (go.steps.stands (file_at c p) old.1) old.0,
      omega (arith, z, up),
    )

moved_session_seq : (c : Client) (conns : ℕ → Conn) (s : Server) (t : Trace) (l : Log) (a : ℕ → ℕ) (u : Server)
    → (Moves c.rank s u) → SessionSeq c s → SessionSeq c u
moved_session_seq c conns s t l a u go i_session_seq =
    λ o lv at. let m = go.session_of_open o c.session at in let old = i_session_seq o lv m.0 in let z = m.1 in omega (arith, old, z)

moved_pending_at : (c : Client) (conns : ℕ → Conn) (s : Server) (t : Trace) (l : Log) (a : ℕ → ℕ) (u : Server)
    → (Moves c.rank s u) → PendingAt c s → PendingAt c u
moved_pending_at c conns s t l a u go i_pending_at =
    λ o j sg e. i_pending_at o j sg (go.session_of_open o c.pending e).0

moved_live_unsettled : (c : Client) (conns : ℕ → Conn) (s : Server) (t : Trace) (l : Log) (a : ℕ → ℕ) (u : Server)
    → (Moves c.rank s u) → ((j n : ℕ) (x : Sent) → slice_get (conns j).up n ≡ Some x → is_ops x.token ≡ true
    → 0 < c.rank x.message.session_id) → LiveUnsettled c conns s → CopyPair c conns s → LiveUnsettled c conns u
moved_live_unsettled c conns s t l a u go ranked i_live_unsettled i_copy_pair =
    λ j n p x h e ed fm sd pr le. let r = ranked j n x h (ops_of x.token p e) in let cp = i_copy_pair j n p x h e ed in
    let b = live_back c.rank s u x.message.session_id x.message.channel_sequence (file_at c p) go.steps r cp.1 cp.0
    sd pr le in i_live_unsettled j n p x h e ed fm b.0 b.1 b.2

moved_live_replay : (c : Client) (conns : ℕ → Conn) (s : Server) (t : Trace) (l : Log) (a : ℕ → ℕ) (u : Server)
    → (Moves c.rank s u) → ((j n : ℕ) (x : Sent) → slice_get (conns j).up n ≡ Some x → is_ops x.token ≡ true
    → 0 < c.rank x.message.session_id) → LiveReplay c conns s l → CopyPair c conns s → LiveReplay c conns u l
moved_live_replay c conns s t l a u go ranked i_live_replay i_copy_pair =
    λ j n p x h e ed sd pr le. let r = ranked j n x h (ops_of x.token p e) in let cp = i_copy_pair j n p x h e ed in
    let b = live_back c.rank s u x.message.session_id x.message.channel_sequence (file_at c p) go.steps r cp.1 cp.0
    sd pr le in i_live_replay j n p x h e ed b.0 b.1 b.2

moved_shows : (c : Client) (conns : ℕ → Conn) (s : Server) (t : Trace) (l : Log) (a : ℕ → ℕ) (u : Server)
    → (Moves c.rank s u) → Shows c s l → Shows c u l
moved_shows c conns s t l a u go i_shows =
    λ p ed iso sd pe so. let g = go.given (file_at c p) sd in let st = go.steps.stands (file_at c p) g sd in let row =
    go.steps.row (file_at c p) g sd in subst (λ f. bytes_after (c.op p) (f (u.opened (file_at c p)).file)
    ≡ f (u.opened (file_at c p)).file) (sym go.content)
    (subst (λ r. bytes_after (c.op p) (s.content r.file) ≡ s.content r.file) (sym row) (i_shows p ed iso st pe so))

moved_denied : (c : Client) (conns : ℕ → Conn) (s : Server) (t : Trace) (l : Log) (a : ℕ → ℕ) (u : Server)
    → (Moves c.rank s u) → Denied s → Denied u
moved_denied c conns s t l a u go i_denied =
    λ o p so sp ne fe dn. let go1 = go.given o so in let gp = go.given p sp in let ro = go.steps.row o go1 so in
    let rp = go.steps.row p gp sp in let old = i_denied o p (go.steps.stands o go1 so) (go.steps.stands p gp sp) ne
    in grind arith

moved_named_open : (c : Client) (conns : ℕ → Conn) (s : Server) (t : Trace) (l : Log) (a : ℕ → ℕ) (u : Server)
    → (Moves c.rank s u) → NamedOpen c s t → NamedOpen c u t
moved_named_open c conns s t l a u go i_named_open =
    λ q o e. i_named_open q o (go.guid c.who.guid (guid_for c q) o e)

moved_open_given : (c : Client) (conns : ℕ → Conn) (s : Server) (t : Trace) (l : Log) (a : ℕ → ℕ) (u : Server)
    → (Moves c.rank s u) → OpenGiven c s t → OpenGiven c u t
moved_open_given c conns s t l a u go i_open_given =
    λ q o e. let old = i_open_given q o e in let z = old.0 in let up = go.steps.ids in (omega (arith, z, up), old.1, old.2)

moved_open_row : (c : Client) (conns : ℕ → Conn) (s : Server) (t : Trace) (l : Log) (a : ℕ → ℕ) (u : Server)
    → (Moves c.rank s u) → OpenRow c s t → OpenGiven c s t → OpenRow c u t
moved_open_row c conns s t l a u go i_open_row i_open_given =
    λ q o e st. let g = i_open_given q o e in let row = go.steps.row o g.0 st in let old = i_open_row q o e
    (go.steps.stands o g.0 st) in subst (λ r. r.create_guid ≡ Some (guid_for c q) × r.client_guid ≡ c.who.guid
    × r.share ≡ share_of (c.op q)) (sym row) old

moved_bytes : (c : Client) (conns : ℕ → Conn) (s : Server) (t : Trace) (l : Log) (a : ℕ → ℕ) (u : Server)
    → (Moves c.rank s u) → Bytes s t l → Bytes u t l
moved_bytes c conns s t l a u go i_bytes =
    λ q o e st. let g = go.given o st in let row = go.steps.row o g st in i_bytes q o e (go.steps.stands o g st)
    ∙ (ap (λ r. s.content r.file) (sym row) ∙ ap (λ f. f (u.opened o).file) (sym go.content))

pub moved_keeps : (c : Client) (conns : ℕ → Conn) (s : Server) (t : Trace) (l : Log) (a : ℕ → ℕ) (u : Server)
    → (Moves c.rank s u) → ((j n : ℕ) (x : Sent) → slice_get (conns j).up n ≡ Some x → is_ops x.token ≡ true
    → 0 < c.rank x.message.session_id) → ((j n : ℕ) (y : Received) → slice_get (conns j).down n ≡ Some y
    → is_ops y.token ≡ true → 0 < c.rank c.session) → (c.live ≡ true → 0 < c.rank c.session) → Contents c conns s t l a
    → Contents c conns u t l a
moved_keeps c conns s t l a u go ranked current alive i =
    record {
      token_up = i.token_up;
      token_down = i.token_down;
      opens_up = i.opens_up;
      asked_as = i.asked_as;
      lost_unknown = i.lost_unknown;
      lost_dead = i.lost_dead;
      lost_known = i.lost_known;
      lost_asked = i.lost_asked;
      session_known = i.session_known;
      session_asked = i.session_asked;
      pairwise = i.pairwise;
      first_up = i.first_up;
      unacted = i.unacted;
      fresh_first = i.fresh_first;
      not_done = i.not_done;
      cut_seq = i.cut_seq;
      open_seq = i.open_seq;
      older = i.older;
      no_replay = i.no_replay;
      copy_pair = moved_copy_pair c conns s t l a u go ranked i.copy_pair;
      now_pair = moved_now_pair c conns s t l a u go alive i.now_pair;
      create_reply = moved_create_reply c conns s t l a u go current i.create_reply;
      attach_reply = moved_attach_reply c conns s t l a u go current i.attach_reply;
      reached = moved_reached c conns s t l a u go current i.reached;
      closed_reply = moved_closed_reply c conns s t l a u go i.closed_reply;
      attach_refused = moved_attach_refused c conns s t l a u go i.attach_refused;
      stale_reply = i.stale_reply;
      session_seq = moved_session_seq c conns s t l a u go i.session_seq;
      pending_at = moved_pending_at c conns s t l a u go i.pending_at;
      live_unsettled = moved_live_unsettled c conns s t l a u go ranked i.live_unsettled i.copy_pair;
      live_replay = moved_live_replay c conns s t l a u go ranked i.live_replay i.copy_pair;
      shows = moved_shows c conns s t l a u go i.shows;
      denied = moved_denied c conns s t l a u go i.denied;
      open_of = i.open_of;
      named_open = moved_named_open c conns s t l a u go i.named_open;
      open_given = moved_open_given c conns s t l a u go i.open_given;
      open_row = moved_open_row c conns s t l a u go i.open_row i.open_given;
      open_acted = i.open_acted;
      bytes = moved_bytes c conns s t l a u go i.bytes;
      quiet = i.quiet;
      foreign = i.foreign;
      acted = i.acted;
      gave = i.gave;
      gave_end = i.gave_end;
      whose = i.whose;
      born = i.born;
      birth_le = i.birth_le;
      first_at = i.first_at;
      by = i.by;
      by_ok = i.by_ok;
      by_end = i.by_end;
      by_some = i.by_some;
      replies = i.replies;
      attach_status = i.attach_status;
      since_le = i.since_le;
      since_reply = i.since_reply;
      since_by = i.since_by;
      since_first = i.since_first;
      prior = i.prior;
      prior_by = i.prior_by;
      prior_first = i.prior_first;
    }
