-- Written by tools/law_contents.py. A reply is on its way.
use Rattle.std.proofs.Common.{◌≡◌, ℕ, ◌≤◌, ◌<◌, ◌==◌, true, false, [], ◌∷◌, ◌++◌, arith, sym, subst, Some, None}
use Rattle.spec_exchange.specs.Table.{put}
use Rattle.spec_exchange.specs.Status.{success, file_not_available, file_closed, user_session_deleted, end_of_file}
use Rattle.spec_exchange.specs.Order.{Log}
use Rattle.spec_exchange.specs.State.{Server}
use Rattle.spec_exchange.specs.Operations.{id_in}
use Rattle.spec_exchange.specs.Client.{Client}
use Rattle.spec_exchange.specs.Network.{Conn, Received, Trace, ForOp, ForAttach, op_of, said}
use Rattle.law_sessions.specs.messages.Connections.{makes_open}
use Rattle.law_sessions.proofs.messages.Lists.{get-push}
use Rattle.law_sessions.specs.sessions.Sessions.{is_ops}
use Rattle.law_order.specs.order.Newest.{Pair}
use Rattle.law_order.specs.order.Contents.{Contents, edits, formed, file_at, last_id, is_final, TokenUp, TokenDown, OpensUp}
use Rattle.law_order.specs.order.Contents.{AskedAs, FirstUp, NotDone, CutSeq, OpenSeq, Older, NoReplay, CopyPair, CreateReply}
use Rattle.law_order.specs.order.Contents.{AttachReply, Reached, ClosedReply, AttachRefused, StaleReply, LiveUnsettled}
use Rattle.law_order.specs.order.Contents.{LiveReplay, Replies, AttachStatus, SinceReply}
use Rattle.law_order.proofs.order.Words.{or_else, sent_down}

say_token_up : (c : Client) (conns : ℕ → Conn) (s : Server) (t : Trace) (l : Log) (a : ℕ → ℕ) (k : ℕ) (y0 : Received)
    → TokenUp c conns → TokenUp c (put conns k (record (conns k) { down = (conns k).down ++ y0 ∷ [] }))
say_token_up c conns s t l a k y0 i_token_up =
    λ j n x. let old = i_token_up j n x in grind (arith, get-push)

say_token_down : (c : Client) (conns : ℕ → Conn) (s : Server) (t : Trace) (l : Log) (a : ℕ → ℕ) (k : ℕ) (y0 : Received)
    → (is_ops y0.token ≡ true → 0 < op_of y0.token × op_of y0.token ≤ c.taken) → TokenDown c conns
    → TokenDown c (put conns k (record (conns k) { down = (conns k).down ++ y0 ∷ [] }))
say_token_down c conns s t l a k y0 said_token_down i_token_down =
    λ j n y h. or_else (sent_down conns k y0 j n y h) (λ o. i_token_down j n y o)
    (λ z. subst (λ (y : Received). is_ops y.token ≡ true → 0 < op_of y.token × op_of y.token ≤ c.taken) (sym z)
    (said_token_down))

say_opens_up : (c : Client) (conns : ℕ → Conn) (s : Server) (t : Trace) (l : Log) (a : ℕ → ℕ) (k : ℕ) (y0 : Received)
    → OpensUp c conns → OpensUp c (put conns k (record (conns k) { down = (conns k).down ++ y0 ∷ [] }))
say_opens_up c conns s t l a k y0 i_opens_up =
    λ j n x. let old = i_opens_up j n x in grind (arith, get-push)

say_asked_as : (c : Client) (conns : ℕ → Conn) (s : Server) (t : Trace) (l : Log) (a : ℕ → ℕ) (k : ℕ) (y0 : Received)
    → AskedAs c conns → AskedAs c (put conns k (record (conns k) { down = (conns k).down ++ y0 ∷ [] }))
say_asked_as c conns s t l a k y0 i_asked_as =
    λ j n p x. let old = i_asked_as j n p x in grind (arith, get-push)

say_first_up : (c : Client) (conns : ℕ → Conn) (s : Server) (t : Trace) (l : Log) (a : ℕ → ℕ) (k : ℕ) (y0 : Received)
    → FirstUp c conns l → FirstUp c (put conns k (record (conns k) { down = (conns k).down ++ y0 ∷ [] })) l
say_first_up c conns s t l a k y0 i_first_up =
    λ j n p x. let old = i_first_up j n p x in grind (arith, get-push)

say_not_done : (c : Client) (conns : ℕ → Conn) (s : Server) (t : Trace) (l : Log) (a : ℕ → ℕ) (k : ℕ) (y0 : Received)
    → ((p : ℕ) → y0.token ≡ ForOp p → edits (c.op p) ≡ true → (y0.reply.status == success) ≡ false → c.unanswered p
    ≡ false → l.first p ≡ None) → NotDone c conns l
    → NotDone c (put conns k (record (conns k) { down = (conns k).down ++ y0 ∷ [] })) l
say_not_done c conns s t l a k y0 said_not_done i_not_done =
    λ j n p y h. or_else (sent_down conns k y0 j n y h) (λ o. i_not_done j n p y o)
    (λ z. subst (λ (y : Received). y.token ≡ ForOp p → edits (c.op p) ≡ true → (y.reply.status == success) ≡ false
    → c.unanswered p ≡ false → l.first p ≡ None) (sym z) (said_not_done p))

say_cut_seq : (c : Client) (conns : ℕ → Conn) (s : Server) (t : Trace) (l : Log) (a : ℕ → ℕ) (k : ℕ) (y0 : Received)
    → CutSeq c conns → CutSeq c (put conns k (record (conns k) { down = (conns k).down ++ y0 ∷ [] }))
say_cut_seq c conns s t l a k y0 i_cut_seq =
    λ j n p x. let old = i_cut_seq j n p x in grind (arith, get-push)

say_open_seq : (c : Client) (conns : ℕ → Conn) (s : Server) (t : Trace) (l : Log) (a : ℕ → ℕ) (k : ℕ) (y0 : Received)
    → OpenSeq c conns → OpenSeq c (put conns k (record (conns k) { down = (conns k).down ++ y0 ∷ [] }))
say_open_seq c conns s t l a k y0 i_open_seq =
    λ j n p x. let old = i_open_seq j n p x in grind (arith, get-push)

say_older : (c : Client) (conns : ℕ → Conn) (s : Server) (t : Trace) (l : Log) (a : ℕ → ℕ) (k : ℕ) (y0 : Received)
    → Older c conns → Older c (put conns k (record (conns k) { down = (conns k).down ++ y0 ∷ [] }))
say_older c conns s t l a k y0 i_older =
    λ j n i p x. let old = i_older j n i p x in grind (arith, get-push)

say_no_replay : (c : Client) (conns : ℕ → Conn) (s : Server) (t : Trace) (l : Log) (a : ℕ → ℕ) (k : ℕ) (y0 : Received)
    → NoReplay c conns → NoReplay c (put conns k (record (conns k) { down = (conns k).down ++ y0 ∷ [] }))
say_no_replay c conns s t l a k y0 i_no_replay =
    λ j n i q p u x. let old = i_no_replay j n i q p u x in grind (arith, get-push)

say_copy_pair : (c : Client) (conns : ℕ → Conn) (s : Server) (t : Trace) (l : Log) (a : ℕ → ℕ) (k : ℕ) (y0 : Received)
    → CopyPair c conns s → CopyPair c (put conns k (record (conns k) { down = (conns k).down ++ y0 ∷ [] })) s
say_copy_pair c conns s t l a k y0 i_copy_pair =
    λ j n p x. let old = i_copy_pair j n p x in grind (arith, get-push)

say_create_reply : (c : Client) (conns : ℕ → Conn) (s : Server) (t : Trace) (l : Log) (a : ℕ → ℕ) (k : ℕ)
    (y0 : Received) → ((p : ℕ) → y0.token ≡ ForOp p → makes_open (c.op p) ≡ true → y0.reply.status ≡ success
    → Pair s c.session 0 (id_in y0.reply.body) × id_in y0.reply.body ≤ last_id s × t.open_of p
    ≡ Some (id_in y0.reply.body)) → CreateReply c conns s t
    → CreateReply c (put conns k (record (conns k) { down = (conns k).down ++ y0 ∷ [] })) s t
say_create_reply c conns s t l a k y0 said_create_reply i_create_reply =
    λ j n p y h. or_else (sent_down conns k y0 j n y h) (λ o. i_create_reply j n p y o)
    (λ z. subst (λ (y : Received). y.token ≡ ForOp p → makes_open (c.op p) ≡ true → y.reply.status ≡ success
    → Pair s c.session 0 (id_in y.reply.body) × id_in y.reply.body ≤ last_id s × t.open_of p
    ≡ Some (id_in y.reply.body)) (sym z) (said_create_reply p))

say_attach_reply : (c : Client) (conns : ℕ → Conn) (s : Server) (t : Trace) (l : Log) (a : ℕ → ℕ) (k : ℕ)
    (y0 : Received) → ((p : ℕ) → y0.token ≡ ForAttach p → y0.reply.status ≡ success → Pair s c.session 0 (file_at c p)
    × file_at c p ≤ last_id s) → AttachReply c conns s
    → AttachReply c (put conns k (record (conns k) { down = (conns k).down ++ y0 ∷ [] })) s
say_attach_reply c conns s t l a k y0 said_attach_reply i_attach_reply =
    λ j n p y h. or_else (sent_down conns k y0 j n y h) (λ o. i_attach_reply j n p y o)
    (λ z. subst (λ (y : Received). y.token ≡ ForAttach p → y.reply.status ≡ success
    → Pair s c.session 0 (file_at c p) × file_at c p ≤ last_id s) (sym z) (said_attach_reply p))

say_reached : (c : Client) (conns : ℕ → Conn) (s : Server) (t : Trace) (l : Log) (a : ℕ → ℕ) (k : ℕ) (y0 : Received)
    → ((p : ℕ) → y0.token ≡ ForOp p → edits (c.op p) ≡ true → formed (c.op p) ≡ true → is_final y0.reply.status ≡ true
    → Pair s c.session (c.sequence_of p) (file_at c p) × file_at c p ≤ last_id s) → Reached c conns s
    → Reached c (put conns k (record (conns k) { down = (conns k).down ++ y0 ∷ [] })) s
say_reached c conns s t l a k y0 said_reached i_reached =
    λ j n p y h. or_else (sent_down conns k y0 j n y h) (λ o. i_reached j n p y o)
    (λ z. subst (λ (y : Received). y.token ≡ ForOp p → edits (c.op p) ≡ true → formed (c.op p) ≡ true
    → is_final y.reply.status ≡ true → Pair s c.session (c.sequence_of p) (file_at c p) × file_at c p ≤ last_id s)
    (sym z) (said_reached p))

say_closed_reply : (c : Client) (conns : ℕ → Conn) (s : Server) (t : Trace) (l : Log) (a : ℕ → ℕ) (k : ℕ)
    (y0 : Received) → ((p : ℕ) → y0.token ≡ ForOp p → edits (c.op p) ≡ true → y0.reply.status ≡ file_closed
    → s.standing (file_at c p) ≡ false × file_at c p ≤ last_id s) → ClosedReply c conns s
    → ClosedReply c (put conns k (record (conns k) { down = (conns k).down ++ y0 ∷ [] })) s
say_closed_reply c conns s t l a k y0 said_closed_reply i_closed_reply =
    λ j n p y h. or_else (sent_down conns k y0 j n y h) (λ o. i_closed_reply j n p y o)
    (λ z. subst (λ (y : Received). y.token ≡ ForOp p → edits (c.op p) ≡ true → y.reply.status ≡ file_closed
    → s.standing (file_at c p) ≡ false × file_at c p ≤ last_id s) (sym z) (said_closed_reply p))

say_attach_refused : (c : Client) (conns : ℕ → Conn) (s : Server) (t : Trace) (l : Log) (a : ℕ → ℕ) (k : ℕ)
    (y0 : Received) → ((p : ℕ) → y0.token ≡ ForAttach p → edits (c.op p) ≡ true → (y0.reply.status == success) ≡ false
    → (y0.reply.status == user_session_deleted) ≡ false → s.standing (file_at c p) ≡ false × file_at c p ≤ last_id s)
    → AttachRefused c conns s → AttachRefused c (put conns k (record (conns k) { down = (conns k).down ++ y0 ∷ [] })) s
say_attach_refused c conns s t l a k y0 said_attach_refused i_attach_refused =
    λ j n p y h. or_else (sent_down conns k y0 j n y h) (λ o. i_attach_refused j n p y o)
    (λ z. subst (λ (y : Received). y.token ≡ ForAttach p → edits (c.op p) ≡ true → (y.reply.status == success)
    ≡ false → (y.reply.status == user_session_deleted) ≡ false → s.standing (file_at c p) ≡ false
    × file_at c p ≤ last_id s) (sym z) (said_attach_refused p))

say_stale_reply : (c : Client) (conns : ℕ → Conn) (s : Server) (t : Trace) (l : Log) (a : ℕ → ℕ) (k : ℕ) (y0 : Received)
    → ((p : ℕ) → y0.token ≡ ForOp p → edits (c.op p) ≡ true → y0.reply.status ≡ file_not_available
    → c.sequence_of p < c.sequence) → StaleReply c conns
    → StaleReply c (put conns k (record (conns k) { down = (conns k).down ++ y0 ∷ [] }))
say_stale_reply c conns s t l a k y0 said_stale_reply i_stale_reply =
    λ j n p y h. or_else (sent_down conns k y0 j n y h) (λ o. i_stale_reply j n p y o)
    (λ z. subst (λ (y : Received). y.token ≡ ForOp p → edits (c.op p) ≡ true → y.reply.status ≡ file_not_available
    → c.sequence_of p < c.sequence) (sym z) (said_stale_reply p))

say_live_unsettled : (c : Client) (conns : ℕ → Conn) (s : Server) (t : Trace) (l : Log) (a : ℕ → ℕ) (k : ℕ)
    (y0 : Received) → LiveUnsettled c conns s → LiveUnsettled c (put conns k (record (conns k) {
      down = (conns k).down ++ y0 ∷ [];
    })) s
say_live_unsettled c conns s t l a k y0 i_live_unsettled =
    λ j n p x. let old = i_live_unsettled j n p x in grind (arith, get-push)

say_live_replay : (c : Client) (conns : ℕ → Conn) (s : Server) (t : Trace) (l : Log) (a : ℕ → ℕ) (k : ℕ) (y0 : Received)
    → LiveReplay c conns s l → LiveReplay c (put conns k (record (conns k) { down = (conns k).down ++ y0 ∷ [] })) s l
say_live_replay c conns s t l a k y0 i_live_replay =
    λ j n p x. let old = i_live_replay j n p x in grind (arith, get-push)

say_replies : (c : Client) (conns : ℕ → Conn) (s : Server) (t : Trace) (l : Log) (a : ℕ → ℕ) (k : ℕ) (y0 : Received)
    → (y0.place < l.places × l.who y0.place ≡ op_of y0.token × l.gave y0.place ≡ said y0.token y0.reply)
    → Replies conns l → Replies (put conns k (record (conns k) { down = (conns k).down ++ y0 ∷ [] })) l
say_replies c conns s t l a k y0 said_replies i_replies =
    λ j n y h. or_else (sent_down conns k y0 j n y h) (λ o. i_replies j n y o)
    (λ z. subst (λ (y : Received). y.place < l.places × l.who y.place ≡ op_of y.token × l.gave y.place
    ≡ said y.token y.reply) (sym z) (said_replies))

say_attach_status : (c : Client) (conns : ℕ → Conn) (s : Server) (t : Trace) (l : Log) (a : ℕ → ℕ) (k : ℕ)
    (y0 : Received) → ((p : ℕ) → y0.token ≡ ForAttach p → (y0.reply.status == end_of_file) ≡ false) → AttachStatus conns
    → AttachStatus (put conns k (record (conns k) { down = (conns k).down ++ y0 ∷ [] }))
say_attach_status c conns s t l a k y0 said_attach_status i_attach_status =
    λ j n p y h. or_else (sent_down conns k y0 j n y h) (λ o. i_attach_status j n p y o)
    (λ z. subst (λ (y : Received). y.token ≡ ForAttach p → (y.reply.status == end_of_file) ≡ false) (sym z)
    (said_attach_status p))

say_since_reply : (c : Client) (conns : ℕ → Conn) (s : Server) (t : Trace) (l : Log) (a : ℕ → ℕ) (k : ℕ) (y0 : Received)
    → (l.since (op_of y0.token) ≤ y0.place) → SinceReply conns l
    → SinceReply (put conns k (record (conns k) { down = (conns k).down ++ y0 ∷ [] })) l
say_since_reply c conns s t l a k y0 said_since_reply i_since_reply =
    λ j n y h. or_else (sent_down conns k y0 j n y h) (λ o. i_since_reply j n y o)
    (λ z. subst (λ (y : Received). l.since (op_of y.token) ≤ y.place) (sym z) (said_since_reply))

pub say_keeps : (c : Client) (conns : ℕ → Conn) (s : Server) (t : Trace) (l : Log) (a : ℕ → ℕ) (k : ℕ) (y0 : Received)
    → (is_ops y0.token ≡ true → 0 < op_of y0.token × op_of y0.token ≤ c.taken)
    → ((p : ℕ) → y0.token ≡ ForOp p → edits (c.op p) ≡ true → (y0.reply.status == success) ≡ false → c.unanswered p
    ≡ false → l.first p ≡ None) → ((p : ℕ) → y0.token ≡ ForOp p → makes_open (c.op p) ≡ true → y0.reply.status ≡ success
    → Pair s c.session 0 (id_in y0.reply.body) × id_in y0.reply.body ≤ last_id s × t.open_of p
    ≡ Some (id_in y0.reply.body)) → ((p : ℕ) → y0.token ≡ ForAttach p → y0.reply.status ≡ success
    → Pair s c.session 0 (file_at c p) × file_at c p ≤ last_id s) → ((p : ℕ) → y0.token ≡ ForOp p → edits (c.op p)
    ≡ true → formed (c.op p) ≡ true → is_final y0.reply.status ≡ true → Pair s c.session (c.sequence_of p) (file_at c p)
    × file_at c p ≤ last_id s) → ((p : ℕ) → y0.token ≡ ForOp p → edits (c.op p) ≡ true → y0.reply.status ≡ file_closed
    → s.standing (file_at c p) ≡ false × file_at c p ≤ last_id s) → ((p : ℕ) → y0.token ≡ ForAttach p → edits (c.op p)
    ≡ true → (y0.reply.status == success) ≡ false → (y0.reply.status == user_session_deleted) ≡ false
    → s.standing (file_at c p) ≡ false × file_at c p ≤ last_id s) → ((p : ℕ) → y0.token ≡ ForOp p → edits (c.op p)
    ≡ true → y0.reply.status ≡ file_not_available → c.sequence_of p < c.sequence)
    → (y0.place < l.places × l.who y0.place ≡ op_of y0.token × l.gave y0.place ≡ said y0.token y0.reply)
    → ((p : ℕ) → y0.token ≡ ForAttach p → (y0.reply.status == end_of_file) ≡ false)
    → (l.since (op_of y0.token) ≤ y0.place) → Contents c conns s t l a
    → Contents c (put conns k (record (conns k) { down = (conns k).down ++ y0 ∷ [] })) s t l a
say_keeps c conns s t l a k y0 said_token_down said_not_done said_create_reply said_attach_reply said_reached
    said_closed_reply said_attach_refused said_stale_reply said_replies said_attach_status said_since_reply i =
    record {
      token_up = say_token_up c conns s t l a k y0 i.token_up;
      token_down = say_token_down c conns s t l a k y0 said_token_down i.token_down;
      opens_up = say_opens_up c conns s t l a k y0 i.opens_up;
      asked_as = say_asked_as c conns s t l a k y0 i.asked_as;
      lost_unknown = i.lost_unknown;
      lost_dead = i.lost_dead;
      lost_known = i.lost_known;
      lost_asked = i.lost_asked;
      session_known = i.session_known;
      session_asked = i.session_asked;
      pairwise = i.pairwise;
      first_up = say_first_up c conns s t l a k y0 i.first_up;
      unacted = i.unacted;
      fresh_first = i.fresh_first;
      not_done = say_not_done c conns s t l a k y0 said_not_done i.not_done;
      cut_seq = say_cut_seq c conns s t l a k y0 i.cut_seq;
      open_seq = say_open_seq c conns s t l a k y0 i.open_seq;
      older = say_older c conns s t l a k y0 i.older;
      no_replay = say_no_replay c conns s t l a k y0 i.no_replay;
      copy_pair = say_copy_pair c conns s t l a k y0 i.copy_pair;
      now_pair = i.now_pair;
      create_reply = say_create_reply c conns s t l a k y0 said_create_reply i.create_reply;
      attach_reply = say_attach_reply c conns s t l a k y0 said_attach_reply i.attach_reply;
      reached = say_reached c conns s t l a k y0 said_reached i.reached;
      closed_reply = say_closed_reply c conns s t l a k y0 said_closed_reply i.closed_reply;
      attach_refused = say_attach_refused c conns s t l a k y0 said_attach_refused i.attach_refused;
      stale_reply = say_stale_reply c conns s t l a k y0 said_stale_reply i.stale_reply;
      session_seq = i.session_seq;
      pending_at = i.pending_at;
      live_unsettled = say_live_unsettled c conns s t l a k y0 i.live_unsettled;
      live_replay = say_live_replay c conns s t l a k y0 i.live_replay;
      shows = i.shows;
      denied = i.denied;
      open_of = i.open_of;
      named_open = i.named_open;
      open_given = i.open_given;
      open_row = i.open_row;
      open_acted = i.open_acted;
      bytes = i.bytes;
      quiet = i.quiet;
      foreign = i.foreign;
      acted = i.acted;
      gave = i.gave;
      gave_end = i.gave_end;
      whose = i.whose;
      born = i.born;
      birth_le = i.birth_le;
      first_at = i.first_at;
      by = i.by;
      by_ok = i.by_ok;
      by_end = i.by_end;
      by_some = i.by_some;
      replies = say_replies c conns s t l a k y0 said_replies i.replies;
      attach_status = say_attach_status c conns s t l a k y0 said_attach_status i.attach_status;
      since_le = i.since_le;
      since_reply = say_since_reply c conns s t l a k y0 said_since_reply i.since_reply;
      since_by = i.since_by;
      since_first = i.since_first;
      prior = i.prior;
      prior_by = i.prior_by;
      prior_first = i.prior_first;
    }
