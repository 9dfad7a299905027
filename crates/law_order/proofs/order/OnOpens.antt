-- Written by tools/law_contents.py. A create that is outstanding names its open.
use Rattle.std.proofs.lemmas.Bool.{eqb-false}
use Rattle.std.proofs.Common.{eqb-true, ◌≡◌, ◌≢◌, ℕ, ◌≤◌, ◌==◌, true, false, refl, arith, sym, subst, ◌∙◌, ap, Some, slice_get, is_some}
use Rattle.spec_exchange.specs.Table.{put}
use Rattle.spec_exchange.specs.Order.{Log}
use Rattle.spec_exchange.specs.State.{Server}
use Rattle.spec_exchange.specs.Operations.{is_unsettled, reconnect_of}
use Rattle.spec_exchange.specs.Client.{Client, guid_for}
use Rattle.spec_exchange.specs.Network.{Conn, Sent, Received, Trace, ForOp, ForAttach}
use Rattle.law_sessions.specs.messages.Connections.{create_at}
use Rattle.law_order.specs.order.Newest.{Pair}
use Rattle.law_order.specs.order.Contents.{Contents, edits, formed, bytes_after, pends, last_id, AskedAs, CopyPair, NowPair}
use Rattle.law_order.specs.order.Contents.{AttachReply, Reached, ClosedReply, AttachRefused, LiveUnsettled, LiveReplay, Shows}
use Rattle.law_order.specs.order.Contents.{OpenOf}
use Rattle.law_order.proofs.order.Words.{put_other, put_self}

opens_asked_as : (c : Client) (conns : ℕ → Conn) (s : Server) (t : Trace) (l : Log) (a : ℕ → ℕ) (g id : ℕ)
    → (is_unsettled (c.outcome g) ≡ true) → ((j n p : ℕ) (x : Sent) → slice_get (conns j).up n ≡ Some x → x.token
    ≡ ForAttach p → create_at c p ≢ g) → AskedAs c conns → AskedAs (record c {
      file = put c.file g id;
      attached = put c.attached g c.session_number;
    }) conns
opens_asked_as c conns s t l a g id pending asked_up i_asked_as =
    λ j n p x h e. let old = i_asked_as j n p x h e in (
      old.0,
      subst (λ f. x.message.command ≡ reconnect_of (c.op (create_at c p)) (guid_for c (create_at c p)) f)
          (sym (put_other c.file g id (create_at c p) (asked_up j n p x h e))) old.1,
    )

opens_copy_pair : (c : Client) (conns : ℕ → Conn) (s : Server) (t : Trace) (l : Log) (a : ℕ → ℕ) (g id : ℕ)
    → (is_unsettled (c.outcome g) ≡ true) → ((j n p : ℕ) (x : Sent) → slice_get (conns j).up n ≡ Some x → x.token
    ≡ ForOp p → edits (c.op p) ≡ true → create_at c p ≢ g) → CopyPair c conns s → CopyPair (record c {
      file = put c.file g id;
      attached = put c.attached g c.session_number;
    }) conns s
opens_copy_pair c conns s t l a g id pending mine_up i_copy_pair =
    λ j n p x h e ed. subst (λ f. Pair s x.message.session_id 0 f × f ≤ last_id s)
    (sym (put_other c.file g id (create_at c p) (mine_up j n p x h e ed))) (i_copy_pair j n p x h e ed)

opens_now_pair : (c : Client) (conns : ℕ → Conn) (s : Server) (t : Trace) (l : Log) (a : ℕ → ℕ) (g id : ℕ)
    → (is_unsettled (c.outcome g) ≡ true) → (Pair s c.session 0 id × id ≤ last_id s) → NowPair c s → NowPair (record c {
      file = put c.file g id;
      attached = put c.attached g c.session_number;
    }) s
opens_now_pair c conns s t l a g id pending pair i_now_pair =
    λ q. elim (q == g) as (λ b. q == g ≡ b → put c.attached g c.session_number q ≡ c.session_number → c.live ≡ true
    → Pair s c.session 0 (put c.file g id q) × put c.file g id q ≤ last_id s) [
      | true ↦ λ z at lv.
          subst (λ f. Pair s c.session 0 f × f ≤ last_id s) (sym (put_self c.file g id)
          ∙ ap (put c.file g id) (sym (eqb-true _ _ z))) pair
      | false ↦ λ z at lv.
          subst (λ f. Pair s c.session 0 f × f ≤ last_id s) (sym (put_other c.file g id q (eqb-false _ _ z)))
          (i_now_pair q (sym (put_other c.attached g c.session_number q (eqb-false _ _ z)) ∙ at) lv)
    ] refl

opens_attach_reply : (c : Client) (conns : ℕ → Conn) (s : Server) (t : Trace) (l : Log) (a : ℕ → ℕ) (g id : ℕ)
    → (is_unsettled (c.outcome g) ≡ true) → ((j n p : ℕ) (y : Received) → slice_get (conns j).down n ≡ Some y → y.token
    ≡ ForAttach p → create_at c p ≢ g) → AttachReply c conns s → AttachReply (record c {
      file = put c.file g id;
      attached = put c.attached g c.session_number;
    }) conns s
opens_attach_reply c conns s t l a g id pending mine_ask i_attach_reply =
    λ j n p y h e st. subst (λ f. Pair s c.session 0 f × f ≤ last_id s)
    (sym (put_other c.file g id (create_at c p) (mine_ask j n p y h e))) (i_attach_reply j n p y h e st)

opens_reached : (c : Client) (conns : ℕ → Conn) (s : Server) (t : Trace) (l : Log) (a : ℕ → ℕ) (g id : ℕ)
    → (is_unsettled (c.outcome g) ≡ true) → ((j n p : ℕ) (y : Received) → slice_get (conns j).down n ≡ Some y → y.token
    ≡ ForOp p → edits (c.op p) ≡ true → create_at c p ≢ g) → Reached c conns s → Reached (record c {
      file = put c.file g id;
      attached = put c.attached g c.session_number;
    }) conns s
opens_reached c conns s t l a g id pending mine_down i_reached =
    λ j n p y h e ed fm fin. subst (λ f. Pair s c.session (c.sequence_of p) f × f ≤ last_id s)
    (sym (put_other c.file g id (create_at c p) (mine_down j n p y h e ed))) (i_reached j n p y h e ed fm fin)

opens_closed_reply : (c : Client) (conns : ℕ → Conn) (s : Server) (t : Trace) (l : Log) (a : ℕ → ℕ) (g id : ℕ)
    → (is_unsettled (c.outcome g) ≡ true) → ((j n p : ℕ) (y : Received) → slice_get (conns j).down n ≡ Some y → y.token
    ≡ ForOp p → edits (c.op p) ≡ true → create_at c p ≢ g) → ClosedReply c conns s → ClosedReply (record c {
      file = put c.file g id;
      attached = put c.attached g c.session_number;
    }) conns s
opens_closed_reply c conns s t l a g id pending mine_down i_closed_reply =
    λ j n p y h e ed st. subst (λ f. s.standing f ≡ false × f ≤ last_id s)
    (sym (put_other c.file g id (create_at c p) (mine_down j n p y h e ed))) (i_closed_reply j n p y h e ed st)

opens_attach_refused : (c : Client) (conns : ℕ → Conn) (s : Server) (t : Trace) (l : Log) (a : ℕ → ℕ) (g id : ℕ)
    → (is_unsettled (c.outcome g) ≡ true) → ((j n p : ℕ) (y : Received) → slice_get (conns j).down n ≡ Some y → y.token
    ≡ ForAttach p → create_at c p ≢ g) → AttachRefused c conns s → AttachRefused (record c {
      file = put c.file g id;
      attached = put c.attached g c.session_number;
    }) conns s
opens_attach_refused c conns s t l a g id pending mine_ask i_attach_refused =
    λ j n p y h e ed s1 s2. subst (λ f. s.standing f ≡ false × f ≤ last_id s)
    (sym (put_other c.file g id (create_at c p) (mine_ask j n p y h e))) (i_attach_refused j n p y h e ed s1 s2)

opens_live_unsettled : (c : Client) (conns : ℕ → Conn) (s : Server) (t : Trace) (l : Log) (a : ℕ → ℕ) (g id : ℕ)
    → (is_unsettled (c.outcome g) ≡ true) → ((j n p : ℕ) (x : Sent) → slice_get (conns j).up n ≡ Some x → x.token
    ≡ ForOp p → edits (c.op p) ≡ true → create_at c p ≢ g) → LiveUnsettled c conns s → LiveUnsettled (record c {
      file = put c.file g id;
      attached = put c.attached g c.session_number;
    }) conns s
opens_live_unsettled c conns s t l a g id pending mine_up i_live_unsettled =
    λ j n p x h e ed. let ne = put_other c.file g id (create_at c p) (mine_up j n p x h e ed) in
    subst (λ f. formed (c.op p) ≡ true → s.standing f ≡ true → s.present x.message.session_id ≡ true
    → s.sequence f ≤ x.message.channel_sequence → pends c p ≡ true) (sym ne) (i_live_unsettled j n p x h e ed)

opens_live_replay : (c : Client) (conns : ℕ → Conn) (s : Server) (t : Trace) (l : Log) (a : ℕ → ℕ) (g id : ℕ)
    → (is_unsettled (c.outcome g) ≡ true) → ((j n p : ℕ) (x : Sent) → slice_get (conns j).up n ≡ Some x → x.token
    ≡ ForOp p → edits (c.op p) ≡ true → create_at c p ≢ g) → LiveReplay c conns s l → LiveReplay (record c {
      file = put c.file g id;
      attached = put c.attached g c.session_number;
    }) conns s l
opens_live_replay c conns s t l a g id pending mine_up i_live_replay =
    λ j n p x h e ed. let ne = put_other c.file g id (create_at c p) (mine_up j n p x h e ed) in
    subst (λ f. s.standing f ≡ true → s.present x.message.session_id ≡ true
    → s.sequence f ≤ x.message.channel_sequence → is_some (l.first p) ≡ true → x.message.replay ≡ true) (sym ne)
    (i_live_replay j n p x h e ed)

opens_shows : (c : Client) (conns : ℕ → Conn) (s : Server) (t : Trace) (l : Log) (a : ℕ → ℕ) (g id : ℕ)
    → (is_unsettled (c.outcome g) ≡ true) → ((p : ℕ) → edits (c.op p) ≡ true → is_some (l.first p) ≡ true
    → create_at c p ≢ g) → Shows c s l → Shows (record c {
      file = put c.file g id;
      attached = put c.attached g c.session_number;
    }) s l
opens_shows c conns s t l a g id pending acted i_shows =
    λ p ed iso sd pe so. let ne = put_other c.file g id (create_at c p) (acted p ed so) in
    subst (λ f. s.standing f ≡ true → bytes_after (c.op p) (s.content (s.opened f).file)
    ≡ s.content (s.opened f).file) (sym ne) (λ sd2. i_shows p ed iso sd2 pe so) sd

opens_open_of : (c : Client) (conns : ℕ → Conn) (s : Server) (t : Trace) (l : Log) (a : ℕ → ℕ) (g id : ℕ)
    → (is_unsettled (c.outcome g) ≡ true) → OpenOf c t → OpenOf (record c {
      file = put c.file g id;
      attached = put c.attached g c.session_number;
    }) t
opens_open_of c conns s t l a g id pending i_open_of =
    λ q. let old = i_open_of q in grind arith

pub opens_keeps : (c : Client) (conns : ℕ → Conn) (s : Server) (t : Trace) (l : Log) (a : ℕ → ℕ) (g id : ℕ)
    → (is_unsettled (c.outcome g) ≡ true) → (Pair s c.session 0 id × id ≤ last_id s)
    → ((j n p : ℕ) (x : Sent) → slice_get (conns j).up n ≡ Some x → x.token ≡ ForAttach p → create_at c p ≢ g)
    → ((j n p : ℕ) (x : Sent) → slice_get (conns j).up n ≡ Some x → x.token ≡ ForOp p → edits (c.op p) ≡ true
    → create_at c p ≢ g) → ((j n p : ℕ) (y : Received) → slice_get (conns j).down n ≡ Some y → y.token ≡ ForOp p
    → edits (c.op p) ≡ true → create_at c p ≢ g) → ((j n p : ℕ) (y : Received) → slice_get (conns j).down n ≡ Some y
    → y.token ≡ ForAttach p → create_at c p ≢ g) → ((p : ℕ) → edits (c.op p) ≡ true → is_some (l.first p) ≡ true
    → create_at c p ≢ g) → Contents c conns s t l a → Contents (record c {
      file = put c.file g id;
      attached = put c.attached g c.session_number;
    }) conns s t l a
opens_keeps c conns s t l a g id pending pair asked_up mine_up mine_down mine_ask acted i =
    record {
      token_up = i.token_up;
      token_down = i.token_down;
      opens_up = i.opens_up;
      asked_as = opens_asked_as c conns s t l a g id pending asked_up i.asked_as;
      lost_unknown = i.lost_unknown;
      lost_dead = i.lost_dead;
      lost_known = i.lost_known;
      lost_asked = i.lost_asked;
      session_known = i.session_known;
      session_asked = i.session_asked;
      pairwise = i.pairwise;
      first_up = i.first_up;
      unacted = i.unacted;
      fresh_first = i.fresh_first;
      not_done = i.not_done;
      cut_seq = i.cut_seq;
      open_seq = i.open_seq;
      older = i.older;
      no_replay = i.no_replay;
      copy_pair = opens_copy_pair c conns s t l a g id pending mine_up i.copy_pair;
      now_pair = opens_now_pair c conns s t l a g id pending pair i.now_pair;
      create_reply = i.create_reply;
      attach_reply = opens_attach_reply c conns s t l a g id pending mine_ask i.attach_reply;
      reached = opens_reached c conns s t l a g id pending mine_down i.reached;
      closed_reply = opens_closed_reply c conns s t l a g id pending mine_down i.closed_reply;
      attach_refused = opens_attach_refused c conns s t l a g id pending mine_ask i.attach_refused;
      stale_reply = i.stale_reply;
      session_seq = i.session_seq;
      pending_at = i.pending_at;
      live_unsettled = opens_live_unsettled c conns s t l a g id pending mine_up i.live_unsettled;
      live_replay = opens_live_replay c conns s t l a g id pending mine_up i.live_replay;
      shows = opens_shows c conns s t l a g id pending acted i.shows;
      denied = i.denied;
      open_of = opens_open_of c conns s t l a g id pending i.open_of;
      named_open = i.named_open;
      open_given = i.open_given;
      open_row = i.open_row;
      open_acted = i.open_acted;
      bytes = i.bytes;
      quiet = i.quiet;
      foreign = i.foreign;
      acted = i.acted;
      gave = i.gave;
      gave_end = i.gave_end;
      whose = i.whose;
      born = i.born;
      birth_le = i.birth_le;
      first_at = i.first_at;
      by = i.by;
      by_ok = i.by_ok;
      by_end = i.by_end;
      by_some = i.by_some;
      replies = i.replies;
      attach_status = i.attach_status;
      since_le = i.since_le;
      since_reply = i.since_reply;
      since_by = i.since_by;
      since_first = i.since_first;
      prior = i.prior;
      prior_by = i.prior_by;
      prior_first = i.prior_first;
    }
