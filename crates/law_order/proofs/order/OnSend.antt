-- Written by tools/law_contents.py. An operation goes out itself.
use Rattle.std.proofs.Common.{◌≡◌, ◌≢◌, ℕ, ◌≤◌, ◌<◌, true, false, ◌||◌, arith, sym, subst, ◌∙◌, ap, Some, None, slice_get}
use Rattle.spec_exchange.specs.Table.{put}
use Rattle.spec_exchange.specs.Order.{Log}
use Rattle.spec_exchange.specs.State.{Server, Message}
use Rattle.spec_exchange.specs.Operations.{is_unsettled, is_ok}
use Rattle.spec_exchange.specs.Client.{Client, outstanding as put_out}
use Rattle.spec_exchange.specs.Network.{Conn, Sent, Received, Trace, ForOp, send_up}
use Rattle.law_sessions.specs.messages.Connections.{create_at, makes_open}
use Rattle.law_sessions.proofs.messages.Lists.{get-push}
use Rattle.law_order.specs.order.Newest.{Pair}
use Rattle.law_order.specs.order.Contents.{Contents, edits, file_at, last_id, TokenUp, TokenDown, OpensUp, AskedAs, FirstUp}
use Rattle.law_order.specs.order.Contents.{Unacted, NotDone, CutSeq, OpenSeq, Older, NoReplay, CopyPair, CreateReply}
use Rattle.law_order.specs.order.Contents.{AttachReply, Reached, ClosedReply, AttachRefused, StaleReply, LiveUnsettled}
use Rattle.law_order.specs.order.Contents.{LiveReplay, Replies, AttachStatus, SinceReply}
use Rattle.law_order.proofs.order.Words.{put_other, sent_up, or_else}

send_token_up : (c : Client) (conns : ℕ → Conn) (s : Server) (t : Trace) (l : Log) (a : ℕ → ℕ) (k g n0 : ℕ)
    (m : Message) → ((conns k).client_open ≡ true) → (c.outstanding_on g ≡ None) → (0 < g) → (g ≤ c.taken)
    → (is_unsettled (c.outcome g) ≡ true) → (c.live ≡ true) → (m.session_id ≡ c.session)
    → (m.channel_sequence ≡ c.sequence) → ((makes_open (c.op g) || is_ok (c.outcome (create_at c g))) ≡ true)
    → TokenUp c conns → TokenUp (put_out c k g) (put conns k (send_up (conns k) (ForOp g) m n0))
send_token_up c conns s t l a k g n0 m stands none above within pending live session sequence opens i_token_up =
    λ j n x. let old = i_token_up j n x in grind (arith, get-push)

send_token_down : (c : Client) (conns : ℕ → Conn) (s : Server) (t : Trace) (l : Log) (a : ℕ → ℕ) (k g n0 : ℕ)
    (m : Message) → ((conns k).client_open ≡ true) → (c.outstanding_on g ≡ None) → (0 < g) → (g ≤ c.taken)
    → (is_unsettled (c.outcome g) ≡ true) → (c.live ≡ true) → (m.session_id ≡ c.session)
    → (m.channel_sequence ≡ c.sequence) → ((makes_open (c.op g) || is_ok (c.outcome (create_at c g))) ≡ true)
    → TokenDown c conns → TokenDown (put_out c k g) (put conns k (send_up (conns k) (ForOp g) m n0))
send_token_down c conns s t l a k g n0 m stands none above within pending live session sequence opens i_token_down =
    λ j n y. let old = i_token_down j n y in grind (arith, get-push)

send_opens_up : (c : Client) (conns : ℕ → Conn) (s : Server) (t : Trace) (l : Log) (a : ℕ → ℕ) (k g n0 : ℕ)
    (m : Message) → ((conns k).client_open ≡ true) → (c.outstanding_on g ≡ None) → (0 < g) → (g ≤ c.taken)
    → (is_unsettled (c.outcome g) ≡ true) → (c.live ≡ true) → (m.session_id ≡ c.session)
    → (m.channel_sequence ≡ c.sequence) → ((makes_open (c.op g) || is_ok (c.outcome (create_at c g))) ≡ true)
    → OpensUp c conns → OpensUp (put_out c k g) (put conns k (send_up (conns k) (ForOp g) m n0))
send_opens_up c conns s t l a k g n0 m stands none above within pending live session sequence opens i_opens_up =
    λ j n x. let old = i_opens_up j n x in let op = opens in grind (arith, get-push)

send_asked_as : (c : Client) (conns : ℕ → Conn) (s : Server) (t : Trace) (l : Log) (a : ℕ → ℕ) (k g n0 : ℕ)
    (m : Message) → ((conns k).client_open ≡ true) → (c.outstanding_on g ≡ None) → (0 < g) → (g ≤ c.taken)
    → (is_unsettled (c.outcome g) ≡ true) → (c.live ≡ true) → (m.session_id ≡ c.session)
    → (m.channel_sequence ≡ c.sequence) → ((makes_open (c.op g) || is_ok (c.outcome (create_at c g))) ≡ true)
    → AskedAs c conns → AskedAs (put_out c k g) (put conns k (send_up (conns k) (ForOp g) m n0))
send_asked_as c conns s t l a k g n0 m stands none above within pending live session sequence opens i_asked_as =
    λ j n p x. let old = i_asked_as j n p x in grind (arith, get-push)

send_first_up : (c : Client) (conns : ℕ → Conn) (s : Server) (t : Trace) (l : Log) (a : ℕ → ℕ) (k g n0 : ℕ)
    (m : Message) → ((conns k).client_open ≡ true) → (c.outstanding_on g ≡ None) → (0 < g) → (g ≤ c.taken)
    → (is_unsettled (c.outcome g) ≡ true) → (c.live ≡ true) → (m.session_id ≡ c.session)
    → (m.channel_sequence ≡ c.sequence) → ((makes_open (c.op g) || is_ok (c.outcome (create_at c g))) ≡ true)
    → (edits (c.op g) ≡ true → c.unanswered g ≡ false → l.first g ≡ None) → FirstUp c conns l → FirstUp (put_out c k g)
    (put conns k (send_up (conns k) (ForOp g) m n0)) l
send_first_up c conns s t l a k g n0 m stands none above within pending live session sequence opens idle i_first_up =
    λ j n p x. let old = i_first_up j n p x in let id = idle in grind (arith, get-push)

send_unacted : (c : Client) (conns : ℕ → Conn) (s : Server) (t : Trace) (l : Log) (a : ℕ → ℕ) (k g n0 : ℕ) (m : Message)
    → ((conns k).client_open ≡ true) → (c.outstanding_on g ≡ None) → (0 < g) → (g ≤ c.taken)
    → (is_unsettled (c.outcome g) ≡ true) → (c.live ≡ true) → (m.session_id ≡ c.session)
    → (m.channel_sequence ≡ c.sequence) → ((makes_open (c.op g) || is_ok (c.outcome (create_at c g))) ≡ true)
    → Unacted c l → Unacted (put_out c k g) l
send_unacted c conns s t l a k g n0 m stands none above within pending live session sequence opens i_unacted =
    λ p. let old = i_unacted p in grind arith

send_not_done : (c : Client) (conns : ℕ → Conn) (s : Server) (t : Trace) (l : Log) (a : ℕ → ℕ) (k g n0 : ℕ)
    (m : Message) → ((conns k).client_open ≡ true) → (c.outstanding_on g ≡ None) → (0 < g) → (g ≤ c.taken)
    → (is_unsettled (c.outcome g) ≡ true) → (c.live ≡ true) → (m.session_id ≡ c.session)
    → (m.channel_sequence ≡ c.sequence) → ((makes_open (c.op g) || is_ok (c.outcome (create_at c g))) ≡ true)
    → NotDone c conns l → NotDone (put_out c k g) (put conns k (send_up (conns k) (ForOp g) m n0)) l
send_not_done c conns s t l a k g n0 m stands none above within pending live session sequence opens i_not_done =
    λ j n p y. let old = i_not_done j n p y in grind (arith, get-push)

send_cut_seq : (c : Client) (conns : ℕ → Conn) (s : Server) (t : Trace) (l : Log) (a : ℕ → ℕ) (k g n0 : ℕ) (m : Message)
    → ((conns k).client_open ≡ true) → (c.outstanding_on g ≡ None) → (0 < g) → (g ≤ c.taken)
    → (is_unsettled (c.outcome g) ≡ true) → (c.live ≡ true) → (m.session_id ≡ c.session)
    → (m.channel_sequence ≡ c.sequence) → ((makes_open (c.op g) || is_ok (c.outcome (create_at c g))) ≡ true)
    → CutSeq c conns → CutSeq (put_out c k g) (put conns k (send_up (conns k) (ForOp g) m n0))
send_cut_seq c conns s t l a k g n0 m stands none above within pending live session sequence opens i_cut_seq =
    λ j n p x. let old = i_cut_seq j n p x in grind (arith, get-push)

send_open_seq : (c : Client) (conns : ℕ → Conn) (s : Server) (t : Trace) (l : Log) (a : ℕ → ℕ) (k g n0 : ℕ)
    (m : Message) → ((conns k).client_open ≡ true) → (c.outstanding_on g ≡ None) → (0 < g) → (g ≤ c.taken)
    → (is_unsettled (c.outcome g) ≡ true) → (c.live ≡ true) → (m.session_id ≡ c.session)
    → (m.channel_sequence ≡ c.sequence) → ((makes_open (c.op g) || is_ok (c.outcome (create_at c g))) ≡ true)
    → ((j n : ℕ) (x : Sent) → slice_get (conns j).up n ≡ Some x → x.token ≡ ForOp g → (conns j).client_open ≡ false)
    → OpenSeq c conns → OpenSeq (put_out c k g) (put conns k (send_up (conns k) (ForOp g) m n0))
send_open_seq c conns s t l a k g n0 m stands none above within pending live session sequence opens off i_open_seq =
    λ j n p x. let old = i_open_seq j n p x in let of = off j n x in grind (arith, get-push)

send_older : (c : Client) (conns : ℕ → Conn) (s : Server) (t : Trace) (l : Log) (a : ℕ → ℕ) (k g n0 : ℕ) (m : Message)
    → ((conns k).client_open ≡ true) → (c.outstanding_on g ≡ None) → (0 < g) → (g ≤ c.taken)
    → (is_unsettled (c.outcome g) ≡ true) → (c.live ≡ true) → (m.session_id ≡ c.session)
    → (m.channel_sequence ≡ c.sequence) → ((makes_open (c.op g) || is_ok (c.outcome (create_at c g))) ≡ true)
    → ((j n : ℕ) (x : Sent) → slice_get (conns j).up n ≡ Some x → x.token ≡ ForOp g → (conns j).client_open ≡ false)
    → Older c conns → CutSeq c conns → Older (put_out c k g) (put conns k (send_up (conns k) (ForOp g) m n0))
send_older c conns s t l a k g n0 m stands none above within pending live session sequence opens off i_older i_cut_seq =
    λ j n i p x. let old = i_older j n i p x in let of = off j n x in let cut = i_cut_seq j n p x in grind (arith, get-push)

send_no_replay : (c : Client) (conns : ℕ → Conn) (s : Server) (t : Trace) (l : Log) (a : ℕ → ℕ) (k g n0 : ℕ)
    (m : Message) → ((conns k).client_open ≡ true) → (c.outstanding_on g ≡ None) → (0 < g) → (g ≤ c.taken)
    → (is_unsettled (c.outcome g) ≡ true) → (c.live ≡ true) → (m.session_id ≡ c.session)
    → (m.channel_sequence ≡ c.sequence) → ((makes_open (c.op g) || is_ok (c.outcome (create_at c g))) ≡ true)
    → (edits (c.op g) ≡ true → m.replay ≡ c.unanswered g) → ((j n : ℕ) (x : Sent) → slice_get (conns j).up n ≡ Some x
    → x.token ≡ ForOp g → (conns j).client_open ≡ false) → NoReplay c conns → CutSeq c conns → FirstUp c conns l
    → NoReplay (put_out c k g) (put conns k (send_up (conns k) (ForOp g) m n0))
send_no_replay c conns s t l a k g n0 m stands none above within pending live session sequence opens replay off
    i_no_replay i_cut_seq i_first_up =
    λ j n i q p u x. let old = i_no_replay j n i q p u x in let o1 = off j n u in let o2 = off i q x in let c1 =
    i_cut_seq j n p u in let f1 = i_first_up i q p x in let rp = replay in grind (arith, get-push)

send_copy_pair : (c : Client) (conns : ℕ → Conn) (s : Server) (t : Trace) (l : Log) (a : ℕ → ℕ) (k g n0 : ℕ)
    (m : Message) → ((conns k).client_open ≡ true) → (c.outstanding_on g ≡ None) → (0 < g) → (g ≤ c.taken)
    → (is_unsettled (c.outcome g) ≡ true) → (c.live ≡ true) → (m.session_id ≡ c.session)
    → (m.channel_sequence ≡ c.sequence) → ((makes_open (c.op g) || is_ok (c.outcome (create_at c g))) ≡ true)
    → (edits (c.op g) ≡ true → Pair s c.session 0 (file_at c g) × file_at c g ≤ last_id s) → CopyPair c conns s
    → CopyPair (put_out c k g) (put conns k (send_up (conns k) (ForOp g) m n0)) s
send_copy_pair c conns s t l a k g n0 m stands none above within pending live session sequence opens pair i_copy_pair =
    λ j n p x h e ed. or_else (sent_up conns k (ForOp g) m n0 j n x h) (λ o. i_copy_pair j n p x o e ed)
    (λ z. let pg : p ≡ g = grind arith in let sx : x.message.session_id ≡ c.session = grind arith in
    let f = pair (subst (λ r. edits (c.op r) ≡ true) pg ed) in
    subst (λ r. Pair s r 0 (file_at c p) × file_at c p ≤ last_id s) (sym sx)
    (subst (λ r. Pair s c.session 0 (file_at c r) × file_at c r ≤ last_id s) (sym pg) f))

send_create_reply : (c : Client) (conns : ℕ → Conn) (s : Server) (t : Trace) (l : Log) (a : ℕ → ℕ) (k g n0 : ℕ)
    (m : Message) → ((conns k).client_open ≡ true) → (c.outstanding_on g ≡ None) → (0 < g) → (g ≤ c.taken)
    → (is_unsettled (c.outcome g) ≡ true) → (c.live ≡ true) → (m.session_id ≡ c.session)
    → (m.channel_sequence ≡ c.sequence) → ((makes_open (c.op g) || is_ok (c.outcome (create_at c g))) ≡ true)
    → CreateReply c conns s t → CreateReply (put_out c k g) (put conns k (send_up (conns k) (ForOp g) m n0)) s t
send_create_reply c conns s t l a k g n0 m stands none above within pending live session sequence opens i_create_reply =
    λ j n p y. let old = i_create_reply j n p y in grind (arith, get-push)

send_attach_reply : (c : Client) (conns : ℕ → Conn) (s : Server) (t : Trace) (l : Log) (a : ℕ → ℕ) (k g n0 : ℕ)
    (m : Message) → ((conns k).client_open ≡ true) → (c.outstanding_on g ≡ None) → (0 < g) → (g ≤ c.taken)
    → (is_unsettled (c.outcome g) ≡ true) → (c.live ≡ true) → (m.session_id ≡ c.session)
    → (m.channel_sequence ≡ c.sequence) → ((makes_open (c.op g) || is_ok (c.outcome (create_at c g))) ≡ true)
    → AttachReply c conns s → AttachReply (put_out c k g) (put conns k (send_up (conns k) (ForOp g) m n0)) s
send_attach_reply c conns s t l a k g n0 m stands none above within pending live session sequence opens i_attach_reply =
    λ j n p y. let old = i_attach_reply j n p y in grind (arith, get-push)

send_reached : (c : Client) (conns : ℕ → Conn) (s : Server) (t : Trace) (l : Log) (a : ℕ → ℕ) (k g n0 : ℕ) (m : Message)
    → ((conns k).client_open ≡ true) → (c.outstanding_on g ≡ None) → (0 < g) → (g ≤ c.taken)
    → (is_unsettled (c.outcome g) ≡ true) → (c.live ≡ true) → (m.session_id ≡ c.session)
    → (m.channel_sequence ≡ c.sequence) → ((makes_open (c.op g) || is_ok (c.outcome (create_at c g))) ≡ true)
    → ((j n : ℕ) (y : Received) → slice_get (conns j).down n ≡ Some y → y.token ≢ ForOp g) → Reached c conns s
    → Reached (put_out c k g) (put conns k (send_up (conns k) (ForOp g) m n0)) s
send_reached c conns s t l a k g n0 m stands none above within pending live session sequence opens quiet i_reached =
    λ j n p y h e ed fm fin. let h' : slice_get (conns j).down n ≡ Some y = grind arith in let ne : p ≢ g =
    (λ z. quiet j n y h' (e ∙ ap ForOp z)) in subst (λ r. Pair s c.session r (file_at c p)
    × file_at c p ≤ last_id s) (sym (put_other c.sequence_of g c.sequence p ne)) (i_reached j n p y h' e ed fm fin)

send_closed_reply : (c : Client) (conns : ℕ → Conn) (s : Server) (t : Trace) (l : Log) (a : ℕ → ℕ) (k g n0 : ℕ)
    (m : Message) → ((conns k).client_open ≡ true) → (c.outstanding_on g ≡ None) → (0 < g) → (g ≤ c.taken)
    → (is_unsettled (c.outcome g) ≡ true) → (c.live ≡ true) → (m.session_id ≡ c.session)
    → (m.channel_sequence ≡ c.sequence) → ((makes_open (c.op g) || is_ok (c.outcome (create_at c g))) ≡ true)
    → ClosedReply c conns s → ClosedReply (put_out c k g) (put conns k (send_up (conns k) (ForOp g) m n0)) s
send_closed_reply c conns s t l a k g n0 m stands none above within pending live session sequence opens i_closed_reply =
    λ j n p y. let old = i_closed_reply j n p y in grind (arith, get-push)

send_attach_refused : (c : Client) (conns : ℕ → Conn) (s : Server) (t : Trace) (l : Log) (a : ℕ → ℕ) (k g n0 : ℕ)
    (m : Message) → ((conns k).client_open ≡ true) → (c.outstanding_on g ≡ None) → (0 < g) → (g ≤ c.taken)
    → (is_unsettled (c.outcome g) ≡ true) → (c.live ≡ true) → (m.session_id ≡ c.session)
    → (m.channel_sequence ≡ c.sequence) → ((makes_open (c.op g) || is_ok (c.outcome (create_at c g))) ≡ true)
    → AttachRefused c conns s → AttachRefused (put_out c k g) (put conns k (send_up (conns k) (ForOp g) m n0)) s
send_attach_refused c conns s t l a k g n0 m stands none above within pending live session sequence opens i_attach_refused =
    λ j n p y. let old = i_attach_refused j n p y in grind (arith, get-push)

send_stale_reply : (c : Client) (conns : ℕ → Conn) (s : Server) (t : Trace) (l : Log) (a : ℕ → ℕ) (k g n0 : ℕ)
    (m : Message) → ((conns k).client_open ≡ true) → (c.outstanding_on g ≡ None) → (0 < g) → (g ≤ c.taken)
    → (is_unsettled (c.outcome g) ≡ true) → (c.live ≡ true) → (m.session_id ≡ c.session)
    → (m.channel_sequence ≡ c.sequence) → ((makes_open (c.op g) || is_ok (c.outcome (create_at c g))) ≡ true)
    → ((j n : ℕ) (y : Received) → slice_get (conns j).down n ≡ Some y → y.token ≢ ForOp g) → StaleReply c conns
    → StaleReply (put_out c k g) (put conns k (send_up (conns k) (ForOp g) m n0))
send_stale_reply c conns s t l a k g n0 m stands none above within pending live session sequence opens quiet i_stale_reply =
    λ j n p y h e ed st. let h' : slice_get (conns j).down n ≡ Some y = grind arith in let ne : p ≢ g =
    (λ z. quiet j n y h' (e ∙ ap ForOp z)) in subst (λ r. r < c.sequence)
    (sym (put_other c.sequence_of g c.sequence p ne)) (i_stale_reply j n p y h' e ed st)

send_live_unsettled : (c : Client) (conns : ℕ → Conn) (s : Server) (t : Trace) (l : Log) (a : ℕ → ℕ) (k g n0 : ℕ)
    (m : Message) → ((conns k).client_open ≡ true) → (c.outstanding_on g ≡ None) → (0 < g) → (g ≤ c.taken)
    → (is_unsettled (c.outcome g) ≡ true) → (c.live ≡ true) → (m.session_id ≡ c.session)
    → (m.channel_sequence ≡ c.sequence) → ((makes_open (c.op g) || is_ok (c.outcome (create_at c g))) ≡ true)
    → LiveUnsettled c conns s → LiveUnsettled (put_out c k g) (put conns k (send_up (conns k) (ForOp g) m n0)) s
send_live_unsettled c conns s t l a k g n0 m stands none above within pending live session sequence opens i_live_unsettled =
    λ j n p x. let old = i_live_unsettled j n p x in grind (arith, get-push)

send_live_replay : (c : Client) (conns : ℕ → Conn) (s : Server) (t : Trace) (l : Log) (a : ℕ → ℕ) (k g n0 : ℕ)
    (m : Message) → ((conns k).client_open ≡ true) → (c.outstanding_on g ≡ None) → (0 < g) → (g ≤ c.taken)
    → (is_unsettled (c.outcome g) ≡ true) → (c.live ≡ true) → (m.session_id ≡ c.session)
    → (m.channel_sequence ≡ c.sequence) → ((makes_open (c.op g) || is_ok (c.outcome (create_at c g))) ≡ true)
    → (edits (c.op g) ≡ true → m.replay ≡ c.unanswered g) → (edits (c.op g) ≡ true → c.unanswered g ≡ false → l.first g
    ≡ None) → LiveReplay c conns s l → LiveReplay (put_out c k g) (put conns k (send_up (conns k) (ForOp g) m n0)) s l
send_live_replay c conns s t l a k g n0 m stands none above within pending live session sequence opens replay idle i_live_replay =
    λ j n p x. let old = i_live_replay j n p x in let id = idle in let rp = replay in grind (arith, get-push)

send_replies : (c : Client) (conns : ℕ → Conn) (s : Server) (t : Trace) (l : Log) (a : ℕ → ℕ) (k g n0 : ℕ) (m : Message)
    → ((conns k).client_open ≡ true) → (c.outstanding_on g ≡ None) → (0 < g) → (g ≤ c.taken)
    → (is_unsettled (c.outcome g) ≡ true) → (c.live ≡ true) → (m.session_id ≡ c.session)
    → (m.channel_sequence ≡ c.sequence) → ((makes_open (c.op g) || is_ok (c.outcome (create_at c g))) ≡ true)
    → Replies conns l → Replies (put conns k (send_up (conns k) (ForOp g) m n0)) l
send_replies c conns s t l a k g n0 m stands none above within pending live session sequence opens i_replies =
    λ j n y. let old = i_replies j n y in grind (arith, get-push)

send_attach_status : (c : Client) (conns : ℕ → Conn) (s : Server) (t : Trace) (l : Log) (a : ℕ → ℕ) (k g n0 : ℕ)
    (m : Message) → ((conns k).client_open ≡ true) → (c.outstanding_on g ≡ None) → (0 < g) → (g ≤ c.taken)
    → (is_unsettled (c.outcome g) ≡ true) → (c.live ≡ true) → (m.session_id ≡ c.session)
    → (m.channel_sequence ≡ c.sequence) → ((makes_open (c.op g) || is_ok (c.outcome (create_at c g))) ≡ true)
    → AttachStatus conns → AttachStatus (put conns k (send_up (conns k) (ForOp g) m n0))
send_attach_status c conns s t l a k g n0 m stands none above within pending live session sequence opens i_attach_status =
    λ j n p y. let old = i_attach_status j n p y in grind (arith, get-push)

send_since_reply : (c : Client) (conns : ℕ → Conn) (s : Server) (t : Trace) (l : Log) (a : ℕ → ℕ) (k g n0 : ℕ)
    (m : Message) → ((conns k).client_open ≡ true) → (c.outstanding_on g ≡ None) → (0 < g) → (g ≤ c.taken)
    → (is_unsettled (c.outcome g) ≡ true) → (c.live ≡ true) → (m.session_id ≡ c.session)
    → (m.channel_sequence ≡ c.sequence) → ((makes_open (c.op g) || is_ok (c.outcome (create_at c g))) ≡ true)
    → SinceReply conns l → SinceReply (put conns k (send_up (conns k) (ForOp g) m n0)) l
send_since_reply c conns s t l a k g n0 m stands none above within pending live session sequence opens i_since_reply =
    λ j n y. let old = i_since_reply j n y in grind (arith, get-push)

pub send_keeps : (c : Client) (conns : ℕ → Conn) (s : Server) (t : Trace) (l : Log) (a : ℕ → ℕ) (k g n0 : ℕ)
    (m : Message) → ((conns k).client_open ≡ true) → (c.outstanding_on g ≡ None) → (0 < g) → (g ≤ c.taken)
    → (is_unsettled (c.outcome g) ≡ true) → (c.live ≡ true) → (m.session_id ≡ c.session)
    → (m.channel_sequence ≡ c.sequence) → ((makes_open (c.op g) || is_ok (c.outcome (create_at c g))) ≡ true)
    → (edits (c.op g) ≡ true → m.replay ≡ c.unanswered g) → (edits (c.op g) ≡ true → Pair s c.session 0 (file_at c g)
    × file_at c g ≤ last_id s) → ((j n : ℕ) (y : Received) → slice_get (conns j).down n ≡ Some y → y.token ≢ ForOp g)
    → ((j n : ℕ) (x : Sent) → slice_get (conns j).up n ≡ Some x → x.token ≡ ForOp g → (conns j).client_open ≡ false)
    → (edits (c.op g) ≡ true → c.unanswered g ≡ false → l.first g ≡ None) → Contents c conns s t l a
    → Contents (put_out c k g) (put conns k (send_up (conns k) (ForOp g) m n0)) s t l a
send_keeps c conns s t l a k g n0 m stands none above within pending live session sequence opens replay pair quiet off idle i =
    record {
      token_up = send_token_up c conns s t l a k g n0 m stands none above within pending live session sequence opens i.token_up;
      token_down = send_token_down c conns s t l a k g n0 m stands none above within pending live session sequence opens i.token_down;
      opens_up = send_opens_up c conns s t l a k g n0 m stands none above within pending live session sequence opens i.opens_up;
      asked_as = send_asked_as c conns s t l a k g n0 m stands none above within pending live session sequence opens i.asked_as;
      lost_unknown = i.lost_unknown;
      lost_dead = i.lost_dead;
      lost_known = i.lost_known;
      lost_asked = i.lost_asked;
      session_known = i.session_known;
      session_asked = i.session_asked;
      pairwise = i.pairwise;
      first_up = send_first_up c conns s t l a k g n0 m stands none above within pending live session sequence opens idle i.first_up;
      unacted = send_unacted c conns s t l a k g n0 m stands none above within pending live session sequence opens i.unacted;
      fresh_first = i.fresh_first;
      not_done = send_not_done c conns s t l a k g n0 m stands none above within pending live session sequence opens i.not_done;
      cut_seq = send_cut_seq c conns s t l a k g n0 m stands none above within pending live session sequence opens i.cut_seq;
      open_seq = send_open_seq c conns s t l a k g n0 m stands none above within pending live session sequence opens off i.open_seq;
      older = send_older c conns s t l a k g n0 m stands none above within pending live session sequence opens off i.older i.cut_seq;
      no_replay = send_no_replay c conns s t l a k g n0 m stands none above within pending live session sequence opens
          replay off i.no_replay i.cut_seq i.first_up;
      copy_pair = send_copy_pair c conns s t l a k g n0 m stands none above within pending live session sequence opens pair i.copy_pair;
      now_pair = i.now_pair;
      create_reply = send_create_reply c conns s t l a k g n0 m stands none above within pending live session sequence opens i.create_reply;
      attach_reply = send_attach_reply c conns s t l a k g n0 m stands none above within pending live session sequence opens i.attach_reply;
      reached = send_reached c conns s t l a k g n0 m stands none above within pending live session sequence opens quiet i.reached;
      closed_reply = send_closed_reply c conns s t l a k g n0 m stands none above within pending live session sequence opens i.closed_reply;
      attach_refused = send_attach_refused c conns s t l a k g n0 m stands none above within pending live session
          sequence opens i.attach_refused;
      stale_reply = send_stale_reply c conns s t l a k g n0 m stands none above within pending live session sequence
          opens quiet i.stale_reply;
      session_seq = i.session_seq;
      pending_at = i.pending_at;
      live_unsettled = send_live_unsettled c conns s t l a k g n0 m stands none above within pending live session
          sequence opens i.live_unsettled;
      live_replay = send_live_replay c conns s t l a k g n0 m stands none above within pending live session sequence
          opens replay idle i.live_replay;
      shows = i.shows;
      denied = i.denied;
      open_of = i.open_of;
      named_open = i.named_open;
      open_given = i.open_given;
      open_row = i.open_row;
      open_acted = i.open_acted;
      bytes = i.bytes;
      quiet = i.quiet;
      foreign = i.foreign;
      acted = i.acted;
      gave = i.gave;
      gave_end = i.gave_end;
      whose = i.whose;
      born = i.born;
      birth_le = i.birth_le;
      first_at = i.first_at;
      by = i.by;
      by_ok = i.by_ok;
      by_end = i.by_end;
      by_some = i.by_some;
      replies = send_replies c conns s t l a k g n0 m stands none above within pending live session sequence opens i.replies;
      attach_status = send_attach_status c conns s t l a k g n0 m stands none above within pending live session sequence
          opens i.attach_status;
      since_le = i.since_le;
      since_reply = send_since_reply c conns s t l a k g n0 m stands none above within pending live session sequence opens i.since_reply;
      since_by = i.since_by;
      since_first = i.since_first;
      prior = i.prior;
      prior_by = i.prior_by;
      prior_first = i.prior_first;
    }
