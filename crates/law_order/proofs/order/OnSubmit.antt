-- Written by tools/law_contents.py. An operation is taken.
use Rattle.std.proofs.Common.{◌≡◌, ℕ, ◌+◌, ◌≤◌, ◌<◌, ◌==◌, true, false, ◌&&◌, arith, sym, subst, ap, Some}
use Rattle.spec_exchange.specs.Table.{put}
use Rattle.spec_exchange.specs.Order.{Log}
use Rattle.spec_exchange.specs.State.{Server}
use Rattle.spec_exchange.specs.Operations.{Op, Outcome, Unsettled, is_firm, is_ok}
use Rattle.spec_exchange.specs.Client.{Client}
use Rattle.spec_exchange.specs.Network.{Conn, Trace, op_of}
use Rattle.law_sessions.specs.messages.Connections.{create_at, makes_open, its_create, Creates as CCreates, Taken as CTaken}
use Rattle.law_sessions.proofs.messages.Lists.{get-push}
use Rattle.law_order.specs.order.Contents.{Contents, edits, lists, isolating, bytes_after, reply_to, ends_before, TokenUp}
use Rattle.law_order.specs.order.Contents.{TokenDown, OpensUp, AskedAs, LostUnknown, Pairwise, FirstUp, Unacted, FreshFirst}
use Rattle.law_order.specs.order.Contents.{NotDone, CutSeq, OpenSeq, Older, NoReplay, CopyPair, CreateReply, AttachReply}
use Rattle.law_order.specs.order.Contents.{Reached, ClosedReply, AttachRefused, StaleReply, LiveUnsettled, LiveReplay, Shows}
use Rattle.law_order.specs.order.Contents.{OpenOf, OpenGiven, OpenRow, Quiet, Foreign, Acted, Gave, GaveEnd, Whose, Born}
use Rattle.law_order.specs.order.Contents.{FirstAt, By, ByOk, ByEnd, BySome, Prior, PriorFirst}
use Rattle.law_order.proofs.order.Words.{ops_of, attach_of, put_other, apart_new, below_new, some_of, sent_of, edits_other}

submit_token_up : (c : Client) (conns : ℕ → Conn) (s : Server) (t : Trace) (l : Log) (a : ℕ → ℕ) (g : ℕ) (op : Op)
    (out : Outcome) → (g ≡ c.taken + 1) → (c.outcome g ≡ Unsettled) → (is_firm out ≡ false × is_ok out ≡ false)
    → TokenUp c conns → TokenUp (record c { taken = g; op = put c.op g op; outcome = put c.outcome g out }) conns
submit_token_up c conns s t l a g op out next untaken other i_token_up =
    λ j n x. let old = i_token_up j n x in grind (arith, get-push)

submit_token_down : (c : Client) (conns : ℕ → Conn) (s : Server) (t : Trace) (l : Log) (a : ℕ → ℕ) (g : ℕ) (op : Op)
    (out : Outcome) → (g ≡ c.taken + 1) → (c.outcome g ≡ Unsettled) → (is_firm out ≡ false × is_ok out ≡ false)
    → TokenDown c conns → TokenDown (record c { taken = g; op = put c.op g op; outcome = put c.outcome g out }) conns
submit_token_down c conns s t l a g op out next untaken other i_token_down =
    λ j n y. let old = i_token_down j n y in grind (arith, get-push)

submit_opens_up : (c : Client) (conns : ℕ → Conn) (s : Server) (t : Trace) (l : Log) (a : ℕ → ℕ) (g : ℕ) (op : Op)
    (out : Outcome) → (g ≡ c.taken + 1) → (c.outcome g ≡ Unsettled) → (is_firm out ≡ false × is_ok out ≡ false)
    → OpensUp c conns → TokenUp c conns → OpensUp (record c {
      taken = g;
      op = put c.op g op;
      outcome = put c.outcome g out;
    }) conns
submit_opens_up c conns s t l a g op out next untaken other i_opens_up i_token_up =
    λ j n x h z. let tk = i_token_up j n x h z in let ne = below_new (op_of x.token) g c.taken tk.1 next in let old =
    i_opens_up j n x h z in let ot = other in grind arith

submit_asked_as : (c : Client) (conns : ℕ → Conn) (s : Server) (t : Trace) (l : Log) (a : ℕ → ℕ) (g : ℕ) (op : Op)
    (out : Outcome) → (g ≡ c.taken + 1) → (c.outcome g ≡ Unsettled) → (is_firm out ≡ false × is_ok out ≡ false)
    → ((p : ℕ) → 0 < p → p ≤ c.taken → create_at c p ≤ c.taken) → AskedAs c conns → TokenUp c conns
    → AskedAs (record c { taken = g; op = put c.op g op; outcome = put c.outcome g out }) conns
submit_asked_as c conns s t l a g op out next untaken other below i_asked_as i_token_up =
    λ j n p x h e. let tk = i_token_up j n x h (attach_of x.token p e) in let lp = subst (λ g. g ≤ c.taken) (ap op_of e)
    tk.1 in let ne = below_new p g c.taken lp next in let at = put_other c.op g op p ne in let n2 =
    below_new (create_at c p) g c.taken (below p (subst (λ g. 0 < g) (ap op_of e) tk.0) lp) next in let at2 =
    put_other c.op g op (create_at c p) n2 in let old = i_asked_as j n p x h e in grind arith

submit_lost_unknown : (c : Client) (conns : ℕ → Conn) (s : Server) (t : Trace) (l : Log) (a : ℕ → ℕ) (g : ℕ) (op : Op)
    (out : Outcome) → (g ≡ c.taken + 1) → (c.outcome g ≡ Unsettled) → (is_firm out ≡ false × is_ok out ≡ false)
    → LostUnknown c → LostUnknown (record c { taken = g; op = put c.op g op; outcome = put c.outcome g out })
submit_lost_unknown c conns s t l a g op out next untaken other i_lost_unknown =
    λ p z. let old = i_lost_unknown p z in grind arith

submit_pairwise : (c : Client) (conns : ℕ → Conn) (s : Server) (t : Trace) (l : Log) (a : ℕ → ℕ) (g : ℕ) (op : Op)
    (out : Outcome) → (g ≡ c.taken + 1) → (c.outcome g ≡ Unsettled) → (is_firm out ≡ false × is_ok out ≡ false)
    → CTaken c → Pairwise c → Pairwise (record c { taken = g; op = put c.op g op; outcome = put c.outcome g out })
submit_pairwise c conns s t l a g op out next untaken other cn_taken i_pairwise =
    λ p q lt st. let tk = cn_taken q st in let l1 = tk.1 in let n1 = below_new q g c.taken tk.1 next in let n2 =
    below_new p g c.taken (omega (arith, lt, l1)) next in let old = i_pairwise p q lt st in grind arith

submit_first_up : (c : Client) (conns : ℕ → Conn) (s : Server) (t : Trace) (l : Log) (a : ℕ → ℕ) (g : ℕ) (op : Op)
    (out : Outcome) → (g ≡ c.taken + 1) → (c.outcome g ≡ Unsettled) → (is_firm out ≡ false × is_ok out ≡ false)
    → FirstUp c conns l → TokenUp c conns → FirstUp (record c {
      taken = g;
      op = put c.op g op;
      outcome = put c.outcome g out;
    }) conns l
submit_first_up c conns s t l a g op out next untaken other i_first_up i_token_up =
    λ j n p x h e. let tk = i_token_up j n x h (ops_of x.token p e) in let ne = apart_new p g c.taken (op_of x.token)
    (ap op_of e) tk.1 next in let old = i_first_up j n p x h e in grind (arith, get-push)

submit_unacted : (c : Client) (conns : ℕ → Conn) (s : Server) (t : Trace) (l : Log) (a : ℕ → ℕ) (g : ℕ) (op : Op)
    (out : Outcome) → (g ≡ c.taken + 1) → (c.outcome g ≡ Unsettled) → (is_firm out ≡ false × is_ok out ≡ false)
    → CTaken c → Unacted c l → FreshFirst c l → Unacted (record c {
      taken = g;
      op = put c.op g op;
      outcome = put c.outcome g out;
    }) l
submit_unacted c conns s t l a g op out next untaken other cn_taken i_unacted i_fresh_first =
    λ p. let old = i_unacted p in let f = i_fresh_first p in let tk = cn_taken p in grind arith

submit_not_done : (c : Client) (conns : ℕ → Conn) (s : Server) (t : Trace) (l : Log) (a : ℕ → ℕ) (g : ℕ) (op : Op)
    (out : Outcome) → (g ≡ c.taken + 1) → (c.outcome g ≡ Unsettled) → (is_firm out ≡ false × is_ok out ≡ false)
    → NotDone c conns l → TokenDown c conns → NotDone (record c {
      taken = g;
      op = put c.op g op;
      outcome = put c.outcome g out;
    }) conns l
submit_not_done c conns s t l a g op out next untaken other i_not_done i_token_down =
    λ j n p y h e. let tk = i_token_down j n y h (ops_of y.token p e) in let ne = apart_new p g c.taken (op_of y.token)
    (ap op_of e) tk.1 next in let old = i_not_done j n p y h e in grind (arith, get-push)

submit_cut_seq : (c : Client) (conns : ℕ → Conn) (s : Server) (t : Trace) (l : Log) (a : ℕ → ℕ) (g : ℕ) (op : Op)
    (out : Outcome) → (g ≡ c.taken + 1) → (c.outcome g ≡ Unsettled) → (is_firm out ≡ false × is_ok out ≡ false)
    → CutSeq c conns → TokenUp c conns → CutSeq (record c {
      taken = g;
      op = put c.op g op;
      outcome = put c.outcome g out;
    }) conns
submit_cut_seq c conns s t l a g op out next untaken other i_cut_seq i_token_up =
    λ j n p x h e. let tk = i_token_up j n x h (ops_of x.token p e) in let ne = apart_new p g c.taken (op_of x.token)
    (ap op_of e) tk.1 next in let old = i_cut_seq j n p x h e in grind (arith, get-push)

submit_open_seq : (c : Client) (conns : ℕ → Conn) (s : Server) (t : Trace) (l : Log) (a : ℕ → ℕ) (g : ℕ) (op : Op)
    (out : Outcome) → (g ≡ c.taken + 1) → (c.outcome g ≡ Unsettled) → (is_firm out ≡ false × is_ok out ≡ false)
    → OpenSeq c conns → TokenUp c conns → OpenSeq (record c {
      taken = g;
      op = put c.op g op;
      outcome = put c.outcome g out;
    }) conns
submit_open_seq c conns s t l a g op out next untaken other i_open_seq i_token_up =
    λ j n p x h e. let tk = i_token_up j n x h (ops_of x.token p e) in let ne = apart_new p g c.taken (op_of x.token)
    (ap op_of e) tk.1 next in let old = i_open_seq j n p x h e in grind (arith, get-push)

submit_older : (c : Client) (conns : ℕ → Conn) (s : Server) (t : Trace) (l : Log) (a : ℕ → ℕ) (g : ℕ) (op : Op)
    (out : Outcome) → (g ≡ c.taken + 1) → (c.outcome g ≡ Unsettled) → (is_firm out ≡ false × is_ok out ≡ false)
    → Older c conns → TokenUp c conns → Older (record c {
      taken = g;
      op = put c.op g op;
      outcome = put c.outcome g out;
    }) conns
submit_older c conns s t l a g op out next untaken other i_older i_token_up =
    λ j n i p x h e. let tk = i_token_up j n x h (ops_of x.token p e) in let ne = apart_new p g c.taken (op_of x.token)
    (ap op_of e) tk.1 next in let old = i_older j n i p x h e in grind (arith, get-push)

submit_no_replay : (c : Client) (conns : ℕ → Conn) (s : Server) (t : Trace) (l : Log) (a : ℕ → ℕ) (g : ℕ) (op : Op)
    (out : Outcome) → (g ≡ c.taken + 1) → (c.outcome g ≡ Unsettled) → (is_firm out ≡ false × is_ok out ≡ false)
    → NoReplay c conns → TokenUp c conns → NoReplay (record c {
      taken = g;
      op = put c.op g op;
      outcome = put c.outcome g out;
    }) conns
submit_no_replay c conns s t l a g op out next untaken other i_no_replay i_token_up =
    λ j n i q p u x h1 h2 e1 e2. let tk = i_token_up j n u h1 (ops_of u.token p e1) in let ne = apart_new p g c.taken
    (op_of u.token) (ap op_of e1) tk.1 next in let old = i_no_replay j n i q p u x h1 h2 e1 e2 in grind arith

submit_copy_pair : (c : Client) (conns : ℕ → Conn) (s : Server) (t : Trace) (l : Log) (a : ℕ → ℕ) (g : ℕ) (op : Op)
    (out : Outcome) → (g ≡ c.taken + 1) → (c.outcome g ≡ Unsettled) → (is_firm out ≡ false × is_ok out ≡ false)
    → CopyPair c conns s → TokenUp c conns → CopyPair (record c {
      taken = g;
      op = put c.op g op;
      outcome = put c.outcome g out;
    }) conns s
submit_copy_pair c conns s t l a g op out next untaken other i_copy_pair i_token_up =
    λ j n p x h e. let tk = i_token_up j n x h (ops_of x.token p e) in let ne = apart_new p g c.taken (op_of x.token)
    (ap op_of e) tk.1 next in let old = i_copy_pair j n p x h e in grind (arith, get-push)

submit_create_reply : (c : Client) (conns : ℕ → Conn) (s : Server) (t : Trace) (l : Log) (a : ℕ → ℕ) (g : ℕ) (op : Op)
    (out : Outcome) → (g ≡ c.taken + 1) → (c.outcome g ≡ Unsettled) → (is_firm out ≡ false × is_ok out ≡ false)
    → CreateReply c conns s t → TokenDown c conns → CreateReply (record c {
      taken = g;
      op = put c.op g op;
      outcome = put c.outcome g out;
    }) conns s t
submit_create_reply c conns s t l a g op out next untaken other i_create_reply i_token_down =
    λ j n p y h e. let tk = i_token_down j n y h (ops_of y.token p e) in let ne = apart_new p g c.taken (op_of y.token)
    (ap op_of e) tk.1 next in let old = i_create_reply j n p y h e in grind (arith, get-push)

submit_attach_reply : (c : Client) (conns : ℕ → Conn) (s : Server) (t : Trace) (l : Log) (a : ℕ → ℕ) (g : ℕ) (op : Op)
    (out : Outcome) → (g ≡ c.taken + 1) → (c.outcome g ≡ Unsettled) → (is_firm out ≡ false × is_ok out ≡ false)
    → AttachReply c conns s → TokenDown c conns → AttachReply (record c {
      taken = g;
      op = put c.op g op;
      outcome = put c.outcome g out;
    }) conns s
submit_attach_reply c conns s t l a g op out next untaken other i_attach_reply i_token_down =
    λ j n p y h e. let tk = i_token_down j n y h (attach_of y.token p e) in let ne = apart_new p g c.taken
    (op_of y.token) (ap op_of e) tk.1 next in let old = i_attach_reply j n p y h e in grind (arith, get-push)

submit_reached : (c : Client) (conns : ℕ → Conn) (s : Server) (t : Trace) (l : Log) (a : ℕ → ℕ) (g : ℕ) (op : Op)
    (out : Outcome) → (g ≡ c.taken + 1) → (c.outcome g ≡ Unsettled) → (is_firm out ≡ false × is_ok out ≡ false)
    → Reached c conns s → TokenDown c conns → Reached (record c {
      taken = g;
      op = put c.op g op;
      outcome = put c.outcome g out;
    }) conns s
submit_reached c conns s t l a g op out next untaken other i_reached i_token_down =
    λ j n p y h e. let tk = i_token_down j n y h (ops_of y.token p e) in let ne = apart_new p g c.taken (op_of y.token)
    (ap op_of e) tk.1 next in let old = i_reached j n p y h e in grind (arith, get-push)

submit_closed_reply : (c : Client) (conns : ℕ → Conn) (s : Server) (t : Trace) (l : Log) (a : ℕ → ℕ) (g : ℕ) (op : Op)
    (out : Outcome) → (g ≡ c.taken + 1) → (c.outcome g ≡ Unsettled) → (is_firm out ≡ false × is_ok out ≡ false)
    → ClosedReply c conns s → TokenDown c conns → ClosedReply (record c {
      taken = g;
      op = put c.op g op;
      outcome = put c.outcome g out;
    }) conns s
submit_closed_reply c conns s t l a g op out next untaken other i_closed_reply i_token_down =
    λ j n p y h e. let tk = i_token_down j n y h (ops_of y.token p e) in let ne = apart_new p g c.taken (op_of y.token)
    (ap op_of e) tk.1 next in let old = i_closed_reply j n p y h e in grind (arith, get-push)

submit_attach_refused : (c : Client) (conns : ℕ → Conn) (s : Server) (t : Trace) (l : Log) (a : ℕ → ℕ) (g : ℕ) (op : Op)
    (out : Outcome) → (g ≡ c.taken + 1) → (c.outcome g ≡ Unsettled) → (is_firm out ≡ false × is_ok out ≡ false)
    → AttachRefused c conns s → TokenDown c conns → AttachRefused (record c {
      taken = g;
      op = put c.op g op;
      outcome = put c.outcome g out;
    }) conns s
submit_attach_refused c conns s t l a g op out next untaken other i_attach_refused i_token_down =
    λ j n p y h e. let tk = i_token_down j n y h (attach_of y.token p e) in let ne = apart_new p g c.taken
    (op_of y.token) (ap op_of e) tk.1 next in let old = i_attach_refused j n p y h e in grind (arith, get-push)

submit_stale_reply : (c : Client) (conns : ℕ → Conn) (s : Server) (t : Trace) (l : Log) (a : ℕ → ℕ) (g : ℕ) (op : Op)
    (out : Outcome) → (g ≡ c.taken + 1) → (c.outcome g ≡ Unsettled) → (is_firm out ≡ false × is_ok out ≡ false)
    → StaleReply c conns → TokenDown c conns → StaleReply (record c {
      taken = g;
      op = put c.op g op;
      outcome = put c.outcome g out;
    }) conns
submit_stale_reply c conns s t l a g op out next untaken other i_stale_reply i_token_down =
    λ j n p y h e. let tk = i_token_down j n y h (ops_of y.token p e) in let ne = apart_new p g c.taken (op_of y.token)
    (ap op_of e) tk.1 next in let old = i_stale_reply j n p y h e in grind (arith, get-push)

submit_live_unsettled : (c : Client) (conns : ℕ → Conn) (s : Server) (t : Trace) (l : Log) (a : ℕ → ℕ) (g : ℕ) (op : Op)
    (out : Outcome) → (g ≡ c.taken + 1) → (c.outcome g ≡ Unsettled) → (is_firm out ≡ false × is_ok out ≡ false)
    → LiveUnsettled c conns s → TokenUp c conns → LiveUnsettled (record c {
      taken = g;
      op = put c.op g op;
      outcome = put c.outcome g out;
    }) conns s
submit_live_unsettled c conns s t l a g op out next untaken other i_live_unsettled i_token_up =
    λ j n p x h e. let tk = i_token_up j n x h (ops_of x.token p e) in let ne = apart_new p g c.taken (op_of x.token)
    (ap op_of e) tk.1 next in let old = i_live_unsettled j n p x h e in grind (arith, get-push)

submit_live_replay : (c : Client) (conns : ℕ → Conn) (s : Server) (t : Trace) (l : Log) (a : ℕ → ℕ) (g : ℕ) (op : Op)
    (out : Outcome) → (g ≡ c.taken + 1) → (c.outcome g ≡ Unsettled) → (is_firm out ≡ false × is_ok out ≡ false)
    → LiveReplay c conns s l → TokenUp c conns → LiveReplay (record c {
      taken = g;
      op = put c.op g op;
      outcome = put c.outcome g out;
    }) conns s l
submit_live_replay c conns s t l a g op out next untaken other i_live_replay i_token_up =
    λ j n p x h e. let tk = i_token_up j n x h (ops_of x.token p e) in let ne = apart_new p g c.taken (op_of x.token)
    (ap op_of e) tk.1 next in let old = i_live_replay j n p x h e in grind (arith, get-push)

submit_shows : (c : Client) (conns : ℕ → Conn) (s : Server) (t : Trace) (l : Log) (a : ℕ → ℕ) (g : ℕ) (op : Op)
    (out : Outcome) → (g ≡ c.taken + 1) → (c.outcome g ≡ Unsettled) → (is_firm out ≡ false × is_ok out ≡ false)
    → CCreates c → CTaken c → Shows c s l → FreshFirst c l → Shows (record c {
      taken = g;
      op = put c.op g op;
      outcome = put c.outcome g out;
    }) s l
submit_shows c conns s t l a g op out next untaken other cn_creates cn_taken i_shows i_fresh_first =
    λ p ed iso sd pe so. let st = sent_of (c.sent p) (l.first p) (λ z. (i_fresh_first p z).0) so in let tk =
    cn_taken p st in let ne = below_new p g c.taken tk.1 next in let at = put_other c.op g op p ne in let ed' =
    subst (λ o. edits o ≡ true) at ed in let cr = cn_creates p tk.0 tk.1 (edits_other (c.op p) ed') in let l1 =
    tk.1 in let l2 = cr.1 in let n2 = below_new (create_at c p) g c.taken (omega (arith, l1, l2)) next in let at2 =
    put_other c.op g op (create_at c p) n2 in let old = i_shows p ed' in grind arith

submit_open_of : (c : Client) (conns : ℕ → Conn) (s : Server) (t : Trace) (l : Log) (a : ℕ → ℕ) (g : ℕ) (op : Op)
    (out : Outcome) → (g ≡ c.taken + 1) → (c.outcome g ≡ Unsettled) → (is_firm out ≡ false × is_ok out ≡ false)
    → OpenOf c t → OpenOf (record c { taken = g; op = put c.op g op; outcome = put c.outcome g out }) t
submit_open_of c conns s t l a g op out next untaken other i_open_of =
    λ q. let old = i_open_of q in grind arith

submit_open_given : (c : Client) (conns : ℕ → Conn) (s : Server) (t : Trace) (l : Log) (a : ℕ → ℕ) (g : ℕ) (op : Op)
    (out : Outcome) → (g ≡ c.taken + 1) → (c.outcome g ≡ Unsettled) → (is_firm out ≡ false × is_ok out ≡ false)
    → CTaken c → OpenGiven c s t → OpenGiven (record c { taken = g; op = put c.op g op; outcome = put c.outcome g out })
    s t
submit_open_given c conns s t l a g op out next untaken other cn_taken i_open_given =
    λ q o e. let old = i_open_given q o e in let tk = cn_taken q old.2 in let ne = below_new q g c.taken tk.1 next in grind arith

submit_open_row : (c : Client) (conns : ℕ → Conn) (s : Server) (t : Trace) (l : Log) (a : ℕ → ℕ) (g : ℕ) (op : Op)
    (out : Outcome) → (g ≡ c.taken + 1) → (c.outcome g ≡ Unsettled) → (is_firm out ≡ false × is_ok out ≡ false)
    → CTaken c → OpenRow c s t → OpenGiven c s t → OpenRow (record c {
      taken = g;
      op = put c.op g op;
      outcome = put c.outcome g out;
    }) s t
submit_open_row c conns s t l a g op out next untaken other cn_taken i_open_row i_open_given =
    λ q o e. let old = i_open_given q o e in let tk = cn_taken q old.2 in let ne = below_new q g c.taken tk.1 next in
    let row = i_open_row q o e in grind arith

submit_quiet : (c : Client) (conns : ℕ → Conn) (s : Server) (t : Trace) (l : Log) (a : ℕ → ℕ) (g : ℕ) (op : Op)
    (out : Outcome) → (g ≡ c.taken + 1) → (c.outcome g ≡ Unsettled) → (is_firm out ≡ false × is_ok out ≡ false)
    → CTaken c → Quiet c t l → OpenGiven c s t → Quiet (record c {
      taken = g;
      op = put c.op g op;
      outcome = put c.outcome g out;
    }) t l
submit_quiet c conns s t l a g op out next untaken other cn_taken i_quiet i_open_given =
    λ n q lt mk b iso d. let so = some_of (t.open_of q) mk in let og = i_open_given q so.0 so.1 in let tk =
    cn_taken q og.2 in let n2 = below_new q g c.taken tk.1 next in let at2 = put_other c.op g op q n2 in
    i_quiet n q lt mk b (subst (λ o. isolating o ≡ true) at2 iso) d

submit_foreign : (c : Client) (conns : ℕ → Conn) (s : Server) (t : Trace) (l : Log) (a : ℕ → ℕ) (g : ℕ) (op : Op)
    (out : Outcome) → (g ≡ c.taken + 1) → (c.outcome g ≡ Unsettled) → (is_firm out ≡ false × is_ok out ≡ false)
    → CTaken c → Foreign c t l → OpenGiven c s t → Whose c l → Foreign (record c {
      taken = g;
      op = put c.op g op;
      outcome = put c.outcome g out;
    }) t l
submit_foreign c conns s t l a g op out next untaken other cn_taken i_foreign i_open_given i_whose =
    λ n q lt mk b iso no. let w = i_whose n lt in let ne = below_new (l.who n) g c.taken w.0 next in let at =
    put_other c.op g op (l.who n) ne in let so = some_of (t.open_of q) mk in let og = i_open_given q so.0 so.1 in
    let tk = cn_taken q og.2 in let n2 = below_new q g c.taken tk.1 next in let at2 = put_other c.op g op q n2 in
    i_foreign n q lt mk b (subst (λ o. isolating o ≡ true) at2 iso)
    (subst (λ o. ((its_create (l.who n) o == q) && lists o) ≡ false) at no)

submit_acted : (c : Client) (conns : ℕ → Conn) (s : Server) (t : Trace) (l : Log) (a : ℕ → ℕ) (g : ℕ) (op : Op)
    (out : Outcome) → (g ≡ c.taken + 1) → (c.outcome g ≡ Unsettled) → (is_firm out ≡ false × is_ok out ≡ false)
    → ((n : ℕ) → lists (c.op (l.who n)) ≡ true → 0 < l.who n) → ((n : ℕ) → n < l.places → lists (c.op (l.who n)) ≡ true
    → create_at c (l.who n) ≤ c.taken) → Acted c l → Whose c l → Acted (record c {
      taken = g;
      op = put c.op g op;
      outcome = put c.outcome g out;
    }) l
submit_acted c conns s t l a g op out next untaken other listed_above listed_create i_acted i_whose =
    λ n lt d ls iso. let w = i_whose n lt in let ne = below_new (l.who n) g c.taken w.0 next in let at =
    put_other c.op g op (l.who n) ne in let ls' = subst (λ o. lists o ≡ true) at ls in let ab = listed_above n ls'
    in let cr = listed_create n lt ls' in let n2 = below_new (create_at c (l.who n)) g c.taken cr next in let at2 =
    put_other c.op g op (create_at c (l.who n)) n2 in let at3 : its_create (l.who n) (put c.op g op (l.who n))
    ≡ create_at c (l.who n) = ap (its_create (l.who n)) at in let iso' : isolating (c.op (create_at c (l.who n)))
    ≡ true = subst (λ o. isolating o ≡ true) at2 (subst (λ r. isolating (put c.op g op r) ≡ true) at3 iso) in
    let old = i_acted n lt d ls' iso' in subst (λ o. l.first (l.who n) ≡ Some n × edits o ≡ true
    × l.bytes (its_create (l.who n) o) (n + 1) ≡ bytes_after o (l.bytes (its_create (l.who n) o) n)) (sym at) old

submit_gave : (c : Client) (conns : ℕ → Conn) (s : Server) (t : Trace) (l : Log) (a : ℕ → ℕ) (g : ℕ) (op : Op)
    (out : Outcome) → (g ≡ c.taken + 1) → (c.outcome g ≡ Unsettled) → (is_firm out ≡ false × is_ok out ≡ false)
    → Gave c l → Whose c l → Gave (record c { taken = g; op = put c.op g op; outcome = put c.outcome g out }) l
submit_gave c conns s t l a g op out next untaken other i_gave i_whose =
    λ n v lt ls gv. let w = i_whose n lt in let ne = below_new (l.who n) g c.taken w.0 next in let at = put_other c.op g
    op (l.who n) ne in let old = i_gave n v lt (subst (λ o. lists o ≡ true) at ls) gv in
    subst (λ o. reply_to o (l.bytes (its_create (l.who n) o) n) ≡ v × l.bytes (its_create (l.who n) o) (n + 1)
    ≡ bytes_after o (l.bytes (its_create (l.who n) o) n) × ends_before o (l.bytes (its_create (l.who n) o) n)
    ≡ false) (sym at) old

submit_gave_end : (c : Client) (conns : ℕ → Conn) (s : Server) (t : Trace) (l : Log) (a : ℕ → ℕ) (g : ℕ) (op : Op)
    (out : Outcome) → (g ≡ c.taken + 1) → (c.outcome g ≡ Unsettled) → (is_firm out ≡ false × is_ok out ≡ false)
    → GaveEnd c l → Whose c l → GaveEnd (record c { taken = g; op = put c.op g op; outcome = put c.outcome g out }) l
submit_gave_end c conns s t l a g op out next untaken other i_gave_end i_whose =
    λ n lt ls gv. let w = i_whose n lt in let ne = below_new (l.who n) g c.taken w.0 next in let at = put_other c.op g
    op (l.who n) ne in let old = i_gave_end n lt (subst (λ o. lists o ≡ true) at ls) gv in
    subst (λ o. ends_before o (l.bytes (its_create (l.who n) o) n) ≡ true) (sym at) old

submit_whose : (c : Client) (conns : ℕ → Conn) (s : Server) (t : Trace) (l : Log) (a : ℕ → ℕ) (g : ℕ) (op : Op)
    (out : Outcome) → (g ≡ c.taken + 1) → (c.outcome g ≡ Unsettled) → (is_firm out ≡ false × is_ok out ≡ false)
    → Whose c l → Whose (record c { taken = g; op = put c.op g op; outcome = put c.outcome g out }) l
submit_whose c conns s t l a g op out next untaken other i_whose =
    λ n. let old = i_whose n in grind arith

submit_born : (c : Client) (conns : ℕ → Conn) (s : Server) (t : Trace) (l : Log) (a : ℕ → ℕ) (g : ℕ) (op : Op)
    (out : Outcome) → (g ≡ c.taken + 1) → (c.outcome g ≡ Unsettled) → (is_firm out ≡ false × is_ok out ≡ false)
    → Born c l → Whose c l → Born (record c { taken = g; op = put c.op g op; outcome = put c.outcome g out }) l
submit_born c conns s t l a g op out next untaken other i_born i_whose =
    λ n lt ab mk. let w = i_whose n lt in let ne = below_new (l.who n) g c.taken w.0 next in let at = put_other c.op g
    op (l.who n) ne in let old = i_born n lt ab (subst (λ o. makes_open o ≡ false) at mk) in
    subst (λ o. l.birth (its_create (l.who n) o) ≤ n) (sym at) old

submit_by : (c : Client) (conns : ℕ → Conn) (s : Server) (t : Trace) (l : Log) (a : ℕ → ℕ) (g : ℕ) (op : Op)
    (out : Outcome) → (g ≡ c.taken + 1) → (c.outcome g ≡ Unsettled) → (is_firm out ≡ false × is_ok out ≡ false) → By c l
    → By (record c { taken = g; op = put c.op g op; outcome = put c.outcome g out }) l
submit_by c conns s t l a g op out next untaken other i_by =
    λ p n. let old = i_by p n in grind arith

submit_by_ok : (c : Client) (conns : ℕ → Conn) (s : Server) (t : Trace) (l : Log) (a : ℕ → ℕ) (g : ℕ) (op : Op)
    (out : Outcome) → (g ≡ c.taken + 1) → (c.outcome g ≡ Unsettled) → (is_firm out ≡ false × is_ok out ≡ false)
    → ByOk c l → ByOk (record c { taken = g; op = put c.op g op; outcome = put c.outcome g out }) l
submit_by_ok c conns s t l a g op out next untaken other i_by_ok =
    λ p n v. let old = i_by_ok p n v in grind arith

submit_by_end : (c : Client) (conns : ℕ → Conn) (s : Server) (t : Trace) (l : Log) (a : ℕ → ℕ) (g : ℕ) (op : Op)
    (out : Outcome) → (g ≡ c.taken + 1) → (c.outcome g ≡ Unsettled) → (is_firm out ≡ false × is_ok out ≡ false)
    → ByEnd c l → ByEnd (record c { taken = g; op = put c.op g op; outcome = put c.outcome g out }) l
submit_by_end c conns s t l a g op out next untaken other i_by_end =
    λ p n. let old = i_by_end p n in grind arith

submit_by_some : (c : Client) (conns : ℕ → Conn) (s : Server) (t : Trace) (l : Log) (a : ℕ → ℕ) (g : ℕ) (op : Op)
    (out : Outcome) → (g ≡ c.taken + 1) → (c.outcome g ≡ Unsettled) → (is_firm out ≡ false × is_ok out ≡ false)
    → BySome c → BySome (record c { taken = g; op = put c.op g op; outcome = put c.outcome g out })
submit_by_some c conns s t l a g op out next untaken other i_by_some =
    λ p. let old = i_by_some p in grind arith

submit_prior : (c : Client) (conns : ℕ → Conn) (s : Server) (t : Trace) (l : Log) (a : ℕ → ℕ) (g : ℕ) (op : Op)
    (out : Outcome) → (g ≡ c.taken + 1) → (c.outcome g ≡ Unsettled) → (is_firm out ≡ false × is_ok out ≡ false)
    → Prior c l → Prior (record c { taken = g; op = put c.op g op; outcome = put c.outcome g out }) l
submit_prior c conns s t l a g op out next untaken other i_prior =
    λ p q. let old = i_prior p q in grind arith

submit_prior_first : (c : Client) (conns : ℕ → Conn) (s : Server) (t : Trace) (l : Log) (a : ℕ → ℕ) (g : ℕ) (op : Op)
    (out : Outcome) → (g ≡ c.taken + 1) → (c.outcome g ≡ Unsettled) → (is_firm out ≡ false × is_ok out ≡ false)
    → PriorFirst c l → FirstAt l → Whose c l → PriorFirst (record c {
      taken = g;
      op = put c.op g op;
      outcome = put c.outcome g out;
    }) l
submit_prior_first c conns s t l a g op out next untaken other i_prior_first i_first_at i_whose =
    λ p q n ed pr f. let fa = i_first_at q n f in let w = i_whose n fa.0 in let ne = below_new q g c.taken
    (subst (λ r. r ≤ c.taken) fa.1 w.0) next in let at = put_other c.op g op q ne in
    i_prior_first p q n (subst (λ o. edits o ≡ true) at ed) pr f

pub submit_keeps : (c : Client) (conns : ℕ → Conn) (s : Server) (t : Trace) (l : Log) (a : ℕ → ℕ) (g : ℕ) (op : Op)
    (out : Outcome) → (g ≡ c.taken + 1) → (c.outcome g ≡ Unsettled) → (is_firm out ≡ false × is_ok out ≡ false)
    → ((p : ℕ) → 0 < p → p ≤ c.taken → create_at c p ≤ c.taken) → ((n : ℕ) → lists (c.op (l.who n)) ≡ true
    → 0 < l.who n) → ((n : ℕ) → n < l.places → lists (c.op (l.who n)) ≡ true → create_at c (l.who n) ≤ c.taken)
    → CTaken c → CCreates c → Contents c conns s t l a → Contents (record c {
      taken = g;
      op = put c.op g op;
      outcome = put c.outcome g out;
    }) conns s t l a
submit_keeps c conns s t l a g op out next untaken other below listed_above listed_create cn_taken cn_creates i =
    record {
      token_up = submit_token_up c conns s t l a g op out next untaken other i.token_up;
      token_down = submit_token_down c conns s t l a g op out next untaken other i.token_down;
      opens_up = submit_opens_up c conns s t l a g op out next untaken other i.opens_up i.token_up;
      asked_as = submit_asked_as c conns s t l a g op out next untaken other below i.asked_as i.token_up;
      lost_unknown = submit_lost_unknown c conns s t l a g op out next untaken other i.lost_unknown;
      lost_dead = i.lost_dead;
      lost_known = i.lost_known;
      lost_asked = i.lost_asked;
      session_known = i.session_known;
      session_asked = i.session_asked;
      pairwise = submit_pairwise c conns s t l a g op out next untaken other cn_taken i.pairwise;
      first_up = submit_first_up c conns s t l a g op out next untaken other i.first_up i.token_up;
      unacted = submit_unacted c conns s t l a g op out next untaken other cn_taken i.unacted i.fresh_first;
      fresh_first = i.fresh_first;
      not_done = submit_not_done c conns s t l a g op out next untaken other i.not_done i.token_down;
      cut_seq = submit_cut_seq c conns s t l a g op out next untaken other i.cut_seq i.token_up;
      open_seq = submit_open_seq c conns s t l a g op out next untaken other i.open_seq i.token_up;
      older = submit_older c conns s t l a g op out next untaken other i.older i.token_up;
      no_replay = submit_no_replay c conns s t l a g op out next untaken other i.no_replay i.token_up;
      copy_pair = submit_copy_pair c conns s t l a g op out next untaken other i.copy_pair i.token_up;
      now_pair = i.now_pair;
      create_reply = submit_create_reply c conns s t l a g op out next untaken other i.create_reply i.token_down;
      attach_reply = submit_attach_reply c conns s t l a g op out next untaken other i.attach_reply i.token_down;
      reached = submit_reached c conns s t l a g op out next untaken other i.reached i.token_down;
      closed_reply = submit_closed_reply c conns s t l a g op out next untaken other i.closed_reply i.token_down;
      attach_refused = submit_attach_refused c conns s t l a g op out next untaken other i.attach_refused i.token_down;
      stale_reply = submit_stale_reply c conns s t l a g op out next untaken other i.stale_reply i.token_down;
      session_seq = i.session_seq;
      pending_at = i.pending_at;
      live_unsettled = submit_live_unsettled c conns s t l a g op out next untaken other i.live_unsettled i.token_up;
      live_replay = submit_live_replay c conns s t l a g op out next untaken other i.live_replay i.token_up;
      shows = submit_shows c conns s t l a g op out next untaken other cn_creates cn_taken i.shows i.fresh_first;
      denied = i.denied;
      open_of = submit_open_of c conns s t l a g op out next untaken other i.open_of;
      named_open = i.named_open;
      open_given = submit_open_given c conns s t l a g op out next untaken other cn_taken i.open_given;
      open_row = submit_open_row c conns s t l a g op out next untaken other cn_taken i.open_row i.open_given;
      open_acted = i.open_acted;
      bytes = i.bytes;
      quiet = submit_quiet c conns s t l a g op out next untaken other cn_taken i.quiet i.open_given;
      foreign = submit_foreign c conns s t l a g op out next untaken other cn_taken i.foreign i.open_given i.whose;
      acted = submit_acted c conns s t l a g op out next untaken other listed_above listed_create i.acted i.whose;
      gave = submit_gave c conns s t l a g op out next untaken other i.gave i.whose;
      gave_end = submit_gave_end c conns s t l a g op out next untaken other i.gave_end i.whose;
      whose = submit_whose c conns s t l a g op out next untaken other i.whose;
      born = submit_born c conns s t l a g op out next untaken other i.born i.whose;
      birth_le = i.birth_le;
      first_at = i.first_at;
      by = submit_by c conns s t l a g op out next untaken other i.by;
      by_ok = submit_by_ok c conns s t l a g op out next untaken other i.by_ok;
      by_end = submit_by_end c conns s t l a g op out next untaken other i.by_end;
      by_some = submit_by_some c conns s t l a g op out next untaken other i.by_some;
      replies = i.replies;
      attach_status = i.attach_status;
      since_le = i.since_le;
      since_reply = i.since_reply;
      since_by = i.since_by;
      since_first = i.since_first;
      prior = submit_prior c conns s t l a g op out next untaken other i.prior;
      prior_by = i.prior_by;
      prior_first = submit_prior_first c conns s t l a g op out next untaken other i.prior_first i.first_at i.whose;
    }
