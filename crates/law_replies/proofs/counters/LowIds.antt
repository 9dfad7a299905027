-- Over every run: the server's ids are of its epoch, and its epoch is bounded by the restarts.

use Rattle.std.proofs.Common.{◌≡◌, ℕ, ◌+◌, ◌≤◌, Bool, true, false, if◌then◌else◌, List, [], ◌∷◌, ◌++◌, inl, inr, refl}
use Rattle.std.proofs.Common.{sym, ap, ◌∙◌, subst, arith}
use Rattle.spec_exchange.specs.State.{Server, Message, Answer}
use Rattle.spec_exchange.specs.Opens.{id_of, max_ids}
use Rattle.spec_exchange.specs.CheckSetup.{last_tree}
use Rattle.spec_exchange.specs.Client.{Client}
use Rattle.spec_exchange.specs.Network.{World, Event, Serve, Conn, Sent, Received, Settings, happens, run, start, later}
use Rattle.spec_exchange.specs.Network.{serve_front, answer}
use Rattle.spec_exchange.specs.Network.{may_serve}
use Rattle.law_sessions.proofs.messages.Reached.{run_more}
use Rattle.law_server.proofs.tables.Run.{fitting}
use Rattle.law_sessions.proofs.sessions.Answers.{Facts}
use Rattle.law_sessions.proofs.sessions.Heard.{answered as answered_by}
use Rattle.law_answers.specs.answers.Trees.{TellsTree}
use Rattle.law_answers.proofs.answers.Trees.{trees_are_told}
use Rattle.law_ties.specs.wire_facts.Steps.{restarts_in}
use Rattle.law_replies.specs.counters.Bounds.{IsCounterBounded}
use Rattle.law_replies.specs.counters.Low.{LowUp, LowDown, Low, last_id, IdsAreLow}
use Rattle.law_replies.proofs.counters.Epoch.{begins}
use Rattle.law_replies.proofs.counters.Bounds.{at_end, restarts_more, runs_are_bounded}
use Rattle.law_replies.proofs.counters.Low.{Answers, low_on, front_up}

-- ---- a higher number

up_to : (a m n : ℕ) → m ≤ n → a ≤ m → a ≤ n
up_to a m n l h = omega (arith, l, h)

wide_up : (m n : ℕ) → m ≤ n → (xs : List Sent) → LowUp m xs → LowUp n xs
wide_up m n l [] all = tt
wide_up m n l (x ∷ xs) all = (up_to x.message.session_id m n l all.0, all.1, wide_up m n l xs all.2)

wide_down : (m n : ℕ) → m ≤ n → (ys : List Received) → LowDown m ys → LowDown n ys
wide_down m n l [] all = tt
wide_down m n l (y ∷ ys) all = (up_to y.reply.session_id m n l all.0, all.1, wide_down m n l ys all.2)

wide : (m n : ℕ) (c : Client) (conns : ℕ → Conn) → m ≤ n → Low m c conns → Low n c conns
wide m n c conns l i =
    record {
      session = up_to c.session m n l i.session;
      pending = up_to c.pending m n l i.pending;
      accepted = up_to c.accepted m n l i.accepted;
      tree = i.tree;
      up = λ k. wide_up m n l (conns k).up (i.up k);
      down = λ k. wide_down m n l (conns k).down (i.down k);
    }

-- ---- what the server gives

-- an id that was given in an epoch up to this one
given_low : (e g r : ℕ) → e ≤ r → g ≤ max_ids → id_of e g ≤ id_of r max_ids
given_low e g r l few = omega (arith, l, few)

new_low : (a e g f h r : ℕ) → a ≡ id_of e (g + 1) → f ≡ e → h ≡ g + 1 → f ≤ r → h ≤ max_ids → a ≤ id_of r max_ids
new_low a e g f h r is epoch given l few = omega (arith, is, epoch, given, l, few)

own_low : (a b n : ℕ) → a ≡ b → b ≤ n → a ≤ n
own_low a b n e l = omega (arith, e, l)

by_challenge : (r : ℕ) (s : Server) (m : Message) (A : Answer) (f : Facts s m A) → A.server.epoch ≤ r → A.server.session_ids_given ≤ max_ids
    → m.session_id ≤ id_of r max_ids → (b : Bool) → f.challenges ≡ b → A.reply.session_id ≤ id_of r max_ids
by_challenge r s m A f l few own true e =
    let c = f.counted e in
    new_low A.reply.session_id s.epoch s.session_ids_given A.server.epoch A.server.session_ids_given r c.1 f.epoch c.0 l few
by_challenge r s m A f l few own false e =
    let c = f.uncounted e in own_low A.reply.session_id m.session_id (id_of r max_ids) c.1 own

if_true : {X : Type 0} (b : Bool) (x y : X) → b ≡ true → (if b then x else y) ≡ x
if_true true x y e = refl
if_true false x y e = absurd (let h : false ≡ true = e in cc)

served_server : (w : World) (k : ℕ) (xs : List Sent) (x : Sent) (rest : List Sent) → xs ≡ x ∷ rest
    → (serve_front w k xs).server ≡ (answer w x).server
served_server w k xs x rest e = ap (λ ys. (serve_front w k ys).server) e

-- the server behind a Serve is that of the answer
behind : (w : World) (k : ℕ) (x : Sent) (rest : List Sent) → may_serve w k ≡ true → (w.conns k).up ≡ x ∷ rest
    → (happens w (Serve k)).server ≡ (answer w x).server
behind w k x rest may e =
    ap (λ (v : World). v.server) (if_true (may_serve w k) (later (serve_front w k (w.conns k).up) 1) w may)
    ∙ served_server w k (w.conns k).up x rest e

told_low : (m : Message) (A : Answer) → m.tree_id ≤ last_tree → TellsTree m A → A.reply.tree_id ≤ last_tree
told_low m A l (inl e) = own_low A.reply.tree_id m.tree_id last_tree e l
told_low m A l (inr t) = t

answers : (r : ℕ) (w : World) (k : ℕ) → (happens w (Serve k)).server.epoch ≤ r → (happens w (Serve k)).server.session_ids_given ≤ max_ids
    → may_serve w k ≡ true → Answers (id_of r max_ids) w k
answers r w k l few may x rest e own low =
    let s = behind w k x rest may e in
    let f = answered_by w.server w.moment x.message x.message.command refl in (
      by_challenge r w.server x.message (answer w x) f (subst (λ (u : Server). u.epoch ≤ r) s l)
          (subst (λ (u : Server). u.session_ids_given ≤ max_ids) s few) own f.challenges refl,
      told_low x.message (answer w x) low (trees_are_told w x),
    )

-- ---- every run

last_more : (m n b : ℕ) → m ≡ n + b → id_of (1 + n) max_ids ≤ id_of (1 + m) max_ids
last_more m n b e = omega (arith, e)

serve_begins_none : (k : ℕ) → begins (Serve k) ≡ 0
unfolding restarts_in
serve_begins_none k = refl

epoch_low : (a n m b s : ℕ) → a ≤ 1 + s → s ≡ n + 0 → m ≡ n + b → a ≤ 1 + m
epoch_low a n m b s l e f = omega (arith, l, e, f)

-- behind a Serve instead of the event
served_epoch : (z : Settings) (es : List Event) (e : Event) (k : ℕ)
    → (happens (run es (start z)) (Serve k)).server.epoch ≤ 1 + restarts_in (es ++ e ∷ [])
served_epoch z es e k =
    let b : IsCounterBounded (es ++ Serve k ∷ []) (happens (run es (start z)) (Serve k)) =
    subst (λ w. IsCounterBounded (es ++ Serve k ∷ []) w)
    (run_more es (Serve k) (start z)) (runs_are_bounded z (es ++ Serve k ∷ [])) in
    epoch_low (happens (run es (start z)) (Serve k)).server.epoch (restarts_in es) (restarts_in (es ++ e ∷ [])) (begins e)
    (restarts_in (es ++ Serve k ∷ [])) b.epoch
    (restarts_more es (Serve k) ∙ ap (λ n. restarts_in es + n) (serve_begins_none k)) (restarts_more es e)

served_given : (z : Settings) (es : List Event) (k : ℕ) → (happens (run es (start z)) (Serve k)).server.session_ids_given ≤ max_ids
served_given z es k =
    subst (λ w. w.server.session_ids_given ≤ max_ids) (run_more es (Serve k) (start z)) (fitting z (es ++ Serve k ∷ [])).begun

abbrev At : Settings → List Event → Type 0
At z es = Low (last_id es) (run es (start z)).client (run es (start z)).conns

low_more : (z : Settings) (es : List Event) (e : Event) → At z es → At z (es ++ e ∷ [])
low_more z es e i =
    let w = run es (start z) in
    let n = last_id (es ++ e ∷ []) in
    let h = wide (last_id es) n w.client w.conns (last_more (restarts_in (es ++ e ∷ [])) (restarts_in es) (begins e)
    (restarts_more es e)) i in
    subst (λ (v : World). Low n v.client v.conns) (sym (run_more es e (start z)))
    (low_on n w e (λ k may. answers (1 + restarts_in (es ++ e ∷ [])) w k (served_epoch z es e k) (served_given z es k) may) h)

none_low : (n : ℕ) → 0 ≤ n
none_low n = omega arith

first_low : (z : Settings) → Low (last_id []) (start z).client (start z).conns
first_low z =
    let n = last_id [] in
    record { session = none_low n; pending = none_low n; accepted = none_low n; tree = none_low last_tree; up = λ k. tt; down = λ k. tt }

at_start : (z : Settings) → At z []
unfolding run
at_start z = first_low z

pub ids_are_low : IdsAreLow
ids_are_low z es = at_end (λ xs. At z xs) (low_more z) [] es (at_start z)

-- ---- what is said to a front

lower : (a b n : ℕ) → a ≤ 1 + b → b ≡ n + 0 → a ≤ 1 + n
lower a b n l e = omega (arith, l, e)

served_now : (z : Settings) (es : List Event) (k : ℕ) → (happens (run es (start z)) (Serve k)).server.epoch ≤ 1 + restarts_in es
served_now z es k =
    let b : IsCounterBounded (es ++ Serve k ∷ []) (happens (run es (start z)) (Serve k)) =
    subst (λ w. IsCounterBounded (es ++ Serve k ∷ []) w)
    (run_more es (Serve k) (start z)) (runs_are_bounded z (es ++ Serve k ∷ [])) in
    lower (happens (run es (start z)) (Serve k)).server.epoch (restarts_in (es ++ Serve k ∷ [])) (restarts_in es) b.epoch
    (restarts_more es (Serve k) ∙ ap (λ n. restarts_in es + n) (serve_begins_none k))

pub replies_are_low : (z : Settings) (es : List Event) (k : ℕ) (x : Sent) (rest : List Sent) → may_serve (run es (start z)) k ≡ true
    → ((run es (start z)).conns k).up ≡ x ∷ rest
    → ((answer (run es (start z)) x).reply.session_id ≤ last_id es) × ((answer (run es (start z)) x).reply.tree_id ≤ last_tree)
replies_are_low z es k x rest may e =
    let w = run es (start z) in
    let low = ids_are_low z es in
    let f = front_up (last_id es) (w.conns k).up x rest e (low.up k) in
    answers (1 + restarts_in es) w k (served_now z es k) (served_given z es k) may x rest e f.0 f.1
