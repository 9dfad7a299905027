-- A connection that greets was asked to.
use Rattle.std.proofs.Common.{◌≡◌, ℕ, Bool, true, false, ◌&&◌, ◌==◌, if◌then◌else◌, List, [], ◌∷◌, Option, Some, None, Result}
use Rattle.std.proofs.Common.{refl, sym, ap, subst, ◌∙◌}
use Rattle.std.specs.Prelude.{is_some}
use Rattle.spec_exchange.specs.Status.{success}
use Rattle.spec_wire.specs.credits.Window.{HeldIds, after_grant}
use Rattle.spec_world.specs.Settings.{ServerSettings}
use Rattle.spec_world.specs.Negotiate.{negotiated, client_told}
use Rattle.spec_world.specs.Ends.{Greeting, ServerEnd}
use Rattle.spec_world.specs.Hearing as hearing
use Rattle.spec_world.specs.Logon as logon
use Rattle.spec_world.specs.Answering as answering
use Rattle.spec_world.specs.Answering.{first_text, later_texts, server_end_behind, told_each}
use Rattle.conn_core.specs.declared.served.error.ServeError.{ServeError}
use Rattle.conn_core.specs.declared.frame_messages.checked.Checked.{Checked}
use Rattle.conn_core.specs.declared.served.serve.Reply.{Reply}
use Rattle.conn_core.specs.message_replies.Replying.{AreAsked, AreMessagesSaid, AskedBy, Later, MessageSays, aside_status}
use Rattle.conn_core.proofs.message_replies.Saids.{is_request}
use Rattle.conn_core.specs.reply_frames.Joined.{end_behind}
use Rattle.conn_core.specs.reply_frames.Walking.{AllAsk}

-- ---- of each reply

abbrev AskedBehind : Bool → Later → Type 0
AskedBehind asked later = (rs : List (Result Reply ServeError)) (u : HeldIds) (ss : List answering.SaidReply)
    → later rs u ss → AllAsk asked ss

asked_by : (asked : Bool) (c : hearing.Checked) (s : answering.SaidReply) → AskedBy asked c → s.request ≡ c → AskedBy asked s.request
asked_by asked c s h e = subst (λ (x : hearing.Checked). AskedBy asked x) (sym e) h

one_asked : (asked : Bool) (z : ServerSettings) (now : ℕ) (f : ServerEnd) (w : HeldIds) (c : hearing.Checked) (cancel : Bool)
    (fails aside : Option ℕ) (later : Later) (rs : List (Result Reply ServeError)) (ss : List answering.SaidReply) → AskedBy asked c
    → AskedBehind asked later → MessageSays z now f w c cancel fails aside later rs ss → AllAsk asked ss
unfolding AllAsk
one_asked asked z now f w c true fails aside later rs ss a go h = go rs w ss h
one_asked asked z now f w c false (Some status) aside later rs (s ∷ ss) a go h = (
  asked_by asked c s a (ap (λ (x : answering.SaidReply). x.request) h.0),
  go rs (after_grant c.header.credits w) ss h.1,
)
one_asked asked z now f w c false (Some status) aside later rs [] a go h = tt
one_asked asked z now f w c false None (Some status) later rs (s ∷ ss) a go h = (
  asked_by asked c s a (ap (λ (x : answering.SaidReply). x.request) h.0.1),
  go rs (after_grant c.header.credits w) ss h.1,
)
one_asked asked z now f w c false None (Some status) later rs [] a go h = tt
one_asked asked z now f w c false None None later (r ∷ rs) (s ∷ ss) a go h = (
  asked_by asked c s a (is_request f w c r s h.0),
  go rs (after_grant c.header.credits w) ss h.1,
)
one_asked asked z now f w c false None None later (r ∷ rs) [] a go h = tt
one_asked asked z now f w c false None None later [] ss a go h = absurd h

none_ask : (asked : Bool) → AllAsk asked []
unfolding AllAsk
none_ask asked = tt

pub all_ask : (asked : Bool) (z : ServerSettings) (now : ℕ) (f : ServerEnd) (ms : List Checked) (cs : List hearing.Checked)
    (rs : List (Result Reply ServeError)) (w : HeldIds) (ss : List answering.SaidReply) (v : HeldIds) → AreAsked asked cs
    → AreMessagesSaid z now f ms cs rs w ss v → AllAsk asked ss
unfolding AreAsked
all_ask asked z now f [] [] rs w ss v a h = subst (λ (xs : List answering.SaidReply). AllAsk asked xs) (sym h.1) (none_ask asked)
all_ask asked z now f (m ∷ ms) (c ∷ cs) rs w ss v a h =
    one_asked asked z now f w c (hearing.is_cancel c.header) m.fails (aside_status c) (λ later u rest.
    AreMessagesSaid z now f ms cs later u rest v) rs ss
    a.0 (λ later u rest l. all_ask asked z now f ms cs later u rest v a.1 l) h
all_ask asked z now f [] (c ∷ cs) rs w ss v a h = absurd h
all_ask asked z now f (m ∷ ms) [] rs w ss v a h = absurd h

-- ---- of the connection behind all

abbrev Heard : ServerEnd → Type 0
Heard f = is_some f.greeting ≡ true → f.asked ≡ true

asked_same : (f : ServerEnd) (r : answering.SaidReply) (t : List ℕ) (p : logon.Progress)
    → (answering.server_end_moved f r t p).asked ≡ f.asked
asked_same f r t logon.Stays = refl
asked_same f r t (logon.Interim binding) = refl
asked_same f r t (logon.Final binding channel encrypts) = refl

greets_if : (n t asked : Bool) (x y : Option Greeting) → (n ≡ true → asked ≡ true) → (is_some y ≡ true → asked ≡ true)
    → is_some (if n && t then x else y) ≡ true → asked ≡ true
greets_if true t asked x y a h e = a refl
greets_if false t asked x y a h e = h e

heard_one : (f : ServerEnd) (r : answering.SaidReply) (t : List ℕ) → AskedBy f.asked r.request → Heard f → Heard (server_end_behind f r t)
heard_one f r t a h e =
    asked_same f r t r.progress
    ∙ greets_if (hearing.is_negotiate r.request.header) (r.header.status == success) f.asked (Some (record {
      client = client_told r.request.bytes;
      chosen = negotiated r.request.bytes;
      transcript = r.request.raw ∷ t ∷ [];
    })) f.greeting a h e

pub heard_all : (sealed : Bool) (f : ServerEnd) (rs : List answering.SaidReply) (ts : List (List ℕ)) → AllAsk f.asked rs → Heard f
    → is_some (end_behind sealed f rs ts).greeting ≡ true → (end_behind sealed f rs ts).asked ≡ true
unfolding AllAsk told_each
heard_all sealed f [] ts a h e = h e
heard_all sealed f (r ∷ rs) ts a h e =
    heard_all sealed (server_end_behind f r (first_text ts)) rs (later_texts ts)
    (subst (λ (b : Bool). AllAsk b rs) (sym (asked_same f r (first_text ts) r.progress)) a.1) (heard_one f r (first_text ts) a.0 h) e
