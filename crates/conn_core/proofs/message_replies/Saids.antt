-- The replies of a frame's messages: the next one, and those of more messages.
use Rattle.std.proofs.Common.{◌≡◌, ℕ, zero, suc, ◌+◌, ◌==◌, Bool, true, false, not, ◌&&◌, if◌then◌else◌, List, [], ◌∷◌, ◌++◌, drop}
use Rattle.std.proofs.Common.{Option, Some, None, Result, Ok, Err, refl, sym, ap, subst, ◌∙◌}
use Rattle.std.specs.Prelude.{is_some, slice_get}
use Rattle.std.proofs.lemmas.List.{drop-drop}
use Rattle.spec_wire.specs.declared.messages.header.Header.{Header}
use Rattle.spec_wire.specs.credits.Window.{HeldIds, after_grant}
use Rattle.spec_world.specs.Settings.{ServerSettings}
use Rattle.spec_world.specs.Ends.{ServerEnd}
use Rattle.spec_world.specs.Hearing as hearing
use Rattle.spec_world.specs.Answering as answering
use Rattle.spec_world.specs.Connection.{said_failed}
use Rattle.conn_core.specs.declared.served.error.ServeError.{ServeError}
use Rattle.conn_core.specs.declared.served.error.ServeError.TheVariants as errors
use Rattle.conn_core.specs.declared.conn.Progress.{Progress}
use Rattle.conn_core.specs.declared.conn.Progress.TheVariants.{Stays, Refused, Interim, Final}
use Rattle.conn_core.specs.declared.frame_messages.checked.Checked.{Checked}
use Rattle.conn_core.specs.declared.served.serve.Reply.{Reply}
use Rattle.conn_core.specs.declared.reply_sealing.said.Said.{Said}
use Rattle.conn_core.specs.reply_sealing.Saying.{IsReplySaid, MovesAs}
use Rattle.conn_core.specs.message_replies.Replying.{Later, IsMessageAnswered, SaysAside, SaysReply, SaysThis}
use Rattle.conn_core.specs.message_replies.Replying.{MessageSays, AreMessagesSaid, SaidOf, SaidIf, SaidBy, said_aside}
use Rattle.conn_core.specs.message_replies.Replying.{aside_status, echo_due, negotiate_due, has_message_event}

abbrev Answer : Type 0
Answer = Result Reply ServeError

-- ---- the next one

-- a CANCEL has none
pub next_cancel : (z : ServerSettings) (now : ℕ) (f : ServerEnd) (m : Checked) (ms : List Checked) (c : hearing.Checked)
    (cs : List hearing.Checked) (rs : List Answer) (w : HeldIds) (ss : List answering.SaidReply) (v : HeldIds)
    → hearing.is_cancel c.header ≡ true
    → AreMessagesSaid z now f (m ∷ ms) (c ∷ cs) rs w ss v → AreMessagesSaid z now f ms cs rs w ss v
next_cancel z now f m ms c cs rs w ss v cancel h =
    subst (λ (b : Bool). MessageSays z now f w c b m.fails (aside_status c) (λ later u rest. AreMessagesSaid z now f ms
    cs later u rest v) rs ss) cancel h

-- of the answers that are left, those behind the one that it takes
abbrev behind : Option ℕ → Option ℕ → List Answer → List Answer
behind (Some status) aside rs = rs
behind None (Some status) rs = rs
behind None None rs = drop 1 rs

abbrev pub IsNext : Later → hearing.Checked → HeldIds → List Answer → List answering.SaidReply → Said → Type 0
IsNext later c u rs ss said =
    (s : answering.SaidReply) × (rest : List answering.SaidReply) × (ss ≡ s ∷ rest) × IsReplySaid said s × (s.request ≡ c) × later rs u rest

this_next : (due : answering.SaidReply) (u : HeldIds) (later : Later) (rs : List Answer) (ss : List answering.SaidReply) (said : Said)
    → SaysThis due u later rs ss → IsReplySaid said due → IsNext later due.request u rs ss said
this_next due u later rs (s ∷ ss) said h is = (
  s,
  ss,
  refl,
  subst (λ (x : answering.SaidReply). IsReplySaid said x) (sym h.0) is,
  ap (λ (x : answering.SaidReply). x.request) h.0,
  h.1,
)
this_next due u later rs [] said h is = absurd h

moves_base : (p : Progress) (r : answering.SaidReply) (base : List ℕ) → MovesAs p r → MovesAs p (record r { base = base })
moves_base Stays r base h = h
moves_base (Refused signer) r base h = h
moves_base (Interim signer) r base h = h
moves_base (Final keys channel encrypts) r base h = h

said_base : (said : Said) (r : answering.SaidReply) (base : List ℕ) → IsReplySaid said r → IsReplySaid said (record r { base = base })
said_base said r base is = record {
  header = is.header;
  body = is.body;
  signer = is.signer;
  progress = moves_base said.progress r base is.progress;
}

aside_next : (due : answering.SaidReply) (u : HeldIds) (later : Later) (rs : List Answer) (ss : List answering.SaidReply) (said : Said)
    → SaysAside due u later rs ss → IsReplySaid said due → IsNext later due.request u rs ss said
aside_next due u later rs (s ∷ ss) said h is = (
  s,
  ss,
  refl,
  subst (λ (x : answering.SaidReply). IsReplySaid said x) (sym h.0.1) (said_base said due h.0.0 is),
  ap (λ (x : answering.SaidReply). x.request) h.0.1,
  h.1,
)
aside_next due u later rs [] said h is = absurd h

pub is_request : (f : ServerEnd) (w : HeldIds) (c : hearing.Checked) (r : Answer) (s : answering.SaidReply)
    → IsMessageAnswered f w c r s → s.request ≡ c
is_request f w c (Ok r) s h = h.request
is_request f w c (Err errors.Memory) s h = ap (λ (x : answering.SaidReply). x.request) h
is_request f w c (Err (errors.Unanswered acted)) s h = absurd h
is_request f w c (Err (errors.Stopped count)) s h = absurd h

is_answer : (f : ServerEnd) (w : HeldIds) (c : hearing.Checked) (r : Answer) (s : answering.SaidReply) (said : Said)
    → IsMessageAnswered f w c r s → SaidOf f w c (Some r) said → IsReplySaid said s
is_answer f w c (Ok r) s said h is = is s h
is_answer f w c (Err errors.Memory) s said h is = subst (λ (x : answering.SaidReply). IsReplySaid said x) (sym h) is
is_answer f w c (Err (errors.Unanswered acted)) s said h is = absurd h
is_answer f w c (Err (errors.Stopped count)) s said h is = absurd h

reply_next : (f : ServerEnd) (w : HeldIds) (c : hearing.Checked) (later : Later) (rs : List Answer)
    (ss : List answering.SaidReply) (said : Said)
    → SaysReply f w c later rs ss → SaidOf f w c (slice_get rs 0) said → IsNext later c (after_grant c.header.credits w) (drop 1 rs) ss said
reply_next f w c later (r ∷ rs) (s ∷ ss) said h is = (s, ss, refl, is_answer f w c r s said h.0 is, is_request f w c r s h.0, h.1)
reply_next f w c later (r ∷ rs) [] said h is = absurd h
reply_next f w c later [] ss said h is = absurd h

one_next : (z : ServerSettings) (now : ℕ) (f : ServerEnd) (w : HeldIds) (c : hearing.Checked) (fails aside : Option ℕ) (later : Later)
    (rs : List Answer) (ss : List answering.SaidReply) (said : Said) → MessageSays z now f w c false fails aside later rs ss
    → SaidIf z now f w c fails aside (slice_get rs 0) said
    → IsNext later c (after_grant c.header.credits w) (behind fails aside rs) ss said
one_next z now f w c (Some status) aside later rs ss said h is =
    this_next (said_failed f w c status) (after_grant c.header.credits w) later rs ss said h is
one_next z now f w c None (Some status) later rs ss said h is =
    aside_next (said_aside z now f w c status) (after_grant c.header.credits w) later rs ss said h is
one_next z now f w c None None later rs ss said h is = reply_next f w c later rs ss said h is

-- what is due behind a message by what it has
behind_is : (fails aside : Option ℕ) (rs : List Answer)
    → behind fails aside rs ≡ drop (if not (is_some fails) && not (is_some aside) then 1 else 0) rs
behind_is (Some status) aside rs = refl
behind_is None (Some status) rs = refl
behind_is None None rs = refl

aside_if : (n e : Bool) (a b : ℕ) → is_some (if n then Some a else if e then Some b else None) ≡ not (not n && not e)
aside_if true e a b = refl
aside_if false true a b = refl
aside_if false false a b = refl

has_it : (fails : Bool) (n e k aside : Bool) → k ≡ false → aside ≡ not (not n && not e)
    → (not fails && (not n && (not e && not k))) ≡ (not fails && not aside)
has_it true n e k aside h a = refl
has_it false true e k aside h a = ap not (sym a)
has_it false false true k aside h a = ap not (sym a)
has_it false false false k aside h a = ap not h ∙ ap not (sym a)

event_is : (m : Checked) (c : hearing.Checked) → c.header ≡ m.header → hearing.is_cancel c.header ≡ false
    → has_message_event m ≡ (not (is_some m.fails) && not (is_some (aside_status c)))
event_is m c same cancel =
    has_it (is_some m.fails) (m.header.command == 0) (m.header.command == 13) (m.header.command == 12) (is_some (aside_status c))
    (ap (λ (h : Header). h.command == 12) (sym same) ∙ cancel)
    (aside_if (c.header.command == 0) (c.header.command == 13) (negotiate_due c) (echo_due c)
    ∙ ap (λ (h : Header). not (not (h.command == 0) && not (h.command == 13))) same)

-- any other message has one
pub next_said : (z : ServerSettings) (now : ℕ) (f : ServerEnd) (m : Checked) (ms : List Checked) (c : hearing.Checked)
    (cs : List hearing.Checked) (rs : List Answer) (w : HeldIds) (ss : List answering.SaidReply) (v : HeldIds) (said : Said)
    → c.header ≡ m.header → hearing.is_cancel c.header ≡ false → AreMessagesSaid z now f (m ∷ ms) (c ∷ cs) rs w ss v
    → SaidBy z now f w m c (slice_get rs 0) said
    → IsNext (λ later u rest. AreMessagesSaid z now f ms cs later u rest v) c (after_grant c.header.credits w)
    (drop (if has_message_event m then 1 else 0) rs) ss said
next_said z now f m ms c cs rs w ss v said same cancel h is =
    let later : Later = λ later u rest. AreMessagesSaid z now f ms cs later u rest v in
    let one = one_next z now f w c m.fails (aside_status c) later rs ss said
    (subst (λ (b : Bool). MessageSays z now f w c b m.fails (aside_status c) later rs ss) cancel h) is in
    let left : behind m.fails (aside_status c) rs ≡ drop (if has_message_event m then 1 else 0) rs =
    behind_is m.fails (aside_status c) rs ∙ ap (λ (b : Bool). drop (if b then 1 else 0) rs) (sym (event_is m c same cancel)) in
    subst (λ (xs : List Answer). IsNext later c (after_grant c.header.credits w) xs ss said) left one

get_drop : (rs : List Answer) (place : ℕ) → slice_get (drop place rs) 0 ≡ slice_get rs place
get_drop rs zero = refl
get_drop [] (suc n) = refl
get_drop (r ∷ rs) (suc n) = get_drop rs n

-- the same, by the place of the answers that are left
pub next_at : (z : ServerSettings) (now : ℕ) (f : ServerEnd) (m : Checked) (ms : List Checked) (c : hearing.Checked)
    (cs : List hearing.Checked) (rs : List Answer) (place : ℕ) (w : HeldIds) (ss : List answering.SaidReply) (v : HeldIds) (said : Said)
    → c.header ≡ m.header → hearing.is_cancel c.header ≡ false → AreMessagesSaid z now f (m ∷ ms) (c ∷ cs) (drop place rs) w ss v
    → SaidBy z now f w m c (slice_get rs place) said
    → IsNext (λ later u rest. AreMessagesSaid z now f ms cs later u rest v) c (after_grant c.header.credits w)
    (drop (place + (if has_message_event m then 1 else 0)) rs) ss said
next_at z now f m ms c cs rs place w ss v said same cancel h is =
    let later : Later = λ later u rest. AreMessagesSaid z now f ms cs later u rest v in
    subst (λ (xs : List Answer). IsNext later c (after_grant c.header.credits w) xs ss said)
    (drop-drop (if has_message_event m then 1 else 0) place rs)
    (next_said z now f m ms c cs (drop place rs) w ss v said same cancel h
    (subst (λ (o : Option Answer). SaidBy z now f w m c o said) (sym (get_drop rs place)) is))

-- ---- those of more messages behind

says_more : (z : ServerSettings) (now : ℕ) (f : ServerEnd) (w : HeldIds) (c : hearing.Checked) (cancel : Bool) (fails aside : Option ℕ)
    (later more : Later) (rs behind_rs : List Answer) (ss behind_ss : List answering.SaidReply)
    → ((xs : List Answer) (u : HeldIds) (ys : List answering.SaidReply) → later xs u ys → more (xs ++ behind_rs) u (ys ++ behind_ss))
    → MessageSays z now f w c cancel fails aside later rs ss → MessageSays z now f w c cancel fails aside more
    (rs ++ behind_rs) (ss ++ behind_ss)
says_more z now f w c true fails aside later more rs brs ss bss go h = go rs w ss h
says_more z now f w c false (Some status) aside later more rs brs (s ∷ ss) bss go h = (h.0, go rs (after_grant c.header.credits w) ss h.1)
says_more z now f w c false (Some status) aside later more rs brs [] bss go h = absurd h
says_more z now f w c false None (Some status) later more rs brs (s ∷ ss) bss go h = (h.0, go rs (after_grant c.header.credits w) ss h.1)
says_more z now f w c false None (Some status) later more rs brs [] bss go h = absurd h
says_more z now f w c false None None later more (r ∷ rs) brs (s ∷ ss) bss go h = (h.0, go rs (after_grant c.header.credits w) ss h.1)
says_more z now f w c false None None later more (r ∷ rs) brs [] bss go h = absurd h
says_more z now f w c false None None later more [] brs ss bss go h = absurd h

pub said_behind : (z : ServerSettings) (now : ℕ) (f : ServerEnd) (ms ns : List Checked) (cs ds : List hearing.Checked)
    (rs qs : List Answer) (w u v : HeldIds) (ss ts : List answering.SaidReply) → AreMessagesSaid z now f ms cs rs w ss u
    → AreMessagesSaid z now f ns ds qs u ts v → AreMessagesSaid z now f (ms ++ ns) (cs ++ ds) (rs ++ qs) w (ss ++ ts) v
said_behind z now f [] ns [] ds rs qs w u v ss ts h k =
    subst (λ (xs : List Answer). AreMessagesSaid z now f ns ds (xs ++ qs) w (ss ++ ts) v) (sym h.0)
    (subst (λ (ys : List answering.SaidReply). AreMessagesSaid z now f ns ds qs w (ys ++ ts) v) (sym h.1)
    (subst (λ (x : HeldIds). AreMessagesSaid z now f ns ds qs x ts v) h.2 k))
said_behind z now f (m ∷ ms) ns (c ∷ cs) ds rs qs w u v ss ts h k =
    says_more z now f w c (hearing.is_cancel c.header) m.fails (aside_status c) (λ later x rest.
    AreMessagesSaid z now f ms cs later x rest u)
    (λ later x rest. AreMessagesSaid z now f (ms ++ ns) (cs ++ ds) later x rest v) rs qs ss ts
    (λ xs x ys l. said_behind z now f ms ns cs ds xs qs x u v ys ts l k) h
said_behind z now f [] ns (c ∷ cs) ds rs qs w u v ss ts h k = absurd h
said_behind z now f (m ∷ ms) ns [] ds rs qs w u v ss ts h k = absurd h
