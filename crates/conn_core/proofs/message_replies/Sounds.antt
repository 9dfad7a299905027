-- What the connection behind a frame's replies takes of them, from what is due of each.
use Rattle.std.proofs.Common.{◌≡◌, ◌∙◌, ℕ, ◌≤◌, ◌==◌, Bool, true, false, if◌then◌else◌, List, [], ◌∷◌, Option, Some, None, Result, Ok, Err}
use Rattle.std.proofs.Common.{refl, sym, ap, subst}
use Rattle.spec_exchange.specs.Status.{no_memory, success}
use Rattle.spec_wire.specs.credits.Window.{HeldIds, after_grant}
use Rattle.spec_crypto.specs.declared.sessions.material.Keys.{Keys}
use Rattle.spec_world.specs.Settings.{ServerSettings}
use Rattle.spec_world.specs.Negotiate.{negotiate_status}
use Rattle.spec_world.specs.Ends.{ServerEnd}
use Rattle.spec_world.specs.Hearing as hearing
use Rattle.spec_world.specs.Logon as logon
use Rattle.spec_world.specs.Answering as answering
use Rattle.spec_world.specs.Connection.{said_failed}
use Rattle.conn_core.specs.declared.served.error.ServeError.{ServeError}
use Rattle.conn_core.specs.declared.served.error.ServeError.TheVariants as errors
use Rattle.conn_core.specs.declared.conn.Progress.{Progress}
use Rattle.conn_core.specs.declared.conn.Progress.TheVariants.{Stays, Refused, Interim, Final}
use Rattle.conn_core.specs.declared.frame_messages.checked.Checked.{Checked}
use Rattle.conn_core.specs.declared.served.serve.Reply.{Reply}
use Rattle.conn_core.specs.reply_sealing.Saying.{AreProgressKeys, MovesAs}
use Rattle.conn_core.specs.message_replies.Replying.{AreMessagesSaid, AreSound, FailRightly, FailsAt, IsMessageAnswered}
use Rattle.conn_core.specs.message_replies.Replying.{IsSound, Later, MessageSays, MessageSetsUp, SettlesBy}
use Rattle.conn_core.specs.message_replies.Replying.{aside_status, echo_due, negotiate_due, said_aside}
use Rattle.conn_core.specs.related.Carrying.{is_broken}
use Rattle.conn_core.proofs.message_replies.Parts.{good_status}

settles_by : (p : Progress) (s : answering.SaidReply) (c : hearing.Checked) → MovesAs p s → MessageSetsUp p c
    → AreProgressKeys p → s.request ≡ c
    → SettlesBy s.progress s.request s.keys
settles_by Stays s c moves sets known request = subst (λ (q : logon.Progress). SettlesBy q s.request s.keys) (sym moves) tt
settles_by (Refused signer) s c moves sets known request = subst (λ (q : logon.Progress). SettlesBy q s.request s.keys) (sym moves) tt
settles_by (Interim signer) s c moves sets known request =
    subst (λ (q : logon.Progress). SettlesBy q s.request s.keys) (sym moves.1)
    (subst (λ (x : hearing.Checked). hearing.is_setup x.header ≡ true) (sym request) sets)
settles_by (Final keys channel encrypts) s c moves sets known request =
    subst (λ (q : logon.Progress). SettlesBy q s.request s.keys) (sym moves.1)
    (subst (λ (k : Keys). k.cipher ≤ 4) (sym moves.2) known)

abbrev value_or : ℕ → Option ℕ → ℕ
value_or a None = a
value_or a (Some n) = n

abbrev aside_by : Bool → Bool → ℕ → ℕ → Option ℕ
aside_by greets echoes a b = if greets then Some a else if echoes then Some b else None

chosen_by : (greets echoes : Bool) (a b status : ℕ) → greets ≡ true → aside_by greets echoes a b ≡ Some status → a ≡ status
chosen_by true echoes a b status g e = ap (value_or a) e
chosen_by false echoes a b status g e = absurd (cc)

none_chosen : (greets echoes : Bool) (a b : ℕ) → greets ≡ true → aside_by greets echoes a b ≡ None → ⊥
none_chosen true echoes a b g e = cc
none_chosen false echoes a b g e = cc

greets_none : (c : hearing.Checked) → hearing.is_negotiate c.header ≡ true → aside_status c ≡ None → ⊥
greets_none c g e =
    none_chosen (hearing.is_negotiate c.header) (c.header.command == 13) (negotiate_due c)
    (echo_due c) g e

failed_sound : (f : ServerEnd) (w : HeldIds) (c : hearing.Checked) (status : ℕ) → (status ≡ success → ⊥)
    → IsSound (said_failed f w c status)
failed_sound f w c status fails = record { settles = tt; greets = λ g good. absurd (fails good) }

refused_sound : (f : ServerEnd) (w : HeldIds) (c : hearing.Checked) (status : ℕ) → aside_status c ≡ None
    → IsSound (said_failed f w c status)
refused_sound f w c status none = record { settles = tt; greets = λ g good. absurd (greets_none c g none) }

aside_sound : (z : ServerSettings) (now : ℕ) (f : ServerEnd) (w : HeldIds) (c : hearing.Checked) (status : ℕ) → aside_status c ≡ Some status
    → (base : List ℕ) → IsSound (record (said_aside z now f w c status) { base = base })
aside_sound z now f w c status e base = record {
  settles = tt;
  greets = λ g good.
      good_status (is_broken c) (negotiate_status c.bytes)
      (chosen_by (hearing.is_negotiate c.header) (c.header.command == 13) (negotiate_due c) (echo_due c) status g e ∙ good);
}

answer_sound : (f : ServerEnd) (w : HeldIds) (c : hearing.Checked) (r : Result Reply ServeError) (s : answering.SaidReply)
    → aside_status c ≡ None
    → IsMessageAnswered f w c r s → IsSound s
answer_sound f w c (Ok r) s none h = record {
  settles = settles_by r.progress s c h.progress h.sets h.known h.request;
  greets = λ g good. absurd (greets_none c (sym (ap (λ (x : hearing.Checked). hearing.is_negotiate x.header) h.request) ∙ g) none);
}
answer_sound f w c (Err errors.Memory) s none h = subst (λ (x : answering.SaidReply). IsSound x) (sym h)
    (refused_sound f w c no_memory none)
answer_sound f w c (Err (errors.Unanswered acted)) s none h = absurd h
answer_sound f w c (Err (errors.Stopped count)) s none h = absurd h

abbrev SoundBehind : Later → Type 0
SoundBehind later = (rs : List (Result Reply ServeError)) (u : HeldIds) (ss : List answering.SaidReply) → later rs u ss → AreSound ss

one_sound : (z : ServerSettings) (now : ℕ) (f : ServerEnd) (w : HeldIds) (c : hearing.Checked) (cancel : Bool) (fails aside : Option ℕ)
    (later : Later) (rs : List (Result Reply ServeError)) (ss : List answering.SaidReply) → aside_status c ≡ aside → FailsAt fails
    → SoundBehind later → MessageSays z now f w c cancel fails aside later rs ss → AreSound ss
unfolding AreSound
one_sound z now f w c true fails aside later rs ss e rightly go h = go rs w ss h
one_sound z now f w c false (Some status) aside later rs (s ∷ ss) e rightly go h = (
  subst (λ (x : answering.SaidReply). IsSound x) (sym h.0) (failed_sound f w c status rightly),
  go rs (after_grant c.header.credits w) ss h.1,
)
one_sound z now f w c false (Some status) aside later rs [] e rightly go h = tt
one_sound z now f w c false None (Some status) later rs (s ∷ ss) e rightly go h = (
  subst (λ (x : answering.SaidReply). IsSound x) (sym h.0.1) (aside_sound z now f w c status e h.0.0),
  go rs (after_grant c.header.credits w) ss h.1,
)
one_sound z now f w c false None (Some status) later rs [] e rightly go h = tt
one_sound z now f w c false None None later (r ∷ rs) (s ∷ ss) e rightly go h = (
  answer_sound f w c r s e h.0,
  go rs (after_grant c.header.credits w) ss h.1,
)
one_sound z now f w c false None None later (r ∷ rs) [] e rightly go h = tt
one_sound z now f w c false None None later [] ss e rightly go h = absurd h

none_sound : AreSound []
unfolding AreSound
none_sound = tt

pub all_sound : (z : ServerSettings) (now : ℕ) (f : ServerEnd) (ms : List Checked) (cs : List hearing.Checked)
    (rs : List (Result Reply ServeError)) (w : HeldIds) (ss : List answering.SaidReply) (v : HeldIds) → FailRightly ms
    → AreMessagesSaid z now f ms cs rs w ss v → AreSound ss
all_sound z now f [] [] rs w ss v rightly h = subst (λ (xs : List answering.SaidReply). AreSound xs) (sym h.1) none_sound
all_sound z now f (m ∷ ms) (c ∷ cs) rs w ss v rightly h =
    one_sound z now f w c (hearing.is_cancel c.header) m.fails (aside_status c) (λ later u rest.
    AreMessagesSaid z now f ms cs later u rest v) rs ss
    refl rightly.0 (λ later u rest l. all_sound z now f ms cs later u rest v rightly.1 l) h
all_sound z now f [] (c ∷ cs) rs w ss v rightly h = absurd h
all_sound z now f (m ∷ ms) [] rs w ss v rightly h = absurd h
