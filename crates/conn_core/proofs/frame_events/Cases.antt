-- A message that goes its way, by what its event gives.
use Rattle.std.proofs.Common.{◌≡◌, ℕ, ◌==◌, Bool, true, false, not}
use Rattle.std.proofs.Common.{◌||◌, if◌then◌else◌, List, [], ◌∷◌, ◌++◌, Option, Some, None}
use Rattle.std.proofs.Common.{Result, Ok, Err, refl, sym, ap, ◌∙◌, append-nil, arith}
use Rattle.std.specs.Prelude.{is_some}
use Rattle.spec_wire.specs.declared.messages.header.Header.{Header}
use Rattle.spec_exchange.specs.Commands as asks
use Rattle.spec_exchange.specs.State as model
use Rattle.spec_exchange.specs.Status.{no_memory, success}
use Rattle.spec_exchange.specs.Network.{answer_to}
use Rattle.spec_commands.specs.CommandOf.{Told, heard_as}
use Rattle.spec_world.specs.Settings.{ServerSettings}
use Rattle.spec_world.specs.Ends.{ServerEnd, Logons}
use Rattle.spec_world.specs.Hearing as hearing
use Rattle.spec_world.specs.Answering as answering
use Rattle.spec_world.specs.Logon as logon
use Rattle.spec_world.specs.Related as related
use Rattle.spec_world.specs.Connection as connection
use Rattle.spec_world.specs.Connection.{LastTaken, heard_message, said_failed, said_to, taken_with}
use Rattle.spec_world.specs.Given.{has_event}
use Rattle.spec_world.specs.Mishaps.{Owned}
use Rattle.spec_world.specs.Notes.{has_acted}
use Rattle.conn_core.specs.declared.served.error.ServeError.{ServeError}
use Rattle.conn_core.specs.declared.served.error.ServeError.TheVariants as errors
use Rattle.conn_core.specs.declared.frame_messages.checked.Checked.{Checked}
use Rattle.conn_core.specs.declared.frame_messages.checked.CheckedFrame.{CheckedFrame}
use Rattle.conn_core.specs.related.Carrying.{RelatedCarries, carry_of}
use Rattle.conn_core.specs.declared.related.related.Carry.{Carry}
use Rattle.conn_core.specs.declared.served.serve.Reply.{Reply}
use Rattle.conn_core.specs.served.Replies.{event_acts, event_lacks, some_acted, some_lacked}
use Rattle.conn_core.specs.served.Serving.{Showing}
use Rattle.conn_core.specs.message_replies.Replying.{aside_status, echo_due, negotiate_due, said_aside}
use Rattle.conn_core.proofs.requests.Events.{with_event, of_cancel, of_negotiate, of_echo}
use Rattle.conn_core.specs.frame_events.Dealing.{GivesReply, LosesReply, takes, taken_records}
use Rattle.conn_core.specs.frame_events.SoFar.{Facts}
use Rattle.conn_core.specs.declared.frame_events.handing.Dealt.{Dealt}
use Rattle.conn_core.proofs.frame_events.Plainly.{no_token}
use Rattle.conn_core.proofs.frame_events.Saids as saids
use Rattle.conn_core.proofs.frame_events.SoFar.{Behind}
use Rattle.conn_core.proofs.frame_events.Turns.{behind_none, behind_answer, behind_lack}

abbrev Answers : Type 0
Answers = List (Result Reply ServeError)

-- ---- what is told of answers with one more

pub acted_more : (rs : Answers) (r : Result Reply ServeError) → some_acted (rs ++ r ∷ []) ≡ (some_acted rs || event_acts r)
unfolding some_acted
acted_more [] r = or_false (event_acts r)
  where
    or_false : (a : Bool) → (a || false) ≡ a
    or_false true = refl
    or_false false = refl
acted_more (x ∷ xs) r = ap (λ (b : Bool). event_acts x || b) (acted_more xs r) ∙ joined (event_acts x) (some_acted xs) (event_acts r)
  where
    joined : (a b c : Bool) → (a || (b || c)) ≡ ((a || b) || c)
    joined true b c = refl
    joined false b c = refl

pub lacked_more : (rs : Answers) (r : Result Reply ServeError) → some_lacked (rs ++ r ∷ []) ≡ (some_lacked rs || event_lacks r)
unfolding some_lacked
lacked_more [] r = or_false (event_lacks r)
  where
    or_false : (a : Bool) → (a || false) ≡ a
    or_false true = refl
    or_false false = refl
lacked_more (x ∷ xs) r = ap (λ (b : Bool). event_lacks x || b) (lacked_more xs r) ∙ joined (event_lacks x) (some_lacked xs) (event_lacks r)
  where
    joined : (a b c : Bool) → (a || (b || c)) ≡ ((a || b) || c)
    joined true b c = refl
    joined false b c = refl

or_none : (a : Bool) → (a || false) ≡ a
or_none true = refl
or_none false = refl

or_one : (a : Bool) → (a || true) ≡ true
or_one true = refl
or_one false = refl

acted_with : (o : Option LastTaken) (m : model.Message) (A : model.Answer) → has_acted (Some (taken_with o m A)) ≡ (has_acted o || A.acted)
acted_with None m A = refl
acted_with (Some t) m A = refl

records_with : (o : Option LastTaken) (m : model.Message) (A : model.Answer)
    → taken_records (Some (taken_with o m A)) ≡ taken_records o ++ A.records
records_with None m A = refl
records_with (Some t) m A = refl

-- ---- which command it is

true_false : true ≡ false → ⊥
true_false e = absurd cc

none_some : (m : model.Message) → None ≡ Some m → ⊥
none_some m e = absurd cc

pub one_heard : (m x : model.Message) → Some m ≡ Some x → m ≡ x
one_heard m x e = ap (λ (o : Option model.Message). or_that m o) e
  where
    or_that : model.Message → Option model.Message → model.Message
    or_that d None = d
    or_that d (Some y) = y

of_bool : (b : Bool) → (b ≡ true → ⊥) → b ≡ false
of_bool true h = absurd (h refl)
of_bool false h = refl

-- a message that is heard is no CANCEL
pub no_cancel : (z : ServerSettings) (L : Logons) (k : ℕ) (f : ServerEnd) (t : hearing.Checked) (m : model.Message)
    → heard_message z L k f t ≡ Some m → (t.header.command == 12) ≡ false
no_cancel z L k f t m e = of_bool (t.header.command == 12) (λ is. none_some m (sym (of_cancel z L k f t is) ∙ e))

no_aside : (m : model.Message) (h : Header) (u : Told) (status : ℕ) (o : Option model.Message)
    → o ≡ Some (heard_as u h (asks.Aside status)) → o ≡ Some m → has_event m.command ≡ true → ⊥
no_aside m h u status o is e event =
    let same : heard_as u h (asks.Aside status) ≡ m = one_heard (heard_as u h (asks.Aside status)) m (sym is ∙ e) in
    let off : false ≡ has_event m.command = ap (λ (x : model.Message). has_event x.command) same in
    true_false (sym event ∙ sym off)

pub no_negotiate : (z : ServerSettings) (L : Logons) (k : ℕ) (f : ServerEnd) (t : hearing.Checked) (m : model.Message)
    → heard_message z L k f t ≡ Some m → has_event m.command ≡ true → (t.header.command == 0) ≡ false
no_negotiate z L k f t m e event =
    let u = connection.told_of z L k f t in
    of_bool (t.header.command == 0)
    (λ is. no_aside m t.header u (negotiate_due t) (heard_message z L k f t) (of_negotiate z L k f t is) e event)

pub no_echo : (z : ServerSettings) (L : Logons) (k : ℕ) (f : ServerEnd) (t : hearing.Checked) (m : model.Message)
    → heard_message z L k f t ≡ Some m → has_event m.command ≡ true → (t.header.command == 13) ≡ false
no_echo z L k f t m e event =
    let u = connection.told_of z L k f t in
    of_bool (t.header.command == 13) (λ is. no_aside m t.header u (echo_due t) (heard_message z L k f t)
    (of_echo z L k f t is) e event)

pub not_aside : (t : hearing.Checked) → (t.header.command == 0) ≡ false → (t.header.command == 13) ≡ false → aside_status t ≡ None
not_aside t zero echo =
    ap (λ (b : Bool). if b then Some (negotiate_due t)
    else if t.header.command == 13 then Some (echo_due t) else None) zero
    ∙ ap (λ (b : Bool). if b then Some (echo_due t) else None) echo

-- ---- the step's own answer

pub answered : (shown : Showing) (z : ServerSettings) (k now : ℕ) (fresh : List ℕ) (s : model.Server) (L : Logons)
    (records : List model.Record) (f : ServerEnd) (cs : List hearing.Checked) (at from : ℕ) (x : CheckedFrame) (n : Checked)
    (t : hearing.Checked) (m : model.Message) (r : Reply) (d e : Dealt) (y : Option related.Carry) (b : Carry) (more : List model.Record)
    (w : Owned) → heard_message z w.dealt.going.logons k f t ≡ Some m → has_event m.command ≡ true → n.fails ≡ None
    → e.replies.items.items ≡ d.replies.items.items ++ Ok r ∷ [] → e.took ≡ (d.took || true) → RelatedCarries y t (Some (Ok r)) b
    → GivesReply shown z k now fresh w.dealt.going.server w.dealt.going.logons records f t m r
    → Facts z k now fresh s L f cs at from x d y more w
    → Behind z now f cs at n t d e (Some (carry_of b))
    (more ++ (answer_to w.dealt.going.server now m m.command).records) w (behind_answer z k now fresh f w t m)
answered shown z k now fresh s L records f cs at from x n t m r d e y b more w heard event goes items took carries gives far =
    let A = answer_to w.dealt.going.server now m m.command in
    let o = w.dealt.going.taken in
    record {
      goes = far.goes;
      none_missing = far.none_missing;
      acted = acted_with o m A ∙ (ap (λ (c : Bool). c || A.acted) far.acted
          ∙ (ap (λ (c : Bool). some_acted d.replies.items.items || c) (sym gives.acted)
          ∙ (sym (acted_more d.replies.items.items (Ok r)) ∙ ap (λ (l : Answers). some_acted l) (sym items))));
      lacked = far.lacked ∙ (sym (or_none (some_lacked d.replies.items.items))
          ∙ (sym (lacked_more d.replies.items.items (Ok r)) ∙ ap (λ (l : Answers). some_lacked l) (sym items)));
      took = sym (took ∙ or_one d.took);
      records_are = λ none. ap (λ (l : List model.Record). l ++ A.records) (far.records_are none) ∙ sym (records_with o m A);
      carried_is = λ less. ap (λ (q : related.Carry). Some q)
          (ap (λ (v : Option related.Carry). related.carried_behind v t A.reply) (far.carried_is (omega (arith, less)))
          ∙ sym (carries A.reply gives.named));
      answers = Ok r ∷ [];
      replies = said_to z k now fresh f w.dealt.going.logons w.dealt.going.window t m.command A ∷ [];
      answers_are = items;
      replies_are = refl;
      said = saids.of_reply z now f n t w.dealt.going.window (Ok r)
          (said_to z k now fresh f w.dealt.going.logons w.dealt.going.window t m.command A)
          (no_cancel z w.dealt.going.logons k f t m heard) goes
          (not_aside t (no_negotiate z w.dealt.going.logons k f t m heard event) (no_echo z w.dealt.going.logons k f t m heard event))
          (gives.said w.dealt.going.window, (refl, refl, refl));
    }

-- ---- no memory

pub lacking : (z : ServerSettings) (k now : ℕ) (fresh : List ℕ) (s : model.Server) (L : Logons) (f : ServerEnd)
    (cs : List hearing.Checked) (at from : ℕ) (x : CheckedFrame) (n : Checked) (t : hearing.Checked) (m : model.Message) (d e : Dealt)
    (y : Option related.Carry) (b : Carry) (more further : List model.Record) (w : Owned) (v : model.Server)
    → heard_message z w.dealt.going.logons k f t ≡ Some m → has_event m.command ≡ true → n.fails ≡ None
    → e.replies.items.items ≡ d.replies.items.items ++ Err errors.Memory ∷ [] → e.took ≡ (d.took || false)
    → RelatedCarries y t (Some (Err errors.Memory)) b → Facts z k now fresh s L f cs at from x d y more w
    → Behind z now f cs at n t d e (Some (carry_of b)) (more ++ further) w (behind_lack f w t v)
lacking z k now fresh s L f cs at from x n t m d e y b more further w v heard event goes items took carries far = record {
  goes = far.goes;
  none_missing = far.none_missing;
  acted = far.acted ∙ (sym (or_none (some_acted d.replies.items.items))
      ∙ (sym (acted_more d.replies.items.items (Err errors.Memory)) ∙ ap (λ (l : Answers). some_acted l) (sym items)));
  lacked = sym (or_one (some_lacked d.replies.items.items))
      ∙ (sym (lacked_more d.replies.items.items (Err errors.Memory)) ∙ ap (λ (l : Answers). some_lacked l) (sym items));
  took = far.took ∙ sym (took ∙ or_none d.took);
  records_are = λ none. absurd (true_false none);
  carried_is = λ less. ap (λ (q : related.Carry). Some q)
      (ap (λ (v : Option related.Carry). related.carried_past v t no_memory) (far.carried_is (omega (arith, less))) ∙ sym carries);
  answers = Err errors.Memory ∷ [];
  replies = said_failed f w.dealt.going.window t no_memory ∷ [];
  answers_are = items;
  replies_are = refl;
  said = saids.of_reply z now f n t w.dealt.going.window (Err errors.Memory) (said_failed f w.dealt.going.window t no_memory)
      (no_cancel z w.dealt.going.logons k f t m heard) goes
      (not_aside t (no_negotiate z w.dealt.going.logons k f t m heard event) (no_echo z w.dealt.going.logons k f t m heard event))
      (refl, (refl, refl, refl));
}

-- ---- its reply is lost

pub record Lost (e : Dealt) (more : List model.Record) (v : Owned) : Type 0 where
  pub acted : has_acted v.dealt.going.taken ≡ some_acted e.replies.items.items
  pub lacked : v.dealt.lacked ≡ some_lacked e.replies.items.items
  pub took : is_some v.dealt.going.taken ≡ e.took
  pub records_are : v.dealt.lacked ≡ false → more ≡ taken_records v.dealt.going.taken

pub lost_to : (shown : Showing) (z : ServerSettings) (k now : ℕ) (fresh : List ℕ) (s : model.Server) (L : Logons)
    (records : List model.Record) (f : ServerEnd) (cs : List hearing.Checked) (at from : ℕ) (x : CheckedFrame) (t : hearing.Checked)
    (m : model.Message) (acted : Bool) (d e : Dealt) (y : Option related.Carry) (more : List model.Record) (w : Owned)
    → e.replies.items.items ≡ d.replies.items.items ++ Err (errors.Unanswered acted) ∷ [] → e.took ≡ (d.took || true)
    → LosesReply shown z k now fresh w.dealt.going.server w.dealt.going.logons records f t m acted
    → Facts z k now fresh s L f cs at from x d y more w
    → Lost e (more ++ (answer_to w.dealt.going.server now m m.command).records) (behind_answer z k now fresh f w t m)
lost_to shown z k now fresh s L records f cs at from x t m acted d e y more w items took loses far =
    let A = answer_to w.dealt.going.server now m m.command in
    let o = w.dealt.going.taken in
    record {
      acted = acted_with o m A ∙ (ap (λ (c : Bool). c || A.acted) far.acted
          ∙ (ap (λ (c : Bool). some_acted d.replies.items.items || c) (sym loses.acted_is)
          ∙ (sym (acted_more d.replies.items.items (Err (errors.Unanswered acted))) ∙ ap (λ (l : Answers). some_acted l) (sym items))));
      lacked = far.lacked ∙ (sym (or_none (some_lacked d.replies.items.items))
          ∙ (sym (lacked_more d.replies.items.items (Err (errors.Unanswered acted))) ∙ ap (λ (l : Answers). some_lacked l) (sym items)));
      took = sym (took ∙ or_one d.took);
      records_are = λ none. ap (λ (l : List model.Record). l ++ A.records) (far.records_are none) ∙ sym (records_with o m A);
    }

-- ---- a CANCEL

cancel_is : (z : ServerSettings) (L : Logons) (k : ℕ) (f : ServerEnd) (t : hearing.Checked) (b : Bool) → (t.header.command == 12) ≡ b
    → heard_message z L k f t ≡ None → (t.header.command == 12) ≡ true
cancel_is z L k f t true is e = is
cancel_is z L k f t false is e = absurd (heard_other z L k f t (t.header.command == 0) (t.header.command == 13) refl refl is e)
  where
    heard_other : (z : ServerSettings) (L : Logons) (k : ℕ) (f : ServerEnd) (t : hearing.Checked) (p q : Bool)
        → (t.header.command == 0) ≡ p → (t.header.command == 13) ≡ q → (t.header.command == 12) ≡ false
        → heard_message z L k f t ≡ None → ⊥
    heard_other z L k f t true q zero echo is e =
        none_some (heard_as (connection.told_of z L k f t) t.header (asks.Aside (negotiate_due t)))
        (sym e ∙ of_negotiate z L k f t zero)
    heard_other z L k f t false true zero echo is e =
        none_some (heard_as (connection.told_of z L k f t) t.header (asks.Aside (echo_due t)))
        (sym e ∙ of_echo z L k f t echo)
    heard_other z L k f t false false zero echo is e =
        let h = with_event z L k f t zero echo is in none_some h.0 (sym e ∙ h.1)

pub cancelled : (z : ServerSettings) (k now : ℕ) (fresh : List ℕ) (s : model.Server) (L : Logons) (f : ServerEnd)
    (cs : List hearing.Checked) (at from : ℕ) (x : CheckedFrame) (n : Checked) (t : hearing.Checked) (d e : Dealt)
    (y : Option related.Carry) (b : Carry) (more : List model.Record) (w : Owned) → heard_message z w.dealt.going.logons k f t ≡ None
    → t.header ≡ n.header → e.replies.items.items ≡ d.replies.items.items ++ [] → e.took ≡ (d.took || takes n None)
    → RelatedCarries y t None b → Facts z k now fresh s L f cs at from x d y more w
    → Behind z now f cs at n t d e (Some (carry_of b)) more w (behind_none z k now fresh f w t)
cancelled z k now fresh s L f cs at from x n t d e y b more w heard header items took carries far =
    let cancel : (t.header.command == 12) ≡ true = cancel_is z w.dealt.going.logons k f t (t.header.command == 12) refl heard in
    let mine : (n.header.command == 12) ≡ true = sym (ap (λ (h : Header). h.command == 12) header) ∙ cancel in
    let same : e.replies.items.items ≡ d.replies.items.items = items ∙ append-nil d.replies.items.items in
    let untaken : e.took ≡ d.took = took ∙ (ap (λ (c : Bool). d.took || not c) mine ∙ or_none d.took) in
    record {
      goes = far.goes;
      none_missing = far.none_missing;
      acted = far.acted ∙ ap (λ (l : Answers). some_acted l) (sym same);
      lacked = far.lacked ∙ ap (λ (l : Answers). some_lacked l) (sym same);
      took = far.took ∙ sym untaken;
      records_are = far.records_are;
      carried_is = λ less. ap (λ (q : related.Carry). Some q)
          (ap (λ (v : Option related.Carry). related.carried_past v t success) (far.carried_is (omega (arith, less))) ∙ sym carries);
      answers = [];
      replies = [];
      answers_are = items;
      replies_are = sym (append-nil w.dealt.going.replies);
      said = saids.of_cancel z now f n t w.dealt.going.window cancel;
    }

-- ---- a NEGOTIATE or an ECHO

said_beside : (z : ServerSettings) (k now : ℕ) (fresh : List ℕ) (f : ServerEnd) (w : Owned) (t : hearing.Checked) (u : Told) (status : ℕ)
    → let A = answer_to w.dealt.going.server now (heard_as u t.header (asks.Aside status)) (asks.Aside status) in
    said_to z k now fresh f w.dealt.going.logons w.dealt.going.window t (asks.Aside status) A
    ≡ record (said_aside z now f w.dealt.going.window t status) {
      base = logon.exported z.users (w.dealt.going.logons.pending k)
          (logon.token_in t.bytes);
    }
said_beside z k now fresh f w t u status =
    let A = answer_to w.dealt.going.server now (heard_as u t.header (asks.Aside status)) (asks.Aside status) in
    let g = w.dealt.going in
    let none : logon.answer_token_by z.users (g.logons.pending k) (logon.token_in t.bytes) fresh now logon.Stays ≡ [] =
    no_token z.users (g.logons.pending k) (logon.token_in t.bytes) fresh now logon.Stays refl in
    ap (λ (token : List ℕ). record (said_to z k now fresh f g.logons g.window t (asks.Aside status) A) {
      body = answering.said_body z.guid f.salt now t token (asks.Aside status) A.reply;
    }) none

-- what it hands on is what a message without an answer does, since it is no CREATE
same_before : (b : Bool) (p q r : ℕ) → b ≡ false → (if b then p else r) ≡ (if b then q else r)
same_before true p q r e = absurd (true_false e)
same_before false p q r e = refl

aside_carries : (y : Option related.Carry) (t : hearing.Checked) (u : Told) (status now : ℕ) (s : model.Server)
    → (t.header.command == 5) ≡ false
    → related.carried_behind y t (answer_to s now (heard_as u t.header (asks.Aside status)) (asks.Aside status)).reply
    ≡ related.carried_past y t success
aside_carries y t u status now s e =
    let same : related.create_behind y t status ≡ related.create_behind y t success =
    same_before (t.header.command == 5) status success (related.create_before y t) e in
    ap (λ (n : ℕ). record {
      status = n;
      session = t.header.session;
      tree = t.header.tree;
      file = related.file_past y t;
    }) same

pub beside : (z : ServerSettings) (k now : ℕ) (fresh : List ℕ) (s : model.Server) (L : Logons) (f : ServerEnd)
    (cs : List hearing.Checked) (at from : ℕ) (x : CheckedFrame) (n : Checked) (t : hearing.Checked) (u : Told) (status : ℕ) (d e : Dealt)
    (y : Option related.Carry) (b : Carry) (more : List model.Record) (w : Owned) → t.header ≡ n.header
    → (t.header.command == 12) ≡ false → (t.header.command == 5) ≡ false → n.fails ≡ None → aside_status t ≡ Some status
    → RelatedCarries y t None b → e.replies.items.items ≡ d.replies.items.items ++ []
    → e.took ≡ (d.took || takes n None) → Facts z k now fresh s L f cs at from x d y more w
    → Behind z now f cs at n t d e (Some (carry_of b)) more w
    (behind_answer z k now fresh f w t (heard_as u t.header (asks.Aside status)))
beside z k now fresh s L f cs at from x n t u status d e y b more w header other no_create goes aside carries items took far =
    let M = heard_as u t.header (asks.Aside status) in
    let A = answer_to w.dealt.going.server now M (asks.Aside status) in
    let o = w.dealt.going.taken in
    let mine : (n.header.command == 12) ≡ false = sym (ap (λ (h : Header). h.command == 12) header) ∙ other in
    let same : e.replies.items.items ≡ d.replies.items.items = items ∙ append-nil d.replies.items.items in
    let taken : e.took ≡ true = took ∙ (ap (λ (c : Bool). d.took || not c) mine ∙ or_one d.took) in
    record {
      goes = far.goes;
      none_missing = far.none_missing;
      acted = acted_with o M A ∙ (or_none (has_acted o) ∙ (far.acted ∙ ap (λ (l : Answers). some_acted l) (sym same)));
      lacked = far.lacked ∙ ap (λ (l : Answers). some_lacked l) (sym same);
      took = sym taken;
      records_are = λ none. far.records_are none ∙ (sym (append-nil (taken_records o)) ∙ sym (records_with o M A));
      carried_is = λ less. ap (λ (q : related.Carry). Some q)
          (ap (λ (v : Option related.Carry). related.carried_behind v t A.reply) (far.carried_is (omega (arith, less)))
          ∙ (aside_carries y t u status now w.dealt.going.server no_create ∙ sym carries));
      answers = [];
      replies = said_to z k now fresh f w.dealt.going.logons w.dealt.going.window t (asks.Aside status) A ∷ [];
      answers_are = items;
      replies_are = refl;
      said = saids.of_aside z now f n t w.dealt.going.window status
          (said_to z k now fresh f w.dealt.going.logons w.dealt.going.window t (asks.Aside status) A) other goes aside
          (logon.exported z.users (w.dealt.going.logons.pending k) (logon.token_in t.bytes), said_beside z k now fresh f w t u status);
    }
