-- One more message of a frame over a server that others use too: what is told of the frame goes on, and what the definitions make of it by
-- what was given.
use Rattle.std.proofs.Common.{◌≡◌, ℕ, ◌+◌, ◌==◌, Bool, true, false, ◌||◌, if◌then◌else◌, List, [], ◌∷◌, ◌++◌, take, drop}
use Rattle.std.proofs.Common.{Option, Some, None, Result, Ok, Err, refl, sym, ap, subst, ◌∙◌, append-nil, arith}
use Rattle.std.specs.Prelude.{is_some}
use Rattle.std.proofs.lemmas.List.{take-append-drop}
use Rattle.spec_wire.specs.declared.messages.header.Header.{Header}
use Rattle.spec_wire.specs.credits.Window.{HeldIds, granted}
use Rattle.spec_exchange.specs.Commands as asks
use Rattle.spec_exchange.specs.State as model
use Rattle.spec_exchange.specs.Status.{insufficient_resources, no_memory}
use Rattle.spec_exchange.specs.Network.{answer_to}
use Rattle.spec_crypto.specs.declared.sessions.material.Signer.{Signer}
use Rattle.spec_commands.specs.CommandOf.{Told, heard_as}
use Rattle.spec_world.specs.Settings.{ServerSettings}
use Rattle.spec_world.specs.Ends.{ServerEnd, Logons, signer_on}
use Rattle.spec_world.specs.Hearing as hearing
use Rattle.spec_world.specs.Answering as answering
use Rattle.spec_world.specs.Logon as logon
use Rattle.spec_world.specs.Related as related
use Rattle.spec_world.specs.Related.{Goes, Fails, failed_as, turn_of}
use Rattle.spec_world.specs.Mishaps.{Owned}
use Rattle.spec_world.specs.Connection.{heard_message, said_failed, went_by, went_heard, went_turn}
use Rattle.spec_world.specs.Given as gives
use Rattle.spec_world.specs.Given.{Given, Answered, NoMemory, Stops, has_event, is_past_setups, went_refused}
use Rattle.conn_core.specs.declared.conn.Progress.{Progress}
use Rattle.conn_core.specs.declared.conn.Progress.TheVariants.{Stays}
use Rattle.conn_core.specs.declared.frame_messages.checked.Checked.{Checked}
use Rattle.conn_core.specs.declared.frame_messages.checked.CheckedFrame.{CheckedFrame}
use Rattle.conn_core.specs.reply_sealing.Saying.{AreProgressKeys, MovesAs}
use Rattle.conn_core.specs.declared.frame_events.handing.Dealt.{Dealt}
use Rattle.conn_core.specs.declared.related.related.Carry.{Carry}
use Rattle.conn_core.specs.declared.served.error.ServeError.{ServeError}
use Rattle.conn_core.specs.declared.served.error.ServeError.TheVariants as errors
use Rattle.conn_core.specs.declared.served.serve.Reply.{Reply}
use Rattle.conn_core.specs.served.Refusing.{IsMessageRefused}
use Rattle.conn_core.specs.served.Replies.{some_acted, some_lacked}
use Rattle.conn_core.specs.served.Serving.{IsNamed, Showing}
use Rattle.conn_core.specs.related.Carrying.{RelatedCarries, carry_of}
use Rattle.conn_core.specs.message_replies.Replying.{IsSaidTo, MessageSetsUp, aside_status, progress_signer}
use Rattle.conn_core.specs.frame_events.Dealing.{GivesReply, takes}
use Rattle.conn_core.specs.frame_events.Shared.{GivenSoFar, asked_all, asked_in}
use Rattle.conn_core.specs.frame_events.SoFar.{Facts}
use Rattle.conn_core.proofs.frame_events.Cases.{acted_more, answered, beside, cancelled, lacked_more, lacking, no_cancel, no_echo, no_negotiate}
use Rattle.conn_core.proofs.frame_events.Cases.{not_aside}
use Rattle.conn_core.proofs.frame_events.Givens.{GoneOn, given_answered, given_aside, given_failed, given_lacks, given_none, given_on}
use Rattle.conn_core.proofs.frame_events.Givens.{given_past, given_stops, setups_behind}
use Rattle.conn_core.proofs.frame_events.Jump.{found_at, jumped}
use Rattle.conn_core.proofs.frame_events.Keeping.{no_success}
use Rattle.conn_core.proofs.frame_events.Saids as saids
use Rattle.conn_core.proofs.frame_events.SoFar.{Behind, facts_more, failed}
use Rattle.conn_core.proofs.frame_events.Stepping.{Place, failing, no_failure}
use Rattle.conn_core.proofs.frame_events.Turns.{behind_answer, behind_lack}

-- what the definitions have dealt, as one that is alone
abbrev pub alone : gives.Dealt → Owned
alone g = record { dealt = g; mishaps = [] }

-- how many SESSION_SETUPs had an event is no matter of the facts
pub counted : (z : ServerSettings) (k now : ℕ) (fresh : List ℕ) (s : model.Server) (L : Logons) (f : ServerEnd)
    (cs : List hearing.Checked) (at from : ℕ) (x : CheckedFrame) (d : Dealt) (y : Option related.Carry) (more : List model.Record)
    (w : Owned) (n : ℕ) → Facts z k now fresh s L f cs at from x d y more w
    → Facts z k now fresh s L f cs at from x d y more (record w { dealt = record w.dealt { setups = n } })
counted z k now fresh s L f cs at from x d y more w n far = record {
  goes = far.goes;
  none_missing = far.none_missing;
  acted = far.acted;
  lacked = far.lacked;
  took = far.took;
  records_are = far.records_are;
  carried_is = far.carried_is;
  done = far.done;
  taken = far.taken;
  long = far.long;
  also = far.also;
  same = far.same;
  shows = far.shows;
  commands = far.commands;
  fails = far.fails;
  said = far.said;
  rest = far.rest;
}

-- nor are the random bytes of a message
pub random_facts : (z : ServerSettings) (k now : ℕ) (fresh random : List ℕ) (s : model.Server) (L : Logons) (f : ServerEnd)
    (cs : List hearing.Checked) (at from : ℕ) (x : CheckedFrame) (d : Dealt) (y : Option related.Carry) (more : List model.Record)
    (w : Owned) → Facts z k now fresh s L f cs at from x d y more w → Facts z k now random s L f cs at from x d y more w
random_facts z k now fresh random s L f cs at from x d y more w far = record {
  goes = far.goes;
  none_missing = far.none_missing;
  acted = far.acted;
  lacked = far.lacked;
  took = far.took;
  records_are = far.records_are;
  carried_is = far.carried_is;
  done = far.done;
  taken = far.taken;
  long = far.long;
  also = far.also;
  same = far.same;
  shows = far.shows;
  commands = far.commands;
  fails = far.fails;
  said = far.said;
  rest = far.rest;
}

-- what goes on: the facts in code, and what was given for a message, if it has an event
pub record SharedOn (z : ServerSettings) (k now : ℕ) (fresh : List ℕ) (s : model.Server) (L : Logons) (f : ServerEnd) (first : gives.Dealt)
    (cs : List hearing.Checked) (at : ℕ) (x : CheckedFrame) (e : Dealt) (y : Option related.Carry) (given xs : List Given)
    (asked asks : List hearing.Checked) (v : gives.Dealt) : Type 0 where
  pub more : List model.Record
  pub facts : Facts z k now fresh s L f cs (at + 1) (at + 1) x e y more (alone v)
  pub gone : GoneOn z k now fresh f first cs (at + 1) given xs asked asks v

-- ---- a message that fails with a CREATE before it

pub shared_fails : (z : ServerSettings) (k now : ℕ) (fresh : List ℕ) (s : model.Server) (L : Logons) (f : ServerEnd) (first : gives.Dealt)
    (cs : List hearing.Checked) (at : ℕ) (x : CheckedFrame) (n : Checked) (c : hearing.Checked) (status : ℕ) (e : Dealt)
    (y : Option related.Carry) (more : List model.Record) (g : gives.Dealt) → Place f cs at x n c (failed_as g.going.carried c)
    → turn_of g.going.carried c ≡ Fails status → n.fails ≡ Some status → Facts z k now fresh s L f cs at (at + 1) x e y more (alone g)
    → (b : GivenSoFar z k now fresh f first cs at g)
    → SharedOn z k now fresh s L f first cs at x e y b.given [] b.asks [] (record g {
      going = went_turn z k now fresh f g.going c (Fails status);
    })
shared_fails z k now fresh s L f first cs at x n c status e y more g p fails is far b =
    let v : gives.Dealt = record g { going = went_turn z k now fresh f g.going c (Fails status) } in
    record {
      more = more;
      facts = facts_more z k now fresh s L f cs at x n c (failed_as g.going.carried c) e e y y more more (alone g) (alone v) p.checked p.here
          p.shows p.command (failing status k n.fails is (no_success g.going.carried c status fails))
          (failed z k now fresh s L f cs at (at + 1) x n c e y more (alone g) status fails is far) far;
      gone = given_on z k now fresh f first cs at c g v [] [] p.checked far.goes b (given_failed z k now fresh f g c status fails);
    }

-- ---- one that asks nothing

pub shared_cancels : (z : ServerSettings) (k now : ℕ) (fresh : List ℕ) (s : model.Server) (L : Logons) (f : ServerEnd) (first : gives.Dealt)
    (cs : List hearing.Checked) (at : ℕ) (x : CheckedFrame) (n : Checked) (c t : hearing.Checked) (d e : Dealt)
    (y : Option related.Carry) (u : Carry) (more : List model.Record) (g : gives.Dealt) → Place f cs at x n c t
    → turn_of g.going.carried c ≡ Goes t → n.fails ≡ None → heard_message z g.going.logons k f t ≡ None
    → e.replies.items.items ≡ d.replies.items.items ++ [] → e.took ≡ (d.took || takes n None) → RelatedCarries y t None u
    → Facts z k now fresh s L f cs at (at + 1) x d y more (alone g) → (b : GivenSoFar z k now fresh f first cs at g)
    → SharedOn z k now fresh s L f first cs at x e (Some (carry_of u)) b.given [] b.asks [] (record g {
      going = went_heard z k now fresh f g.going t None;
    })
shared_cancels z k now fresh s L f first cs at x n c t d e y u more g p goes none heard items took carries far b =
    let v : gives.Dealt = record g { going = went_heard z k now fresh f g.going t None } in
    record {
      more = more;
      facts = facts_more z k now fresh s L f cs at x n c t d e y (Some (carry_of u)) more more (alone g) (alone v) p.checked p.here
          p.shows p.command (no_failure n.fails none)
          (cancelled z k now fresh s L f cs at (at + 1) x n t d e y u more (alone g) heard p.shows.header items took carries far) far;
      gone = given_on z k now fresh f first cs at c g v [] [] p.checked far.goes b (given_none z k now fresh f g c t goes heard);
    }

-- NEGOTIATE and ECHO, which the connection answers by itself
pub shared_aside : (z : ServerSettings) (k now : ℕ) (fresh : List ℕ) (s : model.Server) (L : Logons) (f : ServerEnd) (first : gives.Dealt)
    (cs : List hearing.Checked) (at : ℕ) (x : CheckedFrame) (n : Checked) (c t : hearing.Checked) (told : Told) (status : ℕ) (d e : Dealt)
    (y : Option related.Carry) (u : Carry) (more : List model.Record) (g : gives.Dealt) → Place f cs at x n c t
    → turn_of g.going.carried c ≡ Goes t → n.fails ≡ None
    → heard_message z g.going.logons k f t ≡ Some (heard_as told t.header (asks.Aside status)) → aside_status t ≡ Some status
    → (t.header.command == 5) ≡ false → e.replies.items.items ≡ d.replies.items.items ++ [] → e.took ≡ (d.took || takes n None)
    → RelatedCarries y t None u → Facts z k now fresh s L f cs at (at + 1) x d y more (alone g)
    → (b : GivenSoFar z k now fresh f first cs at g)
    → SharedOn z k now fresh s L f first cs at x e (Some (carry_of u)) b.given [] b.asks [] (record g {
      going = went_heard z k now fresh f g.going t (Some (heard_as told t.header (asks.Aside status)));
    })
shared_aside z k now fresh s L f first cs at x n c t told status d e y u more g p goes none heard aside no_create items took carries far b =
    let M = heard_as told t.header (asks.Aside status) in
    let v : gives.Dealt = record g { going = went_heard z k now fresh f g.going t (Some M) } in
    record {
      more = more;
      facts = facts_more z k now fresh s L f cs at x n c t d e y (Some (carry_of u)) more more (alone g) (alone v) p.checked p.here
          p.shows p.command (no_failure n.fails none)
          (beside z k now fresh s L f cs at (at + 1) x n t told status d e y u more (alone g) p.shows.header
          (no_cancel z g.going.logons k f t M heard) no_create none aside carries items took far) far;
      gone = given_on z k now fresh f first cs at c g v [] [] p.checked far.goes b (given_aside z k now fresh f g c t M goes heard refl);
    }

-- ---- one whose event was answered at whatever state it found

pub shared_answered : (shown : Showing) (z : ServerSettings) (k now : ℕ) (fresh : List ℕ) (s : model.Server) (L : Logons)
    (records : List model.Record) (f : ServerEnd) (first : gives.Dealt) (cs : List hearing.Checked) (at : ℕ) (x : CheckedFrame)
    (n : Checked) (c t : hearing.Checked) (m q : model.Message) (r : Reply) (random : List ℕ) (d e : Dealt) (y : Option related.Carry)
    (u : Carry) (more : List model.Record) (g : gives.Dealt) (S : model.Server) (M : Logons) → Place f cs at x n c t
    → turn_of g.going.carried c ≡ Goes t → n.fails ≡ None → heard_message z g.going.logons k f t ≡ Some m → has_event m.command ≡ true
    → is_past_setups g.setups t.header ≡ false → heard_message z M k f t ≡ Some q → has_event q.command ≡ true
    → e.replies.items.items ≡ d.replies.items.items ++ Ok r ∷ [] → e.took ≡ (d.took || true) → RelatedCarries y t (Some (Ok r)) u
    → GivesReply shown z k now random S M records f t q r → Facts z k now fresh s L f cs at (at + 1) x d y more (alone g)
    → (b : GivenSoFar z k now fresh f first cs at g)
    → SharedOn z k now fresh s L f first cs at x e (Some (carry_of u)) b.given
    (Answered now random M (answer_to S now q q.command) ∷ []) b.asks (t ∷ []) (record g {
      going = went_by z k now random f (record g.going { logons = M }) t q (answer_to S now q q.command);
      setups = setups_behind (hearing.is_setup t.header) g.setups;
    })
shared_answered shown z k now fresh s L records f first cs at x n c t m q r random d e y u more g S M p goes none heard event early found asks
    items took carries reply far b =
    let A = answer_to S now q q.command in
    let w = found_at (alone g) S M in
    let there = random_facts z k now fresh random s L f cs at (at + 1) x d y more w
    (jumped z k now fresh s L f cs at (at + 1) x d y more (alone g) S M far) in
    let behind = answered shown z k now random s L records f cs at (at + 1) x n t q r d e y u more w found asks none items took carries reply
    there in
    let on = facts_more z k now random s L f cs at x n c t d e y (Some (carry_of u)) more (more ++ A.records) w
    (behind_answer z k now random f w t q) p.checked p.here p.shows p.command (no_failure n.fails none) behind there in
    let v : gives.Dealt = record g {
      going = went_by z k now random f (record g.going { logons = M }) t q A;
      setups = setups_behind (hearing.is_setup t.header) g.setups;
    } in
    record {
      more = more ++ A.records;
      facts = random_facts z k now random fresh s L f cs (at + 1) (at + 1) x e (Some (carry_of u)) (more ++ A.records) (alone v)
          (counted z k now random s L f cs (at + 1) (at + 1) x e (Some (carry_of u)) (more ++ A.records)
          (behind_answer z k now random f w t q) (setups_behind (hearing.is_setup t.header) g.setups) on);
      gone = given_on z k now fresh f first cs at c g v (Answered now random M A ∷ []) (t ∷ []) p.checked far.goes b
          (given_answered z k now now fresh random f g c t m q M A goes heard event early found);
    }

-- ---- one that found no memory

pub shared_lacks : (z : ServerSettings) (k now : ℕ) (fresh : List ℕ) (s : model.Server) (L : Logons) (f : ServerEnd) (first : gives.Dealt)
    (cs : List hearing.Checked) (at : ℕ) (x : CheckedFrame) (n : Checked) (c t : hearing.Checked) (m : model.Message) (d e : Dealt)
    (y : Option related.Carry) (u : Carry) (more : List model.Record) (g : gives.Dealt) (S : model.Server) → Place f cs at x n c t
    → turn_of g.going.carried c ≡ Goes t → n.fails ≡ None → heard_message z g.going.logons k f t ≡ Some m → has_event m.command ≡ true
    → is_past_setups g.setups t.header ≡ false → e.replies.items.items ≡ d.replies.items.items ++ Err errors.Memory ∷ []
    → e.took ≡ (d.took || false) → RelatedCarries y t (Some (Err errors.Memory)) u
    → Facts z k now fresh s L f cs at (at + 1) x d y more (alone g) → (b : GivenSoFar z k now fresh f first cs at g)
    → SharedOn z k now fresh s L f first cs at x e (Some (carry_of u)) b.given (NoMemory S ∷ []) b.asks (t ∷ []) (record g {
      going = record (went_refused f g.going t no_memory) { server = S };
      setups = setups_behind (hearing.is_setup t.header) g.setups;
      lacked = true;
    })
shared_lacks z k now fresh s L f first cs at x n c t m d e y u more g S p goes none heard event early items took carries far b =
    let v : gives.Dealt = record g {
      going = record (went_refused f g.going t no_memory) { server = S };
      setups = setups_behind (hearing.is_setup t.header) g.setups;
      lacked = true;
    } in
    let on = facts_more z k now fresh s L f cs at x n c t d e y (Some (carry_of u)) more (more ++ []) (alone g)
    (behind_lack f (alone g) t S) p.checked p.here p.shows p.command (no_failure n.fails none)
    (lacking z k now fresh s L f cs at (at + 1) x n t m d e y u more [] (alone g) S heard event none items took carries far) far in
    record {
      more = more ++ [];
      facts = counted z k now fresh s L f cs (at + 1) (at + 1) x e (Some (carry_of u)) (more ++ []) (behind_lack f (alone g) t S)
          (setups_behind (hearing.is_setup t.header) g.setups) on;
      gone = given_on z k now fresh f first cs at c g v (NoMemory S ∷ []) (t ∷ []) p.checked far.goes b
          (given_lacks z k now fresh f g c t m S goes heard event early);
    }

-- ---- a SESSION_SETUP past as many as the server hears

or_none : (a : Bool) → (a || false) ≡ a
or_none true = refl
or_none false = refl

refused_said : (f : ServerEnd) (n : Checked) (t : hearing.Checked) (w : HeldIds) (r : Reply) (status : ℕ) → t.header ≡ n.header
    → IsMessageRefused n status r → IsSaidTo f w t r (said_failed f w t status)
refused_said f n t w r status same is =
    let told : status ≡ r.status = sym is.told in
    let session : t.header.session ≡ r.session = ap (λ (h : Header). h.session) same ∙ sym is.session in
    let tree : t.header.tree ≡ r.tree = ap (λ (h : Header). h.tree) same ∙ sym is.tree in
    let stays : r.progress ≡ Stays = is.progress in
    record {
      header = λ i. answering.reply_header t (told i) (session i) (tree i) (granted t.header.credits w);
      body = sym is.body;
      signer = ap (λ (o : Option Signer). logon.unless_faulty t.fault o)
          (sym (ap (λ (p : Progress). progress_signer p (signer_on f.keys)) stays));
      request = refl;
      progress = subst (λ (p : Progress). MovesAs p (said_failed f w t status)) (sym stays) refl;
      sets = subst (λ (p : Progress). MessageSetsUp p t) (sym stays) tt;
      known = subst (λ (p : Progress). AreProgressKeys p) (sym stays) tt;
    }

-- the model's reply that says the same
abbrev refusal_due : hearing.Checked → ℕ → model.Reply
refusal_due t status = record { status = status; session_id = t.header.session; tree_id = t.header.tree; body = model.Empty }

pub shared_refused : (z : ServerSettings) (k now : ℕ) (fresh : List ℕ) (s : model.Server) (L : Logons) (f : ServerEnd) (first : gives.Dealt)
    (cs : List hearing.Checked) (at : ℕ) (x : CheckedFrame) (n : Checked) (c t : hearing.Checked) (m : model.Message) (r : Reply)
    (d e : Dealt) (y : Option related.Carry) (u : Carry) (more : List model.Record) (g : gives.Dealt) → Place f cs at x n c t
    → turn_of g.going.carried c ≡ Goes t → n.fails ≡ None → heard_message z g.going.logons k f t ≡ Some m → has_event m.command ≡ true
    → is_past_setups g.setups t.header ≡ true → IsMessageRefused n insufficient_resources r
    → e.replies.items.items ≡ d.replies.items.items ++ Ok r ∷ [] → e.took ≡ d.took → RelatedCarries y t (Some (Ok r)) u
    → Facts z k now fresh s L f cs at (at + 1) x d y more (alone g) → (b : GivenSoFar z k now fresh f first cs at g)
    → SharedOn z k now fresh s L f first cs at x e (Some (carry_of u)) b.given [] b.asks [] (record g {
      going = went_refused f g.going t insufficient_resources;
    })
shared_refused z k now fresh s L f first cs at x n c t m r d e y u more g p goes none heard event past is items took carries far b =
    let v : gives.Dealt = record g { going = went_refused f g.going t insufficient_resources } in
    let named : IsNamed r (refusal_due t insufficient_resources) = record {
      status = sym is.told;
      session = ap (λ (h : Header). h.session) p.shows.header ∙ sym is.session;
      tree = ap (λ (h : Header). h.tree) p.shows.header ∙ sym is.tree;
      file = sym is.file;
    } in
    let behind : Behind z now f cs at n t d e (Some (carry_of u)) more (alone g) (alone v) = record {
      goes = far.goes;
      none_missing = far.none_missing;
      acted = far.acted ∙ (sym (or_none (some_acted d.replies.items.items))
          ∙ (ap (λ (a : Bool). some_acted d.replies.items.items || a) (sym is.acted)
          ∙ (sym (acted_more d.replies.items.items (Ok r)) ∙ ap (λ (l : List (Result Reply ServeError)). some_acted l) (sym items))));
      lacked = far.lacked ∙ (sym (or_none (some_lacked d.replies.items.items))
          ∙ (sym (lacked_more d.replies.items.items (Ok r)) ∙ ap (λ (l : List (Result Reply ServeError)). some_lacked l) (sym items)));
      took = far.took ∙ sym took;
      records_are = far.records_are;
      carried_is = λ less. ap (λ (q : related.Carry). Some q)
          (ap (λ (o : Option related.Carry). related.carried_past o t insufficient_resources) (far.carried_is (omega (arith, less)))
          ∙ sym (carries (refusal_due t insufficient_resources) named));
      answers = Ok r ∷ [];
      replies = said_failed f g.going.window t insufficient_resources ∷ [];
      answers_are = items;
      replies_are = refl;
      said = saids.of_reply z now f n t g.going.window (Ok r) (said_failed f g.going.window t insufficient_resources)
          (no_cancel z g.going.logons k f t m heard) none
          (not_aside t (no_negotiate z g.going.logons k f t m heard event) (no_echo z g.going.logons k f t m heard event))
          (refused_said f n t g.going.window r insufficient_resources p.shows.header is, (refl, refl, refl));
    } in
    record {
      more = more;
      facts = facts_more z k now fresh s L f cs at x n c t d e y (Some (carry_of u)) more more (alone g) (alone v) p.checked p.here
          p.shows p.command (no_failure n.fails none) behind far;
      gone = given_on z k now fresh f first cs at c g v [] [] p.checked far.goes b
          (given_past z k now fresh f g c t m goes heard event past);
    }

-- ---- the server stopped: no message behind it has an event

ends_there : (z : ServerSettings) (k now : ℕ) (fresh : List ℕ) (f : ServerEnd) (v : gives.Dealt) (count : ℕ) (ds : List hearing.Checked)
    → v.stopped ≡ Some count → gives.dealt_all z k now fresh f (record v { left = [] }) ds ≡ record v { left = [] }
unfolding gives.dealt_all
ends_there z k now fresh f v count [] is = refl
ends_there z k now fresh f v count (c ∷ cs) is =
    ap (λ (o : Option ℕ). if is_some o then record v { left = [] }
    else gives.dealt_all z k now fresh f (gives.dealt_turn z k now fresh f (record v { left = [] }) c (turn_of v.going.carried c)) cs) is

none_there : (z : ServerSettings) (k now : ℕ) (fresh : List ℕ) (f : ServerEnd) (v : gives.Dealt) (count : ℕ) (ds : List hearing.Checked)
    → v.stopped ≡ Some count → asked_all z k now fresh f (record v { left = [] }) ds ≡ []
unfolding asked_all
none_there z k now fresh f v count [] is = refl
none_there z k now fresh f v count (c ∷ cs) is =
    ap (λ (o : Option ℕ). if is_some o then []
    else asked_in z k f (record v { left = [] }) (turn_of v.going.carried c)
    ++ asked_all z k now fresh f (gives.dealt_turn z k now fresh f (record v { left = [] }) c (turn_of v.going.carried c)) cs) is

-- what was given for the frame is just enough
pub record SharedEnds (z : ServerSettings) (k now : ℕ) (fresh : List ℕ) (f : ServerEnd) (first : gives.Dealt) (cs : List hearing.Checked)
    (given : List Given) (asked : List hearing.Checked) (v : gives.Dealt) : Type 0 where
  pub is : record v { left = [] } ≡ gives.dealt_all z k now fresh f (record first { left = given }) cs
  pub asks : asked_all z k now fresh f (record first { left = given }) cs ≡ asked

pub shared_stops : (z : ServerSettings) (k now : ℕ) (fresh : List ℕ) (s : model.Server) (L : Logons) (f : ServerEnd) (first : gives.Dealt)
    (cs : List hearing.Checked) (at : ℕ) (x : CheckedFrame) (n : Checked) (c t : hearing.Checked) (m : model.Message) (count : ℕ) (d : Dealt)
    (y : Option related.Carry) (more : List model.Record) (g : gives.Dealt) → Place f cs at x n c t → turn_of g.going.carried c ≡ Goes t
    → heard_message z g.going.logons k f t ≡ Some m → has_event m.command ≡ true → is_past_setups g.setups t.header ≡ false
    → Facts z k now fresh s L f cs at (at + 1) x d y more (alone g) → (b : GivenSoFar z k now fresh f first cs at g)
    → SharedEnds z k now fresh f first cs (b.given ++ Stops count ∷ []) (b.asks ++ t ∷ []) (record g {
      setups = setups_behind (hearing.is_setup t.header) g.setups;
      stopped = Some count;
    })
shared_stops z k now fresh s L f first cs at x n c t m count d y more g p goes heard event early far b =
    let v : gives.Dealt = record g {
      setups = setups_behind (hearing.is_setup t.header) g.setups;
      stopped = Some count;
    } in
    let gone = given_on z k now fresh f first cs at c g v (Stops count ∷ []) (t ∷ []) p.checked far.goes b
    (given_stops z k now fresh f g c t m count goes heard event early) in
    let whole : take (at + 1) cs ++ drop (at + 1) cs ≡ cs = take-append-drop (at + 1) cs in
    let given : (b.given ++ Stops count ∷ []) ++ [] ≡ b.given ++ Stops count ∷ [] = append-nil (b.given ++ Stops count ∷ []) in
    record {
      is = sym (ends_there z k now fresh f v count (drop (at + 1) cs) refl)
          ∙ (sym (gone.so.is [] (drop (at + 1) cs))
          ∙ (ap (λ (l : List Given). gives.dealt_all z k now fresh f (record first { left = l ++ [] }) (take (at + 1) cs ++ drop (at + 1) cs))
          gone.given_is
          ∙ (ap (λ (l : List Given). gives.dealt_all z k now fresh f (record first { left = l }) (take (at + 1) cs ++ drop (at + 1) cs)) given
          ∙ ap (λ (ds : List hearing.Checked). gives.dealt_all z k now fresh f (record first { left = b.given ++ Stops count ∷ [] }) ds)
          whole)));
      asks = sym (ap (λ (l : List Given). asked_all z k now fresh f (record first { left = l ++ [] }) (take (at + 1) cs ++ drop (at + 1) cs))
          gone.given_is
          ∙ (ap (λ (l : List Given). asked_all z k now fresh f (record first { left = l }) (take (at + 1) cs ++ drop (at + 1) cs)) given
          ∙ ap (λ (ds : List hearing.Checked). asked_all z k now fresh f (record first { left = b.given ++ Stops count ∷ [] }) ds) whole))
          ∙ (gone.so.asked [] (drop (at + 1) cs)
          ∙ (ap (λ (l : List hearing.Checked). gone.so.asks ++ l) (none_there z k now fresh f v count (drop (at + 1) cs) refl)
          ∙ (append-nil gone.so.asks ∙ gone.asks_are)));
    }

-- ---- behind the last, and where nothing more is taken: the first messages are a frame of their own

pub shared_done : (z : ServerSettings) (k now : ℕ) (fresh : List ℕ) (f : ServerEnd) (first : gives.Dealt) (cs : List hearing.Checked) (at : ℕ)
    (g : gives.Dealt) → (b : GivenSoFar z k now fresh f first cs at g)
    → SharedEnds z k now fresh f first (take at cs) b.given b.asks g
unfolding gives.dealt_all asked_all
shared_done z k now fresh f first cs at g b =
    let none : take at cs ++ [] ≡ take at cs = append-nil (take at cs) in
    let given : b.given ++ [] ≡ b.given = append-nil b.given in
    record {
      is = sym (b.is [] [])
          ∙ (ap (λ (l : List Given). gives.dealt_all z k now fresh f (record first { left = l }) (take at cs ++ [])) given
          ∙ ap (λ (ds : List hearing.Checked). gives.dealt_all z k now fresh f (record first { left = b.given }) ds) none);
      asks = sym (ap (λ (l : List Given). asked_all z k now fresh f (record first { left = l }) (take at cs ++ [])) given
          ∙ ap (λ (ds : List hearing.Checked). asked_all z k now fresh f (record first { left = b.given }) ds) none)
          ∙ (b.asked [] [] ∙ append-nil b.asks);
    }
