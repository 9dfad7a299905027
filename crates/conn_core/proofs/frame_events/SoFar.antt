-- The events of the first messages of a frame, and of one more.
use Rattle.std.proofs.Common.{◌≡◌, ℕ, ◌+◌, ◌==◌, ◌<◌, false}
use Rattle.std.proofs.Common.{List, [], ◌∷◌, ◌++◌, length, take, Option, Some}
use Rattle.std.proofs.Common.{None, Result, slice_get, ◌⊎◌, inl, inr, refl}
use Rattle.std.proofs.Common.{sym, ap, subst, ◌∙◌, append-nil, length-append, arith}
use Rattle.std.specs.Prelude.{is_some}
use Rattle.std.proofs.lemmas.Option.{slice_get_within}
use Rattle.spec_exchange.specs.State as model
use Rattle.spec_world.specs.Settings.{ServerSettings}
use Rattle.spec_world.specs.Ends.{ServerEnd, Logons}
use Rattle.spec_world.specs.Hearing as hearing
use Rattle.spec_world.specs.Answering as answering
use Rattle.spec_world.specs.Related as related
use Rattle.spec_world.specs.Related.{failed_as, turn_of}
use Rattle.spec_world.specs.Connection.{said_failed}
use Rattle.spec_world.specs.Mishaps.{Mishap, Owned}
use Rattle.spec_world.specs.Notes.{has_acted}
use Rattle.conn_core.specs.declared.served.error.ServeError.{ServeError}
use Rattle.conn_core.specs.declared.frame_messages.checked.Checked.{Checked}
use Rattle.conn_core.specs.declared.frame_messages.checked.CheckedFrame.{CheckedFrame}
use Rattle.conn_core.specs.frame_messages.Checking.{AreInOrder, ShowsGoing}
use Rattle.conn_core.specs.related.Carrying.{SameOthers}
use Rattle.conn_core.specs.declared.served.serve.Reply.{Reply}
use Rattle.conn_core.specs.served.Replies.{some_acted, some_lacked}
use Rattle.conn_core.specs.message_replies.Replying.{AreMessagesSaid, FailsAt}
use Rattle.conn_core.specs.frame_events.Dealing.{SameCommands, taken_records}
use Rattle.conn_core.specs.declared.frame_events.handing.Dealt.{Dealt}
use Rattle.conn_core.proofs.frame_events.Lists.{checked_within, going_on, last_checked, last_message, was_there}
use Rattle.conn_core.proofs.frame_events.Saids.{OneSaid, commands_more, fails_more, of_failed, said_more}
use Rattle.conn_core.specs.frame_events.SoFar.{DealtSoFar, Facts}
use Rattle.conn_core.proofs.frame_events.Keeping.{fails_no_cancel}
use Rattle.conn_core.proofs.frame_events.Turns.{Turns, begins_on, behind_failed, take_more}

-- ---- the message at its place may change

done_within : (ds : List Checked) (at i : ℕ) (m : Checked) → length ds ≡ at → slice_get ds i ≡ Some m → i ≡ at → ⊥
done_within ds at i m long e same =
    let within : i < length ds = slice_get_within ds i m e in
    absurd (omega (arith, within, long, same))

pub facts_moved : (z : ServerSettings) (k now : ℕ) (fresh : List ℕ) (s : model.Server) (L : Logons) (f : ServerEnd)
    (cs : List hearing.Checked) (at : ℕ) (x v : CheckedFrame) (o : Checked) (d : Dealt) (y : Option related.Carry)
    (more : List model.Record) (w : Owned) → AreInOrder x → SameOthers at x v → slice_get x.messages.items at ≡ Some o
    → Facts z k now fresh s L f cs at at x d y more w → Facts z k now fresh s L f cs at (at + 1) v d y more w
facts_moved z k now fresh s L f cs at x v o d y more w order others here far = record {
  goes = far.goes;
  none_missing = far.none_missing;
  acted = far.acted;
  lacked = far.lacked;
  took = far.took;
  records_are = far.records_are;
  carried_is = far.carried_is;
  done = far.done;
  taken = far.taken;
  long = far.long;
  also = far.also;
  same = λ i m e. others.messages i m (done_within far.done at i m far.long e) (far.same i m e);
  shows = λ i m c e g.
      going_on x v at i o m c order others (done_within far.done at i m far.long e) here (far.same i m e) (far.shows i m c e g);
  commands = far.commands;
  fails = far.fails;
  said = far.said;
  rest = λ i m c past e g.
      let differs : i ≡ at → ⊥ = λ same. absurd (omega (arith, past, same)) in
      let was = was_there x v at i m others differs e in
      let old = far.rest i m c (omega (arith, past)) was g in
      (going_on x v at i o m c order others differs here was old.0, old.1);
}

pub moved : (z : ServerSettings) (k now : ℕ) (fresh : List ℕ) (s : model.Server) (L : Logons) (f : ServerEnd)
    (cs : List hearing.Checked) (at : ℕ) (x v : CheckedFrame) (o : Checked) (d : Dealt) (y : Option related.Carry)
    (more : List model.Record) (w : Owned) → AreInOrder x → SameOthers at x v → slice_get x.messages.items at ≡ Some o
    → DealtSoFar z k now fresh s L f cs at at x d y more w → DealtSoFar z k now fresh s L f cs at (at + 1) v d y more w
moved z k now fresh s L f cs at x v o d y more w order others here far = record {
  begins = far.begins;
  facts = facts_moved z k now fresh s L f cs at x v o d y more w order others here far.facts;
}

-- ---- one more message

-- what is behind it: v in the definitions, e and u in code
pub record Behind (z : ServerSettings) (now : ℕ) (f : ServerEnd) (cs : List hearing.Checked) (at : ℕ) (n : Checked) (t : hearing.Checked)
    (d e : Dealt) (u : Option related.Carry) (more : List model.Record) (w v : Owned) : Type 0 where
  pub goes : v.dealt.stopped ≡ None
  pub none_missing : v.dealt.missing ≡ false
  pub acted : has_acted v.dealt.going.taken ≡ some_acted e.replies.items.items
  pub lacked : v.dealt.lacked ≡ some_lacked e.replies.items.items
  pub took : is_some v.dealt.going.taken ≡ e.took
  pub records_are : v.dealt.lacked ≡ false → more ≡ taken_records v.dealt.going.taken
  pub carried_is : at + 1 < length cs → v.dealt.going.carried ≡ u
  pub answers : List (Result Reply ServeError)
  pub replies : List answering.SaidReply
  pub answers_are : e.replies.items.items ≡ d.replies.items.items ++ answers
  pub replies_are : v.dealt.going.replies ≡ w.dealt.going.replies ++ replies
  pub said : OneSaid z now f n t answers w.dealt.going.window replies v.dealt.going.window

pub facts_more : (z : ServerSettings) (k now : ℕ) (fresh : List ℕ) (s : model.Server) (L : Logons) (f : ServerEnd)
    (cs : List hearing.Checked) (at : ℕ) (x : CheckedFrame) (n : Checked) (c t : hearing.Checked) (d e : Dealt)
    (y u : Option related.Carry) (more now_more : List model.Record) (w v : Owned)
    → slice_get cs at ≡ Some c → slice_get x.messages.items at ≡ Some n → ShowsGoing x.bytes.items n t
    → t.header.command ≡ c.header.command → FailsAt n.fails
    → Behind z now f cs at n t d e u now_more w v → Facts z k now fresh s L f cs at (at + 1) x d y more w
    → Facts z k now fresh s L f cs (at + 1) (at + 1) x e u now_more v
facts_more z k now fresh s L f cs at x n c t d e y u more now_more w v is_c is_n shows command fails deals far = record {
  goes = deals.goes;
  none_missing = deals.none_missing;
  acted = deals.acted;
  lacked = deals.lacked;
  took = deals.took;
  records_are = deals.records_are;
  carried_is = deals.carried_is;
  done = far.done ++ n ∷ [];
  taken = far.taken ++ t ∷ [];
  long = length-append far.done (n ∷ []) ∙ ap (λ (k : ℕ). k + 1) far.long;
  also = length-append far.taken (t ∷ []) ∙ ap (λ (k : ℕ). k + 1) far.also;
  same = λ i m e. same_by i m (last_message far.done n i m e);
  shows = λ i m b e g. shows_by i m b (last_message far.done n i m e) (last_checked far.taken t i b g);
  commands = subst (λ (l : List hearing.Checked). SameCommands (far.taken ++ t ∷ []) l) (sym (take_more cs at c is_c))
      (commands_more far.taken (take at cs) t c far.commands command);
  fails = fails_more far.done n far.fails fails;
  said = subst (λ (rs : List (Result Reply ServeError)). AreMessagesSaid z now f (far.done ++ n ∷ []) (far.taken ++ t ∷ []) rs f.window
      v.dealt.going.replies v.dealt.going.window) (sym deals.answers_are)
      (subst (λ (ss : List answering.SaidReply). AreMessagesSaid z now f (far.done ++ n ∷ []) (far.taken ++ t ∷ [])
      (d.replies.items.items ++ deals.answers) f.window ss v.dealt.going.window) (sym deals.replies_are)
      (said_more z now f far.done far.taken d.replies.items.items f.window w.dealt.going.replies w.dealt.going.window (n ∷ []) (t ∷ [])
      deals.answers deals.replies v.dealt.going.window far.said deals.said));
  rest = λ i m b past e g. far.rest i m b past e g;
}
  where
    same_by : (i : ℕ) (m : Checked) → (slice_get far.done i ≡ Some m) ⊎ ((i ≡ length far.done) × (n ≡ m))
        → slice_get x.messages.items i ≡ Some m
    same_by i m (inl e) = far.same i m e
    same_by i m (inr (last, is)) =
        let place : at ≡ i = sym (last ∙ far.long) in
        subst (λ (k : ℕ). slice_get x.messages.items k ≡ Some m) place (is_n ∙ ap (λ (q : Checked). Some q) is)

    shows_by : (i : ℕ) (m : Checked) (b : hearing.Checked) → (slice_get far.done i ≡ Some m) ⊎ ((i ≡ length far.done) × (n ≡ m))
        → (slice_get far.taken i ≡ Some b) ⊎ ((i ≡ length far.taken) × (t ≡ b)) → ShowsGoing x.bytes.items m b
    shows_by i m b (inl e) (inl g) = far.shows i m b e g
    shows_by i m b (inl e) (inr (last, is)) = absurd (done_within far.done at i m far.long e (last ∙ far.also))
    shows_by i m b (inr (last, is)) (inl g) =
        let within : i < length far.taken = checked_within far.taken i b g in
        let one : length far.taken ≡ at = far.also in
        let two : i ≡ at = last ∙ far.long in
        absurd (omega (arith, within, one, two))
    shows_by i m b (inr (last, is)) (inr (too, alike)) =
        subst (λ (q : Checked). ShowsGoing x.bytes.items q b) is
        (subst (λ (q : hearing.Checked). ShowsGoing x.bytes.items n q) alike shows)

pub one_more : (z : ServerSettings) (k now : ℕ) (fresh : List ℕ) (s : model.Server) (L : Logons) (f : ServerEnd)
    (cs : List hearing.Checked) (at : ℕ) (x : CheckedFrame) (n : Checked) (c t : hearing.Checked) (d e : Dealt)
    (y u : Option related.Carry) (more one now_more : List model.Record) (xs : List (Option Mishap)) (w v : Owned)
    → slice_get cs at ≡ Some c → slice_get x.messages.items at ≡ Some n → ShowsGoing x.bytes.items n t
    → t.header.command ≡ c.header.command → FailsAt n.fails → more ++ one ≡ now_more → Turns z k now fresh f w c xs one v
    → Behind z now f cs at n t d e u now_more w v → DealtSoFar z k now fresh s L f cs at (at + 1) x d y more w
    → DealtSoFar z k now fresh s L f cs (at + 1) (at + 1) x e u now_more v
one_more z k now fresh s L f cs at x n c t d e y u more one now_more xs w v is_c is_n shows command fails sum turns deals far = record {
  begins = begins_on z k now fresh s L f cs at c w v xs more one now_more is_c far.facts.goes sum far.begins turns;
  facts = facts_more z k now fresh s L f cs at x n c t d e y u more now_more w v is_c is_n shows command fails deals far.facts;
}

-- ---- a message that fails with the one before it

failed_command : (o : Option related.Carry) (c : hearing.Checked) → (failed_as o c).header.command ≡ c.header.command
failed_command None c = refl
failed_command (Some y) c = refl

pub failed : (z : ServerSettings) (k now : ℕ) (fresh : List ℕ) (s : model.Server) (L : Logons) (f : ServerEnd)
    (cs : List hearing.Checked) (at from : ℕ) (x : CheckedFrame) (n : Checked) (c : hearing.Checked) (d : Dealt)
    (y : Option related.Carry) (more : List model.Record) (w : Owned) (status : ℕ) → turn_of w.dealt.going.carried c ≡ related.Fails status
    → n.fails ≡ Some status → Facts z k now fresh s L f cs at from x d y more w
    → Behind z now f cs at n (failed_as w.dealt.going.carried c) d d y more w (behind_failed z k now fresh f w c status)
failed z k now fresh s L f cs at from x n c d y more w status turn fails far =
    let off : hearing.is_cancel (failed_as w.dealt.going.carried c).header ≡ false =
    ap (λ (k : ℕ). k == 12) (failed_command w.dealt.going.carried c) ∙ fails_no_cancel w.dealt.going.carried c status turn in
    record {
      goes = far.goes;
      none_missing = far.none_missing;
      acted = far.acted;
      lacked = far.lacked;
      took = far.took;
      records_are = far.records_are;
      carried_is = λ less. far.carried_is (omega (arith, less));
      answers = [];
      replies = said_failed f w.dealt.going.window (failed_as w.dealt.going.carried c) status ∷ [];
      answers_are = sym (append-nil d.replies.items.items);
      replies_are = refl;
      said = of_failed z now f n (failed_as w.dealt.going.carried c) w.dealt.going.window status off fails;
    }
