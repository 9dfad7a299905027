-- Before the first message of a frame, and behind the last.
use Rattle.std.proofs.Common.{◌≡◌, ℕ, zero, suc, ◌≤◌, false, List, [], ◌∷◌}
use Rattle.std.proofs.Common.{◌++◌, length, take, Option, Some, None, Result, Ok, Err, slice_get}
use Rattle.std.proofs.Common.{refl, sym, ap, subst, ◌∙◌, append-nil, arith}
use Rattle.spec_exchange.specs.State as model
use Rattle.spec_world.specs.Settings.{ServerSettings}
use Rattle.spec_world.specs.Ends.{ServerEnd, Logons}
use Rattle.spec_world.specs.Hearing as hearing
use Rattle.spec_world.specs.Related as related
use Rattle.spec_world.specs.Mishaps.{Owned, owning, owned_all, LeaveAll}
use Rattle.conn_core.specs.declared.served.error.ServeError.{ServeError}
use Rattle.conn_core.specs.declared.end.ConnEnd.{ConnEnd}
use Rattle.conn_core.specs.declared.end.ConnEnd.TheVariants as ends
use Rattle.conn_core.specs.declared.frame_messages.checked.Checked.{Checked}
use Rattle.conn_core.specs.declared.frame_messages.checked.CheckedFrame.{CheckedFrame}
use Rattle.conn_core.specs.frame_messages.Checking.{ShowsMessages}
use Rattle.conn_core.specs.declared.served.serve.Reply.{Reply}
use Rattle.conn_core.specs.served.Replies.{some_acted, some_lacked}
use Rattle.conn_core.specs.served.Serving.{Showing}
use Rattle.conn_core.specs.message_replies.Replying.{AreMessagesSaid, AreMessagesShort, FailRightly, ShowsTaken}
use Rattle.conn_core.specs.frame_events.Dealing.{Deals, GoesThrough, SameCommands}
use Rattle.conn_core.specs.frame_events.Written.{WriteAll}
use Rattle.conn_core.specs.frame_events.SoFar.{DealtSoFar, Facts, SoFarSteps, so_far_with_mishaps}
use Rattle.conn_core.specs.declared.frame_events.handing.Dealt.{Dealt}
use Rattle.conn_core.proofs.frame_events.Lists.{at_places, in_a_row, same_list}
use Rattle.conn_core.proofs.frame_events.Turns.{none_left, none_written, all_done}

abbrev Answers : Type 0
Answers = List (Result Reply ServeError)

none_acted : (rs : Answers) → rs ≡ [] → false ≡ some_acted rs
unfolding some_acted
none_acted rs e = sym (ap (λ (l : Answers). some_acted l) e)

none_lacked : (rs : Answers) → rs ≡ [] → false ≡ some_lacked rs
unfolding some_lacked
none_lacked rs e = sym (ap (λ (l : Answers). some_lacked l) e)

pub shorts_none : (rs : Answers) → rs ≡ [] → AreMessagesShort rs
unfolding AreMessagesShort
shorts_none rs e = subst (λ (l : Answers). AreMessagesShort l) (sym e) tt

none_there : (i : ℕ) (m : Checked) → slice_get [] i ≡ Some m → ⊥
none_there zero m e = absurd cc
none_there (suc i) m e = absurd cc

pub first : (z : ServerSettings) (k now : ℕ) (fresh : List ℕ) (s : model.Server) (L : Logons) (f : ServerEnd)
    (cs : List hearing.Checked) (x : CheckedFrame) (d : Dealt) → d.replies.items.items ≡ [] → d.took ≡ false
    → ShowsMessages x.bytes.items x.messages.items cs → DealtSoFar z k now fresh s L f cs 0 0 x d None [] (owning s L f [])
first z k now fresh s L f cs x d none untaken shows = record {
  begins = record { mishaps = []; is = λ later rest. refl; left = λ later rest h. h; written = λ later rest after h. h };
  facts = record {
    goes = refl;
    none_missing = refl;
    acted = none_acted d.replies.items.items none;
    lacked = none_lacked d.replies.items.items none;
    took = sym untaken;
    records_are = λ lacks. refl;
    carried_is = λ less. refl;
    done = [];
    taken = [];
    long = refl;
    also = refl;
    same = λ i m e. absurd (none_there i m e);
    shows = λ i m c e g. absurd (none_there i m e);
    commands = tt;
    fails = tt;
    said = (none, refl, refl);
    rest = λ i m c past e g. at_places x.bytes.items x.messages.items cs shows i m c e g;
  };
}

-- ---- behind the last

not_more : (ds ms : List Checked) → ((i : ℕ) (m : Checked) → slice_get ds i ≡ Some m → slice_get ms i ≡ Some m) → length ds ≤ length ms
not_more [] ms h = omega arith
not_more (d ∷ ds) [] h = absurd (none_there 0 d (h 0 d refl))
not_more (d ∷ ds) (m ∷ ms) h =
    let rest : length ds ≤ length ms = not_more ds ms (λ i n e. h (suc i) n e) in
    omega (arith, rest)

pub take_past : (cs : List hearing.Checked) (n : ℕ) → length cs ≤ n → take n cs ≡ cs
take_past [] zero past = refl
take_past [] (suc n) past = refl
take_past (c ∷ cs) zero past = absurd (omega (arith, past))
take_past (c ∷ cs) (suc n) past = ap (λ (l : List hearing.Checked). c ∷ l) (take_past cs n (omega (arith, past)))

-- the messages that all went on
pub through : (z : ServerSettings) (k now : ℕ) (fresh : List ℕ) (s : model.Server) (L : Logons) (f : ServerEnd)
    (cs : List hearing.Checked) (at : ℕ) (x : CheckedFrame) (d : Dealt) (y : Option related.Carry) (more : List model.Record) (w : Owned)
    → length x.messages.items ≡ length cs → length cs ≤ at → Facts z k now fresh s L f cs at at x d y more w
    → GoesThrough z now f cs x d w
through z k now fresh s L f cs at x d y more w count past far =
    let front : take at cs ≡ cs = take_past cs at past in
    let few : length far.done ≤ length x.messages.items = not_more far.done x.messages.items far.same in
    let long : length far.done ≡ at = far.long in
    let all : far.done ≡ x.messages.items = same_list far.done x.messages.items (omega (arith, count, past, few, long)) far.same in
    record {
      taken = far.taken;
      shows = subst (λ (ms : List Checked). ShowsTaken x.bytes.items ms far.taken) all
          (in_a_row x.bytes.items far.done far.taken (far.long ∙ sym far.also) far.shows);
      commands = subst (λ (l : List hearing.Checked). SameCommands far.taken l) front far.commands;
      fails = subst (λ (ms : List Checked). FailRightly ms) all far.fails;
      said = subst (λ (ms : List Checked). AreMessagesSaid z now f ms far.taken d.replies.items.items f.window w.dealt.going.replies
          w.dealt.going.window) all far.said;
    }

pub last : (shown : Showing) (z : ServerSettings) (k now : ℕ) (fresh : List ℕ) (s : model.Server) (L : Logons)
    (records : List model.Record) (f : ServerEnd) (cs : List hearing.Checked) (at : ℕ) (x : CheckedFrame) (d : Dealt)
    (y : Option related.Carry) (more : List model.Record) (w : Owned) → length x.messages.items ≡ length cs
    → length cs ≤ at
    → DealtSoFar z k now fresh s L f cs at at x d y more w → shown w.dealt.going.server w.dealt.going.logons (records ++ more)
    → Deals shown z k now fresh s L records f cs x d (Ok tt)
last shown z k now fresh s L records f cs at x d y more w count past far state =
    let v = so_far_with_mishaps w [] in
    let on = through z k now fresh s L f cs at x d y more w count past far.facts in
    let front : take at cs ≡ cs = take_past cs at past in
    let whole : take at cs ++ [] ≡ cs = append-nil (take at cs) ∙ front in (
      v,
      record {
        mishaps = far.begins.mishaps ++ [];
        is = sym (sym (ap (λ (ds : List hearing.Checked). owned_all z k now fresh f (owning s L f (far.begins.mishaps ++ [])) ds) whole)
            ∙ (far.begins.is [] [] ∙ all_done z k now fresh f v));
        left = subst (λ (ds : List hearing.Checked). LeaveAll z k now fresh f (owning s L f (far.begins.mishaps ++ [])) ds) whole
            (far.begins.left [] [] (none_left z k now fresh f v));
        none_missing = far.facts.none_missing;
        none_left = refl;
        acted = far.facts.acted;
        lacked = far.facts.lacked;
        took = far.facts.took;
      },
      record {
        goes = far.facts.goes;
        more = more;
        records_are = far.facts.records_are;
        written = subst (λ (ds : List hearing.Checked). WriteAll z k now fresh f (owning s L f (far.begins.mishaps ++ [])) ds more) whole
            (subst (λ (rs : List model.Record). WriteAll z k now fresh f (owning s L f (far.begins.mishaps ++ [])) (take at cs ++ []) rs)
            (append-nil more) (far.begins.written [] [] [] (none_written z k now fresh f v)));
        state = state;
      },
      record { taken = on.taken; shows = on.shows; commands = on.commands; fails = on.fails; said = on.said },
    )

pub deals_err : (shown : Showing) (z : ServerSettings) (k now : ℕ) (fresh : List ℕ) (s : model.Server) (L : Logons)
    (records : List model.Record) (f : ServerEnd) (cs : List hearing.Checked) (at : ℕ) (x : CheckedFrame) (d : Dealt) (why : ConnEnd)
    → SoFarSteps shown z k now fresh s L records f cs at x d (Err why) → Deals shown z k now fresh s L records f cs x d (Err why)
deals_err shown z k now fresh s L records f cs at x d ends.BadFrame p = absurd p
deals_err shown z k now fresh s L records f cs at x d (ends.OutsideWindow id) p = absurd p
deals_err shown z k now fresh s L records f cs at x d ends.SecondNegotiate p = absurd p
deals_err shown z k now fresh s L records f cs at x d ends.Unsealable p = absurd p
deals_err shown z k now fresh s L records f cs at x d ends.Spent p = absurd p
deals_err shown z k now fresh s L records f cs at x d ends.Full p = absurd p
deals_err shown z k now fresh s L records f cs at x d (ends.LinkFault count) p = absurd p
deals_err shown z k now fresh s L records f cs at x d (ends.Stopped count) p = p
deals_err shown z k now fresh s L records f cs at x d ends.Memory p = p
