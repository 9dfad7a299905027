-- One message in its turn.
use Rattle.std.proofs.Common.{◌≡◌, ℕ, ◌+◌, ◌==◌, ◌<◌, Bool, true, false}
use Rattle.std.proofs.Common.{◌||◌, if◌then◌else◌, List, [], ◌∷◌, ◌++◌, length, take, drop, Option}
use Rattle.std.proofs.Common.{Some, None, Result, Ok, Err, slice_get, refl, sym, ap, subst, ◌∙◌, append-nil, append_assoc, eqb-true, arith}
use Rattle.std.proofs.lemmas.List.{take-append-drop}
use Rattle.spec_exchange.specs.Commands as asks
use Rattle.spec_exchange.specs.State as model
use Rattle.spec_exchange.specs.Network.{answer_to}
use Rattle.spec_commands.specs.CommandOf.{Told, heard_as}
use Rattle.spec_world.specs.Settings.{ServerSettings}
use Rattle.spec_world.specs.Ends.{ServerEnd, Logons}
use Rattle.spec_world.specs.Hearing as hearing
use Rattle.spec_world.specs.Related as related
use Rattle.spec_world.specs.Related.{Fails, Goes, failed_as, turn_of}
use Rattle.spec_world.specs.Connection as connection
use Rattle.spec_world.specs.Connection.{heard_message}
use Rattle.spec_world.specs.Given.{has_event}
use Rattle.spec_world.specs.Mishaps.{Halts, Lacks, Owned, LeaveAll, owned_all, owning}
use Rattle.conn_core.specs.declared.served.error.ServeError.{ServeError}
use Rattle.conn_core.specs.declared.served.error.ServeError.TheVariants as errors
use Rattle.conn_core.specs.declared.end.ConnEnd.{ConnEnd}
use Rattle.conn_core.specs.declared.end.ConnEnd.TheVariants as ends
use Rattle.conn_core.specs.declared.end.ConnEnd.TheVariants.{Stopped}
use Rattle.conn_core.specs.declared.frame_messages.checked.Checked.{Checked}
use Rattle.conn_core.specs.declared.frame_messages.checked.CheckedFrame.{CheckedFrame}
use Rattle.conn_core.specs.frame_messages.Checking.{ShowsGoing, message_in}
use Rattle.conn_core.specs.related.Carrying.{RelatedCarries, Inherits, IsCarried, SameOthers, carry_of}
use Rattle.conn_core.specs.declared.related.related.Carry.{Carry}
use Rattle.conn_core.specs.declared.served.serve.Reply.{Reply}
use Rattle.conn_core.specs.served.Replies.{some_acted, some_lacked}
use Rattle.conn_core.specs.served.Serving.{Showing}
use Rattle.conn_core.specs.message_replies.Replying.{FailsAt, aside_status, echo_due, negotiate_due}
use Rattle.conn_core.proofs.requests.Events.{of_negotiate, of_echo, with_event}
use Rattle.conn_core.specs.frame_events.Dealing.{AddsTo, Alone, EventAnswer, GivesFor, GivesIf, LosesOne, LosesReply}
use Rattle.conn_core.specs.frame_events.Dealing.{event_listed, lost_in, stop_in, takes}
use Rattle.conn_core.specs.frame_events.Written.{WriteAll}
use Rattle.conn_core.specs.frame_events.SoFar.{SoFarBegins, DealtSoFar, Facts, SoFarSteps, so_far_with_mishaps}
use Rattle.conn_core.specs.declared.frame_events.handing.Dealt.{Dealt}
use Rattle.conn_core.proofs.frame_events.Cases.{answered, beside, cancelled, lacking, lost_to, no_cancel, one_heard}
use Rattle.conn_core.proofs.frame_events.Keeping.{failed_keeps, fails_as, goes_as, goes_keeps, no_success, shows_new}
use Rattle.conn_core.proofs.frame_events.Lists.{checked_within}
use Rattle.conn_core.proofs.frame_events.SoFar.{failed, one_more}
use Rattle.conn_core.proofs.frame_events.Turns.{all_done, all_left, begins_on, behind_answer, behind_failed}
use Rattle.conn_core.proofs.frame_events.Turns.{behind_lack, behind_none, behind_stop}
use Rattle.conn_core.proofs.frame_events.Turns.{halts, none_left, none_written}
use Rattle.conn_core.proofs.frame_events.Turns.{turn_answered, turn_aside, turn_failed, turn_lacks, turn_none, turn_stops}

-- where a message stands: c as it was checked, t as it goes its way, n in code
pub record Place (f : ServerEnd) (cs : List hearing.Checked) (at : ℕ) (x : CheckedFrame) (n : Checked) (c t : hearing.Checked)
    : Type 0 where
  pub checked : slice_get cs at ≡ Some c
  pub here : slice_get x.messages.items at ≡ Some n
  pub shows : ShowsGoing x.bytes.items n t
  pub command : t.header.command ≡ c.header.command

pub no_failure : (o : Option ℕ) → o ≡ None → FailsAt o
no_failure None e = tt
no_failure (Some k) e = absurd cc

-- ---- it goes its way

aside_by : (shown : Showing) (z : ServerSettings) (k now : ℕ) (fresh : List ℕ) (s : model.Server) (L : Logons)
    (records : List model.Record) (f : ServerEnd) (cs : List hearing.Checked) (at : ℕ) (x : CheckedFrame) (n : Checked)
    (c t : hearing.Checked) (u : Told) (status : ℕ) (d e : Dealt) (y : Option related.Carry) (b : Carry) (more : List model.Record)
    (w : Owned) → Place f cs at x n c t → turn_of w.dealt.going.carried c ≡ Goes t → n.fails ≡ None
    → heard_message z w.dealt.going.logons k f t ≡ Some (heard_as u t.header (asks.Aside status)) → aside_status t ≡ Some status
    → (t.header.command == 5) ≡ false → RelatedCarries y t None b → e.replies.items.items ≡ d.replies.items.items ++ []
    → e.took ≡ (d.took || takes n None) → shown w.dealt.going.server w.dealt.going.logons (records ++ more)
    → DealtSoFar z k now fresh s L f cs at (at + 1) x d y more w
    → SoFarSteps shown z k now fresh s L records f cs (at + 1) x e (Ok (Some b))
aside_by shown z k now fresh s L records f cs at x n c t u status d e y b more w p goes none heard aside no_create carries items took state far =
    let M = heard_as u t.header (asks.Aside status) in
    let v = behind_answer z k now fresh f w t M in (
      v,
      more,
      one_more z k now fresh s L f cs at x n c t d e y (Some (carry_of b)) more [] more [] w v p.checked p.here p.shows p.command
          (no_failure n.fails none) (append-nil more) (turn_aside z k now fresh f w c t M goes heard refl)
          (beside z k now fresh s L f cs at (at + 1) x n t u status d e y b more w p.shows.header
          (no_cancel z w.dealt.going.logons k f t M heard) no_create none aside carries items took far.facts) far,
      state,
    )

other_status : (t : hearing.Checked) → (t.header.command == 0) ≡ false → (t.header.command == 13) ≡ true
    → aside_status t ≡ Some (echo_due t)
other_status t zero echo =
    ap (λ (b : Bool). if b then Some (negotiate_due t)
    else if t.header.command == 13 then Some (echo_due t) else None) zero
    ∙ ap (λ (b : Bool). if b then Some (echo_due t) else None) echo

no_create : (n k : ℕ) → (n == k) ≡ true → (k == 5) ≡ false → (n == 5) ≡ false
no_create n k e f = ap (λ (q : ℕ). q == 5) (eqb-true n k e) ∙ f

true_false : true ≡ false → ⊥
true_false e = absurd cc

aside_on : (shown : Showing) (z : ServerSettings) (k now : ℕ) (fresh : List ℕ) (s : model.Server) (L : Logons)
    (records : List model.Record) (f : ServerEnd) (cs : List hearing.Checked) (at : ℕ) (x : CheckedFrame) (n : Checked)
    (c t : hearing.Checked) (m : model.Message) (d e : Dealt) (y : Option related.Carry) (b : Carry) (more : List model.Record)
    (w : Owned) (i j : Bool) → (t.header.command == 0) ≡ i → (t.header.command == 13) ≡ j → Place f cs at x n c t
    → turn_of w.dealt.going.carried c ≡ Goes t → n.fails ≡ None → Alone cs → heard_message z w.dealt.going.logons k f t ≡ Some m
    → has_event m.command ≡ false → e.replies.items.items ≡ d.replies.items.items ++ [] → e.took ≡ (d.took || takes n None)
    → RelatedCarries y t None b → shown w.dealt.going.server w.dealt.going.logons (records ++ more)
    → DealtSoFar z k now fresh s L f cs at (at + 1) x d y more w
    → SoFarSteps shown z k now fresh s L records f cs (at + 1) x e (Ok (Some b))
aside_on shown z k now fresh s L records f cs at x n c t m d e y b more w true j zero echo p goes none alone heard event items took carries
    state far =
    let u = connection.told_of z w.dealt.going.logons k f t in
    aside_by shown z k now fresh s L records f cs at x n c t u (negotiate_due t) d e y b more w p goes none
    (of_negotiate z w.dealt.going.logons k f t zero)
    (ap (λ (q : Bool). if q then Some (negotiate_due t)
    else if t.header.command == 13 then Some (echo_due t) else None) zero)
    (no_create t.header.command 0 zero refl) carries items took state far
aside_on shown z k now fresh s L records f cs at x n c t m d e y b more w false true zero echo p goes none alone heard event items took
    carries
    state far =
    let u = connection.told_of z w.dealt.going.logons k f t in
    aside_by shown z k now fresh s L records f cs at x n c t u (echo_due t) d e y b more w p goes none
    (of_echo z w.dealt.going.logons k f t echo) (other_status t zero echo)
    (no_create t.header.command 13 echo refl) carries items took state far
aside_on shown z k now fresh s L records f cs at x n c t m d e y b more w false false zero echo p goes none alone heard event items took
    carries state far =
    let h = with_event z w.dealt.going.logons k f t zero echo (no_cancel z w.dealt.going.logons k f t m heard) in
    let same : h.0 ≡ m = one_heard h.0 m (sym h.1 ∙ heard) in
    absurd (true_false (sym h.2 ∙ (ap (λ (q : model.Message). has_event q.command) same ∙ event)))

went_by : (shown : Showing) (z : ServerSettings) (k now : ℕ) (fresh : List ℕ) (s : model.Server) (L : Logons)
    (records : List model.Record) (f : ServerEnd) (cs : List hearing.Checked) (at : ℕ) (x : CheckedFrame) (n : Checked)
    (c t : hearing.Checked) (due : Option model.Message) (given : EventAnswer) (d e : Dealt) (y : Option related.Carry) (b : Carry)
    (more : List model.Record) (w : Owned) → Place f cs at x n c t → turn_of w.dealt.going.carried c ≡ Goes t → n.fails ≡ None → Alone cs
    → heard_message z w.dealt.going.logons k f t ≡ due
    → GivesIf shown z k now fresh w.dealt.going.server w.dealt.going.logons (records ++ more) f t due given
    → stop_in given ≡ None → lost_in given ≡ false
    → e.replies.items.items ≡ d.replies.items.items ++ event_listed given → e.took ≡ (d.took || takes n given) → RelatedCarries y t given b
    → DealtSoFar z k now fresh s L f cs at (at + 1) x d y more w
    → SoFarSteps shown z k now fresh s L records f cs (at + 1) x e (Ok (Some b))
went_by shown z k now fresh s L records f cs at x n c t None None d e y b more w p goes none alone heard gives stop kept items took carries
    far = (
      behind_none z k now fresh f w t,
      more,
      one_more z k now fresh s L f cs at x n c t d e y (Some (carry_of b)) more [] more [] w
          (behind_none z k now fresh f w t) p.checked p.here
          p.shows p.command (no_failure n.fails none) (append-nil more) (turn_none z k now fresh f w c t goes heard)
          (cancelled z k now fresh s L f cs at (at + 1) x n t d e y b more w heard p.shows.header items took carries far.facts) far,
      gives,
    )
went_by shown z k now fresh s L records f cs at x n c t None (Some r) d e y b more w p goes none alone heard gives stop kept items took
    carries far =
    absurd gives
went_by shown z k now fresh s L records f cs at x n c t (Some m) None d e y b more w p goes none alone heard gives stop kept items took
    carries far =
    aside_on shown z k now fresh s L records f cs at x n c t m d e y b more w (t.header.command == 0) (t.header.command == 13) refl
    refl p goes
    none alone heard gives.0 items took carries gives.1 far
went_by shown z k now fresh s L records f cs at x n c t (Some m) (Some (Ok r)) d e y b more w p goes none alone heard
    gives stop kept items took
    carries far =
    let A = answer_to w.dealt.going.server now m m.command in
    let v = behind_answer z k now fresh f w t m in (
      v,
      more ++ A.records,
      one_more z k now fresh s L f cs at x n c t d e y (Some (carry_of b)) more A.records (more ++ A.records)
          (None ∷ []) w v p.checked p.here
          p.shows p.command (no_failure n.fails none) refl (turn_answered z k now fresh f w c t m goes heard gives.0)
          (answered shown z k now fresh s L (records ++ more) f cs at (at + 1) x n t m r d e y b more w heard gives.0 none items took
          carries gives.1
          far.facts) far,
      subst (λ (l : List model.Record). shown v.dealt.going.server v.dealt.going.logons l) (append_assoc records more A.records)
          gives.1.state,
    )
went_by shown z k now fresh s L records f cs at x n c t (Some m) (Some (Err errors.Memory)) d e y b more w p goes none alone heard
    gives stop kept
    items took carries far =
    let q = gives.1 in
    let v = behind_lack f w t q.0 in (
      v,
      more ++ q.1,
      one_more z k now fresh s L f cs at x n c t d e y (Some (carry_of b)) more q.1 (more ++ q.1)
          (Some (Lacks q.0) ∷ []) w v p.checked p.here
          p.shows p.command (no_failure n.fails none) refl (turn_lacks z k now fresh f w c t m q.0 q.1 goes heard gives.0 q.2)
          (lacking z k now fresh s L f cs at (at + 1) x n t m d e y b more q.1 w q.0 heard gives.0 none items took carries far.facts) far,
      subst (λ (l : List model.Record). shown q.0 w.dealt.going.logons l) (append_assoc records more q.1) q.3,
    )
went_by shown z k now fresh s L records f cs at x n c t (Some m) (Some (Err (errors.Unanswered acted))) d e y b more w p goes none alone
    heard
    gives stop kept items took carries far =
    absurd cc
went_by shown z k now fresh s L records f cs at x n c t (Some m) (Some (Err (errors.Stopped count))) d e y b more w p goes none alone heard
    gives stop kept items took carries far =
    absurd cc

pub went_on : (shown : Showing) (z : ServerSettings) (k now : ℕ) (fresh : List ℕ) (s : model.Server) (L : Logons)
    (records : List model.Record) (f : ServerEnd) (cs : List hearing.Checked) (at : ℕ) (x : CheckedFrame) (n : Checked)
    (c t : hearing.Checked) (given : EventAnswer) (d e : Dealt) (y : Option related.Carry) (b : Carry)
    (more : List model.Record) (w : Owned) → Place f cs at x n c t → turn_of w.dealt.going.carried c ≡ Goes t → n.fails ≡ None → Alone cs
    → GivesFor shown z k now fresh w.dealt.going.server w.dealt.going.logons (records ++ more) f t given → stop_in given
    ≡ None → lost_in given ≡ false
    → e.replies.items.items ≡ d.replies.items.items ++ event_listed given → e.took ≡ (d.took || takes n given) → RelatedCarries y t given b
    → DealtSoFar z k now fresh s L f cs at (at + 1) x d y more w
    → SoFarSteps shown z k now fresh s L records f cs (at + 1) x e (Ok (Some b))
went_on shown z k now fresh s L records f cs at x n c t given d e y b more w p goes none alone gives stop kept items took carries far =
    went_by shown z k now fresh s L records f cs at x n c t (heard_message z w.dealt.going.logons k f t) given d e y b more w p goes
    none alone
    refl gives stop kept items took carries far

-- ---- the server stopped

or_none : (a : Bool) → (a || false) ≡ a
or_none true = refl
or_none false = refl

halted_at : (shown : Showing) (z : ServerSettings) (k now : ℕ) (fresh : List ℕ) (s : model.Server) (L : Logons)
    (records : List model.Record) (f : ServerEnd) (cs : List hearing.Checked) (at : ℕ) (x : CheckedFrame) (n : Checked)
    (c t : hearing.Checked) (m : model.Message) (count : ℕ) (d e : Dealt) (y : Option related.Carry) (more : List model.Record) (w : Owned)
    → Place f cs at x n c t → turn_of w.dealt.going.carried c ≡ Goes t → heard_message z w.dealt.going.logons k f t ≡ Some m
    → has_event m.command ≡ true → e.replies.items.items ≡ d.replies.items.items → e.took ≡ (d.took || false)
    → DealtSoFar z k now fresh s L f cs at (at + 1) x d y more w
    → SoFarSteps shown z k now fresh s L records f cs (at + 1) x e (Err (Stopped count))
halted_at shown z k now fresh s L records f cs at x n c t m count d e y more w p goes heard event items took far =
    let v = behind_stop w count in
    let begins : SoFarBegins z k now fresh s L f cs (at + 1) (more ++ []) v =
    begins_on z k now fresh s L f cs at c w v (Some (Halts count) ∷ []) more [] (more ++ []) p.checked far.facts.goes refl far.begins
    (turn_stops z k now fresh f w c t m count goes heard event) in
    let whole : take (at + 1) cs ++ drop (at + 1) cs ≡ cs = take-append-drop (at + 1) cs in (
      so_far_with_mishaps v [],
      record {
        mishaps = begins.mishaps ++ [];
        is = sym (sym (ap (λ (ds : List hearing.Checked). owned_all z k now fresh f (owning s L f (begins.mishaps ++ [])) ds) whole)
            ∙ (begins.is [] (drop (at + 1) cs) ∙ halts z k now fresh f (so_far_with_mishaps v []) count (drop (at + 1) cs) refl));
        left = subst (λ (ds : List hearing.Checked). LeaveAll z k now fresh f (owning s L f (begins.mishaps ++ [])) ds) whole
            (begins.left [] (drop (at + 1) cs) (all_left z k now fresh f (so_far_with_mishaps v []) (drop (at + 1) cs) refl));
        none_missing = far.facts.none_missing;
        none_left = refl;
        acted = far.facts.acted ∙ ap (λ (l : List (Result Reply ServeError)). some_acted l) (sym items);
        lacked = far.facts.lacked ∙ ap (λ (l : List (Result Reply ServeError)). some_lacked l) (sym items);
        took = far.facts.took ∙ sym (took ∙ or_none d.took);
      },
      refl,
    )

halted_by : (shown : Showing) (z : ServerSettings) (k now : ℕ) (fresh : List ℕ) (s : model.Server) (L : Logons)
    (records : List model.Record) (f : ServerEnd) (cs : List hearing.Checked) (at : ℕ) (x : CheckedFrame) (n : Checked)
    (c t : hearing.Checked) (due : Option model.Message) (given : EventAnswer) (count : ℕ) (d e : Dealt) (y : Option related.Carry)
    (more : List model.Record) (w : Owned) → Place f cs at x n c t → turn_of w.dealt.going.carried c ≡ Goes t
    → heard_message z w.dealt.going.logons k f t ≡ due
    → GivesIf shown z k now fresh w.dealt.going.server w.dealt.going.logons (records ++ more) f t due given → stop_in given ≡ Some count
    → e.replies.items.items ≡ d.replies.items.items → e.took ≡ (d.took || takes n given)
    → DealtSoFar z k now fresh s L f cs at (at + 1) x d y more w
    → SoFarSteps shown z k now fresh s L records f cs (at + 1) x e (Err (Stopped count))
halted_by shown z k now fresh s L records f cs at x n c t due None count d e y more w p goes heard gives stop items took far = absurd cc
halted_by shown z k now fresh s L records f cs at x n c t due (Some (Ok r)) count d e y more w p goes heard gives stop items took far =
    absurd cc
halted_by shown z k now fresh s L records f cs at x n c t due (Some (Err errors.Memory)) count d e y more w p goes heard gives stop
    items took far =
    absurd cc
halted_by shown z k now fresh s L records f cs at x n c t due (Some (Err (errors.Unanswered acted))) count d e y more w p goes heard gives
    stop items took far =
    absurd cc
halted_by shown z k now fresh s L records f cs at x n c t None (Some (Err (errors.Stopped q))) count d e y more w p goes heard gives
    stop items took far =
    absurd gives
halted_by shown z k now fresh s L records f cs at x n c t (Some m) (Some (Err (errors.Stopped q))) count d e y more w p goes heard gives
    stop items took far =
    halted_at shown z k now fresh s L records f cs at x n c t m count d e y more w p goes heard gives.0 items took far

pub halted : (shown : Showing) (z : ServerSettings) (k now : ℕ) (fresh : List ℕ) (s : model.Server) (L : Logons)
    (records : List model.Record) (f : ServerEnd) (cs : List hearing.Checked) (at : ℕ) (x : CheckedFrame) (n : Checked)
    (c t : hearing.Checked) (given : EventAnswer) (count : ℕ) (d e : Dealt) (y : Option related.Carry)
    (more : List model.Record) (w : Owned) → Place f cs at x n c t → turn_of w.dealt.going.carried c ≡ Goes t
    → GivesFor shown z k now fresh w.dealt.going.server w.dealt.going.logons (records ++ more) f t given → stop_in given ≡ Some count
    → e.replies.items.items ≡ d.replies.items.items → e.took ≡ (d.took || takes n given)
    → DealtSoFar z k now fresh s L f cs at (at + 1) x d y more w
    → SoFarSteps shown z k now fresh s L records f cs (at + 1) x e (Err (Stopped count))
halted shown z k now fresh s L records f cs at x n c t given count d e y more w p goes gives stop items took far =
    halted_by shown z k now fresh s L records f cs at x n c t (heard_message z w.dealt.going.logons k f t) given count d e y more w p
    goes refl
    gives stop items took far

-- ---- the event was carried out, and its reply is lost

lost_at : (shown : Showing) (z : ServerSettings) (k now : ℕ) (fresh : List ℕ) (s : model.Server) (L : Logons)
    (records : List model.Record) (f : ServerEnd) (cs : List hearing.Checked) (at : ℕ) (x : CheckedFrame) (n : Checked)
    (c t : hearing.Checked) (m : model.Message) (acted : Bool) (d e : Dealt) (y : Option related.Carry) (more : List model.Record)
    (w : Owned) → Place f cs at x n c t → turn_of w.dealt.going.carried c ≡ Goes t → heard_message z w.dealt.going.logons k f t ≡ Some m
    → has_event m.command ≡ true
    → LosesReply shown z k now fresh w.dealt.going.server w.dealt.going.logons (records ++ more) f t m acted
    → e.replies.items.items ≡ d.replies.items.items ++ Err (errors.Unanswered acted) ∷ [] → e.took ≡ (d.took || true)
    → DealtSoFar z k now fresh s L f cs at (at + 1) x d y more w → LosesOne shown z k now fresh s L records f cs e
lost_at shown z k now fresh s L records f cs at x n c t m acted d e y more w p goes heard event loses items took far =
    let A = answer_to w.dealt.going.server now m m.command in
    let v = behind_answer z k now fresh f w t m in
    let all = more ++ A.records in
    let ds = take (at + 1) cs in
    let begins : SoFarBegins z k now fresh s L f cs (at + 1) all v =
    begins_on z k now fresh s L f cs at c w v (None ∷ []) more A.records all p.checked far.facts.goes refl far.begins
    (turn_answered z k now fresh f w c t m goes heard event) in
    let facts = lost_to shown z k now fresh s L (records ++ more) f cs at (at + 1) x t m acted d e y more w items took loses far.facts in
    let within : at < length cs = checked_within cs at c p.checked in
    let whole : ds ++ [] ≡ ds = append-nil ds in
    record {
      count = at + 1;
      first = (omega arith, omega (arith, within));
      w = so_far_with_mishaps v [];
      deal = record {
        mishaps = begins.mishaps ++ [];
        is = sym (sym (ap (λ (l : List hearing.Checked). owned_all z k now fresh f (owning s L f (begins.mishaps ++ [])) l) whole)
            ∙ (begins.is [] [] ∙ all_done z k now fresh f (so_far_with_mishaps v [])));
        left = subst (λ (l : List hearing.Checked). LeaveAll z k now fresh f (owning s L f (begins.mishaps ++ [])) l) whole
            (begins.left [] [] (none_left z k now fresh f (so_far_with_mishaps v [])));
        none_missing = far.facts.none_missing;
        none_left = refl;
        acted = facts.acted;
        lacked = facts.lacked;
        took = facts.took;
      };
      leaves = record {
        goes = far.facts.goes;
        more = all;
        records_are = facts.records_are;
        written = subst (λ (l : List hearing.Checked). WriteAll z k now fresh f (owning s L f (begins.mishaps ++ [])) l all) whole
            (subst (λ (rs : List model.Record). WriteAll z k now fresh f (owning s L f (begins.mishaps ++ [])) (ds ++ []) rs)
            (append-nil all) (begins.written [] [] [] (none_written z k now fresh f (so_far_with_mishaps v []))));
        state = subst (λ (l : List model.Record). shown v.dealt.going.server v.dealt.going.logons l) (append_assoc records more A.records)
            loses.state;
      };
    }

lost_by_due : (shown : Showing) (z : ServerSettings) (k now : ℕ) (fresh : List ℕ) (s : model.Server) (L : Logons)
    (records : List model.Record) (f : ServerEnd) (cs : List hearing.Checked) (at : ℕ) (x : CheckedFrame) (n : Checked)
    (c t : hearing.Checked) (due : Option model.Message) (given : EventAnswer) (d e : Dealt) (y : Option related.Carry)
    (more : List model.Record) (w : Owned) → Place f cs at x n c t → turn_of w.dealt.going.carried c ≡ Goes t
    → heard_message z w.dealt.going.logons k f t ≡ due
    → GivesIf shown z k now fresh w.dealt.going.server w.dealt.going.logons (records ++ more) f t due given → lost_in given ≡ true
    → e.replies.items.items ≡ d.replies.items.items ++ event_listed given → e.took ≡ (d.took || takes n given)
    → DealtSoFar z k now fresh s L f cs at (at + 1) x d y more w → LosesOne shown z k now fresh s L records f cs e
lost_by_due shown z k now fresh s L records f cs at x n c t due None d e y more w p goes heard gives lost items took far = absurd cc
lost_by_due shown z k now fresh s L records f cs at x n c t due (Some (Ok r)) d e y more w p goes heard gives lost items took far =
    absurd cc
lost_by_due shown z k now fresh s L records f cs at x n c t due (Some (Err errors.Memory)) d e y more w p goes heard gives lost items
    took far =
    absurd cc
lost_by_due shown z k now fresh s L records f cs at x n c t due (Some (Err (errors.Stopped q))) d e y more w p goes heard gives lost items
    took far =
    absurd cc
lost_by_due shown z k now fresh s L records f cs at x n c t None (Some (Err (errors.Unanswered acted))) d e y more w p goes heard gives
    lost items took far =
    absurd gives
lost_by_due shown z k now fresh s L records f cs at x n c t (Some m) (Some (Err (errors.Unanswered acted))) d e y more w p goes heard
    gives lost items took far =
    lost_at shown z k now fresh s L records f cs at x n c t m acted d e y more w p goes heard gives.0 gives.1 items took far

pub halted_err : (shown : Showing) (z : ServerSettings) (k now : ℕ) (fresh : List ℕ) (s : model.Server) (L : Logons)
    (records : List model.Record) (f : ServerEnd) (cs : List hearing.Checked) (at : ℕ) (x : CheckedFrame) (n : Checked)
    (c t : hearing.Checked) (given : EventAnswer) (d e : Dealt) (y : Option related.Carry) (why : ConnEnd)
    (more : List model.Record) (w : Owned) → Place f cs at x n c t → turn_of w.dealt.going.carried c ≡ Goes t
    → GivesFor shown z k now fresh w.dealt.going.server w.dealt.going.logons (records ++ more) f t given
    → AddsTo {A = Carry} given d e (Err why) → e.took ≡ (d.took || takes n given)
    → DealtSoFar z k now fresh s L f cs at (at + 1) x d y more w
    → SoFarSteps shown z k now fresh s L records f cs (at + 1) x e (Err why)
halted_err shown z k now fresh s L records f cs at x n c t given d e y ends.BadFrame more w p goes gives adds took far = absurd adds
halted_err shown z k now fresh s L records f cs at x n c t given d e y (ends.OutsideWindow id) more w p goes gives adds took far =
    absurd adds
halted_err shown z k now fresh s L records f cs at x n c t given d e y ends.SecondNegotiate more w p goes gives adds took far = absurd adds
halted_err shown z k now fresh s L records f cs at x n c t given d e y ends.Unsealable more w p goes gives adds took far = absurd adds
halted_err shown z k now fresh s L records f cs at x n c t given d e y ends.Spent more w p goes gives adds took far = absurd adds
halted_err shown z k now fresh s L records f cs at x n c t given d e y ends.Full more w p goes gives adds took far = absurd adds
halted_err shown z k now fresh s L records f cs at x n c t given d e y (ends.LinkFault count) more w p goes gives adds took far =
    absurd adds
halted_err shown z k now fresh s L records f cs at x n c t given d e y (ends.Stopped count) more w p goes gives adds took far =
    halted shown z k now fresh s L records f cs at x n c t given count d e y more w p goes gives adds.0 adds.1 took far
halted_err shown z k now fresh s L records f cs at x n c t given d e y ends.Memory more w p goes gives adds took far =
    lost_by_due shown z k now fresh s L records f cs at x n c t (heard_message z w.dealt.going.logons k f t) given d e y more w p goes refl
    gives adds.0 adds.1 took far

-- ---- it fails with a CREATE before it

pub failing : (status k : ℕ) (o : Option ℕ) → o ≡ Some status → (status ≡ 0 → ⊥) → FailsAt o
failing status k o e h = subst (λ (q : Option ℕ). FailsAt q) (sym e) h

pub failed_on : (shown : Showing) (z : ServerSettings) (k now : ℕ) (fresh : List ℕ) (s : model.Server) (L : Logons)
    (records : List model.Record) (f : ServerEnd) (cs : List hearing.Checked) (at : ℕ) (x : CheckedFrame) (n : Checked)
    (c : hearing.Checked) (status : ℕ) (d : Dealt) (y : Option related.Carry) (more : List model.Record) (w : Owned)
    → Place f cs at x n c (failed_as w.dealt.going.carried c) → turn_of w.dealt.going.carried c ≡ Fails status → n.fails ≡ Some status
    → shown w.dealt.going.server w.dealt.going.logons (records ++ more) → DealtSoFar z k now fresh s L f cs at (at + 1) x d y more w
    → (v : Owned) × (rest : List model.Record) × DealtSoFar z k now fresh s L f cs (at + 1) (at + 1) x d y rest v
    × shown v.dealt.going.server v.dealt.going.logons (records ++ rest)
failed_on shown z k now fresh s L records f cs at x n c status d y more w p fails is state far =
    let v = behind_failed z k now fresh f w c status in
    let t = failed_as w.dealt.going.carried c in (
      v,
      more,
      one_more z k now fresh s L f cs at x n c t d d y y more [] more [] w v p.checked p.here p.shows p.command
          (failing status k n.fails is (no_success w.dealt.going.carried c status fails)) (append-nil more)
          (turn_failed z k now fresh f w c status fails)
          (failed z k now fresh s L f cs at (at + 1) x n c d y more w status fails is far.facts) far,
      state,
    )

-- ---- what becomes of it in code

-- a message that shows the definitions' is carried so
pub carried_so : (bytes : List ℕ) (m : Checked) (c : hearing.Checked) → ShowsGoing bytes m c → IsCarried m (message_in bytes m) c
carried_so bytes m c shows = record {
  header = shows.header;
  bytes_are = shows.bytes_are;
  fault = shows.fault;
  related = shows.related;
}

pub ready_goes : (z : ServerSettings) (k now : ℕ) (fresh : List ℕ) (s : model.Server) (L : Logons) (f : ServerEnd)
    (cs : List hearing.Checked) (at : ℕ) (old x : CheckedFrame) (m n : Checked) (c : hearing.Checked) (d : Dealt)
    (y : Option related.Carry) (more : List model.Record) (w : Owned) → SameOthers at old x → slice_get x.messages.items at ≡ Some n
    → slice_get cs at ≡ Some c → ShowsGoing old.bytes.items m c
    → Inherits (turn_of y c) true (failed_as y c) n (message_in x.bytes.items n) → n.span ≡ m.span → n.related ≡ m.related
    → Facts z k now fresh s L f cs at at old d y more w
    → (t : hearing.Checked) × Place f cs at x n c t × (turn_of w.dealt.going.carried c ≡ Goes t) × IsCarried n (message_in
    x.bytes.items n) t
    × (n.fails ≡ None)
ready_goes z k now fresh s L f cs at old x m n c d y more w others here is_c shows turn span link far =
    let p = goes_as (turn_of y c) (failed_as y c) n (message_in x.bytes.items n) turn in
    let keeps = goes_keeps y c p.0 p.1 in
    let same : w.dealt.going.carried ≡ y = far.carried_is (checked_within cs at c is_c) in (
      p.0,
      record {
        checked = is_c;
        here = here;
        shows = shows_new old.bytes.items x.bytes.items m n c p.0 shows keeps p.2 span link others.size;
        command = keeps.command;
      },
      ap (λ (o : Option related.Carry). turn_of o c) same ∙ p.1,
      p.2,
      p.3,
    )

pub ready_fails : (z : ServerSettings) (k now : ℕ) (fresh : List ℕ) (s : model.Server) (L : Logons) (f : ServerEnd)
    (cs : List hearing.Checked) (at : ℕ) (old x : CheckedFrame) (m n : Checked) (c : hearing.Checked) (d : Dealt)
    (y : Option related.Carry) (more : List model.Record) (w : Owned) → SameOthers at old x → slice_get x.messages.items at ≡ Some n
    → slice_get cs at ≡ Some c → ShowsGoing old.bytes.items m c
    → Inherits (turn_of y c) false (failed_as y c) n (message_in x.bytes.items n) → n.span ≡ m.span → n.related ≡ m.related
    → Facts z k now fresh s L f cs at at old d y more w
    → (status : ℕ) × Place f cs at x n c (failed_as w.dealt.going.carried c) × (turn_of w.dealt.going.carried c ≡ Fails status)
    × (n.fails ≡ Some status)
ready_fails z k now fresh s L f cs at old x m n c d y more w others here is_c shows turn span link far =
    let p = fails_as (turn_of y c) (failed_as y c) n (message_in x.bytes.items n) turn in
    let keeps = failed_keeps y c in
    let same : w.dealt.going.carried ≡ y = far.carried_is (checked_within cs at c is_c) in
    let place : Place f cs at x n c (failed_as y c) = record {
      checked = is_c;
      here = here;
      shows = shows_new old.bytes.items x.bytes.items m n c (failed_as y c) shows keeps p.2 span link others.size;
      command = keeps.command;
    } in (
      p.0,
      subst (λ (o : Option related.Carry). Place f cs at x n c (failed_as o c)) (sym same) place,
      ap (λ (o : Option related.Carry). turn_of o c) same ∙ p.1,
      p.3,
    )
