-- One message after the other, whatever befalls those behind it.
use Rattle.std.proofs.Common.{◌≡◌, ℕ, zero, suc, ◌+◌, Bool, true, false, if◌then◌else◌, List, [], ◌∷◌, ◌++◌, take, Option, Some, None}
use Rattle.std.proofs.Common.{slice_get, refl, sym, ap, subst, ◌∙◌, append_assoc, arith}
use Rattle.std.specs.Prelude.{is_some}
use Rattle.spec_exchange.specs.State as model
use Rattle.spec_exchange.specs.Network.{answer_to}
use Rattle.spec_exchange.specs.Status.{no_memory}
use Rattle.spec_world.specs.Ends.{ServerEnd, Logons}
use Rattle.spec_world.specs.Settings.{ServerSettings}
use Rattle.spec_world.specs.Hearing as hearing
use Rattle.spec_world.specs.Related.{Turn, Goes, Fails, turn_of}
use Rattle.spec_world.specs.Connection.{heard_message, went_by, went_heard, went_turn}
use Rattle.spec_world.specs.Given.{has_event, went_answered, went_refused}
use Rattle.spec_world.specs.Mishaps.{Mishap, Lacks, Halts, Owned, owning, owned_all, owned_turn, owned_heard, owned_aside, owned_next}
use Rattle.conn_core.specs.served.Serving.{LeftBy}
use Rattle.conn_core.proofs.served.Left.{as_before}
use Rattle.conn_core.specs.frame_events.SoFar.{SoFarBegins, so_far_with_mishaps}
use Rattle.conn_core.specs.frame_events.Written.{WriteAll, WritesHeard, WritesIt, WritesTurn}
use Rattle.spec_world.specs.Mishaps.{LeavesIt, LeavesNext, LeavesHeard, LeavesTurn, LeaveAll}

-- ---- lists

or_this : hearing.Checked → Option hearing.Checked → hearing.Checked
or_this d None = d
or_this d (Some c) = c

pub one_checked : (c d : hearing.Checked) → Some c ≡ Some d → c ≡ d
unfolding or_this
one_checked c d e = ap (λ (o : Option hearing.Checked). or_this c o) e

taken_on : (cs : List hearing.Checked) (i : ℕ) (c : hearing.Checked) → slice_get cs i ≡ Some c → take (suc i) cs ≡ take i cs ++ c ∷ []
taken_on [] zero c e = absurd cc
taken_on [] (suc i) c e = absurd cc
taken_on (x ∷ xs) zero c e = ap (λ (y : hearing.Checked). y ∷ []) (one_checked x c e)
taken_on (x ∷ xs) (suc i) c e = ap (λ (l : List hearing.Checked). x ∷ l) (taken_on xs i c e)

pub take_more : (cs : List hearing.Checked) (i : ℕ) (c : hearing.Checked) → slice_get cs i ≡ Some c → take (i + 1) cs ≡ take i cs ++ c ∷ []
take_more cs i c e =
    let next : i + 1 ≡ suc i = omega arith in
    ap (λ (n : ℕ). take n cs) next ∙ taken_on cs i c e

front_more : (cs : List hearing.Checked) (i : ℕ) (c : hearing.Checked) (rest : List hearing.Checked) → slice_get cs i ≡ Some c
    → take (i + 1) cs ++ rest ≡ take i cs ++ (c ∷ rest)
front_more cs i c rest e =
    ap (λ (l : List hearing.Checked). l ++ rest) (take_more cs i c e) ∙ append_assoc (take i cs) (c ∷ []) rest

-- ---- one turn: what it takes of the mishaps, the records that it writes, and what is behind it

pub record Turns (z : ServerSettings) (k now : ℕ) (fresh : List ℕ) (f : ServerEnd) (w : Owned) (c : hearing.Checked)
    (xs : List (Option Mishap)) (one : List model.Record) (v : Owned) : Type 0 where
  pub is : (later : List (Option Mishap)) → owned_turn z k now fresh f (so_far_with_mishaps w (xs ++ later)) c
      (turn_of w.dealt.going.carried c)
      ≡ so_far_with_mishaps v later
  pub left : (later : List (Option Mishap)) → LeavesTurn z k now f (so_far_with_mishaps w (xs ++ later)) (turn_of w.dealt.going.carried c)
  pub written : (later : List (Option Mishap)) → WritesTurn z k now f (so_far_with_mishaps w (xs ++ later))
      (turn_of w.dealt.going.carried c) one

one_on : (z : ServerSettings) (k now : ℕ) (fresh : List ℕ) (f : ServerEnd) (w : Owned) (c : hearing.Checked) (cs : List hearing.Checked)
    → w.dealt.stopped ≡ None
    → owned_all z k now fresh f w (c ∷ cs) ≡ owned_all z k now fresh f (owned_turn z k now fresh f w c (turn_of w.dealt.going.carried c)) cs
unfolding owned_all
one_on z k now fresh f w c cs goes =
    ap (λ (o : Option ℕ). if is_some o then w
    else owned_all z k now fresh f (owned_turn z k now fresh f w c (turn_of w.dealt.going.carried c)) cs) goes

one_left : (z : ServerSettings) (k now : ℕ) (fresh : List ℕ) (f : ServerEnd) (w : Owned) (c : hearing.Checked) (cs : List hearing.Checked)
    → LeavesTurn z k now f w (turn_of w.dealt.going.carried c)
    → LeaveAll z k now fresh f (owned_turn z k now fresh f w c (turn_of w.dealt.going.carried c)) cs → LeaveAll z k now fresh f w (c ∷ cs)
unfolding LeaveAll
one_left z k now fresh f w c cs here rest = (here, rest)

one_written : (z : ServerSettings) (k now : ℕ) (fresh : List ℕ) (f : ServerEnd) (w : Owned) (c : hearing.Checked)
    (cs : List hearing.Checked) (one after : List model.Record) → WritesTurn z k now f w (turn_of w.dealt.going.carried c) one
    → WriteAll z k now fresh f (owned_turn z k now fresh f w c (turn_of w.dealt.going.carried c)) cs after
    → WriteAll z k now fresh f w (c ∷ cs) (one ++ after)
unfolding WriteAll
one_written z k now fresh f w c cs one after here rest = (one, after, here, rest, refl)

pub begins_on : (z : ServerSettings) (k now : ℕ) (fresh : List ℕ) (s : model.Server) (L : Logons) (f : ServerEnd)
    (cs : List hearing.Checked) (at : ℕ) (c : hearing.Checked) (w v : Owned) (xs : List (Option Mishap)) (more one all : List model.Record)
    → slice_get cs at ≡ Some c → w.dealt.stopped ≡ None → more ++ one ≡ all → SoFarBegins z k now fresh s L f cs at more w
    → Turns z k now fresh f w c xs one v → SoFarBegins z k now fresh s L f cs (at + 1) all v
begins_on z k now fresh s L f cs at c w v xs more one all here goes sum b t = record {
  mishaps = b.mishaps ++ xs;
  is = λ later rest.
      ap (λ (l : List (Option Mishap)). owned_all z k now fresh f (owning s L f l) (take (at + 1) cs ++ rest))
      (append_assoc b.mishaps xs later)
      ∙ (ap (λ (ds : List hearing.Checked). owned_all z k now fresh f (owning s L f (b.mishaps ++ (xs ++ later))) ds)
      (front_more cs at c rest here)
      ∙ (b.is (xs ++ later) (c ∷ rest)
      ∙ (one_on z k now fresh f (so_far_with_mishaps w (xs ++ later)) c rest goes
      ∙ ap (λ (u : Owned). owned_all z k now fresh f u rest) (t.is later))));
  left = λ later rest behind.
      subst (λ (l : List (Option Mishap)). LeaveAll z k now fresh f (owning s L f l) (take (at + 1) cs ++ rest))
      (sym (append_assoc b.mishaps xs later))
      (subst (λ (ds : List hearing.Checked). LeaveAll z k now fresh f (owning s L f (b.mishaps ++ (xs ++ later))) ds)
      (sym (front_more cs at c rest here))
      (b.left (xs ++ later) (c ∷ rest)
      (one_left z k now fresh f (so_far_with_mishaps w (xs ++ later)) c rest (t.left later)
      (subst (λ (u : Owned). LeaveAll z k now fresh f u rest) (sym (t.is later)) behind))));
  written = λ later rest after behind.
      subst (λ (l : List (Option Mishap)). WriteAll z k now fresh f (owning s L f l) (take (at + 1) cs ++ rest) (all ++ after))
      (sym (append_assoc b.mishaps xs later))
      (subst (λ (ds : List hearing.Checked). WriteAll z k now fresh f (owning s L f (b.mishaps ++ (xs ++ later))) ds (all ++ after))
      (sym (front_more cs at c rest here))
      (subst (λ (rs : List model.Record). WriteAll z k now fresh f (owning s L f (b.mishaps ++ (xs ++ later)))
      (take at cs ++ (c ∷ rest)) rs)
      (sym (append_assoc more one after) ∙ ap (λ (rs : List model.Record). rs ++ after) sum)
      (b.written (xs ++ later) (c ∷ rest) (one ++ after)
      (one_written z k now fresh f (so_far_with_mishaps w (xs ++ later)) c rest one after (t.written later)
      (subst (λ (u : Owned). WriteAll z k now fresh f u rest after) (sym (t.is later)) behind)))));
}

-- ---- behind a stop

pub halts : (z : ServerSettings) (k now : ℕ) (fresh : List ℕ) (f : ServerEnd) (v : Owned) (count : ℕ) (cs : List hearing.Checked)
    → v.dealt.stopped ≡ Some count → owned_all z k now fresh f v cs ≡ v
unfolding owned_all
halts z k now fresh f v count [] e = refl
halts z k now fresh f v count (c ∷ cs) e =
    ap (λ (o : Option ℕ). if is_some o then v
    else owned_all z k now fresh f (owned_turn z k now fresh f v c (turn_of v.dealt.going.carried c)) cs) e

pub all_done : (z : ServerSettings) (k now : ℕ) (fresh : List ℕ) (f : ServerEnd) (v : Owned) → owned_all z k now fresh f v [] ≡ v
unfolding owned_all
all_done z k now fresh f v = refl

pub none_left : (z : ServerSettings) (k now : ℕ) (fresh : List ℕ) (f : ServerEnd) (v : Owned) → LeaveAll z k now fresh f v []
unfolding LeaveAll
none_left z k now fresh f v = tt

pub none_written : (z : ServerSettings) (k now : ℕ) (fresh : List ℕ) (f : ServerEnd) (v : Owned) → WriteAll z k now fresh f v [] []
unfolding WriteAll
none_written z k now fresh f v = refl

next_kept : (z : ServerSettings) (k now : ℕ) (fresh : List ℕ) (f : ServerEnd) (w : Owned) (c : hearing.Checked) (m : model.Message)
    (l : List (Option Mishap)) → l ≡ [] → w.mishaps ≡ [] → (owned_next z k now fresh f w c m l).mishaps ≡ []
next_kept z k now fresh f w c m [] e none = none
next_kept z k now fresh f w c m (x ∷ xs) e none = absurd cc

event_kept : (z : ServerSettings) (k now : ℕ) (fresh : List ℕ) (f : ServerEnd) (w : Owned) (c : hearing.Checked) (m : model.Message)
    (b : Bool) → w.mishaps ≡ []
    → (if b then owned_next z k now fresh f w c m w.mishaps else owned_aside z k now fresh f w c (Some m)).mishaps ≡ []
event_kept z k now fresh f w c m true none = next_kept z k now fresh f w c m w.mishaps none none
event_kept z k now fresh f w c m false none = none

heard_kept : (z : ServerSettings) (k now : ℕ) (fresh : List ℕ) (f : ServerEnd) (w : Owned) (c : hearing.Checked)
    (o : Option model.Message) → w.mishaps ≡ [] → (owned_heard z k now fresh f w c o).mishaps ≡ []
heard_kept z k now fresh f w c None none = none
heard_kept z k now fresh f w c (Some m) none = event_kept z k now fresh f w c m (has_event m.command) none

turn_kept : (z : ServerSettings) (k now : ℕ) (fresh : List ℕ) (f : ServerEnd) (w : Owned) (c : hearing.Checked) (t : Turn)
    → w.mishaps ≡ [] → (owned_turn z k now fresh f w c t).mishaps ≡ []
turn_kept z k now fresh f w c (Goes d) none = heard_kept z k now fresh f w d (heard_message z w.dealt.going.logons k f d) none
turn_kept z k now fresh f w c (Fails status) none = none

heard_leaves : (w : Owned) (now : ℕ) (o : Option model.Message) → w.mishaps ≡ [] → LeavesHeard w now o
heard_leaves w now None none = tt
heard_leaves w now (Some m) none = λ event. subst (λ (l : List (Option Mishap)). LeavesNext w now m l) (sym none) tt

turn_leaves : (z : ServerSettings) (k now : ℕ) (f : ServerEnd) (w : Owned) (t : Turn) → w.mishaps ≡ [] → LeavesTurn z k now f w t
turn_leaves z k now f w (Goes d) none = heard_leaves w now (heard_message z w.dealt.going.logons k f d) none
turn_leaves z k now f w (Fails status) none = tt

pub all_left : (z : ServerSettings) (k now : ℕ) (fresh : List ℕ) (f : ServerEnd) (w : Owned) (cs : List hearing.Checked) → w.mishaps ≡ []
    → LeaveAll z k now fresh f w cs
all_left z k now fresh f w [] none = none_left z k now fresh f w
all_left z k now fresh f w (c ∷ cs) none =
    one_left z k now fresh f w c cs (turn_leaves z k now f w (turn_of w.dealt.going.carried c) none)
    (all_left z k now fresh f (owned_turn z k now fresh f w c (turn_of w.dealt.going.carried c)) cs
    (turn_kept z k now fresh f w c (turn_of w.dealt.going.carried c) none))

-- ---- a message that fails with a CREATE before it

abbrev pub behind_failed : ServerSettings → ℕ → ℕ → List ℕ → ServerEnd → Owned → hearing.Checked → ℕ → Owned
behind_failed z k now fresh f w c status = record w {
  dealt = record w.dealt {
    going = went_turn z k now fresh f w.dealt.going c (Fails
        status);
  };
}

pub turn_failed : (z : ServerSettings) (k now : ℕ) (fresh : List ℕ) (f : ServerEnd) (w : Owned) (c : hearing.Checked) (status : ℕ)
    → turn_of w.dealt.going.carried c ≡ Fails status → Turns z k now fresh f w c [] [] (behind_failed z k now fresh f w c status)
turn_failed z k now fresh f w c status e = record {
  is = λ later. ap (λ (t : Turn). owned_turn z k now fresh f (so_far_with_mishaps w later) c t) e;
  left = λ later. subst (λ (t : Turn). LeavesTurn z k now f (so_far_with_mishaps w later) t) (sym e) tt;
  written = λ later. subst (λ (t : Turn). WritesTurn z k now f (so_far_with_mishaps w later) t []) (sym e) refl;
}

-- ---- one that goes its way without an event

abbrev pub behind_none : ServerSettings → ℕ → ℕ → List ℕ → ServerEnd → Owned → hearing.Checked → Owned
behind_none z k now fresh f w d = record w { dealt = record w.dealt { going = went_heard z k now fresh f w.dealt.going d None } }

pub turn_none : (z : ServerSettings) (k now : ℕ) (fresh : List ℕ) (f : ServerEnd) (w : Owned) (c d : hearing.Checked)
    → turn_of w.dealt.going.carried c ≡ Goes d → heard_message z w.dealt.going.logons k f d ≡ None
    → Turns z k now fresh f w c [] [] (behind_none z k now fresh f w d)
turn_none z k now fresh f w c d e heard = record {
  is = λ later.
      ap (λ (t : Turn). owned_turn z k now fresh f (so_far_with_mishaps w later) c t) e
      ∙ ap (λ (o : Option model.Message). owned_heard z k now fresh f (so_far_with_mishaps w later) d o) heard;
  left = λ later.
      subst (λ (t : Turn). LeavesTurn z k now f (so_far_with_mishaps w later) t) (sym e)
      (subst (λ (o : Option model.Message). LeavesHeard (so_far_with_mishaps w later) now o) (sym heard) tt);
  written = λ later.
      subst (λ (t : Turn). WritesTurn z k now f (so_far_with_mishaps w later) t []) (sym e)
      (subst (λ (o : Option model.Message). WritesHeard (so_far_with_mishaps w later) now o []) (sym heard) refl);
}

-- behind the step's own answer
abbrev pub behind_answer : ServerSettings → ℕ → ℕ → List ℕ → ServerEnd → Owned → hearing.Checked → model.Message → Owned
behind_answer z k now fresh f w d m = record w {
  dealt = record w.dealt {
    going = went_by z k now fresh f w.dealt.going d m (answer_to w.dealt.going.server now m m.command);
  };
}

no_event : (a : Bool) → a ≡ false → a ≡ true → ⊥
no_event true e f = absurd cc
no_event false e f = absurd cc

pub turn_aside : (z : ServerSettings) (k now : ℕ) (fresh : List ℕ) (f : ServerEnd) (w : Owned) (c d : hearing.Checked) (m : model.Message)
    → turn_of w.dealt.going.carried c ≡ Goes d → heard_message z w.dealt.going.logons k f d ≡ Some m → has_event m.command ≡ false
    → Turns z k now fresh f w c [] [] (behind_answer z k now fresh f w d m)
turn_aside z k now fresh f w c d m e heard event = record {
  is = λ later.
      ap (λ (t : Turn). owned_turn z k now fresh f (so_far_with_mishaps w later) c t) e
      ∙ (ap (λ (o : Option model.Message). owned_heard z k now fresh f (so_far_with_mishaps w later) d o) heard
      ∙ ap (λ (b : Bool). if b then owned_next z k now fresh f (so_far_with_mishaps w later) d m later
      else owned_aside z k now fresh f (so_far_with_mishaps w later) d (Some m)) event);
  left = λ later.
      subst (λ (t : Turn). LeavesTurn z k now f (so_far_with_mishaps w later) t) (sym e)
      (subst (λ (o : Option model.Message). LeavesHeard (so_far_with_mishaps w later) now o) (sym heard)
      (λ yes. absurd (no_event (has_event m.command) event yes)));
  written = λ later.
      subst (λ (t : Turn). WritesTurn z k now f (so_far_with_mishaps w later) t []) (sym e)
      (subst (λ (o : Option model.Message). WritesHeard (so_far_with_mishaps w later) now o []) (sym heard)
      (λ yes. absurd (no_event (has_event m.command) event yes), λ no. refl));
}

-- ---- one with an event

event_left : (z : ServerSettings) (k now : ℕ) (f : ServerEnd) (w : Owned) (c d : hearing.Checked) (m : model.Message) (x : Option Mishap)
    → turn_of w.dealt.going.carried c ≡ Goes d → heard_message z w.dealt.going.logons k f d ≡ Some m
    → LeavesIt w.dealt.going.server now m x → (later : List (Option Mishap))
    → LeavesTurn z k now f (so_far_with_mishaps w (x ∷ later)) (turn_of w.dealt.going.carried c)
event_left z k now f w c d m x e heard leaves later =
    subst (λ (t : Turn). LeavesTurn z k now f (so_far_with_mishaps w (x ∷ later)) t) (sym e)
    (subst (λ (o : Option model.Message). LeavesHeard (so_far_with_mishaps w (x ∷ later)) now o) (sym heard) (λ yes. leaves))

event_written : (z : ServerSettings) (k now : ℕ) (f : ServerEnd) (w : Owned) (c d : hearing.Checked) (m : model.Message)
    (x : Option Mishap) (one : List model.Record) → turn_of w.dealt.going.carried c ≡ Goes d
    → heard_message z w.dealt.going.logons k f d ≡ Some m → has_event m.command ≡ true → WritesIt w.dealt.going.server now m x one
    → (later : List (Option Mishap)) → WritesTurn z k now f (so_far_with_mishaps w (x ∷ later)) (turn_of w.dealt.going.carried c) one
event_written z k now f w c d m x one e heard event writes later =
    subst (λ (t : Turn). WritesTurn z k now f (so_far_with_mishaps w (x ∷ later)) t one) (sym e)
    (subst (λ (o : Option model.Message). WritesHeard (so_far_with_mishaps w (x ∷ later)) now o one) (sym heard)
    (λ yes. writes, λ no. absurd (no_event (has_event m.command) no event)))

to_next : (z : ServerSettings) (k now : ℕ) (fresh : List ℕ) (f : ServerEnd) (w : Owned) (c d : hearing.Checked) (m : model.Message)
    (x : Option Mishap) → turn_of w.dealt.going.carried c ≡ Goes d → heard_message z w.dealt.going.logons k f d ≡ Some m
    → has_event m.command ≡ true → (later : List (Option Mishap))
    → owned_turn z k now fresh f (so_far_with_mishaps w (x ∷ later)) c (turn_of w.dealt.going.carried c)
    ≡ owned_next z k now fresh f (so_far_with_mishaps w (x ∷ later)) d m (x ∷ later)
to_next z k now fresh f w c d m x e heard event later =
    ap (λ (t : Turn). owned_turn z k now fresh f (so_far_with_mishaps w (x ∷ later)) c t) e
    ∙ (ap (λ (o : Option model.Message). owned_heard z k now fresh f (so_far_with_mishaps w (x ∷ later)) d o) heard
    ∙ ap (λ (b : Bool). if b then owned_next z k now fresh f (so_far_with_mishaps w (x ∷ later)) d m (x ∷ later)
    else owned_aside z k now fresh f (so_far_with_mishaps w (x ∷ later)) d (Some m)) event)

pub turn_answered : (z : ServerSettings) (k now : ℕ) (fresh : List ℕ) (f : ServerEnd) (w : Owned) (c d : hearing.Checked)
    (m : model.Message) → turn_of w.dealt.going.carried c ≡ Goes d → heard_message z w.dealt.going.logons k f d ≡ Some m
    → has_event m.command ≡ true
    → Turns z k now fresh f w c (None ∷ []) (answer_to w.dealt.going.server now m m.command).records (behind_answer z k now fresh f w d m)
turn_answered z k now fresh f w c d m e heard event = record {
  is = λ later.
      to_next z k now fresh f w c d m None e heard event later
      ∙ ap (λ (o : Option model.Message). record w {
        dealt = record w.dealt {
          going = went_answered z k now fresh f w.dealt.going d o (answer_to w.dealt.going.server now m m.command);
        };
        mishaps = later;
      }) heard;
  left = event_left z k now f w c d m None e heard tt;
  written = event_written z k now f w c d m None (answer_to w.dealt.going.server now m m.command).records e heard event refl;
}

abbrev pub behind_lack : ServerEnd → Owned → hearing.Checked → model.Server → Owned
behind_lack f w d t = record w {
  dealt = record w.dealt { going = record (went_refused f w.dealt.going d no_memory) { server = t }; lacked = true };
}

pub turn_lacks : (z : ServerSettings) (k now : ℕ) (fresh : List ℕ) (f : ServerEnd) (w : Owned) (c d : hearing.Checked) (m : model.Message)
    (t : model.Server) (one : List model.Record) → turn_of w.dealt.going.carried c ≡ Goes d
    → heard_message z w.dealt.going.logons k f d ≡ Some m → has_event m.command ≡ true
    → LeftBy w.dealt.going.server now (model.Heard m) t one → Turns z k now fresh f w c (Some (Lacks t) ∷ []) one (behind_lack f w d t)
turn_lacks z k now fresh f w c d m t one e heard event leaves = record {
  is = to_next z k now fresh f w c d m (Some (Lacks t)) e heard event;
  left = event_left z k now f w c d m (Some (Lacks t)) e heard (as_before w.dealt.going.server now (model.Heard m) t one leaves);
  written = event_written z k now f w c d m (Some (Lacks t)) one e heard event leaves;
}

abbrev pub behind_stop : Owned → ℕ → Owned
behind_stop w count = record w { dealt = record w.dealt { stopped = Some count } }

pub turn_stops : (z : ServerSettings) (k now : ℕ) (fresh : List ℕ) (f : ServerEnd) (w : Owned) (c d : hearing.Checked) (m : model.Message)
    (count : ℕ) → turn_of w.dealt.going.carried c ≡ Goes d → heard_message z w.dealt.going.logons k f d ≡ Some m
    → has_event m.command ≡ true → Turns z k now fresh f w c (Some (Halts count) ∷ []) [] (behind_stop w count)
turn_stops z k now fresh f w c d m count e heard event = record {
  is = to_next z k now fresh f w c d m (Some (Halts count)) e heard event;
  left = event_left z k now f w c d m (Some (Halts count)) e heard tt;
  written = event_written z k now f w c d m (Some (Halts count)) [] e heard event refl;
}
