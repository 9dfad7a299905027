-- In a repeat run the last message of a dialog that waits for its session's final response names the sessions that the client knows.
use Rattle.std.proofs.Common.{◌≡◌, ℕ, ◌==◌, true, false, List, [], ◌∷◌, refl, sym, ap, ◌∙◌, subst, eqb-true, Option, Some, None, slice_get}
use Rattle.law_server.proofs.tables.Logic.{either}
use Rattle.spec_exchange.specs.Client.{Client, Stage, SaidFirst, SaidSecond, AskedTree}
use Rattle.spec_world.specs.Settings.{WorldSettings}
use Rattle.spec_world.specs.World.{World}
use Rattle.spec_hostile.specs.RepeatRuns.{RepeatWorld, RepeatEvent, Same, Give, UpFrame, DownFrame, uses_no_list, own_connection, same_done}
use Rattle.spec_hostile.specs.RepeatRuns.{is_served, is_heard, given_up, given_down, give_up, give_down, repeat_happens, repeat_run, repeat_start}
use Rattle.law_ties.specs.channel_numbers.Counted.{Counted, makes_new}
use Rattle.law_ties.proofs.channel_numbers.Runs.{start_counted}
use Rattle.law_hostile.specs.empties.Empties.{HasEmptyLists}
use Rattle.law_hostile.specs.ended.Requests.{NamesSession, LastNames, DialogsNameSessions}
use Rattle.law_hostile.proofs.dialogs.Counting.{event_counted, channels_counted}
use Rattle.law_hostile.proofs.ids.Rising.{never_apart}
use Rattle.law_hostile.proofs.empties.Runs.{event_empties, start_empties}
use Rattle.law_hostile.proofs.ended.Turns.{SameNames, Rests, Goes, Ends, Turn, IsStill, GoesOnTo, IsAccepted}
use Rattle.law_hostile.proofs.ended.Naming.{same_rests, up_rests, down_turns}

abbrev pub AllNamed : World → Type 0
AllNamed w =
    (j : ℕ) → w.values.client.stage j ≡ SaidSecond false → (w.wires j).client_end.stage ≡ SaidSecond false
    → LastNames w.values.client (w.wires j).client_end.transcript

names_moved : (c d : Client) (x y : List (List ℕ)) → SameNames c d → y ≡ x → LastNames c x → LastNames d y
names_moved c d x y n e h =
    record {
      front = h.front;
      last = h.last;
      texts_are = e ∙ h.texts_are;
      named = subst (λ s. NamesSession h.last s d.accepted) (sym n.pending) (subst (λ s. NamesSession h.last c.pending s) (sym n.accepted) h.named);
    }

rests_named : (w u : World) (k : ℕ) → Rests w u k → AllNamed w → AllNamed u
rests_named w u k r all j s t =
    let n = r.names in
    let a = r.talked j t in
    names_moved w.values.client u.values.client (w.wires j).client_end.transcript (u.wires j).client_end.transcript n a.0
    (all j (n.seconds j s) a.1)

-- no other dialog makes a session
one_makes : (w : World) (j k : ℕ) (s t : Stage) → Counted w → makes_new s ≡ true → makes_new t ≡ true → w.values.client.stage j ≡ s
    → w.values.client.stage k ≡ t → j ≡ k
one_makes w j k s t i m n e f =
    let a = i.making j (ap makes_new e ∙ m) in
    let b = i.making k (ap makes_new f ∙ n) in
    let q : Some j ≡ Some k = sym a ∙ b in
    cc

by_place : (P : ℕ → Type 0) (k : ℕ) → P k → ((j : ℕ) → (j == k) ≡ false → P j) → (j : ℕ) → P j
by_place P k here there j = elim (j == k) as (λ b. j == k ≡ b → P j) [
  | true ↦ λ e. subst P (sym (eqb-true j k e)) here
  | false ↦ λ e. there j e
] refl

not_off : (j k : ℕ) (X : Type 0) → (j == k) ≡ false → j ≡ k → X
not_off j k X off e = never_apart k X (ap (λ i. i == k) (sym e) ∙ off)

goes_named : (w u : World) (k : ℕ) (frame : List ℕ) → Counted w → is_heard w k ≡ true → Goes w u k frame → AllNamed u
goes_named w u k frame i on g =
    by_place (λ j. u.values.client.stage j ≡ SaidSecond false → (u.wires j).client_end.stage ≡ SaidSecond false
    → LastNames u.values.client (u.wires j).client_end.transcript) k
    (λ s t. record { front = g.front; last = g.last; texts_are = g.transcript; named = g.named })
    (λ j off s t. not_off j k _ off (one_makes w j k (SaidSecond false) (SaidFirst false) i refl refl (sym (g.stages j off) ∙ s)
    (sym (i.stages k on) ∙ g.stage)))

ends_named : (z : WorldSettings) (w u : World) (k : ℕ) (frame : List ℕ) → Counted w → is_heard w k ≡ true → Ends z w u k frame → AllNamed u
ends_named z w u k frame i on g =
    by_place (λ j. u.values.client.stage j ≡ SaidSecond false → (u.wires j).client_end.stage ≡ SaidSecond false
    → LastNames u.values.client (u.wires j).client_end.transcript) k
    (λ s t. absurd (let q : AskedTree ≡ SaidSecond false = sym g.behind ∙ t in cc))
    (λ j off s t. not_off j k _ off (one_makes w j k (SaidSecond false) (SaidSecond false) i refl refl (sym (g.stages j off) ∙ s)
    (sym (i.stages k on) ∙ g.stage)))

turn_named : (z : WorldSettings) (w u : World) (k : ℕ) (frame : List ℕ) → Counted w → is_heard w k ≡ true → Turn z w u k frame → AllNamed w
    → AllNamed u
turn_named z w u k frame i on (IsStill r) all = rests_named w u k r all
turn_named z w u k frame i on (GoesOnTo g) all = goes_named w u k frame i on g
turn_named z w u k frame i on (IsAccepted g) all = ends_named z w u k frame i on g

-- ---- an event, and a run

give_up_named : (z : WorldSettings) (r : RepeatWorld) (k : ℕ) (o : Option UpFrame) → AllNamed r.world → AllNamed (give_up z r k o).world
give_up_named z r k None all = all
give_up_named z r k (Some u) all =
    either (λ (v : RepeatWorld). AllNamed v.world) (is_served r.world k) (given_up z r k u) r
    (λ on. rests_named r.world (given_up z r k u).world k (up_rests z r k u on).0 all) (λ _. all)

give_down_named : (z : WorldSettings) (r : RepeatWorld) (k : ℕ) (o : Option DownFrame) → Counted r.world → AllNamed r.world
    → AllNamed (give_down z r k o).world
give_down_named z r k None i all = all
give_down_named z r k (Some d) i all =
    either (λ (v : RepeatWorld). AllNamed v.world) (is_heard r.world k) (given_down z r k d) r
    (λ on. turn_named z r.world (given_down z r k d).world k d.frame i on (down_turns z r k d).0 all) (λ _. all)

pub event_named : (z : WorldSettings) (r : RepeatWorld) (e : RepeatEvent) → Counted r.world → HasEmptyLists r.world → AllNamed r.world
    → AllNamed (repeat_happens z r e).world
event_named z r (Same e) i empties all =
    either (λ (v : RepeatWorld). AllNamed v.world) (uses_no_list e) (same_done z r e) r
    (λ s. rests_named r.world (same_done z r e).world (own_connection e) (same_rests z r e s (empties.up (own_connection e))).0 all) (λ _. all)
event_named z r (Give k true place) i empties all = give_up_named z r k (slice_get r.ups place) all
event_named z r (Give k false place) i empties all = give_down_named z r k (slice_get r.downs place) i all

run_named : (z : WorldSettings) (es : List RepeatEvent) (r : RepeatWorld) → Counted r.world → HasEmptyLists r.world → AllNamed r.world
    → AllNamed (repeat_run z es r).world
unfolding repeat_run
run_named z [] r i empties all = all
run_named z (e ∷ es) r i empties all =
    run_named z es (repeat_happens z r e) (event_counted z r e i) (event_empties z r e empties) (event_named z r e i empties all)

pub start_named : (z : WorldSettings) → AllNamed (repeat_start z).world
start_named z j s t = absurd (cc)

pub dialogs_name_sessions : DialogsNameSessions
dialogs_name_sessions z es k on at =
    let i = channels_counted z es in
    run_named z es (repeat_start z) (start_counted z) (start_empties z) (start_named z) k (sym (i.stages k on) ∙ at) at
