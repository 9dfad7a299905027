-- Along a repeat run the client's channels are counted as in any run.
use Rattle.std.proofs.Common.{◌≡◌, ℕ, Bool, true, false, List, [], ◌∷◌, refl, sym, ◌∙◌, ap, Option, Some, None}
use Rattle.std.proofs.Common.{slice_get}
use Rattle.law_server.proofs.tables.Logic.{either}
use Rattle.law_nonces.proofs.negotiation.Tables.{by_key, put_other}
use Rattle.spec_exchange.specs.Network.{Conn, Sent, Event, Serve, Take, is_possible}
use Rattle.spec_world.specs.Settings.{WorldSettings}
use Rattle.spec_world.specs.Ends.{ConnEnd}
use Rattle.spec_world.specs.Connection.{ConnectionStep}
use Rattle.spec_world.specs.World.{World, Wires, serve_frame, served_by, served_mutely, dropped_wires, step_at}
use Rattle.spec_world.specs.Events.{Plain, bytes_happen, bytes_changed, bytes_later}
use Rattle.law_ties.specs.channel_numbers.Counted.{Counted}
use Rattle.law_ties.proofs.channel_numbers.Moves.{Unmoved, unmoved, remembered}
use Rattle.law_ties.proofs.channel_numbers.Quiet.{same, one_unmoved, later_unmoved, served_unmoved, mutely_unmoved, dropped_unmoved}
use Rattle.law_ties.proofs.channel_numbers.Runs.{happen_next, start_counted}
use Rattle.spec_hostile.specs.RepeatRuns.{RepeatWorld, RepeatEvent, Same, Give, UpFrame, DownFrame, lists_as, loaded_up, loaded_down, is_heard}
use Rattle.spec_hostile.specs.RepeatRuns.{is_served, own_connection, uses_no_list, same_done, given_up, given_down, give_up, give_down}
use Rattle.spec_hostile.specs.RepeatRuns.{repeat_happens, repeat_run, repeat_start, sents, receiveds}
use Rattle.law_hostile.specs.dialogs.OwnDialogs.{ChannelsAreCounted}

-- ---- worlds between which nothing of it changes

nothing : (w : World) → Unmoved w w
nothing w = record {
  live = refl;
  making = refl;
  ready = λ k. refl;
  stage = λ k. refl;
  is_open = λ k. refl;
  end_stage = λ k. refl;
  channel = λ k. refl;
  ends = λ k. refl;
  numbers = refl;
  accepted = refl;
}

then_unmoved : (w v f : World) → Unmoved w v → Unmoved v f → Unmoved w f
then_unmoved w v f a b = record {
  live = b.live ∙ a.live;
  making = b.making ∙ a.making;
  ready = λ k. b.ready k ∙ a.ready k;
  stage = λ k. b.stage k ∙ a.stage k;
  is_open = λ k. b.is_open k ∙ a.is_open k;
  end_stage = λ k. b.end_stage k ∙ a.end_stage k;
  channel = λ k. b.channel k ∙ a.channel k;
  ends = λ k. b.ends k ∙ a.ends k;
  numbers = b.numbers ∙ a.numbers;
  accepted = b.accepted ∙ a.accepted;
}

lists_unmoved : (w : World) (k : ℕ) (us : List UpFrame) (ds : List DownFrame) (heard : Bool) → heard ≡ is_heard w k
    → Unmoved w (lists_as w k us ds heard)
lists_unmoved w k us ds heard e =
    one_unmoved w (lists_as w k us ds heard) k _ _ (same w.values.client) refl refl refl refl e refl refl refl

by_end : (w : World) (k : ℕ) (bs : List (List ℕ)) (xs : List Sent) (x : Sent) (S : ConnectionStep) (o : Option ConnEnd)
    → Unmoved w (served_by w k bs xs x.token S o)
by_end w k bs xs x S None = served_unmoved w k bs xs x.token S
by_end w k bs xs x S (Some why) =
    let v = served_mutely w k bs xs x.token S in
    then_unmoved w v (dropped_wires v k) (mutely_unmoved w k bs xs x.token S) (dropped_unmoved v k)

serve_unmoved : (z : WorldSettings) (w : World) (k : ℕ) (bs : List (List ℕ)) (xs : List Sent) → Unmoved w (serve_frame z w k bs xs)
serve_unmoved z w k [] xs = nothing w
serve_unmoved z w k (b ∷ bs) [] = nothing w
serve_unmoved z w k (b ∷ bs) (x ∷ xs) = let S = step_at z w k b in by_end w k bs xs x S S.ends

served : (z : WorldSettings) (w : World) (k : ℕ) → Unmoved w (bytes_happen z w (Plain (Serve k)))
served z w k =
    let v = bytes_changed z w (Serve k) in
    either (λ (f : World). Unmoved w f) (is_possible w.values (Serve k)) (bytes_later v 1) w
    (λ _. then_unmoved w v (bytes_later v 1) (serve_unmoved z w k (w.wires k).up (w.values.conns k).up) (later_unmoved v 1))
    (λ _. nothing w)

-- ---- each event

same_counted : (z : WorldSettings) (r : RepeatWorld) (e : Event) → Counted r.world → Counted (same_done z r e).world
same_counted z r e i =
    let w = bytes_happen z r.world (Plain e) in
    let k = own_connection e in
    let n = happen_next z r.world (Plain e) i in
    let f = lists_as w k [] [] (is_heard w k) in
    let next = unmoved w f (lists_unmoved w k [] [] (is_heard w k) refl) n.counted in
    next.counted

down_counted : (z : WorldSettings) (r : RepeatWorld) (k : ℕ) (d : DownFrame) → is_heard r.world k ≡ true → Counted r.world
    → Counted (given_down z r k d).world
down_counted z r k d on i =
    let v = loaded_down r k d in
    let first = unmoved r.world v (lists_unmoved r.world k [] (d ∷ []) true (sym on)) i in
    let w = bytes_happen z v (Plain (Take k)) in
    let n = happen_next z v (Plain (Take k)) first.counted in
    let f = lists_as w k [] [] (is_heard w k) in
    let next = unmoved w f (lists_unmoved w k [] [] (is_heard w k) refl) n.counted in
    next.counted

-- the client's end counts as open while its connection is served, and is then as it was
up_unmoved : (r : RepeatWorld) (k : ℕ) (u : UpFrame) (w : World) → Unmoved (loaded_up r k u) w
    → Unmoved r.world (lists_as w k [] [] (is_heard r.world k))
up_unmoved r k u w m =
    let v = loaded_up r k u in
    let old = lists_unmoved_but r k u in
    record {
      live = m.live;
      making = m.making;
      ready = m.ready;
      stage = m.stage;
      is_open = by_key (λ j (c : Conn). c.client_open ≡ (r.world.values.conns j).client_open) w.values.conns k _ refl
          (λ j off. m.is_open j ∙ ap (λ (c : Conn). c.client_open) (put_other r.world.values.conns k j (record (r.world.values.conns k) {
            client_open = true;
            up = sents (u ∷ []);
            down = receiveds [];
          }) off));
      end_stage = λ j. by_key (λ i (x : Wires). x.client_end.stage ≡ (w.wires i).client_end.stage) w.wires k _ refl (λ i off. refl) j
          ∙ (m.end_stage j ∙ ap (λ (x : Wires). x.client_end.stage) (old j));
      channel = λ j. by_key (λ i (x : Wires). x.client_end.channel ≡ (w.wires i).client_end.channel) w.wires k _ refl (λ i off. refl) j
          ∙ (m.channel j ∙ ap (λ (x : Wires). x.client_end.channel) (old j));
      ends = λ j. by_key (λ i (x : Wires). remembered x.client_end ≡ remembered (w.wires i).client_end) w.wires k _ refl (λ i off. refl) j
          ∙ (m.ends j ∙ ap (λ (x : Wires). remembered x.client_end) (old j));
      numbers = m.numbers;
      accepted = m.accepted;
    }
  where
    lists_unmoved_but : (r : RepeatWorld) (k : ℕ) (u : UpFrame) (j : ℕ)
        → record ((loaded_up r k u).wires j) { up = []; down = [] } ≡ record (r.world.wires j) { up = []; down = [] }
    lists_unmoved_but r k u =
        by_key (λ j (x : Wires). record x { up = []; down = [] } ≡ record (r.world.wires j) { up = []; down = [] }) r.world.wires k _ refl
        (λ j off. refl)

-- no client's end opens
pub given_open : (z : WorldSettings) (r : RepeatWorld) (k : ℕ) (u : UpFrame) (j : ℕ)
    → ((given_up z r k u).world.values.conns j).client_open ≡ (r.world.values.conns j).client_open
given_open z r k u j =
    let v = loaded_up r k u in
    let m = up_unmoved r k u (bytes_happen z v (Plain (Serve k))) (served z v k) in
    m.is_open j

up_counted : (z : WorldSettings) (r : RepeatWorld) (k : ℕ) (u : UpFrame) → Counted r.world → Counted (given_up z r k u).world
up_counted z r k u i =
    let v = loaded_up r k u in
    let w = bytes_happen z v (Plain (Serve k)) in
    let next = unmoved r.world (lists_as w k [] [] (is_heard r.world k)) (up_unmoved r k u w (served z v k)) i in
    next.counted

give_up_counted : (z : WorldSettings) (r : RepeatWorld) (k : ℕ) (o : Option UpFrame) → Counted r.world → Counted (give_up z r k o).world
give_up_counted z r k None i = i
give_up_counted z r k (Some u) i =
    either (λ (v : RepeatWorld). Counted v.world) (is_served r.world k) (given_up z r k u) r (λ _. up_counted z r k u i) (λ _. i)

give_down_counted : (z : WorldSettings) (r : RepeatWorld) (k : ℕ) (o : Option DownFrame) → Counted r.world → Counted (give_down z r k o).world
give_down_counted z r k None i = i
give_down_counted z r k (Some d) i =
    either (λ (v : RepeatWorld). Counted v.world) (is_heard r.world k) (given_down z r k d) r (λ on. down_counted z r k d on i) (λ _. i)

pub event_counted : (z : WorldSettings) (r : RepeatWorld) (e : RepeatEvent) → Counted r.world → Counted (repeat_happens z r e).world
event_counted z r (Same e) i =
    either (λ (v : RepeatWorld). Counted v.world) (uses_no_list e) (same_done z r e) r (λ _. same_counted z r e i) (λ _. i)
event_counted z r (Give k true place) i = give_up_counted z r k (slice_get r.ups place) i
event_counted z r (Give k false place) i = give_down_counted z r k (slice_get r.downs place) i

run_counted : (z : WorldSettings) (es : List RepeatEvent) (r : RepeatWorld) → Counted r.world → Counted (repeat_run z es r).world
unfolding repeat_run
run_counted z [] r i = i
run_counted z (e ∷ es) r i = run_counted z es (repeat_happens z r e) (event_counted z r e i)

pub channels_counted : ChannelsAreCounted
channels_counted z es = run_counted z es (repeat_start z) (start_counted z)
