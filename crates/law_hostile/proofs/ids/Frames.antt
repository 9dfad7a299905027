-- Along a repeat run each frame that goes up bears the id of the value that it was made for.
use Rattle.std.proofs.Common.{◌≡◌, ℕ, ◌<◌, ◌==◌, Bool, true, false, List, [], ◌∷◌, ◌++◌, ◌⊎◌, inl, inr, refl}
use Rattle.std.proofs.Common.{sym, ◌∙◌, ap, arith, subst, length, Option, Some, None, slice_get}
use Rattle.law_server.proofs.tables.Logic.{either}
use Rattle.law_nonces.proofs.negotiation.Tables.{by_key, by_key_2}
use Rattle.spec_wire.specs.credits.Purse.{Credits}
use Rattle.spec_exchange.specs.Table.{put}
use Rattle.spec_exchange.specs.Network.{Conn, Sent, Event, Submit, Open, Push, Serve, Take, Cut, Drop, Restart, Crash, Wait, Finish}
use Rattle.spec_exchange.specs.Network.{is_possible, moments}
use Rattle.spec_world.specs.Settings.{WorldSettings}
use Rattle.spec_world.specs.Messages.{header_in}
use Rattle.spec_world.specs.Ends.{ConnEnd}
use Rattle.spec_world.specs.Connection.{ConnectionStep}
use Rattle.spec_world.specs.World.{World, Wires, serve_frame, served_by, served_mutely, step_at}
use Rattle.spec_world.specs.Events.{Plain, bytes_happen, bytes_changed, bytes_later}
use Rattle.spec_hostile.specs.RepeatRuns.{RepeatWorld, RepeatEvent, Same, Give, UpFrame, DownFrame, puts_up, is_heard, is_served}
use Rattle.spec_hostile.specs.RepeatRuns.{uses_no_list, own_connection, with_opening, same_done, loaded_up, loaded_down, lists_as, sents}
use Rattle.spec_hostile.specs.RepeatRuns.{up_frames, given_up, given_down, give_up, give_down, repeat_happens, repeat_run}
use Rattle.spec_hostile.specs.RepeatRuns.{repeat_start}
use Rattle.law_hostile.specs.empties.Empties.{HasEmptyLists}
use Rattle.law_hostile.specs.ids.OwnIds.{OwnFramesBearIds, OwnFramesRise, id_of_put}
use Rattle.law_hostile.proofs.empties.Runs.{event_empties, start_empties}
use Rattle.law_hostile.proofs.puts.Growing.{none_in}
use Rattle.law_hostile.proofs.placed.Requests.{opening_ups}
use Rattle.law_hostile.proofs.ids.Served.{serve_empties, lists_ids}
use Rattle.law_hostile.proofs.ids.Rising.{last_get, put_none, nothing_more, never_apart, own_ids_rise}
use Rattle.law_hostile.specs.meant.Meant.{OwnRequestsAreMeant}
use Rattle.law_hostile.proofs.ids.Bearing.{Bears, bears_one, bears_request}
use Rattle.law_hostile.proofs.ids.Paying.{IsPaid, IsBehind, Fronts, Ready, Behind, behind_of, cut_behind, push_behind, open_behind}
use Rattle.law_hostile.proofs.ids.Talking.{take_behind}

-- ---- what was put

abbrev pub AllBear : WorldSettings → List UpFrame → Type 0
AllBear z us = (i : ℕ) (u : UpFrame) → slice_get us i ≡ Some u → Bears z u.connection u.frame u.sent.message

none_bear : (z : WorldSettings) → AllBear z []
none_bear z i u h = absurd (none_in [] i u refl h)

one_more : (z : WorldSettings) (us : List UpFrame) (x : UpFrame) → AllBear z us → Bears z x.connection x.frame x.sent.message
    → AllBear z (us ++ x ∷ [])
one_more z us x all bears i u h = by (last_get us x i u h)
  where
    by : ((i < length us) × (slice_get us i ≡ Some u)) ⊎ ((i ≡ length us) × (x ≡ u))
        → Bears z u.connection u.frame u.sent.message
    by (inl p) = all i u p.1
    by (inr p) = subst (λ (y : UpFrame). Bears z y.connection y.frame y.sent.message) p.1 bears

one_put : (z : WorldSettings) (us : List UpFrame) (k n : ℕ) (b : List ℕ) (x : Sent) → Bears z k b x.message → AllBear z us
    → AllBear z (us ++ puts_up k n (b ∷ []) (x ∷ []))
unfolding puts_up
one_put z us k n b x bears all = one_more z us (record { frame = b; sent = x; connection = k; opening = n }) all bears

more_bear : (z : WorldSettings) (us : List UpFrame) (k n : ℕ) (bs : List (List ℕ)) (xs : List Sent) → Fronts z k bs xs → AllBear z us
    → AllBear z (us ++ puts_up k n bs xs)
more_bear z us k n bs xs (inl none) all =
    subst (λ vs. AllBear z (us ++ vs)) (sym (ap (λ ys. puts_up k n bs ys) none ∙ put_none k n bs))
    (subst (AllBear z) (sym (nothing_more us)) all)
more_bear z us k n bs xs (inr o) all =
    subst (λ ys. AllBear z (us ++ puts_up k n bs ys)) (sym o.values)
    (subst (λ cs. AllBear z (us ++ puts_up k n cs (o.sent ∷ []))) (sym o.frames) (one_put z us k n o.frame o.sent o.bears all))

-- ---- what is paid

abbrev pub AllPaid : World → Type 0
AllPaid w = (j : ℕ) → IsPaid (w.wires j).client_end.purse (w.values.conns j).next_id

pub record Holds (z : WorldSettings) (r : RepeatWorld) : Type 0 where
  pub empties : HasEmptyLists r.world
  pub paid : AllPaid r.world
  pub bear : AllBear z r.ups

pub ready_of : (w : World) → HasEmptyLists w → AllPaid w → Ready w
ready_of w e p j = record { purse = p j; frames = e.up j; values = e.sent j }

abbrev SamePurses : (ℕ → Wires) → (ℕ → Wires) → Type 0
SamePurses f g = (j : ℕ) → (g j).client_end.purse ≡ (f j).client_end.purse

purses_put : (f : ℕ → Wires) (k : ℕ) (u : Wires) → u.client_end.purse ≡ (f k).client_end.purse → SamePurses f (put f k u)
purses_put f k u e = by_key (λ j (v : Wires). v.client_end.purse ≡ (f j).client_end.purse) f k u e (λ j off. refl)

lists_purses : (w : World) (k : ℕ) (us : List UpFrame) (ds : List DownFrame) (heard : Bool)
    → SamePurses w.wires (lists_as w k us ds heard).wires
lists_purses w k us ds heard = purses_put w.wires k _ refl

moved_paid : (p q : Credits) (n m : ℕ) → q ≡ p → m ≡ n → IsPaid p n → IsPaid q m
moved_paid p q n m e f i = subst (λ x. IsPaid x m) (sym e) (subst (λ x. IsPaid p x) (sym f) i)

lists_paid : (w : World) (k : ℕ) (us : List UpFrame) (ds : List DownFrame) (heard : Bool) → AllPaid w → AllPaid (lists_as w k us ds heard)
lists_paid w k us ds heard all j =
    moved_paid _ _ _ _ (lists_purses w k us ds heard j) (lists_ids w k us ds heard j) (all j)

-- ---- the events that use no list

pub changed_behind : (z : WorldSettings) (w : World) (e : Event) → uses_no_list e ≡ true → Ready w → Behind z (bytes_changed z w e)
changed_behind z w (Submit g op) s all = behind_of z w all
changed_behind z w (Open k) s all = open_behind z w k _ all
changed_behind z w (Push k slotless pick) s all = push_behind z w k slotless pick all
changed_behind z w (Serve k) s all = absurd (cc)
changed_behind z w (Take k) s all = absurd (cc)
changed_behind z w (Cut k) s all = cut_behind z w k all
changed_behind z w (Drop k) s all =
    by_key_2 (λ j (c : Conn) (u : Wires). IsBehind z j u c) w.values.conns w.wires k _ _
    (record { purse = (all k).purse; fronts = inl refl }) (λ j off. behind_of z w all j)
changed_behind z w Restart s all = λ j. record { purse = (all j).purse; fronts = inl refl }
changed_behind z w (Crash k kept) s all = absurd (cc)
changed_behind z w (Wait n) s all = absurd (cc)
changed_behind z w (Finish refusal) s all = absurd (cc)

pub happen_behind : (z : WorldSettings) (w : World) (e : Event) → Ready w → Behind z (bytes_changed z w e)
    → Behind z (bytes_happen z w (Plain e))
happen_behind z w e all h =
    either (Behind z) (is_possible w.values e) (bytes_later (bytes_changed z w e) (moments e)) w (λ _. h) (λ _. behind_of z w all)

same_holds : (z : WorldSettings) (r : RepeatWorld) (e : Event) → uses_no_list e ≡ true → Holds z r
    → AllPaid (same_done z r e).world × AllBear z (same_done z r e).ups
same_holds z r e s h =
    let k = own_connection e in
    let w = bytes_happen z r.world (Plain e) in
    let all = ready_of r.world h.empties h.paid in
    let b : Behind z w = happen_behind z r.world e all (changed_behind z r.world e s all) in
    let n = (with_opening r e).openings k in (
      lists_paid w k [] [] (is_heard w k) (λ j. (b j).purse),
      more_bear z (with_opening r e).ups k n (w.wires k).up (w.values.conns k).up (b k).fronts
          (subst (AllBear z) (sym (opening_ups r e)) h.bear),
    )

-- ---- Give up: a server's end pays nothing, and puts nothing up

by_end : (w : World) (k : ℕ) (bs : List (List ℕ)) (xs : List Sent) (x : Sent) (S : ConnectionStep) (o : Option ConnEnd)
    → SamePurses w.wires (served_by w k bs xs x.token S o).wires
by_end w k bs xs x S None = purses_put w.wires k _ refl
by_end w k bs xs x S (Some why) =
    let v = served_mutely w k bs xs x.token S in
    λ j. purses_put v.wires k _ refl j ∙ purses_put w.wires k _ refl j

serve_purses : (z : WorldSettings) (w : World) (k : ℕ) (bs : List (List ℕ)) (xs : List Sent) → SamePurses w.wires (serve_frame z w k bs xs).wires
serve_purses z w k [] xs = λ j. refl
serve_purses z w k (b ∷ bs) [] = λ j. refl
serve_purses z w k (b ∷ bs) (x ∷ xs) = let S = step_at z w k b in by_end w k bs xs x S S.ends

served_purses : (z : WorldSettings) (w : World) (k : ℕ) → SamePurses w.wires (bytes_happen z w (Plain (Serve k))).wires
served_purses z w k =
    either (λ (v : World). SamePurses w.wires v.wires) (is_possible w.values (Serve k))
    (bytes_later (bytes_changed z w (Serve k)) 1) w (λ _. serve_purses z w k (w.wires k).up (w.values.conns k).up) (λ _. λ j. refl)

up_holds : (z : WorldSettings) (r : RepeatWorld) (k : ℕ) (u : UpFrame) → is_served r.world k ≡ true → Holds z r
    → AllPaid (given_up z r k u).world × AllBear z (given_up z r k u).ups
up_holds z r k u on h =
    let v = loaded_up r k u in
    let w = bytes_happen z v (Plain (Serve k)) in
    let q = serve_empties z r k u on in
    let p : AllPaid v = lists_paid r.world k (u ∷ []) [] true h.paid in (
      lists_paid w k [] [] (is_heard r.world k) (λ j. moved_paid _ _ _ _ (served_purses z v k j) (q j).0 (p j)),
      more_bear z r.ups k (r.openings k) (w.wires k).up (w.values.conns k).up (inl ((q k).1 (λ off. never_apart k _ off))) h.bear,
    )

-- ---- Give down

pub loaded_ready : (z : WorldSettings) (r : RepeatWorld) (k : ℕ) (d : DownFrame) → Holds z r → Ready (loaded_down r k d)
unfolding sents up_frames
loaded_ready z r k d h j =
    let p = lists_paid r.world k [] (d ∷ []) true h.paid in
    record {
      purse = p j;
      frames = either (λ (u : Wires). u.up ≡ []) (j == k) _ (r.world.wires j) (λ _. refl) (λ _. h.empties.up j);
      values = either (λ (c : Conn). c.up ≡ []) (j == k) _ (r.world.values.conns j) (λ _. refl) (λ _. h.empties.sent j);
    }

down_holds : (z : WorldSettings) (r : RepeatWorld) (k : ℕ) (d : DownFrame) → Holds z r
    → AllPaid (given_down z r k d).world × AllBear z (given_down z r k d).ups
down_holds z r k d h =
    let v = loaded_down r k d in
    let w = bytes_happen z v (Plain (Take k)) in
    let all = loaded_ready z r k d h in
    let b : Behind z w = happen_behind z v (Take k) all (take_behind z v k (v.wires k).down (v.values.conns k).down all) in (
      lists_paid w k [] [] (is_heard w k) (λ j. (b j).purse),
      more_bear z r.ups k (r.openings k) (w.wires k).up (w.values.conns k).up (b k).fronts h.bear,
    )

-- ---- one event, and a run

abbrev Rest : WorldSettings → RepeatWorld → Type 0
Rest z r = AllPaid r.world × AllBear z r.ups

rest_of : (z : WorldSettings) (r : RepeatWorld) → Holds z r → Rest z r
rest_of z r h = (h.paid, h.bear)

give_up_holds : (z : WorldSettings) (r : RepeatWorld) (k : ℕ) (o : Option UpFrame) → Holds z r → Rest z (give_up z r k o)
give_up_holds z r k None h = rest_of z r h
give_up_holds z r k (Some u) h =
    either (Rest z) (is_served r.world k) (given_up z r k u) r (λ on. up_holds z r k u on h) (λ _. rest_of z r h)

give_down_holds : (z : WorldSettings) (r : RepeatWorld) (k : ℕ) (o : Option DownFrame) → Holds z r → Rest z (give_down z r k o)
give_down_holds z r k None h = rest_of z r h
give_down_holds z r k (Some d) h =
    either (Rest z) (is_heard r.world k) (given_down z r k d) r (λ _. down_holds z r k d h) (λ _. rest_of z r h)

event_rest : (z : WorldSettings) (r : RepeatWorld) (e : RepeatEvent) → Holds z r → Rest z (repeat_happens z r e)
event_rest z r (Same e) h =
    either (Rest z) (uses_no_list e) (same_done z r e) r (λ s. same_holds z r e s h) (λ _. rest_of z r h)
event_rest z r (Give k true place) h = give_up_holds z r k (slice_get r.ups place) h
event_rest z r (Give k false place) h = give_down_holds z r k (slice_get r.downs place) h

pub event_holds : (z : WorldSettings) (r : RepeatWorld) (e : RepeatEvent) → Holds z r → Holds z (repeat_happens z r e)
event_holds z r e h =
    let q = event_rest z r e h in record { empties = event_empties z r e h.empties; paid = q.0; bear = q.1 }

run_holds : (z : WorldSettings) (es : List RepeatEvent) (r : RepeatWorld) → Holds z r → Holds z (repeat_run z es r)
unfolding repeat_run
run_holds z [] r h = h
run_holds z (e ∷ es) r h = run_holds z es (repeat_happens z r e) (event_holds z r e h)

pub start_holds : (z : WorldSettings) → Holds z (repeat_start z)
start_holds z =
    record {
      empties = start_empties z;
      paid = λ j. record { next_is = refl; room = omega arith };
      bear = none_bear z;
    }

pub own_frames_bear : OwnFramesBearIds
own_frames_bear z es i u at off =
    bears_one z u.connection u.frame u.sent.message off ((run_holds z es (repeat_start z) (start_holds z)).bear i u at)

less_alike : (a b c d : ℕ) → a ≡ c → b ≡ d → c < d → a < b
less_alike a b c d e f l = omega (arith, e, f, l)

pub own_frames_rise : OwnFramesRise
own_frames_rise z es i j u v l at on c o first second =
    less_alike (header_in u.frame).message (header_in v.frame).message (id_of_put u) (id_of_put v)
    (own_frames_bear z es i u at first).id_is (own_frames_bear z es j v on second).id_is (own_ids_rise z es i j u v l at on c o)

pub own_requests_meant : OwnRequestsAreMeant
own_requests_meant z es i u at off =
    let r = bears_request z u.connection u.frame u.sent.message off ((run_holds z es (repeat_start z) (start_holds z)).bear i u at) in
    record { connection = r.connection; fault = r.fault; id_fits = r.small; meant = r.meant }
