-- Along a repeat run dialogs have the first message ids, and what an end waits for was put up for its opening.
use Rattle.std.proofs.Common.{◌≡◌, ℕ, zero, suc, ◌+◌, ◌<◌, ◌==◌, ◌&&◌, Bool, true, false, if◌then◌else◌, List, [], ◌∷◌, ◌++◌, ◌⊎◌, inl, inr}
use Rattle.std.proofs.Common.{refl, sym, ◌∙◌, ap, subst, length, Option, Some, None, slice_get, eqb-true}
use Rattle.law_server.proofs.tables.Logic.{either}
use Rattle.law_records.proofs.recovery.Lists.{put_here}
use Rattle.law_nonces.proofs.negotiation.Tables.{by_key, by_key_2, put_other}
use Rattle.spec_exchange.specs.Table.{put}
use Rattle.spec_exchange.specs.Status.{success}
use Rattle.spec_exchange.specs.State.{Accept}
use Rattle.spec_exchange.specs.Step.{step}
use Rattle.spec_exchange.specs.Client.{Apart}
use Rattle.spec_exchange.specs.ClientStep.{Pushes, act, client_after}
use Rattle.spec_exchange.specs.Network.{Conn, Sent, Token, ForDialog, Event, Submit, Open, Push, Serve, Take, Cut, Drop, Restart}
use Rattle.spec_exchange.specs.Network.{Crash, Wait, Finish, is_possible, moments, server_off}
use Rattle.spec_world.specs.Settings.{WorldSettings}
use Rattle.spec_world.specs.Ends.{ClientEnd, ConnEnd}
use Rattle.spec_world.specs.Connection.{ConnectionStep}
use Rattle.spec_world.specs.World.{World, Wires, server_end_off, paid, greeting_of, fresh_wires, opened_wires, serve_frame, served_by, step_at}
use Rattle.spec_world.specs.World.{served_mutely}
use Rattle.spec_world.specs.Events.{Plain, bytes_happen, bytes_changed, bytes_later}
use Rattle.law_ties.specs.channel_numbers.Counted.{Counted}
use Rattle.spec_hostile.specs.RepeatRuns.{RepeatWorld, RepeatEvent, Same, Give, UpFrame, DownFrame, puts_up, new_ups, is_heard, is_served}
use Rattle.spec_hostile.specs.RepeatRuns.{uses_no_list, own_connection, is_opening, with_opening, same_done, loaded_up, loaded_down, lists_as}
use Rattle.spec_hostile.specs.RepeatRuns.{given_up, given_down, give_up, give_down, repeat_happens, repeat_run, repeat_start}
use Rattle.law_hostile.specs.empties.Empties.{HasEmptyLists}
use Rattle.law_hostile.specs.dialogs.OwnDialogs.{HasItsId, DialogsComeFirst, WasPutUnder, AwaitedWasPut}
use Rattle.law_hostile.proofs.puts.Growing.{none_in, in_front}
use Rattle.law_hostile.proofs.placed.Requests.{opening_ups}
use Rattle.law_hostile.proofs.empties.Runs.{event_empties}
use Rattle.law_hostile.proofs.ids.Served.{serve_empties}
use Rattle.law_hostile.proofs.ids.Rising.{last_get, put_none, nothing_more, never_apart}
use Rattle.law_hostile.proofs.ids.Paying.{Fronts, OneFront, Ready}
use Rattle.law_hostile.proofs.ids.Paying as paying
use Rattle.law_hostile.proofs.ids.Talking.{take_behind}
use Rattle.law_hostile.proofs.ids.Frames as frames
use Rattle.law_hostile.proofs.dialogs.Counting.{event_counted, given_open}
use Rattle.law_ties.proofs.channel_numbers.Runs.{start_counted}
use Rattle.law_hostile.proofs.dialogs.Lining.{LinedAt, AllLined, LinedAll, Carries, Empty, Before, Behind, StageIds, stage_ids}
use Rattle.law_hostile.proofs.dialogs.Lining.{still, pushed_lined, open_lined, fresh_waits, cut_lined, take_lined, quiet_lined, same_sent}

-- ---- what was put

abbrev pub AllPut : (UpFrame → Type 0) → List UpFrame → Type 0
AllPut P us = (i : ℕ) (u : UpFrame) → slice_get us i ≡ Some u → P u

abbrev put_frame : ℕ → ℕ → List ℕ → Sent → UpFrame
put_frame k n b x = record { frame = b; sent = x; connection = k; opening = n }

one_more : (P : UpFrame → Type 0) (us : List UpFrame) (x : UpFrame) → P x → AllPut P us → AllPut P (us ++ x ∷ [])
one_more P us x p all i u h = by (last_get us x i u h)
  where
    by : ((i < length us) × (slice_get us i ≡ Some u)) ⊎ ((i ≡ length us) × (x ≡ u)) → P u
    by (inl q) = all i u q.1
    by (inr q) = subst P q.1 p

put_one : (k n : ℕ) (b : List ℕ) (x : Sent) → puts_up k n (b ∷ []) (x ∷ []) ≡ put_frame k n b x ∷ []
unfolding puts_up
put_one k n b x = refl

abbrev PutPlaced : List UpFrame → Type 0
PutPlaced us = AllPut (λ u. HasItsId u.sent) us

-- what goes behind it
record Joins (us : List UpFrame) (k n : ℕ) (xs : List Sent) (all : List UpFrame) : Type 0 where
  every : PutPlaced us → ((x : Sent) → slice_get xs 0 ≡ Some x → HasItsId x) → PutPlaced all
  old : (i : ℕ) (u : UpFrame) → slice_get us i ≡ Some u → slice_get all i ≡ Some u
  new : (i : ℕ) (x : Sent) → slice_get xs i ≡ Some x → (m : ℕ) × (b : List ℕ) × (slice_get all m ≡ Some (put_frame k n b x))

none_at : (i : ℕ) (x : Sent) (xs : List Sent) (P : Type 0) → xs ≡ [] → slice_get xs i ≡ Some x → P
none_at i x xs P e h = absurd (let q : None ≡ Some x = sym (ap (λ l. slice_get l i) e) ∙ h in cc)

get_last : (us : List UpFrame) (x : UpFrame) → slice_get (us ++ x ∷ []) (length us) ≡ Some x
get_last [] x = refl
get_last (u ∷ us) x = get_last us x

joins_none : (us : List UpFrame) (k n : ℕ) (xs : List Sent) (all : List UpFrame) → xs ≡ [] → all ≡ us → Joins us k n xs all
joins_none us k n xs all none same =
    record {
      every = λ p q. subst PutPlaced (sym same) p;
      old = λ i u h. subst (λ l. slice_get l i ≡ Some u) (sym same) h;
      new = λ i x h. none_at i x xs _ none h;
    }

only_one : (x y : Sent) (i : ℕ) → slice_get (x ∷ []) i ≡ Some y → x ≡ y
only_one x y zero h = same_sent x y h
only_one x y (suc i) h = absurd (let q : None ≡ Some y = h in cc)

joins_one : (us : List UpFrame) (k n : ℕ) (b : List ℕ) (x : Sent) (xs : List Sent) (all : List UpFrame) → xs ≡ x ∷ []
    → all ≡ us ++ put_frame k n b x ∷ [] → Joins us k n xs all
joins_one us k n b x xs all one same =
    let u = put_frame k n b x in
    record {
      every = λ p q. subst PutPlaced (sym same) (one_more (λ v. HasItsId v.sent) us u (q x (ap (λ l. slice_get l 0) one)) p);
      old = λ i v h. subst (λ l. slice_get l i ≡ Some v) (sym same) (in_front us (u ∷ []) i v h);
      new = λ i y h. (
        length us,
        b,
        subst (λ l. slice_get l (length us) ≡ Some (put_frame k n b y)) (sym same)
            (get_last us u ∙ ap (λ s. Some (put_frame k n b s)) (only_one x y i (subst (λ l. slice_get l i ≡ Some y) one h))),
      );
    }

joins : (z : WorldSettings) (us : List UpFrame) (k n : ℕ) (bs : List (List ℕ)) (xs : List Sent) → Fronts z k bs xs
    → Joins us k n xs (us ++ puts_up k n bs xs)
joins z us k n bs xs (inl none) =
    joins_none us k n xs (us ++ puts_up k n bs xs) none
    (ap (λ l. us ++ l) (ap (λ ys. puts_up k n bs ys) none ∙ put_none k n bs) ∙ nothing_more us)
joins z us k n bs xs (inr o) =
    joins_one us k n o.frame o.sent xs (us ++ puts_up k n bs xs) o.values
    (ap (λ l. us ++ l) (ap (λ ys. puts_up k n bs ys) o.values ∙ (ap (λ cs. puts_up k n cs (o.sent ∷ [])) o.frames ∙ put_one k n o.frame o.sent)))

-- ---- what is collected

abbrev pub Waits : RepeatWorld → Type 0
Waits r =
    (k id : ℕ) (token : Token) → (r.world.wires k).client_end.awaited id ≡ Some token → (token ≡ ForDialog → ⊥)
    → WasPutUnder r.ups k (r.openings k) id token

pub record Holds (z : WorldSettings) (r : RepeatWorld) : Type 0 where
  pub frames : frames.Holds z r
  pub counted : Counted r.world
  pub lined : AllLined r.world.values.conns r.world.wires
  pub placed : AllPut (λ u. HasItsId u.sent) r.ups
  pub waits : Waits r

abbrev Rest : RepeatWorld → Type 0
Rest r = AllLined r.world.values.conns r.world.wires × AllPut (λ u. HasItsId u.sent) r.ups × Waits r

-- an opening that stays, or an end that waits for its dialog alone
abbrev Stays : RepeatWorld → (ℕ → ℕ) → World → ℕ → Type 0
Stays r openings w j =
    (openings j ≡ r.openings j)
    ⊎ ((id : ℕ) (token : Token) → (w.wires j).client_end.awaited id ≡ Some token → (token ≡ ForDialog → ⊥) → ⊥)

same_under : (us all : List UpFrame) (k n m id : ℕ) (token : Token) → n ≡ m
    → ((i : ℕ) (u : UpFrame) → slice_get us i ≡ Some u → slice_get all i ≡ Some u) → WasPutUnder us k n id token → WasPutUnder all k m id token
same_under us all k n m id token e old p =
    record {
      index = p.index;
      put = p.put;
      at = old p.index p.put p.at;
      connection = p.connection;
      opening = p.opening ∙ e;
      id = p.id;
      token = p.token;
    }

collects : (z : WorldSettings) (r : RepeatWorld) (openings : ℕ → ℕ) (k : ℕ) (w : World) (heard : Bool) → LinedAll r.world.wires w.values.conns w.wires
    → Fronts z k (w.wires k).up (w.values.conns k).up → ((j : ℕ) → (j == k) ≡ false → (w.values.conns j).up ≡ [])
    → (heard ≡ true → (w.values.conns k).client_open ≡ true) → ((j : ℕ) → Stays r openings w j) → AllPut (λ u. HasItsId u.sent) r.ups → Waits r
    → Rest (record r { world = lists_as w k [] [] heard; ups = r.ups ++ new_ups w k (openings k); openings = openings })
collects z r openings k w heard all fronts others opens stays placed waits =
    let n = openings k in
    let us = r.ups ++ new_ups w k n in
    let j = joins z r.ups k n (w.wires k).up (w.values.conns k).up fronts in
    let here = all k in (
      by_key_2 (λ i (c : Conn) (u : Wires). LinedAt c u) w.values.conns w.wires k _ _ (λ on. here.lined (opens on))
          (λ i off. (let a = all i in a.lined)),
      j.every placed (λ x at. here.placed 0 x at),
      λ i id token e own. waited j i id token (same_end i id token e) own (stays i),
    )
  where
    same_end : (i id : ℕ) (token : Token) → ((lists_as w k [] [] heard).wires i).client_end.awaited id ≡ Some token
        → (w.wires i).client_end.awaited id ≡ Some token
    same_end i id token e =
        ap (λ (n : ClientEnd). n.awaited id)
        (sym (by_key (λ j (u : Wires). u.client_end ≡ (w.wires j).client_end) w.wires k _ refl (λ j off. refl) i)) ∙ e

    carried : Joins r.ups k (openings k) (w.values.conns k).up (r.ups ++ new_ups w k (openings k)) → (i id : ℕ) (token : Token) (b : Bool)
        → (i == k) ≡ b → Carries (w.values.conns i).up id token
        → WasPutUnder (r.ups ++ new_ups w k (openings k)) i (openings i) id token
    carried j i id token true t c =
        let s : i ≡ k = eqb-true i k t in
        let at : slice_get (w.values.conns k).up c.0 ≡ Some c.1 = subst (λ l. slice_get (w.values.conns l).up c.0 ≡ Some c.1) s c.2 in
        let q = j.new c.0 c.1 at in
        record {
          index = q.0;
          put = put_frame k (openings k) q.1 c.1;
          at = q.2;
          connection = sym s;
          opening = ap openings (sym s);
          id = c.3;
          token = c.4;
        }
    carried j i id token false t c = none_at c.0 c.1 (w.values.conns i).up _ (others i t) c.2

    waited : Joins r.ups k (openings k) (w.values.conns k).up (r.ups ++ new_ups w k (openings k)) → (i id : ℕ) (token : Token)
        → (w.wires i).client_end.awaited id ≡ Some token → (token ≡ ForDialog → ⊥) → Stays r openings w i
        → WasPutUnder (r.ups ++ new_ups w k (openings k)) i (openings i) id token
    waited j i id token e own (inr never) = absurd (never id token e own)
    waited j i id token e own (inl same) = (let a = all i in by (a.waits id token e own))
      where
        by : ((r.world.wires i).client_end.awaited id ≡ Some token) ⊎ Carries (w.values.conns i).up id token
            → WasPutUnder (r.ups ++ new_ups w k (openings k)) i (openings i) id token
        by (inl q) =
            same_under r.ups (r.ups ++ new_ups w k (openings k)) i (r.openings i) (openings i) id token (sym same) j.old (waits i id token q own)
        by (inr c) = carried j i id token (i == k) refl c

-- ---- the events that use no list

before_of : (z : WorldSettings) (r : RepeatWorld) → Holds z r → Before r.world
before_of z r h = (let f = h.frames in frames.ready_of r.world f.empties f.paid, h.lined)

no_up : (p : ℕ → Conn) (k : ℕ) (c : Conn) → c.up ≡ [] → Empty p → Empty (put p k c)
no_up p k c e all = by_key (λ j (d : Conn). d.up ≡ []) p k c e (λ j off. all j)

values_empty : (w : World) → Before w → Empty w.values.conns
values_empty w b j = let i = b.0 j in i.values

changed_lined : (z : WorldSettings) (w : World) (e : Event) → uses_no_list e ≡ true → is_possible w.values e ≡ true → Counted w → Before w
    → Behind w (bytes_changed z w e)
changed_lined z w (Submit g op) s may c b = still w b
changed_lined z w (Open k) s may c b =
    open_lined z w k ((step w.values.server w.values.moment (Accept k)).reply.status == success) b
changed_lined z w (Push k slotless pick) s may c b =
    let p = Pushes k slotless (paid w k slotless pick) in
    let q = c.apart k may in
    let apart = c.stages k q.1 ∙ q.0 in
    let n = (w.wires k).client_end in
    pushed_lined w k (client_after w.values.client p) (act w.values.client p) apart
    (stage_ids n.stage Apart n.purse.next n.purse.next (sym apart) refl (b.1 k q.1)) b
changed_lined z w (Serve k) s may c b = absurd (cc)
changed_lined z w (Take k) s may c b = absurd (cc)
changed_lined z w (Cut k) s may c b = cut_lined w k b
changed_lined z w (Drop k) s may c b =
    quiet_lined w.wires (put w.wires k (server_end_off (w.wires k))) (put w.values.conns k (server_off (w.values.conns k)))
    (by_key (λ j (u : Wires). (id : ℕ) (token : Token) → u.client_end.awaited id ≡ Some token → (w.wires j).client_end.awaited id ≡ Some token)
    w.wires k (server_end_off (w.wires k)) (λ id token e. e) (λ j off id token e. e))
    (no_up w.values.conns k (server_off (w.values.conns k)) refl (values_empty w b))
    (by_key_2 (λ j (d : Conn) (u : Wires). LinedAt d u) w.values.conns w.wires k (server_off (w.values.conns k)) (server_end_off (w.wires k))
    (b.1 k) (λ j off. b.1 j))
changed_lined z w Restart s may c b =
    quiet_lined w.wires (λ k. server_end_off (w.wires k)) (λ k. server_off (w.values.conns k)) (λ j id token e. e) (λ j. refl) b.1
changed_lined z w (Crash k kept) s may c b = absurd (cc)
changed_lined z w (Wait n) s may c b = absurd (cc)
changed_lined z w (Finish refusal) s may c b = absurd (cc)

happen_lined : (z : WorldSettings) (w : World) (e : Event) → (is_possible w.values e ≡ true → Behind w (bytes_changed z w e)) → Before w
    → Behind w (bytes_happen z w (Plain e))
happen_lined z w e h b =
    either (λ (v : World). Behind w v) (is_possible w.values e) (bytes_later (bytes_changed z w e) (moments e)) w (λ on. h on) (λ _. still w b)

-- the opening of each connection but of one that is opened
plain_stays : (r : RepeatWorld) (e : Event) (w : World) (j : ℕ) → is_opening e ≡ false → Stays r (with_opening r e).openings w j
plain_stays r e w j off =
    inl (ap (λ b. (if b && is_possible r.world.values e then record r {
      openings = put r.openings (own_connection e) (r.openings (own_connection e) + 1);
    } else r).openings j) off)

opened_stays : (z : WorldSettings) (r : RepeatWorld) (k j : ℕ) (b : Bool) → is_possible r.world.values (Open k) ≡ b
    → Stays r (with_opening r (Open k)).openings (bytes_happen z r.world (Plain (Open k))) j
opened_stays z r k j false may =
    inl (ap (λ b. (if b then record r { openings = put r.openings k (r.openings k + 1) } else r).openings j) may)
opened_stays z r k j true may = by (j == k) refl
  where
    served : Bool
    served = (step r.world.values.server r.world.values.moment (Accept k)).reply.status == success

    is : bytes_happen z r.world (Plain (Open k)) ≡ bytes_later (opened_wires z r.world k) 1
    is = ap (λ b. if b then bytes_later (opened_wires z r.world k) 1 else r.world) may

    opened : (with_opening r (Open k)).openings j ≡ put r.openings k (r.openings k + 1) j
    opened = ap (λ b. (if b then record r { openings = put r.openings k (r.openings k + 1) } else r).openings j) may

    by : (b : Bool) → (j == k) ≡ b → Stays r (with_opening r (Open k)).openings (bytes_happen z r.world (Plain (Open k))) j
    by false off = inl (opened ∙ put_other r.openings k j (r.openings k + 1) off)
    by true on =
        let s : j ≡ k = eqb-true j k on in
        let at : ((bytes_happen z r.world (Plain (Open k))).wires j).client_end ≡ (fresh_wires z r.world (greeting_of z r.world k) served).client_end =
        ap (λ (w : World). (w.wires j).client_end) is
        ∙ (ap (λ i. (put r.world.wires k (fresh_wires z r.world (greeting_of z r.world k) served) i).client_end) s
        ∙ ap (λ (u : Wires). u.client_end) (put_here r.world.wires k (fresh_wires z r.world (greeting_of z r.world k) served))) in
        inr (λ id token e own. fresh_waits z r.world k id served token (ap (λ (n : ClientEnd). n.awaited id) (sym at) ∙ e) own)

any_stays : (z : WorldSettings) (r : RepeatWorld) (e : Event) (j : ℕ)
    → Stays r (with_opening r e).openings (bytes_happen z r.world (Plain e)) j
any_stays z r (Open k) j = opened_stays z r k j (is_possible r.world.values (Open k)) refl
any_stays z r (Submit g op) j = plain_stays r (Submit g op) (bytes_happen z r.world (Plain (Submit g op))) j refl
any_stays z r (Push k slotless pick) j = plain_stays r (Push k slotless pick) (bytes_happen z r.world (Plain (Push k slotless pick))) j refl
any_stays z r (Serve k) j = plain_stays r (Serve k) (bytes_happen z r.world (Plain (Serve k))) j refl
any_stays z r (Take k) j = plain_stays r (Take k) (bytes_happen z r.world (Plain (Take k))) j refl
any_stays z r (Cut k) j = plain_stays r (Cut k) (bytes_happen z r.world (Plain (Cut k))) j refl
any_stays z r (Drop k) j = plain_stays r (Drop k) (bytes_happen z r.world (Plain (Drop k))) j refl
any_stays z r Restart j = plain_stays r Restart (bytes_happen z r.world (Plain Restart)) j refl
any_stays z r (Crash k kept) j = plain_stays r (Crash k kept) (bytes_happen z r.world (Plain (Crash k kept))) j refl
any_stays z r (Wait n) j = plain_stays r (Wait n) (bytes_happen z r.world (Plain (Wait n))) j refl
any_stays z r (Finish refusal) j = plain_stays r (Finish refusal) (bytes_happen z r.world (Plain (Finish refusal))) j refl

-- but for one connection the lists that are collected are those of the world behind it
other_up : (w : World) (k j : ℕ) (heard : Bool) → (j == k) ≡ false → ((lists_as w k [] [] heard).values.conns j).up ≡ []
    → (w.values.conns j).up ≡ []
other_up w k j heard off e = sym (ap (λ (c : Conn). c.up) (put_other w.values.conns k j _ off)) ∙ e

with_ups : (r v : RepeatWorld) (openings : ℕ → ℕ) (us : List UpFrame) (w : World) → v.openings ≡ openings → v.ups ≡ us → v.world ≡ w
    → Rest (record r { world = w; ups = us; openings = openings }) → Rest v
with_ups r v openings us w o u x h = (
  subst (λ (y : World). AllLined y.values.conns y.wires) (sym x) h.0,
  subst (AllPut (λ u. HasItsId u.sent)) (sym u) h.1,
  λ k id token e own. subst (λ n. WasPutUnder v.ups k n id token) (ap (λ f. f k) (sym o))
      (subst (λ l. WasPutUnder l k (openings k) id token) (sym u)
      (h.2 k id token (ap (λ (y : World). (y.wires k).client_end.awaited id) (sym x) ∙ e) own)),
)

same_lined : (z : WorldSettings) (r : RepeatWorld) (e : Event) → uses_no_list e ≡ true → HasEmptyLists (same_done z r e).world → Holds z r
    → Rest (same_done z r e)
same_lined z r e s empties h =
    let k = own_connection e in
    let w = bytes_happen z r.world (Plain e) in
    let b = before_of z r h in
    let all : Behind r.world w = happen_lined z r.world e (λ may. changed_lined z r.world e s may h.counted b) b in
    let fronts : paying.Behind z w = frames.happen_behind z r.world e b.0 (frames.changed_behind z r.world e s b.0) in
    let o = (with_opening r e).openings in
    with_ups r (same_done z r e) o (r.ups ++ new_ups w k (o k)) (lists_as w k [] [] (is_heard w k)) refl
    (ap (λ us. us ++ new_ups w k (o k)) (opening_ups r e)) refl
    (collects z r o k w (is_heard w k) all (let f = fronts k in f.fronts) (λ j off. other_up w k j (is_heard w k) off (empties.sent j)) (λ on. on)
    (any_stays z r e) h.placed h.waits)

-- ---- Give down

down_lined : (z : WorldSettings) (r : RepeatWorld) (k : ℕ) (d : DownFrame) → is_heard r.world k ≡ true
    → HasEmptyLists (given_down z r k d).world → Holds z r → Rest (given_down z r k d)
down_lined z r k d on empties h =
    let v = loaded_down r k d in
    let w = bytes_happen z v (Plain (Take k)) in
    let ready : Ready v = frames.loaded_ready z r k d h.frames in
    let lined : AllLined v.values.conns v.wires =
    by_key_2 (λ j (c : Conn) (u : Wires). LinedAt c u) r.world.values.conns r.world.wires k _ _ (λ _. h.lined k on) (λ j off. h.lined j) in
    let here : (v.values.conns k).client_open ≡ true = ap (λ (c : Conn). c.client_open) (put_here r.world.values.conns k _) in
    let take : Behind v w =
    happen_lined z v (Take k) (λ _. take_lined z v k (v.wires k).down (v.values.conns k).down here (ready, lined)) (ready, lined) in
    let fronts : paying.Behind z w =
    frames.happen_behind z v (Take k) ready (take_behind z v k (v.wires k).down (v.values.conns k).down ready) in
    let all : LinedAll r.world.wires w.values.conns w.wires = λ j. (let a = take j in record {
      lined = a.lined;
      placed = a.placed;
      waits = λ id token e own. loaded_waits j id token (a.waits id token e own);
    }) in
    collects z r r.openings k w (is_heard w k) all (let f = fronts k in f.fronts)
    (λ j off. other_up w k j (is_heard w k) off (empties.sent j)) (λ q. q) (λ j. inl refl) h.placed h.waits
  where
    same_end : (j : ℕ) → ((loaded_down r k d).wires j).client_end ≡ (r.world.wires j).client_end
    same_end = by_key (λ j (u : Wires). u.client_end ≡ (r.world.wires j).client_end) r.world.wires k _ refl (λ j off. refl)

    loaded_waits : (j id : ℕ) (token : Token)
        → (((loaded_down r k d).wires j).client_end.awaited id ≡ Some token)
        ⊎ Carries ((bytes_happen z (loaded_down r k d) (Plain (Take k))).values.conns j).up id token
        → ((r.world.wires j).client_end.awaited id ≡ Some token)
        ⊎ Carries ((bytes_happen z (loaded_down r k d) (Plain (Take k))).values.conns j).up id token
    loaded_waits j id token (inl e) = inl (ap (λ (n : ClientEnd). n.awaited id) (sym (same_end j)) ∙ e)
    loaded_waits j id token (inr c) = inr c

-- ---- Give up: a server's end changes no client's

abbrev pub SameEnds : (ℕ → Wires) → (ℕ → Wires) → Type 0
SameEnds f g = (j : ℕ) → (g j).client_end ≡ (f j).client_end

pub ends_put : (f : ℕ → Wires) (k : ℕ) (u : Wires) → u.client_end ≡ (f k).client_end → SameEnds f (put f k u)
ends_put f k u e = by_key (λ j (v : Wires). v.client_end ≡ (f j).client_end) f k u e (λ j off. refl)

by_end : (w : World) (k : ℕ) (bs : List (List ℕ)) (xs : List Sent) (x : Sent) (S : ConnectionStep) (o : Option ConnEnd)
    → SameEnds w.wires (served_by w k bs xs x.token S o).wires
by_end w k bs xs x S None = ends_put w.wires k _ refl
by_end w k bs xs x S (Some why) =
    let v = served_mutely w k bs xs x.token S in
    λ j. ends_put v.wires k _ refl j ∙ ends_put w.wires k _ refl j

serve_ends : (z : WorldSettings) (w : World) (k : ℕ) (bs : List (List ℕ)) (xs : List Sent) → SameEnds w.wires (serve_frame z w k bs xs).wires
serve_ends z w k [] xs = λ j. refl
serve_ends z w k (b ∷ bs) [] = λ j. refl
serve_ends z w k (b ∷ bs) (x ∷ xs) = let S = step_at z w k b in by_end w k bs xs x S S.ends

pub served_ends : (z : WorldSettings) (w : World) (k : ℕ) → SameEnds w.wires (bytes_happen z w (Plain (Serve k))).wires
served_ends z w k =
    either (λ (v : World). SameEnds w.wires v.wires) (is_possible w.values (Serve k)) (bytes_later (bytes_changed z w (Serve k)) 1) w
    (λ _. serve_ends z w k (w.wires k).up (w.values.conns k).up) (λ _. λ j. refl)

up_lined : (z : WorldSettings) (r : RepeatWorld) (k : ℕ) (u : UpFrame) → is_served r.world k ≡ true → Holds z r → Rest (given_up z r k u)
up_lined z r k u on h =
    let v = loaded_up r k u in
    let w = bytes_happen z v (Plain (Serve k)) in
    let q = serve_empties z r k u on in
    let none : new_ups w k (r.openings k) ≡ [] =
    ap (λ ys. puts_up k (r.openings k) (w.wires k).up ys) ((q k).1 (λ off. never_apart k _ off)) ∙ put_none k (r.openings k) (w.wires k).up in
    let same : (given_up z r k u).ups ≡ r.ups = ap (λ us. r.ups ++ us) none ∙ nothing_more r.ups in
    let ends : SameEnds r.world.wires (given_up z r k u).world.wires =
    λ j. ends_put w.wires k _ refl j ∙ (served_ends z v k j ∙ ends_put r.world.wires k _ refl j) in (
      λ j o. (let e = ends j in subst (λ (n : ClientEnd). StageIds n.stage n.purse.next) (sym e) (h.lined j (sym (given_open z r k u j) ∙ o))),
      subst (AllPut (λ x. HasItsId x.sent)) (sym same) h.placed,
      λ j id token e own. subst (λ us. WasPutUnder us j (r.openings j) id token) (sym same)
          (h.waits j id token (ap (λ (n : ClientEnd). n.awaited id) (sym (ends j)) ∙ e) own),
    )

-- ---- one event, and a run

rest_of : (z : WorldSettings) (r : RepeatWorld) → Holds z r → Rest r
rest_of z r h = (h.lined, h.placed, h.waits)

give_up_lined : (z : WorldSettings) (r : RepeatWorld) (k : ℕ) (o : Option UpFrame) → Holds z r → Rest (give_up z r k o)
give_up_lined z r k None h = rest_of z r h
give_up_lined z r k (Some u) h =
    either Rest (is_served r.world k) (given_up z r k u) r (λ on. up_lined z r k u on h) (λ _. rest_of z r h)

give_down_lined : (z : WorldSettings) (r : RepeatWorld) (k : ℕ) (o : Option DownFrame) → HasEmptyLists (give_down z r k o).world → Holds z r
    → Rest (give_down z r k o)
give_down_lined z r k None e h = rest_of z r h
give_down_lined z r k (Some d) e h = by (is_heard r.world k) refl
  where
    by : (b : Bool) → is_heard r.world k ≡ b → Rest (if is_heard r.world k then given_down z r k d else r)
    by true on =
        let same : (if is_heard r.world k then given_down z r k d else r) ≡ given_down z r k d =
        ap (λ b. if b then given_down z r k d else r) on in
        subst Rest (sym same) (down_lined z r k d on (subst (λ (v : RepeatWorld). HasEmptyLists v.world) same e) h)
    by false off = subst Rest (sym (ap (λ b. if b then given_down z r k d else r) off)) (rest_of z r h)

same_event_lined : (z : WorldSettings) (r : RepeatWorld) (e : Event) → HasEmptyLists (repeat_happens z r (Same e)).world → Holds z r
    → Rest (repeat_happens z r (Same e))
same_event_lined z r e empties h = by (uses_no_list e) refl
  where
    by : (b : Bool) → uses_no_list e ≡ b → Rest (if uses_no_list e then same_done z r e else r)
    by true on =
        let same : (if uses_no_list e then same_done z r e else r) ≡ same_done z r e = ap (λ b. if b then same_done z r e else r) on in
        subst Rest (sym same) (same_lined z r e on (subst (λ (v : RepeatWorld). HasEmptyLists v.world) same empties) h)
    by false off = subst Rest (sym (ap (λ b. if b then same_done z r e else r) off)) (rest_of z r h)

event_lined : (z : WorldSettings) (r : RepeatWorld) (e : RepeatEvent) → HasEmptyLists (repeat_happens z r e).world → Holds z r
    → Rest (repeat_happens z r e)
event_lined z r (Same e) empties h = same_event_lined z r e empties h
event_lined z r (Give k true place) empties h = give_up_lined z r k (slice_get r.ups place) h
event_lined z r (Give k false place) empties h = give_down_lined z r k (slice_get r.downs place) empties h

pub event_holds : (z : WorldSettings) (r : RepeatWorld) (e : RepeatEvent) → Holds z r → Holds z (repeat_happens z r e)
event_holds z r e h =
    let f = h.frames in
    let q = event_lined z r e (event_empties z r e f.empties) h in
    record {
      frames = frames.event_holds z r e h.frames;
      counted = event_counted z r e h.counted;
      lined = q.0;
      placed = q.1;
      waits = q.2;
    }

run_holds : (z : WorldSettings) (es : List RepeatEvent) (r : RepeatWorld) → Holds z r → Holds z (repeat_run z es r)
unfolding repeat_run
run_holds z [] r h = h
run_holds z (e ∷ es) r h = run_holds z es (repeat_happens z r e) (event_holds z r e h)

pub start_holds : (z : WorldSettings) → Holds z (repeat_start z)
start_holds z =
    record {
      frames = frames.start_holds z;
      counted = start_counted z;
      lined = λ j on. absurd (let h : false ≡ true = on in cc);
      placed = λ i u h. absurd (none_in [] i u refl h);
      waits = λ k id token e own. absurd (let h : None ≡ Some token = e in cc);
    }

pub dialogs_come_first : DialogsComeFirst
dialogs_come_first z es i u at = let h = run_holds z es (repeat_start z) (start_holds z) in h.placed i u at

pub awaited_was_put : AwaitedWasPut
awaited_was_put z es k id token e own = let h = run_holds z es (repeat_start z) (start_holds z) in h.waits k id token e own
