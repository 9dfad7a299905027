-- Each event of a repeat run spends of a server's window what it takes.
use Rattle.std.proofs.Common.{◌≡◌, ℕ, ◌==◌, ◌≤◌, ◌&&◌, Bool, true, false, if◌then◌else◌, List, [], ◌∷◌, refl, sym, ◌∙◌, ap, subst}
use Rattle.std.proofs.Common.{Option, Some, None, slice_get, eqb-true, arith, ◌⊎◌, inl, inr}
use Rattle.spec_exchange.specs.Table.{is_filled}
use Rattle.spec_exchange.specs.Network.{Event, Submit, Open, Push, Serve, Take, Cut, Drop, Restart, Crash, Wait, Finish, Sent, is_possible}
use Rattle.spec_exchange.specs.ClientStep.{Pushes, client_after, act}
use Rattle.spec_wire.specs.credits.Ids.{times}
use Rattle.spec_wire.specs.credits.Window.{HeldIds}
use Rattle.spec_world.specs.Settings.{WorldSettings}
use Rattle.spec_world.specs.Ends.{ServerEnd, ConnEnd, first_server_end}
use Rattle.spec_world.specs.Hearing.{check_frame}
use Rattle.spec_world.specs.Connection.{ConnectionStep}
use Rattle.spec_world.specs.World.{World, Wires, serve_frame, served_by, served_mutely, server_end_off, step_at, paid}
use Rattle.spec_world.specs.Events.{Plain, bytes_happen, bytes_changed, bytes_later}
use Rattle.spec_hostile.specs.RepeatRuns.{RepeatWorld, RepeatEvent, Same, Give, UpFrame, DownFrame, lists_as, loaded_up, loaded_down}
use Rattle.spec_hostile.specs.RepeatRuns.{sents, up_frames, uses_no_list, is_heard, own_connection, same_done, given_up, given_down, give_up, give_down, repeat_happens}
use Rattle.law_hostile.specs.taken_ids.Hands.{ids_heard}
use Rattle.law_hostile.specs.taken_ids.TakenIds.{ids_given, ids_now, ids_until, is_opened_by, is_open_of}
use Rattle.law_hostile.proofs.taken_ids.Spending.{Spends, stays, both, step_spends, frame_spends, once_from_first}
use Rattle.law_server.proofs.tables.Logic.{either}
use Rattle.law_nonces.proofs.negotiation.Tables.{put_same, put_other}
use Rattle.law_hostile.proofs.taken_ids.Ends.{put_ends, cut_ends, push_ends, take_ends}

-- of one server's end
Keeps : ℕ → World → World → Type 0
Keeps k w v = (v.wires k).server_end ≡ (w.wires k).server_end

-- ---- events that use no list

open_other : (z : WorldSettings) (w : World) (k j : ℕ) → (k == j) ≡ false → Keeps k w (bytes_changed z w (Open j))
unfolding Keeps
open_other z w k j e = ap (λ (u : Wires). u.server_end) (put_other w.wires j k _ e)

not_both : (a b : Bool) → (a && b) ≡ false → b ≡ true → a ≡ false
not_both true true e f = e
not_both true false e f = absurd (cc)
not_both false b e f = refl

happen_if : (z : WorldSettings) (w : World) (k : ℕ) (e : Event) → (is_possible w.values e ≡ true → Keeps k w (bytes_changed z w e))
    → Keeps k w (bytes_happen z w (Plain e))
unfolding Keeps
happen_if z w k e h =
    either (λ (v : World). (v.wires k).server_end ≡ (w.wires k).server_end) (is_possible w.values e) _ _ h (λ _. refl)

same_event : (z : WorldSettings) (w : World) (k : ℕ) (e : Event) → uses_no_list e ≡ true → (is_open_of k e && is_possible w.values e) ≡ false
    → is_possible w.values e ≡ true → Keeps k w (bytes_changed z w e)
unfolding Keeps
same_event z w k (Submit g op) s o p = refl
same_event z w k (Open j) s o p = open_other z w k j (not_both (k == j) (is_possible w.values (Open j)) o p)
same_event z w k (Push j slotless pick) s o p =
    let c = client_after w.values.client (Pushes j slotless (paid w j slotless pick)) in
    let a = act w.values.client (Pushes j slotless (paid w j slotless pick)) in
    push_ends w j c a k
same_event z w k (Serve j) s o p = absurd (cc)
same_event z w k (Take j) s o p = absurd (cc)
same_event z w k (Cut j) s o p = cut_ends w j k
same_event z w k (Drop j) s o p = put_ends w.wires j (server_end_off (w.wires j)) refl k
same_event z w k Restart s o p = refl
same_event z w k (Crash j kept) s o p = absurd (cc)
same_event z w k (Wait n) s o p = absurd (cc)
same_event z w k (Finish refusal) s o p = absurd (cc)

lists_end : (w : World) (k j : ℕ) (us : List UpFrame) (ds : List DownFrame) (heard : Bool) → Keeps k w (lists_as w j us ds heard)
unfolding Keeps
lists_end w k j us ds heard = put_ends w.wires j _ refl k

End : RepeatWorld → ℕ → ServerEnd
End r k = (r.world.wires k).server_end

same_end : (z : WorldSettings) (r : RepeatWorld) (k : ℕ) (e : Event) → is_opened_by r k (Same e) ≡ false → (b : Bool) → uses_no_list e ≡ b
    → End (if b then same_done z r e else r) k ≡ End r k
unfolding Keeps End
same_end z r k e o true s =
    let w = bytes_happen z r.world (Plain e) in
    lists_end w k (own_connection e) [] [] (is_heard w (own_connection e))
    ∙ happen_if z r.world k e (same_event z r.world k e s o)
same_end z r k e o false s = refl

-- ---- Give to a client's end

down_end : (z : WorldSettings) (r : RepeatWorld) (k j : ℕ) (d : DownFrame) → End (given_down z r j d) k ≡ End r k
unfolding Keeps End
down_end z r k j d =
    let v = loaded_down r j d in
    let w = bytes_happen z v (Plain (Take j)) in
    lists_end w k j [] [] (is_heard w j)
    ∙ (happen_if z v k (Take j) (λ _. take_ends z v j (v.wires j).down (v.values.conns j).down k)
    ∙ lists_end r.world k j [] (d ∷ []) true)

give_down_end : (z : WorldSettings) (r : RepeatWorld) (k j : ℕ) (o : Option DownFrame) → End (give_down z r j o) k ≡ End r k
unfolding End
give_down_end z r k j None = refl
give_down_end z r k j (Some d) =
    either (λ (v : RepeatWorld). (v.world.wires k).server_end ≡ (r.world.wires k).server_end) (is_heard r.world j) _ _
    (λ _. down_end z r k j d) (λ _. refl)

-- ---- Give to a server's end

by_end : (w : World) (k : ℕ) (bs : List (List ℕ)) (xs : List Sent) (x : Sent) (S : ConnectionStep) (o : Option ConnEnd)
    → ((served_by w k bs xs x.token S o).wires k).server_end ≡ S.server_end
by_end w k bs xs x S None = ap (λ (u : Wires). u.server_end) (put_same w.wires k _)
by_end w k bs xs x S (Some why) =
    let v = served_mutely w k bs xs x.token S in
    ap (λ (u : Wires). u.server_end) (put_same v.wires k (server_end_off (v.wires k)))
    ∙ ap (λ (u : Wires). u.server_end) (put_same w.wires k _)

by_other : (w : World) (k j : ℕ) (bs : List (List ℕ)) (xs : List Sent) (x : Sent) (S : ConnectionStep) (o : Option ConnEnd)
    → (k == j) ≡ false → ((served_by w j bs xs x.token S o).wires k).server_end ≡ (w.wires k).server_end
by_other w k j bs xs x S None e = ap (λ (u : Wires). u.server_end) (put_other w.wires j k _ e)
by_other w k j bs xs x S (Some why) e =
    let v = served_mutely w j bs xs x.token S in
    ap (λ (u : Wires). u.server_end) (put_other v.wires j k (server_end_off (v.wires j)) e)
    ∙ ap (λ (u : Wires). u.server_end) (put_other w.wires j k _ e)

serve_end : (z : WorldSettings) (w : World) (k : ℕ) (b : List ℕ) (x : Sent) (bs : List (List ℕ)) (xs : List Sent) → bs ≡ b ∷ []
    → xs ≡ x ∷ [] → ((serve_frame z w k bs xs).wires k).server_end ≡ (step_at z w k b).server_end
serve_end z w k b x bs xs e f =
    ap (λ (cs : List (List ℕ)). ((serve_frame z w k cs xs).wires k).server_end) e
    ∙ (ap (λ (ys : List Sent). ((serve_frame z w k (b ∷ []) ys).wires k).server_end) f
    ∙ by_end w k [] [] x (step_at z w k b) (step_at z w k b).ends)

serve_other : (z : WorldSettings) (w : World) (k j : ℕ) (bs : List (List ℕ)) (xs : List Sent) → (k == j) ≡ false
    → Keeps k w (serve_frame z w j bs xs)
unfolding Keeps
serve_other z w k j [] xs e = refl
serve_other z w k j (b ∷ bs) [] e = refl
serve_other z w k j (b ∷ bs) (x ∷ xs) e = by_other w k j bs xs x (step_at z w j b) (step_at z w j b).ends e

up_other : (z : WorldSettings) (r : RepeatWorld) (k j : ℕ) (u : UpFrame) → (k == j) ≡ false → End (given_up z r j u) k ≡ End r k
unfolding Keeps End
up_other z r k j u e =
    let v = loaded_up r j u in
    let w = bytes_happen z v (Plain (Serve j)) in
    lists_end w k j [] [] (is_heard r.world j)
    ∙ (happen_if z v k (Serve j) (λ _. serve_other z v k j (v.wires j).up (v.values.conns j).up e)
    ∙ lists_end r.world k j (u ∷ []) [] true)

-- the world in which it is served: one message waits, and the end is open
possible : (r : RepeatWorld) (k : ℕ) (u : UpFrame) → (r.world.values.conns k).server_open ≡ true
    → is_possible (loaded_up r k u).values (Serve k) ≡ true
unfolding is_filled sents
possible r k u o =
    let v = loaded_up r k u in
    let c = put_same r.world.values.conns k _ in
    ap (λ (d : _). d.server_open && is_filled d.up) c ∙ ap (λ b. b && true) o

up_own : (z : WorldSettings) (r : RepeatWorld) (k : ℕ) (u : UpFrame) → (r.world.values.conns k).server_open ≡ true
    → End (given_up z r k u) k ≡ (step_at z (loaded_up r k u) k u.frame).server_end
unfolding Keeps End sents up_frames
up_own z r k u o =
    let v = loaded_up r k u in
    let w = bytes_happen z v (Plain (Serve k)) in
    lists_end w k k [] [] (is_heard r.world k)
    ∙ (ap (λ b. ((if b then bytes_later (bytes_changed z v (Serve k)) 1 else v).wires k).server_end) (possible r k u o)
    ∙ serve_end z v k u.frame u.sent (v.wires k).up (v.values.conns k).up (ap (λ (t : Wires). t.up) (put_same r.world.wires k _))
    (ap (λ d. d.up) (put_same r.world.values.conns k _)))

up_spends : (z : WorldSettings) (r : RepeatWorld) (k : ℕ) (u : UpFrame) → (r.world.values.conns k).server_open ≡ true
    → Spends (End r k).window (End (given_up z r k u) k).window (ids_heard (check_frame (End r k) u.frame))
unfolding Keeps End
up_spends z r k u o =
    let v = loaded_up r k u in
    let before : (v.wires k).server_end ≡ (r.world.wires k).server_end = lists_end r.world k k (u ∷ []) [] true in
    let f = (v.wires k).server_end in
    let s = step_spends z.server k v.values.moment _ v.values.server v.logons f (check_frame f u.frame) (frame_spends f u.frame) in
    subst (λ (g : ServerEnd). Spends (r.world.wires k).server_end.window g.window (ids_heard (check_frame (r.world.wires k).server_end u.frame)))
    (sym (up_own z r k u o))
    (subst (λ (g : ServerEnd). Spends g.window (step_at z v k u.frame).server_end.window (ids_heard (check_frame g u.frame))) before s)

-- ---- one event, and a run

kept_spends : (f g : ServerEnd) → g ≡ f → Spends f.window g.window []
kept_spends f g e = subst (λ (h : ServerEnd). Spends f.window h.window []) (sym e) (stays f.window)

other_way : (j k : ℕ) → (j == k) ≡ false → (k == j) ≡ false
other_way j k e = grind arith

at_key : (z : WorldSettings) (r : RepeatWorld) (k j : ℕ) (u : UpFrame) → (r.world.values.conns j).server_open ≡ true → (b : Bool)
    → (j == k) ≡ b
    → Spends (End r k).window (End (given_up z r j u) k).window (if b then ids_heard (check_frame (End r k) u.frame) else [])
at_key z r k j u o true e =
    subst (λ i. (r.world.values.conns i).server_open ≡ true
    → Spends (End r k).window (End (given_up z r i u) k).window (ids_heard (check_frame (End r k) u.frame))) (sym (eqb-true j k e))
    (λ p. up_spends z r k u p) o
at_key z r k j u o false e = kept_spends (End r k) (End (given_up z r j u) k) (up_other z r k j u (other_way j k e))

opened : (z : WorldSettings) (r : RepeatWorld) (k j : ℕ) (u : UpFrame) (o : Bool) → (r.world.values.conns j).server_open ≡ o
    → Spends (End r k).window (End (if o then given_up z r j u else r) k).window
    (if o && (j == k) then ids_heard (check_frame (End r k) u.frame) else [])
opened z r k j u true e = at_key z r k j u e (j == k) refl
opened z r k j u false e = stays (End r k).window

given : (z : WorldSettings) (r : RepeatWorld) (k j : ℕ) (o : Option UpFrame)
    → Spends (End r k).window (End (give_up z r j o) k).window (ids_given r k j o)
unfolding End
given z r k j None = stays (End r k).window
given z r k j (Some u) = opened z r k j u (r.world.values.conns j).server_open refl

event_spends : (z : WorldSettings) (r : RepeatWorld) (k : ℕ) (e : RepeatEvent) → is_opened_by r k e ≡ false
    → Spends (End r k).window (End (repeat_happens z r e) k).window (ids_now r k e)
event_spends z r k (Same e) o =
    kept_spends (End r k) (End (repeat_happens z r (Same e)) k) (same_end z r k e o (uses_no_list e) refl)
event_spends z r k (Give j true place) o = given z r k j (slice_get r.ups place)
event_spends z r k (Give j false place) o =
    kept_spends (End r k) (End (give_down z r j (slice_get r.downs place)) k) (give_down_end z r k j (slice_get r.downs place))

run_spends : (z : WorldSettings) (k : ℕ) (es : List RepeatEvent) (r : RepeatWorld) → (v : HeldIds) × Spends (End r k).window v (ids_until z k r es)
unfolding ids_until
run_spends z k [] r = ((End r k).window, stays (End r k).window)
run_spends z k (e ∷ es) r =
    either (λ (ids : List ℕ). (v : HeldIds) × Spends (End r k).window v ids) (is_opened_by r k e) _ _
    (λ _. ((End r k).window, stays (End r k).window))
    (λ o. let s = repeat_happens z r e in let rest = run_spends z k es s in
    (rest.0, both (End r k).window (End s k).window rest.0 (ids_now r k e) (ids_until z k s es) (event_spends z r k e o) rest.1))

pub opening_takes_once : (z : WorldSettings) (k : ℕ) (r : RepeatWorld) (salt : List ℕ) (es : List RepeatEvent) (id : ℕ)
    → (r.world.wires k).server_end ≡ first_server_end salt → times id (ids_until z k r es) ≤ 1
unfolding End
opening_takes_once z k r salt es id e =
    let a = run_spends z k es r in
    once_from_first a.0 (ids_until z k r es) id
    (subst (λ (f : ServerEnd). Spends f.window a.0 (ids_until z k r es)) e a.1)

-- an event that doesn't open the connection anew
pub event_window : (z : WorldSettings) (r : RepeatWorld) (k : ℕ) (e : RepeatEvent) → is_opened_by r k e ≡ false
    → Spends (r.world.wires k).server_end.window ((repeat_happens z r e).world.wires k).server_end.window (ids_now r k e)
unfolding End
event_window z r k e off = event_spends z r k e off

-- ---- what becomes of a server's end

-- it is the one that is given a frame, which is put on connection k alone
pub record GivenEnd (z : WorldSettings) (r : RepeatWorld) (k : ℕ) (e : RepeatEvent) : Type 0 where
  pub place : ℕ
  pub put : UpFrame
  pub event : e ≡ Give k true place
  pub at : slice_get r.ups place ≡ Some put
  pub served : (r.world.values.conns k).server_open ≡ true
  pub before : ((loaded_up r k put).wires k).server_end ≡ (r.world.wires k).server_end
  pub behind : ((repeat_happens z r e).world.wires k).server_end ≡ (step_at z (loaded_up r k put) k put.frame).server_end

abbrev pub EndStays : WorldSettings → RepeatWorld → ℕ → RepeatEvent → Type 0
EndStays z r k e = ((repeat_happens z r e).world.wires k).server_end ≡ (r.world.wires k).server_end

if_true : {X : Type 0} (b : Bool) (x y : X) → b ≡ true → (if b then x else y) ≡ x
if_true true x y e = refl
if_true false x y e = absurd (let h : false ≡ true = e in cc)

given_here : (z : WorldSettings) (r : RepeatWorld) (k place : ℕ) (u : UpFrame) → slice_get r.ups place ≡ Some u
    → (r.world.values.conns k).server_open ≡ true → GivenEnd z r k (Give k true place)
unfolding Keeps End
given_here z r k place u at on =
    record {
      place = place;
      put = u;
      event = refl;
      at = at;
      served = on;
      before = lists_end r.world k k (u ∷ []) [] true;
      behind = ap (λ o. ((give_up z r k o).world.wires k).server_end) at
          ∙ (ap (λ (v : RepeatWorld). (v.world.wires k).server_end) (if_true (r.world.values.conns k).server_open (given_up z r k u) r on)
          ∙ up_own z r k u on);
    }

given_end : (z : WorldSettings) (r : RepeatWorld) (k j place : ℕ) (o : Option UpFrame) → slice_get r.ups place ≡ o
    → EndStays z r k (Give j true place) ⊎ GivenEnd z r k (Give j true place)
unfolding End
given_end z r k j place None at = inl (ap (λ o. ((give_up z r j o).world.wires k).server_end) at)
given_end z r k j place (Some u) at = by_open (r.world.values.conns j).server_open refl
  where
    by_key : (r.world.values.conns j).server_open ≡ true → (b : Bool) → (j == k) ≡ b
        → EndStays z r k (Give j true place) ⊎ GivenEnd z r k (Give j true place)
    by_key on true same =
        let e : j ≡ k = eqb-true j k same in
        inr (subst (λ i. GivenEnd z r k (Give i true place)) (sym e)
        (given_here z r k place u at (subst (λ i. (r.world.values.conns i).server_open ≡ true) e on)))
    by_key on false off =
        inl (ap (λ o. ((give_up z r j o).world.wires k).server_end) at
        ∙ (ap (λ (v : RepeatWorld). (v.world.wires k).server_end) (if_true (r.world.values.conns j).server_open (given_up z r j u) r on)
        ∙ up_other z r k j u (other_way j k off)))

    by_open : (b : Bool) → (r.world.values.conns j).server_open ≡ b
        → EndStays z r k (Give j true place) ⊎ GivenEnd z r k (Give j true place)
    by_open true on = by_key on (j == k) refl
    by_open false off =
        inl (ap (λ o. ((give_up z r j o).world.wires k).server_end) at
        ∙ ap (λ b. ((if b then given_up z r j u else r).world.wires k).server_end) off)

-- where an event doesn't open the connection anew
pub event_end : (z : WorldSettings) (r : RepeatWorld) (k : ℕ) (e : RepeatEvent) → is_opened_by r k e ≡ false
    → EndStays z r k e ⊎ GivenEnd z r k e
unfolding End
event_end z r k (Same e) off = inl (same_end z r k e off (uses_no_list e) refl)
event_end z r k (Give j true place) off = given_end z r k j place (slice_get r.ups place) refl
event_end z r k (Give j false place) off = inl (give_down_end z r k j (slice_get r.downs place))
