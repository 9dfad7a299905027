-- Between two openings a request is taken once: its id leaves the window when it is taken, and never comes back.
use Rattle.std.proofs.Common.{◌≡◌, ℕ, zero, suc, ◌+◌, ◌≤◌, ◌<◌, ◌==◌, ◌&&◌, Bool, true, false, if◌then◌else◌, List, [], ◌∷◌, ◌++◌, refl, sym, ◌∙◌}
use Rattle.std.proofs.Common.{ap, subst, Option, Some, None, slice_get, Ok, ⊎_elim, arith, eqb-true, eq-eqb, take}
use Rattle.std.proofs.lemmas.Bool.{cases_lt}
use Rattle.spec_exchange.specs.Table.{put}
use Rattle.spec_exchange.specs.Network.{Event, Submit, Open, Push, Serve, Take, Cut, Drop, Restart, Crash, Wait, Finish, is_possible}
use Rattle.spec_wire.specs.declared.messages.header.Header.{Header}
use Rattle.spec_wire.specs.credits.Ids.{times}
use Rattle.spec_wire.specs.credits.Window.{HeldIds, first_window}
use Rattle.law_server.proofs.tables.Logic.{either, front_of, back_of, both}
use Rattle.spec_world.specs.Settings.{WorldSettings, draw}
use Rattle.spec_world.specs.Messages.{header_in}
use Rattle.spec_world.specs.Ends.{ServerEnd, first_server_end}
use Rattle.spec_world.specs.Hearing.{Checked, Frame, check_frame, is_cancel, is_setup}
use Rattle.spec_world.specs.World.{Wires, opened_wires}
use Rattle.spec_world.specs.Events.{Plain, bytes_happen, bytes_later}
use Rattle.spec_hostile.specs.RepeatRuns.{RepeatWorld, RepeatEvent, Same, Give, UpFrame, uses_no_list}
use Rattle.spec_hostile.specs.RepeatRuns.{with_opening, same_done, is_served, is_heard, give_up, give_down, given_up, given_down}
use Rattle.spec_hostile.specs.RepeatRuns.{DownFrame, repeat_happens, repeat_run, repeat_start}
use Rattle.spec_hostile.specs.SignedFor.{Watched, SignedEntry, OnOpening, InSession, VerifiesUp, Takes, TakesUp}
use Rattle.spec_hostile.specs.SignedFor.{TakesDown, watching}
use Rattle.law_hostile.specs.taken_ids.Hands.{taken_id, taken_ids_in, ids_heard}
use Rattle.law_hostile.specs.taken_ids.TakenIds.{ids_given, ids_now, is_open_of, is_opened_by}
use Rattle.law_hostile.specs.taken_ids.TakenOnce.{watched, SignedTakesOnce}
use Rattle.law_hostile.proofs.taken_ids.Times.{times-append, times-here, AllAdded, first_added}
use Rattle.law_hostile.proofs.taken_ids.Spending.{Spends, stays, both as spend_both}
use Rattle.law_hostile.proofs.taken_ids.Ends.{put_ends}
use Rattle.law_hostile.proofs.taken_ids.Runs.{event_window}
use Rattle.law_hostile.proofs.taken_ids.Headers.{header_is}
use Rattle.law_hostile.proofs.puts.Growing.{watches_run}

abbrev pub window_at : RepeatWorld → ℕ → HeldIds
window_at r k = (r.world.wires k).server_end.window

-- ---- a window holds each id at most once

pub record HeldOnce (w : HeldIds) : Type 0 where
  pub added : AllAdded w
  pub once : (id : ℕ) → times id w.held ≤ 1

one_id : (n : ℕ) → times n (0 ∷ []) ≤ 1
one_id zero = let e = times-here 0 [] in omega (arith, e)
one_id (suc n) = let e = first_added (suc n) (omega arith) in omega (arith, e)

pub first_once : HeldOnce first_window
first_once = record { added = first_added; once = one_id }

-- what was taken and what is held of one id
spent_once : (w v : HeldIds) (ids : List ℕ) → HeldOnce w → Spends w v ids → (id : ℕ) → times id ids + times id v.held ≤ 1
spent_once w v ids h s id =
    ⊎_elim
    (λ (l : id < w.next). let o = s.old h.added id l in let m = h.once id in omega (arith, o, m))
    (λ (le : w.next ≤ id). ⊎_elim (λ (l : id < v.next). s.new h.added id le l)
    (λ (far : v.next ≤ id). let f = s.far h.added id far in let z = s.added h.added id far in omega (arith, f, z)) (cases_lt id v.next))
    (cases_lt id w.next)

held_behind : (w v : HeldIds) (ids : List ℕ) → HeldOnce w → Spends w v ids → HeldOnce v
held_behind w v ids h s =
    record { added = s.added h.added; once = λ id. (let o = spent_once w v ids h s id in omega (arith, o)) }

-- ---- an event that opens the connection anew

put_at : (f : ℕ → Wires) (j k : ℕ) (u : Wires) → (k == j) ≡ true → (put f j u k).server_end ≡ u.server_end
put_at f j k u e = ap (λ b. (if b then u else f k).server_end) e

-- as an Accept leaves it
abbrev pub IsFirst : RepeatWorld → ℕ → Type 0
IsFirst r k = (salt : List ℕ) × ((r.world.wires k).server_end ≡ first_server_end salt)

opened_end : (z : WorldSettings) (r : RepeatWorld) (k j : ℕ) → (k == j) ≡ true → is_possible r.world.values (Open j) ≡ true
    → IsFirst (same_done z r (Open j)) k
opened_end z r k j same may = let w = bytes_happen z r.world (Plain (Open j)) in (
  take 32 (draw z.seed (r.world.draws + 3)),
  put_ends w.wires j _ refl k
      ∙ (ap (λ b. ((if b then bytes_later (opened_wires z r.world j) 1 else r.world).wires k).server_end) may
      ∙ put_at r.world.wires j k _ same),
)

opened_window : (z : WorldSettings) (r : RepeatWorld) (k : ℕ) (e : Event) → (is_open_of k e && is_possible r.world.values e) ≡ true
    → IsFirst (repeat_happens z r (Same e)) k
opened_window z r k (Open j) t =
    opened_end z r k j (front_of (k == j) (is_possible r.world.values (Open j)) t) (back_of (k == j) (is_possible r.world.values (Open j)) t)
opened_window z r k (Submit g op) t = absurd (let q : false ≡ true = t in cc)
opened_window z r k (Push j slotless pick) t = absurd (let q : false ≡ true = t in cc)
opened_window z r k (Serve j) t = absurd (let q : false ≡ true = t in cc)
opened_window z r k (Take j) t = absurd (let q : false ≡ true = t in cc)
opened_window z r k (Cut j) t = absurd (let q : false ≡ true = t in cc)
opened_window z r k (Drop j) t = absurd (let q : false ≡ true = t in cc)
opened_window z r k Restart t = absurd (let q : false ≡ true = t in cc)
opened_window z r k (Crash j kept) t = absurd (let q : false ≡ true = t in cc)
opened_window z r k (Wait n) t = absurd (let q : false ≡ true = t in cc)
opened_window z r k (Finish refusal) t = absurd (let q : false ≡ true = t in cc)

pub event_opened : (z : WorldSettings) (r : RepeatWorld) (k : ℕ) (e : RepeatEvent) → is_opened_by r k e ≡ true
    → IsFirst (repeat_happens z r e) k
event_opened z r k (Same e) t = opened_window z r k e t
event_opened z r k (Give j up place) t = absurd (let q : false ≡ true = t in cc)

pub event_once : (z : WorldSettings) (r : RepeatWorld) (k : ℕ) (e : RepeatEvent) → HeldOnce (window_at r k)
    → HeldOnce (window_at (repeat_happens z r e) k)
event_once z r k e h = by_opening (is_opened_by r k e) refl
  where
    by_opening : (b : Bool) → is_opened_by r k e ≡ b → HeldOnce (window_at (repeat_happens z r e) k)
    by_opening true t = (
        let f = event_opened z r k e t in
        subst HeldOnce (sym (ap (λ (g : ServerEnd). g.window) f.1)) first_once)
    by_opening false t =
        held_behind (window_at r k) (window_at (repeat_happens z r e) k) (ids_now r k e) h (event_window z r k e t)

pub run_once : (z : WorldSettings) (es : List RepeatEvent) (r : RepeatWorld) (k : ℕ) → HeldOnce (window_at r k)
    → HeldOnce (window_at (repeat_run z es r) k)
unfolding repeat_run
run_once z [] r k h = h
run_once z (e ∷ es) r k h = run_once z es (repeat_happens z r e) k (event_once z r k e h)

-- ---- how often a connection was opened

other_way : (j k : ℕ) → (j == k) ≡ true → (k == j) ≡ true
other_way j k e = eq-eqb k j (sym (eqb-true j k e))

put_more : (f : ℕ → ℕ) (j k : ℕ) (b : Bool) → (k == j) ≡ b → put f j (f j + 1) k ≡ f k + (if b then 1 else 0)
put_more f j k true e = let s = eqb-true k j e in subst (λ i. put f i (f i + 1) k ≡ f k + 1) s (self f k)
  where
    self : (f : ℕ → ℕ) (k : ℕ) → put f k (f k + 1) k ≡ f k + 1
    self f k = ap (λ b. if b then f k + 1 else f k) (eq-eqb k k refl)
put_more f j k false e = ap (λ b. if b then f j + 1 else f k) e ∙ omega arith

counted_if : (r : RepeatWorld) (j k : ℕ) (b c : Bool) → (k == j) ≡ c
    → (if b then record r { openings = put r.openings j (r.openings j + 1) } else r).openings k
    ≡ r.openings k + (if c && b then 1 else 0)
counted_if r j k true true e = put_more r.openings j k true e
counted_if r j k true false e = put_more r.openings j k false e
counted_if r j k false true e = omega arith
counted_if r j k false false e = omega arith

opening_counts : (r : RepeatWorld) (k : ℕ) (e : Event)
    → (with_opening r e).openings k ≡ r.openings k + (if is_open_of k e && is_possible r.world.values e then 1 else 0)
opening_counts r k (Open j) = counted_if r j k (is_possible r.world.values (Open j)) (k == j) refl
opening_counts r k (Submit g op) = omega arith
opening_counts r k (Push j slotless pick) = omega arith
opening_counts r k (Serve j) = omega arith
opening_counts r k (Take j) = omega arith
opening_counts r k (Cut j) = omega arith
opening_counts r k (Drop j) = omega arith
opening_counts r k Restart = omega arith
opening_counts r k (Crash j kept) = omega arith
opening_counts r k (Wait n) = omega arith
opening_counts r k (Finish refusal) = omega arith

-- an event that isn't among those that use no list opens nothing
opens_no_list : (k : ℕ) (e : Event) → uses_no_list e ≡ false → is_open_of k e ≡ false
opens_no_list k (Open j) u = absurd (let q : true ≡ false = u in cc)
opens_no_list k (Submit g op) u = refl
opens_no_list k (Push j slotless pick) u = refl
opens_no_list k (Serve j) u = refl
opens_no_list k (Take j) u = refl
opens_no_list k (Cut j) u = refl
opens_no_list k (Drop j) u = refl
opens_no_list k Restart u = refl
opens_no_list k (Crash j kept) u = refl
opens_no_list k (Wait n) u = refl
opens_no_list k (Finish refusal) u = refl

none_more : (n : ℕ) → n ≡ n + 0
none_more n = omega arith

same_counts : (z : WorldSettings) (r : RepeatWorld) (k : ℕ) (e : Event) (b : Bool) → uses_no_list e ≡ b
    → (if b then same_done z r e else r).openings k
    ≡ r.openings k + (if is_open_of k e && is_possible r.world.values e then 1 else 0)
same_counts z r k e true u = opening_counts r k e
same_counts z r k e false u =
    none_more (r.openings k)
    ∙ ap (λ b. r.openings k + (if b && is_possible r.world.values e then 1 else 0)) (sym (opens_no_list k e u))

up_counts : (z : WorldSettings) (r : RepeatWorld) (j : ℕ) (o : Option UpFrame) → (give_up z r j o).openings ≡ r.openings
up_counts z r j None = refl
up_counts z r j (Some u) =
    either (λ (v : RepeatWorld). v.openings ≡ r.openings) (is_served r.world j) (given_up z r j u) r (λ _. refl) (λ _. refl)

down_counts : (z : WorldSettings) (r : RepeatWorld) (j : ℕ) (o : Option DownFrame) → (give_down z r j o).openings ≡ r.openings
down_counts z r j None = refl
down_counts z r j (Some d) =
    either (λ (v : RepeatWorld). v.openings ≡ r.openings) (is_heard r.world j) (given_down z r j d) r (λ _. refl) (λ _. refl)

pub event_counts : (z : WorldSettings) (r : RepeatWorld) (k : ℕ) (e : RepeatEvent)
    → (repeat_happens z r e).openings k ≡ r.openings k + (if is_opened_by r k e then 1 else 0)
event_counts z r k (Same e) = same_counts z r k e (uses_no_list e) refl
event_counts z r k (Give j true place) = ap (λ (f : ℕ → ℕ). f k) (up_counts z r j (slice_get r.ups place)) ∙ none_more (r.openings k)
event_counts z r k (Give j false place) = ap (λ (f : ℕ → ℕ). f k) (down_counts z r j (slice_get r.downs place)) ∙ none_more (r.openings k)

rises : (z : WorldSettings) (es : List RepeatEvent) (r : RepeatWorld) (k : ℕ) → r.openings k ≤ (repeat_run z es r).openings k
unfolding repeat_run
rises z [] r k = omega arith
rises z (e ∷ es) r k =
    let c = event_counts z r k e in let m = rises z es (repeat_happens z r e) k in
    at_least (r.openings k) ((repeat_happens z r e).openings k) ((repeat_run z es (repeat_happens z r e)).openings k)
    (is_opened_by r k e) c m
  where
    at_least : (a b c : ℕ) (t : Bool) → b ≡ a + (if t then 1 else 0) → b ≤ c → a ≤ c
    at_least a b c true e l = omega (arith, e, l)
    at_least a b c false e l = omega (arith, e, l)

-- ---- what is taken along a run, opened anew or not

ids_along : WorldSettings → ℕ → RepeatWorld → List RepeatEvent → List ℕ
ids_along z k r [] = []
ids_along z k r (e ∷ es) = ids_now r k e ++ ids_along z k (repeat_happens z r e) es

not_opened : (a b c : ℕ) (t : Bool) → b ≡ a + (if t then 1 else 0) → b ≤ c → c ≡ a → t ≡ false
not_opened a b c true e l s = absurd (omega (arith, e, l, s))
not_opened a b c false e l s = refl

stays_so : (a b c : ℕ) (t : Bool) → t ≡ false → b ≡ a + (if t then 1 else 0) → c ≡ a → c ≡ b
stays_so a b c true t e s = absurd (cc)
stays_so a b c false t e s = omega (arith, e, s)

along : (z : WorldSettings) (es : List RepeatEvent) (r : RepeatWorld) (k : ℕ) → (repeat_run z es r).openings k ≡ r.openings k
    → Spends (window_at r k) (window_at (repeat_run z es r) k) (ids_along z k r es)
unfolding repeat_run ids_along
along z [] r k same = stays (window_at r k)
along z (e ∷ es) r k same =
    let v = repeat_happens z r e in
    let c = event_counts z r k e in
    let off = not_opened (r.openings k) (v.openings k) ((repeat_run z es v).openings k) (is_opened_by r k e) c (rises z es v k) same in
    spend_both (window_at r k) (window_at v k) (window_at (repeat_run z es v) k) (ids_now r k e) (ids_along z k v es)
    (event_window z r k e off)
    (along z es v k (stays_so (r.openings k) (v.openings k) ((repeat_run z es v).openings k) (is_opened_by r k e) off c same))

-- ---- an end that takes a message takes its id

id_of_entry : SignedEntry → ℕ
id_of_entry x = (header_in x.message).message

-- at this event, in this opening
record Took (r : RepeatWorld) (k n id : ℕ) (e : RepeatEvent) : Type 0 where
  pub opening : r.openings k ≡ n
  pub takes : 1 ≤ times id (ids_now r k e)
  pub opens : is_opened_by r k e ≡ false

pub same_opening : (j m k n : ℕ) → OnOpening j m ≡ OnOpening k n → (j ≡ k) × (m ≡ n)
same_opening j m k n e = (cc, cc)

pub not_session : (s k n : ℕ) → InSession s ≡ OnOpening k n → ⊥
not_session s k n e = absurd (cc)

here_first : (id : ℕ) (c : Checked) (cs : List Checked) → is_cancel c.header ≡ false → c.header.message ≡ id → 1 ≤ times id (taken_ids_in (c ∷ cs))
unfolding taken_ids_in
here_first id c cs off same =
    let e : taken_id c ≡ c.header.message ∷ [] = ap (λ b. if b then [] else c.header.message ∷ []) off in
    let a = times-append id (taken_id c) (taken_ids_in cs) in
    let h : times id (taken_id c) ≡ 1 =
    ap (times id) e ∙ subst (λ i. times id (i ∷ []) ≡ 1) (sym same) (times-here id [] ∙ refl) in
    omega (arith, a, h)

among_ids : (id : ℕ) (cs : List Checked) (i : ℕ) (c : Checked) → slice_get cs i ≡ Some c → is_cancel c.header ≡ false
    → c.header.message ≡ id → 1 ≤ times id (taken_ids_in cs)
unfolding taken_ids_in
among_ids id [] zero c h off same = absurd (let q : None ≡ Some c = h in cc)
among_ids id [] (suc i) c h off same = absurd (let q : None ≡ Some c = h in cc)
among_ids id (v ∷ cs) zero c h off same =
    let s : v ≡ c = (let q : Some v ≡ Some c = h in cc) in
    here_first id v cs (subst (λ (y : Checked). is_cancel y.header ≡ false) (sym s) off)
    (subst (λ (y : Checked). y.header.message ≡ id) (sym s) same)
among_ids id (v ∷ cs) (suc i) c h off same =
    let rest = among_ids id cs i c h off same in
    let a = times-append id (taken_id v) (taken_ids_in cs) in
    omega (arith, a, rest)

place_of : (t : Watched) (j : ℕ) (f : ServerEnd) (c : Checked) (x : SignedEntry) (b : Bool) (k n : ℕ) → VerifiesUp t j f c x b
    → x.place ≡ OnOpening k n → OnOpening j (t.repeating.openings j) ≡ OnOpening k n
place_of t j f c x true k n h at = absurd (not_session c.header.session k n (sym h.3 ∙ at))
place_of t j f c x false k n h at = sym h.2 ∙ at

given_ids : (r : RepeatWorld) (j place : ℕ) (u : UpFrame) (y : Frame) → slice_get r.ups place ≡ Some u → is_served r.world j ≡ true
    → check_frame (r.world.wires j).server_end u.frame ≡ Ok y → ids_now r j (Give j true place) ≡ taken_ids_in y.messages
given_ids r j place u y at served ok =
    ap (λ o. ids_given r j j o) at
    ∙ (ap (λ b. if b then ids_heard (check_frame (r.world.wires j).server_end u.frame) else [])
    (both (is_served r.world j) (j == j) served (eq-eqb j j refl))
    ∙ ap ids_heard ok)

took_in : (z : WorldSettings) (t : Watched) (e : RepeatEvent) (x : SignedEntry) (k n : ℕ) → x.to_server ≡ true
    → x.place ≡ OnOpening k n → is_cancel (header_in x.message) ≡ false → Takes z t x e → Took t.repeating k n (id_of_entry x) e
unfolding id_of_entry
took_in z t e x k n way at off (TakesUp j p i u y c put_ served ok on taken) =
    let r = t.repeating in
    let same = same_opening j (r.openings j) k n (place_of t j y.server_end c x (is_setup c.header) k n taken.4 at) in
    let head : c.header ≡ header_in x.message =
    header_is (r.world.wires j).server_end u.frame y i c ok on ∙ ap header_in (sym taken.3) in
    let one = among_ids (header_in x.message).message y.messages i c on (ap is_cancel head ∙ off) (ap (λ (h : Header). h.message) head) in
    let g = given_ids r j p u y put_ served ok in
    let all : 1 ≤ times (header_in x.message).message (ids_now r j (Give j true p)) =
    subst (λ l. 1 ≤ times (header_in x.message).message l) (sym g) one in
    subst (λ i. Took r i n (header_in x.message).message (Give j true p)) same.0
    (record { opening = same.1; takes = all; opens = refl })
took_in z t e x k n way at off (TakesDown j p d put_ heard other is taken) = absurd (cc)

-- ---- two events that take one id in one opening

no_second : (w v u : HeldIds) (xs ys : List ℕ) (id : ℕ) → HeldOnce w → Spends w v xs → Spends v u ys → 1 ≤ times id xs
    → 1 ≤ times id ys → ⊥
no_second w v u xs ys id h p q one two =
    let spent = spent_once w v xs h p id in
    ⊎_elim
    (λ (l : id < v.next). let o = q.old (p.added h.added) id l in omega (arith, spent, o, one, two))
    (λ (le : v.next ≤ id). let f = p.far h.added id le in omega (arith, f, one))
    (cases_lt id v.next)

behind_first : (z : WorldSettings) (e : RepeatEvent) (es : List RepeatEvent) (r : RepeatWorld) (k id : ℕ)
    → 1 ≤ times id (ids_now r k e) → 1 ≤ times id (ids_along z k r (e ∷ es))
unfolding ids_along
behind_first z e es r k id one =
    let a = times-append id (ids_now r k e) (ids_along z k (repeat_happens z r e) es) in omega (arith, a, one)

taken_twice : (z : WorldSettings) (first second : RepeatEvent) (between : List RepeatEvent) (r : RepeatWorld) (k n id : ℕ)
    → HeldOnce (window_at r k) → Took r k n id first → Took (repeat_run z (first ∷ between) r) k n id second → ⊥
taken_twice z first second between r k n id h a b =
    let v = repeat_run z (first ∷ between) r in
    no_second (window_at r k) (window_at v k) (window_at (repeat_happens z v second) k) (ids_along z k r (first ∷ between))
    (ids_now v k second) id h (along z (first ∷ between) r k (b.opening ∙ sym a.opening)) (event_window z v k second b.opens)
    (behind_first z first between r k id a.takes) b.takes

run_append : (z : WorldSettings) (xs ys : List RepeatEvent) (r : RepeatWorld) → repeat_run z (xs ++ ys) r ≡ repeat_run z ys (repeat_run z xs r)
unfolding repeat_run
run_append z [] ys r = refl
run_append z (x ∷ xs) ys r = run_append z xs ys (repeat_happens z r x)

first_window_once : (z : WorldSettings) (k : ℕ) → HeldOnce (window_at (repeat_start z) k)
first_window_once z k = first_once

pub signed_takes_once : SignedTakesOnce
unfolding id_of_entry
signed_takes_once z before between first second x y k n way_x way_y at_x at_y off_x off_y same one two =
    let t = watching (repeat_start z) in
    let r = repeat_run z before (repeat_start z) in
    let id = (header_in x.message).message in
    let a : Took r k n id first =
    subst (λ (v : RepeatWorld). Took v k n id first) (watches_run z before t)
    (took_in z (watched z before) first x k n way_x at_x off_x one) in
    let v = repeat_run z (first ∷ between) r in
    let own : Took v k n (header_in y.message).message second =
    subst (λ (w : RepeatWorld). Took w k n (header_in y.message).message second)
    (watches_run z (before ++ first ∷ between) t ∙ run_append z before (first ∷ between) (repeat_start z))
    (took_in z (watched z (before ++ first ∷ between)) second y k n way_y at_y off_y two) in
    taken_twice z first second between r k n id (run_once z before (repeat_start z) k (first_window_once z k)) a
    (subst (λ i. Took v k n i second) (sym same) own)
