-- Along a repeat run the ids of what goes up in one opening of a connection rise.
use Rattle.std.proofs.Common.{◌≡◌, ℕ, zero, suc, ◌+◌, ◌≤◌, ◌<◌, ◌==◌, ◌&&◌, Bool, true, false, if◌then◌else◌, List, [], ◌∷◌, ◌++◌, ◌⊎◌, inl, inr}
use Rattle.std.proofs.Common.{refl, sym, ◌∙◌, ap, arith, subst, length, Option, Some, None, slice_get, eqb-true, eq-eqb}
use Rattle.law_server.proofs.tables.Logic.{either}
use Rattle.law_records.proofs.recovery.Lists.{put_here}
use Rattle.spec_exchange.specs.Table.{put}
use Rattle.spec_exchange.specs.Status.{success}
use Rattle.spec_exchange.specs.State.{Accept}
use Rattle.spec_exchange.specs.Step.{step}
use Rattle.spec_exchange.specs.Network.{Conn, Sent, Event, Submit, Open, Push, Serve, Take, Cut, Drop, Restart, Crash, Wait, Finish, fresh, is_possible}
use Rattle.spec_world.specs.Settings.{WorldSettings}
use Rattle.spec_world.specs.World.{World, opened_wires}
use Rattle.spec_world.specs.Events.{Plain, bytes_happen, bytes_later}
use Rattle.spec_hostile.specs.RepeatRuns.{RepeatWorld, RepeatEvent, Same, Give, UpFrame, DownFrame, puts_up, new_ups, is_heard, is_served}
use Rattle.spec_hostile.specs.RepeatRuns.{uses_no_list, own_connection, is_opening, with_opening, same_done, loaded_up, loaded_down, sents}
use Rattle.spec_hostile.specs.RepeatRuns.{given_up, given_down, give_up, give_down, repeat_happens, repeat_run, repeat_start}
use Rattle.law_hostile.specs.empties.Empties.{HasEmptyLists}
use Rattle.law_hostile.specs.ids.OwnIds.{id_of_put, OwnIdsRise}
use Rattle.law_hostile.proofs.empties.Runs.{event_empties, start_empties}
use Rattle.law_hostile.proofs.puts.Growing.{none_in}
use Rattle.law_hostile.proofs.ids.Sending.{PutsOne, Puts, PutsAll, same_puts, takes_puts}
use Rattle.law_hostile.proofs.ids.Served.{Emptied, serve_empties, lists_ids}

-- what was put, with these openings, and these next ids of the present ones
record Rising (next openings : ℕ → ℕ) (us : List UpFrame) : Type 0 where
  early : (i : ℕ) (u : UpFrame) → slice_get us i ≡ Some u → u.opening ≤ openings u.connection
  below : (i : ℕ) (u : UpFrame) → slice_get us i ≡ Some u → u.opening ≡ openings u.connection → id_of_put u < next u.connection
  rising :
      (i j : ℕ) (u v : UpFrame) → i < j → slice_get us i ≡ Some u → slice_get us j ≡ Some v → u.connection ≡ v.connection
      → u.opening ≡ v.opening → id_of_put u < id_of_put v

-- ---- lists

-- an index of a longer list is one of the list before it, or its last
pub last_get : (us : List UpFrame) (x : UpFrame) (n : ℕ) (y : UpFrame) → slice_get (us ++ x ∷ []) n ≡ Some y
    → ((n < length us) × (slice_get us n ≡ Some y)) ⊎ ((n ≡ length us) × (x ≡ y))
last_get [] x zero y h = inr (refl, (let q : Some x ≡ Some y = h in cc))
last_get [] x (suc n) y h = absurd (none_in [] n y refl h)
last_get (u ∷ us) x zero y h = inl (omega arith, h)
last_get (u ∷ us) x (suc n) y h = more (last_get us x n y h)
  where
    more : ((n < length us) × (slice_get us n ≡ Some y)) ⊎ ((n ≡ length us) × (x ≡ y))
        → ((suc n < length (u ∷ us)) × (slice_get (u ∷ us) (suc n) ≡ Some y)) ⊎ ((suc n ≡ length (u ∷ us)) × (x ≡ y))
    more (inl p) = let l = p.0 in inl (omega (arith, l), p.1)
    more (inr p) = let l = p.0 in inr (omega (arith, l), p.1)

-- ---- steps of a list

less_on : (a b c : ℕ) → a < b → b ≤ c → a < c
less_on a b c l m = omega (arith, l, m)

grown : (next more openings : ℕ → ℕ) (us : List UpFrame) → ((j : ℕ) → next j ≤ more j) → Rising next openings us → Rising more openings us
grown next more openings us up i =
    record {
      early = i.early;
      below = λ n u h o. less_on (id_of_put u) (next u.connection) (more u.connection) (i.below n u h o) (up u.connection);
      rising = i.rising;
    }

-- one more of the present opening, above all of it
record LastPut (next more openings : ℕ → ℕ) (x : UpFrame) : Type 0 where
  present : x.opening ≡ openings x.connection
  above : next x.connection ≤ id_of_put x
  under : id_of_put x < more x.connection

less_than : (a b c : ℕ) → a < b → b ≤ c → a < c
less_than a b c l m = omega (arith, l, m)

one_more : (next more openings : ℕ → ℕ) (us : List UpFrame) (x : UpFrame) → ((j : ℕ) → next j ≤ more j) → LastPut next more openings x
    → Rising next openings us → Rising more openings (us ++ x ∷ [])
one_more next more openings us x up l i =
    record {
      early = λ n u h. early_by n u (last_get us x n u h);
      below = λ n u h o. below_by n u o (last_get us x n u h);
      rising = λ n m u v lt h g c o. rising_by n m u v lt c o (last_get us x n u h) (last_get us x m v g);
    }
  where
    early_by : (n : ℕ) (u : UpFrame) → ((n < length us) × (slice_get us n ≡ Some u)) ⊎ ((n ≡ length us) × (x ≡ u))
        → u.opening ≤ openings u.connection
    early_by n u (inl p) = i.early n u p.1
    early_by n u (inr p) = subst (λ (y : UpFrame). y.opening ≤ openings y.connection) p.1 (let e = l.present in omega (arith, e))

    below_by : (n : ℕ) (u : UpFrame) → u.opening ≡ openings u.connection
        → ((n < length us) × (slice_get us n ≡ Some u)) ⊎ ((n ≡ length us) × (x ≡ u)) → id_of_put u < more u.connection
    below_by n u o (inl p) = less_on (id_of_put u) (next u.connection) (more u.connection) (i.below n u p.1 o) (up u.connection)
    below_by n u o (inr p) = subst (λ (y : UpFrame). id_of_put y < more y.connection) p.1 l.under

    under_last : (n : ℕ) (u : UpFrame) → slice_get us n ≡ Some u → u.connection ≡ x.connection → u.opening ≡ x.opening
        → id_of_put u < id_of_put x
    under_last n u h c o =
        let b = i.below n u h (o ∙ (l.present ∙ ap openings (sym c))) in
        less_than (id_of_put u) (next x.connection) (id_of_put x) (subst (λ k. id_of_put u < next k) c b) l.above

    rising_by : (n m : ℕ) (u v : UpFrame) → n < m → u.connection ≡ v.connection → u.opening ≡ v.opening
        → ((n < length us) × (slice_get us n ≡ Some u)) ⊎ ((n ≡ length us) × (x ≡ u))
        → ((m < length us) × (slice_get us m ≡ Some v)) ⊎ ((m ≡ length us) × (x ≡ v)) → id_of_put u < id_of_put v
    rising_by n m u v lt c o (inl p) (inl q) = i.rising n m u v lt p.1 q.1 c o
    rising_by n m u v lt c o (inl p) (inr q) =
        subst (λ (y : UpFrame). id_of_put u < id_of_put y) q.1
        (under_last n u p.1 (c ∙ ap (λ (y : UpFrame). y.connection) (sym q.1)) (o ∙ ap (λ (y : UpFrame). y.opening) (sym q.1)))
    rising_by n m u v lt c o (inr p) (inl q) = absurd (let a = p.0 in let b = q.0 in omega (arith, a, b, lt))
    rising_by n m u v lt c o (inr p) (inr q) = absurd (let a = p.0 in let b = q.0 in omega (arith, a, b, lt))

pub nothing_more : (us : List UpFrame) → us ++ [] ≡ us
nothing_more [] = refl
nothing_more (u ∷ us) = ap (λ vs. u ∷ vs) (nothing_more us)

-- ---- what is collected

pub put_none : (k n : ℕ) (bs : List (List ℕ)) → puts_up k n bs [] ≡ []
unfolding puts_up
put_none k n [] = refl
put_none k n (b ∷ bs) = refl

up_frame : ℕ → ℕ → List ℕ → Sent → UpFrame
up_frame k n b x = record { frame = b; sent = x; connection = k; opening = n }

put_one : (k n : ℕ) (bs : List (List ℕ)) (x : Sent)
    → (puts_up k n bs (x ∷ []) ≡ []) ⊎ ((b : List ℕ) × (puts_up k n bs (x ∷ []) ≡ up_frame k n b x ∷ []))
unfolding puts_up up_frame
put_one k n [] x = inl refl
put_one k n (b ∷ bs) x = inr (b, ap (λ l. up_frame k n b x ∷ l) (put_none k n bs))

next_of : World → ℕ → ℕ
next_of w j = (w.values.conns j).next_id

-- what stands on the list of connection k goes behind what was put
collect : (next more openings : ℕ → ℕ) (us : List UpFrame) (k n id : ℕ) (w : World) → n ≡ openings k → ((j : ℕ) → next j ≤ more j)
    → next k ≤ id → more k ≡ next_of w k → ((w.values.conns k).up ≡ []) ⊎ PutsOne id (w.values.conns k) → Rising next openings us
    → Rising more openings (us ++ new_ups w k n)
unfolding next_of up_frame
collect next more openings us k n id w here up above under (inl e) i =
    let none : new_ups w k n ≡ [] = ap (λ xs. puts_up k n (w.wires k).up xs) e ∙ put_none k n (w.wires k).up in
    subst (λ vs. Rising more openings (us ++ vs)) (sym none)
    (subst (λ vs. Rising more openings vs) (sym (nothing_more us)) (grown next more openings us up i))
collect next more openings us k n id w here up above under (inr p) i =
    subst (λ xs. Rising more openings (us ++ puts_up k n (w.wires k).up xs)) (sym p.up) (told (put_one k n (w.wires k).up p.sent))
  where
    told : (puts_up k n (w.wires k).up (p.sent ∷ []) ≡ [])
        ⊎ ((b : List ℕ) × (puts_up k n (w.wires k).up (p.sent ∷ []) ≡ up_frame k n b p.sent ∷ []))
        → Rising more openings (us ++ puts_up k n (w.wires k).up (p.sent ∷ []))
    told (inl e) =
        subst (λ vs. Rising more openings (us ++ vs)) (sym e)
        (subst (λ vs. Rising more openings vs) (sym (nothing_more us)) (grown next more openings us up i))
    told (inr e) =
        subst (λ vs. Rising more openings (us ++ vs)) (sym e.1)
        (one_more next more openings us (up_frame k n e.0 p.sent) up (record {
          present = here;
          above = subst (λ m. next k ≤ m) (sym p.numbered) above;
          under = subst (λ m. m < more k) (sym p.numbered) (subst (λ m. id < m) (sym under) p.below);
        }) i)

-- ---- one event

record Holds (r : RepeatWorld) : Type 0 where
  empties : HasEmptyLists r.world
  ids : Rising (next_of r.world) r.openings r.ups

le_of : (a b c : ℕ) → a ≤ b → c ≡ b → a ≤ c
le_of a b c l e = omega (arith, l, e)

-- an event that opens nothing
plain_ids : (z : WorldSettings) (r : RepeatWorld) (e : Event) → uses_no_list e ≡ true → is_opening e ≡ false → Holds r
    → Rising (next_of (same_done z r e).world) (same_done z r e).openings (same_done z r e).ups
unfolding next_of
plain_ids z r e s off h =
    let k = own_connection e in
    let w = bytes_happen z r.world (Plain e) in
    let heard = is_heard w k in
    let p : PutsAll r.world.values.conns w.values.conns = same_puts z r.world e s off in
    let is : with_opening r e ≡ r = ap (λ b. if b && is_possible r.world.values e then record r {
      openings = put r.openings k (r.openings k + 1);
    } else r) off in
    subst (λ (v : RepeatWorld). Rising (next_of (same_done z r e).world) v.openings (v.ups ++ new_ups w k (v.openings k))) (sym is)
    (collect (next_of r.world) (next_of (same_done z r e).world) r.openings r.ups k (r.openings k) (r.world.values.conns k).next_id w refl
    (λ j. le_of _ _ _ (p j (h.empties.sent j)).keeps (lists_ids w k [] [] heard j)) (omega arith) (lists_ids w k [] [] heard k)
    (p k (h.empties.sent k)).puts h.ids)

-- ---- a connection is opened anew: nothing of the new opening was put before

reopened : (next openings : ℕ → ℕ) (us : List UpFrame) (k : ℕ) → Rising next openings us
    → Rising (put next k 0) (put openings k (openings k + 1)) us
reopened next openings us k i =
    record {
      early = λ n u h. early_at n u h;
      below = λ n u h o. below_at n u h o (u.connection == k) refl;
      rising = i.rising;
    }
  where
    early_at : (n : ℕ) (u : UpFrame) → slice_get us n ≡ Some u → u.opening ≤ put openings k (openings k + 1) u.connection
    early_at n u h = elim (u.connection == k) as (λ b. u.connection == k ≡ b
        → u.opening ≤ (if b then openings k + 1 else openings u.connection)) [
          | true ↦ λ t. let s = eqb-true u.connection k t in
              let e = subst (λ c. u.opening ≤ openings c) s (i.early n u h) in omega (arith, e)
          | false ↦ λ t. i.early n u h
        ] refl

    below_at : (n : ℕ) (u : UpFrame) → slice_get us n ≡ Some u → u.opening ≡ put openings k (openings k + 1) u.connection
        → (b : Bool) → u.connection == k ≡ b → id_of_put u < put next k 0 u.connection
    below_at n u h o true t =
        let s = eqb-true u.connection k t in
        let e = subst (λ c. u.opening ≤ openings c) s (i.early n u h) in
        let now : u.opening ≡ openings k + 1 = o ∙ ap (λ b. if b then openings k + 1 else openings u.connection) t in
        absurd (omega (arith, e, now))
    below_at n u h o false t =
        let now : u.opening ≡ openings u.connection = o ∙ ap (λ b. if b then openings k + 1 else openings u.connection) t in
        subst (λ m. id_of_put u < m) (sym (ap (λ b. if b then 0 else next u.connection) t)) (i.below n u h now)

fresh_puts : (z : WorldSettings) (r : RepeatWorld) (k : ℕ) (served : Bool)
    → ((fresh r.world.values.client k served).up ≡ []) ⊎ PutsOne 0 (fresh r.world.values.client k served)
fresh_puts z r k true = inr (record { sent = _; up = refl; numbered = refl; below = omega arith })
fresh_puts z r k false = inl refl

zero_next : (next more : ℕ → ℕ) (k : ℕ) → ((j : ℕ) → (j == k) ≡ false → next j ≤ more j) → (j : ℕ) → put next k 0 j ≤ more j
zero_next next more k h j = elim (j == k) as (λ b. j == k ≡ b → (if b then 0 else next j) ≤ more j) [
  | true ↦ λ t. omega arith
  | false ↦ λ t. h j t
] refl

same_next : (a b : ℕ) → b ≡ a → a ≤ b
same_next a b e = omega (arith, e)

-- where the world may open it
opened_ids : (z : WorldSettings) (r : RepeatWorld) (k : ℕ) → is_possible r.world.values (Open k) ≡ true → Holds r
    → Rising (next_of (same_done z r (Open k)).world) (same_done z r (Open k)).openings (same_done z r (Open k)).ups
unfolding next_of
opened_ids z r k may h =
    let served = (step r.world.values.server r.world.values.moment (Accept k)).reply.status == success in
    let w = bytes_happen z r.world (Plain (Open k)) in
    let v = bytes_later (opened_wires z r.world k) 1 in
    let c = fresh r.world.values.client k served in
    let heard = is_heard w k in
    let is : w ≡ v = ap (λ b. if b then v else r.world) may in
    let at : v.values.conns k ≡ c = put_here r.world.values.conns k c in
    let row : w.values.conns k ≡ c = ap (λ (x : World). x.values.conns k) is ∙ at in
    let openings = put r.openings k (r.openings k + 1) in
    let op : with_opening r (Open k) ≡ record r { openings = openings } = ap (λ b. if b then record r { openings = openings } else r) may in
    let other : (j : ℕ) → (j == k) ≡ false → (r.world.values.conns j).next_id ≤ next_of (same_done z r (Open k)).world j =
    λ j off. same_next _ _ (lists_ids w k [] [] heard j ∙ (ap (λ (x : World). (x.values.conns j).next_id) is
    ∙ ap (λ b. (if b then c else r.world.values.conns j).next_id) off)) in
    subst (λ (x : RepeatWorld). Rising (next_of (same_done z r (Open k)).world) x.openings (x.ups ++ new_ups w k (x.openings k))) (sym op)
    (collect (put (next_of r.world) k 0) (next_of (same_done z r (Open k)).world) openings r.ups k (openings k) 0 w refl
    (zero_next (next_of r.world) (next_of (same_done z r (Open k)).world) k other)
    (same_next _ _ (sym (put_here (next_of r.world) k 0))) (lists_ids w k [] [] heard k)
    (subst (λ (d : Conn). (d.up ≡ []) ⊎ PutsOne 0 d) (sym row) (fresh_puts z r k served))
    (reopened (next_of r.world) r.openings r.ups k h.ids))

-- and where it may not nothing happens
unopened_ids : (z : WorldSettings) (r : RepeatWorld) (k : ℕ) → is_possible r.world.values (Open k) ≡ false → Holds r
    → Rising (next_of (same_done z r (Open k)).world) (same_done z r (Open k)).openings (same_done z r (Open k)).ups
unfolding next_of
unopened_ids z r k may h =
    let w = bytes_happen z r.world (Plain (Open k)) in
    let heard = is_heard w k in
    let is : w ≡ r.world = ap (λ b. if b then bytes_later (opened_wires z r.world k) 1 else r.world) may in
    let op : with_opening r (Open k) ≡ r = ap (λ b. if b then record r { openings = put r.openings k (r.openings k + 1) } else r) may in
    let same : (j : ℕ) → next_of (same_done z r (Open k)).world j ≡ next_of r.world j =
    λ j. lists_ids w k [] [] heard j ∙ ap (λ (x : World). (x.values.conns j).next_id) is in
    subst (λ (x : RepeatWorld). Rising (next_of (same_done z r (Open k)).world) x.openings (x.ups ++ new_ups w k (x.openings k))) (sym op)
    (collect (next_of r.world) (next_of (same_done z r (Open k)).world) r.openings r.ups k (r.openings k) (next_of r.world k) w refl
    (λ j. same_next _ _ (same j)) (omega arith) (lists_ids w k [] [] heard k)
    (inl (ap (λ (x : World). (x.values.conns k).up) is ∙ h.empties.sent k)) h.ids)

open_ids : (z : WorldSettings) (r : RepeatWorld) (k : ℕ) (b : Bool) → is_possible r.world.values (Open k) ≡ b → Holds r
    → Rising (next_of (same_done z r (Open k)).world) (same_done z r (Open k)).openings (same_done z r (Open k)).ups
open_ids z r k true may h = opened_ids z r k may h
open_ids z r k false may h = unopened_ids z r k may h

done_ids : (z : WorldSettings) (r : RepeatWorld) (e : Event) → uses_no_list e ≡ true → Holds r
    → Rising (next_of (same_done z r e).world) (same_done z r e).openings (same_done z r e).ups
done_ids z r (Open k) s h = open_ids z r k (is_possible r.world.values (Open k)) refl h
done_ids z r (Submit g op) s h = plain_ids z r (Submit g op) s refl h
done_ids z r (Push k slotless pick) s h = plain_ids z r (Push k slotless pick) s refl h
done_ids z r (Serve k) s h = plain_ids z r (Serve k) s refl h
done_ids z r (Take k) s h = plain_ids z r (Take k) s refl h
done_ids z r (Cut k) s h = plain_ids z r (Cut k) s refl h
done_ids z r (Drop k) s h = plain_ids z r (Drop k) s refl h
done_ids z r Restart s h = plain_ids z r Restart s refl h
done_ids z r (Crash k kept) s h = plain_ids z r (Crash k kept) s refl h
done_ids z r (Wait n) s h = plain_ids z r (Wait n) s refl h
done_ids z r (Finish refusal) s h = plain_ids z r (Finish refusal) s refl h

-- ---- Give

pub never_apart : (k : ℕ) (P : Type 0) → (k == k) ≡ false → P
never_apart k P off = absurd (let q : (k == k) ≡ true = eq-eqb k k refl in cc)

up_ids : (z : WorldSettings) (r : RepeatWorld) (k : ℕ) (u : UpFrame) → is_served r.world k ≡ true → Holds r
    → Rising (next_of (given_up z r k u).world) (given_up z r k u).openings (given_up z r k u).ups
unfolding next_of
up_ids z r k u on h =
    let v = loaded_up r k u in
    let w = bytes_happen z v (Plain (Serve k)) in
    let heard = is_heard r.world k in
    let q : Emptied k v.values.conns w.values.conns = serve_empties z r k u on in
    let same : (j : ℕ) → next_of (given_up z r k u).world j ≡ next_of r.world j =
    λ j. lists_ids w k [] [] heard j ∙ ((q j).0 ∙ lists_ids r.world k (u ∷ []) [] true j) in
    collect (next_of r.world) (next_of (given_up z r k u).world) r.openings r.ups k (r.openings k) (next_of r.world k) w refl
    (λ j. same_next _ _ (same j)) (omega arith) (lists_ids w k [] [] heard k)
    (inl ((q k).1 (λ off. never_apart k _ off))) h.ids

loaded_none : (r : RepeatWorld) (k : ℕ) (d : DownFrame) → HasEmptyLists r.world → (j : ℕ) → ((loaded_down r k d).values.conns j).up ≡ []
unfolding sents
loaded_none r k d i j =
    either (λ (c : Conn). c.up ≡ []) (j == k) _ (r.world.values.conns j) (λ _. refl) (λ _. i.sent j)

down_ids : (z : WorldSettings) (r : RepeatWorld) (k : ℕ) (d : DownFrame) → Holds r
    → Rising (next_of (given_down z r k d).world) (given_down z r k d).openings (given_down z r k d).ups
unfolding next_of
down_ids z r k d h =
    let v = loaded_down r k d in
    let w = bytes_happen z v (Plain (Take k)) in
    let heard = is_heard w k in
    let p : PutsAll v.values.conns w.values.conns = takes_puts z v k in
    let at : (j : ℕ) → Puts (v.values.conns j) (w.values.conns j) = λ j. p j (loaded_none r k d h.empties j) in
    let loaded : (j : ℕ) → (v.values.conns j).next_id ≡ next_of r.world j = λ j. lists_ids r.world k [] (d ∷ []) true j in
    collect (next_of r.world) (next_of (given_down z r k d).world) r.openings r.ups k (r.openings k) (v.values.conns k).next_id w refl
    (λ j. le_of _ _ _ (subst (λ n. n ≤ (w.values.conns j).next_id) (loaded j) (at j).keeps) (lists_ids w k [] [] heard j))
    (same_next _ _ (loaded k)) (lists_ids w k [] [] heard k) (at k).puts h.ids

give_up_ids : (z : WorldSettings) (r : RepeatWorld) (k : ℕ) (o : Option UpFrame) → Holds r
    → Rising (next_of (give_up z r k o).world) (give_up z r k o).openings (give_up z r k o).ups
give_up_ids z r k None h = h.ids
give_up_ids z r k (Some u) h =
    either (λ (v : RepeatWorld). Rising (next_of v.world) v.openings v.ups) (is_served r.world k) (given_up z r k u) r
    (λ on. up_ids z r k u on h) (λ _. h.ids)

give_down_ids : (z : WorldSettings) (r : RepeatWorld) (k : ℕ) (o : Option DownFrame) → Holds r
    → Rising (next_of (give_down z r k o).world) (give_down z r k o).openings (give_down z r k o).ups
give_down_ids z r k None h = h.ids
give_down_ids z r k (Some d) h =
    either (λ (v : RepeatWorld). Rising (next_of v.world) v.openings v.ups) (is_heard r.world k) (given_down z r k d) r
    (λ _. down_ids z r k d h) (λ _. h.ids)

event_ids : (z : WorldSettings) (r : RepeatWorld) (e : RepeatEvent) → Holds r
    → Rising (next_of (repeat_happens z r e).world) (repeat_happens z r e).openings (repeat_happens z r e).ups
event_ids z r (Same e) h =
    either (λ (v : RepeatWorld). Rising (next_of v.world) v.openings v.ups) (uses_no_list e) (same_done z r e) r
    (λ s. done_ids z r e s h) (λ _. h.ids)
event_ids z r (Give k true place) h = give_up_ids z r k (slice_get r.ups place) h
event_ids z r (Give k false place) h = give_down_ids z r k (slice_get r.downs place) h

-- ---- a run

run_holds : (z : WorldSettings) (es : List RepeatEvent) (r : RepeatWorld) → Holds r → Holds (repeat_run z es r)
unfolding repeat_run
run_holds z [] r h = h
run_holds z (e ∷ es) r h =
    run_holds z es (repeat_happens z r e) (record { empties = event_empties z r e h.empties; ids = event_ids z r e h })

none_put : (next openings : ℕ → ℕ) → Rising next openings []
none_put next openings =
    record {
      early = λ i u h. absurd (none_in [] i u refl h);
      below = λ i u h. absurd (none_in [] i u refl h);
      rising = λ i j u v l h. absurd (none_in [] i u refl h);
    }

pub own_ids_rise : OwnIdsRise
own_ids_rise z es i j u v l at on c o =
    let r = repeat_start z in
    (run_holds z es r (record { empties = start_empties z; ids = none_put (next_of r.world) r.openings })).ids.rising i j u v l at on c o
