-- The cases of the program's choices, as equations by the test that each makes.
use Rattle.std.proofs.Common.{◌≡◌, ℕ, ◌+◌, ◌==◌, Bool, true, false, not, ◌&&◌, ◌||◌, nat_le, List, [], ◌∷◌, ◌++◌}
use Rattle.std.proofs.Common.{length, refl, sym, subst, Some, None, suc}
use Rattle.spec_exchange.specs.Table.{is_filled}
use Rattle.spec_exchange.specs.Operations.{is_unsettled}
use Rattle.spec_exchange.specs.Client.{Client, create_for, may_push, goes_itself, needs_slot, is_free, settle_no_slot}
use Rattle.spec_exchange.specs.ClientStep.{some_unsettled}
use Rattle.spec_exchange.specs.Schedules.{Course, went, went_if, serve_all, take_all, served_all, taken_all, has_more}
use Rattle.spec_exchange.specs.Schedules.{drain, is_linking, linking, link, finished_after, finished_by, last_refusal}
use Rattle.spec_exchange.specs.Schedules.{linked, ready_round, pushed_round, rounds, went_push, each, tidy, least}
use Rattle.spec_exchange.specs.Schedules.{least_free, choose, cost, is_apart}
use Rattle.spec_exchange.specs.Network.{Event, Serve, Take, Cut, may_serve, may_take_reply}

-- what holds of both cases holds of the whole
pub by_test : {X : Type 0} (P : X → Type 0) (b : Bool) (z x y : X) → (b ≡ true → z ≡ x) → (b ≡ false → z ≡ y)
    → (b ≡ true → P x) → (b ≡ false → P y) → P z
by_test P true z x y e f p q = subst P (sym (e refl)) (p refl)
by_test P false z x y e f p q = subst P (sym (f refl)) (q refl)

pub serve_on : (n : ℕ) (c : Course) (k : ℕ) → may_serve c.world k ≡ true → serve_all (suc n) c k ≡ serve_all n (went c (Serve k)) k
unfolding serve_all
serve_on n c k e = rw (e, serve_all) refl

pub serve_off : (n : ℕ) (c : Course) (k : ℕ) → may_serve c.world k ≡ false → serve_all (suc n) c k ≡ c
unfolding serve_all
serve_off n c k e = rw (e, serve_all) refl

pub take_on : (n : ℕ) (c : Course) (k : ℕ) → may_take_reply c.world k ≡ true → take_all (suc n) c k ≡ take_all n (went c (Take k)) k
unfolding take_all
take_on n c k e = rw (e, take_all) refl

pub take_off : (n : ℕ) (c : Course) (k : ℕ) → may_take_reply c.world k ≡ false → take_all (suc n) c k ≡ c
unfolding take_all
take_off n c k e = rw (e, take_all) refl

pub drain_on : (n : ℕ) (c : Course) (k : ℕ) → has_more (taken_all (served_all c k) k).world k ≡ true → drain (suc n) c k
    ≡ drain n (taken_all (served_all c k) k) k
unfolding drain
drain_on n c k e = rw (e, drain) refl

pub drain_off : (n : ℕ) (c : Course) (k : ℕ) → has_more (taken_all (served_all c k) k).world k ≡ false
    → drain (suc n) c k ≡ taken_all (served_all c k) k
unfolding drain
drain_off n c k e = rw (e, drain) refl

pub linking_on : (n : ℕ) (c : Course) (k : ℕ) → is_linking c.world k ≡ true → linking (suc n) c k
    ≡ linking n (went (went c (Serve k)) (Take k)) k
unfolding linking
linking_on n c k e = rw (e, linking) refl

pub linking_off : (n : ℕ) (c : Course) (k : ℕ) → is_linking c.world k ≡ false → linking (suc n) c k ≡ c
unfolding linking
linking_off n c k e = rw (e, linking) refl

pub went_on : (b : Bool) (c : Course) (e : Event) → b ≡ true → went_if b c e ≡ went c e
unfolding went_if
went_on b c e h = rw (h, went_if) refl

pub went_off : (b : Bool) (c : Course) (e : Event) → b ≡ false → went_if b c e ≡ c
unfolding went_if
went_off b c e h = rw (h, went_if) refl

pub finished_on : (n : Bool) (c d : Course)
    → (n && not (length c.world.client.refusals == length d.world.client.refusals)) ≡ true → finished_after n c d
    ≡ finished_by (last_refusal d.world.client.refusals) d
unfolding finished_after
finished_on n c d e = rw (e, finished_after) refl

pub finished_off : (n : Bool) (c d : Course)
    → (n && not (length c.world.client.refusals == length d.world.client.refusals)) ≡ false → finished_after n c d ≡ d
unfolding finished_after
finished_off n c d e = rw (e, finished_after) refl

pub linked_on : (n : ℕ) (c : Course) → (c.world.client.channels == 0) ≡ true → linked n c
    ≡ finished_after true c (link c (least (is_apart c.world) 0 n))
unfolding linked
linked_on n c e = rw (e, linked) refl

pub linked_off : (n : ℕ) (c : Course) → (c.world.client.channels == 0) ≡ false → linked n c ≡ c
unfolding linked
linked_off n c e = rw (e, linked) refl

pub ready_on : (n : ℕ) (c : Course) → (c.world.client.channels == 0) ≡ true → ready_round n c ≡ c
unfolding ready_round
ready_on n c e = rw (e, ready_round) refl

pub ready_off : (n : ℕ) (c : Course) → (c.world.client.channels == 0) ≡ false → ready_round n c
    ≡ pushed_round c (least c.world.client.ready 0 n)
unfolding ready_round
ready_off n c e = rw (e, ready_round) refl

pub pushed_on : (c : Course) (k : ℕ) → (is_filled ((went_push c k).world.conns k).up
    || is_filled ((went_push c k).world.conns k).down) ≡ true → pushed_round c k ≡ drain 64 (went_push c k) k
unfolding pushed_round
pushed_on c k e = rw (e, pushed_round) refl

pub pushed_off : (c : Course) (k : ℕ) → (is_filled ((went_push c k).world.conns k).up
    || is_filled ((went_push c k).world.conns k).down) ≡ false → pushed_round c k ≡ went (went_push c k) (Cut k)
unfolding pushed_round
pushed_off c k e = rw (e, pushed_round) refl

pub rounds_on : (n fuel : ℕ) (c : Course) → some_unsettled c.world.client c.world.client.taken ≡ true
    → rounds n (suc fuel) c ≡ rounds n fuel (each tidy 0 n (ready_round n (linked n c)))
unfolding rounds
rounds_on n fuel c e = rw (e, rounds) refl

pub rounds_off : (n fuel : ℕ) (c : Course) → some_unsettled c.world.client c.world.client.taken ≡ false → rounds n (suc fuel) c ≡ c
unfolding rounds
rounds_off n fuel c e = rw (e, rounds) refl

pub least_on : (f : ℕ → Bool) (k n : ℕ) → f k ≡ true → least f k (suc n) ≡ k
unfolding least
least_on f k n e = rw (e, least) refl

pub least_off : (f : ℕ → Bool) (k n : ℕ) → f k ≡ false → least f k (suc n) ≡ least f (k + 1) n
unfolding least
least_off f k n e = rw (e, least) refl

pub unsettled_on : (c : Client) (n : ℕ) → is_unsettled (c.outcome (n + 1)) ≡ true → some_unsettled c (suc n) ≡ true
unfolding some_unsettled
unsettled_on c n e = rw (e, some_unsettled) refl

pub unsettled_off : (c : Client) (n : ℕ) → is_unsettled (c.outcome (n + 1)) ≡ false → some_unsettled c (suc n) ≡ some_unsettled c n
unfolding some_unsettled
unsettled_off c n e = rw (e, some_unsettled) refl

pub free_on : (c : Client) (create i n : ℕ) → is_free c create i ≡ true → least_free c create i (suc n) ≡ Some i
unfolding least_free
free_on c create i n e = rw (e, least_free) refl

pub free_off : (c : Client) (create i n : ℕ) → is_free c create i ≡ false → least_free c create i (suc n) ≡ least_free c create (i + 1) n
unfolding least_free
free_off c create i n e = rw (e, least_free) refl

pub choose_on : (c : Client) (k credits : ℕ) (slotless : List ℕ) (g n : ℕ)
    → (may_push c k g && nat_le (cost c g) credits) ≡ true → (goes_itself c g && needs_slot c g) ≡ false
    → choose c k credits slotless g (suc n) ≡ record { slotless = slotless; pick = Some (record { op = g; slot = 0 }) }
unfolding choose
choose_on c k credits slotless g n e f = rw (e, f, choose) refl

pub choose_slot : (c : Client) (k credits : ℕ) (slotless : List ℕ) (g n i : ℕ)
    → (may_push c k g && nat_le (cost c g) credits) ≡ true → (goes_itself c g && needs_slot c g) ≡ true
    → least_free c (create_for c g) 1 64 ≡ Some i
    → choose c k credits slotless g (suc n) ≡ record { slotless = slotless; pick = Some (record { op = g; slot = i }) }
unfolding choose
choose_slot c k credits slotless g n i e f h = rw (e, f, h, choose) refl

pub choose_none : (c : Client) (k credits : ℕ) (slotless : List ℕ) (g n : ℕ)
    → (may_push c k g && nat_le (cost c g) credits) ≡ true → (goes_itself c g && needs_slot c g) ≡ true
    → least_free c (create_for c g) 1 64 ≡ None
    → choose c k credits slotless g (suc n) ≡ choose (settle_no_slot c k g) k credits (slotless ++ g ∷ []) (g + 1) n
unfolding choose
choose_none c k credits slotless g n e f h = rw (e, f, h, choose) refl

pub choose_off : (c : Client) (k credits : ℕ) (slotless : List ℕ) (g n : ℕ)
    → (may_push c k g && nat_le (cost c g) credits) ≡ false → choose c k credits slotless g (suc n)
    ≡ choose c k credits slotless (g + 1) n
unfolding choose
choose_off c k credits slotless g n e = rw (e, choose) refl
