-- The cases of the program's choices over bytes, as equations by the test that each makes.
use Rattle.std.proofs.Common.{◌≡◌, ℕ, ◌==◌, Bool, true, false, not, ◌&&◌, ◌||◌, length, refl, suc}
use Rattle.spec_exchange.specs.Table.{is_filled}
use Rattle.spec_exchange.specs.ClientStep.{some_unsettled}
use Rattle.spec_exchange.specs.Schedules.{has_more, is_linking, last_refusal, least, is_apart}
use Rattle.spec_exchange.specs.Network.{Event, Serve, Take, Cut, may_serve, may_take_reply}
use Rattle.spec_world.specs.Courses.{Course, went, went_if, serve_all, take_all, served_all, taken_all, drain, linking, link}
use Rattle.spec_world.specs.Courses.{finished_after, finished_by, linked, ready_round, pushed_round, rounds, went_push, each, tidy}
use Rattle.spec_world.specs.Settings.{WorldSettings}

abbrev pub one_round : WorldSettings → ℕ → Course → Course
one_round z n c = each (tidy z) 0 n (ready_round z n (linked z n c))

pub serve_on : (z : WorldSettings) (n : ℕ) (c : Course) (k : ℕ) → may_serve c.world.values k ≡ true
    → serve_all z (suc n) c k ≡ serve_all z n (went z c (Serve k)) k
unfolding serve_all
serve_on z n c k e = rw (e, serve_all) refl

pub serve_off : (z : WorldSettings) (n : ℕ) (c : Course) (k : ℕ) → may_serve c.world.values k ≡ false → serve_all z (suc n) c k ≡ c
unfolding serve_all
serve_off z n c k e = rw (e, serve_all) refl

pub take_on : (z : WorldSettings) (n : ℕ) (c : Course) (k : ℕ) → may_take_reply c.world.values k ≡ true
    → take_all z (suc n) c k ≡ take_all z n (went z c (Take k)) k
unfolding take_all
take_on z n c k e = rw (e, take_all) refl

pub take_off : (z : WorldSettings) (n : ℕ) (c : Course) (k : ℕ) → may_take_reply c.world.values k ≡ false
    → take_all z (suc n) c k ≡ c
unfolding take_all
take_off z n c k e = rw (e, take_all) refl

pub drain_on : (z : WorldSettings) (n : ℕ) (c : Course) (k : ℕ)
    → has_more (taken_all z (served_all z c k) k).world.values k ≡ true
    → drain z (suc n) c k ≡ drain z n (taken_all z (served_all z c k) k) k
unfolding drain
drain_on z n c k e = rw (e, drain) refl

pub drain_off : (z : WorldSettings) (n : ℕ) (c : Course) (k : ℕ)
    → has_more (taken_all z (served_all z c k) k).world.values k ≡ false
    → drain z (suc n) c k ≡ taken_all z (served_all z c k) k
unfolding drain
drain_off z n c k e = rw (e, drain) refl

pub linking_on : (z : WorldSettings) (n : ℕ) (c : Course) (k : ℕ) → is_linking c.world.values k ≡ true
    → linking z (suc n) c k ≡ linking z n (went z (went z c (Serve k)) (Take k)) k
unfolding linking
linking_on z n c k e = rw (e, linking) refl

pub linking_off : (z : WorldSettings) (n : ℕ) (c : Course) (k : ℕ) → is_linking c.world.values k ≡ false
    → linking z (suc n) c k ≡ c
unfolding linking
linking_off z n c k e = rw (e, linking) refl

pub went_on : (z : WorldSettings) (b : Bool) (c : Course) (e : Event) → b ≡ true → went_if z b c e ≡ went z c e
unfolding went_if
went_on z b c e h = rw (h, went_if) refl

pub went_off : (z : WorldSettings) (b : Bool) (c : Course) (e : Event) → b ≡ false → went_if z b c e ≡ c
unfolding went_if
went_off z b c e h = rw (h, went_if) refl

pub finished_on : (z : WorldSettings) (n : Bool) (c d : Course)
    → (n && not (length c.world.values.client.refusals == length d.world.values.client.refusals)) ≡ true
    → finished_after z n c d ≡ finished_by z (last_refusal d.world.values.client.refusals) d
unfolding finished_after
finished_on z n c d e = rw (e, finished_after) refl

pub finished_off : (z : WorldSettings) (n : Bool) (c d : Course)
    → (n && not (length c.world.values.client.refusals == length d.world.values.client.refusals)) ≡ false
    → finished_after z n c d ≡ d
unfolding finished_after
finished_off z n c d e = rw (e, finished_after) refl

pub linked_on : (z : WorldSettings) (n : ℕ) (c : Course) → (c.world.values.client.channels == 0) ≡ true
    → linked z n c ≡ finished_after z true c (link z c (least (is_apart c.world.values) 0 n))
unfolding linked
linked_on z n c e = rw (e, linked) refl

pub linked_off : (z : WorldSettings) (n : ℕ) (c : Course) → (c.world.values.client.channels == 0) ≡ false → linked z n c ≡ c
unfolding linked
linked_off z n c e = rw (e, linked) refl

pub ready_on : (z : WorldSettings) (n : ℕ) (c : Course) → (c.world.values.client.channels == 0) ≡ true → ready_round z n c ≡ c
unfolding ready_round
ready_on z n c e = rw (e, ready_round) refl

pub ready_off : (z : WorldSettings) (n : ℕ) (c : Course) → (c.world.values.client.channels == 0) ≡ false
    → ready_round z n c ≡ pushed_round z c (least c.world.values.client.ready 0 n)
unfolding ready_round
ready_off z n c e = rw (e, ready_round) refl

pub pushed_on : (z : WorldSettings) (c : Course) (k : ℕ)
    → (is_filled ((went_push z c k).world.wires k).up || is_filled ((went_push z c k).world.wires k).down) ≡ true
    → pushed_round z c k ≡ drain z 64 (went_push z c k) k
unfolding pushed_round
pushed_on z c k e = rw (e, pushed_round) refl

pub pushed_off : (z : WorldSettings) (c : Course) (k : ℕ)
    → (is_filled ((went_push z c k).world.wires k).up || is_filled ((went_push z c k).world.wires k).down) ≡ false
    → pushed_round z c k ≡ went z (went_push z c k) (Cut k)
unfolding pushed_round
pushed_off z c k e = rw (e, pushed_round) refl

pub rounds_on : (z : WorldSettings) (n fuel : ℕ) (c : Course)
    → some_unsettled c.world.values.client c.world.values.client.taken ≡ true
    → rounds z n (suc fuel) c ≡ rounds z n fuel (one_round z n c)
unfolding rounds
rounds_on z n fuel c e = rw (e, rounds) refl

pub rounds_off : (z : WorldSettings) (n fuel : ℕ) (c : Course)
    → some_unsettled c.world.values.client c.world.values.client.taken ≡ false → rounds z n (suc fuel) c ≡ c
unfolding rounds
rounds_off z n fuel c e = rw (e, rounds) refl
