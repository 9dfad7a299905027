-- The choices of the model of values, as equations where they make no test.
use Rattle.std.proofs.Common.{◌≡◌, ℕ, ◌+◌, ◌*◌, not, ◌&&◌, [], ◌∷◌, ◌++◌, length, refl, Some, None, zero, suc}
use Rattle.spec_exchange.specs.Table.{is_at}
use Rattle.spec_exchange.specs.Operations.{Refusal}
use Rattle.spec_exchange.specs.Network.{Event, Open, Cut, Drop, Finish, happens}
use Rattle.spec_exchange.specs.Schedules.{Course, Settles, drain, drain_and_cut, drop_orphan, each, finished_after, finished_by, go, hangs}
use Rattle.spec_exchange.specs.Schedules.{is_orphan, link, linking, push_lowest, rounds, serve_all, served_all}
use Rattle.spec_exchange.specs.Schedules.{settle_below, take_all, taken_all}
use Rattle.spec_exchange.specs.Schedules.{tidy, went, went_if, went_push}

pub world_is : (c : Course) (e : Event) → (went c e).world ≡ happens c.world e
unfolding went
world_is c e = refl

pub events_are : (c : Course) (e : Event) → (went c e).events ≡ c.events ++ e ∷ []
unfolding went
events_are c e = refl

pub push_is : (c : Course) (k : ℕ) → went_push c k ≡ went c (push_lowest c.world k)
unfolding went_push
push_is c k = refl

pub serve_none : (c : Course) (k : ℕ) → serve_all zero c k ≡ c
unfolding serve_all
serve_none c k = refl

pub take_none : (c : Course) (k : ℕ) → take_all zero c k ≡ c
unfolding take_all
take_none c k = refl

pub served_is : (c : Course) (k : ℕ) → served_all c k ≡ serve_all (length (c.world.conns k).up) c k
unfolding served_all
served_is c k = refl

pub taken_is : (c : Course) (k : ℕ) → taken_all c k ≡ take_all (length (c.world.conns k).down) c k
unfolding taken_all
taken_is c k = refl

pub drain_none : (c : Course) (k : ℕ) → drain zero c k ≡ c
unfolding drain
drain_none c k = refl

pub linking_none : (c : Course) (k : ℕ) → linking zero c k ≡ c
unfolding linking
linking_none c k = refl

pub link_is : (c : Course) (k : ℕ) → link c k ≡ linking 8 (went c (Open k)) k
unfolding link
link_is c k = refl

pub finish_none : (c : Course) → finished_by None c ≡ c
unfolding finished_by
finish_none c = refl

pub finish_some : (refusal : Refusal) (c : Course) → finished_by (Some refusal) c ≡ went c (Finish refusal)
unfolding finished_by
finish_some refusal c = refl

pub cut_is : (c : Course) (k : ℕ) → drain_and_cut c k
    ≡ went_if (hangs (finished_after (is_at k c.world.client.making) c (drain 64 c k)).world k)
    (finished_after (is_at k c.world.client.making) c (drain 64 c k)) (Cut k)
unfolding drain_and_cut
cut_is c k = refl

pub drop_is : (c : Course) (k : ℕ) → drop_orphan c k ≡ went_if (is_orphan c.world k) c (Drop k)
unfolding drop_orphan
drop_is c k = refl

pub tidy_is : (c : Course) (k : ℕ) → tidy c k
    ≡ drop_orphan (went_if ((c.world.conns k).client_open && not (c.world.conns k).server_open) c (Cut k)) k
unfolding tidy
tidy_is c k = refl

pub each_none : (act : Course → ℕ → Course) (k : ℕ) (c : Course) → each act k zero c ≡ c
unfolding each
each_none act k c = refl

pub each_more : (act : Course → ℕ → Course) (k n : ℕ) (c : Course) → each act k (suc n) c ≡ each act (k + 1) n (act c k)
unfolding each
each_more act k n c = refl

pub rounds_none : (n : ℕ) (c : Course) → rounds n zero c ≡ c
unfolding rounds
rounds_none n c = refl

pub settle_is : (n fuel : ℕ) (c : Course) → settle_below n fuel c ≡ rounds n fuel (each drop_orphan 0 n (each drain_and_cut 0 n c))
unfolding settle_below
settle_is n fuel c = refl

pub settles_is : (c : Course) → go 256 c Settles ≡ settle_below 256 (8 * (c.world.client.taken + 256 + 1)) c
unfolding go
settles_is c = refl
