-- The program's choices over bytes, as equations where they make no test.
use Rattle.std.proofs.Common.{◌≡◌, ℕ, ◌+◌, ◌*◌, not, ◌&&◌, List, [], ◌∷◌, ◌++◌, length, refl, Some, None, zero, suc}
use Rattle.spec_exchange.specs.Table.{is_at}
use Rattle.spec_exchange.specs.Operations.{Refusal}
use Rattle.spec_exchange.specs.Schedules.{hangs, is_orphan}
use Rattle.spec_exchange.specs.Network.{Event, Open, Cut, Drop, Finish}
use Rattle.spec_world.specs.Courses.{Course, Line, Does, Pushes, Links, Settles, course, drain, drain_and_cut}
use Rattle.spec_world.specs.Courses.{drop_orphan, each, finished_after}
use Rattle.spec_world.specs.Courses.{finished_by, go, link, linking, push_lowest, rounds, serve_all, served_all}
use Rattle.spec_world.specs.Courses.{settle_below, take_all, taken_all}
use Rattle.spec_world.specs.Courses.{tidy, went, went_byte, went_if, went_push}
use Rattle.spec_world.specs.Events.{Plain, bytes_happen}
use Rattle.spec_world.specs.Settings.{WorldSettings}

pub world_is : (z : WorldSettings) (c : Course) (e : Event) → (went z c e).world ≡ bytes_happen z c.world (Plain e)
unfolding went_byte
world_is z c e = refl

pub events_are : (z : WorldSettings) (c : Course) (e : Event) → (went z c e).events ≡ c.events ++ Plain e ∷ []
unfolding went_byte
events_are z c e = refl

pub push_is : (z : WorldSettings) (c : Course) (k : ℕ) → went_push z c k ≡ went z c (push_lowest c.world k)
unfolding went_push
push_is z c k = refl

pub serve_none : (z : WorldSettings) (c : Course) (k : ℕ) → serve_all z zero c k ≡ c
unfolding serve_all
serve_none z c k = refl

pub take_none : (z : WorldSettings) (c : Course) (k : ℕ) → take_all z zero c k ≡ c
unfolding take_all
take_none z c k = refl

pub served_is : (z : WorldSettings) (c : Course) (k : ℕ) → served_all z c k ≡ serve_all z (length (c.world.wires k).up) c k
unfolding served_all
served_is z c k = refl

pub taken_is : (z : WorldSettings) (c : Course) (k : ℕ) → taken_all z c k ≡ take_all z (length (c.world.wires k).down) c k
unfolding taken_all
taken_is z c k = refl

pub drain_none : (z : WorldSettings) (c : Course) (k : ℕ) → drain z zero c k ≡ c
unfolding drain
drain_none z c k = refl

pub linking_none : (z : WorldSettings) (c : Course) (k : ℕ) → linking z zero c k ≡ c
unfolding linking
linking_none z c k = refl

pub link_is : (z : WorldSettings) (c : Course) (k : ℕ) → link z c k ≡ linking z 8 (went z c (Open k)) k
unfolding link
link_is z c k = refl

pub finish_none : (z : WorldSettings) (c : Course) → finished_by z None c ≡ c
unfolding finished_by
finish_none z c = refl

pub finish_some : (z : WorldSettings) (refusal : Refusal) (c : Course) → finished_by z (Some refusal) c ≡ went z c (Finish refusal)
unfolding finished_by
finish_some z refusal c = refl

pub cut_is : (z : WorldSettings) (c : Course) (k : ℕ) → drain_and_cut z c k
    ≡ went_if z (hangs (finished_after z (is_at k c.world.values.client.making) c (drain z 64 c k)).world.values k)
    (finished_after z (is_at k c.world.values.client.making) c (drain z 64 c k)) (Cut k)
unfolding drain_and_cut
cut_is z c k = refl

pub drop_is : (z : WorldSettings) (c : Course) (k : ℕ) → drop_orphan z c k ≡ went_if z (is_orphan c.world.values k) c (Drop k)
unfolding drop_orphan
drop_is z c k = refl

pub tidy_is : (z : WorldSettings) (c : Course) (k : ℕ) → tidy z c k
    ≡ drop_orphan z (went_if z ((c.world.values.conns k).client_open && not (c.world.values.conns k).server_open) c (Cut k)) k
unfolding tidy
tidy_is z c k = refl

pub each_none : (act : Course → ℕ → Course) (k : ℕ) (c : Course) → each act k zero c ≡ c
unfolding each
each_none act k c = refl

pub each_more : (act : Course → ℕ → Course) (k n : ℕ) (c : Course) → each act k (suc n) c ≡ each act (k + 1) n (act c k)
unfolding each
each_more act k n c = refl

pub rounds_none : (z : WorldSettings) (n : ℕ) (c : Course) → rounds z n zero c ≡ c
unfolding rounds
rounds_none z n c = refl

pub settle_is : (z : WorldSettings) (n fuel : ℕ) (c : Course)
    → settle_below z n fuel c ≡ rounds z n fuel (each (drop_orphan z) 0 n (each (drain_and_cut z) 0 n c))
unfolding settle_below
settle_is z n fuel c = refl

pub does_is : (z : WorldSettings) (c : Course) (e : Event) → go z 256 c (Does e) ≡ went z c e
unfolding go
does_is z c e = refl

pub pushes_is : (z : WorldSettings) (c : Course) (k : ℕ) → go z 256 c (Pushes k) ≡ went_push z c k
unfolding go
pushes_is z c k = refl

pub links_is : (z : WorldSettings) (c : Course) (k : ℕ) → go z 256 c (Links k) ≡ link z c k
unfolding go
links_is z c k = refl

pub settles_is : (z : WorldSettings) (c : Course) → go z 256 c Settles
    ≡ settle_below z 256 (8 * (c.world.values.client.taken + 256 + 1)) c
unfolding go
settles_is z c = refl

pub course_none : (z : WorldSettings) (c : Course) → course z 256 [] c ≡ c
unfolding course
course_none z c = refl

pub course_more : (z : WorldSettings) (l : Line) (ls : List Line) (c : Course) → course z 256 (l ∷ ls) c ≡ course z 256 ls (go z 256 c l)
unfolding course
course_more z l ls c = refl
