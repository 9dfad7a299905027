-- A course over bytes and one of values that are in step stay so behind each of the program's loops.
use Rattle.std.proofs.Common.{◌≡◌, ℕ, ◌+◌, ◌==◌, Bool, true, false, not, ◌&&◌, ◌||◌, List, [], ◌∷◌, length, refl, sym}
use Rattle.std.proofs.Common.{ap, ◌∙◌, subst, Option}
use Rattle.std.proofs.Common.{Some, None, zero, suc, arith}
use Rattle.spec_exchange.specs.Table.{is_at, is_filled}
use Rattle.spec_exchange.specs.Operations.{Refusal}
use Rattle.spec_exchange.specs.Network.{World as Values, Event, Open, Serve, Take, Cut, Drop, Finish, may_serve, may_take_reply}
use Rattle.spec_exchange.specs.Schedules as values
use Rattle.spec_exchange.specs.Schedules.{has_more, hangs, is_apart, is_linking, is_orphan, last_refusal, least}
use Rattle.law_answers.proofs.completeness.Equations as model
use Rattle.law_replies.proofs.courses.Equations as told
use Rattle.spec_world.specs.Courses.{Course, drain, drain_and_cut, drop_orphan, each, finished_after, finished_by, link, linked, linking}
use Rattle.spec_world.specs.Courses.{pushed_round, serve_all, served_all, take_all, taken_all, tidy, went, went_if, went_push}
use Rattle.spec_world.specs.Settings.{WorldSettings}
use Rattle.spec_world.specs.Statements.{AreAlong}
use Rattle.law_scripts.proofs.settling.Bytes as bytes
use Rattle.law_scripts.proofs.settling.Values as plain

-- ---- two terms at once

pub both_by : {X Y : Type 0} (R : X → Y → Type 0) (x a : X) (y b : Y) → x ≡ a → y ≡ b → R a b → R x y
both_by R x a y b e f h = subst (λ v. R v y) (sym e) (subst (λ v. R a v) (sym f) h)

-- by one test that both make
pub both_test : {X Y : Type 0} (R : X → Y → Type 0) (b c : Bool) → b ≡ c → (x s t : X) (y u v : Y) → (b ≡ true → x ≡ s)
    → (b ≡ false → x ≡ t)
    → (c ≡ true → y ≡ u) → (c ≡ false → y ≡ v) → (b ≡ true → R s u) → (b ≡ false → R t v) → R x y
both_test R true c e x s t y u v on off yon yoff f g = both_by R x s y u (on refl) (yon (sym e)) (f refl)
both_test R false c e x s t y u v on off yon yoff f g = both_by R x t y v (off refl) (yoff (sym e)) (g refl)

-- ---- events that no line of a script alone can be, but for an Open and a Push

abbrev pub is_bare : Event → Bool
is_bare (Serve k) = true
is_bare (Take k) = true
is_bare (Cut k) = true
is_bare (Drop k) = true
is_bare (Finish refusal) = true
is_bare _ = false

-- what holds of two courses in step, behind each such event too
pub record Follows (z : WorldSettings) (R : Course → values.Course → Type 0) : Type 0 where
  pub same : (c : Course) (d : values.Course) → R c d → c.world.values ≡ d.world
  pub along : (c : Course) (d : values.Course) → R c d → AreAlong c.world
  pub goes : (c : Course) (d : values.Course) (e : Event) → is_bare e ≡ true → R c d → R (went z c e) (values.went d e)

up_is : (z : WorldSettings) (R : Course → values.Course → Type 0) → Follows z R → (c : Course) (d : values.Course) (k : ℕ) → R c d
    → length (c.world.wires k).up ≡ length (d.world.conns k).up
up_is z R F c d k h = (let a = F.along c d h in a.up k ∙ ap (λ (v : Values). length (v.conns k).up) (F.same c d h))

down_is : (z : WorldSettings) (R : Course → values.Course → Type 0) → Follows z R → (c : Course) (d : values.Course) (k : ℕ) → R c d
    → length (c.world.wires k).down ≡ length (d.world.conns k).down
down_is z R F c d k h = (let a = F.along c d h in a.down k ∙ ap (λ (v : Values). length (v.conns k).down) (F.same c d h))

-- ---- draining

serves : (z : WorldSettings) (R : Course → values.Course → Type 0) → Follows z R → (n : ℕ) (c : Course) (d : values.Course) (k : ℕ) → R c d
    → R (serve_all z n c k) (values.serve_all n d k)
serves z R F zero c d k h =
    both_by R (serve_all z zero c k) c (values.serve_all zero d k) d (bytes.serve_none z c k) (plain.serve_none d k) h
serves z R F (suc n) c d k h =
    let again = serves z R F n (went z c (Serve k)) (values.went d (Serve k)) k (F.goes c d (Serve k) refl h) in
    both_test R (may_serve c.world.values k) (may_serve d.world k) (ap (λ (v : Values). may_serve v k) (F.same c d h))
    (serve_all z (suc n) c k) (serve_all z n (went z c (Serve k)) k) c (values.serve_all (suc n) d k)
    (values.serve_all n (values.went d (Serve k)) k) d (told.serve_on z n c k) (told.serve_off z n c k) (model.serve_on n d k)
    (model.serve_off n d k) (λ _. again) (λ _. h)

takes : (z : WorldSettings) (R : Course → values.Course → Type 0) → Follows z R → (n : ℕ) (c : Course) (d : values.Course) (k : ℕ) → R c d
    → R (take_all z n c k) (values.take_all n d k)
takes z R F zero c d k h =
    both_by R (take_all z zero c k) c (values.take_all zero d k) d (bytes.take_none z c k) (plain.take_none d k) h
takes z R F (suc n) c d k h =
    let again = takes z R F n (went z c (Take k)) (values.went d (Take k)) k (F.goes c d (Take k) refl h) in
    both_test R (may_take_reply c.world.values k) (may_take_reply d.world k) (ap (λ (v : Values). may_take_reply v k) (F.same c d h))
    (take_all z (suc n) c k) (take_all z n (went z c (Take k)) k) c (values.take_all (suc n) d k)
    (values.take_all n (values.went d (Take k)) k) d (told.take_on z n c k) (told.take_off z n c k) (model.take_on n d k)
    (model.take_off n d k) (λ _. again) (λ _. h)

served : (z : WorldSettings) (R : Course → values.Course → Type 0) → Follows z R → (c : Course) (d : values.Course) (k : ℕ) → R c d
    → R (served_all z c k) (values.served_all d k)
served z R F c d k h =
    let n = length (c.world.wires k).up in
    both_by R (served_all z c k) (serve_all z n c k) (values.served_all d k) (values.serve_all n d k) (bytes.served_is z c k)
    (plain.served_is d k ∙ ap (λ m. values.serve_all m d k) (sym (up_is z R F c d k h))) (serves z R F n c d k h)

taken : (z : WorldSettings) (R : Course → values.Course → Type 0) → Follows z R → (c : Course) (d : values.Course) (k : ℕ) → R c d
    → R (taken_all z c k) (values.taken_all d k)
taken z R F c d k h =
    let n = length (c.world.wires k).down in
    both_by R (taken_all z c k) (take_all z n c k) (values.taken_all d k) (values.take_all n d k) (bytes.taken_is z c k)
    (plain.taken_is d k ∙ ap (λ m. values.take_all m d k) (sym (down_is z R F c d k h))) (takes z R F n c d k h)

pub drains : (z : WorldSettings) (R : Course → values.Course → Type 0) → Follows z R → (n : ℕ) (c : Course) (d : values.Course) (k : ℕ)
    → R c d → R (drain z n c k) (values.drain n d k)
drains z R F zero c d k h =
    both_by R (drain z zero c k) c (values.drain zero d k) d (bytes.drain_none z c k) (plain.drain_none d k) h
drains z R F (suc n) c d k h =
    let u = taken_all z (served_all z c k) k in
    let v = values.taken_all (values.served_all d k) k in
    let p = taken z R F (served_all z c k) (values.served_all d k) k (served z R F c d k h) in
    let again = drains z R F n u v k p in
    both_test R (has_more u.world.values k) (has_more v.world k) (ap (λ (x : Values). has_more x k) (F.same u v p)) (drain z (suc n) c k)
    (drain z n u k) u (values.drain (suc n) d k) (values.drain n v k) v (told.drain_on z n c k) (told.drain_off z n c k)
    (model.drain_on n d k)
    (model.drain_off n d k) (λ _. again) (λ _. p)

-- ---- linking

links_on : (z : WorldSettings) (R : Course → values.Course → Type 0) → Follows z R
    → (n : ℕ) (c : Course) (d : values.Course) (k : ℕ) → R c d
    → R (linking z n c k) (values.linking n d k)
links_on z R F zero c d k h =
    both_by R (linking z zero c k) c (values.linking zero d k) d (bytes.linking_none z c k) (plain.linking_none d k) h
links_on z R F (suc n) c d k h =
    let u = went z c (Serve k) in
    let v = values.went d (Serve k) in
    let p = F.goes c d (Serve k) refl h in
    let again = links_on z R F n (went z u (Take k)) (values.went v (Take k)) k (F.goes u v (Take k) refl p) in
    both_test R (is_linking c.world.values k) (is_linking d.world k) (ap (λ (x : Values). is_linking x k) (F.same c d h))
    (linking z (suc n) c k) (linking z n (went z u (Take k)) k) c (values.linking (suc n) d k)
    (values.linking n (values.went v (Take k)) k) d (told.linking_on z n c k) (told.linking_off z n c k) (model.linking_on n d k)
    (model.linking_off n d k) (λ _. again) (λ _. h)

-- by what an Open leaves
pub links : (z : WorldSettings) (S : Course → values.Course → Type 0) → Follows z S → (c : Course) (d : values.Course) (k : ℕ)
    → S (went z c (Open k)) (values.went d (Open k)) → S (link z c k) (values.link d k)
links z S F c d k h =
    let u = went z c (Open k) in
    let v = values.went d (Open k) in
    both_by S (link z c k) (linking z 8 u k) (values.link d k) (values.linking 8 v k) (bytes.link_is z c k) (plain.link_is d k)
    (links_on z S F 8 u v k h)

-- ---- where the dialog of a new session was refused

finishes_by : (z : WorldSettings) (R : Course → values.Course → Type 0) → Follows z R
    → (o : Option Refusal) (c : Course) (d : values.Course)
    → R c d → R (finished_by z o c) (values.finished_by o d)
finishes_by z R F None c d h =
    both_by R (finished_by z None c) c (values.finished_by None d) d (bytes.finish_none z c) (plain.finish_none d) h
finishes_by z R F (Some refusal) c d h =
    both_by R (finished_by z (Some refusal) c) (went z c (Finish refusal)) (values.finished_by (Some refusal) d)
    (values.went d (Finish refusal)) (bytes.finish_some z refusal c) (plain.finish_some refusal d) (F.goes c d (Finish refusal) refl h)

abbrev is_refused : Bool → Values → Values → Bool
is_refused b v w = b && not (length v.client.refusals == length w.client.refusals)

pub finishes : (z : WorldSettings) (R : Course → values.Course → Type 0) → Follows z R → (b : Bool) (c f : Course) (d g : values.Course)
    → c.world.values ≡ d.world → R f g → R (finished_after z b c f) (values.finished_after b d g)
finishes z R F b c f d g e h =
    let same = F.same f g h in
    let o = last_refusal f.world.values.client.refusals in
    let p = last_refusal g.world.client.refusals in
    let one : R (finished_by z o f) (values.finished_by p g) =
    subst (λ q. R (finished_by z o f) (values.finished_by q g)) (ap (λ (v : Values). last_refusal v.client.refusals) same)
    (finishes_by z R F o f g h) in
    both_test R (is_refused b c.world.values f.world.values) (is_refused b d.world g.world)
    (ap (λ (v : Values). is_refused b v f.world.values) e ∙ ap (λ (v : Values). is_refused b d.world v) same) (finished_after z b c f)
    (finished_by z o f) f (values.finished_after b d g) (values.finished_by p g) g (told.finished_on z b c f) (told.finished_off z b c f)
    (model.finished_on b d g) (model.finished_off b d g) (λ _. one) (λ _. h)

-- ---- an event by a test of the values

goes_if : (z : WorldSettings) (R : Course → values.Course → Type 0) → Follows z R → (b a : Bool) → b ≡ a → (c : Course) (d : values.Course)
    (e : Event) → is_bare e ≡ true → R c d → R (went_if z b c e) (values.went_if a d e)
goes_if z R F b a q c d e bare h =
    both_test R b a q (went_if z b c e) (went z c e) c (values.went_if a d e) (values.went d e) d (told.went_on z b c e)
    (told.went_off z b c e)
    (model.went_on a d e) (model.went_off a d e) (λ _. F.goes c d e bare h) (λ _. h)

pub drains_and_cuts : (z : WorldSettings) (R : Course → values.Course → Type 0) → Follows z R → (c : Course) (d : values.Course) (k : ℕ)
    → R c d → R (drain_and_cut z c k) (values.drain_and_cut d k)
drains_and_cuts z R F c d k h =
    let same = F.same c d h in
    let n = is_at k c.world.values.client.making in
    let m = is_at k d.world.client.making in
    let f = finished_after z n c (drain z 64 c k) in
    let g = values.finished_after m d (values.drain 64 d k) in
    let one : R f g =
    subst (λ b. R f (values.finished_after b d (values.drain 64 d k))) (ap (λ (v : Values). is_at k v.client.making) same)
    (finishes z R F n c (drain z 64 c k) d (values.drain 64 d k) same (drains z R F 64 c d k h)) in
    both_by R (drain_and_cut z c k) (went_if z (hangs f.world.values k) f (Cut k)) (values.drain_and_cut d k)
    (values.went_if (hangs g.world k) g (Cut k)) (bytes.cut_is z c k) (plain.cut_is d k)
    (goes_if z R F (hangs f.world.values k) (hangs g.world k) (ap (λ (v : Values). hangs v k) (F.same f g one)) f g (Cut k) refl one)

pub drops : (z : WorldSettings) (R : Course → values.Course → Type 0) → Follows z R → (c : Course) (d : values.Course) (k : ℕ) → R c d
    → R (drop_orphan z c k) (values.drop_orphan d k)
drops z R F c d k h =
    both_by R (drop_orphan z c k) (went_if z (is_orphan c.world.values k) c (Drop k)) (values.drop_orphan d k)
    (values.went_if (is_orphan d.world k) d (Drop k)) (bytes.drop_is z c k) (plain.drop_is d k)
    (goes_if z R F (is_orphan c.world.values k) (is_orphan d.world k)
    (ap (λ (v : Values). is_orphan v k) (F.same c d h)) c d (Drop k) refl h)

abbrev is_alone : Values → ℕ → Bool
is_alone v k = (v.conns k).client_open && not (v.conns k).server_open

pub tidies : (z : WorldSettings) (R : Course → values.Course → Type 0) → Follows z R → (c : Course) (d : values.Course) (k : ℕ) → R c d
    → R (tidy z c k) (values.tidy d k)
tidies z R F c d k h =
    let f = went_if z (is_alone c.world.values k) c (Cut k) in
    let g = values.went_if (is_alone d.world k) d (Cut k) in
    both_by R (tidy z c k) (drop_orphan z f k) (values.tidy d k) (values.drop_orphan g k) (bytes.tidy_is z c k) (plain.tidy_is d k)
    (drops z R F f g k
    (goes_if z R F (is_alone c.world.values k) (is_alone d.world k) (ap (λ (v : Values). is_alone v k) (F.same c d h)) c d (Cut k) refl h))

-- ---- each of the channels in turn

pub each_on : (R : Course → values.Course → Type 0) (act : Course → ℕ → Course) (does : values.Course → ℕ → values.Course)
    → ((c : Course) (d : values.Course) (k : ℕ) → R c d → R (act c k) (does d k)) → (k n : ℕ) (c : Course) (d : values.Course) → R c d
    → R (each act k n c) (values.each does k n d)
each_on R act does s k zero c d h =
    both_by R (each act k zero c) c (values.each does k zero d) d (bytes.each_none act k c) (plain.each_none does k d) h
each_on R act does s k (suc n) c d h =
    both_by R (each act k (suc n) c) (each act (k + 1) n (act c k)) (values.each does k (suc n) d) (values.each does (k + 1) n (does d k))
    (bytes.each_more act k n c) (plain.each_more does k n d) (each_on R act does s (k + 1) n (act c k) (does d k) (s c d k h))

-- ---- a new session, where no channel is ready

pub begins : (z : WorldSettings) (S : Course → values.Course → Type 0) → Follows z S → (n : ℕ) (c : Course) (d : values.Course) → S c d
    → ((k : ℕ) → S (went z c (Open k)) (values.went d (Open k))) → S (linked z n c) (values.linked n d)
begins z S F n c d h opened =
    let same = F.same c d h in
    let k = least (is_apart c.world.values) 0 n in
    let j = least (is_apart d.world) 0 n in
    let one : S (link z c k) (values.link d j) =
    subst (λ i. S (link z c k) (values.link d i)) (ap (λ (v : Values). least (is_apart v) 0 n) same) (links z S F c d k (opened k)) in
    both_test S (c.world.values.client.channels == 0) (d.world.client.channels == 0) (ap (λ (v : Values). v.client.channels == 0) same)
    (linked z n c) (finished_after z true c (link z c k)) c (values.linked n d) (values.finished_after true d (values.link d j)) d
    (told.linked_on z n c) (told.linked_off z n c) (model.linked_on n d) (model.linked_off n d)
    (λ _. finishes z S F true c (link z c k) d (values.link d j) same one) (λ _. h)

-- ---- behind a push of a round

filled_alike : {X Y : Type 0} (xs : List X) (ys : List Y) → length xs ≡ length ys → is_filled xs ≡ is_filled ys
unfolding is_filled
filled_alike [] [] e = refl
filled_alike [] (y ∷ ys) e = absurd (omega (arith, e))
filled_alike (x ∷ xs) [] e = absurd (omega (arith, e))
filled_alike (x ∷ xs) (y ∷ ys) e = refl

pub pushed : (z : WorldSettings) (R : Course → values.Course → Type 0) → Follows z R → (c : Course) (d : values.Course) (k : ℕ)
    → R (went_push z c k) (values.went_push d k) → R (pushed_round z c k) (values.pushed_round d k)
pushed z R F c d k p =
    let u = went_push z c k in
    let v = values.went_push d k in
    let up = filled_alike (u.world.wires k).up (v.world.conns k).up (up_is z R F u v k p) in
    let down = filled_alike (u.world.wires k).down (v.world.conns k).down (down_is z R F u v k p) in
    both_test R (is_filled (u.world.wires k).up || is_filled (u.world.wires k).down)
    (is_filled (v.world.conns k).up || is_filled (v.world.conns k).down)
    (ap (λ b. b || is_filled (u.world.wires k).down) up ∙ ap (λ b. is_filled (v.world.conns k).up || b) down) (pushed_round z c k)
    (drain z 64 u k) (went z u (Cut k)) (values.pushed_round d k) (values.drain 64 v k) (values.went v (Cut k)) (told.pushed_on z c k)
    (told.pushed_off z c k) (model.pushed_on d k) (model.pushed_off d k) (λ _. drains z R F 64 u v k p) (λ _. F.goes u v (Cut k) refl p)
