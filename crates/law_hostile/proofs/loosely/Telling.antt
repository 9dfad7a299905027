-- A reply of an operation that waits anywhere on its list is taken as if it stood at the front: what it does to the values, and what lists
-- stay.
use Rattle.std.proofs.Common.{◌≡◌, ℕ, ◌==◌, Bool, true, false, ◌&&◌, if◌then◌else◌, ◌∷◌, refl, sym, ap, ◌∙◌, subst}
use Rattle.law_records.proofs.recovery.Lists.{put_here}
use Rattle.law_nonces.proofs.negotiation.Tables.{by_key, put_other}
use Rattle.spec_exchange.specs.Table.{put, is_filled}
use Rattle.spec_exchange.specs.State.{Reply}
use Rattle.spec_exchange.specs.ClientStep.{Act, Nothing, Sends, Asks, CloseChannel, CloseChannels, AllSettled, Hears, act}
use Rattle.spec_exchange.specs.Network.{World, Conn, Received, Token, ForOp, ForAttach, Take, happens, later, closed_by, op_took, took_by, take_front}
use Rattle.spec_exchange.specs.Network.{behind_reply, may_take_reply, take_reply, client_off}
use Rattle.law_hostile.specs.loosely.LooseRuns.{without_at}
use Rattle.law_hostile.proofs.loosely.Following.{Follows, later_follows}
use Rattle.law_hostile.proofs.loosely.Serving.{then_conns, one_conn}
use Rattle.law_hostile.proofs.loosely.Fronts.{told_first}
use Rattle.law_hostile.proofs.loosely.Taking.{follows_then, with_same, op_took_follows}

abbrev pub line_token : ℕ → Bool → Token
line_token g true = ForAttach g
line_token g false = ForOp g

-- the world whose list it left
abbrev pub told_behind : World → ℕ → Received → ℕ → World
told_behind v k y n = behind_reply (told_first v k y n) k (without_at n (v.conns k).down)

took_line : (u : World) (k g : ℕ) (asking : Bool) (r : Reply) (place : ℕ)
    → took_by u k r place (line_token g asking) ≡ op_took u k g asking r place
took_line u k g true r place = refl
took_line u k g false r place = refl

if_true : {X : Type 0} (b : Bool) (x y : X) → b ≡ true → (if b then x else y) ≡ x
if_true true x y e = refl
if_true false x y e = absurd (let h : false ≡ true = e in cc)

pub told_is : (v : World) (k : ℕ) (y : Received) (n g : ℕ) (asking : Bool) → (v.conns k).client_open ≡ true → y.token ≡ line_token g asking
    → happens (told_first v k y n) (Take k) ≡ later (op_took (told_behind v k y n) k g asking y.reply y.place) 1
unfolding is_filled
told_is v k y n g asking on token =
    let d : Conn = record (v.conns k) { down = y ∷ without_at n (v.conns k).down } in
    let u = told_first v k y n in
    let e : u.conns k ≡ d = put_here v.conns k d in
    let may : may_take_reply u k ≡ true =
    ap (λ (c : Conn). c.client_open && is_filled c.down) e ∙ ap (λ b. b && is_filled (y ∷ without_at n (v.conns k).down)) on in
    if_true (may_take_reply u k) (later (take_reply u k (u.conns k).down) 1) u may
    ∙ (ap (λ (c : Conn). later (take_reply u k c.down) 1) e
    ∙ (ap (λ t. later (took_by (told_behind v k y n) k y.reply y.place t) 1) token
    ∙ ap (λ w. later w 1) (took_line (told_behind v k y n) k g asking y.reply y.place)))

-- ---- what it does to the values

behind_follows : (v : World) (k : ℕ) (y : Received) (n : ℕ) → Follows v (told_behind v k y n)
behind_follows v k y n =
    let p = v.conns in
    let d : Conn = record (p k) { down = y ∷ without_at n (p k).down } in
    let q = put p k d in
    let rest = without_at n (p k).down in
    with_same v (put q k (take_front (q k) rest))
    (then_conns p q (put q k (take_front (q k) rest)) (one_conn p k d (record { client = refl; server = refl; next = refl }))
    (one_conn q k (take_front (q k) rest) (record { client = refl; server = refl; next = refl })))

-- of a world that follows another, wherever the place of its answer is
pub told_follows : (w v : World) (k : ℕ) (y : Received) (n g : ℕ) (asking : Bool) (place : ℕ) → (v.conns k).client_open ≡ true
    → y.token ≡ line_token g asking → Follows w v
    → Follows (later (op_took w k g asking y.reply place) 1) (happens (told_first v k y n) (Take k))
told_follows w v k y n g asking place on token f =
    let u = told_behind v k y n in
    subst (λ x. Follows (later (op_took w k g asking y.reply place) 1) x) (sym (told_is v k y n g asking on token))
    (later_follows (op_took w k g asking y.reply place) (op_took u k g asking y.reply y.place) 1
    (op_took_follows w u k g asking y.reply place y.place (follows_then w v u f (behind_follows v k y n))))

-- ---- what lists stay

closed_up : (w : World) (k : ℕ) (a : Act) (j : ℕ) → ((closed_by w k a).conns j).up ≡ (w.conns j).up
closed_up w k CloseChannels j = refl
closed_up w k CloseChannel j = by_key (λ i (c : Conn). c.up ≡ (w.conns i).up) w.conns k (client_off (w.conns k)) refl (λ i off. refl) j
closed_up w k Nothing j = refl
closed_up w k (Sends g) j = refl
closed_up w k (Asks g) j = refl
closed_up w k AllSettled j = refl

-- where the client's end is still open
closed_down : (w : World) (k : ℕ) (a : Act) (j : ℕ) → ((closed_by w k a).conns j).client_open ≡ true
    → ((closed_by w k a).conns j).down ≡ (w.conns j).down
closed_down w k CloseChannels j on = absurd (let h : false ≡ true = on in cc)
closed_down w k CloseChannel j on =
    by_key (λ i (c : Conn). c.client_open ≡ true → c.down ≡ (w.conns i).down) w.conns k (client_off (w.conns k))
    (λ e. absurd (let h : false ≡ true = e in cc)) (λ i off e. refl) j on
closed_down w k Nothing j on = refl
closed_down w k (Sends g) j on = refl
closed_down w k (Asks g) j on = refl
closed_down w k AllSettled j on = refl

behind_here : (v : World) (k : ℕ) (y : Received) (n : ℕ)
    → (told_behind v k y n).conns k ≡ record (v.conns k) { down = without_at n (v.conns k).down }
behind_here v k y n =
    let p = v.conns in
    let d : Conn = record (p k) { down = y ∷ without_at n (p k).down } in
    let q = put p k d in
    let rest = without_at n (p k).down in
    put_here q k (take_front (q k) rest) ∙ ap (λ (c : Conn). take_front c rest) (put_here p k d)

behind_there : (v : World) (k : ℕ) (y : Received) (n j : ℕ) → (j == k) ≡ false → (told_behind v k y n).conns j ≡ v.conns j
behind_there v k y n j off =
    let p = v.conns in
    let d : Conn = record (p k) { down = y ∷ without_at n (p k).down } in
    let q = put p k d in
    put_other q k j (take_front (q k) (without_at n (p k).down)) off ∙ put_other p k j d off

pub record Stay (v u : World) (k n : ℕ) : Type 0 where
  pub up : (j : ℕ) → (u.conns j).up ≡ (v.conns j).up
  pub here : (u.conns k).client_open ≡ true → (u.conns k).down ≡ without_at n (v.conns k).down
  pub there : (j : ℕ) → (j == k) ≡ false → (u.conns j).client_open ≡ true → (u.conns j).down ≡ (v.conns j).down

behind_up : (v : World) (k : ℕ) (y : Received) (n j : ℕ) → ((told_behind v k y n).conns j).up ≡ (v.conns j).up
behind_up v k y n j =
    let p = v.conns in
    let d : Conn = record (p k) { down = y ∷ without_at n (p k).down } in
    let q = put p k d in
    by_key (λ i (c : Conn). c.up ≡ (q i).up) q k (take_front (q k) (without_at n (p k).down)) refl (λ i off. refl) j
    ∙ by_key (λ i (c : Conn). c.up ≡ (p i).up) p k d refl (λ i off. refl) j

pub told_stay : (v : World) (k : ℕ) (y : Received) (n g : ℕ) (asking : Bool) → (v.conns k).client_open ≡ true → y.token ≡ line_token g asking
    → Stay v (happens (told_first v k y n) (Take k)) k n
told_stay v k y n g asking on token =
    let u = told_behind v k y n in
    let a = act u.client (Hears k g asking y.reply y.place) in
    subst (λ x. Stay v x k n) (sym (told_is v k y n g asking on token))
    (record {
      up = λ j. closed_up u k a j ∙ behind_up v k y n j;
      here = λ e. closed_down u k a k e ∙ ap (λ (c : Conn). c.down) (behind_here v k y n);
      there = λ j off e. closed_down u k a j e ∙ ap (λ (c : Conn). c.down) (behind_there v k y n j off);
    })
