-- The connections behind the replies to a frame.
use Rattle.std.proofs.Common.{◌≡◌, ℕ, Bool, true, false, if◌then◌else◌, refl, ap, ◌∙◌, List, [], ◌∷◌, ◌++◌, Option, Some, None}
use Rattle.spec_exchange.specs.Network.{Conn as Link, Received, Sent, Token, World as Values, behind_front, replied, say_down}
use Rattle.spec_exchange.specs.Table.{put}
use Rattle.spec_world.specs.Connection.{LastTaken}
use Rattle.spec_world.specs.World.{replied_each, values_took}
use Rattle.world_steps.proofs.serving.Downs.{replies}
use Rattle.world_steps.proofs.serving.Puts.{put_own, put_same, put_twice}

-- one connection, with a reply for each frame
abbrev pub said_all : Link → Received → List (List ℕ) → Link
said_all c y [] = c
said_all c y (f ∷ fs) = said_all (say_down c y) y fs

either_same : {X : Type 0} (b : Bool) (x : X) → x ≡ (if b then x else x)
either_same true x = refl
either_same false x = refl

when_true : {X : Type 0} (b : Bool) (u v w : X) → b ≡ true → (if b then u else v) ≡ (if b then u else w)
when_true true u v w e = refl
when_true false u v w e = absurd (cc)

when_false : {X : Type 0} (b : Bool) (u v w : X) → b ≡ false → (if b then u else w) ≡ (if b then v else w)
when_false true u v w e = absurd (cc)
when_false false u v w e = refl

abbrev pub with_down : Link → Received → List (List ℕ) → Link
with_down c y fs = record c { down = if c.client_open then replies c.down y fs else c.down }

one_down : (b : Bool) (c : Link) (y : Received) (fs : List (List ℕ)) → c.client_open ≡ b
    → with_down (if b then record c { down = c.down ++ y ∷ [] } else c) y fs
    ≡ record c { down = if c.client_open then replies (c.down ++ y ∷ []) y fs else c.down }
one_down true c y fs e =
    ap (λ (l : List Received). record c { down = l }) (when_true c.client_open (replies (c.down ++ y ∷ []) y fs)
    (c.down ++ y ∷ []) c.down e)
one_down false c y fs e =
    ap (λ (l : List Received). record c { down = l }) (when_false c.client_open (replies c.down y fs)
    (replies (c.down ++ y ∷ []) y fs) c.down e)

pub all_down : (c : Link) (y : Received) (fs : List (List ℕ)) → said_all c y fs ≡ with_down c y fs
all_down c y [] = ap (λ (l : List Received). record c { down = l }) (either_same c.client_open c.down)
all_down c y (f ∷ fs) = all_down (say_down c y) y fs ∙ one_down c.client_open c y fs refl

each_conns : (v : Values) (k : ℕ) (y : Received) (fs : List (List ℕ)) (j : ℕ)
    → (replied_each v k y fs).conns j ≡ put v.conns k (said_all (v.conns k) y fs) j
unfolding replied_each
each_conns v k y [] j = put_same v.conns k (v.conns k) j refl
each_conns v k y (f ∷ fs) j =
    each_conns (replied v k y) k y fs j
    ∙ (put_twice v.conns k (say_down (v.conns k) y) (said_all ((replied v k y).conns k) y fs) j
    ∙ ap (λ (c : Link). put v.conns k (said_all c y fs) j) (put_own v.conns k (say_down (v.conns k) y)))

-- nothing else changes
pub each_rest : (v : Values) (k : ℕ) (y : Received) (fs : List (List ℕ)) → replied_each v k y fs ≡ record v {
  conns = (replied_each v k y fs).conns;
}
unfolding replied_each
each_rest v k y [] = refl
each_rest v k y (f ∷ fs) = each_rest (replied v k y) k y fs

pub took_conns : (v : Values) (k : ℕ) (token : Token) (xs : List Sent) (o : Option LastTaken)
    → (values_took v k token xs o).conns ≡ put v.conns k (behind_front (v.conns k) xs)
took_conns v k token xs None = refl
took_conns v k token xs (Some t) = refl

-- the connection behind the front, with the replies
pub answered_conns : (v t : Values) (k : ℕ) (xs : List Sent) (y : Received) (fs : List (List ℕ))
    → t.conns ≡ put v.conns k (behind_front (v.conns k) xs) → (j : ℕ)
    → (replied_each t k y fs).conns j ≡ put v.conns k (with_down (behind_front (v.conns k) xs) y fs) j
answered_conns v t k xs y fs e j =
    let front = behind_front (v.conns k) xs in
    each_conns t k y fs j
    ∙ (ap (λ (c : ℕ → Link). put c k (said_all (c k) y fs) j) e
    ∙ (put_twice v.conns k front (said_all (put v.conns k front k) y fs) j
    ∙ (ap (λ (c : Link). put v.conns k (said_all c y fs) j) (put_own v.conns k front)
    ∙ ap (λ (c : Link). put v.conns k c j) (all_down front y fs))))
