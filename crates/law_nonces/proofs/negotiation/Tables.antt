-- Tables changed at a connection, and lists of endings.
use Rattle.std.proofs.Common.{◌≡◌, ℕ, zero, suc, ◌+◌, ◌==◌, true, false, if◌then◌else◌, List, [], ◌∷◌, ◌++◌, refl}
use Rattle.std.proofs.Common.{sym, ◌∙◌, ap, subst}
use Rattle.std.proofs.Common.{Some, None, slice_get, add-one, eqb-true, arith}
use Rattle.spec_exchange.specs.Table.{put}
use Rattle.spec_exchange.specs.Network.{Conn}
use Rattle.spec_world.specs.Answering.{Ending}

-- at the key and elsewhere
pub by_key : {X : Type 0} (P : ℕ → X → Type 0) (f : ℕ → X) (k : ℕ) (v : X) → P k v
    → ((j : ℕ) → (j == k) ≡ false → P j (f j)) → (j : ℕ) → P j (put f k v j)
by_key P f k v here there j = elim (j == k) as (λ b. j == k ≡ b → P j (if b then v else f j)) [
  | true ↦ λ e. subst (λ i. P i v) (sym (eqb-true j k e)) here
  | false ↦ λ e. there j e
] refl

-- the same over two tables
pub by_key_2 : {X Y : Type 0} (P : ℕ → X → Y → Type 0) (f : ℕ → X) (g : ℕ → Y) (k : ℕ) (v : X) (u : Y) → P k v u
    → ((j : ℕ) → (j == k) ≡ false → P j (f j) (g j)) → (j : ℕ) → P j (put f k v j) (put g k u j)
by_key_2 P f g k v u here there j = elim (j == k) as (λ b. j == k ≡ b → P j (if b then v else f j) (if b then u else g j)) [
  | true ↦ λ e. subst (λ i. P i v u) (sym (eqb-true j k e)) here
  | false ↦ λ e. there j e
] refl

pub put_same : {X : Type 0} (f : ℕ → X) (k : ℕ) (v : X) → put f k v k ≡ v
put_same f k v = grind arith

pub put_other : {X : Type 0} (f : ℕ → X) (k j : ℕ) (v : X) → (j == k) ≡ false → put f k v j ≡ f j
put_other f k j v e = ap (λ b. if b then v else f j) e

-- ---- the servers' ends of two tables of connections are open alike

abbrev pub SameOpen : (ℕ → Conn) → (ℕ → Conn) → Type 0
SameOpen old new = (j : ℕ) → (new j).server_open ≡ (old j).server_open

pub put_open : (conns : ℕ → Conn) (k : ℕ) (c : Conn) → c.server_open ≡ (conns k).server_open → SameOpen conns (put conns k c)
put_open conns k c e = by_key (λ j d. d.server_open ≡ (conns j).server_open) conns k c e (λ j off. refl)

pub same_open : (a b c : ℕ → Conn) → SameOpen a b → SameOpen b c → SameOpen a c
same_open a b c p q = λ j. q j ∙ p j

-- ---- lists: what holds of each element

abbrev pub All : (Ending → Type 0) → List Ending → Type 0
All P es = (i : ℕ) (e : Ending) → slice_get es i ≡ Some e → P e

pub none_there : (P : Ending → Type 0) → All P []
none_there P zero e h = absurd (let q : None ≡ Some e = h in cc)
none_there P (suc i) e h = absurd (let q : None ≡ Some e = h in cc)

pub all_with : (P : Ending → Type 0) (x : Ending) (xs : List Ending) → P x → All P xs → All P (x ∷ xs)
all_with P x xs p all zero e h = subst P (let q : Some x ≡ Some e = h in cc) p
all_with P x xs p all (suc i) e h = all i e h

pub all_rest : (P : Ending → Type 0) (x : Ending) (xs : List Ending) → All P (x ∷ xs) → All P xs
all_rest P x xs all i e h = all (i + 1) e (rw (add-one) h)

pub all_joined : (P : Ending → Type 0) (xs ys : List Ending) → All P xs → All P ys → All P (xs ++ ys)
all_joined P [] ys a b = b
all_joined P (x ∷ xs) ys a b = all_with P x (xs ++ ys) (a 0 x refl) (all_joined P xs ys (all_rest P x xs a) b)
