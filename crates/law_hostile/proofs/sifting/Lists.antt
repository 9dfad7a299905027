-- One connection's lists are sifted, and those of all others stay.
use Rattle.std.proofs.Common.{◌≡◌, ℕ, ◌==◌, Bool, true, false, if◌then◌else◌, refl, arith, sym, subst, eqb-true}
use Rattle.spec_exchange.specs.Table.{put}
use Rattle.spec_exchange.specs.Network.{Conn}
use Rattle.law_hostile.specs.sifting.Sifting.{Sifted}

-- of each connection
abbrev pub All : (ℕ → Conn) → (ℕ → Conn) → Type 0
All old new = (j : ℕ) → Sifted (old j) (new j)

itself : (c : Conn) → Sifted c c
itself c =
    record {
      client = refl;
      server = refl;
      up = λ n x h. (n, h);
      down = λ n y h. (n, h);
      none = λ e. e;
      fewer_up = λ g. omega arith;
      fewer_down = λ g. omega arith;
    }

one : (conns : ℕ → Conn) (k : ℕ) (d : Conn) → Sifted (conns k) d → (j : ℕ) (b : Bool) → (j == k) ≡ b
    → Sifted (conns j) (if b then d else conns j)
one conns k d s j true e = subst (λ i. Sifted (conns i) d) (sym (eqb-true j k e)) s
one conns k d s j false e = itself (conns j)

pub all : (conns : ℕ → Conn) (k : ℕ) (d : Conn) → Sifted (conns k) d → All conns (put conns k d)
all conns k d s j = one conns k d s j (j == k) refl
