-- Commands that name an open, and what their form says.
use Rattle.std.proofs.Common.{◌≡◌, ◌<◌, ℕ, ◌+◌, ◌==◌, nat_lt, nat_le, Bool, true, false, not, if◌then◌else◌, List, [], ◌∷◌}
use Rattle.std.proofs.Common.{length, Option, Some, None, refl, ap, arith}
use Rattle.std.proofs.lemmas.Bool.Decides.{nat_tests}
use Rattle.spec_exchange.specs.Check.{tree_command, on_open}
use Rattle.spec_exchange.specs.Commands as asks
use Rattle.spec_exchange.specs.Commands.{Element, lock_form, transfer_form}
use Rattle.spec_exchange.specs.State.{Server, Message}
use Rattle.spec_exchange.specs.Status.{invalid_parameter, not_supported}
use Rattle.spec_exchange.specs.Table.{is_filled}
use Rattle.spec_exchange.specs.Verdict.{Refuse}
use Rattle.server_checks.specs.Looks.{IsOnOpen, IsListingShort, open_command}
use Rattle.server_checks.specs.verdicts.Looks.{file_in}

-- a request that names no open
pub unnamed_is : (s : Server) (m : Message) (pipes : Bool) (c : asks.Command) → IsOnOpen c → file_in c ≡ None
    → tree_command s m pipes c ≡ Refuse not_supported
unnamed_is s m pipes (asks.Unreadable status) i e = absurd i
unnamed_is s m pipes (asks.Aside status) i e = refl
unnamed_is s m pipes (asks.Setup request) i e = refl
unnamed_is s m pipes asks.Logoff i e = refl
unnamed_is s m pipes (asks.TreeConnect share) i e = refl
unnamed_is s m pipes asks.TreeDisconnect i e = absurd i
unnamed_is s m pipes (asks.Create request) i e = absurd i
unnamed_is s m pipes (asks.Close f query) i e = absurd (cc)
unnamed_is s m pipes (asks.Flush f) i e = absurd (cc)
unnamed_is s m pipes (asks.Read f at size minimum channel) i e = absurd (cc)
unnamed_is s m pipes (asks.Write f at bytes channel) i e = absurd (cc)
unnamed_is s m pipes (asks.Lock f index number elements) i e = absurd (cc)
unnamed_is s m pipes (asks.Ioctl f code room) i e = absurd (cc)
unnamed_is s m pipes (asks.ListDirectory f class restart single pattern room) i e = absurd (cc)
unnamed_is s m pipes (asks.QueryFile f class room) i e = absurd (cc)
unnamed_is s m pipes (asks.QueryVolume f class room) i e = absurd (cc)
unnamed_is s m pipes (asks.SetInfo f setting) i e = absurd (cc)

some_same : (f o : ℕ) → Some f ≡ Some o → f ≡ o
some_same f o e = cc

same_open : (s : Server) (m : Message) (c : asks.Command) (f o : ℕ) → Some f ≡ Some o
    → on_open s m f (open_command s m f c) ≡ on_open s m o (open_command s m o c)
same_open s m c f o e = ap (λ x. on_open s m x (open_command s m x c)) (some_same f o e)

-- and one that names this one
pub named_is : (s : Server) (m : Message) (pipes : Bool) (c : asks.Command) (o : ℕ) → IsOnOpen c → file_in c ≡ Some o
    → tree_command s m pipes c ≡ on_open s m o (open_command s m o c)
named_is s m pipes (asks.Unreadable status) o i e = absurd i
named_is s m pipes (asks.Aside status) o i e = absurd (cc)
named_is s m pipes (asks.Setup request) o i e = absurd (cc)
named_is s m pipes asks.Logoff o i e = absurd (cc)
named_is s m pipes (asks.TreeConnect share) o i e = absurd (cc)
named_is s m pipes asks.TreeDisconnect o i e = absurd i
named_is s m pipes (asks.Create request) o i e = absurd i
named_is s m pipes (asks.Close f query) o i e = same_open s m (asks.Close f query) f o e
named_is s m pipes (asks.Flush f) o i e = same_open s m (asks.Flush f) f o e
named_is s m pipes (asks.Read f at size minimum channel) o i e = same_open s m (asks.Read f at size minimum channel) f o e
named_is s m pipes (asks.Write f at bytes channel) o i e = same_open s m (asks.Write f at bytes channel) f o e
named_is s m pipes (asks.Lock f index number elements) o i e = same_open s m (asks.Lock f index number elements) f o e
named_is s m pipes (asks.Ioctl f code room) o i e = rw i (same_open s m (asks.Ioctl f code room) f o e)
named_is s m pipes (asks.ListDirectory f class restart single pattern room) o i e =
    same_open s m (asks.ListDirectory f class restart single pattern room) f o e
named_is s m pipes (asks.QueryFile f class room) o i e = same_open s m (asks.QueryFile f class room) f o e
named_is s m pipes (asks.QueryVolume f class room) o i e = same_open s m (asks.QueryVolume f class room) f o e
named_is s m pipes (asks.SetInfo f setting) o i e = same_open s m (asks.SetInfo f setting) f o e

-- ---- what the form says

few_of : (n : ℕ) → nat_lt 1048576 n ≡ false → nat_le n 1048576 ≡ true
few_of n e = grind (arith, nat_tests)

low_of : (n m : ℕ) → nat_lt n m ≡ true → n < m
low_of n m e = grind (arith, nat_tests)

-- by whether the end is low
abbrev ended_form : Bool → Option ℕ
ended_form c = if c then None else Some invalid_parameter

-- a write that keeps its form
pub short_write : (at : ℕ) (bytes : List ℕ) (channel : ℕ) → transfer_form at (length bytes) channel ≡ None → IsListingShort at bytes
short_write at bytes channel e = record {
  few = few (nat_lt 1048576 (length bytes)) refl;
  low = low (nat_lt 1048576
      (length bytes)) refl;
}
  where
    few : (a : Bool) → nat_lt 1048576 (length bytes) ≡ a → nat_le (length bytes) 1048576 ≡ true
    few true k = absurd (let m = rw k at e in cc)
    few false k = few_of (length bytes) k

    end : (c : Bool) → nat_lt (at + length bytes) 0x8000_0000_0000_0000 ≡ c → ended_form c ≡ None
        → at + length bytes < 0x8000_0000_0000_0000
    end true k m = low_of (at + length bytes) 0x8000_0000_0000_0000 k
    end false k m = absurd (cc)

    inner : (b : Bool) → (channel == 0) ≡ b
        → (if not b then Some invalid_parameter else ended_form (nat_lt (at + length bytes) 0x8000_0000_0000_0000)) ≡ None
        → at + length bytes < 0x8000_0000_0000_0000
    inner true k m = end (nat_lt (at + length bytes) 0x8000_0000_0000_0000) refl m
    inner false k m = absurd (cc)

    low : (a : Bool) → nat_lt 1048576 (length bytes) ≡ a → at + length bytes < 0x8000_0000_0000_0000
    low true k = absurd (let m = rw k at e in cc)
    low false k = inner (channel == 0) refl (rw k at e)

-- a lock that keeps its form names a range
pub filled_lock : (es : List Element) → lock_form es ≡ None → is_filled es ≡ true
unfolding is_filled
filled_lock [] e = absurd (cc)
filled_lock (x ∷ xs) e = refl
