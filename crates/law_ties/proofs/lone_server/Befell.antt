-- What befell a frame's events, told by what its step leaves.
use Rattle.std.proofs.Common.{◌≡◌, ℕ, Bool, true, false, not, ◌&&◌, if◌then◌else◌, List, [], ◌∷◌, Option, Some, None}
use Rattle.std.proofs.Common.{is_some, Result, Ok, Err, refl}
use Rattle.spec_exchange.specs.Table.{is_filled}
use Rattle.spec_exchange.specs.State.{Server, Message}
use Rattle.spec_world.specs.Settings.{ServerSettings}
use Rattle.spec_world.specs.Ends.{ServerEnd, Logons, ConnEnd, Stopped}
use Rattle.spec_world.specs.Hearing.{Checked, Frame}
use Rattle.spec_world.specs.Related.{Turn, Goes, Fails, turn_of}
use Rattle.spec_world.specs.Connection.{Going, heard_message}
use Rattle.spec_world.specs.Given.{has_event, dealt_step}
use Rattle.spec_world.specs.Mishaps.{Mishap, Lacks, Halts, Owned, owned_next, owned_aside, owned_heard, owned_turn}
use Rattle.spec_world.specs.Mishaps.{owned_all, owned_of, owning}
use Rattle.law_ties.specs.lone_server.Own.{NoneBefell}

-- no event found no memory, and the server goes on
record IsQuiet (w : Owned) : Type 0 where
  lacked : w.dealt.lacked ≡ false
  stopped : w.dealt.stopped ≡ None

abbrev Was : Owned → Type 0
Was w = IsQuiet w × NoneBefell w.mishaps

-- none is left
empty_none : (xs : List (Option Mishap)) → is_filled xs ≡ false → NoneBefell xs
unfolding is_filled
empty_none [] e = tt
empty_none (x ∷ xs) e = absurd (let never : true ≡ false = e in cc)

-- ---- before a message it was so too

before_next : (z : ServerSettings) (k now : ℕ) (fresh : List ℕ) (f : ServerEnd) (w : Owned) (c : Checked) (m : Message)
    (xs : List (Option Mishap)) → IsQuiet (owned_next z k now fresh f w c m xs) → NoneBefell (owned_next z k now fresh f w c m xs).mishaps
    → IsQuiet w × NoneBefell xs
before_next z k now fresh f w c m [] q none = (record { lacked = q.lacked; stopped = q.stopped }, tt)
before_next z k now fresh f w c m (None ∷ xs) q none = (record { lacked = q.lacked; stopped = q.stopped }, none)
before_next z k now fresh f w c m (Some (Lacks t) ∷ xs) q none = absurd (let never : true ≡ false = q.lacked in cc)
before_next z k now fresh f w c m (Some (Halts count) ∷ xs) q none = absurd (let never : Some count ≡ None = q.stopped in cc)

before_if : (b : Bool) (p q w : Owned) → (IsQuiet p → NoneBefell p.mishaps → Was w) → (IsQuiet q → NoneBefell q.mishaps → Was w)
    → IsQuiet (if b then p else q) → NoneBefell (if b then p else q).mishaps → Was w
before_if true p q w by_p by_q h none = by_p h none
before_if false p q w by_p by_q h none = by_q h none

before_heard : (z : ServerSettings) (k now : ℕ) (fresh : List ℕ) (f : ServerEnd) (w : Owned) (c : Checked) (h : Option Message)
    → IsQuiet (owned_heard z k now fresh f w c h) → NoneBefell (owned_heard z k now fresh f w c h).mishaps → Was w
before_heard z k now fresh f w c None q none = (record { lacked = q.lacked; stopped = q.stopped }, none)
before_heard z k now fresh f w c (Some m) q none =
    before_if (has_event m.command) (owned_next z k now fresh f w c m w.mishaps) (owned_aside z k now fresh f w c (Some m)) w
    (λ p n. before_next z k now fresh f w c m w.mishaps p n) (λ p n. (record { lacked = p.lacked; stopped = p.stopped }, n)) q none

before_turn : (z : ServerSettings) (k now : ℕ) (fresh : List ℕ) (f : ServerEnd) (w : Owned) (old : Checked) (t : Turn)
    → IsQuiet (owned_turn z k now fresh f w old t) → NoneBefell (owned_turn z k now fresh f w old t).mishaps → Was w
before_turn z k now fresh f w old (Goes c) q none = before_heard z k now fresh f w c (heard_message z w.dealt.going.logons k f c) q none
before_turn z k now fresh f w old (Fails status) q none = (record { lacked = q.lacked; stopped = q.stopped }, none)

-- ---- before all of them

before_rest : (b : Bool) (w r : Owned) → (IsQuiet r → is_filled r.mishaps ≡ false → Was w) → IsQuiet (if b then w else r)
    → is_filled (if b then w else r).mishaps ≡ false → Was w
before_rest true w r rest q e = (q, empty_none w.mishaps e)
before_rest false w r rest q e = rest q e

before_all : (z : ServerSettings) (k now : ℕ) (fresh : List ℕ) (f : ServerEnd) (w : Owned) (cs : List Checked)
    → IsQuiet (owned_all z k now fresh f w cs) → is_filled (owned_all z k now fresh f w cs).mishaps ≡ false → Was w
unfolding owned_all
before_all z k now fresh f w [] q e = (q, empty_none w.mishaps e)
before_all z k now fresh f w (c ∷ cs) q e =
    let t = turn_of w.dealt.going.carried c in
    let v = owned_turn z k now fresh f w c t in
    before_rest (is_some w.dealt.stopped) w (owned_all z k now fresh f v cs)
    (λ p n. (let was = before_all z k now fresh f v cs p n in before_turn z k now fresh f w c t was.0 was.1)) q e

-- ---- the step

unstopped : (f : ServerEnd) (sealed : Bool) (g : Going) (o : Option ℕ)
    → ((count : ℕ) → (dealt_step f sealed g o).ends ≡ Some (Stopped count) → ⊥) → o ≡ None
unstopped f sealed g None never = refl
unstopped f sealed g (Some count) never = absurd (never count refl)

none_left : (missing filled : Bool) → (not missing && not filled) ≡ true → filled ≡ false
none_left missing false m = refl
none_left true true m = absurd (let never : false ≡ true = m in cc)
none_left false true m = absurd (let never : false ≡ true = m in cc)

unfilled : (filled : Bool) → not filled ≡ true → filled ≡ false
unfilled false m = refl
unfilled true m = absurd (let never : false ≡ true = m in cc)

pub befell_of : (z : ServerSettings) (k now : ℕ) (fresh : List ℕ) (s : Server) (L : Logons) (f : ServerEnd) (mishaps : List (Option Mishap))
    (r : Result Frame ConnEnd) → (owned_of z k now fresh s L f mishaps r).matches ≡ true
    → (owned_of z k now fresh s L f mishaps r).lacked ≡ false
    → ((count : ℕ) → (owned_of z k now fresh s L f mishaps r).step.ends ≡ Some (Stopped count) → ⊥) → NoneBefell mishaps
befell_of z k now fresh s L f mishaps (Err why) m lacked never = empty_none mishaps (unfilled (is_filled mishaps) m)
befell_of z k now fresh s L f mishaps (Ok x) m lacked never =
    let w = owned_all z k now fresh x.server_end (owning s L x.server_end mishaps) x.messages in
    let q : IsQuiet w = record { lacked = lacked; stopped = unstopped x.server_end x.sealed w.dealt.going w.dealt.stopped never } in
    let was = before_all z k now fresh x.server_end (owning s L x.server_end mishaps) x.messages q
    (none_left w.dealt.missing (is_filled w.mishaps) m) in
    was.1
