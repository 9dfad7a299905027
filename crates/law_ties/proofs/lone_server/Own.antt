-- A frame whose events had no mishap.
use Rattle.std.proofs.Common.{◌≡◌, ℕ, Bool, true, false, not, ◌&&◌, if◌then◌else◌, List, [], ◌∷◌, Option, Some, None}
use Rattle.std.proofs.Common.{is_some, Result, Ok, Err, ◌⊎◌, inl, inr, refl, ap, subst, ◌∙◌}
use Rattle.spec_exchange.specs.Table.{is_filled}
use Rattle.spec_exchange.specs.State.{Server, Message}
use Rattle.spec_exchange.specs.Network.{answer_to}
use Rattle.spec_world.specs.Settings.{ServerSettings}
use Rattle.spec_world.specs.Ends.{ServerEnd, Logons, ConnEnd}
use Rattle.spec_world.specs.Hearing.{Checked, Frame}
use Rattle.spec_world.specs.Related.{Turn, Goes, Fails, turn_of}
use Rattle.spec_world.specs.Connection.{Going, heard_message, went_heard, went_turn, went_all, beginning, step_of, answered}
use Rattle.spec_world.specs.Given.{has_event, went_answered, dealt_step}
use Rattle.spec_world.specs.Mishaps.{Mishap, Lacks, Halts, Owned, owned_next, owned_aside, owned_heard, owned_turn}
use Rattle.spec_world.specs.Mishaps.{owned_all, owned_of, owning}
use Rattle.law_ties.specs.lone_server.Own.{NoneBefell}

-- ---- where something was missing it stays so

missing_next : (z : ServerSettings) (k now : ℕ) (fresh : List ℕ) (f : ServerEnd) (w : Owned) (c : Checked) (m : Message)
    (xs : List (Option Mishap)) → w.dealt.missing ≡ true → (owned_next z k now fresh f w c m xs).dealt.missing ≡ true
missing_next z k now fresh f w c m [] e = refl
missing_next z k now fresh f w c m (None ∷ xs) e = e
missing_next z k now fresh f w c m (Some (Lacks t) ∷ xs) e = e
missing_next z k now fresh f w c m (Some (Halts count) ∷ xs) e = e

missing_if : (b : Bool) (p q : Owned) → p.dealt.missing ≡ true → q.dealt.missing ≡ true → (if b then p else q).dealt.missing ≡ true
missing_if true p q h k = h
missing_if false p q h k = k

missing_heard : (z : ServerSettings) (k now : ℕ) (fresh : List ℕ) (f : ServerEnd) (w : Owned) (c : Checked) (h : Option Message)
    → w.dealt.missing ≡ true → (owned_heard z k now fresh f w c h).dealt.missing ≡ true
missing_heard z k now fresh f w c None e = e
missing_heard z k now fresh f w c (Some m) e =
    missing_if (has_event m.command) (owned_next z k now fresh f w c m w.mishaps) (owned_aside z k now fresh f w c (Some m))
    (missing_next z k now fresh f w c m w.mishaps e) e

missing_turn : (z : ServerSettings) (k now : ℕ) (fresh : List ℕ) (f : ServerEnd) (w : Owned) (old : Checked) (t : Turn)
    → w.dealt.missing ≡ true → (owned_turn z k now fresh f w old t).dealt.missing ≡ true
missing_turn z k now fresh f w old (Goes c) e = missing_heard z k now fresh f w c (heard_message z w.dealt.going.logons k f c) e
missing_turn z k now fresh f w old (Fails status) e = e

missing_all : (z : ServerSettings) (k now : ℕ) (fresh : List ℕ) (f : ServerEnd) (w : Owned) (cs : List Checked)
    → w.dealt.missing ≡ true → (owned_all z k now fresh f w cs).dealt.missing ≡ true
unfolding owned_all
missing_all z k now fresh f w [] e = e
missing_all z k now fresh f w (c ∷ cs) e =
    missing_if (is_some w.dealt.stopped) w
    (owned_all z k now fresh f (owned_turn z k now fresh f w c (turn_of w.dealt.going.carried c)) cs) e
    (missing_all z k now fresh f (owned_turn z k now fresh f w c (turn_of w.dealt.going.carried c)) cs
    (missing_turn z k now fresh f w c (turn_of w.dealt.going.carried c) e))

-- ---- a message goes as the step has it, or nothing was told for it

record GoesOn (w : Owned) (g : Going) : Type 0 where
  going : w.dealt.going ≡ g
  stopped : w.dealt.stopped ≡ None
  befell : NoneBefell w.mishaps

goes_next : (z : ServerSettings) (k now : ℕ) (fresh : List ℕ) (f : ServerEnd) (w : Owned) (c : Checked) (m : Message)
    (xs : List (Option Mishap)) → heard_message z w.dealt.going.logons k f c ≡ Some m → w.dealt.stopped ≡ None → NoneBefell xs
    → ((owned_next z k now fresh f w c m xs).dealt.missing ≡ true)
    ⊎ GoesOn (owned_next z k now fresh f w c m xs) (went_heard z k now fresh f w.dealt.going c (Some m))
goes_next z k now fresh f w c m [] is stands none = inl refl
goes_next z k now fresh f w c m (None ∷ xs) is stands none =
    inr (record {
      going =
          ap (λ (h : Option Message). went_answered z k now fresh f w.dealt.going c h (answer_to w.dealt.going.server now m m.command)) is;
      stopped = stands;
      befell = none;
    })
goes_next z k now fresh f w c m (Some x ∷ xs) is stands none = absurd none

goes_if : (b : Bool) (p q : Owned) (g : Going) → (p.dealt.missing ≡ true) ⊎ GoesOn p g → GoesOn q g
    → ((if b then p else q).dealt.missing ≡ true) ⊎ GoesOn (if b then p else q) g
goes_if true p q g h k = h
goes_if false p q g h k = inr k

goes_heard : (z : ServerSettings) (k now : ℕ) (fresh : List ℕ) (f : ServerEnd) (w : Owned) (c : Checked) (h : Option Message)
    → heard_message z w.dealt.going.logons k f c ≡ h → w.dealt.stopped ≡ None → NoneBefell w.mishaps
    → ((owned_heard z k now fresh f w c h).dealt.missing ≡ true)
    ⊎ GoesOn (owned_heard z k now fresh f w c h) (went_heard z k now fresh f w.dealt.going c h)
goes_heard z k now fresh f w c None is stands none = inr (record { going = refl; stopped = stands; befell = none })
goes_heard z k now fresh f w c (Some m) is stands none =
    goes_if (has_event m.command) (owned_next z k now fresh f w c m w.mishaps) (owned_aside z k now fresh f w c (Some m))
    (went_heard z k now fresh f w.dealt.going c (Some m))
    (goes_next z k now fresh f w c m w.mishaps is stands none)
    (record { going = refl; stopped = stands; befell = none })

goes_turn : (z : ServerSettings) (k now : ℕ) (fresh : List ℕ) (f : ServerEnd) (w : Owned) (old : Checked) (t : Turn)
    → w.dealt.stopped ≡ None → NoneBefell w.mishaps
    → ((owned_turn z k now fresh f w old t).dealt.missing ≡ true)
    ⊎ GoesOn (owned_turn z k now fresh f w old t) (went_turn z k now fresh f w.dealt.going old t)
goes_turn z k now fresh f w old (Goes c) stands none =
    goes_heard z k now fresh f w c (heard_message z w.dealt.going.logons k f c) refl stands none
goes_turn z k now fresh f w old (Fails status) stands none = inr (record { going = refl; stopped = stands; befell = none })

-- ---- all of them

all_of : (z : ServerSettings) (k now : ℕ) (fresh : List ℕ) (f : ServerEnd) (w v : Owned) (g : Going) (cs : List Checked)
    → (v.dealt.missing ≡ true) ⊎ GoesOn v g
    → ((u : Owned) → u.dealt.stopped ≡ None → NoneBefell u.mishaps
    → ((owned_all z k now fresh f u cs).dealt.missing ≡ true)
    ⊎ GoesOn (owned_all z k now fresh f u cs) (went_all z k now fresh f u.dealt.going cs))
    → ((owned_all z k now fresh f v cs).dealt.missing ≡ true) ⊎ GoesOn (owned_all z k now fresh f v cs) (went_all z k now fresh f g cs)
all_of z k now fresh f w v g cs (inl e) rest = inl (missing_all z k now fresh f v cs e)
all_of z k now fresh f w v g cs (inr h) rest =
    subst (λ (x : Going). ((owned_all z k now fresh f v cs).dealt.missing ≡ true)
    ⊎ GoesOn (owned_all z k now fresh f v cs) (went_all z k now fresh f x cs)) h.going (rest v h.stopped h.befell)

stands_if : (o : Option ℕ) (p q : Owned) (g : Going) → o ≡ None → (q.dealt.missing ≡ true) ⊎ GoesOn q g
    → ((if is_some o then p else q).dealt.missing ≡ true) ⊎ GoesOn (if is_some o then p else q) g
stands_if None p q g e h = h
stands_if (Some n) p q g e h = absurd cc

goes_all : (z : ServerSettings) (k now : ℕ) (fresh : List ℕ) (f : ServerEnd) (w : Owned) (cs : List Checked)
    → w.dealt.stopped ≡ None → NoneBefell w.mishaps
    → ((owned_all z k now fresh f w cs).dealt.missing ≡ true)
    ⊎ GoesOn (owned_all z k now fresh f w cs) (went_all z k now fresh f w.dealt.going cs)
unfolding owned_all went_all
goes_all z k now fresh f w [] stands none = inr (record { going = refl; stopped = stands; befell = none })
goes_all z k now fresh f w (c ∷ cs) stands none =
    let t = turn_of w.dealt.going.carried c in
    let v = owned_turn z k now fresh f w c t in
    stands_if w.dealt.stopped w (owned_all z k now fresh f v cs)
    (went_all z k now fresh f (went_turn z k now fresh f w.dealt.going c t) cs) stands
    (all_of z k now fresh f w v (went_turn z k now fresh f w.dealt.going c t) cs (goes_turn z k now fresh f w c t stands none)
    (λ u p q. goes_all z k now fresh f u cs p q))

-- ---- the step

both_of : (a b : Bool) → (not a && b) ≡ true → a ≡ true → ⊥
both_of true b h e = let never : false ≡ true = h in cc
both_of false b h e = let never : false ≡ true = e in cc

step_by : (z : ServerSettings) (k now : ℕ) (fresh : List ℕ) (f : ServerEnd) (sealed : Bool) (w : Owned) (g : Going) (filled : Bool)
    → (not w.dealt.missing && filled) ≡ true → (w.dealt.missing ≡ true) ⊎ GoesOn w g
    → dealt_step f sealed w.dealt.going w.dealt.stopped ≡ answered f sealed g
step_by z k now fresh f sealed w g filled m (inl e) = absurd (both_of w.dealt.missing filled m e)
step_by z k now fresh f sealed w g filled m (inr h) =
    ap (dealt_step f sealed w.dealt.going) h.stopped ∙ ap (answered f sealed) h.going

pub own_of : (z : ServerSettings) (k now : ℕ) (fresh : List ℕ) (s : Server) (L : Logons) (f : ServerEnd) (mishaps : List (Option Mishap))
    (r : Result Frame ConnEnd) → NoneBefell mishaps → (owned_of z k now fresh s L f mishaps r).matches ≡ true
    → (owned_of z k now fresh s L f mishaps r).step ≡ step_of z k now fresh s L f r
own_of z k now fresh s L f mishaps (Err why) none m = refl
own_of z k now fresh s L f mishaps (Ok x) none m =
    let w = owned_all z k now fresh x.server_end (owning s L x.server_end mishaps) x.messages in
    step_by z k now fresh x.server_end x.sealed w (went_all z k now fresh x.server_end (beginning s L x.server_end) x.messages)
    (not (is_filled w.mishaps)) m
    (goes_all z k now fresh x.server_end (owning s L x.server_end mishaps) x.messages refl none)
