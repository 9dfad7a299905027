-- A frame's events, one after the other.
use Rattle.std.proofs.Common.{◌≡◌, ℕ, ◌+◌, ◌≤◌, nat_le, Bool, true, false, not, ◌&&◌, if◌then◌else◌, List, [], ◌∷◌, ◌++◌, length, Option}
use Rattle.std.proofs.Common.{Some, None, refl, sym, ap, ◌∙◌, arith}
use Rattle.std.specs.Prelude.{is_some}
use Rattle.std.proofs.lemmas.Bool.Decides.{nat_tests}
use Rattle.spec_exchange.specs.State.{Message}
use Rattle.spec_world.specs.Connection.{heard_message}
use Rattle.spec_world.specs.Ends.{ServerEnd}
use Rattle.spec_world.specs.Given.{Dealt, Given, has_event, is_past_setups, dealt_all, dealt_by, dealt_heard, dealt_next, dealt_turn}
use Rattle.spec_world.specs.Given.{went_refused}
use Rattle.spec_world.specs.Hearing.{Checked, is_setup}
use Rattle.spec_world.specs.Mishaps.{Mishap, Lacks, Halts, Owned, own_given, owned_all, owned_aside, owned_heard, owned_next, owned_turn}
use Rattle.spec_world.specs.Related.{Turn, Goes, Fails, turn_of}
use Rattle.spec_world.specs.Settings.{ServerSettings}
use Rattle.spec_world.specs.Connection.{went_heard}
use Rattle.spec_exchange.specs.Status.{insufficient_resources}
use Rattle.law_ties.specs.lone_server.Single.{given_next, given_heard, given_turn, single_givens}

-- what is dealt, with what is still given and how many setups there were
abbrev dealt_with : Dealt → List Given → ℕ → Dealt
dealt_with d l n = record d { left = l; setups = n }

-- how many setups there are behind a message
abbrev setups_behind : Bool → ℕ → ℕ
setups_behind b n = if b then n + 1 else n

few_behind : (b : Bool) (n : ℕ) → setups_behind b n ≤ n + 1
few_behind true n = omega arith
few_behind false n = omega arith

-- ---- an event

by_given : (z : ServerSettings) (k now : ℕ) (fresh : List ℕ) (f : ServerEnd) (d : Dealt) (c : Checked) (m : Message) (x : Option Mishap)
    (l : List Given) (n : ℕ) → dealt_by z k f (dealt_with d l n) c (own_given now fresh d.going m x)
    ≡ dealt_with (dealt_by z k f d c (own_given now fresh d.going m x)) l n
by_given z k now fresh f d c m None l n = refl
by_given z k now fresh f d c m (Some (Lacks t)) l n = refl
by_given z k now fresh f d c m (Some (Halts count)) l n = refl

counted : (d : Dealt) (c : Checked) (l : List Given) (n : ℕ) (b : Bool)
    → (if b then record (dealt_with d l n) { setups = n + 1 } else dealt_with d l n) ≡ dealt_with d l (setups_behind b n)
counted d c l n true = refl
counted d c l n false = refl

next_one : (z : ServerSettings) (k now : ℕ) (fresh : List ℕ) (f : ServerEnd) (w : Owned) (c : Checked) (m : Message)
    (xs : List (Option Mishap)) (rest : List Given) (n : ℕ) → (xs ≡ [] → rest ≡ [])
    → (p : ℕ) × (p ≤ n + 1) × (dealt_next z k f (dealt_with w.dealt (given_next now fresh w m xs ++ rest) n) c
    (given_next now fresh w m xs ++ rest) ≡ dealt_with (owned_next z k now fresh f w c m xs).dealt rest p)
next_one z k now fresh f w c m [] rest n none = (
  n,
  omega arith,
  ap (λ (l : List Given). dealt_next z k f (dealt_with w.dealt l n) c l) (none refl)
      ∙ ap (λ (l : List Given). dealt_with (record w.dealt { missing = true }) l n) (sym (none refl)),
)
next_one z k now fresh f w c m (x ∷ xs) rest n none =
    let b = is_setup c.header in (
      setups_behind b n,
      few_behind b n,
      ap (λ (d : Dealt). dealt_by z k f d c (own_given now fresh w.dealt.going m x)) (counted w.dealt c rest n b)
          ∙ by_given z k now fresh f w.dealt c m x rest (setups_behind b n),
    )

-- ---- a message that is heard

in_time : (n : ℕ) (b : Bool) → n + 1 ≤ 4096 → (b && nat_le 4096 n) ≡ false
in_time n true less = below n less
  where
    below : (n : ℕ) → n + 1 ≤ 4096 → nat_le 4096 n ≡ false
    below n less = grind (arith, nat_tests)
in_time n false less = refl

event_one : (z : ServerSettings) (k now : ℕ) (fresh : List ℕ) (f : ServerEnd) (w : Owned) (c : Checked) (m : Message) (rest : List Given)
    (n : ℕ) (b past : Bool) → past ≡ false → (w.mishaps ≡ [] → rest ≡ [])
    → let l = (if b then given_next now fresh w m w.mishaps else []) ++ rest in
    (p : ℕ) × (p ≤ n + 1) × ((if not b then record (dealt_with w.dealt l n) { going = went_heard z k now fresh f w.dealt.going c (Some m) }
    else if past then record (dealt_with w.dealt l n) { going = went_refused f w.dealt.going c insufficient_resources }
    else dealt_next z k f (dealt_with w.dealt l n) c l)
    ≡ dealt_with (if b then owned_next z k now fresh f w c m w.mishaps else owned_aside z k now fresh f w c (Some m)).dealt rest p)
event_one z k now fresh f w c m rest n true true early none = absurd cc
event_one z k now fresh f w c m rest n true false early none = next_one z k now fresh f w c m w.mishaps rest n none
event_one z k now fresh f w c m rest n false past early none = (n, omega arith, refl)

heard_one : (z : ServerSettings) (k now : ℕ) (fresh : List ℕ) (f : ServerEnd) (w : Owned) (c : Checked) (o : Option Message)
    (rest : List Given) (n : ℕ) → n + 1 ≤ 4096 → (w.mishaps ≡ [] → rest ≡ [])
    → (p : ℕ) × (p ≤ n + 1) × (dealt_heard z k now fresh f (dealt_with w.dealt (given_heard now fresh w o ++ rest) n) c o
    ≡ dealt_with (owned_heard z k now fresh f w c o).dealt rest p)
heard_one z k now fresh f w c None rest n room none = (n, omega arith, refl)
heard_one z k now fresh f w c (Some m) rest n room none =
    event_one z k now fresh f w c m rest n (has_event m.command) (is_past_setups n c.header) (in_time n (is_setup c.header) room) none

turn_one : (z : ServerSettings) (k now : ℕ) (fresh : List ℕ) (f : ServerEnd) (w : Owned) (c : Checked) (t : Turn)
    (rest : List Given) (n : ℕ) → n + 1 ≤ 4096 → (w.mishaps ≡ [] → rest ≡ [])
    → (p : ℕ) × (p ≤ n + 1) × (dealt_turn z k now fresh f (dealt_with w.dealt (given_turn z k now fresh f w t ++ rest) n) c t
    ≡ dealt_with (owned_turn z k now fresh f w c t).dealt rest p)
turn_one z k now fresh f w c (Goes t) rest n room none =
    heard_one z k now fresh f w t (heard_message z w.dealt.going.logons k f t) rest n room none
turn_one z k now fresh f w c (Fails status) rest n room none = (n, omega arith, refl)

-- ---- where nothing more befalls, nothing more is given

next_kept : (z : ServerSettings) (k now : ℕ) (fresh : List ℕ) (f : ServerEnd) (w : Owned) (c : Checked) (m : Message)
    (l : List (Option Mishap)) → l ≡ [] → w.mishaps ≡ [] → (owned_next z k now fresh f w c m l).mishaps ≡ []
next_kept z k now fresh f w c m [] e none = none
next_kept z k now fresh f w c m (x ∷ xs) e none = absurd cc

event_kept : (z : ServerSettings) (k now : ℕ) (fresh : List ℕ) (f : ServerEnd) (w : Owned) (c : Checked) (m : Message)
    (b : Bool) → w.mishaps ≡ []
    → (if b then owned_next z k now fresh f w c m w.mishaps else owned_aside z k now fresh f w c (Some m)).mishaps ≡ []
event_kept z k now fresh f w c m true none = next_kept z k now fresh f w c m w.mishaps none none
event_kept z k now fresh f w c m false none = none

heard_kept : (z : ServerSettings) (k now : ℕ) (fresh : List ℕ) (f : ServerEnd) (w : Owned) (c : Checked)
    (o : Option Message) → w.mishaps ≡ [] → (owned_heard z k now fresh f w c o).mishaps ≡ []
heard_kept z k now fresh f w c None none = none
heard_kept z k now fresh f w c (Some m) none = event_kept z k now fresh f w c m (has_event m.command) none

turn_kept : (z : ServerSettings) (k now : ℕ) (fresh : List ℕ) (f : ServerEnd) (w : Owned) (c : Checked) (t : Turn)
    → w.mishaps ≡ [] → (owned_turn z k now fresh f w c t).mishaps ≡ []
turn_kept z k now fresh f w c (Goes d) none = heard_kept z k now fresh f w d (heard_message z w.dealt.going.logons k f d) none
turn_kept z k now fresh f w c (Fails status) none = none

none_next : (now : ℕ) (fresh : List ℕ) (w : Owned) (m : Message) (l : List (Option Mishap)) → l ≡ [] → given_next now fresh w m l ≡ []
none_next now fresh w m [] e = refl
none_next now fresh w m (x ∷ xs) e = absurd cc

none_event : (now : ℕ) (fresh : List ℕ) (w : Owned) (m : Message) (b : Bool) → w.mishaps ≡ []
    → (if b then given_next now fresh w m w.mishaps else []) ≡ []
none_event now fresh w m true none = none_next now fresh w m w.mishaps none
none_event now fresh w m false none = refl

none_heard : (now : ℕ) (fresh : List ℕ) (w : Owned) (o : Option Message) → w.mishaps ≡ [] → given_heard now fresh w o ≡ []
none_heard now fresh w None none = refl
none_heard now fresh w (Some m) none = none_event now fresh w m (has_event m.command) none

none_turn : (z : ServerSettings) (k now : ℕ) (fresh : List ℕ) (f : ServerEnd) (w : Owned) (t : Turn) → w.mishaps ≡ []
    → given_turn z k now fresh f w t ≡ []
none_turn z k now fresh f w (Goes c) none = none_heard now fresh w (heard_message z w.dealt.going.logons k f c) none
none_turn z k now fresh f w (Fails status) none = refl

joined_none : (b : Bool) (l m : List Given) → l ≡ [] → m ≡ [] → (if b then [] else l ++ m) ≡ []
joined_none true l m e g = refl
joined_none false l m e g = ap (λ (x : List Given). x ++ m) e ∙ g

none_more : (z : ServerSettings) (k now : ℕ) (fresh : List ℕ) (f : ServerEnd) (w : Owned) (cs : List Checked) → w.mishaps ≡ []
    → single_givens z k now fresh f w cs ≡ []
unfolding single_givens
none_more z k now fresh f w [] none = refl
none_more z k now fresh f w (c ∷ cs) none =
    let t = turn_of w.dealt.going.carried c in
    joined_none (is_some w.dealt.stopped) (given_turn z k now fresh f w t)
    (single_givens z k now fresh f (owned_turn z k now fresh f w c t) cs) (none_turn z k now fresh f w t none)
    (none_more z k now fresh f (owned_turn z k now fresh f w c t) cs (turn_kept z k now fresh f w c t none))

-- ---- all messages

-- behind a message that may be behind a stop
all_by : (z : ServerSettings) (k now : ℕ) (fresh : List ℕ) (f : ServerEnd) (w : Owned) (n : ℕ) (c : Checked) (cs : List Checked) (b : Bool)
    → n + 1 ≤ 4096
    → ((p : ℕ) → p ≤ n + 1 → (q : ℕ) × (dealt_all z k now fresh f (dealt_with (owned_turn z k now fresh f w c
    (turn_of w.dealt.going.carried c)).dealt
    (single_givens z k now fresh f (owned_turn z k now fresh f w c (turn_of w.dealt.going.carried c)) cs) p) cs
    ≡ dealt_with (owned_all z k now fresh f (owned_turn z k now fresh f w c (turn_of w.dealt.going.carried c)) cs).dealt [] q))
    → let l = (if b then [] else given_turn z k now fresh f w (turn_of w.dealt.going.carried c)
    ++ single_givens z k now fresh f (owned_turn z k now fresh f w c (turn_of w.dealt.going.carried c)) cs) in
    (q : ℕ) × ((if b then dealt_with w.dealt l n
    else dealt_all z k now fresh f (dealt_turn z k now fresh f (dealt_with w.dealt l n) c (turn_of w.dealt.going.carried c)) cs)
    ≡ dealt_with (if b then w
    else owned_all z k now fresh f (owned_turn z k now fresh f w c (turn_of w.dealt.going.carried c)) cs).dealt [] q)
all_by z k now fresh f w n c cs true room rest = (n, refl)
all_by z k now fresh f w n c cs false room rest =
    let t = turn_of w.dealt.going.carried c in
    let v = owned_turn z k now fresh f w c t in
    let one = turn_one z k now fresh f w c t (single_givens z k now fresh f v cs) n room
    (λ none. none_more z k now fresh f v cs (turn_kept z k now fresh f w c t none)) in
    let all = rest one.0 one.1 in
    (all.0, ap (λ (d : Dealt). dealt_all z k now fresh f d cs) one.2 ∙ all.1)

pub all_single : (z : ServerSettings) (k now : ℕ) (fresh : List ℕ) (f : ServerEnd) (w : Owned) (n : ℕ) (cs : List Checked)
    → n + length cs ≤ 4096
    → (p : ℕ) × (dealt_all z k now fresh f (dealt_with w.dealt (single_givens z k now fresh f w cs) n) cs
    ≡ dealt_with (owned_all z k now fresh f w cs).dealt [] p)
unfolding dealt_all owned_all single_givens
all_single z k now fresh f w n [] room = (n, refl)
all_single z k now fresh f w n (c ∷ cs) room =
    all_by z k now fresh f w n c cs (is_some w.dealt.stopped) (omega (arith, room))
    (λ p few. all_single z k now fresh f (owned_turn z k now fresh f w c (turn_of w.dealt.going.carried c)) p cs
    (omega (arith, room, few)))
