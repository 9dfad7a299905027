-- The messages of a frame, one after the other: the server's side and the replies keep step in what is in the making.
use Rattle.std.proofs.Common.{◌++◌, ◌≡◌, ℕ, ◌==◌, Bool, true, false, if◌then◌else◌, List, [], ◌∷◌}
use Rattle.std.proofs.Common.{refl, sym, ◌∙◌, ap, subst}
use Rattle.std.proofs.Common.{Option, Some, None, is_some}
use Rattle.std.specs.Prelude.{option_map}
use Rattle.spec_wire.specs.declared.messages.header.Header.{Header}
use Rattle.spec_exchange.specs.Status.{invalid_parameter}
use Rattle.spec_exchange.specs.Commands.{Command, Unreadable, Aside, Setup, SetupRequest}
use Rattle.spec_exchange.specs.State.{Server, Message, Making, Reply, Answer}
use Rattle.spec_exchange.specs.Network.{answer_to}
use Rattle.spec_commands.specs.CommandOf.{Told, command_of, message_of, heard_as}
use Rattle.law_server.proofs.tables.Logic.{either}
use Rattle.spec_world.specs.Settings.{ServerSettings}
use Rattle.spec_world.specs.Ends.{ServerEnd, Greeting, Logons}
use Rattle.spec_wire.specs.credits.Window.{after_grant}
use Rattle.spec_world.specs.Hearing.{Checked, is_negotiate, is_misplaced}
use Rattle.spec_world.specs.Related.{Carry, Turn, Goes, Fails, turn_of, failed_as, can_follow, related_turn}
use Rattle.spec_world.specs.Logon.{Progress, Stays, Interim, Final, progress, setup_progress}
use Rattle.spec_world.specs.Connection.{told_of, heard_message, LastTaken, taken_with, Going, went_by, went_heard}
use Rattle.spec_world.specs.Connection.{went_turn, went_all, said_to, said_failed, misplaced_command, misplaced, placed}
use Rattle.law_nonces.proofs.negotiation.Making.{Shape, Moves, answered, FaultFine}
use Rattle.law_nonces.proofs.negotiation.Checked.{IsFine, AreFine}
use Rattle.law_nonces.proofs.negotiation.Telling.{FollowsOn, Follow, made_behind, next_made, made_with, follow_with}

-- ---- the message that is heard

pub record IsHeard (k : ℕ) (c : Checked) (m : Message) : Type 0 where
  pub connection : m.connection ≡ k
  pub fault : m.fault ≡ c.fault
  pub setup : (q : SetupRequest) → m.command ≡ Setup q → is_negotiate c.header ≡ false

-- a SESSION_SETUP is no NEGOTIATE
apart : (cancel first : Bool) (status : ℕ) (rest : Command) (q : SetupRequest)
    → (if cancel then None else Some (if first then Aside status else rest)) ≡ Some (Setup q) → first ≡ false
apart true first status rest q e = absurd (let h : None ≡ Some (Setup q) = e in cc)
apart false false status rest q e = refl
apart false true status rest q e = absurd (let h : Some (Aside status) ≡ Some (Setup q) = e in cc)

command_apart : (t : Told) (h : Header) (m : List ℕ) (q : SetupRequest) → command_of t h m ≡ Some (Setup q) → (h.command == 0) ≡ false
unfolding command_of
command_apart t h m q e = apart (h.command == 12) (h.command == 0) t.negotiated _ q e

told_message : (k : ℕ) (c : Checked) (t : Told) (o : Option Command) (m : Message) → t.connection ≡ k → t.fault
    ≡ c.fault → ((q : SetupRequest) → o ≡ Some (Setup q) → is_negotiate c.header ≡ false)
    → option_map (heard_as t c.header) o ≡ Some m → IsHeard k c m
told_message k c t None m a b n e = absurd (let h : None ≡ Some m = e in cc)
told_message k c t (Some x) m a b n e =
    let same : heard_as t c.header x ≡ m = (let h : Some (heard_as t c.header x) ≡ Some m = e in cc) in
    subst (λ y. IsHeard k c y) same
    (record { connection = a; fault = b; setup = λ q h. n q (ap Some h) })

-- a misplaced message is a SESSION_SETUP where it was one
setup_placed : {P : Type 0} (fault : Option ℕ) (c : Command) (q : SetupRequest) → misplaced_command fault c ≡ Setup q
    → ((r : SetupRequest) → c ≡ Setup r → P) → P
setup_placed (Some fault) c q e f = f q e
setup_placed None (Setup r) q e f = f r refl
setup_placed None (Aside status) q e f = absurd (let h : Aside invalid_parameter ≡ Setup q = e in cc)
setup_placed None c q e f = absurd (let h : Unreadable invalid_parameter ≡ Setup q = e in cc)

placed_heard : (k : ℕ) (c : Checked) (m : Message) → IsHeard k c m → IsHeard k c (misplaced m)
placed_heard k c m h = record {
  connection = h.connection;
  fault = h.fault;
  setup = λ q e. setup_placed m.fault m.command q e (λ r d. h.setup r d);
}

placed_message : (k : ℕ) (c : Checked) (broken : Bool) (o : Option Message) (m : Message) → ((n : Message) → o ≡ Some n → IsHeard k c n)
    → placed broken o ≡ Some m → IsHeard k c m
placed_message k c false o m f e = f m e
placed_message k c true None m f e = absurd (let h : None ≡ Some m = e in cc)
placed_message k c true (Some n) m f e =
    let same : misplaced n ≡ m = (let h : Some (misplaced n) ≡ Some m = e in cc) in
    subst (λ y. IsHeard k c y) same (placed_heard k c n (f n refl))

pub heard_is : (z : ServerSettings) (L : Logons) (k : ℕ) (f : ServerEnd) (c : Checked) (m : Message)
    → heard_message z L k f c ≡ Some m → IsHeard k c m
unfolding message_of
heard_is z L k f c m e =
    placed_message k c (is_misplaced c) (message_of (told_of z L k f c) c.header c.bytes) m
    (λ n d. told_message k c (told_of z L k f c) (command_of (told_of z L k f c) c.header c.bytes) n refl refl
    (λ q h. command_apart (told_of z L k f c) c.header c.bytes q h) d) e

-- ---- what holds behind some of the messages

abbrev pub answer_server : Option LastTaken → Server → Server
answer_server None s = s
answer_server (Some t) s = t.answer.server

pub record GoesOn (old : ℕ → Option Making) (s : Server) (k : ℕ) (f : ServerEnd) (g : Going) : Type 0 where
  pub follows : Follow (is_some f.greeting) (is_some f.making) g.replies
  pub here : is_some (g.server.making k) ≡ true → made_behind (is_some f.making) g.replies ≡ true
  pub elsewhere : (j : ℕ) → (j == k) ≡ false → is_some (g.server.making j) ≡ true → is_some (old j) ≡ true
  pub taken : g.server ≡ answer_server g.taken s

-- a progress behind a greeting, where what it takes away was there
follows_on : (p : Progress) (greeted before after made : Bool) → Shape p before after → (before ≡ true → made ≡ true)
    → (greeted ≡ true) → FollowsOn greeted made p
follows_on Stays greeted before after made shape held g = tt
follows_on (Interim binding) greeted before after made shape held g = g
follows_on (Final binding channel encrypts) greeted before after made shape held g = held shape.0

next_held : (p : Progress) (before after made : Bool) → Shape p before after → (before ≡ true → made ≡ true) → after
    ≡ true → next_made made p ≡ true
next_held Stays before after made shape held e = held (shape e)
next_held (Interim binding) before after made shape held e = refl
next_held (Final binding channel encrypts) before after made shape held e = absurd (let h = shape.1 in cc)

-- of a command: a SESSION_SETUP stands behind a greeting, and any other one leaves what is in the making
command_follows : (c : Command) (r : Reply) (greeted before after made : Bool) → Shape (progress c r) before after
    → (before ≡ true → made ≡ true)
    → ((q : SetupRequest) → c ≡ Setup q → greeted ≡ true) → FollowsOn greeted made (progress c r)
command_follows (Setup request) r greeted before after made shape held g = follows_on (setup_progress request.binding r)
    greeted before after made shape held (g request refl)
command_follows c r greeted before after made shape held g = tt

pub taken_server : (o : Option LastTaken) (m : Message) (A : Answer) (s : Server) → A.server ≡ answer_server (Some (taken_with o m A)) s
taken_server None m A s = refl
taken_server (Some t) m A s = refl

went_keeps : (old : ℕ → Option Making) (s : Server) (z : ServerSettings) (k now : ℕ) (fresh : List ℕ) (f : ServerEnd)
    (g : Going) (c : Checked) (m : Message) (A : Answer)
    → IsFine f.greeting c → IsHeard k c m → Moves g.server.making m A → GoesOn old s k f g
    → GoesOn old s k f (went_by z k now fresh f g c m A)
went_keeps old s z k now fresh f g c m A fine is moves i =
    let r = said_to z k now fresh f g.logons g.window c m.command A in
    let b = is_some f.making in
    let here : Shape (progress m.command A.reply) (is_some (g.server.making k)) (is_some (A.server.making k)) =
    subst (λ j. Shape (progress m.command A.reply) (is_some (g.server.making j)) (is_some (A.server.making j)))
    is.connection moves.here in
    let on : FollowsOn (is_some f.greeting) (made_behind b g.replies) (progress m.command A.reply) =
    command_follows m.command A.reply (is_some f.greeting) (is_some (g.server.making k))
    (is_some (A.server.making k)) (made_behind b g.replies) here i.here
    (λ q e. fine.greeted (is.setup q e)) in
    record {
      follows = follow_with (is_some f.greeting) b g.replies r i.follows on;
      here = λ e. made_with b g.replies r ∙ next_held (progress m.command A.reply) (is_some (g.server.making k))
          (is_some (A.server.making k)) (made_behind b g.replies) here i.here e;
      elsewhere = λ j off e. i.elsewhere j off (moves.elsewhere j (subst (λ x. (j == x) ≡ false) (sym is.connection) off) e);
      taken = taken_server g.taken m A s;
    }

heard_keeps : (old : ℕ → Option Making) (s : Server) (z : ServerSettings) (k now : ℕ) (fresh : List ℕ) (f : ServerEnd)
    (g : Going) (c : Checked) (o : Option Message)
    → IsFine f.greeting c → ((m : Message) → o ≡ Some m → IsHeard k c m) → GoesOn old s k f g
    → GoesOn old s k f (went_heard z k now fresh f g c o)
heard_keeps old s z k now fresh f g c None fine is i = record {
  follows = i.follows;
  here = i.here;
  elsewhere = i.elsewhere;
  taken = i.taken;
}
heard_keeps old s z k now fresh f g c (Some m) fine is i =
    let h = is m refl in
    went_keeps old s z k now fresh f g c m (answer_to g.server now m m.command) fine h
    (answered g.server now m m.command refl (subst FaultFine (sym h.fault) fine.fault)) i

said_keeps : (old : ℕ → Option Making) (s : Server) (k : ℕ) (f : ServerEnd) (g : Going) (c : Checked) (status : ℕ)
    → GoesOn old s k f g
    → GoesOn old s k f (record g {
      window = after_grant c.header.credits g.window;
      replies = g.replies ++ said_failed f g.window c status ∷ [];
    })
said_keeps old s k f g c status i =
    let r = said_failed f g.window c status in
    record {
      follows = follow_with (is_some f.greeting) (is_some f.making) g.replies r i.follows tt;
      here = λ e. made_with (is_some f.making) g.replies r ∙ i.here e;
      elsewhere = i.elsewhere;
      taken = i.taken;
    }

failed_keeps : (old : ℕ → Option Making) (s : Server) (z : ServerSettings) (k now : ℕ) (fresh : List ℕ) (f : ServerEnd)
    (g : Going) (c : Checked) (status : ℕ)
    → GoesOn old s k f g → GoesOn old s k f (went_turn z k now fresh f g c (Fails status))
failed_keeps old s z k now fresh f g c status i =
    said_keeps old s k f g (failed_as g.carried c) status i

-- a message with the ids of another one is the same in command and fault
abbrev pub TurnFine : Option Greeting → Turn → Type 0
TurnFine g (Goes c) = IsFine g c
TurnFine g (Fails status) = Unit {0}

related_fine : (g : Option Greeting) (c : Checked) (y : Carry) → IsFine g c → TurnFine g (related_turn c y)
related_fine g c y fine = either (TurnFine g) (can_follow c y) _ _ (λ _. record { greeted = fine.greeted; fault = fine.fault }) (λ _. tt)

pub turn_fine : (g : Option Greeting) (o : Option Carry) (c : Checked) → IsFine g c → TurnFine g (turn_of o c)
turn_fine g None c fine = fine
turn_fine g (Some y) c fine = either (TurnFine g) c.related _ _ (λ _. related_fine g c y fine) (λ _. fine)

turn_keeps : (old : ℕ → Option Making) (s : Server) (z : ServerSettings) (k now : ℕ) (fresh : List ℕ) (f : ServerEnd)
    (g : Going) (c : Checked) (t : Turn)
    → TurnFine f.greeting t → GoesOn old s k f g → GoesOn old s k f (went_turn z k now fresh f g c t)
turn_keeps old s z k now fresh f g c (Fails status) fine i = failed_keeps old s z k now fresh f g c status i
turn_keeps old s z k now fresh f g c (Goes d) fine i = heard_keeps old s z k now fresh f g d
    (heard_message z g.logons k f d) fine (λ m e. heard_is z g.logons k f d m e) i

pub all_keep : (old : ℕ → Option Making) (s : Server) (z : ServerSettings) (k now : ℕ) (fresh : List ℕ) (f : ServerEnd)
    (cs : List Checked) (g : Going)
    → AreFine f.greeting cs → GoesOn old s k f g → GoesOn old s k f (went_all z k now fresh f g cs)
unfolding went_all
all_keep old s z k now fresh f [] g fine i = i
all_keep old s z k now fresh f (c ∷ cs) g fine i =
    all_keep old s z k now fresh f cs (went_turn z k now fresh f g c (turn_of g.carried c)) fine.1
    (turn_keeps old s z k now fresh f g c (turn_of g.carried c) (turn_fine f.greeting g.carried c fine.0) i)
