-- The replies to some messages, and to one more.
use Rattle.std.proofs.Common.{◌≡◌, ℕ, Bool, true, false, List, [], ◌∷◌, ◌++◌, Option}
use Rattle.std.proofs.Common.{Some, None, Result, refl, sym, subst}
use Rattle.spec_wire.specs.credits.Window.{HeldIds, after_grant}
use Rattle.spec_world.specs.Settings.{ServerSettings}
use Rattle.spec_world.specs.Ends.{ServerEnd}
use Rattle.spec_world.specs.Hearing as hearing
use Rattle.spec_world.specs.Answering as answering
use Rattle.spec_world.specs.Connection.{said_failed}
use Rattle.conn_core.specs.declared.served.error.ServeError.{ServeError}
use Rattle.conn_core.specs.declared.frame_messages.checked.Checked.{Checked}
use Rattle.conn_core.specs.declared.served.serve.Reply.{Reply}
use Rattle.conn_core.specs.message_replies.Replying.{AreMessagesSaid, FailRightly, FailsAt, Later, MessageSays}
use Rattle.conn_core.specs.message_replies.Replying.{SaysAside, SaysReply, SaysThis, aside_status, said_aside}
use Rattle.conn_core.specs.frame_events.Dealing.{SameCommands}

abbrev Answers : Type 0
Answers = List (Result Reply ServeError)

-- ---- one more at the end

-- what is due behind a message holds of more replies too
abbrev Extends : Later → Later → Answers → List answering.SaidReply → Type 0
Extends later more qs ts = (rs : Answers) (u : HeldIds) (ss : List answering.SaidReply) → later rs u ss → more (rs ++ qs) u (ss ++ ts)

this_more : (due : answering.SaidReply) (w : HeldIds) (later more : Later) (rs : Answers) (ss : List answering.SaidReply) (qs : Answers)
    (ts : List answering.SaidReply) → Extends later more qs ts → SaysThis due w later rs ss → SaysThis due w more (rs ++ qs) (ss ++ ts)
this_more due w later more rs [] qs ts go p = absurd p
this_more due w later more rs (s ∷ ss) qs ts go p = (p.0, go rs w ss p.1)

aside_more : (due : answering.SaidReply) (w : HeldIds) (later more : Later) (rs : Answers) (ss : List answering.SaidReply) (qs : Answers)
    (ts : List answering.SaidReply) → Extends later more qs ts → SaysAside due w later rs ss → SaysAside due w more (rs ++ qs) (ss ++ ts)
aside_more due w later more rs [] qs ts go p = absurd p
aside_more due w later more rs (s ∷ ss) qs ts go p = (p.0, go rs w ss p.1)

reply_more : (f : ServerEnd) (w : HeldIds) (c : hearing.Checked) (later more : Later) (rs : Answers) (ss : List answering.SaidReply)
    (qs : Answers) (ts : List answering.SaidReply) → Extends later more qs ts → SaysReply f w c later rs ss
    → SaysReply f w c more (rs ++ qs) (ss ++ ts)
reply_more f w c later more [] ss qs ts go p = absurd p
reply_more f w c later more (r ∷ rs) [] qs ts go p = absurd p
reply_more f w c later more (r ∷ rs) (s ∷ ss) qs ts go p = (p.0, go rs (after_grant c.header.credits w) ss p.1)

says_more : (z : ServerSettings) (now : ℕ) (f : ServerEnd) (w : HeldIds) (c : hearing.Checked) (cancel : Bool) (fails aside : Option ℕ)
    (later more : Later) (rs : Answers) (ss : List answering.SaidReply) (qs : Answers) (ts : List answering.SaidReply)
    → Extends later more qs ts
    → MessageSays z now f w c cancel fails aside later rs ss → MessageSays z now f w c cancel fails aside more (rs ++ qs) (ss ++ ts)
says_more z now f w c true fails aside later more rs ss qs ts go p = go rs w ss p
says_more z now f w c false (Some status) aside later more rs ss qs ts go p =
    this_more (said_failed f w c status) (after_grant c.header.credits w) later more rs ss qs ts go p
says_more z now f w c false None (Some status) later more rs ss qs ts go p =
    aside_more (said_aside z now f w c status) (after_grant c.header.credits w) later more rs ss qs ts go p
says_more z now f w c false None None later more rs ss qs ts go p = reply_more f w c later more rs ss qs ts go p

pub said_more : (z : ServerSettings) (now : ℕ) (f : ServerEnd) (ms : List Checked) (cs : List hearing.Checked) (rs : Answers)
    (w : HeldIds) (ss : List answering.SaidReply) (v : HeldIds) (ns : List Checked) (ds : List hearing.Checked) (qs : Answers)
    (ts : List answering.SaidReply) (u : HeldIds) → AreMessagesSaid z now f ms cs rs w ss v → AreMessagesSaid z now f ns ds qs v ts u
    → AreMessagesSaid z now f (ms ++ ns) (cs ++ ds) (rs ++ qs) w (ss ++ ts) u
said_more z now f [] [] rs w ss v ns ds qs ts u p q =
    subst (λ (r : Answers). AreMessagesSaid z now f ns ds (r ++ qs) w (ss ++ ts) u) (sym p.0)
    (subst (λ (s : List answering.SaidReply). AreMessagesSaid z now f ns ds qs w (s ++ ts) u) (sym p.1)
    (subst (λ (h : HeldIds). AreMessagesSaid z now f ns ds qs h ts u) p.2 q))
said_more z now f [] (c ∷ cs) rs w ss v ns ds qs ts u p q = absurd p
said_more z now f (m ∷ ms) [] rs w ss v ns ds qs ts u p q = absurd p
said_more z now f (m ∷ ms) (c ∷ cs) rs w ss v ns ds qs ts u p q =
    says_more z now f w c (hearing.is_cancel c.header) m.fails (aside_status c) (λ r h s. AreMessagesSaid z now f ms cs r h s v)
    (λ r h s. AreMessagesSaid z now f (ms ++ ns) (cs ++ ds) r h s u) rs ss qs ts
    (λ r h s x. said_more z now f ms cs r h s v ns ds qs ts u x q) p

-- ---- one message's

abbrev pub OneSaid : ServerSettings → ℕ → ServerEnd → Checked → hearing.Checked → Answers → HeldIds
    → List answering.SaidReply → HeldIds → Type 0
OneSaid z now f m c qs w ts u = AreMessagesSaid z now f (m ∷ []) (c ∷ []) qs w ts u

-- none to a CANCEL
pub of_cancel : (z : ServerSettings) (now : ℕ) (f : ServerEnd) (m : Checked) (c : hearing.Checked) (w : HeldIds)
    → hearing.is_cancel c.header ≡ true → OneSaid z now f m c [] w [] w
of_cancel z now f m c w is =
    subst (λ (b : Bool). MessageSays z now f w c b m.fails (aside_status c) (λ r h s. AreMessagesSaid z now f [] [] r h s w) [] []) (sym is)
    (refl, refl, refl)

pub of_failed : (z : ServerSettings) (now : ℕ) (f : ServerEnd) (m : Checked) (c : hearing.Checked) (w : HeldIds) (status : ℕ)
    → hearing.is_cancel c.header ≡ false → m.fails ≡ Some status
    → OneSaid z now f m c [] w (said_failed f w c status ∷ []) (after_grant c.header.credits w)
of_failed z now f m c w status off fails =
    let v = after_grant c.header.credits w in
    subst (λ (b : Bool). MessageSays z now f w c b m.fails (aside_status c) (λ r h s. AreMessagesSaid z now f [] [] r h s v) []
    (said_failed f w c status ∷ [])) (sym off)
    (subst (λ (o : Option ℕ). MessageSays z now f w c false o (aside_status c) (λ r h s. AreMessagesSaid z now f [] [] r h s v) []
    (said_failed f w c status ∷ [])) (sym fails) (refl, (refl, refl, refl)))

pub of_aside : (z : ServerSettings) (now : ℕ) (f : ServerEnd) (m : Checked) (c : hearing.Checked) (w : HeldIds) (status : ℕ)
    (s : answering.SaidReply) → hearing.is_cancel c.header ≡ false → m.fails ≡ None → aside_status c ≡ Some status
    → (base : List ℕ) × (s ≡ record (said_aside z now f w c status) { base = base })
    → OneSaid z now f m c [] w (s ∷ []) (after_grant c.header.credits w)
of_aside z now f m c w status s off goes aside is =
    let v = after_grant c.header.credits w in
    subst (λ (b : Bool). MessageSays z now f w c b m.fails (aside_status c) (λ r h x. AreMessagesSaid z now f [] [] r h
    x v) [] (s ∷ [])) (sym off)
    (subst (λ (o : Option ℕ). MessageSays z now f w c false o (aside_status c) (λ r h x. AreMessagesSaid z now f [] [] r
    h x v) [] (s ∷ [])) (sym goes)
    (subst (λ (o : Option ℕ). MessageSays z now f w c false None o (λ r h x. AreMessagesSaid z now f [] [] r h x v) [] (s ∷ [])) (sym aside)
    (is, (refl, refl, refl))))

pub of_reply : (z : ServerSettings) (now : ℕ) (f : ServerEnd) (m : Checked) (c : hearing.Checked) (w : HeldIds)
    (r : Result Reply ServeError) (s : answering.SaidReply) → hearing.is_cancel c.header ≡ false → m.fails ≡ None → aside_status c ≡ None
    → SaysReply f w c (λ x h y. AreMessagesSaid z now f [] [] x h y (after_grant c.header.credits w)) (r ∷ []) (s ∷ [])
    → OneSaid z now f m c (r ∷ []) w (s ∷ []) (after_grant c.header.credits w)
of_reply z now f m c w r s off goes aside is =
    let v = after_grant c.header.credits w in
    subst (λ (b : Bool). MessageSays z now f w c b m.fails (aside_status c) (λ x h y. AreMessagesSaid z now f [] [] x h
    y v) (r ∷ []) (s ∷ [])) (sym off)
    (subst (λ (o : Option ℕ). MessageSays z now f w c false o (aside_status c) (λ x h y. AreMessagesSaid z now f [] [] x
    h y v) (r ∷ []) (s ∷ []))
    (sym goes)
    (subst (λ (o : Option ℕ). MessageSays z now f w c false None o (λ x h y. AreMessagesSaid z now f [] [] x h y v)
    (r ∷ []) (s ∷ [])) (sym aside) is))

-- ---- lists with one more

pub fails_more : (ms : List Checked) (n : Checked) → FailRightly ms → FailsAt n.fails → FailRightly (ms ++ n ∷ [])
fails_more [] n p q = (q, tt)
fails_more (m ∷ ms) n p q = (p.0, fails_more ms n p.1 q)

pub commands_more : (cs ds : List hearing.Checked) (c d : hearing.Checked) → SameCommands cs ds → c.header.command ≡ d.header.command
    → SameCommands (cs ++ c ∷ []) (ds ++ d ∷ [])
commands_more [] [] c d p e = (e, tt)
commands_more [] (y ∷ ys) c d p e = absurd p
commands_more (x ∷ xs) [] c d p e = absurd p
commands_more (x ∷ xs) (y ∷ ys) c d p e = (p.0, commands_more xs ys c d p.1 e)
