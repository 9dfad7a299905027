-- The server behind a frame is the one behind the last message that it took.
use Rattle.std.proofs.Common.{◌≡◌, ℕ, Bool, true, false, not, ◌&&◌, if◌then◌else◌, refl, List, [], ◌∷◌, length}
use Rattle.std.proofs.Common.{Option, Some, None, Result, Ok, Err}
use Rattle.spec_exchange.specs.Network.{answer_to}
use Rattle.spec_exchange.specs.State as model
use Rattle.spec_world.specs.Answering.{all_texts, each_joined, has_nonces, joined_in, text_limit}
use Rattle.spec_world.specs.Connection.{ConnectionStep, Going, LastTaken, answered, answered_with, beginning, connection_step, ended_by}
use Rattle.spec_world.specs.Connection.{heard_message, step_of, taken_with, went_all, went_heard, went_turn}
use Rattle.spec_world.specs.Ends.{ConnEnd, Logons, ServerEnd, Spent}
use Rattle.spec_world.specs.Hearing.{Checked, Frame, check_frame}
use Rattle.spec_world.specs.Related.{Fails, Goes, Turn, turn_of}
use Rattle.spec_world.specs.Settings.{ServerSettings}

abbrev pub server_of : Option LastTaken → model.Server → model.Server
server_of None s = s
server_of (Some t) s = t.answer.server

abbrev Keeps : model.Server → Going → Type 0
Keeps s g = g.server ≡ server_of g.taken s

with_one : (o : Option LastTaken) (m : model.Message) (A : model.Answer) (s : model.Server) → A.server
    ≡ server_of (Some (taken_with o m A)) s
with_one None m A s = refl
with_one (Some t) m A s = refl

heard_one : (z : ServerSettings) (k now : ℕ) (fresh : List ℕ) (f : ServerEnd) (g : Going) (c : Checked) (o : Option model.Message)
    (s : model.Server) → Keeps s g → Keeps s (went_heard z k now fresh f g c o)
heard_one z k now fresh f g c None s h = h
heard_one z k now fresh f g c (Some m) s h = with_one g.taken m (answer_to g.server now m m.command) s

turned : (z : ServerSettings) (k now : ℕ) (fresh : List ℕ) (f : ServerEnd) (g : Going) (old : Checked) (t : Turn) (s : model.Server)
    → Keeps s g → Keeps s (went_turn z k now fresh f g old t)
turned z k now fresh f g old (Goes c) s h = heard_one z k now fresh f g c (heard_message z g.logons k f c) s h
turned z k now fresh f g old (Fails status) s h = h

all_turned : (z : ServerSettings) (k now : ℕ) (fresh : List ℕ) (f : ServerEnd) (g : Going) (cs : List Checked) (s : model.Server)
    → Keeps s g → Keeps s (went_all z k now fresh f g cs)
unfolding went_all
all_turned z k now fresh f g [] s h = h
all_turned z k now fresh f g (c ∷ cs) s h =
    all_turned z k now fresh f (went_turn z k now fresh f g c (turn_of g.carried c)) cs s
    (turned z k now fresh f g c (turn_of g.carried c) s h)

either_step : (b : Bool) (u v : ConnectionStep) (s : model.Server) → u.server ≡ server_of u.taken s → v.server ≡ server_of v.taken s
    → (if b then u else v).server ≡ server_of (if b then u else v).taken s
either_step true u v s h i = h
either_step false u v s h i = i

answered_one : (f : ServerEnd) (sealed : Bool) (g : Going) (s : model.Server) → Keeps s g
    → (answered f sealed g).server ≡ server_of (answered f sealed g).taken s
answered_one f sealed g s h =
    let rows = all_texts sealed (joined_in (text_limit sealed) g.replies) in
    either_step (sealed && not (has_nonces f (length rows))) (ended_by g.server g.logons f g.taken Spent)
    (answered_with f sealed g rows (each_joined rows)) s h h

by_frame : (z : ServerSettings) (k now : ℕ) (fresh : List ℕ) (s : model.Server) (L : Logons) (f : ServerEnd) (r : Result Frame ConnEnd)
    → (step_of z k now fresh s L f r).server ≡ server_of (step_of z k now fresh s L f r).taken s
by_frame z k now fresh s L f (Err why) = refl
by_frame z k now fresh s L f (Ok x) =
    answered_one x.server_end x.sealed (went_all z k now fresh x.server_end (beginning s L x.server_end) x.messages) s
    (all_turned z k now fresh x.server_end (beginning s L x.server_end) x.messages s refl)

pub step_server : (z : ServerSettings) (k now : ℕ) (fresh : List ℕ) (s : model.Server) (L : Logons) (f : ServerEnd) (frame : List ℕ)
    → (connection_step z k now fresh s L f frame).server ≡ server_of (connection_step z k now fresh s L f frame).taken s
step_server z k now fresh s L f frame = by_frame z k now fresh s L f (check_frame f frame)
