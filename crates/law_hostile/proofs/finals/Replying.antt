-- The answer to a frame of one message has at most one reply, and where it is final its secret is that of the response that was made.
use Rattle.std.proofs.Common.{◌≡◌, ℕ, Bool, true, false, List, [], ◌∷◌, ◌++◌, ◌⊎◌, inl, inr, refl, sym, ◌∙◌, ap}
use Rattle.std.proofs.Common.{subst, length, take, Option, Some, None, slice_get, Result, Ok, Err}
use Rattle.law_server.proofs.tables.Logic.{either}
use Rattle.spec_exchange.specs.State.{Message}
use Rattle.spec_exchange.specs.Network.{answer_to}
use Rattle.spec_exchange.specs.Status.{access_denied}
use Rattle.spec_world.specs.Settings.{WorldSettings, ServerSettings, draw}
use Rattle.spec_world.specs.Messages.{HeardMessage, heard_in, messages_in}
use Rattle.spec_world.specs.Ends.{ServerEnd, ConnEnd, BadFrame}
use Rattle.spec_world.specs.Related.{Turn, Goes, Fails, turn_of, failed_as}
use Rattle.spec_world.specs.Logon.{Final}
use Rattle.spec_world.specs.Answering.{Ending, SaidReply, told_each, ending_of, ending_by, first_text, all_texts, joined_in, text_limit}
use Rattle.spec_world.specs.Answering.{concatenated, each_joined}
use Rattle.spec_world.specs.Connection.{Going, went_all, went_turn, went_heard, beginning, heard_message, step_of, answered}
use Rattle.spec_world.specs.Connection.{counted_on, said_to, said_failed}
use Rattle.spec_world.specs.Hearing.{Checked, Frame, check_frame, checked_text, checked_in, checked_behind, checked_as, behind_turn}
use Rattle.spec_world.specs.Hearing.{fault_of, owes_nothing, is_protected, turn_end, if_in_turn, is_too_long, begins_sealed, opened_by, opened_text, split_text}
use Rattle.spec_world.specs.World.{World, step_at}
use Rattle.spec_hostile.specs.SignedFor.{Secret, secret_made, went_at}
use Rattle.law_hostile.specs.finals.Finals.{secret_of}

-- ---- a frame of one message

-- it isn't sealed, and has one at most
pub record IsLone (x : Frame) : Type 0 where
  pub sealed : x.sealed ≡ false
  pub message : Checked
  pub messages : x.messages ≡ message ∷ []
  pub fault : (message.fault ≡ None) ⊎ (message.fault ≡ Some access_denied)

abbrev pub Lone : Result Frame ConnEnd → Type 0
Lone (Err why) = Unit {0}
Lone (Ok x) = IsLone x

lone_turn : (o : Option ConnEnd) (f : ServerEnd) (c : Checked) → (c.fault ≡ None) ⊎ (c.fault ≡ Some access_denied)
    → Lone (if_in_turn o (Ok (record { server_end = f; sealed = false; messages = c ∷ [] })))
lone_turn None f c fault = record { sealed = refl; message = c; messages = refl; fault = fault }
lone_turn (Some e) f c fault = tt

-- a frame's first message has check 2's fault or none
first_fault : (f : ServerEnd) (x : HeardMessage) → (fault_of f false false x ≡ None) ⊎ (fault_of f false false x ≡ Some access_denied)
first_fault f x =
    either (λ (o : Option ℕ). (o ≡ None) ⊎ (o ≡ Some access_denied)) (owes_nothing x) None _ (λ _. inl refl)
    (λ _. either (λ (o : Option ℕ). (o ≡ None) ⊎ (o ≡ Some access_denied)) (is_protected f false x) None (Some access_denied)
    (λ _. inl refl) (λ _. inr refl))

lone_checked : (f : ServerEnd) (x : HeardMessage) → Lone (checked_in f false (x ∷ []))
unfolding checked_behind
lone_checked f x = lone_turn (turn_end f x.header) (behind_turn f x.header) (checked_as f false false true x) (first_fault f x)

lone_split : (f : ServerEnd) (o : Option (List HeardMessage)) (x : HeardMessage) → o ≡ Some (x ∷ []) → Lone (checked_text f (split_text false o))
lone_split f o x e = subst (λ p. Lone (checked_text f (split_text false p))) (sym e) (lone_checked f x)

pub lone_frame : (f : ServerEnd) (frame : List ℕ) → begins_sealed frame ≡ false → messages_in frame ≡ Some (heard_in frame ∷ [])
    → Lone (check_frame f frame)
lone_frame f frame off one =
    either (λ r. Lone (checked_text f r)) (is_too_long f.keys frame) (Err BadFrame) _ (λ _. tt)
    (λ _. either (λ r. Lone (checked_text f r)) (begins_sealed frame) (opened_text (opened_by f.keys frame)) (split_text false (messages_in frame))
    (λ on. absurd (let a = on in let b = off in cc)) (λ _. lone_split f (messages_in frame) (heard_in frame) one))

-- ---- its replies

abbrev pub Few : List SaidReply → Type 0
Few rs = (rs ≡ []) ⊎ ((r : SaidReply) × (rs ≡ r ∷ []))

few_push : (rs : List SaidReply) (r : SaidReply) → rs ≡ [] → Few (rs ++ r ∷ [])
few_push rs r e = inr (r, ap (λ l. l ++ r ∷ []) e)

few_heard : (z : ServerSettings) (k now : ℕ) (fresh : List ℕ) (f : ServerEnd) (g : Going) (c : Checked) (o : Option Message) → g.replies ≡ []
    → Few (went_heard z k now fresh f g c o).replies
few_heard z k now fresh f g c None e = inl e
few_heard z k now fresh f g c (Some m) e =
    few_push g.replies (said_to z k now fresh f g.logons g.window c m.command (answer_to g.server now m m.command)) e

few_turn : (z : ServerSettings) (k now : ℕ) (fresh : List ℕ) (f : ServerEnd) (g : Going) (c : Checked) (t : Turn) → g.replies ≡ []
    → Few (went_turn z k now fresh f g c t).replies
few_turn z k now fresh f g c (Goes d) e = few_heard z k now fresh f g d (heard_message z g.logons k f d) e
few_turn z k now fresh f g c (Fails status) e = few_push g.replies (said_failed f g.window (failed_as g.carried c) status) e

few_all : (z : ServerSettings) (k now : ℕ) (fresh : List ℕ) (f : ServerEnd) (g : Going) (cs : List Checked) (c : Checked) → cs ≡ c ∷ []
    → g.replies ≡ [] → Few (went_all z k now fresh f g cs).replies
unfolding went_all
few_all z k now fresh f g cs c e none =
    subst (λ ds. Few (went_all z k now fresh f g ds).replies) (sym e) (few_turn z k now fresh f g c (turn_of g.carried c) none)

pub few_replies : (z : WorldSettings) (w : World) (k : ℕ) (x : Frame) → IsLone x → Few (went_at z w k x).replies
few_replies z w k x one =
    few_all z.server k w.values.moment (take 8 (draw z.seed w.draws)) x.server_end
    (beginning w.values.server w.logons x.server_end) x.messages one.message one.messages refl

-- ---- where a reply is final, what was made of it has its secret

-- of the endings of these replies
abbrev pub Made : List Ending → Secret → Type 0
Made es s = (e : Ending) × (slice_get es 0 ≡ Some e) × (secret_of e ≡ s)

pub made_one : (f : ServerEnd) (g : Going) (n : ℕ) (r : SaidReply) (texts : List (List ℕ)) (binding : Bool) (channel : ℕ) (encrypts : Bool)
    → r.progress ≡ Final binding channel encrypts
    → Made (told_each false (counted_on f false g n) (r ∷ []) texts).endings (secret_made f r)
unfolding told_each
made_one f g n r texts binding channel encrypts is =
    let h = counted_on f false g n in
    (ending_of h r (first_text texts), ap (λ p. slice_get (ending_by false h r (first_text texts) p ++ []) 0) is, refl)

pub made_are : (z : WorldSettings) (w : World) (k : ℕ) (frame : List ℕ) (x : Frame) → check_frame (w.wires k).server_end frame ≡ Ok x
    → x.sealed ≡ false
    → (n : ℕ) × (texts : List (List ℕ)) × ((step_at z w k frame).made
    ≡ (told_each false (counted_on x.server_end false (went_at z w k x) n) (went_at z w k x).replies texts).endings)
made_are z w k frame x ok plain =
    let g = went_at z w k x in
    let rows = all_texts false (joined_in (text_limit false) g.replies) in (
      length (each_joined rows),
      concatenated rows,
      ap (λ r. (step_of z.server k w.values.moment (take 8 (draw z.seed w.draws)) w.values.server w.logons (w.wires k).server_end r).made) ok
          ∙ ap (λ b. (answered x.server_end b g).made) plain,
    )
