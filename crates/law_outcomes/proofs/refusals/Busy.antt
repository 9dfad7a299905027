-- Where a write is answered FILE_LOCK_CONFLICT or DISK_FULL, it is no replay that would change nothing.
use Rattle.std.proofs.Common.{◌≡◌, ◌≢◌, ℕ, ◌+◌, ◌≤◌, ◌==◌, nat_lt, Bool, true, false, not, ◌&&◌, ◌||◌, if◌then◌else◌}
use Rattle.std.proofs.Common.{List, length, inl, inr, refl, arith, sym, subst, ◌∙◌, ap, Option, Some, None}
use Rattle.spec_exchange.specs.Content.{Write as Writes, effect, same_bytes, is_empty}
use Rattle.spec_exchange.proofs.Content.{same_bytes-refl}
use Rattle.spec_exchange.specs.Commands.{Write, form, is_setup}
use Rattle.spec_exchange.specs.State.{Server, Message, Heard, Answer}
use Rattle.spec_exchange.specs.Files.{is_directory, passes_room}
use Rattle.spec_exchange.specs.Ranges.{may_write}
use Rattle.spec_exchange.specs.Opens.{is_of_session, is_of_tree}
use Rattle.spec_exchange.specs.Verdict.{Verdict, Refuse, Give, KeepRefusal, Repeat, Attach, Make, TurnDown, Tell, Show}
use Rattle.spec_exchange.specs.Verdict.{KeepSlot, PutRanges, Alter, CloseOpen, Challenge, ChallengeBinding, Begin, Join}
use Rattle.spec_exchange.specs.Verdict.{EndSession, AddTree, DropTree}
use Rattle.spec_exchange.specs.CheckOpen.{is_late, file_of, has_access, bytes_change, write_check, is_repeated}
use Rattle.spec_exchange.specs.CheckSetup.{tree_in}
use Rattle.spec_exchange.specs.Check.{has_session, tree_command, in_tree, command_check, formed, owed, check}
use Rattle.spec_exchange.specs.Effects.{apply}
use Rattle.spec_exchange.specs.Step.{step, without_room}
use Rattle.spec_exchange.specs.Network.{answer_to}
use Rattle.law_server.proofs.tables.Doors.{by_verdict, Finds}
use Rattle.law_server.proofs.tables.Logic.{either, front_of, other_off}
use Rattle.law_order.specs.order.Newest.{LowSequences}
use Rattle.law_order.proofs.order.Pairs.{in_time}
use Rattle.law_order.proofs.order.Answers.{Earlier, earlier}
use Rattle.law_order.proofs.order.Listed.{write_nothing}
use Rattle.law_outcomes.specs.refusals.Refusals.{refuses_writes}

-- ---- by verdict

-- the checks came to the change, and as a replay it would change bytes
record Fresh (s : Server) (m : Message) (o at : ℕ) (bytes : List ℕ) : Type 0 where
  form : form m.command ≡ None
  on : is_of_session s o m.session_id ≡ true
  late : is_late s m o ≡ false
  new : m.replay ≡ true → effect (Writes at bytes) (s.content (file_of s o)) ≢ s.content (file_of s o)

abbrev BusyBy : Server → Message → ℕ → ℕ → List ℕ → Verdict → Type 0
BusyBy s m o at bytes (Refuse status) = refuses_writes status ≡ false
BusyBy s m o at bytes (TurnDown p status) = refuses_writes status ≡ true → Fresh s m o at bytes
BusyBy s m o at bytes (Tell p body) = Unit {0}
BusyBy s m o at bytes (Alter p change body) = Fresh s m o at bytes
BusyBy s m o at bytes _ = ⊥

record Busy (s : Server) (m : Message) (o at : ℕ) (bytes : List ℕ) (v : Verdict) : Type 0 where
  is : BusyBy s m o at bytes v

fresh : (s : Server) (m : Message) (o at : ℕ) (bytes : List ℕ) → form m.command ≡ None → is_of_session s o m.session_id
    ≡ true → is_late s m o ≡ false → is_repeated s m o (bytes_change at bytes) ≡ false → Fresh s m o at bytes
fresh s m o at bytes fm on late e =
    record {
      form = fm;
      on = on;
      late = late;
      new = λ r. differs (sym (write_nothing s o at bytes (is_empty bytes) refl) ∙ other_off m.replay _ e r);
    }
  where
    differs : same_bytes (effect (Writes at bytes) (s.content (file_of s o))) (s.content (file_of s o)) ≡ false
        → effect (Writes at bytes) (s.content (file_of s o)) ≡ s.content (file_of s o) → ⊥
    differs f e = absurd (let z = subst (λ b. same_bytes b (s.content (file_of s o)) ≡ true) (sym e)
        (same_bytes-refl (s.content (file_of s o))) in grind arith)

busy_write : (s : Server) (m : Message) (o at : ℕ) (bytes : List ℕ) → form m.command ≡ None
    → is_of_session s o m.session_id ≡ true → Busy s m o at bytes (write_check s m o at bytes)
busy_write s m o at bytes fm on =
    either (Busy s m o at bytes) (is_late s m o) _ _ (λ _. record { is = refl })
    (λ l. either (Busy s m o at bytes) (not (has_access s o 0x2)) _ _ (λ _. record { is = λ e. absurd (cc) })
    (λ _. either (Busy s m o at bytes) (is_directory s (file_of s o)) _ _ (λ _. record { is = λ e. absurd (cc) })
    (λ _. either (Busy s m o at bytes) (is_repeated s m o (bytes_change at bytes)) _ _ (λ _. record { is = tt })
    (λ e. either (Busy s m o at bytes) (not (may_write (s.ranges (file_of s o)) o at (length bytes))) _ _ (λ _. record {
      is = λ _. fresh s m o at bytes fm on l e;
    })
    (λ _. either (Busy s m o at bytes) (not (is_empty bytes) && passes_room s (file_of s o) (at + length bytes)) _ _
    (λ _. record { is = λ _. fresh s m o at bytes fm on l e })
    (λ _. record { is = fresh s m o at bytes fm on l e }))))))

-- a form that isn't kept is refused by another status
bad_form : (o at : ℕ) (bytes : List ℕ) (status : ℕ) → form (Write o at bytes 0) ≡ Some status → refuses_writes status ≡ false
bad_form o at bytes status e = ap refuses_writes (other (nat_lt 1048576 (length bytes)) (not (0 == 0))
    (nat_lt (at + length bytes) 0x8000_0000_0000_0000) status e)
  where
    other : (a b c : Bool) (status : ℕ) → (if a then Some 0xc000_000d else if b then Some 0xc000_000d else if c then
        None else Some 0xc000_000d) ≡ Some status → status ≡ 0xc000_000d
    other a b c status e = grind arith

busy_tree : (s : Server) (m : Message) (o at : ℕ) (bytes : List ℕ) → m.command ≡ Write o at bytes 0 → form m.command
    ≡ None → (t : Option Bool) → Busy s m o at bytes (in_tree s m t)
busy_tree s m o at bytes e fm None = record { is = refl }
busy_tree s m o at bytes e fm (Some pipes) =
    subst (λ c. Busy s m o at bytes (tree_command s m pipes c)) (sym e)
    (either (Busy s m o at bytes) (is_of_tree s o m.session_id m.tree_id) _ _
    (λ on. busy_write s m o at bytes fm (front_of (is_of_session s o m.session_id) _ on)) (λ _. record { is = refl }))

busy_form : (s : Server) (m : Message) (o at : ℕ) (bytes : List ℕ) → m.command ≡ Write o at bytes 0 → (f : Option ℕ)
    → form m.command ≡ f → Busy s m o at bytes (formed s m f)
busy_form s m o at bytes e (Some status) f = record { is = bad_form o at bytes status (ap form (sym e) ∙ f) }
busy_form s m o at bytes e None f = subst (λ c. Busy s m o at bytes (command_check s m c)) (sym e)
    (busy_tree s m o at bytes e f (tree_in (s.trees m.session_id) m.tree_id))

busy : (s : Server) (m : Message) (o at : ℕ) (bytes : List ℕ) → m.command ≡ Write o at bytes 0 → m.fault ≡ None
    → Busy s m o at bytes (check s m)
busy s m o at bytes e f =
    either (Busy s m o at bytes) (is_setup m.command || has_session s m) _ _
    (λ _. subst (λ x. Busy s m o at bytes (owed s m x)) (sym f) (busy_form s m o at bytes e (form m.command) refl))
    (λ _. record { is = refl })

without_busy : (s : Server) (m : Message) (o at : ℕ) (bytes : List ℕ) (v : Verdict) → Busy s m o at bytes v
    → Busy s m o at bytes (without_room v)
without_busy s m o at bytes (Refuse status) h = h
without_busy s m o at bytes (TurnDown p status) h = h
without_busy s m o at bytes (Tell p body) h = h
without_busy s m o at bytes (Alter p change body) h = record { is = λ _. h.is }
without_busy s m o at bytes (Give body) h = absurd (h.is)
without_busy s m o at bytes (KeepRefusal guid status) h = absurd (h.is)
without_busy s m o at bytes (Repeat p r) h = absurd (h.is)
without_busy s m o at bytes (Attach p r) h = absurd (h.is)
without_busy s m o at bytes (Make r found action) h = absurd (h.is)
without_busy s m o at bytes (Show p last body) h = absurd (h.is)
without_busy s m o at bytes (KeepSlot p index number status elements) h = absurd (h.is)
without_busy s m o at bytes (PutRanges p index number ranges elements) h = absurd (h.is)
without_busy s m o at bytes (CloseOpen p body) h = absurd (h.is)
without_busy s m o at bytes Challenge h = absurd (h.is)
without_busy s m o at bytes (ChallengeBinding session) h = absurd (h.is)
without_busy s m o at bytes (Begin session user previous r is_quiet) h = absurd (h.is)
without_busy s m o at bytes (Join session) h = absurd (h.is)
without_busy s m o at bytes (EndSession session is_quiet) h = absurd (h.is)
without_busy s m o at bytes (AddTree pipes) h = absurd (h.is)
without_busy s m o at bytes DropTree h = absurd (h.is)

-- ---- by answer

-- of the state in front of the message: the server would take this copy, and as a replay it would change bytes
pub record Spared (s : Server) (m : Message) (o begin : ℕ) (bytes : List ℕ) : Type 0 where
  pub form : form m.command ≡ None
  pub standing : s.standing o ≡ true
  pub at : s.session_of_open o ≡ Some m.session_id
  pub newest : s.sequence o ≤ m.channel_sequence
  pub new : m.replay ≡ true → effect (Writes begin bytes) (s.content (s.opened o).file) ≢ s.content (s.opened o).file

on_open : (s : Server) (o x : ℕ) → is_of_session s o x ≡ true → s.standing o ≡ true × s.session_of_open o ≡ Some x
on_open s o x e = (grind arith, grind arith)

spared : (s : Server) (m : Message) (o begin : ℕ) (bytes : List ℕ) → LowSequences s → m.channel_sequence ≤ 32767
    → Fresh s m o begin bytes → Spared s m o begin bytes
spared s m o begin bytes low l h = let on = on_open s o m.session_id h.on in record {
  form = h.form;
  standing = on.0;
  at = on.1;
  newest = in_time s m o low l h.late;
  new = h.new;
}

no : (b : Bool) → b ≡ true → b ≡ false → ⊥
no b e f = absurd (grind arith)

answer_spared : (s : Server) (m : Message) (o begin now : ℕ) (bytes : List ℕ) → LowSequences s → m.channel_sequence ≤ 32767
    → (v : Verdict) → Busy s m o begin bytes v → refuses_writes (apply s m now v).reply.status ≡ true
    → Spared s m o begin bytes
answer_spared s m o begin now bytes low l (Refuse status) h e = absurd (no _ e h.is)
answer_spared s m o begin now bytes low l (TurnDown p status) h e = spared s m o begin bytes low l (h.is e)
answer_spared s m o begin now bytes low l (Tell p body) h e = absurd (cc)
answer_spared s m o begin now bytes low l (Alter p change body) h e = absurd (cc)
answer_spared s m o begin now bytes low l (Give body) h e = absurd (h.is)
answer_spared s m o begin now bytes low l (KeepRefusal guid status) h e = absurd (h.is)
answer_spared s m o begin now bytes low l (Repeat p r) h e = absurd (h.is)
answer_spared s m o begin now bytes low l (Attach p r) h e = absurd (h.is)
answer_spared s m o begin now bytes low l (Make r found action) h e = absurd (h.is)
answer_spared s m o begin now bytes low l (Show p last body) h e = absurd (h.is)
answer_spared s m o begin now bytes low l (KeepSlot p index number status elements) h e = absurd (h.is)
answer_spared s m o begin now bytes low l (PutRanges p index number ranges elements) h e = absurd (h.is)
answer_spared s m o begin now bytes low l (CloseOpen p body) h e = absurd (h.is)
answer_spared s m o begin now bytes low l Challenge h e = absurd (h.is)
answer_spared s m o begin now bytes low l (ChallengeBinding session) h e = absurd (h.is)
answer_spared s m o begin now bytes low l (Begin session user previous r is_quiet) h e = absurd (h.is)
answer_spared s m o begin now bytes low l (Join session) h e = absurd (h.is)
answer_spared s m o begin now bytes low l (EndSession session is_quiet) h e = absurd (h.is)
answer_spared s m o begin now bytes low l (AddTree pipes) h e = absurd (h.is)
answer_spared s m o begin now bytes low l DropTree h e = absurd (h.is)

-- behind an expiry, of the state before it
before_spared : (s t : Server) (m : Message) (o begin : ℕ) (bytes : List ℕ) → Earlier s t → Spared t m o begin bytes
    → Spared s m o begin bytes
before_spared s t m o begin bytes k f =
    let row : (t.opened o).file ≡ (s.opened o).file = ap (λ g. (g o).file) k.moves.row in
    let same : t.content (t.opened o).file ≡ s.content (s.opened o).file = ap (λ g. g (t.opened o).file) k.content ∙ ap s.content row in
    record {
      form = f.form;
      standing = k.moves.stands o f.standing;
      at = k.session_of_open o m.session_id f.at;
      newest = subst (λ n. n ≤ m.channel_sequence) (ap (λ g. g o) k.sequence) f.newest;
      new = λ r. subst (λ c. effect (Writes begin bytes) c ≢ c) same (f.new r);
    }

found_busy : (t : Server) (m : Message) (o begin : ℕ) (bytes : List ℕ) (v : Verdict)
    → Busy t m o begin bytes (check t m) → Finds t m v → Busy t m o begin bytes v
found_busy t m o begin bytes v l (inl e) = subst (Busy t m o begin bytes) (sym e) l
found_busy t m o begin bytes v l (inr e) = subst (Busy t m o begin bytes) (sym e) (without_busy t m o begin bytes (check t m) l)

abbrev IfRefused : Server → Message → ℕ → ℕ → List ℕ → Answer → Type 0
IfRefused s m o begin bytes A = refuses_writes A.reply.status ≡ true → Spared s m o begin bytes

step_spared : (s : Server) (now : ℕ) (m : Message) (o begin : ℕ) (bytes : List ℕ) → LowSequences s → m.channel_sequence ≤ 32767
    → m.command ≡ Write o begin bytes 0 → m.fault ≡ None → IfRefused s m o begin bytes (step s now (Heard m))
step_spared s now m o begin bytes low l e f =
    by_verdict (IfRefused s m o begin bytes) s now m
    (λ t v records b h r. let k = earlier s now t b in
    before_spared s t m o begin bytes k (answer_spared t m o begin now bytes (k.moves.low low) l v
    (found_busy t m o begin bytes v (busy t m o begin bytes e f) h) r))

pub busy_answer : (s : Server) (now : ℕ) (m : Message) (o begin : ℕ) (bytes : List ℕ) → LowSequences s
    → m.channel_sequence ≤ 32767 → m.command ≡ Write o begin bytes 0 → m.fault ≡ None → IfRefused s m o begin bytes
    (answer_to s now m m.command)
busy_answer s now m o begin bytes low l e f = subst (λ c. IfRefused s m o begin bytes (answer_to s now m c)) (sym e)
    (step_spared s now m o begin bytes low l e f)
