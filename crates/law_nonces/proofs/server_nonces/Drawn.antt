-- Which effects of the server leave the numbers that sessions drew as they are.
use Rattle.law_server.proofs.tables.Closing.{left_beside}
use Rattle.std.proofs.Common.{◌≡◌, ℕ}
use Rattle.std.proofs.Common.{refl, ◌∙◌, Option, Some, None, is_some}
use Rattle.spec_exchange.specs.Commands.{CreateRequest}
use Rattle.spec_exchange.specs.State.{Server, Message}
use Rattle.spec_exchange.specs.Files.{empty_file, file_attributes}
use Rattle.spec_exchange.specs.Opens.{leave_open}
use Rattle.spec_exchange.specs.CheckCreate.{empties}
use Rattle.spec_exchange.specs.CheckOpen.{is_late, is_slot}
use Rattle.spec_exchange.specs.Effects.{reach, keep_slot, attach, attached, keep_closed, change_file, file_made}
use Rattle.spec_exchange.specs.Verdict.{Change, PutBytes, PutEnd, PutBasic, PutDeletePending, PutPath, PutNothing}
use Rattle.spec_exchange.specs.Step.{add_expired_guid, expire}
use Rattle.law_server.proofs.tables.Logic.{either}

abbrev pub SameDrawn : Server → Server → Type 0
SameDrawn s t = t.channel_numbers_drawn ≡ s.channel_numbers_drawn

pub left_drawn : (s : Server) (o : ℕ) → SameDrawn s (leave_open s o)
left_drawn s o = (left_beside s o).channel_numbers_drawn

pub reached_drawn : (s : Server) (m : Message) (o : ℕ) → SameDrawn s (reach s m o)
reached_drawn s m o = either (λ t. t.channel_numbers_drawn ≡ s.channel_numbers_drawn) (is_late s m o) s _ (λ _. refl) (λ _. refl)

pub attached_drawn : (s : Server) (m : Message) (o : ℕ) → SameDrawn s (attached s m o)
attached_drawn s m o = either (λ t. t.channel_numbers_drawn ≡ s.channel_numbers_drawn) (is_some (s.session_of_open o)) s
    (attach s m o) (λ _. refl) (λ _. refl)

pub kept_drawn : (s : Server) (o index number status : ℕ) → SameDrawn s (keep_slot s o index number status)
kept_drawn s o index number status = either (λ t. t.channel_numbers_drawn ≡ s.channel_numbers_drawn) (is_slot index) _ s
    (λ _. refl) (λ _. refl)

pub closed_drawn : (s : Server) (session : ℕ) (guid : Option ℕ) → SameDrawn s (keep_closed s session guid)
closed_drawn s session None = refl
closed_drawn s session (Some g) = refl

pub changed_drawn : (s : Server) (f now : ℕ) (change : Change) → SameDrawn s (change_file s f now change)
changed_drawn s f now (PutBytes at bytes) = refl
changed_drawn s f now (PutEnd size) = refl
changed_drawn s f now (PutBasic basic) = refl
changed_drawn s f now (PutDeletePending flag) = refl
changed_drawn s f now (PutPath replaced path) = refl
changed_drawn s f now PutNothing = refl

pub made_drawn : (s : Server) (r : CreateRequest) (found : Option ℕ) (now : ℕ) → SameDrawn s (file_made s r found now)
made_drawn s r None now = refl
made_drawn s r (Some f) now = either (λ t. t.channel_numbers_drawn ≡ s.channel_numbers_drawn) (empties r.disposition)
    (empty_file s f (file_attributes r.attributes) now) s (λ _. refl) (λ _. refl)

noted_drawn : (s : Server) (client : ℕ) (guid : Option ℕ) → SameDrawn s (add_expired_guid s client guid)
noted_drawn s client None = refl
noted_drawn s client (Some g) = refl

pub expired_drawn : (s : Server) (o : ℕ) → SameDrawn s (expire s o)
expired_drawn s o = noted_drawn (leave_open s o) (s.opened o).client_guid (s.opened o).create_guid ∙ left_drawn s o
