-- What holds of a book that opens with a server, and of an ending, at equal values.
use Rattle.std.proofs.Common.{◌≡◌, ℕ, List, Bool, inl, inr, ap, ◌∙◌, subst}
use Rattle.std.specs.Prelude.{Option}
use Rattle.serve_turns.specs.event_book.History.{Stand}
use Rattle.serve_turns.specs.link_serving.Passage.{Passage}
use Rattle.serve_turns.specs.shared_book.Turns.{first_view}
use Rattle.serve_turns.specs.declared.shared_book.view.View.{View}
use Rattle.serve_turns.specs.declared.event_book.turn.Answer.{Answer}
use Rattle.serve_turns.specs.declared.event_book.turn.Turn.{Turn}
use Rattle.serve_turns.specs.declared.link_threads.links.Halt.{Halt}
use Rattle.base_outside.specs.whole_texts.Outside.{HasOutsideFailed}
use Rattle.base_outside.specs.declared.whole_texts.read_error.ReadError.{ReadError}
use Rattle.base_outside.specs.declared.whole_texts.read_error.ReadError.TheVariants as whys
use Rattle.serve_command.specs.declared.server_settings.words.Bound.{Bound}
use Rattle.serve_command.specs.Steps.{ServerBook}
use Rattle.server_core.specs.declared.server.Server.{Server}
use Rattle.serve_turns.specs.declared.link_serving.ended.Ended.{Ended}
use Rattle.base_outside.specs.streams.Faults.{Rose}
use Rattle.base_outside.specs.declared.streams.address.Address.{Address}
use Rattle.serve_command.specs.Serving.{Behind, Serves, ServingOpens}
use Rattle.serve_command.specs.declared.ending.Ending.{Ending}

module _ {D : Type 0} (server : Server D) where
  abbrev Knows : Type 0
  Knows = View (ServerBook D) Turn Answer

  pub opens_first : (first : ServerBook D) (v : Knows) → v ≡ first_view first → first.server.disk_book.book.server ≡ server → ServingOpens server v
  opens_first first v same is = record { opening = first; begins = is; is = ap (λ (x : Knows). x.opening) same }

  pub still_opens : (v w : Knows) → ServingOpens server v → w.opening ≡ v.opening → ServingOpens server w
  still_opens v w opens same = record { opening = opens.opening; begins = opens.begins; is = same ∙ opens.is }

pub behind_of : (written written' : Option (List ℕ)) (sink sink' : ℕ) (bound : Option Bound) (halt : Halt)
    (ends ends' : List (Option Ended))
    (b b' r r' : Bool) (e : Ending) → ends ≡ ends' → b ≡ b' → r ≡ r' → Behind written written' sink sink' bound halt ends b r e
    → Behind written written' sink sink' bound halt ends' b' r' e
behind_of written written' sink sink' bound halt ends ends' b b' r r' e p q s h =
    subst (λ (x : List (Option Ended)). Behind written written' sink sink' bound halt x b' r' e) p
    (subst (λ (y : Bool). Behind written written' sink sink' bound halt ends y r' e) q
    (subst (λ (y : Bool). Behind written written' sink sink' bound halt ends b y e) s h))

pub memory_kept : (old new : ℕ) (why : ReadError) → why ≡ whys.Memory → HasOutsideFailed old new why → new ≡ old
memory_kept old new why is failed = subst (λ (x : ReadError). HasOutsideFailed old new x) is failed

pub failed_rose : (old new : ℕ) (why : ReadError) → why ≡ whys.Failed → HasOutsideFailed old new why → Rose old new
failed_rose old new why is failed = subst (λ (x : ReadError). HasOutsideFailed old new x) is failed

-- a net that was told something serves as it did before, where neither its place nor its counts moved, nor what its peers send
pub serves_still : {D N : Type 0} (told : Type 0) (seen : D → List ℕ) (may_leave : D → List ℕ → Type 0) (faults : D → ℕ)
    (listens_at : N → Option Address) (links : N → ℕ) (net_faults : N → ℕ) (link_told : Type 0) (sent : N → List (List ℕ))
    (over : (net net' : N) → ℕ → Passage → Type 0) (before : ℕ) (at : Address) (bound : Option Bound)
    (server : Server D) (from : Stand) (written written' : Option (List ℕ)) (sink sink' : ℕ) (net heard net' : N) (disk' : Option D)
    (ending : Ending)
    → listens_at heard ≡ listens_at net → links heard ≡ links net → net_faults heard ≡ net_faults net
    → (link_told → sent heard ≡ sent net)
    → Serves told seen may_leave faults listens_at links net_faults link_told sent over before at bound server from written written' sink
    sink' heard net' disk'
    ending
    → Serves told seen may_leave faults listens_at links net_faults link_told sent over before at bound server from written written' sink
    sink' net net' disk' ending
serves_still told seen may_leave faults listens_at links net_faults link_told sent over before at bound server from written written' sink
    sink' net heard net' disk'
    ending place accepted calm same (inl h) =
    inl (subst (λ (n : ℕ). Rose n (net_faults net')) calm h.0, h.1, h.2 ∙ place, h.3 ∙ accepted, (λ t. h.4 t ∙ same t), h.5)
serves_still told seen may_leave faults listens_at links net_faults link_told sent over before at bound server from written written' sink
    sink' net heard net' disk'
    ending place accepted calm same (inr h) =
    inr (h.0, h.1, h.2 ∙ accepted, h.3 ∙ calm, (λ t. h.4 t ∙ same t), h.5)
