-- What a server spells for a success doesn't hang on the ids and numbers that its request has.
use Rattle.std.proofs.Common.{◌≡◌, ℕ, ◌==◌, Bool, true, false, if◌then◌else◌, List, refl, eqb-true}
use Rattle.spec_wire.specs.messages.Error.{error_response_spelling}
use Rattle.spec_wire.specs.declared.messages.header.Header.{Header}
use Rattle.spec_exchange.specs.Status.{success}
use Rattle.spec_exchange.specs.Commands.{Command}
use Rattle.spec_exchange.specs.State.{Body, Reply, Empty, Created, Content, Count, Listing, FileInfo}
use Rattle.spec_exchange.specs.Operations.{Op, OpCreate, OpWrite, OpRead, OpEnd, OpTime, OpRename, OpRemove, OpLock}
use Rattle.spec_exchange.specs.Operations.{OpUnlock, OpFlush, OpStat, OpList, OpClose, request_of}
use Rattle.spec_commands.specs.ReplyBody.{reply_body, success_body, is_told}
use Rattle.spec_commands.specs.ReplyOf.{reply_of, body_in, or_other}
use Rattle.law_commands.specs.commands.Fitting.{IsFittingAnswer}

abbrev bytes_by : ℕ → List ℕ → Command → Body → List ℕ
bytes_by status token command b =
    if is_told command status then success_body token command b
    else error_response_spelling (record { error_context_count = 0; byte_count = 0 })

abbrev SameBytes : Op → Body → ℕ → ℕ → ℕ → ℕ → ℕ → List ℕ → Type 0
SameBytes op b guid file slot number status token =
    bytes_by status token (request_of op guid file slot number) b ≡ bytes_by status token (request_of op 0 0 0 0) b

same_bytes : (op : Op) (b : Body) (guid file slot number status : ℕ) (token : List ℕ) → IsFittingAnswer op b
    → SameBytes op b guid file slot number status token
same_bytes (OpCreate path access share disposition persist directory) (Created reply) guid file slot number status token is = refl
same_bytes (OpCreate path access share disposition persist directory) b guid file slot number status token is = absurd is
same_bytes (OpWrite create at bytes) (Count count) guid file slot number status token is = refl
same_bytes (OpWrite create at bytes) b guid file slot number status token is = absurd is
same_bytes (OpRead create at size) (Content bytes) guid file slot number status token is = refl
same_bytes (OpRead create at size) b guid file slot number status token is = absurd is
same_bytes (OpStat create) (FileInfo class path info access options position) guid file slot number status token is = refl
same_bytes (OpStat create) b guid file slot number status token is = absurd is
same_bytes (OpList create) (Listing class entries) guid file slot number status token is = refl
same_bytes (OpList create) b guid file slot number status token is = absurd is
same_bytes (OpEnd create size) b guid file slot number status token is = refl
same_bytes (OpTime create time) b guid file slot number status token is = refl
same_bytes (OpRename create path) b guid file slot number status token is = refl
same_bytes (OpRemove create) b guid file slot number status token is = refl
same_bytes (OpLock create at n exclusive) b guid file slot number status token is = refl
same_bytes (OpUnlock create at n) b guid file slot number status token is = refl
same_bytes (OpFlush create) b guid file slot number status token is = refl
same_bytes (OpClose create) Empty guid file slot number status token is = refl
same_bytes (OpClose create) b guid file slot number status token is = absurd is

pub same_body : (op : Op) (r : Reply) (guid file slot number : ℕ) (token : List ℕ) → IsFittingAnswer op r.body
    → reply_body token (request_of op guid file slot number) r ≡ reply_body token (request_of op 0 0 0 0) r
unfolding reply_body
same_body op r guid file slot number token is = same_bytes op r.body guid file slot number r.status token is

-- ---- another status than success

nothing_by : (b : Bool) (x : Body) → (b ≡ true → ⊥) → (if b then x else Empty) ≡ Empty
nothing_by true x off = absurd (off refl)
nothing_by false x off = refl

pub nothing_heard : (c : Command) (h : Header) (m : List ℕ) → (h.status ≡ success → ⊥) → (reply_of c h m).body ≡ Empty
unfolding reply_of
nothing_heard c h m off = nothing_by (h.status == success) (or_other (body_in c m)) (λ e. off (eqb-true h.status success e))
