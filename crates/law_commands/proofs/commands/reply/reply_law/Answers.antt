use Rattle.std.proofs.Common.{◌≡◌, ℕ, true, false, List, [], ◌∷◌, ◌++◌, length, Option, Some, None, refl, sym, ap, subst, ◌∙◌}
use Rattle.std.specs.Prelude.{◌==◌, if◌then◌else◌}
use Rattle.spec_wire.specs.messages.Error.{error_response_spelling}
use Rattle.spec_exchange.specs.Status.{success}
use Rattle.spec_exchange.specs.Commands.{Command, QueryFile, ListDirectory, SetEnd, SetBasic, Rename, SetDelete}
use Rattle.spec_exchange.specs.State.{Body, Empty, Created, Content, Count, Listing, FileInfo}
use Rattle.spec_exchange.specs.Operations.{Op, OpCreate, OpWrite, OpRead, OpEnd, OpTime, OpRename, OpRemove, OpLock}
use Rattle.spec_exchange.specs.Operations.{OpUnlock, OpFlush, OpStat, OpList, OpClose, Names, request_of, value_in}
use Rattle.spec_exchange.specs.Operations.{id_in, create_request, durable_of, only_written, lock_flags, element}
use Rattle.spec_commands.specs.ReplyBody.{reply_body, success_body, is_told}
use Rattle.spec_commands.specs.ReplyOf.{reply_of, body_in, or_other}
use Rattle.law_commands.specs.commands.Fitting.{IsFittingAnswer, IsHeardAlike}
use Rattle.law_commands.proofs.commands.Names.{same_names}
use Rattle.law_commands.proofs.commands.reply.reply_law.Goals as goal

-- what is heard of a success
abbrev Alike : Op → Command → List ℕ → Body → Type 0
Alike op command m b = IsHeardAlike op (or_other (body_in command m)) b

alike : (op : Op) (a b : Body) (o : Option Body) → o ≡ Some a → value_in op a ≡ value_in op b → id_in a ≡ id_in b →
    IsHeardAlike op (or_other o) b
alike op a b o is value id = subst (λ (o : Option Body). IsHeardAlike op (or_other o) b) (sym is) (record { value = value; id = id })

-- by the statuses
abbrev body_by : ℕ → Command → List ℕ → Body
body_by status command m = if status == success then or_other (body_in command m) else Empty

abbrev bytes_by : ℕ → List ℕ → Command → Body → List ℕ
bytes_by status token command b = if is_told command status then success_body token command b else
    error_response_spelling (record { error_context_count = 0; byte_count = 0 })

pub returns : goal.returns
unfolding reply_of reply_body
returns c = λ h header rest token op guid file slot number r len ok same is.
    let command : Command = request_of op guid file slot number in
    subst (λ (n : ℕ). IsHeardAlike op (body_by n command (header ++ (bytes_by r.status token command r.body ++ rest)))
    r.body) (sym (same ∙ ok))
    (subst (λ (n : ℕ). IsHeardAlike op (body_by 0 command (header ++ (bytes_by n token command r.body ++ rest)))
    r.body) (sym ok) (by_op op r.body header rest token guid file slot number len is))
  where
    by_op : (op : Op) (b : Body) (header rest token : List ℕ) (guid file slot number : ℕ) → length header ≡ 64 → IsFittingAnswer op b
        → Alike op (request_of op guid file slot number) (header ++ (success_body token (request_of op guid file slot number) b ++ rest)) b
    by_op (OpCreate path access share disposition persist directory) (Created reply) header rest token guid file slot number len is =
        alike (OpCreate path access share disposition persist directory) _ (Created reply) _ (c.created_reply.ensures
        header rest token (create_request path access share disposition directory (Some (durable_of guid persist))
        None) reply len is) refl refl
    by_op (OpCreate path access share disposition persist directory) b header rest token guid file slot number len is = absurd is
    by_op (OpWrite create at bytes) (Count count) header rest token guid file slot number len is = alike (OpWrite create
        at bytes) _ (Count count) _ (c.transfer_replies.ensures.write header rest token file at bytes 0 count len is)
        refl refl
    by_op (OpWrite create at bytes) b header rest token guid file slot number len is = absurd is
    by_op (OpRead create at size) (Content bytes) header rest token guid file slot number len is = alike (OpRead create
        at size) _ (Content bytes) _ (c.transfer_replies.ensures.read header rest token file at size 0 0 bytes len is)
        refl refl
    by_op (OpRead create at size) b header rest token guid file slot number len is = absurd is
    by_op (OpStat create) (FileInfo class path info access options position) header rest token guid file slot number len is =
        alike (OpStat create) _ (FileInfo class path info access options position) _
        (ap (λ (k : ℕ). body_in (QueryFile file 5 24) (header ++ (success_body token (QueryFile file 5 24) (FileInfo k
        path info access options position) ++ rest))) is.0 ∙ c.stat_reply.ensures header rest token file 24 path info
        access options position len is.1) refl refl
    by_op (OpStat create) b header rest token guid file slot number len is = absurd is
    by_op (OpList create) (Listing class entries) header rest token guid file slot number len is =
        alike (OpList create) _ (Listing class entries) _
        (ap (λ (k : ℕ). body_in (ListDirectory file 12 true false (42 ∷ []) 1048576) (header ++ (success_body token
        (ListDirectory file 12 true false (42 ∷ []) 1048576) (Listing k entries) ++ rest))) is.0
        ∙ c.list_reply.ensures header rest token file true false (42 ∷ []) 1048576 entries len is.1 is.2)
        (ap (λ (ns : List (List ℕ)). Some (Names ns)) (same_names entries)) refl
    by_op (OpList create) b header rest token guid file slot number len is = absurd is
    by_op (OpEnd create size) Empty header rest token guid file slot number len is = alike (OpEnd create size) Empty
        Empty _ (c.empty_replies.ensures.set header rest token file (SetEnd size) len) refl refl
    by_op (OpEnd create size) b header rest token guid file slot number len is = absurd is
    by_op (OpTime create time) Empty header rest token guid file slot number len is = alike (OpTime create time) Empty
        Empty _ (c.empty_replies.ensures.set header rest token file (SetBasic (only_written time)) len) refl refl
    by_op (OpTime create time) b header rest token guid file slot number len is = absurd is
    by_op (OpRename create path) Empty header rest token guid file slot number len is = alike (OpRename create path)
        Empty Empty _ (c.empty_replies.ensures.set header rest token file (Rename false path) len) refl refl
    by_op (OpRename create path) b header rest token guid file slot number len is = absurd is
    by_op (OpRemove create) Empty header rest token guid file slot number len is = alike (OpRemove create) Empty Empty _
        (c.empty_replies.ensures.set header rest token file (SetDelete true) len) refl refl
    by_op (OpRemove create) b header rest token guid file slot number len is = absurd is
    by_op (OpLock create at n exclusive) Empty header rest token guid file slot number len is =
        alike (OpLock create at n exclusive) Empty Empty _ (c.empty_replies.ensures.lock header rest token file slot
        number (element at n (lock_flags exclusive)) len) refl refl
    by_op (OpLock create at n exclusive) b header rest token guid file slot number len is = absurd is
    by_op (OpUnlock create at n) Empty header rest token guid file slot number len is =
        alike (OpUnlock create at n) Empty Empty _ (c.empty_replies.ensures.lock header rest token file slot number
        (element at n 0x4) len) refl refl
    by_op (OpUnlock create at n) b header rest token guid file slot number len is = absurd is
    by_op (OpFlush create) Empty header rest token guid file slot number len is = alike (OpFlush create) Empty Empty _
        (c.empty_replies.ensures.flush header rest token file len) refl refl
    by_op (OpFlush create) b header rest token guid file slot number len is = absurd is
    by_op (OpClose create) Empty header rest token guid file slot number len is = alike (OpClose create) Empty Empty _
        (c.empty_replies.ensures.close header rest token file false len) refl refl
    by_op (OpClose create) b header rest token guid file slot number len is = absurd is
