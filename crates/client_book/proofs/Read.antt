-- How a response reads, which doesn't hang on the ids that its request went out with, and whose request it answers.
use Rattle.std.proofs.Common.{◌≡◌, ℕ, ◌/◌, ◌%◌, ◌==◌, Bool, true, false, if◌then◌else◌, List, Option, Some, refl, sym, ap}
use Rattle.std.proofs.Common.{◌∙◌, arith}
use Rattle.std.proofs.lemmas.Bool.Decides.{nat_tests}
use Rattle.spec_commands.specs.ReplyOf.{body_in, or_other, reply_of}
use Rattle.spec_exchange.specs.Client.{Client, create_for}
use Rattle.spec_exchange.specs.Commands.{Command}
use Rattle.spec_exchange.specs.Network.{ForAttach, ForDialog, ForOp, Token}
use Rattle.spec_exchange.specs.Operations.{Op, OpClose, OpCreate, OpEnd, OpFlush, OpList, OpLock, OpRead, OpRemove, OpRename, OpStat}
use Rattle.spec_exchange.specs.Operations.{OpTime, OpUnlock, OpWrite, reconnect_of, request_of}
use Rattle.spec_exchange.specs.State.{Body, Empty, Reply}
use Rattle.spec_exchange.specs.Status.{success}
use Rattle.spec_wire.specs.declared.messages.header.Header.{Header}
use Rattle.client_ends.specs.ends.Shown.{token_of}
use Rattle.spec_world.specs.Dialog.{is_dialogs}
use Rattle.spec_world.specs.World.{command_asked}
use Rattle.client_book.specs.Asking.{token_for}

abbrev with_body : Header → Option Body → Reply
with_body h b = record {
  status = h.status;
  session_id = h.session;
  tree_id = h.tree;
  body = if h.status == success then or_other b else Empty;
}

by_body : (a b : Command) (h : Header) (m : List ℕ) → body_in a m ≡ body_in b m → reply_of a h m ≡ reply_of b h m
unfolding reply_of
by_body a b h m e = ap (with_body h) e

own_alike : (op : Op) (guid file slot number : ℕ) (m : List ℕ) → body_in (request_of op guid file slot number) m
    ≡ body_in (request_of op 0 0 0 0) m
unfolding body_in
own_alike (OpCreate path access share disposition persist directory) guid file slot number m = refl
own_alike (OpWrite create at bytes) guid file slot number m = refl
own_alike (OpRead create at size) guid file slot number m = refl
own_alike (OpEnd create size) guid file slot number m = refl
own_alike (OpTime create time) guid file slot number m = refl
own_alike (OpRename create path) guid file slot number m = refl
own_alike (OpRemove create) guid file slot number m = refl
own_alike (OpLock create at n exclusive) guid file slot number m = refl
own_alike (OpUnlock create at n) guid file slot number m = refl
own_alike (OpFlush create) guid file slot number m = refl
own_alike (OpStat create) guid file slot number m = refl
own_alike (OpList create) guid file slot number m = refl
own_alike (OpClose create) guid file slot number m = refl

ask_alike : (op : Op) (guid file : ℕ) (m : List ℕ) → body_in (reconnect_of op guid file) m ≡ body_in (reconnect_of op 0 0) m
unfolding body_in
ask_alike (OpCreate path access share disposition persist directory) guid file m = refl
ask_alike (OpWrite create at bytes) guid file m = refl
ask_alike (OpRead create at size) guid file m = refl
ask_alike (OpEnd create size) guid file m = refl
ask_alike (OpTime create time) guid file m = refl
ask_alike (OpRename create path) guid file m = refl
ask_alike (OpRemove create) guid file m = refl
ask_alike (OpLock create at n exclusive) guid file m = refl
ask_alike (OpUnlock create at n) guid file m = refl
ask_alike (OpFlush create) guid file m = refl
ask_alike (OpStat create) guid file m = refl
ask_alike (OpList create) guid file m = refl
ask_alike (OpClose create) guid file m = refl

pub reads_alike : (c : Client) (g guid asked file other slot number : ℕ) (asking : Bool) (h : Header) (m : List ℕ)
    → reply_of (if asking then reconnect_of (c.op (create_for c g)) asked other else request_of (c.op g) guid file slot number) h m
    ≡ reply_of (command_asked c g asking) h m
reads_alike c g guid asked file other slot number true h m =
    by_body (reconnect_of (c.op (create_for c g)) asked other) (reconnect_of (c.op (create_for c g)) 0 0) h m
    (ask_alike (c.op (create_for c g)) asked other m)
reads_alike c g guid asked file other slot number false h m =
    by_body (request_of (c.op g) guid file slot number) (request_of (c.op g) 0 0 0 0) h m (own_alike (c.op g) guid file slot number m)

-- ---- whose request it answers

abbrev by_tests : Bool → Bool → ℕ → Token
by_tests a b n = if a then ForDialog else if b then ForOp n else ForAttach n

is_not : (x y : ℕ) → (x == y) ≡ false → x ≡ y → ⊥
is_not x y e = grind (arith, nat_tests)

is_same : (x y : ℕ) → x ≡ y → (x == y) ≡ true
is_same x y e = grind (arith, nat_tests)

not_both : (n : ℕ) → ((n % 2 == 0) ≡ true) → ((n % 2 == 1) ≡ false)
not_both n e = grind (arith, nat_tests)

one_of : (n : ℕ) → ((n % 2 == 0) ≡ false) → ((n % 2 == 1) ≡ true)
one_of n e =
    let zero_no : n % 2 ≡ 0 → ⊥ = is_not (n % 2) 0 e in
    is_same (n % 2) 1 (omega (arith, zero_no))

by_cases : (a b d : Bool) (n : ℕ) → is_dialogs (Some (by_tests a b n)) ≡ false → (b ≡ true → d ≡ false) → (b ≡ false → d ≡ true)
    → by_tests a b n ≡ token_for n d
by_cases true b d n own f g = absurd (cc)
by_cases false true d n own f g = ap (token_for n) (sym (f refl))
by_cases false false d n own f g = ap (token_for n) (sym (g refl))

pub token_is : (token number : ℕ) → token / 2 ≡ number → is_dialogs (Some (token_of token)) ≡ false
    → token_of token ≡ token_for number (token % 2 == 1)
token_is token number e own =
    by_cases (token == 0) (token % 2 == 0) (token % 2 == 1) (token / 2) own (not_both token) (one_of token)
    ∙ ap (λ (n : ℕ). token_for n (token % 2 == 1)) e
