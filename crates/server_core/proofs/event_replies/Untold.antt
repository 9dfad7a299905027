-- An answer that tells nothing.
use Rattle.std.proofs.Common.{◌≡◌, ◌≤◌, ◌<◌, ℕ, List, length, true, Option, Some, None, is_some, inl, inr, sym, ap, subst, ◌∙◌, arith}
use Rattle.spec_commands.specs.Fits.{FitsReply}
use Rattle.spec_commands.specs.ReplyBody.{reply_body}
use Rattle.wire_commands.specs.values.Meaning.{command_of, reply_of}
use Rattle.wire_commands.specs.declared.values.command.Command.{Command}
use Rattle.wire_commands.specs.writing.Writing.{IsBodyRefused}
use Rattle.wire_commands.specs.declared.writing.fault.WriteError.{WriteError}
use Rattle.wire_commands.specs.declared.writing.fault.WriteError.TheVariants.{Memory, Unwritable}
use Rattle.conn_core.specs.declared.conn.Progress.{Progress}
use Rattle.conn_core.specs.declared.conn.Progress.TheVariants.{Stays, Refused, Interim, Final}
use Rattle.server_effects.specs.declared.answering.Answer.{Answer}
use Rattle.spec_crypto.specs.declared.sessions.material.Keys.{Keys}
use Rattle.spec_crypto.specs.declared.sessions.material.Signer.{Signer}
use Rattle.server_core.specs.event_replies.Told.{FinalTold, InterimTold, IsUntold, NoneTold, ProgressTold}
use Rattle.server_core.specs.declared.event_replies.progress.Logon.{Logon}

none_there : (o : Option Signer) → o ≡ None → is_some o ≡ true → ⊥
none_there None e f = absurd cc
none_there (Some k) e f = absurd cc

none_some : {X : Type 0} (o : Option X) (x : X) → o ≡ None → o ≡ Some x → ⊥
none_some o x e f = apart x (sym e ∙ f)
  where
    apart : {X : Type 0} (x : X) → None ≡ Some x → ⊥
    apart x e = absurd cc

some_same : (x y : Keys) → Some x ≡ Some y → x ≡ y
some_same x y e = cc

-- who binds has a session that signs
pub no_signer : (l : Logon) → l.binds ≡ true → l.signer ≡ None → (p : Progress) → InterimTold l p → ⊥
no_signer l binds none Stays t = t
no_signer l binds none (Refused signer) t = t
no_signer l binds none (Interim signer) t = none_there l.signer none (t.1 binds)
no_signer l binds none (Final keys number seals) t = t

-- a final response has keys of a known cipher, and a number
pub no_keys : (a : Answer) → a.keys ≡ None → (p : Progress) → FinalTold a p → ⊥
no_keys a none Stays t = t
no_keys a none (Refused signer) t = t
no_keys a none (Interim signer) t = t
no_keys a none (Final keys number seals) t = none_some a.keys keys none t.0

pub no_number : (a : Answer) → a.channel ≡ None → (p : Progress) → FinalTold a p → ⊥
no_number a none Stays t = t
no_number a none (Refused signer) t = t
no_number a none (Interim signer) t = t
no_number a none (Final keys number seals) t = none_some a.channel number none t.2

pub no_cipher : (a : Answer) (k : Keys) → a.keys ≡ Some k → 4 < k.cipher → (p : Progress) → FinalTold a p → ⊥
no_cipher a k is above Stays t = t
no_cipher a k is above (Refused signer) t = t
no_cipher a k is above (Interim signer) t = t
no_cipher a k is above (Final keys number seals) t =
    let same : k.cipher ≡ keys.cipher = ap (λ (x : Keys). x.cipher) (some_same k keys (sym is ∙ t.0)) in
    let few : keys.cipher ≤ 4 = t.1 in
    absurd (omega (arith, same, few, above))

pub untold : (c : Command) (l : Option Logon) (a : Answer) (e : WriteError)
    → IsBodyRefused (FitsReply a.token (command_of c) (reply_of a.reply)) e → IsUntold c l a e
untold c l a Memory h = tt
untold c l a Unwritable h = inr (inl h)

pub nothing_told : (c : Command) (l : Option Logon) (a : Answer) → NoneTold (ProgressTold l a) → IsUntold c l a Unwritable
nothing_told c l a none = inl none

pub too_long : (c : Command) (l : Option Logon) (a : Answer) (body : List ℕ) → body ≡ reply_body a.token (command_of c) (reply_of a.reply)
    → 1113984 < length body → IsUntold c l a Unwritable
too_long c l a body is above = inr (inr (subst (λ (b : List ℕ). 1113984 < length b) is above))
