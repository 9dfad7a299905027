-- The walk over the contexts of a response.
use Rattle.std.proofs.Common.{◌≡◌, ℕ, List, [], ◌∷◌, drop, Some, refl, sym, ap, subst, ◌∙◌}
use Rattle.spec_wire.specs.messages.Chain.{BreaksChain}
use Rattle.spec_wire.specs.messages.CreateContexts.{CreateContext, IsContext, first_fault, reply_due, reply_of, both_replies}
use Rattle.spec_wire.specs.messages.CreateContexts.{no_replies, reply_contexts, SpellsReplyContexts}
use Rattle.spec_wire.specs.declared.messages.chain_error.ChainError.{ChainError}
use Rattle.spec_wire.specs.declared.messages.context.ReplyContexts.{ReplyContexts}
use Rattle.spec_wire.proofs.messages.Walk.{Walked, begins, goes_on, ends, breaks}
use Rattle.wire_bytes.specs.create_contexts.Parts.{FirstReplySays}
use Rattle.wire_bytes.proofs.create_contexts.Firsts.{replies_assoc, replies_none, none_replies}

abbrev pub RepliesFound : List ℕ → List ℕ → ReplyContexts → Type 0
RepliesFound bytes rest found = Walked (IsContext reply_due) (first_fault reply_due) reply_of both_replies no_replies
    reply_contexts bytes rest found

step : (v : CreateContext) (vs : List CreateContext) → reply_contexts (v ∷ vs) ≡ both_replies (reply_of v) (reply_contexts vs)
step v vs = refl

pub replies_begin : (bytes : List ℕ) → (bytes ≡ [] → ⊥) → RepliesFound bytes bytes no_replies
replies_begin bytes some = begins (IsContext reply_due) (first_fault reply_due) reply_of both_replies no_replies
    reply_contexts none_replies bytes some

pub replies_go_on : (bytes rest : List ℕ) (found said : ReplyContexts) (next : ℕ) → RepliesFound bytes rest found
    → FirstReplySays rest said next → (next ≡ 0 → ⊥) → RepliesFound bytes (drop next rest) (both_replies found said)
replies_go_on bytes rest found said next walked f more =
    let t = goes_on (IsContext reply_due) (first_fault reply_due) reply_of both_replies no_replies reply_contexts step
    replies_assoc bytes rest found f.context walked f.whole (λ z. more (f.told ∙ z)) f.link f.is in
    let at : RepliesFound bytes (drop next rest) (both_replies found (reply_of f.context)) =
    subst (λ (k : ℕ). RepliesFound bytes (drop k rest) (both_replies found (reply_of f.context))) (sym f.told) t in
    subst (λ (x : ReplyContexts). RepliesFound bytes (drop next rest) (both_replies found x)) (sym f.says) at

pub replies_end : (bytes rest : List ℕ) (found said : ReplyContexts) (next : ℕ) → RepliesFound bytes rest found
    → FirstReplySays rest said next → next ≡ 0 → SpellsReplyContexts bytes (both_replies found said)
replies_end bytes rest found said next walked f last =
    let t = ends (IsContext reply_due) (first_fault reply_due) reply_of both_replies no_replies reply_contexts step
    replies_none refl bytes rest found f.context walked (sym f.told ∙ last) f.link f.is in
    record { contexts = t.items; chain = t.chain; says = ap (both_replies found) f.says ∙ t.says }

pub replies_break : (bytes rest : List ℕ) (found : ReplyContexts) (e : ChainError) → RepliesFound bytes rest found
    → first_fault reply_due rest ≡ Some e → BreaksChain (first_fault reply_due) bytes e
replies_break bytes rest found e walked here = breaks (IsContext reply_due) (first_fault reply_due) reply_of
    both_replies no_replies reply_contexts bytes rest found e walked here
