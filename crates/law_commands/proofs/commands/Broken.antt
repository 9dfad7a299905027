-- What has a break gives nothing: chains, and texts in UTF-16.
use Rattle.std.proofs.Common.{◌≡◌, ℕ, zero, suc, ◌+◌, ◌*◌, ◌%◌, ◌<◌, ◌≤◌, ◌⊎◌, inl, inr, Bool, true, false, List, []}
use Rattle.std.proofs.Common.{◌∷◌, ◌++◌, length, drop, take, Option, Some, None, encode_utf8_all, refl, sym, ap, subst}
use Rattle.std.proofs.Common.{◌∙◌, arith, append_assoc, length-drop}
use Rattle.std.specs.Prelude.{◌==◌, if◌then◌else◌, is_some, option_map, get_or}
use Rattle.std.specs.Char.Utf16.{utf16_chars, lone_unit_char}
use Rattle.std.specs.Str.{all_scalars}
use Rattle.std.proofs.str.Utf16.{IsPair}
use Rattle.std.proofs.lemmas.Grind.{common_steps}
use Rattle.std.proofs.lemmas.List.{take-append-drop, drop-drop}
use Rattle.std.proofs.lemmas.Str.{utf16_chars_lone}
use Rattle.spec_wire.specs.messages.Places.{number, number_of, bytes_at}
use Rattle.spec_wire.specs.messages.Chain.{piece, BreaksBehind, BreaksChain}
use Rattle.spec_wire.specs.messages.Utf16.{units_of, utf16_of, IsHigh, IsLow, IsLone, IsReadTo, BreaksUtf16}
use Rattle.spec_wire.specs.declared.messages.refusal.TextError.{TextError}
use Rattle.spec_wire.specs.declared.messages.refusal.TextError.TheVariants as errors
use Rattle.spec_wire.specs.declared.messages.chain_error.ChainError.{ChainError}
use Rattle.spec_wire.specs.messages.CreateContexts.{context_in, first_fault, request_due, request_contexts}
use Rattle.spec_commands.specs.Items.{first_items, items_in}
use Rattle.spec_commands.specs.Text.{units_in, all_there, characters_in, text_in}
use Rattle.spec_commands.specs.CommandOf.{contexts_in}
use Rattle.law_commands.proofs.commands.Items.{is_linked, next_item}
use Rattle.law_commands.proofs.commands.Texts.{char_in, each}

-- ---- chains

stops : {V : Type 0} (breaks : Bool) (o : Option (List V)) → breaks ≡ true → (if breaks then None else o) ≡ None
stops true o e = refl
stops false o e = absurd cc

module _ {V E : Type 0} (value : List ℕ → V) (fault : List ℕ → Option E) where
  first_broken : (k n : ℕ) (m : List ℕ) (e : E) → BreaksBehind fault k m e → first_items value (λ m. is_some (fault m)) n m ≡ None
  unfolding first_items
  first_broken k zero m e b = refl
  first_broken zero (suc n) m e b = stops (is_some (fault m)) _ (ap is_some b)
  first_broken (suc k) (suc n) m e b =
      next_item (is_some (fault m)) (number 4 m 0 == 0) (value (piece m)) _ (ap is_some b.0) (is_linked (number 4 m 0) b.1)
      ∙ ap (option_map (λ (vs : List V). value (piece m) ∷ vs)) (first_broken k n (drop (number 4 m 0) m) e b.2)

  pub items_broken : (m : List ℕ) (e : E) → BreaksChain fault m e → items_in value (λ m. is_some (fault m)) m ≡ None
  unfolding items_in
  items_broken [] e b = absurd (b.some refl)
  items_broken (x ∷ xs) e b = first_broken b.count (length (x ∷ xs)) (x ∷ xs) e b.break

pub contexts_broken : (m : List ℕ) (e : ChainError) → BreaksChain (first_fault request_due) m e → contexts_in m ≡ None
unfolding contexts_in
contexts_broken m e b = ap (option_map request_contexts) (items_broken context_in (first_fault request_due) m e b)

-- ---- texts

odd_units : (bytes : List ℕ) → length bytes % 2 ≡ 1 → units_in bytes ≡ None
unfolding units_in
odd_units [] e = absurd cc
odd_units (a ∷ []) e = refl
odd_units (a ∷ b ∷ rest) e = ap (option_map (λ (us : List ℕ). (a + 256 * b) ∷ us)) (odd_units rest (omega (arith, e)))

lone_none : (u : ℕ) → 0xd800 ≤ u → u < 0xe000 → lone_unit_char u ≡ None
lone_none u low high = grind (arith, common_steps)

-- units that begin with a surrogate without a partner
lone_first : (u : ℕ) (us : List ℕ) → 0xd800 ≤ u → u < 0xe000 → (IsPair u (get_or us 0 0) → ⊥) → characters_in (Some (u ∷ us)) ≡ None
unfolding characters_in all_there
lone_first u us low high apart = ap all_there (utf16_chars_lone u us apart) ∙ ap (λ (x : Option ℕ). all_there (x ∷
    utf16_chars us)) (lone_none u low high)

-- what the first unit of the rest is
next_unit : (bytes us : List ℕ) → units_in bytes ≡ Some us → (us ≡ []) ⊎ (get_or us 0 0 ≡ number 2 bytes 0)
unfolding units_in bytes_at number_of
next_unit [] us e = inl cc
next_unit (a ∷ []) us e = absurd cc
next_unit (a ∷ b ∷ rest) us e = by_rest (units_in rest) us e
  where
    by_rest : (o : Option (List ℕ)) (us : List ℕ) → option_map (λ (vs : List ℕ). (a + 256 * b) ∷ vs) o ≡ Some us → (us ≡
        []) ⊎ (get_or us 0 0 ≡ a + 256 * (b + 256 * 0))
    by_rest None us e = absurd cc
    by_rest (Some vs) us e = let same : ((a + 256 * b) ∷ vs) ≡ us = cc in inr (ap (λ (l : List ℕ). get_or l 0 0) (sym same) ∙ omega arith)

-- a surrogate without a partner at the front
abbrev Lone : List ℕ → Type 0
Lone bytes = IsLow (number 2 bytes 0) ⊎ IsHigh (number 2 bytes 0) × (IsLow (number 2 bytes 2) → ⊥)

lone_front : (a b : ℕ) (more us : List ℕ) → units_in more ≡ Some us → Lone (a ∷ b ∷ more) → characters_in (Some ((a + 256 * b) ∷ us)) ≡ None
unfolding bytes_at number_of
lone_front a b more us e (inl low) =
    let least = low.0 in
    let most = low.1 in
    lone_first (a + 256 * b) us (omega (arith, least)) (omega (arith, most)) (λ pair. let below = pair.1 in omega (arith, below, least))
lone_front a b more us e (inr high) =
    let least = high.0.0 in
    let most = high.0.1 in
    let apart : IsPair (a + 256 * b) (get_or us 0 0) → ⊥ = λ pair. by_next (next_unit more us e) pair.2 pair.3 in
    lone_first (a + 256 * b) us (omega (arith, least)) (omega (arith, most)) apart
  where
    by_next : (us ≡ []) ⊎ (get_or us 0 0 ≡ number 2 more 0) → 0xdc00 ≤ get_or us 0 0 → get_or us 0 0 < 0xe000 → ⊥
    by_next (inl none) low top = let zero_is : get_or us 0 0 ≡ 0 = ap (λ (l : List ℕ). get_or l 0 0) none in omega (arith, low, zero_is)
    by_next (inr same) low top = high.1 (omega (arith, same, low), omega (arith, same, top))

two_none : (a b : ℕ) (more : List ℕ) → units_in more ≡ None → characters_in (units_in (a ∷ b ∷ more)) ≡ None
unfolding units_in characters_in
two_none a b more e = ap (λ (o : Option (List ℕ)). characters_in (option_map (λ (us : List ℕ). (a + 256 * b) ∷ us) o)) e

two_some : (a b : ℕ) (more us : List ℕ) → units_in more ≡ Some us → characters_in (units_in (a ∷ b ∷ more)) ≡
    characters_in (Some ((a + 256 * b) ∷ us))
unfolding units_in
two_some a b more us e = ap (λ (o : Option (List ℕ)). characters_in (option_map (λ (us : List ℕ). (a + 256 * b) ∷ us) o)) e

lone_units : (rest : List ℕ) → 2 ≤ length rest → Lone rest → characters_in (units_in rest) ≡ None
lone_units [] long lone = absurd (omega (arith, long))
lone_units (a ∷ []) long lone = absurd (omega (arith, long))
lone_units (a ∷ b ∷ more) long lone = by_more (units_in more) refl
  where
    by_more : (o : Option (List ℕ)) → units_in more ≡ o → characters_in (units_in (a ∷ b ∷ more)) ≡ None
    by_more None e = two_none a b more e
    by_more (Some us) e = two_some a b more us e ∙ lone_front a b more us e lone

lone_behind : (cs rest : List ℕ) → all_scalars cs ≡ true → characters_in (units_in rest) ≡ None → characters_in
    (units_in (utf16_of cs ++ rest)) ≡ None
lone_behind [] rest all none = none
lone_behind (c ∷ cs) rest all none =
    let parts = each c cs all in
    ap (λ (l : List ℕ). characters_in (units_in l)) (append_assoc (units_of c) (utf16_of cs) rest) ∙ char_in c (utf16_of
    cs ++ rest) parts.0 ∙ ap (option_map (λ (ds : List ℕ). c ∷ ds)) (lone_behind cs rest parts.1 none)

at_behind : (bytes : List ℕ) (at : ℕ) → IsLone bytes at → Lone (drop at bytes)
unfolding bytes_at
at_behind bytes at (inl low) = inl low
at_behind bytes at (inr high) = inr (
  high.0,
  λ low. high.1 (subst (λ (l : List ℕ). IsLow (number_of (take 2 l)))
      (drop-drop 2 at bytes) low),
)

lone_text : (bytes : List ℕ) (at : ℕ) → IsReadTo bytes at → IsLone bytes at → characters_in (units_in bytes) ≡ None
lone_text bytes at (cs, scalars, units, inside) lone =
    let parts : bytes ≡ utf16_of cs ++ drop at bytes = sym (take-append-drop at bytes) ∙ ap (λ (l : List ℕ). l ++ drop
    at bytes) (sym units) in
    let long : 2 ≤ length (drop at bytes) = omega (arith, length-drop at bytes, inside) in
    ap (λ (l : List ℕ). characters_in (units_in l)) parts ∙ lone_behind cs (drop at bytes) scalars (lone_units (drop at
    bytes) long (at_behind bytes at lone))

pub text_broken : (bytes : List ℕ) (e : TextError) → BreaksUtf16 bytes e → (e ≡ errors.Memory → ⊥) → text_in bytes ≡ None
unfolding text_in characters_in
text_broken bytes errors.Memory broken other = absurd (other refl)
text_broken bytes (errors.OddLength n) broken other =
    let size = broken.0 in
    let odd = broken.1 in
    ap (λ (o : Option (List ℕ)). option_map encode_utf8_all (characters_in o)) (odd_units bytes (omega (arith, size, odd)))
text_broken bytes (errors.LoneSurrogate at) broken other = ap (option_map encode_utf8_all) (lone_text bytes at broken.1 broken.2)
