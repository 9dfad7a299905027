-- What the contexts of a NEGOTIATE offer or choose (MS-SMB2 2.2.3.1.1, 2.2.3.1.2, 2.2.3.1.7, 2.2.4.1).
use Rattle.std.specs.Prelude.{ℕ, zero, suc, ◌+◌, ◌*◌, Bool, true, false, ◌&&◌, ◌||◌, ◌==◌, nat_le, nat_lt, not}
use Rattle.std.specs.Prelude.{if◌then◌else◌, List, [], ◌∷◌, ◌++◌, length, Option, Some, None, flat_map}
use Rattle.spec_wire.specs.messages.Places.{le, number}
use Rattle.spec_wire.specs.messages.Contexts.{Context, contexts_end, contexts_in, with_contexts}
use Rattle.spec_wire.specs.declared.messages.refusal.CtxError.{CtxError}
use Rattle.spec_wire.specs.declared.messages.refusal.CtxError.TheVariants.{Short, Doubled}

-- Whether there is a preauthentication context and whether it names SHA-512; ciphers and signing algorithms in their
-- order.
pub record OfferValue : Type 0 where
  pub sha512 : Bool
  pub preauth : Bool
  pub ciphers : List ℕ
  pub signings : List ℕ

-- so many numbers of 2 bytes from a place on
unfoldable pub ids_at : List ℕ → ℕ → ℕ → List ℕ
ids_at m at zero = []
ids_at m at (suc n) = number 2 m at ∷ ids_at m (at + 2) n

-- Type 1, preauthentication: HashAlgorithmCount, SaltLength, the ids, the salt. Types 2, encryption, and 8, signing:
-- a count, the ids. Contexts of other types are passed over.
abbrev pub is_known : ℕ → Bool
is_known kind = (kind == 1) || (kind == 2) || (kind == 8)

abbrev pub ids_of : Context → List ℕ
ids_of c = ids_at c.bytes (if c.kind == 1 then 4 else 2) (number 2 c.bytes 0)

-- a context's own lists fit
abbrev pub lists_fit : Context → Bool
lists_fit c =
    if c.kind == 1 then nat_le (4 + 2 * number 2 c.bytes 0 + number 2 c.bytes 2) (length c.bytes)
    else if is_known c.kind then nat_le (2 + 2 * number 2 c.bytes 0) (length c.bytes)
    else true

unfoldable pub all_fit : List Context → Bool
all_fit [] = true
all_fit (c ∷ cs) = lists_fit c && all_fit cs

-- the first context of a kind
unfoldable pub first_of : ℕ → List Context → Option Context
first_of kind [] = None
first_of kind (c ∷ cs) = if c.kind == kind then Some c else first_of kind cs

abbrev pub ids_in : Option Context → List ℕ
ids_in None = []
ids_in (Some c) = ids_of c

abbrev pub is_there : Option Context → Bool
is_there None = false
is_there (Some c) = true

unfoldable pub has_id : ℕ → List ℕ → Bool
has_id id [] = false
has_id id (x ∷ xs) = (x == id) || has_id id xs

-- SHA-512 is the hash 1
abbrev pub offer_of : List Context → OfferValue
offer_of cs =
    record {
      sha512 = has_id 1 (ids_in (first_of 1 cs));
      preauth = is_there (first_of 1 cs);
      ciphers = ids_in (first_of 2 cs);
      signings = ids_in (first_of 8 cs);
    }

-- the first known type that stood before, `seen` being those before the list
unfoldable pub doubled : List ℕ → List Context → Option ℕ
doubled seen [] = None
doubled seen (c ∷ cs) = if is_known c.kind && has_id c.kind seen then Some c.kind else doubled (c.kind ∷ seen) cs

abbrev pub doubled_fault : Option ℕ → Option CtxError
doubled_fault None = None
doubled_fault (Some kind) = Some (Doubled kind)

-- Short, where the contexts counted, or a context's own lists, don't fit; else a known type that stands twice.
abbrev pub offer_fault : List ℕ → ℕ → Option CtxError
offer_fault bytes count =
    if nat_lt (length bytes) (contexts_end bytes 0 count) || not (all_fit (contexts_in bytes 0 count)) then Some Short
    else doubled_fault (doubled [] (contexts_in bytes 0 count))

-- the offer that stands in the bytes, which begin at a multiple of 8
abbrev pub offer_in : List ℕ → ℕ → OfferValue
offer_in bytes count = offer_of (contexts_in bytes 0 count)

-- What is written: each kind that is offered, in the order of their types.
abbrev pub ids_spelling : List ℕ → List ℕ
ids_spelling ids = flat_map (λ id. le 2 id) ids

abbrev pub preauth_ids : OfferValue → List ℕ
preauth_ids v = if v.sha512 then 1 ∷ [] else []

abbrev pub preauth_context : OfferValue → List ℕ → Context
preauth_context v salt =
    record {
      kind = 1;
      bytes = le 2 (length (preauth_ids v)) ++ (le 2 (length salt) ++ (ids_spelling (preauth_ids v) ++ salt));
    }

abbrev pub ids_context : ℕ → List ℕ → Context
ids_context kind ids = record { kind = kind; bytes = le 2 (length ids) ++ ids_spelling ids }

-- a context for a list, and none for an empty one
abbrev pub ids_contexts : ℕ → List ℕ → List Context
ids_contexts kind [] = []
ids_contexts kind (x ∷ xs) = ids_context kind (x ∷ xs) ∷ []

abbrev pub offer_contexts : OfferValue → List ℕ → List Context
offer_contexts v salt = (if v.preauth then preauth_context v salt ∷ [] else []) ++ (ids_contexts 2 v.ciphers ++ ids_contexts 8 v.signings)

abbrev pub offer_count : OfferValue → ℕ
offer_count v = (if v.preauth then 1 else 0) + ((if length v.ciphers == 0 then 0 else 1) + (if length v.signings == 0 then 0 else 1))

abbrev pub offer_spelling : OfferValue → List ℕ → List ℕ
offer_spelling v salt = with_contexts [] (offer_contexts v salt)
